-- What reads owe, in a sound state.
use Rattle.std.specs.Prelude.{◌≡◌, ◌≤◌, ℕ, max, true, false, Option, Some, None, List, refl}
use Rattle.std.proofs.Common.{ap, sym, subst, ◌∙◌, inl, inr, arith}
use Rattle.crdt_core.specs.Map.{map_get}
use Rattle.crdt_core.specs.Order.{AtMost}
use Rattle.cluster_machine.specs.Hashes.{NoClash}
use Rattle.cluster_machine.specs.Node.{read}
use Rattle.cluster_machine.specs.World.{numbered}
use Rattle.machine_origins.specs.Origins.{Gave}
use Rattle.k2v_rows.specs.declared.k2v_row.K2vRow.{K2vRow}
use Rattle.k2v_rows.specs.Token.{TimeMap}
use Rattle.k2v_rows.specs.Row.{ItemKey, item_key, row_join, discard_at, value_of, time_at}
use Rattle.k2v_rows.proofs.Facts.{value_past, joined_discard_at}
use Rattle.k2v_schema.specs.Schema.{words}
use Rattle.k2v_model.specs.Orders.{token_in}
use Rattle.k2v_model.specs.Run.{ItemRequest, Stage, stored, over, is_stored, token_at, State}
use Rattle.k2v_model.specs.Owed.{IsWrite, HasRead, Shows, AreWhole, ReadsCover, ReadsShowWrites, ReadsLeaveReplaced}
use Rattle.k2v_laws.proofs.Every.{EveryWorld, reached_good}
use Rattle.k2v_laws.proofs.Good.{one_entry, IsLive, Knows, IsGood, knows_right}
use Rattle.k2v_laws.proofs.Later.{read_token}
use Rattle.k2v_laws.proofs.Sound.{IsGoodRow, IsRowOf, IsGiven, IsStage, IsSound}
use Rattle.k2v_laws.proofs.Tokens.{shown_before}

-- an acknowledged write goes on or was acknowledged
stored_live : (stage : Stage) → is_stored stage ≡ true → stage ≡ over → ⊥
stored_live stage is e = let no : true ≡ false = sym is ∙ ap is_stored e in cc

pub are_whole : {H : List ℕ → Type 0} (every : EveryWorld) (s : State) → IsSound H s → NoClash H → AreWhole s
are_whole {H = H} every s sound clear question row there =
    let g : Gave words (IsGoodRow H s.requests) (read question (Some row)) = reached_good every s.requests s.world sound.reached (read question (Some row)) there in
    λ node later q shows lt w was. g.0.whole clear node later q shows.0 shows.1 lt w (stored_live w.one.stage was)

module _ {H : List ℕ → Type 0} (s : State) (sound : IsSound H s) where
  -- what a finished read gave
  given_of : (r : ℕ) (key : ItemKey) (given : Option K2vRow) (begun : ℕ) (one : HasRead s.requests r key given begun) → IsGiven H s.requests one.one given begun
  given_of r key given begun one = subst (IsStage H s.requests s.world.kept r one.one) one.stage_is (sound.entries r one.one one.is_there).stage

  given_good : (r : ℕ) (key : ItemKey) (given : Option K2vRow) (begun : ℕ) (one : HasRead s.requests r key given begun) (row : K2vRow) → given ≡ Some row → IsGood H s.requests key begun row
  given_good r key given begun one row e = subst (λ k. IsGood H s.requests k begun row) one.key_is ((given_of r key given begun one).good row e)

  -- a write that was acknowledged before a read began: its row is at most what the read gave
  pub record IsUnder (r : ℕ) (key : ItemKey) (given : Option K2vRow) (begun : ℕ) (q node : ℕ) (w : IsWrite s.requests q key node) : Type 0 where
    pub row : K2vRow
    pub stage_is : w.one.stage ≡ stored row
    pub own : IsRowOf H s.requests q w.one row
    pub given_row : K2vRow
    pub given_is : given ≡ Some given_row
    pub under : AtMost row_join row given_row
    pub keys : item_key given_row ≡ item_key row

  is_under : NoClash H → (r : ℕ) (key : ItemKey) (given : Option K2vRow) (begun : ℕ) (one : HasRead s.requests r key given begun) (q node : ℕ) (w : IsWrite s.requests q key node) → one.one.before q ≡ true → IsUnder r key given begun q node w
  is_under clear r key given begun one q node w before =
      let was = (sound.entries r one.one one.is_there).before q before in
      let same : was.0 ≡ w.one = one_entry s.requests q was.0 w.one was.2 w.is_there in
      let stage_is : w.one.stage ≡ stored was.1 = sym (ap (λ (o : ItemRequest). o.stage) same) ∙ was.3 in
      let own : IsStage H s.requests s.world.kept q w.one (stored was.1) = subst (IsStage H s.requests s.world.kept q w.one) stage_is (sound.entries q w.one w.is_there).stage in
      let over = (given_of r key given begun one).covers clear q w.one was.1 before w.is_there stage_is (w.key_is ∙ sym one.key_is) in
      record {
        row = was.1;
        stage_is = stage_is;
        own = own.0;
        given_row = over.0;
        given_is = over.1;
        under = over.2;
        keys = (given_good r key given begun one over.0 over.1).key_is ∙ sym (own.0.good.key_is ∙ w.key_is);
      }

  pub reads_cover : NoClash H → ReadsCover s
  reads_cover clear r key given begun one q node w before =
      let u = is_under clear r key given begun one q node w before in
      let shows : value_of u.row node q ≡ Some w.value = subst (λ n. value_of u.row n q ≡ Some w.value) w.node_is (u.own.shows w.value w.token w.writes) in
      let live : IsLive w = (λ e. (let no : stored u.row ≡ over = sym u.stage_is ∙ e in cc)) in
      elim (subst (λ x. Knows x node q) u.under (knows_right u.given_row u.row u.keys node q (inl (w.value, shows)))) [
        | inl known ↦ inl (subst (λ o. Shows o node q) (sym u.given_is) known)
        | inr past ↦ inr ((given_good r key given begun one u.given_row u.given_is).covered clear node q past w live)
      ]

  pub reads_show_writes : ReadsShowWrites s
  reads_show_writes r key None begun one node q value shows = absurd shows
  reads_show_writes r key (Some row) begun one node q value shows =
      let was = (given_good r key (Some row) begun one row refl).values node q value shows in (was.0.write, was.1, was.2)

  pub reads_leave_replaced : NoClash H → ReadsLeaveReplaced s
  reads_leave_replaced clear r key given begun one u at w before None then earlier node q shown_then shows = absurd shown_then
  reads_leave_replaced clear r key None begun one u at w before (Some seen) then earlier node q shown_then shows = absurd shows
  reads_leave_replaced clear r key (Some row) begun one u at w before (Some seen) then earlier node q shown_then shows =
      let i = is_under clear r key (Some row) begun one u at w before in
      let row_is : i.given_row ≡ row = (let some_is : Some row ≡ Some i.given_row = i.given_is in cc) in
      let token_is : token_at (numbered s.requests w.token) ≡ token_in seen = read_token s.requests key w.token (Some seen) then earlier in
      let low : q ≤ time_at (token_in seen) node = shown_before seen node q shown_then.0 shown_then.1 in
      let raised : time_at (token_in seen) node ≤ discard_at i.row node = subst (λ (t : TimeMap). time_at t node ≤ discard_at i.row node) token_is (i.own.replaces w.value w.token w.writes node) in
      let joined : discard_at i.given_row node ≡ max (discard_at i.given_row node) (discard_at i.row node) = ap (λ (x : K2vRow). discard_at x node) (sym i.under) ∙ joined_discard_at i.given_row i.row i.keys node in
      let past : q ≤ discard_at i.given_row node = omega (arith, low, raised, joined) in
      let none : value_of i.given_row node q ≡ None = value_past (map_get i.given_row.entries node) q past in
      let no : None ≡ Some shows.0 = sym none ∙ (ap (λ (x : K2vRow). value_of x node q) row_is ∙ shows.1) in
      cc
