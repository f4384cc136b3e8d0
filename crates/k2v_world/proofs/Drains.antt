-- Deliveries of the least message that was neither delivered nor lost, one by one.
use Rattle.std.proofs.Common.{◌≡◌, ℕ, suc, Some, None, List, [], ◌++◌, refl, sym, ap, ◌∙◌, subst, append_assoc, append-nil}
use Rattle.cluster_machine.specs.declared.step.Words.TheVariants.{Empty}
use Rattle.cluster_machine.specs.World.{undelivered}
use Rattle.cluster_machine.specs.Worlds.{FitAll, HaveRoom, run}
use Rattle.k2v_rows.specs.Row.{row_join}
use Rattle.k2v_schema.specs.Schema.{words}
use Rattle.k2v_model.specs.declared.line.ItemLine.{ItemLine}
use Rattle.k2v_model.specs.Run.{Moving, State, Outcome, silent, delivers, then_drains, drains}
use Rattle.k2v_text.specs.declared.event.ItemTold.{ItemTold}
use Rattle.k2v_world.specs.declared.world.ItemWorld.{ItemWorld}
use Rattle.k2v_world.specs.Stands.{IsItems, HasItems, Does, Plays, Overflows}
use Rattle.k2v_model.proofs.Leads.{fit_more, room_first, room_rest, run_more, delivers_lead, drains_quietly, drains_empty, drains_one, drains_none}

-- the outcome of some deliveries, and then of others
abbrev after_these : List Moving → List ItemLine → Outcome → Outcome
after_these moves lines o = record { state = o.state; moves = moves ++ o.moves; refused = None; words = Empty; lines = lines ++ o.lines }

-- the world of items came to some state, and what was done with up to so many deliveries from there is all
pub record Drained (c : ItemWorld) (lines : List ItemLine) (left : ℕ) (s : State) (whole : Outcome) : Type 0 where
  pub state : State
  pub stands : IsItems c state
  pub moves : List Moving
  pub fits : FitAll row_join words s.world moves
  pub leads : run row_join words s.world moves ≡ state.world
  pub all : whole ≡ after_these moves lines (drains left state)

-- whatever state the first stood for
pub record Draining (first now : ItemWorld) (lines : List ItemLine) (left count : ℕ) : Type 0 where
  pub held : HasItems now
  pub drained : (s : State) → IsItems first s → Drained now lines left s (drains count s)

pub draining_none : (c : ItemWorld) (count : ℕ) → HasItems c → Draining c c [] count count
draining_none c count has = record {
  held = has;
  drained = λ s d. record {
    state = s;
    stands = d;
    moves = [];
    fits = tt;
    leads = refl;
    all = λ i. record (drains count s) { refused = drains_quietly count s i; words = drains_empty count s i };
  };
}

module _ (first now : ItemWorld) (lines : List ItemLine) (left rest count m : ℕ) (e : left ≡ suc rest) (so_far : Draining first now lines left count) (least : (s : State) → IsItems now s → Some m ≡ undelivered s.world) where
  one_left : (s : State) → IsItems now s → drains left s ≡ then_drains (delivers s m) (drains rest (delivers s m).state)
  one_left s d = ap (λ k. drains k s) e ∙ drains_one rest m s (sym (least s d))

  draining_more : (new : ItemWorld) (told : ItemTold) → Plays now new told (λ s. delivers s m) → (s : State) → IsItems first s → Drained new (lines ++ told.lines) rest s (drains count s)
  draining_more new told plays s d =
      let h = so_far.drained s d in
      let o : Outcome = delivers h.state m in
      let does : Does new told h.state o = plays h.state h.stands in
      let then : Outcome = drains rest o.state in
      record {
        state = o.state;
        stands = does.stands;
        moves = h.moves ++ o.moves;
        fits = fit_more s.world h.moves o.moves h.fits (subst (λ w. FitAll row_join words w o.moves) (sym h.leads) does.fits);
        leads = run_more s.world h.moves o.moves ∙ ap (λ w. run row_join words w o.moves) h.leads ∙ delivers_lead h.state m;
        all =
            h.all
            ∙ ap (after_these h.moves lines) (one_left h.state h.stands)
            ∙ (λ i. record (after_these [] [] then) {
              moves = sym (append_assoc h.moves o.moves then.moves) i;
              lines = (ap (λ ls. lines ++ (ls ++ then.lines)) (sym does.tells.lines) ∙ sym (append_assoc lines told.lines then.lines)) i;
            });
      }

  pub draining_on : (new : ItemWorld) (told : ItemTold) → Plays now new told (λ s. delivers s m) → Draining first new (lines ++ told.lines) rest count
  draining_on new told plays = record { held = ((delivers so_far.held.0 m).state, (plays so_far.held.0 so_far.held.1).stands); drained = draining_more new told plays }

  pub drain_overflows : Overflows now (λ s. delivers s m) → Overflows first (λ s. drains count s)
  drain_overflows full s d fits =
      let h = so_far.drained s d in
      let o : Outcome = delivers h.state m in
      let then : Outcome = drains rest o.state in
      let here : HaveRoom row_join words s.world (h.moves ++ (o.moves ++ then.moves)) = subst (λ (o : Outcome). HaveRoom row_join words s.world o.moves) (h.all ∙ ap (after_these h.moves lines) (one_left h.state h.stands)) fits in
      full h.state h.stands (subst (λ w. HaveRoom row_join words w o.moves) h.leads (room_first (run row_join words s.world h.moves) o.moves then.moves (room_rest s.world h.moves (o.moves ++ then.moves) here)))

module _ (first now : ItemWorld) (lines : List ItemLine) (left count : ℕ) (so_far : Draining first now lines left count) where
  drained_plays : ((s : State) → IsItems now s → drains left s ≡ silent s) → Plays first now (record { refused = None; words = Empty; lines = lines }) (λ s. drains count s)
  drained_plays ends s d =
      let h = so_far.drained s d in
      let is : drains count s ≡ record { state = h.state; moves = h.moves; refused = None; words = Empty; lines = lines } =
      h.all
      ∙ ap (after_these h.moves lines) (ends h.state h.stands)
      ∙ (λ i. record (silent h.state) { moves = append-nil h.moves i; lines = append-nil lines i })
      in
      subst (λ (o : Outcome). Does now (record { refused = None; words = Empty; lines = lines }) s o) (sym is) (record {
        stands = h.stands;
        tells = record { refused = refl; words = refl; lines = refl };
        fits = h.fits;
      })

  pub drained_early : ((s : State) → IsItems now s → None ≡ undelivered s.world) → Plays first now (record { refused = None; words = Empty; lines = lines }) (λ s. drains count s)
  drained_early none = drained_plays (λ s d. drains_none left s (sym (none s d)))

  pub drained_all : left ≡ 0 → Plays first now (record { refused = None; words = Empty; lines = lines }) (λ s. drains count s)
  drained_all e = drained_plays (λ s d. ap (λ n. drains n s) e)
