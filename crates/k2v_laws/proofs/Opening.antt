-- A request that begins keeps a state sound.
use Rattle.std.specs.Prelude.{◌≡◌, ◌⊎◌, ℕ, zero, suc, ◌==◌, ◌&&◌, ◌||◌, Bool, true, false, cond, if◌then◌else◌, Option, Some, None, List, [], ◌∷◌, ◌++◌, length, slice_get, refl}
use Rattle.std.specs.Option.{unwrap_or}
use Rattle.std.specs.List.{Contains}
use Rattle.std.specs.Ordering.{is_eq}
use Rattle.std.specs.declared.cmp.Ordering.{Ordering}
use Rattle.std.specs.declared.cmp.Ordering.TheVariants.{Less, Equal, Greater}
use Rattle.std.specs.Cmp.{tied_itself}
use Rattle.std.proofs.Common.{ap, sym, subst, ◌∙◌, inl, inr, arith, rules}
use Rattle.std.proofs.lemmas.Bool.{eqb-true}
use Rattle.std.proofs.lemmas.List.Elements.{All-nil}
use Rattle.crdt_core.specs.EntryLaws.{and_parts}
use Rattle.layout_roles.specs.declared.layout.Layout.{Layout}
use Rattle.cluster_machine.specs.declared.step.Step.TheVariants.{Open}
use Rattle.cluster_machine.specs.Layouts.{layouts}
use Rattle.cluster_machine.specs.Node.{Present, resting, asking, scanning, storing as keeping, fetching, Call, Node}
use Rattle.cluster_machine.specs.Phases.{opened as node_opened}
use Rattle.cluster_machine.specs.World.{Request, is_member_at, numbered}
use Rattle.cluster_machine.specs.Step.{only, changed}
use Rattle.cluster_machine.specs.Worlds.{newest_at, IsLawfulRun, next}
use Rattle.machine_origins.specs.Following.{Began}
use Rattle.k2v_rows.specs.declared.value.K2vValue.{K2vValue}
use Rattle.k2v_rows.specs.declared.k2v_row.K2vRow.{K2vRow}
use Rattle.k2v_rows.specs.Row.{ItemKey, item_cmp, row_join}
use Rattle.k2v_rows.specs.RowLaws.{item_total, item_identical}
use Rattle.k2v_schema.specs.Schema.{words, key_of as row_key}
use Rattle.k2v_model.specs.declared.order.Order.{Order}
use Rattle.k2v_model.specs.declared.order.Ask.{Ask}
use Rattle.k2v_model.specs.declared.order.Ask.TheVariants.{Write, Read}
use Rattle.k2v_model.specs.Orders.{key_of, is_same_key, empty_row, asks_for, is_write}
use Rattle.k2v_model.specs.Run.{World, ItemRequest, Stage, reading, storing, stored, shown, over, is_open, is_stored, is_shown, State, Outcome, passes, has_shown, is_open_write, busy_from, is_token, plainly, new_request, with_request, begins_reading, unless_busy, admits, is_bucket, begins}
use Rattle.k2v_model.specs.Owed.{IsWrite}
use Rattle.k2v_laws.proofs.Acting.{phase_sound}
use Rattle.k2v_laws.proofs.Every.{EveryWorld, reached_step, reached_later}
use Rattle.k2v_laws.proofs.Good.{one_entry, write_token, never_write}
use Rattle.k2v_laws.proofs.Grown.{Grows, grows_push}
use Rattle.k2v_laws.proofs.Hashing.{HashesIn, FitIn}
use Rattle.k2v_laws.proofs.Later.{entry_later, fits_later}
use Rattle.machine_origins.proofs.Places.{length_push, numbered_append, numbered_push_cases, numbered_last, numbered_within}
use Rattle.k2v_laws.proofs.Placing.{asks_is_step}
use Rattle.k2v_laws.proofs.Sound.{BeganAt, Fits, IsPresent, ArePresent, IsTokenOf, IsGiven, IsStage, HasBefore, IsEntry, Passed, ArePassed, IsSound}

-- ---- tests

is_equal : (o : Ordering) → is_eq o ≡ true → o ≡ Equal
is_equal Less e = cc
is_equal Equal e = refl
is_equal Greater e = cc

-- two keys that are the same are one
pub same_key : (a b : ItemKey) → is_same_key a b ≡ true → a ≡ b
same_key a b e = item_identical a b (is_equal (item_cmp a b) e)

key_itself : (a : ItemKey) → is_same_key a a ≡ true
key_itself a = ap is_eq (tied_itself item_total a)

number_itself : (n : ℕ) → (n == n) ≡ true
number_itself n = search rules

-- where none is found, none blocks
none_blocks : (k : ℕ) (requests : List ItemRequest) (n : ℕ) (key : ItemKey) (i : ℕ) (b : ItemRequest) → busy_from k requests n key ≡ None → slice_get requests i ≡ Some b → is_open_write n key b ≡ false
none_blocks k [] n key i b free at = cc
none_blocks k (a ∷ requests) n key zero b free at =
    let some_is : Some a ≡ Some b = at in
    let same : a ≡ b = cc in
    ap (is_open_write n key) (sym same) ∙ elim (is_open_write n key a) as (λ t. (if t then Some k else busy_from (suc k) requests n key) ≡ None → t ≡ false) [
      | true ↦ λ g. cc
      | false ↦ λ g. refl
    ] free
none_blocks k (a ∷ requests) n key (suc j) b free at =
    none_blocks (suc k) requests n key j b (elim (is_open_write n key a) as (λ t. (if t then Some k else busy_from (suc k) requests n key) ≡ None → busy_from (suc k) requests n key ≡ None) [
      | true ↦ λ g. cc
      | false ↦ λ g. g
    ] free) at

no_block : (requests : List ItemRequest) (n : ℕ) (key : ItemKey) (q : ℕ) (b : ItemRequest) → busy_from 1 requests n key ≡ None → numbered requests q ≡ Some b → is_open_write n key b ≡ false
no_block requests n key zero b free at = cc
no_block requests n key (suc i) b free at = none_blocks 1 requests n key i b free at

-- an open write of the item at the node blocks
open_blocks : (requests : List ItemRequest) (q : ℕ) (key : ItemKey) (n : ℕ) (w : IsWrite requests q key n) → is_open w.one.stage ≡ true → is_open_write n key w.one ≡ true
open_blocks requests q key n w opened_now =
    let same : is_same_key (key_of w.one.order.item) key ≡ true = ap (is_same_key (key_of w.one.order.item)) (sym w.key_is) ∙ key_itself (key_of w.one.order.item) in
    let here : (w.one.node == n) ≡ true = ap (λ k. w.one.node == k) (sym w.node_is) ∙ number_itself w.one.node in
    let writes : is_write w.one.order.ask ≡ true = ap is_write w.writes in
    rw (writes, opened_now, here, same) refl

-- what is acknowledged stored a row
was_stored : (stage : Stage) → is_stored stage ≡ true → (row : K2vRow) × (stage ≡ stored row)
was_stored reading e = cc
was_stored (storing row) e = cc
was_stored (stored row) e = (row, refl)
was_stored (shown given begun) e = cc
was_stored over e = cc

was_shown : (stage : Stage) → is_shown stage ≡ true → (given : Option K2vRow) × (begun : ℕ) × (stage ≡ shown given begun)
was_shown reading e = cc
was_shown (storing row) e = cc
was_shown (stored row) e = cc
was_shown (shown given begun) e = (given, begun, refl)
was_shown over e = cc

found : (test : ItemRequest → Bool) (o : Option ItemRequest) → passes test o ≡ true → (a : ItemRequest) × (o ≡ Some a) × (test a ≡ true)
found test None e = cc
found test (Some a) e = (a, refl, e)

-- ---- a request begins

-- a write may begin: its token is one, and no other write of the item is open at the node
abbrev pub MayBegin : State → ℕ → Order → Type 0
MayBegin s n order = (v : K2vValue) (token : ℕ) → order.ask ≡ Write v token → (is_token s.requests (key_of order.item) token ≡ true) × (busy_from 1 s.requests n (key_of order.item) ≡ None)

module _ {H : List ℕ → Type 0} (every : EveryWorld) (s : State) (n : ℕ) (order : Order) (may : MayBegin s n order) (member : is_member_at layouts s.world n ≡ true) (sound : IsSound H s) where
  abbrev q : ℕ
  q = suc (length s.world.requests)

  abbrev a : ItemRequest
  a = new_request s n order

  abbrev requests : List ItemRequest
  requests = s.requests ++ a ∷ []

  q_is : suc (length s.requests) ≡ q
  q_is = ap suc sound.lengths

  grows : Grows s.requests requests
  grows = grows_push s.requests a

  there : numbered requests q ≡ Some a
  there = ap (numbered requests) (sym q_is) ∙ numbered_last s.requests a

  cases : (p : ℕ) (b : ItemRequest) → numbered requests p ≡ Some b → (numbered s.requests p ≡ Some b) ⊎ ((p ≡ suc (length s.requests)) × (a ≡ b))
  cases p b at = numbered_push_cases s.requests a p b at

  new_before : HasBefore requests a
  new_before p is =
      let f = found (λ b. is_stored b.stage) (numbered s.requests p) is in
      let st = was_stored f.0.stage f.2 in (f.0, st.0, numbered_append s.requests (a ∷ []) p f.0 f.1, st.1)

  token_found : (token : ℕ) → has_shown s.requests (key_of order.item) token ≡ true → IsTokenOf requests (key_of order.item) q token
  token_found token e =
      let f = found (λ b. is_shown b.stage && is_same_key (key_of b.order.item) (key_of order.item)) (numbered s.requests token) e in
      let both = and_parts (is_shown f.0.stage) (is_same_key (key_of f.0.order.item) (key_of order.item)) f.2 in
      let st = was_shown f.0.stage both.0 in
      let own : IsGiven H s.requests f.0 st.0 st.1 = subst (IsStage H s.requests s.world.kept token f.0) st.2 (sound.entries token f.0 f.1).stage in
      let low = own.low in
      let lengths = sound.lengths in
      inr (st.0, st.1, record { one = f.0; is_there = numbered_append s.requests (a ∷ []) token f.0 f.1; key_is = same_key (key_of f.0.order.item) (key_of order.item) both.1; stage_is = st.2 }, omega (arith, low, lengths))

  token_is : (token : ℕ) → is_token s.requests (key_of order.item) token ≡ true → IsTokenOf requests (key_of order.item) q token
  token_is token e =
      elim (token == 0) as (λ t. (token == 0) ≡ t → (t || has_shown s.requests (key_of order.item) token) ≡ true → IsTokenOf requests (key_of order.item) q token) [
        | true ↦ λ t g. inl (eqb-true token 0 t)
        | false ↦ λ t g. token_found token g
      ] refl e

  new_entry : (kept : List K2vRow) → IsEntry H requests kept q a
  new_entry kept = record { before = new_before; token = λ v token asks. token_is token (may v token asks).0; stage = tt }

  blocked : (key : ItemKey) (p : ℕ) (v : IsWrite s.requests p key n) → (value : K2vValue) (token : ℕ) → order.ask ≡ Write value token → key_of order.item ≡ key → is_open v.one.stage ≡ true → ⊥
  blocked key p v value token asks key_is opened_now =
      let free : busy_from 1 s.requests n key ≡ None = ap (busy_from 1 s.requests n) (sym key_is) ∙ (may value token asks).1 in
      let no : true ≡ false = sym (open_blocks s.requests p key n v opened_now) ∙ no_block s.requests n key p v.one free v.is_there in
      cc

  -- each earlier write of the item at the node was acknowledged, or had ended
  passed_new : (key : ItemKey) (p : ℕ) (v : IsWrite s.requests p key n) → (value : K2vValue) (token : ℕ) → order.ask ≡ Write value token → key_of order.item ≡ key → (stage : Stage) → v.one.stage ≡ stage → Passed a p stage
  passed_new key p v value token asks key_is reading e = blocked key p v value token asks key_is (ap is_open e)
  passed_new key p v value token asks key_is (storing row) e = blocked key p v value token asks key_is (ap is_open e)
  passed_new key p v value token asks key_is (stored row) e = ap (passes (λ b. is_stored b.stage)) v.is_there ∙ ap is_stored e
  passed_new key p v value token asks key_is (shown given begun) e = tt
  passed_new key p v value token asks key_is over e = tt

  abbrev old_write : (key : ItemKey) (m p : ℕ) (v : IsWrite requests p key m) → numbered s.requests p ≡ Some v.one → IsWrite s.requests p key m
  old_write key m p v at = record { one = v.one; is_there = at; key_is = v.key_is; node_is = v.node_is; value = v.value; token = v.token; writes = v.writes }

  passed_of_new : (key : ItemKey) (m p r : ℕ) (v : IsWrite requests p key m) (w : IsWrite requests r key m) → numbered s.requests p ≡ Some v.one → a ≡ w.one → Passed w.one p v.one.stage
  passed_of_new key m p r v w at same =
      let node_is : n ≡ m = ap (λ (o : ItemRequest). o.node) same ∙ w.node_is in
      let here : IsWrite s.requests p key n = record { one = v.one; is_there = at; key_is = v.key_is; node_is = v.node_is ∙ sym node_is; value = v.value; token = v.token; writes = v.writes } in
      subst (λ (o : ItemRequest). Passed o p v.one.stage) same
      (passed_new key p here w.value w.token (ap (λ (o : ItemRequest). o.order.ask) same ∙ w.writes) (ap (λ (o : ItemRequest). key_of o.order.item) same ∙ w.key_is) v.one.stage refl)

  new_passed : ArePassed requests
  new_passed key m p r v w lt =
      let low_r = numbered_within requests r w.one w.is_there in
      let long = length_push s.requests a in
      elim (cases p v.one v.is_there) [
        | inl old_v ↦ elim (cases r w.one w.is_there) [
          | inl old_w ↦ sound.passed key m p r (old_write key m p v old_v) (old_write key m r w old_w) lt
          | inr new_w ↦ passed_of_new key m p r v w old_v new_w.1
        ]
        | inr new_v ↦ (let e = new_v.0 in absurd (omega (arith, e, lt, low_r, long)))
      ]

  -- calls stay, and the new one rests
  old_present : (m : ℕ) → ArePresent requests m (s.world.nodes m).calls
  old_present m c h =
      let was = sound.presents m c h in
      let within = numbered_within s.requests c.request was.began.one was.began.is_there in
      record {
        began = record { one = was.began.one; is_there = numbered_append s.requests (a ∷ []) c.request was.began.one was.began.is_there; node_is = was.began.node_is };
        fits = fits_later s.requests requests grows s.world.kept sound.entries c.request (λ b at. elim (cases c.request b at) [ inl old ↦ inr old | inr e ↦ (let is = e.0 in absurd (omega (arith, is, within))) ]) c.present was.fits;
      }

  pub with_request_sound : IsLawfulRun row_join words s.world (plainly (Open n) ∷ []) → HashesIn H s.world (plainly (Open n)) → IsSound H (with_request s n order)
  with_request_sound lawful hashes =
      let new : Request = record { coordinator = n; is_open = true } in
      let y : Node K2vRow Layout = node_opened q (newest_at s.world n) (s.world.nodes n) in
      let w : World = next row_join words s.world (plainly (Open n)) in
      let requests_are : w.requests ≡ s.world.requests ++ new ∷ [] = rw member refl in
      let kept_is : w.kept ≡ s.world.kept = rw member refl in
      let nodes_are : w.nodes ≡ changed (only n y) s.world.nodes = rw member refl in
      let here : ArePresent requests n y.calls = (λ c h. elim h [
        | inl is ↦ subst (λ (d : Call K2vRow). IsPresent requests n d.request d.present) is (record { began = record { one = a; is_there = there; node_is = refl }; fits = tt })
        | inr more ↦ old_present n c more
      ]) in
      let lengths : length requests ≡ length w.requests = length_push s.requests a ∙ (ap suc sound.lengths ∙ sym (ap (λ (rs : List Request). length rs) requests_are ∙ length_push s.world.requests new)) in
      record {
        reached = reached_later s.requests requests w grows (reached_step s.requests s.world (plainly (Open n)) sound.reached lawful hashes (All-nil _));
        lengths = lengths;
        presents = subst (λ (f : ℕ → Node K2vRow Layout). (m : ℕ) → ArePresent requests m (f m).calls) (sym nodes_are)
            (λ m. elim (m == n) as (λ b. (m == n) ≡ b → ArePresent requests m (unwrap_or (cond b (Some y) None) (s.world.nodes m)).calls) [
              | true ↦ (λ t. subst (λ k. ArePresent requests k y.calls) (sym (eqb-true m n t)) here)
              | false ↦ (λ f. old_present m)
            ] refl);
        entries = λ p b at. elim (cases p b at) [
          | inl old ↦ subst (λ (k : List K2vRow). IsEntry H requests k p b) (sym kept_is) (entry_later s.requests requests grows s.world.kept s.world.kept (λ r c. c) p b (sound.entries p b old))
          | inr e ↦ subst (λ (o : ItemRequest). IsEntry H requests w.kept p o) e.1 (subst (λ (k : ℕ). IsEntry H requests w.kept k a) (sym (e.0 ∙ q_is)) (new_entry w.kept))
        ];
        passed = new_passed;
      }

  fits_asked : IsSound H (with_request s n order) → (m : ℕ) (p : Present K2vRow) → BeganAt requests m q → Began (with_request s n order).world.kept (asks_for order.item) p → Fits requests q p
  fits_asked sound m resting began b = tt
  fits_asked sound m (asking question answers) began b = λ c at is.
      let same : a ≡ c = one_entry requests q a c there at in
      record {
        table = b.1;
        key = b.3 ∙ ap (λ (o : ItemRequest). row_key (empty_row o.order.item)) same;
        has = λ p d row before at_p stage_is.
            let own : IsStage H requests (with_request s n order).world.kept p d (stored row) = subst (IsStage H requests (with_request s n order).world.kept p d) stage_is (sound.entries p d at_p).stage in
            subst (λ (k : List K2vRow). Contains k row) (sym b.4) own.1;
      }
  fits_asked sound m (scanning scan answers) began b = tt
  fits_asked sound m (keeping rows slots) began b = absurd b
  fits_asked sound m (fetching hash) began b = tt

  pub begins_reading_sound : FitIn H s.world (begins_reading s n order).moves → IsSound H (begins_reading s n order).state
  begins_reading_sound fits =
      let here : State = with_request s n order in
      let is_here : IsSound H here = with_request_sound (tt, tt, tt, fits.0.1, tt) fits.0.2 in
      phase_sound every here q (asks_for order.item) (fits_asked is_here) (tt, asks_is_step q order.item, tt, fits.1.0.1, tt) fits.1.0.2 (All-nil _) is_here

-- ---- what is refused changes nothing

module _ {H : List ℕ → Type 0} (every : EveryWorld) (s : State) (n : ℕ) (order : Order) (sound : IsSound H s) where
  abbrev Keeps : Outcome → Type 0
  Keeps o = FitIn H s.world o.moves → IsSound H o.state

  keeps_if : (b : Bool) (o p : Outcome) → (b ≡ true → Keeps o) → (b ≡ false → Keeps p) → Keeps (if b then o else p)
  keeps_if true o p h k = h refl
  keeps_if false o p h k = k refl

  unless_keeps : (value : K2vValue) (token : ℕ) → order.ask ≡ Write value token → is_member_at layouts s.world n ≡ true → is_token s.requests (key_of order.item) token ≡ true →
      (busy : Option ℕ) → busy_from 1 s.requests n (key_of order.item) ≡ busy → Keeps (unless_busy s n order busy)
  unless_keeps value token asks member is None free fits =
      begins_reading_sound every s n order (λ v t asked_it. (subst (λ k. is_token s.requests (key_of order.item) k ≡ true) (write_token (sym asks ∙ asked_it)) is, free)) member sound fits
  unless_keeps value token asks member is (Some r) free fits = sound

  admits_keeps : (ask : Ask) → order.ask ≡ ask → is_member_at layouts s.world n ≡ true → Keeps (admits s n order ask)
  admits_keeps (Write value token) asks member =
      keeps_if (is_token s.requests (key_of order.item) token) _ _ (λ is. unless_keeps value token asks member is (busy_from 1 s.requests n (key_of order.item)) refl) (λ f fits. sound)
  admits_keeps Read asks member = begins_reading_sound every s n order (λ v t asked_it. never_write (sym asks ∙ asked_it)) member sound

  pub begins_sound : Keeps (begins s n order)
  begins_sound =
      keeps_if (is_member_at layouts s.world n) _ _ (λ member. keeps_if (is_bucket s.buckets order.item.bucket) _ _ (λ b. admits_keeps order.ask refl member) (λ f fits. sound)) (λ f fits. sound)
