-- Rows come that a node has, or that lie where it has none: it has them, keeps what it had, and nothing is called for.
use Rattle.std.specs.Ordering.{is_eq}
use Rattle.std.specs.Prelude.{◌≡◌, ◌⊎◌, ℕ, true, false, cond, IsTrue, Option, Some, None, List, [], ◌∷◌, ◌++◌, refl}
use Rattle.std.specs.Option.{unwrap_or}
use Rattle.std.specs.List.{AllByRecursion}
use Rattle.std.proofs.Common.{ap, sym, subst, ◌∙◌, inl, inr}
use Rattle.std.proofs.lemmas.List.{append-nil}
use Rattle.std.specs.Cmp.{Equal-is, tied_itself}
use Rattle.crdt_core.specs.Laws.{JoinLaws}
use Rattle.crdt_core.specs.Order.{option_join}
use Rattle.table_schema.specs.Words.{Words}
use Rattle.table_model.specs.Rows.{place_cmp, place, is_at, row_at}
use Rattle.table_model.proofs.RowLaws.{place_total, place_identical}
use Rattle.cluster_machine.specs.Node.{Block, Node}
use Rattle.cluster_machine.specs.Rows.{has_block, with_block, block_of, blocks_after, queue_from, called_for, accepts, accepts_read, accepts_all}
use Rattle.drained_laws.specs.Waiting.{SomeOf}
use Rattle.change_laws.specs.Handing.{IsQuiet, AreGiven, AllKept, HasGood, IsGoodRow, Has}

module _ {R : Type 0} {join : R → R → R} (joins : JoinLaws join) (s : Words R) (quiet_rows : IsQuiet s) (good : R → Type 0) (proper : (r : R) → good r → IsTrue (s.is_proper r))
    (one : (a b : R) → good a → good b → s.table a ≡ s.table b → s.key a ≡ s.key b → a ≡ b) (H kept : List ℕ → Type 0) where
  -- ---- one row

  module _ (acc : List R) (has : HasGood join s good acc) (r : R) (is_good : good r) where
    -- what is at the row's place is the row
    same_there : (table : ℕ) (key : List ℕ) (x : R) → table ≡ s.table r → key ≡ s.key r → row_at join s acc table key ≡ Some x → x ≡ r
    same_there table key x e f h = let is = has.each table key x h in one x r is.0 is_good (is.1 ∙ e) (is.2 ∙ f)

    joined_by : (o : Option R) → ((x : R) → o ≡ Some x → x ≡ r) → option_join join o (Some r) ≡ Some r
    joined_by None h = refl
    joined_by (Some x) h = ap (λ z. Some (join z r)) (h x refl) ∙ ap Some (joins.idempotent r)

    -- at its place there is the row now, and elsewhere what was there
    step_is : (table : ℕ) (key : List ℕ) → ((row_at join s (r ∷ acc) table key ≡ Some r) × (table ≡ s.table r) × (key ≡ s.key r)) ⊎ (row_at join s (r ∷ acc) table key ≡ row_at join s acc table key)
    step_is table key =
        elim (is_at s table key r) as (λ b. is_at s table key r ≡ b → ((cond b (option_join join (row_at join s acc table key) (Some r)) (row_at join s acc table key) ≡ Some r) × (table ≡ s.table r) × (key ≡ s.key r)) ⊎ (cond b (option_join join (row_at join s acc table key) (Some r)) (row_at join s acc table key) ≡ row_at join s acc table key)) [
          | true ↦ (λ at.
              let same : (table, key) ≡ place s r = place_identical (table, key) (place s r) ((Equal-is (place_cmp (table, key) (place s r))).0 at) in
              let e : table ≡ s.table r = ap (λ (p : ℕ × List ℕ). p.0) same in
              let f : key ≡ s.key r = ap (λ (p : ℕ × List ℕ). p.1) same in
              inl (joined_by (row_at join s acc table key) (λ x h. same_there table key x e f h), e, f))
          | false ↦ (λ other. inr refl)
        ] refl

    pub there_now : row_at join s (r ∷ acc) (s.table r) (s.key r) ≡ Some r
    there_now =
        let at : is_at s (s.table r) (s.key r) r ≡ true = ap is_eq (tied_itself place_total (place s r)) in
        ap (λ b. cond b (option_join join (row_at join s acc (s.table r) (s.key r)) (Some r)) (row_at join s acc (s.table r) (s.key r))) at
        ∙ joined_by (row_at join s acc (s.table r) (s.key r)) (λ x h. same_there (s.table r) (s.key r) x refl refl h)

    pub stays_there : (table : ℕ) (key : List ℕ) (x : R) → row_at join s acc table key ≡ Some x → row_at join s (r ∷ acc) table key ≡ Some x
    stays_there table key x h = elim (step_is table key) [
      | inl now ↦ now.0 ∙ ap Some (sym (same_there table key x now.1 now.2 h))
      | inr same ↦ same ∙ h
    ]

    pub has_more : HasGood join s good (r ∷ acc)
    has_more = record {
      proper = (proper r is_good, has.proper);
      each = λ table key x h. elim (step_is table key) [
        | inl now ↦ (let same : r ≡ x = ap (λ o. unwrap_or o r) (sym now.0 ∙ h) in (subst good same is_good, sym (ap s.table same) ∙ sym now.1, sym (ap s.key same) ∙ sym now.2))
        | inr same ↦ has.each table key x (sym same ∙ h)
      ];
    }

    none_called : (o : Option R) → ((x : R) → o ≡ Some x → x ≡ r) → called_for join s o (Some r) ≡ []
    none_called None h = refl
    none_called (Some x) h = ap (λ z. s.triggered z r) (h x refl) ∙ quiet_rows r

    pub calls_none : called_for join s (row_at join s acc (s.table r) (s.key r)) (row_at join s (r ∷ acc) (s.table r) (s.key r)) ≡ []
    calls_none =
        ap (called_for join s (row_at join s acc (s.table r) (s.key r))) there_now
        ∙ none_called (row_at join s acc (s.table r) (s.key r)) (λ x h. same_there (s.table r) (s.key r) x refl refl h)

  -- ---- rows of one message

  added : (bs : List Block) (hash : List ℕ) (given : Option (List ℕ)) → AreGiven kept given → AllKept kept bs → AllKept kept (with_block bs hash given)
  added bs hash None is all = all
  added bs hash (Some bytes) is all = elim (has_block bs hash) as (λ b. AllKept kept (cond b bs (record { hash = hash; bytes = bytes } ∷ bs))) [ true ↦ all | false ↦ (is, all) ]

  accepted_kept : (bs : List Block) (needed given : Option (List ℕ)) → AreGiven kept given → AllKept kept bs → AllKept kept (blocks_after join s bs needed given)
  accepted_kept bs None given is all = all
  accepted_kept bs (Some hash) given is all = added bs hash given is all

  module _ {L : Type 0} where
    -- a node that took these rows
    pub record Took (x y : Node R L) (rows : List (List ℕ × Option (List ℕ))) : Type 0 where
      pub has : HasGood join s good y.accepted
      pub items : y.items ≡ x.items
      pub blocks : AllKept kept x.blocks → AllKept kept y.blocks
      pub stays : (table : ℕ) (key : List ℕ) (z : R) → row_at join s x.accepted table key ≡ Some z → row_at join s y.accepted table key ≡ Some z
      pub came : (r : R) → SomeOf (λ (b : List ℕ × Option (List ℕ)). s.read b.0 ≡ Some r) rows → Has join s good r y

    took_one : (now : ℕ) (x : Node R L) (r : R) (given : Option (List ℕ)) → HasGood join s good x.accepted → good r → (accepts join s now x r given).items ≡ x.items
    took_one now x r given has is_good = ap (λ rs. x.items ++ queue_from join s x.queued rs) (calls_none x.accepted has r is_good) ∙ append-nil x.items

    pub took_all : (now : ℕ) (x : Node R L) (rows : List (List ℕ × Option (List ℕ))) → HasGood join s good x.accepted → AllByRecursion (IsGoodRow join s good H kept) rows → Took x (accepts_all join s now x rows) rows
    took_all now x [] has all = record { has = has; items = refl; blocks = λ b. b; stays = λ table key z h. h; came = λ r h. elim h [ ] }
    took_all now x (b ∷ bs) has all =
        let r = all.0.0 in
        let y = accepts join s now x r b.1 in
        let reads : accepts_read join s now x (s.read b.0) b.1 ≡ y = ap (λ o. accepts_read join s now x o b.1) all.0.1 in
        let rest = took_all now y bs (has_more x.accepted has r all.0.2) all.1 in
        subst (λ z. Took x (accepts_all join s now z bs) (b ∷ bs)) (sym reads) (record {
          has = rest.has;
          items = rest.items ∙ took_one now x r b.1 has all.0.2;
          blocks = λ old. rest.blocks (accepted_kept x.blocks (block_of join s (row_at join s (r ∷ x.accepted) (s.table r) (s.key r))) b.1 all.0.3 old);
          stays = λ table key z h. rest.stays table key z (stays_there x.accepted has r all.0.2 table key z h);
          came = λ z h. elim h [
            | inl here ↦ (let same : r ≡ z = ap (λ o. unwrap_or o r) (sym all.0.1 ∙ here) in rest.stays (s.table z) (s.key z) z (subst (λ z. row_at join s (r ∷ x.accepted) (s.table z) (s.key z) ≡ Some z) same (there_now x.accepted has r all.0.2)))
            | inr there ↦ rest.came z there
          ];
        })
