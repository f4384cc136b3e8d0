-- The window of two answers whose rows ascend.
use Rattle.std.proofs.Common.{◌≡◌, ℕ, suc, Bool, true, false, cond, Option, Some, None, List, [], ◌∷◌, map, refl, sym, ap, subst, ◌∙◌, arith}
use Rattle.std.specs.Prelude.{filter, IsTrue, All}
use Rattle.std.specs.List.{AllByRecursion}
use Rattle.std.specs.Cmp.{IsTotalOrder}
use Rattle.std.specs.Ordering.{is_lt}
use Rattle.std.specs.Cmp.Lexicographic.{nat_list_cmp_total}
use Rattle.std.specs.declared.cmp.Ordering.{Ordering}
use Rattle.std.specs.declared.cmp.Ordering.TheVariants.{Less, Equal, Greater}
use Rattle.crdt_core.specs.Lex.{by_order}
use Rattle.crdt_core.specs.Order.{option_join}
use Rattle.crdt_core.specs.Orders.{Identifies}
use Rattle.crdt_core.specs.IdentityLaws.{slice_identical, nat_identical}
use Rattle.crdt_core.specs.Entries.{is_below, is_ascending, value_at, merged}
use Rattle.crdt_core.specs.EntryLaws.{less_is, and_parts, and_both, ascending_merged, value_at-merged, below_lower, below_same, below_none}
use Rattle.table_schema.specs.Words.{Words}
use Rattle.table_schema.specs.Laws.{Laws, Same}
use Rattle.quorum_model.specs.declared.range.RangeAnswer.{RangeAnswer}
use Rattle.quorum_model.specs.Window.{key_cmp, keyed, is_within, end_of, both_rows, window, row_under, IsAscending, AreObjects}

-- ---- entries that a test on their keys lets pass

module _ {K V : Type 0} {R : K → K → Ordering} (o : IsTotalOrder R) where
  module _ (p : K → Bool) where
    passing_below : (k : K) (es : List (K × V)) → is_below R k es ≡ true → is_ascending R es ≡ true → is_below R k (filter (λ e. p e.0) es) ≡ true
    passing_below k [] h a = refl
    passing_below k (e ∷ es) h a =
        let parts = and_parts (is_below R e.0 es) (is_ascending R es) a in
        elim (p e.0) as (λ t. is_below R k (cond t (e ∷ filter (λ x. p x.0) es) (filter (λ x. p x.0) es)) ≡ true) [
          | true ↦ h
          | false ↦ passing_below k es (below_lower o k e.0 es (less_is (R k e.0) h) parts.0) parts.1
        ]

    pub passing_ascends : (es : List (K × V)) → is_ascending R es ≡ true → is_ascending R (filter (λ e. p e.0) es) ≡ true
    passing_ascends [] a = refl
    passing_ascends (e ∷ es) a =
        let parts = and_parts (is_below R e.0 es) (is_ascending R es) a in
        elim (p e.0) as (λ t. is_ascending R (cond t (e ∷ filter (λ x. p x.0) es) (filter (λ x. p x.0) es)) ≡ true) [
          | true ↦ and_both (is_below R e.0 (filter (λ x. p x.0) es)) (is_ascending R (filter (λ x. p x.0) es)) (passing_below e.0 es parts.0 parts.1) (passing_ascends es parts.1)
          | false ↦ passing_ascends es parts.1
        ]

    none_both : (t : Bool) → ◌≡◌ {A = Option V} None (cond t None None)
    none_both true = refl
    none_both false = refl

    module _ (same : Identifies R) where
      value_by : (q : K) (e : K × V) (es : List (K × V)) → is_ascending R (e ∷ es) ≡ true → value_at R q (filter (λ x. p x.0) es) ≡ cond (p q) (value_at R q es) None →
          (r : Ordering) → R q e.0 ≡ r → value_at R q (filter (λ x. p x.0) (e ∷ es)) ≡ cond (p q) (by_order r None (Some e.1) (value_at R q es)) None
      value_by q e es a rest Less c =
          let below : is_below R q (e ∷ es) ≡ true = ap is_lt c in
          below_none o q (filter (λ x. p x.0) (e ∷ es)) (passing_below q (e ∷ es) below a) ∙ none_both (p q)
      value_by q e es a rest Equal c =
          let parts = and_parts (is_below R e.0 es) (is_ascending R es) a in
          let later : value_at R q (filter (λ x. p x.0) es) ≡ None = below_none o q (filter (λ x. p x.0) es) (passing_below q es (below_same o q e.0 es c parts.0) parts.1) in
          subst (λ k. value_at R q (filter (λ x. p x.0) (e ∷ es)) ≡ cond (p k) (Some e.1) None) (sym (same q e.0 c))
          (elim (p e.0) as (λ t. value_at R q (cond t (e ∷ filter (λ x. p x.0) es) (filter (λ x. p x.0) es)) ≡ cond t (Some e.1) None) [
            | true ↦ rw c refl
            | false ↦ later
          ])
      value_by q e es a rest Greater c =
          elim (p e.0) as (λ t. value_at R q (cond t (e ∷ filter (λ x. p x.0) es) (filter (λ x. p x.0) es)) ≡ cond (p q) (value_at R q es) None) [
            | true ↦ rw c rest
            | false ↦ rest
          ]

      pub value_passing : (q : K) (es : List (K × V)) → is_ascending R es ≡ true → value_at R q (filter (λ e. p e.0) es) ≡ cond (p q) (value_at R q es) None
      value_passing q [] a = none_both (p q)
      value_passing q (e ∷ es) a =
          value_by q e es a (value_passing q es (and_parts (is_below R e.0 es) (is_ascending R es) a).1) (R q e.0) refl

-- ---- rows beside their own keys

module _ {R : Type 0} (join : R → R → R) (s : Words R) (laws : Laws join s) where
  record Fits (e : List ℕ × R) : Type 0 where
    key : s.key e.1 ≡ e.0
    proper : IsTrue (s.is_proper e.1)
    table : s.table e.1 ≡ 1

  joined_fits : (x y : List ℕ × R) → Fits x → Fits y → key_cmp x.0 y.0 ≡ Equal → Fits (x.0, join x.1 y.1)
  joined_fits x y f h c =
      let same : Same s x.1 y.1 = record {
        first_proper = f.proper;
        second_proper = h.proper;
        table = f.table ∙ sym h.table;
        key = f.key ∙ (slice_identical nat_identical x.0 y.0 c ∙ sym h.key);
      } in
      record {
        key = laws.joined_key x.1 y.1 same ∙ f.key;
        proper = laws.joined_is_proper x.1 y.1 same;
        table = laws.joined_table x.1 y.1 same ∙ f.table;
      }

  merged_by : (x y : List ℕ × R) (xs ys : List (List ℕ × R)) → Fits x → Fits y → AllByRecursion Fits (merged key_cmp join xs (y ∷ ys)) → AllByRecursion Fits (merged key_cmp join xs ys) → AllByRecursion Fits (merged key_cmp join (x ∷ xs) ys) →
      (o : Ordering) → key_cmp x.0 y.0 ≡ o → AllByRecursion Fits (by_order o (x ∷ merged key_cmp join xs (y ∷ ys)) ((x.0, join x.1 y.1) ∷ merged key_cmp join xs ys) (y ∷ merged key_cmp join (x ∷ xs) ys))
  merged_by x y xs ys f h less equal greater Less c = (f, less)
  merged_by x y xs ys f h less equal greater Equal c = (joined_fits x y f h c, equal)
  merged_by x y xs ys f h less equal greater Greater c = (h, greater)

  merged_fits : (xs ys : List (List ℕ × R)) → AllByRecursion Fits xs → AllByRecursion Fits ys → AllByRecursion Fits (merged key_cmp join xs ys)
  merged_fits [] ys f h = h
  merged_fits (x ∷ xs) [] f h = f
  merged_fits (x ∷ xs) (y ∷ ys) f h =
      merged_by x y xs ys f.0 h.0 (merged_fits xs (y ∷ ys) f.1 h) (merged_fits xs ys f.1 h.1) (merged_fits (x ∷ xs) ys f h.1) (key_cmp x.0 y.0) refl

  keyed_fits : (rows : List R) → All (λ r. IsTrue (s.is_proper r)) rows → All (λ r. s.table r ≡ 1) rows → AllByRecursion Fits (keyed s rows)
  keyed_fits [] p t = tt
  keyed_fits (r ∷ rs) p t = (
    record { key = refl; proper = p 0 r (omega arith); table = t 0 r (omega arith) },
    keyed_fits rs (λ k d lt. p (suc k) d (omega (arith, lt))) (λ k d lt. t (suc k) d (omega (arith, lt))),
  )

  passing_fits : (test : List ℕ → Bool) (es : List (List ℕ × R)) → AllByRecursion Fits es → AllByRecursion Fits (filter (λ e. test e.0) es)
  passing_fits test [] h = tt
  passing_fits test (e ∷ es) h =
      elim (test e.0) as (λ t. AllByRecursion Fits (cond t (e ∷ filter (λ x. test x.0) es) (filter (λ x. test x.0) es))) [
        | true ↦ (h.0, passing_fits test es h.1)
        | false ↦ passing_fits test es h.1
      ]

  keyed_again : (es : List (List ℕ × R)) → AllByRecursion Fits es → keyed s (map (λ e. e.1) es) ≡ es
  keyed_again [] h = refl
  keyed_again (e ∷ es) h = λ i. (h.0.key i, e.1) ∷ keyed_again es h.1 i

  module _ (two : RangeAnswer R × RangeAnswer R) (a : AreObjects s two.0.rows) (b : AreObjects s two.1.rows) where
    ascends : is_ascending key_cmp (both_rows join s two) ≡ true
    ascends = ascending_merged nat_list_cmp_total join (keyed s two.0.rows) (keyed s two.1.rows) a.ascending b.ascending

    window_keyed : keyed s (window join s two).rows ≡ filter (λ e. is_within (end_of s two) e.0) (both_rows join s two)
    window_keyed =
        keyed_again _ (passing_fits (is_within (end_of s two)) (both_rows join s two)
        (merged_fits (keyed s two.0.rows) (keyed s two.1.rows) (keyed_fits two.0.rows a.proper a.table) (keyed_fits two.1.rows b.proper b.table)))

    pub window_ascends : IsAscending s (window join s two).rows
    window_ascends = ap (is_ascending key_cmp) window_keyed ∙ passing_ascends nat_list_cmp_total (is_within (end_of s two)) (both_rows join s two) ascends

    pub window_row : (key : List ℕ) → row_under s (window join s two).rows key ≡ cond (is_within (end_of s two) key) (option_join join (row_under s two.0.rows key) (row_under s two.1.rows key)) None
    window_row key =
        ap (value_at key_cmp key) window_keyed
        ∙ (value_passing nat_list_cmp_total (is_within (end_of s two)) (slice_identical nat_identical) key (both_rows join s two) ascends
        ∙ ap (λ o. cond (is_within (end_of s two) key) o None) (value_at-merged nat_list_cmp_total join key (keyed s two.0.rows) (keyed s two.1.rows) a.ascending b.ascending))
