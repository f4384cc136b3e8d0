-- The rows of a window: proper rows of the object table in order, each at a key that the window names.
use Rattle.std.specs.Prelude.{◌≡◌, ℕ, nat_eq, true, List, ◌++◌, length, take, filter, IsTrue, All}
use Rattle.std.specs.List.{starts_with}
use Rattle.std.proofs.Common.{ap, sym, subst, ◌∙◌}
use Rattle.std.proofs.lemmas.List.Elements.{All-map, All-take, All-filter, All-weaker, filter_passes}
use Rattle.std.specs.Ordering.{nat_cmp, is_lt}
use Rattle.std.specs.Cmp.Lexicographic.{slice_cmp}
use Rattle.crdt_core.specs.Entries.{is_ascending}
use Rattle.table_schema.specs.Words.{Words}
use Rattle.table_schema.specs.Laws.{Laws}
use Rattle.table_model.specs.Rows.{is_past, AllProper, rows}
use Rattle.quorum_model.specs.declared.range.RangeAnswer.{RangeAnswer}
use Rattle.quorum_model.specs.Window.{IsAscending, Window, key_cmp, keyed, is_within, end_of, both_rows, IsNamed}
use Rattle.range_laws.specs.Scans.{answer, window_between}
use Rattle.range_laws.proofs.Entries.{Fits, entries_back, ascending_filter, merged_has}
use Rattle.range_laws.proofs.Shown.{asked_parts, both_fit, both_ascend, asked, answer_plain, end_back}

-- the key begins as asked and is past the start key
record IsAsked (begin start key : List ℕ) : Type 0 where
  begins : starts_with nat_eq key begin ≡ true
  past : is_lt (slice_cmp nat_cmp start key) ≡ true

module _ {R : Type 0} {join : R → R → R} {s : Words R} (laws : Laws join s) (position prefix after : List ℕ) (limit : ℕ) (a b : List R) where
  abbrev answers : RangeAnswer R × RangeAnswer R
  answers = (answer join s position prefix after limit a, answer join s position prefix after limit b)

  abbrev the_window : Window R
  the_window = window_between join s position prefix after limit a b

  -- the window's rows beside their keys
  abbrev shown : List (List ℕ × R)
  shown = filter (λ e. is_within (end_of s answers) e.0) (both_rows join s answers)

  rows_asked : (contents : List R) → All (λ e. IsAsked (position ++ prefix) (position ++ after) e.0) (keyed s (take limit (asked laws position prefix after limit contents)))
  rows_asked contents =
      let test = is_past s 1 (position ++ prefix) (position ++ after) in
      let all = asked laws position prefix after limit contents in
      All-map (λ (e : List ℕ × R). IsAsked (position ++ prefix) (position ++ after) e.0) (λ r. (s.key r, r)) (take limit all)
      (All-take (λ r. IsAsked (position ++ prefix) (position ++ after) (s.key r)) limit all
      (All-weaker (λ r. test r ≡ true) (λ r. IsAsked (position ++ prefix) (position ++ after) (s.key r))
      (λ r e. let parts = asked_parts s (position ++ prefix) (position ++ after) r e in record { begins = parts.1; past = parts.2 }) all (filter_passes test (rows join s contents))))

  shown_asked : All (λ e. IsAsked (position ++ prefix) (position ++ after) e.0) shown
  shown_asked =
      let P = λ (e : List ℕ × R). IsAsked (position ++ prefix) (position ++ after) e.0 in
      All-filter (λ e. is_within (end_of s answers) e.0) P (both_rows join s answers)
      (merged_has join P (λ x y p q e. p) (keyed s answers.0.rows) (keyed s answers.1.rows) (rows_asked a) (rows_asked b))

  module _ (p : AllProper s a) (q : AllProper s b) where
    shown_fit : All (Fits s) shown
    shown_fit =
        All-filter (λ e. is_within (end_of s answers) e.0) (Fits s) (both_rows join s answers)
        (both_fit laws answers.0.rows answers.1.rows (answer_plain laws position prefix after limit a p) (answer_plain laws position prefix after limit b q))

    pub window_proper : AllProper s the_window.rows
    window_proper = All-map (λ r. IsTrue (s.is_proper r)) (λ e. e.1) shown (All-weaker (Fits s) (λ e. IsTrue (s.is_proper e.1)) (λ e fit. fit.proper) shown shown_fit)

    pub window_table : All (λ r. s.table r ≡ 1) the_window.rows
    window_table = All-map (λ r. s.table r ≡ 1) (λ e. e.1) shown (All-weaker (Fits s) (λ e. s.table e.1 ≡ 1) (λ e fit. fit.table) shown shown_fit)

    pub window_ascends : IsAscending s the_window.rows
    window_ascends =
        ap (is_ascending key_cmp) (entries_back s shown shown_fit)
        ∙ ascending_filter (λ e. is_within (end_of s answers) e.0) (both_rows join s answers)
        (both_ascend laws answers.0.rows answers.1.rows (answer_plain laws position prefix after limit a p) (answer_plain laws position prefix after limit b q))

    named_at : length position ≡ 32 → (e : List ℕ × R) → Fits s e → IsAsked (position ++ prefix) (position ++ after) e.0 → is_within (end_of s answers) e.0 ≡ true → IsNamed position prefix after the_window.end (s.key e.1)
    named_at long e fit is_asked within =
        subst (IsNamed position prefix after the_window.end) (sym fit.key)
        (record { begins = is_asked.begins; past = is_asked.past; within = ap (λ end. is_within end e.0) (end_back laws position prefix after limit long a b) ∙ within })

    pub window_named : length position ≡ 32 → All (λ r. IsNamed position prefix after the_window.end (s.key r)) the_window.rows
    window_named long =
        All-map (λ r. IsNamed position prefix after the_window.end (s.key r)) (λ e. e.1) shown
        (λ k d lt. named_at long _ (shown_fit k d lt) (shown_asked k d lt) (filter_passes (λ e. is_within (end_of s answers) e.0) (both_rows join s answers) k d lt))
