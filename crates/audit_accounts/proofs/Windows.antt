-- What phases give to lists fits: rows that fit, at most two thousand in a window; and each phase that ends is of a request that was given its number.
use Rattle.std.specs.Prelude.{◌≤◌, ◌+◌, ℕ, suc, List, [], ◌∷◌, ◌++◌, length, ⊤}
use Rattle.std.specs.List.{AllByRecursion, filter}
use Rattle.std.specs.declared.cmp.Ordering.TheVariants.{Less, Equal, Greater}
use Rattle.std.proofs.Common.{sym, subst, length-take, arith}
use Rattle.std.proofs.lemmas.List.{length-map}
use Rattle.std.proofs.lemmas.List.Elements.{recursion_from_All}
use Rattle.crdt_core.specs.Lex.{by_order}
use Rattle.crdt_core.specs.Entries.{merged}
use Rattle.crdt_core.proofs.Each.{all_weaker}
use Rattle.crdt_rows.specs.declared.any_row.AnyRow.{AnyRow}
use Rattle.crdt_rows.specs.AnyRow.{any_join}
use Rattle.layout_roles.specs.declared.layout.Layout.{Layout}
use Rattle.table_model.specs.Rows.{rows as rows_of, is_past}
use Rattle.object_schema.specs.Schema.{words}
use Rattle.quorum_model.specs.declared.range.RangeAnswer.{RangeAnswer}
use Rattle.quorum_model.specs.Window.{key_cmp, keyed, is_within, end_of, both_rows, window}
use Rattle.wire_messages.specs.declared.phase.PhaseEnd.{PhaseEnd}
use Rattle.wire_messages.specs.declared.phase.PhaseEnd.TheVariants.{Row as GaveRow, Window as GaveWindow, Kept as IsKept, Block as GaveBlock}
use Rattle.cluster_machine.specs.Layouts.{layouts}
use Rattle.cluster_machine.specs.Node.{Packet, Ended}
use Rattle.cluster_machine.specs.Receives.{most_rows, receives}
use Rattle.machine_origins.proofs.Good.{IsObject, rows_good, range_good, window_has}
use Rattle.machine_origins.proofs.Sound.{Asks, IsAnswer, IsPacket, IsNode}
use Rattle.machine_limits.proofs.Nodes.{Machine, Short}
use Rattle.machine_limits.proofs.Posts.{filter_fewer}
use Rattle.object_origins.proofs.Shown.{Facts}
use Rattle.limit_rows.specs.Fitting.{Drawn, AreWithin, RowFits}
use Rattle.limit_rows.proofs.Handed.{fits_rules}
use Rattle.limit_laws.proofs.Ended.{IsAnswered, IsOfAnswers, IsShown, receives_shown}

-- ---- windows

-- a window has rows that fit, at most two thousand
abbrev pub WindowFits : Drawn → PhaseEnd AnyRow → Type 0
WindowFits v (GaveWindow rs end) = AllByRecursion (RowFits v) rs × (length rs ≤ 2000)
WindowFits v _ = ⊤

merged_few : (xs ys : List (List ℕ × AnyRow)) → length (merged key_cmp any_join xs ys) ≤ length xs + length ys
merged_few [] ys = omega arith
merged_few (x ∷ xs) [] = omega arith
merged_few (x ∷ xs) (y ∷ ys) =
    let a = merged_few xs (y ∷ ys) in
    let b = merged_few xs ys in
    let c = merged_few (x ∷ xs) ys in
    elim (key_cmp x.0 y.0) as (λ o. length (by_order o (x ∷ merged key_cmp any_join xs (y ∷ ys)) ((x.0, any_join x.1 y.1) ∷ merged key_cmp any_join xs ys) (y ∷ merged key_cmp any_join (x ∷ xs) ys)) ≤ suc (length xs) + suc (length ys)) [
      | Less ↦ omega (arith, a)
      | Equal ↦ omega (arith, b)
      | Greater ↦ omega (arith, c)
    ]

-- an answer's rows fit, at most a thousand
pub record IsFine (v : Drawn) (a : RangeAnswer AnyRow) : Type 0 where
  pub objects : AllByRecursion (IsObject words (RowFits v)) a.rows
  pub few : length a.rows ≤ 1000

module _ (facts : Facts) (t : ℕ) (v : Drawn) (within : AreWithin t v) where
  window_fits : (two : RangeAnswer AnyRow × RangeAnswer AnyRow) → IsFine v two.0 → IsFine v two.1 → AllByRecursion (RowFits v) (window any_join words two).rows × (length (window any_join words two).rows ≤ 2000)
  window_fits two h k =
      let both = both_rows any_join words two in
      let shown = filter (λ (e : List ℕ × AnyRow). is_within (end_of words two) e.0) both in
      let a = merged_few (keyed words two.0.rows) (keyed words two.1.rows) in
      let b = filter_fewer (λ (e : List ℕ × AnyRow). is_within (end_of words two) e.0) both in
      let c = length-map shown (λ (e : List ℕ × AnyRow). e.1) in
      let beside : AnyRow → List ℕ × AnyRow = λ r. (words.key r, r) in
      let d = length-map two.0.rows beside in
      let e = length-map two.1.rows beside in
      let first = h.few in
      let second = k.few in
      (recursion_from_All (RowFits v) (window any_join words two).rows (window_has (fits_rules facts t v within) two h.objects k.objects), omega (arith, a, b, c, d, e, first, second))

module _ (facts : Facts) (t : ℕ) (v : Drawn) (within : AreWithin t v) (g : Asks) (count n : ℕ) (x : Machine AnyRow) (i : IsNode any_join words (RowFits v) Short g count n x) where
  answer_fine : (position prefix after : List ℕ) (a : RangeAnswer AnyRow) → IsAnswer any_join words (RowFits v) Short position prefix after a → IsFine v a
  answer_fine position prefix after a is =
      let good = rows_good (fits_rules facts t v within) is.contents is.good in
      let test = is_past words 1 (position ++ prefix) (position ++ after) in
      let past = filter test (rows_of any_join words is.contents) in
      let few = length-take most_rows past in
      let objects = range_good (fits_rules facts t v within) (position ++ prefix) (position ++ after) most_rows (rows_of any_join words is.contents) good in
      subst (IsFine v) (sym is.found_is) (record { objects = objects; few = omega arith })

  fine : (a : RangeAnswer AnyRow) → IsAnswered any_join words (RowFits v) Short a → IsFine v a
  fine a h = answer_fine h.position h.prefix h.after a h.is_so

  how_fits : (how : PhaseEnd AnyRow) → IsOfAnswers any_join words (RowFits v) Short how → WindowFits v how
  how_fits (GaveWindow rs end) h =
      subst (λ (rows : List AnyRow). AllByRecursion (RowFits v) rows × (length rows ≤ 2000)) (sym h.rows_are) (window_fits facts t v within h.two (fine h.two.0 h.first) (fine h.two.1 h.second))
  how_fits (GaveRow row) h = tt
  how_fits IsKept h = tt
  how_fits (GaveBlock bytes) h = tt

  pub receives_fits : (now from : ℕ) (p : Packet AnyRow Layout) → IsPacket any_join words (RowFits v) Short g from n p → AllByRecursion (λ (e : Ended AnyRow). (e.request ≤ count) × WindowFits v e.how) (receives any_join words layouts n now x from p).ends
  receives_fits now from p is =
      all_weaker (IsShown any_join words (RowFits v) Short count) (λ (e : Ended AnyRow). (e.request ≤ count) × WindowFits v e.how) (λ e h. (h.0, how_fits e.how h.1)) (receives any_join words layouts n now x from p).ends
      (receives_shown any_join words (RowFits v) Short g count n x i now from p is)
