-- What look-ups find among the deletes, and among the entries of a request.
use Rattle.std.proofs.Common.{◌≡◌, ℕ, ◌<◌, ◌≤◌, Bool, true, false, ◌&&◌, cond, List, Some, None, option_map, length, get_or, slice_get, refl, ap, sym, ◌∙◌, arith}
use Rattle.std.specs.List.{Contains}
use Rattle.std.specs.List.Sorted.{IsPartitionPoint}
use Rattle.std.proofs.lemmas.Bool.{and_parts, lt-ltb, ltb-true}
use Rattle.std.proofs.lemmas.Option.{slice_get_within}
use Rattle.std.proofs.lemmas.Slice.Eq.{bytes_eq-Decides}
use Rattle.crdt_rows.specs.declared.version.Version.{Version}
use Rattle.history_model.specs.declared.record.Record.{Record}
use Rattle.history_model.specs.Record.{request_of, same_bytes}
use Rattle.world_history.specs.declared.rows.Row.{Row}
use Rattle.world_history.specs.Index.{Speaks, IsOrder, is_earlier}
use Rattle.world_history.specs.Table.{delete_of, delete_at, AreDeletes, is_before, is_of}
use Rattle.world_history.specs.Checks.{deletes_at, is_deleted, writes_at, is_written}
use Rattle.world_history.proofs.Below.{any_below_at, any_below_none}
use Rattle.world_history.proofs.Parts.{Begun}
use Rattle.world_history.proofs.Order.{range_before, range_entry}
use Rattle.world_history.proofs.Rowed.{row_in, in_range, range_in}
use Rattle.world_history.proofs.Decided.{DeletesAs, deletes_at-Decides, writes_at-Decides}

-- ---- deletes

-- no row from k on, below `high`, passes
abbrev pub NoneDeletes : List Record → List Row → List ℕ → List ℕ → Version → ℕ → ℕ → Type 0
NoneDeletes h deletes bucket key w k high = (m : ℕ) (d : Row) → k ≤ m → m < high → deletes_at h bucket key w (get_or deletes m d).place ≡ false

module _ (h : List Record) (deletes : List Row) (t : AreDeletes h deletes) where
  module _ (bucket key : List ℕ) (w : Version) (j low high : ℕ) (le : high ≤ length deletes)
      (at_low : IsPartitionPoint (λ r. is_before bucket key 0 r ≡ true) (λ r. is_before bucket key 0 r ≡ false) deletes low)
      (at_high : IsPartitionPoint (λ r. is_before bucket key j r ≡ true) (λ r. is_before bucket key j r ≡ false) deletes high) where
    pub deleted_some : (m : ℕ) (d : Row) → low ≤ m → m < high → deletes_at h bucket key w (get_or deletes m d).place ≡ true → is_deleted h j bucket key w ≡ true
    deleted_some m d up lt here =
        let inside : m < length deletes = omega arith in
        let of = in_range deletes bucket key j low high at_low at_high m d up lt inside in
        let parts = and_parts (same_bytes (get_or deletes m d).bucket bucket) _ of in
        let more = and_parts (same_bytes (get_or deletes m d).key key) _ parts.1 in
        any_below_at (deletes_at h bucket key w) (get_or deletes m d).place j (ltb-true _ _ more.1) here

    pub deleted_none : NoneDeletes h deletes bucket key w low high → is_deleted h j bucket key w ≡ false
    deleted_none none = any_below_none (deletes_at h bucket key w) j (λ p lt. by_test p lt (deletes_at h bucket key w p) refl)
      where
        by_test : (p : ℕ) → p < j → (c : Bool) → deletes_at h bucket key w p ≡ c → c ≡ false
        by_test p lt false c = refl
        by_test p lt true c = sym c ∙ (ap (λ (r : Row). deletes_at h bucket key w r.place) (sym m.2) ∙ none m.0 row range.0 range.1)
          where
            row : Row
            row = record { bucket = bucket; key = key; place = p }

            b : Begun (slice_get h p) (DeletesAs h bucket key w p)
            b = (deletes_at-Decides h bucket key w p).0 c

            told : delete_at h p ≡ Some row
            told =
                ap (delete_of p) b.is
                ∙ (λ i. cond (b.holds.0 i) (Some (record { bucket = b.holds.1.1.0 i; key = b.holds.1.0 i; place = p })) None)

            m : Contains deletes row
            m = row_in (delete_at h) (length h) deletes t p row (slice_get_within h p _ b.is) told

            passes : is_of bucket key j (get_or deletes m.0 row) ≡ true
            passes = ap (is_of bucket key j) m.2 ∙ (λ i. (bytes_eq-Decides bucket bucket).1 refl i && ((bytes_eq-Decides key key).1 refl i && lt-ltb p j lt i))

            range : (low ≤ m.0) × (m.0 < high)
            range = range_in deletes bucket key j low high at_low at_high m.0 row m.1 passes

-- ---- entries

-- no entry from `low` on, before k, passes
abbrev pub NoneWrites : List Record → List (ℕ × ℕ) → List ℕ → List ℕ → Version → ℕ → ℕ → Type 0
NoneWrites h order bucket key v low k = (m : ℕ) (d : ℕ × ℕ) → low ≤ m → m < k → writes_at h bucket key v (get_or order m d).1 ≡ false

module _ (h : List Record) (order : List (ℕ × ℕ)) (o : IsOrder h order) (bucket key : List ℕ) (v : Version) (j low high : ℕ) (le : high ≤ length order)
    (at_low : IsPartitionPoint (λ e. is_earlier v.id 0 e ≡ true) (λ e. is_earlier v.id 0 e ≡ false) order low)
    (at_high : IsPartitionPoint (λ e. is_earlier v.id j e ≡ true) (λ e. is_earlier v.id j e ≡ false) order high) where
  pub written_some : (m : ℕ) (d : ℕ × ℕ) → low ≤ m → m < high → writes_at h bucket key v (get_or order m d).1 ≡ true → is_written h j bucket key v ≡ true
  written_some m d up lt here = any_below_at (writes_at h bucket key v) (get_or order m d).1 j (range_before h order o v.id j low high le at_low at_high m d up lt).0 here

  pub written_none : NoneWrites h order bucket key v low high → is_written h j bucket key v ≡ false
  written_none none = any_below_none (writes_at h bucket key v) j (λ p lt. by_test p lt (writes_at h bucket key v p) refl)
    where
      by_test : (p : ℕ) → p < j → (c : Bool) → writes_at h bucket key v p ≡ c → c ≡ false
      by_test p lt false c = refl
      by_test p lt true c =
          let b = (writes_at-Decides h bucket key v p).0 c in
          let s : Speaks h p v.id = ap (option_map request_of) b.is ∙ ap Some b.holds.0 in
          let m = range_entry h order o v.id j low high le at_low at_high p lt s in
          let below : m.0 < high = m.2.0 in
          let not = none m.0 (v.id, p) m.1 below in
          sym c ∙ (ap (λ (e : ℕ × ℕ). writes_at h bucket key v e.1) (sym m.2.1.1) ∙ not)
