-- How the newest versions up to each row are made.
use Rattle.std.proofs.Common.{◌≡◌, ℕ, suc, ◌+◌, ◌-◌, ◌<◌, ◌≤◌, Bool, true, false, cond, List, [], ◌∷◌, ◌++◌, Option, Some, None, length, get_or, slice_get, inl, inr, refl, ap, sym, subst, ◌∙◌, arith}
use Rattle.std.specs.List.Sorted.{IsSorted}
use Rattle.std.specs.Ordering.{is_lt}
use Rattle.std.proofs.lemmas.Bool.{cases_lt}
use Rattle.std.proofs.lemmas.List.{length_push, get_or_push, get_or_append_left}
use Rattle.std.proofs.lemmas.Option.{slice_get_within, get_or_from_slice_get}
use Rattle.crdt_rows.specs.declared.version.Version.{Version}
use Rattle.history_model.specs.declared.record.Record.{Record}
use Rattle.world_history.specs.declared.rows.Row.{Row}
use Rattle.world_history.specs.Table.{row_cmp, version_in, version_of_row, row_version, follows_key, IsFromBefore, AreNewest}
use Rattle.world_history.specs.Checks.{newer_of, newest_of}
use Rattle.world_history.proofs.Newest.{newest_of_none}
use Rattle.world_history.proofs.Sorted.{not_less}
use Rattle.world_history.proofs.Table.{row_total}
use Rattle.world_history.proofs.Rowed.{is_its_own, none_of_key, of_key_before}

-- of each row before k the newest version of its key up to it; `newest` is that of the last one
pub record NewestUpto (h : List Record) (rows : List Row) (k : ℕ) (all : List (Option Version)) (newest : Option Version) : Type 0 where
  pub whole : length all ≡ k
  pub each : (m : ℕ) (r : Row) (d : Option Version) → m < k → slice_get rows m ≡ Some r → get_or all m d ≡ newest_of (row_version h rows r.bucket r.key) (m + 1)
  pub last : (d : Option Version) → 0 < k → newest ≡ get_or all (k - 1) d

pub upto_none : (h : List Record) (rows : List Row) (newest : Option Version) → NewestUpto h rows 0 [] newest
upto_none h rows newest = record {
  whole = refl;
  each = λ m r d lt at. absurd (omega arith);
  last = λ d lt. absurd (omega arith);
}

module _ (h : List Record) (rows : List Row) (sorted : IsSorted row_cmp rows) (k : ℕ) (r : Row) (at : slice_get rows k ≡ Some r) where
  abbrev versions : ℕ → Option Version
  versions = row_version h rows r.bucket r.key

  inside : k < length rows
  inside = slice_get_within rows k r at

  -- what the row before it leaves to it
  left_newest : (all : List (Option Version)) (newest left : Option Version) → NewestUpto h rows k all newest → IsFromBefore rows k newest left → left ≡ newest_of versions k
  left_newest all newest left old from = by_test (follows_key rows k r.bucket r.key) refl (from r at)
    where
      by_test : (t : Bool) → follows_key rows k r.bucket r.key ≡ t → left ≡ cond t newest None → left ≡ newest_of versions k
      by_test true t is =
          let (before, some, (there, same)) = of_key_before h rows sorted r.bucket r.key k t in
          let next : k - 1 + 1 ≡ k = omega (arith, some) in
          let lt : k - 1 < k = omega (arith, some) in
          is ∙ (old.last None some ∙ (old.each (k - 1) before None lt there ∙ (λ i. newest_of (row_version h rows (same.0 i) (same.1 i)) (next i))))
      by_test false t is =
          let le : k ≤ length rows = (let lt = inside in omega (arith, lt)) in
          is ∙ sym (newest_of_none versions k (none_of_key h rows sorted r.bucket r.key k r le refl refl
          (λ d some. let up : k - 1 ≤ k = omega arith in subst (λ x. is_lt (row_cmp x (get_or rows (k - 1) d)) ≡ false) (get_or_from_slice_get rows k r d at) (not_less row_total rows sorted (k - 1) k d up inside)) t))

  -- one row more
  pub upto_more : (all : List (Option Version)) (newest left next : Option Version) → NewestUpto h rows k all newest → IsFromBefore rows k newest left → next ≡ newer_of left (version_in h r.place) →
      NewestUpto h rows (k + 1) (all ++ next ∷ []) next
  upto_more all newest left next old from made = record {
    whole = length_push all next ∙ ap (λ n. n + 1) old.whole;
    each = λ m s d lt there. elim (cases_lt m k) as (λ c. get_or (all ++ next ∷ []) m d ≡ newest_of (row_version h rows s.bucket s.key) (m + 1)) [
      | inl less ↦ get_or_append_left all (next ∷ []) d m (let long = old.whole in omega (arith, long, less)) ∙ old.each m s d less there
      | inr up ↦
          let same : m ≡ k = omega arith in
          let one : ◌≡◌ {A = Option Row} (Some r) (Some s) = sym at ∙ (ap (slice_get rows) (sym same) ∙ there) in
          let is : r ≡ s = cc in
          get_or_push all next d m (old.whole ∙ sym same) ∙ (step ∙ (λ i. newest_of (row_version h rows (is i).bucket (is i).key) (sym same i + 1)))
    ];
    last = λ d some. (let same : k + 1 - 1 ≡ k = omega arith in sym (ap (λ n. get_or (all ++ next ∷ []) n d) same ∙ get_or_push all next d k old.whole));
  }
    where
      here : versions k ≡ version_in h r.place
      here = ap (version_of_row h r.bucket r.key) at ∙ ap (λ t. cond t (version_in h r.place) None) (is_its_own r)

      step : next ≡ newest_of versions (k + 1)
      step = made ∙ ((λ i. newer_of (left_newest all newest left old from i) (sym here i)) ∙ (let same : suc k ≡ k + 1 = omega arith in ap (newest_of versions) same))

pub upto_all : (h : List Record) (rows : List Row) (k : ℕ) (all : List (Option Version)) (newest : Option Version) → k ≡ length rows → NewestUpto h rows k all newest → AreNewest h rows all
upto_all h rows k all newest same n = record {
  whole = n.whole ∙ same;
  newest = λ m r d at. n.each m r d (let lt = slice_get_within rows m r at in omega (arith, lt, same)) at;
}
