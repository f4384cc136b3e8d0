-- The longest runs of a list, what is said of them, and their text.
use Rattle.std.proofs.Common.{◌≡◌, ℕ, zero, suc, ◌+◌, ◌-◌, ◌<◌, ◌≤◌, Bool, true, false, if◌then◌else◌, nat_eq, List, [], ◌∷◌, ◌++◌, length, map, replicate, refl, sym, ap, ◌∙◌, subst, arith, inl, inr}
use Rattle.std.specs.Prelude.{⊤}
use Rattle.std.specs.Cmp.Lexicographic.{pointwise}
use Rattle.std.specs.List.{AllByRecursion, range_with_len}
use Rattle.std.proofs.lemmas.Grind.{flat_map-append}
use Rattle.std.proofs.lemmas.Bool.{cases_lt}
use Rattle.layout_roles.specs.Runs.{Run, once, joined, runs, run_lines, written_out}
use Rattle.layout_roles.proofs.ZoneNames.{same_true}
use Rattle.audit_model.specs.declared.said.Said.{Said}
use Rattle.audit_laws.specs.Told.{said_text, saids_text}
use Rattle.audit_sheets.specs.Sheets.{runs_said}

pub all_both : {A : Type 0} (P : A → Type 0) (a b : List A) → AllByRecursion P a → AllByRecursion P b → AllByRecursion P (a ++ b)
all_both P [] b h k = k
all_both P (x ∷ a) b h k = (h.0, all_both P a b h.1 k)

pub all_weaker : {A : Type 0} (P Q : A → Type 0) → ((x : A) → P x → Q x) → (xs : List A) → AllByRecursion P xs → AllByRecursion Q xs
all_weaker P Q f [] h = tt
all_weaker P Q f (x ∷ xs) h = (f x h.0, all_weaker P Q f xs h.1)

-- what holds of numbers in a range
pub all_in_range : (P : ℕ → Type 0) (a n : ℕ) → ((p : ℕ) → a ≤ p → p < a + n → P p) → AllByRecursion P (range_with_len a n)
all_in_range P a zero h = tt
all_in_range P a (suc n) h = (h a (omega arith) (omega arith), all_in_range P (a + 1) n (λ p low high. h p (omega arith) (omega arith)))

pub range_length : (a n : ℕ) → length (range_with_len a n) ≡ n
range_length a zero = refl
range_length a (suc n) = ap suc (range_length (a + 1) n)

-- how many values the runs have
abbrev pub total : {A : Type 0} → List (Run A) → ℕ
total [] = 0
total (r ∷ rs) = r.count + total rs

module _ {A : Type 0} (same : A → A → Bool) where
  joined_total : (x : A) (rs : List (Run A)) → total (joined same x rs) ≡ suc (total rs)
  joined_total x [] = refl
  joined_total x (r ∷ rs) =
      elim (same x r.value) as (λ b. total (if b then record { value = x; count = suc r.count } ∷ rs else once x ∷ r ∷ rs) ≡ suc (r.count + total rs)) [
        | true ↦ omega arith
        | false ↦ omega arith
      ]

  pub runs_total : (xs : List A) → total (runs same xs) ≡ length xs
  runs_total [] = refl
  runs_total (x ∷ xs) = joined_total x (runs same xs) ∙ ap suc (runs_total xs)

  -- each run has values, and what holds of all values of the list holds of its own
  module _ (P : A → Type 0) where
    abbrev pub IsRunOf : Run A → Type 0
    IsRunOf r = (0 < r.count) × P r.value

    joined_are : (x : A) (rs : List (Run A)) → P x → AllByRecursion IsRunOf rs → AllByRecursion IsRunOf (joined same x rs)
    joined_are x [] h k = ((omega arith, h), tt)
    joined_are x (r ∷ rs) h k =
        elim (same x r.value) as (λ b. AllByRecursion IsRunOf (if b then record { value = x; count = suc r.count } ∷ rs else once x ∷ r ∷ rs)) [
          | true ↦ ((omega arith, h), k.1)
          | false ↦ ((omega arith, h), k)
        ]

    pub runs_are : (xs : List A) → AllByRecursion P xs → AllByRecursion IsRunOf (runs same xs)
    runs_are [] h = tt
    runs_are (x ∷ xs) h = joined_are x (runs same xs) h.0 (runs_are xs h.1)

  -- the runs, written out, are the list
  module _ (exact : (x y : A) → same x y ≡ true → x ≡ y) where
    joined_whole : (x : A) (rs : List (Run A)) → written_out (joined same x rs) ≡ x ∷ written_out rs
    joined_whole x [] = refl
    joined_whole x (r ∷ rs) =
        elim (same x r.value) as (λ b. same x r.value ≡ b → written_out (if b then record { value = x; count = suc r.count } ∷ rs else once x ∷ r ∷ rs) ≡ x ∷ (replicate r.count r.value ++ written_out rs)) [
          | true ↦ λ e. ap (λ v. x ∷ (replicate r.count v ++ written_out rs)) (exact x r.value e)
          | false ↦ λ e. refl
        ] refl

    pub runs_whole : (xs : List A) → written_out (runs same xs) ≡ xs
    runs_whole [] = refl
    runs_whole (x ∷ xs) = joined_whole x (runs same xs) ∙ ap (λ ys. x ∷ ys) (runs_whole xs)

-- ---- what is said of runs

module _ {A : Type 0} (say : ℕ → ℕ → A → List Said) where
  -- the text of runs is that of what is said of them
  pub runs_text : (line : ℕ → ℕ → A → List ℕ) (place : ℕ) (rs : List (Run A)) → AllByRecursion (λ (r : Run A). (first last : ℕ) → line first last r.value ≡ saids_text (say first last r.value)) rs →
      run_lines line place rs ≡ saids_text (runs_said say place rs)
  runs_text line place [] h = refl
  runs_text line place (r ∷ rs) h =
      (λ i. h.0 place (place + r.count - 1) i ++ runs_text line (place + r.count) rs h.1 i)
      ∙ sym (flat_map-append said_text (say place (place + r.count - 1) r.value) (runs_said say (place + r.count) rs))

  -- what holds of all that is said of each run, between places up to the end, holds of all
  pub runs_say : (P : Said → Type 0) (end place : ℕ) (rs : List (Run A)) → place + total rs ≤ end →
      AllByRecursion (λ (r : Run A). (first last : ℕ) → first ≤ end → last ≤ end → AllByRecursion P (say first last r.value)) rs → AllByRecursion P (runs_said say place rs)
  runs_say P end place [] low h = tt
  runs_say P end place (r ∷ rs) low h =
      all_both P (say place (place + r.count - 1) r.value) (runs_said say (place + r.count) rs) (h.0 place (place + r.count - 1) (omega arith) (omega arith))
      (runs_say P end (place + r.count) rs (omega arith) h.1)

-- ---- runs of values by their images

module _ {A B : Type 0} (f : A → B) (same : B → B → Bool) where
  abbrev pub under : Run A → Run B
  under r = record { value = f r.value; count = r.count }

  joined_under : (x : A) (rs : List (Run A)) → joined same (f x) (map under rs) ≡ map under (joined (λ a b. same (f a) (f b)) x rs)
  joined_under x [] = refl
  joined_under x (r ∷ rs) =
      elim (same (f x) (f r.value)) as (λ b. (if b then record { value = f x; count = suc r.count } ∷ map under rs else once (f x) ∷ under r ∷ map under rs) ≡
      map under (if b then record { value = x; count = suc r.count } ∷ rs else once x ∷ r ∷ rs)) [
        | true ↦ refl
        | false ↦ refl
      ]

  pub runs_under : (xs : List A) → runs same (map f xs) ≡ map under (runs (λ a b. same (f a) (f b)) xs)
  runs_under [] = refl
  runs_under (x ∷ xs) = ap (joined same (f x)) (runs_under xs) ∙ joined_under x (runs (λ a b. same (f a) (f b)) xs)

  pub lines_under : (line : ℕ → ℕ → B → List ℕ) (place : ℕ) (rs : List (Run A)) → run_lines line place (map under rs) ≡ run_lines (λ first last x. line first last (f x)) place rs
  lines_under line place [] = refl
  lines_under line place (r ∷ rs) = ap (λ t. line place (place + r.count - 1) (f r.value) ++ t) (lines_under line (place + r.count) rs)

-- ---- runs of numbers in a range

module _ (f : ℕ → List ℕ) where
  -- each run begins at its value, and all numbers in it have the image of that
  abbrev pub Cover : ℕ → List (Run ℕ) → Type 0
  Cover place [] = ⊤
  Cover place (r ∷ rs) = ((0 < r.count) × (r.value ≡ place)) × ((q : ℕ) → place ≤ q → q < place + r.count → f r.value ≡ f q) × Cover (place + r.count) rs

  abbrev alike : ℕ → ℕ → Bool
  alike a b = pointwise nat_eq (f a) (f b)

  longer : (place count : ℕ) (v q : ℕ) → f place ≡ f v → ((p : ℕ) → place + 1 ≤ p → p < place + 1 + count → f v ≡ f p) → place ≤ q → q < place + suc count → f place ≡ f q
  longer place count v q e h low high =
      elim (cases_lt place q) [
        | inl over ↦ e ∙ h q (omega arith) (omega arith)
        | inr here ↦ let same : place ≡ q = omega arith in ap f same
      ]

  joined_cover : (place : ℕ) (rs : List (Run ℕ)) → Cover (place + 1) rs → Cover place (joined alike place rs)
  joined_cover place [] h = ((omega arith, refl), (λ q low high. let same : place ≡ q = omega arith in ap f same), tt)
  joined_cover place (r ∷ rs) h =
      elim (alike place r.value) as (λ b. alike place r.value ≡ b → Cover place (if b then record { value = place; count = suc r.count } ∷ rs else once place ∷ r ∷ rs)) [
        | true ↦ λ e.
            let next : place + 1 + r.count ≡ place + suc r.count = omega arith in
            ((omega arith, refl), (λ q low high. longer place r.count r.value q (same_true (f place) (f r.value) e) h.1 low high), subst (λ n. Cover n rs) next h.2)
        | false ↦ λ e. ((omega arith, refl), (λ q low high. let same : place ≡ q = omega arith in ap f same), h)
      ] refl

  pub runs_cover : (place n : ℕ) → Cover place (runs alike (range_with_len place n))
  runs_cover place zero = tt
  runs_cover place (suc n) = joined_cover place (runs alike (range_with_len (place + 1) n)) (runs_cover (place + 1) n)
