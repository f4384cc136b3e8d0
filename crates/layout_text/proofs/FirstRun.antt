-- The first run of a list, and the lines of the runs after it.
use Rattle.std.proofs.Common.{◌≡◌, ℕ, zero, suc, ◌+◌, ◌-◌, ◌<◌, ◌≤◌, Bool, true, false, List, [], ◌∷◌, ◌++◌, take, Some, length, drop, get_or, refl, sym, ap, ◌∙◌, arith, append_assoc}
use Rattle.std.specs.Prelude.{slice_get}
use Rattle.std.proofs.lemmas.List.{drop_more, drop_all, drop-drop, length-drop, take_all}
use Rattle.layout_roles.specs.Runs.{Run, runs, run_lines}

module _ {A : Type 0} (same : A → A → Bool) where
  -- the first of these runs, so many values longer, from this value on
  abbrev pub longer : A → ℕ → List (Run A) → List (Run A)
  longer x k [] = []
  longer x k (run ∷ rest) = record { value = x; count = run.count + k } ∷ rest

  -- the first run is of the first value
  pub first_value : (y : A) (ys : List A) → (count : ℕ) × (rest : List (Run A)) × (runs same (y ∷ ys) ≡ record { value = y; count = count } ∷ rest)
  first_value y [] = (1, [], refl)
  first_value y (z ∷ zs) =
      let next = first_value z zs in
      elim (same y z) as (λ b. same y z ≡ b → (count : ℕ) × (rest : List (Run A)) × (runs same (y ∷ z ∷ zs) ≡ record { value = y; count = count } ∷ rest)) [
        | true ↦ λ e. (suc next.0, next.1, rw (next.2, e))
        | false ↦ λ e. (1, record { value = z; count = next.0 } ∷ next.1, rw (next.2, e))
      ] refl

  longer_true : (x y z : A) (k : ℕ) (zs : List A) → same y z ≡ true → longer x k (runs same (y ∷ z ∷ zs)) ≡ longer x (k + 1) (runs same (z ∷ zs))
  longer_true x y z k zs e =
      let next = first_value z zs in
      rw (next.2, e) (let n : suc next.0 + k ≡ next.0 + (k + 1) = omega arith in ap (λ m. record { value = x; count = m } ∷ next.1) n)

  longer_false : (x y z : A) (k : ℕ) (zs : List A) → same y z ≡ false → longer x k (runs same (y ∷ z ∷ zs)) ≡ record { value = x; count = 1 + k } ∷ runs same (z ∷ zs)
  longer_false x y z k zs e = let next = first_value z zs in rw (next.2, e)

  -- up to place i, all values are of the first run
  abbrev pub IsRunning : List A → ℕ → Type 0
  IsRunning values i = (x : A) → slice_get values 0 ≡ Some x → runs same values ≡ longer x (i - 1) (runs same (drop (i - 1) values))

  pub running_first : (values : List A) → IsRunning values 1
  running_first [] x h = cc
  running_first (y ∷ ys) x h =
      let next = first_value y ys in
      let first : y ≡ x = cc in
      let n : next.0 ≡ next.0 + 0 = omega arith in
      rw next.2 (ap (λ (v : A). record { value = v; count = next.0 } ∷ next.1) first ∙ ap (λ m. record { value = x; count = m } ∷ next.1) n)

  module _ (values : List A) (i : ℕ) (y : A) (from : 1 ≤ i) (before : i - 1 < length values) (y_is : y ≡ get_or values (i - 1) y) (run : IsRunning values i) where
    at_last : drop (i - 1) values ≡ y ∷ drop i values
    at_last =
        let n : (i - 1) + 1 ≡ i = omega arith in
        drop_more values (i - 1) y before ∙ ap (λ (v : A). v ∷ drop ((i - 1) + 1) values) (sym y_is) ∙ ap (λ m. y ∷ drop m values) n

    module _ (z : A) (inside : i < length values) (z_is : z ≡ get_or values i z) where
      at_next : drop i values ≡ z ∷ drop (i + 1) values
      at_next = drop_more values i z inside ∙ ap (λ (v : A). v ∷ drop (i + 1) values) (sym z_is)

      pub running_more : same y z ≡ true → IsRunning values (i + 1)
      running_more e x h =
          let n : (i + 1) - 1 ≡ i = omega arith in
          let k : (i - 1) + 1 ≡ i = omega arith in
          run x h
          ∙ ap (λ (vs : List A). longer x (i - 1) (runs same vs)) (at_last ∙ ap (λ (vs : List A). y ∷ vs) at_next)
          ∙ longer_true x y z (i - 1) (drop (i + 1) values) e
          ∙ ap (λ (vs : List A). longer x ((i - 1) + 1) (runs same vs)) (sym at_next)
          ∙ ap (λ m. longer x m (runs same (drop i values))) k
          ∙ ap (λ m. longer x m (runs same (drop m values))) (sym n)

      pub running_ends : same y z ≡ false → (x : A) → slice_get values 0 ≡ Some x → runs same values ≡ record { value = x; count = i } ∷ runs same (drop i values)
      running_ends e x h =
          let k : 1 + (i - 1) ≡ i = omega arith in
          run x h
          ∙ ap (λ (vs : List A). longer x (i - 1) (runs same vs)) (at_last ∙ ap (λ (vs : List A). y ∷ vs) at_next)
          ∙ longer_false x y z (i - 1) (drop (i + 1) values) e
          ∙ ap (λ m. record { value = x; count = m } ∷ runs same (z ∷ drop (i + 1) values)) k
          ∙ ap (λ (vs : List A). record { value = x; count = i } ∷ runs same vs) (sym at_next)

  last_one : (values : List A) → length values ≡ 1 → (y : A) × (values ≡ y ∷ [])
  last_one [] h = absurd (omega arith)
  last_one (y ∷ []) h = (y, refl)
  last_one (y ∷ z ∷ zs) h = absurd (omega arith)

  pub running_all : (values : List A) (i : ℕ) → 1 ≤ i → i ≡ length values → IsRunning values i → (x : A) → slice_get values 0 ≡ Some x → runs same values ≡ record { value = x; count = i } ∷ runs same (drop i values)
  running_all values i from all run x h =
      let one : length (drop (i - 1) values) ≡ 1 = omega (arith, length-drop (i - 1) values) in
      let last = last_one (drop (i - 1) values) one in
      let none : drop i values ≡ [] = drop_all i values (omega arith) in
      let k : 1 + (i - 1) ≡ i = omega arith in
      run x h
      ∙ ap (λ (vs : List A). longer x (i - 1) (runs same vs)) last.1
      ∙ ap (λ m. record { value = x; count = m } ∷ []) k
      ∙ ap (λ (vs : List A). record { value = x; count = i } ∷ runs same vs) (sym none)

-- the text of the runs from a place on
module _ {A : Type 0} (same : A → A → Bool) (line : ℕ → ℕ → A → List ℕ) (values : List A) where
  abbrev pub rest_text : ℕ → List ℕ
  rest_text place = run_lines line place (runs same (drop place values))

  next_run : (place count next : ℕ) (x : A) → next ≡ place + count → runs same (drop place values) ≡ record { value = x; count = count } ∷ runs same (drop count (drop place values)) → rest_text place ≡ line place (next - 1) x ++ rest_text next
  next_run place count next x is run =
      let there : drop count (drop place values) ≡ drop next values = drop-drop count place values ∙ ap (λ m. drop m values) (sym is) in
      ap (run_lines line place) run
      ∙ ap (λ m. line place (m - 1) x ++ run_lines line m (runs same (drop count (drop place values)))) (sym is)
      ∙ ap (λ (vs : List A). line place (next - 1) x ++ run_lines line next (runs same vs)) there

  pub text_more : (all out new : List ℕ) (place count next : ℕ) (x : A) → next ≡ place + count →
      ((v : A) → slice_get (take (length values - place) (drop place values)) 0 ≡ Some v → runs same (take (length values - place) (drop place values)) ≡ record { value = v; count = count } ∷ runs same (drop count (take (length values - place) (drop place values)))) →
      place < length values → x ≡ get_or values place x → out ++ rest_text place ≡ all → new ≡ out ++ line place (next - 1) x → new ++ rest_text next ≡ all
  text_more all out new place count next x is run inside x_is before wrote =
      let whole : take (length values - place) (drop place values) ≡ drop place values = take_all (length values - place) (drop place values) (omega (arith, length-drop place values)) in
      let here : slice_get (drop place values) 0 ≡ Some x = ap (λ (vs : List A). slice_get vs 0) (drop_more values place x inside) ∙ ap Some (sym x_is) in
      ap (λ t. t ++ rest_text next) wrote
      ∙ append_assoc out (line place (next - 1) x) (rest_text next)
      ∙ ap (λ t. out ++ t) (sym (next_run place count next x is (rw whole at (run x (rw whole here)))))
      ∙ before

-- inside the list, what stands for a missing item doesn't count
pub get_or_any : {A : Type 0} (xs : List A) (i : ℕ) (d : A) → i < length xs → get_or xs i d ≡ get_or xs i (get_or xs i d)
get_or_any [] i d h = absurd (omega arith)
get_or_any (x ∷ xs) zero d h = refl
get_or_any (x ∷ xs) (suc i) d h = get_or_any xs i d (omega arith)
