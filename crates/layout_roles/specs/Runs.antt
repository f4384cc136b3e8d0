-- The longest runs of equal values in a list.
use Rattle.std.specs.Prelude.{◌≡◌, ℕ, suc, ◌+◌, ◌-◌, ◌<◌, ⊤, Bool, false, if◌then◌else◌, List, [], ◌∷◌, ◌++◌, replicate, flat_map}

-- a value, and how many times it stands there
pub record Run (A : Type 0) : Type 0 where
  pub value : A
  pub count : ℕ

module _ {A : Type 0} where
  -- a run of one value
  abbrev pub once : A → Run A
  once x = record { value = x; count = 1 }

  -- a value joins the run after it where that is of the same value
  abbrev pub joined : (A → A → Bool) → A → List (Run A) → List (Run A)
  joined same x [] = once x ∷ []
  joined same x (run ∷ runs) = if same x run.value then record { value = x; count = suc run.count } ∷ runs else once x ∷ run ∷ runs

  -- the runs of a list, in its order
  abbrev pub runs : (A → A → Bool) → List A → List (Run A)
  runs same [] = []
  runs same (x ∷ xs) = joined same x (runs same xs)

  -- a line for each run, of its first place, its last place and its value; the first run begins at `place`
  abbrev pub run_lines : (ℕ → ℕ → A → List ℕ) → ℕ → List (Run A) → List ℕ
  run_lines line place [] = []
  run_lines line place (run ∷ runs) = line place (place + run.count - 1) run.value ++ run_lines line (place + run.count) runs

  -- the values of some runs, one by one
  abbrev pub written_out : List (Run A) → List A
  written_out runs = flat_map (λ run. replicate run.count run.value) runs

  -- no run is empty, and none has the value of the one after it
  abbrev pub AreApart : (A → A → Bool) → List (Run A) → Type 0
  AreApart same [] = ⊤
  AreApart same (run ∷ []) = 0 < run.count
  AreApart same (run ∷ next ∷ runs) = (0 < run.count) × (same run.value next.value ≡ false) × AreApart same (next ∷ runs)
