-- What steps hash for walks, in parts, and steps that fit and hash no more than a whole run.
use Rattle.std.specs.Prelude.{◌⊎◌, ℕ, List, [], ◌∷◌, ◌++◌, IsTrue, ⊤}
use Rattle.std.proofs.Common.{inl, inr}
use Rattle.k2v_rows.specs.Row.{row_join}
use Rattle.k2v_schema.specs.Schema.{words}
use Rattle.cluster_machine.specs.Fits.{Fits}
use Rattle.cluster_machine.specs.Hashes.{StepHashes}
use Rattle.cluster_machine.specs.Layouts.{layouts}
use Rattle.cluster_machine.specs.Trio.{trio, stage_trio}
use Rattle.cluster_machine.specs.Worlds.{FitAll, does, next, run}
use Rattle.k2v_model.specs.Run.{World, Moving}
use Rattle.k2v_laws.specs.Hashed.{StepsHash}

-- the strings that one step hashes
abbrev pub OneHashes : World → Moving → List ℕ → Type 0
OneHashes w m x = StepHashes words row_join layouts trio stage_trio w m x

-- a step more
pub hashed_more : (w : World) (moves : List Moving) (m : Moving) (x : List ℕ) → StepsHash w (moves ++ m ∷ []) x → StepsHash w moves x ⊎ OneHashes (run row_join words w moves) m x
hashed_more w [] m x (inl h) = inr h
hashed_more w [] m x (inr h) = inl h
hashed_more w (first ∷ moves) m x (inl h) = inl (inl h)
hashed_more w (first ∷ moves) m x (inr h) = elim (hashed_more (next row_join words w first) moves m x h) [ inl a ↦ inl (inr a) | inr b ↦ inr b ]

module _ (H : List ℕ → Type 0) where
  -- what this step hashes is among these strings
  abbrev pub HashesIn : World → Moving → Type 0
  HashesIn w m = (x : List ℕ) → OneHashes w m x → H x

  -- after each of these steps all fits, and what it hashes is among these strings
  abbrev pub FitIn : World → List Moving → Type 0
  FitIn w [] = ⊤
  FitIn w (m ∷ ms) = (Fits words (next row_join words w m) × IsTrue (does row_join words w m).is_spelled × HashesIn w m) × FitIn (next row_join words w m) ms

  -- steps fit so where all that they hash is among these strings
  pub fit_in : (w : World) (moves : List Moving) → FitAll row_join words w moves → ((x : List ℕ) → StepsHash w moves x → H x) → FitIn w moves
  fit_in w [] fits h = tt
  fit_in w (m ∷ moves) fits h = ((fits.0.0, fits.0.1, λ x i. h x (inl i)), fit_in (next row_join words w m) moves fits.1 (λ x i. h x (inr i)))

  -- in two parts
  pub in_parts : (w : World) (first rest : List Moving) → FitIn w (first ++ rest) → FitIn w first × FitIn (run row_join words w first) rest
  in_parts w [] rest fits = (tt, fits)
  in_parts w (m ∷ first) rest fits = let more = in_parts (next row_join words w m) first rest fits.1 in ((fits.0, more.0), more.1)
