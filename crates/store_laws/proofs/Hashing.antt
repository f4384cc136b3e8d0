-- What steps hash for walks, in parts, and steps that fit and do no more than a whole run.
use Rattle.std.specs.Prelude.{◌⊎◌, ℕ, List, [], ◌∷◌, ◌++◌, IsTrue, ⊤}
use Rattle.std.proofs.Common.{inl, inr}
use Rattle.crdt_rows.specs.AnyRow.{any_join}
use Rattle.object_schema.specs.Schema.{words}
use Rattle.cluster_machine.specs.Fits.{Fits}
use Rattle.cluster_machine.specs.Hashes.{StepHashes}
use Rattle.cluster_machine.specs.Layouts.{layouts}
use Rattle.cluster_machine.specs.Trio.{trio, stage_trio}
use Rattle.cluster_machine.specs.Worlds.{FitAll, does, next, run}
use Rattle.store_model.specs.Run.{World, Moving, State}
use Rattle.store_model.specs.Acts.{Act, acted, after_acts, ActsFit}
use Rattle.store_laws.specs.Hashed.{StepsHash, ActsHash}
use Rattle.store_laws.proofs.Deeds.{Deed, OneDoes, StepsDo, ActsDo}

-- the strings that one step hashes
abbrev pub OneHashes : World → Moving → List ℕ → Type 0
OneHashes w m x = StepHashes words any_join layouts trio stage_trio w m x

-- a step more
pub done_more : (w : World) (moves : List Moving) (m : Moving) (d : Deed) → StepsDo w (moves ++ m ∷ []) d → StepsDo w moves d ⊎ OneDoes (run any_join words w moves) m d
done_more w [] m d (inl h) = inr h
done_more w [] m d (inr h) = inl h
done_more w (first ∷ moves) m d (inl h) = inl (inl h)
done_more w (first ∷ moves) m d (inr h) = elim (done_more (next any_join words w first) moves m d h) [ inl a ↦ inl (inr a) | inr b ↦ inr b ]

-- the first of these acts hash less than all
pub hashed_part : (s : State) (before rest : List Act) (x : List ℕ) → ActsHash s before x → ActsHash s (before ++ rest) x
hashed_part s [] rest x h = absurd h
hashed_part s (a ∷ before) rest x (inl h) = inl h
hashed_part s (a ∷ before) rest x (inr h) = inr (hashed_part (acted s a).state before rest x h)

-- and so do the last
pub hashed_rest : (s : State) (before rest : List Act) (x : List ℕ) → ActsHash (after_acts s before) rest x → ActsHash s (before ++ rest) x
hashed_rest s [] rest x h = h
hashed_rest s (a ∷ before) rest x h = inr (hashed_rest (acted s a).state before rest x h)

pub hashed_parts : (s : State) (before rest : List Act) (x : List ℕ) → ActsHash s (before ++ rest) x → ActsHash s before x ⊎ ActsHash (after_acts s before) rest x
hashed_parts s [] rest x h = inr h
hashed_parts s (a ∷ before) rest x (inl h) = inl (inl h)
hashed_parts s (a ∷ before) rest x (inr h) = elim (hashed_parts (acted s a).state before rest x h) [ inl u ↦ inl (inr u) | inr v ↦ inr v ]

-- the same of steps
pub steps_part : (w : World) (first rest : List Moving) (x : List ℕ) → StepsHash w first x → StepsHash w (first ++ rest) x
steps_part w [] rest x h = absurd h
steps_part w (m ∷ first) rest x (inl h) = inl h
steps_part w (m ∷ first) rest x (inr h) = inr (steps_part (next any_join words w m) first rest x h)

pub steps_rest : (w : World) (first rest : List Moving) (x : List ℕ) → StepsHash (run any_join words w first) rest x → StepsHash w (first ++ rest) x
steps_rest w [] rest x h = h
steps_rest w (m ∷ first) rest x h = inr (steps_rest (next any_join words w m) first rest x h)

pub steps_parts : (w : World) (first rest : List Moving) (x : List ℕ) → StepsHash w (first ++ rest) x → StepsHash w first x ⊎ StepsHash (run any_join words w first) rest x
steps_parts w [] rest x h = inr h
steps_parts w (m ∷ first) rest x (inl h) = inl (inl h)
steps_parts w (m ∷ first) rest x (inr h) = elim (steps_parts (next any_join words w m) first rest x h) [ inl u ↦ inl (inr u) | inr v ↦ inr v ]

module _ (H : Deed → Type 0) where
  -- what this step does is among these deeds
  abbrev pub DoesIn : World → Moving → Type 0
  DoesIn w m = (d : Deed) → OneDoes w m d → H d

  -- after each of these steps all fits, and what it does is among these deeds
  abbrev pub FitIn : World → List Moving → Type 0
  FitIn w [] = ⊤
  FitIn w (m ∷ ms) = (Fits words (next any_join words w m) × IsTrue (does any_join words w m).is_spelled × DoesIn w m) × FitIn (next any_join words w m) ms

  -- the same of acts
  abbrev pub ActsIn : State → List Act → Type 0
  ActsIn s [] = ⊤
  ActsIn s (a ∷ as') = FitIn s.world (acted s a).moves × ActsIn (acted s a).state as'

  -- steps fit where all that they do is among these deeds
  pub fit_in : (w : World) (moves : List Moving) → FitAll any_join words w moves → ((d : Deed) → StepsDo w moves d → H d) → FitIn w moves
  fit_in w [] fits h = tt
  fit_in w (m ∷ moves) fits h = ((fits.0.0, fits.0.1, λ x i. h x (inl i)), fit_in (next any_join words w m) moves fits.1 (λ x i. h x (inr i)))

  -- in two parts
  pub in_parts : (w : World) (first rest : List Moving) → FitIn w (first ++ rest) → FitIn w first × FitIn (run any_join words w first) rest
  in_parts w [] rest fits = (tt, fits)
  in_parts w (m ∷ first) rest fits = let more = in_parts (next any_join words w m) first rest fits.1 in ((fits.0, more.0), more.1)

  -- the same of acts
  pub acts_in : (s : State) (as' : List Act) → ActsFit s as' → ((d : Deed) → ActsDo s as' d → H d) → ActsIn s as'
  acts_in s [] fit h = tt
  acts_in s (a ∷ as') fit h = (fit_in s.world (acted s a).moves fit.0 (λ x i. h x (inl i)), acts_in (acted s a).state as' fit.1 (λ x i. h x (inr i)))

  pub acts_in_parts : (s : State) (before rest : List Act) → ActsIn s (before ++ rest) → ActsIn s before × ActsIn (after_acts s before) rest
  acts_in_parts s [] rest fit = (tt, fit)
  acts_in_parts s (a ∷ before) rest fit = let more = acts_in_parts (acted s a).state before rest fit.1 in ((fit.0, more.0), more.1)
