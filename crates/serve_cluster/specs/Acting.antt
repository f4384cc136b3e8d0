-- What a call does to a world, as acts of the state for which it stands.
use Rattle.std.specs.Prelude.{◌≡◌, ℕ, List, [], Option, None}
use Rattle.flow_model.specs.declared.flow.FlowEnd.{FlowEnd}
use Rattle.cluster_machine.specs.Ties as ties
use Rattle.cluster_machine.specs.World.{undelivered}
use Rattle.store_model.specs.Run.{State}
use Rattle.store_model.specs.Acts.{Act, after_acts, end_of, AreLawfulActs, ActsFit}
use Rattle.s3_world.specs.declared.world.S3World.{S3World}
use Rattle.s3_world.specs.Reads.{Handed, with_first}
use Rattle.s3_world.specs.Stands.{IsStore, IsGiving, Holds}
use Rattle.serve_model.specs.Clusters.{acts_past_end, acts_opened, end_in, ActLacksRoom}

-- the acts were lawful and fit, and the state after them is so
pub record LedTo (Is : State → Type 0) (s : State) (acts : List Act) : Type 0 where
  pub lawful : AreLawfulActs s acts
  pub fit : ActsFit s acts
  pub stands : Is (after_acts s acts)

-- the acts were lawful and fit, and the world stands for the state after them
abbrev pub DoneActs : S3World → State → List Act → Type 0
DoneActs new = LedTo (IsStore new)

-- whatever state the world stood for, it did these acts
abbrev pub DoesActs : S3World → S3World → List Act → Type 0
DoesActs old new acts = ties.Steps IsStore old (λ s. DoneActs new s acts)

-- the same, and what was handed out of a request stays so
abbrev pub KeepsActs : S3World → S3World → List Act → Type 0
KeepsActs old new acts = (given : Handed) → ties.Steps (Holds given) old (λ s. LedTo (Holds given new) s acts)

-- whatever state it stood for, one of these acts has no room
abbrev pub LacksRoom : S3World → (State → List Act) → Type 0
LacksRoom old acts = ties.Steps IsStore old (λ s. ActLacksRoom s (acts s))

-- whatever state it stood for, no message is left that was neither delivered nor lost
abbrev pub IsDrained : S3World → Type 0
IsDrained c = ties.Steps IsStore c (λ s. undelivered s.world ≡ None)

-- the request ended so, past these bytes, which were handed out; its end was taken, and delivered messages were forgotten
pub record TookEnd (new : S3World) (s : State) (q : ℕ) (given : List ℕ) (end : Option FlowEnd) : Type 0 where
  pub end_is : with_first given end ≡ end_of s.ends q
  pub does : DoneActs new s (acts_past_end q (end_of s.ends q))

-- whatever state the world stood for, and whatever it had handed out of request q, its end was taken
abbrev pub TakesEnd : S3World → S3World → ℕ → Option FlowEnd → Type 0
TakesEnd old new q end = (given : List ℕ) (s : State) → IsGiving old s q given → TookEnd new s q given end

-- the request, which was opened, came to this end once this was done
pub record Finished (new : S3World) (s : State) (members : List ℕ) (q : ℕ) (done : List Act) (end : Option FlowEnd) : Type 0 where
  pub end_is : end ≡ end_in members s q done
  pub does : DoneActs new s (acts_opened members s q done)

-- whatever state the world stood for in which nothing was handed out of request q, this was done, and it was brought to its end
abbrev pub Finishes : S3World → S3World → List ℕ → ℕ → (State → List Act) → Option FlowEnd → Type 0
Finishes old new members q done end = (s : State) → IsGiving old s q [] → Finished new s members q (done s) end
