-- Runs of small steps.
use Rattle.std.specs.Prelude.{◌≡◌, ◌≤◌, ◌+◌, ℕ, Option, Some, None, List, [], ◌∷◌, ⊤}
use Rattle.std.specs.Option.{unwrap_or}
use Rattle.layout_roles.specs.declared.layout.Layout.{Layout}
use Rattle.table_schema.specs.Words.{Words}
use Rattle.cluster_machine.specs.declared.step.Step.{Step}
use Rattle.cluster_machine.specs.declared.step.Step.TheVariants.{Deliver}
use Rattle.cluster_machine.specs.World.{Sent, numbered, packet_size, sent_bytes}
use Rattle.cluster_machine.specs.Worlds.{Model, Doing, IsLawful, next}
use Rattle.machine_limits.specs.Steps.{StepFits}

-- what a message counts, if it is there
abbrev pub counted_at : {R : Type 0} → Words R → Option (Sent R Layout) → ℕ
counted_at s None = 0
counted_at s (Some x) = unwrap_or (packet_size s x.packet) 0

-- what the message counts that a step delivers
abbrev pub delivered : {R : Type 0} → Words R → Model R → Step R → ℕ
delivered s w (Deliver i) = counted_at s (numbered w.messages i)
delivered s w _ = 0

-- a lawful step that asks for little, where so many bytes were delivered before it; with its own these are few, and before it few were sent
pub record IsSmall {R : Type 0} (s : Words R) (P : R → Type 0) (weight : R → ℕ) (k : ℕ) (w : Model R) (m : Doing R) : Type 0 where
  pub lawful : IsLawful w m
  pub fits : StepFits P weight m.step
  pub few : k + delivered s w m.step ≤ 27000000000000
  pub bytes : ℕ
  pub sent : sent_bytes s w.messages ≡ Some bytes
  pub within : bytes ≤ 12000000000000000000

-- each of these steps is small when it comes
abbrev pub AreSmall : {R : Type 0} → (R → R → R) → Words R → (R → Type 0) → (R → ℕ) → ℕ → Model R → List (Doing R) → Type 0
AreSmall join s P weight k w [] = ⊤
AreSmall join s P weight k w (m ∷ ms) = IsSmall s P weight k w m × AreSmall join s P weight (k + delivered s w m.step) (next join s w m) ms
