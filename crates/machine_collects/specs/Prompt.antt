-- Prompt runs of the machine: messages come, and requests change their phases, within an hour, and no clock is ahead by more.
use Rattle.std.specs.Prelude.{◌≡◌, ℕ, ◌+◌, ◌≤◌, true, false, List, [], ◌∷◌, ◌++◌, map, Some, ⊤}
use Rattle.std.specs.List.{AllByRecursion}
use Rattle.crdt_core.specs.Members.{Has}
use Rattle.blake2_hash.specs.Blake2b.{blake2b}
use Rattle.layout_roles.specs.declared.role.Role.{Role}
use Rattle.table_schema.specs.Words.{Words}
use Rattle.table_model.specs.Rows.{row_at}
use Rattle.wire_messages.specs.declared.phase.Phase.{Phase}
use Rattle.wire_messages.specs.declared.phase.Phase.TheVariants.{Store}
use Rattle.wire_messages.specs.declared.message.Message.{Message}
use Rattle.wire_messages.specs.declared.message.Message.TheVariants.{Forget}
use Rattle.cluster_machine.specs.declared.step.Step.{Step}
use Rattle.cluster_machine.specs.declared.step.Step.TheVariants.{Skew, Deliver, Collect, Phase as Begin}
use Rattle.cluster_machine.specs.Layouts.{Layouts}
use Rattle.cluster_machine.specs.Node.{Packet, says, shows, Ended}
use Rattle.cluster_machine.specs.Collects.{all_nodes}
use Rattle.cluster_machine.specs.World.{Sent, Mark, Request, World, numbered, empty}
use Rattle.cluster_machine.specs.Step.{Effects}
use Rattle.cluster_machine.specs.Run.{Move, does, next}
use Rattle.machine_collects.specs.Versions.{Version, Versions, hour}

-- a request that began at this moment stores no version from before
abbrev pub DrawsLate : {R : Type 0} → Words R → Versions R → ℕ → Phase R → Type 0
DrawsLate s v began (Store rows) = AllByRecursion (λ r. s.table r.0 ≡ 1 → (u : Version) → v.below r.0 u ≡ true → began ≤ u.0) rows
DrawsLate s v began _ = ⊤

-- the moments of requests, in order of their numbers, after a step that opens one, or none
abbrev pub moments_after : {R L A C : Type 0} → List ℕ → World R L → Effects R L A C → List ℕ
moments_after moments w e = moments ++ map (λ r. w.time) e.opens

-- phases end at this time within an hour of their requests, which began at these moments
abbrev pub EndInTime : {R : Type 0} → List ℕ → ℕ → List (Ended R) → Type 0
EndInTime moments time ends = AllByRecursion (λ e. (began : ℕ) → numbered moments e.request ≡ Some began → time ≤ began + hour) ends

module _ {R L : Type 0} (join : R → R → R) (s : Words R) (v : Versions R) where
  -- the row that a forget may drop has the bytes of the collected one, if it has their digest
  abbrev pub HasNoClash : World R L → ℕ → Message R → Type 0
  HasNoClash w n (Forget table key hash) = (r c : R) (x y : List ℕ) → row_at join s (w.nodes n).accepted table key ≡ Some r → Has w.collected c → s.spelling r ≡ Some x → s.spelling c ≡ Some y → blake2b 32 x ≡ blake2b 32 y → x ≡ y
  HasNoClash w n _ = ⊤

  abbrev pub HasNoClashIn : World R L → ℕ → Packet R L → Type 0
  HasNoClashIn w n (says m) = HasNoClash w n m
  HasNoClashIn w n (shows view) = ⊤

  -- a message comes within an hour, to a node that collections ask
  pub record ComesInTime (w : World R L) (x : Sent R L) : Type 0 where
    pub soon : w.time ≤ x.moment + hour
    pub asked : Has all_nodes x.to
    pub no_clash : HasNoClashIn w x.to x.packet

  -- a request that began at this moment begins a phase within an hour
  pub record BeginsInTime (w : World R L) (began : ℕ) (phase : Phase R) : Type 0 where
    pub soon : w.time ≤ began + hour
    pub late : DrawsLate s v began phase

  -- the step is prompt, where requests began at these moments
  abbrev pub IsPromptStep : List ℕ → World R L → Step R → Type 0
  IsPromptStep moments w (Deliver m) = (x : Sent R L) (mark : Mark) → numbered w.messages m ≡ Some x → numbered w.marks m ≡ Some mark → mark.is_lost ≡ false → ComesInTime w x
  IsPromptStep moments w (Begin q phase) = (r : Request) → numbered w.requests q ≡ Some r → r.is_open ≡ true → (began : ℕ) × ((numbered moments q ≡ Some began) × BeginsInTime w began phase)
  IsPromptStep moments w (Skew n ms) = ms ≤ hour
  IsPromptStep moments w (Collect n) = Has all_nodes n
  IsPromptStep moments w _ = ⊤

module _ {R L A C : Type 0} (join : R → R → R) (s : Words R) (k : Layouts L) (trio : L) (trio_roles : List Role → List Role) where
  -- the moments of requests after these steps, where requests began at these before
  abbrev pub moments_over : List ℕ → World R L → List (Move R L A C) → List ℕ
  moments_over moments w [] = moments
  moments_over moments w (m ∷ ms) = moments_over (moments_after moments w (does join s k trio trio_roles w m)) (next join s k trio trio_roles w m) ms

module _ {R L A C : Type 0} (join : R → R → R) (s : Words R) (v : Versions R) (k : Layouts L) (trio : L) (trio_roles : List Role → List Role) where
  -- each step is prompt when it comes, where requests began at these moments before the first
  abbrev pub ArePrompt : List ℕ → World R L → List (Move R L A C) → Type 0
  ArePrompt moments w [] = ⊤
  ArePrompt moments w (m ∷ ms) = IsPromptStep join s v moments w m.step × ArePrompt (moments_after moments w (does join s k trio trio_roles w m)) (next join s k trio trio_roles w m) ms

  -- a prompt run, from the empty world
  abbrev pub IsPrompt : List (Move R L A C) → Type 0
  IsPrompt ms = ArePrompt [] empty ms
