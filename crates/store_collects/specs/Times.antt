-- Timely acts: each message that isn't lost comes within an hour of its sending, and each phase begins and ends within an hour of its request.
-- And acts of which no forget takes another row for the one that was collected.
use Rattle.std.specs.Prelude.{◌≡◌, ℕ, ◌+◌, ◌≤◌, true, false, List, [], ◌∷◌, Some, ⊤}
use Rattle.layout_roles.specs.declared.layout.Layout.{Layout}
use Rattle.crdt_rows.specs.declared.any_row.AnyRow.{AnyRow}
use Rattle.crdt_rows.specs.AnyRow.{any_join}
use Rattle.object_schema.specs.Schema.{words}
use Rattle.cluster_machine.specs.declared.step.Step.{Step}
use Rattle.cluster_machine.specs.declared.step.Step.TheVariants.{Deliver, Phase as Begin}
use Rattle.cluster_machine.specs.Layouts.{layouts}
use Rattle.cluster_machine.specs.Trio.{trio, stage_trio}
use Rattle.cluster_machine.specs.World.{Sent, Mark, Request, numbered}
use Rattle.cluster_machine.specs.Worlds.{does, next}
use Rattle.machine_collects.specs.Versions.{hour}
use Rattle.machine_collects.specs.Prompt.{HasNoClashIn, EndInTime, moments_after, moments_over}
use Rattle.object_collects.specs.Seen.{object_versions}
use Rattle.store_model.specs.Run.{World, Moving, State}
use Rattle.store_model.specs.Acts.{Act, acted}

-- where requests began at these moments: the step delivers no message more than an hour after it was sent, unless it was lost, and begins no phase of an open request more than an hour after that began
abbrev pub IsTimelyStep : List ℕ → World → Step AnyRow → Type 0
IsTimelyStep moments w (Deliver m) =
    (x : Sent AnyRow Layout) (mark : Mark) → numbered w.messages m ≡ Some x → numbered w.marks m ≡ Some mark → mark.is_lost ≡ false →
    w.time ≤ x.moment + hour
IsTimelyStep moments w (Begin q phase) =
    (r : Request) (began : ℕ) → numbered w.requests q ≡ Some r → r.is_open ≡ true → numbered moments q ≡ Some began → w.time ≤ began + hour
IsTimelyStep moments w _ = ⊤

-- and it ends no phase more than an hour after its request began
pub record IsTimelyMove (moments : List ℕ) (w : World) (m : Moving) : Type 0 where
  pub step : IsTimelyStep moments w m.step
  pub ends : EndInTime moments w.time (does any_join words w m).ends

-- each of these steps is timely when it comes
abbrev pub AreTimelyMoves : List ℕ → World → List Moving → Type 0
AreTimelyMoves moments w [] = ⊤
AreTimelyMoves moments w (m ∷ ms) =
    IsTimelyMove moments w m × AreTimelyMoves (moments_after moments w (does any_join words w m)) (next any_join words w m) ms

-- each step of each of these acts is timely
abbrev pub AreTimelyActs : List ℕ → State → List Act → Type 0
AreTimelyActs moments s [] = ⊤
AreTimelyActs moments s (a ∷ as') =
    AreTimelyMoves moments s.world (acted s a).moves
    × AreTimelyActs (moments_over any_join words layouts trio stage_trio moments s.world (acted s a).moves) (acted s a).state as'

-- where a forget is delivered, its receiver's row has the bytes of each collected row with the same digest
abbrev pub IsClearStep : World → Step AnyRow → Type 0
IsClearStep w (Deliver m) =
    (x : Sent AnyRow Layout) (mark : Mark) → numbered w.messages m ≡ Some x → numbered w.marks m ≡ Some mark → mark.is_lost ≡ false →
    HasNoClashIn any_join words object_versions w x.to x.packet
IsClearStep w _ = ⊤

-- so it is of each of these steps when it comes
abbrev pub AreClearMoves : World → List Moving → Type 0
AreClearMoves w [] = ⊤
AreClearMoves w (m ∷ ms) = IsClearStep w m.step × AreClearMoves (next any_join words w m) ms

-- no forget that these acts deliver comes to a row whose digest is that of a collected row, and whose bytes are others
abbrev pub ForgetsAreClear : State → List Act → Type 0
ForgetsAreClear s [] = ⊤
ForgetsAreClear s (a ∷ as') = AreClearMoves s.world (acted s a).moves × ForgetsAreClear (acted s a).state as'
