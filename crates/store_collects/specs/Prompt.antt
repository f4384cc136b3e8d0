-- Prompt acts: each step of the world comes in time, and each phase ends within an hour of its request.
use Rattle.std.specs.Prelude.{ℕ, List, [], ◌∷◌, ⊤}
use Rattle.crdt_rows.specs.AnyRow.{any_join}
use Rattle.object_schema.specs.Schema.{words}
use Rattle.cluster_machine.specs.Layouts.{layouts}
use Rattle.cluster_machine.specs.Trio.{trio, stage_trio}
use Rattle.cluster_machine.specs.Worlds.{does, next}
use Rattle.machine_collects.specs.Prompt.{IsPromptStep, EndInTime, moments_after, moments_over}
use Rattle.object_collects.specs.Seen.{object_versions}
use Rattle.store_model.specs.Run.{World, Moving, State}
use Rattle.store_model.specs.Acts.{Act, acted}

-- the step is prompt, and so are the ends of phases that it brings, where requests began at these moments
pub record IsPromptMove (moments : List ℕ) (w : World) (m : Moving) : Type 0 where
  pub step : IsPromptStep any_join words object_versions moments w m.step
  pub ends : EndInTime moments w.time (does any_join words w m).ends

-- each of these steps is prompt when it comes
abbrev pub ArePromptMoves : List ℕ → World → List Moving → Type 0
ArePromptMoves moments w [] = ⊤
ArePromptMoves moments w (m ∷ ms) = IsPromptMove moments w m × ArePromptMoves (moments_after moments w (does any_join words w m)) (next any_join words w m) ms

-- each step of each of these acts is prompt
abbrev pub ArePromptActs : List ℕ → State → List Act → Type 0
ArePromptActs moments s [] = ⊤
ArePromptActs moments s (a ∷ as') = ArePromptMoves moments s.world (acted s a).moves × ArePromptActs (moments_over any_join words layouts trio stage_trio moments s.world (acted s a).moves) (acted s a).state as'
