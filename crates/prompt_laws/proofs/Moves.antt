-- Steps that are timely and clear are prompt, one after the other.
use Rattle.std.proofs.Common.{◌≡◌, ◌≤◌, ℕ, Some, List, [], ◌∷◌, ◌++◌, refl}
use Rattle.std.specs.Prelude.{⊤}
use Rattle.crdt_rows.specs.declared.any_row.AnyRow.{AnyRow}
use Rattle.crdt_rows.specs.AnyRow.{any_join}
use Rattle.object_schema.specs.Schema.{words}
use Rattle.cluster_machine.specs.declared.step.Step.{Step}
use Rattle.cluster_machine.specs.declared.step.Step.TheVariants.{Skew, Deliver, Collect, Phase as Begin}
use Rattle.cluster_machine.specs.Layouts.{layouts}
use Rattle.cluster_machine.specs.Trio.{trio, stage_trio}
use Rattle.cluster_machine.specs.World.{numbered}
use Rattle.cluster_machine.specs.Worlds.{does, next, run}
use Rattle.machine_origins.proofs.Lists.{all_numbered}
use Rattle.machine_collects.specs.Versions.{hour}
use Rattle.machine_collects.specs.Prompt.{IsPromptStep, moments_after, moments_over}
use Rattle.object_collects.specs.Seen.{object_versions}
use Rattle.receiver_laws.specs.Places.{StepNames, SentNames}
use Rattle.store_model.specs.Run.{World, Moving}
use Rattle.store_collects.specs.Prompt.{ArePromptMoves}
use Rattle.store_collects.specs.Times.{IsTimelyStep, AreTimelyMoves, IsClearStep, AreClearMoves}
use Rattle.prompt_laws.proofs.Places.{IsPlace, has_place}
use Rattle.prompt_laws.proofs.Late.{Late}
use Rattle.prompt_laws.proofs.Timed.{IsTimed, moment_at}

-- the moments of requests after steps
abbrev pub over : List ℕ → World → List Moving → List ℕ
over moments w ms = moments_over any_join words layouts trio stage_trio moments w ms

-- the step sets no clock ahead by more than an hour, and begins no phase that stores a version from before its request
abbrev pub MayCome : List ℕ → Step AnyRow → Type 0
MayCome moments (Skew n ms) = ms ≤ hour
MayCome moments (Begin q phase) = (began : ℕ) → numbered moments q ≡ Some began → Late began phase
MayCome moments _ = ⊤

step_prompt : (moments : List ℕ) (w : World) (st : Step AnyRow) → IsTimed moments w → StepNames IsPlace st → MayCome moments st → IsTimelyStep moments w st → IsClearStep w st → IsPromptStep any_join words object_versions moments w st
step_prompt moments w (Deliver m) h names may timely clear = λ x mark is there kept.
    record { soon = timely x mark is there kept; asked = has_place x.to (all_numbered (SentNames IsPlace layouts) w.messages m x h.names.messages is).to; no_clash = clear x mark is there kept }
step_prompt moments w (Begin q phase) h names may timely clear = λ r is still.
    let moment = moment_at moments w.requests q r h.counts is in
    (moment.0, (moment.1, record { soon = timely r moment.0 is still moment.1; late = may moment.0 moment.1 }))
step_prompt moments w (Skew n ms) h names may timely clear = may
step_prompt moments w (Collect n) h names may timely clear = has_place n names
step_prompt moments w _ h names may timely clear = tt

-- steps are prompt if they are timely and clear
abbrev pub GoPrompt : List ℕ → World → List Moving → Type 0
GoPrompt moments w ms = AreTimelyMoves moments w ms → AreClearMoves w ms → ArePromptMoves moments w ms

pub first_prompt : (moments : List ℕ) (w : World) (m : Moving) (ms : List Moving) → IsTimed moments w → StepNames IsPlace m.step → MayCome moments m.step →
    GoPrompt (moments_after moments w (does any_join words w m)) (next any_join words w m) ms → GoPrompt moments w (m ∷ ms)
first_prompt moments w m ms h names may rest timely clear = (record { step = step_prompt moments w m.step h names may timely.0.step clear.0; ends = timely.0.ends }, rest timely.1 clear.1)

-- ---- steps in two parts

pub over_parts : (moments : List ℕ) (w : World) (first rest : List Moving) → over moments w (first ++ rest) ≡ over (over moments w first) (run any_join words w first) rest
over_parts moments w [] rest = refl
over_parts moments w (m ∷ first) rest = over_parts (moments_after moments w (does any_join words w m)) (next any_join words w m) first rest

timely_parts : (moments : List ℕ) (w : World) (first rest : List Moving) → AreTimelyMoves moments w (first ++ rest) → AreTimelyMoves moments w first × AreTimelyMoves (over moments w first) (run any_join words w first) rest
timely_parts moments w [] rest h = (tt, h)
timely_parts moments w (m ∷ first) rest h =
    let parts = timely_parts (moments_after moments w (does any_join words w m)) (next any_join words w m) first rest h.1 in ((h.0, parts.0), parts.1)

clear_parts : (w : World) (first rest : List Moving) → AreClearMoves w (first ++ rest) → AreClearMoves w first × AreClearMoves (run any_join words w first) rest
clear_parts w [] rest h = (tt, h)
clear_parts w (m ∷ first) rest h = let parts = clear_parts (next any_join words w m) first rest h.1 in ((h.0, parts.0), parts.1)

both_prompt : (moments : List ℕ) (w : World) (first rest : List Moving) → ArePromptMoves moments w first → ArePromptMoves (over moments w first) (run any_join words w first) rest → ArePromptMoves moments w (first ++ rest)
both_prompt moments w [] rest a b = b
both_prompt moments w (m ∷ first) rest a b = (a.0, both_prompt (moments_after moments w (does any_join words w m)) (next any_join words w m) first rest a.1 b)

pub parts_prompt : (moments : List ℕ) (w : World) (first rest : List Moving) → GoPrompt moments w first → GoPrompt (over moments w first) (run any_join words w first) rest → GoPrompt moments w (first ++ rest)
parts_prompt moments w first rest a b timely clear =
    let times = timely_parts moments w first rest timely in
    let clears = clear_parts w first rest clear in
    both_prompt moments w first rest (a times.0 clears.0) (b times.1 clears.1)
