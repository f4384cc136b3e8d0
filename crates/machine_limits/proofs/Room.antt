-- Runs of small steps have room at each step.
use Rattle.std.specs.Prelude.{◌≡◌, ◌≤◌, ◌+◌, ℕ, suc, List, [], ◌∷◌, length, refl}
use Rattle.std.specs.Option.{unwrap_or}
use Rattle.std.proofs.Common.{ap, ◌∙◌, arith}
use Rattle.layout_roles.specs.declared.layout.Layout.{Layout}
use Rattle.table_schema.specs.Words.{Words}
use Rattle.cluster_machine.specs.declared.step.Step.{Step}
use Rattle.cluster_machine.specs.declared.step.Step.TheVariants.{Deliver}
use Rattle.cluster_machine.specs.World.{empty, numbered}
use Rattle.cluster_machine.specs.Worlds.{Model, Doing, IsSound, HaveRoom, next}
use Rattle.machine_limits.specs.Bounds.{AreBounded}
use Rattle.machine_limits.specs.Steps.{HasPlace}
use Rattle.machine_limits.specs.Run.{counted_at, delivered, AreSmall}
use Rattle.machine_limits.proofs.Nodes.{mail_limit}
use Rattle.machine_limits.proofs.Worlds.{WorldFits}
use Rattle.machine_limits.proofs.Moves.{StaysSound, world_exact, moves}
use Rattle.machine_limits.proofs.Runs.{start_world}

place_of : {R : Type 0} (s : Words R) (k : ℕ) (w : Model R) (step : Step R) → HasPlace s k (k + delivered s w step) w step
place_of s k w (Deliver i) = λ x there b e. let is : counted_at s (numbered w.messages i) ≡ b = ap (counted_at s) there ∙ ap (λ o. unwrap_or o 0) e in omega arith
place_of s k w _ = tt

module _ {R : Type 0} {join : R → R → R} {s : Words R} {P : R → Type 0} {weight : R → ℕ} (bounded : AreBounded join s P weight) (stays : StaysSound join s) where
  rooms_from : (t k b : ℕ) (w : Model R) (ms : List (Doing R)) → WorldFits join s P weight t k b w → length w.messages ≡ length w.marks → AreSmall join s P weight k w ms → t + length ms ≤ 16777216 → HaveRoom join s w ms
  rooms_from t k b w [] fits marks small few = tt
  rooms_from t k b w (m ∷ ms) fits marks small few =
      let here = small.0 in
      let exact = world_exact t k b 12000000000000000000 w here.bytes here.sent here.within fits in
      let one = moves bounded stays t k (k + delivered s w m.step) 12000000000000000000 w m (omega arith) here.few (omega arith) (omega arith) exact marks here.fits (place_of s k w m.step) here.lawful in
      (one.room, rooms_from (suc t) (k + delivered s w m.step) (12000000000000000000 + mail_limit) (next join s w m) ms one.world one.marks small.1 (omega arith))

  pub small_runs : IsSound (empty {R = R} {L = Layout}) → (ms : List (Doing R)) → AreSmall join s P weight 0 empty ms → length ms ≤ 16777216 → HaveRoom join s empty ms
  small_runs sound ms small few = let low : length ms ≤ 16777216 = few in rooms_from 0 0 268435456 empty ms (start_world sound) refl small (omega arith)
