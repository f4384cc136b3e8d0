-- A lawful step of a world within the limits has room and leaves it within them; what is known of a world holds with more room, and of rows with a weaker property.
use Rattle.std.specs.Prelude.{◌≡◌, ◌≤◌, ◌+◌, ℕ, suc, List, [], ◌∷◌, Option, Some, length, map}
use Rattle.std.specs.List.{AllByRecursion}
use Rattle.std.proofs.Common.{sym, ◌∙◌, arith}
use Rattle.table_schema.specs.Words.{Words}
use Rattle.wire_messages.specs.declared.phase.Phase.TheVariants.{Read, Range, Store, Block}
use Rattle.cluster_machine.specs.declared.step.Step.{Step}
use Rattle.cluster_machine.specs.declared.step.Step.TheVariants.{Phase as Begin}
use Rattle.cluster_machine.specs.World.{sent_bytes}
use Rattle.cluster_machine.specs.Worlds.{Model, Doing, IsLawful, IsSound, HasRoom, does, next}
use Rattle.machine_origins.specs.Origins.{stored_by}
use Rattle.machine_origins.proofs.Beginning.{BeginsPlaced}
use Rattle.machine_limits.specs.Bounds.{AreBounded}
use Rattle.machine_limits.specs.Steps.{StoredFits, StepFits, HasPlace}
use Rattle.machine_limits.proofs.Nodes.{mail_limit, Short, node_later}
use Rattle.machine_limits.proofs.Worlds.{WorldFits, world_next, room_of}
use Rattle.machine_limits.proofs.Weaker.{sound_weaker}
use Rattle.machine_limits.proofs.Spending.{Mailed, Spends, step_spends, marks_next}

-- after a step that is given something lawful a sound world is sound
abbrev pub StaysSound : {R : Type 0} → (R → R → R) → Words R → Type 0
StaysSound {R} join s = (w : Model R) (m : Doing R) → IsSound w → IsLawful w m → IsSound (next join s w m)

-- ---- steps that ask for little

module _ {R : Type 0} (P : R → Type 0) (weight : R → ℕ) where
  rows_of : (rs : List (R × Option (List ℕ))) → AllByRecursion (StoredFits P weight) rs → AllByRecursion P (map (λ r. r.0) rs)
  rows_of [] a = tt
  rows_of (r ∷ rs) a = (a.0.0, rows_of rs a.1)

  -- the rows that they begin to store have the property
  stored_of : (step : Step R) → StepFits P weight step → AllByRecursion P (stored_by step)
  stored_of (Begin q (Store rs)) h = rows_of rs h.1
  stored_of (Begin q (Read table position key)) h = tt
  stored_of (Begin q (Range position prefix after)) h = tt
  stored_of (Begin q (Block hash)) h = tt
  stored_of _ h = tt

  -- and their positions have 32 bytes
  placed_of : (step : Step R) → StepFits P weight step → BeginsPlaced step
  placed_of (Begin q (Store rs)) h = tt
  placed_of (Begin q (Read table position key)) h = tt
  placed_of (Begin q (Range position prefix after)) h = h.0
  placed_of (Begin q (Block hash)) h = tt
  placed_of _ h = tt

-- ---- worlds

module _ {R : Type 0} {join : R → R → R} {s : Words R} {P : R → Type 0} {weight : R → ℕ} where
  -- with more room
  pub world_wider : (t u k m b c : ℕ) (w : Model R) → t ≤ u → u ≤ 16777216 → k ≤ m → b ≤ c → WorldFits join s P weight t k b w → WorldFits join s P weight u m c w
  world_wider t u k m b c w later early grows low f =
      let time = f.time in
      let requests = f.requests in
      let few = f.few in
      record {
        early = early;
        sound = f.sound;
        asks = f.asks;
        rows = f.rows;
        nodes = λ n. node_later t k u m (w.nodes n) later grows (f.nodes n);
        beside = f.beside;
        time = omega arith;
        skews = f.skews;
        requests = omega arith;
        applied = f.applied;
        bytes = f.bytes;
        bytes_are = f.bytes_are;
        few = omega arith;
      }

  -- where rows have a weaker property
  pub world_weaker : (Q : R → Type 0) → ((r : R) → P r → Q r) → (t k b : ℕ) (w : Model R) → WorldFits join s P weight t k b w → WorldFits join s Q weight t k b w
  world_weaker Q weaker t k b w f = record {
    early = f.early;
    sound = f.sound;
    asks = f.asks;
    rows = sound_weaker join s P Q Short weaker f.asks w f.rows;
    nodes = f.nodes;
    beside = f.beside;
    time = f.time;
    skews = f.skews;
    requests = f.requests;
    applied = f.applied;
    bytes = f.bytes;
    bytes_are = f.bytes_are;
    few = f.few;
  }

  -- with the bytes that were sent in place of a bound
  pub world_exact : (t k b c : ℕ) (w : Model R) (n : ℕ) → sent_bytes s w.messages ≡ Some n → n ≤ c → WorldFits join s P weight t k b w → WorldFits join s P weight t k c w
  world_exact t k b c w n e h f =
      let both : Some n ≡ Some f.bytes = sym e ∙ f.bytes_are in
      let same : n ≡ f.bytes = cc in
      record {
        early = f.early;
        sound = f.sound;
        asks = f.asks;
        rows = f.rows;
        nodes = f.nodes;
        beside = f.beside;
        time = f.time;
        skews = f.skews;
        requests = f.requests;
        applied = f.applied;
        bytes = f.bytes;
        bytes_are = f.bytes_are;
        few = omega arith;
      }

-- a step has room, and leaves a world within the limits, in which each message has its mark and no fewer were spent
pub record Moves {R : Type 0} (join : R → R → R) (s : Words R) (P : R → Type 0) (weight : R → ℕ) (t m b : ℕ) (w : Model R) (mv : Doing R) : Type 0 where
  pub room : HasRoom join s w mv
  pub world : WorldFits join s P weight t m b (next join s w mv)
  pub marks : length (next join s w mv).messages ≡ length (next join s w mv).marks
  pub spends : (f : Mailed R → ℕ) → Spends f w (next join s w mv) 0

module _ {R : Type 0} {join : R → R → R} {s : Words R} {P : R → Type 0} {weight : R → ℕ} (bounded : AreBounded join s P weight) (stays : StaysSound join s) where
  pub moves : (t k m b : ℕ) (w : Model R) (mv : Doing R) → k ≤ m → m ≤ 27000000000000 → b ≤ 12000000000000000000 → suc t ≤ 16777216 → WorldFits join s P weight t k b w → length w.messages ≡ length w.marks →
      StepFits P weight mv.step → HasPlace s k m w mv.step → IsLawful w mv → Moves join s P weight (suc t) m (b + mail_limit) w mv
  moves t k m b w mv grows top low few fits marks meant place lawful =
      let sound = stays w mv fits.sound lawful in
      let n = world_next bounded t k m b grows top w fits mv few meant place (stored_of P weight mv.step meant) (placed_of P weight mv.step meant) sound in
      let room = room_of bounded (suc t) m (b + mail_limit) (next join s w mv) top (omega arith) n.1 in
      record {
        room = ((room.0, n.0), room.1);
        world = n.1;
        marks = marks_next w (does join s w mv) marks;
        spends = λ f. step_spends f w (does join s w mv) n.2 marks;
      }
