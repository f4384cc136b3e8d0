-- How far a world's time and counts have come, what acts add to them, and when they have their places in the code.
use Rattle.std.specs.Prelude.{◌≡◌, ◌≤◌, ◌<◌, ◌+◌, ◌^◌, ℕ, ⊤, length, List, [], ◌∷◌}
use Rattle.crdt_rows.specs.AnyRow.{any_join}
use Rattle.object_schema.specs.Schema.{words}
use Rattle.cluster_machine.specs.declared.step.Step.{Step}
use Rattle.cluster_machine.specs.declared.step.Step.TheVariants.{Tick, Skew, Sync, Repair, Open}
use Rattle.cluster_machine.specs.World.{clock}
use Rattle.cluster_machine.specs.Worlds.{next}
use Rattle.store_model.specs.Run.{World, Moving}
use Rattle.store_model.specs.Acts.{Act, asks}
use Rattle.store_model.specs.Acts.{moves as moving}

-- ---- how far

-- at most so many milliseconds have passed, no clock is ahead, there are at most so many requests, and each node began at most so many rounds and repairs
pub record IsUpTo (ms asked begun : ℕ) (w : World) : Type 0 where
  pub time : w.time ≤ ms
  pub skews : (n : ℕ) → w.skew_of n ≡ 0
  pub requests : length w.requests ≤ asked
  pub rounds : (n : ℕ) → (w.nodes n).rounds ≤ begun

-- so it is after each of these steps
abbrev pub AllAreUpTo : (ms asked begun : ℕ) → World → List Moving → Type 0
AllAreUpTo ms asked begun w [] = ⊤
AllAreUpTo ms asked begun w (m ∷ moves) =
    let then = next any_join words w m in
    IsUpTo ms asked begun then × AllAreUpTo ms asked begun then moves

-- ---- what is added

-- milliseconds that pass in a step
abbrev pub passes : {R : Type 0} → Step R → ℕ
passes (Tick ms) = ms
passes _ = 0

-- requests that it opens
abbrev pub opens : {R : Type 0} → Step R → ℕ
opens (Open n) = 1
opens _ = 0

-- rounds and repairs that it may begin
abbrev pub rounds : {R : Type 0} → Step R → ℕ
rounds (Sync n) = 1
rounds (Repair n) = 1
rounds _ = 0

-- it puts no clock ahead
abbrev pub IsEven : {R : Type 0} → Step R → Type 0
IsEven (Skew n ms) = ⊥
IsEven _ = ⊤

-- the same of an act: only a step of the world takes time or begins a round, and what is asked for opens a request
abbrev pub passes_in : Act → ℕ
passes_in (moving m) = passes m.step
passes_in _ = 0

abbrev pub opens_in : Act → ℕ
opens_in (moving m) = opens m.step
opens_in (asks n order) = 1
opens_in _ = 0

abbrev pub rounds_in : Act → ℕ
rounds_in (moving m) = rounds m.step
rounds_in _ = 0

abbrev pub IsEvenAct : Act → Type 0
IsEvenAct (moving m) = IsEven m.step
IsEvenAct _ = ⊤

-- the sum over acts
abbrev pub sum_in : (Act → ℕ) → List Act → ℕ
sum_in f [] = 0
sum_in f (a ∷ as') = f a + sum_in f as'

-- ---- places in the code

-- time, clocks, the number of requests and each node's number of rounds are numbers of the code
pub record CountsFit (w : World) : Type 0 where
  pub time : w.time < 2 ^ 64
  pub clocks : (n : ℕ) → clock w n < 2 ^ 64
  pub requests : length w.requests < 2 ^ 64
  pub rounds : (n : ℕ) → (w.nodes n).rounds < 2 ^ 64

-- so it is after each of these steps
abbrev pub AllCountsFit : World → List Moving → Type 0
AllCountsFit w [] = ⊤
AllCountsFit w (m ∷ ms) =
    let then = next any_join words w m in
    CountsFit then × AllCountsFit then ms

-- ---- collections

-- each node began so many collections at most
abbrev pub HaveBegun : ℕ → World → Type 0
HaveBegun k w = (n : ℕ) → (w.nodes n).gc.begun ≤ k

-- so it is after each of these steps
abbrev pub AllHaveBegun : ℕ → World → List Moving → Type 0
AllHaveBegun k w [] = ⊤
AllHaveBegun k w (m ∷ ms) =
    let then = next any_join words w m in
    HaveBegun k then × AllHaveBegun k then ms
