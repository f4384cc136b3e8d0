-- The words of each command.
use Rattle.std.specs.Prelude.{◌≡◌, ◌≤◌, ◌<◌, ◌^◌, ℕ, ⊤, Option, Some, None, List, [], ◌∷◌, map, codes, decimal, String, string_bytes}
use Rattle.std.specs.declared.alloc.Global.{Global}
use Rattle.workload_run.specs.declared.command.Workload as workload_run
use Rattle.serve_run.specs.declared.server.Server as serve_run
use Rattle.garage_lab.specs.declared.command.Command.{Command}
use Rattle.garage_lab.specs.declared.command.Command.TheVariants.{Layout, Moves, Replay, Check, Audit, Items, Workload, Serve}

-- the word is a number from 1 to a greatest one, in decimal digits without a leading zero
abbrev pub Spells : List ℕ → ℕ → ℕ → Type 0
Spells word high n = (word ≡ decimal n) × (1 ≤ n) × (n ≤ high)

-- three words ask for a workload of 1 to 100,000 events from a seed of 64 bits, in decimal digits without a leading zero
pub record AsksForWorkload (words : List (List ℕ)) (w : workload_run.Workload) : Type 0 where
  pub spelled : words ≡ codes "workload" ∷ decimal w.count ∷ decimal w.seed ∷ []
  pub some : 1 ≤ w.count
  pub few : w.count ≤ 100000
  pub fits : w.seed < 2 ^ 64

-- three words ask for 1 to 1,000 connections of a port from 1 to 65,535
pub record AsksForServer (words : List (List ℕ)) (s : serve_run.Server) : Type 0 where
  pub spelled : words ≡ codes "serve" ∷ decimal s.port ∷ decimal s.count ∷ []
  pub port_low : 1 ≤ s.port
  pub port_high : s.port ≤ 65535
  pub count_low : 1 ≤ s.count
  pub count_high : s.count ≤ 1000

-- words ask for this command: its name, with its option or its numbers
abbrev pub AsksFor : List (List ℕ) → Command → Type 0
AsksFor words Layout = words ≡ codes "layout" ∷ []
AsksFor words Moves = words ≡ codes "layout" ∷ codes "--moves" ∷ []
AsksFor words Replay = words ≡ codes "replay" ∷ []
AsksFor words Check = words ≡ codes "replay" ∷ codes "--check" ∷ []
AsksFor words Audit = words ≡ codes "audit" ∷ []
AsksFor words Items = words ≡ codes "k2v" ∷ []
AsksFor words (Workload w) = AsksForWorkload words w
AsksFor words (Serve s) = AsksForServer words s

-- a workload has no more events than it may have
abbrev pub IsInRange : Command → Type 0
IsInRange (Workload w) = w.count ≤ 100000
IsInRange _ = ⊤

-- the words after the program's name ask for this command
abbrev pub Asks : List (String Global) → Command → Type 0
Asks words command = AsksFor (map string_bytes words) command

-- they ask for nothing
abbrev pub AskNothing : List (String Global) → Type 0
AskNothing words = (command : Command) → Asks words command → ⊥

-- they ask for this, or for nothing
abbrev pub AreRead : List (String Global) → Option Command → Type 0
AreRead words None = AskNothing words
AreRead words (Some command) = Asks words command
