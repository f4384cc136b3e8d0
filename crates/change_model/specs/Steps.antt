-- The steps of a layout change: who shows what to whom, who acts, and who takes part.
use Rattle.std.specs.Prelude.{ℕ, not, ◌==◌, List, ◌++◌, map}
use Rattle.std.specs.List.{filter}
use Rattle.cluster_machine.specs.declared.step.Step.{Step}
use Rattle.cluster_machine.specs.declared.step.Step.TheVariants.{Gossip}
use Rattle.cluster_machine.specs.Layouts.{Layouts}
use Rattle.cluster_machine.specs.Phases.{in_order}
use Rattle.cluster_machine.specs.Run.{Move}
use Rattle.cluster_machine.specs.Step.{Choice}

-- the others among these nodes
abbrev pub others : ℕ → List ℕ → List ℕ
others m nodes = filter (λ n. not (n == m)) nodes

-- each of the others to node m
abbrev pub to_one : ℕ → List ℕ → List (ℕ × ℕ)
to_one m nodes = map (λ n. (n, m)) (others m nodes)

-- node m to each of the others
abbrev pub from_one : ℕ → List ℕ → List (ℕ × ℕ)
from_one m nodes = map (λ n. (m, n)) (others m nodes)

module _ {R L A C : Type 0} (choice : Choice L A C) where
  -- nodes show their views to nodes
  abbrev pub gossips : List (ℕ × ℕ) → List (Move R L A C)
  gossips pairs = map (λ p. record { step = Gossip p.0 p.1; choice = choice }) pairs

  -- these nodes do one thing, one after the other
  abbrev pub each : (ℕ → Step R) → List ℕ → List (Move R L A C)
  each does nodes = map (λ n. record { step = does n; choice = choice }) nodes

-- all members of both layouts, in order of numbers and each once
abbrev pub members_of_both : {L : Type 0} → Layouts L → L → L → List ℕ
members_of_both k l new = in_order (k.reading.members l ++ k.reading.members new)
