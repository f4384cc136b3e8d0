-- Runs that differ in nothing but the cuts that are printed with their layouts.
use Rattle.std.specs.Prelude.{◌≡◌, ⊤, Option, Some, None, List, [], ◌∷◌}
use Rattle.cluster_machine.specs.declared.applied.Applied.{Applied}
use Rattle.cluster_machine.specs.Choices.{Decision}
use Rattle.cluster_machine.specs.Step.{given, none_given}
use Rattle.store_model.specs.Run.{State}
use Rattle.store_model.specs.Events.{Turn, after}
use Rattle.audit_model.specs.Printed.{Print, print_at}
use Rattle.audit_model.specs.Audit.{staged_in}

-- ---- cuts

-- what is printed of a layout, but for the cut, is the same
pub record AreSameButCut (shown other : Applied) : Type 0 where
  pub roles : shown.roles.list ≡ other.roles.list
  pub redundancy : shown.certified.r ≡ other.certified.r
  pub size : shown.certified.size ≡ other.certified.size
  pub sets : shown.certified.sets.sets ≡ other.certified.sets.sets

-- one layout is given, with one cut or another, or one refusal
abbrev pub DifferInCut : Decision → Decision → Type 0
DifferInCut (given l shown) (given m other) = (l ≡ m) × AreSameButCut shown other
DifferInCut (none_given refusal) (none_given other) = refusal ≡ other
DifferInCut choice other = ⊥

-- the same events, each of which is given the same but for a cut
abbrev pub DifferInCuts : List Turn → List Turn → Type 0
DifferInCuts [] [] = ⊤
DifferInCuts (t ∷ ts) (u ∷ us) = (t.numbered ≡ u.numbered) × DifferInCut t.choice u.choice × DifferInCuts ts us
DifferInCuts turns others = ⊥

-- ---- what is staged

-- where a layout is printed, what its lines say was staged is what is staged here
abbrev pub IsStagedSo : State → Option Print → Type 0
IsStagedSo s None = ⊤
IsStagedSo s (Some p) = p.staged ≡ staged_in s

-- at each of these turns for which a layout is printed
abbrev pub AreStagedSo : List Print → State → List Turn → Type 0
AreStagedSo ps s [] = ⊤
AreStagedSo ps s (t ∷ ts) = IsStagedSo s (print_at ps t.numbered.line) × AreStagedSo ps (after s t) ts
