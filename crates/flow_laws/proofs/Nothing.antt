-- A read of what is no object.
use Rattle.std.proofs.Common.{◌≡◌, ℕ, false, refl}
use Rattle.flow_model.specs.declared.flow.Aim.{Aim}
use Rattle.flow_model.specs.declared.flow.FlowStep.TheVariants.{End}
use Rattle.flow_model.specs.declared.flow.FlowEnd.TheVariants.{Nothing}
use Rattle.flow_model.specs.Says.{Said, none, marked, inline, in_blocks, is_object}
use Rattle.flow_model.specs.Next.{looked}

pub finds_nothing : (id block : ℕ) (aim : Aim) (s : Said) → is_object s ≡ false → looked id block aim s ≡ End Nothing
finds_nothing id block aim none e = refl
finds_nothing id block aim (marked version) e = refl
finds_nothing id block aim (inline version meta body) e = cc
finds_nothing id block aim (in_blocks version meta first) e = cc
