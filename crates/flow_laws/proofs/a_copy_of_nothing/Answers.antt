use Rattle.std.proofs.Common.{refl}
use Rattle.flow_model.specs.declared.flow.Aim.TheVariants.{Copy}
use Rattle.flow_model.specs.Says.{said_of}
use Rattle.flow_laws.proofs.Going.{go_on}
use Rattle.flow_laws.proofs.Nothing.{finds_nothing}
use Rattle.flow_laws.proofs.a_copy_of_nothing.Goals as goal

pub returns-clause-absent : goal.returns-clause-absent
returns-clause-absent c id block source name headers t = record { asks = refl; comes = refl }

pub returns-clause-no_object : goal.returns-clause-no_object
returns-clause-no_object c id block source name headers value t e = go_on _ _ _ _ _ _ _ (finds_nothing id block (Copy name headers) (said_of value) e) (record { asks = refl; comes = refl })
