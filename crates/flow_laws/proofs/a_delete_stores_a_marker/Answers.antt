use Rattle.std.proofs.Common.{refl}
use Rattle.flow_laws.proofs.Later.{marked_earlier}
use Rattle.flow_laws.proofs.a_delete_stores_a_marker.Goals as goal

pub returns-clause-absent : goal.returns-clause-absent
returns-clause-absent c id block name t u = record { asks = refl; comes = refl }

pub returns-clause-marked : goal.returns-clause-marked
returns-clause-marked c id block name value t u = record { asks = refl; comes = refl }

pub returns-clause-later : goal.returns-clause-later
returns-clause-later c = marked_earlier
