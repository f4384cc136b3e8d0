use Rattle.get_laws.proofs.Firsts.{first_same, first_through}
use Rattle.get_laws.proofs.first_parts_are_ordered.Goals as goal

pub returns-clause-same : goal.returns-clause-same
returns-clause-same c all = first_same all

pub returns-clause-through : goal.returns-clause-through
returns-clause-through c first more all a b = first_through first more all a b
