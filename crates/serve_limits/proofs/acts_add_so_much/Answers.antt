use Rattle.serve_limits.proofs.Acts.{acts_go}
use Rattle.serve_limits.proofs.acts_add_so_much.Goals as goal

pub returns : goal.returns
returns c = λ s time requests rounds before act later h even. (acts_go time requests rounds s before act later h even).moves
