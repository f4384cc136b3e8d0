use Rattle.serve_limits.proofs.Begun.{acts_begun}
use Rattle.serve_limits.proofs.collections_begin_by_collecting.Goals as goal

pub returns : goal.returns
returns c = λ k s before act later h never. acts_begun k s before act later h never
