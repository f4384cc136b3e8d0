use Rattle.std.specs.Prelude.{None}
use Rattle.std.proofs.Common.{sym}
use Rattle.table_gc.proofs.Keyed.{numbers_same}
use Rattle.table_gc.proofs.keys.drop_empty.Goals as goal

pub returns-then-is_empty : goal.returns-then-is_empty
returns-then-is_empty c = numbers_same c.args.key.now c.args.keys.now c.remove.new.self None c.remove.ensures.updates (sym (c.is_empty.ensures c.if-is_empty.true))
