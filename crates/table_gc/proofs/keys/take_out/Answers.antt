use Rattle.std.specs.Prelude.{◌==◌, not}
use Rattle.std.proofs.Common.{rules}
use Rattle.std.proofs.lemmas.Fn.{filter_same}
use Rattle.table_gc.proofs.keys.take_out.Goals as goal

pub returns : goal.returns
returns c = filter_same _ (λ n. not (n == c.args.number)) _ (λ n b f t. search rules) c.args.numbers.now.items c.retain.new.self.items c.retain.ensures.filtered
