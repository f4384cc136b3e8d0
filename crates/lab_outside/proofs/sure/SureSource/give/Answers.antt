use Rattle.std.proofs.Common.{arith}
use Rattle.std.proofs.lemmas.Grind.{common_steps}
use Rattle.lab_outside.proofs.Bytes.{give_splits}
use Rattle.lab_outside.proofs.sure.SureSource.give.Goals as goal

pub returns-clause-bytes : goal.returns-clause-bytes
returns-clause-bytes c =
    give_splits c.args.self.now.bytes.items c.args.self.now.place c.min-count.result c.args.into.now c.copy_from_slice.new.self (grind (arith, common_steps)) (grind (arith, common_steps))
