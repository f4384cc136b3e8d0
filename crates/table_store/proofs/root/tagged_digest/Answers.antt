use Rattle.std.specs.Prelude.{[]}
use Rattle.table_store.proofs.root.tagged_digest.Goals as goal

pub returns : goal.returns
returns c = c.finish.ensures _ (c.update-3.ensures _ (c.update-2.ensures _ (c.update.ensures [] c.new-hasher.ensures)))
