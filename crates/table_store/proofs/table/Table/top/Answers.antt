use Rattle.std.specs.Prelude.{[]}
use Rattle.std.proofs.Common.{ap, ◌∙◌}
use Rattle.blake2_hash.specs.Blake2b.{blake2b}
use Rattle.table_model.specs.Top.{top}
use Rattle.table_store.proofs.PartitionRoots.{roots_three}
use Rattle.table_store.proofs.table.Table.top.Goals as goal

pub returns-clause-is : goal.returns-clause-is
returns-clause-is g c =
    let words = g.S.Schema.words in
    let inside = c.self.inside in
    c.finish.ensures _ (c.in_ok-take_roots-3.ensures.roots _ (c.in_ok-take_roots-2.ensures.roots _ (c.in_ok-take_roots.ensures.roots [] c.new-hasher.ensures)))
    ∙ (ap (blake2b 32) (roots_three words inside.first.rows.entries inside.second.rows.entries inside.third.rows.entries c.self.invariant.sound)
    ∙ ap (top words) c.self.view_is)
