use Rattle.std.specs.Prelude.{◌++◌, map}
use Rattle.std.proofs.Common.{ap, ◌∙◌, subst}
use Rattle.blake2_hash.specs.Hashing.{Holds}
use Rattle.table_store.specs.Pairs.{tagged}
use Rattle.table_store.proofs.PartitionRoots.{same_roots}
use Rattle.table_store.proofs.roots.take_roots.Goals as goal

pub returns-clause-roots : goal.returns-clause-roots
returns-clause-roots g c m h =
    let same = same_roots g.S.Schema.words c.as_slice.result.now c.args.shelf.now.rows.entries (ap (map tagged) c.as_slice.ensures.value ∙ c.in_ok-hashes.ensures.are) in
    subst (λ l. Holds c.take_hashes.new.hasher (m ++ l)) same (c.in_ok-take_hashes.ensures.roots m h)
