use Rattle.std.specs.Prelude.{◌==◌, map, filter}
use Rattle.std.proofs.Common.{ap}
use Rattle.blake2_hash.specs.Blake2b.{blake2b}
use Rattle.table_model.specs.Root.{root}
use Rattle.table_model.specs.Top.{roots, top, pair_of}
use Rattle.table_model.proofs.Members.{same_contents, same_partition}
use Rattle.table_model.proofs.laws.same_members_give_same_rows.Goals as goal

pub returns-clause-rows : goal.returns-clause-rows
returns-clause-rows g c = same_contents g.met.S.Row.Crdt.join_laws g.S.Schema.words g.met.S.Schema.laws

pub returns-clause-roots : goal.returns-clause-roots
returns-clause-roots g c a b p same = ap (roots g.S.Schema.words) (returns-clause-rows g c a b p same)

pub returns-clause-top : goal.returns-clause-top
returns-clause-top g c a b p same = ap (top g.S.Schema.words) (returns-clause-rows g c a b p same)

pub returns-clause-partition_rows : goal.returns-clause-partition_rows
returns-clause-partition_rows g c = same_partition g.met.S.Row.Crdt.join_laws g.S.Schema.words g.met.S.Schema.laws

pub returns-clause-partition_roots : goal.returns-clause-partition_roots
returns-clause-partition_roots g c a b p table q r same =
    ap (λ rows. root (blake2b 32) (map (pair_of g.S.Schema.words) (filter (λ row. g.S.Schema.words.table row == table) rows))) (returns-clause-partition_rows g c a b p q r same)
