use Rattle.crdt_core.proofs.Each.{all_weaker}
use Rattle.crdt_rows.specs.AnyRow.{any_join}
use Rattle.machine_origins.specs.Origins.{ComesFrom}
use Rattle.object_origins.proofs.Shown.{Facts}
use Rattle.object_schema.specs.Schema.{words}
use Rattle.stored_weights.proofs.Contents.{contents_weigh}
use Rattle.stored_weights.proofs.Made.{IsMade, made}
use Rattle.stored_weights.proofs.Weighing.{weigh_no_more}
use Rattle.stored_weights.proofs.contents_weigh_no_more.Goals as goal

pub returns-clause-of_rows : goal.returns-clause-of_rows
returns-clause-of_rows c =
    let facts : Facts = record {
      joined = c.object_rows_join_as_facts.ensures.joined;
      newest_is = c.object_rows_join_as_facts.ensures.newest_is;
      key = c.object_rows_join_as_facts.ensures.key;
      version_deleted = c.version_rows_join_as_facts.ensures.deleted;
      version_blocks = c.version_rows_join_as_facts.ensures.blocks;
      version_id = c.version_rows_join_as_facts.ensures.key;
      ref_deleted = c.reference_rows_join_as_facts.ensures.deleted;
      reference = c.reference_rows_join_as_facts.ensures.key;
    } in
    λ stored rows spelled come apart. weigh_no_more stored rows spelled (all_weaker (ComesFrom any_join words stored) (IsMade stored) (made facts stored) rows come) apart

pub returns-clause-of_contents : goal.returns-clause-of_contents
returns-clause-of_contents c =
    let facts : Facts = record {
      joined = c.object_rows_join_as_facts.ensures.joined;
      newest_is = c.object_rows_join_as_facts.ensures.newest_is;
      key = c.object_rows_join_as_facts.ensures.key;
      version_deleted = c.version_rows_join_as_facts.ensures.deleted;
      version_blocks = c.version_rows_join_as_facts.ensures.blocks;
      version_id = c.version_rows_join_as_facts.ensures.key;
      ref_deleted = c.reference_rows_join_as_facts.ensures.deleted;
      reference = c.reference_rows_join_as_facts.ensures.key;
    } in
    λ stored contents spelled proper comes. contents_weigh facts stored contents proper comes spelled
