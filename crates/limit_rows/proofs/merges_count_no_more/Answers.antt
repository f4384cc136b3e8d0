use Rattle.object_origins.proofs.Shown.{Facts}
use Rattle.limit_rows.proofs.Handed.{joined_fits}
use Rattle.limit_rows.proofs.Weights.{merged_counts}
use Rattle.limit_rows.proofs.merges_count_no_more.Goals as goal

pub returns : goal.returns
returns c =
    let facts : Facts = record {
      joined = c.object_rows_join_as_facts.ensures.joined;
      newest_is = c.object_rows_join_as_facts.ensures.newest_is;
      key = c.object_rows_join_as_facts.ensures.key;
      version_deleted = c.version_rows_join_as_facts.ensures.deleted;
      version_blocks = c.version_rows_join_as_facts.ensures.blocks;
      version_id = c.version_rows_join_as_facts.ensures.key;
      ref_deleted = c.reference_rows_join_as_facts.ensures.deleted;
      reference = c.reference_rows_join_as_facts.ensures.key;
    } in
    record {
      fits = joined_fits facts;
      counts = λ t v within a b same p q. merged_counts facts t v within a b same p q (joined_fits facts t v within a b same p q);
    }
