use Rattle.store_anchors.proofs.promises.promises_are_kept.Goals as goal

pub returns : goal.returns
returns c acts lawful fit moment is =
    let run = c.moments_are_runs.ensures.runs acts moment lawful fit is in
    record {
      greatest = c.phases_read_what_was_kept.ensures.greatest moment run.0 run.1;
      written = c.reads_give_what_was_written.ensures moment run.0 run.1;
      equal = c.replicas_are_equal.ensures moment run.0 run.1;
      kept = λ clear. c.phases_read_what_was_kept.ensures.kept moment run.0 run.1 clear;
      fresh = λ clear never. c.fresh_reads.ensures moment run.0 run.1 clear never;
      forgotten = λ clear prompt. c.prompt_reads_are_fresh.ensures moment run.0 run.1 clear prompt;
      below = λ prompt. c.nothing_comes_below_collected_markers.ensures moment run.0 run.1 prompt;
      recorded = λ clear safely. c.records_are_fresh.ensures moment run.0 run.1 clear safely;
      whole = λ clear. c.gets_read_whole_versions.ensures.bytes moment run.0 run.1 clear;
      copied = λ clear safely. c.copies_take_what_was_written.ensures.takes moment run.0 run.1 clear safely;
      superseded = λ clear. c.gets_read_whole_versions.ensures.superseded moment run.0 run.1 clear;
      copies_end = λ clear. c.copies_take_what_was_written.ensures.superseded moment run.0 run.1 clear;
      goes_on = λ clear. c.gets_read_whole_versions.ensures.goes_on moment run.0 run.1 clear;
      anchored = λ clear. c.acknowledged_blocks_are_anchored.ensures moment run.0 run.1 clear;
    }
