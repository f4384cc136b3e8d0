use Rattle.std.specs.Prelude.{filter}
use Rattle.std.proofs.Common.{ap, sym, ◌∙◌}
use Rattle.std.specs.Map.{keys_of}
use Rattle.table_store.proofs.Partitions.{kept_of, kept_more, kept_all}
use Rattle.table_store.proofs.shelf.drop_keys.Goals as goal

pub loop-key-preserved : goal.loop-key-preserved
loop-key-preserved g c =
    let p = c.args.p in
    let rest = keys_of c.next.new.self in
    let entries = c.loop-key.rows.entries in
    record {
      rows_are =
          ap (filter (kept_of p rest)) c.drop_row.ensures.rows
          ∙ (kept_more p c.in-Some.key.now rest entries
          ∙ (ap (λ es. filter (kept_of p (keys_of es)) entries) (sym c.in-Some.ensures.steps)
          ∙ c.loop-key.invariant.rows_are));
      marked_are = λ all. c.drop_row.ensures.marked (c.loop-key.invariant.marked_are all);
    }

pub returns-clause-rows : goal.returns-clause-rows
returns-clause-rows g c =
    let p = c.args.p in
    let entries = c.loop-key.rows.entries in
    sym (kept_all p entries)
    ∙ (ap (λ es. filter (kept_of p (keys_of es)) entries) (sym c.in-None.ensures.steps.0)
    ∙ (c.loop-key.invariant.rows_are
    ∙ ap (λ es. filter (kept_of p (keys_of es)) c.args.rows.now.entries) c.into_iter-key-iterator.ensures.into_iter_gives.0))

pub returns-clause-marked : goal.returns-clause-marked
returns-clause-marked g c = c.loop-key.invariant.marked_are
