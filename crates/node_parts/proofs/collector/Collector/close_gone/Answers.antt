use Rattle.std.specs.Option.{is_some}
use Rattle.std.proofs.Common.{ap, ◌∙◌}
use Rattle.table_model.specs.Rows.{find_row}
use Rattle.node_parts.specs.Collects.{closed_all}
use Rattle.node_parts.proofs.ClosedAll.{closes_gone}
use Rattle.node_parts.proofs.collector.Collector.close_gone.Goals as goal

pub returns-clause-closes : goal.returns-clause-closes
returns-clause-closes g c =
    c.close_all.ensures
    ∙ (ap (λ ns. closed_all ns c.args.gc.now) (c.as_slice.ensures.value ∙ c.in_ok-gone.ensures.are)
    ∙ closes_gone (λ o. is_some (find_row g.S.Schema.words 1 o.key c.args.contents.now.table)) c.args.gc.now c.gone.ensures.numbered)
