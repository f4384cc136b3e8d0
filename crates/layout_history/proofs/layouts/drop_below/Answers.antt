use Rattle.std.specs.List.{count_by}
use Rattle.std.proofs.Common.{nat_lt, drop, ap, ◌∙◌}
use Rattle.layout_history.proofs.Ascending.{dropped}
use Rattle.layout_history.proofs.layouts.drop_below.Goals as goal

-- as many as are below the version come first
pub returns : goal.returns
returns c =
    let xs = c.args.layouts.now in
    c.drop_front.ensures
    ∙ (ap (λ n. drop n xs) (c.count_below-below.ensures ∙ ap (count_by (λ l. nat_lt l.version c.args.version)) c.as_slice.ensures)
    ∙ dropped 0 c.args.version xs c.requires)
