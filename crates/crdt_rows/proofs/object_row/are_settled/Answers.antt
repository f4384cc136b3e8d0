use Rattle.std.proofs.Common.{not, ap, sym, ◌∙◌}
use Rattle.crdt_rows.proofs.Firsts.{settled_rest}
use Rattle.crdt_rows.proofs.object_row.are_settled.Goals as goal

pub returns-in-len1-up : goal.returns-in-len1-up
returns-in-len1-up c = ap not c.any_complete.ensures ∙ sym (settled_rest c.args.entries.now c.requires c.in-len1-up.len_at_least)
