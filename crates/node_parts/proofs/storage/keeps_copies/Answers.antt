use Rattle.std.proofs.Common.{sym, ◌∙◌}
use Rattle.node_parts.proofs.Keeping.{storage_among}
use Rattle.node_parts.proofs.storage.keeps_copies.Goals as goal

pub returns-in-Some : goal.returns-in-Some
returns-in-Some c =
    let l = c.in-Some.layout.now in
    rw (sym c.in-Some.ensures) (c.is_storage_among.ensures ∙ rw c.as_slice.ensures (storage_among c.args.node l.roles.list))
