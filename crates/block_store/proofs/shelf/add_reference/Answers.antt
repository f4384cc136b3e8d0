use Rattle.std.proofs.Common.{sym, ap, ◌∙◌, arith}
use Rattle.block_store.specs.Shelf.{contents_of}
use Rattle.block_store.proofs.Since.{since_found, since_absent}
use Rattle.block_store.proofs.Steps.{count_found, live_told, no_block}
use Rattle.block_store.proofs.shelf.add_reference.Goals as goal

pub overflow_add-kept : goal.overflow_add-kept
overflow_add-kept c =
    let count = count_found c.args.hash.now c.in-Some.kept.now c.args.shelf.now.entries c.requires.ordered (sym c.in-Some.ensures.value) in
    grind (arith, count, c.requires.below)

pub returns-clause-since : goal.returns-clause-since
returns-clause-since c =
    c.since-since.ensures
    ∙ sym (since_found c.args.hash.now c.in-Some.kept.now c.args.shelf.now.entries c.requires.ordered (sym c.in-Some.ensures.value))

pub returns-clause-told : goal.returns-clause-told
returns-clause-told c =
    ap contents_of (c.get_mut.follows.holds _).0
    ∙ live_told c.args.hash.now c.in-Some.kept.now c.args.shelf.now.entries c.requires.ordered (sym c.in-Some.ensures.value)

pub returns-in_default-clause-since : goal.returns-in_default-clause-since
returns-in_default-clause-since c = sym (since_absent c.args.hash.now c.args.shelf.now.entries (sym c.in_default.ensures.value))

pub returns-in_default-clause-told : goal.returns-in_default-clause-told
returns-in_default-clause-told c = absurd (no_block c.args.hash.now c.args.shelf.now.entries (sym c.in_default.ensures.value) c.requires.there)
