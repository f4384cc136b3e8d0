use Rattle.std.proofs.Common.{sym, ap, ◌∙◌, None}
use Rattle.std.specs.Prelude.{◌==◌, if◌then◌else◌}
use Rattle.block_store.specs.Shelf.{contents_of}
use Rattle.block_store.proofs.Since.{since_found, since_absent}
use Rattle.block_store.proofs.Steps.{count_found, block_gone}
use Rattle.block_store.proofs.shelf.remove_unused.Goals as goal

pub returns-in-Some-clause-since : goal.returns-in-Some-clause-since
returns-in-Some-clause-since c =
    let found = sym c.in-Some.ensures.value in
    let count = count_found c.args.hash.now c.in-Some.kept c.args.shelf.now.entries c.requires.ordered found in
    ap (λ k. if k == 0 then c.in-Some.kept.note else None) (sym c.requires.unused ∙ count)
    ∙ sym (since_found c.args.hash.now c.in-Some.kept c.args.shelf.now.entries c.requires.ordered found)

pub returns-in-Some-clause-deleted : goal.returns-in-Some-clause-deleted
returns-in-Some-clause-deleted c =
    ap contents_of c.remove.ensures.entries
    ∙ block_gone c.args.hash.now c.args.shelf.now.entries c.requires.ordered c.requires.unused

pub returns-in-None-clause-since : goal.returns-in-None-clause-since
returns-in-None-clause-since c = sym (since_absent c.args.hash.now c.args.shelf.now.entries (sym c.in-None.ensures.value))

pub returns-in-None-clause-deleted : goal.returns-in-None-clause-deleted
returns-in-None-clause-deleted c =
    ap contents_of c.remove.ensures.entries
    ∙ block_gone c.args.hash.now c.args.shelf.now.entries c.requires.ordered c.requires.unused
