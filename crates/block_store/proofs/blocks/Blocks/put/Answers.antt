use Rattle.std.proofs.Common.{sym, ap, ◌∙◌}
use Rattle.block_store.specs.Contents.{put}
use Rattle.block_store.specs.Shelf.{contents, contents_of}
use Rattle.block_store.proofs.Since.{stay, put_stays}
use Rattle.block_store.proofs.Steps.{put_there, put_new}
use Rattle.block_store.proofs.blocks.Blocks.put.Goals as goal

pub invariant_of-self : goal.invariant_of-self
invariant_of-self c =
    let old = contents c.self.inside.shelf in
    let h = c.args.hash.now in
    let made = ap contents_of c.in-Ok.ensures.entries ∙ put_new h c.args.block c.self.inside.shelf.entries (sym c.contains_key.ensures ∙ c.if-contains_key.false) in
    record {
      ordered = c.insert.ensures.ordered;
      tied = rw made (stay old (put old h c.args.block) c.self.inside.moments (put_stays old h c.args.block) c.self.invariant.tied);
    }

pub returns-then-contains_key-clause-ok : goal.returns-then-contains_key-clause-ok
returns-then-contains_key-clause-ok c =
    rw (← c.self.view_is)
    (put_there c.args.hash.now c.args.block c.self.inside.shelf.entries (sym c.contains_key.ensures ∙ c.if-contains_key.true))

pub returns-in-Ok-clause-ok : goal.returns-in-Ok-clause-ok
returns-in-Ok-clause-ok c =
    rw (← c.self.view_is)
    (ap contents_of c.in-Ok.ensures.entries ∙ put_new c.args.hash.now c.args.block c.self.inside.shelf.entries (sym c.contains_key.ensures ∙ c.if-contains_key.false))
