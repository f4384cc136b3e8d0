use Rattle.std.proofs.Common.{sym, ap, ◌∙◌}
use Rattle.std.specs.Prelude.{option_map}
use Rattle.block_store.proofs.Steps.{block_shown}
use Rattle.block_store.proofs.blocks.Blocks.get.Goals as goal

pub returns-in-Some : goal.returns-in-Some
returns-in-Some c =
    rw (← c.self.view_is)
    (ap (option_map (λ k. k.bytes)) c.in-Some.ensures.value ∙ sym (block_shown c.args.hash.now c.self.inside.shelf.entries))

pub returns-in-None : goal.returns-in-None
returns-in-None c =
    rw (← c.self.view_is)
    (ap (option_map (λ k. k.bytes)) c.in-None.ensures.value ∙ sym (block_shown c.args.hash.now c.self.inside.shelf.entries))
