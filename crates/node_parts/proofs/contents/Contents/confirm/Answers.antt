use Rattle.std.proofs.Common.{refl, sym, ◌∙◌}
use Rattle.layout_history.specs.Views.{known}
use Rattle.node_parts.proofs.Confirming.{confirmed_one, confirmed_none}
use Rattle.node_parts.proofs.contents.Contents.confirm.Goals as goal

pub returns-in_default-clause-confirms : goal.returns-in_default-clause-confirms
returns-in_default-clause-confirms g c x same h =
    confirmed_none g.S.Row.Crdt.join g.S.Schema.words (known c.args.view.now) c.args.node c.args.number c.args.self.now x same h (sym c.in_default.is ∙ c.waiting.ensures.is x h)

pub returns-clause-confirms : goal.returns-clause-confirms
returns-clause-confirms g c x same h =
    confirmed_one g.S.Row.Crdt.join g.S.Schema.words (known c.args.view.now) c.args.node c.args.number c.args.self.now x same h
    (record { table = c.args.self.now.table; outbox = c.done.new.self; blocks = c.args.self.now.blocks; alloc = c.args.self.now.alloc })
    c.confirm.new.self c.in-Some.p c.as_slice.result.now c.done.result c.waiting.ensures.numbered (sym c.in-Some.is ∙ c.waiting.ensures.is x h)
    (c.as_slice.ensures.value ∙ c.in_ok-sets.ensures.are) c.in_ok-confirm.ensures.ok c.done.ensures.done c.done.ensures.after refl refl
