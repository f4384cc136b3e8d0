use Rattle.std.proofs.Common.{◌++◌, ◌+◌, ap, sym, ◌∙◌, length}
use Rattle.std.specs.List.{concat}
use Rattle.object_bytes.proofs.Joined.{joined_more, size_more}
use Rattle.object_bytes.proofs.pieces.Pieces.push.Goals as goal

pub invariant_of-self-2 : goal.invariant_of-self-2
invariant_of-self-2 c =
    c.in-Some.ensures.1 ∙ ap (λ n. c.self.inside.size + n) c.len.ensures ∙ size_more c.self.inside.whole c.self.inside.blocks c.args.block c.self.inside.size c.self.invariant
    ∙ ap (λ blocks. length (c.self.inside.whole ++ concat blocks)) (sym c.in_ok-push.ensures.ok)

pub returns-clause-ok : goal.returns-clause-ok
returns-clause-ok c =
    ap (λ blocks. c.self.inside.whole ++ concat blocks) c.in_ok-push.ensures.ok ∙ joined_more c.self.inside.whole c.self.inside.blocks c.args.block
    ∙ ap (λ bytes. bytes ++ c.args.block) c.self.view_is
