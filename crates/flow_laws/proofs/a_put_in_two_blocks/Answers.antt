use Rattle.std.proofs.Common.{refl}
use Rattle.flow_model.specs.Next.{drawn}
use Rattle.flow_laws.proofs.Cut.{has_first}
use Rattle.flow_laws.proofs.Going.{go_on, announced, stored_next, stored_last}
use Rattle.flow_laws.proofs.a_put_in_two_blocks.Goals as goal

pub returns : goal.returns
returns c id block name content value t u v w x long second third =
    let version = drawn id value t in
    go_on _ _ _ _ _ _ _ (announced id block name version content long)
    (go_on _ _ _ _ _ _ _ (stored_next id block name version content 0 (has_first block content.body long))
    (go_on _ _ _ _ _ _ _ (stored_next id block name version content 1 second) (go_on _ _ _ _ _ _ _ (stored_last id block name version content 2 long third) (go_on _ _ _ _ _ _ _ refl (record { asks = refl; comes = refl })))))
