use Rattle.std.proofs.Common.{subst, sym, ◌∙◌}
use Rattle.std.specs.List.Sorted.{IsStrictlySortedBy}
use Rattle.std.specs.Map.{keys_of}
use Rattle.std.proofs.lemmas.Result.{IfOk-weaker}
use Rattle.blake2_hash.specs.Hash.{hash_cmp}
use Rattle.block_store.specs.Contents.{idle_notes}
use Rattle.block_store.proofs.Within.{all_within, idle_in_order}
use Rattle.block_store.proofs.blocks.Blocks.idle.Goals as goal

pub returns-clause-notes : goal.returns-clause-notes
returns-clause-notes c =
    IfOk-weaker c.idle_within.result _ _ (λ v is. is ∙ all_within (idle_notes c.args.self.now)) c.idle_within.ensures.notes

pub returns-clause-in_order : goal.returns-clause-in_order
returns-clause-in_order c =
    IfOk-weaker c.idle_within.result _ _
    (λ v is. subst (λ ns. IsStrictlySortedBy hash_cmp (keys_of ns)) (sym (is ∙ all_within (idle_notes c.args.self.now))) (idle_in_order c.args.self.now c.idle_within.ensures.in_order))
    c.idle_within.ensures.notes
