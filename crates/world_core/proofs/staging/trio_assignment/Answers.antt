use Rattle.std.proofs.Common.{◌≡◌, [], ◌∷◌, ◌++◌, replicate, ap, ◌∙◌, arith}
use Rattle.std.proofs.lemmas.List.{replicate_more}
use Rattle.cluster_machine.specs.Trio.{trio_sets}
use Rattle.world_core.proofs.StagedTrio.{trio_whole, trio_ascends}
use Rattle.world_core.proofs.staging.trio_assignment.Goals as goal

pub loop-preserved : goal.loop-preserved
loop-preserved c = c.in_ok-push.ensures.items ∙ (ap (λ xs. xs ++ (1 ∷ 2 ∷ 3 ∷ []) ∷ []) c.loop.invariant ∙ replicate_more c.loop.counter (1 ∷ 2 ∷ 3 ∷ []))

pub invariant_of-result : goal.invariant_of-result
invariant_of-result c =
    let last : c.loop.counter ≡ 256 = omega arith in
    let is : c.from_vec.result ≡ trio_sets = c.from_vec.ensures ∙ (c.loop.invariant ∙ ap (λ n. replicate n (1 ∷ 2 ∷ 3 ∷ [])) last) in
    record { whole = trio_whole c.from_vec.result is; ascending = trio_ascends c.from_vec.result is }

pub returns-clause-sets : goal.returns-clause-sets
returns-clause-sets c =
    let last : c.loop.counter ≡ 256 = omega arith in
    c.from_vec.ensures ∙ (c.loop.invariant ∙ ap (λ n. replicate n (1 ∷ 2 ∷ 3 ∷ [])) last)
