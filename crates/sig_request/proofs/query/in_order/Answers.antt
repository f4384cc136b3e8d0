use Rattle.std.proofs.Common.{◌≡◌, map, ◌∙◌, subst}
use Rattle.std.specs.List.Sorted.{IsPermutation}
use Rattle.sig_request.specs.Query.{parameter_of}
use Rattle.sig_request.proofs.Parameters.{sorted_is}
use Rattle.sig_request.proofs.query.in_order.Goals as goal

pub returns-clause-parameters : goal.returns-clause-parameters
returns-clause-parameters c =
    let words = c.args.words.now in
    let sorted = c.sort_unstable.new.self.items in
    let spelled : c.into_vec-parameters.result.items ≡ map parameter_of words = c.into_vec-parameters.ensures ∙ c.in_ok-spelled.ensures.parameters in
    c.from_vec.ensures ∙ sorted_is words sorted (subst (λ all. IsPermutation all sorted) spelled c.sort_unstable.ensures.permutation) c.sort_unstable.ensures.sorted
