use Rattle.std.proofs.Common.{rules, tests, ◌∙◌, ◌==◌}
use Rattle.std.proofs.lemmas.List.Sums.{prefix_len-le-length}
use Rattle.std.proofs.lemmas.Iterator.{YieldsList-from_slice}
use Rattle.std.proofs.lemmas.Iterator.Search.{position_from_yields_List}
use Rattle.s3_request.proofs.Lists.{place_or_len}
use Rattle.s3_request.proofs.pieces.place_of.Goals as goal

pub returns-clause-place : goal.returns-clause-place
returns-clause-place c =
    c.unwrap_or.ensures
    ∙ place_or_len _ _ _ (prefix_len-le-length _ c.args.text.now)
    (position_from_yields_List (λ b. b == c.args.mark) _ _ c.position.result c.position.ensures.ran (YieldsList-from_slice c.args.text.now cc) (λ x b q k. search (rules, tests)))
