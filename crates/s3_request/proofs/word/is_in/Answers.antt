use Rattle.std.proofs.Common.{rules, tests, ◌∙◌, bytes_eq}
use Rattle.std.proofs.lemmas.Iterator.{YieldsList-from_slice}
use Rattle.std.proofs.lemmas.Iterator.Search.{any_from_yields_List}
use Rattle.s3_request.proofs.Lists.{list_any_of_map}
use Rattle.s3_request.proofs.word.is_in.Goals as goal

pub returns : goal.returns
returns c =
    any_from_yields_List (λ w. bytes_eq c.args.text.now w.now) _ _ _ c.any.ensures.ran (YieldsList-from_slice c.args.names.now cc) (λ x b q k. search (rules, tests))
    ∙ list_any_of_map (λ w. w.now) (λ word. bytes_eq c.args.text.now word) c.args.names.now
