use Rattle.std.proofs.Common.{rules, tests, ◌∙◌}
use Rattle.std.proofs.lemmas.Iterator.{YieldsList-from_slice}
use Rattle.std.proofs.lemmas.Iterator.Search.{any_from_yields_List}
use Rattle.s3_model.specs.Words.{is_word}
use Rattle.s3_request.proofs.Lists.{list_any_of_map}
use Rattle.s3_request.proofs.word.is_one_of.Goals as goal

pub returns : goal.returns
returns c =
    any_from_yields_List (λ w. is_word c.args.text.now w.now) _ _ _ c.any.ensures.ran (YieldsList-from_slice c.args.words.now cc) (λ x b q k. search (rules, tests))
    ∙ list_any_of_map (λ w. w.now) (λ word. is_word c.args.text.now word) c.args.words.now
