use Rattle.std.proofs.Common.{rules, tests, ap, ◌∙◌}
use Rattle.std.specs.Slice.Iter as slice
use Rattle.std.proofs.lemmas.Iterator.{YieldsList-from_take}
use Rattle.std.proofs.lemmas.Iterator.Consumers.{map_from_collect}
use Rattle.std.proofs.lemmas.Iterator.Splits.{YieldsList-from_slice_split}
use Rattle.k2v_lines.proofs.line.words.Goals as goal

pub returns : goal.returns
returns c =
    let source = c.take.ensures.source in
    map_from_collect _ c.collect.ensures.ran (YieldsList-from_take 9 (YieldsList-from_slice_split _ _ c.args.line.now (ap slice.split_rest source ∙ c.split.ensures.rest) (ap slice.split_done source ∙ c.split.ensures.done) (ap slice.split_callee source ∙ c.split.ensures.closure) (λ x r q k. search (rules, tests))) c.take.ensures.count)
