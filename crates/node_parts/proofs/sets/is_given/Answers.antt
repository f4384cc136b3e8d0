use Rattle.std.proofs.Common.{map, ap, ◌∙◌, rules, tests}
use Rattle.std.specs.List.{list_any}
use Rattle.std.proofs.lemmas.Iterator.{YieldsList-from_slice}
use Rattle.std.proofs.lemmas.Iterator.Search.{any_from_yields_List}
use Rattle.quorum_model.specs.Quorum.{is_among}
use Rattle.cluster_machine.specs.Layouts.{set_of, layouts}
use Rattle.node_parts.proofs.SetReading.{any_set}
use Rattle.node_parts.proofs.sets.is_given.Goals as goal

pub returns : goal.returns
returns c =
    any_from_yields_List (λ l. is_among c.args.node (set_of layouts l c.args.p)) _ _ c.any.result c.any.ensures.ran (YieldsList-from_slice c.layouts.result.now cc) (λ x b q k. search (rules, tests))
    ∙ any_set (is_among c.args.node) (λ l. set_of layouts l c.args.p) c.layouts.result.now
    ∙ ap (λ ls. list_any (is_among c.args.node) (map (λ l. set_of layouts l c.args.p) ls)) c.layouts.ensures
