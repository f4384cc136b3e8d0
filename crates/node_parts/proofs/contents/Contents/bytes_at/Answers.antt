use Rattle.std.specs.Option.{option_and_then}
use Rattle.std.proofs.Common.{ap, sym, ◌∙◌}
use Rattle.node_parts.proofs.contents.Contents.bytes_at.Goals as goal

pub returns-in_default-clause-are : goal.returns-in_default-clause-are
returns-in_default-clause-are g c = ap (option_and_then g.S.Schema.words.spelling) c.in_default.ensures

pub returns-in-Ok-clause-are : goal.returns-in-Ok-clause-are
returns-in-Ok-clause-are g c = sym c.in-Ok.ensures.are ∙ ap (option_and_then g.S.Schema.words.spelling) c.in-Some.ensures
