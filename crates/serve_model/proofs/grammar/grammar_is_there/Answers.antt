use Rattle.serve_model.proofs.Reading.{reader}
use Rattle.serve_model.proofs.grammar.grammar_is_there.Goals as goal

pub returns : goal.returns
returns c = reader
