use Rattle.k2v_world.proofs.Tokens.{tokens_are, none_is}
use Rattle.k2v_world.proofs.rows.token_of.Goals as goal

pub returns-in-Some-clause-is : goal.returns-in-Some-clause-is
returns-in-Some-clause-is c = rw c.in-Some.is (tokens_are c.in-Some.row c.token.result c.token.ensures.times)

pub returns-in-None-clause-is : goal.returns-in-None-clause-is
returns-in-None-clause-is c = rw c.in-None.is (none_is c.new.result c.new.ensures)
