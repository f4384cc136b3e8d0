use Rattle.write_limits.proofs.Going.{begins, goes, fed_so, kept_so, given_up_so}
use Rattle.write_limits.proofs.what_requests_store_has_a_spelling.Goals as goal

pub returns-clause-begun : goal.returns-clause-begun
returns-clause-begun c o id block f = begins o id block f

pub returns-clause-ended : goal.returns-clause-ended
returns-clause-ended c h id block stage end now low small within few f fits draws = goes id block h low small stage end now within few f fits draws

pub returns-clause-fed : goal.returns-clause-fed
returns-clause-fed c id block stage bytes small f are need = fed_so id block stage bytes small f are need

pub returns-clause-kept : goal.returns-clause-kept
returns-clause-kept c id block stage f = kept_so id block stage f

pub returns-clause-given_up : goal.returns-clause-given_up
returns-clause-given_up c id block stage f = given_up_so id block stage f
