use Rattle.k2v_rows.proofs.Tokens.{discarded_is}
use Rattle.k2v_rows.proofs.k2v_row.raise.Goals as goal

pub returns-clause-raised : goal.returns-clause-raised
returns-clause-raised c =
    let one = discarded_is c.discarded-discarded.result c.args.seen.now.1 c.discarded-discarded.ensures.discard c.discarded-discarded.ensures.values in
    rw (← one) c.join_at.ensures.joined
