use Rattle.k2v_replay.proofs.Keeping.{moments_keep}
use Rattle.k2v_replay.proofs.moments.moments_keep_items.Goals as goal

pub returns : goal.returns
returns c =
    let laws = c.items_keep_what_they_owe.ensures in moments_keep laws.whole laws.cover laws.written laws.replaced laws.place
