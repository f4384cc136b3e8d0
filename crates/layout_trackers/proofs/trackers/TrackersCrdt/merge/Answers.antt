use Rattle.std.proofs.Common.{refl}
use Rattle.layout_trackers.proofs.trackers.TrackersCrdt.merge.Goals as goal

-- each tracker is joined with its like
pub returns-clause-joined : goal.returns-clause-joined
returns-clause-joined c = rw (c.in_ok-merge.ensures.joined, c.in_ok-merge-2.ensures.joined, c.in_ok-merge-3.ensures.joined, c.in_ok-ack.ensures.same, c.in_ok-sync.ensures.same) refl
