use Rattle.layout_trackers.proofs.EntriesGrow.{entry-joined, entry-raised, entry-raised_alone, entry-raised_one, joins_grow, raises_grow, counts-joined}
use Rattle.layout_trackers.proofs.laws.trackers_grow.Goals as goal

pub returns-clause-joined : goal.returns-clause-joined
returns-clause-joined c = entry-joined

pub returns-clause-raised_there : goal.returns-clause-raised_there
returns-clause-raised_there c = entry-raised

pub returns-clause-raised_alone : goal.returns-clause-raised_alone
returns-clause-raised_alone c = entry-raised_alone

pub returns-clause-raised_one : goal.returns-clause-raised_one
returns-clause-raised_one c = entry-raised_one

pub returns-clause-join_grows : goal.returns-clause-join_grows
returns-clause-join_grows c = joins_grow

pub returns-clause-raise_grows : goal.returns-clause-raise_grows
returns-clause-raise_grows c = raises_grow

pub returns-clause-joined_from_0 : goal.returns-clause-joined_from_0
returns-clause-joined_from_0 c = counts-joined
