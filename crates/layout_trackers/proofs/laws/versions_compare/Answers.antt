use Rattle.layout_trackers.proofs.LeastLaws.{least_is_one, least_of_some}
use Rattle.layout_trackers.proofs.Reaching.{reached_by}
use Rattle.layout_trackers.proofs.laws.versions_compare.Goals as goal

pub returns-clause-least_is_one : goal.returns-clause-least_is_one
returns-clause-least_is_one c = least_is_one

pub returns-clause-some_least : goal.returns-clause-some_least
returns-clause-some_least c x xs = least_of_some x xs

pub returns-clause-reached : goal.returns-clause-reached
returns-clause-reached c = reached_by
