use Rattle.view_model.proofs.Cleans.{newest_stays, newest_kept, gapless_cleaned}
use Rattle.view_model.proofs.laws.the_newest_stays.Goals as goal

pub returns-clause-newest_version : goal.returns-clause-newest_version
returns-clause-newest_version g c r v = newest_stays r v

pub returns-clause-newest_layout : goal.returns-clause-newest_layout
returns-clause-newest_layout g c r v = newest_kept r v

pub returns-clause-no_gap : goal.returns-clause-no_gap
returns-clause-no_gap g c r v = gapless_cleaned r v
