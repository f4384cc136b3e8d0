use Rattle.change_laws.proofs.Members.{both_apart, both_old, both_new}
use Rattle.change_laws.proofs.members_of_both_take_part.Goals as goal

pub returns-clause-apart : goal.returns-clause-apart
returns-clause-apart g c k l new = both_apart k l new

pub returns-clause-members : goal.returns-clause-members
returns-clause-members g c k l new n h = both_old k l new n h

pub returns-clause-members_new : goal.returns-clause-members_new
returns-clause-members_new g c k l new n h = both_new k l new n h
