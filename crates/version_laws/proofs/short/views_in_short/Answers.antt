use Rattle.view_model.proofs.Joins.{at_merged}
use Rattle.version_laws.proofs.OneView.{merged_entry, own_entry, other_node, other_kind, oldest_cleaned, at_appended, at_new, newest_new}
use Rattle.version_laws.proofs.InShort.{missing_as_0, synced_from_0, least_from_0, cleaned_at}
use Rattle.version_laws.proofs.short.views_in_short.Goals as goal

pub returns-clause-missing_as_0 : goal.returns-clause-missing_as_0
returns-clause-missing_as_0 g c r = missing_as_0 r

pub returns-clause-synced : goal.returns-clause-synced
returns-clause-synced g c r = synced_from_0 r

pub returns-clause-least : goal.returns-clause-least
returns-clause-least g c r = least_from_0 r

pub returns-clause-merged_layout : goal.returns-clause-merged_layout
returns-clause-merged_layout g c r a b f h i = at_merged r a b i f h

pub returns-clause-merged_entry : goal.returns-clause-merged_entry
returns-clause-merged_entry g c r = merged_entry r

pub returns-clause-raised_there : goal.returns-clause-raised_there
returns-clause-raised_there g c r = own_entry r

pub returns-clause-raised_alone : goal.returns-clause-raised_alone
returns-clause-raised_alone g c r v which other n i m = other_node r v which n i other m

pub returns-clause-raised_one : goal.returns-clause-raised_one
returns-clause-raised_one g c r v which other n i m = other_kind r v which n i other m

pub returns-clause-cleaned_oldest : goal.returns-clause-cleaned_oldest
returns-clause-cleaned_oldest g c r = oldest_cleaned r

pub returns-clause-cleaned_layout : goal.returns-clause-cleaned_layout
returns-clause-cleaned_layout g c r = cleaned_at r

pub returns-clause-appended_newest : goal.returns-clause-appended_newest
returns-clause-appended_newest g c r v l h e = newest_new r v l h e

pub returns-clause-appended_layout : goal.returns-clause-appended_layout
returns-clause-appended_layout g c r v l h e = (at_new r v l h e, at_appended r v l h e)
