use Rattle.layout_trackers.proofs.EntriesGrow.{joins_grow, raises_grow}
use Rattle.view_model.specs.View.{merged, appended, with_entry}
use Rattle.view_model.proofs.Joins.{gapless_merged}
use Rattle.view_model.proofs.ReadVersions.{read_grows, merged_grew, merged_grew_other, raised_grew, appended_grew, gapless_appended}
use Rattle.view_model.proofs.laws.views_grow.Goals as goal

pub returns-clause-merge_grows : goal.returns-clause-merge_grows
returns-clause-merge_grows g c r a b = joins_grow a.trackers b.trackers

pub returns-clause-raise_grows : goal.returns-clause-raise_grows
returns-clause-raise_grows g c r which node i v = raises_grow which node i v.trackers

pub returns-clause-read_under_merge : goal.returns-clause-read_under_merge
returns-clause-read_under_merge g c r a b f h = read_grows r a (merged r a b) f (gapless_merged r a b f h) (merged_grew r a b f h)

pub returns-clause-read_under_merge_of_other : goal.returns-clause-read_under_merge_of_other
returns-clause-read_under_merge_of_other g c r a b f h agree = read_grows r b (merged r a b) h (gapless_merged r a b f h) (merged_grew_other r a b f h agree)

pub returns-clause-read_under_raise : goal.returns-clause-read_under_raise
returns-clause-read_under_raise g c r which node i v f = read_grows r v (with_entry r which node i v) f f (raised_grew r which node i v)

pub returns-clause-read_under_append : goal.returns-clause-read_under_append
returns-clause-read_under_append g c r v l f e = read_grows r v (appended r v l) f (gapless_appended r v l f e) (appended_grew r v l e)
