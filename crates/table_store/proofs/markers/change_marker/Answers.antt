use Rattle.std.proofs.Common.{◌∙◌}
use Rattle.table_store.proofs.markers.change_marker.Goals as goal

pub returns-in_err-mark_new-clause-others : goal.returns-in_err-mark_new-clause-others
returns-in_err-mark_new-clause-others c t other apart had = c.mark_new.ensures.stay t other had

pub returns-clause-marked : goal.returns-clause-marked
returns-clause-marked c version is = c.unmark_old.ensures.kept version is (c.in_ok-mark_new.ensures.marked version is)

pub returns-clause-others : goal.returns-clause-others
returns-clause-others c t other apart had = c.unmark_old.ensures.others t other apart (c.mark_new.ensures.stay t other had)
