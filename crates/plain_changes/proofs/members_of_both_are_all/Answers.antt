use Rattle.std.specs.Prelude.{IsTrue}
use Rattle.std.proofs.Common.{sym, subst}
use Rattle.quorum_model.specs.Quorum.{is_among}
use Rattle.cluster_machine.specs.Layouts.{layouts}
use Rattle.change_laws.specs.Script.{AreApart}
use Rattle.change_laws.proofs.Members.{both_apart, both_old, both_new}
use Rattle.plain_changes.proofs.members_of_both_are_all.Goals as goal

pub returns : goal.returns
returns c l change all first = record {
  apart = subst AreApart (sym all) (both_apart layouts l change.new);
  members = λ n h. subst (λ part. IsTrue (is_among n part)) (sym all) (both_old layouts l change.new n h);
  members_new = λ n h. subst (λ part. IsTrue (is_among n part)) (sym all) (both_new layouts l change.new n h);
  first = first;
}
