use Rattle.std.specs.Prelude.{IsTrue}
use Rattle.std.proofs.lemmas.List.Elements.{recursion_from_All}
use Rattle.change_laws.proofs.Whole.{rests_so, all_alone, unchanged_so}
use Rattle.change_laws.proofs.changes_come_to_rest.Goals as goal

pub returns-clause-rests : goal.returns-clause-rests
returns-clause-rests g c join s k l new trio trio_roles part choice shown m w after laws may rest proper is =
    rests_so laws k l new may.later may.layout may.layout_new part may.apart may.members may.members_new _ _ trio trio_roles m may.first may.few choice shown w after rest (λ n e. recursion_from_All (λ r. IsTrue (s.is_proper r)) (w.nodes n).accepted (proper n e)) is

pub returns-clause-alone : goal.returns-clause-alone
returns-clause-alone g c join s k l new trio trio_roles part choice shown m w after laws may rest proper is =
    all_alone laws k l new may.later may.layout may.layout_new part may.apart may.members may.members_new _ _ trio trio_roles m may.first may.few choice shown w after rest (λ n e. recursion_from_All (λ r. IsTrue (s.is_proper r)) (w.nodes n).accepted (proper n e)) is

pub returns-clause-others : goal.returns-clause-others
returns-clause-others g c join s k l new trio trio_roles part choice shown m w after laws may rest proper is =
    unchanged_so laws k l new may.later may.layout may.layout_new part may.apart may.members may.members_new _ _ trio trio_roles m may.first may.few choice shown w after rest (λ n e. recursion_from_All (λ r. IsTrue (s.is_proper r)) (w.nodes n).accepted (proper n e)) is
