use Rattle.std.specs.Prelude.{⊤}
use Rattle.machine_origins.proofs.Lists.{all_any}
use Rattle.change_laws.specs.Handing.{IsKeptIn}
use Rattle.change_laws.proofs.Rows.{each_kept, equal_so, handed_so, items_so, nothing_new, blocks_so}
use Rattle.change_laws.proofs.changes_keep_rows.Goals as goal

pub returns-clause-equal : goal.returns-clause-equal
returns-clause-equal g c join s k l new trio trio_roles part choice shown m w after joins laws idle may rest equal is spelled clear =
    equal_so joins laws idle k l new may.later may.layout may.layout_new part may.apart may.members may.members_new _ _ trio trio_roles m may.first may.few choice shown w after rest is equal spelled (λ bytes. ⊤) (λ n. all_any (w.nodes n).blocks) clear

pub returns-clause-handed_on : goal.returns-clause-handed_on
returns-clause-handed_on g c join s k l new trio trio_roles part choice shown m w after joins laws idle may rest equal is spelled clear =
    handed_so joins laws idle k l new may.later may.layout may.layout_new part may.apart may.members may.members_new _ _ trio trio_roles m may.first may.few choice shown w after rest is equal spelled (λ bytes. ⊤) (λ n. all_any (w.nodes n).blocks) clear

pub returns-clause-outboxes : goal.returns-clause-outboxes
returns-clause-outboxes g c join s k l new trio trio_roles part choice shown m w after joins laws idle may rest equal is spelled =
    items_so joins laws idle k l new may.later may.layout may.layout_new part may.apart may.members may.members_new _ _ trio trio_roles m may.first may.few choice shown w after rest is equal spelled (λ bytes. ⊤) (λ n. all_any (w.nodes n).blocks)

pub returns-clause-nothing_new : goal.returns-clause-nothing_new
returns-clause-nothing_new g c join s k l new trio trio_roles part choice shown m w after joins laws idle may rest equal is spelled =
    nothing_new joins laws idle k l new may.later may.layout may.layout_new part may.apart may.members may.members_new _ _ trio trio_roles m may.first may.few choice shown w after rest is equal spelled (λ bytes. ⊤) (λ n. all_any (w.nodes n).blocks)

pub returns-clause-blocks : goal.returns-clause-blocks
returns-clause-blocks g c join s k l new trio trio_roles part choice shown m w after joins laws idle may rest equal is spelled =
    blocks_so joins laws idle k l new may.later may.layout may.layout_new part may.apart may.members may.members_new _ _ trio trio_roles m may.first may.few choice shown w after rest is equal spelled (IsKeptIn w) (each_kept w)
