use Rattle.std.specs.Prelude.{Some, is_some}
use Rattle.std.proofs.Common.{ap, sym, ◌∙◌}
use Rattle.table_store.specs.Index.{has_key}
use Rattle.table_store.specs.Markers.{has_key_in}
use Rattle.table_store.proofs.Entries.{has_left}
use Rattle.table_store.proofs.Marking.{rest_stays}
use Rattle.table_store.proofs.markers.unmark_at.Goals as goal

pub returns-in-Some : goal.returns-in-Some
returns-in-Some c =
    let later = c.get_mut.follows.lender c.remove.new.self in
    let there = sym c.in-Some.ensures.value in
    rest_stays c.args.markers.now later c.args.ts (Some c.remove.new.self) ((c.get_mut.follows.holds c.remove.new.self).3 (ap is_some there)).0 c.args.key.now
    (λ other apart had. ap (has_key other) c.remove.ensures.keys ∙ (has_left c.args.key.now other c.in-Some.keys.now.keys apart ∙ (sym (ap (has_key_in other) there) ∙ had)))
