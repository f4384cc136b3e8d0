use Rattle.std.specs.Prelude.{◌&&◌}
use Rattle.std.proofs.Common.{ap}
use Rattle.std.specs.Ordering.{nat_cmp, is_eq}
use Rattle.std.specs.Cmp.Lexicographic.{slice_cmp}
use Rattle.table_store.proofs.Marking.{rest_others}
use Rattle.table_store.proofs.markers.unmark_old.Goals as goal

pub returns-then-not-is_at-clause-others : goal.returns-then-not-is_at-clause-others
returns-then-not-is_at-clause-others c = rest_others c.in-Some.version.0 c.args.key.now c.args.markers.now c.unmark.new.markers c.unmark.ensures

pub returns-then-not-is_at-clause-kept : goal.returns-then-not-is_at-clause-kept
returns-then-not-is_at-clause-kept c version is had =
    let key = c.args.key.now in
    c.unmark.ensures version.0 key (ap (λ b. b && is_eq (slice_cmp nat_cmp key key)) (c.is_at.ensures c.if-not-is_at.true version is)) had
