use Rattle.std.proofs.Common.{Some, None, refl, ap, sym, ◌∙◌}
use Rattle.blake2_hash.specs.Blake2b.{blake2b}
use Rattle.cluster_machine.specs.Rows.{same_bytes}
use Rattle.node_parts.proofs.TombSteps.{forgets_it, forgets_none}
use Rattle.node_parts.proofs.contents.Contents.forget.Goals as goal

pub returns-in_default-clause-forgets : goal.returns-in_default-clause-forgets
returns-in_default-clause-forgets g c x is =
    forgets_none g.met.S.Schema.laws c.args.self.now x is c.args.table c.args.key.now c.args.hash.now.0 None (sym c.in_default.is ∙ c.in_ok-bytes.ensures.are) refl

pub returns-then-not-is_digest-clause-forgets : goal.returns-then-not-is_digest-clause-forgets
returns-then-not-is_digest-clause-forgets g c x is =
    forgets_none g.met.S.Schema.laws c.args.self.now x is c.args.table c.args.key.now c.args.hash.now.0 (Some c.in-Some.bytes) (sym c.in-Some.is ∙ c.in_ok-bytes.ensures.are)
    (ap (λ bytes. same_bytes (blake2b 32 bytes) c.args.hash.now.0) (sym c.as_slice.ensures) ∙ (sym c.is_digest.ensures ∙ c.if-not-is_digest.true))

pub returns-clause-forgets : goal.returns-clause-forgets
returns-clause-forgets g c x is =
    forgets_it g.met.S.Schema.laws c.args.self.now x is c.args.table c.args.key.now c.args.hash.now.0 c.drop_row.new.self c.in_ok-dropped.dropped c.in-Some.bytes (sym c.in-Some.is ∙ c.in_ok-bytes.ensures.are)
    (ap (λ bytes. same_bytes (blake2b 32 bytes) c.args.hash.now.0) (sym c.as_slice.ensures) ∙ (sym c.is_digest.ensures ∙ c.if-not-is_digest.false)) (c.in_ok-dropped.ensures.drops x is) c.in_ok-dropped.ensures.marker
