use Rattle.std.proofs.Common.{◌≡◌, true, false, None, refl, sym, subst, ◌∙◌}
use Rattle.blake2_hash.specs.Blake2b.{blake2b}
use Rattle.cluster_machine.specs.Blocks.{IsBeside}
use Rattle.cluster_machine.specs.Layouts.{is_given, layouts}
use Rattle.table_schema.specs.Words.{partition_of}
use Rattle.node_parts.proofs.Faults.{passed_on}
use Rattle.node_parts.proofs.TombSteps.{became_same}
use Rattle.node_parts.proofs.contents.Contents.merge_row.Goals as goal

pub accept-requires-clause-beside : goal.accept-requires-clause-beside
accept-requires-clause-beside g c = subst (λ o. IsBeside (blake2b 32) o None) (sym c.requires.needs_none) refl

pub returns-then-not-is_given-clause-merges : goal.returns-then-not-is_given-clause-merges
returns-then-not-is_given-clause-merges g c x same is =
    let given : is_given layouts x.view c.args.node (partition_of g.S.Schema.words c.args.row) ≡ false = (λ i. is_given layouts (sym same i) c.args.node (sym c.partition.ensures.is i)) ∙ (sym c.is_given.ensures ∙ c.if-not-is_given.true) in
    rw given (became_same c.args.self.now x is)

pub returns-clause-merges : goal.returns-clause-merges
returns-clause-merges g c x same is =
    let given : is_given layouts x.view c.args.node (partition_of g.S.Schema.words c.args.row) ≡ true = (λ i. is_given layouts (sym same i) c.args.node (sym c.partition.ensures.is i)) ∙ (sym c.is_given.ensures ∙ c.if-not-is_given.false) in
    rw given (c.in_ok-accept.ensures.accepts x is)

pub returns-in_err-accept-clause-causes : goal.returns-in_err-accept-clause-causes
returns-in_err-accept-clause-causes g c = passed_on c.from_residual.result c.in_err-accept.field-0.0 c.from_residual.ensures.1 c.in_err-accept.ensures.causes (λ exceeds x same is holds.
    let given : is_given layouts x.view c.args.node (partition_of g.S.Schema.words c.args.row) ≡ true = (λ i. is_given layouts (sym same i) c.args.node (sym c.partition.ensures.is i)) ∙ (sym c.is_given.ensures ∙ c.if-not-is_given.false) in
    exceeds x is (rw given at holds))
