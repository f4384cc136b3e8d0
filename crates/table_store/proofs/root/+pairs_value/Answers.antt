use Rattle.std.specs.Prelude.{◌≡◌, ◌-◌, ◌++◌}
use Rattle.std.proofs.Common.{ap, sym, ◌∙◌, arith}
use Rattle.blake2_hash.specs.Blake2b.{blake2b}
use Rattle.table_model.specs.Root.{branch, none_leaf_or_node, value_of, with_byte}
use Rattle.table_store.specs.Pairs.{shown}
use Rattle.table_store.proofs.PartitionRoots.{shown_with, value_zero, value_few, value_node, parts_more}
use Rattle.table_store.proofs.root.+pairs_value.Goals as goal

pub returns-then-left-eq0-clause-is : goal.returns-then-left-eq0-clause-is
returns-then-left-eq0-clause-is n c =
    let pairs = shown c.args.pairs.now in
    c.digest.ensures
    ∙ (sym (value_zero (blake2b 32) (32 - c.args.left) pairs) ∙ ap (λ left. value_of (blake2b 32) left (32 - c.args.left) pairs) (sym c.if-left-eq0.true))

pub returns-then-pairs-lt2-clause-is : goal.returns-then-pairs-lt2-clause-is
returns-then-pairs-lt2-clause-is n c =
    c.digest-then-pairs-lt2.ensures ∙ sym (value_few (blake2b 32) c.args.left (32 - c.args.left) c.args.pairs.now c.if-pairs-lt2.true)

pub loop-byte-preserved : goal.loop-byte-preserved
loop-byte-preserved n c =
    let left = c.args.left in
    let byte = c.loop-byte.byte in
    let pairs = shown c.args.pairs.now in
    let depth : 32 - (left - 1) ≡ 33 - left = omega arith in
    let some-is : shown c.in_ok-some.some.items ≡ with_byte (32 - left) byte pairs = ap shown c.in_ok-some.ensures.are ∙ shown_with (32 - left) byte c.args.pairs.now in
    let asked : shown c.as_slice.result.now ≡ with_byte (32 - left) byte pairs = ap shown c.as_slice.ensures.value ∙ some-is in
    let told : shown c.as_slice-in-loop-byte.result.now ≡ with_byte (32 - left) byte pairs = ap shown c.as_slice-in-loop-byte.ensures.value ∙ some-is in
    let value-is : c.in_ok-value.value.0 ≡ value_of (blake2b 32) (left - 1) (33 - left) (with_byte (32 - left) byte pairs) =
    c.in_ok-value.ensures.is ∙ (λ i. value_of (blake2b 32) (left - 1) (depth i) (asked i)) in
    c.in_ok-push_branch.ensures.branch
    ∙ ((λ i. c.loop-byte.invariant i ++ branch byte (told i) (value-is i))
    ∙ parts_more (λ b. branch b (with_byte (32 - left) b pairs) (value_of (blake2b 32) (left - 1) (33 - left) (with_byte (32 - left) b pairs))) byte)

pub returns-clause-is : goal.returns-clause-is
returns-clause-is n c =
    let left = c.args.left in
    let pairs = shown c.args.pairs.now in
    let end : c.loop-byte.byte ≡ 256 = omega arith in
    let branches-are = c.as_slice-2.ensures.value ∙ c.loop-byte.invariant in
    c.digest-2.ensures
    ∙ (ap (none_leaf_or_node (blake2b 32) pairs) branches-are
    ∙ sym (value_node (blake2b 32) left (left - 1) (32 - left) (33 - left) c.loop-byte.byte pairs (omega arith) (omega arith) end))
