use Rattle.std.specs.Prelude.{◌≡◌, true, false}
use Rattle.std.proofs.Common.{rules, ap, ◌∙◌}
use Rattle.std.specs.Ordering.{nat_cmp, is_lt, is_le}
use Rattle.std.specs.Cmp.Lexicographic.{slice_cmp}
use Rattle.crdt_core.specs.EntryLaws.{less_is}
use Rattle.table_store.proofs.Windows.{from_prefix, from_after}
use Rattle.table_store.proofs.window.start_of.Goals as goal

pub returns-in_ok-from_slice-clause-is : goal.returns-in_ok-from_slice-clause-is
returns-in_ok-from_slice-clause-is c key =
    let before : is_lt (slice_cmp nat_cmp c.args.after.now c.args.prefix.now) ≡ true = search rules in
    ap (λ start. is_le (slice_cmp nat_cmp start key.items)) c.in_ok-from_slice.ensures.items ∙ from_prefix c.args.prefix.now c.args.after.now key.items (less_is _ before)

pub returns-in_ok-from_slice-2-clause-is : goal.returns-in_ok-from_slice-2-clause-is
returns-in_ok-from_slice-2-clause-is c key =
    let before : is_lt (slice_cmp nat_cmp c.args.after.now c.args.prefix.now) ≡ false = search rules in
    ap (λ start. is_lt (slice_cmp nat_cmp start key.items)) c.in_ok-from_slice-2.ensures.items ∙ from_after c.args.prefix.now c.args.after.now key.items before
