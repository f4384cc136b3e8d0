use Rattle.std.proofs.Common.{List, IsTrue, subst}
use Rattle.layout_roles.specs.declared.role.Role.{Role}
use Rattle.layout_moves.specs.Prices.{may_take}
use Rattle.layout_moves.proofs.Swaps.{lacks, Swapped, swap_base}
use Rattle.layout_moves.proofs.Steps.{taker_stored}
use Rattle.layout_moves.proofs.settle.settled.Goals as goal

pub loop-set-preserved : goal.loop-set-preserved
loop-set-preserved c =
    let roles = c.args.roles.now in
    let set = c.loop-set.set in
    let base = c.loop-set.invariant.base in
    let out = c.in-Some.gain.out in
    let new = c.in-Some.gain.new in
    let take = subst (λ (zs : List (List Role)). IsTrue (may_take c.args.each set out zs new)) c.requires.grouped c.in-Some.ensures.some.1 in
    let lacked = lacks c.args.each set out _ new take in
    let s : Swapped roles.list c.args.each set out new c.swapped-set.result = record {
      base = base;
      had = c.in-Some.ensures.some.0;
      lacked = lacked;
      stored = taker_stored roles.list c.args.each set out new take;
      taken = take;
      swap = c.swapped-set.ensures.swap;
    } in
    record {
      base = swap_base roles.list c.args.each set out new c.swapped-set.result roles.ascending s;
      ascends = c.swapped-set.ensures.ascends base.three.different lacked;
    }
