use Rattle.std.proofs.Common.{sym, subst, arith}
use Rattle.quorum_tally.specs.Stands.{Tallies}
use Rattle.write_call.proofs.Slots.{confirmed_at, unknown_place}
use Rattle.write_call.proofs.call.confirm_at.Goals as goal

pub returns-then-place-len : goal.returns-then-place-len
returns-then-place-len c stored h =
    let slots = c.args.slots.now.items in
    confirmed_at slots stored c.args.place c.args.node c.index_mut.result.now c.confirm.new.self h (omega (arith, c.if-place-len.true, c.len.ensures, c.args.slots.now.ok.0))
    (λ first sets nodes t. c.confirm.ensures first sets nodes (subst (λ x. Tallies x first sets nodes) (sym c.index_mut.ensures.value) t))

pub returns-else-place-len : goal.returns-else-place-len
returns-else-place-len c stored h =
    rw (unknown_place c.args.slots.now.items stored c.args.place c.args.node h (omega (arith, c.if-place-len.false, c.len.ensures, c.args.slots.now.ok.0))) h
