use Rattle.std.proofs.Common.{sym, ◌∙◌, subst}
use Rattle.quorum_tally.specs.Stands.{Tallies}
use Rattle.write_call.proofs.Slots.{kept_so_far, not_kept, kept_end}
use Rattle.write_call.proofs.call.all_reached.Goals as goal

pub returns-then-not-reached : goal.returns-then-not-reached
returns-then-not-reached c stored h =
    not_kept c.args.slots.now stored c.loop-slot.slot-index c.slot-item.result c.reached.result c.args.from h c.loop-slot-test.true
    (λ first sets nodes t. c.reached.ensures first sets nodes (subst (λ x. Tallies x first sets nodes) (sym c.slot-item.is) t)) (c.loop-slot.invariant stored h) c.if-not-reached.true

pub loop-slot-preserved : goal.loop-slot-preserved
loop-slot-preserved c stored h =
    kept_so_far c.args.slots.now stored c.loop-slot.slot-index c.slot-item.result c.reached.result c.args.from h c.loop-slot-test.true
    (λ first sets nodes t. c.reached.ensures first sets nodes (subst (λ x. Tallies x first sets nodes) (sym c.slot-item.is) t)) (c.loop-slot.invariant stored h) c.if-not-reached.false

pub returns : goal.returns
returns c stored h =
    sym (kept_end c.args.slots.now stored c.loop-slot.slot-index c.args.from h c.loop-slot-test.false) ∙ c.loop-slot.invariant stored h
