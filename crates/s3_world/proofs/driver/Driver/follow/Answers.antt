use Rattle.std.proofs.Common.{sym, ap, ◌∙◌}
use Rattle.s3_world.specs.Reads.{after_phase}
use Rattle.s3_world.proofs.Causes.{handed_on, same_causes}
use Rattle.s3_world.proofs.Follows.{follow_nobody, follow_ended, still_plays, sized, next_phase, more_begins, more_overflows, wait_waits, end_plays, end_overflows, drawn_overflows}
use Rattle.s3_world.proofs.Kept.{written, is_written}
use Rattle.s3_world.proofs.driver.Driver.follow.Goals as goal

pub returns-in_default-clause-plays : goal.returns-in_default-clause-plays
returns-in_default-clause-plays g c = follow_nobody c.args.heard c.args.self.now c.get_mut.follows.lender-at-none c.get_mut.follows.holds-at-none c.args.request c.args.end c.accepted.result (sym c.in_default.ensures.value) (rw c.new.ensures at c.accepted.ensures)

pub returns-in_default-2-clause-plays : goal.returns-in_default-2-clause-plays
returns-in_default-2-clause-plays g c =
    follow_ended c.args.heard c.args.self.now c.args.request c.in-Some.asked.now (sym c.in-Some.ensures.value) c.args.end _ c.accepted-in_default-2.result c.hears.new.self (sym c.in_ok-flow.ensures.flow ∙ c.in_default-2.is) c.in_ok-flow.ensures.keeps
    (written c.args.self.now.requests _ c.args.request c.in-Some.asked.now c.hears.new.self (sym c.in-Some.ensures.value) (c.get_mut.follows.holds c.hears.new.self))
    (rw c.new-in_default-2.ensures at c.accepted-in_default-2.ensures)

pub returns-in_err-flow-2-clause-causes : goal.returns-in_err-flow-2-clause-causes
returns-in_err-flow-2-clause-causes g c =
    handed_on c.from_residual-in_err-flow-2.result c.in_err-flow-2.field-0.0 c.from_residual-in_err-flow-2.ensures.1 (drawn_overflows c.args.heard c.args.self.now c.args.request c.in-Some.asked.now (sym c.in-Some.ensures.value) c.args.end c.in-Some-2.flow (sym c.in_ok-flow.ensures.flow ∙ c.in-Some-2.is) c.clock-now.result c.clock-now.ensures) c.in_err-flow-2.ensures.causes

pub next-requires : goal.next-requires
next-requires g c = sized c.args.heard c.args.self.now c.args.request c.in-Some.asked.now (sym c.in-Some.ensures.value) c.args.end c.in-Some-2.flow (sym c.in_ok-flow.ensures.flow ∙ c.in-Some-2.is) c.requires.stands

pub begins-requires-clause-there : goal.begins-requires-clause-there
begins-requires-clause-there g c = is_written c.args.self.now.requests (c.get_mut.follows.lender c.hears.new.self) c.args.request c.hears.new.self
    (written c.args.self.now.requests _ c.args.request c.in-Some.asked.now c.hears.new.self (sym c.in-Some.ensures.value) (c.get_mut.follows.holds c.hears.new.self))

pub waits-requires : goal.waits-requires
waits-requires g c = is_written c.args.self.now.requests (c.get_mut.follows.lender c.hears.new.self) c.args.request c.hears.new.self
    (written c.args.self.now.requests _ c.args.request c.in-Some.asked.now c.hears.new.self (sym c.in-Some.ensures.value) (c.get_mut.follows.holds c.hears.new.self))

pub begins-requires-clause-short : goal.begins-requires-clause-short
begins-requires-clause-short g c =
    (next_phase c.args.heard c.args.self.now c.args.request c.in-Some.asked.now (sym c.in-Some.ensures.value) c.args.end c.in-Some-2.flow (sym c.in_ok-flow.ensures.flow ∙ c.in-Some-2.is) c.clock-now.result c.clock-now.ensures
    c.in_ok-flow-2.field-0 c.in_ok-flow-2.ensures.is c.in-More.flow c.in-More.phase c.in-More.is).short

pub begins-requires-clause-stocked : goal.begins-requires-clause-stocked
begins-requires-clause-stocked g c =
    (next_phase c.args.heard c.args.self.now c.args.request c.in-Some.asked.now (sym c.in-Some.ensures.value) c.args.end c.in-Some-2.flow (sym c.in_ok-flow.ensures.flow ∙ c.in-Some-2.is) c.clock-now.result c.clock-now.ensures
    c.in_ok-flow-2.field-0 c.in_ok-flow-2.ensures.is c.in-More.flow c.in-More.phase c.in-More.is).stocked

pub returns-in-More-clause-plays : goal.returns-in-More-clause-plays
returns-in-More-clause-plays g c =
    more_begins c.args.heard c.args.self.now c.args.request c.in-Some.asked.now (sym c.in-Some.ensures.value) c.args.end c.in-Some-2.flow (sym c.in_ok-flow.ensures.flow ∙ c.in-Some-2.is) c.clock-now.result c.clock-now.ensures
    c.in_ok-flow-2.field-0 c.in_ok-flow-2.ensures.is c.in-More.flow c.in-More.phase c.in-More.is
    _ c.begins.new.self c.hears.new.self (c.in_ok-flow.ensures.keeps ∙ ap (λ fl. after_phase c.in-Some.asked.now fl c.args.end) (sym c.in_ok-flow.ensures.flow ∙ c.in-Some-2.is))
    (written c.args.self.now.requests _ c.args.request c.in-Some.asked.now c.hears.new.self (sym c.in-Some.ensures.value) (c.get_mut.follows.holds c.hears.new.self))
    c.begins.result c.begins.ensures.begins

pub returns-in-More-clause-causes : goal.returns-in-More-clause-causes
returns-in-More-clause-causes g c =
    same_causes c.begins.result (more_overflows c.args.heard c.args.self.now c.args.request c.in-Some.asked.now (sym c.in-Some.ensures.value) c.args.end c.in-Some-2.flow (sym c.in_ok-flow.ensures.flow ∙ c.in-Some-2.is) c.clock-now.result c.clock-now.ensures
    c.in_ok-flow-2.field-0 c.in_ok-flow-2.ensures.is c.in-More.flow c.in-More.phase c.in-More.is)
    c.begins.ensures.causes

pub returns-in-Need-clause-plays : goal.returns-in-Need-clause-plays
returns-in-Need-clause-plays g c =
    wait_waits c.args.heard c.args.self.now c.args.request c.in-Some.asked.now (sym c.in-Some.ensures.value) c.args.end c.in-Some-2.flow (sym c.in_ok-flow.ensures.flow ∙ c.in-Some-2.is) c.clock-now.result c.clock-now.ensures
    c.in_ok-flow-2.field-0 c.in_ok-flow-2.ensures.is c.in-Need.flow c.in-Need.is
    _ c.waits.new.self c.hears.new.self c.accepted-in-Need.result (c.in_ok-flow.ensures.keeps ∙ ap (λ fl. after_phase c.in-Some.asked.now fl c.args.end) (sym c.in_ok-flow.ensures.flow ∙ c.in-Some-2.is))
    (written c.args.self.now.requests _ c.args.request c.in-Some.asked.now c.hears.new.self (sym c.in-Some.ensures.value) (c.get_mut.follows.holds c.hears.new.self))
    c.waits.ensures (rw c.new-in-Need.ensures at c.accepted-in-Need.ensures)

pub returns-in_ok-told-in-End-clause-plays : goal.returns-in_ok-told-in-End-clause-plays
returns-in_ok-told-in-End-clause-plays g c =
    still_plays c.args.heard c.args.self.now c.finishes.new.self c.forgets.new.self c.in_ok-told-in-End.told _ c.forgets.ensures.same
    (end_plays c.args.heard c.args.self.now c.args.request c.in-Some.asked.now (sym c.in-Some.ensures.value) c.args.end c.in-Some-2.flow (sym c.in_ok-flow.ensures.flow ∙ c.in-Some-2.is) c.clock-now.result c.clock-now.ensures
    c.in_ok-flow-2.field-0 c.in_ok-flow-2.ensures.is c.in-End.end c.in-End.is _ c.hears.new.self (c.in_ok-flow.ensures.keeps ∙ ap (λ fl. after_phase c.in-Some.asked.now fl c.args.end) (sym c.in_ok-flow.ensures.flow ∙ c.in-Some-2.is))
    (written c.args.self.now.requests _ c.args.request c.in-Some.asked.now c.hears.new.self (sym c.in-Some.ensures.value) (c.get_mut.follows.holds c.hears.new.self))
    c.finishes.new.self c.in_ok-told-in-End.told c.in_ok-told-in-End.ensures.finishes)

pub returns-in_err-told-in-End-clause-causes : goal.returns-in_err-told-in-End-clause-causes
returns-in_err-told-in-End-clause-causes g c =
    handed_on c.from_residual-in_err-told-in-End.result c.in_err-told-in-End.field-0.0 c.from_residual-in_err-told-in-End.ensures.1 (end_overflows c.args.heard c.args.self.now c.args.request c.in-Some.asked.now (sym c.in-Some.ensures.value) c.args.end c.in-Some-2.flow (sym c.in_ok-flow.ensures.flow ∙ c.in-Some-2.is) c.clock-now.result c.clock-now.ensures
    c.in_ok-flow-2.field-0 c.in_ok-flow-2.ensures.is c.in-End.end c.in-End.is (c.get_mut.follows.lender c.hears.new.self) c.hears.new.self (c.in_ok-flow.ensures.keeps ∙ ap (λ fl. after_phase c.in-Some.asked.now fl c.args.end) (sym c.in_ok-flow.ensures.flow ∙ c.in-Some-2.is))
    (written c.args.self.now.requests (c.get_mut.follows.lender c.hears.new.self) c.args.request c.in-Some.asked.now c.hears.new.self (sym c.in-Some.ensures.value) (c.get_mut.follows.holds c.hears.new.self)))
    c.in_err-told-in-End.ensures.causes
