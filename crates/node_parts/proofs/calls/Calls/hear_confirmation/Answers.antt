use Rattle.std.proofs.Common.{ap, sym}
use Rattle.cluster_machine.specs.Phases.{stored_came}
use Rattle.node_parts.specs.declared.calls.Calls.{Calls}
use Rattle.cluster_machine.specs.Layouts.{layouts}
use Rattle.node_parts.proofs.Answered.{heard_open, heard_late, heard_closed}
use Rattle.node_parts.proofs.calls.Calls.hear_confirmation.Goals as goal

pub returns-in_default : goal.returns-in_default
returns-in_default g c x here all =
    let new : Calls g.row.S.Denot g.row.S-Row.Denot = record { by_number = c.get_mut.follows.lender-at-none; alloc = c.args.self.now.alloc } in
    heard_closed (record { 0 = c.args.request }) c.args.self.now.by_number.entries new c.args.phase x (λ m. stored_came layouts x m c.args.slot c.args.from m.present) all
    (ap (λ m. m.entries) c.get_mut.follows.holds-at-none) (sym c.in_default.ensures.value)

pub returns-then-call-phase : goal.returns-then-call-phase
returns-then-call-phase g c x here all =
    let call = c.in-Some.call.now in
    let new : Calls g.row.S.Denot g.row.S-Row.Denot = record { by_number = c.get_mut.follows.lender call; alloc = c.args.self.now.alloc } in
    heard_late (record { 0 = c.args.request }) c.args.self.now.by_number.entries new c.args.phase x (λ m. stored_came layouts x m c.args.slot c.args.from m.present) all
    call (c.get_mut.follows.holds call).0 (sym c.in-Some.ensures.value) c.if-call-phase.true

pub returns : goal.returns
returns g c x here all =
    let call = c.in-Some.call.now in
    let w = c.take_confirmation.new.self in
    let new : Calls g.row.S.Denot g.row.S-Row.Denot = record { by_number = c.get_mut.follows.lender w; alloc = c.args.self.now.alloc } in
    heard_open (record { 0 = c.args.request }) c.args.self.now.by_number.entries new c.args.phase x (λ m. stored_came layouts x m c.args.slot c.args.from m.present) all
    c.take_confirmation.result call w (c.get_mut.follows.holds w).0 c.get_mut.ensures.ordered (sym c.in-Some.ensures.value) c.if-call-phase.false (λ m. c.take_confirmation.ensures x m here)
