use Rattle.std.proofs.Common.{ap, sym}
use Rattle.std.proofs.lemmas.Result.{IfOk-weaker}
use Rattle.cluster_machine.specs.Phases.{block_came}
use Rattle.node_parts.specs.declared.calls.Calls.{Calls}
use Rattle.node_parts.specs.Calls.{TakesBlock, HearsBlock}
use Rattle.node_parts.proofs.Answered.{heard_open, heard_late, heard_closed}
use Rattle.node_parts.proofs.calls.Calls.hear_block.Goals as goal

pub returns-in_default-clause-hears : goal.returns-in_default-clause-hears
returns-in_default-clause-hears g c x all =
    let new : Calls g.row.S.Denot g.row.S-Row.Denot = record { by_number = c.get_mut.follows.lender-at-none; alloc = c.args.self.now.alloc } in
    heard_closed (record { 0 = c.args.request }) c.args.self.now.by_number.entries new c.args.phase x (λ m. block_came x m c.args.bytes.now m.present) all
    (ap (λ m. m.entries) c.get_mut.follows.holds-at-none) (sym c.in_default.ensures.value)

pub returns-then-call-phase-clause-hears : goal.returns-then-call-phase-clause-hears
returns-then-call-phase-clause-hears g c x all =
    let call = c.in-Some.call.now in
    let new : Calls g.row.S.Denot g.row.S-Row.Denot = record { by_number = c.get_mut.follows.lender call; alloc = c.args.self.now.alloc } in
    heard_late (record { 0 = c.args.request }) c.args.self.now.by_number.entries new c.args.phase x (λ m. block_came x m c.args.bytes.now m.present) all
    call (c.get_mut.follows.holds call).0 (sym c.in-Some.ensures.value) c.if-call-phase.true

pub returns-clause-hears : goal.returns-clause-hears
returns-clause-hears g c =
    let call = c.in-Some.call.now in
    let w = c.take_block.new.self in
    let new : Calls g.row.S.Denot g.row.S-Row.Denot = record { by_number = c.get_mut.follows.lender w; alloc = c.args.self.now.alloc } in
    IfOk-weaker c.take_block.result (λ given. TakesBlock call w c.args.bytes.now given) (λ given. HearsBlock c.args.self.now new c.args.request c.args.phase c.args.bytes.now given)
    (λ given takes x all. heard_open (record { 0 = c.args.request }) c.args.self.now.by_number.entries new c.args.phase x (λ m. block_came x m c.args.bytes.now m.present) all
    given call w (c.get_mut.follows.holds w).0 c.get_mut.ensures.ordered (sym c.in-Some.ensures.value) c.if-call-phase.false (takes x))
    c.take_block.ensures.takes
