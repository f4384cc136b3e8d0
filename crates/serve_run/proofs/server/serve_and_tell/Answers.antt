use Rattle.std.proofs.Common.{Err, ap}
use Rattle.lab_outside.specs.declared.exit.Status.TheVariants.{Done}
use Rattle.serve_run.specs.Told.{told}
use Rattle.serve_run.specs.Answer.{IsEnd}
use Rattle.serve_run.proofs.Ending.{no_write_done, no_want, no_want_done, stopped_wants, wrote_whole, wrote_part, stopped_whole, stopped_part, read_status, no_read_status, after_reading, link_status, no_link_status}
use Rattle.serve_run.proofs.server.serve_and_tell.Goals as goal

pub returns-in-Ok-clause-answers : goal.returns-in-Ok-clause-answers
returns-in-Ok-clause-answers g c = λ g' k.
    let t = told (g.C.Clock.times c.args.clock.now) (g.C.Clock.times c.read_and_served.new.clock) (g.L.Link.coming c.args.link.now) (g.L.Link.coming c.read_and_served.new.link) (g.L.Link.past c.args.link.now) (g.L.Link.past c.read_and_served.new.link) in
    wrote_whole c.ends.result (g.O.Sink.written c.args.output.now) (g.O.Sink.written c.ends.new.output) (g.O.Sink.faults c.args.output.now) (g.O.Sink.faults c.ends.new.output)
    (IsEnd g' c.args.server.count (g.I.Source.left c.args.input.now) t) Done c.in-Ok.text (rw c.as_slice.ensures at c.ends.ensures.says) (λ s. c.in-Ok.ensures.ends g') k

pub returns-in-Ok-clause-prefix : goal.returns-in-Ok-clause-prefix
returns-in-Ok-clause-prefix g c = λ g' e.
    let t = told (g.C.Clock.times c.args.clock.now) (g.C.Clock.times c.read_and_served.new.clock) (g.L.Link.coming c.args.link.now) (g.L.Link.coming c.read_and_served.new.link) (g.L.Link.past c.args.link.now) (g.L.Link.past c.read_and_served.new.link) in
    wrote_part c.ends.result (g.O.Sink.written c.args.output.now) (g.O.Sink.written c.ends.new.output) (g.O.Sink.faults c.args.output.now) (g.O.Sink.faults c.ends.new.output)
    (IsEnd g' c.args.server.count (g.I.Source.left c.args.input.now) t) Done c.in-Ok.text (rw c.as_slice.ensures at c.ends.ensures.says) (c.in-Ok.ensures.ends g') no_write_done e

pub returns-in-Err-clause-answers : goal.returns-in-Err-clause-answers
returns-in-Err-clause-answers g c = λ g' k.
    let t = told (g.C.Clock.times c.args.clock.now) (g.C.Clock.times c.read_and_served.new.clock) (g.L.Link.coming c.args.link.now) (g.L.Link.coming c.read_and_served.new.link) (g.L.Link.past c.args.link.now) (g.L.Link.past c.read_and_served.new.link) in
    stopped_whole c.stopped.result (g.O.Sink.written c.args.output.now) (g.O.Sink.written c.stopped.new.output) (g.O.Sink.faults c.args.output.now) (g.O.Sink.faults c.stopped.new.output)
    (IsEnd g' c.args.server.count (g.I.Source.left c.args.input.now) t) c.in-Err.stop (c.in-Err.ensures.ends g') c.stopped.ensures.ends k

pub returns-in-Err-clause-prefix : goal.returns-in-Err-clause-prefix
returns-in-Err-clause-prefix g c = λ g' e.
    let t = told (g.C.Clock.times c.args.clock.now) (g.C.Clock.times c.read_and_served.new.clock) (g.L.Link.coming c.args.link.now) (g.L.Link.coming c.read_and_served.new.link) (g.L.Link.past c.args.link.now) (g.L.Link.past c.read_and_served.new.link) in
    stopped_part c.stopped.result (g.O.Sink.written c.args.output.now) (g.O.Sink.written c.stopped.new.output) (g.O.Sink.faults c.args.output.now) (g.O.Sink.faults c.stopped.new.output)
    (IsEnd g' c.args.server.count (g.I.Source.left c.args.input.now) t) c.in-Err.stop (c.in-Err.ensures.ends g') c.stopped.ensures.ends c.stopped.ensures.told e

pub returns-in-Ok-clause-read_told : goal.returns-in-Ok-clause-read_told
returns-in-Ok-clause-read_told g c = no_read_status c.in-Ok.text c.ends.result _ c.in-Ok.ensures.read_told

pub returns-in-Err-clause-read_told : goal.returns-in-Err-clause-read_told
returns-in-Err-clause-read_told g c = read_status c.in-Err.stop c.stopped.result _ c.stopped.ensures.read c.in-Err.ensures.read_told

pub returns-in-Ok-clause-wants : goal.returns-in-Ok-clause-wants
returns-in-Ok-clause-wants g c = λ g' e.
    let t = told (g.C.Clock.times c.args.clock.now) (g.C.Clock.times c.read_and_served.new.clock) (g.L.Link.coming c.args.link.now) (g.L.Link.coming c.read_and_served.new.link) (g.L.Link.past c.args.link.now) (g.L.Link.past c.read_and_served.new.link) in
    no_want g' (g.I.Source.left c.args.input.now) t Done c.in-Ok.text c.ends.result (g.O.Sink.written c.args.output.now) (g.O.Sink.written c.ends.new.output) (g.O.Sink.faults c.args.output.now) (g.O.Sink.faults c.ends.new.output) no_want_done (rw c.as_slice.ensures at c.ends.ensures.says) e

pub returns-in-Err-clause-wants : goal.returns-in-Err-clause-wants
returns-in-Err-clause-wants g c = λ g' e. c.in-Err.ensures.wants g' (ap Err (stopped_wants c.in-Err.stop c.stopped.result (g.O.Sink.written c.args.output.now) (g.O.Sink.written c.stopped.new.output) (g.O.Sink.faults c.args.output.now) (g.O.Sink.faults c.stopped.new.output) c.stopped.ensures.ends e))

pub returns-in-Err-clause-read : goal.returns-in-Err-clause-read
returns-in-Err-clause-read g c = λ s. c.in-Err.ensures.read
    (after_reading c.in-Err.stop c.stopped.result (g.O.Sink.written c.args.output.now) (g.O.Sink.written c.stopped.new.output) (g.O.Sink.faults c.args.output.now) (g.O.Sink.faults c.stopped.new.output) c.stopped.ensures.ends c.stopped.ensures.told s)

pub returns-in-Ok-clause-link_told : goal.returns-in-Ok-clause-link_told
returns-in-Ok-clause-link_told g c = no_link_status c.in-Ok.text c.ends.result _ c.in-Ok.ensures.link_told

pub returns-in-Err-clause-link_told : goal.returns-in-Err-clause-link_told
returns-in-Err-clause-link_told g c = link_status c.in-Err.stop c.stopped.result _ c.stopped.ensures.link c.in-Err.ensures.link_told
