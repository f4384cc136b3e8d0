use Rattle.serve_run.specs.Told.{told}
use Rattle.serve_run.proofs.Telling.{serves}
use Rattle.serve_run.proofs.server.run_server.Goals as goal

pub returns-clause-serves : goal.returns-clause-serves
returns-clause-serves g c = λ g'.
    let t = told (g.C.Clock.times c.args.clock.now) (g.C.Clock.times c.serve_and_tell.new.clock) (g.L.Link.coming c.args.link.now) (g.L.Link.coming c.serve_and_tell.new.link) (g.L.Link.past c.args.link.now) (g.L.Link.past c.serve_and_tell.new.link) in
    let h = c.serve_and_tell.ensures in
    serves g.I.Source g.O.Sink g.L.Link c.smaller_sizes.ensures g' c.args.server.port c.args.server.count c.serve_and_tell.result c.args.input.now c.serve_and_tell.new.input c.args.output.now c.serve_and_tell.new.output c.args.link.now c.serve_and_tell.new.link c.args.clock.now c.serve_and_tell.new.clock t
    (record { end = h.end; read = h.read; fault = h.read_fault; told = h.read_told }) (h.answers g') (h.prefix g') h.silent (h.wants g') h.no_usage h.unwritten h.untouched h.unopened h.write_fault h.write_told h.link_fault h.link_told h.absent h.opened
    (λ buckets some. (c.only_signed_requests_are_carried_out.ensures.of_changing buckets g' some, c.what_is_admitted_is_allowed.ensures.of_changing buckets g' some))
