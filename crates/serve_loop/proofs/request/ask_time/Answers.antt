use Rattle.std.proofs.Common.{◌∙◌, min, max, ap}
use Rattle.serve_model.specs.Talk.{time_limit}
use Rattle.serve_loop.proofs.Heads.{gives_time}
use Rattle.serve_loop.proofs.request.ask_time.Goals as goal

pub returns-clause-asked : goal.returns-clause-asked
returns-clause-asked g c = λ times e.
    let h = gives_time (g.C.Clock.times c.args.clock.now) (g.C.Clock.times c.now.new.self) c.now.result times c.now.ensures e in
    (c.max-served.ensures ∙ ap (max c.args.served.now.time) c.min-given.ensures ∙ ap (λ t. max c.args.served.now.time (min t time_limit)) h.0, h.1)
