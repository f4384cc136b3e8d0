use Rattle.std.proofs.Common.{Ok, Err, not, false}
use Rattle.lab_outside.specs.declared.ports.Failed.{Failed}
use Rattle.lab_outside.specs.Connection.{WritesWhole}
use Rattle.lab_outside.proofs.Present.{on_present}
use Rattle.serve_model.specs.Serving.{Says}
use Rattle.serve_loop.proofs.Serving.{whole_says, part_says}
use Rattle.serve_loop.proofs.saying.say.Goals as goal

pub returns-in-Ok-clause-says : goal.returns-in-Ok-clause-says
returns-in-Ok-clause-says g c =
    on_present (WritesWhole {E = Failed} (Ok tt) c.args.text.now) (Says c.args.text.now c.args.close (Ok (not c.args.close))) (g.L.Link.present c.args.link.now) (g.L.Link.present c.send_whole.new.link)
    (λ a b w. whole_says {E = Failed} c.args.text.now c.args.close a b w) c.in-Ok.ensures.writes

pub returns-in-Err-clause-says : goal.returns-in-Err-clause-says
returns-in-Err-clause-says g c =
    on_present (WritesWhole (Err c.in-Err.field-0) c.args.text.now) (Says c.args.text.now c.args.close (Ok false)) (g.L.Link.present c.args.link.now) (g.L.Link.present c.send_whole.new.link)
    (λ a b w. part_says c.in-Err.field-0 c.args.text.now c.args.close a b w) c.in-Err.ensures.writes
