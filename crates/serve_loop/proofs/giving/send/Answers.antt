use Rattle.std.proofs.Common.{Ok, Err, refl}
use Rattle.lab_outside.specs.declared.ports.Failed.{Failed as LinkFailed}
use Rattle.lab_outside.specs.Connection.{WritesWhole}
use Rattle.lab_outside.proofs.Present.{on_present}
use Rattle.serve_loop.specs.declared.giving.Progress.TheVariants.{Writing, Failed}
use Rattle.serve_loop.specs.Giving.{Sends, sent, unsent}
use Rattle.serve_loop.proofs.giving.send.Goals as goal

pub returns-in-Ok-clause-sends : goal.returns-in-Ok-clause-sends
returns-in-Ok-clause-sends g c =
    on_present (WritesWhole {E = LinkFailed} (Ok tt) c.args.bytes.now) (Sends c.args.portion c.args.bytes.now (Writing c.args.portion)) (g.L.Link.present c.args.link.now) (g.L.Link.present c.send_whole.new.link)
    (λ a b w. sent refl w) c.in-Ok.ensures.writes

pub returns-in-Err-clause-sends : goal.returns-in-Err-clause-sends
returns-in-Err-clause-sends g c =
    on_present (WritesWhole (Err c.in-Err.field-0) c.args.bytes.now) (Sends c.args.portion c.args.bytes.now Failed) (g.L.Link.present c.args.link.now) (g.L.Link.present c.send_whole.new.link)
    (λ a b w. unsent c.in-Err.field-0 refl w) c.in-Err.ensures.writes
