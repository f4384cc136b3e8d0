use Rattle.std.proofs.Common.{Err, option_copied}
use Rattle.lab_outside.proofs.Present.{on_present_same}
use Rattle.s3_model.specs.Answer.{answer_text}
use Rattle.serve_model.specs.declared.served.ServeFault.TheVariants.{Memory}
use Rattle.serve_model.specs.Serving.{Says}
use Rattle.serve_loop.proofs.Serving.{nothing_says}
use Rattle.serve_loop.proofs.saying.reply.Goals as goal

pub returns-in-Err-clause-says : goal.returns-in-Err-clause-says
returns-in-Err-clause-says g c =
    let text = answer_text (option_copied c.args.ask) c.args.reply.now c.args.now c.args.close in
    on_present_same (Says text c.args.close (Err Memory)) (g.L.Link.present c.args.link.now) (nothing_says text c.args.close)
