use Rattle.std.proofs.Common.{◌==◌, ◌∙◌, sym, ap}
use Rattle.std.specs.Option.{option_copied}
use Rattle.serve_cluster.proofs.Coming.{due_some, due_none}
use Rattle.serve_cluster.proofs.changing.Changing.is_due.Goals as goal

pub returns-in-None : goal.returns-in-None
returns-in-None c = λ m h. due_none m.cluster.members c.args.self.now.to_come m.to_come m.cluster (sym (ap option_copied c.in-None.is) ∙ c.get.ensures) h.to_come

pub returns-in-Some : goal.returns-in-Some
returns-in-Some c = λ m h.
    ap (λ a. c.requests.result == a) c.from.ensures
    ∙ due_some m.cluster.members c.args.self.now.to_come m.to_come c.in-Some.change.now m.cluster c.requests.result (sym (ap option_copied c.in-Some.is) ∙ c.get.ensures) h.to_come (c.requests.ensures m.cluster.run (c.world.ensures m.cluster h.cluster))
