use Rattle.serve_cluster.proofs.Making.{applies_so, applied_store}
use Rattle.serve_cluster.proofs.change.apply.Goals as goal

pub returns-clause-stands : goal.returns-clause-stands
returns-clause-stands c = applied_store c.args.world.now c.apply_with.new.self _ c.args.node c.args.shown c.requires.stands c.in_ok-apply_with.ensures.plays

pub returns-clause-does : goal.returns-clause-does
returns-clause-does c = applies_so c.args.world.now c.apply_with.new.self _ c.args.node c.args.shown c.in_ok-apply_with.ensures.plays
