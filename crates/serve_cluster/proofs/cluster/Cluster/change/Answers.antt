use Rattle.serve_cluster.proofs.Acting.{cause_more}
use Rattle.std.proofs.Common.{refl, subst}
use Rattle.serve_cluster.specs.Changes.{acts_with, DoesIn}
use Rattle.serve_cluster.specs.Acting.{LacksRoom}
use Rattle.serve_cluster.proofs.Coming.{changes_so, changes_lack}
use Rattle.serve_cluster.proofs.Carrying.{has_store}
use Rattle.serve_cluster.proofs.cluster.Cluster.change.Goals as goal

pub make-requires-clause-stands : goal.make-requires-clause-stands
make-requires-clause-stands c = has_store c.args.self.now c.requires.state

pub make-requires-clause-within : goal.make-requires-clause-within
make-requires-clause-within c = λ s st. c.requires.within (record { run = s; ticked = c.args.self.now.ticked; members = c.args.self.now.members }) (record { world = st; ticked = refl; members = refl })

pub returns-in-Ok-clause-does : goal.returns-in-Ok-clause-does
returns-in-Ok-clause-does c = λ m ch st h.
    changes_so c.args.self.now c.args.change m ch st h c.make.new.world c.in-Ok.newer c.in-Ok.ensures.newer (subst (λ ms. DoesIn c.args.self.now.world c.make.new.world (acts_with ms c.args.change)) c.as_slice.ensures c.in-Ok.ensures.does)

pub returns-in-Err-clause-causes : goal.returns-in-Err-clause-causes
returns-in-Err-clause-causes c =
    cause_more c.in-Err.memory (λ full m ch st h. changes_lack c.args.self.now c.args.change m ch st h (subst (λ ms. LacksRoom c.args.self.now.world (acts_with ms c.args.change)) c.as_slice.ensures full)) c.in-Err.ensures.causes
