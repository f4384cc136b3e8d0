use Rattle.std.proofs.Common.{Ok, Err, [], ◌∷◌, ◌∙◌, ap, subst}
use Rattle.cluster_machine.specs.declared.step.Step.TheVariants.{Tick}
use Rattle.store_model.specs.Run.{plainly}
use Rattle.store_model.specs.Acts.{moves, asks}
use Rattle.serve_model.specs.Clusters.{asker}
use Rattle.serve_cluster.specs.Acting.{LacksRoom}
use Rattle.serve_cluster.proofs.Acting.{store_after, ask_lacks, ticking_lacks, asking_lacks, cause_more}
use Rattle.serve_cluster.proofs.Carrying.{has_store, has_asked, started_as, lacks_so, cause_as}
use Rattle.serve_cluster.proofs.cluster.Cluster.ask.Goals as goal

pub start-requires-clause-stands : goal.start-requires-clause-stands
start-requires-clause-stands c = store_after c.args.self.now.world c.tick.new.world (moves (plainly (Tick c.saturating_sub-ms.result)) ∷ []) (has_store c.args.self.now c.requires.state) c.in-Ok.ensures.does

pub returns-in-Ok-Ok-clause-asks : goal.returns-in-Ok-Ok-clause-asks
returns-in-Ok-Ok-clause-asks c =
    has_asked c.args.self.now c.args.time c.args.order c.saturating_sub-ms.result c.max-self.result c.saturating_sub-ms.ensures c.max-self.ensures c.requires.keyed c.tick.new.world c.in-Ok.ensures.does
    c.start.new.self (Ok c.in-Ok-Ok.number)
    (started_as c.tick.new.world c.start.new.self c.asker.result (asker c.args.self.now.members) c.args.order c.start.result c.in-Ok-Ok.field-0 (Ok c.in-Ok-Ok.number) (c.asker.ensures ∙ ap asker c.as_slice.ensures) c.in-Ok-Ok.is c.in-Ok-Ok.field-0-is c.start.ensures.starts c.start.ensures.gives)

pub returns-in-Ok-Err-clause-asks : goal.returns-in-Ok-Err-clause-asks
returns-in-Ok-Err-clause-asks c =
    has_asked c.args.self.now c.args.time c.args.order c.saturating_sub-ms.result c.max-self.result c.saturating_sub-ms.ensures c.max-self.ensures c.requires.keyed c.tick.new.world c.in-Ok.ensures.does
    c.start.new.self (Err c.in-Ok-Err.field-0-0)
    (started_as c.tick.new.world c.start.new.self c.asker.result (asker c.args.self.now.members) c.args.order c.start.result c.in-Ok-Err.field-0 (Err c.in-Ok-Err.field-0-0) (c.asker.ensures ∙ ap asker c.as_slice.ensures) c.in-Ok-Err.is c.in-Ok-Err.field-0-is c.start.ensures.starts c.start.ensures.gives)

pub returns-clause-causes : goal.returns-clause-causes
returns-clause-causes c =
    cause_more c.in-Err-start.memory
    (λ full.
    lacks_so c.args.self.now c.args.time c.args.order c.saturating_sub-ms.result c.saturating_sub-ms.ensures
    (asking_lacks c.args.self.now.world c.tick.new.world c.args.self.now.members c.saturating_sub-ms.result c.args.order c.in-Ok.ensures.does
    (subst (λ n. LacksRoom c.tick.new.world (λ _. asks n c.args.order ∷ [])) (c.asker.ensures ∙ ap asker c.as_slice.ensures) (ask_lacks c.tick.new.world c.asker.result c.args.order c.requires.keyed full))))
    (cause_as c.start.result c.in-Err-start.memory c.in-Err-start.is c.start.ensures.causes)

pub returns-in-Err-clause-causes : goal.returns-in-Err-clause-causes
returns-in-Err-clause-causes c =
    cause_more c.in-Err.memory
    (λ full.
    lacks_so c.args.self.now c.args.time c.args.order c.saturating_sub-ms.result c.saturating_sub-ms.ensures
    (ticking_lacks c.args.self.now.world c.args.self.now.members c.saturating_sub-ms.result c.args.order full))
    c.in-Err.ensures.causes
