use Rattle.std.proofs.Common.{[], ◌∷◌, sym, subst}
use Rattle.cluster_machine.specs.declared.step.Action.{Action}
use Rattle.store_model.specs.Run.{plainly}
use Rattle.store_model.specs.Acts.{moves}
use Rattle.serve_cluster.specs.Acting.{DoesActs, LacksRoom}
use Rattle.change_deeds.specs.Deeds.{step_of}
use Rattle.serve_cluster.proofs.Events.{acked_so, synced_so, sync_acked_so, cleaned_so, worked_so, repaired_so, collected_so, ack_lacks, sync_lacks, sync_ack_lacks, clean_lacks, working_lacks, repairing_lacks, collecting_lacks}
use Rattle.serve_cluster.proofs.change.event_of.Goals as goal

pub returns-in-Ack-clause-does : goal.returns-in-Ack-clause-does
returns-in-Ack-clause-does c = λ old new told h. subst (λ (a : Action). DoesActs old new (moves (plainly (step_of a c.args.node)) ∷ [])) (sym c.in-Ack.is) (acked_so old new told c.args.node h)

pub returns-in-Ack-clause-causes : goal.returns-in-Ack-clause-causes
returns-in-Ack-clause-causes c = λ old h. subst (λ (a : Action). LacksRoom old (λ _. moves (plainly (step_of a c.args.node)) ∷ [])) (sym c.in-Ack.is) (ack_lacks old c.args.node h)

pub returns-in-Sync-clause-does : goal.returns-in-Sync-clause-does
returns-in-Sync-clause-does c = λ old new told h. subst (λ (a : Action). DoesActs old new (moves (plainly (step_of a c.args.node)) ∷ [])) (sym c.in-Sync.is) (synced_so old new told c.args.node h)

pub returns-in-Sync-clause-causes : goal.returns-in-Sync-clause-causes
returns-in-Sync-clause-causes c = λ old h. subst (λ (a : Action). LacksRoom old (λ _. moves (plainly (step_of a c.args.node)) ∷ [])) (sym c.in-Sync.is) (sync_lacks old c.args.node h)

pub returns-in-SyncAck-clause-does : goal.returns-in-SyncAck-clause-does
returns-in-SyncAck-clause-does c = λ old new told h. subst (λ (a : Action). DoesActs old new (moves (plainly (step_of a c.args.node)) ∷ [])) (sym c.in-SyncAck.is) (sync_acked_so old new told c.args.node h)

pub returns-in-SyncAck-clause-causes : goal.returns-in-SyncAck-clause-causes
returns-in-SyncAck-clause-causes c = λ old h. subst (λ (a : Action). LacksRoom old (λ _. moves (plainly (step_of a c.args.node)) ∷ [])) (sym c.in-SyncAck.is) (sync_ack_lacks old c.args.node h)

pub returns-in-Clean-clause-does : goal.returns-in-Clean-clause-does
returns-in-Clean-clause-does c = λ old new told h. subst (λ (a : Action). DoesActs old new (moves (plainly (step_of a c.args.node)) ∷ [])) (sym c.in-Clean.is) (cleaned_so old new told c.args.node h)

pub returns-in-Clean-clause-causes : goal.returns-in-Clean-clause-causes
returns-in-Clean-clause-causes c = λ old h. subst (λ (a : Action). LacksRoom old (λ _. moves (plainly (step_of a c.args.node)) ∷ [])) (sym c.in-Clean.is) (clean_lacks old c.args.node h)

pub returns-in-Work-clause-does : goal.returns-in-Work-clause-does
returns-in-Work-clause-does c = λ old new told h. subst (λ (a : Action). DoesActs old new (moves (plainly (step_of a c.args.node)) ∷ [])) (sym c.in-Work.is) (worked_so old new told c.args.node h)

pub returns-in-Work-clause-causes : goal.returns-in-Work-clause-causes
returns-in-Work-clause-causes c = λ old h. subst (λ (a : Action). LacksRoom old (λ _. moves (plainly (step_of a c.args.node)) ∷ [])) (sym c.in-Work.is) (working_lacks old c.args.node h)

pub returns-in-Repair-clause-does : goal.returns-in-Repair-clause-does
returns-in-Repair-clause-does c = λ old new told h. subst (λ (a : Action). DoesActs old new (moves (plainly (step_of a c.args.node)) ∷ [])) (sym c.in-Repair.is) (repaired_so old new told c.args.node h)

pub returns-in-Repair-clause-causes : goal.returns-in-Repair-clause-causes
returns-in-Repair-clause-causes c = λ old h. subst (λ (a : Action). LacksRoom old (λ _. moves (plainly (step_of a c.args.node)) ∷ [])) (sym c.in-Repair.is) (repairing_lacks old c.args.node h)

pub returns-in-Collect-clause-does : goal.returns-in-Collect-clause-does
returns-in-Collect-clause-does c = λ old new told h. subst (λ (a : Action). DoesActs old new (moves (plainly (step_of a c.args.node)) ∷ [])) (sym c.in-Collect.is) (collected_so old new told c.args.node h)

pub returns-in-Collect-clause-causes : goal.returns-in-Collect-clause-causes
returns-in-Collect-clause-causes c = λ old h. subst (λ (a : Action). LacksRoom old (λ _. moves (plainly (step_of a c.args.node)) ∷ [])) (sym c.in-Collect.is) (collecting_lacks old c.args.node h)
