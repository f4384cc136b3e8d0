use Rattle.cluster_machine.specs.declared.step.Step.TheVariants as step
use Rattle.world_core.proofs.WorldsStep.{played, exceeded, exceeded_alone}
use Rattle.world_core.proofs.world.World.step.Goals as goal

pub returns-in-Trio-clause-steps : goal.returns-in-Trio-clause-steps
returns-in-Trio-clause-steps g c = played g.S.Row.Crdt.join g.S.Schema.words c.args.self.now step.Trio c.args.step c.in-Trio.is (λ w. tt) c.trio.new.self c.trio.result c.trio.ensures.plays

pub returns-in-Role-clause-steps : goal.returns-in-Role-clause-steps
returns-in-Role-clause-steps g c = played g.S.Row.Crdt.join g.S.Schema.words c.args.self.now (step.Role c.in-Role.node c.in-Role.role) c.args.step c.in-Role.is (λ w. tt) c.stage.new.self c.stage.result c.stage.ensures.plays

pub returns-in-Redundancy-clause-steps : goal.returns-in-Redundancy-clause-steps
returns-in-Redundancy-clause-steps g c = played g.S.Row.Crdt.join g.S.Schema.words c.args.self.now (step.Redundancy c.in-Redundancy.wanted) c.args.step c.in-Redundancy.is (λ w. tt) c.spread.new.self c.spread.result c.spread.ensures.plays

pub returns-in-Tick-clause-steps : goal.returns-in-Tick-clause-steps
returns-in-Tick-clause-steps g c = played g.S.Row.Crdt.join g.S.Schema.words c.args.self.now (step.Tick c.in-Tick.ms) c.args.step c.in-Tick.is (λ w. tt) c.tick.new.self c.tick.result c.tick.ensures.plays

pub returns-in-Tick-clause-causes : goal.returns-in-Tick-clause-causes
returns-in-Tick-clause-causes g c = exceeded_alone g.S.Row.Crdt.join g.S.Schema.words c.args.self.now (step.Tick c.in-Tick.ms) c.args.step c.in-Tick.is (λ w. tt) c.tick.result c.tick.ensures.causes

pub returns-in-Skew-clause-steps : goal.returns-in-Skew-clause-steps
returns-in-Skew-clause-steps g c = played g.S.Row.Crdt.join g.S.Schema.words c.args.self.now (step.Skew c.in-Skew.node c.in-Skew.ms) c.args.step c.in-Skew.is (λ w. tt) c.skew.new.self c.skew.result c.skew.ensures.plays

pub returns-in-Skew-clause-causes : goal.returns-in-Skew-clause-causes
returns-in-Skew-clause-causes g c = exceeded_alone g.S.Row.Crdt.join g.S.Schema.words c.args.self.now (step.Skew c.in-Skew.node c.in-Skew.ms) c.args.step c.in-Skew.is (λ w. tt) c.skew.result c.skew.ensures.causes

pub returns-in-Deliver-clause-steps : goal.returns-in-Deliver-clause-steps
returns-in-Deliver-clause-steps g c = played g.S.Row.Crdt.join g.S.Schema.words c.args.self.now (step.Deliver c.in-Deliver.message) c.args.step c.in-Deliver.is (λ w. tt) c.deliver.new.self c.deliver.result c.deliver.ensures.plays

pub returns-in-Deliver-clause-causes : goal.returns-in-Deliver-clause-causes
returns-in-Deliver-clause-causes g c = exceeded g.S.Row.Crdt.join g.S.Schema.words c.args.self.now (step.Deliver c.in-Deliver.message) c.args.step c.in-Deliver.is (λ w. tt) c.deliver.result c.deliver.ensures.causes

pub returns-in-Lose-clause-steps : goal.returns-in-Lose-clause-steps
returns-in-Lose-clause-steps g c = played g.S.Row.Crdt.join g.S.Schema.words c.args.self.now (step.Lose c.in-Lose.message) c.args.step c.in-Lose.is (λ w. tt) c.lose.new.self c.lose.result c.lose.ensures.plays

pub returns-in-Expire-clause-steps : goal.returns-in-Expire-clause-steps
returns-in-Expire-clause-steps g c = played g.S.Row.Crdt.join g.S.Schema.words c.args.self.now (step.Expire c.in-Expire.request) c.args.step c.in-Expire.is (λ w. tt) c.expire.new.self c.expire.result c.expire.ensures.plays

pub returns-in-Restart-clause-steps : goal.returns-in-Restart-clause-steps
returns-in-Restart-clause-steps g c = played g.S.Row.Crdt.join g.S.Schema.words c.args.self.now (step.Restart c.in-Restart.node) c.args.step c.in-Restart.is (λ w. tt) c.restart.new.self c.restart.result c.restart.ensures.plays

pub returns-in-Gossip-clause-steps : goal.returns-in-Gossip-clause-steps
returns-in-Gossip-clause-steps g c = played g.S.Row.Crdt.join g.S.Schema.words c.args.self.now (step.Gossip c.in-Gossip.from c.in-Gossip.to) c.args.step c.in-Gossip.is (λ w. tt) c.gossip.new.self c.gossip.result c.gossip.ensures.plays

pub returns-in-Gossip-clause-causes : goal.returns-in-Gossip-clause-causes
returns-in-Gossip-clause-causes g c = exceeded g.S.Row.Crdt.join g.S.Schema.words c.args.self.now (step.Gossip c.in-Gossip.from c.in-Gossip.to) c.args.step c.in-Gossip.is (λ w. tt) c.gossip.result c.gossip.ensures.causes

pub returns-in-Ack-clause-steps : goal.returns-in-Ack-clause-steps
returns-in-Ack-clause-steps g c = played g.S.Row.Crdt.join g.S.Schema.words c.args.self.now (step.Ack c.in-Ack.node) c.args.step c.in-Ack.is (λ w. tt) c.local.new.self c.local.result c.local.ensures.plays

pub returns-in-Ack-clause-causes : goal.returns-in-Ack-clause-causes
returns-in-Ack-clause-causes g c = exceeded g.S.Row.Crdt.join g.S.Schema.words c.args.self.now (step.Ack c.in-Ack.node) c.args.step c.in-Ack.is (λ w. tt) c.local.result c.local.ensures.causes

pub returns-in-Sync-clause-steps : goal.returns-in-Sync-clause-steps
returns-in-Sync-clause-steps g c = played g.S.Row.Crdt.join g.S.Schema.words c.args.self.now (step.Sync c.in-Sync.node) c.args.step c.in-Sync.is (λ w. tt) c.local-in-Sync.new.self c.local-in-Sync.result c.local-in-Sync.ensures.plays

pub returns-in-Sync-clause-causes : goal.returns-in-Sync-clause-causes
returns-in-Sync-clause-causes g c = exceeded g.S.Row.Crdt.join g.S.Schema.words c.args.self.now (step.Sync c.in-Sync.node) c.args.step c.in-Sync.is (λ w. tt) c.local-in-Sync.result c.local-in-Sync.ensures.causes

pub returns-in-SyncAck-clause-steps : goal.returns-in-SyncAck-clause-steps
returns-in-SyncAck-clause-steps g c = played g.S.Row.Crdt.join g.S.Schema.words c.args.self.now (step.SyncAck c.in-SyncAck.node) c.args.step c.in-SyncAck.is (λ w. tt) c.local-in-SyncAck.new.self c.local-in-SyncAck.result c.local-in-SyncAck.ensures.plays

pub returns-in-SyncAck-clause-causes : goal.returns-in-SyncAck-clause-causes
returns-in-SyncAck-clause-causes g c = exceeded g.S.Row.Crdt.join g.S.Schema.words c.args.self.now (step.SyncAck c.in-SyncAck.node) c.args.step c.in-SyncAck.is (λ w. tt) c.local-in-SyncAck.result c.local-in-SyncAck.ensures.causes

pub returns-in-Clean-clause-steps : goal.returns-in-Clean-clause-steps
returns-in-Clean-clause-steps g c = played g.S.Row.Crdt.join g.S.Schema.words c.args.self.now (step.Clean c.in-Clean.node) c.args.step c.in-Clean.is (λ w. tt) c.local-in-Clean.new.self c.local-in-Clean.result c.local-in-Clean.ensures.plays

pub returns-in-Clean-clause-causes : goal.returns-in-Clean-clause-causes
returns-in-Clean-clause-causes g c = exceeded g.S.Row.Crdt.join g.S.Schema.words c.args.self.now (step.Clean c.in-Clean.node) c.args.step c.in-Clean.is (λ w. tt) c.local-in-Clean.result c.local-in-Clean.ensures.causes

pub returns-in-Work-clause-steps : goal.returns-in-Work-clause-steps
returns-in-Work-clause-steps g c = played g.S.Row.Crdt.join g.S.Schema.words c.args.self.now (step.Work c.in-Work.node) c.args.step c.in-Work.is (λ w. tt) c.local-in-Work.new.self c.local-in-Work.result c.local-in-Work.ensures.plays

pub returns-in-Work-clause-causes : goal.returns-in-Work-clause-causes
returns-in-Work-clause-causes g c = exceeded g.S.Row.Crdt.join g.S.Schema.words c.args.self.now (step.Work c.in-Work.node) c.args.step c.in-Work.is (λ w. tt) c.local-in-Work.result c.local-in-Work.ensures.causes

pub returns-in-Repair-clause-steps : goal.returns-in-Repair-clause-steps
returns-in-Repair-clause-steps g c = played g.S.Row.Crdt.join g.S.Schema.words c.args.self.now (step.Repair c.in-Repair.node) c.args.step c.in-Repair.is (λ w. tt) c.repair.new.self c.repair.result c.repair.ensures.plays

pub returns-in-Repair-clause-causes : goal.returns-in-Repair-clause-causes
returns-in-Repair-clause-causes g c = exceeded g.S.Row.Crdt.join g.S.Schema.words c.args.self.now (step.Repair c.in-Repair.node) c.args.step c.in-Repair.is (λ w. tt) c.repair.result c.repair.ensures.causes

pub returns-in-Collect-clause-steps : goal.returns-in-Collect-clause-steps
returns-in-Collect-clause-steps g c = played g.S.Row.Crdt.join g.S.Schema.words c.args.self.now (step.Collect c.in-Collect.node) c.args.step c.in-Collect.is (λ w. tt) c.local-in-Collect.new.self c.local-in-Collect.result c.local-in-Collect.ensures.plays

pub returns-in-Collect-clause-causes : goal.returns-in-Collect-clause-causes
returns-in-Collect-clause-causes g c = exceeded g.S.Row.Crdt.join g.S.Schema.words c.args.self.now (step.Collect c.in-Collect.node) c.args.step c.in-Collect.is (λ w. tt) c.local-in-Collect.result c.local-in-Collect.ensures.causes

pub returns-in-Open-clause-steps : goal.returns-in-Open-clause-steps
returns-in-Open-clause-steps g c = played g.S.Row.Crdt.join g.S.Schema.words c.args.self.now (step.Open c.in-Open.node) c.args.step c.in-Open.is (λ w. tt) c.open.new.self c.open.result c.open.ensures.plays

pub returns-in-Phase-clause-steps : goal.returns-in-Phase-clause-steps
returns-in-Phase-clause-steps g c = played g.S.Row.Crdt.join g.S.Schema.words c.args.self.now (step.Phase c.in-Phase.request c.in-Phase.phase) c.args.step c.in-Phase.is (λ w. tt) c.phase.new.self c.phase.result c.phase.ensures.plays

pub returns-in-Phase-clause-causes : goal.returns-in-Phase-clause-causes
returns-in-Phase-clause-causes g c = exceeded g.S.Row.Crdt.join g.S.Schema.words c.args.self.now (step.Phase c.in-Phase.request c.in-Phase.phase) c.args.step c.in-Phase.is (λ w. tt) c.phase.result c.phase.ensures.causes

pub returns-in-Close-clause-steps : goal.returns-in-Close-clause-steps
returns-in-Close-clause-steps g c = played g.S.Row.Crdt.join g.S.Schema.words c.args.self.now (step.Close c.in-Close.request) c.args.step c.in-Close.is (λ w. tt) c.close.new.self c.close.result c.close.ensures.plays
