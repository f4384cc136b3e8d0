use Rattle.std.proofs.Common.{subst, sym}
use Rattle.store_model.specs.Acts.{HasKey}
use Rattle.serve_cluster.proofs.Acting.{cause_more}
use Rattle.serve_cluster.proofs.Uploading.{asking_lacks, refused_begins, begun_store, begins, begins_full}
use Rattle.serve_cluster.proofs.cluster.ClusterStorage.receive.Goals as goal

pub ask-requires-clause-keyed : goal.ask-requires-clause-keyed
ask-requires-clause-keyed c = subst HasKey (sym c.order_of.ensures) c.requires.keyed

pub drain_all-requires : goal.drain_all-requires
drain_all-requires c = begun_store c.args.self.now c.ask.new.self c.args.time c.args.upload c.order_of.result c.order_of.ensures c.in-Ok.number c.in-Ok.ensures.asks c.in-Some.request c.in-Some.is c.requires.state

pub returns-in-Ok-drain_all-clause-takes : goal.returns-in-Ok-drain_all-clause-takes
returns-in-Ok-drain_all-clause-takes c =
    begins c.args.self.now c.ask.new.self c.args.time c.args.upload c.order_of.result c.order_of.ensures c.in-Ok.number c.in-Ok.ensures.asks c.in-Some.request c.in-Some.is c.drain_all.new.world c.need.result c.in-Ok-drain_all.ensures.keeps c.need.ensures

pub returns-in-Err-drain_all-clause-causes : goal.returns-in-Err-drain_all-clause-causes
returns-in-Err-drain_all-clause-causes c =
    cause_more c.in-Err-drain_all.memory (begins_full c.args.self.now c.ask.new.self c.args.time c.args.upload c.order_of.result c.order_of.ensures c.in-Ok.number c.in-Ok.ensures.asks c.in-Some.request c.in-Some.is) c.in-Err-drain_all.ensures.causes

pub returns-in-None-clause-takes : goal.returns-in-None-clause-takes
returns-in-None-clause-takes c = refused_begins c.args.self.now c.ask.new.self c.args.time c.args.upload c.order_of.result c.order_of.ensures c.in-Ok.number c.in-Ok.ensures.asks c.in-None.is

pub returns-in-Err-clause-causes : goal.returns-in-Err-clause-causes
returns-in-Err-clause-causes c = cause_more c.in-Err.memory (asking_lacks c.args.self.now c.ask.new.self c.args.time c.args.upload c.order_of.result c.order_of.ensures) c.in-Err.ensures.causes
