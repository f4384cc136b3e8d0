use Rattle.std.proofs.Common.{length, Some, refl}
use Rattle.serve_cluster.proofs.Acting.{cause_more}
use Rattle.serve_cluster.proofs.Uploading.{opened_store, may_feed, fed, fed_full, none_taken}
use Rattle.serve_cluster.proofs.cluster.ClusterStorage.feed.Goals as goal

pub feed-requires-clause-stands : goal.feed-requires-clause-stands
feed-requires-clause-stands c = let on = c.requires.needed in opened_store c.args.self.now on.0 on.1 on.2 on.3 (Some (length c.args.bytes)) on.4 c.in-Some.request c.in-Some.is

pub feed-requires-clause-needed : goal.feed-requires-clause-needed
feed-requires-clause-needed c =
    let on = c.requires.needed in may_feed c.args.self.now on.0 on.1 on.2 on.3 (Some (length c.args.bytes)) on.4 c.in-Some.request c.in-Some.is c.args.bytes refl c.requires.some

pub returns-in-Ok-clause-takes : goal.returns-in-Ok-clause-takes
returns-in-Ok-clause-takes c = λ m time u came h.
    fed c.args.self.now m time u came (Some (length c.args.bytes)) h c.in-Some.request c.in-Some.is c.args.bytes refl c.requires.some c.feed.new.world c.need.result c.in-Ok.ensures.keeps c.need.ensures

pub returns-in-Err-clause-causes : goal.returns-in-Err-clause-causes
returns-in-Err-clause-causes c =
    cause_more c.in-Err.memory (λ full m time u came h. fed_full c.args.self.now m time u came (Some (length c.args.bytes)) h c.in-Some.request c.in-Some.is c.args.bytes refl c.requires.some full) c.in-Err.ensures.causes

pub returns-in-None-clause-takes : goal.returns-in-None-clause-takes
returns-in-None-clause-takes c = λ m time u came h. none_taken c.args.self.now m time u came (length c.args.bytes) c.in-None.is h
