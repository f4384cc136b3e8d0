use Rattle.std.specs.Prelude.{OnOk}
use Rattle.std.proofs.Common.{refl, subst}
use Rattle.crdt_core.specs.Outcomes.{WantOr}
use Rattle.node_parts.specs.Collects.{AboutAt, CannotAboutAt}
use Rattle.node_parts.proofs.Posting.{posts_none}
use Rattle.node_parts.proofs.collector.Collector.about_key.Goals as goal

pub returns-in-Some-clause-about : goal.returns-in-Some-clause-about
returns-in-Some-clause-about g c =
    subst (λ o. OnOk c.about.result (AboutAt g.S.Row.Crdt.join g.S.Schema.words c.args.self o c.args.gc.now c.about.new.gc c.args.out.now.items c.about.new.out.items)) c.in-Some.ensures c.about.ensures.about

pub returns-in-Some-clause-causes : goal.returns-in-Some-clause-causes
returns-in-Some-clause-causes g c = subst (λ o. WantOr c.about.result (CannotAboutAt g.S.Row.Crdt.join g.S.Schema.words c.args.self o c.args.gc.now)) c.in-Some.ensures c.about.ensures.causes

pub returns-in-None-clause-about : goal.returns-in-None-clause-about
returns-in-None-clause-about g c =
    subst (λ o. AboutAt g.S.Row.Crdt.join g.S.Schema.words c.args.self o c.args.gc.now c.args.gc.now c.args.out.now.items c.args.out.now.items) c.in-None.ensures
    (record { gc_is = refl; posts = posts_none c.args.self.node c.args.out.now.items })
