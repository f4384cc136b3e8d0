use Rattle.std.proofs.Common.{◌≡◌, refl, sym, ap, [], ◌∷◌, ◌++◌}
use Rattle.world_core.specs.Stands.{nothing_given}
use Rattle.store_model.specs.declared.event.Event.{Event}
use Rattle.store_model.specs.declared.event.Event.TheVariants.{Bucket, Deliver, Drain}
use Rattle.k2v_model.specs.Run.{silent, delivers, drains}
use Rattle.k2v_model.specs.Acts.{drain}
use Rattle.k2v_text.specs.Events.{common_act}
use Rattle.k2v_text.specs.declared.event.ItemEvent.TheVariants.{Common}
use Rattle.k2v_world.proofs.Played.{event_plays, event_overflows, apply_plays, apply_overflows, either, nothing_plays}
use Rattle.k2v_world.proofs.world.ItemWorld.common.Goals as goal

pub returns-in-Bucket-clause-plays : goal.returns-in-Bucket-clause-plays
returns-in-Bucket-clause-plays c =
    rw c.in-Bucket.is (
    event_plays c.args.self.now c.add_bucket.new.self (Common (Bucket c.in-Bucket.name)) (λ s. silent (record s { buckets = s.buckets ++ c.in-Bucket.name ∷ [] })) (λ s. tt) (λ s. refl)
    c.add_bucket.result c.add_bucket.ensures.plays)

pub returns-in-Apply-clause-plays : goal.returns-in-Apply-clause-plays
returns-in-Apply-clause-plays c =
    rw c.in-Apply.is (apply_plays c.args.self.now c.plain-in-Apply.new.self c.in-Apply.node c.plain-in-Apply.result c.plain-in-Apply.ensures.plays)

pub returns-in-Apply-clause-causes : goal.returns-in-Apply-clause-causes
returns-in-Apply-clause-causes c =
    rw c.in-Apply.is (apply_overflows c.args.self.now c.plain-in-Apply.new.self c.in-Apply.node c.plain-in-Apply.result c.plain-in-Apply.ensures.causes)

pub returns-in-Deliver-clause-plays : goal.returns-in-Deliver-clause-plays
returns-in-Deliver-clause-plays c =
    rw c.in-Deliver.is (
    event_plays c.args.self.now c.delivers.new.self (Common (Deliver c.in-Deliver.message)) (λ s. delivers s c.in-Deliver.message) (λ s. tt) (λ s. refl) c.delivers.result c.delivers.ensures.plays)

pub returns-in-Deliver-clause-causes : goal.returns-in-Deliver-clause-causes
returns-in-Deliver-clause-causes c =
    rw c.in-Deliver.is (
    event_overflows c.args.self.now c.delivers.new.self (Common (Deliver c.in-Deliver.message)) (λ s. delivers s c.in-Deliver.message) (λ s. tt) (λ s. refl) c.delivers.result c.delivers.ensures.causes)

pub returns-in-Drain-clause-plays : goal.returns-in-Drain-clause-plays
returns-in-Drain-clause-plays c =
    rw c.in-Drain.is (
    event_plays c.args.self.now c.drains.new.self (Common (Drain c.in-Drain.count)) (λ s. drains c.from.result s) (λ s. tt) (λ s. ap (λ n. drains n s) (sym c.from.ensures)) c.drains.result c.drains.ensures.plays)

pub returns-in-Drain-clause-causes : goal.returns-in-Drain-clause-causes
returns-in-Drain-clause-causes c =
    rw c.in-Drain.is (
    event_overflows c.args.self.now c.drains.new.self (Common (Drain c.in-Drain.count)) (λ s. drains c.from.result s) (λ s. tt) (λ s. ap (λ n. drains n s) (sym c.from.ensures)) c.drains.result c.drains.ensures.causes)

pub returns-in-Block-clause-plays : goal.returns-in-Block-clause-plays
returns-in-Block-clause-plays c =
    let act = λ (v : Event). common_act v nothing_given in
    let nothing : common_act c.args.event.now nothing_given ≡ drain 0 =
    either c.in-Block.is (λ h. ap act h.1)
    (λ h. either h (λ h. ap act h.5)
    (λ h. either h (λ h. ap act h.3)
    (λ h. either h (λ h. ap act h.3)
    (λ h. either h (λ h. ap act h.3)
    (λ h. either h (λ h. ap act h.5) (λ h. ap act h.3))))))
    in nothing_plays c.args.self.now c.args.event.now c.quiet.result nothing c.quiet.ensures
