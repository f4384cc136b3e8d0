use Rattle.std.proofs.Common.{refl, sym, ap, subst, None, [], ◌∷◌, ◌++◌}
use Rattle.store_model.specs.declared.event.Event.{Event}
use Rattle.world_core.specs.Stands.{nothing_given}
use Rattle.s3_world.specs.Stands.{KeepsIn}
use Rattle.cluster_machine.specs.declared.step.Step.TheVariants as step
use Rattle.flow_model.specs.declared.order.Order.TheVariants as order
use Rattle.store_model.specs.declared.event.Event.TheVariants.{Bucket, Put, Get, Head, Delete, Copy, List as Keys, Deliver, Drain, Ack, Sync, SyncAck, Clean, Work, Repair, Collect}
use Rattle.store_model.specs.Run.{silent, delivers, drains}
use Rattle.store_model.specs.Events.{object_bytes}
use Rattle.s3_world.proofs.Played.{plain_keeps, event_plays, event_overflows, order_plays, order_overflows, apply_plays, apply_overflows}
use Rattle.s3_world.proofs.world.S3World.happens.Goals as goal

pub returns-in-Block-clause-keeps : goal.returns-in-Block-clause-keeps
returns-in-Block-clause-keeps c =
    let P : Event → Type 0 = λ e. KeepsIn c.args.self.now c.cut.new.self c.cut.result e in
    subst P (sym c.in-Block.is) (λ given s d. record { choice = nothing_given; lawful = tt; does = c.cut.ensures given s d })

pub returns-in-Bucket-clause-keeps : goal.returns-in-Bucket-clause-keeps
returns-in-Bucket-clause-keeps c =
    rw c.in-Bucket.is (
    event_plays c.args.self.now c.add_bucket.new.self (Bucket c.in-Bucket.name) (λ s. silent (record s { buckets = s.buckets ++ c.in-Bucket.name ∷ [] })) (λ s. tt) (λ s. refl)
    c.add_bucket.result c.add_bucket.ensures.keeps)

pub returns-in-Apply-clause-keeps : goal.returns-in-Apply-clause-keeps
returns-in-Apply-clause-keeps c =
    rw c.in-Apply.is (apply_plays c.args.self.now c.plain-in-Apply.new.self c.in-Apply.node c.plain-in-Apply.result c.plain-in-Apply.ensures.keeps)

pub returns-in-Apply-clause-causes : goal.returns-in-Apply-clause-causes
returns-in-Apply-clause-causes c =
    rw c.in-Apply.is (apply_overflows c.args.self.now c.plain-in-Apply.new.self c.in-Apply.node c.plain-in-Apply.result c.plain-in-Apply.ensures.causes)

pub returns-in-Deliver-clause-keeps : goal.returns-in-Deliver-clause-keeps
returns-in-Deliver-clause-keeps c =
    rw c.in-Deliver.is (event_plays c.args.self.now c.delivers.new.self (Deliver c.in-Deliver.message) (λ s. delivers s c.in-Deliver.message) (λ s. tt) (λ s. refl) c.delivers.result c.delivers.ensures.keeps)

pub returns-in-Deliver-clause-causes : goal.returns-in-Deliver-clause-causes
returns-in-Deliver-clause-causes c =
    rw c.in-Deliver.is (event_overflows c.args.self.now c.delivers.new.self (Deliver c.in-Deliver.message) (λ s. delivers s c.in-Deliver.message) (λ s. tt) (λ s. refl) c.delivers.result c.delivers.ensures.causes)

pub returns-in-Drain-clause-keeps : goal.returns-in-Drain-clause-keeps
returns-in-Drain-clause-keeps c =
    rw c.in-Drain.is (event_plays c.args.self.now c.drains.new.self (Drain c.in-Drain.count) (λ s. drains c.from.result s) (λ s. tt) (λ s. ap (λ n. drains n s) (sym c.from.ensures)) c.drains.result c.drains.ensures.keeps)

pub returns-in-Drain-clause-causes : goal.returns-in-Drain-clause-causes
returns-in-Drain-clause-causes c =
    rw c.in-Drain.is (event_overflows c.args.self.now c.drains.new.self (Drain c.in-Drain.count) (λ s. drains c.from.result s) (λ s. tt) (λ s. ap (λ n. drains n s) (sym c.from.ensures)) c.drains.result c.drains.ensures.causes)

pub returns-in_ok-order-in-Put-clause-keeps : goal.returns-in_ok-order-in-Put-clause-keeps
returns-in_ok-order-in-Put-clause-keeps c =
    rw c.in-Put.is (
    order_plays c.args.self.now c.begins.new.self (Put c.in-Put.node c.in-Put.bucket c.in-Put.key c.in-Put.size c.in-Put.fill) c.in-Put.node c.in_ok-order-in-Put.order (order.Put c.in-Put.bucket c.in-Put.key (object_bytes c.in-Put.size c.in-Put.fill) []) c.in_ok-order-in-Put.ensures.is refl (rw c.in-Put.is at c.requires.meant)
    c.begins.result c.begins.ensures.keeps)

pub returns-in_ok-order-in-Put-clause-causes : goal.returns-in_ok-order-in-Put-clause-causes
returns-in_ok-order-in-Put-clause-causes c =
    rw c.in-Put.is (
    order_overflows c.args.self.now c.begins.new.self (Put c.in-Put.node c.in-Put.bucket c.in-Put.key c.in-Put.size c.in-Put.fill) c.in-Put.node c.in_ok-order-in-Put.order (order.Put c.in-Put.bucket c.in-Put.key (object_bytes c.in-Put.size c.in-Put.fill) []) c.in_ok-order-in-Put.ensures.is refl (rw c.in-Put.is at c.requires.meant)
    c.begins.result c.begins.ensures.causes)

pub returns-in_ok-order-in-Get-clause-keeps : goal.returns-in_ok-order-in-Get-clause-keeps
returns-in_ok-order-in-Get-clause-keeps c =
    rw c.in-Get.is (
    order_plays c.args.self.now c.begins-in-Get.new.self (Get c.in-Get.node c.in-Get.bucket c.in-Get.key) c.in-Get.node c.in_ok-order-in-Get.order (order.Get c.in-Get.bucket c.in-Get.key) c.in_ok-order-in-Get.ensures.is refl tt
    c.begins-in-Get.result c.begins-in-Get.ensures.keeps)

pub returns-in_ok-order-in-Get-clause-causes : goal.returns-in_ok-order-in-Get-clause-causes
returns-in_ok-order-in-Get-clause-causes c =
    rw c.in-Get.is (
    order_overflows c.args.self.now c.begins-in-Get.new.self (Get c.in-Get.node c.in-Get.bucket c.in-Get.key) c.in-Get.node c.in_ok-order-in-Get.order (order.Get c.in-Get.bucket c.in-Get.key) c.in_ok-order-in-Get.ensures.is refl tt
    c.begins-in-Get.result c.begins-in-Get.ensures.causes)

pub returns-in_ok-order-in-Head-clause-keeps : goal.returns-in_ok-order-in-Head-clause-keeps
returns-in_ok-order-in-Head-clause-keeps c =
    rw c.in-Head.is (
    order_plays c.args.self.now c.begins-in-Head.new.self (Head c.in-Head.node c.in-Head.bucket c.in-Head.key) c.in-Head.node c.in_ok-order-in-Head.order (order.Head c.in-Head.bucket c.in-Head.key) c.in_ok-order-in-Head.ensures.is refl tt
    c.begins-in-Head.result c.begins-in-Head.ensures.keeps)

pub returns-in_ok-order-in-Head-clause-causes : goal.returns-in_ok-order-in-Head-clause-causes
returns-in_ok-order-in-Head-clause-causes c =
    rw c.in-Head.is (
    order_overflows c.args.self.now c.begins-in-Head.new.self (Head c.in-Head.node c.in-Head.bucket c.in-Head.key) c.in-Head.node c.in_ok-order-in-Head.order (order.Head c.in-Head.bucket c.in-Head.key) c.in_ok-order-in-Head.ensures.is refl tt
    c.begins-in-Head.result c.begins-in-Head.ensures.causes)

pub returns-in_ok-order-in-Delete-clause-keeps : goal.returns-in_ok-order-in-Delete-clause-keeps
returns-in_ok-order-in-Delete-clause-keeps c =
    rw c.in-Delete.is (
    order_plays c.args.self.now c.begins-in-Delete.new.self (Delete c.in-Delete.node c.in-Delete.bucket c.in-Delete.key) c.in-Delete.node c.in_ok-order-in-Delete.order (order.Delete c.in-Delete.bucket c.in-Delete.key) c.in_ok-order-in-Delete.ensures.is refl (rw c.in-Delete.is at c.requires.meant)
    c.begins-in-Delete.result c.begins-in-Delete.ensures.keeps)

pub returns-in_ok-order-in-Delete-clause-causes : goal.returns-in_ok-order-in-Delete-clause-causes
returns-in_ok-order-in-Delete-clause-causes c =
    rw c.in-Delete.is (
    order_overflows c.args.self.now c.begins-in-Delete.new.self (Delete c.in-Delete.node c.in-Delete.bucket c.in-Delete.key) c.in-Delete.node c.in_ok-order-in-Delete.order (order.Delete c.in-Delete.bucket c.in-Delete.key) c.in_ok-order-in-Delete.ensures.is refl (rw c.in-Delete.is at c.requires.meant)
    c.begins-in-Delete.result c.begins-in-Delete.ensures.causes)

pub returns-in_ok-order-in-Copy-clause-keeps : goal.returns-in_ok-order-in-Copy-clause-keeps
returns-in_ok-order-in-Copy-clause-keeps c =
    rw c.in-Copy.is (
    order_plays c.args.self.now c.begins-in-Copy.new.self (Copy c.in-Copy.node c.in-Copy.from_bucket c.in-Copy.from_key c.in-Copy.bucket c.in-Copy.key) c.in-Copy.node c.in_ok-order-in-Copy.order (order.Copy c.in-Copy.from_bucket c.in-Copy.from_key c.in-Copy.bucket c.in-Copy.key None) c.in_ok-order-in-Copy.ensures.is refl (rw c.in-Copy.is at c.requires.meant)
    c.begins-in-Copy.result c.begins-in-Copy.ensures.keeps)

pub returns-in_ok-order-in-Copy-clause-causes : goal.returns-in_ok-order-in-Copy-clause-causes
returns-in_ok-order-in-Copy-clause-causes c =
    rw c.in-Copy.is (
    order_overflows c.args.self.now c.begins-in-Copy.new.self (Copy c.in-Copy.node c.in-Copy.from_bucket c.in-Copy.from_key c.in-Copy.bucket c.in-Copy.key) c.in-Copy.node c.in_ok-order-in-Copy.order (order.Copy c.in-Copy.from_bucket c.in-Copy.from_key c.in-Copy.bucket c.in-Copy.key None) c.in_ok-order-in-Copy.ensures.is refl (rw c.in-Copy.is at c.requires.meant)
    c.begins-in-Copy.result c.begins-in-Copy.ensures.causes)

pub returns-in_ok-order-in-List-clause-keeps : goal.returns-in_ok-order-in-List-clause-keeps
returns-in_ok-order-in-List-clause-keeps c =
    rw c.in-List.is (
    order_plays c.args.self.now c.begins-in-List.new.self (Keys c.in-List.node c.in-List.bucket c.in-List.prefix) c.in-List.node c.in_ok-order-in-List.order (order.List c.in-List.bucket c.in-List.prefix) c.in_ok-order-in-List.ensures.is refl tt
    c.begins-in-List.result c.begins-in-List.ensures.keeps)

pub returns-in_ok-order-in-List-clause-causes : goal.returns-in_ok-order-in-List-clause-causes
returns-in_ok-order-in-List-clause-causes c =
    rw c.in-List.is (
    order_overflows c.args.self.now c.begins-in-List.new.self (Keys c.in-List.node c.in-List.bucket c.in-List.prefix) c.in-List.node c.in_ok-order-in-List.order (order.List c.in-List.bucket c.in-List.prefix) c.in_ok-order-in-List.ensures.is refl tt
    c.begins-in-List.result c.begins-in-List.ensures.causes)

pub returns-in-Ack-clause-keeps : goal.returns-in-Ack-clause-keeps
returns-in-Ack-clause-keeps c =
    rw c.in-Ack.is (plain_keeps c.args.self.now c.plain-in-Ack.new.self (Ack c.in-Ack.node) (step.Ack c.in-Ack.node) (λ choice. refl) (λ w choice. refl) (λ s. (tt, tt, tt)) c.plain-in-Ack.result c.plain-in-Ack.ensures.keeps)

pub returns-in-Sync-clause-keeps : goal.returns-in-Sync-clause-keeps
returns-in-Sync-clause-keeps c =
    rw c.in-Sync.is (plain_keeps c.args.self.now c.plain-in-Sync.new.self (Sync c.in-Sync.node) (step.Sync c.in-Sync.node) (λ choice. refl) (λ w choice. refl) (λ s. (tt, tt, tt)) c.plain-in-Sync.result c.plain-in-Sync.ensures.keeps)

pub returns-in-SyncAck-clause-keeps : goal.returns-in-SyncAck-clause-keeps
returns-in-SyncAck-clause-keeps c =
    rw c.in-SyncAck.is (plain_keeps c.args.self.now c.plain-in-SyncAck.new.self (SyncAck c.in-SyncAck.node) (step.SyncAck c.in-SyncAck.node) (λ choice. refl) (λ w choice. refl) (λ s. (tt, tt, tt)) c.plain-in-SyncAck.result c.plain-in-SyncAck.ensures.keeps)

pub returns-in-Clean-clause-keeps : goal.returns-in-Clean-clause-keeps
returns-in-Clean-clause-keeps c =
    rw c.in-Clean.is (plain_keeps c.args.self.now c.plain-in-Clean.new.self (Clean c.in-Clean.node) (step.Clean c.in-Clean.node) (λ choice. refl) (λ w choice. refl) (λ s. (tt, tt, tt)) c.plain-in-Clean.result c.plain-in-Clean.ensures.keeps)

pub returns-in-Work-clause-keeps : goal.returns-in-Work-clause-keeps
returns-in-Work-clause-keeps c =
    rw c.in-Work.is (plain_keeps c.args.self.now c.plain-in-Work.new.self (Work c.in-Work.node) (step.Work c.in-Work.node) (λ choice. refl) (λ w choice. refl) (λ s. (tt, tt, tt)) c.plain-in-Work.result c.plain-in-Work.ensures.keeps)

pub returns-in-Repair-clause-keeps : goal.returns-in-Repair-clause-keeps
returns-in-Repair-clause-keeps c =
    rw c.in-Repair.is (plain_keeps c.args.self.now c.plain-in-Repair.new.self (Repair c.in-Repair.node) (step.Repair c.in-Repair.node) (λ choice. refl) (λ w choice. refl) (λ s. (tt, tt, tt)) c.plain-in-Repair.result c.plain-in-Repair.ensures.keeps)

pub returns-in-Collect-clause-keeps : goal.returns-in-Collect-clause-keeps
returns-in-Collect-clause-keeps c =
    rw c.in-Collect.is (plain_keeps c.args.self.now c.plain-in-Collect.new.self (Collect c.in-Collect.node) (step.Collect c.in-Collect.node) (λ choice. refl) (λ w choice. refl) (λ s. (tt, tt, tt)) c.plain-in-Collect.result c.plain-in-Collect.ensures.keeps)
