use Rattle.std.proofs.Common.{refl}
use Rattle.k2v_rows.specs.declared.value.K2vValue.TheVariants.{Deleted, Value}
use Rattle.k2v_model.specs.declared.order.Ask.TheVariants as ask
use Rattle.k2v_text.specs.declared.event.ItemEvent.TheVariants.{Put, Delete, Get}
use Rattle.store_model.specs.Events.{object_bytes}
use Rattle.k2v_world.proofs.Played.{order_plays, order_overflows}
use Rattle.k2v_world.proofs.world.ItemWorld.step.Goals as goal

pub returns-in_ok-order-in-Put-clause-plays : goal.returns-in_ok-order-in-Put-clause-plays
returns-in_ok-order-in-Put-clause-plays c =
    rw c.in-Put.is (
    order_plays c.args.self.now c.begins.new.self (Put c.in-Put.node c.in-Put.item c.in-Put.size c.in-Put.fill c.in-Put.token) c.in-Put.node c.in_ok-order-in-Put.order (record { item = c.in-Put.item; ask = ask.Write (Value (object_bytes c.in-Put.size c.in-Put.fill)) c.in-Put.token }) c.in_ok-order-in-Put.ensures.is refl
    c.begins.result c.begins.ensures.plays)

pub returns-in_ok-order-in-Put-clause-causes : goal.returns-in_ok-order-in-Put-clause-causes
returns-in_ok-order-in-Put-clause-causes c =
    rw c.in-Put.is (
    order_overflows c.args.self.now c.begins.new.self (Put c.in-Put.node c.in-Put.item c.in-Put.size c.in-Put.fill c.in-Put.token) c.in-Put.node c.in_ok-order-in-Put.order (record { item = c.in-Put.item; ask = ask.Write (Value (object_bytes c.in-Put.size c.in-Put.fill)) c.in-Put.token }) c.in_ok-order-in-Put.ensures.is refl
    c.begins.result c.begins.ensures.causes)

pub returns-in_ok-order-in-Delete-clause-plays : goal.returns-in_ok-order-in-Delete-clause-plays
returns-in_ok-order-in-Delete-clause-plays c =
    rw c.in-Delete.is (
    order_plays c.args.self.now c.begins-in-Delete.new.self (Delete c.in-Delete.node c.in-Delete.item c.in-Delete.token) c.in-Delete.node c.in_ok-order-in-Delete.order (record { item = c.in-Delete.item; ask = ask.Write Deleted c.in-Delete.token }) c.in_ok-order-in-Delete.ensures.is refl
    c.begins-in-Delete.result c.begins-in-Delete.ensures.plays)

pub returns-in_ok-order-in-Delete-clause-causes : goal.returns-in_ok-order-in-Delete-clause-causes
returns-in_ok-order-in-Delete-clause-causes c =
    rw c.in-Delete.is (
    order_overflows c.args.self.now c.begins-in-Delete.new.self (Delete c.in-Delete.node c.in-Delete.item c.in-Delete.token) c.in-Delete.node c.in_ok-order-in-Delete.order (record { item = c.in-Delete.item; ask = ask.Write Deleted c.in-Delete.token }) c.in_ok-order-in-Delete.ensures.is refl
    c.begins-in-Delete.result c.begins-in-Delete.ensures.causes)

pub returns-in_ok-order-in-Get-clause-plays : goal.returns-in_ok-order-in-Get-clause-plays
returns-in_ok-order-in-Get-clause-plays c =
    rw c.in-Get.is (
    order_plays c.args.self.now c.begins-in-Get.new.self (Get c.in-Get.node c.in-Get.item) c.in-Get.node c.in_ok-order-in-Get.order (record { item = c.in-Get.item; ask = ask.Read }) c.in_ok-order-in-Get.ensures.is refl
    c.begins-in-Get.result c.begins-in-Get.ensures.plays)

pub returns-in_ok-order-in-Get-clause-causes : goal.returns-in_ok-order-in-Get-clause-causes
returns-in_ok-order-in-Get-clause-causes c =
    rw c.in-Get.is (
    order_overflows c.args.self.now c.begins-in-Get.new.self (Get c.in-Get.node c.in-Get.item) c.in-Get.node c.in_ok-order-in-Get.order (record { item = c.in-Get.item; ask = ask.Read }) c.in_ok-order-in-Get.ensures.is refl
    c.begins-in-Get.result c.begins-in-Get.ensures.causes)
