use Rattle.std.proofs.Common.{◌≡◌, Result, Ok, Err, OnOk, OnErr, sym, subst}
use Rattle.layout_trackers.specs.declared.which.Which.TheVariants.{Ack, Sync, SyncAck}
use Rattle.layout_trackers.specs.Trackers.{Tracker, tracker_join, one}
use Rattle.layout_trackers.specs.Entries.{Grows}
use Rattle.layout_trackers.proofs.EntriesGrow.{raises_grow, never_falls}
use Rattle.layout_trackers.proofs.trackers.Trackers.set_own.Goals as goal

-- what holds of the joined tracker and of the old one holds of the new one
either : {A E : Type 0} (r : Result A E) (P : Tracker → Type 0) (old joined new : Tracker) → OnOk r (new ≡ joined) → OnErr r (new ≡ old) → P joined → P old → P new
either (Ok x) P old joined new ok err at_joined at_old = subst P (sym ok) at_joined
either (Err e) P old joined new ok err at_joined at_old = subst P (sym err) at_old

pub returns-in-Ack-clause-never_lowers : goal.returns-in-Ack-clause-never_lowers
returns-in-Ack-clause-never_lowers c =
    let t = c.args.self.now in
    either c.join_at.result (λ x. Grows t (record t { ack = x })) t.ack (tracker_join t.ack (one c.args.node c.args.v)) c.join_at.new.self
    c.join_at.ensures.joined c.join_at.ensures.unchanged (raises_grow Ack c.args.node c.args.v t) (never_falls t)

pub returns-in-Sync-clause-never_lowers : goal.returns-in-Sync-clause-never_lowers
returns-in-Sync-clause-never_lowers c =
    let t = c.args.self.now in
    let call = c.join_at-in-Sync in
    either call.result (λ x. Grows t (record t { sync = x })) t.sync (tracker_join t.sync (one c.args.node c.args.v)) call.new.self
    call.ensures.joined call.ensures.unchanged (raises_grow Sync c.args.node c.args.v t) (never_falls t)

pub returns-in-SyncAck-clause-never_lowers : goal.returns-in-SyncAck-clause-never_lowers
returns-in-SyncAck-clause-never_lowers c =
    let t = c.args.self.now in
    let call = c.join_at-in-SyncAck in
    either call.result (λ x. Grows t (record t { sync_ack = x })) t.sync_ack (tracker_join t.sync_ack (one c.args.node c.args.v)) call.new.self
    call.ensures.joined call.ensures.unchanged (raises_grow SyncAck c.args.node c.args.v t) (never_falls t)
