-- Runs that differ in cuts alone have the same states, and go on together.
use Rattle.std.proofs.Common.{◌≡◌, ℕ, zero, suc, Bool, true, false, not, ◌&&◌, leb, cond, IsTrue, List, [], ◌∷◌, ◌++◌, Some, take, refl, ap, subst, ◌∙◌}
use Rattle.std.specs.List.{AllByRecursion}
use Rattle.crdt_rows.specs.declared.any_row.AnyRow.{AnyRow}
use Rattle.crdt_rows.specs.AnyRow.{any_join}
use Rattle.object_schema.specs.Schema.{words}
use Rattle.layout_roles.specs.declared.layout.Layout.{Layout}
use Rattle.cluster_machine.specs.declared.applied.Applied.{Applied}
use Rattle.cluster_machine.specs.declared.step.Step.TheVariants as step
use Rattle.cluster_machine.specs.Choices.{Decision}
use Rattle.cluster_machine.specs.Fits.{Fits}
use Rattle.cluster_machine.specs.Layouts.{layouts}
use Rattle.cluster_machine.specs.Step.{most_versions, given, none_given, applied}
use Rattle.cluster_machine.specs.World.{is_member_at, sent_bytes}
use Rattle.cluster_machine.specs.Worlds.{Done as Effect, newest_at, does}
use Rattle.store_model.specs.declared.event.Event.{Event}
use Rattle.store_model.specs.declared.event.Event.TheVariants.{Trio, Block, Bucket, Role, Redundancy, Apply, Tick, Skew, Put, Get, Head, Delete, Copy, List as Keys, Deliver, Lose, Drain, Expire, Restart, Gossip, Ack, Sync, SyncAck, Clean, Work, Repair, Collect}
use Rattle.store_model.specs.declared.event.Numbered.{Numbered}
use Rattle.store_model.specs.Run.{World, Moving, State}
use Rattle.store_model.specs.Events.{Turn, events_of, outcome, after, run}
use Rattle.text_model.specs.Played.{steps_of, GoesOn, AllGoOn}
use Rattle.audit_runs.specs.Alike.{DifferInCut, DifferInCuts}

module _ (w : World) (n : ℕ) (l : Layout) (a b : Applied) where
  -- an apply that is given this layout
  abbrev applies : Applied → Moving
  applies x = record { step = step.Apply n; choice = given l x }

  -- what is seen of an effect, but for what it tells
  abbrev seen : Effect AnyRow → World × Bool
  seen e = (applied w e, e.is_spelled)

  one_seen : (d : Bool) (e f g : Effect AnyRow) → seen f ≡ seen g → seen (cond d e f) ≡ seen (cond d e g)
  one_seen true e f g same = refl
  one_seen false e f g same = same

  same_seen : seen (does any_join words w (applies a)) ≡ seen (does any_join words w (applies b))
  same_seen =
      let next : ℕ = suc (newest_at w n) in
      one_seen (leb 1 w.applied && not (is_member_at layouts w n)) _ _ _
      (one_seen (leb next w.applied) _ _ _
      (one_seen (leb most_versions w.applied) _ _ _ refl))

-- an event with other cuts leads to the same state, and goes on with it
record IsAlike (s : State) (e : Event) (c d : Decision) : Type 0 where
  state : (outcome s e c).state ≡ (outcome s e d).state
  go_on : AllByRecursion GoesOn (steps_of s e c) → AllByRecursion GoesOn (steps_of s e d)

apply_alike : (s : State) (n : ℕ) (c d : Decision) → DifferInCut c d → IsAlike s (Apply n) c d
apply_alike s n (given l a) (given m b) differ =
    subst (λ k. IsAlike s (Apply n) (given l a) (given k b)) differ.0
    (record {
      state = ap (λ (x : World × Bool). record s { world = x.0; history = s.history ++ [] }) (same_seen s.world n l a b);
      go_on = λ h. (
        record {
          fits = (subst (λ (x : World × Bool). Fits words x.0 × IsTrue x.1) (same_seen s.world n l a b) h.0.fits.0, tt);
          bytes = h.0.bytes;
          sent = subst (λ (x : World × Bool). sent_bytes words x.0.messages ≡ Some h.0.bytes) (same_seen s.world n l a b) h.0.sent;
          within = h.0.within;
        },
        tt,
      );
    })
apply_alike s n (given l a) (none_given q) differ = absurd differ
apply_alike s n (none_given r) (given m b) differ = absurd differ
apply_alike s n (none_given r) (none_given q) differ = subst (λ k. IsAlike s (Apply n) (none_given r) (none_given k)) differ (record { state = refl; go_on = λ h. h })

event_alike : (s : State) (e : Event) (c d : Decision) → DifferInCut c d → IsAlike s e c d
event_alike s (Apply n) c d differ = apply_alike s n c d differ
event_alike s Trio c d differ = record { state = refl; go_on = λ h. h }
event_alike s (Block size) c d differ = record { state = refl; go_on = λ h. h }
event_alike s (Bucket name) c d differ = record { state = refl; go_on = λ h. h }
event_alike s (Role n role) c d differ = record { state = refl; go_on = λ h. h }
event_alike s (Redundancy wanted) c d differ = record { state = refl; go_on = λ h. h }
event_alike s (Tick ms) c d differ = record { state = refl; go_on = λ h. h }
event_alike s (Skew n ms) c d differ = record { state = refl; go_on = λ h. h }
event_alike s (Put n bucket key size fill) c d differ = record { state = refl; go_on = λ h. h }
event_alike s (Get n bucket key) c d differ = record { state = refl; go_on = λ h. h }
event_alike s (Head n bucket key) c d differ = record { state = refl; go_on = λ h. h }
event_alike s (Delete n bucket key) c d differ = record { state = refl; go_on = λ h. h }
event_alike s (Copy n from_bucket from_key bucket key) c d differ = record { state = refl; go_on = λ h. h }
event_alike s (Keys n bucket prefix) c d differ = record { state = refl; go_on = λ h. h }
event_alike s (Deliver m) c d differ = record { state = refl; go_on = λ h. h }
event_alike s (Lose m) c d differ = record { state = refl; go_on = λ h. h }
event_alike s (Drain n) c d differ = record { state = refl; go_on = λ h. h }
event_alike s (Expire q) c d differ = record { state = refl; go_on = λ h. h }
event_alike s (Restart n) c d differ = record { state = refl; go_on = λ h. h }
event_alike s (Gossip from to) c d differ = record { state = refl; go_on = λ h. h }
event_alike s (Ack n) c d differ = record { state = refl; go_on = λ h. h }
event_alike s (Sync n) c d differ = record { state = refl; go_on = λ h. h }
event_alike s (SyncAck n) c d differ = record { state = refl; go_on = λ h. h }
event_alike s (Clean n) c d differ = record { state = refl; go_on = λ h. h }
event_alike s (Work n) c d differ = record { state = refl; go_on = λ h. h }
event_alike s (Repair n) c d differ = record { state = refl; go_on = λ h. h }
event_alike s (Collect n) c d differ = record { state = refl; go_on = λ h. h }

-- two turns of one event
pub turn_alike : (s : State) (t u : Turn) → t.numbered ≡ u.numbered → DifferInCut t.choice u.choice →
    (after s t ≡ after s u) × (AllByRecursion GoesOn (steps_of s t.numbered.event t.choice) → AllByRecursion GoesOn (steps_of s u.numbered.event u.choice))
turn_alike s t u same differ =
    let alike : IsAlike s t.numbered.event t.choice u.choice = event_alike s t.numbered.event t.choice u.choice differ in
    subst (λ (x : Numbered). (after s t ≡ (outcome s x.event u.choice).state) × (AllByRecursion GoesOn (steps_of s t.numbered.event t.choice) → AllByRecursion GoesOn (steps_of s x.event u.choice)))
    same (alike.state, alike.go_on)

pub same_states : (s : State) (turns others : List Turn) → DifferInCuts turns others → (n : ℕ) → run s (take n turns) ≡ run s (take n others)
same_states s turns others differ zero = refl
same_states s [] [] differ (suc n) = refl
same_states s [] (u ∷ us) differ (suc n) = absurd differ
same_states s (t ∷ ts) [] differ (suc n) = absurd differ
same_states s (t ∷ ts) (u ∷ us) differ (suc n) =
    let here = turn_alike s t u differ.0 differ.1 in
    same_states (after s t) ts us differ.2 n ∙ ap (λ (x : State). run x (take n us)) here.0

pub same_end : (s : State) (turns others : List Turn) → DifferInCuts turns others → run s turns ≡ run s others
same_end s [] [] differ = refl
same_end s [] (u ∷ us) differ = absurd differ
same_end s (t ∷ ts) [] differ = absurd differ
same_end s (t ∷ ts) (u ∷ us) differ =
    let here = turn_alike s t u differ.0 differ.1 in
    same_end (after s t) ts us differ.2 ∙ ap (λ (x : State). run x us) here.0

pub same_events : (turns others : List Turn) → DifferInCuts turns others → events_of turns ≡ events_of others
same_events [] [] differ = refl
same_events [] (u ∷ us) differ = absurd differ
same_events (t ∷ ts) [] differ = absurd differ
same_events (t ∷ ts) (u ∷ us) differ = (λ i. differ.0 i ∷ same_events ts us differ.2 i)

pub go_on_together : (s : State) (turns others : List Turn) → DifferInCuts turns others → AllGoOn s turns → AllGoOn s others
go_on_together s [] [] differ h = tt
go_on_together s [] (u ∷ us) differ h = absurd differ
go_on_together s (t ∷ ts) [] differ h = absurd differ
go_on_together s (t ∷ ts) (u ∷ us) differ h =
    let here = turn_alike s t u differ.0 differ.1 in
    (here.1 h.0, subst (λ (x : State). AllGoOn x us) here.0 (go_on_together (after s t) ts us differ.2 h.1))
