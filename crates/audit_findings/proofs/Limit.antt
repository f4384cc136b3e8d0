-- What an apply is given changes nothing of how much was sent, so whether the limit is passed hangs on no layout.
use Rattle.std.proofs.Common.{◌≡◌, ◌<◌, ◌≤◌, ℕ, suc, Bool, true, false, not, ◌&&◌, leb, cond, Option, Some, List, [], ◌∷◌, ◌++◌, refl, sym, ap, subst, ◌∙◌, arith}
use Rattle.std.specs.List.{AllByRecursion}
use Rattle.crdt_rows.specs.declared.any_row.AnyRow.{AnyRow}
use Rattle.crdt_rows.specs.AnyRow.{any_join}
use Rattle.object_schema.specs.Schema.{words}
use Rattle.layout_roles.specs.declared.layout.Layout.{Layout}
use Rattle.cluster_machine.specs.declared.step.Step.TheVariants as step
use Rattle.cluster_machine.specs.Choices.{Decision}
use Rattle.cluster_machine.specs.Layouts.{layouts}
use Rattle.cluster_machine.specs.Step.{most_versions, given, none_given, chosen}
use Rattle.cluster_machine.specs.Trio.{trio, stage_trio}
use Rattle.cluster_machine.specs.World.{Sent, is_member_at, sent_bytes}
use Rattle.cluster_machine.specs.Worlds.{Done as Effect, newest_at, does}
use Rattle.store_model.specs.declared.event.Event.{Event}
use Rattle.store_model.specs.declared.event.Event.TheVariants.{Trio, Block, Bucket, Role, Redundancy, Apply, Tick, Skew, Put, Get, Head, Delete, Copy, List as Keys, Deliver, Lose, Drain, Expire, Restart, Gossip, Ack, Sync, SyncAck, Clean, Work, Repair, Collect}
use Rattle.store_model.specs.Run.{World, Moving, State}
use Rattle.store_model.specs.Events.{outcome}
use Rattle.text_model.specs.Played.{sent_limit, Step, steps_of, HasSent, GoesOn}

-- an apply that is given this
abbrev pub applies : ℕ → Decision → Moving
applies n c = record { step = step.Apply n; choice = c }

module _ (w : World) (n : ℕ) where
  abbrev sent : Effect AnyRow → List (Sent AnyRow Layout)
  sent e = e.sends

  one_sent : (d : Bool) (e f : Effect AnyRow) → sent e ≡ [] → sent f ≡ [] → sent (cond d e f) ≡ []
  one_sent true e f h k = h
  one_sent false e f h k = k

  chosen_sends : (next : ℕ) (c : Decision) → sent (chosen any_join words layouts trio stage_trio w n next c) ≡ []
  chosen_sends next (given l shown) = refl
  chosen_sends next (none_given q) = refl

  -- an apply sends nothing
  apply_sends : (c : Decision) → sent (does any_join words w (applies n c)) ≡ []
  apply_sends c =
      one_sent (leb 1 w.applied && not (is_member_at layouts w n)) _ _ refl
      (one_sent (leb (suc (newest_at w n)) w.applied) _ _ refl
      (one_sent (leb most_versions w.applied) _ _ refl (chosen_sends (suc (newest_at w n)) c)))

-- so whatever it is given, as much was sent
pub sent_alike : (s : State) (n : ℕ) (c d : Decision) → (outcome s (Apply n) c).state.world.messages ≡ (outcome s (Apply n) d).state.world.messages
sent_alike s n c d = ap (λ x. s.world.messages ++ x) (apply_sends s.world n c ∙ sym (apply_sends s.world n d))

-- a step after which too much was sent is none after which a replay goes on
too_much_sent : (o : Option ℕ) (bytes within : ℕ) → o ≡ Some bytes → o ≡ Some within → sent_limit < bytes → within ≤ sent_limit → ⊥
too_much_sent o bytes within is also beyond le = let both : Some bytes ≡ Some within = sym is ∙ also in let same : bytes ≡ within = cc in omega arith

one_goes_on : (first rest : List Step) (last : Step) → AllByRecursion GoesOn (first ++ last ∷ rest) → GoesOn last
one_goes_on [] rest last h = h.0
one_goes_on (x ∷ first) rest last h = one_goes_on first rest last h.1

-- a list of one step has no other
only_one : (one last : Step) (first rest : List Step) → one ∷ [] ≡ first ++ last ∷ rest → one ≡ last
only_one one last [] rest e = cc
only_one one last (x ∷ []) rest e = cc
only_one one last (x ∷ y ∷ first) rest e = cc

-- the steps of an event, one of which has sent too much
pub record Passes (steps : List Step) : Type 0 where
  pub first : List Step
  pub last : Step
  pub rest : List Step
  pub steps_are : steps ≡ first ++ last ∷ rest
  pub bytes : ℕ
  pub sent : HasSent last.outcome.state bytes
  pub beyond : sent_limit < bytes

not_on : (steps : List Step) → Passes steps → AllByRecursion GoesOn steps → ⊥
not_on steps p h =
    let on : GoesOn p.last = one_goes_on p.first p.rest p.last (subst (AllByRecursion GoesOn) p.steps_are h) in
    too_much_sent (sent_bytes words p.last.outcome.state.world.messages) p.bytes on.bytes p.sent on.sent p.beyond on.within

-- where some step of an event has sent too much, with what it is given, a replay goes on after all of them with nothing
pub not_both_ways : (s : State) (e : Event) (c d : Decision) → Passes (steps_of s e c) → AllByRecursion GoesOn (steps_of s e d) → ⊥
not_both_ways s (Apply n) c d p h =
    let one : Step = record { from = s; outcome = outcome s (Apply n) c } in
    let same : one ≡ p.last = only_one one p.last p.first p.rest p.steps_are in
    let sent : HasSent (outcome s (Apply n) c).state p.bytes = subst (λ (x : Step). HasSent x.outcome.state p.bytes) (sym same) p.sent in
    let sent_too : HasSent (outcome s (Apply n) d).state p.bytes = subst (λ m. sent_bytes words m ≡ Some p.bytes) (sent_alike s n c d) sent in
    too_much_sent (sent_bytes words (outcome s (Apply n) d).state.world.messages) p.bytes h.0.bytes sent_too h.0.sent p.beyond h.0.within
not_both_ways s Trio c d p h = not_on (steps_of s Trio d) p h
not_both_ways s (Block size) c d p h = not_on (steps_of s (Block size) d) p h
not_both_ways s (Bucket name) c d p h = not_on (steps_of s (Bucket name) d) p h
not_both_ways s (Role n role) c d p h = not_on (steps_of s (Role n role) d) p h
not_both_ways s (Redundancy wanted) c d p h = not_on (steps_of s (Redundancy wanted) d) p h
not_both_ways s (Tick ms) c d p h = not_on (steps_of s (Tick ms) d) p h
not_both_ways s (Skew n ms) c d p h = not_on (steps_of s (Skew n ms) d) p h
not_both_ways s (Put n bucket key size fill) c d p h = not_on (steps_of s (Put n bucket key size fill) d) p h
not_both_ways s (Get n bucket key) c d p h = not_on (steps_of s (Get n bucket key) d) p h
not_both_ways s (Head n bucket key) c d p h = not_on (steps_of s (Head n bucket key) d) p h
not_both_ways s (Delete n bucket key) c d p h = not_on (steps_of s (Delete n bucket key) d) p h
not_both_ways s (Copy n from_bucket from_key bucket key) c d p h = not_on (steps_of s (Copy n from_bucket from_key bucket key) d) p h
not_both_ways s (Keys n bucket prefix) c d p h = not_on (steps_of s (Keys n bucket prefix) d) p h
not_both_ways s (Deliver m) c d p h = not_on (steps_of s (Deliver m) d) p h
not_both_ways s (Lose m) c d p h = not_on (steps_of s (Lose m) d) p h
not_both_ways s (Drain n) c d p h = not_on (steps_of s (Drain n) d) p h
not_both_ways s (Expire q) c d p h = not_on (steps_of s (Expire q) d) p h
not_both_ways s (Restart n) c d p h = not_on (steps_of s (Restart n) d) p h
not_both_ways s (Gossip from to) c d p h = not_on (steps_of s (Gossip from to) d) p h
not_both_ways s (Ack n) c d p h = not_on (steps_of s (Ack n) d) p h
not_both_ways s (Sync n) c d p h = not_on (steps_of s (Sync n) d) p h
not_both_ways s (SyncAck n) c d p h = not_on (steps_of s (SyncAck n) d) p h
not_both_ways s (Clean n) c d p h = not_on (steps_of s (Clean n) d) p h
not_both_ways s (Work n) c d p h = not_on (steps_of s (Work n) d) p h
not_both_ways s (Repair n) c d p h = not_on (steps_of s (Repair n) d) p h
not_both_ways s (Collect n) c d p h = not_on (steps_of s (Collect n) d) p h
