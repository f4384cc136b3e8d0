-- What is known of the layouts that a transcript prints: what its lines say was staged, and in which line of the schedule.
use Rattle.std.proofs.Common.{◌≡◌, ℕ, suc, true, false, ◌==◌, ◌&&◌, if◌then◌else◌, Option, Some, None, List, [], ◌∷◌, ◌++◌, refl, sym, subst}
use Rattle.std.specs.Prelude.{IfSome}
use Rattle.std.specs.List.{AllByRecursion}
use Rattle.history_model.specs.Record.{same_bytes}
use Rattle.layout_roles.specs.declared.redundancy.Redundancy.TheVariants.{AtLeast, Maximum}
use Rattle.layout_roles.specs.Certificates.{IsRedundancy}
use Rattle.cluster_machine.specs.declared.step.Words.TheVariants.{Empty, One, Idle, Two}
use Rattle.store_model.specs.declared.event.Event.{Event}
use Rattle.store_model.specs.declared.event.Event.TheVariants.{Trio, Block, Bucket, Role, Redundancy, Apply, Tick, Skew, Put, Get, Head, Delete, Copy, List as Keys, Deliver, Lose, Drain, Expire, Restart, Gossip, Ack, Sync, SyncAck, Clean, Work, Repair, Collect}
use Rattle.store_model.specs.declared.event.Numbered.{Numbered}
use Rattle.text_model.specs.Grammar.{IsAllowed, name_of}
use Rattle.audit_model.specs.declared.said.Told.{Told}
use Rattle.audit_model.specs.declared.said.Told.TheVariants.{Accepted, Refused}
use Rattle.audit_model.specs.declared.said.Said.{Said}
use Rattle.audit_model.specs.declared.said.Said.TheVariants as said
use Rattle.audit_model.specs.Heard.{event_at}
use Rattle.audit_model.specs.Printed.{Staged, Print, stages, stages_if, print_of, prints, print_at, nothing_staged, all_prints}

-- a layout that was printed when this was staged, for the event in this line
pub record IsFrom (s : Staged) (line : ℕ) (p : Print) : Type 0 where
  pub staged : p.staged ≡ s
  pub line_is : p.line ≡ line

-- the same, behind line k
pub record IsBehind (s : Staged) (k line : ℕ) (p : Print) : Type 0 where
  pub from : IsFrom s line p
  pub place_is : p.place ≡ suc k

-- what follows an event's line prints one layout at most, of what was staged
pub print_is_behind : (s : Staged) (k line : ℕ) (e : Option Event) (told : Told) (saids : List Said) → AllByRecursion (IsBehind s k line) (print_of s k line e told saids)
print_is_behind s k line None told saids = tt
print_is_behind s k line (Some Trio) told saids = tt
print_is_behind s k line (Some (Block size)) told saids = tt
print_is_behind s k line (Some (Bucket name)) told saids = tt
print_is_behind s k line (Some (Role n role)) told saids = tt
print_is_behind s k line (Some (Redundancy wanted)) told saids = tt
print_is_behind s k line (Some (Tick ms)) told saids = tt
print_is_behind s k line (Some (Skew n ms)) told saids = tt
print_is_behind s k line (Some (Put n bucket key size fill)) told saids = tt
print_is_behind s k line (Some (Get n bucket key)) told saids = tt
print_is_behind s k line (Some (Head n bucket key)) told saids = tt
print_is_behind s k line (Some (Delete n bucket key)) told saids = tt
print_is_behind s k line (Some (Copy n from_bucket from_key bucket key)) told saids = tt
print_is_behind s k line (Some (Keys n bucket prefix)) told saids = tt
print_is_behind s k line (Some (Deliver m)) told saids = tt
print_is_behind s k line (Some (Lose m)) told saids = tt
print_is_behind s k line (Some (Drain n)) told saids = tt
print_is_behind s k line (Some (Expire q)) told saids = tt
print_is_behind s k line (Some (Restart n)) told saids = tt
print_is_behind s k line (Some (Gossip from to)) told saids = tt
print_is_behind s k line (Some (Ack n)) told saids = tt
print_is_behind s k line (Some (Sync n)) told saids = tt
print_is_behind s k line (Some (SyncAck n)) told saids = tt
print_is_behind s k line (Some (Clean n)) told saids = tt
print_is_behind s k line (Some (Work n)) told saids = tt
print_is_behind s k line (Some (Repair n)) told saids = tt
print_is_behind s k line (Some (Collect n)) told saids = tt
print_is_behind s k line (Some (Apply n)) (Refused refusal) saids = tt
print_is_behind s k line (Some (Apply n)) (Accepted Empty) saids = tt
print_is_behind s k line (Some (Apply n)) (Accepted (Idle a b)) saids = tt
print_is_behind s k line (Some (Apply n)) (Accepted (Two a b)) saids = tt
print_is_behind s k line (Some (Apply node)) (Accepted (One number)) [] = tt
print_is_behind s k line (Some (Apply node)) (Accepted (One number)) (said.Size size ∷ saids) = (record { from = record { staged = refl; line_is = refl }; place_is = refl }, tt)
print_is_behind s k line (Some (Apply node)) (Accepted (One number)) (said.Event other name told ∷ saids) = tt
print_is_behind s k line (Some (Apply node)) (Accepted (One number)) (said.Redundancy r ∷ saids) = tt
print_is_behind s k line (Some (Apply node)) (Accepted (One number)) (said.Sets first last set ∷ saids) = tt
print_is_behind s k line (Some (Apply node)) (Accepted (One number)) (said.Cut size weight ∷ saids) = tt
print_is_behind s k line (Some (Apply node)) (Accepted (One number)) (said.Side first last up down zones ∷ saids) = tt
print_is_behind s k line (Some (Apply node)) (Accepted (One number)) (said.Nodes nodes ∷ saids) = tt
print_is_behind s k line (Some (Apply node)) (Accepted (One number)) (said.Got m ∷ saids) = tt
print_is_behind s k line (Some (Apply node)) (Accepted (One number)) (said.Sent m kind from to ∷ saids) = tt
print_is_behind s k line (Some (Apply node)) (Accepted (One number)) (said.Synced n v ∷ saids) = tt
print_is_behind s k line (Some (Apply node)) (Accepted (One number)) (said.Dropped n v ∷ saids) = tt
print_is_behind s k line (Some (Apply node)) (Accepted (One number)) (said.Done q word answer ∷ saids) = tt
print_is_behind s k line (Some (Apply node)) (Accepted (One number)) (said.Listed q count ∷ saids) = tt
print_is_behind s k line (Some (Apply node)) (Accepted (One number)) (said.Key key version size ∷ saids) = tt
print_is_behind s k line (Some (Apply node)) (Accepted (One number)) (said.Ended q word ∷ saids) = tt
print_is_behind s k line (Some (Apply node)) (Accepted (One number)) (said.Node n rows blocks top ∷ saids) = tt
print_is_behind s k line (Some (Apply node)) (Accepted (One number)) (said.Fresh pairs ∷ saids) = tt
print_is_behind s k line (Some (Apply node)) (Accepted (One number)) (said.End events requests messages ∷ saids) = tt

-- what is asked of each of two lists is asked of both
pub all_both : (P : Print → Type 0) (ps qs : List Print) → AllByRecursion P ps → AllByRecursion P qs → AllByRecursion P (ps ++ qs)
all_both P [] qs h k = k
all_both P (p ∷ ps) qs h k = (h.0, all_both P ps qs h.1 k)

pub all_more : (P Q : Print → Type 0) (ps : List Print) → ((p : Print) → P p → Q p) → AllByRecursion P ps → AllByRecursion Q ps
all_more P Q [] more h = tt
all_more P Q (p ∷ ps) more h = (more p h.0, all_more P Q ps more h.1)

pub print_of_is : (s : Staged) (k line : ℕ) (e : Option Event) (told : Told) (saids : List Said) → AllByRecursion (IsFrom s line) (print_of s k line e told saids)
print_of_is s k line e told saids = all_more (IsBehind s k line) (IsFrom s line) (print_of s k line e told saids) (λ p h. h.from) (print_is_behind s k line e told saids)

-- an event that is found is one of the schedule
event_found : (P : Event → Type 0) (events : List Numbered) → AllByRecursion (λ (e : Numbered). P e.event) events → (line : ℕ) (name : List ℕ) → IfSome (event_at events line name) P
event_found P [] h line name = tt
event_found P (e ∷ es) h line name =
    elim ((e.line == line) && same_bytes (name_of e.event) name) as (λ b. IfSome (if b then Some e.event else event_at es line name) P) [
      | true ↦ h.0
      | false ↦ event_found P es h.1 line name
    ]

module _ (P : Staged → Type 0) (A : Event → Type 0) (keeps : (s : Staged) (e : Event) → A e → P s → P (stages s e)) where
  stages_if_keeps : (s : Staged) (e : Option Event) (told : Told) → IfSome e A → P s → P (stages_if s e told)
  stages_if_keeps s None told meant h = h
  stages_if_keeps s (Some e) (Accepted words) meant h = keeps s e meant h
  stages_if_keeps s (Some e) (Refused refusal) meant h = h

  module _ (events : List Numbered) (all : AllByRecursion (λ (e : Numbered). A e.event) events) where
    -- what events keep of what is staged holds where a layout is printed
    prints_keep : (s : Staged) (k : ℕ) (saids : List Said) → P s → AllByRecursion (λ (p : Print). P p.staged) (prints events s k saids)
    prints_keep s k [] h = tt
    prints_keep s k (said.Event line name told ∷ saids) h =
        let e = event_at events line name in
        all_both (λ (p : Print). P p.staged) (print_of s k line e told saids) (prints events (stages_if s e told) (suc k) saids)
        (all_more (IsFrom s line) (λ (p : Print). P p.staged) (print_of s k line e told saids) (λ p from. subst P (sym from.staged) h) (print_of_is s k line e told saids))
        (prints_keep (stages_if s e told) (suc k) saids (stages_if_keeps s e told (event_found A events all line name) h))
    prints_keep s k (said.Size size ∷ saids) h = prints_keep s (suc k) saids h
    prints_keep s k (said.Redundancy r ∷ saids) h = prints_keep s (suc k) saids h
    prints_keep s k (said.Sets first last set ∷ saids) h = prints_keep s (suc k) saids h
    prints_keep s k (said.Cut size weight ∷ saids) h = prints_keep s (suc k) saids h
    prints_keep s k (said.Side first last up down zones ∷ saids) h = prints_keep s (suc k) saids h
    prints_keep s k (said.Nodes nodes ∷ saids) h = prints_keep s (suc k) saids h
    prints_keep s k (said.Got m ∷ saids) h = prints_keep s (suc k) saids h
    prints_keep s k (said.Sent m kind from to ∷ saids) h = prints_keep s (suc k) saids h
    prints_keep s k (said.Synced n v ∷ saids) h = prints_keep s (suc k) saids h
    prints_keep s k (said.Dropped n v ∷ saids) h = prints_keep s (suc k) saids h
    prints_keep s k (said.Done q word answer ∷ saids) h = prints_keep s (suc k) saids h
    prints_keep s k (said.Listed q count ∷ saids) h = prints_keep s (suc k) saids h
    prints_keep s k (said.Key key version size ∷ saids) h = prints_keep s (suc k) saids h
    prints_keep s k (said.Ended q word ∷ saids) h = prints_keep s (suc k) saids h
    prints_keep s k (said.Node n rows blocks top ∷ saids) h = prints_keep s (suc k) saids h
    prints_keep s k (said.Fresh pairs ∷ saids) h = prints_keep s (suc k) saids h
    prints_keep s k (said.End of_events requests messages ∷ saids) h = prints_keep s (suc k) saids h

redundancy_stays : (s : Staged) (e : Event) → IsAllowed e → IsRedundancy s.wanted → IsRedundancy (stages s e).wanted
redundancy_stays s (Redundancy (AtLeast r)) allowed h = allowed
redundancy_stays s (Redundancy Maximum) allowed h = tt
redundancy_stays s (Apply n) allowed h = h
redundancy_stays s Trio allowed h = h
redundancy_stays s (Block size) allowed h = h
redundancy_stays s (Bucket name) allowed h = h
redundancy_stays s (Role n role) allowed h = h
redundancy_stays s (Tick ms) allowed h = h
redundancy_stays s (Skew n ms) allowed h = h
redundancy_stays s (Put n bucket key size fill) allowed h = h
redundancy_stays s (Get n bucket key) allowed h = h
redundancy_stays s (Head n bucket key) allowed h = h
redundancy_stays s (Delete n bucket key) allowed h = h
redundancy_stays s (Copy n from_bucket from_key bucket key) allowed h = h
redundancy_stays s (Keys n bucket prefix) allowed h = h
redundancy_stays s (Deliver m) allowed h = h
redundancy_stays s (Lose m) allowed h = h
redundancy_stays s (Drain n) allowed h = h
redundancy_stays s (Expire q) allowed h = h
redundancy_stays s (Restart n) allowed h = h
redundancy_stays s (Gossip from to) allowed h = h
redundancy_stays s (Ack n) allowed h = h
redundancy_stays s (Sync n) allowed h = h
redundancy_stays s (SyncAck n) allowed h = h
redundancy_stays s (Clean n) allowed h = h
redundancy_stays s (Work n) allowed h = h
redundancy_stays s (Repair n) allowed h = h
redundancy_stays s (Collect n) allowed h = h

-- one to three zones, or as many as there are, are asked for wherever a layout is printed
pub prints_meant : (events : List Numbered) (saids : List Said) → AllByRecursion (λ (e : Numbered). IsAllowed e.event) events → AllByRecursion (λ (p : Print). IsRedundancy p.staged.wanted) (all_prints events saids)
prints_meant events saids allowed = prints_keep (λ s. IsRedundancy s.wanted) IsAllowed redundancy_stays events allowed nothing_staged 1 saids tt

-- what holds of all of these holds of the one for a line
pub print_at_is : (P : Print → Type 0) (ps : List Print) (line : ℕ) → AllByRecursion P ps → IfSome (print_at ps line) P
print_at_is P [] line h = tt
print_at_is P (p ∷ ps) line h =
    elim (p.line == line) as (λ b. IfSome (if b then Some p else print_at ps line) P) [
      | true ↦ h.0
      | false ↦ print_at_is P ps line h.1
    ]

pub both_of : (P Q : Print → Type 0) (ps : List Print) → AllByRecursion P ps → AllByRecursion Q ps → AllByRecursion (λ (p : Print). P p × Q p) ps
both_of P Q [] h k = tt
both_of P Q (p ∷ ps) h k = ((h.0, k.0), both_of P Q ps h.1 k.1)
