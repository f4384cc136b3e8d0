-- The sets of a printed layout are in order.
use Rattle.std.proofs.Common.{◌≡◌, ◌-◌, ◌==◌, ◌&&◌, nat_le, ℕ, zero, suc, true, false, if◌then◌else◌, replicate, Option, Some, None, List, [], ◌∷◌, ◌++◌, refl}
use Rattle.std.specs.List.{AllByRecursion}
use Rattle.layout_roles.specs.Fits.{NodeSet}
use Rattle.layout_roles.specs.Sets.{in_order}
use Rattle.cluster_machine.specs.declared.step.Words.TheVariants.{Empty, One, Idle, Two}
use Rattle.store_model.specs.declared.event.Event.{Event}
use Rattle.store_model.specs.declared.event.Event.TheVariants.{Trio, Block, Bucket, Role, Redundancy, Apply, Tick, Skew, Put, Get, Head, Delete, Copy, List as Keys, Deliver, Lose, Drain, Expire, Restart, Gossip, Ack, Sync, SyncAck, Clean, Work, Repair, Collect}
use Rattle.store_model.specs.declared.event.Numbered.{Numbered}
use Rattle.audit_model.specs.declared.said.Told.{Told}
use Rattle.audit_model.specs.declared.said.Told.TheVariants.{Accepted, Refused}
use Rattle.audit_model.specs.declared.said.Said.{Said}
use Rattle.audit_model.specs.declared.said.Said.TheVariants as said
use Rattle.audit_model.specs.Heard.{event_at}
use Rattle.audit_model.specs.Printed.{Staged, Print, sets_from, more_lines, stages_if, print_of, prints, nothing_staged, all_prints}

-- three nodes in order
pub record IsOrdered (set : NodeSet) : Type 0 where
  pub first : ℕ
  pub second : ℕ
  pub third : ℕ
  pub is : set ≡ in_order first second third

abbrev pub AreOrdered : List NodeSet → Type 0
AreOrdered sets = AllByRecursion IsOrdered sets

same_ordered : (n : ℕ) (set : NodeSet) (rest : List NodeSet) → IsOrdered set → AreOrdered rest → AreOrdered (replicate n set ++ rest)
same_ordered zero set rest h k = k
same_ordered (suc n) set rest h k = (h, same_ordered n set rest h k)

sets_ordered : (place : ℕ) (saids : List Said) → AreOrdered (sets_from place saids)
sets_ordered place [] = tt
sets_ordered place (said.Sets first last set ∷ saids) =
    elim ((first == place) && (nat_le first last && nat_le last 255)) as (λ t. AreOrdered (if t then replicate (suc last - first) (in_order set.0 set.1 set.2) ++ sets_from (suc last) saids else [])) [
      | true ↦ same_ordered (suc last - first) (in_order set.0 set.1 set.2) (sets_from (suc last) saids) (record { first = set.0; second = set.1; third = set.2; is = refl }) (sets_ordered (suc last) saids)
      | false ↦ tt
    ]
sets_ordered place (said.Redundancy r ∷ saids) = sets_ordered place saids
sets_ordered place (said.Size size ∷ saids) = tt
sets_ordered place (said.Cut size weight ∷ saids) = tt
sets_ordered place (said.Side first last up down zones ∷ saids) = tt
sets_ordered place (said.Nodes nodes ∷ saids) = tt
sets_ordered place (said.Got m ∷ saids) = tt
sets_ordered place (said.Sent m kind from to ∷ saids) = tt
sets_ordered place (said.Synced n v ∷ saids) = tt
sets_ordered place (said.Dropped n v ∷ saids) = tt
sets_ordered place (said.Done q word answer ∷ saids) = tt
sets_ordered place (said.Listed q count ∷ saids) = tt
sets_ordered place (said.Key key version size ∷ saids) = tt
sets_ordered place (said.Ended q word ∷ saids) = tt
sets_ordered place (said.Node n rows blocks top ∷ saids) = tt
sets_ordered place (said.Fresh pairs ∷ saids) = tt
sets_ordered place (said.End of_events requests messages ∷ saids) = tt
sets_ordered place (said.Event line name told ∷ saids) = tt

-- so are those of a print
abbrev pub IsOrderedPrint : Print → Type 0
IsOrderedPrint p = AreOrdered p.printed.sets

print_of_ordered : (s : Staged) (k line : ℕ) (e : Option Event) (told : Told) (saids : List Said) → AllByRecursion IsOrderedPrint (print_of s k line e told saids)
print_of_ordered s k line None told saids = tt
print_of_ordered s k line (Some Trio) told saids = tt
print_of_ordered s k line (Some (Block size)) told saids = tt
print_of_ordered s k line (Some (Bucket name)) told saids = tt
print_of_ordered s k line (Some (Role n role)) told saids = tt
print_of_ordered s k line (Some (Redundancy wanted)) told saids = tt
print_of_ordered s k line (Some (Tick ms)) told saids = tt
print_of_ordered s k line (Some (Skew n ms)) told saids = tt
print_of_ordered s k line (Some (Put n bucket key size fill)) told saids = tt
print_of_ordered s k line (Some (Get n bucket key)) told saids = tt
print_of_ordered s k line (Some (Head n bucket key)) told saids = tt
print_of_ordered s k line (Some (Delete n bucket key)) told saids = tt
print_of_ordered s k line (Some (Copy n from_bucket from_key bucket key)) told saids = tt
print_of_ordered s k line (Some (Keys n bucket prefix)) told saids = tt
print_of_ordered s k line (Some (Deliver m)) told saids = tt
print_of_ordered s k line (Some (Lose m)) told saids = tt
print_of_ordered s k line (Some (Drain n)) told saids = tt
print_of_ordered s k line (Some (Expire q)) told saids = tt
print_of_ordered s k line (Some (Restart n)) told saids = tt
print_of_ordered s k line (Some (Gossip from to)) told saids = tt
print_of_ordered s k line (Some (Ack n)) told saids = tt
print_of_ordered s k line (Some (Sync n)) told saids = tt
print_of_ordered s k line (Some (SyncAck n)) told saids = tt
print_of_ordered s k line (Some (Clean n)) told saids = tt
print_of_ordered s k line (Some (Work n)) told saids = tt
print_of_ordered s k line (Some (Repair n)) told saids = tt
print_of_ordered s k line (Some (Collect n)) told saids = tt
print_of_ordered s k line (Some (Apply n)) (Refused refusal) saids = tt
print_of_ordered s k line (Some (Apply n)) (Accepted Empty) saids = tt
print_of_ordered s k line (Some (Apply n)) (Accepted (Idle a b)) saids = tt
print_of_ordered s k line (Some (Apply n)) (Accepted (Two a b)) saids = tt
print_of_ordered s k line (Some (Apply node)) (Accepted (One number)) [] = tt
print_of_ordered s k line (Some (Apply node)) (Accepted (One number)) (said.Size size ∷ saids) = (sets_ordered 0 (more_lines saids), tt)
print_of_ordered s k line (Some (Apply node)) (Accepted (One number)) (said.Event other name told ∷ saids) = tt
print_of_ordered s k line (Some (Apply node)) (Accepted (One number)) (said.Redundancy r ∷ saids) = tt
print_of_ordered s k line (Some (Apply node)) (Accepted (One number)) (said.Sets first last set ∷ saids) = tt
print_of_ordered s k line (Some (Apply node)) (Accepted (One number)) (said.Cut size weight ∷ saids) = tt
print_of_ordered s k line (Some (Apply node)) (Accepted (One number)) (said.Side first last up down zones ∷ saids) = tt
print_of_ordered s k line (Some (Apply node)) (Accepted (One number)) (said.Nodes nodes ∷ saids) = tt
print_of_ordered s k line (Some (Apply node)) (Accepted (One number)) (said.Got m ∷ saids) = tt
print_of_ordered s k line (Some (Apply node)) (Accepted (One number)) (said.Sent m kind from to ∷ saids) = tt
print_of_ordered s k line (Some (Apply node)) (Accepted (One number)) (said.Synced n v ∷ saids) = tt
print_of_ordered s k line (Some (Apply node)) (Accepted (One number)) (said.Dropped n v ∷ saids) = tt
print_of_ordered s k line (Some (Apply node)) (Accepted (One number)) (said.Done q word answer ∷ saids) = tt
print_of_ordered s k line (Some (Apply node)) (Accepted (One number)) (said.Listed q count ∷ saids) = tt
print_of_ordered s k line (Some (Apply node)) (Accepted (One number)) (said.Key key version size ∷ saids) = tt
print_of_ordered s k line (Some (Apply node)) (Accepted (One number)) (said.Ended q word ∷ saids) = tt
print_of_ordered s k line (Some (Apply node)) (Accepted (One number)) (said.Node n rows blocks top ∷ saids) = tt
print_of_ordered s k line (Some (Apply node)) (Accepted (One number)) (said.Fresh pairs ∷ saids) = tt
print_of_ordered s k line (Some (Apply node)) (Accepted (One number)) (said.End events requests messages ∷ saids) = tt

both_ordered : (ps qs : List Print) → AllByRecursion IsOrderedPrint ps → AllByRecursion IsOrderedPrint qs → AllByRecursion IsOrderedPrint (ps ++ qs)
both_ordered [] qs h k = k
both_ordered (p ∷ ps) qs h k = (h.0, both_ordered ps qs h.1 k)

prints_ordered : (events : List Numbered) (s : Staged) (k : ℕ) (saids : List Said) → AllByRecursion IsOrderedPrint (prints events s k saids)
prints_ordered events s k [] = tt
prints_ordered events s k (said.Event line name told ∷ saids) =
    let e = event_at events line name in
    both_ordered (print_of s k line e told saids) (prints events (stages_if s e told) (suc k) saids) (print_of_ordered s k line e told saids) (prints_ordered events (stages_if s e told) (suc k) saids)
prints_ordered events s k (said.Size size ∷ saids) = prints_ordered events s (suc k) saids
prints_ordered events s k (said.Cut size weight ∷ saids) = prints_ordered events s (suc k) saids
prints_ordered events s k (said.Side first last up down zones ∷ saids) = prints_ordered events s (suc k) saids
prints_ordered events s k (said.Nodes nodes ∷ saids) = prints_ordered events s (suc k) saids
prints_ordered events s k (said.Got m ∷ saids) = prints_ordered events s (suc k) saids
prints_ordered events s k (said.Sent m kind from to ∷ saids) = prints_ordered events s (suc k) saids
prints_ordered events s k (said.Synced n v ∷ saids) = prints_ordered events s (suc k) saids
prints_ordered events s k (said.Dropped n v ∷ saids) = prints_ordered events s (suc k) saids
prints_ordered events s k (said.Done q word answer ∷ saids) = prints_ordered events s (suc k) saids
prints_ordered events s k (said.Listed q count ∷ saids) = prints_ordered events s (suc k) saids
prints_ordered events s k (said.Key key version size ∷ saids) = prints_ordered events s (suc k) saids
prints_ordered events s k (said.Ended q word ∷ saids) = prints_ordered events s (suc k) saids
prints_ordered events s k (said.Node n rows blocks top ∷ saids) = prints_ordered events s (suc k) saids
prints_ordered events s k (said.Fresh pairs ∷ saids) = prints_ordered events s (suc k) saids
prints_ordered events s k (said.End of_events requests messages ∷ saids) = prints_ordered events s (suc k) saids
prints_ordered events s k (said.Redundancy r ∷ saids) = prints_ordered events s (suc k) saids
prints_ordered events s k (said.Sets first last set ∷ saids) = prints_ordered events s (suc k) saids

pub all_ordered : (events : List Numbered) (saids : List Said) → AllByRecursion IsOrderedPrint (all_prints events saids)
all_ordered events saids = prints_ordered events nothing_staged 1 saids
