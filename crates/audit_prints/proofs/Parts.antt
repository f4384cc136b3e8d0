-- What lines are to a printed layout, kind by kind.
use Rattle.std.proofs.Common.{◌≡◌, ℕ, suc, drop, Option, Some, None, List, [], ◌∷◌, refl, sym, ap, subst, ◌∙◌}
use Rattle.cluster_machine.specs.declared.step.Words.TheVariants.{Empty, One, Idle, Two}
use Rattle.store_model.specs.declared.event.Event.{Event}
use Rattle.store_model.specs.declared.event.Event.TheVariants.{Trio, Block, Bucket, Role, Redundancy, Apply, Tick, Skew, Put, Get, Head, Delete, Copy, List as Keys, Deliver, Lose, Drain, Expire, Restart, Gossip, Ack, Sync, SyncAck, Clean, Work, Repair, Collect}
use Rattle.audit_model.specs.declared.said.Told.{Told}
use Rattle.audit_model.specs.declared.said.Told.TheVariants.{Accepted, Refused}
use Rattle.audit_model.specs.declared.said.Said.{Said}
use Rattle.audit_model.specs.declared.said.Said.TheVariants as said
use Rattle.cluster_machine.specs.declared.applied.Applied.{Applied}
use Rattle.audit_model.specs.Printed.{Staged, Print, printed, print_of, IsLawful}
use Rattle.audit_prints.specs.declared.prints.Found.TheVariants as found
use Rattle.audit_prints.specs.Sheets.{Shows}
use Rattle.audit_prints.specs.Judged.{IsFound}
use Rattle.audit_prints.specs.Lines.{size_after}

-- the layout of this size that these lines print behind their first one
abbrev pub print_with : Staged → ℕ → ℕ → List Said → ℕ → Print
print_with s k line saids size = record { place = suc k; line = line; staged = s; printed = printed s.roles size (drop 1 saids) }

-- in a list of its own, where there is a size
abbrev pub prints_with : Staged → ℕ → ℕ → List Said → Option ℕ → List Print
prints_with s k line saids None = []
prints_with s k line saids (Some size) = print_with s k line saids size ∷ []

-- a layout that is printed has its size first
pub print_by_size : (s : Staged) (k line : ℕ) (e : Event) (told : Told) (saids : List Said) → print_of s k line (Some e) told saids ≡ prints_with s k line saids (size_after e told saids)
print_by_size s k line Trio told saids = refl
print_by_size s k line (Block size) told saids = refl
print_by_size s k line (Bucket name) told saids = refl
print_by_size s k line (Role n role) told saids = refl
print_by_size s k line (Redundancy wanted) told saids = refl
print_by_size s k line (Tick ms) told saids = refl
print_by_size s k line (Skew n ms) told saids = refl
print_by_size s k line (Put n bucket key size fill) told saids = refl
print_by_size s k line (Get n bucket key) told saids = refl
print_by_size s k line (Head n bucket key) told saids = refl
print_by_size s k line (Delete n bucket key) told saids = refl
print_by_size s k line (Copy n from_bucket from_key bucket key) told saids = refl
print_by_size s k line (Keys n bucket prefix) told saids = refl
print_by_size s k line (Deliver m) told saids = refl
print_by_size s k line (Lose m) told saids = refl
print_by_size s k line (Drain n) told saids = refl
print_by_size s k line (Expire q) told saids = refl
print_by_size s k line (Restart n) told saids = refl
print_by_size s k line (Gossip from to) told saids = refl
print_by_size s k line (Ack n) told saids = refl
print_by_size s k line (Sync n) told saids = refl
print_by_size s k line (SyncAck n) told saids = refl
print_by_size s k line (Clean n) told saids = refl
print_by_size s k line (Work n) told saids = refl
print_by_size s k line (Repair n) told saids = refl
print_by_size s k line (Collect n) told saids = refl
print_by_size s k line (Apply node) (Refused refusal) saids = refl
print_by_size s k line (Apply node) (Accepted Empty) saids = refl
print_by_size s k line (Apply node) (Accepted (Idle a b)) saids = refl
print_by_size s k line (Apply node) (Accepted (Two a b)) saids = refl
print_by_size s k line (Apply node) (Accepted (One number)) [] = refl
print_by_size s k line (Apply node) (Accepted (One number)) (said.Size size ∷ saids) = refl
print_by_size s k line (Apply node) (Accepted (One number)) (said.Event other name told ∷ saids) = refl
print_by_size s k line (Apply node) (Accepted (One number)) (said.Redundancy r ∷ saids) = refl
print_by_size s k line (Apply node) (Accepted (One number)) (said.Sets first last set ∷ saids) = refl
print_by_size s k line (Apply node) (Accepted (One number)) (said.Cut size weight ∷ saids) = refl
print_by_size s k line (Apply node) (Accepted (One number)) (said.Side first last up down zones ∷ saids) = refl
print_by_size s k line (Apply node) (Accepted (One number)) (said.Nodes nodes ∷ saids) = refl
print_by_size s k line (Apply node) (Accepted (One number)) (said.Got m ∷ saids) = refl
print_by_size s k line (Apply node) (Accepted (One number)) (said.Sent m kind from to ∷ saids) = refl
print_by_size s k line (Apply node) (Accepted (One number)) (said.Synced n v ∷ saids) = refl
print_by_size s k line (Apply node) (Accepted (One number)) (said.Dropped n v ∷ saids) = refl
print_by_size s k line (Apply node) (Accepted (One number)) (said.Done q word answer ∷ saids) = refl
print_by_size s k line (Apply node) (Accepted (One number)) (said.Listed q count ∷ saids) = refl
print_by_size s k line (Apply node) (Accepted (One number)) (said.Key key version size ∷ saids) = refl
print_by_size s k line (Apply node) (Accepted (One number)) (said.Ended q word ∷ saids) = refl
print_by_size s k line (Apply node) (Accepted (One number)) (said.Node n rows blocks top ∷ saids) = refl
print_by_size s k line (Apply node) (Accepted (One number)) (said.Fresh pairs ∷ saids) = refl
print_by_size s k line (Apply node) (Accepted (One number)) (said.End events requests messages ∷ saids) = refl

-- so a layout is printed where there is a size
print_is : (s : Staged) (k line : ℕ) (o : Option Event) (e : Event) (told : Told) (saids : List Said) (r : Option ℕ) (size : ℕ) → o ≡ Some e → r ≡ size_after e told saids → r ≡ Some size →
    print_of s k line o told saids ≡ print_with s k line saids size ∷ []
print_is s k line o e told saids r size some is sized =
    ap (λ (x : Option Event). print_of s k line x told saids) some ∙ print_by_size s k line e told saids ∙ ap (prints_with s k line saids) (sym is ∙ sized)

-- one that is lawful
pub found_lawful : (s : Staged) (k line : ℕ) (o : Option Event) (e : Event) (told : Told) (saids : List Said) (r : Option ℕ) (size : ℕ) → o ≡ Some e → r ≡ size_after e told saids → r ≡ Some size →
    (shown : Applied) → IsLawful s (printed s.roles size (drop 1 saids)) → Shows s (printed s.roles size (drop 1 saids)) shown → IsFound s k line (print_of s k line o told saids) (found.Lawful shown)
found_lawful s k line o e told saids r size some is sized shown lawful shows =
    subst (λ (ps : List Print). IsFound s k line ps (found.Lawful shown)) (sym (print_is s k line o e told saids r size some is sized)) (record { staged = refl; place = refl; line_is = refl }, (lawful, shows))
