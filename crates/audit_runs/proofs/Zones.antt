-- No zone's name that is staged by allowed events holds a line feed, and no key that they name.
use Rattle.std.proofs.Common.{◌≡◌, ℕ, Bool, true, false, not, ◌==◌, cond, nat_lt, IsTrue, Option, Some, None, List, [], ◌∷◌, length, map, refl, sym, ap, ◌∙◌}
use Rattle.std.specs.Prelude.{⊤}
use Rattle.std.specs.List.{AllByRecursion, fold, list_all, list_any}
use Rattle.std.specs.Ordering.{nat_cmp, is_lt}
use Rattle.std.specs.Cmp.Lexicographic.{slice_cmp}
use Rattle.std.proofs.lemmas.Bool.{and_parts, and_from, eqb-true}
use Rattle.layout_roles.specs.declared.cut.Cut.{Cut}
use Rattle.layout_roles.specs.declared.role.Role.{Role}
use Rattle.layout_roles.specs.declared.role.Zone.{Zone}
use Rattle.layout_roles.specs.declared.role.Kind.{Kind}
use Rattle.layout_roles.specs.declared.role.Kind.TheVariants.{Storage}
use Rattle.layout_roles.specs.Names.{is_between, is_name_byte, is_zone_name}
use Rattle.layout_roles.specs.Zones.{Name, name_of, is_storage, storage_nodes, put_in_order, same_name, with_name, zone_names}
use Rattle.cluster_machine.specs.declared.step.Refusal.{Refusal}
use Rattle.cluster_machine.specs.World.{new_role, staged}
use Rattle.cluster_machine.specs.Trio.{zone, stage_trio}
use Rattle.store_model.specs.declared.event.Event.{Event}
use Rattle.store_model.specs.declared.event.Event.TheVariants.{Trio, Block, Bucket, Role as Stage, Redundancy, Apply, Tick, Skew, Put, Get, Head, Delete, Copy, List as Keys, Deliver, Lose, Drain, Expire, Restart, Gossip, Ack, Sync, SyncAck, Clean, Work, Repair, Collect}
use Rattle.text_model.specs.Grammar.{is_key_byte, is_key, IsAllowed}
use Rattle.audit_model.specs.Printed.{Staged, stages}
use Rattle.audit_runs.specs.Told.{stages_by}
use Rattle.audit_runs.specs.Whole.{is_unbroken}

-- ---- bytes

-- a byte that passes a test which a line feed doesn't pass is none
passes_not : (test : ℕ → Bool) → test 10 ≡ false → (b : ℕ) → test b ≡ true → not (b == 10) ≡ true
passes_not test ten b passes =
    elim (b == 10) as (λ t. (b == 10) ≡ t → not t ≡ true) [
      | true ↦ λ is. (let no : true ≡ false = sym passes ∙ (ap test (eqb-true b 10 is) ∙ ten) in cc)
      | false ↦ λ is. refl
    ] refl

pass_unbroken : (test : ℕ → Bool) → test 10 ≡ false → (t : List ℕ) → list_all test t ≡ true → is_unbroken t ≡ true
pass_unbroken test ten [] h = refl
pass_unbroken test ten (b ∷ bs) h =
    let parts = and_parts (test b) (list_all test bs) h in and_from (not (b == 10)) (is_unbroken bs) (passes_not test ten b parts.0) (pass_unbroken test ten bs parts.1)

zone_unbroken : (name : List ℕ) → IsTrue (is_zone_name name) → is_unbroken name ≡ true
zone_unbroken name h = pass_unbroken is_name_byte refl name (and_parts (is_between 1 16 (length name)) (list_all is_name_byte name) h).1

pub key_unbroken : (key : List ℕ) → IsTrue (is_key key) → is_unbroken key ≡ true
key_unbroken key h = pass_unbroken is_key_byte refl key (and_parts (is_between 1 64 (length key)) (list_all is_key_byte key) h).1

-- ---- names of zones

-- no name of these holds a line feed
abbrev AreNames : List Name → Type 0
AreNames names = AllByRecursion (λ name. is_unbroken name ≡ true) names

-- nor does a zone's name of these roles
abbrev pub AreWholeRoles : List Role → Type 0
AreWholeRoles roles = AllByRecursion (λ (role : Role). is_unbroken (name_of role) ≡ true) roles

put_whole : (names : List Name) (name : Name) → AreNames names → is_unbroken name ≡ true → AreNames (put_in_order names name)
put_whole [] name h one = (one, tt)
put_whole (first ∷ names) name h one =
    elim (is_lt (slice_cmp nat_cmp name first)) as (λ b. AreNames (cond b (name ∷ first ∷ names) (first ∷ put_in_order names name))) [
      | true ↦ (one, h)
      | false ↦ (h.0, put_whole names name h.1 one)
    ]

with_whole : (names : List Name) (name : Name) → AreNames names → is_unbroken name ≡ true → AreNames (with_name names name)
with_whole names name h one =
    elim (list_any (same_name name) names) as (λ b. AreNames (cond b names (put_in_order names name))) [
      | true ↦ h
      | false ↦ put_whole names name h one
    ]

fold_whole : (names more : List Name) → AreNames names → AreNames more → AreNames (fold with_name names more)
fold_whole names [] h k = h
fold_whole names (name ∷ more) h k = fold_whole (with_name names name) more (with_whole names name h k.0) k.1

storing_whole : (roles : List Role) → AreWholeRoles roles → AreNames (map name_of (storage_nodes roles))
storing_whole [] h = tt
storing_whole (role ∷ roles) h =
    elim (is_storage role) as (λ b. AreNames (map name_of (cond b (role ∷ storage_nodes roles) (storage_nodes roles)))) [
      | true ↦ (h.0, storing_whole roles h.1)
      | false ↦ storing_whole roles h.1
    ]

pub names_whole : (roles : List Role) → AreWholeRoles roles → AreNames (zone_names roles)
names_whole roles h = fold_whole [] (map name_of (storage_nodes roles)) tt (storing_whole roles h)

-- ---- what is staged

-- the zone of a role that is put in
abbrev IsWholeRole : Option (Zone × Kind) → Type 0
IsWholeRole None = ⊤
IsWholeRole (Some role) = is_unbroken role.0.0 ≡ true

new_whole : (node : ℕ) (role : Option (Zone × Kind)) (roles : List Role) → IsWholeRole role → AreWholeRoles roles → AreWholeRoles (new_role node role roles)
new_whole node None roles one h = h
new_whole node (Some role) roles one h = (one, h)

staged_whole : (node : ℕ) (role : Option (Zone × Kind)) (roles : List Role) → IsWholeRole role → AreWholeRoles roles → AreWholeRoles (staged node role roles)
staged_whole node role [] one h = new_whole node role [] one tt
staged_whole node role (r ∷ roles) one h =
    elim (r.node == node) as (λ b. AreWholeRoles (cond b (new_role node role roles) (cond (nat_lt node r.node) (new_role node role (r ∷ roles)) (r ∷ staged node role roles)))) [
      | true ↦ new_whole node role roles one h.1
      | false ↦ elim (nat_lt node r.node) as (λ b. AreWholeRoles (cond b (new_role node role (r ∷ roles)) (r ∷ staged node role roles))) [
        | true ↦ new_whole node role (r ∷ roles) one h
        | false ↦ (h.0, staged_whole node role roles one h.1)
      ]
    ]

trio_whole : (roles : List Role) → AreWholeRoles roles → AreWholeRoles (stage_trio roles)
trio_whole roles h =
    let third : List Role = staged 3 (Some (zone 99, Storage 1000)) roles in
    let second : List Role = staged 2 (Some (zone 98, Storage 1000)) third in
    staged_whole 1 (Some (zone 97, Storage 1000)) second refl (staged_whole 2 (Some (zone 98, Storage 1000)) third refl (staged_whole 3 (Some (zone 99, Storage 1000)) roles refl h))

stages_whole : (s : Staged) (e : Event) → IsAllowed e → AreWholeRoles s.roles → AreWholeRoles (stages s e).roles
stages_whole s Trio allowed h = trio_whole s.roles h
stages_whole s (Stage n None) allowed h = staged_whole n None s.roles tt h
stages_whole s (Stage n (Some role)) allowed h = staged_whole n (Some role) s.roles (zone_unbroken role.0.0 allowed.1.0) h
stages_whole s (Redundancy wanted) allowed h = h
stages_whole s (Block size) allowed h = h
stages_whole s (Bucket name) allowed h = h
stages_whole s (Apply n) allowed h = h
stages_whole s (Tick ms) allowed h = h
stages_whole s (Skew n ms) allowed h = h
stages_whole s (Put n bucket key size fill) allowed h = h
stages_whole s (Get n bucket key) allowed h = h
stages_whole s (Head n bucket key) allowed h = h
stages_whole s (Delete n bucket key) allowed h = h
stages_whole s (Copy n from_bucket from_key bucket key) allowed h = h
stages_whole s (Keys n bucket prefix) allowed h = h
stages_whole s (Deliver m) allowed h = h
stages_whole s (Lose m) allowed h = h
stages_whole s (Drain n) allowed h = h
stages_whole s (Expire q) allowed h = h
stages_whole s (Restart n) allowed h = h
stages_whole s (Gossip from to) allowed h = h
stages_whole s (Ack n) allowed h = h
stages_whole s (Sync n) allowed h = h
stages_whole s (SyncAck n) allowed h = h
stages_whole s (Clean n) allowed h = h
stages_whole s (Work n) allowed h = h
stages_whole s (Repair n) allowed h = h
stages_whole s (Collect n) allowed h = h

-- after an event, refused or not
pub staged_stay_whole : (s : Staged) (e : Event) (r : Option (Refusal Cut)) → IsAllowed e → AreWholeRoles s.roles → AreWholeRoles (stages_by s e r).roles
staged_stay_whole s e None allowed h = stages_whole s e allowed h
staged_stay_whole s e (Some refusal) allowed h = h
