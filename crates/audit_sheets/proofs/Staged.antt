-- What a schedule's events stage is in its range.
use Rattle.std.proofs.Common.{ℕ, true, false, cond, nat_lt, ◌==◌, Option, Some, None, List, [], ◌∷◌, refl, arith}
use Rattle.layout_roles.specs.declared.role.Role.{Role}
use Rattle.layout_roles.specs.declared.role.Zone.{Zone}
use Rattle.layout_roles.specs.declared.role.Kind.{Kind}
use Rattle.layout_roles.specs.declared.role.Kind.TheVariants.{Storage}
use Rattle.layout_roles.specs.declared.redundancy.Redundancy.{Redundancy}
use Rattle.layout_roles.specs.Certificates.{IsRedundancy}
use Rattle.cluster_machine.specs.World.{staged, new_role}
use Rattle.cluster_machine.specs.Trio.{zone, stage_trio}
use Rattle.store_model.specs.declared.event.Event.{Event}
use Rattle.store_model.specs.declared.event.Event.TheVariants as event
use Rattle.text_model.specs.Grammar.{IsIn, role_range, redundancy_range, IsAllowed}
use Rattle.audit_model.specs.Printed.{Staged, nothing_staged, stages}
use Rattle.audit_sheets.specs.Sheets.{AreInRange, IsStagedInRange}

new_in_range : (node : ℕ) (role : Option (Zone × Kind)) (roles : List Role) → IsIn (role_range role) → AreInRange roles → AreInRange (new_role node role roles)
new_in_range node None roles h k = k
new_in_range node (Some role) roles h k = (h, k)

staged_in_range : (node : ℕ) (role : Option (Zone × Kind)) (roles : List Role) → IsIn (role_range role) → AreInRange roles → AreInRange (staged node role roles)
staged_in_range node role [] h k = new_in_range node role [] h k
staged_in_range node role (r ∷ rs) h k =
    elim (r.node == node) as (λ b. AreInRange (cond b (new_role node role rs) (cond (nat_lt node r.node) (new_role node role (r ∷ rs)) (r ∷ staged node role rs)))) [
      | true ↦ new_in_range node role rs h k.1
      | false ↦
          elim (nat_lt node r.node) as (λ b. AreInRange (cond b (new_role node role (r ∷ rs)) (r ∷ staged node role rs))) [
            | true ↦ new_in_range node role (r ∷ rs) h k
            | false ↦ (k.0, staged_in_range node role rs h k.1)
          ]
    ]

trio_in_range : (roles : List Role) → AreInRange roles → AreInRange (stage_trio roles)
trio_in_range roles h =
    let a : Option (Zone × Kind) = Some (zone 97, Storage 1000) in
    let b : Option (Zone × Kind) = Some (zone 98, Storage 1000) in
    let c : Option (Zone × Kind) = Some (zone 99, Storage 1000) in
    staged_in_range 1 a (staged 2 b (staged 3 c roles)) (refl, (omega arith, omega arith))
    (staged_in_range 2 b (staged 3 c roles) (refl, (omega arith, omega arith)) (staged_in_range 3 c roles (refl, (omega arith, omega arith)) h))

wanted_in_range : (wanted : Redundancy) → IsIn (redundancy_range wanted) → IsRedundancy wanted
wanted_in_range (Redundancy.AtLeast r) h = h
wanted_in_range Redundancy.Maximum h = tt

pub nothing_in_range : IsStagedInRange nothing_staged
nothing_in_range = record { roles = tt; wanted = tt }

pub stages_in_range : (s : Staged) (e : Event) → IsAllowed e → IsStagedInRange s → IsStagedInRange (stages s e)
stages_in_range s event.Trio allowed h = record { roles = trio_in_range s.roles h.roles; wanted = h.wanted }
stages_in_range s (event.Role n role) allowed h = record { roles = staged_in_range n role s.roles allowed.1 h.roles; wanted = h.wanted }
stages_in_range s (event.Redundancy wanted) allowed h = record { roles = h.roles; wanted = wanted_in_range wanted allowed }
stages_in_range s (event.Block size) allowed h = h
stages_in_range s (event.Bucket name) allowed h = h
stages_in_range s (event.Apply n) allowed h = h
stages_in_range s (event.Tick ms) allowed h = h
stages_in_range s (event.Skew n ms) allowed h = h
stages_in_range s (event.Put n bucket key size fill) allowed h = h
stages_in_range s (event.Get n bucket key) allowed h = h
stages_in_range s (event.Head n bucket key) allowed h = h
stages_in_range s (event.Delete n bucket key) allowed h = h
stages_in_range s (event.Copy n from_bucket from_key bucket key) allowed h = h
stages_in_range s (event.List n bucket prefix) allowed h = h
stages_in_range s (event.Deliver m) allowed h = h
stages_in_range s (event.Lose m) allowed h = h
stages_in_range s (event.Drain n) allowed h = h
stages_in_range s (event.Expire q) allowed h = h
stages_in_range s (event.Restart n) allowed h = h
stages_in_range s (event.Gossip from to) allowed h = h
stages_in_range s (event.Ack n) allowed h = h
stages_in_range s (event.Sync n) allowed h = h
stages_in_range s (event.SyncAck n) allowed h = h
stages_in_range s (event.Clean n) allowed h = h
stages_in_range s (event.Work n) allowed h = h
stages_in_range s (event.Repair n) allowed h = h
stages_in_range s (event.Collect n) allowed h = h
