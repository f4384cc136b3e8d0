-- What is decided of staged roles, from what was computed of them.
use Rattle.std.proofs.Common.{◌≡◌, ◌<◌, ◌≤◌, ◌↔◌, ℕ, List, length, Result, Err, subst, inl, inr, refl}
use Rattle.std.proofs.lemmas.Bool.{cases_lt}
use Rattle.layout_roles.specs.declared.role.Role.{Role}
use Rattle.layout_roles.specs.declared.redundancy.Redundancy.{Redundancy}
use Rattle.layout_roles.specs.Zones.{storage_nodes, zone_names}
use Rattle.layout_roles.specs.Certificates.{zones_wanted, AreEnough, ShowsNone}
use Rattle.layout_roles.specs.declared.cut.Cut.{Cut}
use Rattle.layout_roles.specs.declared.certified.Certified.{Certified}
use Rattle.layout_size.specs.declared.fault.LayoutFault.{LayoutFault}
use Rattle.layout_size.specs.Answers.{IfNoAssignment}

-- nodes and zones are enough where neither is said to be too few
pub enough : (roles : List Role) (wanted : Redundancy) (result : Result Certified LayoutFault) →
    ((n : ℕ) → (result ≡ Err (LayoutFault.TooFewNodes n)) ↔ ((length (storage_nodes roles) ≡ n) × (n < 3))) →
    ((z r : ℕ) → (result ≡ Err (LayoutFault.TooFewZones z r)) ↔ ((3 ≤ length (storage_nodes roles)) × (length (zone_names roles) ≡ z) × (zones_wanted wanted roles ≡ r) × (z < r))) →
    ((n : ℕ) → result ≡ Err (LayoutFault.TooFewNodes n) → ⊥) → ((z r : ℕ) → result ≡ Err (LayoutFault.TooFewZones z r) → ⊥) → AreEnough roles wanted
enough roles wanted result nodes zones not_nodes not_zones =
    let count = length (storage_nodes roles) in
    let three : 3 ≤ count = elim (cases_lt count 3) [
      | inl few ↦ absurd (not_nodes count ((nodes count).1 (refl, few)))
      | inr many ↦ many
    ] in
    record {
      nodes = three;
      zones = elim (cases_lt (length (zone_names roles)) (zones_wanted wanted roles)) [
        | inl few ↦ absurd (not_zones (length (zone_names roles)) (zones_wanted wanted roles) ((zones (length (zone_names roles)) (zones_wanted wanted roles)).1 (three, refl, refl, few)))
        | inr many ↦ many
      ];
    }

pub shows : (roles : List Role) (r : ℕ) (fault : LayoutFault) (cut : Cut) → fault ≡ LayoutFault.NoAssignment cut → IfNoAssignment fault (ShowsNone roles r) → ShowsNone roles r cut
shows roles r fault cut e h = subst (λ f. IfNoAssignment f (ShowsNone roles r)) e h
