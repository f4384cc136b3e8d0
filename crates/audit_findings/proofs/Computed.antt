-- From the same roles a layout of one size is computed each time, or it is refused in the same words.
use Rattle.std.proofs.Common.{◌≡◌, ◌≤◌, ◌<◌, ℕ, length, List, sym, ap, subst, ◌∙◌, ◌++◌, inl, inr, arith}
use Rattle.std.specs.Prelude.{codes}
use Rattle.std.proofs.lemmas.Bool.{cases_lt}
use Rattle.layout_roles.specs.declared.role.Role.{Role}
use Rattle.layout_roles.specs.declared.redundancy.Redundancy.{Redundancy}
use Rattle.layout_roles.specs.declared.certified.Certified.{Certified}
use Rattle.layout_roles.specs.declared.cut.Cut.{Cut}
use Rattle.layout_roles.specs.declared.layout.Layout.{Layout}
use Rattle.layout_roles.specs.Zones.{storage_nodes, zone_names}
use Rattle.layout_roles.specs.Fits.{NodeSet, Fits}
use Rattle.layout_roles.specs.Certificates.{zones_wanted, AreEnough, IsCertified, ShowsNone}
use Rattle.layout_roles.specs.Text.{number}
use Rattle.cluster_machine.specs.declared.applied.Applied.{Applied}
use Rattle.cluster_machine.specs.declared.step.Refusal.{Refusal}
use Rattle.cluster_machine.specs.declared.step.Refusal.TheVariants.{VersionTaken, VersionLimit, NotMember, NoSuchBucket, NoSuchMessage, Lost, NoSuchRequest, AlreadyEnded, TooFewNodes, TooFewZones, NoAssignment}
use Rattle.cluster_machine.specs.Choices.{Decision, IsBest, IsRefused, IsComputed}
use Rattle.cluster_machine.specs.Step.{given, none_given}
use Rattle.text_model.specs.Transcript.{refusal_text}
use Rattle.audit_findings.specs.Alone.{AreOneAnswer}

-- what fits a size fits each smaller one
abbrev SmallerSizes : Type 0
SmallerSizes = (roles : List Role) (r small great : ℕ) (sets : List NodeSet) → 0 < small → small ≤ great → Fits roles r great sets → Fits roles r small sets

module _ (smaller_sizes : SmallerSizes) (roles : List Role) (wanted : Redundancy) where
  -- no certified size is below another
  not_below : (a b : Certified) → IsCertified roles wanted a → IsCertified roles wanted b → b.size ≤ a.size
  not_below a b h k =
      elim (cases_lt a.size b.size) as (λ _. b.size ≤ a.size) [
        | inl less ↦ absurd (h.above b.size less b.sets.sets (subst (λ r. Fits roles r b.size b.sets.sets) (k.redundancy ∙ sym h.redundancy) k.greatest.fits))
        | inr most ↦ most
      ]

  -- why there is no layout
  data Cause : Refusal Cut → Type 0 where
    few_nodes : (nodes : ℕ) → length (storage_nodes roles) ≡ nodes → nodes < 3 → Cause (TooFewNodes nodes)
    few_zones : (zones r : ℕ) → 3 ≤ length (storage_nodes roles) → length (zone_names roles) ≡ zones → zones_wanted wanted roles ≡ r → zones < r → Cause (TooFewZones zones r)
    none_fits : (cut : Cut) → AreEnough roles wanted → ShowsNone roles (zones_wanted wanted roles) cut → Cause (NoAssignment cut)

  cause_of : (q : Refusal Cut) → IsRefused roles wanted q → Cause q
  cause_of (TooFewNodes nodes) h = few_nodes nodes h.0 h.1
  cause_of (TooFewZones zones r) h = few_zones zones r h.0 h.1 h.2 h.3
  cause_of (NoAssignment cut) h = none_fits cut h.0 h.1
  cause_of (VersionTaken v) h = absurd h
  cause_of VersionLimit h = absurd h
  cause_of NotMember h = absurd h
  cause_of NoSuchBucket h = absurd h
  cause_of NoSuchMessage h = absurd h
  cause_of Lost h = absurd h
  cause_of NoSuchRequest h = absurd h
  cause_of AlreadyEnded h = absurd h

  -- the cut of least weight has one weight
  one_weight : (a b : Cut) → ShowsNone roles (zones_wanted wanted roles) a → ShowsNone roles (zones_wanted wanted roles) b → a.weight ≡ b.weight
  one_weight a b h k =
      let below = h.printed.printed.least k.printed.set k.printed.printed.cut in
      let above = k.printed.printed.least h.printed.set h.printed.printed.cut in
      let one = h.printed.weighs in
      let other = k.printed.weighs in
      omega arith

  one_cause : {p q : Refusal Cut} → Cause p → Cause q → refusal_text p ≡ refusal_text q
  one_cause (few_nodes n a b) (few_nodes m c d) = ap (λ x. codes "TooFewNodes" ++ number x) (sym a ∙ c)
  one_cause (few_nodes n a b) (few_zones z r c d e f) = absurd (omega arith)
  one_cause (few_nodes n a b) (none_fits cut c d) = absurd (let enough = c.nodes in omega arith)
  one_cause (few_zones z r c d e f) (few_nodes n a b) = absurd (omega arith)
  one_cause (few_zones z r a b c d) (few_zones y q e f g h) = λ i. codes "TooFewZones" ++ number ((sym b ∙ f) i) ++ number ((sym c ∙ g) i)
  one_cause (few_zones z r a b c d) (none_fits cut e f) = absurd (let enough = e.zones in omega arith)
  one_cause (none_fits cut c d) (few_nodes n a b) = absurd (let enough = c.nodes in omega arith)
  one_cause (none_fits cut e f) (few_zones z r a b c d) = absurd (let enough = e.zones in omega arith)
  one_cause (none_fits a b c) (none_fits d e f) = ap (λ x. codes "NoAssignment" ++ number x) (one_weight a d c f)

  -- where there is a layout there is no cause
  not_both : (version : ℕ) (l : Layout) (shown : Applied) {q : Refusal Cut} → IsBest roles wanted version l shown → Cause q → ⊥
  not_both version l shown h (few_nodes n a b) = let enough = h.enough.nodes in omega arith
  not_both version l shown h (few_zones z r a b c d) = let enough = h.enough.zones in omega arith
  not_both version l shown h (none_fits cut a b) =
      let sets = shown.certified.sets.sets in
      let some : 0 < shown.certified.size = h.certified.some in
      let fits : Fits roles (zones_wanted wanted roles) shown.certified.size sets = subst (λ r. Fits roles r shown.certified.size sets) h.certified.redundancy h.certified.greatest.fits in
      b.none sets (smaller_sizes roles (zones_wanted wanted roles) 1 shown.certified.size sets (omega arith) (omega arith) fits)

  pub one_answer : (version : ℕ) (c d : Decision) → IsComputed roles wanted version c → IsComputed roles wanted version d → AreOneAnswer c d
  one_answer version (given l a) (given m b) h k =
      let below = not_below a.certified b.certified h.certified k.certified in
      let above = not_below b.certified a.certified k.certified h.certified in
      omega arith
  one_answer version (given l a) (none_given q) h k = absurd (not_both version l a h (cause_of q k))
  one_answer version (none_given p) (given m b) h k = absurd (not_both version m b k (cause_of p h))
  one_answer version (none_given p) (none_given q) h k = one_cause (cause_of p h) (cause_of q k)
