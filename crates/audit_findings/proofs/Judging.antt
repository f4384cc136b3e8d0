-- Each history is fresh or has a first stale read, and all prints are lawful or one is the first that isn't.
use Rattle.std.proofs.Common.{◌≡◌, ◌+◌, ◌⊎◌, inl, inr, ℕ, zero, suc, Bool, true, false, nat_lt, Option, Some, None, List, [], ◌∷◌, length, refl, sym, ap, subst, ◌∙◌, arith}
use Rattle.std.specs.List.{AllByRecursion}
use Rattle.std.proofs.lemmas.Bool.{ltb-true, lt-ltb}
use Rattle.layout_roles.specs.declared.vertex.Vertex.TheVariants.{Source, Sink}
use Rattle.layout_roles.specs.Certificates.{zones_wanted}
use Rattle.layout_roles.specs.Cuts.{weight}
use Rattle.layout_roles.specs.Network.{network}
use Rattle.layout_judge.specs.Tests.{passes}
use Rattle.layout_judge.proofs.Fitting.{fits_decides}
use Rattle.side_model.specs.Sides.{set_of}
use Rattle.history_model.specs.declared.record.Record.{Record}
use Rattle.history_model.specs.Fresh.{Fresh}
use Rattle.stale_model.specs.Stale.{IsFirstStale}
use Rattle.world_history.specs.Checks.{stale_at, earlier_of, IsFirstBelow}
use Rattle.world_history.proofs.First.{first_none, first_more, first_of, fresh_none}
use Rattle.audit_model.specs.Printed.{Staged, Printed, Print, IsLawful, IsLawfulPrint, IsUnlawful}

-- ---- histories

-- the first place below one number that some number has, or none
first_below : (p : ℕ → Option (ℕ × ℕ)) (n : ℕ) → (r : Option (ℕ × ℕ)) × IsFirstBelow p n r
first_below p zero = (None, first_none p)
first_below p (suc n) =
    let before = first_below p n in
    let next : n + 1 ≡ suc n = omega arith in
    (earlier_of before.0 (p n), subst (λ m. IsFirstBelow p m (earlier_of before.0 (p n))) next (first_more p n before.0 before.1))

pub fresh_or_stale : (h : List Record) → Fresh h ⊎ ((q : ℕ) × IsFirstStale h q)
fresh_or_stale h = let found = first_below (stale_at h) (length h) in by_first found.0 found.1
  where
    by_first : (r : Option (ℕ × ℕ)) → IsFirstBelow (stale_at h) (length h) r → Fresh h ⊎ ((q : ℕ) × IsFirstStale h q)
    by_first None first = inl (fresh_none h first)
    by_first (Some a) first = inr (a.1, first_of h a first)

-- ---- prints

module _ (s : Staged) (p : Printed) where
  abbrev r : ℕ
  r = zones_wanted s.wanted s.roles

  abbrev heavy : ℕ
  heavy = weight (network s.roles r (p.size + 1)) (set_of p.side)

  abbrev Judged : Type 0
  Judged = IsLawful s p ⊎ (IsLawful s p → ⊥)

  by_tests : (a b c d e : Bool) → nat_lt 0 p.size ≡ a → passes s.roles r p.size p.sets ≡ b → set_of p.side Source ≡ c → set_of p.side Sink ≡ d → nat_lt heavy 768 ≡ e → Judged
  by_tests false b c d e is_a is_b is_c is_d is_e = inr (λ h. let no : false ≡ true = sym is_a ∙ lt-ltb 0 p.size h.some in cc)
  by_tests true false c d e is_a is_b is_c is_d is_e = inr (λ h. let no : false ≡ true = sym is_b ∙ (fits_decides s.roles r p.size p.sets).1 h.fits in cc)
  by_tests true true false d e is_a is_b is_c is_d is_e = inr (λ h. let no : false ≡ true = sym is_c ∙ h.cut.source in cc)
  by_tests true true true true e is_a is_b is_c is_d is_e = inr (λ h. let no : true ≡ false = sym is_d ∙ h.cut.sink in cc)
  by_tests true true true false false is_a is_b is_c is_d is_e = inr (λ h. let no : false ≡ true = sym is_e ∙ lt-ltb heavy 768 h.light in cc)
  by_tests true true true false true is_a is_b is_c is_d is_e =
      inl (record { some = ltb-true 0 p.size is_a; fits = (fits_decides s.roles r p.size p.sets).0 is_b; cut = record { source = is_c; sink = is_d }; light = ltb-true heavy 768 is_e })

  pub lawful_or_not : IsLawful s p ⊎ (IsLawful s p → ⊥)
  lawful_or_not = by_tests (nat_lt 0 p.size) (passes s.roles r p.size p.sets) (set_of p.side Source) (set_of p.side Sink) (nat_lt heavy 768) refl refl refl refl refl

pub lawful_or_first : (ps : List Print) → AllByRecursion IsLawfulPrint ps ⊎ ((k : ℕ) × IsUnlawful ps k)
lawful_or_first [] = inl tt
lawful_or_first (p ∷ ps) = by_one (lawful_or_not p.staged p.printed) (lawful_or_first ps)
  where
    by_one : IsLawfulPrint p ⊎ (IsLawfulPrint p → ⊥) → AllByRecursion IsLawfulPrint ps ⊎ ((k : ℕ) × IsUnlawful ps k) → AllByRecursion IsLawfulPrint (p ∷ ps) ⊎ ((k : ℕ) × IsUnlawful (p ∷ ps) k)
    by_one (inr fails) later = inr (p.place, record { before = []; one = p; later = ps; whole = refl; lawful = tt; unlawful = fails; place = refl })
    by_one (inl holds) (inl all) = inl (holds, all)
    by_one (inl holds) (inr found) =
        let u = found.1 in
        inr (found.0, record { before = p ∷ u.before; one = u.one; later = u.later; whole = ap (λ x. p ∷ x) u.whole; lawful = (holds, u.lawful); unlawful = u.unlawful; place = u.place })
