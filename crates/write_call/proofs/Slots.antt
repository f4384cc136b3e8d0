-- Tallies and their slots, place by place.
use Rattle.std.proofs.Common.{◌≡◌, ℕ, zero, suc, ◌+◌, ◌<◌, ◌≤◌, Bool, true, false, ◌&&◌, List, [], ◌∷◌, ◌++◌, length, get_or, set, drop, refl, sym, ap, ◌∙◌, add-one, arith}
use Rattle.quorum_model.specs.Quorum.{StoreSlot, reached, is_kept, with_confirmation}
use Rattle.quorum_tally.specs.declared.tally.Tally.{Tally}
use Rattle.quorum_tally.specs.Stands.{Tallies}
use Rattle.write_call.specs.Stands.{AreTallies}

pub kept_step : (slots : List Tally) (stored : List StoreSlot) (i : ℕ) (d : Tally) (b : Bool) (from : ℕ) → AreTallies slots stored → i < length slots →
    ((first : ℕ) (sets : List (List ℕ)) (nodes : List ℕ) → Tallies (get_or slots i d) first sets nodes → b ≡ reached first sets nodes from) →
    is_kept (drop i stored) from ≡ (b && is_kept (drop (suc i) stored) from)
kept_step [] stored i d b from h lt e = absurd (omega (arith, lt))
kept_step (t ∷ ts) [] i d b from h lt e = absurd h
kept_step (t ∷ ts) (s ∷ ss) zero d b from h lt e = rw (e s.first s.sets s.nodes h.0) refl
kept_step (t ∷ ts) (s ∷ ss) (suc i) d b from h lt e = kept_step ts ss i d b from h.1 (omega (arith, lt)) e

module _ (slots : List Tally) (stored : List StoreSlot) (i : ℕ) (d : Tally) (b : Bool) (from : ℕ) (h : AreTallies slots stored) (lt : i < length slots)
    (e : (first : ℕ) (sets : List (List ℕ)) (nodes : List ℕ) → Tallies (get_or slots i d) first sets nodes → b ≡ reached first sets nodes from) (before : is_kept (drop i stored) from ≡ is_kept stored from) where
  pub kept_so_far : b ≡ true → is_kept (drop (i + 1) stored) from ≡ is_kept stored from
  kept_so_far so =
      rw (add-one i) (sym (kept_step slots stored i d b from h lt e ∙ ap (λ t. t && is_kept (drop (suc i) stored) from) so) ∙ before)

  pub not_kept : b ≡ false → false ≡ is_kept stored from
  not_kept so = sym (kept_step slots stored i d b from h lt e ∙ ap (λ t. t && is_kept (drop (suc i) stored) from) so) ∙ before

pub kept_end : (slots : List Tally) (stored : List StoreSlot) (i from : ℕ) → AreTallies slots stored → length slots ≤ i → is_kept (drop i stored) from ≡ true
kept_end [] [] zero from h le = refl
kept_end [] [] (suc i) from h le = refl
kept_end [] (s ∷ ss) i from h le = absurd h
kept_end (t ∷ ts) [] i from h le = absurd h
kept_end (t ∷ ts) (s ∷ ss) zero from h le = absurd (omega (arith, le))
kept_end (t ∷ ts) (s ∷ ss) (suc i) from h le = kept_end ts ss i from h.1 (omega (arith, le))

pub confirmed_at : (slots : List Tally) (stored : List StoreSlot) (place node : ℕ) (d new : Tally) → AreTallies slots stored → place < length slots →
    ((first : ℕ) (sets : List (List ℕ)) (nodes : List ℕ) → Tallies (get_or slots place d) first sets nodes → Tallies new first sets (nodes ++ node ∷ [])) →
    AreTallies (set slots place new) (with_confirmation stored place node)
confirmed_at [] stored place node d new h lt e = absurd (omega (arith, lt))
confirmed_at (t ∷ ts) [] place node d new h lt e = absurd h
confirmed_at (t ∷ ts) (s ∷ ss) zero node d new h lt e = (e s.first s.sets s.nodes h.0, h.1)
confirmed_at (t ∷ ts) (s ∷ ss) (suc place) node d new h lt e = (h.0, confirmed_at ts ss place node d new h.1 (omega (arith, lt)) e)

pub unknown_place : (slots : List Tally) (stored : List StoreSlot) (place node : ℕ) → AreTallies slots stored → length slots ≤ place → with_confirmation stored place node ≡ stored
unknown_place [] [] place node h le = refl
unknown_place [] (s ∷ ss) place node h le = absurd h
unknown_place (t ∷ ts) [] place node h le = absurd h
unknown_place (t ∷ ts) (s ∷ ss) zero node h le = absurd (omega (arith, le))
unknown_place (t ∷ ts) (s ∷ ss) (suc place) node h le = ap (λ rest. s ∷ rest) (unknown_place ts ss place node h.1 (omega (arith, le)))
