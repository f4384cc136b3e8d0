-- Laws that impls cite; no definition stands here.
-- A value alone is read as it is spelled.
use Rattle.std.proofs.Common.{◌≡◌, ℕ, Bool, true, false, cond, eqb, length, List, [], ◌++◌, Option, Some, None, refl, sym, ap, ◌∙◌}
use Rattle.std.specs.Prelude.{◌&&◌, ◌↔◌}
use Rattle.std.proofs.lemmas.List.{append-nil, nil_from_length}
use Rattle.std.proofs.lemmas.Bool.{eqb-true}
use Rattle.crdt_core.specs.EntryLaws.{and_parts}
use Rattle.row_codec.specs.Reads.{◌>>=◌, are_bytes, Reads, spelling_of, read_whole}
use Rattle.row_codec.specs.NumberLaws.{bind_some, some_is}

cond_true : {A : Type 0} (b : Bool) (o : Option A) (y : A) → cond b o None ≡ Some y → (b ≡ true) × (o ≡ Some y)
cond_true true o y e = (refl, e)
cond_true false o y e = absurd cc

module _ {X : Type 0} {in_range is_short : X → Bool} {spelled : X → List ℕ} {read : List ℕ → Option (X × List ℕ)} (reads : Reads in_range is_short spelled read) where
  pub whole_spelled : (x : X) → in_range x ≡ true → is_short x ≡ true → read_whole read (spelled x) ≡ Some x
  whole_spelled x fits short =
      let again : read (spelled x) ≡ Some (x, []) = ap read (sym (append-nil (spelled x))) ∙ reads.again x [] fits short in
      rw (reads.bytes x fits, again) refl

  pub whole_takes : (bytes : List ℕ) (x : X) → read_whole read bytes ≡ Some x → (bytes ≡ spelled x) × (in_range x ≡ true) × (is_short x ≡ true)
  whole_takes bytes x e =
      let a = cond_true (are_bytes bytes) (read bytes >>= λ found. cond (eqb (length found.1) 0) (Some found.0) None) x e in
      let b = bind_some (read bytes) (λ found. cond (eqb (length found.1) 0) (Some found.0) None) x a.1 in
      let c = cond_true (eqb (length b.0.1) 0) (Some b.0.0) x b.2 in
      let t = reads.takes bytes b.0.0 b.0.1 a.0 b.1 in
      let nothing : b.0.1 ≡ [] = nil_from_length b.0.1 (eqb-true _ _ c.0) in
      let whole : bytes ≡ spelled b.0.0 = t.parts ∙ ap (λ (y : List ℕ). spelled b.0.0 ++ y) nothing ∙ append-nil (spelled b.0.0) in
      let same : b.0.0 ≡ x = some_is _ _ c.1 in
      (whole ∙ ap spelled same, ap in_range (sym same) ∙ t.fits, ap is_short (sym same) ∙ t.short)

  -- bytes are read as a value exactly where they are its spelling
  pub whole_back : (x : X) (bytes : List ℕ) → (read_whole read bytes ≡ Some x) ↔ (spelling_of in_range is_short spelled x ≡ Some bytes)
  whole_back x bytes = (
    (λ e. let t = whole_takes bytes x e in rw (t.1, t.2) (ap Some (sym t.0))),
    (λ e.
        let a = cond_true (in_range x && is_short x) (Some (spelled x)) bytes e in
        let b = and_parts (in_range x) (is_short x) a.0 in
        ap (read_whole read) (sym (some_is _ _ a.1)) ∙ whole_spelled x b.0 b.1),
  )
