-- The bytes of an upload, part by part.
use Rattle.std.proofs.Common.{◌≡◌, ◌+◌, ◌<◌, ◌≤◌, ◌==◌, ℕ, true, false, IsSome, Option, Some, List, [], ◌++◌, length, Ok, Err, refl, sym, ap, ◌∙◌, subst, append_assoc, length-append, arith}
use Rattle.lab_outside.specs.Connection.{Connection, OnPresent}
use Rattle.std.proofs.lemmas.Bool.{eqb-true, eqb-false}
use Rattle.lab_outside.proofs.Present.{on_present_then, of_present}
use Rattle.lab_outside.specs.Rose.{Rose}
use Rattle.http_wire.specs.declared.head.HeadEnd.TheVariants.{Closed, Failed, Memory as Wanting}
use Rattle.http_wire.specs.Reading.{ReadsBody, IsBodyOf, OnAll}
use Rattle.serve_model.specs.declared.request.Request.{Request}
use Rattle.serve_model.specs.declared.upload.Upload.{Upload}
use Rattle.serve_model.specs.Stores.{Job, leave}
use Rattle.serve_loop.specs.declared.sums.Sums.{Sums}
use Rattle.serve_loop.specs.Sums.{AreSums}
use Rattle.serve_loop.specs.Uploads.{IsNeedOf, Takes, IsTaken, EachTaken}
use Rattle.serve_loop.specs.Taking.{IsQuiet, IsFailed, CameFirst, CameShort, IsBegun, EachBegun, AreAdded}
use Rattle.serve_loop.proofs.Serving.{on_present_both, none_read, all_more}

-- so far a connection was read
abbrev pub ReadSo : List ℕ → List ℕ → List ℕ → Connection → Connection → Type 0
ReadSo came kept kept' c d = IsQuiet c d × OnAll (CameFirst came) kept kept' c d

-- ---- one part more was read

module _ (came kept before kept' : List ℕ) (size : ℕ) (o m n : Option Connection) (first : OnPresent (ReadSo came before kept) o m) where
  -- all of it
  pub read_on : (part : List ℕ) → OnPresent (ReadsBody kept size (Ok part) kept') m n → OnPresent (OnAll (λ all rest. IsBodyOf all size (Ok part) rest) kept kept') m n → OnPresent (ReadSo (came ++ part) before kept') o n
  read_on part reads told =
      let A : Connection → Connection → Type 0 = ReadsBody kept size (Ok part) kept' in
      let B : Connection → Connection → Type 0 = OnAll (λ all rest. IsBodyOf all size (Ok part) rest) kept kept' in
      on_present_then (ReadSo came before kept) (λ d f. A d f × B d f) (ReadSo (came ++ part) before kept') o m n
      (λ c d f a b.
      let same = b.0.takes.steady in (
        record { unwritten = b.0.takes.unwritten ∙ a.0.unwritten; steady = same ∙ a.0.steady },
        all_more (CameFirst came) (λ all rest. IsBodyOf all size (Ok part) rest) (CameFirst (came ++ part)) before kept kept' c.left d.left f.left (λ all more rest e is. e ∙ (ap (λ (later : List ℕ). came ++ later) is.whole ∙ sym (append_assoc came part rest))) a.1 b.1,
      )) first (on_present_both A B (λ d f. A d f × B d f) m n (λ d f x y. (x, y)) reads told)

  -- not all: the input ended
  pub read_short : OnPresent (ReadsBody kept size (Err Closed) kept') m n → OnPresent (OnAll (λ all rest. IsBodyOf all size (Err Closed) rest) kept kept') m n → OnPresent (λ c d. IsQuiet c d × OnAll (CameShort came (Some size)) before kept' c d) o n
  read_short reads told =
      let A : Connection → Connection → Type 0 = ReadsBody kept size (Err Closed) kept' in
      let B : Connection → Connection → Type 0 = OnAll (λ all rest. IsBodyOf all size (Err Closed) rest) kept kept' in
      on_present_then (ReadSo came before kept) (λ d f. A d f × B d f) (λ c d. IsQuiet c d × OnAll (CameShort came (Some size)) before kept' c d) o m n
      (λ c d f a b.
      let same = b.0.0.steady in (
        record { unwritten = b.0.0.unwritten ∙ a.0.unwritten; steady = same ∙ a.0.steady },
        all_more (CameFirst came) (λ all rest. IsBodyOf all size (Err Closed) rest) (CameShort came (Some size)) before kept kept' c.left d.left f.left
            (λ all more rest e is. (e ∙ ap (λ (later : List ℕ). came ++ later) (sym is.1), subst (λ (bytes : List ℕ). length bytes < size) (sym is.1) is.0)) a.1 b.1,
      )) first (on_present_both A B (λ d f. A d f × B d f) m n (λ d f x y. (x, y)) reads told)

  -- not all: the link failed
  pub read_failed : OnPresent (ReadsBody kept size (Err Failed) kept') m n → OnPresent (OnAll (λ all rest. IsBodyOf all size (Err Failed) rest) kept kept') m n → OnPresent (λ c d. IsFailed c d × OnAll (CameFirst came) before kept' c d) o n
  read_failed reads told =
      let A : Connection → Connection → Type 0 = ReadsBody kept size (Err Failed) kept' in
      let B : Connection → Connection → Type 0 = OnAll (λ all rest. IsBodyOf all size (Err Failed) rest) kept kept' in
      on_present_then (ReadSo came before kept) (λ d f. A d f × B d f) (λ c d. IsFailed c d × OnAll (CameFirst came) before kept' c d) o m n
      (λ c d f a b.
      let more = b.0.2 in
      let same = a.0.steady in (
        record { unwritten = b.0.0.unwritten ∙ a.0.unwritten; rose = subst (λ k. Rose k f.faults) a.0.steady b.0.1; counted = omega (arith, same, more) },
        all_more (CameFirst came) (λ all rest. IsBodyOf all size (Err Failed) rest) (CameFirst came) before kept kept' c.left d.left f.left (λ all more rest e is. e ∙ ap (λ (later : List ℕ). came ++ later) (sym is)) a.1 b.1,
      )) first (on_present_both A B (λ d f. A d f × B d f) m n (λ d f x y. (x, y)) reads told)

  -- memory was wanting
  pub read_wanting : OnPresent (ReadsBody kept size (Err Wanting) kept') m n → OnPresent (OnAll (λ all rest. IsBodyOf all size (Err Wanting) rest) kept kept') m n → OnPresent (ReadSo came before kept') o n
  read_wanting reads told =
      let A : Connection → Connection → Type 0 = ReadsBody kept size (Err Wanting) kept' in
      let B : Connection → Connection → Type 0 = OnAll (λ all rest. IsBodyOf all size (Err Wanting) rest) kept kept' in
      on_present_then (ReadSo came before kept) (λ d f. A d f × B d f) (ReadSo came before kept') o m n
      (λ c d f a b.
      let same = b.0.0.steady in (
        record { unwritten = b.0.0.unwritten ∙ a.0.unwritten; steady = same ∙ a.0.steady },
        all_more (CameFirst came) (λ all rest. IsBodyOf all size (Err Wanting) rest) (CameFirst came) before kept kept' c.left d.left f.left (λ all more rest e is. e ∙ ap (λ (later : List ℕ). came ++ later) (sym is)) a.1 b.1,
      )) first (on_present_both A B (λ d f. A d f × B d f) m n (λ d f x y. (x, y)) reads told)

-- the part has as many bytes as were wanted
pub part_size : (kept kept' part : List ℕ) (size : ℕ) (m n : Option Connection) → IsSome m → OnPresent (ReadsBody kept size (Ok part) kept') m n → length part ≡ size
part_size kept kept' part size m n some reads = of_present (ReadsBody kept size (Ok part) kept') (length part ≡ size) m n some (λ c d r. r.body_is.size_is) reads

-- ---- how far an upload has come

-- these bytes of it were taken, so many are to come, and so many are needed next
pub record SoFar {S : Type 0} (old new : S → ℕ → Upload → List ℕ → Option ℕ → Type 0) (size : ℕ) (first need : Option ℕ) (left : ℕ) (before after : Sums) (kept kept' : List ℕ) (o m : Option Connection) : Type 0 where
  pub came : List ℕ
  pub left_is : left + length came ≡ size
  pub takes : EachBegun old size first (λ s time u. Takes (new s time) u came need)
  pub sums : AreAdded before after came
  pub read : OnPresent (ReadSo came kept kept') o m

-- none of them at first
pub so_far_none : {S : Type 0} (takes : S → ℕ → Upload → List ℕ → Option ℕ → Type 0) (size : ℕ) (first : Option ℕ) (sums : Sums) (kept : List ℕ) (o : Option Connection) → SoFar takes takes size first first size sums sums kept kept o o
so_far_none takes size first sums kept o = record { came = []; left_is = omega arith; takes = λ s time u is h. h; sums = λ r h. h; read = none_read (CameFirst []) kept o (λ all. refl) }

module _ {S : Type 0} (old mid : S → ℕ → Upload → List ℕ → Option ℕ → Type 0) (size : ℕ) (first : Option ℕ) (left : ℕ) (before sums : Sums) (kept kept' : List ℕ) (o m : Option Connection) (begun : IsBegun old size first) (need : Option ℕ) (h : SoFar old mid size first need left before sums kept kept' o m) where
  -- what is known of the upload that was begun
  pub now_taken : Takes (mid begun.0 begun.1) begun.2 h.came need
  now_taken = h.takes begun.0 begun.1 begun.2 begun.3 begun.4

  -- what is needed next, where something is
  pub needs_some : (next : ℕ) → need ≡ Some next → (length h.came + next ≤ size) × (next ≡ 0 → length h.came ≡ size)
  needs_some next is =
      let some : IsNeedOf begun.2 h.came (Some next) = subst (IsNeedOf begun.2 h.came) is now_taken.1 in
      let same = begun.3 in
      let le = some.0 in (omega (arith, le, same), λ none. some.1 none ∙ same)

  -- no more than is to come
  pub fits_left : (next : ℕ) → need ≡ Some next → next ≤ left
  fits_left next is = (let le = (needs_some next is).0 in let sum = h.left_is in omega (arith, le, sum))

  -- one at least, while some are
  pub some_needed : (next : ℕ) → need ≡ Some next → 0 < left → 1 ≤ next
  some_needed next is lt =
      let none = (needs_some next is).1 in
      let sum = h.left_is in
      elim (next == 0) as (λ b. (next == 0) ≡ b → 1 ≤ next) [
        | true ↦ λ e. absurd (let all = none (eqb-true next 0 e) in omega (arith, all, sum, lt))
        | false ↦ λ e. (let other = eqb-false next 0 e in omega (arith, other))
      ] refl

  pub is_needed : (next : ℕ) (part : List ℕ) → need ≡ Some next → length part ≡ next → IsTaken mid (Some (length part))
  is_needed next part is len = (begun.0, begun.1, begun.2, h.came, subst (λ x. mid begun.0 begun.1 begun.2 h.came x) (is ∙ ap Some (sym len)) now_taken.0)

  -- no more are to come
  pub needs_none : left ≡ 0 → (next : ℕ) → need ≡ Some next → need ≡ Some 0
  needs_none none next is =
      let le = (needs_some next is).0 in
      let sum = h.left_is in
      let zero : next ≡ 0 = omega (arith, le, sum, none) in
      is ∙ ap Some zero

  -- a part more was taken
  module _ (next : ℕ) (is : need ≡ Some next) (part : List ℕ) (len : length part ≡ next) where
    each_taken : (new : S → ℕ → Upload → List ℕ → Option ℕ → Type 0) (later : Option ℕ) → EachTaken mid (Some (length part)) (λ s time u came. Takes (new s time) u (came ++ part) later) → EachBegun old size first (λ s time u. Takes (new s time) u (h.came ++ part) later)
    each_taken new later fed = λ s time u same b. fed s time u h.came (subst (λ x. mid s time u h.came x) (is ∙ ap Some (sym len)) (h.takes s time u same b).0)

    pub so_far_more : (new : S → ℕ → Upload → List ℕ → Option ℕ → Type 0) (later : Option ℕ) (less : ℕ) (sums' : Sums) (new_kept : List ℕ) (n : Option Connection) → less + next ≡ left → EachTaken mid (Some (length part)) (λ s time u came. Takes (new s time) u (came ++ part) later)
        → ((r : Request) (bytes : List ℕ) → AreSums r sums bytes → AreSums r sums' (bytes ++ part)) → OnPresent (ReadSo (h.came ++ part) kept new_kept) o n → SoFar old new size first later less before sums' kept new_kept o n
    so_far_more new later less sums' new_kept n fewer fed added reads = record {
      came = h.came ++ part;
      left_is = (let sum = h.left_is in let long = length-append h.came part in omega (arith, sum, long, fewer, len));
      takes = each_taken new later fed;
      sums = λ r b. added r h.came (h.sums r b);
      read = reads;
    }

    -- it has no room
    pub lacks_more : (lacks : S → ℕ → Job → Type 0) → EachTaken mid (Some (length part)) (λ s time u came. lacks s time (leave u (came ++ part))) → (length (h.came ++ part) ≤ size) × EachBegun old size first (λ s time u. lacks s time (leave u (h.came ++ part)))
    lacks_more lacks full = (
      (let le = (needs_some next is).0 in let long = length-append h.came part in omega (arith, le, long, len)),
      λ s time u same b. full s time u h.came (subst (λ x. mid s time u h.came x) (is ∙ ap Some (sym len)) (h.takes s time u same b).0),
    )
