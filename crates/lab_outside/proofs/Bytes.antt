-- Reads and writes one after the other.
use Rattle.std.proofs.Common.{◌≡◌, ℕ, ◌+◌, ◌≤◌, Option, Some, None, List, [], ◌++◌, refl, sym, ◌∙◌, ap, append_assoc, append-nil, length, take, drop, length-take-le}
use Rattle.std.proofs.lemmas.List.{drop-drop, take-append-drop, take_at}
use Rattle.std.specs.Io.KnownBytes.{Consumes}
use Rattle.lab_outside.specs.Bytes.{Wrote, WrotePrefix}

pub wrote_none : (o : Option (List ℕ)) → Wrote o o []
wrote_none None = tt
wrote_none (Some w) = sym (append-nil w)

pub wrote_more : (old mid new : Option (List ℕ)) (a b : List ℕ) → Wrote old mid a → Wrote mid new b → Wrote old new (a ++ b)
wrote_more old mid None a b h k = tt
wrote_more old None (Some w) a b h k = absurd k
wrote_more None (Some m) (Some w) a b h k = absurd h
wrote_more (Some o) (Some m) (Some w) a b h k = k ∙ ap (λ t. t ++ b) h ∙ append_assoc o a b

pub consumes_none : (o : Option (List ℕ)) → Consumes o o []
consumes_none None = tt
consumes_none (Some w) = refl

pub consumes_more : (old mid new : Option (List ℕ)) (a b : List ℕ) → Consumes old mid a → Consumes mid new b → Consumes old new (a ++ b)
consumes_more None mid new a b h k = tt
consumes_more (Some o) None new a b h k = absurd h
consumes_more (Some o) (Some m) None a b h k = absurd k
consumes_more (Some o) (Some m) (Some w) a b h k = h ∙ ap (λ t. a ++ t) k ∙ sym (append_assoc a b w)

-- of `bytes` all but `rest` was written
pub record Written (old now : Option (List ℕ)) (bytes rest : List ℕ) : Type 0 where
  pub front : List ℕ
  pub whole : front ++ rest ≡ bytes
  pub wrote : Wrote old now front

pub written_none : (old : Option (List ℕ)) (bytes : List ℕ) → Written old old bytes bytes
written_none old bytes = record { front = []; whole = refl; wrote = wrote_none old }

pub written_more : (old now new : Option (List ℕ)) (bytes rest : List ℕ) (n : ℕ) → Written old now bytes rest → Wrote now new (take n rest) → Written old new bytes (drop n rest)
written_more old now new bytes rest n w k =
    record {
      front = w.front ++ take n rest;
      whole = append_assoc w.front (take n rest) (drop n rest) ∙ ap (λ t. w.front ++ t) (take-append-drop n rest) ∙ w.whole;
      wrote = wrote_more old now new w.front (take n rest) w.wrote k;
    }

-- a first part of what comes next is a first part of both
pub wrote_prefix_after : (old mid new : Option (List ℕ)) (a b : List ℕ) → Wrote old mid a → WrotePrefix mid new b → WrotePrefix old new (a ++ b)
wrote_prefix_after old mid new a b h k =
    record {
      front = a ++ k.front;
      rest = k.rest;
      whole = append_assoc a k.front k.rest ∙ ap (λ t. a ++ t) k.whole;
      wrote = wrote_more old mid new a k.front h k.wrote;
    }

-- a first part of a text is one of each text that goes on from there
pub wrote_prefix_more : (old new : Option (List ℕ)) (a b : List ℕ) → WrotePrefix old new a → WrotePrefix old new (a ++ b)
wrote_prefix_more old new a b k =
    record {
      front = k.front;
      rest = k.rest ++ b;
      whole = sym (append_assoc k.front k.rest b) ∙ ap (λ t. t ++ b) k.whole;
      wrote = k.wrote;
    }

pub wrote_prefix_whole : (old new : Option (List ℕ)) (bytes : List ℕ) → Wrote old new bytes → WrotePrefix old new bytes
wrote_prefix_whole old new bytes h = record { front = bytes; rest = []; whole = append-nil bytes; wrote = h }

-- a copy of the front of what is left, into a piece
pub give_splits : (xs : List ℕ) (p n : ℕ) (into copied : List ℕ) → copied ≡ take n (drop p xs) → n ≤ length (drop p xs) → drop p xs ≡ take n (copied ++ drop n into) ++ drop (p + n) xs
give_splits xs p n into copied e h =
    let k : length copied ≡ n = ap length e ∙ length-take-le n (drop p xs) h in
    rw (take_at copied (drop n into) n k, e, ← drop-drop n p xs) (sym (take-append-drop n (drop p xs)))
