-- The request at a number, and requests that are shut.
use Rattle.std.proofs.Common.{◌≡◌, ℕ, zero, suc, ◌+◌, ◌-◌, ◌<◌, ◌≤◌, false, Some, None, List, [], ◌∷◌, ◌++◌, length, map, take, get_or, refl, sym, ap, ◌∙◌, arith}
use Rattle.std.proofs.lemmas.Option.{slice_get-get_or, slice_get_past, slice_get-map}
use Rattle.std.proofs.lemmas.List.{map-set, take_more}
use Rattle.std.specs.Prelude.{option_map, slice_get, slice_set}
use Rattle.cluster_machine.specs.World as machine
use Rattle.cluster_machine.specs.World.{numbered}
use Rattle.cluster_machine.specs.Step.{shut, shut_one}
use Rattle.world_core.specs.declared.requests.Request.{Request}
use Rattle.world_core.specs.Parts.{asked}

pub numbered_back : {A : Type 0} (xs : List A) (n : ℕ) → 1 ≤ n → numbered xs n ≡ slice_get xs (n - 1)
numbered_back xs zero low = absurd (omega arith)
numbered_back xs (suc n) low = let e : n ≡ suc n - 1 = omega arith in ap (slice_get xs) e

numbered_at : {A : Type 0} (xs : List A) (n : ℕ) (d : A) → 1 ≤ n → n ≤ length xs → numbered xs n ≡ Some (get_or xs (n - 1) d)
numbered_at xs n d low high = numbered_back xs n low ∙ slice_get-get_or xs (n - 1) d (omega arith)

pub numbered_low : {A : Type 0} (xs : List A) (n : ℕ) → n < 1 → numbered xs n ≡ None
numbered_low xs zero low = refl
numbered_low xs (suc n) low = absurd (omega arith)

pub numbered_past : {A : Type 0} (xs : List A) (n : ℕ) → length xs < n → numbered xs n ≡ None
numbered_past xs zero past = refl
numbered_past xs (suc n) past = slice_get_past xs n (omega arith)

numbered-map : {A B : Type 0} (f : A → B) (xs : List A) (n : ℕ) → numbered (map f xs) n ≡ option_map f (numbered xs n)
numbered-map f xs zero = refl
numbered-map f xs (suc n) = slice_get-map f xs n

pub asked_at : (rs : List Request) (n : ℕ) (d : Request) → 1 ≤ n → n ≤ length rs → option_map asked (Some (get_or rs (n - 1) d)) ≡ numbered (map asked rs) n
asked_at rs n d low high = sym (numbered-map asked rs n ∙ ap (option_map asked) (numbered_at rs n d low high))

pub shut_at : (rs : List Request) (n : ℕ) (d r : Request) → 1 ≤ n → n ≤ length rs → asked r ≡ record (asked (get_or rs (n - 1) d)) { is_open = false } →
    map asked (slice_set rs (n - 1) r) ≡ shut (map asked rs) (n ∷ [])
shut_at rs n d r low high e =
    rw (sym (asked_at rs n d low high)) (map-set asked rs (n - 1) r ∙ ap (slice_set (map asked rs) (n - 1)) e)

shut-append : (rs : List machine.Request) (ns ms : List ℕ) → shut rs (ns ++ ms) ≡ shut (shut rs ns) ms
shut-append rs [] ms = refl
shut-append rs (n ∷ ns) ms = shut-append (shut_one rs n (numbered rs n)) ns ms

pub shut_more : (rs : List machine.Request) (ns : List ℕ) (i d : ℕ) → i < length ns → shut (shut rs (take i ns)) (get_or ns i d ∷ []) ≡ shut rs (take (i + 1) ns)
shut_more rs ns i d h = sym (ap (shut rs) (take_more ns i d h) ∙ shut-append rs (take i ns) (get_or ns i d ∷ []))
