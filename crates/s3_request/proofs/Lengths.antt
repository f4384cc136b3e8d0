-- The lengths that headers announce.
use Rattle.std.proofs.Common.{◌≡◌, ℕ, Bool, true, false, not, ◌&&◌, ◌||◌, List, [], ◌∷◌, map, filter, find, codes, bytes_eq, Option, Some, None, option_map, refl, ap, ◌∙◌}
use Rattle.std.specs.List.{list_all}
use Rattle.std.proofs.lemmas.Slice.Eq.{bytes_eq-Decides}
use Rattle.s3_model.specs.Numbers.{is_number, digit_limit}
use Rattle.s3_model.specs.Words.{is_word, header}
use Rattle.s3_model.specs.Headers.{lengths, differ, is_bad_length}

abbrev first_of : {A : Type 0} → List A → Option A
first_of [] = None
first_of (x ∷ xs) = Some x

all_one : {X Y : Type 0} (test : X → Bool) (p : Y → Bool) (f : X → Y) (x : X) (xs : List X) (t : Bool) → test x ≡ t →
    list_all (λ x. not (test x) || p (f x)) xs ≡ list_all p (map f (filter test xs)) →
    list_all (λ x. not (test x) || p (f x)) (x ∷ xs) ≡ list_all p (map f (filter test (x ∷ xs)))
all_one test p f x xs true e h = rw e (ap (λ b. p (f x) && b) h)
all_one test p f x xs false e h = rw e h

-- all that pass one test pass another
all_where : {X Y : Type 0} (test : X → Bool) (p : Y → Bool) (f : X → Y) (xs : List X) → list_all (λ x. not (test x) || p (f x)) xs ≡ list_all p (map f (filter test xs))
all_where test p f [] = refl
all_where test p f (x ∷ xs) = all_one test p f x xs (test x) refl (all_where test p f xs)

first_one : {X Y : Type 0} (test : X → Bool) (f : X → Y) (x : X) (xs : List X) (t : Bool) → test x ≡ t → option_map f (find test xs) ≡ first_of (map f (filter test xs)) →
    option_map f (find test (x ∷ xs)) ≡ first_of (map f (filter test (x ∷ xs)))
first_one test f x xs true e h = rw e refl
first_one test f x xs false e h = rw e h

-- the first that passes is the first of those that pass
first_where : {X Y : Type 0} (test : X → Bool) (f : X → Y) (xs : List X) → option_map f (find test xs) ≡ first_of (map f (filter test xs))
first_where test f [] = refl
first_where test f (x ∷ xs) = first_one test f x xs (test x) refl (first_where test f xs)

both_one : (a b c d : Bool) → ((a && b) && (c && d)) ≡ ((a && c) && (b && d))
both_one true true c d = refl
both_one true false true d = refl
both_one true false false d = refl
both_one false b c d = refl

all_both : {X : Type 0} (p q : X → Bool) (xs : List X) → list_all (λ x. p x && q x) xs ≡ (list_all p xs && list_all q xs)
all_both p q [] = refl
all_both p q (x ∷ xs) = ap (λ b. (p x && q x) && b) (all_both p q xs) ∙ both_one (p x) (q x) (list_all p xs) (list_all q xs)

not_all : (n e a b : Bool) → e ≡ true → not ((n && e) && (a && b)) ≡ (not (n && a) || not b)
not_all true true true b h = refl
not_all true true false b h = refl
not_all false true a b h = refl
not_all n false a b h = cc

bad_cons : (num : List ℕ → Bool) (t : List ℕ) (ts : List (List ℕ)) → not (list_all (λ x. num x && bytes_eq t x) (t ∷ ts)) ≡ (not (list_all num (t ∷ ts)) || differ (t ∷ ts))
bad_cons num t ts =
    ap (λ b. not ((num t && bytes_eq t t) && b)) (all_both num (λ x. bytes_eq t x) ts)
    ∙ not_all (num t) (bytes_eq t t) (list_all num ts) (list_all (λ x. bytes_eq t x) ts) ((bytes_eq-Decides t t).1 refl)

bad_of : (num : List ℕ → Bool) (ts : List (List ℕ)) (text : List ℕ) → Some text ≡ first_of ts → not (list_all (λ x. num x && bytes_eq text x) ts) ≡ (not (list_all num ts) || differ ts)
bad_of num [] text e = cc
bad_of num (t ∷ ts) text e = let same : text ≡ t = cc in ap (λ u. not (list_all (λ x. num x && bytes_eq u x) (t ∷ ts))) same ∙ bad_cons num t ts

none_bad : (num : List ℕ → Bool) (ts : List (List ℕ)) → None ≡ first_of ts → false ≡ (not (list_all num ts) || differ ts)
none_bad num [] e = refl
none_bad num (t ∷ ts) e = cc

-- a header announces a length: they are bad unless each is a number and this one
pub bad_with : (headers : List (List ℕ × List ℕ)) (text : List ℕ) (r : Bool) → Some text ≡ header headers (codes "content-length") →
    r ≡ list_all (λ h. not (is_word h.0 (codes "content-length")) || (is_number digit_limit h.1 && bytes_eq text h.1)) headers → not r ≡ is_bad_length headers
bad_with headers text r first is =
    ap not (is ∙ all_where (λ (h : List ℕ × List ℕ). is_word h.0 (codes "content-length")) (λ t. is_number digit_limit t && bytes_eq text t) (λ h. h.1) headers)
    ∙ bad_of (λ t. is_number digit_limit t) (lengths headers) text (first ∙ first_where (λ (h : List ℕ × List ℕ). is_word h.0 (codes "content-length")) (λ h. h.1) headers)

-- none does
pub bad_without : (headers : List (List ℕ × List ℕ)) → None ≡ header headers (codes "content-length") → false ≡ is_bad_length headers
bad_without headers first = none_bad (λ t. is_number digit_limit t) (lengths headers) (first ∙ first_where (λ (h : List ℕ × List ℕ). is_word h.0 (codes "content-length")) (λ h. h.1) headers)
