-- Texts that are put together by appends, one after the other.
use Rattle.std.proofs.Common.{◌≡◌, ℕ, ◌+◌, ◌<◌, List, [], ◌∷◌, ◌++◌, length, take, get_or, flat_map, Result, OnOk, sym, ap, ◌∙◌, append_assoc}
use Rattle.std.proofs.lemmas.Result.{on_ok_weaker}
use Rattle.std.proofs.lemmas.List.{take_more, flat_map_more}

then_more : (o n m a b : List ℕ) → n ≡ o ++ a → m ≡ n ++ b → m ≡ o ++ (a ++ b)
then_more o n m a b first next = next ∙ ap (λ (t : List ℕ). t ++ b) first ∙ append_assoc o a b

-- the last of two appends
pub two : {A E : Type 0} (r : Result A E) (o n m a b : List ℕ) → n ≡ o ++ a → OnOk r (m ≡ n ++ b) → OnOk r (m ≡ o ++ (a ++ b))
two r o n m a b first last = on_ok_weaker r (λ next. then_more o n m a b first next) last

-- the last of three
pub three : {A E : Type 0} (r : Result A E) (o n1 n2 n3 a b c : List ℕ) → n1 ≡ o ++ a → n2 ≡ n1 ++ b → OnOk r (n3 ≡ n2 ++ c) → OnOk r (n3 ≡ o ++ (a ++ b ++ c))
three r o n1 n2 n3 a b c first second last = two r o n2 n3 (a ++ b) c (then_more o n1 n2 a b first second) last

-- the last of five
pub five : {A E : Type 0} (r : Result A E) (o n1 n2 n3 n4 n5 a b c d e : List ℕ) → n1 ≡ o ++ a → n2 ≡ n1 ++ b → n3 ≡ n2 ++ c → n4 ≡ n3 ++ d → OnOk r (n5 ≡ n4 ++ e) → OnOk r (n5 ≡ o ++ (a ++ b ++ c ++ d ++ e))
five r o n1 n2 n3 n4 n5 a b c d e first second third fourth last =
    let front : n4 ≡ o ++ (a ++ b ++ c ++ d) = then_more o n3 n4 (a ++ b ++ c) d (then_more o n2 n3 (a ++ b) c (then_more o n1 n2 a b first second) third) fourth in
    two r o n4 n5 (a ++ b ++ c ++ d) e front last

-- one turn of a loop that appends a text for each item
pub each_more : {X : Type 0} (f : X → List ℕ) (xs : List X) (i : ℕ) (x : X) (o n m : List ℕ) → i < length xs → x ≡ get_or xs i x → n ≡ o ++ flat_map f (take i xs) → m ≡ n ++ f x → m ≡ o ++ flat_map f (take (i + 1) xs)
each_more f xs i x o n m h is so next =
    let more : take (i + 1) xs ≡ take i xs ++ x ∷ [] = take_more xs i x h ∙ ap (λ y. take i xs ++ y ∷ []) (sym is) in
    next ∙ ap (λ (t : List ℕ). t ++ f x) so ∙ flat_map_more f o (take i xs) x ∙ ap (λ ys. o ++ flat_map f ys) (sym more)
