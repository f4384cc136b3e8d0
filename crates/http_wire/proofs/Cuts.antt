-- Where a head ends doesn't depend on what comes after it.
use Rattle.std.proofs.Common.{◌≡◌, ℕ, zero, suc, ◌+◌, ◌-◌, ◌<◌, ◌≤◌, min, Bool, true, false, if◌then◌else◌, nat_le, Option, Some, None, List, [], ◌++◌, refl, sym, ◌∙◌, ap, length, take, drop, arith, length-append}
use Rattle.std.proofs.lemmas.List.{take-append-le, drop-append-le}
use Rattle.std.proofs.lemmas.Option.{same_Some}
use Rattle.std.proofs.lemmas.Bool.{cond-true, cond-false, le-leb, lt-leb, leb-true}
use Rattle.http_model.specs.Cut.{head_limit, ends_head, least, head_end, Cut, ends, too_long, unfinished, cut_at, cut}

-- ---- the least number that passes a test

pub least_same : (t u : ℕ → Bool) (n count : ℕ) → ((j : ℕ) → j < n + count → u j ≡ t j) → least u n count ≡ least t n count
least_same t u n zero same = refl
least_same t u n (suc count) same =
    let here : u n ≡ t n = same n (omega arith) in
    let later : least u (n + 1) count ≡ least t (n + 1) count = least_same t u (n + 1) count (λ j h. same j (omega arith)) in
    ap (λ b. if b then Some n else least u (n + 1) count) here ∙ ap (λ r. if t n then Some n else r) later

later_some : (b : Bool) (n m : ℕ) (x y : Option ℕ) → (if b then Some n else x) ≡ Some m → (x ≡ Some m → y ≡ Some m) → (if b then Some n else y) ≡ Some m
later_some true n m x y h f = h
later_some false n m x y h f = f h

none_some : (k : ℕ) → None ≡ Some k → ⊥
none_some k e = cc

least_longer : (t : ℕ → Bool) (n m count more : ℕ) → count ≤ more → least t n count ≡ Some m → least t n more ≡ Some m
least_longer t n m zero more le h = absurd (none_some m h)
least_longer t n m (suc count) zero le h = absurd (omega arith)
least_longer t n m (suc count) (suc more) le h =
    later_some (t n) n m (least t (n + 1) count) (least t (n + 1) more) h (λ e. least_longer t (n + 1) m count more (omega arith) e)

later_below : (b : Bool) (n m count : ℕ) (x : Option ℕ) → (if b then Some n else x) ≡ Some m → (x ≡ Some m → m < (n + 1) + count) → m < n + suc count
later_below true n m count x h f = let e : n ≡ m = same_Some n m h in omega arith
later_below false n m count x h f = let k : m < (n + 1) + count = f h in omega arith

least_below : (t : ℕ → Bool) (n m count : ℕ) → least t n count ≡ Some m → m < n + count
least_below t n m zero h = absurd (none_some m h)
least_below t n m (suc count) h = later_below (t n) n m count (least t (n + 1) count) h (λ e. least_below t (n + 1) m count e)

-- one number further, where this one doesn't pass
least_step : (t : ℕ → Bool) (n rest count : ℕ) → rest ≡ suc count → t n ≡ false → least t n rest ≡ least t (n + 1) count
least_step t n rest count e h = ap (least t n) e ∙ ap (λ b. if b then Some n else least t (n + 1) count) h

least_here : (t : ℕ → Bool) (n rest count : ℕ) → rest ≡ suc count → t n ≡ true → least t n rest ≡ Some n
least_here t n rest count e h = ap (least t n) e ∙ ap (λ b. if b then Some n else least t (n + 1) count) h

none_here : (b : Bool) (n : ℕ) (x : Option ℕ) → (if b then Some n else x) ≡ None → (b ≡ false) × (x ≡ None)
none_here true n x h = absurd (none_some n (sym h))
none_here false n x h = (refl, h)

-- where none of the first numbers passes, the others decide
least_later : (t : ℕ → Bool) (n a b rest m : ℕ) → rest ≡ a + b → m ≡ n + a → least t n a ≡ None → least t n rest ≡ least t m b
least_later t n zero b rest m e f h =
    let r : rest ≡ b = omega arith in
    let k : n ≡ m = omega arith in
    ap (least t n) r ∙ ap (λ i. least t i b) k
least_later t n (suc a) b rest m e f h =
    let w = none_here (t n) n (least t (n + 1) a) h in
    least_step t n rest (a + b) (omega arith) w.0 ∙ least_later t (n + 1) a b (a + b) m refl (omega arith) w.1

fewer_none : (t : ℕ → Bool) (n few more : ℕ) (o : Option ℕ) → few ≤ more → least t n more ≡ None → least t n few ≡ o → least t n few ≡ None
fewer_none t n few more None le h e = e
fewer_none t n few more (Some m) le h e = absurd (none_some m (sym h ∙ least_longer t n m few more le e))

-- none of fewer numbers passes
pub least_fewer : (t : ℕ → Bool) (n few more : ℕ) → few ≤ more → least t n more ≡ None → least t n few ≡ None
least_fewer t n few more le h = fewer_none t n few more (least t n few) le h refl

-- none of the first `m` numbers passes, and nor does the next
pub least_next_none : (t : ℕ → Bool) (m more : ℕ) → more ≡ m + 1 → least t 0 m ≡ None → t m ≡ false → least t 0 more ≡ None
least_next_none t m more e h k = least_later t 0 m 1 more m e (omega arith) h ∙ ap (λ b. if b then Some m else None) k

-- none of the first `m` numbers passes, and the next does
pub least_next_some : (t : ℕ → Bool) (m count : ℕ) → m < count → least t 0 m ≡ None → t m ≡ true → least t 0 count ≡ Some m
least_next_some t m count l h k =
    let rest : ℕ = count - m in
    least_later t 0 m rest count m (omega arith) (omega arith) h ∙ least_here t m rest (rest - 1) (omega arith) k

-- ---- the end of a head

pub head_end_is : (bytes : List ℕ) (o : Option ℕ) → least (λ n. ends_head (take n bytes)) 0 (min (length bytes) head_limit + 1) ≡ o → head_end bytes ≡ o
unfolding head_end
head_end_is bytes o h = h

pub same_front : (bytes more : List ℕ) (j : ℕ) → j ≤ length bytes → ends_head (take j (bytes ++ more)) ≡ ends_head (take j bytes)
same_front bytes more j h = ap ends_head (take-append-le j bytes more h)

pub head_end_within : (bytes : List ℕ) (n : ℕ) → head_end bytes ≡ Some n → n ≤ length bytes
unfolding head_end
head_end_within bytes n h =
    let below : n < 0 + (min (length bytes) head_limit + 1) = least_below (λ k. ends_head (take k bytes)) 0 n (min (length bytes) head_limit + 1) h in
    omega arith

head_end_more : (bytes more : List ℕ) (n : ℕ) → head_end bytes ≡ Some n → head_end (bytes ++ more) ≡ Some n
unfolding head_end
head_end_more bytes more n h =
    let len : length (bytes ++ more) ≡ length bytes + length more = length-append bytes more in
    least_longer (λ k. ends_head (take k (bytes ++ more))) 0 n (min (length bytes) head_limit + 1) (min (length (bytes ++ more)) head_limit + 1) (omega arith)
    (least_same (λ k. ends_head (take k bytes)) (λ k. ends_head (take k (bytes ++ more))) 0 (min (length bytes) head_limit + 1) (λ j k. same_front bytes more j (omega arith)) ∙ h)

head_end_full : (bytes more : List ℕ) → head_limit ≤ length bytes → head_end bytes ≡ None → head_end (bytes ++ more) ≡ None
unfolding head_end
head_end_full bytes more full h =
    let len : length (bytes ++ more) ≡ length bytes + length more = length-append bytes more in
    let count : min (length (bytes ++ more)) head_limit + 1 ≡ min (length bytes) head_limit + 1 = omega arith in
    ap (λ m. least (λ k. ends_head (take k (bytes ++ more))) 0 m) count
    ∙ least_same (λ k. ends_head (take k bytes)) (λ k. ends_head (take k (bytes ++ more))) 0 (min (length bytes) head_limit + 1) (λ j k. same_front bytes more j (omega arith))
    ∙ h

-- ---- the cut

pub cut_end : (bytes : List ℕ) (n : ℕ) → head_end bytes ≡ Some n → cut bytes ≡ ends (take n bytes) (drop n bytes)
unfolding cut
cut_end bytes n h = ap (cut_at bytes) h

pub cut_too_long : (bytes : List ℕ) → head_end bytes ≡ None → head_limit ≤ length bytes → cut bytes ≡ too_long
unfolding cut
cut_too_long bytes h full = ap (cut_at bytes) h ∙ cond-true (nat_le head_limit (length bytes)) too_long unfinished (le-leb head_limit (length bytes) full)

pub cut_unfinished : (bytes : List ℕ) → head_end bytes ≡ None → length bytes < head_limit → cut bytes ≡ unfinished
unfolding cut
cut_unfinished bytes h short = ap (cut_at bytes) h ∙ cond-false (nat_le head_limit (length bytes)) too_long unfinished (lt-leb head_limit (length bytes) short)

-- what a cut says of the head's end
record IsEndAt (bytes front rest : List ℕ) : Type 0 where
  end : ℕ
  end_is : head_end bytes ≡ Some end
  front_is : front ≡ take end bytes
  rest_is : rest ≡ drop end bytes

no_end : (b : Bool) (front rest : List ℕ) → (if b then too_long else unfinished) ≡ ends front rest → ⊥
no_end true front rest e = cc
no_end false front rest e = cc

front_of : Cut → List ℕ
front_of (ends front rest) = front
front_of too_long = []
front_of unfinished = []

rest_of : Cut → List ℕ
rest_of (ends front rest) = rest
rest_of too_long = []
rest_of unfinished = []

end_at : (bytes front rest : List ℕ) (o : Option ℕ) → head_end bytes ≡ o → cut_at bytes o ≡ ends front rest → IsEndAt bytes front rest
unfolding front_of rest_of
end_at bytes front rest (Some n) e h = record { end = n; end_is = e; front_is = sym (ap front_of h); rest_is = sym (ap rest_of h) }
end_at bytes front rest None e h = absurd (no_end (nat_le head_limit (length bytes)) front rest h)

-- bytes that follow are left in the rest
pub cut_more : (bytes more front rest : List ℕ) → cut bytes ≡ ends front rest → cut (bytes ++ more) ≡ ends front (rest ++ more)
unfolding cut
cut_more bytes more front rest h =
    let w = end_at bytes front rest (head_end bytes) refl h in
    let within : w.end ≤ length bytes = head_end_within bytes w.end w.end_is in
    let fronts : take w.end (bytes ++ more) ≡ front = take-append-le w.end bytes more within ∙ sym w.front_is in
    let rests : drop w.end (bytes ++ more) ≡ rest ++ more = drop-append-le w.end bytes more within ∙ ap (λ r. r ++ more) (sym w.rest_is) in
    cut_end (bytes ++ more) w.end (head_end_more bytes more w.end w.end_is) ∙ ap (λ f. ends f (drop w.end (bytes ++ more))) fronts ∙ ap (λ r. ends front r) rests

no_room : (bytes : List ℕ) (o : Option ℕ) → head_end bytes ≡ o → cut_at bytes o ≡ too_long → (head_end bytes ≡ None) × (head_limit ≤ length bytes)
no_room bytes (Some n) e h = absurd (not_long (take n bytes) (drop n bytes) h)
  where
    not_long : (front rest : List ℕ) → ends front rest ≡ too_long → ⊥
    not_long front rest k = cc
no_room bytes None e h = (e, full (nat_le head_limit (length bytes)) refl h)
  where
    full : (b : Bool) → nat_le head_limit (length bytes) ≡ b → (if b then too_long else unfinished) ≡ too_long → head_limit ≤ length bytes
    full true k l = leb-true head_limit (length bytes) k
    full false k l = absurd (cc)

pub cut_long_more : (bytes more : List ℕ) → cut bytes ≡ too_long → cut (bytes ++ more) ≡ too_long
unfolding cut
cut_long_more bytes more h =
    let w = no_room bytes (head_end bytes) refl h in
    let len : length (bytes ++ more) ≡ length bytes + length more = length-append bytes more in
    cut_too_long (bytes ++ more) (head_end_full bytes more w.1 w.0) (omega (arith, w.1))
