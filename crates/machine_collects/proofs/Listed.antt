-- Lists of collections and of answers: what is found, changed and taken out.
use Rattle.std.specs.Prelude.{◌≡◌, ◌≢◌, ◌⊎◌, ℕ, suc, Bool, true, false, cond, ◌==◌, ◌||◌, List, [], ◌∷◌, ◌++◌, length, Option, Some, None, is_some, option_map, filter, map, refl}
use Rattle.std.specs.List.{AllByRecursion, find}
use Rattle.std.proofs.Common.{ap, sym, subst, ◌∙◌, inl, inr}
use Rattle.std.proofs.lemmas.Bool.{eq-eqb, eqb-true, eqb-false, true≢false}
use Rattle.crdt_core.specs.Members.{Has}
use Rattle.quorum_model.specs.Quorum.{is_among}
use Rattle.gc_model.specs.declared.collection.Collection.{Collection}
use Rattle.gc_model.specs.Rounds.{given}
use Rattle.gc_model.specs.Collecting.{has_confirmed, told}
use Rattle.machine_collects.specs.Tie.{AreDifferent, number_of, node_of}

-- ---- answers

pub has_map : {X Y : Type 0} (f : X → Y) (xs : List X) (x : X) → Has xs x → Has (map f xs) (f x)
has_map f [] x h = absurd h
has_map f (y ∷ xs) x h = elim h [ inl e ↦ inl (ap f e) | inr more ↦ inr (has_map f xs x more) ]

-- what is in a mapped list comes from somewhere
pub map_has : {X Y : Type 0} (f : X → Y) (xs : List X) (y : Y) → Has (map f xs) y → (x : X) × (Has xs x × (f x ≡ y))
map_has f [] y h = absurd h
map_has f (x ∷ xs) y h = elim h [
  | inl e ↦ (x, (inl refl, e))
  | inr more ↦ (let r = map_has f xs y more in (r.0, (inr r.1.0, r.1.1)))
]

pub has_last : {X : Type 0} (xs : List X) (x : X) → Has (xs ++ x ∷ []) x
has_last [] x = inl refl
has_last (y ∷ xs) x = inr (has_last xs x)

pub has_front : {X : Type 0} (xs : List X) (y x : X) → Has xs x → Has (xs ++ y ∷ []) x
has_front [] y x h = absurd h
has_front (z ∷ xs) y x h = elim h [ inl e ↦ inl e | inr more ↦ inr (has_front xs y x more) ]

pub has_cases : {X : Type 0} (xs : List X) (y x : X) → Has (xs ++ y ∷ []) x → Has xs x ⊎ (y ≡ x)
has_cases [] y x h = elim h [ inl e ↦ inr e | inr none ↦ absurd none ]
has_cases (z ∷ xs) y x h = elim h [ inl e ↦ inl (inl e) | inr more ↦ elim (has_cases xs y x more) [ inl old ↦ inl (inr old) | inr e ↦ inr e ] ]

pub map_last : {X Y : Type 0} (f : X → Y) (xs : List X) (x : X) → map f (xs ++ x ∷ []) ≡ map f xs ++ f x ∷ []
map_last f [] x = refl
map_last f (y ∷ xs) x = ap (λ l. f y ∷ l) (map_last f xs x)

pub length_last : {X : Type 0} (xs : List X) (x : X) → length (xs ++ x ∷ []) ≡ suc (length xs)
length_last [] x = refl
length_last (y ∷ xs) x = ap suc (length_last xs x)

pub map_length : {X Y : Type 0} (f : X → Y) (xs : List X) → length (map f xs) ≡ length xs
map_length f [] = refl
map_length f (x ∷ xs) = ap suc (map_length f xs)

pub different_last : (xs : List ℕ) (n : ℕ) → AreDifferent xs → (Has xs n → ⊥) → AreDifferent (xs ++ n ∷ [])
different_last [] n d h = ((λ e. e), tt)
different_last (x ∷ xs) n d h = ((λ more. elim (has_cases xs n x more) [ inl old ↦ d.0 old | inr e ↦ h (inl (sym e)) ]), different_last xs n d.1 (λ more. h (inr more)))

-- what a node gave first is among the answers
pub given_has : (n k : ℕ) (answers : List (ℕ × ℕ)) → given n answers ≡ Some k → Has answers (n, k)
given_has n k [] e = cc
given_has n k (a ∷ answers) e = elim (a.0 == n) as (λ b. (a.0 == n) ≡ b → option_map (λ (a : ℕ × ℕ). a.1) (cond b (Some a) (find (λ a. a.0 == n) answers)) ≡ Some k → Has (a ∷ answers) (n, k)) [
  | true ↦ λ f g. (let P : Option ℕ → ℕ = λ o. Rattle.std.specs.Option.unwrap_or o k in inl (λ i. (eqb-true a.0 n f i, ap P g i)))
  | false ↦ λ f g. inr (given_has n k answers g)
] refl e

pub given_none : (n : ℕ) (answers : List (ℕ × ℕ)) → given n answers ≡ None → Has (map node_of answers) n → ⊥
given_none n [] e h = h
given_none n (a ∷ answers) e h = (elim (a.0 == n) as (λ b. (a.0 == n) ≡ b → option_map (λ (a : ℕ × ℕ). a.1) (cond b (Some a) (find (λ a. a.0 == n) answers)) ≡ None → ⊥) [
  | true ↦ λ f g. cc
  | false ↦ λ f g. elim h [ inl same ↦ eqb-false a.0 n f same | inr more ↦ given_none n answers g more ]
] refl) e

pub is_some_none : {X : Type 0} (o : Option X) → is_some o ≡ false → o ≡ None
is_some_none None h = refl
is_some_none (Some x) h = cc

-- a node gave one answer
pub one_answer : (answers : List (ℕ × ℕ)) (n k l : ℕ) → AreDifferent (map node_of answers) → Has answers (n, k) → Has answers (n, l) → k ≡ l
one_answer [] n k l d h i = absurd h
one_answer (a ∷ answers) n k l d h i = elim h [
  | inl e ↦ elim i [
    | inl f ↦ ap (λ (a : ℕ × ℕ). a.1) (sym e ∙ f)
    | inr more ↦ absurd (d.0 (subst (Has (map node_of answers)) (sym (ap node_of e)) (has_map node_of answers (n, l) more)))
  ]
  | inr more ↦ elim i [
    | inl f ↦ absurd (d.0 (subst (Has (map node_of answers)) (sym (ap node_of f)) (has_map node_of answers (n, k) more)))
    | inr other ↦ one_answer answers n k l d.1 more other
  ]
]

pub among_has : (n : ℕ) (xs : List ℕ) → Has xs n → is_among n xs ≡ true
among_has n [] h = absurd h
among_has n (x ∷ xs) h = elim h [
  | inl e ↦ rw (eq-eqb x n e) refl
  | inr more ↦ rw (among_has n xs more) (or_last (x == n))
]
  where
    or_last : (b : Bool) → (b || true) ≡ true
    or_last true = refl
    or_last false = refl

-- ---- collections

-- what an answer leaves
pub record SameCollection (c d : Collection) : Type 0 where
  pub number : d.number ≡ c.number
  pub key : d.key ≡ c.key
  pub own : d.own ≡ c.own

same_again : (c : Collection) → SameCollection c c
same_again c = record { number = refl; key = refl; own = refl }

same_if : (b : Bool) (c d e : Collection) → SameCollection c d → SameCollection c e → SameCollection c (cond b d e)
same_if true c d e h i = h
same_if false c d e h i = i

pub told_same : (round node newest now : ℕ) (c : Collection) → SameCollection c (told round node newest now c)
told_same round node newest now c = same_if (round == c.round) c _ c (same_if (has_confirmed node c) c c _ (same_again c) (same_if (c.round == 1) c _ _ (record { number = refl; key = refl; own = refl }) (record { number = refl; key = refl; own = refl }))) (same_again c)

pub find_passes : {X : Type 0} (f : X → Bool) (xs : List X) (x : X) → find f xs ≡ Some x → Has xs x × (f x ≡ true)
find_passes f [] x e = cc
find_passes f (y ∷ xs) x e = elim (f y) as (λ b. f y ≡ b → cond b (Some y) (find f xs) ≡ Some x → Has (y ∷ xs) x × (f x ≡ true)) [
  | true ↦ λ g h. (let same : y ≡ x = ap (λ o. Rattle.std.specs.Option.unwrap_or o y) h in (inl same, subst (λ z. f z ≡ true) same g))
  | false ↦ λ g h. (let r = find_passes f xs x h in (inr r.0, r.1))
] refl e

pub find_none : {X : Type 0} (f : X → Bool) (xs : List X) (x : X) → find f xs ≡ None → Has xs x → f x ≡ true → ⊥
find_none f [] x e h p = h
find_none f (y ∷ xs) x e h p = (elim (f y) as (λ b. f y ≡ b → cond b (Some y) (find f xs) ≡ None → ⊥) [
  | true ↦ λ g i. cc
  | false ↦ λ g i. elim h [ inl same ↦ true≢false (sym p ∙ (ap f (sym same) ∙ g)) | inr more ↦ find_none f xs x i more p ]
] refl) e

-- a number stands for one collection
pub one_collection : (cs : List Collection) (c d : Collection) → AreDifferent (map number_of cs) → Has cs c → Has cs d → c.number ≡ d.number → c ≡ d
one_collection [] c d a h i e = absurd h
one_collection (b ∷ cs) c d a h i e = elim h [
  | inl f ↦ elim i [
    | inl g ↦ sym f ∙ g
    | inr more ↦ absurd (a.0 (subst (Has (map number_of cs)) (sym (ap number_of f ∙ e)) (has_map number_of cs d more)))
  ]
  | inr more ↦ elim i [
    | inl g ↦ absurd (a.0 (subst (Has (map number_of cs)) (sym (ap number_of g ∙ sym e)) (has_map number_of cs c more)))
    | inr other ↦ one_collection cs c d a.1 more other e
  ]
]

-- collections whose numbers stay
pub changed_different : (f : Collection → Collection) (cs : List Collection) → ((c : Collection) → (f c).number ≡ c.number) → AreDifferent (map number_of cs) → AreDifferent (map number_of (map f cs))
changed_different f cs same a = subst AreDifferent (sym (numbers cs)) a
  where
    numbers : (cs : List Collection) → map number_of (map f cs) ≡ map number_of cs
    numbers [] = refl
    numbers (c ∷ cs) = λ i. same c i ∷ numbers cs i

-- fewer collections
pub fewer_different : (f : Collection → Bool) (cs : List Collection) → AreDifferent (map number_of cs) → AreDifferent (map number_of (filter f cs))
fewer_different f [] a = tt
fewer_different f (c ∷ cs) a = elim (f c) as (λ b. AreDifferent (map number_of (cond b (c ∷ filter f cs) (filter f cs)))) [
  | true ↦ ((λ h. a.0 (fewer f cs c.number h)), fewer_different f cs a.1)
  | false ↦ fewer_different f cs a.1
]
  where
    fewer : (f : Collection → Bool) (cs : List Collection) (n : ℕ) → Has (map number_of (filter f cs)) n → Has (map number_of cs) n
    fewer f [] n h = h
    fewer f (d ∷ cs) n h = (elim (f d) as (λ b. Has (map number_of (cond b (d ∷ filter f cs) (filter f cs))) n → Has (map number_of (d ∷ cs)) n) [
      | true ↦ λ i. elim i [ inl e ↦ inl e | inr more ↦ inr (fewer f cs n more) ]
      | false ↦ λ i. inr (fewer f cs n i)
    ]) h

-- what is so of each that is there is so of each that is changed, one of which has this number
pub all_changed : (P Q : Collection → Type 0) (f : Collection → Collection) (number : ℕ) (cs : List Collection) → AllByRecursion P cs → ((c : Collection) → Has cs c → P c → c.number ≢ number → Q c) → ((c : Collection) → Has cs c → P c → c.number ≡ number → Q (f c)) → AllByRecursion Q (map (λ c. cond (c.number == number) (f c) c) cs)
all_changed P Q f number [] a stay change = tt
all_changed P Q f number (c ∷ cs) a stay change = (
  elim (c.number == number) as (λ b. (c.number == number) ≡ b → Q (cond b (f c) c)) [
    | true ↦ λ e. change c (inl refl) a.0 (eqb-true c.number number e)
    | false ↦ λ e. stay c (inl refl) a.0 (eqb-false c.number number e)
  ] refl,
  all_changed P Q f number cs a.1 (λ d h. stay d (inr h)) (λ d h. change d (inr h)),
)
