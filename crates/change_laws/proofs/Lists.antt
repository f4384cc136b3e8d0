-- Lists: what some element has, what all that are left have, and what is taken from each element.
use Rattle.std.specs.Prelude.{◌≡◌, ◌⊎◌, Bool, true, false, cond, Some, List, [], ◌∷◌, map, refl}
use Rattle.std.specs.Option.{unwrap_or}
use Rattle.std.specs.List.{AllByRecursion, filter, list_all, flat_map, find}
use Rattle.std.proofs.Common.{ap, sym, subst, ◌∙◌, inl, inr}
use Rattle.crdt_core.specs.EntryLaws.{and_parts}
use Rattle.crdt_core.specs.Members.{OneOf}
use Rattle.crdt_core.proofs.Each.{all_append}
use Rattle.cluster_machine.specs.Rounds.{is_empty}
use Rattle.drained_laws.specs.Waiting.{SomeOf, Has as HasOne}
use Rattle.drained_laws.proofs.Waits.{some_left, some_right, some_parts}

module _ {X : Type 0} where
  -- ---- some

  pub some_filtered : (P : X → Type 0) (f : X → Bool) (xs : List X) → SomeOf (λ x. P x × (f x ≡ true)) xs → SomeOf P (filter f xs)
  some_filtered P f [] h = elim h [ ]
  some_filtered P f (x ∷ xs) h =
      elim h [
        | inl here ↦ subst (λ b. SomeOf P (cond b (x ∷ filter f xs) (filter f xs))) (sym here.1) (inl here.0)
        | inr there ↦ (let rest = some_filtered P f xs there in elim (f x) as (λ b. SomeOf P (cond b (x ∷ filter f xs) (filter f xs))) [ true ↦ inr rest | false ↦ rest ])
      ]

  -- one that is left passes
  pub some_left_over : (P : X → Type 0) (f : X → Bool) (xs : List X) → SomeOf P (filter f xs) → SomeOf (λ x. P x × (f x ≡ true)) xs
  some_left_over P f [] h = elim h [ ]
  some_left_over P f (x ∷ xs) h =
      elim (f x) as (λ b. f x ≡ b → SomeOf P (cond b (x ∷ filter f xs) (filter f xs)) → (P x × (f x ≡ true)) ⊎ SomeOf (λ x. P x × (f x ≡ true)) xs) [
        | true ↦ (λ e g. elim g [ inl here ↦ inl (here, e) | inr there ↦ inr (some_left_over P f xs there) ])
        | false ↦ (λ e g. inr (some_left_over P f xs g))
      ] refl h

  pub some_before_map : {Y : Type 0} (P : Y → Type 0) (f : X → Y) (xs : List X) → SomeOf P (map f xs) → SomeOf (λ x. P (f x)) xs
  some_before_map P f [] h = elim h [ ]
  some_before_map P f (x ∷ xs) h = elim h [ inl here ↦ inl here | inr there ↦ inr (some_before_map P f xs there) ]

  pub some_flat : {Y : Type 0} (P : Y → Type 0) (f : X → List Y) (xs : List X) → SomeOf (λ x. SomeOf P (f x)) xs → SomeOf P (flat_map f xs)
  some_flat P f [] h = elim h [ ]
  some_flat P f (x ∷ xs) h = elim h [ inl here ↦ some_left P (f x) (flat_map f xs) here | inr there ↦ some_right P (f x) (flat_map f xs) (some_flat P f xs there) ]

  pub some_before_flat : {Y : Type 0} (P : Y → Type 0) (f : X → List Y) (xs : List X) → SomeOf P (flat_map f xs) → SomeOf (λ x. SomeOf P (f x)) xs
  some_before_flat P f [] h = elim h [ ]
  some_before_flat P f (x ∷ xs) h = elim (some_parts P (f x) (flat_map f xs) h) [ inl here ↦ inl here | inr there ↦ inr (some_before_flat P f xs there) ]

  pub found_some : (f : X → Bool) (xs : List X) (x : X) → find f xs ≡ Some x → HasOne xs x
  found_some f [] x e = cc
  found_some f (y ∷ ys) x e =
      elim (f y) as (λ b. cond b (Some y) (find f ys) ≡ Some x → HasOne (y ∷ ys) x) [
        | true ↦ (λ g. inl (ap (λ o. unwrap_or o y) g))
        | false ↦ (λ g. inr (found_some f ys x g))
      ] e

  -- one that passes is found, or another before it
  pub some_found : (f : X → Bool) (xs : List X) → SomeOf (λ x. f x ≡ true) xs → (x : X) × (find f xs ≡ Some x)
  some_found f [] h = elim h [ ]
  some_found f (y ∷ ys) h =
      elim (f y) as (λ b. f y ≡ b → (x : X) × (cond b (Some y) (find f ys) ≡ Some x)) [
        | true ↦ (λ e. (y, refl))
        | false ↦ (λ e. elim h [ inl here ↦ (let never : false ≡ true = sym e ∙ here in cc) | inr there ↦ some_found f ys there ])
      ] refl

  pub with_all : (P Q : X → Type 0) (xs : List X) → AllByRecursion P xs → SomeOf Q xs → SomeOf (λ x. P x × Q x) xs
  with_all P Q [] a h = elim h [ ]
  with_all P Q (x ∷ xs) a h = elim h [ inl q ↦ inl (a.0, q) | inr q ↦ inr (with_all P Q xs a.1 q) ]

  -- the element is one of these
  pub some_one : (P : X → Type 0) (xs : List X) → SomeOf P xs → (x : X) × (HasOne xs x × P x)
  some_one P [] h = elim h [ ]
  some_one P (x ∷ xs) h = elim h [ inl here ↦ (x, (inl refl, here)) | inr there ↦ (let rest = some_one P xs there in (rest.0, (inr rest.1.0, rest.1.1))) ]

  pub one_some : (P : X → Type 0) (xs : List X) (x : X) → HasOne xs x → P x → SomeOf P xs
  one_some P [] x h p = elim h [ ]
  one_some P (y ∷ ys) x h p = elim h [ inl e ↦ inl (subst P (sym e) p) | inr r ↦ inr (one_some P ys x r p) ]

  pub one_of_some : (P : X → Type 0) (xs : List X) → SomeOf P xs → OneOf P xs
  one_of_some P [] h = elim h [ ]
  one_of_some P (x ∷ xs) h = elim h [ inl here ↦ inl here | inr there ↦ inr (one_of_some P xs there) ]

  -- ---- all

  pub all_flat : {Y : Type 0} (P : Y → Type 0) (f : X → List Y) (xs : List X) → AllByRecursion (λ x. AllByRecursion P (f x)) xs → AllByRecursion P (flat_map f xs)
  all_flat P f [] h = tt
  all_flat P f (x ∷ xs) h = all_append P (f x) (flat_map f xs) h.0 (all_flat P f xs h.1)

  pub all_of_list : (f : X → Bool) (xs : List X) → list_all f xs ≡ true → AllByRecursion (λ x. f x ≡ true) xs
  all_of_list f [] e = tt
  all_of_list f (x ∷ xs) e = let both = and_parts (f x) (list_all f xs) e in (both.0, all_of_list f xs both.1)

  pub all_two : (P Q : X → Type 0) (xs : List X) → AllByRecursion P xs → AllByRecursion Q xs → AllByRecursion (λ x. P x × Q x) xs
  all_two P Q [] a b = tt
  all_two P Q (x ∷ xs) a b = ((a.0, b.0), all_two P Q xs a.1 b.1)

  pub filter_all : (P : X → Type 0) (f : X → Bool) (xs : List X) → AllByRecursion P xs → AllByRecursion (λ x. P x × (f x ≡ true)) (filter f xs)
  filter_all P f [] h = tt
  filter_all P f (x ∷ xs) h =
      let rest = filter_all P f xs h.1 in
      elim (f x) as (λ b. f x ≡ b → AllByRecursion (λ x. P x × (f x ≡ true)) (cond b (x ∷ filter f xs) (filter f xs))) [ true ↦ (λ e. ((h.0, e), rest)) | false ↦ (λ e. rest) ] refl

  -- what each has
  pub all_of_each : (P : X → Type 0) (xs : List X) → ((x : X) → HasOne xs x → P x) → AllByRecursion P xs
  all_of_each P [] f = tt
  all_of_each P (x ∷ xs) f = (f x (inl refl), all_of_each P xs (λ y h. f y (inr h)))

  -- ---- not empty

  pub some_not_empty : (P : X → Type 0) (xs : List X) → SomeOf P xs → is_empty xs ≡ false
  some_not_empty P [] h = elim h [ ]
  some_not_empty P (y ∷ ys) h = refl

  pub not_empty_one : (xs : List X) → is_empty xs ≡ false → (x : X) × HasOne xs x
  not_empty_one [] e = cc
  not_empty_one (x ∷ xs) e = (x, inl refl)
