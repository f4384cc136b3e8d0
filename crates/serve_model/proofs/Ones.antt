-- One of several, and all of them.
use Rattle.std.specs.Prelude.{refl, List, [], ◌∷◌, ◌++◌, map}
use Rattle.std.proofs.Common.{inl, inr, sym, subst}
use Rattle.std.specs.List.{AllByRecursion}
use Rattle.crdt_core.specs.Members.{Has, OneOf}

-- all of the first of two lists, and of the second
pub split : {A : Type 0} (P : A → Type 0) (xs ys : List A) → AllByRecursion P (xs ++ ys) → AllByRecursion P xs × AllByRecursion P ys
split P [] ys h = (tt, h)
split P (x ∷ xs) ys h = let k = split P xs ys h.1 in ((h.0, k.0), k.1)

module _ {A : Type 0} (P Q : A → Type 0) where
  pub one_weaker : ((x : A) → P x → Q x) → (xs : List A) → OneOf P xs → OneOf Q xs
  one_weaker f [] h = absurd h
  one_weaker f (x ∷ xs) (inl h) = inl (f x h)
  one_weaker f (x ∷ xs) (inr h) = inr (one_weaker f xs h)

module _ {A : Type 0} (P : A → Type 0) where
  pub one_left : (xs ys : List A) → OneOf P xs → OneOf P (xs ++ ys)
  one_left [] ys h = absurd h
  one_left (x ∷ xs) ys (inl h) = inl h
  one_left (x ∷ xs) ys (inr h) = inr (one_left xs ys h)

  pub one_right : (xs ys : List A) → OneOf P ys → OneOf P (xs ++ ys)
  one_right [] ys h = h
  one_right (x ∷ xs) ys h = inr (one_right xs ys h)

  -- which one it is
  pub one_at : (xs : List A) → OneOf P xs → (x : A) × (Has xs x × P x)
  one_at [] h = absurd h
  one_at (x ∷ xs) (inl h) = (x, (inl refl, h))
  one_at (x ∷ xs) (inr h) = let k = one_at xs h in (k.0, (inr k.1.0, k.1.1))

  pub at_one : (xs : List A) (x : A) → Has xs x → P x → OneOf P xs
  at_one [] x h p = absurd h
  at_one (y ∷ xs) x (inl e) p = inl (subst P (sym e) p)
  at_one (y ∷ xs) x (inr h) p = inr (at_one xs x h p)

  pub at_all : (xs : List A) (x : A) → Has xs x → AllByRecursion P xs → P x
  at_all [] x h all = absurd h
  at_all (y ∷ xs) x (inl e) all = subst P e all.0
  at_all (y ∷ xs) x (inr h) all = at_all xs x h all.1

module _ {A B : Type 0} (P : A → Type 0) (Q : B → Type 0) (f : A → B) (each : (x : A) → P x → Q (f x)) where
  pub one_mapped : (xs : List A) → OneOf P xs → OneOf Q (map f xs)
  one_mapped [] h = absurd h
  one_mapped (x ∷ xs) (inl h) = inl (each x h)
  one_mapped (x ∷ xs) (inr h) = inr (one_mapped xs h)

  pub all_mapped : (xs : List A) → AllByRecursion P xs → AllByRecursion Q (map f xs)
  all_mapped [] h = tt
  all_mapped (x ∷ xs) h = (each x h.0, all_mapped xs h.1)

-- what holds of all under a premise holds of each under it
pub all_under : {A : Type 0} (X : Type 0) (P : A → Type 0) (xs : List A) → (X → AllByRecursion P xs) → AllByRecursion (λ x. X → P x) xs
all_under X P [] f = tt
all_under X P (x ∷ xs) f = ((λ k. (f k).0), all_under X P xs (λ k. (f k).1))
