-- The different values of a list, in order: each of them is there.
use Rattle.std.proofs.Common.{◌≡◌, ◌⊎◌, List, [], ◌∷◌, map, refl, ap, subst, inl, inr}
use Rattle.std.specs.declared.cmp.Ordering.{Ordering}
use Rattle.std.specs.declared.cmp.Ordering.TheVariants.{Less, Equal, Greater}
use Rattle.crdt_core.specs.Lex.{by_order}
use Rattle.crdt_core.specs.Orders.{Identifies}
use Rattle.object_schema.specs.Triggers.{with_value, with_values, in_order}
use Rattle.drained_laws.specs.Waiting.{Has}
use Rattle.drained_laws.proofs.Waits.{some_mapped}

-- what is made of an element is made of one
pub mapped : {X Y : Type 0} (f : X → Y) (xs : List X) (x : X) → Has xs x → Has (map f xs) (f x)
mapped f xs x h = some_mapped f (λ y. y ≡ x) (λ z. z ≡ f x) (λ y e. ap f e) xs h

module _ {K : Type 0} (R : K → K → Ordering) (same : Identifies R) where
  with_by : (k x : K) (xs : List K) → Has (with_value R k xs) k → (o : Ordering) → R x k ≡ o → Has (by_order o (x ∷ with_value R k xs) (x ∷ xs) (k ∷ x ∷ xs)) k
  with_by k x xs rest Less e = inr rest
  with_by k x xs rest Equal e = inl (same x k e)
  with_by k x xs rest Greater e = inl refl

  with_itself : (k : K) (xs : List K) → Has (with_value R k xs) k
  with_itself k [] = inl refl
  with_itself k (x ∷ xs) = with_by k x xs (with_itself k xs) (R x k) refl

  kept_by : (k x other : K) (xs : List K) → Has (x ∷ xs) other → (Has xs other → Has (with_value R k xs) other) → (o : Ordering) → Has (by_order o (x ∷ with_value R k xs) (x ∷ xs) (k ∷ x ∷ xs)) other
  kept_by k x other xs h rest Less = elim h [ inl e ↦ inl e | inr t ↦ inr (rest t) ]
  kept_by k x other xs h rest Equal = h
  kept_by k x other xs h rest Greater = inr h

  with_kept : (k other : K) (xs : List K) → Has xs other → Has (with_value R k xs) other
  with_kept k other [] h = absurd h
  with_kept k other (x ∷ xs) h = kept_by k x other xs h (with_kept k other xs) (R x k)

  with_all_kept : (other : K) (ks xs : List K) → Has xs other → Has (with_values R xs ks) other
  with_all_kept other [] xs h = h
  with_all_kept other (k ∷ ks) xs h = with_all_kept other ks (with_value R k xs) (with_kept k other xs h)

  with_each : (other : K) (ks xs : List K) → Has ks other → Has (with_values R xs ks) other
  with_each other [] xs h = absurd h
  with_each other (k ∷ ks) xs (inl e) = with_all_kept other ks (with_value R k xs) (subst (Has (with_value R k xs)) e (with_itself k xs))
  with_each other (k ∷ ks) xs (inr h) = with_each other ks (with_value R k xs) h

  pub each_in_order : (ks : List K) (k : K) → Has ks k → Has (in_order R ks) k
  each_in_order ks k h = with_each k ks [] h
