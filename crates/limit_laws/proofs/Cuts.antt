-- Lists that are cut in two places: of the turns of replays, of objects and of items.
use Rattle.std.proofs.Common.{◌≡◌, List, [], ◌∷◌, ◌++◌, refl, sym, ap, ◌∙◌}

module _ {A : Type 0} where
  -- where a list and what comes after it are cut at an element, the cut lies after the list or within it
  pub data Cuts (xs before : List A) (next : A) : Type 0 where
    after_all : (more : List A) → before ≡ xs ++ more → Cuts xs before next
    within : (more : List A) → xs ≡ before ++ next ∷ more → Cuts xs before next

  cuts_push : (x b : A) (xs before : List A) (next : A) → x ≡ b → Cuts xs before next → Cuts (x ∷ xs) (b ∷ before) next
  cuts_push x b xs before next same (after_all more is) = after_all more (ap (λ ys. b ∷ ys) is ∙ ap (λ y. y ∷ xs ++ more) (sym same))
  cuts_push x b xs before next same (within more is) = within more (ap (λ ys. x ∷ ys) is ∙ ap (λ y. y ∷ before ++ next ∷ more) same)

  pub cuts : (xs ys before : List A) (next : A) (later : List A) → xs ++ ys ≡ before ++ next ∷ later → Cuts xs before next
  cuts [] ys before next later e = after_all before refl
  cuts (x ∷ xs) ys [] next later e = let same : x ≡ next = cc in within xs (ap (λ y. y ∷ xs) same)
  cuts (x ∷ xs) ys (b ∷ before) next later e =
      let same : x ≡ b = cc in
      let rest : xs ++ ys ≡ before ++ next ∷ later = cc in
      cuts_push x b xs before next same (cuts xs ys before next later rest)
