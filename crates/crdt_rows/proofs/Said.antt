-- The greater of two values of which each may be missing, as what either says.
use Rattle.std.proofs.Common.{◌≡◌, ◌⊎◌, inl, inr, true, false, Option, Some, None, refl, ap, sym, subst, ◌∙◌, Ordering, Less, Equal, Greater}
use Rattle.std.specs.Ordering.{is_gt}
use Rattle.std.specs.Cmp.{IsTotalOrder, tied_itself}
use Rattle.std.proofs.lemmas.Option.{same_Some}
use Rattle.crdt_core.specs.Orders.{Identifies}
use Rattle.crdt_core.specs.Lex.{by_order, larger}
use Rattle.crdt_core.specs.LexLaws.{turned}
use Rattle.crdt_core.specs.Order.{option_join}

module _ {X : Type 0} {R : X → X → Ordering} (o : IsTotalOrder R) (same : Identifies R) where
  abbrev Said : Option X → Option X → X → Type 0
  Said x y z = (x ≡ Some z) ⊎ (y ≡ Some z)

  not_above_itself : (w z : X) → w ≡ z → is_gt (R w z) ≡ false
  not_above_itself w z e = ap is_gt (ap (λ x. R x z) e ∙ tied_itself o z)

  pick : (u t z : X) (r : Ordering) → R u t ≡ r → by_order r t u u ≡ z → (u ≡ z) ⊎ (t ≡ z)
  pick u t z Less p e = inr e
  pick u t z Equal p e = inl e
  pick u t z Greater p e = inl e

  some_of : (u t z : X) → (u ≡ z) ⊎ (t ≡ z) → Said (Some u) (Some t) z
  some_of u t z (inl e) = inl (ap Some e)
  some_of u t z (inr e) = inr (ap Some e)

  pub picked : (x y : Option X) (z : X) → option_join (larger R) x y ≡ Some z → Said x y z
  picked None y z e = inr e
  picked (Some u) None z e = inl e
  picked (Some u) (Some t) z e = some_of u t z (pick u t z (R u t) refl (same_Some (larger R u t) z e))

  left_below : (u t z : X) (r : Ordering) → R u t ≡ r → by_order r t u u ≡ z → is_gt (R u z) ≡ false
  left_below u t z Less p e = ap is_gt (ap (R u) (sym e) ∙ p)
  left_below u t z Equal p e = not_above_itself u z e
  left_below u t z Greater p e = not_above_itself u z e

  right_below : (u t z : X) (r : Ordering) → R u t ≡ r → by_order r t u u ≡ z → is_gt (R t z) ≡ false
  right_below u t z Less p e = not_above_itself t z e
  right_below u t z Equal p e = ap is_gt (ap (R t) (sym e) ∙ turned o u t Equal p)
  right_below u t z Greater p e = ap is_gt (ap (R t) (sym e) ∙ turned o u t Greater p)

  pub none_above : (x y : Option X) (z : X) → option_join (larger R) x y ≡ Some z → (w : X) → Said x y w → is_gt (R w z) ≡ false
  none_above None y z e w (inl h) = let no : None ≡ Some w = h in cc
  none_above None y z e w (inr h) = not_above_itself w z (same_Some w z (sym h ∙ e))
  none_above (Some u) None z e w (inl h) = not_above_itself w z (same_Some w z (sym h ∙ e))
  none_above (Some u) None z e w (inr h) = let no : None ≡ Some w = h in cc
  none_above (Some u) (Some t) z e w (inl h) =
      subst (λ k. is_gt (R k z) ≡ false) (same_Some u w h) (left_below u t z (R u t) refl (same_Some (larger R u t) z e))
  none_above (Some u) (Some t) z e w (inr h) =
      subst (λ k. is_gt (R k z) ≡ false) (same_Some t w h) (right_below u t z (R u t) refl (same_Some (larger R u t) z e))

  keep_left : (u t : X) (r : Ordering) → R u t ≡ r → is_gt (R t u) ≡ false → by_order r t u u ≡ u
  keep_left u t Less p h = let no : true ≡ false = ap is_gt (sym (turned o u t Less p)) ∙ h in cc
  keep_left u t Equal p h = refl
  keep_left u t Greater p h = refl

  keep_right : (u t : X) (r : Ordering) → R u t ≡ r → is_gt (R u t) ≡ false → by_order r t u u ≡ t
  keep_right u t Less p h = refl
  keep_right u t Equal p h = same u t p
  keep_right u t Greater p h = let no : true ≡ false = ap is_gt (sym p) ∙ h in cc

  -- what either says and neither says more than is the greater
  pub is_picked : (x y : Option X) (z : X) → Said x y z → ((w : X) → Said x y w → is_gt (R w z) ≡ false) → option_join (larger R) x y ≡ Some z
  is_picked None y z (inl e) h = let no : None ≡ Some z = e in cc
  is_picked None y z (inr e) h = e
  is_picked (Some u) None z (inl e) h = e
  is_picked (Some u) None z (inr e) h = let no : None ≡ Some z = e in cc
  is_picked (Some u) (Some t) z (inl e) h =
      let mine : u ≡ z = same_Some u z e in
      let below : is_gt (R t u) ≡ false = subst (λ k. is_gt (R t k) ≡ false) (sym mine) (h t (inr refl)) in
      ap Some (keep_left u t (R u t) refl below ∙ mine)
  is_picked (Some u) (Some t) z (inr e) h =
      let mine : t ≡ z = same_Some t z e in
      let below : is_gt (R u t) ≡ false = subst (λ k. is_gt (R u k) ≡ false) (sym mine) (h u (inl refl)) in
      ap Some (keep_right u t (R u t) refl below ∙ mine)
