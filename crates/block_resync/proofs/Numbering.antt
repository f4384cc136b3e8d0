-- The item with a number, tested, and items that keep their numbers.
use Rattle.std.proofs.Common.{◌≡◌, ◌<◌, ℕ, zero, suc, Bool, true, false, ◌&&◌, ◌==◌, List, [], ◌∷◌, ◌++◌, Some, map, refl, ap, ◌∙◌, arith, eq-eqb}
use Rattle.std.specs.Prelude.{if◌then◌else◌, slice_get}
use Rattle.std.specs.List.{list_any}
use Rattle.std.specs.Option.{is_some}
use Rattle.std.proofs.lemmas.Option.{same_Some}
use Rattle.std.proofs.Math.Bool.{or-false}
use Rattle.numbered_list.specs.Numbers.{Rises}
use Rattle.numbered_list.proofs.Numbering.{NoneHas, none_past, above_item, apart_above}
use Rattle.quorum_model.specs.Quorum.{is_among}
use Rattle.block_resync.specs.Outbox.{number_of, item_confirmed, item_forgot}
use Rattle.block_resync.specs.declared.item.Item.{Item}

pub none_found : (q : Item → Bool) (n : ℕ) (items : List Item) → NoneHas number_of n items → list_any (λ x. (x.number == n) && q x) items ≡ false
none_found q n [] none = refl
none_found q n (x ∷ xs) none = rw none.0 (none_found q n xs none.1)

pub one_found : (q : Item → Bool) (n low : ℕ) (items : List Item) (i : ℕ) (v : Item) → Rises low (map number_of items) → slice_get items i ≡ Some v → v.number ≡ n → list_any (λ x. (x.number == n) && q x) items ≡ q v
one_found q n low [] i v r at_i is = absurd (let no : false ≡ true = ap is_some at_i in cc)
one_found q n low (x ∷ xs) zero v r at_i is =
    let same = same_Some x v at_i in
    let here : x.number ≡ n = ap number_of same ∙ is in
    rw (eq-eqb x.number n here, none_found q n xs (none_past number_of n x.number xs (omega (arith, here)) r.1)) (or-false (q x) ∙ ap q same)
one_found q n low (x ∷ xs) (suc i) v r at_i is =
    let later : x.number < n = above_item number_of n x.number xs i v r.1 at_i is in
    rw (apart_above x.number n later) (one_found q n x.number xs i v r.1 at_i is)

-- a confirmation keeps all of an item but who has confirmed it
pub kept : {X : Type 0} (f : Item → X) → ((y : Item) (nodes : List ℕ) → f (record y { confirmed = nodes }) ≡ f y) → (node : ℕ) (x : Item) → f (item_confirmed node x) ≡ f x
kept f same node x =
    elim (is_among node x.confirmed) as (λ b. f (if b then x else record x { confirmed = x.confirmed ++ node ∷ [] }) ≡ f x) [ true ↦ refl | false ↦ same x (x.confirmed ++ node ∷ []) ]

pub same_number : (node : ℕ) (x : Item) → (item_confirmed node x).number ≡ x.number
same_number = kept number_of (λ y nodes. refl)

pub forgot_numbers : (items : List Item) → map number_of (map item_forgot items) ≡ map number_of items
forgot_numbers [] = refl
forgot_numbers (x ∷ xs) = ap (λ ns. x.number ∷ ns) (forgot_numbers xs)
