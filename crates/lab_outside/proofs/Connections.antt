-- Connections that are still to come, and to which nothing was written.
use Rattle.std.proofs.Common.{◌≡◌, ℕ, suc, arith, Option, Some, None, List, [], ◌∷◌, ◌++◌, refl, sym, ◌∙◌, ap, subst, option_to_list, IfSome, map, option_map, is_some, length, ◌+◌, ◌≤◌, if◌then◌else◌}
use Rattle.std.proofs.lemmas.Grind.{elements}
use Rattle.std.proofs.lemmas.Option.{same_Some}
use Rattle.std.proofs.lemmas.List.{map-append}
use Rattle.lab_outside.specs.declared.sure_connection.SureConnection.{SureConnection}
use Rattle.lab_outside.specs.Sure.{bytes_written}
use Rattle.lab_outside.specs.SureConnection.{AreFresh, connection_of, connection_left}
use Rattle.lab_outside.specs.Connection.{IsFresh}

fresh_tail : (o : Option SureConnection) (ys : List SureConnection) → AreFresh (option_to_list o ++ ys) → AreFresh ys
fresh_tail None ys f = f
fresh_tail (Some c) ys f = λ k d h. f (suc k) d (omega arith)

pub fresh_rest : (o : Option SureConnection) (xs ys : List SureConnection) → xs ≡ option_to_list o ++ ys → AreFresh xs → AreFresh ys
fresh_rest o xs ys e f = fresh_tail o ys (subst AreFresh e f)

fresh_head : (o : Option SureConnection) (ys : List SureConnection) → AreFresh (option_to_list o ++ ys) → IfSome o (λ c. bytes_written c.output ≡ Some [])
fresh_head None ys f = tt
fresh_head (Some c) ys f = f 0 c (omega arith)

pub fresh_first : (o : Option SureConnection) (xs ys : List SureConnection) → xs ≡ option_to_list o ++ ys → AreFresh xs → IfSome o (λ c. bytes_written c.output ≡ Some [])
fresh_first o xs ys e f = fresh_head o ys (subst AreFresh e f)

pub fresh_more : (xs : List SureConnection) (c : SureConnection) → AreFresh xs → bytes_written c.output ≡ Some [] → AreFresh (xs ++ c ∷ [])
fresh_more xs c f e = grind (arith, elements)

pub fresh_present : (o : Option SureConnection) → IfSome o (λ c. bytes_written c.output ≡ Some []) → IfSome (option_map connection_of o) IsFresh
fresh_present None h = tt
fresh_present (Some c) h = record { unwritten = subst (λ w. IfSome w (λ bytes. bytes ≡ [])) (sym h) refl; faultless = refl }

-- a connection that comes takes the room of one that was still to come
pub room_after : (old new : Option SureConnection) (past before after room : ℕ) → past + (if is_some old then 1 else 0) + before ≤ room → old ≡ None → after + length (option_to_list new) ≡ before → past + (if is_some new then 1 else 0) + after ≤ room
room_after old None past before after room h e k = omega arith
room_after old (Some c) past before after room h e k = omega arith

-- one more connection, and what it will give
pub left_more : {X : Type 0} (f : X → List ℕ) (xs new : List SureConnection) (c : SureConnection) (ys : List X) (y : X) → map connection_left xs ≡ map f ys → new ≡ xs ++ c ∷ [] → Some (connection_left c) ≡ Some (f y) → map connection_left new ≡ map f (ys ++ y ∷ [])
left_more f xs new c ys y h e k =
    let l : connection_left c ≡ f y = same_Some (connection_left c) (f y) k in
    ap (map connection_left) e ∙ map-append connection_left xs (c ∷ []) ∙ ap (λ t. t ++ connection_left c ∷ []) h ∙ ap (λ t. map f ys ++ t ∷ []) l ∙ sym (map-append f ys (y ∷ []))
