-- Rows that wait are sent, one item after the other.
use Rattle.std.proofs.Common.{◌≡◌, ◌<◌, ◌+◌, ℕ, zero, suc, List, [], ◌∷◌, ◌++◌, Option, None, length, get_or, take, flat_map, refl, sym, ap, ◌∙◌, subst, append_assoc, append-nil, add-one, arith}
use Rattle.std.specs.List.{AllZip}
use Rattle.block_resync.specs.declared.item.Item.{Item}
use Rattle.layout_roles.specs.declared.layout.Layout.{Layout}
use Rattle.view_model.specs.Layouts.{reading}
use Rattle.view_model.specs.View.{View, newest}
use Rattle.table_schema.specs.Words.{Words}
use Rattle.wire_messages.specs.declared.message.Message.{Message}
use Rattle.wire_messages.specs.declared.message.Message.TheVariants.{Store}
use Rattle.wire_messages.specs.declared.message.Tag.TheVariants.{Item as ForItem}
use Rattle.cluster_machine.specs.Node.{Item as Waiting}
use Rattle.cluster_machine.specs.Layouts.{stored_sets, layouts}
use Rattle.cluster_machine.specs.Phases.{nodes_of, to_each, spelled}
use Rattle.cluster_machine.specs.Acts.{item_posts}
use Rattle.node_parts.specs.declared.packet.Envelope.{Envelope}
use Rattle.node_parts.specs.Contents.{IsItem}
use Rattle.node_parts.specs.Posts.{Posts}
use Rattle.node_parts.proofs.Posting.{posts_more}

-- the item at place i, and all that came before it
record Next {R : Type 0} (s : Words R) (item : Item) (ms : List (Waiting R)) (i : ℕ) : Type 0 where
  pub here : Waiting R
  pub is : IsItem s item here
  pub more : take (suc i) ms ≡ take i ms ++ here ∷ []

next_of : {R : Type 0} (s : Words R) (items : List Item) (ms : List (Waiting R)) (i : ℕ) (d : Item) → AllZip (IsItem s) items ms → i < length items → Next s (get_or items i d) ms i
next_of s [] ms i d h lt = absurd (omega arith)
next_of s (x ∷ xs) [] i d h lt = absurd h
next_of s (x ∷ xs) (m ∷ ms) zero d h lt = record { here = m; is = h.0; more = refl }
next_of s (x ∷ xs) (m ∷ ms) (suc i) d h lt =
    let n = next_of s xs ms i d h.1 (omega arith) in
    record { here = n.here; is = n.is; more = ap (λ l. m ∷ l) n.more }

pub zip_length : {A B : Type 0} (Q : A → B → Type 0) (xs : List A) (ys : List B) → AllZip Q xs ys → length xs ≡ length ys
zip_length Q [] [] h = refl
zip_length Q [] (y ∷ ys) h = absurd h
zip_length Q (x ∷ xs) [] h = absurd h
zip_length Q (x ∷ xs) (y ∷ ys) h = ap suc (zip_length Q xs ys h.1)

pub flat_more : {A B : Type 0} (f : A → List B) (xs : List A) (x : A) → flat_map f (xs ++ x ∷ []) ≡ flat_map f xs ++ f x
flat_more f [] x = append-nil (f x)
flat_more f (y ∷ ys) x = ap (λ l. f y ++ l) (flat_more f ys x) ∙ sym (append_assoc (f y) (flat_map f ys) (f x))

module _ {R : Type 0} (join : R → R → R) (s : Words R) where
  abbrev store_of : View Layout → Item → Message R
  store_of v item = Store (ForItem item.number) (newest reading v) item.partition ((item.row, None) ∷ [])

  module _ (items : List Item) (ms : List (Waiting R)) (i : ℕ) (d : Item) (h : AllZip (IsItem s) items ms) (lt : i < length items) where
    sent_next : (from : ℕ) (old mid new : List (Envelope R)) (v : View Layout) → Posts from old mid (flat_map (item_posts join s layouts v) (take i ms)) →
        Posts from mid new (to_each (nodes_of (stored_sets layouts v (get_or items i d).partition)) (store_of v (get_or items i d))) → Posts from old new (flat_map (item_posts join s layouts v) (take (i + 1) ms))
    sent_next from old mid new v sent one =
        let n = next_of s items ms i d h lt in
        let item = get_or items i d in
        let m = n.here in
        let bytes : item.row ≡ spelled (s.spelling m.row) = sym (ap spelled n.is.row) in
        let posts : to_each (nodes_of (stored_sets layouts v item.partition)) (store_of v item) ≡ item_posts join s layouts v m =
        λ j. to_each (nodes_of (stored_sets layouts v (n.is.partition j))) (Store (ForItem (n.is.number j)) (newest reading v) (n.is.partition j) ((bytes j, None) ∷ [])) in
        let all : flat_map (item_posts join s layouts v) (take (i + 1) ms) ≡ flat_map (item_posts join s layouts v) (take i ms) ++ item_posts join s layouts v m =
        ap (λ k. flat_map (item_posts join s layouts v) (take k ms)) (add-one i) ∙ (ap (flat_map (item_posts join s layouts v)) n.more ∙ flat_more (item_posts join s layouts v) (take i ms) m) in
        subst (Posts from old new) (sym all) (posts_more from old mid new (flat_map (item_posts join s layouts v) (take i ms)) (item_posts join s layouts v m) sent (subst (Posts from mid new) posts one))

    -- the same, of what the code wrote
    pub sent_with : (from : ℕ) (old mid new : List (Envelope R)) (v : View Layout) (p number at : ℕ) (nodes : List ℕ) (stored : List (List ℕ × Option (List ℕ))) → Posts from old mid (flat_map (item_posts join s layouts v) (take i ms)) →
        p ≡ (get_or items i d).partition → nodes ≡ nodes_of (stored_sets layouts v p) → number ≡ (get_or items i d).number → at ≡ newest reading v → stored ≡ ((get_or items i d).row, None) ∷ [] →
        Posts from mid new (to_each nodes (Store (ForItem number) at p stored)) → Posts from old new (flat_map (item_posts join s layouts v) (take (i + 1) ms))
    sent_with from old mid new v p number at nodes stored sent place nodes_are number_is at_is stored_are one =
        let posts : to_each {R = R} {L = Layout} nodes (Store (ForItem number) at p stored) ≡ to_each (nodes_of (stored_sets layouts v (get_or items i d).partition)) (store_of v (get_or items i d)) = λ j. to_each ((nodes_are ∙ ap (λ q. nodes_of (stored_sets layouts v q)) place) j) (Store (ForItem (number_is j)) (at_is j) (place j) (stored_are j)) in
        sent_next from old mid new v sent (subst (Posts from mid new) posts one)
