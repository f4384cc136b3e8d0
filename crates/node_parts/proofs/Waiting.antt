-- Items that wait, in the code and in the model: the one with a number, and what a confirmation makes of them.
use Rattle.std.proofs.Common.{◌≡◌, ◌<◌, ℕ, zero, suc, Bool, true, false, not, cond, if◌then◌else◌, ◌==◌, ◌&&◌, ◌||◌, nat_le, List, [], ◌∷◌, ◌++◌, Some, None, option_map, map, length, get_or, count_by, refl, sym, ap, ◌∙◌, subst, arith, eq-eqb, eqb-true}
use Rattle.std.specs.List.{AllZip, filter, list_any, list_all}
use Rattle.std.proofs.lemmas.Option.{same_Some}
use Rattle.numbered_list.specs.Numbers.{Rises}
use Rattle.numbered_list.proofs.Numbering.{NoneHas, none_past, none_changed, none_left_out, number_above, apart_above}
use Rattle.block_resync.specs.Outbox.{Outbox, number_of, item_confirmed, item_forgot, confirmed, dropped, is_done as code_done, two_of_each}
use Rattle.quorum_model.specs.Quorum.{is_among, two_of}
use Rattle.block_resync.specs.declared.item.Item.{Item}
use Rattle.block_resync.proofs.Numbering.{none_found, kept, same_number}
use Rattle.std.proofs.Math.Bool.{or-false, or-true}
use Rattle.layout_roles.specs.declared.layout.Layout.{Layout}
use Rattle.view_model.specs.View.{View}
use Rattle.table_schema.specs.Words.{Words, partition_of}
use Rattle.cluster_machine.specs.Node.{Item as Waiting}
use Rattle.cluster_machine.specs.Layouts.{stored_sets, layouts}
use Rattle.cluster_machine.specs.Receives.{item_came, is_done}
use Rattle.cluster_machine.specs.Acts.{unconfirmed}
use Rattle.node_parts.specs.Contents.{IsItem, item_at}
use Rattle.quorum_model.proofs.Counting.{is_among-push}

-- ---- the item with a number

module _ {R : Type 0} (s : Words R) where
  pub item_found : (n low : ℕ) (items : List Item) (ms : List (Waiting R)) (i : ℕ) (d : Item) → Rises low (map number_of items) → AllZip (IsItem s) items ms → i < length items → (get_or items i d).number ≡ n →
      Some (get_or items i d).partition ≡ option_map (λ (m : Waiting R). partition_of s m.row) (item_at ms n)
  item_found n low [] ms i d r h lt is = absurd (omega arith)
  item_found n low (x ∷ xs) [] i d r h lt is = absurd h
  item_found n low (x ∷ xs) (m ∷ ms) zero d r h lt is =
      rw (eq-eqb m.number n (sym h.0.number ∙ is)) (ap Some h.0.partition)
  item_found n low (x ∷ xs) (m ∷ ms) (suc i) d r h lt is =
      let later = number_above number_of x.number xs i d r.1 (omega arith) in
      rw (apart_above m.number n (omega (arith, h.0.number, is, later))) (item_found n x.number xs ms i d r.1 h.1 (omega arith) is)

  pub item_absent : (n : ℕ) (items : List Item) (ms : List (Waiting R)) → NoneHas number_of n items → AllZip (IsItem s) items ms → item_at ms n ≡ None
  item_absent n [] [] none h = refl
  item_absent n [] (m ∷ ms) none h = absurd h
  item_absent n (x ∷ xs) [] none h = absurd h
  item_absent n (x ∷ xs) (m ∷ ms) none h = rw (ap (λ k. k == n) (sym h.0.number) ∙ none.0) (item_absent n xs ms none.1 h.1)

-- ---- who has confirmed

-- a node that was there already adds nothing
among_again : (n node : ℕ) (nodes : List ℕ) → is_among node nodes ≡ true → is_among n nodes ≡ (is_among n nodes || (node == n))
among_again n node nodes is =
    elim (node == n) as (λ b. (node == n) ≡ b → is_among n nodes ≡ (is_among n nodes || b)) [
      | true ↦ λ e. ap (λ k. is_among k nodes) (sym (eqb-true node n e)) ∙ is ∙ sym (or-true (is_among n nodes))
      | false ↦ λ e. sym (or-false (is_among n nodes))
    ] refl

confirmed_same : (node : ℕ) (x : Item) (nodes : List ℕ) → ((n : ℕ) → is_among n x.confirmed ≡ is_among n nodes) → (n : ℕ) → is_among n (item_confirmed node x).confirmed ≡ is_among n (nodes ++ node ∷ [])
confirmed_same node x nodes h n =
    elim (is_among node x.confirmed) as (λ b. is_among node x.confirmed ≡ b → is_among n (if b then x else record x { confirmed = x.confirmed ++ node ∷ [] }).confirmed ≡ is_among n (nodes ++ node ∷ [])) [
      | true ↦ λ e. h n ∙ (among_again n node nodes (sym (h node) ∙ e) ∙ sym (is_among-push n node nodes))
      | false ↦ λ e. is_among-push n node x.confirmed ∙ (ap (λ b. b || (node == n)) (h n) ∙ sym (is_among-push n node nodes))
    ] refl

done_same : (x : Item) (nodes : List ℕ) (sets : List (List ℕ)) → ((n : ℕ) → is_among n x.confirmed ≡ is_among n nodes) → two_of_each sets x ≡ list_all (λ set. two_of set nodes) sets
done_same x nodes sets h = λ j. list_all (λ set. nat_le 2 (count_by (λ n. h n j) set)) sets

-- ---- an item that a node confirms

module _ (node n : ℕ) (sets : List (List ℕ)) where
  abbrev told : List Item → List Item
  told items = map (λ x. if x.number == n then item_confirmed node x else x) items

  abbrev is_out : List Item → Bool
  is_out items = list_any (λ x. (x.number == n) && two_of_each sets x) items

  abbrev left : List Item → List Item
  left items = filter (λ x. not (x.number == n)) items

  -- the items after the confirmation, without the one that two nodes of each set have confirmed
  abbrev pub after : List Item → List Item
  after items = if is_out (told items) then left (told items) else told items

  by_done : (b : Bool) (x : Item) (l k : List Item) → (if b then x ∷ l else x ∷ k) ≡ x ∷ (if b then l else k)
  by_done true x l k = refl
  by_done false x l k = refl

  after_other : (x : Item) (items : List Item) → (x.number == n) ≡ false → after (x ∷ items) ≡ x ∷ after items
  after_other x items e =
      let same : told (x ∷ items) ≡ x ∷ told items = ap (λ b. (if b then item_confirmed node x else x) ∷ told items) e in
      let out : is_out (x ∷ told items) ≡ is_out (told items) = ap (λ b. (b && two_of_each sets x) || is_out (told items)) e in
      let stays : left (x ∷ told items) ≡ x ∷ left (told items) = ap (λ b. cond (not b) (x ∷ left (told items)) (left (told items))) e in
      ap (λ l. if is_out l then left l else l) same
      ∙ ((λ j. if out j then stays j else x ∷ told items)
      ∙ by_done (is_out (told items)) x (left (told items)) (told items))

  after_one : (y : Item) (items : List Item) → (y.number == n) ≡ true → NoneHas number_of n items → (if is_out (y ∷ items) then left (y ∷ items) else y ∷ items) ≡ (if two_of_each sets y then items else y ∷ items)
  after_one y items e none =
      let out : is_out (y ∷ items) ≡ two_of_each sets y = ap (λ b. (b && two_of_each sets y) || is_out items) e ∙ (ap (λ b. two_of_each sets y || b) (none_found (two_of_each sets) n items none) ∙ or-false (two_of_each sets y)) in
      let gone : left (y ∷ items) ≡ items = ap (λ b. cond (not b) (y ∷ left items) (left items)) e ∙ none_left_out number_of n items none in
      ap (λ b. if b then left (y ∷ items) else y ∷ items) out ∙ ap (λ l. if two_of_each sets y then l else y ∷ items) gone

  after_here : (x : Item) (items : List Item) → (x.number == n) ≡ true → NoneHas number_of n items → after (x ∷ items) ≡ (if two_of_each sets (item_confirmed node x) then items else item_confirmed node x ∷ items)
  after_here x items e none =
      let y = item_confirmed node x in
      let same : told (x ∷ items) ≡ y ∷ items = (λ j. (if e j then y else x) ∷ none_changed number_of (item_confirmed node) n items none j) in
      ap (λ l. if is_out l then left l else l) same ∙ after_one y items (ap (λ k. k == n) (same_number node x) ∙ e) none

  module _ {R : Type 0} (join : R → R → R) (s : Words R) (v : View Layout) (p : ℕ) (are : sets ≡ stored_sets layouts v p) where
    zip_here : (b : Bool) (x : Item) (m : Waiting R) (xs : List Item) (ms : List (Waiting R)) → IsItem s x m → AllZip (IsItem s) xs ms → AllZip (IsItem s) (if b then xs else x ∷ xs) (cond b ms (m ∷ ms))
    zip_here true x m xs ms is h = h
    zip_here false x m xs ms is h = (is, h)

    pub confirms : (low : ℕ) (items : List Item) (ms : List (Waiting R)) → Rises low (map number_of items) → AllZip (IsItem s) items ms → Some p ≡ option_map (λ (m : Waiting R). partition_of s m.row) (item_at ms n) →
        AllZip (IsItem s) (after items) (item_came join s layouts v node n ms)
    confirms low [] [] r h at = tt
    confirms low [] (m ∷ ms) r h at = absurd h
    confirms low (x ∷ xs) [] r h at = absurd h
    confirms low (x ∷ xs) (m ∷ ms) r h at =
        let number : (m.number == n) ≡ (x.number == n) = ap (λ k. k == n) (sym h.0.number) in
        elim (x.number == n) as (λ b. (x.number == n) ≡ b → AllZip (IsItem s) (after (x ∷ xs)) (item_came join s layouts v node n (m ∷ ms))) [
          | true ↦ λ e.
              let here : (m.number == n) ≡ true = number ∙ e in
              let new : Waiting R = record m { confirmed = m.confirmed ++ node ∷ [] } in
              let place : p ≡ partition_of s m.row = same_Some p (partition_of s m.row) (at ∙ ap (λ b. option_map (λ (w : Waiting R). partition_of s w.row) (cond b (Some m) (item_at ms n))) here) in
              let y = item_confirmed node x in
              let among = confirmed_same node x m.confirmed h.0.confirmed in
              let done : two_of_each sets y ≡ is_done join s layouts v new = done_same y new.confirmed sets among ∙ ap (λ l. list_all (λ set. two_of set new.confirmed) l) (are ∙ ap (stored_sets layouts v) place) in
              let is : IsItem s y new = record { number = same_number node x ∙ h.0.number; row = h.0.row ∙ ap Some (sym (kept (λ (y : Item). y.row) (λ y nodes. refl) node x)); partition = kept (λ (y : Item). y.partition) (λ y nodes. refl) node x ∙ h.0.partition; confirmed = among } in
              let past = none_past number_of n x.number xs (omega (arith, eqb-true x.number n e)) r.1 in
              let code : after (x ∷ xs) ≡ (if two_of_each sets y then xs else y ∷ xs) = after_here x xs e past in
              let model : item_came join s layouts v node n (m ∷ ms) ≡ cond (two_of_each sets y) ms (new ∷ ms) = ap (λ b. cond b (cond (is_done join s layouts v new) ms (new ∷ ms)) (m ∷ item_came join s layouts v node n ms)) here ∙ ap (λ b. cond b ms (new ∷ ms)) (sym done) in
              subst (AllZip (IsItem s) (after (x ∷ xs))) (sym model) (subst (λ l. AllZip (IsItem s) l (cond (two_of_each sets y) ms (new ∷ ms))) (sym code) (zip_here (two_of_each sets y) y new xs ms is h.1))
          | false ↦ λ e.
              let other : (m.number == n) ≡ false = number ∙ e in
              let later = at ∙ ap (λ b. option_map (λ (w : Waiting R). partition_of s w.row) (cond b (Some m) (item_at ms n))) other in
              let model : item_came join s layouts v node n (m ∷ ms) ≡ m ∷ item_came join s layouts v node n ms = ap (λ b. cond b (cond (is_done join s layouts v (record m { confirmed = m.confirmed ++ node ∷ [] })) ms (record m { confirmed = m.confirmed ++ node ∷ [] } ∷ ms)) (m ∷ item_came join s layouts v node n ms)) other in
              subst (AllZip (IsItem s) (after (x ∷ xs))) (sym model) (subst (λ l. AllZip (IsItem s) l (m ∷ item_came join s layouts v node n ms)) (sym (after_other x xs e)) (h.0, confirms x.number xs ms r.1 h.1 later))
        ] refl

  -- where no item has the number nothing changes
  pub came_to_none : {R : Type 0} (join : R → R → R) (s : Words R) (v : View Layout) (ms : List (Waiting R)) → None ≡ option_map (λ (m : Waiting R). partition_of s m.row) (item_at ms n) → item_came join s layouts v node n ms ≡ ms
  came_to_none join s v [] at = refl
  came_to_none {R} join s v (m ∷ ms) at =
      let new : Waiting R = record m { confirmed = m.confirmed ++ node ∷ [] } in
      elim (m.number == n) as (λ b. None ≡ option_map (λ (w : Waiting R). partition_of s w.row) (cond b (Some m) (item_at ms n)) → cond b (cond (is_done join s layouts v new) ms (new ∷ ms)) (m ∷ item_came join s layouts v node n ms) ≡ m ∷ ms) [
        | true ↦ λ e. cc
        | false ↦ λ e. ap (λ l. m ∷ l) (came_to_none join s v ms e)
      ] at

  by_outcome : (d : Bool) (o : Outbox) → (if d then dropped o n else o).items ≡ (if d then left o.items else o.items)
  by_outcome true o = refl
  by_outcome false o = refl

  by_count : (d : Bool) (o : Outbox) → (if d then dropped o n else o).pushed ≡ o.pushed
  by_count true o = refl
  by_count false o = refl

  pub items_after : (old mid new : Outbox) (d : Bool) → mid ≡ confirmed old n node → d ≡ code_done mid n sets → new ≡ (if d then dropped mid n else mid) → new.items ≡ after old.items
  items_after old mid new d e is step =
      ap (λ o. o.items) step ∙ (by_outcome d mid ∙ (ap (λ b. if b then left mid.items else mid.items) is ∙ ap (λ (o : Outbox). if is_out o.items then left o.items else o.items) e))

  pub count_after : (old mid new : Outbox) (d : Bool) → mid ≡ confirmed old n node → new ≡ (if d then dropped mid n else mid) → new.pushed ≡ old.pushed
  count_after old mid new d e step = ap (λ o. o.pushed) step ∙ (by_count d mid ∙ ap (λ o. o.pushed) e)

pub forgot_items : {R : Type 0} (s : Words R) (items : List Item) (ms : List (Waiting R)) → AllZip (IsItem s) items ms → AllZip (IsItem s) (map item_forgot items) (map unconfirmed ms)
forgot_items s [] [] h = tt
forgot_items s [] (m ∷ ms) h = absurd h
forgot_items s (x ∷ xs) [] h = absurd h
forgot_items s (x ∷ xs) (m ∷ ms) h = (record { number = h.0.number; row = h.0.row; partition = h.0.partition; confirmed = λ n. refl }, forgot_items s xs ms h.1)
