-- The nodes of a view's sets are places, where those of its layouts are.
use Rattle.std.proofs.Common.{◌==◌, ℕ, zero, suc, true, false, nat_lt, cond, Option, Some, None, List, [], ◌∷◌, map}
use Rattle.std.specs.Prelude.{⊤, slice_get}
use Rattle.std.specs.List.{AllByRecursion, find, flat_map}
use Rattle.std.specs.Option.{unwrap_or}
use Rattle.crdt_core.proofs.Each.{all_append}
use Rattle.view_model.specs.View.{View, layout_at}
use Rattle.cluster_machine.specs.Layouts.{Layouts, set_of, set_in, stored_sets}
use Rattle.cluster_machine.specs.Phases.{with_node, in_order, nodes_of}
use Rattle.receiver_laws.specs.Places.{LayoutNames}

module _ (IsPlace : ℕ → Type 0) where
  set_places : (sets : List (List ℕ)) (p : ℕ) → AllByRecursion (AllByRecursion IsPlace) sets → AllByRecursion IsPlace (unwrap_or (slice_get sets p) [])
  set_places [] p h = tt
  set_places (s ∷ sets) zero h = h.0
  set_places (s ∷ sets) (suc p) h = set_places sets p h.1

  with_place : (n : ℕ) (ns : List ℕ) → IsPlace n → AllByRecursion IsPlace ns → AllByRecursion IsPlace (with_node n ns)
  with_place n [] h k = (h, tt)
  with_place n (m ∷ ms) h k =
      elim (n == m) as (λ b. AllByRecursion IsPlace (cond b (m ∷ ms) (cond (nat_lt n m) (n ∷ m ∷ ms) (m ∷ with_node n ms)))) [
        | true ↦ k
        | false ↦ (elim (nat_lt n m) as (λ b. AllByRecursion IsPlace (cond b (n ∷ m ∷ ms) (m ∷ with_node n ms))) [ true ↦ (h, k) | false ↦ (k.0, with_place n ms h k.1) ])
      ]

  order_places : (ns : List ℕ) → AllByRecursion IsPlace ns → AllByRecursion IsPlace (in_order ns)
  order_places [] h = tt
  order_places (n ∷ ns) h = with_place n (in_order ns) h.0 (order_places ns h.1)

  module _ {L : Type 0} (k : Layouts L) where
    -- a layout's sets, if there is one
    abbrev pub FoundNames : Option L → Type 0
    FoundNames None = ⊤
    FoundNames (Some l) = LayoutNames IsPlace k l

    pub set_in_places : (o : Option L) (p : ℕ) → FoundNames o → AllByRecursion IsPlace (set_in k o p)
    set_in_places None p h = tt
    set_in_places (Some l) p h = set_places (k.reading.sets l) p h

    found_places : (i : ℕ) (ls : List L) → AllByRecursion (LayoutNames IsPlace k) ls → FoundNames (find (λ l. k.reading.version l == i) ls)
    found_places i [] h = tt
    found_places i (l ∷ ls) h = elim (k.reading.version l == i) as (λ b. FoundNames (cond b (Some l) (find (λ l. k.reading.version l == i) ls))) [ true ↦ h.0 | false ↦ found_places i ls h.1 ]

    pub layout_places : (v : View L) (i : ℕ) → AllByRecursion (LayoutNames IsPlace k) v.layouts → FoundNames (layout_at k.reading v i)
    layout_places v i h = found_places i v.layouts h

    sets_places : (p : ℕ) (ls : List L) → AllByRecursion (LayoutNames IsPlace k) ls → AllByRecursion IsPlace (flat_map (λ (set : List ℕ). set) (map (λ l. set_of k l p) ls))
    sets_places p [] h = tt
    sets_places p (l ∷ ls) h = all_append IsPlace (set_of k l p) (flat_map (λ (set : List ℕ). set) (map (λ l. set_of k l p) ls)) (set_places (k.reading.sets l) p h.0) (sets_places p ls h.1)

    pub nodes_places : (v : View L) (p : ℕ) → AllByRecursion (LayoutNames IsPlace k) v.layouts → AllByRecursion IsPlace (nodes_of (stored_sets k v p))
    nodes_places v p h = order_places (flat_map (λ (set : List ℕ). set) (stored_sets k v p)) (sets_places p v.layouts h)
