-- What is sent to places, and walks and parts of them.
use Rattle.std.proofs.Common.{ℕ, suc, true, false, not, ◌==◌, cond, Option, List, [], ◌∷◌, map}
use Rattle.std.specs.List.{AllByRecursion, filter, flat_map}
use Rattle.crdt_core.proofs.Each.{all_append}
use Rattle.view_model.specs.View.{View}
use Rattle.table_schema.specs.Words.{Words, partition_of}
use Rattle.quorum_model.specs.Quorum.{is_among}
use Rattle.walk_model.specs.Noting.{is_noted}
use Rattle.wire_messages.specs.declared.message.Message.{Message}
use Rattle.cluster_machine.specs.Layouts.{Layouts, set_in, stored_sets}
use Rattle.cluster_machine.specs.Node.{Item, Part, Walk, Round, Node}
use Rattle.cluster_machine.specs.Phases.{nodes_of, to_each, stores}
use Rattle.cluster_machine.specs.Rounds.{confirmed_for, open_nodes, is_walk, without_walk, with_walk, has_ended, walks_after, rows_at, walk_with, walks_of, asks_at, first_asks, starts, pushes_rows, sends_after, parts_of, other_nodes}
use Rattle.cluster_machine.specs.Acts.{item_posts}
use Rattle.machine_origins.proofs.Lists.{all_filter}
use Rattle.receiver_laws.specs.Places.{LayoutNames, PostNames, WalkNames, PartNames}
use Rattle.receiver_laws.proofs.Sets.{FoundNames, set_in_places, nodes_places}

module _ (IsPlace : ℕ → Type 0) where
  without_places : (p n : ℕ) (walks : List Walk) → AllByRecursion (WalkNames IsPlace) walks → AllByRecursion (WalkNames IsPlace) (without_walk p n walks)
  without_places p n walks h = all_filter (WalkNames IsPlace) (λ w. not (is_walk p n w)) walks h

  pub walks_after_places : (w : Walk) (walks : List Walk) → WalkNames IsPlace w → AllByRecursion (WalkNames IsPlace) walks → AllByRecursion (WalkNames IsPlace) (walks_after w walks)
  walks_after_places w walks h k =
      let without = without_places w.state.partition w.node walks k in
      elim (has_ended w) as (λ b. AllByRecursion (WalkNames IsPlace) (cond b (without_walk w.state.partition w.node walks) (with_walk w walks))) [ true ↦ without | false ↦ (h, without) ]

  pub open_places : (round : Round) (part : Part) → PartNames IsPlace part → AllByRecursion IsPlace (open_nodes round part)
  open_places round part h = all_filter IsPlace (λ n. not (is_among n (confirmed_for part.partition round.confirmed))) part.set h

module _ {R L : Type 0} (k : Layouts L) (IsPlace : ℕ → Type 0) where
  pub each_places : (nodes : List ℕ) (m : Message R) → AllByRecursion IsPlace nodes → AllByRecursion (PostNames IsPlace k) (to_each nodes m)
  each_places [] m h = tt
  each_places (n ∷ nodes) m h = (record { to = h.0; packet = tt }, each_places nodes m h.1)

  module _ (s : Words R) (v : View L) (h : AllByRecursion (LayoutNames IsPlace k) v.layouts) where
    pub stores_places : (request phase slot : ℕ) (rs : List (R × Option (List ℕ))) → AllByRecursion (PostNames IsPlace k) (stores s k v request phase slot rs)
    stores_places request phase slot [] = tt
    stores_places request phase slot (r ∷ rs) =
        all_append (PostNames IsPlace k) (to_each (nodes_of (stored_sets k v (partition_of s r.0))) _) _
        (each_places (nodes_of (stored_sets k v (partition_of s r.0))) _ (nodes_places IsPlace k v (partition_of s r.0) h)) (stores_places request phase (suc slot) rs)

  module _ (join : R → R → R) (s : Words R) (v : View L) (h : AllByRecursion (LayoutNames IsPlace k) v.layouts) where
    pub items_places : (items : List (Item R)) → AllByRecursion (PostNames IsPlace k) (flat_map (item_posts join s k v) items)
    items_places [] = tt
    items_places (item ∷ items) =
        all_append (PostNames IsPlace k) (item_posts join s k v item) (flat_map (item_posts join s k v) items)
        (each_places (nodes_of (stored_sets k v (partition_of s item.row))) _ (nodes_places IsPlace k v (partition_of s item.row) h)) (items_places items)

module _ {R L : Type 0} (join : R → R → R) (s : Words R) (k : Layouts L) (IsPlace : ℕ → Type 0) (x : Node R L) where
  rows_places : (number p : ℕ) (nodes : List ℕ) (rs : List R) → AllByRecursion IsPlace nodes → AllByRecursion (PostNames IsPlace k) (pushes_rows join s k x number p nodes rs)
  rows_places number p nodes [] h = tt
  rows_places number p nodes (r ∷ rs) h = each_places k IsPlace nodes _ h

  asks_places : (number p to table : ℕ) (prefixes : List (List ℕ)) → IsPlace to → AllByRecursion (PostNames IsPlace k) (map (asks_at join s k x number p to table) prefixes)
  asks_places number p to table [] h = tt
  asks_places number p to table (prefix ∷ prefixes) h = (record { to = h; packet = tt }, asks_places number p to table prefixes h)

  first_places : (number p to : ℕ) (prefixes : List (ℕ × List ℕ)) → IsPlace to → AllByRecursion (PostNames IsPlace k) (map (λ (o : ℕ × List ℕ). asks_at join s k x number p to o.0 o.1) prefixes)
  first_places number p to [] h = tt
  first_places number p to (o ∷ prefixes) h = (record { to = h; packet = tt }, first_places number p to prefixes h)

  pub starts_places : (number : ℕ) (walks : List Walk) → AllByRecursion (WalkNames IsPlace) walks → AllByRecursion (PostNames IsPlace k) (starts join s k x number walks)
  starts_places number [] h = tt
  starts_places number (w ∷ walks) h =
      all_append (PostNames IsPlace k) (first_asks join s k x number w) (starts join s k x number walks) (first_places number w.state.partition w.node w.state.prefixes h.0) (starts_places number walks h.1)

  pub after_places : (number : ℕ) (w : Walk) (table : ℕ) (asked : List (List ℕ)) → IsPlace w.node → AllByRecursion (PostNames IsPlace k) (sends_after join s k x number w table asked)
  after_places number w table asked h =
      elim (has_ended w) as (λ b. AllByRecursion (PostNames IsPlace k) (cond b (pushes_rows join s k x number w.state.partition (w.node ∷ []) (filter (is_noted s w.state.noted) (rows_at join s x w.state.partition))) (map (asks_at join s k x number w.state.partition w.node table) asked))) [
        | true ↦ rows_places number w.state.partition (w.node ∷ []) _ (h, tt)
        | false ↦ asks_places number w.state.partition w.node table asked h
      ]

  new_places : (p : ℕ) (ns : List ℕ) → AllByRecursion IsPlace ns → AllByRecursion (WalkNames IsPlace) (map (walk_with join s x p) ns)
  new_places p [] h = tt
  new_places p (n ∷ ns) h = (h.0, new_places p ns h.1)

  pub walks_of_places : (nodes : Part → List ℕ) (parts : List Part) → ((part : Part) → PartNames IsPlace part → AllByRecursion IsPlace (nodes part)) → AllByRecursion (PartNames IsPlace) parts → AllByRecursion (WalkNames IsPlace) (walks_of join s x nodes parts)
  walks_of_places nodes [] each h = tt
  walks_of_places nodes (part ∷ parts) each h =
      all_append (WalkNames IsPlace) (map (walk_with join s x part.partition) (nodes part)) (walks_of join s x nodes parts) (new_places part.partition (nodes part) (each part h.0)) (walks_of_places nodes parts each h.1)

  mapped_places : (there : Option L) (parts : List Part) → FoundNames IsPlace k there → AllByRecursion (PartNames IsPlace) (map (λ (part : Part). record { partition = part.partition; set = set_in k there part.partition }) parts)
  mapped_places there [] h = tt
  mapped_places there (part ∷ parts) h = (set_in_places IsPlace k there part.partition h, mapped_places there parts h)

  pub parts_places : (id : ℕ) (here there : Option L) → FoundNames IsPlace k there → AllByRecursion (PartNames IsPlace) (parts_of join s k id x here there)
  parts_places id here there h = mapped_places there _ h

  pub others_places : (id : ℕ) (part : Part) → PartNames IsPlace part → AllByRecursion IsPlace (other_nodes join s k id part)
  others_places id part h = all_filter IsPlace (λ n. not (n == id)) part.set h
