-- How a phase begins, in the words of the model.
use Rattle.std.specs.Prelude.{◌≡◌, ℕ, suc, true, false, leb, IsTrue, Option, List, [], ◌∷◌}
use Rattle.std.specs.List.{list_all}
use Rattle.layout_roles.specs.declared.layout.Layout.{Layout}
use Rattle.layout_history.specs.declared.view.View.{View}
use Rattle.layout_history.specs.Views.{known}
use Rattle.view_model.specs.Layouts.{reading}
use Rattle.view_model.specs.View.{newest, oldest}
use Rattle.table_schema.specs.Words.{Words, partition_of}
use Rattle.quorum_tally.specs.declared.tally.Tally.{Tally}
use Rattle.quorum_tally.specs.Stands.{Tallies}
use Rattle.write_call.specs.declared.call.WriteCall.{WriteCall}
use Rattle.write_call.specs.Stands.{Stands}
use Rattle.wire_messages.specs.declared.phase.Phase.{Phase}
use Rattle.cluster_machine.specs.Layouts.{stored_sets, layouts}
use Rattle.cluster_machine.specs.Node.{Node, Call as Opened, Present as Doing, Did}
use Rattle.cluster_machine.specs.Phases.{is_spelled, calls_now, stores, slots_of, begins}
use Rattle.node_parts.specs.declared.begin.Beginning.{Beginning}
use Rattle.node_parts.specs.declared.call.Present.{Present}
use Rattle.node_parts.specs.declared.packet.Envelope.{Envelope}
use Rattle.node_parts.specs.Posts.{Posts}
use Rattle.node_parts.specs.Calls.{IsPresent}

module _ {R : Type 0} (s : Words R) where
  -- a row is sent, with the block beside it, to the nodes of its stored sets, and nobody has confirmed it
  pub record Stores (b : Beginning) (view : View) (slot : ℕ) (row : R × Option (List ℕ)) (old new : List (Envelope R)) (tally : Tally) : Type 0 where
    pub posts : Posts b.node old new (stores s layouts (known view) b.request b.phase slot (row ∷ []))
    pub confirmed : Tallies tally (oldest reading (known view)) (stored_sets layouts (known view) (partition_of s row.0)) []
    pub spelled : is_spelled s row.0 ≡ true

  -- all rows of a store phase were sent, each with its slot
  pub record StoresAll (b : Beginning) (view : View) (rows : List (R × Option (List ℕ))) (old new : List (Envelope R)) (call : WriteCall) : Type 0 where
    pub posts : Posts b.node old new (stores s layouts (known view) b.request b.phase 0 rows)
    pub slots : Stands call (slots_of s layouts (known view) rows)
    pub spelled : list_all (λ r. is_spelled s r.0) rows ≡ true

  -- the call entered the phase, and what d sends was sent
  pub record Began {S : Type 0} (b : Beginning) (present : Present S R) (old new : List (Envelope R)) (x : Node R Layout) (c : Opened R) (d : Did R Layout) : Type 0 where
    pub doing : Doing R
    pub is : IsPresent present doing
    pub node : d.node ≡ calls_now x (record c { phases = b.phase; present = doing })
    pub posts : Posts b.node old new d.posts
    pub ends : d.ends ≡ []
    pub spelled : d.is_spelled ≡ true

  -- a node with this view begins the phase, for a call that had one phase less
  abbrev pub Begins : {S : Type 0} → Beginning → View → Phase R → List (Envelope R) → List (Envelope R) → Present S R → Type 0
  Begins {S} b view phase old new present =
      (kept : List R) (x : Node R Layout) (c : Opened R) → known view ≡ x.view → IsTrue (leb 1 (newest reading x.view)) → c.request ≡ b.request → suc c.phases ≡ b.phase →
      Began b present old new x c (begins s layouts kept x c phase)

  -- some row of the phase has no bytes
  abbrev pub CannotBegin : Beginning → View → Phase R → Type 0
  CannotBegin b view phase =
      (kept : List R) (x : Node R Layout) (c : Opened R) → known view ≡ x.view → (begins s layouts kept x c phase).is_spelled ≡ false
