-- Each node has the blocks of its rows, and each message those of its rows, after a node acted and after a first layout.
use Rattle.std.specs.Prelude.{◌≡◌, ℕ, Bool, true, false, ◌==◌, cond, List, [], ◌∷◌, Some, None}
use Rattle.std.specs.Option.{unwrap_or}
use Rattle.std.specs.List.{AllByRecursion}
use Rattle.blake2_hash.specs.Blake2b.{blake2b}
use Rattle.crdt_core.proofs.Each.{all_append}
use Rattle.layout_roles.specs.declared.role.Role.{Role}
use Rattle.layout_roles.specs.declared.layout.Layout.{Layout}
use Rattle.layout_roles.specs.declared.cut.Cut.{Cut}
use Rattle.quorum_model.specs.Quorum.{is_among}
use Rattle.table_schema.specs.Laws.{Laws}
use Rattle.table_schema.specs.Words.{Words}
use Rattle.cluster_machine.specs.declared.step.Action.{Action}
use Rattle.cluster_machine.specs.declared.applied.Applied.{Applied}
use Rattle.cluster_machine.specs.Layouts.{layouts}
use Rattle.cluster_machine.specs.Node.{Node, Post}
use Rattle.cluster_machine.specs.Acts.{acts, appends}
use Rattle.cluster_machine.specs.Blocks.{PacketCarriesBlocks, SentWithBlocks, IsStocked, AllStocked}
use Rattle.cluster_machine.specs.World.{clock}
use Rattle.cluster_machine.specs.Step.{sent_by, trio_applies, applied}
use Rattle.cluster_machine.specs.Worlds.{Model}
use Rattle.block_laws.proofs.Doing.{acts_done}
use Rattle.world_core.specs.Stands.{acts_so}

module _ {R : Type 0} (join : R → R → R) (s : Words R) where
  abbrev HasBlocks : Node R Layout → Type 0
  HasBlocks x = IsStocked (blake2b 32) s join x

  sent_stocked : (w : Model R) (n : ℕ) (posts : List (Post R Layout)) → AllByRecursion (λ (p : Post R Layout). PacketCarriesBlocks (blake2b 32) s p.packet) posts → AllByRecursion (SentWithBlocks (blake2b 32) s) (sent_by w n posts)
  sent_stocked w n [] h = tt
  sent_stocked w n (p ∷ posts) h = (h.0, sent_stocked w n posts h.1)

  -- some nodes change, each to one that has its blocks
  some_stocked : (b : Bool) (new old : Node R Layout) → HasBlocks new → HasBlocks old → HasBlocks (unwrap_or (cond b (Some new) None) old)
  some_stocked true new old h k = h
  some_stocked false new old h k = k

  -- a node acted
  pub acts_stocked : (laws : Laws join s) (w : Model R) → AllStocked (blake2b 32) s join w → (n : ℕ) (action : Action) → (acts join s layouts n (clock w n) (w.nodes n) action).did.is_spelled ≡ true →
      AllStocked (blake2b 32) s join (applied w (acts_so join s n action w))
  acts_stocked laws w h n action spelled =
      let d = (acts join s layouts n (clock w n) (w.nodes n) action).did in
      let done = acts_done (blake2b 32) laws layouts (w.nodes n) (h.nodes n) n (clock w n) action spelled in
      record {
        nodes = λ m. some_stocked (m == n) d.node (w.nodes m) done.node (h.nodes m);
        messages = all_append (SentWithBlocks (blake2b 32) s) w.messages (sent_by w n d.posts) h.messages (sent_stocked w n d.posts done.posts);
      }

  -- the nodes of a first layout have it, and nothing was sent
  pub first_stocked : (w : Model R) → AllStocked (blake2b 32) s join w → (first : Layout) (stage : List Role → List Role) → AllStocked (blake2b 32) s join (applied w (trio_applies {A = Applied} {C = Cut} join s layouts first stage w))
  first_stocked w h first stage = record {
    nodes = λ m. some_stocked (is_among m (layouts.reading.members first)) (appends layouts (w.nodes m) first) (w.nodes m) (record { proper = (h.nodes m).proper; items_need_none = (h.nodes m).items_need_none; collections_need_none = (h.nodes m).collections_need_none; digests = (h.nodes m).digests; has = (h.nodes m).has }) (h.nodes m);
    messages = all_append (SentWithBlocks (blake2b 32) s) w.messages [] h.messages tt;
  }
