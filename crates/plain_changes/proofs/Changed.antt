-- A cluster that holds a map holds it after a change.
use Rattle.std.specs.Prelude.{◌≡◌, ◌<◌, ℕ, true, false, cond, IsTrue, Option, Some, None, List, [], ◌∷◌, ◌++◌, length, refl}
use Rattle.std.specs.Option.{unwrap_or}
use Rattle.std.specs.List.{AllByRecursion}
use Rattle.std.proofs.Common.{ap, sym, subst, ◌∙◌, inl, inr}
use Rattle.std.proofs.lemmas.List.Elements.{recursion_from_All}
use Rattle.blake2_hash.specs.Blake2b.{blake2b}
use Rattle.blake2_hash.specs.Hash.{digest_of}
use Rattle.crdt_core.specs.Members.{OneOf}
use Rattle.crdt_rows.specs.AnyRow.{any_join}
use Rattle.crdt_rows.specs.RowLaws.{any_laws}
use Rattle.crdt_rows.specs.declared.any_row.AnyRow.{AnyRow}
use Rattle.crdt_rows.specs.declared.version.Version.{Version}
use Rattle.layout_roles.specs.declared.role.Role.{Role}
use Rattle.layout_roles.specs.declared.redundancy.Redundancy.{Redundancy}
use Rattle.layout_roles.specs.declared.layout.Layout.{Layout}
use Rattle.layout_roles.specs.declared.cut.Cut.{Cut}
use Rattle.row_codec.specs.Spelling.{eight}
use Rattle.object_schema.specs.Schema.{words}
use Rattle.object_schema.specs.Laws.{schema_laws}
use Rattle.table_schema.specs.Words.{partition_at, partition_of}
use Rattle.table_model.specs.Rows.{row_at}
use Rattle.quorum_model.specs.Quorum.{is_among}
use Rattle.cluster_machine.specs.declared.applied.Applied.{Applied}
use Rattle.cluster_machine.specs.Blocks.{IsBeside, AllStocked}
use Rattle.cluster_machine.specs.declared.step.Step.TheVariants.{Sync as Syncs}
use Rattle.cluster_machine.specs.Layouts.{layouts, set_of}
use Rattle.cluster_machine.specs.Node.{Block}
use Rattle.cluster_machine.specs.Rows.{same_bytes, block_at}
use Rattle.cluster_machine.specs.Run.{run}
use Rattle.cluster_machine.specs.Step.{Choice}
use Rattle.cluster_machine.specs.Trio.{trio, stage_trio}
use Rattle.cluster_machine.specs.World.{forget_delivered}
use Rattle.flow_model.specs.declared.flow.Content.{Content}
use Rattle.flow_model.specs.Blocks.{piece, piece_hash, has_piece}
use Rattle.flow_model.specs.Rows.{row_key, reference_row}
use Rattle.flow_model.specs.Says.{named_by}
use Rattle.store_model.specs.Run.{World}
use Rattle.store_laws.proofs.Placing.{asks_is_step, opens_is_step, fetch_is_step, piece_has_hash}
use Rattle.serve_model.specs.Clusters.{Cluster}
use Rattle.serve_model.specs.Plain.{Has, never, deleted, object, Plain, has_at, AreApart}
use Rattle.drained_laws.specs.Waiting.{SomeOf}
use Rattle.drained_laws.specs.Drained.{AreEqual}
use Rattle.drained_laws.proofs.Posts.{three_at}
use Rattle.drained_laws.proofs.ReadBegins.{one_row}
use Rattle.drained_laws.proofs.Views.{among_here}
use Rattle.change_laws.specs.Resting.{IsResting}
use Rattle.change_laws.specs.Whole.{MayChange}
use Rattle.change_model.specs.Steps.{each}
use Rattle.change_laws.specs.Script.{AreSpelled, moves_of}
use Rattle.change_laws.specs.Handing.{IsKeptIn, AllKept}
use Rattle.change_laws.proofs.Equal.{row_there}
use Rattle.change_laws.proofs.Rows.{equal_so, handed_so, items_so, nothing_new, blocks_so, each_kept}
use Rattle.change_laws.proofs.Running.{SameTime, same_time, stocked_run, run_so, all_of_change, rounds_spelled}
use Rattle.change_laws.proofs.Whole.{rests_so}
use Rattle.plain_laws.specs.Blocks.{IsKept}
use Rattle.plain_laws.specs.Holds.{nodes_at, HasBlocks, HasItsBlocks, Holds}
use Rattle.plain_changes.specs.Changed.{staged, Changed, IsSpelled, IsClear, moved_to}
use Rattle.plain_changes.proofs.Quiet.{quiet_rows}

-- ---- blocks

found_kept : (bs : List Block) (hash bytes : List ℕ) → block_at bs hash ≡ Some bytes → OneOf (λ (b : Block). b.bytes ≡ bytes) bs
found_kept [] hash bytes e = absurd (cc)
found_kept (b ∷ bs) hash bytes e =
    elim (same_bytes b.hash hash) as (λ t. cond t (Some b.bytes) (block_at bs hash) ≡ Some bytes → OneOf (λ (b : Block). b.bytes ≡ bytes) (b ∷ bs)) [
      | true ↦ (λ f. inl (ap (λ o. unwrap_or o b.bytes) f))
      | false ↦ (λ f. inr (found_kept bs hash bytes f))
    ] e

one_of_some : (bytes : List ℕ) (bs : List Block) → SomeOf (λ (b : Block). b.bytes ≡ bytes) bs → OneOf (λ (b : Block). b.bytes ≡ bytes) bs
one_of_some bytes [] h = elim h [ ]
one_of_some bytes (b ∷ bs) (inl e) = inl e
one_of_some bytes (b ∷ bs) (inr h) = inr (one_of_some bytes bs h)

kept_found : (P : List ℕ → Type 0) (bs : List Block) (hash bytes : List ℕ) → AllKept P bs → block_at bs hash ≡ Some bytes → P bytes
kept_found P [] hash bytes all e = absurd (cc)
kept_found P (b ∷ bs) hash bytes all e =
    elim (same_bytes b.hash hash) as (λ t. cond t (Some b.bytes) (block_at bs hash) ≡ Some bytes → P bytes) [
      | true ↦ (λ f. subst P (ap (λ o. unwrap_or o b.bytes) f) all.0)
      | false ↦ (λ f. kept_found P bs hash bytes all.1 f)
    ] e

kept_one : (P : List ℕ → Type 0) (bs : List Block) (bytes : List ℕ) → AllKept P bs → OneOf (λ (b : Block). b.bytes ≡ bytes) bs → P bytes
kept_one P [] bytes all h = elim h [ ]
kept_one P (b ∷ bs) bytes all (inl e) = subst P e all.0
kept_one P (b ∷ bs) bytes all (inr h) = kept_one P bs bytes all.1 h

module _ (c : Cluster) (P : Plain) (h : Holds c P) (new : Layout) (part : List ℕ) (m : ℕ) (roles : List Role) (wanted : Redundancy) (choice : Choice Layout Applied Cut) (shown : Applied) (after : World)
    (rest : IsResting layouts h.layout c.run.world) (may : MayChange layouts h.layout new part m) (apart : AreApart (IsKept c.run.world)) (is : Changed choice new shown m part (staged c.run.world roles wanted) after)
    (spelled : IsSpelled choice new shown m part (staged c.run.world roles wanted) after is) where
  abbrev w : World
  w = staged c.run.world roles wanted

  abbrev l : Layout
  l = h.layout

  resting : IsResting layouts l w
  resting = record { members = rest.members; nodes = rest.nodes; marked = rest.marked; delivered = rest.delivered; applied = rest.applied }

  rounds : AreSpelled Applied Cut any_join words layouts trio stage_trio is.acked (each choice Syncs part)
  rounds = rounds_spelled Applied Cut any_join words layouts trio stage_trio choice m part new shown w after is spelled

  proper_at : (n : ℕ) → IsTrue (is_among n part) → AllByRecursion (λ r. IsTrue (words.is_proper r)) (w.nodes n).accepted
  proper_at n e = recursion_from_All (λ r. IsTrue (words.is_proper r)) (w.nodes n).accepted (h.equal.proper n)

  pub rests_on : IsResting layouts new after
  rests_on = rests_so schema_laws layouts l new may.later may.layout may.layout_new part may.apart may.members may.members_new Applied Cut trio stage_trio m may.first may.few choice shown w after resting proper_at is

  nothing : (n table : ℕ) (key : List ℕ) → ((o : ℕ) → row_at any_join words (c.run.world.nodes o).accepted table key ≡ None) → row_at any_join words (after.nodes n).accepted table key ≡ None
  nothing n table key none = by_row (row_at any_join words (after.nodes n).accepted table key) refl
    where
      by_row : (o : Option AnyRow) → row_at any_join words (after.nodes n).accepted table key ≡ o → row_at any_join words (after.nodes n).accepted table key ≡ None
      by_row None e = e
      by_row (Some r) e =
          let old = nothing_new any_laws schema_laws quiet_rows layouts l new may.later may.layout may.layout_new part may.apart may.members may.members_new Applied Cut trio stage_trio m may.first may.few choice shown w after resting is h.equal rounds (IsKeptIn w) (each_kept w) n table key r e in
          let no : None ≡ Some r = sym (none old.0) ∙ old.1 in
          absurd (cc)

  -- ---- what the steps leave

  abbrev end_of_run : World
  end_of_run = run {A = Applied} {C = Cut} any_join words layouts trio stage_trio w (moves_of Applied Cut any_join words layouts trio stage_trio choice new shown m part w after is)

  time : SameTime Applied Cut any_join words layouts trio stage_trio w end_of_run
  time = same_time Applied Cut any_join words layouts trio stage_trio (moves_of Applied Cut any_join words layouts trio stage_trio choice new shown m part w after is) w (all_of_change Applied Cut any_join words layouts trio stage_trio choice m part new shown w after is)

  at_end : (Q : World → Type 0) → Q (forget_delivered end_of_run) → Q after
  at_end Q q = subst Q (sym is.leads) (subst (λ u. Q (forget_delivered u)) (run_so Applied Cut any_join words layouts trio stage_trio choice m part new shown w after is) q)

  stocked : AllStocked (blake2b 32) words any_join after
  stocked =
      let s = stocked_run Applied Cut any_join words layouts trio stage_trio (blake2b 32) schema_laws (moves_of Applied Cut any_join words layouts trio stage_trio choice new shown m part w after is) w (all_of_change Applied Cut any_join words layouts trio stage_trio choice m part new shown w after is) spelled
      (record { nodes = h.stocked.nodes; messages = h.stocked.messages }) in
      at_end (λ u. AllStocked (blake2b 32) words any_join u) (record { nodes = s.nodes; messages = s.messages })

  -- no node keeps a block that none kept before
  pub kept_back : (bytes : List ℕ) → IsKept after bytes → IsKept c.run.world bytes
  kept_back bytes k =
      let all = blocks_so any_laws schema_laws quiet_rows layouts l new may.later may.layout may.layout_new part may.apart may.members may.members_new Applied Cut trio stage_trio m may.first may.few choice shown w after resting is h.equal rounds (IsKeptIn w) (each_kept w) k.0 in
      let was = kept_one (IsKeptIn w) (after.nodes k.0).blocks bytes all k.1 in
      (was.0, one_of_some bytes (c.run.world.nodes was.0).blocks was.1)

  pub apart_on : AreApart (IsKept after)
  apart_on a b here there same = apart a b (kept_back a here) (kept_back b there) same

  -- where no digests of the rounds' walks clash the rows are handed on
  module _ (clear : IsClear choice new shown m part (staged c.run.world roles wanted) after is) where
    equal : AreEqual any_join words layouts new (λ n. (after.nodes n).accepted)
    equal = equal_so any_laws schema_laws quiet_rows layouts l new may.later may.layout may.layout_new part may.apart may.members may.members_new Applied Cut trio stage_trio m may.first may.few choice shown w after resting is h.equal rounds (IsKeptIn w) (each_kept w) clear

    -- ---- rows

    module _ (table p : ℕ) (key : List ℕ) (low : p < 256) (position : (r : AnyRow) → IsTrue (words.is_proper r) → words.table r ≡ table → words.key r ≡ key → partition_of words r ≡ p) where
      same_row : (n b : ℕ) → IsTrue (is_among n (set_of layouts new p)) → IsTrue (is_among b (set_of layouts l p)) → row_at any_join words (after.nodes n).accepted table key ≡ row_at any_join words (c.run.world.nodes b).accepted table key
      same_row n b here there =
          one_row schema_laws table p key position (after.nodes n).accepted (c.run.world.nodes b).accepted (equal.proper n) (h.equal.proper b)
          (handed_so any_laws schema_laws quiet_rows layouts l new may.later may.layout may.layout_new part may.apart may.members may.members_new Applied Cut trio stage_trio m may.first may.few choice shown w after resting is h.equal rounds (IsKeptIn w) (each_kept w) clear p n b low here there)

      -- some node of the older set
      pub some_old : (b : ℕ) × IsTrue (is_among b (set_of layouts l p))
      some_old = let three = three_at layouts l may.layout p low in (three.one, subst (λ set. IsTrue (is_among three.one set)) (sym three.are) (among_here three.one (three.two ∷ three.three ∷ [])))

    -- ---- blocks

    module _ (version : Version) (block : ℕ) (content : Content) (b : HasBlocks l c.run.world version block content) where
      abbrev hash : ℕ → List ℕ
      hash i = (piece_hash block content.body i).0

      hash_low : (i : ℕ) → partition_at (hash i) < 256
      hash_low i = fetch_is_step 0 (piece_hash block content.body i) (piece_has_hash block content.body i)

      old_reference : (i o : ℕ) → IsTrue (has_piece block content.body i) → IsTrue (is_among o (nodes_at l (hash i))) → IsTrue (words.is_proper (reference_row version.id block content.body i))
      old_reference i o has there =
          (row_there schema_laws (c.run.world.nodes o).accepted (recursion_from_All (λ r. IsTrue (words.is_proper r)) (c.run.world.nodes o).accepted (h.equal.proper o)) 3 (hash i ++ eight version.id) (reference_row version.id block content.body i) (b.referenced i o has there)).1

      reference_position : (i o : ℕ) → IsTrue (has_piece block content.body i) → IsTrue (is_among o (nodes_at l (hash i))) → (r : AnyRow) → IsTrue (words.is_proper r) → words.table r ≡ 3 → words.key r ≡ hash i ++ eight version.id → partition_of words r ≡ partition_at (hash i)
      reference_position i o has there r proper e f = ap partition_at (schema_laws.one_position r (reference_row version.id block content.body i) (record { first_proper = proper; second_proper = old_reference i o has there; table = e; key = f }))

      some_holder : (i : ℕ) → (o : ℕ) × IsTrue (is_among o (nodes_at l (hash i)))
      some_holder i = let three = three_at layouts l may.layout (partition_at (hash i)) (hash_low i) in (three.one, subst (λ set. IsTrue (is_among three.one set)) (sym three.are) (among_here three.one (three.two ∷ three.three ∷ [])))

      referenced_now : (i n : ℕ) → IsTrue (has_piece block content.body i) → IsTrue (is_among n (nodes_at new (hash i))) → row_at any_join words (after.nodes n).accepted 3 (hash i ++ eight version.id) ≡ Some (reference_row version.id block content.body i)
      referenced_now i n has here =
          let o = some_holder i in
          same_row 3 (partition_at (hash i)) (hash i ++ eight version.id) (hash_low i) (reference_position i o.0 has o.1) n o.0 here o.1 ∙ b.referenced i o.0 has o.1

      kept_now : (i n : ℕ) → IsTrue (has_piece block content.body i) → IsTrue (is_among n (nodes_at new (hash i))) → block_at (after.nodes n).blocks (hash i) ≡ Some (piece block content.body i)
      kept_now i n has here = by_block (block_at (after.nodes n).blocks (hash i)) refl ((stocked.nodes n).has 3 (hash i ++ eight version.id) (reference_row version.id block content.body i) (hash i) (referenced_now i n has here) refl)
        where
          by_block : (o : Option (List ℕ)) → block_at (after.nodes n).blocks (hash i) ≡ o → IsBeside (blake2b 32) (Some (hash i)) o → block_at (after.nodes n).blocks (hash i) ≡ Some (piece block content.body i)
          by_block None e bad = absurd bad
          by_block (Some bytes) e digest =
              let old = some_holder i in
              let there : IsKept c.run.world (piece block content.body i) = (old.0, found_kept (c.run.world.nodes old.0).blocks (hash i) (piece block content.body i) (b.kept i old.0 has old.1)) in
              let all = blocks_so any_laws schema_laws quiet_rows layouts l new may.later may.layout may.layout_new part may.apart may.members may.members_new Applied Cut trio stage_trio m may.first may.few choice shown w after resting is h.equal rounds (IsKeptIn w) (each_kept w) n in
              let was = kept_found (IsKeptIn w) (after.nodes n).blocks (hash i) bytes all e in
              let here_too : IsKept c.run.world bytes = (was.0, one_of_some bytes (c.run.world.nodes was.0).blocks was.1) in
              e ∙ ap Some (apart bytes (piece block content.body i) here_too there digest)

      pub blocks_now : HasBlocks new after version block content
      blocks_now = record {
        count = b.count;
        pieces_there = b.pieces_there;
        no_more = b.no_more;
        named = λ n here.
            (let step = opens_is_step 0 version in
            let p = partition_at (digest_of (eight version.id)).0 in
            let position : (r : AnyRow) → IsTrue (words.is_proper r) → words.table r ≡ 2 → words.key r ≡ eight version.id → partition_of words r ≡ p = λ r proper e f. ap partition_at (step.1 r proper e f) in
            let o = some_old 2 p (eight version.id) step.0 position in
            ap (λ row. named_by row (length content.body)) (same_row 2 p (eight version.id) step.0 position n o.0 here o.1) ∙ b.named o.0 o.1);
        referenced = referenced_now;
        kept = kept_now;
      }

    blocks_for : (has : Has) → HasItsBlocks l c.run.world has → HasItsBlocks new after has
    blocks_for never b = tt
    blocks_for (deleted version) b = tt
    blocks_for (object version block content) b = λ long. blocks_now version block content (b long)

    -- ---- the map

    pub holds_on : Holds (moved_to c after new) P
    holds_on = record {
      layout = new;
      is_layout = may.layout_new;
      members_are = refl;
      rest = record {
        views = λ n member. (rests_on.members n member).layouts;
        marked = rests_on.marked;
        delivered = rests_on.delivered;
        calls = λ n. (rests_on.nodes n).calls;
        items = λ n. items_so any_laws schema_laws quiet_rows layouts l new may.later may.layout may.layout_new part may.apart may.members may.members_new Applied Cut trio stage_trio m may.first may.few choice shown w after resting is h.equal rounds (IsKeptIn w) (each_kept w) n ∙ h.rest.items n;
      };
      skews = λ n. at_end (λ u. u.skew_of n ≡ 0) (time.skews n ∙ h.skews n);
      equal = equal;
      stocked = stocked;
      given_up = h.given_up;
      are_given_up = h.are_given_up;
      rows = λ name n known here.
          (let step = asks_is_step 0 name in
          let p = partition_at (digest_of name.bucket).0 in
          let position : (r : AnyRow) → IsTrue (words.is_proper r) → words.table r ≡ 1 → words.key r ≡ row_key name → partition_of words r ≡ p = λ r proper e f. ap partition_at (step.1 r proper e f) in
          let o = some_old 1 p (row_key name) step.0 position in
          same_row 1 p (row_key name) step.0 position n o.0 here o.1 ∙ h.rows name o.0 known o.1);
      blocks = λ name known. blocks_for (has_at P name) (h.blocks name known);
      buckets = h.buckets;
      block = h.block;
      clock = at_end (λ u. u.time ≡ P.clock) (time.time ∙ h.clock);
      ticked = h.ticked;
      requests = at_end (λ u. length u.requests ≡ P.asked) (ap length time.requests ∙ h.requests);
      asked = h.asked;
      map = h.map;
      fresh = record {
        versions = λ n id later low. nothing n 2 (eight id) (λ o. h.fresh.versions o id later low);
        references = λ n id bytes later low size. nothing n 3 (bytes ++ eight id) (λ o. h.fresh.references o id bytes later low size);
      };
      knows = record { lengths = h.asked ∙ sym (at_end (λ u. length u.requests ≡ P.asked) (ap length time.requests ∙ h.requests)); saw = h.knows.saw; ends = h.knows.ends };
    }

    pub holds_at : holds_on.layout ≡ new
    unfolding holds_on
    holds_at = refl
