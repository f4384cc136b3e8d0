-- Acknowledged blocks are anchored.
use Rattle.std.specs.Prelude.{◌≡◌, ◌≤◌, ℕ, true, false, cond, Option, Some, List, [], ◌∷◌, refl}
use Rattle.std.proofs.Common.{ap, sym, subst, lit≤, arith}
use Rattle.std.specs.List.{All, Contains}
use Rattle.std.proofs.lemmas.List.Elements.{All-weaker, All-contains}
use Rattle.blake2_hash.specs.Hash.{digest_of}
use Rattle.blake2_hash.specs.declared.digest.Hash32.{Hash32}
use Rattle.crdt_rows.specs.declared.version.Version.{Version}
use Rattle.crdt_rows.specs.declared.state.State.TheVariants.{Aborted}
use Rattle.crdt_rows.specs.declared.ref_row.RefRow.{RefRow}
use Rattle.crdt_rows.specs.declared.any_row.AnyRow.{AnyRow}
use Rattle.crdt_rows.specs.declared.any_row.AnyRow.TheVariants as rows
use Rattle.crdt_rows.specs.AnyRow.{any_join}
use Rattle.layout_roles.specs.declared.cut.Cut.{Cut}
use Rattle.layout_roles.specs.declared.layout.Layout.{Layout}
use Rattle.layout_roles.specs.declared.role.Role.{Role}
use Rattle.object_schema.specs.Schema.{words}
use Rattle.cluster_machine.specs.declared.applied.Applied.{Applied}
use Rattle.cluster_machine.specs.Blocks.{IsBeside, HasBlock, StepBringsBlocks}
use Rattle.cluster_machine.specs.Layouts.{Layouts, layouts}
use Rattle.cluster_machine.specs.Node.{Block}
use Rattle.cluster_machine.specs.Rows.{same_bytes as alike, block_at}
use Rattle.cluster_machine.specs.Run.{Move, IsLayout, IsRun, run as machine_run}
use Rattle.cluster_machine.specs.Worlds.{run}
use Rattle.cluster_machine.specs.declared.step.Step.TheVariants as step
use Rattle.cluster_machine.specs.World.{empty}
use Rattle.machine_origins.specs.Origins.{stored_by, stored_in}
use Rattle.machine_origins.proofs.ByOrigin.{stored_have}
use Rattle.machine_reads.specs.Holders.{AreTwo}
use Rattle.anchor_laws.specs.Anchored.{Anchors}
use Rattle.object_origins.specs.Gone.{WasStored, IsOverwritten as Newer, AreDrawn, deletes_nothing}
use Rattle.flow_model.specs.declared.flow.Content.{Content}
use Rattle.flow_model.specs.Blocks.{piece, piece_hash}
use Rattle.flow_model.specs.Rows.{aborted, complete}
use Rattle.store_model.specs.Run.{World, Moving, State, start, Draw}
use Rattle.store_model.specs.Acts.{Act, after_acts, AreLawfulActs}
use Rattle.store_laws.specs.Promised.{moves_in, IsOverwritten, IsUndeleted, WasKept, IsAnchoredAt, IsAnchored}
use Rattle.store_laws.proofs.Elements.{same_bytes, there}
use Rattle.store_laws.proofs.Enders.{source_writes}
use Rattle.store_laws.proofs.Sound.{IsReachedBy}
use Rattle.store_anchors.specs.Stored.{blocks_of, BlocksDiffer}
use Rattle.store_anchors.proofs.Kept.{Past, HasPiece, HasAll, IsLong, IsRowOf, row_deletes_nothing}
use Rattle.store_anchors.proofs.Laid.{past, IsStepOf, still_of}
use Rattle.store_anchors.proofs.Machine.{IsEndOf, reached_end}
use Rattle.store_laws.proofs.Rows.{IsKnown}
use Rattle.store_anchors.proofs.Acts.{IsHeld, draws_apart, held}
use Rattle.store_anchors.proofs.Among.{digest_among, digest_there, steps_among}
use Rattle.store_anchors.proofs.Cited.{Cited}
use Rattle.store_anchors.proofs.Reading.{each_stored}
use Rattle.store_anchors.proofs.Told.{above_of, complete_drawn, drawn_as, AreApart, one_known, drawn_there, are_drawn, none_aborted}
use Rattle.store_laws.proofs.Hashing.{ActsIn}
use Rattle.cluster_machine.specs.Hashes.{NoClash, RunHashes}
use Rattle.store_laws.proofs.Deeds.{Deed}

-- a block of this hash is there, with bytes of this digest
block_there : (g : List ℕ → List ℕ) (blocks : List Block) (hash : List ℕ) → HasBlock g blocks hash → (bytes : List ℕ) × Contains blocks (record { hash = hash; bytes = bytes }) × (g bytes ≡ hash)
block_there g [] hash h = absurd h
block_there g (b ∷ bs) hash h =
    elim (alike b.hash hash) as (λ t. alike b.hash hash ≡ t → IsBeside g (Some hash) (cond t (Some b.bytes) (block_at bs hash)) → (bytes : List ℕ) × Contains (b ∷ bs) (record { hash = hash; bytes = bytes }) × (g bytes ≡ hash)) [
      | true ↦ λ t h. (b.bytes, (0, omega arith, (let same = same_bytes b.hash hash t in λ i. record { hash = same i; bytes = b.bytes })), h)
      | false ↦ λ f h. (let rest = block_there g bs hash h in (rest.0, there b bs (record { hash = hash; bytes = rest.0 }) rest.1, rest.2))
    ] refl h

-- ---- the law

-- what is said of references that were kept
abbrev pub References : Type 0
References = (digest : List ℕ → List ℕ) (k : Layouts Layout) (trio : Layout) (trio_roles : List Role → List Role) (partitions : ℕ) (moves : List (Move AnyRow Layout Applied Cut)) (draw : ℕ → Option ((Hash32 × List ℕ) × Version)) →
    1 ≤ partitions → IsLayout k partitions trio → k.reading.version trio ≡ 1 →
    IsRun any_join words k trio trio_roles partitions empty moves → NoClash (RunHashes words any_join k trio trio_roles empty moves) → All (λ m. StepBringsBlocks digest words m.step) moves →
    All (λ m. All (λ r. deletes_nothing r ≡ true) (stored_by m.step)) moves → AreDrawn (stored_in moves) draw →
    (r : RefRow) → r.deleted.0 ≡ false → Contains (machine_run any_join words k trio trio_roles empty moves).kept (rows.Ref r) →
    (key : Hash32 × List ℕ) (v : Version) → draw r.id ≡ Some (key, v) →
    ¬ (Newer (stored_in moves) key v) → ¬ (WasStored (stored_in moves) key v Aborted) →
    AreTwo (Anchors digest (machine_run any_join words k trio trio_roles empty moves) r)

module _ {H : Deed → Type 0} where
  module _ (cited : Cited H) (references : References) (acts : List Act) (lawful : AreLawfulActs start acts) (fit : ActsIn H start acts) where
    abbrev s : State
    s = after_acts start acts

    abbrev ms : List Moving
    ms = moves_in start acts

    abbrev p : Past
    p = past ms s.world s.draws

    now : IsHeld H ms s
    now = held cited acts lawful fit

    apart : AreApart s.draws
    apart = draws_apart s now.sound now.once

    -- ---- acknowledged means that all is kept
    acknowledged_has : (d : Draw) → Contains s.draws d → WasKept s d → (c : Content) → IsLong s.draws d c → HasAll p d.version.id d.block c.body
    acknowledged_has d c kept content long =
        let k = now.sound.acknowledged d.name d.version (record { request = d.request; node = kept.node; kind = kept.kind; writes = source_writes kept.kind kept.is_source; has_begun = kept.has_begun; has_finished = kept.has_finished }) in
        let one = complete_drawn p d.name d.version k.block k.wish (now.laid.kept (complete d.name d.version k.block k.wish) k.is_there) in
        let same : one.0.draw ≡ d = one_known one.0.draw d (apart one.0.draw d one.0.drawn c (ap (λ (v : Version). v.id) one.1)) one.0.known (subst IsKnown (sym long.wish_is) tt) in
        subst (λ (x : Draw). (y : Content) → IsLong s.draws x y → HasAll p x.version.id x.block y.body) same one.0.all content long

    -- what was stored
    every_stored : (r : AnyRow) → Contains (stored_in ms) r → IsRowOf p r
    every_stored = each_stored cited ms s now.sound now.laid

    reached : IsReachedBy H (IsStepOf ms) s.world
    reached = now.laid.reached

    -- the rows of the run of the machine are among them
    come_from : {v : World} (ends : IsEndOf (IsStepOf ms) v) (r : AnyRow) → Contains (stored_in ends.moves) r → Contains (stored_in ms) r
    come_from ends r c =
        All-contains (Contains (stored_in ms)) (stored_in ends.moves) r (stored_have (Contains (stored_in ms)) ends.moves
        (All-weaker (λ (m : Moving). IsStepOf ms m.step) (λ (m : Moving). All (Contains (stored_in ms)) (stored_by m.step)) (λ m is. is.stores) ends.moves ends.are)) c

    overwritten : {v : World} (ends : IsEndOf (IsStepOf ms) v) (d : Draw) → Newer (stored_in ends.moves) (digest_of d.name.bucket, d.name.key) d.version → IsOverwritten acts d.name d.version
    overwritten ends d newer =
        let a = above_of p (stored_in ends.moves) (λ r c. every_stored r (come_from ends r c)) d newer in
        record { newer = a.0; block = a.1; wished = a.2; above = a.3; was_stored = come_from ends _ a.4 }

    module _ (differ : BlocksDiffer acts) where
      abbrev named : List ℕ → List ℕ
      named = digest_among (blocks_of ms)

      anchored_at : (d : Draw) (c : Content) (i : ℕ) → Contains s.draws d → IsKnown d.wish → HasPiece p d.version.id d.block c.body i → IsUndeleted acts d.name d.version → IsAnchoredAt s.world d.version.id d.block c.body i
      anchored_at d c i drawn known has fresh =
          let r : RefRow = record { hash = piece_hash d.block c.body i; id = d.version.id; deleted = record { 0 = false } } in
          let v : World = run any_join words reached.begin reached.moves in
          let ends : IsEndOf (IsStepOf ms) v = reached_end cited.every cited.clear s.world reached (still_of ms step.Trio tt refl refl) in
          let stored : List AnyRow = stored_in ends.moves in
          let each : (r : AnyRow) → Contains stored r → IsRowOf p r = λ r c. every_stored r (come_from ends r c) in
          let two : AreTwo (Anchors named v r) =
          subst (λ (w : World). AreTwo (Anchors named w r)) ends.leads
          (references named layouts ends.first ends.roles 256 ends.moves (drawn_as s.draws) (lit≤ tt) ends.is_layout ends.version ends.is_run ends.clear (steps_among ms ends.moves ends.are)
          (All-weaker (λ (m : Moving). IsStepOf ms m.step) (λ (m : Moving). All (λ r. deletes_nothing r ≡ true) (stored_by m.step))
          (λ m is. All-weaker (Contains (stored_in ms)) (λ r. deletes_nothing r ≡ true) (λ r c. row_deletes_nothing p r (every_stored r c)) (stored_by m.step) is.stores) ends.moves ends.are)
          (are_drawn p stored each apart) r refl (subst (λ (w : World). Contains w.kept (rows.Ref r)) (sym ends.leads) (subst (λ (w : World). Contains w.kept (rows.Ref r)) reached.alike.is has.refers))
          (digest_of d.name.bucket, d.name.key) d.version (drawn_there s.draws apart d drawn) (λ newer. fresh (overwritten ends d newer)) (λ gone. none_aborted p stored each (λ x y k there. now.fated.never_both x y k (come_from ends (aborted x.name x.version) there)) d drawn known gone)) in
          let at_v : Anchors named v r two.one = two.one_is in
          let one : Anchors named s.world r two.one = subst (λ (w : World). Anchors named w r two.one) (sym reached.alike.is) (record { reference = at_v.reference; block = at_v.block }) in
          let block = block_there named (s.world.nodes two.one).blocks (piece_hash d.block c.body i).0 one.block in
          let told = digest_there (blocks_of ms) block.0 (piece d.block c.body i) block.2 in
          let bytes_are : block.0 ≡ piece d.block c.body i = differ block.0 (piece d.block c.body i) told.0 has.bytes told.1 in
          record { node = two.one; has_block = subst (λ (b : List ℕ). Contains (s.world.nodes two.one).blocks (record { hash = (piece_hash d.block c.body i).0; bytes = b })) bytes_are block.1; is_live = one.reference }

      pub anchored : IsAnchored acts
      anchored d c i drawn wish_is long has kept fresh = anchored_at d c i drawn (subst IsKnown (sym wish_is) tt) ((acknowledged_has d drawn kept c (record { drawn = drawn; wish_is = wish_is; long = long })).each i has) fresh
