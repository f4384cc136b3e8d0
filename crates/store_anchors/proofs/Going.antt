-- What a request does that goes on: each of its phases, and what it stores.
use Rattle.std.specs.Prelude.{◌≡◌, ◌<◌, ◌≤◌, ◌^◌, ◌*◌, ◌+◌, ◌-◌, min, ℕ, suc, true, false, Option, Some, None, List, [], ◌∷◌, ◌++◌, length, map, refl}
use Rattle.std.proofs.Common.{ap, sym, subst, ◌∙◌, inl, inr, arith}
use Rattle.std.specs.List.{All, Contains}
use Rattle.std.proofs.lemmas.List.{append-nil}
use Rattle.std.proofs.lemmas.List.Elements.{All-nil, All-cons}
use Rattle.blake2_hash.specs.declared.digest.Hash32.{Hash32}
use Rattle.crdt_rows.specs.declared.version.Version.{Version}
use Rattle.crdt_rows.specs.declared.body.Meta.{Meta}
use Rattle.crdt_rows.specs.declared.version_row.BlockRef.{BlockRef}
use Rattle.crdt_rows.specs.declared.any_row.AnyRow.{AnyRow}
use Rattle.object_schema.specs.Schema.{words}
use Rattle.wire_messages.specs.declared.phase.Phase.{Phase}
use Rattle.wire_messages.specs.declared.phase.Phase.TheVariants.{Read, Range, Store, Block as Fetch}
use Rattle.cluster_machine.specs.Blocks.{IsBeside, StepBringsBlocks}
use Rattle.cluster_machine.specs.Node.{Present, asking, scanning, storing, fetching}
use Rattle.cluster_machine.specs.Run.{IsStep}
use Rattle.cluster_machine.specs.World.{numbered}
use Rattle.cluster_machine.specs.Worlds.{IsMeant}
use Rattle.cluster_machine.specs.declared.step.Step.TheVariants as step
use Rattle.machine_origins.specs.Following.{Began}
use Rattle.machine_origins.specs.Origins.{stored_by}
use Rattle.flow_model.specs.declared.flow.Name.{Name}
use Rattle.flow_model.specs.declared.flow.Coming.{Coming}
use Rattle.flow_model.specs.declared.flow.Content.{Content}
use Rattle.flow_model.specs.declared.flow.Wish.{Wish}
use Rattle.flow_model.specs.declared.flow.Wish.TheVariants as wish
use Rattle.flow_model.specs.declared.flow.Stage.{Stage}
use Rattle.flow_model.specs.declared.flow.Stage.TheVariants.{Uploading, Receiving, Aborting, Completing, Opening, Gathering}
use Rattle.flow_model.specs.declared.flow.Flow.{Flow}
use Rattle.flow_model.specs.declared.flow.FlowEnd.{FlowEnd}
use Rattle.flow_model.specs.Blocks.{piece, has_piece, is_long}
use Rattle.flow_model.specs.Flow.{asks_for, asks_past}
use Rattle.flow_model.specs.Next.{stores, opens}
use Rattle.flow_model.specs.Rows.{uploading, aborted, complete, version_row, reference_row, version_row_at, reference_to, rows_at, block_rows}
use Rattle.store_model.specs.Run.{doing, Moving, State, Asked, Draw, phases, plainly, goes, finishes, set_flow}
use Rattle.store_laws.proofs.Elements.{only, cons_cases}
use Rattle.store_laws.proofs.Flows.{waiting}
use Rattle.store_laws.proofs.Going.{flow_of}
use Rattle.store_laws.proofs.Grown.{Rests, asked_set}
use Rattle.store_laws.proofs.Hashes.{HasHash}
use Rattle.machine_origins.proofs.Places.{numbered_set_here}
use Rattle.store_laws.proofs.Placing.{asks_is_step, asks_is_meant, opens_is_step, opens_is_meant, scan_is_step, scan_is_meant, fetch_is_step, fetch_is_meant, stores_is_step, stores_is_meant, one_is_step, uploading_is_placed, aborted_is_placed, block_is_step, block_is_meant, rows_at_is_step, rows_at_is_meant}
use Rattle.store_laws.proofs.Rows.{IsKnown, complete_row}
use Rattle.history_model.specs.declared.record.Cause.TheVariants.{Superseded}
use Rattle.history_model.specs.declared.record.Record.TheVariants.{Ended}
use Rattle.store_model.specs.Answers.{record_of}
use Rattle.cluster_machine.specs.Node.{Question}
use Rattle.row_codec.specs.Spelling.{eight}
use Rattle.blake2_hash.specs.Hash.{digest_of}
use Rattle.flow_model.specs.declared.flow.Aim.{Aim}
use Rattle.store_anchors.proofs.Cited.{Cited}
use Rattle.store_anchors.proofs.Coming.{many, each_came, before_last, last_new, piece_old, piece_new, ends as end_of_pieces, none_there}
use Rattle.store_anchors.proofs.Kept.{IsFound, Fetches, IsReplaced, replaced_later, replaced_asked, all_of_later, found_later, fetches_later, Past, Grows, HasPiece, HasAll, IsLong, IsRowOf, row_later}
use Rattle.store_anchors.proofs.Laid.{Asks, Gets, laid_told, digest, HasUploaded, HasReceived, AreStored, Holds, Stores, Awaits, AreRows, past, past_after, after_grows, drawn_grows, blocks_new, IsLaid, IsLaidIn, laid_waiting, Scans}
use Rattle.store_anchors.proofs.Steps.{begin_laid, calm_laid}
use Rattle.store_laws.proofs.Hashing.{FitIn}
use Rattle.store_laws.proofs.Deeds.{Deed}

-- ---- rows come with their blocks

needs_none : (r : AnyRow) → words.live_block r ≡ None → IsBeside digest (words.live_block r) None
needs_none r e = subst (λ (o : Option (List ℕ)). IsBeside digest o None) (sym e) refl

stores_bring : (q : ℕ) (r : AnyRow) → words.live_block r ≡ None → StepBringsBlocks digest words (phases q (stores r)).step
stores_bring q r e = All-cons (λ (x : AnyRow × Option (List ℕ)). IsBeside digest (words.live_block x.0) x.1) (r, None) [] (needs_none r e) (All-nil _)

complete_needs_none : (name : Name) (v : Version) (block : ℕ) (w : Wish) → words.live_block (complete name v block w) ≡ None
complete_needs_none name v block w = let row = complete_row name v block w in subst (λ (r : AnyRow). words.live_block r ≡ None) (sym row.1) refl

rows_bring : (q id offset : ℕ) (bytes : List ℕ) → StepBringsBlocks digest words (phases q (Store (rows_at id offset bytes))).step
rows_bring q id offset bytes =
    let P : AnyRow × Option (List ℕ) → Type 0 = (λ x. IsBeside digest (words.live_block x.0) x.1) in
    let one : AnyRow × Option (List ℕ) = (version_row_at id offset bytes, None) in
    let other : AnyRow × Option (List ℕ) = (reference_to id bytes, Some bytes) in
    let other_is : P other = refl in
    All-cons P one (other ∷ []) refl (All-cons P other [] other_is (All-nil P))

-- a block that is where it was is kept as it was
piece_kept : (p : Past) (id block : ℕ) (old new : List ℕ) (i : ℕ) → piece block old i ≡ piece block new i → HasPiece p id block old i → HasPiece p id block new i
piece_kept p id block old new i same h = record {
  names = subst (Contains p.kept) (ap (version_row_at id (i * block)) same) h.names;
  refers = subst (Contains p.kept) (ap (reference_to id) same) h.refers;
  bytes = subst (Contains p.blocks) same h.bytes;
}

-- of no bytes no block is there
nothing_there : (block i : ℕ) → has_piece block [] i ≡ true → ⊥
nothing_there block i has = let no : true ≡ false = sym has ∙ none_there block i in cc

-- ---- what a phase is in that has begun

module _ (now : Past) (kept : List AnyRow) (block : ℕ) (stage : Stage) where
  abbrev pub BeginsSo : Phase AnyRow → Type 0
  BeginsSo phase = (p : Present AnyRow) → Began kept phase p → AreRows now p × Awaits now block stage p

  pub read_begins : (table : ℕ) (position : Hash32) (key : List ℕ) → ((question : Question AnyRow) → question.table ≡ table → question.key ≡ key → question.kept ≡ kept → Asks now stage question) → BeginsSo (Read table position key)
  read_begins table position key asks (asking question answers) b = (tt, asks question b.1 b.3 b.4)
  read_begins table position key asks _ b = absurd b

  pub range_begins : (position : Hash32) (prefix after : List ℕ) → Scans stage → BeginsSo (Range position prefix after)
  range_begins position prefix after scans (scanning scan answers) b = (tt, scans)
  range_begins position prefix after scans _ b = absurd b

  pub fetch_begins : (hash : Hash32) → Gets now stage hash.0 → BeginsSo (Fetch hash)
  fetch_begins hash gets (fetching asked) b = (tt, subst (Gets now stage) (sym b) gets)
  fetch_begins hash gets _ b = absurd b

  pub store_begins : (rows : List (AnyRow × Option (List ℕ))) → ((r : AnyRow) → Contains (map (λ x. x.0) rows) r → IsRowOf now r) → Stores now block stage (map (λ x. x.0) rows) → BeginsSo (Store rows)
  store_begins rows are is (storing stored slots) b = ((λ r c. are r (subst (λ (rs : List AnyRow). Contains rs r) b c)), subst (Stores now block stage) (sym b) is)
  store_begins rows are is _ b = absurd b

one_row : (p : Past) (r : AnyRow) → IsRowOf p r → (x : AnyRow) → Contains (r ∷ []) x → IsRowOf p x
one_row p r h x c = subst (IsRowOf p) (only r x c) h

two_rows : (p : Past) (r t : AnyRow) → IsRowOf p r → IsRowOf p t → (x : AnyRow) → Contains (r ∷ t ∷ []) x → IsRowOf p x
two_rows p r t h k x c = elim (cons_cases r (t ∷ []) x c) [
  | inl e ↦ subst (IsRowOf p) e h
  | inr more ↦ one_row p t k x more
]

-- ---- a request goes on

module _ {H : Deed → Type 0} where
  module _ (cited : Cited H) (moves : List Moving) (s : State) (q : ℕ) (a : Asked) (at : numbered s.asked q ≡ Some a) (rests : Rests s q) (block : ℕ) (laid : IsLaidIn H moves s) where
    -- what there is with more draws, and after the phase has begun too
    abbrev pub with_draws : List Draw → Past
    with_draws ds = past moves s.world (ds ++ s.draws)

    abbrev pub at_begin : List Draw → Stage → Phase AnyRow → Past
    at_begin ds stage phase = past_after moves (waiting s q a (Some (flow_of q block stage)) ds) (phases q phase)

    begin_grows : (ds : List Draw) (stage : Stage) (phase : Phase AnyRow) → Grows (with_draws ds) (at_begin ds stage phase)
    begin_grows ds stage phase = after_grows moves (waiting s q a (Some (flow_of q block stage)) ds) (phases q phase)

    -- a request that goes on
    abbrev pub GoesLaid : List Draw → Stage → Phase AnyRow → Type 0
    GoesLaid ds stage phase =
        FitIn H s.world (goes s q a ds (flow_of q block stage) phase).moves → IsLaidIn H (moves ++ (goes s q a ds (flow_of q block stage) phase).moves) (goes s q a ds (flow_of q block stage) phase).state

    goes_laid : (ds : List Draw) (stage : Stage) (phase : Phase AnyRow) → IsMeant (phases q phase).step → IsStep words 256 (phases q phase).step → StepBringsBlocks digest words (phases q phase).step →
        All (IsRowOf (with_draws ds)) (stored_by (phases q phase).step) → Holds (with_draws ds) q block stage → BeginsSo (at_begin ds stage phase) s.world.kept block stage phase → GoesLaid ds stage phase
    goes_laid ds stage phase meant is_step brings are holds begins fits =
        let flow : Flow = flow_of q block stage in
        let new : State = waiting s q a (Some flow) ds in
        let waits : IsLaidIn H moves new = laid_waiting moves s q a (Some flow) ds at rests (λ f e. (let same : flow ≡ f = cc in subst (λ (g : Flow). Holds (with_draws ds) q g.block g.stage) same holds)) laid in
        begin_laid cited moves new q (record a { flow = Some flow }) flow phase (numbered_set_here s.asked q (record a { flow = Some flow }) a at) refl meant is_step brings are begins fits waits

    abbrev pub here : Past
    here = past moves s.world s.draws

    -- a request asks for an object's row
    pub asks_laid : (stage : Stage) (name : Name) → Holds here q block stage → ((question : Question AnyRow) → Asks (at_begin [] stage (asks_for name)) stage question) → GoesLaid [] stage (asks_for name)
    asks_laid stage name holds asks = goes_laid [] stage (asks_for name) (asks_is_meant q name) (asks_is_step q name) tt (All-nil _) holds (read_begins (at_begin [] stage (asks_for name)) s.world.kept block stage 1 _ _ (λ question table key kept. asks question))

    -- or for the row of the version that it found
    pub opens_laid : (v : Version) (meta : Meta) (aim : Aim) → IsFound here v meta → GoesLaid [] (Opening v meta aim) (opens v)
    opens_laid v meta aim found =
        let stage : Stage = Opening v meta aim in
        let now : Past = at_begin [] stage (opens v) in
        goes_laid [] stage (opens v) (opens_is_meant q v) (opens_is_step q v) tt (All-nil _) tt (read_begins now s.world.kept block stage 2 (digest_of (eight v.id)) (eight v.id) (λ question table key kept. record {
          found = found_later here now (begin_grows [] stage (opens v)) v meta found;
          table = table;
          key = key;
          kept = λ i has. subst (λ (rs : List AnyRow). Contains rs (version_row found.draw.version.id found.draw.block found.content.body i)) (sym kept) (found.all.each i has).names;
        }))

    -- or for a window
    pub scans_laid : (stage : Stage) (bucket prefix after : List ℕ) → Holds here q block stage → Scans stage → GoesLaid [] stage (asks_past bucket prefix after)
    scans_laid stage bucket prefix after holds scans =
        goes_laid [] stage (asks_past bucket prefix after) (scan_is_meant q bucket prefix after) (scan_is_step q bucket prefix after) tt (All-nil _) holds
        (range_begins (at_begin [] stage (asks_past bucket prefix after)) s.world.kept block stage (digest_of bucket) prefix after scans)

    -- or for a block
    pub fetches_laid : (v : Version) (meta : Meta) (aim : Aim) (left : List BlockRef) (body : List ℕ) (b : BlockRef) → HasHash b → Fetches here v meta left body b.hash.0 → GoesLaid [] (Gathering v meta aim left body) (Fetch b.hash)
    fetches_laid v meta aim left body b hash gets =
        let stage : Stage = Gathering v meta aim left body in
        goes_laid [] stage (Fetch b.hash) (fetch_is_meant q b.hash) (fetch_is_step q b.hash hash) tt (All-nil _) tt
        (fetch_begins (at_begin [] stage (Fetch b.hash)) s.world.kept block stage b.hash (fetches_later here (at_begin [] stage (Fetch b.hash)) (begin_grows [] stage (Fetch b.hash)) v meta left body b.hash.0 gets))

    -- a write stores that its upload has begun
    pub uploading_laid : (name : Name) (v : Version) (c : Content) (moment : ℕ) → is_long c.body ≡ true →
        (let d : Draw = record { request = q; name = name; version = v; wish = wish.Content c; block = block; moment = moment } in GoesLaid (d ∷ []) (Uploading name v c 0) (stores (uploading name v)))
    uploading_laid name v c moment long =
        let d : Draw = record { request = q; name = name; version = v; wish = wish.Content c; block = block; moment = moment } in
        let ds : List Draw = d ∷ [] in
        let stage : Stage = Uploading name v c 0 in
        let r : AnyRow = uploading name v in
        let first : Contains (ds ++ s.draws) d = (0, omega arith, refl) in
        let is : IsRowOf (with_draws ds) r = IsRowOf.announces d first refl in
        goes_laid ds stage (stores r) (stores_is_meant q r) (one_is_step q r (uploading_is_placed name v)) (stores_bring q r refl) (All-cons (IsRowOf (with_draws ds)) r [] is (All-nil _))
        (record { moment = moment; drawn = first; long = long; before = λ i lt. absurd (omega (arith, lt)) })
        (store_begins (at_begin ds stage (stores r)) s.world.kept block stage ((r, None) ∷ []) (one_row (at_begin ds stage (stores r)) r (row_later (with_draws ds) (at_begin ds stage (stores r)) (begin_grows ds stage (stores r)) r is)) tt)

    -- and for a stream
    pub announcing_laid : (name : Name) (v : Version) (coming : Coming) (moment : ℕ) →
        (let d : Draw = record { request = q; name = name; version = v; wish = wish.Stream coming; block = block; moment = moment } in GoesLaid (d ∷ []) (Receiving name v coming []) (stores (uploading name v)))
    announcing_laid name v coming moment =
        let d : Draw = record { request = q; name = name; version = v; wish = wish.Stream coming; block = block; moment = moment } in
        let ds : List Draw = d ∷ [] in
        let stage : Stage = Receiving name v coming [] in
        let r : AnyRow = uploading name v in
        let first : Contains (ds ++ s.draws) d = (0, omega arith, refl) in
        let is : IsRowOf (with_draws ds) r = IsRowOf.announces d first refl in
        goes_laid ds stage (stores r) (stores_is_meant q r) (one_is_step q r (uploading_is_placed name v)) (stores_bring q r refl) (All-cons (IsRowOf (with_draws ds)) r [] is (All-nil _))
        (record { moment = moment; drawn = first; count = 0; whole = λ lt. omega arith; ends = none_there block 0; before = λ i has. absurd (nothing_there block (suc i) has) })
        (store_begins (at_begin ds stage (stores r)) s.world.kept block stage ((r, None) ∷ []) (one_row (at_begin ds stage (stores r)) r (row_later (with_draws ds) (at_begin ds stage (stores r)) (begin_grows ds stage (stores r)) r is))
        (λ i has no_more. absurd (nothing_there block i has)))

    -- a stream stores a block that came, the next one of so many bytes as it needs
    pub fed_laid : (name : Name) (v : Version) (coming : Coming) (received bytes : List ℕ) → v.id < 2 ^ 64 → HasReceived here q block name v coming received → AreStored here block v received →
        min block (coming.length - length received) ≡ length bytes → 1 ≤ length bytes → GoesLaid [] (Receiving name v coming (received ++ bytes)) (Store (rows_at v.id (length received) bytes))
    fed_laid name v coming received bytes small h stored wanted some =
        let both : List ℕ = received ++ bytes in
        let stage : Stage = Receiving name v coming both in
        let phase : Phase AnyRow = Store (rows_at v.id (length received) bytes) in
        let d : Draw = record { request = q; name = name; version = v; wish = wish.Stream coming; block = block; moment = h.moment } in
        let one : AnyRow = version_row_at v.id (length received) bytes in
        let other : AnyRow = reference_to v.id bytes in
        let one_is : IsRowOf here one = IsRowOf.names d (length received) bytes h.drawn refl in
        let other_is : IsRowOf here other = IsRowOf.refers d bytes h.drawn refl in
        let now : Past = at_begin [] stage phase in
        let grows : Grows here now = begin_grows [] stage phase in
        let more : length received < coming.length = omega (arith, wanted, some) in
        let size : length received ≡ h.count * block = h.whole more in
        let few : length bytes ≤ block = omega (arith, wanted) in
        let sum : length both ≡ h.count * block + length bytes = many block received bytes h.count size some few in
        let next : suc h.count * block ≡ h.count * block + block = omega arith in
        goes_laid [] stage phase (rows_at_is_meant q v.id (length received) bytes) (rows_at_is_step v.id small (length received) bytes q) (rows_bring q v.id (length received) bytes)
        (All-cons (IsRowOf here) one (other ∷ []) one_is (All-cons (IsRowOf here) other [] other_is (All-nil _)))
        (record {
          moment = h.moment;
          drawn = h.drawn;
          count = suc h.count;
          whole = λ lt. omega (arith, sum, next, wanted, lt, size);
          ends = end_of_pieces block received bytes h.count size some few;
          before = λ i has.
              let low : i < h.count = before_last block received bytes h.count size some few i has in
              let there : has_piece block received i ≡ true = each_came block received bytes h.count size some few i low in
              piece_kept here v.id block received both i (sym (piece_old block received bytes h.count size some few i low)) (stored i there);
        })
        (store_begins now s.world.kept block stage (rows_at v.id (length received) bytes) (two_rows now one other (row_later here now grows one one_is) (row_later here now grows other other_is))
        (λ i has no_more.
        let last : i ≡ h.count = last_new block received bytes h.count size some few i has no_more in
        let new : piece block both h.count ≡ bytes = piece_new block received bytes h.count size some few in
        let here_is : piece block both i ≡ bytes = ap (piece block both) last ∙ new in
        let at : length received ≡ i * block = size ∙ ap (λ n. n * block) (sym last) in (
          (λ j. version_row_at v.id (at j) (sym here_is j) ∷ reference_to v.id (sym here_is j) ∷ []),
          subst (Contains now.blocks) (sym here_is) (blocks_new moves (phases q phase) bytes (0, omega arith, refl)),
        )))

    -- or that it was given up
    pub aborting_laid : (name : Name) (v : Version) (d : Draw) → Contains s.draws d → d.name ≡ name → d.version ≡ v → GoesLaid [] (Aborting v) (stores (aborted name v))
    aborting_laid name v d drawn name_is version_is =
        let stage : Stage = Aborting v in
        let r : AnyRow = aborted name v in
        let is : IsRowOf here r = IsRowOf.gives_up d drawn (λ i. aborted (sym name_is i) (sym version_is i)) in
        let now : Past = at_begin [] stage (stores r) in
        goes_laid [] stage (stores r) (stores_is_meant q r) (one_is_step q r (aborted_is_placed name v)) (stores_bring q r refl) (All-cons (IsRowOf here) r [] is (All-nil _))
        tt (store_begins now s.world.kept block stage ((r, None) ∷ []) (one_row now r (row_later here now (begin_grows [] stage (stores r)) r is)) tt)

    -- a stream waits for its client
    pub needs_laid : (stage : Stage) → Holds here q block stage → IsLaidIn H (moves ++ []) (record s { asked = set_flow s q a (Some (flow_of q block stage)) })
    needs_laid stage holds =
        let flow : Flow = flow_of q block stage in
        subst (λ ms. IsLaid H ms s.world (set_flow s q a (Some flow)) s.draws s.history) (sym (append-nil moves))
        (laid_waiting moves s q a (Some flow) [] at rests (λ f e. (let same : flow ≡ f = cc in subst (λ (g : Flow). Holds here q g.block g.stage) same holds)) laid)

    -- a write stores that its version is complete
    pub completes_laid : (ds : List Draw) (d : Draw) (meta : Option Meta) → Contains (ds ++ s.draws) d → IsKnown d.wish → d.block ≡ block → ((c : Content) → IsLong (ds ++ s.draws) d c → HasAll here d.version.id d.block c.body) →
        GoesLaid ds (Completing d.version meta) (stores (complete d.name d.version block d.wish))
    completes_laid ds d meta drawn known block_is all =
        let stage : Stage = Completing d.version meta in
        let r : AnyRow = complete d.name d.version block d.wish in
        let more : (c : Content) → IsLong (ds ++ s.draws) d c → HasAll (with_draws ds) d.version.id d.block c.body = (λ c l. all_of_later here (with_draws ds) (drawn_grows moves s ds) d.version.id d.block c.body (all c l)) in
        let is : IsRowOf (with_draws ds) r = IsRowOf.completes d drawn known (ap (λ b. complete d.name d.version b d.wish) (sym block_is)) more in
        goes_laid ds stage (stores r) (stores_is_meant q r) (stores_is_step q d.name d.version block d.wish) (stores_bring q r (complete_needs_none d.name d.version block d.wish)) (All-cons (IsRowOf (with_draws ds)) r [] is (All-nil _))
        tt (store_begins (at_begin ds stage (stores r)) s.world.kept block stage ((r, None) ∷ []) (one_row (at_begin ds stage (stores r)) r (row_later (with_draws ds) (at_begin ds stage (stores r)) (begin_grows ds stage (stores r)) r is)) tt)

    -- an upload stores its next block
    pub block_laid : (name : Name) (v : Version) (c : Content) (i : ℕ) → v.id < 2 ^ 64 → has_piece block c.body i ≡ true → HasUploaded here q block name v c (suc i) →
        GoesLaid [] (Uploading name v c (suc i)) (Store (block_rows v.id block c.body i))
    block_laid name v c i small has h =
        let stage : Stage = Uploading name v c (suc i) in
        let phase : Phase AnyRow = Store (block_rows v.id block c.body i) in
        let d : Draw = record { request = q; name = name; version = v; wish = wish.Content c; block = block; moment = h.moment } in
        let one : AnyRow = version_row v.id block c.body i in
        let other : AnyRow = reference_row v.id block c.body i in
        let one_is : IsRowOf here one = IsRowOf.names d (i * block) (piece block c.body i) h.drawn refl in
        let other_is : IsRowOf here other = IsRowOf.refers d (piece block c.body i) h.drawn refl in
        let now : Past = at_begin [] stage phase in
        let grows : Grows here now = begin_grows [] stage phase in
        goes_laid [] stage phase (block_is_meant q v.id block c.body i) (block_is_step v.id small block c.body i q) (rows_bring q v.id (i * block) (piece block c.body i))
        (All-cons (IsRowOf here) one (other ∷ []) one_is (All-cons (IsRowOf here) other [] other_is (All-nil _)))
        h (store_begins now s.world.kept block stage (block_rows v.id block c.body i) (two_rows now one other (row_later here now grows one one_is) (row_later here now grows other other_is))
        (refl, blocks_new moves (phases q phase) (piece block c.body i) (0, omega arith, refl)))

    -- a request waits on
    pub waits_laid : (stage : Stage) → a.flow ≡ Some (flow_of q block stage) → IsLaidIn H (moves ++ []) (record s { asked = set_flow s q a (Some (flow_of q block stage)) })
    waits_laid stage flow_is =
        subst (λ ms. IsLaid H ms s.world (set_flow s q a (Some (flow_of q block stage))) s.draws s.history) (sym (append-nil moves)) (laid_waiting moves s q a (Some (flow_of q block stage)) [] at rests (λ f e. laid.stages q a f at (flow_is ∙ e)) laid)

    -- a request ends
    pub finishes_laid : (end : FlowEnd) → ((p id : ℕ) → record_of q end ≡ Ended p (Superseded id) → IsReplaced here s.asked p id) → FitIn H s.world (finishes s q a end).moves → IsLaidIn H (moves ++ (finishes s q a end).moves) (finishes s q a end).state
    finishes_laid end passed fits =
        let m : Moving = plainly (step.Close q) in
        let new : State = waiting s q a None [] in
        let closed : IsLaidIn H (moves ++ m ∷ []) (doing new m) = calm_laid cited moves new m tt refl tt tt tt tt fits (laid_waiting moves s q a None [] at rests (λ f e. cc) laid) in
        laid_told (moves ++ m ∷ []) (doing new m).world new.asked s.draws s.history (record_of q end ∷ [])
        (λ p id c. replaced_later here (past_after moves new m) (after_grows moves new m) new.asked p id
        (replaced_asked here s.asked new.asked (asked_set s.asked q a None at) p id (passed p id (only (record_of q end) (Ended p (Superseded id)) c)))) closed
