-- What a request does whose phase ended keeps a state sound.
use Rattle.std.proofs.Common.{◌≡◌, ℕ, suc, ◌<◌, ◌^◌, Option, Some, None, List, [], ◌∷◌, ◌++◌, length, refl, sym, ap, ◌∙◌, subst, arith}
use Rattle.std.specs.Prelude.{IsTrue, slice_get}
use Rattle.std.specs.List.{All, Contains}
use Rattle.std.proofs.lemmas.List.Elements.{All-nil, All-cons}
use Rattle.std.proofs.lemmas.Option.{slice_get_within}
use Rattle.blake2_hash.specs.Hash.{digest_of}
use Rattle.row_codec.specs.Spelling.{eight}
use Rattle.crdt_rows.specs.declared.version.Version.{Version}
use Rattle.crdt_rows.specs.declared.body.Meta.{Meta}
use Rattle.crdt_rows.specs.declared.version_row.BlockRef.{BlockRef}
use Rattle.crdt_rows.specs.declared.object_row.ObjectRow.{ObjectRow}
use Rattle.crdt_rows.specs.declared.any_row.AnyRow.{AnyRow}
use Rattle.object_schema.specs.Schema.{words}
use Rattle.wire_messages.specs.declared.phase.Phase.{Phase}
use Rattle.wire_messages.specs.declared.phase.Phase.TheVariants.{Store, Block as Fetch}
use Rattle.cluster_machine.specs.Keeping.{AreDifferent}
use Rattle.cluster_machine.specs.Run.{IsStep}
use Rattle.cluster_machine.specs.World.{numbered}
use Rattle.cluster_machine.specs.Worlds.{IsMeant}
use Rattle.machine_origins.specs.Origins.{stored_by}
use Rattle.history_model.specs.Record.{is_write}
use Rattle.flow_model.specs.declared.flow.Name.{Name}
use Rattle.flow_model.specs.declared.flow.Coming.{Coming}
use Rattle.flow_model.specs.declared.flow.Content.{Content}
use Rattle.flow_model.specs.declared.flow.Wish.{Wish}
use Rattle.flow_model.specs.declared.flow.Wish.TheVariants as wish
use Rattle.flow_model.specs.declared.flow.Aim.{Aim}
use Rattle.flow_model.specs.declared.flow.Stage.{Stage}
use Rattle.flow_model.specs.declared.flow.Stage.TheVariants.{Drawing, Uploading, Receiving, Needing, Aborting, Completing, Opening, Gathering, Listing}
use Rattle.flow_model.specs.declared.flow.Flow.{Flow}
use Rattle.flow_model.specs.Rows.{meta_of, content_of, uploading, aborted, complete, block_rows, rows_at}
use Rattle.flow_model.specs.Flow.{asks_for, asks_past}
use Rattle.flow_model.specs.Next.{drawn, stores, opens}
use Rattle.store_model.specs.Run.{State, Asked, Draw, Outcome, phases, effect, set_flow, goes}
use Rattle.store_laws.proofs.Elements.{only, none_in}
use Rattle.machine_origins.proofs.Places.{numbered_set_here}
use Rattle.store_laws.proofs.Records.{stands}
use Rattle.store_laws.proofs.Every.{EveryWorld}
use Rattle.store_laws.proofs.Hashes.{HasHash}
use Rattle.store_laws.proofs.Rows.{IsKnown}
use Rattle.store_laws.proofs.Good.{IsGood, complete_is_good, uploading_is_good, aborted_is_good, block_rows_are_good, rows_at_are_good}
use Rattle.store_laws.proofs.Placing.{asks_is_step, asks_is_meant, stores_is_step, stores_is_meant, one_is_step, complete_is_placed, uploading_is_placed, aborted_is_placed, block_is_step, block_is_meant, block_rows_are_proper, rows_at_is_step, rows_at_is_meant, rows_at_are_proper, opens_is_step, opens_is_meant, fetch_is_step, fetch_is_meant, scan_is_step, scan_is_meant}
use Rattle.store_laws.proofs.Sound.{began, IsWishOf, HasDrawn, HasPhase, IsProper, StoresFor, HasShown, IsStage, IsSound, sights}
use Rattle.store_laws.proofs.Reached.{reached_different}
use Rattle.store_laws.proofs.Grown.{Rests}
use Rattle.store_laws.proofs.Stepping.{IsFine, step_sound}
use Rattle.store_laws.proofs.Beginning.{reads_fine, asks_fine, stores_fine, fetch_fine, scans_fine}
use Rattle.store_laws.proofs.Flows.{waiting, waiting_sound}
use Rattle.store_laws.proofs.Enders.{wish_writes}
use Rattle.store_laws.proofs.Hashing.{FitIn}
use Rattle.store_laws.proofs.Deeds.{Deed}

-- the flow with its number
abbrev pub flow_of : ℕ → ℕ → Stage → Flow
flow_of q block stage = record { id = q; block = block; stage = stage }

module _ {H : Deed → Type 0} where
  module _ (every : EveryWorld H) (s : State) (q : ℕ) (a : Asked) (at : numbered s.asked q ≡ Some a) (rests : Rests s q) (block : ℕ) where
    -- the request goes on waiting
    pub waits_keeps : (stage : Stage) → a.flow ≡ Some (flow_of q block stage) → IsSound H s → IsSound H (record s { asked = set_flow s q a (Some (flow_of q block stage)) })
    waits_keeps stage flow_is sound =
        waiting_sound s q a (Some (flow_of q block stage)) [] at rests (λ f e. sound.stages q a f at (flow_is ∙ e)) (λ d c. absurd (none_in d c)) sound

    -- it waits for something else that it may wait for
    pub waits_for : (stage : Stage) → IsStage H s.draws s.history q a stage → IsSound H s → IsSound H (record s { asked = set_flow s q a (Some (flow_of q block stage)) })
    waits_for stage is_stage sound =
        let flow : Flow = flow_of q block stage in
        waiting_sound s q a (Some flow) [] at rests
        (λ f e. (let same : flow ≡ f = cc in (ap (λ (g : Flow). g.id) (sym same), subst (λ (g : Flow). IsStage H s.draws s.history q a g.stage) same is_stage))) (λ d c. absurd (none_in d c)) sound

    -- the request goes on with its next phase
    pub goes_keeps : (ds : List Draw) (stage : Stage) (phase : Phase AnyRow) → IsStage H (ds ++ s.draws) s.history q a stage → ((d : Draw) → Contains ds d → HasDrawn s.buckets s.history d) →
        IsMeant (phases q phase).step → IsStep words 256 (phases q phase).step → All (IsGood (ds ++ s.draws)) (stored_by (phases q phase).step) →
        (let new : State = waiting s q a (Some (flow_of q block stage)) ds in let one : Asked = record a { flow = Some (flow_of q block stage) } in
        IsSound H new → numbered new.asked q ≡ Some one → ((n : ℕ) → AreDifferent (new.world.nodes n).calls) → IsFine H new (effect new (phases q phase))) →
        FitIn H s.world (goes s q a ds (flow_of q block stage) phase).moves → IsSound H s → IsSound H (goes s q a ds (flow_of q block stage) phase).state
    goes_keeps ds stage phase is_stage drawn meant step stores fine fits sound =
        let flow : Flow = flow_of q block stage in
        let new : State = waiting s q a (Some flow) ds in
        let one : Asked = record a { flow = Some flow } in
        let is_new : IsSound H new = waiting_sound s q a (Some flow) ds at rests
        (λ f e. (let same : flow ≡ f = cc in (ap (λ (g : Flow). g.id) (sym same), subst (λ (g : Flow). IsStage H (ds ++ s.draws) s.history q a g.stage) same is_stage))) drawn sound in
        step_sound new (phases q phase) is_new (meant, step, tt, fits.0.1, tt) fits.0.2 stores (fine is_new (numbered_set_here s.asked q one a at) (reached_different every new.world is_new.reached))

    -- a write has drawn this version
    abbrev pub draw_of : Name → Wish → Version → Draw
    draw_of name w version = record { request = q; name = name; version = version; wish = w; block = block; moment = length s.history }

    has_drawn : (name : Name) (w : Wish) (value : Option AnyRow) (now : ℕ) → name ≡ a.name → IsWishOf a.kind w → IsSound H s → HasDrawn s.buckets s.history (draw_of name w (drawn q value now))
    has_drawn name w value now name_is fits_kind sound =
        let begin = sound.told.asked_began q a at in
        let here = stands s.history (began q begin.0 a.kind a.name) begin.1 in
        let low = slice_get_within s.history here.0 _ here.1 in
        record {
          id_is = refl;
          node = begin.0;
          kind = a.kind;
          fits = fits_kind;
          place = here.0;
          began_at = subst (λ (m : Name). slice_get s.history here.0 ≡ Some (began q begin.0 a.kind m)) (sym name_is) here.1;
          in_time = omega arith;
          bucket = subst (λ (m : Name). Contains s.buckets m.bucket) (sym name_is) (sound.told.bucket_there q a at);
          moment = omega arith;
        }

    -- the complete version is stored of what was drawn
    completes_goes : (ds : List Draw) (name : Name) (w : Wish) (version : Version) (meta : Option Meta) (d : Draw) → Contains (ds ++ s.draws) d → d.request ≡ q → complete d.name d.version block d.wish ≡ complete name version block w → d.version ≡ version →
        IsKnown d.wish → IsTrue (is_write a.kind) → ((e : Draw) → Contains ds e → HasDrawn s.buckets s.history e) →
        (let more : Outcome = goes s q a ds (flow_of q block (Completing version meta)) (stores (complete name version block w)) in FitIn H s.world more.moves → IsSound H s → IsSound H more.state)
    completes_goes ds name w version meta d c request_is row_is version_is known writes drawn fits sound =
        let r : AnyRow = complete name version block w in
        let flow : Flow = flow_of q block (Completing version meta) in
        let one : Asked = record a { flow = Some flow } in
        let new : State = waiting s q a (Some flow) ds in
        goes_keeps ds (Completing version meta) (stores r) writes drawn (stores_is_meant q r) (stores_is_step q name version block w)
        (All-cons (IsGood (ds ++ s.draws)) r [] (subst (IsGood (ds ++ s.draws)) row_is (complete_is_good (ds ++ s.draws) d block c known)) (All-nil (IsGood (ds ++ s.draws))))
        (λ is_new there differ. stores_fine new is_new differ q one flow there refl tt ((r, None) ∷ []) (All-cons IsProper r [] (complete_is_placed name version block w).0 (All-nil IsProper))
        (record { draw = d; drawn = c; request_is = request_is; version_is = version_is; block = block; rows_are = ap (λ (x : AnyRow). x ∷ []) (sym row_is) })) fits sound

    -- a write has drawn its version and stores it at once
    pub writes_keeps : (name : Name) (w : Wish) (value : Option AnyRow) (now : ℕ) (meta : Option Meta) → name ≡ a.name → IsWishOf a.kind w → IsKnown w →
        (let more : Outcome = goes s q a (draw_of name w (drawn q value now) ∷ []) (flow_of q block (Completing (drawn q value now) meta)) (stores (complete name (drawn q value now) block w)) in
        FitIn H s.world more.moves → IsSound H s → IsSound H more.state)
    writes_keeps name w value now meta name_is fits_kind known fits sound =
        let d : Draw = draw_of name w (drawn q value now) in
        completes_goes (d ∷ []) name w (drawn q value now) meta d (0, omega arith, refl) refl refl refl known (wish_writes a.kind w fits_kind)
        (λ e c. subst (HasDrawn s.buckets s.history) (only d e c) (has_drawn name w value now name_is fits_kind sound)) fits sound

    -- a write has drawn its version and begins its upload
    upload_begins : (name : Name) (w : Wish) (value : Option AnyRow) (now : ℕ) (stage : Stage) → name ≡ a.name → IsWishOf a.kind w →
        (let d : Draw = draw_of name w (drawn q value now) in let more : Outcome = goes s q a (d ∷ []) (flow_of q block stage) (stores (uploading name (drawn q value now))) in
        IsStage H (d ∷ s.draws) s.history q a stage → HasPhase stage → ((rows : List AnyRow) → StoresFor (d ∷ s.draws) q stage rows) → FitIn H s.world more.moves → IsSound H s → IsSound H more.state)
    upload_begins name w value now stage name_is fits_kind is_stage has_phase stores_so fits sound =
        let v : Version = drawn q value now in
        let d : Draw = draw_of name w v in
        let ds : List Draw = d ∷ [] in
        let r : AnyRow = uploading name v in
        let flow : Flow = flow_of q block stage in
        let one : Asked = record a { flow = Some flow } in
        let new : State = waiting s q a (Some flow) ds in
        goes_keeps ds stage (stores r) is_stage
        (λ e c'. subst (HasDrawn s.buckets s.history) (only d e c') (has_drawn name w value now name_is fits_kind sound)) (stores_is_meant q r) (one_is_step q r (uploading_is_placed name v))
        (All-cons (IsGood (ds ++ s.draws)) r [] (uploading_is_good (ds ++ s.draws) d (0, omega arith, refl)) (All-nil (IsGood (ds ++ s.draws))))
        (λ is_new there differ. stores_fine new is_new differ q one flow there refl has_phase ((r, None) ∷ []) (All-cons IsProper r [] (uploading_is_placed name v).0 (All-nil IsProper)) (stores_so (r ∷ []))) fits sound

    -- of long bytes
    pub uploading_keeps : (name : Name) (c : Content) (value : Option AnyRow) (now : ℕ) → name ≡ a.name → IsWishOf a.kind (wish.Content c) →
        (let more : Outcome = goes s q a (draw_of name (wish.Content c) (drawn q value now) ∷ []) (flow_of q block (Uploading name (drawn q value now) c 0)) (stores (uploading name (drawn q value now))) in
        FitIn H s.world more.moves → IsSound H s → IsSound H more.state)
    uploading_keeps name c value now name_is fits_kind fits sound =
        upload_begins name (wish.Content c) value now (Uploading name (drawn q value now) c 0) name_is fits_kind
        (wish_writes a.kind (wish.Content c) fits_kind, record { block = block; moment = length s.history; drawn = (0, omega arith, refl) }) tt (λ rows. tt) fits sound

    -- of bytes that are still to come
    pub announcing_keeps : (name : Name) (coming : Coming) (value : Option AnyRow) (now : ℕ) → name ≡ a.name → IsWishOf a.kind (wish.Stream coming) →
        (let more : Outcome = goes s q a (draw_of name (wish.Stream coming) (drawn q value now) ∷ []) (flow_of q block (Receiving name (drawn q value now) coming [])) (stores (uploading name (drawn q value now))) in
        FitIn H s.world more.moves → IsSound H s → IsSound H more.state)
    announcing_keeps name coming value now name_is fits_kind fits sound =
        upload_begins name (wish.Stream coming) value now (Receiving name (drawn q value now) coming []) name_is fits_kind
        (wish_writes a.kind (wish.Stream coming) fits_kind, record { block = block; moment = length s.history; drawn = (0, omega arith, refl) }) tt (λ rows. tt) fits sound

    -- the next block is stored
    pub block_keeps : (name : Name) (version : Version) (c : Content) (stored : ℕ) → version.id < 2 ^ 64 → IsStage H s.draws s.history q a (Uploading name version c stored) →
        (let more : Outcome = goes s q a [] (flow_of q block (Uploading name version c (suc stored))) (Store (block_rows version.id block c.body stored)) in
        FitIn H s.world more.moves → IsSound H s → IsSound H more.state)
    block_keeps name version c stored small stage fits sound =
        let flow : Flow = flow_of q block (Uploading name version c (suc stored)) in
        let one : Asked = record a { flow = Some flow } in
        let new : State = waiting s q a (Some flow) [] in
        goes_keeps [] (Uploading name version c (suc stored)) (Store (block_rows version.id block c.body stored)) stage (λ d c. absurd (none_in d c)) (block_is_meant q version.id block c.body stored)
        (block_is_step version.id small block c.body stored q) (block_rows_are_good s.draws version.id block c.body stored)
        (λ is_new there differ. stores_fine new is_new differ q one flow there refl tt (block_rows version.id block c.body stored) (block_rows_are_proper version.id small block c.body stored) tt) fits sound

    -- all blocks are stored: the complete version is
    pub completes_keeps : (name : Name) (version : Version) (c : Content) (stored : ℕ) → IsStage H s.draws s.history q a (Uploading name version c stored) →
        (let more : Outcome = goes s q a [] (flow_of q block (Completing version (Some (meta_of c)))) (stores (complete name version block (wish.Content c))) in
        FitIn H s.world more.moves → IsSound H s → IsSound H more.state)
    completes_keeps name version c stored stage fits sound =
        let d : Draw = record { request = q; name = name; version = version; wish = wish.Content c; block = stage.1.block; moment = stage.1.moment } in
        completes_goes [] name (wish.Content c) version (Some (meta_of c)) d stage.1.drawn refl refl refl tt stage.0 (λ e c. absurd (none_in e c)) fits sound

    -- a block of a stream has come and is stored
    pub fed_keeps : (name : Name) (version : Version) (coming : Coming) (received bytes : List ℕ) → version.id < 2 ^ 64 → IsStage H s.draws s.history q a (Needing name version coming received) →
        (let more : Outcome = goes s q a [] (flow_of q block (Receiving name version coming (received ++ bytes))) (Store (rows_at version.id (length received) bytes)) in
        FitIn H s.world more.moves → IsSound H s → IsSound H more.state)
    fed_keeps name version coming received bytes small stage fits sound =
        let flow : Flow = flow_of q block (Receiving name version coming (received ++ bytes)) in
        let one : Asked = record a { flow = Some flow } in
        let new : State = waiting s q a (Some flow) [] in
        let stored : List (AnyRow × Option (List ℕ)) = rows_at version.id (length received) bytes in
        goes_keeps [] (Receiving name version coming (received ++ bytes)) (Store stored) stage (λ d c. absurd (none_in d c)) (rows_at_is_meant q version.id (length received) bytes)
        (rows_at_is_step version.id small (length received) bytes q) (rows_at_are_good s.draws version.id (length received) bytes)
        (λ is_new there differ. stores_fine new is_new differ q one flow there refl tt stored (rows_at_are_proper version.id small (length received) bytes) tt) fits sound

    -- the draw of what was received
    abbrev pub filling_of : Name → Version → Coming → List ℕ → Draw
    filling_of name version coming received = draw_of name (wish.Content (content_of coming received)) version

    has_filled : (name : Name) (version : Version) (coming : Coming) (received : List ℕ) → IsStage H s.draws s.history q a (Needing name version coming received) → IsSound H s → HasDrawn s.buckets s.history (filling_of name version coming received)
    has_filled name version coming received stage sound =
        let was = sound.drawn _ stage.1.drawn in
        let in_time = was.in_time in
        let moment = was.moment in
        record { id_is = was.id_is; node = was.node; kind = was.kind; fits = was.fits; place = was.place; began_at = was.began_at; in_time = omega arith; bucket = was.bucket; moment = omega arith }

    -- the stream is kept: the complete version is stored of what was received
    pub kept_keeps : (name : Name) (version : Version) (coming : Coming) (received : List ℕ) → IsStage H s.draws s.history q a (Needing name version coming received) →
        (let c : Content = content_of coming received in
        let more : Outcome = goes s q a (filling_of name version coming received ∷ []) (flow_of q block (Completing version (Some (meta_of c)))) (stores (complete name version block (wish.Content c))) in
        FitIn H s.world more.moves → IsSound H s → IsSound H more.state)
    kept_keeps name version coming received stage fits sound =
        let c : Content = content_of coming received in
        let d : Draw = filling_of name version coming received in
        completes_goes (d ∷ []) name (wish.Content c) version (Some (meta_of c)) d (0, omega arith, refl) refl refl refl tt stage.0
        (λ e here. subst (HasDrawn s.buckets s.history) (only d e here) (has_filled name version coming received stage sound)) fits sound

    -- it is given up: that is stored
    pub given_up_keeps : (name : Name) (version : Version) (coming : Coming) (received : List ℕ) → IsStage H s.draws s.history q a (Needing name version coming received) →
        (let more : Outcome = goes s q a [] (flow_of q block (Aborting version)) (stores (aborted name version)) in FitIn H s.world more.moves → IsSound H s → IsSound H more.state)
    given_up_keeps name version coming received stage fits sound =
        let d : Draw = record { request = q; name = name; version = version; wish = wish.Stream coming; block = stage.1.block; moment = stage.1.moment } in
        let r : AnyRow = aborted name version in
        let flow : Flow = flow_of q block (Aborting version) in
        let one : Asked = record a { flow = Some flow } in
        let new : State = waiting s q a (Some flow) [] in
        goes_keeps [] (Aborting version) (stores r) stage.0 (λ d c. absurd (none_in d c)) (stores_is_meant q r) (one_is_step q r (aborted_is_placed name version))
        (All-cons (IsGood s.draws) r [] (aborted_is_good s.draws d stage.1.drawn) (All-nil (IsGood s.draws)))
        (λ is_new there differ. stores_fine new is_new differ q one flow there refl tt ((r, None) ∷ []) (All-cons IsProper r [] (aborted_is_placed name version).0 (All-nil IsProper)) tt) fits sound

    -- a copy asks for the row of its new object
    pub draws_keeps : (name : Name) (w : Wish) → name ≡ a.name → IsWishOf a.kind w →
        (let more : Outcome = goes s q a [] (flow_of q block (Drawing name w)) (asks_for name) in FitIn H s.world more.moves → IsSound H s → IsSound H more.state)
    draws_keeps name w name_is fits_kind fits sound =
        let flow : Flow = flow_of q block (Drawing name w) in
        let one : Asked = record a { flow = Some flow } in
        let new : State = waiting s q a (Some flow) [] in
        goes_keeps [] (Drawing name w) (asks_for name) (name_is, fits_kind) (λ d c. absurd (none_in d c)) (asks_is_meant q name) (asks_is_step q name) (All-nil (IsGood s.draws))
        (λ is_new there differ. asks_fine new is_new differ q one flow there refl tt name (λ question h. h)) fits sound

    -- a read asks for the version's row
    pub opens_keeps : (version : Version) (meta : Meta) (aim : Aim) → IsStage H s.draws s.history q a (Opening version meta aim) →
        (let more : Outcome = goes s q a [] (flow_of q block (Opening version meta aim)) (opens version) in FitIn H s.world more.moves → IsSound H s → IsSound H more.state)
    opens_keeps version meta aim stage fits sound =
        let flow : Flow = flow_of q block (Opening version meta aim) in
        let one : Asked = record a { flow = Some flow } in
        let new : State = waiting s q a (Some flow) [] in
        goes_keeps [] (Opening version meta aim) (opens version) stage (λ d c. absurd (none_in d c)) (opens_is_meant q version) (opens_is_step q version) (All-nil (IsGood s.draws))
        (λ is_new there differ. reads_fine new is_new differ q one flow there refl tt 2 (digest_of (eight version.id)) (eight version.id) (λ question table key. tt)) fits sound

    -- a read asks for the next block
    pub fetches_keeps : (version : Version) (meta : Meta) (aim : Aim) (left : List BlockRef) (body : List ℕ) (b : BlockRef) → HasHash b → IsStage H s.draws s.history q a (Gathering version meta aim left body) →
        (let more : Outcome = goes s q a [] (flow_of q block (Gathering version meta aim left body)) (Fetch b.hash) in FitIn H s.world more.moves → IsSound H s → IsSound H more.state)
    fetches_keeps version meta aim left body b hash stage fits sound =
        let flow : Flow = flow_of q block (Gathering version meta aim left body) in
        let one : Asked = record a { flow = Some flow } in
        let new : State = waiting s q a (Some flow) [] in
        goes_keeps [] (Gathering version meta aim left body) (Fetch b.hash) stage (λ d c. absurd (none_in d c)) (fetch_is_meant q b.hash) (fetch_is_step q b.hash hash) (All-nil (IsGood s.draws))
        (λ is_new there differ. fetch_fine new is_new differ q one flow there refl tt b.hash) fits sound

    -- a list scans on
    pub scans_keeps : (bucket prefix : List ℕ) (rows : List ObjectRow) (after : List ℕ) → IsStage H s.draws s.history q a (Listing bucket prefix rows) →
        HasShown H s.draws s.history (sights s) q (record { bucket = bucket; key = prefix }) rows (Some after) →
        (let more : Outcome = goes s q a [] (flow_of q block (Listing bucket prefix rows)) (asks_past bucket prefix after) in FitIn H s.world more.moves → IsSound H s → IsSound H more.state)
    scans_keeps bucket prefix rows after stage shown fits sound =
        let flow : Flow = flow_of q block (Listing bucket prefix rows) in
        let one : Asked = record a { flow = Some flow } in
        let new : State = waiting s q a (Some flow) [] in
        let own : Name = record { bucket = bucket; key = prefix } in
        goes_keeps [] (Listing bucket prefix rows) (asks_past bucket prefix after) stage (λ d c. absurd (none_in d c)) (scan_is_meant q bucket prefix after) (scan_is_step q bucket prefix after) (All-nil (IsGood s.draws))
        (λ is_new there differ. scans_fine new is_new differ q one flow there refl tt bucket prefix after
        (λ scan position prefix_is after_is. (position, prefix_is, subst (λ (e : List ℕ). HasShown H s.draws s.history (sights s) q own rows (Some e)) (sym after_is) shown))) fits sound
