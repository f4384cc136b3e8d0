-- What a request does whose phase ended keeps a state sound, whatever it waits for.
use Rattle.std.proofs.Common.{◌≡◌, ℕ, suc, ◌<◌, ◌≤◌, ◌^◌, true, false, Option, Some, None, List, [], ◌∷◌, ◌++◌, length, refl, sym, ap, ◌∙◌, subst, arith}
use Rattle.std.proofs.lemmas.List.{length-append}
use Rattle.std.specs.Prelude.{IsTrue}
use Rattle.std.specs.Option.{unwrap_or}
use Rattle.std.specs.List.{AllByRecursion, Contains}
use Rattle.crdt_rows.specs.declared.version.Version.{Version}
use Rattle.crdt_rows.specs.declared.body.Meta.{Meta}
use Rattle.crdt_rows.specs.declared.version_row.BlockRef.{BlockRef}
use Rattle.crdt_rows.specs.declared.object_row.ObjectRow.{ObjectRow}
use Rattle.crdt_rows.specs.declared.any_row.AnyRow.{AnyRow}
use Rattle.crdt_rows.specs.declared.any_row.AnyRow.TheVariants as rows
use Rattle.object_schema.specs.Schema.{words}
use Rattle.wire_messages.specs.declared.phase.PhaseEnd.{PhaseEnd}
use Rattle.wire_messages.specs.declared.phase.PhaseEnd.TheVariants.{Row as Answered, Window, Kept, Block}
use Rattle.cluster_machine.specs.World.{clock, numbered}
use Rattle.wire_messages.specs.declared.phase.Phase.TheVariants.{Store}
use Rattle.cluster_machine.specs.Step.{applied, shut}
use Rattle.cluster_machine.specs.Fits.{Fits}
use Rattle.cluster_machine.specs.Worlds.{Done as Effect}
use Rattle.cluster_machine.proofs.Closing.{length_shut}
use Rattle.machine_origins.proofs.Places.{numbered_within}
use Rattle.history_model.specs.declared.record.Kind.{Kind}
use Rattle.history_model.specs.declared.record.Kind.TheVariants as kind
use Rattle.history_model.specs.declared.record.Answer.{Answer}
use Rattle.history_model.specs.declared.record.Answer.TheVariants as answer
use Rattle.history_model.specs.declared.record.Record.TheVariants.{Finished}
use Rattle.store_model.specs.Answers.{record_of, entries, versions_of}
use Rattle.store_laws.proofs.Listed.{window_shown, listed_end}
use Rattle.history_model.specs.Record.{is_read, is_write, is_source, names}
use Rattle.flow_model.specs.declared.flow.Name.{Name}
use Rattle.flow_model.specs.declared.flow.Content.{Content}
use Rattle.flow_model.specs.declared.flow.Wish.{Wish}
use Rattle.flow_model.specs.declared.flow.Wish.TheVariants as wish
use Rattle.flow_model.specs.declared.flow.Aim.{Aim}
use Rattle.flow_model.specs.declared.flow.Aim.TheVariants as aim
use Rattle.flow_model.specs.declared.flow.Stage.{Stage}
use Rattle.flow_model.specs.declared.flow.Stage.TheVariants.{Drawing, Uploading, Receiving, Needing, Aborting, Completing, Looking, Opening, Gathering, Listing}
use Rattle.flow_model.specs.declared.flow.Flow.{Flow}
use Rattle.flow_model.specs.declared.flow.FlowStep.{FlowStep}
use Rattle.flow_model.specs.declared.flow.FlowEnd.TheVariants.{Stored, Found, Nothing, Listed, Superseded, Aborted}
use Rattle.flow_model.specs.Blocks.{has_piece, is_long}
use Rattle.flow_model.specs.Rows.{meta_of, uploading, block_rows}
use Rattle.flow_model.specs.Says.{Said, none, marked, inline, in_blocks, said_of, Named, unnamed, whole, deleted, named_by, shown_rows}
use Rattle.flow_model.specs.Next.{drawn, stores, more, found, looked, reads_on, gathers, opened, lists, completes}
use Rattle.store_model.specs.Run.{State, Asked, Draw, effect, phases, set_flow, finishes, takes, follows}
use Rattle.store_laws.proofs.Elements.{same_bytes}
use Rattle.store_laws.proofs.Every.{EveryWorld}
use Rattle.store_laws.proofs.Sound.{IsWishOf, AsksRow, IsAimOf, LooksAt, HasFound, HasSeen, HasShown, ScansFor, IsStage, IsSound, sights}
use Rattle.store_laws.proofs.Good.{IsGood}
use Rattle.store_laws.proofs.Hashes.{HasHash, NamedHave, row_named}
use Rattle.store_laws.proofs.Grown.{Rests, shown_seen}
use Rattle.store_laws.proofs.Ends.{IsEnd, HasRead}
use Rattle.store_laws.proofs.Flows.{sees_more, saw_sound}
use Rattle.store_laws.proofs.Finishing.{IsEndOf}
use Rattle.store_laws.proofs.Rows.{IsInBlocks, SaysWritten}
use Rattle.store_laws.proofs.Values.{gave_drawn, version_end, given_good, read_written, inline_found, blocks_found, none_end, marked_end}
use Rattle.store_laws.proofs.Enders.{finishes_keeps, one_end, read_end, nothing_end, stored_end}
use Rattle.store_laws.proofs.Going.{flow_of, waits_keeps, waits_for, writes_keeps, uploading_keeps, announcing_keeps, block_keeps, completes_keeps, draws_keeps, opens_keeps, fetches_keeps, scans_keeps}
use Rattle.store_laws.proofs.Hashing.{FitIn}
use Rattle.store_laws.proofs.Deeds.{Deed}

-- a get or head names its own key
own_get : (k : Kind) → k ≡ kind.Get → (mine key : List ℕ) → IsTrue (names k mine key) → mine ≡ key
own_get k e mine key h = same_bytes mine key (subst (λ (k : Kind). IsTrue (names k mine key)) e h)

own_head : (k : Kind) → k ≡ kind.Head → (mine key : List ℕ) → IsTrue (names k mine key) → mine ≡ key
own_head k e mine key h = same_bytes mine key (subst (λ (k : Kind). IsTrue (names k mine key)) e h)

-- what is said of a version's blocks, where the value is of a good row
pub value_named : (draws : List Draw) (value : Option AnyRow) (size : ℕ) → ((row : AnyRow) → value ≡ Some row → IsGood draws row) → NamedHave (named_by value size)
value_named draws None size good = tt
value_named draws (Some (rows.Object r)) size good = tt
value_named draws (Some (rows.Version r)) size good = row_named r size (good (rows.Version r) refl).0
value_named draws (Some (rows.Ref r)) size good = tt

module _ {H : Deed → Type 0} where
  -- a number of a request is one of the code's
  pub number_fits : (s : State) (q : ℕ) (a : Asked) (e : Effect AnyRow) → numbered s.asked q ≡ Some a → IsSound H s → Fits words (applied s.world e) → q < 2 ^ 64
  number_fits s q a e at sound fits =
      let within : q ≤ length s.asked = numbered_within s.asked q a at in
      let lengths : length s.asked ≡ length s.world.requests = sound.lengths in
      let shut_is = length_shut s.world.requests e.closes in
      let more = length-append (shut s.world.requests e.closes) e.opens in
      let low = fits.requests in
      omega arith

  module _ (every : EveryWorld H) (s : State) (q : ℕ) (a : Asked) (at : numbered s.asked q ≡ Some a) (rests : Rests s q) (block : ℕ) (sound : IsSound H s) where
    -- a get or head that finishes with the version that it found
    version_keeps : (v : Version) (meta : Meta) (body : List ℕ) → IsTrue (is_read a.kind) → ((key : List ℕ) → IsTrue (names a.kind a.name.key key) → a.name.key ≡ key) → HasFound H s.draws s.history q a.name a.name v →
        FitIn H s.world (finishes s q a (Found v meta body)).moves → IsSound H (finishes s q a (Found v meta body)).state
    version_keeps v meta body reads own f fits =
        finishes_keeps every s q a at rests (Found v meta body) fits (λ n x is. one_end every s q a at rests (answer.Version v) x n
        (read_end every s q a at rests (answer.Version v) reads (version_end s q a at sound own v f)) is) sound

    -- what a read does that has its object's bytes
    found_keeps : (aim : Aim) (v : Version) (meta : Meta) (body : List ℕ) → IsAimOf a aim → HasSeen H s.draws s.history q a aim v →
        FitIn H s.world (takes s q a [] (found q block aim v meta body)).moves → IsSound H (takes s q a [] (found q block aim v meta body)).state
    found_keeps aim.Get v meta body is seen fits = version_keeps v meta body (subst (λ (k : Kind). IsTrue (is_read k)) (sym is) refl) (own_get a.kind is a.name.key) seen fits
    found_keeps aim.Head v meta body is seen fits = version_keeps v meta [] (subst (λ (k : Kind). IsTrue (is_read k)) (sym is) refl) (own_head a.kind is a.name.key) seen fits
    found_keeps (aim.Copy new headers) v meta body is seen fits =
        draws_keeps every s q a at rests block new (wish.Content (record { body = body; headers = unwrap_or headers meta.headers })) is.1 (subst (λ (k : Kind). IsTrue (is_source k)) (sym is.0) refl) fits sound

    -- what a read does with the blocks that are left
    gathers_keeps : (aim : Aim) (v : Version) (meta : Meta) (left : List BlockRef) (body : List ℕ) → IsAimOf a aim → HasSeen H s.draws s.history q a aim v → IsInBlocks s.draws v meta → AllByRecursion HasHash left →
        FitIn H s.world (takes s q a [] (gathers q block aim v meta left body)).moves → IsSound H (takes s q a [] (gathers q block aim v meta left body)).state
    gathers_keeps aim v meta [] body is seen long hashes fits = found_keeps aim v meta body is seen fits
    gathers_keeps aim v meta (b ∷ left) body is seen long hashes fits = fetches_keeps every s q a at rests block v meta aim left body b hashes.0 (is, seen, long, hashes.1) fits sound

    never_finished : (id n : ℕ) (x : Answer) → record_of q (Superseded id) ≡ Finished n x → IsEndOf H s n x
    never_finished id n x e = cc

    -- nor does a streamed upload that was given up
    aborted_never : (n : ℕ) (x : Answer) → record_of q Aborted ≡ Finished n x → IsEndOf H s n x
    aborted_never n x e = cc

    -- a read whose version was deleted
    superseded_keeps : (id : ℕ) → FitIn H s.world (finishes s q a (Superseded id)).moves → IsSound H (finishes s q a (Superseded id)).state
    superseded_keeps id fits = finishes_keeps every s q a at rests (Superseded id) fits (never_finished id) sound

    -- what a read does with what its version's row says
    opened_keeps : (aim : Aim) (v : Version) (meta : Meta) (named : Named) → a.flow ≡ Some (flow_of q block (Opening v meta aim)) → IsAimOf a aim → HasSeen H s.draws s.history q a aim v → IsInBlocks s.draws v meta → NamedHave named →
        FitIn H s.world (takes s q a [] (opened q block aim v meta named)).moves → IsSound H (takes s q a [] (opened q block aim v meta named)).state
    opened_keeps aim v meta unnamed flow_is is seen long h fits = waits_keeps every s q a at rests block (Opening v meta aim) flow_is sound
    opened_keeps aim v meta (whole blocks) flow_is is seen long h fits = gathers_keeps aim v meta blocks [] is seen long h fits
    opened_keeps aim v meta deleted flow_is is seen long h fits = superseded_keeps v.id fits

    -- an object in blocks
    reads_on_keeps : (aim : Aim) (v : Version) (meta : Meta) → IsAimOf a aim → HasSeen H s.draws s.history q a aim v → IsInBlocks s.draws v meta →
        FitIn H s.world (takes s q a [] (reads_on q block aim v meta)).moves → IsSound H (takes s q a [] (reads_on q block aim v meta)).state
    reads_on_keeps aim.Get v meta is seen long fits = opens_keeps every s q a at rests block v meta aim.Get (is, seen, long) fits sound
    reads_on_keeps aim.Head v meta is seen long fits = version_keeps v meta [] (subst (λ (k : Kind). IsTrue (is_read k)) (sym is) refl) (own_head a.kind is a.name.key) seen fits
    reads_on_keeps (aim.Copy new headers) v meta is seen long fits = opens_keeps every s q a at rests block v meta (aim.Copy new headers) (is, seen, long) fits sound

    module _ (name : Name) (value : Option AnyRow) (h : HasRead s.asked s.history s.world.reads q value) (seen : Contains s.saw (record { request = q; end = Answered value })) where
      -- a get or head asked for the row of its own object
      own_row : name ≡ a.name → AsksRow name h.question → AsksRow a.name h.question
      own_row e asks = subst (λ (m : Name). AsksRow m h.question) e asks

      -- a read whose object's row says none
      none_owes : (aim : Aim) → a.flow ≡ Some (flow_of q block (Looking name aim)) → IsAimOf a aim → LooksAt a aim name → said_of value ≡ none → IsEndOf H s q answer.None
      none_owes aim.Get flow_is is looks e =
          read_end every s q a at rests answer.None (subst (λ (k : Kind). IsTrue (is_read k)) (sym is) refl)
          (none_end every s q sound value h a (flow_of q block (Looking name aim.Get)) at flow_is (own_row looks) (own_get a.kind is a.name.key) e)
      none_owes aim.Head flow_is is looks e =
          read_end every s q a at rests answer.None (subst (λ (k : Kind). IsTrue (is_read k)) (sym is) refl)
          (none_end every s q sound value h a (flow_of q block (Looking name aim.Head)) at flow_is (own_row looks) (own_head a.kind is a.name.key) e)
      none_owes (aim.Copy new headers) flow_is is looks e = nothing_end every s q a at rests sound (subst (λ (k : Kind). IsTrue (is_write k)) (sym is.0) refl)

      -- a read whose object's row says that the object is deleted
      marked_owes : (aim : Aim) (v : Version) → a.flow ≡ Some (flow_of q block (Looking name aim)) → IsAimOf a aim → LooksAt a aim name → said_of value ≡ marked v → IsEndOf H s q answer.None
      marked_owes aim.Get v flow_is is looks e =
          read_end every s q a at rests answer.None (subst (λ (k : Kind). IsTrue (is_read k)) (sym is) refl)
          (marked_end every s q sound value h a (flow_of q block (Looking name aim.Get)) at flow_is (own_row looks) (own_get a.kind is a.name.key) v e seen)
      marked_owes aim.Head v flow_is is looks e =
          read_end every s q a at rests answer.None (subst (λ (k : Kind). IsTrue (is_read k)) (sym is) refl)
          (marked_end every s q sound value h a (flow_of q block (Looking name aim.Head)) at flow_is (own_row looks) (own_head a.kind is a.name.key) v e seen)
      marked_owes (aim.Copy new headers) v flow_is is looks e = nothing_end every s q a at rests sound (subst (λ (k : Kind). IsTrue (is_write k)) (sym is.0) refl)

      -- a read whose object's row says this version in its row
      inline_seen : (aim : Aim) (v : Version) (meta : Meta) (body : List ℕ) → a.flow ≡ Some (flow_of q block (Looking name aim)) → LooksAt a aim name → said_of value ≡ inline v meta body → HasSeen H s.draws s.history q a aim v
      inline_seen aim.Get v meta body flow_is looks e = inline_found every s q sound value h a (flow_of q block (Looking name aim.Get)) at flow_is (own_row looks) v meta body e
      inline_seen aim.Head v meta body flow_is looks e = inline_found every s q sound value h a (flow_of q block (Looking name aim.Head)) at flow_is (own_row looks) v meta body e
      inline_seen (aim.Copy new headers) v meta body flow_is looks e = tt

      -- or in blocks
      blocks_seen : (aim : Aim) (v : Version) (meta : Meta) (first : List ℕ) → a.flow ≡ Some (flow_of q block (Looking name aim)) → LooksAt a aim name → said_of value ≡ in_blocks v meta first → HasSeen H s.draws s.history q a aim v
      blocks_seen aim.Get v meta first flow_is looks e = blocks_found every s q sound value h a (flow_of q block (Looking name aim.Get)) at flow_is (own_row looks) v meta first e
      blocks_seen aim.Head v meta first flow_is looks e = blocks_found every s q sound value h a (flow_of q block (Looking name aim.Head)) at flow_is (own_row looks) v meta first e
      blocks_seen (aim.Copy new headers) v meta first flow_is looks e = tt

      -- what a read does with what its object's row says
      looked_keeps : (aim : Aim) (said : Said) → a.flow ≡ Some (flow_of q block (Looking name aim)) → IsStage H s.draws s.history q a (Looking name aim) → said_of value ≡ said →
          FitIn H s.world (takes s q a [] (looked q block aim said)).moves → IsSound H (takes s q a [] (looked q block aim said)).state
      looked_keeps aim none flow_is stage e fits =
          finishes_keeps every s q a at rests Nothing fits (λ n x is. one_end every s q a at rests answer.None x n (none_owes aim flow_is stage.0 stage.1 e) is) sound
      looked_keeps aim (marked v) flow_is stage e fits =
          finishes_keeps every s q a at rests Nothing fits (λ n x is. one_end every s q a at rests answer.None x n (marked_owes aim v flow_is stage.0 stage.1 e) is) sound
      looked_keeps aim (inline v meta body) flow_is stage e fits = found_keeps aim v meta body stage.0 (inline_seen aim v meta body flow_is stage.1 e) fits
      looked_keeps aim (in_blocks v meta first) flow_is stage e fits = reads_on_keeps aim v meta stage.0 (blocks_seen aim v meta first flow_is stage.1 e) (subst (SaysWritten s.draws) e (read_written every s q sound value h)) fits

  module _ (every : EveryWorld H) (s : State) (q : ℕ) (a : Asked) (at : numbered s.asked q ≡ Some a) (rests : Rests s q) (block : ℕ) (sound : IsSound H s) where
    -- a list that has shown so much goes on past it, or is done
    lists_keeps : (bucket prefix : List ℕ) (rows : List ObjectRow) (reach : Option (List ℕ)) → IsStage H s.draws s.history q a (Listing bucket prefix rows) → HasShown H s.draws s.history (sights s) q (record { bucket = bucket; key = prefix }) rows reach →
        FitIn H s.world (takes s q a [] (lists q block bucket prefix rows reach)).moves → IsSound H (takes s q a [] (lists q block bucket prefix rows reach)).state
    lists_keeps bucket prefix rows None stage shown fits =
        finishes_keeps every s q a at rests (Listed rows) fits (λ n x is. one_end every s q a at rests (answer.Listed (versions_of (entries rows))) x n
        (read_end every s q a at rests (answer.Listed (versions_of (entries rows))) (subst (λ (k : Kind). IsTrue (is_read k)) (sym stage.0) refl)
        (listed_end s q a at sound stage.0 rows (subst (λ (m : Name). HasShown H s.draws s.history (sights s) q m rows None) (sym stage.1) shown))) is) sound
    lists_keeps bucket prefix rows (Some after) stage shown fits = scans_keeps every s q a at rests block bucket prefix rows after stage shown fits sound

-- ---- a phase ended

module _ {H : Deed → Type 0} where
  module _ (every : EveryWorld H) (s : State) (q : ℕ) (a : Asked) (at : numbered s.asked q ≡ Some a) (rests : Rests s q) (block : ℕ) (sound : IsSound H s) where
    abbrev pub Keeps : Stage → PhaseEnd AnyRow → Type 0
    Keeps stage end =
        a.flow ≡ Some (flow_of q block stage) → IsStage H s.draws s.history q a stage → FitIn H s.world (follows s q a end (Some (flow_of q block stage))).moves →
        IsEnd H s.asked s.draws s.history (sights s) s.world.kept s.world.reads q end → IsSound H (follows s q a end (Some (flow_of q block stage))).state

    abbrev pub seeing : PhaseEnd AnyRow → State
    seeing end = record s { saw = record { request = q; end = end } ∷ s.saw }

    abbrev pub HasEnded : PhaseEnd AnyRow → Type 0
    HasEnded end = IsEnd H s.asked s.draws s.history (sights s) s.world.kept s.world.reads q end

    seen_sound : (end : PhaseEnd AnyRow) → HasEnded end → IsSound H (seeing end)
    seen_sound end h = saw_sound s (record { request = q; end = end }) (gave_drawn every s q sound end h) sound

    goes_waiting : (stage : Stage) (end : PhaseEnd AnyRow) → a.flow ≡ Some (flow_of q block stage) → HasEnded end → IsSound H (record (seeing end) { asked = set_flow s q a (Some (flow_of q block stage)) })
    goes_waiting stage end flow_is h = waits_keeps every (seeing end) q a at rests block stage flow_is (seen_sound end h)

    -- what a flow's step keeps, an equal one keeps
    abbrev pub StepKeeps : State → List Draw → FlowStep → Type 0
    StepKeeps now ds st = FitIn H now.world (takes now q a ds st).moves → IsSound H (takes now q a ds st).state

    content_keeps : (name : Name) (c : Content) (value : Option AnyRow) → name ≡ a.name → IsWishOf a.kind (wish.Content c) → Keeps (Drawing name (wish.Content c)) (Answered value)
    content_keeps name c value name_is fits_kind flow_is stage fits end =
        let now : State = seeing (Answered value) in
        let time : ℕ = clock s.world a.node in
        let v : Version = drawn q value time in
        let d : Draw = record { request = q; name = name; version = v; wish = wish.Content c; block = block; moment = length s.history } in
        (elim (is_long c.body) as (λ b. StepKeeps now (d ∷ []) (elim b as (λ b. FlowStep) [ true ↦ more q block (Uploading name v c 0) (stores (uploading name v)) | false ↦ completes q block name v (wish.Content c) ])) [
          | true ↦ λ fits. uploading_keeps every now q a at rests block name c value time name_is fits_kind fits (seen_sound (Answered value) end)
          | false ↦ λ fits. writes_keeps every now q a at rests block name (wish.Content c) value time (Some (meta_of c)) name_is fits_kind tt fits (seen_sound (Answered value) end)
        ]) fits

    drawing_keeps : (name : Name) (w : Wish) (value : Option AnyRow) → Keeps (Drawing name w) (Answered value)
    drawing_keeps name wish.Marker value flow_is stage fits end =
        writes_keeps every (seeing (Answered value)) q a at rests block name wish.Marker value (clock s.world a.node) None stage.0 stage.1 tt fits (seen_sound (Answered value) end)
    drawing_keeps name (wish.Stream coming) value flow_is stage fits end =
        announcing_keeps every (seeing (Answered value)) q a at rests block name coming value (clock s.world a.node) stage.0 stage.1 fits (seen_sound (Answered value) end)
    drawing_keeps name (wish.Content c) value flow_is stage fits end = content_keeps name c value stage.0 stage.1 flow_is stage fits end

    -- the next block is stored, or the complete version
    uploads_keeps : (name : Name) (version : Version) (c : Content) (stored : ℕ) → Keeps (Uploading name version c stored) Kept
    uploads_keeps name version c stored flow_is stage fits end =
        let now : State = seeing Kept in
        let d : Draw = record { request = q; name = name; version = version; wish = wish.Content c; block = stage.1.block; moment = stage.1.moment } in
        let id_is : version.id ≡ q = (sound.drawn d stage.1.drawn).id_is in
        (elim (has_piece block c.body stored) as (λ b. StepKeeps now [] (elim b as (λ b. FlowStep) [ true ↦ more q block (Uploading name version c (suc stored)) (Store (block_rows version.id block c.body stored)) | false ↦ completes q block name version (wish.Content c) ])) [
          | true ↦ λ fits.
              block_keeps every now q a at rests block name version c stored (subst (λ (i : ℕ). i < 2 ^ 64) (sym id_is) (number_fits s q a (effect now (phases q (Store (block_rows version.id block c.body stored)))) at sound fits.0.0)) stage fits (seen_sound Kept end)
          | false ↦ λ fits. completes_keeps every now q a at rests block name version c stored stage fits (seen_sound Kept end)
        ]) fits

    -- a request whose phase ended so
    pub stage_keeps : (stage : Stage) (end : PhaseEnd AnyRow) → Keeps stage end
    stage_keeps (Drawing name w) (Answered value) flow_is stage fits end = drawing_keeps name w value flow_is stage fits end
    stage_keeps (Drawing name w) (Window rows more) flow_is stage fits end = goes_waiting (Drawing name w) (Window rows more) flow_is end
    stage_keeps (Drawing name w) Kept flow_is stage fits end = goes_waiting (Drawing name w) Kept flow_is end
    stage_keeps (Drawing name w) (Block bytes) flow_is stage fits end = goes_waiting (Drawing name w) (Block bytes) flow_is end
    stage_keeps (Uploading name version content stored) (Answered value) flow_is stage fits end = goes_waiting (Uploading name version content stored) (Answered value) flow_is end
    stage_keeps (Uploading name version content stored) (Window rows more) flow_is stage fits end = goes_waiting (Uploading name version content stored) (Window rows more) flow_is end
    stage_keeps (Uploading name version content stored) Kept flow_is stage fits end = uploads_keeps name version content stored flow_is stage fits end
    stage_keeps (Uploading name version content stored) (Block bytes) flow_is stage fits end = goes_waiting (Uploading name version content stored) (Block bytes) flow_is end
    stage_keeps (Receiving name version coming received) (Answered value) flow_is stage fits end = goes_waiting (Receiving name version coming received) (Answered value) flow_is end
    stage_keeps (Receiving name version coming received) (Window rows more) flow_is stage fits end = goes_waiting (Receiving name version coming received) (Window rows more) flow_is end
    stage_keeps (Receiving name version coming received) Kept flow_is stage fits end = waits_for every (seeing Kept) q a at rests block (Needing name version coming received) stage (seen_sound Kept end)
    stage_keeps (Receiving name version coming received) (Block bytes) flow_is stage fits end = goes_waiting (Receiving name version coming received) (Block bytes) flow_is end
    stage_keeps (Needing name version coming received) (Answered value) flow_is stage fits end = goes_waiting (Needing name version coming received) (Answered value) flow_is end
    stage_keeps (Needing name version coming received) (Window rows more) flow_is stage fits end = goes_waiting (Needing name version coming received) (Window rows more) flow_is end
    stage_keeps (Needing name version coming received) Kept flow_is stage fits end = goes_waiting (Needing name version coming received) Kept flow_is end
    stage_keeps (Needing name version coming received) (Block bytes) flow_is stage fits end = goes_waiting (Needing name version coming received) (Block bytes) flow_is end
    stage_keeps (Aborting version) (Answered value) flow_is stage fits end = goes_waiting (Aborting version) (Answered value) flow_is end
    stage_keeps (Aborting version) (Window rows more) flow_is stage fits end = goes_waiting (Aborting version) (Window rows more) flow_is end
    stage_keeps (Aborting version) Kept flow_is stage fits end = let now : State = seeing Kept in finishes_keeps every now q a at rests Aborted fits (aborted_never every now q a at rests block (seen_sound Kept end)) (seen_sound Kept end)
    stage_keeps (Aborting version) (Block bytes) flow_is stage fits end = goes_waiting (Aborting version) (Block bytes) flow_is end
    stage_keeps (Completing version meta) (Answered value) flow_is stage fits end = goes_waiting (Completing version meta) (Answered value) flow_is end
    stage_keeps (Completing version meta) (Window rows more) flow_is stage fits end = goes_waiting (Completing version meta) (Window rows more) flow_is end
    stage_keeps (Completing version meta) Kept flow_is stage fits end =
        let now : State = seeing Kept in
        finishes_keeps every now q a at rests (Stored version meta) fits (λ n x is. one_end every now q a at rests (answer.Version version) x n
        (stored_end every now q a at rests (flow_of q block (Completing version meta)) version meta flow_is refl (seen_sound Kept end) stage end) is) (seen_sound Kept end)
    stage_keeps (Completing version meta) (Block bytes) flow_is stage fits end = goes_waiting (Completing version meta) (Block bytes) flow_is end
    stage_keeps (Looking name aim) (Answered value) flow_is stage fits end =
        looked_keeps every (seeing (Answered value)) q a at rests block (seen_sound (Answered value) end) name value end (0, omega arith, refl) aim (said_of value) flow_is stage refl fits
    stage_keeps (Looking name aim) (Window rows more) flow_is stage fits end = goes_waiting (Looking name aim) (Window rows more) flow_is end
    stage_keeps (Looking name aim) Kept flow_is stage fits end = goes_waiting (Looking name aim) Kept flow_is end
    stage_keeps (Looking name aim) (Block bytes) flow_is stage fits end = goes_waiting (Looking name aim) (Block bytes) flow_is end
    stage_keeps (Opening version meta aim) (Answered value) flow_is stage fits end =
        let now : State = seeing (Answered value) in
        opened_keeps every now q a at rests block (seen_sound (Answered value) end) aim version meta (named_by value meta.size) flow_is stage.0 stage.1 stage.2
        (value_named s.draws value meta.size (given_good every now q (seen_sound (Answered value) end) value end)) fits
    stage_keeps (Opening version meta aim) (Window rows more) flow_is stage fits end = goes_waiting (Opening version meta aim) (Window rows more) flow_is end
    stage_keeps (Opening version meta aim) Kept flow_is stage fits end = goes_waiting (Opening version meta aim) Kept flow_is end
    stage_keeps (Opening version meta aim) (Block bytes) flow_is stage fits end = goes_waiting (Opening version meta aim) (Block bytes) flow_is end
    stage_keeps (Gathering version meta aim left body) (Answered value) flow_is stage fits end = goes_waiting (Gathering version meta aim left body) (Answered value) flow_is end
    stage_keeps (Gathering version meta aim left body) (Window rows more) flow_is stage fits end = goes_waiting (Gathering version meta aim left body) (Window rows more) flow_is end
    stage_keeps (Gathering version meta aim left body) Kept flow_is stage fits end = goes_waiting (Gathering version meta aim left body) Kept flow_is end
    stage_keeps (Gathering version meta aim left body) (Block bytes) flow_is stage fits end =
        gathers_keeps every (seeing (Block bytes)) q a at rests block (seen_sound (Block bytes) end) aim version meta left (body ++ bytes) stage.0 stage.1 stage.2 stage.3 fits
    stage_keeps (Listing bucket prefix rows) (Answered value) flow_is stage fits end = goes_waiting (Listing bucket prefix rows) (Answered value) flow_is end
    stage_keeps (Listing bucket prefix rows) (Window others reach) flow_is stage fits end =
        let now : State = seeing (Window others reach) in
        let w = end.is_scanning.waits in
        let some_is : Some w.one ≡ Some a = sym w.is_there ∙ at in
        let one_is : w.one ≡ a = cc in
        let flows : Some w.flow ≡ Some (flow_of q block (Listing bucket prefix rows)) = sym w.flow_is ∙ (ap (λ (b : Asked). b.flow) one_is ∙ flow_is) in
        let same : w.flow ≡ flow_of q block (Listing bucket prefix rows) = cc in
        let scans : ScansFor H s.draws s.history (sights s) q (Listing bucket prefix rows) end.scan = subst (λ (f : Flow). ScansFor H s.draws s.history (sights s) q f.stage end.scan) same end.is_scanning.scans in
        let own : Name = record { bucket = bucket; key = prefix } in
        let shown : HasShown H now.draws now.history (sights now) q own (rows ++ shown_rows others) reach =
        window_shown every now q (seen_sound (Window others reach) end) bucket prefix rows others reach end.scan end.is_there scans.0 scans.1 end.is_scanning.has end.is_scanning.proper
        (shown_seen H s.draws s.history (sights s) (sights now) (sees_more s (record { request = q; end = Window others reach })) q own rows (Some end.scan.after) scans.2) (0, omega arith, refl) in
        lists_keeps every now q a at rests block (seen_sound (Window others reach) end) bucket prefix (rows ++ shown_rows others) reach stage shown fits
    stage_keeps (Listing bucket prefix rows) Kept flow_is stage fits end = goes_waiting (Listing bucket prefix rows) Kept flow_is end
    stage_keeps (Listing bucket prefix rows) (Block bytes) flow_is stage fits end = goes_waiting (Listing bucket prefix rows) (Block bytes) flow_is end
