-- What a request does whose phase ended keeps the invariant, whatever it waits for.
use Rattle.history_model.specs.declared.record.Kind.TheVariants as kind
use Rattle.history_model.specs.declared.record.Record.{Record}
use Rattle.history_model.specs.Fresh.{Below, IsAcknowledged}
use Rattle.blake2_hash.specs.Hash.{digest_of}
use Rattle.flow_model.specs.declared.flow.FlowStep.TheVariants.{More, Need, Wait, End}
use Rattle.std.specs.Prelude.{◌≡◌, ◌≤◌, ◌<◌, ◌*◌, ◌^◌, nat_lt, ℕ, zero, suc, true, false, Option, Some, None, List, [], ◌∷◌, ◌++◌, length, refl, ⊤, ◌+◌, ◌⊎◌}
use Rattle.std.specs.Option.{unwrap_or}
use Rattle.std.proofs.Common.{ap, sym, subst, ◌∙◌, le_refl, arith, inl, inr}
use Rattle.std.proofs.lemmas.Bool.{ltb-true, ltb-false}
use Rattle.std.proofs.lemmas.Nat.{mul-le}
use Rattle.std.specs.List.{AllByRecursion, Contains}
use Rattle.crdt_rows.specs.declared.version.Version.{Version}
use Rattle.crdt_rows.specs.declared.body.Meta.{Meta}
use Rattle.crdt_rows.specs.declared.version_row.BlockRef.{BlockRef}
use Rattle.crdt_rows.specs.declared.object_row.ObjectRow.{ObjectRow}
use Rattle.crdt_rows.specs.declared.any_row.AnyRow.{AnyRow}
use Rattle.object_schema.specs.Schema.{words}
use Rattle.wire_messages.specs.declared.phase.Phase.TheVariants.{Store}
use Rattle.wire_messages.specs.declared.phase.PhaseEnd.{PhaseEnd}
use Rattle.wire_messages.specs.declared.phase.PhaseEnd.TheVariants.{Row as Answered, Window, Kept, Block}
use Rattle.cluster_machine.specs.World.{numbered}
use Rattle.cluster_machine.specs.Fits.{Fits}
use Rattle.cluster_machine.specs.Step.{applied}
use Rattle.flow_model.specs.declared.flow.Name.{Name}
use Rattle.flow_model.specs.declared.flow.Content.{Content}
use Rattle.flow_model.specs.declared.flow.Wish.{Wish}
use Rattle.flow_model.specs.declared.flow.Wish.TheVariants as wish
use Rattle.flow_model.specs.declared.flow.Aim.{Aim}
use Rattle.flow_model.specs.declared.flow.Aim.TheVariants as aim
use Rattle.flow_model.specs.declared.flow.Stage.{Stage}
use Rattle.flow_model.specs.declared.flow.Stage.TheVariants.{Drawing, Uploading, Receiving, Needing, Aborting, Completing, Looking, Opening, Gathering, Listing}
use Rattle.flow_model.specs.declared.flow.Flow.{Flow}
use Rattle.flow_model.specs.declared.flow.FlowStep.{FlowStep}
use Rattle.flow_model.specs.declared.flow.FlowEnd.TheVariants.{Stored, Found, Nothing, Listed, Superseded, Aborted}
use Rattle.flow_model.specs.Blocks.{has_piece, is_long}
use Rattle.flow_model.specs.Rows.{meta_of, uploading, block_rows, version_row, reference_row}
use Rattle.flow_model.specs.Says.{Said, none, marked, inline, in_blocks, said_of, Named, whole, deleted, named_by, shown_rows}
use Rattle.flow_model.specs.Next.{drawn, stores, more, found, looked, reads_on, gathers, opened, lists, completes, writes, uploads, goes_on as flow_goes_on}
use Rattle.store_model.specs.Run.{Moving, State, Asked, Draw, effect, phases, set_flow, takes, draws_of}
use Rattle.md5.specs.Md5.{md5}
use Rattle.std.proofs.lemmas.List.{append-nil, append_assoc}
use Rattle.wire_messages.specs.declared.phase.Phase.{Phase}
use Rattle.wire_messages.specs.declared.phase.Phase.TheVariants.{Block as Fetch}
use Rattle.cluster_machine.specs.declared.step.Step.TheVariants as step
use Rattle.history_model.specs.declared.record.Cause.TheVariants.{Superseded as WasSuperseded}
use Rattle.history_model.specs.declared.record.Record.TheVariants.{Ended}
use Rattle.flow_model.specs.declared.flow.FlowEnd.{FlowEnd}
use Rattle.flow_model.specs.Blocks.{piece}
use Rattle.flow_model.specs.Rows.{complete}
use Rattle.flow_model.specs.Flow.{asks_for, asks_past}
use Rattle.flow_model.specs.Next.{opens}
use Rattle.flow_laws.specs.Pieces.{pieces, named_piece, named_pieces}
use Rattle.flow_laws.proofs.Cut.{all as all_pieces}
use Rattle.store_model.specs.Answers.{record_of, entries, lines_of, pair, found_line, word_of, lines_of_end}
use Rattle.store_model.specs.Fresh.{NoClash}
use Rattle.store_model.specs.Run.{Outcome, doing, plainly}
use Rattle.store_model.specs.Written.{IsWritten}
use Rattle.store_laws.proofs.Placing.{piece_has_hash}
use Rattle.store_laws.proofs.Rows.{SaysWritten, FoundIn}
use Rattle.store_laws.proofs.Sound.{IsAimOf, HasSeen, WasAcknowledged, began}
use Rattle.store_laws.proofs.Covering.{IsSaid}
use Rattle.store_laws.proofs.Records.{acknowledged_is, is_in}
use Rattle.store_laws.proofs.Values.{read_written}
use Rattle.store_laws.proofs.Acting.{number_fits}
use Rattle.store_anchors.specs.Copied.{Copying}
use Rattle.store_anchors.specs.Stored.{blocks_of}
use Rattle.store_anchors.specs.Whole.{SaysAllBytes}
use Rattle.store_anchors.proofs.Cited.{Cited}
use Rattle.store_anchors.proofs.Kept.{IsFound, AsksNames, Fetches, IsPassed, IsReplaced}
use Rattle.store_anchors.proofs.Laid.{blocks_old}
use Rattle.store_anchors.proofs.Lines.{Tells, tells_later, tells_none, tells_one, step_whole, nothing_whole, stored_whole, get_whole, head_whole}
use Rattle.store_anchors.proofs.Naming.{named}
use Rattle.store_anchors.proofs.Reading.{finds, piece_there}
use Rattle.store_anchors.proofs.Sources.{not_below, said_found}
use Rattle.store_anchors.proofs.Taking.{AreTaken, FollowsCopies, HasBegun, HasSource, IsFollowed, IsFollowedIn, IsOfSource, IsTakenIf, Knows, KnowsOn, followed_first, followed_set, followed_told}
use Rattle.cluster_machine.specs.declared.line.Line.TheVariants.{Done, Listed as Shows, Ended as HasEnded}
use Rattle.cluster_machine.specs.declared.line.EndWord.TheVariants.{Superseded as EndedSo}
use Rattle.flow_model.specs.Next.{wanted}
use Rattle.store_model.specs.Written.{IsOneWrite}
use Rattle.store_laws.proofs.Once.{one_name}
use Rattle.store_laws.proofs.Rows.{IsKnown}
use Rattle.store_anchors.proofs.Fated.{IsFatedIn}
use Rattle.store_anchors.proofs.Laid.{HasReceived, AreStored, Holds}
use Rattle.store_anchors.proofs.Told.{AreApart, one_known}
use Rattle.store_anchors.proofs.Going.{GoesLaid, announcing_laid, needs_laid}
use Rattle.store_laws.proofs.Elements.{there, only}
use Rattle.store_laws.proofs.Ends.{IsEnd, HasRead}
use Rattle.store_laws.proofs.Going.{flow_of}
use Rattle.store_laws.proofs.Grown.{Rests}
use Rattle.store_laws.proofs.Hashes.{HasHash}
use Rattle.store_laws.proofs.Sound.{IsStage, IsSound, sights}
use Rattle.store_anchors.proofs.Kept.{Past, HasPiece, HasAll, IsLong}
use Rattle.store_anchors.proofs.Laid.{HasUploaded, Stores, past, IsLaidIn}
use Rattle.store_anchors.proofs.Steps.{HasPut, HasGot}
use Rattle.store_anchors.proofs.Going.{asks_laid, opens_laid, scans_laid, fetches_laid, uploading_laid, completes_laid, block_laid, waits_laid, finishes_laid}
use Rattle.store_laws.proofs.Hashing.{FitIn}
use Rattle.store_laws.proofs.Deeds.{Deed, IsSafe}

-- what an outcome of this state comes to after these steps: the invariant holds, its lines tell of whole versions, and copies took what was written
abbrev pub OutcomeLaid : (Deed → Type 0) → List Moving → State → Outcome → Type 0
OutcomeLaid H ms s o = IsLaidIn H (ms ++ o.moves) o.state × Tells (past (ms ++ o.moves) o.state.world o.state.draws) o.lines × FollowsCopies (IsSafe H) ms s o

-- this is what was written as the version: what is stored beside the bytes, and these, if they aren't in blocks or no two of the blocks have one digest
pub record IsBodyOf (blocks : List (List ℕ)) (draws : List Draw) (v : Version) (meta : Meta) (body : List ℕ) : Type 0 where
  pub content : Content
  pub was_written : IsWritten draws v content
  pub meta_is : meta ≡ meta_of content
  pub body_is : (is_long content.body ≡ true → NoClash blocks) → body ≡ content.body

-- request p ended superseded with this identifier: the version was overwritten, and it is one of the source where the request is a copy
pub record EndsRightly (C : Type 0) (moves : List Moving) (s : State) (p id : ℕ) : Type 0 where
  pub replaced : IsReplaced (past moves s.world s.draws) s.asked p id
  pub source : (copy : Copying) → copy.request ≡ p → IsFollowedIn C moves s copy → IsOfSource s.draws copy id

-- a request ends otherwise than superseded
abbrev pub IsOtherwise : FlowEnd → Type 0
IsOtherwise (Superseded id) = ⊥
IsOtherwise end = ⊤

otherwise_recorded : (q : ℕ) (end : FlowEnd) → IsOtherwise end → (p id : ℕ) → record_of q end ≡ Ended p (WasSuperseded id) → ⊥
otherwise_recorded q (Stored v meta) other p id e = cc
otherwise_recorded q (Found v meta body) other p id e = cc
otherwise_recorded q Nothing other p id e = cc
otherwise_recorded q (Listed rows) other p id e = cc
otherwise_recorded q (Superseded k) other p id e = other
otherwise_recorded q Aborted other p id e = cc

says_all : (blocks : List (List ℕ)) (draws : List Draw) (v : Version) (meta : Meta) (body : List ℕ) → IsBodyOf blocks draws v meta body → NoClash blocks → SaysAllBytes draws v (Some (length body)) (Some (md5 body))
says_all blocks draws v meta body h clash =
    let same : body ≡ h.content.body = h.body_is (λ long. clash) in
    record { content = h.content; was_written = h.was_written; size_is = ap (λ (b : List ℕ). Some (length b)) same; digest_is = ap (λ (b : List ℕ). Some (md5 b)) same }

-- what was acknowledged before a place of a history
acknowledged_was : (h : List Record) (i : ℕ) (name : Name) (w : Version) → IsAcknowledged h i name.bucket name.key w → WasAcknowledged h name w
acknowledged_was h i name w a = record {
  request = a.request;
  node = a.began.0;
  kind = a.kind;
  writes = a.writes;
  has_begun = is_in h a.place _ a.began.1;
  has_finished = is_in h a.end _ (acknowledged_is h a.place a.request a.end w a.finished).0;
}

-- one block more
pieces_more : (block : ℕ) (body : List ℕ) (i n : ℕ) → pieces block body i (suc n) ≡ pieces block body i n ++ piece block body (i + n)
pieces_more block body i zero = let same : i + zero ≡ i = omega arith in rw same (append-nil (piece block body i))
pieces_more block body i (suc n) =
    let same : i + suc n ≡ suc i + n = omega arith in
    rw same (ap (piece block body i ++◌) (pieces_more block body (suc i) n) ∙ sym (append_assoc (piece block body i) (pieces block body (suc i) n) (piece block body (suc i + n))))

-- equal lists have equal heads and tails
parts_same : {A : Type 0} (x y : A) (xs ys : List A) → x ∷ xs ≡ y ∷ ys → (x ≡ y) × (xs ≡ ys)
parts_same x y xs ys e = (cc, cc)

-- no list is both empty and not
none_more : {A : Type 0} (x : A) (xs : List A) → [] ≡ x ∷ xs → ⊥
none_more x xs e = cc

module _ {H : Deed → Type 0} where
  module _ (cited : Cited H) (moves : List Moving) (s : State) (q : ℕ) (a : Asked) (at : numbered s.asked q ≡ Some a) (rests : Rests s q) (block : ℕ) (laid : IsLaidIn H moves s) where
    -- what there is
    abbrev pub here : Past
    here = past moves s.world s.draws

    -- what a flow's step keeps
    abbrev pub StepLaid : List Draw → FlowStep → Type 0
    StepLaid ds st = FitIn H s.world (takes s q a ds st).moves → OutcomeLaid H moves s (takes s q a ds st)

    -- the request is this copy
    abbrev pub IsIt : Copying → Type 0
    IsIt copy = (copy.request ≡ q) × IsFollowedIn (IsSafe H) moves s copy

    -- what the request knows where it is a copy
    know : (stage : Stage) → a.flow ≡ Some (flow_of q block stage) → (copy : Copying) → IsIt copy → Knows (IsSafe H) (blocks_of moves) s.draws copy stage
    know stage flow_is copy it = it.1.knows a (flow_of q block stage) (ap (numbered s.asked) it.0 ∙ at) flow_is

    -- a copy follows where the request goes
    follows : (ds : List Draw) (flow : Option Flow) (rest : List Moving) → AllByRecursion (λ (d : Draw). d.request ≡ q) ds → ((copy : Copying) → IsIt copy → KnowsOn (blocks_of moves) s.draws s.asked s.history q a at (IsSafe H) ds flow copy) →
        (copy : Copying) → IsFollowedIn (IsSafe H) moves s copy → IsFollowed (IsSafe H) (blocks_of (moves ++ rest)) (ds ++ s.draws) (set_flow s q a flow) s.history copy
    follows ds flow rest own knows copy h =
        followed_first moves rest (ds ++ s.draws) (set_flow s q a flow) s.history copy
        (followed_set (blocks_of moves) s.draws s.asked s.history q a at ds flow own (λ copy request it. knows copy (request, it)) copy h)

    -- the request draws and goes on
    pub draws_on : (ds : List Draw) (stage : Stage) (phase : Phase AnyRow) → GoesLaid cited moves s q a at rests block laid ds stage phase → AllByRecursion (λ (d : Draw). d.request ≡ q) ds →
        ((copy : Copying) → IsIt copy → Knows (IsSafe H) (blocks_of moves) (ds ++ s.draws) copy stage × AreTaken (IsSafe H) (blocks_of moves) copy (ds ++ s.draws)) → StepLaid ds (More (flow_of q block stage) phase)
    draws_on ds stage phase h own knows fits = (
      h fits,
      step_whole (past (moves ++ phases q phase ∷ []) (doing s (phases q phase)).world (ds ++ s.draws)) s (phases q phase),
      follows ds (Some (flow_of q block stage)) (phases q phase ∷ []) own (λ copy it. (
        (λ f e. (let same : flow_of q block stage ≡ f = cc in subst (λ (g : Flow). Knows (IsSafe H) (blocks_of moves) (ds ++ s.draws) copy g.stage) same (knows copy it).0)),
        (knows copy it).1,
      )),
    )

    pub goes : (stage : Stage) (phase : Phase AnyRow) → GoesLaid cited moves s q a at rests block laid [] stage phase → ((copy : Copying) → IsIt copy → Knows (IsSafe H) (blocks_of moves) s.draws copy stage) → StepLaid [] (More (flow_of q block stage) phase)
    goes stage phase h knows = draws_on [] stage phase h tt (λ copy it. (knows copy it, it.1.taken))

    ends : (end : FlowEnd) → ((p id : ℕ) → record_of q end ≡ Ended p (WasSuperseded id) → EndsRightly (IsSafe H) moves s p id) → Tells here (lines_of_end q a.kind end) → StepLaid [] (End end)
    ends end passed tells fits =
        let m : Moving = plainly (step.Close q) in (
          finishes_laid cited moves s q a at rests block laid end (λ p id e. (passed p id e).replaced) fits,
          tells_later here (past (moves ++ m ∷ []) (doing s m).world s.draws) (λ d c. c) (blocks_old moves m) (lines_of_end q a.kind end) tells,
          λ copy h. followed_told (blocks_of (moves ++ m ∷ [])) s.draws (set_flow s q a None) s.history (record_of q end ∷ []) copy
              (λ id c. (passed copy.request id (only (record_of q end) (Ended copy.request (WasSuperseded id)) c)).source copy refl h)
              (follows [] None (m ∷ []) tt (λ copy it. ((λ f e. cc), it.1.taken)) copy h),
        )

    ends_otherwise : (end : FlowEnd) → IsOtherwise end → Tells here (lines_of_end q a.kind end) → StepLaid [] (End end)
    ends_otherwise end other tells = ends end (λ p id e. absurd (otherwise_recorded q end other p id e)) tells

    -- it needs its client
    needs : (stage : Stage) → Holds here q block stage → ((copy : Copying) → IsIt copy → Knows (IsSafe H) (blocks_of moves) s.draws copy stage) → (wanted : ℕ) → StepLaid [] (Need (flow_of q block stage) wanted)
    needs stage holds knows wanted fits = (
      needs_laid cited moves s q a at rests block laid stage holds,
      tells_none (past (moves ++ []) s.world s.draws),
      follows [] (Some (flow_of q block stage)) [] tt (λ copy it. (
        (λ f e. (let same : flow_of q block stage ≡ f = cc in subst (λ (g : Flow). Knows (IsSafe H) (blocks_of moves) s.draws copy g.stage) same (knows copy it))),
        it.1.taken,
      )),
    )

    -- of a stream whose phase ended, each block that came is stored
    all_stored : (name : Name) (v : Version) (received : List ℕ) → ((i : ℕ) → has_piece block received (suc i) ≡ true → HasPiece here v.id block received i) → (rows : List AnyRow) → ((r : AnyRow) → Contains rows r → Contains s.world.kept r) →
        ((i : ℕ) → has_piece block received i ≡ true → has_piece block received (suc i) ≡ false → (rows ≡ version_row v.id block received i ∷ reference_row v.id block received i ∷ []) × Contains here.blocks (piece block received i)) → AreStored here block v received
    all_stored name v received before rows are is i has =
        elim (has_piece block received (suc i)) as (λ b. has_piece block received (suc i) ≡ b → HasPiece here v.id block received i) [
          | true ↦ λ more. before i more
          | false ↦ λ last.
              let one : AnyRow = version_row v.id block received i in
              let other : AnyRow = reference_row v.id block received i in
              let stored = is i has last in
              record {
                names = are one (subst (λ (rs : List AnyRow). Contains rs one) (sym stored.0) (0, omega arith, refl));
                refers = are other (subst (λ (rs : List AnyRow). Contains rs other) (sym stored.0) (there one (other ∷ []) other (0, omega arith, refl)));
                bytes = stored.1;
              }
        ] refl

    waits : (stage : Stage) → a.flow ≡ Some (flow_of q block stage) → StepLaid [] (Wait (flow_of q block stage))
    waits stage flow_is fits = (
      waits_laid cited moves s q a at rests block laid stage flow_is,
      tells_none (past (moves ++ []) s.world s.draws),
      follows [] (Some (flow_of q block stage)) [] tt (λ copy it. ((λ f e. it.1.knows a f (ap (numbered s.asked) it.0 ∙ at) (flow_is ∙ e)), it.1.taken)),
    )

    -- the request found a version of its source where it is a copy
    abbrev pub FoundSource : Version → Aim → Type 0
    FoundSource v aim = (copy : Copying) → IsIt copy → HasSource (IsSafe H) s.draws copy v aim

    -- what a copy writes was written to its source
    takes_source : AreApart s.draws → (copy : Copying) (name : Name) (headers : Option (List (List ℕ × List ℕ))) (v : Version) (meta : Meta) (body : List ℕ) → IsBodyOf (blocks_of moves) s.draws v meta body → HasSource (IsSafe H) s.draws copy v (aim.Copy name headers) →
        IsTakenIf (IsSafe H) (blocks_of moves) s.draws copy (wish.Content (record { body = body; headers = unwrap_or headers meta.headers }))
    takes_source apart copy name headers v meta body h source =
        let f : FoundIn s.draws copy.source v = source.0 in
        let w : IsWritten s.draws v h.content = h.was_written in
        let one : IsOneWrite f.draw w.draw = apart f.draw w.draw f.drawn w.drawn (ap (λ (x : Version). x.id) (f.version ∙ sym w.version_is)) in
        let same : f.draw ≡ w.draw = one_known f.draw w.draw one (subst IsKnown (sym f.wish_is) tt) (subst IsKnown (sym w.wish_is) tt) in
        record {
          draw = f.draw;
          drawn = f.drawn;
          fresh = λ safe i w ack. subst (λ (u : Version). ¬ Below u w) (sym f.version) (source.2 safe w (acknowledged_was copy.history i copy.source w ack));
          bucket = f.bucket;
          key = f.key;
          was = h.content;
          was_wished = ap (λ (d : Draw). d.wish) same ∙ w.wish_is;
          content = record { body = body; headers = unwrap_or headers meta.headers };
          wish_is = refl;
          body_is = h.body_is;
          headers_are = ap (λ (m : Meta). unwrap_or headers m.headers) h.meta_is ∙ ap (λ (o : Option (List (List ℕ × List ℕ))). unwrap_or o h.content.headers) source.1;
        }

    found_laid : AreApart s.draws → (aim : Aim) (v : Version) (meta : Meta) (body : List ℕ) → IsAimOf a aim → FoundSource v aim → IsBodyOf (blocks_of moves) s.draws v meta body → StepLaid [] (found q block aim v meta body)
    found_laid apart aim.Get v meta body is source h = ends_otherwise (Found v meta body) tt (tells_one here (found_line q a.kind v meta body) (λ clash. get_whole s.draws a.kind v meta body is (says_all (blocks_of moves) s.draws v meta body h clash) q))
    found_laid apart aim.Head v meta body is source h = ends_otherwise (Found v meta []) tt (tells_one here (found_line q a.kind v meta []) (λ clash. head_whole s.draws a.kind v meta [] is q))
    found_laid apart (aim.Copy name headers) v meta body is source h =
        let stage : Stage = Drawing name (wish.Content (record { body = body; headers = unwrap_or headers meta.headers })) in
        goes stage (asks_for name) (asks_laid cited moves s q a at rests block laid stage name tt (λ question. tt)) (λ copy it. takes_source apart copy name headers v meta body h (source copy it))

    -- bytes that are read whole are those that were written
    read_whole : (v : Version) (meta : Meta) (body : List ℕ) (f : IsFound here v meta) (next : ℕ) → next ≡ suc f.last → (NoClash here.blocks → body ≡ pieces f.draw.block f.content.body 0 next) → IsBodyOf (blocks_of moves) s.draws v meta body
    read_whole v meta body f next last is = record {
      content = f.content;
      was_written = record { draw = f.draw; drawn = f.long.drawn; version_is = f.version_is; wish_is = f.long.wish_is };
      meta_is = f.meta_is;
      body_is = λ differ. is (differ f.long.long) ∙ (ap (pieces f.draw.block f.content.body 0) last ∙ all_pieces f.draw.block f.content.body (suc f.last) f.no_more);
    }

    gathers_laid : AreApart s.draws → (aim : Aim) (v : Version) (meta : Meta) (left : List BlockRef) (body : List ℕ) → IsAimOf a aim → FoundSource v aim → (f : IsFound here v meta) (next rest : ℕ) → left ≡ named_pieces f.draw.block f.content.body next rest →
        next + rest ≡ suc f.last → (NoClash here.blocks → body ≡ pieces f.draw.block f.content.body 0 next) → StepLaid [] (gathers q block aim v meta left body)
    gathers_laid apart aim v meta [] body is source f next zero left_is end h = found_laid apart aim v meta body is source (read_whole v meta body f next (omega arith) h)
    gathers_laid apart aim v meta [] body is source f next (suc rest) left_is end h = absurd (none_more (named_piece f.draw.block f.content.body next) (named_pieces f.draw.block f.content.body (suc next) rest) left_is)
    gathers_laid apart aim v meta (b ∷ left) body is source f next zero left_is end h = absurd (none_more b left (sym left_is))
    gathers_laid apart aim v meta (b ∷ left) body is source f next (suc rest) left_is end h =
        let parts = parts_same b (named_piece f.draw.block f.content.body next) left (named_pieces f.draw.block f.content.body (suc next) rest) left_is in
        let block_is : b ≡ named_piece f.draw.block f.content.body next = parts.0 in
        let more : left ≡ named_pieces f.draw.block f.content.body (suc next) rest = parts.1 in
        goes (Gathering v meta aim left body) (Fetch b.hash)
        (fetches_laid cited moves s q a at rests block laid v meta aim left body b (subst HasHash (sym block_is) (piece_has_hash f.draw.block f.content.body next))
        (record { found = f; next = next; rest = rest; hash_is = ap (λ (x : BlockRef). x.hash.0) block_is; left_is = more; ends = omega arith; body_is = h })) source

    -- a get read a version of the object that it names
    abbrev pub IsOwn : Version → Type 0
    IsOwn v = (passed : IsPassed here v.id) → a.kind ≡ kind.Get → (digest_of passed.draw.name.bucket ≡ digest_of a.name.bucket) × (passed.draw.name.key ≡ a.name.key)

    -- a request whose version's row was deleted
    superseded : (aim : Aim) (v : Version) → FoundSource v aim → IsOwn v → IsPassed here v.id → StepLaid [] (End (Superseded v.id))
    superseded aim v source own passed =
        let mine : EndsRightly (IsSafe H) moves s q v.id = record {
          replaced = record { passed = passed; kind = a.kind; name = a.name; was_asked = record { one = a; is_there = at; kind_is = refl; name_is = refl }; own = own passed };
          source = λ copy is h. record { version = v; found = (source copy (is, h)).0; id_is = refl };
        } in
        ends (Superseded v.id) (λ p id e. (
        let request : q ≡ p = cc in
        let same : v.id ≡ id = cc in
        subst (λ (r : ℕ). EndsRightly (IsSafe H) moves s r id) request (subst (EndsRightly (IsSafe H) moves s q) same mine))) (tells_one here (HasEnded q EndedSo) (λ clash. tt))

    opened_laid : AreApart s.draws → (aim : Aim) (v : Version) (meta : Meta) (value : Option AnyRow) → IsAimOf a aim → FoundSource v aim → IsOwn v → (f : IsFound here v meta) →
        (named_by value meta.size ≡ whole (named_pieces f.draw.block f.content.body 0 (suc f.last))) ⊎ ((named_by value meta.size ≡ deleted) × IsPassed here v.id) → StepLaid [] (opened q block aim v meta (named_by value meta.size))
    opened_laid apart aim v meta value is source own f (inl e) =
        subst (λ (n : Named). StepLaid [] (opened q block aim v meta n)) (sym e) (gathers_laid apart aim v meta (named_pieces f.draw.block f.content.body 0 (suc f.last)) [] is source f 0 (suc f.last) refl (omega arith) (λ clash. refl))
    opened_laid apart aim v meta value is source own f (inr e) = subst (λ (n : Named). StepLaid [] (opened q block aim v meta n)) (sym e.0) (superseded aim v source own e.1)

    reads_on_laid : (aim : Aim) (v : Version) (meta : Meta) → IsAimOf a aim → FoundSource v aim → IsFound here v meta → StepLaid [] (reads_on q block aim v meta)
    reads_on_laid aim.Get v meta is source f = goes (Opening v meta aim.Get) (opens v) (opens_laid cited moves s q a at rests block laid v meta aim.Get f) source
    reads_on_laid aim.Head v meta is source f = ends_otherwise (Found v meta []) tt (tells_one here (found_line q a.kind v meta []) (λ clash. head_whole s.draws a.kind v meta [] is q))
    reads_on_laid (aim.Copy name headers) v meta is source f = goes (Opening v meta (aim.Copy name headers)) (opens v) (opens_laid cited moves s q a at rests block laid v meta (aim.Copy name headers) f) source

    -- what is said of an object is of the source, where the request is a copy
    abbrev pub SaysSource : Said → Aim → Type 0
    SaysSource (inline v meta body) aim = FoundSource v aim
    SaysSource (in_blocks v meta first) aim = FoundSource v aim
    SaysSource said aim = ⊤

    looked_laid : AreApart s.draws → (aim : Aim) (said : Said) → IsAimOf a aim → SaysSource said aim → SaysWritten s.draws said → ((v : Version) (meta : Meta) (first : List ℕ) → said ≡ in_blocks v meta first → IsFound here v meta) → StepLaid [] (looked q block aim said)
    looked_laid apart aim none is source written finds = ends_otherwise Nothing tt (tells_one here (Done q (word_of a.kind) None None None) (λ clash. nothing_whole s.draws a.kind q))
    looked_laid apart aim (marked v) is source written finds = ends_otherwise Nothing tt (tells_one here (Done q (word_of a.kind) None None None) (λ clash. nothing_whole s.draws a.kind q))
    looked_laid apart aim (inline v meta body) is source written finds =
        found_laid apart aim v meta body is source (record { content = written.content; was_written = written.was_written; meta_is = written.meta_is; body_is = λ differ. written.body_is })
    looked_laid apart aim (in_blocks v meta first) is source written finds = reads_on_laid aim v meta is source (finds v meta first refl)

    lists_laid : (bucket prefix : List ℕ) (rows : List ObjectRow) (reach : Option (List ℕ)) → StepLaid [] (lists q block bucket prefix rows reach)
    lists_laid bucket prefix rows None = ends_otherwise (Listed rows) tt (tells_one here (Shows q (lines_of (entries rows))) (λ clash. tt))
    lists_laid bucket prefix rows (Some after) = goes (Listing bucket prefix rows) (asks_past bucket prefix after) (scans_laid cited moves s q a at rests block laid (Listing bucket prefix rows) bucket prefix after tt tt) (λ copy it. tt)

    -- ---- writes

    abbrev pub draw_so : Name → Wish → Version → ℕ → Draw
    draw_so name w v moment = record { request = q; name = name; version = v; wish = w; block = block; moment = moment }

    short_has : (draws : List Draw) (name : Name) (v : Version) (c : Content) (moment : ℕ) → is_long c.body ≡ false → (x : Content) → IsLong draws (draw_so name (wish.Content c) v moment) x → HasAll here v.id block x.body
    short_has draws name v c moment short x l =
        let wish_is : wish.Content c ≡ wish.Content x = l.wish_is in
        let same : c ≡ x = cc in
        let no : true ≡ false = sym l.long ∙ (ap (λ (y : Content). is_long y.body) (sym same) ∙ short) in
        cc

    -- what the request wishes was written to its source, where it is a copy
    abbrev pub WishesSource : Wish → Type 0
    WishesSource w = (copy : Copying) → IsIt copy → IsTakenIf (IsSafe H) (blocks_of moves) s.draws copy w

    taken_so : (name : Name) (w : Wish) (v : Version) (moment : ℕ) → WishesSource w → (copy : Copying) → IsIt copy → ⊤ × AreTaken (IsSafe H) (blocks_of moves) copy (draw_so name w v moment ∷ s.draws)
    taken_so name w v moment source copy it = (tt, ((λ own. source copy it), it.1.taken))

    writes_laid : (name : Name) (v : Version) (w : Wish) (moment : ℕ) → WishesSource w → StepLaid (draw_so name w v moment ∷ []) (writes q block name v w)
    writes_laid name v wish.Marker moment source =
        draws_on (draw_so name wish.Marker v moment ∷ []) (Completing v None) (stores (complete name v block wish.Marker))
        (completes_laid cited moves s q a at rests block laid (draw_so name wish.Marker v moment ∷ []) (draw_so name wish.Marker v moment) None (0, omega arith, refl) tt refl (λ c l. (let no : wish.Marker ≡ wish.Content c = l.wish_is in cc)))
        (refl, tt) (taken_so name wish.Marker v moment source)
    writes_laid name v (wish.Stream coming) moment source =
        draws_on (draw_so name (wish.Stream coming) v moment ∷ []) (Receiving name v coming []) (stores (uploading name v)) (announcing_laid cited moves s q a at rests block laid name v coming moment)
        (refl, tt) (taken_so name (wish.Stream coming) v moment source)
    writes_laid name v (wish.Content c) moment source =
        elim (is_long c.body) as (λ b. is_long c.body ≡ b → StepLaid (draw_so name (wish.Content c) v moment ∷ []) (elim b as (λ b. FlowStep) [ true ↦ more q block (Uploading name v c 0) (stores (uploading name v)) | false ↦ completes q block name v (wish.Content c) ])) [
          | true ↦ λ long. draws_on (draw_so name (wish.Content c) v moment ∷ []) (Uploading name v c 0) (stores (uploading name v)) (uploading_laid cited moves s q a at rests block laid name v c moment long)
              (refl, tt) (taken_so name (wish.Content c) v moment source)
          | false ↦ λ short. draws_on (draw_so name (wish.Content c) v moment ∷ []) (Completing v (Some (meta_of c))) (stores (complete name v block (wish.Content c)))
              (completes_laid cited moves s q a at rests block laid (draw_so name (wish.Content c) v moment ∷ []) (draw_so name (wish.Content c) v moment) (Some (meta_of c)) (0, omega arith, refl) tt refl
              (short_has (draw_so name (wish.Content c) v moment ∷ s.draws) name v c moment short))
              (refl, tt) (taken_so name (wish.Content c) v moment source)
        ] refl

    -- of an upload whose phase ended, the rows of each block so far are kept
    block_kept : (name : Name) (v : Version) (c : Content) (k : ℕ) (rows : List AnyRow) → Stores here block (Uploading name v c k) rows → ((r : AnyRow) → Contains rows r → Contains s.world.kept r) → HasUploaded here q block name v c k →
        (i : ℕ) → i < k → HasPiece here v.id block c.body i
    block_kept name v c zero rows is are h i lt = absurd (omega (arith, lt))
    block_kept name v c (suc k) rows is are h i lt =
        elim (nat_lt i k) as (λ b. nat_lt i k ≡ b → HasPiece here v.id block c.body i) [
          | true ↦ λ e. h.before i (let low : i < k = ltb-true i k e in omega arith)
          | false ↦ λ e.
              let one : AnyRow = version_row v.id block c.body k in
              let other : AnyRow = reference_row v.id block c.body k in
              let last : i ≡ k = (let high : k ≤ i = ltb-false i k e in omega arith) in
              subst (λ j. HasPiece here v.id block c.body j) (sym last) (record {
                names = are one (subst (λ (rs : List AnyRow). Contains rs one) (sym is.0) (0, omega arith, refl));
                refers = are other (subst (λ (rs : List AnyRow). Contains rs other) (sym is.0) (there one (other ∷ []) other (0, omega arith, refl)));
                bytes = is.1;
              })
        ] refl

    -- a block below one that is not there
    below : (body : List ℕ) (i k : ℕ) → has_piece block body i ≡ true → has_piece block body k ≡ false → i < k
    below body i k has no_more =
        elim (nat_lt i k) as (λ b. nat_lt i k ≡ b → i < k) [
          | true ↦ λ e. ltb-true i k e
          | false ↦ λ e.
              let high : k ≤ i = ltb-false i k e in
              let low : i * block < length body = ltb-true (i * block) (length body) has in
              let end : length body ≤ k * block = ltb-false (k * block) (length body) no_more in
              let grow : k * block ≤ i * block = mul-le k block i block high (le_refl block) in
              absurd (omega (arith, low, end, grow))
        ] refl

    uploads_laid : (name : Name) (v : Version) (c : Content) (k : ℕ) → (Fits words (applied s.world (effect s (phases q (Store (block_rows v.id block c.body k))))) → v.id < 2 ^ 64) → a.flow ≡ Some (flow_of q block (Uploading name v c k)) → HasPut s.asked here q → StepLaid [] (uploads q block name v c k)
    uploads_laid name v c k small flow_is put =
        let h : HasUploaded here q block name v c k = laid.stages q a (flow_of q block (Uploading name v c k)) at flow_is in
        let kept : (i : ℕ) → i < k → HasPiece here v.id block c.body i = block_kept name v c k put.rows (put.stores a (flow_of q block (Uploading name v c k)) at flow_is) put.are_there h in
        elim (has_piece block c.body k) as (λ b. has_piece block c.body k ≡ b → StepLaid [] (elim b as (λ b. FlowStep) [ true ↦ more q block (Uploading name v c (suc k)) (Store (block_rows v.id block c.body k)) | false ↦ completes q block name v (wish.Content c) ])) [
          | true ↦ λ has fits. goes (Uploading name v c (suc k)) (Store (block_rows v.id block c.body k))
              (block_laid cited moves s q a at rests block laid name v c k (small fits.0.0) has (record { moment = h.moment; drawn = h.drawn; long = h.long; before = λ i lt. kept i (omega (arith, lt)) })) (λ copy it. tt) fits
          | false ↦ λ no_more. goes (Completing v (Some (meta_of c))) (stores (complete name v block (wish.Content c)))
              (completes_laid cited moves s q a at rests block laid [] (draw_so name (wish.Content c) v h.moment) (Some (meta_of c)) h.drawn tt refl (λ x l. (
              let wish_is : wish.Content c ≡ wish.Content x = l.wish_is in
              let same : c ≡ x = cc in
              subst (λ (y : Content). HasAll here v.id block y.body) same (record { each = λ i has. kept i (below c.body i k has no_more); count = k; ends = no_more })))) (λ copy it. tt)
        ] refl

-- ---- a phase ended

-- what a read phase gave
abbrev pub HasReadIf : State → ℕ → PhaseEnd AnyRow → Type 0
HasReadIf s q (Answered value) = HasRead s.asked s.history s.world.reads q value
HasReadIf s q _ = ⊤

pub read_of : (H : Deed → Type 0) (s : State) (q : ℕ) (end : PhaseEnd AnyRow) → IsEnd H s.asked s.draws s.history (sights s) s.world.kept s.world.reads q end → HasReadIf s q end
read_of H s q (Answered value) h = h
read_of H s q _ h = tt

module _ {H : Deed → Type 0} where
  module _ (cited : Cited H) (moves : List Moving) (s : State) (q : ℕ) (a : Asked) (at : numbered s.asked q ≡ Some a) (rests : Rests s q) (block : ℕ) (sound : IsSound H s) (apart : AreApart s.draws) (fated : IsFatedIn moves s) (laid : IsLaidIn H moves s) where
    -- what a request does that waits so when its phase ends so
    abbrev pub StageLaid : ℕ → Stage → PhaseEnd AnyRow → Type 0
    StageLaid now stage end =
        a.flow ≡ Some (flow_of q block stage) → IsStage H s.draws s.history q a stage → HasReadIf s q end → HasGot s.asked (past moves s.world s.draws) s.world.reads q end →
        StepLaid cited moves s q a at rests block laid (draws_of s q block stage end now) (flow_goes_on q block stage end now)

    own_version : (v : Version) (aim : Aim) → IsAimOf a aim → HasSeen H s.draws s.history q a aim v → IsOwn cited moves s q a at rests block laid v
    own_version v aim.Get is seen passed k =
        let f : FoundIn s.draws a.name v = seen.found in
        let same : f.draw.name ≡ passed.draw.name = one_name f.draw passed.draw (apart f.draw passed.draw f.drawn passed.drawn (ap (λ (x : Version). x.id) f.version ∙ sym passed.id_is)) in
        (ap (λ (n : Name). digest_of n.bucket) (sym same) ∙ f.bucket, ap (λ (n : Name). n.key) (sym same) ∙ f.key)
    own_version v aim.Head is seen passed k = (let no : kind.Get ≡ kind.Head = sym k ∙ is in cc)
    own_version v (aim.Copy name headers) is seen passed k = (let no : kind.Get ≡ kind.Copy = sym k ∙ is.0 in cc)

    -- what a read gave of an object is of the source, where the request is a copy
    module _ (name : Name) (aim : Aim) (value : Option AnyRow) (flow_is : a.flow ≡ Some (flow_of q block (Looking name aim))) (end : HasRead s.asked s.history s.world.reads q value) where
      has_source : (v : Version) (said : Said) → said_of value ≡ said → IsSaid v said → ((u : Version) → IsSaid u said → v ≡ u) → FoundIn s.draws name v → FoundSource cited moves s q a at rests block laid v aim
      has_source v said e own one f copy it =
          let k = know cited moves s q a at rests block laid (Looking name aim) flow_is copy it in
          let b : HasBegun s.history copy = it.1.began in
          let cut : s.history ≡ copy.history ++ began q b.node b.kind b.name ∷ b.after = subst (λ (r : ℕ). s.history ≡ copy.history ++ began r b.node b.kind b.name ∷ b.after) it.0 b.cut in (
            subst (λ (n : Name). FoundIn s.draws n v) k.0 f,
            k.1,
            λ safe w ack. not_below cited moves s sound laid q a at block name aim flow_is value end safe copy.history b.after b.node b.kind b.name cut said v e own one w (subst (λ (n : Name). WasAcknowledged copy.history n w) (sym k.0) ack),
          )

      read_source : (said : Said) → said_of value ≡ said → SaysSource cited moves s q a at rests block laid said aim
      read_source (inline v meta body) e = has_source v (inline v meta body) e refl (λ u is. is) (said_found cited moves s sound laid q a at block name aim flow_is value end (inline v meta body) e (λ no. cc)).1
      read_source (in_blocks v meta first) e = has_source v (in_blocks v meta first) e refl (λ u is. is) (said_found cited moves s sound laid q a at block name aim flow_is value end (in_blocks v meta first) e (λ no. cc)).1
      read_source none e = tt
      read_source (marked v) e = tt

    pub stage_laid : (now : ℕ) (stage : Stage) (end : PhaseEnd AnyRow) → StageLaid now stage end
    stage_laid now (Drawing name w) (Answered value) flow_is stage end got = writes_laid cited moves s q a at rests block laid name (drawn q value now) w (length s.history) (know cited moves s q a at rests block laid (Drawing name w) flow_is)
    stage_laid now (Uploading name v c k) Kept flow_is stage end got =
        let d : Draw = record { request = q; name = name; version = v; wish = wish.Content c; block = stage.1.block; moment = stage.1.moment } in
        let id_is : v.id ≡ q = (sound.drawn d stage.1.drawn).id_is in
        uploads_laid cited moves s q a at rests block laid name v c k (λ room. subst (λ (i : ℕ). i < 2 ^ 64) (sym id_is) (number_fits s q a (effect s (phases q (Store (block_rows v.id block c.body k)))) at sound room)) flow_is got
    stage_laid now (Completing v meta) Kept flow_is stage end got = ends_otherwise cited moves s q a at rests block laid (Stored v meta) tt
        (tells_one (past moves s.world s.draws) (Done q (word_of a.kind) (Some (pair v)) None None) (λ clash. stored_whole s.draws a.kind v meta stage q))
    stage_laid now (Receiving name v coming received) Kept flow_is stage end got =
        needs cited moves s q a at rests block laid (Needing name v coming received)
        (let h : HasReceived (past moves s.world s.draws) q block name v coming received = laid.stages q a (flow_of q block (Receiving name v coming received)) at flow_is in
        (h, all_stored cited moves s q a at rests block laid name v received h.before got.rows got.are_there (got.stores a (flow_of q block (Receiving name v coming received)) at flow_is)))
        (λ copy it. tt) (wanted q block coming received)
    stage_laid now (Aborting v) Kept flow_is stage end got = ends_otherwise cited moves s q a at rests block laid Aborted tt (tells_none (past moves s.world s.draws))
    stage_laid now (Looking name aim) (Answered value) flow_is stage end got =
        looked_laid cited moves s q a at rests block laid apart aim (said_of value) stage.0 (read_source name aim value flow_is end (said_of value) refl) (read_written cited.every s q sound value end) (λ v meta first e. finds cited moves s sound laid got.question value got.is_there v meta first e)
    stage_laid now (Opening v meta aim) (Answered value) flow_is stage end got =
        let asks : AsksNames (past moves s.world s.draws) v meta got.question = got.asks a (flow_of q block (Opening v meta aim)) at flow_is in
        opened_laid cited moves s q a at rests block laid apart aim v meta value stage.0 (know cited moves s q a at rests block laid (Opening v meta aim) flow_is) (own_version v aim stage.0 stage.1) asks.found (named cited moves s sound apart fated laid v meta asks.found got.question asks.table asks.key asks.kept value got.is_there)
    stage_laid now (Gathering v meta aim left body) (Block bytes) flow_is stage end got =
        let p : Past = past moves s.world s.draws in
        let gets : Fetches p v meta left body got.hash = got.gets a (flow_of q block (Gathering v meta aim left body)) at flow_is in
        let f : IsFound p v meta = gets.found in
        let one : List ℕ = piece f.draw.block f.content.body gets.next in
        let told = got.told one gets.hash_is in
        let stored : Contains p.blocks one = (f.all.each gets.next (piece_there f.draw.block f.content.body f.last gets.next f.has_last (let sum : suc gets.next + gets.rest ≡ suc f.last = gets.ends in omega arith))).bytes in
        let bytes_are : NoClash p.blocks → bytes ≡ one = (λ clash. clash bytes one told.0 stored told.1) in
        let zero_next : 0 + gets.next ≡ gets.next = omega arith in
        let more : pieces f.draw.block f.content.body 0 (suc gets.next) ≡ pieces f.draw.block f.content.body 0 gets.next ++ one =
        pieces_more f.draw.block f.content.body 0 gets.next ∙ ap (λ k. pieces f.draw.block f.content.body 0 gets.next ++ piece f.draw.block f.content.body k) zero_next in
        gathers_laid cited moves s q a at rests block laid apart aim v meta left (body ++ bytes) stage.0 (know cited moves s q a at rests block laid (Gathering v meta aim left body) flow_is) f (suc gets.next) gets.rest gets.left_is gets.ends (λ clash. (λ i. gets.body_is clash i ++ bytes_are clash i) ∙ sym more)
    stage_laid now (Listing bucket prefix rows) (Window others reach) flow_is stage end got = lists_laid cited moves s q a at rests block laid bucket prefix (rows ++ shown_rows others) reach
    stage_laid now (Drawing name w) end flow_is stage e got = waits cited moves s q a at rests block laid (Drawing name w) flow_is
    stage_laid now (Uploading name v c k) end flow_is stage e got = waits cited moves s q a at rests block laid (Uploading name v c k) flow_is
    stage_laid now (Receiving name v coming received) end flow_is stage e got = waits cited moves s q a at rests block laid (Receiving name v coming received) flow_is
    stage_laid now (Needing name v coming received) end flow_is stage e got = waits cited moves s q a at rests block laid (Needing name v coming received) flow_is
    stage_laid now (Aborting v) end flow_is stage e got = waits cited moves s q a at rests block laid (Aborting v) flow_is
    stage_laid now (Completing v meta) end flow_is stage e got = waits cited moves s q a at rests block laid (Completing v meta) flow_is
    stage_laid now (Looking name aim) end flow_is stage e got = waits cited moves s q a at rests block laid (Looking name aim) flow_is
    stage_laid now (Opening v meta aim) end flow_is stage e got = waits cited moves s q a at rests block laid (Opening v meta aim) flow_is
    stage_laid now (Gathering v meta aim left body) end flow_is stage e got = waits cited moves s q a at rests block laid (Gathering v meta aim left body) flow_is
    stage_laid now (Listing bucket prefix rows) end flow_is stage e got = waits cited moves s q a at rests block laid (Listing bucket prefix rows) flow_is
