-- What each act keeps, up to the run of a list of acts.
use Rattle.std.specs.Prelude.{◌≡◌, ℕ, zero, suc, true, false, Option, Some, None, if◌then◌else◌, List, [], ◌∷◌, ◌++◌, length, refl}
use Rattle.std.proofs.Common.{ap, sym, subst, ◌∙◌}
use Rattle.std.specs.List.{All, AllByRecursion, Contains}
use Rattle.std.proofs.lemmas.List.{append-nil, append_assoc}
use Rattle.std.proofs.lemmas.List.Elements.{All-nil}
use Rattle.crdt_rows.specs.declared.any_row.AnyRow.{AnyRow}
use Rattle.crdt_rows.specs.AnyRow.{any_join}
use Rattle.object_schema.specs.Schema.{words}
use Rattle.wire_messages.specs.declared.phase.Phase.{Phase}
use Rattle.wire_messages.specs.declared.phase.PhaseEnd.{PhaseEnd}
use Rattle.cluster_machine.specs.Blocks.{StepBringsBlocks}
use Rattle.cluster_machine.specs.Layouts.{layouts}
use Rattle.cluster_machine.specs.Node.{Ended}
use Rattle.cluster_machine.specs.Run.{IsStep}
use Rattle.cluster_machine.specs.World.{empty, forget_delivered, clock, is_member_at, numbered, undelivered}
use Rattle.cluster_machine.specs.Worlds.{IsMeant, installed, run as world_run}
use Rattle.cluster_machine.specs.declared.step.Step.{Step}
use Rattle.cluster_machine.specs.declared.step.Step.TheVariants as step
use Rattle.cluster_machine.specs.declared.step.Refusal.TheVariants.{NotMember, NoSuchBucket}
use Rattle.machine_origins.specs.Origins.{stored_by}
use Rattle.flow_model.specs.declared.order.Order.{Order}
use Rattle.flow_model.specs.declared.order.Order.TheVariants as order
use Rattle.flow_model.specs.declared.flow.Name.{Name}
use Rattle.flow_model.specs.declared.flow.Stage.{Stage}
use Rattle.flow_model.specs.declared.flow.Stage.TheVariants.{Drawing, Looking, Listing}
use Rattle.flow_model.specs.declared.flow.Flow.{Flow}
use Rattle.flow_model.specs.declared.flow.Wish.TheVariants as wish
use Rattle.flow_model.specs.declared.flow.Aim.TheVariants as aim
use Rattle.blake2_hash.specs.Hash.{digest_of}
use Rattle.flow_model.specs.Rows.{row_key}
use Rattle.flow_model.specs.Flow.{asks_for, asks_past}
use Rattle.store_model.specs.Orders.{buckets_of}
use Rattle.store_model.specs.Run.{Moving, State, start, Asked, Outcome, silent, refusal, plainly, effect, doing, are_buckets, phases, new_request, opened, began_with, begins, follows, follow, goes_on, delivers, then_drains, drains, Draw}
use Rattle.store_model.specs.Acts.{Act, moves, installs, asks, delivery, drain, forgets, takes as takes_end, adds, cuts, feeds, keeps, gives_up, acted, after_acts, IsOuter, IsLawfulAct, AreLawfulActs}
use Rattle.store_laws.specs.Promised.{moves_in}
use Rattle.store_model.proofs.Leads.{delivers_lead}
use Rattle.store_laws.proofs.Acts.{delivers_keeps, outer_calm, act_keeps}
use Rattle.store_laws.proofs.Alike.{alike_same}
use Rattle.store_laws.proofs.Elements.{none_in, no_entry, only}
use Rattle.store_laws.proofs.Enders.{is_calm}
use Rattle.store_laws.proofs.Ends.{IsEnd}
use Rattle.store_laws.proofs.Flows.{saw_sound}
use Rattle.store_laws.proofs.Values.{gave_drawn}
use Rattle.store_laws.proofs.Going.{flow_of}
use Rattle.store_laws.proofs.Good.{IsGood}
use Rattle.store_laws.proofs.Grown.{Rests}
use Rattle.store_laws.proofs.Once.{IsOnceIn, act_once, start_once}
use Rattle.store_laws.proofs.Opening.{opening, new_there}
use Rattle.store_laws.proofs.Placing.{asks_is_step, asks_is_meant, scan_is_step, scan_is_meant}
use Rattle.store_laws.proofs.Sound.{IsSound, sights}
use Rattle.store_laws.proofs.Starting.{start_sound}
use Rattle.store_laws.proofs.Stepping.{step_sound, calm_fine, calm_ends}
use Rattle.std.proofs.Common.{lit<, inl, inr, ◌≤◌, arith}
use Rattle.machine_origins.specs.Origins.{stored_in}
use Rattle.machine_origins.proofs.Places.{numbered_push_cases, numbered_within}
use Rattle.store_laws.proofs.Records.{is_in}
use Rattle.std.specs.Prelude.{map}
use Rattle.cluster_machine.specs.Node.{Question}
use Rattle.cluster_machine.specs.Worlds.{Done as Effect}
use Rattle.history_model.specs.declared.record.Cause.{Cause}
use Rattle.history_model.specs.declared.record.Cause.TheVariants.{Expired, Restarted, Superseded}
use Rattle.history_model.specs.declared.record.Record.TheVariants.{Ended as Gone}
use Rattle.flow_model.specs.Flow.{started}
use Rattle.store_model.specs.Run.{World}
use Rattle.store_model.specs.Acts.{endings}
use Rattle.store_model.specs.Written.{lines_told}
use Rattle.store_laws.proofs.Elements.{cons_cases}
use Rattle.store_laws.proofs.Once.{delivers_once}
use Rattle.store_laws.proofs.Saying.{drains_grows, acts_grow}
use Rattle.store_anchors.specs.Copied.{Copying}
use Rattle.store_anchors.specs.Stored.{blocks_of}
use Rattle.store_anchors.proofs.Cited.{Cited}
use Rattle.store_anchors.proofs.Lines.{Tells, tells_later, tells_none, tells_both, step_whole}
use Rattle.store_anchors.proofs.Taking.{IsFollowedIn, followed_first, followed_joined, followed_pushed, followed_told}
use Rattle.store_anchors.proofs.Fated.{HaveCome, IsFated, IsFatedIn, fated_quiet}
use Rattle.store_anchors.proofs.Fating.{OutcomeFated, NoStream, stage_fated}
use Rattle.store_anchors.proofs.Heard.{feeding_laid, keeping_laid, giving_up_laid, feeding_fated, keeping_fated, giving_up_fated}
use Rattle.store_anchors.proofs.Told.{AreApart}
use Rattle.store_anchors.proofs.Kept.{IsPart, Past, IsRowOf}
use Rattle.store_anchors.proofs.Laid.{Asks, blocks_first, laid_told, digest, Holds, past, past_after, IsLaidIn, laid_forgetting, laid_installing}
use Rattle.store_anchors.proofs.Steps.{HasGot, calm_got, calm_now, calm_laid, begin_laid, open_laid}
use Rattle.store_anchors.proofs.Going.{BeginsSo, read_begins, range_begins}
use Rattle.store_anchors.proofs.Acting.{OutcomeLaid, stage_laid, read_of}
use Rattle.store_laws.proofs.Hashing.{FitIn, ActsIn, in_parts}
use Rattle.store_laws.proofs.Deeds.{Deed, IsSafe}

-- what holds after acts
pub record IsHeld (H : Deed → Type 0) (ms : List Moving) (s : State) : Type 0 where
  pub sound : IsSound H s
  pub once : IsOnceIn s
  pub laid : IsLaidIn H ms s
  pub fated : IsFatedIn ms s

-- that a request began tells of no end
pub began_is_no_end : (q n : ℕ) (o : Order) (p id : ℕ) → began_with q n o ≡ Gone p (Superseded id) → ⊥
began_is_no_end q n o p id e = cc

-- an outcome that stores nothing
nothing_fated : (ms : List Moving) (s : State) → IsFatedIn ms s → IsFated (stored_in (ms ++ [])) s.asked s.draws
nothing_fated ms s fated = subst (λ (k : List Moving). IsFated (stored_in k) s.asked s.draws) (sym (append-nil ms)) fated

module _ {H : Deed → Type 0} where
  -- draws with one identifier are of one write
  pub draws_apart : (s : State) → IsSound H s → IsOnceIn s → AreApart s.draws
  draws_apart s sound once d e c k same = once.one d e c k (sym (sound.drawn d c).id_is ∙ (same ∙ (sound.drawn e k).id_is))

  module _ (cited : Cited H) where
    -- nothing happened
    nothing_laid : (ms : List Moving) (s : State) → IsLaidIn H ms s → IsLaidIn H (ms ++ []) s
    nothing_laid ms s laid = subst (λ k. IsLaidIn H k s) (sym (append-nil ms)) laid

    -- and nothing is told
    silent_laid : (ms : List Moving) (s : State) → IsLaidIn H ms s → OutcomeLaid H ms s (silent s)
    silent_laid ms s laid = (nothing_laid ms s laid, tells_none (past (ms ++ []) s.world s.draws), followed_first ms [] s.draws s.asked s.history)

    -- ---- deliveries

    follows_laid : (ms : List Moving) (s : State) (q : ℕ) (a : Asked) → numbered s.asked q ≡ Some a → Rests s q → IsSound H s → AreApart s.draws → IsFatedIn ms s → IsLaidIn H ms s → (end : PhaseEnd AnyRow) (flow : Option Flow) → a.flow ≡ flow →
        IsEnd H s.asked s.draws s.history (sights s) s.world.kept s.world.reads q end → HasGot s.asked (past ms s.world s.draws) s.world.reads q end → FitIn H s.world (follows s q a end flow).moves → OutcomeLaid H ms s (follows s q a end flow)
    follows_laid ms s q a at rests sound apart fated laid end None flow_is is_end got fits = silent_laid ms s laid
    follows_laid ms s q a at rests sound apart fated laid end (Some flow) flow_is is_end got fits =
        let stage = sound.stages q a flow at flow_is in
        let same : flow ≡ flow_of q flow.block flow.stage = (λ i. record { id = stage.0 i; block = flow.block; stage = flow.stage }) in
        let seeing : State = record s { saw = record { request = q; end = end } ∷ s.saw } in
        subst (λ (f : Flow). FitIn H s.world (follows s q a end (Some f)).moves → OutcomeLaid H ms s (follows s q a end (Some f))) (sym same)
        (stage_laid cited ms seeing q a at rests flow.block (saw_sound s (record { request = q; end = end }) (gave_drawn cited.every s q sound end is_end) sound) apart fated laid (clock s.world a.node) flow.stage end (flow_is ∙ ap Some same) stage.1 (read_of H s q end is_end) got) fits

    follow_laid : (ms : List Moving) (s : State) (q : ℕ) (asked : Option Asked) (end : PhaseEnd AnyRow) → numbered s.asked q ≡ asked → Rests s q → IsSound H s → AreApart s.draws → IsFatedIn ms s → IsLaidIn H ms s → IsEnd H s.asked s.draws s.history (sights s) s.world.kept s.world.reads q end → HasGot s.asked (past ms s.world s.draws) s.world.reads q end →
        FitIn H s.world (follow s q asked end).moves → OutcomeLaid H ms s (follow s q asked end)
    follow_laid ms s q None end at rests sound apart fated laid is_end got fits = silent_laid ms s laid
    follow_laid ms s q (Some a) end at rests sound apart fated laid is_end got fits = follows_laid ms s q a at rests sound apart fated laid end a.flow refl is_end got fits

    goes_on_laid : (ms : List Moving) (s : State) (ends : List (Ended AnyRow)) → IsSound H s → AreApart s.draws → IsFatedIn ms s → IsLaidIn H ms s →
        AllByRecursion (λ (e : Ended AnyRow). IsEnd H s.asked s.draws s.history (sights s) s.world.kept s.world.reads e.request e.how × Rests s e.request) ends → AllByRecursion (λ (e : Ended AnyRow). HasGot s.asked (past ms s.world s.draws) s.world.reads e.request e.how) ends →
        FitIn H s.world (goes_on s ends).moves → OutcomeLaid H ms s (goes_on s ends)
    goes_on_laid ms s [] sound apart fated laid h got fits = silent_laid ms s laid
    goes_on_laid ms s (e ∷ es) sound apart fated laid h got fits = follow_laid ms s e.request (numbered s.asked e.request) e.how refl h.0.1 sound apart fated laid h.0.0 got.0 fits

    -- and so what stays so of versions
    follows_fated : (ms : List Moving) (s : State) (q : ℕ) (a : Asked) → numbered s.asked q ≡ Some a → IsSound H s → IsOnceIn s → IsFatedIn ms s → IsLaidIn H ms s → (end : PhaseEnd AnyRow) (flow : Option Flow) → a.flow ≡ flow →
        IsEnd H s.asked s.draws s.history (sights s) s.world.kept s.world.reads q end → OutcomeFated ms (follows s q a end flow)
    follows_fated ms s q a at sound once fated laid end None flow_is is_end = nothing_fated ms s fated
    follows_fated ms s q a at sound once fated laid end (Some flow) flow_is is_end =
        let stage = sound.stages q a flow at flow_is in
        let same : flow ≡ flow_of q flow.block flow.stage = (λ i. record { id = stage.0 i; block = flow.block; stage = flow.stage }) in
        let seeing : State = record s { saw = record { request = q; end = end } ∷ s.saw } in
        subst (λ (f : Flow). OutcomeFated ms (follows s q a end (Some f))) (sym same)
        (stage_fated ms seeing (saw_sound s (record { request = q; end = end }) (gave_drawn cited.every s q sound end is_end) sound) once laid fated q a at flow.block (clock s.world a.node) flow.stage end (flow_is ∙ ap Some same))

    follow_fated : (ms : List Moving) (s : State) (q : ℕ) (asked : Option Asked) (end : PhaseEnd AnyRow) → numbered s.asked q ≡ asked → IsSound H s → IsOnceIn s → IsFatedIn ms s → IsLaidIn H ms s →
        IsEnd H s.asked s.draws s.history (sights s) s.world.kept s.world.reads q end → OutcomeFated ms (follow s q asked end)
    follow_fated ms s q None end at sound once fated laid is_end = nothing_fated ms s fated
    follow_fated ms s q (Some a) end at sound once fated laid is_end = follows_fated ms s q a at sound once fated laid end a.flow refl is_end

    goes_on_fated : (ms : List Moving) (s : State) (ends : List (Ended AnyRow)) → IsSound H s → IsOnceIn s → IsFatedIn ms s → IsLaidIn H ms s →
        AllByRecursion (λ (e : Ended AnyRow). IsEnd H s.asked s.draws s.history (sights s) s.world.kept s.world.reads e.request e.how × Rests s e.request) ends → OutcomeFated ms (goes_on s ends)
    goes_on_fated ms s [] sound once fated laid h = nothing_fated ms s fated
    goes_on_fated ms s (e ∷ es) sound once fated laid h = follow_fated ms s e.request (numbered s.asked e.request) e.how refl sound once fated laid h.0.0

    -- the steps of one outcome, and then those of another
    joined_fated : (ms first rest : List Moving) (asked : List Asked) (draws : List Draw) → IsFated (stored_in ((ms ++ first) ++ rest)) asked draws → IsFated (stored_in (ms ++ (first ++ rest))) asked draws
    joined_fated ms first rest asked draws h = subst (λ (k : List Moving). IsFated (stored_in k) asked draws) (append_assoc ms first rest) h

    pub delivers_fated : (ms : List Moving) (s : State) (m : ℕ) → FitIn H s.world (delivers s m).moves → IsSound H s → IsOnceIn s → IsFatedIn ms s → IsLaidIn H ms s → OutcomeFated ms (delivers s m)
    delivers_fated ms s m fits sound once fated laid =
        let d : Moving = plainly (step.Deliver m) in
        let calm = is_calm cited.every s d tt sound in
        let o : Outcome = goes_on (doing s d) (effect s d).ends in
        joined_fated ms (d ∷ []) o.moves o.state.asked o.state.draws
        (goes_on_fated (ms ++ d ∷ []) (doing s d) (effect s d).ends
        (step_sound s d sound (tt, tt, tt, fits.0.1, tt) fits.0.2 (All-nil (IsGood s.draws)) (calm_fine s (effect s d) sound calm)) once (fated_quiet ms d s.asked s.draws refl fated)
        (calm_laid cited ms s d tt refl tt tt tt tt (fits.0, tt) laid) (calm_ends s (effect s d) sound calm))

    -- the steps of one outcome, and then those of another
    joined : (ms first rest : List Moving) (s : State) → IsLaidIn H ((ms ++ first) ++ rest) s → IsLaidIn H (ms ++ (first ++ rest)) s
    joined ms first rest s laid = subst (λ k. IsLaidIn H k s) (append_assoc ms first rest) laid

    -- what was told before is told of by more
    first_told : (ms : List Moving) (first : Outcome) (rest : List Moving) (w : World) (draws : List Draw) → IsPart first.state.draws draws → Tells (past (ms ++ first.moves) first.state.world first.state.draws) first.lines → Tells (past (ms ++ (first.moves ++ rest)) w draws) first.lines
    first_told ms first rest w draws grows told =
        subst (λ k. Tells (past k w draws) first.lines) (append_assoc ms first.moves rest)
        (tells_later (past (ms ++ first.moves) first.state.world first.state.draws) (past ((ms ++ first.moves) ++ rest) w draws) grows (blocks_first (ms ++ first.moves) rest) first.lines told)

    told_joined : (ms first rest : List Moving) (o : Outcome) → Tells (past ((ms ++ first) ++ rest) o.state.world o.state.draws) o.lines → Tells (past (ms ++ (first ++ rest)) o.state.world o.state.draws) o.lines
    told_joined ms first rest o told = subst (λ k. Tells (past k o.state.world o.state.draws) o.lines) (append_assoc ms first rest) told

    pub delivers_laid : (ms : List Moving) (s : State) (m : ℕ) → FitIn H s.world (delivers s m).moves → IsSound H s → AreApart s.draws → IsFatedIn ms s → IsLaidIn H ms s → OutcomeLaid H ms s (delivers s m)
    delivers_laid ms s m fits sound apart fated laid =
        let d : Moving = plainly (step.Deliver m) in
        let calm = is_calm cited.every s d tt sound in
        let o : Outcome = goes_on (doing s d) (effect s d).ends in
        let rest : OutcomeLaid H (ms ++ d ∷ []) (doing s d) o =
        goes_on_laid (ms ++ d ∷ []) (doing s d) (effect s d).ends
        (step_sound s d sound (tt, tt, tt, fits.0.1, tt) fits.0.2 (All-nil (IsGood s.draws)) (calm_fine s (effect s d) sound calm)) apart (fated_quiet ms d s.asked s.draws refl fated)
        (calm_laid cited ms s d tt refl tt tt tt tt (fits.0, tt) laid)
        (calm_ends s (effect s d) sound calm) (calm_got cited ms s d (tt, tt, tt, fits.0.1, tt) (calm_now cited ms s d tt laid) laid) fits.1 in (
          joined ms (d ∷ []) o.moves o.state rest.0,
          tells_both (past (ms ++ d ∷ o.moves) o.state.world o.state.draws) (effect s d).tells o.lines (step_whole (past (ms ++ d ∷ o.moves) o.state.world o.state.draws) s d) (told_joined ms (d ∷ []) o.moves o rest.1),
          λ copy h. followed_joined ms (d ∷ []) o.moves o.state copy (rest.2 copy (followed_first ms (d ∷ []) s.draws s.asked s.history copy h)),
        )

    drains_laid : (n : ℕ) (ms : List Moving) (s : State) → FitIn H s.world (drains n s).moves → IsSound H s → IsOnceIn s → IsFatedIn ms s → IsLaidIn H ms s → OutcomeLaid H ms s (drains n s)
    drains_laid zero ms s fits sound once fated laid = silent_laid ms s laid
    drains_laid (suc n) ms s fits sound once fated laid =
        elim (undelivered s.world) as (λ o. FitIn H s.world (elim o as (λ o. Outcome) [ None ↦ silent s | Some m ↦ let o = delivers s m in then_drains o (drains n o.state) ]).moves →
        OutcomeLaid H ms s (elim o as (λ o. Outcome) [ None ↦ silent s | Some m ↦ let o = delivers s m in then_drains o (drains n o.state) ])) [
          | None ↦ λ fits. silent_laid ms s laid
          | Some m ↦ λ fits.
              let first : Outcome = delivers s m in
              let rest : Outcome = drains n first.state in
              let parts = in_parts H s.world first.moves rest.moves fits in
              let leads : world_run any_join words s.world first.moves ≡ first.state.world = delivers_lead s m in
              let one : OutcomeLaid H ms s first = delivers_laid ms s m parts.0 sound (draws_apart s sound once) fated laid in
              let more : OutcomeLaid H (ms ++ first.moves) first.state rest =
              drains_laid n (ms ++ first.moves) first.state (subst (λ w. FitIn H w rest.moves) leads parts.1) (delivers_keeps cited.every s m parts.0 sound) (delivers_once s m once) (delivers_fated ms s m parts.0 sound once fated laid) one.0 in
              let now : Past = past (ms ++ (first.moves ++ rest.moves)) rest.state.world rest.state.draws in (
                joined ms first.moves rest.moves rest.state more.0,
                tells_both now first.lines rest.lines (first_told ms first rest.moves rest.state.world rest.state.draws (drains_grows n first.state) one.1) (told_joined ms first.moves rest.moves rest more.1),
                λ copy h. followed_joined ms first.moves rest.moves rest.state copy (more.2 copy (one.2 copy h)),
              )
        ] fits

    drains_fated : (n : ℕ) (ms : List Moving) (s : State) → FitIn H s.world (drains n s).moves → IsSound H s → IsOnceIn s → IsFatedIn ms s → IsLaidIn H ms s → OutcomeFated ms (drains n s)
    drains_fated zero ms s fits sound once fated laid = nothing_fated ms s fated
    drains_fated (suc n) ms s fits sound once fated laid =
        elim (undelivered s.world) as (λ o. FitIn H s.world (elim o as (λ o. Outcome) [ None ↦ silent s | Some m ↦ let o = delivers s m in then_drains o (drains n o.state) ]).moves →
        OutcomeFated ms (elim o as (λ o. Outcome) [ None ↦ silent s | Some m ↦ let o = delivers s m in then_drains o (drains n o.state) ])) [
          | None ↦ λ fits. nothing_fated ms s fated
          | Some m ↦ λ fits.
              let first : Outcome = delivers s m in
              let rest : Outcome = drains n first.state in
              let parts = in_parts H s.world first.moves rest.moves fits in
              let leads : world_run any_join words s.world first.moves ≡ first.state.world = delivers_lead s m in
              joined_fated ms first.moves rest.moves rest.state.asked rest.state.draws
              (drains_fated n (ms ++ first.moves) first.state (subst (λ w. FitIn H w rest.moves) leads parts.1) (delivers_keeps cited.every s m parts.0 sound) (delivers_once s m once)
              (delivers_fated ms s m parts.0 sound once fated laid) (delivers_laid ms s m parts.0 sound (draws_apart s sound once) fated laid).0)
        ] fits

    -- ---- requests

    -- a request opens, and its first phase begins
    opens_laid : (ms : List Moving) (s : State) (a : Asked) (stage : Stage) (phase : Phase AnyRow) → (let q = suc (length s.world.requests) in a.flow ≡ Some (flow_of q s.block stage) → Holds (past ms s.world s.draws) q s.block stage → is_member_at layouts s.world a.node ≡ true →
        IsMeant (phases q phase).step → IsStep words 256 (phases q phase).step → StepBringsBlocks digest words (phases q phase).step → stored_by (phases q phase).step ≡ [] → BeginsSo (past_after (ms ++ plainly (step.Open a.node) ∷ []) (opening s a) (phases q phase)) (opening s a).world.kept s.block stage phase →
        FitIn H s.world (plainly (step.Open a.node) ∷ phases q phase ∷ []) → IsSound H s → IsLaidIn H ms s → IsLaidIn H (ms ++ plainly (step.Open a.node) ∷ phases q phase ∷ []) (doing (opening s a) (phases q phase)))
    opens_laid ms s a stage phase flow_is hold member meant is_step brings none_stored begins fits sound laid =
        let q : ℕ = suc (length s.world.requests) in
        let flow : Flow = flow_of q s.block stage in
        let m : Moving = plainly (step.Open a.node) in
        let now : State = opening s a in
        let open_now : IsLaidIn H (ms ++ m ∷ []) now = open_laid cited ms s a flow flow_is hold member (fits.0, tt) sound laid in
        joined ms (m ∷ []) (phases q phase ∷ []) (doing now (phases q phase))
        (begin_laid cited (ms ++ m ∷ []) now q a flow phase (new_there s a sound) flow_is meant is_step brings (subst (All (IsRowOf (past (ms ++ m ∷ []) now.world now.draws))) (sym none_stored) (All-nil _)) begins fits.1 open_now)

    -- a request opens and asks for an object's row
    opens_asking : (ms : List Moving) (s : State) (a : Asked) (stage : Stage) (name : Name) → (let q = suc (length s.world.requests) in a.flow ≡ Some (flow_of q s.block stage) → Holds (past ms s.world s.draws) q s.block stage → is_member_at layouts s.world a.node ≡ true →
        ((question : Question AnyRow) → question.table ≡ 1 → question.key ≡ row_key name → question.kept ≡ (opening s a).world.kept → Asks (past_after (ms ++ plainly (step.Open a.node) ∷ []) (opening s a) (phases q (asks_for name))) stage question) →
        FitIn H s.world (plainly (step.Open a.node) ∷ phases q (asks_for name) ∷ []) → IsSound H s → IsLaidIn H ms s → IsLaidIn H (ms ++ plainly (step.Open a.node) ∷ phases q (asks_for name) ∷ []) (doing (opening s a) (phases q (asks_for name))))
    opens_asking ms s a stage name flow_is hold member waits fits sound laid =
        let q : ℕ = suc (length s.world.requests) in
        let now : State = opening s a in
        opens_laid ms s a stage (asks_for name) flow_is hold member (asks_is_meant q name) (asks_is_step q name) tt refl
        (read_begins (past_after (ms ++ plainly (step.Open a.node) ∷ []) now (phases q (asks_for name))) now.world.kept s.block stage 1 (digest_of name.bucket) (row_key name) waits) fits sound laid

    opened_laid : (ms : List Moving) (s : State) (n : ℕ) (o : Order) → is_member_at layouts s.world n ≡ true → FitIn H s.world (opened s n o).moves → IsSound H s → IsLaidIn H ms s → IsLaidIn H (ms ++ (opened s n o).moves) (opened s n o).state
    opened_laid ms s n (order.Put bucket key body headers) member fits sound laid =
        let name : Name = record { bucket = bucket; key = key } in
        opens_asking ms s (new_request n (order.Put bucket key body headers) _) (Drawing name (wish.Content (record { body = body; headers = headers }))) name refl tt member (λ question table key kept. tt) fits sound laid
    opened_laid ms s n (order.Stream bucket key announced headers) member fits sound laid =
        let name : Name = record { bucket = bucket; key = key } in
        opens_asking ms s (new_request n (order.Stream bucket key announced headers) _) (Drawing name (wish.Stream (record { length = announced; headers = headers }))) name refl tt member (λ question table key kept. tt) fits sound laid
    opened_laid ms s n (order.Get bucket key) member fits sound laid =
        let name : Name = record { bucket = bucket; key = key } in
        opens_asking ms s (new_request n (order.Get bucket key) _) (Looking name aim.Get) name refl tt member (λ question table key kept. tt) fits sound laid
    opened_laid ms s n (order.Head bucket key) member fits sound laid =
        let name : Name = record { bucket = bucket; key = key } in
        opens_asking ms s (new_request n (order.Head bucket key) _) (Looking name aim.Head) name refl tt member (λ question table key kept. tt) fits sound laid
    opened_laid ms s n (order.Delete bucket key) member fits sound laid =
        let name : Name = record { bucket = bucket; key = key } in
        opens_asking ms s (new_request n (order.Delete bucket key) _) (Drawing name wish.Marker) name refl tt member (λ question table key kept. tt) fits sound laid
    opened_laid ms s n (order.Copy from_bucket from_key bucket key headers) member fits sound laid =
        let name : Name = record { bucket = from_bucket; key = from_key } in
        let new : Name = record { bucket = bucket; key = key } in
        opens_asking ms s (new_request n (order.Copy from_bucket from_key bucket key headers) _) (Looking name (aim.Copy new headers)) name refl tt member (λ question table key kept. tt) fits sound laid
    opened_laid ms s n (order.List bucket prefix) member fits sound laid =
        let q : ℕ = suc (length s.world.requests) in
        let stage : Stage = Listing bucket prefix [] in
        let a : Asked = new_request n (order.List bucket prefix) (flow_of q s.block stage) in
        let now : State = opening s a in
        opens_laid ms s a stage (asks_past bucket prefix []) refl tt member (scan_is_meant q bucket prefix []) (scan_is_step q bucket prefix []) tt refl
        (range_begins (past_after (ms ++ plainly (step.Open n) ∷ []) now (phases q (asks_past bucket prefix []))) now.world.kept s.block stage (digest_of bucket) prefix [] tt) fits sound laid

    begins_laid : (ms : List Moving) (s : State) (n : ℕ) (o : Order) → FitIn H s.world (begins s n o).moves → IsSound H s → IsLaidIn H ms s → OutcomeLaid H ms s (begins s n o)
    begins_laid ms s n o fits sound laid =
        elim (is_member_at layouts s.world n) as (λ b. is_member_at layouts s.world n ≡ b →
        FitIn H s.world (if b then (if are_buckets s.buckets (buckets_of o) then opened s n o else refusal s NoSuchBucket) else refusal s NotMember).moves →
        OutcomeLaid H ms s (if b then (if are_buckets s.buckets (buckets_of o) then opened s n o else refusal s NoSuchBucket) else refusal s NotMember)) [
          | true ↦ λ member. elim (are_buckets s.buckets (buckets_of o)) as (λ b. FitIn H s.world (if b then opened s n o else refusal s NoSuchBucket).moves → OutcomeLaid H ms s (if b then opened s n o else refusal s NoSuchBucket)) [
            | true ↦ λ fits.
                let q : ℕ = suc (length s.world.requests) in
                let first : Moving = phases q (started o q s.block).1 in (
                  opened_laid ms s n o member fits sound laid,
                  step_whole (past (ms ++ (opened s n o).moves) (opened s n o).state.world s.draws) (doing s (plainly (step.Open n))) first,
                  λ copy h.
                      let a : Asked = new_request n o (started o q s.block).0 in
                      followed_first ms (opened s n o).moves s.draws (s.asked ++ a ∷ []) (opened s n o).state.history copy
                      (followed_told (blocks_of ms) s.draws (s.asked ++ a ∷ []) s.history (began_with q n o ∷ []) copy (λ id c. absurd (began_is_no_end q n o copy.request id (only (began_with q n o) (Gone copy.request (Superseded id)) c))) (followed_pushed (blocks_of ms) s.draws s.asked s.history a copy h)),
                )
            | false ↦ λ fits. silent_laid ms s laid
          ]
          | false ↦ λ _ fits. silent_laid ms s laid
        ] refl fits

    -- what a request begins with stores nothing
    started_stores : (o : Order) (q block : ℕ) → stored_by (phases q (started o q block).1).step ≡ []
    started_stores (order.Put bucket key body headers) q block = refl
    started_stores (order.Stream bucket key announced headers) q block = refl
    started_stores (order.Get bucket key) q block = refl
    started_stores (order.Head bucket key) q block = refl
    started_stores (order.Delete bucket key) q block = refl
    started_stores (order.Copy from_bucket from_key bucket key headers) q block = refl
    started_stores (order.List bucket prefix) q block = refl

    started_quiet : (o : Order) (q block : ℕ) → NoStream (started o q block).0.stage
    started_quiet (order.Put bucket key body headers) q block stored size = tt
    started_quiet (order.Stream bucket key announced headers) q block stored size = tt
    started_quiet (order.Get bucket key) q block stored size = tt
    started_quiet (order.Head bucket key) q block stored size = tt
    started_quiet (order.Delete bucket key) q block stored size = tt
    started_quiet (order.Copy from_bucket from_key bucket key headers) q block stored size = tt
    started_quiet (order.List bucket prefix) q block stored size = tt

    -- a request more has drawn nothing
    pushed_fated : (ms : List Moving) (s : State) (a : Asked) (flow : Flow) → a.flow ≡ Some flow → NoStream flow.stage → IsSound H s → IsFatedIn ms s → IsFated (stored_in ms) (s.asked ++ a ∷ []) s.draws
    pushed_fated ms s a flow flow_is quiet sound fated = record {
      pieces = fated.pieces;
      coming = λ p o f there is. elim (numbered_push_cases s.asked a p o there) [
        | inl was ↦ fated.coming p o f was is
        | inr e ↦
            let flows : Some flow ≡ Some f = sym flow_is ∙ (ap (λ (x : Asked). x.flow) e.1 ∙ is) in
            let same : flow ≡ f = cc in
            subst (λ (g : Flow). HaveCome (stored_in ms) g.block g.stage) same (quiet (stored_in ms) flow.block)
      ];
      never_both = fated.never_both;
      over = λ d o f c k there is. elim (numbered_push_cases s.asked a d.request o there) [
        | inl was ↦ fated.over d o f c k was is
        | inr e ↦
            let had = sound.drawn d c in
            let asked = sound.told.began_asked d.request had.node had.kind d.name (is_in s.history had.place _ had.began_at) in
            let low : d.request ≤ length s.asked = numbered_within s.asked d.request asked.one asked.is_there in
            let high : d.request ≡ suc (length s.asked) = e.0 in
            absurd (omega arith)
      ];
    }

    opened_fated : (ms : List Moving) (s : State) (n : ℕ) (o : Order) → IsSound H s → IsFatedIn ms s → OutcomeFated ms (opened s n o)
    opened_fated ms s n o sound fated =
        let q : ℕ = suc (length s.world.requests) in
        let first : Flow × Phase AnyRow = started o q s.block in
        let a : Asked = new_request n o first.0 in
        let opens : Moving = plainly (step.Open n) in
        joined_fated ms (opens ∷ []) (phases q first.1 ∷ []) (s.asked ++ a ∷ []) s.draws
        (fated_quiet (ms ++ opens ∷ []) (phases q first.1) (s.asked ++ a ∷ []) s.draws (started_stores o q s.block)
        (fated_quiet ms opens (s.asked ++ a ∷ []) s.draws refl (pushed_fated ms s a first.0 refl (started_quiet o q s.block) sound fated)))

    begins_fated : (ms : List Moving) (s : State) (n : ℕ) (o : Order) → IsSound H s → IsFatedIn ms s → OutcomeFated ms (begins s n o)
    begins_fated ms s n o sound fated =
        elim (is_member_at layouts s.world n) as (λ b. OutcomeFated ms (if b then (if are_buckets s.buckets (buckets_of o) then opened s n o else refusal s NoSuchBucket) else refusal s NotMember)) [
          | true ↦ elim (are_buckets s.buckets (buckets_of o)) as (λ b. OutcomeFated ms (if b then opened s n o else refusal s NoSuchBucket)) [
            | true ↦ opened_fated ms s n o sound fated
            | false ↦ nothing_fated ms s fated
          ]
          | false ↦ nothing_fated ms s fated
        ]

    -- ---- acts

    outer_brings : (st : Step AnyRow) → IsOuter st → StepBringsBlocks digest words st
    outer_brings (step.Phase q phase) h = absurd h
    outer_brings _ h = tt

    -- what an act ends did not end superseded
    none_superseded : (cause : Cause) → ((id : ℕ) → cause ≡ Superseded id → ⊥) → (qs : List ℕ) (q id : ℕ) → Contains (map (λ (q : ℕ). Gone q cause) qs) (Gone q (Superseded id)) → ⊥
    none_superseded cause never [] q id c = none_in _ c
    none_superseded cause never (x ∷ qs) q id c = elim (cons_cases (Gone x cause) (map (λ (q : ℕ). Gone q cause) qs) (Gone q (Superseded id)) c) [
      | inl e ↦ never id (cc)
      | inr more ↦ none_superseded cause never qs q id more
    ]

    endings_superseded : (st : Step AnyRow) (e : Effect AnyRow) (q id : ℕ) → Contains (endings st e) (Gone q (Superseded id)) → ⊥
    endings_superseded (step.Expire p) e q id c = none_superseded Expired (λ id e. cc) e.closes q id c
    endings_superseded (step.Restart n) e q id c = none_superseded Restarted (λ id e. cc) e.lost q id c
    endings_superseded _ e q id c = none_in _ c

    pub act_laid : (ms : List Moving) (s : State) (a : Act) → IsLawfulAct s a → FitIn H s.world (acted s a).moves → IsSound H s → IsOnceIn s → IsFatedIn ms s → IsLaidIn H ms s → OutcomeLaid H ms s (acted s a)
    act_laid ms s (moves m) lawful fits sound once fated laid =
        let calm = outer_calm cited.every m.step lawful.0 in
        let now : IsLaidIn H (ms ++ m ∷ []) (doing s m) = calm_laid cited ms s m calm.0 calm.2 (outer_brings m.step lawful.0) lawful.1 calm.1 lawful.2 fits laid in (
          laid_told (ms ++ m ∷ []) (doing s m).world s.asked s.draws s.history (endings m.step (effect s m)) (λ q id c. absurd (endings_superseded m.step (effect s m) q id c)) now,
          step_whole (past (ms ++ m ∷ []) (doing s m).world s.draws) s m,
          λ copy h. followed_first ms (m ∷ []) s.draws s.asked (s.history ++ endings m.step (effect s m)) copy (followed_told (blocks_of ms) s.draws s.asked s.history (endings m.step (effect s m)) copy (λ id c. absurd (endings_superseded m.step (effect s m) copy.request id c)) h),
        )
    act_laid ms s (asks n o) lawful fits sound once fated laid = begins_laid ms s n o fits sound laid
    act_laid ms s (delivery m) lawful fits sound once fated laid = delivers_laid ms s m fits sound (draws_apart s sound once) fated laid
    act_laid ms s (drain n) lawful fits sound once fated laid = drains_laid n ms s fits sound once fated laid
    act_laid ms s (installs first) lawful fits sound once fated laid =
        let now : State = record s { world = installed any_join words s.world first } in
        (nothing_laid ms now (laid_installing ms s first lawful.0 lawful.1 laid), tells_none (past (ms ++ []) now.world s.draws), followed_first ms [] s.draws s.asked s.history)
    act_laid ms s forgets lawful fits sound once fated laid =
        let now : State = record s { world = forget_delivered s.world } in
        (nothing_laid ms now (laid_forgetting ms s laid), tells_none (past (ms ++ []) now.world s.draws), followed_first ms [] s.draws s.asked s.history)
    act_laid ms s (takes_end q) lawful fits sound once fated laid = (nothing_laid ms s laid, tells_none (past (ms ++ []) s.world s.draws), followed_first ms [] s.draws s.asked s.history)
    act_laid ms s (adds name) lawful fits sound once fated laid = (nothing_laid ms s laid, tells_none (past (ms ++ []) s.world s.draws), followed_first ms [] s.draws s.asked s.history)
    act_laid ms s (cuts block) lawful fits sound once fated laid = (nothing_laid ms s laid, tells_none (past (ms ++ []) s.world s.draws), followed_first ms [] s.draws s.asked s.history)
    act_laid ms s (feeds q bytes) lawful fits sound once fated laid = feeding_laid cited ms s q bytes lawful fits sound once fated laid
    act_laid ms s (keeps q) lawful fits sound once fated laid = keeping_laid cited ms s q fits sound once fated laid
    act_laid ms s (gives_up q) lawful fits sound once fated laid = giving_up_laid cited ms s q fits sound once fated laid

    pub act_fated : (ms : List Moving) (s : State) (a : Act) → IsLawfulAct s a → FitIn H s.world (acted s a).moves → IsSound H s → IsOnceIn s → IsFatedIn ms s → IsLaidIn H ms s → OutcomeFated ms (acted s a)
    act_fated ms s (moves m) lawful fits sound once fated laid = fated_quiet ms m s.asked s.draws (outer_calm cited.every m.step lawful.0).2 fated
    act_fated ms s (asks n o) lawful fits sound once fated laid = begins_fated ms s n o sound fated
    act_fated ms s (delivery m) lawful fits sound once fated laid = delivers_fated ms s m fits sound once fated laid
    act_fated ms s (drain n) lawful fits sound once fated laid = drains_fated n ms s fits sound once fated laid
    act_fated ms s (installs first) lawful fits sound once fated laid = nothing_fated ms s fated
    act_fated ms s forgets lawful fits sound once fated laid = nothing_fated ms s fated
    act_fated ms s (takes_end q) lawful fits sound once fated laid = nothing_fated ms s fated
    act_fated ms s (adds name) lawful fits sound once fated laid = nothing_fated ms s fated
    act_fated ms s (cuts block) lawful fits sound once fated laid = nothing_fated ms s fated
    act_fated ms s (feeds q bytes) lawful fits sound once fated laid = feeding_fated cited ms s q bytes lawful sound once fated laid
    act_fated ms s (keeps q) lawful fits sound once fated laid = keeping_fated cited ms s q sound once fated laid
    act_fated ms s (gives_up q) lawful fits sound once fated laid = giving_up_fated cited ms s q sound once fated laid

    -- what holds after acts, and of their lines; and copies stay followed
    abbrev ActsHeld : List Moving → State → List Act → Type 0
    ActsHeld ms s as' =
        let end : State = after_acts s as' in
        IsHeld H (ms ++ moves_in s as') end × Tells (past (ms ++ moves_in s as') end.world end.draws) (lines_told s as') ×
        ((copy : Copying) → IsFollowedIn (IsSafe H) ms s copy → IsFollowedIn (IsSafe H) (ms ++ moves_in s as') end copy)

    pub acts_held : (ms : List Moving) (s : State) (as' : List Act) → AreLawfulActs s as' → ActsIn H s as' → IsHeld H ms s → ActsHeld ms s as'
    acts_held ms s [] lawful fit h =
        (record { sound = h.sound; once = h.once; laid = nothing_laid ms s h.laid; fated = nothing_fated ms s h.fated }, tells_none (past (ms ++ []) s.world s.draws), followed_first ms [] s.draws s.asked s.history)
    acts_held ms s (a ∷ as') lawful fit h =
        let o : Outcome = acted s a in
        let end : State = after_acts o.state as' in
        let one : OutcomeLaid H ms s o = act_laid ms s a lawful.0 fit.0 h.sound h.once h.fated h.laid in
        let more : ActsHeld (ms ++ o.moves) o.state as' = acts_held (ms ++ o.moves) o.state as' lawful.1 fit.1 (record { sound = act_keeps cited.every s a lawful.0 fit.0 h.sound; once = act_once s a h.sound h.once; laid = one.0; fated = act_fated ms s a lawful.0 fit.0 h.sound h.once h.fated h.laid }) in
        let rest : List Moving = moves_in o.state as' in (
          subst (λ k. IsHeld H k end) (append_assoc ms o.moves rest) more.0,
          tells_both (past (ms ++ (o.moves ++ rest)) end.world end.draws) o.lines (lines_told o.state as') (first_told ms o rest end.world end.draws (acts_grow o.state as') one.1)
              (subst (λ k. Tells (past k end.world end.draws) (lines_told o.state as')) (append_assoc ms o.moves rest) more.1),
          λ copy h. followed_joined ms o.moves rest end copy (more.2 copy (one.2 copy h)),
        )

    pub start_laid : IsLaidIn H [] start
    start_laid = record {
      room = lit< tt;
      reached = record { before = []; begin = empty; begun = inl (refl, refl); moves = []; lawful = tt; alike = alike_same empty; before_are = All-nil _; are = All-nil _; done_before = λ d any h. absurd h; done = λ d any h. absurd h; prompt = λ all are_prompt. record { first = tt; rest = tt; now = refl } };
      stored = All-nil _;
      kept = λ r c. absurd (none_in r c);
      stages = λ q a flow at is. absurd (no_entry q a at);
      fits = λ n c h. absurd h;
      superseded = λ q id c. absurd (none_in _ c);
    }

    pub start_fated : IsFatedIn [] start
    start_fated = record {
      pieces = λ d c k. absurd (none_in d k);
      coming = λ q a flow at is. absurd (no_entry q a at);
      never_both = λ d e k. absurd (none_in d k);
      over = λ d a flow k. absurd (none_in d k);
    }

    -- nothing has happened
    pub start_held : IsHeld H [] start
    start_held = record { sound = start_sound; once = start_once; laid = start_laid; fated = start_fated }

    pub held : (as' : List Act) → AreLawfulActs start as' → ActsIn H start as' → IsHeld H (moves_in start as') (after_acts start as')
    held as' lawful fit = (acts_held [] start as' lawful fit start_held).0

    -- the lines of acts tell of whole versions
    pub told : (as' : List Act) → AreLawfulActs start as' → ActsIn H start as' → Tells (past (moves_in start as') (after_acts start as').world (after_acts start as').draws) (lines_told start as')
    told as' lawful fit = (acts_held [] start as' lawful fit start_held).1
