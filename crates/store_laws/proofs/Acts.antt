-- What each act keeps, up to the run of a list of acts.
use Rattle.std.specs.Prelude.{IsTrue}
use Rattle.std.proofs.Common.{◌≡◌, ◌≤◌, ℕ, zero, suc, true, false, ◌&&◌, Option, Some, None, List, [], ◌∷◌, ◌++◌, length, if◌then◌else◌, refl, sym, ap, ◌∙◌, subst}
use Rattle.std.specs.List.{All, AllByRecursion, Contains}
use Rattle.std.proofs.lemmas.List.Elements.{All-nil, Contains-append_left}
use Rattle.crdt_core.specs.EntryLaws.{and_parts}
use Rattle.crdt_rows.specs.declared.any_row.AnyRow.{AnyRow}
use Rattle.table_schema.specs.Words.{Words}
use Rattle.object_schema.specs.Schema.{words}
use Rattle.cluster_machine.specs.Layouts.{layouts}
use Rattle.wire_messages.specs.declared.phase.PhaseEnd.{PhaseEnd}
use Rattle.cluster_machine.specs.declared.step.Refusal.TheVariants.{NotMember, NoSuchBucket}
use Rattle.cluster_machine.specs.declared.step.Step.{Step}
use Rattle.cluster_machine.specs.declared.step.Step.TheVariants as step
use Rattle.cluster_machine.specs.Node.{Question, Ended}
use Rattle.cluster_machine.specs.Run.{IsStep}
use Rattle.cluster_machine.specs.World.{is_member_at, numbered, undelivered}
use Rattle.machine_origins.specs.Origins.{stored_by}
use Rattle.cluster_machine.specs.Worlds.{Model, Doing, next as world_next, Done as Effect, IsMeant, IsLawful, FitAll, run as world_run}
use Rattle.history_model.specs.declared.record.Cause.TheVariants.{Expired, Restarted}
use Rattle.flow_model.specs.declared.order.Order.{Order}
use Rattle.flow_model.specs.declared.order.Order.TheVariants as order
use Rattle.flow_model.specs.declared.flow.Name.{Name}
use Rattle.flow_model.specs.declared.flow.Wish.TheVariants as wish
use Rattle.flow_model.specs.declared.flow.Aim.TheVariants as aim
use Rattle.flow_model.specs.declared.flow.Stage.{Stage}
use Rattle.flow_model.specs.declared.flow.Stage.TheVariants.{Drawing, Looking, Listing}
use Rattle.flow_model.specs.declared.flow.Flow.{Flow}
use Rattle.flow_model.specs.Flow.{asks_for, asks_past}
use Rattle.store_model.specs.Orders.{buckets_of}
use Rattle.store_model.specs.Run.{Moving, State, start, Asked, Outcome, silent, refusal, plainly, effect, doing, is_bucket, are_buckets, phases, new_request, opened, begins, follows, follow, goes_on, delivers, then_drains, drains}
use Rattle.store_model.specs.Acts.{Act, moves, installs, asks, delivery, drain, forgets, takes as takes_end, without_end, adds, cuts, feeds, keeps, gives_up, endings, plain, acted, after_acts, IsOuter, HasKey, IsLawfulAct, AreLawfulActs, ActsFit}
use Rattle.store_collects.specs.Fresh.{IsFresh}
use Rattle.store_model.proofs.Leads.{delivers_lead}
use Rattle.store_laws.proofs.Elements.{bucket_in, none_in}
use Rattle.machine_origins.proofs.Calm.{IsCalmStep}
use Rattle.store_laws.proofs.Every.{EveryWorld}
use Rattle.store_laws.proofs.Good.{IsGood}
use Rattle.store_laws.proofs.Placing.{asks_is_step, asks_is_meant, scan_is_step, scan_is_meant}
use Rattle.store_laws.proofs.Sound.{began, HasPhase, AsksRow, AsksFor, listed, HasShown, IsStage, IsSound, sights}
use Rattle.store_laws.proofs.Orders.{past_none}
use Rattle.history_model.specs.declared.record.Kind.{Kind}
use Rattle.history_model.specs.declared.record.Kind.TheVariants as kind
use Rattle.history_model.specs.declared.record.Record.{Record}
use Rattle.history_model.specs.Record.{is_write}
use Rattle.store_laws.proofs.Reached.{reached_different}
use Rattle.store_laws.proofs.Grown.{Rests}
use Rattle.store_laws.proofs.Ends.{IsEnd}
use Rattle.store_laws.proofs.Stepping.{step_sound, installing_sound, calm_fine, calm_ends}
use Rattle.store_laws.proofs.Beginning.{asks_fine, scans_fine}
use Rattle.store_laws.proofs.Opening.{beginning, opening, opened_sound, new_there}
use Rattle.store_laws.proofs.Finishing.{ended_sound}
use Rattle.store_laws.proofs.Enders.{is_calm}
use Rattle.store_laws.proofs.Starting.{start_sound, bucket_sound, block_sound, ends_sound, forgetting_sound}
use Rattle.store_laws.proofs.Going.{flow_of}
use Rattle.store_laws.proofs.Acting.{stage_keeps}
use Rattle.store_laws.proofs.Hearing.{feeding_keeps, keeping_keeps, giving_up_keeps}
use Rattle.store_laws.proofs.Hashing.{FitIn, fit_in, in_parts}
use Rattle.std.proofs.Common.{inl, inr}
use Rattle.store_laws.proofs.Deeds.{Deed, IsClear, ActsDo}

-- steps that fit, in two parts
pub fit_parts : {R : Type 0} (join : R → R → R) (ws : Words R) (w : Model R) (first rest : List (Doing R)) → FitAll join ws w (first ++ rest) → FitAll join ws w first × FitAll join ws (world_run join ws w first) rest
fit_parts join ws w [] rest fits = (tt, fits)
fit_parts join ws w (m ∷ first) rest fits = let more = fit_parts join ws (world_next join ws w m) first rest fits.1 in ((fits.0, more.0), more.1)

pub run_parts : {R : Type 0} (join : R → R → R) (ws : Words R) (w : Model R) (first rest : List (Doing R)) → world_run join ws w (first ++ rest) ≡ world_run join ws (world_run join ws w first) rest
run_parts join ws w [] rest = refl
run_parts join ws w (m ∷ first) rest = run_parts join ws (world_next join ws w m) first rest

-- a list writes nothing
no_write : {k : Kind} → k ≡ kind.List → IsTrue (is_write k) → {A : Type 0} → A
no_write e w = (let no : IsTrue (is_write kind.List) = subst (λ (k : Kind). IsTrue (is_write k)) e w in cc)

module _ {H : Deed → Type 0} where
  module _ (every : EveryWorld H) where
    -- ---- deliveries

    module _ (s : State) (q : ℕ) (a : Asked) (at : numbered s.asked q ≡ Some a) (rests : Rests s q) (sound : IsSound H s) (end : PhaseEnd AnyRow) where
      abbrev pub FlowKeeps : Option Flow → Type 0
      FlowKeeps flow = FitIn H s.world (follows s q a end flow).moves → IsSound H (follows s q a end flow).state

      flow_keeps : (flow : Option Flow) → a.flow ≡ flow → IsEnd H s.asked s.draws s.history (sights s) s.world.kept s.world.reads q end → FlowKeeps flow
      flow_keeps None flow_is h fits = sound
      flow_keeps (Some flow) flow_is h fits =
          let stage = sound.stages q a flow at flow_is in
          let numbered_so : flow ≡ flow_of q flow.block flow.stage = (λ i. record { id = stage.0 i; block = flow.block; stage = flow.stage }) in
          subst (λ (f : Flow). FlowKeeps (Some f)) (sym numbered_so)
          (λ fits. stage_keeps every s q a at rests flow.block sound flow.stage end (flow_is ∙ ap Some numbered_so) stage.1 fits h) fits

    follow_keeps : (s : State) (q : ℕ) (asked : Option Asked) (end : PhaseEnd AnyRow) → numbered s.asked q ≡ asked → Rests s q → FitIn H s.world (follow s q asked end).moves → IsSound H s →
        IsEnd H s.asked s.draws s.history (sights s) s.world.kept s.world.reads q end → IsSound H (follow s q asked end).state
    follow_keeps s q None end at rests fits sound h = sound
    follow_keeps s q (Some a) end at rests fits sound h = flow_keeps s q a at rests sound end a.flow refl h fits

    goes_on_keeps : (s : State) (ends : List (Ended AnyRow)) → FitIn H s.world (goes_on s ends).moves → IsSound H s →
        AllByRecursion (λ (e : Ended AnyRow). IsEnd H s.asked s.draws s.history (sights s) s.world.kept s.world.reads e.request e.how × Rests s e.request) ends → IsSound H (goes_on s ends).state
    goes_on_keeps s [] fits sound h = sound
    goes_on_keeps s (e ∷ es) fits sound h = follow_keeps s e.request (numbered s.asked e.request) e.how refl h.0.1 fits sound h.0.0

    pub delivers_keeps : (s : State) (m : ℕ) → FitIn H s.world (delivers s m).moves → IsSound H s → IsSound H (delivers s m).state
    delivers_keeps s m fits sound =
        let d : Moving = plainly (step.Deliver m) in
        let calm = is_calm every s d tt sound in
        goes_on_keeps (doing s d) (effect s d).ends fits.1
        (step_sound s d sound (tt, tt, tt, fits.0.1, tt) fits.0.2 (All-nil (IsGood s.draws)) (calm_fine s (effect s d) sound calm))
        (calm_ends s (effect s d) sound calm)

    drains_keeps : (n : ℕ) (s : State) → FitIn H s.world (drains n s).moves → IsSound H s → IsSound H (drains n s).state
    drains_keeps zero s fits sound = sound
    drains_keeps (suc n) s fits sound =
        elim (undelivered s.world) as (λ o. FitIn H s.world (elim o as (λ o. Outcome) [ None ↦ silent s | Some m ↦ let o = delivers s m in then_drains o (drains n o.state) ]).moves →
        IsSound H (elim o as (λ o. Outcome) [ None ↦ silent s | Some m ↦ let o = delivers s m in then_drains o (drains n o.state) ]).state) [
          | None ↦ λ fits. sound
          | Some m ↦ λ fits.
              let first : Outcome = delivers s m in
              let parts = in_parts H s.world first.moves (drains n first.state).moves fits in
              let leads = delivers_lead s m in
              drains_keeps n first.state (subst (λ w. FitIn H w (drains n first.state).moves) leads parts.1) (delivers_keeps s m parts.0 sound)
        ] fits

    -- ---- requests

    -- a request opens and asks for an object's row
    opens_keeps : (s : State) (a : Asked) (stage : Stage) (name : Name) → (let q = suc (length s.world.requests) in a.flow ≡ Some (flow_of q s.block stage) → IsStage H s.draws (s.history ++ beginning s a ∷ []) q a stage → HasPhase stage →
        ((question : Question AnyRow) → AsksRow name question → AsksFor stage question) → is_member_at layouts s.world a.node ≡ true → Contains s.buckets a.name.bucket → (IsTrue (is_write a.kind) → 1 ≤ length a.name.key) →
        FitIn H s.world (plainly (step.Open a.node) ∷ phases q (asks_for name) ∷ []) → IsSound H s → IsSound H (doing (opening s a) (phases q (asks_for name))))
    opens_keeps s a stage name flow_is is_stage has_phase asks_so member bucket keyed fits sound =
        let q : ℕ = suc (length s.world.requests) in
        let flow : Flow = flow_of q s.block stage in
        let now : State = opening s a in
        let is_open : IsSound H now = opened_sound s a flow flow_is refl is_stage member bucket keyed (tt, tt, tt, fits.0.1, tt) fits.0.2 sound in
        step_sound now (phases q (asks_for name)) is_open (asks_is_meant q name, asks_is_step q name, tt, fits.1.0.1, tt) fits.1.0.2 (All-nil (IsGood s.draws))
        (asks_fine now is_open (reached_different every now.world is_open.reached) q a flow (new_there s a sound) flow_is has_phase name asks_so)

    -- a list opens and scans from the first key on
    lists_open : (s : State) (a : Asked) (bucket prefix : List ℕ) → (let q = suc (length s.world.requests) in a.flow ≡ Some (flow_of q s.block (Listing bucket prefix [])) → a.kind ≡ kind.List → a.name ≡ record { bucket = bucket; key = prefix } →
        is_member_at layouts s.world a.node ≡ true → Contains s.buckets bucket →
        FitIn H s.world (plainly (step.Open a.node) ∷ phases q (asks_past bucket prefix []) ∷ []) → IsSound H s → IsSound H (doing (opening s a) (phases q (asks_past bucket prefix []))))
    lists_open s a bucket prefix flow_is kind_is name_is member there fits sound =
        let q : ℕ = suc (length s.world.requests) in
        let own : Name = record { bucket = bucket; key = prefix } in
        let flow : Flow = flow_of q s.block (Listing bucket prefix []) in
        let now : State = opening s a in
        let is_open : IsSound H now = opened_sound s a flow flow_is refl (kind_is, name_is) member (subst (λ (m : Name). Contains s.buckets m.bucket) (sym name_is) there)
        (λ w. no_write kind_is w) (tt, tt, tt, fits.0.1, tt) fits.0.2 sound in
        let shown : HasShown H now.draws now.history (sights now) q own [] (Some []) = record {
          shown = λ r c. absurd (none_in r c);
          covers = λ clear before after n k key w cut begins within ack.
              let has_begun : Contains now.history (began ack.request ack.node ack.kind (listed own key)) =
              subst (λ (h : List Record). Contains h (began ack.request ack.node ack.kind (listed own key))) (sym cut) (Contains-append_left before (began q n k own ∷ after) _ ack.has_begun) in
              let long : 1 ≤ length key = is_open.told.key_there ack.request ack.node ack.kind (listed own key) has_begun ack.writes in
              let no : true ≡ false = sym within ∙ past_none key long in
              cc;
        } in
        step_sound now (phases q (asks_past bucket prefix [])) is_open (scan_is_meant q bucket prefix [], scan_is_step q bucket prefix [], tt, fits.1.0.1, tt) fits.1.0.2 (All-nil (IsGood s.draws))
        (scans_fine now is_open (reached_different every now.world is_open.reached) q a flow (new_there s a sound) flow_is tt bucket prefix []
        (λ scan position prefix_is after_is. (position, prefix_is, subst (λ (e : List ℕ). HasShown H now.draws now.history (sights now) q own [] (Some e)) (sym after_is) shown)))

    opened_keeps : (s : State) (n : ℕ) (o : Order) → HasKey o → is_member_at layouts s.world n ≡ true → are_buckets s.buckets (buckets_of o) ≡ true → FitIn H s.world (opened s n o).moves → IsSound H s → IsSound H (opened s n o).state
    opened_keeps s n (order.Put bucket key body headers) keyed member buckets fits sound =
        let name : Name = record { bucket = bucket; key = key } in
        opens_keeps s (new_request n (order.Put bucket key body headers) _) (Drawing name (wish.Content (record { body = body; headers = headers }))) name refl (refl, refl) tt (λ question h. h) member
        (bucket_in s.buckets bucket (and_parts (is_bucket s.buckets bucket) true buckets).0) (λ w. keyed) fits sound
    opened_keeps s n (order.Stream bucket key announced headers) keyed member buckets fits sound =
        let name : Name = record { bucket = bucket; key = key } in
        opens_keeps s (new_request n (order.Stream bucket key announced headers) _) (Drawing name (wish.Stream (record { length = announced; headers = headers }))) name refl (refl, refl) tt (λ question h. h) member
        (bucket_in s.buckets bucket (and_parts (is_bucket s.buckets bucket) true buckets).0) (λ w. keyed.0) fits sound
    opened_keeps s n (order.Get bucket key) keyed member buckets fits sound =
        let name : Name = record { bucket = bucket; key = key } in
        opens_keeps s (new_request n (order.Get bucket key) _) (Looking name aim.Get) name refl (refl, refl) tt (λ question h. h) member (bucket_in s.buckets bucket (and_parts (is_bucket s.buckets bucket) true buckets).0) (λ w. cc) fits sound
    opened_keeps s n (order.Head bucket key) keyed member buckets fits sound =
        let name : Name = record { bucket = bucket; key = key } in
        opens_keeps s (new_request n (order.Head bucket key) _) (Looking name aim.Head) name refl (refl, refl) tt (λ question h. h) member (bucket_in s.buckets bucket (and_parts (is_bucket s.buckets bucket) true buckets).0) (λ w. cc) fits sound
    opened_keeps s n (order.Delete bucket key) keyed member buckets fits sound =
        let name : Name = record { bucket = bucket; key = key } in
        opens_keeps s (new_request n (order.Delete bucket key) _) (Drawing name wish.Marker) name refl (refl, refl) tt (λ question h. h) member (bucket_in s.buckets bucket (and_parts (is_bucket s.buckets bucket) true buckets).0) (λ w. keyed) fits sound
    opened_keeps s n (order.Copy from_bucket from_key bucket key headers) keyed member buckets fits sound =
        let name : Name = record { bucket = from_bucket; key = from_key } in
        let new : Name = record { bucket = bucket; key = key } in
        let both = and_parts (is_bucket s.buckets from_bucket) (is_bucket s.buckets bucket && true) buckets in
        opens_keeps s (new_request n (order.Copy from_bucket from_key bucket key headers) _) (Looking name (aim.Copy new headers)) name refl ((refl, refl), tt) tt (λ question h. h) member
        (bucket_in s.buckets bucket (and_parts (is_bucket s.buckets bucket) true both.1).0) (λ w. keyed) fits sound
    opened_keeps s n (order.List bucket prefix) keyed member buckets fits sound =
        lists_open s (new_request n (order.List bucket prefix) _) bucket prefix refl refl refl member (bucket_in s.buckets bucket (and_parts (is_bucket s.buckets bucket) true buckets).0) fits sound

    begins_keeps : (s : State) (n : ℕ) (o : Order) → HasKey o → FitIn H s.world (begins s n o).moves → IsSound H s → IsSound H (begins s n o).state
    begins_keeps s n o keyed fits sound =
        elim (is_member_at layouts s.world n) as (λ b. is_member_at layouts s.world n ≡ b →
        FitIn H s.world (if b then (if are_buckets s.buckets (buckets_of o) then opened s n o else refusal s NoSuchBucket) else refusal s NotMember).moves →
        IsSound H (if b then (if are_buckets s.buckets (buckets_of o) then opened s n o else refusal s NoSuchBucket) else refusal s NotMember).state) [
          | true ↦ λ member. elim (are_buckets s.buckets (buckets_of o)) as (λ b. are_buckets s.buckets (buckets_of o) ≡ b →
              FitIn H s.world (if b then opened s n o else refusal s NoSuchBucket).moves → IsSound H (if b then opened s n o else refusal s NoSuchBucket).state) [
                | true ↦ λ buckets fits. opened_keeps s n o keyed member buckets fits sound
                | false ↦ λ _ fits. sound
              ] refl
          | false ↦ λ _ fits. sound
        ] refl fits

    -- ---- other acts

    -- steps of the world that are acts of their own: no request begins or goes on in them
    pub outer_calm : (st : Step AnyRow) → IsOuter st → IsCalmStep st × IsStep words 256 st × (stored_by st ≡ [])
    outer_calm step.Trio h = (tt, tt, refl)
    outer_calm (step.Role n role) h = (tt, tt, refl)
    outer_calm (step.Redundancy wanted) h = (tt, tt, refl)
    outer_calm (step.Apply n) h = (tt, tt, refl)
    outer_calm (step.Tick ms) h = (tt, tt, refl)
    outer_calm (step.Skew n ms) h = (tt, tt, refl)
    outer_calm (step.Deliver m) h = absurd h
    outer_calm (step.Lose m) h = (tt, tt, refl)
    outer_calm (step.Expire q) h = (tt, tt, refl)
    outer_calm (step.Restart n) h = (tt, tt, refl)
    outer_calm (step.Gossip from to) h = (tt, tt, refl)
    outer_calm (step.Ack n) h = (tt, tt, refl)
    outer_calm (step.Sync n) h = (tt, tt, refl)
    outer_calm (step.SyncAck n) h = (tt, tt, refl)
    outer_calm (step.Clean n) h = (tt, tt, refl)
    outer_calm (step.Work n) h = (tt, tt, refl)
    outer_calm (step.Repair n) h = (tt, tt, refl)
    outer_calm (step.Collect n) h = (tt, tt, refl)
    outer_calm (step.Open n) h = absurd h
    outer_calm (step.Phase q phase) h = absurd h
    outer_calm (step.Close q) h = absurd h

    none_ended : (s : State) → IsSound H s → IsSound H (record s { history = s.history ++ [] })
    none_ended s sound = ended_sound Expired [] s sound

    endings_keep : (s : State) (st : Step AnyRow) (e : Effect AnyRow) → IsSound H s → IsSound H (record s { history = s.history ++ endings st e })
    endings_keep s (step.Expire q) e sound = ended_sound Expired e.closes s sound
    endings_keep s (step.Restart n) e sound = ended_sound Restarted e.lost s sound
    endings_keep s _ e sound = none_ended s sound

    plain_keeps : (s : State) (m : Moving) → IsOuter m.step → IsMeant m.step → IsLawful s.world m → FitIn H s.world (m ∷ []) → IsSound H s → IsSound H (plain s m).state
    plain_keeps s m outer meant lawful fits sound =
        let calm = outer_calm m.step outer in
        endings_keep (doing s m) m.step (effect s m)
        (step_sound s m sound (meant, calm.1, lawful, fits.0.1, tt) fits.0.2 (subst (All (IsGood s.draws)) (sym calm.2) (All-nil (IsGood s.draws))) (calm_fine s (effect s m) sound (is_calm every s m calm.0 sound)))

    pub act_keeps : (s : State) (a : Act) → IsLawfulAct s a → FitIn H s.world (acted s a).moves → IsSound H s → IsSound H (acted s a).state
    act_keeps s (moves m) lawful fits sound = plain_keeps s m lawful.0 lawful.1 lawful.2 fits sound
    act_keeps s (asks n o) lawful fits sound = begins_keeps s n o lawful fits sound
    act_keeps s (delivery m) lawful fits sound = delivers_keeps s m fits sound
    act_keeps s (drain n) lawful fits sound = drains_keeps n s fits sound
    act_keeps s (installs first) lawful fits sound = installing_sound s first lawful.0 lawful.1 sound
    act_keeps s forgets lawful fits sound = forgetting_sound s sound
    act_keeps s (takes_end q) lawful fits sound = ends_sound s (without_end s.ends q) sound
    act_keeps s (adds name) lawful fits sound = bucket_sound s name sound
    act_keeps s (cuts block) lawful fits sound = block_sound s block sound
    act_keeps s (feeds q bytes) lawful fits sound = feeding_keeps every s q sound bytes fits
    act_keeps s (keeps q) lawful fits sound = keeping_keeps every s q sound fits
    act_keeps s (gives_up q) lawful fits sound = giving_up_keeps every s q sound fits

    pub acts_keep : (s : State) (as' : List Act) → AreLawfulActs s as' → ActsFit s as' → ((d : Deed) → ActsDo s as' d → H d) → IsSound H s → IsSound H (after_acts s as')
    acts_keep s [] lawful fit all sound = sound
    acts_keep s (a ∷ as') lawful fit all sound =
        acts_keep (acted s a).state as' lawful.1 fit.1 (λ x h. all x (inr h)) (act_keeps s a lawful.0 (fit_in H s.world (acted s a).moves fit.0 (λ x h. all x (inl h))) sound)

    pub acts_fresh : (as' : List Act) → AreLawfulActs start as' → ActsFit start as' → ((d : Deed) → ActsDo start as' d → H d) → IsClear H → IsFresh (after_acts start as')
    acts_fresh as' lawful fit all clear = (acts_keep start as' lawful fit all start_sound).fresh clear
