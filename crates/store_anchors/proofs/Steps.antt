-- Steps of the world: those that no request begins a phase in, a phase that begins, and a request that opens.
use Rattle.std.specs.Prelude.{◌≡◌, ◌==◌, ◌≤◌, ℕ, suc, true, false, cond, Some, None, List, [], ◌∷◌, ◌++◌, length, refl, Option}
use Rattle.std.specs.Option.{unwrap_or}
use Rattle.std.proofs.Common.{ap, sym, subst, ◌∙◌, inl, inr, arith}
use Rattle.std.specs.List.{All, AllByRecursion, Contains}
use Rattle.std.proofs.lemmas.List.Elements.{All-nil, Contains-append_left}
use Rattle.crdt_core.specs.Members.{Has}
use Rattle.crdt_rows.specs.declared.any_row.AnyRow.{AnyRow}
use Rattle.crdt_rows.specs.AnyRow.{any_join}
use Rattle.layout_roles.specs.declared.layout.Layout.{Layout}
use Rattle.object_schema.specs.Schema.{words}
use Rattle.wire_messages.specs.declared.phase.Phase.{Phase}
use Rattle.wire_messages.specs.declared.phase.PhaseEnd.{PhaseEnd}
use Rattle.wire_messages.specs.declared.phase.PhaseEnd.TheVariants.{Row as Answered, Window, Kept, Block}
use Rattle.cluster_machine.specs.Blocks.{StepBringsBlocks}
use Rattle.cluster_machine.specs.Keeping.{AreDifferent}
use Rattle.cluster_machine.specs.Layouts.{layouts}
use Rattle.cluster_machine.specs.Node.{Present, asking, scanning, storing, fetching, Call, Node, Ended, Reading, Question, read}
use Rattle.cluster_machine.specs.Phases.{opened}
use Rattle.cluster_machine.specs.Run.{IsStep}
use Rattle.cluster_machine.specs.Step.{changed, only}
use Rattle.cluster_machine.specs.Trio.{trio, stage_trio}
use Rattle.cluster_machine.specs.World.{is_member_at, numbered}
use Rattle.cluster_machine.specs.Worlds.{IsMeant, newest_at, next}
use Rattle.cluster_machine.specs.declared.step.Step.TheVariants as step
use Rattle.machine_origins.specs.Following.{EndsSo, AtMostOne, Began}
use Rattle.machine_origins.specs.Origins.{stored_by}
use Rattle.row_codec.specs.NumberLaws.{some_is}
use Rattle.flow_model.specs.declared.flow.Flow.{Flow}
use Rattle.store_model.specs.Run.{World, Moving, State, Asked, plainly, effect, doing, phases}
use Rattle.machine_origins.proofs.Calm.{IsCalm, IsCalmStep, calm_step}
use Rattle.store_laws.proofs.Elements.{none_in, only as only_one}
use Rattle.store_laws.proofs.Grown.{asked_told}
use Rattle.store_laws.proofs.Ends.{asked_of}
use Rattle.store_laws.proofs.Opening.{beginning, opening}
use Rattle.machine_origins.proofs.Places.{numbered_push_cases, numbered_within}
use Rattle.store_laws.proofs.Sound.{IsSound, sights}
use Rattle.store_anchors.proofs.Kept.{Past, Grows, IsRowOf, replaced_asked}
use Rattle.block_laws.specs.Fetched.{Fetched, EndedSo, GaveItsBlock}
use Rattle.cluster_machine.specs.Run.{run as machine_run, does as machine_does}
use Rattle.cluster_machine.specs.World.{empty}
use Rattle.cluster_machine.specs.Worlds.{Done as Effect, IsLawful, IsLawfulRun, run}
use Rattle.history_model.specs.declared.record.Cause.TheVariants.{Superseded}
use Rattle.history_model.specs.declared.record.Record.TheVariants.{Ended as Gone}
use Rattle.store_laws.proofs.Alike.{StepsAlike}
use Rattle.store_laws.proofs.Reached.{reached_alike, reached_different}
use Rattle.store_anchors.proofs.Machine.{IsEndOf, reached_end}
use Rattle.store_anchors.specs.Stored.{blocks_of}
use Rattle.store_anchors.proofs.Among.{digest_among, digest_there, steps_among}
use Rattle.store_anchors.proofs.Cited.{Cited}
use Rattle.store_anchors.proofs.Laid.{digest, Holds, Stores, Asks, Gets, Awaits, AreRows, IsFit, past, past_after, after_grows, blocks_old, IsLaid, IsLaidIn, IsApt, IsStepOf, still_of, holds_later, fit_later, fit_continues, laid_step, laid_told, Scans}
use Rattle.store_anchors.proofs.Phases.{phase_begun}
use Rattle.store_laws.proofs.Hashing.{FitIn}
use Rattle.store_laws.proofs.Deeds.{Deed}

-- ---- a phase that ended

-- a store phase of request q ended, and its rows are kept
pub record HasPut (asked : List Asked) (p : Past) (q : ℕ) : Type 0 where
  pub rows : List AnyRow
  pub are_there : (r : AnyRow) → Contains rows r → Contains p.kept r
  pub stores : (a : Asked) (flow : Flow) → numbered asked q ≡ Some a → a.flow ≡ Some flow → Stores p flow.block flow.stage rows

-- a read phase of request q ended with this value
pub record HasTaken (asked : List Asked) (p : Past) (reads : List (Reading AnyRow)) (q : ℕ) (value : Option AnyRow) : Type 0 where
  pub question : Question AnyRow
  pub is_there : Contains reads (read question value)
  pub asks : (a : Asked) (flow : Flow) → numbered asked q ≡ Some a → a.flow ≡ Some flow → Asks p flow.stage question

-- a block phase of request q ended with these bytes, which are a block that was stored
pub record HasFetched (asked : List Asked) (p : Past) (q : ℕ) (bytes : List ℕ) : Type 0 where
  pub hash : List ℕ
  pub gets : (a : Asked) (flow : Flow) → numbered asked q ≡ Some a → a.flow ≡ Some flow → Gets p flow.stage hash
  pub told : (of : List ℕ) → hash ≡ digest of → Contains p.blocks bytes × (digest bytes ≡ digest of)

-- a range phase of request q ended
pub record HasLooked (asked : List Asked) (q : ℕ) : Type 0 where
  pub scans : (a : Asked) (flow : Flow) → numbered asked q ≡ Some a → a.flow ≡ Some flow → Scans flow.stage

-- what is known of a phase that ended so
abbrev pub HasGot : List Asked → Past → List (Reading AnyRow) → ℕ → PhaseEnd AnyRow → Type 0
HasGot asked p reads q (Answered value) = HasTaken asked p reads q value
HasGot asked p reads q (Window rows end) = HasLooked asked q
HasGot asked p reads q Kept = HasPut asked p q
HasGot asked p reads q (Block bytes) = HasFetched asked p q bytes

module _ (asked : List Asked) (old new : Past) (more : Grows old new) (keeps : List AnyRow) (reads before : List (Reading AnyRow)) (here : (r : AnyRow) → Contains keeps r → Contains new.kept r) where
  -- what is kept is a write's
  abbrev pub AreWrites : Type 0
  AreWrites = (r : AnyRow) → Contains keeps r → IsRowOf old r

  -- a phase that gave bytes fetched them
  abbrev pub FetchedSo : ℕ → PhaseEnd AnyRow → Type 0
  FetchedSo q how = (bytes : List ℕ) → how ≡ Block bytes → HasFetched asked new q bytes

  none_kept : keeps ≡ [] → AreWrites
  none_kept e = λ r c. absurd (none_in r (subst (λ k. Contains k r) e c))

  one_got : (q : ℕ) (p : Present AnyRow) (how : PhaseEnd AnyRow) → FetchedSo q how → IsFit asked old q p → EndsSo p how keeps reads → HasGot asked new (reads ++ before) q how × AreWrites
  one_got q (asking question as') (Answered value) fetched fit so = (
    record { question = question; is_there = subst (λ r. Contains (r ++ before) (read question value)) (sym so.1) (0, omega arith, refl); asks = (fit_later old new more asked q (asking question as') fit).awaits },
    none_kept so.0,
  )
  one_got q (scanning scan as') (Window rows end) fetched fit so = (record { scans = fit.awaits }, none_kept so.0)
  one_got q (storing rows slots) Kept fetched fit so = (
    record { rows = rows; are_there = λ r c. here r (subst (λ k. Contains k r) (sym so.0) c); stores = (fit_later old new more asked q (storing rows slots) fit).awaits },
    (λ r c. fit.rows r (subst (λ k. Contains k r) so.0 c)),
  )
  one_got q (fetching hash) (Block bytes) fetched fit so = (fetched bytes refl, none_kept so.0)
  one_got q _ _ fetched fit so = absurd so

  abbrev pub Got : Ended AnyRow → Type 0
  Got e = HasGot asked new (reads ++ before) e.request e.how

  ends_got : (calls later : List (Call AnyRow)) (ends : List (Ended AnyRow)) → ((e : Ended AnyRow) → Contains ends e → FetchedSo e.request e.how) → ((c : Call AnyRow) → Has calls c → IsFit asked old c.request c.present) →
      AtMostOne calls later ends keeps reads → AllByRecursion Got ends × AreWrites
  ends_got calls later [] fetched are one = (tt, none_kept one.0)
  ends_got calls later (e ∷ []) fetched are one =
      let was : IsFit asked old e.request one.call.present = subst (λ q. IsFit asked old q one.call.present) one.request (are one.call one.is_there) in
      let o = one_got e.request one.call.present e.how (fetched e (0, omega arith, refl)) was one.ends_so in
      ((o.0, tt), o.1)
  ends_got calls later (e ∷ f ∷ es) fetched are one = absurd one

-- ---- a step in which no phase begins

module _ {H : Deed → Type 0} where
  module _ (cited : Cited H) (moves : List Moving) (s : State) (m : Moving) (lawful : IsLawfulRun any_join words s.world (m ∷ [])) (calm : IsCalm s.world (effect s m)) (laid : IsLaidIn H moves s) where
    abbrev now : Past
    now = past_after moves s m

    abbrev was : Past
    was = past moves s.world s.draws

    -- a phase that gave bytes fetched them
    fetched : (e : Ended AnyRow) → Contains (effect s m).ends e → (bytes : List ℕ) → e.how ≡ Block bytes → HasFetched s.asked now e.request bytes
    fetched e c bytes how =
        let blocks : List (List ℕ) = blocks_of moves in
        let r = laid.reached in
        let v : World = run any_join words r.begin r.moves in
        let like : StepsAlike s.world v m = reached_alike s.world m r lawful in
        let ends : IsEndOf (IsStepOf moves) v = reached_end cited.every cited.clear s.world r (still_of moves step.Trio tt refl refl) in
        let v_there : Contains (machine_does any_join words layouts ends.first ends.roles v like.move).ends e =
        subst (λ es. Contains es e) (like.ends ∙ ap (λ (x : Effect AnyRow). x.ends) (ends.same like.move)) c in
        let there : Contains (machine_does any_join words layouts ends.first ends.roles (machine_run any_join words layouts ends.first ends.roles empty ends.moves) like.move).ends e =
        subst (λ (w : World). Contains (machine_does any_join words layouts ends.first ends.roles w like.move).ends e) (sym ends.leads) v_there in
        let gave : GaveItsBlock (digest_among blocks) v e =
        subst (λ (w : World). GaveItsBlock (digest_among blocks) w e) ends.leads
        (cited.gives (digest_among blocks) ends.first ends.roles ends.moves like.move ends.is_run (steps_among moves ends.moves ends.are) e there) in
        let is : Fetched (digest_among blocks) v e.request bytes = subst (EndedSo (digest_among blocks) v e.request) how gave in
        let here : Has (s.world.nodes is.node).calls is.call = subst (λ (w : World). Has (w.nodes is.node).calls is.call) (sym r.alike.is) is.is_there in
        let fit : IsFit s.asked now e.request is.call.present =
        subst (λ (q : ℕ). IsFit s.asked now q is.call.present) is.of_request (fit_later was now (after_grows moves s m) s.asked is.call.request is.call.present (laid.fits is.node is.call here)) in
        record {
          hash = is.hash;
          gets = λ a flow at flow_is. subst (Awaits now flow.block flow.stage) is.fetches (fit.awaits a flow at flow_is);
          told = λ of same. (let both = digest_there blocks bytes of (is.has_digest ∙ same) in (blocks_old moves m bytes both.0, both.1));
        }

    calm_both : AllByRecursion (λ (x : Ended AnyRow). HasGot s.asked now ((effect s m).reads ++ s.world.reads) x.request x.how) (effect s m).ends × ((r : AnyRow) → Contains (effect s m).keeps r → IsRowOf was r)
    calm_both =
        ends_got s.asked was now (after_grows moves s m) (effect s m).keeps (effect s m).reads s.world.reads (λ r c. Contains-append_left (effect s m).keeps s.world.kept r c) (s.world.nodes calm.node).calls (changed (effect s m).nodes s.world.nodes calm.node).calls (effect s m).ends
        fetched (laid.fits calm.node) calm.ends

    pub calm_apt : IsApt moves s m
    calm_apt = record {
      keeps = calm_both.1;
      fits = λ n c h. fit_later was now (after_grows moves s m) s.asked c.request c.present (fit_continues was s.asked (s.world.nodes n).calls (laid.fits n) c (calm.calls n c h));
    }

    pub calm_got : AllByRecursion (λ (x : Ended AnyRow). HasGot s.asked now ((effect s m).reads ++ s.world.reads) x.request x.how) (effect s m).ends
    calm_got = calm_both.0

  module _ (cited : Cited H) where
    pub laid_different : (moves : List Moving) (s : State) → IsLaidIn H moves s → (n : ℕ) → AreDifferent (s.world.nodes n).calls
    laid_different moves s laid n = reached_different cited.every s.world laid.reached n

    pub calm_now : (moves : List Moving) (s : State) (m : Moving) → IsCalmStep m.step → IsLaidIn H moves s → IsCalm s.world (effect s m)
    calm_now moves s m calm laid = calm_step any_join words layouts trio stage_trio s.world (laid_different moves s laid) m.step m.choice calm

    pub calm_laid : (moves : List Moving) (s : State) (m : Moving) → IsCalmStep m.step → stored_by m.step ≡ [] → StepBringsBlocks digest words m.step → IsMeant m.step → IsStep words 256 m.step → IsLawful s.world m → FitIn H s.world (m ∷ []) → IsLaidIn H moves s →
        IsLaidIn H (moves ++ m ∷ []) (doing s m)
    calm_laid moves s m calm none brings meant step lawful fits laid =
        let is_lawful : IsLawfulRun any_join words s.world (m ∷ []) = (meant, step, lawful, fits.0.1, tt) in
        laid_step moves s m fits.0.0 fits.0.2 is_lawful brings (subst (All (IsRowOf (past moves s.world s.draws))) (sym none) (All-nil _)) (calm_apt cited moves s m is_lawful (calm_now moves s m calm laid) laid) laid

    -- ---- a phase begins

    pub begin_laid : (moves : List Moving) (s : State) (q : ℕ) (a : Asked) (flow : Flow) (phase : Phase AnyRow) → numbered s.asked q ≡ Some a → a.flow ≡ Some flow →
        IsMeant (phases q phase).step → IsStep words 256 (phases q phase).step → StepBringsBlocks digest words (phases q phase).step → All (IsRowOf (past moves s.world s.draws)) (stored_by (phases q phase).step) →
        ((p : Present AnyRow) → Began s.world.kept phase p → AreRows (past_after moves s (phases q phase)) p × Awaits (past_after moves s (phases q phase)) flow.block flow.stage p) →
        FitIn H s.world (phases q phase ∷ []) → IsLaidIn H moves s → IsLaidIn H (moves ++ phases q phase ∷ []) (doing s (phases q phase))
    begin_laid moves s q a flow phase at flow_is meant step brings stores begins fits laid =
        let m : Moving = phases q phase in
        let new : Past = past_after moves s m in
        let now : (n : ℕ) (c : Call AnyRow) → c.request ≡ q → Began s.world.kept phase c.present → IsFit s.asked new c.request c.present = (λ n c own begun.
        let both = begins c.present begun in
        record {
          rows = both.0;
          awaits = λ o f there is.
              let some_is : Some o ≡ Some a = sym there ∙ (ap (numbered s.asked) own ∙ at) in
              let one_is : o ≡ a = cc in
              let flows : Some flow ≡ Some f = sym flow_is ∙ (ap (λ (x : Asked). x.flow) (sym one_is) ∙ is) in
              let same : flow ≡ f = cc in
              subst (λ (g : Flow). Awaits new g.block g.stage c.present) same both.1;
        }) in
        let begun = phase_begun s.world (laid_different moves s laid) q phase (λ n c. IsFit s.asked new c.request c.present)
        (λ n c h. fit_later (past moves s.world s.draws) new (after_grows moves s m) s.asked c.request c.present (laid.fits n c h)) now in
        laid_step moves s m fits.0.0 fits.0.2 (meant, step, tt, fits.0.1, tt) brings stores (record {
          keeps = λ r c. absurd (none_in r (subst (λ k. Contains k r) begun.keeps c));
          fits = begun.calls;
        }) laid

    -- ---- a request opens

    pub open_laid : (moves : List Moving) (s : State) (a : Asked) (flow : Flow) → a.flow ≡ Some flow → Holds (past moves s.world s.draws) (suc (length s.world.requests)) flow.block flow.stage → is_member_at layouts s.world a.node ≡ true →
        FitIn H s.world (plainly (step.Open a.node) ∷ []) → IsSound H s → IsLaidIn H moves s → IsLaidIn H (moves ++ plainly (step.Open a.node) ∷ []) (opening s a)
    open_laid moves s a flow flow_is hold member fits sound laid =
        let q : ℕ = suc (length s.world.requests) in
        let n : ℕ = a.node in
        let asked : List Asked = s.asked ++ a ∷ [] in
        let m : Moving = plainly (step.Open n) in
        let before : Past = past moves s.world s.draws in
        let now : Past = past_after moves s m in
        let grows : Grows before now = after_grows moves s m in
        let y : Node AnyRow Layout = opened q (newest_at s.world n) (s.world.nodes n) in
        let lengths : length s.asked ≡ length s.world.requests = sound.lengths in
        let keeps : (effect s m).keeps ≡ [] = rw member refl in
        let nodes_are : changed (effect s m).nodes s.world.nodes ≡ changed (only n y) s.world.nodes = rw member refl in
        let old : (k : ℕ) (c : Call AnyRow) → Has (s.world.nodes k).calls c → IsFit asked before c.request c.present = (λ k c h.
        let was = laid.fits k c h in
        record {
          rows = was.rows;
          awaits = λ o f there is. elim (numbered_push_cases s.asked a c.request o there) [
            | inl there ↦ was.awaits o f there is
            | inr e ↦
                let here = asked_of H s.asked s.draws s.history (sights s) k c.request c.present (sound.presents k c h) in
                let low : c.request ≤ length s.asked = numbered_within s.asked c.request here.one here.is_there in
                let high : c.request ≡ suc (length s.asked) = e.0 in
                absurd (omega arith)
          ];
        }) in
        let place : (asked : List Asked) → ((k : ℕ) (c : Call AnyRow) → Has (s.world.nodes k).calls c → IsFit asked before c.request c.present) →
        (k : ℕ) (c : Call AnyRow) → Has (changed (effect s m).nodes s.world.nodes k).calls c → IsFit asked now c.request c.present = (λ asked old.
        let later : (k : ℕ) (c : Call AnyRow) → Has (s.world.nodes k).calls c → IsFit asked now c.request c.present = (λ k c h. fit_later before now grows asked c.request c.present (old k c h)) in
        let here : (c : Call AnyRow) → Has y.calls c → IsFit asked now c.request c.present = (λ c h. elim h [
          | inl is ↦ subst (λ (d : Call AnyRow). IsFit asked now d.request d.present) is (record { rows = tt; awaits = λ o f there same. tt })
          | inr more ↦ later n c more
        ]) in
        let each : (k : ℕ) (c : Call AnyRow) → Has (changed (only n y) s.world.nodes k).calls c → IsFit asked now c.request c.present = (λ k.
        elim (k == n) as (λ b. (k == n) ≡ b → (c : Call AnyRow) → Has (unwrap_or (cond b (Some y) None) (s.world.nodes k)).calls c → IsFit asked now c.request c.present) [
          | true ↦ (λ t. here)
          | false ↦ (λ f. later k)
        ] refl) in
        subst (λ (f : ℕ → Node AnyRow Layout). (k : ℕ) (c : Call AnyRow) → Has (f k).calls c → IsFit asked now c.request c.present) (sym nodes_are) each) in
        let after : IsLaid H (moves ++ m ∷ []) (next any_join words s.world m) s.asked s.draws s.history =
        laid_step moves s m fits.0.0 fits.0.2 (tt, tt, tt, fits.0.1, tt) tt (All-nil _) (record { keeps = λ r c. absurd (none_in r (subst (λ k. Contains k r) keeps c)); fits = place s.asked laid.fits }) laid in
        let told : IsLaid H (moves ++ m ∷ []) (next any_join words s.world m) s.asked s.draws (s.history ++ beginning s a ∷ []) =
        laid_told (moves ++ m ∷ []) (next any_join words s.world m) s.asked s.draws s.history (beginning s a ∷ []) (λ p id c. (let no : beginning s a ≡ Gone p (Superseded id) = only_one (beginning s a) (Gone p (Superseded id)) c in cc)) after in
        record {
          room = after.room;
          superseded = λ p id c. replaced_asked now s.asked asked (asked_told s.asked a) p id (told.superseded p id c);
          reached = after.reached;
          stored = after.stored;
          kept = after.kept;
          stages = λ p o f there is. elim (numbered_push_cases s.asked a p o there) [
            | inl was ↦ after.stages p o f was is
            | inr e ↦
                let q_is : q ≡ p = ap suc (sym lengths) ∙ sym e.0 in
                let flows : Some flow ≡ Some f = sym flow_is ∙ (ap (λ (x : Asked). x.flow) e.1 ∙ is) in
                let same : flow ≡ f = some_is flow f flows in
                holds_later before now grows p f.block f.stage (subst (λ (g : Flow). Holds before p g.block g.stage) same (subst (λ (r : ℕ). Holds before r flow.block flow.stage) q_is hold))
          ];
          fits = place asked old;
        }
