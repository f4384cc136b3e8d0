-- What the client of a streamed upload does keeps what was stored with its blocks, and what stays so of versions.
use Rattle.std.specs.Prelude.{◌≡◌, ◌<◌, ◌≤◌, ◌^◌, ◌*◌, ℕ, Bool, true, false, Option, Some, None, if◌then◌else◌, List, [], ◌∷◌, ◌++◌, length, refl}
use Rattle.std.proofs.Common.{ap, sym, subst, ◌∙◌, inl, inr, arith}
use Rattle.std.specs.List.{Contains}
use Rattle.std.specs.Option.{option_and_then}
use Rattle.std.proofs.lemmas.List.{append-nil}
use Rattle.crdt_rows.specs.declared.version.Version.{Version}
use Rattle.crdt_rows.specs.declared.any_row.AnyRow.{AnyRow}
use Rattle.wire_messages.specs.declared.phase.Phase.TheVariants.{Store}
use Rattle.cluster_machine.specs.World.{numbered}
use Rattle.machine_origins.specs.Origins.{stored_in}
use Rattle.flow_model.specs.declared.flow.Name.{Name}
use Rattle.flow_model.specs.declared.flow.Coming.{Coming}
use Rattle.flow_model.specs.declared.flow.Content.{Content}
use Rattle.flow_model.specs.declared.flow.Wish.TheVariants as wish
use Rattle.flow_model.specs.declared.flow.Stage.{Stage}
use Rattle.flow_model.specs.declared.flow.Stage.TheVariants.{Receiving, Needing, Aborting, Completing}
use Rattle.flow_model.specs.declared.flow.Flow.{Flow}
use Rattle.flow_model.specs.Rows.{meta_of, content_of, aborted, complete, rows_at}
use Rattle.flow_model.specs.Next.{stores, wanted}
use Rattle.flow_model.specs.Streams.{Step, need_of, fed, finished, given_up}
use Rattle.store_model.specs.Run.{Moving, State, Asked, Draw, Outcome, silent, effect, phases, set_flow, goes as goes_on, is_open_at, needed, need_at, heard_in, heard, fills_in, fills_at, feeding, keeping, giving_up}
use Rattle.store_model.specs.Acts.{IsLawfulAct, feeds}
use Rattle.store_laws.proofs.Acting.{number_fits}
use Rattle.store_laws.proofs.Elements.{none_in, cons_cases}
use Rattle.store_laws.proofs.Going.{flow_of}
use Rattle.store_laws.proofs.Grown.{Rests}
use Rattle.store_laws.proofs.Hashing.{FitIn}
use Rattle.store_laws.proofs.Hearing.{needing_rests}
use Rattle.store_laws.proofs.Once.{IsOnceIn}
use Rattle.store_laws.proofs.Sound.{IsSound}
use Rattle.store_anchors.specs.Copied.{Copying}
use Rattle.store_anchors.specs.Stored.{blocks_of}
use Rattle.store_anchors.proofs.Acting.{OutcomeLaid, goes, draws_on}
use Rattle.store_anchors.proofs.Cited.{Cited}
use Rattle.store_anchors.proofs.Coming.{row_old, row_new}
use Rattle.store_anchors.proofs.Fated.{IsFated, IsFatedIn}
use Rattle.store_anchors.proofs.Fating.{OutcomeFated, one_step, complete_names_none, fed_fated, kept_fated, given_up_fated}
use Rattle.store_anchors.proofs.Going.{fed_laid, aborting_laid, completes_laid}
use Rattle.store_anchors.proofs.Kept.{Past, HasAll, IsLong}
use Rattle.store_anchors.proofs.Laid.{HasReceived, AreStored, past, IsLaidIn}
use Rattle.store_anchors.proofs.Lines.{tells_none}
use Rattle.store_anchors.proofs.Taking.{AreTaken, IsTakenIf, followed_first}
use Rattle.store_anchors.proofs.Told.{complete_given_up}
use Rattle.store_laws.proofs.Deeds.{Deed}

-- a draw of a copy took what was written before it
taken_there : {C : Type 0} (blocks : List (List ℕ)) (copy : Copying) (draws : List Draw) (d : Draw) → Contains draws d → AreTaken C blocks copy draws → d.request ≡ copy.request → (older : List Draw) × IsTakenIf C blocks older copy d.wish
taken_there blocks copy [] d c taken own = absurd (none_in d c)
taken_there {C = C} blocks copy (x ∷ older) d c taken own = elim (cons_cases x older d c) [
  | inl here ↦ subst (λ (y : Draw). (before : List Draw) × IsTakenIf C blocks before copy y.wish) here (older, taken.0 (ap (λ (y : Draw). y.request) here ∙ own))
  | inr more ↦ taken_there blocks copy older d more taken.1 own
]

-- what is needed of an open request is needed by its flow
needed_so : (is_open : Bool) (o : Option ℕ) (n : ℕ) → (if is_open then o else None) ≡ Some n → o ≡ Some n
needed_so true o n e = e
needed_so false o n e = cc

module _ {H : Deed → Type 0} where
  module _ (cited : Cited H) (ms : List Moving) (s : State) (q : ℕ) (a : Asked) (at : numbered s.asked q ≡ Some a) (sound : IsSound H s) (once : IsOnceIn s) (fated : IsFatedIn ms s) (laid : IsLaidIn H ms s) where
    module _ (block : ℕ) (name : Name) (v : Version) (coming : Coming) (received : List ℕ) (flow_is : a.flow ≡ Some (flow_of q block (Needing name v coming received))) where
      abbrev f : Flow
      f = flow_of q block (Needing name v coming received)

      rests : Rests s q
      rests = needing_rests cited.every s q a at sound f flow_is (λ no. no)

      abbrev p : Past
      p = past ms s.world s.draws

      has : HasReceived p q block name v coming received × AreStored p block v received
      has = laid.stages q a f at flow_is

      abbrev stream : Draw
      stream = record { request = q; name = name; version = v; wish = wish.Stream coming; block = block; moment = has.0.moment }

      id_is : v.id ≡ q
      id_is = (sound.drawn stream has.0.drawn).id_is

      -- what is needed
      wants : (n : ℕ) → need_at s q ≡ Some n → wanted q block coming received ≡ n
      wants n e =
          let so : needed (numbered s.asked q) ≡ Some n = needed_so (is_open_at s.world q) (needed (numbered s.asked q)) n e in
          let here : Some (wanted q block coming received) ≡ Some n = sym (ap (λ (o : Option Asked). needed o) at ∙ ap (λ (o : Option Flow). option_and_then need_of o) flow_is) ∙ so in
          cc

      -- ---- a block has come

      module _ (bytes : List ℕ) (is : wanted q block coming received ≡ length bytes) (some : 1 ≤ length bytes) where
        fed_so : (let o : Outcome = goes_on s q a [] (flow_of q block (Receiving name v coming (received ++ bytes))) (Store (rows_at v.id (length received) bytes)) in FitIn H s.world o.moves → OutcomeLaid H ms s o)
        fed_so fits =
            let small : v.id < 2 ^ 64 = subst (λ (i : ℕ). i < 2 ^ 64) (sym id_is) (number_fits s q a (effect s (phases q (Store (rows_at v.id (length received) bytes)))) at sound fits.0.0) in
            goes cited ms s q a at rests block laid (Receiving name v coming (received ++ bytes)) (Store (rows_at v.id (length received) bytes))
            (fed_laid cited ms s q a at rests block laid name v coming received bytes small has.0 has.1 is some) (λ copy it. tt) fits

        fed_stays : OutcomeFated ms (goes_on s q a [] (flow_of q block (Receiving name v coming (received ++ bytes))) (Store (rows_at v.id (length received) bytes)))
        fed_stays =
            let more : length received < coming.length = omega (arith, is, some) in
            let size : length received ≡ has.0.count * block = has.0.whole more in
            let few : length bytes ≤ block = omega (arith, is) in
            one_step ms s sound once laid fated q a at (phases q (Store (rows_at v.id (length received) bytes))) (set_flow s q a (Some (flow_of q block (Receiving name v coming (received ++ bytes))))) s.draws
            (fed_fated ms s sound once laid fated q a at block name v coming received flow_is id_is bytes (row_old block received bytes has.0.count size some few v.id) (row_new block received bytes has.0.count size some few v.id))

      -- ---- it is given up

      given_up_so : (let o : Outcome = goes_on s q a [] (flow_of q block (Aborting v)) (stores (aborted name v)) in FitIn H s.world o.moves → OutcomeLaid H ms s o)
      given_up_so fits =
          goes cited ms s q a at rests block laid (Aborting v) (stores (aborted name v)) (aborting_laid cited ms s q a at rests block laid name v stream has.0.drawn refl refl) (λ copy it. tt) fits

      given_up_stays : OutcomeFated ms (goes_on s q a [] (flow_of q block (Aborting v)) (stores (aborted name v)))
      given_up_stays = one_step ms s sound once laid fated q a at (phases q (stores (aborted name v))) (set_flow s q a (Some (flow_of q block (Aborting v)))) s.draws
          (given_up_fated ms s sound once laid fated q a at block name v coming received flow_is id_is)

      -- ---- it is kept

      abbrev full : Draw
      full = record { request = q; name = name; version = v; wish = wish.Content (content_of coming received); block = block; moment = length s.history }

      abbrev after : Stage
      after = Completing v (Some (meta_of (content_of coming received)))

      abbrev row : AnyRow
      row = complete name v block (wish.Content (content_of coming received))

      whole : (c : Content) → IsLong (full ∷ s.draws) full c → HasAll p v.id block c.body
      whole c l =
          let contents : wish.Content (content_of coming received) ≡ wish.Content c = l.wish_is in
          let same : content_of coming received ≡ c = cc in
          subst (λ (x : Content). HasAll p v.id block x.body) same (record { each = has.1; count = length received; ends = has.0.ends })

      kept_so : (let o : Outcome = goes_on s q a (full ∷ []) (flow_of q block after) (stores row) in FitIn H s.world o.moves → OutcomeLaid H ms s o)
      kept_so fits =
          draws_on cited ms s q a at rests block laid (full ∷ []) after (stores row) (completes_laid cited ms s q a at rests block laid (full ∷ []) full (Some (meta_of (content_of coming received))) (0, omega arith, refl) tt refl whole)
          (refl, tt) (λ copy it. (
            tt,
            (
              (λ own.
                  let was = taken_there (blocks_of ms) copy s.draws stream has.0.drawn it.1.taken own in
                  let taken = was.1 in
                  let no : wish.Stream coming ≡ wish.Content taken.content = taken.wish_is in
                  cc),
              it.1.taken,
            ),
          )) fits

      kept_stays : OutcomeFated ms (goes_on s q a (full ∷ []) (flow_of q block after) (stores row))
      kept_stays = one_step ms s sound once laid fated q a at (phases q (stores row)) (set_flow s q a (Some (flow_of q block after))) (full ∷ s.draws)
          (kept_fated ms s sound once laid fated q a at block name v coming received flow_is id_is full refl refl refl refl row (complete_names_none name v block (wish.Content (content_of coming received)))
          (complete_given_up name v block (wish.Content (content_of coming received))) (flow_of q block after) (λ stored size. tt))

    -- ---- whatever the request waits for

    module _ (P : Outcome → Type 0) (says : Flow → Step) (fills : Option Flow → List Draw) (quiet : P (silent (record s { draws = fills None ++ s.draws })))
        (each : (block : ℕ) (stage : Stage) → a.flow ≡ Some (flow_of q block stage) → P (heard_in (record s { draws = fills (Some (flow_of q block stage)) ++ s.draws }) q says a (Some (flow_of q block stage)))) where
      in_heard : (flow : Option Flow) → a.flow ≡ flow → P (heard_in (record s { draws = fills flow ++ s.draws }) q says a flow)
      in_heard None flow_is = quiet
      in_heard (Some flow) flow_is =
          let stage = sound.stages q a flow at flow_is in
          let numbered_so : flow ≡ flow_of q flow.block flow.stage = (λ i. record { id = stage.0 i; block = flow.block; stage = flow.stage }) in
          subst (λ (g : Flow). P (heard_in (record s { draws = fills (Some g) ++ s.draws }) q says a (Some g))) (sym numbered_so) (each flow.block flow.stage (flow_is ∙ ap Some numbered_so))

    abbrev pub IsLaidSo : Outcome → Type 0
    IsLaidSo o = FitIn H s.world o.moves → OutcomeLaid H ms s o

    abbrev pub StaysSo : Outcome → Type 0
    StaysSo o = OutcomeFated ms o

    silent_so : IsLaidSo (silent s)
    silent_so fits = (subst (λ k. IsLaidIn H k s) (sym (append-nil ms)) laid, tells_none (past (ms ++ []) s.world s.draws), followed_first ms [] s.draws s.asked s.history)

    silent_stays : StaysSo (silent s)
    silent_stays = subst (λ (k : List Moving). IsFated (stored_in k) s.asked s.draws) (sym (append-nil ms)) fated

    stage_fed : (bytes : List ℕ) → need_at s q ≡ Some (length bytes) → 1 ≤ length bytes → (block : ℕ) (stage : Stage) → a.flow ≡ Some (flow_of q block stage) →
        IsLaidSo (heard_in s q (λ flow. fed flow bytes) a (Some (flow_of q block stage))) × StaysSo (heard_in s q (λ flow. fed flow bytes) a (Some (flow_of q block stage)))
    stage_fed bytes lawful some block (Needing name v coming received) flow_is =
        let is : wanted q block coming received ≡ length bytes = wants block name v coming received flow_is (length bytes) lawful in
        (fed_so block name v coming received flow_is bytes is some, fed_stays block name v coming received flow_is bytes is some)
    stage_fed bytes lawful some block _ flow_is = (silent_so, silent_stays)

    stage_given_up : (block : ℕ) (stage : Stage) → a.flow ≡ Some (flow_of q block stage) → IsLaidSo (heard_in s q given_up a (Some (flow_of q block stage))) × StaysSo (heard_in s q given_up a (Some (flow_of q block stage)))
    stage_given_up block (Needing name v coming received) flow_is = (given_up_so block name v coming received flow_is, given_up_stays block name v coming received flow_is)
    stage_given_up block _ flow_is = (silent_so, silent_stays)

    stage_kept : (block : ℕ) (stage : Stage) → a.flow ≡ Some (flow_of q block stage) →
        (let o : Outcome = heard_in (record s { draws = fills_in s q (Some (flow_of q block stage)) ++ s.draws }) q finished a (Some (flow_of q block stage)) in IsLaidSo o × StaysSo o)
    stage_kept block (Needing name v coming received) flow_is = (kept_so block name v coming received flow_is, kept_stays block name v coming received flow_is)
    stage_kept block _ flow_is = (silent_so, silent_stays)

    fed_now : (bytes : List ℕ) → need_at s q ≡ Some (length bytes) → 1 ≤ length bytes → IsLaidSo (heard_in s q (λ flow. fed flow bytes) a a.flow) × StaysSo (heard_in s q (λ flow. fed flow bytes) a a.flow)
    fed_now bytes lawful some = in_heard (λ o. IsLaidSo o × StaysSo o) (λ flow. fed flow bytes) (λ flow. []) (silent_so, silent_stays) (stage_fed bytes lawful some) a.flow refl

    given_up_now : IsLaidSo (heard_in s q given_up a a.flow) × StaysSo (heard_in s q given_up a a.flow)
    given_up_now = in_heard (λ o. IsLaidSo o × StaysSo o) given_up (λ flow. []) (silent_so, silent_stays) stage_given_up a.flow refl

    kept_now : (let o : Outcome = heard_in (record s { draws = fills_in s q a.flow ++ s.draws }) q finished a a.flow in IsLaidSo o × StaysSo o)
    kept_now = in_heard (λ o. IsLaidSo o × StaysSo o) finished (fills_in s q) (silent_so, silent_stays) stage_kept a.flow refl

  module _ (cited : Cited H) (ms : List Moving) (s : State) (q : ℕ) where
    -- what an outcome is in which nothing happens
    nothing_so : IsFatedIn ms s → IsLaidIn H ms s → (FitIn H s.world [] → OutcomeLaid H ms s (silent s)) × OutcomeFated ms (silent s)
    nothing_so fated laid = (
      (λ fits. (subst (λ k. IsLaidIn H k s) (sym (append-nil ms)) laid, tells_none (past (ms ++ []) s.world s.draws), followed_first ms [] s.draws s.asked s.history)),
      subst (λ (k : List Moving). IsFated (stored_in k) s.asked s.draws) (sym (append-nil ms)) fated,
    )

    asked_feeding : (bytes : List ℕ) → IsLawfulAct s (feeds q bytes) → IsSound H s → IsOnceIn s → IsFatedIn ms s → IsLaidIn H ms s → (asked : Option Asked) → numbered s.asked q ≡ asked →
        (let o : Outcome = heard s q (λ flow. fed flow bytes) asked in (FitIn H s.world o.moves → OutcomeLaid H ms s o) × OutcomeFated ms o)
    asked_feeding bytes lawful sound once fated laid None at = nothing_so fated laid
    asked_feeding bytes lawful sound once fated laid (Some a) at = fed_now cited ms s q a at sound once fated laid bytes lawful.0 lawful.1

    asked_keeping : IsSound H s → IsOnceIn s → IsFatedIn ms s → IsLaidIn H ms s → (asked : Option Asked) → numbered s.asked q ≡ asked →
        (let o : Outcome = heard (record s { draws = fills_at s q asked ++ s.draws }) q finished asked in (FitIn H s.world o.moves → OutcomeLaid H ms s o) × OutcomeFated ms o)
    asked_keeping sound once fated laid None at = nothing_so fated laid
    asked_keeping sound once fated laid (Some a) at = kept_now cited ms s q a at sound once fated laid

    asked_giving_up : IsSound H s → IsOnceIn s → IsFatedIn ms s → IsLaidIn H ms s → (asked : Option Asked) → numbered s.asked q ≡ asked →
        (let o : Outcome = heard s q given_up asked in (FitIn H s.world o.moves → OutcomeLaid H ms s o) × OutcomeFated ms o)
    asked_giving_up sound once fated laid None at = nothing_so fated laid
    asked_giving_up sound once fated laid (Some a) at = given_up_now cited ms s q a at sound once fated laid

    pub feeding_laid : (bytes : List ℕ) → IsLawfulAct s (feeds q bytes) → FitIn H s.world (feeding s q bytes).moves → IsSound H s → IsOnceIn s → IsFatedIn ms s → IsLaidIn H ms s → OutcomeLaid H ms s (feeding s q bytes)
    feeding_laid bytes lawful fits sound once fated laid = (asked_feeding bytes lawful sound once fated laid (numbered s.asked q) refl).0 fits

    pub feeding_fated : (bytes : List ℕ) → IsLawfulAct s (feeds q bytes) → IsSound H s → IsOnceIn s → IsFatedIn ms s → IsLaidIn H ms s → OutcomeFated ms (feeding s q bytes)
    feeding_fated bytes lawful sound once fated laid = (asked_feeding bytes lawful sound once fated laid (numbered s.asked q) refl).1

    pub keeping_laid : FitIn H s.world (keeping s q).moves → IsSound H s → IsOnceIn s → IsFatedIn ms s → IsLaidIn H ms s → OutcomeLaid H ms s (keeping s q)
    keeping_laid fits sound once fated laid = (asked_keeping sound once fated laid (numbered s.asked q) refl).0 fits

    pub keeping_fated : IsSound H s → IsOnceIn s → IsFatedIn ms s → IsLaidIn H ms s → OutcomeFated ms (keeping s q)
    keeping_fated sound once fated laid = (asked_keeping sound once fated laid (numbered s.asked q) refl).1

    pub giving_up_laid : FitIn H s.world (giving_up s q).moves → IsSound H s → IsOnceIn s → IsFatedIn ms s → IsLaidIn H ms s → OutcomeLaid H ms s (giving_up s q)
    giving_up_laid fits sound once fated laid = (asked_giving_up sound once fated laid (numbered s.asked q) refl).0 fits

    pub giving_up_fated : IsSound H s → IsOnceIn s → IsFatedIn ms s → IsLaidIn H ms s → OutcomeFated ms (giving_up s q)
    giving_up_fated sound once fated laid = (asked_giving_up sound once fated laid (numbered s.asked q) refl).1
