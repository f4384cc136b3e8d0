-- What a server within its limits draws: no timestamp past the greatest time of a request and one for each request.
use Rattle.std.specs.Prelude.{◌≡◌, ◌^◌, true, ◌≤◌, ◌+◌, ℕ, ⊤, List, [], ◌∷◌, ◌++◌, Some, length, refl}
use Rattle.std.specs.List.{AllByRecursion, Contains}
use Rattle.std.proofs.Common.{sym, subst, append_assoc, arith}
use Rattle.std.proofs.lemmas.Bool.{lt-ltb}
use Rattle.crdt_core.specs.EntryLaws.{and_both}
use Rattle.row_codec.specs.Range.{is_eight, version_in_range}
use Rattle.crdt_core.proofs.Each.{all_weaker}
use Rattle.crdt_rows.specs.declared.version.Version.{Version}
use Rattle.crdt_rows.specs.AnyRow.{any_join}
use Rattle.object_schema.specs.Schema.{words}
use Rattle.cluster_machine.specs.declared.step.Step.TheVariants.{Deliver}
use Rattle.cluster_machine.specs.World.{numbered}
use Rattle.cluster_machine.specs.Worlds.{FitAll, FitsAfter}
use Rattle.machine_origins.proofs.Places.{numbered_within}
use Rattle.store_model.specs.Run.{Asked, Draw, State, start, plainly, delivers}
use Rattle.store_model.specs.Acts.{Act, delivery, drain, acted, after_acts, AreLawfulActs, ActsFit}
use Rattle.store_model.specs.Moments.{IsMoment, between, within}
use Rattle.store_laws.proofs.Deeds.{Deed}
use Rattle.store_laws.proofs.Elements.{none_in, no_entry}
use Rattle.store_laws.proofs.Every.{EveryWorld}
use Rattle.store_laws.proofs.Records.{is_in}
use Rattle.store_laws.proofs.Sound.{IsSound}
use Rattle.store_laws.proofs.Starting.{start_sound}
use Rattle.store_laws.proofs.Hashing.{fit_in}
use Rattle.store_laws.proofs.Acts.{act_keeps, acts_keep}
use Rattle.serve_model.specs.Stores.{Job}
use Rattle.serve_model.specs.Talk.{time_limit}
use Rattle.serve_changes.specs.Changing.{Changing, acts_through}
use Rattle.serve_limits.specs.Asked.{AreAskable, IsAtFirst}
use Rattle.serve_limits.specs.Counts.{IsEvenAct, passes_in, opens_in, rounds_in, sum_in}
use Rattle.serve_limits.specs.Stamps.{IsLedTo, stamp_limit, DrewBy, AreStampedBy}
use Rattle.serve_limits.proofs.Acts.{act_goes, acts_within, even_parts}
use Rattle.serve_limits.proofs.Jobs.{Costs, IsFree, none_cost, sum_parts, costs_both, costs_wider, free_first, through_costs, parts_few}
use Rattle.serve_limits.proofs.Begun.{never_parts}
use Rattle.serve_limits.proofs.Drawing.{IsNear, Asks, delivers_draws, act_draws}

-- all that a run does
abbrev pub Any : Deed → Type 0
Any d = ⊤

module _ (every : EveryWorld Any) where
  -- what acts lead to from a state that is sound and near
  acts_near : (s : State) (as' : List Act) → AreLawfulActs s as' → ActsFit s as' → AllByRecursion IsEvenAct as' → IsSound Any s → IsNear s → IsNear (after_acts s as')
  acts_near s [] lawful fit even sound near = near
  acts_near s (a ∷ as') lawful fit even sound near =
      let fits = fit_in Any s.world (acted s a).moves fit.0 (λ d h. tt) in
      acts_near (acted s a).state as' lawful.1 fit.1 even.1 (act_keeps every s a lawful.0 fits sound) (act_draws every s a even.0 fits sound near).near

  acts_sound : (s : State) (as' : List Act) → AreLawfulActs s as' → ActsFit s as' → IsSound Any s → IsSound Any (after_acts s as')
  acts_sound s as' lawful fit sound = acts_keep every s as' lawful fit (λ d h. tt) sound

  start_near : IsNear start
  start_near = record { skews = λ n. refl; low = λ d c. absurd (none_in d c) }

  -- each draw of a state that is near
  drew : (s : State) → IsSound Any s → IsNear s → DrewBy (s.world.time + length s.world.requests) s
  drew s sound near d c = let low = near.low d c in let lengths = sound.lengths in omega (arith, low, lengths)

  pub drawn_near : (acts : List Act) → AreLawfulActs start acts → ActsFit start acts → AllByRecursion IsEvenAct acts → (let s = after_acts start acts in DrewBy (s.world.time + length s.world.requests) s)
  drawn_near acts lawful fit even = drew (after_acts start acts) (acts_sound start acts lawful fit start_sound) (acts_near start acts lawful fit even start_sound start_near)

  -- where nothing was asked nothing was drawn
  none_asked : (s : State) → IsSound Any s → length s.world.requests ≤ 0 → (d : Draw) → Contains s.draws d → ⊥
  none_asked s sound none d c =
      let was = sound.drawn d c in
      let asked = sound.told.began_asked d.request was.node was.kind d.name (is_in s.history was.place _ was.began_at) in
      none_numbered s.asked (let lengths = sound.lengths in omega (arith, lengths, none)) d.request asked.one asked.is_there
    where
      none_numbered : (as' : List Asked) → length as' ≤ 0 → (q : ℕ) (a : Asked) → numbered as' q ≡ Some a → ⊥
      none_numbered [] low q a at = no_entry q a at
      none_numbered (b ∷ as') low q a at = omega (arith, low)

  -- ---- a server's acts

  module _ (c : Changing) (jobs : List (ℕ × Job)) (first : IsAtFirst c) (led : IsLedTo c.cluster.run) (asked : AreAskable jobs) where
    abbrev begin : State
    begin = c.cluster.run

    begin_sound : IsSound Any begin
    begin_sound = subst (IsSound Any) (sym led.is) (acts_sound start led.acts led.lawful led.fit start_sound)

    begin_near : IsNear begin
    begin_near = record { skews = first.world.skews; low = λ d is. absurd (none_asked begin begin_sound first.world.requests d is) }

    abbrev Within : List Act → Type 0
    Within acts = Costs time_limit 1000000 3168 acts

    all_within : Within (acts_through c jobs)
    all_within =
        let ticked = first.ticked in
        let costs = through_costs time_limit c jobs (omega (arith, ticked)) asked.early first.planned.are in
        let few = parts_few 99 c.to_come first.planned.are first.planned.few in
        let asks = asked.few in
        costs_wider _ _ _ time_limit 1000000 3168 (acts_through c jobs) (omega arith) (omega (arith, asks)) (omega (arith, few)) costs

    -- the first of them
    part_within : (before after : List Act) → Within (before ++ after) → Within before
    part_within before after h =
        let x = sum_parts passes_in before after in
        let y = sum_parts opens_in before after in
        let z = sum_parts rounds_in before after in
        let a = h.passes in
        let b = h.opens in
        let r = h.rounds in
        record { passes = omega (arith, x, a); opens = omega (arith, y, b); rounds = omega (arith, z, r); even = (even_parts before after h.even).0; never = (never_parts before after h.never).0 }

    last_within : (before : List Act) (n k : ℕ) (after : List Act) → Within (before ++ drain n ∷ after) → Within (before ++ drain k ∷ [])
    last_within before n k after h = costs_wider (time_limit + 0) (1000000 + 0) (3168 + 0) time_limit 1000000 3168 (before ++ drain k ∷ []) (omega arith) (omega arith) (omega arith)
        (costs_both time_limit 1000000 3168 0 0 0 before (drain k ∷ []) (part_within before (drain n ∷ after) h) (free_first (drain k) [] (refl, refl, refl, tt, tt) none_cost))

    moment_within : (moment : List Act) → IsMoment (acts_through c jobs) moment → Within moment
    moment_within moment (between before after is) = part_within before after (subst Within is all_within)
    moment_within moment (within before after n k is low) = last_within before n k after (subst Within is all_within)

    -- what is known at a moment
    record Stands (acts : List Act) : Type 0 where
      sound : IsSound Any (after_acts begin acts)
      near : IsNear (after_acts begin acts)
      few : length (after_acts begin acts).asked ≤ sum_in opens_in acts
      low : (after_acts begin acts).world.time + length (after_acts begin acts).asked ≤ stamp_limit

    stands : (acts : List Act) → Within acts → AreLawfulActs begin acts → ActsFit begin acts → Stands acts
    stands acts h lawful fit =
        let sound = acts_sound begin acts lawful fit begin_sound in
        let up = acts_within 0 0 0 begin acts h.even first.world in
        let time = up.time in
        let requests = up.requests in
        let lengths = sound.lengths in
        let passes = h.passes in
        let opens = h.opens in
        record { sound = sound; near = acts_near begin acts lawful fit h.even begin_sound begin_near; few = omega (arith, requests, lengths); low = omega (arith, time, requests, lengths, passes, opens) }

    pub all_drawn : (moment : List Act) → IsMoment (acts_through c jobs) moment → AreLawfulActs begin moment → ActsFit begin moment → DrewBy stamp_limit (after_acts begin moment)
    all_drawn moment is lawful fit d there = let x = stands moment (moment_within moment is) lawful fit in let one = x.near.low d there in let low = x.low in omega (arith, one, low)

    -- each version that was drawn is in range: it has the number of its request
    pub all_in_range : (moment : List Act) → IsMoment (acts_through c jobs) moment → AreLawfulActs begin moment → ActsFit begin moment → (d : Draw) → Contains (after_acts begin moment).draws d → version_in_range d.version ≡ true
    all_in_range moment is lawful fit d there =
        let s = after_acts begin moment in
        let h = moment_within moment is in
        let x = stands moment h lawful fit in
        let drew = x.sound.drawn d there in
        let asked_so = x.sound.told.began_asked d.request drew.node drew.kind d.name (is_in s.history drew.place _ drew.began_at) in
        let number = numbered_within s.asked d.request asked_so.one asked_so.is_there in
        let id = drew.id_is in
        let few = x.few in
        let opens = h.opens in
        let early = all_drawn moment is lawful fit d there in
        and_both (is_eight d.version.ts) (is_eight d.version.id) (lt-ltb d.version.ts (2 ^ 64) (omega (arith, early))) (lt-ltb d.version.id (2 ^ 64) (omega (arith, id, number, few, opens)))

    -- what comes of an act
    drawn_in : (moment : List Act) (act : Act) → Within (moment ++ act ∷ []) → (let s = after_acts begin moment in length s.asked ≤ sum_in opens_in moment → Asks (opens_in act) s (acted s act) → AreStampedBy stamp_limit (acted s act).new_versions)
    drawn_in moment act h asked d =
        let s = after_acts begin moment in
        let parts = even_parts moment (act ∷ []) h.even in
        let up = acts_within 0 0 0 begin moment parts.0 first.world in
        let then = act_goes _ _ _ s up act parts.1.0 in
        let time = then.state.time in
        let passes = h.passes in
        let both = sum_parts passes_in moment (act ∷ []) in
        let opens = h.opens in
        let all = sum_parts opens_in moment (act ∷ []) in
        let few = d.few in
        let low : (acted s act).state.world.time + length (acted s act).state.asked ≤ stamp_limit = omega (arith, time, passes, both, asked, opens, all, few) in
        all_weaker (λ (v : Version). v.ts ≤ (acted s act).state.world.time + length (acted s act).state.asked) (λ (v : Version). v.ts ≤ stamp_limit) (λ v one. omega (arith, low, one)) (acted s act).new_versions d.versions

    free_within : (moment : List Act) (act : Act) → Within moment → IsFree act → Within (moment ++ act ∷ [])
    free_within moment act h free = costs_wider (time_limit + 0) (1000000 + 0) (3168 + 0) time_limit 1000000 3168 (moment ++ act ∷ []) (omega arith) (omega arith) (omega arith)
        (costs_both time_limit 1000000 3168 0 0 0 moment (act ∷ []) h (free_first act [] free none_cost))

    -- in a delivery no request begins, and no time passes
    pub next_drawn : (moment : List Act) → IsMoment (acts_through c jobs) moment → AreLawfulActs begin moment → ActsFit begin moment → (m : ℕ) →
        (let s = after_acts begin moment in FitsAfter any_join words s.world (plainly (Deliver m)) → AreStampedBy stamp_limit (delivers s m).new_versions)
    next_drawn moment is lawful fit m fits =
        let s = after_acts begin moment in
        let h = moment_within moment is in
        let x = stands moment h lawful fit in
        let d = delivers_draws every s m ((fits.0, fits.1, λ d h. tt), tt) x.sound x.near in
        drawn_in moment (delivery m) (free_within moment (delivery m) h (refl, refl, refl, tt, tt)) x.few d

    pub act_drawn : (before : List Act) (act : Act) (later : List Act) → acts_through c jobs ≡ before ++ act ∷ later → AreLawfulActs begin before → ActsFit begin before →
        (let s = after_acts begin before in FitAll any_join words s.world (acted s act).moves → AreStampedBy stamp_limit (acted s act).new_versions)
    act_drawn before act later is lawful fit fits =
        let s = after_acts begin before in
        let all : Within (before ++ act ∷ later) = subst Within is all_within in
        let here = part_within before (act ∷ later) all in
        let this = part_within (before ++ act ∷ []) later (subst Within (sym (append_assoc before (act ∷ []) later)) all) in
        let x = stands before here lawful fit in
        let d = act_draws every s act (even_parts before (act ∷ later) all.even).1.0 (fit_in Any s.world (acted s act).moves fits (λ d h. tt)) x.sound x.near in
        drawn_in before act this x.few d
