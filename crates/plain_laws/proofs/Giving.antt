-- A get in its middle: what it has given is a first part of what the map's get gives, as far as all fits.
use Rattle.std.proofs.Common.{◌≡◌, ◌*◌, ℕ, true, false, Option, Some, None, List, [], ◌∷◌, ◌++◌, take, drop, refl, sym, ap, ◌∙◌, subst, inl, inr, arith}
use Rattle.std.specs.Prelude.{⊤}
use Rattle.std.specs.List.{AllByRecursion, Contains}
use Rattle.std.proofs.lemmas.List.{take-append-drop}
use Rattle.crdt_core.proofs.Each.{all_append, all_weaker}
use Rattle.machine_origins.proofs.Lists.{all_parts}
use Rattle.layout_roles.specs.declared.layout.Layout.{Layout}
use Rattle.crdt_rows.specs.declared.version.Version.{Version}
use Rattle.crdt_rows.specs.declared.body.Meta.{Meta}
use Rattle.crdt_rows.specs.declared.any_row.AnyRow.{AnyRow}
use Rattle.crdt_rows.specs.AnyRow.{any_join}
use Rattle.object_schema.specs.Schema.{words}
use Rattle.wire_messages.specs.declared.phase.Phase.{Phase}
use Rattle.cluster_machine.specs.declared.step.Step.TheVariants.{Tick, Work}
use Rattle.cluster_machine.specs.World.{numbered}
use Rattle.cluster_machine.specs.Worlds.{FitAll}
use Rattle.flow_model.specs.declared.order.Order.{Order}
use Rattle.flow_model.specs.declared.order.Order.TheVariants as order
use Rattle.flow_model.specs.declared.flow.Name.{Name}
use Rattle.flow_model.specs.declared.flow.Content.{Content}
use Rattle.flow_model.specs.declared.flow.Aim.TheVariants as aim
use Rattle.flow_model.specs.declared.flow.Stage.{Stage}
use Rattle.flow_model.specs.declared.flow.Stage.TheVariants.{Drawing, Uploading, Receiving, Needing, Aborting, Completing, Looking, Opening, Gathering, Listing}
use Rattle.flow_model.specs.declared.flow.Flow.{Flow}
use Rattle.flow_model.specs.declared.flow.FlowStep.TheVariants.{End}
use Rattle.flow_model.specs.declared.flow.FlowEnd.{FlowEnd}
use Rattle.flow_model.specs.declared.flow.FlowEnd.TheVariants.{Stored, Found, Nothing, Listed, Superseded, Aborted}
use Rattle.flow_model.specs.Blocks.{is_long}
use Rattle.flow_model.specs.Rows.{meta_of}
use Rattle.flow_model.specs.Flow.{asks_for, started}
use Rattle.flow_laws.specs.Pieces.{pieces}
use Rattle.flow_laws.proofs.Cut.{cut}
use Rattle.store_model.specs.Orders.{kind_of, name_of}
use Rattle.store_model.specs.Run.{State, Outcome, Asked, plainly, are_buckets, drains}
use Rattle.store_model.specs.Acts.{Act, moves, installs, asks, delivery, drain, forgets, takes, adds, cuts, feeds, keeps, gives_up, ActsFit, acted, after_acts, end_of, all_messages}
use Rattle.store_model.specs.Gets.{stage_of}
use Rattle.serve_model.specs.Stores.{carry, Given, Carried, IsFirstOf, given_with, given}
use Rattle.serve_model.specs.Clusters.{Cluster, cluster, wait, works, round, number_in, given_by}
use Rattle.serve_model.specs.Plain.{Has, never, deleted, object, Plain, has_at, at_time, counted, tells, with_object, answered, plain}
use Rattle.get_laws.specs.OnTheWay.{LeavesEnd}
use Rattle.get_laws.proofs.Firsts.{first_same, first_through}
use Rattle.get_laws.proofs.Getting.{Seen, WaitsWith, EndsWith, IsAt, given_at}
use Rattle.get_laws.proofs.Acting.{GivesOn, stage_in, gives_so, later_gives}
use Rattle.get_laws.proofs.Ending.{opened_gives}
use Rattle.plain_laws.specs.Holds.{Holds, IsInRow, IsTold}
use Rattle.plain_laws.proofs.Holding.{Holding}
use Rattle.plain_laws.proofs.Acting.{StillHolds, works_hold, drains_hold, end_appended}
use Rattle.plain_laws.proofs.Looks.{Going, going_on}
use Rattle.plain_laws.proofs.Starting.{number}
use Rattle.plain_laws.proofs.Told.{carried_told}
use Rattle.plain_laws.proofs.Carrying.{now, asker_now, knows_now, none_ended_now, begins_so, asked_state, drained_state, gone_now, row_now}
use Rattle.plain_laws.proofs.Followed.{carried_as}
use Rattle.plain_laws.proofs.Answering.{EndsAs, looking, get_ends, one_bucket, Turns, OneRow, row_turn, reads_asked, reads_drained}
use Rattle.plain_laws.proofs.Getting.{Course, turn}

-- ---- what a get has given

-- a get that waits so has given this
abbrev so_far : Stage → Option Given
so_far (Opening version meta aim) = Some (record { version = version; meta = meta; bytes = [] })
so_far (Gathering version meta aim left body) = Some (record { version = version; meta = meta; bytes = body })
so_far stage = None

waits_so : (stage : Stage) (seen : Seen) → WaitsWith stage seen → given_at (Some stage) None seen ≡ so_far stage
waits_so (Looking name aim.Get) seen is = ap (given_at (Some (Looking name aim.Get)) None) is
waits_so (Looking name aim.Head) seen is = absurd is
waits_so (Looking name (aim.Copy new headers)) seen is = absurd is
waits_so (Opening version meta aim.Get) seen is = ap (given_at (Some (Opening version meta aim.Get)) None) is
waits_so (Opening version meta aim.Head) seen is = absurd is
waits_so (Opening version meta (aim.Copy new headers)) seen is = absurd is
waits_so (Gathering version meta aim.Get left body) seen is = ap (given_at (Some (Gathering version meta aim.Get left body)) None) is
waits_so (Gathering version meta aim.Head left body) seen is = absurd is
waits_so (Gathering version meta (aim.Copy new headers) left body) seen is = absurd is
waits_so (Drawing name wish) seen is = absurd is
waits_so (Uploading name version content stored) seen is = absurd is
waits_so (Receiving name version coming received) seen is = absurd is
waits_so (Needing name version coming received) seen is = absurd is
waits_so (Aborting version) seen is = absurd is
waits_so (Completing version meta) seen is = absurd is
waits_so (Listing bucket prefix rows) seen is = absurd is

ends_so : (end : FlowEnd) (seen : Seen) → IsTold (Some end) → EndsWith end seen → given_at None (Some end) seen ≡ given_with (Some end) None
ends_so (Found version meta body) seen told is = ap (given_at None (Some (Found version meta body))) is
ends_so Nothing seen told is = ap (given_at None (Some Nothing)) is
ends_so (Superseded id) seen told is = absurd told
ends_so (Stored version meta) seen told is = absurd is
ends_so (Listed rows) seen told is = absurd is
ends_so Aborted seen told is = absurd is

at_stage : (stage : Stage) (end : Option FlowEnd) (seen : Seen) → IsAt (Some stage) end seen → given_at (Some stage) end seen ≡ so_far stage
at_stage stage None seen at = waits_so stage seen at
at_stage stage (Some end) seen at = absurd at

at_end : (stage : Option Stage) (end : FlowEnd) (seen : Seen) → IsTold (Some end) → IsAt stage (Some end) seen → given_at stage (Some end) seen ≡ given_with (Some end) None
at_end None end seen told at = ends_so end seen told at
at_end (Some stage) end seen told at = absurd at

module _ {q : ℕ} (t : State) (g : GivesOn None t q) where
  -- while it waits
  waits_given : (a : Asked) (stage : Stage) → numbered t.asked q ≡ Some a → stage_of (Some a) ≡ Some stage → given_by t q ≡ so_far stage
  waits_given a stage there waits =
      let stage_is : stage_in g.flow ≡ Some stage = ap stage_of (sym g.asked ∙ there) ∙ waits in
      gives_so t g ∙ (ap (λ o. given_at o g.end g.seen) stage_is ∙ at_stage stage g.end g.seen (subst (λ o. IsAt o g.end g.seen) stage_is g.at))

  -- when it has ended
  ended_given : (end : FlowEnd) → IsTold (Some end) → end_of t.ends q ≡ Some end → given_by t q ≡ given_with (Some end) None
  ended_given end told there =
      let end_is : g.end ≡ Some end = sym g.end_is ∙ there in
      gives_so t g ∙ (ap (λ e. given_at (stage_in g.flow) e g.seen) end_is ∙ at_end (stage_in g.flow) end g.seen told (subst (λ e. IsAt (stage_in g.flow) e g.seen) end_is g.at))

-- ---- acts that change nothing where nothing goes on

-- a member works, or all is delivered
abbrev IsQuiet : Act → Type 0
IsQuiet (moves m) = (n : ℕ) × (m ≡ plainly (Work n))
IsQuiet (drain count) = ⊤
IsQuiet act = ⊥

works_quiet : (members : List ℕ) → AllByRecursion IsQuiet (works members)
works_quiet [] = tt
works_quiet (n ∷ ns) = ((n, refl), works_quiet ns)

round_quiet : (members : List ℕ) → AllByRecursion IsQuiet (round members)
round_quiet members = all_append IsQuiet (works members) (drain all_messages ∷ []) (works_quiet members) (tt, tt)

quiet_leaves : (q : ℕ) (a : Act) → IsQuiet a → LeavesEnd q a
quiet_leaves q (moves m) is = tt
quiet_leaves q (drain count) is = tt
quiet_leaves q (installs first) is = absurd is
quiet_leaves q (asks n order) is = absurd is
quiet_leaves q (delivery m) is = absurd is
quiet_leaves q forgets is = absurd is
quiet_leaves q (takes r) is = absurd is
quiet_leaves q (adds name) is = absurd is
quiet_leaves q (cuts block) is = absurd is
quiet_leaves q (feeds r bytes) is = absurd is
quiet_leaves q (keeps r) is = absurd is
quiet_leaves q (gives_up r) is = absurd is

module _ (l : Layout) (Q : Plain) where
  act_quiet : (t : State) (a : Act) → IsQuiet a → Holding l Q t → StillHolds l Q t (acted t a).state
  act_quiet t (moves m) is h = subst (λ m. StillHolds l Q t (acted t (moves m)).state) (sym is.1) (works_hold l Q t is.0 h, refl)
  act_quiet t (drain count) is h = subst (StillHolds l Q t) (sym (drains_hold l Q t h count)) (h, refl)
  act_quiet t (installs first) is h = absurd is
  act_quiet t (asks n order) is h = absurd is
  act_quiet t (delivery m) is h = absurd is
  act_quiet t forgets is h = absurd is
  act_quiet t (takes r) is h = absurd is
  act_quiet t (adds name) is h = absurd is
  act_quiet t (cuts block) is h = absurd is
  act_quiet t (feeds r bytes) is h = absurd is
  act_quiet t (keeps r) is h = absurd is
  act_quiet t (gives_up r) is h = absurd is

  acts_quiet : (t : State) (acts : List Act) → AllByRecursion IsQuiet acts → Holding l Q t → (after_acts t acts).ends ≡ t.ends
  acts_quiet t [] quiet h = refl
  acts_quiet t (a ∷ acts) quiet h = let still = act_quiet t a quiet.0 h in acts_quiet (acted t a).state acts quiet.1 still.0 ∙ still.1

-- ---- a get

module _ (c : Cluster) (P : Plain) (h : Holds c P) (time : ℕ) (bucket key : List ℕ) (known : are_buckets P.buckets (bucket ∷ []) ≡ true) where
  abbrev get : Order
  get = order.Get bucket key

  abbrev name : Name
  name = record { bucket = bucket; key = key }

  abbrev before : State
  before = now c P h time get

  abbrev asker : ℕ
  asker = asker_now c P h time get

  abbrev q : ℕ
  q = number before

  abbrev asked : State
  asked = asked_state c P h time get known

  abbrev drained : State
  drained = drained_state c P h time get known

  abbrev after : Plain
  after = counted (at_time P time)

  there : Contains P.buckets bucket
  there = one_bucket P.buckets bucket known

  -- what the map's get gives
  abbrev whole : Option Given
  whole = given (plain.carries P time (carry get))

  -- it has given a first part of that
  abbrev GivesFirst : State → Type 0
  GivesFirst t = IsFirstOf (given_by t q) whole

  -- so it is after some deliveries, and when all is delivered, as long as nothing else happens
  record GivesOnTheWay : Type 0 where
    delivered : (count : ℕ) → FitAll any_join words asked.world (drains count asked).moves → GivesFirst (drains count asked).state
    later : (acts : List Act) → AllByRecursion IsQuiet acts → FitAll any_join words asked.world (drains all_messages asked).moves → GivesFirst (after_acts drained acts)

  opened : GivesOn None asked q
  opened = opened_gives before asker bucket key (knows_now c P h time get)

  gives_later : (acts : List Act) → AllByRecursion (LeavesEnd q) acts → GivesOn None (after_acts asked acts) q
  gives_later acts leave = later_gives asked (after_acts asked acts) (record { acts = acts; leave = leave; after = refl }) opened

  -- where the get ends so, and what it has given is a first part of that wherever it waits
  module _ (Waits : Flow → Phase AnyRow → Type 0) (end : FlowEnd) (its_turn : (flow : Flow) (phase : Phase AnyRow) → Waits flow phase → Turns c P h time get known Waits (End end) flow phase)
      (flow : Flow) (first : Waits flow (asks_for name)) (begins : started get q before.block ≡ (flow, asks_for name)) (answers : answered after get ≡ tells after end)
      (parts : (flow : Flow) (phase : Phase AnyRow) → Waits flow phase → IsFirstOf (so_far flow.stage) (given_with (Some end) None)) where
    carried_so : plain.carries P time (carry get) ≡ tells after end
    carried_so = carried_as c P h time (carry get) known ∙ answers

    whole_is : whole ≡ given_with (Some end) None
    whole_is = ap (λ (x : Carried Plain). given x) carried_so

    told : IsTold (Some end)
    told = subst (λ (x : Carried Plain). IsTold x.end) carried_so (carried_told P time (carry get) known)

    ended_first : (t : State) → GivesOn None t q → t.ends ≡ before.ends ++ (q, end) ∷ [] → GivesFirst t
    ended_first t g ends =
        let end_is : end_of t.ends q ≡ Some end = ap (λ es. end_of es q) ends ∙ end_appended before.ends q end (none_ended_now c P h time get) in
        subst (λ x. IsFirstOf x whole) (sym (ended_given t g end told end_is ∙ sym whole_is)) (first_same whole)

    going_first : (t : State) → GivesOn None t q → Going h.layout h.is_layout before asker q (kind_of get) (name_of get) Waits end its_turn t → GivesFirst t
    going_first t g (inl r) =
        subst (λ x. IsFirstOf x whole) (sym (waits_given t g (record { node = asker; kind = kind_of get; name = name_of get; flow = Some r.0 }) r.0.stage r.3.open_so.asked_is refl))
        (subst (IsFirstOf (so_far r.0.stage)) (sym whole_is) (parts r.0 r.1 r.2))
    going_first t g (inr f) = ended_first t g f.done_so.ends_so

    gives_so_far : GivesOnTheWay
    gives_so_far =
        let reads = reads_asked c P h time get known Waits end its_turn flow (asks_for name) first begins in
        record {
          delivered = λ count fits. going_first (drains count asked).state (gives_later (drain count ∷ []) (tt, tt)) (going_on h.layout h.is_layout before asker q (kind_of get) (name_of get) Waits end its_turn count asked reads fits);
          later = λ acts quiet fits.
              (let read = reads_drained c P h time get known Waits end its_turn flow (asks_for name) first begins fits in
              ended_first (after_acts drained acts) (gives_later (drain all_messages ∷ acts) (tt, all_weaker IsQuiet (LeavesEnd q) (quiet_leaves q) acts quiet)) (acts_quiet h.layout after drained acts quiet read.holding ∙ read.ends));
        }

  -- ---- by what is there

  module _ (in_row : IsInRow (has_at P name)) where
    abbrev its_flow : Flow
    its_flow = looking q before.block name aim.Get

    abbrev its_end : EndsAs its_flow (row_now c P h time get name) after (answered after get)
    its_end = get_ends q before.block name (gone_now c P h time get name) after (has_at P name) in_row

    row_gives : GivesOnTheWay
    row_gives =
        gives_so_far (OneRow c P h time get known name its_flow) its_end.end (row_turn c P h time get known name there its_flow after (answered after get) its_end) its_flow (refl, refl) refl its_end.is
        (λ flow phase same. subst (λ (f : Flow). IsFirstOf (so_far f.stage) (given_with (Some its_end.end) None)) (sym same.0) tt)

  module _ (version : Version) (block : ℕ) (content : Content) (is_there : has_at P name ≡ object version block content) (long : is_long content.body ≡ true) where
    abbrev meta : Meta
    meta = meta_of content

    abbrev ItsCourse : Flow → Phase AnyRow → Type 0
    ItsCourse = Course c P h time get known name there version block content is_there long aim.Get refl

    abbrev IsPart : Flow → Type 0
    IsPart flow = IsFirstOf (so_far flow.stage) (Some (record { version = version; meta = meta; bytes = content.body }))

    -- its first blocks, and the rest
    in_parts : (i : ℕ) → pieces block content.body 0 i ++ drop (i * block) content.body ≡ content.body
    in_parts i =
        let none : 0 * block ≡ 0 = omega arith in
        ap (λ bytes. bytes ++ drop (i * block) content.body) (cut block content.body 0 i ∙ ap (λ k. take (i * block) (drop k content.body)) none) ∙ take-append-drop (i * block) content.body

    waits_in : (flow : Flow) (phase : Phase AnyRow) → ItsCourse flow phase → IsPart flow
    waits_in flow phase (inl looks) = subst IsPart (sym looks.0) tt
    waits_in flow phase (inr (inl opens)) = subst IsPart (sym opens.0) (refl, refl, (content.body, refl))
    waits_in flow phase (inr (inr gathers)) = subst IsPart (sym gathers.3) (refl, refl, (drop (gathers.0 * block) content.body, in_parts gathers.0))

    long_gives : GivesOnTheWay
    long_gives =
        gives_so_far ItsCourse (Found version meta content.body) (turn c P h time get known name there version block content is_there long aim.Get refl) (looking q before.block name aim.Get) (inl (refl, refl)) refl
        (ap (λ has. with_object after has (λ version c. tells after (Found version (meta_of c) c.body))) is_there) waits_in

  gives_by : (has : Has) → has_at P name ≡ has → GivesOnTheWay
  gives_by never e = row_gives (subst IsInRow (sym e) tt)
  gives_by (deleted version) e = row_gives (subst IsInRow (sym e) tt)
  gives_by (object version block content) e = elim (is_long content.body) as (λ b. is_long content.body ≡ b → GivesOnTheWay) [
    | true ↦ λ long. long_gives version block content e long
    | false ↦ λ short. row_gives (subst IsInRow (sym e) short)
  ] refl

  -- ---- its acts

  abbrev tick : Act
  tick = moves (plainly (Tick (wait c time)))

  abbrev asks_it : Act
  asks_it = asks asker get

  abbrev rounds : List Act
  rounds = round c.members ++ round c.members

  -- what the state after acts has given, as far as these fit
  abbrev AfterActs : List Act → Type 0
  AfterActs acts = ActsFit c.run acts → GivesFirst (after_acts c.run acts)

  -- in the first deliveries
  in_deliveries : GivesOnTheWay → (count : ℕ) → AfterActs (tick ∷ asks_it ∷ drain count ∷ [])
  in_deliveries gives count fit =
      let is = begins_so c P h time get true known in
      subst (λ (o : Outcome). GivesFirst (drains count o.state).state) (sym is) (gives.delivered count (subst (λ (o : Outcome). FitAll any_join words o.state.world (drains count o.state).moves) is fit.1.1.0))

  -- and in the rounds after them
  in_rounds : GivesOnTheWay → (acts : List Act) → AllByRecursion IsQuiet acts → AfterActs (tick ∷ asks_it ∷ drain all_messages ∷ acts)
  in_rounds gives acts quiet fit =
      let is = begins_so c P h time get true known in
      subst (λ (o : Outcome). GivesFirst (after_acts (drains all_messages o.state).state acts)) (sym is)
      (gives.later acts quiet (subst (λ (o : Outcome). FitAll any_join words o.state.world (drains all_messages o.state).moves) is fit.1.1.0))

  in_acts : GivesOnTheWay → (acts later : List Act) (count : ℕ) → tick ∷ asks_it ∷ drain all_messages ∷ rounds ≡ acts ++ drain all_messages ∷ later → AfterActs (acts ++ drain count ∷ [])
  in_acts gives [] later count parts fit = let no : tick ≡ drain all_messages = cc in absurd (cc)
  in_acts gives (x ∷ []) later count parts fit = let no : asks_it ≡ drain all_messages = cc in absurd (cc)
  in_acts gives (x ∷ y ∷ []) later count parts fit =
      let first : tick ≡ x = cc in
      let second : asks_it ≡ y = cc in
      subst (λ x. AfterActs (x ∷ y ∷ drain count ∷ [])) first (subst (λ y. AfterActs (tick ∷ y ∷ drain count ∷ [])) second (in_deliveries gives count)) fit
  in_acts gives (x ∷ y ∷ z ∷ acts) later count parts fit =
      let first : tick ≡ x = cc in
      let second : asks_it ≡ y = cc in
      let third : drain all_messages ≡ z = cc in
      let rest : rounds ≡ acts ++ drain all_messages ∷ later = cc in
      let quiet = all_parts IsQuiet acts (drain all_messages ∷ later) (subst (AllByRecursion IsQuiet) rest (all_append IsQuiet (round c.members) (round c.members) (round_quiet c.members) (round_quiet c.members))) in
      subst (λ x. AfterActs (x ∷ y ∷ z ∷ (acts ++ drain count ∷ []))) first
      (subst (λ y. AfterActs (tick ∷ y ∷ z ∷ (acts ++ drain count ∷ []))) second
      (subst (λ z. AfterActs (tick ∷ asks_it ∷ z ∷ (acts ++ drain count ∷ []))) third (in_rounds gives (acts ++ drain count ∷ []) (all_append IsQuiet acts (drain count ∷ []) quiet.0 (tt, tt))))) fit

-- whether or not the bucket is there
pub gives_as_the_map : (c : Cluster) (P : Plain) (time : ℕ) (bucket key : List ℕ) (g : Given) → Holds c P → cluster.gives c time (order.Get bucket key) g → plain.gives P time (order.Get bucket key) g
gives_as_the_map c P time bucket key g h gives =
    let get : Order = order.Get bucket key in
    elim (are_buckets P.buckets (bucket ∷ [])) as (λ b. are_buckets P.buckets (bucket ∷ []) ≡ b → IsFirstOf (Some g) (given (plain.carries P time (carry get)))) [
      | true ↦ λ known.
          let t : State = after_acts c.run (gives.before ++ drain gives.count ∷ []) in
          let name : Name = record { bucket = bucket; key = key } in
          first_through (Some g) (given_by t (number (now c P h time get))) (given (plain.carries P time (carry get)))
          (subst (λ (o : Outcome). IsFirstOf (Some g) (given_by t (number_in o.words))) (begins_so c P h time get true known) gives.given)
          (in_acts c P h time bucket key known (gives_by c P h time bucket key known (has_at P name) refl) gives.before gives.later gives.count gives.parts gives.fit)
      | false ↦ λ none. absurd (subst (λ (o : Outcome). IsFirstOf (Some g) (given_by (after_acts c.run (gives.before ++ drain gives.count ∷ [])) (number_in o.words))) (begins_so c P h time get false none) gives.given)
    ] refl
