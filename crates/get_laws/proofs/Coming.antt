-- An upload on its way has received what came, and needs a block of what is still to come.
use Rattle.std.specs.Prelude.{⊤}
use Rattle.std.proofs.Common.{◌≡◌, ◌≤◌, ◌<◌, inl, inr, ℕ, zero, suc, ◌-◌, min, Bool, true, false, ◌==◌, if◌then◌else◌, Option, Some, None, List, [], ◌∷◌, ◌++◌, length, slice_set, length-append, append-nil, append_assoc, refl, sym, ap, ◌∙◌, subst, arith}
use Rattle.std.specs.List.{AllByRecursion, concat}
use Rattle.crdt_core.proofs.Each.{all_append}
use Rattle.std.specs.Option.{option_and_then}
use Rattle.std.proofs.lemmas.Bool.{eqb-true, eqb-false}
use Rattle.crdt_rows.specs.declared.version.Version.{Version}
use Rattle.crdt_rows.specs.declared.any_row.AnyRow.{AnyRow}
use Rattle.wire_messages.specs.declared.phase.PhaseEnd.{PhaseEnd}
use Rattle.wire_messages.specs.declared.phase.PhaseEnd.TheVariants.{Row, Window, Kept, Block}
use Rattle.layout_roles.specs.declared.cut.Cut.{Cut}
use Rattle.cluster_machine.specs.declared.step.Refusal.{Refusal}
use Rattle.cluster_machine.specs.declared.step.Step.TheVariants as step
use Rattle.cluster_machine.specs.Node.{Ended}
use Rattle.cluster_machine.specs.World.{clock, numbered, undelivered}
use Rattle.machine_origins.proofs.Places.{numbered_set, numbered_set_here, numbered_last}
use Rattle.flow_model.specs.declared.flow.Name.{Name}
use Rattle.flow_model.specs.declared.flow.Coming.{Coming}
use Rattle.flow_model.specs.declared.flow.Wish.{Wish}
use Rattle.flow_model.specs.declared.flow.Wish.TheVariants.{Stream}
use Rattle.flow_model.specs.declared.flow.Stage.{Stage}
use Rattle.flow_model.specs.declared.flow.Stage.TheVariants.{Drawing, Receiving, Needing}
use Rattle.flow_model.specs.declared.flow.Flow.{Flow}
use Rattle.flow_model.specs.declared.flow.FlowStep.{FlowStep}
use Rattle.flow_model.specs.declared.flow.FlowEnd.{FlowEnd}
use Rattle.flow_model.specs.declared.flow.FlowStep.TheVariants.{More, Need, Wait, End}
use Rattle.flow_model.specs.Flow.{started}
use Rattle.flow_model.specs.Next.{drawn, writes, goes_on as flow_goes, next}
use Rattle.flow_model.specs.Streams as stream
use Rattle.store_model.specs.Run.{Moving, State, Asked, Draw, Outcome, silent, plainly, effect, doing, new_request, opened, draws_of, takes, follows, follow, goes_on, delivers, then_drains, drains, is_open_at, needed, need_at, hears, heard_in, heard, feeding}
use Rattle.store_model.specs.Acts.{Act, moves, drain, end_of, acted, after_acts, all_messages}
use Rattle.serve_model.specs.declared.upload.Upload.{Upload}
use Rattle.serve_model.specs.Stores.{stream_of}
use Rattle.serve_model.specs.Clusters.{Cluster, wait, asker, number_in, works, delivered, round, fed_block}
use Rattle.serve_model.specs.Uploads.{acts_of_blocks, AreNeeded, asked_for, number_of, acts_opened_so_far, CameAsNeeded, needed_next, IsComing}
use Rattle.get_laws.specs.OnTheWay.{KnowsRequests}
use Rattle.get_laws.proofs.Knowing.{act_knows}
use Rattle.get_laws.proofs.Acting.{end_there}
use Rattle.get_laws.proofs.Ending.{none_ended, begun_is}

-- so many bytes come, in blocks of this size
module _ (block : ℕ) (coming : Coming) where
  -- an upload waits so when these bytes came
  abbrev HasCome : List ℕ → Stage → Type 0
  HasCome came (Drawing name wish) = (wish ≡ Stream coming) × (came ≡ [])
  HasCome came (Receiving name version its received) = (its ≡ coming) × (received ≡ came)
  HasCome came (Needing name version its received) = (its ≡ coming) × (received ≡ came)
  HasCome came stage = ⊥

  abbrev Waits : List ℕ → Flow → Type 0
  Waits came flow = (flow.block ≡ block) × HasCome came flow.stage

  abbrev WaitsIn : List ℕ → Option Flow → Type 0
  WaitsIn came None = ⊥
  WaitsIn came (Some flow) = Waits came flow

  -- request q is one of which these bytes came, and has no end
  record ComesOn (came : List ℕ) (s : State) (q : ℕ) : Type 0 where
    asked : Asked
    at : numbered s.asked q ≡ Some asked
    waits : WaitsIn came asked.flow
    endless : end_of s.ends q ≡ None

  -- ---- a phase ended

  abbrev Goes : List ℕ → FlowStep → Type 0
  Goes came (More flow phase) = Waits came flow
  Goes came (Need flow wanted) = Waits came flow
  Goes came (Wait flow) = Waits came flow
  Goes came (End end) = ⊥

  module _ (came : List ℕ) (id size now : ℕ) (same : size ≡ block) where
    drawing_goes : (name : Name) (wish : Wish) (end : PhaseEnd AnyRow) → HasCome came (Drawing name wish) → Goes came (flow_goes id size (Drawing name wish) end now)
    drawing_goes name wish (Row value) h =
        subst (λ (w : Wish). Goes came (writes id size name (drawn id value now) w)) (sym h.0) (same, (refl, sym h.1))
    drawing_goes name wish (Window rows more) h = (same, h)
    drawing_goes name wish Kept h = (same, h)
    drawing_goes name wish (Block bytes) h = (same, h)

    receiving_goes : (name : Name) (version : Version) (its : Coming) (received : List ℕ) (end : PhaseEnd AnyRow) → HasCome came (Receiving name version its received) → Goes came (flow_goes id size (Receiving name version its received) end now)
    receiving_goes name version its received (Row value) h = (same, h)
    receiving_goes name version its received (Window rows more) h = (same, h)
    receiving_goes name version its received Kept h = (same, h)
    receiving_goes name version its received (Block bytes) h = (same, h)

    stage_goes : (stage : Stage) (end : PhaseEnd AnyRow) → HasCome came stage → Goes came (flow_goes id size stage end now)
    stage_goes (Drawing name wish) end h = drawing_goes name wish end h
    stage_goes (Receiving name version its received) end h = receiving_goes name version its received end h
    stage_goes (Needing name version its received) end h = (same, h)
    stage_goes _ end h = absurd h

  module _ (came : List ℕ) (s : State) where
    own_takes : (q : ℕ) (a : Asked) (draws : List Draw) (st : FlowStep) → numbered s.asked q ≡ Some a → end_of s.ends q ≡ None → Goes came st → ComesOn came (takes s q a draws st).state q
    own_takes q a draws (More flow phase) at none h = record { asked = record a { flow = Some flow }; at = numbered_set_here s.asked q (record a { flow = Some flow }) a at; waits = h; endless = none }
    own_takes q a draws (Need flow wanted) at none h = record { asked = record a { flow = Some flow }; at = numbered_set_here s.asked q (record a { flow = Some flow }) a at; waits = h; endless = none }
    own_takes q a draws (Wait flow) at none h = record { asked = record a { flow = Some flow }; at = numbered_set_here s.asked q (record a { flow = Some flow }) a at; waits = h; endless = none }
    own_takes q a draws (End end) at none h = absurd h

    -- of another request
    set_there : (p q : ℕ) (a : Asked) (flow : Option Flow) → (p == q) ≡ false → numbered s.asked p ≡ Some a → (h : ComesOn came s q) → numbered (slice_set s.asked (p - 1) (record a { flow = flow })) q ≡ Some h.asked
    set_there p q a flow apart at h = elim (numbered_set s.asked p q a (record a { flow = flow }) h.asked at h.at) [ inl same ↦ absurd (eqb-false p q apart (sym same)) | inr other ↦ other ]

    others_take : (p q : ℕ) (a : Asked) (draws : List Draw) (st : FlowStep) → (p == q) ≡ false → numbered s.asked p ≡ Some a → ComesOn came s q → ComesOn came (takes s p a draws st).state q
    others_take p q a draws (More flow phase) apart at h = record { asked = h.asked; at = set_there p q a (Some flow) apart at h; waits = h.waits; endless = h.endless }
    others_take p q a draws (Need flow wanted) apart at h = record { asked = h.asked; at = set_there p q a (Some flow) apart at h; waits = h.waits; endless = h.endless }
    others_take p q a draws (Wait flow) apart at h = record { asked = h.asked; at = set_there p q a (Some flow) apart at h; waits = h.waits; endless = h.endless }
    others_take p q a draws (End end) apart at h = record { asked = h.asked; at = set_there p q a None apart at h; waits = h.waits; endless = end_there s.ends p q end apart ∙ h.endless }

    -- nothing of requests changes
    still : (t : State) (q : ℕ) → t.asked ≡ s.asked → t.ends ≡ s.ends → ComesOn came s q → ComesOn came t q
    still t q asked ends h = record {
      asked = h.asked;
      at = ap (λ (all : List Asked). numbered all q) asked ∙ h.at;
      waits = h.waits;
      endless = ap (λ (all : List (ℕ × FlowEnd)). end_of all q) ends ∙ h.endless;
    }

  -- ---- deliveries

  module _ (came : List ℕ) (s : State) (how : PhaseEnd AnyRow) where
    abbrev seen : ℕ → State
    seen p = record s { saw = record { request = p; end = how } ∷ s.saw }

    others_follow : (p q : ℕ) → (p == q) ≡ false → (asked : Option Asked) → numbered s.asked p ≡ asked → ComesOn came s q → ComesOn came (follow s p asked how).state q
    others_follow p q apart None at h = h
    others_follow p q apart (Some a) at h = by_flow a.flow
      where
        by_flow : (flow : Option Flow) → ComesOn came (follows s p a how flow).state q
        by_flow None = h
        by_flow (Some flow) =
            let now = clock s.world a.node in
            others_take came (seen p) p q a (draws_of s p flow.block flow.stage how now) (next flow how now) apart at (still came s (seen p) q refl refl h)

    own_follow : (q : ℕ) → ComesOn came s q → ComesOn came (follow s q (numbered s.asked q) how).state q
    own_follow q h = subst (λ (o : Option Asked). ComesOn came (follow s q o how).state q) (sym h.at) (by_flow h.asked.flow h.waits)
      where
        by_flow : (flow : Option Flow) → WaitsIn came flow → ComesOn came (follows s q h.asked how flow).state q
        by_flow None waits = absurd waits
        by_flow (Some flow) waits =
            let now = clock s.world h.asked.node in
            own_takes came (seen q) q h.asked (draws_of s q flow.block flow.stage how now) (next flow how now) h.at h.endless (stage_goes came flow.id flow.block now waits.0 flow.stage how waits.1)

    follow_comes : (p q : ℕ) → ComesOn came s q → ComesOn came (follow s p (numbered s.asked p) how).state q
    follow_comes p q h =
        elim (p == q) as (λ b. (p == q) ≡ b → ComesOn came (follow s p (numbered s.asked p) how).state q) [
          | true ↦ λ same. subst (λ (p : ℕ). ComesOn came (follow s p (numbered s.asked p) how).state q) (sym (eqb-true p q same)) (own_follow q h)
          | false ↦ λ apart. others_follow p q apart (numbered s.asked p) refl h
        ] refl

  module _ (came : List ℕ) (q : ℕ) where
    goes_comes : (s : State) (ends : List (Ended AnyRow)) → ComesOn came s q → ComesOn came (goes_on s ends).state q
    goes_comes s [] h = h
    goes_comes s (e ∷ es) h = follow_comes came s e.how e.request q h

    delivers_comes : (s : State) (m : ℕ) → ComesOn came s q → ComesOn came (delivers s m).state q
    delivers_comes s m h = let d : Moving = plainly (step.Deliver m) in goes_comes (doing s d) (effect s d).ends (still came s (doing s d) q refl refl h)

    drains_come : (n : ℕ) (s : State) → ComesOn came s q → ComesOn came (drains n s).state q
    drains_come zero s h = h
    drains_come (suc n) s h =
        elim (undelivered s.world) as (λ o. ComesOn came (elim o as (λ o. Outcome) [ None ↦ silent s | Some m ↦ let o = delivers s m in then_drains o (drains n o.state) ]).state q) [
          | None ↦ h
          | Some m ↦ drains_come n (delivers s m).state (delivers_comes s m h)
        ]

    -- members work, and messages are delivered
    abbrev IsQuiet : Act → Type 0
    IsQuiet (moves m) = ⊤
    IsQuiet (drain n) = ⊤
    IsQuiet act = ⊥

    quiet_comes : (s : State) (a : Act) → IsQuiet a → ComesOn came s q → ComesOn came (acted s a).state q
    quiet_comes s (moves m) quiet h = still came s (acted s (moves m)).state q refl refl h
    quiet_comes s (drain n) quiet h = drains_come n s h
    quiet_comes s _ quiet h = absurd quiet

    acts_come : (acts : List Act) (s : State) → AllByRecursion IsQuiet acts → ComesOn came s q → ComesOn came (after_acts s acts) q
    acts_come [] s quiet h = h
    acts_come (a ∷ acts) s quiet h = acts_come acts (acted s a).state quiet.1 (quiet_comes s a quiet.0 h)

    works_quiet : (members : List ℕ) → AllByRecursion IsQuiet (works members)
    works_quiet [] = tt
    works_quiet (n ∷ ns) = (tt, works_quiet ns)

    rounds_come : (members : List ℕ) (s : State) → ComesOn came s q → ComesOn came (after_acts s (round members ++ round members)) q
    rounds_come members s h =
        let one : AllByRecursion IsQuiet (round members) = all_append IsQuiet (works members) delivered (works_quiet members) (tt, tt) in acts_come (round members ++ round members) s (all_append IsQuiet (round members) (round members) one one) h

  -- ---- what is needed

  need_open : (b : Bool) (need : Option ℕ) (size : ℕ) → (if b then need else None) ≡ Some size → need ≡ Some size
  need_open true need size is = is
  need_open false need size is = cc

  module _ (came : List ℕ) (size : ℕ) where
    stage_needs : (id its : ℕ) (stage : Stage) → its ≡ block → HasCome came stage → stream.need_in id its stage ≡ Some size → size ≡ min block (coming.length - length came)
    stage_needs id its (Needing name version c received) same h is =
        let wants : size ≡ min its (c.length - length received) = cc in wants ∙ (λ i. min (same i) ((h.0 i).length - length (h.1 i)))
    stage_needs id its (Drawing name wish) same h is = cc
    stage_needs id its (Receiving name version c received) same h is = cc
    stage_needs id its _ same h is = absurd h

    flow_needs : (flow : Option Flow) → WaitsIn came flow → option_and_then stream.need_of flow ≡ Some size → size ≡ min block (coming.length - length came)
    flow_needs None waits is = absurd waits
    flow_needs (Some flow) waits is = stage_needs flow.id flow.block flow.stage waits.0 waits.1 is

    -- a request needs a block of what is still to come
    request_needs : (s : State) (q : ℕ) → ComesOn came s q → need_at s q ≡ Some size → size ≡ min block (coming.length - length came)
    request_needs s q h is = flow_needs h.asked.flow h.waits (sym (ap needed h.at) ∙ need_open (is_open_at s.world q) (needed (numbered s.asked q)) size is)

  -- ---- a block comes

  module _ (came bytes : List ℕ) (s : State) (q : ℕ) (a : Asked) (at : numbered s.asked q ≡ Some a) (none : end_of s.ends q ≡ None) where
    stage_fed : (id its : ℕ) (stage : Stage) → its ≡ block → HasCome came stage → stream.need_in id its stage ≡ Some (length bytes) → ComesOn (came ++ bytes) (hears s q a (stream.fed_in id its stage bytes)).state q
    stage_fed id its (Needing name version c received) same h is = record {
      asked = record a { flow = Some (record { id = id; block = its; stage = Receiving name version c (received ++ bytes) }) };
      at = numbered_set_here s.asked q (record a { flow = Some (record { id = id; block = its; stage = Receiving name version c (received ++ bytes) }) }) a at;
      waits = (same, (h.0, ap (λ (front : List ℕ). front ++ bytes) h.1));
      endless = none;
    }
    stage_fed id its (Drawing name wish) same h is = cc
    stage_fed id its (Receiving name version c received) same h is = cc
    stage_fed id its _ same h is = absurd h

    flow_fed : (flow : Option Flow) → WaitsIn came flow → option_and_then stream.need_of flow ≡ Some (length bytes) → ComesOn (came ++ bytes) (heard_in s q (λ (f : Flow). stream.fed f bytes) a flow).state q
    flow_fed None waits is = absurd waits
    flow_fed (Some flow) waits is = stage_fed flow.id flow.block flow.stage waits.0 waits.1 is

  feeding_comes : (came bytes : List ℕ) (s : State) (q : ℕ) → ComesOn came s q → need_at s q ≡ Some (length bytes) → ComesOn (came ++ bytes) (feeding s q bytes).state q
  feeding_comes came bytes s q h is =
      subst (λ (o : Option Asked). ComesOn (came ++ bytes) (heard s q (λ (f : Flow). stream.fed f bytes) o).state q) (sym h.at)
      (flow_fed came bytes s q h.asked h.at h.endless h.asked.flow h.waits (sym (ap needed h.at) ∙ need_open (is_open_at s.world q) (needed (numbered s.asked q)) (length bytes) is))

  -- blocks come, each as it is needed
  blocks_come : (bs : List (List ℕ)) (came : List ℕ) (s : State) (q : ℕ) → ComesOn came s q → length came ≤ coming.length → AreNeeded s q bs →
      ComesOn (came ++ concat bs) (after_acts s (acts_of_blocks q bs)) q × (length (came ++ concat bs) ≤ coming.length)
  blocks_come [] came s q h few needs = subst (λ (x : List ℕ). ComesOn x s q × (length x ≤ coming.length)) (sym (append-nil came)) (h, few)
  blocks_come (b ∷ bs) came s q h few needs =
      let size = request_needs came (length b) s q h needs.0 in
      let more = length-append came b in
      let t : State = after_acts s (fed_block q b) in
      let rest = blocks_come bs (came ++ b) t q (drains_come (came ++ b) q all_messages (feeding s q b).state (feeding_comes came b s q h needs.0)) (omega (arith, size, more, few)) needs.2 in
      subst (λ (x : List ℕ). ComesOn x (after_acts t (acts_of_blocks q bs)) q × (length x ≤ coming.length)) (append_assoc came b (concat bs)) rest

-- ---- the upload of a cluster

-- its bytes to come
abbrev coming_of : Upload → Coming
coming_of u = record { length = u.length; headers = u.headers }

opened_comes : (s : State) (n : ℕ) (u : Upload) → KnowsRequests s → ComesOn s.block (coming_of u) [] (opened s n (stream_of u)).state (suc (length s.world.requests))
opened_comes s n u known =
    let q : ℕ = suc (length s.world.requests) in
    let more : Asked = new_request n (stream_of u) (started (stream_of u) q s.block).0 in
    let above : length s.asked < q = omega (arith, known.lengths) in
    record {
      asked = more;
      at = ap (λ (l : ℕ). numbered (s.asked ++ more ∷ []) (suc l)) (sym known.lengths) ∙ numbered_last s.asked more;
      waits = (refl, (refl, refl));
      endless = none_ended s.ends (length s.asked) q above known.ends;
    }

module _ (c : Cluster) (time : ℕ) (u : Upload) (known : KnowsRequests c.run) where
  abbrev o : Outcome
  o = asked_for c time u

  abbrev q : ℕ
  q = number_of c time u

  asked_comes : o.refused ≡ None → ComesOn c.run.block (coming_of u) [] o.state q
  asked_comes taken =
      let tick : Act = moves (plainly (step.Tick (wait c time))) in
      let s : State = (acted c.run tick).state in
      let n : ℕ = asker c.members in
      subst (λ (o : Outcome). ComesOn c.run.block (coming_of u) [] o.state (number_in o.words)) (sym (begun_is s n (stream_of u) taken)) (opened_comes s n u (act_knows c.run tick (tt, tt, tt) known))

  abbrev Needs : List ℕ → ℕ → Type 0
  Needs came size = (size ≡ min c.run.block (u.length - length came)) × (length came ≤ u.length)

  -- it was opened, and these blocks came
  blocks_came : (blocks : List (List ℕ)) (s : State) → o.refused ≡ None → AreNeeded (after_acts o.state delivered) q blocks → s ≡ after_acts o.state (delivered ++ acts_of_blocks q blocks) →
      ComesOn c.run.block (coming_of u) (concat blocks) s q × (length (concat blocks) ≤ u.length)
  blocks_came blocks s taken needs state =
      let coming = coming_of u in
      let all = blocks_come c.run.block coming blocks [] (after_acts o.state delivered) q (drains_come c.run.block coming [] q all_messages o.state (asked_comes taken)) (omega arith) needs in
      (subst (λ (t : State). ComesOn c.run.block coming (concat blocks) t q) (sym state) all.0, all.1)

  module _ (size : ℕ) (blocks : List (List ℕ)) (s : State) where
    blocks_need : (r : Option (Refusal Cut)) → o.refused ≡ r → CameAsNeeded o.state q r blocks → s ≡ after_acts o.state (acts_opened_so_far q r blocks) → Some size ≡ needed_next s q r → Needs (concat blocks) size
    blocks_need (Some reason) refused needs state need = cc
    blocks_need None taken needs state need = let all = blocks_came blocks s taken needs state in (request_needs c.run.block (coming_of u) (concat blocks) size s q all.0 (sym need), all.1)

  pub upload_needs : (came : List ℕ) (size : ℕ) (s : State) → IsComing c time u came (Some size) s → Needs came size
  upload_needs came size s h = subst (λ (x : List ℕ). Needs x size) (sym h.came_is) (blocks_need size h.blocks s o.refused refl h.needed h.state_is h.need_is)

  -- no more came than was announced
  blocks_within : (blocks : List (List ℕ)) (s : State) (r : Option (Refusal Cut)) → o.refused ≡ r → CameAsNeeded o.state q r blocks → s ≡ after_acts o.state (acts_opened_so_far q r blocks) → length (concat blocks) ≤ u.length
  blocks_within blocks s (Some reason) refused none state = subst (λ (bs : List (List ℕ)). length (concat bs) ≤ u.length) (sym none) (omega arith)
  blocks_within blocks s None taken needs state = (blocks_came blocks s taken needs state).1

  pub upload_within : (came : List ℕ) (need : Option ℕ) (s : State) → IsComing c time u came need s → length came ≤ u.length
  upload_within came need s h = subst (λ (x : List ℕ). length x ≤ u.length) (sym h.came_is) (blocks_within h.blocks s o.refused refl h.needed h.state_is)

  -- until it is kept or given up it has no end, whatever is worked off and delivered
  pub upload_endless : (came : List ℕ) (need : Option ℕ) (s : State) → o.refused ≡ None → IsComing c time u came need s → end_of (after_acts s (round c.members ++ round c.members)).ends q ≡ None
  upload_endless came need s taken h =
      let needs : AreNeeded (after_acts o.state delivered) q h.blocks = subst (λ (r : Option (Refusal Cut)). CameAsNeeded o.state q r h.blocks) taken h.needed in
      let state : s ≡ after_acts o.state (delivered ++ acts_of_blocks q h.blocks) = h.state_is ∙ ap (λ (r : Option (Refusal Cut)). after_acts o.state (acts_opened_so_far q r h.blocks)) taken in
      (rounds_come c.run.block (coming_of u) (concat h.blocks) q c.members s (blocks_came h.blocks s taken needs state).0).endless
