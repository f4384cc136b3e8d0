-- What requests do is prompt: they begin, go on once a phase ended, and finish.
use Rattle.std.proofs.Common.{◌≡◌, ◌≤◌, ◌+◌, ◌-◌, ℕ, zero, suc, Bool, true, false, if◌then◌else◌, Option, Some, None, List, [], ◌∷◌, ◌++◌, length, slice_get, slice_set, map, refl, sym, subst, inl, inr, arith}
use Rattle.std.proofs.lemmas.List.{length-append, length-map, length-set}
use Rattle.crdt_rows.specs.declared.any_row.AnyRow.{AnyRow}
use Rattle.crdt_rows.specs.AnyRow.{any_join}
use Rattle.object_schema.specs.Schema.{words}
use Rattle.wire_messages.specs.declared.phase.PhaseEnd.{PhaseEnd}
use Rattle.cluster_machine.specs.declared.step.Step.TheVariants.{Deliver, Open, Close}
use Rattle.cluster_machine.specs.declared.step.Refusal.{Refusal}
use Rattle.cluster_machine.specs.declared.step.Refusal.TheVariants.{NotMember, NoSuchBucket}
use Rattle.cluster_machine.specs.Layouts.{layouts}
use Rattle.cluster_machine.specs.Node.{Ended}
use Rattle.cluster_machine.specs.World.{numbered, clock, is_member_at, undelivered}
use Rattle.cluster_machine.specs.Worlds.{does, next, run}
use Rattle.layout_roles.specs.declared.cut.Cut.{Cut}
use Rattle.machine_origins.proofs.Lists.{all_numbered}
use Rattle.machine_origins.proofs.Places.{numbered_within, numbered_push_cases, numbered_set_cases, length_push}
use Rattle.machine_collects.specs.Prompt.{moments_after}
use Rattle.receiver_laws.specs.Places.{StepNames, ChoiceNames}
use Rattle.flow_model.specs.declared.order.Order.{Order}
use Rattle.flow_model.specs.declared.flow.Flow.{Flow}
use Rattle.flow_model.specs.declared.flow.FlowStep.{FlowStep}
use Rattle.flow_model.specs.declared.flow.FlowStep.TheVariants.{More, Need, Wait, End}
use Rattle.flow_model.specs.Flow.{started}
use Rattle.flow_model.specs.Next as flow
use Rattle.store_model.specs.Orders.{buckets_of}
use Rattle.store_model.specs.Run.{World, Moving, Asked, Draw, State, Outcome, silent, refusal, plainly, effect, doing, are_buckets, phases, new_request, opened, begins, draws_of, takes, follows, follow, goes_on, delivers, then_drains, drains}
use Rattle.store_model.specs.Acts.{plain}
use Rattle.store_model.proofs.Leads.{delivers_lead}
use Rattle.prompt_laws.proofs.Places.{IsPlace}
use Rattle.prompt_laws.proofs.Late.{FlowLate, StepLate, goes_on_late, started_late}
use Rattle.prompt_laws.proofs.Timed.{NamesStay, IsTimed, timed_next}
use Rattle.prompt_laws.proofs.Moves.{over, MayCome, GoPrompt, first_prompt, over_parts, parts_prompt}

-- each request has drawn no version from before it began
abbrev pub AreLate : List ℕ → List Asked → Type 0
AreLate moments asked = (q : ℕ) (a : Asked) (began : ℕ) → numbered asked q ≡ Some a → numbered moments q ≡ Some began → FlowLate began a.flow

-- so it is of a world and of the requests that were asked for, which have their moments
pub record IsDue (moments : List ℕ) (w : World) (asked : List Asked) : Type 0 where
  pub timed : IsTimed moments w
  pub few : length asked ≤ length moments
  pub late : AreLate moments asked

-- the steps of an outcome are prompt if they are timely and clear, and what comes of them is due
pub record Goes (moments : List ℕ) (s : State) (o : Outcome) : Type 0 where
  pub prompt : GoPrompt moments s.world o.moves
  pub after : IsDue (over moments s.world o.moves) o.state.world o.state.asked

-- ---- more moments

first_at : {A : Type 0} (xs ys : List A) (q : ℕ) (x : A) → q ≤ length xs → numbered (xs ++ ys) q ≡ Some x → numbered xs q ≡ Some x
first_at xs ys zero x low is = is
first_at xs ys (suc i) x low is = get_first xs i low is where
  get_first : (xs : List _) (i : ℕ) → suc i ≤ length xs → slice_get (xs ++ ys) i ≡ Some x → slice_get xs i ≡ Some x
  get_first [] i low is = absurd (omega (arith, low))
  get_first (z ∷ xs) zero low is = is
  get_first (z ∷ xs) (suc i) low is = get_first xs i (omega (arith, low)) is

late_more : (moments more : List ℕ) (asked : List Asked) → length asked ≤ length moments → AreLate moments asked → AreLate (moments ++ more) asked
late_more moments more asked few h q a began at is = let within = numbered_within asked q a at in h q a began at (first_at moments more q began (omega (arith, within, few)) is)

few_more : (moments more : List ℕ) (n : ℕ) → n ≤ length moments → n ≤ length (moments ++ more)
few_more moments more n low = let both = length-append moments more in omega (arith, both, low)

-- one request changes
late_set : (moments : List ℕ) (asked : List Asked) (q : ℕ) (was now : Asked) → numbered asked q ≡ Some was → ((began : ℕ) → numbered moments q ≡ Some began → FlowLate began now.flow) → AreLate moments asked → AreLate moments (slice_set asked (q - 1) now)
late_set moments asked q was now there fine h p a began at is = elim (numbered_set_cases asked q p was now a there at) [
  | inl e ↦ subst (λ (x : Asked). FlowLate began x.flow) e.1 (fine began (subst (λ n. numbered moments n ≡ Some began) e.0 is))
  | inr e ↦ h p a began e is
]

few_set : (moments : List ℕ) (asked : List Asked) (i : ℕ) (now : Asked) → length asked ≤ length moments → length (slice_set asked i now) ≤ length moments
few_set moments asked i now low = let same = length-set asked i now in omega (arith, same, low)

module _ (stays : NamesStay) where
  -- a step of the world
  due_next : (moments : List ℕ) (w : World) (asked : List Asked) (m : Moving) → StepNames IsPlace m.step → ChoiceNames IsPlace layouts m.choice → IsDue moments w asked →
      IsDue (moments_after moments w (does any_join words w m)) (next any_join words w m) asked
  due_next moments w asked m names choice h =
      let new : List ℕ = map (λ r. w.time) (does any_join words w m).opens in record {
        timed = timed_next stays moments w m names choice h.timed;
        few = few_more moments new (length asked) h.few;
        late = late_more moments new asked h.few h.late;
      }

  module _ (moments : List ℕ) (s : State) (h : IsDue moments s.world s.asked) where
    silent_goes : Goes moments s (silent s)
    silent_goes = record { prompt = λ timely clear. tt; after = h }

    refusal_goes : (r : Refusal Cut) → Goes moments s (refusal s r)
    refusal_goes r = record { prompt = λ timely clear. tt; after = h }

    -- one step, and no request
    pub plain_goes : (m : Moving) → StepNames IsPlace m.step → ChoiceNames IsPlace layouts m.choice → MayCome moments m.step → Goes moments s (plain s m)
    plain_goes m names choice may = record {
      prompt = first_prompt moments s.world m [] h.timed names may (λ timely clear. tt);
      after = due_next moments s.world s.asked m names choice h;
    }

    -- ---- a request begins

    opens_one : (n : ℕ) → is_member_at layouts s.world n ≡ true → length (effect s (plainly (Open n))).opens ≡ 1
    opens_one n member = rw member refl

    opened_goes : (n : ℕ) (o : Order) → IsPlace n → is_member_at layouts s.world n ≡ true → Goes moments s (opened s n o)
    opened_goes n o place member =
        let q : ℕ = suc (length s.world.requests) in
        let opens : Moving = plainly (Open n) in
        let first : Moving = phases q (started o q s.block).1 in
        let here : State = doing s opens in
        let request : Asked = new_request n o (started o q s.block).0 in
        let asked : List Asked = s.asked ++ request ∷ [] in
        let here_moments : List ℕ = moments_after moments s.world (effect s opens) in
        let new : List ℕ = map (λ r. s.world.time) (effect s opens).opens in
        let due = due_next moments s.world s.asked opens place tt h in
        let grew : length here_moments ≡ length moments + length new = length-append moments new in
        let as_many : length new ≡ length (effect s opens).opens = length-map (effect s opens).opens (λ r. s.world.time) in
        let one = opens_one n member in
        let more : length asked ≡ suc (length s.asked) = length_push s.asked request in
        let few = h.few in
        let late : AreLate here_moments asked = (λ p a began at is. elim (numbered_push_cases s.asked request p a at) [
          | inl e ↦ due.late p a began e is
          | inr e ↦ subst (λ (x : Asked). FlowLate began x.flow) e.1 (started_late began o q s.block).0
        ]) in
        record {
          prompt = first_prompt moments s.world opens (first ∷ []) h.timed place tt (first_prompt here_moments here.world first [] due.timed tt (λ began is. (started_late began o q s.block).1) (λ timely clear. tt));
          after = due_next here_moments here.world asked first tt tt (record { timed = due.timed; few = omega (arith, grew, as_many, one, more, few); late = late });
        }

    by_tests : (n : ℕ) (o : Order) (b c : Bool) → IsPlace n → is_member_at layouts s.world n ≡ b → Goes moments s (if b then (if c then opened s n o else refusal s NoSuchBucket) else refusal s NotMember)
    by_tests n o true true place member = opened_goes n o place member
    by_tests n o true false place member = refusal_goes NoSuchBucket
    by_tests n o false c place member = refusal_goes NotMember

    pub begins_goes : (n : ℕ) (o : Order) → IsPlace n → Goes moments s (begins s n o)
    begins_goes n o place = by_tests n o (is_member_at layouts s.world n) (are_buckets s.buckets (buckets_of o)) place refl

    -- ---- a request goes on

    module _ (q : ℕ) (a : Asked) (there : numbered s.asked q ≡ Some a) where
      takes_goes : (draws : List Draw) (step : FlowStep) → ((began : ℕ) → numbered moments q ≡ Some began → StepLate began step) → Goes moments s (takes s q a draws step)
      takes_goes draws (More f phase) fine =
          let m : Moving = phases q phase in record {
            prompt = first_prompt moments s.world m [] h.timed tt (λ began is. (fine began is).1) (λ timely clear. tt);
            after = due_next moments s.world _ m tt tt (record {
              timed = h.timed;
              few = few_set moments s.asked (q - 1) (record a { flow = Some f }) h.few;
              late = late_set moments s.asked q a (record a { flow = Some f }) there (λ began is. (fine began is).0) h.late;
            });
          }
      takes_goes draws (Need f wanted) fine = record {
        prompt = λ timely clear. tt;
        after = record { timed = h.timed; few = few_set moments s.asked (q - 1) (record a { flow = Some f }) h.few; late = late_set moments s.asked q a (record a { flow = Some f }) there fine h.late };
      }
      takes_goes draws (Wait f) fine = record {
        prompt = λ timely clear. tt;
        after = record { timed = h.timed; few = few_set moments s.asked (q - 1) (record a { flow = Some f }) h.few; late = late_set moments s.asked q a (record a { flow = Some f }) there fine h.late };
      }
      takes_goes draws (End end) fine =
          let m : Moving = plainly (Close q) in record {
            prompt = first_prompt moments s.world m [] h.timed tt tt (λ timely clear. tt);
            after = due_next moments s.world _ m tt tt (record {
              timed = h.timed;
              few = few_set moments s.asked (q - 1) (record a { flow = None }) h.few;
              late = late_set moments s.asked q a (record a { flow = None }) there (λ began is. tt) h.late;
            });
          }

  module _ (moments : List ℕ) (s : State) (h : IsDue moments s.world s.asked) where
    follows_goes : (q : ℕ) (a : Asked) (end : PhaseEnd AnyRow) (f : Option Flow) → numbered s.asked q ≡ Some a → a.flow ≡ f → Goes moments s (follows s q a end f)
    follows_goes q a end None there is = silent_goes moments s h
    follows_goes q a end (Some f) there is =
        let now : ℕ = clock s.world a.node in
        let seen : State = record s { saw = record { request = q; end = end } ∷ s.saw } in
        let goes = takes_goes moments seen (record { timed = h.timed; few = h.few; late = h.late }) q a there (draws_of seen q f.block f.stage end now) (flow.next f end now)
        (λ began at.
        let past : began ≤ s.world.time = all_numbered (λ t. t ≤ s.world.time) moments q began h.timed.past at in
        goes_on_late began f.id f.block f.stage end now (subst (FlowLate began) is (h.late q a began there at)) (omega (arith, past))) in
        record { prompt = goes.prompt; after = goes.after }

    follow_goes : (q : ℕ) (o : Option Asked) (end : PhaseEnd AnyRow) → numbered s.asked q ≡ o → Goes moments s (follow s q o end)
    follow_goes q None end there = silent_goes moments s h
    follow_goes q (Some a) end there = follows_goes q a end a.flow there refl

    on_goes : (ends : List (Ended AnyRow)) → Goes moments s (goes_on s ends)
    on_goes [] = silent_goes moments s h
    on_goes (e ∷ es) = follow_goes e.request (numbered s.asked e.request) e.how refl

  -- ---- deliveries

  pub delivers_goes : (moments : List ℕ) (s : State) (m : ℕ) → IsDue moments s.world s.asked → Goes moments s (delivers s m)
  delivers_goes moments s m h =
      let d : Moving = plainly (Deliver m) in
      let here : State = doing s d in
      let here_moments : List ℕ = moments_after moments s.world (effect s d) in
      let goes = on_goes here_moments here (due_next moments s.world s.asked d tt tt h) (effect s d).ends in
      record { prompt = first_prompt moments s.world d (goes_on here (effect s d).ends).moves h.timed tt tt goes.prompt; after = goes.after }

  then_goes : (moments : List ℕ) (s : State) (o rest : Outcome) → Goes moments s o → run any_join words s.world o.moves ≡ o.state.world → (IsDue (over moments s.world o.moves) o.state.world o.state.asked → Goes (over moments s.world o.moves) o.state rest) → Goes moments s (then_drains o rest)
  then_goes moments s o rest first leads later =
      let here_moments : List ℕ = over moments s.world o.moves in
      let goes = later first.after in
      record {
        prompt = parts_prompt moments s.world o.moves rest.moves first.prompt (subst (λ w. GoPrompt here_moments w rest.moves) (sym leads) goes.prompt);
        after = subst (λ ms. IsDue ms rest.state.world rest.state.asked) (sym (over_parts moments s.world o.moves rest.moves))
            (subst (λ w. IsDue (over here_moments w rest.moves) rest.state.world rest.state.asked) (sym leads) goes.after);
      }

  pub drains_goes : (n : ℕ) (moments : List ℕ) (s : State) → IsDue moments s.world s.asked → Goes moments s (drains n s)
  drains_goes zero moments s h = silent_goes moments s h
  drains_goes (suc n) moments s h =
      elim (undelivered s.world) as (λ o. Goes moments s (elim o as (λ o. Outcome) [ None ↦ silent s | Some m ↦ let o = delivers s m in then_drains o (drains n o.state) ])) [
        | None ↦ silent_goes moments s h
        | Some m ↦
            let o : Outcome = delivers s m in
            then_goes moments s o (drains n o.state) (delivers_goes moments s m h) (delivers_lead s m) (drains_goes n (over moments s.world o.moves) o.state)
      ]
