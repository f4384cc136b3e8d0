-- What acts add to the time, the requests and the rounds of a world.
use Rattle.std.specs.Prelude.{◌≡◌, ◌≤◌, ◌+◌, ℕ, zero, suc, Bool, true, false, if◌then◌else◌, List, [], ◌∷◌, ◌++◌, Option, Some, None, length, refl}
use Rattle.std.specs.List.{AllByRecursion}
use Rattle.std.proofs.Common.{ap, sym, subst, ◌∙◌, arith}
use Rattle.crdt_rows.specs.declared.any_row.AnyRow.{AnyRow}
use Rattle.crdt_rows.specs.AnyRow.{any_join}
use Rattle.object_schema.specs.Schema.{words}
use Rattle.layout_roles.specs.declared.layout.Layout.{Layout}
use Rattle.layout_roles.specs.declared.role.Role.{Role}
use Rattle.layout_roles.specs.declared.cut.Cut.{Cut}
use Rattle.wire_messages.specs.declared.phase.Phase.{Phase}
use Rattle.wire_messages.specs.declared.phase.PhaseEnd.{PhaseEnd}
use Rattle.cluster_machine.specs.declared.step.Step.TheVariants as step
use Rattle.cluster_machine.specs.declared.step.Refusal.{Refusal}
use Rattle.cluster_machine.specs.declared.step.Refusal.TheVariants.{NotMember, NoSuchBucket}
use Rattle.cluster_machine.specs.Layouts.{layouts}
use Rattle.cluster_machine.specs.Node.{Ended}
use Rattle.cluster_machine.specs.Step.{skewed, applied}
use Rattle.cluster_machine.specs.World.{clock, numbered, undelivered, is_member_at}
use Rattle.cluster_machine.specs.Worlds.{Done, does, next, run, installs as installing}
use Rattle.flow_model.specs.declared.order.Order.{Order}
use Rattle.flow_model.specs.declared.flow.Flow.{Flow}
use Rattle.flow_model.specs.declared.flow.FlowStep.{FlowStep}
use Rattle.flow_model.specs.declared.flow.FlowStep.TheVariants.{More, Need, Wait, End}
use Rattle.flow_model.specs.Flow.{started}
use Rattle.flow_model.specs.Next.{next as next_of}
use Rattle.flow_model.specs.Streams as stream
use Rattle.store_model.specs.Orders.{buckets_of}
use Rattle.store_model.specs.Run.{World, Moving, Asked, Draw, State, Outcome, silent, refusal, plainly, effect, doing, are_buckets, phases, opened, begins, draws_of, goes, takes, follows, follow, goes_on, delivers, then_drains, drains, hears, heard_in, heard, fills_at}
use Rattle.store_model.specs.Acts.{Act, moves, installs, asks, delivery, drain, forgets, takes as takes_end, adds, cuts, feeds, keeps, gives_up, acted, after_acts}
use Rattle.store_model.proofs.Leads.{delivers_lead}
use Rattle.serve_limits.specs.Counts.{IsUpTo, AllAreUpTo, passes, opens, rounds, IsEven, passes_in, opens_in, rounds_in, IsEvenAct, sum_in}
use Rattle.serve_limits.proofs.Steps.{Adds, step_adds, trio_adds, requests_after}

-- ---- worlds

pub wider : (t q r u p v : ℕ) (w : World) → t ≤ u → q ≤ p → r ≤ v → IsUpTo t q r w → IsUpTo u p v w
wider t q r u p v w a b c h =
    let time = h.time in
    let requests = h.requests in
    record { time = omega arith; skews = h.skews; requests = omega arith; rounds = λ n. let low = h.rounds n in omega arith }

all_wider : (t q r u p v : ℕ) (w : World) (ms : List Moving) → t ≤ u → q ≤ p → r ≤ v → AllAreUpTo t q r w ms → AllAreUpTo u p v w ms
all_wider t q r u p v w [] a b c h = tt
all_wider t q r u p v w (m ∷ ms) a b c h = (wider t q r u p v (next any_join words w m) a b c h.0, all_wider t q r u p v (next any_join words w m) ms a b c h.1)

added : (t q r u p v : ℕ) (w : World) (e : Done AnyRow) → IsUpTo t q r w → Adds u p v w e → IsUpTo (t + u) (q + p) (r + v) (applied w e)
added t q r u p v w e h a =
    let time = h.time in
    let requests = h.requests in
    let passed = a.passes in
    let opened = a.opens in
    let count = requests_after w e in
    record {
      time = omega arith;
      skews = λ n. ap (λ o. skewed o w.skew_of n) a.skews ∙ h.skews n;
      requests = omega (arith, requests, opened, count);
      rounds = λ n. let low = h.rounds n in let more = a.rounds n in omega (arith, low, more);
    }

step_within : (t q r : ℕ) (w : World) (m : Moving) → IsEven m.step → IsUpTo t q r w → IsUpTo (t + passes m.step) (q + opens m.step) (r + rounds m.step) (next any_join words w m)
step_within t q r w m even h = added t q r (passes m.step) (opens m.step) (rounds m.step) w (does any_join words w m) h (step_adds any_join words w m.step m.choice even)

-- ---- outcomes

-- after each of its steps a world is so far at most, and so is its state's
pub record Goes (t q r : ℕ) (s : State) (o : Outcome) : Type 0 where
  pub moves : AllAreUpTo t q r s.world o.moves
  pub state : IsUpTo t q r o.state.world

goes_wider : (t q r u p v : ℕ) (s : State) (o : Outcome) → t ≤ u → q ≤ p → r ≤ v → Goes t q r s o → Goes u p v s o
goes_wider t q r u p v s o a b c g = record { moves = all_wider t q r u p v s.world o.moves a b c g.moves; state = wider t q r u p v o.state.world a b c g.state }

along : (t q r : ℕ) (w : World) (first rest : List Moving) → AllAreUpTo t q r w first → AllAreUpTo t q r (run any_join words w first) rest → AllAreUpTo t q r w (first ++ rest)
along t q r w [] rest a b = b
along t q r w (m ∷ first) rest a b = (a.0, along t q r (next any_join words w m) first rest a.1 b)

module _ (t q r : ℕ) where
  -- a step that adds nothing
  free : (w : World) (m : Moving) → passes m.step ≡ 0 → opens m.step ≡ 0 → rounds m.step ≡ 0 → IsEven m.step → IsUpTo t q r w → IsUpTo t q r (next any_join words w m)
  free w m a b c even h = wider (t + passes m.step) (q + opens m.step) (r + rounds m.step) t q r (next any_join words w m) (omega (arith, a)) (omega (arith, b)) (omega (arith, c)) (step_within t q r w m even h)

  still : (s : State) → IsUpTo t q r s.world → Goes t q r s (silent s)
  still s h = record { moves = tt; state = h }

  begun : (s : State) (n : ℕ) (asked : Asked) (draws : List Draw) (flow : Flow) (phase : Phase AnyRow) → IsUpTo t q r s.world → Goes t q r s (goes s n asked draws flow phase)
  begun s n asked draws flow phase h = let after = free s.world (phases n phase) refl refl refl tt h in record { moves = (after, tt); state = after }

  taken : (s : State) (n : ℕ) (asked : Asked) (draws : List Draw) (st : FlowStep) → IsUpTo t q r s.world → Goes t q r s (takes s n asked draws st)
  taken s n asked draws (More flow phase) h = begun s n asked draws flow phase h
  taken s n asked draws (Need flow wanted) h = record { moves = tt; state = h }
  taken s n asked draws (Wait flow) h = record { moves = tt; state = h }
  taken s n asked draws (End end) h = let after = free s.world (plainly (step.Close n)) refl refl refl tt h in record { moves = (after, tt); state = after }

  followed : (s : State) (n : ℕ) (asked : Asked) (end : PhaseEnd AnyRow) (flow : Option Flow) → IsUpTo t q r s.world → Goes t q r s (follows s n asked end flow)
  followed s n asked end None h = still s h
  followed s n asked end (Some flow) h =
      let now = clock s.world asked.node in
      let saw : State = record s { saw = record { request = n; end = end } ∷ s.saw } in
      let g = taken saw n asked (draws_of saw n flow.block flow.stage end now) (next_of flow end now) h in
      record { moves = g.moves; state = g.state }

  follow_goes : (s : State) (n : ℕ) (o : Option Asked) (end : PhaseEnd AnyRow) → IsUpTo t q r s.world → Goes t q r s (follow s n o end)
  follow_goes s n None end h = still s h
  follow_goes s n (Some asked) end h = followed s n asked end asked.flow h

  goes_on_goes : (s : State) (ends : List (Ended AnyRow)) → IsUpTo t q r s.world → Goes t q r s (goes_on s ends)
  goes_on_goes s [] h = still s h
  goes_on_goes s (e ∷ es) h = follow_goes s e.request (numbered s.asked e.request) e.how h

  delivered : (s : State) (m : ℕ) → IsUpTo t q r s.world → Goes t q r s (delivers s m)
  delivered s m h =
      let d = plainly (step.Deliver m) in
      let first = free s.world d refl refl refl tt h in
      let rest = goes_on_goes (doing s d) (effect s d).ends first in
      record { moves = (first, rest.moves); state = rest.state }

  drained : (n : ℕ) (s : State) → IsUpTo t q r s.world → Goes t q r s (drains n s)
  drained zero s h = still s h
  drained (suc n) s h =
      elim (undelivered s.world) as (λ o. Goes t q r s (elim o as (λ o. Outcome) [ None ↦ silent s | Some m ↦ let o = delivers s m in then_drains o (drains n o.state) ])) [
        | None ↦ still s h
        | Some m ↦
            let o : Outcome = delivers s m in
            let first = delivered s m h in
            let rest = drained n o.state first.state in
            record {
              moves = along t q r s.world o.moves (drains n o.state).moves first.moves (subst (λ (w : World). AllAreUpTo t q r w (drains n o.state).moves) (sym (delivers_lead s m)) rest.moves);
              state = rest.state;
            }
      ]

  heard_goes : (s : State) (n : ℕ) (says : Flow → stream.Step) (o : Option Asked) → IsUpTo t q r s.world → Goes t q r s (heard s n says o)
  heard_goes s n says None h = still s h
  heard_goes s n says (Some asked) h = by_flow asked.flow
    where
      by_step : (o : stream.Step) → Goes t q r s (hears s n asked o)
      by_step None = still s h
      by_step (Some next) = begun s n asked [] next.0 next.1 h

      by_flow : (o : Option Flow) → Goes t q r s (heard_in s n says asked o)
      by_flow None = still s h
      by_flow (Some flow) = by_step (says flow)

opened_goes : (t q r : ℕ) (s : State) (n : ℕ) (order : Order) → IsUpTo t q r s.world → Goes t (q + 1) r s (opened s n order)
opened_goes t q r s n order h =
    let number = suc (length s.world.requests) in
    let opens = plainly (step.Open n) in
    let here : State = doing s opens in
    let first = started order number s.block in
    let one = wider (t + 0) (q + 1) (r + 0) t (q + 1) r here.world (omega arith) (omega arith) (omega arith) (step_within t q r s.world opens tt h) in
    let two = free t (q + 1) r here.world (phases number first.1) refl refl refl tt one in
    record { moves = (one, (two, tt)); state = two }

begins_goes : (t q r : ℕ) (s : State) (n : ℕ) (order : Order) → IsUpTo t q r s.world → Goes t (q + 1) r s (begins s n order)
begins_goes t q r s n order h = by_test (is_member_at layouts s.world n) (are_buckets s.buckets (buckets_of order))
  where
    refused : (reason : Refusal Cut) → Goes t (q + 1) r s (refusal s reason)
    refused reason = record { moves = tt; state = wider t q r t (q + 1) r s.world (omega arith) (omega arith) (omega arith) h }

    by_test : (x y : Bool) → Goes t (q + 1) r s (if x then (if y then opened s n order else refusal s NoSuchBucket) else refusal s NotMember)
    by_test true true = opened_goes t q r s n order h
    by_test true false = refused NoSuchBucket
    by_test false y = refused NotMember

-- ---- acts

module _ (t q r : ℕ) (s : State) (h : IsUpTo t q r s.world) where
  -- an act that adds nothing
  no_more : (o : Outcome) → Goes t q r s o → Goes (t + 0) (q + 0) (r + 0) s o
  no_more o g = goes_wider t q r (t + 0) (q + 0) (r + 0) s o (omega arith) (omega arith) (omega arith) g

  installed_goes : (first : Layout) → Goes t q r s (acted s (installs first))
  installed_goes first = record {
    moves = tt;
    state =
        let e = installing any_join words s.world first in
        wider (t + 0) (q + 0) (r + 0) t q r (applied s.world e) (omega arith) (omega arith) (omega arith) (added t q r 0 0 0 s.world e h (trio_adds any_join words s.world 0 0 0 first (λ (roles : List Role). roles)));
  }

  pub act_goes : (a : Act) → IsEvenAct a → Goes (t + passes_in a) (q + opens_in a) (r + rounds_in a) s (acted s a)
  act_goes (moves m) even = let after = step_within t q r s.world m even h in record { moves = (after, tt); state = after }
  act_goes (installs first) even = no_more _ (installed_goes first)
  act_goes (asks n order) even = goes_wider t (q + 1) r (t + 0) (q + 1) (r + 0) s (begins s n order) (omega arith) (omega arith) (omega arith) (begins_goes t q r s n order h)
  act_goes (delivery m) even = no_more _ (delivered t q r s m h)
  act_goes (drain n) even = no_more _ (drained t q r n s h)
  act_goes forgets even = no_more _ (record { moves = tt; state = record { time = h.time; skews = h.skews; requests = h.requests; rounds = h.rounds } })
  act_goes (takes_end n) even = no_more _ (record { moves = tt; state = h })
  act_goes (adds name) even = no_more _ (record { moves = tt; state = h })
  act_goes (cuts block) even = no_more _ (record { moves = tt; state = h })
  act_goes (feeds n bytes) even = no_more _ (heard_goes t q r s n (λ flow. stream.fed flow bytes) (numbered s.asked n) h)
  act_goes (keeps n) even =
      let filled : State = record s { draws = fills_at s n (numbered s.asked n) ++ s.draws } in
      let g = heard_goes t q r filled n stream.finished (numbered s.asked n) h in
      no_more _ (record { moves = g.moves; state = g.state })
  act_goes (gives_up n) even = no_more _ (heard_goes t q r s n stream.given_up (numbered s.asked n) h)

-- the world after acts
pub acts_within : (t q r : ℕ) (s : State) (acts : List Act) → AllByRecursion IsEvenAct acts → IsUpTo t q r s.world → IsUpTo (t + sum_in passes_in acts) (q + sum_in opens_in acts) (r + sum_in rounds_in acts) (after_acts s acts).world
acts_within t q r s [] even h = wider t q r (t + 0) (q + 0) (r + 0) s.world (omega arith) (omega arith) (omega arith) h
acts_within t q r s (a ∷ acts) even h =
    let first = act_goes t q r s h a even.0 in
    let t' = t + passes_in a in
    let q' = q + opens_in a in
    let r' = r + rounds_in a in
    wider (t' + sum_in passes_in acts) (q' + sum_in opens_in acts) (r' + sum_in rounds_in acts) (t + (passes_in a + sum_in passes_in acts)) (q + (opens_in a + sum_in opens_in acts)) (r + (rounds_in a + sum_in rounds_in acts)) (after_acts (acted s a).state acts).world
    (omega arith) (omega arith) (omega arith) (acts_within t' q' r' (acted s a).state acts even.1 first.state)

sum_both : (f : Act → ℕ) (first rest : List Act) → sum_in f (first ++ rest) ≡ sum_in f first + sum_in f rest
sum_both f [] rest = omega arith
sum_both f (a ∷ first) rest = let more = sum_both f first rest in omega (arith, more)

pub even_parts : (before later : List Act) → AllByRecursion IsEvenAct (before ++ later) → AllByRecursion IsEvenAct before × AllByRecursion IsEvenAct later
even_parts [] later h = (tt, h)
even_parts (a ∷ before) later h = let rest = even_parts before later h.1 in ((h.0, rest.0), rest.1)

-- each act of them
pub acts_go : (t q r : ℕ) (s : State) (before : List Act) (act : Act) (later : List Act) → IsUpTo t q r s.world → AllByRecursion IsEvenAct (before ++ act ∷ later) →
    (let acts = before ++ act ∷ later in Goes (t + sum_in passes_in acts) (q + sum_in opens_in acts) (r + sum_in rounds_in acts) (after_acts s before) (acted (after_acts s before) act))
acts_go t q r s before act later h even =
    let parts = even_parts before (act ∷ later) even in
    let now = acts_within t q r s before parts.0 h in
    let t' = t + sum_in passes_in before in
    let q' = q + sum_in opens_in before in
    let r' = r + sum_in rounds_in before in
    let a = sum_both passes_in before (act ∷ later) in
    let b = sum_both opens_in before (act ∷ later) in
    let c = sum_both rounds_in before (act ∷ later) in
    let after = after_acts s before in
    goes_wider (t' + passes_in act) (q' + opens_in act) (r' + rounds_in act) _ _ _ after (acted after act) (omega (arith, a)) (omega (arith, b)) (omega (arith, c)) (act_goes t' q' r' after now act parts.1.0)
