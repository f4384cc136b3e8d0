-- What the acts of jobs and changes add: a tick and a request for each job, and a round at most for each node that takes part in a change.
use Rattle.std.specs.Prelude.{◌≡◌, ◌≤◌, ◌+◌, ◌*◌, ◌-◌, ◌==◌, ◌||◌, ◌&&◌, nat_lt, max, cond, if◌then◌else◌, ℕ, zero, suc, Bool, true, false, List, [], ◌∷◌, ◌++◌, Option, Some, None, length, map, take, drop, refl}
use Rattle.std.specs.List.{AllByRecursion, range_with_len}
use Rattle.std.proofs.Common.{sym, subst, arith}
use Rattle.crdt_core.proofs.Each.{all_append}
use Rattle.layout_roles.specs.declared.cut.Cut.{Cut}
use Rattle.layout_roles.specs.declared.role.Role.{Role}
use Rattle.layout_roles.specs.declared.redundancy.Redundancy.{Redundancy}
use Rattle.cluster_machine.specs.declared.step.Refusal.{Refusal}
use Rattle.cluster_machine.specs.declared.step.Refusal.TheVariants.{VersionLimit}
use Rattle.cluster_machine.specs.declared.step.Step.TheVariants.{Role as Stage, Redundancy as Spread, Apply, Ack, Sync, SyncAck, Clean, Work, Expire, Gossip}
use Rattle.cluster_machine.specs.Choices.{Decision}
use Rattle.cluster_machine.specs.Step.{none_given}
use Rattle.flow_model.specs.declared.order.Order.{Order}
use Rattle.flow_model.specs.declared.order.Order.TheVariants as order
use Rattle.flow_model.specs.declared.flow.FlowEnd.{FlowEnd}
use Rattle.change_model.specs.Given.{given_at}
use Rattle.change_model.specs.Steps.{to_one, from_one}
use Rattle.store_model.specs.Run.{Moving, State, plainly, need_at}
use Rattle.store_model.specs.Acts.{Act, moves, drain, forgets, takes, feeds, keeps, gives_up, after_acts, all_messages}
use Rattle.serve_model.specs.Stores.{Job, carry, keep, leave, order_of_job}
use Rattle.serve_model.specs.Clusters.{Cluster, cluster, wait, acts_to_ask, works, delivered, round, fed_block, fed_acts, decided, received_acts, streamed, order_acts, carried_acts, acts_to_end, expiry, acts_past_end, end_in, acts_opened, acts_then, asking, acts_for, acts_of_job, acts_at, number_in}
use Rattle.serve_changes.specs.Acts.{steps, stages_of, shows_acts, spreads_acts, each_acts, change_acts}
use Rattle.serve_changes.specs.Changing.{Change, Changing, change_from, acts_in, changed, with_change, acts_due, acts_through}
use Rattle.store_laws.specs.Hashed.{IsOtherAct, NeverCollect}
use Rattle.serve_limits.specs.Counts.{passes_in, opens_in, rounds_in, IsEvenAct, sum_in}
use Rattle.serve_limits.specs.Asked.{IsPlanned}

-- acts add so much time at most, so many requests and so many rounds, put no clock ahead, and don't collect
pub record Costs (t q r : ℕ) (acts : List Act) : Type 0 where
  pub passes : sum_in passes_in acts ≤ t
  pub opens : sum_in opens_in acts ≤ q
  pub rounds : sum_in rounds_in acts ≤ r
  pub even : AllByRecursion IsEvenAct acts
  pub never : NeverCollect acts

-- an act that adds nothing
abbrev pub IsFree : Act → Type 0
IsFree a = (passes_in a ≡ 0) × (opens_in a ≡ 0) × (rounds_in a ≡ 0) × IsEvenAct a × IsOtherAct a

pub none_cost : Costs 0 0 0 []
none_cost = record { passes = omega arith; opens = omega arith; rounds = omega arith; even = tt; never = tt }

pub sum_parts : (f : Act → ℕ) (first rest : List Act) → sum_in f (first ++ rest) ≡ sum_in f first + sum_in f rest
sum_parts f [] rest = omega arith
sum_parts f (a ∷ first) rest = let more = sum_parts f first rest in omega (arith, more)

pub costs_both : (t q r u p v : ℕ) (first rest : List Act) → Costs t q r first → Costs u p v rest → Costs (t + u) (q + p) (r + v) (first ++ rest)
costs_both t q r u p v first rest a b =
    let x = sum_parts passes_in first rest in
    let y = sum_parts opens_in first rest in
    let z = sum_parts rounds_in first rest in
    let a0 = a.passes in
    let a1 = a.opens in
    let a2 = a.rounds in
    let b0 = b.passes in
    let b1 = b.opens in
    let b2 = b.rounds in
    record { passes = omega (arith, x, a0, b0); opens = omega (arith, y, a1, b1); rounds = omega (arith, z, a2, b2); even = all_append IsEvenAct first rest a.even b.even; never = all_append IsOtherAct first rest a.never b.never }

pub costs_wider : (t q r u p v : ℕ) (acts : List Act) → t ≤ u → q ≤ p → r ≤ v → Costs t q r acts → Costs u p v acts
costs_wider t q r u p v acts x y z a =
    let a0 = a.passes in
    let a1 = a.opens in
    let a2 = a.rounds in
    record { passes = omega (arith, a0, x); opens = omega (arith, a1, y); rounds = omega (arith, a2, z); even = a.even; never = a.never }

-- acts that add nothing, one after the other
free_both : (first rest : List Act) → Costs 0 0 0 first → Costs 0 0 0 rest → Costs 0 0 0 (first ++ rest)
free_both first rest a b = costs_wider (0 + 0) (0 + 0) (0 + 0) 0 0 0 (first ++ rest) (omega arith) (omega arith) (omega arith) (costs_both 0 0 0 0 0 0 first rest a b)

pub free_first : (a : Act) (rest : List Act) → IsFree a → Costs 0 0 0 rest → Costs 0 0 0 (a ∷ rest)
free_first a rest h b =
    let x = h.0 in
    let y = h.1 in
    let z = h.2 in
    let b0 = b.passes in
    let b1 = b.opens in
    let b2 = b.rounds in
    record { passes = omega (arith, x, b0); opens = omega (arith, y, b1); rounds = omega (arith, z, b2); even = (h.3, b.even); never = (h.4, b.never) }

free_steps : (ms : List Moving) → AllByRecursion (λ (m : Moving). IsFree (moves m)) ms → Costs 0 0 0 (steps ms)
free_steps [] a = none_cost
free_steps (m ∷ ms) a = free_first (moves m) (steps ms) a.0 (free_steps ms a.1)

free_map : {X : Type 0} (f : X → Moving) → ((x : X) → IsFree (moves (f x))) → (xs : List X) → AllByRecursion (λ (m : Moving). IsFree (moves m)) (map f xs)
free_map f h [] = tt
free_map f h (x ∷ xs) = (h x, free_map f h xs)

-- ---- jobs

works_free : (members : List ℕ) → Costs 0 0 0 (works members)
works_free [] = none_cost
works_free (n ∷ ns) = free_first (moves (plainly (Work n))) (works ns) (refl, refl, refl, tt, tt) (works_free ns)

delivered_free : Costs 0 0 0 delivered
delivered_free = free_first (drain all_messages) [] (refl, refl, refl, tt, tt) none_cost

round_free : (members : List ℕ) → Costs 0 0 0 (round members)
round_free members = free_both (works members) delivered (works_free members) delivered_free

block_free : (q : ℕ) (bytes : List ℕ) → Costs 0 0 0 (fed_block q bytes)
block_free q bytes = free_first (feeds q bytes) delivered (refl, refl, refl, tt, tt) delivered_free

either : (b : Bool) (xs ys : List Act) → Costs 0 0 0 xs → Costs 0 0 0 ys → Costs 0 0 0 (if b then xs else ys)
either true xs ys h g = h
either false xs ys h g = g

fed_free : (more : ℕ) (s : State) (q : ℕ) (bytes : List ℕ) → Costs 0 0 0 (fed_acts more s q bytes)
fed_free zero s q bytes = none_cost
fed_free (suc more) s q bytes =
    elim (need_at s q) as (λ o. Costs 0 0 0 (elim o as (λ o. List Act) [
      | None ↦ []
      | Some size ↦ if size == 0 || nat_lt (length bytes) size then [] else fed_block q (take size bytes) ++ fed_acts more (after_acts s (fed_block q (take size bytes))) q (drop size bytes)
    ])) [
      | None ↦ none_cost
      | Some size ↦
          either (size == 0 || nat_lt (length bytes) size) [] (fed_block q (take size bytes) ++ fed_acts more (after_acts s (fed_block q (take size bytes))) q (drop size bytes)) none_cost
          (free_both (fed_block q (take size bytes)) (fed_acts more (after_acts s (fed_block q (take size bytes))) q (drop size bytes)) (block_free q (take size bytes)) (fed_free more (after_acts s (fed_block q (take size bytes))) q (drop size bytes)))
    ]

decided_free : (keeping : Bool) (q : ℕ) (o : Option ℕ) → Costs 0 0 0 (decided keeping q o)
decided_free keeping q None = none_cost
decided_free keeping q (Some size) =
    either (keeping && size == 0) (keeps q ∷ delivered) (gives_up q ∷ delivered) (free_first (keeps q) delivered (refl, refl, refl, tt, tt) delivered_free) (free_first (gives_up q) delivered (refl, refl, refl, tt, tt) delivered_free)

streamed_free : (keeping : Bool) (s : State) (q : ℕ) (came : List ℕ) → Costs 0 0 0 (streamed keeping s q came)
unfolding streamed
streamed_free keeping s q came =
    let received = received_acts s q came in
    free_both received (decided keeping q (need_at (after_acts s received) q))
    (free_both delivered (fed_acts (length came) (after_acts s delivered) q came) delivered_free (fed_free (length came) (after_acts s delivered) q came))
    (decided_free keeping q (need_at (after_acts s received) q))

order_free : (s : State) (q : ℕ) (o : Order) → Costs 0 0 0 (order_acts s q o)
order_free s q (order.Stream bucket key announced headers) = streamed_free false s q []
order_free s q (order.Put bucket key body headers) = delivered_free
order_free s q (order.Get bucket key) = delivered_free
order_free s q (order.Head bucket key) = delivered_free
order_free s q (order.Delete bucket key) = delivered_free
order_free s q (order.Copy from_bucket from_key bucket key headers) = delivered_free
order_free s q (order.List bucket prefix) = delivered_free

carried_free : (s : State) (q : ℕ) (job : Job) → Costs 0 0 0 (carried_acts s q job)
carried_free s q (carry o) = order_free s q o
carried_free s q (keep u came) = streamed_free (length came == u.length) s q came
carried_free s q (leave u came) = streamed_free false s q came

expiry_free : (q : ℕ) (end : Option FlowEnd) → Costs 0 0 0 (expiry q end)
expiry_free q None = free_first (moves (plainly (Expire q))) [] (refl, refl, refl, tt, tt) none_cost
expiry_free q (Some end) = none_cost

past_free : (q : ℕ) (end : Option FlowEnd) → Costs 0 0 0 (acts_past_end q end)
past_free q end =
    free_first (takes q) (expiry q end ++ forgets ∷ []) (refl, refl, refl, tt, tt)
    (free_both (expiry q end) (forgets ∷ []) (expiry_free q end) (free_first forgets [] (refl, refl, refl, tt, tt) none_cost))

opened_free : (members : List ℕ) (s : State) (q : ℕ) (done : List Act) → Costs 0 0 0 done → Costs 0 0 0 (acts_opened members s q done)
opened_free members s q done h =
    free_both (acts_to_end members done) (acts_past_end q (end_in members s q done))
    (free_both (done ++ round members) (round members) (free_both done (round members) h (round_free members)) (round_free members))
    (past_free q (end_in members s q done))

then_free : (members : List ℕ) (s : State) (q : ℕ) (done : List Act) (refused : Option (Refusal Cut)) → Costs 0 0 0 done → Costs 0 0 0 (acts_then members s q done refused)
then_free members s q done None h = opened_free members s q done h
then_free members s q done (Some reason) h = none_cost

-- a job ticks by what it waits, and asks once
job_costs : (members : List ℕ) (s : State) (ms : ℕ) (job : Job) → Costs ms 1 0 (acts_of_job members s ms job)
job_costs members s ms job =
    let o = asking members s ms (order_of_job job) in
    let q = number_in o.words in
    let asked : Costs ms 1 0 (acts_to_ask members ms (order_of_job job)) = record { passes = omega arith; opens = omega arith; rounds = omega arith; even = (tt, (tt, tt)); never = (tt, (tt, tt)) } in
    let rest = then_free members o.state q (acts_for members o job) o.refused (carried_free o.state q job) in
    costs_wider (ms + 0) (1 + 0) (0 + 0) ms 1 0 (acts_of_job members s ms job) (omega arith) (omega arith) (omega arith)
    (costs_both ms 1 0 0 0 0 (acts_to_ask members ms (order_of_job job)) (acts_then members o.state q (acts_for members o job) o.refused) asked rest)

-- ---- changes

stages_free : (roles : List Role) (wanted : Redundancy) → Costs 0 0 0 (stages_of roles wanted)
stages_free roles wanted =
    let none : ℕ → Moving = λ n. plainly (Stage n None) in
    let has : Role → Moving = λ r. plainly (Stage r.node (Some (r.zone, r.kind))) in
    free_steps (map none (range_with_len 1 16) ++ (map has roles ++ plainly (Spread wanted) ∷ []))
    (all_append (λ (m : Moving). IsFree (moves m)) (map none (range_with_len 1 16)) (map has roles ++ plainly (Spread wanted) ∷ []) (free_map none (λ n. (refl, refl, refl, tt, tt)) (range_with_len 1 16))
    (all_append (λ (m : Moving). IsFree (moves m)) (map has roles) (plainly (Spread wanted) ∷ []) (free_map has (λ r. (refl, refl, refl, tt, tt)) roles) ((refl, refl, refl, tt, tt), tt)))

shows_free : (pairs : List (ℕ × ℕ)) → Costs 0 0 0 (shows_acts pairs)
shows_free pairs =
    let shown : ℕ × ℕ → Moving = λ p. record { step = Gossip p.0 p.1; choice = none_given VersionLimit } in
    free_both (steps (map shown pairs)) (drain all_messages ∷ []) (free_steps (map shown pairs) (free_map shown (λ p. (refl, refl, refl, tt, tt)) pairs)) delivered_free

spreads_free : (m : ℕ) (part : List ℕ) → Costs 0 0 0 (spreads_acts m part)
spreads_free m part = free_both (shows_acts (to_one m part)) (shows_acts (from_one m part)) (shows_free (to_one m part)) (shows_free (from_one m part))

acks_free : (part : List ℕ) → Costs 0 0 0 (each_acts Ack part)
acks_free part = let does : ℕ → Moving = λ n. record { step = Ack n; choice = none_given VersionLimit } in free_steps (map does part) (free_map does (λ n. (refl, refl, refl, tt, tt)) part)

sync_acks_free : (part : List ℕ) → Costs 0 0 0 (each_acts SyncAck part)
sync_acks_free part = let does : ℕ → Moving = λ n. record { step = SyncAck n; choice = none_given VersionLimit } in free_steps (map does part) (free_map does (λ n. (refl, refl, refl, tt, tt)) part)

cleans_free : (part : List ℕ) → Costs 0 0 0 (each_acts Clean part)
cleans_free part = let does : ℕ → Moving = λ n. record { step = Clean n; choice = none_given VersionLimit } in free_steps (map does part) (free_map does (λ n. (refl, refl, refl, tt, tt)) part)

syncs_cost : (part : List ℕ) → Costs 0 0 (length part) (each_acts Sync part)
syncs_cost [] = none_cost
syncs_cost (n ∷ part) =
    let rest = syncs_cost part in
    let a0 = rest.passes in
    let a1 = rest.opens in
    let a2 = rest.rounds in
    record { passes = omega (arith, a0); opens = omega (arith, a1); rounds = omega (arith, a2); even = (tt, rest.even); never = (tt, rest.never) }

-- acts that add nothing before others, or behind them
free_before : (r : ℕ) (first rest : List Act) → Costs 0 0 0 first → Costs 0 0 r rest → Costs 0 0 r (first ++ rest)
free_before r first rest a b = costs_wider (0 + 0) (0 + 0) (0 + r) 0 0 r (first ++ rest) (omega arith) (omega arith) (omega arith) (costs_both 0 0 0 0 0 r first rest a b)

free_after : (r : ℕ) (first rest : List Act) → Costs 0 0 r first → Costs 0 0 0 rest → Costs 0 0 r (first ++ rest)
free_after r first rest a b = costs_wider (0 + 0) (0 + 0) (r + 0) 0 0 r (first ++ rest) (omega arith) (omega arith) (omega arith) (costs_both 0 0 r 0 0 0 first rest a b)

change_costs : (choice : Decision) (m : ℕ) (part : List ℕ) → Costs 0 0 (length part) (change_acts choice m part)
change_costs choice m part =
    let r = length part in
    let applies = moves (record { step = Apply m; choice = choice }) in
    let cleaned : Costs 0 0 0 (each_acts Clean part ++ forgets ∷ []) = free_both (each_acts Clean part) (forgets ∷ []) (cleans_free part) (free_first forgets [] (refl, refl, refl, tt, tt) none_cost) in
    let spread_last = free_both (spreads_acts m part) _ (spreads_free m part) cleaned in
    let acked_last = free_both (each_acts SyncAck part) _ (sync_acks_free part) spread_last in
    let spread_then = free_both (spreads_acts m part) _ (spreads_free m part) acked_last in
    let drained = free_first (drain all_messages) _ (refl, refl, refl, tt, tt) spread_then in
    let synced = free_after r (each_acts Sync part) _ (syncs_cost part) drained in
    let spread_first = free_before r (spreads_acts m part) _ (spreads_free m part) synced in
    let acked = free_before r (each_acts Ack part) _ (acks_free part) spread_first in
    let shown = free_before r (shows_acts (from_one m part)) _ (shows_free (from_one m part)) acked in
    free_before r (applies ∷ []) _ (free_first applies [] (refl, refl, refl, tt, tt) none_cost) shown

planned_costs : (s : State) (ch : Change) → IsPlanned ch → Costs 0 0 (length ch.part) (acts_in s ch)
planned_costs s ch h =
    let d = change_from h.older h.wanted h.shown in
    let all : Costs 0 0 (length d.part) (acts_in s d) =
    free_before (length d.part) d.stages (change_acts (given_at (after_acts s d.stages).world d.first d.shown) d.first d.part) (stages_free h.shown.roles.list h.wanted)
    (change_costs (given_at (after_acts s d.stages).world d.first d.shown) d.first d.part) in
    subst (λ (x : Change). Costs 0 0 (length x.part) (acts_in s x)) (sym h.is) all

-- ---- jobs, and changes between them

-- how many nodes take part in all changes together
abbrev pub parts : List (ℕ × Change) → ℕ
parts [] = 0
parts (ch ∷ chs) = length ch.1.part + parts chs

abbrev Planned : List (ℕ × Change) → Type 0
Planned chs = AllByRecursion (λ ch. IsPlanned ch.1) chs

module _ (limit : ℕ) where
  -- what is known of further jobs
  abbrev Further : List (ℕ × Job) → Type 0
  Further js = (c : Changing) → c.cluster.ticked ≤ limit → Planned c.to_come → Costs (limit - c.cluster.ticked) (length js) (parts c.to_come) (acts_through c js)

  -- the change that is made before them, if any
  by_change : (js : List (ℕ × Job)) → Further js → (d : Cluster) (chs : List (ℕ × Change)) → d.ticked ≤ limit → Planned chs → Costs (limit - d.ticked) (length js) (parts chs) (acts_due d chs ++ acts_through (with_change d chs) js)
  by_change js further d [] behind planned = further (record { cluster = d; to_come = [] }) behind tt
  by_change js further d (ch ∷ chs) behind planned = by_test (length d.run.world.requests == ch.0)
    where
      by_test : (b : Bool) → Costs (limit - d.ticked) (length js) (length ch.1.part + parts chs) (cond b (acts_in d.run ch.1) [] ++ acts_through (cond b (record { cluster = changed d ch.1; to_come = chs }) (record { cluster = d; to_come = ch ∷ chs })) js)
      by_test true =
          costs_wider (0 + (limit - d.ticked)) (0 + length js) (length ch.1.part + parts chs) (limit - d.ticked) (length js) (length ch.1.part + parts chs) _ (omega arith) (omega arith) (omega arith)
          (costs_both 0 0 (length ch.1.part) (limit - d.ticked) (length js) (parts chs) (acts_in d.run ch.1) (acts_through (record { cluster = changed d ch.1; to_come = chs }) js) (planned_costs d.run ch.1 planned.0) (further (record { cluster = changed d ch.1; to_come = chs }) behind planned.1))
      by_test false = further (record { cluster = d; to_come = ch ∷ chs }) behind planned

  pub through_costs : (c : Changing) (jobs : List (ℕ × Job)) → c.cluster.ticked ≤ limit → AllByRecursion (λ j. j.0 ≤ limit) jobs → Planned c.to_come → Costs (limit - c.cluster.ticked) (length jobs) (parts c.to_come) (acts_through c jobs)
  through_costs c [] low early planned = costs_wider 0 0 0 (limit - c.cluster.ticked) 0 (parts c.to_come) [] (omega arith) (omega arith) (omega arith) none_cost
  through_costs c (j ∷ js) low early planned =
      let time = j.0 in
      let job = j.1 in
      let after = (cluster.carries c.cluster time job).state in
      let one = job_costs c.cluster.members c.cluster.run (wait c.cluster time) job in
      let now = early.0 in
      let behind : max c.cluster.ticked time ≤ limit = omega (arith, low, now) in
      let rest = by_change js (λ d behind planned. through_costs d js behind early.1 planned) after c.to_come behind planned in
      costs_wider (wait c.cluster time + (limit - max c.cluster.ticked time)) (1 + length js) (0 + parts c.to_come) (limit - c.cluster.ticked) (suc (length js)) (parts c.to_come) _ (omega (arith, low, now)) (omega arith) (omega arith)
      (costs_both (wait c.cluster time) 1 0 (limit - max c.cluster.ticked time) (length js) (parts c.to_come) (acts_at c.cluster time job) (acts_due after c.to_come ++ acts_through (with_change after c.to_come) js) one rest)

-- each change has few
pub parts_few : (n : ℕ) (chs : List (ℕ × Change)) → Planned chs → length chs ≤ n → parts chs ≤ 32 * n
parts_few n [] planned low = omega arith
parts_few zero (ch ∷ chs) planned low = absurd (omega (arith, low))
parts_few (suc n) (ch ∷ chs) planned low = let one = planned.0.few in let rest = parts_few n chs planned.1 (omega (arith, low)) in omega (arith, one, rest)

-- a limit that all times keep
abbrev greatest_time : ℕ → List (ℕ × Job) → ℕ
greatest_time least [] = least
greatest_time least (j ∷ js) = j.0 + greatest_time least js

more_least : (least : ℕ) (jobs : List (ℕ × Job)) → least ≤ greatest_time least jobs
more_least least [] = omega arith
more_least least (j ∷ js) = let rest = more_least least js in omega (arith, rest)

all_early : (least n : ℕ) (jobs : List (ℕ × Job)) → greatest_time least jobs ≤ n → AllByRecursion (λ j. j.0 ≤ n) jobs
all_early least n [] low = tt
all_early least n (j ∷ js) low = (omega (arith, low), all_early least n js (omega (arith, low)))

-- no act of a server collects
pub server_never : (c : Changing) (jobs : List (ℕ × Job)) → Planned c.to_come → NeverCollect (acts_through c jobs)
server_never c jobs planned =
    let limit = greatest_time c.cluster.ticked jobs in
    (through_costs limit c jobs (more_least c.cluster.ticked jobs) (all_early c.cluster.ticked limit jobs (omega arith)) planned).never
