-- No act of a server is `collect`.
use Rattle.std.specs.Prelude.{◌==◌, ◌&&◌, ◌||◌, nat_lt, cond, if◌then◌else◌}
use Rattle.std.proofs.Common.{ℕ, zero, suc, Bool, true, false, Option, Some, None, List, [], ◌∷◌, ◌++◌, map, length, take, drop}
use Rattle.std.specs.List.{AllByRecursion, range_with_len}
use Rattle.crdt_rows.specs.declared.any_row.AnyRow.{AnyRow}
use Rattle.layout_roles.specs.declared.cut.Cut.{Cut}
use Rattle.layout_roles.specs.declared.layout.Layout.{Layout}
use Rattle.layout_roles.specs.declared.redundancy.Redundancy.{Redundancy}
use Rattle.layout_roles.specs.declared.role.Role.{Role}
use Rattle.cluster_machine.specs.declared.step.Refusal.{Refusal}
use Rattle.cluster_machine.specs.declared.step.Refusal.TheVariants.{VersionLimit}
use Rattle.cluster_machine.specs.declared.step.Step.{Step}
use Rattle.cluster_machine.specs.declared.step.Step.TheVariants.{Role as Stage, Redundancy as Spread, Gossip, Ack, Sync, SyncAck, Clean}
use Rattle.cluster_machine.specs.Choices.{Decision}
use Rattle.cluster_machine.specs.Step.{none_given}
use Rattle.change_model.specs.Steps.{to_one, from_one}
use Rattle.change_model.specs.Given.{given_at}
use Rattle.flow_model.specs.declared.order.Order.{Order}
use Rattle.flow_model.specs.declared.order.Order.TheVariants as order
use Rattle.flow_model.specs.declared.flow.FlowEnd.{FlowEnd}
use Rattle.store_model.specs.Run.{State, Moving, plainly, need_at}
use Rattle.store_model.specs.Acts.{Act, moves, drain, forgets, keeps, gives_up, adds, cuts, installs, after_acts, all_messages}
use Rattle.store_laws.specs.Hashed.{IsOtherAct, NeverCollect}
use Rattle.serve_model.specs.Stores.{Job, carry, keep, leave, order_of_job}
use Rattle.serve_model.specs.Clusters.{Cluster, cluster, works, delivered, round, fed_block, fed_acts, decided, received_acts, streamed, order_acts, carried_acts, acts_to_ask, acts_to_end, expiry, acts_past_end, number_in, end_in, acts_then, asking, acts_of_job, acts_at, wait}
use Rattle.serve_changes.specs.Acts.{steps, stages_of, shows_acts, spreads_acts, each_acts, change_acts}
use Rattle.serve_changes.specs.Changing.{Change as Model, Changing, changing, change_from, acts_in, changed, with_change, acts_due, acts_through}
use Rattle.serve_cluster.specs.declared.change.Change.{Change}
use Rattle.serve_run.specs.declared.plan.Plan.{Plan}
use Rattle.serve_run.specs.Start.{preparing, opening}
use Rattle.serve_run.specs.Begun.{to_come_from, begun}
use Rattle.serve_run.specs.Served.{all_acts}

both : (xs ys : List Act) → NeverCollect xs → NeverCollect ys → NeverCollect (xs ++ ys)
both [] ys h k = k
both (x ∷ xs) ys h k = (h.0, both xs ys h.1 k)

if_never : (b : Bool) (xs ys : List Act) → NeverCollect xs → NeverCollect ys → NeverCollect (if b then xs else ys)
if_never true xs ys h k = h
if_never false xs ys h k = k

cond_never : (b : Bool) (xs ys : List Act) → NeverCollect xs → NeverCollect ys → NeverCollect (cond b xs ys)
cond_never true xs ys h k = h
cond_never false xs ys h k = k

-- ---- jobs

works_never : (members : List ℕ) → NeverCollect (works members)
works_never [] = tt
works_never (n ∷ ns) = (tt, works_never ns)

round_never : (members : List ℕ) → NeverCollect (round members)
round_never members = both (works members) delivered (works_never members) (tt, tt)

fed_never : (more : ℕ) (s : State) (q : ℕ) (bytes : List ℕ) → NeverCollect (fed_acts more s q bytes)
fed_never zero s q bytes = tt
fed_never (suc more) s q bytes =
    let rest = λ (size : ℕ). fed_acts more (after_acts s (fed_block q (take size bytes))) q (drop size bytes) in
    elim (need_at s q) as (λ o. NeverCollect (elim o as (λ o. List Act) [
      | None ↦ []
      | Some size ↦ if size == 0 || nat_lt (length bytes) size then [] else fed_block q (take size bytes) ++ rest size
    ])) [
      | None ↦ tt
      | Some size ↦
          let later = fed_never more (after_acts s (fed_block q (take size bytes))) q (drop size bytes) in
          if_never (size == 0 || nat_lt (length bytes) size) [] (fed_block q (take size bytes) ++ rest size) tt (both (fed_block q (take size bytes)) (rest size) (tt, (tt, tt)) later)
    ]

decided_never : (keeping : Bool) (q : ℕ) (o : Option ℕ) → NeverCollect (decided keeping q o)
decided_never keeping q None = tt
decided_never keeping q (Some size) = if_never (keeping && size == 0) (keeps q ∷ delivered) (gives_up q ∷ delivered) (tt, (tt, tt)) (tt, (tt, tt))

streamed_never : (keeping : Bool) (s : State) (q : ℕ) (came : List ℕ) → NeverCollect (streamed keeping s q came)
unfolding streamed
streamed_never keeping s q came =
    let received = received_acts s q came in
    let need = need_at (after_acts s received) q in
    let came_so : NeverCollect received = both delivered (fed_acts (length came) (after_acts s delivered) q came) (tt, tt) (fed_never (length came) (after_acts s delivered) q came) in
    both received (decided keeping q need) came_so (decided_never keeping q need)

order_never : (s : State) (q : ℕ) (o : Order) → NeverCollect (order_acts s q o)
order_never s q (order.Stream bucket key announced headers) = streamed_never false s q []
order_never s q other = (tt, tt)

carried_never : (s : State) (q : ℕ) (job : Job) → NeverCollect (carried_acts s q job)
carried_never s q (carry o) = order_never s q o
carried_never s q (keep u came) = streamed_never (length came == u.length) s q came
carried_never s q (leave u came) = streamed_never false s q came

expiry_never : (q : ℕ) (end : Option FlowEnd) → NeverCollect (expiry q end)
expiry_never q None = (tt, tt)
expiry_never q (Some end) = tt

past_end_never : (q : ℕ) (end : Option FlowEnd) → NeverCollect (acts_past_end q end)
past_end_never q end = (tt, both (expiry q end) (forgets ∷ []) (expiry_never q end) (tt, tt))

module _ (members : List ℕ) where
  to_end_never : (done : List Act) → NeverCollect done → NeverCollect (acts_to_end members done)
  to_end_never done h = both (done ++ round members) (round members) (both done (round members) h (round_never members)) (round_never members)

  then_never : (s : State) (q : ℕ) (done : List Act) (refused : Option (Refusal Cut)) → NeverCollect done → NeverCollect (acts_then members s q done refused)
  then_never s q done (Some reason) h = tt
  then_never s q done None h =
      let end = end_in members s q done in
      both (acts_to_end members done) (acts_past_end q end) (to_end_never done h) (past_end_never q end)

  job_never : (s : State) (ms : ℕ) (job : Job) → NeverCollect (acts_of_job members s ms job)
  job_never s ms job =
      let o = asking members s ms (order_of_job job) in
      let q = number_in o.words in
      let done = carried_acts o.state q job in
      both (acts_to_ask members ms (order_of_job job)) (acts_then members o.state q done o.refused) (tt, (tt, tt)) (then_never o.state q done o.refused (carried_never o.state q job))

-- ---- changes

-- no step is `collect`
abbrev AreOther : List Moving → Type 0
AreOther = AllByRecursion (λ (m : Moving). IsOtherAct (moves m))

steps_never : (ms : List Moving) → AreOther ms → NeverCollect (steps ms)
steps_never [] h = tt
steps_never (m ∷ ms) h = (h.0, steps_never ms h.1)

joined : (ms ns : List Moving) → AreOther ms → AreOther ns → AreOther (ms ++ ns)
joined [] ns h k = k
joined (m ∷ ms) ns h k = (h.0, joined ms ns h.1 k)

mapped : {A : Type 0} (f : A → Moving) → ((x : A) → IsOtherAct (moves (f x))) → (xs : List A) → AreOther (map f xs)
mapped f h [] = tt
mapped f h (x ∷ xs) = (h x, mapped f h xs)

stages_never : (roles : List Role) (wanted : Redundancy) → NeverCollect (stages_of roles wanted)
stages_never roles wanted =
    let none : ℕ → Moving = λ n. plainly (Stage n None) in
    let some : Role → Moving = λ r. plainly (Stage r.node (Some (r.zone, r.kind))) in
    let last : List Moving = plainly (Spread wanted) ∷ [] in
    let unstaged = map none (range_with_len 1 16) in
    let staged = map some roles in
    steps_never (unstaged ++ (staged ++ last)) (joined unstaged (staged ++ last) (mapped none (λ n. tt) (range_with_len 1 16)) (joined staged last (mapped some (λ r. tt) roles) (tt, tt)))

shows_never : (pairs : List (ℕ × ℕ)) → NeverCollect (shows_acts pairs)
shows_never pairs =
    let shown : ℕ × ℕ → Moving = λ p. record { step = Gossip p.0 p.1; choice = none_given VersionLimit } in
    both (steps (map shown pairs)) (drain all_messages ∷ []) (steps_never (map shown pairs) (mapped shown (λ p. tt) pairs)) (tt, tt)

spreads_never : (m : ℕ) (part : List ℕ) → NeverCollect (spreads_acts m part)
spreads_never m part = both (shows_acts (to_one m part)) (shows_acts (from_one m part)) (shows_never (to_one m part)) (shows_never (from_one m part))

each_never : (does : ℕ → Step AnyRow) → ((n : ℕ) → IsOtherAct (moves (plainly (does n)))) → (part : List ℕ) → NeverCollect (each_acts does part)
each_never does h part =
    let doing : ℕ → Moving = λ n. record { step = does n; choice = none_given VersionLimit } in
    steps_never (map doing part) (mapped doing h part)

change_never : (choice : Decision) (m : ℕ) (part : List ℕ) → NeverCollect (change_acts choice m part)
change_never choice m part =
    let spread = spreads_acts m part in
    let cleaned = each_acts Clean part ++ forgets ∷ [] in
    let acked = each_acts SyncAck part ++ (spread ++ cleaned) in
    let synced = each_acts Sync part ++ (drain all_messages ∷ (spread ++ acked)) in
    let cleans : NeverCollect cleaned = both (each_acts Clean part) (forgets ∷ []) (each_never Clean (λ n. tt) part) (tt, tt) in
    let acks : NeverCollect acked = both (each_acts SyncAck part) (spread ++ cleaned) (each_never SyncAck (λ n. tt) part) (both spread cleaned (spreads_never m part) cleans) in
    let syncs : NeverCollect synced = both (each_acts Sync part) (drain all_messages ∷ (spread ++ acked)) (each_never Sync (λ n. tt) part) (tt, both spread acked (spreads_never m part) acks) in
    let raised = both (each_acts Ack part) (spread ++ synced) (each_never Ack (λ n. tt) part) (both spread synced (spreads_never m part) syncs) in
    (tt, both (shows_acts (from_one m part)) (each_acts Ack part ++ (spread ++ synced)) (shows_never (from_one m part)) raised)

-- what is staged for the changes to come
abbrev AreStaged : List (ℕ × Model) → Type 0
AreStaged = AllByRecursion (λ (ch : ℕ × Model). NeverCollect ch.1.stages)

in_never : (s : State) (ch : Model) → NeverCollect ch.stages → NeverCollect (acts_in s ch)
in_never s ch h =
    let choice = given_at (after_acts s ch.stages).world ch.first ch.shown in
    both ch.stages (change_acts choice ch.first ch.part) h (change_never choice ch.first ch.part)

due_never : (c : Cluster) (chs : List (ℕ × Model)) → AreStaged chs → NeverCollect (acts_due c chs)
due_never c [] h = tt
due_never c (ch ∷ chs) h = cond_never (length c.run.world.requests == ch.0) (acts_in c.run ch.1) [] (in_never c.run ch.1 h.0) tt

either : (b : Bool) (x y : Changing) → AreStaged x.to_come → AreStaged y.to_come → AreStaged (cond b x y).to_come
either true x y h k = h
either false x y h k = k

left_staged : (c : Cluster) (chs : List (ℕ × Model)) → AreStaged chs → AreStaged (with_change c chs).to_come
left_staged c [] h = tt
left_staged c (ch ∷ chs) h = either (length c.run.world.requests == ch.0) (record { cluster = changed c ch.1; to_come = chs }) (record { cluster = c; to_come = ch ∷ chs }) h.1 h

through_never : (c : Changing) (js : List (ℕ × Job)) → AreStaged c.to_come → NeverCollect (acts_through c js)
through_never c [] h = tt
through_never c (j ∷ js) h =
    let carried = (cluster.carries c.cluster j.0 j.1).state in
    let next = (changing.carries c j.0 j.1).state in
    let due = acts_due carried c.to_come in
    let later = through_never next js (left_staged carried c.to_come h) in
    both (acts_at c.cluster j.0 j.1) (due ++ acts_through next js) (job_never c.cluster.members c.cluster.run (wait c.cluster j.0) j.1) (both due (acts_through next js) (due_never carried c.to_come h) later)

all_staged : (l : Layout) (cs : List Change) → AreStaged (to_come_from l cs)
all_staged l [] = tt
all_staged l (c ∷ cs) = (stages_never c.shown.roles.list c.redundancy, all_staged (change_from l c.redundancy c.shown).new cs)

-- ---- the opening

adds_never : (buckets : List (List ℕ)) → NeverCollect (map adds buckets)
adds_never [] = tt
adds_never (b ∷ bs) = (tt, adds_never bs)

opening_never : (buckets : List (List ℕ)) (size : ℕ) (first : Layout) → NeverCollect (opening buckets size first)
opening_never buckets size first =
    let prepared = both (map adds buckets) (cuts size ∷ []) (adds_never buckets) (tt, tt) in
    both (preparing buckets size) (installs first ∷ []) prepared (tt, tt)

-- all acts of a server
pub server_never_collects : (p : Plan) (first : Layout) (jobs : List (ℕ × Job)) → NeverCollect (all_acts p first jobs)
server_never_collects p first jobs =
    let opens = opening p.config.buckets p.config.block_size first in
    both opens (acts_through (begun p first) jobs) (opening_never p.config.buckets p.config.block_size first) (through_never (begun p first) jobs (all_staged first p.changes))
