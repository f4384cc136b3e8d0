-- Time, clocks, requests and rounds of a server within its limits have their places.
use Rattle.std.specs.Prelude.{◌≡◌, ◌≤◌, ℕ, List, [], ◌∷◌, ◌++◌}
use Rattle.std.proofs.Common.{subst, arith}
use Rattle.crdt_rows.specs.AnyRow.{any_join}
use Rattle.object_schema.specs.Schema.{words}
use Rattle.cluster_machine.specs.Worlds.{next}
use Rattle.store_model.specs.Run.{World, Moving}
use Rattle.store_model.specs.Acts.{Act, acted, after_acts}
use Rattle.serve_model.specs.Stores.{Job}
use Rattle.serve_model.specs.Talk.{time_limit}
use Rattle.serve_changes.specs.Changing.{Changing, acts_through}
use Rattle.serve_limits.specs.Asked.{AreAskable, IsAtFirst}
use Rattle.serve_limits.specs.Counts.{IsUpTo, AllAreUpTo, CountsFit, AllCountsFit}
use Rattle.serve_limits.proofs.Acts.{wider, acts_go}
use Rattle.serve_limits.proofs.Jobs.{Costs, through_costs, parts_few}

fits : (w : World) → IsUpTo 253402000000000 1000000 3168 w → CountsFit w
fits w h =
    let time = h.time in
    let requests = h.requests in
    record {
      time = omega (arith, time);
      clocks = λ n. let skew = h.skews n in omega (arith, time, skew);
      requests = omega (arith, requests);
      rounds = λ n. let low = h.rounds n in omega (arith, low);
    }

all_fit : (t q r : ℕ) (w : World) (ms : List Moving) → t ≤ 253402000000000 → q ≤ 1000000 → r ≤ 3168 → AllAreUpTo t q r w ms → AllCountsFit w ms
all_fit t q r w [] a b c h = tt
all_fit t q r w (m ∷ ms) a b c h =
    let after = next any_join words w m in
    (fits after (wider t q r 253402000000000 1000000 3168 after a b c h.0), all_fit t q r after ms a b c h.1)

pub have_room : (c : Changing) (jobs : List (ℕ × Job)) → IsAtFirst c → AreAskable jobs → (before : List Act) (act : Act) (later : List Act) → acts_through c jobs ≡ before ++ act ∷ later →
    (let after = after_acts c.cluster.run before in AllCountsFit after.world (acted after act).moves)
have_room c jobs first asked before act later is =
    let ticked = first.ticked in
    let costs = through_costs time_limit c jobs (omega (arith, ticked)) asked.early first.planned.are in
    let all = subst (Costs _ _ _) is costs in
    let few = parts_few 99 c.to_come first.planned.are first.planned.few in
    let asks = asked.few in
    let passes = all.passes in
    let opens = all.opens in
    let rounds = all.rounds in
    let g = acts_go 0 0 0 c.cluster.run before act later first.world all.even in
    let after = after_acts c.cluster.run before in
    all_fit _ _ _ after.world (acted after act).moves (omega (arith, passes)) (omega (arith, opens, asks)) (omega (arith, rounds, few)) g.moves
