-- A get that is opened, and what it gives in all.
use Rattle.std.proofs.Common.{◌≡◌, ◌≤◌, ◌<◌, ℕ, suc, true, false, Option, Some, None, List, [], ◌∷◌, ◌++◌, length, if◌then◌else◌, option_map, refl, sym, ap, ◌∙◌, subst, arith, ne_eqb}
use Rattle.std.specs.List.{AllByRecursion}
use Rattle.crdt_core.proofs.Each.{all_append}
use Rattle.crdt_rows.specs.declared.version.Version.{Version}
use Rattle.crdt_rows.specs.declared.body.Meta.{Meta}
use Rattle.layout_roles.specs.declared.cut.Cut.{Cut}
use Rattle.cluster_machine.specs.declared.step.Refusal.{Refusal}
use Rattle.cluster_machine.specs.declared.step.Refusal.TheVariants.{NotMember, NoSuchBucket}
use Rattle.cluster_machine.specs.declared.step.Step.TheVariants.{Tick}
use Rattle.cluster_machine.specs.Layouts.{layouts}
use Rattle.cluster_machine.specs.World.{is_member_at, numbered}
use Rattle.machine_origins.proofs.Places.{numbered_last}
use Rattle.flow_model.specs.declared.order.Order.{Order}
use Rattle.flow_model.specs.declared.order.Order.TheVariants.{Get}
use Rattle.flow_model.specs.declared.flow.FlowEnd.{FlowEnd}
use Rattle.flow_model.specs.Flow.{started}
use Rattle.store_model.specs.Orders.{buckets_of}
use Rattle.store_model.specs.Run.{State, Asked, Saw, Outcome, refusal, plainly, are_buckets, new_request, opened, begins}
use Rattle.store_model.specs.Acts.{Act, moves, drain, end_of, acted, all_messages}
use Rattle.store_model.specs.Gets.{object_seen, found_by, gathered}
use Rattle.serve_model.specs.Stores.{Given, IsFirstOf, given_with}
use Rattle.serve_model.specs.Clusters.{Cluster, wait, asker, works, delivered, round, acts_to_end, begun_with, number_in, given_by, end_then, begun_then}
use Rattle.get_laws.specs.OnTheWay.{KnowsRequests, LeavesEnd, IsLater, next_request, opening, asked_for, IsTaken, number_of, finished, IsOnTheWay, given_in_all}
use Rattle.get_laws.proofs.Knowing.{act_knows}
use Rattle.get_laws.proofs.Getting.{given_at, gives_all}
use Rattle.get_laws.proofs.Acting.{GivesOn, stage_in, gives_so, gives_more, gives_from, later_gives}

-- ---- a get is opened

none_seen : (saw : List Saw) (n q : ℕ) → n < q → AllByRecursion (λ (e : Saw). e.request ≤ n) saw → object_seen saw q ≡ None
none_seen [] n q above h = refl
none_seen (e ∷ es) n q above h = (let low = h.0 in rw (ne_eqb e.request q (λ same. omega (arith, same, low, above))) (none_seen es n q above h.1))

pub none_ended : (ends : List (ℕ × FlowEnd)) (n q : ℕ) → n < q → AllByRecursion (λ (e : ℕ × FlowEnd). e.0 ≤ n) ends → end_of ends q ≡ None
none_ended [] n q above h = refl
none_ended (e ∷ es) n q above h = (let low = h.0 in rw (ne_eqb e.0 q (λ same. omega (arith, same, low, above))) (none_ended es n q above h.1))

pub opened_gives : (s : State) (n : ℕ) (bucket key : List ℕ) → KnowsRequests s → GivesOn None (opening s n bucket key) (next_request s)
opened_gives s n bucket key known =
    let q : ℕ = next_request s in
    let more : Asked = new_request n (Get bucket key) (started (Get bucket key) q s.block).0 in
    let above : length s.asked < q = omega (arith, known.lengths) in
    record {
      node = n;
      name = record { bucket = bucket; key = key };
      flow = more.flow;
      end = None;
      seen = None;
      asked = ap (λ (l : ℕ). numbered (s.asked ++ more ∷ []) (suc l)) (sym known.lengths) ∙ numbered_last s.asked more;
      end_is = none_ended s.ends (length s.asked) q above known.ends;
      seen_is = none_seen s.saw (length s.asked) q above known.saw;
      at = refl;
      more = tt;
    }

-- what it has given is the first of what it has given later
pub goes_on_with : {q : ℕ} (s t u : State) → GivesOn None s q → IsLater q s t → IsLater q t u → IsFirstOf (given_by t q) (given_by u q)
goes_on_with s t u h then_t then_u = gives_more u (later_gives t u then_u (gives_from t (later_gives s t then_t h)))

-- what was found stays
found_first : (found more : Option (Version × Meta)) (bytes all : List ℕ) →
    IsFirstOf (option_map (λ (f : Version × Meta). record { version = f.0; meta = f.1; bytes = bytes }) found) (option_map (λ (f : Version × Meta). record { version = f.0; meta = f.1; bytes = all }) more) →
    (f : Version × Meta) → found ≡ Some f → more ≡ Some f
found_first None more bytes all first f is = cc
found_first (Some x) None bytes all first f is = absurd first
found_first (Some x) (Some y) bytes all first f is = (λ i. Some (sym first.0 i, sym first.1 i)) ∙ is

pub finds_on : {q : ℕ} (s t u : State) (f : Version × Meta) → GivesOn None s q → IsLater q s t → IsLater q t u → found_by t q ≡ Some f → found_by u q ≡ Some f
finds_on {q} s t u f h then_t then_u is = found_first (found_by t q) (found_by u q) (gathered t q) (gathered u q) (goes_on_with s t u h then_t then_u) f is

-- ---- the get of a cluster

-- what comes of asking where it isn't refused
pub begun_is : (s : State) (n : ℕ) (o : Order) → (begins s n o).refused ≡ None → begins s n o ≡ opened s n o
begun_is s n o none =
    elim (is_member_at layouts s.world n) as (λ b. (if b then (if are_buckets s.buckets (buckets_of o) then opened s n o else refusal s NoSuchBucket) else refusal s NotMember).refused ≡ None →
    (if b then (if are_buckets s.buckets (buckets_of o) then opened s n o else refusal s NoSuchBucket) else refusal s NotMember) ≡ opened s n o) [
      | true ↦ elim (are_buckets s.buckets (buckets_of o)) as (λ b. (if b then opened s n o else refusal s NoSuchBucket).refused ≡ None → (if b then opened s n o else refusal s NoSuchBucket) ≡ opened s n o) [
        | true ↦ λ none. refl
        | false ↦ λ none. cc
      ]
      | false ↦ λ none. cc
    ] none

works_leave : (q : ℕ) (members : List ℕ) → AllByRecursion (LeavesEnd q) (works members)
works_leave q [] = tt
works_leave q (n ∷ ns) = (tt, works_leave q ns)

round_leaves : (q : ℕ) (members : List ℕ) → AllByRecursion (LeavesEnd q) (round members)
round_leaves q members = all_append (LeavesEnd q) (works members) (drain all_messages ∷ []) (works_leave q members) (tt, tt)

-- the acts to its end don't take it
pub acts_leave : (q : ℕ) (members : List ℕ) → AllByRecursion (LeavesEnd q) (acts_to_end members delivered)
acts_leave q members = (tt, all_append (LeavesEnd q) (round members) (round members) (round_leaves q members) (round_leaves q members))

-- what is given in all, by equals
by_equals : (end e : Option FlowEnd) (begun g : Option Given) → end ≡ e → begun ≡ g → given_with e (begun_with e g) ≡ g → given_with end (begun_with end begun) ≡ begun
by_equals end e begun g ends gives is = (λ i. given_with (ends i) (begun_with (ends i) (gives i))) ∙ (is ∙ sym gives)

module _ (c : Cluster) (time : ℕ) (bucket key : List ℕ) where
  abbrev o : Outcome
  o = asked_for c time bucket key

  abbrev q : ℕ
  q = number_of c time bucket key

  abbrev last : State
  last = finished c time bucket key

  -- what it gives in all, where it is refused so or not
  abbrev all_given : Option (Refusal Cut) → Option Given
  all_given r = given_with (end_then c.members o.state q delivered r) (begun_then c.members o.state q delivered r)

  pub refused_gives_none : (reason : Refusal Cut) → o.refused ≡ Some reason → given_in_all c time bucket key ≡ None
  refused_gives_none reason is = ap all_given is

  module _ (known : KnowsRequests c.run) (taken : IsTaken c time bucket key) where
    asked_gives : GivesOn None o.state q
    asked_gives =
        let tick : Act = moves (plainly (Tick (wait c time))) in
        let s : State = (acted c.run tick).state in
        let n : ℕ = asker c.members in
        subst (λ (o : Outcome). GivesOn None o.state (number_in o.words)) (sym (begun_is s n (Get bucket key) taken)) (opened_gives s n bucket key (act_knows c.run tick (tt, tt, tt) known))

    last_gives : GivesOn None last q
    last_gives = later_gives o.state last (record { acts = acts_to_end c.members delivered; leave = acts_leave q c.members; after = refl }) asked_gives

    given_then : given_with (end_of last.ends q) (begun_with (end_of last.ends q) (given_by last q)) ≡ given_by last q
    given_then =
        let h = last_gives in
        by_equals (end_of last.ends q) h.end (given_by last q) (given_at (stage_in h.flow) h.end h.seen) h.end_is (gives_so last h) (gives_all (stage_in h.flow) h.end h.seen h.at)

    pub cluster_gives_all : given_in_all c time bucket key ≡ given_by last q
    cluster_gives_all = ap all_given taken ∙ given_then

    pub cluster_gives_first : (t : State) → IsOnTheWay c time bucket key t → IsFirstOf (given_by t q) (given_in_all c time bucket key)
    cluster_gives_first t way = subst (IsFirstOf (given_by t q)) (sym cluster_gives_all) (goes_on_with o.state t last asked_gives way.0 way.1)
