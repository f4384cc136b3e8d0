-- What may be given in the middle of a get of a cluster.
use Rattle.std.proofs.Common.{◌≡◌, ◌≤◌, ℕ, zero, suc, ◌+◌, ◌-◌, true, false, Option, Some, None, List, [], ◌∷◌, ◌++◌, if◌then◌else◌, refl, sym, ap, ◌∙◌, subst, arith, zero-add, suc-add}
use Rattle.std.specs.List.{AllByRecursion}
use Rattle.crdt_core.proofs.Each.{all_append}
use Rattle.layout_roles.specs.declared.cut.Cut.{Cut}
use Rattle.cluster_machine.specs.declared.step.Refusal.{Refusal}
use Rattle.cluster_machine.specs.declared.step.Refusal.TheVariants.{NotMember, NoSuchBucket}
use Rattle.cluster_machine.specs.declared.step.Step.TheVariants.{Tick}
use Rattle.cluster_machine.specs.Layouts.{layouts}
use Rattle.cluster_machine.specs.World.{is_member_at, undelivered}
use Rattle.machine_origins.proofs.Lists.{all_parts}
use Rattle.flow_model.specs.declared.order.Order.{Order}
use Rattle.flow_model.specs.declared.order.Order.TheVariants.{Get}
use Rattle.store_model.specs.Orders.{buckets_of}
use Rattle.store_model.specs.Run.{State, Outcome, plainly, refusal, are_buckets, opened, begins, delivers, drains}
use Rattle.store_model.specs.Acts.{Act, moves, asks, drain, acted, after_acts, all_messages}
use Rattle.store_model.proofs.Drains.{drains_one, drains_none}
use Rattle.serve_model.specs.Stores.{Given, IsFirstOf}
use Rattle.serve_model.specs.Clusters.{Cluster, wait, asker, acts_to_ask, delivered, acts_to_end, number_in, given_by, GivesSoFar}
use Rattle.get_laws.specs.OnTheWay.{KnowsRequests, LeavesEnd, IsLater, asked_for, number_of, finished, given_in_all}
use Rattle.get_laws.proofs.Firsts.{first_through}
use Rattle.get_laws.proofs.Ending.{acts_leave, cluster_gives_first}

-- ---- deliveries in two parts

abbrev InParts : ℕ → ℕ → State → Type 0
InParts m n s = (drains (m + n) s).state ≡ (drains n (drains m s).state).state

-- none is left
none_parts : (m n : ℕ) (s : State) → undelivered s.world ≡ None → (drains (suc (m + n)) s).state ≡ (drains n (drains (suc m) s).state).state
none_parts m n s none =
    ap (λ (o : Outcome). o.state) (drains_none (suc (m + n)) s none) ∙ sym (ap (λ (o : Outcome). (drains n o.state).state) (drains_none (suc m) s none) ∙ ap (λ (o : Outcome). o.state) (drains_none n s none))

-- the first is delivered
some_parts : (m n first : ℕ) (s : State) → undelivered s.world ≡ Some first → InParts m n (delivers s first).state → (drains (suc (m + n)) s).state ≡ (drains n (drains (suc m) s).state).state
some_parts m n first s is parts = ap (λ (o : Outcome). o.state) (drains_one (m + n) first s is) ∙ (parts ∙ sym (ap (λ (o : Outcome). (drains n o.state).state) (drains_one m first s is)))

pub drains_parts : (m n : ℕ) (s : State) → InParts m n s
drains_parts zero n s = ap (λ k. (drains k s).state) (zero-add n)
drains_parts (suc m) n s =
    ap (λ k. (drains k s).state) (suc-add m n)
    ∙ elim (undelivered s.world) as (λ o. undelivered s.world ≡ o → (drains (suc (m + n)) s).state ≡ (drains n (drains (suc m) s).state).state) [
      | None ↦ λ none. none_parts m n s none
      | Some first ↦ λ is. some_parts m n first s is (drains_parts m n (delivers s first).state)
    ] refl

pub acts_parts : (s : State) (first rest : List Act) → after_acts s (first ++ rest) ≡ after_acts (after_acts s first) rest
acts_parts s [] rest = refl
acts_parts s (a ∷ first) rest = acts_parts (acted s a).state first rest

-- ---- a get that was refused

refused_number : (s : State) (n : ℕ) (o : Order) (reason : Refusal Cut) → (begins s n o).refused ≡ Some reason → number_in (begins s n o).words ≡ 0
refused_number s n o reason is =
    elim (is_member_at layouts s.world n) as (λ b. (if b then (if are_buckets s.buckets (buckets_of o) then opened s n o else refusal s NoSuchBucket) else refusal s NotMember).refused ≡ Some reason →
    number_in (if b then (if are_buckets s.buckets (buckets_of o) then opened s n o else refusal s NoSuchBucket) else refusal s NotMember).words ≡ 0) [
      | true ↦ elim (are_buckets s.buckets (buckets_of o)) as (λ b. (if b then opened s n o else refusal s NoSuchBucket).refused ≡ Some reason → number_in (if b then opened s n o else refusal s NoSuchBucket).words ≡ 0) [
        | true ↦ λ is. cc
        | false ↦ λ is. refl
      ]
      | false ↦ λ is. refl
    ] is

-- ---- in the middle

module _ (c : Cluster) (time : ℕ) (bucket key : List ℕ) (known : KnowsRequests c.run) where
  abbrev o : Outcome
  o = asked_for c time bucket key

  abbrev q : ℕ
  q = number_of c time bucket key

  abbrev last : State
  last = finished c time bucket key

  abbrev all : Option Given
  all = given_in_all c time bucket key

  -- the time went on
  abbrev ticked : State
  ticked = (acted c.run (moves (plainly (Tick (wait c time))))).state

  -- what is done between asking and some deliveries
  module _ (between : List Act) (count : ℕ) (few : count ≤ all_messages) (later : List Act) (parts : acts_to_end c.members delivered ≡ between ++ drain all_messages ∷ later) where
    abbrev reached : State
    reached = after_acts o.state (between ++ drain count ∷ [])

    leave : AllByRecursion (LeavesEnd q) (between ++ drain all_messages ∷ later)
    leave = subst (AllByRecursion (LeavesEnd q)) parts (acts_leave q c.members)

    reached_later : IsLater q o.state reached
    reached_later = record {
      acts = between ++ drain count ∷ [];
      leave = all_append (LeavesEnd q) between (drain count ∷ []) (all_parts (LeavesEnd q) between (drain all_messages ∷ later) leave).0 (tt, tt);
      after = refl;
    }

    -- the deliveries that are left, and what follows
    last_is : last ≡ after_acts reached (drain (all_messages - count) ∷ later)
    last_is =
        let r : State = after_acts o.state between in
        let sum : count + (all_messages - count) ≡ all_messages = omega (arith, few) in
        ap (after_acts o.state) parts ∙ (acts_parts o.state between (drain all_messages ∷ later)
        ∙ (ap (λ k. after_acts (drains k r).state later) (sym sum) ∙ (ap (λ (s : State). after_acts s later) (drains_parts count (all_messages - count) r)
        ∙ ap (λ (s : State). after_acts s (drain (all_messages - count) ∷ later)) (sym (acts_parts o.state between (drain count ∷ []))))))

    last_later : IsLater q reached last
    last_later = record {
      acts = drain (all_messages - count) ∷ later;
      leave = (tt, (all_parts (LeavesEnd q) between (drain all_messages ∷ later) leave).1.1);
      after = last_is;
    }

    reached_first : (g : Given) (r : Option (Refusal Cut)) → o.refused ≡ r → IsFirstOf (Some g) (given_by reached q) → IsFirstOf (Some g) all
    reached_first g None taken first = first_through (Some g) (given_by reached q) all first (cluster_gives_first c time bucket key known taken reached (reached_later, last_later))
    reached_first g (Some reason) refused first = absurd (subst (λ n. IsFirstOf (Some g) (given_by reached n)) (refused_number ticked (asker c.members) (Get bucket key) reason refused) first)

  -- whatever came before the deliveries
  by_before : (before : List Act) (count : ℕ) (later : List Act) (g : Given) → count ≤ all_messages → acts_to_ask c.members (wait c time) (Get bucket key) ++ acts_to_end c.members delivered ≡ before ++ drain all_messages ∷ later →
      IsFirstOf (Some g) (given_by (after_acts c.run (before ++ drain count ∷ [])) q) → IsFirstOf (Some g) all
  by_before [] count later g few parts first = cc
  by_before (a ∷ []) count later g few parts first = cc
  by_before (a ∷ b ∷ between) count later g few parts first =
      let tick : Act = moves (plainly (Tick (wait c time))) in
      let asking : Act = asks (asker c.members) (Get bucket key) in
      let a_is : a ≡ tick = cc in
      let b_is : b ≡ asking = cc in
      let rest_is : acts_to_end c.members delivered ≡ between ++ drain all_messages ∷ later = cc in
      reached_first between count few later rest_is g o.refused refl
      (subst (λ (x : Act). IsFirstOf (Some g) (given_by (after_acts c.run (tick ∷ x ∷ between ++ drain count ∷ [])) q)) b_is
      (subst (λ (x : Act). IsFirstOf (Some g) (given_by (after_acts c.run (x ∷ b ∷ between ++ drain count ∷ [])) q)) a_is first))

  pub middle_gives_first : (g : Given) → GivesSoFar c time (Get bucket key) g → IsFirstOf (Some g) all
  middle_gives_first g h = by_before h.before h.count h.later g h.few h.parts h.given
