-- A get that is on its way in a cluster.
use Rattle.std.proofs.Common.{◌≡◌, ◌≤◌, ◌-◌, ◌^◌, ℕ, Bool, true, false, Option, Some, None, Result, Ok, Err, IfOk, if◌then◌else◌, List, [], ◌∷◌, ◌++◌, refl, sym, ap, ◌∙◌, subst, append_assoc, arith}
use Rattle.crdt_core.specs.declared.memory.Memory.{Memory}
use Rattle.cluster_machine.specs.declared.step.Step.TheVariants.{Tick}
use Rattle.flow_model.specs.declared.order.Order.{Order}
use Rattle.flow_model.specs.declared.order.Order.TheVariants.{Get}
use Rattle.store_model.specs.Run.{State, Outcome, plainly, drains}
use Rattle.store_model.specs.Acts.{Act, moves, drain, acted, after_acts, all_messages, AreLawfulActs, ActsFit}
use Rattle.s3_world.specs.declared.world.S3World.{S3World}
use Rattle.s3_world.specs.Stands.{IsStore, IsGiving}
use Rattle.serve_model.specs.Stores.{carry, Given, IsFirstOf, given}
use Rattle.serve_model.specs.Clusters.{delivered, Cluster as Model, asker, cluster, fits, lacks, wait, asking, number_in, works, round, acts_to_ask, acts_to_end, given_by, GivesSoFar, IsWhole}
use Rattle.serve_model.specs.Serving.{CarriedOut}
use Rattle.get_laws.specs.OnTheWay.{KnowsRequests, IsLater}
use Rattle.get_laws.proofs.Firsts.{first_through}
use Rattle.get_laws.proofs.Knowing.{act_knows}
use Rattle.get_laws.proofs.Ending.{begun_is, acts_leave, cluster_gives_all, cluster_gives_first}
use Rattle.serve_loop.specs.declared.storage.Got.{Got}
use Rattle.serve_loop.specs.declared.storage.Got.TheVariants.{Found, Piece, End}
use Rattle.serve_loop.specs.Gets.{found_now, with_piece, with_given, GaveAll, Gives, MayGive}
use Rattle.serve_cluster.specs.declared.cluster.Cluster.{Cluster}
use Rattle.serve_cluster.specs.declared.getting.Getting.{Getting}
use Rattle.serve_cluster.specs.Standing.{StandsFor}
use Rattle.serve_cluster.specs.Giving.{IsOpened, HasGiven, acts_since, IsGetting, IsNumber, HasAsked, IsComing, IsOnItsWay, GivesOrEnds, GivesNext, LacksGetting, HasGot, GivesNothing, new_get, begun_get}
use Rattle.serve_cluster.proofs.Acting.{acts_lawful, acts_fit}
use Rattle.serve_cluster.proofs.Carrying.{order_came, order_full}
use Rattle.serve_cluster.proofs.Draining.{drains_parts}
use Rattle.serve_cluster.proofs.Giving.{given_first}

-- ---- it begins

-- as many as messages can have numbers
all_of_them : all_messages ≡ 2 ^ 64 - 1
unfolding all_messages
all_of_them = refl

none_done : all_messages - (2 ^ 64 - 1) ≡ 0
none_done = (let e = all_of_them in omega (arith, e))

module _ (m : Model) (time : ℕ) (bucket key : List ℕ) where
  abbrev asked_now : Outcome
  asked_now = asking m.members m.run (wait m time) (Get bucket key)

  opened_now : (q : ℕ) → KnowsRequests m.run → IsNumber (Some q) asked_now → IsOpened asked_now.state q
  opened_now q knows number =
      let tick : Act = moves (plainly (Tick (wait m time))) in
      let before : State = (acted m.run tick).state in
      let is = begun_is before (asker m.members) (Get bucket key) number.0 in
      record {
        before = before;
        node = asker m.members;
        bucket = bucket;
        key = key;
        knows = act_knows m.run tick (tt, tt, tt) knows;
        state = ap (λ (o : Outcome). o.state) is;
        number = ap number_in (sym number.1 ∙ ap (λ (o : Outcome). o.words) is);
      }

  first_given : (world : S3World) (q : ℕ) → KnowsRequests m.run → IsNumber (Some q) asked_now → IsGiving world asked_now.state q [] → IsGetting world m.members (new_get q) asked_now.state None
  first_given world q knows number gives =
      let P : ℕ → Type 0 = λ k. HasGiven world q false (drain k ∷ []) asked_now.state None in
      let none : P 0 = record { opened = opened_now q knows number; leaves = (tt, tt); led = record { lawful = (tt, tt); fit = (tt, tt); stands = gives }; told_is = refl } in
      record { few = (let e = all_of_them in omega (arith, e)); given = subst P (sym none_done) none }

  coming : (world : S3World) (number : Option ℕ) → KnowsRequests m.run → IsNumber number asked_now → IsStore world asked_now.state → GivesNothing world asked_now.state number → IsComing world m.members (begun_get number) asked_now None
  coming world None knows number stands gives = (number, refl, stands)
  coming world (Some q) knows number stands gives = (number, first_given world q knows number gives)

  pub begun : (c : Cluster) (number : Option ℕ) → HasAsked c m time (Get bucket key) number → IsOnItsWay (record c { getting = begun_get number }) m time (Get bucket key) None
  begun c number h = record {
    bucket = bucket;
    key = key;
    is_get = refl;
    lawful = h.does.lawful;
    fit = h.does.fit;
    ticked = h.ticked;
    members = h.members;
    knows = h.knows;
    coming = coming c.world number h.knows h.number_is h.does.stands h.gives;
  }

pub begins_so : (c : Cluster) (getting : Option Getting) (time : ℕ) (bucket key : List ℕ) (number : Option ℕ) (holds : Model → Type 0) → getting ≡ begun_get number → ((m : Model) → holds m → HasAsked c m time (Get bucket key) number) →
    (m : Model) → holds m → IsOnItsWay (record c { getting = getting }) m time (Get bucket key) None
begins_so c getting time bucket key number holds is asked m st = subst (λ x. IsOnItsWay (record c { getting = x }) m time (Get bucket key) None) (sym is) (begun m time bucket key c number (asked m st))

-- ---- what it has given on its way

-- the state to which its acts led so far, and the one to which all do, are later and later
module _ (members : List ℕ) (g : Getting) (few : g.left ≤ all_messages) (s : State) (q : ℕ) where
  abbrev Later : List Act → Type 0
  Later acts = IsLater q (after_acts s acts) (after_acts s (acts_to_end members delivered))

  abbrev drained_so : List Act
  drained_so = drain (all_messages - g.left) ∷ []

  later_drained : Later drained_so
  later_drained =
      let k : ℕ = all_messages - g.left in
      let t : State = (drains k s).state in
      let rest : List Act = round members ++ round members in
      let all : (drains all_messages s).state ≡ (drains g.left t).state = ap (λ n. (drains n s).state) (omega (arith, few)) ∙ ap (λ (o : Outcome). o.state) (drains_parts k g.left s) in
      record { acts = drain g.left ∷ rest; leave = acts_leave q members; after = ap (λ (u : State). after_acts u rest) all }

  later_worked : Later (acts_to_end members delivered)
  later_worked = record { acts = []; leave = tt; after = refl }

  later_since : (worked : Bool) → Later (if worked then acts_to_end members delivered else drained_so)
  later_since true = later_worked
  later_since false = later_drained

-- ---- in the cluster

module _ (c : Cluster) (m : Model) (time : ℕ) (order : Order) (so_far : Option Given) (h : IsOnItsWay c m time order so_far) where
  abbrev o : Outcome
  o = asking m.members m.run (wait m time) order

  abbrev get : Order
  get = Get h.bucket h.key

  -- what is known of orders is known of this get
  of_get : (P : Order → Type 0) → P get → P order
  of_get P x = subst P (sym h.is_get) x

  -- all that it gives
  gives_all : (q : ℕ) → IsNumber (Some q) o → given (cluster.carries m time (carry order)) ≡ given_by (after_acts o.state (acts_to_end m.members delivered)) q
  gives_all q number =
      let P : Order → Type 0 = λ p. let a = asking m.members m.run (wait m time) p in a.refused ≡ None → given (cluster.carries m time (carry p)) ≡ given_by (after_acts a.state (acts_to_end m.members delivered)) (number_in a.words) in
      of_get P (cluster_gives_all m time h.bucket h.key h.knows) number.0 ∙ ap (given_by (after_acts o.state (acts_to_end m.members delivered))) (ap number_in number.1)

  -- and what it gives at some moment is a first part of that
  gives_first : (q : ℕ) → IsNumber (Some q) o → (t : State) → IsLater q o.state t → IsLater q t (after_acts o.state (acts_to_end m.members delivered)) → IsFirstOf (given_by t q) (given (cluster.carries m time (carry order)))
  gives_first q number t before later =
      let P : Order → Type 0 = λ p. let a = asking m.members m.run (wait m time) p in
      a.refused ≡ None → IsLater (number_in a.words) a.state t → IsLater (number_in a.words) t (after_acts a.state (acts_to_end m.members delivered)) → IsFirstOf (given_by t (number_in a.words)) (given (cluster.carries m time (carry p))) in
      let Q : ℕ → Type 0 = λ n. IsLater n o.state t → IsLater n t (after_acts o.state (acts_to_end m.members delivered)) → IsFirstOf (given_by t n) (given (cluster.carries m time (carry order))) in
      subst Q (ap number_in number.1) (of_get P (λ taken before later. cluster_gives_first m time h.bucket h.key h.knows taken t (before, later)) number.0) before later

  module _ (g : Getting) (number : IsNumber (Some g.request) o) (on : IsGetting c.world m.members g o.state so_far) where
    abbrev since : List Act
    since = acts_since m.members g

    abbrev now : State
    now = after_acts o.state since

    first_now : IsFirstOf so_far (given_by now g.request)
    first_now = given_first c.world g.request g.told since o.state so_far on.given

    first_of_all : IsFirstOf so_far (given (cluster.carries m time (carry order)))
    first_of_all =
        let before : IsLater g.request o.state now = record { acts = since; leave = on.given.leaves; after = refl } in
        first_through so_far (given_by now g.request) (given (cluster.carries m time (carry order))) first_now (gives_first g.request number now before (later_since m.members g on.few o.state g.request g.worked))

  first_in : (getting : Option Getting) → IsComing c.world m.members getting o so_far → IsFirstOf so_far (given (cluster.carries m time (carry order)))
  first_in None k = subst (λ so. IsFirstOf so (given (cluster.carries m time (carry order)))) (sym k.1) tt
  first_in (Some g) k = first_of_all g k.0 k.1

  pub gives_first_part : IsFirstOf so_far (given (cluster.carries m time (carry order)))
  gives_first_part = first_in c.getting h.coming

-- ---- what it may give in the middle

-- acts of a request of which these were done are cut at a drain, of which so many deliveries were done
record IsCut (to_ask members' : List Act) (since : List Act) : Type 0 where
  before : List Act
  count : ℕ
  few : count ≤ all_messages
  later : List Act
  parts : to_ask ++ members' ≡ before ++ drain all_messages ∷ later
  done : before ++ drain count ∷ [] ≡ to_ask ++ since

cut_since : (to_ask : List Act) (members : List ℕ) (left : ℕ) (worked : Bool) → IsCut to_ask (acts_to_end members delivered) (if worked then acts_to_end members delivered else drain (all_messages - left) ∷ [])
cut_since to_ask members left false = record { before = to_ask; count = all_messages - left; few = omega arith; later = round members ++ round members; parts = refl; done = refl }
cut_since to_ask members left true =
    let first : List Act = drain all_messages ∷ round members ++ works members in
    let last : List Act = delivered in
    let parts : to_ask ++ acts_to_end members delivered ≡ (to_ask ++ first) ++ last = ap (λ rest. to_ask ++ drain all_messages ∷ rest) (sym (append_assoc (round members) (works members) last)) ∙ sym (append_assoc to_ask first last) in
    record { before = to_ask ++ first; count = all_messages; few = omega arith; later = []; parts = parts; done = sym parts }

module _ (c : Cluster) (m : Model) (time : ℕ) (order : Order) (so_far : Option Given) (h : IsOnItsWay c m time order so_far) (g : Getting) (number : IsNumber (Some g.request) (o c m time order so_far h)) (on : IsGetting c.world m.members g (o c m time order so_far h).state so_far) where
  abbrev at : Outcome
  at = asking m.members m.run (wait m time) order

  abbrev to_ask : List Act
  to_ask = acts_to_ask m.members (wait m time) order

  middle : (x : Given) → so_far ≡ Some x → GivesSoFar m time order x
  middle x is =
      let since : List Act = acts_since m.members g in
      let cut = cut_since to_ask m.members g.left g.worked in
      let first : IsFirstOf (Some x) (given_by (after_acts m.run (to_ask ++ since)) (number_in at.words)) =
      subst (λ n. IsFirstOf (Some x) (given_by (after_acts m.run (to_ask ++ since)) n)) (sym (ap number_in number.1)) (subst (λ so. IsFirstOf so (given_by (after_acts at.state since) g.request)) is (first_now c m time order so_far h g number on)) in
      record {
        before = cut.before;
        count = cut.count;
        few = cut.few;
        later = cut.later;
        parts = cut.parts;
        lawful = subst (AreLawfulActs m.run) (sym cut.done) (acts_lawful m.run to_ask since h.lawful on.given.led.lawful);
        fit = subst (ActsFit m.run) (sym cut.done) (acts_fit m.run to_ask since h.fit on.given.led.fit);
        given = subst (λ acts. IsFirstOf (Some x) (given_by (after_acts m.run acts) (number_in at.words))) (sym cut.done) first;
      }

  -- ---- what it gives next

  module _ (new : S3World) (next : Getting) (same : next.request ≡ g.request) where
    -- the cluster then
    abbrev after : Cluster
    after = record c { world = new; getting = Some next }

    still : IsNumber (Some next.request) at
    still = subst (λ q. IsNumber (Some q) at) (sym same) number

    on_its_way : (so : Option Given) → IsGetting new m.members next at.state so → IsOnItsWay after m time order so
    on_its_way so x = record { bucket = h.bucket; key = h.key; is_get = h.is_get; lawful = h.lawful; fit = h.fit; ticked = h.ticked; members = h.members; knows = h.knows; coming = (still, x) }

    next_so : (got : Got) → GivesOrEnds new m.members next at.state so_far got → Gives (IsOnItsWay after m time order) (CarriedOut cluster fits lacks (StandsFor after) m time (carry order)) (cluster.carries m time (carry order)) so_far got
    next_so (Found version meta) x = (x.0, on_its_way (Some (found_now version meta)) x.1)
    next_so (Piece bytes) x = (x.0, x.1, on_its_way (Some (with_piece x.0 bytes)) x.2)
    next_so (End end) x = (
      order_came after m time order (of_get c m time order so_far h IsWhole tt) next.request (with_given so_far end) still h.lawful h.fit h.ticked h.members (record { end_is = x.end_is; does = x.does }),
      subst (λ all. GaveAll so_far all end) (sym (gives_all c m time order so_far h next.request still)) x.all,
    )

    next_gives : (got : Got) → GivesNext c.world new c.members g next got → Gives (IsOnItsWay after m time order) (CarriedOut cluster fits lacks (StandsFor after) m time (carry order)) (cluster.carries m time (carry order)) so_far got
    next_gives got f = next_so got (subst (λ ms. GivesNext c.world new ms g next got) h.members f at.state so_far on)

  next_lacks : LacksGetting c.world c.members g → lacks m time (carry order)
  next_lacks full = order_full c m time order (of_get c m time order so_far h IsWhole tt) g.request number h.lawful h.fit (subst (λ ms. LacksGetting c.world ms g) h.members full at.state so_far on)

-- ---- of any cluster

-- what is on its way in a cluster of the code
abbrev pub On : Cluster → Model → ℕ → Order → Option Given → Type 0
On c m time order so_far = IsOnItsWay c m time order so_far

module _ (c : Cluster) where
  coming_as : (getting : Option Getting) → c.getting ≡ getting → (m : Model) (time : ℕ) (order : Order) (so_far : Option Given) (h : On c m time order so_far) → IsComing c.world m.members getting (o c m time order so_far h) so_far
  coming_as getting is m time order so_far h = subst (λ x. IsComing c.world m.members x (o c m time order so_far h) so_far) is h.coming

  module _ (g : Getting) (is : c.getting ≡ Some g) where
    pub has_got : (m : Model) (time : ℕ) (order : Order) (so_far : Option Given) → On c m time order so_far → HasGot c.world g
    has_got m time order so_far h = (m.members, (o c m time order so_far h).state, so_far, (coming_as (Some g) is m time order so_far h).1)

    next_some : (new : S3World) (next : Getting) (got : Got) → next.request ≡ g.request → GivesNext c.world new c.members g next got →
        (m : Model) (time : ℕ) (order : Order) (so_far : Option Given) → On c m time order so_far → Gives (On (record c { world = new; getting = Some next }) m time order) (CarriedOut cluster fits lacks (StandsFor (record c { world = new; getting = Some next })) m time (carry order)) (cluster.carries m time (carry order)) so_far got
    next_some new next got same f m time order so_far h = let k = coming_as (Some g) is m time order so_far h in next_gives c m time order so_far h g k.0 k.1 new next same got f

    pub next_ok : (new : S3World) (next : Getting) (r : Result Got Memory) → next.request ≡ g.request → IfOk r (λ got. GivesNext c.world new c.members g next got) →
        IfOk r (λ got. (m : Model) (time : ℕ) (order : Order) (so_far : Option Given) → On c m time order so_far → Gives (On (record c { world = new; getting = Some next }) m time order) (CarriedOut cluster fits lacks (StandsFor (record c { world = new; getting = Some next })) m time (carry order)) (cluster.carries m time (carry order)) so_far got)
    next_ok new next (Ok got) same f = next_some new next got same f
    next_ok new next (Err e) same f = tt

    pub next_full : LacksGetting c.world c.members g → (m : Model) (time : ℕ) (order : Order) (so_far : Option Given) → On c m time order so_far → lacks m time (carry order)
    next_full full m time order so_far h = let k = coming_as (Some g) is m time order so_far h in next_lacks c m time order so_far h g k.0 k.1 full

middle_in : (c : Cluster) (m : Model) (time : ℕ) (order : Order) (so_far : Option Given) (h : On c m time order so_far) (getting : Option Getting) → c.getting ≡ getting → (x : Given) → so_far ≡ Some x → GivesSoFar m time order x
middle_in c m time order so_far h None is x some = let k = coming_as c None is m time order so_far h in absurd (let no' : None ≡ Some x = sym k.1 ∙ some in cc)
middle_in c m time order so_far h (Some g) is x some = let k = coming_as c (Some g) is m time order so_far h in middle c m time order so_far h g k.0 k.1 x some

pub may_give : (c : Cluster) (m : Model) (time : ℕ) (order : Order) (so_far : Option Given) → On c m time order so_far → MayGive cluster m time order so_far
may_give c m time order None h = tt
may_give c m time order (Some x) h = middle_in c m time order (Some x) h c.getting refl x refl
