-- Nodes get a first layout, one after the other, each once.
use Rattle.std.proofs.Common.{◌≡◌, ◌<◌, ◌≤◌, ◌==◌, ◌||◌, ℕ, Bool, true, false, cond, nat_eq, Option, Some, None, List, [], ◌∷◌, ◌++◌, length, map, refl, sym, subst, ap, ◌∙◌, Result, Ok, Err, OnErr, arith}
use Rattle.std.specs.Bool.{IsTrue}
use Rattle.std.specs.Ordering.{nat_cmp}
use Rattle.std.specs.BTreeMap.{get}
use Rattle.std.specs.Option.{unwrap_or}
use Rattle.std.specs.List.{All, IsDistinct, AllByRecursion}
use Rattle.std.proofs.lemmas.Bool.{eq-eqb, eqb-true, ne_eqb, ltb-true, and_parts}
use Rattle.std.proofs.lemmas.List.{append_assoc, map-append}
use Rattle.std.proofs.lemmas.List.Elements.{All-head}
use Rattle.crdt_core.proofs.Each.{all_weaker}
use Rattle.layout_roles.specs.declared.role.Role.{Role}
use Rattle.layout_roles.specs.declared.roles.Roles.{Roles}
use Rattle.layout_roles.specs.declared.layout.Layout.{Layout}
use Rattle.layout_roles.specs.declared.cut.Cut.{Cut}
use Rattle.layout_roles.specs.Zones.{ascend_from}
use Rattle.layout_roles.specs.Fits.{partitions, is_storage_node, IsThree}
use Rattle.layout_history.specs.Known.{is_any, has_members}
use Rattle.view_model.specs.Layouts.{reading}
use Rattle.view_model.specs.View.{newest}
use Rattle.table_schema.specs.Words.{Words}
use Rattle.quorum_model.specs.Quorum.{is_among}
use Rattle.quorum_model.proofs.Counting.{is_among-append}
use Rattle.cluster_machine.specs.declared.applied.Applied.{Applied}
use Rattle.cluster_machine.specs.Node.{Node as Seen}
use Rattle.cluster_machine.specs.Acts.{appends}
use Rattle.cluster_machine.specs.Step.{trio_applies, applied}
use Rattle.cluster_machine.specs.Layouts.{layouts}
use Rattle.node_core.specs.declared.node.Node.{Node}
use Rattle.node_core.specs.Stands.{view_of}
use Rattle.cluster_machine.specs.Choices.{IsFirst, HasGreatest}
use Rattle.cluster_machine.specs.Worlds.{Model, installed}
use Rattle.world_laws.proofs.Additions.{fine_stays_sound}
use Rattle.world_laws.proofs.Steps.{fine_first}
use Rattle.world_core.specs.declared.first.Prepared.{Prepared}
use Rattle.world_core.specs.declared.nodes.Nodes.{Nodes}
use Rattle.world_core.specs.declared.world.World.{World}
use Rattle.world_core.specs.Nodes.{newest_of, newest_in, IsNodeAt, AreNodes, BecomesAt, StayThere, KnowNone, IsPrepared, given_to, with_node}
use Rattle.world_core.specs.Stands.{StandsFor}
use Rattle.node_parts.proofs.Accepting.{right_all}
use Rattle.world_core.proofs.NodesAt.{stands_at}
use Rattle.world_core.proofs.Stocked.{first_stocked}
use Rattle.world_core.proofs.WorldsStand.{stands_of, same_post, same_clocks, same_requests, same_few}

pub nat_eq_flips : (m n : ℕ) → (m == n) ≡ (n == m)
nat_eq_flips m n =
    elim (m == n) as (λ b. (m == n) ≡ b → b ≡ (n == m)) [
      | true ↦ λ e. sym (eq-eqb n m (sym (eqb-true m n e)))
      | false ↦ λ e. sym (ne_eqb n m (λ is. let same = eq-eqb m n (sym is) in cc))
    ] refl

at_middle : (m : ℕ) (done : List ℕ) (n : ℕ) (rest : List ℕ) → AllByRecursion (λ k. nat_eq m k ≡ false) (done ++ n ∷ rest) → (m == n) ≡ false
at_middle m [] n rest h = h.0
at_middle m (k ∷ done) n rest h = at_middle m done n rest h.1

neither : (a b : Bool) → (a || (b || false)) ≡ false → (a ≡ false) × (b ≡ false)
neither false false e = (refl, refl)
neither true b e = cc
neither false true e = cc

module _ {R : Type 0} where
  at_last : (first : Layout) (xs : ℕ → Seen R Layout) (nodes : List ℕ) (n m : ℕ) (b among : Bool) → is_among n nodes ≡ false → (m == n) ≡ b → among ≡ is_among m nodes →
      unwrap_or (cond b (Some (appends layouts (given_to nodes first xs n) first)) None) (cond among (appends layouts (xs m) first) (xs m)) ≡ cond (among || (b || false)) (appends layouts (xs m) first) (xs m)
  at_last first xs nodes n m true among free same is =
      let at = eqb-true m n same in
      let none : among ≡ false = is ∙ (ap (λ k. is_among k nodes) at ∙ free) in
      rw (free, none) (ap (λ k. appends layouts (xs k) first) (sym at))
  at_last first xs nodes n m false true free same is = refl
  at_last first xs nodes n m false false free same is = refl

  -- one node more
  pub given_more : (first : Layout) (xs : ℕ → Seen R Layout) (nodes : List ℕ) (n m : ℕ) → is_among n nodes ≡ false →
      with_node n (appends layouts (given_to nodes first xs n) first) (given_to nodes first xs) m ≡ given_to (nodes ++ n ∷ []) first xs m
  given_more first xs nodes n m free =
      at_last first xs nodes n m (m == n) (is_among m nodes) free refl refl
      ∙ ap (λ b. cond b (appends layouts (xs m) first) (xs m)) (ap (λ b. is_among m nodes || (b || false)) (nat_eq_flips m n) ∙ sym (is_among-append m nodes (n ∷ [])))

module _ {S R : Type 0} (join : R → R → R) (s : Words R) where
  newest_at_node : (o : Option (Node S R)) (n : ℕ) (x : Seen R Layout) → IsNodeAt join s o n x → newest_of o ≡ newest reading x.view
  newest_at_node None n x is = sym (ap (λ (y : Seen R Layout). newest reading y.view) is)
  newest_at_node (Some c) n x is = ap (newest reading) is.view

  -- the newest version that the code's node knows is that of the world's
  pub newest_is : (nodes : Nodes S R) (xs : ℕ → Seen R Layout) (n : ℕ) → AreNodes join s nodes xs → newest_in nodes n ≡ newest reading (xs n).view
  newest_is nodes xs n are = newest_at_node (get nat_cmp nodes.by_number n) n (xs n) (are n)

  -- nodes of worlds that are the same at each number
  pub same_at_each : (nodes : Nodes S R) (xs ys : ℕ → Seen R Layout) → ((n : ℕ) → xs n ≡ ys n) → AreNodes join s nodes xs → AreNodes join s nodes ys
  same_at_each nodes xs ys same are n = subst (λ x. IsNodeAt join s (get nat_cmp nodes.by_number n) n x) (same n) (are n)

  -- a node that is there knows no version, where none was known
  pub none_at : (old new : Nodes S R) (n : ℕ) (c : Node S R) → KnowNone join s old → ((xs : ℕ → Seen R Layout) → AreNodes join s old xs → AreNodes join s new xs) → Some c ≡ get nat_cmp new.by_number n → newest reading (view_of c) ≡ 0
  none_at old new n c is same there = ap (newest reading) (stands_at join s new n c is.0 there (same is.0 is.1)).view ∙ is.2 n

  -- no node of a world without versions knows one
  pub world_knows_none : (c : World S R) (w : Model R) → StandsFor join s c w → w.applied ≡ 0 → KnowNone join s c.nodes
  world_knows_none c w h none = (w.nodes, h.nodes, λ n. let low = h.sound.versions n in omega arith)

  -- and no node knows one still
  pub still_none : (old new : Nodes S R) → KnowNone join s old → ((xs : ℕ → Seen R Layout) → AreNodes join s old xs → AreNodes join s new xs) → KnowNone join s new
  still_none old new is same = (is.0, same is.0 is.1, is.2)

  -- what was prepared is so still, where what is there stays
  pub prepared_stays : (old new : Nodes S R) (first : Layout) (all : List Prepared) → StayThere old new → AllByRecursion (IsPrepared old first) all → AllByRecursion (IsPrepared new first) all
  prepared_stays old new first all stays h =
      all_weaker (IsPrepared old first) (IsPrepared new first) (λ one is. record { node = is.node; there = stays one.node is.node is.there; none = is.none; view = is.view }) all h

  -- the node gets the layout
  pub one_more : (now new : Nodes S R) (first l : Layout) (nodes : List ℕ) (n : ℕ) (xs : ℕ → Seen R Layout) → is_among n nodes ≡ false → l ≡ first → BecomesAt join s now new n (λ x. appends layouts x l) →
      AreNodes join s now (given_to nodes first xs) → AreNodes join s new (given_to (nodes ++ n ∷ []) first xs)
  one_more now new first l nodes n xs free is becomes are =
      same_at_each new (with_node n (appends layouts (given_to nodes first xs n) first) (given_to nodes first xs)) (given_to (nodes ++ n ∷ []) first xs) (λ m. given_more first xs nodes n m free)
      (subst (λ k. AreNodes join s new (with_node n (appends layouts (given_to nodes first xs n) k) (given_to nodes first xs))) is (becomes (given_to nodes first xs) are))

-- what holds holds after an error
pub on_err : {A E P : Type 0} → (r : Result A E) → P → OnErr r P
on_err (Ok a) p = tt
on_err (Err e) p = p

-- the nodes for which views were prepared
abbrev pub names : List Prepared → List ℕ
names all = map (λ one. one.node) all

-- the nodes of `trio`
pub three_once : IsDistinct nat_eq (1 ∷ 2 ∷ 3 ∷ [])
unfolding IsDistinct
three_once = ((refl, (refl, tt)), ((refl, tt), (tt, tt)))

-- of a list whose elements differ the next one is not among those before it
next_is_free : (done : List ℕ) (n : ℕ) (rest : List ℕ) → IsDistinct nat_eq (done ++ n ∷ rest) → is_among n done ≡ false
unfolding IsDistinct
next_is_free [] n rest once = refl
next_is_free (m ∷ done) n rest once = rw (at_middle m done n rest once.0) (next_is_free done n rest once.1)

module _ {S R : Type 0} where
  pub others_more : (first old new : Nodes S R) (done : List Prepared) (one : Prepared) → ((m : ℕ) → is_among m (names done) ≡ false → get nat_cmp old.by_number m ≡ get nat_cmp first.by_number m) →
      ((m : ℕ) → (m == one.node) ≡ false → get nat_cmp new.by_number m ≡ get nat_cmp old.by_number m) → (m : ℕ) → is_among m (names (done ++ one ∷ [])) ≡ false → get nat_cmp new.by_number m ≡ get nat_cmp first.by_number m
  others_more first old new done one before now m free =
      let apart = neither (is_among m (names done)) (one.node == m) (sym (is_among-append m (names done) (one.node ∷ [])) ∙ (ap (is_among m) (sym (map-append (λ (p : Prepared). p.node) done (one ∷ []))) ∙ free)) in
      now m (nat_eq_flips m one.node ∙ apart.1) ∙ before m apart.0

module _ {S R : Type 0} (join : R → R → R) (s : Words R) where
  pub shown_more : (first old new : Nodes S R) (done : List Prepared) (one : Prepared) (rest all : List Prepared) (l : Layout) → (done ++ one ∷ []) ++ rest ≡ all → AllByRecursion (IsPrepared first l) all → IsDistinct nat_eq (names all) →
      ((m : ℕ) → is_among m (names done) ≡ false → get nat_cmp old.by_number m ≡ get nat_cmp first.by_number m) →
      ((xs : ℕ → Seen R Layout) → AreNodes join s first xs → AreNodes join s old (given_to (names done) l xs)) → (IsPrepared old l one → BecomesAt join s old new one.node (λ x. appends layouts x l)) →
      (xs : ℕ → Seen R Layout) → AreNodes join s first xs → AreNodes join s new (given_to (names (done ++ one ∷ [])) l xs)
  shown_more first old new done one rest all l split are once before given becomes xs nodes =
      let whole : done ++ one ∷ rest ≡ all = sym (append_assoc done (one ∷ []) rest) ∙ split in
      let free : is_among one.node (names done) ≡ false = next_is_free (names done) one.node (names rest) (subst (IsDistinct nat_eq) (ap names (sym whole) ∙ map-append (λ (p : Prepared). p.node) done (one ∷ rest)) once) in
      let is : IsPrepared first l one = (right_all (IsPrepared first l) done (one ∷ rest) (subst (AllByRecursion (IsPrepared first l)) (sym whole) are)).0 in
      let here : IsPrepared old l one = record { node = is.node; there = is.there ∙ sym (before one.node free); none = is.none; view = is.view } in
      subst (λ ns. AreNodes join s new (given_to ns l xs)) (sym (map-append (λ (p : Prepared). p.node) done (one ∷ [])))
      (one_more join s old new l l (names done) one.node xs free refl (becomes here) (given xs nodes))

unwrapped : {A : Type 0} (b : Bool) (x y : A) → cond b x y ≡ unwrap_or (cond b (Some x) None) y
unwrapped true x y = refl
unwrapped false x y = refl

module _ {S R : Type 0} (join : R → R → R) (s : Words R) where
  -- the nodes of a first layout have it, where none was applied, and these roles are staged
  pub first_stands : (c : World S R) (now : Nodes S R) (roles : Roles) (w : Model R) (first : Layout) (stage : List Role → List Role) → StandsFor join s c w → w.applied ≡ 0 → IsFirst first → roles.list ≡ stage w.roles →
      AreNodes join s now (given_to (reading.members first) first w.nodes) → StandsFor join s (record c { nodes = now; roles = roles; applied = 1 }) (applied w (trio_applies {A = Applied} {C = Cut} join s layouts first stage w))
  first_stands c now roles w first stage h none is staged are = stands_of join s (record c { nodes = now; roles = roles; applied = 1 }) _ (record {
    nodes = same_at_each join s now _ _ (λ m. unwrapped (is_among m (reading.members first)) (appends layouts (w.nodes m) first) (w.nodes m)) are;
    post = same_post join s c w h;
    clocks = same_clocks join s c w h;
    roles = staged;
    redundancy = h.redundancy;
    wanted = h.wanted;
    applied = omega arith;
    requests = same_requests join s c w h;
    few = same_few join s c w h;
    whole = record {
      sound = fine_stays_sound w _ h.sound (fine_first w h.sound join s first stage is (omega arith));
      stocked = first_stocked join s w h.stocked first stage;
    };
  })

  pub installed_stands : (c : World S R) (now : Nodes S R) (w : Model R) (first : Layout) → StandsFor join s c w → w.applied ≡ 0 → IsFirst first →
      AreNodes join s now (given_to (reading.members first) first w.nodes) → StandsFor join s (record c { nodes = now; applied = 1 }) (installed join s w first)
  installed_stands c now w first h none is are = first_stands c now c.roles w first (λ roles. roles) h none is h.roles are

  -- the nodes changed, and not what they stand for
  pub same_world : (c : World S R) (now : Nodes S R) (w : Model R) → StandsFor join s c w → AreNodes join s now w.nodes → StandsFor join s (record c { nodes = now }) w
  same_world c now w h are = record {
    nodes = are;
    post = h.post;
    clocks = h.clocks;
    roles = h.roles;
    redundancy = h.redundancy;
    wanted = h.wanted;
    applied = h.applied;
    requests = h.requests;
    fits = h.fits;
    sound = h.sound;
    stocked = h.stocked;
  }

-- a set of nodes that keep copies needs roles
none_stores : (set : List ℕ) → IsThree [] set → ⊥
none_stores [] h = let size = h.three in omega arith
none_stores (n ∷ set) h = let stored : false ≡ true = All-head (λ m. is_storage_node [] m ≡ true) n set h.stored in cc

some_members : (roles : List Role) (sets : List (List ℕ)) → length sets ≡ 256 → All (IsThree roles) sets → is_any roles ≡ true
some_members (role ∷ roles) sets whole threes = refl
some_members [] [] whole threes = absurd (omega arith)
some_members [] (set ∷ sets) whole threes = absurd (none_stores set (All-head (IsThree []) set sets threes))

-- roles ascend, so each node has one
above_all : (n before : ℕ) (roles : List Role) → n ≤ before → ascend_from before roles ≡ true → AllByRecursion (λ m. nat_eq n m ≡ false) (map (λ role. role.node) roles)
above_all n before [] low h = tt
above_all n before (role ∷ roles) low h =
    let above : before < role.node = ltb-true before role.node (and_parts _ _ h).0 in
    (ne_eqb n role.node (λ e. let is = eq-eqb n role.node e in omega arith), above_all n role.node roles (omega arith) ((and_parts _ _ h).1))

each_once : (before : ℕ) (roles : List Role) → ascend_from before roles ≡ true → IsDistinct nat_eq (map (λ role. role.node) roles)
unfolding IsDistinct
each_once before [] h = tt
each_once before (role ∷ roles) h = (above_all role.node role.node roles (omega arith) ((and_parts _ _ h).1), each_once role.node roles ((and_parts _ _ h).1))

-- a greatest layout has members, each once
pub greatest_has_members : (l : Layout) → HasGreatest l → IsTrue (has_members l)
unfolding partitions
greatest_has_members l is = some_members l.roles.list l.sets.sets is.fits.whole is.fits.threes

pub first_has_members : (first : Layout) → IsFirst first → IsTrue (has_members first)
first_has_members first is = greatest_has_members first is.greatest

pub members_once : (roles : Roles) → IsDistinct nat_eq (map (λ role. role.node) roles.list)
members_once roles = each_once 0 roles.list roles.ascending
