-- An answer to a collection: it waits, closes, completes a round, and a row is dropped.
use Rattle.std.specs.Prelude.{◌≡◌, ◌≢◌, ◌⊎◌, ◌≤◌, ◌+◌, ℕ, suc, Bool, true, false, not, cond, ◌==◌, List, [], ◌∷◌, ◌++◌, length, Option, Some, None, is_some, map, refl}
use Rattle.std.specs.List.{AllByRecursion}
use Rattle.std.proofs.Common.{ap, sym, subst, ◌∙◌, inl, inr, arith}
use Rattle.std.proofs.lemmas.Bool.{ne_eqb, eqb-true, cases_eq, true≢false}
use Rattle.crdt_core.specs.Members.{Has}
use Rattle.crdt_core.proofs.Each.{all_append, all_weaker}
use Rattle.control_model.specs.World as control
use Rattle.control_model.specs.Steps.{Step}
use Rattle.view_model.specs.View.{newest}
use Rattle.table_schema.specs.Words.{Words}
use Rattle.table_schema.specs.Laws.{Laws}
use Rattle.gc_model.specs.declared.collection.Collection.{Collection}
use Rattle.gc_model.specs.Rounds.{given, is_changed}
use Rattle.gc_model.specs.Collecting.{is_other, told}
use Rattle.quorum_model.specs.Quorum.{is_among}
use Rattle.collection_model.specs.World.{Begun, Witness, Second}
use Rattle.collection_model.specs.Action.{IsWitness}
use Rattle.cluster_machine.specs.Layouts.{Layouts}
use Rattle.cluster_machine.specs.Collects.{all_nodes}
use Rattle.machine_collects.specs.Versions.{Version, Versions, VersionLaws}
use Rattle.machine_collects.specs.Tie.{State, Issued, witness, node_of, AreDifferent, HasTombed, IsReady, IsFirst, IsMine}
use Rattle.machine_collects.proofs.OfKey.{some_is}
use Rattle.machine_collects.proofs.Growth.{Grew, same_self, same_for_at, mine_stays}
use Rattle.machine_collects.proofs.Leads.{Place}
use Rattle.machine_collects.proofs.Forgetting.{all_covered}
use Rattle.machine_collects.proofs.Listed.{has_map, map_has, has_front, map_last, length_last, map_length, different_last, given_has, given_none, is_some_none, among_has}

-- an answer to a collection that is in round 1
told_first : (node newest now : ℕ) (c : Collection) → c.round ≡ 1 → given node c.first ≡ None → told 1 node newest now c ≡ record c { first = c.first ++ (node, newest) ∷ []; ready = (cond (length c.first + 1 == 16) (Some now) c.ready) }
told_first node newest now c one none = rw (one, none) refl

told_given : (node newest now : ℕ) (c : Collection) → c.round ≡ 1 → is_some (given node c.first) ≡ true → told 1 node newest now c ≡ c
told_given node newest now c one some = rw (one, some) refl

told_apart : (round node newest now : ℕ) (c : Collection) → round ≢ c.round → told round node newest now c ≡ c
told_apart round node newest now c apart = rw (ne_eqb round c.round apart) refl

told_again : (node newest now : ℕ) (c : Collection) → c.round ≡ 2 → is_among node c.again ≡ false → told 2 node newest now c ≡ record c { again = c.again ++ node ∷ [] }
told_again node newest now c two not = rw (two, not) refl

told_there : (node newest now : ℕ) (c : Collection) → c.round ≡ 2 → is_among node c.again ≡ true → told 2 node newest now c ≡ c
told_there node newest now c two is = rw (two, is) refl

pub other_given : (node newest : ℕ) (c : Collection) → is_other node newest c ≡ false → given node c.first ≡ Some newest
other_given node newest c = by_given (given node c.first)
  where
    by_given : (o : Option ℕ) → is_changed o newest ≡ false → o ≡ Some newest
    by_given None h = cc
    by_given (Some first) h = ap Some (eqb-true first newest (not_false (first == newest) h))
      where
        not_false : (b : Bool) → not b ≡ false → b ≡ true
        not_false true h = refl
        not_false false h = cc

module _ {R L : Type 0} (join : R → R → R) (s : Words R) (laws : Laws join s) (v : Versions R) (versions : VersionLaws join s v) (k : Layouts L) (partitions : ℕ) (some : 1 ≤ partitions) (key : List ℕ) (partition : ℕ) where
  abbrev S : Rattle.collection_model.specs.Site.Site (control.World L) (Step L) R Version
  S = Place join s v k partitions some key partition

  abbrev Mine : State R L → Issued R → ℕ → Collection → Type 0
  Mine w g n c = IsMine join s v k partitions key partition w g n c

  -- an answer's node is a witness
  new_witness : (w : State R L) (g : Issued R) (n node newest : ℕ) (c : Collection) (mine : Mine w g n c) → given node c.first ≡ None → HasTombed join s v k partitions key partition w g n c.number 1 node newest mine.begun → IsWitness S w mine.begun (witness (node, newest))
  new_witness w g n node newest c mine none has = inr ((λ same. given_none node c.first none (subst (Has (map node_of c.first)) (sym (same ∙ mine.at_node)) mine.self)), has.first refl)

  -- round 1 of a collection of the key goes on
  mine_more : (w : State R L) (g : Issued R) (n node newest : ℕ) (c : Collection) (ready : Option ℕ) (mine : Mine w g n c) → c.round ≡ 1 → given node c.first ≡ None → Has all_nodes node → HasTombed join s v k partitions key partition w g n c.number 1 node newest mine.begun →
      (let d : Collection = record c { first = c.first ++ (node, newest) ∷ []; ready = ready } in (d.ready ≡ None) ⊎ IsReady join s v k partitions key partition w g d mine.begun) → Mine w g n (record c { first = c.first ++ (node, newest) ∷ []; ready = ready })
  mine_more w g n node newest c ready mine one none asked has is_ready = record {
    key_is = mine.key_is;
    begun = mine.begun;
    issued = mine.issued;
    there = mine.there;
    at_node = mine.at_node;
    bytes = mine.bytes;
    of_key = mine.of_key;
    newest = mine.newest;
    self = subst (λ l. Has l n) (sym (map_last node_of c.first (node, newest))) (has_front (map node_of c.first) node n mine.self);
    first = all_append _ c.first ((node, newest) ∷ []) mine.first (new_witness w g n node newest c mine none has, tt);
    different = subst AreDifferent (sym (map_last node_of c.first (node, newest))) (different_last (map node_of c.first) node mine.different (given_none node c.first none));
    among = all_append _ c.first ((node, newest) ∷ []) mine.among (asked, tt);
    phase = elim mine.phase [
      | inl first ↦ inl (record { round = one; none = first.none; ready = is_ready })
      | inr second ↦ absurd (let two : c.round ≡ 2 = second.round in omega arith)
    ];
  }

  -- round 2 of a collection of the key goes on
  mine_again : (w : State R L) (g : Issued R) (n node newest : ℕ) (c : Collection) (mine : Mine w g n c) → c.round ≡ 2 → given node c.first ≡ Some newest → is_among node c.again ≡ false → HasTombed join s v k partitions key partition w g n c.number 2 node newest mine.begun → Mine w g n (record c { again = c.again ++ node ∷ [] })
  mine_again w g n node newest c mine two gave not has = record {
    key_is = mine.key_is;
    begun = mine.begun;
    issued = mine.issued;
    there = mine.there;
    at_node = mine.at_node;
    bytes = mine.bytes;
    of_key = mine.of_key;
    newest = mine.newest;
    self = mine.self;
    first = mine.first;
    different = mine.different;
    among = mine.among;
    phase = elim mine.phase [
      | inl first ↦ absurd (let one : c.round ≡ 1 = first.round in omega arith)
      | inr second ↦
          let named = has.second refl in
          let same : named.0 ≡ second.second = some_is (g.second n c.number) named.0 second.second named.1.0 second.issued in
          let P : Second R Version → Type 0 = λ u. Has w.again (record { second = u; node = node; newest = newest }) in
          inr (record {
            round = two;
            ready = record { ready = second.ready.ready; there = second.ready.there; of_it = second.ready.of_it; first = second.ready.first; clock = second.ready.clock; full = second.ready.full };
            second = second.second;
            issued = second.issued;
            there = second.there;
            of_it = second.of_it;
            again = all_append _ c.again (node ∷ []) (all_weaker _ _ (λ i h. h) c.again second.again) (inr (newest, (given_has node newest c.first gave, subst P same named.1.1)), tt);
            different = different_last c.again node second.different (λ h. true≢false (sym (among_has node c.again h) ∙ not));
            among = all_append _ c.again (node ∷ []) second.among (subst (Has (map node_of c.first)) refl (has_map node_of c.first (node, newest) (given_has node newest c.first gave)), tt);
          })
    ];
  }

  -- the answers of a first round that is complete come from all nodes
  pub all_named : (answers : List (ℕ × ℕ)) → AreDifferent (map node_of answers) → AllByRecursion (λ (a : ℕ × ℕ). Has all_nodes a.0) answers → length answers ≡ 16 → (n : ℕ) → Has all_nodes n → (named : ℕ) × Has (map witness answers) (record { node = n; newest = named })
  all_named answers different among full n h =
      let there : Has (map node_of answers) n = all_covered (map node_of answers) all_nodes different (nodes answers among) (let l : length (map node_of answers) ≡ length answers = map_length node_of answers in omega arith) n h in
      let one = map_has node_of answers n there in
      let P : ℕ → Type 0 = λ i. Has (map witness answers) (record { node = i; newest = one.0.1 }) in
      (one.0.1, subst P one.1.1 (has_map witness answers one.0 one.1.0))
    where
      nodes : (answers : List (ℕ × ℕ)) → AllByRecursion (λ (a : ℕ × ℕ). Has all_nodes a.0) answers → AllByRecursion (Has all_nodes) (map node_of answers)
      nodes [] a = tt
      nodes (x ∷ answers) a = (a.0, nodes answers a.1)

  -- a collection that has this number, after an answer that doesn't close it; a completion was noted
  pub told_mine : (w new : State R L) (g : Issued R) (n node round newest now : ℕ) (c : Collection) → Grew w new → Mine w g n c → Has all_nodes node → ((b : Begun R Version) → g.begun n c.number ≡ Some b → HasTombed join s v k partitions key partition w g n c.number round node newest b) →
      (round ≡ 2 → c.round ≡ 2 → is_other node newest c ≡ false) →
      ((mine : Mine w g n c) → round ≡ 1 → c.round ≡ 1 → given node c.first ≡ None → length c.first ≡ 15 → Has new.ready (record { begun = mine.begun; first = map witness (c.first ++ (node, newest) ∷ []); clock = now })) → Mine new g n (told round node newest now c)
  told_mine w new g n node round newest now c grew mine asked means same completes =
      let stays : Mine new g n c = mine_stays join s v k partitions key partition w new grew g g n c (same_for_at g g n c.number (same_self g n)) mine in
      let has = means mine.begun mine.issued in
      let same_begun : mine.begun ≡ stays.begun = some_is (g.begun n c.number) mine.begun stays.begun mine.issued stays.issued in
      let has_here : HasTombed join s v k partitions key partition new g n c.number round node newest mine.begun = record { first = λ one. grew.tombed _ (has.first one); second = λ two. (let u = has.second two in (u.0, (u.1.0, grew.again _ u.1.1))) } in
      let has_new : HasTombed join s v k partitions key partition new g n c.number round node newest stays.begun = subst (HasTombed join s v k partitions key partition new g n c.number round node newest) same_begun has_here in
      let C : Begun R Version → Type 0 = λ b. Has new.ready (record { begun = b; first = map witness (c.first ++ (node, newest) ∷ []); clock = now }) in
      elim (cases_eq round c.round) [
        | inr apart ↦ subst (Mine new g n) (sym (told_apart round node newest now c apart)) stays
        | inl at ↦ elim mine.phase [
          | inl first ↦
              let one : round ≡ 1 = at ∙ first.round in
              let P : ℕ → Type 0 = λ r. Mine new g n (told r node newest now c) in
              subst P (sym one) (in_first stays (mine_first first) first.round (subst (λ r. HasTombed join s v k partitions key partition new g n c.number r node newest stays.begun) one has_new) (λ none full. subst C same_begun (completes mine one first.round none full)) (is_some (given node c.first)) refl)
          | inr second ↦
              let two : round ≡ 2 = at ∙ second.round in
              let P : ℕ → Type 0 = λ r. Mine new g n (told r node newest now c) in
              subst P (sym two) (in_second stays second.round (other_given node newest c (same two second.round)) (subst (λ r. HasTombed join s v k partitions key partition new g n c.number r node newest stays.begun) two has_new) (is_among node c.again) refl)
        ]
      ]
    where
      mine_first : {b : Begun R Version} → IsFirst join s v k partitions key partition w g n c b → c.ready ≡ c.ready
      mine_first h = refl

      in_second : (stays : Mine new g n c) → c.round ≡ 2 → given node c.first ≡ Some newest → HasTombed join s v k partitions key partition new g n c.number 2 node newest stays.begun → (b : Bool) → is_among node c.again ≡ b → Mine new g n (told 2 node newest now c)
      in_second stays two gave has true f = subst (Mine new g n) (sym (told_there node newest now c two f)) stays
      in_second stays two gave has false f = subst (Mine new g n) (sym (told_again node newest now c two f)) (mine_again new g n node newest c stays two gave f has)

      in_first : (stays : Mine new g n c) → c.ready ≡ c.ready → c.round ≡ 1 → HasTombed join s v k partitions key partition new g n c.number 1 node newest stays.begun → (given node c.first ≡ None → length c.first ≡ 15 → Has new.ready (record { begun = stays.begun; first = map witness (c.first ++ (node, newest) ∷ []); clock = now })) → (b : Bool) → is_some (given node c.first) ≡ b → Mine new g n (told 1 node newest now c)
      in_first stays _ one has completes true f = subst (Mine new g n) (sym (told_given node newest now c one f)) stays
      in_first stays _ one has completes false f =
          let none = is_some_none (given node c.first) f in
          subst (Mine new g n) (sym (told_first node newest now c one none)) (mine_more new g n node newest c (cond (length c.first + 1 == 16) (Some now) c.ready) stays one none asked has (by_count (length c.first + 1 == 16) refl none))
        where
          by_count : (b : Bool) → (length c.first + 1 == 16) ≡ b → given node c.first ≡ None → (let d : Collection = record c { first = c.first ++ (node, newest) ∷ []; ready = (cond b (Some now) c.ready) } in (d.ready ≡ None) ⊎ IsReady join s v k partitions key partition new g d stays.begun)
          by_count true full none =
              let count : length c.first + 1 ≡ 16 = eqb-true (length c.first + 1) 16 full in
              inr (record { ready = record { begun = stays.begun; first = map witness (c.first ++ (node, newest) ∷ []); clock = now }; there = completes none (omega arith); of_it = refl; first = refl; clock = refl; full = (let l : length (c.first ++ (node, newest) ∷ []) ≡ suc (length c.first) = length_last c.first (node, newest) in omega arith) })
          by_count false less none = elim stays.phase [
            | inr second ↦ absurd (let two : c.round ≡ 2 = second.round in omega arith)
            | inl first ↦ elim first.ready [
              | inl not ↦ inl not
              | inr ready ↦ absurd (given_none node c.first none (full_has ready.full))
            ]
          ]
            where
              full_has : length c.first ≡ 16 → Has (map node_of c.first) node
              full_has full =
                  let one = all_named c.first stays.different stays.among full node asked in
                  let found = map_has witness c.first _ one.1 in
                  subst (Has (map node_of c.first)) (ap (λ (u : Witness). u.node) found.1.1) (has_map node_of c.first found.0 found.1.0)
