-- An answer comes to a collection: it goes on, closes, or ends, and then its row may be dropped.
use Rattle.std.specs.Prelude.{◌≡◌, ◌≢◌, ◌⊎◌, ◌≤◌, ℕ, suc, Bool, true, false, not, cond, ◌==◌, ◌&&◌, List, [], ◌∷◌, ◌++◌, length, Option, Some, None, is_some, map, refl}
use Rattle.std.specs.List.{AllByRecursion}
use Rattle.std.proofs.Common.{ap, sym, subst, ◌∙◌, inl, inr, arith}
use Rattle.std.proofs.lemmas.Bool.{eq-eqb, eqb-true, and_parts, true≢false}
use Rattle.crdt_core.specs.Members.{Has}
use Rattle.crdt_core.proofs.Each.{all_append, all_weaker}
use Rattle.control_model.specs.World as control
use Rattle.control_model.specs.Steps.{Step}
use Rattle.table_schema.specs.Words.{Words}
use Rattle.table_schema.specs.Laws.{Laws}
use Rattle.gc_model.specs.declared.collection.Collection.{Collection}
use Rattle.gc_model.specs.declared.collection.GcEnd.{GcEnd}
use Rattle.gc_model.specs.declared.collection.GcEnd.TheVariants.{Wait, Closed, Complete}
use Rattle.gc_model.specs.Rounds.{given}
use Rattle.gc_model.specs.Collecting.{Open, numbered, has_confirmed, confirmed_count, is_other, end_of, told, changed as changed_in, closed}
use Rattle.quorum_model.specs.Quorum.{is_among}
use Rattle.collection_model.specs.World.{Begun, Witness, Ready}
use Rattle.collection_model.specs.Action as act
use Rattle.collection_model.specs.Action.{run, Happens, IsWitness, MayEnd}
use Rattle.collection_laws.proofs.Sound.{IsSound}
use Rattle.cluster_machine.specs.Layouts.{Layouts}
use Rattle.cluster_machine.specs.Node.{Did, quiet}
use Rattle.cluster_machine.specs.Rows.{same_bytes}
use Rattle.cluster_machine.specs.World.{World, clock}
use Rattle.cluster_machine.specs.Step.{Effects}
use Rattle.machine_laws.proofs.Rounding.{Goes}
use Rattle.machine_collects.specs.Versions.{Version, Versions, VersionLaws, hour}
use Rattle.machine_collects.specs.Tie.{State, Issued, witness, node_of, number_of, AreDifferent, HasTombed, MeansTombed, HasAgain, IsSecond, IsFirst, IsMine, IsOpen, IsNode, IsTied}
use Rattle.machine_collects.proofs.OfKey.{some_is}
use Rattle.machine_collects.proofs.Growth.{Act, Grew, grew_run, later_self, same_self, same_for_at, open_stays}
use Rattle.machine_collects.proofs.Leads.{Place, IsCalm, Leads, all_has}
use Rattle.machine_collects.proofs.Sends.{all_filter}
use Rattle.machine_collects.proofs.Doing.{IsDid}
use Rattle.machine_collects.proofs.Acting.{acts_with, after_moves, acts_lead, stay_all}
use Rattle.machine_collects.proofs.Tombs.{same_are, are_same}
use Rattle.machine_collects.proofs.Forgetting.{all_covered}
use Rattle.machine_collects.proofs.Listed.{has_map, map_has, map_length, length_last, different_last, given_has, given_none, is_some_none, one_answer, among_has, told_same, find_passes, find_none, one_collection, changed_different, fewer_different, all_changed}
use Rattle.machine_collects.proofs.Answering.{all_named, told_mine}

-- what an end says of the collection
pub waits_other : (round node named : ℕ) (c : Collection) → end_of round node named c ≡ Wait → round ≡ 2 → c.round ≡ 2 → is_other node named c ≡ false
waits_other round node named c e two at = by_other (is_other node named c) refl
  where
    by_other : (b : Bool) → is_other node named c ≡ b → b ≡ false
    by_other false f = refl
    by_other true f = absurd (let closed_now : Closed ≡ Wait = sym (rw (two, at, f) refl) ∙ e in cc)

pub waits_count : (round node named : ℕ) (c : Collection) → end_of round node named c ≡ Wait → round ≡ 1 → c.round ≡ 1 → given node c.first ≡ None → length c.first ≡ 15 → ⊥
waits_count round node named c e one at none full = let complete_now : Complete ≡ Wait = sym (rw (one, at, none, full) refl) ∙ e in cc

-- a round is complete
pub record IsComplete (round node named : ℕ) (c : Collection) : Type 0 where
  pub round_is : round ≡ c.round
  pub same : round ≡ 2 → is_other node named c ≡ false
  pub fresh : has_confirmed node c ≡ false
  pub full : confirmed_count c ≡ 15

pub complete_of : (round node named : ℕ) (c : Collection) → end_of round node named c ≡ Complete → IsComplete round node named c
complete_of round node named c e = by_round (round == c.round) refl e
  where
    by_count : (b : Bool) → (not (has_confirmed node c) && (confirmed_count c == 15)) ≡ b → ◌≡◌ {A = GcEnd} (cond b Complete Wait) Complete → (has_confirmed node c ≡ false) × (confirmed_count c ≡ 15)
    by_count false f h = cc
    by_count true f h =
        let both = and_parts (not (has_confirmed node c)) (confirmed_count c == 15) f in
        (Rattle.std.proofs.lemmas.Bool.not-true (has_confirmed node c) both.0, eqb-true (confirmed_count c) 15 both.1)

    by_other : (b : Bool) → ((round == 2) && is_other node named c) ≡ b → ◌≡◌ {A = GcEnd} (cond b Closed (cond (not (has_confirmed node c) && (confirmed_count c == 15)) Complete Wait)) Complete → (round ≡ 2 → is_other node named c ≡ false) × ((has_confirmed node c ≡ false) × (confirmed_count c ≡ 15))
    by_other true f h = cc
    by_other false f h = ((λ two. ap (λ b. b && is_other node named c) (sym (eq-eqb round 2 two)) ∙ f), by_count (not (has_confirmed node c) && (confirmed_count c == 15)) refl h)

    by_round : (b : Bool) → (round == c.round) ≡ b → ◌≡◌ {A = GcEnd} (cond (not b) Wait (cond ((round == 2) && is_other node named c) Closed (cond (not (has_confirmed node c) && (confirmed_count c == 15)) Complete Wait))) Complete → IsComplete round node named c
    by_round false f h = cc
    by_round true f h = (let r = by_other ((round == 2) && is_other node named c) refl h in record { round_is = eqb-true round c.round f; same = r.0; fresh = r.1.0; full = r.1.1 })

module _ {R L : Type 0} (join : R → R → R) (s : Words R) (laws : Laws join s) (v : Versions R) (versions : VersionLaws join s v) (k : Layouts L) (partitions : ℕ) (some : 1 ≤ partitions) (key : List ℕ) (partition : ℕ) where
  abbrev S : Rattle.collection_model.specs.Site.Site (control.World L) (Step L) R Version
  S = Place join s v k partitions some key partition

  abbrev Mine : State R L → Issued R → ℕ → Collection → Type 0
  Mine w g n c = IsMine join s v k partitions key partition w g n c

  module _ {A C : Type 0} (m : World R L) (w : State R L) (g : Issued R) (sound : IsSound S w) (t : IsTied join s v k partitions key partition m w g) (e : Effects R L A C) where
    -- a node with other collections, and the same rows
    pub with_collections : (new : State R L) → Grew w new → (n : ℕ) (o : Open) → new.row n ≡ w.row n → o.begun ≡ (m.nodes n).gc.begun → AllByRecursion (IsOpen join s v k partitions key partition new g n) o.collections → AreDifferent (map number_of o.collections) → IsNode join s v k partitions key partition new g n (record (m.nodes n) { gc = o })
    with_collections new grew n o row begun open_all different = record {
      row = row ∙ (t.nodes n).row;
      proper = (t.nodes n).proper;
      items = (t.nodes n).items;
      last = (t.nodes n).last ∙ sym begun;
      unissued = λ i late. (t.nodes n).unissued i (let same : o.begun ≡ (m.nodes n).gc.begun = begun in omega arith);
      collections = open_all;
      different = different;
    }

    -- the collections after an answer that doesn't close one
    pub told_leads : (goes : Goes k partitions m w.control e) (n from number round named : ℕ) → MeansTombed join s v k partitions key partition w g from n number round named →
        IsDid m e n (quiet (record (m.nodes n) { gc = changed_in (told round from named (clock m n)) number (m.nodes n).gc })) → (more : List (Act join s v k partitions key partition)) → Happens S (after_moves join s laws v versions k partitions some key partition m w g sound t e goes w.row) more → AllByRecursion (IsCalm join s v k partitions some key partition) more →
        ((i : ℕ) → (run S (after_moves join s laws v versions k partitions some key partition m w g sound t e goes w.row) more).row i ≡ w.row i) →
        ((c : Collection) → Has (m.nodes n).gc.collections c → c.number ≡ number → round ≡ 2 → c.round ≡ 2 → is_other from named c ≡ false) →
        ((c : Collection) → Has (m.nodes n).gc.collections c → c.number ≡ number → (mine : Mine w g n c) → round ≡ 1 → c.round ≡ 1 → given from c.first ≡ None → length c.first ≡ 15 → Has (run S (after_moves join s laws v versions k partitions some key partition m w g sound t e goes w.row) more).ready (record { begun = mine.begun; first = map witness (c.first ++ (from, named) ∷ []); clock = clock m n })) →
        Leads join s v k partitions some key partition m w g e
    told_leads goes n from number round named means is more happens calm rows same completes =
        let x = m.nodes n in
        let now = clock m n in
        let f = told round from named now in
        let acts = acts_with join s laws v versions k partitions some key partition m w g sound t e goes w.row more in
        let new = run S w acts in
        let grew : Grew w new = grew_run join s v k partitions key partition acts w in
        let o = changed_in f number x.gc in
        let d : Did R L = quiet (record x { gc = o }) in
        let open_all : AllByRecursion (IsOpen join s v k partitions key partition new g n) o.collections =
        all_changed (IsOpen join s v k partitions key partition w g n) (IsOpen join s v k partitions key partition new g n) f number x.gc.collections (t.nodes n).collections
        (λ c there h apart. open_stays join s v k partitions key partition w new grew g g n c (same_for_at g g n c.number (same_self g n)) h)
        (λ c there h at.
        let sc = told_same round from named now c in
        record {
          low = (let l : c.number ≤ g.last n = h.low in let q : (f c).number ≡ c.number = sc.number in omega arith);
          own = sc.own ∙ h.own;
          mine = λ is_key. told_mine join s laws v versions k partitions some key partition w new g n from round named now c grew (h.mine (sym sc.key ∙ is_key)) means.asked
              (λ b issued. (let P : ℕ → Type 0 = λ q. HasTombed join s v k partitions key partition w g n q round from named b in subst P (sym at) (means.means b (ap (g.begun n) (sym at) ∙ issued))))
              (same c there at) (completes c there at);
          other = λ apart. ap (g.begun n) sc.number ∙ h.other (λ is_key. apart (sc.key ∙ is_key));
        }) in
        acts_lead join s laws v versions k partitions some key partition m w g sound t e goes n d is w.row (λ i apart. refl) (stay_all join s laws v versions k partitions some key partition m w g sound t e goes n d is (omega arith)) more g (later_self g) (λ i apart. same_self g i) happens calm (λ i apart. rows i)
        (with_collections new grew n o (rows n) refl open_all (changed_different (λ c. cond (c.number == number) (f c) c) x.gc.collections (λ c. elim (c.number == number) as (λ b. (cond b (f c) c).number ≡ c.number) [ true ↦ (told_same round from named now c).number | false ↦ refl ]) (t.nodes n).different))
        tt tt

    -- a collection is closed
    pub closed_leads : (goes : Goes k partitions m w.control e) (n number : ℕ) → IsDid m e n (quiet (record (m.nodes n) { gc = closed number (m.nodes n).gc })) → Leads join s v k partitions some key partition m w g e
    closed_leads goes n number is =
        let x = m.nodes n in
        let o = closed number x.gc in
        let d : Did R L = quiet (record x { gc = o }) in
        let acts = acts_with join s laws v versions k partitions some key partition m w g sound t e goes w.row [] in
        let new = run S w acts in
        let grew : Grew w new = grew_run join s v k partitions key partition acts w in
        acts_lead join s laws v versions k partitions some key partition m w g sound t e goes n d is w.row (λ i apart. refl) (stay_all join s laws v versions k partitions some key partition m w g sound t e goes n d is (omega arith)) [] g (later_self g) (λ i apart. same_self g i) tt tt (λ i apart. refl)
        (with_collections new grew n o refl refl (all_filter _ (λ c. not (c.number == number)) x.gc.collections (all_weaker _ _ (λ c. open_stays join s v k partitions key partition w new grew g g n c (same_for_at g g n c.number (same_self g n))) x.gc.collections (t.nodes n).collections)) (fewer_different (λ c. not (c.number == number)) x.gc.collections (t.nodes n).different))
        tt tt

    -- the collection that has a number
    pub the_one : (n number : ℕ) (o : Option Collection) → numbered number (m.nodes n).gc ≡ o → (c : Collection) → Has (m.nodes n).gc.collections c → c.number ≡ number → o ≡ Some c
    the_one n number None f c there at = absurd (find_none (λ c. c.number == number) (m.nodes n).gc.collections c f there (eq-eqb c.number number at))
    the_one n number (Some d) f c there at =
        let found = find_passes (λ c. c.number == number) (m.nodes n).gc.collections d f in
        ap Some (one_collection (m.nodes n).gc.collections d c (t.nodes n).different found.0 there (eqb-true d.number number found.1 ∙ sym at))

    -- the first round of a collection of the key is complete
    pub completes_leads : (goes : Goes k partitions m w.control e) (n from number round named : ℕ) → MeansTombed join s v k partitions key partition w g from n number round named → (c : Collection) → Has (m.nodes n).gc.collections c → c.number ≡ number → IsComplete round from named c → round ≢ 2 →
        IsDid m e n (quiet (record (m.nodes n) { gc = changed_in (told round from named (clock m n)) number (m.nodes n).gc })) → Leads join s v k partitions some key partition m w g e
    completes_leads goes n from number round named means c there at complete not_two is = by_key (same_bytes c.key key) refl
      where
        open_c : IsOpen join s v k partitions key partition w g n c
        open_c = all_has (IsOpen join s v k partitions key partition w g n) (m.nodes n).gc.collections c (t.nodes n).collections there

        one_is : (d : Collection) → Has (m.nodes n).gc.collections d → d.number ≡ number → c ≡ d
        one_is d h e = one_collection (m.nodes n).gc.collections c d (t.nodes n).different there h (at ∙ sym e)

        not_second : (d : Collection) → Has (m.nodes n).gc.collections d → d.number ≡ number → round ≡ 2 → d.round ≡ 2 → is_other from named d ≡ false
        not_second d h e two d_two = absurd (not_two two)

        first_of : (mine : Mine w g n c) → IsFirst join s v k partitions key partition w g n c mine.begun ⊎ IsSecond join s v k partitions key partition w g n c mine.begun → c.round ≡ 1
        first_of mine p = elim p [ inl first ↦ first.round | inr second ↦ absurd (not_two (complete.round_is ∙ second.round)) ]

        of_mine : Mine w g n c → Leads join s v k partitions some key partition m w g e
        of_mine mine =
            let one : c.round ≡ 1 = first_of mine mine.phase in
            let round_one : round ≡ 1 = complete.round_is ∙ one in
            let none : given from c.first ≡ None = is_some_none (given from c.first) (sym (ap (λ b. cond b (is_some (given from c.first)) (is_among from c.again)) (eq-eqb c.round 1 one)) ∙ complete.fresh) in
            let full : length c.first ≡ 15 = sym (ap (λ b. cond b (length c.first) (length c.again)) (eq-eqb c.round 1 one)) ∙ complete.full in
            let us = map witness (c.first ++ (from, named) ∷ []) in
            let now = clock m n in
            let answers = c.first ++ (from, named) ∷ [] in
            let has : HasTombed join s v k partitions key partition w g n number round from named mine.begun = means.means mine.begun (ap (g.begun n) (sym at) ∙ mine.issued) in
            let fresh : IsWitness S w mine.begun (witness (from, named)) = inr ((λ same. given_none from c.first none (subst (Has (map node_of c.first)) (sym (same ∙ mine.at_node)) mine.self)), has.first round_one) in
            let witnesses : AllByRecursion (λ (a : ℕ × ℕ). IsWitness S w mine.begun (witness a)) answers = all_append _ c.first ((from, named) ∷ []) mine.first (fresh, tt) in
            let different : AreDifferent (map node_of answers) = subst AreDifferent (sym (Rattle.machine_collects.proofs.Listed.map_last node_of c.first (from, named))) (different_last (map node_of c.first) from mine.different (given_none from c.first none)) in
            let all16 : length answers ≡ 16 = (let l : length answers ≡ suc (length c.first) = length_last c.first (from, named) in omega arith) in
            let skew : m.skew_of n ≤ hour = t.skews n in
            let same_time : w.time ≡ m.time = t.time in
            told_leads goes n from number round named means is (act.completes mine.begun us now ∷ []) (
              record {
                began = mine.there;
                each = λ i h. all_named join s laws v versions k partitions some key partition answers different (all_append _ c.first ((from, named) ∷ []) mine.among (means.asked, tt)) all16 i h;
                witnesses = λ u h. (let found = map_has witness answers u h in subst (IsWitness S w mine.begun) found.1.1 (all_has (λ (a : ℕ × ℕ). IsWitness S w mine.begun (witness a)) answers found.0 witnesses found.1.0));
                behind = omega arith;
                ahead = omega arith;
              },
              tt,
            ) (tt, tt) (λ i. refl) not_second
            (λ d h e other d_one d_round d_none d_full.
            let same : c ≡ d = one_is d h e in
            let P : Collection → Type 0 = λ d. (other : Mine w g n d) → ◌≡◌ {A = Ready R Version} (record { begun = mine.begun; first = us; clock = now }) (record { begun = other.begun; first = map witness (d.first ++ (from, named) ∷ []); clock = now }) in
            let here : P c = λ other. (let b : mine.begun ≡ other.begun = some_is (g.begun n c.number) mine.begun other.begun mine.issued other.issued in λ i. record { begun = b i; first = us; clock = now }) in
            inl (subst P same here other))

        by_key : (b : Bool) → same_bytes c.key key ≡ b → Leads join s v k partitions some key partition m w g e
        by_key true f = of_mine (open_c.mine (same_are c.key key f))
        by_key false f = told_leads goes n from number round named means is [] tt tt (λ i. refl) not_second
            (λ d h e other d_one d_round d_none d_full. absurd (true≢false (sym (are_same c.key key (ap (λ (z : Collection). z.key) (one_is d h e) ∙ other.key_is)) ∙ f)))

    -- a collection of the key has ended: each witness has named what it named before
    pub ended : (n from named : ℕ) (c : Collection) (mine : Mine w g n c) (second : IsSecond join s v k partitions key partition w g n c mine.begun) → given from c.first ≡ Some named → is_among from c.again ≡ false → length c.again ≡ 15 → HasTombed join s v k partitions key partition w g n c.number 2 from named mine.begun → (new : State R L) → Grew w new → MayEnd S new second.second
    ended n from named c mine second gave fresh full has new grew =
        let t2 = second.second in
        let begun : t2.ready.begun ≡ mine.begun = ap (λ (r : Ready R Version). r.begun) second.of_it ∙ second.ready.of_it in
        let answers : t2.ready.first ≡ map witness c.first = ap (λ (r : Ready R Version). r.first) second.of_it ∙ second.ready.first in
        let node : t2.ready.begun.node ≡ n = ap (λ (b : Begun R Version). b.node) begun ∙ mine.at_node in
        let mine_has : Has c.first (from, named) = given_has from named c.first gave in
        let told2 = has.second refl in
        let same2 : told2.0 ≡ t2 = some_is (g.second n c.number) told2.0 t2 told2.1.0 second.issued in
        let xs = from ∷ c.again in
        let different : AreDifferent xs = ((λ h. true≢false (sym (among_has from c.again h) ∙ fresh)), second.different) in
        let among : AllByRecursion (Has (map node_of c.first)) xs = (has_map node_of c.first (from, named) mine_has, second.among) in
        let long : length (map node_of c.first) ≤ length xs = (let a : length (map node_of c.first) ≡ length c.first = map_length node_of c.first in let b : length c.first ≡ 16 = second.ready.full in omega arith) in
        record {
          began = grew.second t2 second.there;
          all = λ u h.
              let found = map_has witness c.first u (subst (λ l. Has l u) answers h) in
              let i = found.0.0 in
              let k1 = found.0.1 in
              let in_first : Has c.first (i, k1) = found.1.0 in
              let there : Has xs i = all_covered xs (map node_of c.first) different among long i (has_map node_of c.first (i, k1) in_first) in
              let P : Witness → Type 0 = λ u. (u.node ≡ t2.ready.begun.node) ⊎ Has new.again (record { second = t2; node = u.node; newest = u.newest }) in
              subst P found.1.1 (elim there [
                | inl is_from ↦
                    let Q : ℕ → Type 0 = λ a. Has c.first (a, k1) in
                    let same_named : named ≡ k1 = one_answer c.first from named k1 mine.different mine_has (subst Q (sym is_from) in_first) in
                    inr (grew.again _ (subst (Has w.again) (λ j. record { second = same2 j; node = is_from j; newest = same_named j }) told2.1.1))
                | inr before ↦ elim (all_has (HasAgain join s v k partitions key partition w g c t2 n) c.again i second.again before) [
                  | inl own ↦ inl (own ∙ sym node)
                  | inr other ↦
                      let same_named : other.0 ≡ k1 = one_answer c.first i other.0 k1 mine.different other.1.0 in_first in
                      inr (grew.again _ (subst (Has w.again) (λ j. record { second = t2; node = i; newest = same_named j }) other.1.1))
                ]
              ]);
        }
