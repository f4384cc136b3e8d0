-- An answer comes to a collection, whatever it leads to.
use Rattle.std.specs.Prelude.{◌≡◌, ◌≢◌, ◌≤◌, ℕ, Bool, true, false, not, cond, ◌==◌, ◌&&◌, List, [], ◌∷◌, length, Option, Some, None, is_some, IsTrue, filter, refl}
use Rattle.std.specs.List.{AllByRecursion}
use Rattle.std.proofs.Common.{ap, sym, subst, ◌∙◌, inl, inr, arith}
use Rattle.std.proofs.lemmas.Bool.{eq-eqb, ne_eqb, eqb-true, eqb-false, and_parts, true≢false}
use Rattle.crdt_core.specs.Members.{Has}
use Rattle.crdt_core.proofs.Each.{all_weaker}
use Rattle.control_model.specs.World as control
use Rattle.control_model.specs.Steps.{Step}
use Rattle.view_model.specs.View.{newest}
use Rattle.table_schema.specs.Words.{Words}
use Rattle.table_schema.specs.Laws.{Laws}
use Rattle.table_model.specs.Rows.{is_at, row_at}
use Rattle.gc_model.specs.declared.collection.Collection.{Collection}
use Rattle.gc_model.specs.declared.collection.GcEnd.{GcEnd}
use Rattle.gc_model.specs.declared.collection.GcEnd.TheVariants.{Wait, Closed, Complete}
use Rattle.gc_model.specs.Rounds.{given, is_closed}
use Rattle.gc_model.specs.Collecting.{Open, numbered, end_of, end_at, told, changed as changed_in, closed, answer_end}
use Rattle.quorum_model.specs.Quorum.{is_among}
use Rattle.collection_model.specs.World.{Begun, Ready}
use Rattle.collection_model.specs.Action as act
use Rattle.collection_model.specs.Action.{run, MayEnd}
use Rattle.collection_laws.proofs.Sound.{IsSound}
use Rattle.cluster_machine.specs.Layouts.{Layouts}
use Rattle.cluster_machine.specs.Node.{Node, Did, quiet}
use Rattle.cluster_machine.specs.Phases.{bytes_of, is_spelled}
use Rattle.cluster_machine.specs.Rows.{same_bytes}
use Rattle.cluster_machine.specs.Collects.{others, has_bytes, without_row, drops_row, finishes, answered_to, tomb_came}
use Rattle.cluster_machine.specs.World.{World, clock}
use Rattle.cluster_machine.specs.Step.{Effects}
use Rattle.machine_laws.proofs.Rounding.{Goes}
use Rattle.machine_collects.specs.Versions.{Version, Versions, VersionLaws}
use Rattle.machine_collects.specs.Tie.{State, Issued, HasTombed, MeansTombed, IsMine, IsOpen, IsNode, IsTied}
use Rattle.machine_collects.proofs.OfKey.{some_is, row_without, row_without_other}
use Rattle.machine_collects.proofs.Growth.{Grew, grew_run, later_self, same_self, same_for_at, open_stays}
use Rattle.machine_collects.proofs.Leads.{Place, Leads, all_has}
use Rattle.machine_collects.proofs.Sends.{MeansPost, means_each, all_filter, read_back}
use Rattle.machine_collects.proofs.Hearing.{row_place}
use Rattle.machine_collects.proofs.Doing.{IsDid}
use Rattle.machine_collects.proofs.Acting.{acts_with, after_moves, acts_lead, stay_all}
use Rattle.machine_collects.proofs.Tombs.{same_are, are_same}
use Rattle.machine_collects.proofs.Forgetting.{spelled_some, rows_without}
use Rattle.machine_collects.proofs.Listed.{find_passes, fewer_different}
use Rattle.machine_collects.proofs.Answering.{other_given}
use Rattle.machine_collects.proofs.Finishing.{waits_other, waits_count, IsComplete, complete_of, told_leads, closed_leads, the_one, completes_leads, ended}

module _ {R L : Type 0} (join : R → R → R) (s : Words R) (laws : Laws join s) (v : Versions R) (versions : VersionLaws join s v) (k : Layouts L) (partitions : ℕ) (some : 1 ≤ partitions) (key : List ℕ) (partition : ℕ) where
  abbrev S : Rattle.collection_model.specs.Site.Site (control.World L) (Step L) R Version
  S = Place join s v k partitions some key partition

  abbrev Mine : State R L → Issued R → ℕ → Collection → Type 0
  Mine w g n c = IsMine join s v k partitions key partition w g n c

  module _ {A C : Type 0} (m : World R L) (w : State R L) (g : Issued R) (sound : IsSound S w) (t : IsTied join s v k partitions key partition m w g) (e : Effects R L A C) where
    -- the row of a collection that has come to its end is dropped
    drop_leads : (goes : Goes k partitions m w.control e) (n from number named : ℕ) → MeansTombed join s v k partitions key partition w g from n number 2 named → (c : Collection) → Has (m.nodes n).gc.collections c → c.number ≡ number → IsComplete 2 from named c → (r : R) → row_at join s (m.nodes n).accepted 1 c.key ≡ Some r → has_bytes join s c.row (Some r) ≡ true →
        IsDid m e n (drops_row join s n (record (m.nodes n) { gc = closed c.number (m.nodes n).gc }) c (Some r)) → Leads join s v k partitions some key partition m w g e
    drop_leads goes n from number named means c there at complete r row bytes is =
        by_key (same_bytes c.key key) refl
      where
        x : Node R L
        x = m.nodes n

        o : Open
        o = closed c.number x.gc

        y : Node R L
        y = without_row join s (record x { gc = o }) 1 c.key

        d : Did R L
        d = drops_row join s n (record x { gc = o }) c (Some r)

        both : (is_spelled s r ≡ true) × (same_bytes (bytes_of s r) c.row ≡ true)
        both = and_parts (is_spelled s r) (same_bytes (bytes_of s r) c.row) bytes

        spelled_is : s.spelling r ≡ Some (bytes_of s r)
        spelled_is = spelled_some (s.spelling r) both.0

        place : (IsTrue (s.is_proper r)) × ((s.table r ≡ 1) × (s.key r ≡ c.key))
        place = row_place join s laws v k partitions some key partition 1 c.key x.accepted (t.nodes n).proper r row

        open_c : IsOpen join s v k partitions key partition w g n c
        open_c = all_has (IsOpen join s v k partitions key partition w g n) x.gc.collections c (t.nodes n).collections there

        -- the node after it
        node_after : (new : State R L) → Grew w new → new.row n ≡ row_at join s y.accepted 1 key → IsNode join s v k partitions key partition new g n y
        node_after new grew here =
            let rows = rows_without join s laws v versions k partitions some key partition new n x y 1 c.key refl refl (t.nodes n).proper (t.nodes n).items here in
            record {
              row = rows.row;
              proper = rows.proper;
              items = rows.items;
              last = (t.nodes n).last;
              unissued = (t.nodes n).unissued;
              collections = all_filter _ (λ z. not (z.number == c.number)) x.gc.collections (all_weaker _ _ (λ z. open_stays join s v k partitions key partition w new grew g g n z (same_for_at g g n z.number (same_self g n))) x.gc.collections (t.nodes n).collections);
              different = fewer_different (λ z. not (z.number == c.number)) x.gc.collections (t.nodes n).different;
            }

        -- what it sends
        forgets_sent : (new : State R L) → AllByRecursion (MeansPost join s laws v k partitions key partition new g (r ∷ m.collected) n m.time) d.posts
        forgets_sent new = means_each join s laws v k partitions key partition new g (r ∷ m.collected) n m.time (others n) _ (λ to. record { objects = refl; row = r; there = inl refl; key_is = place.1.1; bytes = bytes_of s r; spelled = spelled_is; hash_is = refl })

        may : (i : ℕ) → Rattle.collection_model.specs.Action.Stays S (Rattle.plane_model.specs.Control.led_to (Rattle.plane_meets.specs.Joint.seen k.reading partitions) w.control goes.steps) (w.row i) (w.row i) i
        may = stay_all join s laws v versions k partitions some key partition m w g sound t e goes n d is (omega arith)

        of_mine : Mine w g n c → Leads join s v k partitions some key partition m w g e
        of_mine mine = elim mine.phase [
          | inl first ↦ absurd (let one : c.round ≡ 1 = first.round in let two : 2 ≡ c.round = complete.round_is in omega arith)
          | inr second ↦
              let two : c.round ≡ 2 = second.round in
              let gave : given from c.first ≡ Some named = other_given from named c (complete.same refl) in
              let fresh : is_among from c.again ≡ false = sym (ap (λ b. cond b (is_some (given from c.first)) (is_among from c.again)) (ne_eqb c.round 1 (λ one. omega arith))) ∙ complete.fresh in
              let full : length c.again ≡ 15 = sym (ap (λ b. cond b (length c.first) (length c.again)) (ne_eqb c.round 1 (λ one. omega arith))) ∙ complete.full in
              let has : HasTombed join s v k partitions key partition w g n c.number 2 from named mine.begun = (let P : ℕ → Type 0 = λ q. HasTombed join s v k partitions key partition w g n q 2 from named mine.begun in subst P (sym at) (means.means mine.begun (ap (g.begun n) (sym at) ∙ mine.issued))) in
              let mid = after_moves join s laws v versions k partitions some key partition m w g sound t e goes w.row in
              let grew_mid : Grew w mid = grew_run join s v k partitions key partition (act.moves goes.steps w.row ∷ []) w in
              let may_end : MayEnd S mid second.second = ended join s laws v versions k partitions some key partition m w g sound t e n from named c mine second gave fresh full has mid grew_mid in
              let row_is : mine.begun.row ≡ r = some_is (s.read c.row) mine.begun.row r (read_back join s laws v k partitions key partition mine.begun.row c.row mine.bytes) (ap s.read (sym (same_are (bytes_of s r) c.row both.1)) ∙ read_back join s laws v k partitions key partition r (bytes_of s r) spelled_is) in
              let begun : second.second.ready.begun ≡ mine.begun = ap (λ (z : Ready R Version). z.begun) second.of_it ∙ second.ready.of_it in
              let its_row : second.second.ready.begun.row ≡ r = ap (λ (z : Begun R Version). z.row) begun ∙ row_is in
              let P : List ℕ → Type 0 = λ its. row_at join s x.accepted 1 its ≡ Some r in
              let has_row : w.row n ≡ Some r = (t.nodes n).row ∙ subst P mine.key_is row in
              let more = act.ends second.second ∷ act.drops n r ∷ [] in
              let acts = acts_with join s laws v versions k partitions some key partition m w g sound t e goes w.row more in
              let new = run S w acts in
              let Q : List ℕ → Type 0 = λ its. row_at join s (filter (λ z. not (is_at s 1 its z)) x.accepted) 1 key ≡ None in
              let none : row_at join s y.accepted 1 key ≡ None = subst Q (sym mine.key_is) (row_without join s v k partitions key partition x.accepted) in
              let here_row : new.row n ≡ row_at join s y.accepted 1 key = ap (λ b. cond b None (w.row n)) (eq-eqb n n refl) ∙ sym none in
              acts_lead join s laws v versions k partitions some key partition m w g sound t e goes n d is w.row (λ i apart. refl) may more g (later_self g) (λ i apart. same_self g i)
              (may_end, ((has_row, inl its_row), tt)) (tt, (tt, tt)) (λ i apart. ap (λ b. cond b None (w.row i)) (ne_eqb i n apart))
              (node_after new (grew_run join s v k partitions key partition acts w) here_row)
              (forgets_sent new)
              (record { proper = place.0; table = place.1.0; dropped = λ _. inl its_row }, tt)
        ]

        by_key : (b : Bool) → same_bytes c.key key ≡ b → Leads join s v k partitions some key partition m w g e
        by_key true f = of_mine (open_c.mine (same_are c.key key f))
        by_key false f =
            let apart : c.key ≢ key = λ same. true≢false (sym (are_same c.key key same) ∙ f) in
            let acts = acts_with join s laws v versions k partitions some key partition m w g sound t e goes w.row [] in
            let new = run S w acts in
            acts_lead join s laws v versions k partitions some key partition m w g sound t e goes n d is w.row (λ i apart. refl) may [] g (later_self g) (λ i apart. same_self g i)
            tt tt (λ i apart. refl)
            (node_after new (grew_run join s v k partitions key partition acts w) ((t.nodes n).row ∙ sym (row_without_other join s v k partitions key partition 1 c.key x.accepted apart)))
            (forgets_sent new)
            (record { proper = place.0; table = place.1.0; dropped = λ same. absurd (apart (sym place.1.1 ∙ same)) }, tt)

    -- the second round is complete
    finishes_leads : (goes : Goes k partitions m w.control e) (n from number named : ℕ) → MeansTombed join s v k partitions key partition w g from n number 2 named → (c : Collection) → Has (m.nodes n).gc.collections c → c.number ≡ number → IsComplete 2 from named c →
        IsDid m e n (finishes join s k n (m.nodes n) (Some c)) → Leads join s v k partitions some key partition m w g e
    finishes_leads goes n from number named means c there at complete is =
        by_row (row_at join s (m.nodes n).accepted 1 c.key) refl is
      where
        by_test : (r : R) → row_at join s (m.nodes n).accepted 1 c.key ≡ Some r → (b : Bool) → ((newest k.reading (m.nodes n).view == c.newest) && has_bytes join s c.row (Some r)) ≡ b → IsDid m e n (cond b (drops_row join s n (record (m.nodes n) { gc = closed c.number (m.nodes n).gc }) c (Some r)) (quiet (record (m.nodes n) { gc = closed c.number (m.nodes n).gc }))) → Leads join s v k partitions some key partition m w g e
        by_test r row false f is = closed_leads join s laws v versions k partitions some key partition m w g sound t e goes n c.number is
        by_test r row true f is = drop_leads goes n from number named means c there at complete r row (and_parts (newest k.reading (m.nodes n).view == c.newest) (has_bytes join s c.row (Some r)) f).1 is

        and_none : (b : Bool) → (b && false) ≡ false
        and_none true = refl
        and_none false = refl

        by_row : (o : Option R) → row_at join s (m.nodes n).accepted 1 c.key ≡ o → IsDid m e n (cond ((newest k.reading (m.nodes n).view == c.newest) && has_bytes join s c.row o) (drops_row join s n (record (m.nodes n) { gc = closed c.number (m.nodes n).gc }) c o) (quiet (record (m.nodes n) { gc = closed c.number (m.nodes n).gc }))) → Leads join s v k partitions some key partition m w g e
        by_row None row is = closed_leads join s laws v versions k partitions some key partition m w g sound t e goes n c.number
            (let P : Bool → Type 0 = λ b. IsDid m e n (cond b (drops_row join s n (record (m.nodes n) { gc = closed c.number (m.nodes n).gc }) c None) (quiet (record (m.nodes n) { gc = closed c.number (m.nodes n).gc }))) in subst P (and_none (newest k.reading (m.nodes n).view == c.newest)) is)
        by_row (Some r) row is = by_test r row ((newest k.reading (m.nodes n).view == c.newest) && has_bytes join s c.row (Some r)) refl is

    -- an answer comes
    pub tombed_leads : (goes : Goes k partitions m w.control e) (n from number round named : ℕ) → MeansTombed join s v k partitions key partition w g from n number round named → IsDid m e n (tomb_came join s k n (clock m n) (m.nodes n) from number round named) → Leads join s v k partitions some key partition m w g e
    tombed_leads goes n from number round named means is = by_end (answer_end number round from named (m.nodes n).gc) refl is
      where
        end_is : (end : GcEnd) → answer_end number round from named (m.nodes n).gc ≡ end → (c : Collection) → Has (m.nodes n).gc.collections c → c.number ≡ number → end_of round from named c ≡ end
        end_is end f c there at = ap (end_at round from named) (sym (the_one join s laws v versions k partitions some key partition m w g sound t e n number (numbered number (m.nodes n).gc) refl c there at)) ∙ f

        none_complete : (o : Option Collection) → end_at round from named o ≡ Complete → (c : Collection) × (o ≡ Some c)
        none_complete None f = cc
        none_complete (Some c) f = (c, refl)

        complete_one : answer_end number round from named (m.nodes n).gc ≡ Complete → (c : Collection) × ((numbered number (m.nodes n).gc ≡ Some c) × ((Has (m.nodes n).gc.collections c) × (c.number ≡ number)))
        complete_one f =
            let one = none_complete (numbered number (m.nodes n).gc) f in
            let found = find_passes (λ c. c.number == number) (m.nodes n).gc.collections one.0 one.1 in
            (one.0, (one.1, (found.0, eqb-true one.0.number number found.1)))

        by_two : answer_end number round from named (m.nodes n).gc ≡ Complete → (b : Bool) → (round == 2) ≡ b → IsDid m e n (cond b (finishes join s k n (m.nodes n) (numbered number (m.nodes n).gc)) (quiet (record (m.nodes n) { gc = changed_in (told round from named (clock m n)) number (m.nodes n).gc }))) → Leads join s v k partitions some key partition m w g e
        by_two f false not_two is =
            let one = complete_one f in
            completes_leads join s laws v versions k partitions some key partition m w g sound t e goes n from number round named means one.0 one.1.1.0 one.1.1.1 (complete_of round from named one.0 (end_is Complete f one.0 one.1.1.0 one.1.1.1)) (eqb-false round 2 not_two) is
        by_two f true two is =
            let one = complete_one f in
            let at_two : round ≡ 2 = eqb-true round 2 two in
            let P : ℕ → Type 0 = λ q. MeansTombed join s v k partitions key partition w g from n number q named in
            let Q : ℕ → Type 0 = λ q. IsComplete q from named one.0 in
            finishes_leads goes n from number named (subst P at_two means) one.0 one.1.1.0 one.1.1.1 (subst Q at_two (complete_of round from named one.0 (end_is Complete f one.0 one.1.1.0 one.1.1.1)))
            (subst (λ o. IsDid m e n (finishes join s k n (m.nodes n) o)) one.1.0 is)

        by_end : (end : GcEnd) → answer_end number round from named (m.nodes n).gc ≡ end → IsDid m e n (answered_to join s k n (m.nodes n) number round (cond (is_closed end) (closed number (m.nodes n).gc) (changed_in (told round from named (clock m n)) number (m.nodes n).gc)) end) → Leads join s v k partitions some key partition m w g e
        by_end Wait f is = told_leads join s laws v versions k partitions some key partition m w g sound t e goes n from number round named means is [] tt tt (λ i. refl)
            (λ c there at two c_two. waits_other round from named c (end_is Wait f c there at) two c_two)
            (λ c there at mine one c_one none full. absurd (waits_count round from named c (end_is Wait f c there at) one c_one none full))
        by_end Closed f is = closed_leads join s laws v versions k partitions some key partition m w g sound t e goes n number is
        by_end Complete f is = by_two f (round == 2) refl is
