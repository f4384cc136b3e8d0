-- What a node does for walks: it answers another's question, and goes on or ends after an answer.
use Rattle.std.specs.Prelude.{◌≡◌, ◌≢◌, ◌≤◌, ◌<◌, ◌⊎◌, ℕ, suc, ◌+◌, Bool, true, false, not, cond, ◌==◌, ◌&&◌, ◌||◌, nat_lt, Option, Some, None, List, [], ◌∷◌, ◌++◌, length, map, filter, refl}
use Rattle.std.specs.List.{Contains, AllByRecursion, list_all, find}
use Rattle.std.proofs.Common.{ap, sym, subst, ◌∙◌, inl, inr, arith}
use Rattle.std.proofs.lemmas.Bool.{eq-eqb, ltb-false}
use Rattle.blake2_hash.specs.Blake2b.{blake2b}
use Rattle.blake2_hash.specs.declared.digest.Hash32.{Hash32}
use Rattle.crdt_core.specs.EntryLaws.{and_parts, and_both}
use Rattle.crdt_core.specs.Laws.{JoinLaws}
use Rattle.crdt_core.proofs.Each.{all_append, all_weaker}
use Rattle.view_model.specs.View.{newest}
use Rattle.control_model.specs.World as control
use Rattle.control_model.specs.Steps.{Step}
use Rattle.table_schema.specs.Words.{Words}
use Rattle.table_schema.specs.Laws.{Laws}
use Rattle.walk_model.specs.Account.{Noted, UnderOpen}
use Rattle.walk_model.proofs.Prefixes.{same_from}
use Rattle.wire_messages.specs.declared.message.Tag.{Tag}
use Rattle.plane_model.specs.Rows.{IsAtLeast}
use Rattle.plane_model.specs.World as plane
use Rattle.plane_model.specs.World.{row_at as log_at, collected_at, row_in, kept_at}
use Rattle.plane_model.specs.Kept.{Holds, IsGone}
use Rattle.plane_model.specs.Action.{takes_push, run, Happens, MayTakePush}
use Rattle.plane_laws.proofs.Rows.{over_or, holds_row}
use Rattle.plane_laws.proofs.Runs.{run_append, happens_append}
use Rattle.plane_laws.proofs.Sets.{contains_here}
use Rattle.plane_laws.proofs.Sound.{IsSound}
use Rattle.plane_laws.proofs.Steps.{run_sound}
use Rattle.cluster_machine.specs.Layouts.{Layouts}
use Rattle.cluster_machine.specs.Node as machine
use Rattle.cluster_machine.specs.Node.{Node, Walk, Mending, quiet}
use Rattle.cluster_machine.specs.Phases.{is_spelled}
use Rattle.cluster_machine.specs.Rows.{same_bytes}
use Rattle.cluster_machine.specs.Rounds.{is_empty, is_walk, without_walk, with_walk, rows_at, asks_at, pushes_rows, has_ended, found_same, walk_after, walks_after, asked_after, sends_after, is_complete, goes_on, round_walks, mending_walks}
use Rattle.walk_model.specs.Noting.{is_noted}
use Rattle.cluster_machine.specs.Receives.{answers, compared}
use Rattle.cluster_machine.specs.Hashes.{NoClash}
use Rattle.cluster_machine.specs.World.{World}
use Rattle.cluster_machine.specs.Step.{Effects, changed, did, sent_by}
use Rattle.machine_laws.specs.Follows.{target_of, Controlled}
use Rattle.machine_laws.proofs.Controls.{Turns}
use Rattle.machine_laws.proofs.Same.{Same, same_self}
use Rattle.machine_laws.proofs.Rounding.{speaks, some_same, said_after}
use Rattle.machine_reads.specs.Places.{Place, at_place}
use Rattle.machine_reads.specs.Tie.{Issued, Begun, a_round, a_repair, both, State, HasBase, HadThere, IsAnswer, IsPushedOf, MeansValue, Means, IsRound, IsWalk, IsNode, IsKept, IsTied}
use Rattle.machine_reads.proofs.Pairs.{picked}
use Rattle.machine_reads.proofs.Growth.{Grown, same_at, means_grows, node_stays, round_stays}
use Rattle.machine_reads.proofs.Leads.{issues_self, laws_of, Act, grown, Leads}
use Rattle.machine_reads.proofs.Sees.{newest_same}
use Rattle.machine_reads.proofs.Called.{quietly}
use Rattle.machine_reads.proofs.Rounds.{round_by}
use Rattle.machine_reads.proofs.Views.{all_filter}
use Rattle.machine_reads.proofs.Walks.{at_least_some, CanAsk, CanPush, sent_further, sent_pushed, own_over, MayCompare, compared_means, walk_goes}

digest : List ℕ → List ℕ
digest = blake2b 32

-- ---- lists

pub passing : {X : Type 0} (f test : X → Bool) (xs : List X) → list_all f xs ≡ true → list_all f (filter test xs) ≡ true
passing f test [] a = refl
passing f test (x ∷ xs) a =
    let parts = and_parts (f x) (list_all f xs) a in
    elim (test x) as (λ b. list_all f (cond b (x ∷ filter test xs) (filter test xs)) ≡ true) [ true ↦ and_both (f x) (list_all f (filter test xs)) parts.0 (passing f test xs parts.1) | false ↦ passing f test xs parts.1 ]

none_passes : {X : Type 0} (test : X → Bool) (xs : List X) → ((x : X) → test x ≡ false) → filter test xs ≡ []
none_passes test [] f = refl
none_passes test (x ∷ xs) f = ap (λ b. cond b (x ∷ filter test xs) (filter test xs)) (f x) ∙ none_passes test xs f

empty_is : {X : Type 0} (xs : List X) → is_empty xs ≡ true → xs ≡ []
empty_is [] e = refl
empty_is (x ∷ xs) e = cc

-- what is found passes, and is there
pub found_in : {X : Type 0} (P : X → Type 0) (f : X → Bool) (xs : List X) (x : X) → AllByRecursion P xs → find f xs ≡ Some x → P x × (f x ≡ true)
found_in P f [] x a e = cc
found_in P f (y ∷ xs) x a e =
    elim (f y) as (λ b. f y ≡ b → cond b (Some y) (find f xs) ≡ Some x → P x × (f x ≡ true)) [
      | true ↦ (λ t h. let same = some_same y x h in (subst P same a.0, subst (λ z. f z ≡ true) same t))
      | false ↦ (λ t h. found_in P f xs x a.1 h)
    ] refl e

or_left : (a b : Bool) → a ≡ true → (a || b) ≡ true
or_left true b e = refl
or_left false b e = cc

or_right : (a b : Bool) → b ≡ true → (a || b) ≡ true
or_right true b e = refl
or_right false b e = e

module _ {R : Type 0} (join : R → R → R) (s : Words R) where
  noted_passes : (keys : List (ℕ × Hash32)) (r : R) → Noted keys (s.table r) (blake2b 32 (s.key r)) → is_noted s keys r ≡ true
  noted_passes [] r h = absurd h
  noted_passes (key ∷ keys) r (inl e) =
      or_left ((key.0 == s.table r) && same_bytes key.1.0 (blake2b 32 (s.key r))) _
      (and_both (key.0 == s.table r) (same_bytes key.1.0 (blake2b 32 (s.key r))) (eq-eqb key.0 (s.table r) (ap (λ (x : ℕ × Hash32). x.0) e)) (same_from key.1.0 (blake2b 32 (s.key r)) (ap (λ (x : ℕ × Hash32). x.1.0) e)))
  noted_passes (key ∷ keys) r (inr h) = or_right ((key.0 == s.table r) && same_bytes key.1.0 (blake2b 32 (s.key r))) _ (noted_passes keys r h)

module _ {R L : Type 0} (join : R → R → R) (s : Words R) (k : Layouts L) (partitions : ℕ) (H : List ℕ → Type 0) (some : 1 ≤ partitions) (joins_well : JoinLaws join) (laws : Laws join s) where
  abbrev P : Rattle.plane_model.specs.Plane.Plane (control.World L) (Step L) Place R
  P = both join s k partitions H

  module _ (w : World R L) (p : State join s k partitions H) (g : Issued R L) (sound : IsSound (both join s k partitions H) p) (t : IsTied join s k partitions H w p g) (A C : Type 0) where
    -- ---- actions before a step's own that change neither rows nor the control plane

    module _ (acts : List (Act join s k partitions H some joins_well)) (happens : Happens P p acts) (same_control : (run P p acts).control ≡ p.control) (same_log : (run P p acts).log ≡ p.log) (same_kept : (run P p acts).kept ≡ p.kept) where
      abbrev mid : State join s k partitions H
      mid = run P p acts

      pub mid_grown : Grown join s k partitions H p mid g g
      mid_grown = grown join s k partitions H some joins_well p g g acts sound happens (issues_self g)

      pub mid_sound : IsSound P mid
      mid_sound = (run_sound P (laws_of join s k partitions H some joins_well) acts p sound happens).sound

      pub mid_tied : IsTied join s k partitions H w mid g
      mid_tied = record {
        control = subst (λ c. Controlled k partitions w c) (sym same_control) t.control;
        nodes = λ n. node_stays join s k partitions H p mid g g mid_grown (length w.requests) (length w.requests) n (w.nodes n) (omega arith) (same_at join s k partitions H g (length w.requests) n) (λ q. ap (λ l. log_at P l n q) same_log) (t.nodes n);
        kept = λ q. ap (λ l. kept_at P l q) same_kept ∙ t.kept q;
        kept_rows = all_weaker (IsKept join s k partitions H p) (IsKept join s k partitions H mid) (λ r h. record { proper = h.proper; store = h.store; is_there = mid_grown.lists.kept h.store h.is_there; key = h.key; row = h.row }) w.kept t.kept_rows;
        messages = all_weaker _ _ (means_grows join s k partitions H p mid g g mid_grown) w.messages t.messages;
        not_asked = t.not_asked;
        not_stored = t.not_stored;
        collected = λ q. ap (λ l. collected_at P l q) same_log ∙ t.collected q;
        proper_collected = t.proper_collected;
        reads = t.reads;
      }

      pub after_acts : (e : Effects R L A C) → Leads join s k partitions H some joins_well {A = A} {C = C} w mid g e → Leads join s k partitions H some joins_well {A = A} {C = C} w p g e
      after_acts e l =
          let end : State join s k partitions H = run P mid l.acts in
          let same : end ≡ run P p (acts ++ l.acts) = sym (run_append P acts l.acts p) in
          record {
            acts = acts ++ l.acts;
            issued = l.issued;
            happens = happens_append P acts l.acts p happens l.happens;
            issues = l.issues;
            control = subst (λ (z : State join s k partitions H). Turns k partitions w p.control z.control e) same (subst (λ c. Turns k partitions w c end.control e) same_control l.control);
            nodes = subst (λ (z : State join s k partitions H). (n : ℕ) → IsNode join s k partitions H z l.issued (length w.requests + length e.opens) n (changed e.nodes w.nodes n)) same l.nodes;
            kept = subst (λ (z : State join s k partitions H). (q : Place) → kept_at P z.kept q ≡ at_place s join (e.keeps ++ w.kept) q) same l.kept;
            kept_rows = subst (λ (z : State join s k partitions H). AllByRecursion (IsKept join s k partitions H z) e.keeps) same l.kept_rows;
            sends = subst (λ (z : State join s k partitions H). AllByRecursion (Means join s k partitions H z l.issued) e.sends) same l.sends;
            not_asked = l.not_asked;
            not_stored = l.not_stored;
            collected = subst (λ (z : State join s k partitions H). (q : Place) → collected_at P z.log q ≡ at_place s join (e.collects ++ w.collected) q) same l.collected;
            proper_collected = l.proper_collected;
            reads = l.reads;
          }

    -- a node with other walks of a repair or of a complete round, of which neither plane sees anything
    pub record MendsTo (n number : ℕ) (y : Node R L) : Type 0 where
      pub same : Same (w.nodes n) y
      pub issued : g.rounds n number ≡ Some a_repair
      pub node : IsNode join s k partitions H p g (length w.requests) n y

    module _ (clear : NoClash H) where
      abbrev LeadBy : ℕ → machine.Did R L → Type 0
      LeadBy n d = Leads join s k partitions H some joins_well {A = A} {C = C} w p g (did w n d)

      -- a question of a walk is answered
      pub asked_comes : (n from : ℕ) (tag : Tag) (named part table : ℕ) (prefix : List ℕ) (hash : Hash32) (b : Bool) → MeansValue join s k partitions H p g from n tag named part table prefix hash.0 → nat_lt (newest k.reading (w.nodes n).view) named ≡ false →
          list_all (is_spelled s) (rows_at join s (w.nodes n) part) ≡ true → MayCompare join s k partitions H some joins_well laws w p g sound t A C clear n part → LeadBy n (record (answers (w.nodes n) from (compared join s k (w.nodes n) tag part table prefix hash)) { is_spelled = b })
      asked_comes n from tag named part table prefix hash b m low spelled may =
          let under : named ≤ newest k.reading (w.nodes n).view = ltb-false (newest k.reading (w.nodes n).view) named low in
          let same : P.control.newest p.control n ≡ newest k.reading (w.nodes n).view = newest_same join s k partitions H some w p sound t.control n in
          quietly join s k partitions H some joins_well w p g g n (record (answers (w.nodes n) from (compared join s k (w.nodes n) tag part table prefix hash)) { is_spelled = b }) [] sound t (record { same = same_self (w.nodes n); posts = (tt, tt) }) tt refl refl refl (issues_self g)
          (λ i d. same_at join s k partitions H g (length w.requests) i) refl (t.nodes n)
          (compared_means join s k partitions H some joins_well laws w p g sound t A C clear n from 0 named part table prefix hash (omega arith) spelled may tag m, tt)
          t.not_asked t.not_stored (refl, tt)

      -- what an answer's question was for
      base_of : (rd : plane.Round Place R) (part table : ℕ) (prefix : List ℕ) (answer : Option (List (ℕ × Hash32))) (from : ℕ) → IsAnswer join s k partitions H p g rd part table prefix answer from →
          HasBase join s k partitions H p g rd part (P.control.newest p.control from)
      base_of rd part table prefix None from says = says.base
      base_of rd part table prefix (Some pairs) from says = says.base

      -- ---- an answer to a walk of the open round

      module _ (n : ℕ) (x : machine.Round) (open_now : (w.nodes n).round ≡ Some x) (m : IsRound join s k partitions H p g n x) (v : Walk) (is : IsWalk join s k partitions H p g m.round v) (table : ℕ) (prefix : List ℕ)
          (answer : Option (List (ℕ × Hash32))) (says : IsAnswer join s k partitions H p g m.round v.state.partition table prefix answer v.node) (spelled : list_all (is_spelled s) (rows_at join s (w.nodes n) v.state.partition) ≡ true) (hashed : MayCompare join s k partitions H some joins_well laws w p g sound t A C clear n v.state.partition) where
        abbrev y : Node R L
        y = w.nodes n

        abbrev part : ℕ
        part = v.state.partition

        abbrev later : Walk
        later = walk_after join s (w.nodes n) v table prefix answer

        abbrev now : machine.Round
        now = record x { walks = walks_after later x.walks }

        abbrev asked : List (List ℕ)
        asked = asked_after join s (w.nodes n) part table prefix answer

        goes : IsWalk join s k partitions H p g m.round later
        goes = walk_goes join s k partitions H some joins_well laws w p g sound t A C clear n x open_now m v is table prefix spelled hashed answer says

        walks_now : AllByRecursion (IsWalk join s k partitions H p g m.round) (walks_after later x.walks)
        walks_now = elim (has_ended later) as (λ b. AllByRecursion (IsWalk join s k partitions H p g m.round) (cond b (without_walk part v.node x.walks) (with_walk later x.walks))) [
          | true ↦ all_filter _ (λ (u : Walk). not (is_walk part v.node u)) x.walks m.walks
          | false ↦ (goes, all_filter _ (λ (u : Walk). not (is_walk part v.node u)) x.walks m.walks)
        ]

        round_now : IsRound join s k partitions H p g n now
        round_now = record {
          round = m.round;
          issued = m.issued;
          is_there = m.is_there;
          node = m.node;
          target = m.target;
          known = m.known;
          confirmed = m.confirmed;
          parts = m.parts;
          all_parts = m.all_parts;
          walks = walks_now;
        }

        base_now : HasBase join s k partitions H p g m.round part (newest k.reading (w.nodes n).view)
        base_now = subst (λ i. HasBase join s k partitions H p g m.round part i) (ap (P.control.newest p.control) m.node ∙ newest_same join s k partitions H some w p sound t.control n) is.base

        can_ask : CanAsk join s k partitions H some joins_well laws w n p g x.number (a_round m.round) m.issued (w.nodes n) m.round part v.node
        can_ask = record {
          base = base_now;
          given = is.given;
          proper = (t.nodes n).proper;
          spelled = spelled;
          over = own_over join s k partitions H some joins_well laws w p g sound t A C clear n x open_now m part is.base.mine;
        }

        -- at its end what the walk noted is pushed, and the rest is held
        can_push : has_ended later ≡ true → CanPush join s k partitions H some joins_well laws w n p g x.number (a_round m.round) m.issued (w.nodes n) m.round part v.node (filter (is_noted s later.state.noted) (rows_at join s (w.nodes n) part))
        can_push ended = record {
          base = base_now;
          covers = λ q r had. elim (goes.covers q r had) [
            | inl held ↦ inr held
            | inr rest ↦ elim rest [
              | inl noted ↦
                  elim (own_over join s k partitions H some joins_well laws w p g sound t A C clear n x open_now m part is.base.mine q r had) [
                    | inl over ↦
                        let there = at_least_some join (at_place s join (w.nodes n).accepted q) r over in
                        let z = there.0 in
                        let found = picked joins_well laws (w.nodes n).accepted part (is_noted s later.state.noted) q z (t.nodes n).proper had.0 there.1
                        (λ here. noted_passes join s later.state.noted z (subst (λ (a : Place). Noted later.state.noted a.1.0 (blake2b 32 a.1.1)) (sym here) noted)) in
                        inl (subst (λ o. IsAtLeast join o r) (there.1 ∙ sym found) over)
                    | inr gone ↦ inr (inr gone)
                  ]
              | inr under ↦ absurd (subst (λ l. UnderOpen l q.1.0 (blake2b 32 q.1.1)) (empty_is later.state.prefixes ended) under)
            ]
          ];
        }

        sends : AllByRecursion (Means join s k partitions H p g) (sent_by w n (sends_after join s k (w.nodes n) x.number later table asked))
        sends = elim (has_ended later) as (λ b. has_ended later ≡ b → AllByRecursion (Means join s k partitions H p g) (sent_by w n (cond b (pushes_rows join s k (w.nodes n) x.number part (v.node ∷ []) (filter (is_noted s later.state.noted) (rows_at join s (w.nodes n) part))) (map (asks_at join s k (w.nodes n) x.number part v.node table) asked)))) [
          | true ↦ (λ ended. sent_pushed join s k partitions H some joins_well laws w n p g x.number (a_round m.round) m.issued (w.nodes n) part v.node (filter (is_noted s later.state.noted) (rows_at join s (w.nodes n) part))
              (passing (is_spelled s) (is_noted s later.state.noted) (rows_at join s (w.nodes n) part) spelled) (can_push ended))
          | false ↦ (λ ended. sent_further join s k partitions H some joins_well laws w n p g x.number (a_round m.round) m.issued (w.nodes n) part v.node table asked can_ask hashed)
        ] refl

        abbrev said : machine.Did R L → machine.Did R L
        said d = record d { posts = sends_after join s k (w.nodes n) x.number later table asked; is_spelled = list_all (is_spelled s) (rows_at join s (w.nodes n) part) }

        -- the walk asks on, or ends with a push
        asks_on : LeadBy n (said (quiet (record (w.nodes n) { round = Some now })))
        asks_on =
            quietly join s k partitions H some joins_well w p g g n (said (quiet (record (w.nodes n) { round = Some now }))) [] sound t
            (record { same = record { view = refl; calls = refl; round = ap (Rattle.std.specs.Prelude.option_map target_of) (sym open_now) }; posts = said_after join s k (w.nodes n) x.number later table asked }) tt refl refl refl (issues_self g)
            (λ i d. same_at join s k partitions H g (length w.requests) i) refl
            (record { rows = (t.nodes n).rows; proper = (t.nodes n).proper; calls = (t.nodes n).calls; round = round_now; mending = (t.nodes n).mending; lasting = (t.nodes n).lasting; later_rounds = (t.nodes n).later_rounds })
            sends t.not_asked t.not_stored (refl, tt)

        -- ---- the walk ends, and found nothing to push

        module _ (ended : has_ended later ≡ true) (none : is_empty later.state.noted ≡ true) where
          base : HasBase join s k partitions H p g m.round part (P.control.newest p.control v.node)
          base = base_of m.round part table prefix answer v.node says

          held_or_gone : (i : ℕ) (q : Place) (r : R) (node : ℕ) → P.control.oldest p.control node ≤ i → Holds P p.control p.log i q r node ⊎ IsGone P p.log q r → IsAtLeast join (log_at P p.log node q) r ⊎ IsGone P p.log q r
          held_or_gone i q r node old held = elim held [ inl has ↦ inl (holds_row P (laws_of join s k partitions H some joins_well) p.control p.log i q r node has old) | inr gone ↦ inr gone ]

          may : MayTakePush P p base.push v.node []
          may = record {
            was_pushed = base.is_there;
            knows = base.newest;
            has = λ old q e. over_or joins_well (log_at P p.log v.node q) (collected_at P p.log q) (row_in P base.push.rows q) (λ r least.
                let part_is : q.0 ≡ part = e ∙ base.partition_is in
                let had : HadThere join s k partitions H m.round part q r = (part_is, subst (λ o. IsAtLeast join o r) (base.rows_are q part_is) least) in
                let target : suc base.push.round.from ≡ suc m.round.from = ap (λ (i : plane.Round Place R). suc i.from) base.of_it in
                elim (goes.covers q r had) [
                  | inl held ↦ held_or_gone (suc m.round.from) q r v.node (subst (λ i. P.control.oldest p.control v.node ≤ i) target old) held
                  | inr rest ↦ elim rest [
                    | inl noted ↦ absurd (subst (λ l. Noted l q.1.0 (blake2b 32 q.1.1)) (empty_is later.state.noted none) noted)
                    | inr under ↦ absurd (subst (λ l. UnderOpen l q.1.0 (blake2b 32 q.1.1)) (empty_is later.state.prefixes ended) under)
                  ]
                ]);
          }

          abbrev confirms : List (Act join s k partitions H some joins_well)
          confirms = takes_push base.push v.node [] ∷ []

          happens : Happens P p confirms
          happens = (may, tt)

          abbrev there : machine.Round
          there = record now { confirmed = x.confirmed ++ record { partition = part; node = v.node } ∷ [] }

          pushed : plane.Pushed Place R
          pushed = record { round = m.round; partition = part; node = v.node }

          is_pushed : Contains (run P p confirms).pushed (record { round = m.round; partition = part; node = v.node })
          is_pushed = subst (λ (d : plane.Pushed Place R). Contains (run P p confirms).pushed d) (λ i. record { round = base.of_it i; partition = base.partition_is i; node = v.node }) (contains_here (record { round = base.push.round; partition = base.push.partition; node = v.node }) p.pushed)

          tied_then : IsTied join s k partitions H w (run P p confirms) g
          tied_then = mid_tied confirms happens refl refl refl

          sound_then : IsSound P (run P p confirms)
          sound_then = mid_sound confirms happens refl refl refl

          stays : IsRound join s k partitions H (run P p confirms) g n now
          stays = round_stays join s k partitions H p (run P p confirms) g g (mid_grown confirms happens refl refl refl) n now (λ number b e. e) round_now

          no_posts : sends_after join s k (w.nodes n) x.number later table asked ≡ []
          no_posts =
              ap (λ b. cond b (pushes_rows join s k (w.nodes n) x.number part (v.node ∷ []) (filter (is_noted s later.state.noted) (rows_at join s (w.nodes n) part))) (map (asks_at join s k (w.nodes n) x.number part v.node table) asked)) ended
              ∙ (ap (λ l. pushes_rows join s k (w.nodes n) x.number part (v.node ∷ []) (filter (is_noted s l) (rows_at join s (w.nodes n) part))) (empty_is later.state.noted none)
              ∙ ap (pushes_rows join s k (w.nodes n) x.number part (v.node ∷ [])) (none_passes (is_noted s []) (rows_at join s (w.nodes n) part) (λ r. refl)))

          ends_same : LeadBy n (said (quiet (goes_on join s k n (w.nodes n) there)))
          ends_same =
              subst (λ posts. LeadBy n (speaks (goes_on join s k n (w.nodes n) there) posts (list_all (is_spelled s) (rows_at join s (w.nodes n) part)))) (sym no_posts)
              (after_acts confirms happens refl refl refl (did w n (speaks (goes_on join s k n (w.nodes n) there) [] (list_all (is_spelled s) (rows_at join s (w.nodes n) part))))
              (round_by join s k partitions H some joins_well laws A C w (run P p confirms) g sound_then tied_then n x there [] (list_all (is_spelled s) (rows_at join s (w.nodes n) part)) (is_complete there) tt open_now refl
              (record {
                round = stays.round;
                issued = stays.issued;
                is_there = stays.is_there;
                node = stays.node;
                target = stays.target;
                known = stays.known;
                confirmed = all_append _ x.confirmed (record { partition = part; node = v.node } ∷ []) stays.confirmed (inl (inr (subst (λ (b : Begun R). IsPushedOf join s k partitions H (run P p confirms) g b part v.node) (some_same (a_round m.round) (a_round stays.round) (sym m.issued ∙ stays.issued)) is_pushed)), tt);
                parts = stays.parts;
                all_parts = stays.all_parts;
                walks = stays.walks;
              }) refl tt (λ q h o. tt)))

        -- so it goes on
        pub walk_leads : LeadBy n (round_walks join s k n (w.nodes n) table prefix answer x v)
        walk_leads =
            elim (found_same later) as (λ b. found_same later ≡ b → LeadBy n (said (quiet (cond b (goes_on join s k n (w.nodes n) (record now { confirmed = x.confirmed ++ record { partition = part; node = v.node } ∷ [] })) (record (w.nodes n) { round = Some now }))))) [
              | true ↦ (λ e. let both_ = and_parts (has_ended later) (is_empty later.state.noted) e in ends_same both_.0 both_.1)
              | false ↦ (λ e. asks_on)
            ] refl

      -- an answer to a walk of a repair, or of a complete round
      pub mending_leads : (n : ℕ) (x : Mending) (then : Mending → Node R L) → ((walks : List Walk) → MendsTo n x.number (then (record x { walks = walks }))) → (v : Walk) (table : ℕ) (prefix : List ℕ) (answer : Option (List (ℕ × Hash32))) →
          list_all (is_spelled s) (rows_at join s (w.nodes n) v.state.partition) ≡ true → LeadBy n (mending_walks join s k (w.nodes n) then table prefix answer x v)
      mending_leads n x then mends v table prefix answer spelled =
          let y = w.nodes n in
          let later = walk_after join s y v table prefix answer in
          let part = v.state.partition in
          let asked = asked_after join s y part table prefix answer in
          let d = mending_walks join s k y then table prefix answer x v in
          let to = mends (walks_after later x.walks) in
          let issued : g.rounds n x.number ≡ Some a_repair = to.issued in
          quietly join s k partitions H some joins_well w p g g n d [] sound t
          (record { same = to.same; posts = said_after join s k y x.number later table asked }) tt refl refl refl (issues_self g)
          (λ i d. same_at join s k partitions H g (length w.requests) i) refl to.node
          (elim (has_ended later) as (λ b. AllByRecursion (Means join s k partitions H p g) (sent_by w n (cond b (pushes_rows join s k y x.number part (v.node ∷ []) (filter (is_noted s later.state.noted) (rows_at join s y part))) (map (asks_at join s k y x.number part v.node table) asked)))) [
            | true ↦ sent_pushed join s k partitions H some joins_well laws w n p g x.number a_repair issued y part v.node (filter (is_noted s later.state.noted) (rows_at join s y part))
                (passing (is_spelled s) (is_noted s later.state.noted) (rows_at join s y part) spelled) tt
            | false ↦ sent_further join s k partitions H some joins_well laws w n p g x.number a_repair issued y part v.node table asked tt tt
          ])
          t.not_asked t.not_stored (refl, tt)
