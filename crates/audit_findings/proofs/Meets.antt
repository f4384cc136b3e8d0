-- Two turns of one event, given the same prints: they lead to one state with one text, or both come to a layout of one size, for which none is printed.
use Rattle.std.proofs.Common.{◌≡◌, ℕ, suc, Bool, true, false, not, ◌&&◌, leb, cond, Option, Some, None, List, [], ◌∷◌, ◌++◌, refl, sym, ap, subst, ◌∙◌, append_assoc, append-nil, arith}
use Rattle.std.specs.Prelude.{⊤, codes, decimal}
use Rattle.layout_roles.specs.declared.role.Role.{Role}
use Rattle.layout_roles.specs.declared.redundancy.Redundancy.{Redundancy}
use Rattle.layout_roles.specs.declared.certified.Certified.{Certified}
use Rattle.layout_roles.specs.Text.{word, number, set_lines, cut_lines, size_line, redundancy_line, layout_text}
use Rattle.crdt_rows.specs.declared.any_row.AnyRow.{AnyRow}
use Rattle.crdt_rows.specs.AnyRow.{any_join}
use Rattle.object_schema.specs.Schema.{words}
use Rattle.cluster_machine.specs.Choices.{Decision, IsComputed, IsNone}
use Rattle.cluster_machine.specs.Layouts.{layouts}
use Rattle.cluster_machine.specs.Step.{most_versions, given, none_given, chosen, applied}
use Rattle.cluster_machine.specs.Trio.{trio, stage_trio}
use Rattle.cluster_machine.specs.World.{is_member_at}
use Rattle.cluster_machine.specs.Worlds.{Done as Effect, newest_at, comes_to_layout, does}
use Rattle.store_model.specs.declared.event.Event.{Event}
use Rattle.store_model.specs.declared.event.Event.TheVariants.{Trio, Block, Bucket, Role as Stage, Redundancy as Spread, Apply, Tick, Skew, Put, Get, Head, Delete, Copy, List as Keys, Deliver, Lose, Drain, Expire, Restart, Gossip, Ack, Sync, SyncAck, Clean, Work, Repair, Collect}
use Rattle.store_model.specs.declared.event.Numbered.{Numbered}
use Rattle.store_model.specs.Run.{World, State}
use Rattle.store_model.specs.Events.{Turn, act_of_turn, outcome_of, after, events_of, run}
use Rattle.text_model.specs.Grammar.{lines_of, name_of}
use Rattle.text_model.specs.Transcript.{told_text, event_text, turns_text}
use Rattle.audit_model.specs.Printed.{Print, print_at}
use Rattle.audit_model.specs.Audit.{staged_in, as_printed, as_computed, IsGiven, AreGiven}
use Rattle.store_model.specs.Acts.{IsLawfulAct}
use Rattle.audit_runs.specs.First.{ok_line, size_words}
use Rattle.audit_runs.specs.Fixed.{HasPrint, HavePrints}
use Rattle.audit_runs.proofs.Lines.{Free, free_both, decimal_free, first_line}
use Rattle.audit_findings.specs.Alone.{AreOneAnswer, IsWhole}
use Rattle.audit_findings.proofs.Ends.{line_whole, both_whole, size_whole}
use Rattle.audit_findings.proofs.Limit.{applies}

-- runs whose layouts are all printed are one
abbrev pub PrintsFix : Type 0
PrintsFix = (ps : List Print) (s : State) (turns others : List Turn) → events_of turns ≡ events_of others → AreGiven ps s turns → AreGiven ps s others → HavePrints ps s turns →
    (run s turns ≡ run s others) × (turns_text s turns ≡ turns_text s others)

-- what is computed is one size, or refused in one way
abbrev pub OneAnswer : Type 0
OneAnswer = (roles : List Role) (wanted : Redundancy) (version : ℕ) (choice other : Decision) → IsComputed roles wanted version choice → IsComputed roles wanted version other → AreOneAnswer choice other

-- the turn of an event that is given this
abbrev turned : Numbered → Decision → Turn
turned e c = record { numbered = e; choice = c }

-- no layout is printed for what is staged
abbrev pub IsUnfit : State → Option Print → Type 0
IsUnfit s None = ⊤
IsUnfit s (Some p) = p.staged ≡ staged_in s → ⊥

-- an apply comes to a layout, and none is printed for what is staged; or each layout is printed that the event comes to
data Has (s : State) : Event → Option Print → Type 0 where
  has : (e : Event) (o : Option Print) → HasPrint s e o → Has s e o
  lacks : (n : ℕ) (o : Option Print) → comes_to_layout s.world n ≡ true → IsUnfit s o → Has s (Apply n) o

apply_has : (s : State) (n : ℕ) (t : Turn) (o : Option Print) → IsGiven s t o → (b : Bool) → comes_to_layout s.world n ≡ b → Has s (Apply n) o
apply_has s n t None h true is = lacks n None is tt
apply_has s n t None h false is = has (Apply n) None is
apply_has s n t (Some p) (as_printed so given_so) true is = has (Apply n) (Some p) (λ comes. so)
apply_has s n t (Some p) (as_computed other lawful) true is = lacks n (Some p) is other
apply_has s n t (Some p) h false is = has (Apply n) (Some p) (λ comes. let no : false ≡ true = sym is ∙ comes in cc)

has_or_lacks : (s : State) (e : Event) (t : Turn) (o : Option Print) → IsGiven s t o → Has s e o
has_or_lacks s (Apply n) t o h = apply_has s n t o h (comes_to_layout s.world n) refl
has_or_lacks s Trio t o h = has Trio o tt
has_or_lacks s (Block size) t o h = has (Block size) o tt
has_or_lacks s (Bucket name) t o h = has (Bucket name) o tt
has_or_lacks s (Stage n role) t o h = has (Stage n role) o tt
has_or_lacks s (Spread wanted) t o h = has (Spread wanted) o tt
has_or_lacks s (Tick ms) t o h = has (Tick ms) o tt
has_or_lacks s (Skew n ms) t o h = has (Skew n ms) o tt
has_or_lacks s (Put n bucket key size fill) t o h = has (Put n bucket key size fill) o tt
has_or_lacks s (Get n bucket key) t o h = has (Get n bucket key) o tt
has_or_lacks s (Head n bucket key) t o h = has (Head n bucket key) o tt
has_or_lacks s (Delete n bucket key) t o h = has (Delete n bucket key) o tt
has_or_lacks s (Copy n from_bucket from_key bucket key) t o h = has (Copy n from_bucket from_key bucket key) o tt
has_or_lacks s (Keys n bucket prefix) t o h = has (Keys n bucket prefix) o tt
has_or_lacks s (Deliver m) t o h = has (Deliver m) o tt
has_or_lacks s (Lose m) t o h = has (Lose m) o tt
has_or_lacks s (Drain n) t o h = has (Drain n) o tt
has_or_lacks s (Expire q) t o h = has (Expire q) o tt
has_or_lacks s (Restart n) t o h = has (Restart n) o tt
has_or_lacks s (Gossip from to) t o h = has (Gossip from to) o tt
has_or_lacks s (Ack n) t o h = has (Ack n) o tt
has_or_lacks s (Sync n) t o h = has (Sync n) o tt
has_or_lacks s (SyncAck n) t o h = has (SyncAck n) o tt
has_or_lacks s (Clean n) t o h = has (Clean n) o tt
has_or_lacks s (Work n) t o h = has (Work n) o tt
has_or_lacks s (Repair n) t o h = has (Repair n) o tt
has_or_lacks s (Collect n) t o h = has (Collect n) o tt

-- what is given without such a print is computed
given_lawful : (s : State) (t : Turn) (o : Option Print) → IsUnfit s o → IsGiven s t o → IsLawfulAct s (act_of_turn t)
given_lawful s t None unfit h = h
given_lawful s t (Some p) unfit (as_printed so is) = absurd (unfit so)
given_lawful s t (Some p) unfit (as_computed other lawful) = lawful

-- what nothing refuses before a layout is computed comes to it
passes : (x y z : Bool) (a b c d : Effect AnyRow) → (not x && (not y && not z)) ≡ true → cond x a (cond y b (cond z c d)) ≡ d
passes true y z a b c d h = cc
passes false true z a b c d h = cc
passes false false true a b c d h = cc
passes false false false a b c d h = refl

-- a layout's text begins with its size
layout_begins : (roles : List Role) (c : Certified) → layout_text roles c ≡ size_line c.size ++ (redundancy_line c.r ++ (set_lines c.sets.sets ++ cut_lines roles c.cut))
layout_begins roles c =
    append_assoc (size_line c.size ++ redundancy_line c.r) (set_lines c.sets.sets) (cut_lines roles c.cut) ∙ append_assoc (size_line c.size) (redundancy_line c.r) (set_lines c.sets.sets ++ cut_lines roles c.cut)

-- the line of an apply that was accepted with this version, and the line of a size
abbrev pub head_text : Numbered → ℕ → ℕ → List ℕ
head_text e version size = (ok_line e version ++ 10 ∷ []) ++ size_line size

pub head_whole : (e : Numbered) (version size : ℕ) → IsWhole (head_text e version size)
head_whole e version size = both_whole (ok_line e version ++ 10 ∷ []) (size_line size) (line_whole (ok_line e version)) (size_whole size)

ok_free : (e : Numbered) (n version : ℕ) → e.event ≡ Apply n → Free 10 (ok_line e version)
ok_free e n version is =
    let name : Free 10 (word (name_of e.event)) = subst (λ (x : Event). Free 10 (word (name_of x))) (sym is) refl in
    free_both 10 (decimal e.line ++ word (name_of e.event)) (word (codes "ok" ++ number version)) (free_both 10 (decimal e.line) (word (name_of e.event)) (decimal_free 10 e.line (omega arith)) name)
    (free_both 10 (word (codes "ok")) (number version) refl (decimal_free 10 version (omega arith)))

size_is_line : (size : ℕ) → lines_of (size_line size) ≡ size_words size ∷ []
unfolding size_line
size_is_line size = first_line (size_words size) [] (free_both 10 (codes "size") (number size) refl (decimal_free 10 size (omega arith)))

pub head_lines : (e : Numbered) (n version size : ℕ) → e.event ≡ Apply n → lines_of (head_text e version size) ≡ ok_line e version ∷ size_words size ∷ []
head_lines e n version size is =
    ap lines_of (append_assoc (ok_line e version) (10 ∷ []) (size_line size))
    ∙ (first_line (ok_line e version) (size_line size) (ok_free e n version is) ∙ ap (λ ls. ok_line e version ∷ ls) (size_is_line size))

module _ (ps : List Print) where
  -- an apply comes to a layout twice, of one size, and none is printed for what is staged
  pub record Split (s : State) (t : Turn) (a b : List ℕ) : Type 0 where
    pub node : ℕ
    pub is_apply : t.numbered.event ≡ Apply node
    pub version : ℕ
    pub size : ℕ
    pub rest_a : List ℕ
    pub rest_b : List ℕ
    pub a_is : a ≡ head_text t.numbered version size ++ rest_a
    pub b_is : b ≡ head_text t.numbered version size ++ rest_b
    pub unfit : IsUnfit s (print_at ps t.numbered.line)

  -- what comes of two turns
  pub data Meet (s : State) (t u : Turn) : Type 0 where
    one : after s t ≡ after s u → event_text t.numbered (outcome_of s t) ≡ event_text u.numbered (outcome_of s u) → Meet s t u
    split : Split s t (event_text t.numbered (outcome_of s t)) (event_text u.numbered (outcome_of s u)) → Meet s t u

module _ (fix : PrintsFix) (answer : OneAnswer) (ps : List Print) where
  -- with its layout printed, or without any
  by_print : (s : State) (e : Numbered) (c d : Decision) → IsGiven s (turned e c) (print_at ps e.line) → IsGiven s (turned e d) (print_at ps e.line) → HasPrint s e.event (print_at ps e.line) → Meet ps s (turned e c) (turned e d)
  by_print s e c d h k printed =
      let both = fix ps s (turned e c ∷ []) (turned e d ∷ []) refl (h, tt) (k, tt) (printed, tt) in
      one both.0 (sym (append-nil (event_text e (outcome_of s (turned e c)))) ∙ (both.1 ∙ append-nil (event_text e (outcome_of s (turned e d)))))

  module _ (s : State) (line n : ℕ) (comes : comes_to_layout s.world n ≡ true) where
    abbrev version : ℕ
    version = suc (newest_at s.world n)

    abbrev turn_of : Decision → Turn
    turn_of c = turned (record { line = line; event = Apply n }) c

    abbrev text_of : Effect AnyRow → List ℕ
    text_of x = told_text line (codes "apply") x.refused x.words x.tells

    abbrev state_of : Effect AnyRow → State
    state_of x = record s { world = applied s.world x; history = s.history ++ [] }

    chosen_is : (c : Decision) → does any_join words s.world (applies n c) ≡ chosen any_join words layouts trio stage_trio s.world n version c
    chosen_is c =
        let w : World = s.world in
        passes (leb 1 w.applied && not (is_member_at layouts w n)) (leb version w.applied) (leb most_versions w.applied) _ _ _ _ comes

    -- an apply that is accepted prints its version and the size of its layout
    accepted_text : (c : Decision) → event_text (turn_of c).numbered (outcome_of s (turn_of c)) ≡ text_of (chosen any_join words layouts trio stage_trio s.world n version c)
    accepted_text c = ap text_of (chosen_is c)

    apply_meets : (c d : Decision) → IsUnfit s (print_at ps line) → AreOneAnswer c d → Meet ps s (turn_of c) (turn_of d)
    apply_meets (given l a) (given m b) unfit same =
        let e : Numbered = record { line = line; event = Apply n } in
        let own : List ℕ = ok_line e version ++ 10 ∷ [] in
        let rest_a : List ℕ = redundancy_line a.certified.r ++ (set_lines a.certified.sets.sets ++ cut_lines a.roles.list a.certified.cut) in
        let rest_b : List ℕ = redundancy_line b.certified.r ++ (set_lines b.certified.sets.sets ++ cut_lines b.roles.list b.certified.cut) in
        split (record {
          node = n;
          is_apply = refl;
          version = version;
          size = a.certified.size;
          rest_a = rest_a ++ [];
          rest_b = rest_b ++ [];
          a_is = accepted_text (given l a) ∙ regrouped own (layout_text a.roles.list a.certified) (size_line a.certified.size) rest_a (layout_begins a.roles.list a.certified);
          b_is = accepted_text (given m b) ∙ (regrouped own (layout_text b.roles.list b.certified) (size_line b.certified.size) rest_b (layout_begins b.roles.list b.certified)
              ∙ ap (λ z. head_text e version z ++ (rest_b ++ [])) (sym same));
          unfit = unfit;
        })
      where
        regrouped : (own text size rest : List ℕ) → text ≡ size ++ rest → own ++ (text ++ []) ≡ (own ++ size) ++ (rest ++ [])
        regrouped own text size rest is = ap (λ x. own ++ (x ++ [])) is ∙ (ap (λ x. own ++ x) (append_assoc size rest []) ∙ sym (append_assoc own size (rest ++ [])))
    apply_meets (given l a) (none_given q) unfit same = absurd same
    apply_meets (none_given p) (given m b) unfit same = absurd same
    apply_meets (none_given p) (none_given q) unfit same =
        one (ap state_of (chosen_is (none_given p)) ∙ sym (ap state_of (chosen_is (none_given q))))
        (accepted_text (none_given p) ∙ (ap (λ t. (decimal line ++ word (codes "apply") ++ word (codes "refused" ++ word t) ++ 10 ∷ []) ++ []) same ∙ sym (accepted_text (none_given q))))

  -- one event
  meet_event : (s : State) {e : Event} {o : Option Print} → Has s e o → (line : ℕ) (c d : Decision) → print_at ps line ≡ o →
      IsGiven s (turned (record { line = line; event = e }) c) o → IsGiven s (turned (record { line = line; event = e }) d) o →
      Meet ps s (turned (record { line = line; event = e }) c) (turned (record { line = line; event = e }) d)
  meet_event s (has e o printed) line c d is h k =
      let at : Numbered = record { line = line; event = e } in
      by_print s at c d (subst (IsGiven s (turned at c)) (sym is) h) (subst (IsGiven s (turned at d)) (sym is) k) (subst (HasPrint s e) (sym is) printed)
  meet_event s (lacks n o comes unfit) line c d is h k =
      let w : World = s.world in
      let at : Numbered = record { line = line; event = Apply n } in
      let computed : (x : Decision) → IsLawfulAct s (act_of_turn (turned at x)) → IsComputed w.roles w.redundancy (suc (newest_at w n)) x =
      λ x y. subst (λ b. cond b (IsComputed w.roles w.redundancy (suc (newest_at w n)) x) (IsNone x)) comes y.2 in
      apply_meets s line n comes c d (subst (IsUnfit s) (sym is) unfit)
      (answer w.roles w.redundancy (suc (newest_at w n)) c d (computed c (given_lawful s (turned at c) o unfit h)) (computed d (given_lawful s (turned at d) o unfit k)))

  pub meet_turns : (s : State) (t u : Turn) → t.numbered ≡ u.numbered → IsGiven s t (print_at ps t.numbered.line) → IsGiven s u (print_at ps u.numbered.line) → Meet ps s t u
  meet_turns s t u same h k =
      let e : Numbered = t.numbered in
      let k' : IsGiven s (turned e u.choice) (print_at ps e.line) = subst (λ (x : Numbered). IsGiven s (turned x u.choice) (print_at ps x.line)) (sym same) k in
      subst (λ (x : Numbered). Meet ps s t (turned x u.choice)) same
      (meet_event s (has_or_lacks s e.event t (print_at ps e.line) h) e.line t.choice u.choice refl h k')
