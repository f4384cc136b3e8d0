-- What two answers give has no version below a marker that was collected, where both were sent within the hour.
use Rattle.std.specs.Prelude.{◌≡◌, ◌≤◌, ◌+◌, ℕ, Bool, true, false, List, [], ◌∷◌, ◌++◌, Option, Some, None, IsTrue, refl}
use Rattle.std.specs.List.{AllByRecursion}
use Rattle.std.proofs.Common.{ap, sym, subst, ◌∙◌, inl, inr, arith}
use Rattle.std.proofs.lemmas.List.Elements.{recursion_from_All}
use Rattle.crdt_core.specs.Members.{Has}
use Rattle.layout_roles.specs.declared.role.Role.{Role}
use Rattle.table_schema.specs.Words.{Words}
use Rattle.table_schema.specs.Laws.{Same, Laws}
use Rattle.table_model.specs.Rows.{rows}
use Rattle.quorum_model.specs.declared.range.RangeAnswer.{RangeAnswer}
use Rattle.quorum_model.specs.Window.{window}
use Rattle.cluster_machine.specs.Layouts.{Layouts}
use Rattle.cluster_machine.specs.Node.{Packet, Reading, read, scanned, Question, Ended}
use Rattle.cluster_machine.specs.Receives.{most_rows}
use Rattle.cluster_machine.specs.World.{Sent, numbered, empty}
use Rattle.cluster_machine.specs.Run.{Move, IsLayout, IsRun, does, run}
use Rattle.machine_origins.proofs.Good.{IsFound, IsObject, Rules, any_rules, found_joined, rows_good, range_good, window_has}
use Rattle.machine_origins.proofs.Sound.{IsAnswer}
use Rattle.machine_collects.specs.Versions.{Version, Versions, VersionLaws, hour}
use Rattle.machine_collects.specs.Prompt.{EndInTime, IsPrompt, moments_over}
use Rattle.machine_collects.specs.Carried.{Carries}
use Rattle.machine_collects.proofs.Leads.{all_has}
use Rattle.machine_collects.proofs.Laws.{ends_at, message_clean}
use Rattle.collect_reads.specs.Clean.{IsNotBelow, GaveNotBelow}
use Rattle.collect_reads.proofs.Came.{AnyRow, AnyBlock, CameAnswer, CameRows, HasEnded, Gives}
use Rattle.collect_reads.proofs.Stepping.{numbered_some, IsSinceAny, answered, from_empty, step_good}

module _ {R : Type 0} {join : R → R → R} {s : Words R} {v : Versions R} (laws : Laws join s) (versions : VersionLaws join s v) (key : List ℕ) (u : Version) where
  abbrev Clean : R → Type 0
  Clean = IsNotBelow s v key u

  clean_joined : (a b : R) → Same s a b → Clean a → Clean b → Clean (join a b)
  clean_joined a b same p q table key_is = by_below (v.below (join a b) u) refl
    where
      one : s.table a ≡ 1
      one = sym (laws.joined_table a b same) ∙ table

      its : s.key a ≡ key
      its = sym (laws.joined_key a b same) ∙ key_is

      none : (r : R) → v.below r u ≡ true → v.below r u ≡ false → true ≡ false
      none r e f = sym e ∙ f

      by_below : (c : Bool) → v.below (join a b) u ≡ c → c ≡ false
      by_below false e = refl
      by_below true e = elim (versions.joined_below a b u same e) [
        | inl below ↦ none a below (p one its)
        | inr below ↦ none b below (q (sym same.table ∙ one) (sym same.key ∙ its))
      ]

  -- merges hand it on, and call for no object rows
  pub clean_rules : Rules join s Clean
  clean_rules = record { laws = laws; joined = clean_joined; called_for = λ old r row same p q c table key_is. absurd (versions.triggered_no_object old (join old r) row c table) }

  -- ---- messages that were sent within the hour

  module _ {L : Type 0} (messages : List (Sent R L)) (moments : List ℕ) (time : ℕ) (since : AllByRecursion (λ (x : Sent R L). IsSinceAny moments x.moment (answered x.packet)) messages)
      (clean : (x : Sent R L) (r : R) → Has messages x → time ≤ x.moment + hour → Carries s x.packet r → IsTrue (s.is_proper r) → Clean r) where
    -- a message that answers this request was sent within the hour
    is_live : (x : Sent R L) (request : ℕ) → Has messages x → 1 ≤ request → answered x.packet ≡ Some request → ((began : ℕ) → numbered moments request ≡ Some began → time ≤ began + hour) → time ≤ x.moment + hour
    is_live x request there some e soon =
        let i = subst (IsSinceAny moments x.moment) e (all_has (λ (x : Sent R L). IsSinceAny moments x.moment (answered x.packet)) messages x since there) in
        let at = numbered_some moments request some i.begun in
        let low = i.since at.0 at.1 in
        let high = soon at.0 at.1 in
        omega (arith, low, high)

    module _ (request : ℕ) (some : 1 ≤ request) (soon : (began : ℕ) → numbered moments request ≡ Some began → time ≤ began + hour) where
      row_clean : (table : ℕ) (its : List ℕ) (o : Option R) → CameAnswer messages request o → IsFound s AnyRow table its o → IsFound s Clean table its o
      row_clean table its None c f = tt
      row_clean table its (Some r) c f =
          let live = is_live c.message request c.there some (ap answered c.is) soon in
          let P : Packet R L → Type 0 = λ p. Carries s p r in
          record { good = record { proper = f.good.proper; has = clean c.message r c.there live (subst P (sym c.is) refl) f.good.proper }; table_is = f.table_is; key_is = f.key_is }

      rows_clean : (rs : List R) → ((r : R) → Has rs r → IsTrue (s.is_proper r) → Clean r) → AllByRecursion (IsObject s AnyRow) rs → AllByRecursion (IsObject s Clean) rs
      rows_clean [] h a = tt
      rows_clean (r ∷ rs) h a = (record { good = record { proper = a.0.good.proper; has = h r (inl refl) a.0.good.proper }; table_is = a.0.table_is; key_is = a.0.key_is }, rows_clean rs (λ q i. h q (inr i)) a.1)

      -- an answer's rows are object rows
      objects : (position prefix after : List ℕ) (found : RangeAnswer R) → IsAnswer join s AnyRow AnyBlock position prefix after found → AllByRecursion (IsObject s AnyRow) found.rows
      objects position prefix after found a =
          subst (λ (f : RangeAnswer R). AllByRecursion (IsObject s AnyRow) f.rows) (sym a.found_is) (range_good (any_rules laws) (position ++ prefix) (position ++ after) most_rows (rows join s a.contents) (rows_good (any_rules laws) a.contents a.good))

      answer_clean : (position prefix after : List ℕ) (found : RangeAnswer R) → CameRows messages request found → IsAnswer join s AnyRow AnyBlock position prefix after found → AllByRecursion (IsObject s Clean) found.rows
      answer_clean position prefix after found c a =
          let live = is_live c.message request c.there some (ap answered c.is) soon in
          rows_clean found.rows (λ r i proper. (let P : Packet R L → Type 0 = λ p. Carries s p r in clean c.message r c.there live (subst P (sym c.is) i) proper)) (objects position prefix after found a)

    module _ (ends : List (Ended R)) (in_time : EndInTime moments time ends) where
      soon_of : (request : ℕ) → HasEnded messages join s ends request → (began : ℕ) → numbered moments request ≡ Some began → time ≤ began + hour
      soon_of request h = (subst (EndInTime moments time) h.is in_time).0

      value_clean : (q : Question R) (value : Option R) → IsFound s Clean q.table q.key value → GaveNotBelow s v key u (read q value)
      value_clean q None f = tt
      value_clean q (Some r) f = f.good.has

      gave_clean : (reading : Reading R) → Gives messages join s ends reading → GaveNotBelow s v key u reading
      gave_clean (read q value) i =
          let soon = soon_of i.request i.ended in
          let one = row_clean i.request i.some soon q.table q.key i.two.0 i.came.0 i.found.0 in
          let two = row_clean i.request i.some soon q.table q.key i.two.1 i.came.1 i.found.1 in
          value_clean q value (subst (IsFound s Clean q.table q.key) (sym i.is) (found_joined clean_rules q.table q.key i.two.0 i.two.1 one two))
      gave_clean (scanned q given end) i =
          let soon = soon_of i.request i.ended in
          let one = answer_clean i.request i.some soon q.position q.prefix q.after i.two.0 i.came.0 i.found.0 in
          let two = answer_clean i.request i.some soon q.position q.prefix q.after i.two.1 i.came.1 i.found.1 in
          subst (AllByRecursion Clean) (sym i.is) (recursion_from_All Clean (window join s i.two).rows (window_has clean_rules i.two one two))

      pub all_clean : (readings : List (Reading R)) → AllByRecursion (Gives messages join s ends) readings → AllByRecursion (GaveNotBelow s v key u) readings
      all_clean [] a = tt
      all_clean (r ∷ readings) a = (gave_clean r a.0, all_clean readings a.1)

module _ {R L A C : Type 0} (join : R → R → R) (s : Words R) (laws : Laws join s) (v : Versions R) (versions : VersionLaws join s v) (k : Layouts L) (trio : L) (trio_roles : List Role → List Role) (partitions : ℕ) (some : 1 ≤ partitions) (is_trio : IsLayout k partitions trio) (is_first : k.reading.version trio ≡ 1) where
  pub reads_clean : (before later : List (Move R L A C)) (move : Move R L A C) → IsRun join s k trio trio_roles partitions empty (before ++ later) → IsPrompt join s v k trio trio_roles (before ++ later) →
      EndInTime (moments_over join s k trio trio_roles [] empty (before ++ later)) (run join s k trio trio_roles empty (before ++ later)).time (does join s k trio trio_roles (run join s k trio trio_roles empty (before ++ later)) move).ends →
      (r : R) (u : Version) → Has (run join s k trio trio_roles empty before).collected r → s.marker r ≡ Some u →
      AllByRecursion (GaveNotBelow s v (s.key r) u) (does join s k trio trio_roles (run join s k trio trio_roles empty (before ++ later)) move).reads
  reads_clean before later move is prompt in_time r u there marked =
      let moves = before ++ later in
      let w = run join s k trio trio_roles empty moves in
      let e = does join s k trio trio_roles w move in
      let at = from_empty laws k trio trio_roles partitions moves is in
      let good = step_good join s k trio trio_roles at.stands.asks w at.stands.sound at.held move.step move.choice in
      let end = ends_at join s laws v versions k trio trio_roles partitions some is_trio is_first before later is prompt r u there marked in
      all_clean laws versions (s.key r) u w.messages (moments_over join s k trio trio_roles [] empty moves) w.time at.sent
      (λ x q sent live carries proper table its. message_clean join s laws v versions k partitions some (s.key r) w end.follows u end.past x q sent live carries (record { proper = proper; table = table; key_is = its }))
      e.ends in_time e.reads good.reads
