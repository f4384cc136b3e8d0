-- What the lines of turns say, those of layouts too, is heard as the records that they give.
use Rattle.std.proofs.Common.{◌≡◌, ℕ, zero, suc, Option, Some, None, List, [], ◌∷◌, ◌++◌, map, flat_map, length, refl, ap, sym, ◌∙◌}
use Rattle.std.specs.Option.{option_and_then}
use Rattle.std.specs.List.{AllByRecursion, range_with_len}
use Rattle.crdt_rows.specs.AnyRow.{any_join}
use Rattle.object_schema.specs.Schema.{words}
use Rattle.cluster_machine.specs.Layouts.{layouts}
use Rattle.cluster_machine.specs.World.{NodeLine, node_line}
use Rattle.std.proofs.lemmas.List.{append_assoc, append-nil}
use Rattle.cluster_machine.specs.declared.applied.Applied.{Applied}
use Rattle.cluster_machine.specs.declared.line.Line.{Line}
use Rattle.cluster_machine.specs.declared.line.Line.TheVariants as line
use Rattle.cluster_machine.specs.declared.step.Words.{Words}
use Rattle.cluster_machine.specs.declared.step.Words.TheVariants.{Empty, One, Idle, Two}
use Rattle.cluster_machine.specs.declared.step.Refusal.{Refusal}
use Rattle.cluster_machine.specs.Choices.{Decision}
use Rattle.layout_roles.specs.declared.cut.Cut.{Cut}
use Rattle.history_model.specs.declared.record.Kind.{Kind}
use Rattle.history_model.specs.declared.record.Record.{Record}
use Rattle.history_model.specs.declared.record.Record.TheVariants.{Began}
use Rattle.flow_model.specs.declared.order.Order.{Order}
use Rattle.flow_model.specs.declared.order.Order.TheVariants as order
use Rattle.store_model.specs.Orders.{kind_of, name_of}
use Rattle.store_model.specs.declared.event.Event.{Event}
use Rattle.store_model.specs.declared.event.Event.TheVariants as event
use Rattle.store_model.specs.declared.event.Numbered.{Numbered}
use Rattle.store_model.specs.Run.{World, State, Outcome, start}
use Rattle.store_model.specs.Events.{object_bytes, Turn, act_of, act_of_turn, outcome_of, run}
use Rattle.audit_model.specs.declared.said.Said.{Said}
use Rattle.audit_model.specs.Heard.{Heard, Asking, nothing_heard, heard, hears, hears_all, quiet, asking_of, accepts, tells}
use Rattle.audit_laws.specs.Account.{record_told, records_told, blunt, began_record, began_of, NoneGivenUp}
use Rattle.audit_laws.specs.Told.{told_of, AreHeard, event_said, asked_by, IsAnswered, asked_after, CanBeHeard, TurnsCanBeHeard, requests_after}
use Rattle.audit_laws.proofs.Account.{act_adds}
use Rattle.audit_laws.proofs.GivenUp.{event_goes}
use Rattle.audit_laws.proofs.Hearing.{hears_append, line_heard, outer}
use Rattle.audit_sheets.specs.Sheets.{sheet_said}
use Rattle.audit_accounts.specs.Saying.{says_all, event_says_all, turns_say_all, shown_said, nodes_said, tail_said, transcript_says}

-- ---- the lines of layouts

-- no line of a layout adds to what was heard
abbrev pub SheetsAreQuiet : Type 0
SheetsAreQuiet = (events : List Numbered) (h : Heard) (shown : Applied) → AllByRecursion (λ s. heard events h s ≡ Some h) (sheet_said shown)

-- lines that are heard as nothing
unheard : (events : List Numbered) (asked : List (ℕ × Kind)) (history : List Record) (saids : List Said) →
    AllByRecursion (λ s. hears events (quiet asked history) s ≡ Some (quiet asked history)) saids → hears_all events (quiet asked history) saids ≡ Some (quiet asked history)
unheard events asked history [] h = refl
unheard events asked history (s ∷ ss) h = rw (h.0) (unheard events asked history ss h.1)

-- ---- lines

module _ (silent : SheetsAreQuiet) (events : List Numbered) where
  line_adds : (asked : List (ℕ × Kind)) (history : List Record) (l : Line Applied) → AreHeard asked (l ∷ []) →
      hears_all events (quiet asked history) (says_all l) ≡ Some (quiet asked (history ++ record_told l))
  line_adds asked history (line.Layout shown) ok = unheard events asked history (sheet_said shown) (silent events (quiet asked history) shown) ∙ ap (λ h. Some (quiet asked h)) (sym (append-nil history))
  line_adds asked history (line.Got m) ok = line_heard events asked history (line.Got m) ok.0
  line_adds asked history (line.Sent m k a b) ok = line_heard events asked history (line.Sent m k a b) ok.0
  line_adds asked history (line.Synced n v) ok = line_heard events asked history (line.Synced n v) ok.0
  line_adds asked history (line.Dropped n ts id) ok = line_heard events asked history (line.Dropped n ts id) ok.0
  line_adds asked history (line.Done q w version size md5) ok = line_heard events asked history (line.Done q w version size md5) ok.0
  line_adds asked history (line.Listed q keys) ok = line_heard events asked history (line.Listed q keys) ok.0
  line_adds asked history (line.Ended q w) ok = line_heard events asked history (line.Ended q w) ok.0

  lines_add : (asked : List (ℕ × Kind)) (history : List Record) (ls : List (Line Applied)) → AreHeard asked ls →
      hears_all events (quiet asked history) (flat_map says_all ls) ≡ Some (quiet asked (history ++ records_told ls))
  lines_add asked history [] ok = ap (λ h. Some (quiet asked h)) (sym (append-nil history))
  lines_add asked history (l ∷ ls) ok =
      hears_append events (quiet asked history) (quiet asked (history ++ record_told l)) (says_all l) (flat_map says_all ls) (line_adds asked history l (ok.0, tt))
      ∙ (lines_add asked (history ++ record_told l) ls ok.1 ∙ ap (λ h. Some (quiet asked h)) (append_assoc history (record_told l) (records_told ls)))

-- ---- events' own lines

-- the record of a request that began with this answer
abbrev began_by : Option Asking → Words → List Record
began_by (Some a) (One q) = Began q a.node a.kind a.bucket a.key ∷ []
began_by a other = []

order_began : (n : ℕ) (x : Order) (answer : Words) → began_by (Some (record { node = n; kind = kind_of x; bucket = (name_of x).bucket; key = (name_of x).key })) answer ≡ began_record n x answer
order_began n x Empty = refl
order_began n x (One q) = refl
order_began n x (Idle read least) = refl
order_began n x (Two a b) = refl

event_began : (e : Event) (choice : Decision) (o : Outcome) → began_by (asking_of e) o.words ≡ began_of (act_of e choice) o
event_began event.Trio choice o = refl
event_began (event.Block size) choice o = refl
event_began (event.Bucket name) choice o = refl
event_began (event.Role n role) choice o = refl
event_began (event.Redundancy wanted) choice o = refl
event_began (event.Apply n) choice o = refl
event_began (event.Tick ms) choice o = refl
event_began (event.Skew n ms) choice o = refl
event_began (event.Put n bucket key size fill) choice o = order_began n (order.Put bucket key (object_bytes size fill) []) o.words
event_began (event.Get n bucket key) choice o = order_began n (order.Get bucket key) o.words
event_began (event.Head n bucket key) choice o = order_began n (order.Head bucket key) o.words
event_began (event.Delete n bucket key) choice o = order_began n (order.Delete bucket key) o.words
event_began (event.Copy n from_bucket from_key bucket key) choice o = order_began n (order.Copy from_bucket from_key bucket key None) o.words
event_began (event.List n bucket prefix) choice o = order_began n (order.List bucket prefix) o.words
event_began (event.Deliver m) choice o = refl
event_began (event.Lose m) choice o = refl
event_began (event.Drain n) choice o = refl
event_began (event.Expire q) choice o = refl
event_began (event.Restart n) choice o = refl
event_began (event.Gossip from to) choice o = refl
event_began (event.Ack n) choice o = refl
event_began (event.Sync n) choice o = refl
event_began (event.SyncAck n) choice o = refl
event_began (event.Clean n) choice o = refl
event_began (event.Work n) choice o = refl
event_began (event.Repair n) choice o = refl
event_began (event.Collect n) choice o = refl

-- what an event's own line is heard as, by what it asks
abbrev tells_by : Event → Option Asking → Option (Refusal Cut) → Words → Heard → Option Heard
tells_by e a None answer h = accepts h e a answer
tells_by e a (Some r) answer h = Some h

told_by : (e : Event) (r : Option (Refusal Cut)) (words : Words) (h : Heard) → tells h (Some e) (told_of r words) ≡ tells_by e (asking_of e) r words h
told_by e None answer h = refl
told_by e (Some r) answer h = refl

no_more : (asked : List (ℕ × Kind)) (history : List Record) → Some (quiet asked history) ≡ Some (quiet asked (history ++ []))
no_more asked history = ap (λ h. Some (quiet asked h)) (sym (append-nil history))

own_adds : (e : Event) (a : Option Asking) (r : Option (Refusal Cut)) (words : Words) (asked : List (ℕ × Kind)) (history : List Record) → IsAnswered e a r words →
    tells_by e a r words (quiet asked history) ≡ Some (quiet (asked_by a r words ++ asked) (history ++ began_by a words))
own_adds e None (Some r) answer asked history ok = no_more asked history
own_adds e (Some a) (Some r) answer asked history ok = rw (ok) (no_more asked history)
own_adds e None None answer asked history ok = rw (ok) (no_more asked history)
own_adds e (Some a) None Empty asked history ok = absurd ok
own_adds e (Some a) None (One q) asked history ok = refl
own_adds e (Some a) None (Idle read least) asked history ok = absurd ok
own_adds e (Some a) None (Two x y) asked history ok = absurd ok

-- ---- turns

module _ (silent : SheetsAreQuiet) (events : List Numbered) where
  event_adds : (asked : List (ℕ × Kind)) (history : List Record) (e : Numbered) (choice : Decision) (o : Outcome) → CanBeHeard events asked e o →
      hears_all events (quiet asked history) (event_says_all e o) ≡ Some (quiet (asked_after asked e.event o) (history ++ (began_of (act_of e.event choice) o ++ records_told o.lines)))
  event_adds asked history e choice o ok =
      let now : List Record = history ++ began_of (act_of e.event choice) o in
      let own : hears events (quiet asked history) (event_said e o) ≡ Some (quiet (asked_after asked e.event o) now) =
      ap (λ x. tells (quiet asked history) x (told_of o.refused o.words)) ok.named
      ∙ (told_by e.event o.refused o.words (quiet asked history)
      ∙ (own_adds e.event (asking_of e.event) o.refused o.words asked history ok.answered ∙ ap (λ rs. Some (quiet (asked_after asked e.event o) (history ++ rs))) (event_began e.event choice o))) in
      ap (option_and_then (λ next. hears_all events next (flat_map says_all o.lines))) own
      ∙ (lines_add silent events (asked_after asked e.event o) now o.lines ok.lines ∙ ap (λ h. Some (quiet (asked_after asked e.event o) h)) (append_assoc history (began_of (act_of e.event choice) o) (records_told o.lines)))

  -- the account that the lines of turns give is their history, but for the identifiers of superseded ends
  pub turns_add : (asked : List (ℕ × Kind)) (s : State) (ts : List Turn) → NoneGivenUp s.asked → TurnsCanBeHeard events asked s ts →
      hears_all events (quiet asked (map blunt s.history)) (turns_say_all s ts) ≡ Some (quiet (requests_after asked s ts) (map blunt (run s ts).history))
  turns_add asked s [] so ok = refl
  turns_add asked s (t ∷ ts) so ok =
      let o : Outcome = outcome_of s t in
      let next : List (ℕ × Kind) = asked_after asked t.numbered.event o in
      hears_append events (quiet asked (map blunt s.history)) (quiet next (map blunt o.state.history)) (event_says_all t.numbered o) (turns_say_all o.state ts)
      (event_adds asked (map blunt s.history) t.numbered t.choice o ok.0 ∙ ap (λ h. Some (quiet next h)) (sym (act_adds s (act_of_turn t) (outer t.numbered.event t.choice) so)))
      ∙ turns_add next o.state ts (event_goes s t.numbered.event t.choice so) ok.1

-- ---- what a transcript ends with

tail_line : (events : List Numbered) (asked : List (ℕ × Kind)) (history : List Record) (o : Option NodeLine) → AllByRecursion (λ s. hears events (quiet asked history) s ≡ Some (quiet asked history)) (shown_said o)
tail_line events asked history None = tt
tail_line events asked history (Some n) = (refl, tt)

both_all : (P : Said → Type 0) (a b : List Said) → AllByRecursion P a → AllByRecursion P b → AllByRecursion P (a ++ b)
both_all P [] b h k = k
both_all P (s ∷ ss) b h k = (h.0, both_all P ss b h.1 k)

tail_lines : (events : List Numbered) (asked : List (ℕ × Kind)) (history : List Record) (w : World) (ns : List ℕ) →
    AllByRecursion (λ s. hears events (quiet asked history) s ≡ Some (quiet asked history)) (flat_map (λ n. shown_said (node_line any_join words layouts w n)) ns)
tail_lines events asked history w [] = tt
tail_lines events asked history w (n ∷ ns) =
    both_all (λ s. hears events (quiet asked history) s ≡ Some (quiet asked history)) (shown_said (node_line any_join words layouts w n)) _ (tail_line events asked history (node_line any_join words layouts w n)) (tail_lines events asked history w ns)

tail_adds : (events : List Numbered) (asked : List (ℕ × Kind)) (history : List Record) (n : ℕ) (s : State) → hears_all events (quiet asked history) (tail_said n s) ≡ Some (quiet asked history)
tail_adds events asked history n s = unheard events asked history (tail_said n s) (both_all (λ x. hears events (quiet asked history) x ≡ Some (quiet asked history)) (nodes_said s.world) _ (tail_lines events asked history s.world (range_with_len 1 16)) (refl, tt))

-- at the start there is no request
none_at_start : NoneGivenUp start.asked
none_at_start zero a flow is flow_is = cc
none_at_start (suc q) a flow is flow_is = cc

-- what a whole transcript says is heard as the history of its run, but for the identifiers of superseded ends
pub transcript_adds : SheetsAreQuiet → (events : List Numbered) (ts : List Turn) → TurnsCanBeHeard events [] start ts →
    hears_all events nothing_heard (transcript_says ts) ≡ Some (quiet (requests_after [] start ts) (map blunt (run start ts).history))
transcript_adds silent events ts ok =
    let last : State = run start ts in
    hears_append events nothing_heard (quiet (requests_after [] start ts) (map blunt last.history)) (turns_say_all start ts) (tail_said (length ts) last) (turns_add silent events [] start ts none_at_start ok)
    ∙ tail_adds events (requests_after [] start ts) (map blunt last.history) (length ts) last
