-- The lines of a run are heard as the records that they give.
use Rattle.std.proofs.Common.{◌≡◌, ℕ, suc, Option, Some, None, List, [], ◌∷◌, ◌++◌, map, flat_map, length, refl, ap, sym, ◌∙◌, arith, ◌-◌}
use Rattle.std.specs.Option.{option_and_then}
use Rattle.std.proofs.lemmas.List.{append_assoc, append-nil}
use Rattle.cluster_machine.specs.declared.applied.Applied.{Applied}
use Rattle.cluster_machine.specs.declared.line.Line.{Line}
use Rattle.cluster_machine.specs.declared.line.Line.TheVariants as line
use Rattle.crdt_rows.specs.declared.version.Version.{Version}
use Rattle.history_model.specs.declared.record.Kind.{Kind}
use Rattle.history_model.specs.declared.record.Answer.TheVariants as answer
use Rattle.history_model.specs.declared.record.Record.{Record}
use Rattle.history_model.specs.declared.record.Record.TheVariants.{Finished}
use Rattle.store_model.specs.declared.event.Numbered.{Numbered}
use Rattle.layout_roles.specs.declared.cut.Cut.{Cut}
use Rattle.cluster_machine.specs.declared.step.Refusal.{Refusal}
use Rattle.cluster_machine.specs.declared.step.Words.{Words}
use Rattle.cluster_machine.specs.declared.step.Words.TheVariants.{Empty, One, Idle, Two}
use Rattle.cluster_machine.specs.Choices.{Decision}
use Rattle.store_model.specs.declared.event.Event.{Event}
use Rattle.store_model.specs.declared.event.Event.TheVariants as event
use Rattle.store_model.specs.Run.{State, Outcome}
use Rattle.store_model.specs.Events.{Turn, act_of, act_of_turn, outcome_of, run}
use Rattle.audit_model.specs.declared.said.Said.{Said}
use Rattle.audit_model.specs.Heard.{Heard, hears, hears_all, quiet, comes, asking_of, tells}
use Rattle.audit_laws.proofs.Account.{act_adds}
use Rattle.audit_laws.proofs.GivenUp.{event_goes}
use Rattle.audit_laws.specs.Account.{key_version, record_told, records_told, blunt, began_of, IsOuterAct, NoneGivenUp}
use Rattle.audit_laws.specs.Told.{key_said, saids_of, told_of, IsHeard, AreHeard, event_said, event_saids, asked_by, IsAnswered, asked_after, CanBeHeard, TurnsCanBeHeard, turns_say, requests_after}

the_same : (events : List Numbered) (h next : Heard) (b : List Said) → Some h ≡ Some next → hears_all events h b ≡ hears_all events next b
the_same events h next b e = ap (λ o. elim o as (λ x. Option Heard) [ None ↦ None | Some n ↦ hears_all events n b ]) e

then_same : (F G : Heard → Option Heard) (o R : Option Heard) (next : Heard) → ((n : Heard) → F n ≡ Some next → G n ≡ R) → option_and_then F o ≡ Some next → option_and_then G o ≡ R
then_same F G None R next each e = cc
then_same F G (Some n) R next each e = each n e

-- one after the other
pub hears_append : (events : List Numbered) (h next : Heard) (a b : List Said) → hears_all events h a ≡ Some next → hears_all events h (a ++ b) ≡ hears_all events next b
hears_append events h next [] b e = the_same events h next b e
hears_append events h next (s ∷ a) b e = then_same (λ n. hears_all events n a) (λ n. hears_all events n (a ++ b)) (hears events h s) (hears_all events next b) next (λ n. hears_append events n next a b) e

less_one : (n : ℕ) → suc n - 1 ≡ n
less_one n = omega (arith)

-- the keys of a list, the last of which ends it
keys_heard : (events : List Numbered) (asked : List (ℕ × Kind)) (history : List Record) (q : ℕ) (before : List (List ℕ × Version)) (k : List ℕ × ℕ × ℕ × ℕ) (ks : List (List ℕ × ℕ × ℕ × ℕ)) →
    hears_all events (record { asked = asked; history = history; listing = Some (record { request = q; left = suc (length ks); keys = before }) }) (map key_said (k ∷ ks))
    ≡ Some (quiet asked (history ++ Finished q (answer.Listed (before ++ map key_version (k ∷ ks))) ∷ []))
keys_heard events asked history q before k [] = refl
keys_heard events asked history q before k (l ∷ ks) =
    ap
    (λ left. hears_all
    events
    (comes (record { asked = asked; history = history; listing = Some (record { request = q; left = suc (length (l ∷ ks)); keys = before }) }) (record { request = q; left = suc (length (l ∷ ks)); keys = before }) left (before ++ key_version k ∷ []))
    (map key_said (l ∷ ks)))
    (less_one (suc (length ks)))
    ∙ (keys_heard events asked history q (before ++ key_version k ∷ []) l ks
    ∙ ap (λ keys. Some (quiet asked (history ++ Finished q (answer.Listed keys) ∷ []))) (append_assoc before (key_version k ∷ []) (map key_version (l ∷ ks))))

-- a line adds the record that it gives
pub line_heard : (events : List Numbered) (asked : List (ℕ × Kind)) (history : List Record) (l : Line Applied) → IsHeard asked l →
    hears_all events (quiet asked history) (saids_of l) ≡ Some (quiet asked (history ++ record_told l))
line_heard events asked history (line.Layout shown) ok = ap (λ h. Some (quiet asked h)) (sym (append-nil history))
line_heard events asked history (line.Got m) ok = ap (λ h. Some (quiet asked h)) (sym (append-nil history))
line_heard events asked history (line.Sent m k a b) ok = ap (λ h. Some (quiet asked h)) (sym (append-nil history))
line_heard events asked history (line.Synced n v) ok = ap (λ h. Some (quiet asked h)) (sym (append-nil history))
line_heard events asked history (line.Dropped n ts id) ok = ap (λ h. Some (quiet asked h)) (sym (append-nil history))
line_heard events asked history (line.Done q w (Some v) size md5) ok = rw (ok.1.0, ok.1.1) refl
line_heard events asked history (line.Done q w None size md5) ok = rw (ok.1.0, ok.1.1) refl
line_heard events asked history (line.Listed q []) ok = rw (ok) refl
line_heard events asked history (line.Listed q (k ∷ ks)) ok = rw (ok) (keys_heard events asked history q [] k ks)
line_heard events asked history (line.Ended q w) ok = rw (ok.1) refl

-- so do lines
pub lines_heard : (events : List Numbered) (asked : List (ℕ × Kind)) (history : List Record) (ls : List (Line Applied)) → AreHeard asked ls →
    hears_all events (quiet asked history) (flat_map saids_of ls) ≡ Some (quiet asked (history ++ records_told ls))
lines_heard events asked history [] ok = ap (λ h. Some (quiet asked h)) (sym (append-nil history))
lines_heard events asked history (l ∷ ls) ok =
    hears_append events (quiet asked history) (quiet asked (history ++ record_told l)) (saids_of l) (flat_map saids_of ls) (line_heard events asked history l ok.0)
    ∙ (lines_heard events asked (history ++ record_told l) ls ok.1
    ∙ ap (λ h. Some (quiet asked h)) (append_assoc history (record_told l) (records_told ls)))

-- ---- events

no_more : (asked : List (ℕ × Kind)) (history : List Record) → Some (quiet asked history) ≡ Some (quiet asked (history ++ []))
no_more asked history = ap (λ h. Some (quiet asked h)) (sym (append-nil history))

refused_heard : (e : Event) (choice : Decision) (asked : List (ℕ × Kind)) (history : List Record) (o : Outcome) (r : Refusal Cut) →
    tells (quiet asked history) (Some e) (told_of (Some r) Empty) ≡ Some (quiet (asked_by (asking_of e) (Some r) Empty ++ asked) (history ++ began_of (act_of e choice) (record o { refused = Some r; words = Empty })))
refused_heard event.Trio choice asked history o r = no_more asked history
refused_heard (event.Block size) choice asked history o r = no_more asked history
refused_heard (event.Bucket name) choice asked history o r = no_more asked history
refused_heard (event.Role n role) choice asked history o r = no_more asked history
refused_heard (event.Redundancy wanted) choice asked history o r = no_more asked history
refused_heard (event.Apply n) choice asked history o r = no_more asked history
refused_heard (event.Tick ms) choice asked history o r = no_more asked history
refused_heard (event.Skew n ms) choice asked history o r = no_more asked history
refused_heard (event.Put n bucket key size fill) choice asked history o r = no_more asked history
refused_heard (event.Get n bucket key) choice asked history o r = no_more asked history
refused_heard (event.Head n bucket key) choice asked history o r = no_more asked history
refused_heard (event.Delete n bucket key) choice asked history o r = no_more asked history
refused_heard (event.Copy n from_bucket from_key bucket key) choice asked history o r = no_more asked history
refused_heard (event.List n bucket prefix) choice asked history o r = no_more asked history
refused_heard (event.Deliver m) choice asked history o r = no_more asked history
refused_heard (event.Lose m) choice asked history o r = no_more asked history
refused_heard (event.Drain n) choice asked history o r = no_more asked history
refused_heard (event.Expire q) choice asked history o r = no_more asked history
refused_heard (event.Restart n) choice asked history o r = no_more asked history
refused_heard (event.Gossip from to) choice asked history o r = no_more asked history
refused_heard (event.Ack n) choice asked history o r = no_more asked history
refused_heard (event.Sync n) choice asked history o r = no_more asked history
refused_heard (event.SyncAck n) choice asked history o r = no_more asked history
refused_heard (event.Clean n) choice asked history o r = no_more asked history
refused_heard (event.Work n) choice asked history o r = no_more asked history
refused_heard (event.Repair n) choice asked history o r = no_more asked history
refused_heard (event.Collect n) choice asked history o r = no_more asked history

accepted_heard : (e : Event) (choice : Decision) (asked : List (ℕ × Kind)) (history : List Record) (o : Outcome) (words : Words) → IsAnswered e (asking_of e) None words →
    tells (quiet asked history) (Some e) (told_of None words) ≡ Some (quiet (asked_by (asking_of e) None words ++ asked) (history ++ began_of (act_of e choice) (record o { refused = None; words = words })))
accepted_heard event.Trio choice asked history o words ok = rw (ok) (no_more asked history)
accepted_heard (event.Block size) choice asked history o words ok = rw (ok) (no_more asked history)
accepted_heard (event.Bucket name) choice asked history o words ok = rw (ok) (no_more asked history)
accepted_heard (event.Role n role) choice asked history o words ok = rw (ok) (no_more asked history)
accepted_heard (event.Redundancy wanted) choice asked history o words ok = rw (ok) (no_more asked history)
accepted_heard (event.Apply n) choice asked history o words ok = rw (ok) (no_more asked history)
accepted_heard (event.Tick ms) choice asked history o words ok = rw (ok) (no_more asked history)
accepted_heard (event.Skew n ms) choice asked history o words ok = rw (ok) (no_more asked history)
accepted_heard (event.Put n bucket key size fill) choice asked history o Empty ok = absurd ok
accepted_heard (event.Put n bucket key size fill) choice asked history o (One q) ok = refl
accepted_heard (event.Put n bucket key size fill) choice asked history o (Idle read least) ok = absurd ok
accepted_heard (event.Put n bucket key size fill) choice asked history o (Two a b) ok = absurd ok
accepted_heard (event.Get n bucket key) choice asked history o Empty ok = absurd ok
accepted_heard (event.Get n bucket key) choice asked history o (One q) ok = refl
accepted_heard (event.Get n bucket key) choice asked history o (Idle read least) ok = absurd ok
accepted_heard (event.Get n bucket key) choice asked history o (Two a b) ok = absurd ok
accepted_heard (event.Head n bucket key) choice asked history o Empty ok = absurd ok
accepted_heard (event.Head n bucket key) choice asked history o (One q) ok = refl
accepted_heard (event.Head n bucket key) choice asked history o (Idle read least) ok = absurd ok
accepted_heard (event.Head n bucket key) choice asked history o (Two a b) ok = absurd ok
accepted_heard (event.Delete n bucket key) choice asked history o Empty ok = absurd ok
accepted_heard (event.Delete n bucket key) choice asked history o (One q) ok = refl
accepted_heard (event.Delete n bucket key) choice asked history o (Idle read least) ok = absurd ok
accepted_heard (event.Delete n bucket key) choice asked history o (Two a b) ok = absurd ok
accepted_heard (event.Copy n from_bucket from_key bucket key) choice asked history o Empty ok = absurd ok
accepted_heard (event.Copy n from_bucket from_key bucket key) choice asked history o (One q) ok = refl
accepted_heard (event.Copy n from_bucket from_key bucket key) choice asked history o (Idle read least) ok = absurd ok
accepted_heard (event.Copy n from_bucket from_key bucket key) choice asked history o (Two a b) ok = absurd ok
accepted_heard (event.List n bucket prefix) choice asked history o Empty ok = absurd ok
accepted_heard (event.List n bucket prefix) choice asked history o (One q) ok = refl
accepted_heard (event.List n bucket prefix) choice asked history o (Idle read least) ok = absurd ok
accepted_heard (event.List n bucket prefix) choice asked history o (Two a b) ok = absurd ok
accepted_heard (event.Deliver m) choice asked history o words ok = rw (ok) (no_more asked history)
accepted_heard (event.Lose m) choice asked history o words ok = rw (ok) (no_more asked history)
accepted_heard (event.Drain n) choice asked history o words ok = rw (ok) (no_more asked history)
accepted_heard (event.Expire q) choice asked history o words ok = rw (ok) (no_more asked history)
accepted_heard (event.Restart n) choice asked history o words ok = rw (ok) (no_more asked history)
accepted_heard (event.Gossip from to) choice asked history o words ok = rw (ok) (no_more asked history)
accepted_heard (event.Ack n) choice asked history o words ok = rw (ok) (no_more asked history)
accepted_heard (event.Sync n) choice asked history o words ok = rw (ok) (no_more asked history)
accepted_heard (event.SyncAck n) choice asked history o words ok = rw (ok) (no_more asked history)
accepted_heard (event.Clean n) choice asked history o words ok = rw (ok) (no_more asked history)
accepted_heard (event.Work n) choice asked history o words ok = rw (ok) (no_more asked history)
accepted_heard (event.Repair n) choice asked history o words ok = rw (ok) (no_more asked history)
accepted_heard (event.Collect n) choice asked history o words ok = rw (ok) (no_more asked history)

answer_heard : (e : Event) (choice : Decision) (asked : List (ℕ × Kind)) (history : List Record) (o : Outcome) (refused : Option (Refusal Cut)) (words : Words) → IsAnswered e (asking_of e) refused words →
    tells (quiet asked history) (Some e) (told_of refused words) ≡ Some (quiet (asked_by (asking_of e) refused words ++ asked) (history ++ began_of (act_of e choice) (record o { refused = refused; words = words })))
answer_heard e choice asked history o (Some r) words ok = rw (ok) (refused_heard e choice asked history o r)
answer_heard e choice asked history o None words ok = accepted_heard e choice asked history o words ok

event_heard : (events : List Numbered) (asked : List (ℕ × Kind)) (history : List Record) (e : Numbered) (choice : Decision) (o : Outcome) → CanBeHeard events asked e o →
    hears_all events (quiet asked history) (event_saids e o) ≡ Some (quiet (asked_after asked e.event o) (history ++ (began_of (act_of e.event choice) o ++ records_told o.lines)))
event_heard events asked history e choice o ok =
    hears_append
    events
    (quiet asked history)
    (quiet (asked_after asked e.event o) (history ++ began_of (act_of e.event choice) o))
    (event_said e o ∷ [])
    (flat_map saids_of o.lines)
    (rw (ok.named, answer_heard e.event choice asked history o o.refused o.words ok.answered) refl)
    ∙ (lines_heard events (asked_after asked e.event o) (history ++ began_of (act_of e.event choice) o) o.lines ok.lines
    ∙ ap (λ h. Some (quiet (asked_after asked e.event o) h)) (append_assoc history (began_of (act_of e.event choice) o) (records_told o.lines)))

-- ---- turns

-- each act of a schedule is no step of a request
pub outer : (e : Event) (choice : Decision) → IsOuterAct (act_of e choice)
outer event.Trio choice = tt
outer (event.Block size) choice = tt
outer (event.Bucket name) choice = tt
outer (event.Role n role) choice = tt
outer (event.Redundancy wanted) choice = tt
outer (event.Apply n) choice = tt
outer (event.Tick ms) choice = tt
outer (event.Skew n ms) choice = tt
outer (event.Put n bucket key size fill) choice = tt
outer (event.Get n bucket key) choice = tt
outer (event.Head n bucket key) choice = tt
outer (event.Delete n bucket key) choice = tt
outer (event.Copy n from_bucket from_key bucket key) choice = tt
outer (event.List n bucket prefix) choice = tt
outer (event.Deliver m) choice = tt
outer (event.Lose m) choice = tt
outer (event.Drain n) choice = tt
outer (event.Expire q) choice = tt
outer (event.Restart n) choice = tt
outer (event.Gossip from to) choice = tt
outer (event.Ack n) choice = tt
outer (event.Sync n) choice = tt
outer (event.SyncAck n) choice = tt
outer (event.Clean n) choice = tt
outer (event.Work n) choice = tt
outer (event.Repair n) choice = tt
outer (event.Collect n) choice = tt

-- the account that the lines of turns give is their history, but for the identifiers of superseded ends
pub turns_heard : (events : List Numbered) (asked : List (ℕ × Kind)) (s : State) (ts : List Turn) → NoneGivenUp s.asked → TurnsCanBeHeard events asked s ts →
    hears_all events (quiet asked (map blunt s.history)) (turns_say s ts) ≡ Some (quiet (requests_after asked s ts) (map blunt (run s ts).history))
turns_heard events asked s [] so ok = refl
turns_heard events asked s (t ∷ ts) so ok =
    let o : Outcome = outcome_of s t in
    let e : Numbered = t.numbered in
    let next : List (ℕ × Kind) = asked_after asked e.event o in
    hears_append
    events
    (quiet asked (map blunt s.history))
    (quiet next (map blunt o.state.history))
    (event_saids e o)
    (turns_say o.state ts)
    (event_heard events asked (map blunt s.history) e t.choice o ok.0 ∙ ap (λ h. Some (quiet next h)) (sym (act_adds s (act_of_turn t) (outer e.event t.choice) so)))
    ∙ turns_heard events next o.state ts (event_goes s e.event t.choice so) ok.1
