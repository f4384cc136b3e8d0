-- What a run's own text says is in its ranges: what turns tell, what nodes show, and how many there were.
use Rattle.std.proofs.Common.{◌≡◌, ◌≤◌, ◌<◌, ◌+◌, ◌^◌, ℕ, zero, suc, true, false, cond, Some, None, List, [], ◌∷◌, length, flat_map, refl, arith, lit≤}
use Rattle.std.specs.List.{AllByRecursion, list_all, range_with_len, concat}
use Rattle.std.proofs.lemmas.Bool.{and_parts}
use Rattle.crdt_core.proofs.Each.{all_append}
use Rattle.blake2_hash.specs.Blake2b.{blake2b}
use Rattle.blake2_hash.specs.DigestLaws.{length-blake2b}
use Rattle.crdt_rows.specs.declared.any_row.AnyRow.{AnyRow}
use Rattle.crdt_rows.specs.AnyRow.{any_join}
use Rattle.object_schema.specs.Schema.{words}
use Rattle.table_model.specs.Rows.{rows as rows_of}
use Rattle.table_model.specs.Top.{roots, top}
use Rattle.cluster_machine.specs.declared.applied.Applied.{Applied}
use Rattle.cluster_machine.specs.declared.line.Line.{Line}
use Rattle.cluster_machine.specs.declared.line.Line.TheVariants as line
use Rattle.cluster_machine.specs.Layouts.{layouts, has_none}
use Rattle.cluster_machine.specs.World.{node_line}
use Rattle.machine_origins.proofs.Good.{IsGood, rows_good}
use Rattle.machine_limits.proofs.Totals.{total}
use Rattle.machine_limits.proofs.Worlds.{messages_few}
use Rattle.machine_limits.proofs.Runs.{far}
use Rattle.object_origins.proofs.Shown.{Facts}
use Rattle.limit_rows.specs.Fitting.{RowFits, weight}
use Rattle.limit_rows.proofs.Handed.{fits_rules}
use Rattle.limit_rows.proofs.Bounded.{rows_bounded}
use Rattle.limit_laws.proofs.Words.{hash_of}
use Rattle.store_model.specs.declared.event.Event.{Event}
use Rattle.store_model.specs.declared.event.Event.TheVariants as event
use Rattle.store_model.specs.Run.{State, Outcome, start}
use Rattle.store_model.specs.Events.{Turn, outcome_of, events_of, run}
use Rattle.text_model.specs.Grammar.{name_of}
use Rattle.audit_model.specs.Lines.{IsNumber, AreNumbers, IsInRange, is_letter}
use Rattle.audit_runs.specs.Whole.{AreNumbered}
use Rattle.audit_sheets.specs.Sheets.{sheet_said, IsOrderly}
use Rattle.audit_accounts.specs.Saying.{IsOrderlyLine, TellOrderly, says_all, event_says_all, turns_say_all, shown_said, nodes_said, tail_said, transcript_says}
use Rattle.audit_accounts.proofs.Worlds.{LineFits, LinesFit}
use Rattle.audit_accounts.proofs.Values.{bytes_are}
use Rattle.audit_accounts.proofs.Steps.{Here}
use Rattle.audit_accounts.proofs.Numbers.{TellNumbers}

-- ---- events

letters : (e : Event) → list_all is_letter (name_of e) ≡ true
letters event.Trio = refl
letters (event.Block size) = refl
letters (event.Bucket name) = refl
letters (event.Role n role) = refl
letters (event.Redundancy wanted) = refl
letters (event.Apply n) = refl
letters (event.Tick ms) = refl
letters (event.Skew n ms) = refl
letters (event.Put n bucket key size fill) = refl
letters (event.Get n bucket key) = refl
letters (event.Head n bucket key) = refl
letters (event.Delete n bucket key) = refl
letters (event.Copy n from_bucket from_key bucket key) = refl
letters (event.List n bucket prefix) = refl
letters (event.Deliver m) = refl
letters (event.Lose m) = refl
letters (event.Drain n) = refl
letters (event.Expire q) = refl
letters (event.Restart n) = refl
letters (event.Gossip from to) = refl
letters (event.Ack n) = refl
letters (event.Sync n) = refl
letters (event.SyncAck n) = refl
letters (event.Clean n) = refl
letters (event.Work n) = refl
letters (event.Repair n) = refl
letters (event.Collect n) = refl

-- what the lines of a layout say is in its ranges
abbrev pub SheetsAreInRange : Type 0
SheetsAreInRange = (shown : Applied) → IsOrderly shown → AllByRecursion IsInRange (sheet_said shown)

module _ (sheets : SheetsAreInRange) where
  line_in_range : (l : Line Applied) → LineFits l → IsOrderlyLine l → AllByRecursion IsInRange (says_all l)
  line_in_range (line.Layout shown) fits orderly = sheets shown orderly
  line_in_range (line.Got m) fits orderly = fits
  line_in_range (line.Sent m k a b) fits orderly = fits
  line_in_range (line.Synced n v) fits orderly = fits
  line_in_range (line.Dropped n ts id) fits orderly = fits
  line_in_range (line.Done q w version size md5) fits orderly = fits
  line_in_range (line.Listed q keys) fits orderly = fits
  line_in_range (line.Ended q w) fits orderly = fits

  lines_in_range : (ls : List (Line Applied)) → LinesFit ls → AllByRecursion IsOrderlyLine ls → AllByRecursion IsInRange (flat_map says_all ls)
  lines_in_range [] fits orderly = tt
  lines_in_range (l ∷ ls) fits orderly = all_append IsInRange (says_all l) (flat_map says_all ls) (line_in_range l fits.0 orderly.0) (lines_in_range ls fits.1 orderly.1)

  turns_in_range : (s : State) (ts : List Turn) → AreNumbered (events_of ts) → TellNumbers s ts → TellOrderly s ts → AllByRecursion IsInRange (turns_say_all s ts)
  turns_in_range s [] small told orderly = tt
  turns_in_range s (t ∷ ts) small told orderly =
      let o : Outcome = outcome_of s t in
      all_append IsInRange (event_says_all t.numbered o) (turns_say_all o.state ts)
      (((small.0, told.0.0), letters t.numbered.event), lines_in_range o.lines told.0.1 orderly.0) (turns_in_range o.state ts small.1 told.1 orderly.1)

-- ---- nodes

module _ (facts : Facts) (e : ℕ) (early : e ≤ 100000) (s : State) (r : Here e s) where
  counted : (rs : List AnyRow) → AllByRecursion (IsGood words (RowFits r.drawn)) rs → length rs ≤ total weight rs
  counted [] h = omega arith
  counted (x ∷ xs) h = let least = (rows_bounded facts r.t r.drawn r.within).least x h.0.has in let rest = counted xs h.1 in omega arith

  node_in_range : (n : ℕ) → IsNumber n → AllByRecursion IsInRange (shown_said (node_line any_join words layouts s.world n))
  node_in_range n number =
      let x = s.world.nodes n in
      let there : List AnyRow = rows_of any_join words x.accepted in
      let good = rows_good (fits_rules facts r.t r.drawn r.within) x.accepted (r.run.world.rows.nodes n).accepted in
      let rows = counted there good in
      let few = (r.run.world.nodes n).counted in
      let blocks = (r.named.nodes n).blocks in
      let low = (far e r.t s.world r.run).size in
      let bytes = r.run.bytes in
      let few_rows : length there < 2 ^ 64 = omega (arith, rows, few, bytes, low, early) in
      let few_blocks : length x.blocks < 2 ^ 64 = omega (arith, blocks, bytes, low, early) in
      let all : List ℕ = concat (roots words there) in
      elim (has_none layouts x.view) as (λ b. AllByRecursion IsInRange (shown_said (cond b None (Some (record { node = n; rows = length there; blocks = length x.blocks; top = top words there }))))) [
        | true ↦ tt
        | false ↦ (((number, (few_rows, (few_blocks, tt))), length-blake2b 32 all (lit≤ tt), bytes_are (blake2b 32 all) (and_parts _ _ (hash_of all)).1), tt)
      ]

  nodes_in_range : (ns : List ℕ) → AreNumbers ns → AllByRecursion IsInRange (flat_map (λ n. shown_said (node_line any_join words layouts s.world n)) ns)
  nodes_in_range [] h = tt
  nodes_in_range (n ∷ ns) h =
      all_append IsInRange (shown_said (node_line any_join words layouts s.world n)) (flat_map (λ m. shown_said (node_line any_join words layouts s.world m)) ns) (node_in_range n h.0) (nodes_in_range ns h.1)

  -- what a transcript ends with
  tail_in_range : (events : ℕ) → events ≤ 100000 → AllByRecursion IsInRange (tail_said events s)
  tail_in_range events few =
      let requests = r.run.world.requests in
      let steps = r.run.world.early in
      let sent = r.run.world.few in
      let each = messages_few words s.world.messages r.run.world.bytes r.run.world.bytes_are in
      all_append IsInRange (nodes_said s.world) _ (nodes_in_range (range_with_len 1 16) (sixteen 1 16 (omega arith))) ((omega (arith, few), (omega (arith, requests, steps), (omega (arith, each, sent), tt))), tt)
    where
      sixteen : (first n : ℕ) → first + n < 2 ^ 64 → AreNumbers (range_with_len first n)
      sixteen first zero low = tt
      sixteen first (suc n) low = (omega arith, sixteen (first + 1) n (omega arith))

-- all that a whole transcript says
pub transcript_in_range : Facts → SheetsAreInRange → (ts : List Turn) → length ts ≤ 100000 → AreNumbered (events_of ts) → TellNumbers start ts → TellOrderly start ts → Here 100000 (run start ts) → AllByRecursion IsInRange (transcript_says ts)
transcript_in_range facts sheets ts few small told orderly r =
    all_append IsInRange (turns_say_all start ts) (tail_said (length ts) (run start ts)) (turns_in_range sheets start ts small told orderly) (tail_in_range facts 100000 (omega arith) (run start ts) r (length ts) few)
