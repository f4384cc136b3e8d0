-- What is kept of what requests read, as requests begin, go on, end, and are done with.
use Rattle.std.proofs.Common.{◌≡◌, ℕ, suc, ◌-◌, ◌≤◌, Option, Some, None, List, [], ◌∷◌, ◌++◌, length, refl, sym, ap, ◌∙◌, subst, arith, add-one}
use Rattle.std.specs.Prelude.{slice_set}
use Rattle.std.specs.BTreeMap.{BTreeMap}
use Rattle.std.specs.Option.{option_or}
use Rattle.std.specs.List.{AllByRecursion}
use Rattle.std.proofs.lemmas.Bool.{eq-eqb}
use Rattle.std.proofs.lemmas.List.{length-set, length_push}
use Rattle.crdt_rows.specs.declared.any_row.AnyRow.{AnyRow}
use Rattle.wire_messages.specs.declared.phase.PhaseEnd.{PhaseEnd}
use Rattle.history_model.specs.declared.record.Record.{Record}
use Rattle.flow_model.specs.declared.flow.Flow.{Flow}
use Rattle.flow_model.specs.declared.flow.FlowStep.{FlowStep}
use Rattle.flow_model.specs.declared.flow.FlowStep.TheVariants.{More, Need, Wait, End}
use Rattle.flow_model.specs.declared.flow.FlowEnd.{FlowEnd}
use Rattle.flow_model.specs.Next as flow
use Rattle.cluster_machine.specs.World.{numbered}
use Rattle.store_model.specs.Run.{World, Moving, State, Asked as Waiting, Saw, doing}
use Rattle.store_model.specs.Acts.{end_of}
use Rattle.store_model.specs.Gets.{object_given, object_seen, gathered_at, gathered, found_by}
use Rattle.s3_world.specs.declared.asked.Asked.{Asked}
use Rattle.s3_world.specs.Reads.{Handed, of, nothing_handed, asked_at, Writes, found_in, blocks_in, IsLeft, IsHanded, heard, IsReadingAs, IsReading, IsReadingIn, IsOver, AreOver, AreRead}
use Rattle.s3_world.proofs.Places.{numbered_set, numbered_other, numbered_last, numbered_before, numbered_past, numbered_within}
use Rattle.s3_world.proofs.Counts.{OpensNone, same_count}
use Rattle.s3_world.proofs.Overs.{by_number, differs, end_pushed, end_of_others, waits_without_end, nobody_ended, over_pushed, over_set, over_more}
use Rattle.s3_world.proofs.Kept.{all_written}
use Rattle.s3_world.proofs.Getting.{nothing_left, found_of, gathered_of, gathered_then, flow_then, end_then, ends_then, there_then, gathered_is, found_nothing, found_next, left_next, reading_next}

-- ---- a number that nobody asked under

-- no byte came of it
pub nothing_came : (s : State) (q : ℕ) → numbered s.asked q ≡ None → AreOver s.asked s.ends → gathered s q ≡ []
nothing_came s q nobody over = ap (λ o. gathered_of o (end_of s.ends q)) nobody ∙ ap (gathered_of None) (nobody_ended s.asked s.ends q over nobody)

-- so none was handed out
nothing_handed_of : (requests : BTreeMap ℕ Asked) (s : State) (q : ℕ) → numbered s.asked q ≡ None → AreOver s.asked s.ends → (bytes : List ℕ) → IsHanded requests s (of q bytes) → bytes ≡ []
nothing_handed_of requests s q nobody over bytes h =
    (nothing_left (blocks_in (asked_at requests q)) bytes (subst (IsLeft (blocks_in (asked_at requests q)) bytes) (nothing_came s q nobody over) h)).0

-- and none is
pub nobody_handed : (requests : BTreeMap ℕ Asked) (s : State) (q : ℕ) → numbered s.asked q ≡ None → AreOver s.asked s.ends → ((bytes : List ℕ) × IsHanded requests s (of q bytes)) → IsHanded requests s (of q [])
nobody_handed requests s q nobody over h =
    let none : gathered s q ≡ [] = nothing_came s q nobody over in
    subst (IsLeft (blocks_in (asked_at requests q)) []) (sym none) (nothing_left (blocks_in (asked_at requests q)) h.0 (subst (IsLeft (blocks_in (asked_at requests q)) h.0) none h.1)).1

-- whatever was handed out
pub whatever : (given : Handed) (requests : BTreeMap ℕ Asked) (s : State) → AreRead given requests s → AreRead nothing_handed requests s
whatever given requests s reads = record { found = reads.found; left = reads.left; handed = nobody_handed requests s 0 refl reads.over (reads.left 0); reading = reads.reading; over = reads.over; seen = reads.seen; count = reads.count }

-- the same is kept of what was read
pub reads_same : (given : Handed) (old new : BTreeMap ℕ Asked) (s : State) → ((q : ℕ) → found_in (asked_at new q) ≡ found_in (asked_at old q)) → ((q : ℕ) → blocks_in (asked_at new q) ≡ blocks_in (asked_at old q)) →
    ((q : ℕ) → IsReadingIn (asked_at new q)) → AreRead given old s → AreRead given new s
reads_same given old new s found blocks reading reads = record {
  found = λ q. found q ∙ reads.found q;
  left = λ q. let h = reads.left q in (h.0, subst (λ o. IsLeft o h.0 (gathered s q)) (sym (blocks q)) h.1);
  handed = subst (λ o. IsLeft o given.bytes (gathered s given.request)) (sym (blocks given.request)) reads.handed;
  reading = reading;
  over = reads.over;
  seen = reads.seen;
  count = reads.count;
}

-- ---- the world, the buckets, the size of blocks or the history change

pub reads_moved : (given : Handed) (requests : BTreeMap ℕ Asked) (s : State) (world : World) (buckets : List (List ℕ)) (block : ℕ) (history : List Record) → length world.requests ≡ length s.world.requests →
    AreRead given requests s → AreRead given requests (record s { world = world; buckets = buckets; block = block; history = history })
reads_moved given requests s world buckets block history count reads = record {
  found = reads.found;
  left = reads.left;
  handed = reads.handed;
  reading = reads.reading;
  over = reads.over;
  seen = reads.seen;
  count = reads.count ∙ sym count;
}

-- after a step that opens no request
pub reads_plain : (given : Handed) (requests : BTreeMap ℕ Asked) (s : State) (m : Moving) (history : List Record) → OpensNone m.step → AreRead given requests s → AreRead given requests (record (doing s m) { history = history })
reads_plain given requests s m history opens reads = reads_moved given requests s (doing s m).world s.buckets s.block history (same_count s.world m opens) reads

-- ---- what phases gave

seen_here : (saw : List Saw) (q : ℕ) (end : PhaseEnd AnyRow) → object_seen (record { request = q; end = end } ∷ saw) q ≡ option_or (object_seen saw q) (object_given end)
seen_here saw q end = rw (eq-eqb q q refl) refl

seen_there : (saw : List Saw) (q p : ℕ) (end : PhaseEnd AnyRow) → (q ≡ p → ⊥) → object_seen (record { request = q; end = end } ∷ saw) p ≡ object_seen saw p
seen_there saw q p end other = rw (differs q p other) refl

not_seen : (saw : List Saw) (n q : ℕ) → AllByRecursion (λ (e : Saw). e.request ≤ n) saw → suc n ≤ q → object_seen saw q ≡ None
not_seen [] n q seen past = refl
not_seen (e ∷ saw) n q seen past =
    let here : e.request ≤ n = seen.0 in
    let other : e.request ≡ q → ⊥ = λ same. absurd (omega (arith, here, past, same)) in
    rw (differs e.request q other) (not_seen saw n q seen.1 past)

-- ---- ends of a request that does something

ended_here : (ends : List (ℕ × FlowEnd)) (q : ℕ) (does : FlowStep) → end_of ends q ≡ None → end_of (ends_then ends q does) q ≡ end_then does
ended_here ends q (More f phase) none = none
ended_here ends q (Need f wanted) none = none
ended_here ends q (Wait f) none = none
ended_here ends q (End end) none = end_pushed ends q end none

ended_there : (ends : List (ℕ × FlowEnd)) (q p : ℕ) (does : FlowStep) → (q ≡ p → ⊥) → end_of (ends_then ends q does) p ≡ end_of ends p
ended_there ends q p (More f phase) other = refl
ended_there ends q p (Need f wanted) other = refl
ended_there ends q p (Wait f) other = refl
ended_there ends q p (End end) other = end_of_others ends q p end other

over_then : (asked : List Waiting) (ends : List (ℕ × FlowEnd)) (q : ℕ) (m : Waiting) (does : FlowStep) → numbered asked q ≡ Some (record m { flow = flow_then does }) → end_of ends q ≡ None → AreOver asked ends → AreOver asked (ends_then ends q does)
over_then asked ends q m (More f phase) at none over = over
over_then asked ends q m (Need f wanted) at none over = over
over_then asked ends q m (Wait f) at none over = over
over_then asked ends q m (End end) at none over = over_pushed asked ends q end over (subst IsOver (sym at) refl) none

seen_within : (saw : List Saw) (n m : ℕ) → n ≤ m → AllByRecursion (λ (e : Saw). e.request ≤ n) saw → AllByRecursion (λ (e : Saw). e.request ≤ m) saw
seen_within [] n m less seen = tt
seen_within (e ∷ saw) n m less seen = let here : e.request ≤ n = seen.0 in (omega arith, seen_within saw n m less seen.1)

-- ---- request q goes on

-- what is kept of it now is what it has read, once it does this
module _ (requests requests_now : BTreeMap ℕ Asked) (s t : State) (q : ℕ) (a now : Asked) (at : asked_at requests q ≡ Some a) (writes : Writes requests requests_now q (Some now)) (m : Waiting) (model_at : numbered s.asked q ≡ Some m) (same_kind : a.kind ≡ m.kind)
    (f : Flow) (going : a.flow ≡ Some f) (waits : m.flow ≡ Some f) (does : FlowStep)
    (asked_is : t.asked ≡ slice_set s.asked (q - 1) (record m { flow = flow_then does })) (ends_are : t.ends ≡ ends_then s.ends q does) (count_is : length t.world.requests ≡ length s.world.requests)
    (found_is : a.found ≡ found_of (Some (record m { kind = a.kind; flow = Some f })) (end_of s.ends q) (object_seen s.saw q) → now.found ≡ found_of (Some (record m { kind = a.kind; flow = flow_then does })) (end_then does) (object_seen t.saw q))
    (left_is : IsReadingAs a.kind a.blocks (Some f) → (given : List ℕ) → IsLeft a.blocks given (gathered_at (Some f.stage)) → IsLeft now.blocks given (gathered_then does) × IsReading now)
    (seen_is : AllByRecursion (λ (e : Saw). e.request ≤ length s.asked) s.saw → q ≤ length s.asked → AllByRecursion (λ (e : Saw). e.request ≤ length s.asked) t.saw)
    (saw_others : (p : ℕ) → (q ≡ p → ⊥) → object_seen t.saw p ≡ object_seen s.saw p) where
  abbrev m_now : Waiting
  m_now = record m { flow = flow_then does }

  model_old : numbered s.asked q ≡ Some (record m { flow = Some f })
  model_old = model_at ∙ ap (λ (o : Option Flow). Some (record m { flow = o })) waits

  model_new : numbered t.asked q ≡ Some m_now
  model_new = ap (λ xs. numbered xs q) asked_is ∙ numbered_set s.asked q m m_now model_at

  model_there : (p : ℕ) → (q ≡ p → ⊥) → numbered t.asked p ≡ numbered s.asked p
  model_there p other = ap (λ xs. numbered xs p) asked_is ∙ numbered_other s.asked q p m m_now model_at other

  module _ (over : AreOver s.asked s.ends) where
    no_end : end_of s.ends q ≡ None
    no_end = waits_without_end s.asked s.ends q m f over model_at waits

    end_here : end_of t.ends q ≡ end_then does
    end_here = ap (λ es. end_of es q) ends_are ∙ ended_here s.ends q does no_end

    end_there : (p : ℕ) → (q ≡ p → ⊥) → end_of t.ends p ≡ end_of s.ends p
    end_there p other = ap (λ es. end_of es p) ends_are ∙ ended_there s.ends q p does other

    over_now : AreOver t.asked t.ends
    over_now =
        let set : AreOver (slice_set s.asked (q - 1) m_now) s.ends = over_set s.asked s.ends q m m_now f model_at waits over in
        let asked : AreOver t.asked s.ends = subst (λ xs. AreOver xs s.ends) (sym asked_is) set in
        subst (λ es. AreOver t.asked es) (sym ends_are) (over_then t.asked s.ends q m does model_new no_end asked)

    gathered_there : (p : ℕ) → (q ≡ p → ⊥) → gathered t p ≡ gathered s p
    gathered_there p other = ap (λ o. gathered_of o (end_of t.ends p)) (model_there p other) ∙ ap (gathered_of (numbered s.asked p)) (end_there p other)

    gathered_here : gathered t q ≡ gathered_then does
    gathered_here = ap (λ o. gathered_of o (end_of t.ends q)) model_new ∙ ap (gathered_of (Some m_now)) end_here ∙ gathered_is does m

    gathered_old : gathered s q ≡ gathered_at (Some f.stage)
    gathered_old = ap (λ o. gathered_of o (end_of s.ends q)) model_old

    module _ (reading : IsReading a) where
      reads_so : IsReadingAs a.kind a.blocks (Some f)
      reads_so = subst (IsReadingAs a.kind a.blocks) going reading

      left_here : (given : List ℕ) → IsLeft (blocks_in (asked_at requests q)) given (gathered s q) → IsLeft (blocks_in (asked_at requests_now q)) given (gathered t q)
      left_here given h =
          let before : IsLeft a.blocks given (gathered_at (Some f.stage)) = subst (IsLeft a.blocks given) gathered_old (subst (λ o. IsLeft (blocks_in o) given (gathered s q)) at h) in
          subst (λ o. IsLeft (blocks_in o) given (gathered t q)) (sym writes.here) (subst (IsLeft now.blocks given) (sym gathered_here) (left_is reads_so given before).0)

      left_there : (p : ℕ) → (q ≡ p → ⊥) → (given : List ℕ) → IsLeft (blocks_in (asked_at requests p)) given (gathered s p) → IsLeft (blocks_in (asked_at requests_now p)) given (gathered t p)
      left_there p other given h =
          subst (IsLeft (blocks_in (asked_at requests_now p)) given) (sym (gathered_there p other)) (subst (λ o. IsLeft (blocks_in o) given (gathered s p)) (sym (writes.others p other)) h)

      -- what was handed out stays the first of what came
      handed_next : (given : Handed) → IsHanded requests s given → IsHanded requests_now t given
      handed_next given h =
          by_number q given.request (IsHanded requests_now t given)
          (λ same. (
          let P : ℕ → Type 0 = λ p. IsLeft (blocks_in (asked_at requests p)) given.bytes (gathered s p) → IsLeft (blocks_in (asked_at requests_now p)) given.bytes (gathered t p) in
          subst P same (left_here given.bytes) h
          ))
          (λ other. left_there given.request other given.bytes h)

      reading_now : (given : List ℕ) → IsLeft (blocks_in (asked_at requests q)) given (gathered s q) → IsReading now
      reading_now given h =
          let before : IsLeft a.blocks given (gathered_at (Some f.stage)) = subst (IsLeft a.blocks given) gathered_old (subst (λ o. IsLeft (blocks_in o) given (gathered s q)) at h) in
          (left_is reads_so given before).1

  -- ---- what is found

  found_here : AreOver s.asked s.ends → found_in (asked_at requests q) ≡ found_by s q → found_in (asked_at requests_now q) ≡ found_by t q
  found_here over h =
      let old : a.found ≡ found_of (Some (record m { kind = a.kind; flow = Some f })) (end_of s.ends q) (object_seen s.saw q) =
      sym (ap found_in at) ∙ h ∙ ap (λ o. found_of o (end_of s.ends q) (object_seen s.saw q)) model_old ∙ ap (λ k. found_of (Some (record m { kind = k; flow = Some f })) (end_of s.ends q) (object_seen s.saw q)) (sym same_kind)
      in
      ap found_in writes.here
      ∙ found_is old
      ∙ ap (λ k. found_of (Some (record m { kind = k; flow = flow_then does })) (end_then does) (object_seen t.saw q)) same_kind
      ∙ ap (λ e. found_of (Some m_now) e (object_seen t.saw q)) (sym (end_here over))
      ∙ ap (λ o. found_of o (end_of t.ends q) (object_seen t.saw q)) (sym model_new)

  found_there : AreOver s.asked s.ends → (p : ℕ) → (q ≡ p → ⊥) → found_in (asked_at requests p) ≡ found_by s p → found_in (asked_at requests_now p) ≡ found_by t p
  found_there over p other h =
      ap found_in (writes.others p other)
      ∙ h
      ∙ ap (λ o. found_of o (end_of s.ends p) (object_seen s.saw p)) (sym (model_there p other))
      ∙ ap (λ e. found_of (numbered t.asked p) e (object_seen s.saw p)) (sym (end_there over p other))
      ∙ ap (found_of (numbered t.asked p) (end_of t.ends p)) (sym (saw_others p other))

  -- ---- all of it

  pub reads_on : (given : Handed) → AreRead given requests s → AreRead given requests_now t
  reads_on given reads =
      let reading : IsReading a = (let h : IsReadingIn (Some a) = subst IsReadingIn at (reads.reading q) in h) in
      let over : AreOver s.asked s.ends = reads.over in
      let length_is : length t.asked ≡ length s.asked = ap length asked_is ∙ length-set s.asked (q - 1) m_now in
      let within : q ≤ length s.asked = numbered_within s.asked q (record m { flow = Some f }) model_old in
      record {
        found = λ p. by_number q p (found_in (asked_at requests_now p) ≡ found_by t p)
            (λ same. subst (λ p. found_in (asked_at requests_now p) ≡ found_by t p) same (found_here over (reads.found q)))
            (λ other. found_there over p other (reads.found p));
        left = λ p. let h = reads.left p in (h.0, handed_next over reading (of p h.0) h.1);
        handed = handed_next over reading given reads.handed;
        reading = let h = reads.left q in all_written requests requests_now q (Some now) writes IsReadingIn reads.reading (reading_now over reading h.0 h.1);
        over = over_now over;
        seen = subst (λ n. AllByRecursion (λ (e : Saw). e.request ≤ n) t.saw) (sym length_is) (seen_is reads.seen within);
        count = length_is ∙ reads.count ∙ sym count_is;
      }

-- a phase of it ended
module _ (requests : BTreeMap ℕ Asked) (s t : State) (q : ℕ) (a : Asked) (at : asked_at requests q ≡ Some a) (m : Waiting) (model_at : numbered s.asked q ≡ Some m) (same_kind : a.kind ≡ m.kind)
    (f : Flow) (going : a.flow ≡ Some f) (waits : m.flow ≡ Some f) (end : PhaseEnd AnyRow) (now : ℕ) (does : FlowStep) (is : does ≡ flow.next f end now)
    (asked_is : t.asked ≡ slice_set s.asked (q - 1) (record m { flow = flow_then does })) (ends_are : t.ends ≡ ends_then s.ends q does) (saw_is : t.saw ≡ record { request = q; end = end } ∷ s.saw) (count_is : length t.world.requests ≡ length s.world.requests) where
  -- the request now
  abbrev pub now_kept : Asked
  now_kept = record (heard a f.stage end) { flow = flow_then does }

  found_so : a.found ≡ found_of (Some (record m { kind = a.kind; flow = Some f })) (end_of s.ends q) (object_seen s.saw q) → now_kept.found ≡ found_of (Some (record m { kind = a.kind; flow = flow_then does })) (end_then does) (object_seen t.saw q)
  found_so found =
      found_next m f end (end_of s.ends q) a.kind a.found (object_seen s.saw q) (flow_then does) (end_then does) (there_then does m) found
      ∙ ap (found_of (Some (record m { kind = a.kind; flow = flow_then does })) (end_then does)) (sym (ap (λ saw. object_seen saw q) saw_is ∙ seen_here s.saw q end))

  left_so : IsReadingAs a.kind a.blocks (Some f) → (given : List ℕ) → IsLeft a.blocks given (gathered_at (Some f.stage)) → IsLeft now_kept.blocks given (gathered_then does) × IsReading now_kept
  left_so reading given left = (
    subst (λ d. IsLeft now_kept.blocks given (gathered_then d)) (sym is) (left_next f end now given a.kind a.blocks reading left),
    subst (λ d. IsReadingAs a.kind now_kept.blocks (flow_then d)) (sym is) (reading_next f end now given a.kind a.blocks reading left),
  )

  pub reads_next : (requests_now : BTreeMap ℕ Asked) → Writes requests requests_now q (Some now_kept) → (given : Handed) → AreRead given requests s → AreRead given requests_now t
  reads_next requests_now writes =
      reads_on requests requests_now s t q a now_kept at writes m model_at same_kind f going waits does asked_is ends_are count_is found_so left_so
      (λ seen within. subst (AllByRecursion (λ (e : Saw). e.request ≤ length s.asked)) (sym saw_is) (within, seen)) (λ p other. ap (λ saw. object_seen saw p) saw_is ∙ seen_there s.saw q p end other)

-- ---- a request begins

module _ (requests more : BTreeMap ℕ Asked) (s t : State) (a : Asked) (m : Waiting) (none_found : a.found ≡ None) (no_block : a.blocks ≡ None) (reading : IsReading a) (writes : Writes requests more (suc (length s.asked)) (Some a))
    (asked_is : t.asked ≡ s.asked ++ m ∷ []) (ends_are : t.ends ≡ s.ends) (saw_is : t.saw ≡ s.saw) (count_is : length t.world.requests ≡ suc (length s.world.requests)) where
  begun_seen : AllByRecursion (λ (e : Saw). e.request ≤ length s.asked) s.saw → object_seen t.saw (suc (length s.asked)) ≡ None
  begun_seen seen = ap (λ saw. object_seen saw (suc (length s.asked))) saw_is ∙ not_seen s.saw (length s.asked) (suc (length s.asked)) seen (omega arith)

  begun_model : numbered t.asked (suc (length s.asked)) ≡ Some m
  begun_model = ap (λ xs. numbered xs (suc (length s.asked))) asked_is ∙ numbered_last s.asked m

  before_model : (p : ℕ) → (suc (length s.asked) ≡ p → ⊥) → numbered t.asked p ≡ numbered s.asked p
  before_model p other = ap (λ xs. numbered xs p) asked_is ∙ numbered_before s.asked p m (λ e. other (sym e))

  begun_found : {given : Handed} → AreRead given requests s → (p : ℕ) → found_in (asked_at more p) ≡ found_by t p
  begun_found reads p =
      by_number (suc (length s.asked)) p (found_in (asked_at more p) ≡ found_by t p)
      (λ same. (
      let here : found_in (asked_at more (suc (length s.asked))) ≡ found_by t (suc (length s.asked)) =
      ap found_in writes.here ∙ none_found
      ∙ sym (ap (λ o. found_of o (end_of t.ends (suc (length s.asked))) (object_seen t.saw (suc (length s.asked)))) begun_model
      ∙ ap (found_of (Some m) (end_of t.ends (suc (length s.asked)))) (begun_seen reads.seen)
      ∙ found_nothing (Some m) (end_of t.ends (suc (length s.asked))))
      in
      subst (λ p. found_in (asked_at more p) ≡ found_by t p) same here
      ))
      (λ other. (
      ap found_in (writes.others p other)
      ∙ reads.found p
      ∙ ap (λ o. found_of o (end_of s.ends p) (object_seen s.saw p)) (sym (before_model p other))
      ∙ ap (λ e. found_of (numbered t.asked p) e (object_seen s.saw p)) (sym (ap (λ es. end_of es p) ends_are))
      ∙ ap (λ saw. found_of (numbered t.asked p) (end_of t.ends p) (object_seen saw p)) (sym saw_is)
      ))

  -- nothing is handed out of it
  pub begun_left : IsLeft (blocks_in (asked_at more (suc (length s.asked)))) [] (gathered t (suc (length s.asked)))
  begun_left = let none : blocks_in (asked_at more (suc (length s.asked))) ≡ None = ap blocks_in writes.here ∙ no_block in subst (λ o. IsLeft o [] (gathered t (suc (length s.asked)))) (sym none) refl

  before_left : (p : ℕ) → (suc (length s.asked) ≡ p → ⊥) → (bytes : List ℕ) → IsLeft (blocks_in (asked_at requests p)) bytes (gathered s p) → IsLeft (blocks_in (asked_at more p)) bytes (gathered t p)
  before_left p other bytes h =
      let same : gathered s p ≡ gathered t p = ap (λ o. gathered_of o (end_of s.ends p)) (sym (before_model p other)) ∙ ap (λ es. gathered_of (numbered t.asked p) (end_of es p)) (sym ends_are) in
      subst (IsLeft (blocks_in (asked_at more p)) bytes) same (subst (λ o. IsLeft (blocks_in o) bytes (gathered s p)) (sym (writes.others p other)) h)

  -- what was handed out of a number that no request had is nothing
  begun_handed : (given : Handed) → AreOver s.asked s.ends → IsHanded requests s given → IsHanded more t given
  begun_handed given over h =
      by_number (suc (length s.asked)) given.request (IsHanded more t given)
      (λ same. (
      let none : given.bytes ≡ [] = nothing_handed_of requests s given.request (subst (λ p. numbered s.asked p ≡ None) same (numbered_past s.asked)) over given.bytes h in
      let here : IsLeft (blocks_in (asked_at more given.request)) [] (gathered t given.request) = subst (λ p. IsLeft (blocks_in (asked_at more p)) [] (gathered t p)) same begun_left in
      subst (λ bytes. IsLeft (blocks_in (asked_at more given.request)) bytes (gathered t given.request)) (sym none) here
      ))
      (λ other. before_left given.request other given.bytes h)

  pub begun_reads : (given : Handed) → AreRead given requests s → AreRead given more t
  begun_reads given reads =
      let length_is : length t.asked ≡ suc (length s.asked) = ap length asked_is ∙ length_push s.asked m ∙ add-one (length s.asked) in
      record {
        found = begun_found reads;
        left = λ p. let h = reads.left p in (h.0, begun_handed (of p h.0) reads.over h.1);
        handed = begun_handed given reads.over reads.handed;
        reading = all_written requests more (suc (length s.asked)) (Some a) writes IsReadingIn reads.reading reading;
        over = subst (λ es. AreOver t.asked es) (sym ends_are) (subst (λ xs. AreOver xs s.ends) (sym asked_is) (over_more s.asked s.ends m reads.over));
        seen = subst (λ saw. AllByRecursion (λ (e : Saw). e.request ≤ length t.asked) saw) (sym saw_is) (seen_within s.saw (length s.asked) (length t.asked) (omega (arith, length_is)) reads.seen);
        count = length_is ∙ ap suc reads.count ∙ sym count_is;
      }

-- a number that no request has yet
pub number_to_come : (requests : BTreeMap ℕ Asked) (s : State) → AreRead nothing_handed requests s → IsHanded requests s (of (suc (length s.world.requests)) [])
number_to_come requests s reads =
    let q : ℕ = suc (length s.world.requests) in
    nobody_handed requests s q (subst (λ n. numbered s.asked (suc n) ≡ None) reads.count (numbered_past s.asked)) reads.over (reads.left q)
