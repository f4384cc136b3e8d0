-- What requests tell as they end, and what each act tells: the bytes that were written.
use Rattle.std.proofs.Common.{◌≡◌, inl, inr, ℕ, zero, suc, true, false, Option, Some, None, if◌then◌else◌, List, [], ◌∷◌, ◌++◌, length, refl, sym, ap, ◌∙◌, subst, arith}
use Rattle.std.specs.Prelude.{IsTrue, ⊤}
use Rattle.std.specs.List.{AllByRecursion, Contains}
use Rattle.std.proofs.lemmas.List.Elements.{All-nil, Contains-append_cases, Contains-append_right}
use Rattle.md5.specs.Md5.{md5}
use Rattle.crdt_rows.specs.declared.version.Version.{Version}
use Rattle.crdt_rows.specs.declared.body.Meta.{Meta}
use Rattle.crdt_rows.specs.declared.version_row.BlockRef.{BlockRef}
use Rattle.crdt_rows.specs.declared.object_row.ObjectRow.{ObjectRow}
use Rattle.crdt_rows.specs.declared.any_row.AnyRow.{AnyRow}
use Rattle.crdt_rows.specs.AnyRow.{any_join}
use Rattle.object_schema.specs.Schema.{words}
use Rattle.wire_messages.specs.declared.phase.PhaseEnd.{PhaseEnd}
use Rattle.wire_messages.specs.declared.phase.PhaseEnd.TheVariants.{Row as Answered, Window, Kept, Block}
use Rattle.wire_messages.specs.declared.phase.Phase.TheVariants.{Store}
use Rattle.cluster_machine.specs.declared.line.Line.TheVariants.{Done, Listed as Shows, Ended as HasEnded}
use Rattle.cluster_machine.specs.declared.line.EndWord.TheVariants.{Superseded as WasSuperseded}
use Rattle.cluster_machine.specs.declared.step.Refusal.TheVariants.{NotMember, NoSuchBucket}
use Rattle.cluster_machine.specs.declared.step.Step.TheVariants as step
use Rattle.cluster_machine.specs.Layouts.{layouts}
use Rattle.cluster_machine.specs.Node.{Ended}
use Rattle.cluster_machine.specs.World.{clock, is_member_at, numbered, undelivered}
use Rattle.cluster_machine.specs.Worlds.{run as world_run}
use Rattle.history_model.specs.declared.record.Kind.{Kind}
use Rattle.history_model.specs.declared.record.Kind.TheVariants as kind
use Rattle.history_model.specs.Record.{is_write}
use Rattle.flow_model.specs.declared.order.Order.{Order}
use Rattle.flow_model.specs.declared.flow.Name.{Name}
use Rattle.flow_model.specs.declared.flow.Content.{Content}
use Rattle.flow_model.specs.declared.flow.Wish.{Wish}
use Rattle.flow_model.specs.declared.flow.Wish.TheVariants as wish
use Rattle.flow_model.specs.declared.flow.Aim.{Aim}
use Rattle.flow_model.specs.declared.flow.Aim.TheVariants as aim
use Rattle.flow_model.specs.declared.flow.Stage.{Stage}
use Rattle.flow_model.specs.declared.flow.Stage.TheVariants.{Drawing, Uploading, Receiving, Aborting, Completing, Looking, Opening, Gathering, Listing}
use Rattle.flow_model.specs.declared.flow.Flow.{Flow}
use Rattle.flow_model.specs.declared.flow.FlowStep.{FlowStep}
use Rattle.flow_model.specs.declared.flow.FlowStep.TheVariants.{More, Need, Wait, End}
use Rattle.flow_model.specs.Blocks.{has_piece, is_long}
use Rattle.flow_model.specs.Flow.{started}
use Rattle.flow_model.specs.Rows.{uploading, block_rows}
use Rattle.flow_model.specs.Says.{Said, none, marked, inline, in_blocks, said_by, said_of, Named, unnamed, whole, deleted, named_by, shown_rows}
use Rattle.flow_model.specs.Next.{drawn, stores, more, completes, writes, uploads, found, reads_on, looked, gathers, opened, lists, goes_on as flow_goes_on, next}
use Rattle.flow_model.specs.Streams.{Step, fed, finished, given_up}
use Rattle.store_model.specs.Answers.{Entry, with_entry, entries, lines_of, pair, found_line, word_of, lines_of_end}
use Rattle.store_model.specs.Orders.{buckets_of}
use Rattle.store_model.specs.Run.{Moving, State, start, Asked, Draw, Outcome, silent, refusal, plainly, effect, doing, are_buckets, phases, opened as opens_request, begins, draws_of, takes, follows, follow, goes_on, delivers, then_drains, drains, hears, heard_in, heard, fills_at}
use Rattle.store_model.specs.Acts.{Act, moves, installs, asks, delivery, drain, forgets, takes as takes_end, adds, cuts, feeds, keeps, gives_up, acted, after_acts, AreLawfulActs, ActsFit}
use Rattle.store_model.specs.Written.{lines_told, SaysBytes, SaysSize, IsAsWritten, GivesWhatWasWritten}
use Rattle.store_laws.proofs.Elements.{none_in, cons_cases, there}
use Rattle.store_laws.proofs.Every.{EveryWorld}
use Rattle.store_laws.proofs.Going.{flow_of}
use Rattle.store_laws.proofs.Listed.{new_shown}
use Rattle.store_laws.proofs.Good.{IsGood}
use Rattle.store_laws.proofs.Sound.{IsAimOf, ScansFor, IsStage, IsSound, sights}
use Rattle.store_laws.proofs.Rows.{IsInRow, IsInBlocks, SaysWritten}
use Rattle.store_laws.proofs.Grown.{Rests}
use Rattle.store_laws.proofs.Ends.{HasScanned, IsEnd}
use Rattle.store_laws.proofs.Values.{read_written}
use Rattle.store_laws.proofs.Stepping.{step_sound, calm_fine, calm_ends}
use Rattle.store_laws.proofs.Enders.{is_calm}
use Rattle.store_laws.proofs.Starting.{start_sound}
use Rattle.store_model.proofs.Leads.{goes_on_leads}
use Rattle.store_laws.proofs.Acts.{delivers_keeps, act_keeps}
use Rattle.store_laws.proofs.Once.{draws_differ}
use Rattle.store_laws.proofs.Telling.{Tells, Grows, tells_later, tells_none, tells_one, tells_both, step_tells}
use Rattle.store_laws.proofs.Hashing.{FitIn, fit_in, in_parts}
use Rattle.store_laws.proofs.Deeds.{Deed, ActsDo}

-- ---- how requests end

-- what a request of this kind tells that does this is as was written
abbrev pub StepSays : List Draw → Kind → FlowStep → Type 0
StepSays draws k (More flow phase) = ⊤
StepSays draws k (Need flow wanted) = ⊤
StepSays draws k (Wait flow) = ⊤
StepSays draws k (End end) = (q : ℕ) → Tells draws (lines_of_end q k end)

-- what was read is what this read has to tell of
abbrev pub MayTell : List Draw → Aim → Version → Meta → List ℕ → Type 0
MayTell draws aim.Get v meta body = SaysBytes draws v (Some (length body)) (Some (md5 body))
MayTell draws aim.Head v meta body = SaysSize draws v (Some meta.size)
MayTell draws (aim.Copy name headers) v meta body = ⊤

module _ (draws : List Draw) where
  -- bytes in a row
  row_tells : (aim : Aim) (v : Version) (meta : Meta) (body : List ℕ) → IsInRow draws v meta body → MayTell draws aim v meta body
  row_tells aim.Get v meta body h = record {
    content = h.content;
    was_written = h.was_written;
    says = λ short. (ap (λ (b : List ℕ). Some (length b)) h.body_is, ap (λ (b : List ℕ). Some (md5 b)) h.body_is);
  }
  row_tells aim.Head v meta body h = record { content = h.content; was_written = h.was_written; says = ap (λ (m : Meta). Some m.size) h.meta_is }
  row_tells (aim.Copy name headers) v meta body h = tt

  -- bytes in blocks
  blocks_tell : (aim : Aim) (v : Version) (meta : Meta) (body : List ℕ) → IsInBlocks draws v meta → MayTell draws aim v meta body
  blocks_tell aim.Get v meta body h = record {
    content = h.content;
    was_written = h.was_written;
    says = λ short. (let no : true ≡ false = sym h.long ∙ short in cc);
  }
  blocks_tell aim.Head v meta body h = record { content = h.content; was_written = h.was_written; says = ap (λ (m : Meta). Some m.size) h.meta_is }
  blocks_tell (aim.Copy name headers) v meta body h = tt

  -- a request without an object, and a write
  nothing_says : (k : Kind) (q : ℕ) → IsAsWritten draws (Done q (word_of k) None None None)
  nothing_says kind.Put q = tt
  nothing_says kind.Get q = tt
  nothing_says kind.Head q = tt
  nothing_says kind.Delete q = tt
  nothing_says kind.Copy q = tt
  nothing_says kind.List q = tt

  stored_says : (k : Kind) (v : Version) (meta : Option Meta) → IsTrue (is_write k) → (q : ℕ) → IsAsWritten draws (Done q (word_of k) (Some (pair v)) None None)
  stored_says kind.Put v meta h q = tt
  stored_says kind.Get v meta h q = cc
  stored_says kind.Head v meta h q = cc
  stored_says kind.Delete v meta h q = tt
  stored_says kind.Copy v meta h q = tt
  stored_says kind.List v meta h q = cc

  -- the sizes that a list shows
  abbrev pub AreSizes : List (List ℕ × ℕ × ℕ × ℕ) → Type 0
  AreSizes keys = (e : List ℕ × ℕ × ℕ × ℕ) → Contains keys e → SaysSize draws (record { ts = e.1; id = e.2 }) (Some e.3)

  size_first : (key : List ℕ) (v : Version) (meta : Meta) (keys : List (List ℕ × ℕ × ℕ × ℕ)) → SaysSize draws v (Some meta.size) → AreSizes keys → AreSizes ((key, v.ts, v.id, meta.size) ∷ keys)
  size_first key v meta keys h rest = λ e c. elim (cons_cases (key, v.ts, v.id, meta.size) keys e c) [
    | inl one ↦ subst (λ (x : List ℕ × ℕ × ℕ × ℕ). SaysSize draws (record { ts = x.1; id = x.2 }) (Some x.3)) one h
    | inr more ↦ rest e more
  ]

  entry_tells : (key : List ℕ) (said : Said) (es : List Entry) → SaysWritten draws said → AreSizes (lines_of es) → AreSizes (lines_of (with_entry key said es))
  entry_tells key none es h rest = rest
  entry_tells key (marked v) es h rest = rest
  entry_tells key (inline v meta body) es h rest = size_first key v meta (lines_of es) (row_tells aim.Head v meta body h) rest
  entry_tells key (in_blocks v meta first) es h rest = size_first key v meta (lines_of es) (blocks_tell aim.Head v meta [] h) rest

  rows_tell : (rows : List ObjectRow) → ((r : ObjectRow) → Contains rows r → SaysWritten draws (said_by r)) → AreSizes (lines_of (entries rows))
  rows_tell [] h = λ e c. absurd (none_in e c)
  rows_tell (r ∷ rs) h = entry_tells r.key (said_by r) (entries rs) (h r (0, omega arith, refl)) (rows_tell rs (λ x c. h x (there r rs x c)))

  module _ (id block : ℕ) (a : Asked) where
    found_says : (aim : Aim) (v : Version) (meta : Meta) (body : List ℕ) → IsAimOf a aim → MayTell draws aim v meta body → StepSays draws a.kind (found id block aim v meta body)
    found_says aim.Get v meta body is h = λ q. tells_one draws (found_line q a.kind v meta body) (subst (λ (k : Kind). IsAsWritten draws (found_line q k v meta body)) (sym is) h)
    found_says aim.Head v meta body is h = λ q. tells_one draws (found_line q a.kind v meta []) (subst (λ (k : Kind). IsAsWritten draws (found_line q k v meta [])) (sym is) h)
    found_says (aim.Copy name headers) v meta body is h = tt

    gathers_says : (aim : Aim) (v : Version) (meta : Meta) (left : List BlockRef) (body : List ℕ) → IsAimOf a aim → IsInBlocks draws v meta → StepSays draws a.kind (gathers id block aim v meta left body)
    gathers_says aim v meta [] body is h = found_says aim v meta body is (blocks_tell aim v meta body h)
    gathers_says aim v meta (b ∷ left) body is h = tt

    opened_says : (aim : Aim) (v : Version) (meta : Meta) (named : Named) → IsAimOf a aim → IsInBlocks draws v meta → StepSays draws a.kind (opened id block aim v meta named)
    opened_says aim v meta unnamed is h = tt
    opened_says aim v meta (whole blocks) is h = gathers_says aim v meta blocks [] is h
    opened_says aim v meta deleted is h = λ q. tells_one draws (HasEnded q WasSuperseded) tt

    reads_on_says : (aim : Aim) (v : Version) (meta : Meta) → IsAimOf a aim → IsInBlocks draws v meta → StepSays draws a.kind (reads_on id block aim v meta)
    reads_on_says aim.Get v meta is h = tt
    reads_on_says aim.Head v meta is h = found_says aim.Head v meta [] is (blocks_tell aim.Head v meta [] h)
    reads_on_says (aim.Copy name headers) v meta is h = tt

    looked_says : (aim : Aim) (said : Said) → IsAimOf a aim → SaysWritten draws said → StepSays draws a.kind (looked id block aim said)
    looked_says aim none is h = λ q. tells_one draws (Done q (word_of a.kind) None None None) (nothing_says a.kind q)
    looked_says aim (marked v) is h = λ q. tells_one draws (Done q (word_of a.kind) None None None) (nothing_says a.kind q)
    looked_says aim (inline v meta body) is h = found_says aim v meta body is (row_tells aim v meta body h)
    looked_says aim (in_blocks v meta first) is h = reads_on_says aim v meta is h

    completes_says : (name : Name) (v : Version) (w : Wish) → StepSays draws a.kind (completes id block name v w)
    completes_says name v wish.Marker = tt
    completes_says name v (wish.Stream coming) = tt
    completes_says name v (wish.Content c) = tt

    writes_says : (name : Name) (v : Version) (w : Wish) → StepSays draws a.kind (writes id block name v w)
    writes_says name v wish.Marker = tt
    writes_says name v (wish.Stream coming) = tt
    writes_says name v (wish.Content c) =
        elim (is_long c.body) as (λ b. StepSays draws a.kind (elim b as (λ b. FlowStep) [ true ↦ more id block (Uploading name v c 0) (stores (uploading name v)) | false ↦ completes id block name v (wish.Content c) ])) [
          | true ↦ tt
          | false ↦ tt
        ]

    uploads_says : (name : Name) (v : Version) (c : Content) (i : ℕ) → StepSays draws a.kind (uploads id block name v c i)
    uploads_says name v c i =
        elim (has_piece block c.body i) as (λ b. StepSays draws a.kind (elim b as (λ b. FlowStep) [ true ↦ more id block (Uploading name v c (suc i)) (Store (block_rows v.id block c.body i)) | false ↦ completes id block name v (wish.Content c) ])) [
          | true ↦ tt
          | false ↦ tt
        ]

    lists_says : (bucket prefix : List ℕ) (rows : List ObjectRow) (reach : Option (List ℕ)) → ((r : ObjectRow) → Contains rows r → SaysWritten draws (said_by r)) → StepSays draws a.kind (lists id block bucket prefix rows reach)
    lists_says bucket prefix rows None h = λ q. tells_one draws (Shows q (lines_of (entries rows))) (rows_tell rows h)
    lists_says bucket prefix rows (Some after) h = tt

-- ---- a phase ended

module _ {H : Deed → Type 0} where
  module _ (every : EveryWorld H) (s : State) (q : ℕ) (a : Asked) (at : numbered s.asked q ≡ Some a) (sound : IsSound H s) where
    -- each row that a list has with this window was written
    window_says : (flow : Flow) (bucket prefix : List ℕ) (rows : List ObjectRow) (others : List AnyRow) (reach : Option (List ℕ)) → a.flow ≡ Some flow → flow.stage ≡ Listing bucket prefix rows →
        HasScanned H s.asked s.draws s.history (sights s) s.world.reads q others reach → (r : ObjectRow) → Contains (rows ++ shown_rows others) r → SaysWritten s.draws (said_by r)
    window_says flow bucket prefix rows others reach flow_is stage_is end r c =
        let w = end.is_scanning.waits in
        let some_is : Some w.one ≡ Some a = sym w.is_there ∙ at in
        let one_is : w.one ≡ a = cc in
        let flows : Some w.flow ≡ Some flow = sym w.flow_is ∙ (ap (λ (b : Asked). b.flow) one_is ∙ flow_is) in
        let same : w.flow ≡ flow = cc in
        let scans : ScansFor H s.draws s.history (sights s) q (Listing bucket prefix rows) end.scan = subst (λ (g : Stage). ScansFor H s.draws s.history (sights s) q g end.scan) (ap (λ (f : Flow). f.stage) same ∙ stage_is) end.is_scanning.scans in
        elim (Contains-append_cases rows (shown_rows others) r c) [
          | inl old ↦ (scans.2.shown r old).2
          | inr new ↦ (new_shown every s q sound bucket prefix rows others reach end.scan end.is_there scans.0 scans.1 end.is_scanning.has end.is_scanning.proper r new).2
        ]

    stage_says : (id block : ℕ) (stage : Stage) (end : PhaseEnd AnyRow) (now : ℕ) → a.flow ≡ Some (flow_of id block stage) → IsStage H s.draws s.history q a stage → IsEnd H s.asked s.draws s.history (sights s) s.world.kept s.world.reads q end →
        StepSays s.draws a.kind (flow_goes_on id block stage end now)
    stage_says id block (Drawing name w) (Answered value) now flow_is stage end = writes_says s.draws id block a name (drawn id value now) w
    stage_says id block (Uploading name v c stored) Kept now flow_is stage end = uploads_says s.draws id block a name v c stored
    stage_says id block (Receiving name v coming received) Kept now flow_is stage end = tt
    stage_says id block (Aborting v) Kept now flow_is stage end = λ p. tells_none s.draws
    stage_says id block (Completing v meta) Kept now flow_is stage end = λ p. tells_one s.draws (Done p (word_of a.kind) (Some (pair v)) None None) (stored_says s.draws a.kind v meta stage p)
    stage_says id block (Looking name aim) (Answered value) now flow_is stage end = looked_says s.draws id block a aim (said_of value) stage.0 (read_written every s q sound value end)
    stage_says id block (Opening v meta aim) (Answered value) now flow_is stage end = opened_says s.draws id block a aim v meta (named_by value meta.size) stage.0 stage.2
    stage_says id block (Gathering v meta aim left body) (Block bytes) now flow_is stage end = gathers_says s.draws id block a aim v meta left (body ++ bytes) stage.0 stage.2
    stage_says id block (Listing bucket prefix rows) (Window others reach) now flow_is stage end = lists_says s.draws id block a bucket prefix (rows ++ shown_rows others) reach
        (window_says (flow_of id block (Listing bucket prefix rows)) bucket prefix rows others reach flow_is refl end)
    stage_says id block _ _ now flow_is stage end = tt

-- ---- outcomes

-- what an outcome tells is as was written by then
abbrev pub HasTold : Outcome → Type 0
HasTold o = Tells o.state.draws o.lines

takes_tells : (s : State) (q : ℕ) (a : Asked) (ds : List Draw) (st : FlowStep) → StepSays s.draws a.kind st → HasTold (takes s q a ds st)
takes_tells s q a ds (More flow phase) h = step_tells (ds ++ s.draws) s.world (phases q phase).step (phases q phase).choice
takes_tells s q a ds (Wait flow) h = tells_none s.draws
takes_tells s q a ds (Need flow wanted) h = tells_none s.draws
takes_tells s q a ds (End end) h = h q

takes_grows : (s : State) (q : ℕ) (a : Asked) (ds : List Draw) (st : FlowStep) → Grows s.draws (takes s q a ds st).state.draws
takes_grows s q a ds (More flow phase) = λ d c. Contains-append_right ds s.draws d c
takes_grows s q a ds (Need flow wanted) = λ d c. c
takes_grows s q a ds (Wait flow) = λ d c. c
takes_grows s q a ds (End end) = λ d c. c

follows_grows : (s : State) (q : ℕ) (a : Asked) (end : PhaseEnd AnyRow) (flow : Option Flow) → Grows s.draws (follows s q a end flow).state.draws
follows_grows s q a end None = λ d c. c
follows_grows s q a end (Some flow) =
    let now = clock s.world a.node in takes_grows (record s { saw = record { request = q; end = end } ∷ s.saw }) q a (draws_of s q flow.block flow.stage end now) (next flow end now)

follow_grows : (s : State) (q : ℕ) (asked : Option Asked) (end : PhaseEnd AnyRow) → Grows s.draws (follow s q asked end).state.draws
follow_grows s q None end = λ d c. c
follow_grows s q (Some a) end = follows_grows s q a end a.flow

goes_on_grows : (s : State) (ends : List (Ended AnyRow)) → Grows s.draws (goes_on s ends).state.draws
goes_on_grows s [] = λ d c. c
goes_on_grows s (e ∷ es) = follow_grows s e.request (numbered s.asked e.request) e.how

delivers_grows : (s : State) (m : ℕ) → Grows s.draws (delivers s m).state.draws
delivers_grows s m = let d : Moving = plainly (step.Deliver m) in goes_on_grows (doing s d) (effect s d).ends

pub drains_grows : (n : ℕ) (s : State) → Grows s.draws (drains n s).state.draws
drains_grows zero s = λ d c. c
drains_grows (suc n) s =
    elim (undelivered s.world) as (λ o. Grows s.draws (elim o as (λ o. Outcome) [ None ↦ silent s | Some m ↦ let o = delivers s m in then_drains o (drains n o.state) ]).state.draws) [
      | None ↦ λ d c. c
      | Some m ↦ λ d c. drains_grows n (delivers s m).state d (delivers_grows s m d c)
    ]

begins_grows : (s : State) (n : ℕ) (o : Order) → Grows s.draws (begins s n o).state.draws
begins_grows s n o =
    elim (is_member_at layouts s.world n) as (λ b. Grows s.draws (if b then (if are_buckets s.buckets (buckets_of o) then opens_request s n o else refusal s NoSuchBucket) else refusal s NotMember).state.draws) [
      | true ↦ elim (are_buckets s.buckets (buckets_of o)) as (λ b. Grows s.draws (if b then opens_request s n o else refusal s NoSuchBucket).state.draws) [
        | true ↦ λ d c. c
        | false ↦ λ d c. c
      ]
      | false ↦ λ d c. c
    ]

-- the client of a streamed upload was heard
hears_grows : (s : State) (q : ℕ) (a : Asked) (next : Step) → Grows s.draws (hears s q a next).state.draws
hears_grows s q a None = λ d c. c
hears_grows s q a (Some next) = λ d c. c

in_grows : (s : State) (q : ℕ) (says : Flow → Step) (a : Asked) (flow : Option Flow) → Grows s.draws (heard_in s q says a flow).state.draws
in_grows s q says a None = λ d c. c
in_grows s q says a (Some flow) = hears_grows s q a (says flow)

heard_grows : (s : State) (q : ℕ) (says : Flow → Step) (asked : Option Asked) → Grows s.draws (heard s q says asked).state.draws
heard_grows s q says None = λ d c. c
heard_grows s q says (Some a) = in_grows s q says a a.flow

hears_tells : (s : State) (q : ℕ) (a : Asked) (next : Step) → HasTold (hears s q a next)
hears_tells s q a None = tells_none s.draws
hears_tells s q a (Some next) = step_tells s.draws s.world (phases q next.1).step (phases q next.1).choice

in_tells : (s : State) (q : ℕ) (says : Flow → Step) (a : Asked) (flow : Option Flow) → HasTold (heard_in s q says a flow)
in_tells s q says a None = tells_none s.draws
in_tells s q says a (Some flow) = hears_tells s q a (says flow)

heard_tells : (s : State) (q : ℕ) (says : Flow → Step) (asked : Option Asked) → HasTold (heard s q says asked)
heard_tells s q says None = tells_none s.draws
heard_tells s q says (Some a) = in_tells s q says a a.flow

-- what was drawn before an act is drawn after it
act_grows : (s : State) (a : Act) → Grows s.draws (acted s a).state.draws
act_grows s (moves m) = λ d c. c
act_grows s (asks n o) = begins_grows s n o
act_grows s (delivery m) = delivers_grows s m
act_grows s (drain n) = drains_grows n s
act_grows s (installs first) = λ d c. c
act_grows s forgets = λ d c. c
act_grows s (takes_end q) = λ d c. c
act_grows s (adds name) = λ d c. c
act_grows s (cuts block) = λ d c. c
act_grows s (feeds q bytes) = heard_grows s q (λ flow. fed flow bytes) (numbered s.asked q)
act_grows s (keeps q) = λ d c.
    let ds : List Draw = fills_at s q (numbered s.asked q) in
    heard_grows (record s { draws = ds ++ s.draws }) q finished (numbered s.asked q) d (Contains-append_right ds s.draws d c)
act_grows s (gives_up q) = heard_grows s q given_up (numbered s.asked q)

pub acts_grow : (s : State) (as' : List Act) → Grows s.draws (after_acts s as').draws
acts_grow s [] = λ d c. c
acts_grow s (a ∷ as') = λ d c. acts_grow (acted s a).state as' d (act_grows s a d c)

module _ {H : Deed → Type 0} where
  module _ (every : EveryWorld H) where
    follows_tell : (s : State) (q : ℕ) (a : Asked) → numbered s.asked q ≡ Some a → IsSound H s → (end : PhaseEnd AnyRow) (flow : Option Flow) → a.flow ≡ flow → IsEnd H s.asked s.draws s.history (sights s) s.world.kept s.world.reads q end →
        HasTold (follows s q a end flow)
    follows_tell s q a at sound end None flow_is h = tells_none s.draws
    follows_tell s q a at sound end (Some flow) flow_is h =
        let now : ℕ = clock s.world a.node in
        let stage = sound.stages q a flow at flow_is in
        takes_tells (record s { saw = record { request = q; end = end } ∷ s.saw }) q a (draws_of s q flow.block flow.stage end now) (next flow end now) (stage_says every s q a at sound flow.id flow.block flow.stage end now flow_is stage.1 h)

    follow_tells : (s : State) (q : ℕ) (asked : Option Asked) (end : PhaseEnd AnyRow) → numbered s.asked q ≡ asked → IsSound H s → IsEnd H s.asked s.draws s.history (sights s) s.world.kept s.world.reads q end → HasTold (follow s q asked end)
    follow_tells s q None end at sound h = tells_none s.draws
    follow_tells s q (Some a) end at sound h = follows_tell s q a at sound end a.flow refl h

    goes_on_tells : (s : State) (ends : List (Ended AnyRow)) → IsSound H s →
        AllByRecursion (λ (e : Ended AnyRow). IsEnd H s.asked s.draws s.history (sights s) s.world.kept s.world.reads e.request e.how × Rests s e.request) ends → HasTold (goes_on s ends)
    goes_on_tells s [] sound h = tells_none s.draws
    goes_on_tells s (e ∷ es) sound h = follow_tells s e.request (numbered s.asked e.request) e.how refl sound h.0.0

    delivers_tells : (s : State) (m : ℕ) → FitIn H s.world (delivers s m).moves → IsSound H s → HasTold (delivers s m)
    delivers_tells s m fits sound =
        let d : Moving = plainly (step.Deliver m) in
        let calm = is_calm every s d tt sound in
        let o : Outcome = goes_on (doing s d) (effect s d).ends in
        tells_both o.state.draws (effect s d).tells o.lines (step_tells o.state.draws s.world d.step d.choice)
        (goes_on_tells (doing s d) (effect s d).ends (step_sound s d sound (tt, tt, tt, fits.0.1, tt) fits.0.2 (All-nil (IsGood s.draws)) (calm_fine s (effect s d) sound calm)) (calm_ends s (effect s d) sound calm))

    drains_tell : (n : ℕ) (s : State) → FitIn H s.world (drains n s).moves → IsSound H s → HasTold (drains n s)
    drains_tell zero s fits sound = tells_none s.draws
    drains_tell (suc n) s fits sound =
        elim (undelivered s.world) as (λ o. FitIn H s.world (elim o as (λ o. Outcome) [ None ↦ silent s | Some m ↦ let o = delivers s m in then_drains o (drains n o.state) ]).moves →
        HasTold (elim o as (λ o. Outcome) [ None ↦ silent s | Some m ↦ let o = delivers s m in then_drains o (drains n o.state) ])) [
          | None ↦ λ fits. tells_none s.draws
          | Some m ↦ λ fits.
              let first : Outcome = delivers s m in
              let rest : Outcome = drains n first.state in
              let parts = in_parts H s.world first.moves rest.moves fits in
              let leads : world_run any_join words s.world first.moves ≡ first.state.world = goes_on_leads (doing s (plainly (step.Deliver m))) (effect s (plainly (step.Deliver m))).ends in
              tells_both rest.state.draws first.lines rest.lines (tells_later first.state.draws rest.state.draws (drains_grows n first.state) first.lines (delivers_tells s m parts.0 sound))
              (drains_tell n first.state (subst (λ w. FitIn H w rest.moves) leads parts.1) (delivers_keeps every s m parts.0 sound))
        ] fits

    begins_tells : (s : State) (n : ℕ) (o : Order) → HasTold (begins s n o)
    begins_tells s n o =
        elim (is_member_at layouts s.world n) as (λ b. HasTold (if b then (if are_buckets s.buckets (buckets_of o) then opens_request s n o else refusal s NoSuchBucket) else refusal s NotMember)) [
          | true ↦ elim (are_buckets s.buckets (buckets_of o)) as (λ b. HasTold (if b then opens_request s n o else refusal s NoSuchBucket)) [
            | true ↦
                let first : Moving = phases (suc (length s.world.requests)) (started o (suc (length s.world.requests)) s.block).1 in
                step_tells s.draws (doing s (plainly (step.Open n))).world first.step first.choice
            | false ↦ tells_none s.draws
          ]
          | false ↦ tells_none s.draws
        ]

    act_tells : (s : State) (a : Act) → FitIn H s.world (acted s a).moves → IsSound H s → HasTold (acted s a)
    act_tells s (moves m) fits sound = step_tells s.draws s.world m.step m.choice
    act_tells s (asks n o) fits sound = begins_tells s n o
    act_tells s (delivery m) fits sound = delivers_tells s m fits sound
    act_tells s (drain n) fits sound = drains_tell n s fits sound
    act_tells s (installs first) fits sound = tells_none s.draws
    act_tells s forgets fits sound = tells_none s.draws
    act_tells s (takes_end q) fits sound = tells_none s.draws
    act_tells s (adds name) fits sound = tells_none s.draws
    act_tells s (cuts block) fits sound = tells_none s.draws
    act_tells s (feeds q bytes) fits sound = heard_tells s q (λ flow. fed flow bytes) (numbered s.asked q)
    act_tells s (keeps q) fits sound = heard_tells (record s { draws = fills_at s q (numbered s.asked q) ++ s.draws }) q finished (numbered s.asked q)
    act_tells s (gives_up q) fits sound = heard_tells s q given_up (numbered s.asked q)

    acts_tell : (s : State) (as' : List Act) → AreLawfulActs s as' → ActsFit s as' → ((d : Deed) → ActsDo s as' d → H d) → IsSound H s → Tells (after_acts s as').draws (lines_told s as')
    acts_tell s [] lawful fit all sound = tells_none s.draws
    acts_tell s (a ∷ as') lawful fit all sound =
        let o : Outcome = acted s a in
        let fits : FitIn H s.world o.moves = fit_in H s.world o.moves fit.0 (λ x h. all x (inl h)) in
        let end : List Draw = (after_acts o.state as').draws in
        tells_both end o.lines (lines_told o.state as') (tells_later o.state.draws end (acts_grow o.state as') o.lines (act_tells s a fits sound))
        (acts_tell o.state as' lawful.1 fit.1 (λ x h. all x (inr h)) (act_keeps every s a lawful.0 fits sound))

    pub acts_written : (as' : List Act) → AreLawfulActs start as' → ActsFit start as' → ((d : Deed) → ActsDo start as' d → H d) → GivesWhatWasWritten as'
    acts_written as' lawful fit all = record { once = draws_differ every as' lawful fit all; lines = acts_tell start as' lawful fit all start_sound }
