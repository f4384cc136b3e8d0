-- The keys that lists tell come from puts and copies: each passes a test where theirs do.
use Rattle.std.proofs.Common.{◌≡◌, inl, inr, ℕ, zero, suc, Bool, true, false, Option, Some, None, if◌then◌else◌, List, [], ◌∷◌, ◌++◌, length, refl, sym, ap, ◌∙◌, subst, arith}
use Rattle.std.specs.Prelude.{IsTrue, ⊤, slice_get}
use Rattle.std.specs.List.{AllByRecursion, Contains}
use Rattle.std.proofs.lemmas.List.Elements.{All-nil, Contains-append_cases}
use Rattle.crdt_rows.specs.declared.version.Version.{Version}
use Rattle.crdt_rows.specs.declared.body.Meta.{Meta}
use Rattle.crdt_rows.specs.declared.version_row.BlockRef.{BlockRef}
use Rattle.crdt_rows.specs.declared.object_row.ObjectRow.{ObjectRow}
use Rattle.crdt_rows.specs.declared.any_row.AnyRow.{AnyRow}
use Rattle.wire_messages.specs.declared.phase.PhaseEnd.{PhaseEnd}
use Rattle.wire_messages.specs.declared.phase.PhaseEnd.TheVariants.{Row as Answered, Window, Kept, Block}
use Rattle.wire_messages.specs.declared.phase.Phase.TheVariants.{Store}
use Rattle.cluster_machine.specs.declared.step.Refusal.TheVariants.{NotMember, NoSuchBucket}
use Rattle.cluster_machine.specs.declared.step.Step.TheVariants as step
use Rattle.cluster_machine.specs.Layouts.{layouts}
use Rattle.cluster_machine.specs.Node.{Ended}
use Rattle.cluster_machine.specs.World.{clock, is_member_at, numbered, undelivered}
use Rattle.history_model.specs.declared.record.Kind.{Kind}
use Rattle.history_model.specs.declared.record.Kind.TheVariants as kind
use Rattle.history_model.specs.declared.record.Record.{Record}
use Rattle.history_model.specs.declared.record.Record.TheVariants.{Began}
use Rattle.history_model.specs.Record.{is_source}
use Rattle.flow_model.specs.declared.order.Order.{Order}
use Rattle.flow_model.specs.declared.flow.Name.{Name}
use Rattle.flow_model.specs.declared.flow.Content.{Content}
use Rattle.flow_model.specs.declared.flow.Wish.{Wish}
use Rattle.flow_model.specs.declared.flow.Wish.TheVariants as wish
use Rattle.flow_model.specs.declared.flow.Aim.{Aim}
use Rattle.flow_model.specs.declared.flow.Aim.TheVariants as aim
use Rattle.flow_model.specs.declared.flow.Stage.{Stage}
use Rattle.flow_model.specs.declared.flow.Stage.TheVariants.{Drawing, Uploading, Receiving, Aborting, Completing, Looking, Opening, Gathering, Listing}
use Rattle.flow_model.specs.declared.flow.Flow.{Flow}
use Rattle.flow_model.specs.declared.flow.FlowStep.{FlowStep}
use Rattle.flow_model.specs.declared.flow.FlowStep.TheVariants.{More, Need, Wait, End}
use Rattle.flow_model.specs.declared.flow.FlowEnd.{FlowEnd}
use Rattle.flow_model.specs.declared.flow.FlowEnd.TheVariants.{Stored, Found, Nothing, Listed, Superseded, Aborted}
use Rattle.flow_model.specs.Blocks.{has_piece, is_long}
use Rattle.flow_model.specs.Flow.{started}
use Rattle.flow_model.specs.Rows.{uploading, block_rows}
use Rattle.flow_model.specs.Says.{Said, none, marked, inline, in_blocks, said_by, said_of, is_object, Named, unnamed, whole, deleted, named_by, shown_rows}
use Rattle.flow_model.specs.Next.{drawn, stores, more, completes, writes, uploads, found, reads_on, looked, gathers, opened, lists, goes_on as flow_goes_on, next}
use Rattle.store_model.specs.Answers.{Entry, with_entry, entries, lines_of, record_of, lines_of_end}
use Rattle.store_model.specs.Orders.{buckets_of}
use Rattle.store_model.specs.Run.{Moving, State, Asked, Draw, Outcome, silent, refusal, plainly, effect, doing, are_buckets, phases, began_with, opened as opens_request, begins, draws_of, takes, follows, follow, goes_on, delivers, then_drains, drains}
use Rattle.store_laws.proofs.Elements.{there}
use Rattle.store_laws.proofs.Deeds.{Deed}
use Rattle.store_laws.proofs.Every.{EveryWorld}
use Rattle.store_laws.proofs.Going.{flow_of}
use Rattle.store_laws.proofs.Listed.{new_shown}
use Rattle.store_laws.proofs.Good.{IsGood}
use Rattle.store_laws.proofs.Covering.{IsSaid}
use Rattle.store_laws.proofs.Rows.{FoundIn}
use Rattle.store_laws.proofs.Sound.{began, IsWishOf, listed, IsShown, ScansFor, IsSound, sights}
use Rattle.store_laws.proofs.Grown.{Rests}
use Rattle.store_laws.proofs.Ends.{HasScanned, IsEnd}
use Rattle.store_laws.proofs.Stepping.{step_sound, calm_fine, calm_ends}
use Rattle.store_laws.proofs.Enders.{is_calm}
use Rattle.store_laws.proofs.Acts.{delivers_keeps}
use Rattle.store_laws.proofs.Hashing.{FitIn, in_parts}
use Rattle.store_model.proofs.Leads.{delivers_lead}
use Rattle.crdt_core.proofs.Each.{all_append}
use Rattle.cluster_machine.specs.declared.applied.Applied.{Applied}
use Rattle.cluster_machine.specs.declared.line.Line.{Line}
use Rattle.cluster_machine.specs.declared.line.Line.TheVariants.{Listed as Shown}
use Rattle.audit_runs.proofs.Telling.{HasPlain, step_tells}

module _ (test : List ℕ → Bool) where
  -- ---- the records of requests

  -- a put or copy that a record tells of is of such a key
  abbrev pub IsOfKey : Record → Type 0
  IsOfKey (Began q n kind bucket key) = IsTrue (is_source kind) → test key ≡ true
  IsOfKey other = ⊤

  abbrev pub AreOfKeys : List Record → Type 0
  AreOfKeys history = AllByRecursion IsOfKey history

  pub and_keyed : (h more : List Record) → AreOfKeys h → AreOfKeys more → AreOfKeys (h ++ more)
  and_keyed [] more a b = b
  and_keyed (r ∷ rs) more a b = (a.0, and_keyed rs more a.1 b)

  record_at : (h : List Record) (i : ℕ) (x : Record) → AreOfKeys h → slice_get h i ≡ Some x → IsOfKey x
  record_at [] i x all at = cc
  record_at (r ∷ rs) zero x all at = let is : Some r ≡ Some x = at in let same : r ≡ x = cc in subst IsOfKey same all.0
  record_at (r ∷ rs) (suc i) x all at = record_at rs i x all.1 at

  -- how a request ends by itself begins none
  end_keyed : (q : ℕ) (end : FlowEnd) → IsOfKey (record_of q end)
  end_keyed q (Stored version meta) = tt
  end_keyed q (Found version meta body) = tt
  end_keyed q Nothing = tt
  end_keyed q (Listed rows) = tt
  end_keyed q (Superseded id) = tt
  end_keyed q Aborted = tt

  takes_keyed : (s : State) (q : ℕ) (a : Asked) (ds : List Draw) (st : FlowStep) → AreOfKeys s.history → AreOfKeys (takes s q a ds st).state.history
  takes_keyed s q a ds (More flow phase) h = h
  takes_keyed s q a ds (Need flow wanted) h = h
  takes_keyed s q a ds (Wait flow) h = h
  takes_keyed s q a ds (End end) h = and_keyed s.history (record_of q end ∷ []) h (end_keyed q end, tt)

  follows_keyed : (s : State) (q : ℕ) (a : Asked) (end : PhaseEnd AnyRow) (flow : Option Flow) → AreOfKeys s.history → AreOfKeys (follows s q a end flow).state.history
  follows_keyed s q a end None h = h
  follows_keyed s q a end (Some flow) h =
      let now = clock s.world a.node in takes_keyed (record s { saw = record { request = q; end = end } ∷ s.saw }) q a (draws_of s q flow.block flow.stage end now) (next flow end now) h

  follow_keyed : (s : State) (q : ℕ) (asked : Option Asked) (end : PhaseEnd AnyRow) → AreOfKeys s.history → AreOfKeys (follow s q asked end).state.history
  follow_keyed s q None end h = h
  follow_keyed s q (Some a) end h = follows_keyed s q a end a.flow h

  goes_on_keyed : (s : State) (ends : List (Ended AnyRow)) → AreOfKeys s.history → AreOfKeys (goes_on s ends).state.history
  goes_on_keyed s [] h = h
  goes_on_keyed s (e ∷ es) h = follow_keyed s e.request (numbered s.asked e.request) e.how h

  pub delivers_keyed : (s : State) (m : ℕ) → AreOfKeys s.history → AreOfKeys (delivers s m).state.history
  delivers_keyed s m h = let d : Moving = plainly (step.Deliver m) in goes_on_keyed (doing s d) (effect s d).ends h

  pub drains_keyed : (n : ℕ) (s : State) → AreOfKeys s.history → AreOfKeys (drains n s).state.history
  drains_keyed zero s h = h
  drains_keyed (suc n) s h =
      elim (undelivered s.world) as (λ o. AreOfKeys (elim o as (λ o. Outcome) [ None ↦ silent s | Some m ↦ let o = delivers s m in then_drains o (drains n o.state) ]).state.history) [
        | None ↦ h
        | Some m ↦ drains_keyed n (delivers s m).state (delivers_keyed s m h)
      ]

  pub begins_keyed : (s : State) (n : ℕ) (o : Order) → IsOfKey (began_with (suc (length s.world.requests)) n o) → AreOfKeys s.history → AreOfKeys (begins s n o).state.history
  begins_keyed s n o one h =
      elim (is_member_at layouts s.world n) as (λ b. AreOfKeys (if b then (if are_buckets s.buckets (buckets_of o) then opens_request s n o else refusal s NoSuchBucket) else refusal s NotMember).state.history) [
        | true ↦ elim (are_buckets s.buckets (buckets_of o)) as (λ b. AreOfKeys (if b then opens_request s n o else refusal s NoSuchBucket).state.history) [
          | true ↦ and_keyed s.history (began_with (suc (length s.world.requests)) n o ∷ []) h (one, tt)
          | false ↦ h
        ]
        | false ↦ h
      ]

  -- ---- rows that a list shows

  -- each key of these rows is such a key
  abbrev AreKeyed : List ObjectRow → Type 0
  AreKeyed rows = (r : ObjectRow) → Contains rows r → test r.key ≡ true

  entry_whole : (key : List ℕ) (said : Said) (es : List Entry) → test key ≡ true → AllByRecursion (λ k. test k.0 ≡ true) (lines_of es) → AllByRecursion (λ k. test k.0 ≡ true) (lines_of (with_entry key said es))
  entry_whole key none es one rest = rest
  entry_whole key (marked v) es one rest = rest
  entry_whole key (inline v meta body) es one rest = (one, rest)
  entry_whole key (in_blocks v meta first) es one rest = (one, rest)

  entries_whole : (rows : List ObjectRow) → AreKeyed rows → AllByRecursion (λ k. test k.0 ≡ true) (lines_of (entries rows))
  entries_whole [] h = tt
  entries_whole (r ∷ rs) h = entry_whole r.key (said_by r) (entries rs) (h r (0, omega arith, refl)) (entries_whole rs (λ x c. h x (there r rs x c)))

  -- where there is an object, something is said of it
  said_whole : (key : List ℕ) (said : Said) → is_object said ≡ true → ((v : Version) → IsSaid v said → test key ≡ true) → test key ≡ true
  said_whole key none is h = cc
  said_whole key (marked v) is h = cc
  said_whole key (inline v meta body) is h = h v refl
  said_whole key (in_blocks v meta first) is h = h v refl

  module _ {H : Deed → Type 0} (s : State) (sound : IsSound H s) (keyed : AreOfKeys s.history) where
    -- a version that was found was drawn by a put or copy of its object
    found_key : (name : Name) (v : Version) → FoundIn s.draws name v → test name.key ≡ true
    found_key name v f =
        let had = sound.drawn f.draw f.drawn in
        subst (λ k. test k ≡ true) f.key (record_at s.history had.place (began f.draw.request had.node had.kind f.draw.name) keyed had.began_at (subst (IsWishOf had.kind) f.wish_is had.fits))

    row_whole : (q : ℕ) (own : Name) (r : ObjectRow) → IsShown H s.draws s.history q own r → test r.key ≡ true
    row_whole q own r shown = said_whole r.key (said_by r) shown.0 (λ v is. found_key (listed own r.key) v (shown.1 v is).found)

  -- ---- how requests end

  -- so are the keys of the rows of a list that is done
  abbrev StepWhole : FlowStep → Type 0
  StepWhole (End (Listed rows)) = AreKeyed rows
  StepWhole step = ⊤

  module _ (P : Line Applied → Type 0) (plain : HasPlain P) (told_list : (q : ℕ) (keys : List (List ℕ × ℕ × ℕ × ℕ)) → AllByRecursion (λ k. test k.0 ≡ true) keys → P (Shown q keys)) where
    end_whole : (q : ℕ) (k : Kind) (end : FlowEnd) → StepWhole (End end) → AllByRecursion P (lines_of_end q k end)
    end_whole q k (Stored version meta) h = (plain.done _ _ _ _ _, tt)
    end_whole q kind.Put (Found version meta body) h = (plain.done _ _ _ _ _, tt)
    end_whole q kind.Get (Found version meta body) h = (plain.done _ _ _ _ _, tt)
    end_whole q kind.Head (Found version meta body) h = (plain.done _ _ _ _ _, tt)
    end_whole q kind.Delete (Found version meta body) h = (plain.done _ _ _ _ _, tt)
    end_whole q kind.Copy (Found version meta body) h = (plain.done _ _ _ _ _, tt)
    end_whole q kind.List (Found version meta body) h = (plain.done _ _ _ _ _, tt)
    end_whole q k Nothing h = (plain.done _ _ _ _ _, tt)
    end_whole q k (Listed rows) h = (told_list q (lines_of (entries rows)) (entries_whole rows h), tt)
    end_whole q k (Superseded id) h = (plain.ended _ _, tt)
    end_whole q k Aborted h = tt

    module _ (id block : ℕ) where
      completes_whole : (name : Name) (v : Version) (w : Wish) → StepWhole (completes id block name v w)
      completes_whole name v wish.Marker = tt
      completes_whole name v (wish.Stream coming) = tt
      completes_whole name v (wish.Content c) = tt

      writes_whole : (name : Name) (v : Version) (w : Wish) → StepWhole (writes id block name v w)
      writes_whole name v wish.Marker = tt
      writes_whole name v (wish.Stream coming) = tt
      writes_whole name v (wish.Content c) =
          elim (is_long c.body) as (λ b. StepWhole (elim b as (λ b. FlowStep) [ true ↦ more id block (Uploading name v c 0) (stores (uploading name v)) | false ↦ completes id block name v (wish.Content c) ])) [
            | true ↦ tt
            | false ↦ tt
          ]

      uploads_whole : (name : Name) (v : Version) (c : Content) (i : ℕ) → StepWhole (uploads id block name v c i)
      uploads_whole name v c i =
          elim (has_piece block c.body i) as (λ b. StepWhole (elim b as (λ b. FlowStep) [ true ↦ more id block (Uploading name v c (suc i)) (Store (block_rows v.id block c.body i)) | false ↦ completes id block name v (wish.Content c) ])) [
            | true ↦ tt
            | false ↦ tt
          ]

      gives_whole : (aim : Aim) (v : Version) (meta : Meta) (body : List ℕ) → StepWhole (found id block aim v meta body)
      gives_whole aim.Get v meta body = tt
      gives_whole aim.Head v meta body = tt
      gives_whole (aim.Copy name headers) v meta body = tt

      gathers_whole : (aim : Aim) (v : Version) (meta : Meta) (left : List BlockRef) (body : List ℕ) → StepWhole (gathers id block aim v meta left body)
      gathers_whole aim v meta [] body = gives_whole aim v meta body
      gathers_whole aim v meta (b ∷ left) body = tt

      opened_whole : (aim : Aim) (v : Version) (meta : Meta) (named : Named) → StepWhole (opened id block aim v meta named)
      opened_whole aim v meta unnamed = tt
      opened_whole aim v meta (whole blocks) = gathers_whole aim v meta blocks []
      opened_whole aim v meta deleted = tt

      reads_on_whole : (aim : Aim) (v : Version) (meta : Meta) → StepWhole (reads_on id block aim v meta)
      reads_on_whole aim.Get v meta = tt
      reads_on_whole aim.Head v meta = tt
      reads_on_whole (aim.Copy name headers) v meta = tt

      looked_whole : (aim : Aim) (said : Said) → StepWhole (looked id block aim said)
      looked_whole aim none = tt
      looked_whole aim (marked v) = tt
      looked_whole aim (inline v meta body) = gives_whole aim v meta body
      looked_whole aim (in_blocks v meta first) = reads_on_whole aim v meta

      lists_whole : (bucket prefix : List ℕ) (rows : List ObjectRow) (reach : Option (List ℕ)) → AreKeyed rows → StepWhole (lists id block bucket prefix rows reach)
      lists_whole bucket prefix rows None h = h
      lists_whole bucket prefix rows (Some after) h = tt

    takes_whole : (s : State) (q : ℕ) (a : Asked) (ds : List Draw) (st : FlowStep) → StepWhole st → AllByRecursion P (takes s q a ds st).lines
    takes_whole s q a ds (More flow phase) h = step_tells P plain s.world (phases q phase).step (phases q phase).choice tt
    takes_whole s q a ds (Need flow wanted) h = tt
    takes_whole s q a ds (Wait flow) h = tt
    takes_whole s q a ds (End end) h = end_whole q a.kind end h

    -- ---- a phase ended

    module _ {H : Deed → Type 0} (every : EveryWorld H) where
      module _ (s : State) (q : ℕ) (a : Asked) (at : numbered s.asked q ≡ Some a) (sound : IsSound H s) (keyed : AreOfKeys s.history) where
        -- each row that a list has with this window has a whole key
        window_whole : (flow : Flow) (bucket prefix : List ℕ) (rows : List ObjectRow) (others : List AnyRow) (reach : Option (List ℕ)) → a.flow ≡ Some flow → flow.stage ≡ Listing bucket prefix rows →
            HasScanned H s.asked s.draws s.history (sights s) s.world.reads q others reach → AreKeyed (rows ++ shown_rows others)
        window_whole flow bucket prefix rows others reach flow_is stage_is end r c =
            let w = end.is_scanning.waits in
            let own : Name = record { bucket = bucket; key = prefix } in
            let some_is : Some w.one ≡ Some a = sym w.is_there ∙ at in
            let one_is : w.one ≡ a = cc in
            let flows : Some w.flow ≡ Some flow = sym w.flow_is ∙ (ap (λ (b : Asked). b.flow) one_is ∙ flow_is) in
            let same : w.flow ≡ flow = cc in
            let scans : ScansFor H s.draws s.history (sights s) q (Listing bucket prefix rows) end.scan = subst (λ (g : Stage). ScansFor H s.draws s.history (sights s) q g end.scan) (ap (λ (f : Flow). f.stage) same ∙ stage_is) end.is_scanning.scans in
            elim (Contains-append_cases rows (shown_rows others) r c) [
              | inl old ↦ row_whole s sound keyed q own r (scans.2.shown r old)
              | inr new ↦ row_whole s sound keyed q own r (new_shown every s q sound bucket prefix rows others reach end.scan end.is_there scans.0 scans.1 end.is_scanning.has end.is_scanning.proper r new)
            ]

        stage_whole : (id block : ℕ) (stage : Stage) (end : PhaseEnd AnyRow) (now : ℕ) → a.flow ≡ Some (flow_of id block stage) → IsEnd H s.asked s.draws s.history (sights s) s.world.kept s.world.reads q end →
            StepWhole (flow_goes_on id block stage end now)
        stage_whole id block (Drawing name w) (Answered value) now flow_is end = writes_whole id block name (drawn id value now) w
        stage_whole id block (Uploading name v c stored) Kept now flow_is end = uploads_whole id block name v c stored
        stage_whole id block (Receiving name v coming received) Kept now flow_is end = tt
        stage_whole id block (Aborting v) Kept now flow_is end = tt
        stage_whole id block (Completing v meta) Kept now flow_is end = tt
        stage_whole id block (Looking name aim) (Answered value) now flow_is end = looked_whole id block aim (said_of value)
        stage_whole id block (Opening v meta aim) (Answered value) now flow_is end = opened_whole id block aim v meta (named_by value meta.size)
        stage_whole id block (Gathering v meta aim left body) (Block bytes) now flow_is end = gathers_whole id block aim v meta left (body ++ bytes)
        stage_whole id block (Listing bucket prefix rows) (Window others reach) now flow_is end = lists_whole id block bucket prefix (rows ++ shown_rows others) reach
            (window_whole (flow_of id block (Listing bucket prefix rows)) bucket prefix rows others reach flow_is refl end)
        stage_whole id block _ _ now flow_is end = tt

      follows_whole : (s : State) (q : ℕ) (a : Asked) → numbered s.asked q ≡ Some a → IsSound H s → AreOfKeys s.history → (end : PhaseEnd AnyRow) (flow : Option Flow) → a.flow ≡ flow →
          IsEnd H s.asked s.draws s.history (sights s) s.world.kept s.world.reads q end → AllByRecursion P (follows s q a end flow).lines
      follows_whole s q a at sound keyed end None flow_is h = tt
      follows_whole s q a at sound keyed end (Some flow) flow_is h =
          let now : ℕ = clock s.world a.node in
          takes_whole (record s { saw = record { request = q; end = end } ∷ s.saw }) q a (draws_of s q flow.block flow.stage end now) (next flow end now)
          (stage_whole s q a at sound keyed flow.id flow.block flow.stage end now flow_is h)

      follow_whole : (s : State) (q : ℕ) (asked : Option Asked) (end : PhaseEnd AnyRow) → numbered s.asked q ≡ asked → IsSound H s → AreOfKeys s.history → IsEnd H s.asked s.draws s.history (sights s) s.world.kept s.world.reads q end →
          AllByRecursion P (follow s q asked end).lines
      follow_whole s q None end at sound keyed h = tt
      follow_whole s q (Some a) end at sound keyed h = follows_whole s q a at sound keyed end a.flow refl h

      goes_on_whole : (s : State) (ends : List (Ended AnyRow)) → IsSound H s → AreOfKeys s.history →
          AllByRecursion (λ (e : Ended AnyRow). IsEnd H s.asked s.draws s.history (sights s) s.world.kept s.world.reads e.request e.how × Rests s e.request) ends → AllByRecursion P (goes_on s ends).lines
      goes_on_whole s [] sound keyed h = tt
      goes_on_whole s (e ∷ es) sound keyed h = follow_whole s e.request (numbered s.asked e.request) e.how refl sound keyed h.0.0

      pub delivers_whole : (s : State) (m : ℕ) → FitIn H s.world (delivers s m).moves → IsSound H s → AreOfKeys s.history → AllByRecursion P (delivers s m).lines
      delivers_whole s m fits sound keyed =
          let d : Moving = plainly (step.Deliver m) in
          let calm = is_calm every s d tt sound in
          all_append P (effect s d).tells (goes_on (doing s d) (effect s d).ends).lines (step_tells P plain s.world d.step d.choice tt)
          (goes_on_whole (doing s d) (effect s d).ends (step_sound s d sound (tt, tt, tt, fits.0.1, tt) fits.0.2 (All-nil (IsGood s.draws)) (calm_fine s (effect s d) sound calm)) keyed (calm_ends s (effect s d) sound calm))

      pub drains_whole : (n : ℕ) (s : State) → FitIn H s.world (drains n s).moves → IsSound H s → AreOfKeys s.history → AllByRecursion P (drains n s).lines
      drains_whole zero s fits sound keyed = tt
      drains_whole (suc n) s fits sound keyed =
          elim (undelivered s.world) as (λ o. FitIn H s.world (elim o as (λ o. Outcome) [ None ↦ silent s | Some m ↦ let o = delivers s m in then_drains o (drains n o.state) ]).moves →
          AllByRecursion P (elim o as (λ o. Outcome) [ None ↦ silent s | Some m ↦ let o = delivers s m in then_drains o (drains n o.state) ]).lines) [
            | None ↦ λ fits. tt
            | Some m ↦ λ fits.
                let first : Outcome = delivers s m in
                let rest : Outcome = drains n first.state in
                let parts = in_parts H s.world first.moves rest.moves fits in
                all_append P first.lines rest.lines (delivers_whole s m parts.0 sound keyed)
                (drains_whole n first.state (subst (λ w. FitIn H w rest.moves) (delivers_lead s m) parts.1) (delivers_keeps every s m parts.0 sound) (delivers_keyed s m keyed))
          ] fits

    -- a request that begins tells what its first phase sends
    pub begins_whole : (s : State) (n : ℕ) (o : Order) → AllByRecursion P (begins s n o).lines
    begins_whole s n o =
        elim (is_member_at layouts s.world n) as (λ b. AllByRecursion P (if b then (if are_buckets s.buckets (buckets_of o) then opens_request s n o else refusal s NoSuchBucket) else refusal s NotMember).lines) [
          | true ↦ elim (are_buckets s.buckets (buckets_of o)) as (λ b. AllByRecursion P (if b then opens_request s n o else refusal s NoSuchBucket).lines) [
            | true ↦
                let first : Moving = phases (suc (length s.world.requests)) (started o (suc (length s.world.requests)) s.block).1 in
                step_tells P plain (doing s (plainly (step.Open n))).world first.step first.choice tt
            | false ↦ tt
          ]
          | false ↦ tt
        ]
