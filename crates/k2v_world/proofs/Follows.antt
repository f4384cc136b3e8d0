-- What a request does whose phase ended, case by case.
use Rattle.std.proofs.Common.{◌≡◌, ℕ, ◌<◌, true, false, cond, Bool, Option, Some, None, Result, Ok, Err, IfOk, List, [], ◌∷◌, length, refl, sym, ap, ◌∙◌, subst, ◌⊎◌}
use Rattle.std.specs.Prelude.{slice_get, map}
use Rattle.std.specs.Option.{unwrap_or}
use Rattle.std.proofs.lemmas.List.{length-map}
use Rattle.crdt_core.specs.declared.memory.Memory.{Memory}
use Rattle.blake2_hash.specs.Hash.{digest_of}
use Rattle.wire_messages.specs.declared.phase.Phase.TheVariants.{Store}
use Rattle.wire_messages.specs.declared.phase.PhaseEnd.{PhaseEnd}
use Rattle.wire_messages.specs.declared.phase.PhaseEnd.TheVariants.{Row, Window, Kept, Block}
use Rattle.cluster_machine.specs.declared.step.Step.{Step}
use Rattle.cluster_machine.specs.declared.step.Step.TheVariants as step
use Rattle.cluster_machine.specs.declared.step.Words.TheVariants.{Empty}
use Rattle.cluster_machine.specs.Choices.{Decision}
use Rattle.cluster_machine.specs.World.{numbered}
use Rattle.cluster_machine.specs.Step.{applied}
use Rattle.cluster_machine.specs.Worlds.{Done as Effect, FitsWith, RoomWith, HaveRoom}
use Rattle.k2v_rows.specs.declared.value.K2vValue.{K2vValue}
use Rattle.k2v_rows.specs.declared.k2v_row.K2vRow.{K2vRow}
use Rattle.k2v_rows.specs.Row.{row_join, can_put, after_put}
use Rattle.k2v_schema.specs.Schema.{words}
use Rattle.k2v_model.specs.declared.order.Ask.TheVariants.{Write, Read}
use Rattle.k2v_model.specs.declared.line.ItemLine.{ItemLine}
use Rattle.k2v_model.specs.declared.line.ItemLine.TheVariants.{WriteDone, ReadDone}
use Rattle.k2v_model.specs.Orders.{empty_row}
use Rattle.k2v_model.specs.Run as model
use Rattle.k2v_model.specs.Run.{State, Outcome, ItemRequest, silent, plainly, effect, doing, set_stage, token_at, cluster_lines, stores, finishes, writes, values_told, is_deletion, reads_on, follows, follow}
use Rattle.k2v_text.specs.declared.event.ItemTold.{ItemTold}
use Rattle.world_core.specs.declared.report.Report.{Report}
use Rattle.world_core.specs.Stands.{StandsFor, Tells as ReportTells, Overflows as WorldOverflows}
use Rattle.k2v_world.specs.declared.asked.Asked.{Asked}
use Rattle.k2v_world.specs.declared.asked.Stage.{Stage}
use Rattle.k2v_world.specs.declared.asked.Stage.TheVariants.{Reading, Storing, Shown, Over}
use Rattle.k2v_world.specs.declared.world.ItemWorld.{ItemWorld}
use Rattle.k2v_world.specs.Kept.{read_token, kept, kept_stage, is_reading, is_storing, times_at, with_stage, written}
use Rattle.k2v_world.specs.Stands.{IsItems, HasItems, IsAt, IsIn, Does, Plays, Overflows, Goes}
use Rattle.k2v_world.proofs.Places.{numbered_place, same_some, get_kept, get_none, numbered_map, times_kept, stage_kept}

-- the new world is the one after these effects, and all fits after them
abbrev IsWorldNow : ItemWorld → State → Effect K2vRow → Type 0
IsWorldNow new s e = StandsFor row_join words new.world (applied s.world e)

abbrev FitsNow : State → Effect K2vRow → Type 0
FitsNow s e = FitsWith row_join words s.world e

length_kept : (xs : List ItemRequest) → length (map kept xs) ≡ length xs
length_kept xs = length-map xs kept

-- an outcome that is nothing
pub silent_as : (old : ItemWorld) (told : ItemTold) (f : State → Outcome) → ((s : State) → IsItems old s → f s ≡ silent s) → Plays old old told silent → Plays old old told f
silent_as old told f same quiet s d = subst (λ (o : Outcome). Does old told s o) (sym (same s d)) (quiet s d)

-- nobody asked under this number
pub follow_nobody : (old : ItemWorld) (q : ℕ) (end : PhaseEnd K2vRow) → (q ≡ 0) ⊎ (length old.requests < q) → (s : State) → IsItems old s → follow s q (numbered s.requests q) end ≡ silent s
follow_nobody old q end none s d =
    let same : length old.requests ≡ length s.requests = ap (λ (rs : List Asked). length rs) d.requests ∙ length_kept s.requests in
    ap (λ o. follow s q o end) (get_none s.requests q (subst (λ n. (q ≡ 0) ⊎ (n < q)) same none))

-- windows and blocks are awaited by nobody
module _ (s : State) (q : ℕ) where
  window_ends : (m : ItemRequest) (rows : List K2vRow) (more : Option (List ℕ)) (stage : model.Stage) → follows s q m (Window rows more) stage ≡ silent s
  window_ends m rows more model.reading = refl
  window_ends m rows more (model.storing row) = refl
  window_ends m rows more (model.stored row) = refl
  window_ends m rows more (model.shown given begun) = refl
  window_ends m rows more model.over = refl

  block_ends : (m : ItemRequest) (bytes : List ℕ) (stage : model.Stage) → follows s q m (Block bytes) stage ≡ silent s
  block_ends m bytes model.reading = refl
  block_ends m bytes (model.storing row) = refl
  block_ends m bytes (model.stored row) = refl
  block_ends m bytes (model.shown given begun) = refl
  block_ends m bytes model.over = refl

  pub other_ends : (o : Option ItemRequest) (end : PhaseEnd K2vRow) → ((read : Option K2vRow) → end ≡ Row read → ⊥) → (end ≡ Kept → ⊥) → follow s q o end ≡ silent s
  other_ends None end no_row no_kept = refl
  other_ends (Some m) (Row read) no_row no_kept = absurd (no_row read refl)
  other_ends (Some m) (Window rows more) no_row no_kept = window_ends m rows more m.stage
  other_ends (Some m) (Block bytes) no_row no_kept = block_ends m bytes m.stage
  other_ends (Some m) Kept no_row no_kept = absurd (no_kept refl)

-- ---- a request at its place

module _ (c : ItemWorld) (i q : ℕ) (stage : Stage) (h : IsIn c i q stage) (a : Asked) (there : slice_get c.requests i ≡ Some a) where
  pub found_at : IsAt c i q a
  found_at = record { place = h.at.place; there = there }

  pub found_in : a.stage ≡ stage
  found_in = subst (λ (x : Asked). x.stage ≡ stage) (same_some h.one a (sym h.at.there ∙ there)) h.is_in

-- the digest that is kept of it is that of its bucket's name
pub digest_kept : (old : ItemWorld) (i : ℕ) (a : Asked) → HasItems old → slice_get old.requests i ≡ Some a → a.bucket ≡ digest_of a.order.item.bucket
digest_kept old i a has there =
    let m = get_kept has.0.requests i a (sym (ap (λ (rs : List Asked). slice_get rs i) has.1.requests) ∙ there) in
    subst (λ (x : Asked). x.bucket ≡ digest_of x.order.item.bucket) m.2 refl

module _ (old : ItemWorld) (i q : ℕ) (a : Asked) (at : IsAt old i q a) where
  -- the model's request
  abbrev pub waiting : (s : State) → IsItems old s → (m : ItemRequest) × (slice_get s.requests i ≡ Some m) × (kept m ≡ a)
  waiting s d = get_kept s.requests i a (sym (ap (λ rs. slice_get rs i) d.requests) ∙ at.there)

  followed : (s : State) (d : IsItems old s) (end : PhaseEnd K2vRow) → follow s q (numbered s.requests q) end ≡ follows s q (waiting s d).0 end (waiting s d).0.stage
  followed s d end = ap (λ o. follow s q o end) (numbered_place s.requests i q at.place ∙ (waiting s d).1)

  stage_is : (s : State) (d : IsItems old s) → kept_stage (waiting s d).0.stage ≡ a.stage
  stage_is s d = ap (λ (x : Asked). x.stage) (waiting s d).2

  -- a read's end where none is awaited
  pub read_ignored : (read : Option K2vRow) → is_reading a.stage ≡ false → (s : State) → IsItems old s → follow s q (numbered s.requests q) (Row read) ≡ silent s
  read_ignored read other s d =
      let m = waiting s d in followed s d (Row read) ∙ by_stage m.0.stage (ap is_reading (stage_is s d) ∙ other) where
        by_stage : (stage : model.Stage) → is_reading (kept_stage stage) ≡ false → follows s q (waiting s d).0 (Row read) stage ≡ silent s
        by_stage model.reading h = cc
        by_stage (model.storing row) h = refl
        by_stage (model.stored row) h = refl
        by_stage (model.shown given begun) h = refl
        by_stage model.over h = refl

  -- the end of a store phase where none is awaited
  pub kept_ignored : is_storing a.stage ≡ false → (s : State) → IsItems old s → follow s q (numbered s.requests q) Kept ≡ silent s
  kept_ignored other s d =
      let m = waiting s d in followed s d Kept ∙ by_stage m.0.stage (ap is_storing (stage_is s d) ∙ other) where
        by_stage : (stage : model.Stage) → is_storing (kept_stage stage) ≡ false → follows s q (waiting s d).0 Kept stage ≡ silent s
        by_stage model.reading h = refl
        by_stage (model.storing row) h = cc
        by_stage (model.stored row) h = refl
        by_stage (model.shown given begun) h = refl
        by_stage model.over h = refl

  -- ---- it goes on

  module _ (st : Step K2vRow) (free : (s : State) (choice : Decision) → effect s (record { step = st; choice = choice }) ≡ effect s (plainly st)) where
    -- the step was done, and the request is in another stage
    went : (new : ItemWorld) (told : ItemTold) (now : Stage) (lines : Report K2vRow → List ItemLine) → Goes old new told i st now lines → (s : State) (d : IsItems old s) (stage : model.Stage) → now ≡ kept_stage stage →
        (tells : List ItemLine) → ((report : Report K2vRow) → ReportTells report (effect s (plainly st)) → lines report ≡ tells) →
        Does new told s (record { state = doing (record s { requests = set_stage s.requests q (waiting s d).0 stage }) (plainly st); moves = plainly st ∷ []; refused = None; words = Empty; lines = tells })
    went new told now lines goes s d stage is tells so =
        let m = waiting s d in
        let did = goes.steps s.world d.world in
        let same = free s did.choice in
        let told_so : ReportTells goes.report (effect s (plainly st)) = subst (ReportTells goes.report) same did.does.tells in
        record {
          stands = record {
            world = subst (λ (e : Effect K2vRow). IsWorldNow new s e) same did.does.stands;
            buckets = ap (λ (c : ItemWorld). c.buckets) goes.rest ∙ d.buckets;
            requests =
                ap (λ (c : ItemWorld). c.requests) goes.rest
                ∙ ap (λ rs. with_stage rs i (slice_get rs i) now) d.requests
                ∙ stage_kept s.requests i q m.0 stage now at.place m.1 is;
          };
          tells = record {
            refused = ap (λ (t : ItemTold). t.refused) goes.tells;
            words = ap (λ (t : ItemTold). t.words) goes.tells;
            lines = ap (λ (t : ItemTold). t.lines) goes.tells ∙ so goes.report told_so;
          };
          fits = (subst (λ (e : Effect K2vRow). FitsNow s e) same (did.does.stands.fits, did.does.spelled), tt);
        }

    -- it has no room
    went_overflows : (f : State → Outcome) → WorldOverflows row_join words old.world st → ((s : State) (d : IsItems old s) → HaveRoom row_join words s.world (f s).moves → RoomWith row_join words s.world (effect s (plainly st))) → Overflows old f
    went_overflows f full room s d fits =
        let no = full s.world d.world in no.lacks (subst (λ (e : Effect K2vRow). RoomWith row_join words s.world e) (sym (free s no.choice)) (room s d fits))

-- a request in a stage of the code is in that of the model
is_reading_now : (stage : model.Stage) → kept_stage stage ≡ Reading → stage ≡ model.reading
is_reading_now model.reading h = refl
is_reading_now (model.storing row) h = cc
is_reading_now (model.stored row) h = cc
is_reading_now (model.shown given begun) h = cc
is_reading_now model.over h = cc

is_storing_now : (stage : model.Stage) → kept_stage stage ≡ Storing → (row : K2vRow) × (stage ≡ model.storing row)
is_storing_now model.reading h = absurd (cc)
is_storing_now (model.storing row) h = (row, refl)
is_storing_now (model.stored row) h = absurd (cc)
is_storing_now (model.shown given begun) h = absurd (cc)
is_storing_now model.over h = absurd (cc)

-- the code's tests of stages
pub reading_is : (stage : Stage) → is_reading stage ≡ true → stage ≡ Reading
reading_is Reading h = refl
reading_is Storing h = cc
reading_is (Shown times) h = cc
reading_is Over h = cc

pub storing_is : (stage : Stage) → is_storing stage ≡ true → stage ≡ Storing
storing_is Reading h = cc
storing_is Storing h = refl
storing_is (Shown times) h = cc
storing_is Over h = cc

-- ---- a request that has read

module _ (old : ItemWorld) (i q : ℕ) (a : Asked) (at : IsAt old i q a) (reads : a.stage ≡ Reading) (read : Option K2vRow) where
  read_so : (s : State) (d : IsItems old s) → follow s q (numbered s.requests q) (Row read) ≡ reads_on s q (waiting old i q a at s d).0 read a.order.ask
  read_so s d =
      let m = waiting old i q a at s d in
      followed old i q a at s d (Row read)
      ∙ ap (follows s q m.0 (Row read)) (is_reading_now m.0.stage (stage_is old i q a at s d ∙ reads))
      ∙ ap (λ (x : Asked). reads_on s q m.0 read x.order.ask) m.2

  module _ (asks : a.order.ask ≡ Read) where
    shows_so : (s : State) (d : IsItems old s) → follow s q (numbered s.requests q) (Row read) ≡ finishes s q (waiting old i q a at s d).0 (model.shown read (length s.requests)) (ReadDone q (values_told read))
    shows_so s d = read_so s d ∙ ap (reads_on s q (waiting old i q a at s d).0 read) asks

    shows_does : (new : ItemWorld) (told : ItemTold) → Goes old new told i (step.Close q) (Shown (read_token read)) (λ report. ReadDone q (values_told read) ∷ []) → Plays old new told (λ s. follow s q (numbered s.requests q) (Row read))
    shows_does new told goes s d =
        subst (λ (o : Outcome). Does new told s o) (sym (shows_so s d))
        (went old i q a at (step.Close q) (λ s choice. refl) new told (Shown (read_token read)) (λ report. ReadDone q (values_told read) ∷ []) goes s d (model.shown read (length s.requests)) refl (ReadDone q (values_told read) ∷ []) (λ report tells. refl))

    pub shows_plays : (new : ItemWorld) (r : Result ItemTold Memory) → IfOk r (λ told. Goes old new told i (step.Close q) (Shown (read_token read)) (λ report. ReadDone q (values_told read) ∷ [])) → IfOk r (λ told. Plays old new told (λ s. follow s q (numbered s.requests q) (Row read)))
    shows_plays new (Err e) h = tt
    shows_plays new (Ok told) h = shows_does new told h

    pub shows_overflows : WorldOverflows row_join words old.world (step.Close q) → Overflows old (λ s. follow s q (numbered s.requests q) (Row read))
    shows_overflows full =
        went_overflows old i q a at (step.Close q) (λ s choice. refl) (λ s. follow s q (numbered s.requests q) (Row read)) full
        (λ s d fits. let here = subst (λ (o : Outcome). HaveRoom row_join words s.world o.moves) (shows_so s d) fits in here.0)

  module _ (value : K2vValue) (token : ℕ) (asks : a.order.ask ≡ Write value token) where
    writes_so : (s : State) (d : IsItems old s) → follow s q (numbered s.requests q) (Row read) ≡ writes s q (waiting old i q a at s d).0 value token read
    writes_so s d = read_so s d ∙ ap (reads_on s q (waiting old i q a at s d).0 read) asks

    -- what a write stores, by its row
    abbrev stored_by : State → ItemRequest → Option K2vRow → Outcome
    stored_by s m None = silent s
    stored_by s m (Some row) = stores s q m row

    by_can : (s : State) (m : ItemRequest) (b : Bool) (row : K2vRow) → cond b (stores s q m row) (silent s) ≡ stored_by s m (cond b (Some row) None)
    by_can s m true row = refl
    by_can s m false row = refl

    written_so : (s : State) (d : IsItems old s) → follow s q (numbered s.requests q) (Row read) ≡ stored_by s (waiting old i q a at s d).0 (written old.requests q a value token read)
    written_so s d =
        let m = waiting old i q a at s d in
        let base = unwrap_or read (empty_row m.0.order.item) in
        let times = token_at (numbered s.requests token) in
        let same : times_at (numbered old.requests token) ≡ times = ap (λ rs. times_at (numbered rs token)) d.requests ∙ ap times_at (numbered_map s.requests token) ∙ times_kept (numbered s.requests token) in
        writes_so s d
        ∙ by_can s m.0 (can_put base m.0.node q times) (after_put base m.0.node q value times)
        ∙ ap (λ t. stored_by s m.0 (cond (can_put base m.0.node q t) (Some (after_put base m.0.node q value t)) None)) (sym same)
        ∙ ap (λ (x : Asked). stored_by s m.0 (written old.requests q x value token read)) m.2

    pub unmade : None ≡ written old.requests q a value token read → (s : State) → IsItems old s → follow s q (numbered s.requests q) (Row read) ≡ silent s
    unmade none s d = written_so s d ∙ ap (stored_by s (waiting old i q a at s d).0) (sym none)

    module _ (row : K2vRow) (made : Some row ≡ written old.requests q a value token read) where
      stores_so : (s : State) (d : IsItems old s) → follow s q (numbered s.requests q) (Row read) ≡ stores s q (waiting old i q a at s d).0 row
      stores_so s d = written_so s d ∙ ap (stored_by s (waiting old i q a at s d).0) (sym made)

      stores_does : (new : ItemWorld) (told : ItemTold) → Goes old new told i (step.Phase q (Store ((row, None) ∷ []))) Storing (λ report. cluster_lines report.lines) → Plays old new told (λ s. follow s q (numbered s.requests q) (Row read))
      stores_does new told goes s d =
          let st : Step K2vRow = step.Phase q (Store ((row, None) ∷ [])) in
          subst (λ (o : Outcome). Does new told s o) (sym (stores_so s d))
          (went old i q a at st (λ s choice. refl) new told Storing (λ report. cluster_lines report.lines) goes s d (model.storing row) refl (cluster_lines (effect s (plainly st)).tells) (λ report tells. ap cluster_lines tells.lines))

      pub stores_plays : (new : ItemWorld) (r : Result ItemTold Memory) → IfOk r (λ told. Goes old new told i (step.Phase q (Store ((row, None) ∷ []))) Storing (λ report. cluster_lines report.lines)) → IfOk r (λ told. Plays old new told (λ s. follow s q (numbered s.requests q) (Row read)))
      stores_plays new (Err e) h = tt
      stores_plays new (Ok told) h = stores_does new told h

      pub stores_overflows : WorldOverflows row_join words old.world (step.Phase q (Store ((row, None) ∷ []))) → Overflows old (λ s. follow s q (numbered s.requests q) (Row read))
      stores_overflows full =
          went_overflows old i q a at (step.Phase q (Store ((row, None) ∷ []))) (λ s choice. refl) (λ s. follow s q (numbered s.requests q) (Row read)) full
          (λ s d fits. let here = subst (λ (o : Outcome). HaveRoom row_join words s.world o.moves) (stores_so s d) fits in here.0)

-- ---- a write that is acknowledged

module _ (old : ItemWorld) (i q : ℕ) (a : Asked) (at : IsAt old i q a) (stores : a.stage ≡ Storing) where
  kept_so : (s : State) (d : IsItems old s) → (row : K2vRow) × (follow s q (numbered s.requests q) Kept ≡ finishes s q (waiting old i q a at s d).0 (model.stored row) (WriteDone q (is_deletion a.order.ask) a.node))
  kept_so s d =
      let m = waiting old i q a at s d in
      let now = is_storing_now m.0.stage (stage_is old i q a at s d ∙ stores) in (
        now.0,
        followed old i q a at s d Kept
            ∙ ap (follows s q m.0 Kept) now.1
            ∙ ap (λ (x : Asked). finishes s q m.0 (model.stored now.0) (WriteDone q (is_deletion x.order.ask) x.node)) m.2,
      )

  kept_does : (new : ItemWorld) (told : ItemTold) → Goes old new told i (step.Close q) Over (λ report. WriteDone q (is_deletion a.order.ask) a.node ∷ []) → Plays old new told (λ s. follow s q (numbered s.requests q) Kept)
  kept_does new told goes s d =
      let so = kept_so s d in
      subst (λ (o : Outcome). Does new told s o) (sym so.1)
      (went old i q a at (step.Close q) (λ s choice. refl) new told Over (λ report. WriteDone q (is_deletion a.order.ask) a.node ∷ []) goes s d (model.stored so.0) refl (WriteDone q (is_deletion a.order.ask) a.node ∷ []) (λ report tells. refl))

  pub kept_plays : (new : ItemWorld) (r : Result ItemTold Memory) → IfOk r (λ told. Goes old new told i (step.Close q) Over (λ report. WriteDone q (is_deletion a.order.ask) a.node ∷ [])) → IfOk r (λ told. Plays old new told (λ s. follow s q (numbered s.requests q) Kept))
  kept_plays new (Err e) h = tt
  kept_plays new (Ok told) h = kept_does new told h

  pub kept_overflows : WorldOverflows row_join words old.world (step.Close q) → Overflows old (λ s. follow s q (numbered s.requests q) Kept)
  kept_overflows full =
      went_overflows old i q a at (step.Close q) (λ s choice. refl) (λ s. follow s q (numbered s.requests q) Kept) full
      (λ s d fits. let here = subst (λ (o : Outcome). HaveRoom row_join words s.world o.moves) (kept_so s d).1 fits in here.0)
