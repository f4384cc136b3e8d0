-- The invariant: what was stored, what is kept of versions' blocks, and what requests wait for.
use Rattle.std.specs.Prelude.{◌≡◌, ◌<◌, ◌^◌, ◌*◌, ℕ, suc, ◌-◌, true, Option, Some, List, [], ◌∷◌, ◌++◌, length, slice_set, ⊤, zero, refl, None, false, cond}
use Rattle.std.proofs.Common.{ap, sym, subst, ◌∙◌, inl, inr, arith}
use Rattle.std.specs.List.{All, Contains}
use Rattle.std.proofs.lemmas.List.{append-nil, append_assoc}
use Rattle.std.proofs.lemmas.List.Elements.{All-nil, All-cons, All-push, All-weaker, Contains-append_cases, Contains-append_right, Contains-append_left}
use Rattle.blake2_hash.specs.Blake2b.{blake2b}
use Rattle.crdt_core.specs.Members.{Has}
use Rattle.crdt_rows.specs.declared.version.Version.{Version}
use Rattle.crdt_rows.specs.declared.any_row.AnyRow.{AnyRow}
use Rattle.crdt_rows.specs.AnyRow.{any_join}
use Rattle.object_schema.specs.Schema.{words}
use Rattle.cluster_machine.specs.Blocks.{StepBringsBlocks}
use Rattle.cluster_machine.specs.Node.{Present, resting, asking, scanning, storing, fetching, Call, Node, Question}
use Rattle.cluster_machine.specs.World.{Request, numbered, forget_delivered}
use Rattle.cluster_machine.specs.Acts.{appends}
use Rattle.cluster_machine.specs.Choices.{IsFirst}
use Rattle.cluster_machine.specs.Layouts.{layouts}
use Rattle.layout_roles.specs.declared.layout.Layout.{Layout}
use Rattle.quorum_model.specs.Quorum.{is_among}
use Rattle.std.specs.Option.{unwrap_or}
use Rattle.view_model.specs.Layouts.{reading}
use Rattle.cluster_machine.specs.Fits.{Fits}
use Rattle.history_model.specs.declared.record.Cause.TheVariants.{Superseded}
use Rattle.history_model.specs.declared.record.Record.{Record}
use Rattle.history_model.specs.declared.record.Record.TheVariants.{Ended}
use Rattle.cluster_machine.specs.Worlds.{IsLawfulRun, next, installed}
use Rattle.cluster_machine.specs.declared.step.Step.{Step}
use Rattle.cluster_machine.specs.declared.step.Step.TheVariants.{Deliver}
use Rattle.cluster_machine.specs.Step.{changed}
use Rattle.machine_origins.specs.Origins.{stored_by, stored_in}
use Rattle.machine_origins.specs.Following.{GoesOn, Continues}
use Rattle.flow_model.specs.declared.flow.Name.{Name}
use Rattle.flow_model.specs.declared.flow.Coming.{Coming}
use Rattle.flow_model.specs.declared.flow.Content.{Content}
use Rattle.flow_model.specs.declared.flow.Wish.TheVariants as wish
use Rattle.flow_model.specs.declared.flow.Stage.{Stage}
use Rattle.flow_model.specs.declared.flow.Stage.TheVariants.{Uploading, Receiving, Needing, Aborting, Opening, Gathering, Drawing, Completing, Looking, Listing}
use Rattle.flow_model.specs.declared.flow.Flow.{Flow}
use Rattle.flow_model.specs.Blocks.{piece, has_piece, is_long}
use Rattle.flow_model.specs.Rows.{version_row, reference_row}
use Rattle.store_model.specs.Run.{World, Moving, State, Asked, Draw, effect}
use Rattle.store_laws.proofs.Elements.{none_in, there}
use Rattle.store_laws.proofs.Reached.{reached_step, reached_weaker, reached_forgetting, reached_installing}
use Rattle.store_laws.proofs.Sound.{IsReachedBy}
use Rattle.store_laws.proofs.Grown.{Rests, asked_set}
use Rattle.machine_origins.proofs.Places.{numbered_set_cases}
use Rattle.store_anchors.specs.Stored.{blocks_by, blocks_of}
use Rattle.store_anchors.proofs.Kept.{AsksNames, Fetches, IsReplaced, names_later, fetches_later, replaced_later, replaced_asked, IsPart, Past, Grows, HasPiece, IsRowOf, piece_later, row_later}
use Rattle.store_laws.proofs.Hashing.{DoesIn}
use Rattle.store_laws.proofs.Deeds.{Deed}

-- blocks are named by their digests
abbrev pub digest : List ℕ → List ℕ
digest bytes = blake2b 32 bytes

-- a write has drawn this version for these bytes, and each block before the last one was stored, and its rows are kept
pub record HasUploaded (p : Past) (q block : ℕ) (name : Name) (v : Version) (c : Content) (k : ℕ) : Type 0 where
  pub moment : ℕ
  pub drawn : Contains p.draws (record { request = q; name = name; version = v; wish = wish.Content c; block = block; moment = moment })
  pub long : is_long c.body ≡ true
  pub before : (i : ℕ) → suc i < k → HasPiece p v.id block c.body i

-- a write has drawn this version for a stream, and each block that came but the last was stored, and its rows are kept; all are whole while more is to come
pub record HasReceived (p : Past) (q block : ℕ) (name : Name) (v : Version) (coming : Coming) (received : List ℕ) : Type 0 where
  pub moment : ℕ
  pub drawn : Contains p.draws (record { request = q; name = name; version = v; wish = wish.Stream coming; block = block; moment = moment })
  pub count : ℕ
  pub whole : length received < coming.length → length received ≡ count * block
  pub ends : has_piece block received (length received) ≡ false
  pub before : (i : ℕ) → has_piece block received (suc i) ≡ true → HasPiece p v.id block received i

-- each block that came was stored, and its rows are kept
abbrev pub AreStored : Past → ℕ → Version → List ℕ → Type 0
AreStored p block v received = (i : ℕ) → has_piece block received i ≡ true → HasPiece p v.id block received i

-- what holds of a request that waits so
abbrev pub Holds : Past → ℕ → ℕ → Stage → Type 0
Holds p q block (Uploading name v c k) = HasUploaded p q block name v c k
Holds p q block (Receiving name v coming received) = HasReceived p q block name v coming received
Holds p q block (Needing name v coming received) = HasReceived p q block name v coming received × AreStored p block v received
Holds p q block _ = ⊤

-- a request that waits so stores these rows: an upload stores those of its last block, and that block, and so does a stream; one that reads, or needs its client, stores none
abbrev pub Stores : Past → ℕ → Stage → List AnyRow → Type 0
Stores p block (Uploading name v c (suc i)) rows = (rows ≡ version_row v.id block c.body i ∷ reference_row v.id block c.body i ∷ []) × Contains p.blocks (piece block c.body i)
Stores p block (Uploading name v c zero) rows = ⊤
Stores p block (Receiving name v coming received) rows = (i : ℕ) → has_piece block received i ≡ true → has_piece block received (suc i) ≡ false →
    (rows ≡ version_row v.id block received i ∷ reference_row v.id block received i ∷ []) × Contains p.blocks (piece block received i)
Stores p block (Aborting v) rows = ⊤
Stores p block (Completing v meta) rows = ⊤
Stores p block stage rows = ⊥

-- a request that waits so asks for this: a read that has found a version in blocks, for that version's row
abbrev pub Asks : Past → Stage → Question AnyRow → Type 0
Asks p (Drawing name w) question = ⊤
Asks p (Looking name aim) question = ⊤
Asks p (Opening v meta aim) question = AsksNames p v meta question
Asks p stage question = ⊥

-- a request that waits so scans
abbrev pub Scans : Stage → Type 0
Scans (Listing bucket prefix rows) = ⊤
Scans stage = ⊥

-- a request that waits so fetches this block: a read, the next one of the version that it found
abbrev pub Gets : Past → Stage → List ℕ → Type 0
Gets p (Gathering v meta aim left body) hash = Fetches p v meta left body hash
Gets p stage hash = ⊥

-- the phase of a request that waits so
abbrev pub Awaits : Past → ℕ → Stage → Present AnyRow → Type 0
Awaits p block stage resting = ⊤
Awaits p block stage (asking question answers) = Asks p stage question
Awaits p block stage (scanning scan answers) = Scans stage
Awaits p block stage (storing rows slots) = Stores p block stage rows
Awaits p block stage (fetching hash) = Gets p stage hash

-- the rows of a store phase are those of writes
abbrev pub AreRows : Past → Present AnyRow → Type 0
AreRows p (storing rows slots) = (r : AnyRow) → Contains rows r → IsRowOf p r
AreRows p _ = ⊤

-- what request q is in: writes' rows are stored, and it waits for its phase
pub record IsFit (asked : List Asked) (p : Past) (q : ℕ) (present : Present AnyRow) : Type 0 where
  pub rows : AreRows p present
  pub awaits : (a : Asked) (flow : Flow) → numbered asked q ≡ Some a → a.flow ≡ Some flow → Awaits p flow.block flow.stage present

-- a step begins to store rows and blocks only that these steps begin to store, the rows with their blocks
pub record IsStepOf (moves : List Moving) (st : Step AnyRow) : Type 0 where
  pub brings : StepBringsBlocks digest words st
  pub stores : All (Contains (stored_in moves)) (stored_by st)
  pub blocks : IsPart (blocks_by st) (blocks_of moves)

-- what there is after these steps
abbrev pub past : List Moving → World → List Draw → Past
past moves w draws = record { draws = draws; kept = w.kept; stored = stored_in moves; blocks = blocks_of moves }

-- after these steps: the world is one that they lead to, but that a layout was installed and messages were forgotten; each row that they began to store is a write's, and came with its block; so is each that is kept; requests wait for their phases; and where one ended superseded, a version above was stored complete
pub record IsLaid (H : Deed → Type 0) (moves : List Moving) (w : World) (asked : List Asked) (draws : List Draw) (history : List Record) : Type 0 where
  pub room : length w.requests < 2 ^ 64
  pub reached : IsReachedBy H (IsStepOf moves) w
  pub stored : All (λ (m : Moving). All (IsRowOf (past moves w draws)) (stored_by m.step)) moves
  pub kept : (r : AnyRow) → Contains w.kept r → IsRowOf (past moves w draws) r
  pub stages : (q : ℕ) (a : Asked) (flow : Flow) → numbered asked q ≡ Some a → a.flow ≡ Some flow → Holds (past moves w draws) q flow.block flow.stage
  pub fits : (n : ℕ) (c : Call AnyRow) → Has (w.nodes n).calls c → IsFit asked (past moves w draws) c.request c.present
  pub superseded : (q id : ℕ) → Contains history (Ended q (Superseded id)) → IsReplaced (past moves w draws) asked q id

abbrev pub IsLaidIn : (Deed → Type 0) → List Moving → State → Type 0
IsLaidIn H moves s = IsLaid H moves s.world s.asked s.draws s.history

-- ---- there is more

module _ (old new : Past) (more : Grows old new) where
  received_later : (q block : ℕ) (name : Name) (v : Version) (coming : Coming) (received : List ℕ) → HasReceived old q block name v coming received → HasReceived new q block name v coming received
  received_later q block name v coming received h =
      record { moment = h.moment; drawn = more.draws _ h.drawn; count = h.count; whole = h.whole; ends = h.ends; before = λ i has. piece_later old new more v.id block received i (h.before i has) }

  pub holds_later : (q block : ℕ) (stage : Stage) → Holds old q block stage → Holds new q block stage
  holds_later q block (Uploading name v c k) h =
      record { moment = h.moment; drawn = more.draws _ h.drawn; long = h.long; before = λ i lt. piece_later old new more v.id block c.body i (h.before i lt) }
  holds_later q block (Receiving name v coming received) h = received_later q block name v coming received h
  holds_later q block (Needing name v coming received) h = (received_later q block name v coming received h.0, λ i has. piece_later old new more v.id block received i (h.1 i has))
  holds_later q block _ h = tt

  stores_later : (block : ℕ) (stage : Stage) (rows : List AnyRow) → Stores old block stage rows → Stores new block stage rows
  stores_later block (Uploading name v c (suc i)) rows h = (h.0, more.blocks _ h.1)
  stores_later block (Uploading name v c zero) rows h = tt
  stores_later block (Receiving name v coming received) rows h = λ i has no_more. (let was = h i has no_more in (was.0, more.blocks _ was.1))
  stores_later block (Aborting v) rows h = tt
  stores_later block (Completing v meta) rows h = tt
  stores_later block _ rows h = absurd h

  asks_later : (stage : Stage) (question : Question AnyRow) → Asks old stage question → Asks new stage question
  asks_later (Drawing name w) question h = tt
  asks_later (Looking name aim) question h = tt
  asks_later (Opening v meta aim) question h = names_later old new more v meta question h
  asks_later _ question h = absurd h

  gets_later : (stage : Stage) (hash : List ℕ) → Gets old stage hash → Gets new stage hash
  gets_later (Gathering v meta aim left body) hash h = fetches_later old new more v meta left body hash h
  gets_later _ hash h = absurd h

  pub awaits_later : (block : ℕ) (stage : Stage) (p : Present AnyRow) → Awaits old block stage p → Awaits new block stage p
  awaits_later block stage resting h = tt
  awaits_later block stage (asking question answers) h = asks_later stage question h
  awaits_later block stage (scanning scan answers) h = h
  awaits_later block stage (storing rows slots) h = stores_later block stage rows h
  awaits_later block stage (fetching hash) h = gets_later stage hash h

  rows_later : (p : Present AnyRow) → AreRows old p → AreRows new p
  rows_later (storing rows slots) h = λ r c. row_later old new more r (h r c)
  rows_later _ h = tt

  pub fit_later : (asked : List Asked) (q : ℕ) (p : Present AnyRow) → IsFit asked old q p → IsFit asked new q p
  fit_later asked q p h = record { rows = rows_later p h.rows; awaits = λ a flow at is. awaits_later flow.block flow.stage p (h.awaits a flow at is) }

  pub all_later : (rows : List AnyRow) → All (IsRowOf old) rows → All (IsRowOf new) rows
  all_later rows h = All-weaker (IsRowOf old) (IsRowOf new) (row_later old new more) rows h

  pub stored_later : (moves : List Moving) → All (λ (m : Moving). All (IsRowOf old) (stored_by m.step)) moves → All (λ (m : Moving). All (IsRowOf new) (stored_by m.step)) moves
  stored_later moves h = All-weaker (λ (m : Moving). All (IsRowOf old) (stored_by m.step)) (λ (m : Moving). All (IsRowOf new) (stored_by m.step)) (λ m k. all_later (stored_by m.step) k) moves h

-- ---- a phase goes on

module _ (p : Past) where
  awaits_goes : (block : ℕ) (stage : Stage) (old new : Present AnyRow) → GoesOn old new → Awaits p block stage old → Awaits p block stage new
  awaits_goes block stage old resting g h = tt
  awaits_goes block stage (asking o bs) (asking q as') g h = subst (Asks p stage) (sym g) h
  awaits_goes block stage (scanning o bs) (scanning q as') g h = h
  awaits_goes block stage (storing rows before) (storing others after) g h = subst (Stores p block stage) (sym g) h
  awaits_goes block stage (fetching before) (fetching after) g h = subst (Gets p stage) (sym g) h
  awaits_goes block stage _ _ g h = absurd g

  rows_go : (old new : Present AnyRow) → GoesOn old new → AreRows p old → AreRows p new
  rows_go old resting g h = tt
  rows_go (asking o bs) (asking q as') g h = tt
  rows_go (scanning o bs) (scanning q as') g h = tt
  rows_go (storing rows before) (storing others after) g h = subst (λ rs. (r : AnyRow) → Contains rs r → IsRowOf p r) (sym g) h
  rows_go (fetching before) (fetching after) g h = tt
  rows_go _ _ g h = absurd g

  pub fit_continues : (asked : List Asked) (calls : List (Call AnyRow)) → ((c : Call AnyRow) → Has calls c → IsFit asked p c.request c.present) → (c : Call AnyRow) → Continues calls c → IsFit asked p c.request c.present
  fit_continues asked calls are c k =
      let was : IsFit asked p c.request k.before.present = subst (λ q. IsFit asked p q k.before.present) k.request (are k.before k.is_there) in
      record {
        rows = rows_go k.before.present c.present k.goes_on was.rows;
        awaits = λ a flow at is. awaits_goes flow.block flow.stage k.before.present c.present k.goes_on (was.awaits a flow at is);
      }

-- ---- a step

-- the blocks of a step more
pub blocks_more : (moves : List Moving) (m : Moving) → blocks_of (moves ++ m ∷ []) ≡ blocks_of moves ++ blocks_by m.step
blocks_more [] m = append-nil (blocks_by m.step)
blocks_more (first ∷ moves) m = ap (λ bs. blocks_by first.step ++ bs) (blocks_more moves m) ∙ sym (append_assoc (blocks_by first.step) (blocks_of moves) (blocks_by m.step))

pub blocks_old : (moves : List Moving) (m : Moving) → IsPart (blocks_of moves) (blocks_of (moves ++ m ∷ []))
blocks_old moves m b c = subst (λ (bs : List (List ℕ)). Contains bs b) (sym (blocks_more moves m)) (Contains-append_left (blocks_of moves) (blocks_by m.step) b c)

pub blocks_new : (moves : List Moving) (m : Moving) → IsPart (blocks_by m.step) (blocks_of (moves ++ m ∷ []))
blocks_new moves m b c = subst (λ (bs : List (List ℕ)). Contains bs b) (sym (blocks_more moves m)) (Contains-append_right (blocks_of moves) (blocks_by m.step) b c)

-- and of more steps
pub blocks_first : (first rest : List Moving) → IsPart (blocks_of first) (blocks_of (first ++ rest))
blocks_first [] rest b c = absurd (none_in b c)
blocks_first (m ∷ first) rest b c = elim (Contains-append_cases (blocks_by m.step) (blocks_of first) b c) [
  | inl one ↦ Contains-append_left (blocks_by m.step) (blocks_of (first ++ rest)) b one
  | inr more ↦ Contains-append_right (blocks_by m.step) (blocks_of (first ++ rest)) b (blocks_first first rest b more)
]

-- and its rows
pub stored_more : (moves : List Moving) (m : Moving) → stored_in (moves ++ m ∷ []) ≡ stored_in moves ++ stored_by m.step
stored_more [] m = append-nil (stored_by m.step)
stored_more (first ∷ moves) m = ap (λ rs. stored_by first.step ++ rs) (stored_more moves m) ∙ sym (append_assoc (stored_by first.step) (stored_in moves) (stored_by m.step))

-- what holds of each row holds of all
pub all_each : {A : Type 0} (P : A → Type 0) (xs : List A) → ((x : A) → Contains xs x → P x) → All P xs
all_each P [] h = All-nil P
all_each P (x ∷ xs) h = All-cons P x xs (h x (0, omega arith, refl)) (all_each P xs (λ y c. h y (there x xs y c)))

stored_old : (moves : List Moving) (m : Moving) → IsPart (stored_in moves) (stored_in (moves ++ m ∷ []))
stored_old moves m r c = subst (λ (rs : List AnyRow). Contains rs r) (sym (stored_more moves m)) (Contains-append_left (stored_in moves) (stored_by m.step) r c)

-- a step that stores nothing is always one of them
pub still_of : (moves : List Moving) (st : Step AnyRow) → StepBringsBlocks digest words st → stored_by st ≡ [] → blocks_by st ≡ [] → IsStepOf moves st
still_of moves st brings stores blocks = record {
  brings = brings;
  stores = subst (All (Contains (stored_in moves))) (sym stores) (All-nil (Contains (stored_in moves)));
  blocks = λ b c. absurd (none_in b (subst (λ (bs : List (List ℕ)). Contains bs b) blocks c));
}

step_more : (moves : List Moving) (m : Moving) (st : Step AnyRow) → IsStepOf moves st → IsStepOf (moves ++ m ∷ []) st
step_more moves m st is = record {
  brings = is.brings;
  stores = All-weaker (Contains (stored_in moves)) (Contains (stored_in (moves ++ m ∷ []))) (stored_old moves m) (stored_by st) is.stores;
  blocks = λ b c. blocks_old moves m b (is.blocks b c);
}

step_new : (moves : List Moving) (m : Moving) → StepBringsBlocks digest words m.step → IsStepOf (moves ++ m ∷ []) m.step
step_new moves m brings = record {
  brings = brings;
  stores = all_each (Contains (stored_in (moves ++ m ∷ []))) (stored_by m.step)
      (λ r c. subst (λ (rs : List AnyRow). Contains rs r) (sym (stored_more moves m)) (Contains-append_right (stored_in moves) (stored_by m.step) r c));
  blocks = blocks_new moves m;
}

-- what there is after a step
abbrev pub past_after : List Moving → State → Moving → Past
past_after moves s m = past (moves ++ m ∷ []) (next any_join words s.world m) s.draws

pub after_grows : (moves : List Moving) (s : State) (m : Moving) → Grows (past moves s.world s.draws) (past_after moves s m)
after_grows moves s m = record { draws = λ d c. c; kept = λ r c. Contains-append_right (effect s m).keeps s.world.kept r c; stored = stored_old moves m; blocks = blocks_old moves m }

-- what a step adds fits
pub record IsApt (moves : List Moving) (s : State) (m : Moving) : Type 0 where
  pub keeps : (r : AnyRow) → Contains (effect s m).keeps r → IsRowOf (past moves s.world s.draws) r
  pub fits : (n : ℕ) (c : Call AnyRow) → Has (changed (effect s m).nodes s.world.nodes n).calls c → IsFit s.asked (past_after moves s m) c.request c.present

module _ {H : Deed → Type 0} where
  pub laid_step : (moves : List Moving) (s : State) (m : Moving) → Fits words (next any_join words s.world m) → DoesIn H s.world m → IsLawfulRun any_join words s.world (m ∷ []) → StepBringsBlocks digest words m.step → All (IsRowOf (past moves s.world s.draws)) (stored_by m.step) →
      IsApt moves s m → IsLaidIn H moves s → IsLaid H (moves ++ m ∷ []) (next any_join words s.world m) s.asked s.draws s.history
  laid_step moves s m room hashes lawful brings stores apt laid =
      let old : Past = past moves s.world s.draws in
      let new : Past = past_after moves s m in
      let more : Grows old new = after_grows moves s m in
      record {
        room = room.requests;
        reached = reached_step (IsStepOf (moves ++ m ∷ [])) s.world m (reached_weaker s.world (step_more moves m) laid.reached) lawful hashes (step_new moves m brings) (still_of (moves ++ m ∷ []) (Deliver 0) tt refl refl);
        stored = All-push (λ (m : Moving). All (IsRowOf new) (stored_by m.step)) moves m (stored_later old new more moves laid.stored) (all_later old new more (stored_by m.step) stores);
        kept = λ r c. elim (Contains-append_cases (effect s m).keeps s.world.kept r c) [
          | inl one ↦ row_later old new more r (apt.keeps r one)
          | inr was ↦ row_later old new more r (laid.kept r was)
        ];
        stages = λ q a flow at is. holds_later old new more q flow.block flow.stage (laid.stages q a flow at is);
        fits = apt.fits;
        superseded = λ q id c. replaced_later old new more s.asked q id (laid.superseded q id c);
      }

-- ---- a request that rests waits for something else, and may draw

-- what there is with more draws
pub drawn_grows : (moves : List Moving) (s : State) (newer : List Draw) → Grows (past moves s.world s.draws) (past moves s.world (newer ++ s.draws))
drawn_grows moves s newer = record { draws = λ d c. Contains-append_right newer s.draws d c; kept = λ r c. c; stored = λ r c. c; blocks = λ b c. c }

module _ {H : Deed → Type 0} where
  pub laid_waiting : (moves : List Moving) (s : State) (q : ℕ) (a : Asked) (flow : Option Flow) (newer : List Draw) → numbered s.asked q ≡ Some a → Rests s q →
      ((f : Flow) → flow ≡ Some f → Holds (past moves s.world (newer ++ s.draws)) q f.block f.stage) → IsLaidIn H moves s → IsLaid H moves s.world (slice_set s.asked (q - 1) (record a { flow = flow })) (newer ++ s.draws) s.history
  laid_waiting moves s q a flow newer at rests hold laid =
      let one : Asked = record a { flow = flow } in
      let old : Past = past moves s.world s.draws in
      let new : Past = past moves s.world (newer ++ s.draws) in
      let more : Grows old new = drawn_grows moves s newer in
      record {
        room = laid.room;
        reached = laid.reached;
        stored = stored_later old new more moves laid.stored;
        kept = λ r c. row_later old new more r (laid.kept r c);
        stages = λ p o f there is. elim (numbered_set_cases s.asked q p a one o at there) [
          | inl e ↦ subst (λ r. Holds new r f.block f.stage) (sym e.0) (hold f (ap (λ (x : Asked). x.flow) e.1 ∙ is))
          | inr was ↦ holds_later old new more p f.block f.stage (laid.stages p o f was is)
        ];
        fits = λ n c h.
            let was : IsFit s.asked new c.request c.present = fit_later old new more s.asked c.request c.present (laid.fits n c h) in
            record {
              rows = was.rows;
              awaits = λ o f there is. elim (numbered_set_cases s.asked q c.request a one o at there) [
                | inl e ↦ subst (Awaits new f.block f.stage) (sym (rests n c h e.0)) tt
                | inr before ↦ was.awaits o f before is
              ];
            };
        superseded = λ p id c. replaced_asked new s.asked (slice_set s.asked (q - 1) one) (asked_set s.asked q a flow at) p id (replaced_later old new more s.asked p id (laid.superseded p id c));
      }

-- ---- the history grows

module _ {H : Deed → Type 0} where
  pub laid_told : (moves : List Moving) (w : World) (asked : List Asked) (draws : List Draw) (history rest : List Record) → ((q id : ℕ) → Contains rest (Ended q (Superseded id)) → IsReplaced (past moves w draws) asked q id) →
      IsLaid H moves w asked draws history → IsLaid H moves w asked draws (history ++ rest)
  laid_told moves w asked draws history rest ends laid = record {
    room = laid.room;
    reached = laid.reached;
    stored = laid.stored;
    kept = laid.kept;
    stages = laid.stages;
    fits = laid.fits;
    superseded = λ q id c. elim (Contains-append_cases history rest (Ended q (Superseded id)) c) [
      | inl old ↦ laid.superseded q id old
      | inr new ↦ ends q id new
    ];
  }

-- ---- the world changes, and no step is made

module _ {H : Deed → Type 0} where
  -- delivered messages are forgotten
  pub laid_forgetting : (moves : List Moving) (s : State) → IsLaidIn H moves s → IsLaidIn H moves (record s { world = forget_delivered s.world })
  laid_forgetting moves s laid = record {
    room = laid.room;
    reached = reached_forgetting s.world laid.reached;
    stored = laid.stored;
    kept = laid.kept;
    stages = laid.stages;
    fits = laid.fits;
    superseded = laid.superseded;
  }

  -- a first layout is installed where none was applied: calls stay
  pub laid_installing : (moves : List Moving) (s : State) (first : Layout) → IsFirst first → s.world.applied ≡ 0 → IsLaidIn H moves s → IsLaidIn H moves (record s { world = installed any_join words s.world first })
  laid_installing moves s first is_first none laid =
      let IsFitting : Node AnyRow Layout → Type 0 = λ x. (c : Call AnyRow) → Has x.calls c → IsFit s.asked (past moves s.world s.draws) c.request c.present in
      record {
        room = subst (λ (rs : List Request). length rs < 2 ^ 64) (sym (append-nil s.world.requests)) laid.room;
        reached = reached_installing s.world first is_first none laid.reached;
        stored = laid.stored;
        kept = laid.kept;
        stages = laid.stages;
        fits = λ n. elim (is_among n (reading.members first)) as (λ b. IsFitting (unwrap_or (cond b (Some (appends layouts (s.world.nodes n) first)) None) (s.world.nodes n))) [ true ↦ laid.fits n | false ↦ laid.fits n ];
        superseded = laid.superseded;
      }
