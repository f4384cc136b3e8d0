-- What every lawful run keeps, of the rows and blocks of its nodes, and of its draws.
use Rattle.std.proofs.Common.{◌≡◌, ◌≤◌, ℕ, suc, true, List, [], ◌∷◌, length, Some, refl, sym, ap, subst, ◌∙◌, arith}
use Rattle.std.specs.List.{All, Contains}
use Rattle.std.proofs.lemmas.List.Elements.{All-weaker, All-contains}
use Rattle.blake2_hash.specs.Blake2b.{blake2b}
use Rattle.layout_roles.specs.declared.layout.Layout.{Layout}
use Rattle.layout_roles.specs.declared.role.Role.{Role}
use Rattle.crdt_rows.specs.declared.version.Version.{Version}
use Rattle.crdt_rows.specs.declared.state.State.{State as VersionState}
use Rattle.crdt_rows.specs.declared.state.State.TheVariants.{Uploading, Aborted}
use Rattle.crdt_rows.specs.State.{is_sized}
use Rattle.crdt_rows.specs.declared.any_row.AnyRow.{AnyRow}
use Rattle.crdt_rows.specs.AnyRow.{any_join}
use Rattle.object_schema.specs.Laws.{schema_laws}
use Rattle.object_schema.specs.Schema.{words}
use Rattle.table_model.specs.Rows.{AllProper, row_at}
use Rattle.cluster_machine.specs.Blocks.{StepBringsBlocks, AllStocked}
use Rattle.cluster_machine.specs.Layouts.{layouts}
use Rattle.cluster_machine.specs.Run.{IsRun, next as machine_next, run as machine_run, does as machine_does}
use Rattle.cluster_machine.specs.World.{Mark, empty}
use Rattle.cluster_machine.specs.Worlds.{run}
use Rattle.cluster_machine.specs.declared.step.Step.TheVariants as step
use Rattle.machine_origins.specs.Origins.{ComesFrom, stored_by, stored_in}
use Rattle.machine_origins.proofs.ByOrigin.{IsInherited, stored_have, has_by_origin}
use Rattle.machine_origins.proofs.Places.{numbered_within}
use Rattle.drained_laws.proofs.Weights.{marked_next}
use Rattle.world_reads.proofs.Proper.{proper_rows}
use Rattle.flow_model.specs.declared.flow.Name.{Name}
use Rattle.flow_model.specs.Rows.{object_row}
use Rattle.store_model.specs.Run.{World, Moving, State, start, Draw}
use Rattle.store_model.specs.Acts.{Act, after_acts, AreLawfulActs}
use Rattle.store_laws.specs.Promised.{moves_in}
use Rattle.store_laws.proofs.Alike.{KeepMore}
use Rattle.store_laws.proofs.Hashing.{ActsIn}
use Rattle.store_laws.proofs.Enders.{wish_writes}
use Rattle.store_laws.proofs.Once.{one_version, one_name}
use Rattle.store_laws.proofs.Records.{is_in}
use Rattle.store_laws.proofs.Rows.{complete_state, complete_row, IsOf, is_inherited}
use Rattle.store_laws.proofs.Sound.{IsReachedBy}
use Rattle.store_laws.proofs.Deeds.{Deed}
use Rattle.store_anchors.proofs.Acts.{IsHeld, draws_apart, held}
use Rattle.store_anchors.proofs.Cited.{Cited}
use Rattle.store_anchors.proofs.Kept.{Past, IsRowOf, announces, gives_up, completes, names, refers, row_is_good}
use Rattle.store_anchors.proofs.Laid.{digest, past, IsStepOf, still_of, all_each}
use Rattle.store_anchors.proofs.Machine.{IsEndOf, reached_end}
use Rattle.store_anchors.proofs.Reading.{each_stored}
use Rattle.store_anchors.proofs.Told.{AreApart}
use Rattle.plain_laws.proofs.Past.{says_own, alone}
use Rattle.held_laws.proofs.Numbers.{IsLow, low_inherited}
use Rattle.held_laws.proofs.Saying.{SaysSome, some_inherited}

-- each message of a run has its mark
marks_run : (first : Layout) (roles : List Role → List Role) (w : World) (ms : List Moving) → length w.messages ≡ length w.marks →
    (let v = machine_run any_join words layouts first roles w ms in length v.messages ≡ length v.marks)
marks_run first roles w [] h = h
marks_run first roles w (m ∷ ms) h = marks_run first roles (machine_next any_join words layouts first roles w m) ms (marked_next w (machine_does any_join words layouts first roles w m) h)

as_many : (ms ns : List Mark) → KeepMore ms ns → length ms ≡ length ns
as_many [] [] h = refl
as_many [] (n ∷ ns) h = absurd h
as_many (m ∷ ms) [] h = absurd h
as_many (m ∷ ms) (n ∷ ns) h = ap (λ k. suc k) (as_many ms ns h.1)

-- of each node: its rows come from these
abbrev pub RowsComeFrom : Type 0
RowsComeFrom = (first : Layout) (roles : List Role → List Role) (moves : List Moving) → IsRun any_join words layouts first roles 256 empty moves →
    (n table : ℕ) (key : List ℕ) (row : AnyRow) → row_at any_join words ((machine_run any_join words layouts first roles empty moves).nodes n).accepted table key ≡ Some row → ComesFrom any_join words (stored_in moves) row

-- and it has the blocks that they need
abbrev pub BlocksAreThere : Type 0
BlocksAreThere = (first : Layout) (roles : List Role → List Role) (moves : List Moving) → IsRun any_join words layouts first roles 256 empty moves → All (λ (m : Moving). StepBringsBlocks digest words m.step) moves →
    AllStocked digest words any_join (machine_run any_join words layouts first roles empty moves)

-- what is cited of the machine's rows and blocks
pub record CitedRows : Type 0 where
  pub come : RowsComeFrom
  pub stocked : BlocksAreThere

-- ---- rows of writes

-- a row with one version is of low numbers where that is, and says something
module _ (top : ℕ) (name : Name) (v : Version) (state : VersionState) (fits : is_sized state ≡ true) where
  one_low : v.id ≤ top → IsLow top (object_row name v state fits)
  one_low low u s h = let own = ap (λ (x : Version). x.id) (alone name v state fits u s h).0 in omega (arith, low, own)

  one_says : SaysSome (object_row name v state fits)
  one_says = (v, state, says_own name v state fits)

-- the rows of writes whose versions have numbers up to this
module _ (top : ℕ) (p : Past) (low : (d : Draw) → Contains p.draws d → d.version.id ≤ top) where
  pub written_low : (r : AnyRow) → IsRowOf p r → IsLow top r
  written_low r h = elim h [
    | announces d c is ↦ subst (IsLow top) (sym is) (one_low top d.name d.version Uploading refl (low d c))
    | gives_up d c is ↦ subst (IsLow top) (sym is) (one_low top d.name d.version Aborted refl (low d c))
    | completes d c known is all ↦
        let full = complete_row d.name d.version d.block d.wish in
        subst (IsLow top) (sym (is ∙ full.1)) (one_low top d.name d.version (complete_state d.block d.wish) full.0 (low d c))
    | names d offset bytes c is ↦ subst (IsLow top) (sym is) (record { number = d.version.id; low = low d c; spelled = refl })
    | refers d bytes c is ↦ subst (IsLow top) (sym is) (record { number = d.version.id; low = low d c; spelled = refl })
  ]

pub written_says : (p : Past) (r : AnyRow) → IsRowOf p r → SaysSome r
written_says p r h = elim h [
  | announces d c is ↦ subst SaysSome (sym is) (one_says 0 d.name d.version Uploading refl)
  | gives_up d c is ↦ subst SaysSome (sym is) (one_says 0 d.name d.version Aborted refl)
  | completes d c known is all ↦ (let full = complete_row d.name d.version d.block d.wish in subst SaysSome (sym (is ∙ full.1)) (one_says 0 d.name d.version (complete_state d.block d.wish) full.0))
  | names d offset bytes c is ↦ subst SaysSome (sym is) tt
  | refers d bytes c is ↦ subst SaysSome (sym is) tt
]

module _ {H : Deed → Type 0} (cited : Cited H) (cited_rows : CitedRows) (acts : List Act) (lawful : AreLawfulActs start acts) (fit : ActsIn H start acts) where
  abbrev pub s : State
  s = after_acts start acts

  abbrev ms : List Moving
  ms = moves_in start acts

  abbrev p : Past
  p = past ms s.world s.draws

  now : IsHeld H ms s
  now = held cited acts lawful fit

  apart : AreApart s.draws
  apart = draws_apart s now.sound now.once

  reached : IsReachedBy H (IsStepOf ms) s.world
  reached = now.laid.reached

  -- the world in which nothing was forgotten
  abbrev v : World
  v = run any_join words reached.begin reached.moves

  ends : IsEndOf (IsStepOf ms) v
  ends = reached_end cited.every cited.clear s.world reached (still_of ms step.Trio tt refl refl)

  every_stored : (r : AnyRow) → Contains (stored_in ends.moves) r → IsRowOf p r
  every_stored r c =
      each_stored cited ms s now.sound now.laid r
      (All-contains (Contains (stored_in ms)) (stored_in ends.moves) r (stored_have (Contains (stored_in ms)) ends.moves
      (All-weaker (λ (m : Moving). IsStepOf ms m.step) (λ (m : Moving). All (Contains (stored_in ms)) (stored_by m.step)) (λ m is. is.stores) ends.moves ends.are)) c)

  -- what holds of this world by its nodes holds of the state's
  here : (P : World → Type 0) → P (machine_run any_join words layouts ends.first ends.roles empty ends.moves) → P v
  here P h = subst P ends.leads h

  -- ---- draws

  -- a version that was drawn has the number of a request that was asked for
  pub drawn_low : (d : Draw) → Contains s.draws d → d.version.id ≤ length s.asked
  drawn_low d c =
      let h = now.sound.drawn d c in
      let asked = now.sound.told.began_asked d.request h.node h.kind d.name (is_in s.history h.place _ h.began_at) in
      let low = numbered_within s.asked d.request asked.one asked.is_there in
      let same = h.id_is in
      omega (arith, low, same)

  pub drawn_keyed : (d : Draw) → Contains s.draws d → 1 ≤ length d.name.key
  drawn_keyed d c =
      let h = now.sound.drawn d c in
      now.sound.told.key_there d.request h.node h.kind d.name (is_in s.history h.place _ h.began_at) (wish_writes h.kind d.wish h.fits)

  pub drawn_bucket : (d : Draw) → Contains s.draws d → Contains s.buckets d.name.bucket
  drawn_bucket d c = (now.sound.drawn d c).bucket

  -- draws with one number are of one version of one object
  pub drawn_once : (d e : Draw) → Contains s.draws d → Contains s.draws e → d.version.id ≡ e.version.id → (d.name ≡ e.name) × (d.version ≡ e.version)
  drawn_once d e c k same = let one = apart d e c k same in (one_name d e one, one_version d e one)

  pub lengths : length s.asked ≡ length s.world.requests
  lengths = now.sound.lengths

  -- ---- rows

  -- a property that writes' rows have, and that merges hand on, each row of a node has
  rows_have : (Q : AnyRow → Type 0) → IsInherited any_join words Q → ((r : AnyRow) → IsRowOf p r → Q r) → (n table : ℕ) (key : List ℕ) (row : AnyRow) → row_at any_join words (s.world.nodes n).accepted table key ≡ Some row → Q row
  rows_have Q handed each n table key row e =
      has_by_origin Q handed (stored_in ends.moves) (all_each Q (stored_in ends.moves) (λ r c. each r (every_stored r c))) row
      (cited_rows.come ends.first ends.roles ends.moves ends.is_run n table key row
      (subst (λ (w : World). row_at any_join words (w.nodes n).accepted table key ≡ Some row) (sym ends.leads)
      (subst (λ (w : World). row_at any_join words (w.nodes n).accepted table key ≡ Some row) reached.alike.is e)))

  pub rows_low : (n table : ℕ) (key : List ℕ) (row : AnyRow) → row_at any_join words (s.world.nodes n).accepted table key ≡ Some row → IsLow (length s.asked) row
  rows_low = rows_have (IsLow (length s.asked)) (low_inherited (length s.asked)) (written_low (length s.asked) p drawn_low)

  pub rows_say : (n table : ℕ) (key : List ℕ) (row : AnyRow) → row_at any_join words (s.world.nodes n).accepted table key ≡ Some row → SaysSome row
  rows_say = rows_have SaysSome some_inherited (written_says p)

  pub rows_drawn : (n table : ℕ) (key : List ℕ) (row : AnyRow) → row_at any_join words (s.world.nodes n).accepted table key ≡ Some row → IsOf s.draws row
  rows_drawn = rows_have (IsOf s.draws) (is_inherited s.draws) (λ r is. (row_is_good p r is).0)

  pub rows_proper : (n : ℕ) → AllProper words (s.world.nodes n).accepted
  rows_proper n =
      subst (λ (w : World). AllProper words (w.nodes n).accepted) (sym reached.alike.is)
      (here (λ w. AllProper words (w.nodes n).accepted) (proper_rows schema_laws layouts ends.first ends.roles 256 ends.moves ends.is_run n))

  -- ---- blocks and messages

  there_stocked : AllStocked (blake2b 32) words any_join v
  there_stocked = here (AllStocked (blake2b 32) words any_join)
      (cited_rows.stocked ends.first ends.roles ends.moves ends.is_run (All-weaker (λ (m : Moving). IsStepOf ms m.step) (λ (m : Moving). StepBringsBlocks digest words m.step) (λ m is. is.brings) ends.moves ends.are))

  pub stocked : AllStocked (blake2b 32) words any_join s.world
  stocked = subst (AllStocked (blake2b 32) words any_join) (sym reached.alike.is) (record { nodes = there_stocked.nodes; messages = there_stocked.messages })

  pub marked : length s.world.messages ≡ length s.world.marks
  marked =
      ap (λ (w : World). length w.messages) reached.alike.is
      ∙ (here (λ w. length w.messages ≡ length w.marks) (marks_run ends.first ends.roles empty ends.moves refl)
      ∙ sym (as_many s.world.marks v.marks reached.alike.marks))
