-- A write draws its version no earlier than its request began, and no row that it stores has a version from before.
use Rattle.std.proofs.Common.{◌≡◌, ◌≤◌, ◌<◌, ℕ, suc, Bool, true, false, not, ◌&&◌, Option, Some, None, List, [], ◌∷◌, ◌++◌, length, refl, sym, arith, lit<}
use Rattle.std.specs.Prelude.{⊤}
use Rattle.std.specs.Ordering.{is_lt, nat_cmp, ordering_then}
use Rattle.std.specs.declared.cmp.Ordering.TheVariants.{Less, Equal, Greater}
use Rattle.std.proofs.lemmas.Cmp.{ranked}
use Rattle.crdt_rows.specs.declared.version.Version.{Version}
use Rattle.crdt_rows.specs.declared.body.Meta.{Meta}
use Rattle.crdt_rows.specs.declared.body.Body.TheVariants.{Marker, Inline, Blocks}
use Rattle.crdt_rows.specs.declared.state.State.{State}
use Rattle.crdt_rows.specs.declared.state.State.TheVariants.{Uploading as HasBegun, Complete}
use Rattle.crdt_rows.specs.declared.version_row.BlockRef.{BlockRef}
use Rattle.crdt_rows.specs.declared.object_row.ObjectRow.{ObjectRow}
use Rattle.crdt_rows.specs.declared.any_row.AnyRow.{AnyRow}
use Rattle.crdt_rows.specs.State.{is_sized}
use Rattle.crdt_rows.specs.Version.{version_cmp}
use Rattle.object_schema.specs.Schema.{words}
use Rattle.object_schema.specs.Laws.{apart}
use Rattle.wire_messages.specs.declared.phase.Phase.{Phase}
use Rattle.wire_messages.specs.declared.phase.Phase.TheVariants.{Store}
use Rattle.wire_messages.specs.declared.phase.PhaseEnd.{PhaseEnd}
use Rattle.wire_messages.specs.declared.phase.PhaseEnd.TheVariants.{Row, Window, Kept, Block}
use Rattle.machine_collects.specs.Prompt.{DrawsLate}
use Rattle.object_collects.specs.Seen.{version_of, row_below, object_versions}
use Rattle.flow_model.specs.declared.order.Order.{Order}
use Rattle.flow_model.specs.declared.order.Order.TheVariants as order
use Rattle.flow_model.specs.declared.flow.Name.{Name}
use Rattle.flow_model.specs.declared.flow.Content.{Content}
use Rattle.flow_model.specs.declared.flow.Wish.{Wish}
use Rattle.flow_model.specs.declared.flow.Wish.TheVariants as wish
use Rattle.flow_model.specs.declared.flow.Aim.{Aim}
use Rattle.flow_model.specs.declared.flow.Aim.TheVariants as aim
use Rattle.flow_model.specs.declared.flow.Stage.{Stage}
use Rattle.flow_model.specs.declared.flow.Stage.TheVariants.{Drawing, Uploading, Receiving, Needing, Aborting, Completing, Looking, Opening, Gathering, Listing}
use Rattle.flow_model.specs.declared.flow.Flow.{Flow}
use Rattle.flow_model.specs.declared.flow.FlowStep.{FlowStep}
use Rattle.flow_model.specs.declared.flow.FlowStep.TheVariants.{More, Need, Wait, End}
use Rattle.flow_model.specs.Blocks.{has_piece, is_long, piece_hash}
use Rattle.flow_model.specs.Rows.{meta_of, content_of, same_number, object_row, in_blocks, inline, complete}
use Rattle.flow_model.specs.Says.{Said, none, marked, inline as says_inline, in_blocks as says_blocks, said_of, shown_rows, Named, unnamed, whole, deleted, named_by}
use Rattle.flow_model.specs.Flow.{started}
use Rattle.flow_model.specs.Next.{drawn, stores, completes, writes, uploads, found, reads_on, looked, gathers, opened, lists, goes_on}

-- a request that began at this moment may store so
abbrev pub Late : ℕ → Phase AnyRow → Type 0
Late began phase = DrawsLate words object_versions began phase

-- the version that it has drawn, if it has, and stores rows of still
abbrev pub StageLate : ℕ → Stage → Type 0
StageLate began (Uploading name version content stored) = began ≤ version.ts
StageLate began (Receiving name version coming received) = began ≤ version.ts
StageLate began (Needing name version coming received) = began ≤ version.ts
StageLate began _ = ⊤

abbrev pub FlowLate : ℕ → Option Flow → Type 0
FlowLate began None = ⊤
FlowLate began (Some flow) = StageLate began flow.stage

-- it goes on with such a version, and with a phase that it may begin
abbrev pub StepLate : ℕ → FlowStep → Type 0
StepLate began (More flow phase) = StageLate began flow.stage × Late began phase
StepLate began (Need flow wanted) = StageLate began flow.stage
StepLate began (Wait flow) = StageLate began flow.stage
StepLate began (End end) = ⊤

-- ---- one row

differ : {X : Type 0} → true ≡ false → X
differ e = absurd cc

below_time : (version u : Version) → is_lt (version_cmp version u) ≡ true → version.ts ≤ u.ts
below_time version u h =
    elim (nat_cmp version.ts u.ts) as (λ r. nat_cmp version.ts u.ts ≡ r → is_lt (ordering_then r (nat_cmp version.id u.id)) ≡ true → version.ts ≤ u.ts) [
      | Less ↦ λ e k. (let less : version.ts < u.ts = ranked version.ts u.ts Less (sym e) in omega arith)
      | Equal ↦ λ e k. (let same : version.ts ≡ u.ts = ranked version.ts u.ts Equal (sym e) in omega arith)
      | Greater ↦ λ e k. differ (sym k)
    ] refl h

only_below : (b : Bool) → not (not b && true) ≡ true → b ≡ true
only_below true h = refl
only_below false h = differ (sym h)

-- the row has no version from before
abbrev RowLate : ℕ → AnyRow → Type 0
RowLate began r = words.table r ≡ 1 → (u : ℕ × ℕ) → row_below r u ≡ true → began ≤ u.0

module _ (began : ℕ) (name : Name) (version : Version) (low : began ≤ version.ts) where
  object_late : (state : State) (fits : is_sized state ≡ true) → RowLate began (object_row name version state fits)
  object_late state fits table u h =
      let time = below_time version (version_of u) (only_below (is_lt (version_cmp version (version_of u))) h) in
      omega (arith, low, time)

  content_late : (block : ℕ) (c : Content) (b : Bool) → RowLate began (elim b as (λ b. AnyRow) [ true ↦ in_blocks name version block c | false ↦ inline name version c ])
  content_late block c true = object_late (Complete (Blocks (meta_of c) (piece_hash block c.body 0))) refl
  content_late block c false = object_late (Complete (Inline (meta_of c) c.body)) (same_number (length c.body))

  complete_late : (block : ℕ) (w : Wish) → RowLate began (complete name version block w)
  complete_late block wish.Marker = object_late (Complete Marker) refl
  complete_late block (wish.Stream coming) = content_late block (content_of coming []) false
  complete_late block (wish.Content c) = content_late block c (is_long c.body)

  -- ---- what a write does that has drawn

  module _ (id block : ℕ) where
    completes_late : (w : Wish) → StepLate began (completes id block name version w)
    completes_late wish.Marker = (tt, (complete_late block wish.Marker, tt))
    completes_late (wish.Stream coming) = (tt, (complete_late block (wish.Stream coming), tt))
    completes_late (wish.Content c) = (tt, (complete_late block (wish.Content c), tt))

    writes_content : (c : Content) (b : Bool) → StepLate began (elim b as (λ b. FlowStep) [ true ↦ More (record { id = id; block = block; stage = Uploading name version c 0 }) (stores (object_row name version HasBegun refl)) | false ↦ completes id block name version (wish.Content c) ])
    writes_content c true = (low, (object_late HasBegun refl, tt))
    writes_content c false = completes_late (wish.Content c)

    writes_late : (w : Wish) → StepLate began (writes id block name version w)
    writes_late wish.Marker = completes_late wish.Marker
    writes_late (wish.Stream coming) = (low, (object_late HasBegun refl, tt))
    writes_late (wish.Content c) = writes_content c (is_long c.body)

    uploads_late : (c : Content) (stored : ℕ) → StepLate began (uploads id block name version c stored)
    uploads_late c stored = by_test (has_piece block c.body stored) where
      by_test : (b : Bool) → StepLate began (elim b as (λ b. FlowStep) [ true ↦ More (record { id = id; block = block; stage = Uploading name version c (suc stored) }) (Store (Rattle.flow_model.specs.Rows.block_rows version.id block c.body stored)) | false ↦ completes id block name version (wish.Content c) ])
      by_test true = (low, (λ e. apart 1 2 (lit< tt) (sym e), (λ e. apart 1 3 (lit< tt) (sym e), tt)))
      by_test false = completes_late (wish.Content c)

-- ---- what a read does

module _ (began id block : ℕ) where
  found_late : (a : Aim) (version : Version) (meta : Meta) (body : List ℕ) → StepLate began (found id block a version meta body)
  found_late aim.Get version meta body = tt
  found_late aim.Head version meta body = tt
  found_late (aim.Copy name headers) version meta body = (tt, tt)

  reads_late : (a : Aim) (version : Version) (meta : Meta) → StepLate began (reads_on id block a version meta)
  reads_late aim.Get version meta = (tt, tt)
  reads_late aim.Head version meta = tt
  reads_late (aim.Copy name headers) version meta = (tt, tt)

  looked_late : (a : Aim) (said : Said) → StepLate began (looked id block a said)
  looked_late a none = tt
  looked_late a (marked version) = tt
  looked_late a (says_inline version meta body) = found_late a version meta body
  looked_late a (says_blocks version meta first) = reads_late a version meta

  gathers_late : (a : Aim) (version : Version) (meta : Meta) (left : List BlockRef) (body : List ℕ) → StepLate began (gathers id block a version meta left body)
  gathers_late a version meta [] body = found_late a version meta body
  gathers_late a version meta (b ∷ left) body = (tt, tt)

  opened_late : (a : Aim) (version : Version) (meta : Meta) (named : Named) → StepLate began (opened id block a version meta named)
  opened_late a version meta unnamed = tt
  opened_late a version meta (whole blocks) = gathers_late a version meta blocks []
  opened_late a version meta deleted = tt

  lists_late : (bucket prefix : List ℕ) (rows : List ObjectRow) (end : Option (List ℕ)) → StepLate began (lists id block bucket prefix rows end)
  lists_late bucket prefix rows None = tt
  lists_late bucket prefix rows (Some after) = (tt, tt)

  -- ---- whatever it waits for

  pub goes_on_late : (stage : Stage) (end : PhaseEnd AnyRow) (now : ℕ) → StageLate began stage → began ≤ now → StepLate began (goes_on id block stage end now)
  goes_on_late (Drawing name w) (Row value) now h low = writes_late began name (drawn id value now) (omega (arith, low)) id block w
  goes_on_late (Drawing name w) _ now h low = tt
  goes_on_late (Uploading name version content stored) Kept now h low = uploads_late began name version h id block content stored
  goes_on_late (Uploading name version content stored) _ now h low = h
  goes_on_late (Receiving name version coming received) Kept now h low = h
  goes_on_late (Receiving name version coming received) _ now h low = h
  goes_on_late (Needing name version coming received) _ now h low = h
  goes_on_late (Aborting version) Kept now h low = tt
  goes_on_late (Aborting version) _ now h low = tt
  goes_on_late (Completing version meta) Kept now h low = tt
  goes_on_late (Completing version meta) _ now h low = tt
  goes_on_late (Looking name a) (Row value) now h low = looked_late a (said_of value)
  goes_on_late (Looking name a) _ now h low = tt
  goes_on_late (Opening version meta a) (Row value) now h low = opened_late a version meta (named_by value meta.size)
  goes_on_late (Opening version meta a) _ now h low = tt
  goes_on_late (Gathering version meta a left body) (Block bytes) now h low = gathers_late a version meta left (body ++ bytes)
  goes_on_late (Gathering version meta a left body) _ now h low = tt
  goes_on_late (Listing bucket prefix rows) (Window others end) now h low = lists_late bucket prefix (rows ++ shown_rows others) end
  goes_on_late (Listing bucket prefix rows) _ now h low = tt

-- a request begins with a read, and has drawn nothing
pub started_late : (began : ℕ) (o : Order) (id block : ℕ) → StageLate began (started o id block).0.stage × Late began (started o id block).1
started_late began (order.Put bucket key body headers) id block = (tt, tt)
started_late began (order.Stream bucket key announced headers) id block = (tt, tt)
started_late began (order.Get bucket key) id block = (tt, tt)
started_late began (order.Head bucket key) id block = (tt, tt)
started_late began (order.Delete bucket key) id block = (tt, tt)
started_late began (order.Copy from_bucket from_key bucket key headers) id block = (tt, tt)
started_late began (order.List bucket prefix) id block = (tt, tt)
