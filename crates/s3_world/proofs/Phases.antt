-- A request's phases are of at most two rows, each row comes with its block, and blocks keep their size.
use Rattle.std.proofs.Common.{◌≡◌, ℕ, suc, true, false, Option, Some, None, List, [], ◌∷◌, ◌++◌, length, refl, arith, subst, sym}
use Rattle.std.specs.Prelude.{⊤, ◌*◌}
use Rattle.std.proofs.lemmas.List.Elements.{All-from_recursion}
use Rattle.blake2_hash.specs.Blake2b.{blake2b}
use Rattle.crdt_rows.specs.declared.version.Version.{Version}
use Rattle.crdt_rows.specs.declared.body.Meta.{Meta}
use Rattle.crdt_rows.specs.declared.version_row.BlockRef.{BlockRef}
use Rattle.crdt_rows.specs.declared.object_row.ObjectRow.{ObjectRow}
use Rattle.crdt_rows.specs.declared.any_row.AnyRow.{AnyRow}
use Rattle.object_schema.specs.Schema.{words}
use Rattle.wire_messages.specs.declared.phase.Phase.{Phase}
use Rattle.wire_messages.specs.declared.phase.Phase.TheVariants.{Store}
use Rattle.wire_messages.specs.declared.phase.PhaseEnd.{PhaseEnd}
use Rattle.wire_messages.specs.declared.phase.PhaseEnd.TheVariants.{Row, Window, Kept, Block}
use Rattle.cluster_machine.specs.Blocks.{IsBeside, BringsBlocks}
use Rattle.cluster_machine.specs.Keeping.{IsShort}
use Rattle.flow_model.specs.declared.order.Order.{Order}
use Rattle.flow_model.specs.declared.order.Order.TheVariants as order
use Rattle.flow_model.specs.declared.flow.Name.{Name}
use Rattle.flow_model.specs.declared.flow.Content.{Content}
use Rattle.flow_model.specs.declared.flow.Wish.{Wish}
use Rattle.flow_model.specs.declared.flow.Wish.TheVariants as wish
use Rattle.flow_model.specs.declared.flow.Aim.{Aim}
use Rattle.flow_model.specs.declared.flow.Aim.TheVariants as aim
use Rattle.flow_model.specs.declared.flow.Stage.{Stage}
use Rattle.flow_model.specs.declared.flow.Stage.TheVariants.{Drawing, Uploading, Receiving, Needing, Aborting, Completing, Looking, Opening, Gathering, Listing}
use Rattle.flow_model.specs.declared.flow.Flow.{Flow}
use Rattle.flow_model.specs.declared.flow.FlowStep.{FlowStep}
use Rattle.flow_model.specs.declared.flow.FlowStep.TheVariants.{More, Need, Wait, End}
use Rattle.flow_model.specs.Blocks.{has_piece, is_long, piece}
use Rattle.flow_model.specs.Rows as row
use Rattle.flow_model.specs.Says.{Said, none, marked, inline, in_blocks, said_of, shown_rows, Named, unnamed, whole, deleted, named_by}
use Rattle.flow_model.specs.Flow.{started}
use Rattle.flow_model.specs.Next as flow
use Rattle.flow_model.specs.Streams as stream

-- the phase stores at most two rows, each with its block
pub record IsGood (phase : Phase AnyRow) : Type 0 where
  pub short : IsShort phase
  pub stocked : BringsBlocks (blake2b 32) words phase

-- beside a row stands the block that it needs
abbrev HasBeside : AnyRow × Option (List ℕ) → Type 0
HasBeside r = IsBeside (blake2b 32) (words.live_block r.0) r.1

-- whatever comes next is so, with blocks of this size
abbrev pub StepIsGood : ℕ → FlowStep → Type 0
StepIsGood block (More f phase) = (f.block ≡ block) × IsGood phase
StepIsGood block (Need f wanted) = f.block ≡ block
StepIsGood block (Wait f) = f.block ≡ block
StepIsGood block (End end) = ⊤

-- and so is what it goes on with once its client was heard
abbrev pub HeardIsGood : ℕ → stream.Step → Type 0
HeardIsGood block None = ⊤
HeardIsGood block (Some next) = (next.0.block ≡ block) × IsGood next.1

one_row : (r : AnyRow) → words.live_block r ≡ None → IsGood (flow.stores r)
one_row r bare =
    let P : Option (List ℕ) → Type 0 = λ o. IsBeside (blake2b 32) o None in
    record { short = omega arith; stocked = All-from_recursion HasBeside ((r, None) ∷ []) (subst P (sym bare) refl, tt) }

complete_needs_none : (name : Name) (version : Version) (block : ℕ) (w : Wish) → words.live_block (row.complete name version block w) ≡ None
complete_needs_none name version block wish.Marker = refl
complete_needs_none name version block (wish.Stream coming) = refl
complete_needs_none name version block (wish.Content c) =
    elim (is_long c.body) as (λ b. words.live_block (elim b [ true ↦ row.in_blocks name version block c | false ↦ row.inline name version c ]) ≡ None) [ true ↦ refl | false ↦ refl ]

module _ (id block : ℕ) where
  completes : (name : Name) (version : Version) (w : Wish) → StepIsGood block (flow.completes id block name version w)
  completes name version wish.Marker = (refl, one_row _ refl)
  completes name version (wish.Stream coming) = (refl, one_row _ refl)
  completes name version (wish.Content c) = (refl, one_row _ (complete_needs_none name version block (wish.Content c)))

  writes : (name : Name) (version : Version) (w : Wish) → StepIsGood block (flow.writes id block name version w)
  writes name version wish.Marker = completes name version wish.Marker
  writes name version (wish.Stream coming) = (refl, one_row _ refl)
  writes name version (wish.Content c) = elim (is_long c.body) as (λ b. StepIsGood block (elim b [
    | true ↦ flow.more id block (Uploading name version c 0) (flow.stores (row.uploading name version))
    | false ↦ flow.completes id block name version (wish.Content c)
  ])) [ true ↦ (refl, one_row _ refl) | false ↦ completes name version (wish.Content c) ]

  rows_at : (version : Version) (offset : ℕ) (bytes : List ℕ) → IsGood (Store (row.rows_at version.id offset bytes))
  rows_at version offset bytes = record { short = omega arith; stocked = All-from_recursion HasBeside (row.rows_at version.id offset bytes) (refl, (refl, tt)) }

  uploads : (name : Name) (version : Version) (c : Content) (stored : ℕ) → StepIsGood block (flow.uploads id block name version c stored)
  uploads name version c stored = elim (has_piece block c.body stored) as (λ b. StepIsGood block (elim b [
    | true ↦ flow.more id block (Uploading name version c (suc stored)) (Store (row.block_rows version.id block c.body stored))
    | false ↦ flow.completes id block name version (wish.Content c)
  ])) [ true ↦ (refl, rows_at version (stored * block) (piece block c.body stored)) | false ↦ completes name version (wish.Content c) ]

  found : (a : Aim) (version : Version) (meta : Meta) (body : List ℕ) → StepIsGood block (flow.found id block a version meta body)
  found aim.Get version meta body = tt
  found aim.Head version meta body = tt
  found (aim.Copy name headers) version meta body = (refl, record { short = tt; stocked = tt })

  reads_on : (a : Aim) (version : Version) (meta : Meta) → StepIsGood block (flow.reads_on id block a version meta)
  reads_on aim.Get version meta = (refl, record { short = tt; stocked = tt })
  reads_on aim.Head version meta = tt
  reads_on (aim.Copy name headers) version meta = (refl, record { short = tt; stocked = tt })

  looked : (a : Aim) (said : Said) → StepIsGood block (flow.looked id block a said)
  looked a none = tt
  looked a (marked version) = tt
  looked a (inline version meta body) = found a version meta body
  looked a (in_blocks version meta first) = reads_on a version meta

  gathers : (a : Aim) (version : Version) (meta : Meta) (left : List BlockRef) (body : List ℕ) → StepIsGood block (flow.gathers id block a version meta left body)
  gathers a version meta [] body = found a version meta body
  gathers a version meta (b ∷ left) body = (refl, record { short = tt; stocked = tt })

  opened : (a : Aim) (version : Version) (meta : Meta) (named : Named) → StepIsGood block (flow.opened id block a version meta named)
  opened a version meta unnamed = refl
  opened a version meta (whole blocks) = gathers a version meta blocks []
  opened a version meta deleted = tt

  lists : (bucket prefix : List ℕ) (rows : List ObjectRow) (end : Option (List ℕ)) → StepIsGood block (flow.lists id block bucket prefix rows end)
  lists bucket prefix rows None = tt
  lists bucket prefix rows (Some after) = (refl, record { short = tt; stocked = tt })

  goes_on : (stage : Stage) (end : PhaseEnd AnyRow) (now : ℕ) → StepIsGood block (flow.goes_on id block stage end now)
  goes_on (Drawing name w) (Row value) now = writes name (flow.drawn id value now) w
  goes_on (Drawing name w) (Window rows more) now = refl
  goes_on (Drawing name w) Kept now = refl
  goes_on (Drawing name w) (Block bytes) now = refl
  goes_on (Uploading name version c stored) (Row value) now = refl
  goes_on (Uploading name version c stored) (Window rows more) now = refl
  goes_on (Uploading name version c stored) Kept now = uploads name version c stored
  goes_on (Uploading name version c stored) (Block bytes) now = refl
  goes_on (Receiving name version coming received) (Row value) now = refl
  goes_on (Receiving name version coming received) (Window rows more) now = refl
  goes_on (Receiving name version coming received) Kept now = refl
  goes_on (Receiving name version coming received) (Block bytes) now = refl
  goes_on (Needing name version coming received) (Row value) now = refl
  goes_on (Needing name version coming received) (Window rows more) now = refl
  goes_on (Needing name version coming received) Kept now = refl
  goes_on (Needing name version coming received) (Block bytes) now = refl
  goes_on (Aborting version) (Row value) now = refl
  goes_on (Aborting version) (Window rows more) now = refl
  goes_on (Aborting version) Kept now = tt
  goes_on (Aborting version) (Block bytes) now = refl
  goes_on (Completing version meta) (Row value) now = refl
  goes_on (Completing version meta) (Window rows more) now = refl
  goes_on (Completing version meta) Kept now = tt
  goes_on (Completing version meta) (Block bytes) now = refl
  goes_on (Looking name a) (Row value) now = looked a (said_of value)
  goes_on (Looking name a) (Window rows more) now = refl
  goes_on (Looking name a) Kept now = refl
  goes_on (Looking name a) (Block bytes) now = refl
  goes_on (Opening version meta a) (Row value) now = opened a version meta (named_by value meta.size)
  goes_on (Opening version meta a) (Window rows more) now = refl
  goes_on (Opening version meta a) Kept now = refl
  goes_on (Opening version meta a) (Block bytes) now = refl
  goes_on (Gathering version meta a left body) (Row value) now = refl
  goes_on (Gathering version meta a left body) (Window rows more) now = refl
  goes_on (Gathering version meta a left body) Kept now = refl
  goes_on (Gathering version meta a left body) (Block bytes) now = gathers a version meta left (body ++ bytes)
  goes_on (Listing bucket prefix shown) (Row value) now = refl
  goes_on (Listing bucket prefix shown) (Window others end) now = lists bucket prefix (shown ++ shown_rows others) end
  goes_on (Listing bucket prefix shown) Kept now = refl
  goes_on (Listing bucket prefix shown) (Block bytes) now = refl

  -- what a streamed upload does once its client was heard
  fed_in : (stage : Stage) (bytes : List ℕ) → HeardIsGood block (stream.fed_in id block stage bytes)
  fed_in (Needing name version coming received) bytes = (refl, rows_at version (length received) bytes)
  fed_in (Drawing name w) bytes = tt
  fed_in (Uploading name version c stored) bytes = tt
  fed_in (Receiving name version coming received) bytes = tt
  fed_in (Aborting version) bytes = tt
  fed_in (Completing version meta) bytes = tt
  fed_in (Looking name a) bytes = tt
  fed_in (Opening version meta a) bytes = tt
  fed_in (Gathering version meta a left body) bytes = tt
  fed_in (Listing bucket prefix shown) bytes = tt

  kept_in : (stage : Stage) → HeardIsGood block (stream.kept_in id block stage)
  kept_in (Needing name version coming received) = let w : Wish = wish.Content (row.content_of coming received) in (refl, one_row _ (complete_needs_none name version block w))
  kept_in (Drawing name w) = tt
  kept_in (Uploading name version c stored) = tt
  kept_in (Receiving name version coming received) = tt
  kept_in (Aborting version) = tt
  kept_in (Completing version meta) = tt
  kept_in (Looking name a) = tt
  kept_in (Opening version meta a) = tt
  kept_in (Gathering version meta a left body) = tt
  kept_in (Listing bucket prefix shown) = tt

  given_up_in : (stage : Stage) → HeardIsGood block (stream.given_up_in id block stage)
  given_up_in (Needing name version coming received) = (refl, one_row _ refl)
  given_up_in (Drawing name w) = tt
  given_up_in (Uploading name version c stored) = tt
  given_up_in (Receiving name version coming received) = tt
  given_up_in (Aborting version) = tt
  given_up_in (Completing version meta) = tt
  given_up_in (Looking name a) = tt
  given_up_in (Opening version meta a) = tt
  given_up_in (Gathering version meta a left body) = tt
  given_up_in (Listing bucket prefix shown) = tt

-- what a request does when its phase has ended
pub next_is_good : (f : Flow) (end : PhaseEnd AnyRow) (now : ℕ) → StepIsGood f.block (flow.next f end now)
next_is_good f end now = goes_on f.id f.block f.stage end now

-- what it does once its client was heard
pub fed_is_good : (f : Flow) (bytes : List ℕ) → HeardIsGood f.block (stream.fed f bytes)
fed_is_good f bytes = fed_in f.id f.block f.stage bytes

pub finished_is_good : (f : Flow) → HeardIsGood f.block (stream.finished f)
finished_is_good f = kept_in f.id f.block f.stage

pub given_up_is_good : (f : Flow) → HeardIsGood f.block (stream.given_up f)
given_up_is_good f = given_up_in f.id f.block f.stage

-- what a request begins with
pub first_is_good : (o : Order) (id block : ℕ) → ((started o id block).0.block ≡ block) × IsGood (started o id block).1
first_is_good (order.Put bucket key body headers) id block = (refl, record { short = tt; stocked = tt })
first_is_good (order.Stream bucket key announced headers) id block = (refl, record { short = tt; stocked = tt })
first_is_good (order.Get bucket key) id block = (refl, record { short = tt; stocked = tt })
first_is_good (order.Head bucket key) id block = (refl, record { short = tt; stocked = tt })
first_is_good (order.Delete bucket key) id block = (refl, record { short = tt; stocked = tt })
first_is_good (order.Copy from_bucket from_key bucket key headers) id block = (refl, record { short = tt; stocked = tt })
first_is_good (order.List bucket prefix) id block = (refl, record { short = tt; stocked = tt })
