-- What a request does when its phase has ended.
use Rattle.std.specs.Prelude.{ℕ, suc, max, min, ◌-◌, true, false, Option, Some, None, List, [], ◌∷◌, ◌++◌, length}
use Rattle.std.specs.Option.{unwrap_or}
use Rattle.blake2_hash.specs.Hash.{digest_of}
use Rattle.row_codec.specs.Spelling.{eight}
use Rattle.crdt_rows.specs.declared.version.Version.{Version}
use Rattle.crdt_rows.specs.declared.body.Meta.{Meta}
use Rattle.crdt_rows.specs.declared.version_row.BlockRef.{BlockRef}
use Rattle.crdt_rows.specs.declared.object_row.ObjectRow.{ObjectRow}
use Rattle.crdt_rows.specs.declared.any_row.AnyRow.{AnyRow}
use Rattle.wire_messages.specs.declared.phase.Phase.{Phase}
use Rattle.wire_messages.specs.declared.phase.Phase.TheVariants.{Read, Store, Block as Fetch}
use Rattle.wire_messages.specs.declared.phase.PhaseEnd.{PhaseEnd}
use Rattle.wire_messages.specs.declared.phase.PhaseEnd.TheVariants.{Row, Window, Kept, Block}
use Rattle.flow_model.specs.declared.flow.Name.{Name}
use Rattle.flow_model.specs.declared.flow.Coming.{Coming}
use Rattle.flow_model.specs.declared.flow.Content.{Content}
use Rattle.flow_model.specs.declared.flow.Wish.{Wish}
use Rattle.flow_model.specs.declared.flow.Wish.TheVariants as wish
use Rattle.flow_model.specs.declared.flow.Aim.{Aim}
use Rattle.flow_model.specs.declared.flow.Aim.TheVariants as aim
use Rattle.flow_model.specs.declared.flow.Stage.{Stage}
use Rattle.flow_model.specs.declared.flow.Stage.TheVariants.{Drawing, Uploading, Receiving, Needing, Aborting, Completing, Looking, Opening, Gathering, Listing}
use Rattle.flow_model.specs.declared.flow.Flow.{Flow}
use Rattle.flow_model.specs.declared.flow.FlowStep.{FlowStep}
use Rattle.flow_model.specs.declared.flow.FlowStep.TheVariants.{More, Need, Wait, End}
use Rattle.flow_model.specs.declared.flow.FlowEnd.TheVariants.{Stored, Found, Nothing, Listed, Superseded, Aborted}
use Rattle.flow_model.specs.Blocks.{has_piece, is_long}
use Rattle.flow_model.specs.Rows as row
use Rattle.flow_model.specs.Says.{Said, none, marked, inline, in_blocks, said_of, greatest_ts, shown_rows, Named, unnamed, whole, deleted, named_by}
use Rattle.flow_model.specs.Flow.{asks_for, asks_past}

-- the version that a write draws when it has read this of its object, at this time of its coordinator's clock
abbrev pub drawn : ℕ → Option AnyRow → ℕ → Version
drawn id value now = record { ts = max now (suc (greatest_ts value)); id = id }

-- the phase that stores one row alone
abbrev pub stores : AnyRow → Phase AnyRow
stores r = Store ((r, None) ∷ [])

-- the read phase of a version's row
abbrev pub opens : Version → Phase AnyRow
opens version = Read 2 (digest_of (eight version.id)) (eight version.id)

module _ (id block : ℕ) where
  -- the request goes on so
  abbrev pub more : Stage → Phase AnyRow → FlowStep
  more stage phase = More (record { id = id; block = block; stage = stage }) phase

  -- the complete version is stored
  abbrev pub completes : Name → Version → Wish → FlowStep
  completes name version wish.Marker = more (Completing version None) (stores (row.complete name version block wish.Marker))
  completes name version (wish.Stream coming) = more (Completing version (Some (row.meta_of (row.content_of coming [])))) (stores (row.complete name version block (wish.Stream coming)))
  completes name version (wish.Content c) = more (Completing version (Some (row.meta_of c))) (stores (row.complete name version block (wish.Content c)))

  -- a write has drawn its version: long bytes are uploaded block by block, all else is stored at once
  abbrev pub writes : Name → Version → Wish → FlowStep
  writes name version wish.Marker = completes name version wish.Marker
  writes name version (wish.Stream coming) = more (Receiving name version coming []) (stores (row.uploading name version))
  writes name version (wish.Content c) = elim (is_long c.body) [
    | true ↦ more (Uploading name version c 0) (stores (row.uploading name version))
    | false ↦ completes name version (wish.Content c)
  ]

  -- the next block is stored, or the complete version where there is none
  abbrev pub uploads : Name → Version → Content → ℕ → FlowStep
  uploads name version c stored = elim (has_piece block c.body stored) [
    | true ↦ more (Uploading name version c (suc stored)) (Store (row.block_rows version.id block c.body stored))
    | false ↦ completes name version (wish.Content c)
  ]

  -- what a streamed upload waits for: so many bytes, which are its next block, or 0 where all have come
  abbrev pub wanted : Coming → List ℕ → ℕ
  wanted coming received = min block (coming.length - length received)

  -- a streamed upload waits for its client
  abbrev pub needs : Name → Version → Coming → List ℕ → FlowStep
  needs name version coming received = Need (record { id = id; block = block; stage = Needing name version coming received }) (wanted coming received)

  -- the object was read: it is given, or written under its new name
  abbrev pub found : Aim → Version → Meta → List ℕ → FlowStep
  found aim.Get version meta body = End (Found version meta body)
  found aim.Head version meta body = End (Found version meta [])
  found (aim.Copy name headers) version meta body = more (Drawing name (wish.Content (record { body = body; headers = unwrap_or headers meta.headers }))) (asks_for name)

  -- the object is kept in blocks: a head has all that it asks, others ask for the version's row
  abbrev pub reads_on : Aim → Version → Meta → FlowStep
  reads_on aim.Head version meta = End (Found version meta [])
  reads_on aim version meta = more (Opening version meta aim) (opens version)

  -- what a read does with what a row says of its object
  abbrev pub looked : Aim → Said → FlowStep
  looked aim none = End Nothing
  looked aim (marked version) = End Nothing
  looked aim (inline version meta body) = found aim version meta body
  looked aim (in_blocks version meta first) = reads_on aim version meta

  -- the next of these blocks is asked for, or the object is read
  abbrev pub gathers : Aim → Version → Meta → List BlockRef → List ℕ → FlowStep
  gathers aim version meta [] body = found aim version meta body
  gathers aim version meta (b ∷ left) body = more (Gathering version meta aim left body) (Fetch b.hash)

  -- what a read does with what a row says of its version's blocks
  abbrev pub opened : Aim → Version → Meta → Named → FlowStep
  opened aim version meta unnamed = Wait (record { id = id; block = block; stage = Opening version meta aim })
  opened aim version meta (whole blocks) = gathers aim version meta blocks []
  opened aim version meta deleted = End (Superseded version.id)

  -- the list goes on past the window, or is done where there is no more
  abbrev pub lists : List ℕ → List ℕ → List ObjectRow → Option (List ℕ) → FlowStep
  lists bucket prefix rows None = End (Listed rows)
  lists bucket prefix rows (Some after) = more (Listing bucket prefix rows) (asks_past bucket prefix after)

  -- what a request that waits so does with this end of its phase, at this time of its coordinator's clock; with an end of another kind it goes on waiting
  abbrev pub goes_on : Stage → PhaseEnd AnyRow → ℕ → FlowStep
  goes_on (Drawing name wish) (Row value) now = writes name (drawn id value now) wish
  goes_on (Uploading name version content stored) Kept now = uploads name version content stored
  goes_on (Receiving name version coming received) Kept now = needs name version coming received
  goes_on (Aborting version) Kept now = End Aborted
  goes_on (Completing version meta) Kept now = End (Stored version meta)
  goes_on (Looking name aim) (Row value) now = looked aim (said_of value)
  goes_on (Opening version meta aim) (Row value) now = opened aim version meta (named_by value meta.size)
  goes_on (Gathering version meta aim left body) (Block bytes) now = gathers aim version meta left (body ++ bytes)
  goes_on (Listing bucket prefix rows) (Window others end) now = lists bucket prefix (rows ++ shown_rows others) end
  goes_on stage end now = Wait (record { id = id; block = block; stage = stage })

-- what a request does when its phase has ended, at this time of its coordinator's clock
abbrev pub next : Flow → PhaseEnd AnyRow → ℕ → FlowStep
next flow end now = goes_on flow.id flow.block flow.stage end now
