-- What a streamed upload does when its client was heard.
use Rattle.std.specs.Prelude.{ℕ, Option, Some, None, List, ◌++◌, length}
use Rattle.crdt_rows.specs.declared.any_row.AnyRow.{AnyRow}
use Rattle.wire_messages.specs.declared.phase.Phase.{Phase}
use Rattle.wire_messages.specs.declared.phase.Phase.TheVariants.{Store}
use Rattle.flow_model.specs.declared.flow.Wish.TheVariants as wish
use Rattle.flow_model.specs.declared.flow.Stage.{Stage}
use Rattle.flow_model.specs.declared.flow.Stage.TheVariants.{Receiving, Needing, Aborting, Completing}
use Rattle.flow_model.specs.declared.flow.Flow.{Flow}
use Rattle.flow_model.specs.Rows as row
use Rattle.flow_model.specs.Flow.{waiting}
use Rattle.flow_model.specs.Next.{stores, wanted}

-- what a request that waits so needs of its client: a block of so many bytes, or 0, to be told whether it is kept; nothing where it waits for something else
abbrev pub need_in : ℕ → ℕ → Stage → Option ℕ
need_in id block (Needing name version coming received) = Some (wanted id block coming received)
need_in id block stage = None

-- the same of a flow
abbrev pub need_of : Flow → Option ℕ
need_of flow = need_in flow.id flow.block flow.stage

-- what a request goes on with, and the phase whose end it waits for
abbrev pub Step : Type 0
Step = Option (Flow × Phase AnyRow)

module _ (id block : ℕ) where
  -- a block has come: it is stored where those before it end
  abbrev pub fed_in : Stage → List ℕ → Step
  fed_in (Needing name version coming received) bytes = Some (waiting id block (Receiving name version coming (received ++ bytes)) (Store (row.rows_at version.id (length received) bytes)))
  fed_in stage bytes = None

  -- the upload is kept: the complete version is stored, with what was received
  abbrev pub kept_in : Stage → Step
  kept_in (Needing name version coming received) =
      let c = row.content_of coming received in
      Some (waiting id block (Completing version (Some (row.meta_of c))) (stores (row.complete name version block (wish.Content c))))
  kept_in stage = None

  -- it is given up: that is stored
  abbrev pub given_up_in : Stage → Step
  given_up_in (Needing name version coming received) = Some (waiting id block (Aborting version) (stores (row.aborted name version)))
  given_up_in stage = None

-- what a request does with a block that has come; nothing where it needs none
abbrev pub fed : Flow → List ℕ → Step
fed flow bytes = fed_in flow.id flow.block flow.stage bytes

-- what it does where its bytes have come and are to be kept
abbrev pub finished : Flow → Step
finished flow = kept_in flow.id flow.block flow.stage

-- what it does where it is given up
abbrev pub given_up : Flow → Step
given_up flow = given_up_in flow.id flow.block flow.stage
