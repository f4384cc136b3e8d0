-- What a request goes on to is within what is held, with blocks of the same size.
use Rattle.std.specs.Prelude.{◌≡◌, ◌≤◌, ◌<◌, ◌+◌, ◌*◌, ⊤, ℕ, suc, Bool, true, false, Option, Some, None, List, [], ◌∷◌, ◌++◌, length, refl}
use Rattle.std.proofs.Common.{arith, length-append}
use Rattle.std.proofs.Math.Nat.{mul-le-mul, suc-mul}
use Rattle.std.proofs.lemmas.Bool.{ltb-true}
use Rattle.crdt_rows.specs.declared.body.Meta.{Meta}
use Rattle.crdt_rows.specs.declared.object_row.ObjectRow.{ObjectRow}
use Rattle.crdt_rows.specs.declared.version.Version.{Version}
use Rattle.crdt_rows.specs.declared.version_row.BlockRef.{BlockRef}
use Rattle.crdt_rows.specs.declared.any_row.AnyRow.{AnyRow}
use Rattle.wire_messages.specs.declared.phase.Phase.TheVariants.{Store}
use Rattle.wire_messages.specs.declared.phase.PhaseEnd.{PhaseEnd}
use Rattle.wire_messages.specs.declared.phase.PhaseEnd.TheVariants.{Row, Window, Kept, Block}
use Rattle.flow_model.specs.declared.order.Order.{Order}
use Rattle.flow_model.specs.declared.order.Order.TheVariants as order
use Rattle.flow_model.specs.declared.flow.Name.{Name}
use Rattle.flow_model.specs.declared.flow.Content.{Content}
use Rattle.flow_model.specs.declared.flow.Wish.{Wish}
use Rattle.flow_model.specs.declared.flow.Wish.TheVariants as wish
use Rattle.flow_model.specs.declared.flow.Aim.{Aim}
use Rattle.flow_model.specs.declared.flow.Aim.TheVariants as aim
use Rattle.flow_model.specs.declared.flow.Stage.{Stage}
use Rattle.flow_model.specs.declared.flow.Stage.TheVariants.{Drawing, Uploading, Receiving, Needing, Aborting, Completing, Looking, Opening, Gathering, Listing}
use Rattle.flow_model.specs.declared.flow.Flow.{Flow}
use Rattle.flow_model.specs.declared.flow.FlowStep.{FlowStep}
use Rattle.flow_model.specs.declared.flow.FlowStep.TheVariants.{More, Need, Wait, End}
use Rattle.flow_model.specs.Blocks.{has_piece, is_long}
use Rattle.flow_model.specs.Flow.{started}
use Rattle.flow_model.specs.Next.{drawn, completes, writes, uploads, found, reads_on, looked, gathers, opened, lists, stores, goes_on}
use Rattle.flow_model.specs.Rows.{block_rows, uploading}
use Rattle.flow_model.specs.Says.{Said, none, marked, inline, in_blocks, said_of, Named, unnamed, whole, deleted, named_by, shown_rows}
use Rattle.flow_model.specs.Streams as stream
use Rattle.phase_limits.specs.Phases.{Held, IsWithin, NamesFew, GivesFew}

module _ (h : Held) (block : ℕ) where
  abbrev pub IsIn : Flow → Type 0
  IsIn flow = IsWithin h flow.stage × (flow.block ≡ block)

  abbrev pub GoesWithin : FlowStep → Type 0
  GoesWithin (More flow phase) = IsIn flow
  GoesWithin (Need flow wanted) = IsIn flow
  GoesWithin (Wait flow) = IsIn flow
  GoesWithin (End end) = ⊤

  abbrev pub HeardWithin : stream.Step → Type 0
  HeardWithin None = ⊤
  HeardWithin (Some n) = IsIn n.0

  pub begins_within : (o : Order) (id : ℕ) → IsIn (started o id block).0
  begins_within (order.Put bucket key body headers) id = (tt, refl)
  begins_within (order.Stream bucket key announced headers) id = (tt, refl)
  begins_within (order.Get bucket key) id = (tt, refl)
  begins_within (order.Head bucket key) id = (tt, refl)
  begins_within (order.Delete bucket key) id = (tt, refl)
  begins_within (order.Copy from_bucket from_key bucket key headers) id = (tt, refl)
  begins_within (order.List bucket prefix) id = (tt, refl)

  module _ (id : ℕ) where
    completed : (name : Name) (v : Version) (w : Wish) → GoesWithin (completes id block name v w)
    completed name v wish.Marker = (tt, refl)
    completed name v (wish.Stream coming) = (tt, refl)
    completed name v (wish.Content c) = (tt, refl)

    written : (name : Name) (v : Version) (w : Wish) → GoesWithin (writes id block name v w)
    written name v wish.Marker = (tt, refl)
    written name v (wish.Stream coming) = (tt, refl)
    written name v (wish.Content c) =
        elim (is_long c.body) as (λ b. GoesWithin (elim b as (λ _. FlowStep) [
          | true ↦ More (record { id = id; block = block; stage = Uploading name v c 0 }) (stores (uploading name v))
          | false ↦ completes id block name v (wish.Content c)
        ])) [
          | true ↦ (omega arith, refl)
          | false ↦ completed name v (wish.Content c)
        ]

    uploaded : (name : Name) (v : Version) (c : Content) (stored : ℕ) → 1 ≤ block → GoesWithin (uploads id block name v c stored)
    uploaded name v c stored some = by_piece (has_piece block c.body stored) refl
      where
        by_piece : (b : Bool) → has_piece block c.body stored ≡ b → GoesWithin (elim b as (λ _. FlowStep) [
          | true ↦ More (record { id = id; block = block; stage = Uploading name v c (suc stored) }) (Store (block_rows v.id block c.body stored))
          | false ↦ completes id block name v (wish.Content c)
        ])
        by_piece true e =
            let short : stored * block < length c.body = ltb-true (stored * block) (length c.body) e in
            let least : stored * 1 ≤ stored * block = mul-le-mul {n₁ = stored} {m₁ = 1} {n₂ = stored} {m₂ = block} (omega arith) some in
            (omega (arith, short, least), refl)
        by_piece false e = completed name v (wish.Content c)

    found_so : (a : Aim) (v : Version) (meta : Meta) (body : List ℕ) → GoesWithin (found id block a v meta body)
    found_so aim.Get v meta body = tt
    found_so aim.Head v meta body = tt
    found_so (aim.Copy name headers) v meta body = (tt, refl)

    read_on : (a : Aim) (v : Version) (meta : Meta) → GoesWithin (reads_on id block a v meta)
    read_on aim.Get v meta = (tt, refl)
    read_on aim.Head v meta = tt
    read_on (aim.Copy name headers) v meta = (tt, refl)

    looked_at : (a : Aim) (said : Said) → GoesWithin (looked id block a said)
    looked_at a none = tt
    looked_at a (marked v) = tt
    looked_at a (inline v meta body) = found_so a v meta body
    looked_at a (in_blocks v meta first) = read_on a v meta

    gathered : (a : Aim) (v : Version) (meta : Meta) (named : List BlockRef) (body : List ℕ) → length body + length named * h.size ≤ h.bytes → GoesWithin (gathers id block a v meta named body)
    gathered a v meta [] body low = found_so a v meta body
    gathered a v meta (b ∷ named) body low = (low, refl)

    opened_so : (a : Aim) (v : Version) (meta : Meta) (named : Named) → NamesFew h named → GoesWithin (opened id block a v meta named)
    opened_so a v meta unnamed few = (tt, refl)
    opened_so a v meta (whole named) few =
        let all : length named * h.size ≤ h.blocks * h.size = mul-le-mul {n₁ = length named} {m₁ = h.size} {n₂ = h.blocks} {m₂ = h.size} few (omega arith) in
        let enough = h.enough in
        gathered a v meta named [] (omega (arith, all, enough))
    opened_so a v meta deleted few = tt

    listed : (bucket prefix : List ℕ) (rows : List ObjectRow) (end : Option (List ℕ)) → GoesWithin (lists id block bucket prefix rows end)
    listed bucket prefix rows None = tt
    listed bucket prefix rows (Some after) = (tt, refl)

    pub goes_within : (stage : Stage) (end : PhaseEnd AnyRow) (now : ℕ) → 1 ≤ block → IsWithin h stage → GivesFew h end → GoesWithin (goes_on id block stage end now)
    goes_within (Drawing name w) (Row value) now some within few = written name (drawn id value now) w
    goes_within (Drawing name w) _ now some within few = (tt, refl)
    goes_within (Uploading name v c stored) Kept now some within few = uploaded name v c stored some
    goes_within (Uploading name v c stored) _ now some within few = (within, refl)
    goes_within (Receiving name v coming received) Kept now some within few = (tt, refl)
    goes_within (Receiving name v coming received) _ now some within few = (tt, refl)
    goes_within (Needing name v coming received) _ now some within few = (tt, refl)
    goes_within (Aborting v) Kept now some within few = tt
    goes_within (Aborting v) _ now some within few = (tt, refl)
    goes_within (Completing v meta) Kept now some within few = tt
    goes_within (Completing v meta) _ now some within few = (tt, refl)
    goes_within (Looking name a) (Row value) now some within few = looked_at a (said_of value)
    goes_within (Looking name a) _ now some within few = (tt, refl)
    goes_within (Opening v meta a) (Row value) now some within few = opened_so a v meta (named_by value meta.size) (few.1 meta.size)
    goes_within (Opening v meta a) _ now some within few = (tt, refl)
    goes_within (Gathering v meta a named body) (Block bytes) now some within few =
        let both = length-append body bytes in
        let next = suc-mul (length named) h.size in
        gathered a v meta named (body ++ bytes) (omega (arith, within, few, both, next))
    goes_within (Gathering v meta a named body) _ now some within few = (within, refl)
    goes_within (Listing bucket prefix rows) (Window others end) now some within few = listed bucket prefix (rows ++ shown_rows others) end
    goes_within (Listing bucket prefix rows) _ now some within few = (tt, refl)

    pub fed_within : (stage : Stage) (bytes : List ℕ) → HeardWithin (stream.fed_in id block stage bytes)
    fed_within (Needing name v coming received) bytes = (tt, refl)
    fed_within _ bytes = tt

    pub kept_within : (stage : Stage) → HeardWithin (stream.kept_in id block stage)
    kept_within (Needing name v coming received) = (tt, refl)
    kept_within _ = tt

    pub given_up_within : (stage : Stage) → HeardWithin (stream.given_up_in id block stage)
    given_up_within (Needing name v coming received) = (tt, refl)
    given_up_within _ = tt
