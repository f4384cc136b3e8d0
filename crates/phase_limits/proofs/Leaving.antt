-- Each phase of a request leaves fewer to begin.
use Rattle.std.specs.Prelude.{◌≡◌, ◌≤◌, ◌<◌, ◌+◌, ◌*◌, ◌-◌, ℕ, suc, Bool, true, false, Option, Some, None, List, [], ◌∷◌, ◌++◌, length, refl}
use Rattle.std.proofs.Common.{arith, length-append}
use Rattle.std.proofs.Math.Nat.{mul-le-mul, suc-mul}
use Rattle.std.proofs.lemmas.Bool.{ltb-true}
use Rattle.crdt_rows.specs.declared.any_row.AnyRow.{AnyRow}
use Rattle.crdt_rows.specs.declared.body.Meta.{Meta}
use Rattle.crdt_rows.specs.declared.object_row.ObjectRow.{ObjectRow}
use Rattle.crdt_rows.specs.declared.version.Version.{Version}
use Rattle.crdt_rows.specs.declared.version_row.BlockRef.{BlockRef}
use Rattle.wire_messages.specs.declared.phase.Phase.TheVariants.{Store}
use Rattle.wire_messages.specs.declared.phase.PhaseEnd.{PhaseEnd}
use Rattle.wire_messages.specs.declared.phase.PhaseEnd.TheVariants.{Row, Window, Kept, Block}
use Rattle.flow_model.specs.declared.flow.Name.{Name}
use Rattle.flow_model.specs.declared.flow.Content.{Content}
use Rattle.flow_model.specs.declared.flow.Wish.{Wish}
use Rattle.flow_model.specs.declared.flow.Wish.TheVariants as wish
use Rattle.flow_model.specs.declared.flow.Aim.{Aim}
use Rattle.flow_model.specs.declared.flow.Aim.TheVariants as aim
use Rattle.flow_model.specs.declared.flow.Stage.{Stage}
use Rattle.flow_model.specs.declared.flow.Stage.TheVariants.{Drawing, Uploading, Receiving, Needing, Aborting, Completing, Looking, Opening, Gathering, Listing}
use Rattle.flow_model.specs.declared.flow.FlowStep.{FlowStep}
use Rattle.flow_model.specs.declared.flow.FlowStep.TheVariants.{More, Wait}
use Rattle.flow_model.specs.Blocks.{has_piece, is_long}
use Rattle.flow_model.specs.Next.{drawn, completes, writes, uploads, found, reads_on, looked, gathers, opened, lists, stores, goes_on}
use Rattle.flow_model.specs.Rows.{block_rows, uploading}
use Rattle.flow_model.specs.Says.{Said, none, marked, inline, in_blocks, said_of, Named, unnamed, whole, deleted, named_by, shown_rows}
use Rattle.phase_limits.specs.Phases.{Held, left_to_write, left_then, left, IsWithin, SaysFew, NamesFew, GivesFew, LeavesFewer}

module _ (h : Held) (id block : ℕ) where
  abbrev Fewer : ℕ → FlowStep → Type 0
  Fewer n st = LeavesFewer h n st

  waits : (n : ℕ) (stage : Stage) → left h stage ≤ n → IsWithin h stage → Fewer n (Wait (record { id = id; block = block; stage = stage }))
  waits n stage low within = (low, within)

  -- ---- writes

  completed : (n : ℕ) (name : Name) (version : Version) (w : Wish) → 1 ≤ n → Fewer n (completes id block name version w)
  completed n name version wish.Marker low = (omega arith, tt)
  completed n name version (wish.Stream coming) low = (omega arith, tt)
  completed n name version (wish.Content c) low = (omega arith, tt)

  written : (name : Name) (version : Version) (w : Wish) → Fewer (left_to_write w) (writes id block name version w)
  written name version wish.Marker = (omega arith, tt)
  written name version (wish.Stream coming) = (omega arith, tt)
  written name version (wish.Content c) =
      elim (is_long c.body) as (λ b. Fewer (length c.body + 2) (elim b as (λ _. FlowStep) [
        | true ↦ More (record { id = id; block = block; stage = Uploading name version c 0 }) (stores (uploading name version))
        | false ↦ completes id block name version (wish.Content c)
      ])) [
        | true ↦ (omega arith, omega arith)
        | false ↦ completed (length c.body + 2) name version (wish.Content c) (omega arith)
      ]

  uploaded : (name : Name) (version : Version) (c : Content) (stored : ℕ) → 1 ≤ block → stored ≤ length c.body → Fewer (suc (length c.body) - stored) (uploads id block name version c stored)
  uploaded name version c stored some within = by_piece (has_piece block c.body stored) refl
    where
      by_piece : (b : Bool) → has_piece block c.body stored ≡ b → Fewer (suc (length c.body) - stored) (elim b as (λ _. FlowStep) [
        | true ↦ More (record { id = id; block = block; stage = Uploading name version c (suc stored) }) (Store (block_rows version.id block c.body stored))
        | false ↦ completes id block name version (wish.Content c)
      ])
      by_piece true e =
          let short : stored * block < length c.body = ltb-true (stored * block) (length c.body) e in
          let least : stored * 1 ≤ stored * block = mul-le-mul {n₁ = stored} {m₁ = 1} {n₂ = stored} {m₂ = block} (omega arith) some in
          (omega (arith, short, least), omega (arith, short, least))
      by_piece false e = completed (suc (length c.body) - stored) name version (wish.Content c) (omega (arith, within))

  -- ---- reads

  asked_then : (a : Aim) (version : Version) (meta : Meta) (body : List ℕ) → length body ≤ h.bytes → (n : ℕ) → left_then h a ≤ n → Fewer n (found id block a version meta body)
  asked_then aim.Get version meta body low n enough = tt
  asked_then aim.Head version meta body low n enough = tt
  asked_then (aim.Copy name headers) version meta body low n enough = (omega (arith, low, enough), tt)

  read_on : (a : Aim) (version : Version) (meta : Meta) → Fewer (suc h.blocks + left_then h a) (reads_on id block a version meta)
  read_on aim.Get version meta = (omega arith, tt)
  read_on aim.Head version meta = tt
  read_on (aim.Copy name headers) version meta = (omega arith, tt)

  looked_at : (a : Aim) (said : Said) → SaysFew h said → Fewer (suc h.blocks + left_then h a) (looked id block a said)
  looked_at a none few = tt
  looked_at a (marked version) few = tt
  looked_at a (inline version meta body) few = asked_then a version meta body few (suc h.blocks + left_then h a) (omega arith)
  looked_at a (in_blocks version meta first) few = read_on a version meta

  -- with so many bytes gathered, these blocks are to come
  gathered : (a : Aim) (version : Version) (meta : Meta) (named : List BlockRef) (body : List ℕ) → length body + length named * h.size ≤ h.bytes → (n : ℕ) → length named + left_then h a ≤ n → Fewer n (gathers id block a version meta named body)
  gathered a version meta [] body low n enough = asked_then a version meta body (omega (arith, low)) n (omega (arith, enough))
  gathered a version meta (b ∷ named) body low n enough = (omega (arith, enough), low)

  opened_so : (a : Aim) (version : Version) (meta : Meta) (named : Named) → NamesFew h named → Fewer (h.blocks + left_then h a) (opened id block a version meta named)
  opened_so a version meta unnamed few = (omega arith, tt)
  opened_so a version meta (whole named) few =
      let all : length named * h.size ≤ h.blocks * h.size = mul-le-mul {n₁ = length named} {m₁ = h.size} {n₂ = h.blocks} {m₂ = h.size} few (omega arith) in
      let enough = h.enough in
      gathered a version meta named [] (omega (arith, all, enough)) (h.blocks + left_then h a) (omega (arith, few))
  opened_so a version meta deleted few = tt

  listed : (n : ℕ) (bucket prefix : List ℕ) (rows : List ObjectRow) (end : Option (List ℕ)) → Fewer n (lists id block bucket prefix rows end)
  listed n bucket prefix rows None = tt
  listed n bucket prefix rows (Some after) = tt

  -- ---- all

  pub leaves : (stage : Stage) (end : PhaseEnd AnyRow) (now : ℕ) → 1 ≤ block → IsWithin h stage → GivesFew h end → Fewer (left h stage) (goes_on id block stage end now)
  leaves (Drawing name w) (Row value) now some within few = written name (drawn id value now) w
  leaves (Uploading name version c stored) Kept now some within few = uploaded name version c stored some within
  leaves (Receiving name version coming received) Kept now some within few = tt
  leaves (Aborting version) Kept now some within few = tt
  leaves (Completing version meta) Kept now some within few = tt
  leaves (Looking name a) (Row value) now some within few = looked_at a (said_of value) few.0
  leaves (Opening version meta a) (Row value) now some within few = opened_so a version meta (named_by value meta.size) (few.1 meta.size)
  leaves (Gathering version meta a named body) (Block bytes) now some within few =
      let both = length-append body bytes in
      let next = suc-mul (length named) h.size in
      gathered a version meta named (body ++ bytes) (omega (arith, within, few, both, next)) (length named + left_then h a) (omega arith)
  leaves (Listing bucket prefix rows) (Window others end) now some within few = listed 0 bucket prefix (rows ++ shown_rows others) end
  leaves (Drawing name w) (Window rs end) now some within few = waits (left h (Drawing name w)) (Drawing name w) (omega arith) within
  leaves (Drawing name w) Kept now some within few = waits (left h (Drawing name w)) (Drawing name w) (omega arith) within
  leaves (Drawing name w) (Block bytes) now some within few = waits (left h (Drawing name w)) (Drawing name w) (omega arith) within
  leaves (Uploading name version c stored) (Row value) now some within few = waits (left h (Uploading name version c stored)) (Uploading name version c stored) (omega arith) within
  leaves (Uploading name version c stored) (Window rs end) now some within few = waits (left h (Uploading name version c stored)) (Uploading name version c stored) (omega arith) within
  leaves (Uploading name version c stored) (Block bytes) now some within few = waits (left h (Uploading name version c stored)) (Uploading name version c stored) (omega arith) within
  leaves (Receiving name version coming received) (Row value) now some within few = (omega arith, tt)
  leaves (Receiving name version coming received) (Window rs end) now some within few = (omega arith, tt)
  leaves (Receiving name version coming received) (Block bytes) now some within few = (omega arith, tt)
  leaves (Needing name version coming received) end now some within few = (omega arith, tt)
  leaves (Aborting version) (Row value) now some within few = (omega arith, tt)
  leaves (Aborting version) (Window rs end) now some within few = (omega arith, tt)
  leaves (Aborting version) (Block bytes) now some within few = (omega arith, tt)
  leaves (Completing version meta) (Row value) now some within few = (omega arith, tt)
  leaves (Completing version meta) (Window rs end) now some within few = (omega arith, tt)
  leaves (Completing version meta) (Block bytes) now some within few = (omega arith, tt)
  leaves (Looking name a) (Window rs end) now some within few = waits (left h (Looking name a)) (Looking name a) (omega arith) within
  leaves (Looking name a) Kept now some within few = waits (left h (Looking name a)) (Looking name a) (omega arith) within
  leaves (Looking name a) (Block bytes) now some within few = waits (left h (Looking name a)) (Looking name a) (omega arith) within
  leaves (Opening version meta a) (Window rs end) now some within few = waits (left h (Opening version meta a)) (Opening version meta a) (omega arith) within
  leaves (Opening version meta a) Kept now some within few = waits (left h (Opening version meta a)) (Opening version meta a) (omega arith) within
  leaves (Opening version meta a) (Block bytes) now some within few = waits (left h (Opening version meta a)) (Opening version meta a) (omega arith) within
  leaves (Gathering version meta a named body) (Row value) now some within few = waits (left h (Gathering version meta a named body)) (Gathering version meta a named body) (omega arith) within
  leaves (Gathering version meta a named body) (Window rs end) now some within few = waits (left h (Gathering version meta a named body)) (Gathering version meta a named body) (omega arith) within
  leaves (Gathering version meta a named body) Kept now some within few = waits (left h (Gathering version meta a named body)) (Gathering version meta a named body) (omega arith) within
  leaves (Listing bucket prefix rows) (Row value) now some within few = (omega arith, tt)
  leaves (Listing bucket prefix rows) Kept now some within few = (omega arith, tt)
  leaves (Listing bucket prefix rows) (Block bytes) now some within few = (omega arith, tt)
