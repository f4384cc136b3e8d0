-- What a request goes on to fits, and what it stores has a spelling.
use Rattle.std.specs.Prelude.{◌≡◌, ◌≤◌, ◌<◌, ◌*◌, ◌-◌, ◌^◌, ℕ, suc, min, Bool, true, false, Option, Some, None, List, [], ◌∷◌, ◌++◌, length, refl}
use Rattle.std.proofs.Common.{sym, subst, arith, length-append}
use Rattle.std.proofs.Math.Nat.{suc-mul}
use Rattle.std.proofs.lemmas.Bool.{ltb-true}
use Rattle.crdt_core.specs.EntryLaws.{and_parts}
use Rattle.crdt_rows.specs.declared.body.Meta.{Meta}
use Rattle.crdt_rows.specs.declared.version.Version.{Version}
use Rattle.crdt_rows.specs.declared.version_row.BlockRef.{BlockRef}
use Rattle.crdt_rows.specs.declared.object_row.ObjectRow.{ObjectRow}
use Rattle.crdt_rows.specs.declared.any_row.AnyRow.{AnyRow}
use Rattle.row_codec.specs.NumberLaws.{bytes_both}
use Rattle.row_codec.specs.Range.{is_eight, version_in_range}
use Rattle.row_codec.specs.Reads.{are_bytes}
use Rattle.wire_messages.specs.declared.phase.Phase.TheVariants.{Store}
use Rattle.wire_messages.specs.declared.phase.PhaseEnd.{PhaseEnd}
use Rattle.wire_messages.specs.declared.phase.PhaseEnd.TheVariants.{Row, Window, Kept, Block}
use Rattle.flow_model.specs.declared.order.Order.{Order}
use Rattle.flow_model.specs.declared.order.Order.TheVariants as order
use Rattle.flow_model.specs.declared.flow.Name.{Name}
use Rattle.flow_model.specs.declared.flow.Coming.{Coming}
use Rattle.flow_model.specs.declared.flow.Content.{Content}
use Rattle.flow_model.specs.declared.flow.Wish.{Wish}
use Rattle.flow_model.specs.declared.flow.Wish.TheVariants as wish
use Rattle.flow_model.specs.declared.flow.Aim.{Aim}
use Rattle.flow_model.specs.declared.flow.Aim.TheVariants as aim
use Rattle.flow_model.specs.declared.flow.Stage.{Stage}
use Rattle.flow_model.specs.declared.flow.Stage.TheVariants.{Drawing, Uploading, Receiving, Needing, Aborting, Completing, Looking, Opening, Gathering, Listing}
use Rattle.flow_model.specs.declared.flow.FlowStep.{FlowStep}
use Rattle.flow_model.specs.declared.flow.FlowStep.TheVariants.{More}
use Rattle.flow_model.specs.Blocks.{has_piece, is_long, piece}
use Rattle.flow_model.specs.Flow.{started}
use Rattle.flow_model.specs.Next.{drawn, completes, writes, uploads, found, reads_on, looked, gathers, opened, lists, stores, goes_on}
use Rattle.flow_model.specs.Rows.{content_of, block_rows, uploading}
use Rattle.flow_model.specs.Says.{Said, none, marked, inline, in_blocks, said_of, Named, unnamed, whole, deleted, named_by, shown_rows}
use Rattle.flow_model.specs.Streams.{need_in, fed_in, kept_in, given_up_in}
use Rattle.phase_limits.specs.Phases.{Held, IsWithin, SaysFew, GivesFew}
use Rattle.stored_weights.specs.Stored.{IsSpelled}
use Rattle.write_limits.specs.Fitting.{KeyFits, HeadersFit, ContentFits, WishFits, AimFits, OrderFits, StageFits, EndFits, DrawsInRange, StoresSingle, GoesFit, HeardFits}
use Rattle.write_limits.proofs.Rows.{uploading_single, aborted_single, complete_single, block_single, piece_few, SaidFits, said_fits}

pub begins : (o : Order) (id block : ℕ) → OrderFits o → StageFits (started o id block).0.stage × StoresSingle id (started o id block).1
begins (order.Put bucket key body headers) id block f = (f, tt)
begins (order.Stream bucket key announced headers) id block f = (f, tt)
begins (order.Get bucket key) id block f = (tt, tt)
begins (order.Head bucket key) id block f = (tt, tt)
begins (order.Delete bucket key) id block f = ((f, tt), tt)
begins (order.Copy from_bucket from_key bucket key headers) id block f = (f, tt)
begins (order.List bucket prefix) id block f = (tt, tt)

id_range : (v : Version) → version_in_range v ≡ true → is_eight v.id ≡ true
id_range v h = (and_parts (is_eight v.ts) (is_eight v.id) h).1

module _ (id block : ℕ) where
  -- ---- writes

  completed : (name : Name) (v : Version) (w : Wish) → KeyFits name.key → version_in_range v ≡ true → WishFits w → GoesFit (completes id block name v w)
  completed name v wish.Marker key range f = (tt, complete_single name v block wish.Marker key range f)
  completed name v (wish.Stream coming) key range f = (tt, complete_single name v block (wish.Stream coming) key range f)
  completed name v (wish.Content c) key range f = (tt, complete_single name v block (wish.Content c) key range f)

  written : (name : Name) (v : Version) (w : Wish) → KeyFits name.key → version_in_range v ≡ true → WishFits w → GoesFit (writes id block name v w)
  written name v wish.Marker key range f = completed name v wish.Marker key range f
  written name v (wish.Stream coming) key range f = ((key, range, f, refl, omega arith), uploading_single name v key range)
  written name v (wish.Content c) key range f =
      elim (is_long c.body) as (λ b. GoesFit (elim b as (λ _. FlowStep) [
        | true ↦ More (record { id = id; block = block; stage = Uploading name v c 0 }) (stores (uploading name v))
        | false ↦ completes id block name v (wish.Content c)
      ])) [
        | true ↦ ((key, range, f), uploading_single name v key range)
        | false ↦ completed name v (wish.Content c) key range f
      ]

  uploaded : (name : Name) (v : Version) (c : Content) (stored : ℕ) → block < 2 ^ 32 → KeyFits name.key → version_in_range v ≡ true → ContentFits c → GoesFit (uploads id block name v c stored)
  uploaded name v c stored small key range f = by_piece (has_piece block c.body stored) refl
    where
      by_piece : (b : Bool) → has_piece block c.body stored ≡ b → GoesFit (elim b as (λ _. FlowStep) [
        | true ↦ More (record { id = id; block = block; stage = Uploading name v c (suc stored) }) (Store (block_rows v.id block c.body stored))
        | false ↦ completes id block name v (wish.Content c)
      ])
      by_piece true e =
          let short : stored * block < length c.body = ltb-true (stored * block) (length c.body) e in
          let long = f.1 in
          ((key, range, f), block_single v.id (stored * block) (piece block c.body stored) (id_range v range) (omega (arith, short, long)) (piece_few block c.body stored small))
      by_piece false e = completed name v (wish.Content c) key range f

  -- ---- reads

  module _ (most : ℕ) (low : most < 2 ^ 64) where
    found_so : (a : Aim) (v : Version) (meta : Meta) (body : List ℕ) → AimFits a → HeadersFit meta.headers → are_bytes body ≡ true → length body ≤ most → GoesFit (found id block a v meta body)
    found_so aim.Get v meta body f headers bytes few = tt
    found_so aim.Head v meta body f headers bytes few = tt
    found_so (aim.Copy name None) v meta body f headers bytes few = ((f, (bytes, omega (arith, few, low), headers)), tt)
    found_so (aim.Copy name (Some own)) v meta body f headers bytes few = ((f.0, (bytes, omega (arith, few, low), f.1)), tt)

    read_on : (a : Aim) (v : Version) (meta : Meta) → AimFits a → HeadersFit meta.headers → GoesFit (reads_on id block a v meta)
    read_on aim.Get v meta f headers = ((f, headers), tt)
    read_on aim.Head v meta f headers = tt
    read_on (aim.Copy name own) v meta f headers = ((f, headers), tt)

    looked_at : (a : Aim) (said : Said) → AimFits a → SaidFits said → ((v : Version) (meta : Meta) (body : List ℕ) → said ≡ inline v meta body → length body ≤ most) → GoesFit (looked id block a said)
    looked_at a none f fits few = tt
    looked_at a (marked v) f fits few = tt
    looked_at a (inline v meta body) f fits few = found_so a v meta body f fits.0 fits.1 (few v meta body refl)
    looked_at a (in_blocks v meta first) f fits few = read_on a v meta f fits

    gathered : (a : Aim) (v : Version) (meta : Meta) (named : List BlockRef) (body : List ℕ) → AimFits a → HeadersFit meta.headers → are_bytes body ≡ true → length body ≤ most → GoesFit (gathers id block a v meta named body)
    gathered a v meta [] body f headers bytes few = found_so a v meta body f headers bytes few
    gathered a v meta (b ∷ named) body f headers bytes few = ((f, headers, bytes), tt)

    opened_so : (a : Aim) (v : Version) (meta : Meta) (named : Named) → AimFits a → HeadersFit meta.headers → GoesFit (opened id block a v meta named)
    opened_so a v meta unnamed f headers = (f, headers)
    opened_so a v meta (whole named) f headers = gathered a v meta named [] f headers refl (omega arith)
    opened_so a v meta deleted f headers = tt

  listed : (bucket prefix : List ℕ) (rows : List ObjectRow) (end : Option (List ℕ)) → GoesFit (lists id block bucket prefix rows end)
  listed bucket prefix rows None = tt
  listed bucket prefix rows (Some after) = (tt, tt)

  -- ---- a phase ended

  gave_spelled : (value : Option AnyRow) → EndFits (Row value) → (row : AnyRow) → value ≡ Some row → IsSpelled row
  gave_spelled None f row e = cc
  gave_spelled (Some r) f row e = let same : r ≡ row = cc in subst IsSpelled same f

  -- what a read goes on to
  read_goes : (h : Held) → h.bytes < 2 ^ 64 → (name : Name) (a : Aim) (value : Option AnyRow) → AimFits a → SaysFew h (said_of value) → EndFits (Row value) → GoesFit (looked id block a (said_of value))
  read_goes h low name a value f few end =
      looked_at h.bytes low a (said_of value) f (said_fits value (gave_spelled value end)) (λ v meta body e. subst (SaysFew h) e few)

  block_goes : (h : Held) → h.bytes < 2 ^ 64 → (v : Version) (meta : Meta) (a : Aim) (named : List BlockRef) (body bytes : List ℕ) → StageFits (Gathering v meta a named body) → IsWithin h (Gathering v meta a named body) → length bytes ≤ h.size → are_bytes bytes ≡ true →
      GoesFit (gathers id block a v meta named (body ++ bytes))
  block_goes h low v meta a named body bytes f within few are =
      let both = length-append body bytes in
      let next = suc-mul (length named) h.size in
      gathered h.bytes low a v meta named (body ++ bytes) f.0 f.1 (bytes_both body bytes f.2 are) (omega (arith, within, few, both, next))

  module _ (h : Held) (low : h.bytes < 2 ^ 64) (small : block < 2 ^ 32) where
    pub goes : (stage : Stage) (end : PhaseEnd AnyRow) (now : ℕ) → IsWithin h stage → GivesFew h end → StageFits stage → EndFits end → DrawsInRange id now stage end → GoesFit (goes_on id block stage end now)
    goes (Drawing name w) (Row value) now within few f end draws = written name (drawn id value now) w f.0 draws f.1
    goes (Uploading name v c stored) Kept now within few f end draws = uploaded name v c stored small f.0 f.1 f.2
    goes (Receiving name v coming received) Kept now within few f end draws = f
    goes (Aborting v) Kept now within few f end draws = tt
    goes (Completing v meta) Kept now within few f end draws = tt
    goes (Looking name a) (Row value) now within few f end draws = read_goes h low name a value f few.0 end
    goes (Opening v meta a) (Row value) now within few f end draws = opened_so h.bytes low a v meta (named_by value meta.size) f.0 f.1
    goes (Gathering v meta a named body) (Block bytes) now within few f end draws = block_goes h low v meta a named body bytes f within few end
    goes (Listing bucket prefix rows) (Window others reach) now within few f end draws = listed bucket prefix (rows ++ shown_rows others) reach
    goes (Drawing name w) (Window rs reach) now within few f end draws = f
    goes (Drawing name w) Kept now within few f end draws = f
    goes (Drawing name w) (Block bytes) now within few f end draws = f
    goes (Uploading name v c stored) (Row value) now within few f end draws = f
    goes (Uploading name v c stored) (Window rs reach) now within few f end draws = f
    goes (Uploading name v c stored) (Block bytes) now within few f end draws = f
    goes (Receiving name v coming received) (Row value) now within few f end draws = f
    goes (Receiving name v coming received) (Window rs reach) now within few f end draws = f
    goes (Receiving name v coming received) (Block bytes) now within few f end draws = f
    goes (Needing name v coming received) how now within few f end draws = f
    goes (Aborting v) (Row value) now within few f end draws = tt
    goes (Aborting v) (Window rs reach) now within few f end draws = tt
    goes (Aborting v) (Block bytes) now within few f end draws = tt
    goes (Completing v meta) (Row value) now within few f end draws = tt
    goes (Completing v meta) (Window rs reach) now within few f end draws = tt
    goes (Completing v meta) (Block bytes) now within few f end draws = tt
    goes (Looking name a) (Window rs reach) now within few f end draws = f
    goes (Looking name a) Kept now within few f end draws = f
    goes (Looking name a) (Block bytes) now within few f end draws = f
    goes (Opening v meta a) (Window rs reach) now within few f end draws = f
    goes (Opening v meta a) Kept now within few f end draws = f
    goes (Opening v meta a) (Block bytes) now within few f end draws = f
    goes (Gathering v meta a named body) (Row value) now within few f end draws = f
    goes (Gathering v meta a named body) (Window rs reach) now within few f end draws = f
    goes (Gathering v meta a named body) Kept now within few f end draws = f
    goes (Listing bucket prefix rows) (Row value) now within few f end draws = tt
    goes (Listing bucket prefix rows) Kept now within few f end draws = tt
    goes (Listing bucket prefix rows) (Block bytes) now within few f end draws = tt

  -- ---- a client was heard

  fed_block : (name : Name) (v : Version) (coming : Coming) (received bytes : List ℕ) → block < 2 ^ 32 → StageFits (Needing name v coming received) → are_bytes bytes ≡ true → length bytes ≡ min block (coming.length - length received) →
      HeardFits (fed_in id block (Needing name v coming received) bytes)
  fed_block name v coming received bytes small f are is =
      let long = f.2.0 in
      let within = f.4 in
      let both = length-append received bytes in
      ((f.0, f.1, f.2, bytes_both received bytes f.3 are, omega (arith, within, both, is)), block_single v.id (length received) bytes (id_range v f.1) (omega (arith, long, within)) (omega (arith, small, is)))

  pub fed_so : (stage : Stage) (bytes : List ℕ) → block < 2 ^ 32 → StageFits stage → are_bytes bytes ≡ true → need_in id block stage ≡ Some (length bytes) → HeardFits (fed_in id block stage bytes)
  fed_so (Needing name v coming received) bytes small f are e = fed_block name v coming received bytes small f are (let same : min block (coming.length - length received) ≡ length bytes = cc in sym same)
  fed_so (Drawing name w) bytes small f are e = tt
  fed_so (Uploading name v c stored) bytes small f are e = tt
  fed_so (Receiving name v coming received) bytes small f are e = tt
  fed_so (Aborting v) bytes small f are e = tt
  fed_so (Completing v meta) bytes small f are e = tt
  fed_so (Looking name a) bytes small f are e = tt
  fed_so (Opening v meta a) bytes small f are e = tt
  fed_so (Gathering v meta a named body) bytes small f are e = tt
  fed_so (Listing bucket prefix rows) bytes small f are e = tt

  pub kept_so : (stage : Stage) → StageFits stage → HeardFits (kept_in id block stage)
  kept_so (Needing name v coming received) f =
      let long = f.2.0 in
      let within = f.4 in
      (tt, complete_single name v block (wish.Content (content_of coming received)) f.0 f.1 (f.3, omega (arith, long, within), f.2.1))
  kept_so (Drawing name w) f = tt
  kept_so (Uploading name v c stored) f = tt
  kept_so (Receiving name v coming received) f = tt
  kept_so (Aborting v) f = tt
  kept_so (Completing v meta) f = tt
  kept_so (Looking name a) f = tt
  kept_so (Opening v meta a) f = tt
  kept_so (Gathering v meta a named body) f = tt
  kept_so (Listing bucket prefix rows) f = tt

  pub given_up_so : (stage : Stage) → StageFits stage → HeardFits (given_up_in id block stage)
  given_up_so (Needing name v coming received) f = (tt, aborted_single name v f.0 f.1)
  given_up_so (Drawing name w) f = tt
  given_up_so (Uploading name v c stored) f = tt
  given_up_so (Receiving name v coming received) f = tt
  given_up_so (Aborting v) f = tt
  given_up_so (Completing v meta) f = tt
  given_up_so (Looking name a) f = tt
  given_up_so (Opening v meta a) f = tt
  given_up_so (Gathering v meta a named body) f = tt
  given_up_so (Listing bucket prefix rows) f = tt
