-- Each request waits, and ends, as its kind does; and what is known of versions, sizes and keys that it waits with is known of what it ends with.
use Rattle.std.proofs.Common.{◌≡◌, ℕ, suc, true, false, Option, Some, None, List, [], ◌∷◌, ◌++◌, length, refl, sym, subst}
use Rattle.std.specs.Prelude.{IsTrue, ⊤}
use Rattle.crdt_rows.specs.declared.version.Version.{Version}
use Rattle.crdt_rows.specs.declared.body.Meta.{Meta}
use Rattle.crdt_rows.specs.declared.version_row.BlockRef.{BlockRef}
use Rattle.crdt_rows.specs.declared.object_row.ObjectRow.{ObjectRow}
use Rattle.crdt_rows.specs.declared.any_row.AnyRow.{AnyRow}
use Rattle.wire_messages.specs.declared.phase.Phase.TheVariants.{Store}
use Rattle.wire_messages.specs.declared.phase.PhaseEnd.{PhaseEnd}
use Rattle.wire_messages.specs.declared.phase.PhaseEnd.TheVariants.{Row, Window, Kept, Block}
use Rattle.history_model.specs.declared.record.Kind.{Kind}
use Rattle.history_model.specs.declared.record.Kind.TheVariants as kind
use Rattle.history_model.specs.Record.{is_write}
use Rattle.flow_model.specs.declared.order.Order.{Order}
use Rattle.flow_model.specs.declared.order.Order.TheVariants as order
use Rattle.flow_model.specs.declared.flow.Name.{Name}
use Rattle.flow_model.specs.declared.flow.Content.{Content}
use Rattle.flow_model.specs.declared.flow.Wish.{Wish}
use Rattle.flow_model.specs.declared.flow.Wish.TheVariants as wish
use Rattle.flow_model.specs.declared.flow.Aim.{Aim}
use Rattle.flow_model.specs.declared.flow.Aim.TheVariants as aim
use Rattle.flow_model.specs.declared.flow.Stage.{Stage}
use Rattle.flow_model.specs.declared.flow.Stage.TheVariants.{Drawing, Uploading, Receiving, Needing, Aborting, Completing, Looking, Opening, Gathering, Listing}
use Rattle.flow_model.specs.declared.flow.FlowStep.{FlowStep}
use Rattle.flow_model.specs.declared.flow.FlowStep.TheVariants.{More, Need, Wait, End}
use Rattle.flow_model.specs.declared.flow.FlowEnd.{FlowEnd}
use Rattle.flow_model.specs.declared.flow.FlowEnd.TheVariants.{Stored, Found, Nothing, Listed, Superseded, Aborted}
use Rattle.flow_model.specs.Blocks.{has_piece, is_long}
use Rattle.flow_model.specs.Flow.{started}
use Rattle.flow_model.specs.Rows.{uploading, block_rows}
use Rattle.flow_model.specs.Says.{Said, none, marked, inline, in_blocks, said_of, shown_rows, Named, unnamed, whole, deleted, named_by}
use Rattle.flow_model.specs.Next.{drawn, stores, more, completes, writes, uploads, found, reads_on, looked, gathers, opened, lists, goes_on}
use Rattle.store_model.specs.Orders.{kind_of}

-- what a read of this kind reads for
abbrev pub IsAimOf : Kind → Aim → Type 0
IsAimOf k aim.Get = k ≡ kind.Get
IsAimOf k aim.Head = k ≡ kind.Head
IsAimOf k (aim.Copy name headers) = k ≡ kind.Copy

-- a request of this kind may end without an object
abbrev pub MayFindNone : Kind → Type 0
MayFindNone kind.Get = ⊤
MayFindNone kind.Head = ⊤
MayFindNone kind.Copy = ⊤
MayFindNone k = ⊥

module _ (V : Version → Type 0) (S : ℕ → Type 0) where
  -- what a row says of its object
  abbrev pub IsSaid : Said → Type 0
  IsSaid none = ⊤
  IsSaid (marked version) = ⊤
  IsSaid (inline version meta body) = V version × S meta.size × S (length body)
  IsSaid (in_blocks version meta first) = V version × S meta.size

  module _ (T : List ObjectRow → Type 0) where
    abbrev pub IsStage : Kind → Stage → Type 0
    IsStage k (Drawing name w) = IsTrue (is_write k)
    IsStage k (Uploading name version c stored) = IsTrue (is_write k) × V version
    IsStage k (Receiving name version coming received) = IsTrue (is_write k) × V version
    IsStage k (Needing name version coming received) = IsTrue (is_write k) × V version
    IsStage k (Aborting version) = IsTrue (is_write k)
    IsStage k (Completing version meta) = IsTrue (is_write k) × V version
    IsStage k (Looking name aim) = IsAimOf k aim
    IsStage k (Opening version meta aim) = IsAimOf k aim × V version × S meta.size
    IsStage k (Gathering version meta aim left body) = IsAimOf k aim × V version × S meta.size
    IsStage k (Listing bucket prefix rows) = (k ≡ kind.List) × T rows

    -- how a request of this kind ends
    abbrev pub IsEnd : Kind → FlowEnd → Type 0
    IsEnd k (Stored version meta) = IsTrue (is_write k) × V version
    IsEnd kind.Get (Found version meta body) = V version × S (length body)
    IsEnd kind.Head (Found version meta body) = V version × S meta.size
    IsEnd k (Found version meta body) = ⊥
    IsEnd k Nothing = MayFindNone k
    IsEnd k (Listed rows) = (k ≡ kind.List) × T rows
    IsEnd k (Superseded id) = ⊤
    IsEnd k Aborted = IsTrue (is_write k)

    abbrev pub IsNext : Kind → FlowStep → Type 0
    IsNext k (More flow phase) = IsStage k flow.stage
    IsNext k (Need flow wanted) = IsStage k flow.stage
    IsNext k (Wait flow) = IsStage k flow.stage
    IsNext k (End end) = IsEnd k end

    -- what the end of its phase gives to a request that waits so
    abbrev pub Gives : ℕ → Stage → PhaseEnd AnyRow → ℕ → Type 0
    Gives id (Drawing name w) (Row value) now = V (drawn id value now)
    Gives id (Looking name aim) (Row value) now = IsSaid (said_of value)
    Gives id (Gathering version meta aim left body) (Block bytes) now = S (length (body ++ bytes))
    Gives id (Listing bucket prefix rows) (Window others end) now = T (rows ++ shown_rows others)
    Gives id stage end now = ⊤

  -- ---- what a request does

  module _ (T U : List ObjectRow → Type 0) (later : (rows : List ObjectRow) → T rows → U rows) (none_small : S 0) (k : Kind) (id block : ℕ) where
    abbrev Next : FlowStep → Type 0
    Next step = IsNext U k step

    completes_is : (name : Name) (version : Version) (w : Wish) → IsTrue (is_write k) → V version → Next (completes id block name version w)
    completes_is name version wish.Marker h v = (h, v)
    completes_is name version (wish.Stream coming) h v = (h, v)
    completes_is name version (wish.Content c) h v = (h, v)

    writes_is : (name : Name) (version : Version) (w : Wish) → IsTrue (is_write k) → V version → Next (writes id block name version w)
    writes_is name version wish.Marker h v = (h, v)
    writes_is name version (wish.Stream coming) h v = (h, v)
    writes_is name version (wish.Content c) h v =
        elim (is_long c.body) as (λ b. Next (elim b as (λ b. FlowStep) [ true ↦ more id block (Uploading name version c 0) (stores (uploading name version)) | false ↦ completes id block name version (wish.Content c) ])) [
          | true ↦ (h, v)
          | false ↦ (h, v)
        ]

    uploads_is : (name : Name) (version : Version) (c : Content) (i : ℕ) → IsTrue (is_write k) → V version → Next (uploads id block name version c i)
    uploads_is name version c i h v =
        elim (has_piece block c.body i) as (λ b. Next (elim b as (λ b. FlowStep) [ true ↦ more id block (Uploading name version c (suc i)) (Store (block_rows version.id block c.body i)) | false ↦ completes id block name version (wish.Content c) ])) [
          | true ↦ (h, v)
          | false ↦ (h, v)
        ]

    found_is : (a : Aim) (version : Version) (meta : Meta) (body : List ℕ) → IsAimOf k a → V version → S meta.size → S (length body) → Next (found id block a version meta body)
    found_is aim.Get version meta body is v m b = subst (λ x. IsEnd U x (Found version meta body)) (sym is) (v, b)
    found_is aim.Head version meta body is v m b = subst (λ x. IsEnd U x (Found version meta [])) (sym is) (v, m)
    found_is (aim.Copy name headers) version meta body is v m b = subst (λ x. IsTrue (is_write x)) (sym is) refl

    reads_on_is : (a : Aim) (version : Version) (meta : Meta) → IsAimOf k a → V version → S meta.size → Next (reads_on id block a version meta)
    reads_on_is aim.Get version meta is v m = (is, v, m)
    reads_on_is aim.Head version meta is v m = subst (λ x. IsEnd U x (Found version meta [])) (sym is) (v, m)
    reads_on_is (aim.Copy name headers) version meta is v m = (is, v, m)

    nothing_is : (a : Aim) → IsAimOf k a → IsEnd U k Nothing
    nothing_is aim.Get is = subst (λ x. IsEnd U x Nothing) (sym is) tt
    nothing_is aim.Head is = subst (λ x. IsEnd U x Nothing) (sym is) tt
    nothing_is (aim.Copy name headers) is = subst (λ x. IsEnd U x Nothing) (sym is) tt

    looked_is : (a : Aim) (said : Said) → IsAimOf k a → IsSaid said → Next (looked id block a said)
    looked_is a none is h = nothing_is a is
    looked_is a (marked version) is h = nothing_is a is
    looked_is a (inline version meta body) is h = found_is a version meta body is h.0 h.1 h.2
    looked_is a (in_blocks version meta first) is h = reads_on_is a version meta is h.0 h.1

    gathers_is : (a : Aim) (version : Version) (meta : Meta) (left : List BlockRef) (body : List ℕ) → IsAimOf k a → V version → S meta.size → S (length body) → Next (gathers id block a version meta left body)
    gathers_is a version meta [] body is v m b = found_is a version meta body is v m b
    gathers_is a version meta (r ∷ left) body is v m b = (is, v, m)

    opened_is : (a : Aim) (version : Version) (meta : Meta) (named : Named) → IsAimOf k a → V version → S meta.size → Next (opened id block a version meta named)
    opened_is a version meta unnamed is v m = (is, v, m)
    opened_is a version meta (whole blocks) is v m = gathers_is a version meta blocks [] is v m none_small
    opened_is a version meta deleted is v m = tt

    lists_is : (bucket prefix : List ℕ) (rows : List ObjectRow) (end : Option (List ℕ)) → k ≡ kind.List → U rows → Next (lists id block bucket prefix rows end)
    lists_is bucket prefix rows None is h = (is, h)
    lists_is bucket prefix rows (Some after) is h = (is, h)

    -- what a request of this kind does whose phase ended
    pub next_is : (stage : Stage) (end : PhaseEnd AnyRow) (now : ℕ) → IsStage T k stage → Gives U id stage end now → Next (goes_on id block stage end now)
    next_is (Drawing name w) (Row value) now h g = writes_is name (drawn id value now) w h g
    next_is (Uploading name version c stored) Kept now h g = uploads_is name version c stored h.0 h.1
    next_is (Receiving name version coming received) Kept now h g = h
    next_is (Aborting version) Kept now h g = h
    next_is (Completing version meta) Kept now h g = h
    next_is (Looking name a) (Row value) now h g = looked_is a (said_of value) h g
    next_is (Opening version meta a) (Row value) now h g = opened_is a version meta (named_by value meta.size) h.0 h.1 h.2
    next_is (Gathering version meta a left body) (Block bytes) now h g = gathers_is a version meta left (body ++ bytes) h.0 h.1 h.2 g
    next_is (Listing bucket prefix rows) (Window others end) now h g = lists_is bucket prefix (rows ++ shown_rows others) end h.0 g
    next_is (Drawing name w) (Window rs end) now h g = h
    next_is (Drawing name w) Kept now h g = h
    next_is (Drawing name w) (Block bytes) now h g = h
    next_is (Uploading name version c stored) (Row value) now h g = h
    next_is (Uploading name version c stored) (Window rs end) now h g = h
    next_is (Uploading name version c stored) (Block bytes) now h g = h
    next_is (Receiving name version coming received) (Row value) now h g = h
    next_is (Receiving name version coming received) (Window rs end) now h g = h
    next_is (Receiving name version coming received) (Block bytes) now h g = h
    next_is (Needing name version coming received) (Row value) now h g = h
    next_is (Needing name version coming received) (Window rs end) now h g = h
    next_is (Needing name version coming received) Kept now h g = h
    next_is (Needing name version coming received) (Block bytes) now h g = h
    next_is (Aborting version) (Row value) now h g = h
    next_is (Aborting version) (Window rs end) now h g = h
    next_is (Aborting version) (Block bytes) now h g = h
    next_is (Completing version meta) (Row value) now h g = h
    next_is (Completing version meta) (Window rs end) now h g = h
    next_is (Completing version meta) (Block bytes) now h g = h
    next_is (Looking name a) (Window rs end) now h g = h
    next_is (Looking name a) Kept now h g = h
    next_is (Looking name a) (Block bytes) now h g = h
    next_is (Opening version meta a) (Window rs end) now h g = h
    next_is (Opening version meta a) Kept now h g = h
    next_is (Opening version meta a) (Block bytes) now h g = h
    next_is (Gathering version meta a left body) (Row value) now h g = h
    next_is (Gathering version meta a left body) (Window rs end) now h g = h
    next_is (Gathering version meta a left body) Kept now h g = h
    next_is (Listing bucket prefix rows) (Row value) now h g = (h.0, later rows h.1)
    next_is (Listing bucket prefix rows) Kept now h g = (h.0, later rows h.1)
    next_is (Listing bucket prefix rows) (Block bytes) now h g = (h.0, later rows h.1)

  -- what a request begins with
  pub started_is : (T : List ObjectRow → Type 0) → T [] → (o : Order) (id block : ℕ) → IsStage T (kind_of o) (started o id block).0.stage
  started_is T empty (order.Put bucket key body headers) id block = refl
  started_is T empty (order.Stream bucket key length headers) id block = refl
  started_is T empty (order.Get bucket key) id block = refl
  started_is T empty (order.Head bucket key) id block = refl
  started_is T empty (order.Delete bucket key) id block = refl
  started_is T empty (order.Copy from_bucket from_key bucket key headers) id block = refl
  started_is T empty (order.List bucket prefix) id block = (refl, empty)

-- where nothing is asked of versions, sizes and rows, each phase gives it
abbrev pub any_version : Version → Type 0
any_version v = ⊤

abbrev pub any_number : ℕ → Type 0
any_number n = ⊤

abbrev pub any_rows : List ObjectRow → Type 0
any_rows rows = ⊤

any_said : (s : Said) → IsSaid any_version any_number s
any_said none = tt
any_said (marked version) = tt
any_said (inline version meta body) = (tt, tt, tt)
any_said (in_blocks version meta first) = (tt, tt)

pub gives_any : (id : ℕ) (stage : Stage) (end : PhaseEnd AnyRow) (now : ℕ) → Gives any_version any_number any_rows id stage end now
gives_any id (Drawing name w) (Row value) now = tt
gives_any id (Looking name a) (Row value) now = any_said (said_of value)
gives_any id (Gathering version meta a left body) (Block bytes) now = tt
gives_any id (Listing bucket prefix rows) (Window others end) now = tt
gives_any id (Drawing name w) (Window rs end) now = tt
gives_any id (Drawing name w) Kept now = tt
gives_any id (Drawing name w) (Block bytes) now = tt
gives_any id (Uploading name version c stored) end now = tt
gives_any id (Receiving name version coming received) end now = tt
gives_any id (Needing name version coming received) end now = tt
gives_any id (Aborting version) end now = tt
gives_any id (Completing version meta) end now = tt
gives_any id (Looking name a) (Window rs end) now = tt
gives_any id (Looking name a) Kept now = tt
gives_any id (Looking name a) (Block bytes) now = tt
gives_any id (Opening version meta a) end now = tt
gives_any id (Gathering version meta a left body) (Row value) now = tt
gives_any id (Gathering version meta a left body) (Window rs end) now = tt
gives_any id (Gathering version meta a left body) Kept now = tt
gives_any id (Listing bucket prefix rows) (Row value) now = tt
gives_any id (Listing bucket prefix rows) Kept now = tt
gives_any id (Listing bucket prefix rows) (Block bytes) now = tt
