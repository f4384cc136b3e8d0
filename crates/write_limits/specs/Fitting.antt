-- Requests whose keys, headers and bytes are in range, and what they store then.
use Rattle.std.specs.Prelude.{◌≡◌, ◌≤◌, ◌<◌, ◌^◌, ⊤, ℕ, true, ◌&&◌, List, length, Some, None}
use Rattle.std.specs.List.{AllByRecursion, list_all}
use Rattle.crdt_rows.specs.declared.any_row.AnyRow.{AnyRow}
use Rattle.row_codec.specs.Reads.{are_bytes}
use Rattle.row_codec.specs.Range.{version_in_range, is_below, are_short}
use Rattle.wire_messages.specs.declared.phase.Phase.{Phase}
use Rattle.wire_messages.specs.declared.phase.PhaseEnd.{PhaseEnd}
use Rattle.wire_messages.specs.declared.phase.PhaseEnd.TheVariants.{Row, Block}
use Rattle.cluster_machine.specs.declared.step.Step.TheVariants.{Phase as Begin}
use Rattle.machine_origins.specs.Origins.{stored_by}
use Rattle.flow_model.specs.declared.order.Order.{Order}
use Rattle.flow_model.specs.declared.order.Order.TheVariants as order
use Rattle.flow_model.specs.declared.flow.Coming.{Coming}
use Rattle.flow_model.specs.declared.flow.Content.{Content}
use Rattle.flow_model.specs.declared.flow.Wish.{Wish}
use Rattle.flow_model.specs.declared.flow.Wish.TheVariants as wish
use Rattle.flow_model.specs.declared.flow.Aim.{Aim}
use Rattle.flow_model.specs.declared.flow.Aim.TheVariants as aim
use Rattle.flow_model.specs.declared.flow.Stage.{Stage}
use Rattle.flow_model.specs.declared.flow.Stage.TheVariants.{Drawing, Uploading, Receiving, Needing, Looking, Opening, Gathering}
use Rattle.flow_model.specs.declared.flow.FlowStep.{FlowStep}
use Rattle.flow_model.specs.declared.flow.FlowStep.TheVariants.{More, Need, Wait, End}
use Rattle.flow_model.specs.Next.{drawn}
use Rattle.flow_model.specs.Streams as stream
use Rattle.stored_weights.specs.Stored.{IsSpelled, entries_in}

-- ---- what is in range

-- bytes, fewer than 2^32
abbrev pub KeyFits : List ℕ → Type 0
KeyFits key = (are_bytes key ≡ true) × (is_below key ≡ true)

-- headers of bytes, fewer than 2^32, and fewer in each
abbrev pub HeadersFit : List (List ℕ × List ℕ) → Type 0
HeadersFit headers = (list_all (λ h. are_bytes h.0 && are_bytes h.1) headers ≡ true) × (are_short (λ h. is_below h.0 && is_below h.1) headers ≡ true)

-- bytes, fewer than 2^64, with such headers
abbrev pub ContentFits : Content → Type 0
ContentFits c = (are_bytes c.body ≡ true) × (length c.body < 2 ^ 64) × HeadersFit c.headers

-- fewer than 2^64 bytes that are to come, with such headers
abbrev pub ComingFits : Coming → Type 0
ComingFits coming = (coming.length < 2 ^ 64) × HeadersFit coming.headers

abbrev pub WishFits : Wish → Type 0
WishFits wish.Marker = ⊤
WishFits (wish.Stream coming) = ComingFits coming
WishFits (wish.Content c) = ContentFits c

abbrev pub AimFits : Aim → Type 0
AimFits (aim.Copy name None) = KeyFits name.key
AimFits (aim.Copy name (Some headers)) = KeyFits name.key × HeadersFit headers
AimFits _ = ⊤

-- what is asked
abbrev pub OrderFits : Order → Type 0
OrderFits (order.Put bucket key body headers) = KeyFits key × ContentFits (record { body = body; headers = headers })
OrderFits (order.Stream bucket key announced headers) = KeyFits key × ComingFits (record { length = announced; headers = headers })
OrderFits (order.Delete bucket key) = KeyFits key
OrderFits (order.Copy from_bucket from_key bucket key headers) = AimFits (aim.Copy (record { bucket = bucket; key = key }) headers)
OrderFits _ = ⊤

-- what a request waits for
abbrev pub StageFits : Stage → Type 0
StageFits (Drawing name w) = KeyFits name.key × WishFits w
StageFits (Uploading name version c stored) = KeyFits name.key × (version_in_range version ≡ true) × ContentFits c
StageFits (Receiving name version coming received) = KeyFits name.key × (version_in_range version ≡ true) × ComingFits coming × (are_bytes received ≡ true) × (length received ≤ coming.length)
StageFits (Needing name version coming received) = KeyFits name.key × (version_in_range version ≡ true) × ComingFits coming × (are_bytes received ≡ true) × (length received ≤ coming.length)
StageFits (Looking name a) = AimFits a
StageFits (Opening version meta a) = AimFits a × HeadersFit meta.headers
StageFits (Gathering version meta a left body) = AimFits a × HeadersFit meta.headers × (are_bytes body ≡ true)
StageFits _ = ⊤

-- what a phase gives: a row with a spelling, or bytes
abbrev pub EndFits : PhaseEnd AnyRow → Type 0
EndFits (Row (Some row)) = IsSpelled row
EndFits (Block bytes) = are_bytes bytes ≡ true
EndFits _ = ⊤

-- a request that draws its version then draws one that is in range
abbrev pub DrawsInRange : ℕ → ℕ → Stage → PhaseEnd AnyRow → Type 0
DrawsInRange id now (Drawing name w) (Row value) = version_in_range (drawn id value now) ≡ true
DrawsInRange id now stage end = ⊤

-- ---- what is stored

-- each of these rows has a spelling, and no more than one entry
abbrev pub AreSingle : List AnyRow → Type 0
AreSingle rs = AllByRecursion (λ r. IsSpelled r × (entries_in r ≤ 1)) rs

-- what request id stores in a phase is so
abbrev pub StoresSingle : ℕ → Phase AnyRow → Type 0
StoresSingle id phase = AreSingle (stored_by (Begin id phase))

-- what a request goes on to fits, and so does what it stores
abbrev pub GoesFit : FlowStep → Type 0
GoesFit (More flow phase) = StageFits flow.stage × StoresSingle flow.id phase
GoesFit (Need flow wanted) = StageFits flow.stage
GoesFit (Wait flow) = StageFits flow.stage
GoesFit (End end) = ⊤

-- the same where its client was heard
abbrev pub HeardFits : stream.Step → Type 0
HeardFits None = ⊤
HeardFits (Some n) = StageFits n.0.stage × StoresSingle n.0.id n.1
