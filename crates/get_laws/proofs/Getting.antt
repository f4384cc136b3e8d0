-- What a get has given, while phases of it end.
use Rattle.std.proofs.Common.{◌≡◌, ℕ, Option, Some, None, List, [], ◌∷◌, ◌++◌, if◌then◌else◌, option_map, refl, append-nil}
use Rattle.std.specs.Prelude.{⊤}
use Rattle.std.specs.Option.{option_or}
use Rattle.crdt_rows.specs.declared.version.Version.{Version}
use Rattle.crdt_rows.specs.declared.body.Meta.{Meta}
use Rattle.crdt_rows.specs.declared.version_row.BlockRef.{BlockRef}
use Rattle.crdt_rows.specs.declared.any_row.AnyRow.{AnyRow}
use Rattle.wire_messages.specs.declared.phase.PhaseEnd.{PhaseEnd}
use Rattle.wire_messages.specs.declared.phase.PhaseEnd.TheVariants.{Row, Window, Kept, Block}
use Rattle.flow_model.specs.declared.flow.Aim.TheVariants as aim
use Rattle.flow_model.specs.declared.flow.Name.{Name}
use Rattle.flow_model.specs.declared.flow.Stage.{Stage}
use Rattle.flow_model.specs.declared.flow.Stage.TheVariants.{Drawing, Uploading, Receiving, Needing, Aborting, Completing, Looking, Opening, Gathering, Listing}
use Rattle.flow_model.specs.declared.flow.FlowStep.{FlowStep}
use Rattle.flow_model.specs.declared.flow.FlowStep.TheVariants.{More, Need, Wait, End}
use Rattle.flow_model.specs.declared.flow.FlowEnd.{FlowEnd}
use Rattle.flow_model.specs.declared.flow.FlowEnd.TheVariants.{Stored, Found, Nothing, Listed, Superseded, Aborted}
use Rattle.flow_model.specs.Says.{Said, none, marked, inline, in_blocks, said_of, Named, unnamed, whole, deleted, named_by}
use Rattle.flow_model.specs.Next.{looked, gathers, opened, goes_on}
use Rattle.flow_model.specs.Streams.{fed_in, kept_in, given_up_in}
use Rattle.store_model.specs.Gets.{object_in, object_given, is_there, gathered_at, body_of}
use Rattle.serve_model.specs.Stores.{Given, IsFirstOf, given_with}
use Rattle.serve_model.specs.Clusters.{begun_with}
use Rattle.get_laws.proofs.Firsts.{first_same}

-- the object that was seen
abbrev pub Seen : Type 0
Seen = Option (Version × Meta)

-- ---- what is so

-- a get that waits so has seen this
abbrev pub WaitsWith : Stage → Seen → Type 0
WaitsWith (Looking name aim.Get) seen = seen ≡ None
WaitsWith (Opening version meta aim.Get) seen = seen ≡ Some (version, meta)
WaitsWith (Gathering version meta aim.Get left body) seen = seen ≡ Some (version, meta)
WaitsWith stage seen = ⊥

-- a get that ended so has seen this
abbrev pub EndsWith : FlowEnd → Seen → Type 0
EndsWith (Found version meta body) seen = seen ≡ Some (version, meta)
EndsWith Nothing seen = seen ≡ None
EndsWith (Superseded id) seen = ⊤
EndsWith end seen = ⊥

-- a get waits, or its end waits to be taken
abbrev pub IsAt : Option Stage → Option FlowEnd → Seen → Type 0
IsAt (Some stage) None seen = WaitsWith stage seen
IsAt None (Some end) seen = EndsWith end seen
IsAt stage end seen = ⊥

-- the bytes that came, where it waits or ended so
abbrev pub came : Option Stage → Option FlowEnd → List ℕ
came (Some stage) end = gathered_at (Some stage)
came None end = body_of end

-- what it has given
abbrev pub given_at : Option Stage → Option FlowEnd → Seen → Option Given
given_at stage end seen = option_map (λ (found : Version × Meta). record { version = found.0; meta = found.1; bytes = came stage end }) (if is_there stage end then seen else None)

-- ---- what becomes of it

-- it goes on so, sees this, and gives more
abbrev pub Advances : Option Given → FlowStep → Seen → Type 0
Advances before (More flow phase) seen = WaitsWith flow.stage seen × IsFirstOf before (given_at (Some flow.stage) None seen)
Advances before (Need flow wanted) seen = WaitsWith flow.stage seen × IsFirstOf before (given_at (Some flow.stage) None seen)
Advances before (Wait flow) seen = WaitsWith flow.stage seen × IsFirstOf before (given_at (Some flow.stage) None seen)
Advances before (End end) seen = EndsWith end seen × IsFirstOf before (given_at None (Some end) seen)

module _ (id block : ℕ) where
  -- what was seen stays, and the bytes grow
  found_advances : (version : Version) (meta : Meta) (left : List BlockRef) (body bytes : List ℕ) →
      Advances (Some (record { version = version; meta = meta; bytes = body })) (gathers id block aim.Get version meta left (body ++ bytes)) (Some (version, meta))
  found_advances version meta [] body bytes = (refl, (refl, refl, (bytes, refl)))
  found_advances version meta (b ∷ left) body bytes = (refl, (refl, refl, (bytes, refl)))

  looking_advances : (said : Said) → Advances None (looked id block aim.Get said) (option_or None (object_in said))
  looking_advances none = (refl, tt)
  looking_advances (marked version) = (refl, tt)
  looking_advances (inline version meta body) = (refl, tt)
  looking_advances (in_blocks version meta first) = (refl, tt)

  opening_advances : (version : Version) (meta : Meta) (named : Named) →
      Advances (Some (record { version = version; meta = meta; bytes = [] })) (opened id block aim.Get version meta named) (Some (version, meta))
  opening_advances version meta unnamed = (refl, (refl, refl, ([], refl)))
  opening_advances version meta (whole blocks) = found_advances version meta blocks [] []
  opening_advances version meta deleted = (tt, (refl, refl, ([], refl)))

  -- a get goes on as it waits
  abbrev pub StageAdvances : Stage → PhaseEnd AnyRow → ℕ → Seen → Type 0
  StageAdvances stage end now seen = Advances (given_at (Some stage) None seen) (goes_on id block stage end now) (option_or seen (object_given end))

  stays : (stage : Stage) (seen : Seen) → WaitsWith stage seen → Advances (given_at (Some stage) None seen) (Wait (record { id = id; block = block; stage = stage })) (option_or seen None)
  stays stage None h = (h, tt)
  stays stage (Some found) h = (h, first_same (given_at (Some stage) None (Some found)))

  from_none : (name : Name) (end : PhaseEnd AnyRow) (now : ℕ) → StageAdvances (Looking name aim.Get) end now None
  from_none name (Row value) now = looking_advances (said_of value)
  from_none name (Window rows more) now = (refl, tt)
  from_none name Kept now = (refl, tt)
  from_none name (Block bytes) now = (refl, tt)

  from_opening : (version : Version) (meta : Meta) (end : PhaseEnd AnyRow) (now : ℕ) → StageAdvances (Opening version meta aim.Get) end now (Some (version, meta))
  from_opening version meta (Row value) now = opening_advances version meta (named_by value meta.size)
  from_opening version meta (Window rows more) now = (refl, (refl, refl, ([], refl)))
  from_opening version meta Kept now = (refl, (refl, refl, ([], refl)))
  from_opening version meta (Block bytes) now = (refl, (refl, refl, ([], refl)))

  from_gathering : (version : Version) (meta : Meta) (left : List BlockRef) (body : List ℕ) (end : PhaseEnd AnyRow) (now : ℕ) → StageAdvances (Gathering version meta aim.Get left body) end now (Some (version, meta))
  from_gathering version meta left body (Row value) now = (refl, (refl, refl, ([], append-nil body)))
  from_gathering version meta left body (Window rows more) now = (refl, (refl, refl, ([], append-nil body)))
  from_gathering version meta left body Kept now = (refl, (refl, refl, ([], append-nil body)))
  from_gathering version meta left body (Block bytes) now = found_advances version meta left body bytes

  pub stage_advances : (stage : Stage) (end : PhaseEnd AnyRow) (now : ℕ) (seen : Seen) → WaitsWith stage seen → StageAdvances stage end now seen
  stage_advances (Looking name aim.Get) end now seen is = rw is (from_none name end now)
  stage_advances (Looking name aim.Head) end now seen is = absurd is
  stage_advances (Looking name (aim.Copy new headers)) end now seen is = absurd is
  stage_advances (Opening version meta aim.Get) end now seen is = rw is (from_opening version meta end now)
  stage_advances (Opening version meta aim.Head) end now seen is = absurd is
  stage_advances (Opening version meta (aim.Copy new headers)) end now seen is = absurd is
  stage_advances (Gathering version meta aim.Get left body) end now seen is = rw is (from_gathering version meta left body end now)
  stage_advances (Gathering version meta aim.Head left body) end now seen is = absurd is
  stage_advances (Gathering version meta (aim.Copy new headers) left body) end now seen is = absurd is
  stage_advances (Drawing name wish) end now seen is = absurd is
  stage_advances (Uploading name version content stored) end now seen is = absurd is
  stage_advances (Receiving name version coming received) end now seen is = absurd is
  stage_advances (Needing name version coming received) end now seen is = absurd is
  stage_advances (Aborting version) end now seen is = absurd is
  stage_advances (Completing version meta) end now seen is = absurd is
  stage_advances (Listing bucket prefix rows) end now seen is = absurd is

-- a get waits for no client: whatever one does, nothing comes of it
pub hears_none : (id block : ℕ) (bytes : List ℕ) (stage : Stage) (seen : Seen) → WaitsWith stage seen → (fed_in id block stage bytes ≡ None) × (kept_in id block stage ≡ None) × (given_up_in id block stage ≡ None)
hears_none id block bytes (Needing name version coming received) seen is = absurd is
hears_none id block bytes _ seen is = (refl, refl, refl)

-- ---- in all

ends_with_all : (end : FlowEnd) (seen : Seen) → EndsWith end seen → given_with (Some end) (begun_with (Some end) (given_at None (Some end) seen)) ≡ given_at None (Some end) seen
ends_with_all (Found version meta body) seen is = rw is refl
ends_with_all Nothing seen is = rw is refl
ends_with_all (Superseded id) seen is = refl
ends_with_all (Stored version meta) seen is = absurd is
ends_with_all (Listed rows) seen is = absurd is
ends_with_all Aborted seen is = absurd is

-- what a get gives in all is what it has given until its end is taken
pub gives_all : (stage : Option Stage) (end : Option FlowEnd) (seen : Seen) → IsAt stage end seen → given_with end (begun_with end (given_at stage end seen)) ≡ given_at stage end seen
gives_all (Some stage) None seen is = refl
gives_all (Some stage) (Some end) seen is = absurd is
gives_all None (Some end) seen is = ends_with_all end seen is
gives_all None None seen is = absurd is
