-- The invariant of a state that acts lead to.
use Rattle.std.specs.Prelude.{◌≡◌, ◌≤◌, ◌<◌, ◌⊎◌, ℕ, nat_eq, true, Option, IsTrue, List, ◌∷◌, [], ◌++◌, length, take, slice_get, Some, ⊤}
use Rattle.std.specs.List.{All, AllByRecursion, Contains, starts_with}
use Rattle.crdt_core.specs.Members.{Has}
use Rattle.crdt_rows.specs.declared.version.Version.{Version}
use Rattle.crdt_rows.specs.declared.any_row.AnyRow.{AnyRow}
use Rattle.crdt_rows.specs.declared.any_row.AnyRow.TheVariants as rows
use Rattle.crdt_rows.specs.AnyRow.{any_join}
use Rattle.layout_roles.specs.declared.layout.Layout.{Layout}
use Rattle.object_schema.specs.Schema.{words}
use Rattle.cluster_machine.specs.Node.{Question, Scan, Present, resting, asking, scanning, storing, fetching, Call}
use Rattle.cluster_machine.specs.World.{empty, numbered}
use Rattle.cluster_machine.specs.declared.step.Step.{Step}
use Rattle.machine_origins.specs.Origins.{stored_by}
use Rattle.cluster_machine.specs.Worlds.{IsLawfulRun, IsLawfulStart, run, start as first_world}
use Rattle.history_model.specs.declared.record.Kind.{Kind}
use Rattle.history_model.specs.declared.record.Kind.TheVariants as kind
use Rattle.history_model.specs.declared.record.Answer.{Answer}
use Rattle.history_model.specs.declared.record.Answer.TheVariants as answer
use Rattle.history_model.specs.declared.record.Record.{Record}
use Rattle.history_model.specs.declared.record.Record.TheVariants.{Began, Finished}
use Rattle.history_model.specs.Record.{is_read, is_write, is_delete, is_source, names, Shows}
use Rattle.flow_model.specs.declared.flow.Name.{Name}
use Rattle.flow_model.specs.declared.flow.Wish.{Wish}
use Rattle.flow_model.specs.declared.flow.Wish.TheVariants as wish
use Rattle.flow_model.specs.declared.flow.Aim.{Aim}
use Rattle.flow_model.specs.declared.flow.Aim.TheVariants as aim
use Rattle.flow_model.specs.declared.flow.Stage.{Stage}
use Rattle.flow_model.specs.declared.flow.Stage.TheVariants.{Drawing, Uploading, Receiving, Needing, Aborting, Completing, Looking, Opening, Gathering, Listing}
use Rattle.flow_model.specs.declared.flow.Flow.{Flow}
use Rattle.flow_model.specs.Rows.{row_key, complete}
use Rattle.store_model.specs.Run.{World, Moving, Asked, Draw, Saw, State}
use Rattle.store_model.specs.Fresh.{Gave, IsMarked, NoClash}
use Rattle.history_model.specs.Fresh.{Below}
use Rattle.store_laws.proofs.Alike.{IsAlike}
use Rattle.store_laws.proofs.Hashes.{HasHash}
use Rattle.store_laws.proofs.Rows.{IsOf, FoundIn, IsInBlocks, SaysWritten}
use Rattle.store_laws.proofs.Covering.{IsSaid}
use Rattle.quorum_model.specs.Window.{is_within}
use Rattle.flow_model.specs.Says.{is_shown, said_by}
use Rattle.blake2_hash.specs.Hash.{digest_of}
use Rattle.crdt_rows.specs.declared.object_row.ObjectRow.{ObjectRow}
use Rattle.store_laws.proofs.Good.{IsGood}
use Rattle.store_laws.proofs.Deeds.{Deed, IsOfAny, IsClear, ArePromptIn, StepsDo}
use Rattle.store_collects.specs.Fresh.{IsForgotten, IsFresh}
use Rattle.store_collects.specs.Prompt.{ArePromptMoves}
use Rattle.store_collects.proofs.Machine.{moments_then}

-- the rows that this step begins to store are good
abbrev pub StoresGood : List Draw → Step AnyRow → Type 0
StoresGood draws st = All (IsGood draws) (stored_by st)

-- a layout was installed in the world, after these steps
pub record IsInstalled (begin : World) (before : List Moving) : Type 0 where
  pub first : Layout
  pub lawful : IsLawfulStart any_join words before first
  pub is : begin ≡ first_world any_join words before first

-- these steps, from the empty world, and after them those from a world, are prompt, and so many requests have begun, at these moments
pub record ArePromptSteps (all : List ℕ) (before : List Moving) (begin : World) (moves : List Moving) (requests : ℕ) : Type 0 where
  pub first : ArePromptMoves [] empty before
  pub rest : ArePromptMoves (moments_then [] empty before) begin moves
  pub now : moments_then (moments_then [] empty before) begin moves ≡ take requests all

-- the world is one that lawful steps lead to, from the empty one or from one in which a layout was installed, but that messages were forgotten; each of the steps is so, what they did is among these deeds, and where the steps among these are prompt, they are
pub record IsReachedBy (H : Deed → Type 0) (IsSo : Step AnyRow → Type 0) (w : World) : Type 0 where
  pub before : List Moving
  pub begin : World
  pub begun : ((before ≡ []) × (begin ≡ empty)) ⊎ IsInstalled begin before
  pub moves : List Moving
  pub lawful : IsLawfulRun any_join words begin moves
  pub alike : IsAlike w (run any_join words begin moves)
  pub before_are : All (λ (m : Moving). IsSo m.step) before
  pub done_before : (d : Deed) → IsOfAny d → StepsDo empty before d → H d
  pub done : (d : Deed) → IsOfAny d → StepsDo begin moves d → H d
  pub prompt : (all : List ℕ) → ArePromptIn H all → ArePromptSteps all before begin moves (length w.requests)
  pub are : All (λ (m : Moving). IsSo m.step) moves

-- each row that the steps began to store is good
abbrev pub IsReached : (Deed → Type 0) → List Draw → World → Type 0
IsReached H draws w = IsReachedBy H (StoresGood draws) w

-- the record that a request began
abbrev pub began : ℕ → ℕ → Kind → Name → Record
began q n kind name = Began q n kind name.bucket name.key

-- request q was asked for, to do this with this object
pub record IsAsked (asked : List Asked) (q : ℕ) (kind : Kind) (name : Name) : Type 0 where
  pub one : Asked
  pub is_there : numbered asked q ≡ Some one
  pub kind_is : one.kind ≡ kind
  pub name_is : one.name ≡ name

-- the history tells of each request that was asked for, and of no other; the names' buckets are there, and writes are of objects with a key
pub record IsTold (buckets : List (List ℕ)) (asked : List Asked) (history : List Record) : Type 0 where
  pub began_asked : (q n : ℕ) (kind : Kind) (name : Name) → Contains history (began q n kind name) → IsAsked asked q kind name
  pub finished_asked : (q : ℕ) (answer : Answer) → Contains history (Finished q answer) → (a : Asked) × (numbered asked q ≡ Some a)
  pub asked_began : (q : ℕ) (a : Asked) → numbered asked q ≡ Some a → (n : ℕ) × Contains history (began q n a.kind a.name)
  pub bucket_there : (q : ℕ) (a : Asked) → numbered asked q ≡ Some a → Contains buckets a.name.bucket
  pub key_there : (q n : ℕ) (kind : Kind) (name : Name) → Contains history (began q n kind name) → IsTrue (is_write kind) → 1 ≤ length name.key

-- requests of this kind may wish so: a delete makes a marker, a put or copy gives bytes
abbrev pub IsWishOf : Kind → Wish → Type 0
IsWishOf kind wish.Marker = IsTrue (is_delete kind)
IsWishOf kind (wish.Stream coming) = IsTrue (is_source kind)
IsWishOf kind (wish.Content c) = IsTrue (is_source kind)

-- a write that had begun drew this, for an object in one of the buckets
pub record HasDrawn (buckets : List (List ℕ)) (history : List Record) (d : Draw) : Type 0 where
  pub id_is : d.version.id ≡ d.request
  pub node : ℕ
  pub kind : Kind
  pub fits : IsWishOf kind d.wish
  pub place : ℕ
  pub began_at : slice_get history place ≡ Some (began d.request node kind d.name)
  pub in_time : place < d.moment
  pub bucket : Contains buckets d.name.bucket
  pub moment : d.moment ≤ length history

-- a write of this object was acknowledged with this version
pub record WasAcknowledged (history : List Record) (name : Name) (version : Version) : Type 0 where
  pub request : ℕ
  pub node : ℕ
  pub kind : Kind
  pub writes : IsTrue (is_write kind)
  pub has_begun : Contains history (began request node kind name)
  pub has_finished : Contains history (Finished request (answer.Version version))

-- request q drew this version
pub record Drew (draws : List Draw) (q : ℕ) (version : Version) : Type 0 where
  pub draw : Draw
  pub drawn : Contains draws draw
  pub request_is : draw.request ≡ q
  pub version_is : draw.version ≡ version

-- each write was acknowledged with a version that it drew
abbrev pub HasAnswered : List Draw → List Record → Type 0
HasAnswered draws history = (name : Name) (version : Version) (a : WasAcknowledged history name version) → Drew draws a.request version

-- each version of an object's row that a phase gave was drawn
abbrev pub SawDrawn : List Draw → List Saw → Type 0
SawDrawn draws saw = (x : Saw) (r : ObjectRow) → Contains saw x → Gave x.end (rows.Object r) → IsOf draws (rows.Object r)

-- the row that says that this version of this object is complete is among these
pub record HasKept (kept : List AnyRow) (name : Name) (version : Version) : Type 0 where
  pub block : ℕ
  pub wish : Wish
  pub is_there : Contains kept (complete name version block wish)

-- each version that was acknowledged is among these
abbrev pub HasAcknowledged : List AnyRow → List Record → Type 0
HasAcknowledged kept history = (name : Name) (version : Version) → WasAcknowledged history name version → HasKept kept name version

abbrev pub IsProper : AnyRow → Type 0
IsProper row = IsTrue (words.is_proper row)

abbrev pub AreProper : List AnyRow → Type 0
AreProper rows = All IsProper rows

-- the question is for the object's row
abbrev pub AsksRow : Name → Question AnyRow → Type 0
AsksRow name question = (question.table ≡ 1) × (question.key ≡ row_key name)

-- a request that waits so has asked this
abbrev pub AsksFor : Stage → Question AnyRow → Type 0
AsksFor (Drawing name wish) question = AsksRow name question
AsksFor (Looking name aim) question = AsksRow name question
AsksFor stage question = ⊤

-- the rows are the one that completes a version that this request drew
pub record Completes (draws : List Draw) (q : ℕ) (version : Version) (rows : List AnyRow) : Type 0 where
  pub draw : Draw
  pub drawn : Contains draws draw
  pub request_is : draw.request ≡ q
  pub version_is : draw.version ≡ version
  pub block : ℕ
  pub rows_are : rows ≡ complete draw.name draw.version block draw.wish ∷ []

-- a request that waits so stores these rows
abbrev pub StoresFor : List Draw → ℕ → Stage → List AnyRow → Type 0
StoresFor draws q (Completing version meta) rows = Completes draws q version rows
StoresFor draws q stage rows = ⊤

-- a request was asked for at this node
pub record AskedAt (asked : List Asked) (n q : ℕ) : Type 0 where
  pub one : Asked
  pub is_there : numbered asked q ≡ Some one
  pub node_is : one.node ≡ n

-- a request that waits so waits for the end of a phase, and not for its client
abbrev pub HasPhase : Stage → Type 0
HasPhase (Needing name version coming received) = ⊥
HasPhase stage = ⊤

-- a request at this node waits so, for the end of a phase
pub record WaitsAt (asked : List Asked) (n q : ℕ) : Type 0 where
  pub one : Asked
  pub is_there : numbered asked q ≡ Some one
  pub node_is : one.node ≡ n
  pub flow : Flow
  pub flow_is : one.flow ≡ Some flow
  pub has_phase : HasPhase flow.stage

-- all that was acknowledged before request q began is among these
abbrev pub HasBefore : List Record → ℕ → List AnyRow → Type 0
HasBefore history q kept =
    (before after : List Record) (n : ℕ) (kind : Kind) (name : Name) → history ≡ before ++ began q n kind name ∷ after → HasAcknowledged kept before

-- the phases that ended, and the rows that were collected
pub record Sights : Type 0 where
  pub saw : List Saw
  pub collected : List AnyRow

-- those of a state
abbrev pub sights : State → Sights
sights s = record { saw = s.saw; collected = s.world.collected }

-- a collected row of the object has a delete marker that is not below w, which was drawn
pub record IsGone (draws : List Draw) (collected : List AnyRow) (bucket key : List ℕ) (w : Version) : Type 0 where
  pub forgotten : IsForgotten collected bucket key w
  pub is_of : IsOf draws (rows.Object forgotten.row)

-- that an object is not shown is explained: by a marker that request q read, or by one that was collected
abbrev pub IsExplained : List Draw → Sights → ℕ → List ℕ → List ℕ → Version → Type 0
IsExplained draws seen q bucket key w = IsMarked seen.saw q bucket key w ⊎ IsGone draws seen.collected bucket key w

-- request q asks, and all that was acknowledged before it began was kept before its read phase began
pub record IsAsking (asked : List Asked) (history : List Record) (n q : ℕ) (question : Question AnyRow) : Type 0 where
  pub waits : WaitsAt asked n q
  pub asks : AsksFor waits.flow.stage question
  pub proper : AreProper question.kept
  pub has : HasBefore history q question.kept

-- request q stores what it waits for
pub record IsStoring (asked : List Asked) (draws : List Draw) (n q : ℕ) (rows : List AnyRow) : Type 0 where
  pub waits : WaitsAt asked n q
  pub stores : StoresFor draws q waits.flow.stage rows
  pub proper : AreProper rows

-- request q drew this version, to make this of its object
pub record HasWished (draws : List Draw) (q : ℕ) (name : Name) (version : Version) (w : Wish) : Type 0 where
  pub block : ℕ
  pub moment : ℕ
  pub drawn : Contains draws (record { request = q; name = name; version = version; wish = w; block = block; moment = moment })

module _ (H : Deed → Type 0) where
  -- this version of an object, which request q for `own` read, was drawn, and is not below what was acknowledged before the request began
  pub record HasFound (draws : List Draw) (history : List Record) (q : ℕ) (own name : Name) (version : Version) : Type 0 where
    pub found : FoundIn draws name version
    pub not_below : IsClear H → (before after : List Record) (n : ℕ) (kind : Kind) (w : Version) → history ≡ before ++ began q n kind own ∷ after → WasAcknowledged before name w → ¬ Below version w

-- the object of this key in the bucket that a list is for
abbrev pub listed : Name → List ℕ → Name
listed own key = record { bucket = own.bucket; key = key }

-- a row of this key is among these
pub record HasRow (rows : List ObjectRow) (key : List ℕ) : Type 0 where
  pub row : ObjectRow
  pub is_there : Contains rows row
  pub key_is : row.key ≡ key

module _ (H : Deed → Type 0) where
  -- a row shows an object, whose version was found, and whose bytes were written
  abbrev pub IsShown : List Draw → List Record → ℕ → Name → ObjectRow → Type 0
  IsShown draws history q own r = (is_shown r ≡ true) × ((v : Version) → IsSaid v (said_by r) → HasFound H draws history q own (listed own r.key) v) × SaysWritten draws (said_by r)

  -- the rows that a list has of keys up to here, or of all: each shows an object, and of each object that was acknowledged before the list began it has the row, or it is explained that it has none
  pub record HasShown (draws : List Draw) (history : List Record) (seen : Sights) (q : ℕ) (own : Name) (rows : List ObjectRow) (reach : Option (List ℕ)) : Type 0 where
    pub shown : (r : ObjectRow) → Contains rows r → IsShown draws history q own r
    pub covers : IsClear H → (before after : List Record) (n : ℕ) (kind : Kind) (key : List ℕ) (w : Version) → history ≡ before ++ began q n kind own ∷ after → IsTrue (starts_with nat_eq key own.key) →
        IsTrue (is_within reach key) → WasAcknowledged before (listed own key) w → HasRow rows key ⊎ IsExplained draws seen q own.bucket key w

  -- a list that waits so scans past the keys of which it has all
  abbrev pub ScansFor : List Draw → List Record → Sights → ℕ → Stage → Scan AnyRow → Type 0
  ScansFor draws history seen q (Listing bucket prefix rows) scan =
      (scan.position ≡ (digest_of bucket).0) × (scan.prefix ≡ prefix) × HasShown draws history seen q (record { bucket = bucket; key = prefix }) rows (Some scan.after)
  ScansFor draws history seen q stage scan = ⊤

  -- request q scans, and all that was acknowledged before it began was kept before its range phase began
  pub record IsScanning (asked : List Asked) (draws : List Draw) (history : List Record) (seen : Sights) (n q : ℕ) (scan : Scan AnyRow) : Type 0 where
    pub waits : WaitsAt asked n q
    pub scans : ScansFor draws history seen q waits.flow.stage scan
    pub proper : AreProper scan.kept
    pub has : HasBefore history q scan.kept

  abbrev pub IsPresent : List Asked → List Draw → List Record → Sights → ℕ → ℕ → Present AnyRow → Type 0
  IsPresent asked draws history seen n q resting = AskedAt asked n q
  IsPresent asked draws history seen n q (asking question answers) = IsAsking asked history n q question
  IsPresent asked draws history seen n q (scanning scan answers) = IsScanning asked draws history seen n q scan
  IsPresent asked draws history seen n q (storing rows slots) = IsStoring asked draws n q rows
  IsPresent asked draws history seen n q (fetching hash) = WaitsAt asked n q

  abbrev pub ArePresent : List Asked → List Draw → List Record → Sights → ℕ → List (Call AnyRow) → Type 0
  ArePresent asked draws history seen n calls = (c : Call AnyRow) → Has calls c → IsPresent asked draws history seen n c.request c.present

-- the version was drawn by now, by a put or copy of this object that had begun
pub record DrewHere (s : State) (name : Name) (version : Version) : Type 0 where
  pub draw : Draw
  pub drawn : Contains s.draws draw
  pub version_is : draw.version ≡ version
  pub request_is : draw.request ≡ version.id
  pub name_is : draw.name ≡ name
  pub node : ℕ
  pub kind : Kind
  pub is_source : IsTrue (is_source kind)
  pub place : ℕ
  pub began_at : slice_get s.history place ≡ Some (began version.id node kind name)
  pub in_time : place < draw.moment
  pub moment : draw.moment ≤ length s.history

-- what request q shows of the key covers w
pub record CoversNow (s : State) (q : ℕ) (own : Name) (answer : Answer) (key : List ℕ) (w : Version) : Type 0 where
  pub versions : (v : Version) → Shows own.key answer key v → ¬ Below v w
  pub none : ((v : Version) → ¬ Shows own.key answer key v) → IsExplained s.draws (sights s) q own.bucket key w

module _ (H : Deed → Type 0) where
  -- what request q owes if it finishes now with this answer
  pub record IsFreshEnd (s : State) (q : ℕ) (answer : Answer) : Type 0 where
    pub covers : IsClear H → (before after : List Record) (n : ℕ) (kind : Kind) (name : Name) (key : List ℕ) (w : Version) → IsTrue (is_read kind) → s.history ≡ before ++ began q n kind name ∷ after →
        IsTrue (names kind name.key key) → WasAcknowledged before (record { bucket = name.bucket; key = key }) w → CoversNow s q name answer key w
    pub written : NoClash s.buckets → (n : ℕ) (kind : Kind) (name : Name) (key : List ℕ) (v : Version) → IsTrue (is_read kind) → Contains s.history (began q n kind name) →
        IsTrue (names kind name.key key) → Shows name.key answer key v → DrewHere s (record { bucket = name.bucket; key = key }) v

-- a request of this kind for this object reads so
abbrev pub IsAimOf : Asked → Aim → Type 0
IsAimOf a aim.Get = a.kind ≡ kind.Get
IsAimOf a aim.Head = a.kind ≡ kind.Head
IsAimOf a (aim.Copy name headers) = (a.kind ≡ kind.Copy) × (name ≡ a.name)

-- a read that gives what it finds asks for its own object
abbrev pub LooksAt : Asked → Aim → Name → Type 0
LooksAt a aim.Get name = name ≡ a.name
LooksAt a aim.Head name = name ≡ a.name
LooksAt a (aim.Copy new headers) name = ⊤

module _ (H : Deed → Type 0) where
  -- a get has found this version of its object; a copy owes nothing for what it reads
  abbrev pub HasSeen : List Draw → List Record → ℕ → Asked → Aim → Version → Type 0
  HasSeen draws history q a aim.Get version = HasFound H draws history q a.name a.name version
  HasSeen draws history q a aim.Head version = HasFound H draws history q a.name a.name version
  HasSeen draws history q a (aim.Copy name headers) version = ⊤

  -- request q waits as its kind does
  abbrev pub IsStage : List Draw → List Record → ℕ → Asked → Stage → Type 0
  IsStage draws history q a (Drawing name wish) = (name ≡ a.name) × IsWishOf a.kind wish
  IsStage draws history q a (Uploading name version content stored) = IsTrue (is_write a.kind) × HasWished draws q name version (wish.Content content)
  IsStage draws history q a (Receiving name version coming received) = IsTrue (is_write a.kind) × HasWished draws q name version (wish.Stream coming)
  IsStage draws history q a (Needing name version coming received) = IsTrue (is_write a.kind) × HasWished draws q name version (wish.Stream coming)
  IsStage draws history q a (Aborting version) = IsTrue (is_write a.kind)
  IsStage draws history q a (Completing version meta) = IsTrue (is_write a.kind)
  IsStage draws history q a (Looking name aim) = IsAimOf a aim × LooksAt a aim name
  IsStage draws history q a (Opening version meta aim) = IsAimOf a aim × HasSeen draws history q a aim version × IsInBlocks draws version meta
  IsStage draws history q a (Gathering version meta aim left body) = IsAimOf a aim × HasSeen draws history q a aim version × IsInBlocks draws version meta × AllByRecursion HasHash left
  IsStage draws history q a (Listing bucket prefix rows) = (a.kind ≡ kind.List) × (a.name ≡ record { bucket = bucket; key = prefix })

  -- each request waits as its kind does
  abbrev pub AreStages : List Draw → List Record → List Asked → Type 0
  AreStages draws history asked = (q : ℕ) (a : Asked) (flow : Flow) → numbered asked q ≡ Some a → a.flow ≡ Some flow → (flow.id ≡ q) × IsStage draws history q a flow.stage

  -- of what a run of acts leads to, where the freshness of reads alone rests on digests
  pub record IsSound (s : State) : Type 0 where
    pub reached : IsReached H s.draws s.world
    pub lengths : length s.asked ≡ length s.world.requests
    pub told : IsTold s.buckets s.asked s.history
    pub presents : (n : ℕ) → ArePresent H s.asked s.draws s.history (sights s) n (s.world.nodes n).calls
    pub stages : AreStages s.draws s.history s.asked
    pub drawn : (d : Draw) → Contains s.draws d → HasDrawn s.buckets s.history d
    pub acknowledged : HasAcknowledged s.world.kept s.history
    pub answered : HasAnswered s.draws s.history
    pub seen : SawDrawn s.draws s.saw
    pub proper : AreProper s.world.kept
    pub fresh : IsClear H → IsFresh s
