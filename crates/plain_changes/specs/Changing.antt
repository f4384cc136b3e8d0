-- What a server over a cluster with layout changes to come writes.
use Rattle.std.specs.Prelude.{◌≡◌, ◌⊎◌, ◌≤◌, ℕ, suc, Bool, ⊤, List, [], ◌∷◌}
use Rattle.std.specs.List.{AllByRecursion}
use Rattle.crdt_core.specs.Members.{OneOf}
use Rattle.lab_outside.specs.Connection.{Connection}
use Rattle.layout_roles.specs.declared.layout.Layout.{Layout}
use Rattle.layout_roles.specs.declared.role.Role.{Role}
use Rattle.layout_roles.specs.declared.redundancy.Redundancy.{Redundancy}
use Rattle.cluster_machine.specs.Choices.{IsBest}
use Rattle.cluster_machine.specs.Layouts.{layouts}
use Rattle.store_model.specs.Fresh.{NoClash}
use Rattle.serve_model.specs.declared.buckets.Buckets.{Buckets}
use Rattle.serve_model.specs.declared.served.ServeFault.{ServeFault}
use Rattle.store_laws.specs.Hashed.{ActsHash}
use Rattle.serve_model.specs.Stores.{Asking, fits_asking}
use Rattle.serve_model.specs.Clusters.{cluster}
use Rattle.serve_model.specs.Talk.{Grammar, Serving, Stop, turn}
use Rattle.serve_model.specs.Connections.{stated, AreServed, SomeAsked, EndsSo}
use Rattle.serve_model.specs.Plain.{Plain, plain, PutsBlock}
use Rattle.change_model.specs.Given.{layout_of}
use Rattle.change_laws.specs.Whole.{MayChange}
use Rattle.plain_laws.specs.Blocks.{IsKept, IsOfMap}
use Rattle.serve_changes.specs.Changing.{Change, Changing, changing, changing_fits, acts_due}
use Rattle.plain_changes.specs.Standing.{Standing, IsStaging, TakesAll}

-- ---- what is hashed

-- the strings that the change after a job hashes for walks, if one is made
abbrev pub HashesAfter : List ℕ → Asking Changing → Type 0
HashesAfter x a = let then = (cluster.carries a.state.cluster a.time a.job).state in ActsHash then.run (acts_due then a.state.to_come) x

-- ---- what it holds

-- each change may be made of the layout before it, and leads to what is shown as its next version
abbrev pub MayCome : Layout → List (ℕ × Change) → Type 0
MayCome l [] = ⊤
MayCome l (ch ∷ chs) =
    AllByRecursion IsStaging ch.1.stages × MayChange layouts l ch.1.new ch.1.part ch.1.first × (ch.1.new ≡ layout_of (suc (layouts.reading.version l)) ch.1.shown) × MayCome ch.1.new chs

-- of each change something is staged, its layout is the best of the next version for some roles and some redundancy, and what is shown as that version, and all members of both layouts take part
abbrev pub AreComputed : Layout → List (ℕ × Change) → Type 0
AreComputed l [] = ⊤
AreComputed l (ch ∷ chs) =
    AllByRecursion IsStaging ch.1.stages × ((roles : List Role) × (wanted : Redundancy) × IsBest roles wanted (suc (layouts.reading.version l)) ch.1.new ch.1.shown) × (ch.1.new ≡ layout_of (suc (layouts.reading.version l)) ch.1.shown) × TakesAll l ch.1 × AreComputed ch.1.new chs

-- the cluster stands with the map on a layout, from which the changes may be made; no two names of buckets have one digest, and blocks have a byte at least
pub record StandsWith (c : Changing) (P : Plain) : Type 0 where
  pub layout : Layout
  pub stands : Standing c.cluster P layout
  pub may : MayCome layout c.to_come
  pub clash : NoClash P.buckets
  pub some : 1 ≤ P.block

-- ---- what is served

-- the same clock and counts over the map
abbrev pub over_map : Plain → Serving Changing → Serving Plain
over_map P p = record { store = P; times = p.times; time = p.time; kept = p.kept }

-- a node keeps this block, or an object of the map or what these connections put, which have these bytes, is cut into it
abbrev pub IsServedBlock : Buckets → Grammar → Serving Changing → Plain → List (List ℕ) → List Connection → List ℕ → Type 0
IsServedBlock buckets g p P came gone bytes = IsKept p.store.cluster.run.world bytes ⊎ (IsOfMap P bytes ⊎ SomeAsked plain buckets g (PutsBlock bytes) (over_map P p) came gone)

-- a change hashes this string for walks after a job that is asked, or would be asked before a stop
abbrev pub SomeAfter : List ℕ → List (Asking Changing) → List (Stop Changing) → Type 0
SomeAfter x asks stops = OneOf (HashesAfter x) asks ⊎ OneOf (λ (stop : Stop Changing). OneOf (HashesAfter x) stop.asks) stops

-- the same of these connections, one after the other, wherever they may be cut off
abbrev pub IsServedHash : Buckets → Grammar → Serving Changing → List (List ℕ) → List Connection → List ℕ → Type 0
IsServedHash buckets g p [] gone x = ⊥
IsServedHash buckets g p (bytes ∷ more) [] x = ⊥
IsServedHash buckets g p (bytes ∷ more) (d ∷ ds) x =
    let t = stated changing buckets g p bytes in
    SomeAfter x t.asks t.stops ⊎ (IsServedHash buckets g t.serving more ds x ⊎ OneOf (λ (stop : Stop Changing). IsServedHash buckets g stop.serving more ds x) t.stops)

-- connections are served as from the map, and the cluster stands with what the map has become
pub record AreServedFrom (P : Plain) (buckets : Buckets) (g : Grammar) (p : Serving Changing) (came : List (List ℕ)) (gone : List Connection) (s : Serving Changing) : Type 0 where
  pub serving : Serving Plain
  pub are_served : AreServed plain buckets g (λ a. ⊤) (over_map P p) came gone serving
  pub stands : StandsWith s.store serving.store

-- and with one connection more serving ends as it would over the map: its text is the one of the map, or a first part
pub record EndsFrom (P : Plain) (buckets : Buckets) (g : Grammar) (p : Serving Changing) (came : List (List ℕ)) (gone : List Connection) (bytes : List ℕ) (last : Connection) (fault : ServeFault) : Type 0 where
  pub serving : Serving Plain
  pub are_served : AreServed plain buckets g (λ a. ⊤) (over_map P p) came gone serving
  pub ends : EndsSo plain buckets g (λ a. ⊤) (λ asks. ⊤) (stated plain buckets g serving bytes) last fault

-- a node keeps this block, or an object of the map or what one request puts is cut into it
abbrev pub IsTurnBlock : Buckets → Grammar → Bool → Serving Changing → Plain → List ℕ → List ℕ → Type 0
IsTurnBlock buckets g last p P request bytes = IsKept p.store.cluster.run.world bytes ⊎ (IsOfMap P bytes ⊎ OneOf (PutsBlock bytes) (turn plain buckets g last (over_map P p) request).asks)

-- a change hashes this string for walks after a job of one request, wherever it may be cut off
abbrev pub IsTurnHash : Buckets → Grammar → Bool → Serving Changing → List ℕ → List ℕ → Type 0
IsTurnHash buckets g last p request x = let t = turn changing buckets g last p request in SomeAfter x t.asks t.stops

-- the first request in these bytes is served as from the map: what is written and how the connection goes on is the same, and the cluster then stands with what the map has become
pub record IsTurnFrom (P : Plain) (buckets : Buckets) (g : Grammar) (last : Bool) (p : Serving Changing) (request : List ℕ) : Type 0 where
  pub text : (turn changing buckets g last p request).text ≡ (turn plain buckets g last (over_map P p) request).text
  pub next : (turn changing buckets g last p request).next ≡ (turn plain buckets g last (over_map P p) request).next
  pub stands : StandsWith (turn changing buckets g last p request).serving.store (turn plain buckets g last (over_map P p) request).serving.store

-- at a stop of the map the same is written as at this one, and the cluster then stands with what the map has become
abbrev pub IsAtMapStop : Plain → Buckets → Grammar → Bool → Serving Changing → List ℕ → Stop Changing → Type 0
IsAtMapStop P buckets g last p request s = OneOf (λ (r : Stop Plain). (s.text ≡ r.text) × StandsWith s.serving.store r.serving.store) (turn plain buckets g last (over_map P p) request).stops

-- so it is wherever the first request in these bytes may be cut off and each job that was asked before fits
abbrev pub AreStopsFrom : Plain → Buckets → Grammar → Bool → Serving Changing → List ℕ → Type 0
AreStopsFrom P buckets g last p request = AllByRecursion (λ (s : Stop Changing). AllByRecursion (fits_asking changing_fits) s.asks → IsAtMapStop P buckets g last p request s) (turn changing buckets g last p request).stops
