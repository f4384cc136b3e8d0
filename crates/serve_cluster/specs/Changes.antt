-- A layout change of the code, as acts.
use Rattle.std.specs.Prelude.{◌≡◌, ◌==◌, ◌≤◌, ℕ, Bool, false, ⊤, Option, List, [], ◌∷◌, ◌++◌, map, length}
use Rattle.std.specs.List.{AllByRecursion}
use Rattle.layout_roles.specs.declared.role.Role.{Role}
use Rattle.layout_roles.specs.Fits.{IsGreatest}
use Rattle.layout_roles.specs.Certificates.{IsRedundancy}
use Rattle.cluster_machine.specs.declared.applied.Applied.{Applied}
use Rattle.cluster_machine.specs.Layouts.{layouts}
use Rattle.cluster_machine.specs.Phases.{in_order}
use Rattle.cluster_machine.specs.Ties as ties
use Rattle.change_model.specs.Given.{applying, IsFor}
use Rattle.flow_model.specs.declared.order.Order.{Order}
use Rattle.store_model.specs.Run.{State}
use Rattle.store_model.specs.Acts.{Act, moves, after_acts}
use Rattle.s3_world.specs.declared.world.S3World.{S3World}
use Rattle.s3_world.specs.Stands.{IsStore}
use Rattle.serve_model.specs.declared.upload.Upload.{Upload}
use Rattle.serve_model.specs.Stores.{Given}
use Rattle.serve_model.specs.Clusters.{Cluster, asker, ActLacksRoom}
use Rattle.serve_changes.specs.Acts.{stages_of}
use Rattle.serve_changes.specs.Changing.{Change as Model, Changing as Models}
use Rattle.serve_cluster.specs.declared.change.Change.{Change}
use Rattle.serve_cluster.specs.declared.changing.Changing.{Changing}
use Rattle.serve_cluster.specs.Acting.{DoneActs}
use Rattle.change_deeds.specs.Deeds.{acts_past_apply}
use Rattle.serve_cluster.specs.Giving.{IsOnItsWay, left_in}
use Rattle.serve_cluster.specs.Standing.{StandsFor}
use Rattle.serve_cluster.specs.Uploads.{IsUploading}

-- the nodes of these roles
abbrev pub nodes_of : List Role → List ℕ
nodes_of roles = map (λ role. role.node) roles

-- the nodes of these roles are those that a server may have
abbrev pub AreWithin : List Role → Type 0
AreWithin roles = AllByRecursion (λ (role : Role). role.node ≤ 16) roles

-- whatever state the world stands for, no others are staged
abbrev pub HasWithin : S3World → Type 0
HasWithin c = ties.Steps IsStore c (λ s. AreWithin s.world.roles)

-- what is shown was computed for its roles, which are of nodes that a server may have, and the redundancy, and has the greatest partition size
pub record IsComputed (c : Change) : Type 0 where
  pub wanted : IsRedundancy c.redundancy
  pub is_for : IsFor c.shown.roles.list c.redundancy c.shown
  pub within : AreWithin c.shown.roles.list
  pub greatest : IsGreatest c.shown.roles.list c.shown.certified.r c.shown.certified.size c.shown.certified.sets.sets

-- what is staged in it
abbrev pub stages_in : Change → List Act
stages_in c = stages_of c.shown.roles.list c.redundancy

-- what is staged in it, its apply at a node in this state, and further acts
abbrev pub acts_at : ℕ → Change → List Act → State → List Act
acts_at node c more s = stages_in c ++ moves (applying (after_acts s (stages_in c)).world node c.shown) ∷ more

-- its acts in a state, among these members
abbrev pub acts_with : List ℕ → Change → State → List Act
acts_with members c s = acts_at (asker members) c (acts_past_apply (asker members) (in_order (members ++ nodes_of c.shown.roles.list))) s

-- whatever state the world stood for, it did these acts, which were those of that state
abbrev pub DoesIn : S3World → S3World → (State → List Act) → Type 0
DoesIn old new acts = ties.Steps IsStore old (λ s. DoneActs new s (acts s))

-- in a state in which its roles and its redundancy are staged the layout that is shown was applied at a node, and these acts were done
abbrev pub Applies : S3World → S3World → ℕ → Applied → List Act → Type 0
Applies old new node shown acts = ties.Steps IsStore old (λ s. IsFor s.world.roles s.world.redundancy shown → DoneActs new s (moves (applying s.world node shown) ∷ acts))

-- in such a state one of these acts has no room
abbrev pub ApplyLacks : S3World → ℕ → Applied → List Act → Type 0
ApplyLacks old node shown acts = ties.Steps IsStore old (λ s. IsFor s.world.roles s.world.redundancy shown → ActLacksRoom s (moves (applying s.world node shown) ∷ acts))

-- ---- changes to come

-- a change of the code is one of the model, among these members
pub record IsChange (members : List ℕ) (c : Change) (ch : ℕ × Model) : Type 0 where
  pub after : c.after ≡ ch.0
  pub stages : ch.1.stages ≡ stages_in c
  pub shown : ch.1.shown ≡ c.shown
  pub first : ch.1.first ≡ asker members
  pub part : ch.1.part ≡ in_order (members ++ nodes_of c.shown.roles.list)
  pub newer : layouts.reading.members ch.1.new ≡ nodes_of c.shown.roles.list
  pub computed : IsComputed c

-- changes of the code are those of the model, one after the other
abbrev pub AreChanges : List ℕ → List Change → List (ℕ × Model) → Type 0
AreChanges members [] [] = ⊤
AreChanges members [] (ch ∷ chs) = ⊥
AreChanges members (c ∷ cs) [] = ⊥
AreChanges members (c ∷ cs) (ch ∷ chs) = IsChange members c ch × AreChanges (nodes_of c.shown.roles.list) cs chs

-- so many requests have reached the cluster that the next change is to be made
abbrev pub is_due : Cluster → List (ℕ × Model) → Bool
is_due c [] = false
is_due c (ch ∷ chs) = length c.run.world.requests == ch.0

-- a cluster with changes to come in code stands for one of the model; what is staged is of nodes that a server may have
pub record IsChanging (c : Changing) (m : Models) : Type 0 where
  pub cluster : StandsFor c.cluster m.cluster
  pub staged : AreWithin m.cluster.run.world.roles
  pub to_come : AreChanges m.cluster.members c.to_come m.to_come

-- ---- a get on its way

-- a get is on its way in the cluster, and has given so much; then come the changes
pub record IsChangingGet (c : Changing) (m : Models) (time : ℕ) (order : Order) (so_far : Option Given) : Type 0 where
  pub cluster : IsOnItsWay c.cluster m.cluster time order so_far
  pub staged : AreWithin m.cluster.run.world.roles
  pub to_come : AreChanges m.cluster.members c.to_come m.to_come

-- more than how often it goes on
abbrev pub left_then : Changing → ℕ
left_then c = left_in c.cluster

-- ---- an upload on its way

-- an upload is on its way in the cluster: these of its bytes came, and it needs so many next; then come the changes
pub record IsChangingUpload (c : Changing) (m : Models) (time : ℕ) (u : Upload) (came : List ℕ) (need : Option ℕ) : Type 0 where
  pub cluster : IsUploading c.cluster m.cluster time u came need
  pub staged : AreWithin m.cluster.run.world.roles
  pub to_come : AreChanges m.cluster.members c.to_come m.to_come
