-- An upload that is on its way.
use Rattle.std.specs.Prelude.{◌≡◌, ◌<◌, ℕ, List, Option, Some, None, max}
use Rattle.cluster_machine.specs.Ties as ties
use Rattle.store_model.specs.Run.{State, need_at}
use Rattle.s3_world.specs.declared.world.S3World.{S3World}
use Rattle.s3_world.specs.Stands.{IsStore}
use Rattle.serve_model.specs.declared.upload.Upload.{Upload}
use Rattle.serve_model.specs.Clusters.{Cluster as Model}
use Rattle.serve_model.specs.Uploads.{IsComing, asked_for}
use Rattle.get_laws.specs.OnTheWay.{KnowsRequests}
use Rattle.serve_cluster.specs.declared.cluster.Cluster.{Cluster}
use Rattle.serve_cluster.specs.Giving.{IsNumber, GivesNothing}

-- what request q needs, whatever state the world stands for
abbrev pub NeedIs : S3World → ℕ → Option ℕ → Type 0
NeedIs world q need = ties.Steps IsStore world (λ s. need ≡ need_at s q)

-- the same of a request that was asked for; nothing where it was refused
abbrev pub NeedOf : S3World → Option ℕ → Option ℕ → Type 0
NeedOf world None need = need ≡ None
NeedOf world (Some q) need = NeedIs world q need

-- an upload is on its way in a cluster since this time: these of its bytes came, and it needs so many next; nothing of its request was handed out
pub record IsUploading (c : Cluster) (m : Model) (time : ℕ) (u : Upload) (came : List ℕ) (need : Option ℕ) : Type 0 where
  pub state : State
  pub coming : IsComing m time u came need state
  pub number_is : IsNumber c.uploading (asked_for m time u)
  pub stands : IsStore c.world state
  pub gives : GivesNothing c.world state c.uploading
  pub needs : NeedOf c.world c.uploading need
  pub ticked : c.ticked ≡ max m.ticked time
  pub members : c.members ≡ m.members
  pub sized : 0 < m.run.block
  pub knows : KnowsRequests m.run
