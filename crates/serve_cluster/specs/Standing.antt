-- When a cluster of the code stands for one of the model.
use Rattle.std.specs.Prelude.{◌≡◌}
use Rattle.s3_world.specs.Stands.{IsStore}
use Rattle.serve_model.specs.Clusters.{Cluster as Model}
use Rattle.serve_cluster.specs.declared.cluster.Cluster.{Cluster}

-- a cluster in code stands for one of the model
pub record StandsFor (c : Cluster) (m : Model) : Type 0 where
  pub world : IsStore c.world m.run
  pub ticked : c.ticked ≡ m.ticked
  pub members : c.members ≡ m.members
