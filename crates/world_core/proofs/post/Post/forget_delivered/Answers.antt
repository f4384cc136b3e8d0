use Rattle.std.proofs.Common.{refl, ap, map, ◌∙◌}
use Rattle.world_core.specs.Parts.{forgotten}
use Rattle.world_core.proofs.PostsForgotten.{forgot_post}
use Rattle.world_core.proofs.post.Post.forget_delivered.Goals as goal

pub returns : goal.returns
returns g c s messages marks p = forgot_post s c.args.self.now _ messages marks p (c.forget_each.ensures ∙ ap (map forgotten) c.drop_front.ensures) refl refl refl
