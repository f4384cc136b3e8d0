use Rattle.std.proofs.Common.{◌∙◌, ap}
use Rattle.std.proofs.lemmas.Bool.Decides.{Decides-at}
use Rattle.layout_judge.specs.Tests.{passes}
use Rattle.layout_judge.proofs.Fitting.{fits_decides}
use Rattle.layout_judge.proofs.sets.fits.Goals as goal

pub returns : goal.returns
returns c =
    Decides-at c.passes.result _ (c.passes.ensures ∙ ap (λ roles. passes roles c.args.r c.args.size c.args.sets.now) c.as_slice.ensures) (fits_decides c.args.roles.now.list c.args.r c.args.size c.args.sets.now)
