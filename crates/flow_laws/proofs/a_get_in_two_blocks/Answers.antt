use Rattle.std.proofs.Common.{refl, ap}
use Rattle.flow_model.specs.declared.flow.Aim.TheVariants.{Get}
use Rattle.flow_model.specs.Next.{looked, opened}
use Rattle.flow_laws.proofs.Going.{go_on}
use Rattle.flow_laws.proofs.a_get_in_two_blocks.Goals as goal

pub returns-clause-whole : goal.returns-clause-whole
returns-clause-whole c id block name value named version meta first x y a b t u v w said names =
    go_on _ _ _ _ _ _ _ (ap (looked id block Get) said) (go_on _ _ _ _ _ _ _ (ap (opened id block Get version meta) names) (record { asks = refl; comes = refl }))

pub returns-clause-deleted : goal.returns-clause-deleted
returns-clause-deleted c id block name value named version meta first t u said names =
    go_on _ _ _ _ _ _ _ (ap (looked id block Get) said) (go_on _ _ _ _ _ _ _ (ap (opened id block Get version meta) names) (record { asks = refl; comes = refl }))

pub returns-clause-unnamed : goal.returns-clause-unnamed
returns-clause-unnamed c id block name value named version meta first t u said names =
    go_on _ _ _ _ _ _ _ (ap (looked id block Get) said) (go_on _ _ _ _ _ _ _ (ap (opened id block Get version meta) names) (record { asks = refl; comes = refl }))
