use Rattle.std.specs.List.{list_all}
use Rattle.std.proofs.Common.{min, refl, ap, ap₂, sym, ◌∙◌}
use Rattle.view_model.specs.View.{is_gapless, from, cleaned}
use Rattle.view_model.proofs.Gapless.{gapless_from}
use Rattle.view_model.proofs.Cleans.{cleaned_from}
use Rattle.view_model.specs.Layouts.{reading}
use Rattle.layout_history.specs.Known.{has_members}
use Rattle.layout_history.specs.Views.{known}
use Rattle.layout_history.proofs.Ascending.{gapless_ascends, inhabited_from}
use Rattle.layout_history.proofs.Views.{same_view}
use Rattle.layout_history.proofs.view.View.clean.Goals as goal

pub drop_below-requires : goal.drop_below-requires
drop_below-requires c = gapless_ascends c.args.self.now.layouts c.args.self.now.gapless

pub invariant_of-self : goal.invariant_of-self
invariant_of-self c =
    let v = c.args.self.now in
    record {
      gapless = ap (is_gapless reading) c.drop_below.ensures ∙ gapless_from reading c.min-kept.result v.layouts v.gapless;
      inhabited = ap (list_all has_members) c.drop_below.ensures ∙ inhabited_from c.min-kept.result v.layouts v.inhabited;
    }

pub returns-clause-cleaned : goal.returns-clause-cleaned
returns-clause-cleaned c =
    let v = c.args.self.now in
    let least = c.min-kept.ensures ∙ ap₂ min c.least_of.ensures c.newest.ensures in
    same_view c.drop_below.new.layouts (cleaned reading (known v)).layouts v.trackers v.trackers
    (c.drop_below.ensures ∙ (ap (λ n. from reading n v.layouts) least ∙ sym (cleaned_from reading (known v) v.gapless))) refl
