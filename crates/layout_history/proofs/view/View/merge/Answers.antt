use Rattle.std.specs.List.{list_all}
use Rattle.std.proofs.Common.{◌++◌, suc, max, ap, ap₂, ◌∙◌}
use Rattle.layout_trackers.specs.Trackers.{trackers_join}
use Rattle.view_model.specs.View.{is_gapless, from, merged, last_version}
use Rattle.view_model.proofs.Joins.{gapless_merged}
use Rattle.view_model.specs.Layouts.{reading}
use Rattle.layout_history.specs.Known.{has_members, ascends}
use Rattle.layout_history.specs.Views.{known}
use Rattle.layout_history.proofs.Ascending.{both_ascend, inhabited_from, inhabited_on}
use Rattle.layout_history.proofs.Views.{same_view}
use Rattle.layout_history.proofs.view.View.merge.Goals as goal

pub drop_below-requires : goal.drop_below-requires
drop_below-requires c =
    let a = c.args.self.now in
    let b = c.args.other.now in
    let later = c.in_ok-later.ensures.copied ∙ ap₂ (λ n ls. from reading (suc n) ls) c.newest.ensures c.as_slice.ensures in
    ap (ascends 0) (c.in_ok-append.ensures.ok.0 ∙ ap (λ ys. a.layouts ++ ys) later) ∙ both_ascend a.layouts b.layouts a.gapless b.gapless

pub invariant_of-self-2 : goal.invariant_of-self-2
invariant_of-self-2 c =
    let a = c.args.self.now in
    let b = c.args.other.now in
    let later = c.in_ok-later.ensures.copied ∙ ap₂ (λ n ls. from reading (suc n) ls) c.newest.ensures c.as_slice.ensures in
    let oldest = c.max-oldest.ensures ∙ ap₂ max c.oldest.ensures c.oldest-2.ensures in
    let whole = c.drop_below.ensures ∙ ap₂ (from reading) oldest (c.in_ok-append.ensures.ok.0 ∙ ap (λ ys. a.layouts ++ ys) later) in
    let n = last_version reading 0 a.layouts in
    record {
      gapless = ap (is_gapless reading) whole ∙ gapless_merged reading (known a) (known b) a.gapless b.gapless;
      inhabited = ap (list_all has_members) c.drop_below.ensures ∙ inhabited_from c.max-oldest.result c.append.new.self
          (ap (list_all has_members) (c.in_ok-append.ensures.ok.0 ∙ ap (λ ys. a.layouts ++ ys) later)
          ∙ inhabited_on a.layouts (from reading (suc n) b.layouts) a.inhabited (inhabited_from (suc n) b.layouts b.inhabited));
    }

pub returns-clause-merged : goal.returns-clause-merged
returns-clause-merged c =
    let a = c.args.self.now in
    let b = c.args.other.now in
    let later = c.in_ok-later.ensures.copied ∙ ap₂ (λ n ls. from reading (suc n) ls) c.newest.ensures c.as_slice.ensures in
    let oldest = c.max-oldest.ensures ∙ ap₂ max c.oldest.ensures c.oldest-2.ensures in
    let whole = c.drop_below.ensures ∙ ap₂ (from reading) oldest (c.in_ok-append.ensures.ok.0 ∙ ap (λ ys. a.layouts ++ ys) later) in
    let entries = c.in_ok-merge.ensures.joined ∙ ap (λ t. trackers_join t b.trackers) c.in_ok-trackers.ensures.same in
    same_view c.drop_below.new.layouts (merged reading (known a) (known b)).layouts c.merge.new.self (trackers_join a.trackers b.trackers) whole entries
