use Rattle.std.specs.List.{list_all}
use Rattle.std.proofs.Common.{◌≡◌, suc, true, List, [], ◌∷◌, ◌++◌, Result, Ok, Err, OnOk, OnErr, refl, sym, subst, arith}
use Rattle.crdt_core.specs.EntryLaws.{and_both}
use Rattle.layout_roles.specs.declared.layout.Layout.{Layout}
use Rattle.view_model.specs.View.{is_gapless, newest}
use Rattle.view_model.proofs.ReadVersions.{gapless_appended}
use Rattle.view_model.specs.Layouts.{reading}
use Rattle.layout_history.specs.Known.{has_members}
use Rattle.layout_history.specs.Views.{known}
use Rattle.layout_history.proofs.Ascending.{inhabited_on}
use Rattle.layout_history.proofs.view.View.append.Goals as goal

-- what holds of the longer list and of the old one holds of the new one
either : {A E : Type 0} (r : Result A E) (P : List Layout → Type 0) (old longer new : List Layout) → OnOk r (new ≡ longer) → OnErr r (new ≡ old) → P longer → P old → P new
either (Ok x) P old longer new ok err at_longer at_old = subst P (sym ok) at_longer
either (Err e) P old longer new ok err at_longer at_old = subst P (sym err) at_old

pub invariant_of-self : goal.invariant_of-self
invariant_of-self c =
    let v = c.args.self.now in
    let l = c.args.layout in
    let longer = v.layouts ++ l ∷ [] in
    let next : l.version ≡ suc (newest reading (known v)) = omega (arith, c.requires.next) in
    record {
      gapless = either c.push.result (λ xs. is_gapless reading xs ≡ true) v.layouts longer c.push.new.self c.push.ensures.ok c.push.ensures.err
          (gapless_appended reading (known v) l v.gapless next) v.gapless;
      inhabited = either c.push.result (λ xs. list_all has_members xs ≡ true) v.layouts longer c.push.new.self c.push.ensures.ok c.push.ensures.err
          (inhabited_on v.layouts (l ∷ []) v.inhabited (and_both (has_members l) true c.requires.inhabited refl)) v.inhabited;
    }
