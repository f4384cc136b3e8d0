use Rattle.std.proofs.Common.{◌≡◌, ◌+◌, ◌++◌, ◌∷◌, List, take, refl, ap, sym, subst, ◌∙◌}
use Rattle.std.proofs.Math.Seq.{take-append_seam}
use Rattle.numbered_list.proofs.Numbering.{numbered_more}
use Rattle.gc_model.specs.Collecting.{Open, number_of}
use Rattle.gc_model.specs.declared.collection.Collection.{Collection}
use Rattle.table_gc.specs.Keys.{Adds, AreKeyed}
use Rattle.table_gc.proofs.Keyed.{keyed_more, numbers}
use Rattle.table_gc.proofs.collections.Collections.begin.Goals as goal

-- ---- there was no room for the key

pub invariant_of-self-in-Err : goal.invariant_of-self-in-Err
invariant_of-self-in-Err c =
    let back : c.truncate.new.self ≡ c.self.inside.list = c.truncate.ensures ∙ ((λ i. take (c.len-count.ensures i) (c.in_ok-push-2.ensures.ok i)) ∙ take-append_seam c.self.inside.list _) in
    record {
      numbered = rw back c.self.invariant.numbered;
      keyed = λ key. c.in-Err.ensures.err key ∙ (c.self.invariant.keyed key ∙ ap (numbers key) (sym back));
    }

pub returns-in-Err-clause-err : goal.returns-in-Err-clause-err
returns-in-Err-clause-err c =
    let whole : List Collection → Open = λ cs. record { begun = c.self.inside.begun; collections = cs } in
    rw (← c.self.view_is) (ap whole (c.truncate.ensures ∙ ((λ i. take (c.len-count.ensures i) (c.in_ok-push-2.ensures.ok i)) ∙ take-append_seam c.self.inside.list _)))

-- ---- the collection began

pub invariant_of-self-2 : goal.invariant_of-self-2
invariant_of-self-2 c =
    record {
      numbered = rw c.in_ok-push-2.ensures.ok (numbered_more number_of c.self.inside.begun _ c.self.inside.list refl c.self.invariant.numbered);
      keyed = subst (AreKeyed c.add.new.keys) (sym c.in_ok-push-2.ensures.ok)
          (keyed_more _ c.self.inside.list c.self.inside.keys c.add.new.keys (subst (λ key. Adds key (c.self.inside.begun + 1) c.self.inside.keys c.add.new.keys) (c.in_ok-indexed.ensures.items ∙ c.as_slice.ensures) c.in_default.ensures.ok) c.self.invariant.keyed);
    }
