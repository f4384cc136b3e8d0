use Rattle.std.proofs.Common.{◌∙◌, sym, subst, List, arith}
use Rattle.s3_model.specs.declared.page.Entry.{Entry}
use Rattle.s3_list.specs.SoFar.{IsSoFar}
use Rattle.s3_list.proofs.Shown.{repeats_is, repeated, pushed, full}
use Rattle.s3_list.proofs.pages.show.Goals as goal

pub returns-then-is_repeated-clause-shows : goal.returns-then-is_repeated-clause-shows
returns-then-is_repeated-clause-shows c = λ all come so.
    repeated c.args.max all c.args.entries.now come c.args.entry
    (repeats_is _ _ _ _ _ c.as_slice.ensures c.last.ensures.value c.is_repeated.ensures ∙ c.if-is_repeated.true) so

pub returns-then-len-max-clause-shows : goal.returns-then-len-max-clause-shows
returns-then-len-max-clause-shows c = λ all come so.
    full c.args.max all c.args.entries.now come c.args.entry
    (repeats_is _ _ _ _ _ c.as_slice.ensures c.last.ensures.value c.is_repeated.ensures ∙ c.if-is_repeated.false) (omega arith) so

pub returns-clause-shows : goal.returns-clause-shows
returns-clause-shows c = λ all come so.
    let P : List Entry → Type 0 = λ es. IsSoFar c.args.max all es come in
    subst P (sym c.in_ok-push.ensures.ok)
    (pushed c.args.max all c.args.entries.now come c.args.entry
    (repeats_is _ _ _ _ _ c.as_slice.ensures c.last.ensures.value c.is_repeated.ensures ∙ c.if-is_repeated.false) (omega arith) so)
