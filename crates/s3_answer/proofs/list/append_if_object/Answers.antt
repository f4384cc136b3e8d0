use Rattle.std.proofs.Common.{◌≡◌, ◌++◌, List, ℕ, OnOk, sym, subst}
use Rattle.s3_model.specs.declared.page.Entry.{Entry}
use Rattle.s3_model.specs.Bodies.{object_element, contents_of}
use Rattle.s3_answer.proofs.list.append_if_object.Goals as goal

pub returns-in-Object-clause-ok : goal.returns-in-Object-clause-ok
returns-in-Object-clause-ok c =
    let P : List ℕ → Type 0 = λ key. OnOk c.append_object.result (c.append_object.new.out ≡ c.args.out.now ++ object_element c.args.url key c.in-Object.version c.in-Object.meta) in
    let Q : Entry → Type 0 = λ entry. OnOk c.append_object.result (c.append_object.new.out ≡ c.args.out.now ++ contents_of c.args.url entry) in
    subst Q (sym c.in-Object.is) (subst P c.as_slice.ensures c.append_object.ensures.ok)
