use Rattle.std.proofs.Common.{refl, sym}
use Rattle.std.proofs.lemmas.List.{take_rest}
use Rattle.std.proofs.lemmas.Result.{err_from_is_err_and}
use Rattle.transcript_text.proofs.Stamps.{ts_unread, id_unread, version_read, no_version}
use Rattle.transcript_text.proofs.answers.version.Goals as goal

pub returns-in_err-ts-in-Some : goal.returns-in_err-ts-in-Some
returns-in_err-ts-in-Some c =
    let p = err_from_is_err_and c.from_residual.result c.from_residual.ensures.1 in
    rw (p.1, p.2) (ts_unread c.args.word.now _ c.in-Some.place c.in-Some.ensures refl c.in_err-ts-in-Some.field-0.0 c.in_err-ts-in-Some.ensures)

pub returns-in_err-id-in-Some : goal.returns-in_err-id-in-Some
returns-in_err-id-in-Some c =
    let p = err_from_is_err_and c.from_residual-in_err-id-in-Some.result c.from_residual-in_err-id-in-Some.ensures.1 in
    rw (p.1, p.2) (id_unread c.args.word.now _ c.in-Some.place c.in-Some.ensures (take_rest c.args.word.now _) c.in_err-id-in-Some.field-0.0 c.in_err-id-in-Some.ensures)

pub returns-in_ok-id-in-Some : goal.returns-in_ok-id-in-Some
returns-in_ok-id-in-Some c =
    version_read c.args.word.now _ _ c.in-Some.place c.in_ok-ts-in-Some.ts c.in_ok-id-in-Some.id c.in-Some.ensures refl (take_rest c.args.word.now _) c.in_ok-ts-in-Some.ensures c.in_ok-id-in-Some.ensures

pub returns-in-None : goal.returns-in-None
returns-in-None c = λ v is. no_version c.args.word.now v (sym c.in-None.ensures) is
