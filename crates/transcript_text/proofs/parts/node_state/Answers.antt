use Rattle.std.proofs.lemmas.Result.{err_from_is_err_and}
use Rattle.transcript_text.proofs.Inverse.{node_read, hash_unread, top_differs, fails}
use Rattle.transcript_text.proofs.parts.node_state.Goals as goal

pub returns-in_err-hash-in-len7 : goal.returns-in_err-hash-in-len7
returns-in_err-hash-in-len7 c =
    let p = err_from_is_err_and c.from_residual-in_err-hash-in-len7.result c.from_residual-in_err-hash-in-len7.ensures.1 in
    rw (p.1, p.2) (hash_unread c.args.words.now c.in-len7.len_at_least c.in-len7.len_below c.in_err-hash-in-len7.field-0.0 c.in_err-hash-in-len7.ensures)

pub returns-in_ok-hash-in-len7 : goal.returns-in_ok-hash-in-len7
returns-in_ok-hash-in-len7 c =
    let n = c.in_ok-whole-in-len7.ensures in
    let rows = c.in_ok-whole-in-len7-2.ensures in
    let blocks = c.in_ok-whole-in-len7-3.ensures in
    let top = c.in_ok-hash-in-len7.ensures in (
      node_read c.args.words.now c.in-len7.len_at_least c.in-len7.len_below _ _ _ _ n.0 (c.is.ensures.0 c.if-is.true) rows.0 (c.is-then-is.ensures.0 c.if-is-2.true) blocks.0 (c.is-then-is-2.ensures.0 c.if-is-3.true) top.0,
      (n.1, (rows.1, (blocks.1, tt))),
      top.1,
      top.2,
    )

-- the sixth word isn't `top`
pub returns-in_default-2 : goal.returns-in_default-2
returns-in_default-2 c = top_differs c.args.words.now c.in-len7.len_at_least c.in-len7.len_below (fails c.is-then-is-2.result c.is-then-is-2.ensures c.if-is-3.false)
