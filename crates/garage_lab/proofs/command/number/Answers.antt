use Rattle.std.proofs.Common.{inl, inr, arith}
use Rattle.garage_lab.proofs.Words.{no_other}
use Rattle.garage_lab.proofs.command.number.Goals.{else-n-ge1-via-then-n-ge1+else-n-high, else-n-ge1-via-else-n-ge1}
use Rattle.garage_lab.proofs.command.number.Goals as goal

pub returns-else-n-ge1 : goal.returns-else-n-ge1
returns-else-n-ge1 c =
    let other = no_other c.args.word.now c.args.high c.in_ok-n.n (rw c.as_bytes.ensures.value at c.in_ok-n.ensures) (omega (arith, c.ranges.high.fits)) in
    elim c.else-n-ge1.branch [
      | else-n-ge1-via-then-n-ge1+else-n-high w ↦ other (inr w.if-n-high.false)
      | else-n-ge1-via-else-n-ge1 w ↦ other (inl w.if-n-ge1.false)
    ]
