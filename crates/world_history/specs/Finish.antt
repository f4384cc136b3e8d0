-- What a lent answer is.
use Rattle.std.specs.Prelude.{ℕ}
use Rattle.std.specs.Borrow.{Bor}
use Rattle.history_model.specs.declared.record.Answer.{Answer}

-- the place, and the answer that is lent with it
abbrev pub lent_finish : ℕ × Bor Answer → ℕ × Answer
lent_finish p = (p.0, p.1.now)
