use Rattle.std.proofs.Common.{◌≡◌, drop}
use Rattle.s3_model.specs.Words.{holds_word}
use Rattle.s3_request.proofs.word.holds_word.Given as goal

abbrev pub invariant-loop-start : goal.invariant-loop-start
invariant-loop-start l = holds_word (drop l.start l.text) l.word ≡ holds_word l.text l.word
