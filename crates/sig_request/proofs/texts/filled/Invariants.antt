use Rattle.std.proofs.Common.{◌≡◌, ◌++◌, drop}
use Rattle.std.specs.List.{filter}
use Rattle.sig_request.specs.Texts.{is_filled}
use Rattle.sig_request.proofs.texts.filled.Given as goal

abbrev pub invariant-loop-text : goal.invariant-loop-text
invariant-loop-text l = l.words ++ filter is_filled (drop l.text-index l.texts) ≡ filter is_filled l.texts
