use Rattle.std.proofs.Common.{◌≡◌}
use Rattle.s3_model.specs.Page.{delimiter_place}
use Rattle.s3_list.proofs.key.delimiter_place.Given as goal

-- the first place from here on is the first of all
abbrev pub invariant-loop-place : goal.invariant-loop-place
invariant-loop-place l = delimiter_place l.delimiter l.place l.key ≡ delimiter_place l.delimiter l.from l.key
