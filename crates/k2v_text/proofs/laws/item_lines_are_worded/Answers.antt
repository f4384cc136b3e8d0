use Rattle.std.specs.Prelude.{refl}
use Rattle.std.specs.Fmt.{digits}
use Rattle.hex.specs.Hex.{encode_with}
use Rattle.k2v_text.proofs.laws.item_lines_are_worded.Goals as goal

pub returns-clause-wrote : goal.returns-clause-wrote
unfolding digits
returns-clause-wrote c = refl

pub returns-clause-deleted : goal.returns-clause-deleted
unfolding digits
returns-clause-deleted c = refl

pub returns-clause-read : goal.returns-clause-read
unfolding digits encode_with
returns-clause-read c = refl

pub returns-clause-token : goal.returns-clause-token
unfolding digits
returns-clause-token c = refl

pub returns-clause-busy : goal.returns-clause-busy
unfolding digits
returns-clause-busy c = refl
