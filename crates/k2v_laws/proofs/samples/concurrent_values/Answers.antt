use Rattle.std.specs.Prelude.{refl}
use Rattle.row_codec.specs.Spelling.{four, eight}
use Rattle.k2v_laws.proofs.samples.concurrent_values.Goals as goal

pub returns-clause-both : goal.returns-clause-both
returns-clause-both c bucket = refl

pub returns-clause-token : goal.returns-clause-token
returns-clause-token c bucket = refl

pub returns-clause-one : goal.returns-clause-one
returns-clause-one c bucket = refl

pub returns-clause-none : goal.returns-clause-none
returns-clause-none c bucket = refl

pub returns-clause-both_bytes : goal.returns-clause-both_bytes
unfolding four eight
returns-clause-both_bytes c bucket = refl

pub returns-clause-one_bytes : goal.returns-clause-one_bytes
unfolding four eight
returns-clause-one_bytes c bucket = refl
