use Rattle.limit_rows.proofs.Weights.{fits_spelled}
use Rattle.limit_rows.proofs.rows_that_fit_have_a_spelling.Goals as goal

pub returns : goal.returns
returns c = fits_spelled
