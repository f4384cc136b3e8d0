use Rattle.range_laws.proofs.Shown.{window_shows}
use Rattle.range_laws.proofs.windows_show_all.Goals as goal

pub returns : goal.returns
returns g c = λ join s laws position prefix after limit a b long some p q. window_shows laws position prefix after limit long some a b p q
