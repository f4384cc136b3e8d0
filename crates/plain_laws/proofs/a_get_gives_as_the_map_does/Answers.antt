use Rattle.plain_laws.proofs.Giving.{gives_as_the_map}
use Rattle.plain_laws.proofs.a_get_gives_as_the_map_does.Goals as goal

pub returns : goal.returns
returns g c P time bucket key given h gives = gives_as_the_map c P time bucket key given h gives
