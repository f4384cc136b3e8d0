use Rattle.plain_laws.proofs.Kept.{keeps_follow}
use Rattle.plain_laws.proofs.kept_uploads_answer_as_puts_of_the_map.Goals as goal

pub returns : goal.returns
returns g c P time u came h clash some apart fit all = (keeps_follow c P time u came h clash some apart fit all).agrees
