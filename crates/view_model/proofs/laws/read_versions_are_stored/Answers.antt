use Rattle.view_model.proofs.ReadVersions.{read_known, read_stored, read_readable, read_greatest}
use Rattle.view_model.proofs.laws.read_versions_are_stored.Goals as goal

pub returns-clause-stored : goal.returns-clause-stored
returns-clause-stored g c r v h = (read_stored r v h, read_known r v)

pub returns-clause-readable : goal.returns-clause-readable
returns-clause-readable g c r v = read_readable r v

pub returns-clause-greatest : goal.returns-clause-greatest
returns-clause-greatest g c r v i = read_greatest r v i
