use Rattle.plain_laws.proofs.Stores.{job_follows, job_told}
use Rattle.plain_laws.proofs.a_job_is_carried_out_as_by_the_map.Goals as goal

pub returns-clause-agrees : goal.returns-clause-agrees
returns-clause-agrees g c P time job h clash some apart fit = (job_follows c P time job h clash some apart fit).agrees

pub returns-clause-ended : goal.returns-clause-ended
returns-clause-ended g c P time job h clash some apart fit known = job_told c P time job (job_follows c P time job h clash some apart fit).agrees known
