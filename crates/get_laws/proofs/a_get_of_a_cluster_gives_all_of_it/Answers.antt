use Rattle.get_laws.proofs.Ending.{refused_gives_none, cluster_gives_all, cluster_gives_first}
use Rattle.get_laws.proofs.Middle.{middle_gives_first}
use Rattle.get_laws.proofs.a_get_of_a_cluster_gives_all_of_it.Goals as goal

pub returns-clause-all : goal.returns-clause-all
returns-clause-all x c time bucket key known taken = cluster_gives_all c time bucket key known taken

pub returns-clause-first : goal.returns-clause-first
returns-clause-first x c time bucket key t known taken way = cluster_gives_first c time bucket key known taken t way

pub returns-clause-middle : goal.returns-clause-middle
returns-clause-middle x c time bucket key g known gives = middle_gives_first c time bucket key known g gives

pub returns-clause-refused : goal.returns-clause-refused
returns-clause-refused x c time bucket key reason is = refused_gives_none c time bucket key reason is
