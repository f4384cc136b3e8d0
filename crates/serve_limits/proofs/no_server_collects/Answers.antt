use Rattle.std.proofs.Common.{subst}
use Rattle.store_laws.specs.Hashed.{NeverCollect}
use Rattle.serve_limits.proofs.Begun.{acts_begun}
use Rattle.serve_limits.proofs.Jobs.{server_never}
use Rattle.serve_limits.proofs.no_server_collects.Goals as goal

pub returns : goal.returns
returns c = λ k ch jobs planned h before act later is. acts_begun k ch.cluster.run before act later h (subst NeverCollect is (server_never ch jobs planned.are))
