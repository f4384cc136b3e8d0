use Rattle.world_core.proofs.ClockTimes.{fresh}
use Rattle.world_core.proofs.clocks.Clocks.new.Goals as goal

pub returns : goal.returns
returns c = fresh
