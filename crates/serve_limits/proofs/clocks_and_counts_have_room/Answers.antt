use Rattle.serve_limits.proofs.Room.{have_room}
use Rattle.serve_limits.proofs.clocks_and_counts_have_room.Goals as goal

pub returns : goal.returns
returns c = have_room
