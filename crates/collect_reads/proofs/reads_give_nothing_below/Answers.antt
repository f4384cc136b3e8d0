use Rattle.collect_reads.proofs.Given.{reads_clean}
use Rattle.collect_reads.proofs.reads_give_nothing_below.Goals as goal

pub returns : goal.returns
returns g c join s v k trio trio_roles partitions before later move laws versions some is_trio is_first is prompt in_time r u there marked =
    reads_clean join s laws v versions k trio trio_roles partitions some is_trio is_first before later move is prompt in_time r u there marked
