use Rattle.std.proofs.Common.{◌≡◌, ◌+◌, map, vec_len}
use Rattle.std.specs.VecDeque.{deque_len}
use Rattle.lab_outside.specs.SureConnection.{AreFresh, connection_left}
use Rattle.lab_outside.proofs.sure_link.SureLink.new.Given as goal

abbrev pub invariant-loop-bytes : goal.invariant-loop-bytes
invariant-loop-bytes l =
    record {
      coming : map connection_left l.coming.items ≡ map (λ bytes. bytes.items) l.yielded;
      count : deque_len l.coming + deque_len l.bytes-iterator.rest ≡ vec_len l.fn.connections;
      fresh : AreFresh l.coming.items;
    }
