use Rattle.std.proofs.Common.{◌≡◌, ◌<◌, true, false, length}
use Rattle.kernel_net.specs.Ports.{kernels_of, place_of, put_to}
use Rattle.kernel_outbox.specs.Letters.{MayAllBePut, PutsSome}
use Rattle.kernel_outbox.proofs.outbox.put_first.Given as goal

abbrev pub invariant-loop-port : goal.invariant-loop-port
invariant-loop-port l = record {
  kernel : l.to < kernels_of (place_of l.port);
  may : MayAllBePut (put_to l.port l.to) l.list.items;
  puts : PutsSome l.to l.initial.list.items l.list.items l.initial.port l.port;
  some : l.some ≡ true → length l.list.items < length l.initial.list.items;
  none : l.some ≡ false → l.list.items ≡ l.initial.list.items;
  port : l.some ≡ false → l.port ≡ l.initial.port;
}

abbrev pub decreases-loop-port : goal.decreases-loop-port
decreases-loop-port l = length l.list.items
