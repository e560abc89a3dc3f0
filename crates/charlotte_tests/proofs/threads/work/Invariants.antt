use Rattle.std.proofs.Common.{◌≡◌, ◌≤◌, length}
use Rattle.kernel_net.specs.Ports.{place_of, put_to, got_from}
use Rattle.charlotte_tests.specs.Numbered.{numbered_below}
use Rattle.charlotte_tests.proofs.threads.work.Given as goal

abbrev pub invariant-loop : goal.invariant-loop
invariant-loop l =
    (place_of l.port ≡ place_of l.initial.port) × (put_to l.port l.other ≡ numbered_below l.done.put) × (length (got_from l.port l.other) ≡ l.done.got)
    × (l.done.put ≤ l.share.put) × (l.done.got ≤ l.share.got)
