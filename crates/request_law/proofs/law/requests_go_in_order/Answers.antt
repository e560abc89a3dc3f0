use Rattle.std.specs.Prelude.{ℕ}
use Rattle.request_meaning.specs.Links.{Link, Runs, start}
use Rattle.request_law.specs.Law.{IsInOrder}
use Rattle.request_law.proofs.Run.{run_is_exchanged}
use Rattle.request_law.proofs.law.requests_go_in_order.Goals as goal

in_order : (version : ℕ) (l : Link) → Runs version start l → IsInOrder l
in_order version l run = let both = run_is_exchanged version l run in record { near = both.0; far = both.1 }

pub returns : goal.returns
returns c = in_order
