-- The packets before the place are put in order.
use Rattle.std.proofs.Common.{refl}
use Rattle.kernel_event.proofs.Behind.{progress-behind}
use Rattle.kernel_event.proofs.order.put_behind.Goals as goal

pub returns-clause-part : goal.returns-clause-part
returns-clause-part c = λ t. progress-behind t c.args.out.now _ c.args.first c.args.upto c.requires.first refl refl refl refl c.put_behind.ensures.items
