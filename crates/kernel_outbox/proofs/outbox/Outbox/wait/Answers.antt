use Rattle.std.proofs.Common.{◌<◌, ◌++◌, length, ap, ◌∙◌, rules}
use Rattle.kernel_outbox.specs.Letters.{if_to}
use Rattle.kernel_outbox.proofs.Waiting.{waits-push}
use Rattle.kernel_outbox.proofs.outbox.Outbox.wait.Goals as goal

pub returns-clause-waiting : goal.returns-clause-waiting
returns-clause-waiting c q =
    let lists = c.make_lists.new.self.waiting.items in
    let below : c.from.result < length c.make_lists.new.self.waiting.items = search rules in
    waits-push lists c.from.result c.args.to c.index_mut-list.result.now c.push_back.new.self c.args.letter c.from.ensures below c.index_mut-list.ensures.value c.in_ok-push_back.ensures.items q
    ∙ ap (λ ls. ls ++ if_to q c.args.to c.args.letter) (c.in_ok-make_lists.ensures.waiting q)
