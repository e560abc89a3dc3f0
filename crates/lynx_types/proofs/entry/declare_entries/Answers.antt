use Rattle.std.proofs.Common.{◌∙◌}
use Rattle.typing_rules.specs.Meanings.{look}
use Rattle.lynx_types.proofs.Entries.{news-told, names-told}
use Rattle.lynx_types.proofs.entry.declare_entries.Goals as goal

pub loop-entry-preserved : goal.loop-entry-preserved
loop-entry-preserved c =
    let i = c.loop-entry.entry-index in
    let ds = c.args.entries.now in
    let d = c.entry-item.result in
    let s = look c.loop-entry.names in
    let t = look c.declare.new.self in
    let lt = c.loop-entry-test.true in
    let is = c.entry-item.is in
    record {
      news = λ at. news-told s t ds i d at lt is c.in_ok-declare.ensures.means c.loop-entry.news.items c.push.new.self.items c.in_ok-declare.field-0 c.in_ok-push.ensures.items c.in_ok-declare.ensures.new ∙ c.loop-entry.invariant.news at;
      names = λ at q. names-told s t ds i d at lt is c.in_ok-declare.ensures.means q ∙ c.loop-entry.invariant.names at q;
    }
