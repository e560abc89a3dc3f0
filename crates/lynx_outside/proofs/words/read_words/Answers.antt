use Rattle.std.proofs.Common.{◌+◌, sym, subst, string_bytes}
use Rattle.lynx_outside.proofs.Readings.{Read, all_read, one_read}
use Rattle.lynx_outside.proofs.words.read_words.Goals as goal

pub returns-in_default : goal.returns-in_default
returns-in_default g c = all_read string_bytes _ c.loop-number.words.items c.loop-number.number c.in_default.is c.loop-number.invariant c.in_ok-word.ensures

pub loop-number-preserved : goal.loop-number-preserved
loop-number-preserved g c =
    let told = g.W.Words.told c.args.host.now in
    subst (λ words. Read string_bytes told words (c.loop-number.number + 1)) (sym c.in_ok-push.ensures.items)
    (one_read string_bytes told c.loop-number.words.items c.in-Some.word c.loop-number.number c.in-Some.is c.loop-number.invariant c.in_ok-word.ensures)
