use Rattle.std.proofs.Common.{drop, ap, ◌∙◌}
use Rattle.std.proofs.lemmas.List.{drop-drop}
use Rattle.charlotte_text.specs.Reading.{words}
use Rattle.transcript_expected.proofs.word.word.Goals as goal

pub loop-preserved : goal.loop-preserved
loop-preserved c = c.behind-rest.ensures ∙ ap (drop 1) c.loop.invariant ∙ drop-drop 1 c.loop.counter (words c.args.line.now)
