-- The lines of the entries and the notes are counted as the entries and the notes are.
use Rattle.std.proofs.Common.{List, ℕ, ap, ◌∙◌}
use Rattle.run_counts.proofs.Counted.{counts_are}
use Rattle.run_counts.specs.Lines.{bare_lines, with_lines, with_notes}
use Rattle.run_counts.specs.declared.counts.Counts.{Counts}
use Rattle.run_counts.proofs.lines.counts_of.Goals as goal

pub returns : goal.returns
returns c =
    c.in_ok-count_notes.ensures
    ∙ ap (with_notes c.args.notes.now) (c.in_ok-count_lines.ensures ∙ ap (λ (lines : List (List ℕ)). with_lines c.args.version lines c.none-counts.result) c.bare_transcript.ensures ∙ ap (λ (n : Counts). with_lines c.args.version (bare_lines c.args.version c.args.merged) n) c.none-counts.ensures)
    ∙ counts_are c.args.version c.args.merged c.args.notes.now c.ranges.version.fits c.requires.in_range c.requires.shown
