use Rattle.std.proofs.Common.{◌≡◌, ◌∙◌, ℕ, List, [], ◌∷◌, ◌++◌, ap, drop, length, rules}
use Rattle.transcript_lines.specs.Transcript.{line, step_text}
use Rattle.packed_lines.specs.Packed.{kept, line_note}
use Rattle.packed_lines.proofs.Texts.{IsCut, cut-at, notes-more, text-more}
use Rattle.packed_lines.proofs.kept_lines.KeptLines.push_steps.Goals as goal

pub loop-step-preserved : goal.loop-step-preserved
loop-step-preserved c =
    let now : List ℕ = c.loop-step.self.text.items in
    let text : List ℕ = line (step_text c.step-item.result) in
    let place : c.len-from.result ≡ length c.loop-step.self.text.items = search rules in
    let cut : IsCut c.push_step_line.new.out.items now text c.len-from.result = cut-at c.push_step_line.new.out.items now text c.len-from.result c.in_ok-push_step_line.ensures place in
    let grown : c.close_line.new.self.text.items ≡ now ++ kept text =
    c.in_ok-close_line.ensures.text ∙ ap (λ (t : List ℕ). t ++ kept (drop c.len-from.result c.push_step_line.new.out.items)) cut.before ∙ ap (λ (t : List ℕ). now ++ kept t) cut.behind in
    let noted : c.close_line.new.self.notes.items ≡ c.loop-step.self.notes.items ++ line_note text ∷ [] =
    c.in_ok-close_line.ensures.notes ∙ ap (λ (t : List ℕ). c.loop-step.self.notes.items ++ line_note t ∷ []) cut.behind in
    record {
      text = text-more c.args.self.now.text.items now c.close_line.new.self.text.items c.args.steps.now c.loop-step.step-index c.step-item.result c.loop-step-test.true c.step-item.is c.loop-step.invariant.text grown;
      notes = notes-more c.args.self.now.notes.items c.loop-step.self.notes.items c.close_line.new.self.notes.items c.args.steps.now c.loop-step.step-index c.step-item.result c.loop-step-test.true c.step-item.is c.loop-step.invariant.notes noted;
    }
