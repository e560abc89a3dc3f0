-- A number, or the byte itself.
use Rattle.std.proofs.Common.{ℕ, ◌++◌, ap, ◌∙◌}
use Rattle.std.proofs.lemmas.Bool.{eqb-true, false_from_ne_true}
use Rattle.charlotte_text.specs.Spelling.{number_text}
use Rattle.transcript_items.proofs.Fills.{byte-more, number-more}
use Rattle.transcript_items.proofs.texts.fill_byte.Goals as goal

pub returns-then-byte-eq35 : goal.returns-then-byte-eq35
returns-then-byte-eq35 c =
    λ rest. number-more c.args.byte rest c.args.numbers.now c.next_number-number.result.1.now c.args.out.now.items c.push_number.new.out.items c.if-byte-eq35.true
    (c.in_ok-push_number.ensures.ok ∙ ap (λ (n : ℕ). c.args.out.now.items ++ number_text n) c.next_number-number.ensures.first) c.next_number-number.ensures.others

pub returns : goal.returns
returns c =
    λ rest. byte-more c.args.byte rest c.args.numbers.now c.args.out.now.items c.push.new.self.items (false_from_ne_true _ (λ e. c.if-byte-eq35.false (eqb-true _ _ e)))
    c.in_ok-push.ensures.items
