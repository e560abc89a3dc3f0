-- One byte more is filled, and behind the last one nothing is left.
use Rattle.std.proofs.Common.{ℕ, List, ◌∷◌, ◌++◌, ◌+◌, get_or, drop, drop-cons, add-one, ap, sym, ◌∙◌}
use Rattle.std.proofs.lemmas.List.{append-nil, drop_all}
use Rattle.transcript_items.specs.Texts.{filled}
use Rattle.transcript_items.proofs.Fills.{fills-nothing}
use Rattle.transcript_items.proofs.texts.fill.Goals as goal

pub loop-byte-preserved : goal.loop-byte-preserved
loop-byte-preserved c =
    let text = c.args.text.now in
    let at = c.loop-byte.byte-index in
    c.in_ok-left.ensures (drop (at + 1) text)
    ∙ ap (λ (rest : List ℕ). c.loop-byte.out.items ++ filled rest c.loop-byte.left.now) (sym (drop-cons text at 0 c.loop-byte-test.true ∙ ap (λ (m : ℕ). get_or text at 0 ∷ drop m text) (sym (add-one at))))
    ∙ c.loop-byte.invariant

pub returns : goal.returns
returns c =
    let out = c.loop-byte.out.items in
    sym (ap (λ (rest : List ℕ). out ++ filled rest c.loop-byte.left.now) (drop_all c.loop-byte.byte-index c.args.text.now c.loop-byte-test.false) ∙ ap (λ (rest : List ℕ). out ++ rest) (fills-nothing c.loop-byte.left.now) ∙ append-nil out)
    ∙ c.loop-byte.invariant
