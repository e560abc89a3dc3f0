use Rattle.std.proofs.Common.{ℕ, ◌+◌, List, get_or, take, drop, length, sym, ap, ◌∙◌, arith}
use Rattle.std.specs.List.{prefix_len}
use Rattle.lynx_lexer.specs.Pieces.{is_text_byte}
use Rattle.lynx_lexer.specs.declared.token.Kind.TheVariants as kinds
use Rattle.lynx_lexer.proofs.Placed.{stands_as}
use Rattle.lynx_lexer.proofs.Stands.{text_stands, text_too_long, open_text}
use Rattle.lynx_lexer.proofs.front.text_at.Goals as goal
use Rattle.lynx_lexer.proofs.front.text_at.Goals.{then-length-rest-via-then-length-rest, then-length-rest-via-else-length-rest+then-rest-length-ne39}

pub returns-then-length-rest-clause-err : goal.returns-then-length-rest-clause-err
returns-then-length-rest-clause-err c =
    open_text c.args.bytes.now c.text_length-length.result c.requires (c.text_length-length.ensures.value ∙ ap (prefix_len is_text_byte) c.behind-rest.ensures)
    (λ lt closed. elim c.then-length-rest.branch [
      | then-length-rest-via-then-length-rest w ↦ omega (arith, lt, w.if-length-rest.true, ap length c.behind-rest.ensures)
      | then-length-rest-via-else-length-rest+then-rest-length-ne39 w ↦ w.if-rest-length-ne39.true (ap (λ (t : List ℕ). get_or t c.text_length-length.result 0) c.behind-rest.ensures ∙ closed)
    ])

pub returns-then-length-gt-MOST_TEXT-clause-err : goal.returns-then-length-gt-MOST_TEXT-clause-err
returns-then-length-gt-MOST_TEXT-clause-err c =
    text_too_long c.args.bytes.now c.text_length-length.result c.requires (c.text_length-length.ensures.value ∙ ap (prefix_len is_text_byte) c.behind-rest.ensures)
    (omega (arith, c.if-length-rest.false, c.text_length-length.ensures.fits, ap length c.behind-rest.ensures))
    (ap (λ (t : List ℕ). get_or t c.text_length-length.result 0) (sym c.behind-rest.ensures) ∙ c.if-rest-length-ne39.false)
    (omega (arith, c.if-length-gt-MOST_TEXT.true))

pub returns-clause-ok : goal.returns-clause-ok
returns-clause-ok c =
    let n : ℕ = c.text_length-length.result in
    let stands = text_stands c.args.bytes.now n c.requires (c.text_length-length.ensures.value ∙ ap (prefix_len is_text_byte) c.behind-rest.ensures)
    (omega (arith, c.if-length-rest.false, c.text_length-length.ensures.fits, ap length c.behind-rest.ensures))
    (ap (λ (t : List ℕ). get_or t n 0) (sym c.behind-rest.ensures) ∙ c.if-rest-length-ne39.false)
    (omega (arith, c.if-length-gt-MOST_TEXT.false)) in
    stands_as (kinds.Text (take n (drop 1 c.args.bytes.now))) (n + 2) c.args.bytes.now stands
