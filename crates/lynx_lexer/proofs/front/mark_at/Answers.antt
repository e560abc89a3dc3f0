use Rattle.std.proofs.Common.{sym, ap, ◌∙◌}
use Rattle.std.specs.List.{prefix_len}
use Rattle.lynx_lexer.specs.Pieces.{is_comment_byte}
use Rattle.lynx_lexer.proofs.Stands.{comment_stands, no_mark}
use Rattle.lynx_lexer.proofs.front.mark_at.Goals as goal

pub returns-then-starts_with-clause-ok : goal.returns-then-starts_with-clause-ok
returns-then-starts_with-clause-ok c =
    comment_stands c.args.bytes.now c.line_length.result (sym c.if-starts_with.ensures.value) (c.line_length.ensures.value ∙ ap (prefix_len is_comment_byte) c.behind.ensures)

pub returns-in_default-clause-err : goal.returns-in_default-clause-err
returns-in_default-clause-err c = no_mark c.args.bytes.now c.requires c.in_default.ensures.none
