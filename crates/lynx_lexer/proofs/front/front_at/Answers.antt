use Rattle.std.proofs.Common.{sym}
use Rattle.lynx_lexer.proofs.Stands.{blank_stands, nothing_begins}
use Rattle.lynx_lexer.proofs.front.front_at.Goals as goal

pub returns-in-Blank-clause-ok : goal.returns-in-Blank-clause-ok
returns-in-Blank-clause-ok c = blank_stands c.args.bytes.now (record { some = c.requires; first = sym c.in-Blank.ensures })

pub returns-in-Underscore-clause-err : goal.returns-in-Underscore-clause-err
returns-in-Underscore-clause-err c = nothing_begins c.args.bytes.now (record { some = c.requires; first = sym c.in-Underscore.ensures })
