use Rattle.lynx_parser.proofs.MadeStatements.{made_accept}
use Rattle.lynx_parser.proofs.make_statement.accept_of.Goals as goal

pub returns : goal.returns
returns c = made_accept c.args.op c.args.link c.args.names c.args.body
