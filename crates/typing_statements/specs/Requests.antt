-- Requests as the program keeps them.
use Rattle.typing_rules.specs.Rules.{Request, Outside, Asks}
use Rattle.typing_rules.specs.Meanings.{types_known}
use Rattle.typing_statements.specs.declared.request.Request.{Request as KeptRequest}
use Rattle.typing_statements.specs.declared.request.Request.TheVariants as kept

abbrev pub request_of : KeptRequest → Request
request_of kept.Outside = Outside
request_of (kept.Asks results) = Asks (types_known results)
