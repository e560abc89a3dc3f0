-- The names of exceptions.
use Rattle.std.specs.Prelude.{ℕ, List, [], ◌∷◌, codes, Option}
use Rattle.std.specs.List.{find}
use Rattle.std.specs.Str.{bytes_eq}
use Rattle.typing_rules.specs.declared.exception.Exception.{Exception}
use Rattle.typing_rules.specs.declared.exception.Exception.TheVariants as exceptions

abbrev pub exception_text : Exception → List ℕ
exception_text exceptions.BusyLink = codes "BUSYLINK"
exception_text exceptions.DeadLink = codes "DEADLINK"
exception_text exceptions.NoLink = codes "NOLINK"
exception_text exceptions.Divide = codes "DIVIDE"
exception_text exceptions.Overflow = codes "OVERFLOW"
exception_text exceptions.Range = codes "RANGE"
exception_text exceptions.Failed = codes "FAILED"
exception_text exceptions.Replied = codes "REPLIED"
exception_text exceptions.LinksFull = codes "LINKSFULL"

abbrev pub all_exceptions : List Exception
all_exceptions = exceptions.BusyLink ∷ exceptions.DeadLink ∷ exceptions.NoLink ∷ exceptions.Divide ∷ exceptions.Overflow
    ∷ exceptions.Range ∷ exceptions.Failed ∷ exceptions.Replied ∷ exceptions.LinksFull ∷ []

-- the exception of a name; other names have none
unfoldable pub exception_of : List ℕ → Option Exception
exception_of name = find (λ exception. bytes_eq name (exception_text exception)) all_exceptions
