-- What reading a source answers.
use Rattle.std.specs.Prelude.{◌≡◌, ℕ, List, Result, Ok, Err, ⊤}
use Rattle.std.specs.Global.{Vec}
use Rattle.lynx_lexer.specs.Source.{IsFirstFault, number_of}
use Rattle.lynx_lexer.specs.declared.fault.FaultKind.{FaultKind}
use Rattle.lynx_lexer.specs.declared.fault.LexFault.{LexFault}
use Rattle.lynx_lexer.specs.declared.fault.LexFault.TheVariants as faults
use Rattle.lynx_lexer.specs.declared.token.Token.{Token}

-- the answer is these tokens, unless memory ran out
abbrev pub GivesTokens : List Token → Result (Vec Token) LexFault → Type 0
GivesTokens tokens (Ok v) = v.items ≡ tokens
GivesTokens tokens (Err (faults.At place number)) = ⊥
GivesTokens tokens (Err faults.NoMemory) = ⊤

-- the answer is this fault by its number, unless memory ran out
abbrev pub GivesFault : ℕ → FaultKind → Result (Vec Token) LexFault → Type 0
GivesFault place kind (Ok v) = ⊥
GivesFault place kind (Err (faults.At at number)) = (at ≡ place) × (number ≡ number_of kind)
GivesFault place kind (Err faults.NoMemory) = ⊤

-- the fault is the first of the source, by its number
abbrev pub IsFaultOf : List ℕ → LexFault → Type 0
IsFaultOf source (faults.At place number) = (kind : FaultKind) × IsFirstFault place kind source × (number ≡ number_of kind)
IsFaultOf source faults.NoMemory = ⊤
