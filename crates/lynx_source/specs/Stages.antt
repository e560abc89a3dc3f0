-- Reading by stages. A stage is a relation to its outcome: what the next stage goes on with, or a fault that ends it.
use Rattle.std.specs.Prelude.{◌≡◌, ◌⊎◌, Result, Ok, Err}
use Rattle.lynx_source.specs.declared.fault.SourceFault.{SourceFault}

-- one stage, and then another on what it gives; a fault of the first is the fault of both
abbrev pub Then : {A B : Type 0} → (Result A SourceFault → Type 0) → (A → Result B SourceFault → Type 0) → Result B SourceFault → Type 0
Then {A} first next outcome =
    ((a : A) × first (Ok a) × next a outcome) ⊎ ((fault : SourceFault) × first (Err fault) × (outcome ≡ Err fault))

-- a stage has one outcome at most
abbrev pub HasOne : {A : Type 0} → (Result A SourceFault → Type 0) → Type 0
HasOne {A} stage = (a b : Result A SourceFault) → stage a → stage b → a ≡ b
