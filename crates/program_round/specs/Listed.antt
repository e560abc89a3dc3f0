-- A list of calls as a program: it asks them in order, and ends after the last and after an Exit.
use Rattle.std.specs.Prelude.{◌≡◌, ℕ, ◌≤◌, ◌⊎◌, List, [], ◌∷◌, Option, Some, All, length}
use Rattle.charlotte_calls.specs.declared.calls.Answer.{Answer}
use Rattle.charlotte_calls.specs.declared.calls.Call.{Call}
use Rattle.charlotte_calls.specs.declared.calls.Call.TheVariants as call
use Rattle.charlotte_calls.specs.declared.program.Next.{Next}
use Rattle.charlotte_calls.specs.declared.program.Next.TheVariants as next

pub record Listed : Type 0 where
  -- the calls that are not asked yet
  pub rest : List Call
  -- the last step
  pub last : Option Next
  pub version : ℕ

-- what is done with these calls left
abbrev pub asked_of : List Call → Next × List Call
asked_of [] = (next.Ended, [])
asked_of (c ∷ cs) = (next.Ask c, cs)

-- what is done with these calls left, after the last step
abbrev pub done_of : Option Next → List Call → Next × List Call
done_of (Some (next.Ask call.Exit)) cs = (next.Ended, cs)
done_of _ cs = asked_of cs

abbrev pub listed_step : Listed → Option Answer → Next × Listed
listed_step s given = let d = done_of s.last s.rest in (d.0, record s { rest = d.1; last = Some d.0 })

-- it is no Send that encloses two or more ends
abbrev pub EnclosesOne : Call → Type 0
EnclosesOne (call.Send on bytes enclose) = length enclose ≤ 1
EnclosesOne _ = Unit {0}

-- a program of this version asks such calls
abbrev pub FitsVersion : ℕ → List Call → Type 0
FitsVersion version calls = ((version ≡ 1) × All EnclosesOne calls) ⊎ (version ≡ 2)
