-- A list of calls as a program: it asks them in order, and ends after the last and after an Exit.
use Rattle.std.specs.Prelude.{List, [], ◌∷◌, Option, Some, None}
use Rattle.charlotte_calls.specs.declared.calls.Answer.{Answer}
use Rattle.charlotte_calls.specs.declared.calls.Call.{Call}
use Rattle.charlotte_calls.specs.declared.calls.Call.TheVariants as call
use Rattle.charlotte_calls.specs.declared.program.Next.{Next}
use Rattle.charlotte_calls.specs.declared.program.Next.TheVariants as next

pub record Listed : Type 0 where
  -- the calls that are not asked yet
  pub rest : List Call
  -- the last step
  pub last : Option Next

-- what is done with these calls left
abbrev pub asked_of : List Call → Next × List Call
asked_of [] = (next.Ended, [])
asked_of (c ∷ cs) = (next.Ask c, cs)

-- what is done with these calls left, after the last step
abbrev pub done_of : Option Next → List Call → Next × List Call
done_of (Some (next.Ask call.Exit)) cs = (next.Ended, cs)
done_of _ cs = asked_of cs

abbrev pub listed_step : Listed → Option Answer → Next × Listed
listed_step s given = let d = done_of s.last s.rest in (d.0, record { rest = d.1; last = Some d.0 })
