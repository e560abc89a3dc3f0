-- Small modules as code, and what is told to processes that run them.
use Rattle.std.specs.Prelude.{ℕ, suc, List, [], ◌∷◌, ◌++◌, Option, None, Some}
use Rattle.charlotte_calls.specs.declared.calls.Answer.{Answer}
use Rattle.charlotte_calls.specs.declared.calls.Answer.TheVariants as answer
use Rattle.charlotte_calls.specs.declared.names.EndId.{EndId}
use Rattle.charlotte_calls.specs.declared.names.Outcome.TheVariants.{Done, Destroyed}
use Rattle.charlotte_calls.specs.declared.names.Side.TheVariants.{B}
use Rattle.charlotte_calls.specs.declared.names.Way.TheVariants.{Inward, Outward}
use Rattle.charlotte_calls.specs.declared.program.Next.{Next}
use Rattle.charlotte_calls.specs.Program.{steps}
use Rattle.lynx_tree.specs.declared.declaration.TypeName.{TypeName}
use Rattle.lynx_code.specs.declared.instruction.Instruction.{Instruction}
use Rattle.code_shapes.specs.Shapes.{PartTypes}
use Rattle.lynx_meaning.specs.Needs.{OpTypes}
use Rattle.process_run.specs.States.{Module, DeedOn, start_of}
use Rattle.process_run.specs.Runs.{step, deeds_of}

-- ---- code

-- an operation
pub record Op : Type 0 where
  pub signature : List ℕ
  pub types : OpTypes

abbrev pub op : List ℕ → List TypeName → List TypeName → Op
op signature arguments results = record { signature = signature; types = record { arguments = arguments; results = results } }

abbrev pub body : PartTypes
body = record { start = 0; op = None; locals = [] }

-- an entry that serves the operation of this number
abbrev pub entry : ℕ → ℕ → List TypeName → PartTypes
entry start op locals = record { start = start; op = Some op; locals = locals }

abbrev pub signatures_of : List Op → List (List ℕ)
signatures_of [] = []
signatures_of (o ∷ os) = o.signature ∷ signatures_of os

abbrev pub types_of : List Op → List OpTypes
types_of [] = []
types_of (o ∷ os) = o.types ∷ types_of os

abbrev pub count : {X : Type 0} → List X → ℕ
count [] = 0
count (x ∷ xs) = suc (count xs)

abbrev pub module_with : List TypeName → List Op → List PartTypes → List Instruction → Module
module_with globals ops entries instructions =
    record {
      instructions = instructions;
      types = record { globals = globals; ops = types_of ops; entries = count entries };
      parts = body ∷ entries;
      signatures = signatures_of ops;
    }

-- ---- runs

abbrev pub end : ℕ → EndId
end n = record { link = record { maker = 0; count = n }; side = B }

-- what a process does that holds these ends
abbrev pub runs : ℕ → Module → List EndId → List (Option Answer) → List Next
runs version m xs given = steps step (start_of version m xs) given

abbrev pub deeds_in : ℕ → Module → List EndId → List (Option Answer) → List DeedOn
deeds_in version m xs given = deeds_of (start_of version m xs) given

-- ---- answers

abbrev pub ok : Option Answer
ok = Some answer.Ok

-- a message came on the end
abbrev pub came : EndId → List ℕ → List EndId → Option Answer
came x bytes xs = Some (answer.Reported (record { on = x; way = Inward; outcome = Done; bytes = bytes; enclosed = xs }))

-- the message that was sent on the end was taken
abbrev pub taken : EndId → Option Answer
taken x = Some (answer.Reported (record { on = x; way = Outward; outcome = Done; bytes = []; enclosed = [] }))

-- the link died before a message came, or before the one that was sent was taken; then its ends come back
abbrev pub none_came : EndId → Option Answer
none_came x = Some (answer.Reported (record { on = x; way = Inward; outcome = Destroyed; bytes = []; enclosed = [] }))

abbrev pub not_taken : EndId → List EndId → Option Answer
not_taken x xs = Some (answer.Reported (record { on = x; way = Outward; outcome = Destroyed; bytes = []; enclosed = xs }))

-- ---- bytes of packets

abbrev pub request : List ℕ → List ℕ → List ℕ
request signature values = 1 ∷ 0 ∷ 0 ∷ 0 ∷ 1 ∷ count signature ∷ signature ++ values

abbrev pub reply : ℕ → List ℕ → List ℕ
reply status values = 2 ∷ 0 ∷ 0 ∷ 0 ∷ 1 ∷ status ∷ values

-- retry, forbid, allow and goahead of number 1
abbrev pub numbered : ℕ → List ℕ
numbered kind = kind ∷ 0 ∷ 0 ∷ 0 ∷ 1 ∷ []

-- a small number as a value
abbrev pub int : ℕ → List ℕ
int n = 1 ∷ 0 ∷ 0 ∷ 0 ∷ 0 ∷ 0 ∷ 0 ∷ 0 ∷ n ∷ []
