-- How often the runs of a small history stop for an action.
use Rattle.std.specs.Prelude.{◌≡◌, List, [], ◌∷◌, ◌++◌, Some, Ok, refl}
use Rattle.typing_rules.specs.declared.exception.Exception.TheVariants as exceptions
use Rattle.lynx_code.specs.declared.instruction.Instruction.TheVariants as code
use Rattle.lynx_meaning.specs.Code.{Program}
use Rattle.lynx_meaning.specs.Values.{Value, Link}
use Rattle.code_shapes.specs.Shapes.{PartTypes}
use Rattle.machine_turns.specs.Turns.{Turns}
use Rattle.machine_law.specs.Histories.{Move, Beats, Gives, Spawns, behind}
use Rattle.machine_law.specs.Actions.{asked, in_all, left_in, open_requests, opened, unasked_requests, used}

-- the body ends; the entry of the operation 1: accept o on l do raise FAILED; end
abbrev program : Program
program = record {
  instructions = code.End ∷ code.LoadG 0 ∷ code.Accept 0 ∷ code.Raise exceptions.Failed ∷ [];
  arguments = 0 ∷ [];
}

abbrev variables : List Value
variables = Link 1 ∷ []

abbrev entry : PartTypes
entry = record { start = 1; op = Some 1; locals = [] }

-- a thread of the entry begins, and accepts
abbrev accepting : List Move
accepting = Beats 8 9 ∷ Spawns 1 entry [] ∷ []

-- it has the values, and the exception leaves both requests, one after the other
abbrev closing_inner : List Move
closing_inner = Beats 8 6 ∷ Gives 1 (Ok []) ∷ accepting

abbrev closing_outer : List Move
closing_outer = Beats 8 5 ∷ Gives 1 (Ok []) ∷ []

abbrev ending : List Move
ending = Beats 8 5 ∷ Gives 1 (Ok []) ∷ []

abbrev all : List Move
all = ending ++ closing_outer ++ closing_inner

abbrev now : List Move → Turns
now moves = behind program variables moves

pub it_stops_three_times : in_all asked program variables [] all ≡ 3
it_stops_three_times = refl

pub four_instructions_begin : in_all used program variables [] all ≡ 4
four_instructions_begin = refl

pub two_requests_come_to_be_open : in_all opened program variables [] all ≡ 2
two_requests_come_to_be_open = refl

pub they_hand_on_what_is_left : left_in program variables [] 9 all ≡ 5
they_hand_on_what_is_left = refl

-- ---- the second close takes no fuel

pub two_are_open : open_requests program.instructions (now closing_inner) ≡ 2
two_are_open = refl

pub one_is_not_asked_to_be_closed : unasked_requests program.instructions (now closing_inner) ≡ 1
one_is_not_asked_to_be_closed = refl

pub it_is_asked_for : in_all asked program variables closing_inner closing_outer ≡ 1
it_is_asked_for = refl

pub no_instruction_begins : in_all used program variables closing_inner closing_outer ≡ 0
no_instruction_begins = refl

pub then_none_is_left_to_ask_for : unasked_requests program.instructions (now (closing_outer ++ closing_inner)) ≡ 0
then_none_is_left_to_ask_for = refl
