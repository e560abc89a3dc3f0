-- A worked run: a process connects, and the deed of that stands just before its first call. Computed by the definitions.
use Rattle.std.specs.Prelude.{ℕ, pos, List, [], ◌∷◌, codes, None, refl}
use Rattle.charlotte_calls.specs.declared.calls.Call.{Call}
use Rattle.charlotte_calls.specs.declared.calls.Call.TheVariants as call
use Rattle.charlotte_calls.specs.declared.calls.ServiceStep.TheVariants as step
use Rattle.charlotte_calls.specs.declared.names.Pid.{Pid}
use Rattle.kernel_entries.specs.declared.entry.Happened.TheVariants.{Asked}
use Rattle.kernel_entries.specs.declared.entry.Placed.{Placed}
use Rattle.lynx_tree.specs.declared.declaration.TypeName.TheVariants as types
use Rattle.lynx_code.specs.declared.instruction.Instruction.TheVariants as code
use Rattle.lynx_code.specs.declared.instruction.Literal.TheVariants as literal
use Rattle.lynx_packets.specs.declared.value.RtValue.TheVariants as values
use Rattle.lynx_packets.specs.Spelling.{int_text, number_text, spelling, value_text}
use Rattle.std.specs.Fmt.{digits}
use Rattle.end_protocol.specs.Asking.{asked, lined_up}
use Rattle.end_protocol.specs.Deeds.{Issued}
use Rattle.end_protocol.specs.Going.{due_call, sent}
use Rattle.end_protocol.specs.Wanting.{is_needed, taker}
use Rattle.process_run.specs.States.{Module}
use Rattle.process_run.specs.Runs.{settles}
use Rattle.process_run.proofs.Modules.{end, int, module_with, op, request}
use Rattle.language_links.specs.Acting.{Acts, Calls, Done, Fleet, Program, Rests, at_start, called, hears_entry, with_acting}

abbrev double : List ℕ
double = codes "double(int):(int)"

-- op double (int) : (int); param l : link; var r : int; begin connect double on l (21) : (r); write r; end.
abbrev asking : Module
asking =
    module_with (types.Link ∷ types.Int ∷ []) (op double (types.Int ∷ []) (types.Int ∷ []) ∷ []) []
    (code.Push (literal.Int (pos 21)) ∷ code.LoadG 0 ∷ code.Connect 0 ∷ code.StoreG 1 ∷ code.LoadG 1 ∷ code.Write ∷ code.End ∷ [])

abbrev first : Pid
first = record { 0 = 0 }

-- it is at the first kernel, in a run of version 1
abbrev home : ℕ → ℕ
home i = 0

abbrev program : Program
program = record { code = asking; ends = end 0 ∷ [] }

abbrev fleet : Fleet
fleet = at_start 1 (λ i. program)

-- its request is sent
abbrev sends : Call
sends = call.Send (end 0) (request double (int 21)) []

abbrev sent_entry : Placed
sent_entry = record { kernel = 0; entry = record { stamp = 1; what = Asked first sends; steps = step.Send (end 0) 1 (request double (int 21)) [] ∷ [] } }

abbrev deed : Done
deed = record { by = first; on = end 0; deed = Issued 1 double (values.Int (pos 21) ∷ []) []; after = 0 }

abbrev afterwards : Fleet
afterwards = hears_entry home sent_entry (with_acting first (called None (fleet 0)) fleet)

stands_before : Acts home 0 fleet (sent_entry ∷ []) (deed ∷ []) afterwards
unfolding asked lined_up due_call sent is_needed taker settles spelling int_text number_text value_text digits
stands_before = Calls 0 fleet first None sends sent_entry [] [] afterwards refl refl (record { is_given = refl; asks = refl }) (Rests 1 afterwards)
