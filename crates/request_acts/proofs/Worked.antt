-- A worked run of two processes, each on a kernel of its own: one connects, and the other accepts and replies. Their deeds stand where the definition has
-- them. Computed by the definitions.
use Rattle.std.specs.Prelude.{◌≡◌, ℕ, zero, suc, ◌+◌, pos, List, [], ◌∷◌, ◌++◌, codes, Option, None, Some, refl}
use Rattle.charlotte_calls.specs.Names.{opposite}
use Rattle.charlotte_calls.specs.declared.calls.Answer.{Answer}
use Rattle.charlotte_calls.specs.declared.calls.Call.{Call}
use Rattle.charlotte_calls.specs.declared.calls.Call.TheVariants as call
use Rattle.charlotte_calls.specs.declared.calls.ServiceStep.{ServiceStep}
use Rattle.charlotte_calls.specs.declared.calls.ServiceStep.TheVariants as step
use Rattle.charlotte_calls.specs.declared.names.EndId.{EndId}
use Rattle.charlotte_calls.specs.declared.names.Outcome.TheVariants as outcome
use Rattle.charlotte_calls.specs.declared.names.Way.TheVariants.{Inward}
use Rattle.kernel_entries.specs.declared.entry.Happened.TheVariants.{Asked}
use Rattle.kernel_entries.specs.declared.entry.Placed.{Placed}
use Rattle.lynx_tree.specs.declared.declaration.TypeName.TheVariants as types
use Rattle.lynx_code.specs.declared.instruction.Instruction.TheVariants as code
use Rattle.lynx_code.specs.declared.instruction.Literal.TheVariants as literal
use Rattle.lynx_lexer.specs.Slots.{keyword_at}
use Rattle.lynx_packets.specs.Packets.{packet_of, request_of}
use Rattle.lynx_packets.specs.Reading.{arguments_at, int_at, int_value, number_at, typed_at, value_at, values_at}
use Rattle.lynx_packets.specs.Spelling.{int_text, number_text, spelling, value_text}
use Rattle.lynx_packets.specs.Spots.{name_at, next_spot, signature_at, type_told, types_at, word_begun}
use Rattle.lynx_packets.specs.declared.value.RtValue.TheVariants as values
use Rattle.std.specs.Fmt.{digits}
use Rattle.end_protocol.specs.Asking.{asked, lined_up, replied}
use Rattle.end_protocol.specs.Deeds.{Accepted, Issued, Replied}
use Rattle.end_protocol.specs.Going.{allows, due_call, sent}
use Rattle.end_protocol.specs.Hearing.{accepted, is_readable}
use Rattle.end_protocol.specs.Kept.{queued}
use Rattle.end_protocol.specs.Wanting.{is_needed, taker}
use Rattle.process_sound.specs.States.{Module}
use Rattle.process_sound.specs.Runs.{settles}
use Rattle.process_sound.proofs.Modules.{came, end, entry, int, module_with, ok, op, reply, request}
use Rattle.language_links.specs.Told.{call_of}
use Rattle.charlotte_calls.specs.EndEq.{end_eq}
use Rattle.language_links.specs.Acting.{Acts, Calls, Done, Fleet, IsAsking, Program, Rests, at_start, called, deeds_before, done_by, hears_entry, with_acting}
use Rattle.request_acts.specs.Acted.{process}

abbrev double : List ℕ
double = codes "double(int):(int)"

-- op double (int) : (int); param l : link; var r : int; begin connect double on l (21) : (r); write r; end.
abbrev asking : Module
asking =
    module_with (types.Link ∷ types.Int ∷ []) (op double (types.Int ∷ []) (types.Int ∷ []) ∷ []) []
    (code.Push (literal.Int (pos 21)) ∷ code.LoadG 0 ∷ code.Connect 0 ∷ code.StoreG 1 ∷ code.LoadG 1 ∷ code.Write ∷ code.End ∷ [])

-- op double (int) : (int); param l : link; entry e of double (x) begin reply (x + x); end; begin bind l to e; end.
abbrev serving : Module
serving =
    module_with (types.Link ∷ []) (op double (types.Int ∷ []) (types.Int ∷ []) ∷ []) (entry 3 0 (types.Int ∷ []) ∷ [])
    (code.LoadG 0 ∷ code.Bind 0 ∷ code.End ∷ code.LoadL 0 ∷ code.LoadL 0 ∷ code.Add ∷ code.Reply 1 ∷ code.End ∷ [])

abbrev near : EndId
near = end 0

abbrev far : EndId
far = opposite near

-- the first process asks, and all others serve
abbrev programs : ℕ → Program
programs zero = record { code = asking; ends = near ∷ [] }
programs (suc i) = record { code = serving; ends = far ∷ [] }

-- each process is at the kernel of its number
abbrev home : ℕ → ℕ
home i = i

abbrev entry_of : ℕ → ℕ → Call → List ServiceStep → Placed
entry_of k stamp c steps = record { kernel = k; entry = record { stamp = stamp; what = Asked (process k) c; steps = steps } }

abbrev asks : Call
asks = call.Send near (request double (int 21)) []

abbrev answers : Call
answers = call.Send far (reply 0 (int 42)) []

abbrev arrives : ServiceStep
arrives = step.Report (process 1) (record { on = far; way = Inward; outcome = outcome.Done; bytes = request double (int 21); enclosed = [] })

abbrev entries : List Placed
entries =
    entry_of 1 1 (call.Receive far) [] ∷ entry_of 0 1 asks [] ∷ entry_of 1 2 call.Wait (arrives ∷ []) ∷ entry_of 1 3 (call.Receive far) [] ∷ entry_of 1 4 answers [] ∷ []

-- a replay of all, with its deeds
pub record Going (n : ℕ) (f : Fleet) (es : List Placed) : Type 0 where
  pub deeds : List Done
  pub last : Fleet
  pub acts : Acts home n f es deeds last

abbrev rests : (n : ℕ) (f : Fleet) → Going n f []
rests n f = record { deeds = []; last = f; acts = Rests n f }

abbrev onward : (n : ℕ) (f : Fleet) (given : Option Answer) (k stamp : ℕ) (c : Call) (steps : List ServiceStep) (es : List Placed) → call_of (process k) (Asked (process k) c) ≡ Some c → IsAsking (f k) given c
    → Going (n + 1) (hears_entry home (entry_of k stamp c steps) (with_acting (process k) (called given (f k)) f)) es → Going n f (entry_of k stamp c steps ∷ es)
onward n f given k stamp c steps es call asking rest = record {
  deeds = done_by (process k) n (deeds_before given (f k)) ++ rest.deeds;
  last = rest.last;
  acts = Calls n f (process k) given c (entry_of k stamp c steps) es rest.deeds rest.last refl call asking rest.acts;
}

abbrev fleet : Fleet
fleet = at_start 1 programs

-- before its next call, a process asks this one
abbrev next : (f : Fleet) (given : Option Answer) (k stamp : ℕ) (c : Call) (steps : List ServiceStep) → Fleet
next f given k stamp c steps = hears_entry home (entry_of k stamp c steps) (with_acting (process k) (called given (f k)) f)

abbrev one : Fleet
one = next fleet None 1 1 (call.Receive far) []

abbrev two : Fleet
two = next one None 0 1 asks []

abbrev three : Fleet
three = next two ok 1 2 call.Wait (arrives ∷ [])

abbrev request_came : Option Answer
request_came = came far (request double (int 21)) []

abbrev four : Fleet
four = next three request_came 1 3 (call.Receive far) []

abbrev five : Fleet
five = next four ok 1 4 answers []

going : Going 0 fleet entries
unfolding packet_of request_of number_at int_at int_value value_at values_at typed_at arguments_at signature_at name_at keyword_at types_at next_spot type_told word_begun number_text int_text spelling value_text digits asked lined_up replied due_call allows sent is_readable accepted is_needed taker queued settles end_eq
going =
    onward 0 fleet None 1 1 (call.Receive far) [] _ refl (record { is_given = refl; asks = refl })
    (onward 1 one None 0 1 asks [] _ refl (record { is_given = refl; asks = refl })
    (onward 2 two ok 1 2 call.Wait (arrives ∷ []) _ refl (record { is_given = refl; asks = refl })
    (onward 3 three request_came 1 3 (call.Receive far) [] _ refl (record { is_given = refl; asks = refl })
    (onward 4 four ok 1 4 answers [] _ refl (record { is_given = refl; asks = refl }) (rests 5 five)))))

abbrev deeds : List Done
deeds =
    record { by = process 0; on = near; deed = Issued 1 double (values.Int (pos 21) ∷ []) []; after = 1 }
    ∷ record { by = process 1; on = far; deed = Accepted 1 double (values.Int (pos 21) ∷ []) []; after = 3 }
    ∷ record { by = process 1; on = far; deed = Replied 1 0 (values.Int (pos 42) ∷ []) []; after = 4 } ∷ []

stand_there : going.deeds ≡ deeds
unfolding going packet_of request_of number_at int_at int_value value_at values_at typed_at arguments_at signature_at name_at keyword_at types_at next_spot type_told word_begun number_text int_text spelling value_text digits asked lined_up replied due_call allows sent is_readable accepted is_needed taker queued settles end_eq
stand_there = refl
