-- Worked runs of processes that request and reply, computed by the definition.
use Rattle.std.specs.Prelude.{◌≡◌, ℕ, pos, List, [], ◌∷◌, codes, Option, None, Some, refl}
use Rattle.charlotte_calls.specs.declared.calls.Answer.{Answer}
use Rattle.charlotte_calls.specs.declared.calls.Answer.TheVariants as answer
use Rattle.charlotte_calls.specs.declared.calls.Call.TheVariants.{Send, Receive, Cancel, Wait, Print, Exit, Destroy}
use Rattle.charlotte_calls.specs.declared.calls.Cause.TheVariants.{Late}
use Rattle.charlotte_calls.specs.declared.names.EndId.{EndId}
use Rattle.charlotte_calls.specs.declared.names.Way.TheVariants.{Inward}
use Rattle.charlotte_calls.specs.declared.program.Next.{Next}
use Rattle.charlotte_calls.specs.declared.program.Next.TheVariants.{Ask, Ended}
use Rattle.lynx_tree.specs.declared.declaration.TypeName.TheVariants as types
use Rattle.lynx_code.specs.declared.instruction.Instruction.TheVariants as code
use Rattle.lynx_code.specs.declared.instruction.Literal.TheVariants as literal
use Rattle.lynx_packets.specs.declared.value.RtValue.TheVariants as values
use Rattle.end_protocol.specs.Deeds.{Deed, Issued, Accepted, Replied, Returned}
use Rattle.process_run.specs.States.{Module, DeedOn}
use Rattle.process_run.proofs.Modules.{op, entry, module_with, end, runs, deeds_in, ok, came, taken, request, reply, numbered, int}
use Rattle.std.specs.Fmt.{digits}
use Rattle.charlotte_calls.specs.EndEq.{end_eq}
use Rattle.lynx_lexer.specs.Slots.{keyword_at}
use Rattle.lynx_packets.specs.Packets.{packet_of, request_of, reply_of, numbered_of, enc_of}
use Rattle.lynx_packets.specs.Reading.{number_at, int_at, int_value, typed_at, arguments_at, value_at, values_at}
use Rattle.lynx_packets.specs.Spelling.{int_text, number_text, value_text, spelling}
use Rattle.lynx_packets.specs.Spots.{word_begun, next_spot, type_told, types_at, name_at, signature_at}
use Rattle.end_protocol.specs.Asking.{asked, lined_up, replied}
use Rattle.end_protocol.specs.Falling.{dies, fallen}
use Rattle.end_protocol.specs.Going.{allows, due_call, sent}
use Rattle.end_protocol.specs.Hearing.{is_readable, accepted, let_come, forbade, gone_on}
use Rattle.end_protocol.specs.Kept.{queued}
use Rattle.end_protocol.specs.Wanting.{is_needed, taker, is_busy}
use Rattle.process_run.specs.Deaths.{dies_at, destroys}
use Rattle.process_run.specs.Runs.{settles}

-- ---- a bind and an unbind

-- op ping () : (); op pong () : (); param a : link; param b : link; entry serve of ping () begin reply (); end;
-- begin bind a to serve; unbind a from serve; connect pong on b () : (); end.
abbrev ping : List ℕ
ping = codes "ping():()"

abbrev pong : List ℕ
pong = codes "pong():()"

abbrev unbound : Module
unbound =
    module_with (types.Link ∷ types.Link ∷ []) (op ping [] [] ∷ op pong [] [] ∷ []) (entry 7 0 [] ∷ [])
    (code.LoadG 0 ∷ code.Bind 0 ∷ code.LoadG 0 ∷ code.Unbind 0 ∷ code.LoadG 1 ∷ code.Connect 1 ∷ code.End ∷ code.Reply 0 ∷ code.End ∷ [])

-- the Cancel comes too late, and a request comes that is not wanted any more
abbrev told_late : List (Option Answer)
told_late = None ∷ ok ∷ Some (answer.Refused Late) ∷ ok ∷ ok ∷ came (end 0) (request ping []) [] ∷ []

abbrev sends_it_back : List Next
sends_it_back =
    Ask (Receive (end 0)) ∷ Ask (Cancel (end 0) Inward) ∷ Ask (Send (end 1) (request pong []) []) ∷ Ask (Receive (end 1)) ∷ Ask Wait
    ∷ Ask (Send (end 0) (numbered 3) []) ∷ []

-- ---- a request and its reply

abbrev double : List ℕ
double = codes "double(int):(int)"

abbrev deed_on : EndId → Deed → DeedOn
deed_on x d = record { on = x; deed = d }

-- op double (int) : (int); param l : link; var r : int; begin connect double on l (21) : (r); write r; end.
abbrev asking : Module
asking =
    module_with (types.Link ∷ types.Int ∷ []) (op double (types.Int ∷ []) (types.Int ∷ []) ∷ []) []
    (code.Push (literal.Int (pos 21)) ∷ code.LoadG 0 ∷ code.Connect 0 ∷ code.StoreG 1 ∷ code.LoadG 1 ∷ code.Write ∷ code.End ∷ [])

abbrev told_asking : List (Option Answer)
told_asking = None ∷ ok ∷ ok ∷ taken (end 0) ∷ came (end 0) (reply 0 (int 42)) [] ∷ ok ∷ ok ∷ []

abbrev asks_and_writes : List Next
asks_and_writes =
    Ask (Send (end 0) (request double (int 21)) []) ∷ Ask (Receive (end 0)) ∷ Ask Wait ∷ Ask Wait ∷ Ask (Print (codes "42")) ∷ Ask Exit ∷ Ended ∷ []

-- op double (int) : (int); param l : link; entry e of double (x) begin reply (x + x); end; begin bind l to e; end.
abbrev serving : Module
serving =
    module_with (types.Link ∷ []) (op double (types.Int ∷ []) (types.Int ∷ []) ∷ []) (entry 3 0 (types.Int ∷ []) ∷ [])
    (code.LoadG 0 ∷ code.Bind 0 ∷ code.End ∷ code.LoadL 0 ∷ code.LoadL 0 ∷ code.Add ∷ code.Reply 1 ∷ code.End ∷ [])

abbrev told_serving : List (Option Answer)
told_serving = None ∷ ok ∷ came (end 1) (request double (int 21)) [] ∷ ok ∷ ok ∷ taken (end 1) ∷ []

-- no thread stands while it waits for a request; the next Receive comes before the entry's thread goes on
abbrev serves : List Next
serves =
    Ask (Receive (end 1)) ∷ Ask Wait ∷ Ask (Receive (end 1)) ∷ Ask (Send (end 1) (reply 0 (int 42)) []) ∷ Ask Wait ∷ Ask Wait ∷ []

-- ---- two ends in a request

abbrev give : List ℕ
give = codes "give(link,link):()"

abbrev two_links : List ℕ
two_links = 5 ∷ 5 ∷ []

-- op give (link, link) : (); param l : link; param x : link; param y : link; begin connect give on l (x, y) : (); end.
abbrev giving : Module
giving =
    module_with (types.Link ∷ types.Link ∷ types.Link ∷ []) (op give (types.Link ∷ types.Link ∷ []) [] ∷ []) []
    (code.LoadG 1 ∷ code.LoadG 2 ∷ code.LoadG 0 ∷ code.Connect 0 ∷ code.End ∷ [])

abbrev three : List EndId
three = end 0 ∷ end 1 ∷ end 2 ∷ []

-- the enc of the second
abbrev enc : List ℕ
enc = 7 ∷ 1 ∷ 0 ∷ 0 ∷ 0 ∷ 1 ∷ 2 ∷ []

-- in version 1 the second follows after a goahead
abbrev gives_in_part : List Next
gives_in_part =
    Ask (Send (end 0) (request give two_links) (end 1 ∷ [])) ∷ Ask (Receive (end 0)) ∷ Ask Wait ∷ Ask Wait ∷ Ask (Send (end 0) enc (end 2 ∷ []))
    ∷ Ask (Receive (end 0)) ∷ Ask Wait ∷ Ask Wait ∷ Ask Exit ∷ Ended ∷ []

-- op give (link, link) : (); param l : link; var p : link; var q : link;
-- begin accept give on l (p, q) do reply (); end; destroy q; end.
abbrev taking : Module
taking =
    module_with (types.Link ∷ types.Link ∷ types.Link ∷ []) (op give (types.Link ∷ types.Link ∷ []) [] ∷ []) []
    (code.LoadG 0 ∷ code.Accept 0 ∷ code.StoreG 2 ∷ code.StoreG 1 ∷ code.Reply 0 ∷ code.Close ∷ code.LoadG 2 ∷ code.Destroy ∷ code.End ∷ [])

-- a request in part needs a Receive, and is accepted with its last end
abbrev takes_in_part : List Next
takes_in_part =
    Ask (Receive (end 9)) ∷ Ask Wait ∷ Ask (Send (end 9) (numbered 6) []) ∷ Ask (Receive (end 9)) ∷ Ask Wait ∷ Ask Wait
    ∷ Ask (Send (end 9) (reply 0 []) []) ∷ Ask (Destroy (end 2)) ∷ Ask Wait ∷ Ask Exit ∷ Ended ∷ []

-- ---- retry, forbid and allow

-- op pong () : (); param b : link; begin connect pong on b () : (); end.
abbrev connecting : Module
connecting = module_with (types.Link ∷ []) (op pong [] [] ∷ []) [] (code.LoadG 0 ∷ code.Connect 0 ∷ code.End ∷ [])

-- another's request comes meanwhile and is forbidden; its own comes back by a retry, then by a forbid and an allow. When its reply is there no
-- Receive is needed any more, and the other's request is allowed again
abbrev told_much : List (Option Answer)
told_much =
    None ∷ ok ∷ ok ∷ taken (end 0) ∷ came (end 0) (request ping []) [] ∷ ok ∷ ok ∷ taken (end 0) ∷ came (end 0) (numbered 3) [] ∷ ok ∷ ok
    ∷ taken (end 0) ∷ came (end 0) (numbered 4) [] ∷ ok ∷ came (end 0) (numbered 5) [] ∷ ok ∷ ok ∷ taken (end 0) ∷ came (end 0) (reply 0 []) []
    ∷ ok ∷ taken (end 0) ∷ ok ∷ []

abbrev sends_pong : List Next → List Next
sends_pong more = Ask (Send (end 0) (request pong []) []) ∷ Ask (Receive (end 0)) ∷ Ask Wait ∷ more

abbrev is_patient : List Next
is_patient =
    sends_pong (Ask Wait ∷ Ask (Send (end 0) (numbered 4) []) ∷ Ask (Receive (end 0)) ∷ Ask Wait ∷ Ask Wait
    ∷ sends_pong (Ask Wait ∷ Ask (Receive (end 0)) ∷ Ask Wait
    ∷ sends_pong (Ask Wait ∷ Ask (Send (end 0) (numbered 5) []) ∷ Ask Wait ∷ Ask Exit ∷ Ended ∷ [])))

-- ---- what comes of these runs

pub record Worked : Type 0 where
  -- ---- a bind and an unbind
  pub a_late_cancel_in_version_1 : runs 1 unbound (end 0 ∷ end 1 ∷ []) told_late ≡ sends_it_back
  pub a_late_cancel_in_version_2 : runs 2 unbound (end 0 ∷ end 1 ∷ []) told_late ≡ sends_it_back
  -- ---- a request and its reply
  pub it_asks_in_version_1 : runs 1 asking (end 0 ∷ []) told_asking ≡ asks_and_writes
  pub it_asks_in_version_2 : runs 2 asking (end 0 ∷ []) told_asking ≡ asks_and_writes
  pub it_issued_and_returned : deeds_in 1 asking (end 0 ∷ []) told_asking ≡ deed_on (end 0) (Issued 1 double (values.Int (pos 21) ∷ []) []) ∷ deed_on (end 0) (Returned 1 0 (values.Int (pos 42) ∷ []) []) ∷ []
  pub it_serves_in_version_1 : runs 1 serving (end 1 ∷ []) told_serving ≡ serves
  pub it_serves_in_version_2 : runs 2 serving (end 1 ∷ []) told_serving ≡ serves
  pub it_accepted_and_replied : deeds_in 2 serving (end 1 ∷ []) told_serving ≡ deed_on (end 1) (Accepted 1 double (values.Int (pos 21) ∷ []) []) ∷ deed_on (end 1) (Replied 1 0 (values.Int (pos 42) ∷ []) []) ∷ []
  -- ---- two ends in a request
  -- in version 2 both go with the request
  pub it_gives_in_version_2 : runs 2 giving three (None ∷ ok ∷ ok ∷ taken (end 0) ∷ came (end 0) (reply 0 []) [] ∷ ok ∷ []) ≡ Ask (Send (end 0) (request give two_links) (end 1 ∷ end 2 ∷ [])) ∷ Ask (Receive (end 0)) ∷ Ask Wait ∷ Ask Wait ∷ Ask Exit ∷ Ended ∷ []
  pub it_gives_in_version_1 : runs 1 giving three (None ∷ ok ∷ ok ∷ taken (end 0) ∷ came (end 0) (numbered 6) [] ∷ ok ∷ ok ∷ taken (end 0) ∷ came (end 0) (reply 0 []) [] ∷ ok ∷ []) ≡ gives_in_part
  pub it_takes_in_version_2 : runs 2 taking (end 9 ∷ []) (None ∷ ok ∷ came (end 9) (request give two_links) (end 1 ∷ end 2 ∷ []) ∷ ok ∷ ok ∷ taken (end 9) ∷ ok ∷ []) ≡ Ask (Receive (end 9)) ∷ Ask Wait ∷ Ask (Send (end 9) (reply 0 []) []) ∷ Ask (Destroy (end 2)) ∷ Ask Wait ∷ Ask Exit ∷ Ended ∷ []
  pub it_takes_in_version_1 : runs 1 taking (end 9 ∷ []) (None ∷ ok ∷ came (end 9) (request give two_links) (end 1 ∷ []) ∷ ok ∷ ok ∷ taken (end 9) ∷ came (end 9) enc (end 2 ∷ []) ∷ ok ∷ ok ∷ taken (end 9) ∷ ok ∷ []) ≡ takes_in_part
  -- ---- retry, forbid and allow
  pub it_is_patient : runs 2 connecting (end 0 ∷ []) told_much ≡ is_patient

pub worked : Worked
unfolding packet_of request_of reply_of numbered_of enc_of number_at int_at int_value value_at values_at typed_at arguments_at signature_at name_at keyword_at types_at next_spot type_told word_begun number_text int_text spelling value_text digits asked lined_up replied due_call allows sent is_readable accepted let_come forbade gone_on is_needed taker is_busy queued dies fallen dies_at destroys settles end_eq
worked =
    record {
      a_late_cancel_in_version_1 = refl;
      a_late_cancel_in_version_2 = refl;
      it_asks_in_version_1 = refl;
      it_asks_in_version_2 = refl;
      it_issued_and_returned = refl;
      it_serves_in_version_1 = refl;
      it_serves_in_version_2 = refl;
      it_accepted_and_replied = refl;
      it_gives_in_version_2 = refl;
      it_gives_in_version_1 = refl;
      it_takes_in_version_2 = refl;
      it_takes_in_version_1 = refl;
      it_is_patient = refl;
    }
