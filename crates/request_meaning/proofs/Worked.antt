-- Worked runs of a link: the phases of its requests after each step, and the deeds at both ends, computed by the definitions.
use Rattle.std.specs.Prelude.{◌≡◌, ℕ, true, false, List, [], ◌∷◌, map, refl}
use Rattle.charlotte_calls.specs.declared.names.EndId.{EndId}
use Rattle.charlotte_calls.specs.declared.names.Side.TheVariants.{A}
use Rattle.lynx_tree.specs.declared.declaration.TypeName.TheVariants as types
use Rattle.lynx_packets.specs.declared.value.RtValue.{RtValue}
use Rattle.lynx_packets.specs.declared.value.RtValue.TheVariants as values
use Rattle.end_protocol.specs.declared.kept.Accept.{Accept}
use Rattle.end_protocol.specs.declared.kept.Binding.{Binding}
use Rattle.end_protocol.specs.declared.kept.Response.{Response}
use Rattle.end_protocol.specs.declared.kept.Taker.TheVariants as takers
use Rattle.end_protocol.specs.declared.messages.Connect.{Connect}
use Rattle.end_protocol.specs.Asking.{asked, lined_up, replied}
use Rattle.end_protocol.specs.Deeds.{Issued, Accepted, Replied as Answered, Returned}
use Rattle.end_protocol.specs.Going.{allows, sent}
use Rattle.end_protocol.specs.Happenings.{Accepts, Binds, Connects, Replies, Settles, Unbinds}
use Rattle.end_protocol.specs.Hearing.{is_readable, accepted, let_come, forbade, gone_on}
use Rattle.end_protocol.specs.Kept.{queued}
use Rattle.end_protocol.specs.Wanting.{is_needed, taker}
use Rattle.request_meaning.specs.Links.{start}
use Rattle.request_meaning.specs.Phases.{Asked, Barred, Coming, Forbidden, LetCome, Owed, Phase, Quiet, Replied, Retried, Returning, Standing, stands}
use Rattle.request_meaning.proofs.Steps.{Act, Does, Far, HearsOne, Leaves, SendsOne, acts_all, course}

abbrev end : ℕ → EndId
end n = record { link = record { maker = 0; count = n }; side = A }

abbrev give : List ℕ
give = 103 ∷ []

-- a connect with so many links, the first of which is that of this number; its request has this number
abbrev connect : ℕ → List RtValue → List EndId → Connect
connect n vs xs = record { thread = 0; number = n; signature = give; values = vs; results = []; ends = xs }

abbrev binding : Binding
binding = record { entry = 0; signature = give }

abbrev phases : ℕ → List Phase → List Standing
phases version ps = map (stands version) ps

-- ---- a request with three ends, and a reply with two, in version 1

abbrev three_links : List RtValue
three_links = values.Link ∷ values.Link ∷ values.Link ∷ []

abbrev two_links : List RtValue
two_links = values.Link ∷ values.Link ∷ []

abbrev asks_three : Connect
asks_three = record (connect 1 three_links (end 1 ∷ end 2 ∷ end 3 ∷ [])) { results = types.Link ∷ types.Link ∷ [] }

abbrev answer : Response
answer = record { number = 1; status = 0; values = two_links; ends = end 4 ∷ end 5 ∷ [] }

abbrev in_parts : List Act
in_parts =
    Far (Does (Binds binding)) ∷ Does (Connects asks_three) ∷ SendsOne ∷ Far HearsOne
    ∷ Far SendsOne ∷ HearsOne ∷ SendsOne ∷ Far HearsOne ∷ SendsOne ∷ Far HearsOne
    ∷ Far (Does (Replies answer)) ∷ Far SendsOne ∷ HearsOne ∷ Far SendsOne ∷ HearsOne ∷ []

abbrev phases_in_parts : List Phase
phases_in_parts =
    Quiet ∷ Asked asks_three ∷ Asked asks_three ∷ LetCome asks_three (takers.Entry 0)
    ∷ LetCome asks_three (takers.Entry 0) ∷ Coming asks_three (takers.Entry 0) (end 1 ∷ []) (end 2) (end 3 ∷ [])
    ∷ Coming asks_three (takers.Entry 0) (end 1 ∷ []) (end 2) (end 3 ∷ []) ∷ Coming asks_three (takers.Entry 0) (end 1 ∷ end 2 ∷ []) (end 3) []
    ∷ Coming asks_three (takers.Entry 0) (end 1 ∷ end 2 ∷ []) (end 3) [] ∷ Owed asks_three
    ∷ Replied asks_three answer ∷ Replied asks_three answer ∷ Returning asks_three answer (end 4 ∷ []) (end 5) []
    ∷ Returning asks_three answer (end 4 ∷ []) (end 5) [] ∷ Quiet ∷ []

ends_travel_in_parts : course 1 in_parts start ≡ phases 1 phases_in_parts
unfolding asked lined_up replied sent is_readable accepted let_come forbade gone_on queued is_needed taker
ends_travel_in_parts = refl

near_in_parts : (acts_all 1 in_parts start).near_deeds ≡ Issued 1 give three_links (end 1 ∷ end 2 ∷ end 3 ∷ []) ∷ Returned 1 0 two_links (end 4 ∷ end 5 ∷ []) ∷ []
unfolding asked lined_up replied sent is_readable accepted let_come forbade gone_on queued is_needed taker
near_in_parts = refl

far_in_parts : (acts_all 1 in_parts start).far_deeds ≡ Accepted 1 give three_links (end 1 ∷ end 2 ∷ end 3 ∷ []) ∷ Answered 1 0 two_links (end 4 ∷ end 5 ∷ []) ∷ []
unfolding asked lined_up replied sent is_readable accepted let_come forbade gone_on queued is_needed taker
far_in_parts = refl

-- ---- the same in version 2, where all ends travel with their packet

abbrev at_once : List Act
at_once =
    Far (Does (Binds binding)) ∷ Does (Connects asks_three) ∷ SendsOne ∷ Far HearsOne ∷ Far (Does (Replies answer)) ∷ Far SendsOne ∷ HearsOne ∷ []

ends_travel_at_once : course 2 at_once start ≡ phases 2 (Quiet ∷ Asked asks_three ∷ Asked asks_three ∷ Owed asks_three ∷ Replied asks_three answer ∷ Replied asks_three answer ∷ Quiet ∷ [])
unfolding asked lined_up replied sent is_readable accepted let_come forbade gone_on queued is_needed taker
ends_travel_at_once = refl

-- ---- retry

abbrev asks_one : Connect
asks_one = connect 1 (values.Link ∷ []) (end 1 ∷ [])

-- an entry was bound, and is no more when the request comes
abbrev too_late : List Act
too_late =
    Far (Does (Binds binding)) ∷ Does (Connects asks_one) ∷ SendsOne ∷ Far (Does (Unbinds 0)) ∷ Far HearsOne ∷ Far SendsOne ∷ HearsOne
    ∷ Far (Does (Binds binding)) ∷ SendsOne ∷ Far HearsOne ∷ []

abbrev phases_too_late : List Phase
phases_too_late =
    Quiet ∷ Asked asks_one ∷ Asked asks_one ∷ Asked asks_one ∷ Retried asks_one ∷ Retried asks_one ∷ Asked asks_one ∷ Asked asks_one ∷ Asked asks_one
    ∷ Owed asks_one ∷ []

comes_too_late : course 1 too_late start ≡ phases 1 phases_too_late
unfolding asked lined_up replied sent is_readable accepted let_come forbade gone_on queued is_needed taker
comes_too_late = refl

-- ---- forbid and allow

abbrev acceptor : Accept
acceptor = record { thread = 3; signature = give }

-- The other end has a request of its own outstanding, and so needs a Receive, but nobody accepts there yet. What it asks is forbidden as well
abbrev forbids : List Act
forbids =
    Far (Does (Connects (connect 1 [] []))) ∷ Does (Connects asks_one) ∷ SendsOne ∷ Far HearsOne ∷ Far SendsOne ∷ Far SendsOne ∷ HearsOne ∷ HearsOne
    ∷ Far (Does (Accepts acceptor)) ∷ Far (Does (Settles true)) ∷ Far SendsOne ∷ HearsOne ∷ SendsOne ∷ SendsOne ∷ Far HearsOne ∷ Far HearsOne ∷ []

abbrev phases_forbidden : List Phase
phases_forbidden =
    Quiet ∷ Asked asks_one ∷ Asked asks_one ∷ Forbidden asks_one false ∷ Forbidden asks_one false ∷ Forbidden asks_one false
    ∷ Forbidden asks_one false ∷ Barred asks_one false ∷ Barred asks_one false ∷ Barred asks_one true ∷ Barred asks_one true ∷ Asked asks_one
    ∷ Asked asks_one ∷ Asked asks_one ∷ Asked asks_one ∷ Owed asks_one ∷ []

is_forbidden_first : course 1 forbids start ≡ phases 1 phases_forbidden
unfolding asked lined_up replied allows sent is_readable accepted let_come forbade gone_on queued is_needed taker
is_forbidden_first = refl

-- ---- both ends move

abbrev asks_none : Connect
asks_none = connect 1 [] []

abbrev done : Response
done = record { number = 1; status = 0; values = []; ends = [] }

-- a request and its reply; then each end goes to another process, and a request is on its way as the end moves for which it is
abbrev both_move : List Act
both_move =
    Far (Does (Binds binding)) ∷ Does (Connects asks_none) ∷ SendsOne ∷ Far HearsOne ∷ Far (Does (Replies done)) ∷ Far SendsOne ∷ HearsOne ∷ Far (Does (Unbinds 0))
    ∷ Leaves ∷ Does (Connects asks_one) ∷ SendsOne ∷ Far Leaves ∷ Far (Does (Accepts acceptor)) ∷ Far HearsOne ∷ Far (Does (Replies done)) ∷ Far SendsOne ∷ HearsOne ∷ []

abbrev phases_moved : List Phase
phases_moved =
    Quiet ∷ Asked asks_none ∷ Asked asks_none ∷ Owed asks_none ∷ Replied asks_none done ∷ Replied asks_none done ∷ Quiet ∷ Quiet
    ∷ Quiet ∷ Asked asks_one ∷ Asked asks_one ∷ Asked asks_one ∷ Asked asks_one ∷ Owed asks_one ∷ Replied asks_one done ∷ Replied asks_one done ∷ Quiet ∷ []

moves_at_rest : course 2 both_move start ≡ phases 2 phases_moved
unfolding asked lined_up replied allows sent is_readable accepted let_come forbade gone_on queued is_needed taker
moves_at_rest = refl

-- the numbering begins anew
near_moved : (acts_all 2 both_move start).near_deeds ≡
    Issued 1 give [] [] ∷ Returned 1 0 [] [] ∷ Issued 1 give (values.Link ∷ []) (end 1 ∷ []) ∷ Returned 1 0 [] [] ∷ []
unfolding asked lined_up replied allows sent is_readable accepted let_come forbade gone_on queued is_needed taker
near_moved = refl

far_moved : (acts_all 2 both_move start).far_deeds ≡
    Accepted 1 give [] [] ∷ Answered 1 0 [] [] ∷ Accepted 1 give (values.Link ∷ []) (end 1 ∷ []) ∷ Answered 1 0 [] [] ∷ []
unfolding asked lined_up replied allows sent is_readable accepted let_come forbade gone_on queued is_needed taker
far_moved = refl
