-- Small threads, by their source and by their code.
use Rattle.std.specs.Prelude.{◌≡◌, ℕ, ℤ, pos, negsuc, List, [], ◌∷◌, Bool, false, Ok, Err, refl, codes}
use Rattle.std.specs.Fmt.{digits}
use Rattle.lynx_lexer.specs.declared.sign.Sign.TheVariants as signs
use Rattle.lynx_tree.specs.declared.expression.TermSign.TheVariants as terms
use Rattle.lynx_tree.specs.declared.declaration.TypeName.TheVariants as types
use Rattle.lynx_tree.specs.Trees as trees
use Rattle.lynx_tree.specs.Trees.{ExprTree, StmtTree, HandlerTrees, EntryTree, ModuleTree}
use Rattle.typing_rules.specs.Exceptions.{exception_of}
use Rattle.typing_rules.specs.declared.exception.Exception.{Exception}
use Rattle.typing_rules.specs.declared.exception.Exception.TheVariants as exceptions
use Rattle.lynx_code.proofs.Rows.{exprs, stmts, op, var, entry, module_of, number, plus, minus, over}
use Rattle.lynx_meaning.specs.Agree.{Start, source, target}
use Rattle.lynx_meaning.specs.Code.{Comes}
use Rattle.lynx_meaning.specs.Courses.{Action, Answer, Behaviour, Destroy, Bind, Unbind, Connect, Accept, Close, Reply, Write, Await, Stop, Ended, Waits, Out}
use Rattle.lynx_meaning.specs.Courses as actions
use Rattle.lynx_meaning.specs.Source.{main_tree, entry_part_tree}
use Rattle.lynx_meaning.specs.Values.{Value, Int, Truth, Row, Link}

-- op o (int) : (int); param l : link; var n : int; var b : bool; var r : row 2; entry e of o (x) var y : int; begin .. end; begin .. end.
abbrev the_entry : List StmtTree → EntryTree
the_entry body = entry (codes "e") (codes "o") (codes "x" ∷ []) (var (codes "y") types.Int ∷ []) body

abbrev the_module : List StmtTree → List StmtTree → ModuleTree
the_module in_entry body =
    module_of (op (codes "o") (types.Int ∷ []) (types.Int ∷ []) ∷ []) (var (codes "l") types.Link ∷ []) (var (codes "n") types.Int ∷ var (codes "b") types.Bool ∷ var (codes "r") (types.Row (pos 2)) ∷ [])
    (the_entry in_entry ∷ []) body

-- the variables of the module, with these of `n` and `b`
abbrev with_both : ℤ → Bool → List Value
with_both n b = Link 1 ∷ Int n ∷ Truth b ∷ Row (pos 0 ∷ pos 0 ∷ []) ∷ []

abbrev with_n : ℤ → List Value
with_n n = with_both n false

-- an action was given these values, or an exception; `n` stands as this
abbrev gives : List Value → ℤ → Answer
gives vs n = record { given = Ok vs; globals = with_n n }

abbrev refuses : Exception → ℤ → Answer
refuses exception n = record { given = Err exception; globals = with_n n }

-- a thread of the body, with `n` as 0, comes to this by the source and by the code
abbrev Comes_to : List StmtTree → List Answer → Behaviour → Type 0
Comes_to body answers outcome =
    let m = the_module [] body in
    let given : Start = record { globals = with_n (pos 0); arguments = []; answers = answers } in
    (source (main_tree m) given 3 ≡ outcome) × (target m (main_tree m) 0 given 60 ≡ Comes outcome)

-- a thread of the entry, whose parameter is 7; its code begins behind the one instruction of the body
abbrev Entry_comes_to : List StmtTree → List Answer → Behaviour → Type 0
Entry_comes_to body answers outcome =
    let m = the_module body [] in
    let part = entry_part_tree m (the_entry body) in
    let given : Start = record { globals = with_n (pos 0); arguments = Int (pos 7) ∷ []; answers = answers } in
    (source part given 3 ≡ outcome) × (target m part 1 given 60 ≡ Comes outcome)

-- it ends after these actions, with this `n`
abbrev ended : List Action → ℤ → Behaviour
ended done n = Ended done (record { globals = with_n n; locals = [] })

abbrev waits : List Action → ℤ → Behaviour
waits done n = Waits done (record { globals = with_n n; locals = [] })

abbrev entry_ended : List Action → ℤ → Behaviour
entry_ended done y = Ended done (record { globals = with_n (pos 0); locals = Int (pos 7) ∷ Int y ∷ [] })

-- ---- statements

abbrev n : ExprTree
n = trees.Name (codes "n")

abbrev becomes : ExprTree → StmtTree
becomes e = trees.Assign (codes "n") e

abbrev member : ExprTree → ExprTree
member i = trees.Member (codes "r") i

abbrev modulo : ExprTree → ExprTree → ExprTree
modulo a b = trees.Term a (trees.more_terms terms.Mod b trees.no_terms)

abbrev less : ExprTree → ExprTree → ExprTree
less a b = trees.Relation a signs.Less b

abbrev raises : List ℕ → StmtTree
raises name = trees.Raise name

-- try s; when X do n := k; end
abbrev handled : StmtTree → List ℕ → ℕ → StmtTree
handled s name k = trees.Try (stmts (s ∷ [])) (trees.more_handlers name (stmts (becomes (number k) ∷ [])) trees.no_handlers)

abbrev connects : StmtTree
connects = trees.Connect (codes "o") (codes "l") (exprs (number 5 ∷ [])) (codes "n" ∷ [])

-- ---- values and actions

-- n := 7 - 2; write n; write - n; write 'it'; write b;
pub what_is_written : Comes_to (becomes (minus (number 7) (number 2)) ∷ trees.Write n ∷ trees.Write (trees.Minus n) ∷ trees.Write (trees.Text (codes "it")) ∷ trees.Write (trees.Name (codes "b")) ∷ [])
    (gives [] (pos 5) ∷ gives [] (pos 5) ∷ gives [] (pos 5) ∷ gives [] (pos 5) ∷ []) (ended (Write (codes "5") ∷ Write (codes "-5") ∷ Write (codes "it") ∷ Write (codes "false") ∷ []) (pos 5))
unfolding digits
what_is_written = (refl, refl)

-- n := (- 7) / 2;
pub a_quotient : Comes_to (becomes (over (trees.Bracket (trees.Minus (number 7))) (number 2)) ∷ []) [] (ended [] (negsuc 2))
a_quotient = (refl, refl)

-- n := (- 7) mod 2;
pub a_remainder : Comes_to (becomes (modulo (trees.Bracket (trees.Minus (number 7))) (number 2)) ∷ []) [] (ended [] (negsuc 0))
a_remainder = (refl, refl)

-- n := 7 mod (- 2);
pub a_remainder_by_less_than_zero : Comes_to (becomes (modulo (number 7) (trees.Bracket (trees.Minus (number 2)))) ∷ []) [] (ended [] (pos 1))
a_remainder_by_less_than_zero = (refl, refl)

-- r[1] := 4; n := r[1] - r[0]; r[1] := 0;
pub a_member : Comes_to (trees.AssignMember (codes "r") (number 1) (number 4) ∷ becomes (minus (member (number 1)) (member (number 0))) ∷ trees.AssignMember (codes "r") (number 1) (number 0) ∷ []) [] (ended [] (pos 4))
a_member = (refl, refl)

-- connect o on l (5) : (n); n := n + 1; and it waits for the answer where there is none
pub a_connect : Comes_to (connects ∷ becomes (plus n (number 1)) ∷ []) (gives (Int (pos 8) ∷ []) (pos 0) ∷ []) (ended (Connect (Link 1) 0 (Int (pos 5) ∷ []) ∷ []) (pos 9))
a_connect = (refl, refl)

pub a_connect_that_waits : Comes_to (connects ∷ []) [] (waits (Connect (Link 1) 0 (Int (pos 5) ∷ []) ∷ []) (pos 0))
a_connect_that_waits = (refl, refl)

-- bind l to e; unbind l from e; the module's variables are others when the thread goes on
pub a_bind : Comes_to (trees.Bind (codes "l") (codes "e") ∷ trees.Unbind (codes "l") (codes "e") ∷ []) (gives [] (pos 3) ∷ gives [] (pos 4) ∷ []) (ended (Bind (Link 1) 0 ∷ Unbind (Link 1) 0 ∷ []) (pos 4))
a_bind = (refl, refl)

-- new l, l; the first name is stored last
pub a_new : Comes_to (trees.New (codes "l") (codes "l") ∷ trees.Destroy (codes "l") ∷ []) (gives (Link 8 ∷ Link 9 ∷ []) (pos 0) ∷ gives [] (pos 0) ∷ []) (ended (actions.New ∷ Destroy (Link 8) ∷ []) (pos 0))
a_new = (refl, refl)

-- stop; n := 1; whatever answers follow
pub a_stop : Comes_to (trees.Stop ∷ becomes (number 1) ∷ []) (gives [] (pos 0) ∷ []) (waits (Stop ∷ []) (pos 0))
a_stop = (refl, refl)

-- ---- exceptions, each once

-- try n := 1 / n; when DIVIDE do n := 3; end;
pub divided_by_zero : Comes_to (handled (becomes (over (number 1) n)) (codes "DIVIDE") 3 ∷ []) [] (ended [] (pos 3))
unfolding exception_of
divided_by_zero = (refl, refl)

pub reduced_by_zero : Comes_to (handled (becomes (modulo (number 1) n)) (codes "DIVIDE") 3 ∷ []) [] (ended [] (pos 3))
unfolding exception_of
reduced_by_zero = (refl, refl)

-- try n := 9223372036854775807 + 1; when OVERFLOW do n := 3; end;
pub too_large_a_sum : Comes_to (handled (becomes (plus (number 9223372036854775807) (number 1))) (codes "OVERFLOW") 3 ∷ []) [] (ended [] (pos 3))
unfolding exception_of
too_large_a_sum = (refl, refl)

-- n := - 9223372036854775807 - 1;
pub the_least_number : Comes_to (becomes (minus (trees.Minus (number 9223372036854775807)) (number 1)) ∷ []) [] (ended [] (negsuc 9223372036854775807))
the_least_number = (refl, refl)

-- and then try n := n / (- 1); when OVERFLOW do n := 3; end; and likewise with `mod` and with `-`
abbrev least : StmtTree
least = becomes (minus (trees.Minus (number 9223372036854775807)) (number 1))

pub the_least_number_divided : Comes_to (least ∷ handled (becomes (over n (trees.Bracket (trees.Minus (number 1))))) (codes "OVERFLOW") 3 ∷ []) [] (ended [] (pos 3))
unfolding exception_of
the_least_number_divided = (refl, refl)

pub the_least_number_reduced : Comes_to (least ∷ handled (becomes (modulo n (trees.Bracket (trees.Minus (number 1))))) (codes "OVERFLOW") 3 ∷ []) [] (ended [] (pos 3))
unfolding exception_of
the_least_number_reduced = (refl, refl)

pub the_least_number_negated : Comes_to (least ∷ handled (becomes (trees.Minus n)) (codes "OVERFLOW") 3 ∷ []) [] (ended [] (pos 3))
unfolding exception_of
the_least_number_negated = (refl, refl)

-- try n := r[2]; when RANGE do n := 3; end; try r[- 1] := 0; when RANGE do n := n + ..
pub behind_the_row : Comes_to (handled (becomes (member (number 2))) (codes "RANGE") 3 ∷ []) [] (ended [] (pos 3))
unfolding exception_of
behind_the_row = (refl, refl)

pub before_the_row : Comes_to (handled (trees.AssignMember (codes "r") (trees.Minus (number 1)) (number 0)) (codes "RANGE") 3 ∷ []) [] (ended [] (pos 3))
unfolding exception_of
before_the_row = (refl, refl)

-- exceptions that actions are given
pub no_link : Comes_to (handled (trees.Destroy (codes "l")) (codes "NOLINK") 3 ∷ []) (refuses exceptions.NoLink (pos 0) ∷ []) (ended (Destroy (Link 1) ∷ []) (pos 3))
unfolding exception_of
no_link = (refl, refl)

pub a_dead_link : Comes_to (handled connects (codes "DEADLINK") 3 ∷ []) (refuses exceptions.DeadLink (pos 0) ∷ []) (ended (Connect (Link 1) 0 (Int (pos 5) ∷ []) ∷ []) (pos 3))
unfolding exception_of
a_dead_link = (refl, refl)

pub a_busy_link : Comes_to (handled (trees.Bind (codes "l") (codes "e")) (codes "BUSYLINK") 3 ∷ []) (refuses exceptions.BusyLink (pos 0) ∷ []) (ended (Bind (Link 1) 0 ∷ []) (pos 3))
unfolding exception_of
a_busy_link = (refl, refl)

pub a_failed_request : Comes_to (handled connects (codes "FAILED") 3 ∷ []) (refuses exceptions.Failed (pos 0) ∷ []) (ended (Connect (Link 1) 0 (Int (pos 5) ∷ []) ∷ []) (pos 3))
unfolding exception_of
a_failed_request = (refl, refl)

pub links_full : Comes_to (handled (trees.New (codes "l") (codes "l")) (codes "LINKSFULL") 3 ∷ []) (refuses exceptions.LinksFull (pos 0) ∷ []) (ended (actions.New ∷ []) (pos 3))
unfolding exception_of
links_full = (refl, refl)

-- in the entry: reply (x); try reply (x); when REPLIED do y := 3; end;
pub replied_twice : Entry_comes_to (trees.Reply (exprs (trees.Name (codes "x") ∷ [])) ∷ trees.Try (stmts (trees.Reply (exprs (trees.Name (codes "x") ∷ [])) ∷ [])) (trees.more_handlers (codes "REPLIED") (stmts (trees.Assign (codes "y") (number 3) ∷ [])) trees.no_handlers) ∷ [])
    (gives [] (pos 0) ∷ refuses exceptions.Replied (pos 0) ∷ gives [] (pos 0) ∷ []) (entry_ended (Reply (Int (pos 7) ∷ []) ∷ Reply (Int (pos 7) ∷ []) ∷ Close ∷ []) (pos 3))
unfolding exception_of
replied_twice = (refl, refl)

-- raise BUSYLINK; n := 1; no handler is open, and the thread ends
pub no_handler : Comes_to (raises (codes "BUSYLINK") ∷ becomes (number 1) ∷ []) [] (ended [] (pos 0))
unfolding exception_of
no_handler = (refl, refl)

-- ---- nested tries

-- try try raise RANGE; when DIVIDE do n := 1; end; when RANGE do n := 2; end;
pub the_outer_try_catches : Comes_to (handled (handled (raises (codes "RANGE")) (codes "DIVIDE") 1) (codes "RANGE") 2 ∷ []) [] (ended [] (pos 2))
unfolding exception_of
the_outer_try_catches = (refl, refl)

-- try try raise RANGE; when RANGE do n := 1; end; when RANGE do n := 2; end;
pub the_inner_try_catches : Comes_to (handled (handled (raises (codes "RANGE")) (codes "RANGE") 1) (codes "RANGE") 2 ∷ []) [] (ended [] (pos 1))
unfolding exception_of
the_inner_try_catches = (refl, refl)

-- try try raise DIVIDE; when DIVIDE do raise RANGE; when RANGE do n := 1; end; when RANGE do n := 2; end;
pub a_handler_raises : Comes_to (handled (trees.Try (stmts (raises (codes "DIVIDE") ∷ [])) (trees.more_handlers (codes "DIVIDE") (stmts (raises (codes "RANGE") ∷ [])) (trees.more_handlers (codes "RANGE") (stmts (becomes (number 1) ∷ [])) trees.no_handlers))) (codes "RANGE") 2 ∷ [])
    [] (ended [] (pos 2))
unfolding exception_of
a_handler_raises = (refl, refl)

-- ---- the order of evaluation, by what is raised

-- try try n := 1 / 0 + r[2]; when DIVIDE do n := 1; end; when RANGE do n := 2; end;
abbrev which : StmtTree → StmtTree
which s = handled (handled s (codes "DIVIDE") 1) (codes "RANGE") 2

abbrev divides : ExprTree
divides = over (number 1) (number 0)

pub the_first_operand_first : Comes_to (which (becomes (plus divides (member (number 2)))) ∷ []) [] (ended [] (pos 1))
unfolding exception_of
the_first_operand_first = (refl, refl)

pub and_then_the_second : Comes_to (which (becomes (plus (member (number 2)) divides)) ∷ []) [] (ended [] (pos 2))
unfolding exception_of
and_then_the_second = (refl, refl)

-- r[1 / 0] := r[2]: the index is evaluated before the value
pub the_index_first : Comes_to (which (trees.AssignMember (codes "r") divides (member (number 2))) ∷ []) [] (ended [] (pos 1))
unfolding exception_of
the_index_first = (refl, refl)

-- r[2] := 1 / 0: the index is tested when the value is stored
pub the_index_is_tested_last : Comes_to (which (trees.AssignMember (codes "r") (number 2) divides) ∷ []) [] (ended [] (pos 1))
unfolding exception_of
the_index_is_tested_last = (refl, refl)

-- b := false and 1 / 0 < 1; n := 3;
pub an_and_that_is_decided : Comes_to (which (trees.Assign (codes "b") (trees.And (exprs (trees.False ∷ less divides (number 1) ∷ [])))) ∷ []) [] (ended [] (pos 0))
an_and_that_is_decided = (refl, refl)

pub an_and_that_is_open : Comes_to (which (trees.Assign (codes "b") (trees.And (exprs (trees.True ∷ less divides (number 1) ∷ [])))) ∷ []) [] (ended [] (pos 1))
unfolding exception_of
an_and_that_is_open = (refl, refl)

-- b := not (false or true or 1 / 0 < 1);
pub an_or_that_is_decided : Comes_to (which (trees.Assign (codes "b") (trees.Not (trees.Bracket (trees.Or (exprs (trees.False ∷ trees.True ∷ less divides (number 1) ∷ [])))))) ∷ []) [] (ended [] (pos 0))
an_or_that_is_decided = (refl, refl)

-- ---- loops

-- while n < 2 do n := n + 1; end;
pub a_while : Comes_to (trees.While (less n (number 2)) (stmts (becomes (plus n (number 1)) ∷ [])) ∷ []) [] (ended [] (pos 2))
a_while = (refl, refl)

-- a loop of more turns than the bound; the code is out behind as many instructions
pub too_many_turns :
    let m = the_module [] (trees.While (less n (number 9)) (stmts (becomes (plus n (number 1)) ∷ [])) ∷ []) in
    let given : Start = record { globals = with_n (pos 0); arguments = []; answers = [] } in
    (source (main_tree m) given 8 ≡ Out []) × (source (main_tree m) given 9 ≡ ended [] (pos 9)) × (target m (main_tree m) 0 given 60 ≡ Comes (Out []))
too_many_turns = (refl, refl, refl)

-- await n = 1; n := 5; with false at first, and then true
pub an_await : Comes_to (trees.Await (trees.Relation n signs.Equal (number 1)) ∷ becomes (number 5) ∷ []) (gives [] (pos 0) ∷ gives [] (pos 1) ∷ []) (ended (Await ∷ Await ∷ []) (pos 5))
an_await = (refl, refl)

pub an_await_that_waits : Comes_to (trees.Await (trees.Relation n signs.Equal (number 1)) ∷ []) [] (waits (Await ∷ []) (pos 0))
an_await_that_waits = (refl, refl)

-- ---- requests

abbrev accepts : List StmtTree → StmtTree
accepts body = trees.Accept (codes "o") (codes "l") (codes "n" ∷ []) (stmts body)

-- accept o on l (n) do reply (n + 1); end;
pub an_accept : Comes_to (accepts (trees.Reply (exprs (plus n (number 1) ∷ [])) ∷ []) ∷ []) (gives (Int (pos 8) ∷ []) (pos 0) ∷ gives [] (pos 8) ∷ gives [] (pos 8) ∷ []) (ended (Accept (Link 1) 0 ∷ Reply (Int (pos 9) ∷ []) ∷ Close ∷ []) (pos 8))
an_accept = (refl, refl)

-- an accept that is refused was never open
pub a_refused_accept : Comes_to (which (accepts []) ∷ []) (refuses exceptions.Range (pos 0) ∷ []) (ended (Accept (Link 1) 0 ∷ []) (pos 2))
unfolding exception_of
a_refused_accept = (refl, refl)

-- an accept in an accept, whose body raises DIVIDE: both are closed, and then the handler is met
pub a_body_that_raises : Comes_to (which (accepts (accepts (becomes divides ∷ []) ∷ [])) ∷ []) (gives (Int (pos 8) ∷ []) (pos 0) ∷ gives (Int (pos 8) ∷ []) (pos 0) ∷ gives [] (pos 0) ∷ gives [] (pos 0) ∷ [])
    (ended (Accept (Link 1) 0 ∷ Accept (Link 1) 0 ∷ Close ∷ Close ∷ []) (pos 1))
unfolding exception_of
a_body_that_raises = (refl, refl)

-- a close that raises RANGE, which takes the place of DIVIDE
pub a_close_that_raises : Comes_to (which (accepts (becomes divides ∷ [])) ∷ []) (gives (Int (pos 8) ∷ []) (pos 0) ∷ refuses exceptions.Range (pos 0) ∷ []) (ended (Accept (Link 1) 0 ∷ Close ∷ []) (pos 2))
unfolding exception_of
a_close_that_raises = (refl, refl)

-- a try in the body of an accept leaves the accept open
pub a_try_inside : Comes_to (accepts (which (becomes divides) ∷ []) ∷ []) (gives (Int (pos 8) ∷ []) (pos 0) ∷ gives [] (pos 1) ∷ []) (ended (Accept (Link 1) 0 ∷ Close ∷ []) (pos 1))
unfolding exception_of
a_try_inside = (refl, refl)

-- the entry: y := x + 1; and its request is closed at its end
pub an_entry : Entry_comes_to (trees.Assign (codes "y") (plus (trees.Name (codes "x")) (number 1)) ∷ []) (gives [] (pos 0) ∷ []) (entry_ended (Close ∷ []) (pos 8))
an_entry = (refl, refl)

-- also where it ends by an exception, and what the last close is given changes nothing
pub an_entry_that_raises : Entry_comes_to (raises (codes "FAILED") ∷ []) (refuses exceptions.DeadLink (pos 0) ∷ []) (entry_ended (Close ∷ []) (pos 0))
unfolding exception_of
an_entry_that_raises = (refl, refl)
