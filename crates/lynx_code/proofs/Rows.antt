-- The code of small modules.
use Rattle.std.specs.Prelude.{◌≡◌, ℕ, pos, List, [], ◌∷◌, ◌++◌, true, false, refl, codes}
use Rattle.std.specs.Fmt.{digits}
use Rattle.lynx_lexer.specs.declared.sign.Sign.TheVariants as signs
use Rattle.lynx_tree.specs.declared.expression.TermSign.TheVariants as terms
use Rattle.lynx_tree.specs.declared.declaration.TypeName.{TypeName}
use Rattle.lynx_tree.specs.declared.declaration.TypeName.TheVariants.{Int, Bool, Link, Row}
use Rattle.lynx_tree.specs.Trees as trees
use Rattle.lynx_tree.specs.Trees.{ExprTree, ExprTrees, StmtTree, StmtTrees, HandlerTrees, OpTree, VarTree, EntryTree, ModuleTree}
use Rattle.typing_rules.specs.Exceptions.{exception_of}
use Rattle.typing_rules.specs.declared.exception.Exception.TheVariants as exceptions
use Rattle.lynx_code.specs.Modules.{module_code}
use Rattle.lynx_code.specs.Listing.{line_end, module_listing}
use Rattle.lynx_code.specs.declared.instruction.Instruction.TheVariants as code
use Rattle.lynx_code.specs.declared.instruction.Literal.TheVariants as literal

-- ---- trees

abbrev pub exprs : List ExprTree → ExprTrees
exprs [] = trees.no_exprs
exprs (e ∷ es) = trees.more_exprs e (exprs es)

abbrev pub stmts : List StmtTree → StmtTrees
stmts [] = trees.no_stmts
stmts (s ∷ ss) = trees.more_stmts s (stmts ss)

abbrev pub op : List ℕ → List TypeName → List TypeName → OpTree
op name arguments results = record { name = name; arguments = arguments; results = results }

abbrev pub var : List ℕ → TypeName → VarTree
var name kind = record { name = name; kind = kind }

abbrev pub entry : List ℕ → List ℕ → List (List ℕ) → List VarTree → List StmtTree → EntryTree
entry name op parameters vars body = record { name = name; op = op; parameters = parameters; vars = vars; body = stmts body }

abbrev pub module_of : List OpTree → List VarTree → List VarTree → List EntryTree → List StmtTree → ModuleTree
module_of ops params vars entries body = record { name = codes "m"; ops = ops; params = params; vars = vars; entries = entries; body = stmts body }

-- a module with `var n : int;`
abbrev pub with_n : List StmtTree → ModuleTree
with_n body = module_of [] [] (var (codes "n") Int ∷ []) [] body

abbrev pub n : ExprTree
n = trees.Name (codes "n")

abbrev pub number : ℕ → ExprTree
number k = trees.Number (pos k)

abbrev pub plus : ExprTree → ExprTree → ExprTree
plus a b = trees.Sum a (trees.more_sums signs.Plus b trees.no_sums)

abbrev pub minus : ExprTree → ExprTree → ExprTree
minus a b = trees.Sum a (trees.more_sums signs.Minus b trees.no_sums)

abbrev pub over : ExprTree → ExprTree → ExprTree
over a b = trees.Term a (trees.more_terms terms.Over b trees.no_terms)

-- lines, each with its end
abbrev pub lines : List (List ℕ) → List ℕ
lines [] = []
lines (l ∷ ls) = (l ++ line_end) ++ lines ls

-- ---- listings

-- begin n := 7 - 2; write n; end.
pub code_of_a_difference : module_listing (with_n (trees.Assign (codes "n") (minus (number 7) (number 2)) ∷ trees.Write n ∷ [])) ≡ lines (
    codes "code m" ∷ codes "part main" ∷ codes "0 push 7" ∷ codes "1 push 2" ∷ codes "2 sub" ∷ codes "3 storeg 0" ∷ codes "4 loadg 0" ∷ codes "5 write" ∷ codes "6 end" ∷ [])
unfolding digits
code_of_a_difference = refl

-- begin while n < 2 do n := n + 1; end; end.
pub code_of_a_loop : module_listing (with_n (trees.While (trees.Relation n signs.Less (number 2)) (stmts (trees.Assign (codes "n") (plus n (number 1)) ∷ [])) ∷ [])) ≡ lines (
    codes "code m" ∷ codes "part main" ∷ codes "0 loadg 0" ∷ codes "1 push 2" ∷ codes "2 lt" ∷ codes "3 jumpf 9" ∷ codes "4 loadg 0" ∷ codes "5 push 1" ∷ codes "6 add" ∷ codes "7 storeg 0" ∷ codes "8 jump 0" ∷ codes "9 end" ∷ [])
unfolding digits
code_of_a_loop = refl

-- begin try n := 1 / n; when DIVIDE do n := 3; end; write n; end.
pub code_of_a_try : module_listing (with_n (trees.Try (stmts (trees.Assign (codes "n") (over (number 1) n) ∷ [])) (trees.more_handlers (codes "DIVIDE") (stmts (trees.Assign (codes "n") (number 3) ∷ [])) trees.no_handlers) ∷ trees.Write n ∷ [])) ≡ lines (
    codes "code m" ∷ codes "part main" ∷ codes "0 try 7" ∷ codes "1 push 1" ∷ codes "2 loadg 0" ∷ codes "3 div" ∷ codes "4 storeg 0" ∷ codes "5 untry" ∷ codes "6 jump 12" ∷ codes "7 case DIVIDE 11" ∷ codes "8 push 3" ∷ codes "9 storeg 0" ∷ codes "10 jump 12" ∷ codes "11 again" ∷ codes "12 loadg 0"
    ∷ codes "13 write" ∷ codes "14 end" ∷ [])
unfolding digits exception_of
code_of_a_try = refl

-- begin write 'it'; write - 5; write not false; end.
pub code_of_literals : module_listing (with_n (trees.Write (trees.Text (codes "it")) ∷ trees.Write (trees.Minus (number 5)) ∷ trees.Write (trees.Not trees.False) ∷ [])) ≡ lines (
    codes "code m" ∷ codes "part main" ∷ codes "0 push 'it'" ∷ codes "1 write" ∷ codes "2 push 5" ∷ codes "3 neg" ∷ codes "4 write" ∷ codes "5 push false" ∷ codes "6 not" ∷ codes "7 write" ∷ codes "8 end" ∷ [])
unfolding digits
code_of_literals = refl

-- op add (int, int) : (int); param l : link; var r : row 2; var n : int;
-- entry main of add (x, n) var b : bool; begin reply (x + n); end;
-- begin bind l to main; connect add on l (1, r[n]) : (n); end.
pub code_of_an_entry : module_listing (module_of (op (codes "add") (Int ∷ Int ∷ []) (Int ∷ []) ∷ []) (var (codes "l") Link ∷ []) (var (codes "r") (Row (pos 2)) ∷ var (codes "n") Int ∷ [])
    (entry (codes "main") (codes "add") (codes "x" ∷ codes "n" ∷ []) (var (codes "b") Bool ∷ []) (trees.Reply (exprs (plus (trees.Name (codes "x")) n ∷ [])) ∷ []) ∷ [])
    (trees.Bind (codes "l") (codes "main") ∷ trees.Connect (codes "add") (codes "l") (exprs (number 1 ∷ trees.Member (codes "r") n ∷ [])) (codes "n" ∷ []) ∷ [])) ≡ lines (
    codes "code m" ∷ codes "part main" ∷ codes "0 loadg 0" ∷ codes "1 bind 0" ∷ codes "2 push 1" ∷ codes "3 loadg 2" ∷ codes "4 atg 1" ∷ codes "5 loadg 0" ∷ codes "6 connect 0" ∷ codes "7 storeg 2" ∷ codes "8 end"
    ∷ codes "part main" ∷ codes "9 loadl 0" ∷ codes "10 loadl 1" ∷ codes "11 add" ∷ codes "12 reply 1" ∷ codes "13 end" ∷ [])
unfolding digits
code_of_an_entry = refl

-- ---- instructions

-- op o (int, link) : (int, bool); op p () : (); param l : link; var n : int; var b : bool; begin connect o on l (n, l) : (n, b); end.
pub a_connect : module_code (module_of (op (codes "p") [] [] ∷ op (codes "o") (Int ∷ Link ∷ []) (Int ∷ Bool ∷ []) ∷ []) (var (codes "l") Link ∷ []) (var (codes "n") Int ∷ var (codes "b") Bool ∷ []) []
    (trees.Connect (codes "o") (codes "l") (exprs (n ∷ trees.Name (codes "l") ∷ [])) (codes "n" ∷ codes "b" ∷ []) ∷ []))
    ≡ code.LoadG 1 ∷ code.LoadG 0 ∷ code.LoadG 0 ∷ code.Connect 1 ∷ code.StoreG 2 ∷ code.StoreG 1 ∷ code.End ∷ []
a_connect = refl

-- op o (int, bool) : (); param l : link; var n : int; var b : bool; begin accept o on l (n, b) do write n; end; new l, l; destroy l; end.
pub an_accept : module_code (module_of (op (codes "o") (Int ∷ Bool ∷ []) [] ∷ []) (var (codes "l") Link ∷ []) (var (codes "n") Int ∷ var (codes "b") Bool ∷ []) []
    (trees.Accept (codes "o") (codes "l") (codes "n" ∷ codes "b" ∷ []) (stmts (trees.Write n ∷ [])) ∷ trees.New (codes "n") (codes "b") ∷ trees.Destroy (codes "l") ∷ []))
    ≡ code.LoadG 0 ∷ code.Accept 0 ∷ code.StoreG 2 ∷ code.StoreG 1 ∷ code.LoadG 1 ∷ code.Write ∷ code.Close ∷ code.New ∷ code.StoreG 2 ∷ code.StoreG 1 ∷ code.LoadG 0 ∷ code.Destroy ∷ code.End ∷ []
an_accept = refl

-- begin try raise RANGE; when DIVIDE do stop; when RANGE do n := 1; end; write n; end.
pub two_handlers : module_code (with_n (trees.Try (stmts (trees.Raise (codes "RANGE") ∷ [])) (trees.more_handlers (codes "DIVIDE") (stmts (trees.Stop ∷ [])) (trees.more_handlers (codes "RANGE") (stmts (trees.Assign (codes "n") (number 1) ∷ [])) trees.no_handlers)) ∷ trees.Write n ∷ []))
    ≡ code.Try 4 ∷ code.Raise exceptions.Range ∷ code.Untry ∷ code.Jump 12
    ∷ code.Case exceptions.Divide 7 ∷ code.Stop ∷ code.Jump 12
    ∷ code.Case exceptions.Range 11 ∷ code.Push (literal.Int (pos 1)) ∷ code.StoreG 0 ∷ code.Jump 12
    ∷ code.Again ∷ code.LoadG 0 ∷ code.Write ∷ code.End ∷ []
unfolding exception_of
two_handlers = refl

-- begin write true and n < 1 and false; end.
pub a_chain_of_three : module_code (with_n (trees.Write (trees.And (exprs (trees.True ∷ trees.Relation n signs.Less (number 1) ∷ trees.False ∷ []))) ∷ []))
    ≡ code.Push (literal.Bool true) ∷ code.AndJ 5 ∷ code.LoadG 0 ∷ code.Push (literal.Int (pos 1)) ∷ code.Lt ∷ code.AndJ 7 ∷ code.Push (literal.Bool false) ∷ code.Write ∷ code.End ∷ []
a_chain_of_three = refl

-- begin if n = 1 then stop; else n := 2; end; if n > 1 then await n >= 2; end; end.
pub choices : module_code (with_n (trees.IfElse (trees.Relation n signs.Equal (number 1)) (stmts (trees.Stop ∷ [])) (stmts (trees.Assign (codes "n") (number 2) ∷ [])) ∷ trees.If (trees.Relation n signs.Greater (number 1)) (stmts (trees.Await (trees.Relation n signs.AtLeast (number 2)) ∷ [])) ∷ []))
    ≡ code.LoadG 0 ∷ code.Push (literal.Int (pos 1)) ∷ code.Eq ∷ code.JumpF 6 ∷ code.Stop ∷ code.Jump 8
    ∷ code.Push (literal.Int (pos 2)) ∷ code.StoreG 0
    ∷ code.LoadG 0 ∷ code.Push (literal.Int (pos 1)) ∷ code.Gt ∷ code.JumpF 16 ∷ code.LoadG 0 ∷ code.Push (literal.Int (pos 2)) ∷ code.Ge ∷ code.Await 12 ∷ code.End ∷ []
choices = refl
