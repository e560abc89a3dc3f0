-- The code of expressions and statements. Each begins at an address, which jumps inside it need.
use Rattle.std.specs.Prelude.{ℕ, ◌+◌, List, [], ◌∷◌, ◌++◌, length, map, reverse, true, false, if◌then◌else◌, Option, Some, None}
use Rattle.lynx_lexer.specs.declared.sign.Sign.{Sign}
use Rattle.lynx_lexer.specs.declared.sign.Sign.TheVariants as signs
use Rattle.lynx_tree.specs.Trees.{ExprTree, ExprTrees, SumTail, TermTail, StmtTree, StmtTrees, HandlerTrees}
use Rattle.lynx_tree.specs.Trees as trees
use Rattle.lynx_tree.specs.declared.expression.TermSign.{TermSign}
use Rattle.lynx_tree.specs.declared.expression.TermSign.TheVariants as terms
use Rattle.typing_rules.specs.Exceptions.{exception_of}
use Rattle.typing_rules.specs.declared.exception.Exception.{Exception}
use Rattle.typing_rules.specs.declared.exception.Exception.TheVariants as exceptions
use Rattle.lynx_code.specs.declared.instruction.Instruction.{Instruction}
use Rattle.lynx_code.specs.declared.instruction.Instruction.TheVariants as code
use Rattle.lynx_code.specs.declared.instruction.Literal.TheVariants as literal

-- ---- where names stand

-- the place of a variable among those of the module, or among those of the entry
pub data Slot : Type 0 where
  Global : ℕ → Slot
  Local : ℕ → Slot

-- what the names in a part of a module stand for: variables, and the numbers of operations and entries
pub record Names : Type 0 where
  pub slot : List ℕ → Slot
  pub op : List ℕ → ℕ
  pub entry : List ℕ → ℕ

abbrev pub by_slot : (ℕ → Instruction) → (ℕ → Instruction) → Slot → Instruction
by_slot global local (Global place) = global place
by_slot global local (Local place) = local place

abbrev pub load : Names → List ℕ → Instruction
load names name = by_slot code.LoadG code.LoadL (names.slot name)

abbrev pub load_member : Names → List ℕ → Instruction
load_member names name = by_slot code.AtG code.AtL (names.slot name)

abbrev pub store : Names → List ℕ → Instruction
store names name = by_slot code.StoreG code.StoreL (names.slot name)

abbrev pub store_member : Names → List ℕ → Instruction
store_member names name = by_slot code.PutG code.PutL (names.slot name)

-- the last value on the stack is stored first
abbrev pub stores : Names → List (List ℕ) → List Instruction
stores names xs = map (store names) (reverse xs)

-- ---- expressions

abbrev pub relation : Sign → Instruction
relation signs.Equal = code.Eq
relation signs.NotEqual = code.Ne
relation signs.Less = code.Lt
relation signs.AtMost = code.Le
relation signs.Greater = code.Gt
relation _ = code.Ge

-- a sum has no other signs
abbrev pub sum_operator : Sign → Instruction
sum_operator signs.Plus = code.Add
sum_operator _ = code.Sub

abbrev pub term_operator : TermSign → Instruction
term_operator terms.Times = code.Mul
term_operator terms.Over = code.Div
term_operator terms.Mod = code.Mod

abbrev mutual
  -- the code of an expression that begins at this address
  pub expr_code : Names → ℕ → ExprTree → List Instruction
  expr_code names at (trees.Or members) = chain_code names code.OrJ at members
  expr_code names at (trees.And members) = chain_code names code.AndJ at members
  expr_code names at (trees.Relation first sign second) =
      let x = expr_code names at first in
      x ++ expr_code names (at + length x) second ++ relation sign ∷ []
  expr_code names at (trees.Sum first rest) =
      let x = expr_code names at first in
      x ++ sum_code names (at + length x) rest
  expr_code names at (trees.Term first rest) =
      let x = expr_code names at first in
      x ++ term_code names (at + length x) rest
  expr_code names at (trees.Minus inner) = expr_code names at inner ++ code.Neg ∷ []
  expr_code names at (trees.Not inner) = expr_code names at inner ++ code.Not ∷ []
  expr_code names at (trees.Number n) = code.Push (literal.Int n) ∷ []
  expr_code names at (trees.Text inside) = code.Push (literal.Text inside) ∷ []
  expr_code names at trees.True = code.Push (literal.Bool true) ∷ []
  expr_code names at trees.False = code.Push (literal.Bool false) ∷ []
  expr_code names at (trees.Name name) = load names name ∷ []
  expr_code names at (trees.Member name index) = expr_code names at index ++ load_member names name ∷ []
  expr_code names at (trees.Bracket inner) = expr_code names at inner

  -- the first member of a chain of `and` or of `or`, and those behind it
  pub chain_code : Names → (ℕ → Instruction) → ℕ → ExprTrees → List Instruction
  chain_code names jump at trees.no_exprs = []
  chain_code names jump at (trees.more_exprs e es) =
      let x = expr_code names at e in
      x ++ chain_rest names jump (at + length x) es

  -- what stands on the stack decides, or else the next member: the jump goes behind that
  pub chain_rest : Names → (ℕ → Instruction) → ℕ → ExprTrees → List Instruction
  chain_rest names jump at trees.no_exprs = []
  chain_rest names jump at (trees.more_exprs e es) =
      let x = expr_code names (at + 1) e in
      jump (at + 1 + length x) ∷ x ++ chain_rest names jump (at + 1 + length x) es

  pub sum_code : Names → ℕ → SumTail → List Instruction
  sum_code names at trees.no_sums = []
  sum_code names at (trees.more_sums sign e rest) =
      let x = expr_code names at e in
      x ++ sum_operator sign ∷ sum_code names (at + length x + 1) rest

  pub term_code : Names → ℕ → TermTail → List Instruction
  term_code names at trees.no_terms = []
  term_code names at (trees.more_terms sign e rest) =
      let x = expr_code names at e in
      x ++ term_operator sign ∷ term_code names (at + length x + 1) rest

-- values one after the other
abbrev pub exprs_code : Names → ℕ → ExprTrees → List Instruction
exprs_code names at trees.no_exprs = []
exprs_code names at (trees.more_exprs e es) =
    let x = expr_code names at e in
    x ++ exprs_code names (at + length x) es

abbrev pub how_many : ExprTrees → ℕ
how_many trees.no_exprs = 0
how_many (trees.more_exprs e es) = how_many es + 1

-- ---- statements

-- the exception of a name; in a module that obeys the rules each name that stands for one has one
abbrev pub exception_named : Option Exception → Exception
exception_named None = exceptions.Failed
exception_named (Some x) = x

abbrev mutual
  -- the code of a statement that begins at this address
  pub stmt_code : Names → ℕ → StmtTree → List Instruction
  stmt_code names at (trees.Assign name value) = expr_code names at value ++ store names name ∷ []
  stmt_code names at (trees.AssignMember name index value) =
      let i = expr_code names at index in
      i ++ expr_code names (at + length i) value ++ store_member names name ∷ []
  stmt_code names at (trees.If condition then_part) =
      let c = expr_code names at condition in
      let t = stmts_code names (at + length c + 1) then_part in
      c ++ code.JumpF (at + length c + 1 + length t) ∷ t
  stmt_code names at (trees.IfElse condition then_part else_part) =
      let c = expr_code names at condition in
      let t = stmts_code names (at + length c + 1) then_part in
      let behind = at + length c + 1 + length t + 1 in
      let o = stmts_code names behind else_part in
      c ++ code.JumpF behind ∷ t ++ code.Jump (behind + length o) ∷ o
  stmt_code names at (trees.While condition body) =
      let c = expr_code names at condition in
      let b = stmts_code names (at + length c + 1) body in
      c ++ code.JumpF (at + length c + 1 + length b + 1) ∷ b ++ code.Jump at ∷ []
  stmt_code names at (trees.Write value) = expr_code names at value ++ code.Write ∷ []
  stmt_code names at (trees.Await condition) = expr_code names at condition ++ code.Await at ∷ []
  stmt_code names at trees.Stop = code.Stop ∷ []
  stmt_code names at (trees.Raise name) = code.Raise (exception_named (exception_of name)) ∷ []
  stmt_code names at (trees.New first second) = code.New ∷ store names second ∷ store names first ∷ []
  stmt_code names at (trees.Destroy name) = load names name ∷ code.Destroy ∷ []
  stmt_code names at (trees.Bind link entry) = load names link ∷ code.Bind (names.entry entry) ∷ []
  stmt_code names at (trees.Unbind link entry) = load names link ∷ code.Unbind (names.entry entry) ∷ []
  stmt_code names at (trees.Connect op link values results) =
      exprs_code names at values ++ load names link ∷ code.Connect (names.op op) ∷ stores names results
  stmt_code names at (trees.Accept op link arguments body) =
      let s = stores names arguments in
      load names link ∷ code.Accept (names.op op) ∷ s ++ stmts_code names (at + 2 + length s) body ++ code.Close ∷ []
  stmt_code names at (trees.Reply values) = exprs_code names at values ++ code.Reply (how_many values) ∷ []
  stmt_code names at (trees.Try body handlers) =
      let b = stmts_code names (at + 1) body in
      let first = at + 1 + length b + 2 in
      let behind = first + length (handlers_code names 0 first handlers) + 1 in
      code.Try first ∷ b ++ code.Untry ∷ code.Jump behind ∷ handlers_code names behind first handlers ++ code.Again ∷ []

  pub stmts_code : Names → ℕ → StmtTrees → List Instruction
  stmts_code names at trees.no_stmts = []
  stmts_code names at (trees.more_stmts s ss) =
      let x = stmt_code names at s in
      x ++ stmts_code names (at + length x) ss

  -- handlers that begin at the second address, and go on behind the `try`, at the first
  pub handlers_code : Names → ℕ → ℕ → HandlerTrees → List Instruction
  handlers_code names behind at trees.no_handlers = []
  handlers_code names behind at (trees.more_handlers name body others) =
      let b = stmts_code names (at + 1) body in
      let next = at + 1 + length b + 1 in
      code.Case (exception_named (exception_of name)) next ∷ b ++ code.Jump behind ∷ handlers_code names behind next others
