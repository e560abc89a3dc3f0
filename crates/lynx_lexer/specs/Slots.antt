-- Where keywords are looked up. Private clauses alone cite it.
use Rattle.std.specs.Prelude.{ℕ, ◌+◌, ◌*◌, ◌%◌, ◌==◌, if◌then◌else◌, Option, Some, None, List, length, slice_index}
use Rattle.lynx_lexer.specs.declared.keyword.Keyword.{Keyword}
use Rattle.lynx_lexer.specs.declared.keyword.Keyword.TheVariants as keywords

-- a perfect hash: no two keywords have one slot
abbrev pub slot_of : List ℕ → ℕ
slot_of word = (slice_index word 0 + 6 * slice_index word 1 + 4 * length word) % 128

-- the keyword whose spelling has the slot
unfoldable pub keyword_at : ℕ → Option Keyword
keyword_at n =
    if n == 1 then Some keywords.And else (
    if n == 5 then Some keywords.End else (
    if n == 6 then Some keywords.Do else (
    if n == 9 then Some keywords.Int else (
    if n == 11 then Some keywords.On else (
    if n == 12 then Some keywords.Bool else (
    if n == 13 then Some keywords.Entry else (
    if n == 19 then Some keywords.Mod else (
    if n == 20 then Some keywords.Not else (
    if n == 22 then Some keywords.To else (
    if n == 23 then Some keywords.Op else (
    if n == 24 then Some keywords.Row else (
    if n == 25 then Some keywords.Connect else (
    if n == 31 then Some keywords.Module else (
    if n == 33 then Some keywords.Unbind else (
    if n == 34 then Some keywords.From else (
    if n == 35 then Some keywords.Or else (
    if n == 44 then Some keywords.Try else (
    if n == 48 then Some keywords.True else (
    if n == 55 then Some keywords.Write else (
    if n == 59 then Some keywords.Stop else (
    if n == 63 then Some keywords.Await else (
    if n == 64 then Some keywords.False else (
    if n == 72 then Some keywords.Var else (
    if n == 74 then Some keywords.Param else (
    if n == 75 then Some keywords.Accept else (
    if n == 76 then Some keywords.Raise else (
    if n == 84 then Some keywords.Begin else (
    if n == 85 then Some keywords.If else (
    if n == 88 then Some keywords.New else (
    if n == 91 then Some keywords.Of else (
    if n == 94 then Some keywords.Destroy else (
    if n == 98 then Some keywords.Text else (
    if n == 100 then Some keywords.Reply else (
    if n == 104 then Some keywords.Bind else (
    if n == 114 then Some keywords.Link else (
    if n == 116 then Some keywords.Then else (
    if n == 119 then Some keywords.When else (
    if n == 123 then Some keywords.While else (
    if n == 125 then Some keywords.Else else (
    None))))))))))))))))))))))))))))))))))))))))
