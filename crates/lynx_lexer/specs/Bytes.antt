-- What each byte is.
use Rattle.std.specs.Prelude.{ℕ, Bool, ◌||◌, ◌==◌, if◌then◌else◌}
use Rattle.std.specs.Char.{is_ascii_alphabetic, is_ascii_digit}
use Rattle.lynx_lexer.specs.declared.class.Class.{Class}
use Rattle.lynx_lexer.specs.declared.class.Class.TheVariants.{Blank, Letter, Digit, Underscore, Quote, Other}

-- a blank, a tab, a line feed or a carriage return
abbrev pub is_blank : ℕ → Bool
is_blank b = b == 32 || b == 9 || b == 10 || b == 13

-- what can begin with the byte: a blank, a word, a number, nothing, a text; with others a sign, a comment or nothing
unfoldable pub class_of : ℕ → Class
class_of b =
    if is_blank b then Blank
    else (if is_ascii_alphabetic b then Letter
    else (if is_ascii_digit b then Digit
    else (if b == 95 then Underscore
    else (if b == 39 then Quote
    else Other))))

-- the most bytes of a name
abbrev pub most_name : ℕ
most_name = 32
