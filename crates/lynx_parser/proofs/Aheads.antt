-- What comes next, by its shape.
use Rattle.std.proofs.Common.{◌≡◌, List, [], ◌∷◌, Option, Some, None, refl}
use Rattle.std.specs.Prelude.{slice_get, option_map}
use Rattle.lynx_lexer.specs.Lexemes.{shape_of}
use Rattle.lynx_lexer.specs.declared.lexeme.Shape.{Shape}
use Rattle.lynx_lexer.specs.declared.lexeme.Shape.TheVariants as shapes
use Rattle.lynx_lexer.specs.declared.token.Kind.{Kind}
use Rattle.lynx_lexer.specs.declared.token.Kind.TheVariants as kinds
use Rattle.lynx_descent.specs.declared.ahead.Ahead.{Ahead}
use Rattle.lynx_descent.specs.declared.ahead.Ahead.TheVariants as next
use Rattle.lynx_descent.specs.Reading.{ahead}

abbrev pub ahead_of : Option Shape → Ahead
ahead_of None = next.End
ahead_of (Some (shapes.Keyword k)) = next.Keyword k
ahead_of (Some (shapes.Sign s)) = next.Sign s
ahead_of (Some shapes.Name) = next.Name
ahead_of (Some shapes.Number) = next.Number
ahead_of (Some shapes.Text) = next.Text

pub ahead_told : (ts : List Kind) → ahead_of (option_map shape_of (slice_get ts 0)) ≡ ahead ts
ahead_told [] = refl
ahead_told (kinds.Keyword k ∷ ts) = refl
ahead_told (kinds.Sign s ∷ ts) = refl
ahead_told (kinds.Name n ∷ ts) = refl
ahead_told (kinds.Number n ∷ ts) = refl
ahead_told (kinds.Text inside ∷ ts) = refl
