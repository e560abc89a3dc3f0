-- The shapes of a small code.
use Rattle.std.proofs.Common.{List, [], ◌∷◌, true, refl, slice_get, arith, rules, None}
use Rattle.typing_rules.specs.declared.exception.Exception.TheVariants as exceptions
use Rattle.lynx_code.specs.declared.instruction.Instruction.{Instruction}
use Rattle.lynx_code.specs.declared.instruction.Instruction.TheVariants as code
use Rattle.code_shapes.specs.Shapes.{Shape, Shapes, IsWithin, AllObey, part_shape}

-- try raise DIVIDE; when DIVIDE do end; end
abbrev trying : List Instruction
trying =
    code.Try 4 ∷ code.Raise exceptions.Divide ∷ code.Untry ∷ code.Jump 7 ∷ code.Case exceptions.Divide 6 ∷ code.Jump 7 ∷ code.Again ∷ code.End ∷ []

abbrev outside : Shape
outside = part_shape (record { start = 0; op = None; locals = [] })

-- where the try is open
abbrev inside : Shape
inside = record outside { tries = record { handlers = 4; height = 0; depth = 0 } ∷ [] }

-- among its handlers
abbrev raised : Shape
raised = record outside { pending = true }

abbrev table : Shapes
table at = slice_get (outside ∷ inside ∷ inside ∷ outside ∷ raised ∷ raised ∷ raised ∷ outside ∷ []) at

same : (s : Shape) → IsWithin s s
same s = record { locals = refl; stack = refl; tries = refl; requests = refl; pending = λ h. h }

handled : IsWithin raised outside
handled = record { locals = refl; stack = refl; tries = refl; requests = refl; pending = λ h. refl }

pub it_is_shaped : AllObey (record { globals = []; ops = []; entries = 0 }) table 0 trying
it_is_shaped = (
  (outside, refl, (inside, refl, same inside)),
  (
    (inside, refl, (search arith, (raised, refl, same raised))),
    (
      (inside, refl, (outside, refl, same outside)),
      (
        (outside, refl, (outside, refl, same outside)),
        (
          (raised, refl, (search rules, (raised, refl, same raised), (raised, refl, same raised))),
          (
            (raised, refl, (outside, refl, handled)),
            (
              (raised, refl, (search rules, tt)),
              (
                (outside, refl, tt),
                tt,
              ),
            ),
          ),
        ),
      ),
    ),
  ),
)
