-- How many packets the threads put.
use Rattle.std.proofs.Common.{◌≡◌, ℕ, zero, suc, ◌+◌, List, [], ◌∷◌, ◌++◌, length, ap, ◌∙◌, sym, refl, arith, length-append}
use Rattle.kernel_net.specs.declared.letter.Letter.{Letter}
use Rattle.charlotte_tests.specs.Numbered.{numbered, numbered_below}

length-numbered : (n : ℕ) → length (numbered_below n) ≡ n
length-numbered zero = refl
length-numbered (suc n) = omega (arith, length-append (numbered_below n) (numbered n ∷ []), length-numbered n)

-- what was got and what is there are as many as were put
pub crossed : (got there : List Letter) (put : ℕ) → got ++ there ≡ numbered_below put → length got + length there ≡ put
crossed got there put is = sym (length-append got there) ∙ ap length is ∙ length-numbered put
