-- Names are texts.
use Rattle.std.proofs.Common.{◌≡◌, ◌&&◌, ◌<◌, ◌≤◌, ℕ, List, [], ◌∷◌, true, false, nat_le, arith, rules}
use Rattle.std.specs.List.{list_all}
use Rattle.std.specs.Str.{IsAscii, IsUtf8}
use Rattle.std.proofs.lemmas.Bool.{and_parts, leb-true}
use Rattle.std.proofs.lemmas.Str.{IsUtf8-from_ascii}
use Rattle.std.proofs.lemmas.Str.Ascii.{IsAscii-nil, IsAscii-cons}
use Rattle.plan_text.specs.Forms.{is_name}

printed_ascii : (bs : List ℕ) → list_all (λ x. nat_le 33 x && nat_le x 126) bs ≡ true → IsAscii bs
printed_ascii [] e = IsAscii-nil
printed_ascii (b ∷ bs) e =
    let parts = and_parts _ _ e in
    let small : b ≤ 126 = leb-true b 126 ((and_parts _ _ parts.0).1) in
    IsAscii-cons b bs (omega arith) (printed_ascii bs parts.1)

pub name_is_text : (bs : List ℕ) → is_name bs ≡ true → IsUtf8 bs
name_is_text [] e = absurd cc
name_is_text (b ∷ bs) e = IsUtf8-from_ascii (b ∷ bs) (printed_ascii (b ∷ bs) e)
