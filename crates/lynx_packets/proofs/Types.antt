-- One step of the types of a signature.
use Rattle.std.proofs.Common.{◌≡◌, ℕ, suc, ◌-◌, true, false, List, [], ◌∷◌, ◌++◌, length, Option, Some, None, Result, Ok, Err, refl, sym, ap, ◌∙◌}
use Rattle.std.proofs.lemmas.List.{append-nil}
use Rattle.lynx_tree.specs.declared.declaration.TypeName.{TypeName}
use Rattle.lynx_packets.specs.declared.fault.Unread.{Unread}
use Rattle.lynx_packets.specs.declared.fault.Unread.TheVariants as unread
use Rattle.lynx_packets.specs.declared.spot.Spot.{Spot}
use Rattle.lynx_packets.specs.declared.spot.Spot.TheVariants as spots
use Rattle.lynx_packets.specs.Reading.{Fails, first_at}
use Rattle.lynx_packets.specs.Spots.{next_spot, onward, type_told, link_told, with_told, listed, is_done, types_at}
use Rattle.lynx_packets.proofs.Loop.{with_front, goes_on}

pub types_done : (links left : ℕ) (spot : Spot) (bytes : List ℕ) → is_done spot ≡ true → types_at links left spot bytes ≡ Ok ([], bytes)
unfolding types_at
types_done links left spots.Done bytes e = refl
types_done links left _ bytes e = absurd cc

pub types_fail : (e : Unread) (links left : ℕ) (spot : Spot) (bytes : List ℕ) → is_done spot ≡ false → Fails e (first_at bytes) → Fails e (types_at links left spot bytes)
unfolding types_at
types_fail unread.Memory links left spot bytes going fails = tt
types_fail (unread.Wrong n) links left spots.Done bytes going fails = absurd cc
types_fail (unread.Wrong n) links left spot (b ∷ bs) going fails = absurd cc
types_fail (unread.Wrong n) links left _ [] going fails = cc

-- what is read behind a byte
abbrev behind_byte : ℕ → ℕ → Spot → ℕ → List ℕ → Spot → Result (List TypeName × List ℕ) ℕ
behind_byte links left spot b bs next = with_told (type_told spot b) (types_at (links - link_told (type_told spot b)) (left - 1) next bs)

pub types_more : (links left : ℕ) (spot : Spot) (b : ℕ) (bs : List ℕ) → is_done spot ≡ false → types_at links left spot (b ∷ bs) ≡ onward (next_spot links left spot b) (suc (length bs)) (behind_byte links left spot b bs)
unfolding types_at
types_more links left spots.Done b bs going = absurd cc
types_more links left _ b bs going = refl

abbrev done : ℕ × List ℕ → Result (ℕ × List ℕ) ℕ
done x = Ok x

ok_is : (x y : ℕ × List ℕ) → done x ≡ done y → x ≡ y
ok_is x y e = cc

pub types_stop : (links left : ℕ) (spot : Spot) (bytes : List ℕ) (b : ℕ) (after : List ℕ) → is_done spot ≡ false → first_at bytes ≡ Ok (b, after) → next_spot links left spot b ≡ None → types_at links left spot bytes ≡ Err (length bytes)
types_stop links left spot [] b after going read none = absurd cc
types_stop links left spot (c ∷ cs) b after going read none =
    let same : c ≡ b = ap (λ (x : ℕ × List ℕ). x.0) (ok_is (c, cs) (b, after) read) in
    types_more links left spot c cs going ∙ ap (λ (o : Option Spot). onward o (suc (length cs)) (behind_byte links left spot c cs)) (ap (next_spot links left spot) same ∙ none)

pub types_next : (links left : ℕ) (spot : Spot) (bytes : List ℕ) (b : ℕ) (after : List ℕ) (next : Spot) → is_done spot ≡ false → first_at bytes ≡ Ok (b, after) → next_spot links left spot b ≡ Some next → types_at links left spot bytes ≡ behind_byte links left spot b after next
types_next links left spot [] b after next going read some = absurd cc
types_next links left spot (c ∷ cs) b after next going read some =
    let e = ok_is (c, cs) (b, after) read in
    let is : types_at links left spot (b ∷ after) ≡ behind_byte links left spot b after next = types_more links left spot b after going ∙ ap (λ (o : Option Spot). onward o (suc (length after)) (behind_byte links left spot b after)) some in
    ap (λ (x : ℕ × List ℕ). types_at links left spot (x.0 ∷ x.1)) e ∙ is

pub goes_told : (front : List TypeName) (o : Option TypeName) (now later total : Result (List TypeName × List ℕ) ℕ) → now ≡ with_told o later → with_front front now ≡ total → with_front (front ++ listed o) later ≡ total
goes_told front None now later total is so_far = ap (λ (f : List TypeName). with_front f later) (append-nil front) ∙ ap (with_front front) (sym is) ∙ so_far
goes_told front (Some t) now later total is so_far = goes_on front t now later total is so_far
