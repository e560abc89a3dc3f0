-- One step of the name of a signature.
use Rattle.std.proofs.Common.{◌≡◌, ℕ, suc, ◌-◌, ◌+◌, ◌≤◌, ◌<◌, Bool, true, false, List, [], ◌∷◌, ◌++◌, length, get_or, take, drop, Ok, Err, refl, sym, ap, ◌∙◌, arith}
use Rattle.std.specs.Prelude.{◌&&◌}
use Rattle.std.proofs.lemmas.List.{take_more, drop_more, drop_all, length-take, length-drop}
use Rattle.lynx_packets.specs.Spots.{begins_name, opens, is_name_at, names, name_at}

length_front : (bytes : List ℕ) (at : ℕ) → at < length bytes → length (take at bytes) ≡ at
length_front bytes at lt = omega (arith, lt, length-take at bytes)

names_is : (bytes : List ℕ) (size at : ℕ) → at < length bytes → names (take at bytes) (size - at) (get_or bytes at 0) ≡ (is_name_at at (get_or bytes at 0) && begins_name (take (at + 1) bytes) (size - at - 1))
names_is bytes size at lt =
    ap (λ (n : ℕ). is_name_at n (get_or bytes at 0) && begins_name (take at bytes ++ get_or bytes at 0 ∷ []) (size - at - 1)) (length_front bytes at lt)
    ∙ ap (λ (w : List ℕ). is_name_at at (get_or bytes at 0) && begins_name w (size - at - 1)) (sym (take_more bytes at 0 lt))

pub name_found : (bytes : List ℕ) (size at : ℕ) → at < length bytes → opens (take at bytes) (size - at) (get_or bytes at 0) ≡ true → name_at (take at bytes) (size - at) (drop at bytes) ≡ Ok (take at bytes, drop (at + 1) bytes)
unfolding name_at
name_found bytes size at lt opening = ap (name_at (take at bytes) (size - at)) (drop_more bytes at 0 lt) ∙ rw opening refl

pub name_wrong : (bytes : List ℕ) (size at : ℕ) → at < length bytes → opens (take at bytes) (size - at) (get_or bytes at 0) ≡ false → (is_name_at at (get_or bytes at 0) && begins_name (take (at + 1) bytes) (size - at - 1)) ≡ false → name_at (take at bytes) (size - at) (drop at bytes) ≡ Err (length bytes - at)
unfolding name_at
name_wrong bytes size at lt closed other =
    let no : names (take at bytes) (size - at) (get_or bytes at 0) ≡ false = names_is bytes size at lt ∙ other in
    let left : suc (length (drop (at + 1) bytes)) ≡ length bytes - at = omega (arith, lt, length-drop (at + 1) bytes) in
    ap (name_at (take at bytes) (size - at)) (drop_more bytes at 0 lt) ∙ rw (closed, no) (ap (λ (n : ℕ). Err n) left)

pub name_goes : (bytes : List ℕ) (size at : ℕ) → at < length bytes → opens (take at bytes) (size - at) (get_or bytes at 0) ≡ false → (is_name_at at (get_or bytes at 0) && begins_name (take (at + 1) bytes) (size - at - 1)) ≡ true → name_at (take (at + 1) bytes) (size - (at + 1)) (drop (at + 1) bytes) ≡ name_at (take at bytes) (size - at) (drop at bytes)
unfolding name_at
name_goes bytes size at lt closed one =
    let yes : names (take at bytes) (size - at) (get_or bytes at 0) ≡ true = names_is bytes size at lt ∙ one in
    let left : size - at - 1 ≡ size - (at + 1) = omega arith in
    sym (ap (name_at (take at bytes) (size - at)) (drop_more bytes at 0 lt) ∙ rw (closed, yes, left, take_more bytes at 0 lt) refl)

pub name_ends : (bytes : List ℕ) (size at : ℕ) → length bytes ≤ at → name_at (take at bytes) (size - at) (drop at bytes) ≡ Err 0
unfolding name_at
name_ends bytes size at le = ap (name_at (take at bytes) (size - at)) (drop_all at bytes le)

pub room_is : (name : List ℕ) (left : ℕ) → begins_name name left ≡ true → 5 ≤ left
room_is name left e = grind (arith, e)

pub left_false : (a b : Bool) → a ≡ false → (a && b) ≡ false
left_false true b e = absurd cc
left_false false b e = refl

pub right_false : (a b : Bool) → b ≡ false → (a && b) ≡ false
right_false true b e = e
right_false false b e = refl
