-- The links of wires, one more at a time.
use Rattle.std.proofs.Common.{◌≡◌, ◌<◌, ◌≤◌, ◌+◌, ◌==◌, ℕ, List, [], ◌∷◌, ◌++◌, Bool, true, false, if◌then◌else◌, length, take, set, get_or, sym, ap, ◌∙◌, arith, rules, append_assoc}
use Rattle.std.specs.Prelude.{slice_index}
use Rattle.std.proofs.lemmas.Bool.Decides.{nat_tests}
use Rattle.std.proofs.lemmas.Grind.{get_or-set_at}
use Rattle.std.proofs.lemmas.List.{get_or-set_other, length-take-le, take_more}
use Rattle.std.proofs.lemmas.List.{append-nil}
use Rattle.std.proofs.lemmas.List.Elements.{All-get_or}
use Rattle.std.proofs.lemmas.List.Sums.{sum_by-append, sum_by-cons}
use Rattle.charlotte_calls.specs.declared.setting.Setting.{Setting}
use Rattle.charlotte_calls.specs.Setting.{IsValid}
use Rattle.charlotte_calls.specs.declared.names.EndId.{EndId}
use Rattle.charlotte_calls.specs.declared.names.Side.TheVariants.{A}
use Rattle.lynx_load.specs.declared.ends.WiredLink.{WiredLink}
use Rattle.lynx_load.specs.Ends.{Wire, ends_from, ends_of, links_behind, made_for, maker, wired_behind}

-- one link more is that of the wire behind all before it
pub links_more : (s : Setting) (before ws : List Wire) (w : Wire) → links_behind s before (ws ++ w ∷ []) ≡ links_behind s before ws ++ wired_behind s (before ++ ws) w ∷ []
links_more s before [] w = ap (λ b. wired_behind s b w ∷ []) (sym (append-nil before))
links_more s before (v ∷ ws) w =
    ap (λ ls. wired_behind s before v ∷ ls) (links_more s (before ++ v ∷ []) ws w ∙ ap (λ b. links_behind s (before ++ v ∷ []) ws ++ wired_behind s b w ∷ []) (append_assoc before (v ∷ []) ws))

-- so many links are made for one wire more
pub made_more : (s : Setting) (k : ℕ) (ws : List Wire) (w : Wire) → made_for s k (ws ++ w ∷ []) ≡ made_for s k ws + (if maker s w == k then 1 else 0)
made_more s k ws w = sum_by-append (λ v. if maker s v == k then 1 else 0) ws (w ∷ []) ∙ search rules

one_at_most : (b : Bool) → (if b then 1 else 0) ≤ 1
one_at_most true = omega arith
one_at_most false = omega arith

-- a kernel makes at most one link a wire
pub made_few : (s : Setting) (k : ℕ) (ws : List Wire) → made_for s k ws ≤ length ws
made_few s k [] = omega arith
made_few s k (w ∷ ws) =
    let next : made_for s k (w ∷ ws) ≡ (if maker s w == k then 1 else 0) + made_for s k ws = sum_by-cons (λ v. if maker s v == k then 1 else 0) w ws in
    let one : (if maker s w == k then 1 else 0) ≤ 1 = one_at_most (maker s w == k) in
    omega (arith, next, made_few s k ws, one)

-- each kernel's count is that of its links for these wires
abbrev pub AreMade : Setting → List ℕ → List Wire → Type 0
AreMade s made ws = (k : ℕ) → k < 8 → slice_index made k ≡ made_for s k ws

one_more : (s : Setting) (made : List ℕ) (ws : List Wire) (w : Wire) (k j : ℕ) → k ≡ maker s w → k < length made → slice_index made j ≡ made_for s j ws
    → slice_index (set made k (slice_index made k + 1)) j ≡ made_for s j (ws ++ w ∷ [])
one_more s made ws w k j is len at_j =
    let more : made_for s j (ws ++ w ∷ []) ≡ made_for s j ws + (if maker s w == j then 1 else 0) = made_more s j ws w in
    grind (arith, nat_tests, get_or-set_at, get_or-set_other)

-- the maker of one wire more makes one more
pub keeps_made : (s : Setting) (made : List ℕ) (ws : List Wire) (w : Wire) (k : ℕ) → k ≡ maker s w → k < length made → AreMade s made ws
    → AreMade s (set made k (slice_index made k + 1)) (ws ++ w ∷ [])
keeps_made s made ws w k is lt h j below = one_more s made ws w k j is lt (h j below)

-- the link of one wire more
pub keeps_links : (s : Setting) (ws : List Wire) (w : Wire) (links : List WiredLink) (m n : ℕ) → m ≡ maker s w → n ≡ made_for s m ws → links ≡ links_behind s [] ws
    → links ++ record { wire = w; end = record { link = record { maker = m; count = n }; side = A } } ∷ [] ≡ links_behind s [] (ws ++ w ∷ [])
keeps_links s ws w links m n is_maker is_next is =
    rw (links_more s [] ws w, is, is_next, is_maker)

-- there are eight kernels at most
pub maker_below : (s : Setting) → IsValid s → (w : Wire) → w.0.0 < length s.homes → maker s w < 8
maker_below s valid w there =
    let home : maker s w < s.kernels = All-get_or (λ h. h < s.kernels) s.homes w.0.0 0 there valid.homes in
    omega (arith, valid.limits.kernels, home)

-- the maker of a wire of the setting
pub made_of : (s : Setting) → IsValid s → (ws : List Wire) → ws ≡ s.wires → (i : ℕ) → i < length ws → (d : Wire) → maker s (get_or ws i d) < 8
made_of s valid ws refl' i lt d =
    let wire = All-get_or (λ w. (w.0.0 < length s.homes) × (w.1.0 < length s.homes)) s.wires i d (rw (← refl') lt) valid.wires in
    rw refl' (maker_below s valid (get_or s.wires i d) wire.0)

-- no count passes its range
pub count_fits : (s : Setting) → IsValid s → (ws : List Wire) → ws ≡ s.wires → (i k n : ℕ) → i < length ws → n ≡ made_for s k (take i ws) → n < 4096
count_fits s valid ws is i k n lt made =
    let few = made_few s k (take i ws) in
    let short = length-take-le i ws (omega arith) in
    omega (arith, few, short, made, ap length is, valid.limits.wires)

-- the ends of one process more
ends_more : (s : Setting) (p : ℕ) (homes : List ℕ) (home : ℕ) → ends_from s p (homes ++ home ∷ []) ≡ ends_from s p homes ++ ends_of s (p + length homes) ∷ []
ends_more s p [] home = ap (λ q. ends_of s q ∷ []) (let e : p ≡ p + 0 = omega arith in e)
ends_more s p (h ∷ homes) home =
    let at : p + 1 + length homes ≡ p + length (h ∷ homes) = omega arith in
    ap (λ es. ends_of s p ∷ es) (ends_more s (p + 1) homes home ∙ ap (λ q. ends_from s (p + 1) homes ++ ends_of s q ∷ []) at)

pub keeps_ends : (s : Setting) (i : ℕ) (each : List (List EndId)) (ends : List EndId) → i < length s.homes → each ≡ ends_from s 0 (take i s.homes) → ends ≡ ends_of s i
    → each ++ ends ∷ [] ≡ ends_from s 0 (take (i + 1) s.homes)
keeps_ends s i each ends lt is of =
    let short = length-take-le i s.homes (omega arith) in
    let at : 0 + length (take i s.homes) ≡ i = omega (arith, short) in
    rw (take_more s.homes i 0 lt, ends_more s 0 (take i s.homes), is, of, at)
