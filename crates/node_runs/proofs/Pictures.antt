-- The packets among the letters of a node are those that its run sent, or took.
use Rattle.std.proofs.Common.{◌≡◌, ℕ, List, [], ◌∷◌, ◌++◌, Option, Some, None, take, drop, true, false, nat_lt, nat_eq, if◌then◌else◌, refl, ap, sym, ◌∙◌, append-nil, append_assoc}
use Rattle.std.proofs.lemmas.List.{map-append, take-append-drop}
use Rattle.charlotte_packets.specs.declared.picture.Picture.{Picture}
use Rattle.kernel_step.specs.Kernel.{Kernel}
use Rattle.kernel_net.specs.declared.letter.Letter.{Letter}
use Rattle.kernel_net.specs.declared.letter.Letter.TheVariants as letter
use Rattle.kernel_turns.specs.Letters.{AMarker, APacket, Told, letters_from, letters_of, marker_told, packets, told, told_of}
use Rattle.kernel_turns.specs.Local.{LocalEvent, MakesCall, TakesPacket, gives, left_by, sends_to, takes_from}
use Rattle.kernel_world.specs.World.{to_kernel}
use Rattle.node_runs.specs.Net.{pictures}

pub pictures-append : (xs ys : List Told) → pictures (xs ++ ys) ≡ pictures xs ++ pictures ys
pictures-append [] ys = refl
pictures-append (APacket q ∷ xs) ys = ap (λ qs. q ∷ qs) (pictures-append xs ys)
pictures-append (AMarker ∷ xs) ys = pictures-append xs ys

pub pictures-packets : (qs : List Picture) → pictures (packets qs) ≡ qs
pictures-packets [] = refl
pictures-packets (q ∷ qs) = ap (λ ps. q ∷ ps) (pictures-packets qs)

pub told-append : (xs ys : List Letter) → told (xs ++ ys) ≡ told xs ++ told ys
told-append xs ys = map-append told_of xs ys

-- a marker is no packet
no-markers : (kernels to : ℕ) → pictures (marker_told kernels to) ≡ []
no-markers kernels to = elim (nat_lt to kernels) as (λ b. pictures (told (if b then letter.Marker ∷ [] else [])) ≡ []) [ true ↦ refl | false ↦ refl ]

sends-both : (to : ℕ) (x : Kernel) (made more : List LocalEvent) → sends_to to x (made ++ more) ≡ sends_to to x made ++ sends_to to (left_by x made) more
sends-both to x [] more = refl
sends-both to x (o ∷ os) more =
    ap (λ qs. to_kernel to (gives x o).packets ++ qs) (sends-both to (gives x o).kernel os more)
    ∙ sym (append_assoc (to_kernel to (gives x o).packets) (sends_to to (gives x o).kernel os) (sends_to to (left_by x (o ∷ os)) more))

takes-both : (from : ℕ) (made more : List LocalEvent) → takes_from from (made ++ more) ≡ takes_from from made ++ takes_from from more
takes-both from [] more = refl
takes-both from (MakesCall p c mine ∷ os) more = takes-both from os more
takes-both from (TakesPacket j q ∷ os) more =
    elim (nat_eq from j) as (λ b. (if b then q ∷ takes_from from (os ++ more) else takes_from from (os ++ more)) ≡ (if b then q ∷ takes_from from os else takes_from from os) ++ takes_from from more)
    [ true ↦ ap (λ qs. q ∷ qs) (takes-both from os more) | false ↦ takes-both from os more ]

-- those that go out are what the run sends
pub pictures-sent : (kernels : ℕ) (begun : Option ℕ) (to : ℕ) (x : Kernel) (made : List LocalEvent) → pictures (letters_of kernels begun to x made) ≡ sends_to to x made
pictures-sent kernels None to x made = pictures-packets (sends_to to x made)
pictures-sent kernels (Some n) to x made =
    pictures-append (packets first ++ marker_told kernels to) (packets later)
    ∙ ap (λ qs. qs ++ pictures (packets later)) (pictures-append (packets first) (marker_told kernels to))
    ∙ ap (λ qs. (qs ++ pictures (marker_told kernels to)) ++ pictures (packets later)) (pictures-packets first)
    ∙ ap (λ qs. (first ++ qs) ++ pictures (packets later)) (no-markers kernels to)
    ∙ ap (λ qs. qs ++ pictures (packets later)) (append-nil first)
    ∙ ap (λ qs. first ++ qs) (pictures-packets later)
    ∙ sym (sends-both to x (take n made) (drop n made))
    ∙ ap (sends_to to x) (take-append-drop n made)
  where
    first : List Picture
    first = sends_to to x (take n made)

    later : List Picture
    later = sends_to to (left_by x (take n made)) (drop n made)

-- those that were got are what it takes
pub pictures-got : (marked : Option ℕ) (from : ℕ) (made : List LocalEvent) → pictures (letters_from marked from made) ≡ takes_from from made
pictures-got None from made = pictures-packets (takes_from from made)
pictures-got (Some n) from made =
    pictures-append (packets (takes_from from (take n made))) (AMarker ∷ packets (takes_from from (drop n made)))
    ∙ ap (λ qs. qs ++ pictures (packets (takes_from from (drop n made)))) (pictures-packets (takes_from from (take n made)))
    ∙ ap (λ qs. takes_from from (take n made) ++ qs) (pictures-packets (takes_from from (drop n made)))
    ∙ sym (takes-both from (take n made) (drop n made))
    ∙ ap (takes_from from) (take-append-drop n made)
