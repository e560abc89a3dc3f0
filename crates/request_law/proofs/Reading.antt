-- When a message can be read, and what it is then.
use Rattle.std.proofs.Common.{arith, ◌≡◌, ◌⊎◌, inl, inr, ⊎_elim, ℕ, ◌≤◌, Bool, true, false, ◌&&◌, not, min, List, [], ◌∷◌, ◌++◌, length, take, drop, Option, Some, if◌then◌else◌, refl, sym, ap, ◌∙◌, length-take, take-append-drop, append-nil, eq-eqb, eqb-true, drop_of_length-le}
use Rattle.std.specs.Prelude.{◌==◌}
use Rattle.charlotte_calls.specs.declared.names.EndId.{EndId}
use Rattle.lynx_packets.specs.declared.packet.RtPacket.{RtPacket}
use Rattle.lynx_packets.specs.declared.value.RtValue.{RtValue}
use Rattle.lynx_packets.specs.Spelling.{links_of}
use Rattle.end_protocol.specs.declared.hearing.Heard.TheVariants as heard
use Rattle.end_protocol.specs.declared.kept.Kept.{Kept}
use Rattle.end_protocol.specs.declared.messages.Connect.{Connect}
use Rattle.end_protocol.specs.Hearing.{answers, brings, hears, is_awaited, is_outstanding, is_readable, is_whole, late_request, read, sent_back}
use Rattle.end_protocol.specs.Messages.{carried, most_of}
use Rattle.request_meaning.specs.Phases.{HasLinks}

pub both_true : (a b : Bool) → a ≡ true → b ≡ true → (a && b) ≡ true
both_true true b p q = q
both_true false b p q = let no : false ≡ true = p in absurd cc

pub this_if : {X : Type 0} (b : Bool) (x y : X) → b ≡ true → (if b then x else y) ≡ x
this_if true x y e = refl
this_if false x y e = let no : false ≡ true = e in absurd cc

pub that_if : {X : Type 0} (b : Bool) (x y : X) → b ≡ false → (if b then x else y) ≡ y
that_if false x y e = refl
that_if true x y e = let no : true ≡ false = e in absurd cc

module _ (version : ℕ) (room : Bool) (packet : RtPacket) (xs : List EndId) (k : Kept) where
  pub can_read : answers packet k ≡ true → length xs ≡ brings version packet k → is_readable version packet xs k ≡ true
  unfolding is_readable
  can_read right many = both_true (answers packet k) (length xs == brings version packet k) right (eq-eqb (length xs) (brings version packet k) many)

  pub reads : k.dead ≡ false → is_readable version packet xs k ≡ true → hears version room packet xs k ≡ read version room packet xs k
  reads lives can =
      that_if k.dead (sent_back (late_request version packet xs) xs k)
      (if is_readable version packet xs k then read version room packet xs k else (k, heard.Unreadable xs)) lives
      ∙ this_if (is_readable version packet xs k) (read version room packet xs k) (k, heard.Unreadable xs) can

  pub reads_not : k.dead ≡ false → is_readable version packet xs k ≡ false → hears version room packet xs k ≡ (k, heard.Unreadable xs)
  reads_not lives can =
      that_if k.dead (sent_back (late_request version packet xs) xs k)
      (if is_readable version packet xs k then read version room packet xs k else (k, heard.Unreadable xs)) lives
      ∙ that_if (is_readable version packet xs k) (read version room packet xs k) (k, heard.Unreadable xs) can

  pub hears_right : k.dead ≡ false → answers packet k ≡ true → length xs ≡ brings version packet k → hears version room packet xs k ≡ read version room packet xs k
  hears_right lives right many = reads lives (can_read right many)

-- ---- which answer is awaited

pub is_its : (c : Connect) (o : Option Connect) → o ≡ Some c → is_outstanding c.number o ≡ true
is_its c o e = ap (is_outstanding c.number) e ∙ eq-eqb c.number c.number refl

pub is_its_answer : (c : Connect) (k : Kept) → k.outstanding ≡ Some c → k.barred ≡ false → is_awaited c.number k ≡ true
is_its_answer c k e free = both_true (is_outstanding c.number k.outstanding) (not k.barred) (is_its c k.outstanding e) (ap not free)

-- ---- ends

most_is : (version : ℕ) (b : Bool) → 1 ≤ (if b then 1 else 8)
most_is version true = omega arith
most_is version false = omega arith

pub some_travel : (version : ℕ) → 1 ≤ most_of version
some_travel version = most_is version (version == 1)

-- the ends that travel with a packet are as many as it brings
pub travelling : (version : ℕ) (vs : List RtValue) (xs : List EndId) → HasLinks vs xs → length (take (most_of version) xs) ≡ carried version vs
travelling version vs xs links = length-take (most_of version) xs ∙ ap (min (most_of version)) links.each

-- all ends travel with the packet
pub none_left : (version : ℕ) (vs : List RtValue) (xs : List EndId) → HasLinks vs xs → is_whole vs (take (most_of version) xs) ≡ true → drop (most_of version) xs ≡ []
none_left version vs xs links whole =
    let all : length (take (most_of version) xs) ≡ links_of vs = eqb-true (length (take (most_of version) xs)) (links_of vs) whole in
    let each : length xs ≡ links_of vs = links.each in
    let size : length (take (most_of version) xs) ≡ min (most_of version) (length xs) = length-take (most_of version) xs in
    drop_of_length-le xs {i = most_of version} (omega arith)

pub all_travel : (version : ℕ) (xs : List EndId) → drop (most_of version) xs ≡ [] → take (most_of version) xs ≡ xs
all_travel version xs none = sym (append-nil (take (most_of version) xs)) ∙ ap (λ (l : List EndId). take (most_of version) xs ++ l) (sym none) ∙ take-append-drop (most_of version) xs

-- two ends at least, of which one travels: this is so in version 1 alone
pub record OneTravels (version : ℕ) (xs : List EndId) : Type 0 where
  pub first_version : version ≡ 1
  pub first : EndId
  pub second : EndId
  pub others : List EndId
  pub are : xs ≡ first ∷ second ∷ others

two_ends : (xs : List EndId) → 2 ≤ length xs → (x : EndId) × (y : EndId) × (ys : List EndId) × (xs ≡ x ∷ y ∷ ys)
two_ends [] two = absurd (omega arith)
two_ends (x ∷ []) two = absurd (omega arith)
two_ends (x ∷ y ∷ ys) two = (x, y, ys, refl)

pub at_least_two : (version : ℕ) (xs : List EndId) → version ≡ 1 → 2 ≤ length xs → OneTravels version xs
at_least_two version xs first two =
    let them = two_ends xs two in record { first_version = first; first = them.0; second = them.1; others = them.2; are = them.3 }

version_by : (version : ℕ) (b : Bool) → (version == 1) ≡ b → (version ≡ 1) × (most_of version ≡ 1) ⊎ (most_of version ≡ 8)
version_by version true e = inl (eqb-true version 1 e, this_if (version == 1) 1 8 e)
version_by version false e = inr (that_if (version == 1) 1 8 e)

-- where not all are there
pub some_left : (version : ℕ) (vs : List RtValue) (xs : List EndId) → HasLinks vs xs → is_whole vs (take (most_of version) xs) ≡ false → OneTravels version xs
some_left version vs xs links part =
    ⊎_elim
    (λ (one : (version ≡ 1) × (most_of version ≡ 1)). at_least_two version xs one.0 (two one.1))
    (λ (eight : most_of version ≡ 8). absurd (wrong (size ∙ all eight)))
    (version_by version (version == 1) refl)
  where
    size : length (take (most_of version) xs) ≡ min (most_of version) (length xs)
    size = length-take (most_of version) xs

    all : most_of version ≡ 8 → min (most_of version) (length xs) ≡ length xs
    all eight = let few : length xs ≤ 8 = links.few in omega arith

    wrong : length (take (most_of version) xs) ≡ length xs → ⊥
    wrong e = let no : true ≡ false = sym (eq-eqb (length (take (most_of version) xs)) (links_of vs) (e ∙ links.each)) ∙ part in absurd cc

    more : most_of version ≡ 1 → length xs ≤ 1 → ⊥
    more one few = wrong (size ∙ (let n : most_of version ≡ 1 = one in omega arith))

    two : most_of version ≡ 1 → 2 ≤ length xs
    two one = by_size xs refl
      where
        by_size : (ys : List EndId) → xs ≡ ys → 2 ≤ length xs
        by_size [] e = absurd (more one (let n : length xs ≡ 0 = ap length e in omega arith))
        by_size (y ∷ []) e = absurd (more one (let n : length xs ≡ 1 = ap length e in omega arith))
        by_size (y ∷ z ∷ zs) e = let n : length xs ≡ length (y ∷ z ∷ zs) = ap length e in omega arith
