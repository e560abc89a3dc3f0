-- The reader of a signature is exact.
use Rattle.std.proofs.Common.{◌≡◌, ℕ, suc, ◌-◌, ◌+◌, ◌≤◌, true, false, cond, List, [], ◌∷◌, ◌++◌, length, drop, Result, Ok, Err, refl, sym, ap, subst, ◌∙◌, arith, append_assoc, ltb}
use Rattle.std.specs.Prelude.{IsErr, ◌&&◌, ◌==◌, not, nat_le}
use Rattle.std.proofs.lemmas.List.{length-append, take_at}
use Rattle.std.proofs.lemmas.List.Sums.{sum_by-cons}
use Rattle.std.proofs.lemmas.Bool.{le-ltb}
use Rattle.lynx_tree.specs.declared.declaration.TypeName.{TypeName}
use Rattle.lynx_tree.specs.declared.declaration.TypeName.TheVariants as types
use Rattle.lynx_tree.specs.Trees.{OpTree}
use Rattle.typing_rules.specs.Types.{is_link}
use Rattle.typing_rules.specs.Signatures.{types_text, signature_text, links_among}
use Rattle.lynx_packets.specs.declared.spot.Part.TheVariants.{Arguments}
use Rattle.lynx_packets.specs.declared.spot.Spot.TheVariants as spots
use Rattle.lynx_packets.specs.Spelling.{IsOperation}
use Rattle.lynx_packets.specs.Reading.{◌>>=◌, byte_at, bytes_at}
use Rattle.lynx_packets.specs.Spots.{name_at, types_at, signature_at, Signed}
use Rattle.lynx_packets.proofs.Sizes.{bind_ok, ok_is, passed, number_is, not_both, not_err}
use Rattle.lynx_packets.proofs.Exact.{IsBytes, Found, Wrong, Broken, Reads, Then, and_then, both_next}
use Rattle.lynx_packets.proofs.Parts.{IsByteText, byte_reads}
use Rattle.lynx_packets.proofs.Runs.{Rest, Live, run_found, run_again, run_wrong}
use Rattle.lynx_packets.proofs.Lives.{opened_live}
use Rattle.lynx_packets.proofs.Steady.{keeps}
use Rattle.lynx_packets.proofs.Tails.{close_text, Few, IsSize, types_size, signature_runs}
use Rattle.lynx_packets.proofs.Ends.{signature_back}
use Rattle.lynx_packets.proofs.Naming.{NameRest, fits_left, word_some, name_reads, some_name, fits_behind}

-- ---- the types

types_reads : (links left : ℕ) → Live links left (spots.Opened Arguments) → Reads (types_at links left (spots.Opened Arguments)) (Rest links left (spots.Opened Arguments))
types_reads links left live = record {
  found = λ bytes x rest fits e.
      let f = run_found bytes links left (spots.Opened Arguments) false (x, rest) refl e in
      record { text = f.0; is = f.2; parts = f.1; rest_fits = fits_behind f.0 rest (subst (λ (b : List ℕ). IsBytes b) f.1 fits) };
  again = λ x text rest runs. run_again text links left (spots.Opened Arguments) false (x, []) rest refl runs;
  wrong = λ bytes n fits e. run_wrong keeps bytes links left (spots.Opened Arguments) false n refl live e;
}

-- ---- the size, the name and the types

abbrev left_of : ℕ → List ℕ → ℕ
left_of size name = size - length name - 1

abbrev TypesText : ℕ → List ℕ → List TypeName → List ℕ → Type 0
TypesText size name = Rest 8 (left_of size name) (spots.Opened Arguments)

abbrev NamedText : ℕ → List TypeName → List ℕ → Type 0
NamedText size = Then (NameRest [] size) (TypesText size)

abbrev SizedText : List TypeName → List ℕ → Type 0
SizedText = Then (IsByteText 6 255) NamedText

abbrev types_of : ℕ → List ℕ → List ℕ → Result (List TypeName × List ℕ) ℕ
types_of size name = types_at 8 (left_of size name) (spots.Opened Arguments)

name_live : (size : ℕ) (name text : List ℕ) → NameRest [] size name text → Live 8 (left_of size name) (spots.Opened Arguments)
name_live size name text r =
    let same : size - length r.t ≡ size - length name = ap (λ (n : List ℕ). size - length n) (sym r.whole) in
    let room : fits_left (size - length name) ≡ true = ap fits_left (sym same) ∙ r.room in
    opened_live 8 (left_of size name) (grind (arith, room))

named_reads : (size : ℕ) → 6 ≤ size → Reads (and_then (name_at [] size) (types_of size)) (NamedText size)
named_reads size some =
    both_next (name_at [] size) (types_of size) (NameRest [] size) (TypesText size) (name_reads size some)
    (λ name a is. types_reads 8 (left_of size name) (name_live size name a is))
    (λ name a is. let live = name_live size name a is in (live.ts, live.text, live.runs))

some_named : (size : ℕ) → 6 ≤ size → (ts : List TypeName) × (text : List ℕ) × NamedText size ts text
some_named size some =
    let n = some_name size some in
    let live = name_live size n.0 n.1 n.2 in
    (live.ts, n.1 ++ live.text, (n.0, n.1, live.text, n.2, live.runs, refl))

abbrev sized : List ℕ → Result (List TypeName × List ℕ) ℕ
sized = and_then (byte_at 6 255) (λ size. and_then (name_at [] size) (types_of size))

sized_reads : Reads sized SizedText
sized_reads =
    both_next (byte_at 6 255) (λ size. and_then (name_at [] size) (types_of size)) (IsByteText 6 255) NamedText (byte_reads 6 255 (omega arith))
    (λ size a is. named_reads size is.from)
    (λ size a is. some_named size is.from)

-- ---- links among arguments

links_cons : (t : TypeName) (ts : List TypeName) → links_among (t ∷ ts) ≡ cond (is_link t) 1 0 + links_among ts
links_cons t ts = sum_by-cons (λ u. cond (is_link u) 1 0) t ts

some_links : (n : ℕ) → not (n == 0) ≡ true → 1 ≤ n
some_links n e = grind (arith, e)

links_some : (n : ℕ) → 1 ≤ n → not (n == 0) ≡ true
links_some n e = grind (arith, e)

few_links : (ts : List TypeName) (n : ℕ) → Few n Arguments ts → links_among ts ≤ n
few_links [] n few = omega arith
few_links (types.Int ∷ ts) n few = omega (arith, links_cons types.Int ts, few_links ts (n - 0) few.1)
few_links (types.Bool ∷ ts) n few = omega (arith, links_cons types.Bool ts, few_links ts (n - 0) few.1)
few_links (types.Text ∷ ts) n few = omega (arith, links_cons types.Text ts, few_links ts (n - 0) few.1)
few_links (types.Row m ∷ ts) n few = omega (arith, links_cons (types.Row m) ts, few_links ts (n - 0) few.1)
few_links (types.Link ∷ ts) n few = omega (arith, links_cons types.Link ts, few_links ts (n - 1) few.1, some_links n few.0)

links_few : (ts : List TypeName) (n : ℕ) → links_among ts ≤ n → Few n Arguments ts
links_few [] n le = tt
links_few (types.Int ∷ ts) n le = (tt, links_few ts (n - 0) (omega (arith, links_cons types.Int ts, le)))
links_few (types.Bool ∷ ts) n le = (tt, links_few ts (n - 0) (omega (arith, links_cons types.Bool ts, le)))
links_few (types.Text ∷ ts) n le = (tt, links_few ts (n - 0) (omega (arith, links_cons types.Text ts, le)))
links_few (types.Row m ∷ ts) n le = (tt, links_few ts (n - 0) (omega (arith, links_cons (types.Row m) ts, le)))
links_few (types.Link ∷ ts) n le = (links_some n (omega (arith, links_cons types.Link ts, le)), links_few ts (n - 1) (omega (arith, links_cons types.Link ts, le)))

-- ---- the text of a signature behind its size

pub record IsSigned (x : Signed) (text : List ℕ) : Type 0 where
  pub op : OpTree
  pub is : IsOperation op
  pub few : links_among op.arguments ≤ 8
  pub signature : x.0 ≡ signature_text op
  pub arguments : x.1 ≡ op.arguments
  pub parts : text ≡ length x.0 ∷ x.0

-- the bytes of a signature, by its parts
behind_name : List TypeName → List TypeName → List ℕ
behind_name ts rs = types_text ts ++ close_text Arguments rs

named_signature : (op : OpTree) → signature_text op ≡ (op.name ++ 40 ∷ []) ++ behind_name op.arguments op.results
unfolding behind_name
named_signature op =
    let front = op.name ++ 40 ∷ [] in
    let middle : List ℕ = 41 ∷ 58 ∷ 40 ∷ [] in
    let args = types_text op.arguments in
    let end = types_text op.results in
    append_assoc (front ++ args ++ middle) end (41 ∷ []) ∙ append_assoc (front ++ args) middle (end ++ 41 ∷ []) ∙ append_assoc front args (middle ++ (end ++ 41 ∷ []))

signature_size : (op : OpTree) → length (signature_text op) ≡ length op.name + 1 + length (behind_name op.arguments op.results)
signature_size op = omega (arith, ap (λ (x : List ℕ). length x) (named_signature op), length-append (op.name ++ 40 ∷ []) (behind_name op.arguments op.results), length-append op.name (40 ∷ []))

size_is : (size n d : ℕ) → fits_left (size - n) ≡ true → size - n - 1 ≡ d → size ≡ n + 1 + d
size_is size n d room left = grind (arith, room, left)

-- what is read is a signature
signed_from : (size : ℕ) (ts : List TypeName) (name c d a b text : List ℕ) → IsByteText 6 255 size a → NameRest [] size name c → TypesText size name ts d → b ≡ c ++ d → text ≡ a ++ b → IsSigned (b, ts) text
unfolding behind_name
signed_from size ts name c d a b text byte n runs joined parts =
    let t = signature_back 8 (left_of size name) d ts runs in
    let op : OpTree = record { name = name; arguments = t.us; results = t.rs } in
    let named : c ≡ name ++ 40 ∷ [] = n.parts ∙ ap (λ (x : List ℕ). x ++ 40 ∷ []) (sym n.whole) in
    let signature : b ≡ signature_text op = joined ∙ ap (λ (x : List ℕ). x ++ d) named ∙ ap (λ (x : List ℕ). (name ++ 40 ∷ []) ++ x) t.parts ∙ sym (named_signature op) in
    let room = ap (λ (w : List ℕ). fits_left (size - length w)) n.whole ∙ n.room in
    let whole : size ≡ length name + 1 + length d = size_is size (length name) (length d) room t.size in
    let long : length b ≡ length name + 1 + length d = ap (λ (x : List ℕ). length x) signature ∙ signature_size op ∙ ap (λ (x : List ℕ). length name + 1 + length x) (sym t.parts) in
    let fits : length (signature_text op) ≤ 255 = omega (arith, ap (λ (x : List ℕ). length x) signature, long, whole, byte.to) in
    record {
      op = op;
      is = record { name = n.is; arguments = t.fits; results = t.rs_fit; short = fits };
      few = few_links t.us 8 t.few;
      signature = signature;
      arguments = t.told;
      parts = parts ∙ ap (λ (x : List ℕ). x ++ b) byte.is ∙ ap (λ (n : ℕ). n ∷ b) (whole ∙ sym long);
    }

pub sized_to : (ts : List TypeName) (text : List ℕ) → SizedText ts text → (signature : List ℕ) × IsSigned (signature, ts) text
sized_to ts text (size, a, b, byte, (name, c, d, n, runs, joined), parts) = (b, signed_from size ts name c d a b text byte n runs joined parts)

room_four : (n m : ℕ) → IsSize n → IsSize m → fits_left (5 + (n + m)) ≡ true
room_four n m one two = grind (arith, one, two)

-- a signature is read
sized_from : (x : Signed) (text : List ℕ) → IsSigned x text → SizedText x.1 text
unfolding behind_name
sized_from x text s =
    let op = s.op in
    let size = length x.0 in
    let d = behind_name op.arguments op.results in
    let long : size ≡ length op.name + 1 + length d = ap (λ (w : List ℕ). length w) s.signature ∙ signature_size op in
    let some : 1 ≤ length op.name = word_some op.name s.is.name.word in
    let ends : length d ≡ 4 + (length (types_text op.arguments) + length (types_text op.results)) = omega (arith, length-append (types_text op.arguments) (close_text Arguments op.results), length-append (types_text op.results) (41 ∷ [])) in
    let behind : size - length op.name ≡ 5 + (length (types_text op.arguments) + length (types_text op.results)) = omega (arith, long, ends) in
    let room = ap fits_left behind ∙ room_four (length (types_text op.arguments)) (length (types_text op.results)) (types_size op.arguments s.is.arguments) (types_size op.results s.is.results) in
    let left : length d ≡ left_of size op.name = omega (arith, long) in
    let byte : IsByteText 6 255 size (size ∷ []) = record { is = refl; from = omega (arith, long, ends, some); to = omega (arith, s.is.short, ap (λ (w : List ℕ). length w) s.signature) } in
    let named : NameRest [] size op.name (op.name ++ 40 ∷ []) = record { t = op.name; whole = refl; parts = refl; is = s.is.name; room = room } in
    let runs : TypesText size op.name op.arguments d = ap (λ (l : ℕ). types_at 8 l (spots.Opened Arguments) d) (sym left) ∙ signature_runs op.arguments op.results s.is.arguments s.is.results 8 (links_few op.arguments 8 s.few) in
    let joined : x.0 ≡ (op.name ++ 40 ∷ []) ++ d = s.signature ∙ named_signature op in
    (size, size ∷ [], x.0, byte, (op.name, op.name ++ 40 ∷ [], d, named, subst (λ (ts : List TypeName). TypesText size op.name ts d) (sym s.arguments) runs, joined), s.parts)

-- ---- the reader of all of it

abbrev whole_of : ℕ × List ℕ → List TypeName × List ℕ → Result (Signed × List ℕ) ℕ
whole_of size ts = bytes_at size.0 size.1 >>= λ text. Ok ((text.0, ts.0), ts.1)

abbrev types_next : ℕ × List ℕ → List ℕ × List ℕ → Result (List TypeName × List ℕ) ℕ
types_next size name = types_of size.0 name.0 name.1

third_err : (size : ℕ × List ℕ) (r : Result (List TypeName × List ℕ) ℕ) (n : ℕ) → r ≡ Err n → (r >>= whole_of size) ≡ Err n
third_err size (Ok x) n e = absurd cc
third_err size (Err m) n e = cc

second_err : (size : ℕ × List ℕ) (r : Result (List ℕ × List ℕ) ℕ) (n : ℕ) → (r >>= types_next size) ≡ Err n → (r >>= λ name. types_next size name >>= whole_of size) ≡ Err n
second_err size (Ok name) n e = third_err size (types_next size name) n e
second_err size (Err m) n e = cc

first_err : (r : Result (ℕ × List ℕ) ℕ) (n : ℕ) → (r >>= λ size. name_at [] size.0 size.1 >>= types_next size) ≡ Err n → (r >>= λ size. name_at [] size.0 size.1 >>= λ name. types_next size name >>= whole_of size) ≡ Err n
first_err (Ok size) n e = second_err size (name_at [] size.0 size.1) n e
first_err (Err m) n e = cc

sized_err : (bytes : List ℕ) (n : ℕ) → sized bytes ≡ Err n → signature_at bytes ≡ Err n
unfolding signature_at
sized_err bytes n e = first_err (byte_at 6 255 bytes) n e

sized_ok : (bytes : List ℕ) (x : List TypeName × List ℕ) → sized bytes ≡ Ok x → (size : ℕ × List ℕ) × (byte_at 6 255 bytes ≡ Ok size) × (signature_at bytes ≡ whole_of size x)
unfolding signature_at
sized_ok bytes x e =
    let a = bind_ok (byte_at 6 255 bytes) (λ size. name_at [] size.0 size.1 >>= types_next size) x e in
    let b = bind_ok (name_at [] a.0.0 a.0.1) (types_next a.0) x a.2 in (
      a.0,
      a.1,
      ap (λ (r : Result (ℕ × List ℕ) ℕ). r >>= λ size. name_at [] size.0 size.1 >>= λ name. types_next size name >>= whole_of size) a.1
          ∙ ap (λ (r : Result (List ℕ × List ℕ) ℕ). r >>= λ name. types_next a.0 name >>= whole_of a.0) b.1
          ∙ ap (λ (r : Result (List TypeName × List ℕ) ℕ). r >>= whole_of a.0) b.2,
    )

byte_is : (low high : ℕ) (bytes : List ℕ) (x : ℕ × List ℕ) → byte_at low high bytes ≡ Ok x → bytes ≡ x.0 ∷ x.1
byte_is low high [] x e = absurd cc
byte_is low high (b ∷ bs) x e = ap (λ (y : ℕ × List ℕ). y.0 ∷ y.1) (passed (nat_le low b && nat_le b high) (suc (length bs)) (b, bs) x e).1

head_of : List ℕ → ℕ
head_of [] = 0
head_of (b ∷ bs) = b

front_is : (text rest : List ℕ) (ts : List TypeName) (after : List ℕ) → whole_of (length text, text ++ rest) (ts, after) ≡ Ok ((text, ts), after)
front_is text rest ts after =
    let long : ltb (length (text ++ rest)) (length text) ≡ false = le-ltb _ _ (omega (arith, length-append text rest)) in
    rw (long, take_at text rest (length text) refl) refl

-- a signature that was read is told
signed_is : (bytes rest text : List ℕ) (x : Signed) → sized bytes ≡ Ok (x.1, rest) → IsSigned x text → bytes ≡ text ++ rest → signature_at bytes ≡ Ok (x, rest)
unfolding head_of
signed_is bytes rest text x e s parts =
    let a = sized_ok bytes (x.1, rest) e in
    let same : a.0.0 ∷ a.0.1 ≡ length x.0 ∷ (x.0 ++ rest) = sym (byte_is 6 255 bytes a.0 a.1) ∙ parts ∙ ap (λ (t : List ℕ). t ++ rest) s.parts in
    a.2 ∙ ap (λ (n : ℕ). whole_of (n, a.0.1) (x.1, rest)) (ap head_of same) ∙ ap (λ (t : List ℕ). whole_of (length x.0, t) (x.1, rest)) (ap (drop 1) same) ∙ front_is x.0 rest x.1 rest

broken_at : (bytes : List ℕ) (r : Result (List TypeName × List ℕ) ℕ) → sized bytes ≡ r → IsErr (sized bytes) → IsErr (signature_at bytes)
broken_at bytes (Ok y) read broken = not_err y (sized bytes) read broken
broken_at bytes (Err n) read broken = subst (λ r. IsErr r) (sym (sized_err bytes n read)) refl

found_signature : (bytes : List ℕ) (x : Signed) (rest : List ℕ) → IsBytes bytes → (r : Result (List TypeName × List ℕ) ℕ) → sized bytes ≡ r → signature_at bytes ≡ Ok (x, rest) → Found IsSigned bytes x rest
found_signature bytes x rest fits (Err n) read e = not_both (x, rest) n (signature_at bytes) e (sized_err bytes n read)
found_signature bytes x rest fits (Ok y) read e =
    let f = sized_reads.found bytes y.0 y.1 fits read in
    let s = sized_to y.0 f.text f.is in
    let is = signed_is bytes y.1 f.text (s.0, y.0) read s.1 f.parts in
    let same : ((s.0, y.0), y.1) ≡ (x, rest) = ok_is ((s.0, y.0), y.1) (x, rest) (sym is ∙ e) in
    subst (λ (z : Signed × List ℕ). Found IsSigned bytes z.0 z.1) same (record { text = f.text; is = s.1; parts = f.parts; rest_fits = f.rest_fits })

signature_broken : (front tail : List ℕ) → Broken sized front tail → Broken signature_at front tail
signature_broken front [] broken = tt
signature_broken front (b ∷ bs) broken = λ more. broken_at (front ++ b ∷ more) (sized (front ++ b ∷ more)) refl (broken more)

wrong_signature : (bytes : List ℕ) (n : ℕ) → IsBytes bytes → (r : Result (List TypeName × List ℕ) ℕ) → sized bytes ≡ r → signature_at bytes ≡ Err n → Wrong signature_at IsSigned bytes n
wrong_signature bytes n fits (Ok y) read e =
    let f = sized_reads.found bytes y.0 y.1 fits read in
    let s = sized_to y.0 f.text f.is in
    not_both ((s.0, y.0), y.1) n (signature_at bytes) (signed_is bytes y.1 f.text (s.0, y.0) read s.1 f.parts) e
wrong_signature bytes n fits (Err m) read e =
    let w = sized_reads.wrong bytes m fits read in
    let s = sized_to w.value (w.front ++ w.more) w.goes_on in
    record { front = w.front; tail = w.tail; parts = w.parts; size = w.size ∙ number_is m n (signature_at bytes) (sized_err bytes m read) e; value = (s.0, w.value); more = w.more; goes_on = s.1; broken = signature_broken w.front w.tail w.broken }

pub signature_reads : Reads signature_at IsSigned
signature_reads = record {
  found = λ bytes x rest fits e. found_signature bytes x rest fits (sized bytes) refl e;
  again = λ x text rest s. signed_is (text ++ rest) rest text x (sized_reads.again x.1 text rest (sized_from x text s)) s refl;
  wrong = λ bytes n fits e. wrong_signature bytes n fits (sized bytes) refl e;
}

-- ---- some signature

pub some_signature : (x : Signed) × (text : List ℕ) × IsSigned x text
some_signature =
    let n = some_named 6 (omega arith) in
    let s = sized_to n.0 (6 ∷ n.1) (6, 6 ∷ [], n.1, record { is = refl; from = omega arith; to = omega arith }, n.2, refl) in
    ((s.0, n.0), 6 ∷ n.1, s.1)
