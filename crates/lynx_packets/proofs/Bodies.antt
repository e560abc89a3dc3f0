-- The readers of values of a type are exact.
use Rattle.std.proofs.Common.{◌≡◌, ℕ, zero, suc, ◌≤◌, true, false, List, [], ◌∷◌, ◌++◌, length, refl, sym, ap, subst, ◌∙◌, arith, ℤ, pos, negsuc}
use Rattle.std.specs.Prelude.{nat_abs, ◌==◌}
use Rattle.std.specs.List.{flat_map, AllByRecursion}
use Rattle.std.proofs.Math.Facts.{sfits_lit}
use Rattle.lynx_tree.specs.declared.declaration.TypeName.{TypeName}
use Rattle.lynx_tree.specs.declared.declaration.TypeName.TheVariants as types
use Rattle.typing_rules.specs.Types.{has_length}
use Rattle.lynx_packets.specs.declared.value.RtValue.{RtValue}
use Rattle.lynx_packets.specs.declared.value.RtValue.TheVariants as values
use Rattle.lynx_packets.specs.Spelling.{int_text, value_text, IsI64, IsValue, HasType}
use Rattle.lynx_packets.specs.Reading.{byte_at, int_at, text_at, row_at, int_value, bool_value, text_value, row_value, tag_of, of_type, typed_at}
use Rattle.lynx_packets.proofs.Exact.{Reads, Then, Implies, IsMade, Image, and_then, both, made_reads, image_reads, seen_as}
use Rattle.lynx_packets.proofs.Parts.{IsByteText, byte_reads}
use Rattle.lynx_packets.proofs.Ints.{IsIntText, int_reads, TextParts, text_reads, all_bytes, each_byte}
use Rattle.lynx_packets.proofs.Rows.{RowParts, row_reads, some_numbers}

-- what stands behind the byte of the type
abbrev pub Body : TypeName → RtValue → List ℕ → Type 0
Body types.Int v t = Image (λ n. values.Int n) IsIntText v t
Body types.Bool v t = Image (λ b. values.Bool (b == 1)) (IsByteText 0 1) v t
Body types.Text v t = Image (λ b. values.Text b) TextParts v t
Body (types.Row n) v t = Image (λ r. values.Row r) (RowParts (nat_abs n) (nat_abs n)) v t
Body types.Link v t = IsMade values.Link v t

pub body_reads : (t : TypeName) → Reads (of_type t) (Body t)
unfolding int_value bool_value text_value row_value
body_reads types.Int = image_reads (λ n. values.Int n) int_at IsIntText int_reads
body_reads types.Bool = image_reads (λ b. values.Bool (b == 1)) (byte_at 0 1) (IsByteText 0 1) (byte_reads 0 1 (omega arith))
body_reads types.Text = image_reads (λ b. values.Text b) text_at TextParts text_reads
body_reads (types.Row n) = image_reads (λ r. values.Row r) (row_at (nat_abs n) (nat_abs n)) (RowParts (nat_abs n) (nat_abs n)) (row_reads (nat_abs n) (nat_abs n) (omega arith))
body_reads types.Link = made_reads values.Link

-- the value is of the type, and this is its spelling
pub record IsTyped (t : TypeName) (v : RtValue) (text : List ℕ) : Type 0 where
  pub typed : HasType v t
  pub obeys : IsValue v
  pub is : text ≡ value_text v

abbrev pub Tagged : TypeName → RtValue → List ℕ → Type 0
Tagged t = Then (IsByteText (tag_of t) (tag_of t)) (λ b. Body t)

-- a byte that is at least and at most another is that one
one_byte : (low b : ℕ) (text : List ℕ) → IsByteText low low b text → text ≡ low ∷ []
one_byte low b text is = let same : b ≡ low = omega (arith, is.from, is.to) in is.is ∙ ap (λ (x : ℕ). x ∷ []) same

pub int_typed : (v : RtValue) (text a b : List ℕ) → a ≡ 1 ∷ [] → text ≡ a ++ b → Body types.Int v b → IsTyped types.Int v text
unfolding value_text
int_typed v text a b tag parts (n, one, is) =
    subst (λ (x : RtValue). IsTyped types.Int x text) is (record { typed = tt; obeys = one.fits; is = parts ∙ ap (λ (t : List ℕ). t ++ b) tag ∙ ap (λ (t : List ℕ). 1 ∷ t) one.is })

pub link_typed : (v : RtValue) (text a b : List ℕ) → a ≡ 5 ∷ [] → text ≡ a ++ b → Body types.Link v b → IsTyped types.Link v text
unfolding value_text
link_typed v text a b tag parts (is, none) =
    subst (λ (x : RtValue). IsTyped types.Link x text) (sym is) (record { typed = tt; obeys = tt; is = parts ∙ ap (λ (t : List ℕ). t ++ b) tag ∙ ap (λ (t : List ℕ). 5 ∷ t) none })

pub bool_typed : (v : RtValue) (text a b : List ℕ) → a ≡ 2 ∷ [] → text ≡ a ++ b → Body types.Bool v b → IsTyped types.Bool v text
unfolding value_text
bool_typed v text a b tag parts (zero, one, is) =
    subst (λ (x : RtValue). IsTyped types.Bool x text) is (record { typed = tt; obeys = tt; is = parts ∙ ap (λ (t : List ℕ). t ++ b) tag ∙ ap (λ (t : List ℕ). 2 ∷ t) one.is })
bool_typed v text a b tag parts (suc zero, one, is) =
    subst (λ (x : RtValue). IsTyped types.Bool x text) is (record { typed = tt; obeys = tt; is = parts ∙ ap (λ (t : List ℕ). t ++ b) tag ∙ ap (λ (t : List ℕ). 2 ∷ t) one.is })
bool_typed v text a b tag parts (suc (suc k), one, is) = absurd (omega (arith, one.to))

pub text_typed : (v : RtValue) (text a b : List ℕ) → a ≡ 3 ∷ [] → text ≡ a ++ b → Body types.Text v b → IsTyped types.Text v text
unfolding value_text
text_typed v text a b tag parts (bytes, (n, c, d, size, front, pieces), is) =
    let len : n ≡ length bytes = sym front.size in
    let whole : b ≡ length bytes ∷ bytes = pieces ∙ ap (λ (t : List ℕ). t ++ d) size.is ∙ ap (λ (m : ℕ). m ∷ d) len ∙ ap (λ (t : List ℕ). length bytes ∷ t) front.is in
    subst (λ (x : RtValue). IsTyped types.Text x text) is (record { typed = tt; obeys = (all_bytes bytes front.fits, omega (arith, front.size, size.to)); is = parts ∙ ap (λ (t : List ℕ). t ++ b) tag ∙ ap (λ (t : List ℕ). 3 ∷ t) whole })

row_typed : (m : ℕ) → 1 ≤ m → m ≤ 16 → (v : RtValue) (text a b : List ℕ) → a ≡ 4 ∷ [] → text ≡ a ++ b → Body (types.Row (pos m)) v b → IsTyped (types.Row (pos m)) v text
unfolding value_text
row_typed m some few v text a b tag parts (ns, (k, c, d, size, numbers, pieces), is) =
    let len : length ns ≡ m = omega (arith, numbers.1, size.from, size.to) in
    let byte : k ≡ length ns = sym numbers.1 in
    let whole : b ≡ length ns ∷ flat_map int_text ns = pieces ∙ ap (λ (t : List ℕ). t ++ d) size.is ∙ ap (λ (x : ℕ). x ∷ d) byte ∙ ap (λ (t : List ℕ). length ns ∷ t) numbers.0 in
    subst (λ (x : RtValue). IsTyped (types.Row (pos m)) x text) is (record { typed = ap (λ (x : ℕ). pos x) len; obeys = (numbers.2, omega (arith, len, some), omega (arith, len, few)); is = parts ∙ ap (λ (t : List ℕ). t ++ b) tag ∙ ap (λ (t : List ℕ). 4 ∷ t) whole })

in_length : (m : ℕ) → has_length (types.Row (pos m)) ≡ true → (1 ≤ m) × (m ≤ 16)
in_length m e = grind (arith, e)

typed_to : (t : TypeName) → has_length t ≡ true → Implies (Tagged t) (IsTyped t)
typed_to types.Int fits v text (k, a, b, tag, body, parts) = int_typed v text a b (one_byte 1 k a tag) parts body
typed_to types.Bool fits v text (k, a, b, tag, body, parts) = bool_typed v text a b (one_byte 2 k a tag) parts body
typed_to types.Text fits v text (k, a, b, tag, body, parts) = text_typed v text a b (one_byte 3 k a tag) parts body
typed_to (types.Row (pos m)) fits v text (k, a, b, tag, body, parts) = let l = in_length m fits in row_typed m l.0 l.1 v text a b (one_byte 4 k a tag) parts body
typed_to (types.Row (negsuc m)) fits v text is = absurd cc
typed_to types.Link fits v text (k, a, b, tag, body, parts) = link_typed v text a b (one_byte 5 k a tag) parts body

pub the_tag : (low : ℕ) → IsByteText low low low (low ∷ [])
the_tag low = record { is = refl; from = omega arith; to = omega arith }

row_back : (m : ℕ) (ns : List ℤ) → length ns ≡ m → AllByRecursion IsI64 ns → Body (types.Row (pos m)) (values.Row ns) (length ns ∷ flat_map int_text ns)
row_back m ns len fits = (ns, (m, m ∷ [], flat_map int_text ns, the_tag m, (refl, len, fits), ap (λ (x : ℕ). x ∷ flat_map int_text ns) len), refl)

pos_is : (m n : ℕ) → pos m ≡ pos n → m ≡ n
pos_is m n e = cc

pub typed_back : (t : TypeName) → Implies (IsTyped t) (Tagged t)
unfolding value_text
typed_back types.Int (values.Int n) text is = (1, 1 ∷ [], int_text n, the_tag 1, (n, record { is = refl; fits = is.obeys }, refl), is.is)
typed_back types.Bool (values.Bool true) text is = (2, 2 ∷ [], 1 ∷ [], the_tag 2, (1, record { is = refl; from = omega arith; to = omega arith }, refl), is.is)
typed_back types.Bool (values.Bool false) text is = (2, 2 ∷ [], 0 ∷ [], the_tag 2, (0, record { is = refl; from = omega arith; to = omega arith }, refl), is.is)
typed_back types.Text (values.Text bytes) text is = (3, 3 ∷ [], length bytes ∷ bytes, the_tag 3, (bytes, (length bytes, length bytes ∷ [], bytes, record { is = refl; from = omega arith; to = is.obeys.1 }, record { is = refl; size = refl; fits = each_byte bytes is.obeys.0 }, refl), refl), is.is)
typed_back (types.Row (pos m)) (values.Row ns) text is = (4, 4 ∷ [], length ns ∷ flat_map int_text ns, the_tag 4, row_back m ns (pos_is (length ns) m is.typed) is.obeys.0, is.is)
typed_back (types.Row (negsuc m)) (values.Row ns) text is = absurd cc
typed_back types.Link values.Link text is = (5, 5 ∷ [], [], the_tag 5, (refl, refl), is.is)
typed_back _ _ text is = absurd is.typed

pub body_lives : (t : TypeName) → (v : RtValue) × (b : List ℕ) × Body t v b
body_lives types.Int = (values.Int (pos 0), int_text (pos 0), (pos 0, record { is = refl; fits = sfits_lit tt }, refl))
body_lives types.Bool = (values.Bool false, 0 ∷ [], (0, record { is = refl; from = omega arith; to = omega arith }, refl))
body_lives types.Text = (values.Text [], 0 ∷ [], ([], (0, 0 ∷ [], [], record { is = refl; from = omega arith; to = omega arith }, record { is = refl; size = refl; fits = each_byte [] tt }, refl), refl))
body_lives (types.Row n) = let s = some_numbers (nat_abs n) in (values.Row s.0, nat_abs n ∷ s.1, (s.0, (nat_abs n, nat_abs n ∷ [], s.1, the_tag (nat_abs n), s.2, refl), refl))
body_lives types.Link = (values.Link, [], (refl, refl))

pub typed_reads : (t : TypeName) → has_length t ≡ true → Reads (typed_at t) (IsTyped t)
unfolding typed_at
typed_reads t fits =
    seen_as (and_then (byte_at (tag_of t) (tag_of t)) (λ b bytes. of_type t bytes)) (Tagged t) (IsTyped t)
    (both (byte_at (tag_of t) (tag_of t)) (λ b bytes. of_type t bytes) (IsByteText (tag_of t) (tag_of t)) (λ b. Body t) (byte_reads (tag_of t) (tag_of t) (omega arith)) (λ b. body_reads t) (λ b a is. body_lives t))
    (typed_to t fits) (typed_back t)

-- each type has a value
pub typed_lives : (t : TypeName) → has_length t ≡ true → (v : RtValue) × (text : List ℕ) × IsTyped t v text
typed_lives t fits =
    let b = body_lives t in
    (b.0, tag_of t ∷ b.1, typed_to t fits b.0 (tag_of t ∷ b.1) (tag_of t, tag_of t ∷ [], b.1, the_tag (tag_of t), b.2, refl))
