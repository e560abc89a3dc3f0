-- The reader of a value of any type is exact.
use Rattle.std.proofs.Common.{◌≡◌, ℕ, zero, suc, ◌<◌, ◌≤◌, Bool, true, false, cond, List, [], ◌∷◌, ◌++◌, length, refl, sym, ap, subst, ◌∙◌, arith, ℤ, pos}
use Rattle.std.specs.Prelude.{◌==◌}
use Rattle.std.specs.List.{flat_map, AllByRecursion}
use Rattle.lynx_tree.specs.declared.declaration.TypeName.TheVariants as types
use Rattle.lynx_packets.specs.declared.value.RtValue.{RtValue}
use Rattle.lynx_packets.specs.declared.value.RtValue.TheVariants as values
use Rattle.lynx_packets.specs.Spelling.{int_text, value_text, IsI64, IsValue}
use Rattle.lynx_packets.specs.Reading.{byte_at, row_at, int_value, bool_value, text_value, row_value, of_tag, value_at, link_count}
use Rattle.lynx_packets.proofs.Exact.{Reads, Then, Implies, Image, Either, and_then, both, made, image_reads, either_reads, seen_as}
use Rattle.lynx_packets.proofs.Parts.{IsByteText, byte_reads}
use Rattle.lynx_packets.proofs.Rows.{RowParts, row_reads}
use Rattle.lynx_packets.proofs.Bodies.{Body, body_reads, int_typed, bool_typed, text_typed, link_typed, body_lives}
use Rattle.lynx_packets.proofs.Ints.{each_byte}
use Rattle.std.proofs.Math.Facts.{sfits_lit}

abbrev RowBody : RtValue → List ℕ → Type 0
RowBody = Image (λ r. values.Row r) (RowParts 1 16)

abbrev TagBody : ℕ → RtValue → List ℕ → Type 0
TagBody tag = Either (tag == 1) (Body types.Int) (Either (tag == 2) (Body types.Bool) (Either (tag == 3) (Body types.Text) (Either (tag == 4) RowBody (Body types.Link))))

row_body_reads : Reads (row_value 1 16) RowBody
unfolding row_value
row_body_reads = image_reads (λ r. values.Row r) (row_at 1 16) (RowParts 1 16) (row_reads 1 16 (omega arith))

tag_reads : (tag : ℕ) → Reads (λ b. of_tag tag b) (TagBody tag)
tag_reads tag =
    let four = either_reads (tag == 4) (λ b. row_value 1 16 b) (λ b. made values.Link b) RowBody (Body types.Link) row_body_reads (body_reads types.Link) in
    let three = either_reads (tag == 3) (λ b. text_value b) (λ b. cond (tag == 4) (row_value 1 16 b) (made values.Link b)) (Body types.Text) (Either (tag == 4) RowBody (Body types.Link)) (body_reads types.Text) four in
    let two = either_reads (tag == 2) (λ b. bool_value b) (λ b. cond (tag == 3) (text_value b) (cond (tag == 4) (row_value 1 16 b) (made values.Link b))) (Body types.Bool) (Either (tag == 3) (Body types.Text) (Either (tag == 4) RowBody (Body types.Link))) (body_reads types.Bool) three in
    either_reads (tag == 1) (λ b. int_value b) (λ b. cond (tag == 2) (bool_value b) (cond (tag == 3) (text_value b) (cond (tag == 4) (row_value 1 16 b) (made values.Link b)))) (Body types.Int) (Either (tag == 2) (Body types.Bool) (Either (tag == 3) (Body types.Text) (Either (tag == 4) RowBody (Body types.Link)))) (body_reads types.Int) two

-- the value's spelling, and it is a link only where links may come
pub record IsValueText (links : ℕ) (v : RtValue) (text : List ℕ) : Type 0 where
  pub obeys : IsValue v
  pub is : text ≡ value_text v
  pub few : link_count v ≤ links

abbrev last : ℕ → ℕ
last links = cond (links == 0) 4 5

link_room : (links : ℕ) → 5 ≤ last links → 1 ≤ links
link_room zero e = absurd (omega (arith, e))
link_room (suc n) e = omega arith

not_zero : (n : ℕ) → (suc n == 0) ≡ false
not_zero n = grind arith

last_is : (n : ℕ) → last (suc n) ≡ 5
last_is n = ap (λ (b : Bool). cond b 4 5) (not_zero n)

last_few : (links : ℕ) → last links ≤ 5
last_few zero = omega arith
last_few (suc n) = omega (arith, last_is n)

first_few : (links : ℕ) → 4 ≤ last links
first_few zero = omega arith
first_few (suc n) = omega (arith, last_is n)

last_link : (links : ℕ) → 1 ≤ links → last links ≡ 5
last_link zero e = absurd (omega (arith, e))
last_link (suc n) e = last_is n

row_value_text : (links : ℕ) (v : RtValue) (text b : List ℕ) → text ≡ 4 ∷ b → RowBody v b → IsValueText links v text
unfolding value_text
row_value_text links v text b parts (ns, (k, c, d, size, numbers, pieces), is) =
    let byte : k ≡ length ns = sym numbers.1 in
    let whole : b ≡ length ns ∷ flat_map int_text ns = pieces ∙ ap (λ (t : List ℕ). t ++ d) size.is ∙ ap (λ (x : ℕ). x ∷ d) byte ∙ ap (λ (t : List ℕ). length ns ∷ t) numbers.0 in
    subst (λ (x : RtValue). IsValueText links x text) is (record { obeys = (numbers.2, omega (arith, numbers.1, size.from), omega (arith, numbers.1, size.to)); is = parts ∙ ap (λ (t : List ℕ). 4 ∷ t) whole; few = omega arith })

value_to : (links : ℕ) → Implies (Then (IsByteText 1 (last links)) TagBody) (IsValueText links)
value_to links v text (zero, a, b, tag, body, parts) = absurd (omega (arith, tag.from))
value_to links v text (suc zero, a, b, tag, body, parts) = let t = int_typed v text a b tag.is parts body in record { obeys = t.obeys; is = t.is; few = subst (λ (x : RtValue). link_count x ≤ links) body.2 (omega arith) }
value_to links v text (suc (suc zero), a, b, tag, body, parts) = let t = bool_typed v text a b tag.is parts body in record { obeys = t.obeys; is = t.is; few = subst (λ (x : RtValue). link_count x ≤ links) body.2 (omega arith) }
value_to links v text (suc (suc (suc zero)), a, b, tag, body, parts) = let t = text_typed v text a b tag.is parts body in record { obeys = t.obeys; is = t.is; few = subst (λ (x : RtValue). link_count x ≤ links) body.2 (omega arith) }
value_to links v text (suc (suc (suc (suc zero))), a, b, tag, body, parts) = row_value_text links v text b (parts ∙ ap (λ (t : List ℕ). t ++ b) tag.is) body
value_to links v text (suc (suc (suc (suc (suc zero)))), a, b, tag, body, parts) = let t = link_typed v text a b tag.is parts body in record { obeys = t.obeys; is = t.is; few = subst (λ (x : RtValue). link_count x ≤ links) (sym body.0) (link_room links tag.to) }
value_to links v text (suc (suc (suc (suc (suc (suc k))))), a, b, tag, body, parts) = absurd (omega (arith, tag.to, last_few links))

row_untyped : (ns : List ℤ) → AllByRecursion IsI64 ns → 0 < length ns → length ns ≤ 16 → RowBody (values.Row ns) (length ns ∷ flat_map int_text ns)
row_untyped ns fits some few = (ns, (length ns, length ns ∷ [], flat_map int_text ns, record { is = refl; from = some; to = few }, (refl, refl, fits), refl), refl)

one_tag : (links tag : ℕ) → 1 ≤ tag → tag ≤ last links → IsByteText 1 (last links) tag (tag ∷ [])
one_tag links tag from to = record { is = refl; from = from; to = to }

value_back : (links : ℕ) → Implies (IsValueText links) (Then (IsByteText 1 (last links)) TagBody)
unfolding value_text
value_back links (values.Int n) text is = (1, 1 ∷ [], int_text n, one_tag links 1 (omega arith) (omega (arith, first_few links)), (n, record { is = refl; fits = is.obeys }, refl), is.is)
value_back links (values.Bool true) text is = (2, 2 ∷ [], 1 ∷ [], one_tag links 2 (omega arith) (omega (arith, first_few links)), (1, record { is = refl; from = omega arith; to = omega arith }, refl), is.is)
value_back links (values.Bool false) text is = (2, 2 ∷ [], 0 ∷ [], one_tag links 2 (omega arith) (omega (arith, first_few links)), (0, record { is = refl; from = omega arith; to = omega arith }, refl), is.is)
value_back links (values.Text bytes) text is = (3, 3 ∷ [], length bytes ∷ bytes, one_tag links 3 (omega arith) (omega (arith, first_few links)), (bytes, (length bytes, length bytes ∷ [], bytes, record { is = refl; from = omega arith; to = is.obeys.1 }, record { is = refl; size = refl; fits = each_byte bytes is.obeys.0 }, refl), refl), is.is)
value_back links (values.Row ns) text is = (4, 4 ∷ [], length ns ∷ flat_map int_text ns, one_tag links 4 (omega arith) (first_few links), row_untyped ns is.obeys.0 is.obeys.1 is.obeys.2, is.is)
value_back links values.Link text is = (5, 5 ∷ [], [], one_tag links 5 (omega arith) (omega (arith, last_link links is.few)), (refl, refl), is.is)

row_lives : (v : RtValue) × (b : List ℕ) × RowBody v b
row_lives = (values.Row (pos 0 ∷ []), 1 ∷ int_text (pos 0) ++ [], row_untyped (pos 0 ∷ []) (sfits_lit tt, tt) (omega arith) (omega arith))

either_lives : (b : Bool) (Text Other : RtValue → List ℕ → Type 0) → ((v : RtValue) × (t : List ℕ) × Text v t) → ((v : RtValue) × (t : List ℕ) × Other v t) → (v : RtValue) × (t : List ℕ) × Either b Text Other v t
either_lives true Text Other x y = x
either_lives false Text Other x y = y

tag_lives : (tag : ℕ) → (v : RtValue) × (b : List ℕ) × TagBody tag v b
tag_lives tag =
    either_lives (tag == 1) (Body types.Int) (Either (tag == 2) (Body types.Bool) (Either (tag == 3) (Body types.Text) (Either (tag == 4) RowBody (Body types.Link)))) (body_lives types.Int)
    (either_lives (tag == 2) (Body types.Bool) (Either (tag == 3) (Body types.Text) (Either (tag == 4) RowBody (Body types.Link))) (body_lives types.Bool)
    (either_lives (tag == 3) (Body types.Text) (Either (tag == 4) RowBody (Body types.Link)) (body_lives types.Text)
    (either_lives (tag == 4) RowBody (Body types.Link) row_lives (body_lives types.Link))))

pub value_reads : (links : ℕ) → Reads (value_at links) (IsValueText links)
unfolding value_at
value_reads links =
    seen_as (and_then (byte_at 1 (last links)) (λ tag b. of_tag tag b)) (Then (IsByteText 1 (last links)) TagBody) (IsValueText links)
    (both (byte_at 1 (last links)) (λ tag b. of_tag tag b) (IsByteText 1 (last links)) TagBody (byte_reads 1 (last links) (omega (arith, first_few links))) tag_reads (λ tag a is. tag_lives tag))
    (value_to links) (value_back links)
