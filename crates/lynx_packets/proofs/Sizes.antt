-- What is read is behind what was read before.
use Rattle.std.proofs.Common.{◌≡◌, ℕ, zero, suc, ◌≤◌, ◌<◌, Bool, true, false, cond, ltb, List, [], ◌∷◌, length, take, drop, Result, Ok, Err, refl, ap, arith, ℤ, inl, inr}
use Rattle.std.specs.Prelude.{IsErr, ◌||◌, ◌&&◌, nat_le, ◌==◌, ◌⊎◌}
use Rattle.std.specs.Int.{w64, from_be_bytes, cast_signed}
use Rattle.std.proofs.lemmas.List.{length-drop}
use Rattle.lynx_packets.specs.declared.value.RtValue.{RtValue}
use Rattle.lynx_packets.specs.declared.value.RtValue.TheVariants as values
use Rattle.lynx_packets.specs.Reading.{◌>>=◌, byte_at, bytes_at, int_at, numbers_at, text_at, row_at, int_value, bool_value, text_value, row_value, of_tag, value_at}

-- the value of a step that did not fail
pub bind_ok : {A B : Type 0} (r : Result A ℕ) (f : A → Result B ℕ) (y : B) → (r >>= f) ≡ Ok y → (x : A) × (r ≡ Ok x) × (f x ≡ Ok y)
bind_ok (Ok x) f y e = (x, refl, e)
bind_ok (Err d) f y e = absurd cc

-- a test that did not fail
pub passed : {A : Type 0} (b : Bool) (d : ℕ) (x y : A) → cond b (Ok x) (Err d) ≡ Ok y → (b ≡ true) × (x ≡ y)
passed true d x y e = (refl, cc)
passed false d x y e = absurd cc

pub guarded : {A : Type 0} (b : Bool) (d : ℕ) (x y : A) → cond b (Err d) (Ok x) ≡ Ok y → (b ≡ false) × (x ≡ y)
guarded true d x y e = absurd cc
guarded false d x y e = (refl, cc)

abbrev pub done : {A : Type 0} → A → Result A ℕ
done x = Ok x

pub ok_is : {A : Type 0} (x y : A) → done x ≡ done y → x ≡ y
ok_is x y e = cc

-- nothing is answered twice in two ways
pub number_is : {A : Type 0} (m n : ℕ) (r : Result A ℕ) → r ≡ Err m → r ≡ Err n → m ≡ n
number_is m n (Ok x) e f = absurd cc
number_is m n (Err k) e f = cc

pub not_both : {A P : Type 0} (x : A) (n : ℕ) (r : Result A ℕ) → r ≡ done x → r ≡ Err n → P
not_both x n (Ok y) e f = absurd cc
not_both x n (Err m) e f = absurd cc

pub not_err : {A P : Type 0} (x : A) (r : Result A ℕ) → r ≡ done x → IsErr r → P
not_err x (Ok y) e broken = absurd cc
not_err x (Err m) e broken = absurd cc

pub or_left : (a b : Bool) → a ≡ true → (a || b) ≡ true
or_left true b e = refl
or_left false b e = absurd cc

pub or_right : (a b : Bool) → b ≡ true → (a || b) ≡ true
or_right true b e = refl
or_right false b e = e

pub byte_less : (low high : ℕ) (bytes : List ℕ) (x : ℕ × List ℕ) → byte_at low high bytes ≡ Ok x → length bytes ≡ suc (length x.1)
byte_less low high [] x e = absurd cc
byte_less low high (b ∷ bs) x e = ap (λ (y : ℕ × List ℕ). suc (length y.1)) (passed (nat_le low b && nat_le b high) (suc (length bs)) (b, bs) x e).1

pub front_less : (n : ℕ) (bytes : List ℕ) (x : List ℕ × List ℕ) → bytes_at n bytes ≡ Ok x → length x.1 ≤ length bytes
front_less n bytes x e =
    let g = guarded (ltb (length bytes) n) 0 (take n bytes, drop n bytes) x e in
    let same : length (drop n bytes) ≡ length x.1 = ap (λ (y : List ℕ × List ℕ). length y.1) g.1 in
    omega (arith, same, length-drop n bytes)

-- what is made of what was read
made : {A B : Type 0} (bytes : List ℕ) (r : Result (A × List ℕ) ℕ) (f : A → B) (y : B × List ℕ) → ((x : A × List ℕ) → r ≡ Ok x → length x.1 ≤ length bytes) → (r >>= λ x. Ok (f x.0, x.1)) ≡ Ok y → length y.1 ≤ length bytes
made {B = B} bytes (Ok x) f y less e =
    let same : length x.1 ≡ length y.1 = ap (λ (z : B × List ℕ). length z.1) (ok_is (f x.0, x.1) y e) in
    omega (arith, same, less x refl)
made bytes (Err d) f y less e = absurd cc

pub int_less : (bytes : List ℕ) (x : ℤ × List ℕ) → int_at bytes ≡ Ok x → length x.1 ≤ length bytes
unfolding int_at
int_less bytes x e = made bytes (bytes_at 8 bytes) (λ field. cast_signed w64 (from_be_bytes w64 field)) x (front_less 8 bytes) e

pub numbers_less : (n : ℕ) (bytes : List ℕ) (x : List ℤ × List ℕ) → numbers_at n bytes ≡ Ok x → length x.1 ≤ length bytes
unfolding numbers_at
numbers_less zero bytes x e =
    let same : length bytes ≡ length x.1 = ap (λ (y : List ℤ × List ℕ). length y.1) (ok_is ([], bytes) x e) in
    omega (arith, same)
numbers_less (suc n) bytes x e =
    let a = bind_ok (int_at bytes) (λ first. numbers_at n first.1 >>= λ others. Ok (first.0 ∷ others.0, others.1)) x e in
    let b = made a.0.1 (numbers_at n a.0.1) (λ others. a.0.0 ∷ others) x (numbers_less n a.0.1) a.2 in
    omega (arith, b, int_less bytes a.0 a.1)

pub text_less : (bytes : List ℕ) (x : List ℕ × List ℕ) → text_at bytes ≡ Ok x → length x.1 ≤ length bytes
unfolding text_at
text_less bytes x e =
    let a = bind_ok (byte_at 0 64 bytes) (λ size. bytes_at size.0 size.1) x e in
    omega (arith, byte_less 0 64 bytes a.0 a.1, front_less a.0.0 a.0.1 x a.2)

pub row_less : (low high : ℕ) (bytes : List ℕ) (x : List ℤ × List ℕ) → row_at low high bytes ≡ Ok x → length x.1 ≤ length bytes
unfolding row_at
row_less low high bytes x e =
    let a = bind_ok (byte_at low high bytes) (λ size. numbers_at size.0 size.1) x e in
    omega (arith, byte_less low high bytes a.0 a.1, numbers_less a.0.0 a.0.1 x a.2)

int_value_less : (bytes : List ℕ) (x : RtValue × List ℕ) → int_value bytes ≡ Ok x → length x.1 ≤ length bytes
unfolding int_value
int_value_less bytes x e = made bytes (int_at bytes) (λ n. values.Int n) x (int_less bytes) e

bool_value_less : (bytes : List ℕ) (x : RtValue × List ℕ) → bool_value bytes ≡ Ok x → length x.1 ≤ length bytes
unfolding bool_value
bool_value_less bytes x e = made bytes (byte_at 0 1 bytes) (λ b. values.Bool (b == 1)) x (λ b h. omega (arith, byte_less 0 1 bytes b h)) e

text_value_less : (bytes : List ℕ) (x : RtValue × List ℕ) → text_value bytes ≡ Ok x → length x.1 ≤ length bytes
unfolding text_value
text_value_less bytes x e = made bytes (text_at bytes) (λ t. values.Text t) x (text_less bytes) e

row_value_less : (low high : ℕ) (bytes : List ℕ) (x : RtValue × List ℕ) → row_value low high bytes ≡ Ok x → length x.1 ≤ length bytes
unfolding row_value
row_value_less low high bytes x e = made bytes (row_at low high bytes) (λ r. values.Row r) x (row_less low high bytes) e

-- what a test chose
pub chosen : {A : Type 0} (b : Bool) (x y z : A) → cond b x y ≡ z → ((b ≡ true) × (x ≡ z)) ⊎ ((b ≡ false) × (y ≡ z))
chosen true x y z e = inl (refl, e)
chosen false x y z e = inr (refl, e)

-- a choice of readers
either : {A : Type 0} (bytes : List ℕ) (b : Bool) (r s : Result (A × List ℕ) ℕ) (x : A × List ℕ) → (r ≡ Ok x → length x.1 ≤ length bytes) → (s ≡ Ok x → length x.1 ≤ length bytes) → cond b r s ≡ Ok x → length x.1 ≤ length bytes
either bytes true r s x f g e = f e
either bytes false r s x f g e = g e

link_less : (bytes : List ℕ) (x : RtValue × List ℕ) → done (values.Link, bytes) ≡ Ok x → length x.1 ≤ length bytes
link_less bytes x e =
    let same : length bytes ≡ length x.1 = ap (λ (y : RtValue × List ℕ). length y.1) (ok_is (values.Link, bytes) x e) in
    omega (arith, same)

tag_less : (tag : ℕ) (bytes : List ℕ) (x : RtValue × List ℕ) → of_tag tag bytes ≡ Ok x → length x.1 ≤ length bytes
tag_less tag bytes x e =
    let four = cond (tag == 4) (row_value 1 16 bytes) (done (values.Link, bytes)) in
    let three = cond (tag == 3) (text_value bytes) four in
    let two = cond (tag == 2) (bool_value bytes) three in
    either bytes (tag == 1) (int_value bytes) two x (int_value_less bytes x)
    (either bytes (tag == 2) (bool_value bytes) three x (bool_value_less bytes x)
    (either bytes (tag == 3) (text_value bytes) four x (text_value_less bytes x)
    (either bytes (tag == 4) (row_value 1 16 bytes) (done (values.Link, bytes)) x (row_value_less 1 16 bytes x) (link_less bytes x)))) e

-- a value takes a byte at least
pub value_less : (links : ℕ) (bytes : List ℕ) (x : RtValue × List ℕ) → value_at links bytes ≡ Ok x → length x.1 < length bytes
unfolding value_at
value_less links bytes x e =
    let a = bind_ok (byte_at 1 (cond (links == 0) 4 5) bytes) (λ tag. of_tag tag.0 tag.1) x e in
    omega (arith, byte_less 1 (cond (links == 0) 4 5) bytes a.0 a.1, tag_less a.0.0 a.0.1 x a.2)
