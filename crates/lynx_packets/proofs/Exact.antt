-- What a reader reads, and where it stops: a reader is exact for the texts of its values if it finds a value where one of its texts stands at
-- the front, and else tells how many bytes stand behind the longest front that some text begins with.
use Rattle.std.proofs.Common.{◌≡◌, ℕ, ◌<◌, Bool, true, false, cond, List, [], ◌∷◌, ◌++◌, length, get_or, Result, Ok, Err, refl, sym, ap, subst, ◌∙◌, append_assoc}
use Rattle.std.specs.Prelude.{IsErr}
use Rattle.lynx_packets.specs.Reading.{◌>>=◌}
use Rattle.lynx_packets.proofs.Sizes.{bind_ok, ok_is}

abbrev pub IsBytes : List ℕ → Type 0
IsBytes bytes = (i : ℕ) → get_or bytes i 0 < 256

-- one of the texts of the value stands at the front
pub record Found {X : Type 0} (Text : X → List ℕ → Type 0) (bytes : List ℕ) (x : X) (rest : List ℕ) : Type 0 where
  pub text : List ℕ
  pub is : Text x text
  pub parts : bytes ≡ text ++ rest
  pub rest_fits : IsBytes rest

-- nothing is read behind the front and one more byte, whatever follows
abbrev pub Broken : {X : Type 0} → (List ℕ → Result X ℕ) → List ℕ → List ℕ → Type 0
Broken read front [] = Unit {0}
Broken read front (b ∷ bs) = (more : List ℕ) → IsErr (read (front ++ b ∷ more))

-- a front that some text begins with, and no text goes on as the bytes do
pub record Wrong {X : Type 0} (read : List ℕ → Result (X × List ℕ) ℕ) (Text : X → List ℕ → Type 0) (bytes : List ℕ) (left : ℕ) : Type 0 where
  pub front : List ℕ
  pub tail : List ℕ
  pub parts : bytes ≡ front ++ tail
  pub size : length tail ≡ left
  pub value : X
  pub more : List ℕ
  pub goes_on : Text value (front ++ more)
  pub broken : Broken read front tail

pub record Reads {X : Type 0} (read : List ℕ → Result (X × List ℕ) ℕ) (Text : X → List ℕ → Type 0) : Type 0 where
  pub found : (bytes : List ℕ) (x : X) (rest : List ℕ) → IsBytes bytes → read bytes ≡ Ok (x, rest) → Found Text bytes x rest
  pub again : (x : X) (text rest : List ℕ) → Text x text → read (text ++ rest) ≡ Ok (x, rest)
  pub wrong : (bytes : List ℕ) (left : ℕ) → IsBytes bytes → read bytes ≡ Err left → Wrong read Text bytes left

-- ---- one after the other

abbrev pub Then : {X Y : Type 0} → (X → List ℕ → Type 0) → (X → Y → List ℕ → Type 0) → Y → List ℕ → Type 0
Then {X = X} First Second y text = (x : X) × (a : List ℕ) × (b : List ℕ) × First x a × Second x y b × (text ≡ a ++ b)

abbrev pub and_then : {X Y : Type 0} → (List ℕ → Result (X × List ℕ) ℕ) → (X → List ℕ → Result (Y × List ℕ) ℕ) → List ℕ → Result (Y × List ℕ) ℕ
and_then first second bytes = first bytes >>= λ a. second a.0 a.1

-- whatever is read first, something may be read next
abbrev pub Lives : {X Y : Type 0} → (X → List ℕ → Type 0) → (X → Y → List ℕ → Type 0) → Type 0
Lives {X = X} {Y = Y} First Second = (x : X) (a : List ℕ) → First x a → (y : Y) × (b : List ℕ) × Second x y b

-- whatever is read first, the second reader is exact
abbrev pub Nexts : {X Y : Type 0} → (X → List ℕ → Type 0) → (X → List ℕ → Result (Y × List ℕ) ℕ) → (X → Y → List ℕ → Type 0) → Type 0
Nexts {X = X} First second Second = (x : X) (a : List ℕ) → First x a → Reads (second x) (Second x)

pub err_bind : {A B : Type 0} (r : Result A ℕ) (f : A → Result B ℕ) → IsErr r → IsErr (r >>= f)
err_bind (Ok x) f e = absurd cc
err_bind (Err n) f e = e

broken_first : {X Y : Type 0} (first : List ℕ → Result (X × List ℕ) ℕ) (second : X → List ℕ → Result (Y × List ℕ) ℕ) (front tail : List ℕ) → Broken first front tail → Broken (and_then first second) front tail
broken_first first second front [] broken = tt
broken_first first second front (b ∷ bs) broken = λ more. err_bind (first (front ++ b ∷ more)) (λ a. second a.0 a.1) (broken more)

is_err : {A : Type 0} (r s : Result A ℕ) → r ≡ s → IsErr s → IsErr r
is_err r s e h = subst (λ t. IsErr t) (sym e) h

broken_second : {X Y : Type 0} (first : List ℕ → Result (X × List ℕ) ℕ) (second : X → List ℕ → Result (Y × List ℕ) ℕ) (First : X → List ℕ → Type 0) (reads : Reads first First) (x : X) (a front tail : List ℕ) → First x a → Broken (second x) front tail → Broken (and_then first second) (a ++ front) tail
broken_second first second First reads x a front [] is broken = tt
broken_second first second First reads x a front (b ∷ bs) is broken = λ more.
    let at : first ((a ++ front) ++ b ∷ more) ≡ Ok (x, front ++ b ∷ more) = ap first (append_assoc a front (b ∷ more)) ∙ reads.again x a (front ++ b ∷ more) is in
    is_err (and_then first second ((a ++ front) ++ b ∷ more)) (second x (front ++ b ∷ more)) (ap (λ r. r >>= λ p. second p.0 p.1) at) (broken more)

found_both : {X Y : Type 0} (first : List ℕ → Result (X × List ℕ) ℕ) (second : X → List ℕ → Result (Y × List ℕ) ℕ) (First : X → List ℕ → Type 0) (Second : X → Y → List ℕ → Type 0)
    → Reads first First → Nexts First second Second → (bytes : List ℕ) (y : Y) (rest : List ℕ) → IsBytes bytes → and_then first second bytes ≡ Ok (y, rest) → Found (Then First Second) bytes y rest
found_both first second First Second one two bytes y rest fits e =
    let a = bind_ok (first bytes) (λ a. second a.0 a.1) (y, rest) e in
    let f = one.found bytes a.0.0 a.0.1 fits a.1 in
    let g = (two a.0.0 f.text f.is).found a.0.1 y rest f.rest_fits a.2 in
    record {
      text = f.text ++ g.text;
      is = (a.0.0, f.text, g.text, f.is, g.is, refl);
      parts = f.parts ∙ ap (λ (t : List ℕ). f.text ++ t) g.parts ∙ sym (append_assoc f.text g.text rest);
      rest_fits = g.rest_fits;
    }

again_both : {X Y : Type 0} (first : List ℕ → Result (X × List ℕ) ℕ) (second : X → List ℕ → Result (Y × List ℕ) ℕ) (First : X → List ℕ → Type 0) (Second : X → Y → List ℕ → Type 0)
    → Reads first First → Nexts First second Second → (y : Y) (text rest : List ℕ) → Then First Second y text → and_then first second (text ++ rest) ≡ Ok (y, rest)
again_both first second First Second one two y text rest (x, a, b, is, next, parts) =
    let whole : text ++ rest ≡ a ++ (b ++ rest) = ap (λ (t : List ℕ). t ++ rest) parts ∙ append_assoc a b rest in
    let at : first (text ++ rest) ≡ Ok (x, b ++ rest) = ap first whole ∙ one.again x a (b ++ rest) is in
    ap (λ r. r >>= λ p. second p.0 p.1) at ∙ (two x a is).again y b rest next

wrong_both : {X Y : Type 0} (first : List ℕ → Result (X × List ℕ) ℕ) (second : X → List ℕ → Result (Y × List ℕ) ℕ) (First : X → List ℕ → Type 0) (Second : X → Y → List ℕ → Type 0)
    → Reads first First → Nexts First second Second → Lives First Second → (bytes : List ℕ) (left : ℕ) → IsBytes bytes
    → (r : Result (X × List ℕ) ℕ) → first bytes ≡ r → (r >>= λ a. second a.0 a.1) ≡ Err left → Wrong (and_then first second) (Then First Second) bytes left
wrong_both first second First Second one two lives bytes left fits (Ok (x, rest)) read e =
    let f = one.found bytes x rest fits read in
    let w = (two x f.text f.is).wrong rest left f.rest_fits e in
    record {
      front = f.text ++ w.front;
      tail = w.tail;
      parts = f.parts ∙ ap (λ (t : List ℕ). f.text ++ t) w.parts ∙ sym (append_assoc f.text w.front w.tail);
      size = w.size;
      value = w.value;
      more = w.more;
      goes_on = (x, f.text, w.front ++ w.more, f.is, w.goes_on, append_assoc f.text w.front w.more);
      broken = broken_second first second First one x f.text w.front w.tail f.is w.broken;
    }
wrong_both first second First Second one two lives bytes left fits (Err n) read e =
    let same : n ≡ left = cc in
    let w = one.wrong bytes n fits read in
    let next = lives w.value (w.front ++ w.more) w.goes_on in
    record {
      front = w.front;
      tail = w.tail;
      parts = w.parts;
      size = w.size ∙ same;
      value = next.0;
      more = w.more ++ next.1;
      goes_on = (w.value, w.front ++ w.more, next.1, w.goes_on, next.2, sym (append_assoc w.front w.more next.1));
      broken = broken_first first second w.front w.tail w.broken;
    }

-- two readers one after the other are exact, if the second has a text whatever the first reads
pub both_next : {X Y : Type 0} (first : List ℕ → Result (X × List ℕ) ℕ) (second : X → List ℕ → Result (Y × List ℕ) ℕ) (First : X → List ℕ → Type 0) (Second : X → Y → List ℕ → Type 0)
    → Reads first First → Nexts First second Second → Lives First Second → Reads (and_then first second) (Then First Second)
both_next first second First Second one two lives = record {
  found = found_both first second First Second one two;
  again = again_both first second First Second one two;
  wrong = λ bytes left fits e. wrong_both first second First Second one two lives bytes left fits (first bytes) refl e;
}

pub both : {X Y : Type 0} (first : List ℕ → Result (X × List ℕ) ℕ) (second : X → List ℕ → Result (Y × List ℕ) ℕ) (First : X → List ℕ → Type 0) (Second : X → Y → List ℕ → Type 0)
    → Reads first First → ((x : X) → Reads (second x) (Second x)) → Lives First Second → Reads (and_then first second) (Then First Second)
both first second First Second one two lives = both_next first second First Second one (λ x a is. two x) lives

-- ---- what is made of what was read

abbrev pub mapped : {X Y : Type 0} → (X → Y) → (List ℕ → Result (X × List ℕ) ℕ) → List ℕ → Result (Y × List ℕ) ℕ
mapped f read bytes = read bytes >>= λ a. Ok (f a.0, a.1)

abbrev pub made : {Y : Type 0} → Y → List ℕ → Result (Y × List ℕ) ℕ
made y rest = Ok (y, rest)

ok_parts : {Y : Type 0} (y z : Y) (r s : List ℕ) → made y r ≡ made z s → (y ≡ z) × (r ≡ s)
ok_parts {Y = Y} y z r s e = let p = ok_is (y, r) (z, s) e in (ap (λ (x : Y × List ℕ). x.0) p, ap (λ (x : Y × List ℕ). x.1) p)

map_broken : {X Y : Type 0} (f : X → Y) (read : List ℕ → Result (X × List ℕ) ℕ) (front tail : List ℕ) → Broken read front tail → Broken (mapped f read) front tail
map_broken f read front [] broken = tt
map_broken f read front (b ∷ bs) broken = λ more. err_bind (read (front ++ b ∷ more)) (λ a. Ok (f a.0, a.1)) (broken more)

map_wrong : {X Y : Type 0} (f : X → Y) (read : List ℕ → Result (X × List ℕ) ℕ) (Text : X → List ℕ → Type 0) (Other : Y → List ℕ → Type 0) → Reads read Text
    → ((x : X) (t : List ℕ) → Text x t → Other (f x) t) → (bytes : List ℕ) (left : ℕ) → IsBytes bytes → (r : Result (X × List ℕ) ℕ) → read bytes ≡ r → (r >>= λ a. made (f a.0) a.1) ≡ Err left → Wrong (mapped f read) Other bytes left
map_wrong f read Text Other reads to bytes left fits (Ok a) is e = absurd cc
map_wrong f read Text Other reads to bytes left fits (Err n) is e =
    let same : n ≡ left = cc in
    let w = reads.wrong bytes n fits is in
    record { front = w.front; tail = w.tail; parts = w.parts; size = w.size ∙ same; value = f w.value; more = w.more; goes_on = to w.value (w.front ++ w.more) w.goes_on; broken = map_broken f read w.front w.tail w.broken }

map_found : {X Y : Type 0} (f : X → Y) (read : List ℕ → Result (X × List ℕ) ℕ) (Text : X → List ℕ → Type 0) (Other : Y → List ℕ → Type 0) → Reads read Text
    → ((x : X) (t : List ℕ) → Text x t → Other (f x) t) → (bytes : List ℕ) (y : Y) (rest : List ℕ) → IsBytes bytes → mapped f read bytes ≡ Ok (y, rest) → Found Other bytes y rest
map_found f read Text Other reads to bytes y rest fits e =
    let a = bind_ok (read bytes) (λ a. Ok (f a.0, a.1)) (y, rest) e in
    let found = reads.found bytes a.0.0 a.0.1 fits a.1 in
    let p = ok_parts (f a.0.0) y a.0.1 rest a.2 in
    record { text = found.text; is = subst (λ z. Other z found.text) p.0 (to a.0.0 found.text found.is); parts = found.parts ∙ ap (λ (r : List ℕ). found.text ++ r) p.1; rest_fits = subst (λ r. IsBytes r) p.1 found.rest_fits }

-- a reader of texts that are the same, seen as texts of what is made of their values
pub map_reads : {X Y : Type 0} (f : X → Y) (read : List ℕ → Result (X × List ℕ) ℕ) (Text : X → List ℕ → Type 0) (Other : Y → List ℕ → Type 0) → Reads read Text
    → ((x : X) (t : List ℕ) → Text x t → Other (f x) t) → ((y : Y) (t : List ℕ) → Other y t → (x : X) × Text x t × (f x ≡ y)) → Reads (mapped f read) Other
map_reads f read Text Other reads to back = record {
  found = map_found f read Text Other reads to;
  again = λ y text rest is.
      let x = back y text is in
      ap (λ r. r >>= λ a. made (f a.0) a.1) (reads.again x.0 text rest x.1) ∙ ap (λ z. made z rest) x.2;
  wrong = λ bytes left fits e. map_wrong f read Text Other reads to bytes left fits (read bytes) refl e;
}

-- ---- the same texts, said otherwise

abbrev pub Implies : {X : Type 0} → (X → List ℕ → Type 0) → (X → List ℕ → Type 0) → Type 0
Implies {X = X} Text Other = (x : X) (t : List ℕ) → Text x t → Other x t

pub seen_as : {X : Type 0} (read : List ℕ → Result (X × List ℕ) ℕ) (Text Other : X → List ℕ → Type 0) → Reads read Text → Implies Text Other → Implies Other Text → Reads read Other
seen_as read Text Other reads to back = record {
  found = λ bytes x rest fits e. let f = reads.found bytes x rest fits e in record { text = f.text; is = to x f.text f.is; parts = f.parts; rest_fits = f.rest_fits };
  again = λ x text rest is. reads.again x text rest (back x text is);
  wrong = λ bytes left fits e. let w = reads.wrong bytes left fits e in record { front = w.front; tail = w.tail; parts = w.parts; size = w.size; value = w.value; more = w.more; goes_on = to w.value (w.front ++ w.more) w.goes_on; broken = w.broken };
}

-- ---- nothing is read

abbrev pub IsMade : {Y : Type 0} → Y → Y → List ℕ → Type 0
IsMade y z text = (z ≡ y) × (text ≡ [])

made_found : {Y : Type 0} (y : Y) (bytes : List ℕ) (z : Y) (rest : List ℕ) → IsBytes bytes → made y bytes ≡ Ok (z, rest) → Found (IsMade y) bytes z rest
made_found y bytes z rest fits e =
    let p = ok_parts y z bytes rest e in
    record { text = []; is = (sym p.0, refl); parts = p.1; rest_fits = subst (λ r. IsBytes r) p.1 fits }

made_wrong : {Y : Type 0} (y : Y) (bytes : List ℕ) (left : ℕ) → IsBytes bytes → made y bytes ≡ Err left → Wrong (λ b. made y b) (IsMade y) bytes left
made_wrong y bytes left fits e = absurd cc

pub made_reads : {Y : Type 0} (y : Y) → Reads (λ b. made y b) (IsMade y)
made_reads y = record {
  found = made_found y;
  again = λ z text rest is. ap (λ t. made y (t ++ rest)) is.1 ∙ ap (λ w. made w rest) (sym is.0);
  wrong = made_wrong y;
}

-- ---- one reader or another, by a test that was made before

abbrev pub Either : {X : Type 0} → Bool → (X → List ℕ → Type 0) → (X → List ℕ → Type 0) → X → List ℕ → Type 0
Either true Text Other x t = Text x t
Either false Text Other x t = Other x t

pub either_reads : {X : Type 0} (b : Bool) (one two : List ℕ → Result (X × List ℕ) ℕ) (Text Other : X → List ℕ → Type 0) → Reads one Text → Reads two Other → Reads (λ bytes. cond b (one bytes) (two bytes)) (Either b Text Other)
either_reads true one two Text Other r s = r
either_reads false one two Text Other r s = s

-- ---- values that are made of others

abbrev pub Image : {X Y : Type 0} → (X → Y) → (X → List ℕ → Type 0) → Y → List ℕ → Type 0
Image {X = X} f Text y text = (x : X) × Text x text × (f x ≡ y)

pub image_reads : {X Y : Type 0} (f : X → Y) (read : List ℕ → Result (X × List ℕ) ℕ) (Text : X → List ℕ → Type 0) → Reads read Text → Reads (mapped f read) (Image f Text)
image_reads f read Text reads = map_reads f read Text (Image f Text) reads (λ x t is. (x, is, refl)) (λ y t is. is)

-- ---- readers of all of the bytes

pub record WrongAll {X : Type 0} (read : List ℕ → Result X ℕ) (Text : X → List ℕ → Type 0) (bytes : List ℕ) (left : ℕ) : Type 0 where
  pub front : List ℕ
  pub tail : List ℕ
  pub parts : bytes ≡ front ++ tail
  pub size : length tail ≡ left
  pub value : X
  pub more : List ℕ
  pub goes_on : Text value (front ++ more)
  pub broken : Broken read front tail

pub record ReadsAll {X : Type 0} (read : List ℕ → Result X ℕ) (Text : X → List ℕ → Type 0) : Type 0 where
  pub found : (bytes : List ℕ) (x : X) → IsBytes bytes → read bytes ≡ Ok x → Text x bytes
  pub again : (x : X) (text : List ℕ) → Text x text → read text ≡ Ok x
  pub wrong : (bytes : List ℕ) (left : ℕ) → IsBytes bytes → read bytes ≡ Err left → WrongAll read Text bytes left

abbrev pub NextAlls : {X Y : Type 0} → (X → List ℕ → Type 0) → (X → List ℕ → Result Y ℕ) → (X → Y → List ℕ → Type 0) → Type 0
NextAlls {X = X} First second Second = (x : X) (a : List ℕ) → First x a → ReadsAll (second x) (Second x)

abbrev pub then_all : {X Y : Type 0} → (List ℕ → Result (X × List ℕ) ℕ) → (X → List ℕ → Result Y ℕ) → List ℕ → Result Y ℕ
then_all first second bytes = first bytes >>= λ a. second a.0 a.1

all_first : {X Y : Type 0} (first : List ℕ → Result (X × List ℕ) ℕ) (second : X → List ℕ → Result Y ℕ) (front tail : List ℕ) → Broken first front tail → Broken (then_all first second) front tail
all_first first second front [] broken = tt
all_first first second front (b ∷ bs) broken = λ more. err_bind (first (front ++ b ∷ more)) (λ a. second a.0 a.1) (broken more)

all_second : {X Y : Type 0} (first : List ℕ → Result (X × List ℕ) ℕ) (second : X → List ℕ → Result Y ℕ) (First : X → List ℕ → Type 0) (reads : Reads first First) (x : X) (a front tail : List ℕ) → First x a → Broken (second x) front tail → Broken (then_all first second) (a ++ front) tail
all_second first second First reads x a front [] is broken = tt
all_second first second First reads x a front (b ∷ bs) is broken = λ more.
    let at : first ((a ++ front) ++ b ∷ more) ≡ Ok (x, front ++ b ∷ more) = ap first (append_assoc a front (b ∷ more)) ∙ reads.again x a (front ++ b ∷ more) is in
    is_err (then_all first second ((a ++ front) ++ b ∷ more)) (second x (front ++ b ∷ more)) (ap (λ r. r >>= λ p. second p.0 p.1) at) (broken more)

wrong_all : {X Y : Type 0} (first : List ℕ → Result (X × List ℕ) ℕ) (second : X → List ℕ → Result Y ℕ) (First : X → List ℕ → Type 0) (Second : X → Y → List ℕ → Type 0)
    → Reads first First → NextAlls First second Second → Lives First Second → (bytes : List ℕ) (left : ℕ) → IsBytes bytes
    → (r : Result (X × List ℕ) ℕ) → first bytes ≡ r → (r >>= λ a. second a.0 a.1) ≡ Err left → WrongAll (then_all first second) (Then First Second) bytes left
wrong_all first second First Second one two lives bytes left fits (Ok (x, rest)) read e =
    let f = one.found bytes x rest fits read in
    let w = (two x f.text f.is).wrong rest left f.rest_fits e in
    record {
      front = f.text ++ w.front;
      tail = w.tail;
      parts = f.parts ∙ ap (λ (t : List ℕ). f.text ++ t) w.parts ∙ sym (append_assoc f.text w.front w.tail);
      size = w.size;
      value = w.value;
      more = w.more;
      goes_on = (x, f.text, w.front ++ w.more, f.is, w.goes_on, append_assoc f.text w.front w.more);
      broken = all_second first second First one x f.text w.front w.tail f.is w.broken;
    }
wrong_all first second First Second one two lives bytes left fits (Err n) read e =
    let same : n ≡ left = cc in
    let w = one.wrong bytes n fits read in
    let next = lives w.value (w.front ++ w.more) w.goes_on in
    record {
      front = w.front;
      tail = w.tail;
      parts = w.parts;
      size = w.size ∙ same;
      value = next.0;
      more = w.more ++ next.1;
      goes_on = (w.value, w.front ++ w.more, next.1, w.goes_on, next.2, sym (append_assoc w.front w.more next.1));
      broken = all_first first second w.front w.tail w.broken;
    }

found_all : {X Y : Type 0} (first : List ℕ → Result (X × List ℕ) ℕ) (second : X → List ℕ → Result Y ℕ) (First : X → List ℕ → Type 0) (Second : X → Y → List ℕ → Type 0)
    → Reads first First → NextAlls First second Second → (bytes : List ℕ) (y : Y) → IsBytes bytes → then_all first second bytes ≡ Ok y → Then First Second y bytes
found_all first second First Second one two bytes y fits e =
    let a = bind_ok (first bytes) (λ a. second a.0 a.1) y e in
    let f = one.found bytes a.0.0 a.0.1 fits a.1 in
    (a.0.0, f.text, a.0.1, f.is, (two a.0.0 f.text f.is).found a.0.1 y f.rest_fits a.2, f.parts)

again_all : {X Y : Type 0} (first : List ℕ → Result (X × List ℕ) ℕ) (second : X → List ℕ → Result Y ℕ) (First : X → List ℕ → Type 0) (Second : X → Y → List ℕ → Type 0)
    → Reads first First → NextAlls First second Second → (y : Y) (text : List ℕ) → Then First Second y text → then_all first second text ≡ Ok y
again_all first second First Second one two y text (x, a, b, is, next, parts) =
    let at : first text ≡ Ok (x, b) = ap first parts ∙ one.again x a b is in
    ap (λ r. r >>= λ p. second p.0 p.1) at ∙ (two x a is).again y b next

-- a reader and then one of all of the rest
pub both_all_next : {X Y : Type 0} (first : List ℕ → Result (X × List ℕ) ℕ) (second : X → List ℕ → Result Y ℕ) (First : X → List ℕ → Type 0) (Second : X → Y → List ℕ → Type 0)
    → Reads first First → NextAlls First second Second → Lives First Second → ReadsAll (then_all first second) (Then First Second)
both_all_next first second First Second one two lives = record {
  found = found_all first second First Second one two;
  again = again_all first second First Second one two;
  wrong = λ bytes left fits e. wrong_all first second First Second one two lives bytes left fits (first bytes) refl e;
}

pub both_all : {X Y : Type 0} (first : List ℕ → Result (X × List ℕ) ℕ) (second : X → List ℕ → Result Y ℕ) (First : X → List ℕ → Type 0) (Second : X → Y → List ℕ → Type 0)
    → Reads first First → ((x : X) → ReadsAll (second x) (Second x)) → Lives First Second → ReadsAll (then_all first second) (Then First Second)
both_all first second First Second one two lives = both_all_next first second First Second one (λ x a is. two x) lives
