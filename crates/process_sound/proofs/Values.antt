-- Values as they travel, and as a machine has them.
use Rattle.std.proofs.Common.{arith, ◌≡◌, ℕ, zero, suc, ◌+◌, ◌<◌, ◌≤◌, ℤ, pos, negsuc, Bool, true, false, cond, if◌then◌else◌, IsTrue, List, [], ◌∷◌, ◌++◌, length, drop, nat_le, None, Some, Ok, Err, refl, sym, ap, subst, ◌∙◌, true≢false, length-append}
use Rattle.std.proofs.lemmas.Bool.{and_parts, leb-true}
use Rattle.std.proofs.lemmas.List.Sums.{sum_by-cons}
use Rattle.std.specs.List.{AllByRecursion}
use Rattle.charlotte_calls.specs.Ranges.{IsU32}
use Rattle.charlotte_calls.specs.declared.names.EndId.{EndId}
use Rattle.lynx_tree.specs.Trees.{OpTree}
use Rattle.lynx_tree.specs.declared.declaration.TypeName.{TypeName}
use Rattle.lynx_tree.specs.declared.declaration.TypeName.TheVariants as types
use Rattle.typing_rules.specs.Signatures.{links_among, signature_text}
use Rattle.typing_rules.specs.Types.{has_length, is_length, is_link, same_type}
use Rattle.typing_rules.specs.declared.exception.Exception.TheVariants as exceptions
use Rattle.typing_signatures.specs.Facts.{HasFacts, HaveLengths}
use Rattle.compiler_shapes.proofs.Operands.{same_is}
use Rattle.lynx_meaning.specs.Values.{HasType, HaveTypes, Int, Link, Row, Text, Truth, Value, is_int}
use Rattle.machine_values.proofs.Within.{in_range}
use Rattle.lynx_packets.specs.declared.packet.RtPacket.TheVariants as packets
use Rattle.lynx_packets.specs.declared.value.RtValue.{RtValue}
use Rattle.lynx_packets.specs.declared.value.RtValue.TheVariants as values
use Rattle.lynx_packets.specs.Spelling.{AreValues, IsI64, IsName, IsOperation, IsValue, links_of}
use Rattle.lynx_packets.specs.Spelling as spelling
use Rattle.end_protocol.specs.Hearing.{have_types, type_of}
use Rattle.process_run.specs.Ends.{ends_at, end_of, held_at, links_in, packed_of, values_of}
use Rattle.process_run.specs.States.{State}
use Rattle.process_sound.specs.Packets.{IsOfBytes, MayAsk, MaySend, Unpack}
use Rattle.process_sound.proofs.Sends.{IsShort, reply_long, request_long, values_long}

-- ---- values that came

in_range_so : (b : Bool) (n : ℤ) → (if b then Ok (Int n) else Err exceptions.Overflow) ≡ Ok (Int n) → IsTrue b
in_range_so true n e = refl
in_range_so false n e = let no : Err exceptions.Overflow ≡ Ok (Int n) = e in cc

int_fits : (n : ℤ) → IsI64 n → IsTrue (is_int n)
int_fits n fits = in_range_so (is_int n) n (in_range n fits)

ints_fit : (ns : List ℤ) → AllByRecursion IsI64 ns → AllByRecursion (λ member. IsTrue (is_int member)) ns
ints_fit [] all = tt
ints_fit (n ∷ ns) all = (int_fits n all.0, ints_fit ns all.1)

int_typed : (t : TypeName) (n : ℤ) → IsI64 n → spelling.HasType (values.Int n) t → HasType t (Int n)
int_typed types.Int n fits is = int_fits n fits
int_typed _ n fits is = absurd is

truth_typed : (t : TypeName) (b : Bool) → spelling.HasType (values.Bool b) t → HasType t (Truth b)
truth_typed types.Bool b is = tt
truth_typed _ b is = absurd is

text_typed : (t : TypeName) (bytes : List ℕ) → length bytes ≤ 64 → spelling.HasType (values.Text bytes) t → HasType t (Text bytes)
text_typed types.Text bytes few is = few
text_typed _ bytes few is = absurd is

row_typed : (t : TypeName) (ns : List ℤ) → AllByRecursion IsI64 ns → spelling.HasType (values.Row ns) t → HasType t (Row ns)
row_typed (types.Row n) ns fits is = (is, ints_fit ns fits)
row_typed _ ns fits is = absurd is

link_typed : (t : TypeName) (n : ℕ) → spelling.HasType values.Link t → HasType t (Link n)
link_typed types.Link n is = tt
link_typed _ n is = absurd is

-- They have their types, whatever the numbers of their links are.
pub unpack : (ts : List TypeName) (vs : List RtValue) → AllByRecursion IsValue vs → spelling.HaveTypes vs ts → Unpack ts vs
unpack [] [] each is n = tt
unpack [] (v ∷ vs) each is n = absurd is
unpack (t ∷ ts) [] each is n = absurd is
unpack (t ∷ ts) (values.Int i ∷ vs) each is n = (int_typed t i each.0 is.0, unpack ts vs each.1 is.1 n)
unpack (t ∷ ts) (values.Bool b ∷ vs) each is n = (truth_typed t b is.0, unpack ts vs each.1 is.1 n)
unpack (t ∷ ts) (values.Text bytes ∷ vs) each is n = (text_typed t bytes each.0.1 is.0, unpack ts vs each.1 is.1 n)
unpack (t ∷ ts) (values.Row ns ∷ vs) each is n = (row_typed t ns each.0.0 is.0, unpack ts vs each.1 is.1 n)
unpack (t ∷ ts) (values.Link ∷ vs) each is n = (link_typed t _ is.0, unpack ts vs each.1 is.1 _)

-- ---- by the test of a reply

own_type : (v : RtValue) → spelling.HasType v (type_of v)
own_type (values.Int n) = tt
own_type (values.Bool b) = tt
own_type (values.Text bytes) = tt
own_type (values.Row ns) = refl
own_type values.Link = tt

pub tested_types : (vs : List RtValue) (ts : List TypeName) → have_types vs ts ≡ true → spelling.HaveTypes vs ts
tested_types [] [] same = tt
tested_types [] (t ∷ ts) same = absurd (true≢false (sym same))
tested_types (v ∷ vs) [] same = absurd (true≢false (sym same))
tested_types (v ∷ vs) (t ∷ ts) same =
    let both = and_parts (same_type t (type_of v)) (have_types vs ts) same in
    (subst (λ (u : TypeName). spelling.HasType v u) (sym (same_is t (type_of v) both.0)) (own_type v), tested_types vs ts both.1)

-- ---- values that go

fits_int : (n : ℤ) → is_int n ≡ true → IsI64 n
fits_int (pos n) is = record { sfits = grind (arith, is) }
fits_int (negsuc n) is = record { sfits = grind (arith, is) }

fit_ints : (ns : List ℤ) → AllByRecursion (λ member. IsTrue (is_int member)) ns → AllByRecursion IsI64 ns
fit_ints [] all = tt
fit_ints (n ∷ ns) all = (fits_int n all.0, fit_ints ns all.1)

-- a value of the type, as it travels
record Goes (v : RtValue) (t : TypeName) : Type 0 where
  pub typed : spelling.HasType v t
  pub short : IsShort v
  pub obeys : has_length t ≡ true → IsOfBytes v → IsValue v
  pub links : ◌≡◌ {A = ℕ} (cond (spelling.is_link v) 1 0) (cond (is_link t) 1 0)

row_short : (ns : List ℤ) (n : ℤ) → pos (length ns) ≡ n → is_length n ≡ true → (0 < length ns) × (length ns ≤ 16)
row_short ns n size is =
    let both = and_parts (nat_le 1 (length ns)) (nat_le (length ns) 16) (ap is_length size ∙ is) in
    (leb-true 1 (length ns) both.0, leb-true (length ns) 16 both.1)

goes : (t : TypeName) (v : Value) → HasType t v → Goes (packed_of v) t
goes types.Int (Int n) is = record { typed = tt; short = tt; obeys = λ long bytes. fits_int n is; links = refl }
goes types.Bool (Truth b) is = record { typed = tt; short = tt; obeys = λ long bytes. tt; links = refl }
goes types.Text (Text bytes) is = record { typed = tt; short = is; obeys = λ long are. (are, is); links = refl }
goes types.Link (Link n) is = record { typed = tt; short = tt; obeys = λ long bytes. tt; links = refl }
goes (types.Row n) (Row ns) is = record {
  typed = is.0;
  short = tt;
  obeys = λ long bytes. let few = row_short ns n is.0 long in (fit_ints ns is.1, few.0, few.1);
  links = refl;
}
goes types.Int _ is = absurd is
goes types.Bool _ is = absurd is
goes types.Text _ is = absurd is
goes types.Link _ is = absurd is
goes (types.Row n) _ is = absurd is

-- values of the types
pub record AllGo (vs : List RtValue) (ts : List TypeName) : Type 0 where
  pub typed : spelling.HaveTypes vs ts
  pub short : AllByRecursion IsShort vs
  pub obey : HaveLengths ts → AllByRecursion IsOfBytes vs → AllByRecursion IsValue vs
  pub links : links_of vs ≡ links_among ts

pub all_go : (ts : List TypeName) (vs : List Value) → HaveTypes ts vs → AllGo (values_of vs) ts
all_go [] [] is = record { typed = tt; short = tt; obey = λ long bytes. tt; links = refl }
all_go [] (v ∷ vs) is = absurd is
all_go (t ∷ ts) [] is = absurd is
all_go (t ∷ ts) (v ∷ vs) is =
    let first = goes t v is.0 in
    let rest = all_go ts vs is.1 in
    record {
      typed = (first.typed, rest.typed);
      short = (first.short, rest.short);
      obey = λ long bytes. (first.obeys long.0 bytes.0, rest.obey long.1 bytes.1);
      links =
          let left = sum_by-cons (λ (x : RtValue). cond (spelling.is_link x) 1 0) (packed_of v) (values_of vs) in
          let right = sum_by-cons (λ (x : TypeName). cond (is_link x) 1 0) t ts in
          let one = first.links in
          let more = rest.links in
          omega arith;
    }

-- ---- requests and replies of an operation

operation : (op : OpTree) → HasFacts op → IsOperation op
operation op facts = record {
  name = record { word = facts.named.1; free = facts.named.2; short = facts.short_name };
  arguments = facts.arguments;
  results = facts.results;
  short = let few = facts.signature in omega arith;
}

pub may_ask : (op : OpTree) (vs : List Value) → HasFacts op → HaveTypes op.arguments vs → MayAsk (signature_text op) (values_of vs)
may_ask op vs facts is version number fits =
    let all = all_go op.arguments vs is in
    record {
      has = tt;
      obeys = λ bytes. (
        fits,
        record { each = all.obey facts.arguments bytes; few = let few = facts.few_arguments in let same = all.links in omega arith },
        op,
        record { operation = operation op facts; spelled = refl; typed = all.typed },
      );
      fits =
          let long = request_long number (signature_text op) (values_of vs) in
          let most = values_long (values_of vs) op.arguments all.short all.typed in
          let widest = facts.request in
          omega arith;
    }

pub may_reply : (op : OpTree) (vs : List Value) (version number : ℕ) → HasFacts op → HaveTypes op.results vs → IsU32 number → MaySend version (packets.Reply number 0 (values_of vs))
may_reply op vs version number facts is fits =
    let all = all_go op.results vs is in
    record {
      has = tt;
      obeys = λ bytes. (fits, record { each = all.obey facts.results bytes; few = let few = facts.few_results in let same = all.links in omega arith }, tt);
      fits =
          let long = reply_long number 0 (values_of vs) in
          let most = values_long (values_of vs) op.results all.short all.typed in
          let widest = facts.reply in
          omega arith;
    }

pub may_fail : (version number : ℕ) → IsU32 number → MaySend version (packets.Reply number 1 [])
may_fail version number fits = record {
  has = tt;
  obeys = λ bytes. (fits, record { each = tt; few = omega arith }, refl);
  fits = let long = reply_long number 1 [] in omega arith;
}

-- ---- how many ends

ends_few : (o : List EndId) (xs : List EndId) (n : ℕ) → length o ≤ 1 → length xs ≤ n → length (o ++ xs) ≤ suc n
ends_few o xs n one few = let both = length-append o xs in omega arith

one_end : (s : State) (n : ℕ) → length (end_of (held_at n s)) ≤ 1
one_end s n = elim (held_at n s) as (λ o. length (end_of o) ≤ 1) [ None ↦ omega arith | Some h ↦ omega arith ]

pub ends_of_links : (ns : List ℕ) (s : State) → length (ends_at ns s) ≤ length ns
ends_of_links [] s = omega arith
ends_of_links (n ∷ ns) s = ends_few (end_of (held_at n s)) (ends_at ns s) (length ns) (one_end s n) (ends_of_links ns s)

pub links_counted : (vs : List Value) → length (links_in vs) ≡ links_of (values_of vs)
links_counted [] = refl
links_counted (v ∷ vs) =
    let rest = links_counted vs in
    let sum = sum_by-cons (λ (x : RtValue). cond (spelling.is_link x) 1 0) (packed_of v) (values_of vs) in
    by_value v rest sum
  where
    by_value : (v : Value) → length (links_in vs) ≡ links_of (values_of vs) →
        links_of (packed_of v ∷ values_of vs) ≡ cond (spelling.is_link (packed_of v)) 1 0 + links_of (values_of vs) → length (links_in (v ∷ vs)) ≡ links_of (values_of (v ∷ vs))
    by_value (Int n) rest sum = omega (arith, rest, sum)
    by_value (Truth b) rest sum = omega (arith, rest, sum)
    by_value (Text bytes) rest sum = omega (arith, rest, sum)
    by_value (Row ns) rest sum = omega (arith, rest, sum)
    by_value (Link n) rest sum = omega (arith, rest, sum)

pub reply_ends : (op : OpTree) (vs : List Value) (s : State) → HasFacts op → HaveTypes op.results vs → drop 8 (ends_at (links_in vs) s) ≡ []
reply_ends op vs s facts is =
    let all = all_go op.results vs is in
    all_dropped 8 (ends_at (links_in vs) s)
    (let few = facts.few_results in let same = all.links in let ends = ends_of_links (links_in vs) s in let links = links_counted vs in omega arith)
  where
    all_dropped : (n : ℕ) (xs : List EndId) → length xs ≤ n → drop n xs ≡ []
    all_dropped zero [] few = refl
    all_dropped zero (x ∷ xs) few = absurd (omega (arith, few))
    all_dropped (suc n) [] few = refl
    all_dropped (suc n) (x ∷ xs) few = all_dropped n xs (omega (arith, few))
