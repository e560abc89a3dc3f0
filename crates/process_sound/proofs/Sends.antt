-- Packets that may be sent: no longer than a message may be.
use Rattle.std.proofs.Common.{arith, ◌≡◌, ℕ, zero, suc, ◌+◌, ◌*◌, ◌≤◌, ℤ, nat_abs, true, false, List, [], ◌∷◌, ◌++◌, length, take, refl, ap}
use Rattle.std.proofs.lemmas.List.{length-append}
use Rattle.std.proofs.lemmas.List.Sums.{sum_by-cons}
use Rattle.std.specs.List.{AllByRecursion, flat_map, sum_by}
use Rattle.charlotte_calls.specs.Ranges.{IsU32}
use Rattle.charlotte_calls.specs.declared.names.EndId.{EndId}
use Rattle.lynx_tree.specs.declared.declaration.TypeName.{TypeName}
use Rattle.lynx_tree.specs.declared.declaration.TypeName.TheVariants as types
use Rattle.typing_rules.specs.Signatures.{widest}
use Rattle.lynx_packets.specs.declared.packet.RtPacket.TheVariants as packets
use Rattle.lynx_packets.specs.declared.value.RtValue.{RtValue}
use Rattle.lynx_packets.specs.declared.value.RtValue.TheVariants as values
use Rattle.lynx_packets.specs.Spelling.{HasType, HaveTypes, int_text, number_text, spelling, value_text, values_text}
use Rattle.end_protocol.specs.declared.messages.Message.{Message}
use Rattle.end_protocol.specs.Messages.{encs, further}
use Rattle.process_sound.specs.Packets.{MaySend}

-- ---- how long spellings are

pub number_long : (n : ℕ) → length (number_text n) ≡ 4
unfolding number_text
number_long n = refl

int_long : (n : ℤ) → length (int_text n) ≡ 8
unfolding int_text
int_long n = refl

ints_long : (ns : List ℤ) → length (flat_map int_text ns) ≡ 8 * length ns
ints_long [] = omega arith
ints_long (n ∷ ns) =
    let both = length-append (int_text n) (flat_map int_text ns) in
    let first = int_long n in
    let rest = ints_long ns in
    omega arith

-- a value that is within its type is no longer than the widest one
abbrev pub IsShort : RtValue → Type 0
IsShort (values.Text bytes) = length bytes ≤ 64
IsShort _ = Unit {0}

value_long : (v : RtValue) (t : TypeName) → IsShort v → HasType v t → length (value_text v) ≤ widest t
unfolding value_text
value_long (values.Int n) types.Int short is = let long = int_long n in omega arith
value_long (values.Bool true) types.Bool short is = omega arith
value_long (values.Bool false) types.Bool short is = omega arith
value_long (values.Text bytes) types.Text short is = omega (arith, short)
value_long (values.Row ns) (types.Row n) short is =
    let long = ints_long ns in
    let size : length ns ≡ nat_abs n = ap nat_abs is in
    omega arith
value_long values.Link types.Link short is = omega arith
value_long (values.Int n) _ short is = absurd is
value_long (values.Bool b) _ short is = absurd is
value_long (values.Text bytes) _ short is = absurd is
value_long (values.Row ns) _ short is = absurd is
value_long values.Link _ short is = absurd is

pub values_long : (vs : List RtValue) (ts : List TypeName) → AllByRecursion IsShort vs → HaveTypes vs ts → length (values_text vs) ≤ sum_by widest ts
values_long [] [] short is = omega arith
values_long [] (t ∷ ts) short is = absurd is
values_long (v ∷ vs) [] short is = absurd is
values_long (v ∷ vs) (t ∷ ts) short is =
    let both = length-append (value_text v) (values_text vs) in
    let sum = sum_by-cons widest t ts in
    let first = value_long v t short.0 is.0 in
    let rest = values_long vs ts short.1 is.1 in
    omega arith

pub request_long : (n : ℕ) (signature : List ℕ) (vs : List RtValue) → length (spelling (packets.Request n signature vs)) ≡ 6 + length signature + length (values_text vs)
unfolding spelling
request_long n signature vs =
    let one = length-append (number_text n ++ length signature ∷ signature) (values_text vs) in
    let two = length-append (number_text n) (length signature ∷ signature) in
    let four = number_long n in
    omega arith

pub reply_long : (n status : ℕ) (vs : List RtValue) → length (spelling (packets.Reply n status vs)) ≡ 6 + length (values_text vs)
unfolding spelling
reply_long n status vs =
    let one = length-append (number_text n) (status ∷ values_text vs) in
    let four = number_long n in
    omega arith

-- ---- packets of a number alone

retry_long : (n : ℕ) → length (spelling (packets.Retry n)) ≡ 5
unfolding spelling
retry_long n = let four = number_long n in omega arith

forbid_long : (n : ℕ) → length (spelling (packets.Forbid n)) ≡ 5
unfolding spelling
forbid_long n = let four = number_long n in omega arith

allow_long : (n : ℕ) → length (spelling (packets.Allow n)) ≡ 5
unfolding spelling
allow_long n = let four = number_long n in omega arith

goahead_long : (n : ℕ) → length (spelling (packets.GoAhead n)) ≡ 5
unfolding spelling
goahead_long n = let four = number_long n in omega arith

enc_long : (kind n index : ℕ) → length (spelling (packets.Enc kind n index)) ≡ 7
unfolding spelling
enc_long kind n index = let both = length-append (number_text n) (index ∷ []) in let four = number_long n in omega arith

pub retry_sends : (version n : ℕ) → IsU32 n → MaySend version (packets.Retry n)
retry_sends version n fits = record { has = tt; obeys = λ bytes. fits; fits = let long = retry_long n in omega arith }

pub forbid_sends : (version n : ℕ) → IsU32 n → MaySend version (packets.Forbid n)
forbid_sends version n fits = record { has = tt; obeys = λ bytes. fits; fits = let long = forbid_long n in omega arith }

pub allow_sends : (version n : ℕ) → IsU32 n → MaySend version (packets.Allow n)
allow_sends version n fits = record { has = tt; obeys = λ bytes. fits; fits = let long = allow_long n in omega arith }

pub goahead_sends : (version n : ℕ) → version ≡ 1 → IsU32 n → MaySend version (packets.GoAhead n)
goahead_sends version n first fits = record { has = first; obeys = λ bytes. fits; fits = let long = goahead_long n in omega arith }

-- ---- further ends

abbrev AllSend : ℕ → List Message → Type 0
AllSend version ms = AllByRecursion (λ message. MaySend version message.packet) ms

encs_send : (version kind n index : ℕ) (xs : List EndId) → version ≡ 1 → 1 ≤ kind → kind ≤ 2 → IsU32 n → 2 ≤ index → index + length xs ≤ 9 → AllSend version (encs kind n index xs)
encs_send version kind n index [] first low high fits from to = tt
encs_send version kind n index (x ∷ xs) first low high fits from to = (
  record { has = first; obeys = λ bytes. (low, high, fits, from, omega (arith, to)); fits = let long = enc_long kind n index in omega arith },
  encs_send version kind n (index + 1) xs first low high fits (omega (arith, from)) (omega (arith, to)),
)

taken_few : (k : ℕ) (xs : List EndId) → length (take k xs) ≤ k
taken_few zero xs = omega arith
taken_few (suc k) [] = omega arith
taken_few (suc k) (x ∷ xs) = let rest = taken_few k xs in omega arith

pub further_send : (version kind n : ℕ) (xs : List EndId) → version ≡ 1 → 1 ≤ kind → kind ≤ 2 → IsU32 n → AllSend version (further kind n xs)
further_send version kind n xs first low high fits = encs_send version kind n 2 (take 7 xs) first low high fits (omega arith) (let few = taken_few 7 xs in omega arith)
