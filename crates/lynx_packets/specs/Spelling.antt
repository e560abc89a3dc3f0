-- Run-time packets and their bytes. All numbers are big-endian.
use Rattle.std.specs.Prelude.{◌≡◌, ◌≢◌, ℕ, zero, suc, List, [], ◌∷◌, ◌++◌, ◌<◌, ◌≤◌, ℤ, pos, FitsSigned, Bool, true, false, IsTrue, length, take, cond, Result, Ok, Err}
use Rattle.std.specs.List.{flat_map, sum_by, AllByRecursion}
use Rattle.std.specs.Int.{w32, w64, cast_unsigned, to_be_bytes}
use Rattle.lynx_lexer.specs.declared.keyword.Keyword.{Keyword}
use Rattle.lynx_lexer.specs.Words.{word_of}
use Rattle.lynx_lexer.specs.Pieces.{IsWord}
use Rattle.lynx_tree.specs.declared.declaration.TypeName.{TypeName}
use Rattle.lynx_tree.specs.declared.declaration.TypeName.TheVariants as types
use Rattle.lynx_tree.specs.Trees.{OpTree}
use Rattle.typing_rules.specs.Types.{has_length}
use Rattle.typing_rules.specs.Signatures.{signature_text}
use Rattle.charlotte_calls.specs.Ranges.{AreBytes, IsU32}
use Rattle.lynx_packets.specs.declared.value.RtValue.{RtValue}
use Rattle.lynx_packets.specs.declared.value.RtValue.TheVariants as values
use Rattle.lynx_packets.specs.declared.packet.RtPacket.{RtPacket}
use Rattle.lynx_packets.specs.declared.packet.RtPacket.TheVariants as packets
use Rattle.lynx_packets.specs.declared.fault.DecodeFault.{DecodeFault}
use Rattle.lynx_packets.specs.declared.fault.DecodeFault.TheVariants as faults

-- ---- spellings

-- a number of a value: an i64 in two's complement
unfoldable pub int_text : ℤ → List ℕ
int_text n = to_be_bytes w64 (cast_unsigned w64 n)

-- a number of a packet: a u32
unfoldable pub number_text : ℕ → List ℕ
number_text n = to_be_bytes w32 n

abbrev pub bool_text : Bool → List ℕ
bool_text b = cond b (1 ∷ []) (0 ∷ [])

-- a value, behind a byte that tells its type
unfoldable pub value_text : RtValue → List ℕ
value_text (values.Int n) = 1 ∷ int_text n
value_text (values.Bool b) = 2 ∷ bool_text b
value_text (values.Text bytes) = 3 ∷ length bytes ∷ bytes
value_text (values.Row numbers) = 4 ∷ length numbers ∷ flat_map int_text numbers
value_text values.Link = 5 ∷ []

abbrev pub values_text : List RtValue → List ℕ
values_text vs = flat_map value_text vs

-- the one spelling of a packet, which is the same in each version that has it
unfoldable pub spelling : RtPacket → List ℕ
spelling (packets.Request n signature vs) = 1 ∷ number_text n ++ length signature ∷ signature ++ values_text vs
spelling (packets.Reply n status vs) = 2 ∷ number_text n ++ status ∷ values_text vs
spelling (packets.Retry n) = 3 ∷ number_text n
spelling (packets.Forbid n) = 4 ∷ number_text n
spelling (packets.Allow n) = 5 ∷ number_text n
spelling (packets.GoAhead n) = 6 ∷ number_text n
spelling (packets.Enc kind n index) = 7 ∷ kind ∷ number_text n ++ index ∷ []

-- ---- which packets there are

-- a number of a value
abbrev pub IsI64 : ℤ → Type 0
IsI64 n = FitsSigned w64 n

-- a value within its type
abbrev pub IsValue : RtValue → Type 0
IsValue (values.Int n) = IsI64 n
IsValue (values.Bool b) = Unit {0}
IsValue (values.Text bytes) = AreBytes bytes × (length bytes ≤ 64)
IsValue (values.Row numbers) = AllByRecursion IsI64 numbers × (0 < length numbers) × (length numbers ≤ 16)
IsValue values.Link = Unit {0}

abbrev pub is_link : RtValue → Bool
is_link values.Link = true
is_link _ = false

abbrev pub links_of : List RtValue → ℕ
links_of vs = sum_by (λ v. cond (is_link v) 1 0) vs

-- values of which at most eight are links
pub record AreValues (vs : List RtValue) : Type 0 where
  pub each : AllByRecursion IsValue vs
  pub few : links_of vs ≤ 8

-- the value is of the type
abbrev pub HasType : RtValue → TypeName → Type 0
HasType (values.Int n) types.Int = Unit {0}
HasType (values.Bool b) types.Bool = Unit {0}
HasType (values.Text bytes) types.Text = Unit {0}
HasType (values.Row numbers) (types.Row n) = pos (length numbers) ≡ n
HasType values.Link types.Link = Unit {0}
HasType _ _ = ⊥

-- as many values as types, and each of its type
abbrev pub HaveTypes : List RtValue → List TypeName → Type 0
HaveTypes [] [] = Unit {0}
HaveTypes (v ∷ vs) (t ∷ ts) = HasType v t × HaveTypes vs ts
HaveTypes _ _ = ⊥

-- a name of the language: a word of at most 32 bytes that is no keyword
pub record IsName (name : List ℕ) : Type 0 where
  pub word : IsWord name
  pub free : (keyword : Keyword) → name ≢ word_of keyword
  pub short : length name ≤ 32

-- an operation whose signature a request can carry
pub record IsOperation (op : OpTree) : Type 0 where
  pub name : IsName op.name
  pub arguments : AllByRecursion (λ t. IsTrue (has_length t)) op.arguments
  pub results : AllByRecursion (λ t. IsTrue (has_length t)) op.results
  pub short : length (signature_text op) ≤ 255

-- a signature, and the values are arguments of an operation that has it
pub record IsRequestOf (op : OpTree) (signature : List ℕ) (vs : List RtValue) : Type 0 where
  pub operation : IsOperation op
  pub spelled : signature ≡ signature_text op
  pub typed : HaveTypes vs op.arguments

-- a reply is done (0), or failed (1) with no values
abbrev pub IsReplyOf : ℕ → List RtValue → Type 0
IsReplyOf zero vs = Unit {0}
IsReplyOf (suc zero) vs = vs ≡ []
IsReplyOf _ vs = ⊥

-- a packet of one of the versions
abbrev pub IsPacket : RtPacket → Type 0
IsPacket (packets.Request n signature vs) = IsU32 n × AreValues vs × (op : OpTree) × IsRequestOf op signature vs
IsPacket (packets.Reply n status vs) = IsU32 n × AreValues vs × IsReplyOf status vs
IsPacket (packets.Retry n) = IsU32 n
IsPacket (packets.Forbid n) = IsU32 n
IsPacket (packets.Allow n) = IsU32 n
IsPacket (packets.GoAhead n) = IsU32 n
IsPacket (packets.Enc kind n index) = (1 ≤ kind) × (kind ≤ 2) × IsU32 n × (2 ≤ index) × (index ≤ 8)

-- version 1 has each packet, version 2 has neither goahead nor enc
abbrev pub Has : ℕ → RtPacket → Type 0
Has version (packets.GoAhead n) = version ≡ 1
Has version (packets.Enc kind n index) = version ≡ 1
Has version _ = Unit {0}

-- the bytes spell the packet in the version
pub record Spells (version : ℕ) (packet : RtPacket) (bytes : List ℕ) : Type 0 where
  pub has : Has version packet
  pub obeys : IsPacket packet
  pub spelled : bytes ≡ spelling packet

-- some bytes behind these complete a spelling
abbrev pub Begins : ℕ → List ℕ → Type 0
Begins version bytes = (packet : RtPacket) × (more : List ℕ) × Spells version packet (bytes ++ more)

-- no packet spells the bytes, and the longest front of them that begins a spelling has this length
pub record IsWrongAt (version : ℕ) (bytes : List ℕ) (at : ℕ) : Type 0 where
  pub none : (packet : RtPacket) → Spells version packet bytes → ⊥
  pub within : at ≤ length bytes
  pub begins : Begins version (take at bytes)
  pub longest : (n : ℕ) → n ≤ length bytes → Begins version (take n bytes) → n ≤ at

-- what decoding answered is the packet, unless memory ran out
abbrev pub IsUnlessMemory : Result RtPacket DecodeFault → RtPacket → Type 0
IsUnlessMemory (Ok found) packet = found ≡ packet
IsUnlessMemory (Err (faults.BadPacket at)) packet = ⊥
IsUnlessMemory (Err faults.NoMemory) packet = Unit {0}
