-- Bytes that are written piece by piece.
use Rattle.std.proofs.Common.{◌≡◌, ℕ, ◌+◌, ◌<◌, ◌==◌, false, cond, List, [], ◌∷◌, ◌++◌, length, take, drop, Option, Some, None, Result, Ok, Err, IsErr, refl, ◌∙◌, ap, subst, append_assoc, sym, true≢false, arith}
use Rattle.std.proofs.lemmas.Bool.Decides.{nat_tests}
use Rattle.std.proofs.KnownBytes.{Appends-trans}
use Rattle.std.proofs.Math.Seq.{take-add}
use Rattle.std.specs.Io.KnownBytes.{Appends, Keeps}
use Rattle.lynx_outside.specs.System.{SystemCall, Opening, Writing}
use Rattle.lynx_outside.specs.Writing.{Left, Leads, Made, begun, left_tried, left_after, left_by}
use Rattle.std.specs.IoError.{error_kind}
use Rattle.std.specs.declared.io.Error.{Error}
use Rattle.lynx_outside.specs.Faults.{last_count}
use Rattle.lynx_outside.specs.Host.{writing_of, answer_of_write, failed_by}
use Rattle.lynx_outside.specs.Sink.{put_of}
use Rattle.lynx_outside.specs.declared.system.WriteAnswer.{WriteAnswer}

-- the first n bytes, and the first m of those left
pub Appends-take : (old mid new : Option (List ℕ)) (bytes : List ℕ) (n m : ℕ) → Appends old mid (take n bytes) → Appends mid new (take m (drop n bytes)) → Appends old new (take (n + m) bytes)
Appends-take old mid new bytes n m first second = rw (take-add n m bytes) (Appends-trans old mid new _ _ first second)

-- bytes that were kept, and then more bytes
pub Keeps-then : (a b c : Option (List ℕ)) (bytes : List ℕ) → Keeps a b → Appends b c bytes → Appends a c bytes
Keeps-then None b c bytes p q = tt
Keeps-then (Some x) None c bytes p q = absurd p
Keeps-then (Some x) (Some y) None bytes p q = absurd q
Keeps-then (Some x) (Some y) (Some z) bytes p q = q ∙ ap (λ l. l ++ bytes) p

Leads-append : (from mid to : Option Left) (xs ys : List SystemCall) → Leads from xs mid → Leads mid ys to → Leads from (xs ++ ys) to
Leads-append from mid to [] ys a b = subst (λ (left : Option Left). Leads left ys to) a b
Leads-append None mid to (x ∷ xs) ys a b = absurd a
Leads-append (Some left) mid to (Opening name refusal ∷ xs) ys a b = absurd a
Leads-append (Some left) mid to (Writing bytes answer ∷ xs) ys a b = (a.0, a.1, Leads-append (left_after left answer) mid to xs ys a.2 b)

-- calls, and then more calls
pub Made-then : {old mid new : List SystemCall} {from at to : Option Left} → Made old mid from at → Made mid new at to → Made old new from to
Made-then {old} {mid} {new} {from} {at} {to} a b = record {
  calls = a.calls ++ b.calls;
  logged = b.logged ∙ (ap (λ l. l ++ b.calls) a.logged ∙ append_assoc old a.calls b.calls);
  leads = Leads-append from at to a.calls b.calls a.leads b.leads;
}

-- what is left, under another name
pub Made-to : {old new : List SystemCall} {from to other : Option Left} → to ≡ other → Made old new from to → Made old new from other
Made-to {old} {new} {from} same made = subst (Made old new from) same made

-- writes that were interrupted, and then one more write
pub tried : {old mid new : List SystemCall} {bytes : List ℕ} {tries : ℕ} {to : Option Left} (result : Result ℕ Error) → 0 < length bytes → tries < last_count → Made old mid (begun bytes) (left_tried bytes tries)
    → new ≡ mid ++ writing_of bytes result ∷ [] → left_after (record { bytes = bytes; interrupted = tries }) (answer_of_write result) ≡ to → Made old new (begun bytes) to
tried {bytes = bytes} {tries = tries} result some few made asked leaves =
    let left : Left = record { bytes = bytes; interrupted = tries } in
    let more : (tries == last_count) ≡ false = grind (arith, nat_tests) in
    Made-then (Made-to (ap (λ b. cond b None (Some left)) more) made)
    (record { calls = writing_of bytes result ∷ []; logged = asked; leads = (some, refl, sym leaves) })

-- what is left after a write that took nothing, that took bytes, and that failed
pub took_nothing : (left : Left) {result : Result ℕ Error} {taken : ℕ} → result ≡ Ok taken → taken ≡ 0 → left_after left (answer_of_write result) ≡ None
took_nothing left is none = ap (λ r. left_after left (answer_of_write r)) is ∙ ap (λ n. cond (n == 0) None (begun (drop n left.bytes))) none

pub took : (left : Left) {result : Result ℕ Error} {taken : ℕ} → result ≡ Ok taken → (taken == 0) ≡ false → left_after left (answer_of_write result) ≡ begun (drop taken left.bytes)
took left {taken = taken} is some = ap (λ r. left_after left (answer_of_write r)) is ∙ ap (λ b. cond b None (begun (drop taken left.bytes))) some

pub failed : (left : Left) {result : Result ℕ Error} {error : Error} {answer : WriteAnswer} → result ≡ Err error → failed_by (error_kind error) ≡ answer → left_after left (answer_of_write result) ≡ left_after left answer
failed left is by = ap (λ r. left_after left (answer_of_write r)) is ∙ ap (left_after left) by

-- a put that failed leaves nothing to be written
pub failed_leaves : {T E : Type 0} (bytes : List ℕ) (result : Result T E) → IsErr result → left_by (put_of bytes result) ≡ None
failed_leaves bytes (Ok done) is = absurd (true≢false (sym is))
failed_leaves bytes (Err error) is = refl
