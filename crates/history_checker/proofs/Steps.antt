-- What is known of the lines so far goes on with each line.
use Rattle.std.proofs.Common.{◌≡◌, ◌⊎◌, inl, inr, ℕ, ◌+◌, true≢false, List, [], ◌∷◌, ◌++◌, length, Result, Ok, Err, Option, Some, None, refl, sym, ◌∙◌, subst}
use Rattle.std.proofs.lemmas.List.{append_assoc, append-nil, length-append}
use Rattle.charlotte_text.specs.Reading.{parts}
use Rattle.history_checker.proofs.Lines.{one_line}
use Rattle.history_checker.specs.Reading.{HasRead, IsFor, IsRefused, IsSoFar, IsWrong, Reads, answer_of}
use Rattle.history_checker.specs.declared.checker.Checker.{Checker}
use Rattle.history_run.proofs.Following.{begins, ends_well, fails, goes_on}
use Rattle.history_run.specs.Follow.{Follows, IsAt, IsNew}
use Rattle.history_run.specs.declared.fault.HistoryFault.{HistoryFault}
use Rattle.history_run.specs.declared.fault.HistoryFault.TheVariants as fault

pub starts : (c : Checker) → IsNew c.history → c.refusal ≡ None → HasRead [] c
starts c new none = record {
  so_far = λ bytes rest e.
      subst (λ r. IsSoFar r c.history [] bytes rest) (sym none) (subst (λ ps. IsAt bytes 0 ps c.history) e (begins bytes c.history new));
}

split : (bytes : List ℕ) (lines rest : List (List ℕ)) (text : List ℕ) → parts 10 bytes ≡ (lines ++ text ∷ []) ++ rest → parts 10 bytes ≡ lines ++ (text ∷ rest)
split bytes lines rest text e = e ∙ append_assoc lines (text ∷ []) rest

-- ---- refused

-- each text that begins with these lines has such a fault
abbrev Fails : List (List ℕ) → HistoryFault → Type 0
Fails lines why = (bytes : List ℕ) (rest : List (List ℕ)) → parts 10 bytes ≡ lines ++ rest → IsWrong bytes why

reads_fault : (lines : List (List ℕ)) (c : Checker) (why : HistoryFault) → c.refusal ≡ Some why → Fails lines why → Reads lines c (Err why)
reads_fault lines c why is each = record {
  read = record { so_far = λ bytes rest e. subst (λ r. IsSoFar r c.history lines bytes rest) (sym is) (each bytes rest e) };
  answers = record { all = λ bytes e. each bytes [] (e ∙ sym (append-nil lines)) };
}

-- a line was refused before
pub still : (lines : List (List ℕ)) (text : List ℕ) (c : Checker) (why : HistoryFault) → c.refusal ≡ Some why → HasRead lines c → Reads (lines ++ text ∷ []) c (Err why)
still lines text c why is read =
    reads_fault (lines ++ text ∷ []) c why is
    (λ bytes rest e. subst (λ r. IsSoFar r c.history lines bytes (text ∷ rest)) is (read.so_far bytes (text ∷ rest) (split bytes lines rest text e)))

-- where a checker was that has refused nothing
here : (lines : List (List ℕ)) (c : Checker) → c.refusal ≡ None → HasRead lines c → (bytes : List ℕ) (rest : List (List ℕ)) → parts 10 bytes ≡ lines ++ rest
    → IsAt bytes (length lines) rest c.history
here lines c none read bytes rest e = subst (λ r. IsSoFar r c.history lines bytes rest) none (read.so_far bytes rest e)

fails_so : (lines : List (List ℕ)) (text : List ℕ) (c : Checker) (why : HistoryFault) → c.refusal ≡ None → HasRead lines c → IsRefused text c.history why
    → Fails (lines ++ text ∷ []) why
fails_so lines text c why none read (inl is) = λ bytes rest e.
    let at = here lines c none read bytes (text ∷ rest) (split bytes lines rest text e) in
    (length lines + 1, fails (Unit {0}) bytes (length lines) (text ∷ rest) text rest c.history why refl is at)
fails_so lines text c why none read (inr is) = λ bytes rest e. absurd (true≢false (sym (one_line bytes lines rest text e) ∙ is.1))

told_fails : (lines : List (List ℕ)) (why told : HistoryFault) → (told ≡ why) ⊎ (told ≡ fault.NoMemory) → Fails lines why → Fails lines told
told_fails lines why told (inl is) each = subst (Fails lines) (sym is) each
told_fails lines why told (inr is) each = subst (Fails lines) (sym is) (λ bytes rest e. (0, tt))

kept_so : (lines : List (List ℕ)) (new : Checker) (why : HistoryFault) (r : Option HistoryFault) → new.refusal ≡ r → IsFor why r → Fails lines why → Reads lines new (answer_of r)
kept_so lines new why None is none each = absurd none
kept_so lines new why (Some told) is one each = reads_fault lines new told is (told_fails lines why told one each)

-- a line is refused
pub refused : (lines : List (List ℕ)) (text : List ℕ) (old new : Checker) (why : HistoryFault) (answer : Result (Unit {0}) HistoryFault)
    → old.refusal ≡ None → HasRead lines old → IsRefused text old.history why → IsFor why new.refusal → answer ≡ answer_of new.refusal
    → Reads (lines ++ text ∷ []) new answer
refused lines text old new why answer none read is one e =
    let all = lines ++ text ∷ [] in
    subst (Reads all new) (sym e) (kept_so all new why new.refusal refl one (fails_so lines text old why none read is))

-- ---- followed

pub followed : (lines : List (List ℕ)) (text : List ℕ) (old new : Checker) → old.refusal ≡ None → new.refusal ≡ None → HasRead lines old → Follows text old.history new.history
    → Reads (lines ++ text ∷ []) new (Ok (tt {0}))
followed lines text old new none still_none read follows =
    let all = lines ++ text ∷ [] in
    let at : (bytes : List ℕ) (rest : List (List ℕ)) → parts 10 bytes ≡ all ++ rest → IsAt bytes (length all) rest new.history = λ bytes rest e.
    subst (λ n. IsAt bytes n rest new.history) (sym (length-append lines (text ∷ [])))
    (goes_on bytes (length lines) (text ∷ rest) text rest old.history new.history refl follows
    (here lines old none read bytes (text ∷ rest) (split bytes lines rest text e))) in
    record {
      read = record { so_far = λ bytes rest e. subst (λ r. IsSoFar r new.history all bytes rest) (sym still_none) (at bytes rest e) };
      answers = record {
        all = λ bytes e begun. ends_well (tt {0}) bytes (length all) [] new.history refl (begun (length all)) (at bytes [] (e ∙ sym (append-nil all)));
      };
    }
