-- One line more is put, or its put fails.
use Rattle.std.proofs.Common.{◌≡◌, ℕ, List, [], ◌∷◌, ◌++◌, map, Result, Ok, Err, ap, append_assoc, refl, sym, subst, ◌∙◌}
use Rattle.std.specs.Prelude.{IsErrAnd}
use Rattle.std.proofs.lemmas.List.{map-append, append-nil}
use Rattle.lynx_command.specs.Text.{StopsAtPut, PutsLines}
use Rattle.lynx_command.specs.declared.putting.PutFault.{PutFault}
use Rattle.lynx_command.specs.declared.putting.PutFault.TheVariants.{Failed}
use Rattle.lynx_outside.proofs.Chains.{WerePut-append}
use Rattle.lynx_outside.specs.Logged.{Put}
use Rattle.lynx_outside.specs.Sink.{Stream, taken, failed, WerePut}

pub goes_on : (all left next before : List (List ℕ)) (line bytes : List ℕ) (start now later : Stream) → all ≡ before ++ left → WerePut start now (map taken before) → left ≡ line ∷ next → bytes ≡ line
    → WerePut now later (taken bytes ∷ []) → (x : List (List ℕ)) × (all ≡ x ++ next) × WerePut start later (map taken x)
goes_on all left next before line bytes start now later lines puts first same put = (
  before ++ line ∷ [],
  lines ∙ (ap (λ l. before ++ l) first ∙ sym (append_assoc before (line ∷ []) next)),
  subst (WerePut start later) (ap (λ b. map taken before ++ taken b ∷ []) same ∙ sym (map-append taken before (line ∷ []))) (WerePut-append start now later (map taken before) (taken bytes ∷ []) puts put),
)

put_fails : {T : Type 0} (all : List (List ℕ)) (result : Result T PutFault) (puts : List Put) → IsErrAnd result (λ e. e ≡ Failed) → StopsAtPut all puts → PutsLines all result puts
put_fails {T} all (Ok x) puts is h = absurd is
put_fails {T} all (Err e) puts is h = subst (λ (f : PutFault). PutsLines {T = T} all (Err f) puts) (sym is) h

pub stops : {T : Type 0} (all left next before : List (List ℕ)) (line bytes : List ℕ) (start now later : Stream) (result : Result T PutFault) → all ≡ before ++ left → WerePut start now (map taken before) → left ≡ line ∷ next
    → bytes ≡ line → WerePut now later (failed bytes ∷ []) → IsErrAnd result (λ e. e ≡ Failed) → (puts : List Put) × PutsLines all result puts × WerePut start later puts
stops all left next before line bytes start now later result lines puts first same put is = (
  map taken before ++ failed bytes ∷ [],
  put_fails all result _ is (record { before = before; line = line; behind = next; lines_are = lines ∙ ap (λ l. before ++ l) first; puts_are = ap (λ b. map taken before ++ failed b ∷ []) same }),
  WerePut-append start now later (map taken before) (failed bytes ∷ []) puts put,
)

-- nothing was put
pub no_puts : (s : Stream) → WerePut s s []
no_puts s = record { held = refl; counted = refl; logged = sym (append-nil s.log) }

-- puts that stopped at one that failed
pub stopped : (all : List (List ℕ)) (fault : PutFault) (puts : List Put) → fault ≡ Failed → PutsLines {T = Unit {0}} all (Err fault) puts → StopsAtPut all puts
stopped all fault puts is h = subst (λ (f : PutFault). PutsLines {T = Unit {0}} all (Err f) puts) is h
