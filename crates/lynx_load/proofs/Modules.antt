-- The modules of files, one after the other.
use Rattle.std.proofs.Common.{◌≡◌, ◌≤◌, ◌-◌, ℕ, suc, List, [], ◌∷◌, ◌++◌, length, get_or, take, drop, Result, Ok, Err, refl, sym, ap, subst, ◌∙◌, append_assoc, arith}
use Rattle.std.proofs.Math.Seq.{take-length}
use Rattle.std.proofs.lemmas.List.{append-nil}
use Rattle.lynx_code.specs.declared.code.Code.{Code}
use Rattle.lynx_command.proofs.Courses.{no_reads}
use Rattle.lynx_command.specs.Found.{read}
use Rattle.lynx_command.specs.Limits.{most_bytes}
use Rattle.lynx_command.specs.declared.failure.Failure.{Failure}
use Rattle.lynx_command.specs.declared.failure.Failure.TheVariants.{NoMemory}
use Rattle.lynx_outside.proofs.Chains.{WereRead-append}
use Rattle.lynx_outside.specs.Files.{Source, WereRead}
use Rattle.lynx_outside.specs.Logged.{Read}
use Rattle.lynx_outside.specs.declared.files.FileAnswer.{FileAnswer}
use Rattle.lynx_load.specs.Loading.{IsModule, GoesOn, LoadCodes, Unloaded, onto_codes, unloaded}
use Rattle.lynx_load.specs.Told.{AreCodes, IsToldAs, LoadsOnto}
use Rattle.lynx_load.specs.declared.fault.LoadFault.{LoadFault}

-- the first of a slice, and the others
pub first_and_others : {X : Type 0} (xs : List X) (x z : X) → 1 ≤ length xs → x ≡ get_or xs 0 x → z ≡ x → xs ≡ z ∷ take (length xs - 1) (drop 1 xs)
first_and_others [] x z some is same = absurd (omega arith)
first_and_others (y ∷ ys) x z some is same =
    let short : length (y ∷ ys) - 1 ≡ length ys = omega arith in
    rw short (rw (take-length ys) (ap (λ v. v ∷ ys) (sym (same ∙ is))))

-- one module was read, with this outcome
abbrev pub ReadsOne : Source → Source → List ℕ → Result Code Failure → Type 0
ReadsOne before after file first = (answer : Result (List ℕ) FileAnswer) × WereRead before after (read file most_bytes answer ∷ []) × IsModule answer first

-- there are no files
pub none_left : (s : Source) (files : List (List ℕ)) (u : Unit {0}) (old : List Code) → files ≡ [] → LoadsOnto s s files (Ok u) old old
none_left s files u old is = ([], Ok [], no_reads s, subst (λ (fs : List (List ℕ)). LoadCodes fs [] (Ok [])) (sym is) (refl, refl), sym (append-nil old))

-- the first has no code
pub first_fails : (before after : Source) (files : List (List ℕ)) (file : List ℕ) (others : List (List ℕ)) (failure : Failure) (fault : LoadFault) (old new : List Code)
    → files ≡ file ∷ others → ReadsOne before after file (Err failure) → IsToldAs fault (record { file = file; failure = failure })
    → LoadsOnto before after files (Err fault) old new
first_fails before after files file others failure fault old new is one told = (
  read file most_bytes one.0 ∷ [],
  unloaded file failure,
  one.1,
  subst (λ (fs : List (List ℕ)). LoadCodes fs (read file most_bytes one.0 ∷ []) (unloaded file failure)) (sym is) (one.0, [], refl, Err failure, one.2, (refl, refl)),
  told,
)

-- want of memory comes at any module that has code
wants_memory : (answer : Result (List ℕ) FileAnswer) (code : Code) → IsModule answer (Ok code) → IsModule answer (Err NoMemory)
wants_memory (Ok bytes) code is = tt
wants_memory (Err answer) code is = absurd cc

pub unkept : (before after : Source) (file : List ℕ) (code : Code) → ReadsOne before after file (Ok code) → ReadsOne before after file (Err NoMemory)
unkept before after file code one = (one.0, one.1, wants_memory one.0 code one.2)

-- the outcome of the others is that of all
codes_onto : (result : Result (Unit {0}) LoadFault) (old : List Code) (code : Code) (new : List Code) (found : Result (List Code) Unloaded)
    → AreCodes result (old ++ code ∷ []) new found → AreCodes result old new (onto_codes code found)
codes_onto (Ok u) old code new (Ok codes) is = is ∙ append_assoc old (code ∷ []) codes
codes_onto (Err fault) old code new (Err x) is = is
codes_onto (Ok u) old code new (Err x) is = absurd is
codes_onto (Err fault) old code new (Ok codes) is = absurd is

-- the first has code, and then the others are loaded
pub goes_on : (before mid after : Source) (files : List (List ℕ)) (file : List ℕ) (others : List (List ℕ)) (code : Code) (result : Result (Unit {0}) LoadFault) (old between new : List Code)
    → files ≡ file ∷ others → ReadsOne before mid file (Ok code) → between ≡ old ++ code ∷ [] → LoadsOnto mid after others result between new
    → LoadsOnto before after files result old new
goes_on before mid after files file others code result old between new is one more rest =
    let first = read file most_bytes one.0 in (
      first ∷ rest.0,
      onto_codes code rest.1,
      WereRead-append before mid after (first ∷ []) rest.0 one.1 rest.2,
      subst (λ (fs : List (List ℕ)). LoadCodes fs (first ∷ rest.0) (onto_codes code rest.1)) (sym is) (one.0, rest.0, refl, Ok code, one.2, (rest.1, rest.3, refl)),
      codes_onto result old code new rest.1 (subst (λ (cs : List Code). AreCodes result cs new rest.1) more rest.4),
    )

-- codes that one more stands before
ok_onto : (code : Code) (codes : List Code) (others : Result (List Code) Unloaded) → Ok codes ≡ onto_codes code others → (cs : List Code) × (others ≡ Ok cs) × (codes ≡ code ∷ cs)
ok_onto code codes (Ok cs) is = (cs, refl, cc)
ok_onto code codes (Err fault) is = absurd cc

one_and_others : (file : List ℕ) (files : List (List ℕ)) (first : Result Code Failure) (reads : List Read) (codes : List Code)
    → ((rs : List Read) (cs : List Code) → LoadCodes files rs (Ok cs) → length cs ≡ length files) → GoesOn file (LoadCodes files) first reads (Ok codes) → length codes ≡ length (file ∷ files)
one_and_others file files (Err failure) reads codes many on = absurd (let no : Ok codes ≡ unloaded file failure = on.1 in cc)
one_and_others file files (Ok code) reads codes many on =
    let ok = ok_onto code codes on.0 on.2 in
    let rest = many reads ok.0 (subst (LoadCodes files reads) ok.1 on.1) in
    ap length ok.2 ∙ ap (λ n. suc n) rest

-- as many codes are loaded as there are files
pub codes_many : (files : List (List ℕ)) (reads : List Read) (codes : List Code) → LoadCodes files reads (Ok codes) → length codes ≡ length files
codes_many [] reads codes h = let none : Ok codes ≡ Ok [] = h.1 in (let e : codes ≡ [] = cc in ap length e)
codes_many (file ∷ files) reads codes h = one_and_others file files h.3 h.1 codes (codes_many files) h.5
