-- What words say that were read: each is spelled so.
use Rattle.std.proofs.Common.{◌≡◌, ℕ, zero, suc, ◌^◌, ◌<◌, Bool, true, false, cond, codes, eqb, List, [], ◌∷◌, Result, Ok, Err, refl, sym, ap, subst, ◌∙◌, inl, inr, arith}
use Rattle.std.specs.Str.{bytes_eq}
use Rattle.std.proofs.lemmas.Bool.{eqb-true}
use Rattle.std.proofs.lemmas.Slice.Eq.{bytes_eq-Decides}
use Rattle.charlotte_calls.specs.Ranges.{IsU8, IsU32, IsU64, IsPid, AreBytesInRange}
use Rattle.charlotte_calls.specs.declared.calls.Cause.{Cause}
use Rattle.charlotte_calls.specs.declared.calls.Cause.TheVariants as cause
use Rattle.charlotte_calls.specs.declared.names.Outcome.{Outcome}
use Rattle.charlotte_calls.specs.declared.names.Outcome.TheVariants.{Done, Destroyed}
use Rattle.charlotte_calls.specs.declared.names.Pid.{Pid}
use Rattle.charlotte_text.specs.declared.fault.Fault.{Fault}
use Rattle.charlotte_text.specs.declared.fault.Fault.TheVariants.{Form}
use Rattle.charlotte_text.specs.Spelling.{number_text, process_text, bytes_text}
use Rattle.charlotte_text.specs.Reading.{◌>>=◌, ended, number_below, bytes_of}
use Rattle.charlotte_text.proofs.Steps.{bind_ok, done, ok_is, not_ok, chosen, held}
use Rattle.charlotte_text.proofs.Numbers.{below_takes}
use Rattle.charlotte_text.proofs.Texts.{bytes_takes}
use Rattle.transcript_lines.specs.Transcript.{bit, cause_text}
use Rattle.transcript_reading.specs.Forms.{first_of, only_of, numbered_of, pid_of, kernel_of, bit_of, cause_of, outcome_of, waits_of}

-- ---- steps of reading

-- the first word says this, and these words were read behind it
pub record First {A B : Type 0} (read : List ℕ → Result A Fault) (ws : List (List ℕ)) (f : A × List (List ℕ) → Result B Fault) (y : B) : Type 0 where
  pub word : List ℕ
  pub left : List (List ℕ)
  pub value : A
  pub shape : ws ≡ word ∷ left
  pub says : read word ≡ Ok value
  pub goes : f (value, left) ≡ Ok y

pub first_ok : {A B : Type 0} (read : List ℕ → Result A Fault) (ws : List (List ℕ)) (f : A × List (List ℕ) → Result B Fault) (y : B) → (first_of read ws >>= f) ≡ Ok y → First read ws f y
first_ok {A} {B} read [] f y e = absurd (not_ok y Form e)
first_ok {A} {B} read (w ∷ ws) f y e = said (read w) refl e
  where
    said : (r : Result A Fault) → read w ≡ r → ((r >>= λ x. Ok (x, ws)) >>= f) ≡ Ok y → First read (w ∷ ws) f y
    said (Ok x) is h = record { word = w; left = ws; value = x; shape = refl; says = is; goes = h }
    said (Err d) is h = absurd (not_ok y d h)

-- the only word says this
pub record Only {A B : Type 0} (read : List ℕ → Result A Fault) (ws : List (List ℕ)) (f : A → Result B Fault) (y : B) : Type 0 where
  pub word : List ℕ
  pub value : A
  pub shape : ws ≡ word ∷ []
  pub says : read word ≡ Ok value
  pub goes : f value ≡ Ok y

-- what was read, with what is left, and where nothing is left
abbrev paired : {A : Type 0} → Result A Fault → List (List ℕ) → Result (A × List (List ℕ)) Fault
paired r left = r >>= λ x. Ok (x, left)

abbrev closed : {A : Type 0} → Result (A × List (List ℕ)) Fault → Result A Fault
closed r = r >>= λ x. ended x.1 >>= λ u. Ok x.0

pub only_ok : {A B : Type 0} (read : List ℕ → Result A Fault) (ws : List (List ℕ)) (f : A → Result B Fault) (y : B) → (only_of read ws >>= f) ≡ Ok y → Only read ws f y
only_ok {A} {B} read [] f y e = absurd (not_ok y Form e)
only_ok {A} {B} read (w ∷ []) f y e = said (read w) refl e
  where
    said : (r : Result A Fault) → read w ≡ r → (closed (paired r []) >>= f) ≡ Ok y → Only read (w ∷ []) f y
    said (Ok x) is h = record { word = w; value = x; shape = refl; says = is; goes = h }
    said (Err d) is h = absurd (not_ok y d h)
only_ok {A} {B} read (w ∷ v ∷ vs) f y e = said (read w) e
  where
    said : (r : Result A Fault) → (closed (paired r (v ∷ vs)) >>= f) ≡ Ok y → Only read (w ∷ v ∷ vs) f y
    said (Ok x) h = absurd (not_ok y Form h)
    said (Err d) h = absurd (not_ok y d h)

-- the first word is the spelling of what it says, and the words behind it were read
pub first_then : {A B : Type 0} (read : List ℕ → Result A Fault) (spell : A → List ℕ) (Fits : A → Type 0) → ((w : List ℕ) (x : A) → read w ≡ Ok x → (w ≡ spell x) × Fits x)
    → (ws : List (List ℕ)) (f : A × List (List ℕ) → Result B Fault) (y : B) (Q : Type 0) → (first_of read ws >>= f) ≡ Ok y
    → ((x : A) (left : List (List ℕ)) → ws ≡ spell x ∷ left → Fits x → f (x, left) ≡ Ok y → Q) → Q
first_then {A} {B} read spell Fits takes ws f y Q e go =
    let first = first_ok read ws f y e in
    let t = takes first.word first.value first.says in
    go first.value first.left (first.shape ∙ ap (λ (w : List ℕ). w ∷ first.left) t.0) t.1 first.goes

-- the same of the only word
pub only_then : {A B : Type 0} (read : List ℕ → Result A Fault) (spell : A → List ℕ) (Fits : A → Type 0) → ((w : List ℕ) (x : A) → read w ≡ Ok x → (w ≡ spell x) × Fits x)
    → (ws : List (List ℕ)) (f : A → Result B Fault) (y : B) (Q : Type 0) → (only_of read ws >>= f) ≡ Ok y
    → ((x : A) → ws ≡ spell x ∷ [] → Fits x → f x ≡ Ok y → Q) → Q
only_then {A} {B} read spell Fits takes ws f y Q e go =
    let only = only_ok read ws f y e in
    let t = takes only.word only.value only.says in
    go only.value (only.shape ∙ ap (λ (w : List ℕ). w ∷ []) t.0) t.1 only.goes

-- nothing stood there
pub none_ok : {B : Type 0} (ws : List (List ℕ)) (r : Result B Fault) (y : B) → (ended ws >>= λ u. r) ≡ Ok y → (ws ≡ []) × (r ≡ Ok y)
none_ok [] r y e = (refl, e)
none_ok (w ∷ ws) r y e = absurd (not_ok y Form e)

-- a word is one of these names, and what it says is said there
abbrev pub named : {A : Type 0} → List (List ℕ × Result A Fault) → List ℕ → Result A Fault
named [] w = Err Form
named (n ∷ ns) w = cond (bytes_eq w n.0) n.1 (named ns w)

-- what follows where it is each of these names
abbrev pub Follows : {A : Type 0} → List (List ℕ × Result A Fault) → List ℕ → A → Type 0 → Type 0
Follows [] w y Q = Unit {0}
Follows (n ∷ ns) w y Q = (w ≡ n.0 → n.1 ≡ Ok y → Q) × Follows ns w y Q

pub named_ok : {A : Type 0} (ns : List (List ℕ × Result A Fault)) (w : List ℕ) (y : A) (Q : Type 0) → named ns w ≡ Ok y → Follows ns w y Q → Q
named_ok {A} [] w y Q e all = absurd (not_ok y Form e)
named_ok {A} (n ∷ ns) w y Q e all = elim (chosen (bytes_eq w n.0) n.1 (named ns w) (Ok y) e) [
  | inl h ↦ all.0 ((bytes_eq-Decides w n.0).0 h.0) h.1
  | inr h ↦ named_ok ns w y Q h.1 all.1
]

pub cons_is : {w v : List ℕ} {ws vs : List (List ℕ)} → w ≡ v → ws ≡ vs → w ∷ ws ≡ v ∷ vs
cons_is a b = cc

-- ---- numbers

pub u8_takes : (w : List ℕ) (n : ℕ) → number_below (2 ^ 8) w ≡ Ok n → (w ≡ number_text n) × IsU8 n
u8_takes w n e = below_takes (2 ^ 8) w n e

pub u32_takes : (w : List ℕ) (n : ℕ) → number_below (2 ^ 32) w ≡ Ok n → (w ≡ number_text n) × IsU32 n
u32_takes w n e = below_takes (2 ^ 32) w n e

pub u64_takes : (w : List ℕ) (n : ℕ) → number_below (2 ^ 64) w ≡ Ok n → (w ≡ number_text n) × IsU64 n
u64_takes w n e = below_takes (2 ^ 64) w n e

pub numbered_takes : (w : List ℕ) (p : Pid) → numbered_of w ≡ Ok p → (w ≡ number_text p.0) × IsPid p
numbered_takes w p e =
    let n = bind_ok (number_below (2 ^ 16) w) (λ n. Ok (record { 0 = n })) p e in
    let made : Pid = record { 0 = n.0 } in
    subst (λ (x : Pid). (w ≡ number_text x.0) × IsPid x) (ok_is made p n.2) (below_takes (2 ^ 16) w n.0 n.1)

pub pid_takes : (w : List ℕ) (p : Pid) → pid_of w ≡ Ok p → (w ≡ process_text p) × IsPid p
unfolding pid_of
pid_takes [] p e = absurd (not_ok p Form e)
pid_takes (b ∷ bs) p e =
    let k = held (eqb b 112) (numbered_of bs) Form p e in
    let t = numbered_takes bs p k.1 in
    (ap (λ (x : ℕ). x ∷ bs) (eqb-true _ _ k.0) ∙ ap (λ (xs : List ℕ). 112 ∷ xs) t.0, t.1)

pub kernel_takes : (w : List ℕ) (k : ℕ) → kernel_of w ≡ Ok k → (w ≡ 107 ∷ number_text k) × IsU8 k
unfolding kernel_of
kernel_takes [] n e = absurd (not_ok n Form e)
kernel_takes (b ∷ bs) n e =
    let k = held (eqb b 107) (number_below (2 ^ 8) bs) Form n e in
    let t = u8_takes bs n k.1 in
    (ap (λ (x : ℕ). x ∷ bs) (eqb-true _ _ k.0) ∙ ap (λ (xs : List ℕ). 107 ∷ xs) t.0, t.1)

bit_of_number : (n : ℕ) → n < 2 → bit (eqb n 1) ≡ n
bit_of_number n lt = elim (eqb n 1) as (λ t. eqb n 1 ≡ t → bit t ≡ n) [ true ↦ λ e. sym (eqb-true n 1 e) | false ↦ λ e. zero_is n lt e ] refl
  where
    zero_is : (m : ℕ) → m < 2 → eqb m 1 ≡ false → 0 ≡ m
    zero_is zero small e = refl
    zero_is (suc zero) small e = absurd cc
    zero_is (suc (suc m)) small e = absurd (omega arith)

pub bit_takes : (w : List ℕ) (b : Bool) → bit_of w ≡ Ok b → w ≡ number_text (bit b)
unfolding bit_of
bit_takes w b e =
    let n = bind_ok (number_below 2 w) (λ n. Ok (eqb n 1)) b e in
    let t = below_takes 2 w n.0 n.1 in
    t.0 ∙ ap number_text (sym (bit_of_number n.0 t.1)) ∙ ap (λ (x : Bool). number_text (bit x)) (ok_is (eqb n.0 1) b n.2)

-- ---- bytes and names

pub text_takes : (w bs : List ℕ) → bytes_of w ≡ Ok bs → (w ≡ bytes_text bs) × AreBytesInRange bs
text_takes w bs e = let t = bytes_takes w bs e in (t.0.text, record { each = t.0.bytes; few = t.1 })

-- a word is the name of what it says
says : {A : Type 0} (spell : A → List ℕ) (w : List ℕ) (x y : A) → w ≡ spell x → done x ≡ done y → w ≡ spell y
says spell w x y e h = e ∙ ap spell (ok_is x y h)

abbrev pub outcome_text : Outcome → List ℕ
outcome_text Done = codes "done"
outcome_text Destroyed = codes "destroyed"

pub outcome_takes : (w : List ℕ) (o : Outcome) → outcome_of w ≡ Ok o → w ≡ outcome_text o
unfolding outcome_of
outcome_takes w o e =
    named_ok ((codes "done", Ok Done) ∷ (codes "destroyed", Ok Destroyed) ∷ []) w o (w ≡ outcome_text o) e
    (says outcome_text w Done o, (says outcome_text w Destroyed o, tt))

abbrev pub waits_text : Bool → List ℕ
waits_text waits = cond waits (codes "waits") (codes "nothing")

pub waits_takes : (w : List ℕ) (b : Bool) → waits_of w ≡ Ok b → w ≡ waits_text b
unfolding waits_of
waits_takes w b e =
    named_ok ((codes "waits", Ok true) ∷ (codes "nothing", Ok false) ∷ []) w b (w ≡ waits_text b) e
    (says waits_text w true b, (says waits_text w false b, tt))

pub cause_takes : (w : List ℕ) (c : Cause) → cause_of w ≡ Ok c → w ≡ cause_text c
unfolding cause_of
cause_takes w c e =
    named_ok (
    (codes "NoEnd", Ok cause.NoEnd) ∷ (codes "Busy", Ok cause.Busy) ∷ (codes "Dead", Ok cause.Dead) ∷ (codes "EncloseNoEnd", Ok cause.EncloseNoEnd)
    ∷ (codes "EncloseBusy", Ok cause.EncloseBusy) ∷ (codes "EncloseSame", Ok cause.EncloseSame) ∷ (codes "Late", Ok cause.Late)
    ∷ (codes "NoActivity", Ok cause.NoActivity) ∷ (codes "LinksFull", Ok cause.LinksFull) ∷ (codes "EncloseTwice", Ok cause.EncloseTwice) ∷ []
    ) w c (w ≡ cause_text c) e (
      says cause_text w cause.NoEnd c,
      (
        says cause_text w cause.Busy c,
        (
          says cause_text w cause.Dead c,
          (
            says cause_text w cause.EncloseNoEnd c,
            (
              says cause_text w cause.EncloseBusy c,
              (says cause_text w cause.EncloseSame c, (says cause_text w cause.Late c, (says cause_text w cause.NoActivity c, (says cause_text w cause.LinksFull c, (says cause_text w cause.EncloseTwice c, tt))))),
            ),
          ),
        ),
      ),
    )
