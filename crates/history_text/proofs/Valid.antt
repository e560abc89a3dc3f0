-- The setting that a text tells is valid: what each line adds is within the limits, and names processes that are there.
use Rattle.std.proofs.Common.{◌≡◌, ◌⊎◌, inl, inr, ℕ, ◌+◌, ◌<◌, ◌≤◌, Bool, true, false, nat_lt, if◌then◌else◌, List, [], ◌∷◌, ◌++◌, Option, Some, None, Result, Ok, Err}
use Rattle.std.proofs.Common.{IfOk, IfSome, All, codes, length, length-append, ltb-true, ltb-false, bytes_eq, refl, arith}
use Rattle.std.proofs.lemmas.List.Elements.{All-nil, All-cons, All-head, All-tail, All-push, All-weaker}
use Rattle.std.proofs.lemmas.Map.Entries.{All-lookup}
use Rattle.charlotte_calls.specs.Setting.{IsValid}
use Rattle.charlotte_calls.specs.declared.names.LinkId.{LinkId}
use Rattle.charlotte_calls.specs.declared.names.Pid.{Pid}
use Rattle.charlotte_text.proofs.Numbers.{below_takes}
use Rattle.charlotte_text.specs.Reading.{◌>>=◌, part_at, parts, words, ended, number_below}
use Rattle.charlotte_text.specs.declared.fault.Fault.{Fault}
use Rattle.charlotte_text.specs.declared.fault.Fault.TheVariants.{Form}
use Rattle.indexmap.specs.IndexMap.{insert_entry}
use Rattle.transcript_reading.specs.Forms.{first_of, only_of, this_word}
use Rattle.history_text.specs.Forms.{Said, before_last, version_of, home_of, process_of, wire_of, make_of, act_of, deed_of, process_line_of, by_version, by_process, by_wire, by_make, by_step, lead_of, allows, led, meaning_of}
use Rattle.history_text.specs.Given.{Given, nothing, setting_given, next_given, greater, with_meaning, with_process}
use Rattle.history_text.specs.Lines.{is_skipped, taken, line_read, before, then_told, Told, lines_told, told_by}
use Rattle.history_text.specs.Names.{Table, look, found, told, untold}
use Rattle.history_text.specs.declared.meaning.Act.{Act}
use Rattle.history_text.specs.declared.stage.Lead.{Lead}
use Rattle.history_text.specs.declared.stage.Lead.TheVariants as lead

-- ---- what readers give

then_ok : {A B : Type 0} (P : A → Type 0) (Q : B → Type 0) (r : Result A Fault) (f : A → Result B Fault) → IfOk r P → ((x : A) → P x → IfOk (f x) Q) → IfOk (r >>= f) Q
then_ok P Q (Ok x) f p q = q x p
then_ok P Q (Err e) f p q = tt

any_ok : {A : Type 0} (r : Result A Fault) → IfOk r (λ x. Unit {0})
any_ok (Ok x) = tt
any_ok (Err e) = tt

-- where nothing is known of the first
behind : {A B : Type 0} (Q : B → Type 0) (r : Result A Fault) (f : A → Result B Fault) → ((x : A) → IfOk (f x) Q) → IfOk (r >>= f) Q
behind Q (Ok x) f q = q x
behind Q (Err e) f q = tt

if_ok : {A : Type 0} (P : A → Type 0) (b : Bool) (r : Result A Fault) → (b ≡ true → IfOk r P) → IfOk (if b then r else Err Form) P
if_ok P true r h = h refl
if_ok P false r h = tt

of_ok : {A : Type 0} (P : A → Type 0) (r : Result A Fault) → ((x : A) → r ≡ Ok x → P x) → IfOk r P
of_ok P (Ok x) h = h x refl
of_ok P (Err e) h = tt

found_ok : {A : Type 0} (P : A → Type 0) (o : Option A) → IfSome o P → IfOk (found o) P
found_ok P None h = tt
found_ok P (Some x) h = h

first_ok : {A : Type 0} (P : A → Type 0) (read : List ℕ → Result A Fault) → ((w : List ℕ) → IfOk (read w) P) → (ws : List (List ℕ)) → IfOk (first_of read ws) (λ x. P x.0)
first_ok P read h ws =
    behind (λ x. P x.0) (part_at ws) (λ w. read w.0 >>= λ x. Ok (x, w.1)) (λ w. then_ok P (λ x. P x.0) (read w.0) (λ x. Ok (x, w.1)) (h w.0) (λ x p. p))

only_ok : {A : Type 0} (P : A → Type 0) (read : List ℕ → Result A Fault) → ((w : List ℕ) → IfOk (read w) P) → (ws : List (List ℕ)) → IfOk (only_of read ws) P
only_ok P read h ws =
    then_ok (λ x. P x.0) P (first_of read ws) (λ x. ended x.1 >>= λ u. Ok x.0) (first_ok P read h ws) (λ x p. behind P (ended x.1) (λ u. Ok x.0) (λ u. p))

-- ---- what was said

-- it is within the limits, and each process of the table is there
record IsWell (g : Given) : Type 0 where
  valid : IsValid (setting_given g)
  named : All (λ x. x.1.0 < length g.homes) g.processes

Keeps : Given → Result Said Fault → Type 0
Keeps g read = IfOk read (λ said. IsWell (with_meaning g said.0))

-- ---- the version

version_by : (a b : Bool) → IfOk {T = ℕ} {E = Fault} (if a then Ok 1 else if b then Ok 2 else Err Form) (λ v. (v ≡ 1) ⊎ (v ≡ 2))
version_by true b = inl refl
version_by false true = inr refl
version_by false false = tt

version_ok : (w : List ℕ) → IfOk (version_of w) (λ v. (v ≡ 1) ⊎ (v ≡ 2))
unfolding version_of
version_ok w = version_by (bytes_eq w (codes "1")) (bytes_eq w (codes "2"))

version_keeps : (g : Given) (r : Result ℕ Fault) → IsWell g → IfOk r (λ v. (v ≡ 1) ⊎ (v ≡ 2)) → Keeps g (by_version r)
unfolding with_meaning Keeps
version_keeps g (Err e) well one = tt
version_keeps g (Ok v) well one =
    let l = well.valid.limits in
    record {
      valid = record {
        limits = record { version = one; some_kernel = l.some_kernel; kernels = l.kernels; processes = l.processes; wires = l.wires };
        homes = well.valid.homes;
        wires = well.valid.wires;
      };
      named = well.named;
    }

-- ---- a process

below_ok : (limit : ℕ) (w : List ℕ) → IfOk (number_below limit w) (λ n. n < limit)
below_ok limit w = of_ok (λ n. n < limit) (number_below limit w) (λ n e. (below_takes limit w n e).1)

home_ok : (ws : List (List ℕ)) → IfOk (home_of ws) (λ home. home < 8)
unfolding home_of
home_ok [] = omega arith
home_ok (w ∷ ws) = behind (λ home. home < 8) (this_word (codes "on") w) (λ u. only_of (number_below 8) ws) (λ u. only_ok (λ home. home < 8) (number_below 8) (below_ok 8) ws)

IsNext : Given → (List ℕ × Pid × ℕ) → Type 0
IsNext g x = (length g.homes < 64) × (x.1.0 ≡ length g.homes) × (x.2 < 8)

process_ok : (g : Given) (ws : List (List ℕ)) → IfOk (process_of g ws) (IsNext g)
unfolding process_of IsNext
process_ok g ws =
    let last = λ (name : List ℕ) (home : ℕ). if nat_lt (length g.homes) 64 then Ok (name, record { 0 = length g.homes }, home) else Err Form in
    behind (IsNext g) (first_of (untold g.processes) ws) (λ name. home_of name.1 >>= λ home. last name.0 home)
    (λ name. then_ok (λ home. home < 8) (IsNext g) (home_of name.1) (λ home. last name.0 home) (home_ok name.1)
    (λ home lt. if_ok (IsNext g) (nat_lt (length g.homes) 64) (Ok (name.0, record { 0 = length g.homes }, home)) (λ e. (ltb-true (length g.homes) 64 e, refl, lt))))

-- the greater of two is no less than each, and within what both are
greater_by : (a b most : ℕ) (t : Bool) → nat_lt a b ≡ t → a ≤ most → b ≤ most
    → (a ≤ (if t then b else a)) × (b ≤ (if t then b else a)) × ((if t then b else a) ≤ most)
greater_by a b most true e la lb = (omega (arith, ltb-true a b e), omega arith, lb)
greater_by a b most false e la lb = (omega arith, ltb-false a b e, la)

named_if : (n : ℕ) (t : Bool) (e : List ℕ × Pid) (es others : Table Pid) (p : Pid) → p.0 < n → e.1.0 < n → All (λ x. x.1.0 < n) es → All (λ x. x.1.0 < n) others
    → All (λ x. x.1.0 < n) (if t then (e.0, p) ∷ es else e ∷ others)
named_if n true e es others p lt le h k = All-cons (λ (x : List ℕ × Pid). x.1.0 < n) (e.0, p) es lt h
named_if n false e es others p lt le h k = All-cons (λ (x : List ℕ × Pid). x.1.0 < n) e others le k

named_more : (n : ℕ) (es : Table Pid) (name : List ℕ) (p : Pid) → p.0 < n → All (λ x. x.1.0 < n) es → All (λ x. x.1.0 < n) (insert_entry bytes_eq es name p)
named_more n [] name p lt h = All-cons (λ (x : List ℕ × Pid). x.1.0 < n) (name, p) [] lt h
named_more n (e ∷ es) name p lt h =
    let P = λ (x : List ℕ × Pid). x.1.0 < n in
    named_if n (bytes_eq name e.0) e es (insert_entry bytes_eq es name p) p lt (All-head P e es h) (All-tail P e es h) (named_more n es name p lt (All-tail P e es h))

process_well : (g : Given) (name : List ℕ) (p : Pid) (home : ℕ) → IsWell g → length g.homes < 64 → p.0 ≡ length g.homes → home < 8 → IsWell (with_process name p home g)
process_well g name p home well few next lt =
    let l = well.valid.limits in
    let more : length (g.homes ++ home ∷ []) ≡ length g.homes + 1 = length-append g.homes (home ∷ []) in
    let most = greater_by g.kernels (home + 1) 8 (nat_lt g.kernels (home + 1)) refl l.kernels (omega (arith, lt)) in
    let n = length (g.homes ++ home ∷ []) in
    let wider : (m : ℕ) → m < length g.homes → m < n = λ m h. omega (arith, more, h) in
    record {
      valid = record {
        limits = record {
          version = l.version;
          some_kernel = omega (arith, l.some_kernel, most.0);
          kernels = most.2;
          processes = omega (arith, more, few);
          wires = l.wires;
        };
        homes =
            All-push (λ h. h < greater g.kernels (home + 1)) g.homes home
            (All-weaker (λ h. h < g.kernels) (λ h. h < greater g.kernels (home + 1)) (λ h h_lt. omega (arith, h_lt, most.0)) g.homes well.valid.homes)
            (omega (arith, most.1));
        wires =
            All-weaker (λ (wire : Pid × Pid). (wire.0.0 < length g.homes) × (wire.1.0 < length g.homes)) (λ (wire : Pid × Pid). (wire.0.0 < n) × (wire.1.0 < n))
            (λ wire both. (wider wire.0.0 both.0, wider wire.1.0 both.1)) g.wires well.valid.wires;
      };
      named =
          named_more n g.processes name p (omega (arith, more, next))
          (All-weaker (λ (x : List ℕ × Pid). x.1.0 < length g.homes) (λ (x : List ℕ × Pid). x.1.0 < n) (λ x x_lt. wider x.1.0 x_lt) g.processes well.named);
    }

process_keeps : (g : Given) (r : Result (List ℕ × Pid × ℕ) Fault) → IsWell g → IfOk r (IsNext g) → Keeps g (by_process r)
unfolding with_meaning Keeps IsNext
process_keeps g (Err e) well next = tt
process_keeps g (Ok x) well next = process_well g x.0 x.1 x.2 well next.0 next.1 next.2

-- ---- a wire

told_ok : (g : Given) → IsWell g → (w : List ℕ) → IfOk (told g.processes w) (λ p. p.0 < length g.homes)
told_ok g well w =
    found_ok (λ p. p.0 < length g.homes) (look g.processes w) (All-lookup (λ (p : Pid). p.0 < length g.homes) (bytes_eq w) g.processes well.named)

IsJoin : Given → (List ℕ × LinkId × Pid × Pid) → Type 0
IsJoin g x = (length g.wires < 4096) × (x.2.0 < length g.homes) × (x.3.0 < length g.homes)

wire_ok : (g : Given) (ws : List (List ℕ)) → IsWell g → IfOk (wire_of g ws) (IsJoin g)
unfolding wire_of IsJoin
wire_ok g ws well =
    let P = λ (p : Pid). p.0 < length g.homes in
    let last = λ (name : List ℕ) (link : LinkId) (p q : Pid). if nat_lt (length g.wires) 4096 then Ok (name, link, p, q) else Err Form in
    let from_link = λ (p q : Pid) (name : List ℕ). found (next_given g p) >>= λ link. last name link p q in
    let from_name = λ (p q : Pid) (ws : List (List ℕ)). only_of (untold g.links) ws >>= λ name. from_link p q name in
    let from_as = λ (p q : Pid) (ws : List (List ℕ)). first_of (this_word (codes "as")) ws >>= λ u. from_name p q u.1 in
    then_ok (λ p. P p.0) (IsJoin g) (first_of (told g.processes) ws) (λ p. first_of (told g.processes) p.1 >>= λ q. from_as p.0 q.0 q.1) (first_ok P (told g.processes) (told_ok g well) ws)
    (λ p p_lt. then_ok (λ q. P q.0) (IsJoin g) (first_of (told g.processes) p.1) (λ q. from_as p.0 q.0 q.1) (first_ok P (told g.processes) (told_ok g well) p.1)
    (λ q q_lt. behind (IsJoin g) (first_of (this_word (codes "as")) q.1) (λ u. from_name p.0 q.0 u.1)
    (λ u. behind (IsJoin g) (only_of (untold g.links) u.1) (λ name. from_link p.0 q.0 name)
    (λ name. behind (IsJoin g) (found (next_given g p.0)) (λ link. last name link p.0 q.0)
    (λ link. if_ok (IsJoin g) (nat_lt (length g.wires) 4096) (Ok (name, link, p.0, q.0)) (λ e. (ltb-true (length g.wires) 4096 e, p_lt, q_lt)))))))

wire_keeps : (g : Given) (r : Result (List ℕ × LinkId × Pid × Pid) Fault) → IsWell g → IfOk r (IsJoin g) → Keeps g (by_wire r)
unfolding with_meaning Keeps IsJoin
wire_keeps g (Err e) well join = tt
wire_keeps g (Ok x) well join =
    let l = well.valid.limits in
    record {
      valid = record {
        limits = record {
          version = l.version;
          some_kernel = l.some_kernel;
          kernels = l.kernels;
          processes = l.processes;
          wires = omega (arith, length-append g.wires ((x.2, x.3) ∷ []), join.0);
        };
        homes = well.valid.homes;
        wires =
            All-push (λ (wire : Pid × Pid). (wire.0.0 < length g.homes) × (wire.1.0 < length g.homes)) g.wires (x.2, x.3) well.valid.wires (join.1, join.2);
      };
      named = well.named;
    }

-- ---- steps

step_keeps : (g : Given) (r : Result Act Fault) → IsWell g → Keeps g (by_step r)
unfolding with_meaning Keeps
step_keeps g (Err e) well = tt
step_keeps g (Ok act) well = record { valid = well.valid; named = well.named }

make_keeps : (g : Given) (p : Pid) (r : Result (List ℕ × LinkId) Fault) → IsWell g → Keeps g (by_make p r)
unfolding with_meaning Keeps
make_keeps g p (Err e) well = tt
make_keeps g p (Ok made) well = record { valid = well.valid; named = well.named }

either_keeps : (g : Given) (b : Bool) (r s : Result Said Fault) → Keeps g r → Keeps g s → Keeps g (if b then r else s)
either_keeps g true r s k l = k
either_keeps g false r s k l = l

deed_keeps : (g : Given) (p : Pid) (word : List ℕ) (ws : List (List ℕ)) → IsWell g → Keeps g (deed_of g p word ws)
unfolding deed_of
deed_keeps g p word ws well =
    either_keeps g (bytes_eq word (codes "make")) (by_make p (make_of g p ws)) (by_step (act_of g p word ws)) (make_keeps g p (make_of g p ws) well) (step_keeps g (act_of g p word ws) well)

process_line_keeps : (g : Given) (word : List ℕ) (ws : List (List ℕ)) → IsWell g → Keeps g (process_line_of g word ws)
unfolding process_line_of Keeps
process_line_keeps g word ws well =
    let Q = λ (said : Said). IsWell (with_meaning g said.0) in
    behind Q (before_last 58 word) (λ name. told g.processes name >>= λ p. part_at ws >>= λ first. deed_of g p first.0 first.1)
    (λ name. behind Q (told g.processes name) (λ p. part_at ws >>= λ first. deed_of g p first.0 first.1)
    (λ p. behind Q (part_at ws) (λ first. deed_of g p first.0 first.1) (λ first. deed_keeps g p first.0 first.1 well)))

-- ---- lines

led_keeps : (k : Lead) (g : Given) (word : List ℕ) (ws : List (List ℕ)) → IsWell g → Keeps g (led g k word ws)
unfolding led
led_keeps lead.History g word ws well = version_keeps g _ well (only_ok (λ v. (v ≡ 1) ⊎ (v ≡ 2)) version_of version_ok ws)
led_keeps lead.Process g word ws well = process_keeps g _ well (process_ok g ws)
led_keeps lead.Wire g word ws well = wire_keeps g _ well (wire_ok g ws well)
led_keeps lead.Match g word ws well = step_keeps g _ well
led_keeps lead.Take g word ws well = step_keeps g _ well
led_keeps lead.Complete g word ws well = step_keeps g _ well
led_keeps lead.Withdraw g word ws well = step_keeps g _ well
led_keeps lead.Free g word ws well = step_keeps g _ well
led_keeps lead.Notice g word ws well = step_keeps g _ well
led_keeps lead.Back g word ws well = step_keeps g _ well
led_keeps lead.Other g word ws well = process_line_keeps g word ws well

meaning_keeps : (g : Given) (ws : List (List ℕ)) → IsWell g → Keeps g (meaning_of g ws)
unfolding meaning_of Keeps
meaning_keeps g ws well =
    let Q = λ (said : Said). IsWell (with_meaning g said.0) in
    behind Q (part_at ws) (λ first. if allows (lead_of first.0) g.stage then led g (lead_of first.0) first.0 first.1 else Err Form)
    (λ first. if_ok Q (allows (lead_of first.0) g.stage) (led g (lead_of first.0) first.0 first.1) (λ e. led_keeps (lead_of first.0) g first.0 first.1 well))

taken_keeps : (g : Given) (r : Result Said Fault) → Keeps g r → IfOk (taken g r) (λ read. IsWell read.0)
unfolding Keeps
taken_keeps g (Ok said) k = k
taken_keeps g (Err e) k = tt

line_by : (g : Given) (b : Bool) (r : Result (Given × Option Act) Fault) → IsWell g → IfOk r (λ read. IsWell read.0) → IfOk (if b then Ok (g, None) else r) (λ read. IsWell read.0)
line_by g true r well k = well
line_by g false r well k = k

line_keeps : (g : Given) (text : List ℕ) → IsWell g → IfOk (line_read g text) (λ read. IsWell read.0)
unfolding line_read
line_keeps g text well = line_by g (is_skipped text) (taken g (meaning_of g (words text))) well (taken_keeps g (meaning_of g (words text)) (meaning_keeps g (words text) well))

before_valid : (n : ℕ) (g : Given) (act : Option Act) (rest : Told) → IsWell g → IsValid rest.setting → IsValid (before n g act rest).setting
before_valid n g None rest well valid = valid
before_valid n g (Some act) rest well valid = well.valid

then_valid : (n : ℕ) (g : Given) (rest : Given → Told) (r : Result (Given × Option Act) Fault) → IsWell g → IfOk r (λ read. IsWell read.0)
    → ((h : Given) → IsWell h → IsValid (rest h).setting) → IsValid (then_told n g rest r).setting
then_valid n g rest (Ok read) well ok valid = before_valid n read.0 read.1 (rest read.0) ok (valid read.0 ok)
then_valid n g rest (Err e) well ok valid = well.valid

lines_valid : (texts : List (List ℕ)) (n : ℕ) (g : Given) → IsWell g → IsValid (lines_told n g texts).setting
unfolding lines_told
lines_valid [] n g well = well.valid
lines_valid (text ∷ texts) n g well = then_valid (n + 1) g (λ h. lines_told (n + 1) h texts) (line_read g text) well (line_keeps g text well) (λ h w. lines_valid texts (n + 1) h w)

nothing_well : IsWell nothing
nothing_well = record {
  valid = record {
    limits = record { version = inl refl; some_kernel = omega arith; kernels = omega arith; processes = omega arith; wires = omega arith };
    homes = All-nil (λ home. home < 1);
    wires = All-nil (λ (wire : Pid × Pid). (wire.0.0 < 0) × (wire.1.0 < 0));
  };
  named = All-nil (λ (x : List ℕ × Pid). x.1.0 < 0);
}

pub first_is_valid : IsValid (setting_given nothing)
first_is_valid = nothing_well.valid

pub setting_is_valid : (bytes : List ℕ) → IsValid (told_by bytes).setting
unfolding told_by
setting_is_valid bytes = lines_valid (parts 10 bytes) 0 nothing nothing_well
