-- What is spelled as a plan is read as that plan.
use Rattle.std.proofs.Common.{◌≡◌, ℕ, ◌+◌, ◌<◌, ◌≤◌, ◌^◌, ◌⊎◌, Bool, true, false, ◌&&◌, cond, eqb, leb, List, [], ◌∷◌, ◌++◌, length, map, None, Result, Ok, Err, refl, sym, ap, subst, ◌∙◌, append_assoc, inl, inr, arith}
use Rattle.std.specs.Prelude.{codes}
use Rattle.std.specs.List.{list_all, AllByRecursion}
use Rattle.std.proofs.lemmas.Bool.{and_parts, leb-true, ne_eqb, lt-leb, lt-ltb}
use Rattle.std.proofs.lemmas.List.{append-nil, length-append, length-map}
use Rattle.std.proofs.lemmas.List.Elements.{All-from_recursion, recursion_from_All}
use Rattle.charlotte_calls.specs.declared.names.Pid.{Pid}
use Rattle.charlotte_calls.specs.declared.setting.Setting.{Setting}
use Rattle.charlotte_calls.specs.Setting.{IsValid}
use Rattle.charlotte_text.specs.declared.number.Number.TheVariants.{Is}
use Rattle.charlotte_text.specs.Spelling.{number_text}
use Rattle.charlotte_text.specs.Reading.{words, parts}
use Rattle.charlotte_text.proofs.Numbers.{number_again, below_again}
use Rattle.charlotte_text.proofs.Texts.{IsWord}
use Rattle.charlotte_text.proofs.Calls.{words_joined, free_codes}
use Rattle.lynx_plan.specs.declared.stage.Stage.{Stage}
use Rattle.lynx_plan.specs.declared.stage.Stage.TheVariants as stage
use Rattle.lynx_plan.specs.declared.form.Form.TheVariants.{Version, Kernels, Process, Wire}
use Rattle.lynx_plan.specs.declared.meaning.Meaning.{Meaning}
use Rattle.lynx_plan.specs.declared.meaning.Meaning.TheVariants as meaning
use Rattle.lynx_plan.specs.declared.fault.PlanFault.{PlanFault}
use Rattle.lynx_plan.specs.Given.{Given, nothing}
use Rattle.lynx_plan.specs.Forms.{lead_of, one_number, two_numbers, placed_at, led}
use Rattle.lynx_plan.specs.Rules.{allows, is_below, known_process, judged, with_meaning}
use Rattle.lynx_plan.specs.Reading.{Gives, has_kernels, then_lines}
use Rattle.lynx_plan.specs.ScriptText.{standing, version_text, kernels_text, wire_text}
use Rattle.lynx_plan.proofs.Again.{number_free, version_words, kernels_words, wire_words, judged_ok, version_ok, kernels_ok, home_ok, wire_ok, wires_follow, wire_allowed, wires_stage, wires_stage_again, wires_kernels, with_wires, wire_adds, begun, kernels_adds, version_adds, small_version}
use Rattle.lynx_plan.proofs.Lines.{Line, stands_read, stands_append, whole_again}
use Rattle.lynx_plan.proofs.Sound.{Joins}
use Rattle.plan_text.specs.declared.plan.Plan.{Plan}
use Rattle.plan_text.specs.declared.plan.Hosting.{Hosting}
use Rattle.plan_text.specs.declared.form.Role.{Role}
use Rattle.plan_text.specs.declared.form.Role.TheVariants.{Plain, Runs, Hosts}
use Rattle.plan_text.specs.declared.form.PlanForm.{PlanForm}
use Rattle.plan_text.specs.declared.rules.Place.{Place}
use Rattle.plan_text.specs.declared.rules.Place.TheVariants as place
use Rattle.plan_text.specs.Given.{PlanGiven, nothing_planned}
use Rattle.plan_text.specs.Forms.{is_name, file_role, host_role, role_of, with_role, without_role, plan_form_of}
use Rattle.plan_text.specs.Rules.{is_of, wire_rule, checked, hosted, plan_judged, with_place, with_header, with_line}
use Rattle.plan_text.specs.Reading.{carrier, plan_meaning_at, plan_noted, plan_given, plan_reader, plan_of}
use Rattle.plan_text.specs.PlanText.{Post, post_text, post_texts, file_of, files_of, host_of, hosts_of, FitsPlace, FitPosts, NamesNoHost, IsBegun, IsPlanText, texts_of}
use Rattle.plan_text.proofs.Posts.{with_post, post_adds}
use Rattle.plan_text.proofs.Shapes.{plan_form, runs_shape, hosts_shape}

-- ---- forms

printed_free : (bs : List ℕ) → list_all (λ x. leb 33 x && leb x 126) bs ≡ true → AllByRecursion (λ b. eqb b 32 ≡ false) bs
printed_free [] e = tt
printed_free (b ∷ bs) e =
    let p = and_parts (leb 33 b && leb b 126) (list_all (λ x. leb 33 x && leb x 126) bs) e in
    let q = and_parts (leb 33 b) (leb b 126) p.0 in
    (ne_eqb b 32 (λ same. omega (arith, same, leb-true _ _ q.0)), printed_free bs p.1)

name_free : (name : List ℕ) → is_name name ≡ true → IsWord name
name_free [] e = absurd cc
name_free (b ∷ bs) e = All-from_recursion (λ x. eqb x 32 ≡ false) (b ∷ bs) (printed_free (b ∷ bs) e)

abbrev role_words : Place → List (List ℕ)
role_words place.Plain = []
role_words (place.Runs name) = codes "runs" ∷ name ∷ []
role_words (place.Hosts p n) = codes "hosts" ∷ number_text p.0 ∷ codes "after" ∷ number_text n ∷ []

-- the role that spells a place
abbrev role_said : Place → Role
role_said place.Plain = Plain
role_said (place.Runs name) = Runs name
role_said (place.Hosts p n) = Hosts (Is p.0) n

post_words : (before : List Hosting) (i k : ℕ) (p : Place) → i < 64 → k < 64 → FitsPlace before i p → words (post_text i (k, p)) ≡ codes "process" ∷ number_text i ∷ codes "on" ∷ number_text k ∷ role_words p
post_words before i k place.Plain li lk fit = absurd fit
post_words before i k (place.Runs name) li lk fit =
    ap words (sym (runs_shape (number_text i) (number_text k) name))
    ∙ words_joined (codes "process") (number_text i ∷ codes "on" ∷ number_text k ∷ codes "runs" ∷ name ∷ []) (free_codes (codes "process") refl)
    (number_free i (omega arith), (free_codes (codes "on") refl, (number_free k (omega arith), (free_codes (codes "runs") refl, (name_free name fit, tt)))))
post_words before i k (place.Hosts p n) li lk fit =
    ap words (sym (hosts_shape (number_text i) (number_text k) (number_text p.0) (number_text n)))
    ∙ words_joined (codes "process") (number_text i ∷ codes "on" ∷ number_text k ∷ codes "hosts" ∷ number_text p.0 ∷ codes "after" ∷ number_text n ∷ []) (free_codes (codes "process") refl)
    (number_free i (omega arith), (free_codes (codes "on") refl, (number_free k (omega arith), (free_codes (codes "hosts") refl, (number_free p.0 (omega (arith, fit.0)), (free_codes (codes "after") refl, (number_free n (omega (arith, fit.2)), tt)))))))

post_form : (before : List Hosting) (i k : ℕ) (p : Place) → i < 64 → k < 64 → FitsPlace before i p → plan_form_of (words (post_text i (k, p))) ≡ Ok (plan_form (Process (Is i) (Is k)) (role_said p))
unfolding plan_form_of lead_of with_role placed_at role_of file_role host_role
post_form before i k place.Plain li lk fit = absurd fit
post_form before i k (place.Runs name) li lk fit = ap plan_form_of (post_words before i k (place.Runs name) li lk fit) ∙ rw (number_again i (omega arith), number_again k (omega arith), fit) refl
post_form before i k (place.Hosts p n) li lk fit =
    ap plan_form_of (post_words before i k (place.Hosts p n) li lk fit) ∙ rw (number_again i (omega arith), number_again k (omega arith), number_again p.0 (omega (arith, fit.0)), below_again (2 ^ 32) n fit.2 (omega (arith, fit.2))) refl

version_planned : (n : ℕ) → n < 2 ^ 64 → plan_form_of (words (version_text n)) ≡ Ok (plan_form (Version (Is n)) Plain)
unfolding plan_form_of lead_of without_role led one_number
version_planned n lt = ap plan_form_of (version_words n lt) ∙ rw (number_again n lt) refl

kernels_planned : (n : ℕ) → n < 2 ^ 64 → plan_form_of (words (kernels_text n)) ≡ Ok (plan_form (Kernels (Is n)) Plain)
unfolding plan_form_of lead_of without_role led one_number
kernels_planned n lt = ap plan_form_of (kernels_words n lt) ∙ rw (number_again n lt) refl

wire_planned : (w : Pid × Pid) → w.0.0 < 2 ^ 64 → w.1.0 < 2 ^ 64 → plan_form_of (words (wire_text w)) ≡ Ok (plan_form (Wire (Is w.0.0) (Is w.1.0)) Plain)
unfolding plan_form_of lead_of without_role led two_numbers one_number
wire_planned w li lj = ap plan_form_of (wire_words w li lj) ∙ rw (number_again w.0.0 li, number_again w.1.0 lj) refl

-- ---- one line

plan_one : (line : ℕ) (g : PlanGiven) (text : List ℕ) (f : PlanForm) (m : Meaning) (p : Place) → plan_form_of (words text) ≡ Ok f → judged g.header f.form ≡ Ok m → checked g m f.role ≡ Ok (m, p)
    → plan_noted line g (plan_meaning_at g text) ≡ Ok (with_line line g (m, p))
unfolding plan_meaning_at plan_judged
plan_one line g text f m p e j c = rw (e, j, c) refl

place_ok : (g : PlanGiven) (m : Meaning) (p : Place) → length g.header.homes ≤ 64 → FitsPlace g.hosts (length g.header.homes) p → checked g m (role_said p) ≡ Ok (m, p)
unfolding hosted
place_ok g m place.Plain few fit = absurd fit
place_ok g m (place.Runs name) few fit = refl
place_ok g m (place.Hosts p n) few fit = rw (lt-ltb p.0 (length g.header.homes + 1) (omega (arith, fit.0)), lt-ltb p.0 (length g.header.homes) fit.0, fit.1) refl

wire_fine : (g : PlanGiven) (p q : Pid) → length g.header.wires + length g.hosts < 4096 → NamesNoHost g.hosts (p, q) → wire_rule g p q ≡ None
unfolding wire_rule
wire_fine g p q few apart = rw (lt-leb 4096 (length g.header.wires + length g.hosts) few, apart.0, apart.1) refl

head_of : (t u : List ℕ) (ts us : List (List ℕ)) → t ∷ ts ≡ u ∷ us → t ≡ u
head_of t u ts us e = cc

tail_of : (t u : List ℕ) (ts us : List (List ℕ)) → t ∷ ts ≡ u ∷ us → ts ≡ us
tail_of t u ts us e = cc

-- the reading of one line, whose text is known
reads_one : (l : Line) (ls : List Line) (g h : PlanGiven) (text : List ℕ) → l.1 ≡ text → plan_noted l.0 g (plan_meaning_at g text) ≡ Ok h → stands_read plan_reader g (l ∷ ls) ≡ stands_read plan_reader h ls
reads_one l ls g h text e r = ap (λ (t : List ℕ). then_lines (λ x. stands_read plan_reader x ls) (plan_noted l.0 g (plan_meaning_at g t))) e ∙ ap (then_lines (λ x. stands_read plan_reader x ls)) r

-- ---- the processes

abbrev put : Given → List ℕ → List (List ℕ) → List ℕ → List Hosting → PlanGiven
put h homes files lines hosts = record { header = record h { homes = homes }; files = files; lines = lines; hosts = hosts }

abbrev with_posts : PlanGiven → List Post → List Line → PlanGiven
with_posts g xs ls = put g.header (g.header.homes ++ map (λ x. x.0) xs) (g.files ++ files_of xs) (g.lines ++ map (λ l. l.0) ls) (g.hosts ++ hosts_of (length g.header.homes) xs)

one_post : (line : ℕ) (g : PlanGiven) (k : ℕ) (p : Place) → g.header.stage ≡ stage.Processes → g.header.kernels ≤ 8 → length g.header.homes < 64 → k < g.header.kernels → FitsPlace g.hosts (length g.header.homes) p
    → plan_noted line g (plan_meaning_at g (post_text (length g.header.homes) (k, p))) ≡ Ok (with_post line g k p)
one_post line g k p s k8 few there fit =
    let i : ℕ = length g.header.homes in
    plan_one line g (post_text i (k, p)) (plan_form (Process (Is i) (Is k)) (role_said p)) (meaning.Process k) p (post_form g.hosts i k p few (omega arith) fit)
    (judged_ok g.header (Process (Is i) (Is k)) (ap (allows (Process (Is i) (Is k))) s) (home_ok g.header k few there)) (place_ok g (meaning.Process k) p (omega arith) fit)
    ∙ ap Ok (post_adds line g g.hosts i k p fit)

posts_read : (xs : List Post) (ls : List Line) (g : PlanGiven) → texts_of ls ≡ post_texts (length g.header.homes) xs → g.header.stage ≡ stage.Processes → g.header.kernels ≤ 8 → length g.header.homes + length xs ≤ 64
    → AllByRecursion (λ k. k < g.header.kernels) (map (λ x. x.0) xs) → FitPosts g.hosts (length g.header.homes) xs → stands_read plan_reader g ls ≡ Ok (with_posts g xs ls)
posts_read [] [] g e s k8 few there fit =
    ap Ok (ap (λ (x : List ℕ). put g.header x g.files g.lines g.hosts) (sym (append-nil g.header.homes)) ∙ ap (λ (x : List (List ℕ)). put g.header (g.header.homes ++ []) x g.lines g.hosts) (sym (append-nil g.files))
    ∙ ap (λ (x : List ℕ). put g.header (g.header.homes ++ []) (g.files ++ []) x g.hosts) (sym (append-nil g.lines)) ∙ ap (λ (x : List Hosting). put g.header (g.header.homes ++ []) (g.files ++ []) (g.lines ++ []) x) (sym (append-nil g.hosts)))
posts_read [] (l ∷ ls) g e s k8 few there fit = absurd cc
posts_read (x ∷ xs) [] g e s k8 few there fit = absurd cc
posts_read (x ∷ xs) (l ∷ ls) g e s k8 few there fit =
    let i : ℕ = length g.header.homes in
    let h : PlanGiven = with_post l.0 g x.0 x.1 in
    let n : length (g.header.homes ++ x.0 ∷ []) ≡ i + 1 = length-append g.header.homes (x.0 ∷ []) in
    let rest : texts_of ls ≡ post_texts (length h.header.homes) xs = tail_of l.1 (post_text i x) (texts_of ls) (post_texts (i + 1) xs) e ∙ ap (λ (m : ℕ). post_texts m xs) (sym n) in
    let later : FitPosts h.hosts (length h.header.homes) xs = subst (λ (m : ℕ). FitPosts h.hosts m xs) (sym n) fit.1 in
    let homes = append_assoc g.header.homes (x.0 ∷ []) (map (λ y. y.0) xs) in
    let files = append_assoc g.files (file_of x.1) (files_of xs) in
    let lines = append_assoc g.lines (l.0 ∷ []) (map (λ y. y.0) ls) in
    let hosts = ap (λ (m : ℕ). h.hosts ++ hosts_of m xs) n ∙ append_assoc g.hosts (host_of i x.1) (hosts_of (i + 1) xs) in
    reads_one l ls g h (post_text i x) (head_of l.1 (post_text i x) (texts_of ls) (post_texts (i + 1) xs) e) (one_post l.0 g x.0 x.1 s k8 (omega arith) there.0 fit.0)
    ∙ posts_read xs ls h rest s k8 (omega (arith, n)) there.1 later
    ∙ ap Ok (ap (λ (y : List ℕ). put g.header y (h.files ++ files_of xs) (h.lines ++ map (λ z. z.0) ls) (h.hosts ++ hosts_of (length h.header.homes) xs)) homes
    ∙ ap (λ (y : List (List ℕ)). put g.header (g.header.homes ++ map (λ z. z.0) (x ∷ xs)) y (h.lines ++ map (λ z. z.0) ls) (h.hosts ++ hosts_of (length h.header.homes) xs)) files
    ∙ ap (λ (y : List ℕ). put g.header (g.header.homes ++ map (λ z. z.0) (x ∷ xs)) (g.files ++ files_of (x ∷ xs)) y (h.hosts ++ hosts_of (length h.header.homes) xs)) lines
    ∙ ap (λ (y : List Hosting). put g.header (g.header.homes ++ map (λ z. z.0) (x ∷ xs)) (g.files ++ files_of (x ∷ xs)) (g.lines ++ map (λ z. z.0) (l ∷ ls)) y) hosts)

-- ---- the wires

plain_adds : (line : ℕ) (g : PlanGiven) (m : Meaning) → with_line line g (m, place.Plain) ≡ record g { header = with_meaning line g.header m }
unfolding with_place with_header
plain_adds line g m = refl

one_wire : (line : ℕ) (g : PlanGiven) (w : Pid × Pid) → wires_follow g.header.stage ≡ true → length g.header.homes ≤ 64 → length g.header.wires + length g.hosts < 4096 → Joins (length g.header.homes) w → NamesNoHost g.hosts w
    → plan_noted line g (plan_meaning_at g (wire_text w)) ≡ Ok (record g { header = record g.header { wires = g.header.wires ++ w ∷ []; stage = stage.Wires } })
one_wire line g w s few room joins apart =
    let m : Meaning = meaning.Wire w.0 w.1 in
    let fine : wire_rule g w.0 w.1 ≡ None = wire_fine g w.0 w.1 room apart in
    let checks : checked g m Plain ≡ Ok (m, place.Plain) = rw fine refl in
    plan_one line g (wire_text w) (plan_form (Wire (Is w.0.0) (Is w.1.0)) Plain) m place.Plain (wire_planned w (omega (arith, joins.0)) (omega (arith, joins.1)))
    (judged_ok g.header (Wire (Is w.0.0) (Is w.1.0)) (wire_allowed w.0.0 w.1.0 g.header.stage s) (wire_ok g.header w.0.0 w.1.0 joins.0 joins.1 (omega arith))) checks
    ∙ ap Ok (plain_adds line g m) ∙ ap (λ (h : Given). Ok (record g { header = h })) (wire_adds line g.header w)

wires_read : (ws : List (Pid × Pid)) (ls : List Line) (g : PlanGiven) → texts_of ls ≡ map wire_text ws → wires_follow g.header.stage ≡ true → length g.header.homes ≤ 64 → (length g.header.wires + length ws) + length g.hosts ≤ 4096
    → AllByRecursion (Joins (length g.header.homes)) ws → AllByRecursion (NamesNoHost g.hosts) ws → stands_read plan_reader g ls ≡ Ok (record g { header = with_wires g.header ws })
wires_read [] [] g e s few room joins apart = ap (λ (x : List (Pid × Pid)). Ok (record g { header = record g.header { wires = x; stage = g.header.stage } })) (sym (append-nil g.header.wires))
wires_read [] (l ∷ ls) g e s few room joins apart = absurd cc
wires_read (w ∷ ws) [] g e s few room joins apart = absurd cc
wires_read (w ∷ ws) (l ∷ ls) g e s few room joins apart =
    let h : PlanGiven = record g { header = record g.header { wires = g.header.wires ++ w ∷ []; stage = stage.Wires } } in
    reads_one l ls g h (wire_text w) (head_of l.1 (wire_text w) (texts_of ls) (map wire_text ws) e) (one_wire l.0 g w s few (omega arith) joins.0 apart.0)
    ∙ wires_read ws ls h (tail_of l.1 (wire_text w) (texts_of ls) (map wire_text ws) e) refl few (omega (arith, length-append g.header.wires (w ∷ []))) joins.1 apart.1
    ∙ ap (λ (x : List (Pid × Pid)). Ok (record g { header = record g.header { wires = x; stage = wires_stage stage.Wires ws } })) (append_assoc g.header.wires (w ∷ []) ws)
    ∙ ap (λ (x : Stage). Ok (record g { header = record g.header { wires = g.header.wires ++ w ∷ ws; stage = x } })) (wires_stage_again ws)

-- ---- the first lines

abbrev planned : Given → PlanGiven
planned h = record { header = h; files = []; lines = []; hosts = [] }

-- what the first lines say
abbrev first_given : ℕ → ℕ → PlanGiven
first_given v k = planned (record { version = v; kernels = k; homes = []; wires = []; lines = []; stage = stage.Processes })

kernels_read : (v k : ℕ) (s : Stage) (ls : List Line) → allows (Kernels (Is k)) s ≡ true → 1 ≤ k → k ≤ 8 → texts_of ls ≡ kernels_text k ∷ [] → stands_read plan_reader (planned (begun v s)) ls ≡ Ok (first_given v k)
kernels_read v k s [] a low high e = absurd cc
kernels_read v k s (l ∷ m ∷ ls) a low high e = absurd cc
kernels_read v k s (l ∷ []) a low high e =
    reads_one l [] (planned (begun v s)) (first_given v k) (kernels_text k) (head_of l.1 (kernels_text k) [] [] e)
    (plan_one l.0 (planned (begun v s)) (kernels_text k) (plan_form (Kernels (Is k)) Plain) (meaning.Kernels k) place.Plain (kernels_planned k (omega arith))
    (judged_ok (begun v s) (Kernels (Is k)) a (kernels_ok (begun v s) k low high)) refl
    ∙ ap Ok (plain_adds l.0 (planned (begun v s)) (meaning.Kernels k)) ∙ ap (λ (h : Given). Ok (planned h)) (kernels_adds l.0 v k s))

first_read : (t : Setting) (ls : List Line) → IsBegun (texts_of ls) t → IsValid t → stands_read plan_reader nothing_planned ls ≡ Ok (first_given t.version t.kernels)
first_read t ls (inr b) valid =
    ap (λ (v : ℕ). stands_read plan_reader (planned (begun v stage.Start)) ls) (sym b.0) ∙ kernels_read t.version t.kernels stage.Start ls refl valid.limits.some_kernel valid.limits.kernels b.1
first_read t [] (inl b) valid = absurd cc
first_read t (l ∷ ls) (inl b) valid =
    reads_one l ls nothing_planned (planned (begun t.version stage.Named)) (version_text t.version) (head_of l.1 (version_text t.version) (texts_of ls) (kernels_text t.kernels ∷ []) b)
    (plan_one l.0 nothing_planned (version_text t.version) (plan_form (Version (Is t.version)) Plain) (meaning.Version t.version) place.Plain (version_planned t.version (small_version t.version valid.limits.version))
    (judged_ok nothing (Version (Is t.version)) refl (version_ok nothing t.version valid.limits.version)) refl
    ∙ ap Ok (plain_adds l.0 nothing_planned (meaning.Version t.version)) ∙ ap (λ (h : Given). Ok (planned h)) (version_adds l.0 t.version))
    ∙ kernels_read t.version t.kernels stage.Named ls refl valid.limits.some_kernel valid.limits.kernels (tail_of l.1 (version_text t.version) (texts_of ls) (kernels_text t.kernels ∷ []) b)

-- ---- the whole plan

all_before : (P : Pid × Pid → Type 0) (xs ys : List (Pid × Pid)) → AllByRecursion P (xs ++ ys) → AllByRecursion P xs
all_before P [] ys h = tt
all_before P (x ∷ xs) ys h = (h.0, all_before P xs ys h.1)

abbrev made : Plan → List ℕ → List (Pid × Pid) → List (List ℕ) → List ℕ → List Hosting → Plan
made p homes wires files lines hosts = record { setting = record { version = p.setting.version; kernels = p.setting.kernels; homes = homes; wires = wires }; files = files; lines = lines; hosts = hosts }

pub plan_again : (bytes : List ℕ) (p : Plan) → IsPlanText bytes p → plan_of bytes ≡ Ok p
plan_again bytes p is =
    let t : Setting = p.setting in
    let f : PlanGiven = first_given t.version t.kernels in
    let g : PlanGiven = with_posts f is.posts is.posted in
    let n : length t.homes ≡ length is.posts = ap length is.homes ∙ length-map is.posts (λ (x : Post). x.0) in
    let m : length t.homes ≡ length g.header.homes = ap length is.homes in
    let there : AllByRecursion (λ k. k < t.kernels) (map (λ x. x.0) is.posts) = subst (λ (x : List ℕ). AllByRecursion (λ k. k < t.kernels) x) is.homes (recursion_from_All (λ k. k < t.kernels) t.homes is.valid.homes) in
    let room : (0 + length is.wires) + length g.hosts ≤ 4096 = omega (arith, is.valid.limits.wires, ap length is.carried, length-append is.wires (map carrier p.hosts), length-map p.hosts carrier, ap length is.hosts) in
    let joins : AllByRecursion (Joins (length g.header.homes)) is.wires =
    (all_before (Joins (length g.header.homes)) is.wires (map carrier p.hosts) (subst (λ (x : List (Pid × Pid)). AllByRecursion (Joins (length g.header.homes)) x) is.carried (subst (λ (k : ℕ). AllByRecursion (Joins k) t.wires) m (recursion_from_All (Joins (length t.homes)) t.wires is.valid.wires)))) in
    let apart : AllByRecursion (NamesNoHost g.hosts) is.wires = subst (λ (x : List Hosting). AllByRecursion (NamesNoHost x) is.wires) is.hosts (recursion_from_All (NamesNoHost p.hosts) is.wires is.unhosted) in
    let posts : stands_read plan_reader f is.posted ≡ Ok g = posts_read is.posts is.posted f is.post_lines refl is.valid.limits.kernels (omega (arith, is.valid.limits.processes, n)) there is.fit in
    let wires : stands_read plan_reader g is.wired ≡ Ok (record g { header = with_wires g.header is.wires }) = wires_read is.wires is.wired g is.wire_lines refl (omega (arith, is.valid.limits.processes, m)) room joins apart in
    let rest : stands_read plan_reader f (is.posted ++ is.wired) ≡ Ok (record g { header = with_wires g.header is.wires }) = stands_append plan_reader is.posted is.wired f ∙ ap (then_lines (λ x. stands_read plan_reader x is.wired)) posts ∙ wires in
    let all : stands_read plan_reader nothing_planned (standing 1 (parts 10 bytes)) ≡ Ok (record g { header = with_wires g.header is.wires }) =
    ap (stands_read plan_reader nothing_planned) is.lines ∙ stands_append plan_reader is.first (is.posted ++ is.wired) nothing_planned ∙ ap (then_lines (λ x. stands_read plan_reader x (is.posted ++ is.wired))) (first_read t is.first is.begun is.valid) ∙ rest in
    whole_again plan_reader bytes (record g { header = with_wires g.header is.wires }) all (wires_kernels is.wires)
    ∙ ap Ok (ap (λ (x : List ℕ). made p x (is.wires ++ map carrier (hosts_of 0 is.posts)) (files_of is.posts) (map (λ l. l.0) is.posted) (hosts_of 0 is.posts)) (sym is.homes)
    ∙ ap (λ (x : List (Pid × Pid)). made p t.homes x (files_of is.posts) (map (λ l. l.0) is.posted) (hosts_of 0 is.posts)) (ap (λ (y : List Hosting). is.wires ++ map carrier y) (sym is.hosts) ∙ sym is.carried)
    ∙ ap (λ (x : List (List ℕ)). made p t.homes t.wires x (map (λ l. l.0) is.posted) (hosts_of 0 is.posts)) (sym is.files)
    ∙ ap (λ (x : List ℕ). made p t.homes t.wires p.files x (hosts_of 0 is.posts)) (sym is.numbers)
    ∙ ap (λ (x : List Hosting). made p t.homes t.wires p.files p.lines x) (sym is.hosts))

abbrev read : Plan → Result Plan PlanFault
read p = Ok p

same_read : (a b : Plan) → read a ≡ read b → a ≡ b
same_read a b e = cc

pub one_plan : (bytes : List ℕ) (a b : Plan) → IsPlanText bytes a → IsPlanText bytes b → a ≡ b
one_plan bytes a b ia ib = same_read a b (sym (plan_again bytes a ia) ∙ plan_again bytes b ib)

pub plan_only : (bytes : List ℕ) (r : Result Plan PlanFault) (p : Plan) → Gives r (plan_of bytes) → IsPlanText bytes p → Gives r (Ok p)
plan_only bytes r p given is = subst (λ (x : Result Plan PlanFault). Gives r x) (plan_again bytes p is) given
