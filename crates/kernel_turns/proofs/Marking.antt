-- What a node has in its outbox may be put: among all its letters to a kernel there is at most one marker.
use Rattle.std.proofs.Common.{◌≡◌, ◌≢◌, ℕ, ◌+◌, ◌<◌, ◌≤◌, true, false, nat_lt, if◌then◌else◌, List, [], ◌∷◌, ◌++◌, All, Option, Some, None, append_assoc, take, drop, refl, ap, sym, subst, ◌∙◌, arith}
use Rattle.std.proofs.lemmas.List.{map-append}
use Rattle.std.proofs.lemmas.List.Elements.{All-append, All-cons, All-head, All-nil, All-tail}
use Rattle.charlotte_calls.specs.declared.setting.Setting.{Setting}
use Rattle.charlotte_packets.specs.declared.picture.Picture.{Picture}
use Rattle.kernel_net.specs.Letters.{MayBePut, greatest_stamp}
use Rattle.kernel_net.specs.Ports.{kernels_of, place_of, put_to}
use Rattle.kernel_net.specs.declared.letter.Letter.{Letter}
use Rattle.kernel_net.specs.declared.letter.Letter.TheVariants as letter
use Rattle.kernel_outbox.specs.Letters.{MayAllBePut, outbox_to}
use Rattle.kernel_step.specs.Kernel.{Kernel}
use Rattle.kernel_step.specs.Start.{start_kernel}
use Rattle.program_runs.specs.Local.{LocalEvent, left_by, sends_to}
use Rattle.kernel_turns.specs.Letters.{AMarker, APacket, Told, letters_of, marker_told, packets, told, told_of}
use Rattle.kernel_turns.specs.Nodes.{HasSent, IsBy}
use Rattle.kernel_turns.specs.Turns.{markers_where, unbegun_markers}
use Rattle.kernel_turns.specs.declared.base.Base.{Base}

-- ---- how many markers are among letters

abbrev pub marks : List Told → ℕ
marks [] = 0
marks (APacket q ∷ ls) = marks ls
marks (AMarker ∷ ls) = marks ls + 1

pub marks-append : (xs ys : List Told) → marks (xs ++ ys) ≡ marks xs + marks ys
marks-append [] ys = omega arith
marks-append (APacket q ∷ xs) ys = marks-append xs ys
marks-append (AMarker ∷ xs) ys = let rest : marks (xs ++ ys) ≡ marks xs + marks ys = marks-append xs ys in omega (arith, rest)

pub marks-packets : (qs : List Picture) → marks (packets qs) ≡ 0
marks-packets [] = refl
marks-packets (q ∷ qs) = marks-packets qs

marks-markers : (kernels to : ℕ) → marks (marker_told kernels to) ≤ 1
marks-markers kernels to = elim (nat_lt to kernels) as (λ b. marks (told (if b then letter.Marker ∷ [] else [])) ≤ 1) [ true ↦ omega arith | false ↦ omega arith ]

-- what a run sends has one, or gets it where the node begins
marks-letters : (kernels : ℕ) (begun : Option ℕ) (to : ℕ) (x : Kernel) (made : List LocalEvent) → marks (letters_of kernels begun to x made ++ told (markers_where begun kernels to)) ≤ 1
marks-letters kernels None to x made =
    omega (arith, marks-append (packets (sends_to to x made)) (marker_told kernels to), marks-packets (sends_to to x made), marks-markers kernels to)
marks-letters kernels (Some n) to x made =
    let whole : marks (packets (sends_to to x (take n made)) ++ marker_told kernels to ++ packets (sends_to to (left_by x (take n made)) (drop n made)) ++ [])
    ≡ marks (packets (sends_to to x (take n made)) ++ marker_told kernels to ++ packets (sends_to to (left_by x (take n made)) (drop n made))) + 0
    = marks-append (packets (sends_to to x (take n made)) ++ marker_told kernels to ++ packets (sends_to to (left_by x (take n made)) (drop n made))) [] in
    omega (
      arith,
      whole,
      marks-append (packets (sends_to to x (take n made)) ++ marker_told kernels to) (packets (sends_to to (left_by x (take n made)) (drop n made))),
      marks-append (packets (sends_to to x (take n made))) (marker_told kernels to),
      marks-packets (sends_to to x (take n made)),
      marks-packets (sends_to to (left_by x (take n made)) (drop n made)),
      marks-markers kernels to,
    )

-- ---- letters that may be put

no-marker : (ls : List Letter) → marks (told ls) ≡ 0 → All (λ l. l ≢ letter.Marker) ls
no-marker [] none = All-nil (λ l. l ≢ letter.Marker)
no-marker (letter.Packet p ∷ ls) none = All-cons (λ l. l ≢ letter.Marker) (letter.Packet p) ls (λ e. cc) (no-marker ls none)
no-marker (letter.Marker ∷ ls) none = absurd (omega (arith, none))

may-put : (stamp : ℕ) (put ls : List Letter) → stamp < greatest_stamp → marks (told (put ++ ls)) ≤ 1 → All (IsBy stamp) (told ls) → MayAllBePut put ls
may-put stamp put [] early few by = tt
may-put stamp put (l ∷ ls) early few by = (first l few by, may-put stamp (put ++ l ∷ []) ls early (subst (λ all. marks (told all) ≤ 1) (sym (append_assoc put (l ∷ []) ls)) few) (All-tail (IsBy stamp) (told_of l) (told ls) by))
  where
    first : (l : Letter) → marks (told (put ++ l ∷ ls)) ≤ 1 → All (IsBy stamp) (told (l ∷ ls)) → MayBePut put l
    first (letter.Packet p) few by =
        let at : p.stamp ≤ stamp = All-head (IsBy stamp) (told_of (letter.Packet p)) (told ls) by in
        omega (arith, at, early)
    first letter.Marker few by =
        let both : marks (told (put ++ letter.Marker ∷ ls)) ≡ marks (told put) + (marks (told ls) + 1)
        = ap marks (map-append told_of put (letter.Marker ∷ ls)) ∙ marks-append (told put) (AMarker ∷ told ls) in
        no-marker put (omega (arith, both, few))

pub markers-by : (stamp : ℕ) (begun : Option ℕ) (kernels to : ℕ) → All (IsBy stamp) (told (markers_where begun kernels to))
markers-by stamp (Some n) kernels to = All-nil (IsBy stamp)
markers-by stamp None kernels to =
    elim (nat_lt to kernels) as (λ b. All (IsBy stamp) (told (if b then letter.Marker ∷ [] else [])))
    [ true ↦ All-cons (IsBy stamp) AMarker [] tt (All-nil (IsBy stamp)) | false ↦ All-nil (IsBy stamp) ]

all-second : (P : Told → Type 0) (xs ys : List Told) → All P (xs ++ ys) → All P ys
all-second P [] ys all = all
all-second P (x ∷ xs) ys all = all-second P xs ys (All-tail P x (xs ++ ys) all)

-- what a node has in its outbox may be put, with the markers that go out once it begins
pub letters-may : (s : Setting) (k : ℕ) (made : List LocalEvent) (b : Base) → HasSent s k made b → b.kernel.stamp < greatest_stamp → (to : ℕ)
    → MayAllBePut (put_to b.port to) (outbox_to b.outbox to ++ unbegun_markers b to)
letters-may s k made b sent early to = may-put b.kernel.stamp (put_to b.port to) (outbox_to b.outbox to ++ unbegun_markers b to) early few by
  where
    put : List Letter
    put = put_to b.port to

    out : List Letter
    out = outbox_to b.outbox to

    begun : Option ℕ
    begun = b.course.begun

    few : marks (told (put_to b.port to ++ (outbox_to b.outbox to ++ unbegun_markers b to))) ≤ 1
    few = subst (λ ls. marks ls ≤ 1)
        (sym (ap told (sym (append_assoc put out (unbegun_markers b to))) ∙ map-append told_of (put ++ out) (unbegun_markers b to) ∙ ap (λ ls. ls ++ told (unbegun_markers b to)) (sent.put to)
        ∙ ap (λ n. letters_of s.kernels begun to (start_kernel s k) made ++ told (markers_where begun n to)) sent.kernels))
        (marks-letters s.kernels begun to (start_kernel s k) made)

    by : All (IsBy b.kernel.stamp) (told (outbox_to b.outbox to ++ unbegun_markers b to))
    by = subst (All (IsBy b.kernel.stamp)) (sym (map-append told_of out (unbegun_markers b to)))
        (All-append (IsBy b.kernel.stamp) (told out) (told (unbegun_markers b to))
        (all-second (IsBy b.kernel.stamp) (told put) (told out) (subst (All (IsBy b.kernel.stamp)) (map-append told_of put out) (sent.stamps to)))
        (markers-by b.kernel.stamp begun (kernels_of (place_of b.port)) to))
