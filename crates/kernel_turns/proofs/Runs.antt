-- A local run with one event more, and with a marker.
use Rattle.std.proofs.Common.{◌≡◌, ℕ, ◌≤◌, ◌<◌, List, [], ◌∷◌, ◌++◌, length, take, drop, ap, sym, refl, ◌∙◌, append_assoc, append-nil, Some, None}
use Rattle.std.proofs.lemmas.List.{drop-append-le, map-append, take-append-drop, take-append-le}
use Rattle.charlotte_calls.specs.declared.setting.Setting.{Setting}
use Rattle.journal_text.specs.Journal.{IsAfterLast}
use Rattle.kernel_step.specs.Kernel.{Kernel}
use Rattle.kernel_world.specs.World.{to_kernel}
use Rattle.program_runs.specs.Local.{IsLocalEvent, IsLocalRun, LocalEvent, entries_of, entry_of, gives, left_by, sends_to}
use Rattle.kernel_turns.specs.Letters.{letters_of, marker_told, packets, APacket, Told}

pub left-more : (x : Kernel) (made : List LocalEvent) (o : LocalEvent) → left_by x (made ++ o ∷ []) ≡ (gives (left_by x made) o).kernel
left-more x [] o = refl
left-more x (e ∷ es) o = left-more (gives x e).kernel es o

pub left-both : (x : Kernel) (made more : List LocalEvent) → left_by x (made ++ more) ≡ left_by (left_by x made) more
left-both x [] more = refl
left-both x (e ∷ es) more = left-both (gives x e).kernel es more

pub entries-more : (x : Kernel) (made : List LocalEvent) (o : LocalEvent) → entries_of x (made ++ o ∷ []) ≡ entries_of x made ++ entry_of (left_by x made) o ∷ []
entries-more x [] o = refl
entries-more x (e ∷ es) o = ap (λ l. entry_of x e ∷ l) (entries-more (gives x e).kernel es o)

pub sends-more : (to : ℕ) (x : Kernel) (made : List LocalEvent) (o : LocalEvent) → sends_to to x (made ++ o ∷ []) ≡ sends_to to x made ++ to_kernel to (gives (left_by x made) o).packets
sends-more to x [] o = append-nil (to_kernel to (gives x o).packets)
sends-more to x (e ∷ es) o =
    ap (λ qs. to_kernel to (gives x e).packets ++ qs) (sends-more to (gives x e).kernel es o)
    ∙ sym (append_assoc (to_kernel to (gives x e).packets) (sends_to to (gives x e).kernel es) (to_kernel to (gives (left_by x (e ∷ es)) o).packets))

pub run-more : (s : Setting) (k : ℕ) (x : Kernel) (made : List LocalEvent) (o : LocalEvent) → IsLocalRun s k x made → IsLocalEvent s k (left_by x made) o → IsLocalRun s k x (made ++ o ∷ [])
run-more s k x [] o run is = (is, tt)
run-more s k x (e ∷ es) o run is = (run.0, run-more s k (gives x e).kernel es o run.1 is)

-- a stamp that is later than that of the kernel is later than the entries
pub after-entries : (x : Kernel) (made : List LocalEvent) (n : ℕ) → (left_by x made).stamp < n → IsAfterLast (entries_of x made) n
after-entries x [] n later = tt
after-entries x (o ∷ []) n later = later
after-entries x (o ∷ e ∷ es) n later = after-entries (gives x o).kernel (e ∷ es) n later

-- ---- letters

pub letters-more : (kernels : ℕ) (x : Kernel) (made : List LocalEvent) (o : LocalEvent) (to : ℕ)
    → letters_of kernels None to x (made ++ o ∷ []) ≡ letters_of kernels None to x made ++ packets (to_kernel to (gives (left_by x made) o).packets)
letters-more kernels x made o to = ap packets (sends-more to x made o) ∙ map-append APacket (sends_to to x made) (to_kernel to (gives (left_by x made) o).packets)

pub letters-more_begun : (kernels begun : ℕ) (x : Kernel) (made : List LocalEvent) (o : LocalEvent) (to : ℕ) → begun ≤ length made
    → letters_of kernels (Some begun) to x (made ++ o ∷ []) ≡ letters_of kernels (Some begun) to x made ++ packets (to_kernel to (gives (left_by x made) o).packets)
letters-more_begun kernels begun x made o to before =
    ap (λ es. packets (sends_to to x es) ++ marker_told kernels to ++ packets (sends_to to (left_by x es) (drop begun (made ++ o ∷ [])))) (take-append-le begun made (o ∷ []) before)
    ∙ ap (λ es. first ++ packets (sends_to to mid es)) (drop-append-le begun made (o ∷ []) before)
    ∙ ap (λ qs. first ++ packets qs) (sends-more to mid (drop begun made) o)
    ∙ ap (λ ls. first ++ ls) (map-append APacket (sends_to to mid (drop begun made)) (to_kernel to (gives (left_by mid (drop begun made)) o).packets))
    ∙ ap (λ y. first ++ (packets (sends_to to mid (drop begun made)) ++ packets (to_kernel to (gives y o).packets))) (sym (left-both x (take begun made) (drop begun made)) ∙ ap (left_by x) (take-append-drop begun made))
    ∙ sym (append_assoc first (packets (sends_to to mid (drop begun made))) (packets (to_kernel to (gives (left_by x made) o).packets)))
  where
    mid : Kernel
    mid = left_by x (take begun made)

    first : List Told
    first = packets (sends_to to x (take begun made)) ++ marker_told kernels to
