-- Lines that were read: each is spelled so, and what is spelled so is read.
use Rattle.std.proofs.Common.{◌≡◌, inl, inr, ℕ, codes, List, [], ◌∷◌, Result, Ok, refl, subst, ◌∙◌}
use Rattle.std.specs.Str.{bytes_eq}
use Rattle.std.proofs.lemmas.Slice.Eq.{bytes_eq-Decides}
use Rattle.charlotte_calls.specs.Ranges.{IsU8, IsU64}
use Rattle.charlotte_text.specs.declared.fault.Fault.{Fault}
use Rattle.charlotte_text.specs.declared.fault.Fault.TheVariants.{Form}
use Rattle.charlotte_text.specs.Spelling.{number_text, process_text}
use Rattle.charlotte_text.specs.Reading.{◌>>=◌, ended, is_number, call_of}
use Rattle.charlotte_text.proofs.Calls.{call_words, call_takes}
use Rattle.charlotte_text.proofs.Steps.{bind_ok, ok_is, not_ok, chosen, held}
use Rattle.transcript_lines.specs.declared.last.Last.TheVariants.{Quiet, Unsettled, Spent}
use Rattle.transcript_reading.specs.Forms.{first_of, only_of, this_word, u8_of, u32_of, u64_of, numbered_of, kernel_of, pid_of, waits_of, packet_of, step_of, took_of, asked_of, happened_of, entry_of, home_of, wire_of, note_of, named_line_of, kind_of}
use Rattle.transcript_reading.specs.declared.line.LineKind.{LineKind}
use Rattle.transcript_reading.specs.declared.line.LineKind.TheVariants as kind
use Rattle.transcript_reading.proofs.Packets.{packet_name, packet_rest}
use Rattle.transcript_reading.proofs.Steps.{step_name, step_rest}
use Rattle.transcript_reading.specs.Spelling.{bare_step, IsKind}
use Rattle.transcript_forms.proofs.Packets.{packet_takes}
use Rattle.transcript_forms.proofs.Steps.{step_takes}
use Rattle.transcript_forms.proofs.Taking.{first_ok, only_ok, none_ok, named_ok, cons_is, u8_takes, u32_takes, u64_takes, numbered_takes, kernel_takes, pid_takes, waits_text, waits_takes}

-- the words of a line
abbrev pub kind_words : LineKind → List (List ℕ)
kind_words (kind.First version) = codes "transcript" ∷ number_text version ∷ []
kind_words (kind.Kernels kernels) = codes "kernels" ∷ number_text kernels ∷ []
kind_words (kind.Process p kernel) = codes "process" ∷ number_text p.0 ∷ codes "on" ∷ number_text kernel ∷ []
kind_words (kind.Wire first second) = codes "wire" ∷ number_text first.0 ∷ number_text second.0 ∷ []
kind_words (kind.CallEntry stamp kernel p c) = number_text stamp ∷ (107 ∷ number_text kernel) ∷ process_text p ∷ call_words c
kind_words (kind.PacketEntry stamp kernel from picture) =
    number_text stamp ∷ (107 ∷ number_text kernel) ∷ codes "from" ∷ number_text from ∷ packet_name picture.what ∷ packet_rest picture.what
kind_words (kind.Service s) = codes "." ∷ step_name (bare_step s) ∷ step_rest (bare_step s)
kind_words (kind.Note note) = codes "note" ∷ number_text note.line ∷ waits_text note.waits ∷ []
kind_words (kind.End Quiet) = codes "quiet" ∷ []
kind_words (kind.End Unsettled) = codes "open" ∷ []
kind_words (kind.End (Spent kernel)) = codes "spent" ∷ number_text kernel ∷ []

-- these words show this
abbrev pub IsLine : ℕ → List (List ℕ) → LineKind → Type 0
IsLine v ws k = (ws ≡ kind_words k) × IsKind v k

-- ---- entries

asked_takes : (v stamp kernel : ℕ) (w : List ℕ) (ws : List (List ℕ)) (k : LineKind) → IsU64 stamp → IsU8 kernel → asked_of v stamp kernel w ws ≡ Ok k
    → IsLine v (number_text stamp ∷ (107 ∷ number_text kernel) ∷ w ∷ ws) k
unfolding asked_of
asked_takes v stamp kernel w ws k stamped below e =
    let p = bind_ok (pid_of w) (λ p. call_of v ws >>= λ call. Ok (kind.CallEntry stamp kernel p call)) k e in
    let c = bind_ok (call_of v ws) (λ call. Ok (kind.CallEntry stamp kernel p.0 call)) k p.2 in
    let p_is = pid_takes w p.0 p.1 in
    let c_is = call_takes v ws c.0 c.1 in
    subst (IsLine v (number_text stamp ∷ (107 ∷ number_text kernel) ∷ w ∷ ws)) (ok_is (kind.CallEntry stamp kernel p.0 c.0) k c.2)
    (cons_is refl (cons_is refl (cons_is p_is.0 c_is.0)), (stamped, below, p_is.1, c_is.1))

took_takes : (v stamp kernel : ℕ) (ws : List (List ℕ)) (k : LineKind) → IsU64 stamp → IsU8 kernel → took_of v stamp kernel ws ≡ Ok k
    → IsLine v (number_text stamp ∷ (107 ∷ number_text kernel) ∷ codes "from" ∷ ws) k
unfolding took_of
took_takes v stamp kernel ws k stamped below e =
    let from = first_ok u8_of ws (λ from. packet_of v from.1 >>= λ what. Ok (kind.PacketEntry stamp kernel from.0 (record { stamp = 0; what = what }))) k e in
    let what = bind_ok (packet_of v from.left) (λ what. Ok (kind.PacketEntry stamp kernel from.value (record { stamp = 0; what = what }))) k from.goes in
    let from_is = u8_takes from.word from.value from.says in
    let what_is = packet_takes v from.left what.0 what.1 in
    subst (IsLine v (number_text stamp ∷ (107 ∷ number_text kernel) ∷ codes "from" ∷ ws)) (ok_is (kind.PacketEntry stamp kernel from.value (record { stamp = 0; what = what.0 })) k what.2)
    (cons_is refl (cons_is refl (cons_is refl (from.shape ∙ cons_is from_is.0 what_is.0))), (stamped, below, from_is.1, refl, what_is.1, what_is.2))

happened_takes : (v stamp kernel : ℕ) (ws : List (List ℕ)) (k : LineKind) → IsU64 stamp → IsU8 kernel → happened_of v stamp kernel ws ≡ Ok k
    → IsLine v (number_text stamp ∷ (107 ∷ number_text kernel) ∷ ws) k
unfolding happened_of
happened_takes v stamp kernel [] k stamped below e = absurd (not_ok k Form e)
happened_takes v stamp kernel (w ∷ ws) k stamped below e = elim (chosen (bytes_eq w (codes "from")) (took_of v stamp kernel ws) (asked_of v stamp kernel w ws) (Ok k) e) [
  | inl h ↦
      let t = took_takes v stamp kernel ws k stamped below h.1 in
      (cons_is refl (cons_is refl (cons_is ((bytes_eq-Decides w (codes "from")).0 h.0) refl)) ∙ t.0, t.1)
  | inr h ↦ asked_takes v stamp kernel w ws k stamped below h.1
]

entry_takes : (v : ℕ) (w : List ℕ) (ws : List (List ℕ)) (k : LineKind) → entry_of v w ws ≡ Ok k → IsLine v (w ∷ ws) k
unfolding entry_of
entry_takes v w ws k e =
    let stamp = bind_ok (u64_of w) (λ stamp. first_of kernel_of ws >>= λ kernel. happened_of v stamp kernel.0 kernel.1) k e in
    let kernel = first_ok kernel_of ws (λ kernel. happened_of v stamp.0 kernel.0 kernel.1) k stamp.2 in
    let stamp_is = u64_takes w stamp.0 stamp.1 in
    let kernel_is = kernel_takes kernel.word kernel.value kernel.says in
    let t = happened_takes v stamp.0 kernel.value kernel.left k stamp_is.1 kernel_is.1 kernel.goes in
    (cons_is stamp_is.0 (kernel.shape ∙ cons_is kernel_is.0 refl) ∙ t.0, t.1)

-- ---- the other lines

only_u8_made : (v : ℕ) (name : List ℕ) (ws : List (List ℕ)) (make : ℕ → LineKind) (k : LineKind) → ((n : ℕ) → ws ≡ number_text n ∷ [] → IsU8 n → IsLine v (name ∷ ws) (make n))
    → (only_of u8_of ws >>= λ n. Ok (make n)) ≡ Ok k → IsLine v (name ∷ ws) k
only_u8_made v name ws make k all e =
    let n = only_ok u8_of ws (λ n. Ok (make n)) k e in
    let t = u8_takes n.word n.value n.says in
    subst (IsLine v (name ∷ ws)) (ok_is (make n.value) k n.goes) (all n.value (n.shape ∙ cons_is t.0 refl) t.1)

bare_made : (v : ℕ) (name : List ℕ) (ws : List (List ℕ)) (made k : LineKind) → name ∷ [] ≡ kind_words made → IsKind v made → (ended ws >>= λ u. Ok made) ≡ Ok k → IsLine v (name ∷ ws) k
bare_made v name ws made k shape is e =
    let n = none_ok ws (Ok made) k e in
    subst (IsLine v (name ∷ ws)) (ok_is made k n.1) (cons_is refl n.0 ∙ shape, is)

this_word_ok : (said w : List ℕ) (u : Unit {0}) → this_word said w ≡ Ok u → w ≡ said
this_word_ok said w u e = let k = held (bytes_eq w said) (Ok tt) Form u e in (bytes_eq-Decides w said).0 k.0

home_takes : (v : ℕ) (ws : List (List ℕ)) (k : LineKind) → home_of ws ≡ Ok k → IsLine v (codes "process" ∷ ws) k
unfolding home_of
home_takes v ws k e =
    let p = first_ok numbered_of ws (λ p. first_of (this_word (codes "on")) p.1 >>= λ on. only_of u8_of on.1 >>= λ kernel. Ok (kind.Process p.0 kernel)) k e in
    let on = first_ok (this_word (codes "on")) p.left (λ on. only_of u8_of on.1 >>= λ kernel. Ok (kind.Process p.value kernel)) k p.goes in
    let kernel = only_ok u8_of on.left (λ kernel. Ok (kind.Process p.value kernel)) k on.goes in
    let p_is = numbered_takes p.word p.value p.says in
    let kernel_is = u8_takes kernel.word kernel.value kernel.says in
    subst (IsLine v (codes "process" ∷ ws)) (ok_is (kind.Process p.value kernel.value) k kernel.goes)
    (cons_is refl (p.shape ∙ cons_is p_is.0 (on.shape ∙ cons_is (this_word_ok (codes "on") on.word on.value on.says) (kernel.shape ∙ cons_is kernel_is.0 refl))), (p_is.1, kernel_is.1))

wire_takes : (v : ℕ) (ws : List (List ℕ)) (k : LineKind) → wire_of ws ≡ Ok k → IsLine v (codes "wire" ∷ ws) k
unfolding wire_of
wire_takes v ws k e =
    let first = first_ok numbered_of ws (λ first. only_of numbered_of first.1 >>= λ second. Ok (kind.Wire first.0 second)) k e in
    let second = only_ok numbered_of first.left (λ second. Ok (kind.Wire first.value second)) k first.goes in
    let first_is = numbered_takes first.word first.value first.says in
    let second_is = numbered_takes second.word second.value second.says in
    subst (IsLine v (codes "wire" ∷ ws)) (ok_is (kind.Wire first.value second.value) k second.goes)
    (cons_is refl (first.shape ∙ cons_is first_is.0 (second.shape ∙ cons_is second_is.0 refl)), (first_is.1, second_is.1))

note_takes : (v : ℕ) (ws : List (List ℕ)) (k : LineKind) → note_of ws ≡ Ok k → IsLine v (codes "note" ∷ ws) k
unfolding note_of
note_takes v ws k e =
    let number = first_ok u32_of ws (λ number. only_of waits_of number.1 >>= λ waits. Ok (kind.Note (record { line = number.0; waits = waits }))) k e in
    let waits = only_ok waits_of number.left (λ waits. Ok (kind.Note (record { line = number.value; waits = waits }))) k number.goes in
    let number_is = u32_takes number.word number.value number.says in
    let waits_is = waits_takes waits.word waits.value waits.says in
    subst (IsLine v (codes "note" ∷ ws)) (ok_is (kind.Note (record { line = number.value; waits = waits.value })) k waits.goes)
    (cons_is refl (number.shape ∙ cons_is number_is.0 (waits.shape ∙ cons_is waits_is refl)), number_is.1)

service_takes : (v : ℕ) (ws : List (List ℕ)) (k : LineKind) → (step_of v ws >>= λ s. Ok (kind.Service s)) ≡ Ok k → IsLine v (codes "." ∷ ws) k
service_takes v ws k e =
    let s = bind_ok (step_of v ws) (λ s. Ok (kind.Service s)) k e in
    let t = step_takes v ws s.0 s.1 in
    subst (IsLine v (codes "." ∷ ws)) (ok_is (kind.Service s.0) k s.2) (cons_is refl t.0, (t.1, t.2))

-- the name of a line, and what stands behind it
abbrev names : ℕ → List (List ℕ) → List (List ℕ × Result LineKind Fault)
names v ws =
    (codes ".", step_of v ws >>= λ s. Ok (kind.Service s)) ∷ (codes "transcript", only_of u8_of ws >>= λ n. Ok (kind.First n)) ∷ (codes "kernels", only_of u8_of ws >>= λ n. Ok (kind.Kernels n))
    ∷ (codes "process", home_of ws) ∷ (codes "wire", wire_of ws) ∷ (codes "note", note_of ws) ∷ (codes "quiet", ended ws >>= λ u. Ok (kind.End Quiet))
    ∷ (codes "open", ended ws >>= λ u. Ok (kind.End Unsettled)) ∷ (codes "spent", only_of u8_of ws >>= λ k. Ok (kind.End (Spent k))) ∷ []

-- a word that is the name
under : (v : ℕ) (w name : List ℕ) (ws : List (List ℕ)) (k : LineKind) → w ≡ name → IsLine v (name ∷ ws) k → IsLine v (w ∷ ws) k
under v w name ws k e is = (cons_is e refl ∙ is.0, is.1)

named_line_takes : (v : ℕ) (w : List ℕ) (ws : List (List ℕ)) (k : LineKind) → named_line_of v w ws ≡ Ok k → IsLine v (w ∷ ws) k
unfolding named_line_of
named_line_takes v w ws k e =
    named_ok (names v ws) w k (IsLine v (w ∷ ws) k) e (
      λ n h. under v w (codes ".") ws k n (service_takes v ws k h),
      (
        λ n h. under v w (codes "transcript") ws k n (only_u8_made v (codes "transcript") ws (λ x. kind.First x) k (λ x s r. (cons_is refl s, r)) h),
        (
          λ n h. under v w (codes "kernels") ws k n (only_u8_made v (codes "kernels") ws (λ x. kind.Kernels x) k (λ x s r. (cons_is refl s, r)) h),
          (
            λ n h. under v w (codes "process") ws k n (home_takes v ws k h),
            (
              λ n h. under v w (codes "wire") ws k n (wire_takes v ws k h),
              (
                λ n h. under v w (codes "note") ws k n (note_takes v ws k h),
                (
                  λ n h. under v w (codes "quiet") ws k n (bare_made v (codes "quiet") ws (kind.End Quiet) k refl tt h),
                  (
                    λ n h. under v w (codes "open") ws k n (bare_made v (codes "open") ws (kind.End Unsettled) k refl tt h),
                    (λ n h. under v w (codes "spent") ws k n (only_u8_made v (codes "spent") ws (λ x. kind.End (Spent x)) k (λ x s r. (cons_is refl s, r)) h), tt),
                  ),
                ),
              ),
            ),
          ),
        ),
      ),
    )

-- words that are read show what was read
pub words_take : (v : ℕ) (ws : List (List ℕ)) (k : LineKind) → kind_of v ws ≡ Ok k → IsLine v ws k
unfolding kind_of
words_take v [] k e = absurd (not_ok k Form e)
words_take v (w ∷ ws) k e = elim (chosen (is_number w) (entry_of v w ws) (named_line_of v w ws) (Ok k) e) [
  | inl h ↦ entry_takes v w ws k h.1
  | inr h ↦ named_line_takes v w ws k h.1
]
