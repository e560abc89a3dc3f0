-- Which line the kernels give in the place of a line.
use Rattle.std.specs.Prelude.{ℕ, max, if◌then◌else◌, List, [], ◌∷◌, ◌++◌, Option, Some, None, option_map, unwrap_or, codes}
use Rattle.std.specs.List.{flat_map, range_with_len}
use Rattle.charlotte_calls.specs.declared.calls.ServiceStep.{ServiceStep}
use Rattle.charlotte_calls.specs.declared.names.Pid.{Pid}
use Rattle.charlotte_packets.specs.declared.picture.Picture.{Picture}
use Rattle.charlotte_text.specs.Spelling.{number_text}
use Rattle.kernel_entries.specs.declared.entry.Happened.{Happened}
use Rattle.kernel_entries.specs.declared.entry.Happened.TheVariants.{Asked, Took}
use Rattle.kernel_step.specs.Kernel.{next_stamp}
use Rattle.transcript_lines.specs.Transcript.{happened_text, step_text}
use Rattle.transcript_reading.specs.declared.line.LineKind.{LineKind}
use Rattle.transcript_reading.specs.declared.line.LineKind.TheVariants as line
use Rattle.transcript_replay.specs.Course.{comes_after}
use Rattle.transcript_items.specs.Kept.{Kept, doing_of, first_due, first_packet, stamp_of}
use Rattle.transcript_items.specs.Texts.{filled}
use Rattle.transcript_items.specs.declared.kernels.Doing.{Doing}
use Rattle.transcript_items.specs.declared.kernels.Doing.TheVariants as doing

-- the line of an entry of this stamp and kernel
abbrev pub entry_text : ℕ × ℕ → Happened → List ℕ
entry_text at what = number_text at.0 ++ codes " k" ++ number_text at.1 ++ happened_text what

-- stamp and kernel of an entry, if it may stand behind the last one
abbrev pub placed : Option (ℕ × ℕ) → ℕ → ℕ → Option (ℕ × ℕ)
placed latest stamp kernel = if comes_after latest stamp kernel then Some (stamp, kernel) else None

-- those of the next call at a kernel with this last stamp
abbrev pub call_at : Option (ℕ × ℕ) → ℕ → Option ℕ → Option (ℕ × ℕ)
call_at latest kernel None = None
call_at latest kernel (Some stamp) = placed latest (next_stamp stamp) kernel

abbrev pub call_of : Kept → Option (ℕ × Doing) → Option (ℕ × ℕ)
call_of k None = None
call_of k (Some (kernel, doing.Runs)) = call_at k.latest kernel (stamp_of k kernel)
call_of k (Some (kernel, doing.Waits)) = None
call_of k (Some (kernel, doing.Exited)) = None

-- those of the next call of a process: it runs, and the merge has a place for it
abbrev pub next_call : Kept → Pid → Option (ℕ × ℕ)
next_call k p = call_of k (doing_of k p)

-- the stamp with which a kernel takes a packet
abbrev pub taking_stamp : Kept → ℕ → Picture → ℕ
taking_stamp k kernel q = next_stamp (max (unwrap_or (stamp_of k kernel) 0) q.stamp)

abbrev pub taking_of : Kept → ℕ → ℕ → Option Picture → Option (List ℕ)
taking_of k from kernel None = None
taking_of k from kernel (Some q) = option_map (λ at. entry_text at (Took from q)) (placed k.latest (taking_stamp k kernel q) kernel)

-- the line of the first packet from one kernel to another: one is under way, and the merge has a place for it
abbrev pub next_taking : Kept → ℕ → ℕ → Option (List ℕ)
next_taking k from kernel = taking_of k from kernel (first_packet k from kernel)

-- where no step is due: the line of this call or of the packet, with its right numbers
abbrev pub given_entry : Kept → LineKind → Option (List ℕ)
given_entry k (line.CallEntry stamp kernel p call) = option_map (λ at. entry_text at (Asked p call)) (next_call k p)
given_entry k (line.PacketEntry stamp kernel from picture) = next_taking k from kernel
given_entry k other = None

abbrev pub given_with : Kept → LineKind → Option ServiceStep → Option (List ℕ)
given_with k kind (Some step) = Some (step_text step)
given_with k kind None = given_entry k kind

-- the one line that the kernels give in the place of a line, if they give one
abbrev pub given : Kept → LineKind → Option (List ℕ)
given k kind = given_with k kind (first_due k)

-- ---- each entry that may stand next

-- the call of a process, with its stamp and kernel
abbrev pub call_forms : Pid → Option (ℕ × ℕ) → List (List ℕ)
call_forms p None = []
call_forms p (Some at) = filled (codes "# k# p# CALL") (at.0 ∷ at.1 ∷ p.0 ∷ []) ∷ []

abbrev pub calls_of : Kept → ℕ → List (List ℕ)
calls_of k number = call_forms (record { 0 = number }) (next_call k (record { 0 = number }))

abbrev pub listed_line : Option (List ℕ) → List (List ℕ)
listed_line None = []
listed_line (Some l) = l ∷ []

abbrev pub takings_from : Kept → ℕ → ℕ → List (List ℕ)
takings_from k kernel from = listed_line (next_taking k from kernel)

abbrev pub takings_at : Kept → ℕ → List (List ℕ)
takings_at k kernel = flat_map (takings_from k kernel) (range_with_len 0 k.setting.kernels)

-- a setting has at most so many processes
abbrev pub most_processes : ℕ
most_processes = 64

-- a call of each process that runs, and the first packet from each kernel to each
unfoldable pub next_entries : Kept → List (List ℕ)
next_entries k = flat_map (calls_of k) (range_with_len 0 most_processes) ++ flat_map (takings_at k) (range_with_len 0 k.setting.kernels)
