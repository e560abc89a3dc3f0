-- Worked runs: the very lines of their transcripts, computed from the settings and the calls and takings alone.
use Rattle.std.proofs.Common.{◌≡◌, ℕ, List, [], ◌∷◌, ◌++◌, map, codes, false, refl, sym, ap, ◌∙◌}
use Rattle.std.specs.Fmt.{digits}
use Rattle.std.specs.List.{flat_map}
use Rattle.charlotte_calls.specs.declared.calls.ServiceStep.{ServiceStep}
use Rattle.charlotte_calls.specs.declared.setting.Setting.{Setting}
use Rattle.transcript_lines.specs.Transcript.{line, entry_lines, header_lines, note_text, last_text, transcript_lines}
use Rattle.transcript_lines.specs.declared.last.Last.{Last}
use Rattle.transcript_lines.specs.declared.last.Last.TheVariants.{Quiet}
use Rattle.transcript_lines.specs.declared.last.ScriptNote.{ScriptNote}
use Rattle.kernel_world.specs.World.{start, noted}
use Rattle.kernel_entries.specs.declared.entry.Happened.{Happened}
use Rattle.kernel_entries.specs.declared.entry.Happened.TheVariants.{Asked, Took}
use Rattle.kernel_entries.specs.declared.entry.Placed.{Placed}
use Rattle.transcript_record.proofs.Rows as rows

-- no line shows the stamp of a packet
entry-unstamped : (stamp kernel : ℕ) (what : Happened) (steps : List ServiceStep)
    → entry_lines (record { kernel = kernel; entry = record { stamp = stamp; what = rows.unstamped_what what; steps = steps } })
    ≡ entry_lines (record { kernel = kernel; entry = record { stamp = stamp; what = what; steps = steps } })
entry-unstamped stamp kernel (Asked p c) steps = refl
entry-unstamped stamp kernel (Took from picture) steps = refl

entries-unstamped : (ps : List Placed) → flat_map entry_lines (rows.unstamped ps) ≡ flat_map entry_lines ps
entries-unstamped [] = refl
entries-unstamped (p ∷ ps) =
    ap (λ ls. ls ++ flat_map entry_lines (rows.unstamped ps)) (entry-unstamped p.entry.stamp p.kernel p.entry.what p.entry.steps) ∙ ap (λ ls. entry_lines p ++ ls) (entries-unstamped ps)

lines-unstamped : (s : Setting) (ps : List Placed) (notes : List ScriptNote) (last : Last) → transcript_lines s (rows.unstamped ps) notes last ≡ transcript_lines s ps notes last
lines-unstamped s ps notes last =
    ap (λ ls. header_lines s ++ ls ++ map (λ n. line (note_text n)) notes ++ line (last_text last) ∷ []) (entries-unstamped ps)

-- the lines of a run whose entries are known but for those stamps
lines-of : (s : Setting) (notes : List ScriptNote) (ps es : List Placed) (ls : List (List ℕ)) → rows.unstamped ps ≡ es → transcript_lines s es notes Quiet ≡ ls → transcript_lines s ps notes Quiet ≡ ls
lines-of s notes ps es ls h k =
    sym (lines-unstamped s ps notes Quiet) ∙ ap (λ (qs : List Placed). transcript_lines s qs notes Quiet) h ∙ k

abbrev one_message_on_one_kernel_lines : List (List ℕ)
one_message_on_one_kernel_lines =
    line (codes "transcript 1")
    ∷ line (codes "kernels 1")
    ∷ line (codes "process 0 on 0")
    ∷ line (codes "process 1 on 0")
    ∷ line (codes "wire 0 1")
    ∷ line (codes "1 k0 p1 receive 0.0b")
    ∷ line (codes ". receive 0.0b")
    ∷ line (codes "2 k0 p0 send 0.0a hello")
    ∷ line (codes ". send 0.0a 1")
    ∷ line (codes "3 k0 from 0 want 0.0a 1 0 0")
    ∷ line (codes ". match 0.0a 1")
    ∷ line (codes "4 k0 from 0 parcel 0.0b 1 1 0 0 hello")
    ∷ line (codes ". take 0.0a 1 p1")
    ∷ line (codes "5 k0 from 0 taken 0.0a 1 0 0")
    ∷ line (codes ". complete 0.0a 1")
    ∷ line (codes "6 k0 p0 wait")
    ∷ line (codes ". wait p0")
    ∷ line (codes ". report p0 0.0a out done")
    ∷ line (codes "7 k0 p1 wait")
    ∷ line (codes ". wait p1")
    ∷ line (codes ". report p1 0.0b in done hello")
    ∷ line (codes "quiet")
    ∷ []

pub one_message_on_one_kernel : transcript_lines rows.one_message_on_one_kernel_setting (noted (start rows.one_message_on_one_kernel_setting) rows.one_message_on_one_kernel_events) [] Quiet ≡ one_message_on_one_kernel_lines
unfolding digits
one_message_on_one_kernel =
    lines-of rows.one_message_on_one_kernel_setting [] (noted (start rows.one_message_on_one_kernel_setting) rows.one_message_on_one_kernel_events) rows.one_message_on_one_kernel_entries one_message_on_one_kernel_lines rows.one_message_on_one_kernel refl

abbrev one_message_between_two_kernels_lines : List (List ℕ)
one_message_between_two_kernels_lines =
    line (codes "transcript 1")
    ∷ line (codes "kernels 2")
    ∷ line (codes "process 0 on 0")
    ∷ line (codes "process 1 on 1")
    ∷ line (codes "wire 0 1")
    ∷ line (codes "1 k0 p0 send 0.0a x")
    ∷ line (codes ". send 0.0a 1")
    ∷ line (codes "1 k1 p1 receive 0.0b")
    ∷ line (codes ". receive 0.0b")
    ∷ line (codes "2 k0 from 1 want 0.0a 1 1 0")
    ∷ line (codes ". match 0.0a 1")
    ∷ line (codes "3 k1 from 0 parcel 0.0b 1 1 0 0 x")
    ∷ line (codes ". take 0.0a 1 p1")
    ∷ line (codes "4 k0 from 1 taken 0.0a 1 1 0")
    ∷ line (codes ". complete 0.0a 1")
    ∷ line (codes "4 k1 p1 wait")
    ∷ line (codes ". wait p1")
    ∷ line (codes ". report p1 0.0b in done x")
    ∷ line (codes "quiet")
    ∷ []

pub one_message_between_two_kernels : transcript_lines rows.one_message_between_two_kernels_setting (noted (start rows.one_message_between_two_kernels_setting) rows.one_message_between_two_kernels_events) [] Quiet ≡ one_message_between_two_kernels_lines
unfolding digits
one_message_between_two_kernels =
    lines-of rows.one_message_between_two_kernels_setting [] (noted (start rows.one_message_between_two_kernels_setting) rows.one_message_between_two_kernels_events) rows.one_message_between_two_kernels_entries one_message_between_two_kernels_lines rows.one_message_between_two_kernels refl

abbrev cancel_meets_its_parcel_lines : List (List ℕ)
cancel_meets_its_parcel_lines =
    line (codes "transcript 1")
    ∷ line (codes "kernels 2")
    ∷ line (codes "process 0 on 0")
    ∷ line (codes "process 1 on 1")
    ∷ line (codes "wire 0 1")
    ∷ line (codes "1 k0 p0 send 0.0a x")
    ∷ line (codes ". send 0.0a 1")
    ∷ line (codes "1 k1 p1 receive 0.0b")
    ∷ line (codes ". receive 0.0b")
    ∷ line (codes "2 k0 from 1 want 0.0a 1 1 0")
    ∷ line (codes ". match 0.0a 1")
    ∷ line (codes "2 k1 p1 cancel 0.0b in")
    ∷ line (codes ". cancel 0.0b in")
    ∷ line (codes "3 k0 from 1 unwant 0.0a 1 1 0")
    ∷ line (codes "3 k1 from 0 parcel 0.0b 1 1 0 0 x")
    ∷ line (codes ". take 0.0a 1 p1 late")
    ∷ line (codes "4 k0 from 1 taken 0.0a 1 1 0")
    ∷ line (codes ". complete 0.0a 1")
    ∷ line (codes "4 k1 p1 wait")
    ∷ line (codes ". wait p1")
    ∷ line (codes ". report p1 0.0b in done x")
    ∷ line (codes "quiet")
    ∷ []

pub cancel_meets_its_parcel : transcript_lines rows.cancel_meets_its_parcel_setting (noted (start rows.cancel_meets_its_parcel_setting) rows.cancel_meets_its_parcel_events) [] Quiet ≡ cancel_meets_its_parcel_lines
unfolding digits
cancel_meets_its_parcel =
    lines-of rows.cancel_meets_its_parcel_setting [] (noted (start rows.cancel_meets_its_parcel_setting) rows.cancel_meets_its_parcel_events) rows.cancel_meets_its_parcel_entries cancel_meets_its_parcel_lines rows.cancel_meets_its_parcel refl

abbrev an_end_moves_and_its_trace_is_forgotten_lines : List (List ℕ)
an_end_moves_and_its_trace_is_forgotten_lines =
    line (codes "transcript 1")
    ∷ line (codes "kernels 3")
    ∷ line (codes "process 0 on 0")
    ∷ line (codes "process 1 on 1")
    ∷ line (codes "process 2 on 2")
    ∷ line (codes "wire 0 1")
    ∷ line (codes "wire 2 0")
    ∷ line (codes "1 k0 p0 send 0.0a x +2.0b")
    ∷ line (codes ". send 0.0a 1 +2.0b")
    ∷ line (codes "1 k1 p1 receive 0.0b")
    ∷ line (codes ". receive 0.0b")
    ∷ line (codes "2 k0 from 1 want 0.0a 1 1 0")
    ∷ line (codes ". match 0.0a 1")
    ∷ line (codes "3 k1 from 0 parcel 0.0b 1 1 0 0 x +2.0b:1:2:0:0:0:0:0:0:1")
    ∷ line (codes ". take 0.0a 1 p1")
    ∷ line (codes "4 k0 from 1 taken 0.0a 1 1 0")
    ∷ line (codes ". complete 0.0a 1")
    ∷ line (codes "4 k2 from 1 moved 2.0a 1 1")
    ∷ line (codes "5 k1 from 2 known 2.0b 1")
    ∷ line (codes "5 k2 p2 receive 2.0a")
    ∷ line (codes ". receive 2.0a")
    ∷ line (codes "6 k0 from 1 forget 2.0b 1")
    ∷ line (codes "6 k1 p1 wait")
    ∷ line (codes ". wait p1")
    ∷ line (codes ". report p1 0.0b in done x +2.0b")
    ∷ line (codes "7 k1 from 2 want 2.0b 1 2 0")
    ∷ line (codes "8 k1 p1 send 2.0b y")
    ∷ line (codes ". send 2.0b 1")
    ∷ line (codes ". match 2.0b 1")
    ∷ line (codes "9 k2 from 1 parcel 2.0a 1 1 1 1 y")
    ∷ line (codes ". take 2.0b 1 p2")
    ∷ line (codes "10 k1 from 2 taken 2.0b 1 2 0")
    ∷ line (codes ". complete 2.0b 1")
    ∷ line (codes "10 k2 p2 wait")
    ∷ line (codes ". wait p2")
    ∷ line (codes ". report p2 2.0a in done y")
    ∷ line (codes "quiet")
    ∷ []

pub an_end_moves_and_its_trace_is_forgotten : transcript_lines rows.an_end_moves_and_its_trace_is_forgotten_setting (noted (start rows.an_end_moves_and_its_trace_is_forgotten_setting) rows.an_end_moves_and_its_trace_is_forgotten_events) [] Quiet ≡ an_end_moves_and_its_trace_is_forgotten_lines
unfolding digits
an_end_moves_and_its_trace_is_forgotten =
    lines-of rows.an_end_moves_and_its_trace_is_forgotten_setting [] (noted (start rows.an_end_moves_and_its_trace_is_forgotten_setting) rows.an_end_moves_and_its_trace_is_forgotten_events)
    rows.an_end_moves_and_its_trace_is_forgotten_entries an_end_moves_and_its_trace_is_forgotten_lines rows.an_end_moves_and_its_trace_is_forgotten refl

abbrev a_dead_link_leaves_no_trace_lines : List (List ℕ)
a_dead_link_leaves_no_trace_lines =
    line (codes "transcript 1")
    ∷ line (codes "kernels 2")
    ∷ line (codes "process 0 on 0")
    ∷ line (codes "process 1 on 1")
    ∷ line (codes "wire 0 1")
    ∷ line (codes "1 k1 p1 destroy 0.0b")
    ∷ line (codes ". destroy 0.0b")
    ∷ line (codes "2 k0 from 1 gone 0.0a 1")
    ∷ line (codes ". notice 0.0a")
    ∷ line (codes "3 k0 p0 destroy 0.0a")
    ∷ line (codes ". destroy 0.0a")
    ∷ line (codes "3 k1 from 0 goneseen 0.0b")
    ∷ line (codes "quiet")
    ∷ []

pub a_dead_link_leaves_no_trace : transcript_lines rows.a_dead_link_leaves_no_trace_setting (noted (start rows.a_dead_link_leaves_no_trace_setting) rows.a_dead_link_leaves_no_trace_events) [] Quiet ≡ a_dead_link_leaves_no_trace_lines
unfolding digits
a_dead_link_leaves_no_trace =
    lines-of rows.a_dead_link_leaves_no_trace_setting [] (noted (start rows.a_dead_link_leaves_no_trace_setting) rows.a_dead_link_leaves_no_trace_events) rows.a_dead_link_leaves_no_trace_entries a_dead_link_leaves_no_trace_lines rows.a_dead_link_leaves_no_trace refl

abbrev busy_until_reported_lines : List (List ℕ)
busy_until_reported_lines =
    line (codes "transcript 1")
    ∷ line (codes "kernels 2")
    ∷ line (codes "process 0 on 0")
    ∷ line (codes "process 1 on 1")
    ∷ line (codes "wire 0 1")
    ∷ line (codes "1 k0 p0 send 0.0a x")
    ∷ line (codes ". send 0.0a 1")
    ∷ line (codes "1 k1 p1 receive 0.0b")
    ∷ line (codes ". receive 0.0b")
    ∷ line (codes "2 k0 from 1 want 0.0a 1 1 0")
    ∷ line (codes ". match 0.0a 1")
    ∷ line (codes "3 k1 from 0 parcel 0.0b 1 1 0 0 x")
    ∷ line (codes ". take 0.0a 1 p1")
    ∷ line (codes "4 k0 from 1 taken 0.0a 1 1 0")
    ∷ line (codes ". complete 0.0a 1")
    ∷ line (codes "4 k1 p1 wait")
    ∷ line (codes ". wait p1")
    ∷ line (codes ". report p1 0.0b in done x")
    ∷ line (codes "5 k0 p0 send 0.0a y")
    ∷ line (codes ". refuse p0 Busy")
    ∷ line (codes "6 k0 p0 wait")
    ∷ line (codes ". wait p0")
    ∷ line (codes ". report p0 0.0a out done")
    ∷ line (codes "7 k0 p0 send 0.0a y")
    ∷ line (codes ". send 0.0a 2")
    ∷ line (codes "quiet")
    ∷ []

pub busy_until_reported : transcript_lines rows.busy_until_reported_setting (noted (start rows.busy_until_reported_setting) rows.busy_until_reported_events) [] Quiet ≡ busy_until_reported_lines
unfolding digits
busy_until_reported =
    lines-of rows.busy_until_reported_setting [] (noted (start rows.busy_until_reported_setting) rows.busy_until_reported_events) rows.busy_until_reported_entries busy_until_reported_lines rows.busy_until_reported refl

abbrev two_ends_in_one_message_lines : List (List ℕ)
two_ends_in_one_message_lines =
    line (codes "transcript 2")
    ∷ line (codes "kernels 2")
    ∷ line (codes "process 0 on 0")
    ∷ line (codes "process 1 on 1")
    ∷ line (codes "wire 0 1")
    ∷ line (codes "wire 0 1")
    ∷ line (codes "wire 0 1")
    ∷ line (codes "1 k1 p1 receive 0.0b")
    ∷ line (codes ". receive 0.0b")
    ∷ line (codes "2 k0 from 1 want 0.0a 1 1 0")
    ∷ line (codes "3 k0 p0 send 0.0a x +0.1a +0.2a")
    ∷ line (codes ". send 0.0a 1 +0.1a +0.2a")
    ∷ line (codes ". match 0.0a 1")
    ∷ line (codes "4 k1 from 0 parcel 0.0b 1 1 0 0 x +0.1a:1:1:0:0:0:0:0:0:1 +0.2a:1:1:0:0:0:0:0:0:1")
    ∷ line (codes ". take 0.0a 1 p1")
    ∷ line (codes "5 k0 from 1 taken 0.0a 1 1 0")
    ∷ line (codes ". complete 0.0a 1")
    ∷ line (codes "5 k1 from 1 moved 0.1b 1 1")
    ∷ line (codes "6 k1 from 1 moved 0.2b 1 1")
    ∷ line (codes "7 k1 from 1 known 0.1a 1")
    ∷ line (codes "8 k0 from 1 forget 0.1a 1")
    ∷ line (codes "8 k1 from 1 known 0.2a 1")
    ∷ line (codes "9 k0 from 1 forget 0.2a 1")
    ∷ line (codes "9 k1 p1 wait")
    ∷ line (codes ". wait p1")
    ∷ line (codes ". report p1 0.0b in done x +0.1a +0.2a")
    ∷ line (codes "quiet")
    ∷ []

pub two_ends_in_one_message : transcript_lines rows.two_ends_in_one_message_setting (noted (start rows.two_ends_in_one_message_setting) rows.two_ends_in_one_message_events) [] Quiet ≡ two_ends_in_one_message_lines
unfolding digits
two_ends_in_one_message =
    lines-of rows.two_ends_in_one_message_setting [] (noted (start rows.two_ends_in_one_message_setting) rows.two_ends_in_one_message_events) rows.two_ends_in_one_message_entries two_ends_in_one_message_lines rows.two_ends_in_one_message refl

abbrev no_process_lines : List (List ℕ)
no_process_lines =
    line (codes "transcript 1")
    ∷ line (codes "kernels 1")
    ∷ line (codes "quiet")
    ∷ []

pub no_process : transcript_lines rows.no_process_setting (noted (start rows.no_process_setting) rows.no_process_events) [] Quiet ≡ no_process_lines
unfolding digits
no_process =
    lines-of rows.no_process_setting [] (noted (start rows.no_process_setting) rows.no_process_events) rows.no_process_entries no_process_lines rows.no_process refl

abbrev a_back_that_notices_lines : List (List ℕ)
a_back_that_notices_lines =
    line (codes "transcript 1")
    ∷ line (codes "kernels 5")
    ∷ line (codes "process 0 on 0")
    ∷ line (codes "process 1 on 1")
    ∷ line (codes "process 2 on 2")
    ∷ line (codes "process 3 on 3")
    ∷ line (codes "process 4 on 4")
    ∷ line (codes "wire 0 1")
    ∷ line (codes "wire 0 2")
    ∷ line (codes "wire 1 3")
    ∷ line (codes "wire 2 4")
    ∷ line (codes "1 k2 p2 receive 0.1b")
    ∷ line (codes ". receive 0.1b")
    ∷ line (codes "1 k3 p3 receive 1.0b")
    ∷ line (codes ". receive 1.0b")
    ∷ line (codes "1 k4 p4 receive 2.0b")
    ∷ line (codes ". receive 2.0b")
    ∷ line (codes "2 k0 from 2 want 0.1a 1 2 0")
    ∷ line (codes "2 k1 from 3 want 1.0a 1 3 0")
    ∷ line (codes "2 k2 from 4 want 2.0a 1 4 0")
    ∷ line (codes "3 k0 p0 send 0.1a x +0.0a")
    ∷ line (codes ". send 0.1a 1 +0.0a")
    ∷ line (codes ". match 0.1a 1")
    ∷ line (codes "3 k1 p1 send 1.0a x +0.0b")
    ∷ line (codes ". send 1.0a 1 +0.0b")
    ∷ line (codes ". match 1.0a 1")
    ∷ line (codes "4 k2 from 0 parcel 0.1b 1 1 0 0 x +0.0a:1:1:0:0:0:0:0:0:1")
    ∷ line (codes ". take 0.1a 1 p2")
    ∷ line (codes "4 k3 from 1 parcel 1.0b 1 1 1 0 x +0.0b:1:0:0:0:0:0:0:0:2")
    ∷ line (codes ". take 1.0a 1 p3")
    ∷ line (codes "5 k0 from 2 taken 0.1a 1 2 0")
    ∷ line (codes ". complete 0.1a 1")
    ∷ line (codes "5 k1 from 2 moved 0.0b 2 1")
    ∷ line (codes "5 k2 p2 wait")
    ∷ line (codes ". wait p2")
    ∷ line (codes ". report p2 0.1b in done x +0.0a")
    ∷ line (codes "5 k3 p3 wait")
    ∷ line (codes ". wait p3")
    ∷ line (codes ". report p3 1.0b in done x +0.0b")
    ∷ line (codes "6 k0 from 3 moved 0.0a 3 1")
    ∷ line (codes "6 k1 from 3 taken 1.0a 1 3 0")
    ∷ line (codes ". complete 1.0a 1")
    ∷ line (codes "6 k2 p2 send 2.0a x +0.0a")
    ∷ line (codes ". send 2.0a 1 +0.0a")
    ∷ line (codes ". match 2.0a 1")
    ∷ line (codes "6 k3 p3 receive 0.0b")
    ∷ line (codes ". receive 0.0b")
    ∷ line (codes "7 k0 from 3 want 0.0a 1 3 1")
    ∷ line (codes "7 k3 from 1 moved 0.0b 2 1")
    ∷ line (codes "7 k4 from 2 parcel 2.0b 1 1 2 0 x +0.0a:2:1:0:0:0:0:0:0:5")
    ∷ line (codes ". take 2.0a 1 p4")
    ∷ line (codes "8 k1 from 4 moved 0.0b 4 2")
    ∷ line (codes "8 k2 from 3 want 0.0a 1 3 1")
    ∷ line (codes "8 k3 p3 destroy 0.0b")
    ∷ line (codes ". destroy 0.0b")
    ∷ line (codes "8 k4 p4 wait")
    ∷ line (codes ". wait p4")
    ∷ line (codes ". report p4 2.0b in done x +0.0a")
    ∷ line (codes "9 k2 p2 receive 2.0a")
    ∷ line (codes ". receive 2.0a")
    ∷ line (codes "9 k4 p4 send 0.0a y")
    ∷ line (codes ". send 0.0a 1")
    ∷ line (codes "10 k2 from 4 taken 2.0a 1 4 0")
    ∷ line (codes ". complete 2.0a 1")
    ∷ line (codes "10 k4 from 2 want 0.0a 1 3 1")
    ∷ line (codes ". match 0.0a 1")
    ∷ line (codes "11 k2 from 0 moved 0.0a 3 1")
    ∷ line (codes "11 k3 from 4 parcel 0.0b 1 1 4 2 y")
    ∷ line (codes "12 k2 from 0 want 0.0a 1 3 1")
    ∷ line (codes "12 k3 from 4 moved 0.0b 4 2")
    ∷ line (codes "12 k4 from 3 back 0.0a 1")
    ∷ line (codes ". back 0.0a 1")
    ∷ line (codes "13 k0 from 4 forget 0.0a 2")
    ∷ line (codes "13 k2 from 3 moved 0.0a 3 1")
    ∷ line (codes "13 k3 from 1 moved 0.0b 4 2")
    ∷ line (codes "13 k4 p4 wait")
    ∷ line (codes ". wait p4")
    ∷ line (codes ". report p4 0.0a out destroyed")
    ∷ line (codes "14 k2 from 3 known 0.0a 1")
    ∷ line (codes "14 k3 from 4 goneseen 0.0b")
    ∷ line (codes "14 k4 from 2 want 2.0b 1 2 0")
    ∷ line (codes "15 k1 from 3 forget 0.0b 1")
    ∷ line (codes "15 k2 from 3 gone 0.0a 3")
    ∷ line (codes "15 k4 p4 send 2.0b z +0.0a")
    ∷ line (codes ". send 2.0b 1 +0.0a")
    ∷ line (codes ". match 2.0b 1")
    ∷ line (codes "16 k2 from 4 forget 0.0a 2")
    ∷ line (codes "16 k4 from 2 moved 0.0a 3 1")
    ∷ line (codes "17 k2 from 4 parcel 2.0a 1 1 4 0 z +0.0a:3:3:1:1:0:1:0:1:16")
    ∷ line (codes ". take 2.0b 1 p2")
    ∷ line (codes "17 k4 from 2 want 0.0a 1 3 1")
    ∷ line (codes "18 k4 from 2 moved 0.0a 3 1")
    ∷ line (codes "19 k4 from 2 gone 0.0a 3")
    ∷ line (codes "20 k4 from 3 gone 0.0a 3")
    ∷ line (codes "21 k4 from 3 gone 0.0a 3")
    ∷ line (codes "22 k4 from 2 taken 2.0b 1 2 0")
    ∷ line (codes ". complete 2.0b 1")
    ∷ line (codes "note 38 nothing")
    ∷ line (codes "quiet")
    ∷ []

pub a_back_that_notices : transcript_lines rows.a_back_that_notices_setting (noted (start rows.a_back_that_notices_setting) rows.a_back_that_notices_events) (record { line = 38; waits = false } ∷ []) Quiet ≡ a_back_that_notices_lines
unfolding digits
a_back_that_notices =
    lines-of rows.a_back_that_notices_setting (record { line = 38; waits = false } ∷ []) (noted (start rows.a_back_that_notices_setting) rows.a_back_that_notices_events) rows.a_back_that_notices_entries a_back_that_notices_lines rows.a_back_that_notices refl
