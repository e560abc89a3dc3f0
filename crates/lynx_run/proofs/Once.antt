-- A script has one performance, and so `drive` puts one text of it, and `bench` one of its seed.
use Rattle.std.proofs.Common.{◌≡◌, ℕ, List, [], ◌∷◌, ◌++◌, Result, Ok, refl, sym, ap, subst, ◌∙◌}
use Rattle.charlotte_calls.specs.declared.calls.Call.{Call}
use Rattle.charlotte_calls.specs.declared.names.Pid.{Pid}
use Rattle.charlotte_calls.specs.declared.setting.Setting.{Setting}
use Rattle.charlotte_packets.specs.declared.picture.Picture.{Picture}
use Rattle.journal_text.proofs.Merges.{in-order-unique}
use Rattle.kernel_entries.specs.Order.{of_kernel}
use Rattle.kernel_entries.specs.declared.entry.Happened.TheVariants.{Asked}
use Rattle.kernel_entries.specs.declared.entry.Placed.{Placed}
use Rattle.kernel_step.specs.Kernel.{Outcome, process_of}
use Rattle.kernel_step.specs.Start.{home}
use Rattle.kernel_step.specs.declared.phase.Phase.{Phase}
use Rattle.kernel_step.specs.declared.phase.Phase.TheVariants.{Running, Waiting, Cancelling, Exited}
use Rattle.kernel_world.specs.World.{World, Event, after, noted, start}
use Rattle.lynx_plan.specs.Reading.{script_of}
use Rattle.lynx_plan.specs.declared.fault.PlanFault.{PlanFault}
use Rattle.lynx_plan.specs.declared.script.Script.{Script}
use Rattle.lynx_plan.specs.declared.script.ScriptCall.{ScriptCall}
use Rattle.lynx_plan.specs.declared.script.ScriptCall.TheVariants.{Ask, Take, Settle}
use Rattle.lynx_plan.specs.declared.script.ScriptLine.{ScriptLine}
use Rattle.lynx_plan.specs.Seeded.{script_of_seed}
use Rattle.lynx_run.specs.Drive.{IsDriven}
use Rattle.run_counts.specs.Counts.{counts_of}
use Rattle.run_counts.specs.Summary.{IsSummary, summary_lines}
use Rattle.script_run.specs.Performing.{Asks, Does, IsCall, IsLast, IsNoted, IsPerformance, Performs, TakesFirst}
use Rattle.transcript_lines.specs.Transcript.{transcript_lines}
use Rattle.transcript_lines.specs.declared.last.Last.{Last}
use Rattle.transcript_lines.specs.declared.last.Last.TheVariants.{Quiet, Unsettled, Spent}
use Rattle.transcript_lines.specs.declared.last.ScriptNote.{ScriptNote}
use Rattle.transcript_record.proofs.Runs.{after-append, noted-append}
use Rattle.transcript_replay.proofs.Rest.{calls-same}

-- ---- one line

-- the same entries, the same world behind them, and the same notes
record IsAlike (w : World) (es fs : List Event) (ns ms : List ScriptNote) : Type 0 where
  entries : noted w es ≡ noted w fs
  worlds : after w es ≡ after w fs
  notes : ns ≡ ms

alike : (w : World) (es fs : List Event) (ns ms : List ScriptNote) → es ≡ fs → ns ≡ ms → IsAlike w es fs ns ms
alike w es fs ns ms events notes = record { entries = ap (noted w) events; worlds = ap (after w) events; notes = notes }

call-once : (s : Setting) (w : World) (p : Pid) (c : Call) (es fs : List Event) (ns ms : List ScriptNote) → IsCall s w p c es → IsCall s w p c fs → ns ≡ [] → ms ≡ [] → IsAlike w es fs ns ms
call-once s w p c es fs ns ms a b n m =
    let k = home s p in
    let same = calls-same w k k p p c c a.mine b.mine refl refl refl a.owned b.owned in
    record {
      entries = ap (noted w) a.event ∙ ap (λ (o : Outcome). record { kernel = k; entry = record { stamp = o.kernel.stamp; what = Asked p c; steps = o.steps } } ∷ []) same.outcome_is ∙ sym (ap (noted w) b.event);
      worlds = ap (after w) a.event ∙ same.world_is ∙ sym (ap (after w) b.event);
      notes = n ∙ sym m;
    }

noted-once : (w : World) (note : ScriptNote) (es fs : List Event) (ns ms : List ScriptNote) → IsNoted note es ns → IsNoted note fs ms → IsAlike w es fs ns ms
noted-once w note es fs ns ms a b = alike w es fs ns ms (a.no_event ∙ sym b.no_event) (a.one_note ∙ sym b.one_note)

asks-once : (s : Setting) (w : World) (line : ℕ) (p : Pid) (c : Call) (phase : Phase) (es fs : List Event) (ns ms : List ScriptNote) → Asks s w line p c phase es ns → Asks s w line p c phase fs ms → IsAlike w es fs ns ms
asks-once s w line p c Running es fs ns ms a b = call-once s w p c es fs ns ms a.0 b.0 a.1 b.1
asks-once s w line p c Waiting es fs ns ms a b = noted-once w _ es fs ns ms a b
asks-once s w line p c (Cancelling on) es fs ns ms a b = noted-once w _ es fs ns ms a b
asks-once s w line p c Exited es fs ns ms a b = noted-once w _ es fs ns ms a b

takes-once : (w : World) (line from to : ℕ) (packets : List Picture) (es fs : List Event) (ns ms : List ScriptNote) → TakesFirst line from to packets es ns → TakesFirst line from to packets fs ms → IsAlike w es fs ns ms
takes-once w line from to [] es fs ns ms a b = noted-once w _ es fs ns ms a b
takes-once w line from to (q ∷ qs) es fs ns ms a b = alike w es fs ns ms (a.0 ∙ sym b.0) (a.1 ∙ sym b.1)

does-once : (s : Setting) (w : World) (line : ℕ) (what : ScriptCall) (es fs : List Event) (ns ms : List ScriptNote) → Does s w line what es ns → Does s w line what fs ms → IsAlike w es fs ns ms
does-once s w line (Ask p c) es fs ns ms a b = asks-once s w line p c (process_of p (w.kernel (home s p))).phase es fs ns ms a b
does-once s w line (Take from to) es fs ns ms a b = takes-once w line from to (w.packets from to) es fs ns ms a b
does-once s w line Settle es fs ns ms a b = alike w es fs ns ms (a.0 ∙ sym b.0) (a.1 ∙ sym b.1)

-- ---- all lines

performs-once : (s : Setting) (w : World) (lines : List ScriptLine) (es fs : List Event) (ns ms : List ScriptNote) → Performs s w lines es ns → Performs s w lines fs ms → IsAlike w es fs ns ms
performs-once s w [] es fs ns ms a b = alike w es fs ns ms (a.0 ∙ sym b.0) (a.1 ∙ sym b.1)
performs-once s w (l ∷ ls) es fs ns ms (now, later, ns_now, ns_later, does, on, es_are, ns_are) (next, last, ms_now, ms_later, does_b, on_b, fs_are, ms_are) =
    let first : IsAlike w now next ns_now ms_now = does-once s w l.line l.what now next ns_now ms_now does does_b in
    let moved : Performs s (after w now) ls last ms_later = subst (λ (v : World). Performs s v ls last ms_later) (sym first.worlds) on_b in
    let rest : IsAlike (after w now) later last ns_later ms_later = performs-once s (after w now) ls later last ns_later ms_later on moved in
    record {
      entries = ap (noted w) es_are ∙ noted-append w now later ∙ ap (λ ps. ps ++ noted (after w now) later) first.entries ∙ ap (λ ps. noted w next ++ ps) rest.entries
          ∙ ap (λ (v : World). noted w next ++ noted v last) first.worlds ∙ sym (noted-append w next last) ∙ sym (ap (noted w) fs_are);
      worlds = ap (after w) es_are ∙ after-append w now later ∙ rest.worlds ∙ ap (λ (v : World). after v last) first.worlds ∙ sym (after-append w next last) ∙ sym (ap (after w) fs_are);
      notes = ns_are ∙ ap (λ xs. xs ++ ns_later) first.notes ∙ ap (λ xs. ms_now ++ xs) rest.notes ∙ sym ms_are;
    }

last-once : (w : World) (a b : Last) → IsLast w a → IsLast w b → a ≡ b
last-once w Quiet Quiet a b = refl
last-once w Quiet Unsettled a b = absurd (b a)
last-once w Unsettled Quiet a b = absurd (a b)
last-once w Unsettled Unsettled a b = refl
last-once w (Spent k) l a b = absurd a
last-once w l (Spent k) a b = absurd b

pub performance-once : (s : Setting) (lines : List ScriptLine) (merged others : List Placed) (notes noted_b : List ScriptNote) (last ending : Last) → IsPerformance s lines merged notes last → IsPerformance s lines others noted_b ending
    → (merged ≡ others) × (notes ≡ noted_b) × (last ≡ ending)
performance-once s lines merged others notes noted_b last ending a b =
    let same = performs-once s (start s) lines a.named b.named notes noted_b a.performed b.performed in (
      in-order-unique merged others a.recorded.recorded.order b.recorded.recorded.order (λ k. a.recorded.same k ∙ ap (of_kernel k) same.entries ∙ sym (b.recorded.same k)),
      same.notes,
      last-once (after (start s) b.named) last ending (subst (λ (w : World). IsLast w last) same.worlds a.last_world) b.last_world,
    )

pub summed-once : (seed : ℕ) (lines others : List (List ℕ)) → IsSummary seed lines → IsSummary seed others → lines ≡ others
summed-once seed lines others a b =
    let script = script_of_seed seed in
    let same = performance-once script.setting script.lines a.merged b.merged a.notes b.notes a.last b.last a.performed b.performed in
    a.told ∙ ap (λ m. summary_lines seed (counts_of m a.notes)) same.0 ∙ ap (λ n. summary_lines seed (counts_of b.merged n)) same.1 ∙ sym b.told

one-script : (read : Result Script PlanFault) (a b : Script) → read ≡ Ok a → read ≡ Ok b → a ≡ b
one-script read a b x y = cc

pub driven-once : (bytes : List ℕ) (lines others : List (List ℕ)) → IsDriven bytes lines → IsDriven bytes others → lines ≡ others
driven-once bytes lines others a b =
    let script = one-script (script_of bytes) a.script b.script a.given.read b.given.read in
    let moved : IsPerformance b.script.setting b.script.lines a.merged a.notes a.last = subst (λ (x : Script). IsPerformance x.setting x.lines a.merged a.notes a.last) script a.performed in
    let same = performance-once b.script.setting b.script.lines a.merged b.merged a.notes b.notes a.last b.last moved b.performed in
    a.line_by_line ∙ ap (λ (x : Script). transcript_lines x.setting a.merged a.notes a.last) script ∙ ap (λ m. transcript_lines b.script.setting m a.notes a.last) same.0
    ∙ ap (λ n. transcript_lines b.script.setting b.merged n a.last) same.1 ∙ ap (λ l. transcript_lines b.script.setting b.merged b.notes l) same.2 ∙ sym b.line_by_line
