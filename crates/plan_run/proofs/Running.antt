-- Nodes that have run leave what a run of their programs is.
use Rattle.std.proofs.Common.{◌≡◌, ℕ, ◌*◌, ◌^◌, ◌<◌, ◌≤◌, List, [], ◌++◌, length, refl, ap, sym, ◌∙◌, arith}
use Rattle.std.specs.List.{concat}
use Rattle.std.proofs.lemmas.List.Elements.{All-nil}
use Rattle.std.proofs.lemmas.Option.{slice_get_within}
use Rattle.charlotte_calls.specs.declared.setting.Setting.{Setting}
use Rattle.kernel_entries.specs.Order.{IsMerge}
use Rattle.kernel_entries.specs.declared.entry.Placed.{Placed}
use Rattle.kernel_worker.specs.Nodes.{Meaning}
use Rattle.kernel_worker.specs.Node.{Node}
use Rattle.kernel_worker.specs.NoWatch.{NoWatch}
use Rattle.kernel_worker.proofs.Each.{all-at}
use Rattle.kernel_worker.specs.Ends.{Ends}
use Rattle.kernel_worker.specs.declared.standing.End.{End}
use Rattle.kernel_worker.specs.declared.standing.End.TheVariants as end
use Rattle.kernel_worker.specs.Local.{IsOneRun, LocalEvent}
use Rattle.kernel_worker.specs.Net.{journals_of, left_at, pictures}
use Rattle.node_start.specs.Homes.{programs_on}
use Rattle.trace_law.proofs.Run.{record_is_bare}
use Rattle.transcript_lines.specs.Transcript.{transcript_lines}
use Rattle.transcript_lines.specs.TranscriptText.{AreOfTranscript, HasNotesOf, IsLastInRange, IsNoteInRange}
use Rattle.transcript_record.proofs.Laws.{record-shown}
use Rattle.plan_run.proofs.Counting.{few-merged}
use Rattle.plan_run.proofs.Ends.{all-replayed, ends-so}
use Rattle.plan_run.proofs.Journals.{merged-in_range}
use Rattle.plan_run.proofs.Letters.{letters_at, letters-left}
use Rattle.plan_run.specs.Nodes.{HaveEnded}
use Rattle.plan_run.specs.Run.{IsRunOf, last_of}

-- a kernel whose turns are used up has a number
last-in_range : {P : Type 0} (ns : List (Node P NoWatch)) (e : End) → length ns ≤ 8 → Ends ns e → IsLastInRange (last_of e)
last-in_range ns end.Quiet few ends = tt
last-in_range ns (end.Spent k) few ends = let below : k < length ns = slice_get_within ns k ends.first.node ends.first.at in let small : k < 2 ^ 8 = omega (arith, below, few) in small

module _ {P S : Type 0} (m : Meaning P S) (s : Setting) (programs : List P) (turns : ℕ) (ns : List (Node P NoWatch)) (e : End) (ended : HaveEnded m s programs turns ns e)
    (count : length programs ≡ length s.homes) (merged : List Placed) (merge : IsMerge (journals_of ns) merged) where
  abbrev made : ℕ → List LocalEvent
  made k = [] ++ ended.ran.more k

  one-of : IsOneRun s made (λ j k. pictures (letters_at ns j k)) merged
  one-of =
      let one : IsOneRun s made (left_at ns) merged = ended.ran.one merged merge in
      record { events = one.events; recorded = one.recorded; kernels = one.kernels; packets = λ from to. one.packets from to ∙ sym (letters-left ns from to) }

  told-of : AreOfTranscript s merged [] (last_of e)
  told-of =
      record {
        setting = ended.ran.nodes.valid;
        values = record {
          entries = merged-in_range m (λ _ _. Unit {0}) s (programs_on s programs) made ns ended.ran.nodes merged merge;
          lines = All-nil IsNoteInRange;
          ending = last-in_range ns e (omega (arith, ended.ran.nodes.count, ended.ran.nodes.valid.limits.kernels)) ended.ends;
        };
        shown = record-shown s one-of.events merged one-of.recorded;
        in_order = tt;
        spent = no-notes e;
      }
    where
      no-notes : (e : End) → HasNotesOf (last_of e) []
      no-notes end.Quiet = tt
      no-notes (end.Spent k) = refl

  few-of_turns : length merged ≤ s.kernels * turns
  few-of_turns =
      few-merged m (λ _ _. Unit {0}) s (programs_on s programs) made ns ended.ran.nodes merged merge turns
      (λ k n at. omega (arith, all-at (λ (n : Node P NoWatch). n.base.orders.limit ≡ turns) ns k n ended.limited at))

  -- the lines of the transcript of the merge of their journals are those of a run
  pub run_is : (lines : List (List ℕ)) → lines ≡ transcript_lines s merged [] (last_of e) → IsRunOf m s programs turns (record { lines = lines; end = e })
  run_is lines are =
      record {
        merged = merged;
        made = made;
        left = letters_at ns;
        one = one-of;
        few = few-of_turns;
        lawful = ended.ran.lawful merged merge;
        bare = record_is_bare s merged ended.ran.nodes.valid;
        told = record { told = told-of; lines = ap concat are };
        line_by_line = are;
        replayed = all-replayed m s programs turns made ns ended.ran.nodes ended.unspoiled ended.limited count merged merge;
        ends = ends-so m s programs turns made ns ended.ran.nodes ended.unspoiled ended.limited count merged merge e ended.ends;
      }
