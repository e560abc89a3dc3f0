-- The transcript of any run is accepted, and what is accepted is the transcript of its run.
use Rattle.std.proofs.Common.{◌≡◌, ◌≢◌, ℕ, ◌+◌, ◌-◌, ◌^◌, ◌<◌, ◌≤◌, List, [], ◌∷◌, ◌++◌, length, map, All, Result, Ok, arith, refl, sym, ap, subst, ◌∙◌}
use Rattle.std.specs.List.{concat, flat_map}
use Rattle.std.proofs.lemmas.List.Elements.{All-nil, All-cons, All-head, All-tail}
use Rattle.charlotte_calls.specs.Ranges.{IsU64}
use Rattle.charlotte_calls.specs.declared.calls.ServiceStep.{ServiceStep}
use Rattle.charlotte_calls.specs.declared.setting.Setting.{Setting}
use Rattle.charlotte_packets.specs.declared.picture.Picture.{Picture}
use Rattle.kernel_entries.specs.Ranges.{IsHappenedInRange, IsPlacedInRange}
use Rattle.kernel_entries.specs.declared.entry.Happened.{Happened}
use Rattle.kernel_entries.specs.declared.entry.Happened.TheVariants.{Asked, Took}
use Rattle.kernel_entries.specs.declared.entry.Placed.{Placed}
use Rattle.kernel_world.specs.Run.{AreAllowed, IsAllowed, IsRecord}
use Rattle.kernel_world.specs.World.{World, Event, Calls, Takes, asked_or_took, first_or, happens, nothing_sent, noted, noted_as, start}
use Rattle.transcript_audit.specs.Audit.{IsAudited, IsRunTranscript}
use Rattle.kernel_journal.proofs.Lawful.{replay-is-lawful}
use Rattle.kernel_journal.proofs.Within.{run-within}
use Rattle.transcript_lines.specs.Transcript.{entry_lines, header_lines, last_text, line, note_text, transcript_lines}
use Rattle.transcript_lines.specs.TranscriptText.{IsTranscript}
use Rattle.transcript_lines.specs.declared.last.Last.{Last}
use Rattle.transcript_lines.specs.declared.last.ScriptNote.{ScriptNote}
use Rattle.transcript_reader.proofs.Agree.{lines_are_told, shown_kinds, whole_lines}
use Rattle.transcript_reader.proofs.Told.{lines_text, told_transcript}
use Rattle.transcript_reader.specs.Text.{numbered}
use Rattle.transcript_reading.proofs.Order.{in_order}
use Rattle.transcript_reading.proofs.Wholes.{IsReadWhole, all_told, shown_again, tell}
use Rattle.transcript_reading.specs.Kinds.{transcript_kinds, unstamped, unstamped_what}
use Rattle.transcript_reading.specs.Reading.{nothing_told, told_by, with_lines}
use Rattle.transcript_reading.specs.declared.line.LineKind.{LineKind}
use Rattle.transcript_record.proofs.Laws.{record-shown}
use Rattle.transcript_record.proofs.Worlds.{is_event, told-happens, told-start}
use Rattle.transcript_record.specs.Told.{IsToldPacket, IsToldWorld}
use Rattle.transcript_replay.specs.Replay.{IsReplay}

pub record-is-audited : (bytes : List ℕ) (last : Last) → IsRunTranscript bytes last → IsAudited bytes last
record-is-audited bytes last is =
    let s = is.setting in
    let valid = is.told.told.setting in
    let kinds : List LineKind = transcript_kinds s is.merged is.notes last in
    let read : IsReadWhole bytes kinds = shown_again bytes s is.merged is.notes last is.told in
    let replayed : IsReplay kinds last = record {
      setting = s;
      valid = valid;
      events = is.events;
      within = run-within s is.events valid is.recorded.run;
      merged = is.merged;
      recorded = is.recorded;
      notes = is.notes;
      shown = refl;
      true_last = is.true_last;
    } in
    record {
      lines = numbered 1 kinds;
      are = whole_lines bytes read.lines kinds (lines_text bytes read.lines read.split) read.reads (in_order s is.merged is.notes last is.told.told);
      run = replay-is-lawful _ last (subst (λ (ks : List LineKind). IsReplay ks last) (sym (shown_kinds 1 kinds)) replayed);
    }

-- ---- stamps of packets, which no line shows

-- the stamp of a packet that was taken is a number of its type
abbrev HasStamp : Happened → Type 0
HasStamp (Asked p c) = Unit {0}
HasStamp (Took from q) = IsU64 q.stamp

abbrev IsStamped : Placed → Type 0
IsStamped p = HasStamp p.entry.what

first-stamped : (v n : ℕ) (ps : List Picture) → n < 2 ^ 64 - 1 → All (IsToldPacket v n) ps → ps ≢ [] → IsU64 (first_or nothing_sent ps).stamp
first-stamped v n [] early all some = absurd (some refl)
first-stamped v n (q ∷ qs) early all some = let first : IsToldPacket v n q = All-head (IsToldPacket v n) q qs all in let le : q.stamp ≤ n = first.stamp in omega arith

event-stamped : (s : Setting) (n : ℕ) (w : World) (e : Event) → n < 2 ^ 64 - 1 → IsAllowed s w e → IsToldWorld s n w → HasStamp (asked_or_took w e)
event-stamped s n w (Calls k p c mine) early allowed told = tt
event-stamped s n w (Takes k from) early allowed told = first-stamped s.version n (w.packets from k) early (told.packets from k) allowed

noted-stamped : (s : Setting) (n : ℕ) (w : World) (es : List Event) → n + length es < 2 ^ 64 - 1 → AreAllowed s w es → IsToldWorld s n w → All IsStamped (noted w es)
noted-stamped s n w [] early allowed told = All-nil IsStamped
noted-stamped s n w (e ∷ es) early allowed told =
    All-cons IsStamped (noted_as w e) (noted (happens w e) es) (event-stamped s n w e (omega arith) allowed.0 told)
    (noted-stamped s (n + 1) (happens w e) es (omega arith) allowed.1 (told-happens s n w e (is_event s n w e (omega arith) allowed.0 told) told))

record-stamped : (s : Setting) (es : List Event) (merged : List Placed) → IsRecord s es merged → All IsStamped merged
record-stamped s es merged r = subst (All IsStamped) r.entries (noted-stamped s 0 (start s) es (omega (arith, r.run.few)) r.run.allowed (told-start s))

-- with its stamps an entry is in range, where it is without them
what-in-range : (w : Happened) → HasStamp w → IsHappenedInRange (unstamped_what w) → IsHappenedInRange w
what-in-range (Asked p c) stamped is = is
what-in-range (Took from q) stamped is = (is.0, record { stamp = stamped; what = is.1.what })

in-range : (ps : List Placed) → All IsStamped ps → All IsPlacedInRange (map unstamped ps) → All IsPlacedInRange ps
in-range [] stamped all = All-nil IsPlacedInRange
in-range (p ∷ ps) stamped all =
    let is : IsPlacedInRange (unstamped p) = All-head IsPlacedInRange (unstamped p) (map unstamped ps) all in
    All-cons IsPlacedInRange p ps
    (record { kernel = is.kernel; entry = record { stamp = is.entry.stamp; what = what-in-range p.entry.what (All-head IsStamped p ps stamped) is.entry.what; steps = is.entry.steps } })
    (in-range ps (All-tail IsStamped p ps stamped) (All-tail IsPlacedInRange (unstamped p) (map unstamped ps) all))

-- and its lines are the same
entry-shows : (stamp kernel : ℕ) (what : Happened) (steps : List ServiceStep)
    → entry_lines (unstamped (record { kernel = kernel; entry = record { stamp = stamp; what = what; steps = steps } }))
    ≡ entry_lines (record { kernel = kernel; entry = record { stamp = stamp; what = what; steps = steps } })
entry-shows stamp kernel (Asked p c) steps = refl
entry-shows stamp kernel (Took from q) steps = refl

entries-show : (ps : List Placed) → flat_map entry_lines (map unstamped ps) ≡ flat_map entry_lines ps
entries-show [] = refl
entries-show (p ∷ ps) =
    ap (λ ls. ls ++ flat_map entry_lines (map unstamped ps)) (entry-shows p.entry.stamp p.kernel p.entry.what p.entry.steps) ∙ ap (λ ls. entry_lines p ++ ls) (entries-show ps)

lines-show : (s : Setting) (ps : List Placed) (notes : List ScriptNote) (last : Last) → transcript_lines s (map unstamped ps) notes last ≡ transcript_lines s ps notes last
lines-show s ps notes last = ap (λ ls. header_lines s ++ ls ++ map (λ n. line (note_text n)) notes ++ line (last_text last) ∷ []) (entries-show ps)

-- ---- what is accepted

pub audited-is-transcript : (bytes : List ℕ) (last : Last) (is : IsAudited bytes last)
    → IsTranscript bytes is.run.replayed.setting is.run.replayed.merged is.run.replayed.notes last
audited-is-transcript bytes last is =
    let r = is.run.replayed in
    let shown = record-shown r.setting r.events r.merged r.recorded in
    let read : told_by bytes ≡ Ok (tell r.setting [] (map unstamped r.merged) r.notes last) =
    lines_are_told bytes is.lines is.are ∙ ap (λ ks. with_lines ks nothing_told) r.shown ∙ all_told r.setting r.merged r.notes last shown in
    let t : IsTranscript bytes r.setting (map unstamped r.merged) r.notes last = told_transcript bytes (tell r.setting [] (map unstamped r.merged) r.notes last) read in
    record {
      told = record {
        setting = r.valid;
        values = record {
          entries = in-range r.merged (record-stamped r.setting r.events r.merged r.recorded) t.told.values.entries;
          lines = t.told.values.lines;
          ending = t.told.values.ending;
        };
        shown = shown;
        in_order = t.told.in_order;
        spent = t.told.spent;
      };
      lines = t.lines ∙ ap concat (lines-show r.setting r.merged r.notes last);
    }
