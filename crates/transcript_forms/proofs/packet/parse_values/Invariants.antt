use Rattle.std.proofs.Common.{◌≡◌, ◌-◌, ◌≤◌, length}
use Rattle.charlotte_text.proofs.Ends.{with_front}
use Rattle.transcript_reading.specs.Forms.{values_of}
use Rattle.transcript_forms.proofs.packet.parse_values.Given as goal

abbrev pub invariant-loop-word : goal.invariant-loop-word
invariant-loop-word l = record {
  so_far : with_front l.values.items (values_of (l.most - length l.values.items) l.rest) ≡ values_of l.most l.fn.words;
  room : length l.values.items ≤ l.most;
}

abbrev pub decreases-loop-word : goal.decreases-loop-word
decreases-loop-word l = length l.rest
