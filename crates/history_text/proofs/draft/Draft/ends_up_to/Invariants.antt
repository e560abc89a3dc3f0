use Rattle.std.proofs.Common.{◌≡◌, ◌-◌, ◌≤◌, length}
use Rattle.charlotte_text.proofs.Ends.{with_front}
use Rattle.history_text.specs.Forms.{ends_of}
use Rattle.history_text.proofs.draft.Draft.ends_up_to.Given as goal

-- the ends that were read and those of the words that are left
abbrev pub invariant-loop-word : goal.invariant-loop-word
invariant-loop-word l = record {
  so_far : with_front l.ends.items (ends_of l.scope l.self (l.most - length l.ends.items) l.rest) ≡ ends_of l.scope l.self l.most l.fn.words;
  room : length l.ends.items ≤ l.most;
}

abbrev pub decreases-loop-word : goal.decreases-loop-word
decreases-loop-word l = length l.rest
