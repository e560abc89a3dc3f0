-- What is left is read as the rest of all words.
use Rattle.std.proofs.Common.{◌≡◌, length}
use Rattle.command_words.specs.Words.{snapshot_read}
use Rattle.command_words.proofs.words.snapshot_of.Given as goal

abbrev pub invariant-loop-word : goal.invariant-loop-word
invariant-loop-word l = snapshot_read l.given l.words.items ≡ snapshot_read l.initial.given l.initial.words.items

abbrev pub decreases-loop-word : goal.decreases-loop-word
decreases-loop-word l = length l.words.items
