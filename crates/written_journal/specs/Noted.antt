-- What a history is after one note more.
use Rattle.std.specs.Prelude.{ℕ, List, [], ◌∷◌, ◌++◌, Option, None, Some, map, take, drop}
use Rattle.charlotte_packets.specs.Packets.{packet_picture}
use Rattle.charlotte_calls.specs.declared.calls.ServiceStep.{ServiceStep}
use Rattle.journal_text.specs.Journal.{placed_at}
use Rattle.kernel_entries.specs.declared.entry.Entry.{Entry}
use Rattle.kernel_entries.specs.declared.entry.Happened.{Happened}
use Rattle.kernel_entries.specs.declared.entry.Happened.TheVariants as happened
use Rattle.written_journal.specs.Told.{Told}
use Rattle.written_journal.specs.declared.history.Note.{Note}
use Rattle.written_journal.specs.declared.history.Note.TheVariants.{Asked, Took, Done, Forgotten, Cut, One, Begun, Next, Taken}

-- the entry of what was begun, if anything was
abbrev pub done : Option Happened → ℕ → List ServiceStep → List Entry
done None stamp steps = []
done (Some what) stamp steps = record { stamp = stamp; what = what; steps = steps } ∷ []

-- the event of a number, if there is one
abbrev pub numbered : ℕ → List Entry → List Entry
numbered number entries = take 1 (drop number entries)

abbrev pub noted : Told → Note → Told
noted t (Asked p call) = record t { begun = Some (happened.Asked p call.now) }
noted t (Took from packet) = record t { begun = Some (happened.Took from (packet_picture packet.now)) }
noted t (Done stamp steps) = record t { entries = t.entries ++ done t.begun stamp steps.now; begun = None }
noted t Forgotten = record t { begun = None }
noted t (Cut length) = record t { entries = take length t.entries; begun = None }
noted t (One history number) = record t { entries = numbered number history.now.told.entries }
noted t (Begun history) = record t { begun = history.now.told.begun }
noted t (Next kernel history number) = record t { placed = t.placed ++ map (placed_at kernel) (numbered number history.now.told.entries) }
noted t Taken = record t { placed = drop 1 t.placed }
