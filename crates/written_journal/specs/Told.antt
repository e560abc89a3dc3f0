-- What happened at kernels, as proofs keep it, and how the logic stores that.
use Rattle.std.specs.Prelude.{List, [], Option, None, refl}
use Rattle.std.specs.Coded.{Coded, code_by, coded×, coded_list, coded_option}
use Rattle.kernel_entries.specs.declared.entry.Entry.{Entry}
use Rattle.kernel_entries.specs.declared.entry.Happened.{Happened}
use Rattle.kernel_entries.specs.declared.entry.Placed.{Placed}
use Rattle.kernel_entries.specs.contracts.entry.Entry as EntryType
use Rattle.kernel_entries.specs.contracts.entry.Happened as HappenedType
use Rattle.kernel_entries.specs.contracts.entry.Placed as PlacedType

pub record Told : Type 0 where
  -- the entries of one kernel
  pub entries : List Entry
  -- what was begun, and has no stamp yet
  pub begun : Option Happened
  -- entries of several kernels, in the order of all
  pub placed : List Placed

abbrev pub nothing_told : Told
nothing_told = record { entries = []; begun = None; placed = [] }

abbrev ToldParts : Type 0
ToldParts = List Entry × (Option Happened × List Placed)

abbrev pub told_code : Coded Told
told_code =
    code_by ToldParts
    (coded× (coded_list EntryType.the_row.coded) (coded× (coded_option HappenedType.the_row.coded) (coded_list PlacedType.the_row.coded)))
    (λ t. (t.entries, (t.begun, t.placed))) (λ p. record { entries = p.0; begun = p.1.0; placed = p.1.1 }) (λ t. refl)
