-- What sources and sinks in memory keep, and what each call does to them.
use Rattle.std.specs.Prelude.{◌≡◌, ℕ, ◌+◌, ◌-◌, ◌≤◌, false, List, [], ◌∷◌, ◌++◌, length, take, Result, Ok, Err, if◌then◌else◌}
use Rattle.lynx_outside.specs.declared.files.FileAnswer.{FileAnswer}
use Rattle.lynx_outside.specs.declared.files.FileAnswer.TheVariants.{Absent, TooBig, Failed, NoMemory}
use Rattle.lynx_outside.specs.Files.{Listing}
use Rattle.lynx_outside.specs.Logged.{Read, Put}
use Rattle.lynx_outside.specs.Planned.{Plan, is_due, passed, failed}
use Rattle.lynx_outside.specs.Sink.{put_of}

-- files, and the log
pub record SureListing : Type 0 where
  pub files : Listing
  pub log : List Read

-- files, the reads that are to fail, and the log
pub record PlannedFiles : Type 0 where
  pub files : Listing
  pub plan : Plan
  pub log : List Read

-- after a read: it counts as a call, but for want of memory
abbrev pub plan_after : {V : Type 0} → Plan → Result V FileAnswer → Plan
plan_after plan (Ok bytes) = passed plan
plan_after plan (Err Absent) = passed plan
plan_after plan (Err TooBig) = passed plan
plan_after plan (Err Failed) = failed plan
plan_after plan (Err NoMemory) = plan

-- how many bytes were taken, and the log
pub record CountedSink : Type 0 where
  pub count : ℕ
  pub log : List Put

-- bytes held, the most that may be held, the puts that are to fail, and the log
pub record PlannedSink : Type 0 where
  pub held : List ℕ
  pub room : ℕ
  pub plan : Plan
  pub log : List Put

-- A put is not to fail, and there is room for its bytes.
abbrev pub Takes : PlannedSink → List ℕ → Type 0
Takes sink bytes = (is_due sink.plan ≡ false) × (length sink.held + length bytes ≤ sink.room)

-- what is kept of a put's bytes: nothing where it is to fail, else what there is room for
abbrev pub kept : PlannedSink → List ℕ → List ℕ
kept sink bytes = if is_due sink.plan then [] else take (sink.room - length sink.held) bytes

-- what a put leaves, but for the log
abbrev pub taken_put : {T E : Type 0} → PlannedSink → List ℕ → Result T E → PlannedSink
taken_put old bytes (Ok _) = record old { held = old.held ++ bytes; plan = passed old.plan }
taken_put old bytes (Err _) = record old { held = old.held ++ kept old bytes; plan = failed old.plan }

-- after a put
abbrev pub after_put : {T E : Type 0} → PlannedSink → List ℕ → Result T E → PlannedSink
after_put old bytes result = record (taken_put old bytes result) { log = old.log ++ put_of bytes result ∷ [] }
