-- Reports that wait, as plain data.
use Rattle.std.specs.Prelude.{◌≡◌, ℕ, ◌*◌, ◌≤◌, List, [], ◌∷◌, drop, length, take}
use Rattle.charlotte_calls.specs.declared.calls.Report.{Report}
use Rattle.charlotte_calls.specs.declared.names.EndId.{EndId}
use Rattle.report_queue.specs.Run.{RunView}
use Rattle.report_queue.specs.declared.queue.Head.{Head}

-- the reports, oldest first, and how many more fit without memory
pub record QueueView : Type 0 where
  pub items : List Report
  pub fits : ℕ

-- the report of a head with these bytes and ends
abbrev pub report_of : Head → List ℕ → List EndId → Report
report_of h bytes ends = record { on = h.on; way = h.way; outcome = h.outcome; bytes = bytes; enclosed = ends }

-- the reports of these heads, to which bytes and ends belong in order
abbrev pub reports : List Head → List ℕ → List EndId → List Report
reports [] bytes ends = []
reports (h ∷ hs) bytes ends = report_of h (take h.bytes bytes) (take h.ends ends) ∷ reports hs (drop h.bytes bytes) (drop h.ends ends)

-- each head has its bytes and ends, and none are left over
abbrev pub AreWhole : List Head → List ℕ → List EndId → Type 0
AreWhole [] bytes ends = (bytes ≡ []) × (ends ≡ [])
AreWhole (h ∷ hs) bytes ends =
    ((h.bytes ≤ length bytes) × (h.bytes ≤ 256)) × ((h.ends ≤ length ends) × (h.ends ≤ 8)) × AreWhole hs (drop h.bytes bytes) (drop h.ends ends)

-- the parts of a queue agree, and each has room for so many more reports
pub record IsLaid (h : RunView Head) (b : RunView ℕ) (e : RunView EndId) (fits : ℕ) : Type 0 where
  pub whole : AreWhole h.items b.items e.items
  pub heads : fits ≤ h.room
  pub bytes : fits * 256 ≤ b.room
  pub ends : fits * 8 ≤ e.room
