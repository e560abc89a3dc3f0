-- The header of a transcript, line by line.
use Rattle.std.specs.Prelude.{◌≡◌, ◌⊎◌, ℕ, Bool, true, false, List, [], ◌∷◌, ◌++◌, length}
use Rattle.charlotte_calls.specs.Setting.{IsValid}
use Rattle.charlotte_calls.specs.declared.setting.Setting.{Setting}
use Rattle.transcript_reading.specs.Kinds.{process_kinds, wire_kinds}
use Rattle.transcript_reading.specs.Order.{Place, Start, Version, Processes, Wires}
use Rattle.transcript_reading.specs.declared.line.LineKind.{LineKind}
use Rattle.transcript_reading.specs.declared.line.LineKind.TheVariants as line

-- a line that stands behind the header
abbrev pub is_body : LineKind → Bool
is_body (line.First version) = false
is_body (line.Kernels kernels) = false
is_body (line.Process p kernel) = false
is_body (line.Wire first second) = false
is_body (line.CallEntry stamp kernel p call) = true
is_body (line.PacketEntry stamp kernel from picture) = true
is_body (line.Service s) = true
is_body (line.Note note) = true
is_body (line.End last) = true

-- what a line adds to a setting
abbrev pub tells : LineKind → Setting → Setting
tells (line.First version) s = record s { version = version }
tells (line.Kernels kernels) s = record s { kernels = kernels }
tells (line.Process p kernel) s = record s { homes = s.homes ++ kernel ∷ [] }
tells (line.Wire first second) s = record s { wires = s.wires ++ (first, second) ∷ [] }
tells _ s = s

-- what is told before the first line
abbrev pub untold : Setting
untold = record { version = 0; kernels = 0; homes = []; wires = [] }

-- what lines tell, behind what those before them did
abbrev pub tell_all : List LineKind → Setting → Setting
tell_all [] s = s
tell_all (k ∷ ks) s = tell_all ks (tells k s)

-- the lines of a header
abbrev pub header_kinds : Setting → List LineKind
header_kinds s = line.First s.version ∷ line.Kernels s.kernels ∷ process_kinds 0 s.homes ++ wire_kinds s.wires

-- these lines are the whole header of this setting, which is valid
pub record IsHeader (s : Setting) (taken : List LineKind) : Type 0 where
  pub valid : IsValid s
  pub shown : taken ≡ header_kinds s

-- the lines of a header up to a place, and what they told
abbrev pub IsToldAt : Place → Setting → List LineKind → Type 0
IsToldAt Start s taken = (taken ≡ []) × (s.homes ≡ []) × (s.wires ≡ [])
IsToldAt Version s taken = (taken ≡ line.First s.version ∷ []) × ((s.version ≡ 1) ⊎ (s.version ≡ 2)) × (s.homes ≡ []) × (s.wires ≡ [])
IsToldAt (Processes kernels processes) s taken = IsHeader s taken × (s.kernels ≡ kernels) × (length s.homes ≡ processes) × (s.wires ≡ [])
IsToldAt (Wires processes wires) s taken = IsHeader s taken × (length s.homes ≡ processes) × (length s.wires ≡ wires)
IsToldAt _ s taken = ⊥
