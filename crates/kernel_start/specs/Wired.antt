-- What a kernel has of the links of its setting.
use Rattle.std.specs.Prelude.{◌≡◌, ℕ, ◌<◌, length, slice_index, take}
use Rattle.std.specs.List.{fold}
use Rattle.charlotte_calls.specs.Names.{opposite}
use Rattle.charlotte_calls.specs.declared.names.EndId.{EndId}
use Rattle.charlotte_calls.specs.declared.names.LinkId.{LinkId}
use Rattle.charlotte_calls.specs.declared.names.Pid.{Pid}
use Rattle.charlotte_calls.specs.declared.setting.Setting.{Setting}
use Rattle.end_table.specs.Table.{entries}
use Rattle.end_table.specs.declared.entry.Entry.{Entry}
use Rattle.kernel_step.specs.Calls.{made_end}
use Rattle.kernel_step.specs.Start.{Wired, keeps_at, nothing_wired, owned_from_start, wires_one}
use Rattle.kernel_start.specs.declared.start.Wiring.{Wiring}

-- the first n links of a setting, at all kernels
unfoldable pub wired_first : Setting → ℕ → Wired
wired_first s n = fold (wires_one s) nothing_wired (take n s.wires)

-- a table at kernel k with the ends of a new link that are at this kernel; end b of the link is at kernel other
abbrev pub with_link : LinkId → Pid × Pid → ℕ → ℕ → (EndId → Entry) → (EndId → Entry)
with_link link wire other k t =
    let a = made_end link.maker link.count in
    keeps_at other (opposite a) (owned_from_start wire.1 (opposite a) link.maker)
    (keeps_at link.maker a (owned_from_start wire.0 a other) (λ _. t)) k

-- a kernel has the first n links of a setting
pub record HasWired (s : Setting) (n : ℕ) (x : Wiring) : Type 0 where
  pub table : entries x.table ≡ (wired_first s n).table x.table.kernel
  pub counts : length x.made ≡ 8
  pub made : (q : ℕ) → q < 8 → slice_index x.made q ≡ (wired_first s n).made q
