-- The ends that the processes of a setting have at the start, in the order of their params.
use Rattle.std.specs.Prelude.{ℕ, ◌+◌, ◌==◌, List, [], ◌∷◌, ◌++◌, if◌then◌else◌, slice_index}
use Rattle.std.specs.List.{flat_map, sum_by}
use Rattle.charlotte_calls.specs.Names.{opposite}
use Rattle.charlotte_calls.specs.declared.names.EndId.{EndId}
use Rattle.charlotte_calls.specs.declared.names.Pid.{Pid}
use Rattle.charlotte_calls.specs.declared.names.Side.TheVariants.{A}
use Rattle.charlotte_calls.specs.declared.setting.Setting.{Setting}
use Rattle.lynx_load.specs.declared.ends.WiredLink.{WiredLink}

-- the processes that a wire joins
abbrev pub Wire : Type 0
Wire = Pid × Pid

-- the kernel that makes the link of a wire: that of its first process
abbrev pub maker : Setting → Wire → ℕ
maker s wire = slice_index s.homes wire.0.0

-- how many links a kernel makes for these wires
abbrev pub made_for : Setting → ℕ → List Wire → ℕ
made_for s k ws = sum_by (λ w. if maker s w == k then 1 else 0) ws

-- the link of a wire behind these, by its end a: its count is the next of its maker
abbrev pub wired_behind : Setting → List Wire → Wire → WiredLink
wired_behind s before w = record { wire = w; end = record { link = record { maker = maker s w; count = made_for s (maker s w) before }; side = A } }

-- the links of these wires, which stand behind those
abbrev pub links_behind : Setting → List Wire → List Wire → List WiredLink
links_behind s before [] = []
links_behind s before (w ∷ ws) = wired_behind s before w ∷ links_behind s (before ++ w ∷ []) ws

-- the links of a setting
abbrev pub wired_links : Setting → List WiredLink
wired_links s = links_behind s [] s.wires

-- what a process has of a link: its end a where it is the wire's first process, and its end b where it is the second
abbrev pub own_of : ℕ → WiredLink → List EndId
own_of p x = (if x.wire.0.0 == p then x.end ∷ [] else []) ++ (if x.wire.1.0 == p then opposite x.end ∷ [] else [])

-- the ends of a process, in the order of the wires
abbrev pub ends_of : Setting → ℕ → List EndId
ends_of s p = flat_map (own_of p) (wired_links s)

-- those of each process from this one on
abbrev pub ends_from : Setting → ℕ → List ℕ → List (List EndId)
ends_from s p [] = []
ends_from s p (home ∷ homes) = ends_of s p ∷ ends_from s (p + 1) homes

-- those of each process
abbrev pub ends_of_each : Setting → List (List EndId)
ends_of_each s = ends_from s 0 s.homes
