-- The kernels of a valid setting start with tables that name only kernels that are there.
use Rattle.std.proofs.Common.{ℕ, ◌<◌, Bool, true, false, nat_eq, if◌then◌else◌, List, [], ◌∷◌, length, All, pow_pos}
use Rattle.std.proofs.lemmas.List.Elements.{All-get_or, All-head, All-tail}
use Rattle.std.specs.List.{fold}
use Rattle.charlotte_packets.specs.Moving.{new_end}
use Rattle.charlotte_calls.specs.Names.{opposite}
use Rattle.charlotte_calls.specs.Setting.{IsValid}
use Rattle.charlotte_calls.specs.declared.names.EndId.{EndId}
use Rattle.charlotte_calls.specs.declared.names.Pid.{Pid}
use Rattle.charlotte_calls.specs.declared.setting.Setting.{Setting}
use Rattle.end_table.specs.Place.{put}
use Rattle.end_table.specs.declared.entry.Entry.{Entry}
use Rattle.kernel_step.specs.Calls.{made_end}
use Rattle.kernel_step.specs.Start.{Wired, home, keeps_at, nothing_wired, owned_from_start, wired, wires_one}
use Rattle.kernel_named.specs.Named.{NamesBelow, TableNamesBelow}
use Rattle.kernel_named.proofs.Values.{named, put-names}

module _ (s : Setting) (valid : IsValid s) where
  -- a wire joins processes that are there
  abbrev IsThere : Pid × Pid → Type 0
  IsThere wire = (wire.0.0 < length s.homes) × (wire.1.0 < length s.homes)

  abbrev AreNamed : (ℕ → EndId → Entry) → Type 0
  AreNamed tables = (k : ℕ) → TableNamesBelow s.kernels (tables k)

  home-below : (p : Pid) → p.0 < length s.homes → home s p < s.kernels
  home-below p below = All-get_or (λ h. h < s.kernels) s.homes p.0 0 below valid.homes

  own-names : (p q : Pid) (e : EndId) → q.0 < length s.homes → NamesBelow s.kernels (owned_from_start p e (home s q))
  own-names p q e below = named s.kernels (new_end e (home s q)) (home-below q below) (pow_pos s.kernels)

  at-names : (k : ℕ) (e : EndId) (x : Entry) (tables : ℕ → EndId → Entry) → NamesBelow s.kernels x → AreNamed tables → AreNamed (keeps_at k e x tables)
  at-names k e x tables is names j = by (nat_eq j k)
    where
      by : (b : Bool) → TableNamesBelow s.kernels (if b then put (tables j) e x else tables j)
      by true = put-names s.kernels (tables j) e x (names j) is
      by false = names j

  wire-names : (so_far : Wired) (wire : Pid × Pid) → IsThere wire → AreNamed so_far.table → AreNamed (wires_one s so_far wire).table
  wire-names so_far wire there names =
      let maker : ℕ = home s wire.0 in
      let a : EndId = made_end maker (so_far.made maker) in
      at-names (home s wire.1) (opposite a) (owned_from_start wire.1 (opposite a) maker) (keeps_at maker a (owned_from_start wire.0 a (home s wire.1)) so_far.table) (own-names wire.1 wire.0 (opposite a) there.0)
      (at-names maker a (owned_from_start wire.0 a (home s wire.1)) so_far.table (own-names wire.0 wire.1 a there.1) names)

  wires-name : (wires : List (Pid × Pid)) (so_far : Wired) → All IsThere wires → AreNamed so_far.table → AreNamed (fold (wires_one s) so_far wires).table
  wires-name [] so_far all names = names
  wires-name (wire ∷ wires) so_far all names =
      wires-name wires (wires_one s so_far wire) (All-tail IsThere wire wires all)
      (wire-names so_far wire (All-head IsThere wire wires all) names)

  pub start-names : (k : ℕ) → TableNamesBelow s.kernels ((wired s).table k)
  start-names = wires-name s.wires nothing_wired valid.wires (λ j e. tt)
