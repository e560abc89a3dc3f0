use Rattle.std.proofs.Common.{◌≡◌, map, take}
use Rattle.lynx_load.specs.Ends.{ends_from}
use Rattle.lynx_load.proofs.ends.ends_of_each.Given as goal

abbrev pub invariant-loop-process : goal.invariant-loop-process
invariant-loop-process l = map (λ ends. ends.items) l.each.items ≡ ends_from l.setting 0 (take l.process l.setting.homes)
