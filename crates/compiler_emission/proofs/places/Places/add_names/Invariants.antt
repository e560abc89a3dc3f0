use Rattle.std.proofs.Common.{◌≡◌, ℕ, ◌+◌, List, ◌++◌, take}
use Rattle.compiler_emission.specs.Places.{IsTableOf}
use Rattle.compiler_emission.proofs.places.Places.add_names.Given as goal

-- the names that were seen are added, and counted
abbrev pub invariant-loop-name : goal.invariant-loop-name
invariant-loop-name l = record {
  count : l.self.count ≡ l.fn.self.count + l.name-index;
  table : (names : List (List ℕ)) → IsTableOf names l.fn.self → IsTableOf (names ++ take l.name-index l.list) l.self;
}
