-- Ends compared: the same end, ends of one link, an end that is named twice.
use Rattle.std.specs.Prelude.{Bool, false, nat_eq, ◌&&◌, ◌||◌, List, [], ◌∷◌}
use Rattle.std.specs.List.{list_any}
use Rattle.charlotte_calls.specs.declared.names.EndId.{EndId}
use Rattle.charlotte_calls.specs.contracts.names.EndIdPartialEq.TheImpl as derived

-- two ends are the same, as `==` of ends tells: they have the same maker, count and side
unfoldable pub end_eq : EndId → EndId → Bool
end_eq = (derived.ghosts).eq

-- the two ends are of one link, whatever their sides
abbrev pub same_link : EndId → EndId → Bool
same_link a b = nat_eq a.link.maker b.link.maker && nat_eq a.link.count b.link.count

-- an end stands twice among these
abbrev pub names_twice : List EndId → Bool
names_twice [] = false
names_twice (x ∷ xs) = list_any (end_eq x) xs || names_twice xs
