use Rattle.std.proofs.Common.{◌≡◌, ◌-◌, ◌+◌, length, arith, rules, get_or, take, drop, true, false, sym, ◌∙◌, ap, List, ℕ, Ok}
use Rattle.std.proofs.lemmas.List.{take_all, length-drop}
use Rattle.std.specs.Prelude.{◌&&◌}
use Rattle.lynx_packets.specs.Spots.{opens, is_name_at, begins_name}
use Rattle.lynx_packets.proofs.Names.{name_found, name_wrong, name_goes, name_ends, room_is, left_false, right_false}
use Rattle.lynx_packets.proofs.signature.name.Goals.{then-not-is_of_name-via-then-not-is_of_name, then-not-is_of_name-via-else-not-is_of_name+then-not-begins}
use Rattle.lynx_packets.proofs.signature.name.Goals as goal

pub returns-then-opens-clause-read : goal.returns-then-opens-clause-read
returns-then-opens-clause-read c =
    let bytes = c.args.bytes.now in
    let at = c.loop-at.at in
    let opening : opens (take at bytes) (c.args.size - at) (get_or bytes at 0) ≡ true = search rules in
    sym c.loop-at.invariant.0 ∙ name_found bytes c.args.size at c.loop-at-test.true opening ∙ ap (λ (r : List ℕ). Ok (take at bytes, r)) (sym (take_all (length bytes - (at + 1)) (drop (at + 1) bytes) (omega (arith, length-drop (at + 1) bytes))))

pub returns-then-not-is_of_name-clause-read : goal.returns-then-not-is_of_name-clause-read
returns-then-not-is_of_name-clause-read c =
    let bytes = c.args.bytes.now in
    let at = c.loop-at.at in
    let closed : opens (take at bytes) (c.args.size - at) (get_or bytes at 0) ≡ false = search rules in
    let other : (is_name_at at (get_or bytes at 0) && begins_name (take (at + 1) bytes) (c.args.size - at - 1)) ≡ false = elim c.then-not-is_of_name.branch [
      | then-not-is_of_name-via-then-not-is_of_name w ↦ left_false (is_name_at at (get_or bytes at 0)) (begins_name (take (at + 1) bytes) (c.args.size - at - 1)) (search rules)
      | then-not-is_of_name-via-else-not-is_of_name+then-not-begins w ↦ right_false (is_name_at at (get_or bytes at 0)) (begins_name (take (at + 1) bytes) (c.args.size - at - 1)) (search rules)
    ] in
    sym c.loop-at.invariant.0 ∙ name_wrong bytes c.args.size at c.loop-at-test.true closed other

pub loop-at-preserved : goal.loop-at-preserved
loop-at-preserved c =
    let bytes = c.args.bytes.now in
    let at = c.loop-at.at in
    let closed : opens (take at bytes) (c.args.size - at) (get_or bytes at 0) ≡ false = search rules in
    let begun : begins_name (take (at + 1) bytes) (c.args.size - at - 1) ≡ true = search rules in
    let one : (is_name_at at (get_or bytes at 0) && begins_name (take (at + 1) bytes) (c.args.size - at - 1)) ≡ true = search rules in
    (name_goes bytes c.args.size at c.loop-at-test.true closed one ∙ c.loop-at.invariant.0, omega (arith, room_is (take (at + 1) bytes) (c.args.size - at - 1) begun))

pub returns-clause-read : goal.returns-clause-read
returns-clause-read c = sym c.loop-at.invariant.0 ∙ name_ends c.args.bytes.now c.args.size c.loop-at.at c.loop-at-test.false
