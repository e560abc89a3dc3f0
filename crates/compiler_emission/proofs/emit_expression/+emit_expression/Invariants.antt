use Rattle.std.proofs.Common.{◌≡◌, ◌++◌, length, drop}
use Rattle.compiler_emission.specs.Chains.{chain_jump}
use Rattle.compiler_emission.specs.Tables.{names_in}
use Rattle.compiler_emission.proofs.Emitting.{each}
use Rattle.compiler_emission.proofs.Loops.{member_here, sum_here, term_here}
use Rattle.compiler_emission.proofs.emit_expression.+emit_expression.Given as goal

-- what is added and what is left to add are the whole

abbrev pub invariant-emit_chain-loop-member : goal.invariant-emit_chain-loop-member
invariant-emit_chain-loop-member l =
    l.code.items ++ each (member_here (names_in l.names) (chain_jump l.or)) (length l.code.items) (drop l.member-index l.rest)
    ≡ l.initial.code.items ++ each (member_here (names_in l.names) (chain_jump l.or)) (length l.initial.code.items) l.rest

abbrev pub invariant-emit_sums-loop-sign : goal.invariant-emit_sums-loop-sign
invariant-emit_sums-loop-sign l =
    l.code.items ++ each (sum_here (names_in l.names)) (length l.code.items) (drop l.sign-index l.members) ≡ l.initial.code.items ++ each (sum_here (names_in l.names)) (length l.initial.code.items) l.members

abbrev pub invariant-emit_terms-loop-sign : goal.invariant-emit_terms-loop-sign
invariant-emit_terms-loop-sign l =
    l.code.items ++ each (term_here (names_in l.names)) (length l.code.items) (drop l.sign-index l.members) ≡ l.initial.code.items ++ each (term_here (names_in l.names)) (length l.initial.code.items) l.members
