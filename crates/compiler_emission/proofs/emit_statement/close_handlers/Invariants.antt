use Rattle.std.proofs.Common.{◌≡◌, ◌++◌, ◌-◌, List, length}
use Rattle.lynx_tree.specs.Trees.{HandlerTrees}
use Rattle.lynx_code.specs.Generation.{Names, handlers_code}
use Rattle.lynx_code.specs.declared.instruction.Instruction.{Instruction}
use Rattle.compiler_emission.specs.Jumps.{handlers_count}
use Rattle.compiler_emission.proofs.Closing.{Closing}
use Rattle.compiler_emission.proofs.emit_statement.close_handlers.Given as goal

-- those that are left are handlers, and once they are closed all are
abbrev pub invariant-loop-done : goal.invariant-loop-done
invariant-loop-done l =
    (names : Names) (before rest : List Instruction) (handlers : HandlerTrees) → l.first ≡ length before → l.count ≡ handlers_count handlers
    → l.fn.code.items ≡ before ++ (handlers_code names 0 l.first handlers ++ rest) → Closing names l.end l.code.items l.at (l.count - l._done) (before ++ (handlers_code names l.end l.first handlers ++ rest))
