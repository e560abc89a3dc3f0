use Rattle.std.proofs.Common.{arith, ℕ, Option, slice_get, subst, ◌∙◌}
use Rattle.lynx_code.specs.declared.instruction.Instruction.{Instruction}
use Rattle.machine_steps.specs.Operands.{Finds, HasValues}
use Rattle.machine_thread.specs.Programs.{program_of}
use Rattle.machine_thread.proofs.Answering.{where_ok}
use Rattle.machine_thread.proofs.Places.{by_instruction, count_is, counts}
use Rattle.machine_thread.proofs.thread.Thread.does.Goals as goal

pub returns-in-Push : goal.returns-in-Push
returns-in-Push c = where_ok c.push.result (λ move is. by_instruction (program_of c.args.code.now) c.args.globals.now c.args.self.now c.in-Push.is (is (program_of c.args.code.now) c.args.globals.now)) c.push.ensures

pub returns-in-LoadG : goal.returns-in-LoadG
returns-in-LoadG c = where_ok c.loads_global.result (λ move is. by_instruction (program_of c.args.code.now) c.args.globals.now c.args.self.now c.in-LoadG.is (is (program_of c.args.code.now))) c.loads_global.ensures

pub returns-in-LoadL : goal.returns-in-LoadL
returns-in-LoadL c = where_ok c.loads_local.result (λ move is. by_instruction (program_of c.args.code.now) c.args.globals.now c.args.self.now c.in-LoadL.is (is (program_of c.args.code.now) c.args.globals.now)) c.loads_local.ensures

pub returns-in-AtG : goal.returns-in-AtG
returns-in-AtG c = where_ok c.loads_global_member.result (λ move is. by_instruction (program_of c.args.code.now) c.args.globals.now c.args.self.now c.in-AtG.is (is (program_of c.args.code.now))) c.loads_global_member.ensures

pub returns-in-AtL : goal.returns-in-AtL
returns-in-AtL c = where_ok c.loads_local_member.result (λ move is. by_instruction (program_of c.args.code.now) c.args.globals.now c.args.self.now c.in-AtL.is (is (program_of c.args.code.now) c.args.globals.now)) c.loads_local_member.ensures

pub returns-in-StoreG : goal.returns-in-StoreG
returns-in-StoreG c = by_instruction (program_of c.args.code.now) c.args.globals.now c.args.self.now c.in-StoreG.is (c.stores_global.ensures (program_of c.args.code.now))

pub returns-in-StoreL : goal.returns-in-StoreL
returns-in-StoreL c = by_instruction (program_of c.args.code.now) c.args.globals.now c.args.self.now c.in-StoreL.is (c.stores_local.ensures (program_of c.args.code.now) c.args.globals.now)

pub returns-in-PutG : goal.returns-in-PutG
returns-in-PutG c = where_ok c.stores_global_member.result (λ move is. by_instruction (program_of c.args.code.now) c.args.globals.now c.args.self.now c.in-PutG.is (is (program_of c.args.code.now))) c.stores_global_member.ensures

pub returns-in-PutL : goal.returns-in-PutL
returns-in-PutL c = where_ok c.stores_local_member.result (λ move is. by_instruction (program_of c.args.code.now) c.args.globals.now c.args.self.now c.in-PutL.is (is (program_of c.args.code.now) c.args.globals.now)) c.stores_local_member.ensures

pub returns-in-Add : goal.returns-in-Add
returns-in-Add c = where_ok c.adds.result (λ move is. by_instruction (program_of c.args.code.now) c.args.globals.now c.args.self.now c.in-Add.is (is (program_of c.args.code.now) c.args.globals.now)) c.adds.ensures

pub returns-in-Sub : goal.returns-in-Sub
returns-in-Sub c = where_ok c.subtracts.result (λ move is. by_instruction (program_of c.args.code.now) c.args.globals.now c.args.self.now c.in-Sub.is (is (program_of c.args.code.now) c.args.globals.now)) c.subtracts.ensures

pub returns-in-Mul : goal.returns-in-Mul
returns-in-Mul c = where_ok c.multiplies.result (λ move is. by_instruction (program_of c.args.code.now) c.args.globals.now c.args.self.now c.in-Mul.is (is (program_of c.args.code.now) c.args.globals.now)) c.multiplies.ensures

pub returns-in-Div : goal.returns-in-Div
returns-in-Div c = where_ok c.divides.result (λ move is. by_instruction (program_of c.args.code.now) c.args.globals.now c.args.self.now c.in-Div.is (is (program_of c.args.code.now) c.args.globals.now)) c.divides.ensures

pub returns-in-Mod : goal.returns-in-Mod
returns-in-Mod c = where_ok c.reduces.result (λ move is. by_instruction (program_of c.args.code.now) c.args.globals.now c.args.self.now c.in-Mod.is (is (program_of c.args.code.now) c.args.globals.now)) c.reduces.ensures

pub returns-in-Neg : goal.returns-in-Neg
returns-in-Neg c = where_ok c.negates.result (λ move is. by_instruction (program_of c.args.code.now) c.args.globals.now c.args.self.now c.in-Neg.is (is (program_of c.args.code.now) c.args.globals.now)) c.negates.ensures

pub returns-in-Eq : goal.returns-in-Eq
returns-in-Eq c = where_ok c.equals.result (λ move is. by_instruction (program_of c.args.code.now) c.args.globals.now c.args.self.now c.in-Eq.is (is (program_of c.args.code.now) c.args.globals.now)) c.equals.ensures

pub returns-in-Ne : goal.returns-in-Ne
returns-in-Ne c = where_ok c.differs.result (λ move is. by_instruction (program_of c.args.code.now) c.args.globals.now c.args.self.now c.in-Ne.is (is (program_of c.args.code.now) c.args.globals.now)) c.differs.ensures

pub returns-in-Lt : goal.returns-in-Lt
returns-in-Lt c = where_ok c.is_less.result (λ move is. by_instruction (program_of c.args.code.now) c.args.globals.now c.args.self.now c.in-Lt.is (is (program_of c.args.code.now) c.args.globals.now)) c.is_less.ensures

pub returns-in-Le : goal.returns-in-Le
returns-in-Le c = where_ok c.is_at_most.result (λ move is. by_instruction (program_of c.args.code.now) c.args.globals.now c.args.self.now c.in-Le.is (is (program_of c.args.code.now) c.args.globals.now)) c.is_at_most.ensures

pub returns-in-Gt : goal.returns-in-Gt
returns-in-Gt c = where_ok c.is_greater.result (λ move is. by_instruction (program_of c.args.code.now) c.args.globals.now c.args.self.now c.in-Gt.is (is (program_of c.args.code.now) c.args.globals.now)) c.is_greater.ensures

pub returns-in-Ge : goal.returns-in-Ge
returns-in-Ge c = where_ok c.is_at_least.result (λ move is. by_instruction (program_of c.args.code.now) c.args.globals.now c.args.self.now c.in-Ge.is (is (program_of c.args.code.now) c.args.globals.now)) c.is_at_least.ensures

pub returns-in-Not : goal.returns-in-Not
returns-in-Not c = where_ok c.negates_truth.result (λ move is. by_instruction (program_of c.args.code.now) c.args.globals.now c.args.self.now c.in-Not.is (is (program_of c.args.code.now) c.args.globals.now)) c.negates_truth.ensures

pub returns-in-JumpF : goal.returns-in-JumpF
returns-in-JumpF c = by_instruction (program_of c.args.code.now) c.args.globals.now c.args.self.now c.in-JumpF.is (c.jumps_if_false.ensures (program_of c.args.code.now) c.args.globals.now)

pub returns-in-Await : goal.returns-in-Await
returns-in-Await c = where_ok c.awaits.result (λ move is. by_instruction (program_of c.args.code.now) c.args.globals.now c.args.self.now c.in-Await.is (is (program_of c.args.code.now) c.args.globals.now)) c.awaits.ensures

pub returns-in-Try : goal.returns-in-Try
returns-in-Try c = where_ok c.opens.result (λ move is. by_instruction (program_of c.args.code.now) c.args.globals.now c.args.self.now c.in-Try.is (is (program_of c.args.code.now) c.args.globals.now)) c.opens.ensures

pub returns-in-Untry : goal.returns-in-Untry
returns-in-Untry c = by_instruction (program_of c.args.code.now) c.args.globals.now c.args.self.now c.in-Untry.is (c.unopens.ensures (program_of c.args.code.now) c.args.globals.now)

pub returns-in-Case : goal.returns-in-Case
returns-in-Case c = by_instruction (program_of c.args.code.now) c.args.globals.now c.args.self.now c.in-Case.is (c.handles.ensures (program_of c.args.code.now) c.args.globals.now)

pub returns-in-Again : goal.returns-in-Again
returns-in-Again c = where_ok c.raises_again.result (λ move is. by_instruction (program_of c.args.code.now) c.args.globals.now c.args.self.now c.in-Again.is (is (program_of c.args.code.now) c.args.globals.now)) c.raises_again.ensures

pub returns-in-Write : goal.returns-in-Write
returns-in-Write c = where_ok c.writes.result (λ move is. by_instruction (program_of c.args.code.now) c.args.globals.now c.args.self.now c.in-Write.is (is (program_of c.args.code.now) c.args.globals.now)) c.writes.ensures

pub returns-in-New : goal.returns-in-New
returns-in-New c = where_ok c.makes_links.result (λ move is. by_instruction (program_of c.args.code.now) c.args.globals.now c.args.self.now c.in-New.is (is (program_of c.args.code.now) c.args.globals.now)) c.makes_links.ensures

pub returns-in-Destroy : goal.returns-in-Destroy
returns-in-Destroy c = where_ok c.destroys.result (λ move is. by_instruction (program_of c.args.code.now) c.args.globals.now c.args.self.now c.in-Destroy.is (is (program_of c.args.code.now) c.args.globals.now)) c.destroys.ensures

pub returns-in-Bind : goal.returns-in-Bind
returns-in-Bind c = where_ok c.binds.result (λ move is. by_instruction (program_of c.args.code.now) c.args.globals.now c.args.self.now c.in-Bind.is (is (program_of c.args.code.now) c.args.globals.now)) c.binds.ensures

pub returns-in-Unbind : goal.returns-in-Unbind
returns-in-Unbind c = where_ok c.unbinds.result (λ move is. by_instruction (program_of c.args.code.now) c.args.globals.now c.args.self.now c.in-Unbind.is (is (program_of c.args.code.now) c.args.globals.now)) c.unbinds.ensures

pub returns-in-Accept : goal.returns-in-Accept
returns-in-Accept c = where_ok c.accepts.result (λ move is. by_instruction (program_of c.args.code.now) c.args.globals.now c.args.self.now c.in-Accept.is (is (program_of c.args.code.now) c.args.globals.now)) c.accepts.ensures

pub returns-in-Close : goal.returns-in-Close
returns-in-Close c = where_ok c.closes.result (λ move is. by_instruction (program_of c.args.code.now) c.args.globals.now c.args.self.now c.in-Close.is (is (program_of c.args.code.now) c.args.globals.now)) c.closes.ensures

pub returns-in-Reply : goal.returns-in-Reply
returns-in-Reply c = where_ok c.replies.result (λ move is. by_instruction (program_of c.args.code.now) c.args.globals.now c.args.self.now c.in-Reply.is (is (program_of c.args.code.now) c.args.globals.now)) c.replies.ensures

pub returns-in-Stop : goal.returns-in-Stop
returns-in-Stop c = where_ok c.stops.result (λ move is. by_instruction (program_of c.args.code.now) c.args.globals.now c.args.self.now c.in-Stop.is (is (program_of c.args.code.now) c.args.globals.now)) c.stops.ensures

pub returns-in-End : goal.returns-in-End
returns-in-End c = where_ok c.ends.result (λ move is. by_instruction (program_of c.args.code.now) c.args.globals.now c.args.self.now c.in-End.is (is (program_of c.args.code.now) c.args.globals.now)) c.ends.ensures

pub connects-requires-clause-operands : goal.connects-requires-clause-operands
connects-requires-clause-operands c =
    let has : HasValues (slice_get (counts c.args.code.now.ops.items) c.in-Connect.op) c.args.self.now.stack =
    subst (λ (i : Instruction). Finds (program_of c.args.code.now) i c.args.globals.now c.args.self.now) c.in-Connect.is c.requires.finds in
    subst
    (λ (k : Option ℕ). HasValues k c.args.self.now.stack)
    (count_is c.args.code.now.ops.items c.in-Connect.op c.len.result c.index.result.now c.args.self.now.stack has c.index.ensures (c.len.ensures ∙ c.index.result.now.arguments.ok.0))
    has

pub connects-requires-clause-count : goal.connects-requires-clause-count
connects-requires-clause-count c = let kept = c.index.result.now.arguments in omega (arith, c.len.ensures, kept.ok.1, kept.small)

pub returns-in-Connect : goal.returns-in-Connect
returns-in-Connect c =
    let has : HasValues (slice_get (counts c.args.code.now.ops.items) c.in-Connect.op) c.args.self.now.stack =
    subst (λ (i : Instruction). Finds (program_of c.args.code.now) i c.args.globals.now c.args.self.now) c.in-Connect.is c.requires.finds in
    let arguments = count_is c.args.code.now.ops.items c.in-Connect.op c.len.result c.index.result.now c.args.self.now.stack has c.index.ensures (c.len.ensures ∙ c.index.result.now.arguments.ok.0) in
    where_ok
    c.connects.result
    (λ move is. by_instruction (program_of c.args.code.now) c.args.globals.now c.args.self.now c.in-Connect.is (is (program_of c.args.code.now) c.args.globals.now arguments))
    c.connects.ensures
