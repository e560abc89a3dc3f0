use Rattle.code_shapes.specs.Shapes.{PartTypes, kept_part, opened_by}
use Rattle.std.proofs.Common.{◌∙◌, ◌+◌, ◌≤◌, List, Some, ap, arith, length, slice_get, subst, sym}
use Rattle.std.proofs.lemmas.List.{length-map}
use Rattle.std.proofs.lemmas.Result.{IfOk-weaker}
use Rattle.lynx_meaning.specs.Values.{Value}
use Rattle.lynx_tree.specs.declared.declaration.TypeName.{TypeName}
use Rattle.machine_turns.specs.Threads.{begun}
use Rattle.machine_values.specs.Told.{value_of, values_of}
use Rattle.compiler_runnable.specs.Runnable.{HaveStarts, start_locals}
use Rattle.lynx_interp.specs.Machines.{State}
use Rattle.lynx_interp.proofs.Machines.{part_there}
use Rattle.lynx_interp.proofs.machine.Machine.new_thread.Goals as goal

pub entry_variables-requires : goal.entry_variables-requires
entry_variables-requires c =
    let here = ap (λ (s : State). slice_get s.parts (c.args.entry + 1)) c.self.view_is ∙ c.requires.1 in
    let same = part_there c.self.inside.code.parts.items (c.args.entry + 1) (c.from.result + 1) c.index-part.result.now c.requires.0 (ap (λ n. n + 1) c.from.ensures) c.index-part.ensures here in
    let kinds = c.deref.ensures.value ∙ ap (λ (q : PartTypes). q.locals) same in
    let fits = subst (λ (ts : List TypeName). length (values_of c.args.values.items) ≤ length ts) (sym kinds) c.requires.2 in
    let size = length-map c.args.values.items value_of in
    record {
      kinds = subst (λ (ts : List TypeName). HaveStarts ts) (sym kinds) c.requires.3;
      values = omega (arith, fits, size);
    }

pub returns : goal.returns
returns c =
    let values = values_of c.args.values.items in
    IfOk-weaker c.of.result _ _
    (λ slot made p is.
    let here = ap (λ (s : State). slice_get s.parts (c.args.entry + 1)) c.self.view_is ∙ is in
    let same = part_there c.self.inside.code.parts.items (c.args.entry + 1) (c.from.result + 1) c.index-part.result.now p (ap (λ n. n + 1) c.from.ensures) c.index-part.ensures here in
    let part = kept_part c.index-part.result.now in
    made
    ∙ ap Some (c.in_ok-thread.ensures
    ∙ ap (λ (vs : List Value). begun (opened_by part.op) part.start vs) (c.in_ok-locals.ensures ∙ ap (λ (ts : List TypeName). start_locals ts values) c.deref.ensures.value)
    ∙ ap (λ (q : PartTypes). begun (opened_by q.op) q.start (start_locals q.locals values)) same))
    c.of.ensures
