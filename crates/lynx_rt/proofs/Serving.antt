-- What the code of a machine tells of operations and entries.
use Rattle.std.proofs.Common.{◌≡◌, ℕ, suc, ◌+◌, List, [], map, Option, Some, None, option_map, slice_get, sym, ap, ◌∙◌, add-one}
use Rattle.std.proofs.lemmas.Option.{slice_get-map}
use Rattle.lynx_code.specs.declared.code.Code.{Code}
use Rattle.lynx_code.specs.declared.code.CodeOp.{CodeOp}
use Rattle.lynx_code.specs.declared.code.Part.{Part}
use Rattle.lynx_tree.specs.declared.declaration.TypeName.{TypeName}
use Rattle.code_shapes.specs.Shapes.{PartTypes, kept_op, kept_part}
use Rattle.lynx_meaning.specs.Needs.{OpTypes, types_of}
use Rattle.lynx_interp.specs.Machines.{state_of}
use Rattle.lynx_interp.specs.Machines as machines
use Rattle.machine_turns.specs.Turns.{Turns}
use Rattle.process_run.specs.States.{Module}
use Rattle.lynx_rt.specs.Changes.{op_of}
use Rattle.lynx_rt.specs.Seen.{module_in}

abbrev text_of : CodeOp → List ℕ
text_of o = o.signature.items

signatures_as : (m : machines.State) (code : Code) (t : Turns) (c : Module) (op : ℕ) → m ≡ state_of code t → module_in m ≡ c
    → option_map text_of (slice_get code.ops.items op) ≡ slice_get c.signatures op
signatures_as m code t c op is seen =
    sym (slice_get-map text_of code.ops.items op) ∙ ap (λ (z : machines.State). slice_get (module_in z).signatures op) (sym is)
    ∙ ap (λ (d : Module). slice_get d.signatures op) seen

pub signature_there : (m : machines.State) (code : Code) (t : Turns) (c : Module) (op : ℕ) (o : CodeOp) (x : List ℕ) → m ≡ state_of code t → module_in m ≡ c
    → Some o ≡ slice_get code.ops.items op → x ≡ o.signature.items → Some x ≡ slice_get c.signatures op
signature_there m code t c op o x is seen at text =
    ap (λ (y : List ℕ). Some y) text ∙ ap (option_map text_of) at ∙ signatures_as m code t c op is seen

pub signature_none : (m : machines.State) (code : Code) (t : Turns) (c : Module) (op : ℕ) → m ≡ state_of code t → module_in m ≡ c
    → None ≡ slice_get code.ops.items op → None ≡ slice_get c.signatures op
signature_none m code t c op is seen at = ap (option_map text_of) at ∙ signatures_as m code t c op is seen

results_as : (m : machines.State) (code : Code) (t : Turns) (c : Module) (op : ℕ) → m ≡ state_of code t → module_in m ≡ c
    → option_map kept_op (slice_get code.ops.items op) ≡ slice_get c.types.ops op
results_as m code t c op is seen =
    sym (slice_get-map kept_op code.ops.items op) ∙ ap (λ (z : machines.State). slice_get (module_in z).types.ops op) (sym is)
    ∙ ap (λ (d : Module). slice_get d.types.ops op) seen

abbrev results_in : Option OpTypes → List TypeName
results_in o = types_of (λ o. o.results) o

pub results_there : (m : machines.State) (code : Code) (t : Turns) (c : Module) (op : ℕ) (o : CodeOp) (ts : List TypeName) → m ≡ state_of code t → module_in m ≡ c
    → Some o ≡ slice_get code.ops.items op → ts ≡ o.results.items → ts ≡ results_in (slice_get c.types.ops op)
results_there m code t c op o ts is seen at types =
    types ∙ ap (λ (x : Option CodeOp). results_in (option_map kept_op x)) at ∙ ap results_in (results_as m code t c op is seen)

pub results_none : (m : machines.State) (code : Code) (t : Turns) (c : Module) (op : ℕ) (ts : List TypeName) → m ≡ state_of code t → module_in m ≡ c
    → None ≡ slice_get code.ops.items op → ts ≡ [] → ts ≡ results_in (slice_get c.types.ops op)
results_none m code t c op ts is seen at types =
    types ∙ ap (λ (x : Option CodeOp). results_in (option_map kept_op x)) at ∙ ap results_in (results_as m code t c op is seen)

parts_as : (m : machines.State) (code : Code) (t : Turns) (c : Module) (entry : ℕ) → m ≡ state_of code t → module_in m ≡ c
    → option_map kept_part (slice_get code.parts.items (entry + 1)) ≡ slice_get c.parts (suc entry)
parts_as m code t c entry is seen =
    sym (slice_get-map kept_part code.parts.items (entry + 1)) ∙ ap (λ (i : ℕ). slice_get (map kept_part code.parts.items) i) (add-one entry)
    ∙ ap (λ (z : machines.State). slice_get (module_in z).parts (suc entry)) (sym is) ∙ ap (λ (d : Module). slice_get d.parts (suc entry)) seen

pub op_there : (m : machines.State) (code : Code) (t : Turns) (c : Module) (entry : ℕ) (p : Part) (o : Option ℕ) → m ≡ state_of code t → module_in m ≡ c
    → Some p ≡ slice_get code.parts.items (entry + 1) → o ≡ p.op → o ≡ op_of (slice_get c.parts (suc entry))
op_there m code t c entry p o is seen at op =
    op ∙ ap (λ (x : Option Part). op_of (option_map kept_part x)) at ∙ ap op_of (parts_as m code t c entry is seen)

pub op_none : (m : machines.State) (code : Code) (t : Turns) (c : Module) (entry : ℕ) → m ≡ state_of code t → module_in m ≡ c
    → None ≡ slice_get code.parts.items (entry + 1) → None ≡ op_of (slice_get c.parts (suc entry))
op_none m code t c entry is seen at =
    ap (λ (x : Option Part). op_of (option_map kept_part x)) at ∙ ap op_of (parts_as m code t c entry is seen)
