use Rattle.std.proofs.Common.{◌≡◌, List, Some, None, length, slice_get, refl, sym, ap, ◌∙◌}
use Rattle.std.proofs.lemmas.Option.{slice_get_read, slice_get_past}
use Rattle.lynx_tree.specs.Trees.{module_tree}
use Rattle.lynx_tree.specs.declared.declaration.OpDecl.{OpDecl}
use Rattle.compiler_emission.proofs.Operations.{none_there, some_there, arguments_in}
use Rattle.compiler_emission.proofs.parts.arguments.Goals as goal

pub returns-in_default : goal.returns-in_default
returns-in_default c =
    let q = c.args.name.now in
    sym (none_there (module_tree c.args.tree.now) q (sym (c.requires.ops.places q) ∙ sym c.look.ensures ∙ c.in_default.is))

pub returns-in-Some-get : goal.returns-in-Some-get
returns-in-Some-get c =
    let q = c.args.name.now in
    let ops = c.args.tree.now.ops.items in
    let here = slice_get_read c.deref.result.now (length c.deref.result.now) c.in-Some.place c.in-Some-get.op.now refl c.in-Some-get.ensures.lookup.3.0 c.in-Some-get.ensures.lookup.1 in
    let found : slice_get ops c.in-Some.place ≡ Some c.in-Some-get.op.now = ap (λ (xs : List OpDecl). slice_get xs c.in-Some.place) (sym c.deref.ensures.value) ∙ here in
    c.deref-in-Some-get.ensures.value
    ∙ sym (some_there (module_tree c.args.tree.now) ops q c.in-Some.place refl (sym (c.requires.ops.places q) ∙ sym c.look.ensures ∙ c.in-Some.is) ∙ ap arguments_in found)

pub returns-in-None : goal.returns-in-None
returns-in-None c =
    let q = c.args.name.now in
    let ops = c.args.tree.now.ops.items in
    let past = slice_get_past c.deref.result.now c.in-Some.place c.in-None.ensures.lookup.3 in
    let found : slice_get ops c.in-Some.place ≡ None = ap (λ (xs : List OpDecl). slice_get xs c.in-Some.place) (sym c.deref.ensures.value) ∙ past in
    sym (some_there (module_tree c.args.tree.now) ops q c.in-Some.place refl (sym (c.requires.ops.places q) ∙ sym c.look.ensures ∙ c.in-Some.is) ∙ ap arguments_in found)
