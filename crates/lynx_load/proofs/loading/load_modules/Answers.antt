use Rattle.std.proofs.Common.{◌≡◌, ◌==◌, length, false, true, Ok, Err, rules, ◌∙◌}
use Rattle.std.proofs.lemmas.Bool.{eqb-true}
use Rattle.std.proofs.lemmas.List.{nil_from_length}
use Rattle.lynx_load.proofs.Planned.{as_many, no_code, not_built, onto_nothing}
use Rattle.lynx_load.proofs.loading.load_modules.Goals as goal

pub returns-then-not-is_empty-clause-loads : goal.returns-then-not-is_empty-clause-loads
returns-then-not-is_empty-clause-loads g c =
    let some : (length c.args.plan.hosts == 0) ≡ false = search rules in
    not_built (g.F.Files.state c.args.files.now) c.args.name.now c.args.plan c.told.result some c.told.ensures

pub start_programs-requires-clause-codes : goal.start_programs-requires-clause-codes
start_programs-requires-clause-codes g c =
    let none : (length c.args.plan.hosts == 0) ≡ true = search rules in
    let before = g.F.Files.state c.args.files.now in
    let after = g.F.Files.state c.load_codes.new.files in
    let files = c.args.plan.files in
    as_many before after files c.load_codes.new.codes.items
    (onto_nothing before after files c.as_slice.result.now (Ok tt) c.new-codes.result.items c.load_codes.new.codes.items c.as_slice.ensures c.new-codes.ensures.items c.in-Ok.ensures.loads)
    ∙ (c.requires.runs (nil_from_length c.args.plan.hosts (eqb-true (length c.args.plan.hosts) 0 none))).0

pub returns-in-Err-clause-loads : goal.returns-in-Err-clause-loads
returns-in-Err-clause-loads g c =
    let none : (length c.args.plan.hosts == 0) ≡ true = search rules in
    let before = g.F.Files.state c.args.files.now in
    let after = g.F.Files.state c.load_codes.new.files in
    let files = c.args.plan.files in
    no_code before after c.args.name.now c.args.plan c.in-Err.fault c.load_codes.new.codes.items (nil_from_length c.args.plan.hosts (eqb-true (length c.args.plan.hosts) 0 none))
    (onto_nothing before after files c.as_slice.result.now (Err c.in-Err.fault) c.new-codes.result.items c.load_codes.new.codes.items c.as_slice.ensures c.new-codes.ensures.items c.in-Err.ensures.loads)
