use Rattle.std.proofs.Common.{◌-◌, length, take, drop, arith}
use Rattle.std.proofs.lemmas.List.{nil_from_length}
use Rattle.lynx_command.specs.declared.failure.Failure.TheVariants.{NoMemory}
use Rattle.lynx_load.specs.declared.fault.LoadFault.TheVariants as fault
use Rattle.lynx_load.proofs.Modules.{first_and_others, first_fails, goes_on, none_left, unkept}
use Rattle.lynx_load.proofs.codes.+load_codes.Goals as goal

pub returns-in_default-clause-loads : goal.returns-in_default-clause-loads
returns-in_default-clause-loads g t c = none_left (g.F.Files.state c.args.files.now) c.args.names.now tt c.args.codes.now.items (nil_from_length c.args.names.now (omega arith))

pub returns-in-Err-clause-loads : goal.returns-in-Err-clause-loads
returns-in-Err-clause-loads g t c =
    let names = c.args.names.now in
    let name = c.as_str-name.result.now in
    first_fails (g.F.Files.state c.args.files.now) (g.F.Files.state c.load_code.new.files) names name (take (length names - 1) (drop 1 names)) c.in-Err.failure c.told.result
    c.args.codes.now.items c.args.codes.now.items (first_and_others names c.first-item.result name c.in-len1-up.len_at_least c.first-item.is c.as_str-name.ensures) c.in-Err.ensures.code c.told.ensures

pub returns-in-Err-keep-clause-loads : goal.returns-in-Err-keep-clause-loads
returns-in-Err-keep-clause-loads g t c =
    let names = c.args.names.now in
    let name = c.as_str-name.result.now in
    let before = g.F.Files.state c.args.files.now in
    let after = g.F.Files.state c.load_code.new.files in
    first_fails before after names name (take (length names - 1) (drop 1 names)) NoMemory fault.NoMemory c.args.codes.now.items c.keep.new.codes.items
    (first_and_others names c.first-item.result name c.in-len1-up.len_at_least c.first-item.is c.as_str-name.ensures) (unkept before after name c.in-Ok.code c.in-Ok.ensures.code) tt

pub returns-in-Ok-keep-clause-loads : goal.returns-in-Ok-keep-clause-loads
returns-in-Ok-keep-clause-loads g t c =
    let names = c.args.names.now in
    let name = c.as_str-name.result.now in
    let others = take (length names - 1) (drop 1 names) in
    goes_on (g.F.Files.state c.args.files.now) (g.F.Files.state c.load_code.new.files) (g.F.Files.state c.load_codes.new.files) names name others c.in-Ok.code c.load_codes.result
    c.args.codes.now.items c.keep.new.codes.items c.load_codes.new.codes.items (first_and_others names c.first-item.result name c.in-len1-up.len_at_least c.first-item.is c.as_str-name.ensures)
    c.in-Ok.ensures.code c.in-Ok-keep.ensures.kept c.load_codes.ensures.loads
