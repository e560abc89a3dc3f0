use Rattle.lynx_load.proofs.programs.start_role.Goals as goal

pub start-requires-clause-code : goal.start-requires-clause-code
start-requires-clause-code c = c.checked_code_is_runnable.ensures c.args.code c.requires.checked
