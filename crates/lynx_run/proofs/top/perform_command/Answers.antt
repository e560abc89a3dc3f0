-- A command that is not built fails by its name. `bench` reads no file, so the files are as before.
use Rattle.std.proofs.Common.{◌≡◌, ℕ, Bool, String, Some, List, refl}
use Rattle.std.specs.declared.alloc.Global.{Global}
use Rattle.lynx_command.proofs.Courses.{refused_course, refused}
use Rattle.lynx_command.specs.declared.failure.Failure.TheVariants.{Unbuilt}
use Rattle.lynx_outside.specs.Logged.{Put}
use Rattle.lynx_run.specs.Commands.{command_name, Answers}
use Rattle.command_words.specs.declared.words.Command.{Command}
use Rattle.command_words.specs.declared.words.Command.TheVariants.{Drive, Check, Code, Run, Bench, Audit, Snapshot}
use Rattle.lynx_run.proofs.top.perform_command.Goals as goal

-- each command but six is not built
not_built : (command : Command) (errs : List Put) → ((file : String Global) → command ≡ Drive file → ⊥) → ((file : String Global) → command ≡ Check file → ⊥) → ((file : String Global) → command ≡ Code file → ⊥)
    → ((file : String Global) → command ≡ Audit file → ⊥) → ((plan : String Global) (serial : Bool) (turns : ℕ) → command ≡ Run plan serial turns → ⊥) → ((seed : ℕ) → command ≡ Bench seed → ⊥) → Answers (Some command) (refused_course Unbuilt (command_name command) errs)
not_built (Drive file) errs drive check code audit run bench = absurd (drive file refl)
not_built (Check file) errs drive check code audit run bench = absurd (check file refl)
not_built (Code file) errs drive check code audit run bench = absurd (code file refl)
not_built (Run plan serial turns) errs drive check code audit run bench = absurd (run plan serial turns refl)
not_built (Bench seed) errs drive check code audit run bench = absurd (bench seed refl)
not_built (Audit file) errs drive check code audit run bench = absurd (audit file refl)
not_built (Snapshot plan at serial) errs drive check code audit run bench = record { reads = refl; found = refl; named = refl }

pub returns-in_default : goal.returns-in_default
returns-in_default g c =
    let told = c.tell.ensures in
    let name = command_name c.args.command.now in (
      refused_course Unbuilt name told.0,
      not_built c.args.command.now told.0 c.in_default.not-Drive c.in_default.not-Check c.in_default.not-Code c.in_default.not-Audit c.in_default.not-Run c.in_default.not-Bench,
      refused Unbuilt name _ _ _ _ _ _ (rw c.command_name.ensures at told.1) told.2,
    )

pub returns-in-Bench : goal.returns-in-Bench
returns-in-Bench g c =
    let benches = c.bench_seed.ensures in
    (benches.0, rw c.in-Bench.is benches.1, benches.2 (g.F.Files.state c.args.files.now))
