-- Words that are not of the form fail as such, and a command that they give has few turns.
use Rattle.std.proofs.Common.{◌≡◌, [], None, refl, rules}
use Rattle.lynx_command.proofs.Courses.{refused_course, refused}
use Rattle.lynx_command.specs.declared.failure.Failure.TheVariants.{Usage}
use Rattle.command_words.proofs.Turns.{turns_are_few}
use Rattle.command_words.specs.Words.{command_of}
use Rattle.lynx_run.proofs.top.lynx.Goals as goal

pub returns-in-None : goal.returns-in-None
returns-in-None g c =
    let none : command_of c.args.words.items ≡ None = search rules in
    let told = c.tell.ensures in
    (refused_course Usage [] told.0, rw none (record { reads = refl; found = refl; named = refl }), refused _ _ _ _ _ _ _ _ told.1 told.2)

pub perform_command-requires-after_bounds : goal.perform_command-requires-after_bounds
perform_command-requires-after_bounds g c κs within = turns_are_few c.args.words.items c.in-Some.command (search rules)
