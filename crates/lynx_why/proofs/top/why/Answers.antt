-- Words that are not of the form fail as such.
use Rattle.std.proofs.Common.{◌≡◌, [], None, refl, rules}
use Rattle.lynx_command.proofs.Courses.{refused_course, refused}
use Rattle.lynx_command.specs.declared.failure.Failure.TheVariants.{Usage}
use Rattle.command_words.specs.Words.{one_name}
use Rattle.lynx_why.proofs.top.why.Goals as goal

pub returns-in-None : goal.returns-in-None
returns-in-None g c =
    let none : one_name c.args.words.items ≡ None = search rules in
    let told = c.tell.ensures in
    (refused_course Usage [] told.0, rw none (record { reads = refl; found = refl; named = refl }), refused _ _ _ _ _ _ _ _ told.1 told.2)
