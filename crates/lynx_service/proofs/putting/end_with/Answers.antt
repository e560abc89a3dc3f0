-- `yes` leaves err untouched, all else out.
use Rattle.std.proofs.Common.{◌≡◌, true, false, [], refl, sym, ◌∙◌}
use Rattle.lynx_service.proofs.Frames.{no_puts}
use Rattle.lynx_service.proofs.putting.end_with.Goals as goal
use Rattle.lynx_service.specs.Service.{is_yes}

pub returns-then-is_yes : goal.returns-then-is_yes
returns-then-is_yes g c =
    let put = c.put.ensures in
    let here : is_yes c.args.verdict ≡ true = sym c.is_yes.ensures ∙ c.if-is_yes.true in
    (put.0, [], rw here (put.1, refl), put.2, no_puts _)

pub returns : goal.returns
returns g c =
    let told = c.tell.ensures in
    let here : is_yes c.args.verdict ≡ false = sym c.is_yes.ensures ∙ c.if-is_yes.false in
    ([], told.0, rw here (refl, told.1), no_puts _, told.2)
