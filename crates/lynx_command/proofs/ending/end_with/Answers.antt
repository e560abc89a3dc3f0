-- A failure is told, and out is untouched; a text that is put whole, or up to a put that failed, leaves err untouched.
use Rattle.std.proofs.Common.{[], inl, inr, refl}
use Rattle.lynx_command.proofs.Puts.{no_puts, stopped}
use Rattle.lynx_command.proofs.ending.end_with.Goals as goal

pub returns-in-Err : goal.returns-in-Err
returns-in-Err g c = ([], c.tell.ensures.0, rw c.in-Err.is (refl, c.tell.ensures.1), no_puts _, c.tell.ensures.2)

pub returns-in-Ok-put_text : goal.returns-in-Ok-put_text
returns-in-Ok-put_text g c =
    let put = c.in-Ok-put_text.ensures in
    let so = c.end_so.ensures in
    (put.0, so.0, rw c.in-Ok.is (inl (put.1, so.1)), put.2, so.2)

pub returns-in-Err-Failed : goal.returns-in-Err-Failed
returns-in-Err-Failed g c =
    let put = c.in-Err-Failed.ensures in
    (put.0, [], rw c.in-Ok.is (inr (inl (refl, stopped _ _ _ c.in-Err-Failed.field-0-is put.1, refl))), put.2, no_puts _)
