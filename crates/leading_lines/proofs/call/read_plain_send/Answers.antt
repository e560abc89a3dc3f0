use Rattle.std.proofs.Common.{refl}
use Rattle.charlotte_text.specs.Spelling.{bytes_text}
use Rattle.leading_lines.proofs.Leading.{send_fits, send_then}
use Rattle.leading_lines.proofs.call.read_plain_send.Goals as goal

pub returns-clause-spelled : goal.returns-clause-spelled
returns-clause-spelled c =
    send_then c.in_ok-on.on c.args.text.now c.in_ok-behind_word.field-0.now c.in_ok-on.rest.now c.in_ok-behind_byte.field-0.now (bytes_text c.in_ok-bytes.bytes) c.in_ok-bytes.rest.now c.in_ok-bytes.bytes c.in_ok-enclose.enclose
    c.in_ok-behind_word.ensures c.in_ok-on.ensures.spelled c.in_ok-behind_byte.ensures c.in_ok-bytes.ensures.spelled refl c.in_ok-enclose.ensures.same

pub returns-clause-fits : goal.returns-clause-fits
returns-clause-fits c v = send_fits v c.in_ok-on.on c.in_ok-bytes.bytes c.in_ok-enclose.enclose c.in_ok-on.ensures.fits c.in_ok-bytes.ensures.each c.in_ok-bytes.ensures.few c.in_ok-enclose.ensures.same
