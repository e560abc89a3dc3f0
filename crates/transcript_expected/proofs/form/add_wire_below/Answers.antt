use Rattle.std.proofs.Common.{codes}
use Rattle.transcript_shown.proofs.Listings.{item_number}
use Rattle.transcript_expected.proofs.form.add_wire_below.Goals as goal

pub returns : goal.returns
returns c =
    item_number (codes "wire I J, I and J below ") c.args.processes c.from.result c.args.forms.now c.add.new.self c.append_number.new.self c.in_ok-add.ensures c.from.ensures c.in_ok-append_number.ensures
