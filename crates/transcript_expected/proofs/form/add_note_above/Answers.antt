use Rattle.std.proofs.Common.{◌++◌, codes}
use Rattle.transcript_shown.proofs.Listings.{item_more, item_number}
use Rattle.transcript_expected.proofs.form.add_note_above.Goals as goal

pub returns : goal.returns
returns c =
    let noted = item_more (codes "note LINE " ++ c.args.what.now) (codes ", LINE above ") c.args.forms.now c.add_any_note.new.forms c.append.new.self c.in_ok-add_any_note.ensures c.in_ok-append.ensures in
    item_number (codes "note LINE " ++ c.args.what.now ++ codes ", LINE above ") c.args.line c.from.result c.args.forms.now c.append.new.self c.append_number.new.self noted c.from.ensures c.in_ok-append_number.ensures
