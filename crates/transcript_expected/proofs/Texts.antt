-- Forms that are added one after the other.
use Rattle.std.proofs.Common.{◌≡◌, List, [], ◌∷◌, refl, sym, ◌∙◌}
use Rattle.transcript_expected.specs.Texts.{standing_texts, texts_that_stand, with_forms}
use Rattle.transcript_expected.specs.declared.form.Form.{Form}
use Rattle.transcript_reading.specs.Order.{Place}
use Rattle.transcript_shown.specs.Listing.{ListingView, with_items}
use Rattle.transcript_shown.proofs.Listings.{items_both}

pub each_form : (place : Place) (fs : List Form) (l : ListingView) → with_forms place fs l ≡ with_items (texts_that_stand place fs) l
each_form place [] l = refl
each_form place (f ∷ fs) l = each_form place fs (with_items (standing_texts place f) l) ∙ sym (items_both (standing_texts place f) (texts_that_stand place fs) l)
