-- What a packet and a call do leaves the table of a kernel sound, whatever they are.
use Rattle.std.proofs.Common.{◌≡◌, ℕ, true, [], refl, sym, subst, ◌∙◌}
use Rattle.charlotte_calls.specs.declared.names.EndId.{EndId}
use Rattle.charlotte_packets.specs.declared.picture.PictureWhat.{PictureWhat}
use Rattle.end_table.specs.declared.entry.Entry.{Entry}
use Rattle.theorem_effects.specs.Rows.{row_effect, values_in}
use Rattle.theorem_effects.proofs.Events.{row-does}
use Rattle.kernel_sound.proofs.Goes.{GoesWell}
use Rattle.kernel_sound.proofs.Rows.{row-well}
use Rattle.kernel_sound.specs.Sound.{IsSound}
use Rattle.kernel_step.proofs.Folds.{AreDifferent}
use Rattle.kernel_step.specs.Progress.{Progress}
use Rattle.kernel_step.specs.Rows.{ends_in, row}
use Rattle.theorem_take_silent.proofs.Alike.{IsQuietly-same}
use Rattle.theorem_take_silent.proofs.World.{sound-still}
use Rattle.theorem_take_silent.specs.Quiet.{IsQuietly}

module _ (k made n : ℕ) (t : EndId → Entry) (sound : IsSound k made n t) where
  -- an event that begins
  abbrev begun : Progress
  begun = record { table = t; stamp = 0; packets = []; reports = []; answers = []; steps = [] }

  well : GoesWell k made n (λ p e. true) t begun
  well = record { sound = sound; reports = tt; answers = tt; calm = λ p e apart. refl }

  same-sound : (y z : EndId → Entry) → IsSound k made n y → ((e : EndId) → z e ≡ y e) → IsSound k made n z
  same-sound y z is same = sound-still k made n y z (λ e. subst (IsQuietly (y e)) (sym (same e)) (IsQuietly-same (y e))) is

  -- a packet that brings different ends
  pub takes-sound : (from : ℕ) (what : PictureWhat) → AreDifferent (ends_in (values_in what)) → (y : EndId → Entry) → ((e : EndId) → y e ≡ (row_effect k made from t what).entry e (t e)) → IsSound k made n y
  takes-sound from what different y after =
      same-sound (row k made from what begun).table y (row-well k made n from (λ p e. true) t what begun (λ p. refl) well).sound (λ e. after e ∙ sym ((row-does k made n begun sound from what different).table e))
