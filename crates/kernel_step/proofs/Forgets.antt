-- The kernels of a trail, one after another.
use Rattle.std.proofs.Common.{◌≡◌, ℕ, ◌+◌, ◌<◌, take, get_or, arith, ap, ◌∙◌, ◌∷◌, [], sym}
use Rattle.std.specs.List.{fold}
use Rattle.std.proofs.lemmas.List.{take_more}
use Rattle.std.proofs.lemmas.List.Sums.{fold-append}
use Rattle.charlotte_packets.specs.declared.picture.MovingPicture.{MovingPicture}
use Rattle.kernel_step.specs.Actions.{forget_at, kernel_numbers}
use Rattle.charlotte_packets.specs.declared.work.Work.{Work}
use Rattle.kernel_step.specs.Progress.{Progress, AddsAtMost}
use Rattle.kernel_step.specs.Room.{one_packet, packets}

-- one kernel more is told
pub forgets-more : (k : ℕ) (m : MovingPicture) (i : ℕ) (first before after : Progress) → i < 8 → before ≡ fold (λ so_far j. forget_at k m j so_far) first (take i kernel_numbers)
    → after ≡ forget_at k m (get_or kernel_numbers i 0) before → after ≡ fold (λ so_far j. forget_at k m j so_far) first (take (i + 1) kernel_numbers)
forgets-more k m i first before after small told more =
    let f = λ (so_far : Progress) (j : ℕ). forget_at k m j so_far in
    more
    ∙ ap (λ d. forget_at k m (get_or kernel_numbers i 0) d) told
    ∙ sym (fold-append f first (take i kernel_numbers) (get_or kernel_numbers i 0 ∷ []))
    ∙ ap (λ js. fold f first js) (sym (take_more kernel_numbers i 0 small))

-- what some calls add, and one more
pub AddsAtMost-more : (n : ℕ) (old mid new : Work) → AddsAtMost (packets n) old mid → AddsAtMost one_packet mid new → AddsAtMost (packets (n + 1)) old new
AddsAtMost-more n old mid new a b =
    record {
      packets = omega (arith, a.packets, b.packets);
      reports = omega (arith, a.reports, b.reports);
      answers = omega (arith, a.answers, b.answers);
      steps = omega (arith, a.steps, b.steps);
      packets_in_place = b.packets_in_place ∙ a.packets_in_place;
      reports_in_place = b.reports_in_place ∙ a.reports_in_place;
      answers_in_place = b.answers_in_place ∙ a.answers_in_place;
      steps_in_place = b.steps_in_place ∙ a.steps_in_place;
    }
