-- What a process is told, seen at one of its ends.
use Rattle.std.proofs.Common.{arith, ◌≡◌, ◌≤◌, ℕ, zero, suc, ◌+◌, Bool, true, false, if◌then◌else◌, ⊎_elim, List, [], ◌∷◌, ◌++◌, Option, Some, None, slice_get, eq-eqb, eqb-true, refl, sym, ap, subst, ◌∙◌}
use Rattle.std.specs.Prelude.{◌==◌}
use Rattle.charlotte_calls.specs.EndEq.{end_eq}
use Rattle.charlotte_calls.specs.declared.calls.Answer.{Answer}
use Rattle.charlotte_calls.specs.declared.calls.Answer.TheVariants as answer
use Rattle.charlotte_calls.specs.declared.calls.Cause.TheVariants.{Dead, Late}
use Rattle.charlotte_calls.specs.declared.calls.Report.{Report}
use Rattle.charlotte_calls.specs.declared.names.EndId.{EndId}
use Rattle.charlotte_calls.specs.declared.names.Way.TheVariants.{Inward, Outward}
use Rattle.end_protocol.specs.declared.hearing.Heard.{Heard}
use Rattle.end_protocol.specs.declared.kept.Kept.{Kept}
use Rattle.end_protocol.specs.Deeds.{Deed, heard_deeds}
use Rattle.end_protocol.specs.Falling.{dies}
use Rattle.end_protocol.specs.Going.{receive_over, returns, sent}
use Rattle.end_protocol.specs.Happenings.{CancelLate, Happening, ReceiveOver, Receives, SendOver, after}
use Rattle.end_protocol.specs.Happenings as happenings
use Rattle.end_protocol.specs.Hearing.{hears}
use Rattle.process_run.specs.States.{Asked, DeedOn, Gone, Held, Holding, Keeps, Place, deeds_on}
use Rattle.process_run.specs.States as process
use Rattle.process_run.specs.Ends.{held_in, held_of, number_of, place_at, set_holding, with_holding}
use Rattle.process_run.specs.Reports.{holding_of}
use Rattle.process_changes.specs.Changes.{IsHeld}
use Rattle.process_changes.specs.Ledgers.{Ledger, came_with, carried, given_back, how_often}
use Rattle.process_changes.specs.AtEnd.{AreSingle, IsToldAt, IsUntold, IsUntoldOf, ToldAt, deeds_at, held_count, holding_at, is_sent, known, known_from, known_holding, known_ledger, seen, total}
use Rattle.process_changes.specs.AtEnd as told
use Rattle.process_changes.specs.Telling.{IsAnswer, IsDeath, IsDeathWith, IsReport, IsSilent, IsTold, IsUnheld, Kills, Telling, Turn}
use Rattle.process_changes.specs.Telling as tells
use Rattle.process_changes.proofs.AtEnd.{by_end, doomed_too, once, once_other}
use Rattle.process_changes.proofs.Counting.{back_given, both, dies_load, first_of, hears_load, in_places, of_holding, sent_load, with_load}
use Rattle.process_changes.proofs.Held.{differ, ends, here_so, here_was, kept_at, number_with, others_so, same_number, single_so}
use Rattle.process_changes.proofs.Numbers.{none_at, same_end, same_place}

-- ---- a Send that was answered counts already

module _ (t : Turn) where
  abbrev is_sent_at : ℕ → Bool
  is_sent_at n = is_sent t.asked t.given n

  shift : (i j : ℕ) → (i + 1) + j ≡ i + suc j
  shift i j = omega arith

  known_index : (i j : ℕ) (ps : List Place) → holding_of (slice_get (known_from t i ps) j) ≡ known_holding t (i + j) (holding_of (slice_get ps j))
  known_index i j [] = refl
  known_index i zero (p ∷ ps) = ap (λ (m : ℕ). known_holding t m p.holding) (omega arith)
  known_index i (suc j) (p ∷ ps) = known_index (i + 1) j ps ∙ ap (λ (m : ℕ). known_holding t m (holding_of (slice_get ps j))) (shift i j)

  ends_known : (i : ℕ) (ps : List Place) → ends (known_from t i ps) ≡ ends ps
  ends_known i [] = refl
  ends_known i (p ∷ ps) = ap (λ (l : List EndId). p.end ∷ l) (ends_known (i + 1) ps)

  pub holding_known : (y : EndId) (ps : List Place) → holding_at y (known_from t 1 ps) ≡ known_holding t (number_of y ps) (holding_at y ps)
  holding_known y ps =
      ap (λ (m : ℕ). holding_of (place_at m (known_from t 1 ps))) (same_number y 1 (known_from t 1 ps) ps (ends_known 1 ps)) ∙ by_number (number_of y ps)
    where
      by_number : (n : ℕ) → holding_of (place_at n (known_from t 1 ps)) ≡ known_holding t n (holding_of (place_at n ps))
      by_number zero = refl
      by_number (suc j) = known_index 1 j ps ∙ ap (λ (m : ℕ). known_holding t m (holding_of (slice_get ps j))) (omega arith)

  held_as : (n : ℕ) (g : Holding) → held_count (known_holding t n g) ≡ held_count g
  held_as n (Keeps k) = refl
  held_as n (Gone own) = refl

  pub held_known : (y : EndId) (ps : List Place) → held_count (holding_at y (known_from t 1 ps)) ≡ held_count (holding_at y ps)
  held_known y ps = ap held_count (holding_known y ps) ∙ held_as (number_of y ps) (holding_at y ps)

  known_load : (y : EndId) (i : ℕ) (ps : List Place) → in_places y (known_from t i ps) ≤ in_places y ps
  known_load y i [] = omega arith
  known_load y i (p ∷ ps) =
      let was : in_places y (p ∷ ps) ≡ of_holding y p.holding + in_places y ps = first_of y p ps in
      let now : in_places y (known_from t i (p ∷ ps)) ≡ of_holding y (known_holding t i p.holding) + in_places y (known_from t (i + 1) ps) = first_of y (record p { holding = known_holding t i p.holding }) (known_from t (i + 1) ps) in
      let one : of_holding y (known_holding t i p.holding) ≤ of_holding y p.holding = by_holding p.holding in
      let rest : in_places y (known_from t (i + 1) ps) ≤ in_places y ps = known_load y (i + 1) ps in
      omega (arith, was, now, one, rest)
    where
      by_test : (k : Kept) (b : Bool) → how_often y (carried (if b then sent k else k)) ≤ how_often y (carried k)
      by_test k true = sent_load y k
      by_test k false = omega arith

      by_holding : (g : Holding) → of_holding y (known_holding t i g) ≤ of_holding y g
      by_holding (Keeps k) = by_test k (is_sent_at i)
      by_holding (Gone own) = omega arith

  -- an end is in no more places where that counts
  pub known_less : (y : EndId) (b : Ledger) → total (seen y (known_ledger t b)) ≤ total (seen y b)
  known_less y b =
      let held : held_count (holding_at y (known_from t 1 b.places)) ≡ held_count (holding_at y b.places) = held_known y b.places in
      let load : in_places y (known_from t 1 b.places) ≤ in_places y b.places = known_load y 1 b.places in
      omega (arith, held, load)

  as_unsent : (n : ℕ) (g : Holding) → is_sent_at n ≡ false → known_holding t n g ≡ g
  as_unsent n (Keeps k) e = ap (λ (b : Bool). Keeps (if b then sent k else k)) e
  as_unsent n (Gone own) e = refl

  -- where no Send on an end that is held is answered Ok
  known_as : (i : ℕ) (ps : List Place) → ((j : ℕ) → known_holding t (i + j) (holding_of (slice_get ps j)) ≡ holding_of (slice_get ps j)) → known_from t i ps ≡ ps
  known_as i [] each = refl
  known_as i (p ∷ ps) each =
      ap (λ (g : Holding). record p { holding = g } ∷ known_from t (i + 1) ps) (ap (λ (m : ℕ). known_holding t m p.holding) (omega arith) ∙ each 0)
      ∙ ap (λ (l : List Place). p ∷ l)
      (known_as (i + 1) ps (λ j. ap (λ (m : ℕ). known_holding t m (holding_of (slice_get ps j))) (shift i j) ∙ each (suc j)))

  unsent_places : ((n : ℕ) → is_sent_at n ≡ false) → (ps : List Place) → known_from t 1 ps ≡ ps
  unsent_places un ps = known_as 1 ps (λ j. as_unsent (1 + j) (holding_of (slice_get ps j)) (un (1 + j)))

  known_one : (i j : ℕ) (p : Place) (ps : List Place) → slice_get ps j ≡ Some p → ((l : ℕ) → (l ≡ j → ⊥) → is_sent_at (i + l) ≡ false) →
      known_from t i ps ≡ set_holding j (known_holding t (i + j) p.holding) (Some p) ps
  known_one i j p [] at un = absurd (none_at p at)
  known_one i zero p (q ∷ ps) at un =
      ap (λ (r : Place). record r { holding = known_holding t i r.holding } ∷ known_from t (i + 1) ps) (same_place q p at)
      ∙ ap (λ (m : ℕ). record p { holding = known_holding t m p.holding } ∷ known_from t (i + 1) ps) (omega arith)
      ∙ ap (λ (l : List Place). record p { holding = known_holding t (i + 0) p.holding } ∷ l)
      (known_as (i + 1) ps (λ j. as_unsent ((i + 1) + j) (holding_of (slice_get ps j)) (ap (λ (m : ℕ). is_sent_at m) (shift i j) ∙ un (suc j) (λ e. absurd (omega (arith, e))))))
  known_one i (suc j) p (q ∷ ps) at un =
      ap (λ (g : Holding). record q { holding = g } ∷ known_from t (i + 1) ps) (as_unsent i q.holding (ap (λ (m : ℕ). is_sent_at m) (omega arith) ∙ un 0 (λ e. absurd (omega (arith, e)))))
      ∙ ap (λ (l : List Place). q ∷ l)
      (known_one (i + 1) j p ps at (λ l other. ap (λ (m : ℕ). is_sent_at m) (shift i l) ∙ un (suc l) (λ e. other (omega (arith, e)))))
      ∙ ap (λ (m : ℕ). q ∷ set_holding j (known_holding t m p.holding) (Some p) ps) (shift i j)

  pub sent_when : (n m : ℕ) → IsTold t (process.Send n) answer.Ok → is_sent_at m ≡ (n == m)
  sent_when n m is = ap (λ (a : Asked). is_sent a t.given m) is.0 ∙ ap (λ (g : Option Answer). is_sent (process.Send n) g m) is.1

  -- where one on an end that is held is answered Ok
  known_sent : (n : ℕ) (x : EndId) (k : Kept) (ps : List Place) → IsHeld n x k ps → IsTold t (process.Send n) answer.Ok → known_from t 1 ps ≡ with_holding n (Keeps (sent k)) ps
  known_sent zero x k ps there is = absurd (none_at (record { end = x; holding = Keeps k }) there)
  known_sent (suc j) x k ps there is =
      known_one 1 j place ps there (λ l other. sent_when (suc j) (1 + l) is ∙ apart (suc j == 1 + l) l other refl)
      ∙ ap (λ (g : Holding). set_holding j g (Some place) ps) (ap (λ (b : Bool). Keeps (if b then sent k else k)) (sent_when (suc j) (1 + j) is ∙ eq-eqb (suc j) (1 + j) (omega arith)))
      ∙ ap (λ (o : Option Place). set_holding j (Keeps (sent k)) o ps) (sym there)
    where
      place : Place
      place = record { end = x; holding = Keeps k }

      apart : (b : Bool) (l : ℕ) → (l ≡ j → ⊥) → (suc j == 1 + l) ≡ b → (suc j == 1 + l) ≡ false
      apart false l other e = e
      apart true l other e = let same : suc j ≡ 1 + l = eqb-true (suc j) (1 + l) e in absurd (other (omega (arith, same)))

  -- ---- no Send is answered Ok

  asked_other : (asked : Asked) → t.asked ≡ asked → ((n : ℕ) → is_sent asked t.given n ≡ false) → (n : ℕ) → is_sent_at n ≡ false
  asked_other asked e un n = ap (λ (a : Asked). is_sent a t.given n) e ∙ un n

  pub waited : t.asked ≡ process.Wait → (n : ℕ) → is_sent_at n ≡ false
  waited e = asked_other process.Wait e (λ n. refl)

  pub received : (m : ℕ) → t.asked ≡ process.Receive m → (n : ℕ) → is_sent_at n ≡ false
  received m e = asked_other (process.Receive m) e (λ n. refl)

  pub cancelled : (m : ℕ) → t.asked ≡ process.Cancel m → (n : ℕ) → is_sent_at n ≡ false
  cancelled m e = asked_other (process.Cancel m) e (λ n. refl)

  pub died : (m : ℕ) → IsDeath t m → (n : ℕ) → is_sent_at n ≡ false
  died m death n =
      ⊎_elim
      (λ (d : IsTold t (process.Send m) (answer.Refused Dead)). ap (λ (a : Asked). is_sent a t.given n) d.0 ∙ ap (λ (g : Option Answer). is_sent (process.Send m) g n) d.1)
      (λ (d : IsTold t (process.Receive m) (answer.Refused Dead)). received m d.0 n) death

  died_with : (m : ℕ) (x : EndId) (h : Happening) → IsDeathWith t m x h → (n : ℕ) → is_sent_at n ≡ false
  died_with m x h death n =
      ⊎_elim (λ (d : IsTold t (process.Cancel m) (answer.Refused Dead) × (h ≡ CancelLate)). cancelled m d.0.0 n)
      (λ (d : Kills t x h). waited d.told.0.0 n) death

-- ---- what is told

module _ (version : ℕ) (t : Turn) (b : Ledger) (single : AreSingle b.places) where
  abbrev ps : List Place
  ps = b.places

  abbrev Told : EndId → Holding → List Deed → Holding → Type 0
  Told y f ds g = ToldAt version t y (number_of y ps) f ds g

  untold_of : (y : EndId) (g : Holding) → ((k : Kept) → g ≡ Keeps k → IsUntold t y (number_of y ps)) → IsUntoldOf t y (number_of y ps) g
  untold_of y (Keeps k) so = so k refl
  untold_of y (Gone own) so = tt

  -- the number of the end of which something is told
  abbrev about : Asked → Option Answer → ℕ
  about (process.Send n) given = n
  about (process.Receive n) given = n
  about (process.Cancel n) given = n
  about process.Wait (Some (answer.Reported r)) = number_of r.on ps
  about asked given = 0

  is_about : (asked : Asked) (a : Answer) → IsTold t asked a → about t.asked t.given ≡ about asked (Some a)
  is_about asked a is = ap (λ (b : Asked). about b t.given) is.0 ∙ ap (λ (g : Option Answer). about asked g) is.1

  reported_about : (r : Report) (y : EndId) → IsReport t r y → about t.asked t.given ≡ number_of y ps
  reported_about r y is = is_about process.Wait (answer.Reported r) is.0 ∙ ap (λ (z : EndId). number_of z ps) is.1

  -- with this told, an end is in no more places where none of what was told puts it into more
  told_held : (y : EndId) (n : ℕ) (f : Holding) (ds : List Deed) (g : Holding) → ToldAt version t y n f ds g → held_count g ≤ held_count f
  told_held y n f ds g (told.Otherwise h un) = omega arith
  told_held y n f ds g (told.Answers k h is) = omega arith
  told_held y n f ds g (told.Hears k room bytes packet xs brings spelled readable) = omega arith
  told_held y n f ds g (told.Ignores k bytes left xs brings e) = omega arith
  told_held y n f ds g (told.Breaks k own bytes xs brings) = omega arith
  told_held y n f ds g (told.Dies k death) = omega arith
  told_held y n f ds g (told.DiesWith k h death) = omega arith

  abbrev now : Ledger
  now = known_ledger t b

  -- where it is to be destroyed no more often than before, it is enough to count where it is carried
  is_told : (c : Ledger) → c.doomed ≡ b.doomed → AreSingle c.places → (ds : List DeedOn) (y : EndId) → Told y (holding_at y ps) (deeds_at y ds) (holding_at y c.places) → (seen y c).out ≤ (seen y now).out →
      IsToldAt version t y b ds c
  is_told c dooms singly ds y one less =
      let held : held_count (holding_at y c.places) ≤ held_count (holding_at y ps) = told_held y (number_of y ps) (holding_at y ps) (deeds_at y ds) (holding_at y c.places) one in
      let was : held_count (holding_at y now.places) ≡ held_count (holding_at y ps) = held_known t y ps in
      let doomed : how_often y c.doomed ≡ how_often y b.doomed = ap (how_often y) dooms in
      record { told = one; out = less; all = omega (arith, held, was, doomed, less); single = singly }

  -- where no Send is answered Ok, the ledger counts as it is
  counts_as_is : (un : (n : ℕ) → is_sent t.asked t.given n ≡ false) → (y : EndId) → in_places y now.places ≡ in_places y ps
  counts_as_is un y = ap (in_places y) (unsent_places t un ps)

  -- something is told of x, which is held
  module _ (n : ℕ) (x : EndId) (k : Kept) (there : IsHeld n x k ps) (of_it : about t.asked t.given ≡ n) where
    abbrev place : Place
    place = record { end = x; holding = Keeps k }

    its : n ≡ number_of x ps
    its = single n x k there

    apart : (y : EndId) → end_eq x y ≡ false → Told y (holding_at y ps) [] (holding_at y ps)
    apart y e = told.Otherwise (holding_at y ps) (untold_of y (holding_at y ps) (λ j keeps. untold))
      where
        clash : about t.asked t.given ≡ number_of y ps → ⊥
        clash of_y = differ n place ps there its y e (sym of_it ∙ of_y)

        untold : IsUntold t y (number_of y ps)
        untold = record { unsent = λ is. clash (is_about (process.Send (number_of y ps)) answer.Ok is); unheard = λ bytes xs b. clash (reported_about b.report y b.told) }

    -- the places are so afterwards
    comes_so : (g : Holding) (qs : List Place) → holding_at x qs ≡ g → ((y : EndId) → end_eq x y ≡ false → holding_at y qs ≡ holding_at y ps) → (ds : List Deed) → Told x (Keeps k) ds g →
        (y : EndId) → Told y (holding_at y ps) (deeds_at y (deeds_on x ds)) (holding_at y qs)
    comes_so g qs here others ds one =
        by_end (λ (y : EndId) (es : List Deed). Told y (holding_at y ps) es (holding_at y qs)) x ds
        (subst (λ (h : Holding). Told x (holding_at x ps) ds h) (sym here) (subst (λ (f : Holding). Told x f ds g) (sym (here_was n place ps there its)) one))
        (λ y e. subst (λ (h : Holding). Told y (holding_at y ps) [] h) (sym (others y e)) (apart y e))

    comes_to : (g : Holding) (hand : List EndId) (ds : List Deed) → Told x (Keeps k) ds g →
        ((y : EndId) → in_places y (with_holding n g ps) + how_often y hand ≤ in_places y now.places + how_often y b.hand) → (y : EndId) →
        IsToldAt version t y b (deeds_on x ds) (record { places = with_holding n g ps; doomed = b.doomed; hand = hand })
    comes_to g hand ds one less y =
        is_told (record { places = with_holding n g ps; doomed = b.doomed; hand = hand }) refl (single_so n place ps there its g single) (deeds_on x ds) y
        (comes_so g (with_holding n g ps) (here_so n place ps there its g) (others_so n place ps there its g) ds one y) (less y)

    -- no Send is answered Ok, and what is kept then and what is in the hand is no more than before
    comes_unsent : ((m : ℕ) → is_sent t.asked t.given m ≡ false) → (g : Holding) (hand : List EndId) (ds : List Deed) → Told x (Keeps k) ds g →
        ((y : EndId) → of_holding y g + how_often y hand ≤ how_often y (carried k) + how_often y b.hand) → (y : EndId) →
        IsToldAt version t y b (deeds_on x ds) (record { places = with_holding n g ps; doomed = b.doomed; hand = hand })
    comes_unsent un g hand ds one less = comes_to g hand ds one (λ y.
        let places : in_places y (with_holding n g ps) + how_often y (carried k) ≡ in_places y ps + of_holding y g = with_load y n place g ps there in
        let same : in_places y now.places ≡ in_places y ps = counts_as_is un y in
        let few : of_holding y g + how_often y hand ≤ how_often y (carried k) + how_often y b.hand = less y in
        omega (arith, places, same, few))

    -- what was carried is carried
    quietly : (l : Kept) → carried l ≡ carried k → (y : EndId) → how_often y (carried l) + how_often y b.hand ≤ how_often y (carried k) + how_often y b.hand
    quietly l e y = let same : how_often y (carried l) ≡ how_often y (carried k) = ap (how_often y) e in omega (arith, same)

    -- a message breaks it
    breaks_so : (bytes : List ℕ) (xs : List EndId) (brings : tells.Brings t x bytes xs) → (y : EndId) →
        IsToldAt version t y b []
        (record { places = with_holding n (Gone (returns k.sending)) (with_holding n (Keeps (receive_over k)) ps); doomed = b.doomed ++ x ∷ []; hand = given_back (receive_over k) ++ b.hand })
    breaks_so bytes xs brings y = record { told = told_so y; out = out y; all = all y; single = single_so n later between after_there its_now (Gone own) (single_so n place ps there its (Keeps (receive_over k)) single) }
      where
        own : Bool
        own = returns k.sending

        between : List Place
        between = with_holding n (Keeps (receive_over k)) ps

        later : Place
        later = record { end = x; holding = Keeps (receive_over k) }

        qs : List Place
        qs = with_holding n (Gone own) between

        c : Ledger
        c = record { places = qs; doomed = b.doomed ++ x ∷ []; hand = given_back (receive_over k) ++ b.hand }

        after_there : place_at n between ≡ Some later
        after_there = kept_at n place (Keeps (receive_over k)) ps there

        its_now : n ≡ number_of x between
        its_now = its ∙ sym (number_with x n (Keeps (receive_over k)) ps)

        here : holding_at x qs ≡ Gone own
        here = here_so n later between after_there its_now (Gone own)

        told_so : (z : EndId) → Told z (holding_at z ps) (deeds_at z (deeds_on x [])) (holding_at z qs)
        told_so = comes_so (Gone own) qs here (λ z e. others_so n later between after_there its_now (Gone own) z e ∙ others_so n place ps there its (Keeps (receive_over k)) z e) [] (told.Breaks k own bytes xs brings)

        out : (z : EndId) → (seen z c).out ≤ (seen z now).out
        out z =
            let first : in_places z between + how_often z (carried k) ≡ in_places z ps + how_often z (carried (receive_over k)) = with_load z n place (Keeps (receive_over k)) ps there in
            let second : in_places z qs + how_often z (carried (receive_over k)) ≡ in_places z between + 0 = with_load z n later (Gone own) between after_there in
            let gives : how_often z (given_back (receive_over k)) ≤ how_often z (carried (receive_over k)) = back_given z (receive_over k) in
            let kept : how_often z (carried (receive_over k)) ≡ how_often z (carried k) = refl in
            let hand : how_often z (given_back (receive_over k) ++ b.hand) ≡ how_often z (given_back (receive_over k)) + how_often z b.hand = both z (given_back (receive_over k)) b.hand in
            let same : in_places z now.places ≡ in_places z ps = counts_as_is (waited t brings.told.0.0) z in
            omega (arith, first, second, gives, kept, hand, same)

        all : (z : EndId) → total (seen z c) ≤ total (seen z now)
        all z = by_same (end_eq x z) refl
          where
            less : (seen z c).out ≤ (seen z now).out
            less = out z

            held : held_count (holding_at z now.places) ≡ held_count (holding_at z ps)
            held = held_known t z ps

            dooms : how_often z c.doomed ≡ how_often z b.doomed + once x z
            dooms = doomed_too x z b.doomed

            by_same : (s : Bool) → end_eq x z ≡ s → total (seen z c) ≤ total (seen z now)
            by_same true e =
                let same : x ≡ z = same_end x z e in
                let was : held_count (holding_at z ps) ≡ 1 = ap held_count (ap (λ (w : EndId). holding_at w ps) (sym same) ∙ here_was n place ps there its) in
                let is : held_count (holding_at z qs) ≡ 0 = ap held_count (ap (λ (w : EndId). holding_at w qs) (sym same) ∙ here) in
                let one : once x z ≡ 1 = ap (λ (s : Bool). if s then 1 else 0) e in
                omega (arith, less, held, dooms, was, is, one)
            by_same false e =
                let fewer : held_count (holding_at z qs) ≤ held_count (holding_at z ps) = told_held z (number_of z ps) (holding_at z ps) (deeds_at z (deeds_on x [])) (holding_at z qs) (told_so z) in
                let none : once x z ≡ 0 = once_other x z e in
                omega (arith, less, held, dooms, fewer, none)

  -- nothing is told of an end that is held
  not_unheld : (n : ℕ) (k : Kept) (o : Option Place) → holding_of o ≡ Keeps k → held_of n o ≡ None → ⊥
  not_unheld n k None keeps none = let no : Gone false ≡ Keeps k = keeps in cc
  not_unheld n k (Some p) keeps none = by_holding p.holding keeps none
    where
      by_holding : (g : Holding) → g ≡ Keeps k → held_in n p.end g ≡ None → ⊥
      by_holding (Keeps j) e no_held = let no : ◌≡◌ {A = Option Held} (Some (record { number = n; end = p.end; kept = j })) None = no_held in cc
      by_holding (Gone own) e no_held = let no : Gone own ≡ Keeps k = e in cc

  silent_as : (asked : Asked) (given : Option Answer) → t.asked ≡ asked → t.given ≡ given → IsSilent t.asked t.given ps → IsSilent asked given ps
  silent_as asked given one two silent = subst (λ (g : Option Answer). IsSilent asked g ps) two (subst (λ (a : Asked). IsSilent a t.given ps) one silent)

  silent_untold : IsSilent t.asked t.given ps → (y : EndId) (k : Kept) → holding_at y ps ≡ Keeps k → IsUntold t y (number_of y ps)
  silent_untold silent y k keeps = record {
    unsent = λ is. not_unheld (number_of y ps) k (place_at (number_of y ps) ps) keeps (silent_as (process.Send (number_of y ps)) (Some answer.Ok) is.0 is.1 silent);
    unheard = λ bytes xs b.
        not_unheld (number_of y ps) k (place_at (number_of y ps) ps) keeps
        (subst (λ (z : EndId). IsUnheld (number_of z ps) ps) b.told.1 (silent_as process.Wait (Some (answer.Reported b.report)) b.told.0.0 b.told.0.1 silent));
  }

  answer_about : (n : ℕ) (x : EndId) (h : Happening) → number_of x ps ≡ n → IsAnswer t n x h → about t.asked t.given ≡ n
  answer_about n x happenings.Sends same is = is_about (process.Send n) answer.Ok is
  answer_about n x SendOver same is = reported_about is.report x is.told ∙ same
  answer_about n x Receives same is = is_about (process.Receive n) answer.Ok is
  answer_about n x ReceiveOver same is = is_about (process.Cancel n) answer.Ok is
  answer_about n x CancelLate same is = is_about (process.Cancel n) (answer.Refused Late) is
  answer_about n x (happenings.Connects c) same is = absurd is
  answer_about n x (happenings.Accepts a) same is = absurd is
  answer_about n x (happenings.Binds b) same is = absurd is
  answer_about n x (happenings.Unbinds entry) same is = absurd is
  answer_about n x (happenings.Replies r) same is = absurd is
  answer_about n x (happenings.Hears room packet xs) same is = absurd is
  answer_about n x (happenings.Settles room) same is = absurd is
  answer_about n x happenings.Dies same is = absurd is

  death_about : (n : ℕ) → IsDeath t n → about t.asked t.given ≡ n
  death_about n death =
      ⊎_elim (λ (d : IsTold t (process.Send n) (answer.Refused Dead)). is_about (process.Send n) (answer.Refused Dead) d)
      (λ (d : IsTold t (process.Receive n) (answer.Refused Dead)). is_about (process.Receive n) (answer.Refused Dead) d) death

  death_with_about : (n : ℕ) (x : EndId) (h : Happening) → number_of x ps ≡ n → IsDeathWith t n x h → about t.asked t.given ≡ n
  death_with_about n x h same death =
      ⊎_elim (λ (d : IsTold t (process.Cancel n) (answer.Refused Dead) × (h ≡ CancelLate)). is_about (process.Cancel n) (answer.Refused Dead) d.0)
      (λ (d : Kills t x h). reported_about d.report x d.told ∙ same) death

  -- ---- all that is told

  -- a Send on an end that is not held
  sent_unheld : (asked : Asked) (given : Option Answer) (n : ℕ) → is_sent asked given n ≡ true → IsSilent asked given ps → IsUnheld n ps
  sent_unheld (process.Send m) (Some answer.Ok) n e silent = subst (λ (i : ℕ). IsUnheld i ps) (eqb-true m n e) silent
  sent_unheld asked given n e silent = let no : false ≡ true = e in absurd cc

  silent_at : IsSilent t.asked t.given ps → (y : EndId) → IsToldAt version t y b [] b
  silent_at silent y =
      let same : in_places y now.places ≡ in_places y ps = ap (in_places y) (known_as t 1 ps unsent) in
      is_told b refl single [] y (told.Otherwise (holding_at y ps) (untold_of y (holding_at y ps) (λ k keeps. silent_untold silent y k keeps))) (omega (arith, same))
    where
      by_sent : (n : ℕ) (g : Holding) (s : Bool) → holding_of (place_at n ps) ≡ g → is_sent t.asked t.given n ≡ s → known_holding t n g ≡ g
      by_sent n g false is e = as_unsent t n g e
      by_sent n (Gone own) true is e = refl
      by_sent n (Keeps k) true is e =
          absurd (not_unheld n k (place_at n ps) is (sent_unheld t.asked t.given n e silent))

      unsent : (j : ℕ) → known_holding t (1 + j) (holding_of (slice_get ps j)) ≡ holding_of (slice_get ps j)
      unsent j =
          ap (λ (m : ℕ). known_holding t m (holding_of (slice_get ps j))) (omega arith) ∙ by_sent (suc j) (holding_of (slice_get ps j)) (is_sent t.asked t.given (suc j)) refl refl

  -- an answer or a report without a message
  abbrev Answered : ℕ → Kept → Happening → Type 0
  Answered n k h = (y : EndId) → IsToldAt version t y b [] (record b { places = with_holding n (Keeps (after version h k)) ps })

  answers_at : (n : ℕ) (x : EndId) (k : Kept) (h : Happening) → IsHeld n x k ps → IsAnswer t n x h → Answered n k h
  answers_at n x k h there is = by_answer h is (told.Answers k h (subst (λ (m : ℕ). IsAnswer t m x h) (single n x k there) is)) (answer_about n x h (sym (single n x k there)) is)
    where
      by_answer : (h : Happening) → IsAnswer t n x h → Told x (Keeps k) [] (Keeps (after version h k)) → about t.asked t.given ≡ n → Answered n k h
      by_answer happenings.Sends is one of_it =
          comes_to n x k there of_it (Keeps (sent k)) b.hand [] one
          (λ y. let same : in_places y now.places ≡ in_places y (with_holding n (Keeps (sent k)) ps) = ap (in_places y) (known_sent t n x k ps there is) in omega (arith, same))
      by_answer SendOver is one of_it = comes_unsent n x k there of_it (waited t is.told.0.0) (Keeps (after version SendOver k)) b.hand [] one (quietly n x k there of_it (after version SendOver k) refl)
      by_answer Receives is one of_it = comes_unsent n x k there of_it (received t n is.0) (Keeps (after version Receives k)) b.hand [] one (quietly n x k there of_it (after version Receives k) refl)
      by_answer ReceiveOver is one of_it = comes_unsent n x k there of_it (cancelled t n is.0) (Keeps (after version ReceiveOver k)) b.hand [] one (quietly n x k there of_it (after version ReceiveOver k) refl)
      by_answer CancelLate is one of_it = comes_unsent n x k there of_it (cancelled t n is.0) (Keeps (after version CancelLate k)) b.hand [] one (quietly n x k there of_it (after version CancelLate k) refl)
      by_answer (happenings.Connects c) is one of_it = absurd is
      by_answer (happenings.Accepts a) is one of_it = absurd is
      by_answer (happenings.Binds c) is one of_it = absurd is
      by_answer (happenings.Unbinds entry) is one of_it = absurd is
      by_answer (happenings.Replies r) is one of_it = absurd is
      by_answer (happenings.Hears room packet xs) is one of_it = absurd is
      by_answer (happenings.Settles room) is one of_it = absurd is
      by_answer happenings.Dies is one of_it = absurd is

  -- the link is dead, and this was kept just before
  deaths_at : (n : ℕ) (x : EndId) (k l : Kept) → IsHeld n x k ps → about t.asked t.given ≡ n → ((m : ℕ) → is_sent t.asked t.given m ≡ false) → Told x (Keeps k) [] (Keeps (dies l)) →
      ((y : EndId) → how_often y (carried l) ≡ how_often y (carried k)) → (y : EndId) →
      IsToldAt version t y b [] (record b { places = with_holding n (Keeps (dies l)) ps; hand = given_back l ++ b.hand })
  deaths_at n x k l there of_it un one same = comes_unsent n x k there of_it un (Keeps (dies l)) (given_back l ++ b.hand) [] one (λ y.
      let few : how_often y (carried (dies l)) + how_often y (given_back l) ≤ how_often y (carried l) = dies_load y l in
      let hand : how_often y (given_back l ++ b.hand) ≡ how_often y (given_back l) + how_often y b.hand = both y (given_back l) b.hand in
      let as_was : how_often y (carried l) ≡ how_often y (carried k) = same y in
      omega (arith, few, hand, as_was))

  over_load : (n : ℕ) (x : EndId) (k : Kept) (h : Happening) → IsDeathWith t n x h → (y : EndId) → how_often y (carried (after version h k)) ≡ how_often y (carried k)
  over_load n x k h death y =
      ⊎_elim (λ (d : IsTold t (process.Cancel n) (answer.Refused Dead) × (h ≡ CancelLate)). so CancelLate d.1 refl)
      (λ (d : Kills t x h). ⊎_elim (λ (r : (d.report.way ≡ Inward) × (h ≡ ReceiveOver)). so ReceiveOver r.1 refl) (λ (r : (d.report.way ≡ Outward) × (h ≡ SendOver)). so SendOver r.1 refl) d.over) death
    where
      so : (i : Happening) → h ≡ i → how_often y (carried (after version i k)) ≡ how_often y (carried k) → how_often y (carried (after version h k)) ≡ how_often y (carried k)
      so i e same = ap (λ (j : Happening). how_often y (carried (after version j k))) e ∙ same

  pub all_told : (ds : List DeedOn) (c : Ledger) → Telling version t b ds c → (y : EndId) → IsToldAt version t y b ds c
  all_told ds c (tells.Silent l silent) = silent_at silent
  all_told ds c (tells.Answers n x k h l there is) = answers_at n x k h there is
  all_told ds c (tells.Hears n x k room bytes packet xs l there brings spelled hand readable) =
      let y : Kept × Heard = hears version room packet xs (receive_over k) in
      comes_unsent n x k there (reported_about brings.report x brings.told ∙ sym (single n x k there)) (waited t brings.told.0.0) (Keeps y.0) (came_with y.1) (heard_deeds y.1)
      (told.Hears k room bytes packet xs brings spelled readable) (λ z.
      let few : how_often z (carried (hears version room packet xs (receive_over k)).0) + how_often z (came_with (hears version room packet xs (receive_over k)).1) ≤ how_often z (carried (receive_over k)) + how_often z xs = hears_load z version room packet xs (receive_over k) in
      let kept : how_often z (carried (receive_over k)) ≡ how_often z (carried k) = refl in
      let came : how_often z b.hand ≡ how_often z xs = ap (how_often z) hand in
      omega (arith, few, kept, came))
  all_told ds c (tells.Ignores n x k bytes left xs l there brings e) =
      comes_unsent n x k there (reported_about brings.report x brings.told ∙ sym (single n x k there)) (waited t brings.told.0.0) (Keeps (receive_over k)) b.hand []
      (told.Ignores k bytes left xs brings e) (quietly n x k there (reported_about brings.report x brings.told ∙ sym (single n x k there)) (receive_over k) refl)
  all_told ds c (tells.Breaks n x k bytes xs l there brings) = breaks_so n x k there (reported_about brings.report x brings.told ∙ sym (single n x k there)) bytes xs brings
  all_told ds c (tells.Dies n x k l there death) =
      deaths_at n x k k there (death_about n death) (died t n death) (told.Dies k (subst (λ (m : ℕ). IsDeath t m) (single n x k there) death)) (λ y. refl)
  all_told ds c (tells.DiesWith n x k h l there death) =
      deaths_at n x k (after version h k) there (death_with_about n x h (sym (single n x k there)) death) (died_with t n x h death)
      (told.DiesWith k h (subst (λ (m : ℕ). IsDeathWith t m x h) (single n x k there) death)) (over_load n x k h death)

pub told_at : (version : ℕ) (t : Turn) (x : EndId) (b : Ledger) (ds : List DeedOn) (c : Ledger) → Telling version t b ds c → AreSingle b.places → IsToldAt version t x b ds c
told_at version t x b ds c telling single = all_told version t b single ds c telling x
