-- What the row of any packet does, also where a value comes in it twice: what it adds, and whose Cancels wait afterwards.
use Rattle.std.proofs.Common.{◌≡◌, ℕ, Bool, true, false, List, [], ◌∷◌, ◌++◌, Option, Some, None, refl, sym, ap, subst, ◌∙◌, append-nil, if◌then◌else◌}
use Rattle.std.specs.List.{list_any}
use Rattle.charlotte_calls.specs.declared.names.EndId.{EndId}
use Rattle.charlotte_packets.specs.declared.picture.MovingPicture.{MovingPicture}
use Rattle.charlotte_packets.specs.declared.picture.PictureWhat.{PictureWhat}
use Rattle.charlotte_packets.specs.declared.picture.PictureWhat.TheVariants as packet
use Rattle.end_table.proofs.EndEq.{end_eq-same, put-at, put-other}
use Rattle.end_table.specs.Entries.{ended_entry, left_entry}
use Rattle.end_table.specs.Place.{end_eq, put}
use Rattle.end_table.specs.Table.{IsHere}
use Rattle.end_table.specs.declared.entry.Entry.{Entry}
use Rattle.end_table.specs.declared.entry.Entry.TheVariants as entry
use Rattle.end_table.specs.declared.entry.HereView.{HereView}
use Rattle.kernel_effects.proofs.Ends.{stands-end}
use Rattle.kernel_effects.proofs.Retiring.{returns-does}
use Rattle.kernel_effects.proofs.Rows.{receives-does}
use Rattle.kernel_effects.specs.Effect.{Does, Effect}
use Rattle.kernel_effects.specs.Rows.{back_effect, back_steps, parcel_effect, row_effect}
use Rattle.kernel_outcomes.proofs.Events.{row-does}
use Rattle.kernel_outcomes.proofs.Sound.{AreDifferent-coming, stands-sound}
use Rattle.kernel_sound.proofs.Parcels.{awaits-here}
use Rattle.kernel_sound.proofs.Values.{AreComing-arriving, AreGone, AreGone-passing, AreGone-put, apart-AreComing}
use Rattle.kernel_sound.specs.Sound.{IsSound}
use Rattle.kernel_step.specs.Actions.{ends_idle, leaves, tells_gone}
use Rattle.kernel_step.specs.Progress.{Progress, keeps, means, sends}
use Rattle.kernel_step.specs.Rows.{arriving, asks, awaits, back_row, end_arrivals, ends_in, is_here, means_back, parcel_row, pass_each, passing, row, sends_back}
use Rattle.told_answers.proofs.Cancellers.{brings-same, canceller, canceller-away, canceller-ended, canceller-left}

-- the event came from one progress to another with what this effect adds, and the same Cancels wait as after it
pub record DoesAlike (f : Effect) (old new : Progress) : Type 0 where
  pub reports : new.reports ≡ old.reports ++ f.reports
  pub answers : new.answers ≡ old.answers ++ f.answers
  pub steps : new.steps ≡ old.steps ++ f.steps
  pub cancellers : (q : EndId) → canceller (new.table q) ≡ canceller (f.entry q (old.table q))

does-alike : (f : Effect) (old new : Progress) → Does f old new → DoesAlike f old new
does-alike f old new does = record { reports = does.reports; answers = does.answers; steps = does.steps; cancellers = λ q. ap canceller (does.table q) }

-- nothing is added but packets, and the same Cancels wait
record OnlyMoves (old new : Progress) : Type 0 where
  reports : new.reports ≡ old.reports
  answers : new.answers ≡ old.answers
  steps : new.steps ≡ old.steps
  cancellers : (q : EndId) → canceller (new.table q) ≡ canceller (old.table q)

moves-then : (a b c : Progress) → OnlyMoves a b → OnlyMoves b c → OnlyMoves a c
moves-then a b c first second =
    record {
      reports = second.reports ∙ first.reports;
      answers = second.answers ∙ first.answers;
      steps = second.steps ∙ first.steps;
      cancellers = λ q. second.cancellers q ∙ first.cancellers q;
    }

moves-same : (d : Progress) → OnlyMoves d d
moves-same d = record { reports = refl; answers = refl; steps = refl; cancellers = λ q. refl }

-- an end that was not here gets an entry at which no Cancel waits
put-same : (t : EndId → Entry) (e : EndId) (x : Entry) (q : EndId) → canceller x ≡ None → (IsHere (t e) → ⊥) → canceller (put t e x q) ≡ canceller (t q)
put-same t e x q none away = by (end_eq e q) refl
  where
    by : (b : Bool) → end_eq e q ≡ b → canceller (put t e x q) ≡ canceller (t q)
    by true same =
        let is : e ≡ q = end_eq-same e q same in
        subst (λ z. canceller (put t e x z) ≡ canceller (t z)) is (ap canceller (put-at t e x) ∙ none ∙ sym (canceller-away (t e) away))
    by false apart = ap canceller (put-other t e x q apart)

keeps-moves : (e : EndId) (x : Entry) (d : Progress) → canceller x ≡ None → (IsHere (d.table e) → ⊥) → OnlyMoves d (keeps e x d)
unfolding keeps
keeps-moves e x d none away = record { reports = refl; answers = refl; steps = refl; cancellers = λ q. put-same d.table e x q none away }

away-left : (to : ℕ) (m : MovingPicture) → IsHere (left_entry to m) → ⊥
away-left to m = by m.dead
  where
    by : (b : Bool) → IsHere (if b then entry.Nothing else left_entry to (record m { dead = false })) → ⊥
    by true here = here
    by false here = here

away-ended : (m : MovingPicture) → IsHere (ended_entry m) → ⊥
away-ended m = by m.dead
  where
    by : (b : Bool) → IsHere (if b then entry.Nothing else entry.Destroyed m) → ⊥
    by true here = here
    by false here = here

tells_gone-moves : (k : ℕ) (m : MovingPicture) (d : Progress) → OnlyMoves d (tells_gone k m d)
unfolding tells_gone sends
tells_gone-moves k m d = by m.dead
  where
    by : (b : Bool) → OnlyMoves d (if b then d else tells_gone k (record m { dead = false }) d)
    by true = moves-same d
    by false = record { reports = refl; answers = refl; steps = refl; cancellers = λ q. refl }

tells_gone-table : (k : ℕ) (m : MovingPicture) (d : Progress) → (tells_gone k m d).table ≡ d.table
unfolding tells_gone sends
tells_gone-table k m d = by m.dead
  where
    by : (b : Bool) → (if b then d else tells_gone k (record m { dead = false }) d).table ≡ d.table
    by true = refl
    by false = refl

pass_each-moves : (at : ℕ) (ms : List MovingPicture) (d : Progress) → AreGone d.table ms → OnlyMoves d (pass_each at ms d)
unfolding pass_each keeps
pass_each-moves at [] d gone = moves-same d
pass_each-moves at (m ∷ ms) d gone =
    moves-then d (leaves at m d) (pass_each at ms (leaves at m d)) (keeps-moves m.end (left_entry at m) d (canceller-left at m) gone.0)
    (pass_each-moves at ms (leaves at m d) (AreGone-put d.table m.end (left_entry at m) ms (away-left at m) gone.1))

end_arrivals-moves : (k : ℕ) (ms : List MovingPicture) (d : Progress) → AreGone d.table ms → OnlyMoves d (end_arrivals k ms d)
unfolding end_arrivals ends_idle keeps
end_arrivals-moves k [] d gone = moves-same d
end_arrivals-moves k (m ∷ ms) d gone =
    let kept : Progress = keeps m.end (ended_entry m) d in
    let ended : Progress = tells_gone k m kept in
    moves-then d ended (end_arrivals k ms ended)
    (moves-then d kept ended (keeps-moves m.end (ended_entry m) d (canceller-ended m) gone.0) (tells_gone-moves k m kept))
    (end_arrivals-moves k ms ended (subst (λ t. AreGone t ms) (sym (tells_gone-table k m kept)) (AreGone-put d.table m.end (ended_entry m) ms (away-ended m) gone.1)))

sends_back-moves : (k : ℕ) (to : EndId) (m at : ℕ) (ms : List MovingPicture) (d : Progress) → AreGone d.table ms → OnlyMoves d (sends_back k to m at ms d)
unfolding sends_back sends
sends_back-moves k to m at ms d gone = let moves = pass_each-moves at ms d gone in record { reports = moves.reports; answers = moves.answers; steps = moves.steps; cancellers = moves.cancellers }

-- a back that meets no send may mean a step
means_back-adds : (to : EndId) (m : ℕ) (b : Bool) (ms : List MovingPicture) (d : Progress) → ((means_back to m b ms d).table ≡ d.table) × ((means_back to m b ms d).reports ≡ d.reports)
    × ((means_back to m b ms d).answers ≡ d.answers) × ((means_back to m b ms d).steps ≡ d.steps ++ back_steps to m b ms)
unfolding means
means_back-adds to m true [] d = (refl, refl, refl, sym (append-nil d.steps))
means_back-adds to m true (z ∷ ms) d = (refl, refl, refl, refl)
means_back-adds to m false ms d = (refl, refl, refl, refl)

module _ (k made n : ℕ) (d : Progress) (sound : IsSound k made n d.table) where
  parcel-alike : (to : EndId) (m at hops : ℕ) (bytes : List ℕ) (ms : List MovingPicture) (o : Option HereView) → DoesAlike (parcel_effect k made d.table to m at hops bytes ms o) d (parcel_row k made to m at hops bytes ms o d)
  parcel-alike to m at hops bytes ms None =
      let passed = passing k made d.table ms in
      let gone = AreGone-passing k made d.table ms in
      let moves = sends_back-moves k to m at passed d gone in
      record {
        reports = moves.reports ∙ sym (append-nil d.reports);
        answers = moves.answers ∙ sym (append-nil d.answers);
        steps = moves.steps ∙ sym (append-nil d.steps);
        cancellers = λ q. moves.cancellers q ∙ sym (brings-same d.table passed (left_entry at) q gone (canceller-left at));
      }
  parcel-alike to m at hops bytes ms (Some v) =
      let came = arriving k made v.holder d.table ms in
      does-alike _ _ _ (receives-does k m at hops bytes came v d (AreDifferent-coming k made d.table came (AreComing-arriving k made v.holder d.table ms)))

  back-alike : (from : ℕ) (to : EndId) (m : ℕ) (ms : List MovingPicture) (o : Option HereView) → ((v : HereView) → o ≡ Some v → d.table to ≡ entry.Here v)
      → DoesAlike (back_effect k made d.table from to m ms o) d (back_row k made from to m ms o d)
  back-alike from to m ms None there =
      let passed = passing k made d.table ms in
      let gone = AreGone-passing k made d.table ms in
      let meant = means_back-adds to m (is_here (d.table to)) passed d in
      let moves = end_arrivals-moves k passed (means_back to m (is_here (d.table to)) passed d) (subst (λ t. AreGone t passed) (sym meant.0) gone) in
      record {
        reports = moves.reports ∙ meant.1 ∙ sym (append-nil d.reports);
        answers = moves.answers ∙ meant.2 ∙ sym (append-nil d.answers);
        steps = moves.steps ∙ meant.3;
        cancellers = λ q. moves.cancellers q ∙ ap (λ t. canceller (t q)) meant.0 ∙ sym (brings-same d.table passed ended_entry q gone canceller-ended);
      }
  back-alike from to m ms (Some v) there =
      let came = arriving k made v.holder d.table ms in
      let come = AreComing-arriving k made v.holder d.table ms in
      let here = there v refl in
      let end = stands-end d.table to v (stands-sound k made n d.table sound to v here) in
      let apart : list_any (end_eq to) (ends_in came) ≡ false = apart-AreComing k made d.table to came (subst IsHere (sym here) tt) come in
      does-alike _ _ _ (returns-does k from to m came v d (AreDifferent-coming k made d.table came come) (subst (λ z. list_any (end_eq z) (ends_in came) ≡ false) (sym end) apart) sound.own)

  -- each packet
  pub row-alike : (from : ℕ) (what : PictureWhat) → DoesAlike (row_effect k made from d.table what) d (row k made from what d)
  row-alike from (packet.Want to w at hops) = does-alike _ _ _ (row-does k made n d sound from (packet.Want to w at hops) tt)
  row-alike from (packet.Unwant to w at hops) = does-alike _ _ _ (row-does k made n d sound from (packet.Unwant to w at hops) tt)
  row-alike from (packet.Unwanted to w at hops) = does-alike _ _ _ (row-does k made n d sound from (packet.Unwanted to w at hops) tt)
  row-alike from (packet.Parcel to m w at hops bytes ms) = parcel-alike to m at hops bytes ms (asks w (d.table to))
  row-alike from (packet.Taken to m at hops) = does-alike _ _ _ (row-does k made n d sound from (packet.Taken to m at hops) tt)
  row-alike from (packet.Back to m ms) = back-alike from to m ms (awaits m (d.table to)) (λ v is. (awaits-here m (d.table to) v is).0)
  row-alike from (packet.Gone to at) = does-alike _ _ _ (row-does k made n d sound from (packet.Gone to at) tt)
  row-alike from (packet.Moved to at hops) = does-alike _ _ _ (row-does k made n d sound from (packet.Moved to at hops) tt)
  row-alike from (packet.Known to hops) = does-alike _ _ _ (row-does k made n d sound from (packet.Known to hops) tt)
  row-alike from (packet.Forget to hops) = does-alike _ _ _ (row-does k made n d sound from (packet.Forget to hops) tt)
  row-alike from (packet.GoneSeen to) = does-alike _ _ _ (row-does k made n d sound from (packet.GoneSeen to) tt)
