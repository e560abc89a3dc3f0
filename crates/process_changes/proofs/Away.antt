-- At an end that a process neither holds, nor carries, nor has in hand it does nothing, and is told nothing of it.
use Rattle.std.proofs.Common.{arith, ◌≡◌, ◌≤◌, ℕ, ◌+◌, Bool, List, [], ◌++◌, refl, sym, ap, ◌∙◌}
use Rattle.charlotte_calls.specs.declared.names.EndId.{EndId}
use Rattle.end_protocol.specs.declared.kept.Kept.{Kept}
use Rattle.end_protocol.specs.Deeds.{Deed}
use Rattle.process_run.specs.States.{Gone, Holding, Keeps}
use Rattle.process_changes.specs.AtEnd.{ChangeAt, ChangesAt, Destroys, Does, Elsewhere, Holds, LetsGo, None as NoChange, Seen, Settles, Then, ToldAt}
use Rattle.process_changes.specs.AtEnd as told
use Rattle.process_changes.specs.Telling.{Turn}

-- it is away
pub record IsAway (own : Bool) (a : Seen) : Type 0 where
  pub holding : a.holding ≡ Gone own
  pub out : a.out ≡ 0

-- it stays so, without deeds, and is to be destroyed no more often than before
pub record StaysAway (own : Bool) (a : Seen) (ds : List Deed) (b : Seen) : Type 0 where
  pub away : IsAway own b
  pub deeds : ds ≡ []
  pub doomed : b.doomed ≤ a.doomed

not_kept : (own : Bool) (g : Holding) (k : Kept) → g ≡ Gone own → g ≡ Keeps k → ⊥
not_kept own g k gone keeps = let no : Gone own ≡ Keeps k = sym gone ∙ keeps in cc

module _ (version : ℕ) (own : Bool) where
  one_away : (a : Seen) (ds : List Deed) (b : Seen) → ChangeAt version a ds b → IsAway own a → StaysAway own a ds b
  one_away a ds b (Elsewhere f g same less) away =
      let was : a.out ≡ 0 = away.out in
      let out : b.out ≤ a.out = less.out in
      let all : b.out + b.doomed ≤ a.out + a.doomed = less.all in
      record { away = record { holding = same ∙ away.holding; out = omega (arith, was, out) }; deeds = refl; doomed = omega (arith, was, all) }
  one_away a ds b (Does k h f g was is may less) away = absurd (not_kept own a.holding k away.holding was)
  one_away a ds b (Settles room k f g was is less) away = absurd (not_kept own a.holding k away.holding was)
  one_away a ds b (LetsGo k f g was is rests whole all) away = absurd (not_kept own a.holding k away.holding was)
  one_away a ds b (Destroys k f g was is out all) away = absurd (not_kept own a.holding k away.holding was)
  one_away a ds b (Holds f g is out all) away = let none : a.out ≡ 0 = away.out in absurd (omega (arith, none, out))

  pub all_away : (a : Seen) (ds : List Deed) (b : Seen) → ChangesAt version a ds b → IsAway own a → StaysAway own a ds b
  all_away a ds b (NoChange f) away = record { away = away; deeds = refl; doomed = omega arith }
  all_away a ds b (Then f as' m bs g one others) away =
      let first : StaysAway own a as' m = one_away a as' m one away in
      let rest : StaysAway own m bs b = all_away m bs b others first.away in
      let fewer : m.doomed ≤ a.doomed = first.doomed in
      let still : b.doomed ≤ m.doomed = rest.doomed in
      record { away = rest.away; deeds = ap (λ (l : List Deed). l ++ bs) first.deeds ∙ rest.deeds; doomed = omega (arith, fewer, still) }

  pub told_away : (t : Turn) (x : EndId) (n : ℕ) (g : Holding) (ds : List Deed) (h : Holding) → ToldAt version t x n g ds h → g ≡ Gone own → (ds ≡ []) × (h ≡ Gone own)
  told_away t x n g ds h (told.Otherwise f un) gone = (refl, gone)
  told_away t x n g ds h (told.Answers k what is) gone = absurd (not_kept own g k gone refl)
  told_away t x n g ds h (told.Hears k room bytes packet xs brings spelled readable) gone = absurd (not_kept own g k gone refl)
  told_away t x n g ds h (told.Ignores k bytes left xs brings e) gone = absurd (not_kept own g k gone refl)
  told_away t x n g ds h (told.Breaks k o bytes xs brings) gone = absurd (not_kept own g k gone refl)
  told_away t x n g ds h (told.Dies k death) gone = absurd (not_kept own g k gone refl)
  told_away t x n g ds h (told.DiesWith k what death) gone = absurd (not_kept own g k gone refl)
