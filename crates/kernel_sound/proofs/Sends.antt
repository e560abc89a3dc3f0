-- What changes no end, and gives no process a report or an answer: packets and service steps alone.
use Rattle.std.proofs.Common.{◌≡◌, ℕ, Bool, true, false, nat_eq, not, ◌&&◌, List, [], ◌∷◌, refl, if◌then◌else◌}
use Rattle.std.specs.Int.{bit_at}
use Rattle.std.specs.List.{fold}
use Rattle.charlotte_calls.specs.Names.{opposite}
use Rattle.charlotte_calls.specs.declared.calls.ServiceStep.{ServiceStep}
use Rattle.charlotte_packets.specs.declared.picture.MovingPicture.{MovingPicture}
use Rattle.charlotte_packets.specs.declared.picture.PictureWhat.{PictureWhat}
use Rattle.charlotte_packets.specs.declared.picture.PictureWhat.TheVariants as packet
use Rattle.end_table.specs.Entries.{is_news}
use Rattle.end_table.specs.declared.entry.Inward.{Inward}
use Rattle.end_table.specs.declared.entry.Inward.TheVariants as inward
use Rattle.kernel_step.specs.Actions.{forget_at, forgets, kernel_numbers, tells_gone, tells_moved, resends_receive, resends, resends_on_news, tells_arrival, tell_arrivals}
use Rattle.kernel_step.specs.Progress.{Progress, sends, means}

-- the event came so far by packets and service steps alone
pub record SendsOnly (old new : Progress) : Type 0 where
  pub table : new.table ≡ old.table
  pub reports : new.reports ≡ old.reports
  pub answers : new.answers ≡ old.answers

-- what each step of a fold keeps, the fold keeps
pub fold-keeps : {X : Type 0} (P : Progress → Type 0) (f : Progress → X → Progress) → ((d : Progress) (x : X) → P d → P (f d x)) → (xs : List X) (d : Progress) → P d → P (fold f d xs)
fold-keeps P f keep [] d is = is
fold-keeps P f keep (x ∷ xs) d is = fold-keeps P f keep xs (f d x) (keep d x is)

-- what is true of both branches is true of the one that is taken
pub either-keeps : (P : Progress → Type 0) (b : Bool) (x y : Progress) → (b ≡ true → P x) → (b ≡ false → P y) → P (if b then x else y)
either-keeps P true x y first second = first refl
either-keeps P false x y first second = second refl

module _ {old : Progress} where
  -- a packet
  pub sends-only : (to : ℕ) (what : PictureWhat) (d : Progress) → SendsOnly old d → SendsOnly old (sends to what d)
  unfolding sends
  sends-only to what d s = record { table = s.table; reports = s.reports; answers = s.answers }

  -- a service step
  pub means-only : (step : ServiceStep) (d : Progress) → SendsOnly old d → SendsOnly old (means step d)
  unfolding means
  means-only step d s = record { table = s.table; reports = s.reports; answers = s.answers }

  -- a kernel of the trail is told to forget an end
  pub forget_at-only : (k : ℕ) (m : MovingPicture) (j : ℕ) (d : Progress) → SendsOnly old d → SendsOnly old (forget_at k m j d)
  forget_at-only k m j d s =
      either-keeps (SendsOnly old) (nat_eq (bit_at m.trail j) 1 && not (nat_eq j k)) (sends j (packet.Forget m.end m.hops) d) d
      (λ is. sends-only _ _ _ s) (λ is. s)

  -- so is each
  pub forgets-only : (k : ℕ) (m : MovingPicture) (d : Progress) → SendsOnly old d → SendsOnly old (forgets k m d)
  unfolding forgets
  forgets-only k m d s = fold-keeps (SendsOnly old) (λ so_far j. forget_at k m j so_far) (λ d j s. forget_at-only k m j d s) kernel_numbers d s

  -- the opposite end is told of a destruction
  pub tells_gone-only : (k : ℕ) (m : MovingPicture) (d : Progress) → SendsOnly old d → SendsOnly old (tells_gone k m d)
  unfolding tells_gone
  tells_gone-only k m d s =
      either-keeps (SendsOnly old) m.dead d (sends m.hint.0 (packet.Gone (opposite m.end) k) d) (λ is. s) (λ is. sends-only _ _ _ s)

  -- it is told of a move
  pub tells_moved-only : (k : ℕ) (m : MovingPicture) (d : Progress) → SendsOnly old d → SendsOnly old (tells_moved k m d)
  unfolding tells_moved
  tells_moved-only k m d s = sends-only _ _ _ s

  -- the live packet of a receive goes again
  pub resends_receive-only : (k : ℕ) (m : MovingPicture) (i : Inward) (d : Progress) → SendsOnly old d → SendsOnly old (resends_receive k m i d)
  resends_receive-only k m inward.Idle d s = s
  resends_receive-only k m (inward.Posted w) d s = sends-only _ _ _ s
  resends_receive-only k m (inward.Withdrawing w) d s = sends-only _ _ _ s
  resends_receive-only k m inward.Unreported d s = s

  -- all live packets go again
  pub resends-only : (k : ℕ) (m : MovingPicture) (i : Inward) (d : Progress) → SendsOnly old d → SendsOnly old (resends k m i d)
  unfolding resends
  resends-only k m i d s =
      let asked = resends_receive-only k m i d s in
      either-keeps (SendsOnly old) (nat_eq m.trail 0) (resends_receive k m i d) (tells_moved k m (resends_receive k m i d)) (λ is. asked) (λ is. tells_moved-only k m _ asked)

  -- they do where the hint rose
  pub resends_on_news-only : (k : ℕ) (was : MovingPicture) (hops : ℕ) (m : MovingPicture) (i : Inward) (d : Progress) → SendsOnly old d → SendsOnly old (resends_on_news k was hops m i d)
  unfolding resends_on_news
  resends_on_news-only k was hops m i d s = either-keeps (SendsOnly old) (is_news was hops) (resends k m i d) d (λ is. resends-only k m i d s) (λ is. s)

  -- an end that arrived tells of it
  pub tells_arrival-only : (k : ℕ) (m : MovingPicture) (d : Progress) → SendsOnly old d → SendsOnly old (tells_arrival k m d)
  tells_arrival-only k m d s = either-keeps (SendsOnly old) m.dead d (tells_moved k m d) (λ is. s) (λ is. tells_moved-only k m d s)

  -- and each does
  pub tell_arrivals-only : (k : ℕ) (ms : List MovingPicture) (d : Progress) → SendsOnly old d → SendsOnly old (tell_arrivals k ms d)
  unfolding tell_arrivals
  tell_arrivals-only k ms d s = fold-keeps (SendsOnly old) (λ so_far m. tells_arrival k m so_far) (λ d m s. tells_arrival-only k m d s) ms d s

-- nothing is told
pub only-same : (d : Progress) → SendsOnly d d
only-same d = record { table = refl; reports = refl; answers = refl }
