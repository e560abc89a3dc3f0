-- Each clause on the traces of an end after an event, by what the event does to the end and to its opposite. w and u are the links before and
-- after it, old and now the ends of the service.
use Rattle.std.proofs.Common.{◌≡◌, ◌≢◌, ℕ, ◌≤◌, ◌⊎◌, inl, inr, true, false, Contains, sym, subst, arith}
use Rattle.charlotte_calls.specs.Names.{opposite}
use Rattle.charlotte_calls.specs.declared.names.EndId.{EndId}
use Rattle.charlotte_packets.specs.declared.picture.MovingPicture.{MovingPicture}
use Rattle.charlotte_packets.specs.declared.picture.PictureWhat.{PictureWhat}
use Rattle.end_table.specs.declared.entry.HereView.{HereView}
use Rattle.service_lawful.specs.Consistent.{is_open}
use Rattle.service_step.specs.Ends.{is_living}
use Rattle.service_step.specs.declared.state.End.{End}
use Rattle.service_step.specs.declared.state.Place.TheVariants as place
use Rattle.theorem_effects.proofs.Packets.{each-after, under_way-after, left-was}
use Rattle.theorem_effects.specs.Change.{Change, Changes}
use Rattle.theorem_effects.specs.Under.{IsLeft, IsSent, IsTaken}
use Rattle.theorem_effects.specs.Fields.{HasFields, IsHeard, IsUnserved, Stand}
use Rattle.theorem_effects.specs.Packets.{Each, IsUnderWay, Links}
use Rattle.trace_events.proofs.Tracks.{chain-on, going-after, track-after}
use Rattle.trace_events.specs.Had.{HasSome}
use Rattle.trace_events.specs.Leading.{IsLeading}
use Rattle.trace_meaning.specs.Traces.{IsAnnounced, IsKnownRight, IsLeftRight, IsMarkRight, IsMourned, IsReached, IsSeenRight, IsTelling, IsToForget, IsToldOf, IsTrailed}
use Rattle.trace_meaning.specs.Words.{HasChain, IsBackTo, IsForgetOf, IsGoingTo, IsGoneFrom, IsGoneSeen, IsKnownOf, IsMovedTo, IsOnTrack, IsParcelTo, IsSought}

-- a packet of a kind that was sent, or that was under way before
pub under_way-or : {w u : Links} {c : Change} (b : Changes w c u) (P : PictureWhat → Type 0) → IsUnderWay u P → IsUnderWay w P ⊎ IsSent c P
under_way-or {w} {u} {c} b P is = by (under_way-after b P is)
  where
    by : IsLeft b P ⊎ IsSent c P → IsUnderWay w P ⊎ IsSent c P
    by (inl left) = inl (left-was b P left)
    by (inr sent) = inr sent

module _ {w u : Links} {c : Change} (b : Changes w c u) (old now : EndId → End) (e : EndId) where
  abbrev s : EndId
  s = opposite e

  -- ---- what was heard and told

  pub reached-on : (IsSought u now e → IsSought w old e) → (IsSought u now s → IsSought w old s)
      → ((at : Stand) (m : MovingPicture) → HasFields u s at m → HasSome w s (λ o. o.hint.1 ≤ m.hint.1))
      → ((at : Stand) (m : MovingPicture) → IsSought w old e → IsSought w old s → HasFields w s at m → IsLeading w u c e m.hint.1)
      → ((at : Stand) (m : MovingPicture) (j h : ℕ) → IsSought u now e → IsSought u now s → HasFields u s at m → m.hint.1 ≤ h → IsHeard u e j h → IsHeard w e j h ⊎ HasChain u e j h)
      → IsReached w old e → IsReached u now e
  reached-on own other hints leads heard_was is at m j h sought opposite_sought has heard le = by (heard_was at m j h sought opposite_sought has le heard)
    where
      o : HasSome w s (λ o. o.hint.1 ≤ m.hint.1)
      o = hints at m has

      lower : o.fields.hint.1 ≤ h
      lower = let below : o.fields.hint.1 ≤ m.hint.1 = o.is in omega (arith, le)

      by : IsHeard w e j h ⊎ HasChain u e j h → HasChain u e j h
      by (inr chain) = chain
      by (inl was) = chain-on b e o.fields.hint.1 (leads o.at o.fields (own sought) (other opposite_sought) o.are) j h lower (is o.at o.fields j h (own sought) (other opposite_sought) o.are was lower)

  pub known-on : (IsSought u now e → IsSought w old e) → (IsSought u now s → IsSought w old s)
      → ((at : Stand) (m : MovingPicture) → HasFields u s at m → HasSome w s (λ o. o.hint.1 ≤ m.hint.1))
      → ((at : Stand) (m : MovingPicture) (h : ℕ) → IsSought u now e → IsSought u now s → HasFields u s at m → IsToldOf u e h → IsToldOf w e h ⊎ (h ≤ m.hint.1))
      → IsKnownRight w old e → IsKnownRight u now e
  known-on own other hints told_was is at m h sought opposite_sought has told = by (told_was at m h sought opposite_sought has told)
    where
      o : HasSome w s (λ o. o.hint.1 ≤ m.hint.1)
      o = hints at m has

      by : IsToldOf w e h ⊎ (h ≤ m.hint.1) → h ≤ m.hint.1
      by (inr le) = le
      by (inl was) =
          let lower : h ≤ o.fields.hint.1 = is o.at o.fields h (own sought) (other opposite_sought) o.are was in
          let below : o.fields.hint.1 ≤ m.hint.1 = o.is in
          omega arith

  pub seen-on : ((old e).place ≡ place.Destroyed → (now e).place ≡ place.Destroyed) → (IsSought u now s → IsSought w old s)
      → (IsUnderWay u (IsGoneSeen e) → IsUnderWay w (IsGoneSeen e) ⊎ (((now e).place ≡ place.Destroyed) × (IsSought u now s → ⊥)))
      → IsSeenRight w old e → IsSeenRight u now e
  seen-on stays other seen_was is = record { destroyed = λ under. gone (seen_was under); unsought = λ under sought. quiet (seen_was under) sought }
    where
      gone : IsUnderWay w (IsGoneSeen e) ⊎ (((now e).place ≡ place.Destroyed) × (IsSought u now s → ⊥)) → (now e).place ≡ place.Destroyed
      gone (inl was) = stays (is.destroyed was)
      gone (inr new) = new.0

      quiet : IsUnderWay w (IsGoneSeen e) ⊎ (((now e).place ≡ place.Destroyed) × (IsSought u now s → ⊥)) → IsSought u now s → ⊥
      quiet (inl was) sought = is.unsought was (other sought)
      quiet (inr new) sought = new.1 sought

  -- ---- entries

  -- an end that is where it was, with the hops and the hint that it had
  pub announced-on : (k : ℕ) (v x : HereView) → x.value.hops ≡ v.value.hops → x.value.hint.1 ≡ v.value.hint.1 → (x.value.trail ≢ 0 → v.value.trail ≢ 0)
      → ((now e).noticed ≡ false → (old e).noticed ≡ false) → (is_living (now s).place ≡ true → is_living (old s).place ≡ true)
      → IsLeading w u c s v.value.hint.1
      → (IsTaken c (IsKnownOf e v.value.hops) → k ≡ c.kernel → IsTelling u e k v.value.hops v.value.hint.1)
      → (IsTaken c (IsMovedTo s k v.value.hops) → HasChain u s c.kernel v.value.hint.1 → IsTelling u e k v.value.hops v.value.hint.1)
      → IsAnnounced w old e k v → IsAnnounced u now e k x
  announced-on k v x hops hint trail noticed lives leads known moved is unnoticed some living =
      subst (λ z. IsTelling u e k z x.value.hint.1) (sym hops) (subst (λ z. IsTelling u e k v.value.hops z) (sym hint) (by (is (noticed unnoticed) (trail some) (lives living))))
    where
      goes : IsGoingTo u k (IsKnownOf e v.value.hops) ⊎ (IsTaken c (IsKnownOf e v.value.hops) × (k ≡ c.kernel)) → IsTelling u e k v.value.hops v.value.hint.1
      goes (inl still) = inl still
      goes (inr taken) = known taken.0 taken.1

      tracks : IsOnTrack u s v.value.hint.1 (IsMovedTo s k v.value.hops) ⊎ (IsTaken c (IsMovedTo s k v.value.hops) × HasChain u s c.kernel v.value.hint.1) → IsTelling u e k v.value.hops v.value.hint.1
      tracks (inl still) = inr still
      tracks (inr taken) = moved taken.0 taken.1

      by : IsTelling w e k v.value.hops v.value.hint.1 → IsTelling u e k v.value.hops v.value.hint.1
      by (inl going) = goes (going-after b k (IsKnownOf e v.value.hops) going)
      by (inr on) = tracks (track-after b s v.value.hint.1 leads v.value.hint.1 (IsMovedTo s k v.value.hops) (omega arith) on)

  pub left-on : (k h : ℕ) → ((at : Stand) (m : MovingPicture) → HasFields u e at m → HasSome w e (λ o. o.hops ≤ m.hops))
      → (IsTrailed w old e k → IsTrailed u now e k ⊎ IsToForget u e k h)
      → ((g : ℕ) → IsTaken c (IsForgetOf e g) → k ≡ c.kernel → h ≤ g → ⊥)
      → IsLeftRight w old e k h → IsLeftRight u now e k h
  left-on k h hops trailed forgotten is = record { some = is.some; old = older; kept = by is.kept }
    where
      older : (at : Stand) (m : MovingPicture) → HasFields u e at m → h ≤ m.hops
      older at m has =
          let o = hops at m has in
          let before : h ≤ o.fields.hops = is.old o.at o.fields o.are in
          let grown : o.fields.hops ≤ m.hops = o.is in
          omega arith

      goes : (g : ℕ) → h ≤ g → IsGoingTo u k (IsForgetOf e g) ⊎ (IsTaken c (IsForgetOf e g) × (k ≡ c.kernel)) → IsTrailed u now e k ⊎ IsToForget u e k h
      goes g covers (inl still) = inr (record { hops = g; there = still; covers = covers })
      goes g covers (inr taken) = absurd (forgotten g taken.0 taken.1 covers)

      by : IsTrailed w old e k ⊎ IsToForget w e k h → IsTrailed u now e k ⊎ IsToForget u e k h
      by (inl was) = trailed was
      by (inr told) = goes told.hops told.covers (going-after b k (IsForgetOf e told.hops) told.there)

  -- what is true of packets of a kind, where it is so of those that are sent
  sent-or : (P : PictureWhat → Type 0) (Q : ℕ → ℕ → Type 0) → Each w (λ from to q. P q → Q from to) → ((to : ℕ) (what : PictureWhat) → Contains c.packets (to, what) → P what → Q c.kernel to)
      → Each u (λ from to q. P q → Q from to)
  sent-or P Q each sent = each-after b (λ from to q. P q → Q from to) (λ from to q. P q → Q from to) each (λ from to q has is. is) sent

  -- a mark that stays where it was, with its hint
  pub mark-on : (d : ℕ) (m : MovingPicture) → ((old e).noticed ≡ false → (now e).noticed ≡ false) → (is_open (now s) ≡ true → is_open (old s) ≡ true)
      → ((at : ℕ) → IsSent c (IsGoneFrom s at) → at ≡ d)
      → (is_open (now s) ≡ true → (to : ℕ) (what : PictureWhat) → Contains c.packets (to, what) → IsBackTo s what → c.kernel ≡ d)
      → (is_open (now s) ≡ true → (to : ℕ) (what : PictureWhat) → Contains c.packets (to, what) → IsParcelTo e what → to ≡ d)
      → ((at : Stand) (l : MovingPicture) (n j h : ℕ) → is_open (now s) ≡ true → HasFields u s at l → IsUnserved u s l n j h → HasSome w s (λ o. IsUnserved w s o n j h) ⊎ ((j ≡ d) × (h ≡ m.hops)))
      → (IsSought w old s → (IsSought u now s × IsLeading w u c s m.hint.1) ⊎ IsMourned u now e d m.hint.1)
      → (IsTaken c (IsGoneSeen e) → d ≡ c.kernel → IsMourned u now e d m.hint.1)
      → (IsTaken c (IsGoneFrom s d) → HasChain u s c.kernel m.hint.1 → IsSought u now s → IsMourned u now e d m.hint.1)
      → IsMarkRight w old e d m → IsMarkRight u now e d m
  mark-on d m noticed opens gone backs parcels asked sought seen told is =
      record {
        dead = is.dead;
        noticed = noticed is.noticed;
        gone = λ at under. of_gone at (under_way-or b (IsGoneFrom s at) under);
        backs = λ open_is. sent-or (IsBackTo s) (λ from to. from ≡ d) (is.backs (opens open_is)) (backs open_is);
        parcels = λ open_is. sent-or (IsParcelTo e) (λ from to. to ≡ d) (is.parcels (opens open_is)) (parcels open_is);
        asked = λ at l n j h open_is has unserved. of_asked n j h open_is (asked at l n j h open_is has unserved);
        mourned = by is.mourned;
      }
    where
      of_gone : (at : ℕ) → IsUnderWay w (IsGoneFrom s at) ⊎ IsSent c (IsGoneFrom s at) → at ≡ d
      of_gone at (inl was) = is.gone at was
      of_gone at (inr new) = gone at new

      of_asked : (n j h : ℕ) → is_open (now s) ≡ true → HasSome w s (λ o. IsUnserved w s o n j h) ⊎ ((j ≡ d) × (h ≡ m.hops)) → (j ≡ d) × (h ≡ m.hops)
      of_asked n j h open_is (inl was) = is.asked was.at was.fields n j h (opens open_is) was.are was.is
      of_asked n j h open_is (inr new) = new

      goes : IsGoingTo u d (IsGoneSeen e) ⊎ (IsTaken c (IsGoneSeen e) × (d ≡ c.kernel)) → IsMourned u now e d m.hint.1
      goes (inl still) = inl still
      goes (inr taken) = seen taken.0 taken.1

      after : IsSought u now s → IsOnTrack u s m.hint.1 (IsGoneFrom s d) ⊎ (IsTaken c (IsGoneFrom s d) × HasChain u s c.kernel m.hint.1) → IsMourned u now e d m.hint.1
      after still (inl on) = inr (still, on)
      after still (inr taken) = told taken.0 taken.1 still

      tracks : (IsSought u now s × IsLeading w u c s m.hint.1) ⊎ IsMourned u now e d m.hint.1 → IsOnTrack w s m.hint.1 (IsGoneFrom s d) → IsMourned u now e d m.hint.1
      tracks (inr mourned) on = mourned
      tracks (inl both) on = after both.0 (track-after b s m.hint.1 both.1 m.hint.1 (IsGoneFrom s d) (omega arith) on)

      by : IsMourned w old e d m.hint.1 → IsMourned u now e d m.hint.1
      by (inl going) = goes (going-after b d (IsGoneSeen e) going)
      by (inr both) = tracks (sought both.0) both.1
