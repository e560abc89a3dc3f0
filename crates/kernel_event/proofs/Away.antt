-- The values of a packet that are carried: their ends are away, apart, and have places.
use Rattle.std.proofs.Common.{◌≡◌, ℕ, Bool, true, false, true≢false, cond, not, ◌&&◌, ◌||◌, List, [], ◌∷◌, refl, sym, subst, if◌then◌else◌}
use Rattle.std.specs.List.{list_any}
use Rattle.charlotte_calls.specs.declared.names.EndId.{EndId}
use Rattle.charlotte_packets.specs.declared.picture.MovingPicture.{MovingPicture}
use Rattle.end_table.proofs.EndEq.{end_eq-same, put-at}
use Rattle.end_table.specs.Place.{end_eq, put}
use Rattle.end_table.specs.Table.{TableView, entries, HasPlace, IsHere}
use Rattle.end_table.specs.declared.entry.Entry.{Entry}
use Rattle.end_table.specs.declared.entry.Entry.TheVariants as entry
use Rattle.end_table.specs.declared.entry.Holder.{Holder}
use Rattle.end_table.specs.declared.entry.Inward.TheVariants as inward
use Rattle.end_table.specs.declared.entry.Outward.TheVariants as outward
use Rattle.kernel_sound.proofs.Put.{put-each}
use Rattle.kernel_event.specs.Places.{ArePlaced}
use Rattle.kernel_step.specs.Actions.{here}
use Rattle.kernel_step.specs.Rows.{arriving, ends_in, is_carried, is_here, passing}
use Rattle.move_core.specs.Arriving.{AreApart, AreAway}

-- each of these values that is carried has a place
abbrev pub HavePlaces : ℕ → ℕ → TableView → List MovingPicture → Type 0
HavePlaces k made t [] = Unit {0}
HavePlaces k made t (m ∷ ms) = (is_carried k made (entries t) m ≡ true → HasPlace t m.end) × HavePlaces k made t ms

-- both of two tests that are true together are true
first_true : (a b : Bool) → (a && b) ≡ true → a ≡ true
first_true true b h = refl
first_true false b h = h

-- the second is
second_true : (a b : Bool) → (a && b) ≡ true → b ≡ true
second_true true b h = h
second_true false b h = cc

-- and where both are, the test of both is
both_true : (a b : Bool) → a ≡ true → b ≡ true → (a && b) ≡ true
both_true true b ha hb = hb
both_true false b ha hb = ha

-- what the test of an entry that is here tells
pub away-is_here : (x : Entry) → not (is_here x) ≡ true → IsHere x → ⊥
away-is_here entry.Nothing h here = here
away-is_here (entry.Here v) h here = true≢false (sym h)
away-is_here (entry.Left to hops) h here = here
away-is_here (entry.Destroyed m) h here = here

-- and of one that is not
pub is_here-away : (x : Entry) → (IsHere x → ⊥) → not (is_here x) ≡ true
is_here-away entry.Nothing h = refl
is_here-away (entry.Here v) h = absurd (h tt)
is_here-away (entry.Left to hops) h = refl
is_here-away (entry.Destroyed m) h = refl

-- the end of a value that is carried is not here
pub away-is_carried : (k made : ℕ) (t : EndId → Entry) (m : MovingPicture) → is_carried k made t m ≡ true → IsHere (t m.end) → ⊥
away-is_carried k made t m carried = away-is_here (t m.end) (first_true _ _ carried)

-- one that is carried where more ends are here is carried where fewer are
fewer-is_carried : (k made : ℕ) (t more : EndId → Entry) (m : MovingPicture) → (IsHere (t m.end) → IsHere (more m.end)) → is_carried k made more m ≡ true → is_carried k made t m ≡ true
fewer-is_carried k made t more m up carried =
    both_true _ _ (is_here-away (t m.end) (λ h. away-is_carried k made more m carried (up h))) (second_true _ _ carried)

-- the values that become here are away, where at least the ends of the table are here
module _ (k made : ℕ) (h : Holder) (t : TableView) where
  arriving-away : (more : EndId → Entry) (ms : List MovingPicture) → ((q : EndId) → IsHere (entries t q) → IsHere (more q)) → HavePlaces k made t ms → AreAway t (arriving k made h more ms)
  arriving-away more [] up places = tt
  arriving-away more (m ∷ ms) up places = by (is_carried k made more m) refl (arriving-away arrived ms up_arrived places.1) (arriving-away more ms up places.1)
    where
      arrived : EndId → Entry
      arrived = put more m.end (entry.Here (record { value = m; holder = h; outward = outward.Idle; inward = inward.Idle }))

      up_arrived : (q : EndId) → IsHere (entries t q) → IsHere (arrived q)
      up_arrived q here = put-each (λ _ z. IsHere z) more m.end (entry.Here (record { value = m; holder = h; outward = outward.Idle; inward = inward.Idle })) tt q (λ apart. up q here)

      by : (b : Bool) → is_carried k made more m ≡ b → AreAway t (arriving k made h arrived ms) → AreAway t (arriving k made h more ms)
          → AreAway t (if b then m ∷ arriving k made h arrived ms else arriving k made h more ms)
      by true carried came others =
          (places.0 (fewer-is_carried k made (entries t) more m (up m.end) carried), (λ here. away-is_carried k made more m carried (up m.end here)), came)
      by false carried came others = others

  -- so from the table itself
  pub AreAway-arriving : (ms : List MovingPicture) → HavePlaces k made t ms → AreAway t (arriving k made h (entries t) ms)
  AreAway-arriving ms places = arriving-away (entries t) ms (λ q here. here) places

-- and apart
module _ (k made : ℕ) (h : Holder) where
  -- an end that is here is none of theirs
  arriving-none : (t : EndId → Entry) (e : EndId) (ms : List MovingPicture) → IsHere (t e) → list_any (end_eq e) (ends_in (arriving k made h t ms)) ≡ false
  arriving-none t e [] here = refl
  arriving-none t e (m ∷ ms) here = by (is_carried k made t m) refl (arriving-none arrived e ms (put-each (λ _ z. IsHere z) t m.end _ tt e (λ apart. here))) (arriving-none t e ms here)
    where
      arrived : EndId → Entry
      arrived = put t m.end (entry.Here (record { value = m; holder = h; outward = outward.Idle; inward = inward.Idle }))

      other : is_carried k made t m ≡ true → (b : Bool) → end_eq e m.end ≡ b → list_any (end_eq e) (ends_in (arriving k made h arrived ms)) ≡ false
          → (b || list_any (end_eq e) (ends_in (arriving k made h arrived ms))) ≡ false
      other carried true same none = absurd (away-is_carried k made t m carried (subst (λ z. IsHere (t z)) (end_eq-same e m.end same) here))
      other carried false apart none = none

      by : (b : Bool) → is_carried k made t m ≡ b → list_any (end_eq e) (ends_in (arriving k made h arrived ms)) ≡ false → list_any (end_eq e) (ends_in (arriving k made h t ms)) ≡ false
          → list_any (end_eq e) (ends_in (if b then m ∷ arriving k made h arrived ms else arriving k made h t ms)) ≡ false
      by true carried came others = other carried (end_eq e m.end) refl came
      by false carried came others = others

  -- no two of them are the same
  pub AreApart-arriving : (t : EndId → Entry) (ms : List MovingPicture) → AreApart (arriving k made h t ms)
  AreApart-arriving t [] = tt
  AreApart-arriving t (m ∷ ms) = by (is_carried k made t m) (AreApart-arriving arrived ms) (AreApart-arriving t ms)
    where
      arrived : EndId → Entry
      arrived = put t m.end (entry.Here (record { value = m; holder = h; outward = outward.Idle; inward = inward.Idle }))

      by : (b : Bool) → AreApart (arriving k made h arrived ms) → AreApart (arriving k made h t ms) → AreApart (if b then m ∷ arriving k made h arrived ms else arriving k made h t ms)
      by true came others = (arriving-none arrived m.end ms (subst IsHere (sym (put-at t m.end _)) tt), came)
      by false came others = others

-- the values that pass are away
pub AreAway-passing : (k made : ℕ) (t : TableView) (ms : List MovingPicture) → HavePlaces k made t ms → AreAway t (passing k made (entries t) ms)
AreAway-passing k made t [] places = tt
AreAway-passing k made t (m ∷ ms) places = by (is_carried k made (entries t) m) refl (AreAway-passing k made t ms places.1)
  where
    by : (b : Bool) → is_carried k made (entries t) m ≡ b → AreAway t (passing k made (entries t) ms) → AreAway t (cond b (m ∷ passing k made (entries t) ms) (passing k made (entries t) ms))
    by true carried others = (places.0 carried, away-is_carried k made (entries t) m carried, others)
    by false carried others = others

-- values that all have a place have one where they are carried
pub HavePlaces-placed : (k made : ℕ) (t : TableView) (ms : List MovingPicture) → ArePlaced t ms → HavePlaces k made t ms
HavePlaces-placed k made t [] placed = tt
HavePlaces-placed k made t (m ∷ ms) placed = ((λ carried. placed.0), HavePlaces-placed k made t ms placed.1)
