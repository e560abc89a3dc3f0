-- What goes well for the values that a packet brings, one after another.
use Rattle.std.proofs.Common.{◌≡◌, ℕ, ◌≤◌, Bool, true, false, not, ◌&&◌, List, [], ◌∷◌, refl, sym, subst, ◌∙◌, true≢false, eq-eqb, le-leb, if◌then◌else◌}
use Rattle.std.proofs.lemmas.Bool.{not-true, and_parts, and_from}
use Rattle.std.specs.List.{list_any}
use Rattle.charlotte_calls.specs.declared.names.EndId.{EndId}
use Rattle.charlotte_calls.specs.declared.names.Pid.{Pid}
use Rattle.charlotte_packets.specs.declared.picture.MovingPicture.{MovingPicture}
use Rattle.end_table.proofs.EndEq.{end_eq-same, end_eq-sym, put-at, put-other}
use Rattle.end_table.specs.Entries.{settled, left_entry, ended_entry}
use Rattle.end_table.specs.Place.{end_eq, put}
use Rattle.end_table.specs.Table.{IsHere}
use Rattle.end_table.specs.declared.entry.Entry.{Entry}
use Rattle.end_table.specs.declared.entry.Entry.TheVariants as entry
use Rattle.end_table.specs.declared.entry.Holder.{Holder}
use Rattle.kernel_step.proofs.EnclosedEnds.{first_false, second_false}
use Rattle.kernel_step.specs.Actions.{leaves, ends_idle, settle_each}
use Rattle.kernel_step.specs.Progress.{Progress, keeps}
use Rattle.kernel_step.specs.Rows.{is_unmade, is_here, is_carried, passing, arriving, ends_in, pass_each, end_arrivals}
use Rattle.kernel_step.proofs.Departed.{left-IsHere, ended-IsHere}
use Rattle.kernel_sound.proofs.Put.{IsHolder, put-each}
use Rattle.kernel_sound.proofs.Sends.{tells_gone-only, only-same}
use Rattle.kernel_sound.proofs.Goes.{GoesWell, IsOfEnd-left, IsOfEnd-ended, only-well, keeps-well-away, keeps-well-settled}

-- none of these values' ends is here
abbrev pub AreGone : (EndId → Entry) → List MovingPicture → Type 0
AreGone t [] = Unit {0}
AreGone t (m ∷ ms) = (IsHere (t m.end) → ⊥) × AreGone t ms

-- none of their ends is here, or of a link that kernel k has not made, and no two are the same
abbrev pub AreComing : ℕ → ℕ → (EndId → Entry) → List MovingPicture → Type 0
AreComing k made t [] = Unit {0}
AreComing k made t (m ∷ ms) =
    (IsHere (t m.end) → ⊥) × (m.end.link.maker ≡ k → made ≤ m.end.link.count → ⊥) × (list_any (end_eq m.end) (ends_in ms) ≡ false) × AreComing k made t ms

-- ends that are not here stay so where one of them becomes none that is here
pub AreGone-put : (t : EndId → Entry) (e : EndId) (x : Entry) (ms : List MovingPicture) → (IsHere x → ⊥) → AreGone t ms → AreGone (put t e x) ms
AreGone-put t e x [] gone are = tt
AreGone-put t e x (m ∷ ms) gone are = (put-each (λ q y. q ≡ m.end → IsHere y → ⊥) t e x (λ at. gone) m.end (λ apart at. are.0) refl, AreGone-put t e x ms gone are.1)

-- values come to a table as to another that differs at none of their ends
pub AreComing-others : (k made : ℕ) (t u : EndId → Entry) (e : EndId) (ms : List MovingPicture) → ((q : EndId) → end_eq e q ≡ false → u q ≡ t q) → list_any (end_eq e) (ends_in ms) ≡ false → AreComing k made t ms → AreComing k made u ms
AreComing-others k made t u e [] same none are = tt
AreComing-others k made t u e (m ∷ ms) same none are =
    ((λ here. are.0 (subst IsHere (same m.end (first_false _ _ none)) here)), are.1, are.2, AreComing-others k made t u e ms same (second_false _ _ none) are.3)

-- an end that is here is none of those that come
pub apart-AreComing : (k made : ℕ) (t : EndId → Entry) (e : EndId) (ms : List MovingPicture) → IsHere (t e) → AreComing k made t ms → list_any (end_eq e) (ends_in ms) ≡ false
apart-AreComing k made t e [] here are = refl
apart-AreComing k made t e (m ∷ ms) here are = by (end_eq e m.end) refl (apart-AreComing k made t e ms here are.3)
  where
    by : (b : Bool) → end_eq e m.end ≡ b → list_any (end_eq e) (ends_in ms) ≡ false → list_any (end_eq e) (ends_in (m ∷ ms)) ≡ false
    by true same rest = absurd (are.0 (subst (λ z. IsHere (t z)) (end_eq-same e m.end same) here))
    by false apart rest = rw (apart, rest)

-- a value that is carried is not of an end that is here
pub carried-IsHere : (k made : ℕ) (t : EndId → Entry) (m : MovingPicture) → is_carried k made t m ≡ true → IsHere (t m.end) → ⊥
carried-IsHere k made t m carried here = by (t m.end) carried here
  where
    by : (y : Entry) → (not (is_here y) && not (is_unmade k made m)) ≡ true → IsHere y → ⊥
    by (entry.Here v) carried here = cc
    by entry.Nothing carried here = here
    by (entry.Left to hops) carried here = here
    by (entry.Destroyed m) carried here = here

-- nor of a link that was not made
pub carried-made : (k made : ℕ) (t : EndId → Entry) (m : MovingPicture) → is_carried k made t m ≡ true → m.end.link.maker ≡ k → made ≤ m.end.link.count → ⊥
carried-made k made t m carried maker count =
    let made_already : is_unmade k made m ≡ false = not-true _ ((and_parts _ _ carried).1) in
    true≢false (sym (and_from _ _ (eq-eqb _ _ maker) (le-leb _ _ count)) ∙ made_already)

-- so the values that arrive come, one after another
pub AreComing-arriving : (k made : ℕ) (h : Holder) (t : EndId → Entry) (ms : List MovingPicture) → AreComing k made t (arriving k made h t ms)
AreComing-arriving k made h t [] = tt
AreComing-arriving k made h t (m ∷ ms) = by (is_carried k made t m) refl (AreComing-arriving k made h t ms) (AreComing-arriving k made h (put t m.end (entry.Here (settled h m))) ms)
  where
    rest : List MovingPicture
    rest = arriving k made h (put t m.end (entry.Here (settled h m))) ms

    by : (b : Bool) → is_carried k made t m ≡ b → AreComing k made t (arriving k made h t ms) → AreComing k made (put t m.end (entry.Here (settled h m))) rest
        → AreComing k made t (if b then m ∷ rest else arriving k made h t ms)
    by true carried others come =
        let after = put t m.end (entry.Here (settled h m)) in
        let apart : list_any (end_eq m.end) (ends_in rest) ≡ false = apart-AreComing k made after m.end rest (subst IsHere (sym (put-at t m.end (entry.Here (settled h m)))) tt) come in (
          carried-IsHere k made t m carried,
          carried-made k made t m carried,
          apart,
          AreComing-others k made after t m.end rest (λ q apart. sym (put-other t m.end (entry.Here (settled h m)) q apart)) apart come,
        )
    by false carried others come = others

-- and those that pass are gone
pub AreGone-passing : (k made : ℕ) (t : EndId → Entry) (ms : List MovingPicture) → AreGone t (passing k made t ms)
AreGone-passing k made t [] = tt
AreGone-passing k made t (m ∷ ms) = by (is_carried k made t m) refl (AreGone-passing k made t ms)
  where
    by : (b : Bool) → is_carried k made t m ≡ b → AreGone t (passing k made t ms) → AreGone t (if b then m ∷ passing k made t ms else passing k made t ms)
    by true carried rest = (carried-IsHere k made t m carried, rest)
    by false carried rest = rest

-- to settle values changes no other end
pub settle_each-others : (h : Holder) (e : EndId) (ms : List MovingPicture) (d : Progress) → list_any (end_eq e) (ends_in ms) ≡ false → (settle_each h ms d).table e ≡ d.table e
unfolding settle_each keeps
settle_each-others h e [] d none = refl
settle_each-others h e (m ∷ ms) d none =
    settle_each-others h e ms (keeps m.end (entry.Here (settled h m)) d) (second_false _ _ none)
    ∙ put-other d.table m.end (entry.Here (settled h m)) e (end_eq-sym m.end e ∙ first_false _ _ none)

module _ {k made n : ℕ} {touches : Pid → EndId → Bool} {before : EndId → Entry} where
  -- each becomes an end that is here
  pub settle_each-well : (h : Holder) (ms : List MovingPicture) (d : Progress) → IsHolder n h → AreComing k made d.table ms → GoesWell k made n touches before d → GoesWell k made n touches before (settle_each h ms d)
  unfolding settle_each keeps
  settle_each-well h [] d holds are w = w
  settle_each-well h (m ∷ ms) d holds are w =
      settle_each-well h ms (keeps m.end (entry.Here (settled h m)) d) holds
      (AreComing-others k made d.table (put d.table m.end (entry.Here (settled h m))) m.end ms (λ q apart. put-other d.table m.end (entry.Here (settled h m)) q apart) are.2 are.3)
      (keeps-well-settled h m d are.0 holds are.1 w)

  -- each leaves again
  pub pass_each-well : (at : ℕ) (ms : List MovingPicture) (d : Progress) → AreGone d.table ms → GoesWell k made n touches before d → GoesWell k made n touches before (pass_each at ms d)
  unfolding pass_each keeps
  pass_each-well at [] d are w = w
  pass_each-well at (m ∷ ms) d are w =
      pass_each-well at ms (leaves at m d)
      (AreGone-put d.table m.end (left_entry at m) ms (left-IsHere at m) are.1)
      (keeps-well-away m.end (left_entry at m) d are.0 (left-IsHere at m) (IsOfEnd-left at m m.end) w)

  -- each is destroyed
  pub end_arrivals-well : (ms : List MovingPicture) (d : Progress) → AreGone d.table ms → GoesWell k made n touches before d → GoesWell k made n touches before (end_arrivals k ms d)
  unfolding end_arrivals ends_idle keeps
  end_arrivals-well [] d are w = w
  end_arrivals-well (m ∷ ms) d are w =
      let ended = keeps m.end (ended_entry m) d in
      let only = tells_gone-only k m ended (only-same ended) in
      end_arrivals-well ms (ends_idle k m d)
      (subst (λ t. AreGone t ms) (sym only.table) (AreGone-put d.table m.end (ended_entry m) ms (ended-IsHere m) are.1))
      (only-well only (keeps-well-away m.end (ended_entry m) d are.0 (ended-IsHere m) (IsOfEnd-ended m m.end refl) w))
