-- Folds over ends, end by end: what the fold makes of an end is the word on it where it is named, and elsewhere the end stays as it was.
use Rattle.std.proofs.Common.{◌≡◌, ℕ, Bool, true, false, ◌||◌, if◌then◌else◌, List, [], ◌∷◌, ap, sym, subst, ◌∙◌, refl}
use Rattle.std.specs.List.{fold, list_any}
use Rattle.charlotte_calls.specs.Names.{opposite}
use Rattle.charlotte_calls.specs.declared.names.EndId.{EndId}
use Rattle.charlotte_packets.specs.declared.picture.MovingPicture.{MovingPicture}
use Rattle.charlotte_packets.specs.declared.picture.PictureWhat.TheVariants as packet
use Rattle.end_table.proofs.EndEq.{end_eq-same, end_eq-sym, put-at, put-other}
use Rattle.end_table.specs.Entries.{gains_one, left_entry, ended_entry}
use Rattle.end_table.specs.Place.{end_eq, put}
use Rattle.end_table.specs.Table.{IsOfEnd}
use Rattle.end_table.specs.declared.entry.Entry.{Entry}
use Rattle.end_table.specs.declared.entry.Entry.TheVariants as entry
use Rattle.end_table.specs.declared.entry.Holder.{Holder}
use Rattle.kernel_step.specs.Actions.{here, held, hold_each, leaves_here, leave_each, tells_gone, ends_idle, ends_idle_here, end_each}
use Rattle.kernel_step.specs.Progress.{Progress, keeps, sends}

-- no two of these ends are the same
abbrev pub AreDifferent : List EndId → Type 0
AreDifferent [] = Unit {0}
AreDifferent (x ∷ xs) = (list_any (end_eq x) xs ≡ false) × AreDifferent xs

-- each entry that is Here or Destroyed is of its end
abbrev pub AreOwn : (EndId → Entry) → Type 0
AreOwn t = (e : EndId) → IsOfEnd e (t e)

pub AreOwn-put : (t : EndId → Entry) (e : EndId) (x : Entry) → AreOwn t → IsOfEnd e x → AreOwn (put t e x)
AreOwn-put t e x own is = λ q. by (end_eq e q) q refl
  where
    by : (b : Bool) (q : EndId) → end_eq e q ≡ b → IsOfEnd q (put t e x q)
    by true q same = subst (λ z. IsOfEnd z (put t e x z)) (end_eq-same e q same) (subst (IsOfEnd e) (sym (put-at t e x)) is)
    by false q apart = subst (IsOfEnd q) (sym (put-other t e x q apart)) (own q)

-- to put what stands there changes nothing
pub put-same : (t : EndId → Entry) (e : EndId) (x : Entry) → t e ≡ x → put t e x ≡ t
put-same t e x same = λ i q. by (end_eq e q) q refl i
  where
    by : (b : Bool) (q : EndId) → end_eq e q ≡ b → put t e x q ≡ t q
    by true q is = subst (λ z. put t e x z ≡ t z) (end_eq-same e q is) (put-at t e x ∙ sym same)
    by false q apart = put-other t e x q apart

-- a fold of steps of which each puts a word of the entry at its end
module _ (step : Progress → EndId → Progress) (word : Entry → Entry)
    (puts : (d : Progress) (x : EndId) → AreOwn d.table → (step d x).table ≡ put d.table x (word (d.table x)))
    (own : (e : EndId) (x : Entry) → IsOfEnd e x → IsOfEnd e (word x)) where
  pub fold-pointwise : (xs : List EndId) (d : Progress) (q : EndId) → AreDifferent xs → AreOwn d.table
      → (fold step d xs).table q ≡ (if list_any (end_eq q) xs then word (d.table q) else d.table q)
  fold-pointwise [] d q apart owned = refl
  fold-pointwise (x ∷ xs) d q apart owned = fold-pointwise xs (step d x) q apart.1 after ∙ by (end_eq x q) refl
    where
      at : (step d x).table ≡ put d.table x (word (d.table x))
      at = puts d x owned

      after : AreOwn (step d x).table
      after = subst AreOwn (sym at) (AreOwn-put d.table x (word (d.table x)) owned (own x (d.table x) (owned x)))

      by : (b : Bool) → end_eq x q ≡ b → (if list_any (end_eq q) xs then word ((step d x).table q) else (step d x).table q)
          ≡ (if end_eq q x || list_any (end_eq q) xs then word (d.table q) else d.table q)
      by true same =
          let e : x ≡ q = end_eq-same x q same in
          let none : list_any (end_eq q) xs ≡ false = subst (λ z. list_any (end_eq z) xs ≡ false) e apart.0 in
          let now : (step d x).table q ≡ word (d.table q) =
          ap (λ t. t q) at ∙ subst (λ z. put d.table x (word (d.table x)) z ≡ word (d.table z)) e (put-at d.table x (word (d.table x))) in
          ap (λ b. if b then word ((step d x).table q) else (step d x).table q) none ∙ now
          ∙ sym (ap (λ b. if b || list_any (end_eq q) xs then word (d.table q) else d.table q) (end_eq-sym q x ∙ same))
      by false other =
          let now : (step d x).table q ≡ d.table q = ap (λ t. t q) at ∙ put-other d.table x (word (d.table x)) q other in
          ap (λ y. if list_any (end_eq q) xs then word y else y) now
          ∙ sym (ap (λ b. if b || list_any (end_eq q) xs then word (d.table q) else d.table q) (end_eq-sym q x ∙ other))

-- the entry of an end that gets another holder
abbrev pub held_entry : Holder → Entry → Entry
held_entry h entry.Nothing = entry.Nothing
held_entry h (entry.Here v) = entry.Here (record v { holder = h })
held_entry h (entry.Left to hops) = entry.Left to hops
held_entry h (entry.Destroyed m) = entry.Destroyed m

held-puts : (h : Holder) (d : Progress) (x : EndId) (y : Entry) → d.table x ≡ y → IsOfEnd x y → (held h (here y) d).table ≡ put d.table x (held_entry h y)
unfolding keeps
held-puts h d x (entry.Here v) same own = ap (λ q. put d.table q (entry.Here (record v { holder = h }))) own
held-puts h d x entry.Nothing same own = sym (put-same d.table x entry.Nothing same)
held-puts h d x (entry.Left to hops) same own = sym (put-same d.table x (entry.Left to hops) same)
held-puts h d x (entry.Destroyed m) same own = sym (put-same d.table x (entry.Destroyed m) same)

IsOfEnd-held : (h : Holder) (e : EndId) (x : Entry) → IsOfEnd e x → IsOfEnd e (held_entry h x)
IsOfEnd-held h e entry.Nothing own = tt
IsOfEnd-held h e (entry.Here v) own = own
IsOfEnd-held h e (entry.Left to hops) own = tt
IsOfEnd-held h e (entry.Destroyed m) own = own

pub hold_each-table : (h : Holder) (xs : List EndId) (d : Progress) (q : EndId) → AreDifferent xs → AreOwn d.table
    → (hold_each h xs d).table q ≡ (if list_any (end_eq q) xs then held_entry h (d.table q) else d.table q)
unfolding hold_each
hold_each-table h xs d q apart own =
    fold-pointwise (λ so_far x. held h (here (so_far.table x)) so_far) (held_entry h)
    (λ d x owned. held-puts h d x (d.table x) refl (owned x)) (IsOfEnd-held h) xs d q apart own

-- the entry of an end after LEAVE
abbrev pub left_of : ℕ → Entry → Entry
left_of to entry.Nothing = entry.Nothing
left_of to (entry.Here v) = left_entry to v.value
left_of to (entry.Left there hops) = entry.Left there hops
left_of to (entry.Destroyed m) = entry.Destroyed m

left-puts : (to : ℕ) (d : Progress) (x : EndId) (y : Entry) → d.table x ≡ y → IsOfEnd x y → (leaves_here to (here y) d).table ≡ put d.table x (left_of to y)
unfolding keeps
left-puts to d x (entry.Here v) same own = ap (λ q. put d.table q (left_entry to v.value)) own
left-puts to d x entry.Nothing same own = sym (put-same d.table x entry.Nothing same)
left-puts to d x (entry.Left there hops) same own = sym (put-same d.table x (entry.Left there hops) same)
left-puts to d x (entry.Destroyed m) same own = sym (put-same d.table x (entry.Destroyed m) same)

IsOfEnd-left : (to : ℕ) (e : EndId) (x : Entry) → IsOfEnd e x → IsOfEnd e (left_of to x)
IsOfEnd-left to e entry.Nothing own = tt
IsOfEnd-left to e (entry.Here v) own = by v.value.dead
  where
    by : (b : Bool) → IsOfEnd e (if b then entry.Nothing else entry.Left to (gains_one v.value.hops))
    by true = tt
    by false = tt
IsOfEnd-left to e (entry.Left there hops) own = tt
IsOfEnd-left to e (entry.Destroyed m) own = own

pub leave_each-table : (to : ℕ) (xs : List EndId) (d : Progress) (q : EndId) → AreDifferent xs → AreOwn d.table
    → (leave_each to xs d).table q ≡ (if list_any (end_eq q) xs then left_of to (d.table q) else d.table q)
unfolding leave_each
leave_each-table to xs d q apart own =
    fold-pointwise (λ so_far x. leaves_here to (here (so_far.table x)) so_far) (left_of to)
    (λ d x owned. left-puts to d x (d.table x) refl (owned x)) (IsOfEnd-left to) xs d q apart own

-- the entry of an idle end after END
abbrev pub ended_of : Entry → Entry
ended_of entry.Nothing = entry.Nothing
ended_of (entry.Here v) = ended_entry v.value
ended_of (entry.Left there hops) = entry.Left there hops
ended_of (entry.Destroyed m) = entry.Destroyed m

-- to tell of a destruction changes no entry
pub tells_gone-table : (k : ℕ) (m : MovingPicture) (d : Progress) → (tells_gone k m d).table ≡ d.table
unfolding tells_gone sends
tells_gone-table k m d = by m.dead
  where
    by : (b : Bool) → (if b then d else sends m.hint.0 (packet.Gone (opposite m.end) k) d).table ≡ d.table
    by true = refl
    by false = refl

ended-puts : (k : ℕ) (d : Progress) (x : EndId) (y : Entry) → d.table x ≡ y → IsOfEnd x y → (ends_idle_here k (here y) d).table ≡ put d.table x (ended_of y)
unfolding ends_idle keeps
ended-puts k d x (entry.Here v) same own =
    tells_gone-table k v.value (keeps v.value.end (ended_entry v.value) d) ∙ ap (λ q. put d.table q (ended_entry v.value)) own
ended-puts k d x entry.Nothing same own = sym (put-same d.table x entry.Nothing same)
ended-puts k d x (entry.Left there hops) same own = sym (put-same d.table x (entry.Left there hops) same)
ended-puts k d x (entry.Destroyed m) same own = sym (put-same d.table x (entry.Destroyed m) same)

IsOfEnd-ended : (e : EndId) (x : Entry) → IsOfEnd e x → IsOfEnd e (ended_of x)
IsOfEnd-ended e entry.Nothing own = tt
IsOfEnd-ended e (entry.Here v) own = by v.value.dead
  where
    by : (b : Bool) → IsOfEnd e (if b then entry.Nothing else entry.Destroyed v.value)
    by true = tt
    by false = own
IsOfEnd-ended e (entry.Left there hops) own = tt
IsOfEnd-ended e (entry.Destroyed m) own = own

pub end_each-table : (k : ℕ) (xs : List EndId) (d : Progress) (q : EndId) → AreDifferent xs → AreOwn d.table
    → (end_each k xs d).table q ≡ (if list_any (end_eq q) xs then ended_of (d.table q) else d.table q)
unfolding end_each
end_each-table k xs d q apart own =
    fold-pointwise (λ so_far x. ends_idle_here k (here (so_far.table x)) so_far) ended_of
    (λ d x owned. ended-puts k d x (d.table x) refl (owned x)) IsOfEnd-ended xs d q apart own
