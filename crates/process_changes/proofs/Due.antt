-- Calls that are due. Where none is, no end at rest has a request in part: a Receive would be due there.
use Rattle.std.proofs.Common.{◌≡◌, ℕ, zero, suc, ◌+◌, Bool, true, false, not, ◌&&◌, ◌||◌, is_some, if◌then◌else◌, List, [], ◌∷◌, Option, Some, None, slice_get, refl, subst}
use Rattle.charlotte_calls.specs.declared.calls.Call.TheVariants as call
use Rattle.charlotte_calls.specs.declared.names.EndId.{EndId}
use Rattle.charlotte_calls.specs.declared.program.Next.TheVariants as next
use Rattle.end_protocol.specs.declared.going.Due.{Due}
use Rattle.end_protocol.specs.declared.going.Due.TheVariants as due
use Rattle.end_protocol.specs.declared.kept.Kept.{Kept}
use Rattle.end_protocol.specs.declared.kept.Wanted.{Wanted}
use Rattle.end_protocol.specs.declared.messages.Message.{Message}
use Rattle.end_protocol.specs.Going.{due_call}
use Rattle.end_protocol.specs.Lists.{head, is_nil, tail}
use Rattle.end_protocol.specs.Wanting.{is_busy, is_deaf, is_needed, is_open, is_silent, may_cancel}
use Rattle.process_run.specs.States.{Destroy, Gone, Holding, Keeps, Place, Receive, State}
use Rattle.process_run.specs.Ends.{room}
use Rattle.process_run.specs.Runs.{Asking, due_among, due_on, due_so, first_due, or_asking, sending}
use Rattle.process_changes.specs.Changes.{AreLeft, IsHeld, IsWhole, RestWhole}
use Rattle.process_changes.proofs.Places.{either_not, same_some, true_not_false}

-- ---- one end

not_false : (b : Bool) → not b ≡ false → b ≡ true
not_false true e = refl
not_false false e = absurd (true_not_false e)

record Rests (k : Kept) : Type 0 where
  queue : is_nil k.queue ≡ true
  deaf : is_deaf k.receiving ≡ true

rests_so : (k : Kept) → is_busy k ≡ false → Rests k
unfolding is_busy
rests_so k e =
    let eight = either_not _ (not (is_nil k.accepts)) e in
    let seven = either_not _ (not (is_nil k.bindings)) eight.0 in
    let six = either_not _ (is_some k.forbade) seven.0 in
    let five = either_not _ (is_some k.owed) six.0 in
    let four = either_not _ (is_some k.outstanding) five.0 in
    let three = either_not _ (not (is_deaf k.receiving)) four.0 in
    let two = either_not (not (is_nil k.queue)) _ three.0 in
    record { queue = not_false (is_nil k.queue) two.0; deaf = not_false (is_deaf k.receiving) three.1 }

module _ (version n : ℕ) (x : EndId) (k : Kept) where
  receives : ◌≡◌ {A = Option Asking} (Some (record { asked = Receive n; call = call.Receive x })) None → ⊥
  receives e = cc

  -- with no packet queued and no receive started
  unneeded : (silent may wanted : Bool) → due_so version n x k (if silent && not true then due.Send else if true && wanted then due.Receive else if may && not wanted then due.Cancel else due.Nothing) ≡ None → wanted ≡ false
  unneeded silent may false e = refl
  unneeded true may true e = absurd (receives e)
  unneeded false may true e = absurd (receives e)

  not_needed : (free : Bool) → Rests k → due_so version n x k (due_call free k) ≡ None → is_needed free k ≡ false
  unfolding due_call
  not_needed free rests none =
      unneeded (is_silent k.sending) (may_cancel k.receiving) (is_needed free k)
      (subst
      (λ (q : Bool). due_so version n x k (if is_silent k.sending && not q then due.Send else if true && is_needed free k then due.Receive else if may_cancel k.receiving && not (is_needed free k) then due.Cancel else due.Nothing) ≡ None)
      rests.queue
      (subst
      (λ (d : Bool). due_so version n x k (if is_silent k.sending && not (is_nil k.queue) then due.Send else if d && is_needed free k then due.Receive else if may_cancel k.receiving && not (is_needed free k) then due.Cancel else due.Nothing) ≡ None)
      rests.deaf none))

whole_if : (free : Bool) (k : Kept) → is_needed free k ≡ false → IsWhole k
unfolding is_needed
whole_if free k e lives =
    by_request k.request (subst (λ (d : Bool). (not d && (is_some k.outstanding || (is_some k.request || is_some k.reply) || is_open free k)) ≡ false) lives e)
  where
    in_part : (a : Bool) → (a || (true || is_some k.reply) || is_open free k) ≡ false → ⊥
    in_part true e = true_not_false e
    in_part false e = true_not_false e

    by_request : (o : Option Wanted) → (is_some k.outstanding || (is_some o || is_some k.reply) || is_open free k) ≡ false → o ≡ None
    by_request None e = refl
    by_request (Some w) e = absurd (in_part (is_some k.outstanding) e)

-- ---- all ends

or_none : (a b : Option Asking) → or_asking a b ≡ None → (a ≡ None) × (b ≡ None)
or_none None b e = (refl, e)
or_none (Some a) b e = let no : ◌≡◌ {A = Option Asking} (Some a) None = e in absurd cc

-- no call is due on this end
record Undue (version : ℕ) (free : Bool) (p : Place) : Type 0 where
  number : ℕ
  none : due_on version free number p.end p.holding ≡ None

none_there : (p : Place) → ◌≡◌ {A = Option Place} None (Some p) → ⊥
none_there p e = cc

undue_in : (version : ℕ) (free : Bool) (m : ℕ) (ps : List Place) → due_among version free m ps ≡ None → (i : ℕ) (p : Place) → slice_get ps i ≡ Some p → Undue version free p
undue_in version free m [] none zero p e = absurd (none_there p e)
undue_in version free m [] none (suc i) p e = absurd (none_there p e)
undue_in version free m (q ∷ ps) none zero p e =
    record {
      number = m;
      none =
          subst (λ (r : Place). due_on version free m r.end r.holding ≡ None) (same_some q p e)
          (or_none (due_on version free m q.end q.holding) (due_among version free (m + 1) ps) none).0;
    }
undue_in version free m (q ∷ ps) none (suc i) p e =
    undue_in version free (m + 1) ps (or_none (due_on version free m q.end q.holding) (due_among version free (m + 1) ps) none).1 i p e

pub rest_whole : (t : State) → first_due t.doomed t ≡ None → RestWhole t.places
rest_whole t none = by_doomed t.doomed none
  where
    by_number : due_among t.version (room t) 1 t.places ≡ None → (n : ℕ) (x : EndId) (k : Kept) → IsHeld n x k t.places → is_busy k ≡ false → IsWhole k
    by_number e zero x k held rests = absurd (none_there (record { end = x; holding = Keeps k }) held)
    by_number e (suc i) x k held rests =
        let u : Undue t.version (room t) (record { end = x; holding = Keeps k }) = undue_in t.version (room t) 1 t.places e i (record { end = x; holding = Keeps k }) held in
        whole_if (room t) k (not_needed t.version u.number x k (room t) (rests_so k rests) u.none)

    by_doomed : (xs : List EndId) → first_due xs t ≡ None → RestWhole t.places
    by_doomed [] e = by_number e
    by_doomed (x ∷ xs) e = let no : ◌≡◌ {A = Option Asking} (Some (record { asked = Destroy; call = call.Destroy x })) None = e in absurd cc

-- ---- what is left to be destroyed

-- the call of it is no Destroy
abbrev IsOther : Option Asking → Type 0
IsOther o = (a : Asking) → o ≡ Some a → (xs : List EndId) → AreLeft (next.Ask a.call) xs xs

none_asked : IsOther None
none_asked a e xs = let no : ◌≡◌ {A = Option Asking} None (Some a) = e in absurd cc

asked_so : (b : Asking) → ((xs : List EndId) → AreLeft (next.Ask b.call) xs xs) → IsOther (Some b)
asked_so b left a e xs = subst (λ (c : Asking). AreLeft (next.Ask c.call) xs xs) (same_some b a e) (left xs)

sent_other : (version n : ℕ) (x : EndId) (o : Option Message) → IsOther (sending version n x o)
sent_other version n x None = none_asked
sent_other version n x (Some m) = asked_so _ (λ xs. refl)

due_other : (version n : ℕ) (x : EndId) (k : Kept) (d : Due) → IsOther (due_so version n x k d)
due_other version n x k due.Nothing = none_asked
due_other version n x k due.Send = sent_other version n x (head k.queue)
due_other version n x k due.Receive = asked_so _ (λ xs. refl)
due_other version n x k due.Cancel = asked_so _ (λ xs. refl)

on_other : (version : ℕ) (free : Bool) (n : ℕ) (x : EndId) (g : Holding) → IsOther (due_on version free n x g)
on_other version free n x (Keeps k) = due_other version n x k (due_call free k)
on_other version free n x (Gone own) = none_asked

or_other : (o p : Option Asking) → IsOther o → IsOther p → IsOther (or_asking o p)
or_other None p first second = second
or_other (Some a) p first second = first

among_other : (version : ℕ) (free : Bool) (n : ℕ) (ps : List Place) → IsOther (due_among version free n ps)
among_other version free n [] = none_asked
among_other version free n (p ∷ ps) =
    or_other (due_on version free n p.end p.holding) (due_among version free (n + 1) ps) (on_other version free n p.end p.holding) (among_other version free (n + 1) ps)

-- after the call that is due
pub due_left : (t : State) (a : Asking) → first_due t.doomed t ≡ Some a → AreLeft (next.Ask a.call) t.doomed (tail t.doomed)
due_left t a e = by_doomed t.doomed e
  where
    by_doomed : (xs : List EndId) → first_due xs t ≡ Some a → AreLeft (next.Ask a.call) xs (tail xs)
    by_doomed [] e = among_other t.version (room t) 1 t.places a e []
    by_doomed (x ∷ xs) e = subst (λ (c : Asking). AreLeft (next.Ask c.call) (x ∷ xs) xs) (same_some (record { asked = Destroy; call = call.Destroy x }) a e) refl
