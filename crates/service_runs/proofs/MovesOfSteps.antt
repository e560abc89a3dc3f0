-- Each step, as what it does to the send of an end.
use Rattle.std.proofs.Common.{◌≡◌, ℕ, ◌+◌, Bool, true, false, true≢false, nat_eq, ◌&&◌, not, is_some, ◌⊎◌, inl, inr, if◌then◌else◌, Option, Some, None, List, [], ◌∷◌, refl, sym, ap, subst, ◌∙◌}
use Rattle.charlotte_calls.specs.Names.{opposite}
use Rattle.charlotte_calls.specs.declared.calls.Report.{Report}
use Rattle.charlotte_calls.specs.declared.names.EndId.{EndId}
use Rattle.charlotte_calls.specs.declared.names.Pid.{Pid}
use Rattle.charlotte_calls.specs.declared.names.Way.{Way}
use Rattle.charlotte_calls.specs.declared.names.Way.TheVariants as way
use Rattle.charlotte_calls.specs.declared.calls.ServiceStep.{ServiceStep}
use Rattle.charlotte_calls.specs.declared.calls.ServiceStep.TheVariants as step
use Rattle.service_change.proofs.Counts.{and-true}
use Rattle.service_change.proofs.EndEq.{puts-at}
use Rattle.service_change.proofs.Facts.{busy-made, busy-outward, not-true, taken-Taken, waiting-Waiting}
use Rattle.service_lawful.specs.Consistent.{IsConsistent}
use Rattle.service_step.specs.Ends.{unmade, carried_by, idles, is_destroyed, is_made, is_taken, matched_message, matched_outward, matches, noticed_end, noticed_outward, notices, owner, places, puts, returns, starts_send, takes, to_owner, turns_inward, turns_outward, waiting_message, withdraws_send}
use Rattle.service_step.specs.State.{State, Process}
use Rattle.service_step.specs.Steps.{IsServiceStep, after_cancel, after_complete, after_make, after_notice, after_return, after_take, may_send, may_match, may_take, may_complete}
use Rattle.service_step.specs.declared.state.End.{End}
use Rattle.service_step.specs.declared.state.Inward.TheVariants as inward
use Rattle.service_step.specs.declared.state.Message.{Message}
use Rattle.service_step.specs.declared.state.Outward.TheVariants as outward
use Rattle.service_step.specs.declared.state.Place.{Place}
use Rattle.service_step.specs.declared.state.Place.TheVariants as place
use Rattle.service_runs.proofs.Moves.{HasNumbers, Move, completed, destroys-ended, destroys_each-ended, makes-sends, matched, may-sent, move-by, move-ended, move-over, none}
use Rattle.service_runs.proofs.Moves.{noticed-or, number-its, number-other, places-sends, puts-apart, same-number, sends_of, sent, still-as, taken, turns_inward-sends}
use Rattle.service_consistent.proofs.StepsOfMessages.{take-matched, take-owned}
use Rattle.service_step.specs.State.{given, next_link}
use Rattle.service_step.specs.Steps.{is_new_pair, may_make}
use Rattle.charlotte_calls.specs.declared.names.LinkId.{LinkId}

new-unmade : (t : EndId → End) (o : Option LinkId) (a b : EndId) → is_new_pair t o a b ≡ true → (is_made (t a).place ≡ false) × (is_made (t b).place ≡ false)
new-unmade t None a b may = absurd (true≢false (sym may))
new-unmade t (Some link) a b may = let five = and-true _ _ may in (not-true _ (and-true _ _ five.0).1, not-true _ five.1)

unmade-sends : (s : State) (e : EndId) → IsConsistent s → is_made (s.ends e).place ≡ false → sends_of (s.ends e) ≡ sends_of unmade
unmade-sends s e k not = ap sends_of (k.kept.unmade e (by (s.ends e).place not))
  where
    by : (at : Place) → is_made at ≡ false → at ≡ place.Unmade
    by place.Unmade is = refl
    by (place.Owned p) is = absurd (true≢false is)
    by (place.InMessage f n) is = absurd (true≢false is)
    by place.Destroyed is = absurd (true≢false is)

move-make : (s : State) (p : Pid) (a b f : EndId) → IsConsistent s → may_make s p a b ≡ true → Move s (step.Make p a b) (after_make p a b s) f
move-make s p a b f k may =
    let both = new-unmade s.ends (next_link s p) a b (and-true _ _ may).1 in
    still-as s (step.Make p a b) (after_make p a b s) f (makes-sends p a b s.ends f (unmade-sends s a k both.0) (unmade-sends s b k both.1)) (none f _ _ refl refl refl refl)

module _ (s : State) (e : EndId) (n : ℕ) (bytes : List ℕ) (xs : List EndId) (f : EndId) (may : may_send s e n xs ≡ true) where
  move-send : Move s (step.Send e n bytes xs) (record s { ends = starts_send e n (record { bytes = bytes; carried = xs }) s.ends }) f
  unfolding starts_send
  move-send =
      move-by s _ t f e its
      (λ apart. still-as s _ t f (places-sends (place.InMessage e n) xs (puts e y s.ends) f ∙ ap sends_of (puts-apart e f y s.ends apart)) (none f _ _ (number-other f e n apart) refl refl refl))
    where
      y : End
      y = record (s.ends e) { outward = outward.Waiting (record { bytes = bytes; carried = xs }); sent = n }

      t : State
      t = record s { ends = places (place.InMessage e n) xs (puts e (record (s.ends e) { outward = outward.Waiting (record { bytes = bytes; carried = xs }); sent = n }) s.ends) }

      facts : (is_made (s.ends e).place ≡ true) × ((s.ends e).outward ≡ outward.Idle) × (n ≡ (s.ends e).sent + 1)
      facts = may-sent s e n xs may

      now : sends_of (t.ends e) ≡ sends_of y
      now = places-sends (place.InMessage e n) xs (puts e y s.ends) e ∙ ap sends_of (puts-at e y s.ends facts.0)

      its : f ≡ e → Move s (step.Send e n bytes xs) t f
      its same =
          subst (λ z. Move s (step.Send e n bytes xs) t z) (sym same)
          (sent (record { bytes = bytes; carried = xs }) facts.1 (ap (λ z. z.outward) now) (ap (λ z. z.sent) now ∙ facts.2)
          (record { sends = number-its e e n refl ∙ ap (λ z. z ∷ []) facts.2; matches = refl; takes = refl; completes = refl }))

module _ (s : State) (e : EndId) (w : Way) (f : EndId) where
  move-cancel : (o : Option Pid) (w : Way) → Move s (step.Cancel e w) (after_cancel o e w s) f
  unfolding withdraws_send turns_outward
  move-cancel None w = still-as s _ s f refl (none f _ _ refl refl refl refl)
  move-cancel (Some p) way.Outward = move-over s _ _ f e (record (s.ends e) { outward = outward.Idle }) (place.Owned p) (carried_by (waiting_message (s.ends e).outward)) (none f _ _ refl refl refl refl) refl (inl (inl refl)) refl
  move-cancel (Some p) way.Inward = still-as s _ _ f refl (none f _ _ refl refl refl refl)

module _ (s : State) (p : Pid) (r : Report) (f : EndId) where
  move-report : (w : Way) → Move s (step.Report p r) (record s { ends = idles w r.on s.ends; process = given p s.process }) f
  unfolding idles turns_outward places
  move-report way.Outward = move-over s _ _ f r.on (record (s.ends r.on) { outward = outward.Idle }) place.Destroyed [] (none f _ _ refl refl refl refl) refl (inl (inl refl)) refl
  move-report way.Inward = still-as s _ _ f (turns_inward-sends inward.Idle r.on s.ends f) (none f _ _ refl refl refl refl)

matching-number : (s : State) (e : EndId) (n : ℕ) → may_match s.ends e n ≡ true → (s.ends e).sent ≡ n
matching-number s e n may =
    let two : is_some (waiting_message (s.ends e).outward) && nat_eq (s.ends e).sent n ≡ true = (and-true _ _ (and-true _ _ may).0).0 in
    same-number (s.ends e).sent n (and-true _ _ two).1

pub complete-number : (s : State) (e : EndId) (n : ℕ) → may_complete s.ends e n ≡ true → (s.ends e).sent ≡ n
complete-number s e n may =
    let two : is_taken (s.ends e).outward && nat_eq (s.ends e).sent n ≡ true = (and-true _ _ may).0 in
    same-number (s.ends e).sent n (and-true _ _ two).1

pub take-number : (s : State) (e : EndId) (n : ℕ) (p : Pid) (late : Bool) → may_take s e n p late ≡ true → (s.ends e).sent ≡ n
take-number s e n p late may =
    let two : is_some (matched_message (s.ends e).outward) && nat_eq (s.ends e).sent n ≡ true = (and-true _ _ (and-true _ _ (and-true _ _ (and-true _ _ may).0).0).0).0 in
    same-number (s.ends e).sent n (and-true _ _ two).1

module _ (s : State) (e : EndId) (n : ℕ) (f : EndId) (k : IsConsistent s) (may : may_match s.ends e n ≡ true) where
  move-match : Move s (step.Match e n) (record s { ends = matches e n s.ends }) f
  unfolding matches turns_outward
  move-match =
      move-by s _ t f e its
      (λ apart. still-as s _ t f (turns_inward-sends (inward.Matched n) (opposite e) (puts e y s.ends) f ∙ ap sends_of (puts-apart e f y s.ends apart)) (none f _ _ refl (number-other f e n apart) refl refl))
    where
      y : End
      y = record (s.ends e) { outward = matched_outward (s.ends e).outward }

      t : State
      t = record s { ends = turns_inward (inward.Matched n) (opposite e) (puts e (record (s.ends e) { outward = matched_outward (s.ends e).outward }) s.ends) }

      waits : (m : Message) × ((s.ends e).outward ≡ outward.Waiting m)
      waits = waiting-Waiting (s.ends e).outward (and-true _ _ (and-true _ _ (and-true _ _ may).0).0).0

      number : (s.ends e).sent ≡ n
      number = matching-number s e n may

      differ : (m : Message) → (s.ends e).outward ≡ outward.Waiting m → (s.ends e).outward ≡ outward.Idle → ⊥
      differ m a b = cc

      now : sends_of (t.ends e) ≡ sends_of y
      now = turns_inward-sends (inward.Matched n) (opposite e) (puts e y s.ends) e ∙ ap sends_of (puts-at e y s.ends (busy-made s e k (busy-outward (s.ends e) (differ waits.0 waits.1))))

      its : f ≡ e → Move s (step.Match e n) t f
      its same =
          subst (λ z. Move s (step.Match e n) t z) (sym same)
          (matched waits.0 waits.1 (ap (λ z. z.outward) now ∙ ap matched_outward waits.1) (ap (λ z. z.sent) now) (ap (step.Match e) (sym number))
          (record { sends = refl; matches = number-its e e n refl ∙ ap (λ z. z ∷ []) (sym number); takes = refl; completes = refl }))

module _ (s : State) (e : EndId) (n : ℕ) (p : Pid) (late : Bool) (f : EndId) (k : IsConsistent s) (may : may_take s e n p late ≡ true) where
  move-take : Move s (step.Take e n p late) (after_take e p s) f
  unfolding takes turns_outward
  move-take =
      move-by s _ t f e its (λ apart. still-as s _ t f (whole f ∙ ap sends_of (puts-apart e f y s.ends apart)) (none f _ _ refl refl (number-other f e n apart) refl))
    where
      y : End
      y = record (s.ends e) { outward = outward.Taken }

      t : State
      t = after_take e p s

      whole : (q : EndId) → sends_of (takes e p s.ends q) ≡ sends_of (puts e (record (s.ends e) { outward = outward.Taken }) s.ends q)
      whole q =
          places-sends (place.Owned p) (carried_by (matched_message (s.ends e).outward)) (turns_inward inward.Unreported (opposite e) (puts e (record (s.ends e) { outward = outward.Taken }) s.ends)) q
          ∙ turns_inward-sends inward.Unreported (opposite e) (puts e (record (s.ends e) { outward = outward.Taken }) s.ends) q

      found : (m : Message) × ((s.ends e).outward ≡ outward.Matched m)
      found = take-matched s e n p late k may

      number : (s.ends e).sent ≡ n
      number = take-number s e n p late may

      differ : (m : Message) → (s.ends e).outward ≡ outward.Matched m → (s.ends e).outward ≡ outward.Idle → ⊥
      differ m a b = cc

      now : sends_of (t.ends e) ≡ sends_of y
      now = whole e ∙ ap sends_of (puts-at e y s.ends (busy-made s e k (busy-outward (s.ends e) (differ found.0 found.1))))

      its : f ≡ e → Move s (step.Take e n p late) t f
      its same =
          subst (λ z. Move s (step.Take e n p late) t z) (sym same)
          (taken found.0 p late found.1 (ap (λ z. z.outward) now) (ap (λ z. z.sent) now) (ap (λ i. step.Take e i p late) (sym number)) (take-owned s e n p late k may)
          (record { sends = refl; matches = refl; takes = number-its e e n refl ∙ ap (λ z. z ∷ []) (sym number); completes = refl }))

module _ (s : State) (e : EndId) (n : ℕ) (f : EndId) (k : IsConsistent s) (may : may_complete s.ends e n ≡ true) where
  move-complete : Move s (step.Complete e n) (after_complete e s) f
  unfolding turns_outward
  move-complete = move-by s _ t f e its (λ apart. still-as s _ t f (ap sends_of (puts-apart e f y s.ends apart)) (none f _ _ refl refl refl (number-other f e n apart)))
    where
      y : End
      y = record (s.ends e) { outward = outward.Unreported }

      t : State
      t = after_complete e s

      is : (s.ends e).outward ≡ outward.Taken
      is = taken-Taken (s.ends e).outward (and-true _ _ (and-true _ _ may).0).0

      number : (s.ends e).sent ≡ n
      number = complete-number s e n may

      differ : (s.ends e).outward ≡ outward.Taken → (s.ends e).outward ≡ outward.Idle → ⊥
      differ a b = cc

      now : puts e (record (s.ends e) { outward = outward.Unreported }) s.ends e ≡ record (s.ends e) { outward = outward.Unreported }
      now = puts-at e (record (s.ends e) { outward = outward.Unreported }) s.ends (busy-made s e k (busy-outward (s.ends e) (differ is)))

      its : f ≡ e → Move s (step.Complete e n) t f
      its same =
          subst (λ z. Move s (step.Complete e n) t z) (sym same)
          (completed is (ap (λ z. z.outward) now) (ap (λ z. z.sent) now) (record { sends = refl; matches = refl; takes = refl; completes = number-its e e n refl ∙ ap (λ z. z ∷ []) (sym number) }))

module _ (s : State) (e : EndId) (x : ServiceStep) (f : EndId) (y : End) (g : ℕ → Process) (numbers : (t : State) → HasNumbers f (x, t) [] [] [] [])
    (which : ((y.outward ≡ outward.Idle) ⊎ ((y.outward ≡ outward.Unreported) × (y.noticed ≡ true))) ⊎ ((y.outward ≡ (s.ends e).outward) × ((y.noticed ≡ false) → (s.ends e).noticed ≡ false))) (number : y.sent ≡ (s.ends e).sent) where
  move-owner : (o : Option Pid) (xs : List EndId) → Move s x (record s { ends = to_owner o xs (puts e y s.ends); process = g }) f
  unfolding places
  move-owner None xs = move-over s x _ f e y place.Destroyed [] (numbers _) refl which number
  move-owner (Some p) xs = move-over s x _ f e y (place.Owned p) xs (numbers _) refl which number

move-notice : (s : State) (e : EndId) (dead : Bool) (f : EndId) → Move s (step.Notice e dead) (after_notice e s) f
unfolding notices
move-notice s e dead f = move-owner s e (step.Notice e dead) f (noticed_end (s.ends e)) _ (λ t. none f _ _ refl refl refl refl) (which (noticed-or (s.ends e).outward)) refl (owner (s.ends e).place) (carried_by (waiting_message (s.ends e).outward))
  where
    which : (noticed_outward (s.ends e).outward ≡ outward.Unreported) ⊎ (noticed_outward (s.ends e).outward ≡ (s.ends e).outward)
        → (((noticed_end (s.ends e)).outward ≡ outward.Idle) ⊎ (((noticed_end (s.ends e)).outward ≡ outward.Unreported) × ((noticed_end (s.ends e)).noticed ≡ true)))
        ⊎ (((noticed_end (s.ends e)).outward ≡ (s.ends e).outward) × (((noticed_end (s.ends e)).noticed ≡ false) → (s.ends e).noticed ≡ false))
    which (inl reported) = inl (inr (reported, refl))
    which (inr same) = inr (same, λ open_yet. absurd (true≢false open_yet))

module _ (s : State) (e : EndId) (n : ℕ) (dead : Bool) (f : EndId) (g : ℕ → Process) (o : Option Pid) (xs : List EndId) where
  move-back : (b c : Bool) → (s.ends e).noticed ≡ c
      → Move s (step.Back e n dead)
      (record s {
        ends =
            if b then places place.Destroyed xs (turns_outward outward.Idle e s.ends)
            else to_owner o xs (puts e (if c then record (s.ends e) { outward = outward.Unreported } else noticed_end (record (s.ends e) { outward = outward.Unreported })) s.ends);
        process = g;
      }) f
  unfolding turns_outward
  move-back true c is = move-over s (step.Back e n dead) _ f e (record (s.ends e) { outward = outward.Idle }) place.Destroyed xs (none f _ _ refl refl refl refl) refl (inl (inl refl)) refl
  move-back false true is = move-owner s e (step.Back e n dead) f (record (s.ends e) { outward = outward.Unreported }) g (λ t. none f _ _ refl refl refl refl) (inl (inr (refl, is))) refl o xs
  move-back false false is = move-owner s e (step.Back e n dead) f (noticed_end (record (s.ends e) { outward = outward.Unreported })) g (λ t. none f _ _ refl refl refl refl) (inl (inr (refl, refl))) refl o xs

move-return : (s : State) (e : EndId) (n : ℕ) (dead : Bool) (f : EndId) → Move s (step.Back e n dead) (after_return e s) f
unfolding returns
move-return s e n dead f = move-back s e n dead f _ (owner (s.ends e).place) (carried_by (matched_message (s.ends e).outward)) (is_destroyed (s.ends e).place) (s.ends e).noticed refl

-- each step
pub move : (s : State) (x : ServiceStep) (t : State) (f : EndId) → IsConsistent s → IsServiceStep s x t → Move s x t f
move s (step.Make p a b) t f k is = subst (λ z. Move s (step.Make p a b) z f) (sym is.after) (move-make s p a b f k is.allowed)
move s (step.Refuse p call cause) t f k is = subst (λ z. Move s (step.Refuse p call cause) z f) (sym is.after) (still-as s _ s f refl (none f _ _ refl refl refl refl))
move s (step.Destroy e) t f k is = subst (λ z. Move s (step.Destroy e) z f) (sym is.after) (move-ended s (step.Destroy e) _ f (none f _ _ refl refl refl refl) (destroys-ended e s.ends f))
move s (step.Send e n bytes xs) t f k is = subst (λ z. Move s (step.Send e n bytes xs) z f) (sym is.after) (move-send s e n bytes xs f is.allowed)
move s (step.Receive e) t f k is = subst (λ z. Move s (step.Receive e) z f) (sym is.after) (still-as s (step.Receive e) _ f (turns_inward-sends inward.Posted e s.ends f) (none f _ _ refl refl refl refl))
move s (step.Cancel e w) t f k is = subst (λ z. Move s (step.Cancel e w) z f) (sym is.after) (move-cancel s e w f (owner (s.ends e).place) w)
move s (step.Wait p) t f k is = subst (λ z. Move s (step.Wait p) z f) (sym is.after) (still-as s (step.Wait p) _ f refl (none f _ _ refl refl refl refl))
move s (step.Report p r) t f k is = subst (λ z. Move s (step.Report p r) z f) (sym is.after) (move-report s p r f r.way)
move s (step.Exit p) t f k is = move-ended s (step.Exit p) t f (none f _ _ refl refl refl refl) (subst (λ z. IsEndedAt z) (sym is.after.after) (destroys_each-ended p is.after.mine s.ends f))
  where
    IsEndedAt : State → Type 0
    IsEndedAt z = (sends_of (z.ends f) ≡ sends_of (s.ends f)) ⊎ (((z.ends f).outward ≡ outward.Idle) × ((z.ends f).sent ≡ (s.ends f).sent))
move s (step.Match e n) t f k is = subst (λ z. Move s (step.Match e n) z f) (sym is.after) (move-match s e n f k is.allowed)
move s (step.Take e n p late) t f k is = subst (λ z. Move s (step.Take e n p late) z f) (sym is.after) (move-take s e n p late f k is.allowed)
move s (step.Complete e n) t f k is = subst (λ z. Move s (step.Complete e n) z f) (sym is.after) (move-complete s e n f k is.allowed)
move s (step.Withdraw e) t f k is = subst (λ z. Move s (step.Withdraw e) z f) (sym is.after) (still-as s (step.Withdraw e) _ f (turns_inward-sends inward.Withdrawn e s.ends f) (none f _ _ refl refl refl refl))
move s (step.Free e) t f k is = subst (λ z. Move s (step.Free e) z f) (sym is.after) (still-as s (step.Free e) _ f (turns_inward-sends inward.Idle e s.ends f) (none f _ _ refl refl refl refl))
move s (step.Notice e dead) t f k is = subst (λ z. Move s (step.Notice e dead) z f) (sym is.after) (move-notice s e dead f)
move s (step.Back e n dead) t f k is = subst (λ z. Move s (step.Back e n dead) z f) (sym is.after) (move-return s e n dead f)
