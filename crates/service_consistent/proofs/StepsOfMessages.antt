-- The steps between calls leave a consistent state: match, take, complete, withdraw and free.
use Rattle.std.proofs.Common.{◌≡◌, ◌≢◌, ℕ, ◌+◌, Bool, true, false, true≢false, nat_eq, ◌&&◌, not, is_some, ◌⊎◌, inl, inr, if◌then◌else◌, Some, None, [], ◌∷◌, refl, sym, ap, subst, ◌∙◌}
use Rattle.charlotte_calls.specs.Names.{opposite}
use Rattle.charlotte_calls.specs.declared.names.EndId.{EndId}
use Rattle.charlotte_calls.specs.declared.names.Outcome.TheVariants as outcome
use Rattle.charlotte_calls.specs.declared.names.Pid.{Pid}
use Rattle.charlotte_calls.specs.declared.names.Way.{Way}
use Rattle.charlotte_calls.specs.declared.names.Way.TheVariants as way
use Rattle.service_change.proofs.Change.{none-some, well-kept}
use Rattle.service_change.proofs.Counts.{IsAfter, and-true, pid_tells}
use Rattle.service_change.proofs.EndEq.{end_eq-refl, opposite-apart}
use Rattle.service_change.proofs.Shapes.{IsLed, IsNewly, IsNext, IsShape, IsTold, consistent-by, going-led, going-same, here-kept, here-woken, shape-dropped, shape-kept, telling-quiet, telling-told}
use Rattle.service_lawful.specs.Consistent.{IsConsistent, is_over}
use Rattle.service_change.proofs.EndEq.{end_eq-same, end_eq-sym, puts-at, puts-other}
use Rattle.service_change.proofs.Facts.{IsWell-changed, away-owned, busy-away, busy-inward, busy-made, busy-outward, led-wakes, made-owned, matched-Matched, matched_with-Matched, next-same, over-both}
use Rattle.service_change.proofs.Facts.{owned_by-Owned, owner-Owned, owner_cancels-is, posted-Posted, some-is, taken-Taken, told-gains, told-tells, waiting-Waiting, wakes-woken, withdrawn-Withdrawn}
use Rattle.service_step.specs.Ends.{end_eq, is_made, owner, is_idle, is_posted, is_unreported_outward, is_unreported_inward, is_started_inward, is_taken, is_withdrawn, matched_message, matched_outward, waiting_message, carried_by, places, puts, matches, takes, turns_inward, turns_outward}
use Rattle.service_step.specs.Lawful.{IsHeldAt, message_of}
use Rattle.service_step.specs.State.{State, gains, owner_cancels, receive_report, send_report, tells, wakes}
use Rattle.service_step.specs.Steps.{after_complete, after_free, after_take, done_reports, gains_owner, may_complete, may_free, may_match, may_take, may_withdraw, wakes_owner}
use Rattle.service_step.specs.declared.state.End.{End}
use Rattle.service_step.specs.declared.state.Inward.{Inward}
use Rattle.service_step.specs.declared.state.Inward.TheVariants as inward
use Rattle.service_step.specs.declared.state.Message.{Message}
use Rattle.service_step.specs.declared.state.Outward.{Outward}
use Rattle.service_step.specs.declared.state.Outward.TheVariants as outward
use Rattle.service_step.specs.declared.state.Phase.TheVariants as phase
use Rattle.service_step.specs.declared.state.Place.TheVariants as place

-- nobody is in a Cancel of the receive on an end that starts no receive, or else the receive stays started
module _ (s t : State) (e : EndId) (x : End) (k : IsConsistent s) (same : t.process ≡ s.process) where
  -- an end changes, with no word to any process
  pub silent-change : t.made ≡ s.made → t.homes ≡ s.homes → IsShape s t e x [] place.Destroyed → x.place ≡ (s.ends e).place → IsNext s e x → (is_started_inward (s.ends e).inward ≡ true → is_started_inward x.inward ≡ true)
      → ((w : Way) → is_over w x ≡ is_over w (s.ends e)) → IsConsistent t
  silent-change made homes shape stays next started over =
      consistent-by s t e x [] place.Destroyed k made homes shape next
      (going-same s t e same
      (here-kept s t e k.processes (λ p is. sym (ap (λ f. (f p.0).phase) same) ∙ is) (ap (λ z. z.place) shape.is ∙ stays)
      (λ is. ap (λ z. is_started_inward z.inward) shape.is ∙ started is)))
      (telling-quiet s t e k (λ q. ap (λ f. (f q.0).reports) same) (λ w. ap (is_over w) shape.is ∙ over w) (subst (λ z. IsAfter (s.ends e).place z.place) (sym shape.is) next.after))

-- match
module _ (s : State) (e : EndId) (n : ℕ) (k : IsConsistent s) where
  matched-message : (out : Outward) → message_of (matched_outward out) ≡ message_of out
  matched-message outward.Idle = refl
  matched-message (outward.Waiting m) = refl
  matched-message (outward.Matched m) = refl
  matched-message outward.Taken = refl
  matched-message outward.Unreported = refl

  matched-over : (out : Outward) → is_unreported_outward (matched_outward out) ≡ is_unreported_outward out
  matched-over outward.Idle = refl
  matched-over (outward.Waiting m) = refl
  matched-over (outward.Matched m) = refl
  matched-over outward.Taken = refl
  matched-over outward.Unreported = refl

  matched-waits : (out : Outward) (m : Message) → matched_outward out ≡ outward.Waiting m → ⊥
  matched-waits outward.Idle m is = cc
  matched-waits (outward.Waiting a) m is = cc
  matched-waits (outward.Matched a) m is = cc
  matched-waits outward.Taken m is = cc
  matched-waits outward.Unreported m is = cc

  sends-matched : (m : Message) → (s.ends e).outward ≡ outward.Waiting m → IsConsistent (record s { ends = turns_outward (matched_outward (s.ends e).outward) e s.ends })
  unfolding turns_outward
  sends-matched m waits =
      silent-change s _ e x k refl refl refl (shape-kept s _ e x refl made (matched-message (s.ends e).outward) refl) refl
      (next-same s e x k made refl refl
      (IsWell-changed e (s.ends e) x (well-kept s k.kept k.noticed e) refl made (busy-away s e k busy) (λ a has. sym (matched-message (s.ends e).outward) ∙ has) (λ a has. absurd (matched-waits (s.ends e).outward a has))
      (k.noticed.inward e)))
      (λ is. is) (over-both (s.ends e) x (matched-over (s.ends e).outward) refl)
    where
      x : End
      x = record (s.ends e) { outward = matched_outward (s.ends e).outward }

      differ : (s.ends e).outward ≡ outward.Idle → ⊥
      differ idle = cc

      busy : is_idle (s.ends e) ≡ false
      busy = busy-outward (s.ends e) differ

      made : is_made (s.ends e).place ≡ true
      made = busy-made s e k busy

-- a posted receive goes on to something started
pub posted-goes : (s : State) (e : EndId) (to : Inward) → IsConsistent s → (s.ends e).inward ≡ inward.Posted → is_started_inward to ≡ true → is_unreported_inward to ≡ false → IsConsistent (record s { ends = turns_inward to e s.ends })
unfolding turns_inward
posted-goes s e to k posted started open_yet =
    silent-change s _ e x k refl refl refl (shape-kept s _ e x refl made refl refl) refl
    (next-same s e x k made refl refl
    (IsWell-changed e (s.ends e) x (well-kept s k.kept k.noticed e) refl made (busy-away s e k busy) (λ a has. has) (λ a has. (has, λ noticed. noticed))
    (λ noticed living. absurd (true≢false (sym (sym (k.noticed.inward e noticed living) ∙ ap is_started_inward posted))))))
    (λ is. started) (over-both (s.ends e) x refl (open_yet ∙ sym (ap is_unreported_inward posted)))
  where
    x : End
    x = record (s.ends e) { inward = to }

    differ : (s.ends e).inward ≡ inward.Idle → ⊥
    differ idle = cc

    busy : is_idle (s.ends e) ≡ false
    busy = busy-inward (s.ends e) differ

    made : is_made (s.ends e).place ≡ true
    made = busy-made s e k busy

pub consistent-match : (s : State) (e : EndId) (n : ℕ) → IsConsistent s → may_match s.ends e n ≡ true → IsConsistent (record s { ends = matches e n s.ends })
unfolding matches turns_outward
consistent-match s e n k may =
    posted-goes (record s { ends = turns_outward (matched_outward (s.ends e).outward) e s.ends }) (opposite e) (inward.Matched n) (sends-matched s e n k waits.0 waits.1)
    (ap (λ z. z.inward) (puts-other e _ s.ends (opposite e) (end_eq-sym e (opposite e) ∙ opposite-apart e)) ∙ posted-Posted (s.ends (opposite e)).inward three.1) refl refl
  where
    three : (is_some (waiting_message (s.ends e).outward) && nat_eq (s.ends e).sent n && not (s.ends e).noticed ≡ true) × (is_posted (s.ends (opposite e)).inward ≡ true)
    three = and-true _ _ may

    waits : (m : Message) × ((s.ends e).outward ≡ outward.Waiting m)
    waits = waiting-Waiting (s.ends e).outward (and-true _ _ (and-true _ _ three.0).0).0

-- withdraw
pub consistent-withdraw : (s : State) (e : EndId) → IsConsistent s → may_withdraw s e ≡ true → IsConsistent (record s { ends = turns_inward inward.Withdrawn e s.ends })
consistent-withdraw s e k may = posted-goes s e inward.Withdrawn k (posted-Posted (s.ends e).inward (and-true _ _ may).0) refl refl

-- an owner has not ended
pub owned-lives : (s : State) (e : EndId) (p : Pid) → IsConsistent s → (s.ends e).place ≡ place.Owned p → (s.process p.0).phase ≢ phase.Ended
owned-lives s e p k owned = subst (IsHeldAt s e) owned (k.kept.held.held e)

-- free
module _ (s : State) (e : EndId) (p : Pid) (k : IsConsistent s) (owned : (s.ends e).place ≡ place.Owned p) (withdrawn : (s.ends e).inward ≡ inward.Withdrawn) where
  freed : IsConsistent (record s { ends = turns_inward inward.Idle e s.ends; process = wakes p e s.process })
  unfolding turns_inward
  freed =
      consistent-by s _ e x [] place.Destroyed k refl refl shape
      (next-same s e x k made refl refl
      (IsWell-changed e (s.ends e) x (well-kept s k.kept k.noticed e) refl made (away-owned (s.ends e).place p owned) (λ a has. has) (λ a has. (has, λ noticed. noticed)) (λ noticed living. refl)))
      (going-led s _ e p led (owned-lives s e p k owned) (here-woken s _ e p k.processes led owned (wakes-woken p e s.process).woken))
      (telling-quiet s _ e k (wakes-woken p e s.process).reports (λ w. ap (is_over w) shape.is ∙ over-both (s.ends e) x refl (sym (ap is_unreported_inward withdrawn)) w) (inl (ap (λ z. z.place) shape.is)))
    where
      x : End
      x = record (s.ends e) { inward = inward.Idle }

      made : is_made (s.ends e).place ≡ true
      made = made-owned (s.ends e).place p owned

      shape : IsShape s (record s { ends = puts e (record (s.ends e) { inward = inward.Idle }) s.ends; process = wakes p e s.process }) e (record (s.ends e) { inward = inward.Idle }) [] place.Destroyed
      shape = shape-kept s _ e (record (s.ends e) { inward = inward.Idle }) refl made refl refl

      led : IsLed s (record s { ends = puts e (record (s.ends e) { inward = inward.Idle }) s.ends; process = wakes p e s.process }) p
      led = led-wakes s _ p e refl

pub consistent-free : (s : State) (e : EndId) → IsConsistent s → may_free s e ≡ true → IsConsistent (after_free e s)
consistent-free s e k may =
    subst (λ o. IsConsistent (record s { ends = turns_inward inward.Idle e s.ends; process = wakes_owner o e s.process })) (sym found.1)
    (freed s e found.0 k (owner-Owned (s.ends e).place found.0 found.1) (withdrawn-Withdrawn (s.ends e).inward both.0))
  where
    both : (is_withdrawn (s.ends e).inward ≡ true) × (owner_cancels (owner (s.ends e).place) e s.process ≡ true)
    both = and-true _ _ may

    found : (p : Pid) × (owner (s.ends e).place ≡ Some p)
    found = owner_cancels-is (owner (s.ends e).place) e s.process both.1

-- complete
module _ (s : State) (e : EndId) (p : Pid) (k : IsConsistent s) (owned : (s.ends e).place ≡ place.Owned p) (taken : (s.ends e).outward ≡ outward.Taken) where
  completed : IsConsistent (record s { ends = turns_outward outward.Unreported e s.ends; process = gains p (send_report e outcome.Done [] ∷ []) s.process })
  unfolding turns_outward
  completed =
      let t : State = record s { ends = puts e (record (s.ends e) { outward = outward.Unreported }) s.ends; process = gains p (send_report e outcome.Done [] ∷ []) s.process } in
      consistent-by s t e x [] place.Destroyed k refl refl shape
      (next-same s e x k made refl refl
      (IsWell-changed e (s.ends e) x (well-kept s k.kept k.noticed e) refl made (away-owned (s.ends e).place p owned) (λ a has. absurd (none-some None a refl has)) (λ a has. absurd (differ a has)) (k.noticed.inward e)))
      (going-led s t e p told.led (owned-lives s e p k owned)
      (here-kept s t e k.processes (λ q is. cancels q is (pid_tells p q)) (ap (λ z. z.place) shape.is) (λ is. ap (λ z. is_started_inward z.inward) shape.is ∙ is)))
      (telling-told s t e p (send_report e outcome.Done [] ∷ []) k told ((refl, λ opens. refl), tt) owned (ap (λ z. z.place) shape.is) newly)
    where
      x : End
      x = record (s.ends e) { outward = outward.Unreported }

      made : is_made (s.ends e).place ≡ true
      made = made-owned (s.ends e).place p owned

      differ : (a : Message) → outward.Unreported ≡ outward.Waiting a → ⊥
      differ a same = cc

      shape : IsShape s (record s { ends = puts e (record (s.ends e) { outward = outward.Unreported }) s.ends; process = gains p (send_report e outcome.Done [] ∷ []) s.process }) e (record (s.ends e) { outward = outward.Unreported }) [] place.Destroyed
      shape = shape-kept s _ e (record (s.ends e) { outward = outward.Unreported }) refl made (sym (ap message_of taken)) refl

      told : IsTold s (record s { ends = puts e (record (s.ends e) { outward = outward.Unreported }) s.ends; process = gains p (send_report e outcome.Done [] ∷ []) s.process }) p (send_report e outcome.Done [] ∷ [])
      told = told-gains s _ p (send_report e outcome.Done [] ∷ []) refl

      cancels : (q : Pid) → (gains p (send_report e outcome.Done [] ∷ []) s.process q.0).phase ≡ phase.Cancelling e → ((nat_eq p.0 q.0 ≡ true) × (p ≡ q)) ⊎ ((nat_eq p.0 q.0 ≡ false) × (p.0 ≢ q.0)) → (s.process q.0).phase ≡ phase.Cancelling e
      cancels q is (inl same) = subst (λ z. (s.process z.0).phase ≡ phase.Cancelling e) same.1 (led told.led.phase (subst (λ z. (gains p (send_report e outcome.Done [] ∷ []) s.process z.0).phase ≡ phase.Cancelling e) (sym same.1) is))
        where
          led : ((gains p (send_report e outcome.Done [] ∷ []) s.process p.0).phase ≡ (s.process p.0).phase) ⊎ ((gains p (send_report e outcome.Done [] ∷ []) s.process p.0).phase ≡ phase.Running)
              → (gains p (send_report e outcome.Done [] ∷ []) s.process p.0).phase ≡ phase.Cancelling e → (s.process p.0).phase ≡ phase.Cancelling e
          led (inl same) is = sym same ∙ is
          led (inr runs) is = let apart : phase.Running ≡ phase.Cancelling e = sym runs ∙ is in absurd (cc)
      cancels q is (inr apart) = sym (ap (λ z. z.phase) (told.led.others q apart.0)) ∙ is

      newly : (w : Way) → IsNewly s (record s { ends = puts e (record (s.ends e) { outward = outward.Unreported }) s.ends; process = gains p (send_report e outcome.Done [] ∷ []) s.process }) e (send_report e outcome.Done [] ∷ []) w
      newly way.Outward = inr (ap is_unreported_outward taken, ap (λ z. is_unreported_outward z.outward) shape.is, ap (λ b. (if b && true then 1 else 0) + 0) (end_eq-refl e))
      newly way.Inward = inl (ap (λ z. is_unreported_inward z.inward) shape.is, ap (λ b. (if b && false then 1 else 0) + 0) (end_eq-refl e))

pub consistent-complete : (s : State) (e : EndId) (n : ℕ) → IsConsistent s → may_complete s.ends e n ≡ true → IsConsistent (after_complete e s)
consistent-complete s e n k may =
    subst (λ o. IsConsistent (record s { ends = turns_outward outward.Unreported e s.ends; process = gains_owner o (send_report e outcome.Done [] ∷ []) s.process })) (sym found.1)
    (completed s e found.0 k (owner-Owned (s.ends e).place found.0 found.1) (taken-Taken (s.ends e).outward (and-true _ _ both.0).0))
  where
    both : (is_taken (s.ends e).outward && nat_eq (s.ends e).sent n ≡ true) × (is_some (owner (s.ends e).place) ≡ true)
    both = and-true _ _ may

    found : (p : Pid) × (owner (s.ends e).place ≡ Some p)
    found = some-is (owner (s.ends e).place) both.1

-- take: first the receive is over
module _ (s : State) (e : EndId) (p : Pid) (m : Message) (n : ℕ) (k : IsConsistent s) (owned : (s.ends e).place ≡ place.Owned p) (matched : (s.ends e).inward ≡ inward.Matched n) where
  received : IsConsistent (record s { ends = turns_inward inward.Unreported e s.ends; process = wakes p e (gains p (receive_report e m.bytes m.carried ∷ []) s.process) })
  unfolding turns_inward
  received =
      consistent-by s _ e x [] place.Destroyed k refl refl shape
      (next-same s e x k made refl refl
      (IsWell-changed e (s.ends e) x (well-kept s k.kept k.noticed e) refl made (away-owned (s.ends e).place p owned) (λ a has. has) (λ a has. (has, λ noticed. noticed)) (λ noticed living. refl)))
      (going-led s _ e p told.0.led (owned-lives s e p k owned) (here-woken s _ e p k.processes told.0.led owned told.1))
      (telling-told s _ e p (receive_report e m.bytes m.carried ∷ []) k told.0 ((refl, λ opens. refl), tt) owned (ap (λ z. z.place) shape.is) newly)
    where
      x : End
      x = record (s.ends e) { inward = inward.Unreported }

      made : is_made (s.ends e).place ≡ true
      made = made-owned (s.ends e).place p owned

      shape : IsShape s (record s { ends = puts e (record (s.ends e) { inward = inward.Unreported }) s.ends; process = wakes p e (gains p (receive_report e m.bytes m.carried ∷ []) s.process) }) e (record (s.ends e) { inward = inward.Unreported }) [] place.Destroyed
      shape = shape-kept s _ e (record (s.ends e) { inward = inward.Unreported }) refl made refl refl

      told : IsTold s (record s { ends = puts e (record (s.ends e) { inward = inward.Unreported }) s.ends; process = wakes p e (gains p (receive_report e m.bytes m.carried ∷ []) s.process) }) p (receive_report e m.bytes m.carried ∷ [])
          × ((wakes p e (gains p (receive_report e m.bytes m.carried ∷ []) s.process) p.0).phase ≡ phase.Cancelling e → ⊥)
      told = told-tells s _ p e (receive_report e m.bytes m.carried ∷ []) refl

      newly : (w : Way) → IsNewly s (record s { ends = puts e (record (s.ends e) { inward = inward.Unreported }) s.ends; process = wakes p e (gains p (receive_report e m.bytes m.carried ∷ []) s.process) }) e (receive_report e m.bytes m.carried ∷ []) w
      newly way.Inward = inr (ap is_unreported_inward matched, ap (λ z. is_unreported_inward z.inward) shape.is, ap (λ b. (if b && true then 1 else 0) + 0) (end_eq-refl e))
      newly way.Outward = inl (ap (λ z. is_unreported_outward z.outward) shape.is, ap (λ b. (if b && false then 1 else 0) + 0) (end_eq-refl e))

-- an end turns outward, and another inward, in either order
module _ (t : EndId → End) (a b : EndId) (i : Inward) (o : Outward) (apart : end_eq b a ≡ false) (made_a : is_made (t a).place ≡ true) (made_b : is_made (t b).place ≡ true) where
  pub turns-commute : turns_inward i a (turns_outward o b t) ≡ turns_outward o b (turns_inward i a t)
  unfolding turns_inward turns_outward
  turns-commute = λ j q. by q (end_eq a q) refl (end_eq b q) refl j
    where
      apart_too : end_eq a b ≡ false
      apart_too = end_eq-sym a b ∙ apart

      was_a : puts b (record (t b) { outward = o }) t a ≡ t a
      was_a = puts-other b _ t a apart

      was_b : puts a (record (t a) { inward = i }) t b ≡ t b
      was_b = puts-other a _ t b apart_too

      at_a : puts a (record (puts b (record (t b) { outward = o }) t a) { inward = i }) (puts b (record (t b) { outward = o }) t) a ≡ puts b (record (puts a (record (t a) { inward = i }) t b) { outward = o }) (puts a (record (t a) { inward = i }) t) a
      at_a =
          puts-at a _ (puts b (record (t b) { outward = o }) t) (ap (λ z. is_made z.place) was_a ∙ made_a) ∙ ap (λ (z : End). record z { inward = i }) was_a
          ∙ sym (puts-other b _ (puts a (record (t a) { inward = i }) t) a apart ∙ puts-at a (record (t a) { inward = i }) t made_a)

      at_b : puts a (record (puts b (record (t b) { outward = o }) t a) { inward = i }) (puts b (record (t b) { outward = o }) t) b ≡ puts b (record (puts a (record (t a) { inward = i }) t b) { outward = o }) (puts a (record (t a) { inward = i }) t) b
      at_b =
          puts-other a _ (puts b (record (t b) { outward = o }) t) b apart_too ∙ puts-at b (record (t b) { outward = o }) t made_b
          ∙ sym (puts-at b _ (puts a (record (t a) { inward = i }) t) (ap (λ z. is_made z.place) was_b ∙ made_b) ∙ ap (λ (z : End). record z { outward = o }) was_b)

      by : (q : EndId) (c : Bool) → end_eq a q ≡ c → (d : Bool) → end_eq b q ≡ d
          → puts a (record (puts b (record (t b) { outward = o }) t a) { inward = i }) (puts b (record (t b) { outward = o }) t) q ≡ puts b (record (puts a (record (t a) { inward = i }) t b) { outward = o }) (puts a (record (t a) { inward = i }) t) q
      by q true same d is =
          subst (λ z. puts a (record (puts b (record (t b) { outward = o }) t a) { inward = i }) (puts b (record (t b) { outward = o }) t) z ≡ puts b (record (puts a (record (t a) { inward = i }) t b) { outward = o }) (puts a (record (t a) { inward = i }) t) z) (end_eq-same a q same) at_a
      by q false none true same =
          subst (λ z. puts a (record (puts b (record (t b) { outward = o }) t a) { inward = i }) (puts b (record (t b) { outward = o }) t) z ≡ puts b (record (puts a (record (t a) { inward = i }) t b) { outward = o }) (puts a (record (t a) { inward = i }) t) z) (end_eq-same b q same) at_b
      by q false none false neither =
          puts-other a _ (puts b (record (t b) { outward = o }) t) q none ∙ puts-other b _ t q neither
          ∙ sym (puts-other b _ (puts a (record (t a) { inward = i }) t) q neither ∙ puts-other a _ t q none)

-- then the send, and the ends that the message carries are the process's
module _ (s : State) (e : EndId) (p : Pid) (m : Message) (k : IsConsistent s) (matched : (s.ends e).outward ≡ outward.Matched m) (lives : (s.process p.0).phase ≢ phase.Ended) where
  passed : IsConsistent (record s { ends = places (place.Owned p) m.carried (turns_outward outward.Taken e s.ends) })
  unfolding turns_outward
  passed =
      let t : State = record s { ends = places (place.Owned p) m.carried (puts e (record (s.ends e) { outward = outward.Taken }) s.ends) } in
      consistent-by s t e x m.carried (place.Owned p) k refl refl shape
      (next-same s e x k made refl refl
      (IsWell-changed e (s.ends e) x (well-kept s k.kept k.noticed e) refl made (busy-away s e k busy) (λ a has. absurd (none-some None a refl has)) (λ a has. absurd (waits a has)) (k.noticed.inward e)))
      (going-same s t e refl (here-kept s t e k.processes (λ q is. is) (ap (λ z. z.place) shape.is) (λ is. ap (λ z. is_started_inward z.inward) shape.is ∙ is)))
      (telling-quiet s t e k (λ q. refl) (λ w. ap (is_over w) shape.is ∙ over-both (s.ends e) x (sym (ap is_unreported_outward matched)) refl w) (inl (ap (λ z. z.place) shape.is)))
    where
      x : End
      x = record (s.ends e) { outward = outward.Taken }

      differ : (s.ends e).outward ≡ outward.Idle → ⊥
      differ idle = cc

      waits : (a : Message) → outward.Taken ≡ outward.Waiting a → ⊥
      waits a same = cc

      busy : is_idle (s.ends e) ≡ false
      busy = busy-outward (s.ends e) differ

      made : is_made (s.ends e).place ≡ true
      made = busy-made s e k busy

      shape : IsShape s (record s { ends = places (place.Owned p) m.carried (puts e (record (s.ends e) { outward = outward.Taken }) s.ends) }) e (record (s.ends e) { outward = outward.Taken }) m.carried (place.Owned p)
      shape = shape-dropped s _ e (record (s.ends e) { outward = outward.Taken }) m (place.Owned p) k (ap message_of matched) refl refl (λ q. lives) refl made

module _ (s : State) (e : EndId) (n : ℕ) (p : Pid) (late : Bool) (k : IsConsistent s) (may : may_take s e n p late ≡ true) where
  pub take-owned : (s.ends (opposite e)).place ≡ place.Owned p
  take-owned = owned_by-Owned p (s.ends (opposite e)).place (and-true _ _ (and-true _ _ (and-true _ _ (and-true _ _ may).0).0).0).1

  pub take-matched : (m : Message) × ((s.ends e).outward ≡ outward.Matched m)
  take-matched = matched-Matched (s.ends e).outward (and-true _ _ (and-true _ _ (and-true _ _ (and-true _ _ (and-true _ _ may).0).0).0).0).0

  pub take-inward : (i : ℕ) × ((s.ends (opposite e)).inward ≡ inward.Matched i)
  take-inward = matched_with-Matched n (s.ends (opposite e)).inward (and-true _ _ (and-true _ _ may).0).1

  took : (m : Message) → (s.ends e).outward ≡ outward.Matched m
      → IsConsistent (record s {
        ends = places (place.Owned p) m.carried (turns_inward inward.Unreported (opposite e) (turns_outward outward.Taken e s.ends));
        process = wakes p (opposite e) (gains p (receive_report (opposite e) m.bytes m.carried ∷ []) s.process);
      })
  unfolding turns_inward
  took m matched =
      subst (λ t. IsConsistent (record s { ends = places (place.Owned p) m.carried t; process = wakes p (opposite e) (gains p (receive_report (opposite e) m.bytes m.carried ∷ []) s.process) }))
      (sym (turns-commute s.ends (opposite e) e inward.Unreported outward.Taken (end_eq-sym e (opposite e) ∙ opposite-apart e) (made-owned (s.ends (opposite e)).place p take-owned) made))
      (passed _ e p m first (ap (λ z. z.outward) (puts-other (opposite e) _ s.ends e (opposite-apart e)) ∙ matched) lives)
    where
      first : IsConsistent (record s { ends = turns_inward inward.Unreported (opposite e) s.ends; process = wakes p (opposite e) (gains p (receive_report (opposite e) m.bytes m.carried ∷ []) s.process) })
      first = received s (opposite e) p m take-inward.0 k take-owned take-inward.1

      differ : (s.ends e).outward ≡ outward.Idle → ⊥
      differ idle = cc

      made : is_made (s.ends e).place ≡ true
      made = busy-made s e k (busy-outward (s.ends e) differ)

      lives : (wakes p (opposite e) (gains p (receive_report (opposite e) m.bytes m.carried ∷ []) s.process) p.0).phase ≢ phase.Ended
      lives =
          subst (IsHeldAt (record s { ends = turns_inward inward.Unreported (opposite e) s.ends; process = wakes p (opposite e) (gains p (receive_report (opposite e) m.bytes m.carried ∷ []) s.process) }) (opposite e))
          (ap (λ z. z.place) (puts-at (opposite e) _ s.ends (made-owned (s.ends (opposite e)).place p take-owned)) ∙ take-owned) (first.kept.held.held (opposite e))

  pub consistent-take : IsConsistent (after_take e p s)
  unfolding takes
  consistent-take =
      subst
      (λ o. IsConsistent (record s {
        ends = places (place.Owned p) (carried_by (matched_message o)) (turns_inward inward.Unreported (opposite e) (turns_outward outward.Taken e s.ends));
        process = tells (Some p) (opposite e) (done_reports (opposite e) (matched_message o)) s.process;
      }))
      (sym take-matched.1) (took take-matched.0 take-matched.1)
