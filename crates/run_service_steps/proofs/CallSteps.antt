-- Each step of a call keeps the invariant.
use Rattle.std.proofs.Common.{◌≡◌, ◌⊎◌, inl, inr, ℕ, ◌≤◌, ◌<◌, nat_eq, Bool, true, false, true≢false, if◌then◌else◌, Some, None, Ok, List, [], ◌∷◌, ◌++◌, refl, sym, ap, subst, ◌∙◌, arith}
use Rattle.std.specs.List.{Contains}
use Rattle.charlotte_calls.specs.Names.{opposite}
use Rattle.charlotte_calls.specs.declared.calls.Answer.TheVariants as answer
use Rattle.charlotte_calls.specs.declared.calls.Call.{Call}
use Rattle.charlotte_calls.specs.declared.calls.Call.TheVariants as call
use Rattle.charlotte_calls.specs.declared.calls.Cause.{Cause}
use Rattle.charlotte_calls.specs.Ranges.{AreBytes}
use Rattle.charlotte_calls.specs.declared.calls.ServiceStep.{ServiceStep}
use Rattle.charlotte_calls.specs.declared.calls.ServiceStep.TheVariants as step
use Rattle.charlotte_calls.specs.declared.names.EndId.{EndId}
use Rattle.charlotte_calls.specs.declared.names.Pid.{Pid}
use Rattle.charlotte_calls.specs.declared.names.Way.TheVariants as way
use Rattle.service_change.proofs.Counts.{pid_tells}
use Rattle.service_change.proofs.EndEq.{end_eq-refl, end_eq-same, opposite-apart, opposite-opposite}
use Rattle.service_step.specs.Ends.{end_eq}
use Rattle.service_step.specs.State.{State as Service}
use Rattle.service_step.specs.Steps.{IsServiceStep, step_number}
use Rattle.service_step.specs.declared.state.Message.{Message as Sent}
use Rattle.service_step.specs.declared.state.Place.TheVariants as place
use Rattle.service_streams.specs.Streams.{messages, numbered, sent_by}
use Rattle.service_streams.specs.Streams as streams
use Rattle.run_invariant.specs.Coming.{coming}
use Rattle.run_invariant.specs.Moves.{Moves, brings}
use Rattle.run_invariant.specs.Moves as moves
use Rattle.run_invariant.specs.Told.{own_told}
use Rattle.run_invariant.specs.Entries.{IsOwn}
use Rattle.lynx_packets.specs.Packets.{packet_of}
use Rattle.end_protocol.specs.declared.kept.Kept.{Kept}
use Rattle.end_protocol.specs.declared.messages.Message.{Message}
use Rattle.end_protocol.specs.Deeds.{Deed}
use Rattle.end_protocol.specs.Going.{enclosed, sent}
use Rattle.run_invariant.specs.Ends.{number_of}
use Rattle.run_invariant.specs.States.{Holding, Keeps}
use Rattle.run_invariant.specs.Asking.{IsCallOf, IsSending}
use Rattle.run_invariant.specs.AtEnd.{held_count}
use Rattle.run_invariant.specs.Acted.{process}
use Rattle.request_meaning.specs.Links.{enclosing}
use Rattle.run_invariant.specs.Sides.{Free, Held, Lost, Side, new_pair, sending}
use Rattle.run_invariant.specs.Sides as events
use Rattle.run_invariant.specs.Hearing.{told_of, with_owner}
use Rattle.run_invariant.specs.Invariant.{AreSpelled, HasReceive, IsFollowedTo, IsInOnePlace, IsOwned, IsOwner, IsSide, IsSideAt, IsStandingIn, IsToldTrue, Owners, Stands, told_to}
use Rattle.run_invariant.specs.Owners.{Asks, IsAskedFor, Owner, Status, Told, given_of, seen_of, turn_of}
use Rattle.run_service_steps.proofs.Callers.{with}
use Rattle.run_service_steps.proofs.CallSides.{alive, asked, its, moved, other-goes, other-goes-on, own, own-goes, own-goes-on, quiet, step-owned, step_on}
use Rattle.run_service_steps.proofs.Courses.{Turned, follows-back, follows-on}
use Rattle.run_service_steps.proofs.Custody.{same-owner}
use Rattle.run_service_steps.proofs.HeardSides.{none-given}
use Rattle.run_service_steps.proofs.Laws.{Laws}
use Rattle.run_service_steps.proofs.Owning.{Cancels, Destroys, Exits, IsQuiet, Makes, Owns, Receives, Refuses, Sends, Waits, own_status, owns-granted, owns-refused, same-pid}
use Rattle.run_service_steps.proofs.Readable.{reads-back}
use Rattle.run_service_steps.proofs.Sending.{answered, asking, held-after, held-before, out-sent}
use Rattle.run_service_steps.proofs.ServiceSteps.{AreFew}
use Rattle.run_service_steps.proofs.Sides.{Next, keeps, standing-out, turns, unmade-opposite}
use Rattle.run_service_steps.proofs.Sides as sides
use Rattle.run_service_steps.proofs.Standing.{Goes, after, owner-there, owner-was, owners-go, stays, unsent-base}

-- no message is sent on this end
abbrev pub IsNoSend : ServiceStep → EndId → Type 0
IsNoSend made x = (e : EndId) (k : ℕ) (bytes : List ℕ) (xs : List EndId) → made ≡ step.Send e k bytes xs → e ≡ x → ⊥

not-send : (one : ServiceStep) (x : EndId) → (step_number one ≡ 4 → ⊥) → IsNoSend one x
not-send one x other e k bytes xs so same = other (ap step_number so)

-- a step sends on this end or not
sends-or : (made : ServiceStep) (x : EndId) → IsNoSend made x ⊎ ((k : ℕ) × (bytes : List ℕ) × (xs : List EndId) × (made ≡ step.Send x k bytes xs))
sends-or (step.Send f k bytes xs) x = by (end_eq f x) refl
  where
    same-end : (f e : EndId) (k j : ℕ) (bytes text : List ℕ) (xs ys : List EndId) → step.Send f k bytes xs ≡ step.Send e j text ys → f ≡ e
    same-end f e k j bytes text xs ys so = cc

    by : (b : Bool) → end_eq f x ≡ b → IsNoSend (step.Send f k bytes xs) x ⊎ ((j : ℕ) × (text : List ℕ) × (ys : List EndId) × (step.Send f k bytes xs ≡ step.Send x j text ys))
    by true same = inr (k, bytes, xs, ap (λ (z : EndId). step.Send z k bytes xs) (end_eq-same f x same))
    by false apart = inl (λ e j text ys so its. true≢false (sym (ap (end_eq f) (sym its ∙ sym (same-end f e k j bytes text xs ys so)) ∙ end_eq-refl f) ∙ apart))
sends-or (step.Make p a b) x = inl (not-send (step.Make p a b) x (λ e. omega arith))
sends-or (step.Refuse p c why) x = inl (not-send (step.Refuse p c why) x (λ e. omega arith))
sends-or (step.Destroy e) x = inl (not-send (step.Destroy e) x (λ e. omega arith))
sends-or (step.Receive e) x = inl (not-send (step.Receive e) x (λ e. omega arith))
sends-or (step.Cancel e w) x = inl (not-send (step.Cancel e w) x (λ e. omega arith))
sends-or (step.Wait p) x = inl (not-send (step.Wait p) x (λ e. omega arith))
sends-or (step.Report p r) x = inl (not-send (step.Report p r) x (λ e. omega arith))
sends-or (step.Exit p) x = inl (not-send (step.Exit p) x (λ e. omega arith))
sends-or (step.Match e n) x = inl (not-send (step.Match e n) x (λ e. omega arith))
sends-or (step.Take e n p late) x = inl (not-send (step.Take e n p late) x (λ e. omega arith))
sends-or (step.Complete e n) x = inl (not-send (step.Complete e n) x (λ e. omega arith))
sends-or (step.Withdraw e) x = inl (not-send (step.Withdraw e) x (λ e. omega arith))
sends-or (step.Free e) x = inl (not-send (step.Free e) x (λ e. omega arith))
sends-or (step.Notice e dead) x = inl (not-send (step.Notice e dead) x (λ e. omega arith))
sends-or (step.Back e n dead) x = inl (not-send (step.Back e n dead) x (λ e. omega arith))

unsent-by : (made : ServiceStep) (x : EndId) → IsNoSend made x → sent_by x made ≡ []
unsent-by (step.Send f k bytes xs) x none = by (end_eq x f) refl
  where
    by : (b : Bool) → end_eq x f ≡ b → (if b then numbered k (Some (record { bytes = bytes; carried = xs })) else []) ≡ []
    by true same = absurd (none f k bytes xs refl (sym (end_eq-same x f same)))
    by false apart = refl
unsent-by _ x none = refl

-- the call of a Send
own-send : (i : ℕ) (made : ServiceStep) (c : Call) (st : Status) → Owns i made c st → (e : EndId) (k : ℕ) (bytes : List ℕ) (xs : List EndId) → made ≡ step.Send e k bytes xs
    → (c ≡ call.Send e bytes xs) × (st ≡ Told (call.Send e bytes xs) answer.Ok)
own-send i made _ _ (Sends f text ys j so) e k bytes xs also = (same f e j k text bytes ys xs (sym so ∙ also), ap (λ (d : Call). Told d answer.Ok) (same f e j k text bytes ys xs (sym so ∙ also)))
  where
    same : (f e : EndId) (j k : ℕ) (text bytes : List ℕ) (ys xs : List EndId) → step.Send f j text ys ≡ step.Send e k bytes xs → call.Send f text ys ≡ call.Send e bytes xs
    same f e j k text bytes ys xs so = cc
own-send i made _ _ (Refuses c why so) e k bytes xs also = let differ : step_number (step.Refuse (process i) c why) ≡ 4 = ap step_number (sym so ∙ also) in absurd (omega arith)
own-send i made _ _ (Makes a b so) e k bytes xs also = let differ : step_number (step.Make (process i) a b) ≡ 4 = ap step_number (sym so ∙ also) in absurd (omega arith)
own-send i made _ _ (Destroys y so) e k bytes xs also = let differ : step_number (step.Destroy y) ≡ 4 = ap step_number (sym so ∙ also) in absurd (omega arith)
own-send i made _ _ (Receives y so) e k bytes xs also = let differ : step_number (step.Receive y) ≡ 4 = ap step_number (sym so ∙ also) in absurd (omega arith)
own-send i made _ _ (Cancels y so) e k bytes xs also = let differ : step_number (step.Cancel y way.Inward) ≡ 4 = ap step_number (sym so ∙ also) in absurd (omega arith)
own-send i made _ _ (Waits so) e k bytes xs also = let differ : step_number (step.Wait (process i)) ≡ 4 = ap step_number (sym so ∙ also) in absurd (omega arith)
own-send i made _ _ (Exits so) e k bytes xs also = let differ : step_number (step.Exit (process i)) ≡ 4 = ap step_number (sym so ∙ also) in absurd (omega arith)

-- a Send leaves the receive of its end as it is
sent-receive : (o q : Owner) (n : ℕ) (k : Kept) → given_of o.status ≡ None → HasReceive (turn_of o) n (Keeps k) → HasReceive (turn_of q) n (Keeps (sent k))
unfolding sent
sent-receive o q n k none (inl busy) = inl busy
sent-receive o q n k none (inr told) = absurd (none-given o.state.asked answer.Ok (given_of o.status) none told.1)

module _ (laws : Laws) (version count : ℕ) (s : Service) (made : ServiceStep) (t : Service) (is : IsServiceStep s made t) (n m : ℕ) (os : Owners) (deeds : EndId → List Deed)
    (before : Stands version count s n os deeds) (few : AreFew count m os) (i : ℕ) (below : i < count) (c : Call) (asks : (os i).status ≡ Asks c) (st : Status) (owns : Owns i made c st)
    (reads : (e : EndId) (bytes : List ℕ) (xs : List EndId) (a : IsSending (os i).state e bytes xs) → c ≡ call.Send e bytes xs → packet_of version bytes ≡ Ok a.message.packet) where
  abbrev now : ℕ → Status
  now j = if nat_eq i j then st else (os j).status

  abbrev qs : Owners
  qs = after now os

  each-goes : (j : ℕ) → j < count → Goes s made t m j (os j) (now j)
  each-goes j there = by (pid_tells (process i) (process j))
    where
      by : ((nat_eq i j ≡ true) × (process i ≡ process j)) ⊎ ((nat_eq i j ≡ false) × (i ≡ j → ⊥)) → Goes s made t m j (os j) (now j)
      by (inl same) =
          subst (λ (b : Bool). Goes s made t m j (os j) (if b then st else (os j).status)) (sym same.0)
          (subst (λ (p : Pid). Goes s made t m p.0 (os p.0) st) same.1 (own-goes laws version count s made t is n m os deeds before few i below c asks st owns))
      by (inr apart) =
          subst (λ (b : Bool). Goes s made t m j (os j) (if b then st else (os j).status)) (sym apart.0)
          (other-goes laws version count s made t is n m os deeds before few i below c asks st owns j there apart.1)

  next : (x : EndId) → IsNoSend made x → (j : ℕ) → j < count → Next s made j (os j) (record (os j) { status = now j }) x
  next x none j there = by (pid_tells (process i) (process j))
    where
      by : ((nat_eq i j ≡ true) × (process i ≡ process j)) ⊎ ((nat_eq i j ≡ false) × (i ≡ j → ⊥)) → Next s made j (os j) (record (os j) { status = now j }) x
      by (inl same) =
          subst (λ (b : Bool). Next s made j (os j) (record (os j) { status = if b then st else (os j).status }) x) (sym same.0)
          (subst (λ (p : Pid). Next s made p.0 (os p.0) (record (os p.0) { status = st }) x) same.1 (own-goes-on laws version count s made t is n m os deeds before few i below c asks st owns x none))
      by (inr apart) =
          subst (λ (b : Bool). Next s made j (os j) (record (os j) { status = if b then st else (os j).status }) x) (sym apart.0)
          (other-goes-on laws version count s made t is n m os deeds before few i below c asks st owns j there apart.1 x)

  ours : IsOwner version s n i (os i)
  ours = own laws version count s made t is n m os deeds before few i below c asks st owns

  call-is : IsCallOf (os i).state c
  call-is = asked laws version count s made t is n m os deeds before few i below c asks st owns

  fits-call : os i ≡ with (os i).state (Asks c)
  fits-call = its laws version count s made t is n m os deeds before few i below c asks st owns

  place-there : (x : EndId) → IsInOnePlace s (os i) i x
  place-there x = ours.custody (alive laws version count s made t is n m os deeds before few i below c asks st owns) x

  owned-there : (x : EndId) → step_on made ≡ Some x → (s.ends x).place ≡ place.Owned (process i)
  owned-there x on = step-owned laws version count s made t is n m os deeds before few i below c asks st owns x on

  moves-there : (x : EndId) → Moves s made t x
  moves-there x = moved laws version count s made t is n m os deeds before few i below c asks st owns x

  still : IsQuiet made
  still = quiet laws version count s made t is n m os deeds before few i below c asks st owns

  unheard : (x : EndId) → told_to x (given_of (os i).status) ≡ []
  unheard x = ap (λ (z : Status). told_to x (given_of z)) asks

  -- ---- the call of a Send
  module _ (e : EndId) (k : ℕ) (bytes : List ℕ) (xs : List EndId) (so : made ≡ step.Send e k bytes xs) where
    call-send : c ≡ call.Send e bytes xs
    call-send = (own-send i made c st owns e k bytes xs so).0

    sends : IsSending (os i).state e bytes xs
    sends = subst (IsCallOf (os i).state) call-send call-is

    was-asking : os i ≡ asking (os i).state e bytes xs sends ours.single
    was-asking = fits-call ∙ ap (λ (d : Call). with (os i).state (Asks d)) call-send

    now-answered : record (os i) { status = now i } ≡ answered (os i).state e bytes xs sends ours.single
    now-answered = ap (with (os i).state) (ap (λ (b : Bool). if b then st else (os i).status) (same-pid i) ∙ (own-send i made c st owns e k bytes xs so).1)

    out-some : (x : EndId) → Contains xs x → 1 ≤ (seen_of (os i) x).out
    out-some x among =
        subst (λ (o : Owner). 1 ≤ (seen_of o x).out) (sym was-asking) (let less = out-sent (os i).state e bytes xs sends ours.single x among in omega arith)

    -- an end that goes with it stands free
    leaves-free : (x : EndId) (z : Side) → Contains xs x → IsOwned version s (os i) i x z → (z.standing ≡ Free) × AreSpelled version z.coming (coming s x)
    leaves-free x z among owned = (free, by owned.coming_is)
      where
        none : held_count (seen_of (os i) x).holding ≡ 0
        none = let some = out-some x among in let one = (place-there x).one in omega arith

        free : z.standing ≡ Free
        free = standing-out (brings s (process i) x) (seen_of (os i) x) (seen_of (os i) x).holding z.standing none (let some = out-some x among in omega arith) owned.standing

        by : AreSpelled version z.coming (told_to x (given_of (os i).status) ++ coming s x) ⊎ (z.standing ≡ Lost) → AreSpelled version z.coming (coming s x)
        by (inl spells) = subst (λ (l : List Sent). AreSpelled version z.coming (l ++ coming s x)) (unheard x) spells
        by (inr lost) = let differ : Free ≡ Lost = sym free ∙ lost in absurd (cc)

    -- the end on which it is sent
    holds-before : (seen_of (os i) e).holding ≡ Keeps sends.kept
    holds-before = ap (λ (o : Owner). (seen_of o e).holding) was-asking ∙ held-before (os i).state e bytes xs sends ours.single

    holds-now : (seen_of (qs i) e).holding ≡ Keeps (sent sends.kept)
    holds-now = ap (λ (o : Owner). (seen_of o e).holding) now-answered ∙ held-after (os i).state e bytes xs sends ours.single

    own-was : (s.ends e).place ≡ place.Owned (process i)
    own-was = owned-there e (ap step_on so)

    own-here : (t.ends e).place ≡ place.Owned (process i)
    own-here = by (moves-there e)
      where
        by : Moves s made t e → (t.ends e).place ≡ place.Owned (process i)
        by (moves.Stays same brought) = same ∙ own-was
        by (moves.Makes p a b made-so new was to same) = let differ : place.Unmade ≡ place.Owned (process i) = sym was ∙ own-was in absurd (cc)
        by (moves.Leaves p f l text ys made-so among on was to same) = absurd (twice (subst (λ (zs : List EndId). Contains zs e) (same-ends f e l k text bytes ys xs (sym made-so ∙ so)) among))
          where
            same-ends : (f e : EndId) (l k : ℕ) (text bytes : List ℕ) (ys xs : List EndId) → step.Send f l text ys ≡ step.Send e k bytes xs → ys ≡ xs
            same-ends f e l k text bytes ys xs same = cc

            twice : Contains xs e → ⊥
            twice among =
                let some = out-some e among in
                let one = (place-there e).one in
                let held : held_count (seen_of (os i) e).holding ≡ 1 = ap held_count holds-before in
                omega arith
        by (moves.Lands p f l was to more none) = let differ : place.InMessage f l ≡ place.Owned (process i) = sym was ∙ own-was in absurd (cc)
        by (moves.Ends gone (inl made-so) less) = let differ : step_number (step.Send e k bytes xs) ≡ 3 = ap step_number (sym so ∙ made-so) in absurd (omega arith)
        by (moves.Ends gone (inr (inl (p, made-so, was))) less) = let differ : step_number (step.Send e k bytes xs) ≡ 9 = ap step_number (sym so ∙ made-so) in absurd (omega arith)
        by (moves.Ends gone (inr (inr (f, l, was))) less) = let differ : place.InMessage f l ≡ place.Owned (process i) = sym was ∙ own-was in absurd (cc)

  -- ---- each side

  old : (x : EndId) → IsNoSend made x → (j : ℕ) → (t.ends x).place ≡ place.Owned (process j) → IsInOnePlace s (os j) j x × IsToldTrue s j (os j).status × Next s made j (os j) (record (os j) { status = now j }) x
  old x none j theirs =
      let there : IsInOnePlace s (os j) j x × IsToldTrue s j (os j).status = owner-was laws version count s made t is still.keeps n m os now deeds before each-goes x j theirs in
      (there.0, there.1, next x none j (owner-there laws version count s made t is still.keeps n m os now deeds before each-goes x j theirs))

  leaving : (x : EndId) (z : Side) (p : Pid) (e : EndId) (k : ℕ) (bytes : List ℕ) (xs : List EndId) → made ≡ step.Send e k bytes xs → Contains xs x → (s.ends e).place ≡ place.Owned p
      → (s.ends x).place ≡ place.Owned p → IsOwned version s (os p.0) p.0 x z → (z.standing ≡ Free) × AreSpelled version z.coming (coming s x)
  leaving x z p e k bytes xs so among on was owned =
      leaves-free e k bytes xs so x z among (subst (λ (r : Pid). IsOwned version s (os r.0) r.0 x z) (same-owner p (process i) (sym on ∙ owned-there e (ap step_on so))) owned)

  side : (x : EndId) → IsNoSend made x → (new : List Message) → AreSpelled version new (messages (sent_by (opposite x) made)) → ((t.ends x).place ≡ place.Unmade → new ≡ []) → (z : Side)
      → IsSide version s os x z → Turned version t qs x (record z { coming = z.coming ++ new })
  side x none new spells unmade z there =
      turns version s made t os qs before.owners.consistent is (laws.receives_are_told s made t before.owners.consistent is) x
      (laws.messages_come_in_order s made t x before.owners.consistent before.owners.matched (still.keeps (opposite x)) is) new spells z (old x none) unmade (leaving x z) (moves-there x) there

  no-message : (x : EndId) → IsNoSend made x → AreSpelled version [] (messages (sent_by x made))
  no-message x none = subst (λ (l : List streams.Sent). AreSpelled version [] (messages l)) (sym (unsent-by made x none)) tt

  -- a link on which nothing is sent
  quiet-link : (x : EndId) → IsNoSend made x → IsNoSend made (opposite x) → IsFollowedTo version t qs deeds x
  quiet-link x near far =
      let l : IsFollowedTo version s os deeds x = before.links x in
      follows-on version t qs x deeds l.pair l.course l.near_deeds l.far_deeds
      (unsent-base version t qs x l.pair.near (side x near [] (no-message (opposite x) far) (λ unmade. refl) l.pair.near l.near))
      (unsent-base version t qs (opposite x) l.pair.far (side (opposite x) far [] (no-message (opposite (opposite x)) (subst (IsNoSend made) (sym (opposite-opposite x)) near)) (λ unmade. refl) l.pair.far l.far))

  -- ---- the link of a Send
  module _ (e : EndId) (k : ℕ) (bytes : List ℕ) (xs : List EndId) (so : made ≡ step.Send e k bytes xs) where
    far-quiet : IsNoSend made (opposite e)
    far-quiet f j text ys also same = true≢false (sym (end_eq-refl e) ∙ ap (λ (z : EndId). end_eq z e) (sym (same-end f e j k text bytes ys xs (sym also ∙ so)) ∙ same) ∙ opposite-apart e)
      where
        same-end : (f e : EndId) (j k : ℕ) (text bytes : List ℕ) (ys xs : List EndId) → step.Send f j text ys ≡ step.Send e k bytes xs → f ≡ e
        same-end f e j k text bytes ys xs same = cc

    link-was : IsFollowedTo version s os deeds e
    link-was = before.links e

    owned-was : IsOwned version s (os i) i e link-was.pair.near
    owned-was = subst (IsSideAt version s os e link-was.pair.near) (own-was e k bytes xs so) link-was.near

    held-was : link-was.pair.near.standing ≡ Held (sends e k bytes xs so).kept
    held-was =
        subst (λ (g : Holding). IsStandingIn (brings s (process i) e) (seen_of (os i) e) g link-was.pair.near.standing) (holds-before e k bytes xs so) owned-was.standing

    near-now : Turned version t qs e (record { standing = Held (sent (sends e k bytes xs so).kept); coming = link-was.pair.near.coming })
    near-now =
        unsent-base version t qs e (record { standing = Held (sent (sends e k bytes xs so).kept); coming = link-was.pair.near.coming })
        (keeps version s made t os qs before.owners.consistent is (laws.receives_are_told s made t before.owners.consistent is) e
        (laws.messages_come_in_order s made t e before.owners.consistent before.owners.matched (still.keeps (opposite e)) is) [] (no-message (opposite e) far-quiet) link-was.pair.near
        (process i) (own-was e k bytes xs so) (own-here e k bytes xs so) owned-was
        (sides.Nothing (ap (λ (o : Owner). told_to e (given_of o.status)) (now-answered e k bytes xs so) ∙ sym (unheard e)) (still.given i))
        (Held (sent (sends e k bytes xs so).kept))
        (λ lost. let differ : Held (sends e k bytes xs so).kept ≡ Lost = sym held-was ∙ lost in absurd (cc))
        (λ has. subst (λ (g : Holding). HasReceive (turn_of (qs i)) (number_of e (os i).state.places) g) (sym (holds-now e k bytes xs so))
        (sent-receive (os i) (qs i) (number_of e (os i).state.places) (sends e k bytes xs so).kept (ap given_of asks)
        (subst (λ (g : Holding). HasReceive (turn_of (os i)) (number_of e (os i).state.places) g) (holds-before e k bytes xs so) has)))
        (λ also. let differ : step_number (step.Send e k bytes xs) ≡ 5 = ap step_number (sym so ∙ also) in absurd (omega arith))
        (subst (λ (g : Holding). IsStandingIn (brings t (process i) e) (seen_of (qs i) e) g (Held (sent (sends e k bytes xs so).kept))) (sym (holds-now e k bytes xs so)) refl))

    sent-there : messages (sent_by (opposite (opposite e)) made) ≡ record { bytes = bytes; carried = xs } ∷ []
    sent-there =
        ap (λ (y : EndId). messages (sent_by y made)) (opposite-opposite e) ∙ ap (λ (z : ServiceStep). messages (sent_by e z)) so
        ∙ ap (λ (b : Bool). messages (if b then numbered k (Some (record { bytes = bytes; carried = xs })) else [])) (end_eq-refl e)

    spelled-there : AreSpelled version (enclosing version (sends e k bytes xs so).message ∷ []) (messages (sent_by (opposite (opposite e)) made))
    spelled-there =
        subst (AreSpelled version (enclosing version (sends e k bytes xs so).message ∷ [])) (sym sent-there) (
          record {
            packet = reads e bytes xs (sends e k bytes xs so) (call-send e k bytes xs so);
            ends = ap (λ (v : ℕ). enclosed v (sends e k bytes xs so).message) (sym ours.version_is) ∙ sym (sends e k bytes xs so).encloses;
          },
          tt,
        )

    made-far : (t.ends (opposite e)).place ≡ place.Unmade → (enclosing version (sends e k bytes xs so).message ∷ []) ≡ []
    made-far unmade =
        let at : (t.ends e).place ≡ place.Unmade = subst (λ (y : EndId). (t.ends y).place ≡ place.Unmade) (opposite-opposite e) (unmade-opposite t (opposite e) (stays laws version count s made t is still.keeps n m os now deeds before) unmade) in
        let differ : place.Unmade ≡ place.Owned (process i) = sym at ∙ own-here e k bytes xs so in
        absurd (cc)

    far-now : Turned version t qs (opposite e) (record link-was.pair.far { coming = link-was.pair.far.coming ++ enclosing version (sends e k bytes xs so).message ∷ [] })
    far-now = side (opposite e) far-quiet (enclosing version (sends e k bytes xs so).message ∷ []) spelled-there made-far link-was.pair.far link-was.far

    send-link : IsFollowedTo version t qs deeds e
    send-link =
        follows-on version t qs e deeds (sending version (sends e k bytes xs so).message (sends e k bytes xs so).kept link-was.pair)
        (events.Goes new_pair link-was.pair (sending version (sends e k bytes xs so).message (sends e k bytes xs so).kept link-was.pair) link-was.course
        (events.Sends (sends e k bytes xs so).message (sends e k bytes xs so).rest (sends e k bytes xs so).kept link-was.pair held-was (sends e k bytes xs so).first))
        link-was.near_deeds link-was.far_deeds near-now far-now

  link : (x : EndId) → IsFollowedTo version t qs deeds x
  link x = by (sends-or made x) (sends-or made (opposite x))
    where
      by : IsNoSend made x ⊎ ((k : ℕ) × (bytes : List ℕ) × (xs : List EndId) × (made ≡ step.Send x k bytes xs))
          → IsNoSend made (opposite x) ⊎ ((k : ℕ) × (bytes : List ℕ) × (xs : List EndId) × (made ≡ step.Send (opposite x) k bytes xs)) → IsFollowedTo version t qs deeds x
      by (inl near) (inl far) = quiet-link x near far
      by (inr its-send) far = send-link x its-send.0 its-send.1 its-send.2 its-send.3
      by (inl near) (inr far) =
          subst (IsFollowedTo version t qs deeds) (opposite-opposite x) (follows-back version t qs (opposite x) deeds (send-link (opposite x) far.0 far.1 far.2 far.3))

  same-owners : (j : ℕ) → after now os j ≡ with_owner i (record (os i) { status = st }) os j
  same-owners j = by (pid_tells (process i) (process j))
    where
      by : ((nat_eq i j ≡ true) × (process i ≡ process j)) ⊎ ((nat_eq i j ≡ false) × (i ≡ j → ⊥)) → after now os j ≡ with_owner i (record (os i) { status = st }) os j
      by (inl same) =
          ap (λ (b : Bool). record (os j) { status = if b then st else (os j).status }) same.0 ∙ ap (λ (p : Pid). record (os p.0) { status = st }) (sym same.1)
          ∙ ap (λ (b : Bool). if b then record (os i) { status = st } else os j) (sym same.0)
      by (inr apart) =
          ap (λ (b : Bool). record (os j) { status = if b then st else (os j).status }) apart.0 ∙ ap (λ (b : Bool). if b then record (os i) { status = st } else os j) (sym apart.0)

  pub call_stands : Stands version count t m (with_owner i (record (os i) { status = st }) os) deeds
  call_stands =
      subst (λ (rs : Owners). Stands version count t m rs deeds) (λ z j. same-owners j z)
      (record { owners = owners-go laws version count s made t is still.keeps n m os now deeds before each-goes; links = link })

-- The step of a call, refused or granted, where the bytes of a Send are bytes
module _ (laws : Laws) (version count : ℕ) (s : Service) (made : ServiceStep) (t : Service) (is : IsServiceStep s made t) (n m : ℕ) (os : Owners) (deeds : EndId → List Deed)
    (before : Stands version count s n os deeds) (few : AreFew count m os) (i : ℕ) (below : i < count) (c : Call) (asks : (os i).status ≡ Asks c)
    (bytes-are : (e : EndId) (bytes : List ℕ) (xs : List EndId) → c ≡ call.Send e bytes xs → AreBytes bytes) where
  asked-call : IsCallOf (os i).state c
  asked-call = subst (IsAskedFor (os i).state) asks (before.owners.each i below).asked

  by-owns : Owns i made c (own_status i c made) → Stands version count t m (with_owner i (record (os i) { status = told_of c (own_told (process i) c (made ∷ [])) }) os) deeds
  by-owns owns =
      call_stands laws version count s made t is n m os deeds before few i below c asks (own_status i c made) owns
      (λ e bytes xs a so.
      subst (λ (v : ℕ). packet_of v bytes ≡ Ok a.message.packet) (before.owners.each i below).version_is
      (reads-back (os i).state e bytes xs a (before.owners.each i below).running (bytes-are e bytes xs so)))

  pub own_stands : ((cause : Cause) × (made ≡ step.Refuse (process i) c cause)) ⊎ IsOwn (process i) c (made ∷ [])
      → Stands version count t m (with_owner i (record (os i) { status = told_of c (own_told (process i) c (made ∷ [])) }) os) deeds
  own_stands (inl (cause, so)) = by-owns (owns-refused i made c cause so)
  own_stands (inr own-step) = by-owns (owns-granted i made (os i).state c asked-call own-step)
