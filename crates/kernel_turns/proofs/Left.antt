-- What is left of a node's work falls with each turn that does something.
use Rattle.std.proofs.Common.{◌≡◌, ◌≢◌, ◌⊎◌, inl, inr, ℕ, zero, suc, ◌+◌, ◌-◌, ◌*◌, ◌^◌, ◌<◌, ◌≤◌, Bool, true, false, nat_eq, nat_lt, List, [], ◌∷◌, ◌++◌, Option, Some, None, Result, Ok, Err, IfOk, set, length, map, refl, ap, sym, subst, ◌∙◌, arith}
use Rattle.std.specs.Prelude.{slice_index_or}
use Rattle.std.proofs.lemmas.Bool.Decides.{eqb_tells, leb_tells}
use Rattle.std.proofs.lemmas.List.{get_or_past, length-append, length-map}
use Rattle.std.proofs.lemmas.List.Elements.{All-head, All-tail}
use Rattle.charlotte_calls.specs.declared.names.Pid.{Pid}
use Rattle.charlotte_packets.specs.Packets.{what_picture}
use Rattle.charlotte_packets.specs.declared.packet.Packet.{Packet}
use Rattle.charlotte_packets.specs.declared.picture.Picture.{Picture}
use Rattle.kernel_core.specs.State.{state_of}
use Rattle.kernel_entries.specs.declared.entry.Entry.{Entry}
use Rattle.kernel_named.specs.Named.{GoWithin, IsSentWithin}
use Rattle.kernel_net.specs.Letters.{greatest_stamp}
use Rattle.kernel_net.specs.Ports.{Place, PortView, kernels_of, known_from, place_of, places_to}
use Rattle.kernel_net.specs.declared.letter.Letter.{Letter}
use Rattle.kernel_net.specs.declared.letter.Letter.TheVariants as letter
use Rattle.kernel_outbox.specs.Letters.{letters_for, markers_to, outbox_to}
use Rattle.kernel_world.specs.World.{to_kernel}
use Rattle.program_runs.specs.Local.{LocalEvent, gives}
use Rattle.program_round.specs.Doings.{NoneCanGo}
use Rattle.kernel_turns.proofs.Stepping.{one_at}
use Rattle.kernel_turns.proofs.Sums.{sum-at, sum-both, sum-fewer, sum-less, sum-none, sum-ones}
use Rattle.kernel_turns.proofs.Taking.{none-got}
use Rattle.kernel_turns.proofs.Turned.{node-ready, works-both, works-in_time}
use Rattle.kernel_turns.specs.Amid.{IsSomeNode}
use Rattle.kernel_turns.specs.Courses.{marked_of}
use Rattle.kernel_turns.specs.Events.{FitsPort, Happens}
use Rattle.kernel_turns.specs.Goes.{StandsStill}
use Rattle.kernel_turns.specs.Left.{Lessens, beginnings, letters_left, steps_left, unmarked, weight}
use Rattle.kernel_turns.specs.Letters.{APacket, packets, told, told_of}
use Rattle.kernel_turns.specs.Nodes.{HasTaken, IsNode, Meaning, sum_of}
use Rattle.kernel_turns.specs.Turns.{Asks, Began, Begins, BeginsInTime, BeginsOnce, Continues, GetsLetter, GetsMarker, HasBegun, HasTurns, Idles, InTime, IsTurn, KeepsWork, NoLetter, NotNow, Pauses, PutsLetters, SendsOnly, SpendsStamps, SpendsTurns, TakesIt, Works, with_marker}
use Rattle.kernel_turns.specs.declared.base.Base.{Base}
use Rattle.kernel_turns.specs.declared.course.Course.{Course}
use Rattle.kernel_turns.specs.declared.node.Node.{Node}
use Rattle.kernel_turns.specs.declared.node.Turn.{Turn}
use Rattle.kernel_turns.specs.declared.node.Turn.TheVariants as turn

-- ---- how many packets go to the kernels

to-one : (q : ℕ × Picture) (qs : List (ℕ × Picture)) (to : ℕ) → length (to_kernel to (q ∷ qs)) ≡ one_at q.0 (λ i. length (to_kernel i qs)) to
to-one q qs to = by (eqb_tells to q.0)
  where
    by : ((nat_eq to q.0 ≡ true) × (to ≡ q.0)) ⊎ ((nat_eq to q.0 ≡ false) × (to ≢ q.0)) → length (to_kernel to (q ∷ qs)) ≡ one_at q.0 (λ i. length (to_kernel i qs)) to
    by (inl e) = rw e.0 (omega arith)
    by (inr e) = rw e.0 refl

sent-few : (n : ℕ) (qs : List (ℕ × Picture)) → sum_of n (λ to. length (to_kernel to qs)) ≤ length qs
sent-few n [] = omega (arith, sum-none n)
sent-few n (q ∷ qs) =
    let each : sum_of n (λ to. length (to_kernel to (q ∷ qs))) ≤ sum_of n (one_at q.0 (λ i. length (to_kernel i qs)))
    = sum-fewer n (λ to. length (to_kernel to (q ∷ qs))) (one_at q.0 (λ i. length (to_kernel i qs))) (λ to. omega (arith, to-one q qs to)) in
    omega (arith, each, sum-at n q.0 (λ i. length (to_kernel i qs)), sent-few n qs)

marker-one : (kernels to : ℕ) → length (markers_to kernels to) ≤ 1
marker-one kernels to = by (leb_tells (suc to) kernels)
  where
    by : ((nat_lt to kernels ≡ true) × (to < kernels)) ⊎ ((nat_lt to kernels ≡ false) × (kernels < suc to)) → length (markers_to kernels to) ≤ 1
    by (inl e) = rw e.0 (omega arith)
    by (inr e) = rw e.0 (omega arith)

-- there is none to a kernel that is not there
letters-past : (kernels to : ℕ) (sent : List (ℕ × Packet)) → kernels ≤ to → GoWithin kernels sent → letters_for to sent ≡ []
letters-past kernels to [] past within = refl
letters-past kernels to (x ∷ xs) past within = by (eqb_tells to x.0) (letters-past kernels to xs past (All-tail (λ (s : ℕ × Packet). IsSentWithin kernels s.0 (what_picture s.1.what)) x xs within))
  where
    there : x.0 < kernels
    there = (All-head (λ (s : ℕ × Packet). IsSentWithin kernels s.0 (what_picture s.1.what)) x xs within).0

    by : ((nat_eq to x.0 ≡ true) × (to ≡ x.0)) ⊎ ((nat_eq to x.0 ≡ false) × (to ≢ x.0)) → letters_for to xs ≡ [] → letters_for to (x ∷ xs) ≡ []
    by (inl e) rest = absurd (omega (arith, there, past, e.1))
    by (inr e) rest = rw e.0 rest

outbox-past : (b : Base) (to : ℕ) → FitsPort b → kernels_of (place_of b.port) ≤ to → outbox_to b.outbox to ≡ []
outbox-past b to fits past =
    let long : length (map (λ list. list.items) b.outbox.waiting.items) ≤ to = omega (arith, past, fits.lists, length-map b.outbox.waiting.items (λ list. list.items)) in
    ap (λ ls. ls ++ letters_for to b.outbox.unsent.items) (get_or_past (map (λ list. list.items) b.outbox.waiting.items) to [] long)
    ∙ letters-past (kernels_of (place_of b.port)) to b.outbox.unsent.items past fits.within

-- ---- the number

more-steps : (a b x y : ℕ) → a + 1 ≤ b → x < y + 2 ^ 64 → a * 2 ^ 64 + x < b * 2 ^ 64 + y
more-steps a b x y less few = omega (arith, less, few)

fewer-steps : (old new : Base) → steps_left new + 1 ≤ steps_left old → letters_left new < letters_left old + 2 ^ 64 → weight new < weight old
unfolding weight
fewer-steps old new less few = more-steps (steps_left new) (steps_left old) (letters_left new) (letters_left old) less few

fewer-letters : (old new : Base) → steps_left new ≡ steps_left old → letters_left new < letters_left old → weight new < weight old
unfolding weight
fewer-letters old new same less = subst (λ n. n * 2 ^ 64 + letters_left new < steps_left old * 2 ^ 64 + letters_left old) (sym same) (omega (arith, less))

no-more : (old new : Base) → steps_left new ≡ steps_left old → letters_left new ≤ letters_left old → weight new ≤ weight old
unfolding weight
no-more old new same less = subst (λ n. n * 2 ^ 64 + letters_left new ≤ steps_left old * 2 ^ 64 + letters_left old) (sym same) (omega (arith, less))

-- what is left of it is the same
record KeepsLeft (old new : Base) : Type 0 where
  orders : new.orders ≡ old.orders
  used : new.used ≡ old.used
  course : new.course ≡ old.course

steps-kept : (old new : Base) → KeepsLeft old new → steps_left new ≡ steps_left old
steps-kept old new kept = omega (arith, ap (λ o. o.limit) kept.orders, kept.used, ap (λ (c : Course). unmarked c.marked) kept.course, ap (λ (c : Course). beginnings c.begun) kept.course)

-- ---- it begins

begins-less : (old new : Base) → HasBegun old new → kernels_of (place_of old.port) ≤ 8 → weight new < weight old
begins-less old new h few = fewer-steps old new steps (omega (arith, letters, few))
  where
    steps : steps_left new + 1 ≤ steps_left old
    steps =
        omega (arith, ap (λ o. o.limit) h.kept.orders, h.kept.used, ap (λ (c : Course). unmarked c.marked) h.course, ap (λ (c : Course). beginnings c.begun) h.course, ap beginnings h.before)

    each : (to : ℕ) → length (outbox_to new.outbox to) ≤ length (outbox_to old.outbox to) + length (markers_to (kernels_of (place_of old.port)) to)
    each to = omega (arith, ap length (h.letters to), length-append (outbox_to old.outbox to) (markers_to (kernels_of (place_of old.port)) to))

    letters : letters_left new ≤ letters_left old + kernels_of (place_of old.port)
    letters =
        let n = kernels_of (place_of old.port) in
        let same : letters_left new ≡ sum_of (kernels_of (place_of old.port)) (λ to. length (outbox_to new.outbox to))
        = ap (λ (p : PortView). sum_of (kernels_of (place_of p)) (λ to. length (outbox_to new.outbox to))) h.port in
        omega (
          arith,
          same,
          sum-fewer n (λ to. length (outbox_to new.outbox to)) (λ to. length (outbox_to old.outbox to) + length (markers_to n to)) each,
          sum-both n (λ to. length (outbox_to old.outbox to)) (λ to. length (markers_to n to)),
          sum-ones n (λ to. length (markers_to n to)) (marker-one n),
        )

once-less : (old new : Base) → BeginsOnce old new → kernels_of (place_of old.port) ≤ 8 → (weight new < weight old) ⊎ (old ≡ new)
once-less old new (Begins h) few = inl (begins-less old new h few)
once-less old new (Began n is same) few = inr same

once-fits : (old new : Base) → BeginsOnce old new → FitsPort old → FitsPort new
once-fits old new (Begins h) fits = h.fits
once-fits old new (Began n is same) fits = subst FitsPort same fits

time-fits : (old new : Base) → BeginsInTime old new → FitsPort old → FitsPort new
time-fits old new (InTime time once) fits = once-fits old new once fits
time-fits old new (NotNow not same) fits = subst FitsPort same fits

time-less : (old new : Base) → BeginsInTime old new → kernels_of (place_of old.port) ≤ 8 → (weight new < weight old) ⊎ (old ≡ new)
time-less old new (InTime time once) few = once-less old new once few
time-less old new (NotNow not same) few = inr same

at-most : (old new : Base) → (weight new < weight old) ⊎ (old ≡ new) → weight new ≤ weight old
at-most old new (inl less) = omega (arith, less)
at-most old new (inr same) = omega (arith, ap weight same)

-- ---- letters are put

puts-least : (put : Bool) (old new : Base) → PutsLetters put old new → weight new ≤ weight old
puts-least put old new puts =
    no-more old new (steps-kept old new (record { orders = puts.kept.orders; used = puts.kept.used; course = puts.course }))
    (subst (λ (p : Place). sum_of (kernels_of p) (λ to. length (outbox_to new.outbox to)) ≤ letters_left old) (sym puts.flushed.place)
    (sum-fewer (kernels_of (place_of old.port)) (λ to. length (outbox_to new.outbox to)) (λ to. length (outbox_to old.outbox to)) puts.flushed.fewer))

puts-less : (old new : Base) → PutsLetters true old new → FitsPort old → weight new < weight old
puts-less old new puts fits =
    fewer-letters old new (steps-kept old new (record { orders = puts.kept.orders; used = puts.kept.used; course = puts.course }))
    (subst (λ (p : Place). sum_of (kernels_of p) (λ to. length (outbox_to new.outbox to)) < letters_left old) (sym puts.flushed.place)
    (sum-less (kernels_of (place_of old.port)) some.0 (λ to. length (outbox_to new.outbox to)) (λ to. length (outbox_to old.outbox to)) puts.flushed.fewer (there (leb_tells (suc some.0) (kernels_of (place_of old.port)))) some.1))
  where
    some : (to : ℕ) × (length (outbox_to new.outbox to) < length (outbox_to old.outbox to))
    some = puts.some refl

    there : ((nat_lt some.0 (kernels_of (place_of old.port)) ≡ true) × (some.0 < kernels_of (place_of old.port)))
        ⊎ ((nat_lt some.0 (kernels_of (place_of old.port)) ≡ false) × (kernels_of (place_of old.port) < suc some.0)) → some.0 < kernels_of (place_of old.port)
    there (inl e) = e.1
    there (inr e) = absurd (omega (arith, some.1, ap length (outbox-past old some.0 fits (omega (arith, e.1)))))

-- ---- an event, a marker, a pause

happens-less : (o : LocalEvent) (old new : Base) (who : List Pid) → HasTurns old → Happens o old new who → weight new < weight old
happens-less o old new who turns happens = fewer-steps old new steps (omega (arith, letters, happens.few))
  where
    sent : List (ℕ × Picture)
    sent = (gives (state_of old.kernel) o).packets

    steps : steps_left new + 1 ≤ steps_left old
    steps =
        omega (arith, turns, ap (λ o. o.limit) happens.orders, happens.used, ap (λ (c : Course). unmarked c.marked) happens.course, ap (λ (c : Course). beginnings c.begun) happens.course)

    each : (to : ℕ) → length (outbox_to new.outbox to) ≤ length (outbox_to old.outbox to) + length (to_kernel to (gives (state_of old.kernel) o).packets)
    each to =
        omega (
          arith,
          ap length (happens.sent to),
          length-map (outbox_to new.outbox to) told_of,
          length-append (told (outbox_to old.outbox to)) (packets (to_kernel to sent)),
          length-map (outbox_to old.outbox to) told_of,
          length-map (to_kernel to sent) APacket,
        )

    letters : letters_left new ≤ letters_left old + length (gives (state_of old.kernel) o).packets
    letters =
        let n = kernels_of (place_of old.port) in
        let same : letters_left new ≡ sum_of (kernels_of (place_of old.port)) (λ to. length (outbox_to new.outbox to))
        = ap (λ (p : PortView). sum_of (kernels_of (place_of p)) (λ to. length (outbox_to new.outbox to))) happens.port in
        omega (
          arith,
          same,
          sum-fewer n (λ to. length (outbox_to new.outbox to)) (λ to. length (outbox_to old.outbox to) + length (to_kernel to sent)) each,
          sum-both n (λ to. length (outbox_to old.outbox to)) (λ to. length (to_kernel to sent)),
          sent-few n sent,
        )

-- its port got a letter or learned
pub weight-port : (old new : Base) → place_of new.port ≡ place_of old.port → new ≡ record old { port = new.port } → weight new ≡ weight old
unfolding weight
weight-port old new place rest =
    ap weight rest ∙ ap (λ (p : Place). steps_left old * 2 ^ 64 + sum_of (kernels_of p) (λ to. length (outbox_to old.outbox to))) place

-- it was asked whom its letters reached
pub weight-reached : (b : Base) (reached : ℕ) → weight (record b { outbox = record b.outbox { reached = reached } }) ≡ weight b
unfolding weight
weight-reached b reached = refl

got-same : (from : ℕ) (l : Letter) (old got : Base) → GetsLetter from l old got → weight got ≡ weight old
got-same from l old got gets = weight-port old got gets.place gets.rest

marks-less : (ms : List (Option ℕ)) (from n : ℕ) → from < length ms → slice_index_or ms from None ≡ None → unmarked (set ms from (Some n)) + 1 ≡ unmarked ms
marks-less [] from n below none = absurd (omega (arith, below))
marks-less (None ∷ ms) zero n below none = refl
marks-less (Some k ∷ ms) zero n below none = let no : Some k ≡ None = none in absurd cc
marks-less (None ∷ ms) (suc from) n below none = omega (arith, marks-less ms from n (omega (arith, below)) none)
marks-less (Some k ∷ ms) (suc from) n below none = marks-less ms from n (omega (arith, below)) none

marked-less : (from : ℕ) (b : Base) → from < length b.course.marked → marked_of b.course from ≡ None → weight (with_marker from b) < weight b
marked-less from b below none =
    let same : letters_left (with_marker from b) ≡ letters_left b = refl in
    fewer-steps b (with_marker from b) (omega (arith, marks-less b.course.marked from (length b.journal.entries) below none)) (omega (arith, same))

pauses-less : (b : Base) → HasTurns b → weight (record b { used = b.used + 1 }) < weight b
pauses-less b turns =
    let same : letters_left (record b { used = b.used + 1 }) ≡ letters_left b = refl in
    fewer-steps b (record b { used = b.used + 1 }) (omega (arith, turns)) (omega (arith, same))

module _ {P S W : Type 0} (m : Meaning P S) where
  -- where its letters were put, of which put tells whether there were some
  continues-less : (made : List LocalEvent) (put : Bool) (before : ℕ) (t : Turn) (n after : Node P W) → Continues m put t n after → HasTaken made n.base → kernels_of (place_of n.base.port) ≤ 8
      → weight n.base ≤ before → (put ≡ true → weight n.base < before) → Lessens t before (weight after.base)
  continues-less made put before t n after (SpendsTurns n' spent) taken few least less = least
  continues-less made put before t n after (TakesIt n' from p got base who heard watch turns gets happens hears) taken few least less =
      omega (arith, least, got-same from (letter.Packet p) n.base got gets, happens-less _ got base who (subst HasTurns (sym gets.rest) turns) happens)
  continues-less made put before t n after (GetsMarker n' from got base turns gets once) taken few least less =
      let none : marked_of got.course from ≡ None = ap (λ (b : Base). marked_of b.course from) gets.rest ∙ none-got made from n.base got gets taken in
      let below : from < length got.course.marked = (let eight : length got.course.marked ≡ 8 = ap (λ (b : Base). length b.course.marked) gets.rest ∙ taken.marks in omega (arith, eight, few, gets.got.kernel)) in
      let few' : kernels_of (place_of got.port) ≤ 8 = subst (λ (p : Place). kernels_of p ≤ 8) (sym gets.place) few in
      omega (arith, least, got-same from letter.Marker n.base got gets, marked-less from got below none, at-most (with_marker from got) base (once-less (with_marker from got) base once few'))
  continues-less made put before t n after (Asks n' place p given c mine stepped heard base who watch turns silent next lent steps call happens hears) taken few least less =
      omega (arith, least, happens-less _ n.base base who turns happens)
  continues-less made put before t n after (Pauses n' place p given does stepped turns silent next lent none steps) taken few least less = omega (arith, least, pauses-less n.base turns)
  continues-less made put before t n after (SendsOnly n' turns silent none is) taken few least less = less is
  continues-less made put before t n after (Idles n' turns silent none is) taken few least less = least

  -- what is known where nothing was done, and where its turns are used up
  record IdlesAt (put : Bool) (n after : Node P W) : Type 0 where
    silent : NoLetter n.base
    programs : NoneCanGo (length n.programs.all.items) n.programs.doing
    unput : put ≡ false
    same : after.base ≡ n.base

  idle-continues : (put : Bool) (t : Turn) (n after : Node P W) → Continues m put t n after → t ≡ turn.Idle → IdlesAt put n after
  idle-continues put t n after (SpendsTurns n' spent) is = let no : turn.Spent ≡ turn.Idle = is in absurd cc
  idle-continues put t n after (TakesIt n' from p got base who heard watch turns gets happens hears) is = let no : turn.Event ≡ turn.Idle = is in absurd cc
  idle-continues put t n after (GetsMarker n' from got base turns gets once) is = let no : turn.Marked ≡ turn.Idle = is in absurd cc
  idle-continues put t n after (Asks n' place p given c mine stepped heard base who watch turns silent next lent steps call happens hears) is = let no : turn.Event ≡ turn.Idle = is in absurd cc
  idle-continues put t n after (Pauses n' place p given does stepped turns silent next lent none steps) is = let no : turn.Paused ≡ turn.Idle = is in absurd cc
  idle-continues put t n after (SendsOnly n' turns silent none done) is = let no : turn.Sent ≡ turn.Idle = is in absurd cc
  idle-continues put t n after (Idles n' turns silent none unput) is = record { silent = silent; programs = none; unput = unput; same = refl }

  spent-continues : (put : Bool) (t : Turn) (n after : Node P W) → Continues m put t n after → t ≡ turn.Spent → n.base.used ≡ n.base.orders.limit
  spent-continues put t n after (SpendsTurns n' spent) is = spent
  spent-continues put t n after (TakesIt n' from p got base who heard watch turns gets happens hears) is = let no : turn.Event ≡ turn.Spent = is in absurd cc
  spent-continues put t n after (GetsMarker n' from got base turns gets once) is = let no : turn.Marked ≡ turn.Spent = is in absurd cc
  spent-continues put t n after (Asks n' place p given c mine stepped heard base who watch turns silent next lent steps call happens hears) is = let no : turn.Event ≡ turn.Spent = is in absurd cc
  spent-continues put t n after (Pauses n' place p given does stepped turns silent next lent none steps) is = let no : turn.Paused ≡ turn.Spent = is in absurd cc
  spent-continues put t n after (SendsOnly n' turns silent none done) is = let no : turn.Sent ≡ turn.Spent = is in absurd cc
  spent-continues put t n after (Idles n' turns silent none unput) is = let no : turn.Idle ≡ turn.Spent = is in absurd cc

  module _ (HasSeen : W → List Entry → Type 0) (n : Node P W) (one : IsSomeNode m HasSeen n) (whole : n.spoiled ≡ false) where
    few-kernels : kernels_of (place_of n.base.port) ≤ 8
    few-kernels = (let few : one.setting.kernels ≤ 8 = one.valid.limits.kernels in omega (arith, few, (one.node.sent whole).kernels))

    -- less is left, or nothing was done
    pub turn-less : (t : Turn) (after : Node P W) → IsTurn m t n after → Lessens t (weight n.base) (weight after.base)
    turn-less t after (SpendsStamps n' spent) = omega arith
    turn-less t after (Works n' begun ready put t' after' early time puts on) =
        continues-less one.made put (weight n.base) t (record n { base = ready }) after on (node.taken whole) few (omega (arith, mid, puts-least put begun ready puts)) (by put puts)
      where
        node : IsNode m HasSeen one.setting one.kernel one.first one.made (record n { base = ready })
        node = node-ready m one.setting one.kernel one.first HasSeen one.made n begun ready put time puts whole one.node

        mid : weight begun ≤ weight n.base
        mid = at-most n.base begun (time-less n.base begun time few-kernels)

        few : kernels_of (place_of ready.port) ≤ 8
        few = (let few : one.setting.kernels ≤ 8 = one.valid.limits.kernels in omega (arith, few, (node.sent whole).kernels))

        fits : FitsPort begun
        fits = time-fits n.base begun time (one.node.sent whole).fits

        by : (p : Bool) → PutsLetters p begun ready → p ≡ true → weight ready < weight n.base
        by true done is = omega (arith, mid, puts-less begun ready done fits)
        by false done is = let no : false ≡ true = is in absurd cc

    pub turn-lessens : {E : Type 0} (r : Result Turn E) (after : Node P W) → IfOk r (λ t. IsTurn m t n after) → IfOk r (λ t. Lessens t (weight n.base) (weight after.base))
    turn-lessens (Ok t) after turned = turn-less t after turned
    turn-lessens (Err e) after turned = tt

    -- a turn did nothing: less is left all the same, since it began, or it could do nothing
    pub idle-stands : (t : Turn) (after : Node P W) → IsTurn m t n after → t ≡ turn.Idle → (weight after.base < weight n.base) ⊎ StandsStill n
    idle-stands t after (SpendsStamps n' spent) is = let no : turn.Spent ≡ turn.Idle = is in absurd cc
    idle-stands t after (Works n' begun ready put t' after' early time puts on) is = by (time-less n.base begun time few-kernels)
      where
        idles : IdlesAt put (record n { base = ready }) after
        idles = idle-continues put t (record n { base = ready }) after on is

        by : (weight begun < weight n.base) ⊎ (n.base ≡ begun) → (weight after.base < weight n.base) ⊎ StandsStill n
        by (inl less) = inl (omega (arith, less, puts-least put begun ready puts, ap weight idles.same))
        by (inr same) =
            inr (record {
              silent = λ from. ap (λ (b : Base). known_from b.port from) same ∙ ap (λ (p : PortView). known_from p from) (sym (puts.port idles.unput)) ∙ idles.silent from;
              programs = idles.programs;
              full = λ to some.
                  ap (λ (b : Base). places_to b.port to) same ∙ ap (λ (p : PortView). places_to p to) (sym (puts.port idles.unput))
                  ∙ puts.flushed.full to (subst (λ ls. 0 < length ls) (ap (λ (b : Base). outbox_to b.outbox to) same ∙ sym (puts.none idles.unput to)) some);
            })

    -- it is spent: its stamps or its turns are used up
    pub spent-is : (t : Turn) (after : Node P W) → IsTurn m t n after → t ≡ turn.Spent → (n.base.kernel.stamp ≡ greatest_stamp) ⊎ (n.base.used ≡ n.base.orders.limit)
    spent-is t after (SpendsStamps n' spent) is = inl spent
    spent-is t after (Works n' begun ready put t' after' early time puts on) is =
        let kept : KeepsWork n.base ready = works-both n.base begun ready (works-in_time n.base begun time) puts.kept in
        inr (sym kept.used ∙ spent-continues put t (record n { base = ready }) after on is ∙ ap (λ o. o.limit) kept.orders)
