-- What a node takes, along its work: letters that were got.
use Rattle.std.proofs.Common.{◌≡◌, ◌≢◌, ◌⊎◌, inl, inr, ℕ, ◌+◌, ◌<◌, ◌≤◌, Bool, true, false, nat_eq, if◌then◌else◌, List, [], ◌∷◌, ◌++◌, All, Option, Some, None, IfSome, IsSome, is_some, append_assoc, append-nil, take, drop, set, length, map, refl, ap, sym, subst, ◌∙◌, arith}
use Rattle.std.specs.Prelude.{slice_index_or}
use Rattle.std.proofs.lemmas.Bool.Decides.{eqb_tells}
use Rattle.std.proofs.lemmas.List.{drop-append-le, get_or-set_other, get_or-set_same, length-set, map-append, take-append-le}
use Rattle.std.proofs.lemmas.List.Elements.{All-head, All-tail}
use Rattle.std.proofs.Math.Seq.{drop-length, take-length}
use Rattle.charlotte_calls.specs.declared.names.Pid.{Pid}
use Rattle.charlotte_packets.specs.Packets.{packet_picture}
use Rattle.charlotte_packets.specs.declared.packet.Packet.{Packet}
use Rattle.kernel_net.specs.Ports.{PortView, got_from}
use Rattle.kernel_net.specs.Rings.{Inlet}
use Rattle.kernel_net.specs.declared.letter.Letter.{Letter}
use Rattle.kernel_net.specs.declared.letter.Letter.TheVariants as letter
use Rattle.program_runs.specs.Local.{LocalEvent, MakesCall, TakesPacket, takes_from}
use Rattle.kernel_turns.proofs.Marking.{marks, marks-append}
use Rattle.kernel_turns.proofs.Sending.{one-more}
use Rattle.kernel_turns.specs.Courses.{marked_of}
use Rattle.kernel_turns.specs.Events.{Happens}
use Rattle.kernel_turns.specs.Letters.{AMarker, APacket, Told, letters_from, packets, told, told_of}
use Rattle.kernel_turns.specs.Nodes.{HasTaken}
use Rattle.kernel_turns.specs.Turns.{Began, Begins, BeginsOnce, GetsLetter, PutsLetters, with_marker}
use Rattle.kernel_turns.specs.declared.base.Base.{Base}
use Rattle.kernel_turns.specs.declared.course.Course.{Course}

-- ---- nothing is got

-- a marker that was got stays where it was, once the node has begun
marked-kept : (m : Option ℕ) (made : List LocalEvent) (b c : Option ℕ) → IsSome c → IfSome m (λ n. (n ≤ length made) × IsSome b) → IfSome m (λ n. (n ≤ length made) × IsSome c)
marked-kept None made b c is h = h
marked-kept (Some n) made b c is h = (h.0, is)

pub taken-put : (made : List LocalEvent) (put : Bool) (old new : Base) → PutsLetters put old new → HasTaken made old → HasTaken made new
taken-put made put old new puts taken =
    record {
      got = λ from. ap (λ (is : List Inlet). told (slice_index_or (map (λ i. i.got) is) from [])) puts.flushed.into ∙ taken.got from
          ∙ ap (λ (c : Course). letters_from (marked_of c from) from made) (sym puts.course);
      marked = λ from. subst (λ (c : Course). IfSome (marked_of c from) (λ n. (n ≤ length made) × IsSome c.begun)) (sym puts.course) (taken.marked from);
      marks = subst (λ (c : Course). length c.marked ≡ 8) (sym puts.course) taken.marks;
    }

-- ---- an event happens, of which this was got

-- what a run takes with one event more
takes-more : (from : ℕ) (made : List LocalEvent) (o : LocalEvent) → takes_from from (made ++ o ∷ []) ≡ takes_from from made ++ takes_from from (o ∷ [])
takes-more from [] o = refl
takes-more from (MakesCall p c mine ∷ es) o = takes-more from es o
takes-more from (TakesPacket j q ∷ es) o =
    elim (nat_eq from j) as (λ b. (if b then q ∷ takes_from from (es ++ o ∷ []) else takes_from from (es ++ o ∷ [])) ≡ (if b then q ∷ takes_from from es else takes_from from es) ++ takes_from from (o ∷ []))
    [ true ↦ ap (λ qs. q ∷ qs) (takes-more from es o) | false ↦ takes-more from es o ]

-- and with the marker in its place
takes-one : (marked : Option ℕ) (from : ℕ) (made : List LocalEvent) (o : LocalEvent) → IfSome marked (λ n. n ≤ length made)
    → letters_from marked from (made ++ o ∷ []) ≡ letters_from marked from made ++ packets (takes_from from (o ∷ []))
takes-one None from made o early = ap packets (takes-more from made o) ∙ map-append APacket (takes_from from made) (takes_from from (o ∷ []))
takes-one (Some n) from made o early =
    ap (λ es. packets (takes_from from es) ++ AMarker ∷ packets (takes_from from (drop n (made ++ o ∷ [])))) (take-append-le n made (o ∷ []) early)
    ∙ ap (λ es. before ++ AMarker ∷ packets (takes_from from es)) (drop-append-le n made (o ∷ []) early)
    ∙ ap (λ qs. before ++ AMarker ∷ packets qs) (takes-more from (drop n made) o)
    ∙ ap (λ ls. before ++ AMarker ∷ ls) (map-append APacket (takes_from from (drop n made)) (takes_from from (o ∷ [])))
    ∙ sym (append_assoc before (AMarker ∷ packets (takes_from from (drop n made))) (packets (takes_from from (o ∷ []))))
  where
    before : List Told
    before = packets (takes_from from (take n made))

marked-more : (m : Option ℕ) (made : List LocalEvent) (o : LocalEvent) (c : Option ℕ) → IfSome m (λ n. (n ≤ length made) × IsSome c) → IfSome m (λ n. (n ≤ length (made ++ o ∷ [])) × IsSome c)
marked-more None made o c h = h
marked-more (Some n) made o c h = (one-more n made o h.0, h.1)

marked-early : (m : Option ℕ) (made : List LocalEvent) (c : Option ℕ) → IfSome m (λ n. (n ≤ length made) × IsSome c) → IfSome m (λ n. n ≤ length made)
marked-early None made c h = tt
marked-early (Some n) made c h = h.0

taken-after : (made : List LocalEvent) (o : LocalEvent) (old new : Base) → ((from : ℕ) → told (got_from new.port from) ≡ told (got_from old.port from) ++ packets (takes_from from (o ∷ [])))
    → new.course ≡ old.course → HasTaken made old → HasTaken (made ++ o ∷ []) new
taken-after made o old new got course taken =
    record {
      got = λ from.
          got from ∙ ap (λ ls. ls ++ packets (takes_from from (o ∷ []))) (taken.got from)
          ∙ sym (takes-one (marked_of old.course from) from made o (marked-early (marked_of old.course from) made old.course.begun (taken.marked from)))
          ∙ ap (λ (c : Course). letters_from (marked_of c from) from (made ++ o ∷ [])) (sym course);
      marked = λ from. subst (λ (c : Course). IfSome (marked_of c from) (λ n. (n ≤ length (made ++ o ∷ [])) × IsSome c.begun)) (sym course)
          (marked-more (marked_of old.course from) made o old.course.begun (taken.marked from));
      marks = subst (λ (c : Course). length c.marked ≡ 8) (sym course) taken.marks;
    }

-- a call
pub taken-asked : (made : List LocalEvent) (o : LocalEvent) (old new : Base) (who : List Pid) → ((from : ℕ) → takes_from from (o ∷ []) ≡ []) → Happens o old new who → HasTaken made old → HasTaken (made ++ o ∷ []) new
taken-asked made o old new who none happens taken =
    taken-after made o old new
    (λ from. ap (λ (p : PortView). told (got_from p from)) happens.port ∙ sym (append-nil (told (got_from old.port from))) ∙ ap (λ qs. told (got_from old.port from) ++ packets qs) (sym (none from)))
    happens.course taken

-- a packet that was got
got-packet : (from : ℕ) (p : Packet) (old got : Base) → GetsLetter from (letter.Packet p) old got → (j : ℕ)
    → told (got_from got.port j) ≡ told (got_from old.port j) ++ packets (takes_from j (TakesPacket from (packet_picture p) ∷ []))
got-packet from p old got gets j = by (eqb_tells j from)
  where
    here : told (got_from got.port from) ≡ told (got_from old.port from) ++ APacket (packet_picture p) ∷ []
    here = ap told gets.got.got ∙ map-append told_of (got_from old.port from) (letter.Packet p ∷ [])

    by : ((nat_eq j from ≡ true) × (j ≡ from)) ⊎ ((nat_eq j from ≡ false) × (j ≢ from)) → told (got_from got.port j) ≡ told (got_from old.port j) ++ packets (if nat_eq j from then packet_picture p ∷ [] else [])
    by (inl e) =
        ap (λ i. told (got_from got.port i)) e.1 ∙ here ∙ ap (λ i. told (got_from old.port i) ++ APacket (packet_picture p) ∷ []) (sym e.1)
        ∙ ap (λ b. told (got_from old.port j) ++ packets (if b then packet_picture p ∷ [] else [])) (sym e.0)
    by (inr e) =
        ap told (gets.got.others j e.1).0 ∙ sym (append-nil (told (got_from old.port j)))
        ∙ ap (λ b. told (got_from old.port j) ++ packets (if b then packet_picture p ∷ [] else [])) (sym e.0)

pub taken-took : (made : List LocalEvent) (from : ℕ) (p : Packet) (old got new : Base) (who : List Pid) → GetsLetter from (letter.Packet p) old got → Happens (TakesPacket from (packet_picture p)) got new who
    → HasTaken made old → HasTaken (made ++ TakesPacket from (packet_picture p) ∷ []) new
taken-took made from p old got new who gets happens taken =
    taken-after made (TakesPacket from (packet_picture p)) old new
    (λ j. ap (λ (q : PortView). told (got_from q j)) happens.port ∙ got-packet from p old got gets j)
    (happens.course ∙ ap (λ (b : Base). b.course) gets.rest) taken

-- ---- a marker is got

no-marks : (ls : List Letter) → All (λ l. l ≢ letter.Marker) ls → marks (told ls) ≡ 0
no-marks [] none = refl
no-marks (letter.Packet p ∷ ls) none = no-marks ls (All-tail (λ l. l ≢ letter.Marker) (letter.Packet p) ls none)
no-marks (letter.Marker ∷ ls) none = absurd (All-head (λ l. l ≢ letter.Marker) letter.Marker ls none refl)

-- behind letters that have none, none was got before
unmarked : (m : Option ℕ) (from : ℕ) (made : List LocalEvent) → marks (letters_from m from made) ≡ 0 → m ≡ None
unmarked None from made none = refl
unmarked (Some n) from made none =
    let both : marks (packets (takes_from from (take n made)) ++ AMarker ∷ packets (takes_from from (drop n made))) ≡ marks (packets (takes_from from (take n made))) + (marks (packets (takes_from from (drop n made))) + 1)
    = marks-append (packets (takes_from from (take n made))) (AMarker ∷ packets (takes_from from (drop n made))) in
    absurd (omega (arith, both, none))

-- what a node that begins where it did not keeps
record KeepsMarks (old new : Base) : Type 0 where
  marked : new.course.marked ≡ old.course.marked
  begun : IsSome new.course.begun
  port : new.port ≡ old.port

keeps-marks : (old new : Base) → BeginsOnce old new → KeepsMarks old new
keeps-marks old new (Began n is same) =
    record {
      marked = ap (λ (b : Base). b.course.marked) (sym same);
      begun = subst (λ (b : Base). IsSome b.course.begun) same (ap is_some is);
      port = ap (λ (b : Base). b.port) (sym same);
    }
keeps-marks old new (Begins h) =
    record {
      marked = ap (λ (c : Course). c.marked) h.course;
      begun = ap (λ (c : Course). is_some c.begun) h.course;
      port = h.port;
    }

pub taken-begun : (made : List LocalEvent) (old new : Base) → BeginsOnce old new → HasTaken made old → HasTaken made new
taken-begun made old new once taken =
    let kept = keeps-marks old new once in
    record {
      got = λ from. ap (λ (p : PortView). told (got_from p from)) kept.port ∙ taken.got from ∙ ap (λ ms. letters_from (slice_index_or ms from None) from made) (sym kept.marked);
      marked = λ from. subst (λ ms. IfSome (slice_index_or ms from None) (λ n. (n ≤ length made) × IsSome new.course.begun)) (sym kept.marked)
          (marked-kept (marked_of old.course from) made old.course.begun new.course.begun kept.begun (taken.marked from));
      marks = ap length kept.marked ∙ taken.marks;
    }

-- a marker that is got was not got before
pub none-got : (made : List LocalEvent) (from : ℕ) (old got : Base) → GetsLetter from letter.Marker old got → HasTaken made old → marked_of old.course from ≡ None
none-got made from old got gets taken = unmarked (marked_of old.course from) from made (ap marks (sym (taken.got from)) ∙ no-marks (got_from old.port from) gets.got.allowed)

pub taken-marked : (made : List LocalEvent) (from : ℕ) (old got new : Base) → GetsLetter from letter.Marker old got → BeginsOnce (with_marker from got) new → from < 8
    → length old.journal.entries ≡ length made → HasTaken made old → HasTaken made new
taken-marked made from old got new gets once below long taken =
    record {
      got = λ j. ap (λ (p : PortView). told (got_from p j)) kept.port ∙ got_at j (eqb_tells j from) ∙ ap (λ ms. letters_from (slice_index_or ms j None) j made) (sym marked);
      marked = λ j. subst (λ ms. IfSome (slice_index_or ms j None) (λ n. (n ≤ length made) × IsSome new.course.begun)) (sym marked) (marked_at j (eqb_tells j from));
      marks = ap length marked ∙ length-set old.course.marked from (Some at) ∙ taken.marks;
    }
  where
    at : ℕ
    at = length made

    kept : KeepsMarks (with_marker from got) new
    kept = keeps-marks (with_marker from got) new once

    marked : new.course.marked ≡ set old.course.marked from (Some (length made))
    marked =
        kept.marked ∙ ap (λ (b : Base). set b.course.marked from (Some (length b.journal.entries))) gets.rest ∙ ap (λ n. set old.course.marked from (Some n)) long

    there : from < length old.course.marked
    there = subst (λ n. from < n) (sym taken.marks) below

    none : marked_of old.course from ≡ None
    none = none-got made from old got gets taken

    here : told (got_from got.port from) ≡ letters_from (Some (length made)) from made
    here =
        ap told gets.got.got ∙ map-append told_of (got_from old.port from) (letter.Marker ∷ [])
        ∙ ap (λ ls. ls ++ AMarker ∷ []) (taken.got from ∙ ap (λ m. letters_from m from made) none)
        ∙ ap (λ es. packets (takes_from from es) ++ AMarker ∷ []) (sym (take-length made))
        ∙ ap (λ es. packets (takes_from from (take (length made) made)) ++ AMarker ∷ packets (takes_from from es)) (sym (drop-length made))

    got_at : (j : ℕ) → ((nat_eq j from ≡ true) × (j ≡ from)) ⊎ ((nat_eq j from ≡ false) × (j ≢ from))
        → told (got_from got.port j) ≡ letters_from (slice_index_or (set old.course.marked from (Some (length made))) j None) j made
    got_at j (inl e) =
        ap (λ i. told (got_from got.port i)) e.1 ∙ here ∙ ap (λ m. letters_from m from made) (sym (get_or-set_same old.course.marked from (Some (length made)) None there))
        ∙ ap (λ i. letters_from (slice_index_or (set old.course.marked from (Some (length made))) i None) i made) (sym e.1)
    got_at j (inr e) =
        ap told (gets.got.others j e.1).0 ∙ taken.got j
        ∙ ap (λ m. letters_from m j made) (sym (get_or-set_other old.course.marked from j (Some (length made)) None e.1))

    marked_at : (j : ℕ) → ((nat_eq j from ≡ true) × (j ≡ from)) ⊎ ((nat_eq j from ≡ false) × (j ≢ from))
        → IfSome (slice_index_or (set old.course.marked from (Some (length made))) j None) (λ n. (n ≤ length made) × IsSome new.course.begun)
    marked_at j (inl e) =
        subst (λ m. IfSome m (λ n. (n ≤ length made) × IsSome new.course.begun))
        (sym (get_or-set_same old.course.marked from (Some (length made)) None there) ∙ ap (λ i. slice_index_or (set old.course.marked from (Some (length made))) i None) (sym e.1))
        (omega arith, kept.begun)
    marked_at j (inr e) =
        subst (λ m. IfSome m (λ n. (n ≤ length made) × IsSome new.course.begun)) (sym (get_or-set_other old.course.marked from j (Some (length made)) None e.1))
        (marked-kept (marked_of old.course j) made old.course.begun new.course.begun kept.begun (taken.marked j))
