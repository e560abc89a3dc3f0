-- What is heard of an end, by how it is held.
use Rattle.std.proofs.Common.{arith, rules, ◌≡◌, ◌⊎◌, inl, inr, ℕ, suc, ◌+◌, true, false, Bool, Bor, List, [], ◌∷◌, Option, Some, None, Result, Ok, Err, option_map, slice_get, if◌then◌else◌, refl, sym, ap, ap₂, subst, ◌∙◌}
use Rattle.std.specs.Prelude.{is_some}
use Rattle.std.specs.Option.{option_copied}
use Rattle.charlotte_calls.specs.declared.calls.Report.{Report}
use Rattle.charlotte_calls.specs.declared.names.EndId.{EndId}
use Rattle.charlotte_calls.specs.EndEq.{end_eq}
use Rattle.charlotte_calls.specs.declared.names.Outcome.{Outcome}
use Rattle.charlotte_calls.specs.declared.names.Outcome.TheVariants.{Done, Destroyed}
use Rattle.charlotte_calls.specs.declared.names.Way.{Way}
use Rattle.charlotte_calls.specs.declared.names.Way.TheVariants.{Inward}
use Rattle.typing_rules.specs.declared.exception.Exception.TheVariants.{DeadLink}
use Rattle.lynx_packets.specs.declared.packet.RtPacket.{RtPacket}
use Rattle.lynx_packets.specs.Packets.{packet_of}
use Rattle.lynx_packets.specs.Spelling.{IsWrongAt, Spells}
use Rattle.lynx_packets.proofs.Decoding.{found_law, reads_spelling}
use Rattle.lynx_packets.proofs.Exact.{IsBytes}
use Rattle.end_protocol.specs.declared.hearing.Heard.{Heard}
use Rattle.end_protocol.specs.declared.hearing.Heard.TheVariants as heard
use Rattle.end_protocol.specs.declared.kept.Kept.{Kept}
use Rattle.end_protocol.specs.declared.falling.Fallen.{Fallen}
use Rattle.end_protocol.specs.Falling.{dies, fallen, raised}
use Rattle.end_protocol.specs.Going.{cancel_late, receive_over, returns, send_over}
use Rattle.process_run.specs.States.{Holding, Keeps, Gone, Place, Held, State}
use Rattle.process_run.specs.Deaths.{destroys, dies_at, falls}
use Rattle.process_run.specs.Ends.{dooms, held_at, held_in, held_of, number_from, number_of, or_number, place_at, puts, room}
use Rattle.process_run.specs.Reports.{comes_of, held_if, holding_of, listens, on_end, reported, reported_in}
use Rattle.process_ends.specs.Ends.{kept_at, kept_by, kept_in}
use Rattle.process_ends.proofs.Lists.{some_is}
use Rattle.process_sound.specs.Machine.{MayRaise}
use Rattle.process_sound.specs.May.{MayComeOf, MayDie, MayListen, MayReportIn, MayReportOn, at_end, raised_so}
use Rattle.lynx_rt.specs.Changes.{changes, comes_at, dies_after, falls_back, hears_of, own_so, reads_of, taken_so}
use Rattle.lynx_rt.specs.May.{MayListenAt}
use Rattle.lynx_rt.specs.Steps.{IsRead, Listens}
use Rattle.lynx_rt.proofs.Changing.{change_at, none_at, puts_twice, taken_out}
use Rattle.lynx_rt.proofs.Dying.{death_at, end_of_destroyed}
use Rattle.lynx_rt.proofs.Holding.{held_as, placed}

-- ---- an end that is held

-- it has a place
record IsThere (o : Option Place) (k : Kept) : Type 0 where
  place : Place
  is : o ≡ Some place
  holds : place.holding ≡ Keeps k

keeps_by : (p : Place) (h : Holding) (k : Kept) → p.holding ≡ h → kept_by h ≡ Some k → IsThere (Some p) k
keeps_by p (Keeps j) k holds at = record { place = p; is = refl; holds = holds ∙ ap (λ (x : Kept). Keeps x) (some_is j k at) }
keeps_by p (Gone own) k holds at = let no : None ≡ Some k = at in absurd cc

there_in : (o : Option Place) (k : Kept) → kept_in o ≡ Some k → IsThere o k
there_in None k at = let no : None ≡ Some k = at in absurd cc
there_in (Some p) k at = keeps_by p p.holding k refl at

held_there : (n : ℕ) (o : Option Place) (k : Kept) (t : IsThere o k) → held_of n o ≡ Some (record { number = n; end = t.place.end; kept = k })
held_there n o k t = ap (held_of n) t.is ∙ ap (held_in n t.place.end) t.holds

held_now : (n : ℕ) (ps : List Place) (k j : Kept) (t : IsThere (place_at n ps) k) (s : State) → s.places ≡ ps
    → held_at n (puts n (Keeps j) s) ≡ Some (record { number = n; end = t.place.end; kept = j })
held_now n ps k j t s is =
    ap (held_of n) (placed n (Keeps j) s.places ∙ ap (λ (qs : List Place). option_map (held_as (Keeps j)) (place_at n qs)) is
    ∙ ap (option_map (held_as (Keeps j))) t.is)

kept_map : (o : Option Place) (j k : Kept) → kept_in o ≡ Some k → kept_in (option_map (held_as (Keeps j)) o) ≡ Some j
kept_map None j k at = let no : None ≡ Some k = at in absurd cc
kept_map (Some p) j k at = refl

kept_now : (n : ℕ) (k j : Kept) (s : State) → kept_at n s.places ≡ Some k → kept_at n (puts n (Keeps j) s).places ≡ Some j
kept_now n k j s at = ap kept_in (placed n (Keeps j) s.places) ∙ kept_map (place_at n s.places) j k at

-- ---- an end that is destroyed

none_done : (o : Option Held) (f : Held → State → State) (s : State) → None ≡ option_map (λ h. h.end) o → s ≡ (on_end o f s).state
none_done None f s at = refl
none_done (Some h) f s at = let no : None ≡ Some h.end = at in absurd cc

pub not_held : (n : ℕ) (f : Held → State → State) (s : State) → None ≡ option_map (λ h. h.end) (held_at n s) → s ≡ at_end n f s
not_held n f s at = none_done (held_at n s) f s at

kept_by_held : (n : ℕ) (x e : EndId) (h : Holding) → Some e ≡ option_map (λ g. g.end) (held_in n x h) → None ≡ kept_by h → ⊥
kept_by_held n x e (Keeps k) at none = let no : None ≡ Some k = none in absurd cc
kept_by_held n x e (Gone own) at none = let no : Some e ≡ None = at in absurd cc

kept_held : (n : ℕ) (o : Option Place) (e : EndId) → Some e ≡ option_map (λ g. g.end) (held_of n o) → None ≡ kept_in o → ⊥
kept_held n None e at none = let no : Some e ≡ None = at in absurd cc
kept_held n (Some p) e at none = kept_by_held n p.end e p.holding at none

pub must_be_kept : (n : ℕ) (e : EndId) (s : State) → Some e ≡ option_map (λ g. g.end) (held_at n s) → None ≡ kept_at n s.places → ⊥
must_be_kept n e s at none = kept_held n (place_at n s.places) e at none

pub destroyed_so : (n : ℕ) (k : Kept) (e : EndId) (own : Bool) (f : Fallen) (s t u v : State) → Some e ≡ option_map (λ h. h.end) (held_at n s) → own ≡ own_so (kept_at n s.places)
    → Some k ≡ kept_at n s.places → t ≡ puts n (Gone own) s → u ≡ dooms (e ∷ []) t → f ≡ fallen k → v ≡ falls f u → v ≡ at_end n destroys s
destroyed_so n k e own f s t u v at owns kept gone doomed fell_is fell =
    let there = there_in (place_at n s.places) k (sym kept) in
    let held : held_at n s ≡ Some (record { number = n; end = there.place.end; kept = k }) = held_there n (place_at n s.places) k there in
    let name : e ≡ there.place.end = some_is e there.place.end (at ∙ ap (option_map (λ h. h.end)) held) in
    let now : t ≡ puts n (Gone (returns k.sending)) s = gone ∙ ap (λ (b : Bool). puts n (Gone b) s) (owns ∙ ap own_so (sym kept)) in
    fell ∙ ap (λ (x : Fallen). falls x u) fell_is
    ∙ ap (falls (fallen k)) (doomed ∙ ap (λ (x : EndId). dooms (x ∷ []) t) name ∙ ap (dooms (there.place.end ∷ [])) now)
    ∙ sym (end_of_destroyed n k there.place.end s) ∙ sym (ap (λ (o : Option Held). (on_end o destroys s).state) held)

pub may_destroy : (n : ℕ) (k : Kept) (e : EndId) (own : Bool) (f : Fallen) (s t u : State) → Some k ≡ kept_at n s.places → f ≡ fallen k → t ≡ puts n (Gone own) s → u ≡ dooms (e ∷ []) t
    → MayDie n s → MayRaise (raised f) DeadLink u
may_destroy n k e own f s t u kept fell gone doomed may =
    subst (λ (x : Fallen). MayRaise (raised x) DeadLink u) (sym fell)
    (subst (λ (z : State). MayRaise (raised (fallen k)) DeadLink z) (sym (doomed ∙ ap (dooms (e ∷ [])) gone))
    (subst (λ (o : Option Kept). MayRaise (raised_so o) DeadLink s) (sym kept) may))

-- ---- what is kept changes, and the end dies

after_there : (n : ℕ) (o : Option Held) (e : EndId) (f : Kept → Kept) (k : Kept) (s : State) → o ≡ Some (record { number = n; end = e; kept = k })
    → (on_end o (dies_after f) s).state ≡ falls (fallen (f k)) (puts n (Keeps (dies (f k))) s)
unfolding dies_at
after_there n o e f k s is = ap (λ (x : Option Held). (on_end x (dies_after f) s).state) is

after_at : (n : ℕ) (f : Kept → Kept) (k : Kept) (s : State) (t : IsThere (place_at n s.places) k)
    → at_end n (dies_after f) s ≡ falls (fallen (f k)) (puts n (Keeps (dies (f k))) s)
after_at n f k s t = after_there n (held_at n s) t.place.end f k s (held_there n (place_at n s.places) k t)

after_so : (o : Option Kept) (n : ℕ) (f : Kept → Kept) (s : State) → kept_at n s.places ≡ o → at_end n dies_at (changes n f s) ≡ at_end n (dies_after f) s
after_so None n f s at = ap (at_end n dies_at) (none_at n (λ h t. puts h.number (Keeps (f h.kept)) t) s at) ∙ none_at n dies_at s at ∙ sym (none_at n (dies_after f) s at)
after_so (Some k) n f s at =
    ap (at_end n dies_at) (change_at n f k s at) ∙ death_at n (f k) (puts n (Keeps (f k)) s) (kept_now n k (f k) s at)
    ∙ ap (falls (fallen (f k))) (puts_twice n (Keeps (f k)) (Keeps (dies (f k))) s) ∙ sym (after_at n f k s (there_in (place_at n s.places) k at))

pub died_after : (n : ℕ) (f : Kept → Kept) (s t u : State) → t ≡ changes n f s → u ≡ at_end n dies_at t → u ≡ at_end n (dies_after f) s
died_after n f s t u changed died = died ∙ ap (at_end n dies_at) changed ∙ after_so (kept_at n s.places) n f s refl

may_so : (o : Option Kept) (n : ℕ) (f : Kept → Kept) (s : State) → kept_at n s.places ≡ o → ((k : Kept) → raised (fallen (f k)) ≡ raised (fallen k)) → MayDie n s
    → MayDie n (changes n f s)
may_so None n f s at same may = subst (MayDie n) (sym (none_at n (λ h t. puts h.number (Keeps (f h.kept)) t) s at)) may
may_so (Some k) n f s at same may =
    subst (MayDie n) (sym (change_at n f k s at))
    (subst (λ ns. MayRaise ns DeadLink s) (ap raised_so at ∙ sym (same k) ∙ sym (ap raised_so (kept_now n k (f k) s at))) may)

pub may_after : (n : ℕ) (f : Kept → Kept) (s t : State) → t ≡ changes n f s → ((k : Kept) → raised (fallen (f k)) ≡ raised (fallen k)) → MayDie n s → MayDie n t
may_after n f s t changed same may = subst (MayDie n) (sym changed) (may_so (kept_at n s.places) n f s refl same may)

pub cancel_raises : (k : Kept) → raised (fallen (cancel_late k)) ≡ raised (fallen k)
unfolding fallen
cancel_raises k = refl

pub receive_raises : (k : Kept) → raised (fallen (receive_over k)) ≡ raised (fallen k)
unfolding fallen
receive_raises k = refl

pub send_raises : (k : Kept) → raised (fallen (send_over k)) ≡ raised (fallen k)
unfolding fallen
send_raises k = refl

-- ---- a send comes back

back_by : (n : ℕ) (x : EndId) (h : Holding) (xs : List EndId) (s : State)
    → held_if (own_so (kept_by h)) xs (on_end (held_in n x h) (dies_after send_over) s).state ≡ (on_end (held_in n x h) (falls_back xs) s).state
back_by n x (Keeps k) xs s = refl
back_by n x (Gone own) xs s = refl

back_in : (n : ℕ) (o : Option Place) (xs : List EndId) (s : State)
    → held_if (own_so (kept_in o)) xs (on_end (held_of n o) (dies_after send_over) s).state ≡ (on_end (held_of n o) (falls_back xs) s).state
back_in n None xs s = refl
back_in n (Some p) xs s = back_by n p.end p.holding xs s

pub came_back : (n : ℕ) (own : Bool) (xs : List EndId) (s t u v : State) → own ≡ own_so (kept_at n s.places) → t ≡ changes n send_over s → u ≡ at_end n dies_at t
    → v ≡ held_if own xs u → v ≡ at_end n (falls_back xs) s
came_back n own xs s t u v owns changed died held =
    held ∙ ap₂ (λ (b : Bool) (z : State). held_if b xs z) owns (died_after n send_over s t u changed died) ∙ back_in n (place_at n s.places) xs s

-- ---- a report of an end that is held

pub may_listen : (n : ℕ) (o : Option Kept) (r : Report) (s : State) → r.way ≡ Inward → r.outcome ≡ Done → MayReportIn n o r s → MayListenAt n o r s
may_listen n None r s way outcome may = tt
may_listen n (Some k) r s way outcome may = subst (λ (w : Way). MayReportOn n k w Done r s) way (subst (λ (y : Outcome). MayReportOn n k r.way y r s) outcome may)

die_so : (w : Way) (y : Outcome) (n : ℕ) (k : Kept) (r : Report) (s : State) → y ≡ Destroyed → MayReportOn n k w y r s → MayDie n s
die_so w Done n k r s is may = let no : Done ≡ Destroyed = is in absurd cc
die_so w Destroyed n k r s is may = may

die_in : (o : Option Kept) (n : ℕ) (r : Report) (s : State) → kept_at n s.places ≡ o → r.outcome ≡ Destroyed → MayReportIn n o r s → MayDie n s
die_in None n r s at is may = subst (λ (x : Option Kept). MayRaise (raised_so x) DeadLink s) (sym at) tt
die_in (Some k) n r s at is may = die_so r.way r.outcome n k r s is may

pub may_die_of : (n : ℕ) (r : Report) (s : State) → r.outcome ≡ Destroyed → MayReportIn n (kept_at n s.places) r s → MayDie n s
may_die_of n r s is may = die_in (kept_at n s.places) n r s refl is may

-- ---- a report

end_same : (a b : EndId) → end_eq a b ≡ true → a ≡ b
unfolding end_eq
end_same a b is = search rules

-- an end stands at the place that its number tells
record IsAt (n k : ℕ) (x : EndId) (ps : List Place) : Type 0 where
  index : ℕ
  place : Place
  number : k ≡ n + index
  there : slice_get ps index ≡ Some place
  same : end_eq place.end x ≡ true

here : (b : Bool) (n : ℕ) (x : EndId) (p : Place) (ps : List Place) → end_eq p.end x ≡ b → ((if b then n else 0) ≡ 0) ⊎ IsAt n (if b then n else 0) x (p ∷ ps)
here true n x p ps is = inr (record { index = 0; place = p; number = omega arith; there = refl; same = is })
here false n x p ps is = inl refl

or_first : (m n : ℕ) → m ≡ 0 → or_number m n ≡ n
or_first m n is = ap (λ (k : ℕ). or_number k n) is

or_second : (m n i : ℕ) → m ≡ suc i → or_number m n ≡ m
or_second m n i is = ap (λ (k : ℕ). or_number k n) is ∙ sym is

at_or : (n k : ℕ) (x : EndId) (p : Place) (ps : List Place) → (k ≡ 0) ⊎ IsAt (n + 1) k x ps
    → (or_number k (if end_eq p.end x then n else 0) ≡ 0) ⊎ IsAt n (or_number k (if end_eq p.end x then n else 0)) x (p ∷ ps)
at_or n k x p ps (inl none) =
    subst (λ (m : ℕ). (m ≡ 0) ⊎ IsAt n m x (p ∷ ps)) (sym (or_first k (if end_eq p.end x then n else 0) none)) (here (end_eq p.end x) n x p ps refl)
at_or n k x p ps (inr a) =
    let more : k ≡ suc (n + a.index) = a.number ∙ omega arith in
    inr (record {
      index = suc a.index;
      place = a.place;
      number = or_second k (if end_eq p.end x then n else 0) (n + a.index) more ∙ a.number ∙ omega arith;
      there = a.there;
      same = a.same;
    })

stands_at : (n : ℕ) (x : EndId) (ps : List Place) → (number_from n x ps ≡ 0) ⊎ IsAt n (number_from n x ps) x ps
stands_at n x [] = inl refl
stands_at n x (p ∷ ps) = at_or n (number_from (n + 1) x ps) x p ps (stands_at (n + 1) x ps)

end_by : (x : EndId) (ps : List Place) (k : ℕ) (q : Place) → (k ≡ 0) ⊎ IsAt 1 k x ps → place_at k ps ≡ Some q → q.end ≡ x
end_by x ps k q (inl none) at = let no : None ≡ Some q = sym (ap (λ (m : ℕ). place_at m ps) none) ∙ at in absurd cc
end_by x ps k q (inr a) at =
    let number : k ≡ suc a.index = a.number ∙ omega arith in
    let same : a.place ≡ q = some_is a.place q (sym a.there ∙ sym (ap (λ (m : ℕ). place_at m ps) number) ∙ at) in
    ap (λ (p : Place). p.end) (sym same) ∙ end_same a.place.end x a.same

told_there : (n : ℕ) (r : Report) (k : Kept) (s : State) (t : IsThere (place_at n s.places) k) → n ≡ number_of r.on s.places → at_end n (hears_of r) s ≡ (reported r s).state
told_there n r k s t number =
    let name : t.place.end ≡ r.on = end_by r.on s.places n t.place (subst (λ (m : ℕ). (m ≡ 0) ⊎ IsAt 1 m r.on s.places) (sym number) (stands_at 1 r.on s.places)) t.is in
    ap (λ (o : Option Held). (on_end o (hears_of r) s).state) (held_there n (place_at n s.places) k t)
    ∙ ap (λ (x : EndId). hears_of r (record { number = n; end = x; kept = k }) s) name
    ∙ ap (λ (h : Holding). (reported_in n h r s).state) (sym (ap holding_of t.is ∙ t.holds))
    ∙ ap (λ (m : ℕ). (reported_in m (holding_of (place_at m s.places)) r s).state) number

heard_held : (n : ℕ) (r : Report) (k : Kept) (s u : State) → n ≡ number_of r.on s.places → kept_at n s.places ≡ Some k → u ≡ at_end n (hears_of r) s → u ≡ (reported r s).state
heard_held n r k s u number at is = is ∙ told_there n r k s (there_in (place_at n s.places) k at) number

pub heard_there : (o : Option (Bor Kept)) (n : ℕ) (r : Report) (s u : State) → option_copied o ≡ kept_at n s.places → is_some o ≡ true → n ≡ number_of r.on s.places
    → u ≡ at_end n (hears_of r) s → u ≡ (reported r s).state
heard_there None n r s u at there number is = let no : false ≡ true = there in absurd cc
heard_there (Some b) n r s u at there number is = heard_held n r b.now s u number (sym at) is

-- ---- a message

comes_same : (n : ℕ) (h : Held) (x : Heard) (t : State) → h.number ≡ n → held_at n t ≡ Some h → comes_at n x t ≡ comes_of h x t
comes_same n h heard.Nothing t number at = refl
comes_same n h (heard.Accepted w) t number at = ap (λ (m : ℕ). comes_at m (heard.Accepted w) t) (sym number)
comes_same n h (heard.Returned thread r) t number at = refl
comes_same n h (heard.TooLate xs) t number at = refl
comes_same n h (heard.Unreadable xs) t number at = ap (λ (o : Option Held). dooms xs (on_end o destroys t).state) at

read_there : (n : ℕ) (k j : Kept) (x : Heard) (r : Report) (s : State) (t : IsThere (place_at n s.places) k)
    → (j, x) ≡ listens s.version (room s) (packet_of s.version r.bytes) r.enclosed (receive_over k)
    → comes_at n x (puts n (Keeps j) s) ≡ at_end n (reads_of r) s
read_there n k j x r s t heard_so =
    comes_same n (record { number = n; end = t.place.end; kept = j }) x (puts n (Keeps j) s) refl (held_now n s.places k j t s refl)
    ∙ ap (λ (y : Kept × Heard). comes_of (record { number = n; end = t.place.end; kept = y.0 }) y.1 (puts n (Keeps y.0) s)) heard_so
    ∙ sym (ap (λ (o : Option Held). (on_end o (reads_of r) s).state) (held_there n (place_at n s.places) k t))

pub heard_as : (version : ℕ) (free : Bool) (p : Option RtPacket) (xs : List EndId) (k j : Kept) (x : Heard) (r : Report) (s : State) → Listens version free p xs k j x
    → version ≡ s.version → free ≡ room s → xs ≡ r.enclosed → IsRead p (packet_of s.version r.bytes)
    → (j, x) ≡ listens s.version (room s) (packet_of s.version r.bytes) r.enclosed k
heard_as version free p xs k j x r s listen of_version with_room ends spelled =
    let read = packet_of s.version r.bytes in
    listen read spelled ∙ ap (λ (v : ℕ). listens v free read xs k) of_version ∙ ap (λ (b : Bool). listens s.version b read xs k) with_room
    ∙ ap (λ (ys : List EndId). listens s.version (room s) read ys k) ends

-- it is put back as it is then
pub back_with : (n : ℕ) (k j : Kept) (s t u : State) → Some k ≡ kept_at n s.places → t ≡ taken_so (kept_at n s.places) n s → u ≡ puts n (Keeps j) t → u ≡ puts n (Keeps j) s
back_with n k j s t u at taken put = put ∙ ap (puts n (Keeps j)) (taken_out n k s t at taken) ∙ puts_twice n (Gone false) (Keeps j) s

pub read_at : (n : ℕ) (k j : Kept) (x : Heard) (r : Report) (s u v : State) → Some k ≡ kept_at n s.places
    → (j, x) ≡ listens s.version (room s) (packet_of s.version r.bytes) r.enclosed (receive_over k)
    → u ≡ puts n (Keeps j) s → v ≡ comes_at n x u → v ≡ at_end n (reads_of r) s
read_at n k j x r s u v at heard_so put came = came ∙ ap (comes_at n x) put ∙ read_there n k j x r s (there_in (place_at n s.places) k (sym at)) heard_so

pub may_come : (n : ℕ) (k j : Kept) (x : Heard) (r : Report) (s u : State) → Some k ≡ kept_at n s.places
    → (j, x) ≡ listens s.version (room s) (packet_of s.version r.bytes) r.enclosed (receive_over k)
    → u ≡ puts n (Keeps j) s → MayListenAt n (kept_at n s.places) r s → MayComeOf n x u
may_come n k j x r s u at heard_so put may =
    let listen : MayListen n k r s = subst (λ (o : Option Kept). MayListenAt n o r s) (sym at) may in
    subst (MayComeOf n x) (sym put) (subst (λ (y : Kept × Heard). MayComeOf n y.1 (puts n (Keeps y.0) s)) (sym heard_so) listen)

-- ---- bytes

pub read_packet : (version : ℕ) (p : RtPacket) (bytes : List ℕ) → Spells version p bytes → IsRead (Some p) (packet_of version bytes)
read_packet version p bytes spells = reads_spelling version p bytes spells

none_by : (version : ℕ) (bytes : List ℕ) (read : Result RtPacket ℕ) → packet_of version bytes ≡ read → IsBytes bytes → ((p : RtPacket) → Spells version p bytes → ⊥) → IsRead None read
none_by version bytes (Ok p) is fits none = absurd (none p (found_law version bytes (Ok p) fits is))
none_by version bytes (Err left) is fits none = (left, refl)

pub read_none : (version at : ℕ) (bytes : List ℕ) → IsBytes bytes → IsWrongAt version bytes at → IsRead None (packet_of version bytes)
read_none version at bytes fits wrong = none_by version bytes (packet_of version bytes) refl fits wrong.none
