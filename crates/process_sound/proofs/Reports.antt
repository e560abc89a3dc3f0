-- What is heard of an end, and what comes of it, keeps what holds of a process.
use Rattle.std.proofs.Common.{arith, ◌≡◌, ℕ, zero, suc, ◌+◌, ◌≤◌, Bool, true, false, List, [], ◌∷◌, length, Option, Some, None, Result, Ok, Err, slice_get, if◌then◌else◌, refl, sym, ap, subst, ◌∙◌}
use Rattle.std.proofs.lemmas.Option.{slice_get_within}
use Rattle.charlotte_calls.specs.Ranges.{AreBytes}
use Rattle.charlotte_calls.specs.declared.calls.Report.{Report}
use Rattle.charlotte_calls.specs.declared.names.EndId.{EndId}
use Rattle.charlotte_calls.specs.declared.names.Outcome.{Outcome}
use Rattle.charlotte_calls.specs.declared.names.Outcome.TheVariants as outcomes
use Rattle.charlotte_calls.specs.declared.names.Way.{Way}
use Rattle.charlotte_calls.specs.declared.names.Way.TheVariants.{Inward, Outward}
use Rattle.typing_rules.specs.declared.exception.Exception.TheVariants as exceptions
use Rattle.code_shapes.specs.Shapes.{PartTypes, opened_by, program}
use Rattle.compiler_runnable.specs.Runnable.{parameters, start_locals}
use Rattle.compiler_runnable.proofs.Typed.{entry_typed}
use Rattle.lynx_meaning.specs.Needs.{Arguments, Results, Wanted, wanted_types}
use Rattle.lynx_meaning.specs.Values.{HaveTypes, Value}
use Rattle.lynx_packets.specs.declared.packet.RtPacket.{RtPacket}
use Rattle.lynx_packets.specs.declared.value.RtValue.{RtValue}
use Rattle.lynx_packets.specs.Packets.{packet_of}
use Rattle.lynx_packets.specs.Spelling.{Spells}
use Rattle.lynx_packets.proofs.Decoding.{found_law}
use Rattle.lynx_packets.proofs.Ints.{each_byte}
use Rattle.machine_sound.specs.Sound.{one_if, times}
use Rattle.machine_sound.proofs.Outside.{spawned_sound}
use Rattle.machine_sound.proofs.Placing.{get_set}
use Rattle.machine_requests.proofs.Outside.{spawned_heard}
use Rattle.machine_turns.specs.Threads.{Standing}
use Rattle.machine_turns.specs.Turns.{IsFree, Turns, is_ready_after, spawned}
use Rattle.end_protocol.specs.declared.hearing.Heard.{Heard}
use Rattle.end_protocol.specs.declared.hearing.Heard.TheVariants as heard
use Rattle.end_protocol.specs.declared.kept.Kept.{Kept}
use Rattle.end_protocol.specs.declared.kept.Response.{Response}
use Rattle.end_protocol.specs.declared.kept.Taker.{Taker}
use Rattle.end_protocol.specs.declared.kept.Taker.TheVariants as takers
use Rattle.end_protocol.specs.declared.kept.Wanted.{Wanted as Coming}
use Rattle.end_protocol.specs.Going.{receive_over, returns, send_over}
use Rattle.process_run.specs.States.{Gone, Held, Holding, Keeps, Place, State}
use Rattle.process_run.specs.Actions.{opened_in}
use Rattle.process_run.specs.Deaths.{destroys, dies_at}
use Rattle.process_run.specs.Ends.{gets, keeps, number_of, place_at, room, set_holding, unpacked, with_holding}
use Rattle.process_run.specs.Reports.{comes_of, free_from, goes_on_with, heard_on, held_if, holding_of, listens, opening, reported, reported_in, reported_off, reported_on, returns_to, spawns, takes}
use Rattle.process_sound.specs.Machine.{IsProcess, IsProcessOf, asks}
use Rattle.process_sound.specs.Packets.{Unpack}
use Rattle.process_sound.specs.Ends.{AreEnds, AreWaiting, IsKept, waits}
use Rattle.process_sound.specs.Hearing.{HearsSo, IsHeardFor, IsTakenFor, owed_by, taken_by}
use Rattle.process_sound.specs.Processes.{IsGoing}
use Rattle.process_sound.proofs.Actions.{raise_owed}
use Rattle.process_sound.proofs.Deaths.{IsHeldAs, death_going, destroy_going}
use Rattle.process_sound.proofs.Every.{some_is}
use Rattle.process_sound.proofs.Giving.{pays_going}
use Rattle.process_sound.proofs.Going.{receive_over_keeps, send_over_keeps}
use Rattle.process_sound.proofs.Hearing.{hears_so}
use Rattle.process_sound.proofs.Held.{held_holding, held_with, keeps_going, opened_going}
use Rattle.process_sound.proofs.Places.{dooms_going, gets_going, holds_going}
use Rattle.process_sound.proofs.Staying.{ends_stay}
use Rattle.process_sound.proofs.Threads.{asking_of, free_asks, spawned_others}

-- ---- a new thread

free_index : (k : ℕ) (ts : List (Option Standing)) (n : ℕ) → free_from k ts ≡ Some n → (i : ℕ) × (n ≡ k + i) × (slice_get ts i ≡ Some None)
free_index k [] n found = let no : None ≡ Some n = found in absurd cc
free_index k (None ∷ ts) n found = (zero, sym (some_is k n found) ∙ omega arith, refl)
free_index k (Some s ∷ ts) n found =
    let rest = free_index (suc k) ts n found in
    (suc rest.0, (let at = rest.1 in omega arith), rest.2)

pub free_there : (t : Turns) (n : ℕ) → free_from 0 t.threads ≡ Some n → IsFree n t
free_there t n found =
    let at = free_index 0 t.threads n found in
    let same : n ≡ at.0 = let is = at.1 in omega arith in
    ap (slice_get t.threads) same ∙ at.2

module _ (n e : ℕ) (p : PartTypes) (vs : List Value) (s : State) (free : IsFree n s.turns) (part : slice_get s.code.parts (suc e) ≡ Some p) where
  abbrev new : Turns
  new = spawned n (opened_by p.op) p.start (start_locals p.locals vs) s.turns

  spawned_process : HaveTypes (parameters s.code.types p) vs → IsProcess s → IsProcessOf s.code new s.opened
  spawned_process typed is = record {
    sound = spawned_sound s.code.types s.code.parts s.code.instructions s.turns n (suc e) p (start_locals p.locals vs) is.sound free part (entry_typed s.code.types s.code.parts is.parts e p vs part typed);
    parts = is.parts;
    heard = spawned_heard (program s.code.types s.code.instructions) s.turns n (opened_by p.op) p.start (start_locals p.locals vs) free is.heard;
    lists = is.lists;
  }

  -- the new thread waits nowhere
  other_thread : (owed : List ℕ) → AreEnds s.version s.code s.turns owed s.places → (k : ℕ) → 1 ≤ waits k s.places + times k owed → k ≡ n → ⊥
  other_thread owed are k some same =
      let once = are.once k in
      let none : one_if (is_ready_after (asks k s.turns)) ≡ 0 = ap (λ (o : Option Wanted). one_if (is_ready_after o)) (ap (λ (i : ℕ). asks i s.turns) same ∙ free_asks n s.turns free) in
      absurd (omega (arith, some, once, none))

  pub spawned_going : HaveTypes (parameters s.code.types p) vs → IsGoing [] s → IsGoing [] (record s { turns = new })
  spawned_going typed is = record {
    version = is.version;
    code = is.code;
    process = spawned_process typed is.process;
    ends = ends_stay s.code s.turns new s.version [] s.places (λ k some. spawned_others n k (opened_by p.op) p.start (start_locals p.locals vs) s.turns (other_thread [] is.ends k some)) is.ends;
  }

-- ---- requests and replies

spawns_going : (o : Option ℕ) (part : Option PartTypes) (e on : ℕ) (w : Coming) (s : State) → free_from 0 s.turns.threads ≡ o → slice_get s.code.parts (suc e) ≡ part → IsTakenFor s.code s.turns (takers.Entry e) w.values →
    IsGoing [] s → IsGoing [] (spawns o part on w s)
spawns_going None part e on w s free there fits is = is
spawns_going (Some n) None e on w s free there fits is = is
spawns_going (Some n) (Some p) e on w s free there fits is =
    let same : fits.0 ≡ p = some_is fits.0 p (sym fits.1 ∙ there) in
    let vs = unpacked (length s.places) w.values in
    let typed : HaveTypes (parameters s.code.types p) vs = subst (λ (q : PartTypes). HaveTypes (parameters s.code.types q) vs) same (fits.2 (length s.places)) in
    let one = spawned_going n e p vs (gets w.ends s) (free_there s.turns n free) there typed (gets_going [] w.ends s is) in
    opened_going [] n (opening on w ∷ []) (record (gets w.ends s) { turns = spawned n (opened_by p.op) p.start (start_locals p.locals vs) s.turns }) one

-- a thread that is still to have its outcome goes on with values
with_going : (n : ℕ) (w : Wanted) (vs : List RtValue) (xs : List EndId) (s : State) → asks n s.turns ≡ Some w → Unpack (wanted_types s.code.types.ops w) vs → IsGoing (n ∷ []) s → IsGoing [] (goes_on_with n vs xs s)
with_going n w vs xs s wants typed is =
    pays_going n [] (gets xs s) (Ok (unpacked (length s.places) vs)) (w, asking_of n w s.turns wants, typed (length s.places)) (gets_going (n ∷ []) xs s is)

takes_going : (t : Taker) (on : ℕ) (w : Coming) (s : State) → IsTakenFor s.code s.turns t w.values → IsGoing (taken_by t) s → IsGoing [] (takes t on w s)
takes_going (takers.Thread n) on w s fits is =
    opened_going [] n (opening on w ∷ opened_in n s) (goes_on_with n w.values w.ends s) (with_going n (Arguments fits.0) w.values w.ends s fits.1 fits.2 is)
takes_going (takers.Entry e) on w s fits is = spawns_going (free_from 0 s.turns.threads) (slice_get s.code.parts (suc e)) e on w s refl refl fits is

returns_going : (n op status : ℕ) (r : Response) (s : State) → asks n s.turns ≡ Some (Results op) → (status ≡ 0 → Unpack (wanted_types s.code.types.ops (Results op)) r.values) → IsGoing (n ∷ []) s →
    IsGoing [] (returns_to n status r s)
returns_going n op zero r s wants typed is = with_going n (Results op) r.values r.ends s wants (typed refl) is
returns_going n op (suc status) r s wants typed is = raise_owed n s exceptions.Failed is

-- ---- what was heard

set_there : (i : ℕ) (g : Holding) (p : Place) (ps : List Place) → slice_get ps i ≡ Some p → slice_get (set_holding i g (slice_get ps i) ps) i ≡ Some (record p { holding = g })
set_there i g p ps there =
    subst (λ (o : Option Place). slice_get (set_holding i g o ps) i ≡ Some (record p { holding = g })) (sym there) (get_set ps i (record p { holding = g }) (slice_get_within ps i p there))

put_there : (n : ℕ) (g : Holding) (p : Place) (ps : List Place) → place_at n ps ≡ Some p → place_at n (with_holding n g ps) ≡ Some (record p { holding = g })
put_there zero g p ps there = let no : None ≡ Some p = there in absurd cc
put_there (suc i) g p ps there = set_there i g p ps there

-- this is kept for it now
pub held_now : (h : Held) (k : Kept) (s : State) → IsHeldAs h s → IsKept s.version s.code k → AreWaiting s.code s.turns k → IsHeldAs (record h { kept = k }) (keeps h k s)
held_now h k s held kept are = record {
  place = record held.place { holding = Keeps k };
  there = put_there h.number (Keeps k) held.place s.places held.there;
  kept = kept;
  waits = are;
  fewer = λ n. omega arith;
}

comes_going : (h : Held) (x : Heard) (s : State) → IsHeldAs h s → IsHeardFor s.code s.turns x → IsGoing (owed_by x) s → IsGoing [] (comes_of h x s)
comes_going h heard.Nothing s held fits is = is
comes_going h (heard.Accepted w) s held fits is = takes_going w.by h.number w s fits is
comes_going h (heard.Returned n r) s held fits is = returns_going n fits.0 r.status r s fits.1 fits.2 is
comes_going h (heard.TooLate xs) s held fits is = dooms_going [] xs s is
comes_going h (heard.Unreadable xs) s held fits is = dooms_going [] xs (destroys h s) (destroy_going h s held is)

-- while what was heard still has to come to its thread
pub heard_owed : (h : Held) (x : Kept × Heard) (s : State) → IsHeldAs h s → HearsSo s.version s.code s.turns h.kept x → IsGoing [] s → IsGoing (owed_by x.1) (keeps h x.0 s)
heard_owed h x s held so is = keeps_going [] (owed_by x.1) h x.0 s held so.kept so.waits (λ n. let fewer = so.fewer n in omega arith) is

pub heard_going : (h : Held) (x : Kept × Heard) (s : State) → IsHeldAs h s → HearsSo s.version s.code s.turns h.kept x → IsGoing [] s → IsGoing [] (heard_on h x s).state
heard_going h x s held so is = comes_going (record h { kept = x.0 }) x.1 (keeps h x.0 s) (held_now h x.0 s held so.kept so.waits) so.fits (heard_owed h x s held so is)

-- ---- reports

told_so : (free : Bool) (o : Result RtPacket ℕ) (xs : List EndId) (k : Kept) (s : State) (bytes : List ℕ) → AreBytes bytes → packet_of s.version bytes ≡ o → IsKept s.version s.code k → AreWaiting s.code s.turns k → IsGoing [] s →
    HearsSo s.version s.code s.turns k (listens s.version free o xs k)
told_so free (Ok packet) xs k s bytes are told kept waits is =
    let spells : Spells s.version packet bytes = found_law s.version bytes (Ok packet) (each_byte bytes are) told in
    hears_so s.version s.code s.turns is.version is.code free packet xs k spells.has spells.obeys kept waits
told_so free (Err left) xs k s bytes are told kept waits is = by_dead k.dead
  where
    by_dead : (b : Bool) → HearsSo s.version s.code s.turns k (k, if b then heard.TooLate xs else heard.Unreadable xs)
    by_dead true = record { kept = kept; waits = waits; fewer = λ n. omega arith; fits = tt }
    by_dead false = record { kept = kept; waits = waits; fewer = λ n. omega arith; fits = tt }

pub listens_so : (r : Report) (k : Kept) (s : State) → AreBytes r.bytes → IsKept s.version s.code k → AreWaiting s.code s.turns k → IsGoing [] s →
    HearsSo s.version s.code s.turns (receive_over k) (listens s.version (room s) (packet_of s.version r.bytes) r.enclosed (receive_over k))
listens_so r k s are kept waits is =
    let over = receive_over_keeps s.version s.code s.turns k in
    told_so (room s) (packet_of s.version r.bytes) r.enclosed (receive_over k) s r.bytes are refl (over.kept kept) (over.waits waits) is

module _ (h : Held) (s : State) (held : IsHeldAs h s) (is : IsGoing [] s) where
  pub over_held : IsHeldAs (record h { kept = receive_over h.kept }) s
  over_held =
      let over = receive_over_keeps s.version s.code s.turns h.kept in
      held_with h (receive_over h.kept) s (over.kept held.kept) (over.waits held.waits) over.same held

  pub back_held : IsHeldAs (record h { kept = send_over h.kept }) s
  back_held =
      let over = send_over_keeps s.version s.code s.turns h.kept in
      held_with h (send_over h.kept) s (over.kept held.kept) (over.waits held.waits) over.same held

  back_going : IsGoing [] (keeps h (send_over h.kept) s)
  back_going =
      let over = send_over_keeps s.version s.code s.turns h.kept in
      keeps_going [] [] h (send_over h.kept) s held (over.kept held.kept) (over.waits held.waits) (λ n. omega arith) is

  held_if_going : (own : Bool) (xs : List EndId) (t : State) → IsGoing [] t → IsGoing [] (held_if own xs t)
  held_if_going true xs t going = holds_going [] xs t going
  held_if_going false xs t going = going

  pub report_going : (way : Way) (outcome : Outcome) (r : Report) → AreBytes r.bytes → IsGoing [] (reported_on h way outcome r s).state
  report_going Inward outcomes.Done r are =
      heard_going (record h { kept = receive_over h.kept }) (listens s.version (room s) (packet_of s.version r.bytes) r.enclosed (receive_over h.kept)) s over_held
      (listens_so r h.kept s are held.kept held.waits is) is
  report_going Inward outcomes.Destroyed r are = death_going (record h { kept = receive_over h.kept }) s over_held is
  report_going Outward outcomes.Done r are = back_going
  report_going Outward outcomes.Destroyed r are =
      held_if_going (returns h.kept.sending) r.enclosed (dies_at (record h { kept = send_over h.kept }) s) (death_going (record h { kept = send_over h.kept }) s back_held is)

off_going : (own : Bool) (way : Way) (r : Report) (s : State) → IsGoing [] s → IsGoing [] (reported_off own way r s)
off_going own Inward r s is = dooms_going [] r.enclosed s is
off_going true Outward r s is = holds_going [] r.enclosed s is
off_going false Outward r s is = is

-- of an end with this number
reported_at : (n : ℕ) (o : Option Place) (r : Report) (s : State) → place_at n s.places ≡ o → AreBytes r.bytes → IsGoing [] s → IsGoing [] (reported_in n (holding_of o) r s).state
reported_at n None r s there are is = off_going false r.way r s is
reported_at n (Some p) r s there are is = by_holding p.holding refl
  where
    by_holding : (g : Holding) → p.holding ≡ g → IsGoing [] (reported_in n g r s).state
    by_holding (Gone own) holds = off_going own r.way r s is
    by_holding (Keeps k) holds =
        let h : Held = record { number = n; end = p.end; kept = k } in
        let held = held_holding [] s is n p (Keeps k) h holds there refl in
        let on : Held = record { number = n; end = r.on; kept = k } in
        report_going on s (record { place = held.place; there = held.there; kept = held.kept; waits = held.waits; fewer = held.fewer }) is r.way r.outcome r are

pub reported_going : (r : Report) (s : State) → AreBytes r.bytes → IsGoing [] s → IsGoing [] (reported r s).state
reported_going r s are is = reported_at (number_of r.on s.places) (place_at (number_of r.on s.places) s.places) r s refl are is
