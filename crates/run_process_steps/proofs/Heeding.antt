-- What a process is told of an end that it owns is events at the link of that end, or none.
use Rattle.std.proofs.Common.{arith, ◌≡◌, ◌⊎◌, inl, inr, ⊎_elim, ℕ, ◌+◌, ◌≤◌, Bool, true, false, if◌then◌else◌, List, [], ◌∷◌, ◌++◌, Option, Some, None, Result, Ok, Err, refl, sym, ap, subst, ◌∙◌}
use Rattle.charlotte_calls.specs.Names.{opposite}
use Rattle.charlotte_calls.specs.declared.calls.Answer.{Answer}
use Rattle.charlotte_calls.specs.declared.calls.Answer.TheVariants as answer
use Rattle.charlotte_calls.specs.declared.calls.Cause.TheVariants as cause
use Rattle.charlotte_calls.specs.declared.calls.Report.{Report}
use Rattle.charlotte_calls.specs.declared.names.EndId.{EndId}
use Rattle.charlotte_calls.specs.declared.names.Way.TheVariants.{Inward, Outward}
use Rattle.service_step.specs.State.{State as Service}
use Rattle.service_step.specs.declared.state.Inward.TheVariants as inward
use Rattle.service_step.specs.declared.state.Message.{Message as ToldMessage}
use Rattle.service_step.specs.declared.state.Place.TheVariants as place
use Rattle.run_invariant.specs.Coming.{coming}
use Rattle.run_invariant.specs.Deaths.{IsGone}
use Rattle.run_invariant.specs.Moves.{brings}
use Rattle.lynx_packets.specs.declared.packet.RtPacket.{RtPacket}
use Rattle.lynx_packets.specs.Packets.{packet_of}
use Rattle.end_protocol.specs.declared.kept.Kept.{Kept}
use Rattle.end_protocol.specs.declared.kept.Receiving.{Receiving}
use Rattle.end_protocol.specs.declared.kept.Receiving.TheVariants as receiving
use Rattle.end_protocol.specs.declared.messages.Message.{Message}
use Rattle.end_protocol.specs.Deeds.{Deed}
use Rattle.end_protocol.specs.Falling.{dies}
use Rattle.end_protocol.specs.Going.{receives, sent}
use Rattle.end_protocol.specs.Happenings.{CancelLate, Happening, ReceiveOver, Receives, SendOver, after}
use Rattle.end_protocol.specs.Happenings as happenings
use Rattle.end_protocol.specs.Lists.{tail}
use Rattle.process_run.specs.States.{Asked, Gone, Holding, Keeps, Place as OwnPlace}
use Rattle.process_run.specs.States as process
use Rattle.process_run.specs.Ends.{number_of, place_at}
use Rattle.process_run.specs.Reports.{holding_of}
use Rattle.run_invariant.specs.AtEnd.{IsUntold, Seen, ToldAt, held_count, holding_at, is_sent, known, known_holding, total}
use Rattle.run_invariant.specs.AtEnd as told
use Rattle.run_invariant.specs.Changes.{IsHeld}
use Rattle.run_invariant.specs.Telling.{Brings, IsAnswer, IsDeath, IsDeathWith, IsTold, Kills, Turn}
use Rattle.run_invariant.proofs.Numbers.{numbered}
use Rattle.run_invariant.proofs.ToldAt.{holding_known}
use Rattle.run_invariant.specs.Sides.{Courses, Destroyed, Free, Held, Lost, Pair, Standing}
use Rattle.run_invariant.specs.RequestRunsTold.{IsFirst, IsTrue, left}
use Rattle.run_invariant.specs.Acted.{process as pid}
use Rattle.run_invariant.specs.Invariant.{AreSpelled, HasReceive, IsOwned, IsReportTrue, IsSpelled, IsStandingIn, IsToldTrue, told_to}
use Rattle.run_invariant.specs.Owners.{IsAskedFor, Owner, seen_of, turn_of}
use Rattle.run_process_steps.proofs.Answered.{AnswerOf, AsksOn, answer_of, cancel_over, dead_so, death_silent, is_on, message, message_told, outward_silent, reported_so, told_or_brings}

-- ---- what is asked of links

-- a receive is started
abbrev pub IsHeard : Holding → Type 0
IsHeard (Keeps k) = k.receiving ≡ receiving.Idle → ⊥
IsHeard (Gone own) = ⊥

-- how an end stands before its owner makes a step with an answer
abbrev pub IsNow : Turn → ℕ → Holding → Standing → Type 0
IsNow t n (Keeps k) s = s ≡ Held (known t n k)
IsNow t n (Gone own) s = Unit {0}

-- and after it: an end that is not held any more is lost
abbrev pub IsThen : Pair → Holding → Holding → Standing → Type 0
IsThen p g (Keeps k) s = s ≡ Held k
IsThen p (Keeps k) (Gone own) s = s ≡ Lost
IsThen p (Gone was) (Gone own) s = s ≡ p.near.standing

pub record TellingLeads (version : ℕ) (p : Pair) (g : Holding) (ds : List Deed) (h : Holding) (ms : List Message) : Type 0 where
  pub to : Pair
  pub course : Courses version p to
  pub standing : IsThen p g h to.near.standing
  pub coming : to.near.coming ≡ ms
  pub far : to.far ≡ p.far
  pub near_deeds : to.near_deeds ≡ p.near_deeds ++ ds
  pub far_deeds : to.far_deeds ≡ p.far_deeds

-- what is told is events at the link of an end
abbrev pub TellingsLead : Type 0
TellingsLead =
    (version : ℕ) (t : Turn) (x : EndId) (n : ℕ) (p : Pair) (g : Holding) (ds : List Deed) (h : Holding) → (c : ToldAt version t x n g ds h) → IsNow t n g p.near.standing
    → IsTrue version t x n p g ds h c → TellingLeads version p g ds h (left version t x n g ds h c p.near.coming)

-- ---- lists, and places

pub record Spelled (version : ℕ) (g : ToldMessage) (ms : List Message) (gs : List ToldMessage) : Type 0 where
  pub message : Message
  pub rest : List Message
  pub first : ms ≡ message ∷ rest
  pub so : IsSpelled version message g
  pub others : AreSpelled version rest gs

spelled_first : (version : ℕ) (g : ToldMessage) (ms : List Message) (gs : List ToldMessage) → AreSpelled version ms (g ∷ gs) → Spelled version g ms gs
spelled_first version g [] gs all = absurd all
spelled_first version g (m ∷ ms) gs all = record { message = m; rest = ms; first = refl; so = all.0; others = all.1 }

pub held_number : (x : EndId) (ps : List OwnPlace) (k : Kept) → holding_at x ps ≡ Keeps k → IsHeld (number_of x ps) x k ps
held_number x ps k at = by (place_at (number_of x ps) ps) refl at
  where
    by : (o : Option OwnPlace) → place_at (number_of x ps) ps ≡ o → holding_of o ≡ Keeps k → IsHeld (number_of x ps) x k ps
    by None e is = let no : Gone false ≡ Keeps k = is in absurd cc
    by (Some q) e is =
        e ∙ ap (λ (g : Holding). Some (record { end = q.end; holding = g })) is ∙ ap (λ (y : EndId). Some (record { end = y; holding = Keeps k })) (numbered x ps q e)

receiving_sent : (k : Kept) → (sent k).receiving ≡ k.receiving
unfolding sent
receiving_sent k = refl

receiving_dead : (k : Kept) → (dies k).receiving ≡ k.receiving
unfolding dies
receiving_dead k = refl

receiving_known : (t : Turn) (n : ℕ) (k : Kept) → (known t n k).receiving ≡ k.receiving
receiving_known t n k = by (is_sent t.asked t.given n)
  where
    by : (b : Bool) → (if b then sent k else k).receiving ≡ k.receiving
    by true = receiving_sent k
    by false = refl

not_idle : (a b : Receiving) → a ≡ b → (b ≡ receiving.Idle → ⊥) → a ≡ receiving.Idle → ⊥
not_idle a b e busy idle = busy (sym e ∙ idle)

started_busy : receiving.Started ≡ receiving.Idle → ⊥
started_busy e = cc

late_busy : receiving.Late ≡ receiving.Idle → ⊥
late_busy e = cc

pub ok_not_err : (version left : ℕ) (bytes : List ℕ) (p : RtPacket) → packet_of version bytes ≡ Ok p → packet_of version bytes ≡ Err left → ⊥
ok_not_err version left bytes p one two = let no : ◌≡◌ {A = Result RtPacket ℕ} (Ok p) (Err left) = sym one ∙ two in cc

-- ---- an end of the process

module _ (version : ℕ) (s : Service) (i : ℕ) (o : Owner) (x : EndId) (p : Pair)
    (asked : IsAskedFor o.state o.status) (told_true : IsToldTrue s i o.status)
    (own : (s.ends x).place ≡ place.Owned (pid i)) (owned : IsOwned version s o i x p.near) (far_gone : IsGone s (opposite x) → p.far.standing ≡ Destroyed) where
  abbrev t : Turn
  t = turn_of o

  abbrev ps : List OwnPlace
  ps = o.state.places

  abbrev n : ℕ
  n = number_of x ps

  not_gone : IsGone s x → ⊥
  not_gone gone = let no : place.Owned (pid i) ≡ place.Destroyed = sym own ∙ gone in cc

  known_is : (g : Holding) → holding_at x ps ≡ g → (seen_of o x).holding ≡ known_holding t n g
  known_is g at = holding_known t x ps ∙ ap (λ (h : Holding). known_holding t n h) at

  standing_now : (g : Holding) → holding_at x ps ≡ g → IsStandingIn (brings s (pid i) x) (seen_of o x) (known_holding t n g) p.near.standing
  standing_now g at = subst (λ (h : Holding). IsStandingIn (brings s (pid i) x) (seen_of o x) h p.near.standing) (known_is g at) owned.standing

  answered : (a : Answer) → t.given ≡ Some a → AnswerOf s i o.state a
  answered a e = answer_of s i o.state a o.status e asked told_true

  report_so : (r : Report) → IsTold t process.Wait (answer.Reported r) → IsReportTrue s i r
  report_so r is = (reported_so s i o.state r (answered (answer.Reported r) is.1)).1

  -- a message that is told of is the first, and none other is coming before those of the service
  quiet : told_to x t.given ≡ [] → AreSpelled version p.near.coming (coming s x) ⊎ (p.near.standing ≡ Lost)
  quiet none = subst (λ (l : List ToldMessage). AreSpelled version p.near.coming (l ++ coming s x) ⊎ (p.near.standing ≡ Lost)) none owned.coming_is

  told_is : (g : Option Answer) → t.given ≡ g → told_to x t.given ≡ told_to x g
  told_is g e = ap (λ (h : Option Answer). told_to x h) e

  -- where the end is not held what comes does not matter
  off_coming : (was : Bool) → holding_at x ps ≡ Gone was → AreSpelled version p.near.coming (coming s x) ⊎ (p.near.standing ≡ Lost)
  off_coming was at = by (told_to x t.given) refl
    where
      by : (l : List ToldMessage) → told_to x t.given ≡ l → AreSpelled version p.near.coming (coming s x) ⊎ (p.near.standing ≡ Lost)
      by [] e = quiet e
      by (m ∷ ms) e =
          ⊎_elim (λ (has : HasReceive t n (seen_of o x).holding). absurd (subst (λ (h : Holding). HasReceive t n h) (known_is (Gone was) at) has))
          (λ (lost : p.near.standing ≡ Lost). inr lost) (owned.receive (inr (λ none. some_none (sym e ∙ none))))
        where
          some_none : m ∷ ms ≡ [] → ⊥
          some_none bad = cc

  module _ (k : Kept) (at : holding_at x ps ≡ Keeps k) where
    here : IsHeld n x k ps
    here = held_number x ps k at

    held : p.near.standing ≡ Held (known t n k)
    held = standing_now (Keeps k) at

    not_lost : p.near.standing ≡ Lost → ⊥
    not_lost lost = let no : Held (known t n k) ≡ Lost = sym held ∙ lost in cc

    -- ---- deaths

    dead : AsksOn n t.asked → t.given ≡ Some (answer.Refused cause.Dead) → p.far.standing ≡ Destroyed
    dead on e =
        let a = answered (answer.Refused cause.Dead) e in
        ⊎_elim (λ (gone : IsGone s x). absurd (not_gone gone)) far_gone (dead_so s i x a.to (is_on o.state n x k here a.to a.called on) a.true_told)

    on_number : (a : Asked) → t.asked ≡ a → AsksOn n a → AsksOn n t.asked
    on_number a e on = subst (λ (b : Asked). AsksOn n b) (sym e) on

    death : IsDeath t n → p.far.standing ≡ Destroyed
    death d =
        ⊎_elim (λ (e : IsTold t (process.Send n) (answer.Refused cause.Dead)). dead (on_number (process.Send n) e.0 refl) e.1)
        (λ (e : IsTold t (process.Receive n) (answer.Refused cause.Dead)). dead (on_number (process.Receive n) e.0 refl) e.1) d

    killed : (h : Happening) → Kills t x h → p.far.standing ≡ Destroyed
    killed h is =
        ⊎_elim (λ (gone : IsGone s is.report.on). absurd (not_gone (subst (λ (y : EndId). IsGone s y) is.told.1 gone)))
        (λ (gone : IsGone s (opposite is.report.on)). far_gone (subst (λ (y : EndId). IsGone s (opposite y)) is.told.1 gone))
        ((report_so is.report is.told.0).death is.outcome)

    death_with : (h : Happening) → IsDeathWith t n x h → p.far.standing ≡ Destroyed
    death_with h d =
        ⊎_elim (λ (e : IsTold t (process.Cancel n) (answer.Refused cause.Dead) × (h ≡ CancelLate)). dead (on_number (process.Cancel n) e.0.0 refl) e.0.1)
        (λ (is : Kills t x h). killed h is) d

    -- ---- messages

    module _ (bytes : List ℕ) (xs : List EndId) (is : Brings t x bytes xs) where
      spelled : Spelled version (message is.report) p.near.coming (coming s x)
      spelled =
          spelled_first version (message is.report) p.near.coming (coming s x)
          (⊎_elim (λ (all : AreSpelled version p.near.coming (told_to x t.given ++ coming s x)).
          subst (λ (l : List ToldMessage). AreSpelled version p.near.coming (l ++ coming s x))
          (told_is (Some (answer.Reported is.report)) is.told.0.1 ∙ message_told x is.report is.told.1 is.way is.outcome) all)
          (λ (lost : p.near.standing ≡ Lost). absurd (not_lost lost)) owned.coming_is)

      is_first : IsFirst version bytes xs p.near.coming
      is_first =
          record {
            message = spelled.message;
            rest = spelled.rest;
            first = spelled.first;
            packet = subst (λ (l : List ℕ). packet_of version l ≡ Ok spelled.message.packet) is.bytes_are spelled.so.packet;
            ends = spelled.so.ends ∙ is.ends_are;
          }

      behind : AreSpelled version (tail p.near.coming) (coming s x)
      behind = subst (λ (l : List Message). AreSpelled version (tail l) (coming s x)) (sym spelled.first) spelled.others

      -- the receive is over
      received_over : (s.ends x).inward ≡ inward.Idle
      received_over = subst (λ (y : EndId). (s.ends y).inward ≡ inward.Idle) is.told.1 ((report_so is.report is.told.0).over is.way)

    -- nothing is told of the end
    silent : IsUntold t x n → told_to x t.given ≡ []
    silent un = by t.given refl
      where
        by : (g : Option Answer) → t.given ≡ g → told_to x t.given ≡ []
        by None e = told_is None e
        by (Some answer.Ok) e = told_is (Some answer.Ok) e
        by (Some (answer.Made a b)) e = told_is (Some (answer.Made a b)) e
        by (Some (answer.Refused c)) e = told_is (Some (answer.Refused c)) e
        by (Some (answer.Reported r)) e =
            told_is (Some (answer.Reported r)) e
            ∙ told_or_brings x r t ((reported_so s i o.state r (answered (answer.Reported r) e)).0, e) (λ (brought : Brings t x r.bytes r.enclosed). un.unheard r.bytes r.enclosed brought)

    -- an answer tells of no message
    answer_silent : (h : Happening) → IsAnswer t n x h → told_to x t.given ≡ []
    answer_silent happenings.Sends is = told_is (Some answer.Ok) is.1
    answer_silent SendOver is = told_is (Some (answer.Reported is.report)) is.told.0.1 ∙ outward_silent x is.report is.way
    answer_silent Receives is = told_is (Some answer.Ok) is.1
    answer_silent ReceiveOver is = told_is (Some answer.Ok) is.1
    answer_silent CancelLate is = told_is (Some (answer.Refused cause.Late)) is.1
    answer_silent (happenings.Connects c) is = absurd is
    answer_silent (happenings.Accepts a) is = absurd is
    answer_silent (happenings.Binds b) is = absurd is
    answer_silent (happenings.Unbinds entry) is = absurd is
    answer_silent (happenings.Replies r) is = absurd is
    answer_silent (happenings.Hears room packet xs) is = absurd is
    answer_silent (happenings.Settles room) is = absurd is
    answer_silent happenings.Dies is = absurd is

    death_quiet : IsDeath t n → told_to x t.given ≡ []
    death_quiet d =
        ⊎_elim (λ (e : IsTold t (process.Send n) (answer.Refused cause.Dead)). told_is (Some (answer.Refused cause.Dead)) e.1)
        (λ (e : IsTold t (process.Receive n) (answer.Refused cause.Dead)). told_is (Some (answer.Refused cause.Dead)) e.1) d

    death_with_quiet : (h : Happening) → IsDeathWith t n x h → told_to x t.given ≡ []
    death_with_quiet h d =
        ⊎_elim (λ (e : IsTold t (process.Cancel n) (answer.Refused cause.Dead) × (h ≡ CancelLate)). told_is (Some (answer.Refused cause.Dead)) e.0.1)
        (λ (is : Kills t x h). told_is (Some (answer.Reported is.report)) is.told.0.1 ∙ death_silent x is.report is.outcome) d

    -- ---- receives

    module _ (busy : (s.ends x).inward ≡ inward.Idle → ⊥) (on : k.receiving ≡ receiving.Idle → ⊥) where
      answer_heard : (h : Happening) → IsAnswer t n x h → (after version h k).receiving ≡ receiving.Idle → ⊥
      answer_heard happenings.Sends is = not_idle (sent k).receiving k.receiving (receiving_sent k) on
      answer_heard SendOver is = on
      answer_heard Receives is = started_busy
      answer_heard ReceiveOver is =
          let a = answered answer.Ok is.1 in
          absurd (busy (cancel_over o.state n x k here s i a.to a.called is.0 a.true_told))
      answer_heard CancelLate is = late_busy
      answer_heard (happenings.Connects c) is = absurd is
      answer_heard (happenings.Accepts a) is = absurd is
      answer_heard (happenings.Binds b) is = absurd is
      answer_heard (happenings.Unbinds entry) is = absurd is
      answer_heard (happenings.Replies r) is = absurd is
      answer_heard (happenings.Hears room packet xs) is = absurd is
      answer_heard (happenings.Settles room) is = absurd is
      answer_heard happenings.Dies is = absurd is

      death_heard : (h : Happening) → IsDeathWith t n x h → (dies (after version h k)).receiving ≡ receiving.Idle → ⊥
      death_heard h d =
          ⊎_elim (λ (e : IsTold t (process.Cancel n) (answer.Refused cause.Dead) × (h ≡ CancelLate)). so CancelLate e.1 late_busy)
          (λ (is : Kills t x h).
          ⊎_elim
          (λ (w : (is.report.way ≡ Inward) × (h ≡ ReceiveOver)). absurd (busy (subst (λ (y : EndId). (s.ends y).inward ≡ inward.Idle) is.told.1 ((report_so is.report is.told.0).over w.0))))
          (λ (w : (is.report.way ≡ Outward) × (h ≡ SendOver)). so SendOver w.1 on) is.over) d
        where
          so : (j : Happening) → h ≡ j → ((after version j k).receiving ≡ receiving.Idle → ⊥) → (dies (after version h k)).receiving ≡ receiving.Idle → ⊥
          so j e rest = not_idle (dies (after version h k)).receiving (after version j k).receiving (receiving_dead (after version h k) ∙ ap (λ (l : Happening). (after version l k).receiving) e) rest

  -- ---- all of it

  true_at : (g : Holding) (ds : List Deed) (h : Holding) → (c : ToldAt version t x n g ds h) → holding_at x ps ≡ g → IsTrue version t x n p g ds h c
  true_at g ds h (told.Otherwise f un) at = tt
  true_at g ds h (told.Answers k what is) at = tt
  true_at g ds h (told.Hears k room bytes packet xs brings reads readable) at = is_first k at bytes xs brings
  true_at g ds h (told.Ignores k bytes over xs brings e) at = is_first k at bytes xs brings
  true_at g ds h (told.Breaks k own bytes xs brings) at = is_first k at bytes xs brings
  true_at g ds h (told.Dies k d) at = death k at d
  true_at g ds h (told.DiesWith k what d) at = death_with k at what d

  coming_then : (g : Holding) (ds : List Deed) (h : Holding) → (c : ToldAt version t x n g ds h) → holding_at x ps ≡ g
      → AreSpelled version (left version t x n g ds h c p.near.coming) (coming s x) ⊎ (p.near.standing ≡ Lost)
  coming_then g ds h (told.Otherwise (Keeps k) un) at = quiet (silent k at un)
  coming_then g ds h (told.Otherwise (Gone was) un) at = off_coming was at
  coming_then g ds h (told.Answers k what is) at = quiet (answer_silent k at what is)
  coming_then g ds h (told.Hears k room bytes packet xs brings reads readable) at = inl (behind k at bytes xs brings)
  coming_then g ds h (told.Ignores k bytes over xs brings e) at =
      let first = is_first k at bytes xs brings in absurd (ok_not_err version over bytes first.message.packet first.packet e)
  coming_then g ds h (told.Breaks k own bytes xs brings) at = inl (behind k at bytes xs brings)
  coming_then g ds h (told.Dies k d) at = quiet (death_quiet k at d)
  coming_then g ds h (told.DiesWith k what d) at = quiet (death_with_quiet k at what d)

  module _ (busy : (s.ends x).inward ≡ inward.Idle → ⊥) where
    was_on : (k : Kept) → holding_at x ps ≡ Keeps k → (k.receiving ≡ receiving.Idle → ⊥) ⊎ IsTold t (process.Receive n) answer.Ok
    was_on k at =
        ⊎_elim
        (λ (has : HasReceive t n (seen_of o x).holding).
        let so : HasReceive t n (Keeps (known t n k)) = subst (λ (h : Holding). HasReceive t n h) (known_is (Keeps k) at) has in
        ⊎_elim (λ (on : (known t n k).receiving ≡ receiving.Idle → ⊥). inl (λ idle. on (receiving_known t n k ∙ idle)))
        (λ (is : IsTold t (process.Receive n) answer.Ok). inr is) so)
        (λ (lost : p.near.standing ≡ Lost). absurd (not_lost k at lost)) (owned.receive (inl busy))

    -- a receive is started as before, or was answered just now
    heard_or : (h : Holding) (q : Standing) (k : Kept) → holding_at x ps ≡ Keeps k → (IsTold t (process.Receive n) answer.Ok → h ≡ Keeps (receives k)) → ((k.receiving ≡ receiving.Idle → ⊥) → IsHeard h)
        → IsHeard h ⊎ (q ≡ Lost)
    heard_or h q k at received so =
        ⊎_elim (λ (on : k.receiving ≡ receiving.Idle → ⊥). inl (so on))
        (λ (is : IsTold t (process.Receive n) answer.Ok). inl (subst (λ (g : Holding). IsHeard g) (sym (received is)) started_busy)) (was_on k at)

    pub heard_then : (g : Holding) (ds : List Deed) (h : Holding) → ToldAt version t x n g ds h → holding_at x ps ≡ g → (q : Standing) → IsThen p g h q
        → ((k : Kept) → g ≡ Keeps k → IsTold t (process.Receive n) answer.Ok → h ≡ Keeps (receives k)) → IsHeard h ⊎ (q ≡ Lost)
    heard_then g ds h (told.Otherwise (Gone was) un) at q is received =
        ⊎_elim (λ (has : HasReceive t n (seen_of o x).holding). absurd (subst (λ (f : Holding). HasReceive t n f) (known_is (Gone was) at) has))
        (λ (lost : p.near.standing ≡ Lost). inr (is ∙ lost)) (owned.receive (inl busy))
    heard_then g ds h (told.Otherwise (Keeps k) un) at q is received = heard_or h q k at (received k refl) (λ on. on)
    heard_then g ds h (told.Answers k what so) at q is received = heard_or h q k at (received k refl) (λ on. answer_heard k at busy on what so)
    heard_then g ds h (told.Hears k room bytes packet xs brings reads readable) at q is received = absurd (busy (received_over k at bytes xs brings))
    heard_then g ds h (told.Ignores k bytes over xs brings e) at q is received = absurd (busy (received_over k at bytes xs brings))
    heard_then g ds h (told.Breaks k own bytes xs brings) at q is received = absurd (busy (received_over k at bytes xs brings))
    heard_then g ds h (told.Dies k d) at q is received = heard_or h q k at (received k refl) (λ on. not_idle (dies k).receiving k.receiving (receiving_dead k) on)
    heard_then g ds h (told.DiesWith k what d) at q is received = heard_or h q k at (received k refl) (λ on. death_heard k at busy on what d)

  -- how it stands afterwards
  standing_then : (g h : Holding) (c : Seen) (q : Standing) → holding_at x ps ≡ g → c.holding ≡ h → IsThen p g h q → c.out ≤ (seen_of o x).out → total (seen_of o x) + brings s (pid i) x ≤ 1
      → IsStandingIn (brings s (pid i) x) c h q
  standing_then g (Keeps l) c q at is_c is less few = is
  standing_then (Keeps k) (Gone own) c q at is_c is less few =
      let held : held_count (seen_of o x).holding ≡ 1 = ap held_count (known_is (Keeps k) at) in
      (inr is, λ one. absurd (omega (arith, held, less, few, one)))
  standing_then (Gone was) (Gone own) c q at is_c is less few =
      let before = standing_now (Gone was) at in
      (subst (λ (r : Standing). (r ≡ Free) ⊎ (r ≡ Lost)) (sym is) before.0, λ one. is ∙ before.1 (omega (arith, less, one)))

  is_now : (g : Holding) → holding_at x ps ≡ g → IsNow t n g p.near.standing
  is_now (Keeps k) at = held k at
  is_now (Gone was) at = tt

  -- a lost end stays lost
  still_lost : (g : Holding) (ds : List Deed) (h : Holding) → ToldAt version t x n g ds h → holding_at x ps ≡ g → (q : Standing) → IsThen p g h q → p.near.standing ≡ Lost → q ≡ Lost
  still_lost g ds h (told.Otherwise (Gone was) un) at q is lost = is ∙ lost
  still_lost g ds h (told.Otherwise (Keeps k) un) at q is lost = absurd (not_lost k at lost)
  still_lost g ds h (told.Answers k what so) at q is lost = absurd (not_lost k at lost)
  still_lost g ds h (told.Hears k room bytes packet xs brings reads readable) at q is lost = absurd (not_lost k at lost)
  still_lost g ds h (told.Ignores k bytes over xs brings e) at q is lost = absurd (not_lost k at lost)
  still_lost g ds h (told.Breaks k own bytes xs brings) at q is lost = absurd (not_lost k at lost)
  still_lost g ds h (told.Dies k d) at q is lost = absurd (not_lost k at lost)
  still_lost g ds h (told.DiesWith k what d) at q is lost = absurd (not_lost k at lost)

  -- ---- what its process is told

  pub record Heeded (ds : List Deed) (c : Seen) : Type 0 where
    pub to : Pair
    pub course : Courses version p to
    pub standing : IsStandingIn (brings s (pid i) x) c c.holding to.near.standing
    pub receive : ((s.ends x).inward ≡ inward.Idle → ⊥) → IsHeard c.holding ⊎ (to.near.standing ≡ Lost)
    pub coming_is : AreSpelled version to.near.coming (coming s x) ⊎ (to.near.standing ≡ Lost)
    pub far : to.far ≡ p.far
    pub near_deeds : to.near_deeds ≡ p.near_deeds ++ ds
    pub far_deeds : to.far_deeds ≡ p.far_deeds

  pub heeds : TellingsLead → (ds : List Deed) (c : Seen) → ToldAt version t x n (holding_at x ps) ds c.holding → c.out ≤ (seen_of o x).out → total (seen_of o x) + brings s (pid i) x ≤ 1
      → ((k : Kept) → holding_at x ps ≡ Keeps k → IsTold t (process.Receive n) answer.Ok → c.holding ≡ Keeps (receives k)) → Heeded ds c
  heeds lead ds c tells less few received =
      let g : Holding = holding_at x ps in
      let leads = lead version t x n p g ds c.holding tells (is_now g refl) (true_at g ds c.holding tells refl) in
      record {
        to = leads.to;
        course = leads.course;
        standing = standing_then g c.holding c leads.to.near.standing refl refl leads.standing less few;
        receive = λ busy. heard_then busy g ds c.holding tells refl leads.to.near.standing leads.standing received;
        coming_is =
            ⊎_elim (λ (all : AreSpelled version (left version t x n g ds c.holding tells p.near.coming) (coming s x)). inl (subst (λ (ms : List Message). AreSpelled version ms (coming s x)) (sym leads.coming) all))
            (λ (lost : p.near.standing ≡ Lost). inr (still_lost g ds c.holding tells refl leads.to.near.standing leads.standing lost))
            (coming_then g ds c.holding tells refl);
        far = leads.far;
        near_deeds = leads.near_deeds;
        far_deeds = leads.far_deeds;
      }
