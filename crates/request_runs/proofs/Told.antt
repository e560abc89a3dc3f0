-- What a process is told of one of its ends is events at the link of that end, or none.
use Rattle.std.proofs.Common.{arith, ◌≡◌, ◌⊎◌, ◌≤◌, ◌+◌, inl, inr, ⊎_elim, ℕ, Bool, true, false, if◌then◌else◌, eq-eqb, eqb-true, List, [], ◌++◌, Option, Some, Result, Ok, Err, refl, sym, ap, subst, ◌∙◌, append-nil}
use Rattle.std.specs.Prelude.{◌==◌}
use Rattle.charlotte_calls.specs.declared.calls.Answer.{Answer}
use Rattle.charlotte_calls.specs.declared.calls.Answer.TheVariants as answer
use Rattle.charlotte_calls.specs.declared.calls.Cause.TheVariants.{Dead}
use Rattle.charlotte_calls.specs.declared.names.EndId.{EndId}
use Rattle.charlotte_calls.specs.declared.names.Way.TheVariants.{Inward, Outward}
use Rattle.lynx_packets.specs.declared.packet.RtPacket.{RtPacket}
use Rattle.lynx_packets.specs.Packets.{packet_of}
use Rattle.end_protocol.specs.declared.hearing.Heard.{Heard}
use Rattle.end_protocol.specs.declared.hearing.Heard.TheVariants as heard
use Rattle.end_protocol.specs.declared.kept.Kept.{Kept}
use Rattle.end_protocol.specs.declared.messages.Message.{Message}
use Rattle.end_protocol.specs.Deeds.{Deed, heard_deeds}
use Rattle.end_protocol.specs.Falling.{dies}
use Rattle.end_protocol.specs.Going.{receive_over, sent}
use Rattle.end_protocol.specs.Happenings.{CancelLate, Happening, ReceiveOver, Receives, SendOver, after, deeds_of}
use Rattle.end_protocol.specs.Happenings as happenings
use Rattle.end_protocol.specs.Hearing.{hears}
use Rattle.end_protocol.specs.Lists.{tail}
use Rattle.request_meaning.specs.Links.{MayHappen}
use Rattle.end_protocol.specs.Wanting.{is_deaf}
use Rattle.process_changes.specs.States.{Asked, DeedOn, Gone, Holding, Keeps}
use Rattle.process_changes.specs.Ends.{number_of}
use Rattle.process_changes.specs.States as process
use Rattle.process_changes.specs.Telling.{Brings, IsAnswer, IsDeathWith, IsReadable, IsTold, Kills, Turn}
use Rattle.process_changes.specs.Ledgers.{Ledger}
use Rattle.process_changes.specs.AtEnd.{IsToldAt, IsUntoldOf, Seen, ToldAt, deeds_at, held_count, holding_at, is_sent, known, known_from, known_holding, known_ledger, seen, total}
use Rattle.process_changes.proofs.ToldAt.{cancelled, died, held_known, holding_known, received, sent_when, waited}
use Rattle.process_changes.specs.AtEnd as told
use Rattle.request_runs.specs.Changing.{Becomes, IsHearing, IsReceiving, IsStandingOf, StandsWith}
use Rattle.request_runs.specs.Sides.{Destroyed, Dies, Does, Goes, Hears, Held, Loses, Lost, Pair, Passes, Rests, Side, comes, did, hearing, stands}
use Rattle.request_runs.specs.Told.{IsFirst, IsSpent, IsTrue, IsTrueAt, left, left_at}
use Rattle.request_runs.proofs.Changing.{not_destroyed, not_lost}

ok_not_err : (version left : ℕ) (bytes : List ℕ) (p : RtPacket) → packet_of version bytes ≡ Ok p → packet_of version bytes ≡ Err left → ⊥
ok_not_err version left bytes p one two = let no : ◌≡◌ {A = Result RtPacket ℕ} (Ok p) (Err left) = sym one ∙ two in cc

same_keeps : (k l : Kept) → Keeps k ≡ Keeps l → k ≡ l
same_keeps k l e = cc

not_gone : (k : Kept) (own : Bool) → Keeps k ≡ Gone own → ⊥
not_gone k own e = cc

same_ok : (p q : RtPacket) → ◌≡◌ {A = Result RtPacket ℕ} (Ok p) (Ok q) → p ≡ q
same_ok p q e = cc

-- a Send that is answered leaves the receive as it is
pub sent_receiving : (k : Kept) (b : Bool) → (if b then sent k else k).receiving ≡ k.receiving
unfolding sent
sent_receiving k true = refl
sent_receiving k false = refl

-- the end is carried or in the hand so often, and to be destroyed so often, afterwards
module _ (version : ℕ) (t : Turn) (x : EndId) (n : ℕ) (p : Pair) (out doomed : ℕ) where
  abbrev so : Holding → Seen
  so g = record { holding = g; out = out; doomed = doomed }

  -- wherever events lead, over a dead link nothing is coming to it
  abbrev HearsThen : Kept → List Message → Type 0
  HearsThen l ms = (to : Pair) → to.far ≡ p.far → to.near.coming ≡ ms → IsHearing (so (Keeps l)) to

  module _ (k : Kept) (standing : p.near.standing ≡ Held (known t n k)) where
    held : is_sent t.asked t.given n ≡ false → p.near.standing ≡ Held k
    held un = standing ∙ ap (λ (b : Bool). Held (if b then sent k else k)) un

    -- an answer or a report comes, and this is kept then
    abbrev answered : Happening → Pair
    answered h = did (deeds_of version h k) (stands (Held (after version h k)) p)

    answers : (h : Happening) → is_sent t.asked t.given n ≡ false → MayHappen h k → deeds_of version h k ≡ [] → HearsThen (after version h k) p.near.coming → Becomes version p [] (so (Keeps (after version h k))) p.near.coming
    answers h un may none hears =
        record {
          to = answered h;
          course = Goes p p (answered h) (Rests p) (Does h k p (held un) may);
          standing = refl;
          hearing = hears (answered h) refl refl;
          coming = refl;
          far = refl;
          near_deeds = ap (λ (ds : List Deed). p.near_deeds ++ ds) none;
          far_deeds = refl;
        }

    -- the Send was counted before
    knows : is_sent t.asked t.given n ≡ true → HearsThen (sent k) p.near.coming → Becomes version p [] (so (Keeps (sent k))) p.near.coming
    knows is hears =
        record {
          to = p;
          course = Rests p;
          standing = standing ∙ ap (λ (b : Bool). Held (if b then sent k else k)) is;
          hearing = hears p refl refl;
          coming = refl;
          far = refl;
          near_deeds = sym (append-nil p.near_deeds);
          far_deeds = refl;
        }

    by_answer : (h : Happening) → IsAnswer t n x h → HearsThen (after version h k) p.near.coming → Becomes version p [] (so (Keeps (after version h k))) p.near.coming
    by_answer happenings.Sends is hears = knows (sent_when t n n is ∙ eq-eqb n n refl) hears
    by_answer SendOver is hears = answers SendOver (waited t is.told.0.0 n) tt refl hears
    by_answer Receives is hears = answers Receives (received t n is.0 n) tt refl hears
    by_answer ReceiveOver is hears = answers ReceiveOver (cancelled t n is.0 n) tt refl hears
    by_answer CancelLate is hears = answers CancelLate (cancelled t n is.0 n) tt refl hears
    by_answer (happenings.Connects c) is hears = absurd is
    by_answer (happenings.Accepts a) is hears = absurd is
    by_answer (happenings.Binds b) is hears = absurd is
    by_answer (happenings.Unbinds entry) is hears = absurd is
    by_answer (happenings.Replies r) is hears = absurd is
    by_answer (happenings.Hears room packet xs) is hears = absurd is
    by_answer (happenings.Settles room) is hears = absurd is
    by_answer happenings.Dies is hears = absurd is

    -- ---- messages

    module _ (bytes : List ℕ) (xs : List EndId) (brings : Brings t x bytes xs) (is_first : IsFirst version bytes xs p.near.coming) where
      unsent : is_sent t.asked t.given n ≡ false
      unsent = waited t brings.told.0.0 n

      heard_so : (room : Bool) (packet : RtPacket) → packet_of version bytes ≡ Ok packet → IsReadable (hears version room packet xs (receive_over k)).1 → HearsThen (hears version room packet xs (receive_over k)).0 (tail p.near.coming) →
          Becomes version p (heard_deeds (hears version room packet xs (receive_over k)).1) (so (Keeps (hears version room packet xs (receive_over k)).0)) (tail p.near.coming)
      heard_so room packet spelled readable goes_on =
          record {
            to = to;
            course = Goes p q to (Goes p p q (Rests p) (Does ReceiveOver k p (held unsent) tt)) (Hears room m is_first.rest (receive_over k) q refl is_first.first can_be_read);
            standing = ap (λ (y : Kept × Heard). Held y.0) same;
            hearing = goes_on to refl (sym (ap (λ (ms : List Message). tail ms) is_first.first));
            coming = sym (ap (λ (ms : List Message). tail ms) is_first.first);
            far = refl;
            near_deeds = ap (λ (ds : List Deed). ds ++ heard_deeds (hears version room m.packet m.ends (receive_over k)).1) (append-nil p.near_deeds) ∙ ap (λ (y : Kept × Heard). p.near_deeds ++ heard_deeds y.1) same;
            far_deeds = refl;
          }
        where
          m : Message
          m = is_first.message

          q : Pair
          q = answered ReceiveOver

          to : Pair
          to = hearing version room m is_first.rest (receive_over k) q

          packet_is : m.packet ≡ packet
          packet_is = same_ok m.packet packet (sym is_first.packet ∙ spelled)

          same : hears version room m.packet m.ends (receive_over k) ≡ hears version room packet xs (receive_over k)
          same = ap (λ (r : RtPacket). hears version room r m.ends (receive_over k)) packet_is ∙ ap (λ (ys : List EndId). hears version room packet ys (receive_over k)) is_first.ends

          can_be_read : (ys : List EndId) → (hears version room m.packet m.ends (receive_over k)).1 ≡ heard.Unreadable ys → ⊥
          can_be_read ys e = subst (λ (o : Heard). IsReadable o) (sym (ap (λ (y : Kept × Heard). y.1) same) ∙ e) readable

      broken : (own : Bool) → out ≡ 0 → Becomes version p [] (so (Gone own)) (tail p.near.coming)
      broken own nowhere =
          let q : Pair = stands Lost p in
          record {
            to = comes (tail p.near.coming) q;
            course = Goes p q (comes (tail p.near.coming) q) (Goes p p q (Rests p) (Loses p (not_destroyed p.near.standing k (held unsent)))) (Passes (tail p.near.coming) q tt);
            standing = (inr refl, λ one. absurd (omega (arith, nowhere, one)));
            hearing = inr (inr refl);
            coming = refl;
            far = refl;
            near_deeds = sym (append-nil p.near_deeds);
            far_deeds = refl;
          }

    -- ---- deaths

    dies_now : is_sent t.asked t.given n ≡ false → p.far.standing ≡ Destroyed → HearsThen (dies k) p.near.coming → Becomes version p [] (so (Keeps (dies k))) p.near.coming
    dies_now un gone hears =
        record {
          to = stands (Held (dies k)) p;
          course = Goes p p (stands (Held (dies k)) p) (Rests p) (Dies k p (held un) gone);
          standing = refl;
          hearing = hears (stands (Held (dies k)) p) refl refl;
          coming = refl;
          far = refl;
          near_deeds = sym (append-nil p.near_deeds);
          far_deeds = refl;
        }

    dies_after : (h : Happening) → is_sent t.asked t.given n ≡ false → MayHappen h k → deeds_of version h k ≡ [] → p.far.standing ≡ Destroyed → HearsThen (dies (after version h k)) p.near.coming → Becomes version p [] (so (Keeps (dies (after version h k)))) p.near.coming
    dies_after h un may none gone hears =
        let to : Pair = stands (Held (dies (after version h k))) (answered h) in
        record {
          to = to;
          course = Goes p (answered h) to (Goes p p (answered h) (Rests p) (Does h k p (held un) may)) (Dies (after version h k) (answered h) refl gone);
          standing = refl;
          hearing = hears to refl refl;
          coming = refl;
          far = refl;
          near_deeds = ap (λ (ds : List Deed). p.near_deeds ++ ds) none;
          far_deeds = refl;
        }

    abbrev DiesSo : Happening → Type 0
    DiesSo h = HearsThen (dies (after version h k)) p.near.coming → Becomes version p [] (so (Keeps (dies (after version h k)))) p.near.coming

    dies_with : (h : Happening) → IsDeathWith t n x h → p.far.standing ≡ Destroyed → DiesSo h
    dies_with h death gone =
        ⊎_elim
        (λ (d : IsTold t (process.Cancel n) (answer.Refused Dead) × (h ≡ CancelLate)).
        as_is CancelLate d.1 (dies_after CancelLate (cancelled t n d.0.0 n) tt refl gone))
        (λ (d : Kills t x h).
        ⊎_elim
        (λ (r : (d.report.way ≡ Inward) × (h ≡ ReceiveOver)). as_is ReceiveOver r.1 (dies_after ReceiveOver (waited t d.told.0.0 n) tt refl gone))
        (λ (r : (d.report.way ≡ Outward) × (h ≡ SendOver)). as_is SendOver r.1 (dies_after SendOver (waited t d.told.0.0 n) tt refl gone))
        d.over)
        death
      where
        as_is : (i : Happening) → h ≡ i → DiesSo i → DiesSo h
        as_is i e done = subst (λ (j : Happening). DiesSo j) (sym e) done

  -- ---- all that is told

  -- no Send was answered Ok
  unsent_if : (asked : Asked) (given : Option Answer) → t.asked ≡ asked → t.given ≡ given → (IsTold t (process.Send n) answer.Ok → ⊥) → is_sent asked given n ≡ false
  unsent_if (process.Send m) (Some answer.Ok) one two away = by_test (m == n) refl
    where
      by_test : (b : Bool) → (m == n) ≡ b → (m == n) ≡ false
      by_test false e = e
      by_test true e = absurd (away (one ∙ ap (λ (i : ℕ). process.Send i) (eqb-true m n e), two))
  unsent_if asked given one two away = refl

  -- what is heard, and how the end stands, where it was so before
  module _ (was : ℕ) (fewer : out ≤ was) where
    untold : (g : Holding) → StandsWith (known_holding t n g) was p.near.standing → IsUntoldOf t x n g → ((k : Kept) → g ≡ Keeps k → HearsThen k p.near.coming) →
        ((own : Bool) → g ≡ Gone own → IsHearing (so g) p) → Becomes version p [] (so g) p.near.coming
    untold (Keeps k) standing un hears gone =
        record {
          to = p;
          course = Rests p;
          standing = held k standing (unsent_if t.asked t.given refl refl un.unsent);
          hearing = hears k refl p refl refl;
          coming = refl;
          far = refl;
          near_deeds = sym (append-nil p.near_deeds);
          far_deeds = refl;
        }
    untold (Gone own) standing un hears gone =
        record {
          to = p;
          course = Rests p;
          standing = (standing.0, λ one. standing.1 (omega (arith, fewer, one)));
          hearing = gone own refl;
          coming = refl;
          far = refl;
          near_deeds = sym (append-nil p.near_deeds);
          far_deeds = refl;
        }

    -- over a dead link nothing is coming
    module _ (k l : Kept) (ms : List Message) (less : p.near.coming ≡ [] → ms ≡ []) (standing : p.near.standing ≡ Held (known t n k)) where
      hears_then : (p.far.standing ≡ Destroyed → p.near.coming ≡ []) ⊎ (IsReceiving (Keeps (known t n k)) ⊎ (p.near.standing ≡ Lost)) → IsSpent p (Keeps k) (Keeps l) ms → HearsThen l ms
      hears_then hearing spent to far coming = by_test (is_deaf l.receiving) refl
        where
          nothing : is_deaf l.receiving ≡ true → p.far.standing ≡ Destroyed → ms ≡ []
          nothing deaf gone =
              ⊎_elim (λ (first : p.far.standing ≡ Destroyed → p.near.coming ≡ []). less (first gone))
              (λ (rest : IsReceiving (Keeps (known t n k)) ⊎ (p.near.standing ≡ Lost)).
              ⊎_elim (λ (hears : IsReceiving (Keeps (known t n k))). spent (sym (ap is_deaf (sent_receiving k (is_sent t.asked t.given n))) ∙ hears) deaf gone)
              (λ (lost : p.near.standing ≡ Lost). absurd (not_lost p.near.standing (known t n k) standing lost)) rest)
              hearing

          by_test : (b : Bool) → is_deaf l.receiving ≡ b → IsHearing (so (Keeps l)) to
          by_test false e = inr (inl e)
          by_test true e = inl (λ gone. coming ∙ nothing e (sym (ap (λ (s : Side). s.standing) far) ∙ gone))

    abbrev IsHeardBefore : Holding → Type 0
    IsHeardBefore g = (p.far.standing ≡ Destroyed → p.near.coming ≡ []) ⊎ (IsReceiving (known_holding t n g) ⊎ (p.near.standing ≡ Lost))

    told_so : (g : Holding) (ds : List Deed) (h : Holding) → (c : ToldAt version t x n g ds h) → held_count g + was ≤ 1 → StandsWith (known_holding t n g) was p.near.standing → IsHeardBefore g →
        IsTrue version t x n p g ds h c → IsSpent p g h (left version t x n g ds h c p.near.coming) → Becomes version p ds (so h) (left version t x n g ds h c p.near.coming)
    told_so g ds h (told.Otherwise (Keeps k) un) few standing hearing true_told spent =
        untold (Keeps k) standing un (λ l e. subst (λ (j : Kept). HearsThen j p.near.coming) (same_keeps k l e) (hears_then k k p.near.coming (λ e. e) standing hearing spent)) (λ own e. absurd (not_gone k own e))
    told_so g ds h (told.Otherwise (Gone own) un) few standing hearing true_told spent =
        untold (Gone own) standing un (λ k e. absurd (not_gone k own (sym e))) (λ o e. hearing)
    told_so g ds h (told.Answers k what is) few standing hearing true_told spent = by_answer k standing what is (hears_then k (after version what k) p.near.coming (λ e. e) standing hearing spent)
    told_so g ds h (told.Hears k room bytes packet xs brings spelled readable) few standing hearing true_told spent =
        heard_so k standing bytes xs brings true_told room packet spelled readable (hears_then k (hears version room packet xs (receive_over k)).0 (tail p.near.coming) (λ e. ap (λ (ms : List Message). tail ms) e) standing hearing spent)
    told_so g ds h (told.Ignores k bytes over xs brings e) few standing hearing true_told spent = absurd (ok_not_err version over bytes true_told.message.packet true_told.packet e)
    told_so g ds h (told.Breaks k own bytes xs brings) few standing hearing true_told spent = broken k standing bytes xs brings true_told own (omega (arith, few, fewer))
    told_so g ds h (told.Dies k death) few standing hearing true_told spent = dies_now k standing (died t n death n) true_told (hears_then k (dies k) p.near.coming (λ e. e) standing hearing spent)
    told_so g ds h (told.DiesWith k what death) few standing hearing true_told spent = dies_with k standing what death true_told (hears_then k (dies (after version what k)) p.near.coming (λ e. e) standing hearing spent)

pub told_becomes : (version : ℕ) (t : Turn) (x : EndId) (b : Ledger) (ds : List DeedOn) (c : Ledger) (p : Pair) → (is : IsToldAt version t x b ds c) → total (seen x (known_ledger t b)) ≤ 1 →
    IsStandingOf (seen x (known_ledger t b)) p.near.standing → IsHearing (seen x (known_ledger t b)) p → IsTrueAt version t x b ds c p is →
    IsSpent p (seen x b).holding (seen x c).holding (left_at version t x b ds c is p.near.coming) → Becomes version p (deeds_at x ds) (seen x c) (left_at version t x b ds c is p.near.coming)
told_becomes version t x b ds c p is few standing hearing true_told spent =
    told_so version t x n p (seen x c).out (seen x c).doomed now.out is.out (holding_at x b.places) (deeds_at x ds) (holding_at x c.places) is.told
    (let held : held_count (holding_at x (known_from t 1 b.places)) ≡ held_count (holding_at x b.places) = held_known t x b.places in omega (arith, held, few))
    (subst (λ (g : Holding). StandsWith g now.out p.near.standing) known_is standing)
    (subst (λ (g : Holding). (p.far.standing ≡ Destroyed → p.near.coming ≡ []) ⊎ (IsReceiving g ⊎ (p.near.standing ≡ Lost))) known_is hearing)
    true_told spent
  where
    n : ℕ
    n = number_of x b.places

    now : Seen
    now = seen x (known_ledger t b)

    known_is : holding_at x (known_from t 1 b.places) ≡ known_holding t n (holding_at x b.places)
    known_is = holding_known t x b.places
