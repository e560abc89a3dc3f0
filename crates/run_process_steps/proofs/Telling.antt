-- What a process is told of one of its ends is events at the link of that end, or none; an end that is not held any more is lost then.
use Rattle.std.proofs.Common.{◌≡◌, ⊎_elim, ℕ, Bool, true, false, if◌then◌else◌, eq-eqb, eqb-true, List, [], ◌++◌, Option, Some, Result, Ok, refl, sym, ap, subst, ◌∙◌, append-nil}
use Rattle.std.specs.Prelude.{◌==◌}
use Rattle.charlotte_calls.specs.declared.calls.Answer.{Answer}
use Rattle.charlotte_calls.specs.declared.calls.Answer.TheVariants as answer
use Rattle.charlotte_calls.specs.declared.calls.Cause.TheVariants.{Dead}
use Rattle.charlotte_calls.specs.declared.names.EndId.{EndId}
use Rattle.charlotte_calls.specs.declared.names.Way.TheVariants.{Inward, Outward}
use Rattle.lynx_packets.specs.declared.packet.RtPacket.{RtPacket}
use Rattle.lynx_packets.specs.Packets.{packet_of}
use Rattle.end_protocol.specs.declared.hearing.Heard.{Heard}
use Rattle.end_protocol.specs.declared.hearing.Heard.TheVariants as heard
use Rattle.end_protocol.specs.declared.kept.Kept.{Kept}
use Rattle.end_protocol.specs.declared.messages.Message.{Message}
use Rattle.end_protocol.specs.Deeds.{Deed, heard_deeds}
use Rattle.end_protocol.specs.Falling.{dies}
use Rattle.end_protocol.specs.Going.{receive_over, sent}
use Rattle.end_protocol.specs.Happenings.{CancelLate, Happening, ReceiveOver, Receives, SendOver, after, deeds_of}
use Rattle.end_protocol.specs.Happenings as happenings
use Rattle.end_protocol.specs.Hearing.{hears}
use Rattle.end_protocol.specs.Lists.{tail}
use Rattle.request_meaning.specs.Links.{MayHappen}
use Rattle.process_run.specs.States.{Asked, Gone, Holding, Keeps}
use Rattle.process_run.specs.States as process
use Rattle.run_invariant.specs.Telling.{Brings, IsAnswer, IsDeathWith, IsReadable, IsTold, Kills, Turn}
use Rattle.run_invariant.specs.AtEnd.{IsUntoldOf, ToldAt, is_sent, known}
use Rattle.run_invariant.specs.AtEnd as told
use Rattle.run_invariant.specs.Sides.{Destroyed, Dies, Does, Goes, Hears, Held, Loses, Lost, Pair, Passes, Rests, comes, did, hearing, stands}
use Rattle.run_invariant.specs.RequestRunsTold.{IsFirst, IsTrue, left}
use Rattle.run_process_steps.proofs.Heeding.{IsNow, IsThen, TellingLeads, ok_not_err}
use Rattle.run_invariant.proofs.ToldAt.{cancelled, died, received, sent_when, waited}
use Rattle.run_invariant.proofs.Changing.{not_destroyed}

same_ok : (p q : RtPacket) → ◌≡◌ {A = Result RtPacket ℕ} (Ok p) (Ok q) → p ≡ q
same_ok p q e = cc

module _ (version : ℕ) (t : Turn) (x : EndId) (n : ℕ) (p : Pair) where
  -- ---- whether a Send was answered Ok

  is_known : IsTold t (process.Send n) answer.Ok → is_sent t.asked t.given n ≡ true
  is_known is = sent_when t n n is ∙ eq-eqb n n refl

  module _ (k : Kept) (standing : p.near.standing ≡ Held (known t n k)) where
    held : is_sent t.asked t.given n ≡ false → p.near.standing ≡ Held k
    held un = standing ∙ ap (λ (b : Bool). Held (if b then sent k else k)) un

    -- an answer or a report comes, and this is kept then
    abbrev answered : Happening → Pair
    answered h = did (deeds_of version h k) (stands (Held (after version h k)) p)

    answers : (h : Happening) → is_sent t.asked t.given n ≡ false → MayHappen h k → deeds_of version h k ≡ [] → TellingLeads version p (Keeps k) [] (Keeps (after version h k)) p.near.coming
    answers h un may none =
        record {
          to = answered h;
          course = Goes p p (answered h) (Rests p) (Does h k p (held un) may);
          standing = refl;
          coming = refl;
          far = refl;
          near_deeds = ap (λ (ds : List Deed). p.near_deeds ++ ds) none;
          far_deeds = refl;
        }

    -- the Send was counted before
    knows : is_sent t.asked t.given n ≡ true → TellingLeads version p (Keeps k) [] (Keeps (sent k)) p.near.coming
    knows is =
        record {
          to = p;
          course = Rests p;
          standing = standing ∙ ap (λ (b : Bool). Held (if b then sent k else k)) is;
          coming = refl;
          far = refl;
          near_deeds = sym (append-nil p.near_deeds);
          far_deeds = refl;
        }

    by_answer : (h : Happening) → IsAnswer t n x h → TellingLeads version p (Keeps k) [] (Keeps (after version h k)) p.near.coming
    by_answer happenings.Sends is = knows (is_known is)
    by_answer SendOver is = answers SendOver (waited t is.told.0.0 n) tt refl
    by_answer Receives is = answers Receives (received t n is.0 n) tt refl
    by_answer ReceiveOver is = answers ReceiveOver (cancelled t n is.0 n) tt refl
    by_answer CancelLate is = answers CancelLate (cancelled t n is.0 n) tt refl
    by_answer (happenings.Connects c) is = absurd is
    by_answer (happenings.Accepts a) is = absurd is
    by_answer (happenings.Binds b) is = absurd is
    by_answer (happenings.Unbinds entry) is = absurd is
    by_answer (happenings.Replies r) is = absurd is
    by_answer (happenings.Hears room packet xs) is = absurd is
    by_answer (happenings.Settles room) is = absurd is
    by_answer happenings.Dies is = absurd is

    -- ---- messages

    module _ (bytes : List ℕ) (xs : List EndId) (brings : Brings t x bytes xs) (is_first : IsFirst version bytes xs p.near.coming) where
      unsent : is_sent t.asked t.given n ≡ false
      unsent = waited t brings.told.0.0 n

      heard_so : (room : Bool) (packet : RtPacket) → packet_of version bytes ≡ Ok packet → IsReadable (hears version room packet xs (receive_over k)).1 →
          TellingLeads version p (Keeps k) (heard_deeds (hears version room packet xs (receive_over k)).1) (Keeps (hears version room packet xs (receive_over k)).0) (tail p.near.coming)
      heard_so room packet spelled readable =
          record {
            to = to;
            course = Goes p q to (Goes p p q (Rests p) (Does ReceiveOver k p (held unsent) tt)) (Hears room m is_first.rest (receive_over k) q refl is_first.first can_be_read);
            standing = ap (λ (y : Kept × Heard). Held y.0) same;
            coming = sym (ap (λ (ms : List Message). tail ms) is_first.first);
            far = refl;
            near_deeds = ap (λ (ds : List Deed). ds ++ heard_deeds (hears version room m.packet m.ends (receive_over k)).1) (append-nil p.near_deeds) ∙ ap (λ (y : Kept × Heard). p.near_deeds ++ heard_deeds y.1) same;
            far_deeds = refl;
          }
        where
          m : Message
          m = is_first.message

          q : Pair
          q = answered ReceiveOver

          to : Pair
          to = hearing version room m is_first.rest (receive_over k) q

          packet_is : m.packet ≡ packet
          packet_is = same_ok m.packet packet (sym is_first.packet ∙ spelled)

          same : hears version room m.packet m.ends (receive_over k) ≡ hears version room packet xs (receive_over k)
          same = ap (λ (r : RtPacket). hears version room r m.ends (receive_over k)) packet_is ∙ ap (λ (ys : List EndId). hears version room packet ys (receive_over k)) is_first.ends

          can_be_read : (ys : List EndId) → (hears version room m.packet m.ends (receive_over k)).1 ≡ heard.Unreadable ys → ⊥
          can_be_read ys e = subst (λ (o : Heard). IsReadable o) (sym (ap (λ (y : Kept × Heard). y.1) same) ∙ e) readable

      broken : (own : Bool) → TellingLeads version p (Keeps k) [] (Gone own) (tail p.near.coming)
      broken own =
          let q : Pair = stands Lost p in
          record {
            to = comes (tail p.near.coming) q;
            course = Goes p q (comes (tail p.near.coming) q) (Goes p p q (Rests p) (Loses p (not_destroyed p.near.standing k (held unsent)))) (Passes (tail p.near.coming) q tt);
            standing = refl;
            coming = refl;
            far = refl;
            near_deeds = sym (append-nil p.near_deeds);
            far_deeds = refl;
          }

    -- ---- deaths

    dies_now : is_sent t.asked t.given n ≡ false → p.far.standing ≡ Destroyed → TellingLeads version p (Keeps k) [] (Keeps (dies k)) p.near.coming
    dies_now un gone =
        record {
          to = stands (Held (dies k)) p;
          course = Goes p p (stands (Held (dies k)) p) (Rests p) (Dies k p (held un) gone);
          standing = refl;
          coming = refl;
          far = refl;
          near_deeds = sym (append-nil p.near_deeds);
          far_deeds = refl;
        }

    dies_after : (h : Happening) → is_sent t.asked t.given n ≡ false → MayHappen h k → deeds_of version h k ≡ [] → p.far.standing ≡ Destroyed → TellingLeads version p (Keeps k) [] (Keeps (dies (after version h k))) p.near.coming
    dies_after h un may none gone =
        let to : Pair = stands (Held (dies (after version h k))) (answered h) in
        record {
          to = to;
          course = Goes p (answered h) to (Goes p p (answered h) (Rests p) (Does h k p (held un) may)) (Dies (after version h k) (answered h) refl gone);
          standing = refl;
          coming = refl;
          far = refl;
          near_deeds = ap (λ (ds : List Deed). p.near_deeds ++ ds) none;
          far_deeds = refl;
        }

    dies_with : (h : Happening) → IsDeathWith t n x h → p.far.standing ≡ Destroyed → TellingLeads version p (Keeps k) [] (Keeps (dies (after version h k))) p.near.coming
    dies_with h death gone =
        ⊎_elim
        (λ (d : IsTold t (process.Cancel n) (answer.Refused Dead) × (h ≡ CancelLate)).
        so CancelLate d.1 (dies_after CancelLate (cancelled t n d.0.0 n) tt refl gone))
        (λ (d : Kills t x h).
        ⊎_elim
        (λ (r : (d.report.way ≡ Inward) × (h ≡ ReceiveOver)). so ReceiveOver r.1 (dies_after ReceiveOver (waited t d.told.0.0 n) tt refl gone))
        (λ (r : (d.report.way ≡ Outward) × (h ≡ SendOver)). so SendOver r.1 (dies_after SendOver (waited t d.told.0.0 n) tt refl gone))
        d.over)
        death
      where
        so : (i : Happening) → h ≡ i → TellingLeads version p (Keeps k) [] (Keeps (dies (after version i k))) p.near.coming → TellingLeads version p (Keeps k) [] (Keeps (dies (after version h k))) p.near.coming
        so i e done = subst (λ (j : Happening). TellingLeads version p (Keeps k) [] (Keeps (dies (after version j k))) p.near.coming) (sym e) done

  -- ---- all that is told

  -- no Send was answered Ok
  unsent_if : (asked : Asked) (given : Option Answer) → t.asked ≡ asked → t.given ≡ given → (IsTold t (process.Send n) answer.Ok → ⊥) → is_sent asked given n ≡ false
  unsent_if (process.Send m) (Some answer.Ok) one two away = by_test (m == n) refl
    where
      by_test : (b : Bool) → (m == n) ≡ b → (m == n) ≡ false
      by_test false e = e
      by_test true e = absurd (away (one ∙ ap (λ (i : ℕ). process.Send i) (eqb-true m n e), two))
  unsent_if asked given one two away = refl

  untold : (g : Holding) → IsNow t n g p.near.standing → IsUntoldOf t x n g → TellingLeads version p g [] g p.near.coming
  untold g standing un =
      record { to = p; course = Rests p; standing = so g standing un; coming = refl; far = refl; near_deeds = sym (append-nil p.near_deeds); far_deeds = refl }
    where
      so : (f : Holding) → IsNow t n f p.near.standing → IsUntoldOf t x n f → IsThen p f f p.near.standing
      so (Keeps k) is none = held k is (unsent_if t.asked t.given refl refl none.unsent)
      so (Gone own) is none = refl

  pub tellings_lead : (g : Holding) (ds : List Deed) (h : Holding) → (c : ToldAt version t x n g ds h) → IsNow t n g p.near.standing → IsTrue version t x n p g ds h c →
      TellingLeads version p g ds h (left version t x n g ds h c p.near.coming)
  tellings_lead g ds h (told.Otherwise f un) standing true_told = untold g standing un
  tellings_lead g ds h (told.Answers k what is) standing true_told = by_answer k standing what is
  tellings_lead g ds h (told.Hears k room bytes packet xs brings spelled readable) standing true_told = heard_so k standing bytes xs brings true_told room packet spelled readable
  tellings_lead g ds h (told.Ignores k bytes over xs brings e) standing true_told = absurd (ok_not_err version over bytes true_told.message.packet true_told.packet e)
  tellings_lead g ds h (told.Breaks k own bytes xs brings) standing true_told = broken k standing bytes xs brings true_told own
  tellings_lead g ds h (told.Dies k death) standing true_told = dies_now k standing (died t n death n) true_told
  tellings_lead g ds h (told.DiesWith k what death) standing true_told = dies_with k standing what death true_told
