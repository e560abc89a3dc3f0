-- The clauses on traces speak of which ends live, know of the death of their link, and are destroyed.
use Rattle.std.proofs.Common.{◌≡◌, ◌⊎◌, inl, inr, ℕ, Bool, true, false, ◌&&◌, if◌then◌else◌, refl, sym, ap, ◌∙◌}
use Rattle.charlotte_calls.specs.Names.{opposite}
use Rattle.charlotte_calls.specs.declared.names.EndId.{EndId}
use Rattle.charlotte_packets.specs.declared.picture.MovingPicture.{MovingPicture}
use Rattle.end_table.specs.declared.entry.Entry.{Entry}
use Rattle.end_table.specs.declared.entry.Entry.TheVariants as entry
use Rattle.service_lawful.specs.Consistent.{is_open}
use Rattle.service_step.specs.Ends.{is_living}
use Rattle.service_step.specs.declared.state.End.{End}
use Rattle.service_step.specs.declared.state.Place.TheVariants as place
use Rattle.theorem_meaning.specs.Packets.{Links}
use Rattle.theorem_meaning.specs.StandsFor.{entry_at}
use Rattle.trace_link.specs.Calm.{AreAsOpen}
use Rattle.trace_meaning.specs.Traces.{AreTraced, IsLeftRight, IsMarkRight, IsMourned, IsToForget, IsTraceRight, IsTrailed}
use Rattle.trace_meaning.specs.Words.{HasMark, IsGoingTo, IsGoneFrom, IsGoneSeen, IsOnTrack, IsSought}

module _ (w : Links) (t now : EndId → End) (same : AreAsOpen t now) where
  open-same : (e : EndId) → is_open (now e) ≡ is_open (t e)
  open-same e = λ i. same.living e i && (if same.noticed e i then false else true)

  sought-was : (e : EndId) → IsSought w now e → IsSought w t e
  sought-was e (inl is) = inl (sym (open-same e) ∙ is)
  sought-was e (inr mark) = inr mark

  sought-now : (e : EndId) → IsSought w t e → IsSought w now e
  sought-now e (inl is) = inl (open-same e ∙ is)
  sought-now e (inr mark) = inr mark

  same-left : (e : EndId) (k h : ℕ) → IsLeftRight w t e k h → IsLeftRight w now e k h
  same-left e k h is = record { some = is.some; old = is.old; kept = by is.kept }
    where
      by : IsTrailed w t e k ⊎ IsToForget w e k h → IsTrailed w now e k ⊎ IsToForget w e k h
      by (inl r) = inl (record { sought = sought-now e r.sought; at = r.at; fields = r.fields; are = r.are; in_trail = r.in_trail })
      by (inr told) = inr told

  same-mark : (e : EndId) (d : ℕ) (m : MovingPicture) → IsMarkRight w t e d m → IsMarkRight w now e d m
  same-mark e d m is =
      record {
        dead = is.dead;
        noticed = same.noticed e ∙ is.noticed;
        gone = is.gone;
        backs = λ open_is. is.backs (opens open_is);
        parcels = λ open_is. is.parcels (opens open_is);
        asked = λ at l n j h open_is. is.asked at l n j h (opens open_is);
        mourned = by is.mourned;
      }
    where
      opens : is_open (now (opposite e)) ≡ true → is_open (t (opposite e)) ≡ true
      opens open_is = sym (open-same (opposite e)) ∙ open_is

      by : IsMourned w t e d m.hint.1 → IsMourned w now e d m.hint.1
      by (inl going) = inl going
      by (inr both) = inr (sought-now (opposite e) both.0, both.1)

  same-right : (e : EndId) (k : ℕ) (y : Entry) → IsTraceRight w t e k y → IsTraceRight w now e k y
  same-right e k entry.Nothing is = tt
  same-right e k (entry.Here v) is = λ unnoticed some lives. is (sym (same.noticed e) ∙ unnoticed) some (sym (same.living (opposite e)) ∙ lives)
  same-right e k (entry.Left to h) is = same-left e k h is
  same-right e k (entry.Destroyed m) is = same-mark e k m is

  pub same-traced : AreTraced w t → AreTraced w now
  same-traced traced e =
      record {
        met = λ open_is. met ((traced e).met (sym (open-same e) ∙ open_is));
        reached = λ at m j h sought other. (traced e).reached at m j h (sought-was e sought) (sought-was (opposite e) other);
        seen = record { destroyed = λ under. same.destroyed e ((traced e).seen.destroyed under); unsought = λ under sought. (traced e).seen.unsought under (sought-was (opposite e) sought) };
        known = λ at m h sought other. (traced e).known at m h (sought-was e sought) (sought-was (opposite e) other);
        entries = λ k. same-right e k (entry_at w k e) ((traced e).entries k);
      }
    where
      met : (is_living (t (opposite e)).place ≡ true) ⊎ HasMark w (opposite e) → (is_living (now (opposite e)).place ≡ true) ⊎ HasMark w (opposite e)
      met (inl lives) = inl (same.living (opposite e) ∙ lives)
      met (inr mark) = inr mark
