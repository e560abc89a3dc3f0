-- A Make keeps all that is true of the traces of ends: each end of the new link is where it was made and has no trail, and its opposite knows so.
use Rattle.std.proofs.Common.{◌≡◌, ◌⊎◌, inl, inr, ℕ, ◌≤◌, ◌<◌, true, List, ◌++◌, length, None, refl, sym, ap, subst, ◌∙◌, arith, append-nil}
use Rattle.std.specs.List.{filter}
use Rattle.charlotte_calls.specs.Names.{opposite}
use Rattle.charlotte_calls.specs.declared.calls.Call.TheVariants as call
use Rattle.charlotte_calls.specs.declared.names.EndId.{EndId}
use Rattle.charlotte_calls.specs.declared.names.Pid.{Pid}
use Rattle.charlotte_packets.specs.declared.picture.MovingPicture.{MovingPicture}
use Rattle.charlotte_packets.specs.declared.picture.PictureWhat.{PictureWhat}
use Rattle.end_table.specs.declared.entry.Entry.{Entry}
use Rattle.end_table.specs.declared.entry.Entry.TheVariants as entry
use Rattle.kernel_effects.specs.Calls.{make_effect}
use Rattle.kernel_sound.specs.Sound.{addressee}
use Rattle.kernel_step.specs.Calls.{made_end, refusal}
use Rattle.kernel_step.specs.Kernel.{has_report, process_of}
use Rattle.kernel_step.specs.declared.phase.Phase.TheVariants as kernel_phase
use Rattle.kernel_world.specs.World.{Calls, World, happens}
use Rattle.service_step.specs.Ends.{is_living}
use Rattle.service_step.specs.State.{State}
use Rattle.service_step.specs.declared.state.End.{End}
use Rattle.theorem_call_begin.proofs.Making.{IsNew, Making, after_making, entry-or, new-end, new-entry, new-fields, new-or, new_view, no-fields, no-packet, old-end, old-entry, packet-same}
use Rattle.theorem_call_begin.proofs.Receives.{home-near}
use Rattle.theorem_effects.proofs.Addressees.{news-to}
use Rattle.theorem_effects.proofs.Allowed.{performs-allowed}
use Rattle.theorem_effects.specs.Change.{Change, Happens}
use Rattle.theorem_effects.specs.Events.{calling}
use Rattle.theorem_meaning.specs.Fields.{At, IsNews, value_of}
use Rattle.theorem_meaning.specs.Invariant.{Invariant}
use Rattle.theorem_meaning.specs.Packets.{IsUnderWay, Links, links_of}
use Rattle.theorem_meaning.specs.StandsFor.{entry_at, home_of}
use Rattle.trace_calm.proofs.One.{sent-none, taken-none}
use Rattle.trace_meaning.proofs.Chains.{chain-here}
use Rattle.trace_meaning.proofs.Frame.{IsSameTrack, frame-traced, to-forget, to-goneseen, to-known}
use Rattle.trace_meaning.specs.Traces.{AreTraced, IsLeftRight, IsReached, IsToForget, IsToldOf, IsTraceRight, IsTraced, IsTrailed}
use Rattle.trace_meaning.specs.Words.{HasChain, IsForgetOf, IsGoneSeen, IsKnownOf}

zero-least : 0 ≤ 0
zero-least = omega arith

module _ {i : ℕ} {w : World} {s : State} {k : ℕ} {p : Pid} {u : Links} (x : Making i w s k p u) (traced : AreTraced (links_of w) s.ends) where
  abbrev l : Links
  l = links_of w

  abbrev c : Change
  c = calling w k p call.Make (make_effect k (w.kernel k).made p)

  abbrev t : EndId → End
  t = (after_making s p (made_end k (w.kernel k).made)).ends

  -- ---- packets

  -- a Make takes none and sends none
  lists-same : (from to : ℕ) → u.packets from to ≡ l.packets from to
  lists-same from to =
      x.changes.after from to ∙ ap (λ qs. x.changes.left from to ++ qs) (sent-none c refl from to) ∙ append-nil (x.changes.left from to)
      ∙ sym (x.changes.before from to ∙ ap (λ qs. qs ++ x.changes.left from to) (taken-none c refl from to))

  -- none is for a new end
  none-for : (e : EndId) → IsNew x e → (P : PictureWhat → Type 0) → ((q : PictureWhat) → P q → addressee q ≡ e) → IsUnderWay u P → ⊥
  none-for e link P to is = no-packet x e link P to ((packet-same x P).0 is)

  -- ---- links that are not new

  old-track : (e : EndId) → (IsNew x e → ⊥) → IsSameTrack l u e
  old-track e old =
      record {
        own = λ j. old-entry x j e old;
        other = λ j. old-entry x j (opposite e) old;
        test = λ q. true;
        covers = λ q about. refl;
        packets = λ from to. ap (filter (λ q. true)) (lists-same from to);
      }

  -- ---- the new link

  new-reached : (e : EndId) → IsNew x e → IsReached u t e
  new-reached e link at m j h sought other has (inr news) le = absurd (none-for (opposite e) link (IsNews (opposite e) j h) (news-to (opposite e) j h) news)
  new-reached e link at m j h sought other has (inl hinted) le =
      let told : (k, 0) ≡ (j, h) = ap (λ (z : MovingPicture). z.hint) (new-fields x (opposite e) link hinted.stand hinted.fields hinted.are).1 ∙ hinted.hint in
      subst (λ (z : ℕ × ℕ). HasChain u e z.0 z.1) told (chain-here u e k 0 (new_view k p e) (new-entry x e link) zero-least)

  -- it had no forwarding entry: that would be in a trail, or a packet would be under way
  none-left : (e : EndId) → IsNew x e → (j h : ℕ) → IsLeftRight l s.ends e j h → ⊥
  none-left e link j h is = by is.kept
    where
      by : IsTrailed l s.ends e j ⊎ IsToForget l e j h → ⊥
      by (inl r) = no-fields x e link r.at r.fields r.are
      by (inr told) =
          no-packet x e link (IsForgetOf e told.hops) (λ q. to-forget e told.hops q)
          (record { from = told.there.from; to = j; packet = told.there.packet; there = told.there.there; is = told.there.is })

  new-right : (e : EndId) → IsNew x e → (j : ℕ) → IsTraceRight u t e j (entry_at u j e)
  new-right e link j = by (entry-or x j e link)
    where
      was : (y : Entry) → l.entry j e ≡ y → IsTraceRight l s.ends e j y → IsTraceRight u t e j y
      was entry.Nothing at right = tt
      was (entry.Here v) at right = absurd (no-fields x e link (At j) v.value (ap value_of at))
      was (entry.Left to h) at right = absurd (none-left e link j h right)
      was (entry.Destroyed m) at right = absurd (no-fields x e link (At j) m (ap value_of at))

      by : ((j ≡ k) × (u.entry j e ≡ entry.Here (new_view k p e))) ⊎ (u.entry j e ≡ l.entry j e) → IsTraceRight u t e j (entry_at u j e)
      by (inl is) = subst (IsTraceRight u t e j) (sym is.1) (λ unnoticed some lives. absurd (some refl))
      by (inr same) = subst (IsTraceRight u t e j) (sym same) (was (l.entry j e) refl ((traced e).entries j))

  new-traced : (e : EndId) → IsNew x e → IsTraced u t e
  new-traced e link =
      record {
        met = λ open_is. inl (ap (λ (y : End). is_living y.place) (new-end x (opposite e) link));
        reached = new-reached e link;
        seen =
            record {
              destroyed = λ under. absurd (none-for e link (IsGoneSeen e) (λ q. to-goneseen e q) under);
              unsought = λ under sought. none-for e link (IsGoneSeen e) (λ q. to-goneseen e q) under;
            };
        known = λ at m h sought other has told. absurd (untold h told);
        entries = new-right e link;
      }
    where
      untold : (h : ℕ) → IsToldOf u e h → ⊥
      untold h (inl known) = none-for e link (IsKnownOf e h) (λ q. to-known e h q) known
      untold h (inr forget) = none-for e link (IsForgetOf e h) (λ q. to-forget e h q) forget

  pub made-traced : AreTraced u t
  made-traced e = by (new-or x e)
    where
      by : IsNew x e ⊎ (IsNew x e → ⊥) → IsTraced u t e
      by (inl link) = new-traced e link
      by (inr old) = frame-traced l u e (old-track e old) s.ends t (old-end x e old) (old-end x (opposite e) old) (traced e)

-- a Make that its kernel does not refuse
pub make-traced : (i : ℕ) (w : World) (s : State) (k : ℕ) (p : Pid) (mine : List EndId) → Invariant i w s → p.0 < length s.homes → home_of s p ≡ k → ((w.kernel k).process p.0).phase ≡ kernel_phase.Running
    → refusal p (w.kernel k).table (w.kernel k).made mine (has_report (process_of p (w.kernel k))) call.Make ≡ None → AreTraced (links_of w) s.ends
    → AreTraced (links_of (happens w (Calls k p call.Make mine))) (after_making s p (made_end k (w.kernel k).made)).ends
make-traced i w s k p mine is below at running granted traced = made-traced making traced
  where
    happened : Happens w (Calls k p call.Make mine) (calling w k p call.Make (make_effect k (w.kernel k).made p))
    happened = performs-allowed is k p call.Make mine (make_effect k (w.kernel k).made p) granted tt refl

    making : Making i w s k p (links_of (happens w (Calls k p call.Make mine)))
    making = record { is = is; below = below; at = at; near = home-near i w s k p mine is below at running; changes = happened.becomes.links }
