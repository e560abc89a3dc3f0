-- Where no packet is under way there is no trace.
use Rattle.std.proofs.Common.{◌≡◌, ◌≢◌, ℕ, Bool, true, false, true≢false, ◌&&◌, ◌⊎◌, inl, inr, if◌then◌else◌, Some, None, List, [], ◌∷◌, ◌++◌, Contains, refl, sym, ap, subst, ◌∙◌, arith}
use Rattle.std.proofs.lemmas.Nat.Bits.{bit_at-zero}
use Rattle.std.specs.Int.{bit_at}
use Rattle.charlotte_calls.specs.Names.{opposite}
use Rattle.charlotte_calls.specs.declared.names.EndId.{EndId}
use Rattle.charlotte_packets.specs.declared.picture.MovingPicture.{MovingPicture}
use Rattle.charlotte_packets.specs.declared.picture.Picture.{Picture}
use Rattle.charlotte_packets.specs.declared.picture.PictureWhat.{PictureWhat}
use Rattle.end_table.specs.declared.entry.Entry.{Entry}
use Rattle.end_table.specs.declared.entry.Entry.TheVariants as entry
use Rattle.end_table.specs.declared.entry.HereView.{HereView}
use Rattle.service_lawful.specs.Consistent.{is_open}
use Rattle.service_step.specs.Ends.{is_living}
use Rattle.service_step.specs.declared.state.End.{End}
use Rattle.theorem_meaning.specs.Fields.{At, Flying, HasFields, Stand, value_of}
use Rattle.theorem_meaning.specs.Packets.{IsUnderWay, Links}
use Rattle.theorem_meaning.specs.StandsFor.{entry_at}
use Rattle.trace_meaning.specs.Traces.{AreBare, AreTraced, IsLeftRight, IsNoTrace, IsQuiet, IsToForget, IsTraceRight, IsTrailed}
use Rattle.trace_meaning.specs.Words.{HasMark, IsGoingTo, IsGoneFrom, IsGoneSeen, IsKnownOf, IsMovedTo, IsOnTrack, IsSought}

bit-none : (k : ℕ) → bit_at 0 k ≡ 1 → ⊥
bit-none k is = let zero_is : bit_at 0 k ≡ 0 = bit_at-zero k in omega arith

one : (a b : MovingPicture) → Some a ≡ Some b → a ≡ b
one a b same = cc

none-in : (q : Picture) → Contains [] q → ⊥
none-in q (i, below, same) = absurd (omega arith)

module _ (w : Links) (t : EndId → End) (h : AreTraced w t) (quiet : IsQuiet w) where
  nothing-goes : (to : ℕ) (P : PictureWhat → Type 0) → IsGoingTo w to P → ⊥
  nothing-goes to P g = none-in g.packet (subst (λ l. Contains l g.packet) (quiet g.from to) g.there)

  nothing-flies : (P : PictureWhat → Type 0) → IsUnderWay w P → ⊥
  nothing-flies P u = none-in u.packet (subst (λ l. Contains l u.packet) (quiet u.from u.to) u.there)

  nothing-on : (e : EndId) (n : ℕ) (P : PictureWhat → Type 0) → IsOnTrack w e n P → ⊥
  nothing-on e n P o = empty o.before (sym (quiet o.from o.to) ∙ o.stands)
    where
      empty : (before : List Picture) → [] ≡ before ++ o.packet ∷ o.later → ⊥
      empty [] same = cc
      empty (q ∷ before) same = cc

  -- no mark, since it is mourned
  no-mark : (e : EndId) → HasMark w e → ⊥
  no-mark e m = by (subst (IsTraceRight w t e m.at) m.there ((h e).entries m.at)).mourned
    where
      by : IsGoingTo w m.at (IsGoneSeen e) ⊎ (IsSought w t (opposite e) × IsOnTrack w (opposite e) m.mark.hint.1 (IsGoneFrom (opposite e) m.at)) → ⊥
      by (inl going) = nothing-goes m.at _ going
      by (inr both) = nothing-on (opposite e) m.mark.hint.1 _ both.1

  -- an end that is sought is open, and so its opposite lives
  open-of : (e : EndId) → IsSought w t e → is_open (t e) ≡ true
  open-of e (inl open_yet) = open_yet
  open-of e (inr mark) = absurd (no-mark e mark)

  lives-of : (e : EndId) → is_open (t e) ≡ true → is_living (t (opposite e)).place ≡ true
  lives-of e open_yet = by ((h e).met open_yet)
    where
      by : (is_living (t (opposite e)).place ≡ true) ⊎ HasMark w (opposite e) → is_living (t (opposite e)).place ≡ true
      by (inl lives) = lives
      by (inr mark) = absurd (no-mark (opposite e) mark)

  unnoticed : (e : EndId) → is_open (t e) ≡ true → (t e).noticed ≡ false
  unnoticed e open_yet = by (t e).noticed refl (is_living (t e).place) open_yet
    where
      by : (b : Bool) → (t e).noticed ≡ b → (c : Bool) → c && (if b then false else true) ≡ true → b ≡ false
      by true is true no_more = absurd (true≢false (sym no_more))
      by true is false no_more = absurd (true≢false (sym no_more))
      by false is c open_too = refl

  -- and it has no trail, since it is announced
  no-trail : (e : EndId) (k : ℕ) (v : HereView) → entry_at w k e ≡ entry.Here v → is_open (t e) ≡ true → v.value.trail ≢ 0 → ⊥
  no-trail e k v is open_yet some = by (subst (IsTraceRight w t e k) is ((h e).entries k) (unnoticed e open_yet) some (lives-of e open_yet))
    where
      by : IsGoingTo w k (IsKnownOf e v.value.hops) ⊎ IsOnTrack w (opposite e) v.value.hint.1 (IsMovedTo (opposite e) k v.value.hops) → ⊥
      by (inl going) = nothing-goes k _ going
      by (inr on) = nothing-on (opposite e) v.value.hint.1 _ on

  -- so no kernel is in one
  not-trailed : (e : EndId) (k : ℕ) → IsTrailed w t e k → ⊥
  not-trailed e k r = by r.at r.are
    where
      set : (n : ℕ) → bit_at n k ≡ 1 → n ≢ 0
      set n is none = bit-none k (subst (λ z. bit_at z k ≡ 1) none is)

      at_kernel : (j : ℕ) (x : Entry) → entry_at w j e ≡ x → value_of x ≡ Some r.fields → ⊥
      at_kernel j entry.Nothing is value = let differ : None ≡ Some r.fields = value in cc
      at_kernel j (entry.Left to g) is value = let differ : None ≡ Some r.fields = value in cc
      at_kernel j (entry.Destroyed m) is value = no-mark e (record { at = j; mark = m; there = is })
      at_kernel j (entry.Here v) is value =
          let same : Some v.value ≡ Some r.fields = value in
          no-trail e j v is (open-of e r.sought) (set v.value.trail (ap (λ m. bit_at m.trail k) (one v.value r.fields same) ∙ r.in_trail))

      by : (at : Stand) → HasFields w e at r.fields → ⊥
      by (At j) are = at_kernel j (entry_at w j e) refl are
      by Flying are = nothing-flies _ are.0

  -- no forwarding entry
  not-left : (e : EndId) (k g : ℕ) → IsLeftRight w t e k g → ⊥
  not-left e k g l = by l.kept
    where
      by : IsTrailed w t e k ⊎ IsToForget w e k g → ⊥
      by (inl trailed) = not-trailed e k trailed
      by (inr told) = nothing-goes k _ told.there

  no-trace : (e : EndId) (k : ℕ) (x : Entry) → entry_at w k e ≡ x → IsTraceRight w t e k x → IsNoTrace x
  no-trace e k entry.Nothing is right = tt
  no-trace e k (entry.Here v) is right = tt
  no-trace e k (entry.Left to g) is right = not-left e k g right
  no-trace e k (entry.Destroyed m) is right = no-mark e (record { at = k; mark = m; there = is })

pub bare-when-quiet : (w : Links) (t : EndId → End) → AreTraced w t → AreBare w
bare-when-quiet w t h quiet k e = no-trace w t h quiet e k (entry_at w k e) refl ((h e).entries k)
