-- An event by which nothing is erased is calm.
use Rattle.std.proofs.Common.{◌≡◌, ℕ, ◌⊎◌, inl, inr, Some, None, [], Contains, IfSome, refl, sym, ap, subst, ◌∙◌}
use Rattle.std.specs.Int.{bit_at}
use Rattle.charlotte_calls.specs.declared.names.EndId.{EndId}
use Rattle.charlotte_packets.specs.declared.picture.MovingPicture.{MovingPicture}
use Rattle.charlotte_packets.specs.declared.picture.PictureWhat.{PictureWhat}
use Rattle.charlotte_packets.specs.declared.picture.PictureWhat.TheVariants as packet
use Rattle.end_table.specs.declared.entry.Entry.{Entry}
use Rattle.end_table.specs.declared.entry.Entry.TheVariants as entry
use Rattle.end_table.specs.declared.entry.HereView.{HereView}
use Rattle.service_step.specs.declared.state.End.{End}
use Rattle.trace_events.proofs.TheoremEffectsAside.{sent-each}
use Rattle.trace_events.proofs.Ends.{all_sent-weaker}
use Rattle.trace_events.proofs.Lists.{none-there}
use Rattle.trace_events.proofs.Packets.{under_way-before, under_way-left}
use Rattle.trace_events.specs.Change.{Change, Changes}
use Rattle.trace_events.specs.Under.{IsLeft, IsSent, IsTaken}
use Rattle.theorem_meaning.specs.Fields.{At, Flying, HasFields, Stand, value_of}
use Rattle.theorem_meaning.specs.Packets.{Links, values_of}
use Rattle.theorem_meaning.specs.StandsFor.{entry_at}
use Rattle.trace_calm.proofs.Calm.{some-same}
use Rattle.trace_calm.specs.Calm.{IsCalm, IsCalmly, IsClosing, IsCounted, IsPassable, IsPassedOn, IsRetired, IsSteadily, IsTrueAsk}
use Rattle.trace_calm.specs.Steady.{IsSteady}
use Rattle.trace_events.specs.Had.{HasSome}
use Rattle.trace_meaning.specs.Traces.{IsTrailed}
use Rattle.trace_meaning.specs.Words.{HasMark, IsForgetOf, IsGoneSeen, IsSought}

counted-retired : (m l : MovingPicture) → IsCounted m l → IsRetired m l
counted-retired m l like = like ∙ ap (λ z. record m { sent = l.sent; asked = l.asked; trail = z }) (sym (ap (λ (x : MovingPicture). x.trail) like))

pub steadily-calmly : (y z : Entry) → IsSteadily y z → IsCalmly y z
steadily-calmly entry.Nothing entry.Nothing like = tt
steadily-calmly (entry.Here v) (entry.Here x) like = counted-retired v.value x.value like
steadily-calmly (entry.Left to hops) (entry.Left there more) like = like
steadily-calmly (entry.Destroyed m) (entry.Destroyed l) like = like
steadily-calmly _ _ like = absurd like

-- an entry that is as that of an end that is here
pub here-so : (v : HereView) (z : Entry) → IsSteadily (entry.Here v) z → (o : HereView) × (z ≡ entry.Here o) × IsCounted v.value o.value
here-so v (entry.Here o) like = (o, refl, like)
here-so v _ like = absurd like

-- what is passed on or asks does not close
closes-not : (w : Links) (q : PictureWhat) → IsPassable q ⊎ IsTrueAsk w q → IsClosing q → ⊥
closes-not w (packet.Forget to hops) (inl passes) closes = passes
closes-not w (packet.Forget to hops) (inr ask) closes = ask
closes-not w (packet.GoneSeen to) (inl passes) closes = passes
closes-not w (packet.GoneSeen to) (inr ask) closes = ask
closes-not w _ any closes = closes

forget-closes : (e : EndId) (h : ℕ) (q : PictureWhat) → IsForgetOf e h q → IsClosing q
forget-closes e h (packet.Forget to hops) is = tt
forget-closes e h _ is = absurd is

seen-closes : (e : EndId) (q : PictureWhat) → IsGoneSeen e q → IsClosing q
seen-closes e (packet.GoneSeen to) is = tt
seen-closes e _ is = absurd is

module _ {w u : Links} {c : Change} (b : Changes w c u) (t : EndId → End) (s : IsSteady w u c t) where
  like-at : (k : ℕ) (e : EndId) (y z : Entry) → entry_at w k e ≡ y → entry_at u k e ≡ z → IsSteadily y z
  like-at k e y z was is = subst (IsSteadily y) is (subst (λ x. IsSteadily x (entry_at u k e)) was (s.entries k e))

  none-closes : (P : PictureWhat → Type 0) → ((q : PictureWhat) → P q → IsClosing q) → IsSent c P → ⊥
  none-closes P closes x = by (sent-each (λ to what. IsPassedOn c what ⊎ IsTrueAsk w what) c.packets x.to x.what s.sent x.there)
    where
      by : IsPassedOn c x.what ⊎ IsTrueAsk w x.what → ⊥
      by (inl passed) = closes-not w x.what (inl passed.1) (closes x.what x.is)
      by (inr ask) = closes-not w x.what (inr ask) (closes x.what x.is)

  -- a trail stays
  value-still : (y z : Entry) (m : MovingPicture) → IsSteadily y z → value_of y ≡ Some m → (l : MovingPicture) × (value_of z ≡ Some l) × (l.trail ≡ m.trail)
  value-still (entry.Here v) (entry.Here x) m like has = (x.value, refl, ap (λ (z : MovingPicture). z.trail) like ∙ ap (λ (z : MovingPicture). z.trail) (some-same v.value m has))
  value-still (entry.Destroyed d) (entry.Destroyed x) m like has = (x, refl, ap (λ (z : MovingPicture). z.trail) (like ∙ some-same d m has))
  value-still entry.Nothing _ m like has = absurd (let none : None ≡ Some m = has in cc)
  value-still (entry.Left to hops) _ m like has = absurd (let none : None ≡ Some m = has in cc)
  value-still _ _ m like has = absurd like

  fields-still : (e : EndId) (at : Stand) (m : MovingPicture) → HasFields w e at m → HasSome u e (λ l. l.trail ≡ m.trail)
  fields-still e (At k) m has = let o = value-still (entry_at w k e) (entry_at u k e) m (s.entries k e) has in record { at = At k; fields = o.0; are = o.1; is = o.2 }
  fields-still e Flying m has = by (under_way-before b (λ q. Contains (values_of q) m) has.0)
    where
      by : IsLeft b (λ q. Contains (values_of q) m) ⊎ IsTaken c (λ q. Contains (values_of q) m) → HasSome u e (λ l. l.trail ≡ m.trail)
      by (inl left) = record { at = Flying; fields = m; are = (under_way-left b (λ q. Contains (values_of q) m) left, has.1); is = refl }
      by (inr taken) = absurd (none-there m (subst (λ l. Contains l m) (subst (λ o. IfSome o (λ q. values_of q.1.what ≡ [])) taken.taken s.bare) taken.is))

  mark-still : (e : EndId) → HasMark w e → HasMark u e
  mark-still e m = by (entry_at u m.at e) refl (like-at m.at e (entry.Destroyed m.mark) (entry_at u m.at e) m.there refl)
    where
      by : (z : Entry) → entry_at u m.at e ≡ z → IsSteadily (entry.Destroyed m.mark) z → HasMark u e
      by (entry.Destroyed l) is like = record { at = m.at; mark = l; there = is }
      by _ is like = absurd like

  sought-still : (e : EndId) → IsSought w t e → IsSought u t e
  sought-still e (inl is) = inl is
  sought-still e (inr mark) = inr (mark-still e mark)

  trailed-still : (e : EndId) (k : ℕ) → IsTrailed w t e k → IsTrailed u t e k
  trailed-still e k r =
      let o = fields-still e r.at r.fields r.are in
      record { sought = sought-still e r.sought; at = o.at; fields = o.fields; are = o.are; in_trail = subst (λ z. bit_at z k ≡ 1) (sym o.is) r.in_trail }

  pub steady-calm : IsCalm w u c t
  steady-calm =
      record {
        entries = λ k e. steadily-calmly (entry_at w k e) (entry_at u k e) (s.entries k e);
        bare = s.bare;
        sent_bare = s.sent_bare;
        sent = all_sent-weaker (λ to what. IsPassedOn c what ⊎ IsTrueAsk w what) (λ to what. IsPassedOn c what ⊎ IsTrueAsk w what ⊎ IsClosing what) (λ to what is. wider what is) c.packets s.sent;
        told = λ e h at m sent sought other has. absurd (none-closes (IsForgetOf e h) (forget-closes e h) sent);
        tells_seen = λ e sent. absurd (none-closes (IsGoneSeen e) (seen-closes e) sent);
        trail = λ k e v x was is. inl (ap (λ (z : MovingPicture). z.trail) (like-at k e (entry.Here v) (entry.Here x) was is));
        trailed = λ e k to h is older trailed. inl (trailed-still e k trailed);
        cleared = λ e k to h at m was is sought other has. absurd (like-at k e (entry.Left to h) entry.Nothing was is);
        erased = λ e k m was is. absurd (like-at k e (entry.Destroyed m) entry.Nothing was is);
        known = λ e v x was is free taken. absurd (s.known e v was free taken);
        forget = s.forget;
        seen = s.seen;
        moved = s.moved;
        gone = λ e d m is taken chain. inr (s.gone e d m taken chain);
      }
    where
      wider : (what : PictureWhat) → IsPassedOn c what ⊎ IsTrueAsk w what → IsPassedOn c what ⊎ IsTrueAsk w what ⊎ IsClosing what
      wider what (inl passed) = inl passed
      wider what (inr ask) = inr (inl ask)
