-- After an event kernels and packets name no more than is there.
use Rattle.std.proofs.Common.{◌≡◌, ◌≢◌, ◌⊎◌, inl, inr, ℕ, ◌<◌, ◌≤◌, Bool, true, false, nat_eq, if◌then◌else◌, List, [], ◌∷◌, ◌++◌, length, Contains, refl, sym, ap, subst, ◌∙◌, arith, ne_eqb}
use Rattle.std.proofs.lemmas.Bool.Decides.{eqb_tells}
use Rattle.charlotte_packets.specs.Packets.{is_addressed}
use Rattle.charlotte_calls.specs.declared.calls.Answer.{Answer}
use Rattle.charlotte_calls.specs.declared.calls.Call.{Call}
use Rattle.charlotte_calls.specs.declared.calls.Report.{Report}
use Rattle.charlotte_calls.specs.declared.names.EndId.{EndId}
use Rattle.charlotte_calls.specs.declared.names.Pid.{Pid}
use Rattle.charlotte_packets.specs.declared.picture.Picture.{Picture}
use Rattle.charlotte_packets.specs.declared.picture.PictureWhat.{PictureWhat}
use Rattle.end_table.specs.Place.{end_eq}
use Rattle.end_table.specs.declared.entry.Entry.{Entry}
use Rattle.end_table.specs.declared.entry.Entry.TheVariants as entry
use Rattle.kernel_effects.specs.Calls.{act_effect}
use Rattle.kernel_effects.specs.Effect.{Effect}
use Rattle.kernel_effects.specs.Rows.{row_effect}
use Rattle.kernel_named.proofs.Values.{reported-names}
use Rattle.kernel_outcomes.specs.Closing.{told_entry}
use Rattle.kernel_sound.specs.Sound.{addressee}
use Rattle.kernel_step.specs.Kernel.{reported_entry}
use Rattle.kernel_world.specs.World.{World}
use Rattle.service_step.specs.Ends.{is_made}
use Rattle.service_step.specs.State.{State}
use Rattle.service_step.specs.declared.state.End.{End}
use Rattle.std.proofs.lemmas.List.Elements.{All-contains}
use Rattle.theorem_meaning.specs.Invariant.{AreNamed, Invariant, NamesBelow}
use Rattle.theorem_meaning.specs.Packets.{Links}
use Rattle.theorem_effects.specs.Change.{Change, Changes, sent_at, taken_at}
use Rattle.theorem_effects.specs.Events.{calling, taking}
use Rattle.theorem_effects.specs.Named.{IsSentWithin, NamesWithin}
use Rattle.theorem_effects.specs.Sums.{AllSent, IsWithin}
use Rattle.theorem_effects.proofs.Allowed.{between}
use Rattle.theorem_effects.proofs.Aside.{sent-each}
use Rattle.theorem_effects.proofs.Ends.{all_sent-weaker}
use Rattle.theorem_effects.proofs.Lists.{first, going, going-first}
use Rattle.theorem_effects.proofs.NamedCalls.{act-names}
use Rattle.theorem_effects.proofs.NamedRows.{row-names}
use Rattle.theorem_effects.proofs.Packets.{each-after}

-- ---- a report that is told

pub told-names : (n : ℕ) (rs : List Report) (e : EndId) (y : Entry) → NamesBelow n y → NamesBelow n (told_entry rs e y)
told-names n [] e y is = is
told-names n (r ∷ rs) e y is = by (end_eq r.on e)
  where
    by : (b : Bool) → NamesBelow n (if b then reported_entry r.way y else y)
    by true = reported-names n r.way y is
    by false = is

-- ---- lists that stay empty

appended-none : (xs ys : List Picture) → xs ++ ys ≡ [] → ys ≡ []
appended-none [] ys none = none
appended-none (x ∷ xs) ys none = cc

going-far : (n to stamp : ℕ) (ps : List (ℕ × PictureWhat)) → n ≤ to → AllSent (IsSentWithin n) ps → going to stamp ps ≡ []
going-far n to stamp [] far within = refl
going-far n to stamp (p ∷ ps) far within = going-first to stamp p ps false (ne_eqb to p.0 apart) ∙ going-far n to stamp ps far within.1
  where
    apart : to ≢ p.0
    apart same = let near : p.0 < n = (within.0).0 in omega (arith, near)

module _ (n : ℕ) {w u : Links} {c : Change} {t : EndId → End} (b : Changes w c u) (below : c.kernel < n) (named : AreNamed n w t) where
  far-kernel : (k : ℕ) → n ≤ k → nat_eq k c.kernel ≡ false
  far-kernel k far = ne_eqb k c.kernel (λ same. omega arith)

  entries-after : ((e : EndId) (y : Entry) → NamesBelow n y → NamesBelow n (c.entry e y)) → (k : ℕ) (e : EndId) → NamesBelow n (u.entry k e)
  entries-after entries k e = by (eqb_tells k c.kernel)
    where
      by : ((nat_eq k c.kernel ≡ true) × (k ≡ c.kernel)) ⊎ ((nat_eq k c.kernel ≡ false) × (k ≢ c.kernel)) → NamesBelow n (u.entry k e)
      by (inl is) = subst (λ j. NamesBelow n (u.entry j e)) (sym is.1) (subst (NamesBelow n) (sym (b.entry e)) (entries e (w.entry c.kernel e) (named.entries c.kernel e)))
      by (inr is) = subst (NamesBelow n) (sym (b.others k e is.0)) (named.entries k e)

  lists-after : AllSent (IsSentWithin n) c.packets → (from to : ℕ) → (n ≤ from) ⊎ (n ≤ to) → u.packets from to ≡ []
  lists-after within from to far =
      let left : b.left from to ≡ [] = appended-none (taken_at c from to) (b.left from to) (sym (b.before from to) ∙ named.lists from to far) in
      b.after from to ∙ ap (λ l. l ++ sent_at c from to) left ∙ sent far
    where
      by : n ≤ to → (b : Bool) → (if b then going to c.stamp c.packets else []) ≡ []
      by there true = going-far n to c.stamp c.packets there within
      by there false = refl

      sent : (n ≤ from) ⊎ (n ≤ to) → sent_at c from to ≡ []
      sent (inl there) = ap (λ b. if b then going to c.stamp c.packets else []) (far-kernel from there)
      sent (inr there) = by there (nat_eq from c.kernel)

  -- where what is made stays made, and packets are addressed to ends of made links
  pub named-after : (s : EndId → End) → ((e : EndId) (y : Entry) → NamesBelow n y → NamesBelow n (c.entry e y)) → AllSent (IsSentWithin n) c.packets → ((e : EndId) → is_made (t e).place ≡ true → is_made (s e).place ≡ true)
      → AllSent (λ to what. is_made (s (addressee what)).place ≡ true) c.packets → AreNamed n u s
  named-after s entries within made addressees =
      record {
        entries = entries-after entries;
        away = λ k e far. b.others k e (far-kernel k far) ∙ named.away k e far;
        lists = lists-after within;
        addressed =
            each-after b (λ from to q. is_addressed q n ≡ true) (λ from to q. is_addressed q n ≡ true) named.addressed (λ from to q has is. is)
            (λ to what has. (sent-each (IsSentWithin n) c.packets to what within has).1);
        addressees =
            each-after b (λ from to q. is_made (t (addressee q)).place ≡ true) (λ from to q. is_made (s (addressee q)).place ≡ true) named.addressees (λ from to q has is. made (addressee q.what) is)
            (λ to what has. sent-each (λ to what. is_made (s (addressee what)).place ≡ true) c.packets to what addressees has);
      }

-- ---- the events of a run

module _ {i : ℕ} {w : World} {s : State} (is : Invariant i w s) where
  within-eight : (ps : List (ℕ × PictureWhat)) → AllSent (IsSentWithin (length s.made)) ps → AllSent (λ to what. to < 8) ps
  within-eight ps within = all_sent-weaker (IsSentWithin (length s.made)) (λ to what. to < 8) (λ to what sent. let near : to < length s.made = sent.0 in omega (arith, is.setting.few)) ps within

  -- a packet
  module _ (k from : ℕ) (q : Picture) (others : List Picture) (there : w.packets from k ≡ q ∷ others) where
    near : (from < length s.made) × (k < length s.made)
    near = between is from k q (subst (λ l. Contains l q) (sym there) (first q others))

    pub takes-names : (f : Effect) → row_effect k (w.kernel k).made from (w.kernel k).table q.what ≡ f → NamesWithin (length s.made) f
    takes-names f effect =
        subst (NamesWithin (length s.made)) effect
        (row-names (length s.made) k (w.kernel k).made from (w.kernel k).table near.1 near.0 (is.links.named.entries k) q.what
        (All-contains (λ z. is_addressed z.what (length s.made) ≡ true) (w.packets from k) q (is.links.named.addressed from k) (subst (λ l. Contains l q) (sym there) (first q others))))

    pub takes-within : (f : Effect) (p : Pid) (given : List Answer) (rs : List Report) → NamesWithin (length s.made) f → IsWithin 8 (taking w k from q f p given rs)
    takes-within f p given rs names = record { kernel = omega (arith, near.1, is.setting.few); taken = omega (arith, near.0, is.setting.few); sent = within-eight f.packets names.sent }

  -- a call
  module _ (k : ℕ) (p : Pid) (c : Call) (mine : List EndId) (below : k < length s.made) where
    pub performs-names : (f : Effect) → act_effect p k (w.kernel k).made mine (w.kernel k).table c ≡ f → NamesWithin (length s.made) f
    performs-names f effect = subst (NamesWithin (length s.made)) effect (act-names (length s.made) k (w.kernel k).made p mine (w.kernel k).table below (is.links.named.entries k) c)

    pub performs-within : (f : Effect) → NamesWithin (length s.made) f → IsWithin 8 (calling w k p c f)
    performs-within f names = record { kernel = omega (arith, below, is.setting.few); taken = tt; sent = within-eight f.packets names.sent }
