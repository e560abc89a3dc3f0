-- An event in two parts: one after the other they come to what it does.
use Rattle.std.proofs.Common.{◌≡◌, ℕ, Bool, true, false, nat_eq, if◌then◌else◌, List, [], ◌∷◌, ◌++◌, None, refl, sym, ap, ◌∙◌, append_assoc, eq-eqb}
use Rattle.charlotte_calls.specs.declared.names.EndId.{EndId}
use Rattle.charlotte_packets.specs.declared.picture.PictureWhat.{PictureWhat}
use Rattle.end_table.specs.declared.entry.Entry.{Entry}
use Rattle.theorem_take_silent.proofs.Lists.{going, going-first}
use Rattle.theorem_take_silent.specs.Change.{Change, Changes, sent_at, taken_at, taken_from}
use Rattle.theorem_meaning.specs.Packets.{Links}

-- lists of packets that go one after the other
going-append : (to stamp : ℕ) (ps qs : List (ℕ × PictureWhat)) → going to stamp (ps ++ qs) ≡ going to stamp ps ++ going to stamp qs
going-append to stamp [] qs = refl
going-append to stamp (p ∷ ps) qs = by (going-append to stamp ps qs) (nat_eq to p.0) refl
  where
    by : going to stamp (ps ++ qs) ≡ going to stamp ps ++ going to stamp qs → (b : Bool) → nat_eq to p.0 ≡ b → going to stamp (p ∷ (ps ++ qs)) ≡ going to stamp (p ∷ ps) ++ going to stamp qs
    by rest true is =
        going-first to stamp p (ps ++ qs) true is ∙ ap (λ l. record { stamp = stamp; what = p.1 } ∷ l) rest ∙ ap (λ l. l ++ going to stamp qs) (sym (going-first to stamp p ps true is))
    by rest false is = going-first to stamp p (ps ++ qs) false is ∙ rest ∙ ap (λ l. l ++ going to stamp qs) (sym (going-first to stamp p ps false is))

module _ {w u : Links} {c : Change} (b : Changes w c u) (f g : EndId → Entry → Entry) (ps qs : List (ℕ × PictureWhat)) (entries : (e : EndId) → c.entry e (w.entry c.kernel e) ≡ g e (f e (w.entry c.kernel e))) (packets : c.packets ≡ ps ++ qs) where
  sends : (from to : ℕ) → sent_at c from to ≡ sent_at (record c { packets = ps }) from to ++ sent_at (record c { packets = qs }) from to
  sends from to = by (nat_eq from c.kernel)
    where
      by : (x : Bool) → (if x then going to c.stamp c.packets else []) ≡ (if x then going to c.stamp ps else []) ++ (if x then going to c.stamp qs else [])
      by true = ap (going to c.stamp) packets ∙ going-append to c.stamp ps qs
      by false = refl

  none-taken : (from to : ℕ) → taken_at (record c { taken = None }) from to ≡ []
  none-taken from to = by (nat_eq to c.kernel)
    where
      by : (x : Bool) → (if x then taken_from None from else []) ≡ []
      by true = refl
      by false = refl

  -- the entries between the parts
  abbrev half : ℕ → EndId → Entry
  half j e = if nat_eq j c.kernel then f e (w.entry j e) else w.entry j e

  half-own : (e : EndId) → half c.kernel e ≡ f e (w.entry c.kernel e)
  half-own e = ap (λ x. if x then f e (w.entry c.kernel e) else w.entry c.kernel e) (eq-eqb c.kernel c.kernel refl)

  half-other : (j : ℕ) (e : EndId) → nat_eq j c.kernel ≡ false → half j e ≡ w.entry j e
  half-other j e apart = ap (λ x. if x then f e (w.entry j e) else w.entry j e) apart

  -- ---- the first part takes nothing

  abbrev pub untaken : Change
  untaken = record c { taken = None; entry = f; packets = ps }

  abbrev pub taking_last : Change
  taking_last = record c { entry = g; packets = qs }

  abbrev pub between : Links
  between = record { entry = half; packets = λ from to. w.packets from to ++ sent_at untaken from to }

  pub first-part : Changes w untaken between
  first-part =
      record {
        entry = half-own;
        others = half-other;
        left = w.packets;
        before = λ from to. ap (λ l. l ++ w.packets from to) (sym (none-taken from to));
        after = λ from to. refl;
      }

  pub last-part : Changes between taking_last u
  last-part =
      record {
        entry = λ e. b.entry e ∙ entries e ∙ ap (g e) (sym (half-own e));
        others = λ j e apart. b.others j e apart ∙ sym (half-other j e apart);
        left = λ from to. b.left from to ++ sent_at untaken from to;
        before = λ from to. ap (λ l. l ++ sent_at untaken from to) (b.before from to) ∙ append_assoc (taken_at c from to) (b.left from to) (sent_at untaken from to);
        after = λ from to. b.after from to ∙ ap (λ l. b.left from to ++ l) (sends from to) ∙ sym (append_assoc (b.left from to) (sent_at untaken from to) (sent_at taking_last from to));
      }

  -- ---- the first part takes the packet, and the last one takes nothing

  abbrev pub taking_first : Change
  taking_first = record c { entry = f; packets = ps }

  abbrev pub untaken_last : Change
  untaken_last = record c { taken = None; entry = g; packets = qs }

  abbrev pub halfway : Links
  halfway = record { entry = half; packets = λ from to. b.left from to ++ sent_at taking_first from to }

  pub taking-part : Changes w taking_first halfway
  taking-part = record { entry = half-own; others = half-other; left = b.left; before = b.before; after = λ from to. refl }

  pub untaken-part : Changes halfway untaken_last u
  untaken-part =
      record {
        entry = λ e. b.entry e ∙ entries e ∙ ap (g e) (sym (half-own e));
        others = λ j e apart. b.others j e apart ∙ sym (half-other j e apart);
        left = halfway.packets;
        before = λ from to. ap (λ l. l ++ halfway.packets from to) (sym (none-taken from to));
        after = λ from to. b.after from to ∙ ap (λ l. b.left from to ++ l) (sends from to) ∙ sym (append_assoc (b.left from to) (sent_at taking_first from to) (sent_at untaken_last from to));
      }
