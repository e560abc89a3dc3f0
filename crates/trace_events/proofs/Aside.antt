-- An event that passes both ends of a link by leaves what is true of their traces.
use Rattle.std.proofs.Common.{◌≡◌, ℕ, Bool, true, false, true≢false, ◌||◌, inl, inr, cond, List, [], ◌∷◌, ◌++◌, Contains, IfSome, refl, sym, ap, subst, ◌∙◌, append-nil}
use Rattle.std.proofs.lemmas.List.Elements.{filter-append}
use Rattle.std.specs.List.{filter, list_any}
use Rattle.charlotte_calls.specs.Names.{opposite}
use Rattle.charlotte_calls.specs.declared.names.EndId.{EndId}
use Rattle.charlotte_packets.specs.declared.picture.Picture.{Picture}
use Rattle.charlotte_packets.specs.declared.picture.PictureWhat.{PictureWhat}
use Rattle.end_table.proofs.EndEq.{end_eq-refl}
use Rattle.end_table.specs.Place.{end_eq}
use Rattle.kernel_sound.specs.Sound.{addressee}
use Rattle.kernel_step.specs.Rows.{ends_in}
use Rattle.service_step.specs.declared.state.End.{End}
use Rattle.theorem_effects.proofs.Aside.{entry-same, not_among, sent-each}
use Rattle.theorem_effects.proofs.Lists.{first, later}
use Rattle.theorem_effects.proofs.Packets.{sent-there, taken-there}
use Rattle.theorem_effects.specs.Aside.{IsAside}
use Rattle.theorem_effects.specs.Change.{Change, Changes, sent_at, taken_at}
use Rattle.theorem_effects.proofs.Frame.{IsAbout}
use Rattle.theorem_effects.specs.Packets.{Links, values_of}
use Rattle.trace_meaning.proofs.Frame.{IsSameTrack, frame-traced}
use Rattle.trace_meaning.specs.Traces.{IsTraced}

-- a list of which nothing passes a test
filter-none : {X : Type 0} (test : X → Bool) (xs : List X) → ((x : X) → Contains xs x → test x ≡ false) → filter test xs ≡ []
filter-none test [] none = refl
filter-none test (x ∷ xs) none =
    ap (λ b. cond b (x ∷ filter test xs) (filter test xs)) (none x (first x xs)) ∙ filter-none test xs (λ y has. none y (later x xs y has))

both-false : (a b : Bool) → a ≡ false → b ≡ false → (a || b) ≡ false
both-false false false is are = refl
both-false true b is are = is
both-false false true is are = are

none-of : (one two three four : Bool) → (one || (two || (three || four))) ≡ false → (one ≡ false) × (two ≡ false) × (three ≡ false) × (four ≡ false)
none-of false false false false is = (refl, refl, refl, refl)
none-of true two three four is = absurd (true≢false is)
none-of false true three four is = absurd (true≢false is)
none-of false false true four is = absurd (true≢false is)
none-of false false false true is = absurd (true≢false is)

module _ {w u : Links} {c : Change} (b : Changes w c u) (e : EndId) (own : IsAside w c e) (other : IsAside w c (opposite e)) where
  -- a packet is about the link
  abbrev about : PictureWhat → Bool
  about q = end_eq e (addressee q) || (end_eq (opposite e) (addressee q) || (list_any (end_eq e) (ends_in (values_of q)) || list_any (end_eq (opposite e)) (ends_in (values_of q))))

  all-false : (q : PictureWhat) → end_eq e (addressee q) ≡ false → end_eq (opposite e) (addressee q) ≡ false → list_any (end_eq e) (ends_in (values_of q)) ≡ false
      → list_any (end_eq (opposite e)) (ends_in (values_of q)) ≡ false → about q ≡ false
  all-false q one two three four =
      both-false (end_eq e (addressee q)) _ one (both-false (end_eq (opposite e) (addressee q)) _ two (both-false (list_any (end_eq e) (ends_in (values_of q))) _ three four))

  covers : (q : PictureWhat) → IsAbout e q → about q ≡ true
  covers q is = by (about q) refl
    where
      apart : (x y : EndId) → end_eq y x ≡ false → x ≡ y → ⊥
      apart x y differ same = true≢false (sym (end_eq-refl y) ∙ subst (λ z. end_eq y z ≡ false) same differ)

      none : about q ≡ false → IsAbout e q → ⊥
      none off = at (none-of (end_eq e (addressee q)) (end_eq (opposite e) (addressee q)) (list_any (end_eq e) (ends_in (values_of q))) (list_any (end_eq (opposite e)) (ends_in (values_of q))) off)
        where
          at : (end_eq e (addressee q) ≡ false) × (end_eq (opposite e) (addressee q) ≡ false) × (list_any (end_eq e) (ends_in (values_of q)) ≡ false) × (list_any (end_eq (opposite e)) (ends_in (values_of q)) ≡ false) → IsAbout e q → ⊥
          at parts (inl to) = apart (addressee q) e parts.0 to
          at parts (inr (inl to)) = apart (addressee q) (opposite e) parts.1 to
          at parts (inr (inr (inl has))) = not_among e (ends_in (values_of q)) parts.2 has
          at parts (inr (inr (inr has))) = not_among (opposite e) (ends_in (values_of q)) parts.3 has

      by : (a : Bool) → about q ≡ a → about q ≡ true
      by true yes_is = yes_is
      by false no_is = absurd (none no_is is)

  not-taken : (from to : ℕ) (q : Picture) → Contains (taken_at c from to) q → about q.what ≡ false
  not-taken from to q has =
      let taken = (taken-there c from to q has).0 in
      all-false q.what (subst (λ t. IfSome t (λ t. end_eq e (addressee t.1.what) ≡ false)) taken own.addressed.taken)
      (subst (λ t. IfSome t (λ t. end_eq (opposite e) (addressee t.1.what) ≡ false)) taken other.addressed.taken)
      (subst (λ t. IfSome t (λ t. list_any (end_eq e) (ends_in (values_of t.1.what)) ≡ false)) taken own.brought.taken)
      (subst (λ t. IfSome t (λ t. list_any (end_eq (opposite e)) (ends_in (values_of t.1.what)) ≡ false)) taken other.brought.taken)

  not-sent : (from to : ℕ) (q : Picture) → Contains (sent_at c from to) q → about q.what ≡ false
  not-sent from to q has =
      let sent = (sent-there c from to q has).0 in
      all-false q.what (sent-each (λ to what. end_eq e (addressee what) ≡ false) c.packets to q.what own.addressed.sent sent)
      (sent-each (λ to what. end_eq (opposite e) (addressee what) ≡ false) c.packets to q.what other.addressed.sent sent)
      (sent-each (λ to what. list_any (end_eq e) (ends_in (values_of what)) ≡ false) c.packets to q.what own.brought.sent sent)
      (sent-each (λ to what. list_any (end_eq (opposite e)) (ends_in (values_of what)) ≡ false) c.packets to q.what other.brought.sent sent)

  -- the packets about the link stand in each list as they did
  pub aside-track : IsSameTrack w u e
  aside-track =
      record {
        own = entry-same b e own.kept;
        other = entry-same b (opposite e) other.kept;
        test = about;
        covers = covers;
        packets = λ from to. now from to ∙ sym (before from to);
      }
    where
      passes : Picture → Bool
      passes q = about q.what

      now : (from to : ℕ) → filter passes (u.packets from to) ≡ filter passes (b.left from to) ++ []
      now from to =
          ap (filter passes) (b.after from to) ∙ filter-append passes (b.left from to) (sent_at c from to)
          ∙ ap (λ l. filter passes (b.left from to) ++ l) (filter-none passes (sent_at c from to) (not-sent from to))

      before : (from to : ℕ) → filter passes (w.packets from to) ≡ filter passes (b.left from to) ++ []
      before from to =
          ap (filter passes) (b.before from to) ∙ filter-append passes (taken_at c from to) (b.left from to)
          ∙ ap (λ l. l ++ filter passes (b.left from to)) (filter-none passes (taken_at c from to) (not-taken from to)) ∙ sym (append-nil (filter passes (b.left from to)))

  pub aside-traced : (old now : EndId → End) → now e ≡ old e → now (opposite e) ≡ old (opposite e) → IsTraced w old e → IsTraced u now e
  aside-traced old now same other_same is = frame-traced w u e aside-track old now same other_same is
