-- The letters under way between nodes that have met: there is none just where the net and the outboxes are empty.
use Rattle.std.proofs.Common.{◌≡◌, ℕ, false, List, [], ◌∷◌, ◌++◌, Some, map, refl, ap, sym, ◌∙◌, arith}
use Rattle.std.specs.Prelude.{slice_get, slice_index_or}
use Rattle.charlotte_calls.specs.declared.names.Pid.{Pid}
use Rattle.charlotte_calls.specs.declared.setting.Setting.{Setting}
use Rattle.charlotte_packets.specs.declared.picture.Picture.{Picture}
use Rattle.kernel_entries.specs.declared.entry.Entry.{Entry}
use Rattle.kernel_net.specs.Ports.{kernels_of, place_of, there_of}
use Rattle.kernel_net.specs.declared.letter.Letter.{Letter}
use Rattle.kernel_outbox.specs.Letters.{outbox_to}
use Rattle.kernel_worker.specs.Letters.{Told, told}
use Rattle.kernel_worker.specs.Nodes.{HasSent, Meaning}
use Rattle.kernel_worker.specs.Node.{Node}
use Rattle.kernel_worker.specs.Ends.{IsNetEmpty}
use Rattle.kernel_worker.specs.Local.{LocalEvent}
use Rattle.kernel_worker.proofs.Fitting.{At, Here, Past, all-get, at-map, at-of, outbox-none, past-map}
use Rattle.kernel_worker.specs.Net.{AreNodes, AreUnspoiled, left_at, left_between, pictures}

none-told : (ls : List Letter) → told ls ≡ [] → ls ≡ []
none-told [] none = refl
none-told (l ∷ ls) none = absurd cc

none-first : (xs ys : List Letter) → xs ++ ys ≡ [] → xs ≡ []
none-first [] ys none = refl
none-first (x ∷ xs) ys none = absurd cc

none-second : (xs ys : List Letter) → xs ++ ys ≡ [] → ys ≡ []
none-second [] ys none = none
none-second (x ∷ xs) ys none = absurd cc

module _ {P W : Type 0} where
  -- the letters from one node to another that are in the net, and those in the outbox
  abbrev pub letters_between : Node P W → Node P W → List Told
  letters_between a b = told (there_of a.base.port b.base.port ++ outbox_to a.base.outbox b.base.port.kernel)

  abbrev pub letters_of : List (Node P W) → Node P W → ℕ → List Told
  letters_of ns a to = slice_index_or (map (letters_between a) ns) to []

  -- the letters from one kernel to another, if both have their nodes here
  abbrev pub letters_at : List (Node P W) → ℕ → ℕ → List Told
  letters_at ns from to = slice_index_or (map (λ a. letters_of ns a to) ns) from []

  letters-both : (ns : List (Node P W)) (from to : ℕ) (a b : Node P W) → slice_get ns from ≡ Some a → slice_get ns to ≡ Some b → letters_at ns from to ≡ letters_between a b
  letters-both ns from to a b at_a at_b = at-map (λ (c : Node P W). letters_of ns c to) ns from a [] at_a ∙ at-map (letters_between a) ns to b [] at_b

  -- the packets among them
  pub letters-left : (ns : List (Node P W)) (from to : ℕ) → pictures (letters_at ns from to) ≡ left_at ns from to
  letters-left ns from to = by (at-of ns from) (at-of ns to)
    where
      row : Node P W → List Picture
      row c = slice_index_or (map (left_between c) ns) to []

      by : At ns from → At ns to → pictures (letters_at ns from to) ≡ left_at ns from to
      by (Here a at_a below) (Here b at_b there) = ap pictures (letters-both ns from to a b at_a at_b) ∙ sym (at-map row ns from a [] at_a ∙ at-map (left_between a) ns to b [] at_b)
      by (Here a at_a below) (Past past) =
          ap pictures (at-map (λ (c : Node P W). letters_of ns c to) ns from a [] at_a ∙ past-map (letters_between a) ns to [] past)
          ∙ sym (at-map row ns from a [] at_a ∙ past-map (left_between a) ns to [] past)
      by (Past past) there = ap pictures (past-map (λ (c : Node P W). letters_of ns c to) ns from [] past) ∙ sym (past-map row ns from [] past)

  pub none-under_way : (ns : List (Node P W)) → IsNetEmpty ns → ((k : ℕ) (n : Node P W) → slice_get ns k ≡ Some n → (to : ℕ) → outbox_to n.base.outbox to ≡ []) → (from to : ℕ) → letters_at ns from to ≡ []
  none-under_way ns net out from to = by (at-of ns from) (at-of ns to)
    where
      by : At ns from → At ns to → letters_at ns from to ≡ []
      by (Here a at_a below) (Here b at_b there) =
          letters-both ns from to a b at_a at_b
          ∙ ap (λ ls. told (ls ++ outbox_to a.base.outbox b.base.port.kernel)) (net from to a b at_a at_b)
          ∙ ap told (out from a at_a b.base.port.kernel)
      by (Here a at_a below) (Past past) = at-map (λ (c : Node P W). letters_of ns c to) ns from a [] at_a ∙ past-map (letters_between a) ns to [] past
      by (Past past) there = past-map (λ (c : Node P W). letters_of ns c to) ns from [] past

  module _ (ns : List (Node P W)) (none : (from to : ℕ) → letters_at ns from to ≡ []) where
    none-both : (from to : ℕ) (a b : Node P W) → slice_get ns from ≡ Some a → slice_get ns to ≡ Some b → there_of a.base.port b.base.port ++ outbox_to a.base.outbox b.base.port.kernel ≡ []
    none-both from to a b at_a at_b = none-told _ (sym (letters-both ns from to a b at_a at_b) ∙ none from to)

    pub none-there : IsNetEmpty ns
    none-there from to a b at_a at_b = none-first _ _ (none-both from to a b at_a at_b)

    module _ {S : Type 0} (m : Meaning P S) (HasSeen : W → List Entry → Type 0) (s : Setting) (first : ℕ → List (Pid × P)) (made : ℕ → List LocalEvent)
        (nodes : AreNodes m HasSeen s first made ns) (whole : AreUnspoiled ns) where
      sent-at : (k : ℕ) (n : Node P W) → slice_get ns k ≡ Some n → HasSent s k (made k) n.base
      sent-at k n at = (nodes.each k n at).sent (all-get (λ (n : Node P W). n.spoiled ≡ false) ns k n at whole)

      pub none-out : (k : ℕ) (n : Node P W) → slice_get ns k ≡ Some n → (to : ℕ) → outbox_to n.base.outbox to ≡ []
      none-out k n at to = by (at-of ns to)
        where
          sent : HasSent s k (made k) n.base
          sent = sent-at k n at

          by : At ns to → outbox_to n.base.outbox to ≡ []
          by (Here b at_b there) = ap (outbox_to n.base.outbox) (sym (sent-at to b at_b).number) ∙ none-second _ _ (none-both k to n b at at_b)
          by (Past past) = outbox-none n.base.outbox (kernels_of (place_of n.base.port)) to (omega (arith, past, nodes.count, sent.kernels)) sent.fits.lists sent.fits.within
