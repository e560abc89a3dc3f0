-- An event is taken apart: first all entries but those of one end change, and then those, while packets are taken and sent.
use Rattle.std.proofs.Common.{◌≡◌, Bool, true, false, nat_eq, if◌then◌else◌, None, [], ◌++◌, refl, sym, ap, ◌∙◌, append-nil, eq-eqb}
use Rattle.charlotte_calls.specs.declared.names.EndId.{EndId}
use Rattle.end_table.specs.Place.{end_eq}
use Rattle.theorem_effects.specs.Change.{Change, Changes}
use Rattle.theorem_meaning.specs.Packets.{Links}
use Rattle.trace_calm.proofs.One.{sent-none, taken-none}

module _ {w u : Links} {c : Change} (b : Changes w c u) (x : EndId) where
  abbrev pub others_part : Change
  others_part = record c { taken = None; entry = λ e y. if end_eq x e then y else c.entry e y; packets = [] }

  abbrev pub own_part : Change
  own_part = record c { entry = λ e y. if end_eq x e then c.entry e y else y }

  abbrev pub middle : Links
  middle = record { entry = λ j e. if nat_eq j c.kernel then others_part.entry e (w.entry j e) else w.entry j e; packets = w.packets }

  middle-entry : (e : EndId) → middle.entry c.kernel e ≡ others_part.entry e (w.entry c.kernel e)
  middle-entry e = ap (λ a. if a then others_part.entry e (w.entry c.kernel e) else w.entry c.kernel e) (eq-eqb c.kernel c.kernel refl)

  pub others-changes : Changes w others_part middle
  others-changes =
      record {
        entry = middle-entry;
        others = λ j e off. ap (λ a. if a then others_part.entry e (w.entry j e) else w.entry j e) off;
        left = w.packets;
        before = λ from to. sym (ap (λ qs. qs ++ w.packets from to) (taken-none others_part refl from to));
        after = λ from to. sym (ap (λ qs. w.packets from to ++ qs) (sent-none others_part refl from to) ∙ append-nil (w.packets from to));
      }

  pub own-changes : Changes middle own_part u
  own-changes =
      record {
        entry = λ e. by e (end_eq x e) refl;
        others = λ j e off. b.others j e off ∙ sym (ap (λ a. if a then others_part.entry e (w.entry j e) else w.entry j e) off);
        left = b.left;
        before = b.before;
        after = b.after;
      }
    where
      by : (e : EndId) (a : Bool) → end_eq x e ≡ a → u.entry c.kernel e ≡ (if end_eq x e then c.entry e (middle.entry c.kernel e) else middle.entry c.kernel e)
      by e true same =
          b.entry e ∙ ap (c.entry e) (sym (middle-entry e ∙ ap (λ a. if a then w.entry c.kernel e else c.entry e (w.entry c.kernel e)) same))
          ∙ sym (ap (λ a. if a then c.entry e (middle.entry c.kernel e) else middle.entry c.kernel e) same)
      by e false apart =
          b.entry e ∙ sym (middle-entry e ∙ ap (λ a. if a then w.entry c.kernel e else c.entry e (w.entry c.kernel e)) apart)
          ∙ sym (ap (λ a. if a then c.entry e (middle.entry c.kernel e) else middle.entry c.kernel e) apart)
