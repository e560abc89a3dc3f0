-- Messages that spell others, and what comes to an end.
use Rattle.std.proofs.Common.{◌≡◌, ◌⊎◌, inl, inr, ℕ, List, [], ◌∷◌, ◌++◌, append-nil, append_assoc, refl, sym, ap, subst, ◌∙◌}
use mathlib.Core.List.{IsPrefix}
use Rattle.charlotte_calls.specs.Names.{opposite}
use Rattle.charlotte_calls.specs.declared.calls.ServiceStep.{ServiceStep}
use Rattle.charlotte_calls.specs.declared.names.EndId.{EndId}
use Rattle.service_step.specs.State.{State as Service}
use Rattle.service_step.specs.declared.state.Message.{Message as Told}
use Rattle.service_streams.specs.Streams.{given_by, messages, sent_by, told_in}
use Rattle.run_invariant.specs.Coming.{ComesSo, coming}
use Rattle.run_invariant.specs.Coming as comes
use Rattle.run_invariant.specs.Deaths.{IsGone}
use Rattle.end_protocol.specs.declared.messages.Message.{Message}
use Rattle.run_invariant.specs.Invariant.{AreSpelled}

module _ (version : ℕ) where
  pub spelled-append : (ms ns : List Message) (gs hs : List Told) → AreSpelled version ms gs → AreSpelled version ns hs → AreSpelled version (ms ++ ns) (gs ++ hs)
  spelled-append [] ns [] hs first more = more
  spelled-append [] ns (g ∷ gs) hs first more = absurd first
  spelled-append (m ∷ ms) ns [] hs first more = absurd first
  spelled-append (m ∷ ms) ns (g ∷ gs) hs first more = (first.0, spelled-append ms ns gs hs first.1 more)

  -- the first of some
  pub record Front (ms : List Message) (gs : List Told) : Type 0 where
    pub front : List Message
    pub is : AreSpelled version front gs
    pub prefix : IsPrefix front ms

  pub spelled-front : (ms : List Message) (gs hs : List Told) → AreSpelled version ms (gs ++ hs) → Front ms gs
  spelled-front ms [] hs all = record { front = []; is = tt; prefix = (ms, refl) }
  spelled-front [] (g ∷ gs) hs all = absurd all
  spelled-front (m ∷ ms) (g ∷ gs) hs all =
      let rest : Front ms gs = spelled-front ms gs hs all.1 in
      record { front = m ∷ rest.front; is = (all.0, rest.is); prefix = (rest.prefix.0, ap (λ (l : List Message). m ∷ l) rest.prefix.1) }

-- what is coming now, of what was and what was sent
pub record Come (version : ℕ) (t : Service) (x : EndId) (base : List Message) (now : List Told) : Type 0 where
  pub coming : List Message
  pub is : AreSpelled version coming now
  pub comes : (coming ≡ base) ⊎ (IsGone t (opposite x) × IsPrefix coming base)

pub come : (version : ℕ) (s : Service) (made : ServiceStep) (t : Service) (x : EndId) → ComesSo s made t x → (IsGone t x → ⊥) → (told now : List Told)
    → now ≡ told ++ told_in x (given_by made) → (ms new : List Message) → AreSpelled version ms (told ++ coming s x) → AreSpelled version new (messages (sent_by (opposite x) made))
    → Come version t x (ms ++ new) (now ++ coming t x)
come version s made t x (comes.Goes goes) lives told now hears ms new before sent =
    record {
      coming = ms ++ new;
      is =
          subst (AreSpelled version (ms ++ new)) (sym (ap (λ (l : List Told). l ++ coming t x) hears ∙ append_assoc told (told_in x (given_by made)) (coming t x) ∙ ap (λ (l : List Told). told ++ l) goes ∙ sym (append_assoc told (coming s x) (messages (sent_by (opposite x) made)))))
          (spelled-append version ms new (told ++ coming s x) (messages (sent_by (opposite x) made)) before sent);
      comes = inl refl;
    }
come version s made t x (comes.Drops gone none prefix) lives told now hears ms new before sent =
    let first : Front version ms (told ++ coming t x) = spelled-front version ms (told ++ coming t x) prefix.0 (subst (AreSpelled version ms) (ap (λ (l : List Told). told ++ l) (sym prefix.1) ∙ sym (append_assoc told (coming t x) prefix.0)) before) in
    record {
      coming = first.front;
      is = subst (λ (l : List Told). AreSpelled version first.front (l ++ coming t x)) (sym (hears ∙ ap (λ (l : List Told). told ++ l) none ∙ append-nil told)) first.is;
      comes = inr (gone, (first.prefix.0 ++ new, sym (append_assoc first.front first.prefix.0 new) ∙ ap (λ (l : List Message). l ++ new) first.prefix.1));
    }
come version s made t x (comes.Gone gone) lives told now hears ms new before sent = absurd (lives gone)
