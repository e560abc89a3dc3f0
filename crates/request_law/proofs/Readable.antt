-- While a link lives each message that comes can be read, but for a reply of other types.
use Rattle.std.proofs.Common.{◌≡◌, inl, inr, ⊎_elim, ℕ, Bool, true, false, List, ◌∷◌, ◌++◌, refl, ap, subst, ◌∙◌}
use Rattle.end_protocol.specs.declared.messages.Message.{Message}
use Rattle.end_protocol.specs.Hearing.{hears}
use Rattle.request_meaning.specs.Views.{asking, asks, back_in, forth_in, serving}
use Rattle.request_meaning.specs.Phases.{IsExchange}
use Rattle.request_meaning.specs.Links.{Link, Runs, start, turned}
use Rattle.request_meaning.specs.Invariant.{Lives, exchange}
use Rattle.request_law.specs.Law.{IsReadable}
use Rattle.request_law.proofs.Lists.{back_first, forth_first}
use Rattle.request_law.proofs.HearsBack.{HearsBack, HearsIt, IsMistyped}
use Rattle.request_law.proofs.Hearing.{hears_back, hears_forth}
use Rattle.request_law.proofs.Run.{run_lives}

module _ (version : ℕ) (room : Bool) (l : Link) (m : Message) (rest : List Message) (comes : l.here ≡ m ∷ rest) (lives : Lives version l) where
  back_readable : HearsIt version (serving l.far) (exchange l) (forth_in l.there) (back_in rest ++ back_in l.far.queue) m l.near (hears version room m.packet m.ends l.near) → IsReadable version room m l.near
  back_readable it =
      ⊎_elim
      (λ (h : HearsBack version (serving l.far) (exchange l) (forth_in l.there) (back_in rest ++ back_in l.far.queue) l.near (hears version room m.packet m.ends l.near)). record { read = inl h.read })
      (λ (u : IsMistyped version (serving l.far) (exchange l) (forth_in l.there) (back_in rest ++ back_in l.far.queue) m l.near (hears version room m.packet m.ends l.near)).
      record { read = inr (record { reply = u.reply; packet = u.packet; mistyped = u.mistyped }) })
      it

  comes_readable : IsReadable version room m l.near
  comes_readable = by_packet (asks m.packet) refl
    where
      by_packet : (b : Bool) → asks m.packet ≡ b → IsReadable version room m l.near
      by_packet false e =
          let near : IsExchange version (asking l.near) (serving l.far) (forth_in l.there ++ forth_in l.near.queue) (m ∷ (back_in rest ++ back_in l.far.queue)) (exchange l) =
          subst (λ (ms : List Message). IsExchange version (asking l.near) (serving l.far) (forth_in l.there ++ forth_in l.near.queue) (ms ++ back_in l.far.queue) (exchange l)) (ap back_in comes ∙ back_first m rest e) lives.near in
          back_readable (hears_back version room l.near (serving l.far) (exchange l) (forth_in l.there) (back_in rest ++ back_in l.far.queue) m near.phase near.at)
      by_packet true e =
          let far : IsExchange version (asking l.far) (serving l.near) (m ∷ (forth_in rest ++ forth_in l.far.queue)) (back_in l.there ++ back_in l.near.queue) (exchange (turned l)) =
          subst (λ (ms : List Message). IsExchange version (asking l.far) (serving l.near) (ms ++ forth_in l.far.queue) (back_in l.there ++ back_in l.near.queue) (exchange (turned l))) (ap forth_in comes ∙ forth_first m rest e) lives.far in
          let h = hears_forth version room l.near (asking l.far) (exchange (turned l)) (forth_in rest ++ forth_in l.far.queue) (back_in l.there) m far.phase far.at in
          record { read = inl h.read }

pub run_readable : (version : ℕ) (room : Bool) (l : Link) (m : Message) (rest : List Message) → Runs version start l → l.cut ≡ false → l.here ≡ m ∷ rest → IsReadable version room m l.near
run_readable version room l m rest run uncut comes = comes_readable version room l m rest comes (run_lives version l run uncut)
