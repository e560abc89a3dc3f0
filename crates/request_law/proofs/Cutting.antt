-- A link that lives is cut: of what is on its way only the first may still come.
use Rattle.std.proofs.Common.{◌≡◌, ◌⊎◌, inl, inr, ⊎_elim, ℕ, Bool, true, false, List, [], ◌∷◌, ◌++◌, map, refl, sym, ap, subst, ◌∙◌, append_assoc}
use Rattle.std.specs.List.{AllByRecursion}
use mathlib.Core.List.{IsPrefix}
use Rattle.end_protocol.specs.declared.messages.Connect.{Connect}
use Rattle.end_protocol.specs.declared.messages.Message.{Message}
use Rattle.end_protocol.specs.Messages.{request_of}
use Rattle.request_meaning.specs.Requests.{Request}
use Rattle.request_meaning.specs.Views.{Asking, Serving, asking, back_in, forth_in, serving}
use Rattle.request_meaning.specs.Phases.{Asked, Barred, Coming, Exchange, Forbidden, IsAt, LetCome, Owed, Phase, Quiet, Replied, Retried, Returning, allowed, connect_with, request_in, unaccepted}
use Rattle.request_meaning.specs.Links.{Link, turned}
use Rattle.request_meaning.specs.Invariant.{EndsCome, HearsNoReply, Lives, ReplyComes, ReplyEndsCome, RequestComes, WasAsked, WasCut, exchange, is_reply}
use Rattle.request_law.proofs.Lists.{front_filter, front_in, front_more, front_self, none_before}

pub front_one : (ms : List Message) (m : Message) → IsPrefix ms (m ∷ []) → (ms ≡ []) ⊎ (ms ≡ m ∷ [])
front_one [] m h = inl refl
front_one (n ∷ ms) m h =
    let e : n ∷ (ms ++ h.0) ≡ m ∷ [] = h.1 in
    let first : n ≡ m = cc in
    let rest : ms ++ h.0 ≡ [] = cc in
    inr (ap (λ (l : Message). l ∷ ms) first ∙ ap (λ (l : List Message). m ∷ l) (none_before ms (h.0, rest)))

all_front : (P : Message → Type 0) (ms ns : List Message) → AllByRecursion P (ms ++ ns) → AllByRecursion P ms
all_front P [] ns all = tt
all_front P (m ∷ ms) ns all = (all.0, all_front P ms ns all.1)

pub front_all : (P : Message → Type 0) (ms ns : List Message) → IsPrefix ms ns → AllByRecursion P ns → AllByRecursion P ms
front_all P ms ns h all = all_front P ms h.0 (subst (λ (l : List Message). AllByRecursion P l) (sym h.1) all)

module _ (version : ℕ) (a : Asking) (s : Serving) (F B ms ns : List Message) (x : Exchange) (forth : IsPrefix ms F) (back : IsPrefix ns B) where
  next_one : (c : Connect) (l : List Request) → x.issued ≡ x.accepted ++ (request_in c ∷ l) → IsPrefix (x.accepted ++ request_in c ∷ []) x.issued
  next_one c l e = front_in (x.accepted ++ request_in c ∷ []) l x.issued (e ∙ sym (append_assoc x.accepted (request_in c ∷ []) l))

  -- what comes to who serves
  abbrev Comes : Type 0
  Comes = (ms ≡ []) ⊎ (RequestComes version ms x ⊎ EndsCome s ms x)

  none_comes : F ≡ [] → Comes
  none_comes none = inl (none_before ms (subst (λ (l : List Message). IsPrefix ms l) none forth))

  request_comes : (c : Connect) → IsAt version (Asked c) a s F B x → Comes
  request_comes c at =
      ⊎_elim
      (λ (none : ms ≡ []). inl none)
      (λ (one : ms ≡ request_of version c ∷ []). inr (inl (record { connect = c; links = at.so; only = one; next = next_one c (map request_in a.behind) at.issued })))
      (front_one ms (request_of version c) (subst (λ (l : List Message). IsPrefix ms l) at.forth_is forth))

  comes : (p : Phase) → IsAt version p a s F B x → Comes
  comes (Asked c) at = request_comes c at
  comes (Coming c by came e es) at = inr (inr (record {
    connect = c;
    by = by;
    came = came;
    coming = e ∷ es;
    links = at.so.0;
    all = at.so.1;
    request = at.request;
    unowed = at.owed;
    first = subst (λ (l : List Message). IsPrefix ms l) at.forth_is forth;
    next = next_one c (map request_in a.behind) at.issued;
  }))
  comes Quiet at = none_comes at.forth_is
  comes (Retried c) at = none_comes at.forth_is
  comes (Forbidden c b) at = none_comes at.forth_is
  comes (Barred c b) at = none_comes at.forth_is
  comes (LetCome c by) at = none_comes at.forth_is
  comes (Owed c) at = none_comes at.forth_is
  comes (Replied c r) at = none_comes at.forth_is
  comes (Returning c r came e es) at = none_comes at.forth_is

  -- what comes back to who asks
  abbrev Returns : Type 0
  Returns = HearsNoReply a ns ⊎ (ReplyComes version ns x ⊎ ReplyEndsCome a ns x)

  no_reply : (l : List Message) → B ≡ l → AllByRecursion (λ m. is_reply m.packet ≡ false) l → Returns
  no_reply l e none = inl (inr (front_all (λ m. is_reply m.packet ≡ false) ns l (subst (λ (k : List Message). IsPrefix ns k) e back) none))

  allowed_none : (c : Connect) (b : Bool) → AllByRecursion (λ m. is_reply m.packet ≡ false) (allowed c b)
  allowed_none c true = (refl, tt)
  allowed_none c false = tt

  returns : (p : Phase) → IsAt version p a s F B x → Returns
  returns (Replied c r) at = inr (inl (record {
    reply = r;
    links = at.so.links;
    first = subst (λ (l : List Message). IsPrefix ns l) at.back_is back;
    next = front_self (x.returned ++ r ∷ []) x.replied (sym at.replied);
  }))
  returns (Returning c r came e es) at = inr (inr (record {
    connect = connect_with [] c;
    reply = r;
    came = came;
    coming = e ∷ es;
    links = at.so.0.links;
    all = at.so.1;
    outstanding = at.outstanding;
    part = at.reply;
    first = subst (λ (l : List Message). IsPrefix ns l) at.back_is back;
    next = front_self (x.returned ++ r ∷ []) x.replied (sym at.replied);
  }))
  returns Quiet at = no_reply [] at.back_is tt
  returns (Asked c) at = no_reply [] at.back_is tt
  returns (Retried c) at = no_reply _ at.back_is (refl, tt)
  returns (Forbidden c b) at = no_reply _ at.back_is (refl, allowed_none c b)
  returns (Barred c b) at = no_reply (allowed c b) at.back_is (allowed_none c b)
  returns (LetCome c by) at = no_reply _ at.back_is (refl, tt)
  returns (Coming c by came e es) at = no_reply [] at.back_is tt
  returns (Owed c) at = no_reply [] at.back_is tt

  pub way_cut : (p : Phase) → IsAt version p a s F B x → WasAsked version a s ms ns x
  way_cut p at = record {
    requests = front_in x.accepted (unaccepted p ++ map request_in a.behind) x.issued at.issued;
    replies = front_in x.returned _ x.replied at.replied;
    serves = inr (record { comes = comes p at; numbers = at.numbers });
    hears = returns p at;
  }

pub lives_cut : (version : ℕ) (l : Link) (there here : List Message) → IsPrefix there l.there → IsPrefix here l.here → Lives version l → WasCut version (record l { there = there; here = here; cut = true })
lives_cut version l there here is_there is_here lives = record {
  is_cut = refl;
  near = way_cut version (asking l.near) (serving l.far) (forth_in l.there ++ forth_in l.near.queue) (back_in l.here ++ back_in l.far.queue) (forth_in there) (back_in here) (exchange l)
      (front_more (forth_in there) (forth_in l.there) (forth_in l.near.queue) (front_filter _ there l.there is_there))
      (front_more (back_in here) (back_in l.here) (back_in l.far.queue) (front_filter _ here l.here is_here)) lives.near.phase lives.near.at;
  far = way_cut version (asking l.far) (serving l.near) (forth_in l.here ++ forth_in l.far.queue) (back_in l.there ++ back_in l.near.queue) (forth_in here) (back_in there) (exchange (turned l))
      (front_more (forth_in here) (forth_in l.here) (forth_in l.far.queue) (front_filter _ here l.here is_here))
      (front_more (back_in there) (back_in l.there) (back_in l.near.queue) (front_filter _ there l.there is_there)) lives.far.phase lives.far.at;
}
