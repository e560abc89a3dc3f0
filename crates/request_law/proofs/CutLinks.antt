-- What holds of a link that was cut holds of it after any step.
use Rattle.std.proofs.Common.{◌≡◌, ◌⊎◌, inl, inr, ⊎_elim, ℕ, Bool, true, false, List, [], ◌∷◌, ◌++◌, None, if◌then◌else◌, refl, sym, ap, subst, ◌∙◌, append-nil}
use Rattle.std.specs.List.{AllByRecursion}
use mathlib.Core.List.{IsPrefix}
use Rattle.charlotte_calls.specs.declared.names.EndId.{EndId}
use Rattle.end_protocol.specs.declared.hearing.Heard.{Heard}
use Rattle.end_protocol.specs.declared.hearing.Heard.TheVariants as heard
use Rattle.end_protocol.specs.declared.kept.Kept.{Kept}
use Rattle.end_protocol.specs.declared.kept.Response.{Response}
use Rattle.end_protocol.specs.declared.messages.Message.{Message}
use Rattle.end_protocol.specs.Deeds.{Deed, heard_deeds}
use Rattle.end_protocol.specs.Falling.{dies}
use Rattle.end_protocol.specs.Going.{sent}
use Rattle.end_protocol.specs.Happenings.{Happening, after, deeds_of}
use Rattle.end_protocol.specs.Hearing.{hears}
use Rattle.end_protocol.specs.Kept.{fresh}
use Rattle.end_protocol.specs.Messages.{request_of}
use Rattle.request_meaning.specs.Requests.{Request, accepted, issued, replied, returned}
use Rattle.request_meaning.specs.Views.{Asking, Serving, asking, asks, back_in, forth_in, serving}
use Rattle.request_meaning.specs.Phases.{Exchange}
use Rattle.request_meaning.specs.Links.{Link, MayHappen, MayMove, comes_of, enclosing, happened, heard_on, sent_off, turned, unless_unreadable}
use Rattle.request_meaning.specs.Invariant.{EndsCome, HearsNoReply, ReplyComes, ReplyEndsCome, RequestComes, ServesNoMore, ServesStill, WasAsked, WasCut, exchange, is_reply}
use Rattle.request_law.proofs.Lists.{back_first, back_other, forth_first, forth_other, front_chain, front_filter, none_before}
use Rattle.request_law.proofs.Cutting.{front_all, front_one}
use Rattle.request_law.proofs.Living.{asks_with, none_issued, none_replied, serves_with}
use Rattle.request_law.proofs.CutWays.{CutKeeps, Returns, Serves, asks_cut, asks_same, happening_cut, numbers_front, returns_as, serves_as, serves_cut, serves_on}
use Rattle.request_law.proofs.CutServing.{ServesOn, serves_hears}
use Rattle.request_law.proofs.CutAsking.{ReturnsOn, returns_hears}
use Rattle.request_law.proofs.Aside.{AsksAsBefore, ServesAsBefore, back_aside, forth_aside}

module _ (version : ℕ) where
  -- ---- what happens at an end

  keeps_cut : (l : Link) (j : Kept) (ds : List Deed) → CutKeeps version l.near j ds → WasCut version l → WasCut version (record l { near = j; near_deeds = l.near_deeds ++ ds })
  keeps_cut l j ds keeps was = record {
    is_cut = was.is_cut;
    near = subst (λ (x : Exchange). WasAsked version (asking j) (serving l.far) (forth_in l.there) (back_in l.here) x) (asks_with l j l.here l.there l.cut ds) (keeps.asks (serving l.far) (forth_in l.there) (back_in l.here) (exchange l) was.near);
    far = subst (λ (x : Exchange). WasAsked version (asking l.far) (serving j) (forth_in l.here) (back_in l.there) x) (serves_with l j l.here l.there l.cut ds)
        (keeps.serves (asking l.far) (forth_in l.here) (back_in l.there) (exchange (turned l)) was.far);
  }

  pub happens_cut : (l : Link) (h : Happening) → MayHappen h l.near → WasCut version l → WasCut version (happened version h l)
  happens_cut l h may was = keeps_cut l (after version h l.near) (deeds_of version h l.near) (happening_cut version h l.near may) was

  sent_asks : (k : Kept) → asking (sent k) ≡ asking k
  unfolding sent
  sent_asks k = refl

  sent_serves : (k : Kept) → serving (sent k) ≡ serving k
  unfolding sent
  sent_serves k = refl

  -- over a link that is cut nothing is sent
  pub sends_cut : (l : Link) (m : Message) → WasCut version l → WasCut version (sent_off version m l)
  sends_cut l m was =
      subst (λ (ms : List Message). WasCut version (record l { near = sent l.near; there = ms }))
      (sym (ap (λ (b : Bool). if b then l.there else l.there ++ enclosing version m ∷ []) was.is_cut))
      (record {
        is_cut = was.is_cut;
        near = subst (λ (a : Asking). WasAsked version a (serving l.far) (forth_in l.there) (back_in l.here) (exchange l)) (sym (sent_asks l.near)) was.near;
        far = subst (λ (s : Serving). WasAsked version (asking l.far) s (forth_in l.here) (back_in l.there) (exchange (turned l))) (sym (sent_serves l.near)) was.far;
      })

  -- ---- an end that is dead, or gone

  -- whatever is on its way to it
  pub near_dead : (l : Link) (j : Kept) (here : List Message) → j.dead ≡ true → WasCut version l → WasCut version (record l { near = j; here = here })
  near_dead l j here dead was = record {
    is_cut = was.is_cut;
    near = record { requests = was.near.requests; replies = was.near.replies; serves = was.near.serves; hears = inl (inl dead) };
    far = record {
      requests = was.far.requests;
      replies = was.far.replies;
      serves = inl (record { over = inl dead; answers = numbers_front version (serving l.near) (forth_in l.here) (exchange (turned l)) was.far.serves });
      hears = was.far.hears;
    };
  }

  pub dead_now : (k : Kept) → (dies k).dead ≡ true
  unfolding dies
  dead_now k = refl

  pub dies_cut : (l : Link) → WasCut version l → WasCut version (record l { near = dies l.near })
  dies_cut l was = near_dead l (dies l.near) l.here (dead_now l.near) was

  pub moves_cut : (l : Link) → MayMove l → WasCut version l → WasCut version (record l { near = fresh })
  moves_cut l may was =
      let none : l.here ≡ [] = may.none_comes was.is_cut in
      record {
        is_cut = was.is_cut;
        near = record {
          requests = was.near.requests;
          replies = was.near.replies;
          serves = was.near.serves;
          hears = inl (inr (subst (λ (ms : List Message). AllByRecursion (λ m. is_reply m.packet ≡ false) (back_in ms)) (sym none) tt));
        };
        far = record {
          requests = was.far.requests;
          replies = was.far.replies;
          serves = inl (record { over = inr (refl, ap forth_in none); answers = numbers_front version (serving l.near) (forth_in l.here) (exchange (turned l)) was.far.serves });
          hears = was.far.hears;
        };
      }

  -- ---- less is on its way

  fewer_serves : (s : Serving) (F G : List Message) (x : Exchange) → IsPrefix G F → Serves version s F x → Serves version s G x
  fewer_serves s F G x fewer serves =
      ⊎_elim
      (λ (never : ServesNoMore s F x). inl (record {
        over = ⊎_elim (λ (d : s.dead ≡ true). inl d) (λ (z : (s.owed ≡ None) × (F ≡ [])). inr (z.0, none_before G (subst (λ (l : List Message). IsPrefix G l) z.1 fewer))) never.over;
        answers = never.answers;
      }))
      (λ (still : ServesStill version s F x). inr (record {
        comes = ⊎_elim (λ (none : F ≡ []). inl (none_before G (subst (λ (l : List Message). IsPrefix G l) none fewer)))
            (λ (some : RequestComes version F x ⊎ EndsCome s F x).
            ⊎_elim (λ (q : RequestComes version F x). request q (front_one G _ (subst (λ (l : List Message). IsPrefix G l) q.only fewer)))
            (λ (q : EndsCome s F x). inr (inr (record {
              connect = q.connect;
              by = q.by;
              came = q.came;
              coming = q.coming;
              links = q.links;
              all = q.all;
              request = q.request;
              unowed = q.unowed;
              first = front_chain G F _ fewer q.first;
              next = q.next;
            })))
            some)
            still.comes;
        numbers = still.numbers;
      }))
      serves
    where
      request : (q : RequestComes version F x) → (G ≡ []) ⊎ (G ≡ request_of version q.connect ∷ []) → (G ≡ []) ⊎ (RequestComes version G x ⊎ EndsCome s G x)
      request q which =
          ⊎_elim (λ (none : G ≡ []). inl none)
          (λ (one : G ≡ request_of version q.connect ∷ []). inr (inl (record { connect = q.connect; links = q.links; only = one; next = q.next }))) which

  fewer_returns : (a : Asking) (B G : List Message) (x : Exchange) → IsPrefix G B → Returns version a B x → Returns version a G x
  fewer_returns a B G x fewer returns =
      ⊎_elim
      (λ (none : HearsNoReply a B). inl (⊎_elim (λ (d : a.dead ≡ true). inl d) (λ (all : AllByRecursion (λ m. is_reply m.packet ≡ false) B). inr (front_all (λ m. is_reply m.packet ≡ false) G B fewer all)) none))
      (λ (some : ReplyComes version B x ⊎ ReplyEndsCome a B x).
      ⊎_elim (λ (q : ReplyComes version B x). inr (inl (record { reply = q.reply; links = q.links; first = front_chain G B _ fewer q.first; next = q.next })))
      (λ (q : ReplyEndsCome a B x). inr (inr (record {
        connect = q.connect;
        reply = q.reply;
        came = q.came;
        coming = q.coming;
        links = q.links;
        all = q.all;
        outstanding = q.outstanding;
        part = q.part;
        first = front_chain G B _ fewer q.first;
        next = q.next;
      })))
      some)
      returns

  fewer_asked : (a : Asking) (s : Serving) (F B G H : List Message) (x : Exchange) → IsPrefix G F → IsPrefix H B → WasAsked version a s F B x → WasAsked version a s G H x
  fewer_asked a s F B G H x forth back was = record { requests = was.requests; replies = was.replies; serves = fewer_serves s F G x forth was.serves; hears = fewer_returns a B H x back was.hears }

  pub cuts_again : (l : Link) (there here : List Message) → IsPrefix there l.there → IsPrefix here l.here → WasCut version l → WasCut version (record l { there = there; here = here; cut = true })
  cuts_again l there here is_there is_here was = record {
    is_cut = refl;
    near = fewer_asked (asking l.near) (serving l.far) (forth_in l.there) (back_in l.here) (forth_in there) (back_in here) (exchange l) (front_filter _ there l.there is_there) (front_filter _ here l.here is_here) was.near;
    far = fewer_asked (asking l.far) (serving l.near) (forth_in l.here) (back_in l.there) (forth_in here) (back_in there) (exchange (turned l)) (front_filter _ here l.here is_here) (front_filter _ there l.there is_there) was.far;
  }

  -- ---- messages

  -- one can't be read, and the end is destroyed
  pub unreadable_cut : (l : Link) (rest : List Message) (xs : List EndId) → WasCut version (record l { cut = true }) → WasCut version (comes_of (l.near, heard.Unreadable xs) rest l)
  unreadable_cut l rest xs was =
      subst (λ (ds : List Deed). WasCut version (record l { near = dies l.near; here = rest; near_deeds = ds; cut = true })) (sym (append-nil l.near_deeds))
      (near_dead (record l { cut = true }) (dies l.near) rest (dead_now l.near) was)

  module _ (l : Link) (m : Message) (rest : List Message) (comes : l.here ≡ m ∷ rest) (was : WasCut version l) where
    abbrev after_it : Kept × Heard → Link
    after_it y = record l { near = y.0; here = rest; near_deeds = l.near_deeds ++ heard_deeds y.1 }

    -- it comes back to who asks
    back_cut : (y : Kept × Heard) → asks m.packet ≡ false → ServesAsBefore l.near y → ReturnsOn version (back_in rest) (exchange l) y → WasCut version (after_it y)
    back_cut y other aside on = record {
      is_cut = was.is_cut;
      near = subst (λ (x : Exchange). WasAsked version (asking y.0) (serving l.far) (forth_in l.there) (back_in rest) x)
          (ap (λ (is : List Request). record (exchange l) { issued = is; returned = returned l.near_deeds ++ returned (heard_deeds y.1) })
          (sym (ap (λ (is : List Request). issued l.near_deeds ++ is) (none_issued y.1) ∙ append-nil (issued l.near_deeds)))
          ∙ asks_with l y.0 rest l.there l.cut (heard_deeds y.1))
          (record { requests = was.near.requests; replies = on.replies; serves = serves_still was.near.serves; hears = on.returns });
      far = subst (λ (x : Exchange). WasAsked version (asking l.far) (serving y.0) (forth_in rest) (back_in l.there) x) (serves_with l y.0 rest l.there l.cut (heard_deeds y.1))
          (serves_cut version l.near y.0 (heard_deeds y.1) aside.none
          (serves_on version l.near y.0 (heard_deeds y.1) (sym (ap (λ (s : Serving). s.owed) aside.same)) (sym (ap (λ (s : Serving). s.request) aside.same)) (sym (ap (λ (s : Serving). s.dead) aside.same)) (none_replied y.1))
          (asking l.far) (forth_in rest) (back_in l.there) (exchange (turned l))
          (subst (λ (ms : List Message). WasAsked version (asking l.far) (serving l.near) ms (back_in l.there) (exchange (turned l))) (ap forth_in comes ∙ forth_other m rest other) was.far));
    }
      where
        serves_still : Serves version (serving l.far) (forth_in l.there) (exchange l) → Serves version (serving l.far) (forth_in l.there) (record (exchange l) { returned = returned l.near_deeds ++ returned (heard_deeds y.1) })
        serves_still serves =
            serves_as version (exchange l) (record (exchange l) { returned = returned l.near_deeds ++ returned (heard_deeds y.1) }) refl (λ k h. h) (serving l.far) (serving l.far) (forth_in l.there) refl refl refl refl serves

    -- it comes to who serves
    forth_cut : (y : Kept × Heard) → asks m.packet ≡ true → AsksAsBefore l.near y → ServesOn version (forth_in rest) (exchange (turned l)) y → WasCut version (after_it y)
    forth_cut y own aside on = record {
      is_cut = was.is_cut;
      near = subst (λ (x : Exchange). WasAsked version (asking y.0) (serving l.far) (forth_in l.there) (back_in rest) x) (asks_with l y.0 rest l.there l.cut (heard_deeds y.1))
          (asks_cut version l.near y.0 (heard_deeds y.1) aside.none (asks_same l.near y.0 aside.same) (serving l.far) (forth_in l.there) (back_in rest) (exchange l)
          (subst (λ (ms : List Message). WasAsked version (asking l.near) (serving l.far) (forth_in l.there) ms (exchange l)) (ap back_in comes ∙ back_other m rest own) was.near));
      far = subst (λ (x : Exchange). WasAsked version (asking l.far) (serving y.0) (forth_in rest) (back_in l.there) x)
          (ap (λ (rs : List Response). record (exchange (turned l)) { accepted = accepted l.near_deeds ++ accepted (heard_deeds y.1); replied = rs })
          (sym (ap (λ (rs : List Response). replied l.near_deeds ++ rs) (none_replied y.1) ∙ append-nil (replied l.near_deeds)))
          ∙ serves_with l y.0 rest l.there l.cut (heard_deeds y.1))
          (record { requests = on.requests; replies = was.far.replies; serves = on.serves; hears = returns_still was.far.hears });
    }
      where
        returns_still : Returns version (asking l.far) (back_in l.there) (exchange (turned l)) →
            Returns version (asking l.far) (back_in l.there) (record (exchange (turned l)) { accepted = accepted l.near_deeds ++ accepted (heard_deeds y.1) })
        returns_still returns =
            returns_as version (exchange (turned l)) (record (exchange (turned l)) { accepted = accepted l.near_deeds ++ accepted (heard_deeds y.1) }) (asking l.far) (asking l.far) (back_in l.there) refl
            (λ k h. h) (λ d. d) (λ c r o p. (o, p)) returns

    -- what is read, and what can't be
    unreadable_so : (y : Kept × Heard) (xs : List EndId) → y ≡ (l.near, heard.Unreadable xs) → WasCut version (comes_of y rest l)
    unreadable_so y xs e =
        subst (λ (z : Kept × Heard). WasCut version (comes_of z rest l)) (sym e)
        (unreadable_cut l rest xs (subst (λ (b : Bool). WasCut version (record l { cut = b })) was.is_cut was))

    -- where it is read, or not: in either case the link is as after it
    comes_so : (y : Kept × Heard) (h : Heard) → y.1 ≡ h → WasCut version (after_it y) → WasCut version (unless_unreadable h (after_it y))
    comes_so y heard.Nothing e so = so
    comes_so y (heard.Accepted w) e so = so
    comes_so y (heard.Returned thread r) e so = so
    comes_so y (heard.TooLate xs) e so = so
    comes_so y (heard.Unreadable xs) e so = subst (λ (b : Bool). WasCut version (record (after_it y) { near = dies y.0; cut = b })) was.is_cut (near_dead (after_it y) (dies y.0) rest (dead_now y.0) so)

    pub hears_cut : (room : Bool) → WasCut version (heard_on version room m rest l)
    hears_cut room = by_packet (asks m.packet) refl
      where
        by_packet : (b : Bool) → asks m.packet ≡ b → WasCut version (heard_on version room m rest l)
        by_packet false e =
            ⊎_elim
            (λ (on : ReturnsOn version (back_in rest) (exchange l) (hears version room m.packet m.ends l.near)).
            comes_so (hears version room m.packet m.ends l.near) (hears version room m.packet m.ends l.near).1 refl
            (back_cut (hears version room m.packet m.ends l.near) e (back_aside version room m.ends l.near m.packet e) on))
            (λ (u : (xs : List EndId) × (hears version room m.packet m.ends l.near ≡ (l.near, heard.Unreadable xs))). unreadable_so (hears version room m.packet m.ends l.near) u.0 u.1)
            (returns_hears version room l.near m (back_in rest) (exchange l) was.near.replies
            (subst (λ (ms : List Message). Returns version (asking l.near) ms (exchange l)) (ap back_in comes ∙ back_first m rest e) was.near.hears))
        by_packet true e =
            ⊎_elim
            (λ (on : ServesOn version (forth_in rest) (exchange (turned l)) (hears version room m.packet m.ends l.near)).
            comes_so (hears version room m.packet m.ends l.near) (hears version room m.packet m.ends l.near).1 refl
            (forth_cut (hears version room m.packet m.ends l.near) e (forth_aside version room m.ends l.near m.packet e) on))
            (λ (u : (xs : List EndId) × (hears version room m.packet m.ends l.near ≡ (l.near, heard.Unreadable xs))). unreadable_so (hears version room m.packet m.ends l.near) u.0 u.1)
            (serves_hears version room l.near m (forth_in rest) (exchange (turned l)) was.far.requests
            (subst (λ (ms : List Message). Serves version (serving l.near) ms (exchange (turned l))) (ap forth_in comes ∙ forth_first m rest e) was.far.serves))
