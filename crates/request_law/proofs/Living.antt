-- A link that lives goes on to live by any step, but where it is cut or a message can't be read.
use Rattle.std.proofs.Common.{◌≡◌, ◌⊎◌, inl, inr, ⊎_elim, ℕ, Bool, true, false, List, [], ◌∷◌, ◌++◌, if◌then◌else◌, refl, sym, ap, subst, ◌∙◌, append-nil}
use Rattle.std.proofs.lemmas.Grind.{flat_map-append}
use Rattle.charlotte_calls.specs.declared.names.EndId.{EndId}
use Rattle.end_protocol.specs.declared.hearing.Heard.{Heard}
use Rattle.end_protocol.specs.declared.hearing.Heard.TheVariants as heard
use Rattle.end_protocol.specs.declared.kept.Kept.{Kept}
use Rattle.end_protocol.specs.declared.kept.Response.{Response}
use Rattle.end_protocol.specs.declared.messages.Message.{Message}
use Rattle.end_protocol.specs.Deeds.{Deed, heard_deeds}
use Rattle.end_protocol.specs.Going.{sent}
use Rattle.end_protocol.specs.Happenings.{Happening, after, deeds_of}
use Rattle.end_protocol.specs.Hearing.{hears}
use Rattle.end_protocol.specs.Kept.{fresh}
use Rattle.end_protocol.specs.Lists.{tail}
use Rattle.request_meaning.specs.Requests.{Request, accepted, accepted_by, issued, issued_by, replied, replied_by, returned, returned_by}
use Rattle.request_meaning.specs.Views.{Asking, Serving, asking, asks, back_in, forth_in, serving}
use Rattle.request_meaning.specs.Phases.{Exchange, IsExchange}
use Rattle.request_meaning.specs.Links.{Link, MayHappen, MayMove, comes_of, enclosing, happened, heard_on, sent_off, turned, unless_unreadable}
use Rattle.request_meaning.specs.Invariant.{Lives, exchange}
use Rattle.request_law.proofs.Lists.{back_first, back_other, forth_first, forth_other}
use Rattle.request_law.proofs.Happening.{Keeps, asks_as_before, asks_more, happening_keeps, serves_as_before, serves_more}
use Rattle.request_law.proofs.HearsBack.{HearsBack, HearsIt, IsMistyped}
use Rattle.request_law.proofs.HearsForth.{HearsForth}
use Rattle.request_law.proofs.Hearing.{hears_back, hears_forth}
use Rattle.request_law.proofs.Moving.{back_sent, encloses_all, forth_sent, move_keeps, sends_short}

-- ---- what was done

pub asks_with : (l : Link) (j : Kept) (here there : List Message) (cut : Bool) (ds : List Deed) → asks_more ds (exchange l) ≡ exchange (record l { near = j; here = here; there = there; cut = cut; near_deeds = l.near_deeds ++ ds })
asks_with l j here there cut ds =
    ap (λ (is : List Request). record (exchange l) { issued = is; returned = returned l.near_deeds ++ returned ds }) (sym (flat_map-append issued_by l.near_deeds ds))
    ∙ ap (λ (rs : List Response). record (exchange l) { issued = issued (l.near_deeds ++ ds); returned = rs }) (sym (flat_map-append returned_by l.near_deeds ds))

pub serves_with : (l : Link) (j : Kept) (here there : List Message) (cut : Bool) (ds : List Deed) → serves_more ds (exchange (turned l)) ≡ exchange (turned (record l { near = j; here = here; there = there; cut = cut; near_deeds = l.near_deeds ++ ds }))
serves_with l j here there cut ds =
    ap (λ (is : List Request). record (exchange (turned l)) { accepted = is; replied = replied l.near_deeds ++ replied ds }) (sym (flat_map-append accepted_by l.near_deeds ds))
    ∙ ap (λ (rs : List Response). record (exchange (turned l)) { accepted = accepted (l.near_deeds ++ ds); replied = rs }) (sym (flat_map-append replied_by l.near_deeds ds))

-- what is heard is neither issued nor replied
pub none_issued : (h : Heard) → issued (heard_deeds h) ≡ []
none_issued heard.Nothing = refl
none_issued (heard.Accepted w) = refl
none_issued (heard.Returned thread r) = refl
none_issued (heard.TooLate xs) = refl
none_issued (heard.Unreadable xs) = refl

pub none_replied : (h : Heard) → replied (heard_deeds h) ≡ []
none_replied heard.Nothing = refl
none_replied (heard.Accepted w) = refl
none_replied (heard.Returned thread r) = refl
none_replied (heard.TooLate xs) = refl
none_replied (heard.Unreadable xs) = refl

module _ (version : ℕ) where
  -- ---- what happens at an end

  pub keeps_lives : (l : Link) (j : Kept) (ds : List Deed) → Keeps version l.near j ds → Lives version l → Lives version (record l { near = j; near_deeds = l.near_deeds ++ ds })
  keeps_lives l j ds keeps lives = record {
    uncut = lives.uncut;
    near =
        subst (λ (x : Exchange). IsExchange version (asking j) (serving l.far) (forth_in l.there ++ forth_in j.queue) (back_in l.here ++ back_in l.far.queue) x) (asks_with l j l.here l.there l.cut ds)
        (keeps.asks (serving l.far) (forth_in l.there) (back_in l.here ++ back_in l.far.queue) (exchange l) lives.near);
    far =
        subst (λ (x : Exchange). IsExchange version (asking l.far) (serving j) (forth_in l.here ++ forth_in l.far.queue) (back_in l.there ++ back_in j.queue) x) (serves_with l j l.here l.there l.cut ds)
        (keeps.serves (asking l.far) (forth_in l.here ++ forth_in l.far.queue) (back_in l.there) (exchange (turned l)) lives.far);
  }

  pub happens_lives : (l : Link) (h : Happening) → MayHappen h l.near → Lives version l → Lives version (happened version h l)
  happens_lives l h may lives = keeps_lives l (after version h l.near) (deeds_of version h l.near) (happening_keeps version h l.near lives.near.at.asker_lives may) lives

  pub moves_lives : (l : Link) → MayMove l → Lives version l → Lives version (record l { near = fresh })
  moves_lives l may lives =
      subst (λ (ds : List Deed). Lives version (record l { near = fresh; near_deeds = ds })) (append-nil l.near_deeds)
      (keeps_lives l fresh [] (move_keeps version l.near may.rests may.whole lives.near.at.asker_lives) lives)

  -- ---- sends

  sent_lives : (l : Link) (m : Message) (rest : List Message) (j : Kept) → asking j ≡ asking l.near → serving j ≡ serving l.near → j.queue ≡ rest → l.near.queue ≡ m ∷ rest → Lives version l →
      Lives version (record l { near = j; there = l.there ++ m ∷ [] })
  sent_lives l m rest j asks serves left queue lives = record {
    uncut = lives.uncut;
    near =
        subst (λ (ms : List Message). IsExchange version (asking j) (serving l.far) ms (back_in l.here ++ back_in l.far.queue) (exchange l))
        (ap (λ (q : List Message). forth_in l.there ++ forth_in q) queue ∙ sym (forth_sent l.there m rest) ∙ ap (λ (q : List Message). forth_in (l.there ++ m ∷ []) ++ forth_in q) (sym left))
        (subst (λ (a : Asking). IsExchange version a (serving l.far) (forth_in l.there ++ forth_in l.near.queue) (back_in l.here ++ back_in l.far.queue) (exchange l)) (sym asks) lives.near);
    far =
        subst (λ (ms : List Message). IsExchange version (asking l.far) (serving j) (forth_in l.here ++ forth_in l.far.queue) ms (exchange (turned l)))
        (ap (λ (q : List Message). back_in l.there ++ back_in q) queue ∙ sym (back_sent l.there m rest) ∙ ap (λ (q : List Message). back_in (l.there ++ m ∷ []) ++ back_in q) (sym left))
        (subst (λ (s : Serving). IsExchange version (asking l.far) s (forth_in l.here ++ forth_in l.far.queue) (back_in l.there ++ back_in l.near.queue) (exchange (turned l))) (sym serves) lives.far);
  }

  sent_asks : (k : Kept) → asking (sent k) ≡ asking k
  unfolding sent
  sent_asks k = refl

  sent_serves : (k : Kept) → serving (sent k) ≡ serving k
  unfolding sent
  sent_serves k = refl

  sent_queue : (k : Kept) → (sent k).queue ≡ tail k.queue
  unfolding sent
  sent_queue k = refl

  pub sends_lives : (l : Link) (m : Message) (rest : List Message) → l.near.queue ≡ m ∷ rest → Lives version l → Lives version (sent_off version m l)
  sends_lives l m rest queue lives =
      let near : IsExchange version (asking l.near) (serving l.far) (forth_in l.there ++ forth_in (m ∷ rest)) (back_in l.here ++ back_in l.far.queue) (exchange l) =
      subst (λ (q : List Message). IsExchange version (asking l.near) (serving l.far) (forth_in l.there ++ forth_in q) (back_in l.here ++ back_in l.far.queue) (exchange l)) queue lives.near in
      let far : IsExchange version (asking l.far) (serving l.near) (forth_in l.here ++ forth_in l.far.queue) (back_in l.there ++ back_in (m ∷ rest)) (exchange (turned l)) =
      subst (λ (q : List Message). IsExchange version (asking l.far) (serving l.near) (forth_in l.here ++ forth_in l.far.queue) (back_in l.there ++ back_in q) (exchange (turned l))) queue lives.far in
      let all : enclosing version m ≡ m =
      encloses_all version m
      (sends_short version (asking l.near) (asking l.far) (serving l.far) (serving l.near) l.there rest m (forth_in l.here ++ forth_in l.far.queue) (back_in l.here ++ back_in l.far.queue) (exchange l) (exchange (turned l)) near far) in
      subst (λ (ms : List Message). Lives version (record l { near = sent l.near; there = ms }))
      (sym (ap (λ (b : Bool). if b then l.there else l.there ++ enclosing version m ∷ []) lives.uncut ∙ ap (λ (n : Message). l.there ++ n ∷ []) all))
      (sent_lives l m rest (sent l.near) (sent_asks l.near) (sent_serves l.near) (sent_queue l.near ∙ ap tail queue) queue lives)

  -- ---- messages

  -- a message that is read
  readable : (h : Heard) (l : Link) → ((xs : List EndId) → h ≡ heard.Unreadable xs → ⊥) → unless_unreadable h l ≡ l
  readable heard.Nothing l can = refl
  readable (heard.Accepted w) l can = refl
  readable (heard.Returned thread r) l can = refl
  readable (heard.TooLate xs) l can = refl
  readable (heard.Unreadable xs) l can = absurd (can xs refl)

  module _ (l : Link) (m : Message) (rest : List Message) (comes : l.here ≡ m ∷ rest) (lives : Lives version l) where
    abbrev after_it : Kept × Heard → Link
    after_it y = record l { near = y.0; here = rest; near_deeds = l.near_deeds ++ heard_deeds y.1 }

    -- it comes back to who asks
    back_lives : (y : Kept × Heard) → asks m.packet ≡ false → HearsBack version (serving l.far) (exchange l) (forth_in l.there) (back_in rest ++ back_in l.far.queue) l.near y → Lives version (after_it y)
    back_lives y other h = record {
      uncut = lives.uncut;
      near =
          subst (λ (x : Exchange). IsExchange version (asking y.0) (serving l.far) (forth_in l.there ++ forth_in y.0.queue) (back_in rest ++ back_in l.far.queue) x)
          (ap (λ (is : List Request). record (exchange l) { issued = is; returned = returned l.near_deeds ++ returned (heard_deeds y.1) })
          (sym (ap (λ (is : List Request). issued l.near_deeds ++ is) (none_issued y.1) ∙ append-nil (issued l.near_deeds)))
          ∙ asks_with l y.0 rest l.there l.cut (heard_deeds y.1))
          h.exchange;
      far =
          subst (λ (x : Exchange). IsExchange version (asking l.far) (serving y.0) (forth_in rest ++ forth_in l.far.queue) (back_in l.there ++ back_in y.0.queue) x)
          (serves_with l y.0 rest l.there l.cut (heard_deeds y.1))
          (serves_as_before version l.near y.0 (heard_deeds y.1) (asking l.far) (forth_in rest ++ forth_in l.far.queue) (back_in l.there) (exchange (turned l)) h.serves h.queue h.none_accepted (none_replied y.1)
          (subst (λ (ms : List Message). IsExchange version (asking l.far) (serving l.near) (ms ++ forth_in l.far.queue) (back_in l.there ++ back_in l.near.queue) (exchange (turned l)))
          (ap forth_in comes ∙ forth_other m rest other) lives.far));
    }

    -- it comes to who serves
    forth_lives : (y : Kept × Heard) → asks m.packet ≡ true → HearsForth version (asking l.far) (exchange (turned l)) (forth_in rest ++ forth_in l.far.queue) (back_in l.there) l.near y → Lives version (after_it y)
    forth_lives y own h = record {
      uncut = lives.uncut;
      near =
          subst (λ (x : Exchange). IsExchange version (asking y.0) (serving l.far) (forth_in l.there ++ forth_in y.0.queue) (back_in rest ++ back_in l.far.queue) x)
          (asks_with l y.0 rest l.there l.cut (heard_deeds y.1))
          (asks_as_before version l.near y.0 (heard_deeds y.1) (serving l.far) (forth_in l.there) (back_in rest ++ back_in l.far.queue) (exchange l) h.asks h.queue (none_issued y.1) h.none_returned
          (subst (λ (ms : List Message). IsExchange version (asking l.near) (serving l.far) (forth_in l.there ++ forth_in l.near.queue) (ms ++ back_in l.far.queue) (exchange l))
          (ap back_in comes ∙ back_other m rest own) lives.near));
      far =
          subst (λ (x : Exchange). IsExchange version (asking l.far) (serving y.0) (forth_in rest ++ forth_in l.far.queue) (back_in l.there ++ back_in y.0.queue) x)
          (ap (λ (rs : List Response). record (exchange (turned l)) { accepted = accepted l.near_deeds ++ accepted (heard_deeds y.1); replied = rs })
          (sym (ap (λ (rs : List Response). replied l.near_deeds ++ rs) (none_replied y.1) ∙ append-nil (replied l.near_deeds)))
          ∙ serves_with l y.0 rest l.there l.cut (heard_deeds y.1))
          h.exchange;
    }

    -- it lives on, or the message can't be read
    pub hears_lives : (room : Bool) → Lives version (heard_on version room m rest l) ⊎ IsMistyped version (serving l.far) (exchange l) (forth_in l.there) (back_in rest ++ back_in l.far.queue) m l.near (hears version room m.packet m.ends l.near)
    hears_lives room = by_packet (asks m.packet) refl
      where
        read_so : (y : Kept × Heard) → ((xs : List EndId) → y.1 ≡ heard.Unreadable xs → ⊥) → Lives version (after_it y) → Lives version (comes_of y rest l)
        read_so y can so = subst (λ (n : Link). Lives version n) (sym (readable y.1 (after_it y) can)) so

        back_so : asks m.packet ≡ false → HearsIt version (serving l.far) (exchange l) (forth_in l.there) (back_in rest ++ back_in l.far.queue) m l.near (hears version room m.packet m.ends l.near) →
            Lives version (heard_on version room m rest l) ⊎ IsMistyped version (serving l.far) (exchange l) (forth_in l.there) (back_in rest ++ back_in l.far.queue) m l.near (hears version room m.packet m.ends l.near)
        back_so other it =
            ⊎_elim
            (λ (h : HearsBack version (serving l.far) (exchange l) (forth_in l.there) (back_in rest ++ back_in l.far.queue) l.near (hears version room m.packet m.ends l.near)).
            inl (read_so (hears version room m.packet m.ends l.near) h.read (back_lives (hears version room m.packet m.ends l.near) other h)))
            (λ (u : IsMistyped version (serving l.far) (exchange l) (forth_in l.there) (back_in rest ++ back_in l.far.queue) m l.near (hears version room m.packet m.ends l.near)). inr u)
            it

        by_packet : (b : Bool) → asks m.packet ≡ b → Lives version (heard_on version room m rest l) ⊎ IsMistyped version (serving l.far) (exchange l) (forth_in l.there) (back_in rest ++ back_in l.far.queue) m l.near (hears version room m.packet m.ends l.near)
        by_packet false e =
            let near : IsExchange version (asking l.near) (serving l.far) (forth_in l.there ++ forth_in l.near.queue) (m ∷ (back_in rest ++ back_in l.far.queue)) (exchange l) =
            subst (λ (ms : List Message). IsExchange version (asking l.near) (serving l.far) (forth_in l.there ++ forth_in l.near.queue) (ms ++ back_in l.far.queue) (exchange l)) (ap back_in comes ∙ back_first m rest e) lives.near in
            back_so e (hears_back version room l.near (serving l.far) (exchange l) (forth_in l.there) (back_in rest ++ back_in l.far.queue) m near.phase near.at)
        by_packet true e =
            let far : IsExchange version (asking l.far) (serving l.near) (m ∷ (forth_in rest ++ forth_in l.far.queue)) (back_in l.there ++ back_in l.near.queue) (exchange (turned l)) =
            subst (λ (ms : List Message). IsExchange version (asking l.far) (serving l.near) (ms ++ forth_in l.far.queue) (back_in l.there ++ back_in l.near.queue) (exchange (turned l))) (ap forth_in comes ∙ forth_first m rest e) lives.far in
            let h = hears_forth version room l.near (asking l.far) (exchange (turned l)) (forth_in rest ++ forth_in l.far.queue) (back_in l.there) m far.phase far.at in
            inl (read_so (hears version room m.packet m.ends l.near) h.read (forth_lives (hears version room m.packet m.ends l.near) e h))
