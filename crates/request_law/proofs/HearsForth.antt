-- Where a link lives, a message that comes to who serves is what the phase says, and another phase comes of it.
use Rattle.std.proofs.Common.{◌≡◌, ℕ, ◌+◌, ◌≤◌, Bool, true, false, ◌&&◌, List, [], ◌∷◌, ◌++◌, length, take, drop, Option, Some, None, is_none, if◌then◌else◌, refl, sym, ap, subst, ◌∙◌, append-nil, eq-eqb}
use Rattle.std.proofs.Common.{arith}
use Rattle.std.specs.Prelude.{◌==◌}
use Rattle.charlotte_calls.specs.declared.names.EndId.{EndId}
use Rattle.lynx_packets.specs.declared.packet.RtPacket.TheVariants as packets
use Rattle.end_protocol.specs.declared.hearing.Heard.{Heard}
use Rattle.end_protocol.specs.declared.hearing.Heard.TheVariants as heard
use Rattle.end_protocol.specs.declared.kept.Kept.{Kept}
use Rattle.end_protocol.specs.declared.kept.Taker.{Taker}
use Rattle.end_protocol.specs.declared.kept.Wanted.{Wanted as Coming'}
use Rattle.end_protocol.specs.declared.messages.Connect.{Connect}
use Rattle.end_protocol.specs.declared.messages.Message.{Message}
use Rattle.end_protocol.specs.Deeds.{heard_deeds}
use Rattle.end_protocol.specs.Hearing.{accepted as takes, forbade, hears, is_next_of_request, is_whole, let_come, request_for, request_further, retry_of, silently}
use Rattle.end_protocol.specs.Kept.{queued}
use Rattle.end_protocol.specs.Messages.{encs, most_of, request_of}
use Rattle.end_protocol.specs.Wanting.{is_needed, taker}
use Rattle.request_meaning.specs.Requests.{Request, accepted, returned}
use Rattle.request_meaning.specs.Views.{Asking, asking, back_in, forth_in, serving}
use Rattle.request_meaning.specs.Phases.{Asked, Coming, Exchange, Forbidden, IsAt, IsExchange, LetCome, Owed, Phase, Retried, forbid, goahead, part, retry}
use Rattle.request_law.proofs.Asking.{same_first}
use Rattle.request_law.proofs.Serving.{request_accepted, request_forbidden, request_grows, request_retried, request_wanted, request_whole}
use Rattle.request_law.proofs.Reading.{OneTravels, all_travel, both_true, hears_right, none_left, some_left, travelling}
use Rattle.request_law.proofs.HearsBack.{queued_forth, queued_back}
use Rattle.request_law.proofs.HearsReply.{all_there, too_few}

module _ (version : ℕ) (a : Asking) (x : Exchange) (F B : List Message) where
  -- Heard at this end, it leaves this kept, and this was heard: the requests that are served here are in some phase, and of those that are
  -- asked here nothing changed
  pub record HearsForth (k : Kept) (y : Kept × Heard) : Type 0 where
    pub exchange : IsExchange version a (serving y.0) F (B ++ back_in y.0.queue) (record x { accepted = x.accepted ++ accepted (heard_deeds y.1) })
    pub asks : asking y.0 ≡ asking k
    pub queue : forth_in y.0.queue ≡ forth_in k.queue
    pub none_returned : returned (heard_deeds y.1) ≡ []
    pub read : (xs : List EndId) → y.1 ≡ heard.Unreadable xs → ⊥

module _ (version : ℕ) (room : Bool) (k : Kept) (a : Asking) (x : Exchange) (F B : List Message) where
  abbrev Hears : Kept × Heard → Type 0
  Hears y = HearsForth version a x F B k y

  silent : (p : Phase) (j : Kept) → IsAt version p a (serving j) F (B ++ back_in j.queue) x → asking j ≡ asking k → forth_in j.queue ≡ forth_in k.queue → Hears (silently j)
  silent p j at asks queue = record {
    exchange = record { phase = p; at = subst (λ (y : Exchange). IsAt version p a (serving j) F (B ++ back_in j.queue) y) (ap (λ (l : List Request). record x { accepted = l }) (sym (append-nil x.accepted))) at };
    asks = asks;
    queue = queue;
    none_returned = refl;
    read = λ xs e. let no : heard.Nothing ≡ heard.Unreadable xs = e in absurd cc;
  }

  accepts : (p : Phase) (w : Coming') (j : Kept) → IsAt version p a (serving j) F (B ++ back_in j.queue) (record x { accepted = x.accepted ++ record { number = w.number; signature = w.signature; values = w.values; ends = w.ends } ∷ [] }) →
      asking j ≡ asking k → forth_in j.queue ≡ forth_in k.queue → Hears (j, heard.Accepted w)
  accepts p w j at asks queue = record {
    exchange = record { phase = p; at = at };
    asks = asks;
    queue = queue;
    none_returned = refl;
    read = λ xs e. let no : heard.Accepted w ≡ heard.Unreadable xs = e in absurd cc;
  }

  -- one packet more is queued
  at_queue : (p : Phase) (j : Kept) (n : Message) → back_in (n ∷ []) ≡ n ∷ [] → IsAt version p a (serving j) F ((B ++ back_in k.queue) ++ n ∷ []) x → IsAt version p a (serving j) F (B ++ back_in (k.queue ++ n ∷ [])) x
  at_queue p j n own at =
      subst (λ (l : List Message). IsAt version p a (serving j) F l x) (sym (queued_back B k.queue (n ∷ []) ∙ ap (λ (l : List Message). (B ++ back_in k.queue) ++ l) own)) at

  not_forth : (n : Message) → forth_in (n ∷ []) ≡ [] → forth_in (k.queue ++ n ∷ []) ≡ forth_in k.queue
  not_forth n none = queued_forth [] k.queue (n ∷ []) ∙ ap (λ (l : List Message). forth_in k.queue ++ l) none ∙ append-nil (forth_in k.queue)

  -- ---- a request

  abbrev travel : Connect → List EndId
  travel c = take (most_of version) c.ends

  module _ (c : Connect) (m : Message) (at : IsAt version (Asked c) a (serving k) (m ∷ F) (B ++ back_in k.queue) x) where
    forbids : Hears (silently (forbade c.number c.signature (travel c) k))
    unfolding forbade
    forbids =
        silent (Forbidden c false) (forbade c.number c.signature (travel c) k)
        (at_queue (Forbidden c false) (forbade c.number c.signature (travel c) k) (forbid c.number (travel c)) refl
        (request_forbidden version a (serving k) x c m F (B ++ back_in k.queue) at))
        refl (not_forth (forbid c.number (travel c)) refl)

    retries : Hears (silently (queued (retry_of c.number (travel c) ∷ []) k))
    unfolding queued
    retries =
        silent (Retried c) (queued (retry_of c.number (travel c) ∷ []) k)
        (at_queue (Retried c) (queued (retry_of c.number (travel c) ∷ []) k) (retry c.number (travel c)) refl
        (request_retried version a (serving k) x c m F (B ++ back_in k.queue) at))
        refl (not_forth (retry c.number (travel c)) refl)

    sends_back : (needed : Bool) → Hears (silently (if needed then forbade c.number c.signature (travel c) k else queued (retry_of c.number (travel c) ∷ []) k))
    sends_back true = forbids
    sends_back false = retries

    accepts_now : (t : Taker) → drop (most_of version) c.ends ≡ [] → Hears (takes (part c t (travel c)) k, heard.Accepted (part c t (travel c)))
    unfolding takes
    accepts_now t none =
        subst (λ (xs : List EndId). Hears (takes (part c t xs) k, heard.Accepted (part c t xs))) (sym (all_travel version c.ends none))
        (accepts (Owed c) (part c t c.ends) (takes (part c t c.ends) k) (request_accepted version a (serving k) x c m F (B ++ back_in k.queue) none at) refl refl)

    lets_come : (t : Taker) → OneTravels version c.ends → Hears (silently (let_come (part c t (travel c)) k))
    unfolding let_come
    lets_come t one =
        let two : 2 ≤ length c.ends = (let n : length c.ends ≡ length (one.first ∷ one.second ∷ one.others) = ap length one.are in omega arith) in
        silent (LetCome c t) (let_come (part c t (travel c)) k)
        (at_queue (LetCome c t) (let_come (part c t (travel c)) k) (goahead c.number) refl
        (request_wanted version a (serving k) x c t m F (B ++ back_in k.queue) one.first_version two at))
        refl (not_forth (goahead c.number) refl)

    is_wanted : (t : Taker) (whole : Bool) → is_whole c.values (travel c) ≡ whole → Hears (if whole then (takes (part c t (travel c)) k, heard.Accepted (part c t (travel c))) else silently (let_come (part c t (travel c)) k))
    is_wanted t true whole = accepts_now t (none_left version c.values c.ends at.so whole)
    is_wanted t false whole = lets_come t (some_left version c.values c.ends at.so whole)

    for_taker : (o : Option Taker) → Hears (request_for o room c.number c.signature c.values (travel c) k)
    for_taker None = sends_back (is_needed room k)
    for_taker (Some t) = is_wanted t (is_whole c.values (travel c)) refl

    pub hears_request : Hears (hears version room m.packet m.ends k)
    hears_request =
        let is : m ≡ request_of version c = same_first m (request_of version c) F [] at.forth_is in
        let free : (is_none k.owed && is_none k.request) ≡ true = both_true (is_none k.owed) (is_none k.request) (ap (λ (o : Option ℕ). is_none o) at.owed) (ap (λ (o : Option Coming'). is_none o) at.request) in
        subst Hears
        (sym
        (ap (λ (l : Message). hears version room l.packet l.ends k) is
        ∙ hears_right version room (packets.Request c.number c.signature c.values) (travel c) k at.server_lives free (travelling version c.values c.ends at.so)))
        (for_taker (taker room c.signature k))

  -- ---- a further end of a request

  module _ (c : Connect) (by : Taker) (came : List EndId) (e : EndId) where
    abbrev grown : Coming'
    grown = part c by (came ++ e ∷ [])

    whole_now : (m : Message) → IsAt version (Coming c by came e []) a (serving k) (m ∷ F) (B ++ back_in k.queue) x → Hears (takes grown k, heard.Accepted grown)
    unfolding takes
    whole_now m at =
        subst (λ (xs : List EndId). Hears (takes (part c by xs) k, heard.Accepted (part c by xs))) (sym at.so.1)
        (accepts (Owed c) (part c by c.ends) (takes (part c by c.ends) k) (request_whole version a (serving k) x c by came e m F (B ++ back_in k.queue) at) refl refl)

    comes_on : (others : List EndId) (m : Message) (whole : Bool) → is_whole c.values (came ++ e ∷ []) ≡ whole → IsAt version (Coming c by came e others) a (serving k) (m ∷ F) (B ++ back_in k.queue) x →
        Hears (if whole then (takes grown k, heard.Accepted grown) else silently (record k { request = Some grown }))
    comes_on [] m true whole at = whole_now m at
    comes_on (y ∷ ys) m true whole at = absurd (too_few version c.values c.ends came e y ys at.so.0 at.so.1 whole)
    comes_on [] m false part at = absurd (all_there version c.values c.ends came e at.so.0 at.so.1 part)
    comes_on (y ∷ ys) m false part at =
        silent (Coming c by (came ++ e ∷ []) y ys) (record k { request = Some grown }) (request_grows version a (serving k) x c by came e y ys m F (B ++ back_in k.queue) at) refl refl

    pub hears_request_enc : (others : List EndId) (m : Message) → IsAt version (Coming c by came e others) a (serving k) (m ∷ F) (B ++ back_in k.queue) x → Hears (hears version room m.packet m.ends k)
    hears_request_enc others m at =
        let n : ℕ = c.number in
        let i : ℕ = length came + 1 in
        let request : k.request ≡ Some (part c by came) = at.request in
        let is : m ≡ record { packet = packets.Enc 1 n i; ends = e ∷ [] } = same_first m (record { packet = packets.Enc 1 n i; ends = e ∷ [] }) F (encs 1 n (i + 1) others) at.forth_is in
        let next : is_next_of_request n i k.request ≡ true = ap (is_next_of_request n i) request ∙ both_true (n == n) (i == i) (eq-eqb n n refl) (eq-eqb i i refl) in
        subst Hears
        (sym
        (ap (λ (l : Message). hears version room l.packet l.ends k) is
        ∙ hears_right version room (packets.Enc 1 n i) (e ∷ []) k at.server_lives next refl
        ∙ ap (λ (o : Option Coming'). request_further o (e ∷ []) k) request))
        (comes_on others m (is_whole c.values (came ++ e ∷ [])) refl at)
