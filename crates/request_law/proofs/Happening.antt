-- Where a link lives, what threads do at an end, and answers and reports without a message.
use Rattle.std.proofs.Common.{◌≡◌, ℕ, Bool, true, false, ◌&&◌, not, List, [], ◌∷◌, ◌++◌, take, drop, Option, Some, None, is_some, if◌then◌else◌, refl, sym, ap, subst, ◌∙◌, append-nil, eqb-true}
use Rattle.lynx_packets.specs.declared.packet.RtPacket.TheVariants as packets
use Rattle.end_protocol.specs.declared.kept.Binding.{Binding}
use Rattle.end_protocol.specs.declared.kept.Forbade.{Forbade}
use Rattle.end_protocol.specs.declared.kept.Kept.{Kept}
use Rattle.end_protocol.specs.declared.kept.Response.{Response}
use Rattle.end_protocol.specs.declared.messages.Connect.{Connect}
use Rattle.end_protocol.specs.declared.messages.Message.{Message}
use Rattle.end_protocol.specs.Asking.{asked, binds, connected, is_bound, is_owed, later, lined_up, replied as answered, replies}
use Rattle.end_protocol.specs.Deeds.{Deed, issued_deeds, replied_deeds}
use Rattle.end_protocol.specs.Deeds as deeds
use Rattle.end_protocol.specs.Going.{allows, is_allow_due, settled, settled_with}
use Rattle.end_protocol.specs.Happenings.{Accepts, Binds, CancelLate, Connects, Dies, Happening, Hears, ReceiveOver, Receives, Replies, SendOver, Sends, Settles, Unbinds, after, deeds_of}
use Rattle.end_protocol.specs.Messages.{left_of, most_of, request_of}
use Rattle.request_meaning.specs.Requests.{Request, accepted, issued, replied, returned}
use Rattle.request_meaning.specs.Views.{Asking, Serving, asking, back_in, forth_in, serving}
use Rattle.request_meaning.specs.Phases.{Asked, Barred, Coming, Exchange, Forbidden, HasLinks, IsAt, IsExchange, LetCome, Owed, Phase, Quiet, Replied, Retried, Returning, allow, connect_with, forbidden, request_in}
use Rattle.request_meaning.specs.Links.{MayHappen}
use Rattle.request_law.proofs.Asking.{connects_behind, connects_first}
use Rattle.request_law.proofs.Serving.{allowed_early, allowed_late, replied_to}
use Rattle.request_law.proofs.Reading.{that_if, this_if}
use Rattle.request_law.proofs.HearsBack.{encs_back, encs_not_forth, queued_back, queued_forth}

abbrev pub asks_more : List Deed → Exchange → Exchange
asks_more ds x = record x { issued = x.issued ++ issued ds; returned = x.returned ++ returned ds }

abbrev pub serves_more : List Deed → Exchange → Exchange
serves_more ds x = record x { accepted = x.accepted ++ accepted ds; replied = x.replied ++ replied ds }

-- what is kept for an end becomes this, with these deeds: the requests that are asked there are in some phase, and so are those that are
-- served there
pub record Keeps (version : ℕ) (k j : Kept) (ds : List Deed) : Type 0 where
  pub asks : (s : Serving) (F B : List Message) (x : Exchange) → IsExchange version (asking k) s (F ++ forth_in k.queue) B x → IsExchange version (asking j) s (F ++ forth_in j.queue) B (asks_more ds x)
  pub serves : (a : Asking) (F B : List Message) (x : Exchange) → IsExchange version a (serving k) F (B ++ back_in k.queue) x → IsExchange version a (serving j) F (B ++ back_in j.queue) (serves_more ds x)

-- ---- where nothing changes

asks_none : (x : Exchange) (is : List Request) (rs : List Response) → is ≡ [] → rs ≡ [] → x ≡ record x { issued = x.issued ++ is; returned = x.returned ++ rs }
asks_none x is rs e f =
    ap (λ (l : List Request). record x { issued = l }) (sym (append-nil x.issued)) ∙ ap (λ (l : List Response). record x { issued = x.issued ++ []; returned = l }) (sym (append-nil x.returned))
    ∙ ap (λ (l : List Request). record x { issued = x.issued ++ l; returned = x.returned ++ [] }) (sym e) ∙ ap (λ (l : List Response). record x { issued = x.issued ++ is; returned = x.returned ++ l }) (sym f)

serves_none : (x : Exchange) (is : List Request) (rs : List Response) → is ≡ [] → rs ≡ [] → x ≡ record x { accepted = x.accepted ++ is; replied = x.replied ++ rs }
serves_none x is rs e f =
    ap (λ (l : List Request). record x { accepted = l }) (sym (append-nil x.accepted)) ∙ ap (λ (l : List Response). record x { accepted = x.accepted ++ []; replied = l }) (sym (append-nil x.replied))
    ∙ ap (λ (l : List Request). record x { accepted = x.accepted ++ l; replied = x.replied ++ [] }) (sym e) ∙ ap (λ (l : List Response). record x { accepted = x.accepted ++ is; replied = x.replied ++ l }) (sym f)

module _ (version : ℕ) where
  pub asks_as_before : (k j : Kept) (ds : List Deed) (s : Serving) (F B : List Message) (x : Exchange) → asking j ≡ asking k → forth_in j.queue ≡ forth_in k.queue → issued ds ≡ [] → returned ds ≡ [] →
      IsExchange version (asking k) s (F ++ forth_in k.queue) B x → IsExchange version (asking j) s (F ++ forth_in j.queue) B (asks_more ds x)
  asks_as_before k j ds s F B x same queue e f at =
      subst (λ (y : Exchange). IsExchange version (asking j) s (F ++ forth_in j.queue) B y) (asks_none x (issued ds) (returned ds) e f)
      (subst (λ (l : List Message). IsExchange version (asking j) s (F ++ l) B x) (sym queue)
      (subst (λ (a : Asking). IsExchange version a s (F ++ forth_in k.queue) B x) (sym same) at))

  pub serves_as_before : (k j : Kept) (ds : List Deed) (a : Asking) (F B : List Message) (x : Exchange) → serving j ≡ serving k → back_in j.queue ≡ back_in k.queue → accepted ds ≡ [] → replied ds ≡ [] →
      IsExchange version a (serving k) F (B ++ back_in k.queue) x → IsExchange version a (serving j) F (B ++ back_in j.queue) (serves_more ds x)
  serves_as_before k j ds a F B x same queue e f at =
      subst (λ (y : Exchange). IsExchange version a (serving j) F (B ++ back_in j.queue) y) (serves_none x (accepted ds) (replied ds) e f)
      (subst (λ (l : List Message). IsExchange version a (serving j) F (B ++ l) x) (sym queue)
      (subst (λ (s : Serving). IsExchange version a s F (B ++ back_in k.queue) x) (sym same) at))

  -- only what does not count here is another
  aside : (k j : Kept) → asking j ≡ asking k → serving j ≡ serving k → j.queue ≡ k.queue → Keeps version k j []
  aside k j asks serves queue = record {
    asks = λ s F B x at. asks_as_before k j [] s F B x asks (ap forth_in queue) refl refl at;
    serves = λ a F B x at. serves_as_before k j [] a F B x serves (ap back_in queue) refl refl at;
  }

  -- ---- connects

  -- with no request outstanding the phase is this
  pub quiet_only : (p : Phase) (a : Asking) (s : Serving) (F B : List Message) (x : Exchange) → a.outstanding ≡ None → IsAt version p a s F B x → IsAt version Quiet a s F B x
  quiet_only Quiet a s F B x none at = at
  quiet_only (Asked c) a s F B x none at = let no : Some (left_of version c) ≡ None = sym at.outstanding ∙ none in absurd cc
  quiet_only (Retried c) a s F B x none at = let no : Some (left_of version c) ≡ None = sym at.outstanding ∙ none in absurd cc
  quiet_only (Forbidden c b) a s F B x none at = let no : Some (left_of version c) ≡ None = sym at.outstanding ∙ none in absurd cc
  quiet_only (Barred c b) a s F B x none at = let no : Some c ≡ None = sym at.outstanding ∙ none in absurd cc
  quiet_only (LetCome c by) a s F B x none at = let no : Some (left_of version c) ≡ None = sym at.outstanding ∙ none in absurd cc
  quiet_only (Coming c by came e es) a s F B x none at = let no : Some (connect_with [] c) ≡ None = sym at.outstanding ∙ none in absurd cc
  quiet_only (Owed c) a s F B x none at = let no : Some (connect_with [] c) ≡ None = sym at.outstanding ∙ none in absurd cc
  quiet_only (Replied c r) a s F B x none at = let no : Some (connect_with [] c) ≡ None = sym at.outstanding ∙ none in absurd cc
  quiet_only (Returning c r came e es) a s F B x none at = let no : Some (connect_with [] c) ≡ None = sym at.outstanding ∙ none in absurd cc

  module _ (d : Connect) (k : Kept) (links : HasLinks d.values d.ends) where
    abbrev c : Connect
    c = record d { number = later k.last }

    abbrev k' : Kept
    k' = record k { last = later k.last }

    issued_one : (x : Exchange) → record x { issued = x.issued ++ request_in c ∷ [] } ≡ asks_more (issued_deeds d k) x
    issued_one x = ap (λ (l : List Response). record x { issued = x.issued ++ request_in c ∷ []; returned = l }) (sym (append-nil x.returned))

    first_asks : (s : Serving) (F B : List Message) (x : Exchange) → k.outstanding ≡ None → IsExchange version (asking k) s (F ++ forth_in k.queue) B x → IsExchange version (asking (asked version c k')) s (F ++ forth_in (asked version c k').queue) B (asks_more (issued_deeds d k) x)
    unfolding asked
    first_asks s F B x none at = record {
      phase = Asked c;
      at =
          subst (λ (y : Exchange). IsAt version (Asked c) (asking (asked version c k')) s (F ++ forth_in (asked version c k').queue) B y) (issued_one x)
          (subst (λ (l : List Message). IsAt version (Asked c) (asking (asked version c k')) s l B (record x { issued = x.issued ++ request_in c ∷ [] })) (sym (queued_forth F k.queue (request_of version c ∷ [])))
          (connects_first version (asking k) s x c (F ++ forth_in k.queue) B links (quiet_only at.phase (asking k) s (F ++ forth_in k.queue) B x none at.at)));
    }

    first_serves : serving (asked version c k') ≡ serving k
    unfolding asked
    first_serves = refl

    first_queue : back_in (asked version c k').queue ≡ back_in k.queue
    unfolding asked
    first_queue = queued_back [] k.queue (request_of version c ∷ []) ∙ append-nil (back_in k.queue)

    first_connects : k.outstanding ≡ None → Keeps version k (asked version c k') (issued_deeds d k)
    first_connects none = record {
      asks = λ s F B x at. first_asks s F B x none at;
      serves = λ a F B x at. serves_as_before k (asked version c k') (issued_deeds d k) a F B x first_serves first_queue refl refl at;
    }

    later_connects : (first : Connect) → k.outstanding ≡ Some first → Keeps version k (record k' { behind = k.behind ++ c ∷ [] }) (issued_deeds d k)
    later_connects first there = record {
      asks = λ s F B x at. record {
        phase = at.phase;
        at = subst (λ (y : Exchange). IsAt version at.phase (record (asking k) { behind = k.behind ++ c ∷ [] }) s (F ++ forth_in k.queue) B y) (issued_one x)
            (connects_behind version at.phase (asking k) s x c first (F ++ forth_in k.queue) B links there at.at);
      };
      serves = λ a F B x at. serves_as_before k (record k' { behind = k.behind ++ c ∷ [] }) (issued_deeds d k) a F B x refl refl refl refl at;
    }

    pub connect_keeps : Keeps version k (connected version d k) (issued_deeds d k)
    unfolding lined_up
    connect_keeps = by_outstanding k.outstanding refl
      where
        by_outstanding : (o : Option Connect) → k.outstanding ≡ o → Keeps version k (if is_some k.outstanding then record k' { behind = k.behind ++ c ∷ [] } else asked version c k') (issued_deeds d k)
        by_outstanding None e =
            subst (λ (j : Kept). Keeps version k j (issued_deeds d k)) (sym (that_if (is_some k.outstanding) (record k' { behind = k.behind ++ c ∷ [] }) (asked version c k') (ap (λ (o : Option Connect). is_some o) e))) (first_connects e)
        by_outstanding (Some first) e =
            subst (λ (j : Kept). Keeps version k j (issued_deeds d k)) (sym (this_if (is_some k.outstanding) (record k' { behind = k.behind ++ c ∷ [] }) (asked version c k') (ap (λ (o : Option Connect). is_some o) e))) (later_connects first e)

  -- ---- replies

  pub record IsOwing (n : ℕ) (a : Asking) (s : Serving) (F B : List Message) (x : Exchange) : Type 0 where
    pub connect : Connect
    pub number : n ≡ connect.number
    pub at : IsAt version (Owed connect) a s F B x

  -- where a number is owed the phase is this
  none_owed : (n : ℕ) (o : Option ℕ) → o ≡ None → is_owed n o ≡ true → ⊥
  none_owed n o none is = let no : false ≡ true = sym (ap (is_owed n) none) ∙ is in cc

  pub owed_only : (p : Phase) (n : ℕ) (a : Asking) (s : Serving) (F B : List Message) (x : Exchange) → is_owed n s.owed ≡ true → IsAt version p a s F B x → IsOwing n a s F B x
  owed_only (Owed c) n a s F B x is at = record { connect = c; number = sym (eqb-true c.number n (sym (ap (is_owed n) at.owed) ∙ is)); at = at }
  owed_only Quiet n a s F B x is at = absurd (none_owed n s.owed at.owed is)
  owed_only (Asked c) n a s F B x is at = absurd (none_owed n s.owed at.owed is)
  owed_only (Retried c) n a s F B x is at = absurd (none_owed n s.owed at.owed is)
  owed_only (Forbidden c b) n a s F B x is at = absurd (none_owed n s.owed at.owed is)
  owed_only (Barred c b) n a s F B x is at = absurd (none_owed n s.owed at.owed is)
  owed_only (LetCome c by) n a s F B x is at = absurd (none_owed n s.owed at.owed is)
  owed_only (Coming c by came e es) n a s F B x is at = absurd (none_owed n s.owed at.owed is)
  owed_only (Replied c r) n a s F B x is at = absurd (none_owed n s.owed at.owed is)
  owed_only (Returning c r came e es) n a s F B x is at = absurd (none_owed n s.owed at.owed is)

  module _ (r : Response) (k : Kept) (links : HasLinks r.values r.ends) where
    replies_back : back_in (replies version r) ≡ replies version r
    replies_back =
        ap (λ (l : List Message). record { packet = packets.Reply r.number r.status r.values; ends = take (most_of version) r.ends } ∷ l)
        (encs_back r.number 2 (take 7 (drop (most_of version) r.ends)))

    replies_forth : forth_in (replies version r) ≡ []
    replies_forth = encs_not_forth r.number 2 (take 7 (drop (most_of version) r.ends))

    abbrev deed : List Deed
    deed = deeds.Replied r.number r.status r.values r.ends ∷ []

    abbrev j : Kept
    j = record k { owed = None; queue = k.queue ++ replies version r }

    replied_one : (x : Exchange) → record x { replied = x.replied ++ r ∷ [] } ≡ serves_more deed x
    replied_one x = ap (λ (l : List Request). record x { replied = x.replied ++ r ∷ []; accepted = l }) (sym (append-nil x.accepted))

    reply_serves : (a : Asking) (F B : List Message) (x : Exchange) → is_owed r.number k.owed ≡ true → IsExchange version a (serving k) F (B ++ back_in k.queue) x → IsExchange version a (serving j) F (B ++ back_in j.queue) (serves_more deed x)
    reply_serves a F B x is at =
        let owing : IsOwing r.number a (serving k) F (B ++ back_in k.queue) x = owed_only at.phase r.number a (serving k) F (B ++ back_in k.queue) x is at.at in
        let p : Phase = Replied owing.connect r in
        record {
          phase = p;
          at =
              subst (λ (y : Exchange). IsAt version p a (serving j) F (B ++ back_in j.queue) y) (replied_one x)
              (subst (λ (l : List Message). IsAt version p a (serving j) F l (record x { replied = x.replied ++ r ∷ [] }))
              (sym (queued_back B k.queue (replies version r) ∙ ap (λ (l : List Message). (B ++ back_in k.queue) ++ l) replies_back))
              (replied_to version a (serving k) x owing.connect r F (B ++ back_in k.queue) links owing.number owing.at));
        }

    owed_keeps : is_owed r.number k.owed ≡ true → Keeps version k j deed
    owed_keeps is = record {
      asks = λ s F B x at. asks_as_before k j deed s F B x refl (queued_forth [] k.queue (replies version r) ∙ ap (λ (l : List Message). forth_in k.queue ++ l) replies_forth ∙ append-nil (forth_in k.queue)) refl refl at;
      serves = λ a F B x at. reply_serves a F B x is at;
    }

    pub reply_keeps : k.dead ≡ false → Keeps version k (answered version r k) (replied_deeds r k)
    unfolding answered
    reply_keeps lives = by_owed (is_owed r.number k.owed) refl
      where
        by_owed : (b : Bool) → is_owed r.number k.owed ≡ b → Keeps version k (if not (is_owed r.number k.owed) then k else if k.dead then record k { owed = None } else j) (replied_deeds r k)
        by_owed true e =
            subst (λ (i : Kept). Keeps version k i (replied_deeds r k)) (sym (that_if (not (is_owed r.number k.owed)) k (if k.dead then record k { owed = None } else j) (ap not e) ∙ that_if k.dead (record k { owed = None }) j lives))
            (subst (λ (ds : List Deed). Keeps version k j ds) (sym (ap (λ (b : Bool). if b && not k.dead then deed else []) e ∙ ap (λ (b : Bool). if not b then deed else []) lives)) (owed_keeps e))
        by_owed false e =
            subst (λ (i : Kept). Keeps version k i (replied_deeds r k)) (sym (this_if (not (is_owed r.number k.owed)) k (if k.dead then record k { owed = None } else j) (ap not e)))
            (subst (λ (ds : List Deed). Keeps version k k ds) (sym (ap (λ (b : Bool). if b && not k.dead then deed else []) e)) (aside k k refl refl refl))

  -- ---- an allow

  forbade_none : (f : Forbade) (o : Option Forbade) → o ≡ Some f → o ≡ None → ⊥
  forbade_none f o is none = let no : Some f ≡ None = sym is ∙ none in cc

  forbade_number : (f : Forbade) (c : Connect) (o : Option Forbade) → o ≡ Some f → o ≡ forbidden c false → c.number ≡ f.number
  forbade_number f c o is so = let e : Some f ≡ Some (record { number = c.number; signature = c.signature }) = sym is ∙ so in cc

  module _ (f : Forbade) (k : Kept) (there : k.forbade ≡ Some f) where
    to_queue : (p : Phase) (a : Asking) (F B : List Message) (x : Exchange) (c : Connect) → c.number ≡ f.number → IsAt version p a (record (serving k) { forbade = None }) F ((B ++ back_in k.queue) ++ allow c.number ∷ []) x →
        IsExchange version a (serving (allows f.number k)) F (B ++ back_in (allows f.number k).queue) x
    unfolding allows
    to_queue p a F B x c number at = record {
      phase = p;
      at = subst (λ (l : List Message). IsAt version p a (record (serving k) { forbade = None }) F l x)
          (ap (λ (n : ℕ). (B ++ back_in k.queue) ++ allow n ∷ []) number ∙ sym (queued_back B k.queue (allow f.number ∷ []))) at;
    }

    allow_serves : (a : Asking) (F B : List Message) (x : Exchange) (p : Phase) → IsAt version p a (serving k) F (B ++ back_in k.queue) x → IsExchange version a (serving (allows f.number k)) F (B ++ back_in (allows f.number k).queue) x
    allow_serves a F B x (Forbidden c false) at = to_queue (Forbidden c true) a F B x c (forbade_number f c k.forbade there at.forbade) (allowed_early version a (serving k) x c F (B ++ back_in k.queue) at)
    allow_serves a F B x (Barred c false) at = to_queue (Barred c true) a F B x c (forbade_number f c k.forbade there at.forbade) (allowed_late version a (serving k) x c F (B ++ back_in k.queue) at)
    allow_serves a F B x (Forbidden c true) at = absurd (forbade_none f k.forbade there at.forbade)
    allow_serves a F B x (Barred c true) at = absurd (forbade_none f k.forbade there at.forbade)
    allow_serves a F B x Quiet at = absurd (forbade_none f k.forbade there at.forbade)
    allow_serves a F B x (Asked c) at = absurd (forbade_none f k.forbade there at.forbade)
    allow_serves a F B x (Retried c) at = absurd (forbade_none f k.forbade there at.forbade)
    allow_serves a F B x (LetCome c by) at = absurd (forbade_none f k.forbade there at.forbade)
    allow_serves a F B x (Coming c by came e es) at = absurd (forbade_none f k.forbade there at.forbade)
    allow_serves a F B x (Owed c) at = absurd (forbade_none f k.forbade there at.forbade)
    allow_serves a F B x (Replied c r) at = absurd (forbade_none f k.forbade there at.forbade)
    allow_serves a F B x (Returning c r came e es) at = absurd (forbade_none f k.forbade there at.forbade)

    allow_asks : asking (allows f.number k) ≡ asking k
    unfolding allows
    allow_asks = refl

    allow_queue : forth_in (allows f.number k).queue ≡ forth_in k.queue
    unfolding allows
    allow_queue = queued_forth [] k.queue (allow f.number ∷ []) ∙ append-nil (forth_in k.queue)

    allow_keeps : Keeps version k (allows f.number k) []
    allow_keeps = record {
      asks = λ s F B x at. asks_as_before k (allows f.number k) [] s F B x allow_asks allow_queue refl refl at;
      serves = λ a F B x at. subst (λ (y : Exchange). IsExchange version a (serving (allows f.number k)) F (B ++ back_in (allows f.number k).queue) y) (serves_none x [] [] refl refl) (allow_serves a F B x at.phase at.at);
    }

    due_keeps : (b : Bool) → Keeps version k (if b then allows f.number k else k) []
    due_keeps true = allow_keeps
    due_keeps false = aside k k refl refl refl

  pub settle_keeps : (room : Bool) (k : Kept) → Keeps version k (settled room k) []
  settle_keeps room k = by_forbade k.forbade refl
    where
      by_forbade : (o : Option Forbade) → k.forbade ≡ o → Keeps version k (settled_with o room k) []
      by_forbade None e = aside k k refl refl refl
      by_forbade (Some f) e = due_keeps f k e (is_allow_due room f k)

  -- ---- all that may happen

  bind_keeps : (b : Binding) (k : Kept) → Keeps version k (binds b k) []
  bind_keeps b k = by_bound (is_bound b.entry k)
    where
      by_bound : (is : Bool) → Keeps version k (if is then k else record k { bindings = k.bindings ++ b ∷ [] }) []
      by_bound true = aside k k refl refl refl
      by_bound false = aside k (record k { bindings = k.bindings ++ b ∷ [] }) refl refl refl

  pub happening_keeps : (h : Happening) (k : Kept) → k.dead ≡ false → MayHappen h k → Keeps version k (after version h k) (deeds_of version h k)
  happening_keeps (Connects c) k lives may = connect_keeps c k may.1
  happening_keeps (Accepts a) k lives may = aside k (after version (Accepts a) k) refl refl refl
  happening_keeps (Binds b) k lives may = bind_keeps b k
  happening_keeps (Unbinds entry) k lives may = aside k (after version (Unbinds entry) k) refl refl refl
  happening_keeps (Replies r) k lives may = reply_keeps r k may lives
  happening_keeps (Hears room packet xs) k lives may = absurd may
  happening_keeps (Settles room) k lives may = settle_keeps room k
  happening_keeps Sends k lives may = absurd may
  happening_keeps SendOver k lives may = aside k (after version SendOver k) refl refl refl
  happening_keeps Receives k lives may = aside k (after version Receives k) refl refl refl
  happening_keeps ReceiveOver k lives may = aside k (after version ReceiveOver k) refl refl refl
  happening_keeps CancelLate k lives may = aside k (after version CancelLate k) refl refl refl
  happening_keeps Dies k lives may = absurd may
