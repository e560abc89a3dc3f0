-- What may still come over a link that was cut, as more is done at its ends.
use Rattle.std.proofs.Common.{◌≡◌, ◌⊎◌, inl, inr, ⊎_elim, ℕ, Bool, true, false, ◌&&◌, not, List, [], ◌∷◌, ◌++◌, Option, Some, None, is_some, if◌then◌else◌, refl, sym, ap, subst, ◌∙◌, append-nil, eqb-true}
use mathlib.Core.List.{IsPrefix}
use Rattle.end_protocol.specs.declared.kept.Binding.{Binding}
use Rattle.end_protocol.specs.declared.kept.Forbade.{Forbade}
use Rattle.end_protocol.specs.declared.kept.Kept.{Kept}
use Rattle.end_protocol.specs.declared.kept.Response.{Response}
use Rattle.end_protocol.specs.declared.messages.Connect.{Connect}
use Rattle.end_protocol.specs.declared.messages.Message.{Message}
use Rattle.end_protocol.specs.Asking.{asked, binds, connected, is_bound, is_owed, later, lined_up, replied as answered, replies}
use Rattle.end_protocol.specs.Deeds.{Deed, issued_deeds, replied_deeds}
use Rattle.end_protocol.specs.Deeds as deeds
use Rattle.end_protocol.specs.Going.{allows, is_allow_due, settled, settled_with}
use Rattle.end_protocol.specs.Happenings.{Accepts, Binds, CancelLate, Connects, Dies, Happening, Hears, ReceiveOver, Receives, Replies, SendOver, Sends, Settles, Unbinds, after, deeds_of}
use Rattle.request_meaning.specs.Requests.{Request, accepted, issued, replied, reply_numbers, request_numbers, returned}
use Rattle.request_meaning.specs.Views.{Asking, Serving, asking, serving}
use Rattle.request_meaning.specs.Phases.{Exchange, owed_number}
use Rattle.request_meaning.specs.Links.{MayHappen}
use Rattle.request_meaning.specs.Invariant.{EndsCome, HearsNoReply, ReplyComes, ReplyEndsCome, RequestComes, ServesNoMore, ServesStill, WasAsked}
use Rattle.request_law.proofs.Lists.{front_in, front_more}
use Rattle.request_law.proofs.Reading.{that_if, this_if}
use Rattle.request_law.proofs.Serving.{replied_now}
use Rattle.request_law.proofs.Happening.{asks_more, serves_more}

abbrev pub Serves : ℕ → Serving → List Message → Exchange → Type 0
Serves version s F x = ServesNoMore s F x ⊎ ServesStill version s F x

abbrev pub Returns : ℕ → Asking → List Message → Exchange → Type 0
Returns version a B x = HearsNoReply a B ⊎ (ReplyComes version B x ⊎ ReplyEndsCome a B x)

-- what was replied is a front of what was accepted
pub numbers_front : (version : ℕ) (s : Serving) (F : List Message) (x : Exchange) → Serves version s F x → IsPrefix (reply_numbers x.replied) (request_numbers x.accepted)
numbers_front version s F x serves =
    ⊎_elim (λ (never : ServesNoMore s F x). never.answers) (λ (still : ServesStill version s F x). front_in (reply_numbers x.replied) (owed_number s.owed) (request_numbers x.accepted) still.numbers) serves

-- ---- where the same is kept, and no less was issued or replied

module _ (version : ℕ) (x y : Exchange) where
  module _ (same : x.accepted ≡ y.accepted) (more : (l : List Request) → IsPrefix l x.issued → IsPrefix l y.issued) where
    still_next : (c : List Request) → IsPrefix (x.accepted ++ c) x.issued → IsPrefix (y.accepted ++ c) y.issued
    still_next c h = subst (λ (l : List Request). IsPrefix (l ++ c) y.issued) same (more (x.accepted ++ c) h)

    pub comes_as : (s t : Serving) (F : List Message) → s.owed ≡ t.owed → s.request ≡ t.request → (F ≡ []) ⊎ (RequestComes version F x ⊎ EndsCome s F x) → (F ≡ []) ⊎ (RequestComes version F y ⊎ EndsCome t F y)
    comes_as s t F owed request comes =
        ⊎_elim (λ (none : F ≡ []). inl none)
        (λ (some : RequestComes version F x ⊎ EndsCome s F x). inr
        (⊎_elim
        (λ (r : RequestComes version F x). inl (record { connect = r.connect; links = r.links; only = r.only; next = still_next _ r.next }))
        (λ (e : EndsCome s F x). inr (record {
          connect = e.connect;
          by = e.by;
          came = e.came;
          coming = e.coming;
          links = e.links;
          all = e.all;
          request = sym request ∙ e.request;
          unowed = sym owed ∙ e.unowed;
          first = e.first;
          next = still_next _ e.next;
        }))
        some))
        comes

    pub serves_as : (s t : Serving) (F : List Message) → x.replied ≡ y.replied → s.owed ≡ t.owed → s.request ≡ t.request → s.dead ≡ t.dead → Serves version s F x → Serves version t F y
    serves_as s t F replies owed request dead serves =
        ⊎_elim
        (λ (no : ServesNoMore s F x). inl (record {
          over = ⊎_elim (λ (d : s.dead ≡ true). inl (sym dead ∙ d)) (λ (e : (s.owed ≡ None) × (F ≡ [])). inr (sym owed ∙ e.0, e.1)) no.over;
          answers = subst (λ (l : List Response). IsPrefix (reply_numbers l) (request_numbers y.accepted)) replies (subst (λ (l : List Request). IsPrefix (reply_numbers x.replied) (request_numbers l)) same no.answers);
        }))
        (λ (still : ServesStill version s F x). inr (record {
          comes = comes_as s t F owed request still.comes;
          numbers = ap (λ (l : List Request). request_numbers l) (sym same) ∙ still.numbers ∙ ap (λ (l : List Response). reply_numbers l ++ owed_number s.owed) replies ∙ ap (λ (o : Option ℕ). reply_numbers y.replied ++ owed_number o) owed;
        }))
        serves

  pub returns_as : (a b : Asking) (B : List Message) → x.returned ≡ y.returned → ((l : List Response) → IsPrefix l x.replied → IsPrefix l y.replied) → (a.dead ≡ true → b.dead ≡ true) →
      ((c : Connect) (r : Response) → a.outstanding ≡ Some c → a.reply ≡ Some r → (b.outstanding ≡ Some c) × (b.reply ≡ Some r)) → Returns version a B x → Returns version b B y
  returns_as a b B same more dead part returns =
      ⊎_elim
      (λ (none : HearsNoReply a B). inl (⊎_elim (λ (d : a.dead ≡ true). inl (dead d)) (λ n. inr n) none))
      (λ (some : ReplyComes version B x ⊎ ReplyEndsCome a B x). inr
      (⊎_elim
      (λ (r : ReplyComes version B x). inl (record { reply = r.reply; links = r.links; first = r.first; next = next r.reply r.next }))
      (λ (e : ReplyEndsCome a B x).
      (let both = part e.connect _ e.outstanding e.part in
      inr (record {
        connect = e.connect;
        reply = e.reply;
        came = e.came;
        coming = e.coming;
        links = e.links;
        all = e.all;
        outstanding = both.0;
        part = both.1;
        first = e.first;
        next = next e.reply e.next;
      })))
      some))
      returns
    where
      next : (r : Response) → IsPrefix (x.returned ++ r ∷ []) x.replied → IsPrefix (y.returned ++ r ∷ []) y.replied
      next r h = subst (λ (l : List Response). IsPrefix (l ++ r ∷ []) y.replied) same (more (x.returned ++ r ∷ []) h)

-- ---- what threads do

-- what is kept for an end becomes this, with these deeds
pub record CutKeeps (version : ℕ) (k j : Kept) (ds : List Deed) : Type 0 where
  pub asks : (s : Serving) (F B : List Message) (x : Exchange) → WasAsked version (asking k) s F B x → WasAsked version (asking j) s F B (asks_more ds x)
  pub serves : (a : Asking) (F B : List Message) (x : Exchange) → WasAsked version a (serving k) F B x → WasAsked version a (serving j) F B (serves_more ds x)

-- where it asks, this is all that counts
pub record AsksOn (k j : Kept) : Type 0 where
  pub dead : k.dead ≡ true → j.dead ≡ true
  pub part : (c : Connect) (r : Response) → k.outstanding ≡ Some c → k.reply ≡ Some r → (j.outstanding ≡ Some c) × (j.reply ≡ Some r)

pub asks_same : (k j : Kept) → asking j ≡ asking k → AsksOn k j
asks_same k j e = record {
  dead = λ d. ap (λ (a : Asking). a.dead) e ∙ d;
  part = λ c r o p. (ap (λ (a : Asking). a.outstanding) e ∙ o, ap (λ (a : Asking). a.reply) e ∙ p);
}

module _ (version : ℕ) where
  pub asks_cut : (k j : Kept) (ds : List Deed) → returned ds ≡ [] → AsksOn k j → (s : Serving) (F B : List Message) (x : Exchange) → WasAsked version (asking k) s F B x → WasAsked version (asking j) s F B (asks_more ds x)
  asks_cut k j ds none on s F B x was =
      let same : x.returned ≡ x.returned ++ returned ds = sym (ap (λ (l : List Response). x.returned ++ l) none ∙ append-nil x.returned) in
      record {
        requests = front_more x.accepted x.issued (issued ds) was.requests;
        replies = subst (λ (l : List Response). IsPrefix l x.replied) same was.replies;
        serves = serves_as version x (asks_more ds x) refl (λ l h. front_more l x.issued (issued ds) h) s s F refl refl refl refl was.serves;
        hears = returns_as version x (asks_more ds x) (asking k) (asking j) B same (λ l h. h) on.dead on.part was.hears;
      }

  -- where it serves
  pub serves_cut : (k j : Kept) (ds : List Deed) → accepted ds ≡ [] → ((F : List Message) (x : Exchange) → Serves version (serving k) F x → Serves version (serving j) F (record x { replied = x.replied ++ replied ds })) →
      (a : Asking) (F B : List Message) (x : Exchange) → WasAsked version a (serving k) F B x → WasAsked version a (serving j) F B (serves_more ds x)
  serves_cut k j ds none on a F B x was =
      let same : x.accepted ≡ x.accepted ++ accepted ds = sym (ap (λ (l : List Request). x.accepted ++ l) none ∙ append-nil x.accepted) in
      record {
        requests = subst (λ (l : List Request). IsPrefix l x.issued) same was.requests;
        replies = front_more x.returned x.replied (replied ds) was.replies;
        serves = subst (λ (l : List Request). Serves version (serving j) F (record x { replied = x.replied ++ replied ds; accepted = l })) same (on F x was.serves);
        hears = returns_as version x (serves_more ds x) a a B refl (λ l h. front_more l x.replied (replied ds) h) (λ d. d) (λ c r o p. (o, p)) was.hears;
      }

  -- the same is served, and there is no reply
  pub serves_on : (k j : Kept) (ds : List Deed) → k.owed ≡ j.owed → k.request ≡ j.request → k.dead ≡ j.dead → replied ds ≡ [] → (F : List Message) (x : Exchange) → Serves version (serving k) F x →
      Serves version (serving j) F (record x { replied = x.replied ++ replied ds })
  serves_on k j ds owed request dead none F x serves =
      serves_as version x (record x { replied = x.replied ++ replied ds }) refl (λ l h. h) (serving k) (serving j) F (sym (ap (λ (l : List Response). x.replied ++ l) none ∙ append-nil x.replied)) owed request dead serves

  cut_aside : (k j : Kept) → asking j ≡ asking k → k.owed ≡ j.owed → k.request ≡ j.request → k.dead ≡ j.dead → CutKeeps version k j []
  cut_aside k j asks owed request dead = record {
    asks = asks_cut k j [] refl (asks_same k j asks);
    serves = serves_cut k j [] refl (serves_on k j [] owed request dead refl);
  }

  -- ---- connects

  module _ (d : Connect) (k : Kept) where
    abbrev c : Connect
    c = record d { number = later k.last }

    abbrev k' : Kept
    k' = record k { last = later k.last }

    cut_connects : (j : Kept) → AsksOn k j → serving j ≡ serving k → CutKeeps version k j (issued_deeds d k)
    cut_connects j on same = record {
      asks = asks_cut k j (issued_deeds d k) refl on;
      serves = serves_cut k j (issued_deeds d k) refl
          (serves_on k j (issued_deeds d k) (sym (ap (λ (s : Serving). s.owed) same)) (sym (ap (λ (s : Serving). s.request) same)) (sym (ap (λ (s : Serving). s.dead) same)) refl);
    }

    first_on : k.outstanding ≡ None → AsksOn k (asked version c k')
    unfolding asked
    first_on none = record { dead = λ e. e; part = λ f r o p. absurd (let no : None ≡ Some f = sym none ∙ o in cc) }

    first_serves : serving (asked version c k') ≡ serving k
    unfolding asked
    first_serves = refl

    pub connect_cut : CutKeeps version k (connected version d k) (issued_deeds d k)
    unfolding lined_up
    connect_cut = by_outstanding k.outstanding refl
      where
        by_outstanding : (o : Option Connect) → k.outstanding ≡ o → CutKeeps version k (if is_some k.outstanding then record k' { behind = k.behind ++ c ∷ [] } else asked version c k') (issued_deeds d k)
        by_outstanding None e =
            subst (λ (j : Kept). CutKeeps version k j (issued_deeds d k)) (sym (that_if (is_some k.outstanding) (record k' { behind = k.behind ++ c ∷ [] }) (asked version c k') (ap (λ (o : Option Connect). is_some o) e)))
            (cut_connects (asked version c k') (first_on e) first_serves)
        by_outstanding (Some first) e =
            subst (λ (j : Kept). CutKeeps version k j (issued_deeds d k)) (sym (this_if (is_some k.outstanding) (record k' { behind = k.behind ++ c ∷ [] }) (asked version c k') (ap (λ (o : Option Connect). is_some o) e)))
            (cut_connects (record k' { behind = k.behind ++ c ∷ [] }) (record { dead = λ d. d; part = λ f r o p. (o, p) }) refl)

  -- ---- replies

  module _ (r : Response) (k : Kept) where
    abbrev deed : List Deed
    deed = deeds.Replied r.number r.status r.values r.ends ∷ []

    abbrev unowed : Kept
    unowed = record k { owed = None }

    abbrev queued : Kept
    queued = record k { owed = None; queue = k.queue ++ replies version r }

    dead_serves : k.dead ≡ true → (F : List Message) (x : Exchange) → Serves version (serving k) F x → Serves version (serving unowed) F (record x { replied = x.replied ++ [] })
    dead_serves dead F x serves =
        subst (λ (l : List Response). Serves version (serving unowed) F (record x { replied = l })) (sym (append-nil x.replied))
        (inl (record { over = inl dead; answers = numbers_front version (serving k) F x serves }))

    owes : is_owed r.number k.owed ≡ true → k.owed ≡ Some r.number
    owes is = by_owed k.owed refl
      where
        by_owed : (o : Option ℕ) → k.owed ≡ o → o ≡ Some r.number
        by_owed None e = let no : false ≡ true = sym (ap (is_owed r.number) e) ∙ is in absurd cc
        by_owed (Some n) e = ap (λ (i : ℕ). Some i) (eqb-true n r.number (sym (ap (is_owed r.number) e) ∙ is))

    not_none : is_owed r.number k.owed ≡ true → k.owed ≡ None → ⊥
    not_none is none = let no : None ≡ Some r.number = sym none ∙ owes is in cc

    owed_serves : is_owed r.number k.owed ≡ true → k.dead ≡ false → (F : List Message) (x : Exchange) → Serves version (serving k) F x → Serves version (serving queued) F (record x { replied = x.replied ++ r ∷ [] })
    owed_serves is lives F x serves =
        ⊎_elim
        (λ (no : ServesNoMore (serving k) F x). absurd
        (⊎_elim (λ (d : k.dead ≡ true). (let e : true ≡ false = sym d ∙ lives in cc)) (λ (e : (k.owed ≡ None) × (F ≡ [])). not_none is e.0) no.over))
        (λ (still : ServesStill version (serving k) F x). inr (record {
          comes = ⊎_elim (λ (none : F ≡ []). inl none)
              (λ (some : RequestComes version F x ⊎ EndsCome (serving k) F x). inr
              (⊎_elim (λ (q : RequestComes version F x). inl (record { connect = q.connect; links = q.links; only = q.only; next = q.next })) (λ (e : EndsCome (serving k) F x). absurd (not_none is e.unowed)) some))
              still.comes;
          numbers = replied_now x (serving k) r (owes is) still.numbers;
        }))
        serves

    reply_cut_to : (j : Kept) (ds : List Deed) → asking j ≡ asking k → accepted ds ≡ [] → returned ds ≡ [] → ((F : List Message) (x : Exchange) → Serves version (serving k) F x → Serves version (serving j) F (record x { replied = x.replied ++ replied ds })) →
        CutKeeps version k j ds
    reply_cut_to j ds same none never on = record { asks = asks_cut k j ds never (asks_same k j same); serves = serves_cut k j ds none on }

    pub reply_cut : CutKeeps version k (answered version r k) (replied_deeds r k)
    unfolding answered
    reply_cut = by_owed (is_owed r.number k.owed) k.dead refl refl
      where
        by_owed : (b d : Bool) → is_owed r.number k.owed ≡ b → k.dead ≡ d → CutKeeps version k (if not (is_owed r.number k.owed) then k else if k.dead then unowed else queued) (replied_deeds r k)
        by_owed true false e f =
            subst (λ (i : Kept). CutKeeps version k i (replied_deeds r k)) (sym (that_if (not (is_owed r.number k.owed)) k (if k.dead then unowed else queued) (ap not e) ∙ that_if k.dead unowed queued f))
            (subst (λ (ds : List Deed). CutKeeps version k queued ds) (sym (ap (λ (b : Bool). if b && not k.dead then deed else []) e ∙ ap (λ (b : Bool). if not b then deed else []) f))
            (reply_cut_to queued deed refl refl refl (owed_serves e f)))
        by_owed true true e f =
            subst (λ (i : Kept). CutKeeps version k i (replied_deeds r k)) (sym (that_if (not (is_owed r.number k.owed)) k (if k.dead then unowed else queued) (ap not e) ∙ this_if k.dead unowed queued f))
            (subst (λ (ds : List Deed). CutKeeps version k unowed ds) (sym (ap (λ (b : Bool). if b && not k.dead then deed else []) e ∙ ap (λ (b : Bool). if not b then deed else []) f))
            (reply_cut_to unowed [] refl refl refl (dead_serves f)))
        by_owed false d e f =
            subst (λ (i : Kept). CutKeeps version k i (replied_deeds r k)) (sym (this_if (not (is_owed r.number k.owed)) k (if k.dead then unowed else queued) (ap not e)))
            (subst (λ (ds : List Deed). CutKeeps version k k ds) (sym (ap (λ (b : Bool). if b && not k.dead then deed else []) e)) (cut_aside k k refl refl refl refl))

  -- ---- all that may happen

  allow_cut : (number : ℕ) (k : Kept) → CutKeeps version k (allows number k) []
  unfolding allows
  allow_cut number k = cut_aside k (allows number k) refl refl refl refl

  settle_cut : (room : Bool) (k : Kept) → CutKeeps version k (settled room k) []
  settle_cut room k = by_forbade k.forbade
    where
      by_due : (f : Forbade) (b : Bool) → CutKeeps version k (if b then allows f.number k else k) []
      by_due f true = allow_cut f.number k
      by_due f false = cut_aside k k refl refl refl refl

      by_forbade : (o : Option Forbade) → CutKeeps version k (settled_with o room k) []
      by_forbade None = cut_aside k k refl refl refl refl
      by_forbade (Some f) = by_due f (is_allow_due room f k)

  bind_cut : (b : Binding) (k : Kept) → CutKeeps version k (binds b k) []
  bind_cut b k = by_bound (is_bound b.entry k)
    where
      by_bound : (is : Bool) → CutKeeps version k (if is then k else record k { bindings = k.bindings ++ b ∷ [] }) []
      by_bound true = cut_aside k k refl refl refl refl
      by_bound false = cut_aside k (record k { bindings = k.bindings ++ b ∷ [] }) refl refl refl refl

  pub happening_cut : (h : Happening) (k : Kept) → MayHappen h k → CutKeeps version k (after version h k) (deeds_of version h k)
  happening_cut (Connects c) k may = connect_cut c k
  happening_cut (Accepts a) k may = cut_aside k (after version (Accepts a) k) refl refl refl refl
  happening_cut (Binds b) k may = bind_cut b k
  happening_cut (Unbinds entry) k may = cut_aside k (after version (Unbinds entry) k) refl refl refl refl
  happening_cut (Replies r) k may = reply_cut r k
  happening_cut (Hears room packet xs) k may = absurd may
  happening_cut (Settles room) k may = settle_cut room k
  happening_cut Sends k may = absurd may
  happening_cut SendOver k may = cut_aside k (after version SendOver k) refl refl refl refl
  happening_cut Receives k may = cut_aside k (after version Receives k) refl refl refl refl
  happening_cut ReceiveOver k may = cut_aside k (after version ReceiveOver k) refl refl refl refl
  happening_cut CancelLate k may = cut_aside k (after version CancelLate k) refl refl refl refl
  happening_cut Dies k may = absurd may
