-- Over a link that was cut a message comes to who serves.
use Rattle.std.proofs.Common.{◌≡◌, ◌⊎◌, inl, inr, ⊎_elim, ℕ, ◌+◌, Bool, true, false, List, [], ◌∷◌, ◌++◌, length, take, drop, Option, Some, None, is_none, if◌then◌else◌, refl, sym, ap, subst, ◌∙◌, append-nil}
use Rattle.std.proofs.lemmas.Bool.{and_parts}
use Rattle.std.specs.Prelude.{◌==◌}
use mathlib.Core.List.{IsPrefix}
use Rattle.charlotte_calls.specs.declared.names.EndId.{EndId}
use Rattle.lynx_packets.specs.declared.packet.RtPacket.{RtPacket}
use Rattle.lynx_packets.specs.declared.packet.RtPacket.TheVariants as packets
use Rattle.end_protocol.specs.declared.hearing.Heard.{Heard}
use Rattle.end_protocol.specs.declared.hearing.Heard.TheVariants as heard
use Rattle.end_protocol.specs.declared.kept.Kept.{Kept}
use Rattle.end_protocol.specs.declared.kept.Taker.{Taker}
use Rattle.end_protocol.specs.declared.kept.Wanted.{Wanted as Coming'}
use Rattle.end_protocol.specs.declared.messages.Connect.{Connect}
use Rattle.end_protocol.specs.declared.messages.Message.{Message}
use Rattle.end_protocol.specs.Deeds.{heard_deeds}
use Rattle.end_protocol.specs.Hearing.{accepted as takes, answers, brings, forbade, hears, is_readable, is_whole, let_come, request_for, request_further, retry_of, silently}
use Rattle.end_protocol.specs.Kept.{queued}
use Rattle.end_protocol.specs.Messages.{encs, most_of, request_of}
use Rattle.end_protocol.specs.Wanting.{is_needed, taker}
use Rattle.request_meaning.specs.Requests.{Request, accepted, reply_numbers, request_numbers}
use Rattle.request_meaning.specs.Views.{serving}
use Rattle.request_meaning.specs.Phases.{Exchange, HasLinks, owed_number, part, request_in}
use Rattle.request_meaning.specs.Invariant.{EndsCome, RequestComes, ServesNoMore, ServesStill}
use Rattle.request_law.proofs.Lists.{front_head, front_tail, none_before}
use Rattle.request_law.proofs.Asking.{last_of, longer_by, same_first, same_rest}
use Rattle.request_law.proofs.Serving.{owed_now}
use Rattle.request_law.proofs.Reading.{all_travel, none_left, reads, reads_not}
use Rattle.request_law.proofs.HearsReply.{too_few}
use Rattle.request_law.proofs.CutWays.{Serves, numbers_front}
use Rattle.request_law.proofs.Aside.{IsLate, hears_late}

pub nothing_there : (m : Message) (ms : List Message) → m ∷ ms ≡ [] → ⊥
nothing_there m ms e = cc

pub answers_if_read : (version : ℕ) (packet : RtPacket) (xs : List EndId) (k : Kept) → is_readable version packet xs k ≡ true → answers packet k ≡ true
unfolding is_readable
answers_if_read version packet xs k e = (and_parts (answers packet k) (length xs == brings version packet k) e).0

pub none_there : {X : Type 0} (o : Option X) → is_none o ≡ true → o ≡ None
none_there None e = refl
none_there (Some x) e = let no : false ≡ true = e in absurd cc

module _ (version : ℕ) (F : List Message) (x : Exchange) where
  -- after it: what may still come to who serves, and that what it accepted was issued in this order
  pub record ServesOn (y : Kept × Heard) : Type 0 where
    pub serves : Serves version (serving y.0) F (record x { accepted = x.accepted ++ accepted (heard_deeds y.1) })
    pub requests : IsPrefix (x.accepted ++ accepted (heard_deeds y.1)) x.issued
    pub read : (xs : List EndId) → y.1 ≡ heard.Unreadable xs → ⊥

module _ (version : ℕ) (room : Bool) (k : Kept) (m : Message) (F : List Message) (x : Exchange) (requests : IsPrefix x.accepted x.issued) where
  abbrev On : Kept × Heard → Type 0
  On y = ServesOn version F x y

  -- nothing is accepted
  silent : (j : Kept) → Serves version (serving j) F x → On (silently j)
  silent j serves = record {
    serves = subst (λ (l : List Request). Serves version (serving j) F (record x { accepted = l })) (sym (append-nil x.accepted)) serves;
    requests = subst (λ (l : List Request). IsPrefix l x.issued) (sym (append-nil x.accepted)) requests;
    read = λ xs e. let no : heard.Nothing ≡ heard.Unreadable xs = e in absurd cc;
  }

  late : (y : Kept × Heard) → IsLate version room m.ends k y → IsPrefix (reply_numbers x.replied) (request_numbers x.accepted) → On y
  late y is numbers =
      let same : x.accepted ≡ x.accepted ++ accepted (heard_deeds y.1) = sym (ap (λ (l : List Request). x.accepted ++ l) is.none_accepted ∙ append-nil x.accepted) in
      record {
        serves = inl (record { over = inl is.dead; answers = subst (λ (l : List Request). IsPrefix (reply_numbers x.replied) (request_numbers l)) same numbers });
        requests = subst (λ (l : List Request). IsPrefix l x.issued) same requests;
        read = is.read;
      }

  -- nothing comes behind it
  last : (j : Kept) → j.owed ≡ k.owed → F ≡ [] → ServesStill version (serving k) (m ∷ F) x → On (silently j)
  last j owed none still = silent j (inr (record { comes = inl none; numbers = still.numbers ∙ ap (λ (o : Option ℕ). reply_numbers x.replied ++ owed_number o) (sym owed) }))

  -- a request is accepted
  accepts : (c : Connect) (w : Coming') (j : Kept) → record { number = w.number; signature = w.signature; values = w.values; ends = w.ends } ≡ request_in c → j.owed ≡ Some c.number → k.owed ≡ None → F ≡ [] →
      IsPrefix (x.accepted ++ request_in c ∷ []) x.issued → ServesStill version (serving k) (m ∷ F) x → On (j, heard.Accepted w)
  accepts c w j same owed unowed none next still = record {
    serves = inr (record {
      comes = inl none;
      numbers =
          ap (λ (r : Request). request_numbers (x.accepted ++ r ∷ [])) same ∙ owed_now x (serving k) (request_in c) unowed still.numbers
          ∙ ap (λ (o : Option ℕ). reply_numbers x.replied ++ owed_number o) (sym owed);
    });
    requests = subst (λ (r : Request). IsPrefix (x.accepted ++ r ∷ []) x.issued) (sym same) next;
    read = λ xs e. let no : heard.Accepted w ≡ heard.Unreadable xs = e in absurd cc;
  }

  abbrev Result : Type 0
  Result = On (hears version room m.packet m.ends k) ⊎ ((xs : List EndId) × (hears version room m.packet m.ends k ≡ (k, heard.Unreadable xs)))

  -- ---- a request

  module _ (still : ServesStill version (serving k) (m ∷ F) x) where
    module _ (q : RequestComes version (m ∷ F) x) where
      abbrev c : Connect
      c = q.connect

      abbrev travel : List EndId
      travel = take (most_of version) c.ends

      none_behind : F ≡ []
      none_behind = same_rest m (request_of version c) F [] q.only

      accepts_it : (t : Taker) → k.owed ≡ None → drop (most_of version) c.ends ≡ [] → On (takes (part c t travel) k, heard.Accepted (part c t travel))
      unfolding takes
      accepts_it t unowed none =
          accepts c (part c t travel) (takes (part c t travel) k) (ap (λ (xs : List EndId). record (request_in c) { ends = xs }) (all_travel version c.ends none)) refl unowed none_behind q.next still

      lets_come : (t : Taker) → On (silently (let_come (part c t travel) k))
      unfolding let_come
      lets_come t = last (let_come (part c t travel) k) refl none_behind still

      forbids : On (silently (forbade c.number c.signature travel k))
      unfolding forbade
      forbids = last (forbade c.number c.signature travel k) refl none_behind still

      retries : On (silently (queued (retry_of c.number travel ∷ []) k))
      unfolding queued
      retries = last (queued (retry_of c.number travel ∷ []) k) refl none_behind still

      by_whole : (t : Taker) (b : Bool) → is_whole c.values travel ≡ b → k.owed ≡ None → On (if b then (takes (part c t travel) k, heard.Accepted (part c t travel)) else silently (let_come (part c t travel) k))
      by_whole t true e unowed = accepts_it t unowed (none_left version c.values c.ends q.links e)
      by_whole t false e unowed = lets_come t

      by_needed : (b : Bool) → On (silently (if b then forbade c.number c.signature travel k else queued (retry_of c.number travel ∷ []) k))
      by_needed true = forbids
      by_needed false = retries

      for_taker : (o : Option Taker) → k.owed ≡ None → On (request_for o room c.number c.signature c.values travel k)
      for_taker None unowed = by_needed (is_needed room k)
      for_taker (Some t) unowed = by_whole t (is_whole c.values travel) refl unowed

      abbrev packet : RtPacket
      packet = packets.Request c.number c.signature c.values

      request_heard : k.dead ≡ false → Result
      request_heard lives = by_readable (is_readable version packet travel k) refl
        where
          is : m ≡ request_of version c
          is = same_first m (request_of version c) F [] q.only

          by_readable : (b : Bool) → is_readable version packet travel k ≡ b → Result
          by_readable true e =
              let free = and_parts (is_none k.owed) (is_none k.request) (answers_if_read version packet travel k e) in
              inl (subst On (sym (ap (λ (n : Message). hears version room n.packet n.ends k) is ∙ reads version room packet travel k lives e)) (for_taker (taker room c.signature k) (none_there k.owed free.0)))
          by_readable false e = inr (travel, ap (λ (n : Message). hears version room n.packet n.ends k) is ∙ reads_not version room packet travel k lives e)

    -- ---- a further end of one

    module _ (c : Connect) (by : Taker) (came : List EndId) (e : EndId) (es : List EndId) (links : HasLinks c.values c.ends) (all : came ++ e ∷ es ≡ c.ends) (request : k.request ≡ Some (part c by came)) (unowed : k.owed ≡ None)
        (first : IsPrefix (m ∷ F) (encs 1 c.number (length came + 1) (e ∷ es))) (next : IsPrefix (x.accepted ++ request_in c ∷ []) x.issued) where
      abbrev grown : Coming'
      grown = part c by (came ++ e ∷ [])

      abbrev packet' : RtPacket
      packet' = packets.Enc 1 c.number (length came + 1)

      behind : IsPrefix F (encs 1 c.number (length came + 1 + 1) es)
      behind = front_tail m _ F (encs 1 c.number (length came + 1 + 1) es) first

      last_one : (ys : List EndId) → es ≡ ys → is_whole c.values (came ++ e ∷ []) ≡ true → es ≡ []
      last_one [] same whole = same
      last_one (y ∷ ys) same whole = absurd (too_few version c.values c.ends came e y ys links (ap (λ (l : List EndId). came ++ e ∷ l) (sym same) ∙ all) whole)

      whole_now : is_whole c.values (came ++ e ∷ []) ≡ true → On (takes grown k, heard.Accepted grown)
      unfolding takes
      whole_now whole =
          let none = last_one es refl whole in
          let they : came ++ e ∷ [] ≡ c.ends = ap (λ (l : List EndId). came ++ e ∷ l) (sym none) ∙ all in
          accepts c grown (takes grown k) (ap (λ (xs : List EndId). record (request_in c) { ends = xs }) they) refl unowed
          (none_before F (subst (λ (l : List EndId). IsPrefix F (encs 1 c.number (length came + 1 + 1) l)) none behind)) next still

      comes_on : On (silently (record k { request = Some grown }))
      comes_on = silent (record k { request = Some grown }) (inr (record {
        comes = inr (inr (record {
          connect = c;
          by = by;
          came = came ++ e ∷ [];
          coming = es;
          links = links;
          all = last_of came e es c.ends all;
          request = refl;
          unowed = unowed;
          first = subst (λ (n : ℕ). IsPrefix F (encs 1 c.number (n + 1) es)) (sym (longer_by came e)) behind;
          next = next;
        }));
        numbers = still.numbers;
      }))

      by_end : (b : Bool) → is_whole c.values (came ++ e ∷ []) ≡ b → On (if b then (takes grown k, heard.Accepted grown) else silently (record k { request = Some grown }))
      by_end true whole = whole_now whole
      by_end false part = comes_on

      end_heard : k.dead ≡ false → Result
      end_heard lives = by_readable (is_readable version packet' (e ∷ []) k) refl
        where
          is : m ≡ record { packet = packet'; ends = e ∷ [] }
          is = front_head m (record { packet = packet'; ends = e ∷ [] }) F (encs 1 c.number (length came + 1 + 1) es) first

          by_readable : (b : Bool) → is_readable version packet' (e ∷ []) k ≡ b → Result
          by_readable true f =
              inl (subst On
              (sym
              (ap (λ (n : Message). hears version room n.packet n.ends k) is ∙ reads version room packet' (e ∷ []) k lives f
              ∙ ap (λ (o : Option Coming'). request_further o (e ∷ []) k) request))
              (by_end (is_whole c.values (came ++ e ∷ [])) refl))
          by_readable false f = inr (e ∷ [], ap (λ (n : Message). hears version room n.packet n.ends k) is ∙ reads_not version room packet' (e ∷ []) k lives f)

    ends_heard : k.dead ≡ false → EndsCome (serving k) (m ∷ F) x → Result
    ends_heard lives q = by_coming q.coming refl
      where
        by_coming : (l : List EndId) → q.coming ≡ l → Result
        by_coming [] e = absurd (nothing_there m F (none_before (m ∷ F) (subst (λ (l : List EndId). IsPrefix (m ∷ F) (encs 1 q.connect.number (length q.came + 1) l)) e q.first)))
        by_coming (y ∷ ys) e =
            end_heard q.connect q.by q.came y ys q.links (ap (λ (l : List EndId). q.came ++ l) (sym e) ∙ q.all) q.request q.unowed
            (subst (λ (l : List EndId). IsPrefix (m ∷ F) (encs 1 q.connect.number (length q.came + 1) l)) e q.first) q.next lives

  -- ---- whatever it is

  pub serves_hears : Serves version (serving k) (m ∷ F) x → Result
  serves_hears serves = by_dead k.dead refl
    where
      by_dead : (d : Bool) → k.dead ≡ d → Result
      by_dead true e = inl (late (hears version room m.packet m.ends k) (hears_late version room m.ends k m.packet e) (numbers_front version (serving k) (m ∷ F) x serves))
      by_dead false e =
          ⊎_elim
          (λ (never : ServesNoMore (serving k) (m ∷ F) x). absurd
          (⊎_elim (λ (d : k.dead ≡ true). (let no : true ≡ false = sym d ∙ e in cc)) (λ (z : (k.owed ≡ None) × (m ∷ F ≡ [])). nothing_there m F z.1) never.over))
          (λ (still : ServesStill version (serving k) (m ∷ F) x).
          ⊎_elim
          (λ (none : m ∷ F ≡ []). absurd (nothing_there m F none))
          (λ (some : RequestComes version (m ∷ F) x ⊎ EndsCome (serving k) (m ∷ F) x).
          ⊎_elim (λ (q : RequestComes version (m ∷ F) x). request_heard still q e) (λ (q : EndsCome (serving k) (m ∷ F) x). ends_heard still e q) some)
          still.comes)
          serves
