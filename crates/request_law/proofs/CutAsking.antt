-- Over a link that was cut a message comes back to who asks.
use Rattle.std.proofs.Common.{arith, ◌≡◌, ◌⊎◌, inl, inr, ⊎_elim, ℕ, ◌+◌, ◌≤◌, Bool, true, false, ◌&&◌, not, List, [], ◌∷◌, ◌++◌, length, take, drop, Option, Some, None, is_none, if◌then◌else◌, refl, sym, ap, subst, ◌∙◌, append-nil, take_all}
use Rattle.std.proofs.lemmas.Bool.{and_parts}
use Rattle.std.specs.List.{AllByRecursion}
use mathlib.Core.List.{IsPrefix}
use Rattle.charlotte_calls.specs.declared.names.EndId.{EndId}
use Rattle.lynx_packets.specs.declared.packet.RtPacket.{RtPacket}
use Rattle.lynx_packets.specs.declared.packet.RtPacket.TheVariants as packets
use Rattle.end_protocol.specs.declared.hearing.Heard.{Heard}
use Rattle.end_protocol.specs.declared.hearing.Heard.TheVariants as heard
use Rattle.end_protocol.specs.declared.kept.Kept.{Kept}
use Rattle.end_protocol.specs.declared.kept.Response.{Response}
use Rattle.end_protocol.specs.declared.messages.Connect.{Connect}
use Rattle.end_protocol.specs.declared.messages.Message.{Message}
use Rattle.end_protocol.specs.Deeds.{heard_deeds}
use Rattle.end_protocol.specs.Hearing.{gone_on, has_results, hears, is_awaited, is_outstanding, is_readable, is_whole, reply_further, reply_to, silently}
use Rattle.end_protocol.specs.Messages.{encs, further, most_of}
use Rattle.request_meaning.specs.Requests.{returned}
use Rattle.request_meaning.specs.Views.{asking}
use Rattle.request_meaning.specs.Phases.{Exchange, HasLinks, response_with}
use Rattle.request_meaning.specs.Invariant.{HearsNoReply, ReplyComes, ReplyEndsCome, is_reply}
use Rattle.request_law.proofs.Lists.{front_head, front_tail, none_before}
use Rattle.request_law.proofs.Asking.{last_of, longer_by, one_of}
use Rattle.request_law.proofs.Reading.{OneTravels, all_travel, none_left, reads, reads_not, some_left}
use Rattle.request_law.proofs.HearsReply.{gone_without, too_few}
use Rattle.request_law.proofs.CutWays.{Returns}
use Rattle.request_law.proofs.CutServing.{answers_if_read, nothing_there}
use Rattle.request_law.proofs.Aside.{IsLate, hears_late, none_returns}

module _ (version : ℕ) (B : List Message) (x : Exchange) where
  -- after it: what may still come back to who asks, and that what was returned was replied in this order
  pub record ReturnsOn (y : Kept × Heard) : Type 0 where
    pub returns : Returns version (asking y.0) B (record x { returned = x.returned ++ returned (heard_deeds y.1) })
    pub replies : IsPrefix (x.returned ++ returned (heard_deeds y.1)) x.replied

module _ (version : ℕ) (room : Bool) (k : Kept) (m : Message) (B : List Message) (x : Exchange) (replied : IsPrefix x.returned x.replied) where
  abbrev On : Kept × Heard → Type 0
  On y = ReturnsOn version B x y

  abbrev Result : Type 0
  Result = On (hears version room m.packet m.ends k) ⊎ ((xs : List EndId) × (hears version room m.packet m.ends k ≡ (k, heard.Unreadable xs)))

  -- nothing is returned, and nothing of a reply comes any more
  without : (y : Kept × Heard) → returned (heard_deeds y.1) ≡ [] → HearsNoReply (asking y.0) B → On y
  without y none hears = record {
    returns = inl hears;
    replies = subst (λ (l : List Response). IsPrefix l x.replied) (sym (ap (λ (l : List Response). x.returned ++ l) none ∙ append-nil x.returned)) replied;
  }

  -- the reply is returned, and nothing comes behind it
  returns_it : (thread : ℕ) (r s : Response) (j : Kept) → s ≡ r → B ≡ [] → IsPrefix (x.returned ++ r ∷ []) x.replied → On (j, heard.Returned thread s)
  returns_it thread r s j same none next = record {
    returns = inl (inr (subst (λ (l : List Message). AllByRecursion (λ m. is_reply m.packet ≡ false) l) (sym none) tt));
    replies = subst (λ (q : Response). IsPrefix (x.returned ++ q ∷ []) x.replied) (sym same) next;
  }

  -- a part of it is there
  in_part : (c : Connect) (r : Response) (came coming : List EndId) (j : Kept) → HasLinks r.values r.ends → came ++ coming ≡ r.ends → j.outstanding ≡ Some c → j.reply ≡ Some (response_with came r) →
      IsPrefix B (encs 2 r.number (length came + 1) coming) → IsPrefix (x.returned ++ r ∷ []) x.replied → On (silently j)
  in_part c r came coming j links all there part first next = record {
    returns = inr (inr (record {
      connect = c;
      reply = r;
      came = came;
      coming = coming;
      links = links;
      all = all;
      outstanding = there;
      part = part;
      first = first;
      next = subst (λ (l : List Response). IsPrefix (l ++ r ∷ []) x.replied) (sym (append-nil x.returned)) next;
    }));
    replies = subst (λ (l : List Response). IsPrefix l x.replied) (sym (append-nil x.returned)) replied;
  }

  -- ---- a reply

  module _ (q : ReplyComes version (m ∷ B) x) where
    abbrev r : Response
    r = q.reply

    abbrev travel : List EndId
    travel = take (most_of version) r.ends

    abbrev packet : RtPacket
    packet = packets.Reply r.number r.status r.values

    behind : IsPrefix B (further 2 r.number (drop (most_of version) r.ends))
    behind = front_tail m (record { packet = packet; ends = travel }) B (further 2 r.number (drop (most_of version) r.ends)) q.first

    begins : (c : Connect) → k.outstanding ≡ Some c → OneTravels version r.ends → On (silently (record k { reply = Some (response_with travel r) }))
    begins c there one =
        let e = one.first in
        let y = one.second in
        let ys = one.others in
        let few : length (e ∷ y ∷ ys) ≤ 8 = subst (λ (xs : List EndId). length xs ≤ 8) one.are q.links.few in
        let left : drop (most_of version) r.ends ≡ y ∷ ys = ap (λ (n : ℕ). drop n r.ends) (one_of version one.first_version) ∙ ap (drop 1) one.are in
        let gone : travel ≡ e ∷ [] = ap (λ (n : ℕ). take n r.ends) (one_of version one.first_version) ∙ ap (take 1) one.are in
        let seven : take 7 (y ∷ ys) ≡ y ∷ ys = take_all 7 (y ∷ ys) (omega arith) in
        in_part c r (e ∷ []) (y ∷ ys) (record k { reply = Some (response_with travel r) }) q.links (sym one.are) there (ap (λ (xs : List EndId). Some (response_with xs r)) gone)
        (subst (λ (l : List Message). IsPrefix B l) (ap (further 2 r.number) left ∙ ap (encs 2 r.number 2) seven) behind) q.next

    by_whole : (c : Connect) (b : Bool) → k.outstanding ≡ Some c → is_whole r.values travel ≡ b →
        On (if b then (gone_on version k, heard.Returned c.thread (response_with travel r)) else silently (record k { reply = Some (response_with travel r) }))
    by_whole c true there e =
        let none = none_left version r.values r.ends q.links e in
        returns_it c.thread r (response_with travel r) (gone_on version k) (ap (λ (xs : List EndId). response_with xs r) (all_travel version r.ends none))
        (none_before B (subst (λ (l : List EndId). IsPrefix B (further 2 r.number l)) none behind)) q.next
    by_whole c false there e = begins c there (some_left version r.values r.ends q.links e)

    by_outstanding : (o : Option Connect) → k.outstanding ≡ o → is_outstanding r.number o ≡ true → On (reply_to o version (response_with travel r) k)
    by_outstanding None there is = let no : false ≡ true = is in absurd cc
    by_outstanding (Some c) there is = by_whole c (is_whole r.values travel) there refl

    reply_heard : k.dead ≡ false → Result
    reply_heard lives = by_readable (is_readable version packet travel k) refl
      where
        is : m ≡ record { packet = packet; ends = travel }
        is = front_head m (record { packet = packet; ends = travel }) B (further 2 r.number (drop (most_of version) r.ends)) q.first

        by_readable : (b : Bool) → is_readable version packet travel k ≡ b → Result
        by_readable true e =
            let right = and_parts (is_awaited r.number k && is_none k.reply) (has_results r.status r.values k.outstanding) (answers_if_read version packet travel k e) in
            let awaited = and_parts (is_awaited r.number k) (is_none k.reply) right.0 in
            let its = and_parts (is_outstanding r.number k.outstanding) (not k.barred) awaited.0 in
            inl (subst On (sym (ap (λ (n : Message). hears version room n.packet n.ends k) is ∙ reads version room packet travel k lives e)) (by_outstanding k.outstanding refl its.0))
        by_readable false e = inr (travel, ap (λ (n : Message). hears version room n.packet n.ends k) is ∙ reads_not version room packet travel k lives e)

  -- ---- a further end of one

  module _ (c : Connect) (r : Response) (came : List EndId) (e : EndId) (es : List EndId) (links : HasLinks r.values r.ends) (all : came ++ e ∷ es ≡ r.ends) (there : k.outstanding ≡ Some c) (part : k.reply ≡ Some (response_with came r))
      (first : IsPrefix (m ∷ B) (encs 2 r.number (length came + 1) (e ∷ es))) (next : IsPrefix (x.returned ++ r ∷ []) x.replied) where
    abbrev grown : Response
    grown = response_with (came ++ e ∷ []) r

    abbrev packet' : RtPacket
    packet' = packets.Enc 2 r.number (length came + 1)

    others : IsPrefix B (encs 2 r.number (length came + 1 + 1) es)
    others = front_tail m _ B (encs 2 r.number (length came + 1 + 1) es) first

    last_one : (ys : List EndId) → es ≡ ys → is_whole r.values (came ++ e ∷ []) ≡ true → es ≡ []
    last_one [] same whole = same
    last_one (y ∷ ys) same whole = absurd (too_few version r.values r.ends came e y ys links (ap (λ (l : List EndId). came ++ e ∷ l) (sym same) ∙ all) whole)

    by_end : (b : Bool) → is_whole r.values (came ++ e ∷ []) ≡ b → On (if b then (gone_on version k, heard.Returned c.thread grown) else silently (record k { reply = Some grown }))
    by_end true whole =
        let none = last_one es refl whole in
        returns_it c.thread r grown (gone_on version k) (ap (λ (xs : List EndId). response_with xs r) (ap (λ (l : List EndId). came ++ e ∷ l) (sym none) ∙ all))
        (none_before B (subst (λ (l : List EndId). IsPrefix B (encs 2 r.number (length came + 1 + 1) l)) none others)) next
    by_end false some =
        in_part c r (came ++ e ∷ []) es (record k { reply = Some grown }) links (last_of came e es r.ends all) there refl
        (subst (λ (n : ℕ). IsPrefix B (encs 2 r.number (n + 1) es)) (sym (longer_by came e)) others) next

    end_heard : k.dead ≡ false → Result
    end_heard lives = by_readable (is_readable version packet' (e ∷ []) k) refl
      where
        is : m ≡ record { packet = packet'; ends = e ∷ [] }
        is = front_head m (record { packet = packet'; ends = e ∷ [] }) B (encs 2 r.number (length came + 1 + 1) es) first

        by_readable : (b : Bool) → is_readable version packet' (e ∷ []) k ≡ b → Result
        by_readable true f =
            inl (subst On
            (sym
            (ap (λ (n : Message). hears version room n.packet n.ends k) is ∙ reads version room packet' (e ∷ []) k lives f
            ∙ ap (λ (o : Option Response). reply_further o version (e ∷ []) k) part
            ∙ ap (λ (o : Option Connect). reply_to o version grown (record k { reply = None })) there
            ∙ ap (λ (j : Kept). if is_whole r.values (came ++ e ∷ []) then (j, heard.Returned c.thread grown) else silently (record k { reply = Some grown })) (gone_without version k)))
            (by_end (is_whole r.values (came ++ e ∷ [])) refl))
        by_readable false f = inr (e ∷ [], ap (λ (n : Message). hears version room n.packet n.ends k) is ∙ reads_not version room packet' (e ∷ []) k lives f)

  ends_heard : k.dead ≡ false → ReplyEndsCome (asking k) (m ∷ B) x → Result
  ends_heard lives q = by_coming q.coming refl
    where
      by_coming : (l : List EndId) → q.coming ≡ l → Result
      by_coming [] e = absurd (nothing_there m B (none_before (m ∷ B) (subst (λ (l : List EndId). IsPrefix (m ∷ B) (encs 2 q.reply.number (length q.came + 1) l)) e q.first)))
      by_coming (y ∷ ys) e =
          end_heard q.connect q.reply q.came y ys q.links (ap (λ (l : List EndId). q.came ++ l) (sym e) ∙ q.all) q.outstanding q.part
          (subst (λ (l : List EndId). IsPrefix (m ∷ B) (encs 2 q.reply.number (length q.came + 1) l)) e q.first) q.next lives

  -- ---- whatever it is

  no_reply_heard : AllByRecursion (λ n. is_reply n.packet ≡ false) (m ∷ B) → On (hears version room m.packet m.ends k)
  no_reply_heard all = without (hears version room m.packet m.ends k) (none_returns version room m.ends k m.packet all.0) (inr all.1)

  pub returns_hears : Returns version (asking k) (m ∷ B) x → Result
  returns_hears returns = by_dead k.dead refl
    where
      by_dead : (d : Bool) → k.dead ≡ d → Result
      by_dead true e =
          let is : IsLate version room m.ends k (hears version room m.packet m.ends k) = hears_late version room m.ends k m.packet e in
          inl (without (hears version room m.packet m.ends k) is.none_returned (inl is.dead))
      by_dead false e =
          ⊎_elim
          (λ (none : HearsNoReply (asking k) (m ∷ B)).
          ⊎_elim (λ (d : k.dead ≡ true). (let no : true ≡ false = sym d ∙ e in absurd cc)) (λ (all : AllByRecursion (λ n. is_reply n.packet ≡ false) (m ∷ B)). inl (no_reply_heard all)) none)
          (λ (some : ReplyComes version (m ∷ B) x ⊎ ReplyEndsCome (asking k) (m ∷ B) x).
          ⊎_elim (λ (q : ReplyComes version (m ∷ B) x). reply_heard q e) (λ (q : ReplyEndsCome (asking k) (m ∷ B) x). ends_heard e q) some)
          returns
