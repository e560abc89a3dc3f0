-- Where a link lives, a reply comes back to who asks, whole or in part.
use Rattle.std.proofs.Common.{arith, ◌≡◌, inl, inr, ℕ, ◌+◌, ◌≤◌, Bool, true, false, ◌&&◌, List, [], ◌∷◌, ◌++◌, length, take, drop, Option, Some, None, is_none, if◌then◌else◌, refl, sym, ap, subst, ◌∙◌, append-nil, length-append, eq-eqb, eqb-true, take_all}
use Rattle.std.specs.Prelude.{◌==◌}
use Rattle.charlotte_calls.specs.declared.names.EndId.{EndId}
use Rattle.lynx_packets.specs.declared.packet.RtPacket.{RtPacket}
use Rattle.lynx_packets.specs.declared.packet.RtPacket.TheVariants as packets
use Rattle.lynx_packets.specs.declared.value.RtValue.{RtValue}
use Rattle.lynx_packets.specs.Spelling.{links_of}
use Rattle.end_protocol.specs.declared.hearing.Heard.{Heard}
use Rattle.end_protocol.specs.declared.hearing.Heard.TheVariants as heard
use Rattle.end_protocol.specs.declared.kept.Kept.{Kept}
use Rattle.end_protocol.specs.declared.kept.Response.{Response}
use Rattle.end_protocol.specs.declared.messages.Connect.{Connect}
use Rattle.end_protocol.specs.declared.messages.Message.{Message}
use Rattle.end_protocol.specs.Asking.{asked}
use Rattle.end_protocol.specs.Hearing.{answers, gone_on, has_results, hears, is_awaited, is_next_of_reply, is_readable, is_whole, next_asked, reply_further, reply_to, silently}
use Rattle.end_protocol.specs.Lists.{head, tail}
use Rattle.end_protocol.specs.Messages.{encs, further, most_of, request_of}
use Rattle.request_meaning.specs.Views.{Serving, asking, back_in, forth_in}
use Rattle.request_meaning.specs.Phases.{Asked, Exchange, HasLinks, IsAt, Quiet, Replied, Returning, connect_with, response_with}
use Rattle.request_law.proofs.Asking.{IsLast, enc_last, one_of, reply_begins, reply_grows, reply_last, returns_last, returns_next, same_first, same_rest}
use Rattle.request_law.proofs.Reading.{OneTravels, all_travel, both_true, hears_right, is_its_answer, none_left, reads_not, some_left, travelling}
use Rattle.request_law.proofs.HearsBack.{HearsBack, HearsIt, queued_forth, queued_back}

pub either_false : (a b : Bool) → b ≡ false → (a && b) ≡ false
either_false true b e = e
either_false false b e = refl

pub first_false : (a b : Bool) → a ≡ false → (a && b) ≡ false
first_false false b e = refl
first_false true b e = let no : true ≡ false = e in absurd cc

pub cannot_read : (version : ℕ) (packet : RtPacket) (xs : List EndId) (k : Kept) → answers packet k ≡ false → is_readable version packet xs k ≡ false
unfolding is_readable
cannot_read version packet xs k e = first_false (answers packet k) _ e

-- whether a reply is in part does not matter when the connect goes on
pub gone_without : (version : ℕ) (k : Kept) → gone_on version (record k { reply = None }) ≡ gone_on version k
unfolding gone_on
gone_without version k = refl

-- with this end some are missing, or all are there

pub too_few : (version : ℕ) (vs : List RtValue) (all came : List EndId) (e y : EndId) (ys : List EndId) → HasLinks vs all → came ++ e ∷ y ∷ ys ≡ all → is_whole vs (came ++ e ∷ []) ≡ true → ⊥
too_few version vs all came e y ys links are whole =
    let n : length (came ++ e ∷ []) ≡ links_of vs = eqb-true (length (came ++ e ∷ [])) (links_of vs) whole in
    let l : length (came ++ e ∷ []) ≡ length came + length (e ∷ []) = length-append came (e ∷ []) in
    let k : length (came ++ e ∷ y ∷ ys) ≡ length came + length (e ∷ y ∷ ys) = length-append came (e ∷ y ∷ ys) in
    let a : length (came ++ e ∷ y ∷ ys) ≡ length all = ap length are in
    let m : length all ≡ links_of vs = links.each in
    omega arith

pub all_there : (version : ℕ) (vs : List RtValue) (all came : List EndId) (e : EndId) → HasLinks vs all → came ++ e ∷ [] ≡ all → is_whole vs (came ++ e ∷ []) ≡ false → ⊥
all_there version vs all came e links are part =
    let no : true ≡ false = sym (eq-eqb (length (came ++ e ∷ [])) (links_of vs) (ap length are ∙ links.each)) ∙ part in absurd cc

module _ (version : ℕ) (room : Bool) (k : Kept) (s : Serving) (x : Exchange) (F B : List Message) where
  abbrev Hears : Kept × Heard → Type 0
  Hears y = HearsBack version s x F B k y

  abbrev Result : Message → Kept × Heard → Type 0
  Result m y = HearsIt version s x F B m k y

  -- ---- the connect goes on

  goes_last : (thread : ℕ) (r : Response) → k.behind ≡ [] → IsLast version (asking k) s x r (F ++ forth_in k.queue) B → Hears (gone_on version k, heard.Returned thread r)
  unfolding gone_on
  goes_last thread r none last =
      let j : Kept = record k { reply = None; outstanding = None; barred = false; behind = [] } in
      let is : gone_on version k ≡ j = ap (λ (cs : List Connect). next_asked version (head cs) (record k { reply = None; outstanding = None; barred = false; behind = tail cs })) none in
      subst (λ (i : Kept). Hears (i, heard.Returned thread r)) (sym is)
      (record {
        exchange = record { phase = Quiet; at = returns_last version (asking k) s x r (F ++ forth_in k.queue) B none last };
        serves = refl;
        queue = refl;
        none_accepted = refl;
        read = λ xs e. let no : heard.Returned thread r ≡ heard.Unreadable xs = e in absurd cc;
      })

  goes_next : (thread : ℕ) (r : Response) (c : Connect) (cs : List Connect) → k.behind ≡ c ∷ cs → IsLast version (asking k) s x r (F ++ forth_in k.queue) B → Hears (gone_on version k, heard.Returned thread r)
  unfolding gone_on asked
  goes_next thread r c cs are last =
      let j : Kept = record k { reply = None; outstanding = None; barred = false; behind = cs } in
      let is : gone_on version k ≡ asked version c j = ap (λ (ds : List Connect). next_asked version (head ds) (record k { reply = None; outstanding = None; barred = false; behind = tail ds })) are in
      subst (λ (i : Kept). Hears (i, heard.Returned thread r)) (sym is)
      (record {
        exchange = record {
          phase = Asked c;
          at = subst (λ (l : List Message). IsAt version (Asked c) (asking (asked version c j)) s l B (record x { returned = x.returned ++ r ∷ [] })) (sym (queued_forth F k.queue (request_of version c ∷ [])))
              (returns_next version (asking k) s x r c cs (F ++ forth_in k.queue) B are last);
        };
        serves = refl;
        queue = queued_back [] k.queue (request_of version c ∷ []) ∙ append-nil (back_in k.queue);
        none_accepted = refl;
        read = λ xs e. let no : heard.Returned thread r ≡ heard.Unreadable xs = e in absurd cc;
      })

  goes_on : (thread : ℕ) (r : Response) → IsLast version (asking k) s x r (F ++ forth_in k.queue) B → Hears (gone_on version k, heard.Returned thread r)
  goes_on thread r last = by_behind k.behind refl
    where
      by_behind : (cs : List Connect) → k.behind ≡ cs → Hears (gone_on version k, heard.Returned thread r)
      by_behind [] e = goes_last thread r e last
      by_behind (c ∷ cs) e = goes_next thread r c cs e last

  -- ---- a reply

  abbrev reply_packet : Response → RtPacket
  reply_packet r = packets.Reply r.number r.status r.values

  abbrev travel : Response → List EndId
  travel r = take (most_of version) r.ends

  -- all of it is there, or a part
  reply_comes : (c : Connect) (r : Response) (m : Message) (whole : Bool) → is_whole r.values (travel r) ≡ whole → IsAt version (Replied c r) (asking k) s (F ++ forth_in k.queue) (m ∷ B) x →
      Hears (if whole then (gone_on version k, heard.Returned c.thread (response_with (travel r) r)) else silently (record k { reply = Some (response_with (travel r) r) }))
  reply_comes c r m true whole at =
      let none = none_left version r.values r.ends at.so.links whole in
      let rest : B ≡ further 2 r.number (drop (most_of version) r.ends) = same_rest m _ B (further 2 r.number (drop (most_of version) r.ends)) at.back_is in
      subst (λ (xs : List EndId). Hears (gone_on version k, heard.Returned c.thread (response_with xs r))) (sym (all_travel version r.ends none))
      (goes_on c.thread r (reply_last version (asking k) s x c r m (F ++ forth_in k.queue) B (rest ∙ ap (further 2 r.number) none) at))
  reply_comes c r m false part at = with_ends (some_left version r.values r.ends at.so.links part)
    where
      with_ends : OneTravels version r.ends → Hears (silently (record k { reply = Some (response_with (travel r) r) }))
      with_ends one =
          let e = one.first in
          let y = one.second in
          let ys = one.others in
          let few : length (e ∷ y ∷ ys) ≤ 8 = subst (λ (xs : List EndId). length xs ≤ 8) one.are at.so.links.few in
          let left : drop (most_of version) r.ends ≡ y ∷ ys = ap (λ (n : ℕ). drop n r.ends) (one_of version one.first_version) ∙ ap (drop 1) one.are in
          let gone : travel r ≡ e ∷ [] = ap (λ (n : ℕ). take n r.ends) (one_of version one.first_version) ∙ ap (take 1) one.are in
          let seven : take 7 (y ∷ ys) ≡ y ∷ ys = take_all 7 (y ∷ ys) (omega arith) in
          let rest : B ≡ encs 2 r.number 2 (y ∷ ys) = same_rest m _ B (further 2 r.number (drop (most_of version) r.ends)) at.back_is ∙ ap (further 2 r.number) left ∙ ap (encs 2 r.number 2) seven in
          subst (λ (xs : List EndId). Hears (silently (record k { reply = Some (response_with xs r) }))) (sym gone)
          (record {
            exchange = record {
              phase = Returning c r (e ∷ []) y ys;
              at = subst (λ (z : Exchange). IsAt version (Returning c r (e ∷ []) y ys) (asking (record k { reply = Some (response_with (e ∷ []) r) })) s (F ++ forth_in k.queue) B z)
                  (ap (λ (l : List Response). record x { returned = l }) (sym (append-nil x.returned)))
                  (reply_begins version (asking k) s x c r e y ys m (F ++ forth_in k.queue) B one.are rest at);
            };
            serves = refl;
            queue = refl;
            none_accepted = refl;
            read = λ xs e. let no : heard.Nothing ≡ heard.Unreadable xs = e in absurd cc;
          })

  pub hears_reply : (c : Connect) (r : Response) (m : Message) → IsAt version (Replied c r) (asking k) s (F ++ forth_in k.queue) (m ∷ B) x → Result m (hears version room m.packet m.ends k)
  hears_reply c r m at = by_results (has_results r.status r.values k.outstanding) refl
    where
      there : k.outstanding ≡ Some (connect_with [] c)
      there = at.outstanding

      is : m ≡ record { packet = reply_packet r; ends = travel r }
      is = same_first m (record { packet = reply_packet r; ends = travel r }) B (further 2 r.number (drop (most_of version) r.ends)) at.back_is

      awaited : is_awaited r.number k ≡ true
      awaited = ap (λ (n : ℕ). is_awaited n k) at.so.number ∙ is_its_answer (connect_with [] c) k there at.barred

      by_results : (b : Bool) → has_results r.status r.values k.outstanding ≡ b → Result m (hears version room m.packet m.ends k)
      by_results true fits =
          let whole : Bool = is_whole r.values (travel r) in
          let y : Kept × Heard = if whole then (gone_on version k, heard.Returned c.thread (response_with (travel r) r)) else silently (record k { reply = Some (response_with (travel r) r) }) in
          inl (subst Hears
          (sym
          (ap (λ (n : Message). hears version room n.packet n.ends k) is
          ∙ hears_right version room (reply_packet r) (travel r) k at.asker_lives
          (both_true (is_awaited r.number k && is_none k.reply) (has_results r.status r.values k.outstanding) (both_true (is_awaited r.number k) (is_none k.reply) awaited (ap (λ (o : Option Response). is_none o) at.reply)) fits)
          (travelling version r.values r.ends at.so.links)
          ∙ ap (λ (o : Option Connect). reply_to o version (response_with (travel r) r) k) there))
          (reply_comes c r m whole refl at))
      by_results false fits =
          inr (record {
            came = travel r;
            unread =
                ap (λ (n : Message). hears version room n.packet n.ends k) is
                ∙ reads_not version room (reply_packet r) (travel r) k at.asker_lives
                (cannot_read version (reply_packet r) (travel r) k (either_false (is_awaited r.number k && is_none k.reply) (has_results r.status r.values k.outstanding) fits));
            reply = r;
            packet = ap (λ (n : Message). n.packet) is;
            mistyped = fits;
          })

  -- ---- a further end of it

  abbrev grown : List EndId → EndId → Response → Response
  grown came e r = response_with (came ++ e ∷ []) r

  enc_comes : (c : Connect) (r : Response) (came : List EndId) (e : EndId) (others : List EndId) (m : Message) (whole : Bool) → is_whole r.values (came ++ e ∷ []) ≡ whole →
      IsAt version (Returning c r came e others) (asking k) s (F ++ forth_in k.queue) (m ∷ B) x →
      Hears (if whole then (gone_on version k, heard.Returned c.thread (grown came e r)) else silently (record k { reply = Some (grown came e r) }))
  enc_comes c r came e [] m true whole at =
      subst (λ (xs : List EndId). Hears (gone_on version k, heard.Returned c.thread (response_with xs r))) (sym at.so.1)
      (goes_on c.thread r (enc_last version (asking k) s x c r came e m (F ++ forth_in k.queue) B at))
  enc_comes c r came e (y ∷ ys) m true whole at = absurd (too_few version r.values r.ends came e y ys at.so.0.links at.so.1 whole)
  enc_comes c r came e [] m false part at = absurd (all_there version r.values r.ends came e at.so.0.links at.so.1 part)
  enc_comes c r came e (y ∷ ys) m false part at = record {
    exchange = record {
      phase = Returning c r (came ++ e ∷ []) y ys;
      at = subst (λ (z : Exchange). IsAt version (Returning c r (came ++ e ∷ []) y ys) (asking (record k { reply = Some (grown came e r) })) s (F ++ forth_in k.queue) B z)
          (ap (λ (l : List Response). record x { returned = l }) (sym (append-nil x.returned)))
          (reply_grows version (asking k) s x c r came e y ys m (F ++ forth_in k.queue) B at);
    };
    serves = refl;
    queue = refl;
    none_accepted = refl;
    read = λ xs e. let no : heard.Nothing ≡ heard.Unreadable xs = e in absurd cc;
  }

  pub hears_reply_enc : (c : Connect) (r : Response) (came : List EndId) (e : EndId) (others : List EndId) (m : Message) → IsAt version (Returning c r came e others) (asking k) s (F ++ forth_in k.queue) (m ∷ B) x →
      Hears (hears version room m.packet m.ends k)
  hears_reply_enc c r came e others m at =
      let n : ℕ = r.number in
      let i : ℕ = length came + 1 in
      let part : k.reply ≡ Some (response_with came r) = at.reply in
      let there : k.outstanding ≡ Some (connect_with [] c) = at.outstanding in
      let is : m ≡ record { packet = packets.Enc 2 n i; ends = e ∷ [] } = same_first m (record { packet = packets.Enc 2 n i; ends = e ∷ [] }) B (encs 2 n (i + 1) others) at.back_is in
      let next : is_next_of_reply n i k.reply ≡ true = ap (is_next_of_reply n i) part ∙ both_true (n == n) (i == i) (eq-eqb n n refl) (eq-eqb i i refl) in
      let whole : Bool = is_whole r.values (came ++ e ∷ []) in
      subst Hears
      (sym
      (ap (λ (l : Message). hears version room l.packet l.ends k) is
      ∙ hears_right version room (packets.Enc 2 n i) (e ∷ []) k at.asker_lives next refl
      ∙ ap (λ (o : Option Response). reply_further o version (e ∷ []) k) part
      ∙ ap (λ (o : Option Connect). reply_to o version (grown came e r) (record k { reply = None })) there
      ∙ ap (λ (j : Kept). if whole then (j, heard.Returned c.thread (grown came e r)) else silently (record k { reply = Some (grown came e r) })) (gone_without version k)))
      (enc_comes c r came e others m whole refl at)
