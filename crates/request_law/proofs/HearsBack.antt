-- Where a link lives, a message that comes back to who asks is what the phase says, and another phase comes of it.
use Rattle.std.proofs.Common.{arith, ◌≡◌, ◌⊎◌, ℕ, ◌+◌, ◌≤◌, Bool, true, false, List, [], ◌∷◌, ◌++◌, length, take, drop, Option, Some, nat_le, refl, sym, ap, subst, ◌∙◌, append_assoc, append-nil, take-append-drop, take_all, le-leb, drop_of_length-le}
use Rattle.charlotte_calls.specs.declared.names.EndId.{EndId}
use Rattle.lynx_packets.specs.declared.packet.RtPacket.TheVariants as packets
use Rattle.lynx_packets.specs.Spelling.{links_of}
use Rattle.end_protocol.specs.declared.hearing.Heard.{Heard}
use Rattle.end_protocol.specs.declared.hearing.Heard.TheVariants as heard
use Rattle.end_protocol.specs.declared.kept.Kept.{Kept}
use Rattle.end_protocol.specs.declared.kept.Response.{Response}
use Rattle.end_protocol.specs.declared.kept.Taker.{Taker}
use Rattle.end_protocol.specs.declared.messages.Connect.{Connect}
use Rattle.end_protocol.specs.declared.messages.Message.{Message}
use Rattle.end_protocol.specs.Asking.{asked}
use Rattle.end_protocol.specs.Deeds.{heard_deeds}
use Rattle.end_protocol.specs.Hearing.{back_with, brought_back, gone_ahead, hears, is_forbidden, links_out, retried, silently, has_results}
use Rattle.end_protocol.specs.Messages.{encs, further, left_of, most_of, request_of}
use Rattle.request_meaning.specs.Requests.{accepted, returned}
use Rattle.request_meaning.specs.Views.{Asking, Serving, asking, back_in, forth_in, serving}
use Rattle.request_meaning.specs.Phases.{Asked, Barred, Coming, Exchange, Forbidden, IsAt, IsExchange, LetCome, Phase, Retried, allow, allowed, connect_with, forbid, goahead, retry}
use Rattle.request_law.proofs.Lists.{back_append, forth_append}
use Rattle.request_law.proofs.Asking.{allow_comes, forbid_comes, goahead_comes, one_of, retry_comes, same_first}
use Rattle.request_law.proofs.Reading.{OneTravels, at_least_two, both_true, hears_right, is_its, is_its_answer, travelling}

-- a packet that waits in the queue, behind what is on its way
pub queued_forth : (F : List Message) (ms ns : List Message) → F ++ forth_in (ms ++ ns) ≡ (F ++ forth_in ms) ++ forth_in ns
queued_forth F ms ns = ap (λ (l : List Message). F ++ l) (forth_append ms ns) ∙ sym (append_assoc F (forth_in ms) (forth_in ns))

pub queued_back : (B : List Message) (ms ns : List Message) → B ++ back_in (ms ++ ns) ≡ (B ++ back_in ms) ++ back_in ns
queued_back B ms ns = ap (λ (l : List Message). B ++ l) (back_append ms ns) ∙ sym (append_assoc B (back_in ms) (back_in ns))

-- the enc of a request are from who asks, those of a reply are not
pub encs_forth : (n i : ℕ) (xs : List EndId) → forth_in (encs 1 n i xs) ≡ encs 1 n i xs
encs_forth n i [] = refl
encs_forth n i (x ∷ xs) = ap (λ (l : List Message). record { packet = packets.Enc 1 n i; ends = x ∷ [] } ∷ l) (encs_forth n (i + 1) xs)

pub encs_not_back : (n i : ℕ) (xs : List EndId) → back_in (encs 1 n i xs) ≡ []
encs_not_back n i [] = refl
encs_not_back n i (x ∷ xs) = encs_not_back n (i + 1) xs

pub encs_back : (n i : ℕ) (xs : List EndId) → back_in (encs 2 n i xs) ≡ encs 2 n i xs
encs_back n i [] = refl
encs_back n i (x ∷ xs) = ap (λ (l : List Message). record { packet = packets.Enc 2 n i; ends = x ∷ [] } ∷ l) (encs_back n (i + 1) xs)

pub encs_not_forth : (n i : ℕ) (xs : List EndId) → forth_in (encs 2 n i xs) ≡ []
encs_not_forth n i [] = refl
encs_not_forth n i (x ∷ xs) = encs_not_forth n (i + 1) xs

module _ (version : ℕ) (s : Serving) (x : Exchange) (F B : List Message) where
  -- Heard at this end, it leaves this kept, and this was heard: the requests that are asked here are in some phase, and of those that are
  -- served here nothing changed
  pub record HearsBack (k : Kept) (y : Kept × Heard) : Type 0 where
    pub exchange : IsExchange version (asking y.0) s (F ++ forth_in y.0.queue) B (record x { returned = x.returned ++ returned (heard_deeds y.1) })
    pub serves : serving y.0 ≡ serving k
    pub queue : back_in y.0.queue ≡ back_in k.queue
    pub none_accepted : accepted (heard_deeds y.1) ≡ []
    pub read : (xs : List EndId) → y.1 ≡ heard.Unreadable xs → ⊥

  -- or it is a reply that can't be read: it is done, and its values have not the types of the results
  pub record IsMistyped (m : Message) (k : Kept) (y : Kept × Heard) : Type 0 where
    pub came : List EndId
    pub unread : y ≡ (k, heard.Unreadable came)
    pub reply : Response
    pub packet : m.packet ≡ packets.Reply reply.number reply.status reply.values
    pub mistyped : has_results reply.status reply.values k.outstanding ≡ false

  abbrev pub HearsIt : Message → Kept → Kept × Heard → Type 0
  HearsIt m k y = HearsBack k y ⊎ IsMistyped m k y

module _ (version : ℕ) (room : Bool) (k : Kept) (s : Serving) (x : Exchange) (F B : List Message) where
  abbrev Hears : Kept × Heard → Type 0
  Hears y = HearsBack version s x F B k y

  -- ---- what is kept afterwards

  same_as : (y z : Kept × Heard) → z ≡ y → Hears y → Hears z
  same_as y z e h = subst Hears (sym e) h

  silent : (p : Phase) (j : Kept) → IsAt version p (asking j) s (F ++ forth_in j.queue) B x → serving j ≡ serving k → back_in j.queue ≡ back_in k.queue → Hears (silently j)
  silent p j at serves queue = record {
    exchange = record { phase = p; at = subst (λ (y : Exchange). IsAt version p (asking j) s (F ++ forth_in j.queue) B y) (ap (λ (l : List Response). record x { returned = l }) (sym (append-nil x.returned))) at };
    serves = serves;
    queue = queue;
    none_accepted = refl;
    read = λ xs e. let no : heard.Nothing ≡ heard.Unreadable xs = e in absurd cc;
  }

  at_queue : (p : Phase) (a : Asking) (y : Exchange) (ms ns : List Message) → forth_in ns ≡ ns → IsAt version p a s ((F ++ forth_in ms) ++ ns) B y → IsAt version p a s (F ++ forth_in (ms ++ ns)) B y
  at_queue p a y ms ns own at =
      subst (λ (l : List Message). IsAt version p a s l B y) (sym (queued_forth F ms ns ∙ ap (λ (l : List Message). (F ++ forth_in ms) ++ l) own)) at

  not_back : (ms ns : List Message) → back_in ns ≡ [] → back_in (ms ++ ns) ≡ back_in ms
  not_back ms ns none = back_append ms ns ∙ ap (λ (l : List Message). back_in ms ++ l) none ∙ append-nil (back_in ms)

  -- its request is queued again
  asks_again : (c : Connect) → IsAt version (Asked c) (record (asking k) { outstanding = Some (left_of version c); barred = false }) s ((F ++ forth_in k.queue) ++ request_of version c ∷ []) B x → Hears (silently (asked version c k))
  unfolding asked
  asks_again c at =
      silent (Asked c) (asked version c k) (at_queue (Asked c) (asking (asked version c k)) x k.queue (request_of version c ∷ []) refl at) refl
      (not_back k.queue (request_of version c ∷ []) refl)

  -- ---- retry, forbid, allow

  -- what travelled and what was left is all
  together : (c : Connect) → back_with (take (most_of version) c.ends) (left_of version c) ≡ c
  together c = ap (λ (xs : List EndId). connect_with xs c) (take-append-drop (most_of version) c.ends)

  pub hears_retry : (c : Connect) (m : Message) → IsAt version (Retried c) (asking k) s (F ++ forth_in k.queue) (m ∷ B) x → Hears (hears version room m.packet m.ends k)
  hears_retry c m at =
      let xs : List EndId = take (most_of version) c.ends in
      let there : k.outstanding ≡ Some (left_of version c) = at.outstanding in
      let is = same_first m (retry c.number xs) B [] at.back_is in
      let many : length xs ≡ brought_back version k.outstanding = travelling version c.values c.ends at.so ∙ sym (ap (brought_back version) there) in
      same_as (silently (asked version c k)) (hears version room m.packet m.ends k)
      (ap (λ (n : Message). hears version room n.packet n.ends k) is
      ∙ hears_right version room (packets.Retry c.number) xs k at.asker_lives (is_its_answer (left_of version c) k there at.barred) many
      ∙ ap (λ (o : Option Connect). silently (retried o version xs k)) there
      ∙ ap (λ (d : Connect). silently (asked version d k)) (together c))
      (asks_again c (retry_comes version (asking k) s x c m (F ++ forth_in k.queue) B at))

  pub hears_allow : (c : Connect) (m : Message) → IsAt version (Barred c true) (asking k) s (F ++ forth_in k.queue) (m ∷ B) x → Hears (hears version room m.packet m.ends k)
  hears_allow c m at =
      let there : k.outstanding ≡ Some c = at.outstanding in
      let is = same_first m (allow c.number) B [] at.back_is in
      same_as (silently (asked version c k)) (hears version room m.packet m.ends k)
      (ap (λ (n : Message). hears version room n.packet n.ends k) is
      ∙ hears_right version room (packets.Allow c.number) [] k at.asker_lives (both_true _ k.barred (is_its c k.outstanding there) at.barred) refl
      ∙ ap (λ (o : Option Connect). silently (retried o version [] k)) there)
      (asks_again c (allow_comes version (asking k) s x c m (F ++ forth_in k.queue) B at))

  pub hears_forbid : (c : Connect) (b : Bool) (m : Message) → IsAt version (Forbidden c b) (asking k) s (F ++ forth_in k.queue) (m ∷ B) x → Hears (hears version room m.packet m.ends k)
  hears_forbid c b m at =
      let xs : List EndId = take (most_of version) c.ends in
      let there : k.outstanding ≡ Some (left_of version c) = at.outstanding in
      let is = same_first m (forbid c.number xs) B (allowed c b) at.back_is in
      let many : length xs ≡ brought_back version k.outstanding = travelling version c.values c.ends at.so ∙ sym (ap (brought_back version) there) in
      same_as (silently (record k { outstanding = Some c; barred = true })) (hears version room m.packet m.ends k)
      (ap (λ (n : Message). hears version room n.packet n.ends k) is
      ∙ hears_right version room (packets.Forbid c.number) xs k at.asker_lives (is_its_answer (left_of version c) k there at.barred) many
      ∙ ap (λ (o : Option Connect). silently (is_forbidden o xs k)) there
      ∙ ap (λ (d : Connect). silently (record k { outstanding = Some d; barred = true })) (together c))
      (silent (Barred c b) (record k { outstanding = Some c; barred = true }) (forbid_comes version (asking k) s x c b m (F ++ forth_in k.queue) B at) refl refl)

  -- ---- goahead

  pub hears_goahead : (c : Connect) (by : Taker) (m : Message) → IsAt version (LetCome c by) (asking k) s (F ++ forth_in k.queue) (m ∷ B) x → Hears (hears version room m.packet m.ends k)
  hears_goahead c by m at = with_ends (at_least_two version c.ends at.so.1 at.so.2)
    where
      with_ends : OneTravels version c.ends → Hears (hears version room m.packet m.ends k)
      with_ends one =
          let e = one.first in
          let y = one.second in
          let ys = one.others in
          let there : k.outstanding ≡ Some (left_of version c) = at.outstanding in
          let is = same_first m (goahead c.number) B [] at.back_is in
          let few : length (e ∷ y ∷ ys) ≤ 8 = subst (λ (xs : List EndId). length xs ≤ 8) one.are at.so.0.few in
          let two : 2 ≤ links_of c.values = (let n : length c.ends ≡ links_of c.values = at.so.0.each in let l : 2 ≤ length c.ends = at.so.2 in omega arith) in
          let links : nat_le 2 (links_out k.outstanding) ≡ true = ap (λ (o : Option Connect). nat_le 2 (links_out o)) there ∙ le-leb 2 (links_of c.values) two in
          let left : drop (most_of version) c.ends ≡ y ∷ ys = ap (λ (n : ℕ). drop n c.ends) (one_of version one.first_version) ∙ ap (drop 1) one.are in
          let seven : take 7 (y ∷ ys) ≡ y ∷ ys = take_all 7 (y ∷ ys) (omega arith) in
          let over : drop 7 (y ∷ ys) ≡ [] = drop_of_length-le (y ∷ ys) {i = 7} (omega arith) in
          let j : Kept = record k { queue = k.queue ++ encs 1 c.number 2 (y ∷ ys); outstanding = Some (connect_with [] c) } in
          same_as (silently j) (hears version room m.packet m.ends k)
          (ap (λ (n : Message). hears version room n.packet n.ends k) is
          ∙ hears_right version room (packets.GoAhead c.number) [] k at.asker_lives
          (both_true _ (nat_le 2 (links_out k.outstanding)) (is_its_answer (left_of version c) k there at.barred) links) refl
          ∙ ap (λ (o : Option Connect). silently (gone_ahead o k)) there
          ∙ ap (λ (xs : List EndId). silently (record k { queue = k.queue ++ further 1 c.number xs; outstanding = Some (connect_with (drop 7 xs) c) })) left
          ∙ ap (λ (xs : List EndId). silently (record k { queue = k.queue ++ encs 1 c.number 2 xs; outstanding = Some (connect_with (drop 7 (y ∷ ys)) c) })) seven
          ∙ ap (λ (xs : List EndId). silently (record k { queue = k.queue ++ encs 1 c.number 2 (y ∷ ys); outstanding = Some (connect_with xs c) })) over)
          (silent (Coming c by (e ∷ []) y ys) j
          (at_queue (Coming c by (e ∷ []) y ys) (asking j) x k.queue (encs 1 c.number 2 (y ∷ ys)) (encs_forth c.number 2 (y ∷ ys))
          (goahead_comes version (asking k) s x c by e y ys m (F ++ forth_in k.queue) B one.are at))
          refl (not_back k.queue (encs 1 c.number 2 (y ∷ ys)) (encs_not_back c.number 2 (y ∷ ys))))
