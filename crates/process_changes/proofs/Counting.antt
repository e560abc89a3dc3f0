-- How often an end is among those that a process carries, before and after what happens at an end.
use Rattle.std.proofs.Common.{arith, ◌≡◌, ◌≤◌, ℕ, zero, suc, ◌+◌, ◌==◌, Bool, true, false, List, [], ◌∷◌, ◌++◌, map, drop, take, Option, Some, None, slice_get, slice_set, if◌then◌else◌, refl, sym, ap, ◌∙◌}
use Rattle.std.proofs.lemmas.Grind.{flat_map-append}
use Rattle.std.proofs.lemmas.List.{take-append-drop}
use Rattle.std.specs.Prelude.{is_some, not}
use Rattle.std.specs.List.{flat_map}
use Rattle.charlotte_calls.specs.EndEq.{end_eq}
use Rattle.charlotte_calls.specs.declared.names.EndId.{EndId}
use Rattle.lynx_packets.specs.declared.packet.RtPacket.{RtPacket}
use Rattle.lynx_packets.specs.declared.packet.RtPacket.TheVariants as packets
use Rattle.lynx_packets.specs.declared.value.RtValue.{RtValue}
use Rattle.end_protocol.specs.declared.hearing.Heard.{Heard}
use Rattle.end_protocol.specs.declared.hearing.Heard.TheVariants as heard
use Rattle.end_protocol.specs.declared.kept.Binding.{Binding}
use Rattle.end_protocol.specs.declared.kept.Forbade.{Forbade}
use Rattle.end_protocol.specs.declared.kept.Kept.{Kept}
use Rattle.end_protocol.specs.declared.kept.Response.{Response}
use Rattle.end_protocol.specs.declared.kept.Taker.{Taker}
use Rattle.end_protocol.specs.declared.kept.Wanted.{Wanted}
use Rattle.end_protocol.specs.declared.messages.Connect.{Connect}
use Rattle.end_protocol.specs.declared.messages.Message.{Message}
use Rattle.end_protocol.specs.Asking.{asked, binds, is_bound, is_owed, later, lined_up, replied, replies}
use Rattle.end_protocol.specs.Falling.{dies, fallen, is_own, outstanding_ends, own_ends, reply_ends, request_ends}
use Rattle.end_protocol.specs.Going.{allows, is_allow_due, sent, settled, settled_with}
use Rattle.end_protocol.specs.Happenings.{Accepts, Binds, CancelLate, Connects, Happening, ReceiveOver, Receives, Replies, SendOver, Unbinds, after}
use Rattle.end_protocol.specs.Happenings as happenings
use Rattle.end_protocol.specs.Hearing.{accepted, back_with, forbade, gone_ahead, gone_on, hears, is_forbidden, is_readable, is_whole, late_request, let_come, next_asked, read, reply_further, reply_to, request_for, request_further, request_grown, retried, sent_back, unwanted, wanted}
use Rattle.end_protocol.specs.Kept.{fresh, queued}
use Rattle.end_protocol.specs.Lists.{head, tail}
use Rattle.end_protocol.specs.Messages.{encs, further, most_of, request_of}
use Rattle.end_protocol.specs.Wanting.{is_needed, taker}
use Rattle.process_run.specs.States.{Gone, Holding, Keeps, Place}
use Rattle.process_run.specs.Ends.{place_at, set_holding, with_holding}
use Rattle.process_run.specs.Runs.{settled_at, settled_in}
use Rattle.process_changes.specs.Changes.{MayDo, taken_along}
use Rattle.process_changes.specs.Ledgers.{came_with, carried, carried_at, carried_in, given_back, how_often}
use Rattle.process_changes.proofs.Numbers.{none_at, same_place}

none_more : (n : ℕ) → n + 0 ≡ n
none_more n = omega arith

module _ (x : EndId) where
  -- ---- lists

  pub both : (ys zs : List EndId) → how_often x (ys ++ zs) ≡ how_often x ys + how_often x zs
  both [] zs = omega arith
  both (y ∷ ys) zs = let rest : how_often x (ys ++ zs) ≡ how_often x ys + how_often x zs = both ys zs in omega (arith, rest)

  pub all_of : {X : Type 0} (f : X → List EndId) (ys zs : List X) → how_often x (flat_map f (ys ++ zs)) ≡ how_often x (flat_map f ys) + how_often x (flat_map f zs)
  all_of f ys zs = ap (how_often x) (flat_map-append f ys zs) ∙ both (flat_map f ys) (flat_map f zs)

  -- what a list begins with, and the rest of it
  split : (n : ℕ) (ys : List EndId) → how_often x (take n ys) + how_often x (drop n ys) ≡ how_often x ys
  split n ys = sym (both (take n ys) (drop n ys)) ∙ ap (how_often x) (take-append-drop n ys)

  -- ---- what an end carries, part by part

  abbrev in_queue : List Message → ℕ
  in_queue ms = how_often x (flat_map (λ m. m.ends) ms)

  abbrev in_line : List Connect → ℕ
  in_line cs = how_often x (flat_map (λ c. c.ends) cs)

  abbrev of_connect : Option Connect → ℕ
  of_connect o = how_often x (outstanding_ends o)

  abbrev of_request : Option Wanted → ℕ
  of_request o = how_often x (request_ends o)

  abbrev of_reply : Option Response → ℕ
  of_reply o = how_often x (reply_ends o)

  abbrev load : Kept → ℕ
  load k = how_often x (carried k)

  abbrev sum : Kept → ℕ
  sum k = in_queue k.queue + (of_connect k.outstanding + (in_line k.behind + (of_request k.request + of_reply k.reply)))

  load_is : (k : Kept) → load k ≡ sum k
  load_is k =
      let queue : List EndId = flat_map (λ (m : Message). m.ends) k.queue in
      let line : List EndId = flat_map (λ (c : Connect). c.ends) k.behind in
      let out : List EndId = outstanding_ends k.outstanding in
      let first : load k ≡ how_often x (queue ++ out ++ line ++ request_ends k.request) + of_reply k.reply = both (queue ++ out ++ line ++ request_ends k.request) (reply_ends k.reply) in
      let second : how_often x (queue ++ out ++ line ++ request_ends k.request) ≡ how_often x (queue ++ out ++ line) + of_request k.request = both (queue ++ out ++ line) (request_ends k.request) in
      let third : how_often x (queue ++ out ++ line) ≡ how_often x (queue ++ out) + in_line k.behind = both (queue ++ out) line in
      let last : how_often x (queue ++ out) ≡ in_queue k.queue + of_connect k.outstanding = both queue out in
      omega (arith, first, second, third, last)

  -- messages join the queue
  joins : (ks ms : List Message) → in_queue (ks ++ ms) ≡ in_queue ks + in_queue ms
  joins ks ms = all_of (λ (m : Message). m.ends) ks ms

  in_encs : (kind number i : ℕ) (ys : List EndId) → in_queue (encs kind number i ys) ≡ how_often x ys
  in_encs kind number i [] = refl
  in_encs kind number i (y ∷ ys) = ap (λ (n : ℕ). (if end_eq y x then 1 else 0) + n) (in_encs kind number (i + 1) ys)

  -- ---- connects and replies

  alone : (p : RtPacket) (ys : List EndId) → in_queue (record { packet = p; ends = ys } ∷ []) ≡ how_often x ys
  alone p ys = both ys [] ∙ none_more (how_often x ys)

  asked_load : (version : ℕ) (c : Connect) (k : Kept) → load (asked version c k) + of_connect k.outstanding ≡ load k + how_often x c.ends
  unfolding asked
  asked_load version c k =
      let was : load k ≡ sum k = load_is k in
      let now : load (asked version c k) ≡ in_queue (k.queue ++ request_of version c ∷ []) + (how_often x (drop (most_of version) c.ends) + (in_line k.behind + (of_request k.request + of_reply k.reply))) = load_is (asked version c k) in
      let queue : in_queue (k.queue ++ request_of version c ∷ []) ≡ in_queue k.queue + how_often x (take (most_of version) c.ends) =
      joins k.queue (request_of version c ∷ []) ∙ ap (λ (n : ℕ). in_queue k.queue + n) (alone (request_of version c).packet (take (most_of version) c.ends)) in
      let halves : how_often x (take (most_of version) c.ends) + how_often x (drop (most_of version) c.ends) ≡ how_often x c.ends = split (most_of version) c.ends in
      omega (arith, was, now, queue, halves)

  lined_load : (version : ℕ) (c : Connect) (k : Kept) → load (lined_up version c k) ≤ load k + how_often x c.ends
  unfolding lined_up
  lined_load version c k = by_test (is_some k.outstanding)
    where
      behind : Kept
      behind = record k { behind = k.behind ++ c ∷ [] }

      by_test : (b : Bool) → load (if b then behind else asked version c k) ≤ load k + how_often x c.ends
      by_test true =
          let was : load k ≡ sum k = load_is k in
          let now : load behind ≡ in_queue k.queue + (of_connect k.outstanding + (in_line (k.behind ++ c ∷ []) + (of_request k.request + of_reply k.reply))) = load_is behind in
          let line : in_line (k.behind ++ c ∷ []) ≡ in_line k.behind + in_line (c ∷ []) = all_of (λ (d : Connect). d.ends) k.behind (c ∷ []) in
          let one : in_line (c ∷ []) ≡ how_often x c.ends + 0 = both c.ends [] in
          omega (arith, was, now, line, one)
      by_test false = let so : load (asked version c k) + of_connect k.outstanding ≡ load k + how_often x c.ends = asked_load version c k in omega (arith, so)

  further_load : (kind number : ℕ) (ys : List EndId) → in_queue (further kind number ys) ≤ how_often x ys
  further_load kind number ys =
      let encs_so : in_queue (further kind number ys) ≡ how_often x (take 7 ys) = in_encs kind number 2 (take 7 ys) in
      let halves : how_often x (take 7 ys) + how_often x (drop 7 ys) ≡ how_often x ys = split 7 ys in
      omega (arith, encs_so, halves)

  replies_load : (version : ℕ) (r : Response) → in_queue (replies version r) ≤ how_often x r.ends
  replies_load version r =
      let ends : List EndId = drop (most_of version) r.ends in
      let parts : in_queue (replies version r) ≡ how_often x (take (most_of version) r.ends) + in_queue (further 2 r.number ends) = both (take (most_of version) r.ends) (flat_map (λ (m : Message). m.ends) (further 2 r.number ends)) in
      let rest : in_queue (further 2 r.number ends) ≤ how_often x ends = further_load 2 r.number ends in
      let halves : how_often x (take (most_of version) r.ends) + how_often x ends ≡ how_often x r.ends = split (most_of version) r.ends in
      omega (arith, parts, rest, halves)

  -- with these behind its queue
  queue_load : (ms : List Message) (k l : Kept) → sum l ≡ in_queue (k.queue ++ ms) + (of_connect k.outstanding + (in_line k.behind + (of_request k.request + of_reply k.reply))) → load l ≡ load k + in_queue ms
  queue_load ms k l is =
      let was : load k ≡ sum k = load_is k in
      let now : load l ≡ sum l = load_is l in
      let queue : in_queue (k.queue ++ ms) ≡ in_queue k.queue + in_queue ms = joins k.queue ms in
      omega (arith, was, now, queue, is)

  replied_load : (version : ℕ) (r : Response) (k : Kept) → load (replied version r k) ≤ load k + how_often x r.ends
  unfolding replied
  replied_load version r k = by_owed (not (is_owed r.number k.owed)) k.dead
    where
      by_owed : (b d : Bool) → load (if b then k else if d then record k { owed = None } else record k { owed = None; queue = k.queue ++ replies version r }) ≤ load k + how_often x r.ends
      by_owed true d = omega arith
      by_owed false true = omega arith
      by_owed false false =
          let l : Kept = record k { owed = None; queue = k.queue ++ replies version r } in
          let now : load l ≡ load k + in_queue (replies version r) = queue_load (replies version r) k l refl in
          let few : in_queue (replies version r) ≤ how_often x r.ends = replies_load version r in
          omega (arith, now, few)

  binds_load : (b : Binding) (k : Kept) → load (binds b k) ≤ load k + 0
  binds_load b k = by_test (is_bound b.entry k)
    where
      by_test : (c : Bool) → load (if c then k else record k { bindings = k.bindings ++ b ∷ [] }) ≤ load k + 0
      by_test true = omega arith
      by_test false = omega arith

  plus_zero : (n m : ℕ) → m ≡ n → m ≤ n + 0
  plus_zero n m e = omega arith

  -- what a thread does
  pub may_load : (version : ℕ) (h : Happening) (k : Kept) → MayDo h k → how_often x (carried (after version h k)) ≤ how_often x (carried k) + how_often x (taken_along h)
  may_load version (Connects c) k may = lined_load version (record c { number = later k.last }) (record k { last = later k.last })
  may_load version (Replies r) k may = replied_load version r k
  may_load version (Accepts a) k may = plus_zero (load k) (load k) refl
  may_load version (Binds b) k may = binds_load b k
  may_load version (Unbinds entry) k may = plus_zero (load k) (load k) refl
  may_load version (happenings.Hears room packet xs) k may = absurd may
  may_load version (happenings.Settles room) k may = absurd may
  may_load version happenings.Sends k may = absurd may
  may_load version SendOver k may = absurd may
  may_load version Receives k may = absurd may
  may_load version ReceiveOver k may = absurd may
  may_load version CancelLate k may = absurd may
  may_load version happenings.Dies k may = absurd may

  -- ---- allows that are due, and sends

  allows_load : (number : ℕ) (k : Kept) → load (allows number k) ≡ load k + 0
  unfolding allows
  allows_load number k = queue_load (record { packet = packets.Allow number; ends = [] } ∷ []) k (allows number k) refl

  pub settled_load : (room : Bool) (k : Kept) → how_often x (carried (settled room k)) ≤ how_often x (carried k)
  settled_load room k = by_forbade k.forbade
    where
      by_test : (f : Forbade) (b : Bool) → load (if b then allows f.number k else k) ≤ load k
      by_test f true = let same : load (allows f.number k) ≡ load k + 0 = allows_load f.number k in omega (arith, same)
      by_test f false = omega arith

      by_forbade : (o : Option Forbade) → load (settled_with o room k) ≤ load k
      by_forbade None = omega arith
      by_forbade (Some f) = by_test f (is_allow_due room f k)

  tail_load : (ms : List Message) → in_queue (tail ms) ≤ in_queue ms
  tail_load [] = omega arith
  tail_load (m ∷ ms) = let parts : in_queue (m ∷ ms) ≡ how_often x m.ends + in_queue ms = both m.ends (flat_map (λ (n : Message). n.ends) ms) in omega (arith, parts)

  pub sent_load : (k : Kept) → how_often x (carried (sent k)) ≤ how_often x (carried k)
  unfolding sent
  sent_load k =
      let was : load k ≡ sum k = load_is k in
      let now : load (sent k) ≡ in_queue (tail k.queue) + (of_connect k.outstanding + (in_line k.behind + (of_request k.request + of_reply k.reply))) = load_is (sent k) in
      let less : in_queue (tail k.queue) ≤ in_queue k.queue = tail_load k.queue in
      omega (arith, was, now, less)

  -- ---- what is heard

  -- what is kept then, and what comes with it
  abbrev heard_load : Kept × Heard → ℕ
  heard_load y = load y.0 + how_often x (came_with y.1)

  -- a request
  accepted_load : (w : Wanted) (k : Kept) → load (accepted w k) + of_request k.request ≡ load k
  unfolding accepted
  accepted_load w k =
      let was : load k ≡ sum k = load_is k in
      let now : load (accepted w k) ≡ in_queue k.queue + (of_connect k.outstanding + (in_line k.behind + (0 + of_reply k.reply))) = load_is (accepted w k) in
      omega (arith, was, now)

  come_load : (w : Wanted) (k : Kept) → load (let_come w k) + of_request k.request ≡ load k + how_often x w.ends
  unfolding let_come
  come_load w k =
      let ms : List Message = record { packet = packets.GoAhead w.number; ends = [] } ∷ [] in
      let was : load k ≡ sum k = load_is k in
      let now : load (let_come w k) ≡ in_queue (k.queue ++ ms) + (of_connect k.outstanding + (in_line k.behind + (how_often x w.ends + of_reply k.reply))) = load_is (let_come w k) in
      let queue : in_queue (k.queue ++ ms) ≡ in_queue k.queue + 0 = joins k.queue ms in
      omega (arith, was, now, queue)

  wanted_load : (w : Wanted) (k : Kept) → heard_load (wanted w k) ≤ load k + how_often x w.ends
  wanted_load w k = by_test (is_whole w.values w.ends)
    where
      by_test : (b : Bool) → heard_load (if b then (accepted w k, heard.Accepted w) else (let_come w k, heard.Nothing)) ≤ load k + how_often x w.ends
      by_test true = let so : load (accepted w k) + of_request k.request ≡ load k = accepted_load w k in omega (arith, so)
      by_test false = let so : load (let_come w k) + of_request k.request ≡ load k + how_often x w.ends = come_load w k in omega (arith, so)

  forbade_load : (number : ℕ) (signature : List ℕ) (xs : List EndId) (k : Kept) → load (forbade number signature xs k) ≡ load k + how_often x xs
  unfolding forbade
  forbade_load number signature xs k =
      queue_load (record { packet = packets.Forbid number; ends = xs } ∷ []) k (forbade number signature xs k) refl
      ∙ ap (λ (n : ℕ). load k + n) (alone (packets.Forbid number) xs)

  retry_load : (number : ℕ) (xs : List EndId) (k : Kept) → load (queued (record { packet = packets.Retry number; ends = xs } ∷ []) k) ≡ load k + how_often x xs
  unfolding queued
  retry_load number xs k =
      let ms : List Message = record { packet = packets.Retry number; ends = xs } ∷ [] in
      queue_load ms k (queued ms k) refl ∙ ap (λ (n : ℕ). load k + n) (alone (packets.Retry number) xs)

  unwanted_load : (room : Bool) (number : ℕ) (signature : List ℕ) (xs : List EndId) (k : Kept) → load (unwanted room number signature xs k) ≡ load k + how_often x xs
  unwanted_load room number signature xs k = by_test (is_needed room k)
    where
      by_test : (b : Bool) → load (if b then forbade number signature xs k else queued (record { packet = packets.Retry number; ends = xs } ∷ []) k) ≡ load k + how_often x xs
      by_test true = forbade_load number signature xs k
      by_test false = retry_load number xs k

  request_load : (o : Option Taker) (room : Bool) (number : ℕ) (signature : List ℕ) (vs : List RtValue) (xs : List EndId) (k : Kept) → heard_load (request_for o room number signature vs xs k) ≤ load k + how_often x xs
  request_load None room number signature vs xs k =
      let so : load (unwanted room number signature xs k) ≡ load k + how_often x xs = unwanted_load room number signature xs k in omega (arith, so)
  request_load (Some t) room number signature vs xs k = wanted_load (record { by = t; number = number; signature = signature; values = vs; ends = xs }) k

  grown_load : (w : Wanted) (k : Kept) → heard_load (request_grown w k) + of_request k.request ≤ load k + how_often x w.ends
  grown_load w k = by_test (is_whole w.values w.ends)
    where
      part : Kept
      part = record k { request = Some w }

      by_test : (b : Bool) → heard_load (if b then (accepted w k, heard.Accepted w) else (part, heard.Nothing)) + of_request k.request ≤ load k + how_often x w.ends
      by_test true = let so : load (accepted w k) + of_request k.request ≡ load k = accepted_load w k in omega (arith, so)
      by_test false =
          let was : load k ≡ sum k = load_is k in
          let now : load part ≡ in_queue k.queue + (of_connect k.outstanding + (in_line k.behind + (how_often x w.ends + of_reply k.reply))) = load_is part in
          omega (arith, was, now)

  request_further_load : (o : Option Wanted) (xs : List EndId) (k : Kept) → k.request ≡ o → heard_load (request_further o xs k) ≤ load k + how_often x xs
  request_further_load None xs k is = omega arith
  request_further_load (Some w) xs k is =
      let so : heard_load (request_further (Some w) xs k) + of_request k.request ≤ load k + how_often x (w.ends ++ xs) = grown_load (record w { ends = w.ends ++ xs }) k in
      let old : of_request k.request ≡ how_often x w.ends = ap of_request is in
      let new : how_often x (w.ends ++ xs) ≡ how_often x w.ends + how_often x xs = both w.ends xs in
      omega (arith, so, old, new)

  -- a reply
  next_load : (version : ℕ) (o : Option Connect) (k : Kept) → load (next_asked version o k) ≤ load k + of_connect o
  next_load version None k = omega arith
  next_load version (Some c) k = let so : load (asked version c k) + of_connect k.outstanding ≡ load k + how_often x c.ends = asked_load version c k in omega (arith, so)

  line_load : (cs : List Connect) → of_connect (head cs) + in_line (tail cs) ≡ in_line cs
  line_load [] = refl
  line_load (c ∷ cs) = sym (both c.ends (flat_map (λ (d : Connect). d.ends) cs))

  gone_load : (version : ℕ) (k : Kept) → load (gone_on version k) + of_reply k.reply ≤ load k
  unfolding gone_on
  gone_load version k =
      let l : Kept = record k { reply = None; outstanding = None; barred = false; behind = tail k.behind } in
      let was : load k ≡ sum k = load_is k in
      let now : load l ≡ in_queue k.queue + (0 + (in_line (tail k.behind) + (of_request k.request + 0))) = load_is l in
      let next : load (gone_on version k) ≤ load l + of_connect (head k.behind) = next_load version (head k.behind) l in
      let line : of_connect (head k.behind) + in_line (tail k.behind) ≡ in_line k.behind = line_load k.behind in
      omega (arith, was, now, next, line)

  reply_load : (o : Option Connect) (version : ℕ) (r : Response) (k : Kept) → heard_load (reply_to o version r k) ≤ load k + how_often x r.ends
  reply_load None version r k = omega arith
  reply_load (Some c) version r k = by_test (is_whole r.values r.ends)
    where
      part : Kept
      part = record k { reply = Some r }

      by_test : (b : Bool) → heard_load (if b then (gone_on version k, heard.Returned c.thread r) else (part, heard.Nothing)) ≤ load k + how_often x r.ends
      by_test true = let so : load (gone_on version k) + of_reply k.reply ≤ load k = gone_load version k in omega (arith, so)
      by_test false =
          let was : load k ≡ sum k = load_is k in
          let now : load part ≡ in_queue k.queue + (of_connect k.outstanding + (in_line k.behind + (of_request k.request + how_often x r.ends))) = load_is part in
          omega (arith, was, now)

  reply_further_load : (o : Option Response) (version : ℕ) (xs : List EndId) (k : Kept) → k.reply ≡ o → heard_load (reply_further o version xs k) ≤ load k + how_often x xs
  reply_further_load None version xs k is = omega arith
  reply_further_load (Some r) version xs k is =
      let l : Kept = record k { reply = None } in
      let so : heard_load (reply_further (Some r) version xs k) ≤ load l + how_often x (r.ends ++ xs) = reply_load k.outstanding version (record r { ends = r.ends ++ xs }) l in
      let was : load k ≡ sum k = load_is k in
      let now : load l ≡ in_queue k.queue + (of_connect k.outstanding + (in_line k.behind + (of_request k.request + 0))) = load_is l in
      let old : of_reply k.reply ≡ how_often x r.ends = ap of_reply is in
      let new : how_often x (r.ends ++ xs) ≡ how_often x r.ends + how_often x xs = both r.ends xs in
      omega (arith, so, was, now, old, new)

  -- what comes back, and goes again
  retried_load : (o : Option Connect) (version : ℕ) (xs : List EndId) (k : Kept) → k.outstanding ≡ o → load (retried o version xs k) ≤ load k + how_often x xs
  retried_load None version xs k is = omega arith
  retried_load (Some c) version xs k is =
      let so : load (retried (Some c) version xs k) + of_connect k.outstanding ≡ load k + how_often x (xs ++ c.ends) = asked_load version (back_with xs c) k in
      let old : of_connect k.outstanding ≡ how_often x c.ends = ap of_connect is in
      let new : how_often x (xs ++ c.ends) ≡ how_often x xs + how_often x c.ends = both xs c.ends in
      omega (arith, so, old, new)

  forbidden_load : (o : Option Connect) (xs : List EndId) (k : Kept) → k.outstanding ≡ o → load (is_forbidden o xs k) ≤ load k + how_often x xs
  forbidden_load None xs k is = omega arith
  forbidden_load (Some c) xs k is =
      let l : Kept = is_forbidden (Some c) xs k in
      let was : load k ≡ sum k = load_is k in
      let now : load l ≡ in_queue k.queue + (how_often x (xs ++ c.ends) + (in_line k.behind + (of_request k.request + of_reply k.reply))) = load_is l in
      let old : of_connect k.outstanding ≡ how_often x c.ends = ap of_connect is in
      let new : how_often x (xs ++ c.ends) ≡ how_often x xs + how_often x c.ends = both xs c.ends in
      omega (arith, was, now, old, new)

  ahead_load : (o : Option Connect) (k : Kept) → k.outstanding ≡ o → load (gone_ahead o k) ≤ load k
  ahead_load None k is = omega arith
  ahead_load (Some c) k is =
      let l : Kept = gone_ahead (Some c) k in
      let ms : List Message = further 1 c.number c.ends in
      let was : load k ≡ sum k = load_is k in
      let now : load l ≡ in_queue (k.queue ++ ms) + (how_often x (drop 7 c.ends) + (in_line k.behind + (of_request k.request + of_reply k.reply))) = load_is l in
      let queue : in_queue (k.queue ++ ms) ≡ in_queue k.queue + in_queue ms = joins k.queue ms in
      let some : in_queue ms ≡ how_often x (take 7 c.ends) = in_encs 1 c.number 2 (take 7 c.ends) in
      let halves : how_often x (take 7 c.ends) + how_often x (drop 7 c.ends) ≡ how_often x c.ends = split 7 c.ends in
      let old : of_connect k.outstanding ≡ how_often x c.ends = ap of_connect is in
      omega (arith, was, now, queue, some, halves, old)

  -- any message
  quiet : (l k : Kept) (xs : List EndId) → load l ≤ load k + how_often x xs → heard_load (l, heard.Nothing) ≤ load k + how_often x xs
  quiet l k xs less = omega (arith, less)

  read_load : (version : ℕ) (room : Bool) (packet : RtPacket) (xs : List EndId) (k : Kept) → heard_load (read version room packet xs k) ≤ load k + how_often x xs
  read_load version room (packets.Request number signature vs) xs k = request_load (taker room signature k) room number signature vs xs k
  read_load version room (packets.Reply number status vs) xs k = reply_load k.outstanding version (record { number = number; status = status; values = vs; ends = xs }) k
  read_load version room (packets.Retry number) xs k = quiet (retried k.outstanding version xs k) k xs (retried_load k.outstanding version xs k refl)
  read_load version room (packets.Forbid number) xs k = quiet (is_forbidden k.outstanding xs k) k xs (forbidden_load k.outstanding xs k refl)
  read_load version room (packets.Allow number) xs k = quiet (retried k.outstanding version xs k) k xs (retried_load k.outstanding version xs k refl)
  read_load version room (packets.GoAhead number) xs k = let so : load (gone_ahead k.outstanding k) ≤ load k = ahead_load k.outstanding k refl in omega (arith, so)
  read_load version room (packets.Enc kind number index) xs k = by_test (kind == 1)
    where
      by_test : (b : Bool) → heard_load (if b then request_further k.request xs k else reply_further k.reply version xs k) ≤ load k + how_often x xs
      by_test true = request_further_load k.request xs k refl
      by_test false = reply_further_load k.reply version xs k refl

  back_load : (o : Option ℕ) (xs : List EndId) (k : Kept) → heard_load (sent_back o xs k) ≤ load k + how_often x xs
  back_load None xs k = omega arith
  back_load (Some number) xs k = let so : load (queued (record { packet = packets.Retry number; ends = xs } ∷ []) k) ≡ load k + how_often x xs = retry_load number xs k in omega (arith, so)

  pub hears_load : (version : ℕ) (room : Bool) (packet : RtPacket) (xs : List EndId) (k : Kept) →
      how_often x (carried (hears version room packet xs k).0) + how_often x (came_with (hears version room packet xs k).1) ≤ how_often x (carried k) + how_often x xs
  hears_load version room packet xs k = by_test k.dead (is_readable version packet xs k)
    where
      by_test : (d b : Bool) → heard_load (if d then sent_back (late_request version packet xs) xs k else if b then read version room packet xs k else (k, heard.Unreadable xs)) ≤ load k + how_often x xs
      by_test true b = back_load (late_request version packet xs) xs k
      by_test false true = read_load version room packet xs k
      by_test false false = omega arith

  -- ---- deaths

  own_load : (ms : List Message) → how_often x (flat_map own_ends ms) ≤ in_queue ms
  own_load [] = omega arith
  own_load (m ∷ ms) =
      let some : how_often x (own_ends m ++ flat_map own_ends ms) ≡ how_often x (own_ends m) + how_often x (flat_map own_ends ms) = both (own_ends m) (flat_map own_ends ms) in
      let all : in_queue (m ∷ ms) ≡ how_often x m.ends + in_queue ms = both m.ends (flat_map (λ (n : Message). n.ends) ms) in
      let rest : how_often x (flat_map own_ends ms) ≤ in_queue ms = own_load ms in
      let one : how_often x (own_ends m) ≤ how_often x m.ends = by_own (is_own m.packet) in
      omega (arith, some, all, rest, one)
    where
      by_own : (b : Bool) → how_often x (if b then m.ends else []) ≤ how_often x m.ends
      by_own true = omega arith
      by_own false = omega arith

  pub back_given : (k : Kept) → how_often x (given_back k) ≤ how_often x (carried k)
  unfolding fallen
  back_given k =
      let line : List EndId = flat_map (λ (c : Connect). c.ends) k.behind in
      let mine : List EndId = flat_map own_ends k.queue in
      let held : List EndId = mine ++ outstanding_ends k.outstanding ++ line in
      let was : load k ≡ sum k = load_is k in
      let all : how_often x (given_back k) ≡ how_often x held + how_often x (request_ends k.request ++ reply_ends k.reply) = both held (request_ends k.request ++ reply_ends k.reply) in
      let first : how_often x held ≡ how_often x (mine ++ outstanding_ends k.outstanding) + in_line k.behind = both (mine ++ outstanding_ends k.outstanding) line in
      let second : how_often x (mine ++ outstanding_ends k.outstanding) ≡ how_often x mine + of_connect k.outstanding = both mine (outstanding_ends k.outstanding) in
      let third : how_often x (request_ends k.request ++ reply_ends k.reply) ≡ of_request k.request + of_reply k.reply = both (request_ends k.request) (reply_ends k.reply) in
      let own : how_often x mine ≤ in_queue k.queue = own_load k.queue in
      omega (arith, was, all, first, second, third, own)

  pub dies_load : (k : Kept) → how_often x (carried (dies k)) + how_often x (given_back k) ≤ how_often x (carried k)
  unfolding dies
  dies_load k =
      let none : how_often x (carried (dies k)) ≡ 0 = refl in
      let back : how_often x (given_back k) ≤ how_often x (carried k) = back_given k in
      omega (arith, none, back)

  -- ---- places

  abbrev pub in_places : List Place → ℕ
  in_places ps = how_often x (carried_at ps)

  abbrev pub of_holding : Holding → ℕ
  of_holding g = how_often x (carried_in g)

  pub first_of : (p : Place) (ps : List Place) → in_places (p ∷ ps) ≡ of_holding p.holding + in_places ps
  first_of p ps = both (carried_in p.holding) (carried_at ps)

  set_load : (i : ℕ) (p q : Place) (ps : List Place) → slice_get ps i ≡ Some p → in_places (slice_set ps i q) + of_holding p.holding ≡ in_places ps + of_holding q.holding
  set_load i p q [] at = absurd (none_at p at)
  set_load zero p q (r ∷ ps) at =
      let was : in_places (r ∷ ps) ≡ of_holding r.holding + in_places ps = first_of r ps in
      let now : in_places (q ∷ ps) ≡ of_holding q.holding + in_places ps = first_of q ps in
      let same : of_holding r.holding ≡ of_holding p.holding = ap (λ (s : Place). of_holding s.holding) (same_place r p at) in
      omega (arith, was, now, same)
  set_load (suc i) p q (r ∷ ps) at =
      let was : in_places (r ∷ ps) ≡ of_holding r.holding + in_places ps = first_of r ps in
      let now : in_places (r ∷ slice_set ps i q) ≡ of_holding r.holding + in_places (slice_set ps i q) = first_of r (slice_set ps i q) in
      let rest : in_places (slice_set ps i q) + of_holding p.holding ≡ in_places ps + of_holding q.holding = set_load i p q ps at in
      omega (arith, was, now, rest)

  -- one place changes
  pub with_load : (n : ℕ) (p : Place) (g : Holding) (ps : List Place) → place_at n ps ≡ Some p → in_places (with_holding n g ps) + of_holding p.holding ≡ in_places ps + of_holding g
  with_load zero p g ps at = absurd (none_at p at)
  with_load (suc i) p g ps at =
      ap (λ (o : Option Place). in_places (set_holding i g o ps) + of_holding p.holding) at ∙ set_load i p (record p { holding = g }) ps at

  -- allows that are due
  pub settle_load : (room : Bool) (ps : List Place) → in_places (map (settled_at room) ps) ≤ in_places ps
  settle_load room [] = omega arith
  settle_load room (p ∷ ps) =
      let was : in_places (p ∷ ps) ≡ of_holding p.holding + in_places ps = first_of p ps in
      let now : in_places (settled_at room p ∷ map (settled_at room) ps) ≡ of_holding (settled_in room p.holding) + in_places (map (settled_at room) ps) = first_of (settled_at room p) (map (settled_at room) ps) in
      let one : of_holding (settled_in room p.holding) ≤ of_holding p.holding = by_holding p.holding in
      let rest : in_places (map (settled_at room) ps) ≤ in_places ps = settle_load room ps in
      omega (arith, was, now, one, rest)
    where
      by_holding : (g : Holding) → of_holding (settled_in room g) ≤ of_holding g
      by_holding (Keeps k) = settled_load room k
      by_holding (Gone own) = omega arith

  -- one place more
  pub got_load : (y : EndId) (ps : List Place) → in_places (ps ++ record { end = y; holding = Keeps fresh } ∷ []) ≡ in_places ps
  got_load y ps = all_of (λ (p : Place). carried_in p.holding) ps (record { end = y; holding = Keeps fresh } ∷ []) ∙ none_more (in_places ps)
