-- A packet is heard on an end.
use Rattle.std.proofs.Common.{arith, ◌≡◌, ◌⊎◌, ℕ, suc, ◌≤◌, Bool, true, false, ◌&&◌, List, [], ◌∷◌, ◌++◌, map, length, drop, Option, Some, None, is_none, slice_get, if◌then◌else◌, eqb-true, eq-eqb, refl, sym, ap, subst, ◌∙◌, true≢false, ⊎_elim}
use Rattle.std.proofs.lemmas.Bool.{and_parts}
use Rattle.std.proofs.Math.Nat.{min-eq_right}
use Rattle.std.specs.Prelude.{IfSome, ◌==◌}
use Rattle.std.specs.List.{AllByRecursion}
use Rattle.charlotte_calls.specs.Ranges.{IsU32}
use Rattle.charlotte_calls.specs.declared.names.EndId.{EndId}
use Rattle.code_shapes.specs.Shapes.{PartTypes}
use Rattle.compiler_runnable.specs.Runnable.{arguments_of, parameters}
use Rattle.lynx_tree.specs.Trees.{OpTree}
use Rattle.lynx_tree.specs.declared.declaration.TypeName.{TypeName}
use Rattle.lynx_meaning.specs.Needs.{Arguments, types_of}
use Rattle.lynx_packets.specs.declared.packet.RtPacket.{RtPacket}
use Rattle.lynx_packets.specs.declared.packet.RtPacket.TheVariants as packets
use Rattle.lynx_packets.specs.declared.value.RtValue.{RtValue}
use Rattle.lynx_packets.specs.Spelling.{Has, HaveTypes, IsPacket, IsRequestOf, IsValue, links_of}
use Rattle.machine_sound.specs.Sound.{times}
use Rattle.machine_turns.specs.Turns.{Turns}
use Rattle.end_protocol.specs.declared.hearing.Heard.{Heard}
use Rattle.end_protocol.specs.declared.hearing.Heard.TheVariants as heard
use Rattle.end_protocol.specs.declared.kept.Accept.{Accept}
use Rattle.end_protocol.specs.declared.kept.Kept.{Kept}
use Rattle.end_protocol.specs.declared.kept.Response.{Response}
use Rattle.end_protocol.specs.declared.kept.Taker.{Taker}
use Rattle.end_protocol.specs.declared.kept.Taker.TheVariants as takers
use Rattle.end_protocol.specs.declared.kept.Wanted.{Wanted as Coming}
use Rattle.end_protocol.specs.declared.messages.Connect.{Connect}
use Rattle.end_protocol.specs.Asking.{asked}
use Rattle.end_protocol.specs.Falling.{outstanding_thread}
use Rattle.end_protocol.specs.Hearing.{accepted, answers, back_with, forbade, gone_ahead, gone_on, has_results, hears, is_awaited, is_forbidden, is_readable, is_whole, late_request, let_come, read, reply_further, reply_to, request_for, request_further, request_grown, retried, retry_of, sent_back, silently, unwanted, wanted}
use Rattle.end_protocol.specs.Kept.{queued}
use Rattle.end_protocol.specs.Messages.{carried, further}
use Rattle.end_protocol.specs.Wanting.{is_needed, taker}
use Rattle.process_run.specs.States.{Module}
use Rattle.process_run.specs.Actions.{served_by, served_in}
use Rattle.process_sound.specs.Machine.{asks}
use Rattle.process_sound.specs.Modules.{IsModule}
use Rattle.process_sound.specs.Packets.{Unpack}
use Rattle.process_sound.specs.Ends.{AreWaiting, IsAccepting, IsAmong, IsComing, IsConnect, IsConnecting, IsKept, IsReply, IsTaker, waiting}
use Rattle.process_sound.specs.Hearing.{HearsSo, IsTakenFor}
use Rattle.process_sound.proofs.Asking.{asked_kept, waits_as}
use Rattle.process_sound.proofs.Changing.{accepted_kept, accepted_waiting, accepted_waits, coming_kept, forbade_kept, gone_on_kept, gone_on_waiting, gone_on_waits, let_come_kept, outstanding_kept, outstanding_waiting, queued_kept, taker_is, with_reply}
use Rattle.process_sound.proofs.Ops.{op_signed, same_op}
use Rattle.process_sound.proofs.Sends.{further_send, retry_sends}
use Rattle.process_sound.proofs.Values.{tested_types, unpack}

three_parts : (a b c : Bool) → (a && b && c) ≡ true → (a ≡ true) × (b ≡ true) × (c ≡ true)
three_parts true true true e = (refl, refl, refl)
three_parts true true false e = absurd (true≢false (sym e))
three_parts true false c e = absurd (true≢false (sym e))
three_parts false b c e = absurd (true≢false (sym e))

-- in version 2 all ends of a message travel with its packet
carried_all : (version : ℕ) (vs : List RtValue) → version ≡ 2 → links_of vs ≤ 8 → carried version vs ≡ links_of vs
carried_all version vs second few = ap (λ (v : ℕ). carried v vs) second ∙ min-eq_right few

module _ (version : ℕ) (m : Module) (t : Turns) (of : (version ≡ 1) ⊎ (version ≡ 2)) (code : IsModule m) where
  abbrev So : Kept → Kept × Heard → Type 0
  So k x = HearsSo version m t k x

  -- a message that is not whole is one of version 1
  in_part : (vs : List RtValue) (xs : List EndId) → links_of vs ≤ 8 → length xs ≡ carried version vs → is_whole vs xs ≡ false → version ≡ 1
  in_part vs xs few size part =
      ⊎_elim (λ (first : version ≡ 1). first)
      (λ (second : version ≡ 2). absurd (true≢false (sym (eq-eqb (length xs) (links_of vs) (size ∙ carried_all version vs second few)) ∙ part)))
      of

  quiet : (k j : Kept) → IsKept version m j → AreWaiting m t j → waiting j ≡ waiting k → So k (silently j)
  quiet k j kept waits same = record {
    kept = kept;
    waits = waits;
    fewer = λ n. let all : times n (waiting j) ≡ times n (waiting k) = ap (times n) same in omega arith;
    fits = tt;
  }

  nothing : (k : Kept) → IsKept version m k → AreWaiting m t k → So k (silently k)
  nothing k kept waits = quiet k k kept waits refl

  -- ---- a request

  -- its values are the arguments of the operation that has its signature
  arguments_fit : (n : ℕ) (signature : List ℕ) (other : OpTree) (vs : List RtValue) → slice_get m.signatures n ≡ Some signature → AllByRecursion IsValue vs → IsRequestOf other signature vs →
      Unpack (types_of (λ o. o.arguments) (slice_get m.types.ops n)) vs
  arguments_fit n signature other vs there each is =
      let found = op_signed m code n signature there in
      let op = found.0 in
      let same = same_op m n op other signature vs found.1 found.2 is in
      subst (λ (ts : List TypeName). Unpack ts vs) (sym (ap (types_of (λ o. o.arguments)) found.1.types))
      (unpack op.arguments vs each (subst (λ (o : OpTree). HaveTypes vs o.arguments) same is.typed))

  among_accepting : (n : ℕ) (signature : List ℕ) (as' : List Accept) → IsAmong n signature as' → AllByRecursion (IsAccepting m t) as' →
      (op : ℕ) × (asks n t ≡ Some (Arguments op)) × (slice_get m.signatures op ≡ Some signature)
  among_accepting n signature [] is all = absurd is
  among_accepting n signature (a ∷ as') is all =
      ⊎_elim
      (λ (here : (a.thread ≡ n) × (a.signature ≡ signature)).
      (all.0.0, ap (λ (i : ℕ). asks i t) (sym here.0) ∙ all.0.1, all.0.2 ∙ ap (λ (s : List ℕ). Some s) here.1))
      (λ (there : IsAmong n signature as'). among_accepting n signature as' there all.1)
      is

  serves_op : (o : Option ℕ) (signature : List ℕ) (other : OpTree) (vs : List RtValue) → served_by m o ≡ Some signature → AllByRecursion IsValue vs → IsRequestOf other signature vs → Unpack (arguments_of m.types o) vs
  serves_op None signature other vs serves each is = let no : None ≡ Some signature = serves in absurd cc
  serves_op (Some op) signature other vs serves each is = arguments_fit op signature other vs serves each is

  entry_serves : (o : Option PartTypes) (signature : List ℕ) (other : OpTree) (vs : List RtValue) → served_in m o ≡ Some signature → AllByRecursion IsValue vs → IsRequestOf other signature vs →
      (p : PartTypes) × (o ≡ Some p) × Unpack (parameters m.types p) vs
  entry_serves None signature other vs serves each is = let no : None ≡ Some signature = serves in absurd cc
  entry_serves (Some p) signature other vs serves each is = (p, refl, serves_op p.op signature other vs serves each is)

  taken_for : (k : Kept) (signature : List ℕ) (other : OpTree) (vs : List RtValue) (by : Taker) → AreWaiting m t k → IsTaker m k.accepts signature by → AllByRecursion IsValue vs → IsRequestOf other signature vs →
      IsTakenFor m t by vs
  taken_for k signature other vs (takers.Thread thread) are is each request =
      let found = among_accepting thread signature k.accepts is are.accepts in
      (found.0, found.1, arguments_fit found.0 signature other vs found.2 each request)
  taken_for k signature other vs (takers.Entry entry) are is each request = entry_serves (slice_get m.parts (suc entry)) signature other vs is each request

  accepts_so : (w : Coming) (k : Kept) → IsComing m k.accepts w → IsKept version m k → AreWaiting m t k → So k (accepted w k, heard.Accepted w)
  accepts_so w k is kept are = record {
    kept = accepted_kept version m w k is.number kept;
    waits = accepted_waiting m t w k are;
    fewer = λ n. accepted_waits m n w k is.taker;
    fits = taken_for k w.signature is.op w.values w.by are is.taker is.each is.request;
  }

  let_come_so : (w : Coming) (k : Kept) → version ≡ 1 → IsComing m k.accepts w → IsKept version m k → AreWaiting m t k → So k (silently (let_come w k))
  unfolding let_come
  let_come_so w k first is kept are =
      quiet k (let_come w k) (let_come_kept version m w k first is kept) (waits_as m t k (let_come w k) refl refl refl are) refl

  wanted_so : (w : Coming) (k : Kept) → (is_whole w.values w.ends ≡ false → version ≡ 1) → IsComing m k.accepts w → IsKept version m k → AreWaiting m t k → So k (wanted w k)
  wanted_so w k part is kept are = by_whole (is_whole w.values w.ends) refl
    where
      by_whole : (b : Bool) → is_whole w.values w.ends ≡ b → So k (if b then (accepted w k, heard.Accepted w) else silently (let_come w k))
      by_whole true whole = accepts_so w k is kept are
      by_whole false whole = let_come_so w k (part whole) is kept are

  forbade_so : (number : ℕ) (signature : List ℕ) (xs : List EndId) (k : Kept) → IsU32 number → IsKept version m k → AreWaiting m t k → So k (silently (forbade number signature xs k))
  unfolding forbade
  forbade_so number signature xs k fits kept are =
      quiet k (forbade number signature xs k) (forbade_kept version m number signature xs k fits kept) (waits_as m t k (forbade number signature xs k) refl refl refl are) refl

  retry_so : (number : ℕ) (xs : List EndId) (k : Kept) → IsU32 number → IsKept version m k → AreWaiting m t k → So k (silently (queued (retry_of number xs ∷ []) k))
  unfolding queued
  retry_so number xs k fits kept are =
      quiet k (queued (retry_of number xs ∷ []) k) (queued_kept version m (retry_of number xs ∷ []) k (retry_sends version number fits, tt) kept)
      (waits_as m t k (queued (retry_of number xs ∷ []) k) refl refl refl are) refl

  unwanted_so : (room : Bool) (number : ℕ) (signature : List ℕ) (xs : List EndId) (k : Kept) → IsU32 number → IsKept version m k → AreWaiting m t k → So k (silently (unwanted room number signature xs k))
  unwanted_so room number signature xs k fits kept are = by_needed (is_needed room k)
    where
      by_needed : (b : Bool) → So k (silently (if b then forbade number signature xs k else queued (retry_of number xs ∷ []) k))
      by_needed true = forbade_so number signature xs k fits kept are
      by_needed false = retry_so number xs k fits kept are

  request_so : (o : Option Taker) (room : Bool) (number : ℕ) (signature : List ℕ) (vs : List RtValue) (xs : List EndId) (k : Kept) → taker room signature k ≡ o → IsPacket (packets.Request number signature vs) →
      length xs ≡ carried version vs → IsKept version m k → AreWaiting m t k → So k (request_for o room number signature vs xs k)
  request_so None room number signature vs xs k by is size kept are = unwanted_so room number signature xs k is.0 kept are
  request_so (Some u) room number signature vs xs k by is size kept are =
      wanted_so (record { by = u; number = number; signature = signature; values = vs; ends = xs }) k (in_part vs xs is.1.few size)
      (record { number = is.0; each = is.1.each; op = is.2; request = is.3; taker = taker_is m signature version room k u kept by }) kept are

  -- ---- a reply

  returns_so : (c : Connect) (r : Response) (k : Kept) → k.outstanding ≡ Some c → IsReply r (Some c) → IsKept version m k → AreWaiting m t k → So k (gone_on version k, heard.Returned c.thread r)
  returns_so c r k there is kept are =
      let asking : IsConnecting m t c = subst (λ (o : Option Connect). IfSome o (IsConnecting m t)) there are.outstanding in
      record {
        kept = gone_on_kept version m k kept;
        waits = gone_on_waiting m t version k are;
        fewer = λ n. let same = gone_on_waits version n c k there in omega arith;
        fits = (asking.0, asking.1, λ done. subst (λ (ts : List TypeName). Unpack ts r.values) asking.2 (unpack c.results r.values is.0 (tested_types r.values c.results (is.1 done))));
      }

  reply_so : (o : Option Connect) (r : Response) (k : Kept) → k.outstanding ≡ o → IsReply r o → IsKept version m k → AreWaiting m t k → So k (reply_to o version r k)
  reply_so None r k there is kept are = absurd is
  reply_so (Some c) r k there is kept are = by_whole (is_whole r.values r.ends)
    where
      by_whole : (b : Bool) → So k (if b then (gone_on version k, heard.Returned c.thread r) else silently (record k { reply = Some r }))
      by_whole true = returns_so c r k there is kept are
      by_whole false =
          quiet k (record k { reply = Some r }) (with_reply version m (Some r) k (subst (λ (o : Option Connect). IsReply r o) (sym there) is) kept)
          (waits_as m t k (record k { reply = Some r }) refl refl refl are) refl

  reply_is : (o : Option Connect) (r : Response) → AllByRecursion IsValue r.values → has_results r.status r.values o ≡ true → IsReply r o
  reply_is None r each results = absurd (true≢false (sym results))
  reply_is (Some c) r each results = (each, λ done. ap (λ (s : ℕ). has_results s r.values (Some c)) (sym done) ∙ results)

  -- ---- the outstanding request

  -- it is the same but for its ends
  changed_so : (c : Connect) (d : Connect) (k j : Kept) → k.outstanding ≡ Some c → d.thread ≡ c.thread → IsKept version m j → AreWaiting m t j → waiting j ≡ waiting (record k { outstanding = Some d }) → So k (silently j)
  changed_so c d k j there same kept are now =
      quiet k j kept are
      (now
      ∙ ap (λ (n : ℕ). (n ∷ []) ++ map (λ (e : Connect). e.thread) k.behind ++ map (λ (a : Accept). a.thread) k.accepts) same
      ∙ ap (λ (o : Option Connect). outstanding_thread o ++ map (λ (e : Connect). e.thread) k.behind ++ map (λ (a : Accept). a.thread) k.accepts) (sym there))

  connect_there : (c : Connect) (k : Kept) → k.outstanding ≡ Some c → IsKept version m k → IsConnect c
  connect_there c k there kept = subst (λ (o : Option Connect). IfSome o IsConnect) there kept.outstanding

  reply_there : (c : Connect) (k : Kept) → k.outstanding ≡ Some c → IsKept version m k → IfSome k.reply (λ r. IsReply r (Some c))
  reply_there c k there kept = subst (λ (o : Option Connect). IfSome k.reply (λ r. IsReply r o)) there kept.reply

  asking_there : (c : Connect) (k : Kept) → k.outstanding ≡ Some c → AreWaiting m t k → IsConnecting m t c
  asking_there c k there are = subst (λ (o : Option Connect). IfSome o (IsConnecting m t)) there are.outstanding

  retried_so : (o : Option Connect) (xs : List EndId) (k : Kept) → k.outstanding ≡ o → IsKept version m k → AreWaiting m t k → So k (silently (retried o version xs k))
  unfolding asked
  retried_so None xs k there kept are = nothing k kept are
  retried_so (Some c) xs k there kept are =
      let is = connect_there c k there kept in
      let asking = asking_there c k there are in
      changed_so c c k (asked version (back_with xs c) k) there refl
      (asked_kept version m (back_with xs c) k (record { number = is.number; sends = is.sends }) (reply_there c k there kept) kept)
      (record { outstanding = asking; behind = are.behind; accepts = are.accepts }) refl

  forbidden_so : (o : Option Connect) (xs : List EndId) (k : Kept) → k.outstanding ≡ o → IsKept version m k → AreWaiting m t k → So k (silently (is_forbidden o xs k))
  forbidden_so None xs k there kept are = nothing k kept are
  forbidden_so (Some c) xs k there kept are =
      let is = connect_there c k there kept in
      changed_so c c k (record k { outstanding = Some (back_with xs c); barred = true }) there refl
      (record {
        queue = kept.queue;
        last = kept.last;
        outstanding = record { number = is.number; sends = is.sends };
        behind = kept.behind;
        owed = kept.owed;
        forbade = kept.forbade;
        request = kept.request;
        reply = reply_there c k there kept;
        bindings = kept.bindings;
      })
      (record { outstanding = asking_there c k there are; behind = are.behind; accepts = are.accepts }) refl

  ahead_so : (o : Option Connect) (k : Kept) → version ≡ 1 → k.outstanding ≡ o → IsKept version m k → AreWaiting m t k → So k (silently (gone_ahead o k))
  ahead_so None k first there kept are = nothing k kept are
  ahead_so (Some c) k first there kept are =
      let is = connect_there c k there kept in
      let d : Connect = record c { ends = drop 7 c.ends } in
      let sends = further_send version 1 c.number c.ends first (omega arith) (omega arith) is.number in
      changed_so c d k (record k { queue = k.queue ++ further 1 c.number c.ends; outstanding = Some d }) there refl
      (outstanding_kept version m d (further 1 c.number c.ends) k.barred k (record { number = is.number; sends = is.sends }) (reply_there c k there kept) sends kept)
      (outstanding_waiting m t d (further 1 c.number c.ends) k.barred k (asking_there c k there are) are) refl

  -- ---- further ends

  more_ends : (w : Coming) (xs : List EndId) (as' : List Accept) → IsComing m as' w → IsComing m as' (record w { ends = xs })
  more_ends w xs as' is = record { number = is.number; each = is.each; op = is.op; request = is.request; taker = is.taker }

  grown_so : (w : Coming) (k : Kept) → IsComing m k.accepts w → IsKept version m k → AreWaiting m t k → So k (request_grown w k)
  grown_so w k is kept are = by_whole (is_whole w.values w.ends)
    where
      by_whole : (b : Bool) → So k (if b then (accepted w k, heard.Accepted w) else silently (record k { request = Some w }))
      by_whole true = accepts_so w k is kept are
      by_whole false = quiet k (record k { request = Some w }) (coming_kept version m w k is kept) (waits_as m t k (record k { request = Some w }) refl refl refl are) refl

  request_further_so : (o : Option Coming) (xs : List EndId) (k : Kept) → IfSome o (IsComing m k.accepts) → IsKept version m k → AreWaiting m t k → So k (request_further o xs k)
  request_further_so None xs k is kept are = nothing k kept are
  request_further_so (Some w) xs k is kept are = grown_so (record w { ends = w.ends ++ xs }) k (more_ends w (w.ends ++ xs) k.accepts is) kept are

  reply_with : (r : Response) (xs : List EndId) (o : Option Connect) → IsReply r o → IsReply (record r { ends = xs }) o
  reply_with r xs None is = is
  reply_with r xs (Some c) is = is

  reply_further_so : (o : Option Response) (xs : List EndId) (k : Kept) → IfSome o (λ r. IsReply r k.outstanding) → IsKept version m k → AreWaiting m t k → So k (reply_further o version xs k)
  reply_further_so None xs k is kept are = nothing k kept are
  reply_further_so (Some r) xs k is kept are =
      let j : Kept = record k { reply = None } in
      let so = reply_so k.outstanding (record r { ends = r.ends ++ xs }) j refl (reply_with r (r.ends ++ xs) k.outstanding is) (with_reply version m None k tt kept) (waits_as m t k j refl refl refl are) in
      record { kept = so.kept; waits = so.waits; fewer = so.fewer; fits = so.fits }

  -- ---- a packet

  pub read_so : (packet : RtPacket) (room : Bool) (xs : List EndId) (k : Kept) → Has version packet → IsPacket packet → is_readable version packet xs k ≡ true → IsKept version m k → AreWaiting m t k →
      So k (read version room packet xs k)
  unfolding is_readable
  read_so (packets.Request number signature vs) room xs k has is readable kept are =
      let both = and_parts (answers (packets.Request number signature vs) k) (length xs == carried version vs) readable in
      request_so (taker room signature k) room number signature vs xs k refl is (eqb-true (length xs) (carried version vs) both.1) kept are
  read_so (packets.Reply number status vs) room xs k has is readable kept are =
      let both = and_parts (answers (packets.Reply number status vs) k) (length xs == carried version vs) readable in
      let parts = three_parts (is_awaited number k) (is_none k.reply) (has_results status vs k.outstanding) both.0 in
      let r : Response = record { number = number; status = status; values = vs; ends = xs } in
      reply_so k.outstanding r k refl (reply_is k.outstanding r is.1.each parts.2) kept are
  read_so (packets.Retry number) room xs k has is readable kept are = retried_so k.outstanding xs k refl kept are
  read_so (packets.Forbid number) room xs k has is readable kept are = forbidden_so k.outstanding xs k refl kept are
  read_so (packets.Allow number) room xs k has is readable kept are = retried_so k.outstanding xs k refl kept are
  read_so (packets.GoAhead number) room xs k has is readable kept are = ahead_so k.outstanding k has refl kept are
  read_so (packets.Enc kind number index) room xs k has is readable kept are = by_kind (kind == 1)
    where
      by_kind : (b : Bool) → So k (if b then request_further k.request xs k else reply_further k.reply version xs k)
      by_kind true = request_further_so k.request xs k kept.request kept are
      by_kind false = reply_further_so k.reply xs k kept.reply kept are

  sent_back_so : (o : Option ℕ) (xs : List EndId) (k : Kept) → IfSome o IsU32 → IsKept version m k → AreWaiting m t k → So k (sent_back o xs k)
  sent_back_so None xs k fits kept are = record { kept = kept; waits = are; fewer = λ n. omega arith; fits = tt }
  sent_back_so (Some number) xs k fits kept are = retry_so number xs k fits kept are

  late_fits : (packet : RtPacket) (xs : List EndId) → IsPacket packet → IfSome (late_request version packet xs) IsU32
  late_fits (packets.Request number signature vs) xs is = by_size (length xs == carried version vs)
    where
      by_size : (b : Bool) → IfSome (if b then Some number else None) IsU32
      by_size true = is.0
      by_size false = tt
  late_fits _ xs is = tt

  pub hears_so : (room : Bool) (packet : RtPacket) (xs : List EndId) (k : Kept) → Has version packet → IsPacket packet → IsKept version m k → AreWaiting m t k → So k (hears version room packet xs k)
  hears_so room packet xs k has is kept are = by_dead k.dead
    where
      by_readable : (b : Bool) → is_readable version packet xs k ≡ b → So k (if b then read version room packet xs k else (k, heard.Unreadable xs))
      by_readable true readable = read_so packet room xs k has is readable kept are
      by_readable false readable = record { kept = kept; waits = are; fewer = λ n. omega arith; fits = tt }

      by_dead : (b : Bool) →
          So k (if b then sent_back (late_request version packet xs) xs k else if is_readable version packet xs k then read version room packet xs k else (k, heard.Unreadable xs))
      by_dead true = sent_back_so (late_request version packet xs) xs k (late_fits packet xs is) kept are
      by_dead false = by_readable (is_readable version packet xs k) refl
