-- Where a link lives, what comes to who serves, and what goes back.
use Rattle.std.proofs.Common.{◌≡◌, ℕ, ◌+◌, ◌≤◌, true, false, List, [], ◌∷◌, ◌++◌, map, length, take, drop, Option, Some, None, refl, sym, ap, ◌∙◌, append_assoc, append-nil}
use Rattle.charlotte_calls.specs.declared.names.EndId.{EndId}
use Rattle.end_protocol.specs.declared.kept.Response.{Response}
use Rattle.end_protocol.specs.declared.kept.Taker.{Taker}
use Rattle.end_protocol.specs.declared.messages.Connect.{Connect}
use Rattle.end_protocol.specs.declared.messages.Message.{Message}
use Rattle.end_protocol.specs.Asking.{replies}
use Rattle.end_protocol.specs.Messages.{encs, most_of, request_of}
use Rattle.request_meaning.specs.Requests.{Request, request_numbers, reply_numbers}
use Rattle.request_meaning.specs.Views.{Asking, Serving}
use Rattle.request_meaning.specs.Phases.{Asked, Barred, Coming, Exchange, Forbidden, HasLinks, IsAt, LetCome, Owed, Replied, Retried, allow, connect_with, forbid, goahead, owed_number, part, request_in, retry}
use Rattle.request_law.proofs.Asking.{last_of, longer_by, same_rest}

numbers_and : (rs : List Request) (r : Request) → request_numbers (rs ++ r ∷ []) ≡ request_numbers rs ++ r.number ∷ []
numbers_and [] r = refl
numbers_and (q ∷ rs) r = ap (λ (l : List ℕ). q.number ∷ l) (numbers_and rs r)

replies_and : (rs : List Response) (r : Response) → reply_numbers (rs ++ r ∷ []) ≡ reply_numbers rs ++ r.number ∷ []
replies_and [] r = refl
replies_and (q ∷ rs) r = ap (λ (l : List ℕ). q.number ∷ l) (replies_and rs r)

-- one more is accepted where nothing was owed, and is owed from now on
pub owed_now : (x : Exchange) (s : Serving) (r : Request) → s.owed ≡ None → request_numbers x.accepted ≡ reply_numbers x.replied ++ owed_number s.owed →
    request_numbers (x.accepted ++ r ∷ []) ≡ reply_numbers x.replied ++ r.number ∷ []
owed_now x s r none numbers =
    numbers_and x.accepted r
    ∙ ap (λ (l : List ℕ). l ++ r.number ∷ []) (numbers ∙ ap (λ (o : Option ℕ). reply_numbers x.replied ++ owed_number o) none ∙ append-nil (reply_numbers x.replied))

-- what was owed was replied to
pub replied_now : (x : Exchange) (s : Serving) (r : Response) → s.owed ≡ Some r.number → request_numbers x.accepted ≡ reply_numbers x.replied ++ owed_number s.owed →
    request_numbers x.accepted ≡ reply_numbers (x.replied ++ r ∷ []) ++ []
replied_now x s r owes numbers =
    numbers ∙ ap (λ (o : Option ℕ). reply_numbers x.replied ++ owed_number o) owes ∙ sym (replies_and x.replied r) ∙ sym (append-nil (reply_numbers (x.replied ++ r ∷ [])))

module _ (version : ℕ) (a : Asking) (s : Serving) (x : Exchange) where
  -- the next request was accepted
  next_accepted : (c : Connect) (l : List Request) → x.issued ≡ x.accepted ++ (request_in c ∷ l) → x.issued ≡ (x.accepted ++ request_in c ∷ []) ++ l
  next_accepted c l e = e ∙ sym (append_assoc x.accepted (request_in c ∷ []) l)

  -- a request comes, and is accepted at once
  pub request_accepted : (c : Connect) (m : Message) (rest back : List Message) → drop (most_of version) c.ends ≡ [] → IsAt version (Asked c) a s (m ∷ rest) back x →
      IsAt version (Owed c) a (record s { owed = Some c.number; request = None }) rest back (record x { accepted = x.accepted ++ request_in c ∷ [] })
  request_accepted c m rest back whole at = record {
    so = tt;
    outstanding = at.outstanding ∙ ap (λ (xs : List EndId). Some (connect_with xs c)) whole;
    barred = at.barred;
    reply = at.reply;
    owed = refl;
    forbade = at.forbade;
    request = refl;
    forth_is = same_rest m (request_of version c) rest [] at.forth_is;
    back_is = at.back_is;
    behind = at.behind;
    none_behind = at.none_behind;
    issued = next_accepted c (map request_in a.behind) at.issued;
    replied = at.replied;
    numbers = owed_now x s (request_in c) at.owed at.numbers;
    asker_lives = at.asker_lives;
    server_lives = at.server_lives;
  }

  -- it is wanted, and further ends are to come
  pub request_wanted : (c : Connect) (by : Taker) (m : Message) (rest back : List Message) → version ≡ 1 → 2 ≤ length c.ends → IsAt version (Asked c) a s (m ∷ rest) back x →
      IsAt version (LetCome c by) a (record s { request = Some (part c by (take (most_of version) c.ends)) }) rest (back ++ goahead c.number ∷ []) x
  request_wanted c by m rest back first two at = record {
    so = (at.so, first, two);
    outstanding = at.outstanding;
    barred = at.barred;
    reply = at.reply;
    owed = at.owed;
    forbade = at.forbade;
    request = refl;
    forth_is = same_rest m (request_of version c) rest [] at.forth_is;
    back_is = ap (λ (l : List Message). l ++ goahead c.number ∷ []) at.back_is;
    behind = at.behind;
    none_behind = at.none_behind;
    issued = at.issued;
    replied = at.replied;
    numbers = at.numbers;
    asker_lives = at.asker_lives;
    server_lives = at.server_lives;
  }

  -- it is forbidden
  pub request_forbidden : (c : Connect) (m : Message) (rest back : List Message) → IsAt version (Asked c) a s (m ∷ rest) back x →
      IsAt version (Forbidden c false) a (record s { forbade = Some (record { number = c.number; signature = c.signature }) }) rest (back ++ forbid c.number (take (most_of version) c.ends) ∷ []) x
  request_forbidden c m rest back at = record {
    so = at.so;
    outstanding = at.outstanding;
    barred = at.barred;
    reply = at.reply;
    owed = at.owed;
    forbade = refl;
    request = at.request;
    forth_is = same_rest m (request_of version c) rest [] at.forth_is;
    back_is = ap (λ (l : List Message). l ++ forbid c.number (take (most_of version) c.ends) ∷ []) at.back_is;
    behind = at.behind;
    none_behind = at.none_behind;
    issued = at.issued;
    replied = at.replied;
    numbers = at.numbers;
    asker_lives = at.asker_lives;
    server_lives = at.server_lives;
  }

  -- it may be tried again
  pub request_retried : (c : Connect) (m : Message) (rest back : List Message) → IsAt version (Asked c) a s (m ∷ rest) back x →
      IsAt version (Retried c) a s rest (back ++ retry c.number (take (most_of version) c.ends) ∷ []) x
  request_retried c m rest back at = record {
    so = at.so;
    outstanding = at.outstanding;
    barred = at.barred;
    reply = at.reply;
    owed = at.owed;
    forbade = at.forbade;
    request = at.request;
    forth_is = same_rest m (request_of version c) rest [] at.forth_is;
    back_is = ap (λ (l : List Message). l ++ retry c.number (take (most_of version) c.ends) ∷ []) at.back_is;
    behind = at.behind;
    none_behind = at.none_behind;
    issued = at.issued;
    replied = at.replied;
    numbers = at.numbers;
    asker_lives = at.asker_lives;
    server_lives = at.server_lives;
  }

  -- a further end of a request comes, and others are still to come
  pub request_grows : (c : Connect) (by : Taker) (came : List EndId) (e y : EndId) (ys : List EndId) (m : Message) (rest back : List Message) → IsAt version (Coming c by came e (y ∷ ys)) a s (m ∷ rest) back x →
      IsAt version (Coming c by (came ++ e ∷ []) y ys) a (record s { request = Some (part c by (came ++ e ∷ [])) }) rest back x
  request_grows c by came e y ys m rest back at = record {
    so = (at.so.0, last_of came e (y ∷ ys) c.ends at.so.1);
    outstanding = at.outstanding;
    barred = at.barred;
    reply = at.reply;
    owed = at.owed;
    forbade = at.forbade;
    request = refl;
    forth_is =
        same_rest m _ rest (encs 1 c.number (length came + 1 + 1) (y ∷ ys)) at.forth_is
        ∙ ap (λ (n : ℕ). encs 1 c.number (n + 1) (y ∷ ys)) (sym (longer_by came e));
    back_is = at.back_is;
    behind = at.behind;
    none_behind = at.none_behind;
    issued = at.issued;
    replied = at.replied;
    numbers = at.numbers;
    asker_lives = at.asker_lives;
    server_lives = at.server_lives;
  }

  -- the last one comes, and the request is accepted
  pub request_whole : (c : Connect) (by : Taker) (came : List EndId) (e : EndId) (m : Message) (rest back : List Message) → IsAt version (Coming c by came e []) a s (m ∷ rest) back x →
      IsAt version (Owed c) a (record s { owed = Some c.number; request = None }) rest back (record x { accepted = x.accepted ++ request_in c ∷ [] })
  request_whole c by came e m rest back at = record {
    so = tt;
    outstanding = at.outstanding;
    barred = at.barred;
    reply = at.reply;
    owed = refl;
    forbade = at.forbade;
    request = refl;
    forth_is = same_rest m _ rest [] at.forth_is;
    back_is = at.back_is;
    behind = at.behind;
    none_behind = at.none_behind;
    issued = next_accepted c (map request_in a.behind) at.issued;
    replied = at.replied;
    numbers = owed_now x s (request_in c) at.owed at.numbers;
    asker_lives = at.asker_lives;
    server_lives = at.server_lives;
  }

  -- what is owed is replied to
  pub replied_to : (c : Connect) (r : Response) (forth back : List Message) → HasLinks r.values r.ends → r.number ≡ c.number → IsAt version (Owed c) a s forth back x →
      IsAt version (Replied c r) a (record s { owed = None }) forth (back ++ replies version r) (record x { replied = x.replied ++ r ∷ [] })
  replied_to c r forth back links number at = record {
    so = record { number = number; links = links };
    outstanding = at.outstanding;
    barred = at.barred;
    reply = at.reply;
    owed = refl;
    forbade = at.forbade;
    request = at.request;
    forth_is = at.forth_is;
    back_is = ap (λ (l : List Message). l ++ replies version r) at.back_is;
    behind = at.behind;
    none_behind = at.none_behind;
    issued = at.issued;
    replied = ap (λ (l : List Response). l ++ r ∷ []) (at.replied ∙ append-nil x.returned);
    numbers = replied_now x s r (at.owed ∙ ap (λ (n : ℕ). Some n) (sym number)) at.numbers;
    asker_lives = at.asker_lives;
    server_lives = at.server_lives;
  }

  -- what was forbidden is allowed, before the forbid came or after
  pub allowed_early : (c : Connect) (forth back : List Message) → IsAt version (Forbidden c false) a s forth back x →
      IsAt version (Forbidden c true) a (record s { forbade = None }) forth (back ++ allow c.number ∷ []) x
  allowed_early c forth back at = record {
    so = at.so;
    outstanding = at.outstanding;
    barred = at.barred;
    reply = at.reply;
    owed = at.owed;
    forbade = refl;
    request = at.request;
    forth_is = at.forth_is;
    back_is = ap (λ (l : List Message). l ++ allow c.number ∷ []) at.back_is;
    behind = at.behind;
    none_behind = at.none_behind;
    issued = at.issued;
    replied = at.replied;
    numbers = at.numbers;
    asker_lives = at.asker_lives;
    server_lives = at.server_lives;
  }

  pub allowed_late : (c : Connect) (forth back : List Message) → IsAt version (Barred c false) a s forth back x →
      IsAt version (Barred c true) a (record s { forbade = None }) forth (back ++ allow c.number ∷ []) x
  allowed_late c forth back at = record {
    so = at.so;
    outstanding = at.outstanding;
    barred = at.barred;
    reply = at.reply;
    owed = at.owed;
    forbade = refl;
    request = at.request;
    forth_is = at.forth_is;
    back_is = ap (λ (l : List Message). l ++ allow c.number ∷ []) at.back_is;
    behind = at.behind;
    none_behind = at.none_behind;
    issued = at.issued;
    replied = at.replied;
    numbers = at.numbers;
    asker_lives = at.asker_lives;
    server_lives = at.server_lives;
  }
