-- Where a link lives, what comes of a connect, and of what comes back to who asks.
use Rattle.std.proofs.Common.{◌≡◌, ℕ, ◌+◌, Bool, true, false, List, [], ◌∷◌, ◌++◌, map, length, take, Some, None, refl, sym, ap, ◌∙◌, append_assoc, append-nil, length-append}
use Rattle.std.specs.List.{AllByRecursion}
use Rattle.charlotte_calls.specs.declared.names.EndId.{EndId}
use Rattle.end_protocol.specs.declared.kept.Response.{Response}
use Rattle.end_protocol.specs.declared.kept.Taker.{Taker}
use Rattle.end_protocol.specs.declared.messages.Connect.{Connect}
use Rattle.end_protocol.specs.declared.messages.Message.{Message}
use Rattle.end_protocol.specs.Messages.{encs, left_of, most_of, request_of}
use Rattle.request_meaning.specs.Requests.{Request, request_numbers, reply_numbers}
use Rattle.request_meaning.specs.Views.{Asking, Serving}
use Rattle.request_meaning.specs.Phases.{Asked, Barred, Coming, Exchange, Forbidden, HasLinks, IsAt, LetCome, Phase, Quiet, Replied, Retried, Returning, allow, allowed, connect_with, forbid, goahead, owed_number, part, request_in, response_with, retry, unaccepted}

-- the first ends, where all travel with the packet or there are two at least in version 1
pub one_of : (version : ℕ) → version ≡ 1 → most_of version ≡ 1
one_of version first = ap most_of first

module _ {X : Type 0} where
  pub same_first : (x y : X) (xs ys : List X) → x ∷ xs ≡ y ∷ ys → x ≡ y
  same_first x y xs ys e = cc

  pub same_rest : (x y : X) (xs ys : List X) → x ∷ xs ≡ y ∷ ys → xs ≡ ys
  same_rest x y xs ys e = cc

  pub last_of : (xs : List X) (y : X) (ys zs : List X) → xs ++ y ∷ ys ≡ zs → (xs ++ y ∷ []) ++ ys ≡ zs
  last_of xs y ys zs e = append_assoc xs (y ∷ []) ys ∙ e

  pub longer_by : (xs : List X) (y : X) → length (xs ++ y ∷ []) ≡ length xs + 1
  longer_by xs y = length-append xs (y ∷ [])

module _ (version : ℕ) (a : Asking) (s : Serving) (x : Exchange) where
  abbrev asked_for : Connect → Asking
  asked_for c = record a { outstanding = Some (left_of version c); barred = false }

  -- the request of a connect that is the first
  pub connects_first : (c : Connect) (forth back : List Message) → HasLinks c.values c.ends → IsAt version Quiet a s forth back x →
      IsAt version (Asked c) (record a { outstanding = Some (left_of version c); barred = false }) s (forth ++ request_of version c ∷ []) back (record x { issued = x.issued ++ request_in c ∷ [] })
  connects_first c forth back links at = record {
    so = links;
    outstanding = refl;
    barred = refl;
    reply = at.reply;
    owed = at.owed;
    forbade = at.forbade;
    request = at.request;
    forth_is = ap (λ (l : List Message). l ++ request_of version c ∷ []) at.forth_is;
    back_is = at.back_is;
    behind = at.behind;
    none_behind = λ e. let no : Some (left_of version c) ≡ None = e in absurd cc;
    issued =
        let none : a.behind ≡ [] = at.none_behind at.outstanding in
        let old : x.issued ≡ x.accepted = at.issued ∙ ap (λ (l : List Connect). x.accepted ++ map request_in l) none ∙ append-nil x.accepted in
        ap (λ (l : List Request). l ++ request_in c ∷ []) old ∙ ap (λ (l : List Connect). x.accepted ++ (request_in c ∷ map request_in l)) (sym none);
    replied = at.replied;
    numbers = at.numbers;
    asker_lives = at.asker_lives;
    server_lives = at.server_lives;
  }

  -- a retry comes
  pub retry_comes : (c : Connect) (m : Message) (forth rest : List Message) → IsAt version (Retried c) a s forth (m ∷ rest) x →
      IsAt version (Asked c) (record a { outstanding = Some (left_of version c); barred = false }) s (forth ++ request_of version c ∷ []) rest x
  retry_comes c m forth rest at = record {
    so = at.so;
    outstanding = refl;
    barred = refl;
    reply = at.reply;
    owed = at.owed;
    forbade = at.forbade;
    request = at.request;
    forth_is = ap (λ (l : List Message). l ++ request_of version c ∷ []) at.forth_is;
    back_is = same_rest m (retry c.number (take (most_of version) c.ends)) rest [] at.back_is;
    behind = at.behind;
    none_behind = λ e. let no : Some (left_of version c) ≡ None = e in absurd cc;
    issued = at.issued;
    replied = at.replied;
    numbers = at.numbers;
    asker_lives = at.asker_lives;
    server_lives = at.server_lives;
  }

  -- an allow comes
  pub allow_comes : (c : Connect) (m : Message) (forth rest : List Message) → IsAt version (Barred c true) a s forth (m ∷ rest) x →
      IsAt version (Asked c) (record a { outstanding = Some (left_of version c); barred = false }) s (forth ++ request_of version c ∷ []) rest x
  allow_comes c m forth rest at = record {
    so = at.so;
    outstanding = refl;
    barred = refl;
    reply = at.reply;
    owed = at.owed;
    forbade = at.forbade;
    request = at.request;
    forth_is = ap (λ (l : List Message). l ++ request_of version c ∷ []) at.forth_is;
    back_is = same_rest m (allow c.number) rest [] at.back_is;
    behind = at.behind;
    none_behind = λ e. let no : Some (left_of version c) ≡ None = e in absurd cc;
    issued = at.issued;
    replied = at.replied;
    numbers = at.numbers;
    asker_lives = at.asker_lives;
    server_lives = at.server_lives;
  }

  -- a forbid comes
  pub forbid_comes : (c : Connect) (b : Bool) (m : Message) (forth rest : List Message) → IsAt version (Forbidden c b) a s forth (m ∷ rest) x →
      IsAt version (Barred c b) (record a { outstanding = Some c; barred = true }) s forth rest x
  forbid_comes c b m forth rest at = record {
    so = at.so;
    outstanding = refl;
    barred = refl;
    reply = at.reply;
    owed = at.owed;
    forbade = at.forbade;
    request = at.request;
    forth_is = at.forth_is;
    back_is = same_rest m (forbid c.number (take (most_of version) c.ends)) rest (allowed c b) at.back_is;
    behind = at.behind;
    none_behind = λ e. let no : Some c ≡ None = e in absurd cc;
    issued = at.issued;
    replied = at.replied;
    numbers = at.numbers;
    asker_lives = at.asker_lives;
    server_lives = at.server_lives;
  }

  -- a goahead comes, for these further ends
  pub goahead_comes : (c : Connect) (by : Taker) (e y : EndId) (ys : List EndId) (m : Message) (forth rest : List Message) → c.ends ≡ e ∷ y ∷ ys → IsAt version (LetCome c by) a s forth (m ∷ rest) x →
      IsAt version (Coming c by (e ∷ []) y ys) (record a { outstanding = Some (connect_with [] c) }) s (forth ++ encs 1 c.number 2 (y ∷ ys)) rest x
  goahead_comes c by e y ys m forth rest are at = record {
    so = (at.so.0, sym are);
    outstanding = refl;
    barred = at.barred;
    reply = at.reply;
    owed = at.owed;
    forbade = at.forbade;
    request = at.request ∙ ap (λ (n : ℕ). Some (part c by (take n c.ends))) (one_of version at.so.1) ∙ ap (λ (xs : List EndId). Some (part c by (take 1 xs))) are;
    forth_is = ap (λ (l : List Message). l ++ encs 1 c.number 2 (y ∷ ys)) at.forth_is;
    back_is = same_rest m (goahead c.number) rest [] at.back_is;
    behind = at.behind;
    none_behind = λ e. let no : Some (connect_with [] c) ≡ None = e in absurd cc;
    issued = at.issued;
    replied = at.replied;
    numbers = at.numbers;
    asker_lives = at.asker_lives;
    server_lives = at.server_lives;
  }

  -- a reply comes of which these further ends are still to come
  pub reply_begins : (c : Connect) (r : Response) (e y : EndId) (ys : List EndId) (m : Message) (forth rest : List Message) → r.ends ≡ e ∷ y ∷ ys → rest ≡ encs 2 r.number 2 (y ∷ ys) →
      IsAt version (Replied c r) a s forth (m ∷ rest) x → IsAt version (Returning c r (e ∷ []) y ys) (record a { reply = Some (response_with (e ∷ []) r) }) s forth rest x
  reply_begins c r e y ys m forth rest are others at = record {
    so = (at.so, sym are);
    outstanding = at.outstanding;
    barred = at.barred;
    reply = refl;
    owed = at.owed;
    forbade = at.forbade;
    request = at.request;
    forth_is = at.forth_is;
    back_is = others;
    behind = at.behind;
    none_behind = at.none_behind;
    issued = at.issued;
    replied = at.replied;
    numbers = at.numbers;
    asker_lives = at.asker_lives;
    server_lives = at.server_lives;
  }

  -- a further end of it comes, and others are still to come
  pub reply_grows : (c : Connect) (r : Response) (came : List EndId) (e y : EndId) (ys : List EndId) (m : Message) (forth rest : List Message) → IsAt version (Returning c r came e (y ∷ ys)) a s forth (m ∷ rest) x →
      IsAt version (Returning c r (came ++ e ∷ []) y ys) (record a { reply = Some (response_with (came ++ e ∷ []) r) }) s forth rest x
  reply_grows c r came e y ys m forth rest at = record {
    so = (at.so.0, last_of came e (y ∷ ys) r.ends at.so.1);
    outstanding = at.outstanding;
    barred = at.barred;
    reply = refl;
    owed = at.owed;
    forbade = at.forbade;
    request = at.request;
    forth_is = at.forth_is;
    back_is =
        same_rest m _ rest (encs 2 r.number (length came + 1 + 1) (y ∷ ys)) at.back_is
        ∙ ap (λ (n : ℕ). encs 2 r.number (n + 1) (y ∷ ys)) (sym (longer_by came e));
    behind = at.behind;
    none_behind = at.none_behind;
    issued = at.issued;
    replied = at.replied;
    numbers = at.numbers;
    asker_lives = at.asker_lives;
    server_lives = at.server_lives;
  }

  -- the last packet of a reply came
  pub record IsLast (r : Response) (forth back : List Message) : Type 0 where
    pub barred : a.barred ≡ false
    pub owed : s.owed ≡ None
    pub forbade : s.forbade ≡ None
    pub request : s.request ≡ None
    pub forth_is : forth ≡ []
    pub back_is : back ≡ []
    pub behind : AllByRecursion (λ c. HasLinks c.values c.ends) a.behind
    pub issued : x.issued ≡ x.accepted ++ map request_in a.behind
    pub replied : x.replied ≡ x.returned ++ r ∷ []
    pub numbers : request_numbers x.accepted ≡ reply_numbers x.replied ++ owed_number s.owed
    pub asker_lives : a.dead ≡ false
    pub server_lives : s.dead ≡ false

  pub reply_last : (c : Connect) (r : Response) (m : Message) (forth rest : List Message) → rest ≡ [] → IsAt version (Replied c r) a s forth (m ∷ rest) x → IsLast r forth rest
  reply_last c r m forth rest none at = record {
    barred = at.barred;
    owed = at.owed;
    forbade = at.forbade;
    request = at.request;
    forth_is = at.forth_is;
    back_is = none;
    behind = at.behind;
    issued = at.issued;
    replied = at.replied;
    numbers = at.numbers;
    asker_lives = at.asker_lives;
    server_lives = at.server_lives;
  }

  pub enc_last : (c : Connect) (r : Response) (came : List EndId) (e : EndId) (m : Message) (forth rest : List Message) → IsAt version (Returning c r came e []) a s forth (m ∷ rest) x → IsLast r forth rest
  enc_last c r came e m forth rest at = record {
    barred = at.barred;
    owed = at.owed;
    forbade = at.forbade;
    request = at.request;
    forth_is = at.forth_is;
    back_is = same_rest m _ rest [] at.back_is;
    behind = at.behind;
    issued = at.issued;
    replied = at.replied;
    numbers = at.numbers;
    asker_lives = at.asker_lives;
    server_lives = at.server_lives;
  }

  -- the connect goes on, and there is no other
  pub returns_last : (r : Response) (forth back : List Message) → a.behind ≡ [] → IsLast r forth back →
      IsAt version Quiet (record a { outstanding = None; barred = false; reply = None; behind = [] }) s forth back (record x { returned = x.returned ++ r ∷ [] })
  returns_last r forth back none last = record {
    so = tt;
    outstanding = refl;
    barred = refl;
    reply = refl;
    owed = last.owed;
    forbade = last.forbade;
    request = last.request;
    forth_is = last.forth_is;
    back_is = last.back_is;
    behind = tt;
    none_behind = λ e. refl;
    issued = last.issued ∙ ap (λ (l : List Connect). x.accepted ++ map request_in l) none;
    replied = last.replied ∙ sym (append-nil (x.returned ++ r ∷ []));
    numbers = last.numbers;
    asker_lives = last.asker_lives;
    server_lives = last.server_lives;
  }

  -- the connect goes on, and the request of the next one is queued
  pub returns_next : (r : Response) (c : Connect) (cs : List Connect) (forth back : List Message) → a.behind ≡ c ∷ cs → IsLast r forth back →
      IsAt version (Asked c) (record a { outstanding = Some (left_of version c); barred = false; reply = None; behind = cs }) s (forth ++ request_of version c ∷ []) back (record x { returned = x.returned ++ r ∷ [] })
  returns_next r c cs forth back are last =
      let behind : AllByRecursion (λ c. HasLinks c.values c.ends) (c ∷ cs) = rw are at last.behind in
      record {
        so = behind.0;
        outstanding = refl;
        barred = refl;
        reply = refl;
        owed = last.owed;
        forbade = last.forbade;
        request = last.request;
        forth_is = ap (λ (l : List Message). l ++ request_of version c ∷ []) last.forth_is;
        back_is = last.back_is;
        behind = behind.1;
        none_behind = λ e. let no : Some (left_of version c) ≡ None = e in absurd cc;
        issued = last.issued ∙ ap (λ (l : List Connect). x.accepted ++ map request_in l) are;
        replied = last.replied ∙ sym (append-nil (x.returned ++ r ∷ []));
        numbers = last.numbers;
        asker_lives = last.asker_lives;
        server_lives = last.server_lives;
      }

-- a connect behind another one, in any phase
pub connects_behind : (version : ℕ) (p : Phase) (a : Asking) (s : Serving) (x : Exchange) (c d : Connect) (forth back : List Message) → HasLinks c.values c.ends → a.outstanding ≡ Some d → IsAt version p a s forth back x →
    IsAt version p (record a { behind = a.behind ++ c ∷ [] }) s forth back (record x { issued = x.issued ++ request_in c ∷ [] })
connects_behind version p a s x c d forth back links there at = record {
  so = at.so;
  outstanding = at.outstanding;
  barred = at.barred;
  reply = at.reply;
  owed = at.owed;
  forbade = at.forbade;
  request = at.request;
  forth_is = at.forth_is;
  back_is = at.back_is;
  behind = every_and (λ (c : Connect). HasLinks c.values c.ends) a.behind c at.behind links;
  none_behind = λ e. let no : Some d ≡ None = sym there ∙ e in absurd cc;
  issued =
      ap (λ (l : List Request). l ++ request_in c ∷ []) at.issued
      ∙ append_assoc x.accepted (unaccepted p ++ map request_in a.behind) (request_in c ∷ [])
      ∙ ap (λ (l : List Request). x.accepted ++ l) (append_assoc (unaccepted p) (map request_in a.behind) (request_in c ∷ []))
      ∙ ap (λ (l : List Request). x.accepted ++ (unaccepted p ++ l)) (sym (map_and a.behind));
  replied = at.replied;
  numbers = at.numbers;
  asker_lives = at.asker_lives;
  server_lives = at.server_lives;
}
  where
    every_and : (P : Connect → Type 0) (cs : List Connect) (c : Connect) → AllByRecursion P cs → P c → AllByRecursion P (cs ++ c ∷ [])
    every_and P [] c all is = (is, tt)
    every_and P (d ∷ cs) c all is = (all.0, every_and P cs c all.1 is)

    map_and : (cs : List Connect) → map request_in (cs ++ c ∷ []) ≡ map request_in cs ++ request_in c ∷ []
    map_and [] = refl
    map_and (d ∷ cs) = ap (λ (l : List Request). request_in d ∷ l) (map_and cs)
