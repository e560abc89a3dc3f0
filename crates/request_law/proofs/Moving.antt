-- Where a link lives, an end that is at rest goes to another process; and the first packet of a queue is sent.
use Rattle.std.proofs.Common.{arith, ◌≡◌, ℕ, ◌+◌, ◌≤◌, Bool, true, false, ◌||◌, not, List, [], ◌∷◌, ◌++◌, length, take, drop, min, Option, Some, None, is_some, refl, sym, ap, subst, ◌∙◌, append_assoc, length-take, take_all}
use Rattle.std.specs.List.{AllByRecursion}
use Rattle.charlotte_calls.specs.declared.names.EndId.{EndId}
use Rattle.end_protocol.specs.declared.kept.Forbade.{Forbade}
use Rattle.end_protocol.specs.declared.kept.Kept.{Kept}
use Rattle.end_protocol.specs.declared.kept.Response.{Response}
use Rattle.end_protocol.specs.declared.kept.Wanted.{Wanted}
use Rattle.end_protocol.specs.declared.messages.Connect.{Connect}
use Rattle.end_protocol.specs.declared.messages.Message.{Message}
use Rattle.end_protocol.specs.Kept.{fresh}
use Rattle.end_protocol.specs.Lists.{is_nil}
use Rattle.end_protocol.specs.Messages.{encs, most_of}
use Rattle.end_protocol.specs.Wanting.{is_busy}
use Rattle.request_meaning.specs.Views.{Asking, Serving, asking, asks, back_in, forth_in, serving}
use Rattle.request_meaning.specs.Phases.{Asked, Barred, Coming, Exchange, Forbidden, IsAt, IsExchange, LetCome, Owed, Phase, Quiet, Replied, Retried, Returning, allowed, stands}
use Rattle.request_meaning.specs.Links.{enclosing}
use Rattle.request_law.proofs.Lists.{back_append, back_first, forth_append, forth_first}
use Rattle.request_law.proofs.Reading.{some_travel}
use Rattle.request_law.proofs.Happening.{Keeps, asks_as_before, quiet_only, serves_as_before}

-- ---- at rest

neither : (a b : Bool) → (a || b) ≡ false → (a ≡ false) × (b ≡ false)
neither false b e = (refl, e)
neither true b e = let no : true ≡ false = e in absurd cc

nil_if : {X : Type 0} (xs : List X) → not (is_nil xs) ≡ false → xs ≡ []
nil_if [] e = refl
nil_if (x ∷ xs) e = let no : true ≡ false = e in absurd cc

none_if : {X : Type 0} (o : Option X) → is_some o ≡ false → o ≡ None
none_if None e = refl
none_if (Some x) e = let no : true ≡ false = e in absurd cc

pub record IsAtRest (k : Kept) : Type 0 where
  pub queue : k.queue ≡ []
  pub outstanding : k.outstanding ≡ None
  pub owed : k.owed ≡ None
  pub forbade : k.forbade ≡ None

pub at_rest : (k : Kept) → is_busy k ≡ false → IsAtRest k
unfolding is_busy
at_rest k e =
    let eight = neither _ (not (is_nil k.accepts)) e in
    let seven = neither _ (not (is_nil k.bindings)) eight.0 in
    let six = neither _ (is_some k.forbade) seven.0 in
    let five = neither _ (is_some k.owed) six.0 in
    let four = neither _ (is_some k.outstanding) five.0 in
    let three = neither _ _ four.0 in
    let two = neither (not (is_nil k.queue)) _ three.0 in
    record { queue = nil_if k.queue two.0; outstanding = none_if k.outstanding four.1; owed = none_if k.owed five.1; forbade = none_if k.forbade six.1 }

asks_fresh : (a : Asking) → a.outstanding ≡ None → a.barred ≡ false → a.reply ≡ None → a.behind ≡ [] → a.dead ≡ false → asking fresh ≡ a
asks_fresh a outstanding barred reply behind dead =
    sym
    (ap (λ (o : Option Connect). record a { outstanding = o }) outstanding
    ∙ ap (λ (b : Bool). record a { outstanding = None; barred = b }) barred
    ∙ ap (λ (o : Option Response). record a { outstanding = None; barred = false; reply = o }) reply
    ∙ ap (λ (cs : List Connect). record a { outstanding = None; barred = false; reply = None; behind = cs }) behind
    ∙ ap (λ (b : Bool). record a { outstanding = None; barred = false; reply = None; behind = []; dead = b }) dead)

serves_fresh : (s : Serving) → s.owed ≡ None → s.forbade ≡ None → s.request ≡ None → s.dead ≡ false → serving fresh ≡ s
serves_fresh s owed forbade request dead =
    sym
    (ap (λ (o : Option ℕ). record s { owed = o }) owed
    ∙ ap (λ (o : Option Forbade). record s { owed = None; forbade = o }) forbade
    ∙ ap (λ (o : Option Wanted). record s { owed = None; forbade = None; request = o }) request
    ∙ ap (λ (b : Bool). record s { owed = None; forbade = None; request = None; dead = b }) dead)

pub move_keeps : (version : ℕ) (k : Kept) → is_busy k ≡ false → k.request ≡ None → k.dead ≡ false → Keeps version k fresh []
move_keeps version k rests whole lives =
    let rest = at_rest k rests in
    record {
      asks = λ s F B x at.
          let quiet : IsAt version Quiet (asking k) s (F ++ forth_in k.queue) B x = quiet_only version at.phase (asking k) s (F ++ forth_in k.queue) B x rest.outstanding at.at in
          asks_as_before version k fresh [] s F B x (asks_fresh (asking k) rest.outstanding quiet.barred quiet.reply (quiet.none_behind rest.outstanding) lives) (ap forth_in (sym rest.queue)) refl refl at;
      serves = λ a F B x at.
          serves_as_before version k fresh [] a F B x (serves_fresh (serving k) rest.owed rest.forbade whole lives) (ap back_in (sym rest.queue)) refl refl at;
    }

-- ---- sends

-- as many ends travel with a packet as may
abbrev pub IsShort : ℕ → Message → Type 0
IsShort version m = length m.ends ≤ most_of version

module _ (version : ℕ) where
  take_short : (xs : List EndId) → length (take (most_of version) xs) ≤ most_of version
  take_short xs = let n : length (take (most_of version) xs) ≡ min (most_of version) (length xs) = length-take (most_of version) xs in omega arith

  encs_short : (kind n i : ℕ) (xs : List EndId) → AllByRecursion (IsShort version) (encs kind n i xs)
  encs_short kind n i [] = tt
  encs_short kind n i (x ∷ xs) = (some_travel version, encs_short kind n (i + 1) xs)

  none_short : 0 ≤ most_of version
  none_short = omega arith

  forth_short : (p : Phase) → AllByRecursion (IsShort version) (stands version p).forth
  forth_short (Asked c) = (take_short c.ends, tt)
  forth_short (Coming c by came e es) = encs_short 1 c.number (length came + 1) (e ∷ es)
  forth_short Quiet = tt
  forth_short (Retried c) = tt
  forth_short (Forbidden c b) = tt
  forth_short (Barred c b) = tt
  forth_short (LetCome c by) = tt
  forth_short (Owed c) = tt
  forth_short (Replied c r) = tt
  forth_short (Returning c r came e es) = tt

  allowed_short : (c : Connect) (b : Bool) → AllByRecursion (IsShort version) (allowed c b)
  allowed_short c true = (none_short, tt)
  allowed_short c false = tt

  back_short : (p : Phase) → AllByRecursion (IsShort version) (stands version p).back
  back_short (Retried c) = (take_short c.ends, tt)
  back_short (Forbidden c b) = (take_short c.ends, allowed_short c b)
  back_short (Barred c b) = allowed_short c b
  back_short (LetCome c by) = (none_short, tt)
  back_short (Replied c r) = (take_short r.ends, encs_short 2 r.number 2 (take 7 (drop (most_of version) r.ends)))
  back_short (Returning c r came e es) = encs_short 2 r.number (length came + 1) (e ∷ es)
  back_short Quiet = tt
  back_short (Asked c) = tt
  back_short (Coming c by came e es) = tt
  back_short (Owed c) = tt

  -- one among others
  among : (P : Message → Type 0) (ms : List Message) (m : Message) (ns : List Message) → AllByRecursion P (ms ++ m ∷ ns) → P m
  among P [] m ns all = all.0
  among P (l ∷ ms) m ns all = among P ms m ns all.1

  short_asked : (a : Asking) (s : Serving) (there rest : List Message) (m : Message) (B : List Message) (x : Exchange) → asks m.packet ≡ true →
      IsExchange version a s (forth_in there ++ forth_in (m ∷ rest)) B x → IsShort version m
  short_asked a s there rest m B x own at =
      among (IsShort version) (forth_in there) m (forth_in rest)
      (subst (λ (l : List Message). AllByRecursion (IsShort version) l) (sym at.at.forth_is ∙ ap (λ (l : List Message). forth_in there ++ l) (forth_first m rest own)) (forth_short at.phase))

  short_served : (a : Asking) (s : Serving) (there rest : List Message) (m : Message) (F : List Message) (x : Exchange) → asks m.packet ≡ false →
      IsExchange version a s F (back_in there ++ back_in (m ∷ rest)) x → IsShort version m
  short_served a s there rest m F x other at =
      among (IsShort version) (back_in there) m (back_in rest)
      (subst (λ (l : List Message). AllByRecursion (IsShort version) l) (sym at.at.back_is ∙ ap (λ (l : List Message). back_in there ++ l) (back_first m rest other)) (back_short at.phase))

  -- its ends are those that the Send encloses
  pub encloses_all : (m : Message) → IsShort version m → enclosing version m ≡ m
  encloses_all m short = ap (λ (xs : List EndId). record m { ends = xs }) (take_all (most_of version) m.ends short)

  pub sends_short : (a b : Asking) (s t : Serving) (there rest : List Message) (m : Message) (F B : List Message) (x y : Exchange) → IsExchange version a s (forth_in there ++ forth_in (m ∷ rest)) B x →
      IsExchange version b t F (back_in there ++ back_in (m ∷ rest)) y → IsShort version m
  sends_short a b s t there rest m F B x y near far = by_packet (asks m.packet) refl
    where
      by_packet : (is : Bool) → asks m.packet ≡ is → IsShort version m
      by_packet true e = short_asked a s there rest m B x e near
      by_packet false e = short_served b t there rest m F y e far

-- what was first in the queue is last on its way
pub forth_sent : (there : List Message) (m : Message) (rest : List Message) → forth_in (there ++ m ∷ []) ++ forth_in rest ≡ forth_in there ++ forth_in (m ∷ rest)
forth_sent there m rest =
    ap (λ (l : List Message). l ++ forth_in rest) (forth_append there (m ∷ [])) ∙ append_assoc (forth_in there) (forth_in (m ∷ [])) (forth_in rest)
    ∙ ap (λ (l : List Message). forth_in there ++ l) (sym (forth_append (m ∷ []) rest))

pub back_sent : (there : List Message) (m : Message) (rest : List Message) → back_in (there ++ m ∷ []) ++ back_in rest ≡ back_in there ++ back_in (m ∷ rest)
back_sent there m rest =
    ap (λ (l : List Message). l ++ back_in rest) (back_append there (m ∷ [])) ∙ append_assoc (back_in there) (back_in (m ∷ [])) (back_in rest)
    ∙ ap (λ (l : List Message). back_in there ++ l) (sym (back_append (m ∷ []) rest))
