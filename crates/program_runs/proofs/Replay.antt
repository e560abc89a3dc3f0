-- Replays, one after the other, and in parts.
use Rattle.std.proofs.Common.{◌≡◌, List, [], ◌∷◌, ◌++◌, Option, Some, None, refl, sym, ap, subst, ◌∙◌}
use Rattle.charlotte_calls.specs.Program.{FitsCall, MayFollow}
use Rattle.charlotte_calls.specs.declared.calls.Answer.{Answer}
use Rattle.charlotte_calls.specs.declared.calls.Call.{Call}
use Rattle.charlotte_calls.specs.declared.names.Pid.{Pid}
use Rattle.charlotte_calls.specs.declared.program.Next.{Next}
use Rattle.charlotte_calls.specs.declared.program.Next.TheVariants as next
use Rattle.kernel_entries.specs.declared.entry.Entry.{Entry}
use Rattle.program_runs.specs.Replay.{Asks, IsGiven, Passes, Pauses, Replayed, Replays, ReplaysVia, Rests, StepOf, with_entry, with_step}
use Rattle.told_answers.specs.Standing.{HasFitting}
use Rattle.told_answers.specs.Told.{Answered, Heard, hears, hears_all}

module _ {S : Type 0} (step : StepOf S) (p : Pid) where
  chain : {x y z : Replayed S} {es : List Entry} (more : List Entry) → Replays step p x es y → Replays step p y more z → Replays step p x (es ++ more) z
  chain more (Rests x) second = second
  chain {z = z} more (Passes x e es y none first) second = Passes x e (es ++ more) z none (chain more first second)
  chain {z = z} more (Asks x given c e es y is asks call first) second = Asks x given c e (es ++ more) z is asks call (chain more first second)
  chain {z = z} more (Pauses x given es y is none first) second = Pauses x given (es ++ more) z is none (chain more first second)

  pub replays-chain : (x y : Replayed S) (es more : List Entry) → ReplaysVia step p x es more y → Replays step p x (es ++ more) y
  replays-chain x y es more via = chain more via.first via.second

  split : (es more : List Entry) {x y : Replayed S} {all : List Entry} → Replays step p x all y → all ≡ es ++ more → ReplaysVia step p x es more y
  split [] more {x = x} {y = y} r same = record { middle = x; first = Rests x; second = subst (λ l. Replays step p x l y) same r }
  split (f ∷ es) more (Rests x) same = let no : [] ≡ f ∷ (es ++ more) = same in absurd cc
  split (f ∷ es) more (Passes x e rest y none r) same =
      let head : e ≡ f = cc in
      let tail : rest ≡ es ++ more = cc in
      let via = split es more r tail in
      record { middle = via.middle; first = subst (λ z. Replays step p x (z ∷ es) via.middle) head (Passes x e es via.middle none via.first); second = via.second }
  split (f ∷ es) more (Asks x given c e rest y is asks call r) same =
      let head : e ≡ f = cc in
      let tail : rest ≡ es ++ more = cc in
      let via = split es more r tail in
      record { middle = via.middle; first = subst (λ z. Replays step p x (z ∷ es) via.middle) head (Asks x given c e es via.middle is asks call via.first); second = via.second }
  split (f ∷ es) more (Pauses x given rest y is none r) same =
      let via = split (f ∷ es) more r same in
      record { middle = via.middle; first = Pauses x given (f ∷ es) via.middle is none via.first; second = via.second }

  pub replays-split : (x y : Replayed S) (es more : List Entry) → Replays step p x (es ++ more) y → ReplaysVia step p x es more y
  replays-split x y es more r = split es more r refl

  hears-all : {x y : Replayed S} {es : List Entry} → Replays step p x es y → y.heard ≡ hears_all p x.heard es
  hears-all (Rests x) = refl
  hears-all (Passes x e es y none r) = hears-all r
  hears-all (Asks x given c e es y is asks call r) = hears-all r
  hears-all (Pauses x given es y is none r) = hears-all r

  pub replays-hears : (x y : Replayed S) (es : List Entry) → Replays step p x es y → y.heard ≡ hears_all p x.heard es
  replays-hears x y es r = hears-all r

pub given-fits : (last : Option Next) (h : Heard) (given : Option Answer) → HasFitting h → IsGiven last h given → MayFollow last given
given-fits None h None fits is = tt
given-fits None h (Some a) fits is = let no : Some a ≡ None = is in absurd cc
given-fits (Some next.Pause) h None fits is = tt
given-fits (Some next.Pause) h (Some a) fits is = let no : Some a ≡ None = is in absurd cc
given-fits (Some (next.Ask c)) h (Some a) fits is = subst HasFitting is fits
given-fits (Some (next.Ask c)) h None fits is = absurd is
given-fits (Some next.Ended) h None fits is = absurd is
given-fits (Some next.Ended) h (Some a) fits is = absurd is
