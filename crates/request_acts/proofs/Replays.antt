-- A replay of one process whose next entry has no call of it.
use Rattle.std.proofs.Common.{◌≡◌, List, [], ◌∷◌, Option, Some, None, sym, ap, subst, ◌∙◌}
use Rattle.charlotte_calls.specs.declared.calls.Answer.{Answer}
use Rattle.charlotte_calls.specs.declared.calls.Call.{Call}
use Rattle.charlotte_calls.specs.declared.names.Pid.{Pid}
use Rattle.charlotte_calls.specs.declared.program.Next.{Next}
use Rattle.charlotte_calls.specs.declared.program.Next.TheVariants as next
use Rattle.kernel_entries.specs.declared.entry.Entry.{Entry}
use Rattle.language_links.specs.Replay.{Asks, IsGiven, Passes, Pauses, Replayed, Replays, Rests, StepOf, with_entry}
use Rattle.language_links.specs.Told.{Answered, Heard, call_of, hears, hears_by}

-- what a step is given is the same before the entry and behind it
pub given-stays : (p : Pid) (e : Entry) → call_of p e.what ≡ None → (last : Option Next) (h : Heard) (given : Option Answer) → IsGiven last h given → IsGiven last (hears p h e) given
given-stays p e none None h given is = is
given-stays p e none (Some next.Pause) h given is = is
given-stays p e none (Some (next.Ask c)) h (Some a) is =
    ap (λ (k : Heard). hears p k e) is ∙ ap (λ (o : Option Call). hears_by p (Answered c a) o e.steps) none
given-stays p e none (Some (next.Ask c)) h None is = absurd is
given-stays p e none (Some next.Ended) h None is = absurd is
given-stays p e none (Some next.Ended) h (Some a) is = absurd is

-- so its pauses can stand behind it
pub delayed : {S : Type 0} (step : StepOf S) (p : Pid) (e : Entry) → call_of p e.what ≡ None → {x y : Replayed S} {all : List Entry} → Replays step p x all y
    → (rest : List Entry) → all ≡ e ∷ rest → Replays step p (with_entry p e x) rest y
delayed step p e none (Rests x) rest same = let no : [] ≡ e ∷ rest = same in absurd cc
delayed step p e none (Passes x f es y quiet r) rest same =
    let head : f ≡ e = cc in
    let tail : es ≡ rest = cc in
    subst (λ (g : Entry). Replays step p (with_entry p g x) rest y) head (subst (λ (l : List Entry). Replays step p (with_entry p f x) l y) tail r)
delayed step p e none (Asks x given c f es y is asks call r) rest same =
    let head : f ≡ e = cc in
    let no : Some c ≡ None = sym call ∙ ap (λ (g : Entry). call_of p g.what) head ∙ none in
    absurd cc
delayed step p e none (Pauses x given es y is quiet r) rest same =
    Pauses (with_entry p e x) given rest y (given-stays p e none x.last x.heard given is) quiet (delayed step p e none r rest same)
