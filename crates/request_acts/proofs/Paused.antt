-- Steps without a call of one process: there is one way on.
use Rattle.std.proofs.Common.{◌≡◌, ℕ, ◌+◌, ◌≤◌, Option, Some, None, sym, ap, subst, ◌∙◌, arith}
use Rattle.charlotte_calls.specs.declared.calls.Answer.{Answer}
use Rattle.charlotte_calls.specs.declared.calls.Call.{Call}
use Rattle.charlotte_calls.specs.declared.program.Next.{Next}
use Rattle.charlotte_calls.specs.declared.program.Next.TheVariants as next
use Rattle.kernel_entries.specs.declared.entry.Entry.{Entry}
use Rattle.process_sound.specs.Runs.{step}
use Rattle.language_links.specs.Replay.{IsGiven, IsNoCall}
use Rattle.language_links.specs.Told.{Answered, Heard, call_of}
use Rattle.language_links.specs.Acting.{Acting, IsAsking, IsPausing, paused}
use Rattle.request_acts.specs.Acted.{process}
use Rattle.request_acts.proofs.Fleets.{heard_by}
use Rattle.request_acts.proofs.Replays.{given-stays}

-- by such steps it comes from one state to another
pub data Paused : Acting → Acting → Type 0 where
  Stays : (x : Acting) → Paused x x
  Then : (x : Acting) (given : Option Answer) (y : Acting) → IsPausing x given → Paused (paused given x) y → Paused x y

pub chain : {x y z : Acting} → Paused x y → Paused y z → Paused x z
chain (Stays x) more = more
chain {z = z} (Then x given y pausing rest) more = Then x given z pausing (chain rest more)

-- an entry without a call of it may stand before them
pub hears : (i : ℕ) (e : Entry) → call_of (process i) e.what ≡ None → {x y : Acting} → Paused x y → Paused (heard_by i e x) (heard_by i e y)
hears i e none (Stays x) = Stays (heard_by i e x)
hears i e none (Then x given y pausing rest) =
    Then (heard_by i e x) given (heard_by i e y) (record { is_given = given-stays (process i) e none x.replayed.last x.replayed.heard given pausing.is_given; no_call = pausing.no_call }) (hears i e none rest)

-- ---- there is one way on

pub one-given : (last : Option Next) (h : Heard) (a b : Option Answer) → IsGiven last h a → IsGiven last h b → a ≡ b
one-given None h a b first second = first ∙ sym second
one-given (Some next.Pause) h a b first second = first ∙ sym second
one-given (Some (next.Ask c)) h (Some a) (Some b) first second = let same : Answered c a ≡ Answered c b = sym first ∙ second in cc
one-given (Some (next.Ask c)) h None b first second = absurd first
one-given (Some (next.Ask c)) h (Some a) None first second = absurd second
one-given (Some next.Ended) h None b first second = absurd first
one-given (Some next.Ended) h (Some a) b first second = absurd first

no-ask : (n : Next) (c : Call) → IsNoCall n → n ≡ next.Ask c → ⊥
no-ask (next.Ask d) c none asks = none
no-ask next.Pause c none asks = let no : next.Pause ≡ next.Ask c = asks in absurd cc
no-ask next.Ended c none asks = let no : next.Ended ≡ next.Ask c = asks in absurd cc

-- a step that asks a call is none of them
never-both : (x : Acting) (a b : Option Answer) (c : Call) → IsAsking x a c → IsPausing x b → ⊥
never-both x a b c asking pausing =
    no-ask (step x.replayed.state b).0 c pausing.no_call
    (ap (λ (g : Option Answer). (step x.replayed.state g).0) (one-given x.replayed.last x.replayed.heard b a pausing.is_given asking.is_given) ∙ asking.asks)

-- so those that come from one state and ask are one
pub one-asking : {x y w z : Acting} (a b : Option Answer) (c d : Call) → Paused x y → Paused w z → w ≡ x → IsAsking y a c → IsAsking z b d → y ≡ z
one-asking a b c d (Stays x) (Stays w) same asking other = sym same
one-asking a b c d (Stays x) (Then w given z pausing rest) same asking other = absurd (never-both x a given c asking (subst (λ (v : Acting). IsPausing v given) same pausing))
one-asking a b c d (Then x given y pausing rest) (Stays w) same asking other = absurd (never-both x b given d (subst (λ (v : Acting). IsAsking v b d) same other) pausing)
one-asking a b c d (Then x given y pausing rest) (Then w given' z pausing' rest') same asking other =
    one-asking a b c d rest rest'
    (ap (λ (v : Acting). paused given' v) same
    ∙ ap (λ (g : Option Answer). paused g x) (one-given x.replayed.last x.replayed.heard given' given (subst (λ (v : Acting). IsGiven v.replayed.last v.replayed.heard given') same pausing'.is_given) pausing.is_given))
    asking other

-- and so are those after equally many steps
no-less : {x y : Acting} → Paused x y → x.replayed.steps ≤ y.replayed.steps
no-less (Stays x) = omega arith
no-less (Then x given y pausing rest) = let more : x.replayed.steps + 1 ≤ y.replayed.steps = no-less rest in omega arith

pub one-after : {x y w z : Acting} → Paused x y → Paused w z → w ≡ x → y.replayed.steps ≡ z.replayed.steps → y ≡ z
one-after (Stays x) (Stays w) same steps = sym same
one-after (Stays x) (Then w given z pausing rest) same steps =
    let more : w.replayed.steps + 1 ≤ z.replayed.steps = no-less rest in
    let here : w.replayed.steps ≡ x.replayed.steps = ap (λ (v : Acting). v.replayed.steps) same in
    absurd (omega (arith, more, here, steps))
one-after (Then x given y pausing rest) (Stays w) same steps =
    let more : x.replayed.steps + 1 ≤ y.replayed.steps = no-less rest in
    let here : w.replayed.steps ≡ x.replayed.steps = ap (λ (v : Acting). v.replayed.steps) same in
    absurd (omega (arith, more, here, steps))
one-after (Then x given y pausing rest) (Then w given' z pausing' rest') same steps =
    one-after rest rest'
    (ap (λ (v : Acting). paused given' v) same
    ∙ ap (λ (g : Option Answer). paused g x) (one-given x.replayed.last x.replayed.heard given' given (subst (λ (v : Acting). IsGiven v.replayed.last v.replayed.heard given') same pausing'.is_given) pausing.is_given))
    steps
