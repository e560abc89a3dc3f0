-- The values that are carried, one after the other.
use Rattle.std.proofs.Common.{◌≡◌, ℕ, Bool, true, false, not, ◌&&◌, ◌||◌, cond, List, [], ◌∷◌, ◌++◌, refl, sym, ap, ◌∙◌, append_assoc}
use Rattle.std.specs.List.{list_any}
use Rattle.charlotte_calls.specs.declared.names.EndId.{EndId}
use Rattle.charlotte_packets.specs.declared.picture.MovingPicture.{MovingPicture}
use Rattle.end_table.specs.Entries.{settled}
use Rattle.end_table.specs.Place.{put, end_eq}
use Rattle.end_table.proofs.EndEq.{end_eq-same, end_eq-sym, put-at, put-other}
use Rattle.end_table.specs.declared.entry.Entry.{Entry}
use Rattle.end_table.specs.declared.entry.Entry.TheVariants as entry
use Rattle.end_table.specs.declared.entry.Holder.{Holder}
use Rattle.kernel_step.specs.Rows.{is_carried, is_here, is_unmade, passing, arriving, ends_in}
use Rattle.kernel_event.specs.Arrived.{with_here}

-- the first value that passes, and then the others
pub passing-more : (k made : ℕ) (t : EndId → Entry) (m : MovingPicture) (ms all before mid : List MovingPicture) → all ≡ m ∷ ms → mid ≡ cond (is_carried k made t m) (before ++ m ∷ []) before → mid ++ passing k made t ms ≡ before ++ passing k made t all
passing-more k made t m ms all before mid is added = ap (λ l. l ++ passing k made t ms) added ∙ by (is_carried k made t m) ∙ ap (λ l. before ++ passing k made t l) (sym is)
  where
    by : (b : Bool) → cond b (before ++ m ∷ []) before ++ passing k made t ms ≡ before ++ cond b (m ∷ passing k made t ms) (passing k made t ms)
    by true = append_assoc before (m ∷ []) (passing k made t ms)
    by false = refl

-- an end is here after values became here where it was before, or is one of theirs
is_here-with_here : (h : Holder) (came : List MovingPicture) (t : EndId → Entry) (e : EndId) → not (is_here (with_here h came t e)) ≡ (not (is_here (t e)) && not (list_any (end_eq e) (ends_in came)))
unfolding with_here
is_here-with_here h [] t e = by (is_here (t e))
  where
    by : (b : Bool) → not b ≡ (not b && not false)
    by true = refl
    by false = refl
is_here-with_here h (m ∷ came) t e = is_here-with_here h came (put t m.end (entry.Here (settled h m))) e ∙ by (end_eq m.end e) refl
  where
    rest : Bool
    rest = list_any (end_eq e) (ends_in came)

    here_now : Entry → Bool
    here_now x = is_here x

    by : (b : Bool) → end_eq m.end e ≡ b → (not (is_here (put t m.end (entry.Here (settled h m)) e)) && not rest) ≡ (not (is_here (t e)) && not (end_eq e m.end || rest))
    by true same =
        ap (λ x. not (is_here x) && not rest) (ap (put t m.end (entry.Here (settled h m))) (sym (end_eq-same m.end e same)) ∙ put-at t m.end (entry.Here (settled h m)))
        ∙ sym (ap (λ c. not (is_here (t e)) && not (c || rest)) (end_eq-sym e m.end ∙ same) ∙ none (is_here (t e)))
      where
        none : (c : Bool) → (not c && not true) ≡ false
        none true = refl
        none false = refl
    by false apart =
        ap (λ x. not (is_here x) && not rest) (put-other t m.end (entry.Here (settled h m)) e apart)
        ∙ sym (ap (λ c. not (is_here (t e)) && not (c || rest)) (end_eq-sym e m.end ∙ apart))

-- a value is carried behind others where it is carried and its end is none of theirs
carried-with_here : (k made : ℕ) (h : Holder) (came : List MovingPicture) (t : EndId → Entry) (m : MovingPicture) → (is_carried k made t m && not (list_any (end_eq m.end) (ends_in came))) ≡ is_carried k made (with_here h came t) m
carried-with_here k made h came t m =
    swap (not (is_here (t m.end))) (not (is_unmade k made m)) (not (list_any (end_eq m.end) (ends_in came)))
    ∙ ap (λ b. b && not (is_unmade k made m)) (sym (is_here-with_here h came t m.end))
  where
    swap : (a b c : Bool) → ((a && b) && c) ≡ ((a && c) && b)
    swap true true c = by c
      where
        by : (c : Bool) → c ≡ (c && true)
        by true = refl
        by false = refl
    swap true false true = refl
    swap true false false = refl
    swap false b c = refl

-- one more value became here
with_here-more : (h : Holder) (came : List MovingPicture) (m : MovingPicture) (t : EndId → Entry) → with_here h (came ++ m ∷ []) t ≡ put (with_here h came t) m.end (entry.Here (settled h m))
unfolding with_here
with_here-more h [] m t = refl
with_here-more h (c ∷ came) m t = with_here-more h came m (put t c.end (entry.Here (settled h c)))

-- the first value that becomes here, and then the others
pub arriving-more : (k made : ℕ) (h : Holder) (t : EndId → Entry) (m : MovingPicture) (ms all before mid : List MovingPicture) → all ≡ m ∷ ms
    → mid ≡ cond (is_carried k made t m && not (list_any (end_eq m.end) (ends_in before))) (before ++ m ∷ []) before
    → mid ++ arriving k made h (with_here h mid t) ms ≡ before ++ arriving k made h (with_here h before t) all
arriving-more k made h t m ms all before mid is added =
    ap (λ l. l ++ arriving k made h (with_here h l t) ms) (added ∙ ap (λ b. cond b (before ++ m ∷ []) before) (carried-with_here k made h before t m))
    ∙ by (is_carried k made (with_here h before t) m)
    ∙ ap (λ l. before ++ arriving k made h (with_here h before t) l) (sym is)
  where
    here_now : EndId → Entry
    here_now = put (with_here h before t) m.end (entry.Here (settled h m))

    by : (b : Bool) → cond b (before ++ m ∷ []) before ++ arriving k made h (with_here h (cond b (before ++ m ∷ []) before) t) ms
        ≡ before ++ cond b (m ∷ arriving k made h here_now ms) (arriving k made h (with_here h before t) ms)
    by true =
        append_assoc before (m ∷ []) _
        ∙ ap (λ u. before ++ (m ∷ arriving k made h u ms)) (with_here-more h before m t)
    by false = refl

-- where none became here
pub with_here-none : (h : Holder) (t : EndId → Entry) → with_here h [] t ≡ t
unfolding with_here
with_here-none h t = refl

-- whether one of these values has an end
pub any-ends : (e : EndId) (ms : List MovingPicture) → list_any (λ m. end_eq e m.end) ms ≡ list_any (end_eq e) (ends_in ms)
any-ends e [] = refl
any-ends e (m ∷ ms) = ap (λ b. end_eq e m.end || b) (any-ends e ms)

pub ruleset passings = (passing-more)

pub ruleset arrivings = (arriving-more, with_here-none)
