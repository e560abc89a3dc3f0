-- Reading the words of `run` one argument at a time.
use Rattle.std.proofs.Common.{◌≡◌, take, ◌&&◌, List, [], ◌∷◌, Option, Some, None, refl, true, false, Bool, ap}
use Rattle.std.specs.Prelude.{codes, option_and_then, string_bytes, is_none, if◌then◌else◌}
use Rattle.std.specs.Str.{bytes_eq}
use Rattle.std.proofs.lemmas.Slice.Eq.{bytes_eq-Decides}
use Rattle.command_words.specs.declared.words.RunWords.{RunWords}
use Rattle.command_words.specs.Words.{Word, is_spelled, is_name, with_plan, with_turns, with_word, run_read}

-- an argument that is not `--turns` is read alone
pub run_read-word : (g : RunWords) (w : Word) (ws : List Word) → is_spelled w (codes "--turns") ≡ false → run_read g (w ∷ ws) ≡ option_and_then (λ h. run_read h ws) (with_word g w)
unfolding run_read
run_read-word g w [] e = elim (with_word g w) as (λ o. o ≡ option_and_then (λ h. Some h) o) [ None ↦ refl | Some h ↦ refl ]
run_read-word g w (v ∷ ws) e = rw e

-- `--turns` is read with the word behind it
pub run_read-turns : (g : RunWords) (w v : Word) (ws : List Word) → is_spelled w (codes "--turns") ≡ true → run_read g (w ∷ v ∷ ws) ≡ option_and_then (λ h. run_read h ws) (with_turns g (string_bytes v))
unfolding run_read
run_read-turns g w v ws e = rw e

-- nothing is given where a second test fails
not_both : (b : Bool) (o : Option RunWords) → (if b && false then o else None) ≡ None
not_both true o = refl
not_both false o = refl

-- it is no plan
no_plan : (g : RunWords) (w : Word) → is_name (string_bytes w) ≡ false → with_plan g w ≡ None
unfolding with_plan
no_plan g w e = rw e (not_both (is_none g.plan) _)

-- it is no argument of one word
no_word : (g : RunWords) (w : Word) → string_bytes w ≡ codes "--turns" → with_word g w ≡ None
unfolding with_word
no_word g w e =
    let serial : is_spelled w (codes "--serial") ≡ false = ap (λ bs. bytes_eq bs (codes "--serial")) e in
    let turns : bytes_eq (take 8 (string_bytes w)) (codes "--turns=") ≡ false = ap (λ bs. bytes_eq (take 8 bs) (codes "--turns=")) e in
    rw (serial, turns) (no_plan g w (ap is_name e))

-- `--turns` has a word behind it
pub run_read-last : (g : RunWords) (w : Word) → is_spelled w (codes "--turns") ≡ true → run_read g (w ∷ []) ≡ None
unfolding run_read
run_read-last g w e = no_word g w ((bytes_eq-Decides (string_bytes w) (codes "--turns")).0 e)

pub ruleset arguments = (run_read-word, run_read-turns, run_read-last)
