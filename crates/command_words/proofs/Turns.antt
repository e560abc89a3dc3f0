-- A kernel never has more turns than 100,000.
use Rattle.std.proofs.Common.{◌≡◌, ◌<◌, ◌≤◌, ◌==◌, ℕ, List, [], ◌∷◌, Bool, true, false, Option, Some, None, Result, Ok, Err, IfSome, refl, ap, subst, arith, take, drop}
use Rattle.std.specs.Prelude.{codes, if◌then◌else◌, is_none, option_and_then, option_map, string_bytes, unwrap_or}
use Rattle.std.specs.Result.{result_ok}
use Rattle.std.specs.Str.{bytes_eq}
use Rattle.std.proofs.lemmas.Option.{option_and_then_some}
use Rattle.charlotte_text.proofs.Numbers.{below_takes}
use Rattle.charlotte_text.specs.Reading.{number_below}
use Rattle.charlotte_text.specs.declared.fault.Fault.{Fault}
use Rattle.command_words.specs.declared.words.Command.{Command}
use Rattle.command_words.specs.declared.words.Command.TheVariants as command
use Rattle.command_words.specs.declared.words.RunWords.{RunWords}
use Rattle.command_words.specs.declared.words.Verb.{Verb}
use Rattle.command_words.specs.declared.words.Verb.TheVariants as verb
use Rattle.command_words.specs.Words.{IsWithinTurns, Word, behind, command_of, is_spelled, not_zero, nothing_run, nothing_snapped, one_name, one_seed, run_command, run_of, run_read, snapshot_command, snapshot_of, snapshot_read, turns_number, verb_of, with_plan, with_serial, with_turns, with_word}

abbrev Few : ℕ → Type 0
Few n = n ≤ 100000

abbrev AreFew : RunWords → Type 0
AreFew g = IfSome g.turns Few

-- one of the two is it
either : {X P : Type 0} (b : Bool) (o p : Option X) (x : X) → (if b then o else p) ≡ Some x → (o ≡ Some x → P) → (p ≡ Some x → P) → P
either true o p x e f g = f e
either false o p x e f g = g e

-- what is made of a value, if there is one
mapped : {X Y : Type 0} (Is : Y → Type 0) (make : X → Y) (o : Option X) (y : Y) → ((x : X) → o ≡ Some x → Is (make x)) → option_map make o ≡ Some y → Is y
mapped Is make None y all e = absurd cc
mapped Is make (Some x) y all e = subst (λ o. IfSome o Is) e (all x refl)

-- ---- a number of turns

kept : (b : Bool) (x n : ℕ) → (if b then None else Some x) ≡ Some n → x ≡ n
kept true x n e = absurd cc
kept false x n e = cc

read_so : (r : Result ℕ Fault) (n : ℕ) → option_and_then not_zero (result_ok r) ≡ Some n → r ≡ Ok n
read_so (Ok x) n e = ap Ok (kept (x == 0) x n e)
read_so (Err fault) n e = absurd cc

few_turns : (word : List ℕ) (n : ℕ) → turns_number word ≡ Some n → Few n
few_turns word n e = let below : n < 100001 = (below_takes 100001 word n (read_so (number_below 100001 word) n e)).1 in omega arith

-- ---- the words of `run`

turns_few : (g h : RunWords) (word : List ℕ) → with_turns g word ≡ Some h → AreFew h
unfolding with_turns
turns_few g h word e = either (is_none g.turns) _ None h e (mapped AreFew (λ n. record g { turns = Some n }) (turns_number word) h (few_turns word)) (λ none. absurd cc)

plan_few : (g h : RunWords) (w : Word) → AreFew g → with_plan g w ≡ Some h → AreFew h
unfolding with_plan
plan_few g h w few e = either _ (Some (record g { plan = Some w })) None h e (λ is. subst (λ o. IfSome o AreFew) is few) (λ none. absurd cc)

serial_few : (g h : RunWords) → AreFew g → with_serial g ≡ Some h → AreFew h
unfolding with_serial
serial_few g h few e = either g.serial None (Some (record g { serial = true })) h e (λ none. absurd cc) (λ is. subst (λ o. IfSome o AreFew) is few)

word_few : (g h : RunWords) (w : Word) → AreFew g → with_word g w ≡ Some h → AreFew h
unfolding with_word
word_few g h w few e =
    either (is_spelled w (codes "--serial")) (with_serial g) _ h e (serial_few g h few) (λ other. either (bytes_eq (take 8 (string_bytes w)) (codes "--turns=")) (with_turns g (drop 8 (string_bytes w))) (with_plan g w) h other
    (turns_few g h (drop 8 (string_bytes w))) (plan_few g h w few))

reads_few : (g h : RunWords) (ws : List Word) → AreFew g → run_read g ws ≡ Some h → AreFew h
unfolding run_read
reads_few g h [] few e = subst (λ o. IfSome o AreFew) e few
reads_few g h (w ∷ []) few e = word_few g h w few e
reads_few g h (w ∷ v ∷ ws) few e =
    either (is_spelled w (codes "--turns")) _ _ h e
    (λ is. option_and_then_some (λ x. run_read x ws) (with_turns g (string_bytes v)) h is (λ x made on. reads_few x h ws (turns_few g x (string_bytes v) made) on))
    (λ is. option_and_then_some (λ x. run_read x (v ∷ ws)) (with_word g w) h is (λ x made on. reads_few x h (v ∷ ws) (word_few g x w few made) on))

least : (turns : Option ℕ) → IfSome turns Few → Few (unwrap_or turns 100000)
least None few = omega arith
least (Some n) few = few

run_few : (ws : List Word) (c : Command) → run_of ws ≡ Some c → IsWithinTurns c
unfolding run_of
run_few ws c e =
    option_and_then_some run_command (run_read nothing_run ws) c e (λ g read is.
    mapped IsWithinTurns (λ plan. command.Run plan g.serial (unwrap_or g.turns 100000)) g.plan c (λ plan at. least g.turns (reads_few nothing_run g ws tt read)) is)

snapshot_few : (ws : List Word) (c : Command) → snapshot_of ws ≡ Some c → IsWithinTurns c
unfolding snapshot_of
snapshot_few ws c e =
    option_and_then_some snapshot_command (snapshot_read nothing_snapped ws) c e (λ g read is.
    option_and_then_some (λ plan. option_map (λ at. command.Snapshot plan at g.serial) g.at) g.plan c is (λ plan at on.
    mapped IsWithinTurns (λ at. command.Snapshot plan at g.serial) g.at c (λ n at. tt) on))

-- ---- all commands

behind_few : (v : Verb) (ws : List Word) (c : Command) → behind v ws ≡ Some c → IsWithinTurns c
unfolding behind
behind_few verb.Drive ws c = mapped IsWithinTurns command.Drive (one_name ws) c (λ x is. tt)
behind_few verb.Check ws c = mapped IsWithinTurns command.Check (one_name ws) c (λ x is. tt)
behind_few verb.Code ws c = mapped IsWithinTurns command.Code (one_name ws) c (λ x is. tt)
behind_few verb.Run ws c = run_few ws c
behind_few verb.Bench ws c = mapped IsWithinTurns command.Bench (one_seed ws) c (λ x is. tt)
behind_few verb.Audit ws c = mapped IsWithinTurns command.Audit (one_name ws) c (λ x is. tt)
behind_few verb.Snapshot ws c = snapshot_few ws c

pub turns_are_few : (ws : List Word) (c : Command) → command_of ws ≡ Some c → IsWithinTurns c
unfolding command_of
turns_are_few [] c e = absurd cc
turns_are_few (w ∷ ws) c e = option_and_then_some (λ v. behind v ws) (verb_of (string_bytes w)) c e (λ v is on. behind_few v ws c on)
