-- The words of a command line, and the command that they give.
use Rattle.std.specs.Prelude.{ℕ, ◌≤◌, ◌^◌, List, [], ◌∷◌, Bool, true, false, not, ◌&&◌, ◌==◌, if◌then◌else◌, codes, take, drop}
use Rattle.std.specs.Prelude.{Option, Some, None, is_none, unwrap_or, option_map, option_and_then, String, string_bytes}
use Rattle.std.specs.Result.{result_ok}
use Rattle.std.specs.Str.{bytes_eq}
use Rattle.std.specs.declared.alloc.Global.{Global}
use Rattle.charlotte_text.specs.Reading.{number_below}
use Rattle.command_words.specs.declared.words.Command.{Command}
use Rattle.command_words.specs.declared.words.Command.TheVariants as command
use Rattle.command_words.specs.declared.words.Verb.{Verb}
use Rattle.command_words.specs.declared.words.Verb.TheVariants as verb
use Rattle.command_words.specs.declared.words.RunWords.{RunWords}
use Rattle.command_words.specs.declared.words.SnapshotWords.{SnapshotWords}

abbrev pub Word : Type 0
Word = String Global

-- the word is spelled so
abbrev pub is_spelled : Word → List ℕ → Bool
is_spelled w text = bytes_eq (string_bytes w) text

-- the name of a file: it is not empty and does not begin with `-`
abbrev pub is_name : List ℕ → Bool
is_name [] = false
is_name (b ∷ bs) = not (b == 45)

-- the first word of a command
unfoldable pub verb_of : List ℕ → Option Verb
verb_of word =
    if bytes_eq word (codes "drive") then Some verb.Drive
    else if bytes_eq word (codes "check") then Some verb.Check
    else if bytes_eq word (codes "code") then Some verb.Code
    else if bytes_eq word (codes "run") then Some verb.Run
    else if bytes_eq word (codes "bench") then Some verb.Bench
    else if bytes_eq word (codes "audit") then Some verb.Audit
    else if bytes_eq word (codes "snapshot") then Some verb.Snapshot
    else None

-- one word, which names a file
unfoldable pub one_name : List Word → Option Word
one_name [] = None
one_name (w ∷ []) = if is_name (string_bytes w) then Some w else None
one_name (w ∷ v ∷ ws) = None

-- a seed, of 32 bits
abbrev pub seed_number : List ℕ → Option ℕ
seed_number word = result_ok (number_below (2 ^ 32) word)

-- a number of turns, from 1 to 100,000
abbrev pub not_zero : ℕ → Option ℕ
not_zero n = if n == 0 then None else Some n

abbrev pub turns_number : List ℕ → Option ℕ
turns_number word = option_and_then not_zero (result_ok (number_below 100001 word))

-- a turn at which a snapshot begins, from 0 to 100,000
abbrev pub turn_number : List ℕ → Option ℕ
turn_number word = result_ok (number_below 100001 word)

-- one word, which is a seed
unfoldable pub one_seed : List Word → Option ℕ
one_seed [] = None
one_seed (w ∷ []) = seed_number (string_bytes w)
one_seed (w ∷ v ∷ ws) = None

-- ---- `run`: a plan, and besides at most one `--serial` and at most one `--turns N` or `--turns=N`, in any order

abbrev pub nothing_run : RunWords
nothing_run = record { plan = None; serial = false; turns = None }

-- the first plan
unfoldable pub with_plan : RunWords → Word → Option RunWords
with_plan g w = if is_none g.plan && is_name (string_bytes w) then Some (record g { plan = Some w }) else None

-- the first number of turns
unfoldable pub with_turns : RunWords → List ℕ → Option RunWords
with_turns g number = if is_none g.turns then option_map (λ n. record g { turns = Some n }) (turns_number number) else None

-- the first `--serial`
unfoldable pub with_serial : RunWords → Option RunWords
with_serial g = if g.serial then None else Some (record g { serial = true })

-- an argument of one word
unfoldable pub with_word : RunWords → Word → Option RunWords
with_word g w =
    if is_spelled w (codes "--serial") then with_serial g
    else if bytes_eq (take 8 (string_bytes w)) (codes "--turns=") then with_turns g (drop 8 (string_bytes w))
    else with_plan g w

-- the arguments in order; a word `--turns` goes with the word behind it
unfoldable pub run_read : RunWords → List Word → Option RunWords
run_read g [] = Some g
run_read g (w ∷ []) = with_word g w
run_read g (w ∷ v ∷ ws) =
    if is_spelled w (codes "--turns") then option_and_then (λ h. run_read h ws) (with_turns g (string_bytes v))
    else option_and_then (λ h. run_read h (v ∷ ws)) (with_word g w)

-- 100,000 turns where none are given
abbrev pub run_command : RunWords → Option Command
run_command g = option_map (λ plan. command.Run plan g.serial (unwrap_or g.turns 100000)) g.plan

unfoldable pub run_of : List Word → Option Command
run_of ws = option_and_then run_command (run_read nothing_run ws)

-- ---- `snapshot`: a plan and behind it a turn, and besides at most one `--serial`, in any place

abbrev pub nothing_snapped : SnapshotWords
nothing_snapped = record { plan = None; at = None; serial = false }

-- the first `--serial`
abbrev pub snapped_serial : SnapshotWords → Option SnapshotWords
snapped_serial g = if g.serial then None else Some (record g { serial = true })

-- the first other word is the plan, the second the turn
abbrev pub snapped_place : SnapshotWords → Word → Option SnapshotWords
snapped_place g w =
    if is_none g.plan then (if is_name (string_bytes w) then Some (record g { plan = Some w }) else None)
    else if is_none g.at then option_map (λ n. record g { at = Some n }) (turn_number (string_bytes w))
    else None

unfoldable pub snapped_word : SnapshotWords → Word → Option SnapshotWords
snapped_word g w = if is_spelled w (codes "--serial") then snapped_serial g else snapped_place g w

unfoldable pub snapshot_read : SnapshotWords → List Word → Option SnapshotWords
snapshot_read g [] = Some g
snapshot_read g (w ∷ ws) = option_and_then (λ h. snapshot_read h ws) (snapped_word g w)

abbrev pub snapshot_command : SnapshotWords → Option Command
snapshot_command g = option_and_then (λ plan. option_map (λ at. command.Snapshot plan at g.serial) g.at) g.plan

unfoldable pub snapshot_of : List Word → Option Command
snapshot_of ws = option_and_then snapshot_command (snapshot_read nothing_snapped ws)

-- ---- all commands

-- the command of a first word, by the words behind it
unfoldable pub behind : Verb → List Word → Option Command
behind verb.Drive ws = option_map (λ file. command.Drive file) (one_name ws)
behind verb.Check ws = option_map (λ file. command.Check file) (one_name ws)
behind verb.Code ws = option_map (λ file. command.Code file) (one_name ws)
behind verb.Run ws = run_of ws
behind verb.Bench ws = option_map (λ seed. command.Bench seed) (one_seed ws)
behind verb.Audit ws = option_map (λ file. command.Audit file) (one_name ws)
behind verb.Snapshot ws = snapshot_of ws

-- the command that words give; they are of the form exactly where there is one
unfoldable pub command_of : List Word → Option Command
command_of [] = None
command_of (w ∷ ws) = option_and_then (λ v. behind v ws) (verb_of (string_bytes w))

-- a kernel has at most so many turns
abbrev pub IsWithinTurns : Command → Type 0
IsWithinTurns (command.Run plan serial turns) = turns ≤ 100000
IsWithinTurns other = Unit {0}
