-- Performing one line more.
use Rattle.std.proofs.Common.{◌≡◌, List, [], ◌∷◌, ◌++◌, refl, sym, ap, ◌∙◌, append_assoc, subst}
use Rattle.std.proofs.lemmas.List.{append-nil}
use Rattle.charlotte_calls.specs.declared.setting.Setting.{Setting}
use Rattle.transcript_lines.specs.declared.last.ScriptNote.{ScriptNote}
use Rattle.kernel_world.specs.World.{World, Event, after}
use Rattle.transcript_record.proofs.Runs.{after-append}
use Rattle.lynx_plan.specs.declared.script.ScriptLine.{ScriptLine}
use Rattle.script_run.specs.Performing.{Does, Performs}

-- one line alone
one_line : (s : Setting) (w : World) (l : ScriptLine) (es : List Event) (notes : List ScriptNote) → Does s w l.line l.what es notes → Performs s w (l ∷ []) es notes
one_line s w l es notes does = (es, [], notes, [], does, (refl, refl), sym (append-nil es), sym (append-nil notes))

-- lines, and one more
pub Performs-more : (s : Setting) (w : World) (ls : List ScriptLine) (l : ScriptLine) (es fs : List Event) (notes more : List ScriptNote) → Performs s w ls es notes → Does s (after w es) l.line l.what fs more → Performs s w (ls ++ l ∷ []) (es ++ fs) (notes ++ more)
Performs-more s w [] l es fs notes more performs does =
    let none : es ≡ [] = performs.0 in
    let no_note : notes ≡ [] = performs.1 in
    rw (none, no_note) (one_line s w l fs more (rw none at does))
Performs-more s w (k ∷ ls) l es fs notes more performs does =
    let now = performs.0 in
    let later = performs.1 in
    let others = performs.5 in
    let here : after w es ≡ after (after w now) later = ap (after w) performs.6 ∙ after-append w now later in
    let P : World → Type 0 = λ v. Does s v l.line l.what fs more in (
      now,
      later ++ fs,
      performs.2,
      performs.3 ++ more,
      performs.4,
      Performs-more s (after w now) ls l later fs performs.3 more others (subst P here does),
      ap (λ t. t ++ fs) performs.6 ∙ append_assoc now later fs,
      ap (λ t. t ++ more) performs.7 ∙ append_assoc performs.2 performs.3 more,
    )
