-- Service steps that were read: each is spelled so.
use Rattle.std.proofs.Common.{◌≡◌, ℕ, ◌≤◌, Bool, true, false, cond, codes, List, [], ◌∷◌, length, Result, Ok, Err, refl, ap, subst, ◌∙◌, arith}
use Rattle.std.specs.List.{AllByRecursion}
use Rattle.std.specs.Str.{bytes_eq}
use Rattle.std.proofs.lemmas.Slice.Eq.{bytes_eq-Decides}
use Rattle.charlotte_calls.specs.Ranges.{IsEnd, AreBytesInRange, AreEndsInRange, IsReportInRange, IsStepInRange, IsPid, IsU32}
use Rattle.charlotte_calls.specs.declared.calls.Report.{Report}
use Rattle.charlotte_calls.specs.declared.names.EndId.{EndId}
use Rattle.charlotte_calls.specs.declared.names.Outcome.{Outcome}
use Rattle.charlotte_calls.specs.declared.names.Outcome.TheVariants.{Done, Destroyed}
use Rattle.charlotte_calls.specs.declared.names.Pid.{Pid}
use Rattle.charlotte_calls.specs.declared.names.Way.{Way}
use Rattle.charlotte_calls.specs.declared.names.Way.TheVariants.{Inward, Outward}
use Rattle.charlotte_text.specs.declared.fault.Fault.{Fault}
use Rattle.charlotte_text.specs.declared.fault.Fault.TheVariants.{Form}
use Rattle.charlotte_text.specs.Spelling.{end_text, process_text, way_text, most_ends}
use Rattle.charlotte_text.specs.Reading.{◌>>=◌, ended, end_of, ends_of, bytes_of, way_of}
use Rattle.charlotte_text.proofs.Calls.{way_takes}
use Rattle.charlotte_text.proofs.Names.{end_takes, ends_take}
use Rattle.charlotte_text.proofs.Steps.{bind_ok, ok_is, not_ok, held}
use Rattle.transcript_lines.specs.TranscriptText.{IsShownReport}
use Rattle.transcript_reading.specs.Forms.{first_of, only_of, u32_of, pid_of, cause_of, outcome_of, suffix_of, bare_report, result_of, report_of, make_of, refuse_of, send_of, cancel_of, take_of, notice_of, back_step_of, end_number_of, named_step_of, step_of}
use Rattle.transcript_reading.specs.declared.line.ServiceLine.{ServiceLine}
use Rattle.transcript_reading.specs.declared.line.ServiceLine.TheVariants as service
use Rattle.transcript_reading.proofs.Packets.{end_numbers}
use Rattle.transcript_reading.proofs.Steps.{step_name, step_rest, result_words, suffix_words, report}
use Rattle.transcript_reading.specs.Spelling.{bare_step, HasShown}
use Rattle.transcript_forms.proofs.Packets.{few, end_number_takes}
use Rattle.transcript_forms.proofs.Taking.{first_ok, only_ok, none_ok, named_ok, cons_is, u32_takes, pid_takes, cause_takes, outcome_text, outcome_takes, text_takes}

-- ---- what stands at the end of a line

no_bytes : AreBytesInRange []
no_bytes = record { each = tt; few = omega arith }

no_ends : AreEndsInRange []
no_ends = record { each = tt; few = omega arith }

ends_range : (v : ℕ) (es : List EndId) → AllByRecursion IsEnd es → length es ≤ most_ends v → AreEndsInRange es
ends_range v es each le = record { each = each; few = few v (length es) le }

suffix_takes : (said : List ℕ) (ws : List (List ℕ)) (b : Bool) → suffix_of said ws ≡ Ok b → ws ≡ suffix_words b said
unfolding suffix_of
suffix_takes said [] b e = ap (λ (x : Bool). suffix_words x said) (ok_is false b e)
suffix_takes said (w ∷ ws) b e =
    let a = bind_ok (cond (bytes_eq w said) (Ok tt) (Err Form)) (λ u. ended ws >>= λ v. Ok true) b e in
    let k = held (bytes_eq w said) (Ok tt) Form a.0 a.1 in
    let n = none_ok ws (Ok true) b a.2 in
    cons_is ((bytes_eq-Decides w said).0 k.0) n.0 ∙ ap (λ (x : Bool). suffix_words x said) (ok_is true b n.1)

-- ---- reports

record IsResult (v : ℕ) (on : EndId) (way : Way) (outcome : Outcome) (ws : List (List ℕ)) (r : Report) : Type 0 where
  words : end_text on ∷ way_text way ∷ outcome_text outcome ∷ ws ≡ end_text r.on ∷ way_text r.way ∷ result_words r.way r.outcome r.bytes r.enclosed
  range : IsReportInRange r
  shown : IsShownReport v r.way r.outcome r.bytes r.enclosed

abbrev behind : EndId → Way → Outcome → List (List ℕ) → List (List ℕ)
behind on way outcome ws = end_text on ∷ way_text way ∷ outcome_text outcome ∷ ws

result_takes : (v : ℕ) (on : EndId) (way : Way) (outcome : Outcome) (ws : List (List ℕ)) (r : Report) → IsEnd on → result_of v on way outcome ws ≡ Ok r → IsResult v on way outcome ws r
unfolding result_of
result_takes v on Outward Done ws r fits e =
    let k = none_ok ws (Ok (bare_report on Outward Done)) r e in
    subst (IsResult v on Outward Done ws) (ok_is (bare_report on Outward Done) r k.1)
    (record { words = ap (behind on Outward Done) k.0; range = record { on = fits; bytes = no_bytes; enclosed = no_ends }; shown = (refl, refl) })
result_takes v on Outward Destroyed ws r fits e =
    let a = bind_ok (ends_of (most_ends v) ws) (λ ends. Ok (report on Outward Destroyed [] ends)) r e in
    let t = ends_take (most_ends v) ws a.0 a.1 in
    subst (IsResult v on Outward Destroyed ws) (ok_is (report on Outward Destroyed [] a.0) r a.2)
    (record { words = ap (behind on Outward Destroyed) t.0; range = record { on = fits; bytes = no_bytes; enclosed = ends_range v a.0 t.1.0 t.1.1 }; shown = (refl, t.1.1) })
result_takes v on Inward Done ws r fits e =
    let text = first_ok bytes_of ws (λ bytes. ends_of (most_ends v) bytes.1 >>= λ ends. Ok (report on Inward Done bytes.0 ends)) r e in
    let a = bind_ok (ends_of (most_ends v) text.left) (λ ends. Ok (report on Inward Done text.value ends)) r text.goes in
    let text_is = text_takes text.word text.value text.says in
    let t = ends_take (most_ends v) text.left a.0 a.1 in
    subst (IsResult v on Inward Done ws) (ok_is (report on Inward Done text.value a.0) r a.2)
    (record { words = ap (behind on Inward Done) (text.shape ∙ cons_is text_is.0 t.0); range = record { on = fits; bytes = text_is.1; enclosed = ends_range v a.0 t.1.0 t.1.1 }; shown = t.1.1 })
result_takes v on Inward Destroyed ws r fits e =
    let k = none_ok ws (Ok (bare_report on Inward Destroyed)) r e in
    subst (IsResult v on Inward Destroyed ws) (ok_is (bare_report on Inward Destroyed) r k.1)
    (record { words = ap (behind on Inward Destroyed) k.0; range = record { on = fits; bytes = no_bytes; enclosed = no_ends }; shown = (refl, refl) })

-- ---- steps

abbrev IsStep : ℕ → List ℕ → List (List ℕ) → ServiceLine → Type 0
IsStep v name ws s = (name ∷ ws ≡ step_name (bare_step s) ∷ step_rest (bare_step s)) × IsStepInRange (bare_step s) × HasShown v s

make_takes : (v : ℕ) (ws : List (List ℕ)) (x : ServiceLine) → make_of ws ≡ Ok x → IsStep v (codes "make") ws x
unfolding make_of
make_takes v ws x e =
    let a = first_ok end_of ws (λ a. only_of end_of a.1 >>= λ b. Ok (service.Make a.0 b)) x e in
    let b = only_ok end_of a.left (λ b. Ok (service.Make a.value b)) x a.goes in
    let a_is = end_takes a.word a.value a.says in
    let b_is = end_takes b.word b.value b.says in
    let made : ServiceLine = (service.Make a.value b.value) in
    let shape : ws ≡ step_rest (bare_step made) = a.shape ∙ cons_is a_is.0 (b.shape ∙ cons_is b_is.0 refl) in
    subst (IsStep v (codes "make") ws) (ok_is made x b.goes) (cons_is refl shape, (omega arith, a_is.1, b_is.1), tt)

refuse_takes : (v : ℕ) (ws : List (List ℕ)) (x : ServiceLine) → refuse_of ws ≡ Ok x → IsStep v (codes "refuse") ws x
unfolding refuse_of
refuse_takes v ws x e =
    let p = first_ok pid_of ws (λ p. only_of cause_of p.1 >>= λ named. Ok (service.Refuse p.0 named)) x e in
    let named = only_ok cause_of p.left (λ named. Ok (service.Refuse p.value named)) x p.goes in
    let p_is = pid_takes p.word p.value p.says in
    let named_is = cause_takes named.word named.value named.says in
    let made : ServiceLine = (service.Refuse p.value named.value) in
    let shape : ws ≡ step_rest (bare_step made) = p.shape ∙ cons_is p_is.0 (named.shape ∙ cons_is named_is refl) in
    subst (IsStep v (codes "refuse") ws) (ok_is made x named.goes) (cons_is refl shape, (p_is.1, tt), tt)

send_takes : (v : ℕ) (ws : List (List ℕ)) (x : ServiceLine) → send_of v ws ≡ Ok x → IsStep v (codes "send") ws x
unfolding send_of
send_takes v ws x e =
    let on = first_ok end_of ws (λ on. first_of u32_of on.1 >>= λ n. ends_of (most_ends v) n.1 >>= λ enclose. Ok (service.Send on.0 n.0 enclose)) x e in
    let n = first_ok u32_of on.left (λ n. ends_of (most_ends v) n.1 >>= λ enclose. Ok (service.Send on.value n.0 enclose)) x on.goes in
    let enclose = bind_ok (ends_of (most_ends v) n.left) (λ enclose. Ok (service.Send on.value n.value enclose)) x n.goes in
    let on_is = end_takes on.word on.value on.says in
    let n_is = u32_takes n.word n.value n.says in
    let enclose_is = ends_take (most_ends v) n.left enclose.0 enclose.1 in
    let made : ServiceLine = (service.Send on.value n.value enclose.0) in
    let shape : ws ≡ step_rest (bare_step made) = on.shape ∙ cons_is on_is.0 (n.shape ∙ cons_is n_is.0 (enclose_is.0)) in
    subst (IsStep v (codes "send") ws) (ok_is made x enclose.2) (cons_is refl shape, (on_is.1, n_is.1, no_bytes, ends_range v enclose.0 enclose_is.1.0 enclose_is.1.1), enclose_is.1.1)

cancel_takes : (v : ℕ) (ws : List (List ℕ)) (x : ServiceLine) → cancel_of ws ≡ Ok x → IsStep v (codes "cancel") ws x
unfolding cancel_of
cancel_takes v ws x e =
    let on = first_ok end_of ws (λ on. only_of way_of on.1 >>= λ way. Ok (service.Cancel on.0 way)) x e in
    let way = only_ok way_of on.left (λ way. Ok (service.Cancel on.value way)) x on.goes in
    let on_is = end_takes on.word on.value on.says in
    let way_is = way_takes way.word way.value way.says in
    let made : ServiceLine = (service.Cancel on.value way.value) in
    let shape : ws ≡ step_rest (bare_step made) = on.shape ∙ cons_is on_is.0 (way.shape ∙ cons_is way_is refl) in
    subst (IsStep v (codes "cancel") ws) (ok_is made x way.goes) (cons_is refl shape, on_is.1, tt)

take_takes : (v : ℕ) (ws : List (List ℕ)) (x : ServiceLine) → take_of ws ≡ Ok x → IsStep v (codes "take") ws x
unfolding take_of
take_takes v ws x e =
    let on = first_ok end_of ws (λ on. first_of u32_of on.1 >>= λ n. first_of pid_of n.1 >>= λ p. suffix_of (codes "late") p.1 >>= λ late. Ok (service.Take on.0 n.0 p.0 late)) x e in
    let n = first_ok u32_of on.left (λ n. first_of pid_of n.1 >>= λ p. suffix_of (codes "late") p.1 >>= λ late. Ok (service.Take on.value n.0 p.0 late)) x on.goes in
    let p = first_ok pid_of n.left (λ p. suffix_of (codes "late") p.1 >>= λ late. Ok (service.Take on.value n.value p.0 late)) x n.goes in
    let late = bind_ok (suffix_of (codes "late") p.left) (λ late. Ok (service.Take on.value n.value p.value late)) x p.goes in
    let on_is = end_takes on.word on.value on.says in
    let n_is = u32_takes n.word n.value n.says in
    let p_is = pid_takes p.word p.value p.says in
    let late_is = suffix_takes (codes "late") p.left late.0 late.1 in
    let made : ServiceLine = (service.Take on.value n.value p.value late.0) in
    let shape : ws ≡ step_rest (bare_step made) = on.shape ∙ cons_is on_is.0 (n.shape ∙ cons_is n_is.0 (p.shape ∙ cons_is p_is.0 late_is)) in
    subst (IsStep v (codes "take") ws) (ok_is made x late.2) (cons_is refl shape, (on_is.1, n_is.1, p_is.1), tt)

notice_takes : (v : ℕ) (ws : List (List ℕ)) (x : ServiceLine) → notice_of ws ≡ Ok x → IsStep v (codes "notice") ws x
unfolding notice_of
notice_takes v ws x e =
    let on = first_ok end_of ws (λ on. suffix_of (codes "dead") on.1 >>= λ dead. Ok (service.Notice on.0 dead)) x e in
    let dead = bind_ok (suffix_of (codes "dead") on.left) (λ dead. Ok (service.Notice on.value dead)) x on.goes in
    let on_is = end_takes on.word on.value on.says in
    let dead_is = suffix_takes (codes "dead") on.left dead.0 dead.1 in
    let made : ServiceLine = (service.Notice on.value dead.0) in
    let shape : ws ≡ step_rest (bare_step made) = on.shape ∙ cons_is on_is.0 dead_is in
    subst (IsStep v (codes "notice") ws) (ok_is made x dead.2) (cons_is refl shape, on_is.1, tt)

back_step_takes : (v : ℕ) (ws : List (List ℕ)) (x : ServiceLine) → back_step_of ws ≡ Ok x → IsStep v (codes "back") ws x
unfolding back_step_of
back_step_takes v ws x e =
    let on = first_ok end_of ws (λ on. first_of u32_of on.1 >>= λ n. suffix_of (codes "dead") n.1 >>= λ dead. Ok (service.Back on.0 n.0 dead)) x e in
    let n = first_ok u32_of on.left (λ n. suffix_of (codes "dead") n.1 >>= λ dead. Ok (service.Back on.value n.0 dead)) x on.goes in
    let dead = bind_ok (suffix_of (codes "dead") n.left) (λ dead. Ok (service.Back on.value n.value dead)) x n.goes in
    let on_is = end_takes on.word on.value on.says in
    let n_is = u32_takes n.word n.value n.says in
    let dead_is = suffix_takes (codes "dead") n.left dead.0 dead.1 in
    let made : ServiceLine = (service.Back on.value n.value dead.0) in
    let shape : ws ≡ step_rest (bare_step made) = on.shape ∙ cons_is on_is.0 (n.shape ∙ cons_is n_is.0 dead_is) in
    subst (IsStep v (codes "back") ws) (ok_is made x dead.2) (cons_is refl shape, (on_is.1, n_is.1), tt)

report_takes : (v : ℕ) (ws : List (List ℕ)) (x : ServiceLine) → report_of v ws ≡ Ok x → IsStep v (codes "report") ws x
unfolding report_of
report_takes v ws x e =
    let p = first_ok pid_of ws (λ p. first_of end_of p.1 >>= λ on. first_of way_of on.1 >>= λ way. first_of outcome_of way.1 >>= λ outcome. result_of v on.0 way.0 outcome.0 outcome.1 >>= λ report. Ok (service.Report p.0 report)) x e in
    let on = first_ok end_of p.left (λ on. first_of way_of on.1 >>= λ way. first_of outcome_of way.1 >>= λ outcome. result_of v on.0 way.0 outcome.0 outcome.1 >>= λ report. Ok (service.Report p.value report)) x p.goes in
    let way = first_ok way_of on.left (λ way. first_of outcome_of way.1 >>= λ outcome. result_of v on.value way.0 outcome.0 outcome.1 >>= λ report. Ok (service.Report p.value report)) x on.goes in
    let outcome = first_ok outcome_of way.left (λ outcome. result_of v on.value way.value outcome.0 outcome.1 >>= λ report. Ok (service.Report p.value report)) x way.goes in
    let report = bind_ok (result_of v on.value way.value outcome.value outcome.left) (λ report. Ok (service.Report p.value report)) x outcome.goes in
    let p_is = pid_takes p.word p.value p.says in
    let on_is = end_takes on.word on.value on.says in
    let way_is = way_takes way.word way.value way.says in
    let outcome_is = outcome_takes outcome.word outcome.value outcome.says in
    let report_is = result_takes v on.value way.value outcome.value outcome.left report.0 on_is.1 report.1 in
    let made : ServiceLine = (service.Report p.value report.0) in
    let shape : ws ≡ step_rest (bare_step made) = p.shape ∙ cons_is p_is.0 (on.shape ∙ cons_is on_is.0 (way.shape ∙ cons_is way_is (outcome.shape ∙ cons_is outcome_is refl)) ∙ report_is.words) in
    subst (IsStep v (codes "report") ws) (ok_is made x report.2) (cons_is refl shape, (p_is.1, report_is.range), report_is.shown)

only_end_made : (v : ℕ) (name : List ℕ) (ws : List (List ℕ)) (make : EndId → ServiceLine) (x : ServiceLine)
    → ((on : EndId) → ws ≡ end_text on ∷ [] → IsEnd on → IsStep v name ws (make on)) → (only_of end_of ws >>= λ on. Ok (make on)) ≡ Ok x → IsStep v name ws x
only_end_made v name ws make x all e =
    let on = only_ok end_of ws (λ on. Ok (make on)) x e in
    let t = end_takes on.word on.value on.says in
    subst (IsStep v name ws) (ok_is (make on.value) x on.goes) (all on.value (on.shape ∙ cons_is t.0 refl) t.1)

only_pid_made : (v : ℕ) (name : List ℕ) (ws : List (List ℕ)) (make : Pid → ServiceLine) (x : ServiceLine)
    → ((p : Pid) → ws ≡ process_text p ∷ [] → IsPid p → IsStep v name ws (make p)) → (only_of pid_of ws >>= λ p. Ok (make p)) ≡ Ok x → IsStep v name ws x
only_pid_made v name ws make x all e =
    let p = only_ok pid_of ws (λ p. Ok (make p)) x e in
    let t = pid_takes p.word p.value p.says in
    subst (IsStep v name ws) (ok_is (make p.value) x p.goes) (all p.value (p.shape ∙ cons_is t.0 refl) t.1)

end_number_made : (v : ℕ) (name : List ℕ) (ws : List (List ℕ)) (make : EndId → ℕ → ServiceLine) (x : ServiceLine)
    → ((on : EndId) (n : ℕ) → ws ≡ end_numbers on (n ∷ []) → IsEnd on × IsU32 n → IsStep v name ws (make on n))
    → (end_number_of ws >>= λ y. Ok (make y.0 y.1)) ≡ Ok x → IsStep v name ws x
end_number_made v name ws make x all e =
    let a = bind_ok (end_number_of ws) (λ y. Ok (make y.0 y.1)) x e in
    let t = end_number_takes ws a.0 a.1 in
    subst (IsStep v name ws) (ok_is (make a.0.0 a.0.1) x a.2) (all a.0.0 a.0.1 t.0 t.1)

-- the name of a step, and what stands behind it
abbrev steps : ℕ → List (List ℕ) → List (List ℕ × Result ServiceLine Fault)
steps v ws =
    (codes "make", make_of ws) ∷ (codes "refuse", refuse_of ws) ∷ (codes "destroy", only_of end_of ws >>= λ on. Ok (service.Destroy on)) ∷ (codes "send", send_of v ws)
    ∷ (codes "receive", only_of end_of ws >>= λ on. Ok (service.Receive on)) ∷ (codes "cancel", cancel_of ws) ∷ (codes "wait", only_of pid_of ws >>= λ p. Ok (service.Wait p))
    ∷ (codes "report", report_of v ws) ∷ (codes "exit", only_of pid_of ws >>= λ p. Ok (service.Exit p)) ∷ (codes "match", end_number_of ws >>= λ x. Ok (service.Match x.0 x.1))
    ∷ (codes "take", take_of ws) ∷ (codes "complete", end_number_of ws >>= λ x. Ok (service.Complete x.0 x.1)) ∷ (codes "withdraw", only_of end_of ws >>= λ on. Ok (service.Withdraw on))
    ∷ (codes "free", only_of end_of ws >>= λ on. Ok (service.Free on)) ∷ (codes "notice", notice_of ws) ∷ (codes "back", back_step_of ws) ∷ []

-- a word that is the name
under : (v : ℕ) (w name : List ℕ) (ws : List (List ℕ)) (x : ServiceLine) → w ≡ name → IsStep v name ws x → IsStep v w ws x
under v w name ws x e is = (cons_is e refl ∙ is.0, is.1, is.2)

named_step_takes : (v : ℕ) (w : List ℕ) (ws : List (List ℕ)) (x : ServiceLine) → named_step_of v w ws ≡ Ok x → IsStep v w ws x
unfolding named_step_of
named_step_takes v w ws x e =
    named_ok (steps v ws) w x (IsStep v w ws x) e (
      λ n h. under v w (codes "make") ws x n (make_takes v ws x h),
      (
        λ n h. under v w (codes "refuse") ws x n (refuse_takes v ws x h),
        (
          λ n h. under v w (codes "destroy") ws x n (only_end_made v (codes "destroy") ws (λ a. service.Destroy a) x (λ a s r. (cons_is refl s, r, tt)) h),
          (
            λ n h. under v w (codes "send") ws x n (send_takes v ws x h),
            (
              λ n h. under v w (codes "receive") ws x n (only_end_made v (codes "receive") ws (λ a. service.Receive a) x (λ a s r. (cons_is refl s, r, tt)) h),
              (
                λ n h. under v w (codes "cancel") ws x n (cancel_takes v ws x h),
                (
                  λ n h. under v w (codes "wait") ws x n (only_pid_made v (codes "wait") ws (λ a. service.Wait a) x (λ a s r. (cons_is refl s, r, tt)) h),
                  (
                    λ n h. under v w (codes "report") ws x n (report_takes v ws x h),
                    (
                      λ n h. under v w (codes "exit") ws x n (only_pid_made v (codes "exit") ws (λ a. service.Exit a) x (λ a s r. (cons_is refl s, r, tt)) h),
                      (
                        λ n h. under v w (codes "match") ws x n (end_number_made v (codes "match") ws (λ a b. service.Match a b) x (λ a b s r. (cons_is refl s, r, tt)) h),
                        (
                          λ n h. under v w (codes "take") ws x n (take_takes v ws x h),
                          (
                            λ n h. under v w (codes "complete") ws x n (end_number_made v (codes "complete") ws (λ a b. service.Complete a b) x (λ a b s r. (cons_is refl s, r, tt)) h),
                            (
                              λ n h. under v w (codes "withdraw") ws x n (only_end_made v (codes "withdraw") ws (λ a. service.Withdraw a) x (λ a s r. (cons_is refl s, r, tt)) h),
                              (
                                λ n h. under v w (codes "free") ws x n (only_end_made v (codes "free") ws (λ a. service.Free a) x (λ a s r. (cons_is refl s, r, tt)) h),
                                (
                                  λ n h. under v w (codes "notice") ws x n (notice_takes v ws x h),
                                  (λ n h. under v w (codes "back") ws x n (back_step_takes v ws x h), tt),
                                ),
                              ),
                            ),
                          ),
                        ),
                      ),
                    ),
                  ),
                ),
              ),
            ),
          ),
        ),
      ),
    )

pub step_takes : (v : ℕ) (ws : List (List ℕ)) (x : ServiceLine) → step_of v ws ≡ Ok x
    → (ws ≡ step_name (bare_step x) ∷ step_rest (bare_step x)) × IsStepInRange (bare_step x) × HasShown v x
unfolding step_of
step_takes v [] x e = absurd (not_ok x Form e)
step_takes v (w ∷ ws) x e = named_step_takes v w ws x e
