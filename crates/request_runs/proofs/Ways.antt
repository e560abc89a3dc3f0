-- What is on its way over a link, step by step of the service.
use Rattle.std.proofs.Common.{◌≡◌, false, if◌then◌else◌, List, [], ◌∷◌, ◌++◌, sym, ap, ◌∙◌, append_assoc}
use Rattle.std.proofs.lemmas.Grind.{flat_map-append}
use Rattle.std.proofs.lemmas.List.{append_cancel_left, map-append}
use Rattle.std.specs.List.{flat_map}
use Rattle.charlotte_calls.specs.Names.{opposite}
use Rattle.charlotte_calls.specs.Setting.{IsValid}
use Rattle.charlotte_calls.specs.declared.calls.ServiceStep.{ServiceStep}
use Rattle.charlotte_calls.specs.declared.names.EndId.{EndId}
use Rattle.charlotte_calls.specs.declared.setting.Setting.{Setting}
use Rattle.service_step.specs.Run.{IsServiceRun, start_state}
use Rattle.service_step.specs.State.{State}
use Rattle.service_step.specs.declared.state.Message.{Message}
use Rattle.service_streams.proofs.Kept.{flat-more, kept-more}
use Rattle.service_streams.proofs.Streams.{links_fifo}
use Rattle.service_streams.specs.Streams.{IsFifo, Sent, but_last, cancels_send, given_by, kept_on, messages, reported_in, sent_by, steps_in, told_in}
use Rattle.request_runs.specs.Ways.{HasWay, IsNextWay, IsWay}

-- of the messages sent the owners of the opposite were told the first
pub way_there : (s : Setting) (run : List (ServiceStep × State)) → IsValid s → IsServiceRun s run → (e : EndId) → HasWay e run
way_there s run valid is e =
    let fifo : IsFifo (start_state s) run e = links_fifo s run valid is e in
    record { way = fifo.delivered.0; is = record { sent = fifo.delivered.1 } }

-- one step more
pub next_way : (e : EndId) (past : List (ServiceStep × State)) (made : ServiceStep) (t : State) (before behind : List Message) → cancels_send e made ≡ false →
    IsWay e past before → IsWay e (past ++ (made, t) ∷ []) behind → IsNextWay e made before behind
next_way e past made t before behind uncancelled was is =
    append_cancel_left told (told_in (opposite e) (given_by made) ++ behind) (before ++ messages (sent_by e made))
    (sym (append_assoc told (told_in (opposite e) (given_by made)) behind) ∙ ap (λ (l : List Message). l ++ behind) (sym more_told) ∙ is.sent ∙ more_kept
    ∙ ap (λ (l : List Message). l ++ messages (sent_by e made)) (sym was.sent) ∙ append_assoc told before (messages (sent_by e made)))
  where
    told : List Message
    told = reported_in (opposite e) (steps_in past)

    kept : List Sent
    kept = kept_on e (steps_in past)

    more_told : reported_in (opposite e) (steps_in (past ++ (made, t) ∷ [])) ≡ told ++ told_in (opposite e) (given_by made)
    more_told = ap (told_in (opposite e)) (flat-more given_by past made t) ∙ flat_map-append _ (flat_map given_by (steps_in past)) (given_by made)

    more_kept : messages (kept_on e (steps_in (past ++ (made, t) ∷ []))) ≡ messages kept ++ messages (sent_by e made)
    more_kept =
        ap messages (kept-more e past made t ∙ ap (λ b. if b then but_last kept else kept ++ sent_by e made) uncancelled)
        ∙ map-append (λ (m : Sent). m.message) kept (sent_by e made)
