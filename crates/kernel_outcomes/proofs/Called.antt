-- What a call gives.
use Rattle.std.proofs.Common.{◌≡◌, ℕ, Bool, true, false, true≢false, not, nat_eq, List, [], ◌∷◌, ◌++◌, map, Option, Some, None, refl, sym, ap, subst, ◌∙◌, if◌then◌else◌}
use Rattle.charlotte_calls.proofs.Causes.{first_of-none}
use Rattle.charlotte_calls.specs.Causes.{cancel_causes, destroy_causes, receive_causes, send_causes}
use Rattle.charlotte_calls.specs.Names.{opposite}
use Rattle.charlotte_calls.specs.declared.calls.Answer.{Answer}
use Rattle.charlotte_calls.specs.declared.calls.Answer.TheVariants as answer
use Rattle.charlotte_calls.specs.declared.calls.Call.{Call}
use Rattle.charlotte_calls.specs.declared.calls.Call.TheVariants as call
use Rattle.charlotte_calls.specs.declared.calls.Cause.{Cause}
use Rattle.charlotte_calls.specs.declared.calls.Report.{Report}
use Rattle.charlotte_calls.specs.declared.calls.ServiceStep.{ServiceStep}
use Rattle.charlotte_calls.specs.declared.calls.ServiceStep.TheVariants as step
use Rattle.charlotte_calls.specs.declared.names.EndId.{EndId}
use Rattle.charlotte_calls.specs.declared.names.Pid.{Pid}
use Rattle.charlotte_calls.specs.declared.names.Way.TheVariants as way
use Rattle.charlotte_packets.specs.declared.picture.Picture.{Picture}
use Rattle.end_table.specs.Owned.{owned}
use Rattle.end_table.specs.declared.entry.Entry.{Entry}
use Rattle.end_table.specs.declared.entry.Entry.TheVariants as entry
use Rattle.end_table.specs.declared.entry.HereView.{HereView}
use Rattle.end_table.specs.declared.entry.Inward.{Inward}
use Rattle.end_table.specs.declared.entry.Inward.TheVariants as inward
use Rattle.kernel_effects.proofs.Does.{means-does}
use Rattle.kernel_effects.specs.Actions.{ends_all}
use Rattle.kernel_effects.specs.Calls.{act_effect, effect_on, ended_with, post_effect, send_effect, withdraw_posted_effect, withdraw_send_effect}
use Rattle.kernel_effects.specs.Effect.{Effect, Does, nothing, stamped}
use Rattle.kernel_outcomes.proofs.Closing.{answers_wait-gives, changes, effect-gives, own-process, same-process, stands-gives}
use Rattle.kernel_outcomes.proofs.Events.{acts-does}
use Rattle.kernel_outcomes.specs.Closing.{CallGives, Gives, cancelling, cancelling_on, oldest, ran, told_entry, waited}
use Rattle.kernel_sound.specs.Acts.{acts, acts_on, made_after, withdraws_posted}
use Rattle.kernel_sound.specs.Sound.{IsSound}
use Rattle.kernel_step.specs.Calls.{IsCallWith, made_end, refusal, withdraws_send, seen, sees}
use Rattle.kernel_step.specs.Kernel.{Kernel, Outcome, Process, begins, call_step, cancels, cancels_receive, closes, decides, exits, granted_on, has_report, next_stamp, performs, process_of, stands, turns, waits}
use Rattle.kernel_step.specs.Progress.{Progress, means}
use Rattle.kernel_step.specs.declared.phase.Phase.{Phase}
use Rattle.kernel_step.specs.declared.phase.Phase.TheVariants.{Waiting, Cancelling, Exited}

-- an event without reports and answers
pub quiet-gives : (s : Kernel) (p : Pid) (stamp : ℕ) (f : Effect) (d : Progress) → Does f (begins s stamp) d → f.answers ≡ [] → f.reports ≡ []
    → Gives s p (s.process p.0) (λ q. f.entry q (s.table q)) stamp (map (stamped stamp) f.packets) [] (f.steps ++ []) (closes s d)
quiet-gives s p stamp f d does answers reports = effect-gives s p stamp f d [] [] does tt tt answers reports

module _ (s : Kernel) (p : Pid) (x : Process) (entry : EndId → Entry) (now : ℕ) (packets : List (ℕ × Picture)) (answered : List Pid) (steps : List ServiceStep) (o : Outcome)
    (g : Gives s p x entry now packets answered steps o) where
  -- the process goes on to another phase
  turns-gives : (phase : Phase) → Gives s p (record x { phase = phase }) entry now packets answered steps (record o { kernel = turns p phase o.kernel })
  turns-gives phase =
      record {
        process =
            changes s p x (record (process_of p o.kernel) { phase = phase }) (record x { phase = phase }) entry now packets answered steps o g
            (ap (λ (z : Process). record z { phase = phase }) (own-process s p x entry now packets answered steps o g));
        table = g.table;
        packets = g.packets;
        answered = g.answered;
        steps = g.steps;
        stamp = g.stamp;
        number = g.number;
        kernels = g.kernels;
        version = g.version;
        made = g.made;
      }

  -- it exits
  exits-gives : Gives s p (record { phase = Exited; reports = []; answer = Some answer.Ok }) entry now packets (answered ++ p ∷ []) steps (exits p o)
  exits-gives =
      record {
        process = changes s p x (record { phase = Exited; reports = []; answer = Some answer.Ok }) (record { phase = Exited; reports = []; answer = Some answer.Ok }) entry now packets answered steps o g refl;
        table = g.table;
        packets = g.packets;
        answered = ap (λ l. l ++ p ∷ []) g.answered;
        steps = g.steps;
        stamp = g.stamp;
        number = g.number;
        kernels = g.kernels;
        version = g.version;
        made = g.made;
      }

-- where p went on to a phase before the event closed
turned-gives : (s : Kernel) (p : Pid) (phase : Phase) (entry : EndId → Entry) (now : ℕ) (packets : List (ℕ × Picture)) (answered : List Pid) (steps : List ServiceStep) (o : Outcome)
    → Gives (turns p phase s) p ((turns p phase s).process p.0) entry now packets answered steps o → Gives s p (record (s.process p.0) { phase = phase }) entry now packets answered steps o
turned-gives s p phase entry now packets answered steps o g =
    record {
      process = λ q. g.process q ∙ by q (nat_eq p.0 q);
      table = g.table;
      packets = g.packets;
      answered = g.answered;
      steps = g.steps;
      stamp = g.stamp;
      number = g.number;
      kernels = g.kernels;
      version = g.version;
      made = g.made;
    }
  where
    x : Process
    x = record (s.process p.0) { phase = phase }

    own : (turns p phase s).process p.0 ≡ x
    own = ap (λ b. if b then x else s.process p.0) (same-process p)

    by : (q : ℕ) (b : Bool) → (if b then (turns p phase s).process p.0 else (if b then x else s.process q)) ≡ (if b then x else s.process q)
    by q true = own
    by q false = refl

-- a call on an end that its process owns
granted-acts : (p : Pid) (s : Kernel) (o : Option HereView) (part : HereView → Progress → Progress) (d : Progress)
    → not (seen o).owned ≡ false → granted_on p s o part d ≡ stands p answer.Ok (closes s (acts_on o part d))
granted-acts p s None part d owns = absurd (true≢false owns)
granted-acts p s (Some v) part d owns = refl

-- so is a Cancel of a send
cancels_send-acts : (p : Pid) (s : Kernel) (o : Option HereView) (d : Progress)
    → not (seen o).owned ≡ false → cancels p s way.Outward o d ≡ stands p answer.Ok (closes s (acts_on o withdraws_send d))
cancels_send-acts p s None d owns = absurd (true≢false owns)
cancels_send-acts p s (Some v) d owns = refl

-- a Cancel of a receive, by what is started
cancels_receive-gives : (s : Kernel) (p : Pid) (v : HereView) (i : Inward) (stamp : ℕ) (f : Effect) → Does f (begins s stamp) (withdraws_posted s.number v i (begins s stamp)) → f.answers ≡ [] → f.reports ≡ []
    → Gives s p (cancelling (s.process p.0) v i) (λ q. f.entry q (s.table q)) stamp (map (stamped stamp) f.packets) [] (f.steps ++ []) (cancels_receive p s v i (begins s stamp))
cancels_receive-gives s p v inward.Idle stamp f does answers reports = quiet-gives s p stamp f (begins s stamp) does answers reports
cancels_receive-gives s p v (inward.Posted w) stamp f does answers reports =
    let phase = Cancelling v.value.end in
    let d = withdraws_posted s.number v (inward.Posted w) (begins s stamp) in
    turned-gives s p phase (λ q. f.entry q (s.table q)) stamp (map (stamped stamp) f.packets) [] (f.steps ++ []) (closes (turns p phase s) d) (quiet-gives (turns p phase s) p stamp f d does answers reports)
cancels_receive-gives s p v (inward.Withdrawing w) stamp f does answers reports = quiet-gives s p stamp f (begins s stamp) does answers reports
cancels_receive-gives s p v inward.Unreported stamp f does answers reports = quiet-gives s p stamp f (begins s stamp) does answers reports

cancels-gives : (s : Kernel) (p : Pid) (o : Option HereView) (stamp : ℕ) (f : Effect) → Does f (begins s stamp) (acts_on o (λ v so_far. withdraws_posted s.number v v.inward so_far) (begins s stamp)) → f.answers ≡ [] → f.reports ≡ []
    → Gives s p (cancelling_on (s.process p.0) o) (λ q. f.entry q (s.table q)) stamp (map (stamped stamp) f.packets) [] (f.steps ++ []) (cancels p s way.Inward o (begins s stamp))
cancels-gives s p None stamp f does answers reports = quiet-gives s p stamp f (begins s stamp) does answers reports
cancels-gives s p (Some v) stamp f does answers reports = cancels_receive-gives s p v v.inward stamp f does answers reports

-- a Wait, by the reports that stand
waits-gives : (s : Kernel) (p : Pid) (x : Process) (entry : EndId → Entry) (now : ℕ) (packets : List (ℕ × Picture)) (first : ServiceStep) (rs : List Report) (o : Outcome) → Gives s p x entry now packets [] (first ∷ []) o
    → Gives s p (waited x rs) (λ q. told_entry (oldest rs) q (entry q)) now packets (map (λ _. p) (oldest rs)) (first ∷ map (step.Report p) (oldest rs)) (waits p rs o)
waits-gives s p x entry now packets first [] o g = turns-gives s p x entry now packets [] (first ∷ []) o g Waiting
waits-gives s p x entry now packets first (r ∷ rs) o g = answers_wait-gives s p entry now packets [] (first ∷ []) x r rs o g

-- no call has reports or answers before it closes
abbrev IsQuiet : Effect → Type 0
IsQuiet f = (f.answers ≡ []) × (f.reports ≡ [])

either-quiet : (b : Bool) (f g : Effect) → IsQuiet f → IsQuiet g → IsQuiet (if b then f else g)
either-quiet true f g first second = first
either-quiet false f g first second = second

effect_on-quiet : (o : Option HereView) (effect : HereView → Effect) → ((v : HereView) → IsQuiet (effect v)) → IsQuiet (effect_on o effect)
effect_on-quiet None effect quiet = (refl, refl)
effect_on-quiet (Some v) effect quiet = quiet v

withdraw_posted-quiet : (k : ℕ) (v : HereView) (i : Inward) → IsQuiet (withdraw_posted_effect k v i)
withdraw_posted-quiet k v inward.Idle = (refl, refl)
withdraw_posted-quiet k v (inward.Posted w) = (refl, refl)
withdraw_posted-quiet k v (inward.Withdrawing w) = (refl, refl)
withdraw_posted-quiet k v inward.Unreported = (refl, refl)

act_effect-quiet : (p : Pid) (k made : ℕ) (mine : List EndId) (t : EndId → Entry) (c : Call) → IsQuiet (act_effect p k made mine t c)
act_effect-quiet p k made mine t call.Make = (refl, refl)
act_effect-quiet p k made mine t (call.Destroy on) = effect_on-quiet (owned p (t on)) (λ v. record (ends_all k t (ended_with on (entry.Here v))) { steps = step.Destroy on ∷ [] }) (λ v. (refl, refl))
act_effect-quiet p k made mine t (call.Send on bytes xs) = effect_on-quiet (owned p (t on)) (send_effect k t bytes xs) (λ v. either-quiet (nat_eq v.value.want 0) _ _ (refl, refl) (refl, refl))
act_effect-quiet p k made mine t (call.Receive on) = effect_on-quiet (owned p (t on)) (post_effect k) (λ v. (refl, refl))
act_effect-quiet p k made mine t (call.Cancel on way.Outward) = effect_on-quiet (owned p (t on)) withdraw_send_effect (λ v. (refl, refl))
act_effect-quiet p k made mine t (call.Cancel on way.Inward) = effect_on-quiet (owned p (t on)) (λ v. withdraw_posted_effect k v v.inward) (λ v. withdraw_posted-quiet k v v.inward)
act_effect-quiet p k made mine t call.Wait = (refl, refl)
act_effect-quiet p k made mine t (call.Print bytes) = (refl, refl)
act_effect-quiet p k made mine t call.Exit = (refl, refl)

-- what the part of a call gives as the event closes, before the call is answered
abbrev PartGives : Kernel → Pid → List EndId → Call → Outcome → Type 0
PartGives s p mine c o =
    let f = act_effect p s.number s.made mine s.table c in
    let stamp = next_stamp s.stamp in
    Gives (record s { made = made_after c s.made }) p (s.process p.0) (λ q. f.entry q (s.table q)) stamp (map (stamped stamp) f.packets) [] (f.steps ++ []) o

-- and once it is
abbrev AnswerGives : Kernel → Pid → List EndId → Call → Answer → Outcome → Type 0
AnswerGives s p mine c a o =
    let f = act_effect p s.number s.made mine s.table c in
    let stamp = next_stamp s.stamp in
    Gives (record s { made = made_after c s.made }) p (ran (s.process p.0) a) (λ q. f.entry q (s.table q)) stamp (map (stamped stamp) f.packets) (p ∷ []) (f.steps ++ []) o

module _ (n : ℕ) (s : Kernel) (p : Pid) (mine : List EndId) (sound : IsSound s.number s.made n s.table) where
  part-gives : (c : Call) (reported : Bool) → refusal p s.table s.made mine reported c ≡ None → IsCallWith p s.table mine c
      → PartGives s p mine c (closes (record s { made = made_after c s.made }) (acts p s.number s.made mine c (begins s (next_stamp s.stamp))))
  part-gives c reported granted with_ends =
      let d = begins s (next_stamp s.stamp) in
      let f = act_effect p s.number s.made mine s.table c in
      let quiet = act_effect-quiet p s.number s.made mine s.table c in
      quiet-gives (record s { made = made_after c s.made }) p (next_stamp s.stamp) f (acts p s.number s.made mine c d)
      (acts-does s.number s.made n d sound p mine reported c granted with_ends) quiet.0 quiet.1

  -- the call is answered
  answered-gives : (c : Call) (a : Answer) (o : Outcome) → PartGives s p mine c o → AnswerGives s p mine c a (stands p a o)
  answered-gives c a o g =
      let f = act_effect p s.number s.made mine s.table c in
      let stamp = next_stamp s.stamp in
      stands-gives (record s { made = made_after c s.made }) p (λ q. f.entry q (s.table q)) stamp (map (stamped stamp) f.packets) [] (f.steps ++ []) (s.process p.0) a o g

  -- a call that is not refused
  performs-gives : (c : Call) (reported : Bool) → refusal p s.table s.made mine reported c ≡ None → IsCallWith p s.table mine c → CallGives s p mine c (performs p s mine c (begins s (next_stamp s.stamp)))
  unfolding performs acts means
  performs-gives call.Make reported granted with_ends = answered-gives call.Make (answer.Made (made_end s.number s.made) (opposite (made_end s.number s.made))) _ (part-gives call.Make reported granted with_ends)
  performs-gives (call.Destroy on) reported granted with_ends =
      subst (AnswerGives s p mine (call.Destroy on) answer.Ok) (sym (granted-acts p s (owned p (s.table on)) _ (begins s (next_stamp s.stamp)) (first_of-none (destroy_causes (sees p s.table on)) granted).0))
      (answered-gives (call.Destroy on) answer.Ok _ (part-gives (call.Destroy on) reported granted with_ends))
  performs-gives (call.Send on bytes xs) reported granted with_ends =
      subst (AnswerGives s p mine (call.Send on bytes xs) answer.Ok) (sym (granted-acts p s (owned p (s.table on)) _ (begins s (next_stamp s.stamp)) (first_of-none (send_causes (sees p s.table) on xs) granted).0))
      (answered-gives (call.Send on bytes xs) answer.Ok _ (part-gives (call.Send on bytes xs) reported granted with_ends))
  performs-gives (call.Receive on) reported granted with_ends =
      subst (AnswerGives s p mine (call.Receive on) answer.Ok) (sym (granted-acts p s (owned p (s.table on)) _ (begins s (next_stamp s.stamp)) (first_of-none (receive_causes (sees p s.table on)) granted).0))
      (answered-gives (call.Receive on) answer.Ok _ (part-gives (call.Receive on) reported granted with_ends))
  performs-gives (call.Cancel on way.Outward) reported granted with_ends =
      subst (AnswerGives s p mine (call.Cancel on way.Outward) answer.Ok) (sym (cancels_send-acts p s (owned p (s.table on)) (begins s (next_stamp s.stamp)) (first_of-none (cancel_causes way.Outward (sees p s.table on)) granted).0))
      (answered-gives (call.Cancel on way.Outward) answer.Ok _ (part-gives (call.Cancel on way.Outward) reported granted with_ends))
  performs-gives (call.Cancel on way.Inward) reported granted with_ends =
      let c = call.Cancel on way.Inward in
      let quiet = act_effect-quiet p s.number s.made mine s.table c in
      cancels-gives s p (owned p (s.table on)) (next_stamp s.stamp) (act_effect p s.number s.made mine s.table c)
      (acts-does s.number s.made n (begins s (next_stamp s.stamp)) sound p mine reported c granted with_ends) quiet.0 quiet.1
  performs-gives call.Wait reported granted with_ends =
      waits-gives s p (s.process p.0) s.table (next_stamp s.stamp) [] (step.Wait p) (s.process p.0).reports _ (part-gives call.Wait reported granted with_ends)
  performs-gives (call.Print bytes) reported granted with_ends = answered-gives (call.Print bytes) answer.Ok _ (part-gives (call.Print bytes) reported granted with_ends)
  performs-gives call.Exit reported granted with_ends =
      let f = act_effect p s.number s.made mine s.table call.Exit in
      let stamp = next_stamp s.stamp in
      exits-gives s p (s.process p.0) (λ q. f.entry q (s.table q)) stamp (map (stamped stamp) f.packets) [] (step.Exit p ∷ []) _ (part-gives call.Exit reported granted with_ends)

  pub call-gives : (c : Call) → refusal p s.table s.made mine (has_report (process_of p s)) c ≡ None → IsCallWith p s.table mine c → CallGives s p mine c (call_step s p mine c)
  unfolding call_step
  call-gives c granted with_ends =
      subst (λ r. CallGives s p mine c (decides p s mine c r (begins s (next_stamp s.stamp)))) (sym granted) (performs-gives c (has_report (process_of p s)) granted with_ends)

-- a call that is refused is answered so, and changes nothing else
pub call-refused : (s : Kernel) (p : Pid) (mine : List EndId) (c : Call) (cause : Cause) → refusal p s.table s.made mine (has_report (process_of p s)) c ≡ Some cause
    → Gives s p (ran (s.process p.0) (answer.Refused cause)) s.table (next_stamp s.stamp) [] (p ∷ []) (step.Refuse p c cause ∷ []) (call_step s p mine c)
unfolding call_step
call-refused s p mine c cause refused =
    let d = begins s (next_stamp s.stamp) in
    let meant = means (step.Refuse p c cause) d in
    subst (λ r. Gives s p (ran (s.process p.0) (answer.Refused cause)) s.table (next_stamp s.stamp) [] (p ∷ []) (step.Refuse p c cause ∷ []) (decides p s mine c r d)) (sym refused)
    (stands-gives s p s.table (next_stamp s.stamp) [] [] (step.Refuse p c cause ∷ []) (s.process p.0) (answer.Refused cause) (closes s meant)
    (quiet-gives s p (next_stamp s.stamp) (record nothing { steps = step.Refuse p c cause ∷ [] }) meant (means-does (step.Refuse p c cause) d) refl refl))
