-- Following lines one after the other, as the loop does.
use Rattle.std.proofs.Common.{◌≡◌, ℕ, ◌+◌, ◌≤◌, Bool, true, false, List, [], ◌∷◌, ◌++◌, Option, Some, None, Ok, Err, eqb, length, refl, sym, ap, subst, ◌∙◌, inl, inr, arith}
use Rattle.std.proofs.lemmas.List.{append_assoc, append-nil}
use Rattle.std.proofs.lemmas.List.Sums.{count_by-le-length}
use Rattle.std.proofs.lemmas.List.Splits.{length-slice_split}
use Rattle.charlotte_calls.specs.Setting.{IsValid}
use Rattle.charlotte_calls.specs.declared.setting.Setting.{Setting}
use Rattle.charlotte_text.specs.Reading.{parts}
use Rattle.history_run.specs.Runs.{IsAct, IsActAllowed, IsAnswer, IsRefusedAt, IsRun, IsRunOf}
use Rattle.history_run.specs.Follow.{IsAt, IsNew, Follows, Does, IsFaultOf, IsFormless, Seen, HasMade, joined, state_now, fault_at}
use Rattle.history_run.specs.declared.fault.HistoryFault.{HistoryFault}
use Rattle.history_run.specs.declared.fault.HistoryFault.TheVariants as fault
use Rattle.history_run.specs.declared.fault.TextFault.TheVariants as text
use Rattle.history_run.specs.declared.history.History.{History}
use Rattle.history_text.proofs.Valid.{setting_is_valid}
use Rattle.history_text.specs.Given.{Given, setting_given}
use Rattle.history_text.specs.Lines.{Numbered, Told, line_read, lines_told, told_by, before, then_told, missing_at}
use Rattle.history_text.specs.declared.meaning.Act.{Act}
use Rattle.link_service.specs.Service.{ServiceView, state_of}
use Rattle.service_step.specs.Run.{start_state}
use Rattle.service_step.specs.State.{State}

pub few_parts : (bytes : List ℕ) → length (parts 10 bytes) ≤ length bytes + 1
few_parts bytes = omega (arith, length-slice_split (λ b. eqb b 10) bytes, count_by-le-length (λ b. eqb b 10) bytes)

-- a run and one step more
run_snoc : (s t u : State) (acts : List Numbered) (a : Numbered) → IsRun s acts t → IsAct t a.act u → IsRun s (acts ++ a ∷ []) u
run_snoc s t u [] a r made = (u, subst (λ x. IsAct x a.act u) r made, refl)
run_snoc s t u (b ∷ bs) a r made = (r.0, r.1, run_snoc r.0 t u bs a r.2 made)

-- the steps so far and one more
more_made : (n : ℕ) (seen : Seen) (begun : Bool) (v w : ServiceView) (g : Given) (act : Act) (rest : Told) → HasMade seen begun v → IsAct (state_now begun v g) act (state_of w)
    → (more : Seen) × (joined seen (before n g (Some act) rest) ≡ joined more rest) × HasMade more true w
more_made n None false v w g act rest made one =
    let a : Numbered = record { line = n; act = act } in
    (Some (setting_given g, a ∷ []), refl, (state_of w, one, refl))
more_made n None true v w g act rest made one = absurd made
more_made n (Some seen) false v w g act rest made one = absurd made
more_made n (Some seen) true v w g act rest made one =
    let a : Numbered = record { line = n; act = act } in (
      Some (seen.0, seen.1 ++ a ∷ []),
      ap (λ acts. record { setting = seen.0; acts = acts; wrong = rest.wrong }) (sym (append_assoc seen.1 (a ∷ []) rest.acts)),
      run_snoc (start_state seen.0) (state_of v) (state_of w) seen.1 a made one,
    )

-- the steps so far and perhaps one more
one_more : (n : ℕ) (seen : Seen) (old new : History) (act : Option Act) (rest : Told) → HasMade seen old.begun old.service → Does old act new
    → (more : Seen) × (joined seen (before n old.draft act rest) ≡ joined more rest) × HasMade more new.begun new.service
one_more n seen old new None rest made does =
    (seen, refl, subst (λ b. HasMade seen b new.service) (sym does.begun) (subst (λ v. HasMade seen old.begun v) (sym does.service) made))
one_more n seen old new (Some act) rest made does =
    let more = more_made n seen old.begun old.service new.service old.draft act rest made does.made in
    (more.0, more.1, subst (λ b. HasMade more.0 b new.service) (sym does.begun) more.2)

-- what is told by a line that is read and those behind it
next_told : (n : ℕ) (g h : Given) (act : Option Act) (ps : List (List ℕ)) (t : List ℕ) (ts : List (List ℕ)) → ps ≡ t ∷ ts → line_read g t ≡ Ok (h, act)
    → lines_told n g ps ≡ before (n + 1) h act (lines_told (n + 1) h ts)
unfolding lines_told
next_told n g h act ps t ts split read = ap (lines_told n g) split ∙ ap (then_told (n + 1) g (λ x. lines_told (n + 1) x ts)) read

pub goes_on : (bytes : List ℕ) (n : ℕ) (ps : List (List ℕ)) (t : List ℕ) (ts : List (List ℕ)) (old new : History) → ps ≡ t ∷ ts → Follows t old new
    → IsAt bytes n ps old → IsAt bytes (n + 1) ts new
goes_on bytes n ps t ts old new split follows at =
    let one = one_more (n + 1) at.seen (record old { draft = new.draft }) new follows.act (lines_told (n + 1) new.draft ts) at.made follows.does in
    record {
      seen = one.0;
      told = at.told ∙ ap (joined at.seen) (next_told n old.draft new.draft follows.act ps t ts split follows.read) ∙ one.1;
      made = one.2;
    }

pub begins : (bytes : List ℕ) (h : History) → IsNew h → IsAt bytes 0 (parts 10 bytes) h
unfolding told_by
begins bytes h new = record {
  seen = None;
  told = ap (λ g. lines_told 0 g (parts 10 bytes)) (sym new.draft);
  made = subst (λ b. HasMade None b h.service) (sym new.begun) tt;
}

-- ---- the answer

-- all steps that were seen are a run
ended : (seen : Seen) (begun : Bool) (v : ServiceView) (x : Setting) (w : Option ℕ) → HasMade seen begun v
    → IsRunOf (joined seen (record { setting = x; acts = []; wrong = w }))
ended None begun v x w made = (start_state x, refl)
ended (Some seen) false v x w made = absurd made
ended (Some seen) true v x w made = (state_of v, subst (λ acts. IsRun (start_state seen.0) acts (state_of v)) (sym (append-nil seen.1)) made)

wrong_kept : (seen : Seen) (rest : Told) → (joined seen rest).wrong ≡ rest.wrong
wrong_kept None rest = refl
wrong_kept (Some seen) rest = refl

refused_at : (n : ℕ) (seen : Seen) (begun : Bool) (v : ServiceView) (g : Given) (act : Act) (rest : Told) → HasMade seen begun v
    → (IsActAllowed (state_now begun v g) act → ⊥) → IsRefusedAt (joined seen (before n g (Some act) rest)) n
refused_at n None false v g act rest made no_act =
    record { before = []; act = act; behind = rest.acts; acts = refl; state = start_state (setting_given g); run = refl; refused = no_act }
refused_at n None true v g act rest made no_act = absurd made
refused_at n (Some seen) false v g act rest made no_act = absurd made
refused_at n (Some seen) true v g act rest made no_act =
    record { before = seen.1; act = act; behind = rest.acts; acts = refl; state = state_of v; run = made; refused = no_act }

invalid_at : (n : ℕ) (seen : Seen) (begun : Bool) (v : ServiceView) (g : Given) (act : Act) (rest : Told) → HasMade seen begun v → begun ≡ false
    → (IsValid (setting_given g) → ⊥) → IsValid (joined seen (before n g (Some act) rest)).setting → ⊥
invalid_at n None begun v g act rest made none bad valid = bad valid
invalid_at n (Some seen) begun v g act rest made none bad valid = subst (λ b. HasMade (Some seen) b v) none made

pub formless_told : (n : ℕ) (g : Given) (ps : List (List ℕ)) (t : List ℕ) (ts : List (List ℕ)) (old : History) → ps ≡ t ∷ ts → (formless : IsFormless t old)
    → lines_told n old.draft ps ≡ record { setting = setting_given old.draft; acts = []; wrong = Some (n + 1) }
unfolding lines_told
formless_told n g ps t ts old split formless =
    ap (lines_told n old.draft) split ∙ ap (then_told (n + 1) old.draft (λ x. lines_told (n + 1) x ts)) formless.read

pub fails : (X : Type 0) (bytes : List ℕ) (n : ℕ) (ps : List (List ℕ)) (t : List ℕ) (ts : List (List ℕ)) (old : History) (why : HistoryFault) → ps ≡ t ∷ ts
    → IsFaultOf t old why → IsAt bytes n ps old → IsAnswer {X = X} (told_by bytes) (Err (fault_at (n + 1) why))
fails X bytes n ps t ts old fault.NoMemory split is at = tt
fails X bytes n ps t ts old fault.NotAllowed split is at =
    let e = at.told ∙ ap (joined at.seen) (next_told n old.draft is.given (Some is.act) ps t ts split is.read) in
    subst (λ x. IsRefusedAt x (n + 1)) (sym e)
    (refused_at (n + 1) at.seen old.begun old.service is.given is.act (lines_told (n + 1) is.given ts) at.made is.fault)
fails X bytes n ps t ts old fault.Form split (inl formless) at =
    let e = at.told ∙ ap (joined at.seen) (formless_told n old.draft ps t ts old split formless) in (
      ap (λ x. x.wrong) e ∙ wrong_kept at.seen (record { setting = setting_given old.draft; acts = []; wrong = Some (n + 1) }),
      subst IsRunOf (sym e) (ended at.seen old.begun old.service (setting_given old.draft) (Some (n + 1)) at.made),
    )
fails X bytes n ps t ts old fault.Form split (inr stopped) at =
    let e = at.told ∙ ap (joined at.seen) (next_told n old.draft stopped.given (Some stopped.act) ps t ts split stopped.read) in
    absurd
    (invalid_at (n + 1) at.seen old.begun old.service stopped.given stopped.act (lines_told (n + 1) stopped.given ts) at.made stopped.fault.0 stopped.fault.1
    (subst (λ x. IsValid x.setting) e (setting_is_valid bytes)))

-- no line is left
end_told : (n : ℕ) (g : Given) (ps : List (List ℕ)) → ps ≡ [] → lines_told n g ps ≡ record { setting = setting_given g; acts = []; wrong = missing_at n g.stage }
unfolding lines_told
end_told n g ps none = ap (lines_told n g) none

all_told : (bytes : List ℕ) (n : ℕ) (ps : List (List ℕ)) (h : History) → ps ≡ [] → IsAt bytes n ps h → ((told_by bytes).wrong ≡ missing_at n h.draft.stage) × IsRunOf (told_by bytes)
all_told bytes n ps h none at =
    let e = at.told ∙ ap (joined at.seen) (end_told n h.draft ps none) in (
      ap (λ x. x.wrong) e ∙ wrong_kept at.seen (record { setting = setting_given h.draft; acts = []; wrong = missing_at n h.draft.stage }),
      subst IsRunOf (sym e) (ended at.seen h.begun h.service (setting_given h.draft) (missing_at n h.draft.stage) at.made),
    )

pub ends_well : {X : Type 0} (x : X) (bytes : List ℕ) (n : ℕ) (ps : List (List ℕ)) (h : History) → ps ≡ [] → missing_at n h.draft.stage ≡ None → IsAt bytes n ps h
    → IsAnswer (told_by bytes) (Ok x)
ends_well x bytes n ps h none here at =
    let all = all_told bytes n ps h none at in
    (all.0 ∙ here, all.1)

pub ends_early : (X : Type 0) (bytes : List ℕ) (n : ℕ) (ps : List (List ℕ)) (h : History) → ps ≡ [] → missing_at n h.draft.stage ≡ Some n → IsAt bytes n ps h
    → IsAnswer {X = X} (told_by bytes) (Err (text.Form n))
ends_early X bytes n ps h none missing at =
    let all = all_told bytes n ps h none at in
    (all.0 ∙ missing, all.1)
