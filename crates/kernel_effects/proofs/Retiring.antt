-- What the packets back, gone, moved, known, forget and goneseen do.
use Rattle.std.proofs.Common.{◌≡◌, ℕ, Bool, true, false, nat_eq, nat_le, not, ◌&&◌, List, [], ◌∷◌, ◌++◌, refl, sym, ap, subst, ◌∙◌, append_assoc, if◌then◌else◌}
use Rattle.std.specs.List.{flat_map, list_any}
use Rattle.charlotte_calls.specs.Names.{opposite}
use Rattle.charlotte_calls.specs.declared.calls.ServiceStep.TheVariants as step
use Rattle.charlotte_calls.specs.declared.names.EndId.{EndId}
use Rattle.charlotte_calls.specs.declared.names.Outcome.TheVariants as outcome
use Rattle.charlotte_packets.specs.declared.picture.MovingPicture.{MovingPicture}
use Rattle.charlotte_packets.specs.declared.picture.PictureWhat.{PictureWhat}
use Rattle.charlotte_packets.specs.declared.picture.PictureWhat.TheVariants as packet
use Rattle.end_table.proofs.EndEq.{end_eq-same}
use Rattle.end_table.specs.Entries.{is_news, learned, settled}
use Rattle.end_table.specs.Place.{end_eq, put}
use Rattle.end_table.specs.Table.{IsOfEnd}
use Rattle.end_table.specs.declared.entry.Entry.{Entry}
use Rattle.end_table.specs.declared.entry.Entry.TheVariants as entry
use Rattle.end_table.specs.declared.entry.HereView.{HereView}
use Rattle.kernel_step.proofs.Folds.{AreDifferent, AreOwn, AreOwn-put}
use Rattle.kernel_step.specs.Actions.{enclosed_of, forgets, is_withdrawing, learns, notices, reports, send_report, tell_arrivals}
use Rattle.kernel_step.specs.Progress.{Progress, keeps, means, sends}
use Rattle.kernel_step.specs.Rows.{end_arrivals, ends_in, erases, forget_row, gives_back, gone_here, gone_row, goneseen_row, known_here, known_row, mark_learns, means_back, moved_here, moved_mark, moved_row, notices_first}
use Rattle.kernel_effects.specs.Actions.{arrival_packets, ends_arrivals, forget_packets, learn_effect, notice_effect, receive_notice}
use Rattle.kernel_effects.specs.Effect.{Effect, Does, brings, changed, for_holder, nothing, puts, sent, stays}
use Rattle.kernel_effects.specs.Rows.{back_steps, erase_effect, forget_effect, gone_effect, goneseen_effect, known_effect, moved_effect, returned_view, returns_effect, returns_first_effect, view_news}
use Rattle.kernel_effects.proofs.Actions.{for_holder-append, notices-does}
use Rattle.kernel_effects.proofs.Does.{does-changed, does-either, does-entry, does-nothing, does-placed, does-reported, does-same, does-sent, does-then, does-turned, keeps-does, means-does, only_table, reports-does, sends-does}
use Rattle.kernel_effects.proofs.Ends.{StandsAt, stands-end}
use Rattle.kernel_effects.proofs.Folds.{brings-others, end_arrivals-does, settle_each-does}
use Rattle.kernel_effects.proofs.Packets.{forgets-does, learns-does, tell_arrivals-does}

-- ---- back

-- what is true of the entry by each value, and of the others, is true of every entry afterwards
pub brings-all : (P : EndId → Entry → Type 0) (ms : List MovingPicture) (word : MovingPicture → Entry) → ((m : MovingPicture) → P m.end (word m)) → (q : EndId) (y : Entry) → P q y → P q (brings ms word stays q y)
brings-all P [] word at q y is = is
brings-all P (m ∷ ms) word at q y is = by (end_eq m.end q) refl (brings-all P ms word at q y is)
  where
    by : (b : Bool) → end_eq m.end q ≡ b → P q (brings ms word stays q y) → P q (if b then word m else brings ms word stays q y)
    by true same rest = subst (λ z. P z (word m)) (end_eq-same m.end q same) (at m)
    by false other rest = rest

-- the message that came back is reported, and its ends are the sender's again
gives_back-does : (came : List MovingPicture) (v : HereView) (d : Progress) → AreDifferent (ends_in came)
    → Does (record nothing {
      entry = λ q y. brings came (λ m. entry.Here (settled v.holder m)) stays q (puts v.value.end (entry.Here (returned_view v)) stays q y);
      reports = for_holder v.holder (send_report v.value.end outcome.Destroyed (ends_in came) ∷ []);
    }) d (gives_back came v d)
unfolding gives_back
gives_back-does came v d different =
    let kept = keeps v.value.end (entry.Here (returned_view v)) d in
    let report = send_report v.value.end outcome.Destroyed (ends_in came) in
    does-turned (does-reported (keeps-does v.value.end (entry.Here (returned_view v)) d) (reports-does v.holder report kept)) (settle_each-does v.holder came (reports v.holder report kept) different)

-- each entry is of its end then
AreOwn-given : (came : List MovingPicture) (v : HereView) (d : Progress) → AreDifferent (ends_in came) → AreOwn d.table → AreOwn (gives_back came v d).table
unfolding put
AreOwn-given came v d different own q =
    subst (IsOfEnd q) (sym ((gives_back-does came v d different).table q))
    (brings-all IsOfEnd came (λ m. entry.Here (settled v.holder m)) (λ m. refl) q _ (AreOwn-put d.table v.value.end (entry.Here (returned_view v)) own refl q))

-- back at its send
pub returns-does : (k from : ℕ) (to : EndId) (n : ℕ) (came : List MovingPicture) (v : HereView) (d : Progress) → AreDifferent (ends_in came) → list_any (end_eq v.value.end) (ends_in came) ≡ false → AreOwn d.table
    → Does (if v.value.dead then returns_effect k to n came v else returns_first_effect k from to n came v) d
    (tell_arrivals k came (notices_first k from (returned_view v) (gives_back came v (means (step.Back to n (not v.value.dead && is_withdrawing v.inward)) d))))
unfolding notices_first means
returns-does k from to n came v d different apart own = by v.value.dead
  where
    e : EndId
    e = v.value.end

    S : MovingPicture → Entry
    S m = entry.Here (settled v.holder m)

    R : Entry
    R = entry.Here (returned_view v)

    seen : (x : Progress) → Progress
    seen x = sends from (packet.GoneSeen (opposite e)) (notices k (returned_view v) x)

    -- the end is none of those that came
    at_once : (q : EndId) (y : Entry) → brings came S stays q (puts e R stays q y) ≡ puts e R (brings came S stays) q y
    at_once q y = case (end_eq e q) refl
      where
        case : (b : Bool) → end_eq e q ≡ b → brings came S stays q (if b then R else y) ≡ (if b then R else brings came S stays q y)
        case true same = brings-others came S stays q R (subst (λ z. list_any (end_eq z) (ends_in came) ≡ false) (end_eq-same e q same) apart)
        case false other = refl

    -- it is put once more
    again : (x : Entry) (q : EndId) (y : Entry) → puts e x stays q (brings came S stays q (puts e R stays q y)) ≡ puts e x (brings came S stays) q y
    again x q y = case (end_eq e q)
      where
        case : (b : Bool) → (if b then x else brings came S stays q (if b then R else y)) ≡ (if b then x else brings came S stays q y)
        case true = refl
        case false = refl

    first : (late : Bool) → Does (record nothing { entry = λ q y. brings came S stays q (puts e R stays q y); reports = for_holder v.holder (send_report e outcome.Destroyed (ends_in came) ∷ []); steps = step.Back to n late ∷ [] }) d
        (gives_back came v (means (step.Back to n late) d))
    first late = does-then (means-does (step.Back to n late) d) (gives_back-does came v (means (step.Back to n late) d) different)

    noticed : Effect
    noticed = notice_effect k (returned_view v)

    by : (b : Bool) → Does (if b then returns_effect k to n came v else returns_first_effect k from to n came v) d
        (tell_arrivals k came (if b then gives_back came v (means (step.Back to n (not b && is_withdrawing v.inward)) d) else seen (gives_back came v (means (step.Back to n (not b && is_withdrawing v.inward)) d))))
    by true =
        does-entry (record (returns_effect k to n came v) { entry = λ q y. brings came S stays q (puts e R stays q y) }) (puts e R (brings came S stays)) (λ q. at_once q (d.table q))
        (does-sent (first false) (tell_arrivals-does k came (gives_back came v (means (step.Back to n false) d))))
    by false =
        let late = is_withdrawing v.inward in
        let given = gives_back came v (means (step.Back to n late) d) in
        let arrivals = flat_map (arrival_packets k) came in
        let G : ℕ × PictureWhat = (from, packet.GoneSeen (opposite e)) in
        let report = send_report e outcome.Destroyed (ends_in came) in
        let whole = returns_first_effect k from to n came v in
        does-same (record whole { packets = (forget_packets k v.value ++ G ∷ []) ++ arrivals; reports = for_holder v.holder (report ∷ []) ++ for_holder v.holder (receive_notice e v.inward) }) whole
        (ap (λ rs. record whole { packets = (forget_packets k v.value ++ G ∷ []) ++ arrivals; reports = rs }) (for_holder-append v.holder (report ∷ []) (receive_notice e v.inward))
        ∙ ap (λ ps. record whole { packets = ps }) (append_assoc (forget_packets k v.value) (G ∷ []) arrivals))
        (does-entry
        (record whole {
          entry = λ q y. noticed.entry q (brings came S stays q (puts e R stays q y));
          packets = (forget_packets k v.value ++ G ∷ []) ++ arrivals;
          reports = for_holder v.holder (report ∷ []) ++ for_holder v.holder (receive_notice e v.inward);
        })
        whole.entry (λ q. again _ q (d.table q))
        (does-sent (does-sent (does-then (first late) (notices-does k (returned_view v) given tt refl (AreOwn-given came v (means (step.Back to n late) d) different own)))
        (sends-does from (packet.GoneSeen (opposite e)) (notices k (returned_view v) given))) (tell_arrivals-does k came (seen given))))

-- what a back means to the service where it meets no send
means_back-does : (to : EndId) (n : ℕ) (b : Bool) (ms : List MovingPicture) (d : Progress) → Does (record nothing { steps = back_steps to n b ms }) d (means_back to n b ms d)
means_back-does to n true [] d = does-nothing d
means_back-does to n true (m ∷ ms) d = means-does (step.Back to n false) d
means_back-does to n false ms d = means-does (step.Back to n false) d

-- back anywhere else
pub ends_back-does : (k : ℕ) (to : EndId) (n : ℕ) (b : Bool) (ms : List MovingPicture) (d : Progress) → AreDifferent (ends_in ms)
    → Does (record (ends_arrivals k ms) { steps = back_steps to n b ms }) d (end_arrivals k ms (means_back to n b ms d))
ends_back-does k to n b ms d different = does-placed (means_back-does to n b ms d) (end_arrivals-does k ms (means_back to n b ms d) different)

-- ---- gone, moved, known, forget, goneseen

-- a mark is erased
pub erases-does : (k : ℕ) (m : MovingPicture) (d : Progress) → Does (erase_effect k m) d (erases k m d)
unfolding erases
erases-does k m d = does-turned (forgets-does k m d) (keeps-does m.end entry.Nothing (forgets k m d))

-- gone at an end that is here
pub gone_here-does : (k at : ℕ) (to : EndId) (v : HereView) (d : Progress) → StandsAt d.table to v → Does (gone_effect k to at (entry.Here v)) d (gone_here k at v d)
unfolding gone_here notices_first means
gone_here-does k at to v d s = by v.value.dead
  where
    e : EndId
    e = v.value.end

    meant : Progress
    meant = means (step.Notice e (is_withdrawing v.inward)) d

    apart : list_any (end_eq e) (enclosed_of v.outward) ≡ false
    apart = subst (λ z. list_any (end_eq z) (enclosed_of v.outward) ≡ false) (sym (stands-end d.table to v s)) s.apart

    by : (b : Bool) → Does (if b then sent ((at, packet.GoneSeen (opposite e)) ∷ []) else record (notice_effect k v) { packets = forget_packets k v.value ++ (at, packet.GoneSeen (opposite e)) ∷ []; steps = step.Notice e (is_withdrawing v.inward) ∷ [] }) d
        (if b then sends at (packet.GoneSeen (opposite e)) d else (if b then meant else sends at (packet.GoneSeen (opposite e)) (notices k v meant)))
    by true = sends-does at (packet.GoneSeen (opposite e)) d
    by false = does-sent (does-then (means-does (step.Notice e (is_withdrawing v.inward)) d) (notices-does k v meant s.different apart s.own)) (sends-does at (packet.GoneSeen (opposite e)) (notices k v meant))

pub gone-does : (k : ℕ) (to : EndId) (at : ℕ) (y : Entry) (d : Progress) → ((v : HereView) → y ≡ entry.Here v → StandsAt d.table to v) → Does (gone_effect k to at y) d (gone_row k to at y d)
gone-does k to at entry.Nothing d stands = does-nothing d
gone-does k to at (entry.Here v) d stands = gone_here-does k at to v d (stands v refl)
gone-does k to at (entry.Left there h) d stands = sends-does there (packet.Gone to at) d
gone-does k to at (entry.Destroyed m) d stands = does-then (sends-does at (packet.GoneSeen (opposite to)) d) (erases-does k m (sends at (packet.GoneSeen (opposite to)) d))

-- moved at a mark
mark_learns-does : (to : EndId) (at hops : ℕ) (m : MovingPicture) (d : Progress) → d.table to ≡ entry.Destroyed m → Does (changed (puts to (entry.Destroyed (learned at hops m)) stays)) d (mark_learns to at hops m d)
mark_learns-does to at hops m d there = by (is_news m hops) refl
  where
    x : Entry
    x = entry.Destroyed (learned at hops m)

    by : (b : Bool) → is_news m hops ≡ b → Does (changed (puts to x stays)) d (if b then keeps to x d else d)
    by true is = keeps-does to x d
    by false is = does-changed (puts to x stays) d d (λ q. at_end q (end_eq to q) refl) (only_table d)
      where
        same : entry.Destroyed m ≡ x
        same = sym (ap (λ b. entry.Destroyed (if b then record m { hint = (at, hops) } else m)) is)

        at_end : (q : EndId) (b : Bool) → end_eq to q ≡ b → d.table q ≡ (if b then x else d.table q)
        at_end q true here = sym (ap d.table (end_eq-same to q here)) ∙ there ∙ same
        at_end q false apart = refl

pub moved-does : (k : ℕ) (to : EndId) (at hops : ℕ) (y : Entry) (d : Progress) → ((m : MovingPicture) → y ≡ entry.Destroyed m → d.table to ≡ entry.Destroyed m) → Does (moved_effect k to at hops y) d (moved_row k to at hops y d)
unfolding moved_here moved_mark
moved-does k to at hops entry.Nothing d there = does-nothing d
moved-does k to at hops (entry.Here v) d there =
    let known = packet.Known (opposite v.value.end) hops in
    does-either v.value.dead nothing (record (learn_effect k at hops v) { packets = view_news k at hops v v.inward ++ (at, known) ∷ [] }) (does-nothing d)
    (does-sent (learns-does k at hops v d) (sends-does at known (learns k at hops v d)))
moved-does k to at hops (entry.Left away h) d there = sends-does away (packet.Moved to at hops) d
moved-does k to at hops (entry.Destroyed m) d there =
    does-sent (mark_learns-does to at hops m d (there m refl)) (sends-does at (packet.Gone (opposite to) k) (mark_learns to at hops m d))

-- known
pub known-does : (k hops : ℕ) (y : Entry) (d : Progress) → Does (known_effect k hops y) d (known_row k hops y d)
unfolding known_here
known-does k hops entry.Nothing d = does-nothing d
known-does k hops (entry.Here v) d =
    let x = entry.Here (record v { value = record v.value { trail = 0 } }) in
    does-either (not v.value.dead && nat_eq v.value.hops hops) (record (sent (forget_packets k v.value)) { entry = puts v.value.end x stays }) nothing
    (does-turned (forgets-does k v.value d) (keeps-does v.value.end x (forgets k v.value d))) (does-nothing d)
known-does k hops (entry.Left there h) d = does-nothing d
known-does k hops (entry.Destroyed m) d = does-nothing d

-- forget
pub forget-does : (to : EndId) (hops : ℕ) (y : Entry) (d : Progress) → Does (forget_effect to hops y) d (forget_row to hops y d)
forget-does to hops entry.Nothing d = does-nothing d
forget-does to hops (entry.Here v) d = does-nothing d
forget-does to hops (entry.Left there h) d = does-either (nat_le h hops) (changed (puts to entry.Nothing stays)) nothing (keeps-does to entry.Nothing d) (does-nothing d)
forget-does to hops (entry.Destroyed m) d = does-nothing d

-- goneseen
pub goneseen-does : (k : ℕ) (y : Entry) (d : Progress) → Does (goneseen_effect k y) d (goneseen_row k y d)
goneseen-does k entry.Nothing d = does-nothing d
goneseen-does k (entry.Here v) d = does-nothing d
goneseen-does k (entry.Left there h) d = does-nothing d
goneseen-does k (entry.Destroyed m) d = erases-does k m d
