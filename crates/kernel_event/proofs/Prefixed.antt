-- What an event adds stands behind the packets that were sent before, whichever they are.
use Rattle.std.proofs.Common.{length-append, ◌≡◌, ℕ, ◌+◌, Bool, true, false, not, ◌&&◌, nat_eq, List, [], ◌∷◌, ◌++◌, Option, Some, None, length, refl, sym, ap, ◌∙◌, append_assoc, cond, if◌then◌else◌}
use Rattle.std.specs.List.{fold}
use Rattle.std.specs.Int.{bit_at}
use Rattle.charlotte_calls.specs.Names.{opposite}
use Rattle.charlotte_calls.specs.declared.calls.Answer.{Answer}
use Rattle.charlotte_calls.specs.declared.calls.Answer.TheVariants as answer
use Rattle.charlotte_calls.specs.declared.calls.Cause.TheVariants as cause
use Rattle.charlotte_calls.specs.declared.calls.Report.{Report}
use Rattle.charlotte_calls.specs.declared.calls.ServiceStep.{ServiceStep}
use Rattle.charlotte_calls.specs.declared.names.EndId.{EndId}
use Rattle.charlotte_packets.specs.declared.picture.MovingPicture.{MovingPicture}
use Rattle.charlotte_packets.specs.declared.picture.Picture.{Picture}
use Rattle.charlotte_packets.specs.declared.picture.PictureWhat.{PictureWhat}
use Rattle.charlotte_packets.specs.declared.picture.PictureWhat.TheVariants as packet
use Rattle.end_table.specs.Entries.{is_news, settled}
use Rattle.end_table.specs.declared.entry.Entry.{Entry}
use Rattle.end_table.specs.declared.entry.Entry.TheVariants as entry
use Rattle.end_table.specs.declared.entry.HereView.{HereView}
use Rattle.end_table.specs.declared.entry.Holder.{Holder}
use Rattle.end_table.specs.declared.entry.Holder.TheVariants as holder
use Rattle.end_table.specs.declared.entry.Inward.{Inward}
use Rattle.end_table.specs.declared.entry.Inward.TheVariants as inward
use Rattle.end_table.specs.declared.entry.Outward.{Outward}
use Rattle.end_table.specs.declared.entry.Outward.TheVariants as outward
use Rattle.std.proofs.lemmas.List.{append-nil}
use Rattle.kernel_event.specs.Order.{put_behind}
use Rattle.kernel_event.proofs.Behind.{behind-parts}
use Rattle.kernel_step.specs.Actions.{here, held, hold_each, reports, answers, forgets, forget_at, kernel_numbers, notice_send, notice_receive, notices, is_withdrawing, resends_receive, tells_moved, resends, resends_on_news, tells_arrival, tell_arrivals, learned_view, receive_report, settle_each}
use Rattle.kernel_step.specs.Progress.{Progress, sends, reports_to, answers_to, means, keeps}
use Rattle.kernel_step.specs.Rows.{takes, receives, notices_first, gives_back}

abbrev pub Sent : Type 0
Sent = List (ℕ × Picture)

-- these packets stand before all others
abbrev pub prefixed : Sent → Progress → Progress
prefixed ps d = record d { packets = ps ++ d.packets }

-- what a word adds does not depend on the packets before
abbrev pub Adds : (Progress → Progress) → Type 0
Adds word = (ps : Sent) (d : Progress) → word (prefixed ps d) ≡ prefixed ps (word d)

pub sends-adds : (to : ℕ) (what : PictureWhat) → Adds (sends to what)
unfolding sends
sends-adds to what ps d = ap {A = Sent} {B = Progress} (λ l. record d { packets = l }) (append_assoc ps d.packets _)

pub means-adds : (step : ServiceStep) → Adds (means step)
unfolding means
means-adds step ps d = refl

pub keeps-adds : (e : EndId) (x : Entry) → Adds (keeps e x)
unfolding keeps
keeps-adds e x ps d = refl

pub reports-adds : (h : Holder) (r : Report) → Adds (reports h r)
unfolding reports_to
reports-adds (holder.Owner p) r ps d = refl
reports-adds (holder.EnclosedIn on) r ps d = refl

pub answers-adds : (h : Holder) (a : Answer) → Adds (answers h a)
unfolding answers_to
answers-adds (holder.Owner p) a ps d = refl
answers-adds (holder.EnclosedIn on) a ps d = refl

pub takes-adds : (e : EndId) (n : ℕ) (late : Bool) (h : Holder) → Adds (takes e n late h)
takes-adds e n late (holder.Owner p) ps d = means-adds _ ps d
takes-adds e n late (holder.EnclosedIn on) ps d = refl

-- one word after another, and a word that comes only where a test holds
pub then-adds : (f g : Progress → Progress) → Adds f → Adds g → Adds (λ d. f (g d))
then-adds f g f_adds g_adds ps d = ap f (g_adds ps d) ∙ f_adds ps (g d)

pub if-adds : (b : Bool) (f g : Progress → Progress) → Adds f → Adds g → Adds (λ d. cond b (f d) (g d))
if-adds true f g f_adds g_adds ps d = f_adds ps d
if-adds false f g f_adds g_adds ps d = g_adds ps d

same-adds : Adds (λ d. d)
same-adds ps d = refl

forget_each-adds : (k : ℕ) (m : MovingPicture) (js : List ℕ) → Adds (λ d. fold (λ so_far j. forget_at k m j so_far) d js)
forget_each-adds k m [] ps d = refl
forget_each-adds k m (j ∷ js) ps d =
    ap (λ u. fold (λ so_far j. forget_at k m j so_far) u js)
    (if-adds (nat_eq (bit_at m.trail j) 1 && not (nat_eq j k)) (sends j (packet.Forget m.end m.hops)) (λ u. u) (sends-adds j (packet.Forget m.end m.hops)) same-adds ps d)
    ∙ forget_each-adds k m js ps (forget_at k m j d)

pub forgets-adds : (k : ℕ) (m : MovingPicture) → Adds (forgets k m)
unfolding forgets
forgets-adds k m ps d = forget_each-adds k m kernel_numbers ps d

held-adds : (h : Holder) (x : Option HereView) → Adds (held h x)
held-adds h None ps d = refl
held-adds h (Some v) ps d = keeps-adds v.value.end (entry.Here (record v { holder = h })) ps d

pub hold_each-adds : (h : Holder) (xs : List EndId) → Adds (hold_each h xs)
unfolding hold_each
hold_each-adds h [] ps d = refl
hold_each-adds h (x ∷ xs) ps d =
    ap (λ u. fold (λ so_far y. held h (here (so_far.table y)) so_far) u xs) (held-adds h (here (d.table x)) ps d)
    ∙ hold_each-adds h xs ps (held h (here (d.table x)) d)

notice_send-adds : (e : EndId) (h : Holder) (o : Outward) → Adds (notice_send e h o)
unfolding notice_send
notice_send-adds e h outward.Idle ps d = refl
notice_send-adds e h (outward.Waiting n bytes xs) ps d = ap (hold_each h xs) (reports-adds h _ ps d) ∙ hold_each-adds h xs ps _
notice_send-adds e h (outward.Matched n) ps d = refl
notice_send-adds e h outward.Unreported ps d = refl

notice_receive-adds : (e : EndId) (h : Holder) (i : Inward) → Adds (notice_receive e h i)
unfolding notice_receive
notice_receive-adds e h inward.Idle ps d = refl
notice_receive-adds e h (inward.Posted w) ps d = reports-adds h _ ps d
notice_receive-adds e h (inward.Withdrawing w) ps d = ap (answers h _) (reports-adds h _ ps d) ∙ answers-adds h _ ps _
notice_receive-adds e h inward.Unreported ps d = refl

pub notices-adds : (k : ℕ) (v : HereView) → Adds (notices k v)
unfolding notices
notices-adds k v ps d =
    ap (λ u. forgets k v.value (notice_receive e v.holder v.inward (notice_send e v.holder v.outward u))) (keeps-adds e _ ps d)
    ∙ ap (λ u. forgets k v.value (notice_receive e v.holder v.inward u)) (notice_send-adds e v.holder v.outward ps _)
    ∙ ap (forgets k v.value) (notice_receive-adds e v.holder v.inward ps _)
    ∙ forgets-adds k v.value ps _
  where
    e : EndId
    e = v.value.end

pub notices_first-adds : (k from : ℕ) (v : HereView) → Adds (notices_first k from v)
unfolding notices_first
notices_first-adds k from v =
    if-adds v.value.dead (λ d. d) (λ d. sends from (packet.GoneSeen (opposite v.value.end)) (notices k v d)) same-adds
    (then-adds (sends from (packet.GoneSeen (opposite v.value.end))) (notices k v) (sends-adds from (packet.GoneSeen (opposite v.value.end))) (notices-adds k v))

tells_moved-adds : (k : ℕ) (m : MovingPicture) → Adds (tells_moved k m)
unfolding tells_moved
tells_moved-adds k m ps d = sends-adds _ _ ps d

resends_receive-adds : (k : ℕ) (m : MovingPicture) (i : Inward) → Adds (resends_receive k m i)
resends_receive-adds k m inward.Idle ps d = refl
resends_receive-adds k m (inward.Posted w) ps d = sends-adds _ _ ps d
resends_receive-adds k m (inward.Withdrawing w) ps d = sends-adds _ _ ps d
resends_receive-adds k m inward.Unreported ps d = refl

resends-adds : (k : ℕ) (m : MovingPicture) (i : Inward) → Adds (resends k m i)
unfolding resends
resends-adds k m i =
    if-adds (nat_eq m.trail 0) (resends_receive k m i) (λ d. tells_moved k m (resends_receive k m i d)) (resends_receive-adds k m i)
    (then-adds (tells_moved k m) (resends_receive k m i) (tells_moved-adds k m) (resends_receive-adds k m i))

pub resends_on_news-adds : (k : ℕ) (before : MovingPicture) (hops : ℕ) (m : MovingPicture) (i : Inward) → Adds (resends_on_news k before hops m i)
unfolding resends_on_news
resends_on_news-adds k before hops m i = if-adds (is_news before hops) (resends k m i) (λ d. d) (resends-adds k m i) same-adds

pub receives-adds : (k n at hops : ℕ) (bytes : List ℕ) (xs : List EndId) (v : HereView) → Adds (receives k n at hops bytes xs v)
unfolding receives
receives-adds k n at hops bytes xs v ps d =
    ap (λ u. sends at told (cond late (answers v.holder refused (reports v.holder report (takes e n late v.holder u))) (reports v.holder report (takes e n late v.holder u)))) (keeps-adds e (entry.Here taken) ps d)
    ∙ ap (λ u. sends at told (cond late (answers v.holder refused (reports v.holder report u)) (reports v.holder report u))) (takes-adds e n late v.holder ps kept)
    ∙ ap (λ u. sends at told (cond late (answers v.holder refused u) u)) (reports-adds v.holder report ps (takes e n late v.holder kept))
    ∙ ap (sends at told) (if-adds late (answers v.holder refused) (λ u. u) (answers-adds v.holder refused) same-adds ps (reports v.holder report (takes e n late v.holder kept)))
    ∙ sends-adds at told ps _
  where
    e : EndId
    e = v.value.end

    late : Bool
    late = is_withdrawing v.inward

    taken : HereView
    taken = record (learned_view v at hops) { inward = inward.Unreported }

    kept : Progress
    kept = keeps e (entry.Here taken) d

    report : Report
    report = receive_report e bytes xs

    refused : Answer
    refused = answer.Refused cause.Late

    told : PictureWhat
    told = packet.Taken (opposite e) n k v.value.hops

-- the event came so far with no packet, at the same stamp
pub record Silent (old new : Progress) : Type 0 where
  pub stamp : new.stamp ≡ old.stamp
  pub packets : new.packets ≡ old.packets

silent-same : (d : Progress) → Silent d d
silent-same d = record { stamp = refl; packets = refl }

silent-then : {a b c : Progress} → Silent a b → Silent b c → Silent a c
silent-then first second = record { stamp = second.stamp ∙ first.stamp; packets = second.packets ∙ first.packets }

if-silent : (b : Bool) (d x y : Progress) → Silent d x → Silent d y → Silent d (cond b x y)
if-silent true d x y x_is y_is = x_is
if-silent false d x y x_is y_is = y_is

means-silent : (step : ServiceStep) (d : Progress) → Silent d (means step d)
unfolding means
means-silent step d = record { stamp = refl; packets = refl }

keeps-silent : (e : EndId) (x : Entry) (d : Progress) → Silent d (keeps e x d)
unfolding keeps
keeps-silent e x d = record { stamp = refl; packets = refl }

reports-silent : (h : Holder) (r : Report) (d : Progress) → Silent d (reports h r d)
unfolding reports_to
reports-silent (holder.Owner p) r d = record { stamp = refl; packets = refl }
reports-silent (holder.EnclosedIn on) r d = silent-same d

answers-silent : (h : Holder) (a : Answer) (d : Progress) → Silent d (answers h a d)
unfolding answers_to
answers-silent (holder.Owner p) a d = record { stamp = refl; packets = refl }
answers-silent (holder.EnclosedIn on) a d = silent-same d

takes-silent : (e : EndId) (n : ℕ) (late : Bool) (h : Holder) (d : Progress) → Silent d (takes e n late h d)
takes-silent e n late (holder.Owner p) d = means-silent _ d
takes-silent e n late (holder.EnclosedIn on) d = silent-same d

held-silent : (h : Holder) (x : Option HereView) (d : Progress) → Silent d (held h x d)
held-silent h None d = silent-same d
held-silent h (Some v) d = keeps-silent v.value.end (entry.Here (record v { holder = h })) d

hold_each-silent : (h : Holder) (xs : List EndId) (d : Progress) → Silent d (hold_each h xs d)
unfolding hold_each
hold_each-silent h [] d = silent-same d
hold_each-silent h (x ∷ xs) d = silent-then (held-silent h (here (d.table x)) d) (hold_each-silent h xs (held h (here (d.table x)) d))

notice_send-silent : (e : EndId) (h : Holder) (o : Outward) (d : Progress) → Silent d (notice_send e h o d)
unfolding notice_send
notice_send-silent e h outward.Idle d = silent-same d
notice_send-silent e h (outward.Waiting n bytes xs) d = silent-then (reports-silent h _ d) (hold_each-silent h xs _)
notice_send-silent e h (outward.Matched n) d = silent-same d
notice_send-silent e h outward.Unreported d = silent-same d

notice_receive-silent : (e : EndId) (h : Holder) (i : Inward) (d : Progress) → Silent d (notice_receive e h i d)
unfolding notice_receive
notice_receive-silent e h inward.Idle d = silent-same d
notice_receive-silent e h (inward.Posted w) d = reports-silent h _ d
notice_receive-silent e h (inward.Withdrawing w) d = silent-then (reports-silent h _ d) (answers-silent h _ _)
notice_receive-silent e h inward.Unreported d = silent-same d

settle_each-silent : (h : Holder) (ms : List MovingPicture) (d : Progress) → Silent d (settle_each h ms d)
unfolding settle_each
settle_each-silent h [] d = silent-same d
settle_each-silent h (m ∷ ms) d = silent-then (keeps-silent m.end (entry.Here (settled h m)) d) (settle_each-silent h ms _)

-- so values that become Here send nothing
pub settle_each-sends : (h : Holder) (ms : List MovingPicture) (d : Progress) → (settle_each h ms d).packets ≡ d.packets
settle_each-sends h ms d = (settle_each-silent h ms d).packets

-- nor do those of a message that comes back
pub gives_back-sends : (came : List MovingPicture) (v : HereView) (d : Progress) → (gives_back came v d).packets ≡ d.packets
unfolding gives_back
gives_back-sends came v d = (silent-then (silent-then (keeps-silent v.value.end _ d) (reports-silent v.holder _ _)) (settle_each-silent v.holder came _)).packets

-- a word keeps the stamp
abbrev pub Stays : (Progress → Progress) → Type 0
Stays word = (d : Progress) → (word d).stamp ≡ d.stamp

sends-stays : (to : ℕ) (what : PictureWhat) → Stays (sends to what)
unfolding sends
sends-stays to what d = refl

if-stays : (b : Bool) (f g : Progress → Progress) → Stays f → Stays g → Stays (λ d. cond b (f d) (g d))
if-stays true f g f_stays g_stays d = f_stays d
if-stays false f g f_stays g_stays d = g_stays d

forget_each-stays : (k : ℕ) (m : MovingPicture) (js : List ℕ) → Stays (λ d. fold (λ so_far j. forget_at k m j so_far) d js)
forget_each-stays k m [] d = refl
forget_each-stays k m (j ∷ js) d =
    forget_each-stays k m js (forget_at k m j d)
    ∙ if-stays (nat_eq (bit_at m.trail j) 1 && not (nat_eq j k)) (sends j (packet.Forget m.end m.hops)) (λ u. u) (sends-stays j (packet.Forget m.end m.hops)) (λ u. refl) d

notices-stays : (k : ℕ) (v : HereView) → Stays (notices k v)
unfolding notices forgets
notices-stays k v d =
    forget_each-stays k v.value kernel_numbers _
    ∙ (silent-then (silent-then (keeps-silent v.value.end _ d) (notice_send-silent v.value.end v.holder v.outward _)) (notice_receive-silent v.value.end v.holder v.inward _)).stamp

pub notices_first-stays : (k from : ℕ) (v : HereView) → Stays (notices_first k from v)
unfolding notices_first
notices_first-stays k from v =
    if-stays v.value.dead (λ d. d) (λ d. sends from (packet.GoneSeen (opposite v.value.end)) (notices k v d)) (λ d. refl)
    (λ d. sends-stays from (packet.GoneSeen (opposite v.value.end)) (notices k v d) ∙ notices-stays k v d)

-- one packet more than none
one_more : (l : Sent) (p : ℕ × Picture) → l ≡ [] → length (l ++ p ∷ []) ≡ 1
one_more l p none = ap (λ m. length (m ++ p ∷ [])) none

-- of a message that is taken
module _ (k n at hops : ℕ) (bytes : List ℕ) (xs : List EndId) (v : HereView) (d : Progress) where
  abbrev reported : Progress
  reported =
      reports v.holder (receive_report v.value.end bytes xs)
      (takes v.value.end n (is_withdrawing v.inward) v.holder (keeps v.value.end (entry.Here (record (learned_view v at hops) { inward = inward.Unreported })) d))

  -- nothing is sent before its packet
  before_sent : Silent d (cond (is_withdrawing v.inward) (answers v.holder (answer.Refused cause.Late) reported) reported)
  before_sent =
      silent-then
      (silent-then (silent-then (keeps-silent v.value.end _ d) (takes-silent v.value.end n (is_withdrawing v.inward) v.holder _)) (reports-silent v.holder _ _))
      (if-silent (is_withdrawing v.inward) reported _ reported (answers-silent v.holder (answer.Refused cause.Late) reported) (silent-same reported))

  pub receives-stays : (receives k n at hops bytes xs v d).stamp ≡ d.stamp
  unfolding receives
  receives-stays = sends-stays at _ _ ∙ before_sent.stamp

  -- so one packet is sent
  pub receives-one : d.packets ≡ [] → length (receives k n at hops bytes xs v d).packets ≡ 1
  unfolding receives sends
  receives-one none = one_more _ _ (before_sent.packets ∙ none)

-- ---- the arrivals that are told

-- the packets that tell of arrivals
abbrev pub moves : ℕ → ℕ → List MovingPicture → Sent
moves k stamp [] = []
moves k stamp (m ∷ ms) =
    (if m.dead then [] else (m.hint.0, record { stamp = stamp; what = packet.Moved (opposite m.end) k m.hops }) ∷ []) ++ moves k stamp ms

tell_one : (k : ℕ) (m : MovingPicture) (d : Progress) → tells_arrival k m d ≡ record d { packets = d.packets ++ moves k d.stamp (m ∷ []) }
unfolding tells_moved sends
tell_one k m d = by m.dead
  where
    by : (b : Bool) → (if b then d else record d { packets = d.packets ++ (m.hint.0, record { stamp = d.stamp; what = packet.Moved (opposite m.end) k m.hops }) ∷ [] })
        ≡ record d { packets = d.packets ++ ((if b then [] else (m.hint.0, record { stamp = d.stamp; what = packet.Moved (opposite m.end) k m.hops }) ∷ []) ++ []) }
    by true = ap {A = Sent} {B = Progress} (λ l. record d { packets = l }) (sym (append-nil d.packets))
    by false = refl

pub tell_arrivals-moves : (k : ℕ) (ms : List MovingPicture) (d : Progress) → tell_arrivals k ms d ≡ record d { packets = d.packets ++ moves k d.stamp ms }
unfolding tell_arrivals
tell_arrivals-moves k [] d = ap {A = Sent} {B = Progress} (λ l. record d { packets = l }) (sym (append-nil d.packets))
tell_arrivals-moves k (m ∷ ms) d =
    ap (λ u. fold (λ so_far x. tells_arrival k x so_far) u ms) (tell_one k m d)
    ∙ tell_arrivals-moves k ms (record d { packets = d.packets ++ moves k d.stamp (m ∷ []) })
    ∙ ap {A = Sent} {B = Progress} (λ l. record d { packets = l })
    (append_assoc d.packets (moves k d.stamp (m ∷ [])) (moves k d.stamp ms) ∙ ap (λ l. d.packets ++ l) (ap (λ l. l ++ moves k d.stamp ms) (append-nil (first m.dead))))
  where
    first : Bool → Sent
    first b = if b then [] else (m.hint.0, record { stamp = d.stamp; what = packet.Moved (opposite m.end) k m.hops }) ∷ []

-- What is told of arrivals before a word and another word after it goes behind what the word sends.
module _ (k : ℕ) (ms : List MovingPicture) (word more : Progress → Progress) (word_adds : Adds word) (more_adds : Adds more) (word_stays : Stays word) (d : Progress) (none : d.packets ≡ []) where
  abbrev moves_told : Sent
  moves_told = moves k d.stamp ms

  abbrev word_sent : Sent
  word_sent = (word d).packets

  abbrev word_bare : Progress
  word_bare = record (word d) { packets = [] }

  told_is : tell_arrivals k ms d ≡ prefixed moves_told d
  told_is = tell_arrivals-moves k ms d ∙ ap {A = Sent} {B = Progress} (λ l. record d { packets = l }) (ap (λ l. l ++ moves_told) none ∙ sym (append-nil moves_told) ∙ ap (λ l. moves_told ++ l) (sym none))

  told_packets : (tell_arrivals k ms d).packets ≡ moves_told
  told_packets = ap (λ u. u.packets) (tell_arrivals-moves k ms d) ∙ ap (λ l. l ++ moves_told) none

  word_is : word d ≡ prefixed word_sent word_bare
  word_is = ap {A = Sent} {B = Progress} (λ l. record (word d) { packets = l }) (sym (append-nil word_sent))

  after_is : tell_arrivals k ms (word d) ≡ prefixed (word_sent ++ moves_told) word_bare
  after_is =
      tell_arrivals-moves k ms (word d)
      ∙ ap {A = Sent} {B = Progress} (λ l. record (word d) { packets = l }) (ap (λ s. word_sent ++ moves k s ms) (word_stays d) ∙ sym (append-nil (word_sent ++ moves_told)))

  pub order : put_behind (length (tell_arrivals k ms d).packets) (length (tell_arrivals k ms d).packets + length (word d).packets) (more (word (tell_arrivals k ms d))) ≡ more (tell_arrivals k ms (word d))
  unfolding put_behind
  order =
      ap (λ n. put_behind n (n + length (word d).packets) (more (word (tell_arrivals k ms d)))) (ap length told_packets)
      ∙ ap (put_behind (length moves_told) (length moves_told + length word_sent)) (ap (λ u. more (word u)) told_is ∙ ap more (word_adds moves_told d) ∙ more_adds moves_told (word d) ∙ ap (λ u. prefixed moves_told (more u)) word_is ∙ ap (prefixed moves_told) (more_adds word_sent word_bare))
      ∙ ap {A = Sent} {B = Progress} (λ l. record (more word_bare) { packets = l }) (behind-parts moves_told word_sent (more word_bare).packets)
      ∙ sym (more_adds (word_sent ++ moves_told) word_bare)
      ∙ ap more (sym after_is)

  -- how many packets there are then
  pub order-length : length (word (tell_arrivals k ms d)).packets ≡ length (tell_arrivals k ms d).packets + length (word d).packets
  order-length =
      ap (λ u. length (word u).packets) told_is
      ∙ ap (λ u. length u.packets) (word_adds moves_told d)
      ∙ length-append moves_told (word d).packets
      ∙ ap (λ l. length l + length (word d).packets) (sym told_packets)
