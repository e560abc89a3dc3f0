-- The queues of packets that a node sent, while one of them changes.
use Rattle.std.proofs.Common.{◌≡◌, ◌≢◌, ◌⊎◌, inl, inr, ℕ, ◌<◌, ◌≤◌, arith, true, false, nat_eq, List, [], ◌∷◌, ◌++◌, length, map, set, get_or, ap, ◌∙◌, sym, refl, append_assoc, append-nil, All, zero, suc}
use Rattle.std.specs.Prelude.{slice_index_or}
use Rattle.std.specs.List.{filter}
use Rattle.std.proofs.lemmas.List.{map-append, get_or_default, get_or-set_same, get_or-set_other}
use Rattle.std.proofs.lemmas.List.Elements.{filter-append, All-head, All-tail}
use Rattle.std.proofs.lemmas.Bool.Decides.{eqb_tells}
use Rattle.charlotte_packets.specs.declared.packet.Packet.{Packet}
use Rattle.charlotte_packets.specs.declared.picture.Picture.{Picture}
use Rattle.kernel_step.specs.Progress.{sent_picture}
use Rattle.kernel_world.specs.World.{to_kernel}
use Rattle.packet_queue.specs.Queue.{picture_in}

-- the queues of a node
abbrev pub Queues : Type 0
Queues = List (List Picture)

abbrev pub sent_in : Queues → ℕ → List Picture
sent_in queues to = slice_index_or queues to []

-- a queue as it is read
pub sent_in-read : (queues : Queues) (t n : ℕ) (queue : List Picture) → t ≡ n → t < length queues → queue ≡ get_or queues t queue → queue ≡ sent_in queues n
sent_in-read queues t n queue at below is = is ∙ get_or_default queues t queue [] below ∙ ap (sent_in queues) at

-- a queue is another, and the others are as before
pub sent_in-set : (queues : Queues) (t n : ℕ) (queue : List Picture) → t ≡ n → t < length queues → sent_in (set queues t queue) n ≡ queue
sent_in-set queues t n queue at below = ap (sent_in (set queues t queue)) (sym at) ∙ get_or-set_same queues t queue [] below

pub sent_in-others : (queues : Queues) (t n : ℕ) (queue : List Picture) → t ≡ n → (q : ℕ) → q ≢ n → sent_in (set queues t queue) q ≡ sent_in queues q
sent_in-others queues t n queue at q other = get_or-set_other queues t q queue [] (λ e. other (e ∙ at))

pub to_kernel-append : (to : ℕ) (xs ys : List (ℕ × Picture)) → to_kernel to (xs ++ ys) ≡ to_kernel to xs ++ to_kernel to ys
to_kernel-append to xs ys =
    ap (map (λ s. s.1)) (filter-append (λ s. nat_eq to s.0) xs ys) ∙ map-append (λ s. s.1) (filter (λ s. nat_eq to s.0) xs) (filter (λ s. nat_eq to s.0) ys)

-- packets of an event, and others behind them, were sent
pub sent-both : (before mid after : List Picture) (to : ℕ) (xs ys all : List (ℕ × Packet)) → all ≡ xs ++ ys → mid ≡ before ++ to_kernel to (map sent_picture xs) → after ≡ mid ++ to_kernel to (map sent_picture ys)
    → after ≡ before ++ to_kernel to (map sent_picture all)
sent-both before mid after to xs ys all parts first second =
    second ∙ ap (λ qs. qs ++ to_kernel to (map sent_picture ys)) first ∙ append_assoc before (to_kernel to (map sent_picture xs)) (to_kernel to (map sent_picture ys))
    ∙ ap (λ qs. before ++ qs) (sym (to_kernel-append to (map sent_picture xs) (map sent_picture ys)) ∙ ap (to_kernel to) (sym (map-append sent_picture xs ys) ∙ ap (map sent_picture) (sym parts)))

-- what goes to a kernel, of one packet
one-same : (to t : ℕ) (q : Picture) → nat_eq to t ≡ true → to_kernel to ((t, q) ∷ []) ≡ q ∷ []
one-same to t q e = rw e refl

one-other : (to t : ℕ) (q : Picture) → nat_eq to t ≡ false → to_kernel to ((t, q) ∷ []) ≡ []
one-other to t q e = rw e refl

same-number : (to t : ℕ) → t ≡ to → nat_eq to t ≡ true
same-number to t is = elim (eqb_tells to t) [ inl e ↦ e.0 | inr e ↦ absurd (e.1 (sym is)) ]

other-number : (to t : ℕ) → to ≢ t → nat_eq to t ≡ false
other-number to t other = elim (eqb_tells to t) [ inl e ↦ absurd (other e.1) | inr e ↦ e.0 ]

-- a packet joins the queue of its kernel
pub sent_in-push : (queues : Queues) (t : ℕ) (before after : List Picture) (sent : ℕ × Packet) → t < length queues → before ≡ get_or queues t before → after ≡ before ++ picture_in sent ∷ [] → (to : ℕ)
    → sent_in (set queues t after) to ≡ sent_in queues to ++ to_kernel to ((t, picture_in sent) ∷ [])
sent_in-push queues t before after sent below is pushed to = by (eqb_tells to t)
  where
    here : sent_in (set queues t after) t ≡ sent_in queues t ++ picture_in sent ∷ []
    here = sent_in-set queues t t after refl below ∙ pushed ∙ ap (λ qs. qs ++ picture_in sent ∷ []) (sent_in-read queues t t before refl below is)

    by : ((nat_eq to t ≡ true) × (to ≡ t)) ⊎ ((nat_eq to t ≡ false) × (to ≢ t)) → sent_in (set queues t after) to ≡ sent_in queues to ++ to_kernel to ((t, picture_in sent) ∷ [])
    by (inl e) = ap (sent_in (set queues t after)) e.1 ∙ here ∙ ap (λ n. sent_in queues n ++ picture_in sent ∷ []) (sym e.1)
        ∙ ap (λ qs. sent_in queues to ++ qs) (sym (one-same to t (picture_in sent) e.0))
    by (inr e) = sent_in-others queues t t after refl to e.1 ∙ sym (append-nil (sent_in queues to)) ∙ ap (λ qs. sent_in queues to ++ qs) (sym (one-other to t (picture_in sent) e.0))

-- the first of the packets that are left was sent
pub sent_in-next : (queues : Queues) (t : ℕ) (before after : List Picture) (sent : ℕ × Packet) (left rest : List (ℕ × Packet)) → t ≡ sent.0 → t < length queues → before ≡ get_or queues t before
    → after ≡ before ++ picture_in sent ∷ [] → left ≡ sent ∷ rest → (to : ℕ) → sent_in (set queues t after) to ++ to_kernel to (map sent_picture rest) ≡ sent_in queues to ++ to_kernel to (map sent_picture left)
sent_in-next queues t before after sent left rest at below is pushed first to =
    ap (λ qs. qs ++ to_kernel to (map sent_picture rest)) (sent_in-push queues t before after sent below is pushed to)
    ∙ append_assoc (sent_in queues to) (to_kernel to ((t, picture_in sent) ∷ [])) (to_kernel to (map sent_picture rest))
    ∙ ap (λ qs. sent_in queues to ++ qs)
    (ap (λ m. to_kernel to ((m, picture_in sent) ∷ []) ++ to_kernel to (map sent_picture rest)) at
    ∙ sym (to_kernel-append to (sent_picture sent ∷ []) (map sent_picture rest))
    ∙ ap (λ ls. to_kernel to (map sent_picture ls)) (sym first))

-- packets that all go to a kernel
abbrev pub AllGoTo : ℕ → List (ℕ × Packet) → Type 0
AllGoTo n sent = All (λ p. p.0 ≡ n) sent

-- there they are all that goes to it
to_kernel-all : (n : ℕ) (sent : List (ℕ × Packet)) → AllGoTo n sent → to_kernel n (map sent_picture sent) ≡ map picture_in sent
to_kernel-all n [] all = refl
to_kernel-all n (p ∷ ps) all =
    to_kernel-append n (sent_picture p ∷ []) (map sent_picture ps)
    ∙ ap (λ qs. qs ++ to_kernel n (map sent_picture ps)) (one-same n p.0 (picture_in p) (same-number n p.0 (All-head (λ x. x.0 ≡ n) p ps all)))
    ∙ ap (λ qs. picture_in p ∷ qs) (to_kernel-all n ps (All-tail (λ x. x.0 ≡ n) p ps all))

-- and nothing goes to another
to_kernel-none : (to n : ℕ) (sent : List (ℕ × Packet)) → to ≢ n → AllGoTo n sent → to_kernel to (map sent_picture sent) ≡ []
to_kernel-none to n [] other all = refl
to_kernel-none to n (p ∷ ps) other all =
    to_kernel-append to (sent_picture p ∷ []) (map sent_picture ps)
    ∙ ap (λ qs. qs ++ to_kernel to (map sent_picture ps)) (one-other to p.0 (picture_in p) (other-number to p.0 (λ e. other (e ∙ All-head (λ x. x.0 ≡ n) p ps all))))
    ∙ to_kernel-none to n ps other (All-tail (λ x. x.0 ≡ n) p ps all)

-- where no packet waits a list of packets to one kernel is as good as its packets
pub sent_in-whole : (queues : Queues) (t n : ℕ) (after : List Picture) (sent : List (ℕ × Packet)) → t ≡ n → t < length queues → sent_in queues n ≡ [] → AllGoTo n sent → after ≡ map picture_in sent → (to : ℕ)
    → sent_in (set queues t after) to ≡ sent_in queues to ++ to_kernel to (map sent_picture sent)
sent_in-whole queues t n after sent at below none all put to = by (eqb_tells to n)
  where
    by : ((nat_eq to n ≡ true) × (to ≡ n)) ⊎ ((nat_eq to n ≡ false) × (to ≢ n)) → sent_in (set queues t after) to ≡ sent_in queues to ++ to_kernel to (map sent_picture sent)
    by (inl e) = ap (sent_in (set queues t after)) e.1 ∙ sent_in-set queues t n after at below ∙ put ∙ sym (to_kernel-all n sent all)
        ∙ ap (λ qs. qs ++ to_kernel n (map sent_picture sent)) (sym none) ∙ ap (λ m. sent_in queues m ++ to_kernel m (map sent_picture sent)) (sym e.1)
    by (inr e) = sent_in-others queues t n after at to e.1 ∙ sym (append-nil (sent_in queues to)) ∙ ap (λ qs. sent_in queues to ++ qs) (sym (to_kernel-none to n sent e.1 all))

-- there is no queue to a kernel that is not there
pub sent_in-away : (queues : Queues) (to : ℕ) → length queues ≤ to → sent_in queues to ≡ []
sent_in-away [] to far = refl
sent_in-away (x ∷ xs) zero far = absurd (omega (arith, far))
sent_in-away (x ∷ xs) (suc to) far = sent_in-away xs to (omega (arith, far))

abbrev pub IsEmptyQueue : List Picture → Type 0
IsEmptyQueue queue = queue ≡ []

-- nothing was sent where each queue is empty
pub nothing_sent : (queues : Queues) → All IsEmptyQueue queues → (to : ℕ) → sent_in queues to ≡ []
nothing_sent [] all to = refl
nothing_sent (x ∷ xs) all zero = All-head IsEmptyQueue x xs all
nothing_sent (x ∷ xs) all (suc to) = nothing_sent xs (All-tail IsEmptyQueue x xs all) to
