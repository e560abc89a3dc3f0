-- Which ends are to be looked at, after the sets or an end were changed.
use Rattle.std.proofs.Common.{◌≡◌, ℕ, zero, suc, ◌<◌, Bool, true, false, List, [], ◌∷◌, ◌++◌, map, Option, Some, None, slice_get, slice_set, is_some, not, refl, sym, ap, subst, ◌∙◌, ⊎_elim}
use Rattle.std.specs.BTreeSet.{BTreeSet, btree_set_len}
use Rattle.std.proofs.lemmas.Bool.{cases_eq}
use Rattle.end_protocol.specs.declared.going.Due.{Due}
use Rattle.end_protocol.specs.declared.kept.Forbade.{Forbade}
use Rattle.end_protocol.specs.declared.going.Due.TheVariants as due
use Rattle.end_protocol.specs.declared.kept.Kept.{Kept}
use Rattle.end_protocol.specs.Going.{settled, settled_with, due_call}
use Rattle.end_protocol.specs.Lists.{is_nil}
use Rattle.end_protocol.specs.Wanting.{is_needed}
use Rattle.end_protocol.specs.declared.kept.Binding.{Binding}
use Rattle.end_protocol.specs.Kept.{fresh}
use Rattle.process_run.specs.States.{Holding, Keeps, Gone, Place}
use Rattle.process_run.specs.Ends.{with_holding, set_holding, place_at}
use Rattle.process_run.specs.Runs.{settled_in, settled_at}
use Rattle.process_run.proofs.Agenda.{all_are_settled, settled_twice, one_is_settled}
use Rattle.process_ends.specs.Ends.{kept_at, kept_by, kept_in}
use Rattle.process_ends.specs.Found.{IsFirst, forbids}
use Rattle.process_ends.specs.Noted.{AllAt, OnOthers, IsUnbound, IsCalm, IsIdle, IsNotedFor, is_among, due_in, is_due}
use Rattle.process_ends.specs.Sets.{Grows, GrowsBut}
use Rattle.process_ends.proofs.Lists.{all_changed, all_weaker, all_more, at_number, with_number, held_twice, some_is}
use Rattle.process_ends.proofs.Calling.{calm_same, idle_same, unbound_settled, first_found, none_found}

-- ---- sets

not_in : (a b : Bool) → (a ≡ true → b ≡ true) → b ≡ false → a ≡ false
not_in true b grows out = let no : true ≡ false = sym (grows refl) ∙ out in absurd cc
not_in false b grows out = refl

grown : (s t : BTreeSet ℕ) (P : Holding → Type 0) (ps : List Place) → Grows s t → AllAt (OnOthers s P) ps → AllAt (OnOthers t P) ps
grown s t P ps grows all = all_weaker (OnOthers s P) (OnOthers t P) ps all (λ m g known out. known (not_in (is_among m s) (is_among m t) (grows m) out))

-- larger sets do as well
pub noted_grown : (ps : List Place) (b u a b' u' a' : BTreeSet ℕ) (room : Bool) → IsNotedFor ps b u a room → Grows b b' → Grows u u' → Grows a a' → IsNotedFor ps b' u' a' room
noted_grown ps b u a b' u' a' room noted gb gu ga =
    record {
      unbound = grown b b' IsUnbound ps gb noted.unbound;
      calm = grown u u' (IsCalm room) ps gu noted.calm;
      idle = grown a a' (IsIdle room) ps ga noted.idle;
    }

changed : (s t : BTreeSet ℕ) (P : Holding → Type 0) (ps : List Place) (n : ℕ) (h : Holding) → GrowsBut n s t → AllAt (OnOthers s P) ps → OnOthers t P n h → AllAt (OnOthers t P) (with_holding n h ps)
changed s t P ps n h grows all here =
    all_changed (OnOthers s P) (OnOthers t P) ps n h all (λ m g apart known out. known (not_in (is_among m s) (is_among m t) (grows m apart) out)) here

-- the end of this number is held in this way
pub noted_changed : (ps : List Place) (n : ℕ) (h : Holding) (b u a b' u' a' : BTreeSet ℕ) (room : Bool) → IsNotedFor ps b u a room
    → GrowsBut n b b' → GrowsBut n u u' → GrowsBut n a a'
    → OnOthers b' IsUnbound n h → OnOthers u' (IsCalm room) n h → OnOthers a' (IsIdle room) n h
    → IsNotedFor (with_holding n h ps) b' u' a' room
noted_changed ps n h b u a b' u' a' room noted gb gu ga unbound calm idle =
    record {
      unbound = changed b b' IsUnbound ps n h gb noted.unbound unbound;
      calm = changed u u' (IsCalm room) ps n h gu noted.calm calm;
      idle = changed a a' (IsIdle room) ps n h ga noted.idle idle;
    }

same_but : (n : ℕ) (s : BTreeSet ℕ) → GrowsBut n s s
same_but n s = λ m apart is. is

-- the end is not held any more
pub noted_gone : (ps : List Place) (n : ℕ) (own : Bool) (b u a b' : BTreeSet ℕ) (room : Bool) → IsNotedFor ps b u a room → GrowsBut n b b' → IsNotedFor (with_holding n (Gone own) ps) b' u a room
noted_gone ps n own b u a b' room noted gb =
    noted_changed ps n (Gone own) b u a b' u a room noted gb (same_but n u) (same_but n a) (λ out. tt) (λ out. refl) (λ out. refl)

idle_fresh : (room : Bool) → IsIdle room (Keeps fresh)
unfolding due_call is_needed
idle_fresh room = refl

-- it is held anew
pub noted_fresh : (ps : List Place) (n : ℕ) (b u a : BTreeSet ℕ) (room : Bool) → IsNotedFor ps b u a room → IsNotedFor (with_holding n (Keeps fresh) ps) b u a room
noted_fresh ps n b u a room noted =
    noted_changed ps n (Keeps fresh) b u a b u a room noted (same_but n b) (same_but n u) (same_but n a) (λ out. refl) (λ out. refl) (λ out. idle_fresh room)

pub noted_more : (ps : List Place) (p : Place) (b u a : BTreeSet ℕ) (room : Bool) → IsNotedFor ps b u a room → p.holding ≡ Keeps fresh → IsNotedFor (ps ++ p ∷ []) b u a room
noted_more ps p b u a room noted is =
    record {
      unbound = all_more (OnOthers b IsUnbound) ps p noted.unbound (λ out. subst IsUnbound (sym is) refl);
      calm = all_more (OnOthers u (IsCalm room)) ps p noted.calm (λ out. subst (IsCalm room) (sym is) refl);
      idle = all_more (OnOthers a (IsIdle room)) ps p noted.idle (λ out. subst (IsIdle room) (sym is) (idle_fresh room));
    }

-- ---- room

-- there is room now, or none: all ends to which an entry is bound are to be looked at
pub noted_room : (ps : List Place) (b u a u' a' : BTreeSet ℕ) (room room' : Bool) → IsNotedFor ps b u a room
    → Grows u u' → Grows a a' → Grows b u' → Grows b a' → IsNotedFor ps b u' a' room'
noted_room ps b u a u' a' room room' noted gu ga bu ba =
    record {
      unbound = noted.unbound;
      calm = λ i p at out. calm_same room room' p.holding
          (noted.unbound i p at (not_in (is_among (suc i) b) (is_among (suc i) u') (bu (suc i)) out))
          (noted.calm i p at (not_in (is_among (suc i) u) (is_among (suc i) u') (gu (suc i)) out));
      idle = λ i p at out. idle_same room room' p.holding
          (noted.unbound i p at (not_in (is_among (suc i) b) (is_among (suc i) a') (ba (suc i)) out))
          (noted.idle i p at (not_in (is_among (suc i) a) (is_among (suc i) a') (ga (suc i)) out));
    }

-- ---- an allow is queued

kept_holding : (k : Kept) (h : Holding) → kept_by h ≡ Some k → h ≡ Keeps k
kept_holding k (Keeps j) e = ap (λ (x : Kept). Keeps x) (some_is j k e)
kept_holding k (Gone own) e = let no : None ≡ Some k = e in absurd cc

-- an end that is held, with its place
record Found (n i : ℕ) (p : Place) (k : Kept) (ps : List Place) : Type 0 where
  number : n ≡ suc i
  at : slice_get ps i ≡ Some p
  holding : p.holding ≡ Keeps k

found_so : (i : ℕ) (k : Kept) (ps : List Place) (o : Option Place) → slice_get ps i ≡ o → kept_in o ≡ Some k → (p : Place) × Found (suc i) i p k ps
found_so i k ps None at e = let no : None ≡ Some k = e in absurd cc
found_so i k ps (Some p) at e = (p, record { number = refl; at = at; holding = kept_holding k p.holding e })

found : (n : ℕ) (k : Kept) (ps : List Place) → kept_at n ps ≡ Some k → (i : ℕ) × ((p : Place) × Found n i p k ps)
found zero k ps e = let no : None ≡ Some k = e in absurd cc
found (suc i) k ps e = (i, found_so i k ps (slice_get ps i) refl e)

kept_changed : (n i : ℕ) (p : Place) (k : Kept) (h : Holding) (ps : List Place) → Found n i p k ps → with_holding n h ps ≡ slice_set ps i (record p { holding = h })
kept_changed n i p k h ps f = with_number n i h ps f.number ∙ ap (λ (o : Option Place). set_holding i h o ps) f.at

-- to queue the allow of one end, and then those of all, is to queue those of all
pub settled_one : (room : Bool) (n : ℕ) (k : Kept) (ps : List Place) → kept_at n ps ≡ Some k
    → map (settled_at room) (with_holding n (Keeps (settled room k)) ps) ≡ map (settled_at room) ps
settled_one room n k ps e =
    let x = found n k ps e in
    let f = x.1.1 in
    let p = x.1.0 in
    let same : record p { holding = Keeps (settled room k) } ≡ settled_at room p = ap (λ (h : Holding). record p { holding = settled_in room h }) (sym f.holding) in
    ap (map (settled_at room)) (kept_changed n x.0 p k (Keeps (settled room k)) ps f ∙ ap (λ (q : Place). slice_set ps x.0 q) same)
    ∙ one_is_settled room x.0 ps p f.at

-- what is true of all ends by number is true of this one
at_found : (P : ℕ → Holding → Type 0) (n : ℕ) (k : Kept) (ps : List Place) → AllAt P ps → kept_at n ps ≡ Some k → P n (Keeps k)
at_found P n k ps all e =
    let x = found n k ps e in
    let f = x.1.1 in
    subst (λ (m : ℕ). P m (Keeps k)) (sym f.number) (subst (P (suc x.0)) f.holding (all x.0 x.1.0 f.at))

pub noted_settled : (ps : List Place) (n : ℕ) (k : Kept) (b u a a' : BTreeSet ℕ) (room : Bool) → IsNotedFor ps b u a room → kept_at n ps ≡ Some k
    → Grows a a' → is_among n a' ≡ true → IsNotedFor (with_holding n (Keeps (settled room k)) ps) b u a' room
noted_settled ps n k b u a a' room noted e grows here =
    noted_changed ps n (Keeps (settled room k)) b u a b u a' room noted (same_but n b) (same_but n u) (λ m apart is. grows m is)
    (λ out. unbound_settled room (Keeps k) (at_found (OnOthers b IsUnbound) n k ps noted.unbound e out))
    (λ out. settled_twice room (Keeps k))
    (λ out. let no : true ≡ false = sym here ∙ out in absurd cc)

pub calm_here : (ps : List Place) (n : ℕ) (k : Kept) (room : Bool) → AllAt (λ m h. m ≡ n → IsCalm room h) (with_holding n (Keeps (settled room k)) ps)
calm_here ps n k room =
    all_changed (λ m h. Unit {0}) (λ m h. m ≡ n → IsCalm room h) ps n (Keeps (settled room k)) (λ i p at. tt) (λ m g apart known is. absurd (apart is)) (λ is. settled_twice room (Keeps k))

settled_none : (room : Bool) (k : Kept) (o : Option Forbade) → k.forbade ≡ o → is_some o ≡ false → settled room k ≡ k
settled_none room k None e none = ap (λ (o : Option Forbade). settled_with o room k) e
settled_none room k (Some f) e none = let no : true ≡ false = none in absurd cc

calm_so : (room : Bool) (h : Holding) → forbids (kept_by h) ≡ false → IsCalm room h
calm_so room (Keeps k) none = ap (λ (x : Kept). Keeps x) (settled_none room k k.forbade refl none)
calm_so room (Gone own) none = refl

-- where nothing was forbidden, no allow is due
pub calm_already : (ps : List Place) (n : ℕ) (room : Bool) → forbids (kept_at n ps) ≡ false → AllAt (λ m h. m ≡ n → IsCalm room h) ps
calm_already ps n room none =
    λ i p at is. calm_so room p.holding (ap (λ (o : Option Place). forbids (kept_in o)) (sym (at_number n i ps (sym is) ∙ at)) ∙ none)

pub noted_calm : (ps : List Place) (n : ℕ) (b u a u' : BTreeSet ℕ) (room : Bool) → IsNotedFor ps b u a room → GrowsBut n u u' → AllAt (λ m h. m ≡ n → IsCalm room h) ps
    → IsNotedFor ps b u' a room
noted_calm ps n b u a u' room noted grows here =
    record {
      unbound = noted.unbound;
      calm = λ i p at out. ⊎_elim (λ e. here i p at e) (λ ne. noted.calm i p at (not_in (is_among (suc i) u) (is_among (suc i) u') (grows (suc i) ne) out)) (cases_eq (suc i) n);
      idle = noted.idle;
    }

-- where all are looked at, no allow is due on any
pub all_calm : (ps : List Place) (b u a : BTreeSet ℕ) (room : Bool) → IsNotedFor ps b u a room → ((m : ℕ) → is_among m u ≡ false) → map (settled_at room) ps ≡ ps
all_calm ps b u a room noted none = all_are_settled room ps (λ j q there. noted.calm j q there (none (suc j)))

-- ---- a call that is due

not_due : (d : Due) → is_due d ≡ false → d ≡ due.Nothing
not_due due.Nothing e = refl
not_due due.Send e = let no : true ≡ false = e in absurd cc
not_due due.Receive e = let no : true ≡ false = e in absurd cc
not_due due.Cancel e = let no : true ≡ false = e in absurd cc

-- this is kept for it, and it is among those that are looked at, where something may be due
pub noted_kept : (ps : List Place) (n : ℕ) (k : Kept) (b u a b' : BTreeSet ℕ) (room : Bool) → IsNotedFor ps b u a room
    → (is_some k.forbade ≡ true → is_among n u ≡ true) → (is_due (due_call room k) ≡ true → is_among n a ≡ true)
    → GrowsBut n b b' → (is_among n b' ≡ false → k.bindings ≡ []) → IsNotedFor (with_holding n (Keeps k) ps) b' u a room
noted_kept ps n k b u a b' room noted iu ia gb unbound =
    noted_changed ps n (Keeps k) b u a b' u a room noted gb (same_but n u) (same_but n a) unbound
    (λ out. calm_so room (Keeps k) (not_in (is_some k.forbade) (is_among n u) iu out))
    (λ out. not_due (due_call room k) (not_in (is_due (due_call room k)) (is_among n a) ia out))

-- no call is due on this end
pub noted_idle : (ps : List Place) (n : ℕ) (b u a a' : BTreeSet ℕ) (room : Bool) → IsNotedFor ps b u a room → GrowsBut n a a' → is_due (due_in room (place_at n ps)) ≡ false
    → IsNotedFor ps b u a' room
noted_idle ps n b u a a' room noted grows none =
    record {
      unbound = noted.unbound;
      calm = noted.calm;
      idle = λ i p at out. ⊎_elim
          (λ e. ap (due_in room) (sym (at_number n i ps (sym e) ∙ at)) ∙ not_due (due_in room (place_at n ps)) none)
          (λ ne. noted.idle i p at (not_in (is_among (suc i) a) (is_among (suc i) a') (grows (suc i) ne) out)) (cases_eq (suc i) n);
    }

-- the least number of the agenda, if a call is due on its end
pub first_noted : (ps : List Place) (b u a : BTreeSet ℕ) (room : Bool) (n : ℕ) (d : Due) → IsNotedFor ps b u a room → ((m : ℕ) → m < n → is_among m a ≡ false)
    → d ≡ due_in room (place_at n ps) → is_due d ≡ true → IsFirst room ps (Some (n, d))
first_noted ps b u a room n d noted below is due =
    λ version. first_found version room ps n d (λ j q less there. noted.idle j q there (below (suc j) less)) (sym is) due

pub none_noted : (ps : List Place) (b u a : BTreeSet ℕ) (room : Bool) → IsNotedFor ps b u a room → ((m : ℕ) → is_among m a ≡ false) → IsFirst room ps None
none_noted ps b u a room noted none = λ version. none_found version room ps (λ j q there. noted.idle j q there (none (suc j)))

-- ---- the calls of a board

pub noted_none : (ps : List Place) (b u a : BTreeSet ℕ) (room : Bool) → ps ≡ [] → IsNotedFor ps b u a room
noted_none ps b u a room none =
    record {
      unbound = λ i p at. let no : None ≡ Some p = ap (λ (qs : List Place). slice_get qs i) (sym none) ∙ at in absurd cc;
      calm = λ i p at. let no : None ≡ Some p = ap (λ (qs : List Place). slice_get qs i) (sym none) ∙ at in absurd cc;
      idle = λ i p at. let no : None ≡ Some p = ap (λ (qs : List Place). slice_get qs i) (sym none) ∙ at in absurd cc;
    }

-- the same of a list that is told in another way
pub noted_so : (ps qs : List Place) (b u a : BTreeSet ℕ) (room : Bool) → IsNotedFor ps b u a room → qs ≡ ps → IsNotedFor qs b u a room
noted_so ps qs b u a room noted same = subst (λ (xs : List Place). IsNotedFor xs b u a room) (sym same) noted

-- one round after the others
pub settled_on : (r s : Bool) (ps qs os : List Place) → r ≡ s → map (settled_at r) ps ≡ map (settled_at r) qs → map (settled_at s) qs ≡ map (settled_at s) os
    → map (settled_at s) ps ≡ map (settled_at s) os
settled_on r s ps qs os same one others = subst (λ (x : Bool). map (settled_at x) ps ≡ map (settled_at x) qs) same one ∙ others

-- after the last round
pub settled_all : (ps os : List Place) (b u a : BTreeSet ℕ) (r s : Bool) → IsNotedFor ps b u a r → ((m : ℕ) → is_among m u ≡ false) → r ≡ s
    → map (settled_at s) ps ≡ map (settled_at s) os → ps ≡ map (settled_at s) os
settled_all ps os b u a r s noted none same others =
    sym (subst (λ (x : Bool). map (settled_at x) ps ≡ ps) same (all_calm ps b u a r noted none)) ∙ others

pub nil_of : (b : Bool) (bs : List Binding) → b ≡ is_nil bs → not b ≡ false → bs ≡ []
nil_of b [] is out = refl
nil_of b (x ∷ bs) is out = let no : true ≡ false = sym (ap not is) ∙ out in absurd cc

pub noted_held : (ps : List Place) (n : ℕ) (k : Kept) (b u a : BTreeSet ℕ) (room : Bool) → IsNotedFor ps b u a room → k ≡ fresh → IsNotedFor (with_holding n (Keeps k) ps) b u a room
noted_held ps n k b u a room noted is =
    subst (λ (x : Kept). IsNotedFor (with_holding n (Keeps x) ps) b u a room) (sym is) (noted_fresh ps n b u a room noted)

pub calm_as : (ps : List Place) (n : ℕ) (r s : Bool) → s ≡ r → AllAt (λ m h. m ≡ n → IsCalm r h) ps → AllAt (λ m h. m ≡ n → IsCalm s h) ps
calm_as ps n r s same all = subst (λ (x : Bool). AllAt (λ m h. m ≡ n → IsCalm x h) ps) (sym same) all

pub fewer_as : (s t : BTreeSet ℕ) (n l : ℕ) → t ≡ s → is_among n s ≡ true → (is_among n t ≡ true → l < btree_set_len t) → l < btree_set_len s
fewer_as s t n l same is fewer = subst (λ (x : BTreeSet ℕ). l < btree_set_len x) same (fewer (ap (λ (x : BTreeSet ℕ). is_among n x) same ∙ is))

pub forbids_some : (o : Option Kept) → forbids o ≡ true → is_some o ≡ true
forbids_some None e = e
forbids_some (Some k) e = refl

-- an end that was taken, settled and put back
pub put_back : (ps qs rs : List Place) (n : ℕ) (k k' : Kept) (room : Bool) → qs ≡ with_holding n (Gone false) ps → rs ≡ with_holding n (Keeps k') qs → k' ≡ settled room k
    → rs ≡ with_holding n (Keeps (settled room k)) ps
put_back ps qs rs n k k' room taken put is =
    put ∙ ap (with_holding n (Keeps k')) taken ∙ held_twice n (Gone false) (Keeps k') ps ∙ ap (λ (x : Kept). with_holding n (Keeps x) ps) is

pub settled_back : (ps rs : List Place) (n : ℕ) (k : Kept) (room : Bool) → rs ≡ with_holding n (Keeps (settled room k)) ps → kept_at n ps ≡ Some k
    → map (settled_at room) rs ≡ map (settled_at room) ps
settled_back ps rs n k room is e = ap (map (settled_at room)) is ∙ settled_one room n k ps e

pub calm_back : (ps rs : List Place) (n : ℕ) (k : Kept) (room : Bool) → rs ≡ with_holding n (Keeps (settled room k)) ps → AllAt (λ m h. m ≡ n → IsCalm room h) rs
calm_back ps rs n k room is = subst (λ (xs : List Place). AllAt (λ m h. m ≡ n → IsCalm room h) xs) (sym is) (calm_here ps n k room)
