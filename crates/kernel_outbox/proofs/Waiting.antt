-- The lists of letters that wait, while one of them changes.
use Rattle.std.proofs.Common.{◌≡◌, ◌≢◌, ◌⊎◌, inl, inr, ℕ, ◌<◌, ◌≤◌, ◌+◌, arith, true, false, nat_eq, nat_lt, List, [], ◌∷◌, ◌++◌, length, map, set, get_or, ap, ◌∙◌, sym, refl, append_assoc, append-nil, Global, zero, suc, subst}
use Rattle.std.specs.Prelude.{slice_index_or}
use Rattle.std.specs.declared.collections.VecDeque.{VecDeque}
use Rattle.std.proofs.lemmas.List.{map-set, get_or-set_same, get_or-set_other, get_or-map, length-map}
use Rattle.std.proofs.lemmas.Bool.Decides.{eqb_tells, leb_tells}
use Rattle.charlotte_packets.specs.declared.packet.Packet.{Packet}
use Rattle.kernel_net.specs.declared.letter.Letter.{Letter}
use Rattle.kernel_net.specs.declared.letter.Letter.TheVariants as letter
use Rattle.kernel_outbox.specs.Letters.{if_to, letters_for, markers_to}

abbrev pub Lists : Type 0
Lists = List (VecDeque Letter Global)

abbrev pub letters_in : VecDeque Letter Global → List Letter
letters_in list = list.items

-- the letters to a kernel that wait in these lists
abbrev pub waits_in : Lists → ℕ → List Letter
waits_in lists to = slice_index_or (map letters_in lists) to []

-- the list that is set, and the others
set-same : (lists : Lists) (t : ℕ) (after : VecDeque Letter Global) → t < length lists → waits_in (set lists t after) t ≡ after.items
set-same lists t after below =
    ap (λ l. get_or l t []) (map-set letters_in lists t after)
    ∙ get_or-set_same (map letters_in lists) t after.items [] (subst (λ n. t < n) (sym (length-map lists letters_in)) below)

set-other : (lists : Lists) (t to : ℕ) (after : VecDeque Letter Global) → to ≢ t → waits_in (set lists t after) to ≡ waits_in lists to
set-other lists t to after other =
    ap (λ l. get_or l to []) (map-set letters_in lists t after) ∙ get_or-set_other (map letters_in lists) t to after.items [] other

-- the list as it is read
pub waits-read : (lists : Lists) (t : ℕ) (before : VecDeque Letter Global) → t < length lists → before ≡ get_or lists t before → before.items ≡ waits_in lists t
waits-read lists t before below is = sym (get_or-map letters_in lists t before [] below ∙ ap letters_in (sym is))

pub waits-set : (lists : Lists) (t : ℕ) (after : VecDeque Letter Global) → t < length lists → waits_in (set lists t after) t ≡ after.items
waits-set = set-same

pub waits-other : (lists : Lists) (t : ℕ) (after : VecDeque Letter Global) (to : ℕ) → to ≢ t → waits_in (set lists t after) to ≡ waits_in lists to
waits-other lists t after to other = set-other lists t to after other

-- a letter to a kernel, seen from it and from others
pub if_to-same : (to n : ℕ) (l : Letter) → nat_eq to n ≡ true → if_to to n l ≡ l ∷ []
if_to-same to n l e = rw e refl

pub if_to-other : (to n : ℕ) (l : Letter) → nat_eq to n ≡ false → if_to to n l ≡ []
if_to-other to n l e = rw e refl

pub same-number : (n : ℕ) → nat_eq n n ≡ true
same-number n = elim (eqb_tells n n) [ inl e ↦ e.0 | inr e ↦ absurd (e.1 refl) ]

-- a letter joins the list of its kernel
pub waits-push : (lists : Lists) (t n : ℕ) (before after : VecDeque Letter Global) (l : Letter) → t ≡ n → t < length lists → before ≡ get_or lists t before
    → after.items ≡ before.items ++ l ∷ [] → (to : ℕ) → waits_in (set lists t after) to ≡ waits_in lists to ++ if_to to n l
waits-push lists t n before after l at below is items to = by (eqb_tells to n)
  where
    here : waits_in (set lists t after) t ≡ waits_in lists t ++ l ∷ []
    here = set-same lists t after below ∙ items ∙ ap (λ xs. xs ++ l ∷ []) (waits-read lists t before below is)

    by : ((nat_eq to n ≡ true) × (to ≡ n)) ⊎ ((nat_eq to n ≡ false) × (to ≢ n)) → waits_in (set lists t after) to ≡ waits_in lists to ++ if_to to n l
    by (inl e) =
        let same : to ≡ t = e.1 ∙ sym at in
        ap (waits_in (set lists t after)) same ∙ here ∙ ap (λ m. waits_in lists m ++ l ∷ []) (sym same)
        ∙ ap (λ xs. waits_in lists to ++ xs) (sym (if_to-same to n l e.0))
    by (inr e) = set-other lists t to after (λ x. e.1 (x ∙ at)) ∙ sym (append-nil (waits_in lists to)) ∙ ap (λ xs. waits_in lists to ++ xs) (sym (if_to-other to n l e.0))

-- a list without letters more
pub waits-more : (lists : Lists) (list : VecDeque Letter Global) → list.items ≡ [] → (to : ℕ) → waits_in (lists ++ list ∷ []) to ≡ waits_in lists to
waits-more [] list none zero = none
waits-more [] list none (suc to) = refl
waits-more (x ∷ xs) list none zero = refl
waits-more (x ∷ xs) list none (suc to) = waits-more xs list none to

-- there is no list to a kernel that is not there
pub waits-away : (lists : Lists) (to : ℕ) → length lists ≤ to → waits_in lists to ≡ []
waits-away [] to far = refl
waits-away (x ∷ xs) zero far = absurd (omega (arith, far))
waits-away (x ∷ xs) (suc to) far = waits-away xs to (omega (arith, far))

-- the first of the packets that are left joins the list of its kernel
pub waits-next : (lists : Lists) (t n : ℕ) (before after : VecDeque Letter Global) (p : Packet) (left rest : List (ℕ × Packet)) → t ≡ n → t < length lists
    → before ≡ get_or lists t before → after.items ≡ before.items ++ letter.Packet p ∷ [] → left ≡ (n, p) ∷ rest
    → (to : ℕ) → waits_in (set lists t after) to ++ letters_for to rest ≡ waits_in lists to ++ letters_for to left
waits-next lists t n before after p left rest at below is items first to =
    ap (λ xs. xs ++ letters_for to rest) (waits-push lists t n before after (letter.Packet p) at below is items to)
    ∙ append_assoc (waits_in lists to) (if_to to n (letter.Packet p)) (letters_for to rest)
    ∙ ap (λ ls. waits_in lists to ++ letters_for to ls) (sym first)

-- what is so of the list that is set, and of each other, is so of all
pub each-waiting : (lists : Lists) (t : ℕ) (after : VecDeque Letter Global) (F : ℕ → List Letter → Type 0) → t < length lists → F t after.items
    → ((q : ℕ) → q ≢ t → F q (waits_in lists q)) → (q : ℕ) → F q (waits_in (set lists t after) q)
each-waiting lists t after F below here others q = by (eqb_tells q t)
  where
    by : ((nat_eq q t ≡ true) × (q ≡ t)) ⊎ ((nat_eq q t ≡ false) × (q ≢ t)) → F q (waits_in (set lists t after) q)
    by (inl e) = subst (λ m. F m (waits_in (set lists t after) m)) (sym e.1) (subst (F t) (sym (waits-set lists t after below)) here)
    by (inr e) = subst (F q) (sym (waits-other lists t after q e.1)) (others q e.1)

-- a marker to one kernel more
pub markers-more : (t to : ℕ) → markers_to (t + 1) to ≡ markers_to t to ++ if_to to t letter.Marker
markers-more t to = by (leb_tells (suc to) t) (leb_tells (suc to) (t + 1)) (eqb_tells to t)
  where
    by : ((nat_lt to t ≡ true) × (to < t)) ⊎ ((nat_lt to t ≡ false) × (t < suc to))
        → ((nat_lt to (t + 1) ≡ true) × (to < t + 1)) ⊎ ((nat_lt to (t + 1) ≡ false) × (t + 1 < suc to))
        → ((nat_eq to t ≡ true) × (to ≡ t)) ⊎ ((nat_eq to t ≡ false) × (to ≢ t)) → markers_to (t + 1) to ≡ markers_to t to ++ if_to to t letter.Marker
    by (inl a) (inl b) (inl c) = absurd (omega (arith, a.1, c.1))
    by (inl a) (inl b) (inr c) = rw a.0 (rw b.0 (rw c.0 refl))
    by (inl a) (inr b) c = absurd (omega (arith, a.1, b.1))
    by (inr a) (inl b) (inl c) = rw a.0 (rw b.0 (rw c.0 refl))
    by (inr a) (inl b) (inr c) = absurd (c.1 (omega (arith, a.1, b.1)))
    by (inr a) (inr b) (inl c) = absurd (omega (arith, c.1, b.1))
    by (inr a) (inr b) (inr c) = rw a.0 (rw b.0 (rw c.0 refl))
