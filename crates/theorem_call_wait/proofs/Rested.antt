-- Once a report is given, its way of its end is idle, at the kernel and in the service: what is the same of the end.
use Rattle.std.proofs.Common.{◌≡◌, ◌⊎◌, inl, inr, ℕ, true, false, ◌&&◌, if◌then◌else◌, Some, refl, sym, ap, subst, ◌∙◌}
use Rattle.charlotte_packets.specs.Packets.{names_kernels_below}
use Rattle.charlotte_calls.specs.declared.names.Way.{Way}
use Rattle.charlotte_calls.specs.declared.names.Way.TheVariants as way
use Rattle.charlotte_packets.specs.declared.picture.MovingPicture.{MovingPicture}
use Rattle.end_table.specs.Table.{IsHereAnd}
use Rattle.end_table.specs.declared.entry.Entry.{Entry}
use Rattle.end_table.specs.declared.entry.Entry.TheVariants as entry
use Rattle.end_table.specs.declared.entry.HereView.{HereView}
use Rattle.end_table.specs.declared.entry.Inward.{Inward as KernelInward}
use Rattle.end_table.specs.declared.entry.Inward.TheVariants as kernel_inward
use Rattle.end_table.specs.declared.entry.Outward.{Outward as KernelOutward}
use Rattle.end_table.specs.declared.entry.Outward.TheVariants as kernel_outward
use Rattle.kernel_step.specs.Actions.{is_withdrawing}
use Rattle.kernel_step.specs.Kernel.{inward_reported, outward_reported, reported_entry, reported_view}
use Rattle.kernel_step.specs.Rows.{is_here}
use Rattle.service_lawful.specs.Consistent.{is_open}
use Rattle.service_step.specs.Ends.{is_living}
use Rattle.service_step.specs.declared.state.End.{End}
use Rattle.service_step.specs.declared.state.Inward.{Inward}
use Rattle.service_step.specs.declared.state.Inward.TheVariants as inward
use Rattle.service_step.specs.declared.state.Message.{Message}
use Rattle.service_step.specs.declared.state.Outward.{Outward}
use Rattle.service_step.specs.declared.state.Outward.TheVariants as outward
use Rattle.theorem_meaning.proofs.Plain.{view-same}
use Rattle.theorem_meaning.specs.Fields.{IsAskedAs, value_of}
use Rattle.theorem_meaning.specs.Invariant.{NamesBelow}
use Rattle.theorem_meaning.specs.StandsFor.{IsWaitingWith}

-- an activity is the same, or was over and is idle
abbrev pub IsIdled : {X : Type 0} → X → X → X → X → Type 0
IsIdled over idle x z = (z ≡ x) ⊎ ((x ≡ over) × (z ≡ idle))

-- what goes over from one that is over to one that is idle, and back
idled : {X : Type 0} {over idle x z : X} → IsIdled over idle x z → (P : X → Type 0) → (P over → P idle) → P x → P z
idled (inl same) P goes has = subst P (sym same) has
idled (inr o) P goes has = subst P (sym o.1) (goes (subst P o.0 has))

was-idled : {X : Type 0} {over idle x z : X} → IsIdled over idle x z → (P : X → Type 0) → (P idle → P over) → P z → P x
was-idled (inl same) P goes has = subst P same has
was-idled (inr o) P goes has = subst P (sym o.0) (goes (subst P o.1 has))

-- ---- in the service

-- a way that was over may be idle, and all else is the same
pub record IsRested (x z : End) : Type 0 where
  pub place : z.place ≡ x.place
  pub sent : z.sent ≡ x.sent
  pub noticed : z.noticed ≡ x.noticed
  pub outward : IsIdled outward.Unreported outward.Idle x.outward z.outward
  pub inward : IsIdled inward.Unreported inward.Idle x.inward z.inward

module _ (x z : End) (r : IsRested x z) where
  -- what is the same of an activity that is over and of one that is idle
  pub rest-outward : {X : Type 0} (f : Outward → X) → f outward.Idle ≡ f outward.Unreported → f z.outward ≡ f x.outward
  rest-outward f idle = idled r.outward (λ o. f o ≡ f x.outward) (λ was. idle ∙ was) refl

  pub rest-inward : {X : Type 0} (f : Inward → X) → f inward.Idle ≡ f inward.Unreported → f z.inward ≡ f x.inward
  rest-inward f idle = idled r.inward (λ i. f i ≡ f x.inward) (λ was. idle ∙ was) refl

  pub rest-living : is_living z.place ≡ is_living x.place
  rest-living = ap is_living r.place

  pub rest-open : is_open z ≡ is_open x
  rest-open = λ i. is_living (r.place i) && (if r.noticed i then false else true)

  pub rest-matched : (m : Message) → x.outward ≡ outward.Matched m → z.outward ≡ outward.Matched m
  rest-matched m = idled r.outward (λ o. o ≡ outward.Matched m) (λ no. absurd cc)

  pub rest-taken : x.outward ≡ outward.Taken → z.outward ≡ outward.Taken
  rest-taken = idled r.outward (λ o. o ≡ outward.Taken) (λ no. absurd cc)

-- ---- at a kernel

-- the same of the view of an end that is here
pub record IsRestedView (v u : HereView) : Type 0 where
  pub value : u.value ≡ v.value
  pub holder : u.holder ≡ v.holder
  pub outward : IsIdled kernel_outward.Unreported kernel_outward.Idle v.outward u.outward
  pub inward : IsIdled kernel_inward.Unreported kernel_inward.Idle v.inward u.inward

pub IsRestedView-same : (v : HereView) → IsRestedView v v
IsRestedView-same v = record { value = refl; holder = refl; outward = inl refl; inward = inl refl }

pub record IsRestedHere (x y : Entry) : Type 0 where
  pub before : HereView
  pub now : HereView
  pub was : x ≡ entry.Here before
  pub is : y ≡ entry.Here now
  pub view : IsRestedView before now

-- an entry is the same, or is that of an end that is here, of which this is true
abbrev pub IsRestedEntry : Entry → Entry → Type 0
IsRestedEntry x y = (y ≡ x) ⊎ IsRestedHere x y

module _ (v u : HereView) (r : IsRestedView v u) where
  pub rested-waiting : (n : ℕ) → IsWaitingWith n v.outward → IsWaitingWith n u.outward
  rested-waiting n = idled r.outward (IsWaitingWith n) (λ no. no)

  pub waiting-was : (n : ℕ) → IsWaitingWith n u.outward → IsWaitingWith n v.outward
  waiting-was n = was-idled r.outward (IsWaitingWith n) (λ no. no)

  pub rested-asked : (n : ℕ) → IsAskedAs n v.inward → IsAskedAs n u.inward
  rested-asked n = idled r.inward (IsAskedAs n) (λ no. no)

  pub asked-was : (n : ℕ) → IsAskedAs n u.inward → IsAskedAs n v.inward
  asked-was n = was-idled r.inward (IsAskedAs n) (λ no. no)

  pub rested-withdraws : (n : ℕ) → v.inward ≡ kernel_inward.Withdrawing n → u.inward ≡ kernel_inward.Withdrawing n
  rested-withdraws n = idled r.inward (λ i. i ≡ kernel_inward.Withdrawing n) (λ no. absurd cc)

  pub withdraws-was : (n : ℕ) → u.inward ≡ kernel_inward.Withdrawing n → v.inward ≡ kernel_inward.Withdrawing n
  withdraws-was n = was-idled r.inward (λ i. i ≡ kernel_inward.Withdrawing n) (λ no. absurd cc)

  pub rested-withdrawing : is_withdrawing v.inward ≡ true → is_withdrawing u.inward ≡ true
  rested-withdrawing = idled r.inward (λ i. is_withdrawing i ≡ true) (λ no. no)

-- ---- an entry

-- what is true of an end that is here
pub rested-here : (x y : Entry) (P Q : HereView → Type 0) → IsRestedEntry x y → ((v u : HereView) → IsRestedView v u → P v → Q u) → IsHereAnd x P → IsHereAnd y Q
rested-here x y P Q (inl same) gives has = subst (λ z. IsHereAnd z Q) (sym same) (by x has)
  where
    by : (x : Entry) → IsHereAnd x P → IsHereAnd x Q
    by (entry.Here v) has = gives v v (IsRestedView-same v) has
    by _ has = absurd has
rested-here x y P Q (inr r) gives has = subst (λ z. IsHereAnd z Q) (sym r.is) (gives r.before r.now r.view (subst (λ z. IsHereAnd z P) r.was has))

pub here-was : (x y : Entry) (P Q : HereView → Type 0) → IsRestedEntry x y → ((v u : HereView) → IsRestedView v u → Q u → P v) → IsHereAnd y Q → IsHereAnd x P
here-was x y P Q (inl same) gives has = by x (subst (λ z. IsHereAnd z Q) same has)
  where
    by : (x : Entry) → IsHereAnd x Q → IsHereAnd x P
    by (entry.Here v) has = gives v v (IsRestedView-same v) has
    by _ has = absurd has
here-was x y P Q (inr r) gives has = subst (λ z. IsHereAnd z P) (sym r.was) (gives r.before r.now r.view (subst (λ z. IsHereAnd z Q) r.is has))

-- the view that it was
pub view-was : (x y : Entry) (u : HereView) → IsRestedEntry x y → y ≡ entry.Here u → (v : HereView) × (x ≡ entry.Here v) × IsRestedView v u
view-was x y u (inl same) is = (u, sym same ∙ is, IsRestedView-same u)
view-was x y u (inr r) is = (r.before, r.was, subst (IsRestedView r.before) (view-same r.now u (sym r.is ∙ is)) r.view)

pub mark-was : (x y : Entry) (m : MovingPicture) → IsRestedEntry x y → y ≡ entry.Destroyed m → x ≡ entry.Destroyed m
mark-was x y m (inl same) is = sym same ∙ is
mark-was x y m (inr r) is = absurd (let no : entry.Here r.now ≡ entry.Destroyed m = sym r.is ∙ is in cc)

pub rested-nothing : (x y : Entry) → IsRestedEntry x y → x ≡ entry.Nothing → y ≡ entry.Nothing
rested-nothing x y (inl same) is = same ∙ is
rested-nothing x y (inr r) is = absurd (let no : entry.Here r.before ≡ entry.Nothing = sym r.was ∙ is in cc)

-- the fields are the same
pub rested-value : (x y : Entry) → IsRestedEntry x y → value_of y ≡ value_of x
rested-value x y (inl same) = ap value_of same
rested-value x y (inr r) = ap value_of r.is ∙ ap (λ (m : MovingPicture). Some m) r.view.value ∙ sym (ap value_of r.was)

pub rested-is_here : (x y : Entry) → IsRestedEntry x y → is_here y ≡ is_here x
rested-is_here x y (inl same) = ap is_here same
rested-is_here x y (inr r) = ap is_here r.is ∙ sym (ap is_here r.was)

pub rested-names : (n : ℕ) (x y : Entry) → IsRestedEntry x y → NamesBelow n x → NamesBelow n y
rested-names n x y (inl same) names = subst (NamesBelow n) (sym same) names
rested-names n x y (inr r) names = subst (NamesBelow n) (sym r.is) (subst (λ m. names_kernels_below n m ≡ true) (sym r.view.value) (subst (NamesBelow n) r.was names))

-- ---- what a kernel does

outward-rested : (o : KernelOutward) → IsIdled kernel_outward.Unreported kernel_outward.Idle o (outward_reported o)
outward-rested kernel_outward.Idle = inl refl
outward-rested (kernel_outward.Waiting n bytes xs) = inl refl
outward-rested (kernel_outward.Matched n) = inl refl
outward-rested kernel_outward.Unreported = inr (refl, refl)

inward-rested : (i : KernelInward) → IsIdled kernel_inward.Unreported kernel_inward.Idle i (inward_reported i)
inward-rested kernel_inward.Idle = inl refl
inward-rested (kernel_inward.Posted w) = inl refl
inward-rested (kernel_inward.Withdrawing w) = inl refl
inward-rested kernel_inward.Unreported = inr (refl, refl)

view-rested : (wy : Way) (v : HereView) → IsRestedView v (reported_view wy v)
view-rested way.Outward v = record { value = refl; holder = refl; outward = outward-rested v.outward; inward = inl refl }
view-rested way.Inward v = record { value = refl; holder = refl; outward = inl refl; inward = inward-rested v.inward }

pub entry-rested : (wy : Way) (x : Entry) → IsRestedEntry x (reported_entry wy x)
entry-rested wy entry.Nothing = inl refl
entry-rested wy (entry.Here v) = inr (record { before = v; now = reported_view wy v; was = refl; is = refl; view = view-rested wy v })
entry-rested wy (entry.Left to hops) = inl refl
entry-rested wy (entry.Destroyed m) = inl refl
