-- The header of a transcript: its lines tell one setting, and the entries that follow start from it.
use Rattle.std.proofs.Common.{◌≡◌, ◌⊎◌, ◌↔◌, inl, inr, ℕ, ◌+◌, ◌≤◌, ◌<◌, ◌^◌, Bool, true, false, ◌==◌, ◌&&◌, ◌||◌, nat_le, nat_lt, IsTrue, List, [], ◌∷◌, ◌++◌, length, map, All, Result, Ok, Err, Some, None, cond, arith, ap, sym, subst, ◌∙◌, refl, append_assoc, append-nil, length-append}
use Rattle.std.specs.List.{flat_map}
use Rattle.charlotte_calls.specs.Setting.{IsValid, IsWithinLimits}
use Rattle.charlotte_calls.specs.declared.names.Pid.{Pid}
use Rattle.charlotte_calls.specs.declared.setting.Setting.{Setting}
use Rattle.transcript_lines.specs.declared.last.Last.{Last}
use Rattle.transcript_lines.specs.declared.last.Last.TheVariants.{Quiet}
use Rattle.transcript_lines.specs.declared.last.ScriptNote.{ScriptNote}
use Rattle.kernel_entries.specs.Order.{AreInOrder}
use Rattle.kernel_world.specs.Run.{IsRecord}
use Rattle.kernel_world.specs.World.{noted, start}
use Rattle.kernel_entries.specs.declared.entry.Happened.{Happened}
use Rattle.kernel_entries.specs.declared.entry.Happened.TheVariants.{Asked, Took}
use Rattle.kernel_entries.specs.declared.entry.Placed.{Placed}
use Rattle.transcript_reading.specs.Kinds.{entry_kinds, happened_kind, process_kinds, transcript_kinds, wire_kinds}
use Rattle.transcript_reading.specs.declared.line.LineKind.{LineKind}
use Rattle.transcript_reading.specs.declared.line.LineKind.TheVariants as line
use Rattle.transcript_replay.specs.Header.{IsHeader, header_kinds, is_body}
use Rattle.transcript_replay.specs.Course.{AreAfter, IsRest, course_start, end_kinds}
use Rattle.transcript_replay.specs.Replay.{IsReplay}
use Rattle.transcript_replay.proofs.Rest.{cons-head, cons-tail}

-- ---- the parts of a transcript

pub transcript-parts : (s : Setting) (merged : List Placed) (notes : List ScriptNote) (last : Last) → transcript_kinds s merged notes last ≡ header_kinds s ++ (flat_map entry_kinds merged ++ end_kinds notes last)
transcript-parts s merged notes last =
    let h : List LineKind = header_kinds s in
    let f : List LineKind = flat_map entry_kinds merged in
    let n : List LineKind = map (λ x. line.Note x) notes in
    append_assoc (h ++ f) n (line.End last ∷ []) ∙ append_assoc h f (end_kinds notes last)

-- ---- lines of a kind, and those behind them

abbrev is_process : LineKind → Bool
is_process (line.Process p kernel) = true
is_process _ = false

abbrev is_wire : LineKind → Bool
is_wire (line.Wire first second) = true
is_wire _ = false

abbrev first_is : (LineKind → Bool) → List LineKind → Bool
first_is test [] = false
first_is test (k ∷ ks) = test k

-- lists and what follows them
record AreSame {X : Type 0} (xs ys : List X) (ks js : List LineKind) : Type 0 where
  items : xs ≡ ys
  behind : ks ≡ js

no-first : (test : LineKind → Bool) (k : LineKind) (ks js : List LineKind) → test k ≡ true → first_is test js ≡ false → k ∷ ks ≡ js → ⊥
no-first test k ks js is none e = let no : true ≡ false = sym is ∙ ap (first_is test) e ∙ none in cc

processes-same : (i : ℕ) (hs gs : List ℕ) (ks js : List LineKind) → first_is is_process ks ≡ false → first_is is_process js ≡ false → process_kinds i hs ++ ks ≡ process_kinds i gs ++ js → AreSame hs gs ks js
processes-same i [] [] ks js a b e = record { items = refl; behind = e }
processes-same i [] (g ∷ gs) ks js a b e = absurd (no-first is_process (line.Process (record { 0 = i }) g) (process_kinds (i + 1) gs ++ js) ks refl a (sym e))
processes-same i (h ∷ hs) [] ks js a b e = absurd (no-first is_process (line.Process (record { 0 = i }) h) (process_kinds (i + 1) hs ++ ks) js refl b e)
processes-same i (h ∷ hs) (g ∷ gs) ks js a b e =
    let first : line.Process (record { 0 = i }) h ≡ line.Process (record { 0 = i }) g = cons-head _ _ (process_kinds (i + 1) hs ++ ks) (process_kinds (i + 1) gs ++ js) e in
    let rest = processes-same (i + 1) hs gs ks js a b (cons-tail _ _ (process_kinds (i + 1) hs ++ ks) (process_kinds (i + 1) gs ++ js) e) in
    record { items = λ t. kernel-same i h g first t ∷ rest.items t; behind = rest.behind }
  where
    kernel-same : (i h g : ℕ) → line.Process (record { 0 = i }) h ≡ line.Process (record { 0 = i }) g → h ≡ g
    kernel-same i h g e = cc

wire-same : (a b c d : Pid) → line.Wire a b ≡ line.Wire c d → (a ≡ c) × (b ≡ d)
wire-same a b c d e = (cc, cc)

wires-same : (ws vs : List (Pid × Pid)) (ks js : List LineKind) → first_is is_wire ks ≡ false → first_is is_wire js ≡ false → wire_kinds ws ++ ks ≡ wire_kinds vs ++ js → AreSame ws vs ks js
wires-same [] [] ks js a b e = record { items = refl; behind = e }
wires-same [] (v ∷ vs) ks js a b e = absurd (no-first is_wire (line.Wire v.0 v.1) (wire_kinds vs ++ js) ks refl a (sym e))
wires-same (w ∷ ws) [] ks js a b e = absurd (no-first is_wire (line.Wire w.0 w.1) (wire_kinds ws ++ ks) js refl b e)
wires-same (w ∷ ws) (v ∷ vs) ks js a b e =
    let first = wire-same w.0 w.1 v.0 v.1 (cons-head (line.Wire w.0 w.1) (line.Wire v.0 v.1) (wire_kinds ws ++ ks) (wire_kinds vs ++ js) e) in
    let rest = wires-same ws vs ks js a b (cons-tail (line.Wire w.0 w.1) (line.Wire v.0 v.1) (wire_kinds ws ++ ks) (wire_kinds vs ++ js) e) in
    record { items = λ t. (first.0 t, first.1 t) ∷ rest.items t; behind = rest.behind }

body-no-process : (k : LineKind) → is_body k ≡ true → is_process k ≡ false
body-no-process (line.First v) h = refl
body-no-process (line.Kernels n) h = refl
body-no-process (line.Process p n) h = absurd (cc)
body-no-process (line.Wire a b) h = refl
body-no-process (line.CallEntry i k p c) h = refl
body-no-process (line.PacketEntry i k from q) h = refl
body-no-process (line.Service s) h = refl
body-no-process (line.Note n) h = refl
body-no-process (line.End l) h = refl

body-no-wire : (k : LineKind) → is_body k ≡ true → is_wire k ≡ false
body-no-wire (line.First v) h = refl
body-no-wire (line.Kernels n) h = refl
body-no-wire (line.Process p n) h = refl
body-no-wire (line.Wire a b) h = absurd (cc)
body-no-wire (line.CallEntry i k p c) h = refl
body-no-wire (line.PacketEntry i k from q) h = refl
body-no-wire (line.Service s) h = refl
body-no-wire (line.Note n) h = refl
body-no-wire (line.End l) h = refl

-- wires are no processes, and what follows them is none
wires-no-process : (ws : List (Pid × Pid)) (k : LineKind) (ks : List LineKind) → is_body k ≡ true → first_is is_process (wire_kinds ws ++ k ∷ ks) ≡ false
wires-no-process [] k ks is = body-no-process k is
wires-no-process (w ∷ ws) k ks is = refl

-- ---- one setting

record IsOne (s t : Setting) (ks js : List LineKind) : Type 0 where
  setting : s ≡ t
  behind : ks ≡ js

version-same : (v w : ℕ) → line.First v ≡ line.First w → v ≡ w
version-same v w e = cc

kernels-same : (v w : ℕ) → line.Kernels v ≡ line.Kernels w → v ≡ w
kernels-same v w e = cc

header-same : (s t : Setting) (k j : LineKind) (ks js : List LineKind) → is_body k ≡ true → is_body j ≡ true → header_kinds s ++ k ∷ ks ≡ header_kinds t ++ j ∷ js → IsOne s t (k ∷ ks) (j ∷ js)
header-same s t k j ks js k_is j_is e = record {
  setting = λ i. record { version = version i; kernels = kernels i; homes = homes.items i; wires = wires.items i };
  behind = wires.behind;
}
  where
    rest : Setting → LineKind → List LineKind → List LineKind
    rest x b bs = process_kinds 0 x.homes ++ (wire_kinds x.wires ++ b ∷ bs)

    parts : (x : Setting) (b : LineKind) (bs : List LineKind) → header_kinds x ++ b ∷ bs ≡ line.First x.version ∷ line.Kernels x.kernels ∷ rest x b bs
    parts x b bs = ap (λ l. line.First x.version ∷ line.Kernels x.kernels ∷ l) (append_assoc (process_kinds 0 x.homes) (wire_kinds x.wires) (b ∷ bs))

    whole : line.First s.version ∷ line.Kernels s.kernels ∷ rest s k ks ≡ line.First t.version ∷ line.Kernels t.kernels ∷ rest t j js
    whole = sym (parts s k ks) ∙ e ∙ parts t j js

    behind_first : line.Kernels s.kernels ∷ rest s k ks ≡ line.Kernels t.kernels ∷ rest t j js
    behind_first = cons-tail (line.First s.version) (line.First t.version) (line.Kernels s.kernels ∷ rest s k ks) (line.Kernels t.kernels ∷ rest t j js) whole

    version : s.version ≡ t.version
    version = version-same s.version t.version (cons-head (line.First s.version) (line.First t.version) (line.Kernels s.kernels ∷ rest s k ks) (line.Kernels t.kernels ∷ rest t j js) whole)

    kernels : s.kernels ≡ t.kernels
    kernels = kernels-same s.kernels t.kernels (cons-head (line.Kernels s.kernels) (line.Kernels t.kernels) (rest s k ks) (rest t j js) behind_first)

    homes : AreSame s.homes t.homes (wire_kinds s.wires ++ k ∷ ks) (wire_kinds t.wires ++ j ∷ js)
    homes = processes-same 0 s.homes t.homes (wire_kinds s.wires ++ k ∷ ks) (wire_kinds t.wires ++ j ∷ js) (wires-no-process s.wires k ks k_is) (wires-no-process t.wires j js j_is)
        (cons-tail (line.Kernels s.kernels) (line.Kernels t.kernels) (rest s k ks) (rest t j js) behind_first)

    wires : AreSame s.wires t.wires (k ∷ ks) (j ∷ js)
    wires = wires-same s.wires t.wires (k ∷ ks) (j ∷ js) (body-no-wire k k_is) (body-no-wire j j_is) homes.behind

-- ---- what stands behind a header

record HasFirst (ks : List LineKind) : Type 0 where
  first : LineKind
  others : List LineKind
  is : ks ≡ first ∷ others
  body : is_body first ≡ true

happened-body : (i k : ℕ) (x : Happened) → is_body (happened_kind i k x) ≡ true
happened-body i k (Asked p c) = refl
happened-body i k (Took from picture) = refl

tail-first : (ps : List Placed) (notes : List ScriptNote) (last : Last) → HasFirst (flat_map entry_kinds ps ++ end_kinds notes last)
tail-first [] [] last = record { first = line.End last; others = []; is = refl; body = refl }
tail-first [] (n ∷ notes) last = record { first = line.Note n; others = end_kinds notes last; is = refl; body = refl }
tail-first (p ∷ ps) notes last = record { first = happened_kind p.entry.stamp p.kernel p.entry.what; others = _; is = refl; body = happened-body p.entry.stamp p.kernel p.entry.what }

-- ---- the order of entries

order-after : (a : Placed) (ps : List Placed) → AreInOrder (a ∷ ps) ↔ AreAfter (Some (a.entry.stamp, a.kernel)) ps
order-after a [] = ((λ _. tt), (λ _. tt))
order-after a (b ∷ ps) = let more = order-after b ps in ((λ o. (o.0, more.0 o.1)), (λ o. (o.0, more.1 o.1)))

all-after : (ps : List Placed) → AreInOrder ps ↔ AreAfter None ps
all-after [] = ((λ _. tt), (λ _. tt))
all-after (a ∷ ps) = let more = order-after a ps in ((λ o. (refl, more.0 o)), (λ o. more.1 o.1))

-- ---- the first entry

-- behind a header just those lines may follow that may follow at the start
pub start-left : (s : Setting) (taken : List LineKind) (k : LineKind) (more : List LineKind) (last : Last) → IsHeader s taken → is_body k ≡ true → IsReplay (taken ++ k ∷ more) last ↔ IsRest (course_start s) (k ∷ more) last
start-left s taken k more last is k_is = (to, from)
  where
    to : IsReplay (taken ++ k ∷ more) last → IsRest (course_start s) (k ∷ more) last
    to r = subst (λ x. IsRest (course_start x) (k ∷ more) last) (sym one.setting) (record {
      events = r.events;
      allowed = r.recorded.run.allowed;
      within = r.within;
      few = omega (arith, r.recorded.run.few);
      order = (all-after (noted (start r.setting) r.events)).0 (subst AreInOrder (sym r.recorded.entries) r.recorded.order);
      notes = r.notes;
      shown = one.behind ∙ sym front.is ∙ ap (λ ps. flat_map entry_kinds ps ++ end_kinds r.notes last) (sym r.recorded.entries);
      true_last = r.true_last;
    })
      where
        front : HasFirst (flat_map entry_kinds r.merged ++ end_kinds r.notes last)
        front = tail-first r.merged r.notes last

        one : IsOne s r.setting (k ∷ more) (front.first ∷ front.others)
        one = header-same s r.setting k front.first more front.others k_is front.body
            (ap (λ l. l ++ k ∷ more) (sym is.shown) ∙ r.shown ∙ transcript-parts r.setting r.merged r.notes last ∙ ap (λ l. header_kinds r.setting ++ l) front.is)

    from : IsRest (course_start s) (k ∷ more) last → IsReplay (taken ++ k ∷ more) last
    from r = record {
      setting = s;
      valid = is.valid;
      events = r.events;
      within = r.within;
      merged = noted (start s) r.events;
      recorded = record { run = record { allowed = r.allowed; few = omega (arith, r.few) }; order = (all-after (noted (start s) r.events)).1 r.order; entries = refl };
      notes = r.notes;
      shown = (λ i. is.shown i ++ r.shown i) ∙ sym (transcript-parts s (noted (start s) r.events) r.notes last);
      true_last = r.true_last;
    }

-- a transcript of a header and a last line
pub start-begins : (s : Setting) (taken : List LineKind) → IsHeader s taken → IsReplay (taken ++ line.End Quiet ∷ []) Quiet
start-begins s taken is = (start-left s taken (line.End Quiet) [] Quiet is refl).1 (record { events = []; allowed = tt; within = tt; few = omega arith; order = tt; notes = []; shown = refl; true_last = λ from to. refl })
