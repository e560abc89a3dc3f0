-- Journals whose stamps rise.
use Rattle.std.proofs.Common.{ℕ, zero, suc, ◌<◌, ◌≤◌, arith, List, [], ◌∷◌, ◌++◌, take}
use Rattle.journal_text.specs.Journal.{AreRising, IsAfterLast}
use Rattle.kernel_entries.specs.declared.entry.Entry.{Entry}

-- an entry after the last is one more of a rising list
pub AreRising-push : (es : List Entry) (e : Entry) → AreRising es → IsAfterLast es e.stamp → AreRising (es ++ e ∷ [])
AreRising-push [] e r a = tt
AreRising-push (f ∷ []) e r a = (a, tt)
AreRising-push (f ∷ g ∷ es) e r a = (r.0, AreRising-push (g ∷ es) e r.1 a)

-- without the first entry it still rises
pub AreRising-tail : (e : Entry) (es : List Entry) → AreRising (e ∷ es) → AreRising es
AreRising-tail e [] r = tt
AreRising-tail e (f ∷ es) r = r.1

-- so do the first entries
pub AreRising-take : (es : List Entry) (n : ℕ) → AreRising es → AreRising (take n es)
AreRising-take es zero r = tt
AreRising-take [] (suc n) r = tt
AreRising-take (e ∷ []) (suc n) r = alone e n
  where
    alone : (e : Entry) (n : ℕ) → AreRising (e ∷ take n [])
    alone e zero = tt
    alone e (suc n) = tt
AreRising-take (e ∷ f ∷ es) (suc zero) r = tt
AreRising-take (e ∷ f ∷ es) (suc (suc n)) r = (r.0, AreRising-take (f ∷ es) (suc n) r.1)

-- a later stamp is after the last entry too
pub IsAfterLast-later : (es : List Entry) (s t : ℕ) → IsAfterLast es s → s ≤ t → IsAfterLast es t
IsAfterLast-later [] s t a le = tt
IsAfterLast-later (e ∷ []) s t a le = omega arith
IsAfterLast-later (e ∷ f ∷ es) s t a le = IsAfterLast-later (f ∷ es) s t a le

-- the last entry is the one that was pushed
pub IsAfterLast-push : (es : List Entry) (e : Entry) (s : ℕ) → e.stamp < s → IsAfterLast (es ++ e ∷ []) s
IsAfterLast-push [] e s lt = lt
IsAfterLast-push (f ∷ []) e s lt = lt
IsAfterLast-push (f ∷ g ∷ es) e s lt = IsAfterLast-push (g ∷ es) e s lt
