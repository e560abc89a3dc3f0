-- The parts of reports, as one list.
use Rattle.std.proofs.Common.{◌≡◌, ◌≢◌, ◌⊎◌, inl, inr, true, false, nat_eq, ℕ, ◌+◌, ◌≤◌, List, [], ◌∷◌, ◌++◌, drop, length, take, arith, ap, sym, subst, refl, ◌∙◌}
use Rattle.std.proofs.lemmas.Bool.Decides.{eqb_tells}
use Rattle.std.proofs.lemmas.List.{drop-append-le, drop_all, length-append, take-append-le, take_all}
use Rattle.charlotte_calls.specs.declared.calls.Report.{Report}
use Rattle.charlotte_calls.specs.declared.names.EndId.{EndId}
use Rattle.report_queue.specs.Queue.{AreWhole, report_of, reports}
use Rattle.report_queue.specs.declared.queue.Head.{Head}

-- what joins none is all there is
take-none : {T : Type 0} (xs ys : List T) (n : ℕ) → xs ≡ [] → n ≡ length ys → take n (xs ++ ys) ≡ ys
take-none xs ys n none is = ap (λ l. take n (l ++ ys)) none ∙ take_all n ys (omega arith)

drop-none : {T : Type 0} (xs ys : List T) (n : ℕ) → xs ≡ [] → n ≡ length ys → drop n (xs ++ ys) ≡ []
drop-none xs ys n none is = ap (λ l. drop n (l ++ ys)) none ∙ drop_all n ys (omega arith)

within-none : {T : Type 0} (xs ys : List T) (n : ℕ) → xs ≡ [] → n ≡ length ys → n ≤ length (xs ++ ys)
within-none xs ys n none is = subst (λ l. n ≤ length (l ++ ys)) (sym none) (omega arith)

-- a head with its bytes and ends, behind the others
module _ (h : Head) (b : List ℕ) (e : List EndId) (bytes : h.bytes ≡ length b) (ends : h.ends ≡ length e) where
  pub reports-joined : (hs : List Head) (bs : List ℕ) (es : List EndId) → AreWhole hs bs es → reports (hs ++ h ∷ []) (bs ++ b) (es ++ e) ≡ reports hs bs es ++ report_of h b e ∷ []
  reports-joined [] bs es whole =
      ap (λ r. r ∷ []) (ap (λ l. report_of h l (take h.ends (es ++ e))) (take-none bs b h.bytes whole.0 bytes) ∙ ap (report_of h b) (take-none es e h.ends whole.1 ends))
  reports-joined (x ∷ hs) bs es whole =
      ap (λ r. r ∷ reports (hs ++ h ∷ []) (drop x.bytes (bs ++ b)) (drop x.ends (es ++ e)))
      (ap (λ l. report_of x l (take x.ends (es ++ e))) (take-append-le x.bytes bs b whole.0.0) ∙ ap (report_of x (take x.bytes bs)) (take-append-le x.ends es e whole.1.0))
      ∙ ap (λ l. report_of x (take x.bytes bs) (take x.ends es) ∷ l)
      (ap (λ l. reports (hs ++ h ∷ []) l (drop x.ends (es ++ e))) (drop-append-le x.bytes bs b whole.0.0)
      ∙ ap (reports (hs ++ h ∷ []) (drop x.bytes bs ++ b)) (drop-append-le x.ends es e whole.1.0)
      ∙ reports-joined hs (drop x.bytes bs) (drop x.ends es) whole.2)

  pub whole-joined : h.bytes ≤ 256 → h.ends ≤ 8 → (hs : List Head) (bs : List ℕ) (es : List EndId) → AreWhole hs bs es → AreWhole (hs ++ h ∷ []) (bs ++ b) (es ++ e)
  whole-joined few some [] bs es whole =
      ((within-none bs b h.bytes whole.0 bytes, few), (within-none es e h.ends whole.1 ends, some), (drop-none bs b h.bytes whole.0 bytes, drop-none es e h.ends whole.1 ends))
  whole-joined few some (x ∷ hs) bs es whole = (
    (longer bs b x.bytes whole.0.0, whole.0.1),
    (longer es e x.ends whole.1.0, whole.1.1),
    subst (λ l. AreWhole (hs ++ h ∷ []) l (drop x.ends (es ++ e))) (sym (drop-append-le x.bytes bs b whole.0.0))
        (subst (λ l. AreWhole (hs ++ h ∷ []) (drop x.bytes bs ++ b) l) (sym (drop-append-le x.ends es e whole.1.0)) (whole-joined few some hs (drop x.bytes bs) (drop x.ends es) whole.2)),
  )
    where
      longer : {T : Type 0} (xs ys : List T) (n : ℕ) → n ≤ length xs → n ≤ length (xs ++ ys)
      longer xs ys n below = let long : length (xs ++ ys) ≡ length xs + length ys = length-append xs ys in omega arith

-- a report, in its parts, joins the others
module _ (h : Head) (r : Report) (bytes : h.bytes ≡ length r.bytes) (ends : h.ends ≡ length r.enclosed) (hs now : List Head) (bs known : List ℕ) (es left : List EndId)
    (whole : AreWhole hs bs es) (heads : now ≡ hs ++ h ∷ []) (text : known ≡ bs ++ r.bytes) (enclosed : left ≡ es ++ r.enclosed) where
  pub joined-whole : h.bytes ≤ 256 → h.ends ≤ 8 → AreWhole now known left
  joined-whole few some =
      subst (λ l. AreWhole l known left) (sym heads) (subst (λ l. AreWhole (hs ++ h ∷ []) l left) (sym text)
      (subst (AreWhole (hs ++ h ∷ []) (bs ++ r.bytes)) (sym enclosed) (whole-joined h r.bytes r.enclosed bytes ends few some hs bs es whole)))

  pub joined-reports : report_of h r.bytes r.enclosed ≡ r → reports now known left ≡ reports hs bs es ++ r ∷ []
  joined-reports same =
      ap (λ l. reports l known left) heads ∙ ap (λ l. reports (hs ++ h ∷ []) l left) text ∙ ap (reports (hs ++ h ∷ []) (bs ++ r.bytes)) enclosed
      ∙ reports-joined h r.bytes r.enclosed bytes ends hs bs es whole ∙ ap (λ x. reports hs bs es ++ x ∷ []) same

-- heads of which none is the first are none
pub no-heads : (hs : List Head) → hs ≡ drop 1 hs → hs ≡ []
no-heads [] is = refl
no-heads (x ∷ hs) is = absurd (let e : length (x ∷ hs) ≡ length hs = ap length is in omega arith)

-- where there is a head there are reports
pub some-reports : (h : Head) (hs : List Head) (bs : List ℕ) (es : List EndId) → false ≡ nat_eq (length (reports (h ∷ hs) bs es)) 0
some-reports h hs bs es = by (eqb_tells many 0)
  where
    many : ℕ
    many = length (reports (h ∷ hs) bs es)

    by : ((nat_eq many 0 ≡ true) × (many ≡ 0)) ⊎ ((nat_eq many 0 ≡ false) × (many ≢ 0)) → false ≡ nat_eq many 0
    by (inl t) = absurd (let none : many ≡ 0 = t.1 in omega arith)
    by (inr t) = sym t.0
