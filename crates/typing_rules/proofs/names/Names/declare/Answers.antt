use Rattle.std.proofs.Common.{◌≡◌, Bool, true, false, Option, None, Some, cond, refl, sym, ap, ◌∙◌}
use Rattle.std.specs.HashMap.{get_by}
use Rattle.std.specs.Str.{bytes_eq}
use Rattle.std.proofs.lemmas.Slice.Eq.{bytes_eq-Decides}
use Rattle.typing_rules.specs.declared.key.Key.{Key}
use Rattle.typing_rules.specs.declared.names.Named.{Named}
use Rattle.typing_rules.specs.Names.{or_outside}
use Rattle.typing_rules.specs.Meanings.{meaning_of, meaning_known, look}
use Rattle.typing_rules.proofs.names.Names.declare.Goals as goal

-- a name that stood nowhere has its meaning, and the others have theirs
declared : (here : Bool) (old : Option Named) (meaning : Named) → (here ≡ true → old ≡ None) → meaning_known (cond here (Some meaning) old) ≡ or_outside (meaning_known old) (cond here (Some (meaning_of meaning)) None)
declared true None meaning absent = refl
declared true (Some first) meaning absent = let h : Some first ≡ None = absent refl in cc
declared false None meaning absent = refl
declared false (Some first) meaning absent = refl

-- a name that stood keeps its meaning where that is put back, and the others have theirs
kept : (here : Bool) (old : Option Named) (first meaning : Named) → (here ≡ true → old ≡ Some first)
    → meaning_known (cond here (Some first) (cond here (Some meaning) old)) ≡ or_outside (meaning_known old) (cond here (Some (meaning_of meaning)) None)
kept true old first meaning stood = ap (λ o. or_outside (meaning_known o) (Some (meaning_of meaning))) (sym (stood refl))
kept false None first meaning stood = refl
kept false (Some other) first meaning stood = refl

pub returns-in-None-clause-means : goal.returns-in-None-clause-means
returns-in-None-clause-means c q =
    let name = c.as_slice-bytes.result.now in
    let old = c.args.self.now.meanings in
    ap meaning_known (c.in_ok-insert.ensures.updates.0 (record { bytes = record c.as_slice-bytes.result { now = q } }))
    ∙ declared (bytes_eq name q) (get_by (λ k. bytes_eq q k.bytes.now) old) c.args.meaning
    (λ here. ap (λ x. get_by (λ k. bytes_eq x k.bytes.now) old) (sym ((bytes_eq-Decides name q).0 here)) ∙ sym c.in_ok-insert.ensures.old ∙ c.in-None.is)
    ∙ ap (λ x. or_outside (look c.args.self.now q) (cond (bytes_eq x q) (Some (meaning_of c.args.meaning)) None)) c.as_slice-bytes.ensures.value

pub returns-in_ok-insert-in-Some-clause-means : goal.returns-in_ok-insert-in-Some-clause-means
returns-in_ok-insert-in-Some-clause-means c q =
    let name = c.as_slice-bytes.result.now in
    let old = c.args.self.now.meanings in
    let key : Key = record { bytes = record c.as_slice-bytes.result { now = q } } in
    let first = c.in-Some.first in
    ap meaning_known (c.in_ok-insert-in-Some.ensures.updates.0 key ∙ ap (cond (bytes_eq name q) (Some first)) (c.in_ok-insert.ensures.updates.0 key))
    ∙ kept (bytes_eq name q) (get_by (λ k. bytes_eq q k.bytes.now) old) first c.args.meaning
    (λ here. ap (λ x. get_by (λ k. bytes_eq x k.bytes.now) old) (sym ((bytes_eq-Decides name q).0 here)) ∙ sym c.in_ok-insert.ensures.old ∙ c.in-Some.is)
    ∙ ap (λ x. or_outside (look c.args.self.now q) (cond (bytes_eq x q) (Some (meaning_of c.args.meaning)) None)) c.as_slice-bytes.ensures.value
