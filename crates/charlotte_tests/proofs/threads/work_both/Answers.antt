use Rattle.std.proofs.Common.{◌≡◌, length, ap, ◌∙◌, arith}
use Rattle.kernel_net.specs.Ports.{Place, got_from, put_to, there_of}
use Rattle.charlotte_tests.proofs.Numbered.{crossed}
use Rattle.charlotte_tests.proofs.threads.work_both.Goals as goal

pub returns-clause-to_b : goal.returns-clause-to_b
returns-clause-to_b g c =
    let met = c.meet-there.ensures in
    met.there.0.there ∙ ap (put_to c.meet-there.new.a) (ap (λ (p : Place). p.kernel) (met.place_b ∙ c.work_beside.ensures.place_b)) ∙ ap (λ f. f c.args.b.now.kernel) met.looked_a.put
    ∙ c.work_beside.ensures.put_a

pub returns-clause-to_a : goal.returns-clause-to_a
returns-clause-to_a g c =
    let met = c.meet-there.ensures in
    met.there.1.there ∙ ap (put_to c.meet-there.new.b) (ap (λ (p : Place). p.kernel) (met.place_a ∙ c.work_beside.ensures.place_a)) ∙ ap (λ f. f c.args.a.now.kernel) met.looked_b.put
    ∙ c.work_beside.ensures.put_b

pub returns-clause-count : goal.returns-clause-count
returns-clause-count g c =
    let met = c.meet-there.ensures in
    let a = c.meet-there.new.a in
    let b = c.meet-there.new.b in
    let at_a : a.kernel ≡ c.args.a.now.kernel = ap (λ (p : Place). p.kernel) (met.place_a ∙ c.work_beside.ensures.place_a) in
    let at_b : b.kernel ≡ c.args.b.now.kernel = ap (λ (p : Place). p.kernel) (met.place_b ∙ c.work_beside.ensures.place_b) in
    let got_a : length (got_from a b.kernel) ≡ c.work_beside.result.0.got =
    ap (λ k. length (got_from a k)) at_b ∙ ap (λ f. length (f c.args.b.now.kernel)) met.looked_a.got ∙ c.work_beside.ensures.got_a in
    let got_b : length (got_from b a.kernel) ≡ c.work_beside.result.1.got =
    ap (λ k. length (got_from b k)) at_a ∙ ap (λ f. length (f c.args.a.now.kernel)) met.looked_b.got ∙ c.work_beside.ensures.got_b in
    let to_b = crossed (got_from b a.kernel) (there_of a b) c.work_beside.result.0.put (returns-clause-to_b g c) in
    let to_a = crossed (got_from a b.kernel) (there_of b a) c.work_beside.result.1.put (returns-clause-to_a g c) in
    omega (arith, got_a, got_b, met.count, to_b, to_a)
