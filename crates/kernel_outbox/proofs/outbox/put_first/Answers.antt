use Rattle.std.proofs.Common.{◌≡◌, ◌<◌, true, false, subst, sym, ◌∙◌}
use Rattle.kernel_net.specs.Ports.{Place, kernels_of}
use Rattle.kernel_outbox.proofs.Putting.{fewer-left, first-may, puts-more, rest-may}
use Rattle.kernel_outbox.proofs.outbox.put_first.Goals as goal

pub put_known-requires-clause-letter : goal.put_known-requires-clause-letter
put_known-requires-clause-letter c =
    first-may c.args.to c.in-Some.letter c.loop-port.list.items c.pop_front.new.self.items c.loop-port.port c.is_full.new.self c.in-Some.ensures.items c.is_full.ensures.looked c.loop-port.invariant.may

pub loop-port-preserved : goal.loop-port-preserved
loop-port-preserved c =
    let inv = c.loop-port.invariant in
    let l = c.in-Some.letter in
    let before = c.args.list.now.items in
    let left = c.loop-port.list.items in
    let rest = c.pop_front.new.self.items in
    let start = c.args.port.now in
    let old = c.loop-port.port in
    let mid = c.is_full.new.self in
    let new = c.put_known.new.self in
    let first = c.in-Some.ensures.items in
    let e = c.is_full.ensures in
    let put = c.put_known.ensures in
    record {
      kernel = subst (λ (place : Place). c.args.to < kernels_of place) (sym (put.place ∙ e.place)) inv.kernel;
      may = rest-may c.args.to l before left rest start old mid new first e.looked put.put inv.may;
      puts = puts-more c.args.to l before left rest start old mid new first e.looked put.put inv.puts e.into e.place put.place;
      some = λ _. fewer-left c.args.to l before left rest start old mid new first e.looked put.put inv.puts;
      none = λ (no-e : true ≡ false). absurd cc;
      port = λ (no-e : true ≡ false). absurd cc;
    }
