use Rattle.std.proofs.Common.{◌≤◌, length, sym, subst, refl}
use Rattle.kernel_net.specs.Ports.{Place, kernels_of, place_of}
use Rattle.kernel_turns.proofs.Beginning.{emptied-letters, none-within, puts-emptied, puts-none}
use Rattle.kernel_turns.specs.declared.base.Base.{Base}
use Rattle.kernel_turns.proofs.base.Base.put.Goals as goal

pub returns-clause-puts : goal.returns-clause-puts
returns-clause-puts c =
    let new : Base = record c.args.self.now { kernel = c.reuse.new.self; port = c.put.new.port; outbox = c.emptied.new.self } in
    puts-emptied c.in_ok-put.put c.args.self.now new c.put.new.self (emptied-letters c.put.new.self c.emptied.new.self c.in_ok-put.ensures.unsent c.emptied.ensures.unsent c.emptied.ensures.waiting)
    c.in_ok-put.ensures.flushed c.in_ok-put.ensures.some c.in_ok-put.ensures.none c.in_ok-put.ensures.port c.emptied.ensures.unsent
    (record {
      lists = subst (λ (p : Place). length c.emptied.new.self.waiting.items ≤ kernels_of p) (sym c.in_ok-put.ensures.flushed.place)
          (subst (λ ws. length ws.items ≤ kernels_of (place_of c.args.self.now.port)) (sym c.emptied.ensures.waiting) c.in_ok-put.ensures.lists);
      within = none-within (kernels_of (place_of c.put.new.port)) c.emptied.new.self.unsent.items c.emptied.ensures.unsent;
    })
    (record { kernel = c.reuse.ensures; journal = refl; orders = refl; used = refl })
    refl

pub returns-then-is_empty-clause-puts : goal.returns-then-is_empty-clause-puts
returns-then-is_empty-clause-puts c = puts-none c.args.self.now c.requires.fits (c.is_empty.ensures.0 c.if-is_empty.true)
