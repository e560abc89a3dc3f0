use Rattle.std.proofs.Common.{◌+◌, ap}
use Rattle.compiler_emission.proofs.Placing.{grown}
use Rattle.compiler_emission.proofs.places.Places.add.Goals as goal

pub returns-clause-table : goal.returns-clause-table
returns-clause-table c names h = grown names c.args.name.now c.args.self.now (record { places = c.keep.new.self.places; count = c.keep.new.self.count + 1 }) h (ap (λ k. k + 1) c.keep.ensures.count) c.in_ok-keep.ensures.found
