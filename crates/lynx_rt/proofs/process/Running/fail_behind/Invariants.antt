use Rattle.std.proofs.Common.{◌≡◌, length, map}
use Rattle.std.specs.List.{flat_map}
use Rattle.typing_rules.specs.declared.exception.Exception.TheVariants.{DeadLink}
use Rattle.process_run.specs.Deaths.{raises_in}
use Rattle.process_run.specs.Ends.{holds_again}
use Rattle.process_sound.specs.Machine.{MayRaise}
use Rattle.lynx_rt.specs.Kept.{IsProcess}
use Rattle.lynx_rt.proofs.process.Running.fail_behind.Given as goal

abbrev pub invariant-loop-connect : goal.invariant-loop-connect
invariant-loop-connect l =
    record {
      process : IsProcess l.self;
      raises : MayRaise (map (λ c. c.thread) l.behind) DeadLink l.self;
      failed : raises_in (map (λ c. c.thread) l.behind) DeadLink (holds_again (flat_map (λ c. c.ends) l.behind) l.self)
          ≡ raises_in (map (λ c. c.thread) l.initial.behind) DeadLink (holds_again (flat_map (λ c. c.ends) l.initial.behind) l.initial.self);
    }

abbrev pub decreases-loop-connect : goal.decreases-loop-connect
decreases-loop-connect l = length l.behind
