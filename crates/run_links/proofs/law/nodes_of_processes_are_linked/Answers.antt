use Rattle.lynx_load.specs.Roles.{last_of, state_of, version_of}
use Rattle.run_links.proofs.Linked.{of-nodes}
use Rattle.run_links.proofs.law.nodes_of_processes_are_linked.Goals as goal

pub returns-clause-alone : goal.returns-clause-alone
returns-clause-alone g c =
    λ s programs given made old new merged begin wired. of-nodes (λ p. p.process) (λ p. p.last) (λ p. p.process.version) s programs given begin wired g.W.Watch.HasSeen made old new merged

pub returns-clause-of_plan : goal.returns-clause-of_plan
returns-clause-of_plan g c =
    λ s programs given made old new merged begin wired. of-nodes state_of last_of version_of s programs given begin wired g.W.Watch.HasSeen made old new merged
