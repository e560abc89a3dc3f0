use Rattle.std.proofs.Common.{◌≡◌, All, subst, sym, rules}
use Rattle.kernel_nodes.proofs.Started.{IsQuietNode, all-taken, all-quiet}
use Rattle.kernel_nodes.proofs.nodes.Nodes.are_quiet.Goals as goal

pub returns : goal.returns
returns c s =
    let same : c.deref.result.now ≡ c.args.self.now.nodes.items = search rules in (
      (λ is. all-taken s c.args.self.now.nodes.items (subst (All IsQuietNode) same (c.are_all_quiet.ensures.0 is))),
      (λ taken. c.are_all_quiet.ensures.1 (subst (All IsQuietNode) (sym same) (all-quiet c.args.self.now.nodes.items taken))),
    )
