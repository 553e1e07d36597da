use Rattle.std.proofs.Common.{rules}
use Rattle.mh_layers.specs.declared.bounds.InputKind.TheVariants as kind
use Rattle.mh_layers.specs.declared.numbered_node.NumberedNode.TheVariants as node
use Rattle.mh_layers.proofs.RootLemmas.{five_pushed}
use Rattle.mh_layers.proofs.laying.roots.push_kinds.Goals as goal

pub returns : goal.returns
returns c =
    let n = c.args.config in
    five_pushed c.args.nodes.now.items c.push.new.self.items c.push-2.new.self.items c.push-3.new.self.items c.push-4.new.self.items c.push-5.new.self.items
    (node.Taken n kind.Key) (node.Taken n kind.Tick) (node.Taken n kind.Stream) (node.Taken n kind.Engine) (node.Taken n kind.Arrive)
    (search rules) (search rules) (search rules) (search rules) (search rules)
