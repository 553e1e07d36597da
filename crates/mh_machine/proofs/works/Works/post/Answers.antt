use Rattle.std.proofs.Common.{rules}
use Rattle.mh_machine.proofs.TimeLemmas.{in_time}
use Rattle.mh_machine.proofs.works.Works.post.Goals as goal

pub post-requires : goal.post-requires
post-requires c = in_time c.args.input c.args.self.now.state c.self.inside.agenda (search rules) (search rules) c.requires
