use Rattle.mh_stack.proofs.RefLemmas.{inside_told}
use Rattle.mh_stack.proofs.line.Line.keep.Goals as goal

pub keep_of-requires : goal.keep_of-requires
keep_of-requires c = rw c.as_slice.ensures.keys (inside_told _ _ _ c.self.invariant c.len.ensures.within)
