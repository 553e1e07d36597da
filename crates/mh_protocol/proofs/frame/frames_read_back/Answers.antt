use Rattle.mh_protocol.proofs.FrameLemmas.{framed_reads}
use Rattle.mh_protocol.proofs.frame.frames_read_back.Goals as goal

pub returns : goal.returns
returns c = framed_reads
