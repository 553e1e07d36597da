use Rattle.mh_folder.proofs.SourceLemmas.{had_front}
use Rattle.std.proofs.Common.{rules}
use Rattle.mh_folder.proofs.source.read_whole.Goals as goal

pub returns-in-Some-clause-whole : goal.returns-in-Some-clause-whole
returns-in-Some-clause-whole g c = had_front _ (g.S.Source.left c.bytes_of.new.source) c.in-Some.bytes.items (search rules)
