use Rattle.std.proofs.Common.{sym}
use Rattle.clap.specs.Words.{found_of}
use Rattle.mh_command.proofs.ValueLemmas.{lent}
use Rattle.mh_command.proofs.values.file_of.Goals as goal

pub returns : goal.returns
returns c = sym (lent (found_of c.args.given.now) c.args.name.now c.get_str.result c.get_str.ensures)
