use Rattle.mh_codec.proofs.ColumnLemmas.{profile_named}
use Rattle.mh_codec.proofs.laws.no_lines_name_the_profile.Goals as goal

pub returns : goal.returns
returns c = profile_named
