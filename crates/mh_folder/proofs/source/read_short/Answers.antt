use Rattle.std.specs.Prelude.{◌≡◌, ◌+◌, ◌<◌, length}
use Rattle.std.proofs.Common.{arith, rules, inr}
use Rattle.std.proofs.lemmas.List.{places}
use Rattle.mh_base.specs.Limits.{largest_file}
use Rattle.mh_folder.specs.Source.{most_read}
use Rattle.mh_folder.proofs.SourceLemmas.{short_whole, had_longer}
use Rattle.mh_folder.proofs.source.read_short.Goals as goal

pub returns-clause-whole : goal.returns-clause-whole
returns-clause-whole g c = short_whole _ _ c.in_ok-bytes.ensures.whole (search (rules, places))

pub returns-then-len-gt-LARGEST_FILE-clause-refused : goal.returns-then-len-gt-LARGEST_FILE-clause-refused
returns-then-len-gt-LARGEST_FILE-clause-refused g c =
    let long : largest_file < length c.in_ok-bytes.bytes.items = search (rules, places) in
    let good = c.in_ok-bytes.ensures.good in
    let all : (g.S.Source.tally c.read_whole.new.source).given ≡ (g.S.Source.tally c.args.source.now).given + most_read =
    omega (arith, good.0, long, c.in_ok-bytes.ensures.most) in
    (c.in_ok-from_str.ensures.ok, inr (had_longer _ _ c.in_ok-bytes.ensures.whole long, all, good.1))
