use Rattle.std.proofs.Common.{rules, arith, ap, ◌∙◌, length}
use Rattle.std.proofs.lemmas.List.{take_all}
use Rattle.mh_places.specs.Places.{place_behind}
use Rattle.mh_places.proofs.CountingLemmas.{other_line, same_line}
use Rattle.mh_places.proofs.counting.further.Goals as goal

pub returns-then-since_feed-more : goal.returns-then-since_feed-more
returns-then-since_feed-more c = λ xs front.
    other_line xs c.args.more.now c.args.front c.place_at-end.result c.in_ok-line.line front
    (c.place_at-end.ensures ∙ ap place_behind (take_all (length c.args.more.now) c.args.more.now (omega arith))) (search rules) (search rules)

pub returns : goal.returns
returns c = λ xs front.
    same_line xs c.args.more.now c.args.front c.place_at-end.result c.in_ok-line.line c.in_ok-column.column front
    (c.place_at-end.ensures ∙ ap place_behind (take_all (length c.args.more.now) c.args.more.now (omega arith))) (search rules) (search rules) (search rules) (search rules)
