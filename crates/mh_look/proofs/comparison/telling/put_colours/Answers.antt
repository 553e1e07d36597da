use Rattle.std.specs.Prelude.{codes}
use Rattle.std.proofs.lemmas.Result.{on_ok_weaker}
use Rattle.mh_told.specs.Printing.{hex_colour}
use Rattle.mh_look.specs.Telling.{colours_line}
use Rattle.mh_terminal.proofs.RangeLemmas.{three_put}
use Rattle.mh_look.proofs.comparison.telling.put_colours.Goals as goal

pub returns : goal.returns
unfolding colours_line
returns c =
    on_ok_weaker c.put_colour-2.result
    (λ h. three_put c.args.text.now (hex_colour c.args.fore) (codes "/") (hex_colour c.args.back) c.put_colour.new.self c.put.new.self c.put_colour-2.new.self c.in_ok-put_colour.ensures c.in_ok-put.ensures h)
    c.put_colour-2.ensures
