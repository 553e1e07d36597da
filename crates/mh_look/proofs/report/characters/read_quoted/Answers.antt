use Rattle.std.proofs.Common.{◌≡◌, ◌∙◌, sym, length, slice_index, arith}
use Rattle.mh_told.specs.Printing.{quoted}
use Rattle.mh_look.proofs.NumberLemmas.{found_pair}
use Rattle.mh_look.proofs.CharacterLemmas.{no_mark, with_slash}
use Rattle.mh_look.proofs.report.characters.read_quoted.Goals as goal

pub returns-in-92-clause-found : goal.returns-in-92-clause-found
returns-in-92-clause-found c x is rest e =
    let first : slice_index c.args.bytes.now 0 ≡ 92 = omega arith in
    let both = with_slash x c.args.bytes.now rest is e (omega arith) first in
    found_pair c.from.result x 2 (length (quoted x)) (c.from.ensures ∙ both.0) (sym both.1)

pub returns-in-34-clause-found : goal.returns-in-34-clause-found
returns-in-34-clause-found c x is rest e =
    let first : slice_index c.args.bytes.now 0 ≡ 34 = omega arith in
    absurd (no_mark x c.args.bytes.now rest is e (omega arith) first)

pub returns-in-34-2-clause-found : goal.returns-in-34-2-clause-found
returns-in-34-2-clause-found c x is rest e =
    let first : slice_index c.args.bytes.now 0 ≡ 34 = omega arith in
    absurd (no_mark x c.args.bytes.now rest is e (omega arith) first)
