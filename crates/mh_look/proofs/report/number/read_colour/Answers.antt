use Rattle.std.proofs.Common.{ℕ, List, ◌/◌, ◌%◌, ap, slice_index, arith}
use Rattle.mh_look.proofs.NumberLemmas.{colour_is}
use Rattle.mh_look.proofs.report.number.read_colour.Goals as goal

pub returns-clause-found : goal.returns-clause-found
returns-clause-found c x small rest e =
    let at = λ (k : ℕ). ap (λ (l : List ℕ). slice_index l k) e in
    colour_is x c.in_ok-red.red c.in_ok-green.green c.in_ok-blue.blue small
    (c.in_ok-red.ensures.found (x / 1048576 % 16) (x / 65536 % 16) (omega arith) (omega arith) (at 0) (at 1))
    (c.in_ok-green.ensures.found (x / 4096 % 16) (x / 256 % 16) (omega arith) (omega arith) (at 2) (at 3))
    (c.in_ok-blue.ensures.found (x / 16 % 16) (x % 16) (omega arith) (omega arith) (at 4) (at 5))
