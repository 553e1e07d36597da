use Rattle.std.proofs.Common.{ap, ◌∙◌, arith, length, slice_index, ◌+◌, ℕ, List}
use Rattle.bstr.specs.Text.{lines_of}
use Rattle.mh_why.proofs.LinesLemmas.{is_extent, starts_length}
use Rattle.mh_why.proofs.place.lines.extent.Goals as goal

pub returns-clause-is : goal.returns-clause-is
returns-clause-is c =
    let ls = lines_of c.args.text.now in
    let long = ap length c.requires.table ∙ starts_length 0 ls in
    is_extent c.args.text.now c.args.index _ _ (omega (arith, long, c.requires.there)) (ap (λ (ns : List ℕ). slice_index ns c.args.index) c.requires.table)
    (ap (λ (ns : List ℕ). slice_index ns (c.args.index + 1)) c.requires.table)
