use Rattle.std.specs.Prelude.{ℕ, ◌+◌, ◌-◌, ◌≡◌, ◌==◌, List, length, slice_index, take, drop}
use Rattle.std.proofs.Common.{ap, ◌∙◌, sym, arith, length-drop, length-take-le}
use Rattle.bstr.specs.Text.{lines_of}
use Rattle.mh_why.specs.Lines.{Lines}
use Rattle.mh_why.proofs.LinesLemmas.{starts_first}
use Rattle.mh_why.proofs.PlacesLemmas.{inner_within, line_is, no_line}
use Rattle.mh_why.proofs.StopLemmas.{before_within}
use Rattle.mh_why.proofs.place.lines.Lines.line_at.Goals as goal

pub count_of-count-requires : goal.count_of-count-requires
count_of-count-requires c = c.as_slice-starts.ensures.value ∙ ap (λ (t : Lines). t.starts) c.self.view_is ∙ c.requires.started

pub returns-then-count-eq0 : goal.returns-then-count-eq0
returns-then-count-eq0 c = c.no_line.ensures ∙ no_line c.args.offset (lines_of c.args.text.now) (sym c.count_of-count.ensures.exact ∙ c.if-count-eq0.true)

pub index_of-index-requires-clause-first : goal.index_of-index-requires-clause-first
index_of-index-requires-clause-first c =
    let first = ap (λ (ns : List ℕ). slice_index ns 0) (c.as_slice-starts.ensures.value ∙ ap (λ (t : Lines). t.starts) c.self.view_is ∙ c.requires.started) ∙ starts_first 0 (lines_of c.args.text.now) in
    omega (arith, first)

pub stop_before-requires-clause-there : goal.stop_before-requires-clause-there
stop_before-requires-clause-there c =
    let start = c.extent-start.result.0 in
    let end = c.extent-start.result.1 in
    let behind = length-drop start c.args.text.now in
    let long : length (take (end - start) (drop start c.args.text.now)) ≡ end - start = length-take-le _ _ (omega (arith, behind, c.extent-start.ensures.is.within)) in
    before_within (take (end - start) (drop start c.args.text.now)) (c.index_of-index.result + 1 == c.count_of-count.result) (c.args.offset - start) (end - start) c.before_in-before.result long
    (inner_within c.as_slice-starts.result.now c.index_of-index.result c.count_of-count.result c.args.offset start end c.index_of-index.ensures.there c.index_of-index.ensures.before c.extent-start.ensures.end)
    c.before_in-before.ensures

pub invariant_of-result : goal.invariant_of-result
invariant_of-result c =
    let start = c.extent-start.result.0 in
    let end = c.extent-start.result.1 in
    let behind = length-drop start c.args.text.now in
    let long : length (take (end - start) (drop start c.args.text.now)) ≡ end - start = length-take-le _ _ (omega (arith, behind, c.extent-start.ensures.is.within)) in
    let few =
    before_within (take (end - start) (drop start c.args.text.now)) (c.index_of-index.result + 1 == c.count_of-count.result) (c.args.offset - start) (end - start) c.before_in-before.result long
    (inner_within c.as_slice-starts.result.now c.index_of-index.result c.count_of-count.result c.args.offset start end c.index_of-index.ensures.there c.index_of-index.ensures.before c.extent-start.ensures.end)
    c.before_in-before.ensures in
    (c.stop_before.ensures.is, c.stop_before.ensures.before, omega (arith, long, few))

pub returns : goal.returns
returns c =
    line_is c.args.text.now c.as_slice-starts.result.now _ c.args.offset c.index_of-index.result c.extent-start.result.0 c.extent-start.result.1 c.count_of-count.result c.before_in-before.result
    (c.as_slice-starts.ensures.value ∙ ap (λ (t : Lines). t.starts) c.self.view_is ∙ c.requires.started) c.count_of-count.ensures.exact c.index_of-index.ensures.there c.index_of-index.ensures.begun
    c.index_of-index.ensures.before c.extent-start.ensures.start c.extent-start.ensures.is.bytes c.before_in-before.ensures
