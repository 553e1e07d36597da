use Rattle.std.specs.Prelude.{◌≡◌, ◌+◌, ◌++◌, List, ℕ, codes, take, drop}
use Rattle.std.specs.List.{flat_map}
use Rattle.std.proofs.Common.{ap, sym, ◌∙◌}
use Rattle.std.proofs.lemmas.List.{take_rest}
use Rattle.mh_told.specs.Frame.{Run}
use Rattle.mh_told.specs.Printing.{quoted}
use Rattle.mh_told.proofs.LineLemmas.{run_put, blank_put}
use Rattle.mh_told.proofs.row.Run.put.Goals as goal

pub returns-then-is_blank : goal.returns-then-is_blank
returns-then-is_blank c = blank_put c.args.self.now c.args.text.now (sym c.is_blank.ensures ∙ c.if-is_blank.true)

pub returns : goal.returns
returns c =
    let same : c.self.inside.scalars.now ≡ c.args.self.now.scalars = ap (λ (r : Run). r.scalars) c.self.view_is in
    let count : ℕ = c.put_plain-count.result in
    let shown : ℕ = c.args.shown in
    let begun : List ℕ = take c.put_mark-at.result c.put_mark-at.new.line in
    let line : List ℕ = take (c.put_mark-at.result + c.put_plain-count.result) c.put_plain-count.new.line in
    run_put c.args.self.now c.args.shown c.put_plain-count.result _ _ c.args.text.now _ (sym c.is_blank.ensures ∙ c.if-is_blank.false) c.requires.shown
    (c.put_mark-at.ensures.front ∙ ap (λ (xs : List ℕ). xs ++ codes " \"") c.put_place-at.ensures.front)
    (c.put_plain-count.ensures.front ∙ ap (λ (xs : List ℕ). begun ++ flat_map quoted (take count (take shown xs))) same)
    (c.in_ok-put_line.ensures
    ∙ ap (λ (xs : List ℕ). c.args.text.now ++ (line ++ flat_map quoted xs ++ codes "\"")) (take_rest (take shown c.self.inside.scalars.now) count)
    ∙ ap (λ (xs : List ℕ). c.args.text.now ++ (line ++ flat_map quoted (drop count (take shown xs)) ++ codes "\"")) same)
