use Rattle.std.proofs.Common.{ap, ◌∙◌, sym, arith, refl, append-nil, append_assoc, ◌+◌, ◌++◌, List, ℕ}
use Rattle.mh_told.specs.Frame.{run_text}
use Rattle.mh_told.specs.Masks.{is_last}
use Rattle.mh_told.specs.Stretch.{stretch, runs_left}
use Rattle.mh_told.proofs.MaskLemmas.{told_first, some_run, next_run, without}
use Rattle.mh_told.proofs.StretchLemmas.{runs_first, runs_last, run_found}
use Rattle.mh_told.proofs.row.put_runs.Goals as goal

pub loop-first-init : goal.loop-first-init
loop-first-init c = (
  omega arith,
  c.lasts_of-lasts.type_inv,
  told_first (is_last c.args.picture.now c.args.row) c.lasts_of-lasts.result c.lasts_of-lasts.ensures,
  ap (λ (xs : List ℕ). c.args.text.now ++ xs) (runs_first c.args.picture.now c.args.row),
)

pub lowest-last-requires : goal.lowest-last-requires
lowest-last-requires c = some_run c.args.picture.now c.args.row c.loop-first.first c.loop-first.lasts c.loop-first-test.true c.loop-first.invariant.2

pub put_run-requires-clause-some : goal.put_run-requires-clause-some
put_run-requires-clause-some c = (next_run c.args.picture.now c.args.row c.loop-first.first c.loop-first.lasts c.lowest-last.result (without c.loop-first.lasts c.lowest-last.result) c.loop-first-test.true c.loop-first.invariant.1 c.lowest-last.ensures refl c.loop-first.invariant.2).low

pub put_run-requires-clause-within : goal.put_run-requires-clause-within
put_run-requires-clause-within c = (next_run c.args.picture.now c.args.row c.loop-first.first c.loop-first.lasts c.lowest-last.result (without c.loop-first.lasts c.lowest-last.result) c.loop-first-test.true c.loop-first.invariant.1 c.lowest-last.ensures refl c.loop-first.invariant.2).high

pub without-lasts-requires : goal.without-lasts-requires
without-lasts-requires c = (next_run c.args.picture.now c.args.row c.loop-first.first c.loop-first.lasts c.lowest-last.result (without c.loop-first.lasts c.lowest-last.result) c.loop-first-test.true c.loop-first.invariant.1 c.lowest-last.ensures refl c.loop-first.invariant.2).high

pub overflow_add-first : goal.overflow_add-first
overflow_add-first c =
    let next = next_run c.args.picture.now c.args.row c.loop-first.first c.loop-first.lasts c.lowest-last.result (without c.loop-first.lasts c.lowest-last.result) c.loop-first-test.true c.loop-first.invariant.1 c.lowest-last.ensures refl c.loop-first.invariant.2 in
    omega (arith, next.high)

pub loop-first-smaller : goal.loop-first-smaller
loop-first-smaller c =
    let next = next_run c.args.picture.now c.args.row c.loop-first.first c.loop-first.lasts c.lowest-last.result (without c.loop-first.lasts c.lowest-last.result) c.loop-first-test.true c.loop-first.invariant.1 c.lowest-last.ensures refl c.loop-first.invariant.2 in
    omega (arith, next.low, next.high)

pub loop-first-preserved : goal.loop-first-preserved
loop-first-preserved c =
    let p = c.args.picture.now in
    let last = c.lowest-last.result in
    let next = next_run p c.args.row c.loop-first.first c.loop-first.lasts last c.without-lasts.result c.loop-first-test.true c.loop-first.invariant.1 c.lowest-last.ensures c.without-lasts.ensures c.loop-first.invariant.2 in
    let run = run_found p c.args.row c.loop-first.first last c.cells.ensures.whole c.requires next.low next.high next.between next.here in
    let rest = runs_left p c.args.row (last + 1) in (
      omega (arith, next.high),
      c.without-lasts.type_inv,
      next.rest,
      ap (λ (xs : List ℕ). xs ++ rest) c.in_ok-put_run.ensures
          ∙ append_assoc c.loop-first.text (run_text (stretch p c.args.row c.loop-first.first (last + 1))) rest
          ∙ ap (λ (xs : List ℕ). c.loop-first.text ++ xs) (sym run)
          ∙ c.loop-first.invariant.3,
    )

pub returns : goal.returns
returns c =
    sym (append-nil c.loop-first.text)
    ∙ ap (λ (xs : List ℕ). c.loop-first.text ++ xs) (sym (runs_last c.args.picture.now c.args.row c.loop-first.first (omega (arith, c.loop-first-test.false))))
    ∙ c.loop-first.invariant.3
