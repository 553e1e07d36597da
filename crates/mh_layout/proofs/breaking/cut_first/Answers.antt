use Rattle.std.proofs.Common.{◌≡◌, ◌≤◌, length, min, ap, subst, sym, ◌∙◌, arith, ℕ}
use Rattle.mh_model.specs.Scalars.{scalars_of}
use Rattle.mh_layout.proofs.HeadLemmas.{cut_ended, cut_returned}
use Rattle.mh_layout.proofs.TextLemmas.{IsRead, read_all, read_more}
use Rattle.mh_layout.proofs.ScalarLemmas.{few_scalars}
use Rattle.mh_layout.proofs.breaking.cut_first.Goals as goal

pub returns-in_default : goal.returns-in_default
returns-in_default c =
    let read = subst (IsRead (scalars_of c.args.text.now) c.loop-read.read) c.in_default.ensures c.loop-read.invariant in
    cut_ended c.args.form (scalars_of c.args.text.now) c.loop-read.read c.min-length.result c.requires read c.min-length.ensures

pub returns-then-scalar-eq-RETURN : goal.returns-then-scalar-eq-RETURN
returns-then-scalar-eq-RETURN c =
    let read = subst (IsRead (scalars_of c.args.text.now) c.loop-read.read) c.in-Some.ensures c.loop-read.invariant in
    cut_returned c.args.form (scalars_of c.args.text.now) (scalars_of c.in-Some.behind.now) c.loop-read.read c.min-length.result c.in-Some.scalar c.requires read c.if-scalar-eq-RETURN.true c.min-length.ensures

pub loop-read-preserved : goal.loop-read-preserved
loop-read-preserved c =
    let read = subst (IsRead (scalars_of c.args.text.now) c.loop-read.read) c.in-Some.ensures c.loop-read.invariant in
    read_more (scalars_of c.args.text.now) (scalars_of c.in-Some.behind.now) c.loop-read.read c.in-Some.scalar read c.if-scalar-eq-RETURN.false

pub returns : goal.returns
returns c =
    let xs = scalars_of c.args.text.now in
    let n = c.loop-read.read in
    let end : n ≡ length c.args.text.now = omega (arith, c.loop-read-test.false, c.loop-read.auto.read-end) in
    let all : length xs ≤ n = omega (arith, end, few_scalars c.args.text.now) in
    let read = read_all xs (scalars_of c.loop-read.rest.now) n c.loop-read.invariant all in
    cut_ended c.args.form xs n c.min.result c.requires read (c.min.ensures ∙ ap (λ (k : ℕ). min c.args.form.width k) (sym end))
