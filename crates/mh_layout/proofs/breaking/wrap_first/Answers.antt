use Rattle.std.proofs.Common.{◌≡◌, ◌+◌, ◌-◌, ◌<◌, ℕ, List, Option, Bor, drop, sym, subst, ◌∙◌, ap, arith}
use Rattle.mh_model.specs.Lines.{last_space}
use Rattle.mh_model.specs.Scalars.{scalars_of}
use Rattle.mh_layout.specs.Left.{IsHead, broken_rest}
use Rattle.mh_layout.proofs.HeadLemmas.{full, space_found, space_kept, wrap_ended, wrap_returned}
use Rattle.mh_layout.proofs.TextLemmas.{IsRead, left_behind, read_more}
use Rattle.mh_layout.proofs.breaking.wrap_first.Goals as goal
use Rattle.mh_layout.proofs.breaking.wrap_first.Goals.{then-may_break, else-may_break}

pub returns-in_default : goal.returns-in_default
returns-in_default c =
    let read = subst (IsRead (scalars_of c.args.text.now) c.loop-index.index) c.in_default.ensures c.loop-index.invariant.read in
    wrap_ended c.args.form (scalars_of c.args.text.now) c.loop-index.index c.requires.wraps c.requires.wide (omega (arith, c.loop-index-test.true)) read

pub returns-then-scalar-eq-RETURN : goal.returns-then-scalar-eq-RETURN
returns-then-scalar-eq-RETURN c =
    let read = subst (IsRead (scalars_of c.args.text.now) c.loop-index.index) c.in-Some.ensures c.loop-index.invariant.read in
    wrap_returned c.args.form (scalars_of c.args.text.now) (scalars_of c.in-Some.behind.now) c.loop-index.index c.in-Some.scalar c.requires.wraps c.requires.wide (omega (arith, c.loop-index-test.true)) read c.if-scalar-eq-RETURN.true

pub loop-index-preserved : goal.loop-index-preserved
loop-index-preserved c =
    let xs = scalars_of c.args.text.now in
    let n = c.loop-index.index in
    let read = subst (IsRead xs n) c.in-Some.ensures c.loop-index.invariant.read in
    record {
      read = read_more xs (scalars_of c.in-Some.behind.now) n c.in-Some.scalar read c.if-scalar-eq-RETURN.false;
      space = elim c.if-may_break.branch [
        | then-may_break w ↦ w.space-is ∙ space_found xs (scalars_of c.in-Some.behind.now) n c.in-Some.scalar read (sym c.may_break.ensures ∙ w.if-may_break.true)
        | else-may_break w ↦ w.space-is ∙ space_kept xs (scalars_of c.in-Some.behind.now) n c.in-Some.scalar c.loop-index.space read (sym c.may_break.ensures ∙ w.if-may_break.false) c.loop-index.invariant.space
      ];
      next = elim c.if-may_break.branch [
        | then-may_break w ↦ λ some. ap (λ (b : Bor (List ℕ)). scalars_of b.now) w.next-is ∙ left_behind xs (scalars_of c.in-Some.behind.now) n c.in-Some.scalar read ∙ ap (λ (k : ℕ). drop (k + 1) xs) (sym w.space-is)
        | else-may_break w ↦ λ some. ap (λ (b : Bor (List ℕ)). scalars_of b.now) w.next-is ∙ c.loop-index.invariant.next (subst (λ (k : ℕ). 0 < k) w.space-is some) ∙ ap (λ (k : ℕ). drop (k + 1) xs) (sym w.space-is)
      ];
    }

pub returns : goal.returns
returns c =
    let f = c.args.form in
    let xs = scalars_of c.args.text.now in
    let rest = scalars_of c.loop-index.rest.now in
    let end : c.loop-index.index ≡ f.width = omega (arith, c.loop-index-test.false, c.loop-index.auto.index-end) in
    let before : c.loop-index.index - 1 ≡ f.width - 1 = ap (λ (k : ℕ). k - 1) end in
    let wide : f.width ≡ f.width - 1 + 1 = omega (arith, c.requires.wide) in
    let read = subst (λ (k : ℕ). IsRead xs k rest) end c.loop-index.invariant.read in
    let spaces : c.loop-index.space ≡ last_space (f.width - 1) xs = c.loop-index.invariant.space ∙ ap (λ (k : ℕ). last_space k xs) before in
    subst (λ (r : Option (List ℕ)). IsHead f xs c.break_full.result.length r) (sym c.break_full.ensures.rest)
    (subst (λ (k : ℕ). IsHead f xs k (broken_rest c.loop-index.space (scalars_of c.loop-index.next.now) rest)) (sym c.break_full.ensures.length)
    (full f xs rest (scalars_of c.loop-index.next.now) c.loop-index.space (f.width - 1) c.requires.wraps wide read spaces c.loop-index.invariant.next))
