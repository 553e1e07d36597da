use Rattle.std.specs.Prelude.{◌≡◌}
use Rattle.std.proofs.Common.{ap, arith}
use Rattle.mh_look.specs.declared.report.run.Place.{Place}
use Rattle.mh_look.proofs.OptionLemmas.{firsts, nothing_is}
use Rattle.mh_look.proofs.ReadLemmas.{small_first, small_last}
use Rattle.mh_look.proofs.report.run.read_place_behind.Goals as goal
use Rattle.mh_look.proofs.report.run.read_place_behind.Goals.{then-place-count-via-then-place-count, then-place-count-via-else-place-count+then-place, then-place-count-via-else-place-count+else-place+then-place-ge-COLUMNS}

pub returns-in_err-place-clause-found : goal.returns-in_err-place-clause-found
returns-in_err-place-clause-found c = λ p stands rest e.
    nothing_is _ _ (c.in_err-place.ensures.found p (small_first c.args.count p stands) (small_last c.args.count p stands) stands.colours rest e)

pub returns-then-place-count-clause-found : goal.returns-then-place-count-clause-found
returns-then-place-count-clause-found c = λ p stands rest e.
    let same : c.in_ok-place.place ≡ p = firsts c.in_ok-place.place p c.in_ok-place.length _ (c.in_ok-place.ensures.found p (small_first c.args.count p stands) (small_last c.args.count p stands) stands.colours rest e) in
    let first : c.in_ok-place.place.first ≡ p.first = ap (λ (q : Place). q.first) same in
    let last : c.in_ok-place.place.last ≡ p.last = ap (λ (q : Place). q.last) same in
    elim c.then-place-count.branch [
      | then-place-count-via-then-place-count w ↦ absurd (omega (arith, w.if-place-count.true, first, stands.behind))
      | then-place-count-via-else-place-count+then-place w ↦ absurd (omega (arith, w.if-place.true, first, last, stands.rising))
      | then-place-count-via-else-place-count+else-place+then-place-ge-COLUMNS w ↦ absurd (omega (arith, w.if-place-ge-COLUMNS.true, last, stands.within))
    ]

pub returns-clause-found : goal.returns-clause-found
returns-clause-found c = λ p stands rest e.
    c.in_ok-place.ensures.found p (small_first c.args.count p stands) (small_last c.args.count p stands) stands.colours rest e
