use Rattle.std.specs.Prelude.{◌≡◌, ◌≢◌, ℕ, List}
use Rattle.std.proofs.Common.{rules, subst}
use Rattle.mh_told.specs.Told.{total_line}
use Rattle.mh_look.specs.Front.{behind}
use Rattle.mh_look.specs.Reading.{IsNumberFound}
use Rattle.mh_look.proofs.PartLemmas.{total_read, no_total, total_found, total_elsewhere}
use Rattle.mh_look.proofs.report.line.read_total.Goals as goal

pub returns-in_default : goal.returns-in_default
returns-in_default c =
    let number : IsNumberFound (behind 32 c.args.bytes.now) c.read_number.result = subst (λ (bs : List ℕ). IsNumberFound bs c.read_number.result) c.behind.ensures c.read_number.ensures.found in
    no_total c.args.bytes.now (λ n small e. let found = total_read c.args.bytes.now c.read_number.result n number small e in c.in_default.not-Some _ found)

pub returns-then-eq : goal.returns-then-eq
returns-then-eq c =
    let number : IsNumberFound (behind 32 c.args.bytes.now) c.read_number.result = subst (λ (bs : List ℕ). IsNumberFound bs c.read_number.result) c.behind.ensures c.read_number.ensures.found in
    let printed : c.args.bytes.now ≡ total_line c.in-Some.steps = search rules in
    total_found c.args.bytes.now c.read_number.result c.in-Some.steps c.in-Some.field-0-1 number c.in-Some.is (search rules) printed

pub returns : goal.returns
returns c =
    let number : IsNumberFound (behind 32 c.args.bytes.now) c.read_number.result = subst (λ (bs : List ℕ). IsNumberFound bs c.read_number.result) c.behind.ensures c.read_number.ensures.found in
    let other : c.args.bytes.now ≢ total_line c.in-Some.steps = search rules in
    total_elsewhere c.args.bytes.now c.read_number.result c.in-Some.steps c.in-Some.field-0-1 number c.in-Some.is other
