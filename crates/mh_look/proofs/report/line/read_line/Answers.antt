use Rattle.std.specs.Prelude.{◌≡◌, ℕ, List, Option, Some, IfSome}
use Rattle.std.proofs.Common.{subst, rules}
use Rattle.mh_look.specs.declared.report.Part.{Part}
use Rattle.mh_look.specs.Front.{IsInFront}
use Rattle.mh_look.specs.Lines.{line_text, TakesPart, IsGoodLine}
use Rattle.mh_look.proofs.PartLemmas.{line_found}
use Rattle.mh_look.proofs.report.line.read_line.Goals as goal

pub returns-in-Some-length_in_front : goal.returns-in-Some-length_in_front
returns-in-Some-length_in_front c =
    let printed : c.as_slice.result.now ≡ line_text c.in-Some.part = search rules in
    line_found c.args.bytes.now c.in-Some.part c.in-Some-length_in_front.length
    (subst (λ (o : Option Part). TakesPart c.args.bytes.now o) c.in-Some.is c.in_ok-part.ensures.taken)
    (subst (λ (o : Option Part). IfSome o IsGoodLine) c.in-Some.is c.in_ok-part.ensures.good)
    (subst (λ (t : List ℕ). IsInFront c.args.bytes.now t (Some c.in-Some-length_in_front.length)) printed c.in-Some-length_in_front.ensures)
