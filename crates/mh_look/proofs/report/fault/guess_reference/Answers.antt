use Rattle.std.specs.Prelude.{◌≡◌, ℕ, List, [], ◌-◌, length, take, Option, Some}
use Rattle.std.proofs.Common.{ap, ◌∙◌}
use Rattle.mh_base.specs.Path.{is_path}
use Rattle.mh_look.specs.Lines.{reference_of}
use Rattle.mh_look.proofs.FrontLemmas.{slice_to_end}
use Rattle.mh_look.proofs.LineLemmas.{reference_stands, ends_number_nil}
use Rattle.mh_look.proofs.report.fault.guess_reference.Goals as goal

pub returns-clause-taken : goal.returns-clause-taken
returns-clause-taken c r good e =
    let digits = c.count_behind-digits.result in
    let stands = reference_stands c.args.bytes.now c.count_behind-digits.result r good.1 c.count_behind-digits.ensures.count e in
    let number : c.guess_short.result ≡ Some r.number =
    c.guess_short.ensures.taken r.number good.1 [] ends_number_nil (slice_to_end c.args.bytes.now (length c.args.bytes.now - digits) ∙ stands.number) in
    let front : take c.saturating_sub.result c.args.bytes.now ≡ r.group = ap (λ (n : ℕ). take n c.args.bytes.now) c.saturating_sub.ensures ∙ stands.group in
    let group : c.in_ok-group.group ≡ Some r.group =
    c.in_ok-group.ensures.taken (ap is_path front ∙ good.0) ∙ ap (λ (g : List ℕ). Some g) front in
    c.reference_of.ensures ∙ ap (λ (o : Option (List ℕ)). reference_of o c.guess_short.result) group ∙ ap (reference_of (Some r.group)) number
