use Rattle.std.proofs.Common.{ap, sym, ◌∙◌, List, ℕ}
use Rattle.std.specs.List.{find}
use Rattle.std.specs.Option.{option_copied}
use Rattle.std.specs.Str.{bytes_eq}
use Rattle.mh_resident.proofs.ComingLemmas.{comes_of}
use Rattle.mh_resident.proofs.residents.call_program.Goals as goal

pub returns-in-Some : goal.returns-in-Some
returns-in-Some g c =
    comes_of g.P.Resident.may_answer c.in-Some.program.now _ c.args.call.now c.outcome_of.result
    (sym (ap option_copied c.in-Some.is) ∙ c.program_named.ensures
    ∙ ap (λ (name : List ℕ). find (λ p. bytes_eq name (g.P.Resident.signature_of p).name) c.args.programs.now) c.as_slice.ensures) c.outcome_of.ensures
