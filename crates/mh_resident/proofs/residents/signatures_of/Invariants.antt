use Rattle.std.proofs.Common.{◌≡◌, ◌++◌, map, drop}
use Rattle.mh_resident.proofs.residents.signatures_of.Given as goal

abbrev pub invariant-loop-program : goal.invariant-loop-program
invariant-loop-program g l =
    l.signatures.items ++ map g.P.Resident.signature_of (drop l.program-index l.programs) ≡ map g.P.Resident.signature_of l.programs
