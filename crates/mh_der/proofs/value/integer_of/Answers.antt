-- What an integer that was read, or was not, says of the octets.
use Rattle.std.proofs.Common.{◌≡◌, ℕ, List, Ok, sym, ap, ◌∙◌}
use Rattle.std.specs.Int.{from_be_bytes, cast_signed, w32}
use Rattle.std.proofs.lemmas.Int.{to_z-of_z}
use Rattle.mh_der.specs.declared.der_error.Why.TheVariants.{BadInteger}
use Rattle.mh_der.specs.Integer.{integer_octets}
use Rattle.mh_der.specs.Reading.{integer_of}
use Rattle.mh_der.proofs.IntegerLaws.{integer_found, integer_fits, integer_none, refused_octets, taken_octets}
use Rattle.mh_der.proofs.value.integer_of.Goals as goal

pub returns-then-is_refused-clause-only : goal.returns-then-is_refused-clause-only
returns-then-is_refused-clause-only c =
    integer_none c.args.octets.now BadInteger (refused_octets c.args.octets.now (sym c.is_refused.ensures ∙ c.if-is_refused.true))

pub returns-else-is_refused-clause-found : goal.returns-else-is_refused-clause-found
returns-else-is_refused-clause-found c =
    let octets = c.args.octets.now in
    let value = c.from_be_bytes.result in
    let same : value ≡ cast_signed w32 (from_be_bytes w32 c.extended.result) = c.from_be_bytes.ensures in
    let read : integer_of octets ≡ Ok value =
    taken_octets octets (sym c.is_refused.ensures ∙ c.if-is_refused.false)
    ∙ sym (ap Ok (same ∙ ap (λ (bs : List ℕ). cast_signed w32 (from_be_bytes w32 bs)) c.extended.ensures)) in
    let bytes = λ (k : ℕ). (c.type_inv.octets k).fits in
    integer_found octets value bytes read ∙ sym (ap integer_octets (to_z-of_z w32 value (integer_fits octets value bytes read)))
