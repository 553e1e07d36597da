-- An integer of 32 bits is what its four octets write.
use Rattle.std.proofs.Common.{◌≡◌, ℕ, List, ◌++◌, OnOk, subst, refl}
use Rattle.mh_der.specs.Element.{element}
use Rattle.mh_der.specs.Integer.{shortest}
use Rattle.mh_der.specs.Tags.{integer_tag}
use Rattle.mh_der.proofs.IntegerLaws.{octets_of_bytes}
use Rattle.mh_der.proofs.writing.write_int.Goals as goal

pub returns-clause-written : goal.returns-clause-written
returns-clause-written c =
    let P : List ℕ → Type 0 = λ octets. OnOk c.write_shortest.result (c.write_shortest.new.out.items ≡ c.args.out.now.items ++ element integer_tag octets) in
    subst P (octets_of_bytes c.args.value c.to_be_bytes.result (shortest c.to_be_bytes.result) c.ranges.value c.to_be_bytes.ensures refl) c.write_shortest.ensures.written
