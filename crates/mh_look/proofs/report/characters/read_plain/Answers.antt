use Rattle.std.proofs.Common.{ℕ, ◌≡◌, ◌∙◌, sym, ap, subst, length, encode_utf8}
use Rattle.bstr.specs.Utf8.{Decoded}
use Rattle.mh_look.proofs.NumberLemmas.{some_number, same_number, found}
use Rattle.mh_look.proofs.CharacterLemmas.{decoded_size, decoded_front}
use Rattle.mh_look.proofs.report.characters.read_plain.Goals as goal

pub returns-in_err-character-clause-found : goal.returns-in_err-character-clause-found
returns-in_err-character-clause-found c x is rest e =
    let read = decoded_front x c.args.bytes.now rest is e in
    some_number c.decode-character.result.0 x c.in_err-character.was (c.decode-character.ensures.char ∙ ap (λ (d : Decoded). d.char) read)

pub returns-clause-found : goal.returns-clause-found
returns-clause-found c x is rest e =
    let read = decoded_front x c.args.bytes.now rest is e in
    subst (λ (k : ℕ). found k c.decode-character.result.1 ≡ found x (length (encode_utf8 x))) (sym c.from.ensures)
    (same_number c.decode-character.result.0 c.in_ok-character.field-0 x c.decode-character.result.1 (length (encode_utf8 x)) c.in_ok-character.was
    (c.decode-character.ensures.char ∙ ap (λ (d : Decoded). d.char) read)
    (c.decode-character.ensures.size ∙ ap (λ (d : Decoded). d.size) read))

pub returns-clause-within : goal.returns-clause-within
returns-clause-within c =
    let bounds = decoded_size c.args.bytes.now c.in_ok-character.field-0 (sym c.decode-character.ensures.char ∙ c.in_ok-character.was) in
    rw c.decode-character.ensures.size bounds.1

pub returns-clause-some : goal.returns-clause-some
returns-clause-some c =
    let bounds = decoded_size c.args.bytes.now c.in_ok-character.field-0 (sym c.decode-character.ensures.char ∙ c.in_ok-character.was) in
    rw c.decode-character.ensures.size bounds.0
