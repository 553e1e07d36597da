use Rattle.std.specs.Prelude.{◌≡◌, ℕ, List, Option, MatchOption, MatchResult}
use Rattle.std.proofs.Common.{ap, subst, sym, ◌∙◌}
use Rattle.mh_text.specs.declared.token.Token.{Token}
use Rattle.mh_text.specs.Left.{Lexed, finished, lexed, token}
use Rattle.mh_why.specs.Values.{value_at, value_in}
use Rattle.mh_why.proofs.explanation.place.values.value_or_rest.Goals as goal

pub returns-in-Ok-Some : goal.returns-in-Ok-Some
returns-in-Ok-Some c further =
    let w = c.args.walk in
    let bs = c.args.bytes.now in
    let t = c.in-Ok-Some.token in
    let taken : lexed c.new.result ≡ token t.kind t.start t.text.now c.next.new.self =
    subst (λ (o : Option Token). MatchOption o ((lexed c.new.result ≡ finished) × (c.next.new.self ≡ c.new.result)) (λ (x : Token). lexed c.new.result ≡ token x.kind x.start x.text.now c.next.new.self)) c.in-Ok-Some.field-0-is c.in-Ok-Some.ensures in
    subst (λ (l : Lexed). MatchResult c.value_at.result (λ found. value_in further w bs l ≡ found.now) (λ left. value_in further w bs l ≡ further left.0 left.1.now))
    (sym (ap lexed (sym c.new.ensures) ∙ taken))
    (subst (λ (here : List ℕ). MatchResult c.value_at.result (λ found. value_at further w t.kind t.text.now here ≡ found.now) (λ left. value_at further w t.kind t.text.now here ≡ further left.0 left.1.now))
    c.bytes_from-here.ensures (c.value_at.ensures further))
