use Rattle.std.specs.Prelude.{◌≡◌, ℕ, List, Option, MatchOption, MatchResult}
use Rattle.std.proofs.Common.{ap, subst, sym, ◌∙◌}
use Rattle.mh_text.specs.declared.token.Token.{Token}
use Rattle.mh_text.specs.Left.{Lexed, finished, lexed, token}
use Rattle.mh_why.specs.Meant.{mention_in, mentioned}
use Rattle.mh_why.proofs.explanation.meant.mention_or_rest.Goals as goal

pub returns-in-Ok-Some : goal.returns-in-Ok-Some
returns-in-Ok-Some c further =
    let n = c.args.number.now in
    let d = c.args.depth in
    let bs = c.args.bytes.now in
    let t = c.in-Ok-Some.token in
    let taken : lexed c.new.result ≡ token t.kind t.start t.text.now c.next.new.self =
    subst (λ (o : Option Token). MatchOption o ((lexed c.new.result ≡ finished) × (c.next.new.self ≡ c.new.result)) (λ (x : Token). lexed c.new.result ≡ token x.kind x.start x.text.now c.next.new.self)) c.in-Ok-Some.field-0-is c.in-Ok-Some.ensures in
    subst (λ (l : Lexed). MatchResult c.mentioned.result (λ found. mention_in further n d bs l ≡ found.now) (λ left. mention_in further n d bs l ≡ further left.0 left.1.now))
    (sym (ap lexed (sym c.new.ensures) ∙ taken))
    (subst (λ (here : List ℕ). MatchResult c.mentioned.result (λ found. mentioned further n d t.kind t.text.now here ≡ found.now) (λ left. mentioned further n d t.kind t.text.now here ≡ further left.0 left.1.now))
    c.bytes_from-here.ensures (c.mentioned.ensures further))
