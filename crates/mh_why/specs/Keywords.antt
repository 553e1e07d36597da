-- The first words of the lines that are explained.
use Rattle.std.specs.Prelude.{ℕ, List, [], ◌∷◌, codes, Option}
use Rattle.std.specs.List.{find}
use Rattle.std.specs.Str.{bytes_eq}
use Rattle.mh_why.specs.declared.explanation.keyword.Keyword.{Keyword}
use Rattle.mh_why.specs.declared.explanation.keyword.Keyword.TheVariants as keyword

abbrev pub keyword_word : Keyword → List ℕ
keyword_word keyword.Accepted = codes "accepted"
keyword_word keyword.Start = codes "start"
keyword_word keyword.Key = codes "key"
keyword_word keyword.Tick = codes "tick"
keyword_word keyword.Stream = codes "stream"
keyword_word keyword.Engine = codes "engine"
keyword_word keyword.Arrive = codes "arrive"
keyword_word keyword.Refused = codes "refused"
keyword_word keyword.Config = codes "config"
keyword_word keyword.Object = codes "object"
keyword_word keyword.By = codes "by"
keyword_word keyword.Cause = codes "cause"
keyword_word keyword.File = codes "file"
keyword_word keyword.Service = codes "service"
keyword_word keyword.Tags = codes "tags"
keyword_word keyword.Script = codes "script"
keyword_word keyword.Read = codes "read"
keyword_word keyword.Fault = codes "fault"

abbrev pub keywords : List Keyword
keywords =
    keyword.Accepted ∷ keyword.Start ∷ keyword.Key ∷ keyword.Tick ∷ keyword.Stream ∷ keyword.Engine ∷ keyword.Arrive ∷ keyword.Refused
    ∷ keyword.Config ∷ keyword.Object ∷ keyword.By ∷ keyword.Cause ∷ keyword.File ∷ keyword.Service ∷ keyword.Tags ∷ keyword.Script
    ∷ keyword.Read ∷ keyword.Fault ∷ []

abbrev pub keyword_of : List ℕ → Option Keyword
keyword_of word = find (λ k. bytes_eq (keyword_word k) word) keywords
