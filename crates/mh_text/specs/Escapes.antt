-- The octets of a quoted string, as the reader takes them: byte by byte, with how far an escape has come.
use Rattle.std.specs.Prelude.{ℕ, ◌+◌, ◌*◌, ◌==◌, if◌then◌else◌, List, [], ◌∷◌}
use Rattle.mh_text.specs.declared.octet_text.Escape.{Escape}
use Rattle.mh_text.specs.declared.octet_text.Escape.TheVariants as escape
use Rattle.mh_text.specs.Bytes.{hexadecimal_value}

abbrev pub unescaped : Escape → List ℕ → List ℕ
unescaped _ [] = []
unescaped escape.Outside (b ∷ bs) = if b == 61 then unescaped escape.Begun bs else b ∷ unescaped escape.Outside bs
unescaped escape.Begun (b ∷ bs) = unescaped (escape.Half (hexadecimal_value b)) bs
unescaped (escape.Half high) (b ∷ bs) = (high * 16 + hexadecimal_value b) ∷ unescaped escape.Outside bs
