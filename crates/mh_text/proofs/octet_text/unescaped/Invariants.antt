use Rattle.std.proofs.Common.{◌≡◌, ◌++◌, ◌<◌, ℕ, drop}
use Rattle.mh_text.specs.declared.octet_text.Escape.TheVariants.{Outside, Half}
use Rattle.mh_text.specs.Escapes.{unescaped}
use Rattle.mh_text.proofs.octet_text.unescaped.Given as goal

abbrev pub invariant-loop-byte : goal.invariant-loop-byte
invariant-loop-byte l = record {
  rest : l.octets.items ++ unescaped l.escape (drop l.byte-index l.inner) ≡ unescaped Outside l.inner;
  half : (high : ℕ) → l.escape ≡ Half high → high < 16;
}
