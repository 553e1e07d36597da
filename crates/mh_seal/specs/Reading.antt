-- What a reader of seals answers: the seal that stands there, or why none does.
use Rattle.std.specs.Prelude.{◌≡◌, ◌^◌, ℕ, Bool, true, ◌&&◌, nat_lt, List, ◌++◌}
use Rattle.std.specs.List.{list_all}
use Rattle.mh_base.specs.Path.{is_path}
use Rattle.mh_seal.specs.declared.seal.Seal.{Seal}
use Rattle.mh_seal.specs.declared.seal.SealedBounds.{SealedBounds}
use Rattle.mh_seal.specs.declared.seal.SealedGroup.{SealedGroup}
use Rattle.mh_seal.specs.declared.seal_error.SealError.{SealError}
use Rattle.mh_seal.specs.declared.seal_error.SealError.TheVariants as error
use Rattle.mh_seal.specs.Breaking.{IsBreak}
use Rattle.mh_seal.specs.Lines.{is_plain}
use Rattle.mh_seal.specs.Octets.{is_digest}
use Rattle.mh_seal.specs.Text.{line, seal_text, version, version_word}

-- What every seal is

abbrev pub is_bound : ℕ → Bool
is_bound n = nat_lt n (2 ^ 64)

abbrev pub are_bounds : SealedBounds → Bool
are_bounds b =
    is_bound b.start && (is_bound b.key && (is_bound b.tick && (is_bound b.stream && (is_bound b.engine && is_bound b.arrive))))

abbrev pub is_named : Bool × List ℕ → Bool
is_named n = is_path n.1

abbrev pub is_group : SealedGroup → Bool
is_group g = is_path g.name && is_digest g.digest

abbrev pub is_seal : Seal → Bool
is_seal s =
    is_path s.start && (list_all is_group s.groups && (list_all is_path s.contents && (are_bounds s.bounds && is_digest s.tags)))

-- Answers

-- the first line names another version
abbrev pub IsOtherVersion : List ℕ → Type 0
IsOtherVersion bytes = (v rest : List ℕ) × (bytes ≡ line version_word v ++ rest) × (is_plain v ≡ true) × (v ≡ version → ⊥)

-- The bytes are the text of no seal. A seal of another version is told so; of other bytes the first line that no seal has behind
-- the lines before it.
abbrev pub IsRefusal : List ℕ → SealError → Type 0
IsRefusal bytes error.Version = IsOtherVersion bytes
IsRefusal bytes (error.Line n) = (IsOtherVersion bytes → ⊥) × IsBreak is_seal seal_text 1 bytes (error.Line n)
IsRefusal bytes error.NoMemory = Unit {0}

-- one text is that of one seal
abbrev pub SpellsOneSeal : Type 0
SpellsOneSeal = (s t : Seal) → is_seal s ≡ true → is_seal t ≡ true → seal_text s ≡ seal_text t → s ≡ t
