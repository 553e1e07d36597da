-- What the reading says of the groups that a text may spell.
use Rattle.std.proofs.Common.{◌≡◌, ◌≢◌, ℕ, List, Result, Ok, Err, IfErr, refl}
use Rattle.mh_base.proofs.ReadingLemmas.{one_answer}
use Rattle.mh_group.specs.declared.written.Written.{Written as Group}
use Rattle.mh_text.specs.declared.text_error.TextError.{TextError}
use Rattle.mh_text.specs.declared.text_error.TextError.TheVariants.{At, NoMemory}
use Rattle.mh_text.specs.Gives.{Fails, Gives}
use Rattle.mh_text.specs.Reading.{read}
use Rattle.mh_text.specs.Spelling.{SpellsNone, SpellsNoOther}
use Rattle.mh_text.proofs.OnlyGroups.{read_only}

pub none_spelled : (bytes : List ℕ) (e : TextError) → Fails e (read bytes) → e ≢ NoMemory → SpellsNone bytes
none_spelled bytes (At w o) fails other g fit spells = absurd (cc (read_only bytes g fit spells))
none_spelled bytes NoMemory fails other g fit spells = other refl

pub no_other_spelled : (bytes : List ℕ) (g : Group) → read bytes ≡ Ok g → SpellsNoOther bytes g
no_other_spelled bytes g e h fit spells = one_answer g h (read bytes) e (read_only bytes h fit spells)

-- what a reader may say of a text whose reading it gives
pub gives_none : (bytes : List ℕ) (result : Result Group TextError) → Gives (λ x. x) result (read bytes) → IfErr result (λ e. e ≢ NoMemory → SpellsNone bytes)
gives_none bytes (Ok g) gives = tt
gives_none bytes (Err e) gives = none_spelled bytes e gives
