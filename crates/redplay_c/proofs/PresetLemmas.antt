-- Content files that are put there one after the other, up to the first that is refused.
use Rattle.std.specs.Prelude.{◌≡◌, ℕ, ◌+◌, ◌<◌, List, [], ◌∷◌, length, drop, Option, Some, None, Result, Ok, Err, refl}
use Rattle.std.specs.Option.{option_map_or}
use Rattle.std.proofs.Common.{ap, ◌∙◌, sym, subst, add-one, get_or, drop-cons}
use Rattle.mh_machine.specs.Refusal.{preset_refusal}
use Rattle.mh_machine.specs.declared.refusal.RefusedWhy.{RefusedWhy}
use Rattle.mh_machine.specs.declared.refusal.RefusedWhy.TheVariants as refused
use Rattle.mh_model.specs.State.{State}
use Rattle.mh_model.specs.Step.{preset}
use Rattle.mh_model.specs.declared.file.File.{File}
use Rattle.redplay_c.specs.Starts.{IsRefusedFor, Refuses, presets}

split : (fs : List File) (i : ℕ) (d : File) → i < length fs → drop i fs ≡ get_or fs i d ∷ drop (i + 1) fs
split fs i d inside = drop-cons fs i d inside ∙ ap (λ (n : ℕ). get_or fs i d ∷ drop n fs) (sym (add-one i))

-- one more is there
pub set_more : (fs : List File) (i : ℕ) (d : File) (s t : State) (whole : Result State RefusedWhy) → i < length fs → preset_refusal (get_or fs i d) s ≡ None → t ≡ preset (get_or fs i d) s → presets (drop i fs) s ≡ whole
    → presets (drop (i + 1) fs) t ≡ whole
set_more fs i d s t whole inside free is so =
    ap (λ (x : State). presets (drop (i + 1) fs) x) is
    ∙ sym (ap (λ (o : Option RefusedWhy). option_map_or (λ why. Err why) o (presets (drop (i + 1) fs) (preset (get_or fs i d) s))) free)
    ∙ sym (ap (λ (l : List File). presets l s) (split fs i d inside)) ∙ so

-- one is refused
pub refused_here : (fs : List File) (i : ℕ) (d : File) (s : State) (why : RefusedWhy) (whole : Result State RefusedWhy) → i < length fs → IsRefusedFor why (preset_refusal (get_or fs i d) s) → presets (drop i fs) s ≡ whole → Refuses why whole
refused_here fs i d s why whole inside told so = λ other.
    sym so ∙ ap (λ (l : List File). presets l s) (split fs i d inside)
    ∙ ap (λ (o : Option RefusedWhy). option_map_or (λ w. Err w) o (presets (drop (i + 1) fs) (preset (get_or fs i d) s))) (told other)
