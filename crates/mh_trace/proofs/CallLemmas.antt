-- What is in the way of what a machine refused, want of memory aside.
use Rattle.std.specs.Prelude.{◌≡◌, true, Option, Some, None, Result, Ok, Err, IfOk, OnOk, MatchOption, refl}
use Rattle.std.specs.Option.{is_some, option_map}
use Rattle.std.proofs.Common.{ap, ◌∙◌, subst, sym}
use Rattle.mh_model.specs.declared.file.File.{File}
use Rattle.mh_model.specs.declared.input.Input.{Input}
use Rattle.mh_model.specs.declared.input.Obstacle.{Obstacle}
use Rattle.mh_model.specs.declared.input.Obstacle.TheVariants as obstacle
use Rattle.mh_model.specs.State.{State}
use Rattle.mh_model.specs.Step.{obstacle as obstacle_to, posted, posted_by, preset, preset_obstacle}
use Rattle.mh_machine.specs.declared.refusal.RefusedWhy.{RefusedWhy}
use Rattle.mh_machine.specs.declared.refusal.RefusedWhy.TheVariants as refused
use Rattle.mh_machine.specs.Refusal.{obstacle_in, refusal_for}
use Rattle.mh_trace.specs.Trace.{preset_unless}

told_back : (o : Obstacle) → obstacle_in (refusal_for o) ≡ Some o
told_back obstacle.Ended = refl
told_back _ = refl

-- of a refusal that is not want of memory
told_one : (m : Option Obstacle) (why : RefusedWhy) (found : Option Obstacle) → MatchOption (option_map refusal_for m) (why ≡ refused.NoMemory) (λ w. why ≡ w) → found ≡ obstacle_in why → is_some found ≡ true → found ≡ m
told_one None why found none is one = absurd (by (is ∙ ap obstacle_in none) one)
  where
    by : found ≡ None → is_some found ≡ true → ⊥
    by e h = cc
told_one (Some o) why found some is one = is ∙ ap obstacle_in some ∙ told_back o

pub told_all : {E : Type 0} (m : Option Obstacle) (why : RefusedWhy) (r : Result (Option Obstacle) E) → MatchOption (option_map refusal_for m) (why ≡ refused.NoMemory) (λ w. why ≡ w) → IfOk r (λ found. found ≡ obstacle_in why) → IfOk r (λ found. is_some found ≡ true) → IfOk r (λ found. found ≡ m)
told_all {E} m why (Ok found) some is one = told_one m why found some is one
told_all {E} m why (Err x) some is one = tt

-- where nothing is in the way of a copy, the file is there
pub preset_free : (f g : File) (s t : State) → g ≡ f → preset_obstacle g s ≡ None → t ≡ preset g s → t ≡ preset_unless (preset_obstacle f s) f s
preset_free f g s t same free put =
    let none : preset_obstacle f s ≡ None = subst (λ (x : File). preset_obstacle x s ≡ None) same free in
    put ∙ ap (λ (x : File). preset x s) same ∙ sym (ap (λ (m : Option Obstacle). preset_unless m f s) none)

-- what is in the way of a file leaves the machine as it was
some_left : (m : Option Obstacle) (f : File) (s : State) → is_some m ≡ true → s ≡ preset_unless m f s
some_left None f s one = absurd cc
some_left (Some o) f s one = refl

pub preset_left : {E : Type 0} (m : Option Obstacle) (f : File) (s t : State) (why : RefusedWhy) (r : Result (Option Obstacle) E) → t ≡ s → MatchOption (option_map refusal_for m) (why ≡ refused.NoMemory) (λ w. why ≡ w) → IfOk r (λ found. found ≡ obstacle_in why) → IfOk r (λ found. is_some found ≡ true) → OnOk r (t ≡ preset_unless m f s)
preset_left {E} m f s t why (Ok found) kept some is one = kept ∙ some_left m f s (ap is_some (sym (told_one m why found some is one)) ∙ one)
preset_left {E} m f s t why (Err x) kept some is one = tt

-- and so does what is in the way of an input
none_posted : (m : Option Obstacle) (i : Input) (s : State) → is_some m ≡ true → s ≡ posted_by m i s
none_posted None i s one = absurd cc
none_posted (Some o) i s one = refl

pub posted_left : {E : Type 0} (i : Input) (s t : State) (why : RefusedWhy) (r : Result (Option Obstacle) E) → t ≡ s → MatchOption (option_map refusal_for (obstacle_to i s)) (why ≡ refused.NoMemory) (λ w. why ≡ w) → IfOk r (λ found. found ≡ obstacle_in why) → IfOk r (λ found. is_some found ≡ true) → OnOk r (t ≡ posted i s)
posted_left {E} i s t why (Ok found) kept some is one = kept ∙ none_posted (obstacle_to i s) i s (ap is_some (sym (told_one (obstacle_to i s) why found some is one)) ∙ one)
posted_left {E} i s t why (Err x) kept some is one = tt
