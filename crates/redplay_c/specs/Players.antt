-- What an engine of either kind does with a file and with a post.
use Rattle.std.specs.Prelude.{◌≡◌, ◌≢◌, ◌⊎◌, ℕ, MatchOption, Option, Some, None, Result, Ok, Err}
use Rattle.mh_engine.specs.Play.{with_more}
use Rattle.mh_engine.specs.Posts.{Posts, by_seal, whole}
use Rattle.mh_laws.specs.Budget.{bound_of}
use Rattle.mh_machine.specs.Refusal.{preset_refusal}
use Rattle.mh_machine.specs.declared.refusal.RefusedFile.{RefusedFile}
use Rattle.mh_machine.specs.declared.refusal.RefusedWhy.TheVariants as refused
use Rattle.mh_model.specs.declared.file.File.{File}
use Rattle.mh_model.specs.declared.input.Input.{Input}
use Rattle.mh_model.specs.Step.{preset}
use Rattle.mh_seal.specs.declared.seal.Seal.{Seal}
use Rattle.redplay_c.specs.Answers.{IsDone, no_memory, why_number}
use Rattle.redplay_c.specs.Playing.{Engined}

-- a file is there; or what stands in the way is told, or memory was refused, and nothing changes
abbrev pub IsPreset : File → Engined → Engined → Result (Unit {0}) RefusedFile → Type 0
IsPreset f p q (Ok u) =
    (preset_refusal f p.play.state ≡ None) × (q ≡ record p { play = record p.play { state = preset f p.play.state } })
IsPreset f p q (Err r) = (r.why ≢ refused.NoMemory → preset_refusal f p.play.state ≡ Some r.why) × (r.file ≡ f) × (q ≡ p)

-- the engine behind an input that it takes up
abbrev pub behind : Posts → Input → Engined → Engined
behind posts i p = record p {
  play = record p.play { state = posts.behind i p.play.state; budget = with_more p.play.budget (bound_of p.play.bounds i) };
}

-- the input is taken up, unless memory was refused; or the number says why it is not, and nothing changes
abbrev pub Takes : Posts → Input → Engined → Engined → ℕ → Type 0
Takes posts i p q n =
    MatchOption (posts.refusal i p.play.state) (IsDone n (q ≡ behind posts i p) (q ≡ p)) (λ why. (n ≡ why_number why) × (q ≡ p))

-- By a seal the file of a scene is looked at first, for which memory may be refused whatever stands in the way.
abbrev pub IsTakenBy : Option Seal → Input → Engined → Engined → ℕ → Type 0
IsTakenBy None i p q n = Takes whole i p q n
IsTakenBy (Some seal) i p q n = Takes (by_seal seal) i p q n ⊎ ((n ≡ no_memory) × (q ≡ p))

abbrev pub IsTaken : Input → Engined → Engined → ℕ → Type 0
IsTaken i p q n = IsTakenBy p.seal i p q n
