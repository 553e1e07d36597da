-- What a command makes of a session whose engine moved so, and what it prints.
use Rattle.std.specs.Prelude.{◌≡◌, ℕ, ◌+◌, List, length, Option, refl}
use Rattle.std.proofs.Common.{ap, ◌∙◌, sym, subst}
use Rattle.mh_engine.specs.Posts.{posts_of}
use Rattle.mh_seal.specs.declared.seal.Seal.{Seal}
use Rattle.mh_machine.specs.declared.refusal.RefusedWhy.{RefusedWhy}
use Rattle.mh_model.specs.declared.input.Input.{Input}
use Rattle.mh_model.specs.Picture.{shown}
use Rattle.mh_model.specs.Planes.{Planes, blank}
use Rattle.mh_model.specs.State.{State}
use Rattle.mh_model.specs.Step.{advanced}
use Rattle.mh_script.specs.declared.script.Command.TheVariants as command
use Rattle.mh_told.specs.Frame.{frame_text}
use Rattle.mh_report.specs.Report.{Session, command_lines, opening, played, progress_since, why_line}

abbrev pub session : Option Seal → State → Planes → ℕ → Session
session k s f n = record { seal = k; state = s; frame = f; frames = n }

moved : (k l : Option Seal) (t u : State) (f g : Planes) (m n : ℕ) → l ≡ k → t ≡ u → f ≡ g → m ≡ n → session l t f m ≡ session k u g n
moved k l t u f g m n p q r e = λ i. session (p i) (q i) (r i) (e i)

-- a session that begins
pub opened_as : (k l : Option Seal) (s : State) (f : Planes) → l ≡ k → f ≡ blank → session l s f 0 ≡ opening k s
opened_as k l s f same black = moved k l s s f blank 0 0 same refl black refl

pub post_moved : (i : Input) (k l : Option Seal) (s t : State) (f : Planes) (n : ℕ) (old : Session) → session k s f n ≡ old → l ≡ k → t ≡ (posts_of k).behind i s
    → session l t f n ≡ played (command.Post i) old
post_moved i k l s t f n old seen same did =
    subst (λ (o : Session). session l t f n ≡ played (command.Post i) o) seen (moved k l t ((posts_of k).behind i s) f f n n same did refl refl)

pub post_told : (i : Input) (k : Option Seal) (s : State) (f : Planes) (n : ℕ) (old : Session) (why : Option RefusedWhy) (text : List ℕ) → session k s f n ≡ old
    → why ≡ (posts_of k).refusal i s → text ≡ why_line why → text ≡ command_lines (command.Post i) old
post_told i k s f n old why text seen told line =
    subst (λ (o : Session). text ≡ command_lines (command.Post i) o) seen (line ∙ ap why_line told)

pub advance_moved : (m : ℕ) (k l : Option Seal) (s t : State) (f : Planes) (n : ℕ) (old : Session) → session k s f n ≡ old → l ≡ k → t ≡ advanced m s
    → session l t f n ≡ played (command.Step m) old
advance_moved m k l s t f n old seen same did =
    subst (λ (o : Session). session l t f n ≡ played (command.Step m) o) seen (moved k l t (advanced m s) f f n n same did refl refl)

pub advance_told : (m : ℕ) (k : Option Seal) (s t : State) (f : Planes) (n : ℕ) (old : Session) (steps faults : ℕ) (text : List ℕ) → session k s f n ≡ old
    → steps ≡ s.taken → faults ≡ length s.faults → t ≡ advanced m s → text ≡ progress_since steps faults t → text ≡ command_lines (command.Step m) old
advance_told m k s t f n old steps faults text seen taken met did line =
    subst (λ (o : Session). text ≡ command_lines (command.Step m) o) seen
    (line ∙ (λ i. progress_since (taken i) (met i) (did i)))

pub show_moved : (k l : Option Seal) (s t : State) (f g : Planes) (n : ℕ) (old : Session) → session k s f n ≡ old → l ≡ k → t ≡ s → g ≡ shown s
    → session l t g (n + 1) ≡ played command.Show old
show_moved k l s t f g n old seen same kept frame =
    subst (λ (o : Session). session l t g (n + 1) ≡ played command.Show o) seen (moved k l t s g (shown s) (n + 1) (n + 1) same kept frame refl)

pub show_told : (k : Option Seal) (s : State) (f : Planes) (n : ℕ) (old : Session) (text : List ℕ) → session k s f n ≡ old → text ≡ frame_text (n + 1) f (shown s)
    → text ≡ command_lines command.Show old
show_told k s f n old text seen line = subst (λ (o : Session). text ≡ command_lines command.Show o) seen line
