-- What a call does with the session of a handle.
use Rattle.std.specs.Prelude.{◌≡◌, ℕ, Option, Some, None}
use Rattle.mh_crossing.specs.Answers.{no_session}

-- the handle has a session before and behind the call, of which P says what is made and answered; or it has none, and the
-- number of that is answered
abbrev pub OnSession : {S : Type 0} → (S → S → ℕ → Type 0) → Option S → Option S → ℕ → Type 0
OnSession P (Some s) (Some t) n = P s t n
OnSession P None None n = n ≡ no_session
OnSession P (Some s) None n = ⊥
OnSession P None (Some t) n = ⊥
