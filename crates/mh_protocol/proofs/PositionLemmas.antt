-- Places that are counted on from others.
use Rattle.std.specs.Prelude.{◌≡◌, ◌≢◌, ℕ, ◌+◌, ◌-◌, ◌*◌, ◌<◌, ◌≤◌, ◌==◌, Bool, if◌then◌else◌, List, [], ◌∷◌, drop, length, refl}
use Rattle.std.proofs.Common.{ap, inl, inr, ◌∙◌, sym, add-zero, arith, get_or}
use Rattle.std.proofs.lemmas.Bool.Decides.{eqb_tells}
use Rattle.std.proofs.lemmas.List.{at_drop_more}
use Rattle.mh_protocol.specs.declared.position.Unit.{Unit}
use Rattle.mh_protocol.specs.declared.position.Position.{Position}
use Rattle.mh_protocol.specs.Counting.{onto}
use Rattle.mh_protocol.specs.Positions.{at_first, behind_by, ends_line, further, line_start, position_in, units}

pub line_start_stops : (l : ℕ) (bs : List ℕ) → l ≡ 0 → line_start l bs ≡ 0
line_start_stops l [] none = refl
line_start_stops l (b ∷ bs) none = ap (λ n. line_start n (b ∷ bs)) none

pub position_stops : (e : Unit) (n : ℕ) (bs : List ℕ) → n ≡ 0 → position_in e n bs ≡ at_first
position_stops e n [] none = refl
position_stops e n (b ∷ bs) none = ap (λ n. position_in e n (b ∷ bs)) none

pub onto_first : (p : Position) → onto p at_first ≡ p
onto_first p = λ i. record { line = p.line; character = add-zero p.character i }

pub onto_next : (e : Unit) (p q : Position) (b : ℕ) (bs : List ℕ) → onto (behind_by e p b bs) q ≡ onto p (further (ends_line b bs) (units e b) q)
onto_next e p q b bs = grind arith

pub onto_stopped : (e : Unit) (p : Position) (n : ℕ) (bs : List ℕ) → n ≡ 0 → onto p (position_in e n bs) ≡ p
onto_stopped e p n bs none = ap (onto p) (position_stops e n bs none) ∙ onto_first p

pub position_more : (e : Unit) (n b : ℕ) (bs : List ℕ) → n ≢ 0 → position_in e n (b ∷ bs) ≡ further (ends_line b bs) (units e b) (position_in e (n - 1) bs)
position_more e n b bs some = elim (eqb_tells n 0) [
  | inl h ↦ absurd (some h.1)
  | inr h ↦ ap (λ (c : Bool). if c then at_first else further (ends_line b bs) (units e b) (position_in e (n - 1) bs)) h.0
]

pub walked : (e : Unit) (at now : Position) (n i b : ℕ) (text rest : List ℕ) → i < length text → b ≡ get_or text i 0 → n ≢ 0
    → now ≡ behind_by e at b rest → rest ≡ drop (i + 1) text
    → onto now (position_in e (n - 1) (drop (i + 1) text)) ≡ onto at (position_in e n (drop i text))
walked e at now n i b text rest inside is some next there =
    ap (λ p. onto p (position_in e (n - 1) (drop (i + 1) text))) (next ∙ ap (behind_by e at b) there)
    ∙ onto_next e at (position_in e (n - 1) (drop (i + 1) text)) b (drop (i + 1) text)
    ∙ ap (onto at) (sym (position_more e n b (drop (i + 1) text) some))
    ∙ ap (λ c. onto at (position_in e n (c ∷ drop (i + 1) text))) is
    ∙ sym (at_drop_more (λ bs. onto at (position_in e n bs)) text i 0 inside)

pub lines_rise : (e : Unit) (at now : Position) (b i : ℕ) (bs : List ℕ) → at.line ≤ i → now ≡ behind_by e at b bs → now.line ≤ i + 1
lines_rise e at now b i bs most next = grind (arith, most, next)

pub units_rise : (e : Unit) (at now : Position) (b i : ℕ) (bs : List ℕ) → at.character ≤ 2 * i → now ≡ behind_by e at b bs → now.character ≤ 2 * (i + 1)
units_rise e at now b i bs most next = grind (arith, most, next)
