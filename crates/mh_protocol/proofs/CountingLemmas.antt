-- A place that is counted from another is the one that is counted from the beginning.
use Rattle.std.specs.Prelude.{◌≡◌, ◌≢◌, ℕ, suc, zero, ◌+◌, ◌-◌, ◌≤◌, ◌==◌, Bool, true, false, if◌then◌else◌, List, [], ◌∷◌, drop, refl}
use Rattle.std.proofs.Common.{ap, ◌∙◌, sym, arith}
use Rattle.mh_protocol.specs.declared.position.Unit.{Unit}
use Rattle.mh_protocol.specs.declared.position.Position.{Position}
use Rattle.mh_protocol.specs.Counting.{onto}
use Rattle.mh_protocol.specs.Positions.{at_first, ends_line, further, position_in, units}
use Rattle.mh_protocol.proofs.PositionLemmas.{position_more, position_stops}

onto_beginning : (q : Position) → onto at_first q ≡ q
onto_beginning q = grind arith

onto_further : (ends : Bool) (n : ℕ) (p q : Position) → onto (further ends n p) q ≡ further ends n (onto p q)
onto_further true n p q = grind arith
onto_further false n p q = grind arith

position_next : (e : Unit) (n b : ℕ) (bs : List ℕ) → position_in e (suc n) (b ∷ bs) ≡ further (ends_line b bs) (units e b) (position_in e n bs)
position_next e n b bs =
    position_more e (suc n) b bs (omega arith)
    ∙ ap (λ k. further (ends_line b bs) (units e b) (position_in e k bs)) (omega arith)

counted_on : (e : Unit) (n m : ℕ) (bs : List ℕ) → onto (position_in e n bs) (position_in e m (drop n bs)) ≡ position_in e (n + m) bs
counted_on e zero m bs =
    ap (λ p. onto p (position_in e m bs)) (position_stops e 0 bs refl) ∙ onto_beginning (position_in e m bs)
    ∙ ap (λ k. position_in e k bs) (omega arith)
counted_on e (suc n) m [] = refl
counted_on e (suc n) m (b ∷ bs) =
    ap (λ p. onto p (position_in e m (drop n bs))) (position_next e n b bs)
    ∙ onto_further (ends_line b bs) (units e b) (position_in e n bs) (position_in e m (drop n bs))
    ∙ ap (further (ends_line b bs) (units e b)) (counted_on e n m bs)
    ∙ sym (position_next e (n + m) b bs)
    ∙ ap (λ k. position_in e k (b ∷ bs)) (omega arith)

-- the place behind so many bytes, counted from one that is known
pub joined : (e : Unit) (n m : ℕ) (bs : List ℕ) (p : Position) → n ≤ m → p ≡ position_in e n bs
    → onto p (position_in e (m - n) (drop n bs)) ≡ position_in e m bs
joined e n m bs p before there =
    ap (λ q. onto q (position_in e (m - n) (drop n bs))) there ∙ counted_on e n (m - n) bs
    ∙ ap (λ k. position_in e k bs) (omega (arith, before))
