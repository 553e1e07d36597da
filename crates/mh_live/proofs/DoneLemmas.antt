-- What was posted is done post by post.
use Rattle.std.specs.Prelude.{◌≡◌, ℕ, zero, suc, ◌+◌, ◌<◌, ◌≤◌, List, [], ◌∷◌, drop, slice_get, take, Option, Some, None, refl}
use Rattle.std.proofs.Common.{ap, sym, ◌∙◌, arith}
use Rattle.mh_model.specs.declared.input.Input.{Input}
use Rattle.mh_model.specs.declared.input.Obstacle.{Obstacle}
use Rattle.mh_model.specs.Step.{obstacle}
use Rattle.mh_live.specs.declared.post.Post.{Post}
use Rattle.mh_live.specs.Playing.{Playing, done_all, done_by, done_if, done_where}
use Rattle.mh_live.specs.Posts.{input_of}

-- What was posted at a place, and then what was posted behind it.

pub done_next : (ps : List Post) (n : ℕ) (l : Playing) → done_all (drop n ps) l ≡ done_all (drop (suc n) ps) (done_where (slice_get ps n) l)
done_next [] zero l = refl
done_next [] (suc n) l = refl
done_next (p ∷ ps) zero l = refl
done_next (p ∷ ps) (suc n) l = done_next ps n l

-- that of a place in front of another is that among those in front of it
get_front : (ps : List Post) (n m : ℕ) → n < m → slice_get (take m ps) n ≡ slice_get ps n
get_front ps n zero less = absurd (omega (arith, less))
get_front [] n (suc m) less = refl
get_front (p ∷ ps) zero (suc m) less = refl
get_front (p ∷ ps) (suc n) (suc m) less = get_front ps n m (omega (arith, less))

drop_front : (ps : List Post) (n m : ℕ) → m ≤ n → drop n (take m ps) ≡ []
drop_front ps zero zero over = refl
drop_front ps (suc n) zero over = refl
drop_front ps zero (suc m) over = absurd (omega (arith, over))
drop_front [] (suc n) (suc m) over = refl
drop_front (p ∷ ps) (suc n) (suc m) over = drop_front ps n m (omega (arith, over))

-- what is done changes nothing of what was posted

asked_by : (o : Option Obstacle) (i : Input) (p : Post) (l : Playing) → (done_by o i p l).asked ≡ l.asked
asked_by None i p l = refl
asked_by (Some o) i p l = refl

asked_if : (o : Option Input) (p : Post) (l : Playing) → (done_if o p l).asked ≡ l.asked
asked_if None p l = refl
asked_if (Some i) p l = asked_by (obstacle i l.play.state) i p l

asked_kept : (o : Option Post) (l : Playing) → (done_where o l).asked ≡ l.asked
asked_kept None l = refl
asked_kept (Some p) l = asked_if (input_of p l.play.state.service) p l

-- What is left to do of what was posted up to a place, from another on, is done in turn.

pub record IsDoneTo (place n : ℕ) (asked : List Post) (l end : Playing) : Type 0 where
  pub asks : l.asked ≡ asked
  pub leads : done_all (drop n (take place asked)) l ≡ end

pub next_done : (place n : ℕ) (asked : List Post) (l m end : Playing) → n < place → m ≡ done_where (slice_get l.asked n) l
    → IsDoneTo place n asked l end → IsDoneTo place (n + 1) asked m end
next_done place n asked l m end less is so_far =
    let next : n + 1 ≡ suc n = omega arith in
    let here : m ≡ done_where (slice_get (take place asked) n) l =
    is ∙ ap (λ (ps : List Post). done_where (slice_get ps n) l) so_far.asks
    ∙ ap (λ (o : Option Post). done_where o l) (sym (get_front asked n place less)) in record {
      asks = ap (λ (x : Playing). x.asked) is ∙ asked_kept (slice_get l.asked n) l ∙ so_far.asks;
      leads =
          (λ i. done_all (drop (next i) (take place asked)) (here i))
          ∙ sym (done_next (take place asked) n l) ∙ so_far.leads;
    }

pub all_done : (place n : ℕ) (asked : List Post) (l end : Playing) → place ≤ n → IsDoneTo place n asked l end → l ≡ end
all_done place n asked l end over so_far =
    ap (λ (ps : List Post). done_all ps l) (sym (drop_front asked n place over)) ∙ so_far.leads
