-- Meters: a price is not worked out and then handed on, it is added to a sum so far, part by part from its left end on. So what
-- code does in turn is what a price says in turn, and nothing has to be known of sums but how one is added to. Where the larger
-- of two prices is asked for, what there was so far is put aside, with the largest that was found.
use Rattle.std.specs.Prelude.{◌≡◌, Result, Ok, Err}
use Rattle.mh_laws.specs.Price.{Price, Nothing, One, Node, Plus, Most}

-- over keys K a sum S, and a mark M for what is put aside
pub record Meter (K S M : Type 0) : Type 0 where
  pub one : S → S
  pub node : K → S → S
  -- the sum is put aside, and the first of several prices begins
  pub aside : S → M × S
  -- a price has come to this, and the next of them begins
  pub next : M × S → M × S
  -- the largest of them is added to what was put aside
  pub close : M × S → S

abbrev mutual
  -- the sum with the price added to it
  pub onto : {K S M : Type 0} → Meter K S M → Price K → S → S
  onto m Nothing s = s
  onto m One s = m.one s
  onto m (Node k) s = m.node k s
  onto m (Plus p q) s = onto m q (onto m p s)
  onto m (Most p q) s = m.close (raise m q (m.next ((m.aside s).0, onto m p (m.aside s).1)))

  -- what is left of the largest of several prices; where nothing is left, nothing begins
  pub raise : {K S M : Type 0} → Meter K S M → Price K → M × S → M × S
  raise m Nothing b = b
  raise m One b = (b.0, m.one b.1)
  raise m (Node k) b = (b.0, m.node k b.1)
  raise m (Plus p q) b = (b.0, onto m q (onto m p b.1))
  raise m (Most p q) b = raise m q (m.next (b.0, onto m p b.1))

-- where there is an answer, it is the sum with the price added to it
abbrev pub Adds : {K S M T E : Type 0} → (T → S) → Meter K S M → Price K → T → Result T E → Type 0
Adds seen m p s (Ok t) = seen t ≡ onto m p (seen s)
Adds seen m p s (Err e) = Unit {0}
