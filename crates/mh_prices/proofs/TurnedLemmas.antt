-- Sums over what passes a test, gone through from the last on: one more is added at the end.
use Rattle.std.specs.Prelude.{◌≡◌, Bool, true, false, cond, List, [], ◌∷◌, ◌++◌, filter, map, refl}
use Rattle.mh_laws.specs.Price.{Price, sum_price}
use Rattle.mh_prices.specs.Meter.{Meter, onto}

pub turned_more : {K S M X Y : Type 0} (m : Meter K S M) (f : X → Price K) (is : X → Bool) (h : Y → X) (ys : List Y) (y : Y) (s : S) → onto m (sum_price f (filter is (map h (ys ++ y ∷ [])))) s ≡ onto m (sum_price f (filter is (h y ∷ []))) (onto m (sum_price f (filter is (map h ys))) s)
turned_more m f is h [] y s = refl
turned_more {K} {S} {M} {X} {Y} m f is h (x ∷ ys) y s = by (is (h x)) (turned_more m f is h ys y)
  where
    by : (b : Bool) → ((t : S) → onto m (sum_price f (filter is (map h (ys ++ y ∷ [])))) t ≡ onto m (sum_price f (filter is (h y ∷ []))) (onto m (sum_price f (filter is (map h ys))) t)) → onto m (sum_price f (cond b (h x ∷ filter is (map h (ys ++ y ∷ []))) (filter is (map h (ys ++ y ∷ []))))) s ≡ onto m (sum_price f (filter is (h y ∷ []))) (onto m (sum_price f (cond b (h x ∷ filter is (map h ys)) (filter is (map h ys)))) s)
    by true e = e (onto m (f (h x)) s)
    by false e = e s
