-- What loops add to a sum is what their lists come to, and what is added by numbers is added by names.
use Rattle.std.specs.Prelude.{◌≡◌, ◌&&◌, ◌<◌, ◌+◌, ◌-◌, ℕ, zero, suc, Bool, true, false, cond, if◌then◌else◌, filter, drop, List, [], ◌∷◌, ◌++◌, get_or, length, Option, Some, None, Result, Ok, Err, refl}
use Rattle.std.specs.List.{flat_map, range_with_len}
use Rattle.std.specs.Map.{lookup}
use Rattle.std.specs.Option.{option_map, option_map_or}
use Rattle.std.proofs.Common.{arith, ap, ◌∙◌, sym}
use Rattle.std.proofs.lemmas.List.{drop_more}
use Rattle.std.proofs.lemmas.List.Elements.{filter-append}
use Rattle.mh_base.specs.declared.obj_ref.ObjRef.{ObjRef}
use Rattle.mh_base.specs.declared.value.Value.{Value}
use Rattle.mh_base.specs.declared.event.EventType.{EventType}
use Rattle.mh_base.specs.Event.{is_sync}
use Rattle.mh_model.specs.declared.config.Config.{Config}
use Rattle.mh_model.specs.declared.object.Fixed.{Fixed}
use Rattle.mh_model.specs.Configuration.{present, scene_parts}
use Rattle.mh_model.specs.Service.{Service, group_parts, is_there}
use Rattle.mh_model.specs.Reference.{same_ref}
use Rattle.mh_model.proofs.ListLemmas.{some_same}
use Rattle.mh_flow.specs.Index.{Home, indexed, is_entered}
use Rattle.mh_flow.proofs.IndexLemmas.{part_entered}
use Rattle.mh_laws.specs.Price.{Price, Nothing, One, Node, Plus, Most, sum_price, most_price, if_price}
use Rattle.mh_laws.specs.Ways.{Told}
use Rattle.mh_prices.specs.Meter.{Adds, Meter, onto, raise}
use Rattle.mh_layers.specs.declared.numbered_node.Hears.{Hears}
use Rattle.mh_layers.specs.declared.numbered_node.NumberedNode.{NumberedNode}
use Rattle.mh_layers.specs.CostNode.{CostNode, Entry, Hearing, Plain, With, Any}
use Rattle.mh_layers.specs.CostNodes.{data_of, fired_at, fired_if_there, heard_with, hearing, links_with, values, waits_for}
use Rattle.mh_layers.specs.Listening.{link_node}
use Rattle.mh_layers.specs.Numbered.{numbered, through}
use Rattle.mh_layers.specs.Reading.{IsReading, Reading, CostContext, dealt_by, fired_by, heard_read, hears_among, hears_number, hears_told, number, context_in, there_by}

-- one sum for another
pub adds_as : {K L S M N T E : Type 0} (seen : T → S) (m : Meter K S M) (n : Meter L S N) (p : Price K) (q : Price L) (s t : T) (r : Result T E) → onto m p (seen t) ≡ onto n q (seen s) → Adds seen m p t r → Adds seen n q s r
adds_as seen m n p q s t (Ok x) e h = h ∙ e
adds_as seen m n p q s t (Err x) e h = tt

-- Lists one behind the other, and what passes a test

pub onto_joined : {K S M X : Type 0} (m : Meter K S M) (f : X → Price K) (xs ys : List X) (s : S) → onto m (sum_price f (xs ++ ys)) s ≡ onto m (sum_price f ys) (onto m (sum_price f xs) s)
onto_joined m f [] ys s = refl
onto_joined m f (x ∷ xs) ys s = onto_joined m f xs ys (onto m (f x) s)

pub raise_joined : {K S M X : Type 0} (m : Meter K S M) (f : X → Price K) (xs ys : List X) (b : M × S) → raise m (most_price f (xs ++ ys)) b ≡ raise m (most_price f ys) (raise m (most_price f xs) b)
raise_joined m f [] ys b = refl
raise_joined m f (x ∷ xs) ys b = raise_joined m f xs ys (m.next (b.0, onto m (f x) b.1))

-- a loop has come to a list of several that stand one behind the other
pub one_list : {K S M X Y : Type 0} (m : Meter K S M) (f : Y → Price K) (h : X → List Y) (xs : List X) (n : ℕ) (x : X) (b c d : M × S)
    → n < length xs → x ≡ get_or xs n x → c ≡ raise m (most_price f (h x)) b → raise m (most_price f (flat_map h (drop n xs))) b ≡ d
    → raise m (most_price f (flat_map h (drop (n + 1) xs))) c ≡ d
one_list {K} {S} {M} {X} m f h xs n x b c d less is came before =
    ap (raise m (most_price f (flat_map h (drop (n + 1) xs)))) came
    ∙ sym (raise_joined m f (h x) (flat_map h (drop (n + 1) xs)) b)
    ∙ ap (λ (y : X). raise m (most_price f (h y ++ flat_map h (drop (n + 1) xs))) b) is
    ∙ ap (λ (ys : List X). raise m (most_price f (flat_map h ys)) b) (sym (drop_more xs n x less))
    ∙ before

onto_filtered : {K S M X : Type 0} (m : Meter K S M) (t : X → Bool) (f : X → Price K) (xs : List X) (s : S) → onto m (sum_price (λ x. if_price (t x) (f x)) xs) s ≡ onto m (sum_price f (filter t xs)) s
onto_filtered m t f [] s = refl
onto_filtered {K} {S} {M} {X} m t f (x ∷ xs) s = by (t x) (onto_filtered m t f xs)
  where
    by : (b : Bool) → ((z : S) → onto m (sum_price (λ y. if_price (t y) (f y)) xs) z ≡ onto m (sum_price f (filter t xs)) z)
        → onto m (sum_price (λ y. if_price (t y) (f y)) xs) (onto m (if_price b (f x)) s) ≡ onto m (sum_price f (cond b (x ∷ filter t xs) (filter t xs))) s
    by true behind = behind (onto m (f x) s)
    by false behind = behind s

-- the links of the application that wait, and then those of the scene
pub links_come : {S M T E : Type 0} (seen : T → S) (m : Meter CostNode S M) (v : Service) (c : Config) (o : ObjRef) (kind : EventType) (is : Option Value → Bool) (ps qs : List Fixed) (s t : T) (r : Result T E)
    → ps ≡ filter (λ p. waits_for o kind p && is (data_of p)) (group_parts v c.app)
    → qs ≡ filter (λ p. waits_for o kind p && is (data_of p)) (scene_parts v c.scene)
    → seen t ≡ onto m (sum_price (link_node c) ps) (seen s)
    → Adds seen m (sum_price (link_node c) qs) t r → Adds seen m (links_with v c o kind is) s r
links_come {S} seen m v c o kind is ps qs s t r first second before h = adds_as seen m m (sum_price (link_node c) qs) (links_with v c o kind is) s t r same h
  where
    waits : Fixed → Bool
    waits p = waits_for o kind p && is (data_of p)

    same : onto m (sum_price (link_node c) qs) (seen t) ≡ onto m (links_with v c o kind is) (seen s)
    same =
        (λ i. onto m (sum_price (link_node c) (second i)) (before i))
        ∙ ap (λ (xs : List Fixed). onto m (sum_price (link_node c) (filter waits (scene_parts v c.scene))) (onto m (sum_price (link_node c) xs) (seen s))) first
        ∙ sym (onto_joined m (link_node c) (filter waits (group_parts v c.app)) (filter waits (scene_parts v c.scene)) (seen s))
        ∙ ap (λ (xs : List Fixed). onto m (sum_price (link_node c) xs) (seen s)) (sym (filter-append waits (group_parts v c.app) (scene_parts v c.scene)))
        ∙ sym (onto_filtered m waits (link_node c) (group_parts v c.app ++ scene_parts v c.scene) (seen s))

-- Sets and numbers

one_less : (n : ℕ) → n ≡ suc n - 1
one_less n = omega arith

pub next_number : {K S M : Type 0} (m : Meter K S M) (f : ℕ → Price K) (first n : ℕ) (b : M × S) → 0 < n
    → raise m (most_price f (range_with_len first n)) b ≡ raise m (most_price f (range_with_len (first + 1) (n - 1))) (m.next (b.0, onto m (f first) b.1))
next_number m f first zero b less = absurd (omega (arith, less))
next_number m f first (suc n) b less = ap (λ (k : ℕ). raise m (most_price f (range_with_len (first + 1) k)) (m.next (b.0, onto m (f first) b.1))) (one_less n)

-- the largest of several begins
pub most_begun : {K S M : Type 0} (m : Meter K S M) (f : ℕ → Price K) (first n : ℕ) (s : S) → 0 < n
    → m.close (raise m (most_price f (range_with_len first n)) (m.aside s)) ≡ onto m (most_price f (range_with_len first n)) s
most_begun m f first zero s less = absurd (omega (arith, less))
most_begun m f first (suc n) s less = refl

-- NUMBERS AND NAMES

record ThroughOf {K L S M : Type 0} (g : K → L) (m : Meter L S M) (p : Price K) : Type 0 where
  sum : (s : S) → onto (through g m) p s ≡ onto m (numbered g p) s
  largest : (b : M × S) → raise (through g m) p b ≡ raise m (numbered g p) b

through_of : {K L S M : Type 0} (g : K → L) (m : Meter L S M) (p : Price K) → ThroughOf g m p
through_of g m Nothing = record { sum = λ s. refl; largest = λ b. refl }
through_of g m One = record { sum = λ s. refl; largest = λ b. refl }
through_of g m (Node k) = record { sum = λ s. refl; largest = λ b. refl }
through_of {K} {L} {S} {M} g m (Plus p q) = plus (through_of g m p) (through_of g m q)
  where
    plus : ThroughOf g m p → ThroughOf g m q → ThroughOf g m (Plus p q)
    plus h k =
        let sums : ((s : S) → onto (through g m) (Plus p q) s ≡ onto m (numbered g (Plus p q)) s) =
        λ s. k.sum (onto (through g m) p s) ∙ ap (onto m (numbered g q)) (h.sum s) in
        record { sum = sums; largest = λ b i. (b.0, sums b.1 i) }
through_of {K} {L} {S} {M} g m (Most p q) = most (through_of g m p) (through_of g m q)
  where
    most : ThroughOf g m p → ThroughOf g m q → ThroughOf g m (Most p q)
    most h k =
        let all : ((b : M × S) → raise (through g m) (Most p q) b ≡ raise m (numbered g (Most p q)) b) =
        λ b. k.largest (m.next (b.0, onto (through g m) p b.1)) ∙ ap (λ (x : S). raise m (numbered g q) (m.next (b.0, x))) (h.sum b.1) in
        record { sum = λ s. ap m.close (all (m.aside s)); largest = all }

pub through_onto : {K L S M : Type 0} (g : K → L) (m : Meter L S M) (p : Price K) (s : S) → onto (through g m) p s ≡ onto m (numbered g p) s
through_onto g m p s = (through_of g m p).sum s

-- what is added by numbers is added by names
by_name : {K L S M T E : Type 0} (seen : T → S) (g : K → L) (m : Meter L S M) (p : Price L) (q : Price K) (s : T) (r : Result T E) → p ≡ numbered g q → Adds seen m p s r → Adds seen (through g m) q s r
by_name {K} {L} seen g m p q s r same h =
    adds_as seen m (through g m) p q s s r (ap (λ (x : Price L). onto m x (seen s)) same ∙ sym (through_onto g m q (seen s))) h

-- Events

fired_numbered : (r : Reading) (c : Config) (o : ObjRef) (kind : EventType) (g : Hearing) → fired_by (context_in r c) o kind (hears_number r o kind g) ≡ numbered (number r) (fired_at c o kind g)
fired_numbered r c o kind Plain = refl
fired_numbered r c o kind (With x) = refl
fired_numbered r c o kind Any = refl

there_numbered : (r : Reading) (c : Config) (o : ObjRef) (kind : EventType) (g : Hearing) → there_by (context_in r c) o kind (hears_number r o kind g) ≡ numbered (number r) (fired_if_there r.service c o kind g)
there_numbered r c o kind g = by (is_there o (present r.service c))
  where
    by : (b : Bool) → if_price b (fired_by (context_in r c) o kind (hears_number r o kind g)) ≡ numbered (number r) (if_price b (fired_at c o kind g))
    by true = fired_numbered r c o kind g
    by false = refl

dealt_numbered : (r : Reading) (c : Config) (o : ObjRef) (kind : EventType) (g : Hearing)
    → dealt_by (context_in r c) o kind (hears_number r o kind g) ≡ numbered (number r) (if is_sync kind then fired_if_there r.service c o kind g else Node (Entry o kind g))
dealt_numbered r c o kind g = by (is_sync kind)
  where
    by : (b : Bool)
        → (if b then there_by (context_in r c) o kind (hears_number r o kind g) else Node (number r (Entry o kind g)))
        ≡ numbered (number r) (if b then fired_if_there r.service c o kind g else Node (Entry o kind g))
    by true = there_numbered r c o kind g
    by false = refl

pub heard_adds : {S M T E : Type 0} (seen : T → S) (m : Meter NumberedNode S M) (s : CostContext) (o : ObjRef) (kind : EventType) (d : Told) (g : Hears) (t : T) (r : Result T E)
    → hears_told s.reading o kind d ≡ Some g → Adds seen m (dealt_by s o kind g) t r
    → Adds seen (through (number s.reading) m) (heard_with s.reading.service s.config o kind d (heard_read s.reading o kind)) t r
heard_adds {S} {M} {T} {E} seen m s o kind d g t r told h = by (heard_read s.reading o kind) refl told
  where
    of : (xs : List Value) → heard_read s.reading o kind ≡ Some xs → hears_among xs (hearing xs d) ≡ g
        → dealt_by s o kind g ≡ numbered (number s.reading) (heard_with s.reading.service s.config o kind d (Some xs))
    of xs e is =
        ap (dealt_by s o kind) (sym is ∙ ap (λ (ys : List Value). hears_among ys (hearing xs d)) (sym (ap values e)))
        ∙ dealt_numbered s.reading s.config o kind (hearing xs d)

    by : (x : Option (List Value)) → heard_read s.reading o kind ≡ x → option_map (λ (xs : List Value). hears_among xs (hearing xs d)) x ≡ Some g
        → Adds seen (through (number s.reading) m) (heard_with s.reading.service s.config o kind d x) t r
    by None e is = absurd cc
    by (Some xs) e is =
        by_name seen (number s.reading) m (dealt_by s o kind g) (heard_with s.reading.service s.config o kind d (Some xs)) t r (of xs e (some_same is)) h

pub unheard_adds : {S M : Type 0} (m : Meter NumberedNode S M) (s : CostContext) (o : ObjRef) (kind : EventType) (d : Told) (x y : S)
    → hears_told s.reading o kind d ≡ None → y ≡ onto m (if is_sync kind then Nothing else One) x
    → y ≡ onto (through (number s.reading) m) (heard_with s.reading.service s.config o kind d (heard_read s.reading o kind)) x
unheard_adds {S} m s o kind d x y told is = is ∙ by (heard_read s.reading o kind) told
  where
    taken : (b : Bool) → onto m (if b then Nothing else One) x ≡ onto (through (number s.reading) m) (if b then Nothing else One) x
    taken true = refl
    taken false = refl

    by : (z : Option (List Value)) → option_map (λ (xs : List Value). hears_among xs (hearing xs d)) z ≡ None
        → onto m (if is_sync kind then Nothing else One) x ≡ onto (through (number s.reading) m) (heard_with s.reading.service s.config o kind d z) x
    by None e = taken (is_sync kind)
    by (Some xs) e = absurd cc

-- Entries

configs_numbered : (r : Reading) (o : ObjRef) (kind : EventType) (g : Hearing) (cs : List Config)
    → most_price (λ c. there_by (context_in r c) o kind (hears_number r o kind g)) cs ≡ numbered (number r) (most_price (λ c. fired_if_there r.service c o kind g) cs)
configs_numbered r o kind g [] = refl
configs_numbered r o kind g (c ∷ cs) = λ i. Most (there_numbered r c o kind g i) (configs_numbered r o kind g cs i)

pub entry_adds : {S M T E : Type 0} (seen : T → S) (m : Meter NumberedNode S M) (r : Reading) (o : ObjRef) (kind : EventType) (g : Hearing) (n : Hears) (cs : List Config) (s t : T) (x : Result T E)
    → n ≡ hears_number r o kind g → seen t ≡ m.one (seen s) → Adds seen m (most_price (λ c. there_by (context_in r c) o kind n) cs) t x
    → Adds seen (through (number r) m) (Plus One (most_price (λ c. fired_if_there r.service c o kind g) cs)) s x
entry_adds {S} {M} {T} {E} seen m r o kind g n cs s t x is one h =
    adds_as seen m (through (number r) m) (most_price (λ c. there_by (context_in r c) o kind n) cs) (Plus One (most_price (λ c. fired_if_there r.service c o kind g) cs)) s t x
    (ap (λ (y : Hears). onto m (most_price (λ c. there_by (context_in r c) o kind y) cs) (seen t)) is
    ∙ (λ i. onto m (configs_numbered r o kind g cs i) (one i))
    ∙ sym (through_onto (number r) m (most_price (λ c. fired_if_there r.service c o kind g) cs) (m.one (seen s)))) h

-- Where its group is not entered an object is not there, and an event of it sets nothing going

absent : (r : Reading) → IsReading r → (c : Config) (o : ObjRef) → is_entered c o.group ≡ false → is_there o (present r.service c) ≡ false
absent r read c o e =
    ap (λ (p : Option Fixed). option_map_or (λ q. true) p false)
    (sym (part_entered r.service c o read.flow.chart.named) ∙ ap (λ (b : Bool). option_map (λ (h : Home). h.part) (cond b (lookup (same_ref o) (indexed r.service)) None)) e)

pub absent_adds : {S M : Type 0} (m : Meter NumberedNode S M) (r : Reading) (c : Config) (o : ObjRef) (kind : EventType) (g : Hears) (s : S) (b : Bool) → IsReading r → b ≡ is_entered c o.group → b ≡ false → s ≡ onto m (there_by (context_in r c) o kind g) s
absent_adds m r c o kind g s b read entered none =
    sym (ap (λ (d : Bool). onto m (if_price d (fired_by (context_in r c) o kind g)) s) (absent r read c o (sym entered ∙ none)))
