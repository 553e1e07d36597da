-- A text that is laid out has the words and the comments that it had.
use Rattle.std.proofs.Common.{◌≡◌, ℕ, zero, suc, ◌+◌, ◌-◌, ◌≤◌, ◌⊎◌, inl, inr, Bool, true, false, cond, not, ◌==◌, if◌then◌else◌, List, [], ◌∷◌, ◌++◌, drop, length, take, None, refl, ap, ap₂, sym, ◌∙◌, subst, arith, append_assoc, length-append, length-drop, take-append-drop, le_refl}
use Rattle.std.specs.List.{prefix_len}
use Rattle.std.proofs.Math.Seq.{take-append_seam}
use Rattle.std.proofs.lemmas.Bool.Decides.{nat_tests}
use Rattle.std.proofs.lemmas.List.Sums.{prefix_len-le-length}
use Rattle.mh_base.specs.Limits.{largest_file}
use Rattle.mh_group.specs.declared.written.Written.{Written as Group}
use Rattle.mh_text.specs.Bytes.{is_space}
use Rattle.mh_text.specs.Spelling.{Spells}
use Rattle.mh_text.specs.Words.{IsLine, Written, AreWords}
use Rattle.mh_text.proofs.FoundLaw.{read_found}
use Rattle.mh_text.proofs.GapLemmas.{same_number}
use Rattle.mh_text.proofs.OnlyGroups.{read_only}
use Rattle.mh_edit.specs.declared.layout.Change.{Change}
use Rattle.mh_edit.specs.declared.word.Word.{Word}
use Rattle.mh_edit.specs.Layout.{applied, changes, changes_from, comments_in, depth_behind, is_blank, is_no_feed, laid, spaces, LaidKeepsComments, LaidReadsAsBefore}
use Rattle.mh_edit.specs.Words.{words}
use Rattle.mh_edit.proofs.CommentLemmas.{blank_passed, joined}
use Rattle.mh_edit.proofs.LineLemmas.{space_put, space_taken, words_cut, words_join}
use Rattle.mh_edit.proofs.WordLines.{line_rest}

one : (n : ℕ) → 1 + n ≡ suc n
one n = omega arith

-- BLANKS IN FRONT

blank_is_space : (b : ℕ) → is_blank b ≡ true → is_space b ≡ true
blank_is_space b is = grind (arith, nat_tests)

put_words : (n : ℕ) (l : List ℕ) (ws : List Written) → AreWords false l ws → AreWords false (spaces n ++ l) ws
put_words zero l ws is = is
put_words (suc n) l ws is = space_put 32 (spaces n ++ l) ws refl (put_words n l ws is)

put_comments : (n : ℕ) (l : List ℕ) → comments_in None (spaces n ++ l) ≡ comments_in None l
put_comments zero l = refl
put_comments (suc n) l = blank_passed 32 (spaces n ++ l) refl ∙ put_comments n l

put_line : (n : ℕ) (l : List ℕ) → IsLine l → IsLine (spaces n ++ l)
put_line zero l line = line
put_line (suc n) l line = put_line n l line

taken_by : (t : Bool) (b : ℕ) (l : List ℕ) (ws : List Written) → is_blank b ≡ t → AreWords false (b ∷ l) ws
    → (AreWords false l ws → AreWords false (drop (prefix_len is_blank l) l) ws) → AreWords false (drop (cond t (1 + prefix_len is_blank l) 0) (b ∷ l)) ws
taken_by true b l ws h is further =
    subst (λ (n : ℕ). AreWords false (drop n (b ∷ l)) ws) (sym (one (prefix_len is_blank l))) (further (space_taken b l ws (blank_is_space b h) is))
taken_by false b l ws h is further = is

taken_words : (l : List ℕ) (ws : List Written) → AreWords false l ws → AreWords false (drop (prefix_len is_blank l) l) ws
taken_words [] ws is = is
taken_words (b ∷ l) ws is = taken_by (is_blank b) b l ws refl is (taken_words l ws)

less_by : (t : Bool) (b : ℕ) (l : List ℕ) → is_blank b ≡ t → comments_in None (drop (prefix_len is_blank l) l) ≡ comments_in None l
    → comments_in None (drop (cond t (1 + prefix_len is_blank l) 0) (b ∷ l)) ≡ comments_in None (b ∷ l)
less_by true b l h further =
    ap (λ (n : ℕ). comments_in None (drop n (b ∷ l))) (one (prefix_len is_blank l)) ∙ further ∙ sym (blank_passed b l h)
less_by false b l h further = refl

taken_comments : (l : List ℕ) → comments_in None (drop (prefix_len is_blank l) l) ≡ comments_in None l
taken_comments [] = refl
taken_comments (b ∷ l) = less_by (is_blank b) b l refl (taken_comments l)

-- THE FIRST LINE

record IsFirst (bs : List ℕ) : Type 0 where
  pub line : List ℕ
  pub rest : List ℕ
  pub is_line : IsLine line
  pub size : prefix_len is_no_feed bs ≡ length line
  pub old : prefix_len is_blank bs ≡ prefix_len is_blank line
  pub shape : (bs ≡ line) ⊎ (bs ≡ line ++ 10 ∷ rest)

shape_more : (b : ℕ) (bs line rest : List ℕ) → (bs ≡ line) ⊎ (bs ≡ line ++ 10 ∷ rest) → (b ∷ bs ≡ b ∷ line) ⊎ (b ∷ bs ≡ (b ∷ line) ++ 10 ∷ rest)
shape_more b bs line rest (inl e) = inl (ap (λ (x : List ℕ). b ∷ x) e)
shape_more b bs line rest (inr e) = inr (ap (λ (x : List ℕ). b ∷ x) e)

feed_no_blank : (b : ℕ) → (b == 10) ≡ true → is_blank b ≡ false
feed_no_blank b is = grind (arith, nat_tests)

first_by : (t : Bool) (b : ℕ) (bs : List ℕ) → (b == 10) ≡ t → IsFirst bs → IsFirst (b ∷ bs)
first_by true b bs h f = record {
  line = [];
  rest = bs;
  is_line = refl;
  size = ap (λ (t : Bool). cond (not t) (1 + prefix_len is_no_feed bs) 0) h;
  old = ap (λ (t : Bool). cond t (1 + prefix_len is_blank bs) 0) (feed_no_blank b h);
  shape = inr (ap (λ (x : ℕ). x ∷ bs) (same_number b 10 h));
}
first_by false b bs h f = record {
  line = b ∷ f.line;
  rest = f.rest;
  is_line = rw h f.is_line;
  size = ap (λ (t : Bool). cond (not t) (1 + prefix_len is_no_feed bs) 0) h ∙ ap (λ (n : ℕ). 1 + n) f.size ∙ one (length f.line);
  old = ap (λ (n : ℕ). cond (is_blank b) (1 + n) 0) f.old;
  shape = shape_more b bs f.line f.rest f.shape;
}

first_of : (bs : List ℕ) → IsFirst bs
first_of [] = record { line = []; rest = []; is_line = refl; size = refl; old = refl; shape = inl refl }
first_of (b ∷ bs) = first_by (b == 10) b bs refl (first_of bs)

no_more : (bs : List ℕ) (n : ℕ) → length bs ≤ n → drop n bs ≡ []
no_more [] zero most = refl
no_more [] (suc n) most = refl
no_more (b ∷ bs) zero most = absurd (omega arith)
no_more (b ∷ bs) (suc n) most = no_more bs n (omega arith)

-- A CHANGE

abbrev change : ℕ → ℕ → ℕ → Change
change k o n = record { kept = k; old = o; new = n }

drop_past : (c bs : List ℕ) (n : ℕ) → drop (length c + n) (c ++ bs) ≡ drop n bs
drop_past [] bs n = let none : 0 + n ≡ n = omega arith in ap (λ (k : ℕ). drop k bs) none
drop_past (b ∷ c) bs n =
    let more : suc (length c) + n ≡ suc (length c + n) = omega arith in
    ap (λ (k : ℕ). drop k (b ∷ (c ++ bs))) more ∙ drop_past c bs n

drop_within : (n : ℕ) (l bs : List ℕ) → n ≤ length l → drop n (l ++ bs) ≡ drop n l ++ bs
drop_within zero l bs most = refl
drop_within (suc n) [] bs most = absurd (omega arith)
drop_within (suc n) (b ∷ l) bs most = drop_within n l bs (omega arith)

changed : (c bs : List ℕ) (old new : ℕ) (cs : List Change) → applied (change (length c) old new ∷ cs) (c ++ bs) ≡ c ++ (spaces new ++ applied cs (drop old bs))
changed c bs old new cs =
    ap (λ (x : List ℕ). x ++ (spaces new ++ applied cs (drop (length c + old) (c ++ bs)))) (take-append_seam c bs)
    ∙ ap (λ (x : List ℕ). c ++ (spaces new ++ applied cs x)) (drop_past c bs old)

-- what is made behind these bytes has the words and comments of those that stood there
record IsLaid (c made bs : List ℕ) : Type 0 where
  pub text : List ℕ
  pub is : made ≡ c ++ text
  pub worded : (ws : List Written) → AreWords false bs ws → AreWords false text ws
  pub same : comments_in None text ≡ comments_in None bs

unchanged : (c bs : List ℕ) → IsLaid c (c ++ bs) bs
unchanged c bs = record { text = bs; is = refl; worded = λ ws is. is; same = refl }

none_at_end : (n start kept : ℕ) (next : ℕ × List Word) → changes_from n start kept next [] ≡ []
none_at_end zero start kept next = refl
none_at_end (suc n) start kept next = refl

blanks_taken : (l : List ℕ) (old : ℕ) (ws : List Written) → old ≡ prefix_len is_blank l → AreWords false l ws → AreWords false (drop old l) ws
blanks_taken l old ws is words = subst (λ (n : ℕ). AreWords false (drop n l) ws) (sym is) (taken_words l ws words)

blanks_passed : (l : List ℕ) (old : ℕ) → old ≡ prefix_len is_blank l → comments_in None (drop old l) ≡ comments_in None l
blanks_passed l old is = ap (λ (n : ℕ). comments_in None (drop n l)) is ∙ taken_comments l

last_laid : (c l : List ℕ) (old new : ℕ) (cs : List Change) → old ≡ prefix_len is_blank l → cs ≡ [] → IsLaid c (applied (change (length c) old new ∷ cs) (c ++ l)) l
last_laid c l old new cs is none = record {
  text = spaces new ++ drop old l;
  is = changed c l old new cs ∙ ap (λ (x : List Change). c ++ (spaces new ++ applied x (drop old l))) none;
  worded = λ ws words. put_words new (drop old l) ws (blanks_taken l old ws is words);
  same = put_comments new (drop old l) ∙ blanks_passed l old is;
}

more_words : (l rest text : List ℕ) (old new : ℕ) (ws : List Written) → IsLine l → old ≡ prefix_len is_blank l
    → ((vs : List Written) → AreWords false rest vs → AreWords false text vs)
    → AreWords false (l ++ 10 ∷ rest) ws → AreWords false ((spaces new ++ drop old l) ++ 10 ∷ text) ws
more_words l rest text old new ws line is further words =
    let parts = words_cut false (l ++ 10 ∷ rest) l rest ws words refl line in
    subst (λ (vs : List Written). AreWords false ((spaces new ++ drop old l) ++ 10 ∷ text) vs) (sym parts.is)
    (words_join false (spaces new ++ drop old l) text parts.front parts.behind
    (put_words new (drop old l) parts.front (blanks_taken l old parts.front is parts.line)) (further parts.behind parts.others))

more_comments : (l rest text : List ℕ) (old new : ℕ) → IsLine l → old ≡ prefix_len is_blank l → comments_in None text ≡ comments_in None rest
    → comments_in None ((spaces new ++ drop old l) ++ 10 ∷ text) ≡ comments_in None (l ++ 10 ∷ rest)
more_comments l rest text old new line is further =
    let left : IsLine (drop old l) = line_rest (take old l) (drop old l) (subst IsLine (sym (take-append-drop old l)) line) in
    joined None (spaces new ++ drop old l) text (put_line new (drop old l) left)
    ∙ ap₂ (λ (x y : List (List ℕ)). x ++ y) (put_comments new (drop old l) ∙ blanks_passed l old is) further
    ∙ sym (joined None l rest line)

more_laid : (c l rest : List ℕ) (old new size n start : ℕ) (next : ℕ × List Word) → IsLine l → old ≡ prefix_len is_blank l → size ≡ length l
    → ((d : List ℕ) → IsLaid d (applied (changes_from n start (length d) next rest) (d ++ rest)) rest)
    → IsLaid c (applied (change (length c) old new ∷ changes_from n start (size - old + 1) next rest) (c ++ (l ++ 10 ∷ rest))) (l ++ 10 ∷ rest)
more_laid c l rest old new size n start next line is long further =
    let most : old ≤ length l = omega (arith, is, prefix_len-le-length is_blank l) in
    let d = drop old l ++ 10 ∷ [] in
    let kept : length d ≡ size - old + 1 = omega (arith, length-append (drop old l) (10 ∷ []), length-drop old l, long, most) in
    let behind = further d in
    let shape : spaces new ++ (d ++ behind.text) ≡ (spaces new ++ drop old l) ++ 10 ∷ behind.text =
    ap (λ (x : List ℕ). spaces new ++ x) (append_assoc (drop old l) (10 ∷ []) behind.text) ∙ sym (append_assoc (spaces new) (drop old l) (10 ∷ behind.text)) in
    record {
      text = (spaces new ++ drop old l) ++ 10 ∷ behind.text;
      is = changed c (l ++ 10 ∷ rest) old new (changes_from n start (size - old + 1) next rest)
          ∙ ap (λ (x : List ℕ). c ++ (spaces new ++ applied (changes_from n start (size - old + 1) next rest) x))
          (drop_within old l (10 ∷ rest) most ∙ sym (append_assoc (drop old l) (10 ∷ []) rest))
          ∙ ap (λ (k : ℕ). c ++ (spaces new ++ applied (changes_from n start k next rest) (d ++ rest))) (sym kept)
          ∙ ap (λ (x : List ℕ). c ++ (spaces new ++ x)) behind.is
          ∙ ap (λ (x : List ℕ). c ++ x) shape;
      worded = λ ws words. more_words l rest behind.text old new ws line is behind.worded words;
      same = more_comments l rest behind.text old new line is behind.same;
    }

shape_laid : (n start new old size : ℕ) (next : ℕ × List Word) (c all line rest : List ℕ) → IsLine line → size ≡ length line → old ≡ prefix_len is_blank line
    → length all ≤ suc n → ((d behind : List ℕ) → length behind ≤ n → IsLaid d (applied (changes_from n start (length d) next behind) (d ++ behind)) behind)
    → (all ≡ line) ⊎ (all ≡ line ++ 10 ∷ rest)
    → IsLaid c (applied (change (length c) old new ∷ changes_from n start (size - old + 1) next (drop (size + 1) all)) (c ++ all)) all
shape_laid n start new old size next c all line rest is_line long is few further (inl e) =
    let past : length line ≤ size + 1 = omega (arith, long) in
    let none : drop (size + 1) all ≡ [] = ap (λ (x : List ℕ). drop (size + 1) x) e ∙ no_more line (size + 1) past in
    let ends : changes_from n start (size - old + 1) next (drop (size + 1) all) ≡ [] =
    ap (λ (x : List ℕ). changes_from n start (size - old + 1) next x) none ∙ none_at_end n start (size - old + 1) next in
    subst (λ (x : List ℕ). IsLaid c (applied (change (length c) old new ∷ changes_from n start (size - old + 1) next (drop (size + 1) all)) (c ++ x)) x) (sym e)
    (last_laid c line old new (changes_from n start (size - old + 1) next (drop (size + 1) all)) is ends)
shape_laid n start new old size next c all line rest is_line long is few further (inr e) =
    let there : drop (size + 1) all ≡ rest =
    ap (λ (x : List ℕ). drop (size + 1) x) e ∙ ap (λ (k : ℕ). drop (k + 1) (line ++ 10 ∷ rest)) long ∙ drop_past line (10 ∷ rest) 1 in
    let sizes : length all ≡ length line + suc (length rest) = ap length e ∙ length-append line (10 ∷ rest) in
    let fewer : length rest ≤ n = omega (arith, sizes, few) in
    subst (λ (x : List ℕ). IsLaid c (applied (change (length c) old new ∷ changes_from n start (size - old + 1) next x) (c ++ all)) all) (sym there)
    (subst (λ (x : List ℕ). IsLaid c (applied (change (length c) old new ∷ changes_from n start (size - old + 1) next rest) (c ++ x)) x) (sym e)
    (more_laid c line rest old new size n start next is_line is long (λ d. further d rest fewer)))

laid_from : (n start : ℕ) (next : ℕ × List Word) (c bs : List ℕ) → length bs ≤ n → IsLaid c (applied (changes_from n start (length c) next bs) (c ++ bs)) bs
laid_from zero start next c bs few = unchanged c bs
laid_from (suc n) start next c [] few = unchanged c []
laid_from (suc n) start next c (b ∷ bs) few =
    let f = first_of (b ∷ bs) in
    shape_laid n _ _ (prefix_len is_blank (b ∷ bs)) (prefix_len is_no_feed (b ∷ bs)) _ c (b ∷ bs) f.line f.rest f.is_line f.size f.old few
    (λ d behind fewer. laid_from n _ _ d behind fewer) f.shape

-- THE LAWS

laid_if : (t : Bool) (bs : List ℕ) → IsLaid [] (applied (if t then changes_from (length bs) 0 0 (0, words bs) bs else []) bs) bs
laid_if true bs = laid_from (length bs) 0 (0, words bs) [] bs (le_refl (length bs))
laid_if false bs = unchanged [] bs

is_laid : (bs : List ℕ) → IsLaid [] (laid bs) bs
unfolding changes
is_laid bs = laid_if (depth_behind 0 (words bs) == 0) bs

spelled : (bs : List ℕ) (g : Group) → Spells bs g → length (laid bs) ≤ largest_file → Spells (laid bs) g
unfolding Spells
spelled bs g (size, ws, worded, group) small =
    let now = is_laid bs in
    (small, ws, subst (λ (x : List ℕ). AreWords false x ws) (sym now.is) (now.worded ws worded), group)

pub laid_reads : LaidReadsAsBefore
laid_reads bs g fit reads small = read_only (laid bs) g fit (spelled bs g (read_found bs g reads) small)

pub laid_keeps : LaidKeepsComments
laid_keeps bs = let now = is_laid bs in ap (comments_in None) now.is ∙ now.same
