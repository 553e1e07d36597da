-- The lines that are recorded are read as what was posted.
use Rattle.std.specs.Prelude.{◌≡◌, ◌⊎◌, ℕ, zero, suc, ◌+◌, ◌-◌, ◌*◌, ◌/◌, ◌%◌, ◌<◌, ◌≤◌, ◌==◌, ◌&&◌, Bool, true, false, not, nat_le, nat_lt, if◌then◌else◌, List, [], ◌∷◌, ◌++◌, codes, drop, length, slice_index, take, Option, Some, None, Result, ℤ, pos, refl}
use Rattle.std.specs.Char.{is_ascii_digit}
use Rattle.std.specs.Fmt.{decimal, signed_decimal}
use Rattle.std.specs.List.{cons_option, flat_map, list_all, position, prefix_len}
use Rattle.std.specs.Option.{option_and_then}
use Rattle.std.proofs.Common.{ap, sym, ◌∙◌, subst, arith, append_assoc, inl, inr}
use Rattle.std.proofs.Math.Nat.{lt-suc_self}
use Rattle.std.proofs.lemmas.Bool.{and_from, and_parts, cases_lt}
use Rattle.std.proofs.lemmas.Bool.Decides.{nat_tests}
use Rattle.std.proofs.lemmas.Fmt.{decimal_digit, decimal_nonempty, decimal_step}
use Rattle.std.proofs.lemmas.List.Folds.{list_all-append}
use Rattle.hex.proofs.HexLemmas.{decode_of-encode_lower, length-encode_with}
use Rattle.hex.specs.declared.error.FromHexError.{FromHexError}
use Rattle.hex.specs.Hex.{IsBytes, decode_of, encode_lower, encode_with, lower_digits}
use Rattle.mh_base.specs.Path.{is_path}
use Rattle.mh_codec.specs.Tags.{Tags}
use Rattle.mh_group.specs.declared.written.Written.{Written}
use Rattle.mh_model.specs.declared.file.File.{File as Content}
use Rattle.mh_model.specs.declared.input.Input.{Input}
use Rattle.mh_model.specs.declared.input.Input.TheVariants as input
use Rattle.mh_model.specs.declared.key.Key.{Key}
use Rattle.mh_model.specs.declared.key.Key.TheVariants.{Up}
use Rattle.mh_model.specs.Late.{written_at}
use Rattle.mh_script.specs.declared.script.Command.{Command}
use Rattle.mh_script.specs.declared.script.Command.TheVariants as command
use Rattle.mh_script.specs.declared.script.Line.{Line}
use Rattle.mh_script.specs.declared.script.Line.TheVariants as line
use Rattle.mh_script.specs.Script.{as_integer, content_line, decoded, file_line, named_line, octets_of, parted_line, parted_scene, sent_line, commands, engine_line, first_wrong, integer_of, is_wrong, key_name, largest, line_of, lines, number_of, plain_line, read_digits, run_limit, said, stream_line, tick_line, with_digit}
use Rattle.mh_script.proofs.ScriptLemmas.{number_full}
use Rattle.mh_service.specs.Refusals.{File}
use Rattle.mh_live.specs.declared.post.Post.{Post}
use Rattle.mh_live.specs.declared.post.Post.TheVariants as post
use Rattle.mh_live.specs.Posts.{file_text, input_by, is_sayable, opening, post_text, recorded, scene_input, show_line, tick_text}
use Rattle.mh_live.specs.Replayed.{AreSayable, IsInteger, IsSayable, RecordsAreScripts, commands_of, posts, shows}

-- Numbers: what is written in decimal digits is read as the number.

read_behind : (b : Option ℕ) (xs : List ℕ) (d : ℕ) → read_digits b (xs ++ d ∷ []) ≡ option_and_then (λ n. with_digit n d) (read_digits b xs)
read_behind b [] d = refl
read_behind b (x ∷ xs) d = read_behind (option_and_then (λ n. with_digit n x) b) xs d

digit_read : (m r n : ℕ) → r < 10 → m * 10 + r ≡ n → n ≤ largest → with_digit m (48 + r) ≡ Some n
digit_read m r n small whole fits =
    let less : 48 + r - 48 ≡ r = omega arith in
    let digit : is_ascii_digit (48 + r) ≡ true = grind (arith, nat_tests) in
    let within : nat_le n largest ≡ true = grind (arith, nat_tests) in
    rw (digit, less, whole, within) refl

digits_read : (fuel n : ℕ) → n < fuel → n ≤ largest → read_digits (Some 0) (decimal n) ≡ Some n
digits_read zero n less fits = absurd (omega (arith, less))
digits_read (suc fuel) n less fits = by (cases_lt n 10) (λ h. digits_read fuel (n / 10) (omega (arith, less, h)) (omega (arith, fits)))
  where
    by : (n < 10) ⊎ (10 ≤ n) → (10 ≤ n → read_digits (Some 0) (decimal (n / 10)) ≡ Some (n / 10)) → read_digits (Some 0) (decimal n) ≡ Some n
    by (inl small) before =
        ap (λ (ds : List ℕ). read_digits (Some 0) ds) (decimal_digit n small) ∙ digit_read 0 n n small (omega arith) fits
    by (inr large) before =
        ap (λ (ds : List ℕ). read_digits (Some 0) ds) (decimal_step n large (omega (arith, fits)))
        ∙ read_behind (Some 0) (decimal (n / 10)) (48 + n % 10)
        ∙ ap (λ (o : Option ℕ). option_and_then (λ m. with_digit m (48 + n % 10)) o) (before large)
        ∙ digit_read (n / 10) (n % 10) n (omega arith) (omega arith) fits

number_read : (n : ℕ) → n ≤ largest → number_of (decimal n) ≡ Some n
number_read n fits =
    let some : 0 < length (decimal n) = decimal_nonempty n (omega (arith, fits)) in
    let full : (length (decimal n) == 0) ≡ false = grind (arith, nat_tests) in
    number_full (decimal n) full ∙ digits_read (suc n) n (lt-suc_self n) fits

integer_read : (n : ℕ) → n ≤ 2147483647 → integer_of (decimal n) ≡ Some (pos n)
integer_read n fits =
    let within : nat_le n 2147483647 ≡ true = grind (arith, nat_tests) in
    ap as_integer (number_read n (omega (arith, fits))) ∙ rw within refl

-- A line ends at the first line feed.

abbrev is_within : ℕ → Bool
is_within b = not (b == 10)

no_feed : (b : Bool) → not b ≡ true → b ≡ false
no_feed true is = cc
no_feed false is = refl

lines_behind : (xs ys : List ℕ) → list_all is_within xs ≡ true → lines (xs ++ 10 ∷ ys) ≡ xs ∷ lines ys
lines_behind [] ys all = refl
lines_behind (x ∷ xs) ys all =
    let parts = and_parts (is_within x) (list_all is_within xs) all in
    rw (no_feed (x == 10) parts.0, lines_behind xs ys parts.1) refl

digits_within : (fuel n : ℕ) → n < fuel → n ≤ largest → list_all is_within (decimal n) ≡ true
digits_within zero n less fits = absurd (omega (arith, less))
digits_within (suc fuel) n less fits = by (cases_lt n 10) (λ h. digits_within fuel (n / 10) (omega (arith, less, h)) (omega (arith, fits)))
  where
    within : (r : ℕ) → list_all is_within ((48 + r) ∷ []) ≡ true
    within r = let other : (48 + r == 10) ≡ false = grind (arith, nat_tests) in rw other refl

    by : (n < 10) ⊎ (10 ≤ n) → (10 ≤ n → list_all is_within (decimal (n / 10)) ≡ true) → list_all is_within (decimal n) ≡ true
    by (inl small) before = ap (list_all is_within) (decimal_digit n small) ∙ within n
    by (inr large) before =
        ap (list_all is_within) (decimal_step n large (omega (arith, fits)))
        ∙ list_all-append is_within (decimal (n / 10)) ((48 + n % 10) ∷ []) ∙ and_from _ _ (before large) (within (n % 10))

number_within : (n : ℕ) → n ≤ largest → list_all is_within (decimal n) ≡ true
number_within n fits = digits_within (suc n) n (lt-suc_self n) fits

-- What bytes say in front of whatever stands behind them.

record Reads (tags : Tags) (files : List File) (bs : List ℕ) (cs : List Command) : Type 0 where
  reading : (rest : List ℕ) → commands tags files (lines (bs ++ rest)) ≡ cs ++ commands tags files (lines rest)
  good : (rest : List ℕ) → ((n : ℕ) → first_wrong tags files n (lines rest) ≡ None) → (n : ℕ) → first_wrong tags files n (lines (bs ++ rest)) ≡ None

nothing_read : (tags : Tags) (files : List File) → Reads tags files [] []
nothing_read tags files = record { reading = λ rest. refl; good = λ rest right. right }

both_read : (tags : Tags) (files : List File) (xs ys : List ℕ) (cs ds : List Command) → Reads tags files xs cs → Reads tags files ys ds → Reads tags files (xs ++ ys) (cs ++ ds)
both_read tags files xs ys cs ds front behind = record {
  reading = λ rest.
      ap (λ (bs : List ℕ). commands tags files (lines bs)) (append_assoc xs ys rest) ∙ front.reading (ys ++ rest)
      ∙ ap (λ (es : List Command). cs ++ es) (behind.reading rest) ∙ sym (append_assoc cs ds (commands tags files (lines rest)));
  good = λ rest right n.
      ap (λ (bs : List ℕ). first_wrong tags files n (lines bs)) (append_assoc xs ys rest) ∙ front.good (ys ++ rest) (behind.good rest right) n;
}

line_read : (tags : Tags) (files : List File) (bs : List ℕ) (c : Command) → list_all is_within bs ≡ true → line_of tags files bs ≡ line.Says c
    → Reads tags files (bs ++ 10 ∷ []) (c ∷ [])
line_read tags files bs c all is = record {
  reading = λ rest.
      ap (λ (ls : List (List ℕ)). commands tags files ls) (cut rest)
      ∙ ap (λ (l : Line). cons_option (said l) (commands tags files (lines rest))) is;
  good = λ rest right n.
      ap (λ (ls : List (List ℕ)). first_wrong tags files n ls) (cut rest)
      ∙ ap (λ (l : Line). if is_wrong l then Some n else first_wrong tags files (n + 1) (lines rest)) is ∙ right (n + 1);
}
  where
    cut : (rest : List ℕ) → lines ((bs ++ 10 ∷ []) ++ rest) ≡ bs ∷ lines rest
    cut rest = ap (λ (xs : List ℕ). lines xs) (append_assoc bs (10 ∷ []) rest) ∙ lines_behind bs rest all

-- What is said of a post.

key_said : (tags : Tags) (files : List File) (k : Key) → line_of tags files (post_text (post.Key k)) ≡ line.Says (command.Post (input.Key k))
unfolding key_name plain_line
key_said tags files Up = refl
key_said tags files _ = refl

key_within : (k : Key) → list_all is_within (post_text (post.Key k)) ≡ true
unfolding key_name
key_within Up = refl
key_within _ = refl

tick_said : (tags : Tags) (files : List File) (n : ℕ) → n ≤ largest → line_of tags files (post_text (post.Tick n)) ≡ line.Says (command.Post (input.Tick n))
unfolding tick_text plain_line
tick_said tags files n fits = ap tick_line (number_read n fits)

tick_within : (n : ℕ) → n ≤ largest → list_all is_within (post_text (post.Tick n)) ≡ true
unfolding tick_text
tick_within n fits = number_within n fits

stream_said : (tags : Tags) (files : List File) (z : ℤ) → IsInteger z → line_of tags files (post_text (post.Stream z)) ≡ line.Says (command.Post (input.Stream z))
unfolding plain_line
stream_said tags files z is =
    subst (λ (z : ℤ). line_of tags files (post_text (post.Stream z)) ≡ line.Says (command.Post (input.Stream z))) (sym is.1)
    (ap stream_line (integer_read is.0 is.2))

engine_said : (tags : Tags) (files : List File) (z : ℤ) → IsInteger z → line_of tags files (post_text (post.Engine z)) ≡ line.Says (command.Post (input.Engine z))
unfolding plain_line
engine_said tags files z is =
    subst (λ (z : ℤ). line_of tags files (post_text (post.Engine z)) ≡ line.Says (command.Post (input.Engine z))) (sym is.1)
    (ap engine_line (integer_read is.0 is.2))

integer_within : (z : ℤ) → IsInteger z → list_all is_within (signed_decimal z) ≡ true
integer_within z is =
    subst (λ (z : ℤ). list_all is_within (signed_decimal z) ≡ true) (sym is.1) (number_within is.0 (omega (arith, is.2)))

-- Names: no space parts them from anything, and they stand in one line.

-- what is told of a byte of a name
of_byte : (b : ℕ) → (not (b == 32) && not (b == 10)) ≡ true → (not (b == 32) ≡ true) × (not (b == 10) ≡ true)
of_byte b is = and_parts (not (b == 32)) (not (b == 10)) is

name_within : (name : List ℕ) → is_sayable name ≡ true → list_all is_within name ≡ true
unfolding is_sayable
name_within [] is = refl
name_within (b ∷ bs) is =
    let parts = and_parts (not (b == 32) && not (b == 10)) (is_sayable bs) is in
    and_from _ _ (of_byte b parts.0).1 (name_within bs parts.1)

-- no byte of it is a space
all_other : (name : List ℕ) → is_sayable name ≡ true → prefix_len (λ b. not (b == 32)) name ≡ length name
unfolding is_sayable
all_other [] is = refl
all_other (b ∷ bs) is =
    let parts = and_parts (not (b == 32) && not (b == 10)) (is_sayable bs) is in
    let same : 1 + length bs ≡ suc (length bs) = omega arith in
    ap (λ (t : Bool). if t then 1 + prefix_len (λ c. not (c == 32)) bs else 0) (of_byte b parts.0).0
    ∙ ap (λ (n : ℕ). 1 + n) (all_other bs parts.1) ∙ same

all_before : (name digits : List ℕ) → is_sayable name ≡ true → prefix_len (λ b. not (b == 32)) (name ++ 32 ∷ digits) ≡ length name
unfolding is_sayable
all_before [] digits is = refl
all_before (b ∷ bs) digits is =
    let parts = and_parts (not (b == 32) && not (b == 10)) (is_sayable bs) is in
    let same : 1 + length bs ≡ suc (length bs) = omega arith in
    ap (λ (t : Bool). if t then 1 + prefix_len (λ c. not (c == 32)) (bs ++ 32 ∷ digits) else 0) (of_byte b parts.0).0
    ∙ ap (λ (n : ℕ). 1 + n) (all_before bs digits parts.1) ∙ same

unparted : (name : List ℕ) → is_sayable name ≡ true → position (λ b. b == 32) name ≡ None
unparted name is =
    let all = all_other name is in
    let none : nat_lt (length name) (length name) ≡ false = grind (arith, nat_tests) in
    (λ i. if nat_lt (all i) (length name) then Some (all i) else None)
    ∙ ap (λ (b : Bool). if b then Some (length name) else None) none

longer : (name digits : List ℕ) → length name < length (name ++ 32 ∷ digits)
longer [] digits = omega arith
longer (b ∷ bs) digits = let less = longer bs digits in omega (arith, less)

-- behind a name the first space is that which parts it from the digits
parted : (name digits : List ℕ) → is_sayable name ≡ true → position (λ b. b == 32) (name ++ 32 ∷ digits) ≡ Some (length name)
parted name digits is =
    let all = all_before name digits is in
    let less = longer name digits in
    let one : nat_lt (length name) (length (name ++ 32 ∷ digits)) ≡ true = grind (arith, nat_tests) in
    (λ i. if nat_lt (all i) (length (name ++ 32 ∷ digits)) then Some (all i) else None)
    ∙ ap (λ (b : Bool). if b then Some (length name) else None) one

front_of : (name rest : List ℕ) → take (length name) (name ++ rest) ≡ name
front_of [] rest = refl
front_of (b ∷ bs) rest = ap (λ (xs : List ℕ). b ∷ xs) (front_of bs rest)

behind_of : (name digits : List ℕ) → drop (length name + 1) (name ++ 32 ∷ digits) ≡ digits
behind_of [] digits = refl
behind_of (b ∷ bs) digits =
    let next : length (b ∷ bs) + 1 ≡ suc (length bs + 1) = omega arith in
    ap (λ (n : ℕ). drop n (b ∷ (bs ++ 32 ∷ digits))) next ∙ behind_of bs digits

-- The digits of octets stand in one line.

each_within : (xs : List ℕ) → list_all is_within xs ≡ true → (i : ℕ) → is_within (slice_index xs i) ≡ true
each_within [] all zero = refl
each_within [] all (suc i) = refl
each_within (x ∷ xs) all zero = (and_parts (is_within x) (list_all is_within xs) all).0
each_within (x ∷ xs) all (suc i) = each_within xs (and_parts (is_within x) (list_all is_within xs) all).1 i

hex_within : (xs : List ℕ) → list_all is_within (encode_lower xs) ≡ true
unfolding encode_with
hex_within [] = refl
hex_within (x ∷ xs) =
    and_from _ _ (each_within lower_digits refl (x / 16)) (and_from _ _ (each_within lower_digits refl (x % 16)) (hex_within xs))

octets_read : (xs : List ℕ) → IsBytes xs → 0 < length xs → octets_of (encode_lower xs) ≡ Some xs
octets_read xs are some =
    let twice : length (encode_lower xs) ≡ 2 * length xs = length-encode_with lower_digits xs in
    let more : 0 < length (encode_lower xs) = omega (arith, twice, some) in
    let full : (length (encode_lower xs) == 0) ≡ false = grind (arith, nat_tests) in
    ap (λ (b : Bool). if b then None else decoded (decode_of (encode_lower xs))) full
    ∙ ap (λ (r : Result (List ℕ) FromHexError). decoded r) (decode_of-encode_lower xs are)

-- Scenes and files.

scene_said : (tags : Tags) (files : List File) (g : List ℕ) (w : Written) → is_path g ≡ true → is_sayable g ≡ true → written_at g files ≡ Some w
    → line_of tags files (post_text (post.Scene g)) ≡ line.Says (command.Post (input.Scene g w))
scene_said tags files g w path sayable found =
    ap (λ (o : Option ℕ). parted_scene tags files o g) (unparted g sayable)
    ∙ ap (λ (b : Bool). if b then sent_line g (written_at g files) else line.Wrong) path ∙ ap (λ (o : Option Written). sent_line g o) found

words_said : (name octets : List ℕ) → is_path name ≡ true → is_sayable name ≡ true → IsBytes octets → 0 < length octets
    → file_line (name ++ 32 ∷ encode_lower octets) ≡ line.Says (command.Post (input.Arrive (record { name = name; content = octets })))
words_said name octets path sayable are some =
    let words : List ℕ = name ++ 32 ∷ encode_lower octets in
    ap (λ (o : Option ℕ). parted_line o words) (parted name (encode_lower octets) sayable)
    ∙ (λ i. named_line (front_of name (32 ∷ encode_lower octets) i) (behind_of name (encode_lower octets) i))
    ∙ ap (λ (b : Bool). if b then content_line name (octets_of (encode_lower octets)) else line.Wrong) path
    ∙ ap (λ (o : Option (List ℕ)). content_line name o) (octets_read octets are some)

file_said : (tags : Tags) (files : List File) (f : Content) → IsSayable files (post.File f)
    → line_of tags files (post_text (post.File f)) ≡ line.Says (command.Post (input.Arrive f))
unfolding file_text
file_said tags files f is =
    ap (λ (words : List ℕ). file_line words) (append_assoc f.name (32 ∷ []) (encode_lower f.content))
    ∙ words_said f.name f.content is.0.0 is.0.1 is.1 is.2

file_within : (f : Content) → is_sayable f.name ≡ true → list_all is_within (post_text (post.File f)) ≡ true
unfolding file_text
file_within f sayable =
    list_all-append is_within (f.name ++ 32 ∷ []) (encode_lower f.content)
    ∙ and_from _ _ (list_all-append is_within f.name (32 ∷ []) ∙ and_from _ _ (name_within f.name sayable) refl) (hex_within f.content)

-- there is an input, and the line says it
abbrev IsSaid : Tags → List File → Post → Type 0
IsSaid tags files p =
    (i : Input) × (input_by files p ≡ Some i) × (line_of tags files (post_text p) ≡ line.Says (command.Post i))

post_said : (tags : Tags) (files : List File) (p : Post) → IsSayable files p → IsSaid tags files p
post_said tags files (post.Key k) is = (input.Key k, refl, key_said tags files k)
post_said tags files (post.Tick n) is = (input.Tick n, refl, tick_said tags files n is)
post_said tags files (post.Stream z) is = (input.Stream z, refl, stream_said tags files z is)
post_said tags files (post.Engine z) is = (input.Engine z, refl, engine_said tags files z is)
post_said tags files (post.Scene g) is =
    (input.Scene g is.1, ap (scene_input g) is.2, scene_said tags files g is.1 is.0.0 is.0.1 is.2)
post_said tags files (post.File f) is = (input.Arrive f, refl, file_said tags files f is)

post_within : (files : List File) (p : Post) → IsSayable files p → list_all is_within (post_text p) ≡ true
post_within files (post.Key k) is = key_within k
post_within files (post.Tick n) is = tick_within n is
post_within files (post.Stream z) is = integer_within z is
post_within files (post.Engine z) is = integer_within z is
post_within files (post.Scene g) is = name_within g is.0.1
post_within files (post.File f) is = file_within f is.0.1

run_said : (tags : Tags) (files : List File) → line_of tags files (codes "run") ≡ line.Says (command.Step run_limit)
unfolding plain_line
run_said tags files = refl

show_said : (tags : Tags) (files : List File) → line_of tags files (codes "show") ≡ line.Says command.Show
unfolding plain_line
show_said tags files = refl

show_read : (tags : Tags) (files : List File) (p : Post) → Reads tags files (show_line p) (shows p)
show_read tags files (post.Tick n) = nothing_read tags files
show_read tags files _ = line_read tags files (codes "show") command.Show refl (show_said tags files)

recorded_read : (tags : Tags) (files : List File) (p : Post) → IsSayable files p → Reads tags files (recorded p) (commands_of files p)
unfolding recorded
recorded_read tags files p is =
    let said = post_said tags files p is in
    let run : List ℕ = codes "run" ++ 10 ∷ [] in
    let first = line_read tags files (post_text p) (command.Post said.0) (post_within files p is) said.2 in
    let second = line_read tags files (codes "run") (command.Step run_limit) refl (run_said tags files) in
    let parts = both_read tags files (post_text p ++ 10 ∷ [] ++ run) (show_line p) (command.Post said.0 ∷ command.Step run_limit ∷ []) (shows p)
    (both_read tags files (post_text p ++ 10 ∷ []) run (command.Post said.0 ∷ []) (command.Step run_limit ∷ []) first second) (show_read tags files p) in
    let joined = subst (λ (bs : List ℕ). Reads tags files (bs ++ show_line p) (command.Post said.0 ∷ command.Step run_limit ∷ shows p))
    (append_assoc (post_text p) (10 ∷ []) run) parts in
    subst (λ (o : Option Input). Reads tags files (post_text p ++ (10 ∷ run) ++ show_line p) (posts o ++ command.Step run_limit ∷ shows p))
    (sym said.1) joined

all_read : (tags : Tags) (files : List File) (ps : List Post) → AreSayable files ps → Reads tags files (flat_map recorded ps) (flat_map (commands_of files) ps)
all_read tags files [] are = nothing_read tags files
all_read tags files (p ∷ ps) are =
    both_read tags files (recorded p) (flat_map recorded ps) (commands_of files p) (flat_map (commands_of files) ps)
    (recorded_read tags files p are.0) (all_read tags files ps are.1)

-- behind the last line feed stands an empty line, which is skipped

nothing_left : (tags : Tags) (files : List File) → commands tags files (lines []) ≡ []
unfolding plain_line
nothing_left tags files = refl

nothing_wrong : (tags : Tags) (files : List File) (n : ℕ) → first_wrong tags files n (lines []) ≡ None
unfolding plain_line
nothing_wrong tags files n = refl

behind_nothing : {X : Type 0} (xs : List X) → xs ++ [] ≡ xs
behind_nothing [] = refl
behind_nothing {X} (x ∷ xs) = ap (λ (ys : List X). x ∷ ys) (behind_nothing xs)

opening_read : (tags : Tags) (files : List File) → Reads tags files opening (command.Step run_limit ∷ command.Show ∷ [])
unfolding opening
opening_read tags files =
    both_read tags files (codes "run" ++ 10 ∷ []) (codes "show" ++ 10 ∷ []) (command.Step run_limit ∷ []) (command.Show ∷ [])
    (line_read tags files (codes "run") (command.Step run_limit) refl (run_said tags files))
    (line_read tags files (codes "show") command.Show refl (show_said tags files))

pub all_replayed : RecordsAreScripts
all_replayed tags files ps are =
    let bs : List ℕ = opening ++ flat_map recorded ps in
    let cs : List Command = command.Step run_limit ∷ command.Show ∷ flat_map (commands_of files) ps in
    let read : Reads tags files bs cs =
    both_read tags files opening (flat_map recorded ps) (command.Step run_limit ∷ command.Show ∷ []) (flat_map (commands_of files) ps)
    (opening_read tags files) (all_read tags files ps are) in (
      ap (λ (xs : List ℕ). first_wrong tags files 1 (lines xs)) (sym (behind_nothing bs)) ∙ read.good [] (nothing_wrong tags files) 1,
      ap (λ (xs : List ℕ). commands tags files (lines xs)) (sym (behind_nothing bs)) ∙ read.reading []
          ∙ ap (λ (es : List Command). cs ++ es) (nothing_left tags files) ∙ behind_nothing cs,
    )
