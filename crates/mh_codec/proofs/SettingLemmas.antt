-- Values of attributes: what was read is spelled so, and what is spelled so is read.
use Rattle.std.proofs.Common.{◌≡◌, ℕ, ◌≤◌, ◌<◌, ◌^◌, true, ◌&&◌, nat_le, List, ◌++◌, length, Ok, ℤ, pos, refl, sym, ◌∙◌, subst, arith}
use Rattle.std.specs.List.{list_all}
use Rattle.std.proofs.lemmas.Bool.Decides.{nat_tests}
use Rattle.std.proofs.lemmas.Bool.{and_parts}
use Rattle.mh_base.specs.Event.{number_of}
use Rattle.mh_base.specs.Reading.{Rest, ◌>>=◌}
use Rattle.mh_base.specs.Limits.{longest_list}
use Rattle.mh_base.proofs.ReadingLemmas.{went, ok_same}
use Rattle.mh_der.specs.Rest.{Element}
use Rattle.mh_der.proofs.DigitLemmas.{AreBytes}
use Rattle.mh_group.specs.declared.shape.Shape.{Shape}
use Rattle.mh_group.specs.declared.shape.Shape.TheVariants as shape
use Rattle.mh_group.specs.declared.written.Member.{Member}
use Rattle.mh_group.specs.declared.written.Setting.{Setting}
use Rattle.mh_group.specs.declared.written.Setting.TheVariants as of_setting
use Rattle.mh_group.specs.Words.{justification_number}
use Rattle.mh_group.specs.Fit.{fits, fits_action, fits_member, is_list_item}
use Rattle.mh_group.specs.Holdable.{colour_octets, is_integer, is_action, is_list, is_member, is_position, is_next_scene, is_setting}
use Rattle.mh_codec.specs.Spelling.{integer, list, member, position, next_scene, value}
use Rattle.mh_codec.specs.Tags.{Tags, IsTable}
use Rattle.mh_codec.specs.Reading.{only, truth_at, integer_at, octets_at, natural_at, length_at, event_at, justification_at, colour_at, reference_at, content_name_at, content_at, data_at, list_at, effect_at, row_at, member_at, list_item_at, position_at, next_scene_at, single, pair, setting}
use Rattle.mh_codec.proofs.ElementLemmas.{written, Good}
use Rattle.mh_codec.proofs.ValueLemmas.{truth_found, truth_given, integer_read, integer_written, natural_read, length_read, length_written, event_read, event_written, justification_read, justification_written, colour_read, colour_written}
use Rattle.mh_codec.proofs.ReferenceLemmas.{IsOne, Reads, boolean_one, integer_one, octets_one, content_name_one, content_one, data_one, reference_one, reference_read, reference_written, integer_reads, octets_reads, content_name_reads, content_reads, data_reads, only_read, only_written}
use Rattle.mh_codec.proofs.MemberLemmas.{list_found, list_given, list_one, list_reads}
use Rattle.mh_codec.proofs.PairLemmas.{fits_part, pair_read, pair_given, natural_given, position_reads}
use Rattle.mh_codec.proofs.RowLemmas.{list_both, list_fit, effect_reads, member_reads, item_reads, scene_reads, fits_and_is_member}

-- lists

rows : Reads (list_at row_at longest_list) (list (list integer)) (is_list (is_list is_integer)) (is_list (is_list is_integer))
rows = list_reads (list_reads integer_reads)

positions : Reads (list_at position_at longest_list) (list position) (is_list is_position) (is_list is_position)
positions = list_reads position_reads

scenes : Reads (list_at next_scene_at longest_list) (list next_scene) (is_list is_next_scene) (is_list is_next_scene)
scenes = list_reads scene_reads

few_items : (n : ℕ) → nat_le n 256 ≡ true → n ≤ 256
few_items n h = grind (arith, nat_tests)

-- what is read is spelled so

-- what is spelled so is read

pair_one : (s : Shape) (left : Rest) (x y : ℤ) → (fits_part s (pos 720) x && fits_part s (pos 576) y) ≡ true → (is_integer x && is_integer y) ≡ true → left.bytes ≡ integer x ++ integer y
    → (pair s left >>= λ p. Ok (of_setting.Pair p.0 p.1)) ≡ Ok (of_setting.Pair x y)
pair_one s left x y fit good is = rw (pair_given s left x y fit good is) refl

module _ (tags : Tags) (table : IsTable tags) where
  abbrev Spelled : Element → Setting → Type 0
  Spelled e v = (written e ≡ value tags v) × (is_setting v ≡ true)

  pair_setting : (s : Shape) (left : Rest) (v : Setting) → AreBytes left.bytes → (pair s left >>= λ p. Ok (of_setting.Pair p.0 p.1)) ≡ Ok v → (left.bytes ≡ value tags v) × (is_setting v ≡ true)
  unfolding value
  pair_setting s left v bytes is =
      let p = went (pair s left) _ v is in
      subst (λ (w : Setting). (left.bytes ≡ value tags w) × (is_setting w ≡ true)) (ok_same p.behind) (pair_read s left p.value bytes p.first)

  members : Reads (list_at (member_at tags) longest_list) (list (member tags)) (is_list is_member) (is_list fits_and_is_member)
  members = list_reads (member_reads tags table)

  items_written : (e : Element) (ms : List Member) → e.tag.number < 2 ^ 16 → (nat_le (length ms) 256 && list_all is_list_item ms) ≡ true → is_list is_member ms ≡ true → written e ≡ list (member tags) ms → list_at list_item_at 256 e ≡ Ok ms
  items_written e ms small fit good is =
      let parts = and_parts (nat_le (length ms) 256) (list_all is_list_item ms) fit in
      let goods = and_parts (nat_le (length ms) longest_list) (list_all is_member ms) good in
      list_given (item_reads tags table) 256 e ms small (few_items (length ms) parts.0) (list_both is_list_item is_member ms parts.1 goods.1) is

  single_read : (s : Shape) (e : Element) (v : Setting) → Good e → single tags s e ≡ Ok v → Spelled e v
  unfolding single value
  single_read shape.Effect e v good is =
      let x = went (effect_at tags e) _ v is in
      subst (Spelled e) (ok_same x.behind) ((effect_reads tags table).found e x.value good x.first)
  single_read shape.Bool e v good is =
      let x = went (truth_at e) _ v is in
      subst (Spelled e) (ok_same x.behind) (truth_found e x.value x.first, refl)
  single_read shape.Int e v good is =
      let x = went (integer_at e) _ v is in
      subst (Spelled e) (ok_same x.behind) (integer_read e x.value good x.first)
  single_read shape.Natural e v good is =
      let x = went (natural_at e) _ v is in
      subst (Spelled e) (ok_same x.behind) (integer_read e x.value good (natural_read e x.value x.first).0)
  single_read shape.Ref e v good is =
      let x = went (reference_at e) _ v is in
      subst (Spelled e) (ok_same x.behind) (reference_read e x.value good x.first)
  single_read shape.Event e v good is =
      let x = went (event_at e) _ v is in
      subst (Spelled e) (ok_same x.behind) (event_read e x.value good x.first, refl)
  single_read shape.Length e v good is =
      let x = went (length_at e) _ v is in
      subst (Spelled e) (ok_same x.behind) (integer_read e x.value good (length_read e x.value x.first))
  single_read shape.Data e v good is =
      let x = went (data_at e) _ v is in
      subst (Spelled e) (ok_same x.behind) (data_reads.found e x.value good x.first)
  single_read shape.Octets e v good is =
      let x = went (octets_at e) _ v is in
      subst (Spelled e) (ok_same x.behind) (octets_reads.found e x.value good x.first)
  single_read shape.Content e v good is =
      let x = went (content_at tags e) _ v is in
      subst (Spelled e) (ok_same x.behind) ((content_reads tags table).found e x.value good x.first)
  single_read shape.ContentRef e v good is =
      let x = went (content_name_at tags e) _ v is in
      subst (Spelled e) (ok_same x.behind) ((content_name_reads tags table).found e x.value good x.first)
  single_read shape.Justification e v good is =
      let x = went (justification_at e) _ v is in
      subst (Spelled e) (ok_same x.behind) (justification_read e x.value good x.first, refl)
  single_read shape.MovementTable e v good is =
      let x = went (list_at row_at longest_list e) _ v is in
      subst (Spelled e) (ok_same x.behind) (rows.found e x.value good x.first)
  single_read shape.Members e v good is =
      let x = went (list_at (member_at tags) longest_list e) _ v is in
      subst (Spelled e) (ok_same x.behind) (members.found e x.value good x.first)
  single_read shape.ListItems e v good is =
      let x = went (list_at list_item_at 256 e) _ v is in
      subst (Spelled e) (ok_same x.behind) (list_found (item_reads tags table) 256 e x.value (omega arith) good x.first)
  single_read shape.Positions e v good is =
      let x = went (list_at position_at longest_list e) _ v is in
      subst (Spelled e) (ok_same x.behind) (positions.found e x.value good x.first)
  single_read shape.NextScenes e v good is =
      let x = went (list_at next_scene_at longest_list e) _ v is in
      subst (Spelled e) (ok_same x.behind) (scenes.found e x.value good x.first)
  single_read shape.Colour e v good is =
      let x = went (colour_at e) _ v is in
      subst (Spelled e) (ok_same x.behind) (colour_read e x.value good x.first)
  single_read _ e v good is = absurd cc

  alone_read : (s : Shape) (left : Rest) (v : Setting) → AreBytes left.bytes → (only left >>= λ e. single tags s e) ≡ Ok v → (left.bytes ≡ value tags v) × (is_setting v ≡ true)
  alone_read s left v bytes is =
      let e = went (only left) _ v is in
      let o = only_read left e.value bytes e.first in
      let r = single_read s e.value v o.good e.behind in
      (o.is ∙ r.0, r.1)

  pub setting_found : (s : Shape) (left : Rest) (v : Setting) → AreBytes left.bytes → setting tags s left ≡ Ok v → (left.bytes ≡ value tags v) × (is_setting v ≡ true)
  unfolding setting
  setting_found shape.Pair left v bytes is = pair_setting shape.Pair left v bytes is
  setting_found shape.Size left v bytes is = pair_setting shape.Size left v bytes is
  setting_found shape.Screen left v bytes is = pair_setting shape.Screen left v bytes is
  setting_found s left v bytes is = alone_read s left v bytes is

  alone_given : (s : Shape) (left : Rest) (v : Setting) → IsOne (value tags v) → ((e : Element) → e.tag.number < 2 ^ 16 → written e ≡ value tags v → single tags s e ≡ Ok v) → left.bytes ≡ value tags v → (only left >>= λ e. single tags s e) ≡ Ok v
  alone_given s left v one reads is =
      let o = only_written left one.tag one.contents one.small (is ∙ one.is) in
      let r = reads o.found o.small (o.is ∙ sym one.is) in
      rw (o.takes, r) refl

  pub setting_given : (s : Shape) (left : Rest) (v : Setting) → fits s v ≡ true → is_setting v ≡ true → left.bytes ≡ value tags v → setting tags s left ≡ Ok v
  unfolding setting value single
  setting_given shape.Effect left (of_setting.Effect xs) fit good is = alone_given shape.Effect left (of_setting.Effect xs) ((effect_reads tags table).one xs (list_fit fits_action is_action xs fit good)) (λ e small w. rw ((effect_reads tags table).given e xs small (list_fit fits_action is_action xs fit good) w) refl) is
  setting_given shape.Bool left (of_setting.Bool b) fit good is = alone_given shape.Bool left (of_setting.Bool b) (boolean_one b) (λ e small w. rw (truth_given e b small w) refl) is
  setting_given shape.Int left (of_setting.Int x) fit good is = alone_given shape.Int left (of_setting.Int x) (integer_one x) (λ e small w. rw (integer_written e x small good w) refl) is
  setting_given shape.Natural left (of_setting.Int x) fit good is = alone_given shape.Natural left (of_setting.Int x) (integer_one x) (λ e small w. rw (natural_given e x small fit good w) refl) is
  setting_given shape.Length left (of_setting.Int x) fit good is = alone_given shape.Length left (of_setting.Int x) (integer_one x) (λ e small w. rw (length_written e x (integer_written e x small good w) fit) refl) is
  setting_given shape.Pair left (of_setting.Pair x y) fit good is = pair_one shape.Pair left x y refl good is
  setting_given shape.Size left (of_setting.Pair x y) fit good is = pair_one shape.Size left x y fit good is
  setting_given shape.Screen left (of_setting.Pair x y) fit good is = pair_one shape.Screen left x y fit good is
  setting_given shape.Ref left (of_setting.Ref r) fit good is = alone_given shape.Ref left (of_setting.Ref r) (reference_one r) (λ e small w. rw (reference_written e r small good w) refl) is
  setting_given shape.Event left (of_setting.Event x) fit good is = alone_given shape.Event left (of_setting.Event x) (integer_one (pos (number_of x))) (λ e small w. rw (event_written e x small w) refl) is
  setting_given shape.Data left (of_setting.Data x) fit good is = alone_given shape.Data left (of_setting.Data x) (data_one x) (λ e small w. rw (data_reads.given e x small good w) refl) is
  setting_given shape.Octets left (of_setting.Octets octets) fit good is = alone_given shape.Octets left (of_setting.Octets octets) (octets_one octets) (λ e small w. rw (octets_reads.given e octets small good w) refl) is
  setting_given shape.Colour left (of_setting.Colour c) fit good is = alone_given shape.Colour left (of_setting.Colour c) (octets_one (colour_octets c)) (λ e small w. rw (colour_written e c small w) refl) is
  setting_given shape.Content left (of_setting.Content x) fit good is = alone_given shape.Content left (of_setting.Content x) (content_one tags table x) (λ e small w. rw ((content_reads tags table).given e x small good w) refl) is
  setting_given shape.ContentRef left (of_setting.ContentRef name) fit good is = alone_given shape.ContentRef left (of_setting.ContentRef name) (content_name_one tags table name) (λ e small w. rw ((content_name_reads tags table).given e name small good w) refl) is
  setting_given shape.Justification left (of_setting.Justification j) fit good is = alone_given shape.Justification left (of_setting.Justification j) (integer_one (pos (justification_number j))) (λ e small w. rw (justification_written e j small w) refl) is
  setting_given shape.MovementTable left (of_setting.MovementTable xs) fit good is = alone_given shape.MovementTable left (of_setting.MovementTable xs) (rows.one xs good) (λ e small w. rw (rows.given e xs small good w) refl) is
  setting_given shape.Members left (of_setting.Members ms) fit good is = alone_given shape.Members left (of_setting.Members ms) (members.one ms (list_fit fits_member is_member ms fit good)) (λ e small w. rw (members.given e ms small (list_fit fits_member is_member ms fit good) w) refl) is
  setting_given shape.ListItems left (of_setting.Members ms) fit good is = alone_given shape.ListItems left (of_setting.Members ms) (list_one (item_reads tags table) ms) (λ e small w. rw (items_written e ms small fit good w) refl) is
  setting_given shape.Positions left (of_setting.Positions xs) fit good is = alone_given shape.Positions left (of_setting.Positions xs) (positions.one xs good) (λ e small w. rw (positions.given e xs small good w) refl) is
  setting_given shape.NextScenes left (of_setting.NextScenes xs) fit good is = alone_given shape.NextScenes left (of_setting.NextScenes xs) (scenes.one xs good) (λ e small w. rw (scenes.given e xs small good w) refl) is
  setting_given _ left _ fit good is = absurd cc
