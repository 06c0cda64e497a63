-- What is read has the names of each object in order, each once, and whole numbers within their range.
use Rattle.std.proofs.Common.{◌≡◌, ◌≤◌, ◌<◌, ◌^◌, ℕ, Bool, true, false, cond, List, Ok, drop, slice_index, nat_lt, nat_le, ◌&&◌, ◌==◌, if◌then◌else◌, refl, ap, ◌∙◌, subst, arith}
use Rattle.std.proofs.lemmas.Int.{ints}
use Rattle.std.proofs.lemmas.Bool.{and_parts}
use Rattle.std.proofs.lemmas.Bool.Decides.{nat_tests}
use Rattle.std.specs.Float.{binary64, float_is_finite}
use Rattle.fast_float.specs.Text.{minus, Parts, scan, digits_of, nearest, with_sign}
use Rattle.std.proofs.lemmas.Cmp.{nat_list_cmp_total}
use Rattle.std.specs.Ordering.{match_ordering, ordering_reverse}
use Rattle.std.specs.Option.{ok_or, option_map, option_and_then}
use Rattle.cp_sources.specs.declared.json_fault.JsonFault.TheVariants.{NotJson}
use Rattle.std.specs.Str.{is_utf8}
use Rattle.std.specs.declared.cmp.Ordering.TheVariants.{Less, Equal, Greater}
use Rattle.std.specs.declared.option.Option.{Option}
use Rattle.std.specs.declared.option.Option.TheVariants.{None, Some}
use Rattle.cp_path.specs.Text.{text_cmp}
use Rattle.json.specs.Json as json
use Rattle.json.specs.Lex.{tokens}
use Rattle.serde_json.specs.Data.{Num, unsigned, negative, float, Data, null, boolean, number, string, array, object, Items, no_items, item, Members, no_members, member, put}
use Rattle.serde_json.specs.Read.{is_integer, float_of, number_from, number_of, of_json, of_items, of_members, max_depth, read}
use Rattle.cp_model.specs.Tree.{IsNumber}
use Rattle.cp_sources.specs.declared.json_fault.JsonFault.{JsonFault}
use Rattle.cp_sources.specs.Places.{number_content}
use Rattle.cp_sources.specs.JsonTrees.{json_reading}
use Rattle.cp_sources.specs.Growing.{or_node}
use Rattle.cp_sources.specs.Ordered.{AllAbove, HasRisingMembers, ItemsHaveRisingMembers, AreRisingMembers}

map_parts : {A B : Type 0} (f : A → B) (o : Option A) (b : B) → option_map f o ≡ Some b → (a : A) × ((o ≡ Some a) × (f a ≡ b))
map_parts f None b h = absurd (cc)
map_parts f (Some a) b h = (a, (refl, cc))

then_parts : {A B : Type 0} (f : A → Option B) (o : Option A) (b : B) → option_and_then f o ≡ Some b → (a : A) × ((o ≡ Some a) × (f a ≡ Some b))
then_parts f None b h = absurd (cc)
then_parts f (Some a) b h = (a, (refl, h))

above_all : (k l : List ℕ) (ms : Members) → text_cmp k l ≡ Less → AllAbove l ms → AllAbove k ms
above_all k l no_members lt h = tt
above_all k l (member m d ms) lt h = (nat_list_cmp_total.trans k l m lt h.0, above_all k l ms lt h.1)

above_put : (l k : List ℕ) (d : Data) (ms : Members) → text_cmp l k ≡ Less → AllAbove l ms → AllAbove l (put k d ms)
above_put l k d no_members lt h = (lt, tt)
above_put l k d (member m e ms) lt h =
    elim (text_cmp k m) as (λ o. AllAbove l (match_ordering o (member k d (member m e ms)) (member m d ms) (member m e (put k d ms)))) [
      | Less ↦ (lt, h)
      | Equal ↦ (h.0, h.1)
      | Greater ↦ (h.0, above_put l k d ms lt h.1)
    ]

put_ordered : (k : List ℕ) (d : Data) (ms : Members) → HasRisingMembers d → AreRisingMembers ms → AreRisingMembers (put k d ms)
put_ordered k d no_members od om = (tt, od, tt)
put_ordered k d (member m e ms) od om =
    elim (text_cmp k m) as (λ o. text_cmp k m ≡ o → AreRisingMembers (match_ordering o (member k d (member m e ms)) (member m d ms) (member m e (put k d ms)))) [
      | Less ↦ λ lt. ((lt, above_all k m ms lt om.0), od, om)
      | Equal ↦ λ _. (om.0, od, om.2)
      | Greater ↦ λ gt. (above_put m k d ms (nat_list_cmp_total.antisymm m k ∙ ap ordering_reverse gt) om.0, om.1, put_ordered k d ms od om.2)
    ] refl

-- ---- numbers

abbrev InRange : Num → Type 0
InRange n = IsNumber (or_node (number_content n))

-- the first number if the test holds, else what the other answer is
chosen : (b : Bool) (m n : Num) (o : Option Num) → (b ≡ true → InRange m) → (o ≡ Some n → InRange n) → (if b then Some m else o) ≡ Some n → InRange n
chosen true m n o h k e = (let same : m ≡ n = cc in subst InRange same (h refl))
chosen false m n o h k e = k e

read_float : (sign : Bool) (p : Parts) (n : Num) → float_of sign p ≡ Some n → InRange n
read_float sign p n e = chosen (float_is_finite (nearest binary64 sign p)) (float (nearest binary64 sign p)) n None (λ _. tt) (λ e. absurd (cc)) e

plain_range : (m : ℕ) → nat_lt m (2 ^ 64) ≡ true → InRange (unsigned m)
plain_range m h = let l : m < 2 ^ 64 = grind (arith, nat_tests) in (omega (arith, ints), omega (arith, ints, l))

signed_range : (m : ℕ) → nat_lt 0 m ≡ true → nat_le m (2 ^ 63) ≡ true → InRange (negative (with_sign true m))
signed_range m h k = let g : 0 < m = grind (arith, nat_tests) in let l : m ≤ 2 ^ 63 = grind (arith, nat_tests) in (omega (arith, ints, g, l), omega (arith, ints, g, l))

number_range : (sign : Bool) (p : Parts) (n : Num) → number_from sign p ≡ Some n → InRange n
number_range false p n e =
    chosen (is_integer p && nat_lt (digits_of p) (2 ^ 64)) (unsigned (digits_of p)) n (float_of false p)
    (λ b. plain_range (digits_of p) (and_parts (is_integer p) (nat_lt (digits_of p) (2 ^ 64)) b).1) (read_float false p n) e
number_range true p n e =
    chosen (is_integer p && nat_lt 0 (digits_of p) && nat_le (digits_of p) (2 ^ 63)) (negative (with_sign true (digits_of p))) n (float_of true p)
    (λ b. let x = and_parts (is_integer p && nat_lt 0 (digits_of p)) (nat_le (digits_of p) (2 ^ 63)) b in signed_range (digits_of p) (and_parts (is_integer p) (nat_lt 0 (digits_of p)) x.0).1 x.1) (read_float true p n) e

-- a whole number that is read is within its range
read_number : (s : List ℕ) (n : Num) → number_of s ≡ Some n → InRange n
unfolding number_of
read_number s n e =
    elim (slice_index s 0 == minus) as (λ b. (if b then number_from true (scan (drop 1 s)) else number_from false (scan s)) ≡ Some n → InRange n) [
      | true ↦ λ e. number_range true (scan (drop 1 s)) n e
      | false ↦ λ e. number_range false (scan s) n e
    ] e

-- ---- values

mutual
  json_ordered : (j : json.Json) (d : Data) → of_json j ≡ Some d → HasRisingMembers d
  json_ordered json.null d h = let e : null ≡ d = cc in subst HasRisingMembers e tt
  json_ordered (json.boolean b) d h = let e : boolean b ≡ d = cc in subst HasRisingMembers e tt
  json_ordered (json.number s) d h = let m = map_parts number (number_of s) d h in subst HasRisingMembers m.1.1 (read_number s m.0 m.1.0)
  json_ordered (json.string s) d h = let e : string s ≡ d = cc in subst HasRisingMembers e tt
  json_ordered (json.array js) d h = let m = map_parts array (of_items js) d h in subst HasRisingMembers m.1.1 (items_ordered js m.0 m.1.0)
  json_ordered (json.object ms) d h = let m = map_parts object (of_members ms no_members) d h in subst HasRisingMembers m.1.1 (members_ordered ms no_members m.0 tt m.1.0)

  items_ordered : (js : json.Items) (ds : Items) → of_items js ≡ Some ds → ItemsHaveRisingMembers ds
  items_ordered json.no_items ds h = let e : no_items ≡ ds = cc in subst ItemsHaveRisingMembers e tt
  items_ordered (json.item j js) ds h =
      let a = then_parts (λ d. option_map (item d) (of_items js)) (of_json j) ds h in
      let b = map_parts (item a.0) (of_items js) ds a.1.1 in
      subst ItemsHaveRisingMembers b.1.1 (json_ordered j a.0 a.1.0, items_ordered js b.0 b.1.0)

  members_ordered : (js : json.Members) (found ms : Members) → AreRisingMembers found → of_members js found ≡ Some ms → AreRisingMembers ms
  members_ordered json.no_members found ms o h = let e : found ≡ ms = cc in subst AreRisingMembers e o
  members_ordered (json.member k j js) found ms o h =
      let a = then_parts (λ d. of_members js (put k d found)) (of_json j) ms h in
      members_ordered js (put k a.0 found) ms (put_ordered k a.0 found (json_ordered j a.0 a.1.0) o) a.1.1

read_some : (b : Bool) (o : Option Data) (e : JsonFault) (d : Data) → ok_or (cond b o None) e ≡ Ok d → o ≡ Some d
read_some true (Some x) e d h = let same : x ≡ d = cc in ap (λ z. Some z) same
read_some true None e d h = absurd (cc)
read_some false o e d h = absurd (cc)

-- a value that is read is in order
pub read_ordered : (text : List ℕ) (d : Data) → json_reading text ≡ Ok d → HasRisingMembers d
read_ordered text d h =
    let a = then_parts of_json (option_and_then (λ p. json.if_last p.0 p.1) (json.value max_depth (tokens text))) d (read_some (is_utf8 text) (read text) NotJson d h) in
    json_ordered a.0 d a.1.1
