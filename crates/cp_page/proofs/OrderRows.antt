-- What rows are read as in the three orders.
use Rattle.std.proofs.Common.{arith, ◌≡◌, ◌<◌, ◌≤◌, ◌+◌, ◌-◌, ◌^◌, ◌∙◌, ap, sym, refl, subst, ℕ, zero, suc, false, List, [], ◌∷◌, ◌++◌, append-nil, get_or, inl, inr, take, drop, length, length-append, length-drop, Option}
use Rattle.std.specs.Prelude.{IfSome}
use Rattle.std.specs.Int.{from_be_bytes, to_be_bytes, w64}
use Rattle.std.proofs.lemmas.Bool.{cases_lt}
use Rattle.std.proofs.lemmas.Nat.{be_bytes_8}
use Rattle.std.proofs.lemmas.List.{take-append-drop, length-take-le, get_or-drop, get_or-take, get_or_past}
use Rattle.cp_path.specs.Place.{over_limit}
use Rattle.cp_path.specs.declared.loc.Loc.{Loc}
use Rattle.cp_model.specs.declared.record.Record.{Record}
use Rattle.cp_model.specs.declared.record.RecOp.{RecOp}
use Rattle.cp_record.specs.Bytes.{letter, source_bytes}
use Rattle.cp_record.specs.Kept.{IsSourceOf}
use Rattle.cp_format.specs.Faults.{FaultAt}
use Rattle.cp_format.specs.Formats.{Format, ReadsAt, FailsAt}
use Rattle.cp_format.specs.declared.fault.FormatFault.{FormatFault}
use Rattle.cp_format.specs.declared.fault.FormatFault.TheVariants.{BadByte}
use Rattle.cp_format.specs.Parts.{letter_format, source_format}
use Rattle.cp_format.specs.Spelled.{IsSpelled}
use Rattle.cp_format.proofs.Leaves.{plain_letter}
use Rattle.cp_format.proofs.Records.{plain_source}
use Rattle.cp_page.specs.KeyReading.{IsTargetPlace}
use Rattle.cp_page.specs.Orders.{place_tid, tid_place, mark_bytes, IsMark, by_place, by_step, by_loser, IsLoss}
use Rattle.cp_page.specs.PlaceKeys.{place_key}
use Rattle.cp_page.specs.Rows.{row_of}
use Rattle.cp_page.specs.declared.row.PageRow.{PageRow}

-- ---- lists in two parts

same_back : (a b c d : List ℕ) → length b ≡ length d → a ++ b ≡ c ++ d → (a ≡ c) × (b ≡ d)
same_back [] b [] d l e = (refl, e)
same_back [] b (y ∷ c) d l e = let k = ap length e ∙ length-append (y ∷ c) d in absurd (omega (arith, k, l))
same_back (x ∷ a) b [] d l e = let k = sym (length-append (x ∷ a) b) ∙ ap length e in absurd (omega (arith, k, l))
same_back (x ∷ a) b (y ∷ c) d l e =
    let head : x ≡ y = cc in
    let tail : a ++ b ≡ c ++ d = cc in
    let rest = same_back a b c d l tail in
    (ap (λ z. z ∷ a) head ∙ ap (λ z. y ∷ z) rest.0, rest.1)

same_front : (a b c d : List ℕ) → length a ≡ length c → a ++ b ≡ c ++ d → (a ≡ c) × (b ≡ d)
same_front a b c d l e =
    let k = sym (length-append a b) ∙ ap length e ∙ length-append c d in
    same_back a b c d (omega (arith, k, l)) e

pub parts_are : (key front last : List ℕ) (n : ℕ) → front ≡ take n key → last ≡ drop n key → key ≡ front ++ last
parts_are key front last n first second = sym (take-append-drop n key) ∙ ap (λ l. l ++ drop n key) (sym first) ∙ ap (λ l. front ++ l) (sym second)

-- the number in eight bytes
pub number_of : (part : List ℕ) (t : ℕ) → length part ≡ 8 → ((i : ℕ) → get_or part i 0 < 256) → t ≡ from_be_bytes w64 part → (t < 2 ^ 64) × (to_be_bytes w64 t ≡ part)
number_of part t eight are is = (subst (λ n. n < 2 ^ 64) (sym is) (omega (arith, are 0, are 1, are 2, are 3, are 4, are 5, are 6, are 7)), be_bytes_8 part t eight are is)

-- the last eight bytes of a key
pub last_are : (key front last : List ℕ) → last ≡ drop (length key - 8) key → length front + 8 ≡ length key → ((i : ℕ) → get_or key i 0 < 256) → (length last ≡ 8) × ((i : ℕ) → get_or last i 0 < 256)
last_are key front last is size are =
    let d = length-drop (length key - 8) key in
    let l = ap length is in
    (omega (arith, d, l, size), λ i. subst (λ b. b < 256) (sym (ap (λ x. get_or x i 0) is ∙ get_or-drop (length key - 8) key i 0)) (are ((length key - 8) + i)))

-- the first eight
pub first_are : (key first behind : List ℕ) → first ≡ take 8 key → length behind + 8 ≡ length key → ((i : ℕ) → get_or key i 0 < 256) → (length first ≡ 8) × ((i : ℕ) → get_or first i 0 < 256)
first_are key first behind is size are =
    let l = ap length is ∙ length-take-le 8 key (omega (arith, size)) in (
      l,
      λ i. elim (cases_lt i 8) [
        | inl lt ↦ subst (λ b. b < 256) (sym (ap (λ x. get_or x i 0) is ∙ get_or-take 8 key i 0 lt)) (are i)
        | inr le ↦ subst (λ b. b < 256) (sym (get_or_past first i 0 (omega (arith, l, le)))) (omega arith)
      ],
    )

same_row : (k key v value : List ℕ) → k ≡ key → v ≡ value → row_of k v ≡ row_of key value
same_row k key v value first second = ap (λ x. row_of x v) first ∙ ap (row_of key) second

-- ---- the value

pub bad_byte : {X : Type 0} (F : Format X) (bytes : List ℕ) (at : ℕ) (e : FormatFault) (n : ℕ) → e ≡ BadByte n → FaultAt F bytes at e → FailsAt F bytes at n
bad_byte F bytes at e n is fault = subst (FaultAt F bytes at) is fault

pub empty_list : (l : List ℕ) → length l ≡ 0 → l ≡ []
empty_list [] e = refl
empty_list (x ∷ l) e = absurd (omega (arith, e))

module _ (value : List ℕ) where
  pub no_letter : (n : ℕ) → FailsAt letter_format value 0 n → (m : RecOp × Option Loc) → IsMark m → mark_bytes m ≡ value → ⊥
  no_letter n fails m fit e = fails.stops.none m.0 (source_bytes m.1) (record { fit = tt; checked = tt; is = sym e })

  module _ (op : RecOp) (at : ℕ) (read : ReadsAt letter_format value 0 op at) where
    letter_is : value ≡ letter op ∷ drop at value
    letter_is = read.reads.is

    apart : (m : RecOp × Option Loc) → mark_bytes m ≡ value → (m.0 ≡ op) × (source_bytes m.1 ≡ drop at value)
    apart m e = plain_letter m.0 op (source_bytes m.1) (drop at value) tt tt (e ∙ letter_is)

    source_fit : (m : RecOp × Option Loc) → IsMark m → m.0 ≡ op → IsSourceOf op m.1 × IfSome m.1 (λ q. over_limit q ≡ false)
    source_fit m fit same = subst (λ o. IsSourceOf o m.1 × IfSome m.1 (λ q. over_limit q ≡ false)) same fit

    pub no_source : (n : ℕ) → FailsAt (source_format op) value at n → (m : RecOp × Option Loc) → IsMark m → mark_bytes m ≡ value → ⊥
    no_source n fails m fit e =
        let found = apart m e in
        fails.stops.none m.1 [] (record { fit = source_fit m fit found.0; checked = tt; is = sym found.1 ∙ sym (append-nil (source_bytes m.1)) })

    module _ (source : Option Loc) (end : ℕ) (behind : ReadsAt (source_format op) value at source end) where
      pub more_after : (end ≡ length value → ⊥) → (m : RecOp × Option Loc) → IsMark m → mark_bytes m ≡ value → ⊥
      more_after other m fit e =
          let found = apart m e in
          let none = (plain_source op m.1 source [] (drop end value) (source_fit m fit found.0) behind.reads.fit (append-nil (source_bytes m.1) ∙ found.1 ∙ behind.reads.is)).1 in
          let size : 0 ≡ length value - end = ap length none ∙ length-drop end value in
          let within = behind.within in
          other (omega (arith, size, within))

      none_left : end ≡ length value → drop end value ≡ []
      none_left all = empty_list (drop end value) (let l = length-drop end value in omega (arith, l, all))

      pub a_mark : end ≡ length value → IsMark (op, source) × (mark_bytes (op, source) ≡ value)
      a_mark all =
          let rest : drop at value ≡ source_bytes source = behind.reads.is ∙ ap (λ l. source_bytes source ++ l) (none_left all) ∙ append-nil (source_bytes source) in
          (behind.reads.fit, sym (letter_is ∙ ap (λ l. letter op ∷ l) rest))

-- ---- rows

target_of : (r : Record) → IsSpelled r → IsTargetPlace r.loc
target_of r fit = record { place = fit.packable.place; path = fit.packable.path; fits = fit.place }

spelled : (tid : ℕ) (op : RecOp) (loc : Loc) (src : Option Loc) → tid < 2 ^ 64 → IsTargetPlace loc → IsMark (op, src) → IsSpelled (record { tid = tid; op = op; loc = loc; src = src })
spelled tid op loc src small place mark = record {
  packable = record { tid = small; place = place.place; path = place.path; source = mark.0 };
  place = place.fits;
  source = mark.1;
}

module _ (key value : List ℕ) where
  pub no_mark_by_place : ((m : RecOp × Option Loc) → IsMark m → mark_bytes m ≡ value → ⊥) → (r : Record) → IsSpelled r → by_place r ≡ row_of key value → ⊥
  no_mark_by_place none r fit e = none (r.op, r.src) (fit.packable.source, fit.source) (ap (λ x. x.value) e)

  pub no_mark_by_step : ((m : RecOp × Option Loc) → IsMark m → mark_bytes m ≡ value → ⊥) → (r : Record) → IsSpelled r → by_step r ≡ row_of key value → ⊥
  no_mark_by_step none r fit e = none (r.op, r.src) (fit.packable.source, fit.source) (ap (λ x. x.value) e)

  too_short : (a : List ℕ) (t : ℕ) (l : ℕ) → l ≡ length a + 8 → l < 8 → ⊥
  too_short a t l is short = omega (arith, is, short)

  place_tid_size : (q : Loc) (t : ℕ) → length (place_tid q t) ≡ length (place_key q) + 8
  place_tid_size q t = length-append (place_key q) (to_be_bytes w64 t)

  tid_place_size : (q : Loc) (t : ℕ) → length (tid_place q t) ≡ length (place_key q) + 8
  tid_place_size q t = let l = length-append (to_be_bytes w64 t) (place_key q) in omega (arith, l)

  pub short_by_place : length key < 8 → (r : Record) → IsSpelled r → by_place r ≡ row_of key value → ⊥
  short_by_place short r fit e = too_short (place_key r.loc) r.tid (length key) (sym (ap (λ x. length x.key) e) ∙ place_tid_size r.loc r.tid) short

  pub short_by_step : length key < 8 → (r : Record) → IsSpelled r → by_step r ≡ row_of key value → ⊥
  short_by_step short r fit e = too_short (place_key r.loc) r.tid (length key) (sym (ap (λ x. length x.key) e) ∙ tid_place_size r.loc r.tid) short

  pub short_loss : length key < 8 → (l : Loc × ℕ) → IsLoss l → by_loser l ≡ row_of key value → ⊥
  short_loss short l fit e = too_short (place_key l.0) l.1 (length key) (sym (ap (λ x. length x.key) e) ∙ place_tid_size l.0 l.1) short

  pub no_value : (value ≡ [] → ⊥) → (l : Loc × ℕ) → IsLoss l → by_loser l ≡ row_of key value → ⊥
  no_value some l fit e = some (sym (ap (λ x. x.value) e))

  module _ (front last : List ℕ) (is : key ≡ front ++ last) (eight : length last ≡ 8) where
    pub no_place_by_place : ((q : Loc) → IsTargetPlace q → place_key q ≡ front → ⊥) → (r : Record) → IsSpelled r → by_place r ≡ row_of key value → ⊥
    no_place_by_place none r fit e =
        none r.loc (target_of r fit) (same_back (place_key r.loc) (to_be_bytes w64 r.tid) front last (sym eight) (ap (λ x. x.key) e ∙ is)).0

    pub no_place_lost : ((q : Loc) → IsTargetPlace q → place_key q ≡ front → ⊥) → (l : Loc × ℕ) → IsLoss l → by_loser l ≡ row_of key value → ⊥
    no_place_lost none l fit e =
        none l.0 fit.0 (same_back (place_key l.0) (to_be_bytes w64 l.1) front last (sym eight) (ap (λ x. x.key) e ∙ is)).0

    place_is : (loc : Loc) (tid : ℕ) → to_be_bytes w64 tid ≡ last → place_key loc ≡ front → place_tid loc tid ≡ key
    place_is loc tid number place = ap (λ l. l ++ to_be_bytes w64 tid) place ∙ ap (λ l. front ++ l) number ∙ sym is

    pub a_record_by_place : (tid : ℕ) (op : RecOp) (loc : Loc) (src : Option Loc) → tid < 2 ^ 64 → to_be_bytes w64 tid ≡ last → IsTargetPlace loc × (place_key loc ≡ front) → IsMark (op, src) × (mark_bytes (op, src) ≡ value)
        → IsSpelled (record { tid = tid; op = op; loc = loc; src = src }) × (by_place (record { tid = tid; op = op; loc = loc; src = src }) ≡ row_of key value)
    a_record_by_place tid op loc src small number place mark =
        (spelled tid op loc src small place.0 mark.0, same_row (place_tid loc tid) key (mark_bytes (op, src)) value (place_is loc tid number place.1) mark.1)

    pub a_loss : (tid : ℕ) (loc : Loc) → tid < 2 ^ 64 → to_be_bytes w64 tid ≡ last → IsTargetPlace loc × (place_key loc ≡ front) → value ≡ [] → IsLoss (loc, tid) × (by_loser (loc, tid) ≡ row_of key value)
    a_loss tid loc small number place none = ((place.0, small), same_row (place_tid loc tid) key [] value (place_is loc tid number place.1) (sym none))

  module _ (first behind : List ℕ) (is : key ≡ first ++ behind) (eight : length first ≡ 8) where
    pub no_place_by_step : ((q : Loc) → IsTargetPlace q → place_key q ≡ behind → ⊥) → (r : Record) → IsSpelled r → by_step r ≡ row_of key value → ⊥
    no_place_by_step none r fit e =
        none r.loc (target_of r fit) (same_front (to_be_bytes w64 r.tid) (place_key r.loc) first behind (sym eight) (ap (λ x. x.key) e ∙ is)).1

    pub a_record_by_step : (tid : ℕ) (op : RecOp) (loc : Loc) (src : Option Loc) → tid < 2 ^ 64 → to_be_bytes w64 tid ≡ first → IsTargetPlace loc × (place_key loc ≡ behind) → IsMark (op, src) × (mark_bytes (op, src) ≡ value)
        → IsSpelled (record { tid = tid; op = op; loc = loc; src = src }) × (by_step (record { tid = tid; op = op; loc = loc; src = src }) ≡ row_of key value)
    a_record_by_step tid op loc src small number place mark =
        let key_is : tid_place loc tid ≡ key = ap (λ l. l ++ place_key loc) number ∙ ap (λ l. first ++ l) place.1 ∙ sym is in
        (spelled tid op loc src small place.0 mark.0, same_row (tid_place loc tid) key (mark_bytes (op, src)) value key_is mark.1)
