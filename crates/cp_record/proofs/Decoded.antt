-- The records in the bytes of records are those records.
use Rattle.std.proofs.Common.{◌≡◌, ℕ, zero, suc, ◌+◌, ◌-◌, ◌<◌, ◌≤◌, List, [], ◌∷◌, ◌++◌, Option, None, Some, refl, sym, ap, ◌∙◌, subst, append_assoc, append-nil, length, length-append, take, drop, arith}
use Rattle.std.proofs.lemmas.List.{take_at, drop_at}
use Rattle.std.proofs.lemmas.List.Concat.{flat_map-append}
use Rattle.std.proofs.lemmas.Nat.{from_be_bytes-to_be_bytes_8}
use Rattle.std.specs.List.{flat_map, AllByRecursion}
use Rattle.std.specs.Int.{to_be_bytes, from_be_bytes, w64}
use Rattle.cp_path.specs.Encoding.{counted_bytes, path_bytes, place_bytes}
use Rattle.cp_path.specs.declared.loc.Loc.{Loc}
use Rattle.cp_model.specs.Place.{Path, at_target}
use Rattle.cp_model.specs.declared.record.Record.{Record}
use Rattle.cp_model.specs.declared.record.RecOp.{RecOp}
use Rattle.cp_model.specs.declared.record.RecOp.TheVariants as op
use Rattle.cp_record.specs.Bytes.{letter, source_bytes, record_bytes, records_bytes}
use Rattle.cp_record.specs.Kept.{IsSourceOf, IsPackable}
use Rattle.cp_record.specs.Unpacked.{text_in, labels_in, path_in, place_in, source_in, op_in, record_with, record_behind, record_in, records_within, records_in, IsPacked}
use Rattle.cp_record.proofs.Kept.{parts, some_bytes, all_append, all_front}

-- a text behind its length
text_in-counted : (a rest : List ℕ) → text_in (counted_bytes a ++ rest) ≡ (a, rest)
text_in-counted a rest =
    let front : take (length a) (a ++ rest) ≡ a = take_at a rest (length a) refl in
    let back : drop (length a) (a ++ rest) ≡ rest = drop_at a rest (length a) refl in
    λ i. (front i, back i)

-- a label, and so many more
abbrev labels_behind : ℕ → List ℕ × List ℕ → Path × List ℕ
labels_behind n t = (t.0 ∷ (labels_in n t.1).0, (labels_in n t.1).1)

abbrev behind_label : List ℕ → Path × List ℕ → Path × List ℕ
behind_label a m = (a ∷ m.0, m.1)

-- labels, one behind another
labels_in-labels : (p : Path) (rest : List ℕ) → labels_in (length p) (flat_map counted_bytes p ++ rest) ≡ (p, rest)
labels_in-labels [] rest = refl
labels_in-labels (a ∷ p) rest =
    ap (λ (bytes : List ℕ). labels_in (suc (length p)) bytes) (append_assoc (counted_bytes a) (flat_map counted_bytes p) rest)
    ∙ ap (labels_behind (length p)) (text_in-counted a (flat_map counted_bytes p ++ rest))
    ∙ ap (behind_label a) (labels_in-labels p rest)

-- a path behind the number of its labels
path_in-path : (p : Path) (rest : List ℕ) → path_in (path_bytes p ++ rest) ≡ (p, rest)
path_in-path p rest = labels_in-labels p rest

abbrev path_behind : List ℕ × List ℕ → Loc × List ℕ
path_behind t = (record { db = t.0; path = (path_in t.1).0 }, (path_in t.1).1)

abbrev behind_name : List ℕ → Path × List ℕ → Loc × List ℕ
behind_name a m = (record { db = a; path = m.0 }, m.1)

-- a name and a path
place_in-place : (q : Loc) (rest : List ℕ) → place_in (place_bytes q ++ rest) ≡ (q, rest)
place_in-place q rest =
    ap place_in (append_assoc (counted_bytes q.db) (path_bytes q.path) rest)
    ∙ ap path_behind (text_in-counted q.db (path_bytes q.path ++ rest))
    ∙ ap (behind_name q.db) (path_in-path q.path rest)

abbrev copied : Loc × List ℕ → Option Loc × List ℕ
copied m = (Some m.0, m.1)

-- the source of a copy
source_in-source : (o : RecOp) (q : Option Loc) (rest : List ℕ) → IsSourceOf o q → source_in o (source_bytes q ++ rest) ≡ (q, rest)
source_in-source op.I None rest h = refl
source_in-source op.D None rest h = refl
source_in-source op.K None rest h = refl
source_in-source op.C None rest h = let no = h.copied in absurd (cc)
source_in-source op.I (Some q) rest h = let no = h.copied in absurd (cc)
source_in-source op.D (Some q) rest h = let no = h.copied in absurd (cc)
source_in-source op.K (Some q) rest h = let no = h.copied in absurd (cc)
source_in-source op.C (Some q) rest h = ap copied (place_in-place q rest)

op_in-letter : (o : RecOp) → op_in (letter o) ≡ o
op_in-letter op.I = refl
op_in-letter op.C = refl
op_in-letter op.D = refl
op_in-letter op.K = refl

abbrev source_behind : Record → Path × List ℕ → Record × List ℕ
source_behind r m = (record { tid = r.tid; op = r.op; loc = at_target m.0; src = (source_in r.op m.1).0 }, (source_in r.op m.1).1)

abbrev behind_parts : Record → Loc → Option Loc × List ℕ → Record × List ℕ
behind_parts r l m = (record { tid = r.tid; op = r.op; loc = l; src = m.0 }, m.1)

-- a record of this Tid and operation
record_of-parts : (r : Record) (rest : List ℕ) → IsPackable r → record_with r.tid r.op (path_bytes r.loc.path ++ (source_bytes r.src ++ rest)) ≡ (r, rest)
record_of-parts r rest k =
    ap (source_behind r) (path_in-path r.loc.path (source_bytes r.src ++ rest))
    ∙ ap (behind_parts r (at_target r.loc.path)) (source_in-source r.op r.src rest k.source)
    ∙ ap (λ (l : Loc). behind_parts r l (r.src, rest)) (sym k.place)

-- the first of some records
pub record_in-record : (r : Record) (rest bytes : List ℕ) → IsPackable r → bytes ≡ record_bytes r ++ rest → record_in bytes ≡ (r, rest)
unfolding record_in
record_in-record r rest bytes k e =
    let tid = to_be_bytes w64 r.tid in
    let more : List ℕ = path_bytes r.loc.path ++ (source_bytes r.src ++ rest) in
    let whole : bytes ≡ tid ++ (letter r.op ∷ more) = parts r rest bytes e in
    let front : take 8 bytes ≡ tid = ap (take 8) whole ∙ take_at tid (letter r.op ∷ more) 8 refl in
    let back : drop 8 bytes ≡ letter r.op ∷ more = ap (drop 8) whole ∙ drop_at tid (letter r.op ∷ more) 8 refl in
    ap (λ (n : ℕ). record_behind n (drop 8 bytes)) (ap (from_be_bytes w64) front ∙ from_be_bytes-to_be_bytes_8 r.tid k.tid)
    ∙ ap (record_behind r.tid) back
    ∙ ap (λ (o : RecOp). record_with r.tid o more) (op_in-letter r.op)
    ∙ record_of-parts r rest k

first_within : (n : ℕ) (bytes rest : List ℕ) (r : Record) → IsPackable r → 0 < length bytes → length bytes ≤ n → bytes ≡ record_bytes r ++ rest → records_within n bytes ≡ r ∷ records_within (n - 1) rest
first_within zero bytes rest r k some le e = absurd (omega (arith, some, le))
first_within (suc n) [] rest r k some le e = absurd (omega (arith, some))
first_within (suc n) (b ∷ bytes) rest r k some le e =
    let less : n ≡ suc n - 1 = omega arith in
    ap (λ (m : Record × List ℕ). m.0 ∷ records_within n m.1) (record_in-record r rest (b ∷ bytes) k e) ∙ ap (λ (m : ℕ). r ∷ records_within m rest) less

within_none : (n : ℕ) → records_within n [] ≡ []
within_none zero = refl
within_none (suc n) = refl

all_within : (n : ℕ) (rs : List Record) → AllByRecursion IsPackable rs → length (records_bytes rs) ≤ n → records_within n (records_bytes rs) ≡ rs
unfolding records_bytes
all_within n [] k le = within_none n
all_within n (r ∷ rs) k le =
    let some = some_bytes r rs in
    let first = some_bytes r [] in
    let size : length (records_bytes (r ∷ rs)) ≡ length (record_bytes r) + length (records_bytes rs) = length-append (record_bytes r) (records_bytes rs) in
    let one : length (records_bytes (r ∷ [])) ≡ length (record_bytes r) = ap length (append-nil (record_bytes r)) in
    first_within n (records_bytes (r ∷ rs)) (records_bytes rs) r k.0 some le refl
    ∙ ap (λ (l : List Record). r ∷ l) (all_within (n - 1) rs k.1 (omega (arith, le, size, one, first)))

-- the records in the bytes of records
pub records_in-bytes : (rs : List Record) (bytes : List ℕ) → AllByRecursion IsPackable rs → bytes ≡ records_bytes rs → records_in bytes ≡ rs
unfolding records_in
records_in-bytes rs bytes k e = ap (λ (l : List ℕ). records_within (length l) l) e ∙ all_within (length (records_bytes rs)) rs k (omega arith)

-- the bytes of records that can be kept
pub packed-bytes : (rs : List Record) (bytes : List ℕ) → AllByRecursion IsPackable rs → bytes ≡ records_bytes rs → IsPacked bytes
packed-bytes rs bytes k e =
    let same = records_in-bytes rs bytes k e in
    record { is = e ∙ ap records_bytes (sym same); kept = subst (λ l. AllByRecursion IsPackable l) (sym same) k }

module _ (old new : List ℕ) (r : Record) (h : IsPacked old) (k : IsPackable r) (e : new ≡ old ++ record_bytes r) where
  bytes_more : new ≡ records_bytes (records_in old ++ r ∷ [])
  unfolding records_bytes
  bytes_more = e ∙ ap (λ (l : List ℕ). l ++ record_bytes r) h.is ∙ ap (λ (l : List ℕ). records_bytes (records_in old) ++ l) (sym (append-nil (record_bytes r))) ∙ sym (flat_map-append record_bytes (records_in old) (r ∷ []))

  all_kept : AllByRecursion IsPackable (records_in old ++ r ∷ [])
  all_kept = all_append IsPackable (records_in old) (r ∷ []) h.kept (k, tt)

  -- one record more
  pub packed-more : IsPacked new
  packed-more = packed-bytes (records_in old ++ r ∷ []) new all_kept bytes_more

  pub records_in-more : records_in new ≡ records_in old ++ r ∷ []
  records_in-more = records_in-bytes (records_in old ++ r ∷ []) new all_kept bytes_more

module _ (old new : List ℕ) (rs qs : List Record) (n : ℕ) (h : IsPacked old) (all : records_in old ≡ rs ++ qs) (size : n ≡ length (records_bytes rs)) (e : new ≡ take n old) where
  bytes_front : new ≡ records_bytes rs
  unfolding records_bytes
  bytes_front = e ∙ ap (take n) h.is ∙ ap (λ (l : List Record). take n (records_bytes l)) all ∙ ap (take n) (flat_map-append record_bytes rs qs) ∙ take_at (records_bytes rs) (records_bytes qs) n (sym size)

  front_kept : AllByRecursion IsPackable rs
  front_kept = all_front IsPackable rs qs (subst (λ l. AllByRecursion IsPackable l) all h.kept)

  -- the records in front
  pub packed-front : IsPacked new
  packed-front = packed-bytes rs new front_kept bytes_front

  pub records_in-front : records_in new ≡ rs
  records_in-front = records_in-bytes rs new front_kept bytes_front
