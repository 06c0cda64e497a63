-- One packed record after another.
use Rattle.std.proofs.Common.{◌≡◌, ℕ, ◌+◌, ◌-◌, ◌<◌, ◌≤◌, List, [], ◌∷◌, ◌++◌, refl, sym, ap, ◌∙◌, subst, append-nil, append_assoc, length, length-append, take, drop, Option, None, Some, arith}
use Rattle.std.proofs.lemmas.List.{take_at, take_all}
use Rattle.std.proofs.lemmas.List.Concat.{flat_map-append}
use Rattle.std.specs.List.{AllByRecursion, flat_map}
use Rattle.std.specs.Option.{option_map}
use Rattle.cp_path.specs.Encoding.{counted_bytes, path_bytes}
use Rattle.cp_model.specs.Place.{Path, Label, parent}
use Rattle.cp_model.proofs.Strips.{parent-snoc}
use Rattle.cp_model.specs.declared.record.Record.{Record}
use Rattle.cp_record.specs.Bytes.{record_bytes, records_bytes}
use Rattle.cp_record.specs.Kept.{IsLabel, IsPackable, IsPath, IsPathOf, BeginsWith}
use Rattle.cp_record.specs.Unpacked.{record_in, records_in, IsPacked, IsPackedOne}
use Rattle.cp_record.proofs.Kept.{all_front}
use Rattle.cp_record.proofs.Decoded.{record_in-record, records_in-bytes, packed-bytes, packed-more, records_in-more}

-- the bytes of one record begin with it
pub one-is : (bytes : List ℕ) → IsPackedOne bytes → bytes ≡ record_bytes (record_in bytes).0 ++ []
one-is bytes h = h.is ∙ sym (append-nil (record_bytes (record_in bytes).0))

pub one-begins : (bytes : List ℕ) → IsPackedOne bytes → BeginsWith record_bytes IsPackable bytes
one-begins bytes h = record { first = (record_in bytes).0; fit = h.kept; rest = []; is = one-is bytes h }

module _ (bytes : List ℕ) (r : Record) (k : IsPackable r) (e : bytes ≡ record_bytes r) where
  -- the bytes of a record are that record
  pub only-record : (record_in bytes).0 ≡ r
  only-record = ap (λ (m : Record × List ℕ). m.0) (record_in-record r [] bytes k (e ∙ sym (append-nil (record_bytes r))))

  pub packed-one : IsPackedOne bytes
  packed-one = record { is = e ∙ ap record_bytes (sym only-record); kept = subst IsPackable (sym only-record) k }

-- one more behind others
pub more-packed : (old new one : List ℕ) → IsPacked old → IsPackedOne one → new ≡ old ++ one → IsPacked new
more-packed old new one h k e = packed-more old new (record_in one).0 h k.kept (e ∙ ap (λ (l : List ℕ). old ++ l) k.is)

pub more-records : (old new one : List ℕ) → IsPacked old → IsPackedOne one → new ≡ old ++ one → records_in new ≡ records_in old ++ (record_in one).0 ∷ []
more-records old new one h k e = records_in-more old new (record_in one).0 h k.kept (e ∙ ap (λ (l : List ℕ). old ++ l) k.is)

-- the first of some packed records, and the others
pub record First (bytes : List ℕ) : Type 0 where
  pub is : Record
  pub others : List Record
  pub all : records_in bytes ≡ is ∷ others
  pub kept : IsPackable is
  pub others_kept : AllByRecursion IsPackable others
  pub bytes_are : bytes ≡ record_bytes is ++ records_bytes others

pub first-of : (bytes : List ℕ) → 0 < length bytes → IsPacked bytes → First bytes
unfolding records_bytes
first-of bytes some h = go (records_in bytes) refl h.kept h.is
  where
    go : (rs : List Record) → records_in bytes ≡ rs → AllByRecursion IsPackable rs → bytes ≡ records_bytes rs → First bytes
    go [] e k is = let none : length bytes ≡ 0 = ap length is in absurd (omega (arith, none, some))
    go (r ∷ rs) e k is = record { is = r; others = rs; all = e; kept = k.0; others_kept = k.1; bytes_are = is }

pub first-begins : (bytes : List ℕ) → 0 < length bytes → IsPacked bytes → BeginsWith record_bytes IsPackable bytes
first-begins bytes some h = let f = first-of bytes some h in record { first = f.is; fit = f.kept; rest = records_bytes f.others; is = f.bytes_are }

module _ (bytes behind : List ℕ) (some : 0 < length bytes) (h : IsPacked bytes) (follows : (r : Record) (rest : List ℕ) → IsPackable r → bytes ≡ record_bytes r ++ rest → behind ≡ rest) where
  first : First bytes
  first = first-of bytes some h

  left : behind ≡ records_bytes first.others
  left = follows first.is (records_bytes first.others) first.kept first.bytes_are

  size : length bytes ≡ length (record_bytes first.is) + length behind
  size = ap length first.bytes_are ∙ length-append (record_bytes first.is) (records_bytes first.others) ∙ ap (λ l. length (record_bytes first.is) + length l) (sym left)

  -- what follows is less
  pub fewer : length behind ≤ length bytes
  fewer = let s = size in omega (arith, s)

  -- and is packed records
  pub rest-packed : IsPacked behind
  rest-packed = packed-bytes first.others behind first.others_kept left

  module _ (one : List ℕ) (front : one ≡ take (length bytes - length behind) bytes) where
    one_bytes : one ≡ record_bytes first.is
    one_bytes =
        let n : length (record_bytes first.is) ≡ length bytes - length behind = let s = size in omega (arith, s) in
        front ∙ ap (take (length bytes - length behind)) first.bytes_are ∙ take_at (record_bytes first.is) (records_bytes first.others) (length bytes - length behind) n

    read : record_in one ≡ (first.is, [])
    read = record_in-record first.is [] one first.kept (one_bytes ∙ sym (append-nil (record_bytes first.is)))

    is_first : (record_in one).0 ≡ first.is
    is_first = ap (λ (m : Record × List ℕ). m.0) read

    -- what stands before it is one
    pub one-packed : IsPackedOne one
    one-packed = record { is = one_bytes ∙ ap record_bytes (sym is_first); kept = subst IsPackable (sym is_first) first.kept }

    -- these are all
    pub first-and-rest : records_in bytes ≡ (record_in one).0 ∷ records_in behind
    first-and-rest = first.all ∙ ap (λ (r : Record). r ∷ first.others) (sym is_first) ∙ ap (λ (rs : List Record). (record_in one).0 ∷ rs) (sym (records_in-bytes first.others behind first.others_kept left))

-- no bytes are no records
pub none-left : (bytes : List ℕ) → length bytes ≡ 0 → records_in bytes ≡ []
unfolding records_in
none-left [] e = refl
none-left (b ∷ bytes) e = absurd (omega (arith, e))

-- ---- the labels of a path

-- what stands behind the number of the labels
tail-is : (path xs : List ℕ) (n : ℕ) → path ≡ n ∷ xs → take (length path - 1) (drop 1 path) ≡ xs
tail-is path xs n e = ap (λ (l : List ℕ). take (length l - 1) (drop 1 l)) e ∙ take_all (length (n ∷ xs) - 1) xs (omega arith)

-- what stands before the rest
pub front-of : (tail front behind : List ℕ) → tail ≡ front ++ behind → take (length tail - length behind) tail ≡ front
front-of tail front behind e =
    let size : length tail ≡ length front + length behind = ap length e ∙ length-append front behind in
    let n : length front ≡ length tail - length behind = omega (arith, size) in
    ap (take (length tail - length behind)) e ∙ take_at front behind (length tail - length behind) n

pub front-less : (tail front behind : List ℕ) → tail ≡ front ++ behind → length behind ≤ length tail
front-less tail front behind e = let size : length tail ≡ length front + length behind = ap length e ∙ length-append front behind in omega (arith, size)

module _ (path : List ℕ) (p : Path) (rest : List ℕ) (is : path ≡ path_bytes p ++ rest) where
  -- the labels, and what follows
  pub labels-tail : take (length path - 1) (drop 1 path) ≡ flat_map counted_bytes p ++ rest
  labels-tail = tail-is path (flat_map counted_bytes p ++ rest) (length p) is

-- a path of some labels has a last one
pub record Last (p : Path) : Type 0 where
  pub above : Path
  pub label : Label
  pub is : p ≡ above ++ label ∷ []

pub last-of : (p : Path) → 0 < length p → Last p
last-of [] h = absurd (omega (arith, h))
last-of (a ∷ []) h = record { above = []; label = a; is = refl }
last-of (a ∷ b ∷ p) h = let l = last-of (b ∷ p) (omega arith) in record { above = a ∷ l.above; label = l.label; is = ap (λ (q : Path). a ∷ q) l.is }

module _ (path : List ℕ) (p : Path) (rest : List ℕ) (is : path ≡ path_bytes p ++ rest) (l : Last p) where
  -- all labels but the last, and what follows
  pub above-tail : take (length path - 1) (drop 1 path) ≡ flat_map counted_bytes l.above ++ (counted_bytes l.label ++ rest)
  above-tail =
      labels-tail path p rest is
      ∙ ap (λ (q : Path). flat_map counted_bytes q ++ rest) l.is
      ∙ ap (λ (x : List ℕ). x ++ rest) (flat_map-append counted_bytes l.above (l.label ∷ []) ∙ ap (λ (x : List ℕ). flat_map counted_bytes l.above ++ x) (append-nil (counted_bytes l.label)))
      ∙ append_assoc (flat_map counted_bytes l.above) (counted_bytes l.label) rest

  above_length : length p ≡ length l.above + 1
  above_length = ap length l.is ∙ length-append l.above (l.label ∷ [])

  -- the labels above are so many
  pub above-begins : (count : ℕ) → IsPath p → count ≡ length p → BeginsWith (flat_map counted_bytes) (IsPathOf (count - 1)) (take (length path - 1) (drop 1 path))
  above-begins count fit e =
      let n = above_length in
      let few = fit.few in
      record {
        first = l.above;
        fit = record { path = record { labels = all_front IsLabel l.above (l.label ∷ []) (subst (λ (q : Path). AllByRecursion IsLabel q) l.is fit.labels); few = omega (arith, n, few) }; many = omega (arith, n, e) };
        rest = counted_bytes l.label ++ rest;
        is = above-tail;
      }

  pub above-many : (count : ℕ) → count ≡ length p → count - 1 ≡ length l.above
  above-many count e = let n = above_length in omega (arith, n, e)

  pub above-is : option_map (flat_map counted_bytes) (parent p) ≡ Some (flat_map counted_bytes l.above)
  above-is = ap (λ (q : Path). option_map (flat_map counted_bytes) (parent q)) l.is ∙ ap (option_map (flat_map counted_bytes)) (parent-snoc l.above l.label)
