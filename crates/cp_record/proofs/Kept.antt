-- Labels and records, read one after another.
use Rattle.std.proofs.Common.{◌≡◌, ℕ, zero, suc, ◌+◌, ◌<◌, ◌≤◌, ◌^◌, false, List, [], ◌∷◌, ◌++◌, Option, None, Some, is_some, Result, Ok, Err, OnOk, is_err, refl, sym, ap, ◌∙◌, subst, append_assoc, append-nil, length, length-append, take, drop, get_or, arith}
use Rattle.std.proofs.lemmas.List.{take_more, drop_more, take_all, drop_all, length-take-le}
use Rattle.std.proofs.lemmas.Option.{slice_get-get_or}
use Rattle.std.specs.List.{flat_map, AllByRecursion, slice_get}
use Rattle.std.specs.Option.{option_map}
use Rattle.std.specs.Int.{to_be_bytes, w64}
use Rattle.cp_path.specs.Encoding.{counted_bytes, path_bytes, place_bytes}
use Rattle.cp_path.specs.declared.limits.TheConstants.{LABELS_MAX}
use Rattle.cp_path.specs.Place.{Path, Label, target}
use Rattle.cp_path.specs.declared.loc.Loc.{Loc}
use Rattle.cp_model.specs.declared.record.Record.{Record}
use Rattle.cp_model.specs.declared.record.RecOp.{RecOp}
use Rattle.cp_record.specs.Bytes.{letter, source_bytes, record_bytes, records_bytes}
use Rattle.cp_record.specs.Kept.{IsPath, IsSourceOf, IsPackable, IsAny, BeginsWith}

-- what holds on success holds where there is no error
pub on_ok : {T E P : Type 0} (r : Result T E) → is_err r ≡ false → OnOk r P → P
on_ok (Ok x) e p = p
on_ok (Err x) e p = absurd (cc)

-- the next label, and what follows it
pub next_label : (p : Path) (rest now : List ℕ) (k : ℕ) → k < length p → now ≡ flat_map counted_bytes (drop k p) ++ rest → now ≡ counted_bytes (get_or p k []) ++ (flat_map counted_bytes (drop (k + 1) p) ++ rest)
next_label p rest now k h e =
    e ∙ ap (λ (l : Path). flat_map counted_bytes l ++ rest) (drop_more p k [] h) ∙ append_assoc (counted_bytes (get_or p k [])) (flat_map counted_bytes (drop (k + 1) p)) rest

-- one label more
pub one_more : (p path new : Path) (a : Label) (k : ℕ) → k < length p → path ≡ take k p → a ≡ get_or p k [] → new ≡ path ++ a ∷ [] → new ≡ take (k + 1) p
one_more p path new a k h e f g = g ∙ ap (λ (l : Path). l ++ a ∷ []) e ∙ ap (λ (b : Label). take k p ++ b ∷ []) f ∙ sym (take_more p k [] h)

-- all of the labels
pub all_labels : (p path : Path) (k : ℕ) → length p ≤ k → path ≡ take k p → path ≡ p
all_labels p path k h e = e ∙ take_all k p h

-- nothing but the rest is left
pub none_left : (p : Path) (rest now : List ℕ) (k : ℕ) → length p ≤ k → now ≡ flat_map counted_bytes (drop k p) ++ rest → now ≡ rest
none_left p rest now k h e = e ∙ ap (λ (l : Path). flat_map counted_bytes l ++ rest) (drop_all k p h)

-- ---- one record

-- a record's parts, written one after another
pub written : (old tid path source a b c new : List ℕ) (l : ℕ) → a ≡ old ++ tid → b ≡ a ++ l ∷ [] → c ≡ b ++ path → new ≡ c ++ source → new ≡ old ++ (tid ++ (l ∷ (path ++ source)))
written old tid path source a b c new l e f g h = rw (h, g, f, e) (simp append_assoc)

regroup : (tid path source rest : List ℕ) (l : ℕ) → (tid ++ (l ∷ (path ++ source))) ++ rest ≡ tid ++ (l ∷ (path ++ (source ++ rest)))
regroup tid path source rest l = append_assoc tid (l ∷ (path ++ source)) rest ∙ ap (λ (t : List ℕ). tid ++ (l ∷ t)) (append_assoc path source rest)

-- the parts of a record that is followed by something
pub parts : (r : Record) (rest bytes : List ℕ) → bytes ≡ record_bytes r ++ rest → bytes ≡ to_be_bytes w64 r.tid ++ (letter r.op ∷ (path_bytes r.loc.path ++ (source_bytes r.src ++ rest)))
unfolding record_bytes
parts r rest bytes e = e ∙ regroup (to_be_bytes w64 r.tid) (path_bytes r.loc.path) (source_bytes r.src) rest (letter r.op)

-- a record of T is made of these parts
pub made : (r : Record) (t : ℕ) (o : RecOp) (db : List ℕ) (p : Path) (s : Option Loc) → IsPackable r → t ≡ r.tid → o ≡ r.op → db ≡ target → p ≡ r.loc.path → s ≡ r.src →
    ◌≡◌ {A = Record} (record { tid = t; op = o; loc = record { db = db; path = p }; src = s }) r
made r t o db p s k e f d g h =
    let loc : ◌≡◌ {A = Loc} (record { db = db; path = p }) r.loc = (λ i. record { db = d i; path = g i }) ∙ sym k.place in
    λ i. record { tid = e i; op = f i; loc = loc i; src = h i }

-- the source of a record is there where one is given
pub source_there : {B : Type 0} (q : Option B) (f : B → Loc) (g : Loc → Loc) → is_some (option_map g (option_map f q)) ≡ is_some q
source_there None f g = refl
source_there (Some q) f g = refl

-- ---- records

-- what holds of each element of two lists holds of both together
pub all_append : {X : Type 0} (P : X → Type 0) (xs ys : List X) → AllByRecursion P xs → AllByRecursion P ys → AllByRecursion P (xs ++ ys)
all_append P [] ys h k = k
all_append P (x ∷ xs) ys h k = (h.0, all_append P xs ys h.1 k)

-- what holds of each element holds of those in front
pub all_front : {X : Type 0} (P : X → Type 0) (xs ys : List X) → AllByRecursion P (xs ++ ys) → AllByRecursion P xs
all_front P [] ys h = tt
all_front P (x ∷ xs) ys h = (h.0, all_front P xs ys h.1)

-- what holds of each element holds of those from a number on
pub all_from : {X : Type 0} (P : X → Type 0) (xs : List X) (k : ℕ) → AllByRecursion P xs → AllByRecursion P (drop k xs)
all_from P [] zero h = tt
all_from P [] (suc k) h = tt
all_from P (x ∷ xs) zero h = h
all_from P (x ∷ xs) (suc k) h = all_from P xs k h.1

-- what holds of each element holds of one
pub all_at : {X : Type 0} (P : X → Type 0) (xs : List X) (k : ℕ) (d : X) → k < length xs → AllByRecursion P xs → P (get_or xs k d)
all_at P [] k d le h = absurd (omega (arith, le))
all_at P (x ∷ xs) zero d le h = h.0
all_at P (x ∷ xs) (suc k) d le h = all_at P xs k d (omega (arith, le)) h.1

all_suc : {X : Type 0} (P : X → Type 0) (xs : List X) (k : ℕ) (d : X) → k < length xs → AllByRecursion P (take k xs) → P (get_or xs k d) → AllByRecursion P (take (suc k) xs)
all_suc P [] k d le h p = absurd (omega (arith, le))
all_suc P (x ∷ xs) zero d le h p = (p, tt)
all_suc P (x ∷ xs) (suc k) d le h p = (h.0, all_suc P xs k d (omega (arith, le)) h.1 p)

-- what holds of those in front and of the next holds of one more
pub all_more : {X : Type 0} (P : X → Type 0) (xs : List X) (k : ℕ) (d : X) → k < length xs → AllByRecursion P (take k xs) → P (get_or xs k d) → AllByRecursion P (take (k + 1) xs)
all_more P xs k d le h p = let n : suc k ≡ k + 1 = omega arith in subst (λ m. AllByRecursion P (take m xs)) n (all_suc P xs k d le h p)

-- a path that is the front of another has room for one label more
pub front_few : (p path : Path) (k : ℕ) → path ≡ take k p → k < length p → length p ≤ LABELS_MAX → length path < LABELS_MAX
front_few p path k e le few = let size : length path ≡ k = ap length e ∙ length-take-le k p (omega (arith, le)) in omega (arith, size, le, few)

-- the record of a number stands behind those before it
pub next_record : (rs : List Record) (k : ℕ) (d : Record) → k < length rs → records_bytes (drop k rs) ≡ record_bytes (get_or rs k d) ++ records_bytes (drop (k + 1) rs)
unfolding records_bytes
next_record rs k d h = ap (λ (l : List Record). flat_map record_bytes l) (drop_more rs k d h)

-- the record of a number, and the bytes from it on
pub record Numbered (rs : List Record) (k : ℕ) : Type 0 where
  pub is : Record
  pub at : slice_get rs k ≡ Some is
  pub kept : IsPackable is
  pub bytes : records_bytes (drop k rs) ≡ record_bytes is ++ records_bytes (drop (k + 1) rs)

pub numbered : (rs : List Record) (k : ℕ) → AllByRecursion IsPackable rs → k < length rs → Numbered rs k
numbered [] k h le = absurd (omega (arith, le))
numbered (r ∷ rs) k h le = record { is = get_or (r ∷ rs) k r; at = slice_get-get_or (r ∷ rs) k r le; kept = all_at IsPackable (r ∷ rs) k r le h; bytes = next_record (r ∷ rs) k r le }

-- the bytes from a record on begin with it
pub begins_numbered : (rs : List Record) (bytes : List ℕ) (k : ℕ) → Numbered rs k → bytes ≡ records_bytes (drop k rs) → BeginsWith record_bytes IsPackable bytes
begins_numbered rs bytes k n e = record { first = n.is; fit = n.kept; rest = records_bytes (drop (k + 1) rs); is = e ∙ n.bytes }

-- ---- the parts of the record that is read

module _ (bytes : List ℕ) (b : BeginsWith record_bytes IsPackable bytes) where
  -- its Tid
  pub has_tid : 8 ≤ length bytes
  has_tid =
      let more = letter b.first.op ∷ (path_bytes b.first.loc.path ++ (source_bytes b.first.src ++ b.rest)) in
      let size : length bytes ≡ 8 + length more = ap length (parts b.first b.rest bytes b.is) ∙ length-append (to_be_bytes w64 b.first.tid) more in
      omega (arith, size)

  module _ (t : ℕ) (after : List ℕ) (tid : (n : ℕ) (rest : List ℕ) → n < 2 ^ 64 → bytes ≡ to_be_bytes w64 n ++ rest → (t ≡ n) × (after ≡ rest)) where
    after_tid : after ≡ letter b.first.op ∷ (path_bytes b.first.loc.path ++ (source_bytes b.first.src ++ b.rest))
    after_tid = (tid b.first.tid (letter b.first.op ∷ (path_bytes b.first.loc.path ++ (source_bytes b.first.src ++ b.rest))) b.fit.tid (parts b.first b.rest bytes b.is)).1

    -- its letter
    pub begins_op : BeginsWith (λ o. letter o ∷ []) IsAny after
    begins_op = record { first = b.first.op; fit = tt; rest = path_bytes b.first.loc.path ++ (source_bytes b.first.src ++ b.rest); is = after_tid }

    module _ (o : RecOp) (behind : List ℕ) (op : (p : RecOp) (rest : List ℕ) → after ≡ letter p ∷ rest → (o ≡ p) × (behind ≡ rest)) where
      after_op : (o ≡ b.first.op) × (behind ≡ path_bytes b.first.loc.path ++ (source_bytes b.first.src ++ b.rest))
      after_op = op b.first.op (path_bytes b.first.loc.path ++ (source_bytes b.first.src ++ b.rest)) after_tid

      -- its path
      pub begins_path : BeginsWith path_bytes IsPath behind
      begins_path = record { first = b.first.loc.path; fit = b.fit.path; rest = source_bytes b.first.src ++ b.rest; is = after_op.1 }

      -- its source
      pub begins_source : (left : List ℕ) → ((p : Path) (rest : List ℕ) → behind ≡ path_bytes p ++ rest → left ≡ rest) → BeginsWith source_bytes (IsSourceOf o) left
      begins_source left path = record {
        first = b.first.src;
        fit = subst (λ x. IsSourceOf x b.first.src) (sym after_op.0) b.fit.source;
        rest = b.rest;
        is = path b.first.loc.path (source_bytes b.first.src ++ b.rest) after_op.1;
      }

-- the records that are read, and those that are left
pub record Left (rs seen : List Record) (now : List ℕ) : Type 0 where
  pub next : List Record
  pub kept : AllByRecursion IsPackable next
  pub bytes : now ≡ records_bytes next
  pub all : seen ++ next ≡ rs

-- a record takes some bytes
pub some_bytes : (q : Record) (qs : List Record) → 0 < length (records_bytes (q ∷ qs))
unfolding records_bytes record_bytes
some_bytes q qs = omega arith

-- the bytes of a record are some
pub some_more : (q : Record) → 0 < length (record_bytes q)
unfolding record_bytes
some_more q = omega arith

-- what is left begins with a record, if any bytes are left
pub left_begins : (rs seen : List Record) (now : List ℕ) → 0 < length now → Left rs seen now → BeginsWith record_bytes IsPackable now
unfolding records_bytes
left_begins rs seen now n l = go l.next l.kept l.bytes
  where
    go : (qs : List Record) → AllByRecursion IsPackable qs → now ≡ records_bytes qs → BeginsWith record_bytes IsPackable now
    go [] k e = let none : length now ≡ 0 = ap length e in absurd (omega arith)
    go (q ∷ qs) k e = record { first = q; fit = k.0; rest = records_bytes qs; is = e }

-- the bytes behind a record are fewer
pub left_smaller : (rs seen : List Record) (now behind : List ℕ) (r : Record) → 0 < length now → Left rs seen now
    → ((q : Record) (rest : List ℕ) → IsPackable q → now ≡ record_bytes q ++ rest → (r ≡ q) × (behind ≡ rest)) → length behind < length now
left_smaller rs seen now behind r n l f =
    let b = left_begins rs seen now n l in
    let size : length now ≡ length (record_bytes b.first) + length b.rest = ap length b.is ∙ length-append (record_bytes b.first) b.rest in
    let same : length behind ≡ length b.rest = ap length (f b.first b.rest b.fit b.is).1 in
    omega (arith, size, same, some_more b.first)

-- one record is read
pub left_one : (rs seen new : List Record) (now behind : List ℕ) (r : Record) → 0 < length now → Left rs seen now
    → ((q : Record) (rest : List ℕ) → IsPackable q → now ≡ record_bytes q ++ rest → (r ≡ q) × (behind ≡ rest)) → new ≡ seen ++ r ∷ [] → Left rs new behind
unfolding records_bytes
left_one rs seen new now behind r n l f g = go l.next l.kept l.bytes l.all
  where
    go : (qs : List Record) → AllByRecursion IsPackable qs → now ≡ records_bytes qs → seen ++ qs ≡ rs → Left rs new behind
    go [] k e s = let none : length now ≡ 0 = ap length e in absurd (omega arith)
    go (q ∷ qs) k e s =
        let x = f q (records_bytes qs) k.0 e in
        record {
          next = qs;
          kept = k.1;
          bytes = x.1;
          all = ap (λ (l : List Record). l ++ qs) g ∙ append_assoc seen (r ∷ []) qs ∙ ap (λ (z : Record). seen ++ z ∷ qs) x.0 ∙ s;
        }

-- all records are read
pub left_none : (rs seen : List Record) (now : List ℕ) → length now ≡ 0 → Left rs seen now → seen ≡ rs
left_none rs seen now n l = go l.next l.bytes l.all
  where
    go : (qs : List Record) → now ≡ records_bytes qs → seen ++ qs ≡ rs → seen ≡ rs
    go [] e s = sym (append-nil seen) ∙ s
    go (q ∷ qs) e s = let some = some_bytes q qs in let size : length now ≡ length (records_bytes (q ∷ qs)) = ap length e in absurd (omega arith)

-- ---- the parts of the record that is written

-- the parts written make the record
pub record_written : (old a b c new tid source : List ℕ) (l : ℕ) (r : Record) → tid ≡ to_be_bytes w64 r.tid → l ≡ letter r.op → source ≡ source_bytes r.src →
    a ≡ old ++ tid → b ≡ a ++ l ∷ [] → c ≡ b ++ path_bytes r.loc.path → new ≡ c ++ source → new ≡ old ++ record_bytes r
unfolding record_bytes
record_written old a b c new tid source l r t m s e f g h =
    written old tid (path_bytes r.loc.path) source a b c new l e f g h
    ∙ ap (λ (x : List ℕ). old ++ (x ++ (l ∷ (path_bytes r.loc.path ++ source)))) t
    ∙ ap (λ (x : ℕ). old ++ (to_be_bytes w64 r.tid ++ (x ∷ (path_bytes r.loc.path ++ source)))) m
    ∙ ap (λ (x : List ℕ). old ++ (to_be_bytes w64 r.tid ++ (letter r.op ∷ (path_bytes r.loc.path ++ x)))) s

-- no source takes no bytes
pub no_source : {B : Type 0} (q : Option B) (f : B → Loc) (g : Loc → Loc) → q ≡ None → [] ≡ source_bytes (option_map g (option_map f q))
no_source q f g e = ap (λ o. source_bytes (option_map g (option_map f o))) (sym e)

-- a source takes the bytes of the place below it
pub the_source : {B : Type 0} (q : Option B) (x : B) (f : B → Loc) (g : Loc → Loc) → q ≡ Some x → place_bytes (g (f x)) ≡ source_bytes (option_map g (option_map f q))
the_source q x f g e = ap (λ o. source_bytes (option_map g (option_map f o))) (sym e)

-- records are no more than their bytes
pub fewer_than_bytes : (rs : List Record) → length rs ≤ length (records_bytes rs)
unfolding records_bytes
fewer_than_bytes [] = omega arith
fewer_than_bytes (r ∷ rs) = omega (arith, some_more r, fewer_than_bytes rs, length-append (record_bytes r) (records_bytes rs))
