-- Fields one by one, and what is left of them.
use Rattle.std.proofs.Common.{◌≡◌, ℕ, zero, suc, ◌+◌, ◌<◌, ◌==◌, Bool, true, false, cond, ◌||◌, ◌&&◌, List, [], ◌∷◌, length, drop, Option, Some, None, if◌then◌else◌, refl, sym, ap, ◌∙◌, arith, add-one, is_some}
use Rattle.std.proofs.lemmas.Bool.{and_parts, or_parts}
use Rattle.std.proofs.lemmas.Bool.Decides.{nat_tests}
use Rattle.std.specs.List.{list_all, list_any}
use Rattle.std.specs.Str.{is_utf8}
use Rattle.std.proofs.lemmas.Str.{IsUtf8-from_is_utf8, is_utf8-from_IsUtf8}
use Rattle.csv.specs.Records.{AllText, field_at}
use Rattle.cp_model.specs.Place.{Label, label_eq, option_map}
use Rattle.std.specs.Ordering.{is_eq}
use Rattle.std.specs.Cmp.Lexicographic.{texts_ties, nat_list_eq_equiv}
use Rattle.cp_path.specs.Text.{text_cmp}
use Rattle.cp_sources.specs.declared.csv_fault.CsvFault.TheVariants.{LabelTooLong, RepeatedHeader, NoColumn, TextTooLong}
use Rattle.cp_sources.specs.CsvTrees.{header_fault, field_fault, Fields, is_long_label, is_long_text, repeated_column, field_under, has_key}
use Rattle.cp_path.proofs.Same.{text_eq-same}
use Rattle.cp_sources.specs.Steps.{column_of}

-- the field at a place is the first of those that are left
pub some_at : (fs : Fields) (i : ℕ) (f : List ℕ) → field_at fs i ≡ Some f → drop i fs ≡ f ∷ drop (i + 1) fs
unfolding field_at
some_at [] i f e = absurd (cc)
some_at (x ∷ fs) zero f e = (let same : x ≡ f = cc in ap (λ z. z ∷ fs) same)
some_at (x ∷ fs) (suc i) f e = some_at fs i f e ∙ ap (λ n. f ∷ drop n fs) (add-one i) ∙ sym (ap (λ n. f ∷ drop n (x ∷ fs)) (add-one (suc i)))

-- where there is none, none is left
pub none_at : (fs : Fields) (i : ℕ) → field_at fs i ≡ None → drop i fs ≡ []
unfolding field_at
none_at [] zero e = refl
none_at [] (suc i) e = refl
none_at (x ∷ fs) zero e = absurd (cc)
none_at (x ∷ fs) (suc i) e = none_at fs i e

-- within the list there is one
pub field_in : (fs : Fields) (i : ℕ) → field_at fs i ≡ None → i < length fs → true ≡ false
unfolding field_at
field_in [] i e l = absurd (omega (arith, l))
field_in (x ∷ fs) zero e l = absurd (cc)
field_in (x ∷ fs) (suc i) e l = field_in fs i e (omega (arith, l))

-- what no element passes, neither the first nor the others pass
pub none_pass : {X : Type 0} (f : X → Bool) (x : X) (xs : List X) → list_any f (x ∷ xs) ≡ false → (f x ≡ false) × (list_any f xs ≡ false)
none_pass f x xs e = or_parts (f x) (list_any f xs) e

and_true : (a b : Bool) → a ≡ true → b ≡ true → (a && b) ≡ true
and_true true b e f = f
and_true false b e f = absurd (cc)

-- text by each field's test
pub all_text : (fs : Fields) → AllText fs → list_all is_utf8 fs ≡ true
unfolding AllText
all_text [] h = refl
all_text (f ∷ fs) h = and_true (is_utf8 f) (list_all is_utf8 fs) (is_utf8-from_IsUtf8 f h.0) (all_text fs h.1)

pub text_all : (fs : Fields) → list_all is_utf8 fs ≡ true → AllText fs
unfolding AllText
text_all [] h = tt
text_all (f ∷ fs) h = let p = and_parts (is_utf8 f) (list_all is_utf8 fs) h in (IsUtf8-from_is_utf8 f p.0, text_all fs p.1)

not_true : (b : Bool) → (b ≡ true → true ≡ false) → b ≡ false
not_true true h = h refl
not_true false h = refl

-- no text by the tests
pub not_text : (fs : Fields) → (AllText fs → true ≡ false) → list_all is_utf8 fs ≡ false
not_text fs n = not_true (list_all is_utf8 fs) (λ h. n (text_all fs h))

-- a column is the first, or one of the others
column_case : {P : Type 0} (b : Bool) (o : Option ℕ) (i : ℕ) → (if b then Some 0 else option_map suc o) ≡ Some i → (b ≡ true → i ≡ 0 → P) → (b ≡ false → (j : ℕ) → o ≡ Some j → i ≡ suc j → P) → P
column_case true o i e first later = (let same : i ≡ 0 = cc in first refl same)
column_case false None i e first later = absurd (cc)
column_case false (Some j) i e first later = (let same : i ≡ suc j = cc in later refl j refl same)

-- the column of the key has the field under the key
pub column_holds : (k : Label) (hs : List Label) (i : ℕ) (fs : Fields) → column_of k hs ≡ Some i → length fs ≡ length hs → field_at fs i ≡ Some (field_under k hs fs)
unfolding field_at
column_holds k [] i fs e l = absurd (cc)
column_holds k (h ∷ hs) i [] e l = absurd (omega (arith, l))
column_holds k (h ∷ hs) i (f ∷ fs) e l =
    column_case (label_eq k h) (column_of k hs) i e
    (λ t same. ap (field_at (f ∷ fs)) same ∙ ap (λ b. Some (if b then f else field_under k hs fs)) (sym t))
    (λ t j c same. ap (field_at (f ∷ fs)) same ∙ column_holds k hs j fs c (omega (arith, l)) ∙ ap (λ b. Some (if b then f else field_under k hs fs)) (sym t))

-- and the key itself as its header
pub column_is : (k : Label) (hs : List Label) (i : ℕ) → column_of k hs ≡ Some i → field_at hs i ≡ Some k
unfolding field_at
column_is k [] i e = absurd (cc)
column_is k (h ∷ hs) i e =
    column_case (label_eq k h) (column_of k hs) i e
    (λ t same. ap (field_at (h ∷ hs)) same ∙ ap (λ z. Some z) (sym (text_eq-same k h t)))
    (λ t j c same. ap (field_at (h ∷ hs)) same ∙ column_is k hs j c)

-- a header is the key where there is a column of it
pub column_found : (k : Label) (hs : List Label) → list_any (label_eq k) hs ≡ is_some (column_of k hs)
column_found k [] = refl
column_found k (h ∷ hs) = elim (label_eq k h) as (λ b. (b || list_any (label_eq k) hs) ≡ is_some (if b then Some 0 else option_map suc (column_of k hs))) [ true ↦ refl | false ↦ column_found k hs ∙ by (column_of k hs) ]
  where
    by : (o : Option ℕ) → is_some o ≡ is_some (option_map suc o)
    by None = refl
    by (Some j) = refl

-- no field passes what none of them passes
pub none_pass_at : (p : List ℕ → Bool) (fs : Fields) (i : ℕ) (f : List ℕ) → list_any p fs ≡ false → field_at fs i ≡ Some f → p f ≡ false
unfolding field_at
none_pass_at p [] i f n e = absurd (cc)
none_pass_at p (x ∷ fs) zero f n e = (let same : x ≡ f = cc in ap p (sym same) ∙ (none_pass p x fs n).0)
none_pass_at p (x ∷ fs) (suc i) f n e = none_pass_at p fs i f (none_pass p x fs n).1 e

-- what is left of the fields after each read
pub read_some : (p : List ℕ → Bool) (fs : Fields) (i : ℕ) (f : List ℕ) (b : Bool) → list_any p fs ≡ list_any p (drop i fs) → field_at fs i ≡ Some f → list_any p fs ≡ (p f || list_any p (drop (i + 1) fs))
read_some p fs i f b inv e = inv ∙ ap (list_any p) (some_at fs i f e)

-- a column further on
pub column_more : (n : ℕ) (o : Option ℕ) → option_map (λ k. n + k) (option_map suc o) ≡ option_map (λ k. n + 1 + k) o
column_more n None = refl
column_more n (Some k) = ap (λ z. Some z) (omega arith)

pub column_here : (o : Option ℕ) → o ≡ option_map (λ k. 0 + k) o
column_here None = refl
column_here (Some k) = ap (λ z. Some z) (omega arith)

both_seen : (b x y : Bool) → x ≡ y → cond b true x ≡ (b || y)
both_seen true x y e = refl
both_seen false x y e = e

-- one more header was seen
pub seen_more : (q k : Label) (x y : Bool) → x ≡ y → cond (is_eq (text_cmp k q)) true x ≡ (label_eq q k || y)
seen_more q k x y e = ap (λ b. cond b true x) (sym (texts_ties k q) ∙ nat_list_eq_equiv.symm k q) ∙ both_seen (label_eq q k) x y e

-- the next header is a new one
pub repeated_more : (before : List Label) (n : ℕ) (h : Label) (hs all : List Label) → all ≡ h ∷ hs → list_any (label_eq h) before ≡ false → repeated_column before n all ≡ repeated_column (h ∷ before) (n + 1) hs
repeated_more before n h hs all e new = ap (repeated_column before n) e ∙ ap (λ b. if b then Some n else repeated_column (h ∷ before) (n + 1) hs) new

-- the next header is one that stood before
pub repeated_here : (before : List Label) (n : ℕ) (h : Label) (hs all : List Label) → all ≡ h ∷ hs → list_any (label_eq h) before ≡ true → repeated_column before n all ≡ Some n
repeated_here before n h hs all e old = ap (repeated_column before n) e ∙ ap (λ b. if b then Some n else repeated_column (h ∷ before) (n + 1) hs) old

-- ---- why a header is refused

module _ (hs : List Label) (key : Option Label) (text : list_all is_utf8 hs ≡ true) where
  pub fault_long : list_any is_long_label hs ≡ true → header_fault hs key ≡ Some LabelTooLong
  fault_long l = rw (text, l) refl

  pub fault_repeated : (n : ℕ) → list_any is_long_label hs ≡ false → repeated_column [] 1 hs ≡ Some n → header_fault hs key ≡ Some (RepeatedHeader n)
  fault_repeated n l r = rw (text, l, r) refl

  pub fault_missing : list_any is_long_label hs ≡ false → repeated_column [] 1 hs ≡ None → has_key key hs ≡ false → header_fault hs key ≡ Some NoColumn
  fault_missing l r k = rw (text, l, r, k) refl

  pub fault_none : list_any is_long_label hs ≡ false → repeated_column [] 1 hs ≡ None → has_key key hs ≡ true → header_fault hs key ≡ None
  fault_none l r k = rw (text, l, r, k) refl

-- a row is refused for its texts
pub fault_text : (hs : List Label) (key : Option Label) (n : ℕ) (fs : Fields) → length fs ≡ length hs → list_all is_utf8 fs ≡ true → list_any is_long_text fs ≡ true → field_fault hs key n fs ≡ Some TextTooLong
fault_text hs key n fs even text long =
    let equal : (length fs == length hs) ≡ true = grind (arith, nat_tests) in
    rw (equal, text, long) refl

-- the first of those that are left passes no more than the others
pub none_left_pass : {X : Type 0} (p : X → Bool) (xs : List X) (i : ℕ) (x : X) (rest : List X) → list_any p xs ≡ false → drop i xs ≡ x ∷ rest → p x ≡ false
none_left_pass p xs zero x rest n e = (none_pass p x rest (ap (list_any p) (sym e) ∙ n)).0
none_left_pass p [] (suc i) x rest n e = absurd (cc)
none_left_pass p (y ∷ xs) (suc i) x rest n e = none_left_pass p xs i x rest (none_pass p y xs n).1 e
