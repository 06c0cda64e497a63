-- Labels, paths, names and places as formats one after another.
use Rattle.std.proofs.Common.{◌≡◌, ℕ, suc, ◌+◌, ◌-◌, ◌<◌, ◌≤◌, false, List, [], ◌∷◌, ◌++◌, refl, sym, ap, subst, length, arith}
use Rattle.std.proofs.lemmas.Bool.Decides.{nat_tests}
use Rattle.std.proofs.lemmas.List.Sums.{sum_by-cons}
use Rattle.std.specs.List.{flat_map, AllByRecursion}
use Rattle.cp_path.specs.Encoding.{counted_bytes}
use Rattle.cp_path.specs.Place.{Label, Path, over_limit, size}
use Rattle.cp_path.specs.declared.limits.TheConstants.{LABELS_MAX, LOC_MAX, NAME_MAX}
use Rattle.cp_path.specs.declared.loc.Loc.{Loc}
use Rattle.cp_record.specs.Kept.{IsLabel}
use Rattle.cp_format.specs.declared.fault.FormatFault.{FormatFault}
use Rattle.cp_format.specs.Faults.{FaultAt}
use Rattle.cp_format.specs.Formats.{Format, ReadsAt, FailsAt}
use Rattle.cp_format.specs.Parts.{count_format, text_format, name_text_format, label_format, labels_size, labels_format, path_format, name_format, place_format}
use Rattle.cp_format.proofs.Formats.{HasSome, IsPlain, Alike, both, has_both, has_alike, plain_both, plain_alike}
use Rattle.cp_format.proofs.Counted.{IsCounted, SoFar, has_counted, plain_counted, next_fails, next_read}
use Rattle.cp_format.proofs.Faults.{fault_by}
use Rattle.cp_format.proofs.Leaves.{has_count, plain_count}
use Rattle.cp_format.proofs.Texts.{has_text, plain_text}
use Rattle.cp_format.proofs.Names.{name_parts, name_utf8, has_name_text, plain_name_text}

-- ---- labels

-- a label is its length and its text
pub alike_label : (most : ℕ) → Alike (both (count_format 0 most) text_format) (label_format most) (λ z. z.1)
alike_label most = record {
  there = λ z f. ((record { text = f.1.0; short = omega (arith, f.0.2, f.1.1) }, omega (arith, f.0.1, f.1.1)), ap (λ n. n ∷ z.1) f.1.1, refl);
  back = λ a f. ((length a, a), ((omega arith, f.1, omega (arith, f.0.short)), (f.0.text, refl)), refl);
}

pub plain_label : (most : ℕ) → IsPlain (label_format most)
plain_label most = plain_alike (both (count_format 0 most) text_format) (label_format most) (λ z. z.1) (alike_label most) (plain_both (count_format 0 most) text_format (plain_count 0 most) (λ n f. plain_text n))

pub has_label : (most : ℕ) → HasSome (label_format most)
has_label most = has_alike (both (count_format 0 most) text_format) (label_format most) (λ z. z.1) (alike_label most) (has_both (count_format 0 most) text_format (has_count 0 most (omega arith) (omega arith)) (λ n f. has_text n))

pub size_cons : (a : Label) (p : Path) → labels_size (a ∷ p) ≡ (length a + 1) + labels_size p
size_cons a p = sum_by-cons (λ b. length b + 1) a p

-- each label takes something
labels_some : (p : Path) → length p ≤ labels_size p
labels_some [] = omega arith
labels_some (a ∷ p) = omega (arith, labels_some p, size_cons a p)

-- so many labels have room
abbrev pub HaveRoom : ℕ → ℕ → Type 0
HaveRoom n room = n ≤ room

-- the next label, where n others are still to come
abbrev pub next_label : ℕ → ℕ → Format Label
next_label n room = label_format (room - suc n)

-- the room that a label leaves
abbrev pub room_after : ℕ → Label → ℕ
room_after room a = room - (length a + 1)

no_others : (p : Path) → length p ≡ 0 → p ≡ []
no_others [] e = refl
no_others (a ∷ p) e = absurd (omega (arith, e))

label_parts : (n room : ℕ) (p : Path) → AllByRecursion IsLabel p → length p ≡ suc n → labels_size p ≤ room → (z : Label × Path) × (both (next_label n room) (λ a. labels_format n (room_after room a))).fit z × (◌≡◌ {A = Path} (z.0 ∷ z.1) p)
label_parts n room [] all count fits = absurd (omega (arith, count))
label_parts n room (a ∷ p) all count fits = ((a, p), ((all.0, omega (arith, fits, count, labels_some p, size_cons a p)), (all.1, omega (arith, count), omega (arith, fits, size_cons a p))), refl)

-- labels are one after another in the room that is left
pub labels_counted : IsCounted HaveRoom next_label room_after labels_format
labels_counted = record {
  none = λ room. ((tt, refl, omega arith), refl, refl);
  only = λ room p f. no_others p f.1;
  more = λ n room h. record {
    there = λ z f. (((f.0.0, f.1.0), ap suc f.1.1, omega (arith, h, f.0.1, f.1.2, size_cons z.0 z.1)), refl, refl);
    back = λ p f. label_parts n room p f.0 f.1 f.2;
  };
  keeps = λ n room a h f. omega (arith, h, f.1);
  some = λ n room h. has_label (room - suc n);
  plain = λ n room h. plain_label (room - suc n);
  judged = λ n room h x f g. tt;
}

pub has_labels : (count room : ℕ) → count ≤ room → HasSome (labels_format count room)
has_labels count room le = has_counted HaveRoom next_label room_after labels_format labels_counted count room le

-- ---- labels in a loop

module _ (bytes : List ℕ) (at count room k : ℕ) (path : Path) (next left : ℕ) (s : SoFar HaveRoom labels_format bytes at count room k path next left) (lt : k < count) where
  others : suc (count - (k + 1)) ≡ count - k
  others = omega (arith, lt)

  -- a fault in the next label is one of all
  pub label_fault : (e : FormatFault) → FaultAt (label_format (left - (count - k))) bytes next e → FaultAt (labels_format count room) bytes at e
  label_fault e f =
      fault_by (label_format (left - (count - k))) (labels_format count room) bytes next at
      (λ n g. next_fails HaveRoom next_label room_after labels_format labels_counted bytes at count room k path next left s lt n (subst (λ m. FailsAt (label_format (left - m)) bytes next n) (sym others) g)) e f

  -- one label more is read
  pub label_read : (a : Label) (behind : ℕ) → ReadsAt (label_format (left - (count - k))) bytes next a behind → (now : Path) (less : ℕ) → now ≡ path ++ a ∷ [] → less ≡ left - (length a + 1) → SoFar HaveRoom labels_format bytes at count room (k + 1) now behind less
  label_read a behind r now less e f =
      next_read HaveRoom next_label room_after labels_format labels_counted bytes at count room k path next left s lt a behind (subst (λ m. ReadsAt (label_format (left - m)) bytes next a behind) (sym others) r) now less e f

-- ---- paths

-- a path is the number of its labels and these
pub alike_path : (room : ℕ) → Alike (both (count_format 0 LABELS_MAX) (λ n. labels_format n room)) (path_format room) (λ z. z.1)
alike_path room = record {
  there = λ z f. ((record { labels = f.1.0; few = omega (arith, f.0.1, f.1.1) }, f.1.2), ap (λ n. n ∷ flat_map counted_bytes z.1) f.1.1, refl);
  back = λ p f. ((length p, p), ((omega arith, f.0.few, omega (arith, f.0.few)), (f.0.labels, refl, f.1)), refl);
}

pub plain_path : (room : ℕ) → LABELS_MAX ≤ room → IsPlain (path_format room)
plain_path room le =
    plain_alike (both (count_format 0 LABELS_MAX) (λ n. labels_format n room)) (path_format room) (λ z. z.1) (alike_path room)
    (plain_both (count_format 0 LABELS_MAX) (λ n. labels_format n room) (plain_count 0 LABELS_MAX) (λ n f. plain_counted HaveRoom next_label room_after labels_format labels_counted n room (omega (arith, f.1, le))))

pub has_path : (room : ℕ) → HasSome (path_format room)
has_path room = record { first = []; fit = (record { labels = tt; few = omega arith }, omega arith) }

-- ---- names and places

-- a name is its length and its bytes
pub alike_name : Alike (both (count_format 1 NAME_MAX) name_text_format) name_format (λ z. z.1)
alike_name = record {
  there = λ z f. (record { text = name_utf8 z.1 f.1.0; name = f.1.0 }, ap (λ n. n ∷ z.1) f.1.1, refl);
  back = λ a f. let p = name_parts a f.name in ((length a, a), ((p.some, p.few, omega (arith, p.few)), (f.name, refl)), refl);
}

pub plain_name : IsPlain name_format
plain_name = plain_alike (both (count_format 1 NAME_MAX) name_text_format) name_format (λ z. z.1) alike_name (plain_both (count_format 1 NAME_MAX) name_text_format (plain_count 1 NAME_MAX) (λ n f. plain_name_text n))

pub has_name : HasSome name_format
has_name = has_alike (both (count_format 1 NAME_MAX) name_text_format) name_format (λ z. z.1) alike_name (has_both (count_format 1 NAME_MAX) name_text_format (has_count 1 NAME_MAX (omega arith) (omega arith)) (λ n f. has_name_text n f.0 f.1))

-- the limits of a place
pub within_limits : (q : Loc) → over_limit q ≡ false → (length q.path ≤ LABELS_MAX) × (size q ≤ LOC_MAX)
within_limits q e = (grind (arith, nat_tests), grind (arith, nat_tests))

pub is_within : (q : Loc) → length q.path ≤ LABELS_MAX → size q ≤ LOC_MAX → over_limit q ≡ false
is_within q few small = grind (arith, nat_tests)

-- a place is a name, and a path in what is left of the room
pub alike_place : Alike (both name_format (λ a. path_format (LOC_MAX - length a))) place_format (λ z. record { db = z.0; path = z.1 })
alike_place = record {
  there = λ z f.
      let p = name_parts z.0 f.0.name in
      ((record { name = f.0; path = f.1.0 }, is_within (record { db = z.0; path = z.1 }) f.1.0.few (omega (arith, f.1.1, p.few))), refl, refl);
  back = λ q f. let w = within_limits q f.1 in ((q.db, q.path), (f.0.name, (f.0.path, omega (arith, w.1))), refl);
}

pub has_place : HasSome place_format
has_place = has_alike (both name_format (λ a. path_format (LOC_MAX - length a))) place_format (λ z. record { db = z.0; path = z.1 }) alike_place (has_both name_format (λ a. path_format (LOC_MAX - length a)) has_name (λ a f. has_path (LOC_MAX - length a)))

pub plain_place : IsPlain place_format
plain_place = plain_alike (both name_format (λ a. path_format (LOC_MAX - length a))) place_format (λ z. record { db = z.0; path = z.1 }) alike_place (plain_both name_format (λ a. path_format (LOC_MAX - length a)) plain_name (λ a f. let p = name_parts a f.name in plain_path (LOC_MAX - length a) (omega (arith, p.few))))
