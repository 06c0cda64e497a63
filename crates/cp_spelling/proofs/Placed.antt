-- The texts that the parts take from the beginning of a name are those of places.
use Rattle.cp_path.specs.declared.limits.TheConstants.{NAME_MAX}
use Rattle.std.proofs.Common.{◌≡◌, ℕ, ◌+◌, ◌<◌, ◌≤◌, List, [], ◌∷◌, ◌++◌, Bool, true, false, ◌&&◌, ◌||◌, ◌==◌, nat_lt, nat_le, length, refl, ap, sym, ◌∙◌, arith, cond, Option, Some, None, subst, append-nil, append_assoc, flat_map, length-append}
use Rattle.std.proofs.lemmas.Bool.{and_parts, ltb-true, lt-ltb, leb-true, le-leb, eqb-true}
use Rattle.std.proofs.lemmas.Bool.Decides.{nat_tests}
use Rattle.std.proofs.lemmas.Grind.{flat_map-append}
use Rattle.std.specs.List.{list_all}
use Rattle.cp_path.specs.Text.{is_letter, is_name_byte, is_name}
use Rattle.cp_path.specs.Place.{Label, Path, child_place}
use Rattle.cp_path.specs.Spelling.{escaped_text, raw_place, label_word, place_text}
use Rattle.cp_spelling.specs.Scan.{part_step, label_step, may_end}
use Rattle.cp_spelling.proofs.ScanLemmas.{part_run}
use Rattle.cp_spelling.specs.Reading.{IsPlaceSpelling}
use Rattle.cp_path.specs.declared.loc.Loc.{Loc}
use Rattle.cp_spelling.specs.declared.scan.Part.{Part}
use Rattle.cp_spelling.specs.declared.scan.Part.TheVariants as part
use Rattle.cp_spelling.proofs.Runs.{part_run_on, next_part}
use Rattle.cp_spelling.proofs.Sound.{Spelt}
use Rattle.cp_spelling.proofs.Spelled.{part_split, same_part, no_part, InLabel, InTilde, grow, tilde, untilde, label_run}

abbrev BehindSlash : (List ℕ → List ℕ → Type 0) → List ℕ → Type 0
BehindSlash In r = (q : Loc) × (is_name q.db ≡ true) × In (raw_place q ++ 47 ∷ []) r

abbrev AtPlace : Part → List ℕ → Type 0
AtPlace part.Begin r = r ≡ []
AtPlace (part.Name n) r = (is_name r ≡ true) × (length r ≡ n)
AtPlace part.Empty r = ⊥
AtPlace part.Label r = BehindSlash InLabel r
AtPlace part.Tilde r = BehindSlash InTilde r

abbrev slashed : Label → List ℕ
slashed a = 47 ∷ escaped_text a

raw_child : (q : Loc) (a : Label) → raw_place (child_place q a) ≡ (raw_place q ++ 47 ∷ []) ++ escaped_text a
raw_child q a =
    ap (λ v. q.db ++ v) (flat_map-append slashed q.path (a ∷ []) ∙ ap (λ v. flat_map slashed q.path ++ v) (append-nil (slashed a)))
    ∙ sym (append_assoc q.db (flat_map slashed q.path) (slashed a)) ∙ sym (append_assoc (raw_place q) (47 ∷ []) (escaped_text a))

-- a slash begins a label
slash : (q : Loc) (r : List ℕ) (x : ℕ) → is_name q.db ≡ true → r ≡ raw_place q → (x == 47) ≡ true → BehindSlash InLabel (r ++ x ∷ [])
slash q r x n e h = (q, n, ([], ap (λ v. v ++ x ∷ []) e ∙ ap (λ y. raw_place q ++ y ∷ []) (eqb-true x 47 h) ∙ sym (append-nil (raw_place q ++ 47 ∷ []))))

abbrev root_place : List ℕ → Loc
root_place r = record { db = r; path = [] }

all_more : (w : List ℕ) (x : ℕ) → list_all is_name_byte w ≡ true → is_name_byte x ≡ true → list_all is_name_byte (w ++ x ∷ []) ≡ true
all_more [] x a b = rw b refl
all_more (y ∷ w) x a b = let p = and_parts (is_name_byte y) (list_all is_name_byte w) a in rw p.0 (all_more w x p.1 b)

name_of : (x : ℕ) (w : List ℕ) → length (x ∷ w) ≤ NAME_MAX → is_letter x ≡ true → list_all is_name_byte w ≡ true → is_name (x ∷ w) ≡ true
name_of x w l a b = rw (le-leb 1 (length (x ∷ w)) (omega arith), le-leb (length (x ∷ w)) NAME_MAX l, a, b) refl

abbrev NameParts : ℕ → List ℕ → Type 0
NameParts x w = (length (x ∷ w) ≤ NAME_MAX) × (is_letter x ≡ true) × (list_all is_name_byte w ≡ true)

parts_of : (x : ℕ) (w : List ℕ) → is_name (x ∷ w) ≡ true → NameParts x w
parts_of x w h =
    let a = and_parts (nat_le 1 (length (x ∷ w))) _ h in
    let b = and_parts (nat_le (length (x ∷ w)) NAME_MAX) _ a.1 in
    let c = and_parts (is_letter x) _ b.1 in
    let d = and_parts (is_name_byte x) _ c.1 in
    (leb-true (length (x ∷ w)) NAME_MAX b.0, c.0, d.1)

name_more : (r : List ℕ) (x : ℕ) → is_name r ≡ true → length r < NAME_MAX → is_name_byte x ≡ true → is_name (r ++ x ∷ []) ≡ true
name_more [] x n l b = cc
name_more (y ∷ r) x n l b =
    let p = parts_of y r n in
    name_of y (r ++ x ∷ []) (omega (arith, length-append r (x ∷ []))) p.1 (all_more r x p.2 b)

in_place : (x : ℕ) (u : Part) (r : List ℕ) → BehindSlash InLabel r → label_step true x ≡ Some u → AtPlace u (r ++ x ∷ [])
in_place x u r h e = part_split (x == 126) (Some part.Tilde) (cond ((x == 47) && false) None (Some part.Label)) u e
    (λ f n. subst (λ v. AtPlace v (r ++ x ∷ [])) (same_part part.Tilde u n) (h.0, h.1, tilde (raw_place h.0 ++ 47 ∷ []) r x h.2 f))
    (λ f n. subst (λ v. AtPlace v (r ++ x ∷ [])) (same_part part.Label u (sym (never (x == 47)) ∙ n)) (by (x == 47) refl f))
  where
    never : (b : Bool) → cond (b && false) None (Some part.Label) ≡ Some part.Label
    never true = refl
    never false = refl

    by : (b : Bool) → (x == 47) ≡ b → (x == 126) ≡ false → BehindSlash InLabel (r ++ x ∷ [])
    by true k f = slash (child_place h.0 h.2.0) r x h.1 (h.2.1 ∙ sym (raw_child h.0 h.2.0)) k
    by false k f = (h.0, h.1, grow (raw_place h.0 ++ 47 ∷ []) r x h.2 f k)

place_more : (p u : Part) (x : ℕ) (r : List ℕ) → AtPlace p r → part_step true p x ≡ Some u → AtPlace u (r ++ x ∷ [])
place_more part.Begin u x r h e = part_split (is_letter x) (Some (part.Name 1)) None u e
    (λ f n. subst (λ v. AtPlace v (r ++ x ∷ [])) (same_part (part.Name 1) u n)
    (subst (λ v. (is_name (v ++ x ∷ []) ≡ true) × (length (v ++ x ∷ []) ≡ 1)) (sym h) (name_of x [] (omega arith) f refl, refl)))
    (λ f n. no_part u n)
place_more (part.Name m) u x r h e =
    let rest : Option Part = cond (nat_lt m NAME_MAX && is_name_byte x) (Some (part.Name (m + 1))) None in
    part_split (x == 47) (Some part.Label) rest u e
    (λ f n. subst (λ v. AtPlace v (r ++ x ∷ [])) (same_part part.Label u n) (slash (root_place r) r x h.0 (sym (append-nil r)) f))
    (λ f n. part_split (nat_lt m NAME_MAX && is_name_byte x) (Some (part.Name (m + 1))) None u n
    (λ g k. let both = and_parts (nat_lt m NAME_MAX) (is_name_byte x) g in
    let short = ltb-true m NAME_MAX both.0 in
    subst (λ v. AtPlace v (r ++ x ∷ [])) (same_part (part.Name (m + 1)) u k) (name_more r x h.0 (omega arith) both.1, omega (arith, length-append r (x ∷ []))))
    (λ g k. no_part u k))
place_more part.Empty u x r h e = absurd h
place_more part.Label u x r h e = in_place x u r h e
place_more part.Tilde u x r h e = part_split ((x == 48) || (x == 49)) (Some part.Label) None u e
    (λ f n. subst (λ v. AtPlace v (r ++ x ∷ [])) (same_part part.Label u n) (h.0, h.1, untilde (raw_place h.0 ++ 47 ∷ []) r x h.2 f))
    (λ f n. no_part u n)

place_on : (p u : Part) (r w : List ℕ) → AtPlace p r → part_run true p w ≡ Some u → AtPlace u (r ++ w)
place_on p u r [] h e = subst (λ a. AtPlace u a) (sym (append-nil r)) (subst (λ a. AtPlace a r) (same_part p u e) h)
place_on p u r (x ∷ w) h e =
    let n = next_part true p u x w e in
    subst (λ a. AtPlace u a) (append_assoc r (x ∷ []) w) (place_on n.0 u (r ++ x ∷ []) w (place_more p n.0 x r h n.1) n.2)

abbrev IsPlace : List ℕ → Type 0
IsPlace r = (q : Loc) × (is_name q.db ≡ true) × (r ≡ raw_place q)

place_ends : (p : Part) (r : List ℕ) → AtPlace p r → may_end p ≡ true → IsPlace r
place_ends part.Begin r h e = cc
place_ends (part.Name n) r h e = (root_place r, h.0, sym (append-nil r))
place_ends part.Empty r h e = absurd h
place_ends part.Label r h e = (child_place h.0 h.2.0, h.1, h.2.1 ∙ sym (raw_child h.0 h.2.0))
place_ends part.Tilde r h e = cc

-- a place's text is not empty
pub word_place : (q : Loc) → is_name q.db ≡ true → label_word (raw_place q) ≡ place_text q
word_place q n = by q.db q.path n
  where
    by : (db : List ℕ) (path : Path) → is_name db ≡ true → label_word (db ++ flat_map slashed path) ≡ place_text (record { db = db; path = path })
    by [] path k = cc
    by (x ∷ db) path k = refl

pub place_spelled : (w : List ℕ) → Spelt true part.Begin w → IsPlaceSpelling w
place_spelled w h =
    let l = place_ends h.1 h.0 (place_on part.Begin h.1 [] h.0 refl h.2) h.3 in
    (l.0, (l.1, h.4 ∙ ap label_word l.2 ∙ word_place l.0 l.1))

-- ---- a place's text goes through

no_slash : (x : ℕ) → is_name_byte x ≡ true → (x == 47) ≡ false
no_slash x h = grind (arith, nat_tests)

name_run : (n : ℕ) (w : List ℕ) → n + length w ≤ NAME_MAX → list_all is_name_byte w ≡ true → part_run true (part.Name n) w ≡ Some (part.Name (n + length w))
name_run n [] l h = let e : n ≡ n + 0 = omega arith in ap (λ m. Some (part.Name m)) e
name_run n (x ∷ w) l h =
    let p = and_parts (is_name_byte x) (list_all is_name_byte w) h in
    let e : (n + 1) + length w ≡ n + length (x ∷ w) = omega arith in
    rw (no_slash x p.0, lt-ltb n NAME_MAX (omega arith), p.0) (name_run (n + 1) w (omega arith) p.1 ∙ ap (λ m. Some (part.Name m)) e)

begin_run : (db : List ℕ) → is_name db ≡ true → part_run true part.Begin db ≡ Some (part.Name (length db))
begin_run [] n = cc
begin_run (x ∷ w) n =
    let p = parts_of x w n in
    let e : 1 + length w ≡ length (x ∷ w) = omega arith in
    rw p.1 (name_run 1 w (omega arith) p.2 ∙ ap (λ m. Some (part.Name m)) e)

abbrev RunsOut : Part → Path → Type 0
RunsOut p path = (u : Part) × (part_run true p (flat_map slashed path) ≡ Some u) × (may_end u ≡ true)

labels_run : (path : Path) → RunsOut part.Label path
labels_run [] = (part.Label, refl, refl)
labels_run (a ∷ path) =
    let more = labels_run path in
    (more.0, part_run_on true part.Label part.Label (escaped_text a) (flat_map slashed path) (label_run true a) ∙ more.1, more.2)

path_run : (n : ℕ) (path : Path) → RunsOut (part.Name n) path
path_run n [] = (part.Name n, refl, refl)
path_run n (a ∷ path) =
    let more = labels_run path in
    (more.0, part_run_on true part.Label part.Label (escaped_text a) (flat_map slashed path) (label_run true a) ∙ more.1, more.2)

pub spelled_place : (w : List ℕ) → IsPlaceSpelling w → Spelt true part.Begin w
spelled_place w h =
    let q = h.0 in
    let n = h.1.0 in
    let run = path_run (length q.db) q.path in
    (raw_place q, run.0, part_run_on true part.Begin (part.Name (length q.db)) q.db (flat_map slashed q.path) (begin_run q.db n) ∙ run.1, run.2, h.1.1 ∙ sym (word_place q n))
