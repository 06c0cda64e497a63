-- The pieces of a spelled label and of a spelled place.
use Rattle.cp_path.specs.declared.limits.TheConstants.{NAME_MAX}
use Rattle.std.proofs.Common.{◌≡◌, ℕ, List, [], ◌∷◌, ◌++◌, Bool, true, false, ◌&&◌, ◌==◌, nat_le, length, refl, ap, sym, ◌∙◌, append-nil, append_assoc, flat_map}
use Rattle.std.proofs.lemmas.Bool.{and_parts, eqb-true, ne_eqb}
use Rattle.std.specs.List.{list_all, slice_index}
use Rattle.cp_path.specs.Text.{is_letter, is_name_byte, is_name}
use Rattle.cp_path.specs.Place.{Label, Path}
use Rattle.cp_path.specs.Spelling.{escape_label_byte, escaped_text, raw_place}
use Rattle.cp_spelling.specs.Scan.{pieces}
use Rattle.cp_path.specs.declared.loc.Loc.{Loc}

pub one_byte : (a : List ℕ) (x : ℕ) (w : List ℕ) → (x == 126) ≡ false → (x == 47) ≡ false → pieces false a (x ∷ w) ≡ pieces false (a ++ x ∷ []) w
one_byte a x w t s = rw (t, s) refl

byte_back : (a : List ℕ) (x : ℕ) (w : List ℕ) → pieces false a (escape_label_byte x ++ w) ≡ pieces false (a ++ x ∷ []) w
byte_back a x w = by (x == 126) (x == 47) refl refl
  where
    by : (b c : Bool) → (x == 126) ≡ b → (x == 47) ≡ c → pieces false a (escape_label_byte x ++ w) ≡ pieces false (a ++ x ∷ []) w
    by true c e f = rw e (ap (λ y. pieces false (a ++ y ∷ []) w) (sym (eqb-true x 126 e)))
    by false true e f = rw (e, f) (ap (λ y. pieces false (a ++ y ∷ []) w) (sym (eqb-true x 47 f)))
    by false false e f = rw (e, f) (rw (e, f) refl)

label_back : (a b w : List ℕ) → pieces false a (escaped_text b ++ w) ≡ pieces false (a ++ b) w
label_back a [] w = ap (λ v. pieces false v w) (sym (append-nil a))
label_back a (x ∷ b) w =
    ap (pieces false a) (append_assoc (escape_label_byte x) (escaped_text b) w) ∙ byte_back a x (escaped_text b ++ w) ∙ label_back (a ++ x ∷ []) b w ∙ ap (λ v. pieces false v w) (append_assoc a (x ∷ []) b)

pub pieces_of_label : (a : Label) → pieces false [] (escaped_text a) ≡ a ∷ []
pieces_of_label a = ap (pieces false []) (sym (append-nil (escaped_text a))) ∙ label_back [] a []

path_back : (a : Label) (path : Path) → pieces false a (flat_map (λ b. 47 ∷ escaped_text b) path) ≡ a ∷ path
path_back a [] = refl
path_back a (b ∷ path) = ap (λ v. a ∷ v) (label_back [] b (flat_map (λ b. 47 ∷ escaped_text b) path) ∙ path_back b path)

name_byte : (x : ℕ) → is_name_byte x ≡ true → ((x == 126) ≡ false) × ((x == 47) ≡ false)
name_byte x h = (ne_eqb x 126 (λ e. bad 126 refl e), ne_eqb x 47 (λ e. bad 47 refl e))
  where
    bad : (n : ℕ) → is_name_byte n ≡ false → ¬ (x ≡ n)
    bad n f e = let k : true ≡ false = sym h ∙ ap is_name_byte e ∙ f in cc

name_back : (a db w : List ℕ) → list_all is_name_byte db ≡ true → pieces false a (db ++ w) ≡ pieces false (a ++ db) w
name_back a [] w h = ap (λ v. pieces false v w) (sym (append-nil a))
name_back a (x ∷ db) w h =
    let p = and_parts (is_name_byte x) (list_all is_name_byte db) h in
    let n = name_byte x p.0 in
    one_byte a x (db ++ w) n.0 n.1 ∙ name_back (a ++ x ∷ []) db w p.1 ∙ ap (λ v. pieces false v w) (append_assoc a (x ∷ []) db)

pub pieces_of_place : (q : Loc) → is_name q.db ≡ true → pieces false [] (raw_place q) ≡ q.db ∷ q.path
pieces_of_place q n =
    let a = and_parts (nat_le 1 (length q.db)) (nat_le (length q.db) NAME_MAX && (is_letter (slice_index q.db 0) && list_all is_name_byte q.db)) n in
    let b = and_parts (nat_le (length q.db) NAME_MAX) (is_letter (slice_index q.db 0) && list_all is_name_byte q.db) a.1 in
    let c = and_parts (is_letter (slice_index q.db 0)) (list_all is_name_byte q.db) b.1 in
    name_back [] q.db (flat_map (λ b. 47 ∷ escaped_text b) q.path) c.1 ∙ path_back q.db q.path
