-- Keys of places, whose order by bytes is that of the places.
use Rattle.std.specs.Prelude.{ℕ, zero, suc, ◌≡◌, true, List, [], ◌∷◌, ◌++◌}
use Rattle.std.specs.List.{flat_map}
use Rattle.std.specs.Ordering.{ordering_then}
use Rattle.cp_path.specs.Place.{Label, Path, path_cmp}
use Rattle.cp_path.specs.Text.{text_cmp, is_name}
use Rattle.cp_path.specs.declared.loc.Loc.{Loc}

-- a byte, and 255 after a 0
abbrev pub escaped_byte : ℕ → List ℕ
escaped_byte zero = 0 ∷ 255 ∷ []
escaped_byte (suc b) = suc b ∷ []

-- bytes with a 255 after each 0
abbrev pub escaped : List ℕ → List ℕ
escaped bytes = flat_map escaped_byte bytes

-- a label, and 0 1 after it
abbrev pub label_key : Label → List ℕ
label_key a = escaped a ++ 0 ∷ 1 ∷ []

-- the labels, and 0 0 after them
abbrev pub path_key : Path → List ℕ
path_key p = flat_map label_key p ++ 0 ∷ 0 ∷ []

-- the name, 0 1, and the key of the path
abbrev pub place_key : Loc → List ℕ
place_key q = q.db ++ 0 ∷ 1 ∷ path_key q.path

-- keys of places with whatever follows them compare as the places, and of one place as what follows
abbrev pub PlaceKeysKeepOrder : Type 0
PlaceKeysKeepOrder = (p q : Loc) (s t : List ℕ) → is_name p.db ≡ true → is_name q.db ≡ true
    → text_cmp (place_key p ++ s) (place_key q ++ t) ≡ ordering_then (text_cmp p.db q.db) (ordering_then (path_cmp p.path q.path) (text_cmp s t))
