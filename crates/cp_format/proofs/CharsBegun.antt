-- Which bytes begin a character that has so many bytes at most, and where the bytes stop beginning one.
use Rattle.std.proofs.Common.{◌≡◌, ℕ, ◌<◌, ◌≤◌, List, [], ◌∷◌, ◌⊎◌, inl, inr, refl, ap, ◌∙◌, subst, length, get_or, arith}
use Rattle.std.proofs.lemmas.Bool.{cases_lt}
use Rattle.std.proofs.lemmas.Bool.Decides.{nat_tests}
use Rattle.std.specs.Str.Lossy.{second_byte_min, second_byte_max}
use Rattle.cp_format.specs.Formats.{Goes, Stops}
use Rattle.cp_format.specs.Chars.{Follows, IsSecond, IsChar, width, char_format, HasNoChar}

-- ---- what a character begins with

char_width : (x : ℕ) (rest : List ℕ) → IsChar (x ∷ rest) → width x ≡ length (x ∷ rest)
char_width x [] h = grind (arith, nat_tests)
char_width x (y ∷ []) h = let a = h.0 in let b = h.1 in grind (arith, nat_tests)
char_width x (y ∷ z ∷ []) h = let a = h.0 in let b = h.1 in grind (arith, nat_tests)
char_width x (y ∷ z ∷ w ∷ []) h = let a = h.0 in let b = h.1 in grind (arith, nat_tests)
char_width x (y ∷ z ∷ w ∷ v ∷ rest) h = absurd h

char_second : (x y : ℕ) (rest : List ℕ) → IsChar (x ∷ y ∷ rest) → IsSecond x y
char_second x y [] h = h.2
char_second x y (z ∷ []) h = h.2
char_second x y (z ∷ w ∷ []) h = h.2
char_second x y (z ∷ w ∷ v ∷ rest) h = absurd h

char_third : (x y z : ℕ) (rest : List ℕ) → IsChar (x ∷ y ∷ z ∷ rest) → Follows z
char_third x y z [] h = h.3
char_third x y z (w ∷ []) h = h.3
char_third x y z (w ∷ v ∷ rest) h = absurd h

char_whole : (x y z w : ℕ) (rest : List ℕ) → IsChar (x ∷ y ∷ z ∷ w ∷ rest) → rest ≡ []
char_whole x y z w [] h = refl
char_whole x y z w (v ∷ rest) h = absurd h

-- ---- how a character is completed

least_second : (x : ℕ) → IsSecond x (second_byte_min x)
least_second x = let h : second_byte_min x ≤ second_byte_max x = grind (arith, nat_tests) in (omega arith, h)

abbrev Kind : ℕ → Type 0
Kind x = (x < 128) ⊎ (((194 ≤ x) × (x < 224)) ⊎ (((224 ≤ x) × (x < 240)) ⊎ ((240 ≤ x) × (x < 245))))

kind : (x : ℕ) → 0 < width x → Kind x
kind x some =
    elim (cases_lt x 128) [
      | inl h ↦ inl h
      | inr a ↦ elim (cases_lt x 194) [
        | inl h ↦ let none : width x ≡ 0 = grind (arith, nat_tests) in absurd (omega (arith, none, some))
        | inr b ↦ elim (cases_lt x 224) [
          | inl h ↦ inr (inl (b, h))
          | inr c ↦ elim (cases_lt x 240) [
            | inl h ↦ inr (inr (inl (c, h)))
            | inr d ↦ elim (cases_lt x 245) [
              | inl h ↦ inr (inr (inr (d, h)))
              | inr e ↦ let none : width x ≡ 0 = grind (arith, nat_tests) in absurd (omega (arith, none, some))
            ]
          ]
        ]
      ]
    ]

width_1 : (x : ℕ) → x < 128 → width x ≡ 1
width_1 x h = grind (arith, nat_tests)

width_2 : (x : ℕ) → 194 ≤ x → x < 224 → width x ≡ 2
width_2 x a b = grind (arith, nat_tests)

width_3 : (x : ℕ) → 224 ≤ x → x < 240 → width x ≡ 3
width_3 x a b = grind (arith, nat_tests)

width_4 : (x : ℕ) → 240 ≤ x → x < 245 → width x ≡ 4
width_4 x a b = grind (arith, nat_tests)

third : Follows 128
third = (omega arith, omega arith)

goes_one : (x room : ℕ) → Kind x → width x ≤ room → Goes (char_format room) (x ∷ [])
goes_one x room (inl h) le = record { first = x ∷ []; fit = (h, omega (arith, le, width_1 x h)); checked = tt; rest = []; is = refl }
goes_one x room (inr (inl h)) le = record { first = x ∷ second_byte_min x ∷ []; fit = ((h.0, h.1, least_second x), omega (arith, le, width_2 x h.0 h.1)); checked = tt; rest = second_byte_min x ∷ []; is = refl }
goes_one x room (inr (inr (inl h))) le = record { first = x ∷ second_byte_min x ∷ 128 ∷ []; fit = ((h.0, h.1, least_second x, third), omega (arith, le, width_3 x h.0 h.1)); checked = tt; rest = second_byte_min x ∷ 128 ∷ []; is = refl }
goes_one x room (inr (inr (inr h))) le = record { first = x ∷ second_byte_min x ∷ 128 ∷ 128 ∷ []; fit = ((h.0, h.1, least_second x, third, third), omega (arith, le, width_4 x h.0 h.1)); checked = tt; rest = second_byte_min x ∷ 128 ∷ 128 ∷ []; is = refl }

goes_two : (x y room : ℕ) (bytes : List ℕ) → Kind x → width x ≤ room → IsSecond x y → HasNoChar room (x ∷ y ∷ bytes) → Goes (char_format room) (x ∷ y ∷ [])
goes_two x y room bytes (inl h) le s free = absurd (free (x ∷ []) (y ∷ bytes) (record { fit = (h, omega (arith, le, width_1 x h)); checked = tt; is = refl }))
goes_two x y room bytes (inr (inl h)) le s free = record { first = x ∷ y ∷ []; fit = ((h.0, h.1, s), omega (arith, le, width_2 x h.0 h.1)); checked = tt; rest = []; is = refl }
goes_two x y room bytes (inr (inr (inl h))) le s free = record { first = x ∷ y ∷ 128 ∷ []; fit = ((h.0, h.1, s, third), omega (arith, le, width_3 x h.0 h.1)); checked = tt; rest = 128 ∷ []; is = refl }
goes_two x y room bytes (inr (inr (inr h))) le s free = record { first = x ∷ y ∷ 128 ∷ 128 ∷ []; fit = ((h.0, h.1, s, third, third), omega (arith, le, width_4 x h.0 h.1)); checked = tt; rest = 128 ∷ 128 ∷ []; is = refl }

goes_three : (x y z room : ℕ) (bytes : List ℕ) → Kind x → width x ≤ room → IsSecond x y → Follows z → HasNoChar room (x ∷ y ∷ z ∷ bytes) → Goes (char_format room) (x ∷ y ∷ z ∷ [])
goes_three x y z room bytes (inl h) le s f free = absurd (free (x ∷ []) (y ∷ z ∷ bytes) (record { fit = (h, omega (arith, le, width_1 x h)); checked = tt; is = refl }))
goes_three x y z room bytes (inr (inl h)) le s f free = absurd (free (x ∷ y ∷ []) (z ∷ bytes) (record { fit = ((h.0, h.1, s), omega (arith, le, width_2 x h.0 h.1)); checked = tt; is = refl }))
goes_three x y z room bytes (inr (inr (inl h))) le s f free = record { first = x ∷ y ∷ z ∷ []; fit = ((h.0, h.1, s, f), omega (arith, le, width_3 x h.0 h.1)); checked = tt; rest = []; is = refl }
goes_three x y z room bytes (inr (inr (inr h))) le s f free = record { first = x ∷ y ∷ z ∷ 128 ∷ []; fit = ((h.0, h.1, s, f, third), omega (arith, le, width_4 x h.0 h.1)); checked = tt; rest = 128 ∷ []; is = refl }

-- ---- where the bytes stop

-- the first byte begins none that has room
pub stops_0 : (room : ℕ) (bytes : List ℕ) → 0 < room → HasNoChar room bytes → (0 < width (get_or bytes 0 0) → width (get_or bytes 0 0) ≤ room → ⊥) → Stops (char_format room) bytes 0
stops_0 room [] some free bad = record {
  within = omega arith;
  begins = record { first = 97 ∷ []; fit = (omega arith, some); checked = tt; rest = 97 ∷ []; is = refl };
  stops = λ lt z. absurd (omega (arith, lt));
  none = free;
}
stops_0 room (x ∷ bytes) some free bad = record {
  within = omega arith;
  begins = record { first = 97 ∷ []; fit = (omega arith, some); checked = tt; rest = 97 ∷ []; is = refl };
  stops = λ lt z. let w = char_width x z.rest (subst IsChar z.is z.fit.0) in let size : length z.first ≡ length (x ∷ z.rest) = ap length z.is in bad (omega (arith, w)) (omega (arith, w, size, z.fit.1));
  none = free;
}

-- the second byte can't follow the first, or isn't there
pub stops_1 : (room : ℕ) (bytes : List ℕ) → 0 < length bytes → HasNoChar room bytes → 0 < width (get_or bytes 0 0) → width (get_or bytes 0 0) ≤ room → (1 < length bytes → IsSecond (get_or bytes 0 0) (get_or bytes 1 0) → ⊥) → Stops (char_format room) bytes 1
stops_1 room [] there free some le bad = absurd (omega (arith, there))
stops_1 room (x ∷ []) there free some le bad = record { within = omega arith; begins = goes_one x room (kind x some) le; stops = λ lt z. absurd (omega (arith, lt)); none = free }
stops_1 room (x ∷ y ∷ bytes) there free some le bad = record {
  within = omega arith;
  begins = goes_one x room (kind x some) le;
  stops = λ lt z. bad (omega arith) (char_second x y z.rest (subst IsChar z.is z.fit.0));
  none = free;
}

-- the third byte can't follow, or isn't there
pub stops_2 : (room : ℕ) (bytes : List ℕ) → 1 < length bytes → HasNoChar room bytes → 0 < width (get_or bytes 0 0) → width (get_or bytes 0 0) ≤ room → IsSecond (get_or bytes 0 0) (get_or bytes 1 0) → (2 < length bytes → Follows (get_or bytes 2 0) → ⊥) → Stops (char_format room) bytes 2
stops_2 room [] there free some le s bad = absurd (omega (arith, there))
stops_2 room (x ∷ []) there free some le s bad = absurd (omega (arith, there))
stops_2 room (x ∷ y ∷ []) there free some le s bad = record { within = omega arith; begins = goes_two x y room [] (kind x some) le s free; stops = λ lt z. absurd (omega (arith, lt)); none = free }
stops_2 room (x ∷ y ∷ z ∷ bytes) there free some le s bad = record {
  within = omega arith;
  begins = goes_two x y room (z ∷ bytes) (kind x some) le s free;
  stops = λ lt g. bad (omega arith) (char_third x y z g.rest (subst IsChar g.is g.fit.0));
  none = free;
}

-- the fourth byte can't follow, or isn't there
pub stops_3 : (room : ℕ) (bytes : List ℕ) → 2 < length bytes → HasNoChar room bytes → 0 < width (get_or bytes 0 0) → width (get_or bytes 0 0) ≤ room → IsSecond (get_or bytes 0 0) (get_or bytes 1 0) → Follows (get_or bytes 2 0) → Stops (char_format room) bytes 3
stops_3 room [] there free some le s f = absurd (omega (arith, there))
stops_3 room (x ∷ []) there free some le s f = absurd (omega (arith, there))
stops_3 room (x ∷ y ∷ []) there free some le s f = absurd (omega (arith, there))
stops_3 room (x ∷ y ∷ z ∷ []) there free some le s f = record { within = omega arith; begins = goes_three x y z room [] (kind x some) le s f free; stops = λ lt g. absurd (omega (arith, lt)); none = free }
stops_3 room (x ∷ y ∷ z ∷ w ∷ bytes) there free some le s f = record {
  within = omega arith;
  begins = goes_three x y z room (w ∷ bytes) (kind x some) le s f free;
  stops = λ lt g.
      let none = char_whole x y z w g.rest (subst IsChar g.is g.fit.0) in
      let all : g.first ≡ x ∷ y ∷ z ∷ w ∷ [] = g.is ∙ ap (λ (l : List ℕ). x ∷ y ∷ z ∷ w ∷ l) none in
      free (x ∷ y ∷ z ∷ w ∷ []) bytes (record { fit = (subst IsChar all g.fit.0, subst (λ (l : List ℕ). length l ≤ room) all g.fit.1); checked = tt; is = refl });
  none = free;
}
