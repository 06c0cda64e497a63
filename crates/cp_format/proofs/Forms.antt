-- Formats whose first byte is the number of a form, and parts that have no bytes.
use Rattle.std.proofs.Common.{◌≡◌, ℕ, ◌<◌, ◌≤◌, List, [], ◌∷◌, ◌++◌, refl, sym, ap, ◌∙◌, length, drop, arith}
use Rattle.cp_format.specs.Formats.{AllHold, Check, Format, ReadsAt, moved}
use Rattle.cp_format.specs.Parts.{count_format}
use Rattle.cp_format.proofs.Formats.{IsPlain, Alike, both}

-- in each form so much is fit, and has these bytes and checks behind the number of the form
abbrev pub behind_form : {X : Type 0} → (X → Type 0) → (X → ℕ) → (X → List ℕ) → (X → List Check) → ℕ → Format X
behind_form Fit form rest checks k = record { fit = λ x. Fit x × (form x ≡ k); bytes = λ x. rest x; checks = λ x. checks x }

-- the number of the form, and what follows it
abbrev pub with_form : {X : Type 0} → (X → Type 0) → (X → ℕ) → (X → List ℕ) → (X → List Check) → Format X
with_form Fit form rest checks = record { fit = λ x. Fit x; bytes = λ x. form x ∷ rest x; checks = λ x. moved 1 (checks x) }

-- the number of the form, and then what is in that form
pub alike_forms : {X : Type 0} (Fit : X → Type 0) (form : X → ℕ) (rest : X → List ℕ) (checks : X → List Check) (least most : ℕ) →
    ((x : X) → (least ≤ form x) × (form x ≤ most) × (form x < 256)) →
    Alike (both (count_format least most) (behind_form Fit form rest checks)) (with_form Fit form rest checks) (λ z. z.1)
alike_forms Fit form rest checks least most within = record {
  there = λ z f. (f.1.0, ap (λ n. n ∷ rest z.1) f.1.1, refl);
  back = λ x f. ((form x, x), (within x, (f, refl)), refl);
}

-- one value alone is fit, and has no bytes
pub plain_nothing : {X : Type 0} (F : Format X) (one : X) → ((x : X) → F.fit x → (x ≡ one) × (F.bytes x ≡ [])) → IsPlain F
plain_nothing F one all x y xs ys f g e =
    let a = all x f in
    let b = all y g in
    (a.0 ∙ sym b.0, ap (λ l. l ++ xs) (sym a.1) ∙ e ∙ ap (λ l. l ++ ys) b.1)

-- what has no bytes is read everywhere
pub reads_nothing : {X : Type 0} (F : Format X) (bytes : List ℕ) (at : ℕ) (x : X) → at ≤ length bytes → F.fit x → AllHold (F.checks x) → F.bytes x ≡ [] → ReadsAt F bytes at x at
reads_nothing F bytes at x le f c e =
    let none : length (F.bytes x) ≡ 0 = ap length e in
    record {
      reads = record { fit = f; checked = c; is = ap (λ l. l ++ drop at bytes) (sym e) };
      count = omega (arith, none);
      within = le;
    }
