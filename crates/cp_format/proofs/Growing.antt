-- Bytes that are added behind others.
use Rattle.std.proofs.Common.{◌≡◌, ℕ, List, [], ◌∷◌, ◌++◌, Result, Ok, Err, OnOk, ap, ◌∙◌, append_assoc}
use Rattle.std.specs.Int.{to_be_bytes, w64}
use Rattle.cp_path.specs.Encoding.{path_bytes}
use Rattle.cp_model.specs.declared.record.Record.{Record}
use Rattle.cp_record.specs.Bytes.{letter, source_bytes, record_bytes}
use Rattle.cp_record.specs.Packed.{Grew}

-- some was added, and then more
pub grew_then : (old xs mid new : List ℕ) → mid ≡ old ++ xs → Grew mid new → Grew old new
grew_then old xs mid new e g = record { added = xs ++ g.added; is = g.is ∙ ap (λ (l : List ℕ). l ++ g.added) e ∙ append_assoc old xs g.added }

-- what holds after success makes another fact hold after success
pub after_success : {T E P Q : Type 0} (result : Result T E) → (P → Q) → OnOk result P → OnOk result Q
after_success (Ok x) f p = f p
after_success (Err e) f p = tt

written : (old tid path source a b c new : List ℕ) (l : ℕ) → a ≡ old ++ tid → b ≡ a ++ l ∷ [] → c ≡ b ++ path → new ≡ c ++ source → new ≡ old ++ (tid ++ (l ∷ (path ++ source)))
written old tid path source a b c new l e f g h = rw (h, g, f, e) (simp append_assoc)

-- the parts of a record, written one after another
pub record_written : (old a b c new tid source : List ℕ) (l : ℕ) (r : Record) → tid ≡ to_be_bytes w64 r.tid → l ≡ letter r.op → source ≡ source_bytes r.src →
    a ≡ old ++ tid → b ≡ a ++ l ∷ [] → c ≡ b ++ path_bytes r.loc.path → new ≡ c ++ source → new ≡ old ++ record_bytes r
unfolding record_bytes
record_written old a b c new tid source l r t m s e f g h =
    written old tid (path_bytes r.loc.path) source a b c new l e f g h
    ∙ ap (λ (x : List ℕ). old ++ (x ++ (l ∷ (path_bytes r.loc.path ++ source)))) t
    ∙ ap (λ (x : ℕ). old ++ (to_be_bytes w64 r.tid ++ (x ∷ (path_bytes r.loc.path ++ source)))) m
    ∙ ap (λ (x : List ℕ). old ++ (to_be_bytes w64 r.tid ++ (letter r.op ∷ (path_bytes r.loc.path ++ x)))) s
