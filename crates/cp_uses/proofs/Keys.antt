-- Keys of places: which are the same.
use Rattle.std.specs.Prelude.{ℕ, ◌≡◌, ◌&&◌, Bool, true, false, List, [], ◌∷◌, filter, nat_lt, refl}
use Rattle.std.proofs.Common.{ap, ◌∙◌}
use Rattle.std.specs.List.{flat_map}
use Rattle.std.specs.Cmp.Lexicographic.{nat_list_eq_equiv}
use Rattle.cp_path.specs.Encoding.{counted_bytes}
use Rattle.cp_path.specs.Text.{text_eq}
use Rattle.cp_path.specs.PathOrder.{path_eq_equiv}
use Rattle.cp_path.specs.declared.loc.Loc.{Loc}
use Rattle.cp_path.proofs.Same.{path_eq-same, text_eq-same}
use Rattle.cp_path.proofs.EncodingLemmas.{counted_front}
use Rattle.cp_model.specs.Place.{Path, path_eq, place_eq}
use Rattle.std.specs.declared.option.Option.{Option}
use Rattle.std.specs.declared.option.Option.TheVariants.{None, Some}
use Rattle.cp_model.specs.declared.record.Record.{Record}
use Rattle.cp_uses.specs.Sources.{source_key, source_of, is_place, copies_after}
use Rattle.cp_uses.specs.Index.{has_key, copies_by}

key_same : (p q : Path) → flat_map counted_bytes p ≡ flat_map counted_bytes q → p ≡ q
key_same [] [] e = refl
key_same [] (b ∷ q) e = absurd (cc)
key_same (a ∷ p) [] e = absurd (cc)
key_same (a ∷ p) (b ∷ q) e = let parts = counted_front a b (flat_map counted_bytes p) (flat_map counted_bytes q) e in ap (λ x. x ∷ p) parts.0 ∙ ap (λ (l : Path). b ∷ l) (key_same p q parts.1)

-- labels have the same key where they are the same
key_eq : (p q : Path) → text_eq (flat_map counted_bytes p) (flat_map counted_bytes q) ≡ path_eq p q
key_eq p q =
    elim (path_eq p q) as (λ b. path_eq p q ≡ b → text_eq (flat_map counted_bytes p) (flat_map counted_bytes q) ≡ b) [
      | true ↦ λ t. ap (λ (r : Path). text_eq (flat_map counted_bytes r) (flat_map counted_bytes q)) (path_eq-same p q t) ∙ nat_list_eq_equiv.refl (flat_map counted_bytes q)
      | false ↦ λ n.
          elim (text_eq (flat_map counted_bytes p) (flat_map counted_bytes q)) as (λ b. text_eq (flat_map counted_bytes p) (flat_map counted_bytes q) ≡ b → b ≡ false) [
            | false ↦ λ _. refl
            | true ↦ λ u.
                let same : p ≡ q = key_same p q (text_eq-same (flat_map counted_bytes p) (flat_map counted_bytes q) u) in
                let equal : path_eq p q ≡ true = ap (λ (r : Path). path_eq r q) same ∙ path_eq_equiv.refl q in
                absurd (cc)
          ] refl
    ] refl

-- places have the same key where they are the same
pub source_key-eq : (p q : Loc) → text_eq (source_key p) (source_key q) ≡ place_eq p q
source_key-eq p q = key_eq (p.db ∷ p.path) (q.db ∷ q.path)

source-by : (q : Loc) (o : Option Loc) → has_key (source_key q) o ≡ is_place q o
source-by q None = refl
source-by q (Some p) = source_key-eq q p

-- the copies from a place are those by its key
pub copies-by : (rs : List Record) (q : Loc) (t : ℕ) → copies_by rs (source_key q) t ≡ copies_after rs q t
copies-by rs q t = ap (λ (f : Record → Bool). filter f rs) (λ i r. source-by q (source_of r) i && nat_lt t r.tid)
