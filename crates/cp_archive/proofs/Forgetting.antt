-- Taking back the last phase that was noted.
use Rattle.std.specs.Prelude.{ℕ, ◌+◌, ◌≡◌, ◌<◌, true, false, List, [], ◌∷◌, ◌++◌, length, take, refl, if◌then◌else◌}
use Rattle.std.proofs.Common.{sym, ap, ◌∙◌, append_assoc, get_or, add-one}
use Rattle.std.proofs.Math.Seq.{take-suc}
use Rattle.std.proofs.lemmas.List.{append-nil}
use Rattle.std.proofs.lemmas.Grind.{flat_map-append}
use Rattle.cp_path.specs.PathOrder.{path_eq_equiv}
use Rattle.cp_path.proofs.Same.{path_eq-same}
use Rattle.cp_model.specs.Place.{Path, path_eq}
use Rattle.cp_archive.specs.declared.phase.Phase.{Phase}
use Rattle.cp_archive.specs.declared.difference.Difference.{Difference}
use Rattle.cp_archive.specs.Phases.{Paths, phases_of}
use Rattle.cp_archive.specs.Notes.{AreNoted, phase_at, phases_at}

-- the phase that a difference begins
abbrev phase_in : ℕ → Difference → Phase
phase_in v d = record { since = v; content = d.content }

module _ (m old new : Paths) (v n : ℕ) (ds : List Difference) (d x : Difference) (within : n < length ds) (is : get_or ds n x ≡ d) where
  -- the phases at p of one difference more
  more : (p : Path) → phases_at v p (take (n + 1) ds) ≡ phases_at v p (take n ds) ++ phase_at v p d
  more p =
      ap (phases_at v p) (ap (λ i. take i ds) (add-one n) ∙ take-suc ds n x within ∙ ap (λ y. take n ds ++ y ∷ []) is)
      ∙ flat_map-append (phase_at v p) (take n ds) (d ∷ [])
      ∙ ap (λ xs. phases_at v p (take n ds) ++ xs) (append-nil (phase_at v p d))

  own_phase : phase_at v d.path d ≡ phase_in v d ∷ []
  own_phase = ap (λ b. if b then phase_in v d ∷ [] else []) (path_eq_equiv.refl d.path)

  -- where the last phase that was noted is taken back, those before it are left
  pub forgotten : ((xs : List Phase) (x : Phase) → phases_of old d.path ≡ xs ++ x ∷ [] → (p : Path) → phases_of new p ≡ (if path_eq p d.path then xs else phases_of old p))
      → AreNoted m old v (take (n + 1) ds) → AreNoted m new v (take n ds)
  forgotten popped h p =
      let last : phases_of old d.path ≡ (phases_of m d.path ++ phases_at v d.path (take n ds)) ++ phase_in v d ∷ [] =
      h d.path ∙ ap (λ xs. phases_of m d.path ++ xs) (more d.path ∙ ap (λ xs. phases_at v d.path (take n ds) ++ xs) own_phase)
      ∙ sym (append_assoc (phases_of m d.path) (phases_at v d.path (take n ds)) (phase_in v d ∷ [])) in
      popped (phases_of m d.path ++ phases_at v d.path (take n ds)) (phase_in v d) last p
      ∙ elim (path_eq p d.path) as (λ b. path_eq p d.path ≡ b → (if b then phases_of m d.path ++ phases_at v d.path (take n ds) else phases_of old p) ≡ phases_of m p ++ phases_at v p (take n ds)) [
        | true ↦ λ e. let same : p ≡ d.path = path_eq-same p d.path e in ap (λ q. phases_of m q ++ phases_at v q (take n ds)) (sym same)
        | false ↦ λ e.
            h p
            ∙ ap (λ xs. phases_of m p ++ xs) (more p ∙ ap (λ b. phases_at v p (take n ds) ++ (if b then phase_in v d ∷ [] else [])) e ∙ append-nil (phases_at v p (take n ds)))
      ] refl
