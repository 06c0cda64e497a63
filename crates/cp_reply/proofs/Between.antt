-- Pieces with a text between them, as one piece and what each other one adds.
use Rattle.std.proofs.Common.{◌≡◌, ℕ, ◌-◌, ◌≤◌, List, [], ◌∷◌, ◌++◌, map, length, get_or, take, drop, codes, decimal, refl, ap, sym, ◌∙◌, arith, append_assoc, append-nil}
use Rattle.std.proofs.Math.Seq.{take-length}
use Rattle.std.specs.List.{flat_map}
use Rattle.cp_model.specs.declared.answer.Trace.{Trace}
use Rattle.cp_model.specs.Trees.{between}
use Rattle.cp_path.specs.Spelling.{place_text}
use Rattle.cp_path.specs.declared.loc.Loc.{Loc}
use Rattle.cp_reply.specs.Lines.{tids_text, places_text, segment_text, end_text, trace_text}

-- behind the first piece, each has the text before it
pub between_first : {X : Type 0} (s : List ℕ) (f : X → List ℕ) (x : X) (xs : List X) → between s (map f (x ∷ xs)) ≡ f x ++ flat_map (λ y. s ++ f y) xs
between_first s f x [] = sym (append-nil (f x))
between_first s f x (y ∷ ys) = rw (between_first s f y ys, append_assoc s (f y) (flat_map (λ z. s ++ f z) ys)) refl

regroup : (a b c d : List ℕ) → a ++ (b ++ (c ++ d)) ≡ ((a ++ b) ++ c) ++ d
regroup a b c d = simp append_assoc

-- before the last piece, each has the text behind it
pub between_last : {X : Type 0} (s : List ℕ) (f : X → List ℕ) (xs : List X) (e : List ℕ) → between s (map f xs ++ e ∷ []) ≡ flat_map (λ y. f y ++ s) xs ++ e
between_last s f [] e = refl
between_last s f (x ∷ []) e = regroup (f x) s [] e
between_last s f (x ∷ y ∷ ys) e = ap (λ w. f x ++ (s ++ w)) (between_last s f (y ∷ ys) e) ∙ regroup (f x) s (flat_map (λ z. f z ++ s) (y ∷ ys)) e

-- the rest of the Tids, as many as there are
rest_of : (t : ℕ) (ts : List ℕ) → take (length (t ∷ ts) - 1) ts ≡ ts
rest_of t ts = let e : length (t ∷ ts) - 1 ≡ length ts = omega arith in ap (λ n. take n ts) e ∙ take-length ts

pub tids_of : (ts : List ℕ) → 1 ≤ length ts → tids_text ts ≡ decimal (get_or ts 0 0) ++ flat_map (λ t. codes " " ++ decimal t) (take (length ts - 1) (drop 1 ts))
tids_of [] some = absurd (omega arith)
tids_of (t ∷ ts) some = between_first (codes " ") decimal t ts ∙ ap (λ us. decimal t ++ flat_map (λ u. codes " " ++ decimal u) us) (sym (rest_of t ts))

pub trace_of : (t : Trace) → trace_text t ≡ flat_map (λ s. segment_text s ++ codes " < ") t.segments ++ end_text t.end
trace_of t = between_last (codes " < ") segment_text t.segments (end_text t.end)

-- where there are places, each stands behind a space
pub places_of : (qs : List Loc) → 1 ≤ length qs → codes " " ++ places_text qs ≡ flat_map (λ q. codes " " ++ place_text q) qs
places_of [] some = absurd (omega arith)
places_of (q ∷ qs) some = ap (λ w. codes " " ++ w) (between_first (codes " ") place_text q qs) ∙ sym (append_assoc (codes " ") (place_text q) (flat_map (λ r. codes " " ++ place_text r) qs))

-- where there is none, the word stands there
pub no_places : (qs : List Loc) → length qs ≡ 0 → codes " " ++ places_text qs ≡ codes " none"
no_places [] none = refl
no_places (q ∷ qs) none = absurd (omega (arith, none))

-- a line's front, and what stands behind it
pub uses_front : (p w : List ℕ) → (codes "uses " ++ (p ++ codes ":")) ++ (codes " " ++ w) ≡ codes "uses " ++ (p ++ (codes ": " ++ w))
uses_front p w = ap (λ t. codes "uses " ++ t) (append_assoc p (codes ":") (codes " " ++ w))
