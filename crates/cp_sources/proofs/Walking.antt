-- A walk over a value steps through the listing of its places.
use Rattle.std.proofs.Common.{◌≡◌, ◌+◌, ℕ, List, [], ◌∷◌, ◌++◌, decimal, refl, sym, ap, subst, ◌∙◌}
use Rattle.std.specs.Prelude.{⊤}
use Rattle.std.specs.declared.option.Option.{Option}
use Rattle.serde_json.specs.Data.{Data, null, boolean, number, string, array, object, Items, no_items, item, Members, no_members, member}
use Rattle.cp_model.specs.declared.row.Content.{Content}
use Rattle.cp_model.specs.Place.{Label, Path, child}
use Rattle.cp_sources.specs.Places.{content_of, places_below, item_places, member_places}
use Rattle.cp_sources.specs.Walks.{walk_below, walk_items, walk_members, NeedsBelow, NeedsItems, NeedsMembers}

-- a place of a value, and what it holds, if it holds a value
abbrev pub Entry : Type 0
Entry = Path × Option Content

-- the places are seen as positions by at, and so are those below them
module _ {P S : Type 0} (down : P → Label → P) (step : P → Option Content → S → S) (at : Path → P) (down_is : (p : Path) (a : Label) → down (at p) a ≡ at (child p a)) where
  -- the state, once each of these places was stepped on
  abbrev pub step_all : List Entry → S → S
  step_all [] s = s
  step_all (e ∷ es) s = step_all es (step (at e.0) e.1 s)

  pub step_append : (es fs : List Entry) (s : S) → step_all (es ++ fs) s ≡ step_all fs (step_all es s)
  step_append [] fs s = refl
  step_append (e ∷ es) fs s = step_append es fs (step (at e.0) e.1 s)

  mutual
    pub below_is : (p : Path) (d : Data) (s : S) → walk_below down step (at p) d s ≡ step_all (places_below p d) s
    below_is p null s = refl
    below_is p (boolean b) s = refl
    below_is p (number m) s = refl
    below_is p (string t) s = refl
    below_is p (array ds) s = items_is p 0 ds s
    below_is p (object ms) s = members_is p ms s

    items_is : (p : Path) (i : ℕ) (ds : Items) (s : S) → walk_items down step (at p) i ds s ≡ step_all (item_places p i ds) s
    items_is p i no_items s = refl
    items_is p i (item d ds) s =
        let q = child p (decimal i) in
        let t = step (at q) (content_of d) s in
        ap (λ c. walk_items down step (at p) (i + 1) ds (walk_below down step c d (step c (content_of d) s))) (down_is p (decimal i))
        ∙ ap (walk_items down step (at p) (i + 1) ds) (below_is q d t)
        ∙ items_is p (i + 1) ds (step_all (places_below q d) t)
        ∙ sym (step_append (places_below q d) (item_places p (i + 1) ds) t)

    members_is : (p : Path) (ms : Members) (s : S) → walk_members down step (at p) ms s ≡ step_all (member_places p ms) s
    members_is p no_members s = refl
    members_is p (member k d ms) s =
        let q = child p k in
        let t = step (at q) (content_of d) s in
        ap (λ c. walk_members down step (at p) ms (walk_below down step c d (step c (content_of d) s))) (down_is p k)
        ∙ ap (walk_members down step (at p) ms) (below_is q d t)
        ∙ members_is p ms (step_all (places_below q d) t)
        ∙ sym (step_append (places_below q d) (member_places p ms) t)

-- ---- what the steps need

-- the state, once each of these places was stepped on
abbrev pub stepped : {S : Type 0} → (Path → Option Content → S → S) → List Entry → S → S
stepped step es s = step_all child step (λ p. p) (λ p a. refl) es s

module _ {S : Type 0} (step : Path → Option Content → S → S) (Needs : Path → Label → Option Content → S → Type 0) where
  -- each step has what it needs
  abbrev pub AllNeeds : List Entry → S → Type 0
  AllNeeds [] s = ⊤
  AllNeeds (e ∷ es) s = ((p : Path) (a : Label) → e.0 ≡ child p a → Needs p a e.1 s) × AllNeeds es (step e.0 e.1 s)

  needs_parts : (es fs : List Entry) (s : S) → AllNeeds (es ++ fs) s → AllNeeds es s × AllNeeds fs (stepped step es s)
  needs_parts [] fs s h = (tt, h)
  needs_parts (e ∷ es) fs s h = let q = needs_parts es fs (step e.0 e.1 s) h.1 in ((h.0, q.0), q.1)

  mutual
    pub needs_below : (p : Path) (d : Data) (s : S) → AllNeeds (places_below p d) s → NeedsBelow child step Needs p d s
    needs_below p null s h = tt
    needs_below p (boolean b) s h = tt
    needs_below p (number n) s h = tt
    needs_below p (string t) s h = tt
    needs_below p (array ds) s h = needs_items p 0 ds s h
    needs_below p (object ms) s h = needs_members p ms s h

    needs_items : (p : Path) (i : ℕ) (ds : Items) (s : S) → AllNeeds (item_places p i ds) s → NeedsItems child step Needs p i ds s
    needs_items p i no_items s h = tt
    needs_items p i (item d ds) s h =
        let q = child p (decimal i) in
        let t = step q (content_of d) s in
        let r = needs_parts (places_below q d) (item_places p (i + 1) ds) t h.1 in
        let same : walk_below child step q d t ≡ stepped step (places_below q d) t = below_is child step (λ p. p) (λ p a. refl) q d t in
        (h.0 p (decimal i) refl, needs_below q d t r.0, subst (NeedsItems child step Needs p (i + 1) ds) (sym same) (needs_items p (i + 1) ds (stepped step (places_below q d) t) r.1))

    needs_members : (p : Path) (ms : Members) (s : S) → AllNeeds (member_places p ms) s → NeedsMembers child step Needs p ms s
    needs_members p no_members s h = tt
    needs_members p (member k d ms) s h =
        let q = child p k in
        let t = step q (content_of d) s in
        let r = needs_parts (places_below q d) (member_places p ms) t h.1 in
        let same : walk_below child step q d t ≡ stepped step (places_below q d) t = below_is child step (λ p. p) (λ p a. refl) q d t in
        (h.0 p k refl, needs_below q d t r.0, subst (NeedsMembers child step Needs p ms) (sym same) (needs_members p ms (stepped step (places_below q d) t) r.1))
