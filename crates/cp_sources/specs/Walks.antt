-- Walks over the places of a value in the order in which they are read: what a state becomes, and what each step needs.
use Rattle.std.specs.Prelude.{ℕ, ◌+◌, decimal, ⊤}
use Rattle.std.specs.declared.option.Option.{Option}
use Rattle.serde_json.specs.Data.{Data, null, boolean, number, string, array, object, Items, no_items, item, Members, no_members, member}
use Rattle.cp_model.specs.declared.row.Content.{Content}
use Rattle.cp_model.specs.Place.{Label}
use Rattle.cp_sources.specs.Places.{content_of}

-- from a position down to that at a label, and from a state to the next one
module _ {P S : Type 0} (down : P → Label → P) (step : P → Option Content → S → S) where
  -- the state, once each place below p, where the value stands, was stepped on
  abbrev mutual
    pub walk_below : P → Data → S → S
    walk_below p null s = s
    walk_below p (boolean b) s = s
    walk_below p (number n) s = s
    walk_below p (string t) s = s
    walk_below p (array ds) s = walk_items p 0 ds s
    walk_below p (object ms) s = walk_members p ms s

    pub walk_items : P → ℕ → Items → S → S
    walk_items p i no_items s = s
    walk_items p i (item d ds) s = walk_items p (i + 1) ds (walk_below (down p (decimal i)) d (step (down p (decimal i)) (content_of d) s))

    pub walk_members : P → Members → S → S
    walk_members p no_members s = s
    walk_members p (member k d ms) s = walk_members p ms (walk_below (down p k) d (step (down p k) (content_of d) s))

  -- what is needed of the position above, the label, the content and the state before each of these steps
  module _ (Needs : P → Label → Option Content → S → Type 0) where
    abbrev mutual
      pub NeedsBelow : P → Data → S → Type 0
      NeedsBelow p null s = ⊤
      NeedsBelow p (boolean b) s = ⊤
      NeedsBelow p (number n) s = ⊤
      NeedsBelow p (string t) s = ⊤
      NeedsBelow p (array ds) s = NeedsItems p 0 ds s
      NeedsBelow p (object ms) s = NeedsMembers p ms s

      pub NeedsItems : P → ℕ → Items → S → Type 0
      NeedsItems p i no_items s = ⊤
      NeedsItems p i (item d ds) s =
          Needs p (decimal i) (content_of d) s
          × NeedsBelow (down p (decimal i)) d (step (down p (decimal i)) (content_of d) s)
          × NeedsItems p (i + 1) ds (walk_below (down p (decimal i)) d (step (down p (decimal i)) (content_of d) s))

      pub NeedsMembers : P → Members → S → Type 0
      NeedsMembers p no_members s = ⊤
      NeedsMembers p (member k d ms) s =
          Needs p k (content_of d) s
          × NeedsBelow (down p k) d (step (down p k) (content_of d) s)
          × NeedsMembers p ms (walk_below (down p k) d (step (down p k) (content_of d) s))
