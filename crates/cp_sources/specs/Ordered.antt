-- Values whose objects have their members in order, each once, and whose whole numbers are within their range.
use Rattle.std.specs.Prelude.{◌≡◌, ℕ, List, ⊤}
use Rattle.std.specs.declared.cmp.Ordering.TheVariants.{Less}
use Rattle.serde_json.specs.Data.{Data, null, boolean, number, string, array, object, Items, no_items, item, Members, no_members, member}
use Rattle.cp_path.specs.Text.{text_cmp}
use Rattle.cp_model.specs.Tree.{IsNumber}
use Rattle.cp_sources.specs.Places.{number_content}
use Rattle.cp_sources.specs.Growing.{or_node}

-- no member has this name, or a lesser one
abbrev pub AllAbove : List ℕ → Members → Type 0
AllAbove k no_members = ⊤
AllAbove k (member l d ms) = (text_cmp k l ≡ Less) × AllAbove k ms

-- the names of each object rise, and whole numbers are within their range
abbrev mutual
  pub HasRisingMembers : Data → Type 0
  HasRisingMembers null = ⊤
  HasRisingMembers (boolean b) = ⊤
  HasRisingMembers (number n) = IsNumber (or_node (number_content n))
  HasRisingMembers (string s) = ⊤
  HasRisingMembers (array ds) = ItemsHaveRisingMembers ds
  HasRisingMembers (object ms) = AreRisingMembers ms

  pub ItemsHaveRisingMembers : Items → Type 0
  ItemsHaveRisingMembers no_items = ⊤
  ItemsHaveRisingMembers (item d ds) = HasRisingMembers d × ItemsHaveRisingMembers ds

  pub AreRisingMembers : Members → Type 0
  AreRisingMembers no_members = ⊤
  AreRisingMembers (member k d ms) = AllAbove k ms × HasRisingMembers d × AreRisingMembers ms
