-- The height that two sides settle to.
use Rattle.std.specs.Prelude.{◌≡◌, ℕ, ◌+◌, ◌≤◌, max, List}
use Rattle.std.proofs.Common.{arith, ◌⊎◌, inl, inr}
use Rattle.std.proofs.lemmas.Bool.{cases_lt}
use Rattle.cp_tree_arena.specs.declared.slot.Slot.{Slot}
use Rattle.cp_tree_arena.specs.declared.slot.Links.{Links}
use Rattle.cp_tree_arena.specs.Shapes.{Cell, Shape, height_of, Near, Settles}
use Rattle.cp_tree_arena.specs.Cells.{Stand}
use Rattle.cp_tree_arena.specs.Linking.{linked_edges, CanLink}

module _ (slots : List Slot) (at : ℕ) (s : Slot) (l c r : Shape) (xs ys : List Cell) where
  pub settled_left : height_of l ≡ height_of r + 2 → Stand slots at (linked_edges s l c r) (λ h. (height_of l ≤ h) × (h ≤ height_of l + 1)) xs ys → Stand slots at (linked_edges s l c r) (Settles (height_of l) (height_of r)) xs ys
  settled_left two k = record { shape = k.shape; is = k.is; edges = k.edges; high = (omega (arith, two, k.high), omega (arith, two, k.high), λ (n : Near 1 (height_of l) (height_of r)). omega (arith, two, n)) }

  pub settled_right : height_of r ≡ height_of l + 2 → Stand slots at (linked_edges s l c r) (λ h. (height_of r ≤ h) × (h ≤ height_of r + 1)) xs ys → Stand slots at (linked_edges s l c r) (Settles (height_of l) (height_of r)) xs ys
  settled_right two k = record { shape = k.shape; is = k.is; edges = k.edges; high = (omega (arith, two, k.high), omega (arith, two, k.high), λ (n : Near 1 (height_of l) (height_of r)). omega (arith, two, n)) }

  pub settled_fork : Stand slots at (linked_edges s l c r) (λ h. h ≡ max (height_of l) (height_of r) + 1) xs ys → Stand slots at (linked_edges s l c r) (Settles (height_of l) (height_of r)) xs ys
  settled_fork k = record { shape = k.shape; is = k.is; edges = k.edges; high = (omega (arith, k.high), omega (arith, k.high), λ (n : Near 1 (height_of l) (height_of r)). k.high) }

-- a node whose sides are as high as each other, or one of them a level higher
pub narrowed : (slots : List Slot) (at : ℕ) (links : Links) (s : Slot) (l c r : Shape) (xs ys : List Cell) → CanLink 2 slots at links s l c r xs ys → Near 1 (height_of l) (height_of r) → CanLink 1 slots at links s l c r xs ys
narrowed slots at links s l c r xs ys k near = record { holds = k.holds; left = k.left; children = k.children; right = k.right; before = k.before; below = k.below; after = k.after; good = k.good; edges = k.edges; near = near }

-- two heights are near, or one is two levels higher
near_or : (l r : ℕ) → Near 1 l r ⊎ ((r + 2 ≤ l) ⊎ (l + 2 ≤ r))
near_or l r = elim (cases_lt (r + 1) l) [
  | inl high ↦ inr (inl (omega (arith, high)))
  | inr low ↦ elim (cases_lt (l + 1) r) [
    | inl higher ↦ inr (inr (omega (arith, higher)))
    | inr lower ↦ inl (omega (arith, low), omega (arith, lower))
  ]
]

-- the height after a part of one side was taken
pub lowered : (t l r p h : ℕ) → t ≡ max l r + 1 → Near 1 l r → (p ≤ l) × (l ≤ p + 1) → Settles p r h → (h ≤ t) × (t ≤ h + 1)
lowered t l r p h e n q s = elim (near_or p r) [
  | inl near ↦ (let same : h ≡ max p r + 1 = s.2 near in (omega (arith, e, n, q, same), omega (arith, e, n, q, same)))
  | inr far ↦ elim far [
    | inl high ↦ (omega (arith, e, n, q, s.0, s.1, high), omega (arith, e, n, q, s.0, s.1, high))
    | inr low ↦ (omega (arith, e, n, q, s.0, s.1, low), omega (arith, e, n, q, s.0, s.1, low))
  ]
]

-- the height after a part of one side was put
pub raised : (t l r p h : ℕ) → t ≡ max l r + 1 → Near 1 l r → (l ≤ p) × (p ≤ l + 1) → Settles p r h → (t ≤ h) × (h ≤ t + 1)
raised t l r p h e n q s = elim (near_or p r) [
  | inl near ↦ (let same : h ≡ max p r + 1 = s.2 near in (omega (arith, e, n, q, same), omega (arith, e, n, q, same)))
  | inr far ↦ elim far [
    | inl high ↦ (omega (arith, e, n, q, s.0, s.1, high), omega (arith, e, n, q, s.0, s.1, high))
    | inr low ↦ (omega (arith, e, n, q, s.0, s.1, low), omega (arith, e, n, q, s.0, s.1, low))
  ]
]

-- it does not matter on which side
pub turned : (l r h : ℕ) → Settles l r h → Settles r l h
turned l r h s = (omega (arith, s.0), omega (arith, s.1), λ (n : Near 1 r l). (let same : h ≡ max l r + 1 = s.2 (n.1, n.0) in omega (arith, same)))

-- the height of siblings of which the second lost its first
pub joined_height : (l r p h : ℕ) → Near 1 l r → (p ≤ r) × (r ≤ p + 1) → Settles l p h → (max l r ≤ h) × (h ≤ max l r + 1)
joined_height l r p h n q s = elim (near_or l p) [
  | inl near ↦ (let same : h ≡ max l p + 1 = s.2 near in (omega (arith, n, q, same), omega (arith, n, q, same)))
  | inr far ↦ elim far [
    | inl high ↦ (omega (arith, n, q, s.0, s.1, high), omega (arith, n, q, s.0, s.1, high))
    | inr low ↦ (omega (arith, n, q, s.0, s.1, low), omega (arith, n, q, s.0, s.1, low))
  ]
]
