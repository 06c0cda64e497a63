-- Which key may come next.
use Rattle.std.proofs.Common.{◌≡◌, ℕ, List, [], ◌∷◌, ◌++◌, Bool, true, false, refl, Option, Some, None, ◌⊎◌, inl, inr}
use Rattle.cp_page.specs.Cuts.{has_room, rows_then}
use Rattle.cp_page.specs.Rows.{row_of, is_after}
use Rattle.cp_page.specs.Spelled.{RiseAfter}
use Rattle.cp_page.specs.declared.row.PageRow.{PageRow}
use Rattle.cp_page.proofs.Firsts.{case_of}

-- each key after the last one, if there is one, may be put behind these rows
abbrev pub Takes : List PageRow → Option (List ℕ) → Type 0
Takes rows last = (key value : List ℕ) → is_after last key ≡ true → RiseAfter None (rows ++ row_of key value ∷ [])

pub takes_any : (rows : List PageRow) → rows ≡ [] → Takes rows None
takes_any rows none key value after = rw none (refl, tt)

rise_more : (before : Option (List ℕ)) (rows : List PageRow) (r q : PageRow) → RiseAfter before (rows ++ r ∷ []) → is_after (Some r.key) q.key ≡ true → RiseAfter before ((rows ++ r ∷ []) ++ q ∷ [])
rise_more before [] r q rise after = (rise.0, (after, tt))
rise_more before (p ∷ rows) r q rise after = (rise.0, rise_more (Some p.key) rows r q rise.1 after)

pub takes_more : (rows new : List PageRow) (key value : List ℕ) → RiseAfter None (rows ++ row_of key value ∷ []) → new ≡ rows_then rows (row_of key value) → Takes new (Some key)
takes_more rows new key value rise is next other after = elim (case_of (has_room rows (row_of key value))) [
  | inl room ↦ rw (is, room) (rise_more None rows (row_of key value) (row_of next other) rise after)
  | inr full ↦ rw (is, full) (refl, (after, tt))
]
