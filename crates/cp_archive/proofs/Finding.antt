-- What rows in order have at a path, for a walk that passes them.
use Rattle.std.proofs.Common.{◌≡◌, false, cond, List, [], ◌∷◌, ◌++◌, length, refl, sym, ap, subst, ◌∙◌, T}
use Rattle.std.proofs.lemmas.List.{append_assoc}
use Rattle.std.specs.Prelude.{is_some, if◌then◌else◌}
use Rattle.std.specs.List.{flat_map}
use Rattle.std.specs.declared.option.Option.{Option}
use Rattle.std.specs.declared.option.Option.TheVariants.{None, Some}
use Rattle.std.specs.declared.cmp.Ordering.{Ordering}
use Rattle.std.specs.declared.cmp.Ordering.TheVariants.{Less, Equal, Greater}
use Rattle.std.specs.Ordering.{is_eq, is_lt, ordering_reverse}
use Rattle.std.specs.FinMap.Entries.{is_sorted, below_all}
use Rattle.cp_path.specs.PathOrder.{path_total, path_ties, path_eq_equiv}
use Rattle.cp_path.proofs.Same.{path_same}
use Rattle.cp_model.specs.declared.row.Content.{Content}
use Rattle.cp_model.specs.declared.row.Row.{Row}
use Rattle.cp_model.specs.Place.{Path, path_cmp, path_eq}
use Rattle.cp_model.proofs.Sorted.{parts_of}
use Rattle.cp_model.specs.Keyed.{look}
use Rattle.cp_tree.specs.Rows.{entries_in}
use Rattle.cp_archive.specs.declared.difference.Difference.{Difference}
use Rattle.cp_archive.specs.Ranges.{is_content}
use Rattle.cp_archive.specs.Differences.{AreAfter}

pub less : (o : Ordering) → T (is_lt o) → o ≡ Less
less Less h = refl
less Equal h = absurd h
less Greater h = absurd h

-- a path that comes after another isn't that one
pub other_path : (p q : Path) → path_cmp p q ≡ Less → path_eq q p ≡ false
other_path p q h = path_ties q p ∙ ap is_eq (path_total.antisymm q p ∙ ap ordering_reverse h)

-- nor is one that comes before it
other_before : (p q : Path) → path_cmp p q ≡ Less → path_eq p q ≡ false
other_before p q h = path_ties p q ∙ ap is_eq h

module _ {X : Type 0} where
  -- where another path is in front, the first entry doesn't count
  look_past : (q : Path) (e : Path × X) (es : List (Path × X)) → path_eq q e.0 ≡ false → look q (e ∷ es) ≡ look q es
  look_past q e es h = ap (λ b. cond b (Some e.1) (look q es)) h

  -- a path before all of them isn't there
  before_all : (p k : Path) (es : List (Path × X)) → path_cmp p k ≡ Less → T (below_all path_cmp k es) → look p es ≡ None
  before_all p k [] l h = refl
  before_all p k (e ∷ es) l h =
      let parts = parts_of (is_lt (path_cmp k e.0)) (below_all path_cmp k es) h in
      look_past p e es (other_before p e.0 (path_total.trans p k e.0 l (less _ parts.0))) ∙ before_all p k es l parts.1

-- ---- the rows that are passed on the way to a path

-- the rows that are left have what all have at p and after it
pub record AreLeft (p : Path) (all left : List Row) : Type 0 where
  pub after : AreAfter p all left
  pub here : look p (entries_in left) ≡ look p (entries_in all)

module _ (p : Path) (all : List Row) where
  front_passed : (r : Row) (left : List Row) → AreLeft p all (r ∷ left) → ((q : Path) → path_cmp p q ≡ Less → path_cmp r.path q ≡ Less) → AreAfter p all left
  front_passed r left h f = record {
    sorted = (parts_of (below_all path_cmp r.path (entries_in left)) (is_sorted path_cmp (entries_in left)) h.after.sorted).1;
    same = λ q l. sym (look_past q (r.path, r.content) (entries_in left) (other_path r.path q (f q l))) ∙ h.after.same q l;
  }

  one_passed : (r : Row) (left : List Row) → AreLeft p all (r ∷ left) → path_cmp r.path p ≡ Less → AreLeft p all left
  one_passed r left h l = record {
    after = front_passed r left h (λ q k. path_total.trans r.path p q l k);
    here = sym (look_past p (r.path, r.content) (entries_in left) (other_path r.path p l)) ∙ h.here;
  }

  -- a row before p is passed
  pub one-passed : (from left : List Row) (r : Row) → AreLeft p all from → from ≡ r ∷ left → path_cmp r.path p ≡ Less → AreLeft p all left
  one-passed from left r h e l = one_passed r left (subst (AreLeft p all) e h) l

  there_found : (r : Row) (left : List Row) → AreLeft p all (r ∷ left) → r.path ≡ p → Some r.content ≡ look p (entries_in all)
  there_found r left h e = sym (ap (λ b. cond b (Some r.content) (look p (entries_in left))) (ap (path_eq p) e ∙ path_eq_equiv.refl p)) ∙ h.here

  -- the row of p is found
  pub row-found : (from left : List Row) (r : Row) → AreLeft p all from → from ≡ r ∷ left → path_cmp r.path p ≡ Equal → Some r.content ≡ look p (entries_in all)
  row-found from left r h e l = there_found r left (subst (AreLeft p all) e h) (path_same r.path p l)

  -- and passed
  pub found-passed : (from left : List Row) (r : Row) → AreLeft p all from → from ≡ r ∷ left → path_cmp r.path p ≡ Equal → AreAfter p all left
  found-passed from left r h e l = front_passed r left (subst (AreLeft p all) e h) (λ q k. ap (λ s. path_cmp s q) (path_same r.path p l) ∙ k)

  none_found : (r : Row) (left : List Row) → AreLeft p all (r ∷ left) → path_cmp p r.path ≡ Less → None ≡ look p (entries_in all)
  none_found r left h l =
      let parts = parts_of (below_all path_cmp r.path (entries_in left)) (is_sorted path_cmp (entries_in left)) h.after.sorted in
      sym (look_past p (r.path, r.content) (entries_in left) (other_before p r.path l) ∙ before_all p r.path (entries_in left) l parts.0) ∙ h.here

  -- where the next row comes after p, there is none of p
  pub none-found : (from left : List Row) (r : Row) → AreLeft p all from → from ≡ r ∷ left → path_cmp r.path p ≡ Greater → None ≡ look p (entries_in all)
  none-found from left r h e l = none_found r left (subst (AreLeft p all) e h) (path_total.antisymm p r.path ∙ ap ordering_reverse l)

  -- nor where no row is left
  pub none-left : (left : List Row) → AreLeft p all left → length left ≡ 0 → None ≡ look p (entries_in all)
  none-left [] h e = h.here
  none-left (r ∷ left) h e = absurd (cc)

-- ---- what rows in order give, each with what others have at its path

-- the path of a row, unless others have something there
abbrev pub gone_with : Path → Row → Option Content → List Difference
gone_with place r o = if is_some o then [] else record { path = place ++ r.path; content = None } ∷ []

-- the path and the content of a row, unless others have that content there
abbrev pub begun_with : Path → Row → Option Content → List Difference
begun_with place r o = if is_content o r.content then [] else record { path = place ++ r.path; content = Some r.content } ∷ []

-- what a row gives with what others have at its path
module _ (give : Row → Option Content → List Difference) where
  -- what rows give beside others
  abbrev pub given : List Row → List Row → List Difference
  given others rows = flat_map (λ r. give r (look r.path (entries_in others))) rows

  -- what later rows give is the same beside what is left
  given_after : (p : Path) (all left : List Row) → AreAfter p all left → (rows : List Row) → T (below_all path_cmp p (entries_in rows)) → given left rows ≡ given all rows
  given_after p all left h [] b = refl
  given_after p all left h (r ∷ rows) b =
      let parts = parts_of (is_lt (path_cmp p r.path)) (below_all path_cmp p (entries_in rows)) b in
      ap (λ o. give r o ++ given left rows) (h.same r.path (less _ parts.0)) ∙ ap (λ ds. give r (look r.path (entries_in all)) ++ ds) (given_after p all left h rows parts.1)

  -- what is found, with what the rows to come give beside what is left of the others, is what all give beside them all
  pub record AreGiven (before found : List Difference) (others left rows more : List Row) : Type 0 where
    pub left_rise : T (is_sorted path_cmp (entries_in left))
    pub more_rise : T (is_sorted path_cmp (entries_in more))
    pub same : found ++ given left more ≡ before ++ given others rows

  module _ (before found : List Difference) (others left rows : List Row) where
    one_given : (r : Row) (more : List Row) → AreGiven before found others left rows (r ∷ more) → (next : List Difference) (rest : List Row) → next ≡ found ++ give r (look r.path (entries_in left)) → AreAfter r.path left rest
        → AreGiven before next others rest rows more
    one_given r more h next rest e a =
        let parts = parts_of (below_all path_cmp r.path (entries_in more)) (is_sorted path_cmp (entries_in more)) h.more_rise in
        record {
          left_rise = a.sorted;
          more_rise = parts.1;
          same = ap (λ ds. next ++ ds) (given_after r.path left rest a more parts.0)
              ∙ ap (λ ds. ds ++ given left more) e
              ∙ append_assoc found (give r (look r.path (entries_in left))) (given left more)
              ∙ h.same;
        }

    -- one row more has given what it gives
    pub one-given : (r : Row) (from more : List Row) → AreGiven before found others left rows from → from ≡ r ∷ more → (next : List Difference) (rest : List Row) → next ≡ found ++ give r (look r.path (entries_in left)) → AreAfter r.path left rest
        → AreGiven before next others rest rows more
    one-given r from more h f next rest e a = one_given r more (subst (AreGiven before found others left rows) f h) next rest e a
