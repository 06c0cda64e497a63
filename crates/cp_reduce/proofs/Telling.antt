-- The rows that reduced records tell, as they are noted place by place.
use Rattle.std.proofs.Common.{◌≡◌, ℕ, ◌+◌, ◌-◌, ◌<◌, Bool, true, false, cond, List, [], length, get_or, take, drop, map, refl, sym, ap, ◌∙◌}
use Rattle.std.specs.Prelude.{if◌then◌else◌, ◌&&◌, ◌||◌}
use Rattle.std.proofs.Math.Seq.{take-length}
use Rattle.std.proofs.lemmas.List.{length-drop}
use Rattle.std.proofs.lemmas.List.Folds.{list_any_more}
use Rattle.std.specs.declared.option.Option.{Option}
use Rattle.std.specs.declared.option.Option.TheVariants.{None, Some}
use Rattle.cp_path.specs.declared.loc.Loc.{Loc}
use Rattle.cp_path.proofs.Same.{path_eq-same}
use Rattle.cp_model.specs.declared.record.Record.{Record}
use Rattle.cp_model.specs.declared.record.RecOp.{RecOp}
use Rattle.cp_model.specs.declared.record.RowMark.{RowMark as Mark}
use Rattle.cp_model.specs.declared.record.RowMark.TheVariants.{Copied as C, Gone as D}
use Rattle.cp_model.specs.declared.effect.Effect.TheVariants.{Same as same, From as from}
use Rattle.cp_model.specs.declared.row.Row.{Row}
use Rattle.cp_model.specs.Place.{Path, path_eq, below_place, nearest, over_limit}
use Rattle.cp_model.specs.Subtrees.{is_there, below}
use Rattle.cp_model.specs.Tree.{Tree}
use Rattle.cp_model.specs.Rows.{full_mark, read_mark, read_nearest}
use Rattle.cp_model.specs.Records.{is_D, mark_by}
use Rattle.cp_tree.specs.Rows.{entry_row}
use Rattle.cp_overlay.specs.Net.{is_within, noted}
use Rattle.cp_overlay.proofs.Noting.{noted-both, any_row, row-all}
use Rattle.cp_reduce.specs.Told.{mark_in, mark_at, mark_left, mark_told, copy_mark, any_gone}

-- ---- what the nearest record tells

module _ (rs : List Record) (p q : Path) (same_path : q ≡ p) where
  -- by what was found for the place
  told_by : (o : Option (Mark × Path)) → nearest (mark_at rs) q ≡ o → mark_left (read_nearest o) ≡ mark_told rs p
  unfolding mark_told
  told_by o e = ap (λ o. mark_left (read_nearest o)) (sym e) ∙ ap (λ q. mark_left (read_nearest (nearest (mark_at rs) q))) same_path

  -- no record tells nothing
  pub told-none : nearest (mark_at rs) q ≡ None → None ≡ mark_told rs p
  told-none e = told_by None e

  -- by the letter and the source of the record that was found
  pub told-by : (x : Record) (n : ℕ) (o : RecOp) (src : Option Loc) → nearest (mark_at rs) q ≡ Some (mark_in x, drop n q) → x.op ≡ o → x.src ≡ src → mark_left (read_mark (mark_by o src) (drop n q)) ≡ mark_told rs p
  told-by x n o src e i j = ap (λ o. mark_left (read_mark (mark_by o src) (drop n q))) (sym i) ∙ ap (λ s. mark_left (read_mark (mark_by x.op s) (drop n q))) (sym j) ∙ told_by (Some (mark_in x, drop n q)) e

-- what follows the first labels, of two paths that are the same
pub rest-same : (l m p : Path) (n : ℕ) → l ≡ p → m ≡ p → take (length l - n) (drop n l) ≡ drop n m
rest-same l m p n e f = ap (λ k. take k (drop n l)) (sym (length-drop n l)) ∙ take-length (drop n l) ∙ ap (drop n) (e ∙ sym f)

-- what a record of a copy tells
pub copied-told : (q : Loc) (s : Path) → copy_mark (below_place q s) ≡ mark_left (read_mark (C q) s)
copied-told q s = elim (over_limit (below_place q s)) as (λ b. (if b then None else Some (C (below_place q s))) ≡ full_mark (if b then same else from (below_place q s))) [ true ↦ refl | false ↦ refl ]

-- ---- one place

-- the row of a place, noted at it
pub noted-told : (rs : List Record) (p q r : Path) (m : Mark) (o n : Option Mark) → q ≡ p → Some m ≡ mark_told rs p → n ≡ cond (path_eq r q) (Some m) o → n ≡ noted (path_eq r p) (mark_told rs r) o
noted-told rs p q r m o n e h k =
    k ∙ ap (λ q. cond (path_eq r q) (Some m) o) e
    ∙ elim (path_eq r p) as (λ b. path_eq r p ≡ b → cond b (Some m) o ≡ noted b (mark_told rs r) o) [
      | true ↦ λ t. ap (λ x. noted true x o) (h ∙ ap (mark_told rs) (sym (path_eq-same r p t)))
      | false ↦ λ _. refl
    ] refl

-- a place without a row is noted as it was
pub noted-untold : (rs : List Record) (p r : Path) (o : Option Mark) → None ≡ mark_told rs p → o ≡ noted (path_eq r p) (mark_told rs r) o
noted-untold rs p r o h =
    elim (path_eq r p) as (λ b. path_eq r p ≡ b → o ≡ noted b (mark_told rs r) o) [
      | true ↦ λ t. ap (λ x. noted true x o) (h ∙ ap (mark_told rs) (sym (path_eq-same r p t)))
      | false ↦ λ _. refl
    ] refl

-- ---- all places

-- with all rows of a tree, all places that are there
pub all-places : (t : Tree) (q r : Path) (rows : List Row) (i : ℕ) (m o n : Option Mark) → rows ≡ map entry_row (below q t) → q ≡ [] → take i rows ≡ rows → n ≡ noted (any_row [] r (take i rows)) m o → n ≡ noted (is_there t r) m o
unfolding is_within
all-places t q r rows i m o n e k a h = row-all t [] q [] r rows i m o n e (sym k) k a h

-- ---- what is gone

-- one record more
pub gone-more : (t : Tree) (r : Path) (rs : List Record) (i : ℕ) (x : Record) → i < length rs → x ≡ get_or rs i x → any_gone t r (take (i + 1) rs) ≡ (any_gone t r (take i rs) || (is_D (mark_in x) && is_within t x.loc.path r))
unfolding any_gone
gone-more t r rs i x h e =
    list_any_more (λ (x : Record). is_D (mark_in x) && is_within t x.loc.path r) rs i x h
    ∙ ap (λ (y : Record). any_gone t r (take i rs) || (is_D (mark_in y) && is_within t y.loc.path r)) (sym e)

-- a record that says so tells that its place and all below it are gone
pub gone-noted : (t : Tree) (r : Path) (rs : List Record) (i : ℕ) (x : Record) (o n z : Option Mark) → i < length rs → x ≡ get_or rs i x → is_D (mark_in x) ≡ true →
    z ≡ noted (is_within t x.loc.path r) (Some D) n → n ≡ noted (any_gone t r (take i rs)) (Some D) o → z ≡ noted (any_gone t r (take (i + 1) rs)) (Some D) o
gone-noted t r rs i x o n z h e d f k =
    f ∙ ap (noted (is_within t x.loc.path r) (Some D)) k ∙ noted-both (any_gone t r (take i rs)) (is_within t x.loc.path r) (Some D) o
    ∙ ap (λ c. noted (any_gone t r (take i rs) || (c && is_within t x.loc.path r)) (Some D) o) (sym d)
    ∙ ap (λ b. noted b (Some D) o) (sym (gone-more t r rs i x h e))

-- any other tells nothing
pub gone-other : (t : Tree) (r : Path) (rs : List Record) (i : ℕ) (x : Record) (o n : Option Mark) → i < length rs → x ≡ get_or rs i x → is_D (mark_in x) ≡ false →
    n ≡ noted (any_gone t r (take i rs)) (Some D) o → n ≡ noted (any_gone t r (take (i + 1) rs)) (Some D) o
gone-other t r rs i x o n h e d k =
    k ∙ ap (λ b. noted b (Some D) o) (sym (or_false (any_gone t r (take i rs))))
    ∙ ap (λ c. noted (any_gone t r (take i rs) || (c && is_within t x.loc.path r)) (Some D) o) (sym d)
    ∙ ap (λ b. noted b (Some D) o) (sym (gone-more t r rs i x h e))
  where
    or_false : (b : Bool) → (b || false) ≡ b
    or_false true = refl
    or_false false = refl
