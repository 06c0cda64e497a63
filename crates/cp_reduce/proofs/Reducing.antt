-- The full row of the place that an operation wrote is its reduced row.
use Rattle.std.specs.Prelude.{ℕ, ◌≡◌, true, false, cond, ◌&&◌, List, [], ◌∷◌, ◌++◌, is_some, if◌then◌else◌, refl}
use Rattle.std.proofs.Common.{sym, ap, ◌∙◌}
use Rattle.std.specs.Option.{option_to_list}
use Rattle.std.specs.List.{find}
use Rattle.std.specs.declared.option.Option.{Option}
use Rattle.std.specs.declared.option.Option.TheVariants.{None, Some}
use Rattle.std.specs.Cmp.Lexicographic.{nat_list_eq_equiv}
use Rattle.cp_path.specs.declared.loc.Loc.{Loc}
use Rattle.cp_path.proofs.Same.{text_eq-same, path_eq-same}
use Rattle.cp_model.specs.declared.row.Content.{Content}
use Rattle.cp_model.specs.declared.literal.Literal.{Literal}
use Rattle.cp_model.specs.declared.literal.Literal.TheVariants as literal
use Rattle.cp_model.specs.declared.op.Op.{Op}
use Rattle.cp_model.specs.declared.op.Op.TheVariants.{Ins, Del, Copy}
use Rattle.cp_model.specs.declared.record.Record.{Record}
use Rattle.cp_model.specs.declared.record.RowMark.{RowMark as Mark}
use Rattle.cp_model.specs.declared.record.RowMark.TheVariants.{Made as I, Copied as C, Gone as D, Kept as K}
use Rattle.cp_model.specs.Place.{Path, path_eq, place_eq, target, at_target, child, below_place, option_map}
use Rattle.cp_model.specs.Keyed.{look}
use Rattle.cp_model.specs.Subtrees.{below}
use Rattle.cp_model.specs.Literals.{literal_rows}
use Rattle.cp_model.specs.Tree.{Tree, Source, database, subtree_at, IsTree, refusal}
use Rattle.cp_model.specs.Step.{open_tree, apply_op}
use Rattle.cp_model.specs.Rows.{full_rows, reduced_rows}
use Rattle.cp_model.specs.History.{IsWritten, record_of, with_tid}
use Rattle.cp_model.specs.Laws.{at_rest_or, AreSources}
use Rattle.cp_model.proofs.Accepted.{ins_accepted, del_accepted, copy_accepted}
use Rattle.cp_model.proofs.Histories.{trees-sources}
use Rattle.cp_model.proofs.Lookups.{path_eq-sym}
use Rattle.cp_model.proofs.Reading.{below_place-nil}
use Rattle.cp_model.proofs.Strips.{strip-itself}
use Rattle.cp_operation.specs.RowsAlone.{marks_below, op_rows, top_rows}
use Rattle.cp_operation.proofs.RowsAloneLemmas.{find-behind, root-below}
use Rattle.cp_engine.proofs.StepRows.{rows-alone, reduced-alone}
use Rattle.cp_reduce.specs.Written.{written_by}

-- the row of a mark, if there is one
abbrev row_of : Path → Option Mark → List (Path × Mark)
row_of x m = option_to_list (option_map (λ m. (x, m)) m)

its_place : (n : ℕ) (p : Path) (m : Mark) → (record_of n p m).loc ≡ at_target p
its_place n p I = refl
its_place n p (C q) = refl
its_place n p D = refl
its_place n p K = refl

-- the record of a place is that of its row
find-record : (n : ℕ) (x : Path) (es : List (Path × Mark)) → find (λ r. place_eq r.loc (at_target x)) (with_tid n es) ≡ option_map (record_of n x) (look x es)
find-record n x [] = refl
find-record n x (e ∷ es) =
    ap (λ (q : Loc). cond (place_eq q (at_target x)) (Some (record_of n e.0 e.1)) (find (λ r. place_eq r.loc (at_target x)) (with_tid n es))) (its_place n e.0 e.1)
    ∙ ap (λ b. cond (b && path_eq e.0 x) (Some (record_of n e.0 e.1)) (find (λ r. place_eq r.loc (at_target x)) (with_tid n es))) (nat_list_eq_equiv.refl target)
    ∙ ap (λ b. cond b (Some (record_of n e.0 e.1)) (find (λ r. place_eq r.loc (at_target x)) (with_tid n es))) (path_eq-sym e.0 x)
    ∙ elim (path_eq x e.0) as (λ b. path_eq x e.0 ≡ b → cond b (Some (record_of n e.0 e.1)) (find (λ r. place_eq r.loc (at_target x)) (with_tid n es)) ≡ option_map (record_of n x) (cond b (Some e.1) (look x es))) [
      | true ↦ λ t. ap (λ p. Some (record_of n p e.1)) (sym (path_eq-same x e.0 t))
      | false ↦ λ _. find-record n x es
    ] refl

-- as a list
found-list : (n : ℕ) (x : Path) (o : Option Mark) → option_to_list (option_map (record_of n x) o) ≡ with_tid n (row_of x o)
found-list n x None = refl
found-list n x (Some m) = refl

module _ (x : Path) (f : Path → Mark) (es : List (Path × Content)) where
  -- among rows behind a place, the row of that place
  behind-top : look x (marks_below x f es) ≡ option_map (λ _. f []) (look [] es)
  behind-top = find-behind x f x es ∙ ap (λ o. at_rest_or o (λ s. option_map (λ _. f s) (look s es)) None) (strip-itself x)

  -- is there where the root is
  top-there : is_some (look [] es) ≡ true → look x (marks_below x f es) ≡ Some (f [])
  top-there h = behind-top ∙ elim (look [] es) as (λ o. is_some o ≡ true → option_map (λ _. f []) o ≡ Some (f [])) [ None ↦ λ h. absurd (cc) | Some c ↦ λ _. refl ] h

root : (l : Literal) → is_some (look [] (literal_rows l)) ≡ true
root (literal.Leaf v) = refl
root (literal.Node es) = refl

-- the full row of the place written is the reduced one
found-alone : (ss : List Source) (t : Tree) (op : Op) → refusal ss t op ≡ None → row_of (written_by op).path (look (written_by op).path (op_rows ss t op)) ≡ top_rows op
unfolding op_rows top_rows
found-alone ss t (Ins p a l) n = ap (row_of (child p.path a)) (top-there (child p.path a) (λ _. I) (literal_rows l) (root l))
found-alone ss t (Del a p) n = ap (row_of (child p.path a)) (top-there (child p.path a) (λ _. D) (below (child p.path a) t) (root-below t (child p.path a) (del_accepted ss t p a n).there))
found-alone ss t (Copy q p) n =
    let x = copy_accepted ss t q p n in
    copied (subtree_at (database ss t q) q.path) (ap (λ o. is_some (look [] (subtree_at o q.path))) x.is_tree ∙ root-below x.tree q.path x.origin)
  where
    copied : (es : List (Path × Content)) → is_some (look [] es) ≡ true → row_of p.path (look p.path (if place_eq q p then [] else marks_below p.path (λ s. C (below_place q s)) es)) ≡ (if place_eq q p then [] else (p.path, C q) ∷ [])
    copied es h = elim (place_eq q p) as (λ b. row_of p.path (look p.path (if b then [] else marks_below p.path (λ s. C (below_place q s)) es)) ≡ (if b then [] else (p.path, C q) ∷ [])) [
      | true ↦ refl
      | false ↦ ap (row_of p.path) (top-there p.path (λ s. C (below_place q s)) es h) ∙ ap (λ r. (p.path, C r) ∷ []) (below_place-nil q)
    ]

-- the place that an accepted operation writes lies in T
written-target : (ss : List Source) (t : Tree) (op : Op) → refusal ss t op ≡ None → written_by op ≡ at_target (written_by op).path
written-target ss t (Ins p a l) n = ap (λ (d : List ℕ). record { db = d; path = child p.path a }) (text_eq-same p.db target (ins_accepted ss t p a l n).target)
written-target ss t (Del a p) n = ap (λ (d : List ℕ). record { db = d; path = child p.path a }) (text_eq-same p.db target (del_accepted ss t p a n).target)
written-target ss t (Copy q p) n = ap (λ (d : List ℕ). record { db = d; path = p.path }) (text_eq-same p.db target (copy_accepted ss t q p n).target)

-- among the full records of a step of one operation, that of the place written is the reduced one
pub found-written : (ss : List Source) (t : Tree) (op : Op) (n : ℕ) (written : Loc) (rows : List Record) → AreSources ss → IsTree t → IsWritten op → refusal ss t op ≡ None → written ≡ written_by op
    → rows ≡ with_tid n (full_rows t (apply_op ss (open_tree t) op)) → option_to_list (find (λ r. place_eq r.loc written) rows) ≡ with_tid n (reduced_rows t (apply_op ss (open_tree t) op))
found-written ss t op n written rows k h i e p f =
    ap (λ q. option_to_list (find (λ (r : Record). place_eq r.loc q) rows)) (p ∙ written-target ss t op e)
    ∙ ap (λ rs. option_to_list (find (λ (r : Record). place_eq r.loc (at_target (written_by op).path)) rs)) (f ∙ ap (with_tid n) (rows-alone ss t op h i e))
    ∙ ap option_to_list (find-record n (written_by op).path (op_rows ss t op))
    ∙ found-list n (written_by op).path (look (written_by op).path (op_rows ss t op))
    ∙ ap (with_tid n) (found-alone ss t op e ∙ sym (reduced-alone ss t op (trees-sources ss k) h i e))

-- the list of the record that was found
pub kept-one : (items none all : List Record) (x y : Record) (o : Option Record) → items ≡ none ++ x ∷ [] → none ≡ [] → x ≡ y → Some y ≡ o → option_to_list o ≡ all → items ≡ all
kept-one items none all x y o e n c h k = e ∙ ap (λ xs. xs ++ x ∷ []) n ∙ ap (λ z. z ∷ []) c ∙ ap option_to_list h ∙ k

-- and of none
pub kept-none : (items all : List Record) (o : Option Record) → items ≡ [] → None ≡ o → option_to_list o ≡ all → items ≡ all
kept-none items all o e h k = e ∙ ap option_to_list h ∙ k
