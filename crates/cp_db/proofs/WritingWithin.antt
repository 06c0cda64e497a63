-- The places of accepted operations and of their records are within the limits of places.
use Rattle.std.proofs.Common.{◌≡◌, ℕ, Bool, true, false, ◌&&◌, List, [], ◌∷◌, ◌++◌, length, fold, is_some, if◌then◌else◌, refl, sym, ap, ◌∙◌, subst}
use Rattle.std.specs.Bool.{⊤}
use Rattle.std.specs.List.{AllByRecursion, cons_option}
use Rattle.std.specs.Option.{option_map}
use Rattle.std.specs.declared.option.Option.{Option}
use Rattle.std.specs.declared.option.Option.TheVariants.{None, Some}
use Rattle.cp_path.specs.declared.loc.Loc.{Loc}
use Rattle.cp_path.proofs.Same.{text_eq-same}
use Rattle.cp_model.specs.declared.effect.Effect.{Effect}
use Rattle.cp_model.specs.declared.effect.Effect.TheVariants.{Same as same, New as made, From as from}
use Rattle.cp_model.specs.declared.origin.Origin.{Origin}
use Rattle.cp_model.specs.declared.origin.Origin.TheVariants.{New as new, Was as was}
use Rattle.cp_model.specs.declared.record.RowMark.{RowMark as Mark}
use Rattle.cp_model.specs.declared.record.RowMark.TheVariants.{Made as I, Copied as C, Gone as D, Kept as K}
use Rattle.cp_model.specs.declared.kind.Kind.{Kind}
use Rattle.cp_model.specs.declared.kind.Kind.TheVariants as kind
use Rattle.cp_model.specs.declared.op.Op.{Op}
use Rattle.cp_model.specs.declared.op.Op.TheVariants.{Ins, Del, Copy}
use Rattle.cp_model.specs.Keyed as keyed
use Rattle.cp_model.specs.Place.{Path, at_target, in_target, target, over_limit, parent, place_eq}
use Rattle.cp_model.specs.Subtrees.{is_there}
use Rattle.cp_model.specs.Rows.{effect, effect_eq, effect_given, full_here, full_mark, reduced_here, reduced_mark, rows_with_marks, same_above, lost_below_same, parent_there}
use Rattle.cp_model.specs.Step.{Worked, Working, apply_op, contents, done, open_tree, step}
use Rattle.cp_model.specs.Tree.{Tree, Source, IsTree, refusal, source, tree_after}
use Rattle.cp_model.specs.History.{AreWritten, record_of, rows_of, with_tid}
use Rattle.cp_model.specs.Laws.{AreSources, Sound}
use Rattle.cp_model.proofs.Accepted.{ins_accepted, del_accepted, copy_accepted}
use Rattle.cp_model.proofs.Alone.{step-alone}
use Rattle.cp_model.proofs.Contents.{there-contents}
use Rattle.cp_model.proofs.Histories.{trees-sources}
use Rattle.cp_model.proofs.Kept.{tree-changed, tree-step}
use Rattle.cp_model.proofs.Origins.{sound-step}
use Rattle.cp_model.proofs.Passing.{and_true}
use Rattle.cp_frame.specs.Sound.{AreWithin, IsOpWithin, IsRecordWithin}
use Rattle.cp_operation.specs.Passed.{Stage, AllAccepted, next_stage, outcome_records, records_of, stage_after}
use Rattle.cp_operation.proofs.Linked.{accepted-step}

-- ---- places

-- a place of T that a tree has is within the limits
there_within : (t : Tree) (q : Loc) → IsTree t → in_target q ≡ true → is_there t q.path ≡ true → over_limit q ≡ false
there_within t q h i there = ap (λ (d : List ℕ). over_limit (record { db = d; path = q.path })) (text_eq-same q.db target i) ∙ h.places q.path there

-- and so is one that its database has
database_within : (ss : List Source) (t s : Tree) (q : Loc) (b : Bool) → IsTree t → AreSources ss → in_target q ≡ b → (if b then Some t else source ss q.db) ≡ Some s → is_there s q.path ≡ true → over_limit q ≡ false
database_within ss t s q true h r i e there = let is : s ≡ t = cc in there_within t q h i (subst (λ (u : Tree). is_there u q.path ≡ true) is there)
database_within ss t s q false h r i e there = (r.each q.db s e).places q.path there

-- ---- operations

op_within : (ss : List Source) (t : Tree) (op : Op) → IsTree t → AreSources ss → refusal ss t op ≡ None → IsOpWithin op
op_within ss t (Ins p a l) h r n = let x = ins_accepted ss t p a l n in there_within t p h x.target (ap is_some x.node)
op_within ss t (Del a p) h r n = let x = del_accepted ss t p a n in there_within t p h x.target (ap is_some x.node)
op_within ss t (Copy q p) h r n =
    let x = copy_accepted ss t q p n in
    (database_within ss t x.tree q (in_target q) h r refl x.is_tree x.origin, there_within t p h x.target x.there)

ops_within : (ss : List Source) (t : Tree) (ops : List Op) → IsTree t → AreSources ss → AreWritten ops → AllAccepted ss t ops → AllByRecursion IsOpWithin ops
ops_within ss t [] h r w a = tt
ops_within ss t (op ∷ ops) h r w a =
    (op_within ss t op h r a.0, ops_within ss (tree_after ss t op) ops (tree-changed ss t op h (trees-sources ss r) w.0 a.0) r w.1 a.1)

-- ---- rows

-- the place that a row was copied from is within the limits
abbrev IsMarkWithin : Mark → Type 0
IsMarkWithin I = ⊤
IsMarkWithin (C q) = over_limit q ≡ false
IsMarkWithin D = ⊤
IsMarkWithin K = ⊤

-- and so is the one that an effect tells
abbrev IsEffectWithin : Effect → Type 0
IsEffectWithin same = ⊤
IsEffectWithin made = ⊤
IsEffectWithin (from q) = over_limit q ≡ false

record_within : (n : ℕ) (p : Path) (m : Mark) → over_limit (at_target p) ≡ false → IsMarkWithin m → IsRecordWithin (record_of n p m)
record_within n p I here m = (here, tt)
record_within n p (C q) here m = (here, m)
record_within n p D here m = (here, tt)
record_within n p K here m = (here, tt)

mark_is : (m k : Mark) → Some m ≡ Some k → IsMarkWithin m → IsMarkWithin k
mark_is m k e h = let is : m ≡ k = cc in subst IsMarkWithin is h

full_within : (e : Effect) (m : Mark) → full_mark e ≡ Some m → IsEffectWithin e → IsMarkWithin m
full_within same m e h = absurd (cc)
full_within made m e h = mark_is I m e tt
full_within (from q) m e h = mark_is (C q) m e h

reduced_within : (e : Effect) → IsEffectWithin e → IsMarkWithin (reduced_mark e)
reduced_within same h = tt
reduced_within made h = tt
reduced_within (from q) h = h

effect_within : (ss : List Source) (t : Tree) (p : Path) (o : Origin) → Sound ss t o → IsEffectWithin (effect p o)
effect_within ss t p new h = tt
effect_within ss t p (was q) h = elim (place_eq q (at_target p)) as (λ b. IsEffectWithin (if b then same else from q)) [ true ↦ tt | false ↦ h.fits ]

all_append : {X : Type 0} (P : X → Type 0) (xs ys : List X) → AllByRecursion P xs → AllByRecursion P ys → AllByRecursion P (xs ++ ys)
all_append P [] ys a b = b
all_append P (x ∷ xs) ys a b = (a.0, all_append P xs ys a.1 b)

-- the records of places that have a mark
marked_within : (n : ℕ) (f : Path → Option Mark) (ps : List Path) → ((p : Path) (m : Mark) → f p ≡ Some m → IsRecordWithin (record_of n p m)) → AllByRecursion IsRecordWithin (with_tid n (rows_with_marks f ps))
marked_within n f [] h = tt
marked_within n f (p ∷ ps) h =
    elim (f p) as (λ o. f p ≡ o → AllByRecursion IsRecordWithin (with_tid n (cons_option (option_map (λ m. (p, m)) o) (rows_with_marks f ps)))) [
      | None ↦ λ _. marked_within n f ps h
      | Some m ↦ λ e. (h p m e, marked_within n f ps h)
    ] refl

module _ (ss : List Source) (t : Tree) (w : Working) (h : IsTree t) (k : IsTree (contents w)) (origins : (p : Path) (x : Worked) → keyed.get w p ≡ Some x → Sound ss t x.origin) where
  left_within : (p : Path) (x : Worked) → keyed.get w p ≡ Some x → over_limit (at_target p) ≡ false
  left_within p x e = k.places p (there-contents w p ∙ ap is_some e)

  lost_within : (n : ℕ) (p : Path) (m : Mark) (b : Bool) → (b ≡ true → is_there t p ≡ true) → (if b then Some D else None) ≡ Some m → IsRecordWithin (record_of n p m)
  lost_within n p m true i e = record_within n p m (h.places p (i refl)) (mark_is D m e tt)
  lost_within n p m false i e = absurd (cc)

  lost_there : (p : Path) → lost_below_same t w p ≡ true → is_there t p ≡ true
  lost_there p e = (and_true (is_there t p) (same_above w p) e).0

  full_at : (n : ℕ) (p : Path) (m : Mark) → full_here t w p ≡ Some m → IsRecordWithin (record_of n p m)
  unfolding full_here
  full_at n p m is =
      elim (keyed.get w p) as (λ o. keyed.get w p ≡ o → (elim (option_map (λ x. effect p x.origin) o) [ Some e ↦ full_mark e | None ↦ if lost_below_same t w p then Some D else None ]) ≡ Some m → IsRecordWithin (record_of n p m)) [
        | None ↦ λ _ e. lost_within n p m (lost_below_same t w p) (lost_there p) e
        | Some x ↦ λ g e. record_within n p m (left_within p x g) (full_within (effect p x.origin) m e (effect_within ss t p x.origin (origins p x g)))
      ] refl is

  reduced_at : (n : ℕ) (p : Path) (m : Mark) → reduced_here t w p ≡ Some m → IsRecordWithin (record_of n p m)
  unfolding reduced_here
  reduced_at n p m is =
      elim (keyed.get w p) as (λ o. keyed.get w p ≡ o → (elim (option_map (λ x. effect p x.origin) o) [
        | Some e ↦ if effect_eq e (effect_given w p) then None else Some (reduced_mark e)
        | None ↦ if lost_below_same t w p && parent_there w (parent p) then Some D else None
      ]) ≡ Some m → IsRecordWithin (record_of n p m)) [
        | None ↦ λ _ e. lost_within n p m (lost_below_same t w p && parent_there w (parent p)) (λ b. lost_there p (and_true (lost_below_same t w p) (parent_there w (parent p)) b).0) e
        | Some x ↦ λ g e. told (effect p x.origin) (effect_within ss t p x.origin (origins p x g)) (left_within p x g) (effect_eq (effect p x.origin) (effect_given w p)) e
      ] refl is
    where
      told : (e : Effect) → IsEffectWithin e → over_limit (at_target p) ≡ false → (b : Bool) → (if b then None else Some (reduced_mark e)) ≡ Some m → IsRecordWithin (record_of n p m)
      told e i here true is = absurd (cc)
      told e i here false is = record_within n p m here (mark_is (reduced_mark e) m is (reduced_within e i))

  rows_within : (n : ℕ) (j : Kind) → AllByRecursion IsRecordWithin (with_tid n (rows_of j t w))
  rows_within n kind.N = marked_within n (full_here t w) _ (full_at n)
  rows_within n kind.T = marked_within n (full_here t w) _ (full_at n)
  rows_within n kind.H = marked_within n (reduced_here t w) _ (reduced_at n)
  rows_within n kind.HT = marked_within n (reduced_here t w) _ (reduced_at n)

-- ---- records

-- the records of a step that is done
step_within : (ss : List Source) (t : Tree) (ops : List Op) (j : ℕ) (w : Working) → IsTree t → AreSources ss → AreWritten ops → step t ss ops ≡ done j w → (n : ℕ) (k : Kind) → AllByRecursion IsRecordWithin (with_tid n (rows_of k t w))
step_within ss t ops j w h r a e = rows_within ss t w h (tree-step t ss ops j w h (trees-sources ss r) a e) (sound-step t ss ops j w h r e)

stage_within : (k : Kind) (ss : List Source) (x : Stage) (ops : List Op) → IsTree x.tree → AreSources ss → AreWritten ops → AllAccepted ss x.tree ops → AllByRecursion IsRecordWithin x.records → AllByRecursion IsRecordWithin (fold (next_stage k ss) x ops).records
unfolding next_stage
stage_within k ss x [] h r w a i = i
stage_within k ss x (op ∷ ops) h r w a i =
    let one = step_within ss x.tree (op ∷ []) 1 (apply_op ss (open_tree x.tree) op) h r (w.0, tt) (step-alone ss x.tree op a.0) x.next k in
    stage_within k ss (next_stage k ss x op) ops (tree-changed ss x.tree op h (trees-sources ss r) w.0 a.0) r w.1 a.1
    (all_append IsRecordWithin x.records (with_tid x.next (rows_of k x.tree (apply_op ss (open_tree x.tree) op))) i one)

module _ (ss : List Source) (t : Tree) (n : ℕ) (ops : List Op) (h : IsTree t) (r : AreSources ss) (w : AreWritten ops) (a : AllAccepted ss t ops) where
  alone_within : (k : Kind) → AllByRecursion IsRecordWithin (stage_after k ss t n ops).records
  unfolding stage_after
  alone_within k = stage_within k ss (record { tree = t; next = n; records = [] }) ops h r w a tt

  whole_within : (k : Kind) → AllByRecursion IsRecordWithin (outcome_records k t n (step t ss ops))
  whole_within k =
      let x = accepted-step k ss t n ops a in
      subst (λ o. AllByRecursion IsRecordWithin (outcome_records k t n o)) (sym x.1) (step_within ss t ops (length ops) x.0 h r w x.1 n k)

  all_within : (k : Kind) → AllByRecursion IsRecordWithin (records_of k ss t n ops)
  all_within kind.N = alone_within kind.N
  all_within kind.T = whole_within kind.T
  all_within kind.H = alone_within kind.H
  all_within kind.HT = whole_within kind.HT

  -- accepted operations and their records are within the limits of places
  pub within-passed : (k : Kind) → AreWithin ops (records_of k ss t n ops)
  within-passed k = (ops_within ss t ops h r w a, all_within k)
