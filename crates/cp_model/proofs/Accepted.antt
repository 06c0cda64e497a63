-- What holds where an operation isn't refused.
use Rattle.std.specs.Prelude.{ℕ, ◌≤◌, ◌≡◌, Bool, true, false, not, List, [], ◌∷◌, ◌++◌, is_some, nat_lt, if◌then◌else◌, refl, ⊤}
use Rattle.std.proofs.Common.{arith}
use Rattle.std.proofs.lemmas.Bool.Decides.{nat_tests}
use Rattle.std.specs.declared.option.Option.{Option}
use Rattle.std.specs.declared.option.Option.TheVariants.{None, Some}
use Rattle.cp_path.specs.declared.loc.Loc.{Loc}
use Rattle.cp_model.specs.declared.row.Content.{Content}
use Rattle.cp_model.specs.declared.row.Content.TheVariants.{Node, Leaf}
use Rattle.cp_model.specs.declared.literal.Literal.{Literal}
use Rattle.cp_model.specs.declared.op.Op.TheVariants.{Ins, Del, Copy}
use Rattle.cp_model.specs.declared.refusal.Refusal.{Refusal}
use Rattle.cp_model.specs.declared.refusal.Refusal.TheVariants.{TooDeep}
use Rattle.cp_model.specs.Place.{Label, child, in_target, below_place}
use Rattle.cp_model.specs.Cases.{first_case}
use Rattle.cp_model.specs.Keyed as keyed
use Rattle.cp_model.specs.Subtrees.{is_there, below, with_subtree}
use Rattle.cp_model.specs.Literals.{literal_rows}
use Rattle.cp_model.specs.Tree.{Tree, Source, database, subtree_at, refusal, cases_of, tree_after, is_node, reaches_over, limits_of, origin_there, IsWithin}

-- no case applies
abbrev pub AllFail : List (Bool × Refusal) → Type 0
AllFail [] = ⊤
AllFail (c ∷ cs) = (c.0 ≡ false) × AllFail cs

-- where there is no first case, no case applies
pub none_applies : (cs : List (Bool × Refusal)) → first_case cs ≡ None → AllFail cs
none_applies [] h = tt
none_applies (c ∷ cs) h =
    elim (c.0) as (λ b. (if b then Some c.1 else first_case cs) ≡ None → (b ≡ false) × AllFail cs) [
      | true ↦ λ h. absurd (cc)
      | false ↦ λ h. (refl, none_applies cs h)
    ] h

-- what is a node holds Node
pub node_is : (o : Option Content) → not (is_node o) ≡ false → o ≡ Some Node
node_is None h = absurd (cc)
node_is (Some Node) h = refl
node_is (Some (Leaf v)) h = absurd (cc)

-- what isn't there is None
pub none_is : {X : Type 0} (o : Option X) → is_some o ≡ false → o ≡ None
none_is None h = refl
none_is (Some x) h = absurd (cc)

-- a test whose negation is false is true
pub not_false : (b : Bool) → not b ≡ false → b ≡ true
not_false true h = refl
not_false false h = absurd (cc)

-- what isn't less is at most
pub at_most : (a b : ℕ) → nat_lt a b ≡ false → b ≤ a
at_most a b h = grind (arith, nat_tests)

-- an insertion that isn't refused: into a node of T, at a free label, within every limit
pub record InsAccepted (t : Tree) (p : Loc) (a : Label) (l : Literal) : Type 0 where
  pub target : in_target p ≡ true
  pub node : keyed.get t p.path ≡ Some Node
  pub free : keyed.get t (child p.path a) ≡ None
  pub places : reaches_over (below_place p (a ∷ [])) (literal_rows l) ≡ false
  pub fits : IsWithin (with_subtree (child p.path a) (literal_rows l) t)

-- an insertion that isn't refused meets no case of refusal
pub ins_accepted : (ss : List Source) (t : Tree) (p : Loc) (a : Label) (l : Literal) → refusal ss t (Ins p a l) ≡ None → InsAccepted t p a l
unfolding refusal cases_of tree_after
ins_accepted ss t p a l h =
    let all = none_applies (cases_of ss t (Ins p a l)) h in
    record {
      target = not_false _ all.0;
      node = node_is _ all.1.1.0;
      free = none_is _ all.1.1.1.0;
      places = all.1.1.1.1.0;
      fits = record { nodes = at_most _ _ all.1.1.1.1.1.0; weighs = at_most _ _ all.1.1.1.1.1.1.0 };
    }

-- a deletion that isn't refused: of a label that a node of T has
pub record DelAccepted (t : Tree) (p : Loc) (a : Label) : Type 0 where
  pub target : in_target p ≡ true
  pub node : keyed.get t p.path ≡ Some Node
  pub there : is_there t (child p.path a) ≡ true

-- a deletion that isn't refused meets no case of refusal
pub del_accepted : (ss : List Source) (t : Tree) (p : Loc) (a : Label) → refusal ss t (Del a p) ≡ None → DelAccepted t p a
unfolding refusal cases_of
del_accepted ss t p a h =
    let all = none_applies (cases_of ss t (Del a p)) h in
    record { target = not_false _ all.0; node = node_is _ all.1.1.0; there = not_false _ all.1.1.1.0 }

-- a copy that isn't refused: onto a place of T, of a place of T or of a source, within every limit
pub record CopyAccepted (ss : List Source) (t : Tree) (q p : Loc) : Type 0 where
  pub target : in_target p ≡ true
  pub there : is_there t p.path ≡ true
  -- the tree that is copied from
  pub tree : Tree
  pub is_tree : database ss t q ≡ Some tree
  pub origin : is_there tree q.path ≡ true
  pub places : reaches_over p (below q.path tree) ≡ false
  pub fits : IsWithin (with_subtree p.path (below q.path tree) t)

-- a copy that isn't refused meets no case of refusal
pub copy_accepted : (ss : List Source) (t : Tree) (q p : Loc) → refusal ss t (Copy q p) ≡ None → CopyAccepted ss t q p
unfolding refusal cases_of tree_after
copy_accepted ss t q p h =
    let all = none_applies (cases_of ss t (Copy q p)) h in
    of_tree (database ss t q) refl (not_false _ all.0) (not_false _ all.1.0) all.1.1
  where
    of_tree : (o : Option Tree) → database ss t q ≡ o → in_target p ≡ true → is_there t p.path ≡ true →
        AllFail (origin_there o q.path ++ (reaches_over p (subtree_at o q.path), TooDeep) ∷ limits_of (with_subtree p.path (subtree_at o q.path) t)) → CopyAccepted ss t q p
    of_tree None e i j all = let k = all.0 in absurd (cc)
    of_tree (Some s) e i j all =
        record { target = i; there = j; tree = s; is_tree = e; origin = not_false _ all.0; places = all.1.0; fits = record { nodes = at_most _ _ all.1.1.0; weighs = at_most _ _ all.1.1.1.0 } }
