-- From what the calls on the map ensure to what an operation leaves.
use Rattle.std.proofs.Common.{◌≡◌, Bool, true, false, cond, ◌||◌, List, [], ◌∷◌, ◌++◌, Result, Ok, Err, OnOk, refl, sym, ap, subst, ◌∙◌}
use Rattle.std.specs.Prelude.{is_some, if◌then◌else◌, ⊤}
use Rattle.std.specs.Option.{MatchOption}
use Rattle.std.specs.Result.{is_ok}
use Rattle.std.specs.List.{list_any}
use Rattle.std.specs.Global.{Vec}
use Rattle.std.specs.declared.option.Option.{Option}
use Rattle.std.specs.declared.option.Option.TheVariants.{None, Some}
use Rattle.cp_path.specs.declared.loc.Loc.{Loc}
use Rattle.cp_model.specs.declared.literal.Literal.{Literal}
use Rattle.cp_model.specs.declared.op.Op.TheVariants.{Ins, Del, Copy}
use Rattle.cp_model.specs.declared.origin.Origin.{Origin}
use Rattle.cp_model.specs.declared.origin.Origin.TheVariants.{New as new, Was as was}
use Rattle.cp_model.specs.Place.{Path, Label, path_eq, strip, at_target, in_target, child}
use Rattle.cp_model.specs.Keyed.{look}
use Rattle.cp_model.specs.Subtrees.{is_there, below, with_subtree, entries_under}
use Rattle.cp_model.specs.Tree.{Tree, Source, source, subtree_at, refusal}
use Rattle.cp_model.specs.Step.{Working, contents, from_source, entries_to_copy, apply_op}
use Rattle.cp_model.specs.Laws.{at_rest_or}
use Rattle.cp_model.proofs.Lookups.{find_below, find-moved}
use Rattle.cp_model.proofs.Strips.{strip_is}
use Rattle.cp_model.proofs.Accepted.{del_accepted, CopyAccepted, copy_accepted}
use Rattle.cp_model.proofs.Contents.{there-contents}
use Rattle.cp_overlay.specs.Kept.{Kept, Origins, origin_at, put_below, Fits, Stands, Follows, IsGiven, IsSparse}
use Rattle.cp_overlay.specs.Shown.{OriginMap, kept, joined, shown, run, paths, paths_under}
use Rattle.cp_overlay.proofs.OriginLemmas.{alone, nothing, taken}
use Rattle.cp_overlay.proofs.SparseLemmas.{sparse_settled, sparse_alone, sparse_taken, sparse_nothing}
use Rattle.cp_overlay.proofs.Standing.{put-ext, stands-ins, stands-del, stands-copy, stands-from, stands-settled, fits_at}

-- what follows from a call that succeeds
pub on_ok : {A E P Q : Type 0} (r : Result A E) → OnOk r P → (P → Q) → OnOk r Q
on_ok (Ok x) p f = f p
on_ok (Err e) p f = p

-- what holds anyhow holds after a call
pub ok_any : {A E P : Type 0} (r : Result A E) → P → OnOk r P
ok_any (Ok x) p = p
ok_any (Err e) p = tt

-- what a call ensures that has succeeded
pub ok_true : {A E P : Type 0} (r : Result A E) (b : Bool) → OnOk r P → b ≡ is_ok r → b ≡ true → P
ok_true (Ok x) b p e h = p
ok_true (Err x) b p e h = absurd (cc)

-- after a call that has failed
pub ok_false : {A E : Type 0} (P : Type 0) (r : Result A E) (b : Bool) → b ≡ is_ok r → b ≡ false → OnOk r P
ok_false P (Ok x) b e h = absurd (cc)
ok_false P (Err x) b e h = tt

-- what is known of a value that is there
pub if_some : {X : Type 0} (P : X → Type 0) (o : Option X) (x : X) → MatchOption o ⊤ P → o ≡ Some x → P x
if_some P None x h e = absurd (cc)
if_some P (Some y) x h e = let s : y ≡ x = cc in subst P s h

-- what is known where no value is there
pub if_none : {X : Type 0} (P : Type 0) (o : Option X) → MatchOption o P (λ _. ⊤) → o ≡ None → P
if_none P None h e = h
if_none P (Some y) h e = absurd (cc)

-- the same origins and lost children
pub kept_ext : (f f' : Origins) (g g' : Path → Label → Bool) → ((r : Path) → f' r ≡ f r) → ((q : Path) (l : Label) → g' q l ≡ g q l) → ◌≡◌ {A = Kept} (record { origins = f'; lost = g' }) (record { origins = f; lost = g })
kept_ext f f' g g' h k = λ i. record { origins = λ r. h r i; lost = λ q l. k q l i }

-- what the rows that a call hands on keep
abbrev pub rows_at : List (Vec Label × Option Origin) → Origins
rows_at rows s = joined (look s (shown rows))

at_top : (rows : List (Vec Label × Option Origin)) (x : Origin) → shown rows ≡ ([], Some x) ∷ [] → (s : Path) → rows_at rows s ≡ alone x s
at_top rows x e s = ap (λ es. joined (look s es)) e ∙ by s
  where
    by : (s : Path) → joined (look s (([], Some x) ∷ [])) ≡ alone x s
    by [] = refl
    by (a ∷ s) = refl

at_taken : (m : OriginMap) (q : Path) (rows : List (Vec Label × Option Origin)) (x : Origin) → shown rows ≡ ([], Some x) ∷ run q m.entries → x ≡ origin_at (kept m) q → (s : Path) → rows_at rows s ≡ taken (kept m) q s
unfolding run kept
at_taken m q rows x e o s = ap (λ es. joined (look s es)) e ∙ by s
  where
    by : (s : Path) → joined (look s (([], Some x) ∷ run q m.entries)) ≡ taken (kept m) q s
    by [] = ap (λ y. Some y) o
    by (a ∷ s) = ap joined (find_below q (a ∷ s) (shown m.entries))

any_under : {X : Type 0} (p r : Path) (es : List (Path × X)) → list_any (path_eq r) (paths_under p es) ≡ is_some (look r (entries_under p es))
unfolding entries_under
any_under p r [] = refl
any_under p r (e ∷ es) =
    elim (path_eq r (p ++ e.0)) as (λ b. (b || list_any (path_eq r) (paths_under p es)) ≡ is_some (cond b (Some e.1) (look r (entries_under p es)))) [ true ↦ refl | false ↦ any_under p r es ]

-- where the keys at and below a path are given up, nothing is kept there
pub removed_put : (m n : OriginMap) (keys : List (Vec Label)) (q : Path) → ((r : Path) → kept n r ≡ cond (list_any (path_eq r) (paths keys)) None (kept m r)) → paths keys ≡ paths_under q (run q m.entries) → (r : Path) → kept n r ≡ put_below q nothing (kept m) r
unfolding put_below kept run
removed_put m n keys q h e r =
    h r
    ∙ ap (λ ps. cond (list_any (path_eq r) ps) None (kept m r)) e
    ∙ ap (λ b. cond b None (kept m r)) (any_under q r (run q m.entries) ∙ ap is_some (find-moved q r (run q m.entries)))
    ∙ elim (strip q r) as (λ o. strip q r ≡ o → cond (is_some (at_rest_or o (λ s. look s (run q m.entries)) None)) None (kept m r) ≡ at_rest_or o nothing (kept m r)) [
      | None ↦ λ _. refl
      | Some s ↦ λ k. inside s (strip_is q r s k)
    ] refl
  where
    found : (o : Option (Option Origin)) → cond (is_some o) None (joined o) ≡ None
    found None = refl
    found (Some x) = refl

    inside : (s : Path) → r ≡ q ++ s → cond (is_some (look s (run q m.entries))) None (kept m r) ≡ None
    inside s k =
        ap (λ o. cond (is_some o) None (joined (look r (shown m.entries)))) (find_below q s (shown m.entries))
        ∙ ap (λ p. cond (is_some (look (q ++ s) (shown m.entries))) None (joined (look p (shown m.entries)))) k
        ∙ found (look (q ++ s) (shown m.entries))

copied_there : (ss : List Source) (w : Working) (from p : Path) → refusal ss (contents w) (Copy (at_target from) (at_target p)) ≡ None → is_there w from ≡ true
copied_there ss w from p acc = here (copy_accepted ss (contents w) (at_target from) (at_target p) acc)
  where
    here : CopyAccepted ss (contents w) (at_target from) (at_target p) → is_there w from ≡ true
    here c =
        let t : Some (contents w) ≡ Some c.tree = c.is_tree in
        let u : contents w ≡ c.tree = cc in
        sym (there-contents w from) ∙ ap (λ t. is_there t from) u ∙ c.origin

module _ (m n o : OriginMap) (g : Path → Label → Bool) (rows : List (Vec Label × Option Origin)) (q : Path) (h : (r : Path) → kept n r ≡ put_below q (rows_at rows) (kept m) r)
    (same : (r : Path) → origin_at (kept o) r ≡ origin_at (kept n) r) (fewer : (r : Path) → is_some (kept o r) ≡ true → kept o r ≡ kept n r) where
  -- after an insertion
  pub ins_follows : (p : Path) (a : Label) → q ≡ child p a → shown rows ≡ ([], Some new) ∷ [] → (ss : List Source) (t : Tree) (l : Literal) → Follows ss t (record { origins = kept m; lost = g }) (record { origins = kept o; lost = g }) (Ins (at_target p) a l)
  unfolding apply_op
  ins_follows p a e top ss t l = λ w wk acc st.
      stands-settled (kept n) (kept o) g t (apply_op ss w (Ins (at_target p) a l)) same fewer
      (stands-ins (record { origins = kept m; lost = g }) (record { origins = kept n; lost = g }) t w (child p a) l
      (λ r. h r ∙ ap (λ k. put_below k (rows_at rows) (kept m) r) e ∙ put-ext (child p a) (rows_at rows) (alone new) (kept m) (at_top rows new top) r) (λ _ _. refl) st)

  -- after a copy of a place of T
  pub copy_follows : (from p : Path) (x : Origin) → q ≡ p → shown rows ≡ ([], Some x) ∷ run from m.entries → x ≡ origin_at (kept m) from → (ss : List Source) (t : Tree)
      → Follows ss t (record { origins = kept m; lost = g }) (record { origins = kept o; lost = g }) (Copy (at_target from) (at_target p))
  unfolding apply_op
  copy_follows from p x e top is ss t = λ w wk acc st.
      stands-settled (kept n) (kept o) g t (apply_op ss w (Copy (at_target from) (at_target p))) same fewer
      (stands-copy (record { origins = kept m; lost = g }) (record { origins = kept n; lost = g }) t w from p (copied_there ss w from p acc)
      (λ r. h r ∙ ap (λ k. put_below k (rows_at rows) (kept m) r) e ∙ put-ext p (rows_at rows) (taken (kept m) from) (kept m) (at_taken m from rows x top is) r) (λ _ _. refl) st)

  -- after a copy of a place of a source
  pub from_follows : (from : Loc) (p : Path) → q ≡ p → shown rows ≡ ([], Some (was from)) ∷ [] → (ss : List Source) (t : Tree) → in_target from ≡ false
      → Follows ss t (record { origins = kept m; lost = g }) (record { origins = kept o; lost = g }) (Copy from (at_target p))
  unfolding apply_op
  from_follows from p e top ss t out = λ w wk acc st.
      let c = copy_accepted ss (contents w) from (at_target p) acc in
      let src : source ss from.db ≡ Some c.tree = ap (λ b. if b then Some (contents w) else source ss from.db) (sym out) ∙ c.is_tree in
      let entries : entries_to_copy ss w from (in_target from) ≡ from_source from (below from.path c.tree) = ap (entries_to_copy ss w from) out ∙ ap (λ s. from_source from (subtree_at s from.path)) src in
      stands-settled (kept n) (kept o) g t (apply_op ss w (Copy from (at_target p))) same fewer
      (subst (λ es. Stands (record { origins = kept n; lost = g }) t (with_subtree p es w)) (sym entries)
      (stands-from (record { origins = kept m; lost = g }) (record { origins = kept n; lost = g }) t c.tree w from p out c.origin
      (λ r. h r ∙ ap (λ k. put_below k (rows_at rows) (kept m) r) e ∙ put-ext p (rows_at rows) (alone (was from)) (kept m) (at_top rows (was from) top) r) (λ _ _. refl) st))

-- an origin over a limit isn't copied
pub none_follows : (k : Kept) (from p : Path) → (Fits (origin_at k.origins from) → ⊥) → (ss : List Source) (t : Tree) → Follows ss t k k (Copy (at_target from) (at_target p))
none_follows k from p over ss t = λ w wk acc st. absurd (over (fits_at k t w from wk st (copied_there ss w from p acc)))

-- after a deletion
pub del_follows : (m n : OriginMap) (g g' : Path → Label → Bool) (keys : List (Vec Label)) (q p : Path) (l : Label) (parent : Option Path) (a : Tree) → q ≡ child p l
    → ((r : Path) → kept n r ≡ cond (list_any (path_eq r) (paths keys)) None (kept m r)) → paths keys ≡ paths_under q (run q m.entries)
    → ((s : Path) → Fits (origin_at (kept m) p) → origin_at (kept m) p ≡ was (at_target s) → parent ≡ Some s)
    → ((s : Path) (b : Label) → g s b ≡ true → g' s b ≡ true) → ((s : Path) → parent ≡ Some s → is_there a (child s l) ≡ true → g' s l ≡ true)
    → (ss : List Source) → Follows ss a (record { origins = kept m; lost = g }) (record { origins = kept n; lost = g' }) (Del l (at_target p))
unfolding apply_op
del_follows m n g g' keys q p l parent a e h ks stood grows loses ss = λ w wk acc st.
    let k : Kept = record { origins = kept m; lost = g } in
    let d = del_accepted ss (contents w) (at_target p) l acc in
    let here : is_there w p ≡ true = sym (there-contents w p) ∙ ap is_some d.node in
    stands-del k (record { origins = kept n; lost = g' }) a w p l (λ r. removed_put m n keys q h ks r ∙ ap (λ k. put_below k nothing (kept m) r) e) grows
    (λ s o i. loses s (stood s (fits_at k a w p wk st here) o) i) st

-- ---- sparseness

module _ (m n o : OriginMap) (rows : List (Vec Label × Option Origin)) (q p : Path) (h : (r : Path) → kept n r ≡ put_below q (rows_at rows) (kept m) r)
    (same : (r : Path) → origin_at (kept o) r ≡ origin_at (kept n) r) (fewer : (r : Path) → is_some (kept o r) ≡ true → kept o r ≡ kept n r) (at : p ≡ q) (settled : IsGiven (kept o) p → ⊥) (s : IsSparse (kept m)) where
  -- after one origin is kept at a place, and none below
  pub alone_sparse : (x : Origin) → shown rows ≡ ([], Some x) ∷ [] → IsSparse (kept o)
  alone_sparse x top =
      sparse_settled (kept n) (kept o) q same fewer (λ e. settled (subst (IsGiven (kept o)) (sym at) e))
      (sparse_alone q x (kept m) (kept n) (λ r. h r ∙ put-ext q (rows_at rows) (alone x) (kept m) (at_top rows x top) r) s)

  -- after a copy of a place of T
  pub copy_sparse : (from : Path) (x : Origin) → shown rows ≡ ([], Some x) ∷ run from m.entries → x ≡ origin_at (kept m) from → IsSparse (kept o)
  copy_sparse from x top is =
      sparse_settled (kept n) (kept o) q same fewer (λ e. settled (subst (IsGiven (kept o)) (sym at) e))
      (sparse_taken q from (kept m) (kept n) (λ r. h r ∙ put-ext q (rows_at rows) (taken (kept m) from) (kept m) (at_taken m from rows x top is) r) s)

-- after the keys at and below a place are given up
pub del_sparse : (m n : OriginMap) (keys : List (Vec Label)) (q : Path) → ((r : Path) → kept n r ≡ cond (list_any (path_eq r) (paths keys)) None (kept m r)) → paths keys ≡ paths_under q (run q m.entries) → IsSparse (kept m) → IsSparse (kept n)
del_sparse m n keys q h ks s = sparse_nothing q (kept m) (kept n) (removed_put m n keys q h ks) s
