-- What holds of every state of a legal history.
use Rattle.cp_model.specs.declared.limits.TheConstants.{SOURCES_MAX}
use Rattle.std.specs.Prelude.{ℕ, ◌+◌, ◌≤◌, ◌≡◌, Bool, true, false, ◌||◌, List, [], ◌∷◌, ◌++◌, map, length, fold, is_some, refl, ⊤, if◌then◌else◌}
use Rattle.std.proofs.Common.{sym, ap, subst, ◌∙◌, arith, length-append}
use Rattle.std.specs.List.{list_any, IsDistinct}
use Rattle.std.proofs.lemmas.List.{map-append}
use Rattle.std.proofs.lemmas.List.Sums.{fold-append}
use Rattle.std.proofs.lemmas.Map.Keys.{IsDistinct-push}
use Rattle.std.specs.Cmp.Lexicographic.{nat_list_eq_equiv}
use Rattle.std.specs.declared.option.Option.{Option}
use Rattle.std.specs.declared.option.Option.TheVariants.{None, Some}
use Rattle.cp_model.specs.declared.kind.Kind.{Kind}
use Rattle.cp_model.specs.declared.op.Op.{Op}
use Rattle.cp_model.specs.Place.{label_eq, or_else}
use Rattle.cp_path.proofs.Same.{text_eq-same}
use Rattle.cp_model.specs.Tree.{Tree, Source, source, IsTree}
use Rattle.cp_model.specs.Step.{Working, contents, done, step}
use Rattle.cp_model.specs.Past.{tree_of}
use Rattle.cp_model.specs.History.{Entry, start, load, commit, State, steps_of, after_commit, start_state, then_entry, replay, IsSource, CanCommit, CanFollow, IsLegal, IsLegalFrom}
use Rattle.cp_model.proofs.Contents.{tree_of-aged}
use Rattle.cp_model.proofs.Folds.{done_is}
use Rattle.cp_model.specs.Laws.{AreTrees, AreSources, IsSound}
use Rattle.cp_model.proofs.Kept.{tree-step}
use Rattle.cp_model.proofs.Alone.{after-steps_of}

-- sources are trees
pub trees-sources : (ss : List Source) → AreSources ss → AreTrees ss
trees-sources ss h = record { trees = λ n t e. (h.each n t e).tree }

-- a source loaded last is found where no other has the name
pub source-snoc : (ss : List Source) (x : Source) (n : List ℕ) → source (ss ++ x ∷ []) n ≡ or_else (source ss n) (if label_eq x.name n then Some x.tree else None)
source-snoc [] x n = refl
source-snoc (s ∷ ss) x n =
    elim (label_eq s.name n) as (λ b. (if b then Some s.tree else source (ss ++ x ∷ []) n) ≡ or_else (if b then Some s.tree else source ss n) (if label_eq x.name n then Some x.tree else None)) [
      | true ↦ refl
      | false ↦ source-snoc ss x n
    ]

-- a name has a source where it is among the names
pub named-source : (ss : List Source) (n : List ℕ) → list_any (label_eq n) (map (λ s. s.name) ss) ≡ is_some (source ss n)
named-source [] n = refl
named-source (s ∷ ss) n =
    ap (λ b. b || list_any (label_eq n) (map (λ s. s.name) ss)) (nat_list_eq_equiv.symm n s.name)
    ∙ elim (label_eq s.name n) as (λ b. (b || list_any (label_eq n) (map (λ s. s.name) ss)) ≡ is_some (if b then Some s.tree else source ss n)) [
      | true ↦ refl
      | false ↦ named-source ss n
    ]

-- a source that can be loaded leaves the sources sources
pub sources-loaded : (ss : List Source) (n : List ℕ) (t : Tree) → AreSources ss → IsSource n t → is_some (source ss n) ≡ false → length ss + 1 ≤ SOURCES_MAX → AreSources (ss ++ record { name = n; tree = t } ∷ [])
sources-loaded ss n t h l f few = record {
  each = λ m u e. among m u (source ss m) refl (sym (source-snoc ss (record { name = n; tree = t }) m) ∙ e);
  few = omega (arith, few, length-append ss (record { name = n; tree = t } ∷ []));
  apart = subst (IsDistinct label_eq) (sym (map-append (λ (s : Source). s.name) ss (record { name = n; tree = t } ∷ []))) (IsDistinct-push nat_list_eq_equiv (map (λ s. s.name) ss) n h.apart (named-source ss n ∙ f));
}
  where
    last : (m : List ℕ) (u : Tree) (b : Bool) → label_eq n m ≡ b → (if b then Some t else None) ≡ Some u → IsSource m u
    last m u true k e = let d : t ≡ u = cc in subst (λ m. IsSource m u) (text_eq-same n m k) (subst (IsSource n) d l)
    last m u false k e = absurd (cc)

    among : (m : List ℕ) (u : Tree) (o : Option Tree) → source ss m ≡ o → or_else o (if label_eq n m then Some t else None) ≡ Some u → IsSource m u
    among m u None k e = last m u (label_eq n m) refl e
    among m u (Some v) k e = let d : v ≡ u = cc in h.each m u (k ∙ ap (λ v. Some v) d)

-- the state, if there is one, is sound
abbrev pub IsSoundIf : Option State → Type 0
IsSoundIf None = ⊤
IsSoundIf (Some s) = IsSound s

-- a history begins sound
pub sound-begun : (k : Kind) (t : Tree) → IsTree t → IsSound (start_state k t)
unfolding start_state IsDistinct
sound-begun k t h = record {
  tree = subst IsTree (sym (tree_of-aged t)) h;
  sources = record { each = λ n u e. absurd (cc); few = omega arith; apart = tt };
}

-- a commit of a done step leaves the contents with which the step ended
pub after-commit : (s : State) (ops : List Op) (k : ℕ) (w : Working) → step (tree_of s.tree) s.sources ops ≡ done k w →
    (tree_of (after_commit s ops).tree ≡ contents w) × ((after_commit s ops).now ≡ s.now + length (steps_of s.kind ops)) × ((after_commit s ops).sources ≡ s.sources) × ((after_commit s ops).kind ≡ s.kind) × ((after_commit s ops).commits ≡ s.commits + 1)
unfolding after_commit
after-commit s ops k w e =
    let a = after-steps_of s ops k w e s.kind in
    (a.tree, a.now, a.sources, a.kind, ap (λ n. n + 1) a.commits)

-- a commit keeps a state sound
pub sound-commit : (s : State) (ops : List Op) → IsSound s → CanCommit s ops → IsSound (after_commit s ops)
sound-commit s ops h c =
    let x = done_is (step (tree_of s.tree) s.sources ops) c.accepted in
    let a = after-commit s ops x.0 x.1 x.2 in
    record {
      tree = subst IsTree (sym a.0) (tree-step (tree_of s.tree) s.sources ops x.0 x.1 h.tree (trees-sources s.sources h.sources) c.written x.2);
      sources = subst AreSources (sym a.2) h.sources;
    }

-- an entry that can follow keeps a state sound
pub sound-then : (o : Option State) (e : Entry) → IsSoundIf o → CanFollow o e → IsSoundIf (then_entry o e)
sound-then None (start k t) h c = sound-begun k t c
sound-then None (load n t) h c = absurd c
sound-then None (commit stamp ops) h c = absurd c
sound-then (Some s) (start k t) h c = absurd c
sound-then (Some s) (load n t) h c = record { tree = h.tree; sources = sources-loaded s.sources n t h.sources c.loadable c.fresh c.few }
sound-then (Some s) (commit stamp ops) h c = sound-commit s ops h c

-- entries that can follow keep a state sound
pub sound-from : (o : Option State) (es : List Entry) → IsSoundIf o → IsLegalFrom o es → IsSoundIf (fold then_entry o es)
sound-from o [] h c = h
sound-from o (e ∷ es) h c = sound-from (then_entry o e) es (sound-then o e h c.0) c.1

-- the state that a legal history leads to is sound
pub legal-tree : (h : List Entry) (s : State) → IsLegal h → replay h ≡ Some s → IsSound s
unfolding replay
legal-tree h s l e = subst IsSoundIf e (sound-from None h tt l)

-- one entry more is replayed after the others
pub replay-snoc : (h : List Entry) (e : Entry) → replay (h ++ e ∷ []) ≡ then_entry (replay h) e
unfolding replay
replay-snoc h e = fold-append then_entry None h (e ∷ [])

legal_from-snoc : (o : Option State) (h : List Entry) (e : Entry) → IsLegalFrom o h → CanFollow (fold then_entry o h) e → IsLegalFrom o (h ++ e ∷ [])
legal_from-snoc o [] e l c = (c, tt)
legal_from-snoc o (d ∷ h) e l c = (l.0, legal_from-snoc (then_entry o d) h e l.1 c)

-- a legal history with an entry that can follow is legal
pub legal-snoc : (h : List Entry) (e : Entry) → IsLegal h → CanFollow (replay h) e → IsLegal (h ++ e ∷ [])
unfolding replay
legal-snoc h e l c = legal_from-snoc None h e l c
