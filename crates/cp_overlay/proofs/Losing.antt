-- The rows of what is lost.
use Rattle.std.specs.Prelude.{◌≡◌, Bool, true, false, not, ◌&&◌, ◌||◌, List, [], ◌∷◌, ◌++◌, refl}
use Rattle.std.proofs.Common.{sym, ap, ◌∙◌, append_assoc}
use Rattle.std.specs.List.{list_any}
use Rattle.std.specs.BTreeSet.{BTreeSet}
use Rattle.std.specs.declared.option.Option.{Option}
use Rattle.std.specs.declared.option.Option.TheVariants.{Some}
use Rattle.std.specs.Cmp.Lexicographic.{nat_list_eq_equiv}
use Rattle.cp_path.proofs.Same.{path_eq-same, text_eq-same}
use Rattle.cp_path.specs.PathOrder.{path_eq_equiv}
use Rattle.cp_model.specs.declared.record.RowMark.{RowMark as Mark}
use Rattle.cp_model.specs.declared.record.RowMark.TheVariants.{Gone as D}
use Rattle.cp_model.specs.Place.{Path, Label, child, path_eq, label_eq}
use Rattle.cp_model.specs.Keyed.{look}
use Rattle.cp_model.specs.Subtrees.{is_there}
use Rattle.cp_model.specs.Tree.{Tree}
use Rattle.cp_overlay.specs.declared.lost.LostChild.{LostChild}
use denote.Enum.Bare.{sameb}
use Rattle.cp_path.specs.declared.loc.Loc.{Loc}
use Rattle.cp_model.specs.declared.effect.Effect.{Effect}
use Rattle.cp_model.specs.Rows.{effect, is_same}
use Rattle.cp_model.proofs.Passing.{and_true, and_both, or_true}
use Rattle.cp_model.specs.Rows.{limited}
use Rattle.cp_overlay.specs.declared.effect.Tag.{Tag}
use Rattle.cp_overlay.specs.declared.effect.Tag.TheVariants.{Same, New, From}
use Rattle.cp_overlay.specs.contracts.effect.Tag.{the_type}
use Rattle.cp_overlay.specs.Effects.{told}
use Rattle.cp_overlay.specs.Kept.{Kept, origin_at}
use Rattle.cp_overlay.specs.Lost.{lost_in}
use Rattle.cp_overlay.specs.Net.{noted, is_within, is_lost, IsLoss, LossesNoted, IsLostChild, ChildrenNoted}
use Rattle.cp_overlay.proofs.Noting.{noted-first, within-rest, within-is_there, within-there}

-- r is gone with this child
abbrev pub gone_with : Kept → Tree → Tree → Path → LostChild → Bool
gone_with k a b r c = is_lost k b c.parent c.label && is_within a (child c.parent c.label) r

-- r is this child, and gone
abbrev pub gone_child : Kept → Tree → Tree → Path → LostChild → Bool
gone_child k a b r c = is_lost k b c.parent c.label && (is_there a (child c.parent c.label) && path_eq r (child c.parent c.label))

-- one that passes, which passes each test that it does
found : {A : Type 0} (f : A → Bool) (xs : List A) → list_any f xs ≡ true → (x : A) × (f x ≡ true) × ((g : A → Bool) → g x ≡ true → list_any g xs ≡ true)
found f [] e = absurd (cc)
found {A = A} f (x ∷ xs) e =
    elim (f x) as (λ b. f x ≡ b → (b || list_any f xs) ≡ true → (y : A) × (f y ≡ true) × ((g : A → Bool) → g y ≡ true → (g x || list_any g xs) ≡ true)) [
      | true ↦ λ h _. (x, h, λ g i. ap (λ b. b || list_any g xs) i)
      | false ↦ λ _ e. let t = found f xs e in (t.0, t.1, λ g i. or_true (g x) (list_any g xs) (t.2 g i))
    ] refl e

module _ (k : Kept) (set : BTreeSet LostChild) (i : k.lost ≡ lost_in set) where
  -- one of these children is kept as lost
  found-kept : (c : LostChild) → ((g : LostChild → Bool) → g c ≡ true → list_any g set.keys ≡ true) → k.lost c.parent c.label ≡ true
  unfolding lost_in
  found-kept c h = ap (λ (f : Path → Label → Bool). f c.parent c.label) i ∙ h (λ d. path_eq c.parent d.parent && label_eq c.label d.label) (and_both _ _ (path_eq_equiv.refl c.parent) (nat_list_eq_equiv.refl c.label))

  -- a child that is kept as lost is one of these
  kept-found : (q : Path) (l : Label) → k.lost q l ≡ true → (c : LostChild) × (q ≡ c.parent) × (l ≡ c.label) × ((g : LostChild → Bool) → g c ≡ true → list_any g set.keys ≡ true)
  unfolding lost_in
  kept-found q l h =
      let t = found (λ c. path_eq q c.parent && label_eq l c.label) set.keys (sym (ap (λ (f : Path → Label → Bool). f q l) i) ∙ h) in
      let parts = and_true _ _ t.1 in
      (t.0, path_eq-same _ _ parts.0, text_eq-same _ _ parts.1, t.2)

  module _ (a b : Tree) (r : Path) where
    -- what is gone with one of the children that are kept is a loss
    loss-any : list_any (gone_with k a b r) set.keys ≡ true → IsLoss k a b r
    loss-any h =
        let t = found (gone_with k a b r) set.keys h in
        let parts = and_true _ _ t.1 in
        let rest = within-rest a (child t.0.parent t.0.label) r parts.1 in
        record {
          parent = t.0.parent;
          label = t.0.label;
          rest = rest.0;
          place = rest.1 ∙ append_assoc t.0.parent (t.0.label ∷ []) rest.0;
          kept = found-kept t.0 t.2;
          gone = parts.0;
          was = within-is_there a (child t.0.parent t.0.label) r parts.1;
        }

    -- a loss is gone with one of the children that are kept
    any-loss : IsLoss k a b r → list_any (gone_with k a b r) set.keys ≡ true
    any-loss x =
        let t = kept-found x.parent x.label x.kept in
        let place : r ≡ child x.parent x.label ++ x.rest = x.place ∙ sym (append_assoc x.parent (x.label ∷ []) x.rest) in
        let within : is_within a (child x.parent x.label) r ≡ true = ap (is_within a (child x.parent x.label)) place ∙ within-there a (child x.parent x.label) x.rest (ap (is_there a) (sym place) ∙ x.was) in
        t.3 (gone_with k a b r)
        (ap (λ q. gone_with k a b r (record { parent = q; label = t.0.label })) (sym t.1) ∙ ap (λ m. gone_with k a b r (record { parent = x.parent; label = m })) (sym t.2) ∙ and_both _ _ x.gone within)

    -- one of the children that are kept is a lost child, if it is gone
    child-any : list_any (gone_child k a b r) set.keys ≡ true → IsLostChild k a b r
    child-any h =
        let t = found (gone_child k a b r) set.keys h in
        let parts = and_true _ _ t.1 in
        let here = and_true _ _ parts.1 in
        let place = path_eq-same r (child t.0.parent t.0.label) here.1 in
        record {
          parent = t.0.parent;
          label = t.0.label;
          place = place;
          kept = found-kept t.0 t.2;
          gone = parts.0;
          was = ap (is_there a) place ∙ here.0;
        }

    -- a lost child is one of the children that are kept
    any-child : IsLostChild k a b r → list_any (gone_child k a b r) set.keys ≡ true
    any-child x =
        let t = kept-found x.parent x.label x.kept in
        let here : path_eq r (child x.parent x.label) ≡ true = ap (path_eq r) (sym x.place) ∙ path_eq_equiv.refl r in
        t.3 (gone_child k a b r)
        (ap (λ q. gone_child k a b r (record { parent = q; label = t.0.label })) (sym t.1) ∙ ap (λ m. gone_child k a b r (record { parent = x.parent; label = m })) (sym t.2)
        ∙ and_both _ _ x.gone (and_both _ _ (ap (is_there a) (sym x.place) ∙ x.was) here))

  -- where a test that holds fails, nothing is noted
  noted-unless : (c : Bool) (m o : Option Mark) → (c ≡ true → ⊥) → noted c m o ≡ o
  noted-unless false m o n = refl
  noted-unless true m o n = absurd (n refl)

  module _ (a b : Tree) (old news : List (Path × Mark)) where
    -- where each place is noted by all children that are kept, the losses are
    pub losses-all : ((r : Path) → look r news ≡ noted (list_any (gone_with k a b r) set.keys) (Some D) (look r old)) → LossesNoted k a b old news
    losses-all h = record {
      gone = λ r x. h r ∙ ap (λ c. noted c (Some D) (look r old)) (any-loss a b r x);
      others = λ r n. h r ∙ noted-unless (list_any (gone_with k a b r) set.keys) (Some D) (look r old) (λ e. n (loss-any a b r e));
    }

    -- and where each is noted by itself, the lost children are
    pub children-all : ((r : Path) → look r news ≡ noted (list_any (gone_child k a b r) set.keys) (Some D) (look r old)) → ChildrenNoted k a b old news
    children-all h = record {
      gone = λ r x. h r ∙ ap (λ c. noted c (Some D) (look r old)) (any-child a b r x);
      others = λ r n. h r ∙ noted-unless (list_any (gone_child k a b r) set.keys) (Some D) (look r old) (λ e. n (child-any a b r e));
    }

-- ---- what the code finds

-- a tag is the same where its effect is
pub same-tag : (x : Tag) (q : Loc) → sameb the_type x Same ≡ is_same (told x q)
same-tag Same q = refl
same-tag New q = refl
same-tag From q = refl

-- both tests in one
pub both-then : (x y v a b : Bool) → x ≡ a → x ≡ true → y ≡ b → v ≡ not y → v ≡ (a && not b)
both-then x y v true b e h f g = g ∙ ap not f
both-then x y v false b e h f g = absurd (cc)

pub both-else : (x v a b : Bool) → x ≡ a → x ≡ false → v ≡ x → v ≡ (a && not b)
both-else x v true b e h g = absurd (cc)
both-else x v false b e h g = g ∙ h

pub lost-tested : (k : Kept) (b : Tree) (q : Path) (l : Label) (v c : Bool) (e : Effect) → v ≡ (is_there b q && not (is_there b (child q l))) → v ≡ true → e ≡ limited (effect q (origin_at k.origins q)) → c ≡ is_same e → c ≡ is_lost k b q l
unfolding is_lost
lost-tested k b q l v c e h g f s = s ∙ ap is_same f ∙ ap (λ d. d && is_same (limited (effect q (origin_at k.origins q)))) (sym g ∙ h)

pub lost-not : (k : Kept) (b : Tree) (q : Path) (l : Label) (v : Bool) → v ≡ (is_there b q && not (is_there b (child q l))) → v ≡ false → v ≡ is_lost k b q l
unfolding is_lost
lost-not k b q l v h g = g ∙ ap (λ d. d && is_same (limited (effect q (origin_at k.origins q)))) (sym g ∙ h)

-- noting by these children would lead to what noting by all leads to
abbrev pub LeftToNote : (Path → LostChild → Bool) → List LostChild → List LostChild → List (Path × Mark) → List (Path × Mark) → Type 0
LeftToNote g some all old news = (r : Path) → noted (list_any (g r) some) (Some D) (look r news) ≡ noted (list_any (g r) all) (Some D) (look r old)

module _ (g : Path → LostChild → Bool) (all : List LostChild) (old : List (Path × Mark)) where
  -- what is left after a child
  pub left-next : (c : LostChild) (it rest : List LostChild) (mid next : List (Path × Mark)) → it ≡ c ∷ rest → ((r : Path) → look r next ≡ noted (g r c) (Some D) (look r mid)) → LeftToNote g it all old mid → LeftToNote g rest all old next
  left-next c it rest mid next i e h r =
      noted-first (g r c) (list_any (g r) rest) (Some D) (look r mid) (look r next) (noted (list_any (g r) all) (Some D) (look r old)) (e r)
      (ap (λ cs. noted (list_any (g r) cs) (Some D) (look r mid)) (sym i) ∙ h r)

  -- with no child left all is noted
  pub left-end : (it : List LostChild) (news : List (Path × Mark)) → it ≡ [] → LeftToNote g it all old news → (r : Path) → look r news ≡ noted (list_any (g r) all) (Some D) (look r old)
  left-end it news i h r = ap (λ cs. noted (list_any (g r) cs) (Some D) (look r news)) (sym i) ∙ h r
