-- A body has one directory at most, and ranges of a file one list of trees.
use Rattle.std.proofs.Common.{◌≡◌, ◌<◌, ◌^◌, ℕ, List, [], ◌∷◌, ◌++◌, length, take, drop, refl, sym, ap, ◌∙◌, arith, append_assoc, append-nil, length-append}
use Rattle.std.specs.List.{AllByRecursion, flat_map}
use Rattle.std.specs.Int.{to_be_bytes, from_be_bytes, w16, w32, w64}
use Rattle.std.proofs.lemmas.Nat.{from_be_bytes-to_be_bytes_2, from_be_bytes-to_be_bytes_4, from_be_bytes-to_be_bytes_8}
use Rattle.std.proofs.lemmas.List.{take_at, drop_at}
use Rattle.cp_model.specs.declared.kind.Kind.{Kind}
use Rattle.cp_model.specs.declared.kind.Kind.TheVariants as kind
use Rattle.cp_model.specs.Keyed.{from_entries}
use Rattle.cp_model.specs.Tree.{Source}
use Rattle.cp_frame.specs.Entries.{kind_number}
use Rattle.cp_frame.specs.Rooms.{whole_room}
use Rattle.cp_frame.specs.Trees.{Written, rows_of}
use Rattle.cp_frame.proofs.TreeFormats.{plain_tree}
use Rattle.cp_run.specs.declared.run.Run.{Run}
use Rattle.cp_check.specs.Directories.{Directory, tree_at_bytes, trees_bytes, run_bytes, runs_bytes, head_bytes, directory_bytes, IsTreeAt, IsRun, IsHead, IsDirectory, EndsWith}
use Rattle.cp_check.specs.Stands.{HasTree, HaveTrees}
use Rattle.cp_check.specs.declared.directory.Head.{Head}
use Rattle.cp_check.specs.declared.directory.TreeAt.{TreeAt}

-- ---- numbers

exact-16 : (m n : ℕ) (xs ys : List ℕ) → m < 2 ^ 16 → n < 2 ^ 16 → to_be_bytes w16 m ++ xs ≡ to_be_bytes w16 n ++ ys → (m ≡ n) × (xs ≡ ys)
exact-16 m n xs ys a b is = (sym (from_be_bytes-to_be_bytes_2 m a) ∙ ap (λ (l : List ℕ). from_be_bytes w16 (take 2 l)) is ∙ from_be_bytes-to_be_bytes_2 n b, ap (drop 2) is)

exact-64 : (m n : ℕ) (xs ys : List ℕ) → m < 2 ^ 64 → n < 2 ^ 64 → to_be_bytes w64 m ++ xs ≡ to_be_bytes w64 n ++ ys → (m ≡ n) × (xs ≡ ys)
exact-64 m n xs ys a b is = (sym (from_be_bytes-to_be_bytes_8 m a) ∙ ap (λ (l : List ℕ). from_be_bytes w64 (take 8 l)) is ∙ from_be_bytes-to_be_bytes_8 n b, ap (drop 8) is)

-- two fronts of one length
same-fronts : (a b xs ys : List ℕ) → length a ≡ length b → a ++ xs ≡ b ++ ys → (a ≡ b) × (xs ≡ ys)
same-fronts a b xs ys long is =
    (sym (take_at a xs (length a) refl) ∙ ap (take (length a)) is ∙ take_at b ys (length a) (sym long), sym (drop_at a xs (length a) refl) ∙ ap (drop (length a)) is ∙ drop_at b ys (length a) (sym long))

-- two ends of one length
same-ends-of : (a b xs ys : List ℕ) → length xs ≡ length ys → a ++ xs ≡ b ++ ys → (a ≡ b) × (xs ≡ ys)
same-ends-of a b xs ys long is = same-fronts a b xs ys (omega (arith, ap length is, length-append a xs, length-append b ys, long)) is

-- ---- trees and runs

exact-tree : (s t : TreeAt) (xs ys : List ℕ) → IsTreeAt s → IsTreeAt t → tree_at_bytes s ++ xs ≡ tree_at_bytes t ++ ys → (s ≡ t) × (xs ≡ ys)
exact-tree s t xs ys f g is =
    let long : length s.name ≡ length t.name = cc is in
    let rest : (s.name ++ (to_be_bytes w64 s.at ++ to_be_bytes w64 s.len)) ++ xs ≡ (t.name ++ (to_be_bytes w64 t.at ++ to_be_bytes w64 t.len)) ++ ys = ap (drop 1) is in
    let named = same-fronts s.name t.name _ _ long (sym (append_assoc s.name (to_be_bytes w64 s.at ++ to_be_bytes w64 s.len) xs) ∙ rest ∙ append_assoc t.name (to_be_bytes w64 t.at ++ to_be_bytes w64 t.len) ys) in
    let at = exact-64 s.at t.at (to_be_bytes w64 s.len ++ xs) (to_be_bytes w64 t.len ++ ys) f.1 g.1 named.1 in
    let len = exact-64 s.len t.len xs ys f.2 g.2 at.1 in
    (λ i. record { name = named.0 i; at = at.0 i; len = len.0 i }, len.1)

exact-run : (s t : Run) (xs ys : List ℕ) → IsRun s → IsRun t → run_bytes s ++ xs ≡ run_bytes t ++ ys → (s ≡ t) × (xs ≡ ys)
exact-run s t xs ys f g is =
    let order : s.order ≡ t.order = cc is in
    let rest : (to_be_bytes w64 s.at ++ to_be_bytes w64 s.pages) ++ xs ≡ (to_be_bytes w64 t.at ++ to_be_bytes w64 t.pages) ++ ys = ap (drop 1) is in
    let at = exact-64 s.at t.at (to_be_bytes w64 s.pages ++ xs) (to_be_bytes w64 t.pages ++ ys) f.1 g.1 rest in
    let pages = exact-64 s.pages t.pages xs ys f.2 g.2 at.1 in
    (λ i. record { order = order i; at = at.0 i; pages = pages.0 i }, pages.1)

module _ {X : Type 0} (bytes : X → List ℕ) (Fit : X → Type 0) (exact : (x y : X) (xs ys : List ℕ) → Fit x → Fit y → bytes x ++ xs ≡ bytes y ++ ys → (x ≡ y) × (xs ≡ ys)) where
  exact-all : (ls bs : List X) (xs ys : List ℕ) → length ls ≡ length bs → AllByRecursion Fit ls → AllByRecursion Fit bs → flat_map bytes ls ++ xs ≡ flat_map bytes bs ++ ys → (ls ≡ bs) × (xs ≡ ys)
  exact-all [] [] xs ys long f g is = (refl, is)
  exact-all [] (b ∷ bs) xs ys long f g is = absurd (omega (arith, long))
  exact-all (a ∷ ls) [] xs ys long f g is = absurd (omega (arith, long))
  exact-all (a ∷ ls) (b ∷ bs) xs ys long f g is =
      let one = exact a b (flat_map bytes ls ++ xs) (flat_map bytes bs ++ ys) f.0 g.0 (sym (append_assoc (bytes a) (flat_map bytes ls) xs) ∙ is ∙ append_assoc (bytes b) (flat_map bytes bs) ys) in
      let rest = exact-all ls bs xs ys (omega (arith, long)) f.1 g.1 one.1 in
      (λ i. one.0 i ∷ rest.0 i, rest.1)

exact-trees : (ls bs : List TreeAt) (xs ys : List ℕ) → length ls < 2 ^ 16 → length bs < 2 ^ 16 → AllByRecursion IsTreeAt ls → AllByRecursion IsTreeAt bs → trees_bytes ls ++ xs ≡ trees_bytes bs ++ ys → (ls ≡ bs) × (xs ≡ ys)
exact-trees ls bs xs ys few more f g is =
    let all = λ (l : List TreeAt). flat_map tree_at_bytes l in
    let number = exact-16 (length ls) (length bs) (all ls ++ xs) (all bs ++ ys) few more
    (sym (append_assoc (to_be_bytes w16 (length ls)) (all ls) xs) ∙ is ∙ append_assoc (to_be_bytes w16 (length bs)) (all bs) ys) in
    exact-all tree_at_bytes IsTreeAt exact-tree ls bs xs ys number.0 f g number.1

exact-runs : (ls bs : List Run) → length ls < 2 ^ 16 → length bs < 2 ^ 16 → AllByRecursion IsRun ls → AllByRecursion IsRun bs → runs_bytes ls ≡ runs_bytes bs → ls ≡ bs
exact-runs ls bs few more f g is =
    let all = λ (l : List Run). flat_map run_bytes l in
    let number = exact-16 (length ls) (length bs) (all ls) (all bs) few more is in
    (exact-all run_bytes IsRun exact-run ls bs [] [] number.0 f g (append-nil (all ls) ∙ number.1 ∙ sym (append-nil (all bs)))).0

-- ---- directories

exact-kind : (k j : Kind) → kind_number k ≡ kind_number j → k ≡ j
exact-kind kind.N kind.N is = refl
exact-kind kind.N kind.T is = absurd (omega (arith, is))
exact-kind kind.N kind.H is = absurd (omega (arith, is))
exact-kind kind.N kind.HT is = absurd (omega (arith, is))
exact-kind kind.T kind.N is = absurd (omega (arith, is))
exact-kind kind.T kind.T is = refl
exact-kind kind.T kind.H is = absurd (omega (arith, is))
exact-kind kind.T kind.HT is = absurd (omega (arith, is))
exact-kind kind.H kind.N is = absurd (omega (arith, is))
exact-kind kind.H kind.T is = absurd (omega (arith, is))
exact-kind kind.H kind.H is = refl
exact-kind kind.H kind.HT is = absurd (omega (arith, is))
exact-kind kind.HT kind.N is = absurd (omega (arith, is))
exact-kind kind.HT kind.T is = absurd (omega (arith, is))
exact-kind kind.HT kind.H is = absurd (omega (arith, is))
exact-kind kind.HT kind.HT is = refl

exact-head : (h k : Head) (xs ys : List ℕ) → IsHead h → IsHead k → head_bytes h ++ xs ≡ head_bytes k ++ ys → (h ≡ k) × (xs ≡ ys)
exact-head h k xs ys f g is =
    let kinds : kind_number h.kind ≡ kind_number k.kind = cc is in
    let same = exact-kind h.kind k.kind kinds in
    let tid = exact-64 h.tid k.tid (to_be_bytes w64 h.transactions ++ (to_be_bytes w64 h.records ++ xs)) (to_be_bytes w64 k.transactions ++ (to_be_bytes w64 k.records ++ ys)) f.0 g.0 (ap (drop 1) is) in
    let commits = exact-64 h.transactions k.transactions (to_be_bytes w64 h.records ++ xs) (to_be_bytes w64 k.records ++ ys) f.1 g.1 tid.1 in
    let records = exact-64 h.records k.records xs ys f.2 g.2 commits.1 in
    (λ i. record { kind = same i; tid = tid.0 i; transactions = commits.0 i; records = records.0 i }, records.1)

directory-one : (d e : Directory) → IsDirectory d → IsDirectory e → directory_bytes d ≡ directory_bytes e → d ≡ e
directory-one d e f g is =
    let head = exact-head d.head e.head (trees_bytes d.trees ++ runs_bytes d.runs) (trees_bytes e.trees ++ runs_bytes e.runs) f.head g.head is in
    let trees = exact-trees d.trees e.trees (runs_bytes d.runs) (runs_bytes e.runs) f.few_trees g.few_trees f.trees g.trees head.1 in
    let runs = exact-runs d.runs e.runs f.few_runs g.few_runs f.runs g.runs trees.1 in
    λ i. record { head = head.0 i; trees = trees.0 i; runs = runs i }

-- a body ends with one directory at most
pub ends-one : (body : List ℕ) (d e : Directory) → EndsWith body d → EndsWith body e → d ≡ e
ends-one body d e f g =
    let one = directory_bytes d in
    let two = directory_bytes e in
    let is : (f.front ++ one) ++ to_be_bytes w32 (length one) ≡ (g.front ++ two) ++ to_be_bytes w32 (length two) =
    append_assoc f.front one (to_be_bytes w32 (length one)) ∙ sym f.is ∙ g.is ∙ sym (append_assoc g.front two (to_be_bytes w32 (length two))) in
    let tail = same-ends-of (f.front ++ one) (g.front ++ two) (to_be_bytes w32 (length one)) (to_be_bytes w32 (length two)) refl is in
    let long : length one ≡ length two = sym (from_be_bytes-to_be_bytes_4 (length one) f.short) ∙ ap (from_be_bytes w32) tail.1 ∙ from_be_bytes-to_be_bytes_4 (length two) g.short in
    directory-one d e f.directory g.directory (same-ends-of f.front g.front one two long tail.0).1

-- ---- trees

tree-one : (c : List ℕ) (at : TreeAt) (s t : Source) → HasTree c at s → HasTree c at t → s ≡ t
tree-one c at s t f g =
    let same = plain_tree (whole_room (length at.name)) f.written g.written [] [] f.reads.fit g.reads.fit (sym f.reads.is ∙ g.reads.is) in
    let tree : s.tree ≡ t.tree = f.tree ∙ ap (λ (w : Written). from_entries (rows_of w)) same.0 ∙ sym g.tree in
    λ i. record { name = (f.name ∙ sym g.name) i; tree = tree i }

-- there is one list of trees at most
pub trees-one : (c : List ℕ) (ats : List TreeAt) (ss ts : List Source) → HaveTrees c ats ss → HaveTrees c ats ts → ss ≡ ts
trees-one c [] [] [] f g = refl
trees-one c [] [] (t ∷ ts) f g = absurd g
trees-one c [] (s ∷ ss) ts f g = absurd f
trees-one c (at ∷ ats) [] ts f g = absurd f
trees-one c (at ∷ ats) (s ∷ ss) [] f g = absurd g
trees-one c (at ∷ ats) (s ∷ ss) (t ∷ ts) f g =
    let one = tree-one c at s t f.0 g.0 in
    let rest = trees-one c ats ss ts f.1 g.1 in
    λ i. one i ∷ rest i
