-- The rows from one key to another, run after run of an order.
use Rattle.std.proofs.Common.{arith, ◌≡◌, ◌≤◌, ◌<◌, ◌+◌, ◌*◌, ◌^◌, ◌∙◌, ◌==◌, ap, sym, subst, ℕ, List, [], ◌∷◌, ◌++◌, append_assoc, append-nil, length, length-append, take, drop, get_or, true, Result, Ok, Err, OnOk, add-mul}
use Rattle.std.specs.Prelude.{IsPermutation, IsSortedByKey}
use Rattle.std.proofs.Math.Seq.{take-append_seam}
use Rattle.std.proofs.lemmas.List.Concat.{flat_map-append}
use Rattle.std.proofs.lemmas.List.Sorted.{length_permutation}
use Rattle.cp_path.specs.Text.{text_cmp}
use Rattle.cp_page.specs.Ranges.{rows_between}
use Rattle.cp_page.specs.declared.row.PageRow.{PageRow}
use Rattle.cp_run.specs.Answers.{IsBetween}
use Rattle.cp_run.specs.Holding.{run_rows, IsRunOfRows}
use Rattle.cp_run.specs.Sets.{of_order, runs_rows, AreRunsOfRows, IsWithinRun, IsWithinRange}
use Rattle.cp_run.specs.declared.run.Run.{Run}
use Rattle.cp_run.proofs.Inside.{between_append}
use Rattle.cp_run.proofs.Runs.{all_left, all_right, of_this, next_of, parts_of, all_taken}

module _ (content low high : List ℕ) where
  -- rows of two lists of runs
  pub between_runs : (xs ys : List Run) → rows_between low high (runs_rows content (xs ++ ys)) ≡ rows_between low high (runs_rows content xs) ++ rows_between low high (runs_rows content ys)
  between_runs xs ys = ap (rows_between low high) (flat_map-append (run_rows content) xs ys) ∙ between_append low high (runs_rows content xs) (runs_rows content ys)

  pub range_both : (xs ys : List Run) (a b : ℕ) → IsWithinRange content low high xs a → IsWithinRange content low high ys b → IsWithinRange content low high (xs ++ ys) (b + a)
  range_both xs ys a b one two are n small =
      let f = one (all_left (IsRunOfRows content) xs ys are) n (all_left (λ r. r.pages ≤ 2 ^ n) xs ys small) in
      let g = two (all_right (IsRunOfRows content) xs ys are) n (all_right (λ r. r.pages ≤ 2 ^ n) xs ys small) in
      let both : length (xs ++ ys) * (3 + n) ≡ length xs * (3 + n) + length ys * (3 + n) = ap (λ k. k * (3 + n)) (length-append xs ys) ∙ add-mul (length xs) (length ys) (3 + n) in
      let rows = ap length (between_runs xs ys) ∙ length-append (rows_between low high (runs_rows content xs)) (rows_between low high (runs_rows content ys)) in
      omega (arith, f, g, both, rows)

  pub range_none : (xs : List Run) → IsWithinRange content low high xs 0
  range_none xs are n small = omega arith

  -- the looks in one run, and in none
  pub range_one : (order : ℕ) (r : Run) (looks : ℕ) → (r.order == order) ≡ true → IsWithinRun content low high r looks → IsWithinRange content low high (of_order order (r ∷ [])) looks
  range_one order r looks is few = subst (λ (l : List Run). IsWithinRange content low high l looks) (sym (of_this order r is)) (λ are n small.
      let f = few are.0 n small.0 in
      let rows : length (rows_between low high (runs_rows content (r ∷ []))) ≡ length (rows_between low high (run_rows content r)) = ap (λ l. length (rows_between low high l)) (append-nil (run_rows content r)) in
      omega (arith, f, rows))

  -- the rows found in one run
  pub found_one : (runs : List Run) (r : Run) (found new : List PageRow) → runs ≡ r ∷ [] → (IsRunOfRows content r → new ≡ found ++ rows_between low high (run_rows content r)) → AreRunsOfRows content runs → new ≡ found ++ rows_between low high (runs_rows content runs)
  found_one runs r found new is one are =
      let each : AreRunsOfRows content (r ∷ []) = subst (AreRunsOfRows content) is are in
      let rows : runs_rows content runs ≡ run_rows content r = ap (runs_rows content) is ∙ append-nil (run_rows content r) in
      one each.0 ∙ ap (λ l. found ++ rows_between low high l) (sym rows)

  pub found_one_of : {T E : Type 0} (runs : List Run) (r : Run) (found new : List PageRow) (result : Result T E) → runs ≡ r ∷ [] → (IsRunOfRows content r → OnOk result (new ≡ found ++ rows_between low high (run_rows content r))) → AreRunsOfRows content runs
      → OnOk result (new ≡ found ++ rows_between low high (runs_rows content runs))
  found_one_of runs r found new (Ok x) is one are = found_one runs r found new is one are
  found_one_of runs r found new (Err e) is one are = tt

  pub found_none : (runs : List Run) (found : List PageRow) → runs ≡ [] → found ≡ found ++ rows_between low high (runs_rows content runs)
  found_none runs found is = sym (append-nil found) ∙ ap (λ l. found ++ rows_between low high (runs_rows content l)) (sym is)

  module _ (now : List ℕ) (same : now ≡ content) (order : ℕ) (runs : List Run) (i : ℕ) (d : Run) (l : i < length runs) where
    -- what is found after one run more
    pub found_next : (start found new : List PageRow)
        → (AreRunsOfRows content (of_order order (take i runs)) → found ≡ start ++ rows_between low high (runs_rows content (of_order order (take i runs))))
        → (AreRunsOfRows now (of_order order (get_or runs i d ∷ [])) → new ≡ found ++ rows_between low high (runs_rows now (of_order order (get_or runs i d ∷ []))))
        → AreRunsOfRows content (of_order order (take (i + 1) runs)) → new ≡ start ++ rows_between low high (runs_rows content (of_order order (take (i + 1) runs)))
    found_next start found new before here are =
        let xs = of_order order (take i runs) in
        let ys = of_order order (get_or runs i d ∷ []) in
        let next = next_of order runs i d l in
        let all : AreRunsOfRows content (xs ++ ys) = subst (AreRunsOfRows content) next are in
        let one = before (all_left (IsRunOfRows content) xs ys all) in
        let two = subst (λ c. AreRunsOfRows c ys → new ≡ found ++ rows_between low high (runs_rows c ys)) same here (all_right (IsRunOfRows content) xs ys all) in
        let bx = rows_between low high (runs_rows content xs) in
        let by_ = rows_between low high (runs_rows content ys) in
        let rows : rows_between low high (runs_rows content (of_order order (take (i + 1) runs))) ≡ bx ++ by_ = ap (λ l. rows_between low high (runs_rows content l)) next ∙ between_runs xs ys in
        two ∙ ap (λ f. f ++ by_) one ∙ append_assoc start bx by_ ∙ ap (λ f. start ++ f) (sym rows)

    pub range_next : (a b : ℕ) → IsWithinRange content low high (of_order order (take i runs)) a → IsWithinRange now low high (of_order order (get_or runs i d ∷ [])) b → IsWithinRange content low high (of_order order (take (i + 1) runs)) (b + a)
    range_next a b one two =
        subst (λ (rs : List Run). IsWithinRange content low high rs (b + a)) (sym (next_of order runs i d l))
        (range_both (of_order order (take i runs)) (of_order order (get_or runs i d ∷ [])) a b one (subst (λ c. IsWithinRange c low high (of_order order (get_or runs i d ∷ [])) b) same two))

    pub range_last : (a b : ℕ) → IsWithinRange content low high (of_order order (take i runs)) a → IsWithinRange now low high (of_order order (get_or runs i d ∷ [])) b → IsWithinRange content low high (of_order order runs) (b + a)
    range_last a b one two =
        let xs = of_order order (take i runs) in
        let ys = of_order order (get_or runs i d ∷ []) in
        let zs = of_order order (drop (i + 1) runs) in
        let sum : 0 + (b + a) ≡ b + a = omega arith in
        subst (λ (rs : List Run). IsWithinRange content low high rs (b + a)) (sym (parts_of order runs i d l))
        (subst (IsWithinRange content low high ((xs ++ ys) ++ zs)) sum (range_both (xs ++ ys) zs (b + a) 0 (range_both xs ys a b one (subst (λ c. IsWithinRange c low high ys b) same two)) (range_none zs)))

  pub found_end : (order : ℕ) (runs : List Run) (i : ℕ) (start found : List PageRow) → length runs ≤ i
      → (AreRunsOfRows content (of_order order (take i runs)) → found ≡ start ++ rows_between low high (runs_rows content (of_order order (take i runs))))
      → AreRunsOfRows content (of_order order runs) → found ≡ start ++ rows_between low high (runs_rows content (of_order order runs))
  found_end order runs i start found l before = subst (λ (rs : List Run). AreRunsOfRows content rs → found ≡ start ++ rows_between low high (runs_rows content rs)) (all_taken order runs i l) before

  pub range_end : (order : ℕ) (runs : List Run) (i looks : ℕ) → length runs ≤ i → IsWithinRange content low high (of_order order (take i runs)) looks → IsWithinRange content low high (of_order order runs) looks
  range_end order runs i looks l before = subst (λ (rs : List Run). IsWithinRange content low high rs looks) (all_taken order runs i l) before

-- what was found, put in order and written back
pub between_is : (low high : List ℕ) (rows start found there sorted rest : List PageRow) (count : ℕ) → start ≡ [] → found ≡ start ++ rows_between low high rows → there ≡ found → length there ≡ count → IsPermutation there sorted
    → IsSortedByKey (λ r. r.key) text_cmp sorted → IsBetween low high rows (take count (sorted ++ rest))
between_is low high rows start found there sorted rest count none is here long same order =
    let whole : count ≡ length sorted = sym long ∙ sym (length_permutation there sorted same) in
    let back : take count (sorted ++ rest) ≡ sorted = ap (λ n. take n (sorted ++ rest)) whole ∙ take-append_seam sorted rest in
    subst (IsBetween low high rows) (sym back) (record {
      same = subst (λ (l : List PageRow). IsPermutation l sorted) (here ∙ is ∙ ap (λ l. l ++ rows_between low high rows) none) same;
      sorted = order;
    })
