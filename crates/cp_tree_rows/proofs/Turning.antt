-- Rows moved from the end into the place of others.
use Rattle.std.specs.Prelude.{◌≡◌, ℕ, ◌+◌, ◌-◌, ◌≤◌, List, ◌++◌, take, drop, length}
use Rattle.std.proofs.Common.{sym, ap, subst, ◌∙◌, arith, length-append, append_assoc}
use Rattle.std.proofs.lemmas.List.{length-take-le, length-drop, drop-take, take-append-le}
use Rattle.std.proofs.Math.Seq.{take-append_seam, drop-append_seam}
use Rattle.cp_tree_rows.specs.declared.row.TreeRow.{TreeRow}
use Rattle.cp_model.specs.Place.{Label, Path}
use Rattle.cp_tree_rows.specs.Spots.{IsPiece, IsOpened, IsPut}
use Rattle.cp_tree_rows.proofs.Stretches.{drop_on}

-- the first of two stretches
first_of : {X : Type 0} (xs ys : List X) (n : ℕ) → n ≡ length xs → take n (xs ++ ys) ≡ xs
first_of xs ys n e = ap (λ k. take k (xs ++ ys)) e ∙ take-append_seam xs ys

second_of : {X : Type 0} (xs ys : List X) (n : ℕ) → n ≡ length xs → drop n (xs ++ ys) ≡ ys
second_of xs ys n e = ap (λ k. drop k (xs ++ ys)) e ∙ drop-append_seam xs ys

-- two rotations and a cut
module _ (xs ys zs : List TreeRow) (start end len : ℕ) (order : start ≤ end) (within : end ≤ len) (few : len ≤ length xs)
    (first : ys ≡ take start xs ++ (drop (len - start) (drop start xs) ++ take (len - start) (drop start xs)))
    (second : zs ≡ take (start + (length xs - len)) ys ++ (drop (end - start) (drop (start + (length xs - len)) ys) ++ take (end - start) (drop (start + (length xs - len)) ys))) where
  abbrev front : List TreeRow
  front = take start xs

  abbrev old : List TreeRow
  old = drop start (take len xs)

  abbrev new : List TreeRow
  new = drop len xs

  old_is : take (len - start) (drop start xs) ≡ old
  old_is = (let n : start + (len - start) ≡ len = omega arith in sym (drop-take start (len - start) xs) ∙ ap (λ k. drop start (take k xs)) n)

  new_is : drop (len - start) (drop start xs) ≡ new
  new_is = (let n : start + (len - start) ≡ len = omega arith in sym (drop_on xs start (len - start) (omega arith)) ∙ ap (λ k. drop k xs) n)

  ys_is : ys ≡ (front ++ new) ++ old
  ys_is = first ∙ (λ i. front ++ (new_is i ++ old_is i)) ∙ sym (append_assoc front new old)

  seam : start + (length xs - len) ≡ length (front ++ new)
  seam = omega (arith, length-append front new, length-take-le start xs (omega arith), length-drop len xs)

  zs_is : zs ≡ ((front ++ new) ++ drop (end - start) old) ++ take (end - start) old
  zs_is =
      let t : take (start + (length xs - len)) ys ≡ front ++ new = ap (take (start + (length xs - len))) ys_is ∙ first_of (front ++ new) old (start + (length xs - len)) seam in
      let d : drop (start + (length xs - len)) ys ≡ old = ap (drop (start + (length xs - len))) ys_is ∙ second_of (front ++ new) old (start + (length xs - len)) seam in
      second ∙ (λ i. t i ++ (drop (end - start) (d i) ++ take (end - start) (d i))) ∙ sym (append_assoc (front ++ new) (drop (end - start) old) (take (end - start) old))

  rest_is : drop (end - start) old ≡ drop end (take len xs)
  rest_is = (let n : start + (end - start) ≡ end = omega arith in sym (drop_on (take len xs) start (end - start) (omega (arith, length-take-le len xs few))) ∙ ap (λ k. drop k (take len xs)) n)

  pub turned_rows : zs ≡ (take start xs ++ (drop len xs ++ drop end (take len xs))) ++ take (end - start) (drop start (take len xs))
  turned_rows = zs_is ∙ ap (λ z. z ++ take (end - start) old) (append_assoc front new (drop (end - start) old) ∙ ap (λ z. front ++ (new ++ z)) rest_is)

-- rows made ready, and those from len on moved to their place
module _ (xs ys zs : List TreeRow) (len last start end : ℕ) (p : Path) (a : Label) (few : len ≤ length xs) (piece : IsPiece a (drop len xs)) (o : IsOpened (take len xs) ys last start end p a (length xs - len))
    (e : zs ≡ (take start (ys ++ drop len xs) ++ (drop len (ys ++ drop len xs) ++ drop end (take len (ys ++ drop len xs)))) ++ take (end - start) (drop start (take len (ys ++ drop len xs)))) where
  opened_long : length ys ≡ len
  opened_long = o.long ∙ length-take-le len xs few

  kept_is : take len (ys ++ drop len xs) ≡ ys
  kept_is = first_of ys (drop len xs) len (sym opened_long)

  parts_are : zs ≡ (take start ys ++ (drop len xs ++ drop end ys)) ++ take (end - start) (drop start ys)
  parts_are =
      let f : take start (ys ++ drop len xs) ≡ take start ys = take-append-le start ys (drop len xs) (omega (arith, o.order, o.within)) in
      let m : drop len (ys ++ drop len xs) ≡ drop len xs = second_of ys (drop len xs) len (sym opened_long) in
      e ∙ (λ i. (f i ++ (m i ++ drop end (kept_is i))) ++ take (end - start) (drop start (kept_is i)))

  whole_long : length (ys ++ drop len xs) ≡ length xs
  whole_long = omega (arith, length-append ys (drop len xs), length-drop len xs, opened_long, few)

  kept_long : length (take start ys ++ (drop len xs ++ drop end ys)) ≡ length xs - (end - start)
  kept_long = omega (
    arith,
    length-append (take start ys) (drop len xs ++ drop end ys),
    length-append (drop len xs) (drop end ys),
    length-take-le start ys (omega (arith, o.order, o.within)),
    length-drop len xs,
    length-drop end ys,
    opened_long,
    o.order,
    o.within,
    few,
  )

  pub settled_long : length zs ≡ length xs
  settled_long = omega (
    arith,
    ap length parts_are,
    length-append (take start ys ++ (drop len xs ++ drop end ys)) (take (end - start) (drop start ys)),
    kept_long,
    length-take-le (end - start) (drop start ys) (omega (arith, length-drop start ys, o.order, o.within)),
    opened_long,
    o.order,
    o.within,
    few,
  )

  pub settled : IsPut (take len xs) (take (length zs - (end - start)) zs) last p a (drop len xs)
  settled =
      let t : take (length xs - (end - start)) zs ≡ take start ys ++ (drop len xs ++ drop end ys) = ap (take (length xs - (end - start))) parts_are ∙ first_of (take start ys ++ (drop len xs ++ drop end ys)) (take (end - start) (drop start ys)) (length xs - (end - start)) (sym kept_long) in
      let n : take (length zs - (end - start)) zs ≡ take start ys ++ (drop len xs ++ drop end ys) = ap (λ k. take (k - (end - start)) zs) settled_long ∙ t in
      subst (λ z. IsPut (take len xs) z last p a (drop len xs)) (sym n) (o.takes (drop len xs) (omega (arith, length-drop len xs)) piece)
