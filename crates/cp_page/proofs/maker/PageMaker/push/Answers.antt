use Rattle.std.proofs.Common.{arith, ◌≡◌, ◌+◌, ◌∙◌, ◌++◌, ◌∷◌, [], sym, refl, subst, ap, length, None, true, false}
use Rattle.cp_page.specs.Spelled.{RiseAfter}
use Rattle.cp_page.specs.Cuts.{has_room}
use Rattle.cp_page.specs.Made.{rows_in, IsMade}
use Rattle.cp_page.proofs.Making.{none_made, is_made, rows_are, one_more, has_room_is, no_room_is, padded_is, row_fits, row_begins}
use Rattle.cp_page.proofs.maker.PageMaker.push.Goals as goal
use Rattle.cp_page.specs.Rows.{row_of}

made : (c : goal.After-self-1) → IsMade (rows_in c.self.inside.page.bytes ++ (row_of c.args.key.now c.args.value.now) ∷ []) c.put_row.new.bytes (c.self.inside.used + (4 + length c.args.key.now + length c.args.value.now))
made c = one_more _ _ _ _ _ (c.put_row.ensures _ c.self.invariant (subst (λ rs. RiseAfter None (rs ++ (row_of c.args.key.now c.args.value.now) ∷ [])) (sym c.self.view_is) c.requires.rises))

made_anew : (c : goal.After-self-3-1) → IsMade ((row_of c.args.key.now c.args.value.now) ∷ []) c.put_row-2.new.bytes (2 + (4 + length c.args.key.now + length c.args.value.now))
made_anew c = one_more [] _ _ _ _ (c.put_row-2.ensures [] (none_made _ c.blank-self-inside.ensures) (refl, tt))

pub invariant_of-self : goal.invariant_of-self
invariant_of-self c = is_made _ _ _ (made c)

pub returns-then-size-self-clause-rows : goal.returns-then-size-self-clause-rows
returns-then-size-self-clause-rows c =
    let room : has_room c.args.self.now (row_of c.args.key.now c.args.value.now) ≡ true =
    ap (λ rs. has_room rs (row_of c.args.key.now c.args.value.now)) (sym c.self.view_is) ∙ has_room_is _ _ _ _ _ c.self.invariant c.if-size-self.true in
    rows_are _ _ _ (made c) ∙ ap (λ rs. rs ++ (row_of c.args.key.now c.args.value.now) ∷ []) c.self.view_is ∙ row_fits _ _ room

pub put_row-requires-2-clause-made : goal.put_row-requires-2-clause-made
put_row-requires-2-clause-made c = ([], none_made _ c.blank-self-inside.ensures)

pub invariant_of-self-2 : goal.invariant_of-self-2
invariant_of-self-2 c = is_made _ _ _ (made_anew c)

pub returns-clause-rows : goal.returns-clause-rows
returns-clause-rows c =
    let room : has_room c.args.self.now (row_of c.args.key.now c.args.value.now) ≡ false =
    ap (λ rs. has_room rs (row_of c.args.key.now c.args.value.now)) (sym c.self.view_is) ∙ no_room_is _ _ _ _ _ c.self.invariant c.if-size-self.false in
    rows_are _ _ _ (made_anew c) ∙ row_begins _ _ room
