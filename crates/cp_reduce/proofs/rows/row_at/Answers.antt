use Rattle.std.proofs.Common.{rules}
use Rattle.std.proofs.lemmas.Fn.{always_returns_same}
use Rattle.cp_model.specs.Place.{path_cmp}
use Rattle.cp_reduce.proofs.Finding.{search-found, search-missing}
use Rattle.cp_reduce.proofs.rows.row_at.Goals as goal

pub returns-in-Ok : goal.returns-in-Ok
returns-in-Ok c = λ h.
    let at = c.in-Ok.ensures.position (λ y. path_cmp y.loc.path c.args.place.now) (always_returns_same _ _ _ (λ a r f called. (search rules, search rules))) in
    search-found c.args.rows.now c.args.place.now c.in-Ok.index c.index-rows-index.result h c.in-Ok.ensures.bound at c.index-rows-index.is

pub returns-in-Err : goal.returns-in-Err
returns-in-Err c = λ h.
    let at = c.in-Err.ensures.position (λ y. path_cmp y.loc.path c.args.place.now) (always_returns_same _ _ _ (λ a r f called. (search rules, search rules))) in
    search-missing c.args.rows.now c.args.place.now c.in-Err.field-0 h at
