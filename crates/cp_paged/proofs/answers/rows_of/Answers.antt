use Rattle.std.proofs.Common.{◌≡◌, sym, ap, arith}
use Rattle.cp_paged.specs.Paged.{PagedRows}
use Rattle.cp_paged.proofs.Both.{rows-on, rows-after}
use Rattle.cp_paged.proofs.answers.rows_of.Goals as goal

pub returns-then-t-store-clause-found : goal.returns-then-t-store-clause-found
returns-then-t-store-clause-found g c = λ rs kept.
    let e : c.store.inside.upto ≡ c.args.store.now.upto = ap (λ (s : PagedRows). s.upto) c.store.view_is in
    let le = c.if-t-store.true in
    rows-on _ _ c.args.store.now rs kept c.args.t _ (omega (arith, e, le)) (c.rows_of.ensures.found kept.on kept.pages)

pub returns-clause-found : goal.returns-clause-found
returns-clause-found g c = λ rs kept.
    let e : c.store.inside.upto ≡ c.args.store.now.upto = ap (λ (s : PagedRows). s.upto) c.store.view_is in
    let more = c.if-t-store.false in
    rows-after _ _ c.args.store.now rs kept c.args.t _ (omega (arith, e, more)) (c.rows_of-2.ensures.found c.args.store.now.tail.rows.list (sym (ap (λ (s : PagedRows). s.tail.rows.list) c.store.view_is)))
