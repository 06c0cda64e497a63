use Rattle.std.proofs.Common.{◌≡◌, ◌++◌, ◌∙◌, ap, sym, subst, append_assoc}
use Rattle.std.specs.List.{AllByRecursion}
use Rattle.std.specs.declared.option.Option.TheVariants.{Some}
use Rattle.std.proofs.lemmas.List.{append-nil}
use Rattle.cp_model.specs.Keyed.{look}
use Rattle.cp_archive.specs.Phases.{IsRising, content_at, row_of}
use Rattle.cp_archive.proofs.Differing.{all-found}
use Rattle.cp_archive.proofs.Listing.{rows_in, sorted-keys, phases-found, rows-listed}
use Rattle.cp_archive.proofs.paths.rows_of.Goals as goal

pub loop-path-init : goal.loop-path-init
loop-path-init c =
    let all = c.into_iter-path-iterator.ensures.into_iter_gives ∙ c.iter-path-items.ensures.rest in
    let found = all-found c.args.paths.now.entries (sorted-keys c.args.paths.now.entries c.iter-path-items.ensures.ordered) in
    record {
      listed = ap (λ xs. xs ++ rows_in c.args.version c.into_iter-path-iterator.result) c.new-items.ensures.items ∙ ap (rows_in c.args.version) all;
      found = subst (AllByRecursion (λ e. look e.0 c.args.paths.now.entries ≡ Some e.1)) (sym all) found;
    }

pub add_row-requires : goal.add_row-requires
add_row-requires c =
    let here = (subst (AllByRecursion (λ e. look e.0 c.args.paths.now.entries ≡ Some e.1)) c.in-Some.ensures.steps c.loop-path.invariant.found).0 in
    subst IsRising (sym (c.deref.ensures.value ∙ phases-found c.args.paths.now c.args.version c.in-Some.path.now c.in-Some.phases.now here)) (c.requires c.in-Some.path.now)

pub loop-path-preserved : goal.loop-path-preserved
loop-path-preserved c =
    let rest = c.next.new.self in
    record {
      listed =
          ap (λ xs. xs ++ rows_in c.args.version rest) (c.in_ok-add_row.ensures ∙ ap (λ ps. c.loop-path.items.items ++ row_of c.in-Some.path.now (content_at ps c.args.version)) c.deref.ensures.value)
          ∙ append_assoc c.loop-path.items.items (row_of c.in-Some.path.now (content_at c.in-Some.phases.now.items c.args.version)) (rows_in c.args.version rest)
          ∙ ap (λ es. c.loop-path.items.items ++ rows_in c.args.version es) (sym c.in-Some.ensures.steps)
          ∙ c.loop-path.invariant.listed;
      found = (subst (AllByRecursion (λ e. look e.0 c.args.paths.now.entries ≡ Some e.1)) c.in-Some.ensures.steps c.loop-path.invariant.found).1;
    }

pub returns : goal.returns
returns c =
    sym (append-nil c.loop-path.items.items)
    ∙ ap (λ es. c.loop-path.items.items ++ rows_in c.args.version es) (sym c.in-None.ensures.steps.0)
    ∙ c.loop-path.invariant.listed
    ∙ rows-listed c.args.paths.now c.args.version c.iter-path-items.ensures.ordered
