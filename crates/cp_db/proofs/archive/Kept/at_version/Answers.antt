use Rattle.std.proofs.Common.{◌≡◌, ◌+◌, ◌∙◌, [], ℕ, sym, subst, arith}
use Rattle.cp_model.specs.Changes.{AreNext}
use Rattle.cp_db.proofs.Versioned.{next-upto, version-committed, version-rows, version-tree}
use Rattle.cp_db.proofs.archive.Kept.at_version.Goals as goal

pub absorb_packed-requires-clause-next : goal.absorb_packed-requires-clause-next
absorb_packed-requires-clause-next g c =
    let next = subst (AreNext 0 c.args.tid) (sym c.in_ok-rows.ensures) (next-upto c.args.tid c.requires.tids.last c.args.self.rows c.requires.tids.next) in
    let high : c.args.tid ≡ 0 + c.args.tid = omega arith in
    subst (λ (m : ℕ). AreNext m (m + c.args.tid) c.in_ok-rows.rows) (sym c.new-store.ensures.upto) (subst (λ (m : ℕ). AreNext 0 m c.in_ok-rows.rows) high next)

pub returns-in-Ok-clause-state : goal.returns-in-Ok-clause-state
returns-in-Ok-clause-state g c = λ h items z k is.
    let last : c.absorb_packed.new.self.rows.upto ≡ c.args.tid = (let met = c.in-Ok.ensures.last in let begun = c.new-store.ensures.upto in omega (arith, met, begun)) in
    record {
      keeps = version-rows h items c.args.self k c.args.tid z is c.requires.there ∙ sym c.in_ok-rows.ensures ∙ c.in-Ok.ensures.rows [] (sym c.new-store.ensures.list);
      committed = version-committed h items c.args.self k c.args.tid z is c.requires.there c.absorb_packed.new.self.kind c.absorb_packed.new.self.rows.upto (g.R.TreeRep.contents c.in_ok-tree.tree) (c.in-Ok.ensures.kind ∙ c.new-store.ensures.kind) last c.in_ok-tree.ensures;
    }

pub returns-in-Ok-clause-tree : goal.returns-in-Ok-clause-tree
returns-in-Ok-clause-tree g c = λ right h items z k is. sym (version-tree right h items c.args.self k c.args.tid z is c.requires.there (g.R.TreeRep.contents c.in_ok-tree.tree) c.in_ok-tree.ensures)
