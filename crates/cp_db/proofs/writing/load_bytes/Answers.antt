use Rattle.std.proofs.Common.{ℕ, List, sym, subst}
use Rattle.std.proofs.lemmas.Result.{IfOk-weaker}
use Rattle.cp_frame.specs.Entries.{IsEntry}
use Rattle.cp_frame.specs.Sound.{IsSoundEntry}
use Rattle.cp_frame.specs.declared.entry.Entry.TheVariants as frame
use Rattle.cp_db.proofs.WritingLoads.{load-sound, load-length}
use Rattle.cp_db.proofs.writing.load_bytes.Goals as goal

pub entry_bytes-body-requires : goal.entry_bytes-body-requires
entry_bytes-body-requires g c =
    subst (λ (m : List ℕ). IsSoundEntry (frame.Load m c.in_ok-literal.literal)) (sym c.in_ok-clone.ensures.cases)
    (load-sound c.args.name.now c.in_ok-literal.literal (g.S.TreeRep.contents c.args.tree.now) c.in_ok-literal.ensures.literal c.in_ok-literal.ensures.tree c.requires)

pub returns : goal.returns
returns g c =
    let name = c.args.name.now in
    let tree = g.S.TreeRep.contents c.args.tree.now in
    let literal = c.in_ok-literal.literal in
    let rows = c.in_ok-literal.ensures.literal in
    let same = c.in_ok-literal.ensures.tree in
    let body = c.entry_bytes-body.result in
    record {
      spells = IfOk-weaker body _ _ (λ v e. (literal, e.0, rows, same, subst (λ (m : List ℕ). IsEntry (frame.Load m literal) e.0) c.in_ok-clone.ensures.cases e.1, e.2)) c.entry_bytes-body.ensures;
      size = IfOk-weaker body _ _ (λ v e. load-length name literal tree rows same v.items e.0 (subst (λ (m : List ℕ). IsEntry (frame.Load m literal) e.0) c.in_ok-clone.ensures.cases e.1) e.2) c.entry_bytes-body.ensures;
    }
