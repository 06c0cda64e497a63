use Rattle.std.proofs.Common.{◌∷◌, [], ap, inl, inr, refl}
use Rattle.cp_disk.proofs.Composing.{still}
use Rattle.cp_model.specs.History.{start}
use Rattle.cp_reply.specs.declared.reply.Reply.TheVariants as reply
use Rattle.cp_db.proofs.Keeping.{kept-images}
use Rattle.cp_program.proofs.init.create.Goals as goal

pub returns-in-Ok-clause-created : goal.returns-in-Ok-clause-created
returns-in-Ok-clause-created g c = λ known vacant.
    let w = g.D.Disk.known c.init.new.disk in
    let t = g.R.TreeRep.contents c.args.tree in (
      ap (λ n. reply.Created c.args.kind n) c.count-nodes.ensures,
      λ file i. kept-images _ (start c.args.kind t ∷ []) w.view (c.in-Ok.ensures.kept (still c.in-Ok.ensures.cause.same known)) file i,
    )

pub returns-in-Err-Disk-clause-created : goal.returns-in-Err-Disk-clause-created
returns-in-Err-Disk-clause-created g c = λ known vacant. inl refl

pub returns-in-Err-Exists-clause-created : goal.returns-in-Err-Exists-clause-created
returns-in-Err-Exists-clause-created g c = λ known vacant. inr refl
