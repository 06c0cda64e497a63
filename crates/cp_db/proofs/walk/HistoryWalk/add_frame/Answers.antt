use Rattle.std.proofs.Common.{◌≡◌, ◌∙◌, [], refl, sym, ap}
use Rattle.cp_journal.specs.declared.frame.TheConstants.{ENTRY}
use Rattle.cp_frame.specs.Items.{a_checkpoint}
use Rattle.cp_db.specs.Walk.{begun_at, frame_place}
use Rattle.cp_db.proofs.OpeningFrames.{checkpoint_is, entry_read, lawful_at, listed_tag}
use Rattle.cp_db.proofs.Walking.{checkpoint-reached}
use Rattle.cp_db.proofs.WalkingFrames.{listed_place}
use Rattle.cp_db.proofs.walk.HistoryWalk.add_frame.Goals as goal

pub returns-then-frame-ne-ENTRY-clause-added : goal.returns-then-frame-ne-ENTRY-clause-added
returns-then-frame-ne-ENTRY-clause-added g c = λ known from fs f first items lists here count t.
    let view = g.R.TreeRep.contents in
    let source_view = g.S.TreeRep.contents in
    let w = c.args.self.now in
    let taken = t.reached.taken in
    let other : f.tag ≡ ENTRY → ⊥ = λ is. c.if-frame-ne-ENTRY.true (listed_tag from fs c.args.journal.now _ lists c.args.n c.in_ok-frame.frame f c.in_ok-frame.ensures.at here ∙ is) in
    let at = listed_place from fs c.args.journal.now _ lists c.args.n c.in_ok-frame.frame c.in_ok-frame.ensures.at ∙ ap (frame_place from fs) (sym count) in (
      a_checkpoint f.body,
      checkpoint_is f (lawful_at fs c.args.n f lists.lawful here) other,
      record {
        reached = checkpoint-reached view source_view g.W.Work.fits first w items t.reached f.body c.pass.new.self (c.pass.ensures.fits w.kind w.last (view w.tree) t.reached.fits);
        done = c.pass.ensures.done first (frame_place from fs) items (a_checkpoint f.body) taken.state t.done taken.stand taken.replayed refl at;
      },
    )

pub returns-then-frame-ne-ENTRY-clause-reached : goal.returns-then-frame-ne-ENTRY-clause-reached
returns-then-frame-ne-ENTRY-clause-reached g c = λ first items t.
    let w = c.args.self.now in
    (_, checkpoint-reached g.R.TreeRep.contents g.S.TreeRep.contents g.W.Work.fits first w items t [] c.pass.new.self (c.pass.ensures.fits w.kind w.last (g.R.TreeRep.contents w.tree) t.fits))

pub returns-clause-added : goal.returns-clause-added
returns-clause-added g c = λ known from fs f first items lists here count t.
    let read = entry_read from fs c.args.journal.now _ c.args.n c.in_ok-frame.frame f c.deref.result.now lists c.in_ok-frame.ensures.at here c.if-frame-ne-ENTRY.false
    (c.deref.ensures.value ∙ c.in_ok-frame.ensures.body known from fs f lists here) in
    let at = listed_place from fs c.args.journal.now _ lists c.args.n c.in_ok-frame.frame c.in_ok-frame.ensures.at in
    c.add_entry.ensures.added f (begun_at first from fs) items read.0 read.1 t (at ∙ ap (frame_place from fs) (sym count))
