use Rattle.std.proofs.Common.{◌≡◌, ◌≤◌, ℕ, List, length}
use Rattle.std.specs.declared.option.Option.{Option}
use Rattle.cp_model.specs.History.{State}
use Rattle.cp_disk.specs.Views.{IfKnown, Rests}
use Rattle.cp_journal.specs.Frames.{Frame}
use Rattle.cp_journal.specs.Journals.{Lists}
use Rattle.cp_frame.specs.Items.{Item}
use Rattle.cp_db.specs.Walk.{HasCome, HasReached, walk_terms}
use Rattle.cp_db.proofs.walk.HistoryWalk.go_on.Given as goal

abbrev pub invariant-loop-n : goal.invariant-loop-n
invariant-loop-n g l = record {
  within : l.n ≤ length l.fn.journal.frames;
  come : IfKnown (g.D.Disk.known l.fn.disk) (λ v. (first : Option State) (from : ℕ) (fs : List Frame) → Lists from fs l.fn.journal v.content
      → HasCome (walk_terms g.R.TreeRep.contents g.S.TreeRep.contents g.W.Work.fits g.W.Work.done) first l.fn.version from fs l.fn.number l.fn.self
      → HasCome (walk_terms g.R.TreeRep.contents g.S.TreeRep.contents g.W.Work.fits g.W.Work.done) first l.fn.version from fs l.n l.self);
  reached : (first : Option State) (items : List Item) → HasReached g.R.TreeRep.contents g.S.TreeRep.contents g.W.Work.fits first l.fn.self items
      → (more : List Item) × HasReached g.R.TreeRep.contents g.S.TreeRep.contents g.W.Work.fits first l.self more;
  rests : Rests (g.D.Disk.known l.fn.disk) (g.D.Disk.known l.disk);
  same : (g.D.Disk.known l.disk).known ≡ (g.D.Disk.known l.fn.disk).known;
  steady : (g.D.Disk.known l.disk).counts.faults ≡ (g.D.Disk.known l.fn.disk).counts.faults;
}
