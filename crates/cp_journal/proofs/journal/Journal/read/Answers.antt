use Rattle.std.proofs.Common.{arith, ◌≡◌, ◌≤◌, ◌<◌, ◌+◌, ◌*◌, ◌∙◌, ap, ℕ, List, Some, get_or, length}
use Rattle.std.specs.List.{slice_get}
use Rattle.cp_disk.specs.declared.limits.TheConstants.{READ_MAX}
use Rattle.cp_journal.specs.Journals.{JournalState}
use Rattle.cp_journal.specs.declared.frame.FrameAt.{FrameAt}
use Rattle.cp_journal.proofs.Bodies.{listed_body, get_is, in_range_at, given_body}
use Rattle.cp_journal.proofs.journal.Journal.read.Goals as goal

there : (j : JournalState) (frames : List FrameAt) (n : ℕ) (f : FrameAt) → frames ≡ j.frames → n < length j.frames → f ≡ get_or frames n f → slice_get j.frames n ≡ Some f
there j frames n f same lt is = get_is j.frames n f lt (is ∙ ap (λ (l : List FrameAt). get_or l n f) same)

within_cost : (frames : List FrameAt) (n a b len : ℕ) (x f : FrameAt) → slice_get frames n ≡ Some x → slice_get frames n ≡ Some f → len ≤ x.len → READ_MAX * a ≤ READ_MAX * b + len + 4095 → READ_MAX * a ≤ READ_MAX * b + f.len + 4095
within_cost frames n a b len x f one two most le = let same : x ≡ f = cc (one, two) in omega (arith, ap (λ (k : FrameAt). k.len) same, most, le)

pub overflow_add-frame : goal.overflow_add-frame
overflow_add-frame g c =
    let lt = rw (← c.self.view_is) at c.requires.within in
    let most = in_range_at _ _ _ c.self.invariant.1 (get_is _ _ _ lt c.index-frame.ensures) in
    omega (arith, most)

pub read_range-requires-clause-most : goal.read_range-requires-clause-most
read_range-requires-clause-most g c =
    let lt = rw (← c.self.view_is) at c.requires.within in
    let most = in_range_at _ _ _ c.self.invariant.1 (get_is _ _ _ lt c.index-frame.ensures) in
    omega (arith, most, c.given_len.ensures.most)

pub read_range-requires-clause-within : goal.read_range-requires-clause-within
read_range-requires-clause-within g c = λ known.
    let l = c.requires.listed known in
    let found = there c.args.self.now _ _ _ (ap (λ (s : JournalState). s.frames) c.self.view_is) c.requires.within c.index-frame.ensures in
    let inside = (listed_body l.0 l.1 c.args.self.now _ l.2 _ _ found).2.inside in
    omega (arith, inside, c.given_len.ensures.most)

pub returns-clause-at : goal.returns-clause-at
returns-clause-at g c = there c.args.self.now _ _ _ (ap (λ (s : JournalState). s.frames) c.self.view_is) c.requires.within c.index-frame.ensures

pub returns-clause-body : goal.returns-clause-body
returns-clause-body g c = λ known from fs f lists here.
    let found = there c.args.self.now _ _ _ (ap (λ (s : JournalState). s.frames) c.self.view_is) c.requires.within c.index-frame.ensures in
    rw (c.in_ok-read_range.ensures.bytes known) (given_body from fs c.args.self.now _ _ _ f _ found c.given_len.ensures.given lists here)

pub returns-in_err-read_range-clause-reads : goal.returns-in_err-read_range-clause-reads
returns-in_err-read_range-clause-reads g c = λ f here.
    let found = there c.args.self.now _ _ _ (ap (λ (s : JournalState). s.frames) c.self.view_is) c.requires.within c.index-frame.ensures in
    within_cost c.args.self.now.frames c.args.n _ _ _ _ f found here c.given_len.ensures.most c.read_range.ensures.reads

pub returns-clause-reads : goal.returns-clause-reads
returns-clause-reads g c = λ f here.
    let found = there c.args.self.now _ _ _ (ap (λ (s : JournalState). s.frames) c.self.view_is) c.requires.within c.index-frame.ensures in
    within_cost c.args.self.now.frames c.args.n _ _ _ _ f found here c.given_len.ensures.most c.read_range.ensures.reads
