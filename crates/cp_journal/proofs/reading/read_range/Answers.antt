use Rattle.std.proofs.Common.{rules, arith, List, ℕ, sym, ◌≡◌, ◌∙◌, ap, ◌+◌, ◌++◌, take, drop, length}
use Rattle.std.proofs.Math.Seq.{take-add}
use Rattle.std.proofs.lemmas.List.{drop-drop, take_at}
use Rattle.cp_disk.proofs.Composing.{still, rests_then}
use Rattle.cp_journal.proofs.Faults.{disk_kinds, disk_accounts, memory_kinds}
use Rattle.cp_journal.proofs.reading.read_range.Goals as goal

piece_read : (at done n : ℕ) (content here old x rest new : List ℕ) → old ≡ take done (drop at content) → here ≡ content → length x ≡ n → x ≡ take (length x) (drop (at + done) here) → new ≡ old ++ take n (x ++ rest) → new ≡ take (done + n) (drop at content)
piece_read at done n content here old x rest new was same long read made =
    let piece : x ≡ take n (drop done (drop at content)) =
    read ∙ ap (λ (k : ℕ). take k (drop (at + done) here)) long ∙ ap (λ (l : List ℕ). take n (drop (at + done) l)) same ∙ ap (take n) (sym (drop-drop done at content)) in
    made ∙ ap (λ (l : List ℕ). old ++ l) (take_at x rest n long ∙ piece) ∙ ap (λ (l : List ℕ). l ++ take n (drop done (drop at content))) was ∙ sym (take-add done n (drop at content))

pub loop-done-preserved : goal.loop-done-preserved
loop-done-preserved g c =
    let count = c.min-count.ensures in
    let one = c.in_ok-read.ensures.reads in
    let t = c.loop-done-test.true in
    let full = c.loop-done.invariant.full t in
    let long : length c.read.new.into ≡ c.min-count.result = search rules in
    record {
      within = omega arith;
      rests = λ known. rests_then _ _ _ (c.loop-done.invariant.rests known) (c.in_ok-read.ensures.filled (still c.loop-done.invariant.same known)).rests;
      bytes = λ known. piece_read c.args.at c.loop-done.done c.min-count.result _ _ c.loop-done.into.items _ _ _ (c.loop-done.invariant.bytes known) (c.loop-done.invariant.rests known).content long (c.in_ok-read.ensures.filled (still c.loop-done.invariant.same known)).bytes c.in_ok-extend_from_slice.ensures.items;
      same = search rules;
      faults = search rules;
      full = λ more. omega (arith, one, full, more);
      reads = omega (arith, one, full);
    }

pub returns-in_err-read-clause-reads : goal.returns-in_err-read-clause-reads
returns-in_err-read-clause-reads g c =
    let one = c.read.ensures.reads in
    let t = c.loop-done-test.true in
    let full = c.loop-done.invariant.full t in
    omega (arith, one, full, t)

pub returns-in_err-extend_from_slice-clause-reads : goal.returns-in_err-extend_from_slice-clause-reads
returns-in_err-extend_from_slice-clause-reads g c =
    let one = c.in_ok-read.ensures.reads in
    let t = c.loop-done-test.true in
    let full = c.loop-done.invariant.full t in
    omega (arith, one, full, t)

pub returns-clause-reads : goal.returns-clause-reads
returns-clause-reads g c =
    let reads = c.loop-done.invariant.reads in
    omega (arith, reads, c.loop-done.invariant.within)

pub returns-in_err-read-clause-kinds : goal.returns-in_err-read-clause-kinds
returns-in_err-read-clause-kinds g c = disk_kinds c.from_residual.result c.in_err-read.field-0.0 c.from_residual.ensures.1

pub returns-in_err-read-clause-cause : goal.returns-in_err-read-clause-cause
returns-in_err-read-clause-cause g c = disk_accounts c.from_residual.result _ _ _ c.in_err-read.field-0.0 c.loop-done.invariant.same c.loop-done.invariant.faults c.in_err-read.ensures.cause c.from_residual.ensures.1

pub returns-in_err-extend_from_slice-clause-kinds : goal.returns-in_err-extend_from_slice-clause-kinds
returns-in_err-extend_from_slice-clause-kinds g c = memory_kinds c.from_residual-in_err-extend_from_slice.result c.from_residual-in_err-extend_from_slice.ensures.1
