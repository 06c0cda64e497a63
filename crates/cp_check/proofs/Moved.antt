-- What a checkpoint names is the same in files with the same bytes there.
use Rattle.std.proofs.Common.{◌≡◌, ◌≤◌, ◌+◌, ◌*◌, ◌==◌, ℕ, zero, suc, Bool, true, false, if◌then◌else◌, List, [], ◌∷◌, ◌++◌, length, take, drop, refl, sym, ap, ◌∙◌, subst, arith, length-take, length-drop}
use Rattle.std.specs.List.{AllByRecursion}
use Rattle.std.specs.declared.option.Option.TheVariants.{None}
use Rattle.cp_journal.specs.Frames.{gate_at, whole}
use Rattle.cp_journal.specs.declared.header.Slot.{Slot}
use Rattle.cp_journal.specs.declared.limits.TheConstants.{HEADER_SIZE}
use Rattle.cp_format.specs.Formats.{Reads}
use Rattle.cp_frame.specs.Rooms.{tree_format, whole_room}
use Rattle.cp_model.specs.History.{State}
use Rattle.cp_model.specs.Tree.{Source}
use Rattle.cp_page.specs.Made.{rows_in}
use Rattle.cp_page.specs.Rows.{rows_of}
use Rattle.cp_page.specs.Spelled.{RiseAfter}
use Rattle.cp_page.specs.declared.row.PageRow.{PageRow}
use Rattle.cp_paged.specs.Held.{HasEachOnce, rows_in_order}
use Rattle.cp_run.specs.Holding.{page_at, pages_rows, run_rows, HasRowsAt, HaveRows, IsRunOfRows}
use Rattle.cp_run.specs.Sets.{of_order, runs_rows, AreRunsOfRows}
use Rattle.cp_run.specs.declared.run.Run.{Run}
use Rattle.cp_journal.specs.Begun.{checkpoint}
use Rattle.cp_check.specs.Rows.{rows_of_order, HoldRows}
use Rattle.cp_check.specs.Stands.{end_of, TreeLies, RunLies, HasTree, HaveTrees, Names, Snapshot, with_target}
use Rattle.cp_check.specs.declared.directory.TreeAt.{TreeAt}

-- after the header and up to this offset the two files have the same bytes
pub record Agree (end : ℕ) (old new : List ℕ) : Type 0 where
  pub at : (at n : ℕ) → HEADER_SIZE ≤ at → at + n ≤ end → take n (drop at new) ≡ take n (drop at old)

-- a page that is there whole lies in the file
long-enough : (n at : ℕ) (c : List ℕ) → 1 ≤ n → length (take n (drop at c)) ≡ n → at + n ≤ length c
long-enough n at c some is = omega (arith, some, is, length-take n (drop at c), length-drop at c)

module _ (end : ℕ) (old new : List ℕ) (agree : Agree end old new) where
  -- ---- trees

  tree-moved : (t : TreeAt) (s : Source) → TreeLies end t → HasTree old t s → HasTree new t s
  tree-moved t s lies h = record {
    written = h.written;
    reads = subst (λ (l : List ℕ). Reads (tree_format (whole_room (length t.name))) l h.written []) (sym (agree.at t.at t.len lies.0 lies.1)) h.reads;
    name = h.name;
    tree = h.tree;
  }

  pub trees-moved : (ts : List TreeAt) (ss : List Source) → AllByRecursion (TreeLies end) ts → HaveTrees old ts ss → HaveTrees new ts ss
  trees-moved [] [] lie h = tt
  trees-moved [] (s ∷ ss) lie h = absurd h
  trees-moved (t ∷ ts) [] lie h = absurd h
  trees-moved (t ∷ ts) (s ∷ ss) lie h = (tree-moved t s lie.0 h.0, trees-moved ts ss lie.1 h.1)

  -- ---- pages

  page-same : (at : ℕ) → HEADER_SIZE ≤ at → at + 4096 ≤ end → page_at new at ≡ page_at old at
  page-same at low high = agree.at at 4096 low high

  page-moved : (at : ℕ) → HEADER_SIZE ≤ at → at + 4096 ≤ end → HasRowsAt old at → HasRowsAt new at
  page-moved at low high h =
      let same = page-same at low high in
      let inside = h.whole in
      let size : length (page_at new at) ≡ 4096 = ap length same ∙ (let e : length (take 4096 (drop at old)) ≡ 4096 = omega (arith, inside, length-take 4096 (drop at old), length-drop at old) in e) in
      record {
        whole = long-enough 4096 at new (omega arith) size;
        first = h.first;
        more = h.more;
        rows = ap rows_of same ∙ h.rows;
      }

  pages-moved : (n at : ℕ) → HEADER_SIZE ≤ at → at + n * 4096 ≤ end → HaveRows old at n → HaveRows new at n
  pages-moved zero at low high h = tt
  pages-moved (suc n) at low high h = (page-moved at low (omega (arith, high)) h.0, pages-moved n (at + 4096) (omega (arith, low)) (omega (arith, high)) h.1)

  pages-same : (n at : ℕ) → HEADER_SIZE ≤ at → at + n * 4096 ≤ end → pages_rows new at n ≡ pages_rows old at n
  pages-same zero at low high = refl
  pages-same (suc n) at low high =
      let one = page-same at low (omega (arith, high)) in
      let rest = pages-same n (at + 4096) (omega (arith, low)) (omega (arith, high)) in
      λ i. rows_in (one i) ++ rest i

  -- ---- runs

  run-same : (r : Run) → RunLies end r → run_rows new r ≡ run_rows old r
  run-same r lies = pages-same r.pages r.at lies.0 lies.1

  run-moved : (r : Run) → RunLies end r → IsRunOfRows old r → IsRunOfRows new r
  run-moved r lies h = record {
    pages = pages-moved r.pages r.at lies.0 lies.1 h.pages;
    rise = subst (RiseAfter None) (sym (run-same r lies)) h.rise;
  }

  runs-moved : (runs : List Run) → AllByRecursion (RunLies end) runs → AreRunsOfRows old runs → AreRunsOfRows new runs
  runs-moved [] lie h = tt
  runs-moved (r ∷ runs) lie h = (run-moved r lie.0 h.0, runs-moved runs lie.1 h.1)

  with-run : (b : Bool) (r : Run) (runs : List Run) → run_rows new r ≡ run_rows old r → runs_rows new runs ≡ runs_rows old runs
      → runs_rows new (if b then r ∷ runs else runs) ≡ runs_rows old (if b then r ∷ runs else runs)
  with-run true r runs one rest = λ i. one i ++ rest i
  with-run false r runs one rest = rest

  order-same : (order : ℕ) (runs : List Run) → AllByRecursion (RunLies end) runs → rows_of_order new runs order ≡ rows_of_order old runs order
  order-same order [] lie = refl
  order-same order (r ∷ runs) lie = with-run (r.order == order) r (of_order order runs) (run-same r lie.0) (order-same order runs lie.1)

  pub rows-moved : (runs : List Run) (s : State) → AllByRecursion (RunLies end) runs → HoldRows old runs s → HoldRows new runs s
  rows-moved runs s lie h = record {
    spelled = runs-moved runs lie h.spelled;
    hold = record {
      held = h.hold.held;
      each = λ o le. subst (λ (l : List PageRow). HasEachOnce l (rows_in_order o s.rows)) (sym (order-same o runs lie)) (h.hold.each o le);
    };
  }

-- a slot names the same checkpoint where its frame and what it names are the same
pub names-moved : (slot : Slot) (old new : List ℕ) (p : Snapshot) → Agree (end_of slot.at p.body) old new
    → (rest : List ℕ) → gate_at (drop slot.at new) ≡ whole (checkpoint p.body) rest → Names slot old p → Names slot new p
names-moved slot old new p agree rest gate h = record {
  offset = h.offset;
  number = h.number;
  rest = rest;
  frame = gate;
  directory = h.directory;
  numbers = h.numbers;
  trees_lie = h.trees_lie;
  runs_lie = h.runs_lie;
  trees = trees-moved (end_of slot.at p.body) old new agree p.directory.trees (with_target p.tree p.sources) h.trees_lie h.trees;
  sources = h.sources;
  few = h.few;
}
