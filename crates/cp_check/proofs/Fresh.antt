-- A checkpoint that was just written is right.
use Rattle.std.proofs.Common.{◌≡◌, ◌≤◌, ◌+◌, ℕ, List, [], ◌∷◌, length, take, drop, refl, sym, ap, ◌∙◌, subst, arith}
use Rattle.std.proofs.lemmas.List.{take_at, drop-drop}
use Rattle.cp_model.specs.History.{replay}
use Rattle.cp_model.specs.Keyed.{from_entries}
use Rattle.cp_model.specs.Tree.{Source}
use Rattle.cp_format.specs.Formats.{Reads}
use Rattle.cp_journal.specs.Frames.{Frame, spelled_all, gate_at, whole}
use Rattle.cp_journal.specs.Holding.{Continues}
use Rattle.cp_journal.specs.declared.limits.TheConstants.{FRAME_HEAD, HEADER_SIZE}
use Rattle.cp_frame.specs.Rooms.{tree_format, whole_room}
use Rattle.cp_frame.specs.Stands.{header_of}
use Rattle.cp_frame.specs.Trees.{Written, rows_of}
use Rattle.cp_frame.proofs.Images.{held-length}
use Rattle.cp_frame.proofs.Standing.{replayed-items}
use Rattle.cp_journal.specs.Begun.{checkpoint}
use Rattle.cp_check.specs.Laws.{FreshCheckpointsAreRight}
use Rattle.cp_check.specs.Stands.{HasTree}
use Rattle.cp_check.specs.declared.directory.TreeAt.{TreeAt}
use Rattle.cp_check.proofs.Moved.{Agree}
use Rattle.cp_journal.proofs.SlotWrites.{seg-front, seg-take}
use Rattle.cp_journal.proofs.Tails.{gate_of, body_is}

module _ (at : ℕ) (old body c : List ℕ) (more : Continues at old (checkpoint body ∷ []) c) where
  pub fresh-gate : gate_at (drop at c) ≡ whole (checkpoint body) (drop (10 + length body) (drop at c))
  fresh-gate = gate_of (checkpoint body) [] at c more.frames

  -- the bytes of the body stand after the head of its frame
  pub fresh-bytes : (k n : ℕ) → k + n ≤ length body → take n (drop (at + FRAME_HEAD + k) c) ≡ take n (drop k body)
  fresh-bytes k n le =
      let all : take (length body) (drop 10 (drop at c)) ≡ body = body_is (drop at c) (checkpoint body) (drop (10 + length body) (drop at c)) fresh-gate in
      let here : drop (at + 10 + k) c ≡ drop k (drop 10 (drop at c)) = sym (ap (drop k) (drop-drop 10 at c) ∙ drop-drop k (at + 10) c) in
      ap (take n) here ∙ sym (seg-take k n (length body) (drop 10 (drop at c)) le) ∙ ap (λ (l : List ℕ). take n (drop k l)) all

  -- before the frame nothing has changed
  pub old-bytes : Agree at old c
  old-bytes = record { at = λ from n low high. seg-front from n at c old high more.front }

  -- a tree that is spelled in the body stands in the file
  pub fresh-tree : (k : ℕ) (t : TreeAt) (x : Source) (written : Written) → t.at ≡ at + FRAME_HEAD + k → k + t.len ≤ length body → Reads (tree_format (whole_room (length t.name))) (take t.len (drop k body)) written []
      → x.name ≡ t.name → x.tree ≡ from_entries (rows_of written) → HasTree c t x
  fresh-tree k t x written place inside reads name tree = record {
    written = written;
    reads =
        subst (λ (l : List ℕ). Reads (tree_format (whole_room (length t.name))) l written []) (sym (ap (λ (i : ℕ). take t.len (drop i c)) place ∙ fresh-bytes k t.len inside)) reads;
    name = name;
    tree = tree;
  }

-- with the numbers, the trees and the rows of the history's state it is right
pub fresh_checkpoints_are_right : FreshCheckpointsAreRight
fresh_checkpoints_are_right h old c s slot is_at number body more state d is has = record {
  before = s.told.items;
  body = body;
  after = [];
  are = refl;
  place = is_at ∙ ap (λ (l : List Frame). HEADER_SIZE + length (spelled_all l)) (sym (take_at s.told.frames (checkpoint body ∷ []) (length s.told.items) (held-length (header_of old).version s.told.frames s.told.items s.told.held)));
  state = state;
  replayed = sym (replayed-items s.told.items) ∙ ap replay (sym s.told.are) ∙ is;
  directory = d;
  numbered = has.numbered;
  names = record {
    offset = omega (arith, is_at);
    number = number;
    rest = drop (10 + length body) (drop slot.at c);
    frame = fresh-gate slot.at old body c more;
    directory = has.ends;
    numbers = has.numbers;
    trees_lie = has.trees_lie;
    runs_lie = has.runs_lie;
    trees = has.trees;
    sources = has.sources;
    few = has.few;
  };
  rows = has.rows;
}
