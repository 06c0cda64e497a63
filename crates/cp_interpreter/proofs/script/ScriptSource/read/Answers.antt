use Rattle.std.proofs.Common.{◌≡◌, ℕ, ◌+◌, List, ◌++◌, length, take, drop, arith, rules}
use Rattle.std.proofs.lemmas.List.{take_at, drop_all, length-append, length-drop}
use Rattle.std.proofs.lemmas.List.Folds.{drop_split}
use Rattle.std.specs.List.{slice_range}
use Rattle.cp_interpreter.proofs.script.ScriptSource.read.Goals as goal

-- the n bytes behind the first `at` were moved to the front of `new`
moved : (bytes new rest : List ℕ) (at n : ℕ) → new ≡ slice_range bytes at (at + n) → length new ≡ n → drop at bytes ≡ take n (new ++ rest) ++ drop (at + n) bytes
moved bytes new rest at n is len = rw (take_at new rest n len, is) (drop_split bytes at (at + n) (omega arith))

pub returns-clause-bytes : goal.returns-clause-bytes
returns-clause-bytes c =
    let bytes = c.self.inside.bytes.items in
    let new = c.copy_from_slice.new.self in
    let at = c.self.inside.at in
    let n = c.min-count.result in
    let is : new ≡ slice_range bytes at (at + n) = search rules in (
      rw (← c.self.view_is) (moved bytes new (drop n c.args.into.now) at n is (search rules)),
      λ none some. drop_all (at + n) bytes (omega (arith, length-append new (drop n c.args.into.now), length-drop n c.args.into.now)),
    )
