use Rattle.std.proofs.Common.{◌≡◌, ◌+◌, ◌≤◌, ◌∷◌, [], length, length-append, ap, ◌∙◌, arith}
use Rattle.cp_path.specs.declared.loc.Loc.{Loc}
use Rattle.cp_path.specs.Room.{labels_in}
use Rattle.cp_path.proofs.Held.{text_at, left_more, left_over}
use Rattle.cp_path.proofs.room.LocRoom.to_loc.Goals as goal

pub label_of-requires-clause-text : goal.label_of-requires-clause-text
label_of-requires-clause-text c = text_at c.as_slice-count-items.result.now c.loop-count.count-index c.loop-count.rest.now c.loop-count.path (labels_in c.self.inside.lengths.items c.self.inside.bytes.items) c.split_at.result.0.now c.loop-count-test.true c.loop-count.invariant.left c.split_at.ensures.front

pub loop-count-preserved : goal.loop-count-preserved
loop-count-preserved c = record {
  left = left_more c.as_slice-count-items.result.now c.loop-count.count-index c.loop-count.rest.now c.loop-count.path (labels_in c.self.inside.lengths.items c.self.inside.bytes.items) c.split_at.result.0.now c.split_at.result.1.now c.in_ok-label.label c.push.new.path c.loop-count-test.true c.loop-count.invariant.left c.split_at.ensures.front c.split_at.ensures.back c.in_ok-label.ensures c.in_ok-push.ensures;
  labels = ap length c.in_ok-push.ensures ∙ length-append c.loop-count.path (c.in_ok-label.label ∷ []) ∙ ap (λ n. n + 1) c.loop-count.invariant.labels;
}

pub returns : goal.returns
returns c =
    let over : length c.as_slice-count-items.result.now ≤ c.loop-count.count-index = omega (arith, c.loop-count-test.false) in
    let path = left_over c.as_slice-count-items.result.now c.loop-count.count-index c.loop-count.rest.now c.loop-count.path (labels_in c.self.inside.lengths.items c.self.inside.bytes.items) over c.loop-count.invariant.left in
    let name : c.in_ok-db.db ≡ c.self.inside.name.bytes = c.in_ok-db.ensures ∙ c.as_str.ensures.value in
    let both : ◌≡◌ {A = Loc} (record { db = c.in_ok-db.db; path = c.loop-count.path }) (record { db = c.self.inside.name.bytes; path = labels_in c.self.inside.lengths.items c.self.inside.bytes.items }) = λ i. record { db = name i; path = path i } in
    both ∙ c.self.view_is
