use Rattle.std.proofs.Common.{◌≡◌, drop}
use Rattle.serde_json.specs.View.{items_view, members_view}
use Rattle.cp_sources.specs.Surveys.{spot_below, survey_place}
use Rattle.cp_sources.specs.Walks.{walk_items, walk_members}
use Rattle.cp_sources.proofs.survey.+note.Given as goal

abbrev pub invariant-note_items-loop-item : goal.invariant-note_items-loop-item
invariant-note_items-loop-item l =
    record {
      counted : l.i ≡ l.item-index;
      seen : walk_items spot_below survey_place l.at l.item-index (items_view (drop l.item-index l.item-items)) l.seen ≡ walk_items spot_below survey_place l.at 0 (items_view l.item-items) l.initial.seen;
    }

abbrev pub invariant-note_members-loop-key : goal.invariant-note_members-loop-key
invariant-note_members-loop-key l = walk_members spot_below survey_place l.at (members_view l.key-iterator) l.seen ≡ walk_members spot_below survey_place l.at (members_view l.members.entries) l.initial.seen
