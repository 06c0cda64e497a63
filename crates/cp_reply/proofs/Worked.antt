-- The worked examples, by computation.
use Rattle.std.proofs.Common.{refl}
use Rattle.std.specs.Fmt.{digits}
use Rattle.std.specs.Str.{chars, is_utf8}
use lib.Utf8.{encode}
use Rattle.std.specs.Str.Lossy.{utf8_valid_len}
use Rattle.json.specs.Print.{escape_byte}
use Rattle.cp_model.specs.Keyed as keyed
use Rattle.cp_model.specs.Subtrees.{below, entries_under, without, with_subtree}
use Rattle.cp_model.specs.Tree.{weight, tree_after, cases_of, refusal}
use Rattle.cp_model.specs.Step.{apply_op, then_op, step}
use Rattle.cp_model.specs.Past.{loses_child, settle}
use Rattle.cp_model.specs.Rows.{full_here, reduced_here, all_paths}
use Rattle.cp_model.specs.History.{after_settling, after_step, after_commit, start_state, replay}
use Rattle.cp_model.specs.Versions.{version}
use Rattle.cp_model.specs.Answers.{answer_to}
use Rattle.cp_model.specs.Trees.{tree_at}
use Rattle.cp_reply.specs.Lines.{lines, lines_for}
use Rattle.cp_reply.specs.Session.{turn, session_after, replies_to, replies_to_statements, session_after_statements}
use Rattle.cp_reply.specs.Examples.{CopyPasteHolds, CopiesHold, NetEffectsHold, InsertedTreesHold, TransactionsHold, RefusalsHold, SourcesHold, SharedHold, SpellingsHold}

pub copy_paste : CopyPasteHolds
unfolding replies_to_statements session_after_statements replay start_state after_commit after_step after_settling answer_to lines lines_for tree_at settle loses_child full_here reduced_here all_paths step then_op apply_op refusal cases_of tree_after weight with_subtree without entries_under below keyed.entries keyed.empty keyed.get keyed.insert keyed.retain_keys keyed.put_all keyed.len digits escape_byte
copy_paste = record { naive = refl; transactional = refl; hierarchical = refl; hierarchical_records = refl; hierarchical_transactional = refl; pasts = refl; from_new = refl; loss = refl; commits = refl }

pub copies : CopiesHold
unfolding replies_to_statements session_after_statements replay start_state after_commit after_step after_settling answer_to lines lines_for tree_at settle loses_child full_here reduced_here all_paths step then_op apply_op refusal cases_of tree_after weight with_subtree without entries_under below keyed.entries keyed.empty keyed.get keyed.insert keyed.retain_keys keyed.put_all keyed.len digits escape_byte
copies = record { moved = refl; moved_naive = refl; into_itself = refl; whole_source = refl; whole_source_full = refl }

pub net_effects : NetEffectsHold
unfolding replies_to_statements session_after_statements replay start_state after_commit after_step after_settling answer_to lines lines_for tree_at settle loses_child full_here reduced_here all_paths step then_op apply_op refusal cases_of tree_after weight with_subtree without entries_under below keyed.entries keyed.empty keyed.get keyed.insert keyed.retain_keys keyed.put_all keyed.len digits escape_byte
net_effects = record { onto_itself_naive = refl; onto_itself_transactional = refl; onto_itself_hierarchical = refl; onto_itself_hierarchical_transactional = refl; kept = refl; below_kept = refl; round_trip_transactional = refl; round_trip_hierarchical_transactional = refl; temporary = refl }

pub inserted_trees : InsertedTreesHold
unfolding replies_to_statements session_after_statements replay start_state after_commit after_step after_settling answer_to lines lines_for tree_at settle loses_child full_here reduced_here all_paths step then_op apply_op refusal cases_of tree_after weight with_subtree without entries_under below keyed.entries keyed.empty keyed.get keyed.insert keyed.retain_keys keyed.put_all keyed.len digits escape_byte
inserted_trees = record { one_record = refl; full = refl }

pub transactions : TransactionsHold
unfolding replies_to_statements session_after_statements replay start_state after_commit after_step after_settling answer_to lines lines_for tree_at settle loses_child full_here reduced_here all_paths step then_op apply_op refusal cases_of tree_after weight with_subtree without entries_under below keyed.entries keyed.empty keyed.get keyed.insert keyed.retain_keys keyed.put_all keyed.len digits escape_byte
transactions = record { failed = refl; empty = refl; label_there = refl; committed = refl; too_large = refl; log = refl; moments = refl }

pub refusals : RefusalsHold
unfolding replies_to_statements session_after_statements replay start_state after_commit after_step after_settling answer_to lines lines_for tree_at settle loses_child full_here reduced_here all_paths step then_op apply_op refusal cases_of tree_after weight with_subtree without entries_under below keyed.entries keyed.empty keyed.get keyed.insert keyed.retain_keys keyed.put_all keyed.len digits escape_byte
refusals = record { at_labels = refl; of_copies = refl; deep = refl; many = refl }

pub sources : SourcesHold
unfolding replies_to_statements session_after_statements replay start_state after_commit after_step after_settling answer_to lines lines_for tree_at settle loses_child full_here reduced_here all_paths step then_op apply_op refusal cases_of tree_after weight with_subtree without entries_under below keyed.entries keyed.empty keyed.get keyed.insert keyed.retain_keys keyed.put_all keyed.len digits escape_byte
sources = record { copied = refl; there = refl; once = refl; in_turn = refl }

pub shared : SharedHold
unfolding turn replies_to session_after version utf8_valid_len is_utf8 chars encode replay start_state after_commit after_step after_settling answer_to lines lines_for tree_at settle loses_child full_here reduced_here all_paths step then_op apply_op refusal cases_of tree_after weight with_subtree without entries_under below keyed.entries keyed.empty keyed.get keyed.insert keyed.retain_keys keyed.put_all keyed.len digits escape_byte
shared = record { first = refl; signed = refl; own = refl; tree_naive = refl; tree_transactional = refl; tree_hierarchical = refl; tree_hierarchical_transactional = refl; failed = refl; names = refl; cuts = refl }

pub spellings : SpellingsHold
unfolding replies_to_statements session_after_statements replay start_state after_commit after_step after_settling answer_to lines lines_for tree_at settle loses_child full_here reduced_here all_paths step then_op apply_op refusal cases_of tree_after weight with_subtree without entries_under below keyed.entries keyed.empty keyed.get keyed.insert keyed.retain_keys keyed.put_all keyed.len digits escape_byte
spellings = record { labels = refl }
