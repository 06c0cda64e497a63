use Rattle.cp_model.proofs.KeyedLemmas.{same_map}
use Rattle.cp_model.proofs.Lookups.{get-replaced, get-without, find-below}
use Rattle.cp_model.proofs.SumsLemmas.{len-replaced, weight-replaced}
use Rattle.cp_model.proofs.Contents.{contents-applied}
use Rattle.cp_model.proofs.Kept.{tree-changed, tree-step, closed-step}
use Rattle.cp_model.proofs.Origins.{sound-step}
use Rattle.cp_model.proofs.Histories.{legal-tree}
use Rattle.cp_model.proofs.Effects.{working-step, read-rows_of, losses-rows_of}
use Rattle.cp_model.proofs.Pasts.{legal-pasts}
use Rattle.cp_model.proofs.Rising.{records-rise}
use Rattle.cp_model.proofs.VersionLemmas.{versions-are-legal, last-version-is-all}
use Rattle.cp_model.proofs.VersionStates.{versions-are-states}
use Rattle.cp_model.proofs.stated.laws.Goals as goal

pub returns-clause-lookups : goal.returns-clause-lookups
returns-clause-lookups c = record { replaced_at = get-replaced; without_at = get-without; below_at = find-below; alike = same_map }

pub returns-clause-counts : goal.returns-clause-counts
returns-clause-counts c = record { nodes = len-replaced; weights = weight-replaced }

pub returns-clause-operations : goal.returns-clause-operations
returns-clause-operations c = record { kept = tree-changed; contents_follow = contents-applied; step_kept = tree-step; step_closed = closed-step }

pub returns-clause-origins : goal.returns-clause-origins
returns-clause-origins c = sound-step

pub returns-clause-histories : goal.returns-clause-histories
returns-clause-histories c = legal-tree

pub returns-clause-reading : goal.returns-clause-reading
returns-clause-reading c = record {
  effects = λ k t ss ops n w tree sources written accepted p e at. read-rows_of k t w (working-step t ss ops n w tree sources written accepted) p e at;
  losses = losses-rows_of;
}

pub returns-clause-pasts : goal.returns-clause-pasts
returns-clause-pasts c = legal-pasts

pub returns-clause-records : goal.returns-clause-records
returns-clause-records c = records-rise

pub returns-clause-legal_versions : goal.returns-clause-legal_versions
returns-clause-legal_versions c = versions-are-legal

pub returns-clause-last_version : goal.returns-clause-last_version
returns-clause-last_version c = last-version-is-all

pub returns-clause-versions : goal.returns-clause-versions
returns-clause-versions c = versions-are-states
