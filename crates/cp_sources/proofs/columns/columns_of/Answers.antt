use Rattle.std.proofs.Common.{◌≡◌, [], None, Some, true, false, is_some, inr, sym, ap, ◌∙◌, rules}
use Rattle.std.specs.List.{list_any}
use Rattle.csv.specs.Records.{fields_of}
use Rattle.cp_model.specs.Place.{option_map}
use Rattle.cp_sources.specs.CsvTrees.{has_key, is_long_label, repeated_column}
use Rattle.cp_sources.specs.Steps.{column_of}
use Rattle.cp_sources.proofs.Lists.{fault_long, fault_repeated, fault_missing, fault_none, column_found, column_holds, column_is}
use Rattle.cp_sources.proofs.columns.columns_of.Goals as goal

pub returns-then-has_longer-clause-told : goal.returns-then-has_longer-clause-told
returns-then-has_longer-clause-told c =
    let hs = fields_of c.args.header in
    let long : list_any is_long_label hs ≡ true = search rules in
    inr (fault_long hs (option_map (λ k. k.now) c.args.key) c.in-Some.ensures.0 long)

pub returns-in-Some-2-clause-told : goal.returns-in-Some-2-clause-told
returns-in-Some-2-clause-told c =
    let hs = fields_of c.args.header in
    let short : list_any is_long_label hs ≡ false = search rules in
    let twice : repeated_column [] 1 hs ≡ Some c.in-Some-2.column = search rules in
    inr (fault_repeated hs (option_map (λ k. k.now) c.args.key) c.in-Some.ensures.0 c.in-Some-2.column short twice)

pub returns-in_default-column_of-clause-told : goal.returns-in_default-column_of-clause-told
returns-in_default-column_of-clause-told c =
    let hs = fields_of c.args.header in
    let short : list_any is_long_label hs ≡ false = search rules in
    let once : repeated_column [] 1 hs ≡ None = search rules in
    let none : column_of c.in-Some-key.name.now hs ≡ None = search rules in
    let missing = ap (λ k. has_key (option_map (λ k. k.now) k) hs) c.in-Some-key.is ∙ column_found c.in-Some-key.name.now hs ∙ ap is_some none in
    inr (fault_missing hs (option_map (λ k. k.now) c.args.key) c.in-Some.ensures.0 short once missing)

pub returns-clause-keyed : goal.returns-clause-keyed
returns-clause-keyed c =
    let hs = fields_of c.args.header in
    let found : column_of c.in-Some-key.name.now hs ≡ Some c.in-Some-column_of.at = search rules in
    column_is c.in-Some-key.name.now hs c.in-Some-column_of.at found ∙ sym (ap (option_map (λ k. k.now)) c.in-Some-key.is)

pub returns-clause-sound : goal.returns-clause-sound
returns-clause-sound c =
    let hs = fields_of c.args.header in
    let k = c.in-Some-key.name.now in
    let short : list_any is_long_label hs ≡ false = search rules in
    let once : repeated_column [] 1 hs ≡ None = search rules in
    let found : column_of k hs ≡ Some c.in-Some-column_of.at = search rules in
    record { short = short; apart = once; keyed = (k, column_is k hs c.in-Some-column_of.at found, λ fs l. column_holds k hs c.in-Some-column_of.at fs found l) }

pub returns-clause-told : goal.returns-clause-told
returns-clause-told c =
    let hs = fields_of c.args.header in
    let k = c.in-Some-key.name.now in
    let short : list_any is_long_label hs ≡ false = search rules in
    let once : repeated_column [] 1 hs ≡ None = search rules in
    let found : column_of k hs ≡ Some c.in-Some-column_of.at = search rules in
    let there = ap (λ k. has_key (option_map (λ k. k.now) k) hs) c.in-Some-key.is ∙ column_found k hs ∙ ap is_some found in
    fault_none hs (option_map (λ k. k.now) c.args.key) c.in-Some.ensures.0 short once there
