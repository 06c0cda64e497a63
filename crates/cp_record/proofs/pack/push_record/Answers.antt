use Rattle.std.proofs.Common.{[], sym, append-nil}
use Rattle.std.specs.Option.{option_map}
use Rattle.cp_path.specs.Encoding.{place_bytes}
use Rattle.cp_path.specs.Place.{below_place}
use Rattle.cp_record.specs.Bytes.{record_below}
use Rattle.cp_record.proofs.Growing.{grew_then}
use Rattle.cp_record.proofs.Kept.{record_written, no_source, the_source}
use Rattle.cp_record.proofs.pack.push_record.Goals as goal

pub returns-in-None-clause-ok : goal.returns-in-None-clause-ok
returns-in-None-clause-ok c =
    let below = c.args.below.now in
    let r = record_below c.args.tid c.args.op c.args.base.now below (option_map (λ q. q.now) c.args.source) in
    record_written c.args.out.now.items c.extend_from_slice.new.self.items c.push.new.self.items c.push_path.new.out.items c.push_path.new.out.items c.to_be_bytes.result [] c.letter.result r
    c.to_be_bytes.ensures c.letter.ensures (no_source c.args.source (λ q. q.now) (λ s. below_place s below) c.in-None.is)
    c.in_ok-extend_from_slice.ensures.items c.in_ok-push.ensures.items c.in_ok-push_path.ensures.ok (sym (append-nil c.push_path.new.out.items))

pub returns-in_ok-push_source-in-Some-clause-ok : goal.returns-in_ok-push_source-in-Some-clause-ok
returns-in_ok-push_source-in-Some-clause-ok c =
    let below = c.args.below.now in
    let source = c.in-Some.source in
    let r = record_below c.args.tid c.args.op c.args.base.now below (option_map (λ q. q.now) c.args.source) in
    record_written c.args.out.now.items c.extend_from_slice.new.self.items c.push.new.self.items c.push_path.new.out.items c.push_source.new.out.items c.to_be_bytes.result (place_bytes (below_place source.now below)) c.letter.result r
    c.to_be_bytes.ensures c.letter.ensures (the_source c.args.source source (λ q. q.now) (λ s. below_place s below) c.in-Some.is)
    c.in_ok-extend_from_slice.ensures.items c.in_ok-push.ensures.items c.in_ok-push_path.ensures.ok c.in_ok-push_source-in-Some.ensures.ok

pub returns-in_err-push_path-clause-err : goal.returns-in_err-push_path-clause-err
returns-in_err-push_path-clause-err c = grew_then _ _ _ _ c.in_ok-extend_from_slice.ensures.items (grew_then _ _ _ _ c.in_ok-push.ensures.items c.push_path.ensures.err)

pub returns-in-None-clause-err : goal.returns-in-None-clause-err
returns-in-None-clause-err c = grew_then _ _ _ _ c.in_ok-extend_from_slice.ensures.items (grew_then _ _ _ _ c.in_ok-push.ensures.items c.push_path.ensures.err)

pub returns-in_err-push_source-in-Some-clause-err : goal.returns-in_err-push_source-in-Some-clause-err
returns-in_err-push_source-in-Some-clause-err c = grew_then _ _ _ _ c.in_ok-extend_from_slice.ensures.items (grew_then _ _ _ _ c.in_ok-push.ensures.items (grew_then _ _ _ _ c.in_ok-push_path.ensures.ok c.push_source.ensures.err))

pub returns-in_ok-push_source-in-Some-clause-err : goal.returns-in_ok-push_source-in-Some-clause-err
returns-in_ok-push_source-in-Some-clause-err c = grew_then _ _ _ _ c.in_ok-extend_from_slice.ensures.items (grew_then _ _ _ _ c.in_ok-push.ensures.items (grew_then _ _ _ _ c.in_ok-push_path.ensures.ok c.push_source.ensures.err))
