use Rattle.std.proofs.Common.{◌≡◌, ◌+◌, [], ap, sym, ◌∙◌, subst, true, false, length, List, ℕ, refl, arith}
use Rattle.cp_model.specs.History.{after_load}
use Rattle.cp_format.specs.Formats.{Reads}
use Rattle.cp_frame.specs.Entries.{entry_format}
use Rattle.cp_journal.specs.declared.limits.TheConstants.{FRAME_HEAD}
use Rattle.cp_db.specs.Databases.{end_in}
use Rattle.cp_frame.specs.Sizes.{has_room, load_size}
use Rattle.cp_db.proofs.WritingFrames.{crash-none, crash-added, kept-added}
use Rattle.cp_db.proofs.Taking.{keeps-loaded}
use Rattle.cp_db.proofs.WritingLoads.{can-load, load-few, load-leads, load-new, load-next, loaded-not}
use Rattle.cp_db.proofs.WritingStanding.{holds-appended, rows-appended}
use Rattle.cp_db.proofs.database.Db.add_source.Goals as goal

pub returns-in-Some-clause-loaded : goal.returns-in-Some-clause-loaded
returns-in-Some-clause-loaded g c = λ s z.
    loaded-not g.R.TreeRep.contents g.S.TreeRep.contents c.args.self.now c.args.name (g.S.TreeRep.contents c.args.tree) s c.in-Some.fault (sym c.in-Some.is ∙ c.in_the_way.ensures s z)

pub returns-in-Some-clause-crash : goal.returns-in-Some-clause-crash
returns-in-Some-clause-crash g c = λ known h z k. crash-none c.args.self.now h _ k _

pub returns-in_err-body-clause-crash : goal.returns-in_err-body-clause-crash
returns-in_err-body-clause-crash g c = λ known h z k. crash-none c.args.self.now h _ k _

pub returns-then-not-has_room-clause-loaded : goal.returns-then-not-has_room-clause-loaded
returns-then-not-has_room-clause-loaded g c = λ s z.
    let counted : c.len.result ≡ load_size c.args.name (g.S.TreeRep.contents c.args.tree) = omega (arith, c.len.ensures, c.in_ok-body.body.ok, c.in_ok-body.ensures.size) in
    (sym (c.in_the_way.ensures s z) ∙ c.in_default.is, ap (has_room (end_in c.args.self.now)) (sym counted) ∙ sym c.has_room.ensures ∙ c.if-not-has_room.true, refl)

pub returns-then-not-has_room-clause-crash : goal.returns-then-not-has_room-clause-crash
returns-then-not-has_room-clause-crash g c = λ known h z k. crash-none c.args.self.now h _ k _

pub add-requires-clause-new : goal.add-requires-clause-new
add-requires-clause-new g c =
    let s = c.requires.stands.0 in
    let z = c.requires.stands.1 in
    load-new g.R.TreeRep.contents g.S.TreeRep.contents c.args.self.now.committed s z.committed c.args.name (g.S.TreeRep.contents c.args.tree) (can-load g.R.TreeRep.contents g.S.TreeRep.contents c.args.self.now c.args.name (g.S.TreeRep.contents c.args.tree) c.in_the_way.result c.requires.source c.in_default.is c.in_the_way.ensures s z)

pub add-requires-clause-few : goal.add-requires-clause-few
add-requires-clause-few g c =
    let s = c.requires.stands.0 in
    let z = c.requires.stands.1 in
    load-few g.R.TreeRep.contents g.S.TreeRep.contents c.args.self.now.committed s z.committed c.args.name (g.S.TreeRep.contents c.args.tree) (can-load g.R.TreeRep.contents g.S.TreeRep.contents c.args.self.now c.args.name (g.S.TreeRep.contents c.args.tree) c.in_the_way.result c.requires.source c.in_default.is c.in_the_way.ensures s z)

pub returns-in_err-add-clause-crash : goal.returns-in_err-add-clause-crash
returns-in_err-add-clause-crash g c = λ known h z k. crash-none c.args.self.now h _ k _

pub returns-in_err-append-clause-crash : goal.returns-in_err-append-clause-crash
returns-in_err-append-clause-crash g c = λ known h z k.
    let s = c.in_ok-body.ensures.spells in
    let body = c.deref.result.now in
    let read : Reads entry_format body s.1 [] = subst (λ (b : List ℕ). Reads entry_format b s.1 []) (sym c.deref.ensures.value) s.5 in
    let next = load-next c.args.name s.0 (g.S.TreeRep.contents c.args.tree) s.2 s.3 c.args.self.now.version h z.state body s.1 z.led.replayed (can-load g.R.TreeRep.contents g.S.TreeRep.contents c.args.self.now c.args.name (g.S.TreeRep.contents c.args.tree) c.in_the_way.result c.requires.source c.in_default.is c.in_the_way.ensures z.state z.holds) s.4 read in
    crash-added c.args.self.now.version h _ body next c.args.self.now _ _ refl k (c.append.ensures.crash known)

pub returns-clause-loaded : goal.returns-clause-loaded
returns-clause-loaded g c = λ s z.
    let view = g.R.TreeRep.contents in
    let source_view = g.S.TreeRep.contents in
    let can = can-load g.R.TreeRep.contents g.S.TreeRep.contents c.args.self.now c.args.name (g.S.TreeRep.contents c.args.tree) c.in_the_way.result c.requires.source c.in_default.is c.in_the_way.ensures s z in
    let same = ap (λ d. d.committed) c.append.ensures.same in
    let size = c.in_ok-body.ensures.size in
    let counted : c.len.result ≡ load_size c.args.name (g.S.TreeRep.contents c.args.tree) = omega (arith, c.len.ensures, c.in_ok-body.body.ok, size) in (
      sym (c.in_the_way.ensures s z) ∙ c.in_default.is,
      ap (has_room (end_in c.args.self.now)) (sym counted) ∙ sym c.has_room.ensures ∙ c.if-not-has_room.false,
      record {
        holds = holds-appended view source_view c.append.new.self _ (after_load s c.args.name (source_view c.args.tree)) same c.append.ensures.whole c.in_ok-append.ensures.usable c.append.ensures.idle
            (keeps-loaded view source_view c.args.self.now.committed _ c.args.name (source_view c.args.tree) s z.committed can refl refl refl c.in_ok-add.ensures.added);
        rows = λ has. rows-appended view source_view c.append.new.self _ (after_load s c.args.name (source_view c.args.tree)) same has;
        leads = load-leads s c.args.name (source_view c.args.tree) can;
        end = c.in_ok-append.ensures.end ∙ ap (λ (n : ℕ). end_in c.args.self.now + FRAME_HEAD + n) (ap length c.deref.ensures.value ∙ size);
      },
    )

pub returns-clause-kept : goal.returns-clause-kept
returns-clause-kept g c = λ known h z k.
    let s = c.in_ok-body.ensures.spells in
    let body = c.deref.result.now in
    let read : Reads entry_format body s.1 [] = subst (λ (b : List ℕ). Reads entry_format b s.1 []) (sym c.deref.ensures.value) s.5 in
    let next = load-next c.args.name s.0 (g.S.TreeRep.contents c.args.tree) s.2 s.3 c.args.self.now.version h z.state body s.1 z.led.replayed (can-load g.R.TreeRep.contents g.S.TreeRep.contents c.args.self.now c.args.name (g.S.TreeRep.contents c.args.tree) c.in_the_way.result c.requires.source c.in_default.is c.in_the_way.ensures z.state z.holds) s.4 read in
    kept-added c.args.self.now.version h _ body next c.args.self.now _ _ refl k c.append.new.self (ap (λ d. d.version) c.append.ensures.same) (c.in_ok-append.ensures.described known)

pub returns-clause-crash : goal.returns-clause-crash
returns-clause-crash g c = λ known h z k.
    let s = c.in_ok-body.ensures.spells in
    let body = c.deref.result.now in
    let read : Reads entry_format body s.1 [] = subst (λ (b : List ℕ). Reads entry_format b s.1 []) (sym c.deref.ensures.value) s.5 in
    let next = load-next c.args.name s.0 (g.S.TreeRep.contents c.args.tree) s.2 s.3 c.args.self.now.version h z.state body s.1 z.led.replayed (can-load g.R.TreeRep.contents g.S.TreeRep.contents c.args.self.now c.args.name (g.S.TreeRep.contents c.args.tree) c.in_the_way.result c.requires.source c.in_default.is c.in_the_way.ensures z.state z.holds) s.4 read in
    crash-added c.args.self.now.version h _ body next c.args.self.now _ _ refl k (c.append.ensures.crash known)

pub returns-in_err-append-clause-room : goal.returns-in_err-append-clause-room
returns-in_err-append-clause-room g c = λ full.
    let counted : c.len.result ≡ load_size c.args.name (g.S.TreeRep.contents c.args.tree) = omega (arith, c.len.ensures, c.in_ok-body.body.ok, c.in_ok-body.ensures.size) in
    let none : true ≡ false = sym (ap (has_room (end_in c.args.self.now)) (sym counted) ∙ sym c.has_room.ensures ∙ c.if-not-has_room.false) ∙ full in
    absurd (cc none)

pub returns-clause-room : goal.returns-clause-room
returns-clause-room g c = λ full.
    let counted : c.len.result ≡ load_size c.args.name (g.S.TreeRep.contents c.args.tree) = omega (arith, c.len.ensures, c.in_ok-body.body.ok, c.in_ok-body.ensures.size) in
    let none : true ≡ false = sym (ap (has_room (end_in c.args.self.now)) (sym counted) ∙ sym c.has_room.ensures ∙ c.if-not-has_room.false) ∙ full in
    absurd (cc none)
