use Rattle.std.proofs.Common.{ℕ, List, length, subst, sym, ◌∙◌}
use Rattle.std.specs.declared.option.Option.{Option}
use Rattle.cp_reply.specs.Sharing.{bad_byte_or}
use Rattle.cp_reply.specs.declared.reply.Why.TheVariants as why
use Rattle.cp_reply.specs.Session.{turn_by_owner, unread}
use Rattle.cp_workspace.specs.Texts.{setting}
use Rattle.cp_workspace.specs.Workspaces.{Turned, shared_by, to_name}
use Rattle.cp_workspace.proofs.workspace.Workspace.refuse_unfinished.Goals as goal

pub returns-in_ok-reply-in-Some-clause-turned : goal.returns-in_ok-reply-in-Some-clause-turned
returns-in_ok-reply-in-Some-clause-turned g c = λ terms s z.
    let view = g.R.TreeRep.contents in
    let source_view = g.S.TreeRep.contents in
    let text = c.args.text.now in
    let at = bad_byte_or (length text) text in
    let r = unread (why.Syntax (length text)) in
    let new = shared_by c.args.self.now c.refuse_for.new.curators in
    let reply = c.in_ok-reply-in-Some.reply in
    let Q : Option (List ℕ) → Type 0 = λ o. Turned view source_view terms (turn_by_owner (setting terms) s at o r) new (to_name c.in-Some.name reply) in
    subst Q (sym c.in-Some.is ∙ c.in_ok-name.ensures) (c.in_ok-reply-in-Some.ensures.turned terms s z)
