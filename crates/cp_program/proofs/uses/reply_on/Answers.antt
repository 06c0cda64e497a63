use Rattle.std.proofs.Common.{Bool, refl, sym, subst, ◌∙◌}
use Rattle.cp_reply.specs.declared.reply.Of.TheVariants as of
use Rattle.cp_reply.specs.declared.reply.Why.TheVariants as why
use Rattle.cp_reply.specs.declared.reply.Reply.TheVariants as reply
use Rattle.cp_program.specs.Using.{TellsUsers}
use Rattle.cp_program.proofs.uses.reply_on.Goals as goal

pub returns-then-not-has_database : goal.returns-then-not-has_database
returns-then-not-has_database g c = λ h z.
    let q = c.args.place in
    subst (λ (b : Bool). TellsUsers b z.state q (reply.Refused of.Statement (why.NoSource q.db))) (sym c.if-not-has_database.true ∙ c.has_database.ensures h z) refl

pub returns : goal.returns
returns g c = λ h z.
    let q = c.args.place in
    let places = c.in_ok-places.places in
    subst (λ (b : Bool). TellsUsers b z.state q (reply.Uses q places)) (sym c.if-not-has_database.false ∙ c.has_database.ensures h z)
    (record { places = places; is = refl; users = c.in_ok-places.ensures h z })
