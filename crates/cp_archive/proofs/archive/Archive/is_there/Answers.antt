use Rattle.std.proofs.Common.{◌≡◌, ◌<◌, false, ap, sym, ◌∙◌, leb, arith}
use Rattle.std.specs.Prelude.{is_some}
use Rattle.std.proofs.lemmas.Bool.Decides.{nat_tests}
use Rattle.cp_archive.specs.Trees.{is_there_in}
use Rattle.cp_archive.proofs.VersionTrees.{there-at, not-there, some-copied}
use Rattle.cp_archive.proofs.archive.Archive.is_there.Goals as goal

pub returns-then-version-self : goal.returns-then-version-self
returns-then-version-self c =
    c.is_some.ensures ∙ some-copied c.content_of.result ∙ ap is_some c.content_of.ensures
    ∙ there-at c.self.inside.paths c.self.inside.last c.args.version c.args.path.now c.if-version-self.true
    ∙ ap (λ ts. is_there_in ts c.args.version c.args.path.now) c.self.view_is

pub returns-else-version-self : goal.returns-else-version-self
returns-else-version-self c =
    let less : c.self.inside.last < c.args.version = omega (arith, c.if-version-self.false) in
    let no : leb c.args.version c.self.inside.last ≡ false = grind (arith, nat_tests, less) in
    no ∙ sym (not-there c.self.inside.paths c.self.inside.last c.args.version c.args.path.now less)
    ∙ ap (λ ts. is_there_in ts c.args.version c.args.path.now) c.self.view_is
