use Rattle.std.proofs.Common.{◌∙◌, ap, sym, subst}
use Rattle.cp_archive.specs.Phases.{content_at, IsRising}
use Rattle.cp_archive.proofs.Noted.{found-at}
use Rattle.cp_archive.proofs.PhaseLemmas.{no-phase}
use Rattle.cp_archive.proofs.paths.content_of.Goals as goal

pub content_at-requires : goal.content_at-requires
content_at-requires c = subst IsRising (sym (c.deref.ensures.value ∙ found-at c.args.paths.now c.args.path.now _ c.in-Some.ensures.value)) (c.requires c.args.path.now)

pub returns-in-Some : goal.returns-in-Some
returns-in-Some c = c.content_at.ensures ∙ ap (λ xs. content_at xs c.args.version) (c.deref.ensures.value ∙ found-at c.args.paths.now c.args.path.now _ c.in-Some.ensures.value)

pub returns-in-None : goal.returns-in-None
returns-in-None c = sym (no-phase c.args.version) ∙ ap (λ xs. content_at xs c.args.version) (found-at c.args.paths.now c.args.path.now _ c.in-None.ensures.value)
