-- The first refusal that applies, else the first number that isn't whole, else the tree of the places.
use Rattle.std.proofs.Common.{length, inr, sym, ap, ◌∙◌}
use Rattle.std.specs.declared.option.Option.TheVariants.{None, Some}
use Rattle.serde_json.specs.View.{view}
use Rattle.cp_model.specs.Subtrees.{is_there}
use Rattle.cp_sources.specs.Surveys.{survey_of}
use Rattle.cp_sources.proofs.Fitting.{name_some, refusal_is, whole_is, near_enough, can_grow, grown_near, places_refused, places_not_whole, places_grown}
use Rattle.cp_sources.proofs.read.tree_of_value.Goals as goal

pub returns-in-Some-clause-answers : goal.returns-in-Some-clause-answers
returns-in-Some-clause-answers g c =
    inr (places_refused c.args.name.now (view c.args.value.now) c.in-Some.fault
    (refusal_is c.args.name.now (view c.args.value.now) c.in_ok-survey.survey (Some c.in-Some.fault) c.as_str.ensures.short
    (c.in_ok-survey.ensures ∙ ap (λ z. survey_of (length z) (view c.args.value.now)) c.as_str.ensures.text) (sym c.in-Some.is ∙ c.refusal.ensures)))

pub fraction-requires-clause-near : goal.fraction-requires-clause-near
fraction-requires-clause-near g c =
    near_enough c.args.name.now (view c.args.value.now)
    (refusal_is c.args.name.now (view c.args.value.now) c.in_ok-survey.survey None c.as_str.ensures.short
    (c.in_ok-survey.ensures ∙ ap (λ z. survey_of (length z) (view c.args.value.now)) c.as_str.ensures.text) (sym c.in_default.is ∙ c.refusal.ensures))

pub fraction-requires-clause-whole : goal.fraction-requires-clause-whole
fraction-requires-clause-whole g c =
    whole_is c.args.name.now (view c.args.value.now) c.in_ok-survey.survey c.as_str.ensures.short
    (c.in_ok-survey.ensures ∙ ap (λ z. survey_of (length z) (view c.args.value.now)) c.as_str.ensures.text)

pub tree_of-requires : goal.tree_of-requires
tree_of-requires g c =
    can_grow c.args.name.now (view c.args.value.now) (name_some c.args.name.now c.as_str.ensures.name) c.requires.ordered
    (refusal_is c.args.name.now (view c.args.value.now) c.in_ok-survey.survey None c.as_str.ensures.short
    (c.in_ok-survey.ensures ∙ ap (λ z. survey_of (length z) (view c.args.value.now)) c.as_str.ensures.text) (sym c.in_default.is ∙ c.refusal.ensures))
    (sym c.in_ok-place.ensures ∙ c.in-None.is)

pub returns-in-Some-2-clause-answers : goal.returns-in-Some-2-clause-answers
returns-in-Some-2-clause-answers g c =
    inr (places_not_whole c.args.name.now (view c.args.value.now) c.in-Some-2.place
    (refusal_is c.args.name.now (view c.args.value.now) c.in_ok-survey.survey None c.as_str.ensures.short
    (c.in_ok-survey.ensures ∙ ap (λ z. survey_of (length z) (view c.args.value.now)) c.as_str.ensures.text) (sym c.in_default.is ∙ c.refusal.ensures))
    (sym c.in_ok-place.ensures ∙ c.in-Some-2.is))

pub returns-in_ok-tree_of-in-None-clause-answers : goal.returns-in_ok-tree_of-in-None-clause-answers
returns-in_ok-tree_of-in-None-clause-answers g c =
    places_grown c.args.name.now (view c.args.value.now) (g.R.TreeRep.contents c.in_ok-tree_of-in-None.field-0) (name_some c.args.name.now c.as_str.ensures.name) c.requires.ordered
    (refusal_is c.args.name.now (view c.args.value.now) c.in_ok-survey.survey None c.as_str.ensures.short
    (c.in_ok-survey.ensures ∙ ap (λ z. survey_of (length z) (view c.args.value.now)) c.as_str.ensures.text) (sym c.in_default.is ∙ c.refusal.ensures))
    (sym c.in_ok-place.ensures ∙ c.in-None.is)
    c.in_ok-tree_of-in-None.ensures

pub returns-in_ok-tree_of-in-None-clause-places : goal.returns-in_ok-tree_of-in-None-clause-places
returns-in_ok-tree_of-in-None-clause-places g c p i =
    grown_near c.args.name.now (view c.args.value.now) (name_some c.args.name.now c.as_str.ensures.name) c.requires.ordered
    (refusal_is c.args.name.now (view c.args.value.now) c.in_ok-survey.survey None c.as_str.ensures.short
    (c.in_ok-survey.ensures ∙ ap (λ z. survey_of (length z) (view c.args.value.now)) c.as_str.ensures.text) (sym c.in_default.is ∙ c.refusal.ensures))
    (sym c.in_ok-place.ensures ∙ c.in-None.is)
    p (sym (ap (λ t. is_there t p) c.in_ok-tree_of-in-None.ensures) ∙ i)
