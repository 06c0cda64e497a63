use Rattle.std.proofs.Common.{rules, ◌∙◌, sym, refl}
use Rattle.cp_run.proofs.Steps as step
use Rattle.cp_run.proofs.Faults.{same_error, memory_not_bad}
use Rattle.cp_run.proofs.look.look.Goals as goal

pub returns-then-promote-clause-cache : goal.returns-then-promote-clause-cache
returns-then-promote-clause-cache g c =
    let found = sym c.promote.ensures.value ∙ c.if-promote.true in
    step.step_cache c.args.at c.args.cache.now _ c.requires.cache (step.hit_step _ _ _ c.requires.cache found c.promote.ensures.entries)

pub returns-then-promote-clause-looked : goal.returns-then-promote-clause-looked
returns-then-promote-clause-looked g c =
    let found = sym c.promote.ensures.value ∙ c.if-promote.true in
    step.hit_looked c.args.at c.args.cache.now _ c.requires.cache _ _ found (step.hit_step _ _ _ c.requires.cache found c.promote.ensures.entries)

pub returns-then-promote-clause-here : goal.returns-then-promote-clause-here
returns-then-promote-clause-here g c =
    let found = sym c.promote.ensures.value ∙ c.if-promote.true in
    (step.hit_step c.args.at c.args.cache.now _ c.requires.cache found c.promote.ensures.entries).here

pub returns-then-promote-clause-pages : goal.returns-then-promote-clause-pages
returns-then-promote-clause-pages g c = λ known all.
    let found = sym c.promote.ensures.value ∙ c.if-promote.true in
    step.step_pages c.args.at c.args.cache.now _ c.requires.cache _ _ refl (λ v none h. absurd (step.found_some c.args.at _ found none)) (step.hit_step _ _ _ c.requires.cache found c.promote.ensures.entries) all

pub returns-in_err-page-clause-cache : goal.returns-in_err-page-clause-cache
returns-in_err-page-clause-cache g c =
    let gone = sym c.promote.ensures.value ∙ c.if-promote.false in
    rw (step.no_step c.args.at c.args.cache.now c.promote.new.self c.requires.cache gone c.promote.ensures.entries) c.requires.cache

pub returns-in_err-page-clause-looked : goal.returns-in_err-page-clause-looked
returns-in_err-page-clause-looked g c =
    let gone = sym c.promote.ensures.value ∙ c.if-promote.false in
    record {
      count = step.gone_count c.args.at c.args.cache.now.entries _ _ gone c.read_page.ensures.reads;
      kept_now = search rules;
    }

pub returns-in_err-page-clause-pages : goal.returns-in_err-page-clause-pages
returns-in_err-page-clause-pages g c = λ known all.
    let gone = sym c.promote.ensures.value ∙ c.if-promote.false in
    step.no_pages c.args.at c.args.cache.now c.promote.new.self c.requires.cache _ _ (c.read_page.ensures.rests known).content gone c.promote.ensures.entries all

pub returns-in_err-put-clause-cache : goal.returns-in_err-put-clause-cache
returns-in_err-put-clause-cache g c =
    let gone = sym c.promote.ensures.value ∙ c.if-promote.false in
    rw (c.in_err-put.ensures.err, step.no_step c.args.at c.args.cache.now c.promote.new.self c.requires.cache gone c.promote.ensures.entries) c.requires.cache

pub returns-in_err-put-clause-looked : goal.returns-in_err-put-clause-looked
returns-in_err-put-clause-looked g c =
    let gone = sym c.promote.ensures.value ∙ c.if-promote.false in
    record {
      count = step.gone_count c.args.at c.args.cache.now.entries _ _ gone c.read_page.ensures.reads;
      kept_now = search rules;
    }

pub returns-in_err-put-clause-pages : goal.returns-in_err-put-clause-pages
returns-in_err-put-clause-pages g c = λ known all.
    let gone = sym c.promote.ensures.value ∙ c.if-promote.false in
    rw c.in_err-put.ensures.err (step.no_pages c.args.at c.args.cache.now c.promote.new.self c.requires.cache _ _ (c.read_page.ensures.rests known).content gone c.promote.ensures.entries all)

pub returns-clause-cache : goal.returns-clause-cache
returns-clause-cache g c =
    let gone = sym c.promote.ensures.value ∙ c.if-promote.false in
    let before = step.no_step c.args.at c.args.cache.now c.promote.new.self c.requires.cache gone c.promote.ensures.entries in
    step.step_cache c.args.at c.args.cache.now _ c.requires.cache (step.put_after c.args.at c.args.cache.now _ _ c.requires.cache _ gone before c.in_ok-put.ensures.entries)

pub returns-clause-looked : goal.returns-clause-looked
returns-clause-looked g c =
    let gone = sym c.promote.ensures.value ∙ c.if-promote.false in
    let before = step.no_step c.args.at c.args.cache.now c.promote.new.self c.requires.cache gone c.promote.ensures.entries in
    step.put_looked c.args.at c.args.cache.now _ c.requires.cache _ _ _ gone c.read_page.ensures.reads (step.put_after c.args.at c.args.cache.now _ _ c.requires.cache _ gone before c.in_ok-put.ensures.entries)

pub returns-clause-here : goal.returns-clause-here
returns-clause-here g c =
    let gone = sym c.promote.ensures.value ∙ c.if-promote.false in
    let before = step.no_step c.args.at c.args.cache.now c.promote.new.self c.requires.cache gone c.promote.ensures.entries in
    (step.put_after c.args.at c.args.cache.now _ _ c.requires.cache _ gone before c.in_ok-put.ensures.entries).here

pub returns-clause-pages : goal.returns-clause-pages
returns-clause-pages g c = λ known all.
    let gone = sym c.promote.ensures.value ∙ c.if-promote.false in
    let before = step.no_step c.args.at c.args.cache.now c.promote.new.self c.requires.cache gone c.promote.ensures.entries in
    step.put_pages c.args.at c.args.cache.now _ _ c.requires.cache _ _ _ (c.read_page.ensures.rests known).content (c.in_ok-page.ensures.page known) gone before c.in_ok-put.ensures.entries all

pub returns-in_err-page-clause-bad : goal.returns-in_err-page-clause-bad
returns-in_err-page-clause-bad g c = λ known n is. c.in_err-page.ensures.bad known n (same_error c.from_residual.result _ _ c.from_residual.ensures.1 is)

pub returns-in_err-put-clause-bad : goal.returns-in_err-put-clause-bad
returns-in_err-put-clause-bad g c = λ known n is. absurd (memory_not_bad c.from_residual-in_err-put.result n c.from_residual-in_err-put.ensures.1 is)
