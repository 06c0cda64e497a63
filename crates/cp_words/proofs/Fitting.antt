-- The words after each command: as many as it wants, or one too few or too many.
use Rattle.std.proofs.Common.{List, [], ◌∷◌, refl}
use Rattle.clap.specs.Words.{Text}
use Rattle.clap.specs.declared.error.kind.ErrorKind.TheVariants.{MissingRequiredArgument}
use Rattle.clap.specs.Walk.{nothing_held}
use Rattle.clap.proofs.OnLiterals.{clap_on_literals}
use Rattle.cp_words.specs.Commands.{scratch_of, init_of, run_of, commit_of, load_of, query_of, generate_of, log_of, verify_of, at_of, archive_of, share_of, uses_of}
use Rattle.cp_words.specs.Matches.{scratch_from, init_from, run_from, commit_from, load_from, query_from, generate_from, log_from, verify_from, at_from, archive_from, share_from, uses_from}
use Rattle.cp_words.proofs.Leaf.{ArePlain, Right, sub_at, leaf_faults, leaf_rows, no_words, one_more, too_many, then_stray, fits_by_walk, lacks, strays}

pub scratch_right : (ws : List Text) → ArePlain ws → Right scratch_from (scratch_of ws) (leaf_faults (sub_at 0) ws) (leaf_rows (sub_at 0) ws)
unfolding clap_on_literals
scratch_right [] h =
    let s = sub_at 0 in
    lacks scratch_from MissingRequiredArgument [] s [] _ (no_words s nothing_held 1) refl
scratch_right (a ∷ []) h =
    let s = sub_at 0 in
    fits_by_walk scratch_from (scratch_of (a ∷ [])) s (a ∷ []) _ (one_more s nothing_held _ _ 1 _ a [] h.0 refl refl (no_words s _ _)) refl refl
scratch_right (a ∷ b ∷ []) h =
    let s = sub_at 0 in
    fits_by_walk scratch_from (scratch_of (a ∷ b ∷ [])) s (a ∷ b ∷ []) _ (one_more s nothing_held _ _ 1 _ a (b ∷ []) h.0 refl refl (one_more s _ _ _ 2 _ b [] h.1.0 refl refl (no_words s _ _))) refl refl
scratch_right (a ∷ b ∷ c ∷ more) h =
    let s = sub_at 0 in
    strays scratch_from s (a ∷ b ∷ c ∷ more) (then_stray s nothing_held _ 1 _ a (b ∷ c ∷ more) h.0 refl refl (then_stray s _ _ 2 _ b (c ∷ more) h.1.0 refl refl (too_many s _ 3 c more h.1.1.0 refl refl)))

pub init_right : (ws : List Text) → ArePlain ws → Right init_from (init_of ws) (leaf_faults (sub_at 1) ws) (leaf_rows (sub_at 1) ws)
unfolding clap_on_literals
init_right [] h =
    let s = sub_at 1 in
    lacks init_from MissingRequiredArgument [] s [] _ (no_words s nothing_held 1) refl
init_right (a ∷ []) h =
    let s = sub_at 1 in
    lacks init_from MissingRequiredArgument [] s (a ∷ []) _ (one_more s nothing_held _ _ 1 _ a [] h.0 refl refl (no_words s _ _)) refl
init_right (a ∷ b ∷ []) h =
    let s = sub_at 1 in
    fits_by_walk init_from (init_of (a ∷ b ∷ [])) s (a ∷ b ∷ []) _ (one_more s nothing_held _ _ 1 _ a (b ∷ []) h.0 refl refl (one_more s _ _ _ 2 _ b [] h.1.0 refl refl (no_words s _ _))) refl refl
init_right (a ∷ b ∷ c ∷ []) h =
    let s = sub_at 1 in
    fits_by_walk init_from (init_of (a ∷ b ∷ c ∷ [])) s (a ∷ b ∷ c ∷ []) _ (one_more s nothing_held _ _ 1 _ a (b ∷ c ∷ []) h.0 refl refl (one_more s _ _ _ 2 _ b (c ∷ []) h.1.0 refl refl (one_more s _ _ _ 3 _ c [] h.1.1.0 refl refl (no_words s _ _)))) refl refl
init_right (a ∷ b ∷ c ∷ d ∷ more) h =
    let s = sub_at 1 in
    strays init_from s (a ∷ b ∷ c ∷ d ∷ more) (then_stray s nothing_held _ 1 _ a (b ∷ c ∷ d ∷ more) h.0 refl refl (then_stray s _ _ 2 _ b (c ∷ d ∷ more) h.1.0 refl refl (then_stray s _ _ 3 _ c (d ∷ more) h.1.1.0 refl refl (too_many s _ 4 d more h.1.1.1.0 refl refl))))

pub run_right : (ws : List Text) → ArePlain ws → Right run_from (run_of ws) (leaf_faults (sub_at 2) ws) (leaf_rows (sub_at 2) ws)
unfolding clap_on_literals
run_right [] h =
    let s = sub_at 2 in
    lacks run_from MissingRequiredArgument [] s [] _ (no_words s nothing_held 1) refl
run_right (a ∷ []) h =
    let s = sub_at 2 in
    fits_by_walk run_from (run_of (a ∷ [])) s (a ∷ []) _ (one_more s nothing_held _ _ 1 _ a [] h.0 refl refl (no_words s _ _)) refl refl
run_right (a ∷ b ∷ []) h =
    let s = sub_at 2 in
    fits_by_walk run_from (run_of (a ∷ b ∷ [])) s (a ∷ b ∷ []) _ (one_more s nothing_held _ _ 1 _ a (b ∷ []) h.0 refl refl (one_more s _ _ _ 2 _ b [] h.1.0 refl refl (no_words s _ _))) refl refl
run_right (a ∷ b ∷ c ∷ more) h =
    let s = sub_at 2 in
    strays run_from s (a ∷ b ∷ c ∷ more) (then_stray s nothing_held _ 1 _ a (b ∷ c ∷ more) h.0 refl refl (then_stray s _ _ 2 _ b (c ∷ more) h.1.0 refl refl (too_many s _ 3 c more h.1.1.0 refl refl)))

pub commit_right : (ws : List Text) → ArePlain ws → Right commit_from (commit_of ws) (leaf_faults (sub_at 3) ws) (leaf_rows (sub_at 3) ws)
unfolding clap_on_literals
commit_right [] h =
    let s = sub_at 3 in
    lacks commit_from MissingRequiredArgument [] s [] _ (no_words s nothing_held 1) refl
commit_right (a ∷ []) h =
    let s = sub_at 3 in
    lacks commit_from MissingRequiredArgument [] s (a ∷ []) _ (one_more s nothing_held _ _ 1 _ a [] h.0 refl refl (no_words s _ _)) refl
commit_right (a ∷ b ∷ []) h =
    let s = sub_at 3 in
    fits_by_walk commit_from (commit_of (a ∷ b ∷ [])) s (a ∷ b ∷ []) _ (one_more s nothing_held _ _ 1 _ a (b ∷ []) h.0 refl refl (one_more s _ _ _ 2 _ b [] h.1.0 refl refl (no_words s _ _))) refl refl
commit_right (a ∷ b ∷ c ∷ []) h =
    let s = sub_at 3 in
    fits_by_walk commit_from (commit_of (a ∷ b ∷ c ∷ [])) s (a ∷ b ∷ c ∷ []) _ (one_more s nothing_held _ _ 1 _ a (b ∷ c ∷ []) h.0 refl refl (one_more s _ _ _ 2 _ b (c ∷ []) h.1.0 refl refl (one_more s _ _ _ 3 _ c [] h.1.1.0 refl refl (no_words s _ _)))) refl refl
commit_right (a ∷ b ∷ c ∷ d ∷ more) h =
    let s = sub_at 3 in
    strays commit_from s (a ∷ b ∷ c ∷ d ∷ more) (then_stray s nothing_held _ 1 _ a (b ∷ c ∷ d ∷ more) h.0 refl refl (then_stray s _ _ 2 _ b (c ∷ d ∷ more) h.1.0 refl refl (then_stray s _ _ 3 _ c (d ∷ more) h.1.1.0 refl refl (too_many s _ 4 d more h.1.1.1.0 refl refl))))

pub load_right : (ws : List Text) → ArePlain ws → Right load_from (load_of ws) (leaf_faults (sub_at 4) ws) (leaf_rows (sub_at 4) ws)
unfolding clap_on_literals
load_right [] h =
    let s = sub_at 4 in
    lacks load_from MissingRequiredArgument [] s [] _ (no_words s nothing_held 1) refl
load_right (a ∷ []) h =
    let s = sub_at 4 in
    lacks load_from MissingRequiredArgument [] s (a ∷ []) _ (one_more s nothing_held _ _ 1 _ a [] h.0 refl refl (no_words s _ _)) refl
load_right (a ∷ b ∷ []) h =
    let s = sub_at 4 in
    lacks load_from MissingRequiredArgument [] s (a ∷ b ∷ []) _ (one_more s nothing_held _ _ 1 _ a (b ∷ []) h.0 refl refl (one_more s _ _ _ 2 _ b [] h.1.0 refl refl (no_words s _ _))) refl
load_right (a ∷ b ∷ c ∷ []) h =
    let s = sub_at 4 in
    lacks load_from MissingRequiredArgument [] s (a ∷ b ∷ c ∷ []) _ (one_more s nothing_held _ _ 1 _ a (b ∷ c ∷ []) h.0 refl refl (one_more s _ _ _ 2 _ b (c ∷ []) h.1.0 refl refl (one_more s _ _ _ 3 _ c [] h.1.1.0 refl refl (no_words s _ _)))) refl
load_right (a ∷ b ∷ c ∷ d ∷ []) h =
    let s = sub_at 4 in
    fits_by_walk load_from (load_of (a ∷ b ∷ c ∷ d ∷ [])) s (a ∷ b ∷ c ∷ d ∷ []) _ (one_more s nothing_held _ _ 1 _ a (b ∷ c ∷ d ∷ []) h.0 refl refl (one_more s _ _ _ 2 _ b (c ∷ d ∷ []) h.1.0 refl refl (one_more s _ _ _ 3 _ c (d ∷ []) h.1.1.0 refl refl (one_more s _ _ _ 4 _ d [] h.1.1.1.0 refl refl (no_words s _ _))))) refl refl
load_right (a ∷ b ∷ c ∷ d ∷ e ∷ []) h =
    let s = sub_at 4 in
    fits_by_walk load_from (load_of (a ∷ b ∷ c ∷ d ∷ e ∷ [])) s (a ∷ b ∷ c ∷ d ∷ e ∷ []) _ (one_more s nothing_held _ _ 1 _ a (b ∷ c ∷ d ∷ e ∷ []) h.0 refl refl (one_more s _ _ _ 2 _ b (c ∷ d ∷ e ∷ []) h.1.0 refl refl (one_more s _ _ _ 3 _ c (d ∷ e ∷ []) h.1.1.0 refl refl (one_more s _ _ _ 4 _ d (e ∷ []) h.1.1.1.0 refl refl (one_more s _ _ _ 5 _ e [] h.1.1.1.1.0 refl refl (no_words s _ _)))))) refl refl
load_right (a ∷ b ∷ c ∷ d ∷ e ∷ f ∷ more) h =
    let s = sub_at 4 in
    strays load_from s (a ∷ b ∷ c ∷ d ∷ e ∷ f ∷ more) (then_stray s nothing_held _ 1 _ a (b ∷ c ∷ d ∷ e ∷ f ∷ more) h.0 refl refl (then_stray s _ _ 2 _ b (c ∷ d ∷ e ∷ f ∷ more) h.1.0 refl refl (then_stray s _ _ 3 _ c (d ∷ e ∷ f ∷ more) h.1.1.0 refl refl (then_stray s _ _ 4 _ d (e ∷ f ∷ more) h.1.1.1.0 refl refl (then_stray s _ _ 5 _ e (f ∷ more) h.1.1.1.1.0 refl refl (too_many s _ 6 f more h.1.1.1.1.1.0 refl refl))))))

pub query_right : (ws : List Text) → ArePlain ws → Right query_from (query_of ws) (leaf_faults (sub_at 5) ws) (leaf_rows (sub_at 5) ws)
unfolding clap_on_literals
query_right [] h =
    let s = sub_at 5 in
    lacks query_from MissingRequiredArgument [] s [] _ (no_words s nothing_held 1) refl
query_right (a ∷ []) h =
    let s = sub_at 5 in
    lacks query_from MissingRequiredArgument [] s (a ∷ []) _ (one_more s nothing_held _ _ 1 _ a [] h.0 refl refl (no_words s _ _)) refl
query_right (a ∷ b ∷ []) h =
    let s = sub_at 5 in
    fits_by_walk query_from (query_of (a ∷ b ∷ [])) s (a ∷ b ∷ []) _ (one_more s nothing_held _ _ 1 _ a (b ∷ []) h.0 refl refl (one_more s _ _ _ 2 _ b [] h.1.0 refl refl (no_words s _ _))) refl refl
query_right (a ∷ b ∷ c ∷ more) h =
    let s = sub_at 5 in
    strays query_from s (a ∷ b ∷ c ∷ more) (then_stray s nothing_held _ 1 _ a (b ∷ c ∷ more) h.0 refl refl (then_stray s _ _ 2 _ b (c ∷ more) h.1.0 refl refl (too_many s _ 3 c more h.1.1.0 refl refl)))

pub generate_right : (ws : List Text) → ArePlain ws → Right generate_from (generate_of ws) (leaf_faults (sub_at 6) ws) (leaf_rows (sub_at 6) ws)
unfolding clap_on_literals
generate_right [] h =
    let s = sub_at 6 in
    lacks generate_from MissingRequiredArgument [] s [] _ (no_words s nothing_held 1) refl
generate_right (a ∷ []) h =
    let s = sub_at 6 in
    lacks generate_from MissingRequiredArgument [] s (a ∷ []) _ (one_more s nothing_held _ _ 1 _ a [] h.0 refl refl (no_words s _ _)) refl
generate_right (a ∷ b ∷ []) h =
    let s = sub_at 6 in
    lacks generate_from MissingRequiredArgument [] s (a ∷ b ∷ []) _ (one_more s nothing_held _ _ 1 _ a (b ∷ []) h.0 refl refl (one_more s _ _ _ 2 _ b [] h.1.0 refl refl (no_words s _ _))) refl
generate_right (a ∷ b ∷ c ∷ []) h =
    let s = sub_at 6 in
    fits_by_walk generate_from (generate_of (a ∷ b ∷ c ∷ [])) s (a ∷ b ∷ c ∷ []) _ (one_more s nothing_held _ _ 1 _ a (b ∷ c ∷ []) h.0 refl refl (one_more s _ _ _ 2 _ b (c ∷ []) h.1.0 refl refl (one_more s _ _ _ 3 _ c [] h.1.1.0 refl refl (no_words s _ _)))) refl refl
generate_right (a ∷ b ∷ c ∷ d ∷ more) h =
    let s = sub_at 6 in
    strays generate_from s (a ∷ b ∷ c ∷ d ∷ more) (then_stray s nothing_held _ 1 _ a (b ∷ c ∷ d ∷ more) h.0 refl refl (then_stray s _ _ 2 _ b (c ∷ d ∷ more) h.1.0 refl refl (then_stray s _ _ 3 _ c (d ∷ more) h.1.1.0 refl refl (too_many s _ 4 d more h.1.1.1.0 refl refl))))

pub log_right : (ws : List Text) → ArePlain ws → Right log_from (log_of ws) (leaf_faults (sub_at 7) ws) (leaf_rows (sub_at 7) ws)
unfolding clap_on_literals
log_right [] h =
    let s = sub_at 7 in
    lacks log_from MissingRequiredArgument [] s [] _ (no_words s nothing_held 1) refl
log_right (a ∷ []) h =
    let s = sub_at 7 in
    fits_by_walk log_from (log_of (a ∷ [])) s (a ∷ []) _ (one_more s nothing_held _ _ 1 _ a [] h.0 refl refl (no_words s _ _)) refl refl
log_right (a ∷ b ∷ more) h =
    let s = sub_at 7 in
    strays log_from s (a ∷ b ∷ more) (then_stray s nothing_held _ 1 _ a (b ∷ more) h.0 refl refl (too_many s _ 2 b more h.1.0 refl refl))

pub verify_right : (ws : List Text) → ArePlain ws → Right verify_from (verify_of ws) (leaf_faults (sub_at 8) ws) (leaf_rows (sub_at 8) ws)
unfolding clap_on_literals
verify_right [] h =
    let s = sub_at 8 in
    lacks verify_from MissingRequiredArgument [] s [] _ (no_words s nothing_held 1) refl
verify_right (a ∷ []) h =
    let s = sub_at 8 in
    fits_by_walk verify_from (verify_of (a ∷ [])) s (a ∷ []) _ (one_more s nothing_held _ _ 1 _ a [] h.0 refl refl (no_words s _ _)) refl refl
verify_right (a ∷ b ∷ more) h =
    let s = sub_at 8 in
    strays verify_from s (a ∷ b ∷ more) (then_stray s nothing_held _ 1 _ a (b ∷ more) h.0 refl refl (too_many s _ 2 b more h.1.0 refl refl))

pub at_right : (ws : List Text) → ArePlain ws → Right at_from (at_of ws) (leaf_faults (sub_at 9) ws) (leaf_rows (sub_at 9) ws)
unfolding clap_on_literals
at_right [] h =
    let s = sub_at 9 in
    lacks at_from MissingRequiredArgument [] s [] _ (no_words s nothing_held 1) refl
at_right (a ∷ []) h =
    let s = sub_at 9 in
    lacks at_from MissingRequiredArgument [] s (a ∷ []) _ (one_more s nothing_held _ _ 1 _ a [] h.0 refl refl (no_words s _ _)) refl
at_right (a ∷ b ∷ []) h =
    let s = sub_at 9 in
    lacks at_from MissingRequiredArgument [] s (a ∷ b ∷ []) _ (one_more s nothing_held _ _ 1 _ a (b ∷ []) h.0 refl refl (one_more s _ _ _ 2 _ b [] h.1.0 refl refl (no_words s _ _))) refl
at_right (a ∷ b ∷ c ∷ []) h =
    let s = sub_at 9 in
    fits_by_walk at_from (at_of (a ∷ b ∷ c ∷ [])) s (a ∷ b ∷ c ∷ []) _ (one_more s nothing_held _ _ 1 _ a (b ∷ c ∷ []) h.0 refl refl (one_more s _ _ _ 2 _ b (c ∷ []) h.1.0 refl refl (one_more s _ _ _ 3 _ c [] h.1.1.0 refl refl (no_words s _ _)))) refl refl
at_right (a ∷ b ∷ c ∷ d ∷ more) h =
    let s = sub_at 9 in
    strays at_from s (a ∷ b ∷ c ∷ d ∷ more) (then_stray s nothing_held _ 1 _ a (b ∷ c ∷ d ∷ more) h.0 refl refl (then_stray s _ _ 2 _ b (c ∷ d ∷ more) h.1.0 refl refl (then_stray s _ _ 3 _ c (d ∷ more) h.1.1.0 refl refl (too_many s _ 4 d more h.1.1.1.0 refl refl))))

pub archive_right : (ws : List Text) → ArePlain ws → Right archive_from (archive_of ws) (leaf_faults (sub_at 10) ws) (leaf_rows (sub_at 10) ws)
unfolding clap_on_literals
archive_right [] h =
    let s = sub_at 10 in
    lacks archive_from MissingRequiredArgument [] s [] _ (no_words s nothing_held 1) refl
archive_right (a ∷ []) h =
    let s = sub_at 10 in
    fits_by_walk archive_from (archive_of (a ∷ [])) s (a ∷ []) _ (one_more s nothing_held _ _ 1 _ a [] h.0 refl refl (no_words s _ _)) refl refl
archive_right (a ∷ b ∷ more) h =
    let s = sub_at 10 in
    strays archive_from s (a ∷ b ∷ more) (then_stray s nothing_held _ 1 _ a (b ∷ more) h.0 refl refl (too_many s _ 2 b more h.1.0 refl refl))

pub share_right : (ws : List Text) → ArePlain ws → Right share_from (share_of ws) (leaf_faults (sub_at 11) ws) (leaf_rows (sub_at 11) ws)
unfolding clap_on_literals
share_right [] h =
    let s = sub_at 11 in
    lacks share_from MissingRequiredArgument [] s [] _ (no_words s nothing_held 1) refl
share_right (a ∷ []) h =
    let s = sub_at 11 in
    fits_by_walk share_from (share_of (a ∷ [])) s (a ∷ []) _ (one_more s nothing_held _ _ 1 _ a [] h.0 refl refl (no_words s _ _)) refl refl
share_right (a ∷ b ∷ more) h =
    let s = sub_at 11 in
    strays share_from s (a ∷ b ∷ more) (then_stray s nothing_held _ 1 _ a (b ∷ more) h.0 refl refl (too_many s _ 2 b more h.1.0 refl refl))

pub uses_right : (ws : List Text) → ArePlain ws → Right uses_from (uses_of ws) (leaf_faults (sub_at 12) ws) (leaf_rows (sub_at 12) ws)
unfolding clap_on_literals
uses_right [] h =
    let s = sub_at 12 in
    lacks uses_from MissingRequiredArgument [] s [] _ (no_words s nothing_held 1) refl
uses_right (a ∷ []) h =
    let s = sub_at 12 in
    lacks uses_from MissingRequiredArgument [] s (a ∷ []) _ (one_more s nothing_held _ _ 1 _ a [] h.0 refl refl (no_words s _ _)) refl
uses_right (a ∷ b ∷ []) h =
    let s = sub_at 12 in
    fits_by_walk uses_from (uses_of (a ∷ b ∷ [])) s (a ∷ b ∷ []) _ (one_more s nothing_held _ _ 1 _ a (b ∷ []) h.0 refl refl (one_more s _ _ _ 2 _ b [] h.1.0 refl refl (no_words s _ _))) refl refl
uses_right (a ∷ b ∷ c ∷ more) h =
    let s = sub_at 12 in
    strays uses_from s (a ∷ b ∷ c ∷ more) (then_stray s nothing_held _ 1 _ a (b ∷ c ∷ more) h.0 refl refl (then_stray s _ _ 2 _ b (c ∷ more) h.1.0 refl refl (too_many s _ 3 c more h.1.1.0 refl refl)))
