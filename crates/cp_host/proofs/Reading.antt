-- What the first bytes of a reader tell of all that it had left.
use Rattle.std.proofs.Common.{ℕ, ◌<◌, ◌≤◌, ◌≡◌, List, length, take, None, Some, refl, ap, sym, ◌∙◌, arith}
use Rattle.std.specs.Prelude.{IfSome}
use Rattle.std.specs.Option.{option_map}
use Rattle.std.specs.declared.option.Option.{Option}
use Rattle.std.proofs.lemmas.List.{length-take, take_all, take-take}
use Rattle.std.proofs.lemmas.Option.{none-some, same_Some}
use Rattle.cp_outside.specs.declared.files.FileEnd.TheVariants.{Whole, TooLong}
use Rattle.cp_host.specs.Adapters.{ReadsAll}

-- fewer than `most` bytes among the first `most` are all of them
all_of : (most : ℕ) (got xs : List ℕ) → got ≡ take most xs → length got < most → xs ≡ got
all_of most got xs is few = sym (is ∙ take_all most xs (omega (arith, few, length-take most xs, ap length is)))

pub reads_whole : (known : Option (List ℕ)) (most limit : ℕ) (got : List ℕ) → IfSome (option_map (take most) known) (λ xs. got ≡ xs) → length got ≤ limit → length got < most → ReadsAll known limit got Whole
reads_whole None most limit got is within few = (got, (λ xs e. absurd (none-some xs e)), (refl, within))
reads_whole (Some ys) most limit got is within few = (got, (λ xs e. sym (same_Some ys xs e) ∙ all_of most got ys is few), (refl, within))

pub reads_too_long : (known : Option (List ℕ)) (most limit : ℕ) (got kept : List ℕ) → IfSome (option_map (take most) known) (λ xs. got ≡ xs) → limit < length got → limit ≤ most → kept ≡ take limit got → ReadsAll known limit kept TooLong
reads_too_long None most limit got kept is more below cut = (got, (λ xs e. absurd (none-some xs e)), (got, refl, more, cut))
reads_too_long (Some ys) most limit got kept is more below cut = (ys, (λ xs e. sym (same_Some ys xs e)), (ys, refl, omega (arith, more, length-take most ys, ap length is), cut ∙ ap (take limit) is ∙ take-take limit most ys below))
