-- Cuts one after another: their replies, and the state behind them.
use Rattle.std.specs.Prelude.{◌≡◌, List, [], ◌∷◌, ◌++◌, refl}
use Rattle.std.proofs.Common.{ap, ◌∙◌}
use Rattle.std.specs.declared.option.Option.{Option}
use Rattle.std.specs.declared.option.Option.TheVariants.{None, Some}
use Rattle.cp_lang.specs.declared.cut.Cut.{Cut}
use Rattle.cp_reply.specs.declared.said.Said.{Said}
use Rattle.cp_reply.specs.Session.{Setting, Session, turn, said_in, with_said, replies_to, session_after}

-- a reply before replies, and others behind
with_said_append : (o : Option Said) (xs ys : List Said) → with_said o (xs ++ ys) ≡ with_said o xs ++ ys
with_said_append None xs ys = refl
with_said_append (Some x) xs ys = refl

-- the replies to the first cuts come before those to the second
pub replies_to-append : (c : Setting) (s : Session) (xs ys : List Cut) → replies_to c s (xs ++ ys) ≡ replies_to c s xs ++ replies_to c (session_after c s xs) ys
unfolding replies_to session_after
replies_to-append c s [] ys = refl
replies_to-append c s (x ∷ xs) ys =
    ap (λ (rs : List Said). with_said (said_in (turn c s x)) rs) (replies_to-append c (turn c s x).next xs ys) ∙ with_said_append (said_in (turn c s x)) _ _

-- the second cuts are run from where the first ones end
pub session_after-append : (c : Setting) (s : Session) (xs ys : List Cut) → session_after c s (xs ++ ys) ≡ session_after c (session_after c s xs) ys
unfolding session_after
session_after-append c s [] ys = refl
session_after-append c s (x ∷ xs) ys = session_after-append c (turn c s x).next xs ys
