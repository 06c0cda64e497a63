-- How the tokens that a text begins with lead from position to position.
use Rattle.std.specs.Prelude.{ℕ, ◌<◌, ◌+◌, ◌≡◌, ◌==◌, List, ◌∷◌, ◌++◌, true, false, length, refl, Result, Ok}
use Rattle.std.proofs.Common.{ap, sym, ◌∙◌, subst, ◌⊎◌, inl, inr}
use Rattle.json.specs.Print.{quoted}
use Rattle.cp_path.specs.Spelling.{is_trigger, has_trigger}
use Rattle.cp_spelling.specs.Laws.{IsTokenShape as Spelling}
use Rattle.cp_path.specs.declared.fault.PathFault.{PathFault}
use Rattle.cp_lang.specs.Spaces.{is_space}
use Rattle.cp_lang.specs.Lexer.{Shape, word, quotes, mark, tokens_at}
use Rattle.cp_lang.proofs.LexerLaws.{token, stops_word, tokens_space, tokens_word, tokens_mark, tokens_quoted}
use Rattle.cp_lang.specs.Grammar.{Spot, Move, goes, takes, reads, refused_or, by_reading}

-- the tokens of bytes lead from a position to another one, where these bytes are left
pub record Reaches (s : Spot) (bs : List ℕ) (t : Spot) (rest : List ℕ) : Type 0 where
  pub leads : (n at : ℕ) → (to : ℕ) × (reads n s (tokens_at at bs) ≡ reads n t (tokens_at to rest))

-- one after the other
pub on : {s t u : Spot} {bs cs ds : List ℕ} → Reaches s bs t cs → Reaches t cs u ds → Reaches s bs u ds
on h k = record { leads = λ n at. let a = h.leads n at in let b = k.leads n a.0 in (b.0, a.1 ∙ b.1) }

-- the same bytes
pub from_same : {s t : Spot} {bs cs rest : List ℕ} → bs ≡ cs → Reaches s cs t rest → Reaches s bs t rest
from_same {s} {t} {bs} {cs} {rest} e h = subst (λ xs. Reaches s xs t rest) (sym e) h

-- the same position
pub to_same : {s t u : Spot} {bs rest : List ℕ} → Reaches s bs t rest → t ≡ u → Reaches s bs u rest
to_same {s} {t} {u} {bs} {rest} h e = subst (λ v. Reaches s bs v rest) e h

step : (n at to : ℕ) (s t : Spot) (x : Shape) (bs rest : List ℕ) → tokens_at at bs ≡ token at x ∷ tokens_at to rest → takes s x ≡ goes t →
    reads n s (tokens_at at bs) ≡ reads n t (tokens_at to rest)
unfolding reads
step n at to s t x bs rest e g = ap (reads n s) e ∙ ap (λ r. refused_or r at (λ next. reads n next (tokens_at to rest))) g

-- a space changes nothing
pub space_on : (s : Spot) (bs : List ℕ) → Reaches s (32 ∷ bs) s bs
space_on s bs = record { leads = λ n at. (at + 1, ap (reads n s) (tokens_space at 32 bs refl)) }

-- a mark
pub mark_on : (x : ℕ) (s t : Spot) (bs : List ℕ) → is_space x ≡ false → is_trigger x ≡ true → (x == 34) ≡ false → takes s (mark x) ≡ goes t → Reaches s (x ∷ bs) t bs
mark_on x s t bs a b c g = record { leads = λ n at. (at + 1, step n at (at + 1) s t (mark x) (x ∷ bs) bs (tokens_mark at x bs a b c) g) }

-- a word that nothing follows, or a trigger
pub word_on : (w : List ℕ) (s t : Spot) (rest : List ℕ) → 0 < length w → has_trigger w ≡ false → stops_word rest ≡ true → takes s (word w) ≡ goes t → Reaches s (w ++ rest) t rest
word_on w s t rest l h e g =
    record { leads = λ n at. (at + length w, step n at (at + length w) s t (word w) (w ++ rest) rest (tokens_word at w rest l h e) g) }

-- a text in quotation marks
pub quoted_on : (t : List ℕ) (s u : Spot) (rest : List ℕ) → takes s (quotes (quoted t)) ≡ goes u → Reaches s (quoted t ++ rest) u rest
quoted_on t s u rest g =
    record { leads = λ n at. (at + length (quoted t), step n at (at + length (quoted t)) s u (quotes (quoted t)) (quoted t ++ rest) rest (tokens_quoted at t rest) g) }

-- a spelling that is read
pub read_on : {X : Type 0} (read : List ℕ → Result X PathFault) (next : X → Move) (w : List ℕ) (x : X) (s t : Spot) (rest : List ℕ) →
    Spelling w → stops_word rest ≡ true →
    ((u : List ℕ) → takes s (word u) ≡ by_reading (read u) next) → ((u : List ℕ) → takes s (quotes u) ≡ by_reading (read u) next) →
    read w ≡ Ok x → next x ≡ goes t → Reaches s (w ++ rest) t rest
read_on read next w x s t rest h e bare inside r g = by h.1
  where
    by : (has_trigger w ≡ false) ⊎ ((v : List ℕ) × (w ≡ quoted v)) → Reaches s (w ++ rest) t rest
    by (inl n) = word_on w s t rest h.0 n e (bare w ∙ ap (λ o. by_reading o next) r ∙ g)
    by (inr v) =
        from_same (ap (λ u. u ++ rest) v.1) (quoted_on v.0 s t rest (ap (λ u. takes s (quotes u)) (sym v.1) ∙ inside w ∙ ap (λ o. by_reading o next) r ∙ g))
