-- What a cutter has cut and keeps behind bytes one after another.
use Rattle.std.proofs.Common.{◌≡◌, ℕ, ◌+◌, ◌<◌, List, [], ◌∷◌, ◌++◌, length, refl, ap, sym, ◌∙◌, append_assoc, append-nil, take, get_or, add-one}
use Rattle.std.proofs.Math.Seq.{take-suc}
use Rattle.cp_lang.specs.declared.cut.Cut.{Cut}
use Rattle.cp_lang.specs.Cuts.{Scan, scan_byte, scan_bytes}
use Rattle.cp_lang.proofs.Pieces.{scan-append, cuts-append}
use Rattle.cp_lang.specs.CutterState.{CutterState, held_of, byte_cuts, byte_held, Begins}
use Rattle.cp_lang.proofs.Bytewise.{byte_held-is, byte_cuts-is}

-- what the bytes `xs` bring, from what was kept and the cuts before them to what is kept and the cuts behind them
abbrev pub IsFed : CutterState → List Cut → List ℕ → CutterState → List Cut → Type 0
IsFed first before xs last behind =
    (s : Scan) → first ≡ held_of s → (behind ≡ before ++ (scan_bytes s xs).cuts) × (last ≡ held_of (scan_bytes s xs).scan)

pub fed_none : (h : CutterState) (cuts : List Cut) → IsFed h cuts [] h cuts
unfolding scan_bytes
fed_none h cuts s e = (sym (append-nil _), e)

scan_one : (t : Scan) (b : ℕ) → (scan_bytes t (b ∷ [])).scan ≡ (scan_byte t b).scan
unfolding scan_bytes
scan_one t b = refl

cuts_one : (t : Scan) (b : ℕ) → (scan_bytes t (b ∷ [])).cuts ≡ (scan_byte t b).cuts
unfolding scan_bytes
cuts_one t b = append-nil _

pub fed_more : (first : CutterState) (before : List Cut) (xs : List ℕ) (b : ℕ) (h k : CutterState) (cuts more : List Cut) → IsFed first before xs h cuts
    → more ≡ cuts ++ byte_cuts h b → k ≡ byte_held h b → IsFed first before (xs ++ b ∷ []) k more
fed_more first before xs b h k cuts more fed e f s start = (brought, stands)
  where
    t : Scan
    t = (scan_bytes s xs).scan

    here : h ≡ held_of t
    here = (fed s start).1

    stands : k ≡ held_of (scan_bytes s (xs ++ b ∷ [])).scan
    stands = f ∙ ap (λ (x : CutterState). byte_held x b) here ∙ byte_held-is t b ∙ ap held_of (sym (scan-append s xs (b ∷ []) ∙ scan_one t b))

    brought : more ≡ before ++ (scan_bytes s (xs ++ b ∷ [])).cuts
    brought =
        e ∙ ap (λ (x : List Cut). x ++ byte_cuts h b) (fed s start).0 ∙ append_assoc before _ _
        ∙ ap (λ (x : List Cut). before ++ ((scan_bytes s xs).cuts ++ x)) (ap (λ (x : CutterState). byte_cuts x b) here ∙ byte_cuts-is t b ∙ sym (cuts_one t b))
        ∙ ap (λ (x : List Cut). before ++ x) (sym (cuts-append s xs (b ∷ [])))

pub begins_same : (xs : List Cut) → Begins xs xs
begins_same xs = ([], sym (append-nil xs))

pub begins_more : (xs ys zs : List Cut) → Begins xs ys → Begins ys zs → Begins xs zs
begins_more xs ys zs p q = (p.0 ++ q.0, q.1 ∙ ap (λ (x : List Cut). x ++ q.0) p.1 ∙ append_assoc xs p.0 q.0)

pub fed_step : (first : CutterState) (before : List Cut) (piece : List ℕ) (i : ℕ) (h k : CutterState) (cuts more : List Cut) → i < length piece → IsFed first before (take i piece) h cuts
    → more ≡ cuts ++ byte_cuts h (get_or piece i 0) → k ≡ byte_held h (get_or piece i 0) → IsFed first before (take (i + 1) piece) k more
fed_step first before piece i h k cuts more below fed e f =
    rw (add-one, take-suc piece i 0 below) (fed_more first before (take i piece) (get_or piece i 0) h k cuts more fed e f)
