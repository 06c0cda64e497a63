use Rattle.std.proofs.Common.{rules, ◌≡◌, ◌∙◌, ap, List, [], ◌∷◌, ◌++◌, ℕ}
use Rattle.std.proofs.Math.ListN.{replicate}
use Rattle.cp_journal.specs.Frames.{Frame, after_gate, entry}
use Rattle.cp_journal.specs.NewStores.{new_file}
use Rattle.cp_journal.proofs.new_store.file_bytes.Goals as goal

joined : (f : Frame) (a b c d e x : List ℕ) → a ≡ [] → b ≡ a ++ (1 ∷ 67 ∷ 80 ∷ 68 ∷ 66 ∷ 1 ∷ 1 ∷ []) → c ≡ b ++ replicate 185 0 → d ≡ c ++ (1 ∷ []) → x ≡ after_gate f → e ≡ d ++ x → e ≡ new_file f
joined f a b c d e x e1 e2 e3 e4 ex e5 =
    let front : d ≡ (1 ∷ 67 ∷ 80 ∷ 68 ∷ 66 ∷ 1 ∷ 1 ∷ []) ++ replicate 185 0 ++ (1 ∷ []) =
    e4 ∙ ap (λ (l : List ℕ). l ++ (1 ∷ [])) (e3 ∙ ap (λ (l : List ℕ). l ++ replicate 185 0) (e2 ∙ ap (λ (l : List ℕ). l ++ (1 ∷ 67 ∷ 80 ∷ 68 ∷ 66 ∷ 1 ∷ 1 ∷ [])) e1)) in
    e5 ∙ ap (λ (l : List ℕ). l ++ x) front ∙ ap (λ (l : List ℕ). ((1 ∷ 67 ∷ 80 ∷ 68 ∷ 66 ∷ 1 ∷ 1 ∷ []) ++ replicate 185 0 ++ (1 ∷ [])) ++ l) ex

pub returns : goal.returns
returns c =
    let x : c.deref.result.now ≡ after_gate (entry c.args.body.now) = search rules in
    joined (entry c.args.body.now) _ _ _ _ _ _ c.new-bytes.ensures.items c.in_ok-extend_from_slice.ensures.items c.in_ok-extend_from_slice-2.ensures.items c.in_ok-push.ensures.items x c.in_ok-extend_from_slice-3.ensures.items
