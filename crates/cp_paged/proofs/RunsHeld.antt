-- Rows that runs on a disk have, before and after a look-up.
use Rattle.std.proofs.Common.{ℕ, ◌≡◌, ◌==◌, inl, inr, true, false, sym, ap, subst, ◌∙◌, refl, IsTrue, List, [], ◌∷◌, Contains}
use Rattle.std.specs.List.{AllByRecursion}
use Rattle.cp_disk.specs.Views.{KnownDisk, Rests}
use Rattle.cp_page.specs.declared.row.PageRow.{PageRow}
use Rattle.cp_run.specs.Bad.{IsBadAmong}
use Rattle.cp_run.specs.Holding.{IsRunOfRows}
use Rattle.cp_run.specs.Pages.{ArePagesOf, KeepsPages}
use Rattle.cp_run.specs.Sets.{RunSet, AreRunsOfRows, of_order, runs_rows}
use Rattle.cp_run.specs.declared.run.Run.{Run}
use Rattle.cp_run.proofs.BadPages.{none_is_bad}
use Rattle.cp_store.proofs.RowsTold.{case_of}
use Rattle.cp_paged.specs.Stored.{HasRowsOf}
use Rattle.cp_paged.proofs.Among.{among, of_all}

module _ (content : List ℕ) where
  -- so are those of an order
  pub of_rows : (o : ℕ) (runs : List Run) → AreRunsOfRows content runs → AreRunsOfRows content (of_order o runs)
  of_rows o [] are = tt
  of_rows o (r ∷ runs) are = elim (case_of (r.order == o)) [
    | inl same ↦ rw same (are.0, of_rows o runs are.1)
    | inr other ↦ rw other (of_rows o runs are.1)
  ]

  pub none_bad : (o : ℕ) (runs : List Run) (n : ℕ) → AreRunsOfRows content runs → IsBadAmong content (of_order o runs) n → ⊥
  none_bad o runs n are bad =
      none_is_bad content bad.run n (of_all (IsRunOfRows content) (of_order o runs) (of_rows o runs are) bad.run (among bad.run (of_order o runs) bad.among)) bad.page

-- the rows stay
pub held_on : (d e : KnownDisk) (s t : RunSet) (stored : ℕ → List PageRow) → e.known ≡ d.known → t.runs ≡ s.runs → KeepsPages d e s.pages t.pages → Rests d e → HasRowsOf d s stored → HasRowsOf e t stored
held_on d e s t stored same runs keeps rests has =
    let content : e.view.content ≡ d.view.content = (rests has.known).content in
    record {
      known = subst IsTrue (sym same) has.known;
      pages = keeps has.known has.pages;
      runs = subst (λ c. AreRunsOfRows c t.runs) (sym content) (subst (AreRunsOfRows d.view.content) (sym runs) has.runs);
      rows = λ o. has.rows o ∙ ap (λ l. runs_rows d.view.content (of_order o l)) (sym runs) ∙ ap (λ c. runs_rows c (of_order o t.runs)) (sym content);
    }

-- where there are no runs there are no rows
pub none_held : (d : KnownDisk) (s : RunSet) (stored : ℕ → List PageRow) → s.runs ≡ [] → HasRowsOf d s stored → (o : ℕ) → stored o ≡ []
none_held d s stored none has o = has.rows o ∙ ap (λ l. runs_rows d.view.content (of_order o l)) none
